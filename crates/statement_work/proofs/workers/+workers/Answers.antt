use Rattle.std.proofs.Common.{rules, ◌+◌, ◌-◌, ◌/◌, take, drop, arith}
use Rattle.std.proofs.lemmas.Result.{IfOk-at_ok}
use denote.Param.Send.{IsSync, shr_send}
use Rattle.statement_work.specs.contracts.workers.parts.{T-row}
use Rattle.statement_work.specs.Parts.{IsPart}
use Rattle.statement_work.proofs.Crossing.{closure_of_four, one_of, found_send, scan_sync, u32_send, usize_send}
use Rattle.statement_work.proofs.Ranges.{joined_part}
use Rattle.statement_work.proofs.workers.+workers.Goals as goal

pub join-before-requires-send-F : goal.join-before-requires-send-F
join-before-requires-send-F g t c κs within =
    let t : IsSync (T-row g.row.R g.row.T) = search rules in
    closure_of_four 1 _ _ _ _ _ _ (shr_send _ _ _ (scan_sync _ _ t)) u32_send usize_send usize_send

pub join-before-requires-send-A : goal.join-before-requires-send-A
join-before-requires-send-A g t c κs within = one_of 3 _ _ (found_send _)

-- what comes back
pub returns : goal.returns
returns g t c =
    let schema = c.args.scan.now.schema.now in
    let query = c.args.scan.now.query.now in
    let pinned = c.args.scan.now.pinned.now in
    let groups = pinned.view.groups in
    let from = c.args.from in
    let cut = from + (c.len-end.result - from) / c.args.workers in
    let before = IfOk-at_ok (IsPart schema query pinned (take (cut - from) (drop from groups))) c.in_ok-partial.was c.join-before.ensures.first in
    let behind = IfOk-at_ok (IsPart schema query pinned (drop cut groups)) c.in_ok-behind.was c.join-before.ensures.second in
    joined_part schema query pinned from cut c.in_ok-partial.partial c.in_ok-behind.field-0 c.merge.new.self (omega arith) before behind c.in_ok-merge.ensures.schema c.in_ok-merge.ensures.query
    (λ rows more same_schema same_query stands follows. rw c.in_ok-merge.was at (c.merge.ensures.merged rows more same_schema same_query stands follows))
