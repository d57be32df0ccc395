use Rattle.std.proofs.Common.{◌≡◌, ◌∙◌, ◌+◌, ◌*◌, ℕ, List, ap, count_by, map, filter}
use Rattle.cs_model.specs.declared.report.GroupLine.{GroupLine}
use Rattle.group_log.specs.Reorganizing.{closed_ids, most_turns}
use Rattle.statement_core.specs.Course.{Course}
use Rattle.statement_core.specs.Lines.{is_closed, is_in_use}
use Rattle.statement_core.proofs.Lines.{closed_lines, in_use_lines}
use Rattle.statement_core.proofs.reorganizing.Reorganizing.new.Goals as goal

pub returns : goal.returns
returns c = λ book of.
    let lines = c.as_slice-lines.ensures ∙ of in
    let turns : c.turns_for.result ≡ most_turns book =
    c.turns_for.ensures ∙ ap (λ (list : List GroupLine). 3 * count_by (λ (line : GroupLine). is_in_use line.state) list + 1) lines ∙ ap (λ n. 3 * n + 1) (in_use_lines book.groups) in
    let marked : c.in_ok-marked.marked.items ≡ closed_ids book =
    c.in_ok-marked.ensures ∙ ap (λ (list : List GroupLine). map (λ (line : GroupLine). line.id) (filter (λ (line : GroupLine). is_closed line.state) list)) lines ∙ closed_lines book.groups in
    let course : ℕ → List ℕ → Course = λ n ids. record { all = c.args.all; turns = n; marked = ids } in
    ap (λ n. course n c.in_ok-marked.marked.items) turns ∙ ap (course (most_turns book)) marked
