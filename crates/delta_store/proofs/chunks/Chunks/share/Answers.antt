use Rattle.std.proofs.Common.{◌≡◌, ◌++◌, length, take, drop, sym, ap, ◌∙◌, rules}
use Rattle.std.proofs.Math.Seq.{take-append_seam}
use Rattle.delta_store.proofs.ChunkLemmas.{none_owned}
use Rattle.delta_store.proofs.chunks.Chunks.share.Goals as goal

pub returns-clause-none_own : goal.returns-clause-none_own
returns-clause-none_own c =
    let rest = drop (length c.share_each.new.chunks) c.self.inside.chunks.items in
    let long : length c.share_each.new.chunks ≡ c.self.inside.chunks.len = search rules in
    let same = ap (λ n. take n (c.share_each.new.chunks ++ rest)) (sym long) ∙ take-append_seam c.share_each.new.chunks rest in
    rw same (none_owned c.share_each.new.chunks c.in_ok-chunks.ensures.none_own)
