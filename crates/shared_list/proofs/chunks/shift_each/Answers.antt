use Rattle.std.proofs.Common.{set, sym, ap, ◌∙◌}
use Rattle.std.proofs.lemmas.List.Edits.{map_over_more}
use Rattle.shared_list.specs.Chunks.{later}
use Rattle.shared_list.specs.Placed.{Placed}
use Rattle.shared_list.proofs.chunks.shift_each.Goals as goal

pub loop-chunk-preserved : goal.loop-chunk-preserved
loop-chunk-preserved g c =
    ap (λ (chunk : Placed g.row.T.Denot). set c.loop-chunk.chunks c.loop-chunk.chunk-index chunk) c.shift.ensures
    ∙ ap (λ (chunk : Placed g.row.T.Denot). set c.loop-chunk.chunks c.loop-chunk.chunk-index (later chunk)) (sym c.chunk-item.is)
    ∙ map_over_more later c.args.chunks.now c.loop-chunk.chunks c.loop-chunk.chunk-index c.chunk-item.result c.loop-chunk-test.true c.loop-chunk.invariant c.chunk-item.is
