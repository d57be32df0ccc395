use Rattle.std.proofs.Common.{◌≡◌, ◌++◌, set, sym, ap, ◌∙◌, map, true, false, refl}
use Rattle.std.proofs.Math.Seq.{map-set_same}
use Rattle.std.proofs.lemmas.Option.{get_or_from_slice_get}
use Rattle.delta_store.specs.declared.version.LinkedVersion.{LinkedVersion}
use Rattle.delta_store.specs.Chunks.{shared_in, linked_ended}
use Rattle.delta_store.proofs.OneChunk.{get-own, set-own}
use Rattle.delta_store.proofs.chunk.Chunk.end.Goals as goal

pub returns-clause-versions : goal.returns-clause-versions
returns-clause-versions c v is =
    let own = c.args.self.now.own.items in
    let here = get-own c.args.self.now c.args.at c.in-Err.past c.in-Err.ensures in
    let same : c.index_mut.result.now ≡ v = c.index_mut.ensures.value ∙ get_or_from_slice_get own c.in-Err.past v c.index_mut.result.now (sym here ∙ is) in
    ap (λ (x : LinkedVersion). shared_in c.args.self.now.pieces ++ set own c.in-Err.past x) (c.end.ensures ∙ ap (linked_ended c.args.end) same)
    ∙ set-own (shared_in c.args.self.now.pieces) own c.args.at c.in-Err.past (linked_ended c.args.end v) c.in-Err.ensures

pub returns-clause-own : goal.returns-clause-own
returns-clause-own c =
    ap (λ ys. map (λ (v : LinkedVersion). false) (shared_in c.args.self.now.pieces) ++ ys) (map-set_same (λ (v : LinkedVersion). true) c.args.self.now.own.items c.in-Err.past c.end.new.self c.end.new.self refl)
