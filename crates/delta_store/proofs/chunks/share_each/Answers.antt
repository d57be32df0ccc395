use Rattle.std.proofs.Common.{◌≡◌, All, false, get_or, ◌∙◌, arith, rules}
use Rattle.std.proofs.lemmas.List.{take_more_set}
use Rattle.std.proofs.lemmas.List.Elements.{All-push}
use Rattle.delta_store.specs.Chunks.{versions_in, owns_in}
use Rattle.delta_store.proofs.ChunkLemmas.{set_shared, take_shared}
use Rattle.delta_store.proofs.chunks.share_each.Goals as goal

pub returns-in_err-share-clause-versions : goal.returns-in_err-share-clause-versions
returns-in_err-share-clause-versions c =
    set_shared c.loop-chunk.chunks c.loop-chunk.chunk-index c.chunk-item.result c.share.new.self c.share.ensures.versions ∙ c.loop-chunk.invariant.versions

pub returns-in_err-push-clause-versions : goal.returns-in_err-push-clause-versions
returns-in_err-push-clause-versions c =
    set_shared c.loop-chunk.chunks c.loop-chunk.chunk-index c.chunk-item.result c.share.new.self c.share.ensures.versions ∙ c.loop-chunk.invariant.versions

pub loop-chunk-preserved : goal.loop-chunk-preserved
loop-chunk-preserved c =
    let inside = rw (← c.loop-chunk.auto.chunks) at c.loop-chunk-test.true in
    let one : versions_in c.in_ok-share.field-0 ≡ versions_in (get_or c.loop-chunk.chunks c.loop-chunk.chunk-index c.chunk-item.result) = search rules in
    record {
      versions = set_shared c.loop-chunk.chunks c.loop-chunk.chunk-index c.chunk-item.result c.share.new.self c.share.ensures.versions ∙ c.loop-chunk.invariant.versions;
      shared = rw c.in_ok-push.ensures.items (take_shared c.args.chunks.now c.loop-chunk.chunks c.loop-chunk.shared.items c.loop-chunk.chunk-index c.chunk-item.result c.in_ok-share.field-0 (omega (arith, inside)) c.loop-chunk.invariant.versions one c.loop-chunk.invariant.shared);
      none_own = rw (take_more_set c.loop-chunk.chunks c.loop-chunk.chunk-index c.share.new.self (omega (arith, inside))) (All-push (λ chunk. All (λ own. own ≡ false) (owns_in chunk)) _ c.share.new.self c.loop-chunk.invariant.none_own c.in_ok-share.ensures.none_own);
    }
