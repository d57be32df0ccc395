use Rattle.std.proofs.Common.{◌∙◌, ℕ, ◌+◌, ◌*◌, List, map, subst, sym, arith, take}
use Rattle.group_view.specs.declared.parts.GroupPart.{GroupPart}
use Rattle.group_view.specs.Seen.{Seen, seen}
use Rattle.group_view.specs.Shares.{chunk_in, parts_of, IsShareOf}
use Rattle.group_view.proofs.ShareLemmas.{share_chunk}
use Rattle.group_view.proofs.held.share_all.Goals as goal

pub loop-chunk-preserved : goal.loop-chunk-preserved
loop-chunk-preserved c =
    let all = map seen c.args.groups.now in
    let chunk = c.loop-chunk.chunk in
    let held = c.loop-chunk.invariant in
    let made = c.in_ok-share_of.ensures in
    let here = subst (λ (l : List Seen). IsShareOf (chunk_in chunk l) (parts_of c.in_ok-share_of.field-0)) held.alike made.share in
    record {
      alike = made.seen ∙ held.alike;
      kept = made.kept;
      shared = made.shared;
      len = let len = made.len in omega (arith, len);
      shown = subst (λ (l : List (ℕ × GroupPart)). IsShareOf (take (128 * (chunk + 1)) all) l) (sym c.in_ok-append.ensures.ok) (share_chunk all chunk c.loop-chunk.shown (parts_of c.in_ok-share_of.field-0) held.shown here);
    }
