use Rattle.std.proofs.Common.{◌≡◌, ◌+◌, ◌∙◌, ◌++◌, ◌∷◌, [], ℕ, List, ap, sym, arith}
use Rattle.std.specs.Option.{option_copied}
use Rattle.group_view.specs.declared.parts.GroupPart.{GroupPart}
use Rattle.group_view.proofs.ShareLemmas.{window_more}
use Rattle.batch_scan.specs.Scans.{counts_of, groups_between}
use Rattle.batch_scan.proofs.Counting.{few, read_more, skip_more}
use Rattle.batch_scan.proofs.counts.segment_counts.Goals as goal

pub loop-place-preserved : goal.loop-place-preserved
loop-place-preserved c =
    let schema = c.args.schema.now in
    let condition = option_copied c.args.pred in
    let view = c.args.view.now in
    let n = c.loop-place.place in
    let group = c.at.result.now in
    let kept = c.loop-place.invariant in
    let more = c.part_counts-more.ensures in
    let before = groups_between view c.args.from n in
    let next : groups_between view c.args.from (n + 1) ≡ before ++ group ∷ [] =
    window_more view.groups c.args.from n group (omega (arith, c.loop-place.auto.place)) (omega (arith, c.loop-place-test.true, c.requires.within))
    ∙ ap (λ (g : ℕ × GroupPart). before ++ g ∷ []) (sym c.at.ensures.item) in
    let counts = counts_of schema condition before in
    let one = few schema condition group.1 in
    record {
      read_so_far = ap (λ n. n + c.part_counts-more.result.0) kept.read_so_far ∙ ap (λ (m : ℕ × ℕ). counts.0 + m.0) more ∙ sym (read_more schema condition before group) ∙ ap (λ (l : List (ℕ × GroupPart)). (counts_of schema condition l).0) (sym next);
      skipped_so_far = ap (λ n. n + c.part_counts-more.result.1) kept.skipped_so_far ∙ ap (λ (m : ℕ × ℕ). counts.1 + m.1) more ∙ sym (skip_more schema condition before group) ∙ ap (λ (l : List (ℕ × GroupPart)). (counts_of schema condition l).1) (sym next);
      few = omega (arith, kept.few, one, ap (λ (m : ℕ × ℕ). m.0) more, ap (λ (m : ℕ × ℕ). m.1) more);
    }
