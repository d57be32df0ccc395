use Rattle.std.proofs.Common.{◌≡◌, ◌-◌, ◌++◌, ℕ, take, subst, arith}
use Rattle.delete_bitmap.specs.Kept.{no_stamp}
use Rattle.delete_bitmap.proofs.StampMerges.{IsBefore, merges_start, merges_old, merges_new}
use Rattle.merge_laws.proofs.Merging.{IsMerging, IsMerging-end}
use Rattle.delete_bitmap.proofs.stamps.merge.Goals as goal

pub loop-new-init : goal.loop-new-init
loop-new-init c = merges_start c.args.stamps.now c.args.others.now c.args.count c.requires.sized c.requires.order c.requires.ascending

pub loop-new-preserved-then-is_last_past : goal.loop-new-preserved-then-is_last_past
loop-new-preserved-then-is_last_past c =
    let past = c.if-is_last_past.ensures.past in
    merges_old _ _ c.args.others.now c.loop-new.stamps c.loop-new.old c.loop-new.new c.loop-new.invariant past.0 c.loop-new-test.true past.1

pub loop-new-preserved : goal.loop-new-preserved
loop-new-preserved c =
    merges_new _ _ c.args.others.now c.loop-new.stamps c.loop-new.old c.loop-new.new c.loop-new.invariant c.loop-new-test.true
    (c.requires.apart (c.loop-new.new - 1) no_stamp (omega (arith, c.loop-new.invariant.news_left))) c.if-is_last_past.ensures.other

pub returns-clause-order : goal.returns-clause-order
returns-clause-order c =
    let none : c.loop-new.new ≡ 0 = omega arith in
    (IsMerging-end IsBefore _ _ _ c.loop-new.stamps c.loop-new.old
    (subst (λ (n : ℕ). IsMerging IsBefore (c.args.others.now ++ take c.args.count c.args.stamps.now) (take c.args.count c.args.stamps.now) c.args.others.now c.loop-new.stamps c.loop-new.old n) none c.loop-new.invariant)).1
