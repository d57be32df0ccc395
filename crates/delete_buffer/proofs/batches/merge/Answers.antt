use Rattle.std.proofs.Common.{◌≡◌, ◌-◌, ◌<◌, ◌++◌, ℕ, length, take, subst, arith}
use Rattle.delete_buffer.specs.Added.{entries_of}
use Rattle.delete_buffer.specs.Entries.{Entry}
use Rattle.delete_buffer.proofs.TwoParts.{IsLess, is_new, merged_is}
use Rattle.delete_buffer.proofs.Merges.{merges_start, merges_old, merges_new}
use Rattle.merge_laws.proofs.Merging.{IsMerging, IsMerging-end}
use Rattle.delete_buffer.proofs.batches.merge.Goals as goal

pub loop-new-init : goal.loop-new-init
loop-new-init c =
    rw c.len-new.ensures (merges_start c.args.entries.now (entries_of c.args.added) c.args.count c.requires.sized c.requires.parts)

pub loop-new-preserved-then-is_last_past : goal.loop-new-preserved-then-is_last_past
loop-new-preserved-then-is_last_past c =
    let entry : Entry = c.at-entry.result in
    let past = c.if-is_last_past.ensures.past in
    merges_old _ _ (entries_of c.args.added) c.loop-new.entries c.loop-new.old c.loop-new.new c.loop-new.invariant entry (c.at-entry.ensures entry) c.loop-new-test.true _ past.0 past.1

pub loop-new-preserved : goal.loop-new-preserved
loop-new-preserved c =
    let entry : Entry = c.at-entry.result in
    let short : c.loop-new.new - 1 < length (entries_of c.args.added) = omega (arith, c.loop-new-test.true, c.loop-new.invariant.news_left) in
    merges_new _ _ (entries_of c.args.added) c.loop-new.entries c.loop-new.old c.loop-new.new c.loop-new.invariant entry (c.at-entry.ensures entry) c.loop-new-test.true
    (is_new (take c.args.count c.args.entries.now) (entries_of c.args.added) c.requires.parts (c.loop-new.new - 1) entry short (c.at-entry.ensures entry)) c.if-is_last_past.ensures.other

pub returns : goal.returns
returns c =
    let none : c.loop-new.new ≡ 0 = omega arith in
    let before = take c.args.count c.args.entries.now in
    let added = entries_of c.args.added in
    let ended = IsMerging-end IsLess _ _ _ c.loop-new.entries c.loop-new.old
    (subst (λ (n : ℕ). IsMerging IsLess (added ++ before) before added c.loop-new.entries c.loop-new.old n) none c.loop-new.invariant) in
    merged_is before added c.loop-new.entries c.requires.parts ended.1 ended.0
