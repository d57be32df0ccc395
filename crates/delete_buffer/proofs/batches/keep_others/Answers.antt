use Rattle.std.proofs.Common.{◌≡◌, ◌<◌, [], ◌∷◌, ◌++◌, List, sym, ap, ◌∙◌, arith, length, get_or, take}
use Rattle.std.specs.declared.cmp.Ordering.TheVariants.{Less, Equal, Greater}
use Rattle.std.specs.List.{slice_get}
use Rattle.std.proofs.lemmas.List.{get_or-set_other, length-set, take_more_set}
use Rattle.delete_buffer.specs.Entries.{Entry, order_of, without}
use Rattle.delete_buffer.proofs.Merges.{no_entry, passed_more, taken_here, kept_here, without_taken, without_kept}
use Rattle.delete_buffer.proofs.batches.keep_others.Goals as goal

pub loop-place-preserved-in-Less : goal.loop-place-preserved-in-Less
loop-place-preserved-in-Less c =
    let kept = c.loop-place.invariant in
    let there : c.loop-place.place < length c.args.entries.now = omega arith in
    let same : get_or c.loop-place.entries c.loop-place.place no_entry ≡ get_or c.args.entries.now c.loop-place.place no_entry = kept.rest c.loop-place.place no_entry (omega arith) in
    let is : order_of (get_or c.args.entries.now c.loop-place.place no_entry) (slice_get c.args.taken.now c.loop-place.next) ≡ Less =
    ap (λ (x : Entry). order_of x (slice_get c.args.taken.now c.loop-place.next)) (sym same) ∙ sym c.in-Less.ensures in
    let more = passed_more c.args.taken.now c.args.entries.now c.loop-place.next c.loop-place.place c.requires.order c.requires.taken no_entry there kept.passed is in
    record { reached = kept.reached; within = kept.within; taken_left = more.0; rest = kept.rest; kept = kept.kept; passed = more.1 }

pub loop-place-preserved-in-Equal : goal.loop-place-preserved-in-Equal
loop-place-preserved-in-Equal c =
    let kept = c.loop-place.invariant in
    let there : c.loop-place.place < length c.args.entries.now = omega arith in
    let same : get_or c.loop-place.entries c.loop-place.place no_entry ≡ get_or c.args.entries.now c.loop-place.place no_entry = kept.rest c.loop-place.place no_entry (omega arith) in
    let is : order_of (get_or c.args.entries.now c.loop-place.place no_entry) (slice_get c.args.taken.now c.loop-place.next) ≡ Equal =
    ap (λ (x : Entry). order_of x (slice_get c.args.taken.now c.loop-place.next)) (sym same) ∙ sym c.in-Equal.ensures in
    let taken = taken_here c.args.taken.now c.args.entries.now c.loop-place.next c.loop-place.place c.requires.order c.requires.taken no_entry there kept.passed is in
    record {
      reached = omega arith;
      within = omega arith;
      taken_left = kept.taken_left;
      rest = λ k d from. kept.rest k d (omega arith);
      kept = kept.kept ∙ sym (without_taken c.args.taken.now c.args.entries.now c.loop-place.place no_entry there taken);
      passed = λ k q d e below from inside. kept.passed k q d e below (omega arith) inside;
    }

pub loop-place-preserved : goal.loop-place-preserved
loop-place-preserved c =
    let kept = c.loop-place.invariant in
    let there : c.loop-place.place < length c.args.entries.now = omega arith in
    let entry : Entry = get_or c.loop-place.entries c.loop-place.place no_entry in
    let same : entry ≡ get_or c.args.entries.now c.loop-place.place no_entry = kept.rest c.loop-place.place no_entry (omega arith) in
    let is : order_of (get_or c.args.entries.now c.loop-place.place no_entry) (slice_get c.args.taken.now c.loop-place.next) ≡ Greater =
    ap (λ (x : Entry). order_of x (slice_get c.args.taken.now c.loop-place.next)) (sym same) ∙ sym c.in-Greater.ensures in
    let left = kept_here c.args.taken.now c.args.entries.now c.loop-place.next c.loop-place.place c.requires.order c.requires.taken no_entry there kept.passed is in
    record {
      reached = omega arith;
      within = omega (arith, length-set c.loop-place.entries c.loop-place.kept entry);
      taken_left = kept.taken_left;
      rest = λ k d from. get_or-set_other c.loop-place.entries c.loop-place.kept k entry d (λ e. absurd (omega arith)) ∙ kept.rest k d (omega arith);
      kept =
          take_more_set c.loop-place.entries c.loop-place.kept entry (omega arith)
          ∙ ap (λ (xs : List Entry). xs ++ entry ∷ []) kept.kept
          ∙ ap (λ (x : Entry). without c.args.taken.now (take c.loop-place.place c.args.entries.now) ++ x ∷ []) same
          ∙ sym (without_kept c.args.taken.now c.args.entries.now c.loop-place.place no_entry there left);
      passed = λ k q d e below from inside. kept.passed k q d e below (omega arith) inside;
    }
