use Rattle.std.proofs.Common.{◌≡◌, ◌<◌, ◌+◌, ◌++◌, ℕ, List, Bool, length, get_or, subst, sym, ap, ◌∙◌, arith, All}
use Rattle.std.specs.List.Sorted.{IsPermutation}
use Rattle.std.proofs.lemmas.List.Elements.{All-map}
use Rattle.std.proofs.lemmas.List.Sums.{count_by-le-length}
use Rattle.delete_bitmap.specs.Bits.{with_all}
use Rattle.delete_bitmap.specs.Kept.{Stamp, ends_of, positions_of, AreKept}
use Rattle.delete_bitmap.specs.Marks.{with_each}
use Rattle.delete_bitmap.proofs.EndLemmas.{IsFree, IsFree-unmarked}
use Rattle.delete_bitmap.proofs.EndBatches.{count-all, AreKept-all, ends_of-merged}
use Rattle.delete_bitmap.proofs.Marks.mark_each.Goals as goal

pub insert_all-requires : goal.insert_all-requires
insert_all-requires c =
    let unmarked = rw (← c.self.view_is) at c.requires.unmarked in
    let free : (k : ℕ) (d : Stamp) → k < length c.args.ends.now → IsFree c.self.inside.stamps.items c.self.inside.ended (get_or c.args.ends.now k d).0 =
    λ k d there. IsFree-unmarked c.self.inside.stamps.items c.self.inside.ended (get_or c.args.ends.now k d).0 c.self.invariant.in_order c.self.invariant.marked (unmarked k d there) in
    subst (λ (ps : List ℕ). All (λ p. p < length c.self.inside.ended) ps) (sym (c.deref.ensures.value ∙ c.in_ok-positions.ensures))
    (All-map (λ p. p < length c.self.inside.ended) (λ (s : Stamp). s.0) c.args.ends.now (λ k d there. (free k d there).within))

pub add_all-requires-clause-apart : goal.add_all-requires-clause-apart
add_all-requires-clause-apart c = λ k d there.
    let unmarked = rw (← c.self.view_is) at c.requires.unmarked in
    let free : (k : ℕ) (d : Stamp) → k < length c.args.ends.now → IsFree c.self.inside.stamps.items c.self.inside.ended (get_or c.args.ends.now k d).0 =
    λ k d there. IsFree-unmarked c.self.inside.stamps.items c.self.inside.ended (get_or c.args.ends.now k d).0 c.self.invariant.in_order c.self.invariant.marked (unmarked k d there) in
    rw c.in_ok-reserve.ensures.items (free k d there).none

-- the positions had no bit, so there are as many more that are set, and no more than bits
pub overflow_add-self : goal.overflow_add-self
overflow_add-self c =
    let unmarked = rw (← c.self.view_is) at c.requires.unmarked in
    let free : (k : ℕ) (d : Stamp) → k < length c.args.ends.now → IsFree c.self.inside.stamps.items c.self.inside.ended (get_or c.args.ends.now k d).0 =
    λ k d there. IsFree-unmarked c.self.inside.stamps.items c.self.inside.ended (get_or c.args.ends.now k d).0 c.self.invariant.in_order c.self.invariant.marked (unmarked k d there) in
    let moved : IsPermutation (c.args.ends.now ++ c.self.inside.stamps.items) c.add_all.new.stamps.items =
    subst (λ (xs : List Stamp). IsPermutation (c.args.ends.now ++ xs) c.add_all.new.stamps.items) c.in_ok-reserve.ensures.items c.add_all.ensures.stamps in
    let set : c.insert_all.new.self ≡ with_all (positions_of c.args.ends.now) c.self.inside.ended =
    c.in_ok-insert_all.ensures.ok ∙ ap (λ (ps : List ℕ). with_all ps c.self.inside.ended) (c.deref.ensures.value ∙ c.in_ok-positions.ensures) in
    let more = count-all c.args.ends.now c.self.inside.stamps.items c.add_all.new.stamps.items c.self.inside.ended c.self.inside.count c.requires.ascending free c.self.invariant moved c.add_all.ensures.order in
    let small = rw set at c.in_ok-insert_all.ensures.small in
    omega (arith, more, small, c.self.invariant.counted, count_by-le-length (λ (bit : Bool). bit) (with_all (positions_of c.args.ends.now) c.self.inside.ended))

pub invariant_of-self-2 : goal.invariant_of-self-2
invariant_of-self-2 c =
    let unmarked = rw (← c.self.view_is) at c.requires.unmarked in
    let free : (k : ℕ) (d : Stamp) → k < length c.args.ends.now → IsFree c.self.inside.stamps.items c.self.inside.ended (get_or c.args.ends.now k d).0 =
    λ k d there. IsFree-unmarked c.self.inside.stamps.items c.self.inside.ended (get_or c.args.ends.now k d).0 c.self.invariant.in_order c.self.invariant.marked (unmarked k d there) in
    let moved : IsPermutation (c.args.ends.now ++ c.self.inside.stamps.items) c.add_all.new.stamps.items =
    subst (λ (xs : List Stamp). IsPermutation (c.args.ends.now ++ xs) c.add_all.new.stamps.items) c.in_ok-reserve.ensures.items c.add_all.ensures.stamps in
    let set : c.insert_all.new.self ≡ with_all (positions_of c.args.ends.now) c.self.inside.ended =
    c.in_ok-insert_all.ensures.ok ∙ ap (λ (ps : List ℕ). with_all ps c.self.inside.ended) (c.deref.ensures.value ∙ c.in_ok-positions.ensures) in
    subst (λ (bits : List Bool). AreKept bits c.add_all.new.stamps.items (c.self.inside.count + length c.args.ends.now)) (sym set)
    (AreKept-all c.args.ends.now c.self.inside.stamps.items c.add_all.new.stamps.items c.self.inside.ended c.self.inside.count c.requires.ascending free c.self.invariant moved c.add_all.ensures.order)

pub returns-clause-ok : goal.returns-clause-ok
returns-clause-ok c =
    let unmarked = rw (← c.self.view_is) at c.requires.unmarked in
    let free : (k : ℕ) (d : Stamp) → k < length c.args.ends.now → IsFree c.self.inside.stamps.items c.self.inside.ended (get_or c.args.ends.now k d).0 =
    λ k d there. IsFree-unmarked c.self.inside.stamps.items c.self.inside.ended (get_or c.args.ends.now k d).0 c.self.invariant.in_order c.self.invariant.marked (unmarked k d there) in
    let moved : IsPermutation (c.args.ends.now ++ c.self.inside.stamps.items) c.add_all.new.stamps.items =
    subst (λ (xs : List Stamp). IsPermutation (c.args.ends.now ++ xs) c.add_all.new.stamps.items) c.in_ok-reserve.ensures.items c.add_all.ensures.stamps in
    let set : c.insert_all.new.self ≡ with_all (positions_of c.args.ends.now) c.self.inside.ended =
    c.in_ok-insert_all.ensures.ok ∙ ap (λ (ps : List ℕ). with_all ps c.self.inside.ended) (c.deref.ensures.value ∙ c.in_ok-positions.ensures) in
    ap (ends_of c.add_all.new.stamps.items) set
    ∙ ends_of-merged c.args.ends.now c.self.inside.stamps.items c.add_all.new.stamps.items c.self.inside.ended c.self.inside.count c.requires.ascending free c.self.invariant moved c.add_all.ensures.order
    ∙ ap (with_each c.args.ends.now) c.self.view_is
