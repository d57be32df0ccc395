use Rattle.std.proofs.Common.{◌≡◌, ℕ, ◌+◌, ◌-◌, ◌*◌, ◌<◌, ◌≤◌, List, Bool, min, nat_lt, true, false, inl, inr, length, take, drop, sym, ap, ◌∙◌, arith}
use Rattle.std.specs.Prelude.{slice_index_or}
use Rattle.std.specs.List.{list_any}
use Rattle.std.specs.Option.{option_copied}
use Rattle.std.specs.Cow.{cow_slice_items}
use Rattle.std.proofs.lemmas.Bool.{OnFalse_from, cases_lt, ltb-false}
use Rattle.std.proofs.lemmas.List.{get_or_past}
use Rattle.batch_kernels.specs.Masks.{same_as}
use Rattle.batch_kernels.proofs.Blocks.{in-block}
use Rattle.batch_filter.proofs.CellLemmas.{none_wanted}
use Rattle.delete_bitmap.proofs.Counts.{none-counted}
use Rattle.code_tallies.specs.Shown.{is_shown}
use Rattle.code_tallies.specs.Tables.{chosen_by, is_chosen}
use Rattle.code_tallies.proofs.chosen.Chosen.has_rows.Goals as goal

pub returns-in-None : goal.returns-in-None
returns-in-None c =
    let chosen = c.args.self.now in
    let from : ℕ = 1024 * c.args.number in
    let shown : ℕ = c.shown_from.result in
    OnFalse_from (nat_lt 0 shown) ((i : ℕ) → i < min 1024 (chosen.length - from) → is_chosen chosen (from + i) ≡ false)
    (λ empty i below.
    let few : shown ≤ 0 = ltb-false 0 shown empty in
    let none : shown ≡ 0 = omega (arith, few) in
    ap (λ kept. chosen_by kept (option_copied chosen.shown) (from + i)) c.in-None.is
    ∙ none-counted (is_shown (option_copied chosen.shown)) from c.count-count.result (sym c.shown_from.ensures ∙ none) i (omega (arith, below, c.count-count.ensures)))

-- where no place of a part is chosen, none of those of the list is
none-chosen : (kept : List Bool) (from count i : ℕ) → i < count → list_any (same_as true) (take count (drop from kept)) ≡ false → slice_index_or kept (from + i) false ≡ false
none-chosen kept from count i below none =
    let part = take count (drop from kept) in
    sym (in-block kept from count i false below) ∙ elim (cases_lt i (length part)) [
      | inl there ↦ none_wanted true part none i there
      | inr past ↦ get_or_past part i false past
    ]

pub returns-in-Some : goal.returns-in-Some
returns-in-Some c =
    let chosen = c.args.self.now in
    let from : ℕ = 1024 * c.args.number in
    let kept : List Bool = cow_slice_items c.in-Some.kept in
    let count : ℕ = c.count-count.result in
    OnFalse_from c.has_any.result ((i : ℕ) → i < min 1024 (chosen.length - from) → is_chosen chosen (from + i) ≡ false)
    (λ empty i below.
    let part : c.part.result.now ≡ take count (drop from kept) = c.part.ensures ∙ ap (λ (l : List Bool). take count (drop from l)) c.as_slice.ensures.value in
    ap (λ kept. chosen_by kept (option_copied chosen.shown) (from + i)) c.in-Some.is
    ∙ none-chosen kept from count i (omega (arith, below, c.count-count.ensures)) (sym (c.has_any.ensures ∙ ap (λ (l : List Bool). list_any (same_as true) l) part) ∙ empty))
