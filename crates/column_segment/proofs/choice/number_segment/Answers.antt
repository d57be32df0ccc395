use Rattle.std.proofs.Common.{◌∙◌, ℕ, ℤ, List, Option, sym, subst}
use Rattle.std.specs.Ordering.{int_cmp}
use Rattle.std.proofs.lemmas.Result.{IfOk-weaker}
use Rattle.segment_dict.specs.declared.Dict.TheVariants.{Numbers}
use Rattle.segment_dict.specs.Dictionaries.{IsDictOf}
use Rattle.column_segment.specs.declared.segment.Segment.{Segment}
use Rattle.column_segment.specs.Dicts.{IsCoded, IsDictFor}
use Rattle.column_segment.proofs.Dicts.{has-numbers, number-codes}
use Rattle.column_segment.proofs.choice.number_segment.Goals as goal

pub number_codes-requires : goal.number_codes-requires
number_codes-requires c =
    let P : List (Option ℤ) → Type 0 = λ numbers. IsDictOf int_cmp numbers c.in_ok-numbers_of.field-0.entries c.in_ok-numbers_of.field-0.nulls in
    let is : IsDictFor c.args.cells.now (Numbers c.in_ok-numbers_of.field-0) = (c.requires.no_text, subst P (c.as_slice.ensures.value ∙ c.in_ok-numbers.ensures) c.in_ok-numbers_of.ensures) in
    rw (c.as_slice-2.ensures.value, c.in_ok-numbers.ensures) (has-numbers c.args.cells.now (Numbers c.in_ok-numbers_of.field-0) c.requires.no_text is)

pub bare_segment-requires : goal.bare_segment-requires
bare_segment-requires c =
    let cells = c.args.cells.now in
    let P : List (Option ℤ) → Type 0 = λ numbers. IsDictOf int_cmp numbers c.in_ok-numbers_of.field-0.entries c.in_ok-numbers_of.field-0.nulls in
    let is : IsDictFor cells (Numbers c.in_ok-numbers_of.field-0) = (c.requires.no_text, subst P (c.as_slice.ensures.value ∙ c.in_ok-numbers.ensures) c.in_ok-numbers_of.ensures) in
    let codes = number-codes cells c.as_slice-2.result.now (Numbers c.in_ok-numbers_of.field-0) c.in_ok-codes.codes.items c.requires.no_text (c.as_slice-2.ensures.value ∙ c.in_ok-numbers.ensures) c.in_ok-codes.ensures in (
      cells,
      subst (λ (l : List ℕ). IsCoded cells (Numbers c.in_ok-numbers_of.field-0) l) (sym c.as_slice-3.ensures.value) (c.requires.some, is, codes),
      c.requires.no_text,
    )

pub returns : goal.returns
returns c =
    let cells = c.args.cells.now in
    let P : List (Option ℤ) → Type 0 = λ numbers. IsDictOf int_cmp numbers c.in_ok-numbers_of.field-0.entries c.in_ok-numbers_of.field-0.nulls in
    let is : IsDictFor cells (Numbers c.in_ok-numbers_of.field-0) = (c.requires.no_text, subst P (c.as_slice.ensures.value ∙ c.in_ok-numbers.ensures) c.in_ok-numbers_of.ensures) in
    let codes = number-codes cells c.as_slice-2.result.now (Numbers c.in_ok-numbers_of.field-0) c.in_ok-codes.codes.items c.requires.no_text (c.as_slice-2.ensures.value ∙ c.in_ok-numbers.ensures) c.in_ok-codes.ensures in
    let coded = subst (λ (l : List ℕ). IsCoded cells (Numbers c.in_ok-numbers_of.field-0) l) (sym c.as_slice-3.ensures.value) (c.requires.some, is, codes) in
    IfOk-weaker c.bare_segment.result _ _ (λ (s : Segment) made. made cells coded c.requires.no_text) c.bare_segment.ensures
