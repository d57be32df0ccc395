use Rattle.std.proofs.Common.{◌∙◌, ℕ, List, Option, map, ap, sym, subst}
use Rattle.std.specs.Ordering.{nat_cmp}
use Rattle.std.proofs.lemmas.Result.{IfOk-weaker}
use Rattle.std.specs.Option.{option_copied}
use Rattle.std.specs.Cmp.Lexicographic.{slice_cmp}
use Rattle.segment_dict.specs.declared.Dict.TheVariants.{Texts}
use Rattle.segment_dict.specs.Dictionaries.{IsDictOf}
use Rattle.segment_dict.specs.Texts.{texts_in}
use Rattle.column_segment.specs.Dicts.{IsDictFor, AreDictCodes}
use Rattle.column_segment.proofs.Dicts.{has-entries}
use Rattle.column_segment.proofs.choice.text_segment.Goals as goal

pub codes_in-requires : goal.codes_in-requires
codes_in-requires c =
    let P : List (Option (List ℕ)) → Type 0 = λ texts. IsDictOf (slice_cmp nat_cmp) texts (texts_in c.in_ok-texts_of.field-0.ends c.in_ok-texts_of.field-0.bytes) c.in_ok-texts_of.field-0.nulls in
    let is : IsDictFor c.args.cells.now (Texts c.in_ok-texts_of.field-0) = (c.requires.text, c.requires.no_number, subst P (ap (map option_copied) c.as_slice.ensures.value ∙ c.in_ok-texts.ensures) c.in_ok-texts_of.ensures) in
    has-entries c.args.cells.now (Texts c.in_ok-texts_of.field-0) is

pub dict_segment-requires : goal.dict_segment-requires
dict_segment-requires c =
    let P : List (Option (List ℕ)) → Type 0 = λ texts. IsDictOf (slice_cmp nat_cmp) texts (texts_in c.in_ok-texts_of.field-0.ends c.in_ok-texts_of.field-0.bytes) c.in_ok-texts_of.field-0.nulls in
    let Q : List ℕ → Type 0 = λ l. AreDictCodes (Texts c.in_ok-texts_of.field-0) c.args.cells.now l in
    (c.args.cells.now, (c.requires.some, (c.requires.text, c.requires.no_number, subst P (ap (map option_copied) c.as_slice.ensures.value ∙ c.in_ok-texts.ensures) c.in_ok-texts_of.ensures), subst Q (sym c.as_slice-2.ensures.value) c.in_ok-codes.ensures), c.requires.text)

pub returns : goal.returns
returns c =
    let P : List (Option (List ℕ)) → Type 0 = λ texts. IsDictOf (slice_cmp nat_cmp) texts (texts_in c.in_ok-texts_of.field-0.ends c.in_ok-texts_of.field-0.bytes) c.in_ok-texts_of.field-0.nulls in
    let Q : List ℕ → Type 0 = λ l. AreDictCodes (Texts c.in_ok-texts_of.field-0) c.args.cells.now l in
    IfOk-weaker c.dict_segment.result _ _
    (λ segment is. is c.args.cells.now (c.requires.some, (c.requires.text, c.requires.no_number, subst P (ap (map option_copied) c.as_slice.ensures.value ∙ c.in_ok-texts.ensures) c.in_ok-texts_of.ensures), subst Q (sym c.as_slice-2.ensures.value) c.in_ok-codes.ensures) c.requires.text)
    c.dict_segment.ensures
