use Rattle.std.proofs.Common.{◌≡◌, ◌<◌, ◌-◌, ◌∙◌, sym, subst, ap, arith, List}
use Rattle.std.specs.Int.{from_bool}
use Rattle.std.proofs.lemmas.Result.{IfOk-weaker}
use Rattle.cs_types.specs.declared.Value.{Value}
use Rattle.column_segment.specs.Cells.{seen, IsGreatestCell}
use Rattle.column_segment.specs.Dicts.{IsDictFor, dict_cell, dict_codes, dict_nulls}
use Rattle.column_segment.proofs.Dicts.{dict-bounds, dict-no-bounds, nulls-le}
use Rattle.column_segment.proofs.dict.greatest_in.Goals as goal

pub returns-then-codes-from : goal.returns-then-codes-from
returns-then-codes-from c = λ cells is.
    (dict-no-bounds cells c.args.dict.now is (sym c.codes_of-codes.ensures ∙ c.if-codes-from.true ∙ c.from.ensures ∙ ap from_bool c.has_null.ensures.value)).1

pub returns : goal.returns
returns c =
    let nulls : c.from.result ≡ from_bool (dict_nulls c.args.dict.now) = c.from.ensures ∙ ap from_bool c.has_null.ensures.value in
    let more : from_bool (dict_nulls c.args.dict.now) < dict_codes c.args.dict.now = omega (arith, nulls, c.codes_of-codes.ensures, c.if-codes-from.false, nulls-le c.args.dict.now) in
    let Made : Value → Type 0 = λ v. v ≡ seen c.entry_shown.result in
    let Bounds : Value → Type 0 = λ v. (cells : List Value) → IsDictFor cells c.args.dict.now → IsGreatestCell cells v in
    IfOk-weaker c.to_value.result Made Bounds (λ v e cells is. let P : Value → Type 0 = λ w. IsGreatestCell cells w in
    subst P (sym (e ∙ c.entry_shown.ensures ∙ ap (λ n. dict_cell c.args.dict.now (n - 1)) c.codes_of-codes.ensures)) (dict-bounds cells c.args.dict.now is more).1) c.to_value.ensures
