use Rattle.std.proofs.Common.{◌≡◌, ◌<◌, ◌∙◌, sym, subst, ap, arith, List}
use Rattle.std.specs.Int.{from_bool}
use Rattle.std.proofs.lemmas.Result.{IfOk-weaker}
use Rattle.cs_types.specs.declared.Value.{Value}
use Rattle.column_segment.specs.Cells.{seen, IsLeastCell}
use Rattle.column_segment.specs.Dicts.{IsDictFor, dict_cell, dict_codes, dict_nulls}
use Rattle.column_segment.proofs.Dicts.{dict-bounds, dict-no-bounds, nulls-le}
use Rattle.column_segment.proofs.dict.least_in.Goals as goal

pub returns-then-codes_of-nulls : goal.returns-then-codes_of-nulls
returns-then-codes_of-nulls c = λ cells is.
    (dict-no-bounds cells c.args.dict.now is (sym c.codes_of.ensures ∙ c.if-codes_of-nulls.true ∙ c.from-nulls.ensures ∙ ap from_bool c.has_null.ensures.value)).0

pub returns : goal.returns
returns c =
    let nulls : c.from-nulls.result ≡ from_bool (dict_nulls c.args.dict.now) = c.from-nulls.ensures ∙ ap from_bool c.has_null.ensures.value in
    let more : from_bool (dict_nulls c.args.dict.now) < dict_codes c.args.dict.now = omega (arith, nulls, c.codes_of.ensures, c.if-codes_of-nulls.false, nulls-le c.args.dict.now) in
    let Made : Value → Type 0 = λ v. v ≡ seen c.entry_shown.result in
    let Bounds : Value → Type 0 = λ v. (cells : List Value) → IsDictFor cells c.args.dict.now → IsLeastCell cells v in
    IfOk-weaker c.to_value.result Made Bounds (λ v e cells is. let P : Value → Type 0 = λ w. IsLeastCell cells w in
    subst P (sym (e ∙ c.entry_shown.ensures ∙ ap (dict_cell c.args.dict.now) nulls)) (dict-bounds cells c.args.dict.now is more).0) c.to_value.ensures
