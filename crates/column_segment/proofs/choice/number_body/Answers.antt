use Rattle.std.proofs.Common.{◌≡◌, ◌<◌, ◌≤◌, None, Some, map, min, refl, sym, ◌∙◌, subst, inl, arith}
use Rattle.std.proofs.lemmas.Result.{IfOk-weaker}
use Rattle.segment_value.specs.Scales.{code_of}
use Rattle.segment_value.proofs.Exponents.{IsExponent-most}
use Rattle.column_segment.specs.Cells.{number_of}
use Rattle.column_segment.specs.Choices.{AreCosts}
use Rattle.column_segment.specs.Dicts.{AreCodeNumbers}
use Rattle.column_segment.proofs.Dicts.{dict-neighbours}
use Rattle.column_segment.proofs.Best.{IsLeastWidth-at, counts-runs, best-by-scale, best-by-dict}
use Rattle.column_segment.proofs.Scaled.{codes-within, scaling-coded, width-coded, table-picked, table-coded}
use Rattle.column_segment.proofs.choice.number_body.Goals as goal

pub unscaled_body-requires : goal.unscaled_body-requires
unscaled_body-requires c = (c.requires.0, c.requires.1)

pub returns-in_default : goal.returns-in_default
returns-in_default c =
    let are = subst (AreCodeNumbers c.args.dict) (sym c.as_slice-numbers.ensures.value) c.in_ok-entries.ensures in
    IfOk-weaker c.unscaled_body.result _ _
    (λ body is cells coded none. is cells coded (inl (none, scaling-coded cells c.args.dict c.args.dict_codes.now coded none c.as_slice-numbers.result.now are None c.in_default.ensures)))
    c.unscaled_body.ensures

pub shrink_all-requires-clause-exponent : goal.shrink_all-requires-clause-exponent
shrink_all-requires-clause-exponent c = IsExponent-most _ _ c.in-Some.ensures.0.exponent

pub table_body-requires-clause-within : goal.table_body-requires-clause-within
table_body-requires-clause-within c =
    let are = subst (AreCodeNumbers c.args.dict) (sym c.as_slice-numbers.ensures.value) c.in_ok-entries.ensures in
    codes-within c.requires.0 c.args.dict c.args.dict_codes.now c.requires.1 c.requires.2 c.as_slice-numbers.result.now are c.in-Some.scale c.as_slice-table.result.now
    (c.as_slice-table.ensures.value ∙ c.in_ok-scaled.ensures)

pub table_body-requires-clause-room : goal.table_body-requires-clause-room
table_body-requires-clause-room c = λ found picked.
    let cells = c.requires.0 in
    let dict = c.args.dict in
    let codes = c.args.dict_codes.now in
    let scale = c.in-Some.scale in
    let numbers = c.as_slice-numbers.result.now in
    let table = c.as_slice-table.result.now in
    let are = subst (AreCodeNumbers dict) (sym c.as_slice-numbers.ensures.value) c.in_ok-entries.ensures in
    let is : table ≡ map (code_of scale) numbers = c.as_slice-table.ensures.value ∙ c.in_ok-scaled.ensures in
    IsLeastWidth-at (map (code_of scale) (map number_of cells)) found c.width_of.result _ (table-coded cells dict codes c.requires.1 c.requires.2 numbers are scale table found is picked) c.costs_of-by_scale.ensures.0
    (width-coded cells dict codes c.requires.1 c.requires.2 numbers are scale table c.width_of.result is c.width_of.ensures.width)

pub returns-then-fewest : goal.returns-then-fewest
returns-then-fewest c =
    let dict = c.args.dict in
    let codes = c.args.dict_codes.now in
    let scale = c.in-Some.scale in
    let numbers = c.as_slice-numbers.result.now in
    let table = c.as_slice-table.result.now in
    let width = c.width_of.result in
    let are = subst (AreCodeNumbers dict) (sym c.as_slice-numbers.ensures.value) c.in_ok-entries.ensures in
    let is : table ≡ map (code_of scale) numbers = c.as_slice-table.ensures.value ∙ c.in_ok-scaled.ensures in
    let fewest : min c.costs_of-by_scale.result.packed c.costs_of-by_scale.result.runs ≤ min c.costs_of-by_dict.result.packed c.costs_of-by_dict.result.runs = omega (arith, c.fewest.ensures, c.fewest-2.ensures, c.if-fewest.true) in
    IfOk-weaker c.table_body.result _ _
    (λ body kept cells coded none.
    best-by-scale cells (map number_of cells) dict scale (map (code_of scale) (map number_of cells)) (map (code_of scale) (map number_of cells)) width c.width_in.result c.words_of.result c.runs_in-runs.result c.costs_of-by_scale.result c.costs_of-by_dict.result
    refl none (scaling-coded cells dict codes coded none numbers are (Some scale) c.in-Some.ensures) coded.1 refl refl
    (width-coded cells dict codes coded none numbers are scale table width is c.width_of.ensures.width)
    c.width_of.ensures.most (subst (λ n. AreCosts 2 n width c.runs_in-runs.result c.costs_of-by_scale.result) coded.2.0 c.costs_of-by_scale.ensures)
    (λ others these. c.width_in.ensures.width cells others coded.1 these coded.0)
    c.words_of.ensures.words (subst (λ n. AreCosts c.words_of.result n c.width_in.result c.runs_in-runs.result c.costs_of-by_dict.result) coded.2.0 c.costs_of-by_dict.ensures)
    (counts-runs cells codes codes c.runs_in-runs.result (dict-neighbours cells dict coded.1 codes coded.2) refl c.runs_in-runs.ensures.runs)
    fewest body (kept (map (code_of scale) (map number_of cells)) (table-picked cells dict codes coded none numbers are scale table is)))
    c.table_body.ensures

pub dict_body-requires-clause-room : goal.dict_body-requires-clause-room
dict_body-requires-clause-room c =
    let coded = c.requires.1 in
    IsLeastWidth-at c.args.dict_codes.now _ c.width_in.result _ refl c.costs_of-by_dict.ensures.0
    (c.width_in.ensures.width c.requires.0 c.args.dict_codes.now coded.1 coded.2 coded.0)

pub returns : goal.returns
returns c =
    let dict = c.args.dict in
    let codes = c.args.dict_codes.now in
    let scale = c.in-Some.scale in
    let numbers = c.as_slice-numbers.result.now in
    let table = c.as_slice-table.result.now in
    let width = c.width_of.result in
    let are = subst (AreCodeNumbers dict) (sym c.as_slice-numbers.ensures.value) c.in_ok-entries.ensures in
    let is : table ≡ map (code_of scale) numbers = c.as_slice-table.ensures.value ∙ c.in_ok-scaled.ensures in
    let dearer : min c.costs_of-by_dict.result.packed c.costs_of-by_dict.result.runs < min c.costs_of-by_scale.result.packed c.costs_of-by_scale.result.runs = omega (arith, c.fewest.ensures, c.fewest-2.ensures, c.if-fewest.false) in
    IfOk-weaker c.dict_body.result _ _
    (λ body kept cells coded none.
    best-by-dict cells (map number_of cells) dict scale (map (code_of scale) (map number_of cells)) (map (code_of scale) (map number_of cells)) codes codes width c.width_in.result c.words_of.result c.runs_in-runs.result c.costs_of-by_scale.result c.costs_of-by_dict.result
    refl none (scaling-coded cells dict codes coded none numbers are (Some scale) c.in-Some.ensures) coded.1 refl refl
    (width-coded cells dict codes coded none numbers are scale table width is c.width_of.ensures.width)
    (subst (λ n. AreCosts 2 n width c.runs_in-runs.result c.costs_of-by_scale.result) coded.2.0 c.costs_of-by_scale.ensures)
    coded.2 refl
    (c.width_in.ensures.width cells codes coded.1 coded.2 coded.0)
    c.width_in.ensures.most c.words_of.ensures.words (subst (λ n. AreCosts c.words_of.result n c.width_in.result c.runs_in-runs.result c.costs_of-by_dict.result) coded.2.0 c.costs_of-by_dict.ensures)
    (counts-runs cells codes codes c.runs_in-runs.result (dict-neighbours cells dict coded.1 codes coded.2) refl c.runs_in-runs.ensures.runs)
    dearer body kept)
    c.dict_body.ensures
