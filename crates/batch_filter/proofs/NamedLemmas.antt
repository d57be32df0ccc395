-- The truth of a predicate is that of the cells that it names.
use Rattle.std.proofs.Common.{◌≡◌, ℕ, suc, ◌<◌, ◌==◌, Bool, true, false, ◌&&◌, drop, get_or, drop-cons, List, [], ◌∷◌, map, length, refl, sym, ap, subst, ◌∙◌, Contains, All, arith}
use Rattle.std.specs.List.{flat_map, list_all}
use Rattle.std.proofs.lemmas.Bool.{eqb-true}
use Rattle.std.proofs.lemmas.List.Folds.{list_all-append}
use Rattle.std.proofs.lemmas.List.Sums.{AllPass-from_list_all}
use Rattle.std.proofs.lemmas.List.Elements.{Contains-append_left, Contains-append_right, All-contains}
use Rattle.cs_types.specs.declared.Schema.{Schema}
use Rattle.cs_types.specs.declared.Value.{Value}
use Rattle.cs_types.specs.Rows.{cell_at}
use Rattle.cs_model.specs.declared.pred.Operand.{Operand}
use Rattle.cs_model.specs.declared.pred.Operand.TheVariants.{Column, Constant}
use Rattle.cs_model.specs.declared.pred.Pred.{Pred}
use Rattle.cs_model.specs.declared.pred.Pred.TheOpen.{Pred-F}
use Rattle.cs_model.specs.declared.pred.Pred.TheViews.{roll-Pred}
use Rattle.cs_model.specs.declared.pred.Pred.TheFolds.{fold-roll-Pred, ind-Pred, map-Pred}
use Rattle.cs_model.specs.declared.truth.Truth.{Truth}
use Rattle.cs_model.specs.Cells.{loose_in, loose_at}
use Rattle.cs_model.specs.Truths.{truth, truth_step, operand_of, not, not_if, any_of, all_of, between, among, like, truth_if, is_null}
use Rattle.batch_filter.specs.Named.{named, named_step, column_of_operand}

module _ (schema : Schema) (row other : List Value) where
  -- the rows have one cell in each of some columns
  abbrev Agree : List ℕ → Type 0
  Agree columns = (i : ℕ) → Contains columns i → cell_at row i ≡ cell_at other i

  abbrev IsShared : Pred → Type 0
  IsShared pred = Agree (named pred) → truth pred row schema ≡ truth pred other schema

  roll_named : (x : Pred-F Pred) → named (roll-Pred x) ≡ named_step (map-Pred Pred (List ℕ) named x)
  roll_named = fold-roll-Pred (List ℕ) named_step

  roll_row : (x : Pred-F Pred) → truth (roll-Pred x) row schema ≡ truth_step schema row (map-Pred Pred Truth (λ p. truth p row schema) x)
  roll_row = fold-roll-Pred Truth (truth_step schema row)

  roll_other : (x : Pred-F Pred) → truth (roll-Pred x) other schema ≡ truth_step schema other (map-Pred Pred Truth (λ p. truth p other schema) x)
  roll_other = fold-roll-Pred Truth (truth_step schema other)

  at_column : (i : ℕ) → Agree (i ∷ []) → loose_at schema row i ≡ loose_at schema other i
  at_column i agree = ap (loose_in _) (agree i (0, omega arith, refl))

  parts : (ps : List ((p : Pred) × IsShared p)) → Agree (flat_map (λ n. n) (map named (map (λ e. e.0) ps))) → map (λ p. truth p row schema) (map (λ e. e.0) ps) ≡ map (λ p. truth p other schema) (map (λ e. e.0) ps)
  parts [] agree = refl
  parts (e ∷ es) agree =
      let here = e.1 (λ i held. agree i (Contains-append_left (named e.0) (flat_map (λ n. n) (map named (map (λ e. e.0) es))) i held)) in
      let behind = parts es (λ i held. agree i (Contains-append_right (named e.0) (flat_map (λ n. n) (map named (map (λ e. e.0) es))) i held)) in
      cc

  operand : (o : Operand) → Agree (column_of_operand o) → operand_of schema row o ≡ operand_of schema other o
  operand (Column i) agree = at_column i agree
  operand (Constant constant) agree = refl

  step : (y : Pred-F ((p : Pred) × IsShared p)) → Agree (named_step (map-Pred Pred (List ℕ) named (map-Pred ((p : Pred) × IsShared p) Pred (λ e. e.0) y)))
      → truth_step schema row (map-Pred Pred Truth (λ p. truth p row schema) (map-Pred ((p : Pred) × IsShared p) Pred (λ e. e.0) y)) ≡ truth_step schema other (map-Pred Pred Truth (λ p. truth p other schema) (map-Pred ((p : Pred) × IsShared p) Pred (λ e. e.0) y))
  step (Pred-F.AnyOf ps) agree = ap any_of (parts ps agree)
  step (Pred-F.AllOf ps) agree = ap all_of (parts ps agree)
  step (Pred-F.Not e) agree = ap not (e.1 agree)
  step (Pred-F.Compare left sign right) agree =
      let l = operand left (λ i held. agree i (Contains-append_left (column_of_operand left) (column_of_operand right) i held)) in
      let r = operand right (λ i held. agree i (Contains-append_right (column_of_operand left) (column_of_operand right) i held)) in
      cc
  step (Pred-F.Between i negated low high) agree = ap (λ cell. not_if negated (between low high cell)) (at_column i agree)
  step (Pred-F.Among i negated list) agree = ap (λ cell. not_if negated (among cell list)) (at_column i agree)
  step (Pred-F.Like i negated pattern) agree = ap (λ cell. not_if negated (like pattern cell)) (at_column i agree)
  step (Pred-F.IsNull i negated) agree = ap (λ cell. not_if negated (truth_if (is_null cell))) (at_column i agree)

  shared : (pred : Pred) → IsShared pred
  shared = ind-Pred IsShared (λ x y is agree.
      roll_row x ∙ subst (λ z. Agree (named_step (map-Pred Pred (List ℕ) named z)) → truth_step schema row (map-Pred Pred Truth (λ p. truth p row schema) z) ≡ truth_step schema other (map-Pred Pred Truth (λ p. truth p other schema) z)) is (step y) (subst Agree (roll_named x) agree) ∙ sym (roll_other x))

-- two rows with one cell in each column that a predicate names have one truth
pub same_truth : (schema : Schema) (row other : List Value) (pred : Pred) → All (λ i. cell_at row i ≡ cell_at other i) (named pred) → truth pred row schema ≡ truth pred other schema
same_truth schema row other pred agree = shared schema row other pred (λ i there. All-contains (λ i. cell_at row i ≡ cell_at other i) (named pred) i agree there)

-- where a part names another column, so do the chain from it on
pub named_from : (p : ℕ → Bool) (chain : List Pred) (k : ℕ) (part : Pred) → k < length chain → part ≡ get_or chain k part → list_all p (named part) ≡ false
    → list_all p (flat_map (λ n. n) (map named (drop k chain))) ≡ false
named_from p chain k part l is e =
    ap (λ (ps : List Pred). list_all p (flat_map (λ n. n) (map named ps))) (drop-cons chain k part l ∙ ap (λ (q : Pred). q ∷ drop (suc k) chain) (sym is))
    ∙ list_all-append p (named part) (flat_map (λ n. n) (map named (drop (suc k) chain)))
    ∙ ap (λ b. b && list_all p (flat_map (λ n. n) (map named (drop (suc k) chain)))) e

-- two rows with one cell in the only column that a predicate names have one truth
pub lone_truth : (schema : Schema) (row other : List Value) (pred : Pred) (column : ℕ) → list_all (λ i. i == column) (named pred) ≡ true → cell_at row column ≡ cell_at other column → truth pred row schema ≡ truth pred other schema
lone_truth schema row other pred column lone e = same_truth schema row other pred (λ k d l.
    let is : get_or (named pred) k d ≡ column = eqb-true (get_or (named pred) k d) column (AllPass-from_list_all (λ i. i == column) (named pred) lone k d l) in
    ap (cell_at row) is ∙ e ∙ sym (ap (cell_at other) is))
