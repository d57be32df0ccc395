-- Where a predicate skips, it is True of no row.
use Rattle.std.proofs.Common.{◌≡◌, ◌≢◌, ℕ, ◌<◌, ◌*ℤ◌, pos, ◌^◌, Bool, true, false, ◌&&◌, ◌||◌, List, [], ◌∷◌, map, length, get_or, slice_get, Option, Some, None, refl, sym, ap, subst, ◌∙◌, Contains, All, true≢false, arith}
use Rattle.std.specs.Prelude.{not as flipped}
use Rattle.std.specs.List.{list_all, list_any}
use Rattle.std.specs.declared.cmp.Ordering.{Ordering}
use Rattle.std.specs.declared.cmp.Ordering.TheVariants as ordering
use Rattle.std.specs.Ordering.{int_cmp, nat_cmp, ordering_reverse}
use Rattle.std.specs.Cmp.Lexicographic.{slice_cmp}
use Rattle.std.proofs.lemmas.Cmp.{int_cmp_total, nat_list_cmp_total}
use Rattle.std.proofs.lemmas.List.{get_or-map, length-map}
use Rattle.std.proofs.lemmas.List.Sums.{AllPass-from_list_all}
use Rattle.std.proofs.lemmas.List.Elements.{Contains-get_or}
use Rattle.cs_types.specs.declared.Schema.{Schema}
use Rattle.cs_types.specs.declared.Value.{Value}
use Rattle.cs_types.specs.declared.Loose.{Loose}
use Rattle.cs_types.specs.declared.Loose.TheVariants as loose
use Rattle.cs_types.specs.Rows.{cell_at}
use Rattle.cs_model.specs.declared.pred.Relation.{Relation}
use Rattle.cs_model.specs.declared.pred.Relation.TheVariants.{Equal, NotEqual, Less, LessEqual, Greater, GreaterEqual}
use Rattle.cs_model.specs.declared.pred.Operand.{Operand}
use Rattle.cs_model.specs.declared.pred.Operand.TheVariants.{Column, Constant}
use Rattle.cs_model.specs.declared.pred.Pred.{Pred}
use Rattle.cs_model.specs.declared.pred.Pred.TheOpen.{Pred-F}
use Rattle.cs_model.specs.declared.pred.Pred.TheViews.{roll-Pred}
use Rattle.cs_model.specs.declared.pred.Pred.TheFolds.{fold-roll-Pred, ind-Pred, map-Pred}
use Rattle.cs_model.specs.declared.truth.Truth.{Truth}
use Rattle.cs_model.specs.declared.truth.Truth.TheVariants.{True, False, Unknown}
use Rattle.cs_model.specs.Cells.{loose_in, loose_at}
use Rattle.cs_model.specs.Queries.{is_true}
use Rattle.cs_model.specs.Skips.{skips, skips_step, skips_operands, skips_compare, skips_between, skips_null, none_stands, loose_cells, turned}
use Rattle.cs_model.specs.Truths.{truth, truth_step, operand_of, order_of, truth_of_order, compare, not, not_if, or, and, any_of, all_of, between, among, truth_if, is_null}

-- ---- truths as bools

true-or : (a b : Truth) → is_true (or a b) ≡ (is_true a || is_true b)
true-or True b = refl
true-or Unknown True = refl
true-or Unknown Unknown = refl
true-or Unknown False = refl
true-or False b = refl

true-and : (a b : Truth) → is_true (and a b) ≡ (is_true a && is_true b)
true-and False b = refl
true-and Unknown False = refl
true-and Unknown Unknown = refl
true-and Unknown True = refl
true-and True b = refl

false_unless : (b : Bool) → flipped b ≡ true → b ≡ false
false_unless false e = refl
false_unless true e = absurd (true≢false (sym e))

both_false : (a b : Bool) → a ≡ false → b ≡ false → (a || b) ≡ false
both_false a b e f = ap (λ x. x || b) e ∙ f

-- ---- a comparison is the same with its sides exchanged

reversed : (sign : Relation) (o : Ordering) → truth_of_order sign (Some (ordering_reverse o)) ≡ truth_of_order (turned sign) (Some o)
reversed Equal ordering.Less = refl
reversed Equal ordering.Equal = refl
reversed Equal ordering.Greater = refl
reversed NotEqual ordering.Less = refl
reversed NotEqual ordering.Equal = refl
reversed NotEqual ordering.Greater = refl
reversed Less ordering.Less = refl
reversed Less ordering.Equal = refl
reversed Less ordering.Greater = refl
reversed LessEqual ordering.Less = refl
reversed LessEqual ordering.Equal = refl
reversed LessEqual ordering.Greater = refl
reversed Greater ordering.Less = refl
reversed Greater ordering.Equal = refl
reversed Greater ordering.Greater = refl
reversed GreaterEqual ordering.Less = refl
reversed GreaterEqual ordering.Equal = refl
reversed GreaterEqual ordering.Greater = refl

unordered : (sign : Relation) → truth_of_order sign None ≡ truth_of_order (turned sign) None
unordered sign = refl

pub compare-turned : (sign : Relation) (a b : Loose) → compare sign a b ≡ compare (turned sign) b a
compare-turned sign (loose.Number m s) (loose.Number n t) =
    ap (λ o. truth_of_order sign (Some o)) (int_cmp_total.antisymm (m *ℤ pos (10 ^ t)) (n *ℤ pos (10 ^ s))) ∙ reversed sign (int_cmp (n *ℤ pos (10 ^ s)) (m *ℤ pos (10 ^ t)))
compare-turned sign (loose.Number m s) loose.Null = refl
compare-turned sign (loose.Number m s) (loose.Text u) = refl
compare-turned sign (loose.Number m s) (loose.Day d) = refl
compare-turned sign (loose.Text t) (loose.Text u) = ap (λ o. truth_of_order sign (Some o)) (nat_list_cmp_total.antisymm t u) ∙ reversed sign (slice_cmp nat_cmp u t)
compare-turned sign (loose.Text t) loose.Null = refl
compare-turned sign (loose.Text t) (loose.Number n s) = refl
compare-turned sign (loose.Text t) (loose.Day d) = refl
compare-turned sign (loose.Day a) (loose.Day b) = ap (λ o. truth_of_order sign (Some o)) (int_cmp_total.antisymm a b) ∙ reversed sign (int_cmp b a)
compare-turned sign (loose.Day a) loose.Null = refl
compare-turned sign (loose.Day a) (loose.Number n s) = refl
compare-turned sign (loose.Day a) (loose.Text u) = refl
compare-turned sign loose.Null loose.Null = refl
compare-turned sign loose.Null (loose.Number n s) = refl
compare-turned sign loose.Null (loose.Text u) = refl
compare-turned sign loose.Null (loose.Day d) = refl

-- ---- one row of those whose cells are given

passes : {X : Type 0} (p : X → Bool) (xs : List X) (x : X) → Contains xs x → list_all p xs ≡ true → p x ≡ true
passes p xs x there all = subst (λ y. p y ≡ true) there.2 (AllPass-from_list_all p xs all there.0 x there.1)

equal_is_both : (o : Option Ordering) → is_true (truth_of_order LessEqual o) ≡ false → is_true (truth_of_order Equal o) ≡ false
equal_is_both None e = e
equal_is_both (Some ordering.Less) e = refl
equal_is_both (Some ordering.Equal) e = e
equal_is_both (Some ordering.Greater) e = e

equal_is_least : (o : Option Ordering) → is_true (truth_of_order GreaterEqual o) ≡ false → is_true (truth_of_order Equal o) ≡ false
equal_is_least None e = e
equal_is_least (Some ordering.Less) e = e
equal_is_least (Some ordering.Equal) e = e
equal_is_least (Some ordering.Greater) e = refl

none_of : (sign : Relation) (cells : List Loose) (cell constant : Loose) → Contains cells cell → none_stands sign cells constant ≡ true → is_true (compare sign cell constant) ≡ false
none_of sign cells cell constant there e = false_unless (is_true (compare sign cell constant)) (passes (λ c. flipped (is_true (compare sign c constant))) cells cell there e)

compare_skips : (sign : Relation) (cells : List Loose) (cell constant : Loose) → Contains cells cell → skips_compare sign cells constant ≡ true → is_true (compare sign cell constant) ≡ false
compare_skips NotEqual cells cell constant there e = none_of NotEqual cells cell constant there e
compare_skips Less cells cell constant there e = none_of Less cells cell constant there e
compare_skips LessEqual cells cell constant there e = none_of LessEqual cells cell constant there e
compare_skips Greater cells cell constant there e = none_of Greater cells cell constant there e
compare_skips GreaterEqual cells cell constant there e = none_of GreaterEqual cells cell constant there e
compare_skips Equal cells cell constant there e = go (none_stands LessEqual cells constant) refl
  where
    go : (b : Bool) → none_stands LessEqual cells constant ≡ b → is_true (compare Equal cell constant) ≡ false
    go true f = equal_is_both (order_of cell constant) (none_of LessEqual cells cell constant there f)
    go false f = equal_is_least (order_of cell constant) (none_of GreaterEqual cells cell constant there (sym (ap (λ b. b || none_stands GreaterEqual cells constant) f) ∙ e))

among_skips : (cells : List Loose) (cell : Loose) → Contains cells cell → (list : List Loose) → list_all (skips_compare Equal cells) list ≡ true → is_true (among cell list) ≡ false
among_skips cells cell there [] e = refl
among_skips cells cell there (x ∷ xs) e = go (among_skips cells cell there xs) (skips_compare Equal cells x) refl
  where
    go : (list_all (skips_compare Equal cells) xs ≡ true → is_true (among cell xs) ≡ false) → (b : Bool) → skips_compare Equal cells x ≡ b → is_true (among cell (x ∷ xs)) ≡ false
    go behind false f = absurd (true≢false (sym e ∙ ap (λ b. b && list_all (skips_compare Equal cells) xs) f))
    go behind true f =
        true-or (compare Equal cell x) (among cell xs)
        ∙ both_false (is_true (compare Equal cell x)) (is_true (among cell xs)) (compare_skips Equal cells cell x there f)
        (behind (sym (ap (λ b. b && list_all (skips_compare Equal cells) xs) f) ∙ e))

module _ (schema : Schema) (rows : List (List Value)) (row : List Value) (there : Contains rows row) where
  abbrev given : ℕ → List Value
  given c = map (λ r. cell_at r c) rows

  abbrev Loses : Pred → Type 0
  Loses pred = skips schema pred given ≡ true → is_true (truth pred row schema) ≡ false

  cells_at : (c : ℕ) → Contains (loose_cells schema given c) (loose_at schema row c)
  cells_at c =
      let k = there.0 in
      let in_rows : k < length (given c) = omega (arith, there.1, length-map rows (λ r. cell_at r c)) in (
        k,
        omega (arith, in_rows, length-map (given c) (loose_in (slice_get schema.columns c))),
        get_or-map (loose_in (slice_get schema.columns c)) (given c) k (cell_at row c) (loose_at schema row c) in_rows
            ∙ ap (loose_in (slice_get schema.columns c)) (get_or-map (λ r. cell_at r c) rows k row (cell_at row c) there.1 ∙ ap (λ r. cell_at r c) there.2),
      )

  roll_skips : (x : Pred-F Pred) → skips schema (roll-Pred x) given ≡ skips_step (loose_cells schema given) (map-Pred Pred Bool (λ p. skips schema p given) x)
  roll_skips = fold-roll-Pred Bool (skips_step (loose_cells schema given))

  roll_truth : (x : Pred-F Pred) → truth (roll-Pred x) row schema ≡ truth_step schema row (map-Pred Pred Truth (λ p. truth p row schema) x)
  roll_truth = fold-roll-Pred Truth (truth_step schema row)

  each : (ps : List ((p : Pred) × Loses p)) → list_all (λ b. b) (map (λ p. skips schema p given) (map (λ e. e.0) ps)) ≡ true → is_true (any_of (map (λ p. truth p row schema) (map (λ e. e.0) ps))) ≡ false
  each [] e = refl
  each (p ∷ ps) e = go (each ps) (skips schema p.0 given) refl
    where
      go : (list_all (λ b. b) (map (λ q. skips schema q given) (map (λ e. e.0) ps)) ≡ true → is_true (any_of (map (λ q. truth q row schema) (map (λ e. e.0) ps))) ≡ false) → (b : Bool) → skips schema p.0 given ≡ b → is_true (any_of (map (λ q. truth q row schema) (map (λ e. e.0) (p ∷ ps)))) ≡ false
      go behind false f = absurd (true≢false (sym e ∙ ap (λ b. b && list_all (λ b. b) (map (λ q. skips schema q given) (map (λ e. e.0) ps))) f))
      go behind true f =
          true-or (truth p.0 row schema) (any_of (map (λ q. truth q row schema) (map (λ e. e.0) ps)))
          ∙ both_false (is_true (truth p.0 row schema)) (is_true (any_of (map (λ q. truth q row schema) (map (λ e. e.0) ps)))) (p.1 f)
          (behind (sym (ap (λ b. b && list_all (λ b. b) (map (λ q. skips schema q given) (map (λ e. e.0) ps))) f) ∙ e))

  and_false : (a b : Bool) → b ≡ false → (a && b) ≡ false
  and_false true b e = e
  and_false false b e = refl

  some : (ps : List ((p : Pred) × Loses p)) → list_any (λ b. b) (map (λ p. skips schema p given) (map (λ e. e.0) ps)) ≡ true → is_true (all_of (map (λ p. truth p row schema) (map (λ e. e.0) ps))) ≡ false
  some [] e = absurd (true≢false (sym e))
  some (p ∷ ps) e = go (some ps) (skips schema p.0 given) refl
    where
      go : (list_any (λ b. b) (map (λ q. skips schema q given) (map (λ e. e.0) ps)) ≡ true → is_true (all_of (map (λ q. truth q row schema) (map (λ e. e.0) ps))) ≡ false) → (b : Bool) → skips schema p.0 given ≡ b → is_true (all_of (map (λ q. truth q row schema) (map (λ e. e.0) (p ∷ ps)))) ≡ false
      go behind true f =
          true-and (truth p.0 row schema) (all_of (map (λ q. truth q row schema) (map (λ e. e.0) ps)))
          ∙ ap (λ b. b && is_true (all_of (map (λ q. truth q row schema) (map (λ e. e.0) ps)))) (p.1 f)
      go behind false f =
          true-and (truth p.0 row schema) (all_of (map (λ q. truth q row schema) (map (λ e. e.0) ps)))
          ∙ and_false (is_true (truth p.0 row schema)) (is_true (all_of (map (λ q. truth q row schema) (map (λ e. e.0) ps))))
          (behind (sym (ap (λ b. b || list_any (λ b. b) (map (λ q. skips schema q given) (map (λ e. e.0) ps))) f) ∙ e))

  operands : (left : Operand) (sign : Relation) (right : Operand) → skips_operands (loose_cells schema given) left sign right ≡ true → is_true (compare sign (operand_of schema row left) (operand_of schema row right)) ≡ false
  operands (Column i) sign (Constant constant) e = compare_skips sign (loose_cells schema given i) (loose_at schema row i) constant (cells_at i) e
  operands (Constant constant) sign (Column i) e =
      ap is_true (compare-turned sign constant (loose_at schema row i)) ∙ compare_skips (turned sign) (loose_cells schema given i) (loose_at schema row i) constant (cells_at i) e
  operands (Column i) sign (Column j) e = absurd (true≢false (sym e))
  operands (Constant a) sign (Constant b) e = absurd (true≢false (sym e))

  ranges : (i : ℕ) (low high : Loose) → skips_between (loose_cells schema given i) low high ≡ true → is_true (between low high (loose_at schema row i)) ≡ false
  ranges i low high e = true-and (compare GreaterEqual (loose_at schema row i) low) (compare LessEqual (loose_at schema row i) high) ∙ go (skips_compare GreaterEqual (loose_cells schema given i) low) refl
    where
      go : (b : Bool) → skips_compare GreaterEqual (loose_cells schema given i) low ≡ b → (is_true (compare GreaterEqual (loose_at schema row i) low) && is_true (compare LessEqual (loose_at schema row i) high)) ≡ false
      go true f = ap (λ b. b && is_true (compare LessEqual (loose_at schema row i) high)) (compare_skips GreaterEqual (loose_cells schema given i) (loose_at schema row i) low (cells_at i) f)
      go false f =
          and_false (is_true (compare GreaterEqual (loose_at schema row i) low)) (is_true (compare LessEqual (loose_at schema row i) high))
          (compare_skips LessEqual (loose_cells schema given i) (loose_at schema row i) high (cells_at i) (sym (ap (λ b. b || skips_compare LessEqual (loose_cells schema given i) high) f) ∙ e))

  nulls : (i : ℕ) (negated : Bool) → skips_null negated (loose_cells schema given i) ≡ true → is_true (not_if negated (truth_if (is_null (loose_at schema row i)))) ≡ false
  nulls i false e = ap (λ b. is_true (truth_if b)) (false_unless (is_null (loose_at schema row i)) (passes (λ c. flipped (is_null c)) (loose_cells schema given i) (loose_at schema row i) (cells_at i) e))
  nulls i true e = ap (λ b. is_true (not (truth_if b))) (passes is_null (loose_cells schema given i) (loose_at schema row i) (cells_at i) e)

  step : (y : Pred-F ((p : Pred) × Loses p)) → skips_step (loose_cells schema given) (map-Pred Pred Bool (λ p. skips schema p given) (map-Pred ((p : Pred) × Loses p) Pred (λ e. e.0) y)) ≡ true
      → is_true (truth_step schema row (map-Pred Pred Truth (λ p. truth p row schema) (map-Pred ((p : Pred) × Loses p) Pred (λ e. e.0) y))) ≡ false
  step (Pred-F.AnyOf ps) e = each ps e
  step (Pred-F.AllOf ps) e = some ps e
  step (Pred-F.Not p) e = absurd (true≢false (sym e))
  step (Pred-F.Compare left sign right) e = operands left sign right e
  step (Pred-F.Between i false low high) e = ranges i low high e
  step (Pred-F.Between i true low high) e = absurd (true≢false (sym e))
  step (Pred-F.Among i false list) e = among_skips (loose_cells schema given i) (loose_at schema row i) (cells_at i) list e
  step (Pred-F.Among i true list) e = absurd (true≢false (sym e))
  step (Pred-F.Like i negated pattern) e = absurd (true≢false (sym e))
  step (Pred-F.IsNull i negated) e = nulls i negated e

  pub loses : (pred : Pred) → Loses pred
  loses = ind-Pred Loses (λ x y is e.
      ap is_true (roll_truth x)
      ∙ subst (λ z. skips_step (loose_cells schema given) (map-Pred Pred Bool (λ p. skips schema p given) z) ≡ true → is_true (truth_step schema row (map-Pred Pred Truth (λ p. truth p row schema) z)) ≡ false) is (step y) (sym (roll_skips x) ∙ e))

-- where a predicate skips by the cells of some rows, it is True of none of them
pub loses_none : (schema : Schema) (pred : Pred) (rows : List (List Value)) → skips schema pred (λ c. map (λ row. cell_at row c) rows) ≡ true → All (λ row. truth pred row schema ≢ True) rows
loses_none schema pred rows e k d l f =
    let none = loses schema rows (get_or rows k d) (Contains-get_or rows k d l) pred e in
    true≢false (sym (ap is_true f) ∙ none)
