-- Truths of chains, of NOT and of single forms, as what is asked for.
use Rattle.std.proofs.Common.{◌≡◌, ℕ, Bool, true, false, ◌&&◌, ◌||◌, List, [], ◌∷◌, map, refl, sym, ap, ◌∙◌}
use Rattle.std.specs.Prelude.{not as flipped}
use Rattle.std.specs.List.{list_all, list_any}
use Rattle.std.proofs.lemmas.List.Folds.{list_all-map}
use Rattle.cs_types.specs.declared.Loose.{Loose}
use Rattle.cs_types.specs.declared.Schema.{Schema}
use Rattle.cs_types.specs.declared.Value.{Value}
use Rattle.cs_model.specs.Cells.{loose_at}
use Rattle.cs_model.specs.declared.pred.Operand.{Operand}
use Rattle.cs_model.specs.declared.pred.Relation.{Relation}
use Rattle.cs_model.specs.declared.pred.Pred.{Pred}
use Rattle.cs_model.specs.declared.pred.Pred.TheOpen.{Pred-F}
use Rattle.cs_model.specs.declared.pred.Pred.TheFolds.{fold-roll-Pred}
use Rattle.cs_model.specs.declared.pred.Pred.TheVariants.{AnyOf, AllOf, Not, Compare, Between, Among, IsNull, rolls-AnyOf, rolls-AllOf, rolls-Not, rolls-Compare, rolls-Between, rolls-Among, rolls-IsNull}
use Rattle.cs_model.specs.declared.truth.Truth.{Truth}
use Rattle.cs_model.specs.declared.truth.Truth.TheVariants.{True, False, Unknown}
use Rattle.cs_model.specs.Truths.{truth, truth_step, operand_of, and, or, not, not_if, any_of, all_of, compare, between, among, truth_if, is_null}
use Rattle.row_group.specs.Groups.{Group, row_at}
use Rattle.batch_filter.specs.Sieves.{is_asked, asks}

true-all : (ts : List Truth) → is_asked true (all_of ts) ≡ list_all (is_asked true) ts
true-all [] = refl
true-all (t ∷ ts) = one t (all_of ts) ∙ ap (λ b. is_asked true t && b) (true-all ts)
  where
    one : (a b : Truth) → is_asked true (and a b) ≡ (is_asked true a && is_asked true b)
    one True b = refl
    one False b = refl
    one Unknown True = refl
    one Unknown False = refl
    one Unknown Unknown = refl

false-all : (ts : List Truth) → is_asked false (all_of ts) ≡ list_any (is_asked false) ts
false-all [] = refl
false-all (t ∷ ts) = one t (all_of ts) ∙ ap (λ b. is_asked false t || b) (false-all ts)
  where
    one : (a b : Truth) → is_asked false (and a b) ≡ (is_asked false a || is_asked false b)
    one True b = refl
    one False b = refl
    one Unknown True = refl
    one Unknown False = refl
    one Unknown Unknown = refl

pub true-any : (ts : List Truth) → is_asked true (any_of ts) ≡ list_any (is_asked true) ts
true-any [] = refl
true-any (t ∷ ts) = one t (any_of ts) ∙ ap (λ b. is_asked true t || b) (true-any ts)
  where
    one : (a b : Truth) → is_asked true (or a b) ≡ (is_asked true a || is_asked true b)
    one True b = refl
    one False b = refl
    one Unknown True = refl
    one Unknown False = refl
    one Unknown Unknown = refl

false-any : (ts : List Truth) → is_asked false (any_of ts) ≡ list_all (is_asked false) ts
false-any [] = refl
false-any (t ∷ ts) = one t (any_of ts) ∙ ap (λ b. is_asked false t && b) (false-any ts)
  where
    one : (a b : Truth) → is_asked false (or a b) ≡ (is_asked false a && is_asked false b)
    one True b = refl
    one False b = refl
    one Unknown True = refl
    one Unknown False = refl
    one Unknown Unknown = refl

pub list_any-map : {X Y : Type 0} (p : X → Bool) (h : Y → X) (ys : List Y) → list_any p (map h ys) ≡ list_any (λ y. p (h y)) ys
list_any-map p h [] = refl
list_any-map p h (y ∷ ys) = ap (λ b. p (h y) || b) (list_any-map p h ys)

-- NOT has the truth that is asked for where its part has the other one
pub asked-not : (holds : Bool) (t : Truth) → is_asked holds (not t) ≡ is_asked (flipped holds) t
asked-not true True = refl
asked-not true False = refl
asked-not true Unknown = refl
asked-not false True = refl
asked-not false False = refl
asked-not false Unknown = refl

-- a truth turned round or not
abbrev pub turned_if : Bool → Bool → Bool
turned_if true holds = flipped holds
turned_if false holds = holds

pub asked-not_if : (holds negated other : Bool) (t : Truth) → other ≡ turned_if negated holds → is_asked holds (not_if negated t) ≡ is_asked other t
asked-not_if holds true other t e = asked-not holds t ∙ ap (λ h. is_asked h t) (sym e)
asked-not_if holds false other t e = ap (λ h. is_asked h t) (sym e)

module _ (schema : Schema) (row : List Value) where
  pub truth-all : (parts : List Pred) → truth (AllOf parts) row schema ≡ all_of (map (λ p. truth p row schema) parts)
  truth-all parts = ap (λ p. truth p row schema) (sym (rolls-AllOf parts)) ∙ fold-roll-Pred Truth (truth_step schema row) (Pred-F.AllOf parts)

  pub truth-any : (parts : List Pred) → truth (AnyOf parts) row schema ≡ any_of (map (λ p. truth p row schema) parts)
  truth-any parts = ap (λ p. truth p row schema) (sym (rolls-AnyOf parts)) ∙ fold-roll-Pred Truth (truth_step schema row) (Pred-F.AnyOf parts)

  pub truth-not : (part : Pred) → truth (Not part) row schema ≡ not (truth part row schema)
  truth-not part = ap (λ p. truth p row schema) (sym (rolls-Not part)) ∙ fold-roll-Pred Truth (truth_step schema row) (Pred-F.Not part)

  pub truth-compare : (left : Operand) (sign : Relation) (right : Operand) → truth (Compare left sign right) row schema ≡ compare sign (operand_of schema row left) (operand_of schema row right)
  truth-compare left sign right = ap (λ p. truth p row schema) (sym (rolls-Compare left sign right)) ∙ fold-roll-Pred Truth (truth_step schema row) (Pred-F.Compare left sign right)

  pub truth-between : (i : ℕ) (negated : Bool) (low high : Loose) → truth (Between i negated low high) row schema ≡ not_if negated (between low high (loose_at schema row i))
  truth-between i negated low high = ap (λ p. truth p row schema) (sym (rolls-Between i negated low high)) ∙ fold-roll-Pred Truth (truth_step schema row) (Pred-F.Between i negated low high)

  pub truth-among : (i : ℕ) (negated : Bool) (list : List Loose) → truth (Among i negated list) row schema ≡ not_if negated (among (loose_at schema row i) list)
  truth-among i negated list = ap (λ p. truth p row schema) (sym (rolls-Among i negated list)) ∙ fold-roll-Pred Truth (truth_step schema row) (Pred-F.Among i negated list)

  pub truth-null : (i : ℕ) (negated : Bool) → truth (IsNull i negated) row schema ≡ not_if negated (truth_if (is_null (loose_at schema row i)))
  truth-null i negated = ap (λ p. truth p row schema) (sym (rolls-IsNull i negated)) ∙ fold-roll-Pred Truth (truth_step schema row) (Pred-F.IsNull i negated)

module _ (schema : Schema) (group : Group) (i : ℕ) (parts : List Pred) where
  pub asks-true_all : asks schema group true (AllOf parts) i ≡ list_all (λ p. asks schema group true p i) parts
  asks-true_all = ap (is_asked true) (truth-all schema (row_at group i).cells parts) ∙ true-all (map (λ p. truth p (row_at group i).cells schema) parts) ∙ list_all-map (is_asked true) (λ p. truth p (row_at group i).cells schema) parts

  pub asks-false_all : asks schema group false (AllOf parts) i ≡ list_any (λ p. asks schema group false p i) parts
  asks-false_all = ap (is_asked false) (truth-all schema (row_at group i).cells parts) ∙ false-all (map (λ p. truth p (row_at group i).cells schema) parts) ∙ list_any-map (is_asked false) (λ p. truth p (row_at group i).cells schema) parts

  pub asks-true_any : asks schema group true (AnyOf parts) i ≡ list_any (λ p. asks schema group true p i) parts
  asks-true_any = ap (is_asked true) (truth-any schema (row_at group i).cells parts) ∙ true-any (map (λ p. truth p (row_at group i).cells schema) parts) ∙ list_any-map (is_asked true) (λ p. truth p (row_at group i).cells schema) parts

  pub asks-false_any : asks schema group false (AnyOf parts) i ≡ list_all (λ p. asks schema group false p i) parts
  asks-false_any = ap (is_asked false) (truth-any schema (row_at group i).cells parts) ∙ false-any (map (λ p. truth p (row_at group i).cells schema) parts) ∙ list_all-map (is_asked false) (λ p. truth p (row_at group i).cells schema) parts

pub asks-not : (schema : Schema) (group : Group) (holds : Bool) (part : Pred) (i : ℕ) → asks schema group holds (Not part) i ≡ asks schema group (flipped holds) part i
asks-not schema group holds part i = ap (is_asked holds) (truth-not schema (row_at group i).cells part) ∙ asked-not holds (truth part (row_at group i).cells schema)

-- a chain has the truth that is asked for as its parts have it
module _ (schema : Schema) (group : Group) (holds : Bool) (pred : Pred) (parts given : List Pred) (i : ℕ) (same : given ≡ parts) where
  pub any_true : holds ≡ true → pred ≡ AnyOf parts → list_any (λ q. asks schema group holds q i) given ≡ asks schema group holds pred i
  any_true h p =
      ap (λ (ps : List Pred). list_any (λ q. asks schema group holds q i) ps) same ∙ ap (λ b. list_any (λ q. asks schema group b q i) parts) h
      ∙ sym (asks-true_any schema group i parts) ∙ ap (λ b. asks schema group b (AnyOf parts) i) (sym h) ∙ ap (λ q. asks schema group holds q i) (sym p)

  pub any_false : holds ≡ false → pred ≡ AnyOf parts → list_all (λ q. asks schema group holds q i) given ≡ asks schema group holds pred i
  any_false h p =
      ap (λ (ps : List Pred). list_all (λ q. asks schema group holds q i) ps) same ∙ ap (λ b. list_all (λ q. asks schema group b q i) parts) h
      ∙ sym (asks-false_any schema group i parts) ∙ ap (λ b. asks schema group b (AnyOf parts) i) (sym h) ∙ ap (λ q. asks schema group holds q i) (sym p)

  pub all_true : holds ≡ true → pred ≡ AllOf parts → list_all (λ q. asks schema group holds q i) given ≡ asks schema group holds pred i
  all_true h p =
      ap (λ (ps : List Pred). list_all (λ q. asks schema group holds q i) ps) same ∙ ap (λ b. list_all (λ q. asks schema group b q i) parts) h
      ∙ sym (asks-true_all schema group i parts) ∙ ap (λ b. asks schema group b (AllOf parts) i) (sym h) ∙ ap (λ q. asks schema group holds q i) (sym p)

  pub all_false : holds ≡ false → pred ≡ AllOf parts → list_any (λ q. asks schema group holds q i) given ≡ asks schema group holds pred i
  all_false h p =
      ap (λ (ps : List Pred). list_any (λ q. asks schema group holds q i) ps) same ∙ ap (λ b. list_any (λ q. asks schema group b q i) parts) h
      ∙ sym (asks-false_all schema group i parts) ∙ ap (λ b. asks schema group b (AllOf parts) i) (sym h) ∙ ap (λ q. asks schema group holds q i) (sym p)
