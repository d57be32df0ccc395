-- Lists of cells that are there once, and the rows that have them.
use Rattle.std.proofs.Common.{◌≡◌, ℕ, Bool, true, false, cond, ◌||◌, List, [], ◌∷◌, ◌++◌, filter, refl, sym, ap, subst, ◌∙◌, inl, inr, true≢false}
use Rattle.std.specs.List.{list_any}
use Rattle.std.proofs.lemmas.Bool.{cond-true, cond-false, cases_Bool}
use Rattle.std.proofs.lemmas.List.Folds.{list_any-append}
use Rattle.cs_types.specs.declared.Value.{Value}
use Rattle.cs_model.specs.Groups.{Group, cells_of, same_cells}
use Rattle.answer_laws.proofs.Orders.{same_decides}

pub same-is : (a b : List Value) → same_cells a b ≡ true → a ≡ b
same-is a b = (same_decides a b).0

pub same-itself : (a : List Value) → same_cells a a ≡ true
same-itself a = (same_decides a a).1 refl

pub same-turned : (a b : List Value) (r : Bool) → same_cells a b ≡ r → same_cells b a ≡ r
same-turned a b true e = subst (λ c. same_cells c a ≡ true) (same-is a b e) (same-itself a)
same-turned a b false e = elim (cases_Bool (same_cells b a)) [
  | inl t ↦ absurd (true≢false (sym (subst (λ c. same_cells c b ≡ true) (same-is b a t) (same-itself b)) ∙ e))
  | inr f ↦ f
]

-- these lists of cells with one more, where it is new
abbrev pub with_cells : List (List Value) → List Value → List (List Value)
with_cells found cells = cond (list_any (same_cells cells) found) found (found ++ cells ∷ [])

or-assoc : (a b c : Bool) → ((a || (b || false)) || c) ≡ (a || (b || c))
or-assoc true b c = refl
or-assoc false true c = refl
or-assoc false false c = refl

or-known : (a b c : Bool) → (b ≡ true → a ≡ true) → (a || c) ≡ (a || (b || c))
or-known true b c h = refl
or-known false true c h = absurd (true≢false (sym (h refl)))
or-known false false c h = refl

pub any-with : (k : List Value) (found : List (List Value)) (x : List Value) (c : Bool) → (list_any (same_cells k) (with_cells found x) || c) ≡ (list_any (same_cells k) found || (same_cells k x || c))
any-with k found x c = elim (cases_Bool (list_any (same_cells x) found)) [
  | inl t ↦
      ap (λ ks. list_any (same_cells k) ks || c) (cond-true _ _ _ t)
      ∙ or-known (list_any (same_cells k) found) (same_cells k x) c (λ e. subst (λ y. list_any (same_cells y) found ≡ true) (sym (same-is k x e)) t)
  | inr f ↦
      ap (λ ks. list_any (same_cells k) ks || c) (cond-false _ _ _ f)
      ∙ ap (λ b. b || c) (list_any-append (same_cells k) found (x ∷ []))
      ∙ or-assoc (list_any (same_cells k) found) (same_cells k x) c
]

pub or-end : (a : Bool) → (a || false) ≡ a
or-end true = refl
or-end false = refl

module _ (columns : List ℕ) where
  abbrev pub key : List Value → List Value
  key = cells_of columns

  abbrev pub having : List Value → List Value → Bool
  having k row = same_cells (key row) k

  abbrev pub group_at : List (List Value) → List Value → Group
  group_at rows k = (k, filter (having k) rows)
