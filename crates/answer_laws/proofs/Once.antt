-- The groups of rows in another order.
use Rattle.std.proofs.Common.{◌≡◌, ℕ, Bool, true, false, cond, ◌||◌, List, [], ◌∷◌, ◌++◌, append_assoc, map, fold, refl, sym, ap, subst, ◌∙◌, inl, inr}
use Rattle.std.specs.List.{list_any}
use Rattle.std.specs.List.Sorted.{IsPermutation}
use Rattle.std.proofs.lemmas.Bool.{cases_Bool}
use Rattle.std.proofs.lemmas.List.Sorted.{IsPermutation-refl, IsPermutation-trans, IsPermutation-append_left, IsPermutation-append_right, IsPermutation-map, list_any-IsPermutation}
use Rattle.cs_types.specs.declared.Value.{Value}
use Rattle.cs_model.specs.Groups.{Group, cells_of, same_cells, each_once, gathered, groups_of}
use Rattle.answer_laws.proofs.Gathered.{same-is, same-turned, with_cells, any-with, or-end, having, group_at}
use Rattle.answer_laws.proofs.Moves.{by_moves, filter-moved, flipped}

abbrev with_if : Bool → List (List Value) → List Value → List (List Value)
with_if b found k = cond b found (found ++ k ∷ [])

if-moved : (b : Bool) (k : List Value) (found others : List (List Value)) → IsPermutation found others → IsPermutation (with_if b found k) (with_if b others k)
if-moved true k found others moved = moved
if-moved false k found others moved = IsPermutation-append_left (k ∷ []) found others moved

with-moved : (k : List Value) (found others : List (List Value)) → IsPermutation found others → IsPermutation (with_cells found k) (with_cells others k)
with-moved k found others moved =
    subst (λ b. IsPermutation (with_cells found k) (with_if b others k)) (list_any-IsPermutation (same_cells k) found others moved)
    (if-moved (list_any (same_cells k) found) k found others moved)

found-moved : (ks found others : List (List Value)) → IsPermutation found others → IsPermutation (fold with_cells found ks) (fold with_cells others ks)
found-moved [] found others moved = moved
found-moved (k ∷ ks) found others moved = found-moved ks (with_cells found k) (with_cells others k) (with-moved k found others moved)

if-flip : (a b : Bool) (x y : List Value) (found : List (List Value)) → IsPermutation (with_if b (with_if a found x) y) (with_if a (with_if b found y) x)
if-flip true true x y found = IsPermutation-refl found
if-flip true false x y found = IsPermutation-refl (found ++ y ∷ [])
if-flip false true x y found = IsPermutation-refl (found ++ x ∷ [])
if-flip false false x y found =
    subst (λ l. IsPermutation l ((found ++ y ∷ []) ++ x ∷ [])) (sym (append_assoc found (x ∷ []) (y ∷ [])))
    (subst (λ l. IsPermutation (found ++ x ∷ y ∷ []) l) (sym (append_assoc found (y ∷ []) (x ∷ []))) (IsPermutation-append_right found (x ∷ y ∷ []) (y ∷ x ∷ []) (flipped x y [])))

-- what was not equal to the one that came in was there before, or was not
still_found : (k x : List Value) (found : List (List Value)) → same_cells k x ≡ false → list_any (same_cells k) (with_cells found x) ≡ list_any (same_cells k) found
still_found k x found apart =
    sym (or-end (list_any (same_cells k) (with_cells found x))) ∙ any-with k found x false
    ∙ ap (λ b. list_any (same_cells k) found || (b || false)) apart ∙ or-end (list_any (same_cells k) found)

with-flip : (x y : List Value) (found : List (List Value)) → IsPermutation (with_cells (with_cells found x) y) (with_cells (with_cells found y) x)
with-flip x y found = elim (cases_Bool (same_cells y x)) [
  | inl t ↦
      let e = same-is y x t in
      subst (λ v. IsPermutation (with_cells (with_cells found x) v) (with_cells (with_cells found v) x)) (sym e) (IsPermutation-refl (with_cells (with_cells found x) x))
  | inr f ↦
      let a = list_any (same_cells x) found in
      let b = list_any (same_cells y) found in
      let left : with_cells (with_cells found x) y ≡ with_if b (with_cells found x) y = ap (λ c. with_if c (with_cells found x) y) (still_found y x found f) in
      let right : with_cells (with_cells found y) x ≡ with_if a (with_cells found y) x = ap (λ c. with_if c (with_cells found y) x) (still_found x y found (same-turned y x false f)) in
      subst (λ l. IsPermutation l (with_cells (with_cells found y) x)) (sym left) (subst (λ l. IsPermutation (with_if b (with_cells found x) y) l) (sym right) (if-flip a b x y found))
]

pub each_once-moved : (ks js : List (List Value)) → IsPermutation ks js → IsPermutation (each_once ks) (each_once js)
each_once-moved ks js moved =
    by_moves (λ us vs. (found others : List (List Value)) → IsPermutation found others → IsPermutation (fold with_cells found us) (fold with_cells others vs))
    (λ us found others p. found-moved us found others p)
    (λ us vs ws h k found others p. IsPermutation-trans _ _ _ (h found found (IsPermutation-refl found)) (k found others p))
    (λ x us vs h found others p. h (with_cells found x) (with_cells others x) (with-moved x found others p))
    (λ x y us found others p. IsPermutation-trans _ _ _ (found-moved us _ _ (with-flip x y found)) (found-moved us _ _ (with-moved x _ _ (with-moved y found others p))))
    ks js moved [] [] (IsPermutation-refl [])

-- a group's cells, and what is told of it
abbrev pub told : {Z : Type 0} → (Group → Z) → Group → List Value × Z
told f g = (g.0, f g)

-- what is told of a group whatever the order of its rows: the groups of rows in another order tell the same, in some order
module _ {Z : Type 0} (f : Group → Z) (same : (cells : List Value) (xs ys : List (List Value)) → IsPermutation xs ys → f (cells, xs) ≡ f (cells, ys)) where
  module _ (columns : List ℕ) (xs ys : List (List Value)) (moved : IsPermutation xs ys) where
    told-same : (ks : List (List Value)) → map (told f) (map (group_at columns xs) ks) ≡ map (told f) (map (group_at columns ys) ks)
    told-same [] = refl
    told-same (k ∷ ks) =
        ap (λ z. (k, z) ∷ map (told f) (map (group_at columns xs) ks)) (same k _ _ (filter-moved (having columns k) xs ys moved))
        ∙ ap (λ l. told f (group_at columns ys k) ∷ l) (told-same ks)

    gathered-moved : IsPermutation (map (told f) (gathered columns xs)) (map (told f) (gathered columns ys))
    gathered-moved =
        let once = each_once-moved (map (cells_of columns) xs) (map (cells_of columns) ys) (IsPermutation-map (cells_of columns) xs ys moved) in
        subst (λ l. IsPermutation l (map (told f) (gathered columns ys))) (sym (told-same (each_once (map (cells_of columns) xs))))
        (IsPermutation-map (told f) _ _ (IsPermutation-map (group_at columns ys) _ _ once))

  pub groups-moved : (columns : List ℕ) (xs ys : List (List Value)) → IsPermutation xs ys → IsPermutation (map (told f) (groups_of columns xs)) (map (told f) (groups_of columns ys))
  groups-moved [] xs ys moved = subst (λ z. IsPermutation (told f ([], xs) ∷ []) (([], z) ∷ [])) (same [] xs ys moved) (IsPermutation-refl (told f ([], xs) ∷ []))
  groups-moved (column ∷ columns) xs ys moved = gathered-moved (column ∷ columns) xs ys moved
