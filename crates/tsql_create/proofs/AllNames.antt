-- The name of a column past the 32nd is no fault before the 33rd column.
use Rattle.std.proofs.Common.{◌≡◌, ℕ, zero, suc, ◌≤◌, List, [], ◌∷◌, ◌++◌, take, drop, map, min, Bool, true, false, Option, None, Some, refl, sym, ap, subst, ◌∙◌, append_assoc, arith}
use Rattle.std.specs.Prelude.{slice_get, if◌then◌else◌}
use Rattle.std.specs.Option.{option_map, option_to_list}
use Rattle.std.proofs.lemmas.List.{take-append-drop, append-nil}
use Rattle.tsql_create.specs.declared.written.WrittenColumn.{WrittenColumn}
use Rattle.tsql_exprs.specs.Leftmost.{earlier, leftmost}
use Rattle.tsql_create.specs.Faults.{too_many, has_name, repeated_name, repeated}
use Rattle.tsql_exprs.proofs.Leftmost.{leftmost_append, earlier_none}
use Rattle.tsql_create.specs.Order.{Each, Ascend, AreInOrder}

places : List WrittenColumn → List ℕ
places w = map (λ c. c.name.place) w

repeated_split : (before a b : List WrittenColumn) → repeated before (a ++ b) ≡ repeated before a ++ repeated (before ++ a) b
repeated_split before [] b = ap (λ z. repeated z b) (sym (append-nil before))
repeated_split before (c ∷ a) b =
    ap (λ z. repeated_name before c ++ z) (repeated_split (before ++ c ∷ []) a b ∙ ap (λ z. repeated (before ++ c ∷ []) a ++ repeated z b) (append_assoc before (c ∷ []) a))
    ∙ sym (append_assoc (repeated_name before c) (repeated (before ++ c ∷ []) a) (repeated (before ++ c ∷ a) b))

-- the places that a list has are not before this one
each_append : (P : ℕ → Type 0) (a b : List ℕ) → Each P a → Each P b → Each P (a ++ b)
each_append P [] b k l = l
each_append P (x ∷ a) b k l = (k.0, each_append P a b k.1 l)

named_place : (P : ℕ → Type 0) (before : List WrittenColumn) (c : WrittenColumn) → P c.name.place → Each P (repeated_name before c)
named_place P before c h = go (has_name before c.name.bytes)
  where
    go : (b : Bool) → Each P (if b then c.name.place ∷ [] else [])
    go true = (h, tt)
    go false = tt

repeated_places : (P : ℕ → Type 0) (before w : List WrittenColumn) → Each P (map (λ c. c.name.place) w) → Each P (repeated before w)
repeated_places P before [] all = tt
repeated_places P before (c ∷ w) all =
    each_append P (repeated_name before c) (repeated (before ++ c ∷ []) w) (named_place P before c all.0) (repeated_places P (before ++ c ∷ []) w all.1)

least_stays : (q : ℕ) (ps : List ℕ) → Each (λ p. q ≤ p) ps → earlier (Some q) (leftmost ps) ≡ Some q
least_stays q [] all = refl
least_stays q (p ∷ ps) all = go (leftmost ps) (least_stays q ps all.1)
  where
    go : (o : Option ℕ) → earlier (Some q) o ≡ Some q → earlier (Some q) (earlier (Some p) o) ≡ Some q
    go None e = ap Some (let k : min q p ≡ q = omega arith in k)
    go (Some r) e = let f : min q r ≡ q = cc in ap Some (let k : min q (min p r) ≡ q = omega arith in k)

ascend_drop : (n : ℕ) (w : List WrittenColumn) → Ascend (map (λ c. c.name.place) w) → Ascend (map (λ c. c.name.place) (drop n w))
ascend_drop zero w a = a
ascend_drop (suc n) [] a = a
ascend_drop (suc n) (c ∷ w) a = ascend_drop n w a.1

first_dropped : (n : ℕ) (w : List WrittenColumn) → slice_get w n ≡ slice_get (drop n w) 0
first_dropped zero w = refl
first_dropped (suc n) [] = refl
first_dropped (suc n) (c ∷ w) = first_dropped n w

stays : (q : ℕ) (l m : Option ℕ) → earlier (Some q) m ≡ Some q → earlier (Some q) (earlier l m) ≡ earlier (Some q) l
stays q None m e = e
stays q (Some l) None e = refl
stays q (Some l) (Some m) e = let f : min q m ≡ q = cc in ap Some (let k : min q (min l m) ≡ min q l = omega arith in k)

dropped : (w before b : List WrittenColumn) (found : Option ℕ) → slice_get w 32 ≡ slice_get b 0 → Ascend (map (λ c. c.name.place) b)
    → earlier (leftmost (too_many w)) (earlier found (leftmost (repeated before b))) ≡ earlier (leftmost (too_many w)) found
dropped w before [] found e asc = ap (λ z. earlier (leftmost (too_many w)) z) (earlier_none found)
dropped w before (c ∷ rest) found e asc =
    let shown : leftmost (too_many w) ≡ Some c.name.place = ap (λ z. leftmost (option_to_list (option_map (λ (d : WrittenColumn). d.name.place) z))) e in
    let q = c.name.place in
    let all : Each (λ p. q ≤ p) (map (λ (d : WrittenColumn). d.name.place) (c ∷ rest)) = (omega arith, asc.0) in
    subst (λ z. earlier z (earlier found (leftmost (repeated before (c ∷ rest)))) ≡ earlier z found) (sym shown)
    (stays q found (leftmost (repeated before (c ∷ rest))) (least_stays q (repeated before (c ∷ rest)) (repeated_places (λ p. q ≤ p) before (c ∷ rest) all)))

-- the 33rd column comes before a name that a later column repeats
pub first_names : (w : List WrittenColumn) → AreInOrder w
    → earlier (leftmost (too_many w)) (leftmost (repeated [] w)) ≡ earlier (leftmost (too_many w)) (leftmost (repeated [] (take 32 w)))
first_names w asc =
    let whole : repeated [] w ≡ repeated [] (take 32 w) ++ repeated (take 32 w) (drop 32 w) =
    ap (λ z. repeated [] z) (sym (take-append-drop 32 w)) ∙ repeated_split [] (take 32 w) (drop 32 w) in
    ap (λ z. earlier (leftmost (too_many w)) z) (ap leftmost whole ∙ leftmost_append (repeated [] (take 32 w)) (repeated (take 32 w) (drop 32 w)))
    ∙ dropped w (take 32 w) (drop 32 w) (leftmost (repeated [] (take 32 w))) (first_dropped 32 w) (ascend_drop 32 w asc)
