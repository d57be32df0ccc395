-- Entries, their places and their codes.
use Rattle.std.proofs.Common.{◌≡◌, ℕ, ◌+◌, ◌-◌, ◌<◌, ◌↔◌, inl, inr, List, [], ◌∷◌, ◌++◌, length, get_or, map, refl, sym, ◌∙◌, ap, subst, arith, Bool, true, false, IsTrue, Contains, Option, None, Some, cond, nat_lt, slice_get, option_map, zero, suc}
use Rattle.std.specs.declared.cmp.Ordering.{Ordering}
use Rattle.std.specs.declared.cmp.Ordering.TheVariants.{Less}
use Rattle.std.specs.Int.{from_bool}
use Rattle.std.proofs.lemmas.Bool.Decides.{nat_tests}
use Rattle.std.proofs.lemmas.Bool.{cases_lt}
use Rattle.std.proofs.lemmas.List.{get_or-map, length-map, length_push, get_or_append_left, get_or_push}
use Rattle.std.proofs.lemmas.List.Elements.{All-contains}
use Rattle.std.proofs.lemmas.Option.{slice_get_within, get_or_from_slice_get}
use Rattle.segment_dict.specs.Dictionaries.{Ascends, AreDistinct, IsDictOf, IsCodeOf}

Contains-map : {X Y : Type 0} (f : X → Y) (xs : List X) (x : X) → Contains xs x → Contains (map f xs) (f x)
Contains-map f xs x (k, l, e) = (k, omega (arith, length-map xs f), get_or-map f xs k x (f x) l ∙ ap f e)

Contains-from_map : {X Y : Type 0} (f : X → Y) (xs : List X) (y : Y) → Contains (map f xs) y → (x : X) × Contains xs x × (f x ≡ y)
Contains-from_map f [] y (k, l, e) = absurd (omega arith)
Contains-from_map f (x ∷ xs) y (zero, l, e) = (x, (0, omega arith, refl), e)
Contains-from_map f (x ∷ xs) y (suc k, l, e) =
    let (z, (i, m, g), h) = Contains-from_map f xs y (k, omega arith, e) in
    (z, (suc i, omega arith, g), h)

pub Ascends-map : {X Y : Type 0} (f : X → Y) {cmp : X → X → Ordering} (order : Y → Y → Ordering) → ((x y : X) → cmp x y ≡ Less → order (f x) (f y) ≡ Less) → (xs : List X) → Ascends cmp xs → Ascends order (map f xs)
Ascends-map f order less [] up = λ i j d l h. absurd (omega arith)
Ascends-map f order less (x ∷ xs) up = λ i j d l h.
    let there : j < length (x ∷ xs) = omega (arith, length-map (x ∷ xs) f) in
    ap (λ y. order y (get_or (map f (x ∷ xs)) j d)) (get_or-map f (x ∷ xs) i x d (omega arith))
    ∙ ap (λ y. order (f (get_or (x ∷ xs) i x)) y) (get_or-map f (x ∷ xs) j x d there)
    ∙ less (get_or (x ∷ xs) i x) (get_or (x ∷ xs) j x) (up i j x l there)

-- distinct values give a dictionary of what a function sees of them, where the function sees no more than their order does
pub IsDictOf-map : {X Y : Type 0} (f : X → Y) {cmp : X → X → Ordering} {eq : X → X → Bool} (order : Y → Y → Ordering) → ((x y : X) → cmp x y ≡ Less → order (f x) (f y) ≡ Less) → ((x y : X) → eq x y ≡ true → f x ≡ f y) → (cells : List (Option X)) (values : List X) (nulls : Bool) → AreDistinct cmp eq cells values → (IsTrue nulls ↔ Contains cells None) → IsDictOf order (map (option_map f) cells) (map f values) nulls
IsDictOf-map {X} {Y} f {cmp} {eq} order less alike cells values nulls are null = record {
  ascending = Ascends-map f {cmp = cmp} order less values are.ascending;
  same = λ y. (from_entry y, to_entry y);
  null = ((λ t. Contains-map (option_map f) cells None (null.0 t)), (λ has. null.1 (none_from has)));
}
  where
    from_entry : (y : Y) → Contains (map f values) y → Contains (map (option_map f) cells) (Some y)
    from_entry y has =
        let (x, there, e) = Contains-from_map f values y has in
        subst (λ (z : Y). Contains (map (option_map f) cells) (Some z)) e
        (Contains-map (option_map f) cells (Some x) (All-contains (λ z. Contains cells (Some z)) values x are.from_cells there))

    to_entry : (y : Y) → Contains (map (option_map f) cells) (Some y) → Contains (map f values) y
    to_entry y has = found y (Contains-from_map (option_map f) cells (Some y) has)
      where
        found : (y : Y) → (cell : Option X) × Contains cells cell × (option_map f cell ≡ Some y) → Contains (map f values) y
        found y (None, there, e) = cc
        found y (Some x, there, e) =
            let (k, z, l, is, same) = are.all x there in
            let e' : f x ≡ y = cc in
            subst (λ (w : Y). Contains (map f values) w) (sym (alike x z same) ∙ e') (Contains-map f values z (k, l, is))

    none_from : Contains (map (option_map f) cells) None → Contains cells None
    none_from has = found (Contains-from_map (option_map f) cells None has)
      where
        found : (cell : Option X) × Contains cells cell × (option_map f cell ≡ None) → Contains cells None
        found (None, there, e) = there
        found (Some x, there, e) = cc

pub same_cells : {X : Type 0} (cells : List (Option X)) → map (option_map (λ x. x)) cells ≡ cells
same_cells [] = refl
same_cells (None ∷ cells) = ap (λ c. None ∷ c) (same_cells cells)
same_cells (Some x ∷ cells) = ap (λ c. Some x ∷ c) (same_cells cells)

-- a place's code reads its entry
pub IsCodeOf-place : {X : Type 0} (entries : List X) (nulls : Bool) (x : X) (place : ℕ) → slice_get entries place ≡ Some x → IsCodeOf entries nulls (Some x) (place + from_bool nulls)
IsCodeOf-place entries nulls x place e =
    let there = slice_get_within entries place x e in
    let later : nat_lt (place + from_bool nulls) (from_bool nulls) ≡ false = grind (arith, nat_tests) in
    let same : place + from_bool nulls - from_bool nulls ≡ place = omega arith in
    (omega arith, ap (λ b. cond b None (slice_get entries (place + from_bool nulls - from_bool nulls))) later ∙ ap (slice_get entries) same ∙ e)

pub Contains-place : {X : Type 0} (entries : List X) (x : X) (place : ℕ) → slice_get entries place ≡ Some x → Contains entries x
Contains-place entries x place e = (place, slice_get_within entries place x e, get_or_from_slice_get entries place x x e)

-- the codes of the first n cells
pub record AreCodesBelow {X : Type 0} (entries : List X) (nulls : Bool) (cells : List (Option X)) (n : ℕ) (codes : List ℕ) : Type 0 where
  pub counted : length codes ≡ n
  pub are : (k : ℕ) → k < n → (cell : Option X) → slice_get cells k ≡ Some cell → IsCodeOf entries nulls cell (get_or codes k 0)

pub AreCodesBelow-push : {X : Type 0} (entries : List X) (nulls : Bool) (cells : List (Option X)) (n : ℕ) (codes : List ℕ) (code : ℕ) (d : Option X) → AreCodesBelow entries nulls cells n codes → IsCodeOf entries nulls (get_or cells n d) code → AreCodesBelow entries nulls cells (n + 1) (codes ++ code ∷ [])
AreCodesBelow-push {X} entries nulls cells n codes code d is last =
    let counted : length codes ≡ n = is.counted in
    record {
      counted = omega (arith, length_push codes code, counted);
      are = λ k l cell e. elim (cases_lt k n) [
        | inl less ↦
            subst (λ (m : ℕ). IsCodeOf entries nulls cell m) (sym (get_or_append_left codes (code ∷ []) 0 k (omega (arith, less, counted)))) (is.are k less cell e)
        | inr more ↦
            let same : k ≡ n = omega arith in
            let here : get_or cells n d ≡ cell = ap (λ j. get_or cells j d) (sym same) ∙ get_or_from_slice_get cells k cell d e in
            subst (λ (m : ℕ). IsCodeOf entries nulls cell m) (sym (get_or_push codes code 0 k (omega (arith, same, counted))))
            (subst (λ (o : Option X). IsCodeOf entries nulls o code) here last)
      ];
    }
