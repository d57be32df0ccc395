-- Two lists as long as each other, whose elements at each place are in a relation.
use Rattle.std.proofs.Common.{◌≡◌, Bool, true, false, cond, List, [], ◌∷◌, map, filter, refl}
use Rattle.std.specs.List.{All, AllByRecursion, AllZip, list_any}
use Rattle.std.proofs.lemmas.List.Elements.{recursion_from_All, All-from_recursion}
use Rattle.group_book.specs.Book.{how_many}

module _ {X : Type 0} (R : X → X → Type 0) where
  pub zip_itself : ((x : X) → R x x) → (xs : List X) → AllZip R xs xs
  zip_itself same [] = tt
  zip_itself same (x ∷ xs) = (same x, zip_itself same xs)

  pub zip_through : ((x y z : X) → R x y → R y z → R x z) → (xs ys zs : List X) → AllZip R xs ys → AllZip R ys zs → AllZip R xs zs
  zip_through both [] [] [] first second = tt
  zip_through both [] [] (z ∷ zs) first second = absurd second
  zip_through both [] (y ∷ ys) zs first second = absurd first
  zip_through both (x ∷ xs) [] zs first second = absurd first
  zip_through both (x ∷ xs) (y ∷ ys) [] first second = absurd second
  zip_through both (x ∷ xs) (y ∷ ys) (z ∷ zs) first second = (both x y z first.0 second.0, zip_through both xs ys zs first.1 second.1)

  pub zip_weaker : (S : X → X → Type 0) → ((x y : X) → R x y → S x y) → (xs ys : List X) → AllZip R xs ys → AllZip S xs ys
  zip_weaker S h [] [] zip = tt
  zip_weaker S h [] (y ∷ ys) zip = absurd zip
  zip_weaker S h (x ∷ xs) [] zip = absurd zip
  zip_weaker S h (x ∷ xs) (y ∷ ys) zip = (h x y zip.0, zip_weaker S h xs ys zip.1)

  pub zip_each : (P Q : X → Type 0) → ((x y : X) → R x y → P x → Q y) → (xs ys : List X) → AllZip R xs ys → AllByRecursion P xs → AllByRecursion Q ys
  zip_each P Q h [] [] zip all = tt
  zip_each P Q h [] (y ∷ ys) zip all = absurd zip
  zip_each P Q h (x ∷ xs) [] zip all = absurd zip
  zip_each P Q h (x ∷ xs) (y ∷ ys) zip all = (h x y zip.0 all.0, zip_each P Q h xs ys zip.1 all.1)

  pub zip_all : (P Q : X → Type 0) → ((x y : X) → R x y → P x → Q y) → (xs ys : List X) → AllZip R xs ys → All P xs → All Q ys
  zip_all P Q h xs ys zip all = All-from_recursion Q ys (zip_each P Q h xs ys zip (recursion_from_All P xs all))

  pub zip_count : (p q : X → Bool) → ((x y : X) → R x y → p x ≡ q y) → (xs ys : List X) → AllZip R xs ys → how_many p xs ≡ how_many q ys
  zip_count p q h [] [] zip = refl
  zip_count p q h [] (y ∷ ys) zip = absurd zip
  zip_count p q h (x ∷ xs) [] zip = absurd zip
  zip_count p q h (x ∷ xs) (y ∷ ys) zip = rw (h x y zip.0, zip_count p q h xs ys zip.1) refl

  pub zip_any : (p q : X → Bool) → ((x y : X) → R x y → p x ≡ q y) → (xs ys : List X) → AllZip R xs ys → list_any p xs ≡ list_any q ys
  zip_any p q h [] [] zip = refl
  zip_any p q h [] (y ∷ ys) zip = absurd zip
  zip_any p q h (x ∷ xs) [] zip = absurd zip
  zip_any p q h (x ∷ xs) (y ∷ ys) zip = rw (h x y zip.0, zip_any p q h xs ys zip.1) refl

  pub zip_filter : (p q : X → Bool) → ((x y : X) → R x y → p x ≡ q y) → (xs ys : List X) → AllZip R xs ys → AllZip R (filter p xs) (filter q ys)
  zip_filter p q h [] [] zip = tt
  zip_filter p q h [] (y ∷ ys) zip = absurd zip
  zip_filter p q h (x ∷ xs) [] zip = absurd zip
  zip_filter p q h (x ∷ xs) (y ∷ ys) zip = step (p x) (q y) (h x y zip.0) (zip_filter p q h xs ys zip.1)
    where
      step : (s t : Bool) → s ≡ t → AllZip R (filter p xs) (filter q ys) → AllZip R (cond s (x ∷ filter p xs) (filter p xs)) (cond t (y ∷ filter q ys) (filter q ys))
      step true true same rest = (zip.0, rest)
      step true false same rest = cc
      step false true same rest = cc
      step false false same rest = rest

  pub zip_map : {Y : Type 0} (f : X → Y) → ((x y : X) → R x y → f x ≡ f y) → (xs ys : List X) → AllZip R xs ys → map f xs ≡ map f ys
  zip_map f h [] [] zip = refl
  zip_map f h [] (y ∷ ys) zip = absurd zip
  zip_map f h (x ∷ xs) [] zip = absurd zip
  zip_map f h (x ∷ xs) (y ∷ ys) zip = rw (h x y zip.0, zip_map f h xs ys zip.1) refl

  pub zip_maps : (f k : X → X) (xs : List X) → AllByRecursion (λ x. R (f x) (k x)) xs → AllZip R (map f xs) (map k xs)
  zip_maps f k [] all = tt
  zip_maps f k (x ∷ xs) all = (all.0, zip_maps f k xs all.1)

  pub zip_mapped : (f : X → X) → ((x y : X) → R x y → R (f x) (f y)) → (xs ys : List X) → AllZip R xs ys → AllZip R (map f xs) (map f ys)
  zip_mapped f step [] [] zip = tt
  zip_mapped f step [] (y ∷ ys) zip = absurd zip
  zip_mapped f step (x ∷ xs) [] zip = absurd zip
  zip_mapped f step (x ∷ xs) (y ∷ ys) zip = (step x y zip.0, zip_mapped f step xs ys zip.1)
