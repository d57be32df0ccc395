-- Lists whose elements at each place are in a relation.
use Rattle.std.proofs.Common.{List, [], ◌∷◌, map}
use Rattle.std.specs.List.{AllZip}

module _ {X : Type 0} (R : X → X → Type 0) where
  pub zip_back : ((x y : X) → R x y → R y x) → (xs ys : List X) → AllZip R xs ys → AllZip R ys xs
  zip_back back [] [] zip = tt
  zip_back back [] (y ∷ ys) zip = absurd zip
  zip_back back (x ∷ xs) [] zip = absurd zip
  zip_back back (x ∷ xs) (y ∷ ys) zip = (back x y zip.0, zip_back back xs ys zip.1)

  -- changed by one function on one side and by one on the other
  pub zip_changed : (f k : X → X) → ((x y : X) → R x y → R (f x) (k y)) → (xs ys : List X) → AllZip R xs ys → AllZip R (map f xs) (map k ys)
  zip_changed f k step [] [] zip = tt
  zip_changed f k step [] (y ∷ ys) zip = absurd zip
  zip_changed f k step (x ∷ xs) [] zip = absurd zip
  zip_changed f k step (x ∷ xs) (y ∷ ys) zip = (step x y zip.0, zip_changed f k step xs ys zip.1)
