-- A list in parts of 1,024: what stands where, and what a change of one part does to the whole.
use Rattle.std.proofs.Common.{◌≡◌, ℕ, zero, suc, ◌+◌, ◌-◌, ◌*◌, ◌<◌, ◌≤◌, min, List, [], ◌∷◌, ◌++◌, length, get_or, set, slice_get, refl, sym, ap, ◌∙◌, arith, append_assoc, length-append}
use Rattle.std.specs.List.{flat_map}
use Rattle.std.proofs.lemmas.List.{append-nil, nil_from_length, set-append_left, set-append_right}

abbrev pub whole : {X : Type 0} → List (List X) → List X
whole parts = flat_map (λ part. part) parts

-- the parts have the first `len` places, 1,024 a part
abbrev pub IsCut : {X : Type 0} → List (List X) → ℕ → Type 0
IsCut parts len = (i : ℕ) → length (get_or parts i []) ≡ min 1024 (len - 1024 * i)

pub get_front : {X : Type 0} (xs ys : List X) (i : ℕ) → i < length xs → slice_get (xs ++ ys) i ≡ slice_get xs i
get_front [] ys i l = absurd (omega (arith, l))
get_front (x ∷ xs) ys zero l = refl
get_front (x ∷ xs) ys (suc i) l = get_front xs ys i (omega (arith, l))

pub get_behind : {X : Type 0} (xs ys : List X) (n m : ℕ) → n ≡ length xs + m → slice_get (xs ++ ys) n ≡ slice_get ys m
get_behind [] ys n m is = let same : n ≡ m = omega (arith, is) in ap (slice_get ys) same
get_behind (x ∷ xs) ys zero m is = absurd (omega (arith, is))
get_behind (x ∷ xs) ys (suc n) m is = get_behind xs ys n m (omega (arith, is))

module _ {X : Type 0} where
  first : (p : List X) (ps : List (List X)) (len : ℕ) → IsCut (p ∷ ps) len → length p ≡ min 1024 len
  first p ps len cut = let h = cut 0 in omega (arith, h)

  rest : (p : List X) (ps : List (List X)) (len : ℕ) → IsCut (p ∷ ps) len → IsCut ps (len - 1024)
  rest p ps len cut i = let h = cut (suc i) in omega (arith, h)

  pub length-whole : (ps : List (List X)) (len : ℕ) → IsCut ps len → length (whole ps) ≡ len
  length-whole [] len cut = let h = cut 0 in omega (arith, h)
  length-whole (p ∷ ps) len cut =
      let front = first p ps len cut in
      let behind = length-whole ps (len - 1024) (rest p ps len cut) in
      let both = length-append p (whole ps) in
      omega (arith, front, behind, both)

  -- the place 1024 * i + r is place r of part i
  pub get-whole : (ps : List (List X)) (len i r n : ℕ) → IsCut ps len → r < 1024 → n ≡ 1024 * i + r → n < len → slice_get (whole ps) n ≡ slice_get (get_or ps i []) r
  get-whole [] len i r n cut small is below = absurd (let h = cut 0 in omega (arith, h))
  get-whole (p ∷ ps) len zero r n cut small is below =
      let front = first p ps len cut in
      let same : n ≡ r = omega arith in
      get_front p (whole ps) n (omega (arith, front)) ∙ ap (slice_get p) same
  get-whole (p ∷ ps) len (suc i) r n cut small is below =
      let front = first p ps len cut in
      get_behind p (whole ps) n (n - 1024) (omega (arith, front)) ∙ get-whole ps (len - 1024) i r (n - 1024) (rest p ps len cut) small (omega arith) (omega arith)

  pub set-whole : (ps : List (List X)) (len i r n : ℕ) (x : X) → IsCut ps len → r < 1024 → n ≡ 1024 * i + r → n < len → set (whole ps) n x ≡ whole (set ps i (set (get_or ps i []) r x))
  set-whole [] len i r n x cut small is below = absurd (let h = cut 0 in omega (arith, h))
  set-whole (p ∷ ps) len zero r n x cut small is below =
      let front = first p ps len cut in
      let same : n ≡ r = omega arith in
      set-append_left p (whole ps) n x (omega (arith, front)) ∙ ap (λ k. set p k x ++ whole ps) same
  set-whole (p ∷ ps) len (suc i) r n x cut small is below =
      let front = first p ps len cut in
      set-append_right p (whole ps) 1024 n x (omega (arith, front)) (omega arith)
      ∙ ap (λ xs. p ++ xs) (set-whole ps (len - 1024) i r (n - 1024) x (rest p ps len cut) small (omega arith) (omega arith))

  -- one more after the last part that has some is one more after them all
  pub push-whole : (ps : List (List X)) (len i : ℕ) (x : X) → IsCut ps len → i < length ps → 1024 * i ≤ len → len < 1024 * i + 1024 → whole (set ps i (get_or ps i [] ++ x ∷ [])) ≡ whole ps ++ x ∷ []
  push-whole [] len i x cut there from below = absurd (omega (arith, there))
  push-whole (p ∷ ps) len zero x cut there from below =
      let none = length-whole ps (len - 1024) (rest p ps len cut) in
      let nil : whole ps ≡ [] = nil_from_length (whole ps) (omega (arith, none)) in
      ap (λ xs. (p ++ x ∷ []) ++ xs) nil ∙ append-nil (p ++ x ∷ []) ∙ ap (λ xs. xs ++ x ∷ []) (sym (append-nil p)) ∙ ap (λ xs. (p ++ xs) ++ x ∷ []) (sym nil)
  push-whole (p ∷ ps) len (suc i) x cut there from below =
      ap (λ xs. p ++ xs) (push-whole ps (len - 1024) i x (rest p ps len cut) (omega (arith, there)) (omega arith) (omega arith)) ∙ sym (append_assoc p (whole ps) (x ∷ []))

  -- parts that agree one by one make one whole
  pub whole-same : (ps qs : List (List X)) → ((i : ℕ) → get_or ps i [] ≡ get_or qs i []) → whole ps ≡ whole qs
  whole-same [] [] same = refl
  whole-same [] (q ∷ qs) same = whole-same [] qs (λ i. same (suc i)) ∙ ap (λ xs. xs ++ whole qs) (same 0)
  whole-same (p ∷ ps) [] same = ap (λ xs. xs ++ whole ps) (same 0) ∙ whole-same ps [] (λ i. same (suc i))
  whole-same (p ∷ ps) (q ∷ qs) same = ap (λ xs. xs ++ whole ps) (same 0) ∙ ap (λ xs. q ++ xs) (whole-same ps qs (λ i. same (suc i)))
