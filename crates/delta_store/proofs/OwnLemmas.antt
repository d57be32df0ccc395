-- Which versions of a chunk are own.
use Rattle.std.proofs.Common.{◌≡◌, ℕ, zero, suc, ◌+◌, ◌<◌, ◌≤◌, true, false, List, [], ◌∷◌, ◌++◌, map, length, get_or, refl, arith, length-append}
use Rattle.std.proofs.lemmas.List.{length-map}
use Rattle.delta_store.specs.declared.chunk.Chunk.{Chunk}
use Rattle.delta_store.specs.declared.version.LinkedVersion.{LinkedVersion}
use Rattle.delta_store.specs.Chunks.{shared_in, versions_in, owns_in, versions_at, own_at}

-- ---- of one chunk: after the versions of its pieces come the own ones

all_own : (ys : List LinkedVersion) (n : ℕ) → n < length ys → get_or (map (λ (v : LinkedVersion). true) ys) n false ≡ true
all_own [] n below = absurd (omega (arith, below))
all_own (y ∷ ys) zero below = refl
all_own (y ∷ ys) (suc n) below = all_own ys n (omega (arith, below))

own_after : (xs ys : List LinkedVersion) (n : ℕ) → length xs ≤ n → n < length xs + length ys → get_or (map (λ (v : LinkedVersion). false) xs ++ map (λ (v : LinkedVersion). true) ys) n false ≡ true
own_after [] ys n from below = all_own ys n (omega (arith, below))
own_after (x ∷ xs) ys zero from below = absurd (omega (arith, from))
own_after (x ∷ xs) ys (suc n) from below = own_after xs ys n (omega (arith, from)) (omega (arith, below))

after_own : (xs ys : List LinkedVersion) (n : ℕ) → get_or (map (λ (v : LinkedVersion). false) xs ++ map (λ (v : LinkedVersion). true) ys) n false ≡ true → length xs ≤ n
after_own [] ys n own = omega arith
after_own (x ∷ xs) ys zero own = absurd (cc)
after_own (x ∷ xs) ys (suc n) own = let from = after_own xs ys n own in omega (arith, from)

owns-long : (c : Chunk) → length (owns_in c) ≡ length (versions_in c)
owns-long c =
    let flags = length-append (map (λ (v : LinkedVersion). false) (shared_in c.pieces)) (map (λ (v : LinkedVersion). true) c.own.items) in
    let both = length-append (shared_in c.pieces) c.own.items in
    let front = length-map (shared_in c.pieces) (λ (v : LinkedVersion). false) in
    let behind = length-map c.own.items (λ (v : LinkedVersion). true) in
    omega (arith, flags, both, front, behind)

-- ---- of the chunk at a place

pub owns_at-long : (cs : List Chunk) (i : ℕ) → length (get_or (map owns_in cs) i []) ≡ length (versions_at cs i)
owns_at-long [] i = refl
owns_at-long (c ∷ cs) zero = owns-long c
owns_at-long (c ∷ cs) (suc i) = owns_at-long cs i

pub owns_at-from : (cs : List Chunk) (i r : ℕ) → get_or (get_or (map owns_in cs) i []) r false ≡ true → own_at cs i ≤ r
owns_at-from [] i r own = omega arith
owns_at-from (c ∷ cs) zero r own = after_own (shared_in c.pieces) c.own.items r own
owns_at-from (c ∷ cs) (suc i) r own = owns_at-from cs i r own

pub owns_at-own : (cs : List Chunk) (i r : ℕ) → own_at cs i ≤ r → r < length (versions_at cs i) → get_or (get_or (map owns_in cs) i []) r false ≡ true
owns_at-own [] i r from below = absurd (omega (arith, below))
owns_at-own (c ∷ cs) zero r from below = let both = length-append (shared_in c.pieces) c.own.items in own_after (shared_in c.pieces) c.own.items r from (omega (arith, both, below))
owns_at-own (c ∷ cs) (suc i) r from below = owns_at-own cs i r from below
