-- A step in a comment.
use Rattle.std.proofs.Common.{◌≡◌, ℕ, ◌+◌, ◌-◌, ◌<◌, List, [], ◌∷◌, drop, length, true, false, refl, arith}
use Rattle.std.specs.Prelude.{◌==◌, nat_le, None, Some}
use Rattle.std.proofs.lemmas.Bool.Decides.{nat_tests}
use Rattle.tsql_tokens.specs.Lexemes.{opens, closes}
use Rattle.tsql_tokens.specs.Limits.{too_deep}
use Rattle.tsql_tokens.specs.Behind.{after_comment}

not_one : (n : ℕ) → 1 < n → (n == 1) ≡ false
not_one n h = grind (arith, nat_tests)

pub comment_ends : (ts : List ℕ) → closes ts ≡ true → after_comment 1 ts ≡ Some (drop 2 ts)
unfolding after_comment closes
comment_ends [] e = absurd cc
comment_ends (b ∷ []) e = absurd cc
comment_ends (b ∷ c ∷ ts) e = rw e refl

pub comment_closes : (n : ℕ) (ts : List ℕ) → closes ts ≡ true → 1 < n → after_comment n ts ≡ after_comment (n - 1) (drop 2 ts)
unfolding after_comment closes
comment_closes n [] e h = absurd cc
comment_closes n (b ∷ []) e h = absurd cc
comment_closes n (b ∷ c ∷ ts) e h = let k : (n == 1) ≡ false = not_one n h in rw (e, k) refl

pub comment_opens : (n : ℕ) (ts : List ℕ) → closes ts ≡ false → opens ts ≡ true → after_comment n ts ≡ after_comment (n + 1) (drop 2 ts)
unfolding after_comment closes opens
comment_opens n [] f e = absurd cc
comment_opens n (b ∷ []) f e = absurd cc
comment_opens n (b ∷ c ∷ ts) f e = rw (f, e) refl

pub comment_goes : (n : ℕ) (ts : List ℕ) → closes ts ≡ false → opens ts ≡ false → after_comment n ts ≡ after_comment n (drop 1 ts)
unfolding after_comment closes opens
comment_goes n [] f e = refl
comment_goes n (b ∷ []) f e = refl
comment_goes n (b ∷ c ∷ ts) f e = rw (f, e) refl

pub comment_is_open : (n : ℕ) (ts : List ℕ) → length ts < 2 → after_comment n ts ≡ None
unfolding after_comment
comment_is_open n [] h = refl
comment_is_open n (b ∷ []) h = refl
comment_is_open n (b ∷ c ∷ ts) h = absurd (omega arith)

pub ruleset comment_steps = (comment_ends, comment_closes, comment_opens, comment_goes, comment_is_open)

-- ---- how deep it is

pub deep_opens : (n : ℕ) (ts : List ℕ) → opens ts ≡ true → nat_le 64 n ≡ false → too_deep n ts ≡ too_deep (n + 1) (drop 2 ts)
unfolding too_deep opens
deep_opens n [] e h = absurd cc
deep_opens n (b ∷ []) e h = absurd cc
deep_opens n (b ∷ c ∷ ts) e h = rw (e, h) refl

pub deep_is : (n : ℕ) (ts : List ℕ) → opens ts ≡ true → nat_le 64 n ≡ true → too_deep n ts ≡ Some ts
unfolding too_deep opens
deep_is n [] e h = absurd cc
deep_is n (b ∷ []) e h = absurd cc
deep_is n (b ∷ c ∷ ts) e h = rw (e, h) refl

pub deep_closes : (n : ℕ) (ts : List ℕ) → opens ts ≡ false → closes ts ≡ true → too_deep n ts ≡ too_deep (n - 1) (drop 2 ts)
unfolding too_deep opens closes
deep_closes n [] f e = absurd cc
deep_closes n (b ∷ []) f e = absurd cc
deep_closes n (b ∷ c ∷ ts) f e = rw (f, e) refl

pub deep_goes : (n : ℕ) (ts : List ℕ) → opens ts ≡ false → closes ts ≡ false → too_deep n ts ≡ too_deep n (drop 1 ts)
unfolding too_deep opens closes
deep_goes n [] f e = refl
deep_goes n (b ∷ []) f e = refl
deep_goes n (b ∷ c ∷ ts) f e = rw (f, e) refl

pub deep_is_none : (n : ℕ) (ts : List ℕ) → length ts < 2 → too_deep n ts ≡ None
unfolding too_deep
deep_is_none n [] h = refl
deep_is_none n (b ∷ []) h = refl
deep_is_none n (b ∷ c ∷ ts) h = absurd (omega arith)

pub ruleset deep_steps = (deep_opens, deep_is, deep_closes, deep_goes, deep_is_none)
