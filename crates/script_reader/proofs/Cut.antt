-- The first line, by the place of the first byte 10.
use Rattle.std.proofs.Common.{◌≡◌, ℕ, zero, suc, ◌+◌, ◌-◌, ◌<◌, ◌≤◌, List, [], ◌∷◌, length, take, drop, map, refl, sym, ap, arith, ◌∙◌, add-one, cond, not, Bool, true, false, nat_eq, ◌&&◌}
use Rattle.std.proofs.Math.Numerals.{one-add}
use Rattle.std.proofs.lemmas.List.{take_rest, take_all, drop_all}
use Rattle.std.specs.Prelude.{◌==◌}
use Rattle.std.specs.List.{prefix_len}
use Rattle.std.specs.Cmp.Lexicographic.{pointwise}
use Rattle.script_reader.specs.Lines.{onto, pieces, trimmed, without_empty_end, lines}

-- ---- a byte 13 at the end

trim_at : (xs : List ℕ) (n : ℕ) (t : Bool) → length xs ≡ suc n → pointwise nat_eq (drop n xs) (13 ∷ []) ≡ t → trimmed xs ≡ cond t (take n xs) xs
trim_at [] n t l e = absurd (omega arith)
trim_at (b ∷ []) zero t l e = at (b == 13) t e
  where
    at : (u t : Bool) → (u && true) ≡ t → cond u [] (b ∷ []) ≡ cond t [] (b ∷ [])
    at true true e = refl
    at true false e = absurd (cc)
    at false true e = absurd (cc)
    at false false e = refl
trim_at (b ∷ []) (suc n) t l e = absurd (omega arith)
trim_at (b ∷ c ∷ cs) zero t l e = absurd (omega arith)
trim_at (b ∷ c ∷ cs) (suc n) t l e = ap (λ r. b ∷ r) (trim_at (c ∷ cs) n t (omega arith) e) ∙ at t
  where
    at : (t : Bool) → b ∷ cond t (take n (c ∷ cs)) (c ∷ cs) ≡ cond t (take (suc n) (b ∷ c ∷ cs)) (b ∷ c ∷ cs)
    at true = refl
    at false = refl

trim_by : (xs : List ℕ) (t : Bool) → pointwise nat_eq (drop (length xs - 1) xs) (13 ∷ []) ≡ t → trimmed xs ≡ cond t (take (length xs - 1) xs) xs
trim_by [] true e = absurd (cc)
trim_by [] false e = refl
trim_by (b ∷ bs) t e = trim_at (b ∷ bs) (length (b ∷ bs) - 1) t (omega arith) e

pub trim_found : (xs front : List ℕ) → pointwise nat_eq (drop (length xs - 1) xs) (13 ∷ []) ≡ true → front ≡ take (length xs - 1) xs → front ≡ trimmed xs
trim_found xs front t e = e ∙ sym (trim_by xs true t)

pub trim_none : (xs : List ℕ) → pointwise nat_eq (drop (length xs - 1) xs) (13 ∷ []) ≡ false → xs ≡ trimmed xs
trim_none xs t = sym (trim_by xs false t)

-- ---- the first byte 10

abbrev len : List ℕ → ℕ
len bs = prefix_len (λ b. not (b == 10)) bs

pieces_cut : (bs : List ℕ) → len bs < length bs → pieces bs ≡ take (len bs) bs ∷ pieces (drop (len bs + 1) bs)
pieces_cut [] h = absurd (omega arith)
pieces_cut (b ∷ bs) h =
    elim (b == 10) as (λ t. cond (not t) (1 + len bs) 0 < suc (length bs)
    → cond t ([] ∷ pieces bs) (onto b (pieces bs)) ≡ take (cond (not t) (1 + len bs) 0) (b ∷ bs) ∷ pieces (drop (cond (not t) (1 + len bs) 0 + 1) (b ∷ bs))) [
      | true ↦ λ k. refl
      | false ↦ λ k. rw (add-one, one-add, pieces_cut bs (omega arith), add-one) refl
    ] h

pieces_end : (bs : List ℕ) → length bs ≤ len bs → pieces bs ≡ bs ∷ []
pieces_end [] e = refl
pieces_end (b ∷ bs) e = elim (b == 10) as (λ t. suc (length bs) ≤ cond (not t) (1 + len bs) 0 → cond t ([] ∷ pieces bs) (onto b (pieces bs)) ≡ (b ∷ bs) ∷ [])
    [ true ↦ λ k. absurd (omega arith) | false ↦ λ k. ap (onto b) (pieces_end bs (omega arith)) ] e

-- there is always a piece
some_piece : (bs : List ℕ) → (piece : List ℕ) × (others : List (List ℕ)) × (pieces bs ≡ piece ∷ others)
some_piece [] = ([], [], refl)
some_piece (b ∷ bs) = at (b == 10) (some_piece bs)
  where
    at : (t : Bool) → (piece : List ℕ) × (others : List (List ℕ)) × (pieces bs ≡ piece ∷ others) → (piece : List ℕ) × (others : List (List ℕ)) × (cond t ([] ∷ pieces bs) (onto b (pieces bs)) ≡ piece ∷ others)
    at true p = ([], pieces bs, refl)
    at false p = (b ∷ p.0, p.1, ap (onto b) p.2)

keep_first : (first : List ℕ) (bs : List ℕ) → without_empty_end (first ∷ map trimmed (pieces bs)) ≡ first ∷ without_empty_end (map trimmed (pieces bs))
keep_first first bs = let p = some_piece bs in rw p.2 (at first (trimmed p.0) (map trimmed p.1))
  where
    at : (a b : List ℕ) (cs : List (List ℕ)) → without_empty_end (a ∷ b ∷ cs) ≡ a ∷ without_empty_end (b ∷ cs)
    at [] b cs = refl
    at (x ∷ a) b cs = refl

lines_cut : (bs : List ℕ) (n : ℕ) → n ≡ len bs → n < length bs → lines bs ≡ trimmed (take n bs) ∷ lines (drop (n + 1) bs)
lines_cut bs n e h = rw e (ap (λ ps. without_empty_end (map trimmed ps)) (pieces_cut bs (rw e at h)) ∙ keep_first (trimmed (take (len bs) bs)) (drop (len bs + 1) bs))

lines_end : (bs : List ℕ) (n : ℕ) → n ≡ len bs → length bs ≤ n → lines bs ≡ without_empty_end (trimmed bs ∷ [])
lines_end bs n e h = ap (λ ps. without_empty_end (map trimmed ps)) (pieces_end bs (rw e at h))

last_line : (line : List ℕ) → (line ≡ [] → ⊥) → without_empty_end (line ∷ []) ≡ line ∷ []
last_line [] h = absurd (h refl)
last_line (b ∷ line) h = refl

-- ---- as the code has it

pub next_cut : (bs line : List ℕ) (n : ℕ) → n ≡ len bs → n < length bs → line ≡ trimmed (take n bs) → line ∷ lines (take (length bs - (n + 1)) (drop (n + 1) bs)) ≡ lines bs
next_cut bs line n e h l = rw (take_rest, l) (sym (lines_cut bs n e h))

none_empty : (line : List ℕ) → (length line == 0) ≡ false → line ≡ [] → ⊥
none_empty line some e = cc (sym (ap (λ x. length x == 0) e) ∙ some)

pub next_end : (bs line : List ℕ) (n : ℕ) → n ≡ len bs → length bs ≤ n → line ≡ trimmed (take n bs) → (length line == 0) ≡ false → line ∷ lines (take (length bs - n) (drop n bs)) ≡ lines bs
next_end bs line n e h l some =
    let whole : line ≡ trimmed bs = l ∙ ap trimmed (take_all n bs h) in
    rw (take_rest, drop_all n bs h) (sym (lines_end bs n e h ∙ ap (λ x. without_empty_end (x ∷ [])) (sym whole) ∙ last_line line (none_empty line some)))
