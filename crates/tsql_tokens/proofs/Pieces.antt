-- What stands at the beginning of a text: the function finds what stands there, and what it finds stands there.
use Rattle.std.proofs.Common.{◌≡◌, ◌≢◌, ℕ, ◌+◌, ◌-◌, ◌<◌, List, [], ◌∷◌, ◌++◌, take, drop, length, Bool, true, false, refl, sym, ap, subst, ◌∙◌, append_assoc, arith, inl, inr}
use Rattle.std.specs.Prelude.{◌⊎◌, ◌==◌, ◌&&◌, not, if◌then◌else◌, Option, None, Some}
use Rattle.std.specs.List.{list_all}
use Rattle.std.proofs.lemmas.List.{append-nil, length-append}
use Rattle.std.proofs.lemmas.Bool.Decides.{nat_tests}
use Rattle.std.proofs.Math.Seq.{take-append_seam}
use Rattle.tsql_tokens.specs.declared.lexeme.Lexeme.{Lexeme}
use Rattle.tsql_tokens.specs.declared.lexeme.Lexeme.TheVariants.{Blank, LineComment, Comment, Word, Bracketed, Number, Text, Sign}
use Rattle.tsql_tokens.specs.Bytes.{is_blank, is_digit, begins_word, goes_on_word, next_is, skip_while, is_empty}
use Rattle.tsql_tokens.specs.Lexemes.{begins_number, begins_line_comment, begins_comment, begun, lexeme_at, IsBracketed, IsNumber, doubled, opens, closes, closes_all, is_single, is_pair, IsLongest, IsSign, Is, Stands}
use Rattle.tsql_tokens.specs.Behind.{after_point, after_number, after_bracket, after_text, after_comment, after_sign, behind, Found, piece_of, piece_at}

-- ---- bytes that pass

if_true : {A : Type 0} (b : Bool) (x y : A) → b ≡ true → (if b then x else y) ≡ x
if_true true x y e = refl
if_true false x y e = absurd cc

if_false : {A : Type 0} (b : Bool) (x y : A) → b ≡ false → (if b then x else y) ≡ y
if_false true x y e = absurd cc
if_false false x y e = refl

either_way : (b : Bool) → (b ≡ true) ⊎ (b ≡ false)
either_way true = inl refl
either_way false = inr refl

and_both : (b c : Bool) → (b && c) ≡ true → (b ≡ true) × (c ≡ true)
and_both true c e = (refl, e)
and_both false c e = absurd cc

not_is : (b : Bool) → not b ≡ true → b ≡ false
not_is true e = absurd cc
not_is false e = refl

not_not : (b : Bool) → not b ≡ false → b ≡ true
not_not true e = refl
not_not false e = absurd cc

-- the bytes at the beginning pass, and the next one does not
skip_of : (p : ℕ → Bool) (bytes after : List ℕ) → list_all p bytes ≡ true → next_is p after ≡ false → skip_while p (bytes ++ after) ≡ after
skip_of p [] [] h n = refl
skip_of p [] (b ∷ after) h n = if_false (p b) (skip_while p after) (b ∷ after) n
skip_of p (b ∷ bytes) after h n =
    let both : (p b ≡ true) × (list_all p bytes ≡ true) = and_both (p b) (list_all p bytes) h in
    if_true (p b) (skip_while p (bytes ++ after)) (b ∷ bytes ++ after) both.0 ∙ skip_of p bytes after both.1 n

abbrev Skipped : (ℕ → Bool) → List ℕ → Type 0
Skipped p text = (bytes : List ℕ) × (text ≡ bytes ++ skip_while p text) × (list_all p bytes ≡ true) × (next_is p (skip_while p text) ≡ false)

skip_is : (p : ℕ → Bool) (text : List ℕ) → Skipped p text
skip_is p [] = ([], refl, refl, refl)
skip_is p (b ∷ text) = go (skip_is p text) (p b) refl
  where
    go : Skipped p text → (t : Bool) → p b ≡ t → Skipped p (b ∷ text)
    go ih true e =
        let rest : skip_while p (b ∷ text) ≡ skip_while p text = rw e refl in
        (b ∷ ih.0, ap (λ (z : List ℕ). b ∷ z) ih.1 ∙ ap (λ (z : List ℕ). b ∷ ih.0 ++ z) (sym rest), rw e ih.2, rw rest ih.3)
    go ih false e =
        let rest : skip_while p (b ∷ text) ≡ b ∷ text = rw e refl in
        ([], sym rest, refl, rw rest e)

abbrev some_of : {A : Type 0} → A → Option A
some_of x = Some x

abbrev none_of : (A : Type 0) → Option A
none_of A = None

abbrev found_of : Lexeme → List ℕ → List ℕ → Found
found_of lexeme bytes after = (lexeme, bytes, after)

eq_is : (a b : ℕ) → (a == b) ≡ true → a ≡ b
eq_is a b h = grind (arith, nat_tests)

none_some : {A : Type 0} (x : A) → {P : Type 0} → none_of A ≡ Some x → P
none_some x e = absurd cc

some_is : {A : Type 0} (x y : A) → some_of x ≡ some_of y → x ≡ y
some_is x y e = cc

-- ---- comments

closes_two : (b c : ℕ) (xs ys : List ℕ) → closes (b ∷ c ∷ xs) ≡ closes (b ∷ c ∷ ys)
unfolding closes
closes_two b c xs ys = refl

opens_two : (b c : ℕ) (xs ys : List ℕ) → opens (b ∷ c ∷ xs) ≡ opens (b ∷ c ∷ ys)
unfolding opens
opens_two b c xs ys = refl

empty_is : (xs : List ℕ) → is_empty xs ≡ true → xs ≡ []
empty_is [] e = refl
empty_is (x ∷ xs) e = absurd cc

comment_complete : (n : ℕ) (inner after : List ℕ) → closes_all n inner ≡ true → after_comment n (inner ++ after) ≡ Some after
unfolding closes_all after_comment
comment_complete n [] after h = absurd cc
comment_complete n (b ∷ []) after h = absurd cc
comment_complete n (b ∷ c ∷ bs) after h =
    go (comment_complete (n - 1) bs after) (comment_complete (n + 1) bs after) (comment_complete n (c ∷ bs) after)
    (closes (b ∷ c ∷ bs)) (n == 1) (opens (b ∷ c ∷ bs)) refl refl refl
  where
    go : (closes_all (n - 1) bs ≡ true → after_comment (n - 1) (bs ++ after) ≡ Some after)
        → (closes_all (n + 1) bs ≡ true → after_comment (n + 1) (bs ++ after) ≡ Some after)
        → (closes_all n (c ∷ bs) ≡ true → after_comment n (c ∷ bs ++ after) ≡ Some after)
        → (t u v : Bool) → closes (b ∷ c ∷ bs) ≡ t → (n == 1) ≡ u → opens (b ∷ c ∷ bs) ≡ v
        → after_comment n (b ∷ c ∷ bs ++ after) ≡ Some after
    go one more same true true v et eu ev =
        let k : closes (b ∷ c ∷ bs ++ after) ≡ true = closes_two b c (bs ++ after) bs ∙ et in
        let done : is_empty bs ≡ true = rw (et, eu) at h in
        rw (k, eu) (ap (λ (z : List ℕ). some_of (z ++ after)) (empty_is bs done))
    go one more same true false v et eu ev =
        let k : closes (b ∷ c ∷ bs ++ after) ≡ true = closes_two b c (bs ++ after) bs ∙ et in
        let left : closes_all (n - 1) bs ≡ true = rw (et, eu) at h in
        rw (k, eu) (one left)
    go one more same false u true et eu ev =
        let k : closes (b ∷ c ∷ bs ++ after) ≡ false = closes_two b c (bs ++ after) bs ∙ et in
        let j : opens (b ∷ c ∷ bs ++ after) ≡ true = opens_two b c (bs ++ after) bs ∙ ev in
        let left : closes_all (n + 1) bs ≡ true = rw (et, ev) at h in
        rw (k, j) (more left)
    go one more same false u false et eu ev =
        let k : closes (b ∷ c ∷ bs ++ after) ≡ false = closes_two b c (bs ++ after) bs ∙ et in
        let j : opens (b ∷ c ∷ bs ++ after) ≡ false = opens_two b c (bs ++ after) bs ∙ ev in
        let left : closes_all n (c ∷ bs) ≡ true = rw (et, ev) at h in
        rw (k, j) (same left)

all_closes : (n b c : ℕ) (inner : List ℕ) → closes (b ∷ c ∷ inner) ≡ true → (n == 1) ≡ false → closes_all (n - 1) inner ≡ true → closes_all n (b ∷ c ∷ inner) ≡ true
unfolding closes_all
all_closes n b c inner k e h = rw (k, e) h

all_opens : (n b c : ℕ) (inner : List ℕ) → closes (b ∷ c ∷ inner) ≡ false → opens (b ∷ c ∷ inner) ≡ true → closes_all (n + 1) inner ≡ true → closes_all n (b ∷ c ∷ inner) ≡ true
unfolding closes_all
all_opens n b c inner k e h = rw (k, e) h

abbrev Closed : ℕ → List ℕ → List ℕ → Type 0
Closed n text after = (inner : List ℕ) × (text ≡ inner ++ after) × (closes_all n inner ≡ true)

comment_sound : (n : ℕ) (text after : List ℕ) → after_comment n text ≡ Some after → Closed n text after
unfolding closes_all after_comment
comment_sound n [] after h = absurd cc
comment_sound n (b ∷ []) after h = absurd cc
comment_sound n (b ∷ c ∷ bs) after h =
    go (comment_sound (n - 1) bs after) (comment_sound (n + 1) bs after) (comment_sound n (c ∷ bs) after)
    (closes (b ∷ c ∷ bs)) (n == 1) (opens (b ∷ c ∷ bs)) refl refl refl
  where
    go : (after_comment (n - 1) bs ≡ Some after → Closed (n - 1) bs after)
        → (after_comment (n + 1) bs ≡ Some after → Closed (n + 1) bs after)
        → (after_comment n (c ∷ bs) ≡ Some after → Closed n (c ∷ bs) after)
        → (t u v : Bool) → closes (b ∷ c ∷ bs) ≡ t → (n == 1) ≡ u → opens (b ∷ c ∷ bs) ≡ v
        → Closed n (b ∷ c ∷ bs) after
    go one more same true true v et eu ev =
        let k : closes (b ∷ c ∷ []) ≡ true = closes_two b c [] bs ∙ et in
        let step : after_comment n (b ∷ c ∷ bs) ≡ Some bs = rw (et, eu) refl in
        let done : some_of bs ≡ Some after = sym step ∙ h in
        (b ∷ c ∷ [], ap (λ (z : List ℕ). b ∷ c ∷ z) (some_is bs after done), rw (k, eu) refl)
    go one more same true false v et eu ev =
        let step : after_comment n (b ∷ c ∷ bs) ≡ after_comment (n - 1) bs = rw (et, eu) refl in
        let left : after_comment (n - 1) bs ≡ Some after = sym step ∙ h in
        let s = one left in
        let k : closes (b ∷ c ∷ s.0) ≡ true = closes_two b c s.0 bs ∙ et in
        (b ∷ c ∷ s.0, ap (λ (z : List ℕ). b ∷ c ∷ z) s.1, all_closes n b c s.0 k eu s.2)
    go one more same false u true et eu ev =
        let step : after_comment n (b ∷ c ∷ bs) ≡ after_comment (n + 1) bs = rw (et, ev) refl in
        let left : after_comment (n + 1) bs ≡ Some after = sym step ∙ h in
        let s = more left in
        let k : closes (b ∷ c ∷ s.0) ≡ false = closes_two b c s.0 bs ∙ et in
        let j : opens (b ∷ c ∷ s.0) ≡ true = opens_two b c s.0 bs ∙ ev in
        (b ∷ c ∷ s.0, ap (λ (z : List ℕ). b ∷ c ∷ z) s.1, all_opens n b c s.0 k j s.2)
    go one more same false u false et eu ev =
        let step : after_comment n (b ∷ c ∷ bs) ≡ after_comment n (c ∷ bs) = rw (et, ev) refl in
        let left : after_comment n (c ∷ bs) ≡ Some after = sym step ∙ h in
        further (same left) et ev
      where
        further : Closed n (c ∷ bs) after → closes (b ∷ c ∷ bs) ≡ false → opens (b ∷ c ∷ bs) ≡ false → Closed n (b ∷ c ∷ bs) after
        further ([], e, k) et ev = absurd cc
        further (d ∷ inner, e, k) et ev =
            let heads : c ≡ d = cc in
            let f : closes (b ∷ d ∷ inner) ≡ false = ap (λ (z : ℕ). closes (b ∷ z ∷ inner)) (sym heads) ∙ closes_two b c inner bs ∙ et in
            let g : opens (b ∷ d ∷ inner) ≡ false = ap (λ (z : ℕ). opens (b ∷ z ∷ inner)) (sym heads) ∙ opens_two b c inner bs ∙ ev in
            (b ∷ d ∷ inner, ap (λ (z : List ℕ). b ∷ z) e, rw (f, g) k)

-- ---- texts

text_plain : (b : ℕ) (bs : List ℕ) → (b == 39) ≡ false → after_text (b ∷ bs) ≡ after_text bs
text_plain b [] e = rw e refl
text_plain b (c ∷ bs) e = rw e refl

text_complete : (content after : List ℕ) → next_is (λ b. b == 39) after ≡ false → after_text (doubled content ++ 39 ∷ after) ≡ Some after
text_complete [] [] h = refl
text_complete [] (c ∷ after) h = rw h refl
text_complete (b ∷ content) after h = go (text_complete content after h) (b == 39) refl
  where
    go : after_text (doubled content ++ 39 ∷ after) ≡ Some after → (t : Bool) → (b == 39) ≡ t → after_text (doubled (b ∷ content) ++ 39 ∷ after) ≡ Some after
    go ih true e = rw e ih
    go ih false e = rw e (text_plain b (doubled content ++ 39 ∷ after) e ∙ ih)

abbrev Ended : List ℕ → List ℕ → Type 0
Ended text after = (content : List ℕ) × (text ≡ doubled content ++ 39 ∷ after) × (next_is (λ b. b == 39) after ≡ false)

text_sound : (text after : List ℕ) → after_text text ≡ Some after → Ended text after
text_sound [] after h = absurd cc
text_sound (b ∷ []) after h = go (b == 39) refl
  where
    go : (t : Bool) → (b == 39) ≡ t → Ended (b ∷ []) after
    go true e =
        let none : some_of [] ≡ Some after = rw e at h in
        let last : [] ≡ after = some_is [] after none in
        ([], ap (λ (z : ℕ). z ∷ []) (eq_is b 39 e) ∙ ap (λ (z : List ℕ). 39 ∷ z) last, subst (λ (z : List ℕ). next_is (λ b. b == 39) z ≡ false) last refl)
    go false e = none_some after (rw e at h)
text_sound (b ∷ c ∷ bs) after h = go (text_sound bs after) (text_sound (c ∷ bs) after) (b == 39) (c == 39) refl refl
  where
    go : (after_text bs ≡ Some after → Ended bs after) → (after_text (c ∷ bs) ≡ Some after → Ended (c ∷ bs) after)
        → (t u : Bool) → (b == 39) ≡ t → (c == 39) ≡ u → Ended (b ∷ c ∷ bs) after
    go two one true true et eu =
        let left : after_text bs ≡ Some after = rw (et, eu) at h in
        let s = two left in
        let front : b ∷ c ∷ bs ≡ 39 ∷ 39 ∷ bs = ap (λ (z : ℕ). z ∷ c ∷ bs) (eq_is b 39 et) ∙ ap (λ (z : ℕ). 39 ∷ z ∷ bs) (eq_is c 39 eu) in
        (39 ∷ s.0, front ∙ ap (λ (z : List ℕ). 39 ∷ 39 ∷ z) s.1, s.2)
    go two one true false et eu =
        let done : some_of (c ∷ bs) ≡ Some after = rw (et, eu) at h in
        let last : c ∷ bs ≡ after = some_is (c ∷ bs) after done in
        ([], ap (λ (z : ℕ). z ∷ c ∷ bs) (eq_is b 39 et) ∙ ap (λ (z : List ℕ). 39 ∷ z) last, subst (λ (z : List ℕ). next_is (λ b. b == 39) z ≡ false) last eu)
    go two one false u et eu =
        let left : after_text (c ∷ bs) ≡ Some after = rw et at h in
        let s = one left in
        let twice : doubled (b ∷ s.0) ≡ b ∷ doubled s.0 = rw et refl in
        (b ∷ s.0, ap (λ (z : List ℕ). b ∷ z) s.1 ∙ ap (λ (z : List ℕ). z ++ 39 ∷ after) (sym twice), s.2)

-- ---- signs

sign_complete : (bytes after : List ℕ) → IsSign bytes after → after_sign (bytes ++ after) ≡ Some after
sign_complete [] after (h, k) = absurd cc
sign_complete (b ∷ []) [] (h, k) = rw h refl
sign_complete (b ∷ []) (c ∷ after) (h, k) = rw (k, h) refl
sign_complete (b ∷ c ∷ []) after (h, k) = rw h refl
sign_complete (b ∷ c ∷ d ∷ bytes) after (h, k) = absurd cc

abbrev Signed : List ℕ → List ℕ → Type 0
Signed text after = (bytes : List ℕ) × (text ≡ bytes ++ after) × IsSign bytes after × (bytes ≢ [])

longest_pair : (b c : ℕ) (after : List ℕ) → IsLongest (b ∷ c ∷ []) after
longest_pair b c [] = tt
longest_pair b c (d ∷ after) = refl

sign_sound : (text after : List ℕ) → after_sign text ≡ Some after → Signed text after
sign_sound [] after h = absurd cc
sign_sound (b ∷ []) after h = go (is_single b) refl
  where
    go : (t : Bool) → is_single b ≡ t → Signed (b ∷ []) after
    go true e =
        let done : some_of [] ≡ Some after = rw e at h in
        let last : [] ≡ after = some_is [] after done in
        (b ∷ [], ap (λ (z : List ℕ). b ∷ z) last, (e, subst (λ (z : List ℕ). IsLongest (b ∷ []) z) last tt), λ n. cc)
    go false e = none_some after (rw e at h)
sign_sound (b ∷ c ∷ bs) after h = go (is_pair b c) (is_single b) refl refl
  where
    go : (t u : Bool) → is_pair b c ≡ t → is_single b ≡ u → Signed (b ∷ c ∷ bs) after
    go true u et eu =
        let done : some_of bs ≡ Some after = rw et at h in
        (b ∷ c ∷ [], ap (λ (z : List ℕ). b ∷ c ∷ z) (some_is bs after done), (et, longest_pair b c after), λ n. cc)
    go false true et eu =
        let done : some_of (c ∷ bs) ≡ Some after = rw (et, eu) at h in
        let last : c ∷ bs ≡ after = some_is (c ∷ bs) after done in
        (b ∷ [], ap (λ (z : List ℕ). b ∷ z) last, (eu, subst (λ (z : List ℕ). IsLongest (b ∷ []) z) last et), λ n. cc)
    go false false et eu = none_some after (rw (et, eu) at h)

-- ---- numbers

point_stays : (after : List ℕ) → next_is (λ b. b == 46) after ≡ false → after_point after ≡ after
point_stays [] h = refl
point_stays (b ∷ after) h = rw h refl

point_is_no_digit : is_digit 46 ≡ false
unfolding is_digit
point_is_no_digit = refl

number_complete : (bytes after : List ℕ) → IsNumber bytes after → after_number (bytes ++ after) ≡ after
number_complete bytes after (whole, hw, hd, inl (e, hp)) =
    rw e (ap after_point (skip_of is_digit whole after hw hd) ∙ point_stays after hp)
number_complete bytes after (whole, hw, hd, inr (part, hp, e)) =
    rw (e, append_assoc whole (46 ∷ part) after) (ap after_point (skip_of is_digit whole (46 ∷ part ++ after) hw point_is_no_digit) ∙ skip_of is_digit part after hp hd)

abbrev Numbered : List ℕ → Type 0
Numbered text = (bytes : List ℕ) × (text ≡ bytes ++ after_number text) × IsNumber bytes (after_number text)

number_sound : (text : List ℕ) → Numbered text
number_sound text = go (skip_while is_digit text) refl (skip_is is_digit text)
  where
    go : (rest : List ℕ) → skip_while is_digit text ≡ rest → Skipped is_digit text → Numbered text
    go [] er (whole, e, hw, hd) =
        let last : after_number text ≡ [] = ap after_point er in
        (whole, e ∙ ap (λ (z : List ℕ). whole ++ z) (er ∙ sym last), (whole, hw, rw last refl, inl (refl, rw last refl)))
    go (c ∷ cs) er (whole, e, hw, hd) = pointed (c == 46) refl
      where
        pointed : (t : Bool) → (c == 46) ≡ t → Numbered text
        pointed true et =
            let s = skip_is is_digit cs in
            let last : after_number text ≡ skip_while is_digit cs = ap after_point er ∙ rw et refl in
            let here : text ≡ whole ++ c ∷ cs = e ∙ ap (λ (z : List ℕ). whole ++ z) er in
            let part : c ∷ cs ≡ 46 ∷ s.0 ++ skip_while is_digit cs = ap (λ (z : ℕ). z ∷ cs) (eq_is c 46 et) ∙ ap (λ (z : List ℕ). 46 ∷ z) s.1 in (
              whole ++ 46 ∷ s.0,
              here ∙ ap (λ (z : List ℕ). whole ++ z) part ∙ sym (append_assoc whole (46 ∷ s.0) (skip_while is_digit cs)) ∙ ap (λ (z : List ℕ). (whole ++ 46 ∷ s.0) ++ z) (sym last),
              (whole, hw, rw last s.3, inr (s.0, s.2, refl)),
            )
        pointed false et =
            let last : after_number text ≡ c ∷ cs = ap after_point er ∙ rw et refl in
            (whole, e ∙ ap (λ (z : List ℕ). whole ++ z) (er ∙ sym last), (whole, hw, subst (λ (z : List ℕ). next_is is_digit z ≡ false) (er ∙ sym last) hd, inl (refl, rw last et)))

-- ---- names in brackets

bracket_complete : (bytes after : List ℕ) → IsBracketed bytes → after_bracket (drop 1 (bytes ++ after)) ≡ Some after
bracket_complete bytes after ([], e, h, some) = absurd (some refl)
bracket_complete bytes after (c ∷ name, e, h, some) =
    let both : (not (c == 93) ≡ true) × (list_all (λ b. not (b == 93)) name ≡ true) = and_both (not (c == 93)) (list_all (λ b. not (b == 93)) name) h in
    let other : (c == 93) ≡ false = not_is (c == 93) both.0 in
    let whole : bytes ++ after ≡ 91 ∷ c ∷ name ++ 93 ∷ after = ap (λ (z : List ℕ). z ++ after) e ∙ ap (λ (z : List ℕ). 91 ∷ c ∷ z) (append_assoc name (93 ∷ []) after) in
    rw (whole, other, skip_of (λ b. not (b == 93)) name (93 ∷ after) both.1 refl) refl

abbrev Named : ℕ → List ℕ → List ℕ → Type 0
Named b next after = (bytes : List ℕ) × (b ∷ next ≡ bytes ++ after) × IsBracketed bytes

bracket_sound : (b : ℕ) (next after : List ℕ) → (b == 91) ≡ true → after_bracket next ≡ Some after → Named b next after
bracket_sound b [] after eb h = absurd cc
bracket_sound b (c ∷ cs) after eb h = go (c == 93) refl (skip_is (λ d. not (d == 93)) cs)
  where
    go : (t : Bool) → (c == 93) ≡ t → Skipped (λ d. not (d == 93)) cs → Named b (c ∷ cs) after
    go true et s = let step : after_bracket (c ∷ cs) ≡ None = rw et refl in none_some after (sym step ∙ h)
    go false et (name, e, hn, hd) = at (skip_while (λ d. not (d == 93)) cs) refl
      where
        at : (rest : List ℕ) → skip_while (λ d. not (d == 93)) cs ≡ rest → Named b (c ∷ cs) after
        at [] er = let step : after_bracket (c ∷ cs) ≡ None = rw (et, er) refl in none_some after (sym step ∙ h)
        at (d ∷ ds) er =
            let step : after_bracket (c ∷ cs) ≡ Some ds = rw (et, er) refl in
            let last : ds ≡ after = some_is ds after (sym step ∙ h) in
            let stop : not (d == 93) ≡ false = subst (λ (z : List ℕ). next_is (λ d. not (d == 93)) z ≡ false) er hd in
            let close : d ≡ 93 = eq_is d 93 (not_not (d == 93) stop) in
            let behind_name : d ∷ ds ≡ 93 ∷ after = ap (λ (z : ℕ). z ∷ ds) close ∙ ap (λ (z : List ℕ). 93 ∷ z) last in
            let tail : cs ≡ name ++ 93 ∷ after = e ∙ ap (λ (z : List ℕ). name ++ z) (er ∙ behind_name) in
            let first : b ∷ c ∷ cs ≡ 91 ∷ c ∷ cs = ap (λ (z : ℕ). z ∷ c ∷ cs) (eq_is b 91 eb) in
            let other : not (c == 93) ≡ true = rw et refl in (
              91 ∷ (c ∷ name) ++ 93 ∷ [],
              first ∙ ap (λ (z : List ℕ). 91 ∷ c ∷ z) (tail ∙ sym (append_assoc name (93 ∷ []) after)),
              (c ∷ name, refl, rw other hn, λ n. cc),
            )

-- ---- what begins

abbrev Begins : Bool → ℕ → List ℕ → Lexeme → Type 0
Begins named b next Blank = is_blank b ≡ true
Begins named b next Word = begins_word b ≡ true
Begins named b next Number = begins_number named b next ≡ true
Begins named b next Text = (b == 39) ≡ true
Begins named b next Bracketed = (b == 91) ≡ true
Begins named b next LineComment = begins_line_comment b next ≡ true
Begins named b next Comment = begins_comment b next ≡ true
Begins named b next Sign = Unit {0}

pick : (P : Lexeme → Type 0) (t : Bool) (x y : Lexeme) → (t ≡ true → P x) → P y → P (if t then x else y)
pick P true x y f g = f refl
pick P false x y f g = g

begun_is : (named : Bool) (b : ℕ) (next : List ℕ) → Begins named b next (begun named b next)
unfolding begun
begun_is named b next =
    let P : Lexeme → Type 0 = Begins named b next in
    pick P (is_blank b) Blank _ (λ h. h) (pick P (begins_word b) Word _ (λ h. h) (pick P (begins_number named b next) Number _ (λ h. h)
    (pick P (b == 39) Text _ (λ h. h) (pick P (b == 91) Bracketed _ (λ h. h) (pick P (begins_line_comment b next) LineComment _ (λ h. h)
    (pick P (begins_comment b next) Comment Sign (λ h. h) tt))))))

-- ---- all lexemes

abbrev Found_at : Lexeme → List ℕ → List ℕ → Type 0
Found_at lexeme text after = (bytes : List ℕ) × (text ≡ bytes ++ after) × Is lexeme bytes after × (bytes ≢ [])

-- what passes at the beginning is not nothing
some_skipped : (p : ℕ → Bool) (b : ℕ) (next after bytes : List ℕ) → b ∷ next ≡ bytes ++ after → p b ≡ true → next_is p after ≡ false → bytes ≢ []
some_skipped p b next after [] e h n k = let q : p b ≡ false = subst (λ (z : List ℕ). next_is p z ≡ false) (sym e) n in absurd cc
some_skipped p b next after (c ∷ bytes) e h n k = absurd cc

word_goes_on : (b : ℕ) → begins_word b ≡ true → goes_on_word b ≡ true
unfolding goes_on_word
word_goes_on b h = rw h refl

number_goes_on : (named : Bool) (b : ℕ) (next : List ℕ) → begins_number named b next ≡ true → is_digit b ≡ false → (b == 46) ≡ true
unfolding begins_number
number_goes_on named b next h k = go (b == 46) refl
  where
    go : (t : Bool) → (b == 46) ≡ t → t ≡ true
    go true e = refl
    go false e = let none : begins_number named b next ≡ false = rw (k, e) refl in absurd cc

some_number : (named : Bool) (b : ℕ) (next after bytes : List ℕ) → begins_number named b next ≡ true → b ∷ next ≡ bytes ++ after → IsNumber bytes after → bytes ≢ []
some_number named b next after bytes h e (whole, hw, hd, inl (same, hp)) k =
    let here : b ∷ next ≡ after = e ∙ ap (λ (z : List ℕ). z ++ after) k in
    let digit : is_digit b ≡ false = subst (λ (z : List ℕ). next_is is_digit z ≡ false) (sym here) hd in
    let point : (b == 46) ≡ false = subst (λ (z : List ℕ). next_is (λ b. b == 46) z ≡ false) (sym here) hp in
    let other : (b == 46) ≡ true = number_goes_on named b next h digit in absurd cc
some_number named b next after bytes h e (whole, hw, hd, inr (part, hp, same)) k = no_front whole part (sym k ∙ same)
  where
    no_front : (xs ys : List ℕ) → [] ≡ xs ++ 46 ∷ ys → ⊥
    no_front [] ys q = cc
    no_front (x ∷ xs) ys q = cc

comment_front : (b : ℕ) (next after : List ℕ) → begins_comment b next ≡ true → after_comment 1 (drop 1 next) ≡ Some after → Found_at Comment (b ∷ next) after
unfolding begins_comment
comment_front b [] after h k = let both = and_both (b == 47) false h in let no_byte : false ≡ true = both.1 in absurd cc
comment_front b (c ∷ next) after h k =
    let both : ((b == 47) ≡ true) × ((c == 42) ≡ true) = and_both (b == 47) (c == 42) h in
    let s = comment_sound 1 next after k in
    let front : b ∷ c ∷ next ≡ 47 ∷ 42 ∷ next = ap (λ (z : ℕ). z ∷ c ∷ next) (eq_is b 47 both.0) ∙ ap (λ (z : ℕ). 47 ∷ z ∷ next) (eq_is c 42 both.1) in
    (47 ∷ 42 ∷ s.0, front ∙ ap (λ (z : List ℕ). 47 ∷ 42 ∷ z) s.1, (s.0, refl, s.2), λ n. cc)

text_front : (b : ℕ) (next after : List ℕ) → (b == 39) ≡ true → after_text next ≡ Some after → Found_at Text (b ∷ next) after
text_front b next after h k =
    let s = text_sound next after k in (
      39 ∷ doubled s.0 ++ 39 ∷ [],
      ap (λ (z : ℕ). z ∷ next) (eq_is b 39 h) ∙ ap (λ (z : List ℕ). 39 ∷ z) (s.1 ∙ sym (append_assoc (doubled s.0) (39 ∷ []) after)),
      (s.0, refl, s.2),
      λ n. cc,
    )

no_bracket : (bytes : List ℕ) → IsBracketed bytes → bytes ≢ []
no_bracket bytes (name, e, h, some) k = let q : [] ≡ 91 ∷ name ++ 93 ∷ [] = sym k ∙ e in absurd cc

behind_sound : (named : Bool) (b : ℕ) (next after : List ℕ) (lexeme : Lexeme) → Begins named b next lexeme → behind lexeme (b ∷ next) ≡ Some after → Found_at lexeme (b ∷ next) after
unfolding behind
behind_sound named b next after Blank h k = (b ∷ [], ap (λ (z : List ℕ). b ∷ z) (some_is next after k), refl, λ n. cc)
behind_sound named b next after LineComment h k =
    let last : [] ≡ after = some_is [] after k in
    (b ∷ next, sym (append-nil (b ∷ next)) ∙ ap (λ (z : List ℕ). (b ∷ next) ++ z) last, sym last, λ n. cc)
behind_sound named b next after Comment h k = comment_front b next after h k
behind_sound named b next after Word h k =
    let last : skip_while goes_on_word (b ∷ next) ≡ after = some_is (skip_while goes_on_word (b ∷ next)) after k in
    let s = skip_is goes_on_word (b ∷ next) in
    let whole : b ∷ next ≡ s.0 ++ after = s.1 ∙ ap (λ (z : List ℕ). s.0 ++ z) last in
    let stop : next_is goes_on_word after ≡ false = subst (λ (z : List ℕ). next_is goes_on_word z ≡ false) last s.3 in
    (s.0, whole, (s.2, stop), some_skipped goes_on_word b next after s.0 whole (word_goes_on b h) stop)
behind_sound named b next after Bracketed h k = let s = bracket_sound b next after h k in (s.0, s.1, s.2, no_bracket s.0 s.2)
behind_sound named b next after Number h k =
    let last : after_number (b ∷ next) ≡ after = some_is (after_number (b ∷ next)) after k in
    let s = number_sound (b ∷ next) in
    let whole : b ∷ next ≡ s.0 ++ after = s.1 ∙ ap (λ (z : List ℕ). s.0 ++ z) last in
    let number : IsNumber s.0 after = subst (λ (z : List ℕ). IsNumber s.0 z) last s.2 in
    (s.0, whole, number, some_number named b next after s.0 h whole number)
behind_sound named b next after Text h k = text_front b next after h k
behind_sound named b next after Sign h k = let s = sign_sound (b ∷ next) after k in (s.0, s.1, s.2, s.3)

one_byte : (bytes after : List ℕ) → length bytes ≡ 1 → drop 1 (bytes ++ after) ≡ after
one_byte [] after h = absurd (omega arith)
one_byte (b ∷ []) after h = refl
one_byte (b ∷ c ∷ bytes) after h = absurd (omega arith)

behind_complete : (lexeme : Lexeme) (bytes after : List ℕ) → Is lexeme bytes after → behind lexeme (bytes ++ after) ≡ Some after
unfolding behind
behind_complete Blank bytes after h = ap (λ (z : List ℕ). some_of z) (one_byte bytes after h)
behind_complete LineComment bytes after h = ap (λ (z : List ℕ). some_of z) (sym h)
behind_complete Comment bytes after (inner, e, h) = rw e (comment_complete 1 inner after h)
behind_complete Word bytes after (h, stop) = ap (λ (z : List ℕ). some_of z) (skip_of goes_on_word bytes after h stop)
behind_complete Bracketed bytes after h = bracket_complete bytes after h
behind_complete Number bytes after h = ap (λ (z : List ℕ). some_of z) (number_complete bytes after h)
behind_complete Text bytes after (content, e, h) = rw (e, append_assoc (doubled content) (39 ∷ []) after) (text_complete content after h)
behind_complete Sign bytes after h = sign_complete bytes after h

-- ---- the piece at the beginning

front_of : (bytes after : List ℕ) → take (length (bytes ++ after) - length after) (bytes ++ after) ≡ bytes
front_of bytes after =
    let size : length (bytes ++ after) - length after ≡ length bytes = omega (arith, length-append bytes after) in
    rw size (take-append_seam bytes after)

piece_is : (lexeme : Lexeme) (bytes after : List ℕ) → piece_of lexeme (bytes ++ after) after ≡ (lexeme, bytes, after)
piece_is lexeme bytes after = ap (λ (z : List ℕ). found_of lexeme z after) (front_of bytes after)

-- what stands there is found
pub piece_complete : (named : Bool) (lexeme : Lexeme) (bytes after : List ℕ) → Stands named lexeme bytes after → piece_at named (bytes ++ after) ≡ Some (lexeme, bytes, after)
unfolding piece_at
piece_complete named lexeme bytes after (begins, is, some) =
    rw (begins, behind_complete lexeme bytes after is) (ap (λ (z : Found). some_of z) (piece_is lexeme bytes after))

-- what is found stands there
pub piece_sound : (named : Bool) (b : ℕ) (next : List ℕ) (lexeme : Lexeme) (bytes after : List ℕ) → piece_at named (b ∷ next) ≡ Some (lexeme, bytes, after)
    → (b ∷ next ≡ bytes ++ after) × Stands named lexeme bytes after
unfolding piece_at
piece_sound named b next lexeme bytes after h = go (begun named b next) refl (behind (begun named b next) (b ∷ next)) refl
  where
    go : (l : Lexeme) → begun named b next ≡ l → (o : Option (List ℕ)) → behind (begun named b next) (b ∷ next) ≡ o → (b ∷ next ≡ bytes ++ after) × Stands named lexeme bytes after
    go l el None eo =
        let none : piece_at named (b ∷ next) ≡ None = rw eo refl in none_some (lexeme, bytes, after) (sym none ∙ h)
    go l el (Some rest) eo =
        let found : piece_at named (b ∷ next) ≡ Some (piece_of (begun named b next) (b ∷ next) rest) = rw eo refl in
        let s = behind_sound named b next rest (begun named b next) (begun_is named b next) eo in
        let whole : piece_of (begun named b next) (b ∷ next) rest ≡ (begun named b next, s.0, rest) =
        ap (λ (z : List ℕ). piece_of (begun named b next) z rest) s.1 ∙ piece_is (begun named b next) s.0 rest in
        let same : (begun named b next, s.0, rest) ≡ (lexeme, bytes, after) = sym whole ∙ some_is _ (lexeme, bytes, after) (sym found ∙ h) in
        moved (begun named b next) s.0 rest refl s.1 s.2 s.3 same
      where
        moved : (l : Lexeme) (bs rest : List ℕ) → begun named b next ≡ l → b ∷ next ≡ bs ++ rest → Is l bs rest → bs ≢ [] → found_of l bs rest ≡ (lexeme, bytes, after)
            → (b ∷ next ≡ bytes ++ after) × Stands named lexeme bytes after
        moved l bs rest el e is some same =
            let here : (b ∷ next ≡ bs ++ rest) × Stands named l bs rest = (e, (ap (lexeme_at named) (sym e) ∙ el, is, some)) in
            subst (λ (f : Found). (b ∷ next ≡ f.1 ++ f.2) × Stands named f.0 f.1 f.2) same here

some_length : (bytes : List ℕ) → bytes ≢ [] → 0 < length bytes
some_length [] h = absurd (h refl)
some_length (b ∷ bytes) h = omega arith

pub behind_shorter : (named : Bool) (text after : List ℕ) → 0 < length text → behind (lexeme_at named text) text ≡ Some after → length after < length text
behind_shorter named [] after h e = absurd (omega arith)
behind_shorter named (b ∷ next) after h e =
    let s = behind_sound named b next after (begun named b next) (begun_is named b next) e in
    let some : 0 < length s.0 = some_length s.0 s.3 in
    let whole : length (b ∷ next) ≡ length s.0 + length after = ap length s.1 ∙ length-append s.0 after in
    omega arith

pub piece_shorter : (named : Bool) (b : ℕ) (next : List ℕ) (lexeme : Lexeme) (bytes after : List ℕ) → piece_at named (b ∷ next) ≡ Some (lexeme, bytes, after)
    → length after < length (b ∷ next)
piece_shorter named b next lexeme bytes after h =
    let s = piece_sound named b next lexeme bytes after h in
    let some : 0 < length bytes = some_length bytes s.1.2 in
    let whole : length (b ∷ next) ≡ length bytes + length after = ap length s.0 ∙ length-append bytes after in
    omega arith
