-- The tokens that cutting gives are those of the text, and it is refused where the text is.
use Rattle.std.proofs.Common.{◌≡◌, ◌≢◌, ℕ, zero, suc, ◌+◌, ◌-◌, ◌<◌, ◌≤◌, List, [], ◌∷◌, ◌++◌, length, Bool, false, Result, Ok, Err, refl, sym, ap, subst, ◌∙◌, append_assoc, zero-add, arith, inl, inr}
use Rattle.std.specs.Prelude.{Option, None, Some, IfOk, IfErr, MatchResult}
use Rattle.std.proofs.lemmas.List.{append-nil, length-append}
use Rattle.std.specs.Prelude.{All}
use Rattle.std.specs.List.{AllByRecursion}
use Rattle.std.proofs.lemmas.List.Elements.{All-from_recursion}
use Rattle.tsql_tokens.specs.declared.lexeme.Lexeme.{Lexeme}
use Rattle.tsql_tokens.specs.declared.token.TokenKind.{TokenKind}
use Rattle.tsql_tokens.specs.declared.token.Token.{Token}
use Rattle.tsql_tokens.specs.declared.token.TokenRefusal.{TokenRefusal}
use Rattle.tsql_tokens.specs.declared.token.TokenRefusal.TheVariants as refusal
use Rattle.tsql_tokens.specs.Lexemes.{Stands}
use Rattle.tsql_tokens.specs.Behind.{Found, piece_at}
use Rattle.tsql_tokens.specs.Limits.{over_limit, open_after}
use Rattle.tsql_tokens.specs.Tokens.{kind_of, named_after, spanned, Piece, IsFront, AreWithin, tokens_of, HasTokens, IsSpan, size_of, open_behind, named_behind, NothingStands, IsFault, IsRefused, Refuses, AnswersOnly}
use Rattle.tsql_tokens.specs.Cutting.{Outcome, refused, with_front, cut_within, cut_piece, cut, Gives}
use Rattle.tsql_tokens.proofs.Pieces.{piece_complete, piece_sound, piece_shorter}

-- ---- steps

-- enough lexemes are enough
cut_more : (f g at : ℕ) (named : Bool) (n : ℕ) (text : List ℕ) → length text ≤ f → length text ≤ g → cut f at named n text ≡ cut g at named n text
unfolding cut
cut_more zero zero at named n [] h k = refl
cut_more zero (suc g) at named n [] h k = refl
cut_more (suc f) zero at named n [] h k = refl
cut_more (suc f) (suc g) at named n [] h k = refl
cut_more zero g at named n (b ∷ text) h k = absurd (omega arith)
cut_more (suc f) zero at named n (b ∷ text) h k = absurd (omega arith)
cut_more (suc f) (suc g) at named n (b ∷ text) h k = go (cut_more f g) (piece_at named (b ∷ text)) refl
  where
    go : ((at : ℕ) (named : Bool) (n : ℕ) (text : List ℕ) → length text ≤ f → length text ≤ g → cut f at named n text ≡ cut g at named n text)
        → (o : Option Found) → piece_at named (b ∷ text) ≡ o → cut_piece (cut f) at named n o ≡ cut_piece (cut g) at named n o
    go ih None e = refl
    go ih (Some (lexeme, bytes, after)) e = within (over_limit n lexeme bytes)
      where
        shorter : length after < length (b ∷ text)
        shorter = piece_shorter named b text lexeme bytes after e

        within : (o : Option (List ℕ)) → cut_within (cut f) at named n lexeme bytes after o ≡ cut_within (cut g) at named n lexeme bytes after o
        within (Some part) = refl
        within None = ap (with_front (spanned (kind_of lexeme bytes) at (at + length bytes)))
            (ih (at + length bytes) (named_after named lexeme bytes) (open_after n lexeme bytes) after (omega (arith, shorter)) (omega (arith, shorter)))

pub cut_ends : (at : ℕ) (named : Bool) (n : ℕ) (text : List ℕ) → length text ≡ 0 → cut (length text) at named n text ≡ Ok []
unfolding cut
cut_ends at named n [] h = refl
cut_ends at named n (b ∷ text) h = absurd (omega arith)

pub cut_none : (at : ℕ) (named : Bool) (n : ℕ) (text : List ℕ) → 0 < length text → piece_at named text ≡ None → cut (length text) at named n text ≡ refused 102 (at + 1)
unfolding cut
cut_none at named n [] h e = absurd (omega arith)
cut_none at named n (b ∷ text) h e = rw e refl

pub cut_over : (at : ℕ) (named : Bool) (n : ℕ) (text : List ℕ) (lexeme : Lexeme) (bytes after part : List ℕ) → 0 < length text → piece_at named text ≡ Some (lexeme, bytes, after)
    → over_limit n lexeme bytes ≡ Some part → cut (length text) at named n text ≡ refused 50001 (at + (length bytes - length part) + 1)
unfolding cut
cut_over at named n [] lexeme bytes after part h e o = absurd (omega arith)
cut_over at named n (b ∷ text) lexeme bytes after part h e o = rw (e, o) refl

pub cut_goes : (at : ℕ) (named : Bool) (n : ℕ) (text : List ℕ) (lexeme : Lexeme) (bytes after : List ℕ) → 0 < length text → piece_at named text ≡ Some (lexeme, bytes, after)
    → over_limit n lexeme bytes ≡ None
    → cut (length text) at named n text ≡ with_front (spanned (kind_of lexeme bytes) at (at + length bytes)) (cut (length after) (at + length bytes) (named_after named lexeme bytes) (open_after n lexeme bytes) after)
unfolding cut
cut_goes at named n [] lexeme bytes after h e o = absurd (omega arith)
cut_goes at named n (b ∷ text) lexeme bytes after h e o =
    let shorter = piece_shorter named b text lexeme bytes after e in
    rw (e, o) (ap (with_front (spanned (kind_of lexeme bytes) at (at + length bytes)))
    (cut_more (length text) (length after) (at + length bytes) (named_after named lexeme bytes) (open_after n lexeme bytes) after (omega arith) (omega arith)))

abbrev outcome_of : List Token → Outcome
outcome_of tokens = Ok tokens

abbrev piece_with : Lexeme → List ℕ → Piece
piece_with lexeme bytes = record { lexeme = lexeme; bytes = bytes }

front_twice : (a b : List Token) (r : Outcome) → with_front (a ++ b) r ≡ with_front a (with_front b r)
front_twice a b (Ok tokens) = ap (λ (z : List Token). outcome_of z) (append_assoc a b tokens)
front_twice a b (Err e) = refl

front_none : (a : List Token) → with_front a (outcome_of []) ≡ outcome_of a
front_none a = ap (λ (z : List Token). outcome_of z) (append-nil a)

-- ---- what the loop keeps

pub kept_none : (found : List Token) (at : ℕ) (named : Bool) (n : ℕ) (text : List ℕ) (all : Outcome) → 0 < length text → piece_at named text ≡ None
    → with_front found (cut (length text) at named n text) ≡ all → all ≡ refused 102 (at + 1)
kept_none found at named n text all h e same = sym same ∙ ap (with_front found) (cut_none at named n text h e)

pub kept_over : (found : List Token) (at : ℕ) (named : Bool) (n : ℕ) (text : List ℕ) (all : Outcome) (lexeme : Lexeme) (bytes after part : List ℕ) → 0 < length text
    → piece_at named text ≡ Some (lexeme, bytes, after) → over_limit n lexeme bytes ≡ Some part
    → with_front found (cut (length text) at named n text) ≡ all → all ≡ refused 50001 (at + (length bytes - length part) + 1)
kept_over found at named n text all lexeme bytes after part h e o same = sym same ∙ ap (with_front found) (cut_over at named n text lexeme bytes after part h e o)

pub kept : (found : List Token) (at : ℕ) (named : Bool) (n : ℕ) (text : List ℕ) (all : Outcome) (lexeme : Lexeme) (bytes after : List ℕ) → 0 < length text
    → piece_at named text ≡ Some (lexeme, bytes, after) → over_limit n lexeme bytes ≡ None
    → with_front found (cut (length text) at named n text) ≡ all
    → with_front (found ++ spanned (kind_of lexeme bytes) at (at + length bytes)) (cut (length after) (at + length bytes) (named_after named lexeme bytes) (open_after n lexeme bytes) after) ≡ all
kept found at named n text all lexeme bytes after h e o same =
    front_twice found (spanned (kind_of lexeme bytes) at (at + length bytes)) _ ∙ ap (with_front found) (sym (cut_goes at named n text lexeme bytes after h e o)) ∙ same

pub kept_all : (found : List Token) (at : ℕ) (named : Bool) (n : ℕ) (text : List ℕ) (all : Outcome) → length text ≡ 0
    → with_front found (cut (length text) at named n text) ≡ all → all ≡ Ok found
kept_all found at named n text all h same = sym same ∙ ap (with_front found) (cut_ends at named n text h) ∙ front_none found

-- ---- what is given are the tokens of the text

front_ok : (a ts : List Token) (r : Outcome) → with_front a r ≡ Ok ts → (us : List Token) × (r ≡ Ok us) × (ts ≡ a ++ us)
front_ok a ts (Ok us) e = (us, refl, cc)
front_ok a ts (Err d) e = absurd cc

front_err : (a : List Token) (number at : ℕ) (r : Outcome) → with_front a r ≡ refused number at → r ≡ refused number at
front_err a number at (Ok us) e = absurd cc
front_err a number at (Err d) e = e

abbrev Made : ℕ → Bool → ℕ → List ℕ → List Token → Type 0
Made at named n text ts = (pieces : List Piece) × IsFront named text pieces [] × AreWithin n pieces × (ts ≡ tokens_of at pieces)

ok_sound : (fuel at : ℕ) (named : Bool) (n : ℕ) (text : List ℕ) (ts : List Token) → length text ≤ fuel → cut fuel at named n text ≡ Ok ts → Made at named n text ts
unfolding cut
ok_sound zero at named n [] ts h e = ([], refl, tt, cc)
ok_sound (suc f) at named n [] ts h e = ([], refl, tt, cc)
ok_sound zero at named n (b ∷ text) ts h e = absurd (omega arith)
ok_sound (suc f) at named n (b ∷ text) ts h e = go (ok_sound f) (piece_at named (b ∷ text)) refl e
  where
    go : ((at : ℕ) (named : Bool) (n : ℕ) (text : List ℕ) (ts : List Token) → length text ≤ f → cut f at named n text ≡ Ok ts → Made at named n text ts)
        → (o : Option Found) → piece_at named (b ∷ text) ≡ o → cut_piece (cut f) at named n o ≡ Ok ts → Made at named n (b ∷ text) ts
    go ih None p r = absurd cc
    go ih (Some (lexeme, bytes, after)) p r = within (over_limit n lexeme bytes) refl r
      where
        shorter : length after < length (b ∷ text)
        shorter = piece_shorter named b text lexeme bytes after p

        within : (o : Option (List ℕ)) → over_limit n lexeme bytes ≡ o → cut_within (cut f) at named n lexeme bytes after o ≡ Ok ts → Made at named n (b ∷ text) ts
        within (Some part) l r = absurd cc
        within None l r =
            let s = piece_sound named b text lexeme bytes after p in
            let more = front_ok (spanned (kind_of lexeme bytes) at (at + length bytes)) ts _ r in
            let rest = ih (at + length bytes) (named_after named lexeme bytes) (open_after n lexeme bytes) after more.0 (omega (arith, shorter)) more.1 in
            (piece_with lexeme bytes ∷ rest.0, (after, s.0, s.1, rest.1), (l, rest.2), more.2 ∙ ap (λ (z : List Token). spanned (kind_of lexeme bytes) at (at + length bytes) ++ z) rest.3)

-- ---- what is refused is refused where the text is

abbrev Failed : ℕ → Bool → ℕ → List ℕ → ℕ → ℕ → Type 0
Failed at named n text number place = (pieces : List Piece) × (rest : List ℕ) × (offset : ℕ) × IsFront named text pieces rest × AreWithin n pieces
    × IsFault (named_behind named pieces) (open_behind n pieces) rest number offset × (place ≡ at + (size_of pieces + offset + 1))

further : (at size more offset : ℕ) → (at + size) + (more + offset + 1) ≡ at + ((size + more) + offset + 1)
further at size more offset = omega arith

nothing_stands : (named : Bool) (b : ℕ) (text : List ℕ) → piece_at named (b ∷ text) ≡ None → NothingStands named (b ∷ text)
nothing_stands named b text p = (
  (λ e. absurd cc),
  λ lexeme bytes after e stands.
      (let found : piece_at named (b ∷ text) ≡ Some (lexeme, bytes, after) = ap (piece_at named) e ∙ piece_complete named lexeme bytes after stands in absurd cc),
)

number_is : (a b c d : ℕ) → refused a b ≡ refused c d → (c ≡ a) × (d ≡ b)
number_is a b c d e = (cc, cc)

err_sound : (fuel at : ℕ) (named : Bool) (n : ℕ) (text : List ℕ) (number place : ℕ) → length text ≤ fuel → cut fuel at named n text ≡ refused number place → Failed at named n text number place
unfolding cut
err_sound zero at named n [] number place h e = absurd cc
err_sound (suc f) at named n [] number place h e = absurd cc
err_sound zero at named n (b ∷ text) number place h e = absurd (omega arith)
err_sound (suc f) at named n (b ∷ text) number place h e = go (err_sound f) (piece_at named (b ∷ text)) refl e
  where
    go : ((at : ℕ) (named : Bool) (n : ℕ) (text : List ℕ) (number place : ℕ) → length text ≤ f → cut f at named n text ≡ refused number place → Failed at named n text number place)
        → (o : Option Found) → piece_at named (b ∷ text) ≡ o → cut_piece (cut f) at named n o ≡ refused number place → Failed at named n (b ∷ text) number place
    go ih None p r =
        let same = number_is 102 (at + 1) number place r in
        ([], b ∷ text, 0, refl, tt, inl (same.0, refl, nothing_stands named b text p), same.1 ∙ omega arith)
    go ih (Some (lexeme, bytes, after)) p r = within (over_limit n lexeme bytes) refl r
      where
        shorter : length after < length (b ∷ text)
        shorter = piece_shorter named b text lexeme bytes after p

        within : (o : Option (List ℕ)) → over_limit n lexeme bytes ≡ o → cut_within (cut f) at named n lexeme bytes after o ≡ refused number place → Failed at named n (b ∷ text) number place
        within (Some part) l r =
            let s = piece_sound named b text lexeme bytes after p in
            let same = number_is 50001 (at + (length bytes - length part) + 1) number place r in
            ([], b ∷ text, length bytes - length part, refl, tt, inr (same.0, (lexeme, bytes, after, part, s.0, s.1, l, refl)), same.1 ∙ omega arith)
        within None l r =
            let s = piece_sound named b text lexeme bytes after p in
            let more = front_err (spanned (kind_of lexeme bytes) at (at + length bytes)) number place _ r in
            let rest = ih (at + length bytes) (named_after named lexeme bytes) (open_after n lexeme bytes) after number place (omega (arith, shorter)) more in
            (piece_with lexeme bytes ∷ rest.0, rest.1, rest.2, (after, s.0, s.1, rest.3), (l, rest.4), rest.5, rest.6 ∙ further at (length bytes) (size_of rest.0) rest.2)

-- ---- a text that has tokens gives them, and one that is refused is refused so

-- a lexeme that stands there is cut off
cut_at : (fuel at : ℕ) (named : Bool) (n : ℕ) (text : List ℕ) (lexeme : Lexeme) (bytes after : List ℕ) → length text ≤ fuel → text ≡ bytes ++ after → Stands named lexeme bytes after
    → (f : ℕ) × (length after ≤ f) × (cut fuel at named n text ≡ cut_within (cut f) at named n lexeme bytes after (over_limit n lexeme bytes))
unfolding cut
cut_at fuel at named n [] lexeme bytes after h e stands = absurd (stands.2 (none bytes after e))
  where
    none : (bytes after : List ℕ) → [] ≡ bytes ++ after → bytes ≡ []
    none [] after e = refl
    none (b ∷ bytes) after e = absurd cc
cut_at zero at named n (b ∷ text) lexeme bytes after h e stands = absurd (omega arith)
cut_at (suc f) at named n (b ∷ text) lexeme bytes after h e stands =
    let found : piece_at named (b ∷ text) ≡ Some (lexeme, bytes, after) = ap (piece_at named) e ∙ piece_complete named lexeme bytes after stands in
    let shorter = piece_shorter named b text lexeme bytes after found in
    (f, omega arith, rw found refl)

ok_complete : (pieces : List Piece) (fuel at : ℕ) (named : Bool) (n : ℕ) (text : List ℕ) → length text ≤ fuel → IsFront named text pieces [] → AreWithin n pieces
    → cut fuel at named n text ≡ Ok (tokens_of at pieces)
unfolding cut
ok_complete [] zero at named n [] h front within = refl
ok_complete [] (suc f) at named n [] h front within = refl
ok_complete [] fuel at named n (b ∷ text) h front within = absurd cc
ok_complete (p ∷ pieces) fuel at named n text h (after, e, stands, front) (w, within) =
    let s = cut_at fuel at named n text p.lexeme p.bytes after h e stands in
    let rest = ok_complete pieces s.0 (at + length p.bytes) (named_after named p.lexeme p.bytes) (open_after n p.lexeme p.bytes) after s.1 front within in
    s.2 ∙ ap (cut_within (cut s.0) at named n p.lexeme p.bytes after) w ∙ ap (with_front (spanned (kind_of p.lexeme p.bytes) at (at + length p.bytes))) rest

no_piece : (named : Bool) (text : List ℕ) → NothingStands named text → piece_at named text ≡ None
no_piece named [] (some, none) = absurd (some refl)
no_piece named (b ∷ text) (some, none) = go (piece_at named (b ∷ text)) refl
  where
    go : (o : Option Found) → piece_at named (b ∷ text) ≡ o → piece_at named (b ∷ text) ≡ None
    go None e = e
    go (Some (lexeme, bytes, after)) e = let s = piece_sound named b text lexeme bytes after e in absurd (none lexeme bytes after s.0 s.1)

cut_nothing : (fuel at : ℕ) (named : Bool) (n : ℕ) (text : List ℕ) → length text ≤ fuel → NothingStands named text → cut fuel at named n text ≡ refused 102 (at + 1)
unfolding cut
cut_nothing fuel at named n [] h nothing = absurd (nothing.0 refl)
cut_nothing zero at named n (b ∷ text) h nothing = absurd (omega arith)
cut_nothing (suc f) at named n (b ∷ text) h nothing = rw (no_piece named (b ∷ text) nothing) refl

err_complete : (pieces : List Piece) (fuel at : ℕ) (named : Bool) (n : ℕ) (text rest : List ℕ) (number offset : ℕ) → length text ≤ fuel → IsFront named text pieces rest → AreWithin n pieces
    → IsFault (named_behind named pieces) (open_behind n pieces) rest number offset → cut fuel at named n text ≡ refused number (at + (size_of pieces + offset + 1))
err_complete [] fuel at named n text rest number offset h front within (inl (e, o, nothing)) =
    let here : NothingStands named text = subst (λ (z : List ℕ). NothingStands named z) (sym front) nothing in
    let place : at + 1 ≡ at + (0 + offset + 1) = omega arith in
    cut_nothing fuel at named n text h here ∙ ap (refused 102) place ∙ ap (λ (z : ℕ). refused z (at + (0 + offset + 1))) (sym e)
err_complete [] fuel at named n text rest number offset h front within (inr (e, (lexeme, bytes, after, part, whole, stands, over, o))) =
    let s = cut_at fuel at named n text lexeme bytes after h (front ∙ whole) stands in
    let place : at + (length bytes - length part) + 1 ≡ at + (0 + offset + 1) = omega arith in
    s.2 ∙ ap (cut_within (cut s.0) at named n lexeme bytes after) over ∙ ap (refused 50001) place ∙ ap (λ (z : ℕ). refused z (at + (0 + offset + 1))) (sym e)
err_complete (p ∷ pieces) fuel at named n text rest number offset h (after, e, stands, front) (w, within) fault =
    let s = cut_at fuel at named n text p.lexeme p.bytes after h e stands in
    let more = err_complete pieces s.0 (at + length p.bytes) (named_after named p.lexeme p.bytes) (open_after n p.lexeme p.bytes) after rest number offset s.1 front within fault in
    let place : (at + length p.bytes) + (size_of pieces + offset + 1) ≡ at + ((length p.bytes + size_of pieces) + offset + 1) = omega arith in
    s.2 ∙ ap (cut_within (cut s.0) at named n p.lexeme p.bytes after) w ∙ ap (with_front (spanned (kind_of p.lexeme p.bytes) at (at + length p.bytes))) more ∙ ap (refused number) place

-- ---- the clauses

pub gives_found : (r : Result (List Token) TokenRefusal) (text : List ℕ) → Gives r (cut (length text) 0 false 0 text) → IfOk r (λ ts. HasTokens text ts)
gives_found (Ok ts) text g = ok_sound (length text) 0 false 0 text ts (omega arith) g
gives_found (Err e) text g = tt

pub gives_only : (r : Result (List Token) TokenRefusal) (text : List ℕ) → Gives r (cut (length text) 0 false 0 text) → (others : List Token) → HasTokens text others
    → MatchResult r (λ ts. ts ≡ others) (λ e. e ≡ refusal.Memory)
gives_only (Ok ts) text g others (pieces, front, within, e) =
    let all = ok_complete pieces (length text) 0 false 0 text (omega arith) front within in cc
gives_only (Err refusal.Memory) text g others has = refl
gives_only (Err (refusal.At number at)) text g others (pieces, front, within, e) =
    let all = ok_complete pieces (length text) 0 false 0 text (omega arith) front within in absurd cc

from_start : (a b : ℕ) → a ≡ 0 + b → a ≡ b
from_start a b h = omega arith

pub gives_refused : (r : Result (List Token) TokenRefusal) (text : List ℕ) → Gives r (cut (length text) 0 false 0 text) → IfErr r (λ e. Refuses text e)
gives_refused (Ok ts) text g = tt
gives_refused (Err refusal.Memory) text g = tt
gives_refused (Err (refusal.At number at)) text g =
    let s = err_sound (length text) 0 false 0 text number at (omega arith) g in
    (s.0, s.1, s.2, s.3, s.4, s.5, from_start at _ s.6)

pub gives_place : (r : Result (List Token) TokenRefusal) (text : List ℕ) → Gives r (cut (length text) 0 false 0 text) → (number at : ℕ) → IsRefused text number at
    → MatchResult r (λ ts. ⊥) (λ e. AnswersOnly number at e)
gives_place (Ok ts) text g number at (pieces, rest, offset, front, within, fault, e) =
    let all = err_complete pieces (length text) 0 false 0 text rest number offset (omega arith) front within fault in cc
gives_place (Err refusal.Memory) text g number at is = tt
gives_place (Err (refusal.At m place)) text g number at (pieces, rest, offset, front, within, fault, e) =
    let all = err_complete pieces (length text) 0 false 0 text rest number offset (omega arith) front within fault in
    let same = number_is m place number (0 + (size_of pieces + offset + 1)) (sym g ∙ all) in
    (sym same.0, sym same.1 ∙ zero-add (size_of pieces + offset + 1) ∙ sym e)

span_of : (size from to : ℕ) (o : Option TokenKind) → from < to → to ≤ size → AllByRecursion (IsSpan size) (spanned o from to)
span_of size from to None h k = tt
span_of size from to (Some kind) h k = ((h, k), tt)

both_spans : (size : ℕ) (xs ys : List Token) → AllByRecursion (IsSpan size) xs → AllByRecursion (IsSpan size) ys → AllByRecursion (IsSpan size) (xs ++ ys)
both_spans size [] ys h k = k
both_spans size (x ∷ xs) ys (h, more) k = (h, both_spans size xs ys more k)

some_bytes : (bytes : List ℕ) → bytes ≢ [] → 0 < length bytes
some_bytes [] h = absurd (h refl)
some_bytes (b ∷ bytes) h = omega arith

spans_of : (pieces : List Piece) (named : Bool) (text : List ℕ) (at size : ℕ) → size ≡ at + length text → IsFront named text pieces [] → AllByRecursion (IsSpan size) (tokens_of at pieces)
spans_of [] named text at size h front = tt
spans_of (p ∷ pieces) named text at size h (after, e, stands, front) =
    let some : 0 < length p.bytes = some_bytes p.bytes stands.2 in
    let whole : length text ≡ length p.bytes + length after = ap length e ∙ length-append p.bytes after in
    both_spans size _ _ (span_of size at (at + length p.bytes) (kind_of p.lexeme p.bytes) (omega arith) (omega arith))
    (spans_of pieces (named_after named p.lexeme p.bytes) after (at + length p.bytes) size (omega arith) front)

pub gives_spans : (r : Result (List Token) TokenRefusal) (text : List ℕ) → Gives r (cut (length text) 0 false 0 text) → IfOk r (λ ts. All (IsSpan (length text)) ts)
gives_spans (Ok ts) text g =
    let s = ok_sound (length text) 0 false 0 text ts (omega arith) g in
    let all : AllByRecursion (IsSpan (length text)) ts = subst (λ (z : List Token). AllByRecursion (IsSpan (length text)) z) (sym s.3) (spans_of s.0 false text 0 (length text) (omega arith) s.1) in
    All-from_recursion (IsSpan (length text)) ts all
gives_spans (Err e) text g = tt
