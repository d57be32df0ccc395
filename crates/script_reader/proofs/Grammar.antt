-- A line has the form that the grammar gives it, and no other.
use Rattle.std.proofs.Common.{◌≡◌, ◌⊎◌, inl, inr, ℕ, ◌+◌, ◌<◌, List, [], ◌∷◌, ◌++◌, length, drop, refl, sym, ap, subst, ◌∙◌, cond, Bool, true, false, ◌&&◌, ◌||◌, arith}
use Rattle.std.proofs.Math.Numerals.{one-add}
use Rattle.std.proofs.Math.Seq.{take-append_seam, drop-append_seam}
use Rattle.std.proofs.lemmas.Bool.{eqb-true, leb-true, ne_eqb}
use Rattle.std.proofs.lemmas.List.{append-nil, take-append-drop}
use Rattle.std.specs.Prelude.{Option, None, Some, codes, nat_eq, nat_le, ◌==◌}
use Rattle.std.specs.List.{list_all, prefix_len, take_while, starts_with}
use Rattle.std.specs.Option.{option_map_or}
use Rattle.cs_types.specs.Calendar.{is_digit, digits_value}
use Rattle.script_reader.specs.declared.script.Step.TheVariants.{Whole, Begun, Finished, Turn, Claiming, Installing}
use Rattle.script_reader.specs.declared.form.Form.{Form}
use Rattle.script_reader.specs.declared.form.Form.TheVariants.{Skipped, Setup, Ask, Other}
use Rattle.script_reader.specs.Lines.{is_blank, unblanked, stripped, some_text, blanked_text, finish_form, session_form, is_number, mover_form, numbered_form, setup_form, named_form, bare_form, form_of}
use Rattle.script_reader.specs.Grammar.{AreBlanks, IsText, IsNumber, IsOfForm}
use Rattle.script_reader.proofs.Forms.{digits_all}

-- ---- what is read is of the grammar

abbrev Sound : List ℕ → Form → Type 0
Sound line form = (form ≡ Other) ⊎ IsOfForm line form

record HasText (rest text : List ℕ) : Type 0 where
  blanks : List ℕ
  cut : rest ≡ blanks ++ text
  are : AreBlanks blanks
  is : IsText text

-- the blanks that a line begins with
blanks_of : (rest : List ℕ) → (blanks : List ℕ) × (rest ≡ blanks ++ unblanked rest) × AreBlanks blanks × (unblanked (unblanked rest) ≡ unblanked rest)
blanks_of [] = ([], refl, refl, refl)
blanks_of (c ∷ rest) = at (is_blank c) refl (blanks_of rest)
  where
    at : (t : Bool) → is_blank c ≡ t → (blanks : List ℕ) × (rest ≡ blanks ++ unblanked rest) × AreBlanks blanks × (unblanked (unblanked rest) ≡ unblanked rest)
        → (blanks : List ℕ) × ((c ∷ rest) ≡ blanks ++ cond t (unblanked rest) (c ∷ rest)) × AreBlanks blanks × (unblanked (cond t (unblanked rest) (c ∷ rest)) ≡ cond t (unblanked rest) (c ∷ rest))
    at true e more = (c ∷ more.0, ap (λ xs. c ∷ xs) more.1, ap (λ b. b && list_all is_blank more.0) e ∙ more.2, more.3)
    at false e more = ([], refl, refl, ap (λ b. cond b (unblanked rest) (c ∷ rest)) e)

some_sound : (rest : List ℕ) → (some_text (unblanked rest) ≡ None) ⊎ ((text : List ℕ) × (some_text (unblanked rest) ≡ Some text) × HasText rest text)
some_sound rest = let b = blanks_of rest in at (unblanked rest) refl b.0 b.1 b.2 b.3
  where
    at : (u : List ℕ) → unblanked rest ≡ u → (blanks : List ℕ) → rest ≡ blanks ++ unblanked rest → AreBlanks blanks → unblanked (unblanked rest) ≡ unblanked rest
        → (some_text u ≡ None) ⊎ ((text : List ℕ) × (some_text u ≡ Some text) × HasText rest text)
    at [] e blanks cut are is = inl refl
    at (c ∷ text) e blanks cut are is = inr (c ∷ text, refl, record { blanks = blanks; cut = cut ∙ ap (λ u. blanks ++ u) e; are = are; is = (omega arith, subst (λ u. unblanked u ≡ u) e is) })

-- with a blank at least
blanked_sound : (rest : List ℕ) → (blanked_text rest ≡ None) ⊎ ((text : List ℕ) × (blanked_text rest ≡ Some text) × ((h : HasText rest text) × (0 < length h.blanks)))
blanked_sound [] = inl refl
blanked_sound (c ∷ rest) = at (is_blank c) refl (some_sound rest)
  where
    at : (t : Bool) → is_blank c ≡ t → (some_text (unblanked rest) ≡ None) ⊎ ((text : List ℕ) × (some_text (unblanked rest) ≡ Some text) × HasText rest text)
        → (cond t (some_text (unblanked rest)) None ≡ None) ⊎ ((text : List ℕ) × (cond t (some_text (unblanked rest)) None ≡ Some text) × ((h : HasText (c ∷ rest) text) × (0 < length h.blanks)))
    at true e (inl none) = inl none
    at true e (inr some) = let h = some.2 in inr (some.0, some.1, (record { blanks = c ∷ h.blanks; cut = ap (λ xs. c ∷ xs) h.cut; are = ap (λ b. b && list_all is_blank h.blanks) e ∙ h.are; is = h.is }, omega arith))
    at false e more = inl refl

other_by : (line : List ℕ) (form : List ℕ → Form) (o : Option (List ℕ)) → o ≡ None → Sound line (option_map_or form o Other)
other_by line form o e = inl (ap (λ o. option_map_or form o Other) e)

setup_sound : (line rest : List ℕ) → line ≡ codes "setup" ++ rest → Sound line (setup_form rest)
setup_sound line rest cut = at (blanked_sound rest)
  where
    at : (blanked_text rest ≡ None) ⊎ ((text : List ℕ) × (blanked_text rest ≡ Some text) × ((h : HasText rest text) × (0 < length h.blanks))) → Sound line (setup_form rest)
    at (inl none) = other_by line Setup (blanked_text rest) none
    at (inr some) = let h = some.2.0 in inr (subst (IsOfForm line) (sym (ap (λ o. option_map_or Setup o Other) some.1)) (h.blanks, cut ∙ ap (λ xs. codes "setup" ++ xs) h.cut, some.2.1, h.are, h.is))

module _ (line digits : List ℕ) (session : ℕ) (number : IsNumber digits session) where
  begun_sound : (rest : List ℕ) → line ≡ codes "s" ++ (digits ++ (codes ">" ++ rest)) → Sound line (option_map_or (λ text. Ask (Begun session text)) (some_text (unblanked rest)) Other)
  begun_sound rest cut = at (some_sound rest)
    where
      at : (some_text (unblanked rest) ≡ None) ⊎ ((text : List ℕ) × (some_text (unblanked rest) ≡ Some text) × HasText rest text) → Sound line (option_map_or (λ text. Ask (Begun session text)) (some_text (unblanked rest)) Other)
      at (inl none) = other_by line (λ text. Ask (Begun session text)) (some_text (unblanked rest)) none
      at (inr some) = let h = some.2 in inr (subst (IsOfForm line) (sym (ap (λ o. option_map_or (λ text. Ask (Begun session text)) o Other) some.1))
          (digits, h.blanks, cut ∙ ap (λ xs. codes "s" ++ (digits ++ (codes ">" ++ xs))) h.cut, number, h.are, h.is))

  whole_sound : (rest : List ℕ) → line ≡ codes "s" ++ (digits ++ rest) → Sound line (option_map_or (λ text. Ask (Whole session text)) (blanked_text rest) Other)
  whole_sound rest cut = at (blanked_sound rest)
    where
      at : (blanked_text rest ≡ None) ⊎ ((text : List ℕ) × (blanked_text rest ≡ Some text) × ((h : HasText rest text) × (0 < length h.blanks))) → Sound line (option_map_or (λ text. Ask (Whole session text)) (blanked_text rest) Other)
      at (inl none) = other_by line (λ text. Ask (Whole session text)) (blanked_text rest) none
      at (inr some) = let h = some.2.0 in inr (subst (IsOfForm line) (sym (ap (λ o. option_map_or (λ text. Ask (Whole session text)) o Other) some.1))
          (digits, h.blanks, cut ∙ ap (λ xs. codes "s" ++ (digits ++ xs)) h.cut, number, some.2.1, h.are, h.is))

  finish_sound : (rest : List ℕ) → line ≡ codes "s" ++ (digits ++ (codes "<" ++ rest)) → Sound line (finish_form session rest)
  finish_sound [] cut = inr (digits, cut, number)
  finish_sound (b ∷ rest) cut = inl refl

  session_sound : (rest : List ℕ) → line ≡ codes "s" ++ (digits ++ rest) → Sound line (session_form session rest)
  session_sound [] cut = inl refl
  session_sound (c ∷ rest) cut = at (c == 62) (c == 60) refl refl
    where
      at : (t u : Bool) → (c == 62) ≡ t → (c == 60) ≡ u → Sound line (cond t (option_map_or (λ text. Ask (Begun session text)) (some_text (unblanked rest)) Other) (cond u (finish_form session rest) (option_map_or (λ text. Ask (Whole session text)) (blanked_text (c ∷ rest)) Other)))
      at true u e f = begun_sound rest (cut ∙ ap (λ b. codes "s" ++ (digits ++ (b ∷ rest))) (eqb-true c 62 e))
      at false true e f = finish_sound rest (cut ∙ ap (λ b. codes "s" ++ (digits ++ (b ∷ rest))) (eqb-true c 60 f))
      at false false e f = whole_sound (c ∷ rest) cut

mover_sound : (line digits : List ℕ) (mover : ℕ) → IsNumber digits mover → (rest : List ℕ) → line ≡ codes "m" ++ (digits ++ rest) → Sound line (mover_form mover rest)
mover_sound line digits mover number [] cut = inr (digits, cut ∙ ap (λ xs. codes "m" ++ xs) (append-nil digits), number)
mover_sound line digits mover number (c ∷ []) cut = at (c == 62) (c == 60) refl refl
  where
    at : (t u : Bool) → (c == 62) ≡ t → (c == 60) ≡ u → Sound line (cond t (Ask (Claiming mover)) (cond u (Ask (Installing mover)) Other))
    at true u e f = inr (digits, cut ∙ ap (λ b. codes "m" ++ (digits ++ (b ∷ []))) (eqb-true c 62 e), number)
    at false true e f = inr (digits, cut ∙ ap (λ b. codes "m" ++ (digits ++ (b ∷ []))) (eqb-true c 60 f), number)
    at false false e f = inl refl
mover_sound line digits mover number (c ∷ d ∷ rest) cut = inl refl

numbered_sound : (line front : List ℕ) (form : ℕ → List ℕ → Form) → ((digits : List ℕ) (number : ℕ) → IsNumber digits number → (rest : List ℕ) → line ≡ front ++ (digits ++ rest) → Sound line (form number rest))
    → (rest : List ℕ) → line ≡ front ++ rest → Sound line (numbered_form form rest)
numbered_sound line front form each rest cut = at (is_number (take_while is_digit rest)) refl
  where
    at : (t : Bool) → is_number (take_while is_digit rest) ≡ t → Sound line (cond t (form (digits_value (take_while is_digit rest)) (drop (prefix_len is_digit rest) rest)) Other)
    at true e = each (take_while is_digit rest) (digits_value (take_while is_digit rest)) (digits_all rest, e, refl) (drop (prefix_len is_digit rest) rest)
        (cut ∙ ap (λ xs. front ++ xs) (sym (take-append-drop (prefix_len is_digit rest) rest)))
    at false e = inl refl

-- what stands after a prefix
behind_is : (front line : List ℕ) → starts_with nat_eq line front ≡ true → line ≡ front ++ drop (length front) line
behind_is [] line e = refl
behind_is (f ∷ front) [] e = absurd (cc)
behind_is (f ∷ front) (c ∷ line) e = at (f == c) refl e (behind_is front line)
  where
    at : (t : Bool) → (f == c) ≡ t → (t && starts_with nat_eq line front) ≡ true → (starts_with nat_eq line front ≡ true → line ≡ front ++ drop (length front) line) → (c ∷ line) ≡ f ∷ (front ++ drop (length front) line)
    at true same rest more = ap (λ b. b ∷ line) (sym (eqb-true f c same)) ∙ ap (λ xs. f ∷ xs) (more rest)
    at false same rest more = absurd (cc)

empty : (line : List ℕ) → (length line == 0) ≡ true → line ≡ []
empty [] e = refl
empty (c ∷ line) e = absurd (grind arith)

named_sound : (line : List ℕ) → Sound line (named_form line)
named_sound line = at (starts_with nat_eq line (codes "setup")) (starts_with nat_eq line (codes "s")) (starts_with nat_eq line (codes "m")) refl refl refl
  where
    at : (t u v : Bool) → starts_with nat_eq line (codes "setup") ≡ t → starts_with nat_eq line (codes "s") ≡ u → starts_with nat_eq line (codes "m") ≡ v
        → Sound line (option_map_or setup_form (cond t (Some (drop 5 line)) None) (option_map_or (numbered_form session_form) (cond u (Some (drop 1 line)) None) (option_map_or (numbered_form mover_form) (cond v (Some (drop 1 line)) None) Other)))
    at true u v e f g = setup_sound line (drop 5 line) (behind_is (codes "setup") line e)
    at false true v e f g = numbered_sound line (codes "s") session_form (session_sound line) (drop 1 line) (behind_is (codes "s") line f)
    at false false true e f g = numbered_sound line (codes "m") mover_form (mover_sound line) (drop 1 line) (behind_is (codes "m") line g)
    at false false false e f g = inl refl

bare_sound : (line : List ℕ) → Sound line (bare_form line)
bare_sound line = at (length line == 0) (starts_with nat_eq line (codes "--")) refl refl
  where
    at : (a b : Bool) → (length line == 0) ≡ a → starts_with nat_eq line (codes "--") ≡ b → Sound line (cond (a || b) Skipped (named_form line))
    at true b e f = inr (inl (empty line e))
    at false true e f = inr (inr (drop 2 line, behind_is (codes "--") line f))
    at false false e f = named_sound line

pub form_sound : (line : List ℕ) → (form_of line ≡ Other) ⊎ IsOfForm (stripped line) (form_of line)
unfolding form_of
form_sound line = bare_sound (stripped line)

-- ---- what is of the grammar is read

both_true : (a b : Bool) → (a && b) ≡ true → (a ≡ true) × (b ≡ true)
both_true true true e = (refl, refl)
both_true true false e = absurd (cc)
both_true false b e = absurd (cc)

-- blanks, and a text
unblanked_front : (blanks text : List ℕ) → AreBlanks blanks → unblanked (blanks ++ text) ≡ unblanked text
unblanked_front [] text all = refl
unblanked_front (c ∷ blanks) text all = let both = both_true (is_blank c) (list_all is_blank blanks) all in
    ap (λ b. cond b (unblanked (blanks ++ text)) (c ∷ (blanks ++ text))) both.0 ∙ unblanked_front blanks text both.1

some_is : (text : List ℕ) → 0 < length text → some_text text ≡ Some text
some_is [] h = absurd (omega arith)
some_is (b ∷ text) h = refl

text_is : (blanks text : List ℕ) → AreBlanks blanks → IsText text → some_text (unblanked (blanks ++ text)) ≡ Some text
text_is blanks text all is = ap some_text (unblanked_front blanks text all ∙ is.1) ∙ some_is text is.0

blanked_is : (blanks text : List ℕ) → 0 < length blanks → AreBlanks blanks → IsText text → blanked_text (blanks ++ text) ≡ Some text
blanked_is [] text h all is = absurd (omega arith)
blanked_is (c ∷ blanks) text h all is = let both = both_true (is_blank c) (list_all is_blank blanks) all in
    ap (λ b. cond b (some_text (unblanked (blanks ++ text))) None) both.0 ∙ text_is blanks text both.1 is

-- digits, and what is none
digits_front : (digits tail : List ℕ) → list_all is_digit digits ≡ true → prefix_len is_digit tail ≡ 0 → prefix_len is_digit (digits ++ tail) ≡ length digits
digits_front [] tail all stop = stop
digits_front (d ∷ digits) tail all stop = let both = both_true (is_digit d) (list_all is_digit digits) all in
    ap (λ b. cond b (1 + prefix_len is_digit (digits ++ tail)) 0) both.0 ∙ ap (λ n. 1 + n) (digits_front digits tail both.1 stop) ∙ one-add (length digits)

numbered_is : (form : ℕ → List ℕ → Form) (digits tail : List ℕ) (number : ℕ) → IsNumber digits number → prefix_len is_digit tail ≡ 0 → numbered_form form (digits ++ tail) ≡ form number tail
numbered_is form digits tail number are stop =
    rw (digits_front digits tail are.0 stop, take-append_seam digits tail, drop-append_seam digits tail, are.1) (ap (λ n. form n tail) (sym are.2))

not_zero : (xs : List ℕ) (c : ℕ) → (length (c ∷ xs) == 0) ≡ false
not_zero xs c = ne_eqb (length (c ∷ xs)) 0 (λ e. absurd (omega arith))

not_e : (d : ℕ) → is_digit d ≡ true → (101 == d) ≡ false
not_e d e = ne_eqb 101 d (λ same. let high = leb-true d 57 (both_true (nat_le 48 d) (nat_le d 57) e).1 in absurd (omega arith))

session_is : (digits tail : List ℕ) (session : ℕ) → IsNumber digits session → prefix_len is_digit tail ≡ 0 → bare_form (codes "s" ++ (digits ++ tail)) ≡ session_form session tail
session_is [] tail session number stop = let none = number.1 in absurd (cc)
session_is (d ∷ digits) tail session number stop =
    rw (not_zero (d ∷ (digits ++ tail)) 115, not_e d (both_true (is_digit d) (list_all is_digit digits) number.0).0) (numbered_is session_form (d ∷ digits) tail session number stop)

mover_is : (digits tail : List ℕ) (mover : ℕ) → IsNumber digits mover → prefix_len is_digit tail ≡ 0 → bare_form (codes "m" ++ (digits ++ tail)) ≡ mover_form mover tail
mover_is digits tail mover number stop = rw (not_zero (digits ++ tail) 109) (numbered_is mover_form digits tail mover number stop)

setup_is : (rest : List ℕ) → bare_form (codes "setup" ++ rest) ≡ setup_form rest
setup_is rest = rw (not_zero (codes "etup" ++ rest) 115) refl

blank_is : (c : ℕ) → is_blank c ≡ true → (c ≡ 9) ⊎ (c ≡ 32)
blank_is c e = at (c == 9) (c == 32) refl refl e
  where
    at : (t u : Bool) → (c == 9) ≡ t → (c == 32) ≡ u → (t || u) ≡ true → (c ≡ 9) ⊎ (c ≡ 32)
    at true u f g h = inl (eqb-true c 9 f)
    at false true f g h = inr (eqb-true c 32 g)
    at false false f g h = absurd (cc)

whole_at : (c session : ℕ) (rest : List ℕ) → (c ≡ 9) ⊎ (c ≡ 32) → (session_form session (c ∷ rest) ≡ option_map_or (λ text. Ask (Whole session text)) (blanked_text (c ∷ rest)) Other) × (prefix_len is_digit (c ∷ rest) ≡ 0)
whole_at c session rest (inl e) = rw e (refl, refl)
whole_at c session rest (inr e) = rw e (refl, refl)

whole_is : (blanks text : List ℕ) (session : ℕ) → 0 < length blanks → AreBlanks blanks → IsText text → (session_form session (blanks ++ text) ≡ Ask (Whole session text)) × (prefix_len is_digit (blanks ++ text) ≡ 0)
whole_is [] text session some all is = absurd (omega arith)
whole_is (c ∷ blanks) text session some all is =
    let at = whole_at c session (blanks ++ text) (blank_is c (both_true (is_blank c) (list_all is_blank blanks) all).0) in
    (at.0 ∙ ap (λ o. option_map_or (λ text. Ask (Whole session text)) o Other) (blanked_is (c ∷ blanks) text some all is), at.1)

skip_is : (line : List ℕ) → IsOfForm line Skipped → bare_form line ≡ Skipped
skip_is line (inl e) = ap bare_form e
skip_is line (inr comment) = ap bare_form comment.1 ∙ rw (not_zero (45 ∷ comment.0) 45) refl

bare_whole : (line : List ℕ) (form : Form) → IsOfForm line form → bare_form line ≡ form
bare_whole line Skipped is = skip_is line is
bare_whole line (Setup text) is = ap bare_form is.1 ∙ setup_is (is.0 ++ text) ∙ ap (λ o. option_map_or Setup o Other) (blanked_is is.0 text is.2 is.3 is.4)
bare_whole line (Ask (Whole session text)) is = let w = whole_is is.1 text session is.4 is.5 is.6 in
    ap bare_form is.2 ∙ session_is is.0 (is.1 ++ text) session is.3 w.1 ∙ w.0
bare_whole line (Ask (Begun session text)) is = ap bare_form is.2 ∙ session_is is.0 (codes ">" ++ (is.1 ++ text)) session is.3 refl
    ∙ ap (λ o. option_map_or (λ text. Ask (Begun session text)) o Other) (text_is is.1 text is.4 is.5)
bare_whole line (Ask (Finished session)) is = ap bare_form is.1 ∙ session_is is.0 (codes "<") session is.2 refl
bare_whole line (Ask (Turn mover)) is = ap bare_form (is.1 ∙ ap (λ xs. codes "m" ++ xs) (sym (append-nil is.0))) ∙ mover_is is.0 [] mover is.2 refl
bare_whole line (Ask (Claiming mover)) is = ap bare_form is.1 ∙ mover_is is.0 (codes ">") mover is.2 refl
bare_whole line (Ask (Installing mover)) is = ap bare_form is.1 ∙ mover_is is.0 (codes "<") mover is.2 refl
bare_whole line Other is = absurd is

pub form_whole : (line : List ℕ) (form : Form) → IsOfForm (stripped line) form → form_of line ≡ form
unfolding form_of
form_whole line form is = bare_whole (stripped line) form is
