-- The line of each statement: it prints, it is short, and it has the form of its step.
use Rattle.std.proofs.Common.{◌≡◌, ℕ, ◌≤◌, List, [], ◌∷◌, ◌++◌, length, refl, sym, ap, subst, length-append, append_assoc, true, arith, codes, decimal, nat_le}
use Rattle.std.proofs.lemmas.Bool.{and_from, le-leb}
use Rattle.script_reader.specs.declared.form.Form.TheVariants.{Ask}
use Rattle.script_reader.specs.declared.script.Step.{Step}
use Rattle.script_reader.specs.declared.script.Step.TheVariants.{Whole, Turn}
use Rattle.script_reader.specs.Grammar.{IsText, IsOfForm}
use Rattle.script_reader.specs.Lines.{stripped, form_of}
use Rattle.script_reader.specs.Scripts.{taken_by, is_actor}
use Rattle.script_reader.proofs.Grammar.{form_whole}
use Rattle.script_workload.specs.declared.statement.Statement.{Statement}
use Rattle.script_workload.specs.declared.statement.Statement.TheVariants.{Begin, Commit, Rollback, Insert, Update, Delete, Select, Mover}
use Rattle.script_workload.specs.Workload.{actor, text_of}
use Rattle.workload_laws.specs.Scripts.{sql_of, step_of, is_whole}
use Rattle.workload_laws.proofs.Printed.{IsPrinted, EndsBare, printed_append, bare_append, stripped_same, digits_printed, digits_bare}
use Rattle.workload_laws.proofs.Numbers.{HasDigits, has_digits, three_digits, session_number, HasSmallNumbers}

-- the line of a statement, without the byte 10 at its end
abbrev pub line_without_end : ℕ → Statement → List ℕ
line_without_end session statement = actor session statement ++ text_of statement

-- a line that asks for a whole step of an actor of scripts
pub record AsksFor (line : List ℕ) (step : Step) : Type 0 where
  pub printed : IsPrinted line
  pub short : length line ≤ 63
  pub form : form_of line ≡ Ask step
  pub actor : is_actor (taken_by step) ≡ true
  pub whole : is_whole step ≡ true

-- a text after a session: a space, and what a script takes as a statement's text
record IsSpaced (text sql : List ℕ) : Type 0 where
  cut : text ≡ 32 ∷ sql
  is : IsText sql
  printed : IsPrinted text
  ends : EndsBare text
  short : length text ≤ 60

-- texts that end with a number, or with what stands after it
keyed : (front sql : List ℕ) (key : ℕ) → HasDigits key 3 → front ++ decimal key ≡ 32 ∷ sql → IsText sql → IsPrinted front → length front ≤ 57 → IsSpaced (front ++ decimal key) sql
keyed front sql key d cut is printed short = record {
  cut = cut;
  is = is;
  printed = printed_append front (decimal key) printed (digits_printed (decimal key) d.are);
  ends = bare_append front (decimal key) (digits_bare (decimal key) d.some d.are);
  short = omega (arith, length-append front (decimal key), d.few);
}

text_spaced : (statement : Statement) → HasSmallNumbers statement → (statement ≡ Mover → ⊥) → IsSpaced (text_of statement) (sql_of statement)
text_spaced Begin small never = record {
  cut = refl;
  is = (omega arith, refl);
  printed = refl;
  ends = record { front = codes " BEGIN TRANSACTIO"; last = 78; cut = refl; bare = refl };
  short = omega arith;
}
text_spaced Commit small never = record {
  cut = refl;
  is = (omega arith, refl);
  printed = refl;
  ends = record { front = codes " COMMI"; last = 84; cut = refl; bare = refl };
  short = omega arith;
}
text_spaced Rollback small never = record {
  cut = refl;
  is = (omega arith, refl);
  printed = refl;
  ends = record { front = codes " ROLLBAC"; last = 75; cut = refl; bare = refl };
  short = omega arith;
}
text_spaced (Insert key value word) small never =
    let k = three_digits key small.0 in
    let v = three_digits value small.1 in
    let w = three_digits word small.2 in
    let one : List ℕ = codes " INSERT INTO t VALUES (" in
    let two : List ℕ = one ++ decimal key ++ codes ", " in
    let three : List ℕ = two ++ decimal value ++ codes ", 'w" in
    let four : List ℕ = three ++ decimal word in
    record {
      cut = refl;
      is = (omega arith, refl);
      printed = printed_append four (codes "')")
          (printed_append three (decimal word)
          (printed_append (two ++ decimal value) (codes ", 'w")
          (printed_append two (decimal value)
          (printed_append (one ++ decimal key) (codes ", ") (printed_append one (decimal key) refl (digits_printed (decimal key) k.are)) refl)
          (digits_printed (decimal value) v.are))
          refl)
          (digits_printed (decimal word) w.are))
          refl;
      ends = record { front = four ++ 39 ∷ []; last = 41; cut = sym (append_assoc four (39 ∷ []) (41 ∷ [])); bare = refl };
      short = omega (
        arith,
        length-append four (codes "')"),
        length-append three (decimal word),
        length-append (two ++ decimal value) (codes ", 'w"),
        length-append two (decimal value),
        length-append (one ++ decimal key) (codes ", "),
        length-append one (decimal key),
        k.few,
        v.few,
        w.few,
      );
    }
text_spaced (Update key) small never = keyed (codes " UPDATE t SET v = v + 1 WHERE k = ") _ key (three_digits key small) refl (omega arith, refl) refl (omega arith)
text_spaced (Delete key) small never = keyed (codes " DELETE FROM t WHERE k = ") _ key (three_digits key small) refl (omega arith, refl) refl (omega arith)
text_spaced (Select key) small never = keyed (codes " SELECT COUNT(*), SUM(v) FROM t WHERE k >= ") _ key (three_digits key small) refl (omega arith, refl) refl (omega arith)
text_spaced Mover small never = absurd (never refl)

module _ (session : ℕ) (low : 1 ≤ session) (high : session ≤ 64) where
  asks_for_whole : (text sql : List ℕ) → IsSpaced text sql → AsksFor ((codes "s" ++ decimal session) ++ text) (Whole session sql)
  asks_for_whole text sql spaced =
      let number = session_number session low high in
      let two = has_digits session 2 (omega arith) (omega arith) (omega arith) in
      let line : List ℕ = (codes "s" ++ decimal session) ++ text in
      let bare : stripped line ≡ line = stripped_same 115 (decimal session ++ text) refl (bare_append (codes "s" ++ decimal session) text spaced.ends) in
      record {
        printed = printed_append (codes "s" ++ decimal session) text (printed_append (codes "s") (decimal session) refl (digits_printed (decimal session) number.0)) spaced.printed;
        short = omega (arith, length-append (codes "s" ++ decimal session) text, length-append (codes "s") (decimal session), two.few, spaced.short);
        form = form_whole line (Ask (Whole session sql)) (subst (λ (z : List ℕ). IsOfForm z (Ask (Whole session sql))) (sym bare)
            (decimal session, 32 ∷ [], ap (λ z. 115 ∷ (decimal session ++ z)) spaced.cut, number, omega arith, refl, spaced.is));
        actor = and_from (nat_le 1 session) (nat_le session 64) (le-leb 1 session low) (le-leb session 64 high);
        whole = refl;
      }

turn_form : form_of (codes "m1") ≡ Ask (Turn 1)
unfolding form_of
turn_form = refl

asks_for_turn : AsksFor (codes "m1") (Turn 1)
asks_for_turn = record { printed = refl; short = omega arith; form = turn_form; actor = refl; whole = refl }

-- each line asks for its step
pub asks : (session : ℕ) (statement : Statement) → 1 ≤ session → session ≤ 64 → HasSmallNumbers statement → AsksFor (line_without_end session statement) (step_of session statement)
asks session Begin low high small = asks_for_whole session low high _ _ (text_spaced Begin small (λ e. absurd (cc)))
asks session Commit low high small = asks_for_whole session low high _ _ (text_spaced Commit small (λ e. absurd (cc)))
asks session Rollback low high small = asks_for_whole session low high _ _ (text_spaced Rollback small (λ e. absurd (cc)))
asks session (Insert key value word) low high small = asks_for_whole session low high _ _ (text_spaced (Insert key value word) small (λ e. absurd (cc)))
asks session (Update key) low high small = asks_for_whole session low high _ _ (text_spaced (Update key) small (λ e. absurd (cc)))
asks session (Delete key) low high small = asks_for_whole session low high _ _ (text_spaced (Delete key) small (λ e. absurd (cc)))
asks session (Select key) low high small = asks_for_whole session low high _ _ (text_spaced (Select key) small (λ e. absurd (cc)))
asks session Mover low high small = asks_for_turn

pub whole_steps : (session : ℕ) (statement : Statement) → is_whole (step_of session statement) ≡ true
whole_steps session Begin = refl
whole_steps session Commit = refl
whole_steps session Rollback = refl
whole_steps session (Insert key value word) = refl
whole_steps session (Update key) = refl
whole_steps session (Delete key) = refl
whole_steps session (Select key) = refl
whole_steps session Mover = refl
