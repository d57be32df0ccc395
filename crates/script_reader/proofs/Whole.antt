-- A script that was read whole, and why one was not.
use Rattle.std.proofs.Common.{◌≡◌, ℕ, ◌+◌, ◌≤◌, List, [], ◌∷◌, ◌++◌, length, get_or, refl, sym, ap, subst, ◌∙◌, cond, Bool, true, false, ◌&&◌, not, arith, append_assoc}
use Rattle.std.proofs.lemmas.Bool.{leb-true}
use Rattle.std.proofs.lemmas.List.{append-nil}
use Rattle.std.proofs.lemmas.List.Elements.{All-nil, All-cons, All-weaker, All-contains_itself}
use Rattle.std.specs.Prelude.{Option, None, Some, Result, Ok, Err, MatchResult, nat_le, All}
use Rattle.std.specs.List.{cons_option}
use Rattle.std.specs.Result.{IsErrAnd, IfErr}
use Rattle.cs_types.specs.declared.Schema.{Schema}
use Rattle.cs_types.specs.Schemas.{IsSchema}
use Rattle.cs_model.specs.declared.work.Actor.{Actor}
use Rattle.cs_model.specs.declared.work.Actor.TheVariants.{Session, Mover}
use Rattle.tsql_create.specs.Tables.{IsTable}
use Rattle.script_reader.specs.declared.form.Form.{Form}
use Rattle.script_reader.specs.declared.form.Form.TheVariants.{Skipped, Setup, Ask, Other}
use Rattle.script_reader.specs.declared.read.Reading.{Reading}
use Rattle.script_reader.specs.declared.script.Mode.{Mode}
use Rattle.script_reader.specs.declared.script.Script.{Script}
use Rattle.script_reader.specs.declared.script.Step.{Step}
use Rattle.script_reader.specs.declared.script.ScriptRefusal.{ScriptRefusal}
use Rattle.script_reader.specs.declared.script.ScriptRefusal.TheVariants.{Bad, Memory}
use Rattle.script_reader.specs.Lines.{lines, line_reason, form_of}
use Rattle.script_reader.specs.Scripts.{taken_by, text_of, sessions_of, half_done, may_follow, ArePaired, setups, step_in, steps_of, is_actor, allows, step_reason, form_reason, IsGood, AreGood, IsScript, IsBadLine, bad_line, no_setup, left_half_done, RefusesScript, IsServed, IsRunnable}
use Rattle.script_reader.specs.Reading.{IsShort, HasPlace, IsOnlyTable, IsSetUp, IsRead, RefusesLine}
use Rattle.script_reader.proofs.Behind.{good_at, steps_push, form_good, step_good, option_or_none}
use Rattle.script_reader.proofs.Forms.{form_short}
use Rattle.script_reader.proofs.Halves.{none_half}
use Rattle.script_reader.proofs.Sessions.{InRange, served_among}

-- ---- the steps of good lines

module _ (mode : Mode) (P : Step → Type 0) (one : (before : List (List ℕ)) (line : List ℕ) (step : Step) → IsGood mode before line → form_of line ≡ Ask step → P step) where
  good_steps : (before lines : List (List ℕ)) → AreGood mode before lines → All P (steps_of lines)
  good_steps before [] g = All-nil P
  good_steps before (line ∷ lines) g = at (form_of line) refl (good_steps (before ++ line ∷ []) lines g.1)
    where
      at : (form : Form) → form_of line ≡ form → All P (steps_of lines) → All P (cons_option (step_in form) (steps_of lines))
      at Skipped is all = all
      at (Setup text) is all = all
      at Other is all = all
      at (Ask step) is all = All-cons P step (steps_of lines) (one before line step g.0 is) all

-- a step without a reason to be bad is the mode's, of an actor, and may follow
pub record IsFine (mode : Mode) (steps : List Step) (step : Step) : Type 0 where
  pub allowed : allows mode step ≡ true
  pub actor : is_actor (taken_by step) ≡ true
  pub follows : may_follow steps step ≡ true

step_fine : (mode : Mode) (steps : List Step) (step : Step) → step_reason mode steps step ≡ None → IsFine mode steps step
step_fine mode steps step e = at (allows mode step) (is_actor (taken_by step)) (may_follow steps step) refl refl refl e
  where
    at : (a s m : Bool) → allows mode step ≡ a → is_actor (taken_by step) ≡ s → may_follow steps step ≡ m
        → cond {A = Option ℕ} (not a) (Some 3) (cond {A = Option ℕ} (not s) (Some 4) (cond {A = Option ℕ} m None (Some 7))) ≡ None → IsFine mode steps step
    at true true true a s m e = record { allowed = a; actor = s; follows = m }
    at true true false a s m e = absurd (cc)
    at true false m a s f e = absurd (cc)
    at false s m a t f e = absurd (cc)

fine_of : (mode : Mode) (before : List (List ℕ)) (line : List ℕ) (step : Step) → IsGood mode before line → form_of line ≡ Ask step → IsFine mode (steps_of before) step
fine_of mode before line step g is = step_fine mode (steps_of before) step (step_good mode (setups before) (steps_of before) step (form_good mode before line (Ask step) g.0 is))

both_true : (a b : Bool) → (a && b) ≡ true → (a ≡ true) × (b ≡ true)
both_true true true e = (refl, refl)
both_true true false e = absurd (cc)
both_true false b e = absurd (cc)

between : (n most : ℕ) → (nat_le 1 n && nat_le n most) ≡ true → (1 ≤ n) × (n ≤ most)
between n most e = let both = both_true (nat_le 1 n) (nat_le n most) e in (leb-true 1 n both.0, leb-true n most both.1)

in_range : (actor : Actor) → is_actor actor ≡ true → InRange actor
in_range (Session n) e = between n 64 e
in_range (Mover n) e = between n 8 e

placed_in : (actor : Actor) → InRange actor → HasPlace actor
placed_in (Session n) range = omega (arith, range.1)
placed_in (Mover n) range = omega (arith, range.1)

range_of : (mode : Mode) (lines : List (List ℕ)) → AreGood mode [] lines → All (λ step. InRange (taken_by step)) (steps_of lines)
range_of mode lines g = good_steps mode (λ step. InRange (taken_by step)) (λ before line step good is. let fine = fine_of mode before line step good is in in_range (taken_by step) fine.actor) [] lines g

pub placed_of : (mode : Mode) (lines : List (List ℕ)) → AreGood mode [] lines → All (λ step. HasPlace (taken_by step)) (steps_of lines)
placed_of mode lines g = All-weaker (λ step. InRange (taken_by step)) (λ step. HasPlace (taken_by step)) (λ step. placed_in (taken_by step)) (steps_of lines) (range_of mode lines g)

short_of : (mode : Mode) (lines : List (List ℕ)) → AreGood mode [] lines → All (λ step. length (text_of step) ≤ 65536) (steps_of lines)
short_of mode lines g = good_steps mode (λ step. length (text_of step) ≤ 65536) (λ before line step good is. subst (IsShort 65536) is
    (form_short line (option_or_none (line_reason line) (form_reason mode (setups before) (steps_of before) (form_of line)) good.0).0)) [] lines g

-- each step is one that the mode has
allowed_of : (mode : Mode) (lines : List (List ℕ)) → AreGood mode [] lines → All (λ step. allows mode step ≡ true) (steps_of lines)
allowed_of mode lines g = good_steps mode (λ step. allows mode step ≡ true) (λ before line step good is. let fine = fine_of mode before line step good is in fine.allowed) [] lines g

paired_of : (mode : Mode) (before lines : List (List ℕ)) (steps : List Step) → steps ≡ steps_of before → AreGood mode before lines → ((actor : Actor) → half_done actor (steps ++ steps_of lines) ≡ false) → ArePaired steps (steps_of lines)
paired_of mode before [] steps e g end = λ actor. subst (λ xs. half_done actor xs ≡ false) (append-nil steps) (end actor)
paired_of mode before (line ∷ lines) steps e g end = at (form_of line) refl (λ more is. paired_of mode (before ++ line ∷ []) lines more is g.1) end
  where
    at : (form : Form) → form_of line ≡ form
        → ((more : List Step) → more ≡ steps_of (before ++ line ∷ []) → ((actor : Actor) → half_done actor (more ++ steps_of lines) ≡ false) → ArePaired more (steps_of lines))
        → ((actor : Actor) → half_done actor (steps ++ cons_option (step_in form) (steps_of lines)) ≡ false) → ArePaired steps (cons_option (step_in form) (steps_of lines))
    at Skipped is all end = all steps (e ∙ sym (steps_push before line ∙ ap (λ form. steps_of before ++ cons_option (step_in form) []) is ∙ append-nil (steps_of before))) end
    at (Setup text) is all end = all steps (e ∙ sym (steps_push before line ∙ ap (λ form. steps_of before ++ cons_option (step_in form) []) is ∙ append-nil (steps_of before))) end
    at Other is all end = all steps (e ∙ sym (steps_push before line ∙ ap (λ form. steps_of before ++ cons_option (step_in form) []) is ∙ append-nil (steps_of before))) end
    at (Ask step) is all end = (
      let fine = fine_of mode before line step g.0 is in ap (λ xs. may_follow xs step) e ∙ fine.follows,
      all (steps ++ step ∷ []) (ap (λ xs. xs ++ step ∷ []) e ∙ sym (steps_push before line ∙ ap (λ form. steps_of before ++ cons_option (step_in form) []) is))
          (λ actor. subst (λ xs. half_done actor xs ≡ false) (sym (append_assoc steps (step ∷ []) (steps_of lines))) (end actor)),
    )

-- ---- a script

-- a script with a schema that may be can be run
pub runs_of : (mode : Mode) (bytes : List ℕ) (script : Script) → IsScript mode bytes script → IsSchema script.schema → IsRunnable script
runs_of mode bytes script s valid = record {
  schema = valid;
  short = subst (All (λ step. length (text_of step) ≤ 65536)) (sym s.steps) (short_of mode (lines bytes) s.good);
  sessions = s.sessions;
  range = λ k d lt. subst (λ ks. IsServed ks (taken_by (get_or script.lines k d))) (sym s.sessions)
      (served_among script.lines (get_or script.lines k d) (taken_by (get_or script.lines k d)) (All-contains_itself script.lines k d lt) refl (subst (All (λ step. InRange (taken_by step))) (sym s.steps) (range_of mode (lines bytes) s.good) k d lt));
  paired = subst (ArePaired []) (sym s.steps) (paired_of mode [] (lines bytes) [] refl s.good (λ actor. subst (λ xs. half_done actor xs ≡ false) s.steps (s.finished actor)));
}

-- its steps are ones that the mode has
pub allowed_in : (mode : Mode) (bytes : List ℕ) (script : Script) → IsScript mode bytes script → All (λ step. allows mode step ≡ true) script.lines
allowed_in mode bytes script s = subst (All (λ step. allows mode step ≡ true)) (sym s.steps) (allowed_of mode (lines bytes) s.good)

-- the table that one setup line has
pub only_setup : (texts : List (List ℕ)) (schema : Schema) → IsSetUp texts (Some schema) → (text : List ℕ) × (texts ≡ text ∷ []) × IsOnlyTable text schema
only_setup [] schema h = absurd h
only_setup (text ∷ []) schema h = (text, refl, h)
only_setup (text ∷ next ∷ texts) schema h = absurd h

none_setup : (texts : List (List ℕ)) → IsSetUp texts None → texts ≡ []
none_setup [] h = refl
none_setup (text ∷ []) h = absurd h
none_setup (text ∷ next ∷ texts) h = absurd h

module _ (mode : Mode) (bytes : List ℕ) (reading : Reading) (r : IsRead mode (lines bytes) reading) where
  pub refused_none : (n : ℕ) (e : ScriptRefusal) → n ≡ length (lines bytes) + 1 → reading.schema ≡ None → e ≡ Bad n 2 0 → RefusesScript mode bytes e
  refused_none n e end none is = subst (RefusesScript mode bytes) (sym is) (subst (λ k. IsBadLine mode bytes k 2 0) (sym end) (no_setup r.good (none_setup (setups (lines bytes)) (subst (IsSetUp (setups (lines bytes))) none r.setup))))

  pub none_only : (e : ScriptRefusal) (other : Script) → reading.schema ≡ None → IsScript mode bytes other → e ≡ Memory
  none_only e other none o = let both = sym o.setup ∙ none_setup (setups (lines bytes)) (subst (IsSetUp (setups (lines bytes))) none r.setup) in absurd (cc)

  half_of : (actor : Actor) → half_done actor reading.lines ≡ true → half_done actor (steps_of (lines bytes)) ≡ true
  half_of actor half = ap (half_done actor) (sym r.steps) ∙ half

  pub refused_half : (actor : Actor) (n : ℕ) (e : ScriptRefusal) → half_done actor reading.lines ≡ true → n ≡ length (lines bytes) + 1 → e ≡ Bad n 7 0 → RefusesScript mode bytes e
  refused_half actor n e half end is = subst (RefusesScript mode bytes) (sym is) (subst (λ k. IsBadLine mode bytes k 7 0) (sym end) (left_half_done actor r.good (half_of actor half)))

  pub half_only : (actor : Actor) (e : ScriptRefusal) (other : Script) → half_done actor reading.lines ≡ true → IsScript mode bytes other → e ≡ Memory
  half_only actor e other half o = let both = sym (half_of actor half) ∙ ap (half_done actor) (sym o.steps) ∙ o.finished actor in absurd (cc)

  module _ (schema : Schema) (set : reading.schema ≡ Some schema) where
    table_of : (text : List ℕ) × (setups (lines bytes) ≡ text ∷ []) × IsOnlyTable text schema
    table_of = only_setup (setups (lines bytes)) schema (subst (IsSetUp (setups (lines bytes))) set r.setup)

    pub found_script : (sessions : List ℕ) → sessions ≡ sessions_of reading.lines → ((actor : Actor) → HasPlace actor → half_done actor reading.lines ≡ false)
        → IsScript mode bytes (record { schema = schema; lines = reading.lines; sessions = sessions })
    found_script sessions named none = let t = table_of in record {
      good = r.good;
      text = t.0;
      setup = t.1;
      table = t.2.table;
      steps = r.steps;
      finished = none_half reading.lines (subst (All (λ step. HasPlace (taken_by step))) (sym r.steps) (placed_of mode (lines bytes) r.good)) none;
      sessions = named;
    }

    pub valid_schema : IsSchema schema
    valid_schema = let t = table_of in t.2.valid

    pub found_only : (sessions : List ℕ) (other : Script) → sessions ≡ sessions_of reading.lines → IsScript mode bytes other → record { schema = schema; lines = reading.lines; sessions = sessions } ≡ other
    found_only sessions other named o =
        let t = table_of in
        let both = sym t.1 ∙ o.setup in
        let text : t.0 ≡ o.text = cc in
        let table : schema ≡ other.schema = t.2.only other.schema (subst (λ x. IsTable x other.schema) (sym text) o.table) in
        let same : reading.lines ≡ other.lines = r.steps ∙ sym o.steps in
        let all : sessions ≡ other.sessions = named ∙ ap sessions_of same ∙ sym o.sessions in
        λ i. record { schema = table i; lines = same i; sessions = all i }

-- ---- a bad line

pub refused_at : (mode : Mode) (bytes : List ℕ) (before others : List (List ℕ)) (line : List ℕ) (reading : Reading) (n : ℕ) (e : ScriptRefusal) → before ++ line ∷ others ≡ lines bytes → n ≡ length before + 1 → IsRead mode before reading → RefusesLine mode before line n e → RefusesScript mode bytes e
refused_at mode bytes before others line reading n (Bad at reason number) cut end r h = subst (λ k. IsBadLine mode bytes k reason number) (sym (h.0 ∙ end)) (bad_line before others line (sym cut) r.good h.1)
refused_at mode bytes before others line reading n Memory cut end r h = tt

pub refused_only : (mode : Mode) (bytes : List ℕ) (before others : List (List ℕ)) (line : List ℕ) (n : ℕ) (e : ScriptRefusal) (other : Script) → before ++ line ∷ others ≡ lines bytes → RefusesLine mode before line n e → IsScript mode bytes other → e ≡ Memory
refused_only mode bytes before others line n (Bad at reason number) other cut h o = absurd (h.2 (good_at mode [] before others line (subst (AreGood mode []) (sym cut) o.good)))
refused_only mode bytes before others line n Memory other cut h o = refl

-- a refusal that was handed on
pub handed : {X : Type 0} (r : Result X ScriptRefusal) (Q : ScriptRefusal → Type 0) (e : ScriptRefusal) → IsErrAnd r (λ d. d ≡ e) → Q e → IfErr r Q
handed (Ok x) Q e is h = absurd is
handed (Err d) Q e is h = subst Q (sym is) h

pub handed_only : {X : Type 0} (r : Result X ScriptRefusal) (P : X → Type 0) (Q : ScriptRefusal → Type 0) (e : ScriptRefusal) → IsErrAnd r (λ d. d ≡ e) → Q e → MatchResult r P Q
handed_only (Ok x) P Q e is h = absurd is
handed_only (Err d) P Q e is h = subst Q (sym is) h
