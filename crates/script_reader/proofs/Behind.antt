-- One more line after those that were read.
use Rattle.std.proofs.Common.{◌≡◌, ℕ, List, [], ◌∷◌, ◌++◌, refl, sym, ap, subst, ◌∙◌, append_assoc, ◌⊎◌, inl, inr}
use Rattle.std.proofs.lemmas.List.{append-nil}
use Rattle.std.proofs.lemmas.List.Elements.{filter_map-append}
use Rattle.std.specs.Prelude.{Option, None, Some, Result, Ok, Err, MatchResult}
use Rattle.std.specs.List.{cons_option}
use Rattle.std.specs.Option.{option_or}
use Rattle.std.specs.Result.{IsErrAnd}
use Rattle.cs_types.specs.declared.Schema.{Schema}
use Rattle.script_reader.specs.declared.form.Form.{Form}
use Rattle.script_reader.specs.declared.form.Form.TheVariants.{Skipped, Setup, Ask, Other}
use Rattle.script_reader.specs.declared.read.Reading.{Reading}
use Rattle.script_reader.specs.declared.script.Mode.{Mode}
use Rattle.script_reader.specs.declared.script.Step.{Step}
use Rattle.script_reader.specs.declared.script.ScriptRefusal.{ScriptRefusal}
use Rattle.script_reader.specs.declared.script.ScriptRefusal.TheVariants.{Bad, Memory}
use Rattle.script_reader.specs.Lines.{line_reason, form_of}
use Rattle.script_reader.specs.Scripts.{setup_in, setups, step_in, steps_of, step_reason, form_reason, reason_behind, HasTable, IsGood, AreGood, IsBad, by_reason, by_setup}
use Rattle.script_reader.specs.Reading.{AreMarked, IsOnlyTable, IsSetUp, IsRead, RefusesLine, RefusesSetup}

-- ---- good lines

pub good_more : (mode : Mode) (front before : List (List ℕ)) (line : List ℕ) → AreGood mode front before → IsGood mode (front ++ before) line → AreGood mode front (before ++ line ∷ [])
good_more mode front [] line g is = (subst (λ xs. IsGood mode xs line) (append-nil front) is, tt)
good_more mode front (first ∷ before) line g is = (g.0, good_more mode (front ++ first ∷ []) before line g.1 (subst (λ xs. IsGood mode xs line) (sym (append_assoc front (first ∷ []) before)) is))

pub good_at : (mode : Mode) (front before others : List (List ℕ)) (line : List ℕ) → AreGood mode front (before ++ line ∷ others) → IsGood mode (front ++ before) line
good_at mode front [] others line g = subst (λ xs. IsGood mode xs line) (sym (append-nil front)) g.0
good_at mode front (first ∷ before) others line g = subst (λ xs. IsGood mode xs line) (append_assoc front (first ∷ []) before) (good_at mode (front ++ first ∷ []) before others line g.1)

pub setups_push : (before : List (List ℕ)) (line : List ℕ) → setups (before ++ line ∷ []) ≡ setups before ++ cons_option (setup_in (form_of line)) []
setups_push before line = filter_map-append (λ l. setup_in (form_of l)) before (line ∷ [])

pub steps_push : (before : List (List ℕ)) (line : List ℕ) → steps_of (before ++ line ∷ []) ≡ steps_of before ++ cons_option (step_in (form_of line)) []
steps_push before line = filter_map-append (λ l. step_in (form_of l)) before (line ∷ [])

-- ---- reasons

pub option_or_none : (a b : Option ℕ) → option_or a b ≡ None → (a ≡ None) × (b ≡ None)
option_or_none None b e = (refl, e)
option_or_none (Some x) b e = absurd (cc)

-- a line with no reason to be bad has none by its form
pub form_good : (mode : Mode) (before : List (List ℕ)) (line : List ℕ) (form : Form) → reason_behind mode before line ≡ None → form_of line ≡ form → form_reason mode (setups before) (steps_of before) form ≡ None
form_good mode before line form none is = ap (form_reason mode (setups before) (steps_of before)) (sym is) ∙ (option_or_none (line_reason line) (form_reason mode (setups before) (steps_of before) (form_of line)) none).1

setup_first : (mode : Mode) (texts : List (List ℕ)) (steps : List Step) (text : List ℕ) → form_reason mode texts steps (Setup text) ≡ None → texts ≡ []
setup_first mode [] steps text e = refl
setup_first mode (t ∷ texts) steps text e = absurd (cc)

pub step_good : (mode : Mode) (texts : List (List ℕ)) (steps : List Step) (step : Step) → form_reason mode texts steps (Ask step) ≡ None → step_reason mode steps step ≡ None
step_good mode [] steps step e = absurd (cc)
step_good mode (text ∷ texts) steps step e = e

-- ---- what is read after one more line

module _ (mode : Mode) (before : List (List ℕ)) (line : List ℕ) (old : Reading) (r : IsRead mode before old) (none : reason_behind mode before line ≡ None) where
  pub quiet_read : (form : Form) → form_of line ≡ form → (form ≡ Skipped) ⊎ (form ≡ Other) → IsRead mode (before ++ line ∷ []) old
  quiet_read form is (inl skipped) = record {
    good = good_more mode [] before line r.good (none, subst HasTable (sym (is ∙ skipped)) tt);
    setup = subst (λ texts. IsSetUp texts old.schema) (sym (setups_push before line ∙ ap (λ f. setups before ++ cons_option (setup_in f) []) (is ∙ skipped) ∙ append-nil (setups before))) r.setup;
    steps = r.steps ∙ sym (steps_push before line ∙ ap (λ f. steps_of before ++ cons_option (step_in f) []) (is ∙ skipped) ∙ append-nil (steps_of before));
    marked = r.marked;
  }
  quiet_read form is (inr other) = let bad = form_good mode before line Other none (is ∙ other) in absurd (cc)

  pub setup_read : (text : List ℕ) (schema : Schema) (new : Reading) → form_of line ≡ Setup text → IsOnlyTable text schema → new.schema ≡ Some schema → new.lines ≡ old.lines → new.half_done ≡ old.half_done → IsRead mode (before ++ line ∷ []) new
  setup_read text schema new is table set same marks = record {
    good = good_more mode [] before line r.good (none, subst HasTable (sym is) (schema, table.table));
    setup = subst (IsSetUp (setups (before ++ line ∷ []))) (sym set)
        (subst (λ texts. IsSetUp texts (Some schema)) (sym (setups_push before line ∙ ap (λ o. setups before ++ cons_option o []) (ap setup_in is)
        ∙ ap (λ texts. texts ++ text ∷ []) (setup_first mode (setups before) (steps_of before) text (form_good mode before line (Setup text) none is)))) table);
    steps = same ∙ r.steps ∙ sym (steps_push before line ∙ ap (λ o. steps_of before ++ cons_option o []) (ap step_in is) ∙ append-nil (steps_of before));
    marked = subst (λ ms. AreMarked ms new.lines) (sym marks) (subst (AreMarked old.half_done) (sym same) r.marked);
  }

  pub step_read : (step : Step) (new : Reading) → form_of line ≡ Ask step → new.schema ≡ old.schema → new.lines ≡ old.lines ++ step ∷ [] → (AreMarked old.half_done old.lines → AreMarked new.half_done new.lines) → IsRead mode (before ++ line ∷ []) new
  step_read step new is same more marks = record {
    good = good_more mode [] before line r.good (none, subst HasTable (sym is) tt);
    setup = subst (IsSetUp (setups (before ++ line ∷ []))) (sym same)
        (subst (λ texts. IsSetUp texts old.schema) (sym (setups_push before line ∙ ap (λ o. setups before ++ cons_option o []) (ap setup_in is) ∙ append-nil (setups before))) r.setup);
    steps = more ∙ ap (λ steps. steps ++ step ∷ []) r.steps ∙ sym (steps_push before line ∙ ap (λ o. steps_of before ++ cons_option o []) (ap step_in is));
    marked = marks r.marked;
  }

-- ---- bad lines

module _ (mode : Mode) (before : List (List ℕ)) (line : List ℕ) (n : ℕ) (e : ScriptRefusal) where
  refused_by : (reason : ℕ) → e ≡ Bad n reason 0 → reason_behind mode before line ≡ Some reason → RefusesLine mode before line n e
  refused_by reason is bad = subst (RefusesLine mode before line n) (sym is) (refl, by_reason bad, λ good. let both = sym bad ∙ good.0 in cc)

  -- a line that is bad whatever it says
  pub refused_line : (reason : ℕ) → e ≡ Bad n reason 0 → line_reason line ≡ Some reason → RefusesLine mode before line n e
  refused_line reason is bad = refused_by reason is (ap (λ o. option_or o (form_reason mode (setups before) (steps_of before) (form_of line))) bad)

  -- a line that is bad for its form
  pub refused_form : (reason : ℕ) (form : Form) → e ≡ Bad n reason 0 → line_reason line ≡ None → form ≡ form_of line → form_reason mode (setups before) (steps_of before) form ≡ Some reason → RefusesLine mode before line n e
  refused_form reason form is fine says bad =
      refused_by reason is (ap (λ o. option_or o (form_reason mode (setups before) (steps_of before) (form_of line))) fine ∙ ap (form_reason mode (setups before) (steps_of before)) (sym says) ∙ bad)

-- a setup statement that is refused
pub refused_text : (mode : Mode) (before : List (List ℕ)) (line text : List ℕ) (n : ℕ) (e : ScriptRefusal) → RefusesSetup text n e → reason_behind mode before line ≡ None → form_of line ≡ Setup text → RefusesLine mode before line n e
refused_text mode before line text n (Bad l reason number) h none is =
    (h.0, subst (λ r. IsBad mode before line r number) (sym h.1) (by_setup text h.2.0 none is h.2.1), λ good. let table = subst HasTable is good.1 in h.3 table.0 table.1)
refused_text mode before line text n Memory h none is = tt

-- a refusal that was handed on
pub handed_line : {X : Type 0} (r : Result X ScriptRefusal) (P : X → Type 0) (Q : ScriptRefusal → Type 0) (e : ScriptRefusal) → IsErrAnd r (λ d. d ≡ e) → Q e → MatchResult r P Q
handed_line (Ok x) P Q e is h = absurd is
handed_line (Err d) P Q e is h = subst Q (sym is) h
