-- Each Start of a log is what its session's next text means, one entry more.
use Rattle.std.proofs.Common.{◌≡◌, ℕ, List, [], ◌∷◌, ◌++◌, length, refl, sym, ap, subst, ◌∙◌, false, arith, append_assoc, length-append}
use Rattle.std.specs.Prelude.{◌==◌, Some, slice_get}
use Rattle.std.proofs.lemmas.List.{append-nil}
use Rattle.std.proofs.lemmas.Option.{slice_get_read}
use Rattle.std.proofs.Math.Seq.{get_or-append_seam}
use Rattle.cs_model.specs.declared.entry.Entry.{Entry}
use Rattle.cs_model.specs.declared.entry.Entry.TheVariants.{Start, Finish, End, Mover}
use Rattle.cs_model.specs.State.{Begin}
use Rattle.cs_model.specs.Text.{is_start_of, statements_of}
use Rattle.script_reader.specs.declared.script.Step.{Step}
use Rattle.script_turns.specs.Turns.{IsStart, IsFinishOf, texts_of, IsMeant, AreMeant}

-- ---- how many statements a session began

pub starts : (begin : Begin) (before : List Entry) (session : ℕ) (text : List ℕ) (e : Entry) (s : ℕ) → IsStart begin before session text e → is_start_of s e ≡ (session == s)
starts begin before session text (Start k b short) s h = ap (λ n. n == s) h.0
starts begin before session text (Finish k r) s h = absurd h
starts begin before session text (End k) s h = absurd h
starts begin before session text (Mover actor work) s h = absurd h

pub starts_none : (session : ℕ) (e : Entry) (s : ℕ) → IsFinishOf session e → is_start_of s e ≡ false
starts_none session (Start k b short) s h = absurd h
starts_none session (Finish k r) s h = refl
starts_none session (End k) s h = absurd h
starts_none session (Mover actor work) s h = absurd h

-- what stands at the seam of two lists
pub at_seam : {A : Type 0} (xs : List A) (x : A) (ys : List A) → slice_get (xs ++ x ∷ ys) (length xs) ≡ Some x
at_seam xs x ys =
    let all = length-append xs (x ∷ ys) in
    slice_get_read (xs ++ x ∷ ys) (length (xs ++ x ∷ ys)) (length xs) x refl (omega (arith, all)) (sym (get_or-append_seam xs x ys x))

-- ---- the statement of each Start

module _ (begin : Begin) (steps : List Step) where
  pub meant_append : (before xs ys : List Entry) → AreMeant begin steps before xs → AreMeant begin steps (before ++ xs) ys → AreMeant begin steps before (xs ++ ys)
  meant_append before [] ys x y = subst (λ es. AreMeant begin steps es ys) (append-nil before) y
  meant_append before (e ∷ xs) ys x y = (x.0, meant_append (before ++ e ∷ []) xs ys x.1 (subst (λ es. AreMeant begin steps es ys) (sym (append_assoc before (e ∷ []) xs)) y))

  pub finish_meant : (before : List Entry) (session : ℕ) (e : Entry) → IsFinishOf session e → IsMeant begin steps before e
  finish_meant before session (Start s b short) h = absurd h
  finish_meant before session (Finish s r) h = tt
  finish_meant before session (End s) h = absurd h
  finish_meant before session (Mover actor work) h = absurd h

  -- the text of a step that comes after these is its session's next
  pub start_meant : (before : List Entry) (session : ℕ) (text : List ℕ) (done more : List (List ℕ)) (e : Entry) → statements_of session before ≡ length done → texts_of session steps ≡ done ++ text ∷ more
      → IsStart begin before session text e → IsMeant begin steps before e
  start_meant before session text done more (Start s b short) counted split h = (
    text,
    ap (λ k. slice_get (texts_of k steps) (statements_of k before)) h.0 ∙ (λ i. slice_get (split i) (counted i)) ∙ at_seam done text more,
    h.1,
  )
  start_meant before session text done more (Finish s r) counted split h = absurd h
  start_meant before session text done more (End s) counted split h = absurd h
  start_meant before session text done more (Mover actor work) counted split h = absurd h
