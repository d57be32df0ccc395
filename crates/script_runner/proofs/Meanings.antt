-- Each Start of a log that follows a script is what its session's next text means.
use Rattle.std.proofs.Common.{◌≡◌, ℕ, ◌+◌, List, [], ◌∷◌, ◌++◌, length, map, refl, sym, ap, subst, ◌∙◌, cond, Bool, true, false, append_assoc, length-append}
use Rattle.std.specs.Prelude.{◌==◌, None, Some}
use Rattle.std.specs.List.{cons_option}
use Rattle.std.proofs.lemmas.Bool.{eq-eqb}
use Rattle.std.proofs.lemmas.List.Elements.{filter_map-append}
use Rattle.std.proofs.lemmas.List.Sums.{sum_by-append}
use Rattle.cs_model.specs.declared.entry.Entry.{Entry}
use Rattle.cs_model.specs.declared.entry.Entry.TheVariants.{Start, Finish, End, Mover}
use Rattle.cs_model.specs.State.{Begin}
use Rattle.group_log.specs.Followed.{Ground}
use Rattle.cs_model.specs.Text.{is_start_of, statements_of}
use Rattle.script_reader.specs.declared.script.Step.{Step}
use Rattle.script_reader.specs.declared.script.Step.TheVariants.{Whole, Begun, Finished, Turn, Claiming, Installing}
use Rattle.script_turns.specs.Turns.{started_in, texts_of, IsMeant, AreMeant}
use Rattle.script_turns.proofs.Meanings.{starts, starts_none, meant_append, finish_meant, start_meant}
use Rattle.script_runner.specs.Schedule.{ArePieces}
use Rattle.script_runner.proofs.Pieces.{IsWork, AreWorks, IsPlain, IsPlainFinish, plain}

-- ---- how many statements a session began

-- works begin no statement
work_counted : (s : ℕ) (e : Entry) → IsWork e → is_start_of s e ≡ false
work_counted s (Start k b short) w = absurd w
work_counted s (Finish k r) w = refl
work_counted s (End k) w = refl
work_counted s (Mover actor work) w = refl

works_counted : (s : ℕ) (piece : List Entry) → AreWorks piece → statements_of s piece ≡ 0
works_counted s [] w = refl
works_counted s (e ∷ es) w =
    sum_by-append (λ x. cond (is_start_of s x) 1 0) (e ∷ []) es
    ∙ ap (λ b. (0 + cond b 1 0) + statements_of s es) (work_counted s e w.0)
    ∙ ap (λ n. 0 + n) (works_counted s es w.1)

-- nor does a Finish, with works before it
finish_counted : (s session : ℕ) (piece : List Entry) → IsPlainFinish session piece → statements_of s piece ≡ 0
finish_counted s session piece f =
    ap (statements_of s) f.2
    ∙ sum_by-append (λ x. cond (is_start_of s x) 1 0) f.0 (f.1 ∷ [])
    ∙ (λ i. works_counted s f.0 f.3 i + (0 + cond (starts_none session f.1 s f.4 i) 1 0))

-- the events of a step begin the statements whose texts it has
piece_counted : (begin : Begin) (before : List Entry) (step : Step) (piece : List Entry) (s : ℕ) → IsPlain begin before step piece → statements_of s piece ≡ length (texts_of s (step ∷ []))
piece_counted begin before (Whole session text) piece s p =
    ap (statements_of s) p.2
    ∙ sum_by-append (λ x. cond (is_start_of s x) 1 0) (p.0 ∷ []) p.1
    ∙ (λ i. (0 + cond (starts begin before session text p.0 s p.3 i) 1 0) + finish_counted s session p.1 p.4 i)
    ∙ at (session == s)
  where
    at : (t : Bool) → (0 + cond t 1 0) + 0 ≡ length (cons_option (cond t (Some text) None) [])
    at true = refl
    at false = refl
piece_counted begin before (Begun session text) piece s p = ap (statements_of s) p.1 ∙ ap (λ b. 0 + cond b 1 0) (starts begin before session text p.0 s p.2) ∙ at (session == s)
  where
    at : (t : Bool) → 0 + cond t 1 0 ≡ length (cons_option (cond t (Some text) None) [])
    at true = refl
    at false = refl
piece_counted begin before (Finished session) piece s p = finish_counted s session piece p
piece_counted begin before (Turn mover) piece s p = works_counted s piece p
piece_counted begin before (Claiming mover) piece s p = works_counted s piece p
piece_counted begin before (Installing mover) piece s p = works_counted s piece p

-- the texts of one step more
texts_push : (s : ℕ) (done : List Step) (step : Step) → length (texts_of s (done ++ step ∷ [])) ≡ length (texts_of s done) + length (texts_of s (step ∷ []))
texts_push s done step = ap length (filter_map-append (started_in s) done (step ∷ [])) ∙ length-append (texts_of s done) (texts_of s (step ∷ []))

-- ---- the statement of each Start

module _ (origin : Ground) (steps : List Step) where
  ends_meant : (before : List Entry) (sessions : List ℕ) → AreMeant origin.begin steps before (map End sessions)
  ends_meant before [] = tt
  ends_meant before (n ∷ sessions) = (tt, ends_meant (before ++ End n ∷ []) sessions)

  work_meant : (before : List Entry) (e : Entry) → IsWork e → IsMeant origin.begin steps before e
  work_meant before (Start s b short) w = absurd w
  work_meant before (Finish s r) w = tt
  work_meant before (End s) w = tt
  work_meant before (Mover actor work) w = tt

  works_meant : (before piece : List Entry) → AreWorks piece → AreMeant origin.begin steps before piece
  works_meant before [] w = tt
  works_meant before (e ∷ es) w = (work_meant before e w.0, works_meant (before ++ e ∷ []) es w.1)

  finishing_meant : (before : List Entry) (session : ℕ) (piece : List Entry) → IsPlainFinish session piece → AreMeant origin.begin steps before piece
  finishing_meant before session piece f =
      subst (AreMeant origin.begin steps before) (sym f.2)
      (meant_append origin.begin steps before f.0 (f.1 ∷ []) (works_meant before f.0 f.3) (finish_meant origin.begin steps (before ++ f.0) session f.1 f.4, tt))

  -- where the session's texts stand, at a step that has one
  texts_at : (done left : List Step) (step : Step) (session : ℕ) (text : List ℕ) → steps ≡ done ++ step ∷ left → started_in session step ≡ Some text
      → texts_of session steps ≡ texts_of session done ++ text ∷ texts_of session left
  texts_at done left step session text split has =
      ap (texts_of session) split ∙ filter_map-append (started_in session) done (step ∷ left) ∙ ap (λ o. texts_of session done ++ cons_option o (texts_of session left)) has

  starts_text : (session : ℕ) (text : List ℕ) → cond (session == session) (Some text) None ≡ Some text
  starts_text session text = ap (λ b. cond b (Some text) None) (eq-eqb session session refl)

  piece_meant : (before : List Entry) (done left : List Step) (step : Step) (piece : List Entry) → steps ≡ done ++ step ∷ left → ((s : ℕ) → statements_of s before ≡ length (texts_of s done)) → IsPlain origin.begin before step piece
      → AreMeant origin.begin steps before piece
  piece_meant before done left (Whole session text) piece split counted p = subst (AreMeant origin.begin steps before) (sym p.2) (
    start_meant origin.begin steps before session text (texts_of session done) (texts_of session left) p.0 (counted session) (texts_at done left (Whole session text) session text split (starts_text session text)) p.3,
    finishing_meant (before ++ p.0 ∷ []) session p.1 p.4,
  )
  piece_meant before done left (Begun session text) piece split counted p = subst (AreMeant origin.begin steps before) (sym p.1) (
    start_meant origin.begin steps before session text (texts_of session done) (texts_of session left) p.0 (counted session) (texts_at done left (Begun session text) session text split (starts_text session text)) p.2,
    tt,
  )
  piece_meant before done left (Finished session) piece split counted p = finishing_meant before session piece p
  piece_meant before done left (Turn mover) piece split counted p = works_meant before piece p
  piece_meant before done left (Claiming mover) piece split counted p = works_meant before piece p
  piece_meant before done left (Installing mover) piece split counted p = works_meant before piece p

  meant_in : (left done : List Step) (before entries : List Entry) → steps ≡ done ++ left → ((s : ℕ) → statements_of s before ≡ length (texts_of s done)) → ArePieces origin before left entries → AreMeant origin.begin steps before entries
  meant_in [] done before entries split counted is = subst (AreMeant origin.begin steps before) (sym is) tt
  meant_in (step ∷ left) done before entries split counted is =
      let p = plain origin before step is.0 is.3 in
      subst (AreMeant origin.begin steps before) (sym is.2)
      (meant_append origin.begin steps before is.0 is.1 (piece_meant before done left step is.0 split counted p)
      (meant_in left (done ++ step ∷ []) (before ++ is.0) is.1 (split ∙ sym (append_assoc done (step ∷ []) left)) (λ s. more s p) is.4))
    where
      more : (s : ℕ) → IsPlain origin.begin before step is.0 → statements_of s (before ++ is.0) ≡ length (texts_of s (done ++ step ∷ []))
      more s p =
          sum_by-append (λ x. cond (is_start_of s x) 1 0) before is.0 ∙ (λ i. counted s i + piece_counted origin.begin before step is.0 s p i)
          ∙ sym (texts_push s done step)

  -- the events of the steps are meant
  pub all_meant : (events : List Entry) → ArePieces origin [] steps events → AreMeant origin.begin steps [] events
  all_meant events is = meant_in steps [] [] events refl (λ s. refl) is

  -- and so are they with the Ends after them
  pub whole_meant : (events log : List Entry) (sessions : List ℕ) → ArePieces origin [] steps events → log ≡ events ++ map End sessions → AreMeant origin.begin steps [] log
  whole_meant events log sessions pieces is =
      subst (AreMeant origin.begin steps []) (sym is) (meant_append origin.begin steps [] events (map End sessions) (all_meant events pieces) (ends_meant events sessions))
