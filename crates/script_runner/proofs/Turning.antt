-- A log that follows a script has each session's turns.
use Rattle.std.proofs.Common.{◌≡◌, ℕ, zero, suc, List, [], ◌∷◌, ◌++◌, length, map, take, get_or, refl, sym, ap, subst, ◌∙◌, cond, Bool, true, false, arith, All, Contains, append_assoc}
use Rattle.std.proofs.lemmas.List.{append-nil, take_all}
use Rattle.std.specs.Prelude.{◌==◌, ◌&&◌, None, Some}
use Rattle.std.specs.List.{cons_option}
use Rattle.std.proofs.lemmas.Bool.{eqb-true}
use Rattle.std.proofs.lemmas.List.Elements.{filter-append, All-take}
use Rattle.cs_model.specs.declared.entry.Entry.{Entry}
use Rattle.cs_model.specs.declared.entry.Entry.TheVariants.{Start, Finish, End, Mover}
use Rattle.cs_model.specs.declared.entry.Reply.TheVariants.{Done}
use Rattle.cs_model.specs.Actors.{actor_of, is_turn, turns_of}
use Rattle.cs_model.specs.declared.work.Actor.{Actor}
use Rattle.cs_model.specs.declared.work.Actor.TheVariants as actor
use Rattle.cs_model.specs.State.{Begin, begin_of}
use Rattle.group_book.specs.Commits.{Sizes}
use Rattle.group_book.specs.Turns.{same_actor}
use Rattle.group_log.specs.Followed.{Ground, ground_of}
use Rattle.script_reader.specs.declared.script.Script.{Script}
use Rattle.script_reader.specs.declared.script.Step.{Step}
use Rattle.script_reader.specs.declared.script.Step.TheVariants.{Whole, Begun, Finished, Turn, Claiming, Installing}
use Rattle.script_reader.specs.Scripts.{taken_by, half_done, may_follow, ArePaired, IsServed, IsRunnable}
use Rattle.script_turns.specs.Turns.{IsStartIn, IsFinishOf, texts_of, AreTurns, AreMeant, Turns, FrontTurns}
use Rattle.script_runner.specs.Schedule.{ArePieces}
use Rattle.script_reader.proofs.Halves.{half_same, half_other, half_empty}
use Rattle.script_runner.specs.Logs.{first_lines}
use Rattle.script_turns.proofs.Entries.{Does, start_does, start_in, finish_does}
use Rattle.script_runner.proofs.Pieces.{AreWorks, IsPlain, IsPlainFinish, is_not, plain}
use Rattle.script_runner.proofs.Meanings.{all_meant, whole_meant}
use Rattle.script_turns.proofs.Sessions.{sessions_distinct}
use Rattle.script_runner.proofs.Endings.{ends_one, ends_none, apart_all}

-- these are the turns of so many statements of a session; where it has one half done, the Finish of that comes first
abbrev Turned : ℕ → ℕ → List Entry → Bool → Type 0
Turned session n turns false = AreTurns session n turns
Turned session n turns true = (b : Entry) × (others : List Entry) × (turns ≡ b ∷ others) × IsFinishOf session b × AreTurns session n others

-- each of the steps may follow those before it
abbrev Follow : List Step → List Step → Type 0
Follow before [] = Unit {0}
Follow before (step ∷ steps) = (may_follow before step ≡ true) × Follow (before ++ step ∷ []) steps

follow_paired : (before steps : List Step) → ArePaired before steps → Follow before steps
follow_paired before [] paired = tt
follow_paired before (step ∷ steps) paired = (paired.0, follow_paired (before ++ step ∷ []) steps paired.1)

follow_take : (n : ℕ) (before steps : List Step) → Follow before steps → Follow before (take n steps)
follow_take zero before steps follow = tt
follow_take (suc n) before [] follow = tt
follow_take (suc n) before (step ∷ steps) follow = (follow.0, follow_take n (before ++ step ∷ []) steps follow.1)

rests_paired : (by : Actor) (before steps : List Step) → ArePaired before steps → half_done by (before ++ steps) ≡ false
rests_paired by before [] paired = ap (half_done by) (append-nil before) ∙ paired by
rests_paired by before (step ∷ steps) paired = ap (half_done by) (sym (append_assoc before (step ∷ []) steps)) ∙ rests_paired by (before ++ step ∷ []) steps paired.1

-- rest are the turns that come after those of the steps
module _ (origin : Ground) (session : ℕ) (rest : List Entry) where
  turn_in : (s : ℕ) (k : Bool) (e : Entry) (es : List Entry) (t : Bool) → Does s k e → (s == session) ≡ t → turns_of session (e ∷ es) ≡ cond t (e ∷ turns_of session es) (turns_of session es)
  turn_in s k e es t d is =
      ap (λ b. cond b (e ∷ turns_of session es) (turns_of session es)) (ap (λ u. u && (actor_of e == session)) d.turn ∙ ap (λ n. n == session) d.actor ∙ is)

  -- how many texts the session has in these steps
  abbrev texts : List Step → ℕ
  texts lines = length (texts_of session lines)

  -- ---- a step of another actor

  -- works are no turns
  no_turns : (piece others : List Entry) → AreWorks piece → turns_of session (piece ++ others) ≡ turns_of session others
  no_turns [] others w = refl
  no_turns (Start n b short ∷ es) others w = absurd w.0
  no_turns (Finish n r ∷ es) others w = absurd w.0
  no_turns (End n ∷ es) others w = absurd w.0
  no_turns (Mover by work ∷ es) others w = no_turns es others w.1

  -- a Finish with works before it is its session's one turn among them
  finish_turn : (s : ℕ) (piece others : List Entry) (t : Bool) → (s == session) ≡ t → (f : IsPlainFinish s piece) → turns_of session (piece ++ others) ≡ cond t (f.1 ∷ turns_of session others) (turns_of session others)
  finish_turn s piece others t e f =
      ap (λ es. turns_of session (es ++ others)) f.2 ∙ ap (turns_of session) (append_assoc f.0 (f.1 ∷ []) others)
      ∙ no_turns f.0 (f.1 ∷ others) f.3 ∙ turn_in s false f.1 others t (finish_does s f.1 f.4) e

  no_turn : (log : List Entry) (step : Step) (piece others : List Entry) → same_actor (taken_by step) (actor.Session session) ≡ false → IsPlain origin.begin log step piece → turns_of session (piece ++ others) ≡ turns_of session others
  no_turn log (Whole s text) piece others e p =
      ap (λ es. turns_of session (es ++ others)) p.2
      ∙ turn_in s true p.0 (p.1 ++ others) false (start_does origin.begin log s text p.0 p.3) e ∙ finish_turn s p.1 others false e p.4
  no_turn log (Begun s text) piece others e p = ap (λ es. turns_of session (es ++ others)) p.1 ∙ turn_in s true p.0 others false (start_does origin.begin log s text p.0 p.2) e
  no_turn log (Finished s) piece others e p = finish_turn s piece others false e p
  no_turn log (Turn m) piece others e p = no_turns piece others p
  no_turn log (Claiming m) piece others e p = no_turns piece others p
  no_turn log (Installing m) piece others e p = no_turns piece others p

  no_text : (step : Step) (lines : List Step) → same_actor (taken_by step) (actor.Session session) ≡ false → texts (step ∷ lines) ≡ texts lines
  no_text (Whole s text) lines e = ap (λ b. length (cons_option (cond b (Some text) None) (texts_of session lines))) e
  no_text (Begun s text) lines e = ap (λ b. length (cons_option (cond b (Some text) None) (texts_of session lines))) e
  no_text (Finished s) lines e = refl
  no_text (Turn m) lines e = refl
  no_text (Claiming m) lines e = refl
  no_text (Installing m) lines e = refl

  other_turn : (log : List Entry) (step : Step) (before lines : List Step) (piece others : List Entry) (t : Bool) → half_done (actor.Session session) before ≡ t → same_actor (taken_by step) (actor.Session session) ≡ false → IsPlain origin.begin log step piece
      → ((u : Bool) → half_done (actor.Session session) (before ++ step ∷ []) ≡ u → Turned session (texts lines) (turns_of session others ++ rest) u)
      → Turned session (texts (step ∷ lines)) (turns_of session (piece ++ others) ++ rest) t
  other_turn log step before lines piece others t half e p next =
      subst (λ n. Turned session n (turns_of session (piece ++ others) ++ rest) t) (sym (no_text step lines e))
      (subst (λ es. Turned session (texts lines) (es ++ rest) t) (sym (no_turn log step piece others e p)) (next t (half_other (actor.Session session) before step e ∙ half)))

  -- ---- a step of the session

  half_is : (s : ℕ) (before : List Step) (t : Bool) → (s == session) ≡ true → half_done (actor.Session s) before ≡ t → half_done (actor.Session session) before ≡ t
  half_is s before t e half = ap (λ k. half_done (actor.Session k) before) (sym (eqb-true s session e)) ∙ half

  -- one text more
  more_texts : (s : ℕ) (text : List ℕ) (lines : List Step) → (s == session) ≡ true → length (cons_option (cond (s == session) (Some text) None) (texts_of session lines)) ≡ suc (texts lines)
  more_texts s text lines e = ap (λ b. length (cons_option (cond b (Some text) None) (texts_of session lines))) e

  its_turn : (log : List Entry) (step : Step) (before lines : List Step) (piece others : List Entry) (t : Bool) → half_done (actor.Session session) before ≡ t → same_actor (taken_by step) (actor.Session session) ≡ true → may_follow before step ≡ true → IsPlain origin.begin log step piece
      → ((u : Bool) → half_done (actor.Session session) (before ++ step ∷ []) ≡ u → Turned session (texts lines) (turns_of session others ++ rest) u)
      → Turned session (texts (step ∷ lines)) (turns_of session (piece ++ others) ++ rest) t
  its_turn log (Whole s text) before lines piece others true half e may p next = let rests = half_is s before false e (is_not (half_done (actor.Session s) before) may) in absurd (cc (half, rests))
  its_turn log (Whole s text) before lines piece others false half e may p next =
      let same : s ≡ session = eqb-true s session e in
      let f = p.4 in
      let turns : turns_of session (piece ++ others) ≡ p.0 ∷ f.1 ∷ turns_of session others =
      ap (λ es. turns_of session (es ++ others)) p.2
      ∙ turn_in s true p.0 (p.1 ++ others) true (start_does origin.begin log s text p.0 p.3) e
      ∙ ap (λ es. p.0 ∷ es) (finish_turn s p.1 others true e f) in
      subst (λ n. AreTurns session n (turns_of session (piece ++ others) ++ rest)) (sym (more_texts s text lines e)) (
        p.0,
        f.1,
        turns_of session others ++ rest,
        ap (λ es. es ++ rest) turns,
        subst (λ k. IsStartIn k p.0) same (start_in origin.begin log s text p.0 p.3),
        subst (λ k. IsFinishOf k f.1) same f.4,
        next false (half_same (actor.Session session) before (Whole s text) e),
      )
  its_turn log (Begun s text) before lines piece others true half e may p next = let rests = half_is s before false e (is_not (half_done (actor.Session s) before) may) in absurd (cc (half, rests))
  its_turn log (Begun s text) before lines piece others false half e may p next =
      let same : s ≡ session = eqb-true s session e in
      let turns : turns_of session (piece ++ others) ≡ p.0 ∷ turns_of session others =
      ap (λ es. turns_of session (es ++ others)) p.1 ∙ turn_in s true p.0 others true (start_does origin.begin log s text p.0 p.2) e in
      let more = next true (half_same (actor.Session session) before (Begun s text) e) in
      subst (λ n. AreTurns session n (turns_of session (piece ++ others) ++ rest)) (sym (more_texts s text lines e)) (
        p.0,
        more.0,
        more.1,
        ap (λ es. es ++ rest) turns ∙ ap (λ es. p.0 ∷ es) more.2,
        subst (λ k. IsStartIn k p.0) same (start_in origin.begin log s text p.0 p.2),
        more.3,
        more.4,
      )
  its_turn log (Finished s) before lines piece others false half e may p next = let begun = half_is s before true e may in absurd (cc (half, begun))
  its_turn log (Finished s) before lines piece others true half e may p next =
      let same : s ≡ session = eqb-true s session e in
      let turns : turns_of session (piece ++ others) ≡ p.1 ∷ turns_of session others = finish_turn s piece others true e p in
      (p.1, turns_of session others ++ rest, ap (λ es. es ++ rest) turns, subst (λ k. IsFinishOf k p.1) same p.4, next false (half_same (actor.Session session) before (Finished s) e))
  its_turn log (Turn m) before lines piece others t half e may p next = absurd (cc e)
  its_turn log (Claiming m) before lines piece others t half e may p next = absurd (cc e)
  its_turn log (Installing m) before lines piece others t half e may p next = absurd (cc e)

  one_turn : (log : List Entry) (step : Step) (before lines : List Step) (piece others : List Entry) (t mine : Bool) → half_done (actor.Session session) before ≡ t → same_actor (taken_by step) (actor.Session session) ≡ mine → may_follow before step ≡ true → IsPlain origin.begin log step piece
      → ((u : Bool) → half_done (actor.Session session) (before ++ step ∷ []) ≡ u → Turned session (texts lines) (turns_of session others ++ rest) u)
      → Turned session (texts (step ∷ lines)) (turns_of session (piece ++ others) ++ rest) t
  one_turn log step before lines piece others t true half e may p next = its_turn log step before lines piece others t half e may p next
  one_turn log step before lines piece others t false half e may p next = other_turn log step before lines piece others t half e p next

  turned : (lines before : List Step) (log events : List Entry) → Follow before lines → ArePieces origin log lines events → ((u : Bool) → half_done (actor.Session session) (before ++ lines) ≡ u → Turned session 0 rest u)
      → (t : Bool) → half_done (actor.Session session) before ≡ t → Turned session (texts lines) (turns_of session events ++ rest) t
  turned [] before log events follow is last t half =
      subst (λ es. Turned session 0 (es ++ rest) t) (sym (ap (turns_of session) is)) (last t (ap (half_done (actor.Session session)) (append-nil before) ∙ half))
  turned (step ∷ lines) before log events follow is last t half =
      subst (λ es. Turned session (texts (step ∷ lines)) (turns_of session es ++ rest) t) (sym is.2)
      (one_turn log step before lines is.0 is.1 t (same_actor (taken_by step) (actor.Session session)) half refl follow.0 (plain origin log step is.0 is.3)
      (turned lines (before ++ step ∷ []) (log ++ is.0) is.1 follow.1 is.4 (λ u h. last u (ap (half_done (actor.Session session)) (sym (append_assoc before (step ∷ []) lines)) ∙ h))))

  none_in : (lines : List Step) (log events : List Entry) → All (λ step. same_actor (taken_by step) (actor.Session session) ≡ false) lines → ArePieces origin log lines events → turns_of session events ≡ []
  none_in [] log events all is = ap (turns_of session) is
  none_in (step ∷ lines) log events all is =
      ap (turns_of session) is.2 ∙ no_turn log step is.0 is.1 (all 0 step (omega arith)) (plain origin log step is.0 is.3)
      ∙ none_in lines (log ++ is.0) is.1 (λ k d lt. all (suc k) d (omega (arith, lt))) is.4

-- ---- the whole log

module _ (sizes : Sizes) (script : Script) (can : IsRunnable script) (session : ℕ) where
  named : (s : ℕ) (t : Bool) → (Contains script.sessions session → ⊥) → Contains script.sessions s → (s == session) ≡ t → (s == session) ≡ false
  named s true has_not has e = absurd (has_not (subst (Contains script.sessions) (eqb-true s session e) has))
  named s false has_not has e = e

  -- an actor that is served is none of the sessions that the script does not have
  apart : (by : Actor) → (Contains script.sessions session → ⊥) → IsServed script.sessions by → same_actor by (actor.Session session) ≡ false
  apart (actor.Session s) has_not served = named s (s == session) has_not served.2 refl
  apart (actor.Mover m) has_not served = refl

  -- no step is of a session that the script does not have
  unnamed : (Contains script.sessions session → ⊥) → All (λ step. same_actor (taken_by step) (actor.Session session) ≡ false) script.lines
  unnamed has_not = λ k d lt. apart (taken_by (get_or script.lines k d)) has_not (can.range k d lt)

  all_turned : (events : List Entry) → ArePieces (ground_of script.schema sizes) [] script.lines events → AreTurns session (length (texts_of session script.lines)) (turns_of session events ++ End session ∷ [])
  all_turned events pieces = turned (ground_of script.schema sizes) session (End session ∷ []) script.lines [] [] events (follow_paired [] script.lines can.paired) pieces last false (half_empty (actor.Session session))
    where
      last : (u : Bool) → half_done (actor.Session session) script.lines ≡ u → Turned session 0 (End session ∷ []) u
      last true h = let rests = rests_paired (actor.Session session) [] script.lines can.paired in absurd (cc (h, rests))
      last false h = refl

  -- the turns that are left after these steps, if no other step comes
  abbrev left : Bool → List Entry
  left true = Finish session Done ∷ End session ∷ []
  left false = End session ∷ []

  front_turned : (n : ℕ) (events : List Entry) → ArePieces (ground_of script.schema sizes) [] (take n script.lines) events
      → (rest : List Entry) × AreTurns session (length (texts_of session (take n script.lines))) (turns_of session events ++ rest)
  front_turned n events pieces = (
    left (half_done (actor.Session session) (take n script.lines)),
    turned (ground_of script.schema sizes) session (left (half_done (actor.Session session) (take n script.lines))) (take n script.lines) [] [] events (follow_take n [] script.lines (follow_paired [] script.lines can.paired)) pieces last false
        (half_empty (actor.Session session)),
  )
    where
      at : (u : Bool) → Turned session 0 (left u) u
      at true = (Finish session Done, End session ∷ [], refl, refl, refl)
      at false = refl

      last : (u : Bool) → half_done (actor.Session session) (take n script.lines) ≡ u → Turned session 0 (left (half_done (actor.Session session) (take n script.lines))) u
      last u h = subst (λ k. Turned session 0 (left k) u) (sym h) (at u)

pub has_turns : (sizes : Sizes) (script : Script) (log events : List Entry) → IsRunnable script → ArePieces (ground_of script.schema sizes) [] script.lines events → log ≡ events ++ map End script.sessions → Turns (begin_of script.schema) script log
has_turns sizes script log events can pieces is = record {
  each = λ session has.
      subst (λ es. AreTurns session (length (texts_of session script.lines)) es)
      (sym (split session ∙ ap (λ es. turns_of session events ++ es) (ends_one session script.sessions (sessions_distinct script can) has)))
      (all_turned sizes script can session events pieces);
  none = λ session has_not.
      split session ∙ ap (λ es. es ++ turns_of session (map End script.sessions)) (none_in (ground_of script.schema sizes) session [] script.lines [] events (unnamed sizes script can session has_not) pieces)
      ∙ ends_none session script.sessions (apart_all session script.sessions has_not);
  meant = whole_meant (ground_of script.schema sizes) script.lines events log script.sessions pieces is;
}
  where
    split : (session : ℕ) → turns_of session log ≡ turns_of session events ++ turns_of session (map End script.sessions)
    split session = ap (turns_of session) is ∙ filter-append (λ entry. is_turn entry && (actor_of entry == session)) events (map End script.sessions)

pub has_front_turns : (sizes : Sizes) (script : Script) (n : ℕ) (log : List Entry) → IsRunnable script → ArePieces (ground_of script.schema sizes) [] (take n script.lines) log → FrontTurns (begin_of script.schema) (first_lines n script) log
has_front_turns sizes script n log can pieces = record {
  each = λ session has. front_turned sizes script can session n log pieces;
  none = λ session has_not.
      none_in (ground_of script.schema sizes) session [] (take n script.lines) [] log (All-take (λ step. same_actor (taken_by step) (actor.Session session) ≡ false) n script.lines (unnamed sizes script can session has_not)) pieces;
  meant = all_meant (ground_of script.schema sizes) (take n script.lines) log pieces;
}

-- ---- a log cut short

first_empty : {A : Type 0} (xs ys : List A) → xs ++ ys ≡ [] → xs ≡ []
first_empty [] ys e = refl
first_empty (x ∷ xs) ys e = absurd (cc)

meant_front : (begin : Begin) (steps : List Step) (before xs ys : List Entry) → AreMeant begin steps before (xs ++ ys) → AreMeant begin steps before xs
meant_front begin steps before [] ys meant = tt
meant_front begin steps before (e ∷ xs) ys meant = (meant.0, meant_front begin steps (before ++ e ∷ []) xs ys meant.1)

-- where a log has all turns, a prefix of it has the first of them
pub turns_cut : (begin : Begin) (script : Script) (log rest : List Entry) → Turns begin script (log ++ rest) → FrontTurns begin (first_lines (length script.lines) script) log
turns_cut begin script log rest turns =
    subst (λ lines. FrontTurns begin (record { schema = script.schema; lines = lines; sessions = script.sessions }) log) (sym (take_all (length script.lines) script.lines (omega arith))) (record {
      each = λ session has. (turns_of session rest, subst (AreTurns session (length (texts_of session script.lines))) (split session) (turns.each session has));
      none = λ session has_not. first_empty (turns_of session log) (turns_of session rest) (sym (split session) ∙ turns.none session has_not);
      meant = meant_front begin script.lines [] log rest turns.meant;
    })
  where
    split : (session : ℕ) → turns_of session (log ++ rest) ≡ turns_of session log ++ turns_of session rest
    split session = filter-append (λ entry. is_turn entry && (actor_of entry == session)) log rest
