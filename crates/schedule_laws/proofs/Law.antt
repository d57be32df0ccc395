-- Two whole logs of one script in which memory was not wanting agree, and have one summary.
use Rattle.std.proofs.Common.{◌≡◌, ℕ, ◌+◌, List, [], ◌∷◌, ◌++◌, map, refl, sym, ap, subst, ◌∙◌, cond, Bool, arith}
use Rattle.std.specs.Prelude.{codes, count_by, not}
use Rattle.std.specs.declared.alloc.Global.{Global}
use Rattle.std.specs.declared.sync.Arc.{Arc}
use Rattle.std.specs.List.{AllZip}
use Rattle.std.proofs.lemmas.List.Elements.{filter-append, length_all_zip}
use Rattle.std.proofs.lemmas.List.Sums.{sum_by-cons, sum_by-append}
use Rattle.cs_model.specs.declared.entry.Bound.{Bound}
use Rattle.cs_model.specs.declared.entry.Entry.{Entry}
use Rattle.cs_model.specs.declared.entry.Entry.TheVariants.{Start, Finish, End, Mover}
use Rattle.cs_model.specs.declared.entry.Reply.{Reply}
use Rattle.cs_model.specs.declared.entry.Reply.TheVariants as reply
use Rattle.cs_model.specs.Actors.{is_end, turns_of}
use Rattle.cs_model.specs.State.{State}
use Rattle.cs_model.specs.Steps.{Legal}
use Rattle.log_laws.proofs.Logs.{legal_one}
use Rattle.log_summary.specs.Summary.{is_refusal, is_ok, is_refused, replies_memory, is_short_event, count_line, short_line, summary}
use Rattle.group_book.specs.Book.{Book}
use Rattle.group_log.specs.Counted.{AreCountedAfter, IsCounted}
use Rattle.group_log.specs.Followed.{Ground, Follows, Followed}
use Rattle.group_log.specs.Grounds.{IsGround}
use Rattle.group_log.specs.Reorganizing.{AreReorganizedAfter, IsReorganized}
use Rattle.group_log.proofs.Follow.{follows_leads}
use Rattle.script_reader.specs.declared.script.Script.{Script}
use Rattle.script_runner.specs.Schedule.{ArePieces}
use Rattle.schedule_laws.specs.Agreeing.{without_segments, Agrees, IsAmpleLogOf}
use Rattle.schedule_laws.proofs.Ample.{AreAmple, all_ample}
use Rattle.schedule_laws.proofs.Beside.{Goes, agree_append, one_moment}
use Rattle.schedule_laws.proofs.Steps.{steps_on}

-- ---- a log, cut before its Ends

record Run (origin : Ground) (script : Script) (log : List Entry) : Type 0 where
  state : State
  book : Book
  events : List Entry
  whole : log ≡ events ++ map End script.sessions
  pieces : ArePieces origin [] script.lines events
  followed : Follows origin origin.begin.state origin.book (events ++ map End script.sessions) state book
  ample : AreAmple events
  counted : AreCountedAfter origin [] (events ++ map End script.sessions)
  reorganized : AreReorganizedAfter origin [] (events ++ map End script.sessions)

none_of_both : {X : Type 0} (xs ys : List X) → xs ++ ys ≡ [] → xs ≡ []
none_of_both [] ys e = refl
none_of_both (x ∷ xs) ys e = absurd cc

run_of : (origin : Ground) (script : Script) (log : List Entry) → IsAmpleLogOf origin script log → Run origin script log
run_of origin script log x =
    let history = x.run.history in
    let turns = history.turns in
    let scheduled = x.run.scheduled in
    let events : List Entry = scheduled.0 in
    let ends : List Entry = map End script.sessions in
    let whole : log ≡ events ++ ends = scheduled.2 in
    let followed : Follows origin origin.begin.state origin.book (events ++ ends) history.state history.book = subst (λ z. Followed origin z history.state history.book) whole history.followed in
    let short : Entry → ℕ = (λ e. cond (is_short_event e) 1 0) in
    let counts = sym (sum_by-append short events ends) ∙ ap (count_by is_short_event) (sym whole) ∙ x.ample in
    record {
      state = history.state;
      book = history.book;
      events = events;
      whole = whole;
      pieces = scheduled.1;
      followed = followed;
      ample = all_ample origin.begin script.sessions events origin.begin.state history.state (follows_leads origin origin.begin.state history.state origin.book history.book (events ++ ends) followed) (omega (arith, counts))
          (λ session missing. none_of_both (turns_of session events) (turns_of session ends) (sym (turns_append session events ends) ∙ ap (turns_of session) (sym whole) ∙ turns.none session missing));
      counted = subst (λ z. IsCounted origin z) whole history.counted;
      reorganized = subst (λ z. IsReorganized origin z) whole history.reorganized;
    }
  where
    turns_append : (session : ℕ) (xs ys : List Entry) → turns_of session (xs ++ ys) ≡ turns_of session xs ++ turns_of session ys
    turns_append session xs ys = filter-append _ xs ys

ends_agree : (sessions : List ℕ) → AllZip Agrees (map End sessions) (map End sessions)
ends_agree [] = tt
ends_agree (s ∷ sessions) = (refl, ends_agree sessions)

module _ (origin : Ground) (script : Script) (ground : IsGround origin) where
  runs_agree : (log other : List Entry) → Run origin script log → Run origin script other → AllZip Agrees log other
  runs_agree log other a b =
      let ends : List Entry = map End script.sessions in
      let begin : Goes origin [] [] (a.events ++ ends) (b.events ++ ends) a.state b.state a.book b.book = record {
        beside = record { state = origin.begin.state; book = origin.book; spare = origin.book; first = (refl, refl); second = (refl, refl); agree = tt };
        first = a.followed;
        second = b.followed;
        counted = a.counted;
        told = b.counted;
        moved = a.reorganized;
        also = b.reorganized;
      } in
      let goes = steps_on origin ground a.state b.state a.book b.book script.lines [] [] ends ends a.events b.events a.pieces b.pieces a.ample b.ample begin in
      let all : AllZip Agrees (a.events ++ ends) (b.events ++ ends) = agree_append a.events b.events ends ends (goes.beside).agree (ends_agree script.sessions) in
      subst (λ z. AllZip Agrees z other) (sym a.whole) (subst (λ z. AllZip Agrees (a.events ++ ends) z) (sym b.whole) all)

  pub logs_agree : (log other : List Entry) → IsAmpleLogOf origin script log → IsAmpleLogOf origin script other → AllZip Agrees log other
  logs_agree log other x y = runs_agree log other (run_of origin script log x) (run_of origin script other y)

  pub one_end : (log other : List Entry) (m n : State) → IsAmpleLogOf origin script log → IsAmpleLogOf origin script other → Legal origin.begin log m → Legal origin.begin other n → m ≡ n
  one_end log other m n x y l k =
      let a = x.run.history in
      let b = y.run.history in
      let so = one_moment origin log other a.state b.state a.book b.book (logs_agree log other x y) a.followed b.followed in
      legal_one origin.begin log m a.state l (follows_leads origin origin.begin.state a.state origin.book a.book log a.followed)
      ∙ sym so.0
      ∙ legal_one origin.begin other b.state n (follows_leads origin origin.begin.state b.state origin.book b.book other b.followed) k

-- ---- summaries

counts_agree : (test : Entry → Bool) → ((e f : Entry) → Agrees e f → test e ≡ test f) → (log other : List Entry) → AllZip Agrees log other → count_by test log ≡ count_by test other
counts_agree test same [] [] agree = refl
counts_agree test same [] (f ∷ other) agree = absurd agree
counts_agree test same (e ∷ log) [] agree = absurd agree
counts_agree test same (e ∷ log) (f ∷ other) agree =
    sum_by-cons (λ x. cond (test x) 1 0) e log
    ∙ (λ i. cond (same e f agree.0 i) 1 0 + counts_agree test same log other agree.1 i)
    ∙ sym (sum_by-cons (λ x. cond (test x) 1 0) f other)

refusal_so : (r : Reply) → is_refusal r ≡ is_refusal (without_segments r)
refusal_so reply.Done = refl
refusal_so (reply.Affected count) = refl
refusal_so (reply.Rows rows segments) = refl
refusal_so (reply.Groups lines buffered) = refl
refusal_so (reply.Segments lines) = refl
refusal_so (reply.Left groups) = refl
refusal_so (reply.Refused refusal) = refl

memory_so : (r : Reply) → replies_memory r ≡ replies_memory (without_segments r)
memory_so reply.Done = refl
memory_so (reply.Affected count) = refl
memory_so (reply.Rows rows segments) = refl
memory_so (reply.Groups lines buffered) = refl
memory_so (reply.Segments lines) = refl
memory_so (reply.Left groups) = refl
memory_so (reply.Refused refusal) = refl

-- a test that asks nothing of a statement, and of a reply only what is there without the lines of a report on segments
tests_agree : (test : Entry → Bool) → ((session : ℕ) (b c : Arc Bound Global) (short : Bool) → test (Start session b short) ≡ test (Start session c short))
    → ((session : ℕ) (r : Reply) → test (Finish session r) ≡ test (Finish session (without_segments r))) → (e f : Entry) → Agrees e f → test e ≡ test f
tests_agree test start told (Start session b short) f (c, same, is) = start session b c short ∙ ap test (sym is)
tests_agree test start told (Finish session r) f (q, same, is) = told session r ∙ ap (λ z. test (Finish session z)) (sym same) ∙ sym (told session q) ∙ ap test (sym is)
tests_agree test start told (End session) f is = ap test (sym is)
tests_agree test start told (Mover actor work) f is = ap test (sym is)

pub one_summary : (log other : List Entry) (rows : ℕ) → AllZip Agrees log other → summary log rows ≡ summary other rows
one_summary log other rows agree =
    let events = length_all_zip Agrees log other agree in
    let ok = counts_agree is_ok (tests_agree is_ok (λ session b c short. refl) (λ session r. ap not (refusal_so r))) log other agree in
    let refused = counts_agree is_refused (tests_agree is_refused (λ session b c short. refl) (λ session r. refusal_so r)) log other agree in
    let ends = counts_agree is_end (tests_agree is_end (λ session b c short. refl) (λ session r. refl)) log other agree in
    let short = counts_agree is_short_event (tests_agree is_short_event (λ session b c short. refl) (λ session r. memory_so r)) log other agree in
    λ i. count_line (codes "events") (events i) ++ count_line (codes "ok") (ok i) ++ count_line (codes "refused") (refused i)
    ++ count_line (codes "ends") (ends i) ++ count_line (codes "rows") rows ++ short_line (short i)
