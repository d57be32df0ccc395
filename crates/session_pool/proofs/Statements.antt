-- The statements of a session, one after the other, by its entries.
use Rattle.std.proofs.Common.{◌≡◌, ℕ, zero, suc, ◌+◌, ◌-◌, ◌<◌, ◌≤◌, List, [], ◌∷◌, ◌++◌, length, get_or, take, drop, refl, sym, ap, subst, ◌∙◌, cond, Bool, true, false, ◌||◌, arith, append_assoc, length-append, All}
use Rattle.std.specs.Prelude.{◌==◌, ◌&&◌, None, Some, Option, fold, slice_get}
use Rattle.std.specs.Borrow.{Bor}
use Rattle.std.specs.Option.{option_copied}
use Rattle.std.specs.List.{cons_option}
use Rattle.std.proofs.lemmas.Bool.{eq-eqb}
use Rattle.std.proofs.lemmas.List.{append-nil, take_more, take_all}
use Rattle.std.proofs.lemmas.List.Elements.{All-head, All-tail, filter-append, filter_map-append}
use Rattle.std.proofs.lemmas.List.Sums.{sum_by-append, sum_by-cons, fold-append}
use Rattle.std.proofs.Math.Seq.{split_at}
use denote.RawPtr.{null_ptr}
use Rattle.cs_model.specs.declared.entry.Bound.TheVariants as bound
use Rattle.cs_model.specs.declared.entry.Reply.TheVariants as reply
use Rattle.cs_model.specs.declared.entry.Entry.{Entry}
use Rattle.cs_model.specs.declared.entry.Entry.TheVariants.{Start, Finish, End, Mover}
use Rattle.cs_model.specs.Actors.{actor_of, begun_by, is_turn, is_end, is_begun, has_ended, turns_of}
use Rattle.cs_model.specs.Text.{is_start_of, statements_of}
use Rattle.script_reader.specs.declared.script.Step.{Step}
use Rattle.script_reader.specs.declared.script.Step.TheVariants.{Whole, Begun, Finished, Turn, Claiming, Installing}
use Rattle.script_reader.specs.Scripts.{text_of}
use Rattle.script_turns.specs.Turns.{IsFinishOf, IsStartIn, AreTurns, started_in, texts_of}
use Rattle.script_turns.proofs.Entries.{finish_does}
use Rattle.script_turns.proofs.Meanings.{at_seam}
use Rattle.session_pool.specs.Runs.{IsSessionRun}
use Rattle.session_pool.specs.Statements.{AddsStatement, AreWorks}

-- ---- so many statements are done

-- these entries of a session begin so many statements and finish each: what is to come may follow their turns
pub record HasDone (session n : ℕ) (entries : List Entry) : Type 0 where
  pub counted : statements_of session entries ≡ n
  pub rests : is_begun entries ≡ false
  pub going : has_ended entries ≡ false
  pub leads : (m : ℕ) (others : List Entry) → AreTurns session m others → AreTurns session (n + m) (turns_of session entries ++ others)

pub done_none : (session : ℕ) → HasDone session 0 []
done_none session = record {
  counted = refl;
  rests = refl;
  going = refl;
  leads = λ m others turns. let same : m ≡ 0 + m = omega arith in subst (λ k. AreTurns session k others) same turns;
}

-- ---- one entry

-- what a Start of the session is
record StartsOne (session : ℕ) (e : Entry) : Type 0 where
  pub counts : is_start_of session e ≡ true
  pub goes : is_end e ≡ false
  pub turn : (is_turn e && (actor_of e == session)) ≡ true

start_one : (session : ℕ) (e : Entry) → IsStartIn session e → StartsOne session e
start_one session (Start s b short) h = record { counts = eq-eqb s session h; goes = refl; turn = eq-eqb s session h }
start_one session (Finish s r) h = absurd h
start_one session (End s) h = absurd h
start_one session (Mover actor work) h = absurd h

-- what its Finish is
record FinishesOne (session : ℕ) (e : Entry) : Type 0 where
  pub counts : is_start_of session e ≡ false
  pub turn : (is_turn e && (actor_of e == session)) ≡ true

finish_one : (session : ℕ) (e : Entry) → IsFinishOf session e → FinishesOne session e
finish_one session (Start s b short) h = absurd h
finish_one session (Finish s r) h = record { counts = refl; turn = eq-eqb s session h }
finish_one session (End s) h = absurd h
finish_one session (Mover actor work) h = absurd h

-- what a work of it is: it changes nothing of this
record WorksOne (session : ℕ) (e : Entry) : Type 0 where
  pub counts : is_start_of session e ≡ false
  pub begun : (before : Bool) → begun_by before e ≡ before
  pub goes : is_end e ≡ false

work_one : (session : ℕ) (e : Entry) → is_turn e ≡ false → WorksOne session e
work_one session (Start s b short) h = absurd (cc h)
work_one session (Finish s r) h = absurd (cc h)
work_one session (End s) h = absurd (cc h)
work_one session (Mover actor work) h = record { counts = refl; begun = λ before. refl; goes = refl }

-- ---- works

abbrev ended_by : Bool → Entry → Bool
ended_by before e = before || is_end e

-- a list of works, where something else stands after them
module _ (session : ℕ) (others : List Entry) where
  works_counted : (works : List Entry) → AreWorks works → statements_of session (works ++ others) ≡ statements_of session others
  works_counted [] are = refl
  works_counted (w ∷ works) are =
      let one = work_one session w (All-head (λ entry. is_turn entry ≡ false) w works are) in
      let none : 0 + statements_of session (works ++ others) ≡ statements_of session (works ++ others) = omega arith in
      sum_by-cons (λ x. cond (is_start_of session x) 1 0) w (works ++ others)
      ∙ (ap (λ t. cond t 1 0 + statements_of session (works ++ others)) one.counts ∙ (none ∙ works_counted works (All-tail (λ entry. is_turn entry ≡ false) w works are)))

  works_begun : (works : List Entry) → AreWorks works → (before : Bool) → fold begun_by before (works ++ others) ≡ fold begun_by before others
  works_begun [] are before = refl
  works_begun (w ∷ works) are before =
      let one = work_one session w (All-head (λ entry. is_turn entry ≡ false) w works are) in
      ap (λ b. fold begun_by b (works ++ others)) (one.begun before) ∙ works_begun works (All-tail (λ entry. is_turn entry ≡ false) w works are) before

  works_going : (works : List Entry) → AreWorks works → fold ended_by false (works ++ others) ≡ fold ended_by false others
  works_going [] are = refl
  works_going (w ∷ works) are =
      let one = work_one session w (All-head (λ entry. is_turn entry ≡ false) w works are) in
      ap (λ b. fold ended_by (false || b) (works ++ others)) one.goes ∙ works_going works (All-tail (λ entry. is_turn entry ≡ false) w works are)

  works_turns : (works : List Entry) → AreWorks works → turns_of session (works ++ others) ≡ turns_of session others
  works_turns [] are = refl
  works_turns (w ∷ works) are =
      ap (λ b. cond (b && (actor_of w == session)) (w ∷ turns_of session (works ++ others)) (turns_of session (works ++ others))) (All-head (λ entry. is_turn entry ≡ false) w works are)
      ∙ works_turns works (All-tail (λ entry. is_turn entry ≡ false) w works are)

-- ---- one statement more

module _ (session n : ℕ) (es : List Entry) (done : HasDone session n es) (a : Entry) (works : List Entry) (b : Entry) (start : IsStartIn session a) (are : AreWorks works) (finish : IsFinishOf session b) where
  abbrev piece : List Entry
  piece = a ∷ (works ++ b ∷ [])

  first : StartsOne session a
  first = start_one session a start

  last : FinishesOne session b
  last = finish_one session b finish

  one_counted : statements_of session (es ++ piece) ≡ n + 1
  one_counted =
      let counts : Entry → ℕ = λ x. cond (is_start_of session x) 1 0 in
      let rest : statements_of session (works ++ b ∷ []) ≡ 0 = works_counted session (b ∷ []) works are ∙ (sum_by-cons counts b [] ∙ ap (λ t. cond t 1 0 + 0) last.counts) in
      let all : statements_of session piece ≡ 1 = sum_by-cons counts a (works ++ b ∷ []) ∙ (λ i. cond (first.counts i) 1 0 + rest i) in
      sum_by-append counts es piece ∙ (λ i. done.counted i + all i)

  one_rests : is_begun (es ++ piece) ≡ false
  one_rests = fold-append begun_by false es piece ∙ (works_begun session (b ∷ []) works are (begun_by (is_begun es) a) ∙ (finish_does session b finish).begun (begun_by (is_begun es) a))

  one_going : has_ended (es ++ piece) ≡ false
  one_going =
      fold-append ended_by false es piece
      ∙ ((λ i. fold ended_by (done.going i || first.goes i) (works ++ b ∷ [])) ∙ (works_going session (b ∷ []) works are ∙ (finish_does session b finish).going))

  one_turns : turns_of session (es ++ piece) ≡ turns_of session es ++ a ∷ b ∷ []
  one_turns =
      filter-append (λ entry. is_turn entry && (actor_of entry == session)) es piece
      ∙ ap (λ ts. turns_of session es ++ ts)
      (ap (λ t. cond t (a ∷ turns_of session (works ++ b ∷ [])) (turns_of session (works ++ b ∷ []))) first.turn
      ∙ ap (λ ts. a ∷ ts) (works_turns session (b ∷ []) works are ∙ ap (λ t. cond t (b ∷ []) []) last.turn))

  one_leads : (m : ℕ) (others : List Entry) → AreTurns session m others → AreTurns session ((n + 1) + m) (turns_of session (es ++ piece) ++ others)
  one_leads m others turns =
      let same : n + suc m ≡ (n + 1) + m = omega arith in
      subst (λ k. AreTurns session k (turns_of session (es ++ piece) ++ others)) same
      (subst (AreTurns session (n + suc m)) (sym (ap (λ ts. ts ++ others) one_turns ∙ append_assoc (turns_of session es) (a ∷ b ∷ []) others))
      (done.leads (suc m) (a ∷ b ∷ others) (a, b, others, refl, start, finish, turns)))

  done_one : HasDone session (n + 1) (es ++ piece)
  done_one = record { counted = one_counted; rests = one_rests; going = one_going; leads = one_leads }

pub done_more : (session n : ℕ) (before after : List Entry) → HasDone session n before → AddsStatement session before after → HasDone session (n + 1) after
done_more session n before after done x = subst (HasDone session (n + 1)) (sym x.3) (done_one session n before done x.0 x.1 x.2 x.4 x.5 x.6)

-- ---- the End, or a stop

-- all statements, and the End
pub whole_run : (session n : ℕ) (es after : List Entry) → HasDone session n es → after ≡ es ++ End session ∷ [] → AreTurns session n (turns_of session after)
whole_run session n es after done is =
    let same : n + 0 ≡ n = omega arith in
    let turns : turns_of session after ≡ turns_of session es ++ End session ∷ [] =
    ap (turns_of session) is ∙ filter-append (λ entry. is_turn entry && (actor_of entry == session)) es (End session ∷ [])
    ∙ ap (λ t. turns_of session es ++ cond t (End session ∷ []) []) (eq-eqb session session refl) in
    subst (AreTurns session n) (sym turns) (subst (λ k. AreTurns session k (turns_of session es ++ End session ∷ [])) same (done.leads 0 (End session ∷ []) refl))

-- there are turns of so many statements
pub some_turns : (session n : ℕ) → (turns : List Entry) × AreTurns session n turns
some_turns session zero = (End session ∷ [], refl)
some_turns session (suc n) =
    let others = some_turns session n in
    let a : Entry = Start session (record { ptr = null_ptr; value = bound.Nothing }) false in
    let b : Entry = Finish session reply.Done in
    (a ∷ b ∷ others.0, (a, b, others.0, refl, refl, refl, others.1))

-- the first of the statements
pub front_run : (session n all : ℕ) (es : List Entry) → HasDone session n es → n ≤ all → (rest : List Entry) × AreTurns session all (turns_of session es ++ rest)
front_run session n all es done le =
    let rest = some_turns session (all - n) in
    let same : n + (all - n) ≡ all = omega (arith, le) in
    (rest.0, subst (λ k. AreTurns session k (turns_of session es ++ rest.0)) same (done.leads (all - n) rest.0 rest.1))

-- ---- the texts of the lines

module _ (session : ℕ) (lines : List Step) (i : ℕ) (step : Step) (within : i < length lines) (is : step ≡ get_or lines i step) where
  -- the texts of one line more
  texts_more : texts_of session (take (i + 1) lines) ≡ texts_of session (take i lines) ++ cons_option (started_in session step) []
  texts_more =
      ap (texts_of session) (take_more lines i step within ∙ ap (λ x. take i lines ++ x ∷ []) (sym is))
      ∙ filter_map-append (started_in session) (take i lines) (step ∷ [])

  -- a line that starts nothing of the session
  pub texts_pass : started_in session step ≡ None → length (texts_of session (take (i + 1) lines)) ≡ length (texts_of session (take i lines))
  texts_pass none = ap length (texts_more ∙ ap (λ o. texts_of session (take i lines) ++ cons_option o []) none ∙ append-nil (texts_of session (take i lines)))

  -- a line that starts a statement of it
  pub texts_grow : (text : List ℕ) → started_in session step ≡ Some text → length (texts_of session (take (i + 1) lines)) ≡ length (texts_of session (take i lines)) + 1
  texts_grow text some =
      ap length (texts_more ∙ ap (λ o. texts_of session (take i lines) ++ cons_option o []) some)
      ∙ length-append (texts_of session (take i lines)) (text ∷ [])

  texts_split : (text : List ℕ) → started_in session step ≡ Some text → texts_of session lines ≡ texts_of session (take i lines) ++ text ∷ texts_of session (drop (suc i) lines)
  texts_split text some =
      ap (texts_of session) (split_at lines i step within ∙ ap (λ x. take i lines ++ x ∷ drop (suc i) lines) (sym is))
      ∙ filter_map-append (started_in session) (take i lines) (step ∷ drop (suc i) lines)
      ∙ ap (λ o. texts_of session (take i lines) ++ cons_option o (texts_of session (drop (suc i) lines))) some

  -- its text is that of the session's next statement
  pub text_next : (text : List ℕ) → started_in session step ≡ Some text → slice_get (texts_of session lines) (length (texts_of session (take i lines))) ≡ Some text
  text_next text some =
      ap (λ texts. slice_get texts (length (texts_of session (take i lines)))) (texts_split text some)
      ∙ at_seam (texts_of session (take i lines)) text (texts_of session (drop (suc i) lines))

  -- there are more statements than those of the lines before it
  pub texts_left : (text : List ℕ) → started_in session step ≡ Some text → length (texts_of session (take i lines)) ≤ length (texts_of session lines)
  texts_left text some =
      let all = ap length (texts_split text some) in
      let both = length-append (texts_of session (take i lines)) (text ∷ texts_of session (drop (suc i) lines)) in
      omega (arith, all, both)

-- the text that a line starts is the line's text
pub text_is : (session : ℕ) (step : Step) (text : List ℕ) → started_in session step ≡ Some text → text ≡ text_of step
text_is session (Whole s t) text h = at (s == session) h
  where
    at : (b : Bool) → cond b (Some t) None ≡ Some text → text ≡ t
    at true h = cc h
    at false h = absurd (cc h)
text_is session (Begun s t) text h = at (s == session) h
  where
    at : (b : Bool) → cond b (Some t) None ≡ Some text → text ≡ t
    at true h = cc h
    at false h = absurd (cc h)
text_is session (Finished s) text h = absurd (cc h)
text_is session (Turn mover) text h = absurd (cc h)
text_is session (Claiming mover) text h = absurd (cc h)
text_is session (Installing mover) text h = absurd (cc h)

-- ---- line by line

-- the lines so far have so many statements, and each is done
abbrev pub HasRunLines : ℕ → List Step → List Entry → Type 0
HasRunLines session lines entries = HasDone session (length (texts_of session lines)) entries

module _ (session : ℕ) (lines all : List Step) (same : all ≡ lines) (i : ℕ) (step : Step) (there : i < length all) (at : step ≡ get_or all i step) (o : Option (Bor (List ℕ))) (gives : option_copied o ≡ started_in session step) where
  within : i < length lines
  within = subst (λ steps. i < length steps) same there

  is : step ≡ get_or lines i step
  is = at ∙ ap (λ steps. get_or steps i step) same

  some_in : (text : Bor (List ℕ)) → o ≡ Some text → started_in session step ≡ Some text.now
  some_in text some = sym gives ∙ ap option_copied some

  pub line_passed : o ≡ None → (es : List Entry) → HasRunLines session (take i lines) es → HasRunLines session (take (i + 1) lines) es
  line_passed none es done = subst (λ n. HasDone session n es) (sym (texts_pass session lines i step within is (sym gives ∙ ap option_copied none))) done

  module _ (text : Bor (List ℕ)) (some : o ≡ Some text) (es : List Entry) (done : HasRunLines session (take i lines) es) where
    pub line_short : All (λ (line : Step). length (text_of line) ≤ 65536) lines → length text.now ≤ 65536
    line_short short =
        subst (λ t. length t ≤ 65536) (sym (text_is session step text.now (some_in text some))) (subst (λ (line : Step). length (text_of line) ≤ 65536) (sym is) (short i step within))

    pub line_next : (mine : List Step) → mine ≡ lines → slice_get (texts_of session mine) (statements_of session es) ≡ Some text.now
    line_next mine are = (λ j. slice_get (texts_of session (are j)) (done.counted j)) ∙ text_next session lines i step within is text.now (some_in text some)

    pub line_done : (after : List Entry) → AddsStatement session es after → HasRunLines session (take (i + 1) lines) after
    line_done after adds =
        subst (λ n. HasDone session n after) (sym (texts_grow session lines i step within is text.now (some_in text some))) (done_more session (length (texts_of session (take i lines))) es after done adds)

    pub line_stopped : (after : List Entry) → after ≡ es → IsSessionRun session lines false after
    line_stopped after stays =
        subst (IsSessionRun session lines false) (sym stays)
        (front_run session (length (texts_of session (take i lines))) (length (texts_of session lines)) es done (texts_left session lines i step within is text.now (some_in text some)))

-- after the last line
pub lines_ended : (session : ℕ) (lines all : List Step) → all ≡ lines → (i : ℕ) → length all ≤ i → (es after : List Entry) → HasRunLines session (take i lines) es → after ≡ es ++ End session ∷ []
    → IsSessionRun session lines true after
lines_ended session lines all same i past es after done ends =
    whole_run session (length (texts_of session lines)) es after (subst (λ steps. HasRunLines session steps es) (take_all i lines (subst (λ steps. length steps ≤ i) same past)) done) ends
