-- The events of a log, one entry more.
use Rattle.std.proofs.Common.{◌≡◌, ◌≢◌, ℕ, ◌+◌, ◌<◌, ◌≤◌, List, [], ◌∷◌, ◌++◌, length, refl, sym, ap, subst, ◌∙◌, cond, Bool, true, false, arith, eq-eqb, ne_eqb, All, length-append}
use Rattle.std.specs.Prelude.{Option, None, Some, ◌==◌}
use Rattle.std.proofs.lemmas.List.{append-nil}
use Rattle.std.proofs.lemmas.List.Elements.{All-head, All-tail, All-push, All-weaker, filter-append}
use Rattle.std.proofs.lemmas.List.Sums.{fold-append}
use Rattle.cs_model.specs.declared.entry.Entry.{Entry}
use Rattle.cs_model.specs.Actors.{actor_of, entries_of}
use Rattle.group_view.specs.declared.claim.Claim.{Claim}
use Rattle.group_view.proofs.Walks.{filter-map}
use Rattle.session_pool.specs.declared.event.Event.{Event}
use Rattle.session_pool.specs.declared.event.Note.{Note}
use Rattle.session_pool.specs.Events.{number_in, entries_in, events_by, note_at, events_from, events_of, held_in}

-- an event by its parts
abbrev pub event_of : Entry → Option Claim → Event
event_of entry lent = record { entry = entry; lent = lent }

-- ---- entries

pub entries_from : (notes : List Note) (place : ℕ) (log : List Entry) → entries_in (events_from notes place log) ≡ log
entries_from notes place [] = refl
entries_from notes place (e ∷ log) = ap (λ es. e ∷ es) (entries_from notes (place + 1) log)

-- the entries of a log's events are those of the log
pub entries_are : (notes : List Note) (log : List Entry) (events : List Event) → events_of notes log ≡ events → entries_in events ≡ log
entries_are notes log events is = ap entries_in (sym is) ∙ entries_from notes 0 log

pub entries_by : (n : ℕ) (events : List Event) → entries_of n (entries_in events) ≡ entries_in (events_by n events)
entries_by n events = filter-map (λ entry. actor_of entry == n) (λ (event : Event). event.entry) events

-- ---- notes

-- all stand before this place
abbrev pub AreBefore : ℕ → List Note → Type 0
AreBefore place notes = All (λ (note : Note). note.place < place) notes

none_at : (notes : List Note) (place : ℕ) → AreBefore place notes → note_at notes place ≡ None
none_at [] place before = refl
none_at (n ∷ notes) place before =
    let lt = All-head (λ (note : Note). note.place < place) n notes before in
    ap (λ b. cond b (Some n.claim.value) (note_at notes place)) (ne_eqb n.place place (λ e. omega (arith, e, lt)))
    ∙ none_at notes place (All-tail (λ (note : Note). note.place < place) n notes before)

note_else : (notes : List Note) (note : Note) (place : ℕ) → note.place ≢ place → note_at (notes ++ note ∷ []) place ≡ note_at notes place
note_else [] note place ne = ap (λ b. cond b (Some note.claim.value) None) (ne_eqb note.place place ne)
note_else (n ∷ notes) note place ne = ap (λ o. cond (n.place == place) (Some n.claim.value) o) (note_else notes note place ne)

note_there : (notes : List Note) (note : Note) → AreBefore note.place notes → note_at (notes ++ note ∷ []) note.place ≡ Some note.claim.value
note_there [] note before = ap (λ b. cond b (Some note.claim.value) None) (eq-eqb note.place note.place refl)
note_there (n ∷ notes) note before =
    let lt = All-head (λ (other : Note). other.place < note.place) n notes before in
    ap (λ b. cond b (Some n.claim.value) (note_at (notes ++ note ∷ []) note.place)) (ne_eqb n.place note.place (λ e. omega (arith, e, lt)))
    ∙ note_there notes note (All-tail (λ (other : Note). other.place < note.place) n notes before)

-- a note of a later place says nothing of these
noted_later : (notes : List Note) (note : Note) (place : ℕ) (log : List Entry) → place + length log ≤ note.place → events_from (notes ++ note ∷ []) place log ≡ events_from notes place log
noted_later notes note place [] late = refl
noted_later notes note place (e ∷ log) late =
    ap (λ o. event_of e o ∷ events_from (notes ++ note ∷ []) (place + 1) log) (note_else notes note place (λ is. omega (arith, is, late)))
    ∙ ap (λ es. event_of e (note_at notes place) ∷ es) (noted_later notes note (place + 1) log (omega (arith, late)))

-- each stands before a longer log's end
pub before_more : (notes : List Note) (old new : List Entry) (e : Entry) → new ≡ old ++ e ∷ [] → AreBefore (length old) notes → AreBefore (length new) notes
before_more notes old new e is before =
    let longer : length new ≡ length old + 1 = ap (λ l. length l) is ∙ length-append old (e ∷ []) in
    All-weaker (λ (note : Note). note.place < length old) (λ (note : Note). note.place < length new) (λ note lt. omega (arith, lt, longer)) notes before

pub before_noted : (notes : List Note) (note : Note) (old new : List Entry) (e : Entry) → new ≡ old ++ e ∷ [] → note.place ≡ length old → AreBefore (length old) notes → AreBefore (length new) (notes ++ note ∷ [])
before_noted notes note old new e is at before =
    let longer : length new ≡ length old + 1 = ap (λ l. length l) is ∙ length-append old (e ∷ []) in
    All-push (λ (other : Note). other.place < length new) notes note (before_more notes old new e is before) (omega (arith, at, longer))

-- ---- an entry more

-- is an event more, with what is noted at its place
push_from : (notes : List Note) (place : ℕ) (log : List Entry) (e : Entry) → events_from notes place (log ++ e ∷ []) ≡ events_from notes place log ++ event_of e (note_at notes (place + length log)) ∷ []
push_from notes place [] e = let z : place ≡ place + 0 = omega arith in ap (λ p. event_of e (note_at notes p) ∷ []) z
push_from notes place (x ∷ log) e =
    let z : (place + 1) + length log ≡ place + length (x ∷ log) = omega arith in
    ap (λ es. event_of x (note_at notes place) ∷ es) (push_from notes (place + 1) log e ∙ ap (λ p. events_from notes (place + 1) log ++ event_of e (note_at notes p) ∷ []) z)

push_at : (notes : List Note) (old new : List Entry) (e : Entry) → new ≡ old ++ e ∷ [] → events_of notes new ≡ events_of notes old ++ event_of e (note_at notes (length old)) ∷ []
push_at notes old new e is =
    let z : 0 + length old ≡ length old = omega arith in
    ap (events_of notes) is ∙ push_from notes 0 old e ∙ ap (λ p. events_of notes old ++ event_of e (note_at notes p) ∷ []) z

-- without a note it lent nothing
pub events_more : (notes : List Note) (old new : List Entry) (e : Entry) → new ≡ old ++ e ∷ [] → AreBefore (length old) notes → events_of notes new ≡ events_of notes old ++ event_of e None ∷ []
events_more notes old new e is before = push_at notes old new e is ∙ ap (λ o. events_of notes old ++ event_of e o ∷ []) (none_at notes (length old) before)

-- with a note it lent what that says
pub events_noted : (notes : List Note) (note : Note) (old new : List Entry) (e : Entry) → new ≡ old ++ e ∷ [] → note.place ≡ length old → AreBefore (length old) notes
    → events_of (notes ++ note ∷ []) new ≡ events_of notes old ++ event_of e (Some note.claim.value) ∷ []
events_noted notes note old new e is at before =
    let all : List Note = notes ++ note ∷ [] in
    push_at all old new e is
    ∙ ap (λ es. es ++ event_of e (note_at all (length old)) ∷ []) (noted_later notes note 0 old (omega (arith, at)))
    ∙ ap (λ o. events_of notes old ++ event_of e o ∷ []) (ap (note_at all) (sym at) ∙ note_there notes note (subst (λ p. AreBefore p notes) (sym at) before))

-- ---- what was lent last

pub held_push : (n : ℕ) (events : List Event) (e : Event) → held_in (events_by n (events ++ e ∷ [])) ≡ cond (number_in e == n) e.lent (held_in (events_by n events))
held_push n events e = ap held_in (filter-append (λ x. number_in x == n) events (e ∷ [])) ∙ at (number_in e == n)
  where
    at : (t : Bool) → held_in (events_by n events ++ cond t (e ∷ []) []) ≡ cond t e.lent (held_in (events_by n events))
    at true = fold-append (λ (before : Option Claim) (event : Event). event.lent) None (events_by n events) (e ∷ [])
    at false = ap held_in (append-nil (events_by n events))
