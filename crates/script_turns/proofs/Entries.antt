-- What one entry more says of a session: a Start, a Finish, or an entry of another.
use Rattle.std.proofs.Common.{◌≡◌, ℕ, List, [], ◌∷◌, ◌++◌, refl, sym, ap, subst, ◌∙◌, cond, Bool, true, false}
use Rattle.std.specs.Prelude.{◌==◌}
use Rattle.std.proofs.lemmas.List.{append-nil}
use Rattle.cs_model.specs.declared.entry.Bound.{Bound}
use Rattle.cs_model.specs.declared.entry.Reply.{Reply}
use Rattle.cs_model.specs.declared.entry.Entry.{Entry}
use Rattle.cs_model.specs.declared.entry.Entry.TheVariants.{Start, Finish, End, Mover}
use Rattle.cs_model.specs.State.{Begin}
use Rattle.cs_model.specs.Actors.{actor_of, is_turn, entries_of, begun_by, is_end, is_begun, has_ended}
use Rattle.log_laws.proofs.Entries.{entries_push, begun_push, ended_stays}
use Rattle.log_laws.specs.Started.{IsStartEntry}
use Rattle.script_turns.specs.Turns.{IsBound, IsStart, IsFinishOf, IsStartIn}

-- ---- one entry more

pub begun_after : (log : List Entry) (e : Entry) (s : ℕ) → is_begun (entries_of s (log ++ e ∷ [])) ≡ cond (actor_of e == s) (begun_by (is_begun (entries_of s log)) e) (is_begun (entries_of s log))
begun_after log e s = ap is_begun (entries_push s log e) ∙ at (actor_of e == s)
  where
    at : (t : Bool) → is_begun (entries_of s log ++ cond t (e ∷ []) []) ≡ cond t (begun_by (is_begun (entries_of s log)) e) (is_begun (entries_of s log))
    at true = begun_push (entries_of s log) e
    at false = ap is_begun (append-nil (entries_of s log))

-- ---- a Start, a Finish

-- a turn of one session, which leaves a statement half done or not, and is no End
pub record Does (session : ℕ) (begins : Bool) (e : Entry) : Type 0 where
  pub actor : actor_of e ≡ session
  pub turn : is_turn e ≡ true
  pub begun : (before : Bool) → begun_by before e ≡ begins
  pub going : is_end e ≡ false

pub start_does : (begin : Begin) (before : List Entry) (session : ℕ) (text : List ℕ) (e : Entry) → IsStart begin before session text e → Does session true e
start_does begin before session text (Start s b short) h = record { actor = h.0; turn = refl; begun = λ before. refl; going = refl }
start_does begin before session text (Finish s r) h = absurd h
start_does begin before session text (End s) h = absurd h
start_does begin before session text (Mover actor work) h = absurd h

pub finish_does : (session : ℕ) (e : Entry) → IsFinishOf session e → Does session false e
finish_does session (Start s b short) h = absurd h
finish_does session (Finish s r) h = record { actor = h; turn = refl; begun = λ before. refl; going = refl }
finish_does session (End s) h = absurd h
finish_does session (Mover actor work) h = absurd h

pub one_begun : (log : List Entry) (e : Entry) (s session : ℕ) (begins : Bool) → Does session begins e → is_begun (entries_of s (log ++ e ∷ [])) ≡ cond (session == s) begins (is_begun (entries_of s log))
one_begun log e s session begins d =
    begun_after log e s ∙ (λ i. cond (d.actor i == s) (d.begun (is_begun (entries_of s log)) i) (is_begun (entries_of s log)))

pub one_going : (log : List Entry) (e : Entry) (s session : ℕ) (begins : Bool) → Does session begins e → has_ended (entries_of s (log ++ e ∷ [])) ≡ has_ended (entries_of s log)
one_going log e s session begins d = ended_stays log e s d.going

-- ---- by the calls of a core

pub start_in : (begin : Begin) (before : List Entry) (session : ℕ) (text : List ℕ) (e : Entry) → IsStart begin before session text e → IsStartIn session e
start_in begin before session text (Start s b short) h = h.0
start_in begin before session text (Finish s r) h = absurd h
start_in begin before session text (End s) h = absurd h
start_in begin before session text (Mover actor work) h = absurd h

pub start_of_does : (session : ℕ) (b : Bound) (short : Bool) (e : Entry) → IsStartEntry session b short e → Does session true e
start_of_does session b short (Start s bound why) h = record { actor = h.0; turn = refl; begun = λ before. refl; going = refl }
start_of_does session b short (Finish s r) h = absurd h
start_of_does session b short (End s) h = absurd h
start_of_does session b short (Mover actor work) h = absurd h

start_is : (begin : Begin) (log : List Entry) (session : ℕ) (text : List ℕ) (b : Bound) (short : Bool) (e : Entry) → IsStartEntry session b short e → IsBound begin.schema text b → IsStart begin log session text e
start_is begin log session text b short (Start s bound why) h means = (h.0, λ m l. subst (IsBound begin.schema text) (sym h.1) means)
start_is begin log session text b short (Finish s r) h means = absurd h
start_is begin log session text b short (End s) h means = absurd h
start_is begin log session text b short (Mover actor work) h means = absurd h

-- the Start of a statement that is bound to what its text means
pub begun_is : (begin : Begin) (log new : List Entry) (session : ℕ) (text : List ℕ) (b : Bound) (short : Bool) → (e : Entry) × (new ≡ log ++ e ∷ []) × IsStartEntry session b short e → IsBound begin.schema text b
    → (e : Entry) × (new ≡ log ++ e ∷ []) × IsStart begin log session text e
begun_is begin log new session text b short x means = (x.0, x.1, start_is begin log session text b short x.0 x.2 means)

pub finished_is : (log new : List Entry) (session : ℕ) → (r : Reply) × (new ≡ log ++ Finish session r ∷ []) → (e : Entry) × (new ≡ log ++ e ∷ []) × IsFinishOf session e
finished_is log new session x = (Finish session x.0, x.1, refl)
