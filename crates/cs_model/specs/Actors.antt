-- The entries of one actor, and what those of a session say of it.
use Rattle.std.specs.Prelude.{ℕ, ◌+◌, List, [], ◌∷◌, filter, fold, ◌==◌, Bool, true, false, ◌||◌, ◌&&◌}
use Rattle.cs_model.specs.declared.work.Actor.{Actor}
use Rattle.cs_model.specs.declared.work.Actor.TheVariants as actor
use Rattle.cs_model.specs.declared.entry.Entry.{Entry}
use Rattle.cs_model.specs.declared.entry.Entry.TheVariants.{Start, Finish, End, Mover}

-- the number of an actor: a session's own, and a mover's after those of 64 sessions
abbrev pub number_of : Actor → ℕ
number_of (actor.Session n) = n
number_of (actor.Mover n) = 64 + n

-- the number of the actor whose entry it is
abbrev pub actor_of : Entry → ℕ
actor_of (Start session bound short) = session
actor_of (Finish session reply) = session
actor_of (End session) = session
actor_of (Mover actor work) = number_of actor

-- the entries of an actor
abbrev pub entries_of : ℕ → List Entry → List Entry
entries_of actor log = filter (λ entry. actor_of entry == actor) log

-- a Start, a Finish or an End: what every session has, in turn
abbrev pub is_turn : Entry → Bool
is_turn (Start session bound short) = true
is_turn (Finish session reply) = true
is_turn (End session) = true
is_turn (Mover actor work) = false

-- the Starts, Finishes and End of a session
abbrev pub turns_of : ℕ → List Entry → List Entry
turns_of session log = filter (λ entry. is_turn entry && (actor_of entry == session)) log

-- whether a statement is half done after the entry of its session, where before says whether one was before it
abbrev pub begun_by : Bool → Entry → Bool
begun_by before (Start session bound short) = true
begun_by before (Finish session reply) = false
begun_by before (End session) = false
begun_by before (Mover actor work) = before

abbrev pub is_end : Entry → Bool
is_end (Start session bound short) = false
is_end (Finish session reply) = false
is_end (End session) = true
is_end (Mover actor work) = false

-- a statement is half done, by the entries of its session
abbrev pub is_begun : List Entry → Bool
is_begun entries = fold begun_by false entries

-- the session has ended
abbrev pub has_ended : List Entry → Bool
has_ended entries = fold (λ before entry. before || is_end entry) false entries

abbrev pub one_if : Bool → ℕ
one_if true = 1
one_if false = 0

abbrev pub one_unless : Bool → ℕ
one_unless true = 0
one_unless false = 1

-- the entries that a session still owes: the Finish of what it began, and its End
abbrev pub owed_by : List Entry → ℕ
owed_by entries = one_if (is_begun entries) + one_unless (has_ended entries)

-- the entries that these sessions still owe
abbrev pub owed : List Entry → List ℕ → ℕ
owed log [] = 0
owed log (session ∷ sessions) = owed_by (entries_of session log) + owed log sessions
