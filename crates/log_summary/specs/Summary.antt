-- The summary of a log: how many events of each kind it has, and how many rows the table has after them.
use Rattle.std.specs.Prelude.{ℕ, List, [], ◌++◌, length, codes, decimal, count_by, Bool, true, false, not, ◌==◌, if◌then◌else◌}
use Rattle.cs_model.specs.declared.entry.Entry.{Entry}
use Rattle.cs_model.specs.declared.entry.Entry.TheVariants.{Finish, Mover}
use Rattle.cs_model.specs.declared.entry.Refusal.{Refusal}
use Rattle.cs_model.specs.declared.entry.Refusal.TheVariants as refusal
use Rattle.cs_model.specs.declared.entry.Reply.{Reply}
use Rattle.cs_model.specs.declared.entry.Reply.TheVariants.{Refused}
use Rattle.cs_model.specs.Actors.{is_end}
use Rattle.cs_model.specs.Works.{lacks_memory}

-- ---- kinds of events

abbrev pub is_refusal : Reply → Bool
is_refusal (Refused why) = true
is_refusal _ = false

-- a Finish whose reply is no refusal
abbrev pub is_ok : Entry → Bool
is_ok (Finish session reply) = not (is_refusal reply)
is_ok _ = false

-- a Finish whose reply is a refusal, of any kind
abbrev pub is_refused : Entry → Bool
is_refused (Finish session reply) = is_refusal reply
is_refused _ = false

-- error 701
abbrev pub is_memory : Refusal → Bool
is_memory refusal.Memory = true
is_memory _ = false

abbrev pub replies_memory : Reply → Bool
replies_memory (Refused why) = is_memory why
replies_memory _ = false

-- an event that stands there because memory was missing: a Finish with error 701, the entry `memory`, or a release
abbrev pub is_short_event : Entry → Bool
is_short_event (Finish session reply) = replies_memory reply
is_short_event (Mover actor work) = lacks_memory work
is_short_event _ = false

-- ---- lines, each with byte 10 at its end

-- `<name> <count>`
abbrev pub count_line : List ℕ → ℕ → List ℕ
count_line name count = name ++ codes " " ++ decimal count ++ codes "\n"

-- the last line stands only where memory was missing
abbrev pub short_line : ℕ → List ℕ
short_line count = if count == 0 then [] else count_line (codes "short") count

-- the summary of a log after which the table has so many rows
abbrev pub summary : List Entry → ℕ → List ℕ
summary log rows =
    count_line (codes "events") (length log) ++ count_line (codes "ok") (count_by is_ok log) ++ count_line (codes "refused") (count_by is_refused log)
    ++ count_line (codes "ends") (count_by is_end log) ++ count_line (codes "rows") rows ++ short_line (count_by is_short_event log)
