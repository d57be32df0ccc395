-- What the program does: for which words and input it ends with which status, and what it has written then.
use Rattle.std.specs.Prelude.{◌≡◌, ◌≢◌, ◌⊎◌, ℕ, ◌<◌, ◌≤◌, List, [], ◌++◌, length, codes, decimal, Option, Some, ◌==◌, if◌then◌else◌, true, false}
use Rattle.cs_base.specs.Counts.{Rose}
use Rattle.cs_outside.specs.Outside.{IsAtEnd}
use Rattle.command_words.specs.declared.order.Order.{Order}
use Rattle.command_words.specs.declared.order.Order.TheVariants.{Replay, Run, Generate, Load}
use Rattle.command_words.specs.declared.order.RunOptions.{RunOptions}
use Rattle.command_words.specs.declared.order.Workload.{Workload}
use Rattle.command_words.specs.Options.{reads_input}
use Rattle.command_words.specs.Orders.{Words, IsOrder, mode_in}
use Rattle.script_workload.specs.Workload.{workload}
use Rattle.cs_model.specs.declared.entry.Entry.{Entry}
use Rattle.cs_model.specs.State.{begin_of}
use Rattle.cs_model.specs.Text.{text}
use Rattle.script_reader.specs.declared.script.Mode.{Mode}
use Rattle.script_reader.specs.declared.script.Mode.TheVariants as mode
use Rattle.script_reader.specs.declared.script.Script.{Script}
use Rattle.script_reader.specs.Scripts.{IsScript, IsBadLine}
use Rattle.group_book.specs.Commits.{Sizes}
use Rattle.group_log.specs.Followed.{Ground, ground_of}
use Rattle.script_runner.specs.Logs.{IsLogOf, Summed}
use Rattle.session_pool.specs.Runs.{IsRunOf, IsFrontRunOf}
use Rattle.columnstore.specs.declared.way.Way.{Way}
use Rattle.columnstore.specs.declared.way.Way.TheVariants.{ByLine, OnThreads}
use Rattle.columnstore.specs.declared.status.Status.{Status}
use Rattle.columnstore.specs.declared.status.Status.TheVariants as status

-- ---- orders

-- how large row groups are by the options of a run; the workers of its scans change nothing that is written
abbrev pub sizes_in : RunOptions → Sizes
sizes_in options = record { group_rows = options.group_rows; direct_rows = options.direct_rows }

-- the order to run the script of the input in this way, with these options
abbrev pub order_of : RunOptions → Way → Order
order_of options ByLine = Replay options
order_of options (OnThreads movers) = Run options movers

-- the order reads the input
abbrev pub ReadsInput : Order → Type 0
ReadsInput order = reads_input (mode_in order) ≡ true

-- the order reads nothing: the script is drawn
abbrev pub DrawsScript : Order → Type 0
DrawsScript order = reads_input (mode_in order) ≡ false

-- the script of a workload
abbrev pub drawn_script : Workload → List ℕ
drawn_script drawn = workload drawn.number drawn.sessions drawn.statements

-- ---- texts

-- the longest script, 16 MiB
abbrev pub limit : ℕ
limit = 16777216

-- the mode for which a script is read that is run in this way
abbrev pub mode_of : Way → Mode
mode_of ByLine = mode.Replay
mode_of (OnThreads movers) = mode.Run

-- the log of a run of the script in this way, with the status that goes with it: of a whole run, or, on threads, of one that stopped
-- for want of memory
abbrev pub IsLogBy : Way → Ground → Script → Status → List Entry → Type 0
IsLogBy ByLine origin script s log = (s ≡ status.Done) × IsLogOf origin script log
IsLogBy (OnThreads movers) origin script s log = ((s ≡ status.Done) × IsRunOf origin script movers log) ⊎ ((s ≡ status.Memory) × IsFrontRunOf origin script movers log)

-- the script was run in this way, with row groups so large, and this is the text of the log of its run, with the status that goes with it
pub record Performed (way : Way) (sizes : Sizes) (bytes : List ℕ) (s : Status) (whole : List ℕ) : Type 0 where
  pub script : Script
  pub log : List Entry
  pub reads : IsScript (mode_of way) bytes script
  pub run : IsLogBy way (ground_of script.schema sizes) script s log
  pub is : whole ≡ text (begin_of script.schema) log

-- ` error <number>`, for a refused setup statement
abbrev pub setup_error_text : ℕ → List ℕ
setup_error_text number = if number == 0 then [] else codes " error " ++ decimal number

abbrev pub bad_line_text : ℕ → ℕ → ℕ → List ℕ
bad_line_text line reason number = codes "refused line " ++ decimal line ++ codes " reason " ++ decimal reason ++ setup_error_text number ++ codes "\n"

-- the bytes are no script for this mode: they have a first bad line, and this is the refusal that names it
pub record HasBadLine (mode : Mode) (bytes whole : List ℕ) : Type 0 where
  pub none : (script : Script) → IsScript mode bytes script → ⊥
  pub line : ℕ
  pub reason : ℕ
  pub number : ℕ
  pub reads : IsBadLine mode bytes line reason number
  pub is : whole ≡ bad_line_text line reason number

-- the whole text that is to be written for an input that was read, with the status that goes with it: a script is run in this way, with
-- row groups so large
abbrev pub IsAnswered : Way → Sizes → List ℕ → Status → List ℕ → Type 0
IsAnswered way sizes bytes status.Done whole = Performed way sizes bytes status.Done whole
IsAnswered way sizes bytes status.Script whole = HasBadLine (mode_of way) bytes whole
IsAnswered way sizes bytes status.Usage whole = ⊥
IsAnswered way sizes bytes status.ReadFault whole = ⊥
IsAnswered way sizes bytes status.WriteFault whole = ⊥
IsAnswered way sizes bytes status.Memory whole = Performed way sizes bytes status.Memory whole

-- what a run of an input's script in this way writes, whole, with the status that goes with it: came are the bytes that were read, and
-- left those that are left then, where that is told
pub data AsksScript (way : Way) (sizes : Sizes) (came : List ℕ) (left : Option (List ℕ)) : Status → List ℕ → Type 0 where
  too_long : limit < length came → AsksScript way sizes came left status.Script (codes "refused too long\n")
  answered : {s : Status} {whole : List ℕ} → length came ≤ limit → IsAtEnd left → IsAnswered way sizes came s whole → AsksScript way sizes came left s whole

-- what an order asks to be written, whole, with the status that goes with it
abbrev pub Asks : Order → List ℕ → Option (List ℕ) → Status → List ℕ → Type 0
Asks (Replay options) came left s whole = AsksScript ByLine (sizes_in options) came left s whole
Asks (Run options movers) came left s whole = AsksScript (OnThreads movers) (sizes_in options) came left s whole
Asks (Generate drawn) came left s whole = (s ≡ status.Done) × (whole ≡ drawn_script drawn)
Asks (Load drawn options) came left s whole = (s ≡ status.Done) × Summed (sizes_in options) (drawn_script drawn) whole

-- ---- statuses

-- added is a prefix of whole
abbrev pub IsFront : List ℕ → List ℕ → Type 0
IsFront added whole = (rest : List ℕ) × (whole ≡ added ++ rest)

-- a text was added, or a prefix of it where a write failed: before and now count the writes that failed
abbrev pub IsAddedOf : ℕ → ℕ → List ℕ → List ℕ → Type 0
IsAddedOf before now added whole = (added ≡ whole) ⊎ (Rose before now × IsFront added whole)

-- what a status says of the bytes that were read for an order and of those that were added to the output, while the count of writes
-- that failed went from before to now. A write fault leaves a prefix of the text of a whole run, of a drawn script, of a summary or of
-- a refusal. Where memory gives out nothing was added; or a run on threads stopped for that, and the text of the log of what was done
-- until then was added, or a prefix of it where a write of it failed too
abbrev pub EndsFor : Order → List ℕ → Option (List ℕ) → List ℕ → ℕ → ℕ → Status → Type 0
EndsFor order came left added before now status.Done = Asks order came left status.Done added
EndsFor order came left added before now status.Usage = ⊥
EndsFor order came left added before now status.Script = Asks order came left status.Script added
EndsFor order came left added before now status.ReadFault = ReadsInput order × (added ≡ [])
EndsFor order came left added before now status.WriteFault = (s : Status) × (whole : List ℕ) × (s ≢ status.Memory) × Asks order came left s whole × IsFront added whole
EndsFor order came left added before now status.Memory = (added ≡ []) ⊎ ((whole : List ℕ) × Asks order came left status.Memory whole × IsAddedOf before now added whole)

-- the words were refused, and all of that or a prefix of it was added
abbrev pub RefusesWords : List ℕ → Status → Type 0
RefusesWords added s = ((s ≡ status.Usage) × (added ≡ codes "usage refused\n")) ⊎ ((s ≡ status.WriteFault) × IsFront added (codes "usage refused\n"))

-- how the program ends for these words: they are no order, and it read nothing; or they are an order, and it ends as that says, and
-- read nothing for one whose script is drawn
pub data EndsForWords (words : Words) (came : List ℕ) (left : Option (List ℕ)) (added : List ℕ) (before now : ℕ) (s : Status) : Type 0 where
  refused : ((order : Order) → IsOrder words order → ⊥) → came ≡ [] → RefusesWords added s → EndsForWords words came left added before now s
  served : (order : Order) → IsOrder words order → (DrawsScript order → came ≡ []) → EndsFor order came left added before now s → EndsForWords words came left added before now s

-- the run was done, or memory or a stream gave out
abbrev pub IsDoneOrStopped : Status → Type 0
IsDoneOrStopped status.Done = Unit {0}
IsDoneOrStopped status.Usage = ⊥
IsDoneOrStopped status.Script = ⊥
IsDoneOrStopped status.ReadFault = Unit {0}
IsDoneOrStopped status.WriteFault = Unit {0}
IsDoneOrStopped status.Memory = Unit {0}

-- all was written, or memory or the output gave out
abbrev pub IsWrittenOrStopped : Status → Type 0
IsWrittenOrStopped status.Done = Unit {0}
IsWrittenOrStopped status.Usage = ⊥
IsWrittenOrStopped status.Script = ⊥
IsWrittenOrStopped status.ReadFault = ⊥
IsWrittenOrStopped status.WriteFault = Unit {0}
IsWrittenOrStopped status.Memory = Unit {0}

-- for words that order to run a script which is the whole input, where that tells its bytes and they are at most 16 MiB, the run is
-- done, or memory or a stream gives out
abbrev pub AnswersScripts : Words → Option (List ℕ) → Status → Type 0
AnswersScripts words input s =
    (bytes : List ℕ) (options : RunOptions) (way : Way) (script : Script) → input ≡ Some bytes → IsOrder words (order_of options way) → length bytes ≤ limit → IsScript (mode_of way) bytes script → IsDoneOrStopped s

-- for words that order a draw, all is written, or memory or the output gives out
abbrev pub AnswersDraws : Words → Status → Type 0
AnswersDraws words s = (order : Order) → IsOrder words order → DrawsScript order → IsWrittenOrStopped s

-- the exit status
abbrev pub code_of : Status → ℕ
code_of status.Done = 0
code_of status.Usage = 1
code_of status.Script = 2
code_of status.ReadFault = 3
code_of status.WriteFault = 4
code_of status.Memory = 5
