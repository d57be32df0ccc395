-- A run of a script with the sizes that were asked for gives the text, or the summary, of a log with these sizes.
use Rattle.std.proofs.Common.{◌≡◌, ℕ, List, length, refl, sym, subst, ap, inl, inr, ◌∙◌, IfOk}
use Rattle.std.specs.Prelude.{Result, Ok, Err}
use Rattle.cs_types.specs.declared.Schema.{Schema}
use Rattle.cs_model.specs.declared.entry.Entry.{Entry}
use Rattle.cs_model.specs.Changes.{table}
use Rattle.cs_model.specs.State.{State, Begin, begin_of}
use Rattle.cs_model.specs.Steps.{Legal}
use Rattle.cs_model.specs.Text.{text}
use Rattle.log_summary.specs.Summary.{summary}
use Rattle.group_book.specs.Commits.{Sizes}
use Rattle.script_reader.specs.declared.script.Script.{Script}
use Rattle.script_reader.specs.declared.script.Mode.TheVariants.{Replay}
use Rattle.script_reader.specs.Scripts.{IsScript}
use Rattle.group_log.specs.Followed.{Ground, ground_of}
use Rattle.script_runner.specs.Logs.{IsLogOf, Summed}
use Rattle.columnstore.specs.declared.status.Status.{Status}
use Rattle.columnstore.specs.declared.status.Status.TheVariants as status
use Rattle.columnstore.specs.declared.way.Way.{Way}
use Rattle.columnstore.specs.declared.way.Way.TheVariants.{ByLine, OnThreads}
use Rattle.columnstore.specs.Outcome.{mode_of, IsLogBy, IsAnswered, IsDoneOrStopped}

-- what was run with sizes that are the wanted ones was run with these
pub replayed : {E : Type 0} (IsRun : Sizes → List Entry → Type 0) (begin : Begin) (wanted had : Sizes) (log : List Entry) (result : Result (List ℕ) E) → had ≡ wanted → IfOk result (λ line. IsRun had log)
    → IfOk result (λ line. line ≡ text begin log) → IfOk result (λ line. (log : List Entry) × IsRun wanted log × (line ≡ text begin log))
replayed IsRun begin wanted had log (Ok line) same whole is = (log, subst (λ sizes. IsRun sizes log) same whole, is)
replayed IsRun begin wanted had log (Err e) same whole is = tt

-- the text of the log of a run of the script in this way, with the status that goes with it
abbrev IsToldBy : Way → Sizes → Script → Status × List ℕ → Type 0
IsToldBy way sizes script a = (log : List Entry) × IsLogBy way (ground_of script.schema sizes) script a.0 log × (a.1 ≡ text (begin_of script.schema) log)

-- what was run in a way with sizes and a table that are the wanted ones was run with these
pub told_by : {E : Type 0} (way : Way) (script : Script) (wanted had : Sizes) (schema : Schema) (s : Status) (log : List Entry) (result : Result (Status × List ℕ) E) → had ≡ wanted → schema ≡ script.schema
    → IsLogBy way (ground_of script.schema had) script s log → IfOk result (λ a. a.0 ≡ s) → IfOk result (λ a. a.1 ≡ text (begin_of schema) log) → IfOk result (IsToldBy way wanted script)
told_by way script wanted had schema s log (Ok a) same table run ends is = (
  log,
  subst (λ z. IsLogBy way (ground_of script.schema wanted) script z log) (sym ends) (subst (λ sizes. IsLogBy way (ground_of script.schema sizes) script s log) same run),
  is ∙ ap (λ (z : Schema). text (begin_of z) log) table,
)
told_by way script wanted had schema s log (Err e) same table run ends is = tt

-- what is told of a run is the answer to its script
module _ (sizes : Sizes) (bytes whole : List ℕ) (script : Script) (log : List Entry) where
  performed : (way : Way) (s : Status) → IsScript (mode_of way) bytes script → IsLogBy way (ground_of script.schema sizes) script s log → whole ≡ text (begin_of script.schema) log
      → IsAnswered way sizes bytes s whole
  performed ByLine s reads run is =
      subst (λ z. IsAnswered ByLine sizes bytes z whole) (sym run.0) (record { script = script; log = log; reads = reads; run = (refl, run.1); is = is })
  performed (OnThreads movers) s reads (inl run) is =
      subst (λ z. IsAnswered (OnThreads movers) sizes bytes z whole) (sym run.0) (record { script = script; log = log; reads = reads; run = inl (refl, run.1); is = is })
  performed (OnThreads movers) s reads (inr run) is =
      subst (λ z. IsAnswered (OnThreads movers) sizes bytes z whole) (sym run.0) (record { script = script; log = log; reads = reads; run = inr (refl, run.1); is = is })

pub answers : {E : Type 0} (way : Way) (sizes : Sizes) (bytes : List ℕ) (script : Script) (result : Result (Status × List ℕ) E) → IsScript (mode_of way) bytes script
    → IfOk result (IsToldBy way sizes script) → IfOk result (λ a. IsAnswered way sizes bytes a.0 a.1)
answers way sizes bytes script (Ok a) reads told = performed sizes bytes a.1 script told.0 way a.0 reads told.1 told.2
answers way sizes bytes script (Err e) reads told = tt

-- and it was done, or stopped
stops : (way : Way) (origin : Ground) (script : Script) (s : Status) (log : List Entry) → IsLogBy way origin script s log → IsDoneOrStopped s
stops ByLine origin script s log run = subst IsDoneOrStopped (sym run.0) tt
stops (OnThreads movers) origin script s log (inl run) = subst IsDoneOrStopped (sym run.0) tt
stops (OnThreads movers) origin script s log (inr run) = subst IsDoneOrStopped (sym run.0) tt

pub told_stops : {E : Type 0} (way : Way) (sizes : Sizes) (script : Script) (result : Result (Status × List ℕ) E) → IfOk result (IsToldBy way sizes script) → IfOk result (λ a. IsDoneOrStopped a.0)
told_stops way sizes script (Ok a) told = stops way (ground_of script.schema sizes) script a.0 told.0 told.1
told_stops way sizes script (Err e) told = tt

-- a run with sizes that are the wanted ones was summed up with the rows of the state that its log leads to
pub summed : {E : Type 0} (wanted had : Sizes) (bytes : List ℕ) (script : Script) (log : List Entry) (state : State) (rows : ℕ) (result : Result (List ℕ) E) → had ≡ wanted → IsScript Replay bytes script
    → IsLogOf (ground_of script.schema had) script log → Legal (begin_of script.schema) log state → rows ≡ length (table state.changes state.clock) → IfOk result (λ line. line ≡ summary log rows)
    → IfOk result (λ line. Summed wanted bytes line)
summed wanted had bytes script log state rows (Ok line) same reads run leads counted is = record {
  script = script;
  log = log;
  state = state;
  reads = reads;
  run = subst (λ sizes. IsLogOf (ground_of script.schema sizes) script log) same run;
  leads = leads;
  is = is ∙ ap (summary log) counted;
}
summed wanted had bytes script log state rows (Err e) same reads run leads counted is = tt
