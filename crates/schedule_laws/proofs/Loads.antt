-- The load of a workload writes one text where memory is not wanting.
use Rattle.std.proofs.Common.{◌≡◌, ℕ, ◌≤◌, List, length, sym, ap, subst, ◌∙◌}
use Rattle.cs_model.specs.declared.entry.Entry.{Entry}
use Rattle.cs_model.specs.Changes.{table}
use Rattle.cs_model.specs.State.{State, begin_of}
use Rattle.cs_model.specs.Steps.{Legal}
use Rattle.log_summary.specs.Summary.{summary}
use Rattle.group_book.specs.Commits.{Sizes}
use Rattle.group_log.specs.Followed.{ground_of}
use Rattle.group_log.proofs.Since.{new_ground}
use Rattle.script_workload.specs.Workload.{workload}
use Rattle.script_reader.specs.declared.script.Mode.TheVariants as mode
use Rattle.script_reader.specs.declared.script.Script.{Script}
use Rattle.script_runner.specs.Logs.{Summed}
use Rattle.workload_laws.specs.Scripts.{workload_script}
use Rattle.workload_laws.proofs.Workloads.{is_script}
use Rattle.schedule_laws.specs.Agreeing.{HasFiveLines, IsAmpleLogOf}
use Rattle.schedule_laws.proofs.Law.{logs_agree, one_end, one_summary}
use Rattle.schedule_laws.proofs.Lines.{none_short}
use Rattle.schedule_laws.proofs.Scripts.{script_one}

module _ (sizes : Sizes) (rows : 1 ≤ sizes.group_rows) (direct : 1 ≤ sizes.direct_rows) where
  -- two runs of one script
  one_text : (script : Script) (log other : List Entry) (m n : State) → IsAmpleLogOf (ground_of script.schema sizes) script log
      → IsAmpleLogOf (ground_of script.schema sizes) script other → Legal (begin_of script.schema) log m → Legal (begin_of script.schema) other n
      → summary log (length (table m.changes m.clock)) ≡ summary other (length (table n.changes n.clock))
  one_text script log other m n x y l k =
      let ground = new_ground script.schema sizes rows direct in
      let agree = logs_agree (ground_of script.schema sizes) script ground log other x y in
      let end = one_end (ground_of script.schema sizes) script ground log other m n x y l k in
      one_summary log other (length (table m.changes m.clock)) agree ∙ ap (λ (z : State). summary other (length (table z.changes z.clock))) end

  -- a summary of five lines is one of a log in which memory was not wanting
  ample_log : (bytes whole : List ℕ) (x : Summed sizes bytes whole) → HasFiveLines whole → IsAmpleLogOf (ground_of (x.script).schema sizes) x.script x.log
  ample_log bytes whole x five = record {
    run = x.run;
    ample = none_short x.log (length (table (x.state).changes (x.state).clock)) (subst HasFiveLines x.is five);
  }

  pub one_load : (number sessions statements : ℕ) (whole other : List ℕ) → 1 ≤ sessions → sessions ≤ 64 → Summed sizes (workload number sessions statements) whole → HasFiveLines whole
      → Summed sizes (workload number sessions statements) other → HasFiveLines other → whole ≡ other
  one_load number sessions statements whole other low high x five y lines =
      let bytes : List ℕ = workload number sessions statements in
      let drawn : Script = workload_script number sessions statements in
      let is = is_script number sessions low high statements in
      let first : x.script ≡ drawn = script_one mode.Replay bytes x.script drawn x.reads is in
      let second : y.script ≡ drawn = script_one mode.Replay bytes y.script drawn y.reads is in
      x.is
      ∙ one_text drawn x.log y.log x.state y.state
      (subst (λ (z : Script). IsAmpleLogOf (ground_of z.schema sizes) z x.log) first (ample_log bytes whole x five)) (subst (λ (z : Script). IsAmpleLogOf (ground_of z.schema sizes) z y.log) second (ample_log bytes other y lines))
      (subst (λ (z : Script). Legal (begin_of z.schema) x.log x.state) first x.leads) (subst (λ (z : Script). Legal (begin_of z.schema) y.log y.state) second y.leads)
      ∙ sym y.is
