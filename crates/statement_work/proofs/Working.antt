-- What the work on a started statement gives.
use Rattle.std.proofs.Common.{◌≡◌, ◌∙◌, ℕ, List, [], length, map, true, false, refl, sym, ap, subst}
use Rattle.std.specs.Prelude.{Option, None, Some, Result, Ok, Err, IfSome}
use Rattle.std.specs.List.{All}
use Rattle.std.specs.Map.{values_of}
use Rattle.cs_types.specs.declared.Loose.{Loose}
use Rattle.cs_types.specs.declared.Key.{Key}
use Rattle.cs_types.specs.declared.Schema.{Schema}
use Rattle.cs_types.specs.Schemas.{IsSchema}
use Rattle.cs_model.specs.declared.entry.Bound.{Bound}
use Rattle.cs_model.specs.declared.entry.Bound.TheVariants.{Commit, Insert, Update, Delete, Select}
use Rattle.cs_model.specs.declared.entry.Refusal.TheVariants.{Valued}
use Rattle.cs_model.specs.declared.entry.Reply.{Reply}
use Rattle.cs_model.specs.declared.entry.Reply.TheVariants.{Rows, Refused}
use Rattle.cs_model.specs.declared.plan.InsertPlan.{InsertPlan}
use Rattle.cs_model.specs.declared.plan.Query.{Query}
use Rattle.cs_model.specs.declared.plan.UpdatePlan.{UpdatePlan}
use Rattle.cs_model.specs.declared.pred.Pred.{Pred}
use Rattle.cs_model.specs.Answers as spec
use Rattle.cs_model.specs.Answers.{edits_by, inserted, updated, deleted, writes}
use Rattle.cs_model.specs.Changes.{Edit, Table}
use Rattle.cs_model.specs.Held.{IsFit}
use Rattle.cs_model.specs.Kinds.{is_insert, is_write}
use Rattle.cs_model.specs.Queries.{answer}
use Rattle.cs_model.specs.Ready.{IsReady}
use Rattle.cs_model.specs.Steps.{IsAnswer}
use Rattle.cs_model.specs.Text.{IsPrintableReply, IsPrintableRow}
use Rattle.write_set.specs.declared.write.Write.{Write}
use Rattle.write_set.specs.Writes.{Ascend}
use Rattle.edit_laws.specs.Edits.{edits_of}
use Rattle.log_laws.specs.Started.{Begun, seen_by}
use Rattle.group_book.specs.Commits.{Sizes}
use Rattle.group_view.specs.declared.claim.Parcel.{Parcel}
use Rattle.group_view.specs.declared.view.Pinned.{Pinned}
use Rattle.group_view.specs.Parcels.{IsParcelFor}
use Rattle.row_work.specs.declared.load.LoadedColumns.{LoadedColumns}
use Rattle.row_work.specs.Inserts.{write_of, AreInserted, IsLoadOf}
use Rattle.row_work.specs.Keyed.{Replaces}
use Rattle.row_work.specs.Reads.{read_by}
use Rattle.row_work.proofs.Fits.{delete_fits, insert_fits, update_fits, Fits}
use Rattle.statement_core.specs.declared.started.Outcome.{Outcome}
use Rattle.statement_core.specs.declared.started.Outcome.TheVariants as outcome
use Rattle.statement_core.specs.declared.started.Started.{Started}
use Rattle.statement_core.specs.Begun.{Pins}
use Rattle.statement_core.specs.Counted.{outcome_counts, condition_of, ArePinnedCounts, AreCountsOf}
use Rattle.statement_core.specs.Outcomes.{GivesOn, IsDecided}
use Rattle.tuple_mover.specs.Inserts.{AreRowsOf, FitsIn}
use Rattle.statement_work.specs.Clerks.{IsBegun, NeedsParcel}
use Rattle.statement_work.proofs.Given.{among_fit}
use Rattle.statement_work.proofs.Outcomes.{changes_give, insert_gives}
use Rattle.statement_work.proofs.Parcelled.{fits_in, rows_in}
use Rattle.statement_work.proofs.Seen.{read_is, seen_fits}
use Rattle.statement_work.proofs.Taken.{pins_of}

-- the table that a started statement is of
abbrev schema_in : Started → Schema
schema_in started = started.terms.value.schema.value

abbrev width_in : Started → ℕ
width_in started = let schema = schema_in started in length schema.columns

-- an outcome without counts of segments tells none
pub untold : (started : Started) (result : Outcome) → outcome_counts result ≡ None → AreCountsOf started result
untold started result none = subst (λ o. IfSome o (ArePinnedCounts (schema_in started) (condition_of started.bound.value) started.pinned)) (sym none) tt

module _ (begun : Begun) (started : Started) where
  pub is_schema : (statement : Bound) → IsBegun begun started statement → IsSchema (schema_in started)
  is_schema statement is = subst IsSchema (sym is.hands.schema) is.work.schema

  -- what it writes over what is pinned is what the definitions have
  module _ (statement : Bound) (is : IsBegun begun started statement) where
    written_as : (table : Table) → table ≡ seen_by begun → writes begun.schema (seen_by begun) begun.bound ≡ writes (schema_in started) table statement
    written_as table same = ap (writes begun.schema (seen_by begun)) is.bound ∙ ap (λ s. writes s (seen_by begun) statement) (sym is.hands.schema) ∙ ap (λ t. writes (schema_in started) t statement) (sym same)

    read_as : (pinned : Pinned) → Pins begun pinned → read_by (width_in started) pinned ≡ seen_by begun
    read_as pinned pins = ap (λ (s : Schema). read_by (length s.columns) pinned) is.hands.schema ∙ read_is begun pinned pins is.work

  -- ---- an INSERT

  module _ (plan : InsertPlan) (is : IsBegun begun started (Insert plan)) where
    pub insert_write : is_write begun.bound ≡ true
    insert_write = ap is_write is.bound

    pub insert_defined : writes begun.schema (seen_by begun) begun.bound ≡ edits_by (schema_in started) (inserted (schema_in started) plan)
    insert_defined = written_as (Insert plan) is (seen_by begun) refl

    insert_whole : (edits : List Edit) → edits_by (schema_in started) (inserted (schema_in started) plan) ≡ Ok edits → All (Fits (schema_in started)) edits
    insert_whole edits given = insert_fits (schema_in started) (is_schema (Insert plan) is) plan edits given

    module _ (pinned : Pinned) (there : started.pinned ≡ Some pinned) (edits : List Edit) (given : edits_by (schema_in started) (inserted (schema_in started) plan) ≡ Ok edits)
        (list : List Write) (present : List Key) (affected : ℕ) (are : AreInserted (width_in started) pinned edits list present affected) where
      pub insert_parcel : All (FitsIn (schema_in started)) (edits_of list)
      insert_parcel = among_fit (schema_in started) edits list (insert_whole edits given) are.keyed.each

      pub insert_needs : (sizes : Sizes) → NeedsParcel sizes begun list present affected
      insert_needs sizes = record {
        long = is.long;
        write = insert_write;
        gives = insert_gives sizes begun pinned (pins_of begun started (Insert plan) is refl pinned there) is.work edits list present affected (ap is_insert is.bound) (insert_defined ∙ given)
            (subst (λ s. All (Fits s) edits) is.hands.schema (insert_whole edits given)) (subst (λ (s : Schema). AreInserted (length s.columns) pinned edits list present affected) is.hands.schema are);
      }

    -- by columns

    module _ (pinned : Pinned) (there : started.pinned ≡ Some pinned) (loaded : LoadedColumns) (are : IsLoadOf (schema_in started) pinned (inserted (schema_in started) plan) loaded) where
      load_defined : edits_by (schema_in started) (inserted (schema_in started) plan) ≡ Ok (spec.edits_of (schema_in started) are.rows)
      load_defined = ap (edits_by (schema_in started)) are.written

      pub load_rows : AreRowsOf (schema_in started) loaded.keys.items loaded.columns.items are.rows
      load_rows = record {
        fit = rows_in (schema_in started) are.rows (λ i d at. (insert_whole (spec.edits_of (schema_in started) are.rows) load_defined i d at).0);
        held = are.columns;
        keyed = are.keys;
      }

      pub load_needs : (sizes : Sizes) → NeedsParcel sizes begun (map (write_of (schema_in started)) are.rows) [] (length are.rows)
      load_needs = insert_needs pinned there (spec.edits_of (schema_in started) are.rows) load_defined (map (write_of (schema_in started)) are.rows) [] (length are.rows) are.inserted

  -- ---- an UPDATE or a DELETE

  module _ (statement : Bound) (is : IsBegun begun started statement) (pinned : Pinned) (pins : Pins begun pinned) (list : List Write) where
    change_needs : is_write statement ≡ true → is_insert statement ≡ false → writes (schema_in started) (read_by (width_in started) pinned) statement ≡ Ok (edits_of list) → All (Fits begun.schema) (edits_of list) → Ascend list
        → All (Replaces (width_in started) pinned) list → (sizes : Sizes) → NeedsParcel sizes begun list [] (length list)
    change_needs write other given fits order replaces sizes = record {
      long = is.long;
      write = ap is_write is.bound ∙ write;
      gives = changes_give sizes begun pinned pins is.work list [] (length list) (ap is_insert is.bound ∙ other) (written_as statement is (read_by (width_in started) pinned) (read_as statement is pinned pins) ∙ given) fits order
          (subst (λ (s : Schema). All (Replaces (length s.columns) pinned) list) is.hands.schema replaces) refl refl;
    }

    parcel_fits : All (Fits begun.schema) (edits_of list) → All (FitsIn (schema_in started)) (edits_of list)
    parcel_fits fits = fits_in (schema_in started) (edits_of list) (subst (λ s. All (IsFit s) (edits_of list)) (sym is.hands.schema) (λ i d at. (fits i d at).0))

  module _ (plan : UpdatePlan) (is : IsBegun begun started (Update plan)) (pinned : Pinned) (there : started.pinned ≡ Some pinned) where
    update_pins : Pins begun pinned
    update_pins = pins_of begun started (Update plan) is refl pinned there

    pub update_defined : writes begun.schema (seen_by begun) begun.bound ≡ updated (schema_in started) plan (read_by (width_in started) pinned)
    update_defined = written_as (Update plan) is (read_by (width_in started) pinned) (read_as (Update plan) is pinned update_pins)

    module _ (list : List Write) (given : updated (schema_in started) plan (read_by (width_in started) pinned) ≡ Ok (edits_of list)) where
      update_whole : All (Fits begun.schema) (edits_of list)
      update_whole =
          update_fits begun.schema is.work.schema plan (seen_by begun) (edits_of list) (subst (IsReady begun.schema) is.bound is.work.ready) (seen_fits begun pinned update_pins is.work)
          (sym (ap (writes begun.schema (seen_by begun)) is.bound) ∙ update_defined ∙ given)

      pub update_parcel : All (FitsIn (schema_in started)) (edits_of list)
      update_parcel = parcel_fits (Update plan) is pinned update_pins list update_whole

      pub update_needs : Ascend list → All (Replaces (width_in started) pinned) list → (sizes : Sizes) → NeedsParcel sizes begun list [] (length list)
      update_needs = change_needs (Update plan) is pinned update_pins list refl refl given update_whole

  module _ (condition : Option Pred) (is : IsBegun begun started (Delete condition)) (pinned : Pinned) (there : started.pinned ≡ Some pinned) (list : List Write)
      (given : edits_of list ≡ deleted (schema_in started) condition (read_by (width_in started) pinned)) where
    delete_pins : Pins begun pinned
    delete_pins = pins_of begun started (Delete condition) is refl pinned there

    delete_is : edits_of list ≡ deleted begun.schema condition (seen_by begun)
    delete_is = given ∙ ap (λ s. deleted s condition (read_by (width_in started) pinned)) is.hands.schema ∙ ap (deleted begun.schema condition) (read_as (Delete condition) is pinned delete_pins)

    delete_whole : All (Fits begun.schema) (edits_of list)
    delete_whole = subst (All (Fits begun.schema)) (sym delete_is) (delete_fits begun.schema is.work.schema condition (seen_by begun) (seen_fits begun pinned delete_pins is.work))

    pub delete_parcel : All (FitsIn (schema_in started)) (edits_of list)
    delete_parcel = parcel_fits (Delete condition) is pinned delete_pins list delete_whole

    pub delete_needs : Ascend list → All (Replaces (width_in started) pinned) list → (sizes : Sizes) → NeedsParcel sizes begun list [] (length list)
    delete_needs = change_needs (Delete condition) is pinned delete_pins list refl refl (ap (λ edits. Ok edits) (sym given)) delete_whole

  -- ---- a SELECT

  module _ (query : Query) (is : IsBegun begun started (Select query)) (pinned : Pinned) (there : started.pinned ≡ Some pinned) (sizes : Sizes) where
    answer_is : answer (schema_in started) query (values_of (read_by (width_in started) pinned)) ≡ answer begun.schema query (values_of (seen_by begun))
    answer_is =
        ap (λ s. answer s query (values_of (read_by (width_in started) pinned))) is.hands.schema
        ∙ ap (λ (t : Table). answer begun.schema query (values_of t)) (read_as (Select query) is pinned (pins_of begun started (Select query) is refl pinned there))

    decided : (r : Reply) → IsAnswer true (answer (schema_in started) query (values_of (read_by (width_in started) pinned))) r → IsPrintableReply begun.schema r → GivesOn sizes begun (outcome.Answer r)
    decided r answered printable =
        (is.long, subst (λ b. IsDecided begun.schema b (seen_by begun) r) (sym is.bound) (subst (λ a. IsAnswer true a r) answer_is answered), printable)

    pub rows_decided : (found : List (List Loose)) (counts : ℕ × ℕ) → answer (schema_in started) query (values_of (read_by (width_in started) pinned)) ≡ Ok found → All IsPrintableRow found → GivesOn sizes begun (outcome.Answer (Rows found (Some counts)))
    rows_decided found counts given printable = decided (Rows found (Some counts)) (subst (λ a. IsAnswer true a (Rows found (Some counts))) (sym given) (refl, refl)) printable

    pub overflow_decided : (row column : ℕ) → answer (schema_in started) query (values_of (read_by (width_in started) pinned)) ≡ Err (row, column) → GivesOn sizes begun (outcome.Answer (Refused (Valued 8115 row column)))
    overflow_decided row column given = decided (Refused (Valued 8115 row column)) (subst (λ a. IsAnswer true a (Refused (Valued 8115 row column))) (sym given) refl) tt

  -- ---- a COMMIT

  module _ (is : IsBegun begun started Commit) where
    pub commit_fits : All (FitsIn (schema_in started)) (edits_of started.own)
    commit_fits = fits_in (schema_in started) (edits_of started.own) (subst (λ s. All (IsFit s) (edits_of started.own)) (sym is.hands.schema) (subst (All (IsFit begun.schema)) (sym is.hands.own) is.work.own_fit))

    pub commit_given : (sizes : Sizes) (parcel : Parcel) → IsParcelFor (schema_in started) sizes (edits_of started.own) parcel → GivesOn sizes begun (outcome.Commit parcel)
    commit_given sizes parcel given = (is.bound, subst (λ own. IsParcelFor begun.schema sizes own parcel) is.hands.own (subst (λ s. IsParcelFor s sizes (edits_of started.own) parcel) is.hands.schema given))
