-- The rows that are chosen of a group are those that the filter keeps of the shown ones.
use Rattle.std.proofs.Common.{◌≡◌, ℕ, ◌<◌, ◌++◌, List, Bool, true, false, ◌&&◌, length, filter, refl, sym, ◌∙◌, ap, subst, arith}
use Rattle.std.specs.Prelude.{Result, Ok, Err, IfOk}
use Rattle.std.specs.List.{range_with_len}
use Rattle.cs_types.specs.declared.Schema.{Schema}
use Rattle.cs_types.specs.declared.Value.{Value}
use Rattle.cs_model.specs.declared.plan.Query.{Query}
use Rattle.cs_model.specs.Queries.{keeps}
use Rattle.row_group.specs.Groups.{Group}
use Rattle.batch_aggregate.specs.declared.partial.Partial.{Partial}
use Rattle.batch_aggregate.specs.Standing.{StandsFor}
use Rattle.code_tallies.specs.declared.chosen.Chosen.{Chosen}
use Rattle.code_tallies.specs.Shown.{cells_at, rows_at}
use Rattle.code_tallies.specs.Tables.{is_chosen}
use Rattle.code_tallies.specs.Scans.{AreKept, IsChoice}
use Rattle.code_tallies.proofs.Adding.{both_true, stands-shown}

module _ (group : Group) (old new : Partial) (places : List ℕ) (shown verdict : ℕ → Bool) (chosen : Chosen) (is : IsChoice group places (λ i. shown i && verdict i) chosen)
    (verdicts : (i : ℕ) → i < length group.rows → shown i ≡ true → verdict i ≡ keeps old.schema.now old.query.now.filter (cells_at group i)) where
  pub choice-kept : AreKept group old.schema.now old.query.now chosen
  choice-kept i within passes =
      let both = both_true (shown i) (verdict i) (sym (is.passed i within) ∙ passes) in
      sym (verdicts i (omega (arith, within, is.long)) both.0) ∙ both.1

  -- where it is shown, the verdict on a row is what the filter says of it
  judged : (i : ℕ) → i < length group.rows → (t : Bool) → shown i ≡ t → (t && verdict i) ≡ (t && keeps old.schema.now old.query.now.filter (cells_at group i))
  judged i within true is_shown = verdicts i within is_shown
  judged i within false is_shown = refl

  pub choice-shown : new.schema.now ≡ old.schema.now → new.query.now ≡ old.query.now → (rows : List (List Value)) →
      StandsFor new (rows ++ rows_at group (filter (is_chosen chosen) (range_with_len 0 chosen.length))) → StandsFor new (rows ++ rows_at group (filter shown (range_with_len 0 (length group.rows))))
  choice-shown schema query rows stands =
      subst (λ n. StandsFor new (rows ++ rows_at group (filter shown (range_with_len 0 n)))) is.long
      (stands-shown group new rows shown (is_chosen chosen) chosen.length
      (λ i within.
      is.passed i within
      ∙ judged i (omega (arith, within, is.long)) (shown i) refl
      ∙ ap (λ b. shown i && b)
      (ap (λ (s : Schema). keeps s old.query.now.filter (cells_at group i)) (sym schema)
      ∙ ap (λ (q : Query). keeps new.schema.now q.filter (cells_at group i)) (sym query)))
      stands)

-- what follows of an answer follows of what is answered
pub ok-mapped : {E : Type 0} (P Q : Bool → Type 0) (r : Result Bool E) → ((b : Bool) → P b → Q b) → IfOk r P → IfOk r Q
ok-mapped P Q (Ok b) follows holds = follows b holds
ok-mapped P Q (Err e) follows holds = tt
