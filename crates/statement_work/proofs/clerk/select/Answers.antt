use Rattle.std.proofs.Common.{◌≡◌, ◌∙◌, ℕ, length, refl, sym, ap, subst, Option, Ok, Err}
use Rattle.std.specs.Map.{values_of}
use Rattle.cs_types.specs.declared.Schema.{Schema}
use Rattle.cs_model.specs.declared.entry.Bound.TheVariants.{Select}
use Rattle.cs_model.specs.declared.entry.Refusal.TheVariants.{Valued}
use Rattle.cs_model.specs.declared.entry.Reply.TheVariants.{Refused}
use Rattle.cs_model.specs.Queries.{answer, Gives}
use Rattle.group_view.specs.declared.view.Pinned.{Pinned}
use Rattle.group_view.specs.Scanned.{counts_in}
use Rattle.row_work.specs.Reads.{read_by, MayRead}
use Rattle.statement_core.specs.declared.started.Outcome.TheVariants as outcome
use Rattle.statement_core.specs.declared.started.Terms.{Terms}
use Rattle.statement_core.specs.Counted.{outcome_counts, condition_of, ArePinnedCounts}
use Rattle.statement_core.specs.Outcomes.{GivesOn}
use Rattle.statement_core.specs.Terms.{sizes_of}
use Rattle.statement_work.proofs.Taken.{may_read_it}
use Rattle.statement_work.proofs.Working.{overflow_decided, rows_decided, untold}
use Rattle.statement_work.proofs.clerk.select.Goals as goal

pub answer-requires-clause-may : goal.answer-requires-clause-may
answer-requires-clause-may g c κs within =
    let b = c.requires.begun in
    let same = c.deref-schema.ensures ∙ ap (λ (t : Terms). t.schema.value) c.deref.ensures in
    subst (λ (s : Schema). MayRead s c.pinned_of-pinned.result.now) (sym same) (may_read_it b.0 c.args.started.now (Select c.args.query.now) b.1 refl c.pinned_of-pinned.result.now c.pinned_of-pinned.ensures)

pub returns-in-Ok-clause-gives : goal.returns-in-Ok-clause-gives
returns-in-Ok-clause-gives g c = λ begun is.
    let query = c.args.query.now in
    let pinned = c.pinned_of-pinned.result.now in
    let same = c.deref-schema.ensures ∙ ap (λ (t : Terms). t.schema.value) c.deref.ensures in
    let found = c.in-Ok.found in
    let given = subst (λ (s : Schema). answer s query (values_of (read_by (length s.columns) pinned)) ≡ Ok found.rows) same c.in-Ok.ensures.gives.0 in
    rows_decided begun c.args.started.now query is pinned c.pinned_of-pinned.ensures (sizes_of c.args.started.now.terms.value) found.rows (found.read, found.skipped) given c.in-Ok.ensures.printable

-- the counts are those over what is pinned
pub returns-in-Ok-clause-counted : goal.returns-in-Ok-clause-counted
returns-in-Ok-clause-counted g c =
    let started = c.args.started.now in
    let query = c.args.query.now in
    let pinned = c.pinned_of-pinned.result.now in
    let found = c.in-Ok.found in
    let counts : ℕ × ℕ = (found.read, found.skipped) in
    let b = c.requires.begun in
    let is = b.1.hands.bound ∙ b.1.bound in
    let same = c.deref-schema.ensures ∙ ap (λ (t : Terms). t.schema.value) c.deref.ensures in
    let schema = started.terms.value.schema.value in
    let here : counts ≡ counts_in schema pinned.view query.filter = subst (λ (s : Schema). counts ≡ counts_in s pinned.view query.filter) same c.in-Ok.ensures.gives.1 in
    subst (λ (o : Option Pinned). ArePinnedCounts schema (condition_of started.bound.value) o counts) (sym c.pinned_of-pinned.ensures)
    (subst (λ b. counts ≡ counts_in schema pinned.view (condition_of b)) (sym is) here)

pub returns-in-Err-Overflow-clause-gives : goal.returns-in-Err-Overflow-clause-gives
returns-in-Err-Overflow-clause-gives g c = λ begun is.
    let query = c.args.query.now in
    let pinned = c.pinned_of-pinned.result.now in
    let same = c.deref-schema.ensures ∙ ap (λ (t : Terms). t.schema.value) c.deref.ensures in
    let schema = c.deref-schema.result.now in
    let here = subst (λ e. Gives (Err e) (answer schema query (values_of (read_by (length schema.columns) pinned)))) c.in-Err-Overflow.field-0-is c.in-Err-Overflow.ensures.gives in
    let given = subst (λ (s : Schema). answer s query (values_of (read_by (length s.columns) pinned)) ≡ Err (c.in-Err-Overflow.row, c.in-Err-Overflow.column)) same here in
    let reply : c.valued.result ≡ outcome.Answer (Refused (Valued 8115 c.in-Err-Overflow.row c.in-Err-Overflow.column)) = c.valued.ensures in
    subst (GivesOn (sizes_of c.args.started.now.terms.value) begun) (sym reply)
    (overflow_decided begun c.args.started.now query is pinned c.pinned_of-pinned.ensures (sizes_of c.args.started.now.terms.value) c.in-Err-Overflow.row c.in-Err-Overflow.column given)

pub returns-in-Err-Overflow-clause-counted : goal.returns-in-Err-Overflow-clause-counted
returns-in-Err-Overflow-clause-counted g c = untold c.args.started.now c.valued.result (ap outcome_counts c.valued.ensures)
