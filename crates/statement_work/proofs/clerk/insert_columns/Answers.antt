use Rattle.std.proofs.Common.{◌≡◌, ◌∙◌, [], length, map, true, refl, sym, ap, subst}
use Rattle.cs_types.specs.declared.Schema.{Schema}
use Rattle.cs_model.specs.declared.entry.Bound.TheVariants.{Insert}
use Rattle.cs_model.specs.Answers.{inserted}
use Rattle.row_work.specs.Inserts.{write_of, IsLoadOf}
use Rattle.row_work.specs.Reads.{MayRead}
use Rattle.statement_core.specs.declared.started.Terms.{Terms}
use Rattle.statement_core.specs.Outcomes.{GivesOn}
use Rattle.statement_core.specs.Terms.{sizes_of}
use Rattle.tuple_mover.specs.Inserts.{AreRowsOf}
use Rattle.statement_work.specs.Clerks.{NeedsParcel}
use Rattle.statement_work.proofs.Taken.{may_read_it}
use Rattle.statement_work.proofs.Working.{load_needs, load_rows, untold}
use Rattle.statement_work.proofs.clerk.insert_columns.Goals as goal

pub loaded-requires : goal.loaded-requires
loaded-requires c =
    let b = c.requires.begun in
    let same = c.deref.ensures ∙ ap (λ (t : Terms). t.schema.value) c.deref-terms.ensures in
    subst (λ (s : Schema). MayRead s c.pinned_of.result.now) (sym same) (may_read_it b.0 c.args.started.now (Insert c.args.plan.now) b.1 refl c.pinned_of.result.now c.pinned_of.ensures)

pub packed-requires-clause-rows : goal.packed-requires-clause-rows
packed-requires-clause-rows c =
    let b = c.requires.begun in
    let plan = c.args.plan.now in
    let pinned = c.pinned_of.result.now in
    let rows = c.in-Ok-Some.rows in
    let same = c.deref.ensures ∙ ap (λ (t : Terms). t.schema.value) c.deref-terms.ensures in
    let are = subst (λ (s : Schema). IsLoadOf s pinned (inserted s plan) rows) same (rw c.in-Ok-Some.field-0-is at c.in-Ok-Some.ensures) in
    subst (λ (t : Terms). (written : _) × AreRowsOf t.schema.value rows.keys.items rows.columns.items written) (sym c.deref-terms.ensures) (are.rows, load_rows b.0 c.args.started.now plan b.1 pinned c.pinned_of.ensures rows are)

pub returns-in-Ok-Some-clause-gives : goal.returns-in-Ok-Some-clause-gives
returns-in-Ok-Some-clause-gives c = λ begun is.
    let plan = c.args.plan.now in
    let pinned = c.pinned_of.result.now in
    let rows = c.in-Ok-Some.rows in
    let same = c.deref.ensures ∙ ap (λ (t : Terms). t.schema.value) c.deref-terms.ensures in
    let are = subst (λ (s : Schema). IsLoadOf s pinned (inserted s plan) rows) same (rw c.in-Ok-Some.field-0-is at c.in-Ok-Some.ensures) in
    let gives =
    subst (λ (t : Terms). begun.implicit ≡ true → begun.schema ≡ t.schema.value → AreRowsOf t.schema.value rows.keys.items rows.columns.items are.rows
    → NeedsParcel (sizes_of t) begun (map (write_of t.schema.value) are.rows) [] (length are.rows) → GivesOn (sizes_of t) begun c.packed.result) c.deref-terms.ensures (c.packed.ensures.gives begun are.rows) in
    gives (sym is.hands.implicit ∙ c.if-not-started.false) (sym is.hands.schema) (load_rows begun c.args.started.now plan is pinned c.pinned_of.ensures rows are)
    (load_needs begun c.args.started.now plan is pinned c.pinned_of.ensures rows are (sizes_of c.args.started.now.terms.value))

pub returns-in-Ok-Some-clause-counted : goal.returns-in-Ok-Some-clause-counted
returns-in-Ok-Some-clause-counted c = untold c.args.started.now c.packed.result c.packed.ensures.untold
