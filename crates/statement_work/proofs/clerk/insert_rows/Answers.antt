use Rattle.std.proofs.Common.{◌∙◌, length, refl, sym, ap, subst, Ok}
use Rattle.std.specs.List.{All}
use Rattle.cs_types.specs.declared.Schema.{Schema}
use Rattle.cs_model.specs.declared.entry.Bound.TheVariants.{Insert}
use Rattle.cs_model.specs.Answers.{edits_by, inserted}
use Rattle.edit_laws.specs.Edits.{edits_of}
use Rattle.row_work.specs.Gives.{RefusesRows}
use Rattle.row_work.specs.Inserts.{GivesInserted}
use Rattle.row_work.specs.Reads.{MayRead}
use Rattle.statement_core.specs.declared.started.Terms.{Terms}
use Rattle.statement_core.specs.Outcomes.{GivesOn}
use Rattle.statement_core.specs.Terms.{sizes_of}
use Rattle.tuple_mover.specs.Inserts.{FitsIn}
use Rattle.statement_work.proofs.Taken.{may_read_it}
use Rattle.statement_work.proofs.Working.{insert_defined, insert_needs, insert_parcel, insert_write, untold}
use Rattle.statement_work.proofs.clerk.insert_rows.Goals as goal

pub inserted-requires : goal.inserted-requires
inserted-requires c =
    let b = c.requires.begun in
    let same = c.deref.ensures ∙ ap (λ (t : Terms). t.schema.value) c.deref-terms.ensures in
    subst (λ (s : Schema). MayRead s c.pinned_of.result.now) (sym same) (may_read_it b.0 c.args.started.now (Insert c.args.plan.now) b.1 refl c.pinned_of.result.now c.pinned_of.ensures)

pub written-requires-clause-fit : goal.written-requires-clause-fit
written-requires-clause-fit c =
    let b = c.requires.begun in
    let plan = c.args.plan.now in
    let pinned = c.pinned_of.result.now in
    let rows = c.in-Ok.rows in
    let same = c.deref.ensures ∙ ap (λ (t : Terms). t.schema.value) c.deref-terms.ensures in
    let given = subst (λ (s : Schema). GivesInserted (length s.columns) pinned (edits_by s (inserted s plan)) (Ok rows)) same c.in-Ok.ensures in
    subst (λ (t : Terms). All (FitsIn t.schema.value) (edits_of rows.writes.items)) (sym c.deref-terms.ensures) (insert_parcel b.0 c.args.started.now plan b.1 pinned c.pinned_of.ensures given.0 given.1 rows.writes.items rows.present.items rows.affected given.2)

pub returns-in-Ok-clause-gives : goal.returns-in-Ok-clause-gives
returns-in-Ok-clause-gives c = λ begun is.
    let plan = c.args.plan.now in
    let pinned = c.pinned_of.result.now in
    let rows = c.in-Ok.rows in
    let same = c.deref.ensures ∙ ap (λ (t : Terms). t.schema.value) c.deref-terms.ensures in
    let given = subst (λ (s : Schema). GivesInserted (length s.columns) pinned (edits_by s (inserted s plan)) (Ok rows)) same c.in-Ok.ensures in
    subst (λ (t : Terms). GivesOn (sizes_of t) begun c.written.result) c.deref-terms.ensures
    (c.written.ensures.gives begun (sym is.hands.implicit) (sym is.hands.schema ∙ ap (λ (t : Terms). t.schema.value) (sym c.deref-terms.ensures))
    (insert_needs begun c.args.started.now plan is pinned c.pinned_of.ensures given.0 given.1 rows.writes.items rows.present.items rows.affected given.2 (sizes_of c.deref-terms.result.now)))

pub returns-in-Err-clause-gives : goal.returns-in-Err-clause-gives
returns-in-Err-clause-gives c = λ begun is.
    let plan = c.args.plan.now in
    let same = c.deref.ensures ∙ ap (λ (t : Terms). t.schema.value) c.deref-terms.ensures in
    let defined = ap (λ (s : Schema). edits_by s (inserted s plan)) same ∙ sym (insert_defined begun c.args.started.now plan is) in
    c.refused.ensures.gives begun is.long (insert_write begun c.args.started.now plan is) (subst (λ wanted. RefusesRows wanted c.in-Err.refusal) defined c.in-Err.ensures) (sizes_of c.args.started.now.terms.value)

pub returns-in-Ok-clause-counted : goal.returns-in-Ok-clause-counted
returns-in-Ok-clause-counted c = untold c.args.started.now c.written.result c.written.ensures.untold

pub returns-in-Err-clause-counted : goal.returns-in-Err-clause-counted
returns-in-Err-clause-counted c = untold c.args.started.now c.refused.result c.refused.ensures.untold
