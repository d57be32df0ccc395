use Rattle.std.proofs.Common.{◌∙◌, length, refl, sym, ap, subst, Ok}
use Rattle.std.specs.List.{All}
use Rattle.cs_types.specs.declared.Schema.{Schema}
use Rattle.cs_model.specs.declared.entry.Bound.TheVariants.{Update}
use Rattle.cs_model.specs.Answers.{updated}
use Rattle.cs_model.specs.Kinds.{is_write}
use Rattle.edit_laws.specs.Edits.{edits_of}
use Rattle.row_work.specs.Gives.{GivesWrites, RefusesRows}
use Rattle.row_work.specs.Keyed.{Replaces}
use Rattle.row_work.specs.Reads.{read_by, MayRead}
use Rattle.statement_core.specs.declared.started.Terms.{Terms}
use Rattle.statement_core.specs.Outcomes.{GivesOn}
use Rattle.statement_core.specs.Terms.{sizes_of}
use Rattle.tuple_mover.specs.Inserts.{FitsIn}
use Rattle.statement_work.proofs.Taken.{may_read_it}
use Rattle.statement_work.proofs.Working.{update_defined, update_needs, update_parcel, untold}
use Rattle.statement_work.proofs.clerk.update.Goals as goal

pub updated-requires : goal.updated-requires
updated-requires c =
    let b = c.requires.begun in
    let same = c.deref.ensures ∙ ap (λ (t : Terms). t.schema.value) c.deref-terms.ensures in
    subst (λ (s : Schema). MayRead s c.pinned_of.result.now) (sym same) (may_read_it b.0 c.args.started.now (Update c.args.plan.now) b.1 refl c.pinned_of.result.now c.pinned_of.ensures)

pub changed-requires-clause-fit : goal.changed-requires-clause-fit
changed-requires-clause-fit c =
    let b = c.requires.begun in
    let plan = c.args.plan.now in
    let pinned = c.pinned_of.result.now in
    let list = c.in-Ok.writes.items in
    let same = c.deref.ensures ∙ ap (λ (t : Terms). t.schema.value) c.deref-terms.ensures in
    let given = subst (λ (s : Schema). GivesWrites (updated s plan (read_by (length s.columns) pinned)) (Ok c.in-Ok.writes)) same c.in-Ok.ensures.gives in
    subst (λ (t : Terms). All (FitsIn t.schema.value) (edits_of list)) (sym c.deref-terms.ensures) (update_parcel b.0 c.args.started.now plan b.1 pinned c.pinned_of.ensures list given)

pub returns-in-Ok-clause-gives : goal.returns-in-Ok-clause-gives
returns-in-Ok-clause-gives c = λ begun is.
    let plan = c.args.plan.now in
    let pinned = c.pinned_of.result.now in
    let list = c.in-Ok.writes.items in
    let same = c.deref.ensures ∙ ap (λ (t : Terms). t.schema.value) c.deref-terms.ensures in
    let given = subst (λ (s : Schema). GivesWrites (updated s plan (read_by (length s.columns) pinned)) (Ok c.in-Ok.writes)) same c.in-Ok.ensures.gives in
    let replaces = subst (λ (s : Schema). All (Replaces (length s.columns) pinned) list) same c.in-Ok.ensures.replaces in
    subst (λ (t : Terms). GivesOn (sizes_of t) begun c.changed.result) c.deref-terms.ensures
    (c.changed.ensures.gives begun (sym is.hands.implicit) (sym is.hands.schema ∙ ap (λ (t : Terms). t.schema.value) (sym c.deref-terms.ensures))
    (update_needs begun c.args.started.now plan is pinned c.pinned_of.ensures list given c.in-Ok.ensures.order replaces (sizes_of c.deref-terms.result.now)))

pub returns-in-Err-clause-gives : goal.returns-in-Err-clause-gives
returns-in-Err-clause-gives c = λ begun is.
    let plan = c.args.plan.now in
    let pinned = c.pinned_of.result.now in
    let same = c.deref.ensures ∙ ap (λ (t : Terms). t.schema.value) c.deref-terms.ensures in
    let defined = ap (λ (s : Schema). updated s plan (read_by (length s.columns) pinned)) same ∙ sym (update_defined begun c.args.started.now plan is pinned c.pinned_of.ensures) in
    c.refused.ensures.gives begun is.long (ap is_write is.bound) (subst (λ wanted. RefusesRows wanted c.in-Err.refusal) defined c.in-Err.ensures.gives) (sizes_of c.args.started.now.terms.value)

pub returns-in-Ok-clause-counted : goal.returns-in-Ok-clause-counted
returns-in-Ok-clause-counted c = untold c.args.started.now c.changed.result c.changed.ensures.untold

pub returns-in-Err-clause-counted : goal.returns-in-Err-clause-counted
returns-in-Err-clause-counted c = untold c.args.started.now c.refused.result c.refused.ensures.untold
