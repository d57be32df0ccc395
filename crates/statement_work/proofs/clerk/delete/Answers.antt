use Rattle.std.proofs.Common.{◌≡◌, ◌∙◌, length, refl, sym, ap, subst}
use Rattle.std.specs.List.{All}
use Rattle.cs_types.specs.declared.Schema.{Schema}
use Rattle.cs_model.specs.declared.entry.Bound.TheVariants.{Delete}
use Rattle.cs_model.specs.Answers.{deleted}
use Rattle.edit_laws.specs.Edits.{edits_of}
use Rattle.row_work.specs.Keyed.{Replaces}
use Rattle.row_work.specs.Reads.{read_by, MayRead}
use Rattle.statement_core.specs.declared.started.Terms.{Terms}
use Rattle.statement_core.specs.Outcomes.{GivesOn}
use Rattle.statement_core.specs.Terms.{sizes_of}
use Rattle.tuple_mover.specs.Inserts.{FitsIn}
use Rattle.statement_work.proofs.Taken.{may_read_it}
use Rattle.statement_work.proofs.Working.{delete_needs, delete_parcel, untold}
use Rattle.statement_work.proofs.clerk.delete.Goals as goal

pub deleted-requires : goal.deleted-requires
deleted-requires c =
    let b = c.requires.begun in
    let same = c.deref.ensures ∙ ap (λ (t : Terms). t.schema.value) c.deref-terms.ensures in
    subst (λ (s : Schema). MayRead s c.pinned_of.result.now) (sym same) (may_read_it b.0 c.args.started.now (Delete c.args.condition.now) b.1 refl c.pinned_of.result.now c.pinned_of.ensures)

pub changed-requires-clause-fit : goal.changed-requires-clause-fit
changed-requires-clause-fit c =
    let b = c.requires.begun in
    let condition = c.args.condition.now in
    let pinned = c.pinned_of.result.now in
    let list = c.in-Ok.writes.items in
    let same = c.deref.ensures ∙ ap (λ (t : Terms). t.schema.value) c.deref-terms.ensures in
    let given = subst (λ (s : Schema). edits_of list ≡ deleted s condition (read_by (length s.columns) pinned)) same c.in-Ok.ensures.gives in
    subst (λ (t : Terms). All (FitsIn t.schema.value) (edits_of list)) (sym c.deref-terms.ensures) (delete_parcel b.0 c.args.started.now condition b.1 pinned c.pinned_of.ensures list given)

pub returns-in-Ok-clause-gives : goal.returns-in-Ok-clause-gives
returns-in-Ok-clause-gives c = λ begun is.
    let condition = c.args.condition.now in
    let pinned = c.pinned_of.result.now in
    let list = c.in-Ok.writes.items in
    let same = c.deref.ensures ∙ ap (λ (t : Terms). t.schema.value) c.deref-terms.ensures in
    let given = subst (λ (s : Schema). edits_of list ≡ deleted s condition (read_by (length s.columns) pinned)) same c.in-Ok.ensures.gives in
    let replaces = subst (λ (s : Schema). All (Replaces (length s.columns) pinned) list) same c.in-Ok.ensures.replaces in
    subst (λ (t : Terms). GivesOn (sizes_of t) begun c.changed.result) c.deref-terms.ensures
    (c.changed.ensures.gives begun (sym is.hands.implicit) (sym is.hands.schema ∙ ap (λ (t : Terms). t.schema.value) (sym c.deref-terms.ensures))
    (delete_needs begun c.args.started.now condition is pinned c.pinned_of.ensures list given c.in-Ok.ensures.order replaces (sizes_of c.deref-terms.result.now)))

pub returns-in-Ok-clause-counted : goal.returns-in-Ok-clause-counted
returns-in-Ok-clause-counted c = untold c.args.started.now c.changed.result c.changed.ensures.untold
