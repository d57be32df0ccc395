use Rattle.std.proofs.Common.{◌≡◌, ◌∙◌, ℕ, ◌++◌, List, [], ◌∷◌, filter, length, get_or, map, take, refl, sym, ap, subst, append_assoc}
use Rattle.std.specs.Prelude.{IsSome}
use Rattle.std.specs.List.{filter_map}
use Rattle.std.specs.Map.{values_of}
use Rattle.std.specs.Option.{option_copied, option_map}
use Rattle.std.proofs.lemmas.List.{append-nil, map-append, take_all, take_more}
use Rattle.cs_types.specs.declared.Value.{Value}
use Rattle.cs_types.specs.Rows.{padded}
use Rattle.cs_model.specs.Queries.{keeps}
use Rattle.row_group.specs.Groups.{row_at}
use Rattle.group_view.specs.Parts.{Rowed}
use Rattle.group_view.specs.Views.{version_at}
use Rattle.batch_scan.specs.Reads.{read_row}
use Rattle.batch_scan.proofs.Kept.{row_here, rows_at_positions, version_here}
use Rattle.batch_scan.proofs.scans.scan_packed.Goals as goal

pub loop-position-init : goal.loop-position-init
loop-position-init c = sym (append-nil c.args.rows.now.items)

pub row-requires : goal.row-requires
row-requires c =
    let positions = c.deref-position-items.result.now in
    let are = c.deref-position-items.ensures.value ∙ c.in_ok-positions.ensures in
    subst IsSome (sym (version_here c.args.pinned.now c.args.schema.now (option_copied c.args.pred) c.args.packed.now c.args.marks.now c.requires.fits
    c.args.group c.requires.versions positions are c.loop-position.position-index 0 c.loop-position-test.true)) refl

pub loop-position-preserved : goal.loop-position-preserved
loop-position-preserved c =
    let schema = c.args.schema.now in
    let pinned = c.args.pinned.now in
    let group = c.args.packed.now in
    let positions = c.deref-position-items.result.now in
    let are = c.deref-position-items.ensures.value ∙ c.in_ok-positions.ensures in
    let n = c.loop-position.position-index in
    let position = get_or positions n 0 in
    let cells : ℕ → List Value = λ i. padded (length schema.columns) (row_at group i).cells in
    let initial = c.args.rows.now.items in
    let old = c.loop-position.rows.items in
    let at = version_at pinned.view (record { group = c.args.group; position = position }) in
    let read = ap (λ width. option_map (λ (rowed : Rowed). padded width rowed.row) at) (sym c.len-width.ensures) ∙ c.in_ok-row.ensures in
    let row : c.in_ok-row.field-0 ≡ cells position
    = row_here pinned schema (option_copied c.args.pred) group c.args.marks.now c.requires.fits c.args.group c.requires.versions positions are n 0 c.loop-position-test.true c.in_ok-row.field-0 read in
    c.in_ok-push.ensures.items ∙ ap (λ r. old ++ r ∷ []) row ∙ ap (λ l. l ++ cells position ∷ []) c.loop-position.invariant
    ∙ append_assoc initial (map cells (take n positions)) (cells position ∷ [])
    ∙ ap (λ l. initial ++ l) (sym (ap (map cells) (take_more positions n 0 c.loop-position-test.true) ∙ map-append cells (take n positions) (position ∷ [])))

pub returns : goal.returns
returns c =
    let schema = c.args.schema.now in
    let condition = option_copied c.args.pred in
    let pinned = c.args.pinned.now in
    let group = c.args.packed.now in
    let positions = c.deref-position-items.result.now in
    let are = c.deref-position-items.ensures.value ∙ c.in_ok-positions.ensures in
    let cells : ℕ → List Value = λ i. padded (length schema.columns) (row_at group i).cells in
    let initial = c.args.rows.now.items in
    c.loop-position.invariant
    ∙ ap (λ l. initial ++ map cells l) (take_all c.loop-position.position-index positions c.loop-position-test.false ∙ are)
    ∙ ap (λ l. initial ++ l) (rows_at_positions pinned schema condition group c.args.marks.now c.requires.fits)
    ∙ ap (λ (versions : List Rowed). initial ++ filter (keeps schema condition) (values_of (filter_map (read_row (length schema.columns) pinned) versions))) (sym c.requires.versions)
