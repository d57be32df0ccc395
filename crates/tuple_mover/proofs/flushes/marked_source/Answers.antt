use Rattle.std.proofs.Common.{◌≡◌, ◌∙◌, List, length, Option, refl, sym, ap, subst}
use Rattle.delete_bitmap.specs.declared.MarkedEnd.{MarkedEnd}
use Rattle.delete_buffer.specs.Entries.{Entry}
use Rattle.row_group.specs.Groups.{Group}
use Rattle.group_book.specs.Book.{Ending}
use Rattle.group_view.specs.declared.parts.GroupPart.{GroupPart}
use Rattle.group_view.specs.Parts.{packed_versions}
use Rattle.group_view.specs.Views.{endings_of, buffer_of}
use Rattle.group_view.specs.Books.{versions_of}
use Rattle.group_view.specs.Claims.{lent_entries, IsMarkedOf}
use Rattle.tuple_mover.specs.Flushed.{next_marks}
use Rattle.tuple_mover.proofs.FlushLemmas.{length-marks, marks-flushed}
use Rattle.tuple_mover.proofs.flushes.marked_source.Goals as goal

pub returns : goal.returns
returns c =
    let claim = c.args.claim.now in
    let group : Group = c.in-Packed.packed.value in
    let old = c.in-Packed.marks.value in
    let buffer = buffer_of claim.view in
    let lent = lent_entries claim in
    let marks = c.in_ok-new-in-Packed.field-0.value in
    let is : marks ≡ next_marks buffer lent group.key group.rows old =
    c.in_ok-new-in-Packed.ensures.ok ∙ c.in_ok-marked-in-Packed.ensures
    ∙ ap (λ (g : Group). next_marks (endings_of c.deref-in-Packed-2.result.now) (endings_of c.as_slice-entries.result.now) g.key g.rows c.deref-in-Packed.result.now) c.deref.ensures
    ∙ ap (λ (ms : List (Option MarkedEnd)). next_marks (endings_of c.deref-in-Packed-2.result.now) (endings_of c.as_slice-entries.result.now) group.key group.rows ms) c.deref-in-Packed.ensures
    ∙ ap (λ (entries : List Entry). next_marks (endings_of entries) (endings_of c.as_slice-entries.result.now) group.key group.rows old) c.deref-in-Packed-2.ensures
    ∙ ap (λ (some : List Ending). next_marks buffer some group.key group.rows old) (ap endings_of c.as_slice-entries.ensures ∙ c.requires.entries) in
    subst (λ (part : GroupPart). IsMarkedOf claim (c.args.source.now.0, part) (c.args.source.now.0, c.in_ok-new-in-Packed.field-0)) (sym c.in-Packed.is) (
      refl,
      ap length is ∙ length-marks buffer lent group.key group.rows old,
      ap (λ (ms : List (Option MarkedEnd)). versions_of (packed_versions group.key group.rows ms)) is ∙ marks-flushed buffer lent group.key group.rows old,
    )
