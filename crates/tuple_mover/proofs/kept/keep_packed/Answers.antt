use Rattle.std.proofs.Common.{◌≡◌, ◌∙◌, ◌++◌, ◌-◌, ◌<◌, ℕ, List, All, length, map, sym, ap, subst, arith}
use Rattle.std.specs.Result.{OnOk}
use Rattle.std.proofs.lemmas.List.{length-append, length-map}
use Rattle.std.proofs.lemmas.Result.{on_ok_weaker}
use Rattle.row_group.specs.Rows.{PackedRow}
use Rattle.row_group.specs.Groups.{Group}
use Rattle.row_group.specs.Packings.{Packing, padded_at}
use Rattle.group_view.specs.Parts.{Rowed, packed_versions}
use Rattle.group_view.specs.Views.{endings_of}
use Rattle.tuple_mover.specs.declared.kept.Kept.{Kept}
use Rattle.tuple_mover.specs.Kept.{kept_of, placed_ends, HasKept}
use Rattle.tuple_mover.proofs.KeptLemmas.{has-more, kept-ends, kept-rows, positions-within}
use Rattle.tuple_mover.proofs.kept.keep_packed.Goals as goal

pub add_packed-requires : goal.add_packed-requires
add_packed-requires c =
    let group : Group = c.args.packed.now in
    subst (All (λ (position : ℕ). position < length group.rows)) (sym c.deref.ensures.value) (positions-within group c.args.marks.now c.in_ok-positions.positions.items c.in_ok-positions.ensures.within)

pub returns : goal.returns
returns c = λ (width : ℕ) (rowed : List Rowed) (had : HasKept width rowed c.args.kept.now).
    let group : Group = c.args.packed.now in
    let marks = c.args.marks.now in
    let kept = kept_of c.args.floor (endings_of c.args.buffer.now) (packed_versions group.key group.rows marks) in
    let positions = c.in_ok-positions.positions.items in
    let stand = c.in_ok-positions.ensures in
    let old : Kept = c.args.kept.now in
    let new : Kept = record { packer = c.add_packed.new.self; ends = c.note_ends.new.ends } in
    let added : new.packer ≡ record old.packer { rows = old.packer.rows ++ map (padded_at old.packer.width group) positions } =
    subst (λ (places : List ℕ). new.packer ≡ record old.packer { rows = old.packer.rows ++ map (padded_at old.packer.width group) places }) c.deref.ensures.value c.in_ok-add_packed.ensures.ok in
    let first : c.len.result - c.len-2.result ≡ length old.packer.rows =
    omega (arith, c.len.ensures, c.len-2.ensures, c.deref.ensures.len, ap length c.deref.ensures.value, ap (λ (p : Packing). length p.rows) added, length-append old.packer.rows (map (padded_at old.packer.width group) positions), length-map positions (padded_at old.packer.width group)) in
    let ended = subst (λ (place : ℕ). OnOk c.note_ends.result (new.ends.items ≡ old.ends.items ++ placed_ends place kept)) first
    (c.note_ends.ensures kept (kept-ends group marks kept positions stand ∙ ap (map _) (sym c.deref-2.ensures.value))) in
    on_ok_weaker c.note_ends.result (λ is. has-more width rowed kept old new had
    (added ∙ ap (λ (rows : List PackedRow). let after : Packing = record old.packer { rows = old.packer.rows ++ rows } in after) (kept-rows old.packer.width group marks kept positions stand)) is) ended
