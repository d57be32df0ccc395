use Rattle.std.proofs.Common.{◌<◌, ◌∙◌, refl, ℕ, List, length, map, slice_index, sym, ap, subst, arith}
use Rattle.column_segment.specs.Ranks.{ArePicked}
use Rattle.row_group.specs.declared.ranks.Ranks.{Ranks}
use Rattle.row_group.specs.Orders.{IsOrderOf}
use Rattle.row_group.specs.Rows.{PackedRow}
use Rattle.cs_types.specs.Keys.{key_cmp}
use Rattle.row_group.specs.Groups.{keys_of}
use Rattle.row_group.specs.Packings.{source_row}
use Rattle.row_group.proofs.FieldLemmas.{fields-made, codes-order, rows-arranged}
use Rattle.row_group.proofs.ArrangeLemmas.{codes-picked, length-codes}
use Rattle.column_segment.proofs.Moved.{range-within}
use Rattle.row_group.proofs.SegmentLemmas.{columns-permuted, codes-read}
use Rattle.row_group.proofs.StampLemmas.{picked-map}
use Rattle.row_group.proofs.pack.packed_by.Goals as goal

pub picked-requires : goal.picked-requires
picked-requires c =
    let long = length-codes c.args.columns.items c.args.ranks.now (length c.args.begins.now) c.args.schema.now.key c.index-ranks-schema.result c.requires.ranks c.requires.even c.requires.key c.index-ranks-schema.is in
    λ k d l.
    omega (arith, range-within (length c.args.begins.now) c.args.order.now c.requires.all k d l, long, ap length c.deref.ensures.value, ap (λ (ranks : Ranks). length ranks.codes.items) c.index-ranks-schema.is)

pub late_of-requires : goal.late_of-requires
late_of-requires c = range-within (length c.args.begins.now) c.args.order.now c.requires.all

pub segments_of-requires-clause-all : goal.segments_of-requires-clause-all
segments_of-requires-clause-all c = columns-permuted c.args.columns.items (length c.args.begins.now) c.args.order.now c.requires.even c.requires.all

pub segments_of-requires-clause-key : goal.segments_of-requires-clause-key
segments_of-requires-clause-key c =
    let order = c.args.order.now in
    let there : c.args.schema.now.key < length c.args.ranks.now = omega (arith, c.requires.key, c.requires.ranks.0) in
    let read = codes-read c.args.ranks.now c.args.schema.now.key c.index-ranks-schema.result there c.index-ranks-schema.is in
    subst (λ (all : List ℕ). ArePicked all order c.deref-3.result.now) (c.deref.ensures.value ∙ ap (λ (ranks : Ranks). ranks.codes.items) (sym c.index-ranks-schema.is) ∙ sym read)
    (subst (ArePicked c.deref.result.now order) (sym c.deref-3.ensures.value) c.in_ok-key_codes.ensures)

pub invariant_of-result : goal.invariant_of-result
invariant_of-result c =
    let columns = c.args.columns.items in
    let begins = c.args.begins.now in
    let order = c.args.order.now in
    let key = c.args.schema.now.key in
    let places = range-within (length begins) order c.requires.all in
    let moved = map (slice_index begins) order in
    let picked = picked-map begins order places in
    let stamps = c.in_ok-late.ensures in
    let picked_codes = rw (c.deref.ensures.value, ← c.index-ranks-schema.is) at c.in_ok-key_codes.ensures in
    let codes = codes-picked columns c.args.ranks.now (length begins) key c.index-ranks-schema.result order c.in_ok-key_codes.key_codes.items c.requires.ranks c.requires.even c.requires.key c.index-ranks-schema.is places picked_codes in
    let ordered = codes-order columns begins order c.in_ok-key_codes.key_codes.items c.in_ok-places.places.items key c.requires.numbers places codes (rw c.deref-2.ensures.value at c.in_ok-places.ensures) in
    fields-made columns begins moved order c.in_ok-segments.segments c.in_ok-late.late key c.args.floor c.from_vec.result
    c.in_ok-segments.ensures picked stamps c.requires.key
    (subst (IsOrderOf key_cmp (keys_of key (map (source_row columns begins) order))) (sym c.from_vec.ensures) ordered)

pub returns : goal.returns
returns c =
    let columns = c.args.columns.items in
    let begins = c.args.begins.now in
    let order = c.args.order.now in
    let key = c.args.schema.now.key in
    let places = range-within (length begins) order c.requires.all in
    let moved = map (slice_index begins) order in
    let picked = picked-map begins order places in
    let stamps = c.in_ok-late.ensures in
    let picked_codes = rw (c.deref.ensures.value, ← c.index-ranks-schema.is) at c.in_ok-key_codes.ensures in
    let codes = codes-picked columns c.args.ranks.now (length begins) key c.index-ranks-schema.result order c.in_ok-key_codes.key_codes.items c.requires.ranks c.requires.even c.requires.key c.index-ranks-schema.is places picked_codes in
    let ordered = codes-order columns begins order c.in_ok-key_codes.key_codes.items c.in_ok-places.places.items key c.requires.numbers places codes (rw c.deref-2.ensures.value at c.in_ok-places.ensures) in
    let rows = rows-arranged columns begins moved order c.in_ok-segments.segments c.in_ok-late.late c.args.floor c.in_ok-segments.ensures picked stamps in
    record {
      rows = rows;
      places = subst (λ (all : List PackedRow). IsOrderOf key_cmp (keys_of key all) c.from_vec.result) (sym rows)
          (subst (IsOrderOf key_cmp (keys_of key (map (source_row columns begins) order))) (sym c.from_vec.ensures) ordered);
      width = c.in_ok-segments.ensures.0;
      key = refl;
      base = refl;
    }
