use Rattle.std.proofs.Common.{◌≡◌, ◌∙◌, List, length, map, sym, ap, subst, arith, true≢false, vec_len}
use Rattle.std.specs.List.{All}
use Rattle.std.proofs.lemmas.Bool.{eqb-false}
use Rattle.std.proofs.lemmas.List.{length-map}
use Rattle.std.proofs.lemmas.List.FromFn.{length-map-range_with_len}
use Rattle.cs_types.specs.Schemas.{IsRowOf}
use Rattle.row_group.specs.Rows.{PackedRow, begin_above, begun_above}
use Rattle.row_group.specs.Groups.{HoldsRows}
use Rattle.row_group.specs.Packings.{Packing, IsOrderedBy, source_row, source_rows}
use Rattle.row_group.proofs.ColumnLemmas.{rows-raised}
use Rattle.row_group.proofs.PackLemmas.{raised-even, raised-fits, columns-keep, keys-numbers, length-places, group-made, order-made}
use Rattle.row_group.proofs.packer.Packer.ordered.Goals as goal

pub packed_by-requires-clause-cells : goal.packed_by-requires-clause-cells
packed_by-requires-clause-cells c =
    let schema = c.args.schema.now in
    let floor = c.args.floor in
    let columns = c.self.inside.columns.items in
    let begins = c.self.inside.begins.items in
    let raised = c.raise.new.begins.items in
    let even = raised-even floor columns begins raised c.raise.ensures c.self.invariant in
    let wide : length columns ≡ length schema.columns = ap (λ (p : Packing). p.width) c.self.view_is ∙ c.requires.width in
    let fit = raised-fits schema floor columns begins raised c.raise.ensures (subst (λ (p : Packing). All (λ (row : PackedRow). IsRowOf schema row.cells) p.rows) (sym c.self.view_is) c.requires.fit) in
    columns-keep schema columns raised even wide fit

pub packed_by-requires-clause-numbers : goal.packed_by-requires-clause-numbers
packed_by-requires-clause-numbers c =
    let schema = c.args.schema.now in
    let floor = c.args.floor in
    let columns = c.self.inside.columns.items in
    let begins = c.self.inside.begins.items in
    let raised = c.raise.new.begins.items in
    let even = raised-even floor columns begins raised c.raise.ensures c.self.invariant in
    let wide : length columns ≡ length schema.columns = ap (λ (p : Packing). p.width) c.self.view_is ∙ c.requires.width in
    let fit = raised-fits schema floor columns begins raised c.raise.ensures (subst (λ (p : Packing). All (λ (row : PackedRow). IsRowOf schema row.cells) p.rows) (sym c.self.view_is) c.requires.fit) in
    rw c.deref-4.ensures.value (keys-numbers schema columns raised even wide c.requires.schema fit)

pub packed_by-requires-clause-even : goal.packed_by-requires-clause-even
packed_by-requires-clause-even c =
    rw c.deref-4.ensures.value (raised-even c.args.floor c.self.inside.columns.items c.self.inside.begins.items c.raise.new.begins.items c.raise.ensures c.self.invariant)

pub packed_by-requires-clause-ranks : goal.packed_by-requires-clause-ranks
packed_by-requires-clause-ranks c = rw c.deref-3.ensures.value (rw c.deref.ensures.value at c.in_ok-order.ensures.ranks)

pub packed_by-requires-clause-all : goal.packed_by-requires-clause-all
packed_by-requires-clause-all c =
    let ordered = rw (c.deref.ensures.value, c.deref-2.ensures.value) at c.in_ok-order.ensures.order in
    rw (c.deref-5.ensures.value, c.deref-4.ensures.value) ordered.all

pub packed_by-requires-clause-some : goal.packed_by-requires-clause-some
packed_by-requires-clause-some c =
    let schema = c.args.schema.now in
    let floor = c.args.floor in
    let columns = c.self.inside.columns.items in
    let begins = c.self.inside.begins.items in
    let raised = c.raise.new.begins.items in
    let even = raised-even floor columns begins raised c.raise.ensures c.self.invariant in
    let wide : length columns ≡ length schema.columns = ap (λ (p : Packing). p.width) c.self.view_is ∙ c.requires.width in
    let order = c.in_ok-order.order.items in
    let ordered = rw (c.deref.ensures.value, c.deref-2.ensures.value) at c.in_ok-order.ensures.order in
    let long = length-places schema columns raised even wide order ordered in
    let some = eqb-false (vec_len c.self.inside.begins) 0 (sym c.if-is_empty.ensures) in
    rw c.deref-5.ensures.value (omega (arith, long, ap length c.raise.ensures, length-map begins (begin_above floor), some))

pub returns-clause-none : goal.returns-clause-none
returns-clause-none c =
    let columns = c.self.inside.columns.items in
    let begins = c.self.inside.begins.items in
    let some = eqb-false (vec_len c.self.inside.begins) 0 (sym c.if-is_empty.ensures) in (
      (λ none. absurd (true≢false none)),
      (λ empty.
          let none : length begins ≡ 0 =
          sym (length-map-range_with_len (source_row columns begins) 0 (length begins)) ∙ ap (λ (p : Packing). length p.rows) c.self.view_is ∙ ap length empty in
          absurd (omega (arith, none, some))),
    )

pub returns-clause-group : goal.returns-clause-group
returns-clause-group c =
    let schema = c.args.schema.now in
    let floor = c.args.floor in
    let columns = c.self.inside.columns.items in
    let begins = c.self.inside.begins.items in
    let raised = c.raise.new.begins.items in
    let even = raised-even floor columns begins raised c.raise.ensures c.self.invariant in
    let wide : length columns ≡ length schema.columns = ap (λ (p : Packing). p.width) c.self.view_is ∙ c.requires.width in
    let order = c.in_ok-order.order.items in
    let ordered = rw (c.deref.ensures.value, c.deref-2.ensures.value) at c.in_ok-order.ensures.order in
    let packed = c.in_ok-packed.packed in
    let arranged = rw (c.deref-5.ensures.value, c.deref-4.ensures.value) at c.in_ok-packed.ensures in
    let rows : source_rows columns raised ≡ map (begun_above floor) c.args.self.rows =
    ap (source_rows columns) c.raise.ensures ∙ sym (rows-raised floor columns begins) ∙ ap (λ (p : Packing). map (begun_above floor) p.rows) c.self.view_is in
    subst (λ (given : List PackedRow). HoldsRows schema given floor packed) rows (group-made schema columns raised even wide order ordered floor packed arranged)

pub returns-clause-order : goal.returns-clause-order
returns-clause-order c =
    let schema = c.args.schema.now in
    let floor = c.args.floor in
    let columns = c.self.inside.columns.items in
    let begins = c.self.inside.begins.items in
    let raised = c.raise.new.begins.items in
    let even = raised-even floor columns begins raised c.raise.ensures c.self.invariant in
    let wide : length columns ≡ length schema.columns = ap (λ (p : Packing). p.width) c.self.view_is ∙ c.requires.width in
    let order = c.in_ok-order.order.items in
    let ordered = rw (c.deref.ensures.value, c.deref-2.ensures.value) at c.in_ok-order.ensures.order in
    let packed = c.in_ok-packed.packed in
    let arranged = rw (c.deref-5.ensures.value, c.deref-4.ensures.value) at c.in_ok-packed.ensures in
    let rows : source_rows columns raised ≡ map (begun_above floor) c.args.self.rows =
    ap (source_rows columns) c.raise.ensures ∙ sym (rows-raised floor columns begins) ∙ ap (λ (p : Packing). map (begun_above floor) p.rows) c.self.view_is in
    subst (λ (given : List PackedRow). IsOrderedBy given order packed) rows (order-made schema columns raised even wide order ordered floor packed arranged)
