use Rattle.std.proofs.Common.{ℕ, Bool, ap, subst}
use Rattle.cs_types.specs.declared.Value.{Value}
use Rattle.cs_types.specs.declared.Value.TheVariants.{Number}
use Rattle.column_segment.specs.Segments.{IsSegmentOf}
use Rattle.row_group.specs.Rows.{column_of}
use Rattle.row_group.specs.Groups.{Group, AreByKey}
use Rattle.row_group.proofs.GroupLemmas.{place-within}
use Rattle.row_group.proofs.SideLemmas.{side-shown}
use Rattle.row_group.proofs.packed.Packed.side_of.Goals as goal

pub returns-in-Some : goal.returns-in-Some
returns-in-Some c =
    let group = c.args.self.now in
    let by_key = subst AreByKey c.self.view_is c.self.invariant.by_key in
    let s = c.segment.result.now in
    let bounds = c.in-Some.bounds in
    let key = subst (λ (k : ℕ). IsSegmentOf (column_of group.rows k) s.length s.body s.least s.greatest s.nulls) (ap (λ (group : Group). group.key) c.self.view_is) c.segment.ensures.cells in
    let low = subst (λ (least : Value). IsSegmentOf (column_of group.rows group.key) s.length s.body least s.greatest s.nulls) c.in-Some.ensures.0 key in
    let high = subst (λ (greatest : Value). IsSegmentOf (column_of group.rows group.key) s.length s.body (Number bounds.0) greatest s.nulls) c.in-Some.ensures.1 low in
    let whole = subst (λ (nulls : Bool). IsSegmentOf (column_of group.rows group.key) s.length s.body (Number bounds.0) (Number bounds.1) nulls) c.in-Some.ensures.2 high in
    side-shown group c.args.key s.length s.body bounds.0 bounds.1 c.side_to.result (place-within group by_key) whole c.side_to.ensures
