use Rattle.std.proofs.Common.{◌≡◌, length, map, subst, sym}
use Rattle.std.specs.List.{All}
use Rattle.row_group.specs.Rows.{PackedRow}
use Rattle.row_group.specs.Groups.{Group, begun_at}
use Rattle.row_group.proofs.ShownLemmas.{group_of, late-none, base-rows, fields-rebased, rows-rebased}
use Rattle.row_group.proofs.packed.Packed.rebase.Goals as goal

pub invariant_of-self : goal.invariant_of-self
invariant_of-self c =
    let f = c.self.inside in
    let all = subst (λ (group : Group). All (λ (row : PackedRow). row.begin ≡ group.base) group.rows) (sym c.self.view_is) c.requires in
    let none = late-none f.late f.length f.base c.self.invariant.own (base-rows f.segments f.late f.base f.length all) in
    fields-rebased f.segments f.key f.length f.base c.args.begin f.late f.places c.self.invariant none

pub returns : goal.returns
returns c =
    let f = c.self.inside in
    let all = subst (λ (group : Group). All (λ (row : PackedRow). row.begin ≡ group.base) group.rows) (sym c.self.view_is) c.requires in
    let none = late-none f.late f.length f.base c.self.invariant.own (base-rows f.segments f.late f.base f.length all) in
    let rows = rows-rebased f.segments f.base c.args.begin f.length f.late none in
    let new : Group = group_of f.segments f.key f.length c.args.begin f.late f.places in
    subst (λ (group : Group). new ≡ record group { rows = map (begun_at c.args.begin) group.rows; base = c.args.begin }) c.self.view_is
    (λ i. record { rows = rows i; width = length f.segments; key = f.key; base = c.args.begin; places = f.places })
