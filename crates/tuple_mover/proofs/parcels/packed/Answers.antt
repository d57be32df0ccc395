use Rattle.std.proofs.Common.{◌≡◌, length, map, Option, refl, sym, ap, subst, arith}
use Rattle.std.specs.Option.{IfSome, IsNone}
use Rattle.row_group.specs.Rows.{begun_above}
use Rattle.row_group.specs.Groups.{Group, HoldsRows}
use Rattle.tuple_mover.proofs.parcels.packed.Goals as goal

pub unreachable-requires : goal.unreachable-requires
unreachable-requires c =
    let none = c.in_ok-group.ensures.none.0 (subst (λ (found : Option Group). IsNone found) (sym c.in_default.is) refl) in
    let count : length c.args.packer.rows ≡ 0 = ap length none in
    omega (arith, count, c.requires.some)

pub returns : goal.returns
returns c =
    subst (λ (found : Option Group). IfSome found (λ (group : Group). HoldsRows c.args.schema.now (map (begun_above 0) c.args.packer.rows) 0 group)) c.in-Some.is c.in_ok-group.ensures.group
