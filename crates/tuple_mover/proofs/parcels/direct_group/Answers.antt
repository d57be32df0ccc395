use Rattle.std.proofs.Common.{◌∙◌, ◌≤◌, List, length, map, sym, ap, subst, arith}
use Rattle.std.specs.List.{All}
use Rattle.std.specs.Result.{IfOk}
use Rattle.std.proofs.lemmas.List.{take_all, length-map}
use Rattle.cs_types.specs.declared.Key.{Key}
use Rattle.cs_types.specs.declared.Value.{Value}
use Rattle.cs_types.specs.Schemas.{IsRowOf}
use Rattle.edit_laws.specs.Edits.{edits_of}
use Rattle.write_set.specs.declared.write.Write.{Write}
use Rattle.row_group.specs.Rows.{PackedRow, begun_above}
use Rattle.row_group.specs.Groups.{HoldsRows}
use Rattle.tuple_mover.specs.Inserts.{rows_given, direct_row}
use Rattle.tuple_mover.proofs.InsertLemmas.{direct-fit, given-keys, rows-raised}
use Rattle.tuple_mover.proofs.parcels.direct_group.Goals as goal

pub packed-requires-clause-fit : goal.packed-requires-clause-fit
packed-requires-clause-fit c =
    let schema = c.args.schema.now in
    let all : length c.args.writes.now ≤ c.loop-write.write-index = omega arith in
    let rows = c.loop-write.invariant.rows ∙ ap (λ (writes : List Write). map (direct_row (length schema.columns)) (rows_given (edits_of writes))) (take_all c.loop-write.write-index c.args.writes.now all) in
    subst (λ (rows : List PackedRow). All (λ (row : PackedRow). IsRowOf schema row.cells) rows) (sym rows) (direct-fit schema (edits_of c.args.writes.now) c.requires.fit)

pub packed-requires-clause-some : goal.packed-requires-clause-some
packed-requires-clause-some c =
    let writes = c.args.writes.now in
    let all : length writes ≤ c.loop-write.write-index = omega arith in
    let width = length c.args.schema.now.columns in
    let rows = ap length (c.loop-write.invariant.rows ∙ ap (λ (writes : List Write). map (direct_row width) (rows_given (edits_of writes))) (take_all c.loop-write.write-index writes all)) in
    let long = length-map (rows_given (edits_of writes)) (direct_row width) in
    let keys = length-map (rows_given (edits_of writes)) (λ (entry : Key × List Value). entry.0) in
    let same = ap length (given-keys (edits_of writes)) in
    omega (arith, rows, long, keys, same, c.requires.some)

pub returns : goal.returns
returns c =
    let schema = c.args.schema.now in
    let writes = c.args.writes.now in
    let width = length schema.columns in
    let all : length writes ≤ c.loop-write.write-index = omega arith in
    let rows = c.loop-write.invariant.rows ∙ ap (λ (writes : List Write). map (direct_row width) (rows_given (edits_of writes))) (take_all c.loop-write.write-index writes all) in
    let given = ap (map (begun_above 0)) rows ∙ rows-raised width (rows_given (edits_of writes)) in
    subst (λ (given : List PackedRow). IfOk c.packed.result (HoldsRows schema given 0)) given c.packed.ensures
