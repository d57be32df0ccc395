use Rattle.std.proofs.Common.{None}
use Rattle.std.specs.List.{All}
use Rattle.std.proofs.lemmas.List.Elements.{All-push, All-same}
use Rattle.cs_types.specs.declared.row.Version.{Version}
use Rattle.cs_types.specs.Schemas.{IsRowOf}
use Rattle.scan_tests.proofs.code_tallies_tests.packed_of.Goals as goal

pub loop-row-preserved : goal.loop-row-preserved
loop-row-preserved g c =
    let fits = λ (version : Version). IsRowOf c.in_ok-schema.schema version.row in
    let item : Version = record { row = c.in_ok-row_of.field-0; begin = 1; end = None } in
    let row = c.in_ok-row_of.ensures c.in_ok-schema.schema c.in_ok-schema.ensures.columns in
    All-same fits c.push.new.self _ c.in_ok-push.ensures.ok (All-push fits c.loop-row.versions item c.loop-row.invariant row)
