use Rattle.std.proofs.Common.{ap, sym, ◌∙◌}
use Rattle.std.specs.List.{flat_map}
use Rattle.std.proofs.lemmas.List.{map-id}
use Rattle.bind_faults.specs.Least.{earlier, least}
use Rattle.bind_faults.specs.Families.{unknown_column}
use Rattle.bind_faults.specs.Columns.{twice_faults}
use Rattle.bind_faults.proofs.Leasts.{least_append}
use Rattle.bind_faults.proofs.insert.columns_fault.Goals as goal

pub returns : goal.returns
returns c =
    let schema = c.args.schema.now in
    let names = c.args.names.now in
    c.earlier.ensures
    ∙ ap (λ z. earlier z c.twice_fault.result) c.no_column_fault.ensures
    ∙ ap (earlier (least (flat_map (unknown_column schema) names))) (c.twice_fault.ensures ∙ ap (λ z. least (twice_faults schema z)) (map-id names))
    ∙ sym (least_append (flat_map (unknown_column schema) names) (twice_faults schema names))
