use Rattle.std.proofs.Common.{◌≡◌, ◌∙◌, ap, rules}
use Rattle.segment_value.specs.Scales.{code_of, cell_of}
use Rattle.segment_value.proofs.Codes.{cell_of-code_of}
use Rattle.segment_value.proofs.shrink.Goals as goal

pub returns-in-Some-clause-restores : goal.returns-in-Some-clause-restores
returns-in-Some-clause-restores c =
    let same : c.code_above.result ≡ code_of c.args.scale c.args.cell = search rules in
    ap (cell_of c.args.scale) same ∙ cell_of-code_of c.args.scale c.args.cell c.requires
