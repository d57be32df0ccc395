use Rattle.std.proofs.Common.{length, arith}
use Rattle.std.proofs.lemmas.List.FromFn.{length-map-range_with_len}
use Rattle.row_group.specs.Packings.{source_row}
use Rattle.row_group.proofs.packer.Packer.len.Goals as goal

pub returns : goal.returns
returns c =
    let f = c.self.inside in
    let many = length-map-range_with_len (source_row f.columns.items f.begins.items) 0 (length f.begins.items) in
    rw (← c.self.view_is) (omega (arith, c.len.ensures, many))
