use Rattle.std.proofs.Common.{◌-◌, ◌/◌, ◌^◌, ap, ◌∙◌, bit_and}
use Rattle.bit_pack.proofs.Picked.{picked_one, picked_two}
use Rattle.bit_pack.proofs.read.picked.Goals as goal
use Rattle.bit_pack.proofs.read.picked.Goals.{then-off-gt64, else-off-gt64}

pub returns : goal.returns
returns g c = elim c.if-off-gt64.branch [
  | then-off-gt64 w ↦
      ap (λ n. bit_and n (18446744073709551615 / 2 ^ (64 - g.row.W))) w.all-is
      ∙ picked_two c.args.words.now c.args.base c.args.bit g.row.W (λ i. (c.type_inv.words i).fits) c.requires.width
  | else-off-gt64 w ↦
      ap (λ n. bit_and n (18446744073709551615 / 2 ^ (64 - g.row.W))) w.all-is
      ∙ picked_one c.args.words.now c.args.base c.args.bit g.row.W (λ i. (c.type_inv.words i).fits) w.if-off-gt64.false
]
