use Rattle.std.proofs.Common.{arith}
use Rattle.std.proofs.lemmas.List.Sums.{prefix_len-le-length}
use Rattle.cs_types.specs.Calendar.{is_digit}
use Rattle.script_reader.proofs.Forms.{digits_all}
use Rattle.script_reader.proofs.form.numbered.Goals as goal

pub split_at-requires : goal.split_at-requires
split_at-requires c = omega (arith, prefix_len-le-length is_digit c.args.line.now)

pub number_of-requires : goal.number_of-requires
number_of-requires c = rw (c.split_at.ensures.front, c.digits.ensures) (digits_all c.args.line.now)
