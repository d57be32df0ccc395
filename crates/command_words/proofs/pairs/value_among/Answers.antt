use Rattle.std.proofs.Common.{string_bytes, sym, ◌∙◌}
use Rattle.command_words.specs.Walk.{row_of}
use Rattle.command_words.proofs.Short.{value_short}
use Rattle.command_words.proofs.pairs.value_among.Goals as goal

pub returns : goal.returns
returns c = sym (value_short string_bytes (row_of c.args.option.now) c.pairs.rest.now c.in_default.len_below) ∙ c.pairs.invariant
