use Rattle.std.proofs.Common.{false}
use Rattle.std.proofs.lemmas.List.{get_or-replicate, length-replicate}
use Rattle.script_reader.proofs.read.named.Goals as goal

pub loop-step-init : goal.loop-step-init
loop-step-init c = record {
  places = length-replicate 65 false;
  named = λ session lt. get_or-replicate 65 session false false lt;
}
