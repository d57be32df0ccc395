use Rattle.std.proofs.Common.{sym, ◌∙◌, false}
use Rattle.std.proofs.lemmas.List.{get_or-replicate, length-replicate}
use Rattle.cs_model.specs.declared.work.Actor.TheVariants.{Session, Mover}
use Rattle.script_reader.proofs.Halves.{half_empty}
use Rattle.script_reader.proofs.read.HalfDone.none.Goals as goal

pub returns : goal.returns
returns c = record {
  sessions = (length-replicate 65 false, λ n lt. get_or-replicate 65 n false false lt ∙ sym (half_empty (Session n)));
  movers = (length-replicate 9 false, λ n lt. get_or-replicate 9 n false false lt ∙ sym (half_empty (Mover n)));
}
