use Rattle.std.proofs.Common.{◌≡◌, List, ◌∷◌, ◌++◌, [], sym, subst}
use Rattle.std.specs.Prelude.{Result, Ok, Err, OnOk}
use Rattle.script_reader.specs.declared.read.HalfDone.{HalfDone}
use Rattle.script_reader.specs.declared.script.Step.{Step}
use Rattle.script_reader.specs.Reading.{AreMarked}
use Rattle.script_reader.proofs.read.Reading.push.Goals as goal

marked : {X E : Type 0} (r : Result X E) (marks : HalfDone) (steps after : List Step) (step : Step) → OnOk r (after ≡ steps ++ step ∷ []) → AreMarked marks (steps ++ step ∷ []) → OnOk r (AreMarked marks after)
marked (Ok x) marks steps after step more m = subst (AreMarked marks) (sym more) m
marked (Err e) marks steps after step more m = tt

pub returns-clause-marked : goal.returns-clause-marked
returns-clause-marked c = λ m. marked c.push.result c.mark.new.self c.args.self.now.lines c.push.new.self c.args.step c.push.ensures.ok (c.mark.ensures c.args.self.now.lines m)
