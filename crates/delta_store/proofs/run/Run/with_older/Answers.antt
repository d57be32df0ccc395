use Rattle.std.proofs.Common.{◌++◌, List, ℕ}
use Rattle.std.specs.Prelude.{Result, Ok, Err, IfOk}
use Rattle.cs_base.specs.declared.memory.Memory.{Memory}
use Rattle.cs_types.specs.declared.Key.{Key}
use Rattle.delta_store.specs.Index.{Index, HaveSamePlaces, IsCut}
use Rattle.delta_store.proofs.Cuts.{cut_both}
use Rattle.delta_store.proofs.run.Run.with_older.Goals as goal

made : (newer older in_newer in_older : List (Key × ℕ)) (least greatest : Key) → IsCut newer least greatest in_newer → IsCut older least greatest in_older → (r : Result Index Memory)
    → IfOk r (λ run. HaveSamePlaces (in_newer ++ in_older) run.pairs) → IfOk r (λ run. IsCut (newer ++ older) least greatest run.pairs)
made newer older in_newer in_older least greatest cut_newer cut_older (Ok run) same = cut_both newer older in_newer in_older run.pairs least greatest cut_newer cut_older same
made newer older in_newer in_older least greatest cut_newer cut_older (Err e) same = tt

pub returns : goal.returns
returns c = λ newer cut.
    made newer c.args.older.now.pairs c.deref.result.now c.between.result.now c.args.least c.args.greatest (rw c.deref.ensures.value (rw (← c.self.view_is) at cut)) c.between.ensures.places c.of_both.result c.of_both.ensures
