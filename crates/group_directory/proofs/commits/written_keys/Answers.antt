use Rattle.std.proofs.Common.{ap, sym, ◌∙◌, ◌++◌, ◌∷◌, [], List}
use Rattle.cs_types.specs.declared.Key.{Key}
use Rattle.group_directory.proofs.CommitLaws.{written_more}
use Rattle.group_directory.proofs.commits.written_keys.Goals as goal

pub loop-i-preserved : goal.loop-i-preserved
loop-i-preserved c =
    c.in_ok-push.ensures.items
    ∙ ap (λ (keys : List Key). keys ++ c.get.result.now.key ∷ []) c.loop-i.invariant
    ∙ sym (written_more c.args.own.now c.loop-i.i c.get.result.now c.get.ensures)
