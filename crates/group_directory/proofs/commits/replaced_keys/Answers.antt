use Rattle.std.proofs.Common.{ap, sym, ◌∙◌, ◌++◌, ◌∷◌, [], List}
use Rattle.cs_types.specs.declared.Key.{Key}
use Rattle.group_directory.specs.Calls.{replaced_in}
use Rattle.group_directory.proofs.CommitLaws.{replaced_more}
use Rattle.group_directory.proofs.commits.replaced_keys.Goals as goal

pub loop-i-preserved : goal.loop-i-preserved
loop-i-preserved c =
    c.in_ok-add_replaced.ensures
    ∙ ap (λ (keys : List Key). keys ++ replaced_in (c.get.result.now ∷ [])) c.loop-i.invariant
    ∙ sym (replaced_more c.args.own.now c.loop-i.i c.get.result.now c.get.ensures)
