use Rattle.std.proofs.Common.{◌∙◌, List, sym, ap}
use Rattle.std.proofs.lemmas.Result.{on_ok_weaker}
use Rattle.write_set.specs.declared.write.Write.{Write}
use Rattle.write_set.specs.Writes.{put}
use Rattle.write_set.proofs.Puts.{put-found, put-gap}
use Rattle.write_set.proofs.list.Writes.put.Goals as goal

pub returns-in-Ok-clause-ok : goal.returns-in-Ok-clause-ok
returns-in-Ok-clause-ok c =
    on_ok_weaker c.replace.result
    (λ is. is ∙ sym (put-found c.self.inside.list c.args.write c.in-Ok.place c.self.invariant c.in-Ok.ensures.found) ∙ ap (λ (l : List Write). put l c.args.write) c.self.view_is)
    c.replace.ensures.ok

pub returns-in-Err-clause-ok : goal.returns-in-Err-clause-ok
returns-in-Err-clause-ok c =
    on_ok_weaker c.insert.result
    (λ is. is ∙ sym (put-gap c.self.inside.list c.args.write c.in-Err.place c.in-Err.ensures.absent) ∙ ap (λ (l : List Write). put l c.args.write) c.self.view_is)
    c.insert.ensures.ok
