use Rattle.std.proofs.Common.{◌++◌, ◌∷◌, [], List, sym, ap, subst, ◌∙◌}
use Rattle.std.specs.List.{AllZip}
use Rattle.std.specs.Vec.Iter.{into_iter_items}
use Rattle.std.proofs.lemmas.List.{append_assoc}
use Rattle.group_directory.specs.Committing.{NewGroup, IsNewGroupOf}
use Rattle.group_directory.proofs.LoadLemmas.{zip_push}
use Rattle.group_directory.proofs.commit_loads.loads_of.Goals as goal

pub loop-group-preserved : goal.loop-group-preserved
loop-group-preserved c = record {
  made = subst (λ (loads : List NewGroup). AllZip (IsNewGroupOf c.args.c) (c.loop-group.yielded ++ c.in-Some.group ∷ []) loads) (sym c.in_ok-push.ensures.items)
      (zip_push c.args.c c.loop-group.yielded c.loop-group.loads.items c.in-Some.group c.in_ok-load_of.field-0 c.loop-group.invariant.made c.in_ok-load_of.ensures);
  rest = append_assoc c.loop-group.yielded (c.in-Some.group ∷ []) (into_iter_items c.next.new.self)
      ∙ ap (λ items. c.loop-group.yielded ++ items) (sym c.in-Some.ensures.steps.0) ∙ c.loop-group.invariant.rest;
}
