use Rattle.std.proofs.Common.{◌≡◌, ◌++◌, map, drop}
use Rattle.cs_model.specs.declared.plan.Item.TheVariants as items
use Rattle.bind_forms.proofs.select.all_items.Given as goal

abbrev pub invariant-loop-column : goal.invariant-loop-column
invariant-loop-column l = l.made ++ map items.Column (drop l.column-index l.column-items) ≡ map items.Column l.column-items
