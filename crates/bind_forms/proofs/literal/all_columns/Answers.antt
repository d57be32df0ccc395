use Rattle.std.proofs.Common.{◌++◌, ◌+◌, ◌-◌, length, ◌∷◌, [], ◌∙◌, ap, sym, append_assoc, rules}
use Rattle.std.specs.List.{range_with_len}
use Rattle.bind_forms.proofs.Trees.{range_step}
use Rattle.bind_forms.proofs.literal.all_columns.Goals as goal

pub loop-column-preserved : goal.loop-column-preserved
loop-column-preserved c =
    ap (λ z. z ++ range_with_len (c.loop-column.column + 1) (length c.args.schema.now.columns - (c.loop-column.column + 1))) c.in_ok-push.ensures.ok
    ∙ append_assoc c.loop-column.made (c.loop-column.column ∷ []) (range_with_len (c.loop-column.column + 1) (length c.args.schema.now.columns - (c.loop-column.column + 1)))
    ∙ ap (λ z. c.loop-column.made ++ z) (sym (range_step c.loop-column.column (length c.args.schema.now.columns) (search rules)))
    ∙ c.loop-column.invariant
