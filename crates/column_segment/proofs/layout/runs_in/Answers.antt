use Rattle.std.proofs.Common.{◌∙◌, arith}
use Rattle.column_segment.proofs.Layouts.{one_begins, none_begins}
use Rattle.column_segment.proofs.layout.runs_in.Goals as goal
use Rattle.column_segment.proofs.layout.runs_in.Goals.{then-begins, else-begins}

pub loop-i-preserved : goal.loop-i-preserved
loop-i-preserved c = elim c.if-begins.branch [
  | then-begins w ↦ record {
    bound = omega (arith, w.runs-is, c.loop-i.invariant.bound);
    runs = λ others match. w.runs-is ∙ one_begins others c.loop-i.i _ _ (c.begins.ensures others match) w.if-begins.true (c.loop-i.invariant.runs others match);
  }
  | else-begins w ↦ record {
    bound = omega (arith, w.runs-is, c.loop-i.invariant.bound);
    runs = λ others match. w.runs-is ∙ none_begins others c.loop-i.i _ _ (c.begins.ensures others match) w.if-begins.false (c.loop-i.invariant.runs others match);
  }
]
