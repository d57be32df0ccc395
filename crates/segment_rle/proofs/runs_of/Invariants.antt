use Rattle.segment_rle.proofs.RunLemmas.{HasRuns}
use Rattle.segment_rle.proofs.runs_of.Given as goal

abbrev pub invariant-loop-i : goal.invariant-loop-i
invariant-loop-i l = HasRuns l.codes l.run_codes.items l.ends.items l.i
