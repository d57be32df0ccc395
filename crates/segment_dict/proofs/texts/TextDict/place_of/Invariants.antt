use Rattle.std.proofs.Common.{◌-◌}
use Rattle.std.specs.Cmp.Lexicographic.{slice_cmp}
use Rattle.std.specs.Ordering.{nat_cmp}
use Rattle.segment_dict.specs.Texts.{texts_in}
use Rattle.segment_dict.proofs.Searches.{Narrows}
use Rattle.segment_dict.proofs.texts.TextDict.place_of.Given as goal

abbrev pub invariant-loop-low : goal.invariant-loop-low
invariant-loop-low l = Narrows (slice_cmp nat_cmp) (texts_in l.self.ends l.self.bytes) l.text l.low l.high

abbrev pub decreases-loop-low : goal.decreases-loop-low
decreases-loop-low l = l.high - l.low
