use Rattle.std.proofs.Common.{◌≡◌}
use Rattle.cs_outside.proofs.arguments.after_first.Given as goal

-- the words so far are what came after the first item
abbrev pub invariant-loop-word : goal.invariant-loop-word
invariant-loop-word g l = l.words.items ≡ l.yielded
