-- What the steps of a comparison of a text with a pattern find.
use Rattle.std.specs.Prelude.{◌≡◌, ℕ, suc, Bool, true, false, length, ⊤}
use Rattle.cs_predicate.specs.declared.pattern.Verdict.{Verdict}
use Rattle.cs_predicate.specs.declared.pattern.Verdict.TheVariants.{Like, Unlike, Open}
use Rattle.cs_model.specs.Likes.{has_end, is_like}

-- what a comparison up to the next `%` says: for `Open` that an end of the text that is left is like the pattern after
abbrev pub says : Verdict → Bool
says Like = true
says Unlike = false
says (Open pattern text) = has_end (is_like pattern.now) text.now

-- but for `Unlike` it says of the text's ends too whether one of them is like the pattern
abbrev pub SaysOfEnds : Verdict → Bool → Type 0
SaysOfEnds Like answer = answer ≡ true
SaysOfEnds Unlike answer = ⊤
SaysOfEnds (Open pattern text) answer = answer ≡ has_end (is_like pattern.now) text.now

-- how much of the pattern is left to compare
abbrev pub to_compare : Verdict → ℕ
to_compare Like = 0
to_compare Unlike = 0
to_compare (Open pattern text) = suc (length pattern.now)
