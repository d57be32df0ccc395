-- Who holds the groups of a ledger.
use Rattle.std.specs.Prelude.{ℕ, List, map}
use Rattle.cs_model.specs.declared.work.Actor.{Actor}
use Rattle.group_view.specs.declared.claim.Claim.{Claim}
use Rattle.group_view.specs.declared.parts.GroupPart.{GroupPart}

-- the groups that a claim works on, with the actor that holds it
abbrev pub holders_of : Actor × Claim → List (ℕ × Actor)
holders_of held = map (λ (part : ℕ × GroupPart). (part.0, held.0)) held.1.view.groups
