use Rattle.std.proofs.Common.{ℕ, sym, ap, ◌∙◌}
use Rattle.std.specs.Prelude.{◌==◌}
use Rattle.std.specs.List.{list_any}
use Rattle.cs_model.specs.declared.work.Actor.{Actor}
use Rattle.group_view.specs.declared.claim.Claim.{Claim}
use Rattle.group_view.specs.declared.parts.GroupPart.{GroupPart}
use Rattle.group_view.proofs.Chosen.{claimed_as}
use Rattle.group_view.proofs.claimed.is_claimed.Goals as goal

pub returns : goal.returns
returns c = λ group same.
    c.is_sourced.ensures ∙ ap (λ (id : ℕ). list_any (λ (held : Actor × Claim). list_any (λ (part : ℕ × GroupPart). part.0 == id) held.1.view.groups) c.args.claims.now) (sym same)
    ∙ claimed_as c.args.claims.now group
