-- Shares of a claim.
use Rattle.std.specs.Prelude.{◌≡◌}
use Rattle.group_view.specs.declared.claim.Claim.{Claim}

-- the other claim is the same, and shares what the claim shares
pub record IsShareOf (claim other : Claim) : Type 0 where
  pub choice : other.choice ≡ claim.choice
  pub fresh : other.fresh ≡ claim.fresh
  pub floor : other.floor ≡ claim.floor
  pub schema : other.schema.value ≡ claim.schema.value
  pub groups : other.view.groups ≡ claim.view.groups
  pub buffer : other.view.buffer.value ≡ claim.view.buffer.value
  pub from : other.view.floor ≡ claim.view.floor
  pub to : other.view.clock ≡ claim.view.clock
  pub entries : other.entries ≡ claim.entries
