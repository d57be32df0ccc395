-- What a started statement hands over.
use Rattle.std.proofs.Common.{◌≡◌, ◌∙◌, true, false, refl, sym, ap, subst}
use Rattle.std.specs.Prelude.{Option, None, Some, IsSome}
use Rattle.cs_model.specs.declared.entry.Bound.{Bound}
use Rattle.cs_model.specs.Kinds.{is_of_table}
use Rattle.log_laws.specs.Started.{Begun}
use Rattle.group_view.specs.declared.view.Pinned.{Pinned}
use Rattle.row_work.specs.Reads.{MayRead}
use Rattle.statement_core.specs.declared.started.Started.{Started}
use Rattle.statement_core.specs.Begun.{IsPinnedFor, Pins}
use Rattle.statement_work.specs.Clerks.{IsBegun}
use Rattle.statement_work.proofs.Seen.{may_read}

module _ (begun : Begun) (started : Started) (statement : Bound) (is : IsBegun begun started statement) (table : is_of_table statement ≡ true) where
  handed : IsPinnedFor begun started.pinned
  handed = is.hands.pinned (ap is_of_table is.bound ∙ table) is.long

  some_step : (o : Option Pinned) → IsPinnedFor begun o → IsSome o
  some_step None pins = absurd pins
  some_step (Some pinned) pins = refl

  -- something is pinned for a statement of the table
  pub is_pinned : IsSome started.pinned
  is_pinned = some_step started.pinned handed

  module _ (pinned : Pinned) (there : started.pinned ≡ Some pinned) where
    pub pins_of : Pins begun pinned
    pins_of = subst (IsPinnedFor begun) there handed

    pub may_read_it : MayRead started.terms.value.schema.value pinned
    may_read_it = subst (λ schema. MayRead schema pinned) (sym is.hands.schema) (may_read begun pinned pins_of is.work)
