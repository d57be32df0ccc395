-- What the clerk works on.
use Rattle.std.specs.Prelude.{◌≡◌, ℕ, List, false, true, Option}
use Rattle.cs_types.specs.declared.Key.{Key}
use Rattle.cs_types.specs.declared.Schema.{Schema}
use Rattle.cs_model.specs.declared.entry.Bound.{Bound}
use Rattle.cs_model.specs.Kinds.{is_write}
use Rattle.write_set.specs.declared.write.Write.{Write}
use Rattle.log_laws.specs.Started.{Begun}
use Rattle.group_book.specs.Commits.{Sizes}
use Rattle.group_view.specs.declared.claim.Parcel.{Parcel}
use Rattle.statement_core.specs.declared.started.Started.{Started}
use Rattle.statement_core.specs.Begun.{Hands, MayWork}
use Rattle.statement_core.specs.Outcomes.{GivesWrites, IsParcelled}

-- this statement was begun, and its Start found memory
pub record IsBegun (begun : Begun) (started : Started) (statement : Bound) : Type 0 where
  pub hands : Hands begun started
  pub work : MayWork begun
  pub bound : begun.bound ≡ statement
  pub long : begun.short ≡ false

-- with their parcel these are the writes of what was begun
pub record NeedsParcel (sizes : Sizes) (begun : Begun) (list : List Write) (present : List Key) (affected : ℕ) : Type 0 where
  pub long : begun.short ≡ false
  pub write : is_write begun.bound ≡ true
  pub gives : (parcel : Option Parcel) → IsParcelled sizes begun list present parcel → GivesWrites sizes begun list present affected parcel
