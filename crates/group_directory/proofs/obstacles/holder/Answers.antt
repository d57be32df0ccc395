use Rattle.std.proofs.Common.{Option, None, Some}
use Rattle.std.specs.Prelude.{◌≢◌, ℕ, IfSome, IfNone}
use Rattle.txn_table.specs.Txns.{txn_of, Owns, IsHolder}
use Rattle.cs_model.specs.Obstacles.{IsLocked, IsFree}
use Rattle.group_directory.specs.Obstacles.{txns_of}
use Rattle.group_directory.proofs.ObstacleLaws.{locked_is, free_is}
use Rattle.group_directory.proofs.obstacles.holder.Goals as goal

pub returns-clause-some : goal.returns-clause-some
returns-clause-some c = at c.holder.result c.holder.ensures.some
  where
    at : (r : Option ℕ) → IfSome r (IsHolder (txn_of c.args.txns.now) c.args.key c.args.but) → IfSome r (IsLocked (txns_of c.args.txns.now) c.args.but c.args.key)
    at None h = tt
    at (Some number) h = locked_is c.args.txns.now c.args.key c.args.but number h

pub returns-clause-none : goal.returns-clause-none
returns-clause-none c = at c.holder.result c.holder.ensures.none
  where
    at : (r : Option ℕ) → IfNone r ((other : ℕ) → other ≢ c.args.but → Owns (txn_of c.args.txns.now other) c.args.key → ⊥) → IfNone r (IsFree (txns_of c.args.txns.now) c.args.but c.args.key)
    at None h = free_is c.args.txns.now c.args.key c.args.but h
    at (Some number) h = tt
