-- What a statement may be bound to.
use Rattle.std.specs.Prelude.{◌≢◌, ℕ, All}
use Rattle.cs_types.specs.declared.Schema.{Schema}
use Rattle.cs_model.specs.declared.expr.Expr.{Expr}
use Rattle.cs_model.specs.declared.entry.Bound.{Bound}
use Rattle.cs_model.specs.declared.entry.Bound.TheVariants as bound
use Rattle.cs_model.specs.declared.entry.Refusal.{Refusal}
use Rattle.cs_model.specs.declared.entry.Refusal.TheVariants.{Reading, Valued, Locked, Changed, Duplicate, NoTxn, Memory}

-- a refusal of reading, or want of memory: what binding alone may refuse a text for
abbrev pub IsOfReading : Refusal → Type 0
IsOfReading (Reading number at) = Unit {0}
IsOfReading (Valued number row column) = ⊥
IsOfReading (Locked key txn) = ⊥
IsOfReading (Changed key txn commit) = ⊥
IsOfReading (Duplicate key) = ⊥
IsOfReading (NoTxn number) = ⊥
IsOfReading Memory = Unit {0}

-- what a statement may be bound to: an UPDATE sets no key, and reading or want of memory is what refuses a text
abbrev pub IsReady : Schema → Bound → Type 0
IsReady schema bound.Begin = Unit {0}
IsReady schema bound.Commit = Unit {0}
IsReady schema bound.Rollback = Unit {0}
IsReady schema bound.Nothing = Unit {0}
IsReady schema (bound.Statistics on) = Unit {0}
IsReady schema (bound.Insert plan) = Unit {0}
IsReady schema (bound.Update plan) = All (λ (set : ℕ × Expr). set.0 ≢ schema.key) plan.sets
IsReady schema (bound.Delete condition) = Unit {0}
IsReady schema (bound.Select query) = Unit {0}
IsReady schema bound.GroupReport = Unit {0}
IsReady schema bound.SegmentReport = Unit {0}
IsReady schema (bound.Reorganize all) = Unit {0}
IsReady schema (bound.Refused refusal) = IsOfReading refusal
