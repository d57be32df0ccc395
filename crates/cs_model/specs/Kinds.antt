-- The kinds of statements, and what each kind does.
use Rattle.std.specs.Prelude.{Bool, true, false}
use Rattle.cs_model.specs.declared.entry.Bound.{Bound}
use Rattle.cs_model.specs.declared.entry.Bound.TheVariants as bound
use Rattle.cs_model.specs.declared.kind.Kind.{Kind}
use Rattle.cs_model.specs.declared.kind.Kind.TheVariants as kind

abbrev pub kind_of : Bound → Kind
kind_of bound.Begin = kind.Control
kind_of bound.Commit = kind.Control
kind_of bound.Rollback = kind.Control
kind_of bound.Nothing = kind.Control
kind_of (bound.Statistics on) = kind.Control
kind_of (bound.Insert plan) = kind.Insert
kind_of (bound.Update plan) = kind.Change
kind_of (bound.Delete condition) = kind.Change
kind_of (bound.Select query) = kind.Query
kind_of bound.GroupReport = kind.Report
kind_of bound.SegmentReport = kind.Report
kind_of (bound.Reorganize all) = kind.Reorganize
kind_of (bound.Refused refusal) = kind.Refused

abbrev pub kind_is_of_table : Kind → Bool
kind_is_of_table kind.Control = false
kind_is_of_table kind.Insert = true
kind_is_of_table kind.Change = true
kind_is_of_table kind.Query = true
kind_is_of_table kind.Report = false
kind_is_of_table kind.Reorganize = false
kind_is_of_table kind.Refused = false

abbrev pub kind_is_write : Kind → Bool
kind_is_write kind.Control = false
kind_is_write kind.Insert = true
kind_is_write kind.Change = true
kind_is_write kind.Query = false
kind_is_write kind.Report = false
kind_is_write kind.Reorganize = false
kind_is_write kind.Refused = false

abbrev pub kind_is_insert : Kind → Bool
kind_is_insert kind.Control = false
kind_is_insert kind.Insert = true
kind_is_insert kind.Change = false
kind_is_insert kind.Query = false
kind_is_insert kind.Report = false
kind_is_insert kind.Reorganize = false
kind_is_insert kind.Refused = false

-- whether a statement is one of the table, which takes a snapshot, in a transaction of its own where none is open
abbrev pub is_of_table : Bound → Bool
is_of_table b = kind_is_of_table (kind_of b)

-- INSERT, UPDATE and DELETE
abbrev pub is_write : Bound → Bool
is_write b = kind_is_write (kind_of b)

abbrev pub is_insert : Bound → Bool
is_insert b = kind_is_insert (kind_of b)
