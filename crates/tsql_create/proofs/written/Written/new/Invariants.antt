use Rattle.std.proofs.Common.{◌≡◌, ◌++◌, drop, length}
use Rattle.tsql_create.specs.Written.{columns, keys}
use Rattle.tsql_create.proofs.written.Written.new.Given as goal

abbrev pub invariant-loop-part : goal.invariant-loop-part
invariant-loop-part l = record {
  columns : l.written.columns ++ columns (drop l.part-index l.parts) ≡ columns l.parts;
  keys : l.written.keys ++ keys (length l.written.columns) (drop l.part-index l.parts) ≡ keys 0 l.parts;
}
