-- A list of writes that is shared.
use Rattle.std.specs.Prelude.{List, [], Option, None, Some}
use Rattle.std.specs.declared.sync.Arc.{Arc}
use Rattle.std.specs.declared.alloc.Global.{Global}
use Rattle.write_set.specs.declared.list.Writes.{Writes}
use Rattle.write_set.specs.declared.write.Write.{Write}

-- the writes, where there are some
abbrev pub writes_in : Option (Arc Writes Global) → List Write
writes_in None = []
writes_in (Some shared) = shared.value
