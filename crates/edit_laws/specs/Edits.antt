-- Writes as the edits of the row model.
use Rattle.std.specs.Prelude.{List, map, Bool}
use Rattle.std.specs.List.{list_any}
use Rattle.cs_types.specs.declared.Key.{Key}
use Rattle.write_set.specs.declared.write.Write.{Write}
use Rattle.cs_types.specs.Keys.{same_key}
use Rattle.cs_model.specs.Changes.{Edit}

abbrev pub edit_of : Write → Edit
edit_of write = (write.key, write.row)

abbrev pub edits_of : List Write → List Edit
edits_of writes = map edit_of writes

-- whether one of the writes is of the key
abbrev pub writes_key : List Write → Key → Bool
writes_key writes key = list_any (λ (write : Write). same_key key write.key) writes
