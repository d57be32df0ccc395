-- Entries that come among others.
use Rattle.std.specs.Prelude.{List}
use Rattle.delete_buffer.specs.declared.batches.Added.{Added}
use Rattle.delete_buffer.specs.declared.batches.Added.TheVariants.{Ended, Entries}
use Rattle.delete_buffer.specs.Entries.{Entry, ended}

-- the entries that come: one of each key, all with one end, or those given
abbrev pub entries_of : Added → List Entry
entries_of (Ended keys end) = ended keys.now end
entries_of (Entries entries) = entries.now
