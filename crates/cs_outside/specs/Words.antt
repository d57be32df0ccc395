-- The words that the program is given.
use Rattle.std.specs.Prelude.{◌≡◌, ◌≢◌, ℕ, List, [], map, drop, string_bytes, String, Result, Ok, Err}
use Rattle.std.specs.declared.alloc.Global.{Global}
use Rattle.std.specs.declared.option.Option.{Option}
use Rattle.std.specs.Iterator.{Drains}
use Rattle.std.specs.IoError.{error_kind}
use Rattle.std.specs.declared.io.Error.{Error}
use Rattle.std.specs.declared.io.ErrorKind.TheVariants.{OutOfMemory}

-- the words, each as its bytes, are the arguments less the first, the program's name; there are none where the arguments
-- are none for another cause than want of memory
abbrev pub AreWords : {S : Type 0} → (S → Option (String Global) → S → Type 0) → Result S Error → List (List ℕ) → Type 0
AreWords steps (Ok args) words = (all : List (String Global)) × Drains steps args all × (words ≡ map string_bytes (drop 1 all))
AreWords steps (Err error) words = (error_kind error ≢ OutOfMemory) × (words ≡ [])
