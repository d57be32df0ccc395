-- The runs of an index, which shares of it have in common.
use Rattle.std.specs.Prelude.{ℕ, List, map}
use Rattle.std.specs.declared.alloc.Global.{Global}
use Rattle.std.specs.declared.sync.Arc.{Arc}
use Rattle.cs_types.specs.declared.Key.{Key}
use Rattle.delta_store.specs.declared.run.Run.{Run}
use Rattle.delta_store.specs.Index.{newest_first}

-- the pairs of a run
abbrev pub pairs_in : Arc Run Global → List (Key × ℕ)
pairs_in run = let held = run.value in held.pairs

-- the pairs of runs, the oldest run given first and those of newer runs first
abbrev pub pairs_of : List (Arc Run Global) → List (Key × ℕ)
pairs_of runs = newest_first (map pairs_in runs)
