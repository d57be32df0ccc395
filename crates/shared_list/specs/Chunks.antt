-- A list in chunks, one after another.
use Rattle.std.specs.Prelude.{◌≡◌, ⊤, ℕ, ◌+◌, ◌<◌, ◌≤◌, Bool, false, List, [], ◌∷◌, length, slice_index_or, Option, None, Some}
use Rattle.std.specs.List.{flat_map}
use Rattle.shared_list.specs.Placed.{Placed}

module _ {T : Type 0} where
  -- all items, one chunk's after another's
  abbrev pub joined : List (Placed T) → List T
  joined chunks = flat_map (λ (chunk : Placed T). chunk.items) chunks

  -- the chunk has items, and so many stand before them
  pub record IsChunk (before : ℕ) (chunk : Placed T) : Type 0 where
    pub from : chunk.from ≡ before
    pub some : 0 < length chunk.items

  -- chunks that stand one after another, with so many items before them
  abbrev pub StandFrom : ℕ → List (Placed T) → Type 0
  StandFrom before [] = ⊤
  StandFrom before (chunk ∷ chunks) = IsChunk before chunk × StandFrom (before + length chunk.items) chunks

  -- chunks that make up a list of so many items
  pub record AreChunks (chunks : List (Placed T)) (count : ℕ) : Type 0 where
    pub stand : StandFrom 0 chunks
    pub len : count ≡ length (joined chunks)

  -- the item at place i of the list stands in chunk at
  pub record IsChunkAt (chunks : List (Placed T)) (i at : ℕ) : Type 0 where
    pub within : at < length chunks
    pub from : (d : Placed T) → (slice_index_or chunks at d).from ≤ i
    pub below : (d : Placed T) → let chunk = slice_index_or chunks at d in i < chunk.from + length chunk.items

  -- an item that goes to place i of the list may go into chunk at, among its items or behind them
  pub record IsGapIn (chunks : List (Placed T)) (i at : ℕ) : Type 0 where
    pub within : at < length chunks
    pub from : (d : Placed T) → (slice_index_or chunks at d).from ≤ i
    pub upto : (d : Placed T) → let chunk = slice_index_or chunks at d in i ≤ chunk.from + length chunk.items

  -- the chunk for place i; where there is none, the place is the list's end
  abbrev pub IsGapOrEnd : List (Placed T) → ℕ → Option ℕ → Type 0
  IsGapOrEnd chunks i None = i ≡ length (joined chunks)
  IsGapOrEnd chunks i (Some at) = IsGapIn chunks i at

  -- the chunk with one item more before it
  abbrev pub later : Placed T → Placed T
  later chunk = record chunk { from = chunk.from + 1 }

  -- whether a test passes the first of some items; no item passes none
  abbrev pub passes_first : (T → Bool) → List T → Bool
  passes_first p [] = false
  passes_first p (item ∷ items) = p item
