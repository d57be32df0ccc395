-- Versions in chunks of 1,024, own or in pieces that others may have in common.
use Rattle.std.specs.Prelude.{◌≡◌, ℕ, ◌+◌, ◌-◌, ◌*◌, ◌≤◌, ◌++◌, min, List, [], map, length, slice_index_or, Bool, true, false, Option, Some, None, Vec, vec_len, vec_capacity}
use Rattle.std.specs.List.{flat_map}
use Rattle.std.specs.declared.alloc.Global.{Global}
use Rattle.std.specs.declared.sync.Arc.{Arc}
use Rattle.delta_store.specs.declared.chunk.Chunk.{Chunk}
use Rattle.delta_store.specs.declared.pieces.Pieces.{Pieces}
use Rattle.delta_store.specs.declared.version.LinkedVersion.{LinkedVersion}

-- the version with this end
abbrev pub linked_ended : ℕ → LinkedVersion → LinkedVersion
linked_ended end v = record v { keyed = record v.keyed { version = record v.keyed.version { end = Some end } } }

-- the versions of a piece, and those of pieces, one after another
abbrev pub piece_in : Arc (Vec LinkedVersion Global) Global → List LinkedVersion
piece_in piece = let whole = piece.value in whole.items

abbrev pub pieces_in : List (Arc (Vec LinkedVersion Global) Global) → List LinkedVersion
pieces_in pieces = flat_map piece_in pieces

-- the versions that others may have in common: those of the first piece, if there is one, and of the pieces after it
abbrev pub first_in : Option (Arc (Vec LinkedVersion Global) Global) → List LinkedVersion
first_in None = []
first_in (Some piece) = piece_in piece

abbrev pub shared_in : Pieces → List LinkedVersion
shared_in pieces = first_in pieces.first ++ pieces_in pieces.more.items

-- the versions of a chunk: those of its pieces, and then its own
abbrev pub versions_in : Chunk → List LinkedVersion
versions_in chunk = shared_in chunk.pieces ++ chunk.own.items

-- for each version of a chunk, whether it is own
abbrev pub owns_in : Chunk → List Bool
owns_in chunk = map (λ v. false) (shared_in chunk.pieces) ++ map (λ v. true) chunk.own.items

-- the place in a chunk from which its versions are own
abbrev pub own_from : Chunk → ℕ
own_from chunk = length (shared_in chunk.pieces)

-- how many more versions a chunk takes without memory
abbrev pub free_in : Chunk → ℕ
free_in chunk = vec_capacity chunk.own - vec_len chunk.own

-- the chunk has the same versions, no less room, and those that were own are
pub record IsKept (old new : Chunk) : Type 0 where
  pub versions : versions_in new ≡ versions_in old
  pub free : free_in old ≤ free_in new
  pub own : own_from new ≤ own_from old

-- what contracts see of chunks: all their versions, one chunk's after another's, for each version whether it is own, and
-- how many more versions find room without memory
pub record Chunked : Type 0 where
  pub versions : List LinkedVersion
  pub own : List Bool
  pub spare : ℕ

-- all versions, one chunk's after another's, and for each whether it is own
abbrev pub joined : List Chunk → List LinkedVersion
joined chunks = flat_map (λ part. part) (map versions_in chunks)

abbrev pub owned : List Chunk → List Bool
owned chunks = flat_map (λ part. part) (map owns_in chunks)

-- the versions of the chunk at place i, how many more it takes, and from where they are own; of a chunk that is not there none
abbrev pub versions_at : List Chunk → ℕ → List LinkedVersion
versions_at chunks i = slice_index_or (map versions_in chunks) i []

abbrev pub free_at : List Chunk → ℕ → ℕ
free_at chunks i = slice_index_or (map free_in chunks) i 0

abbrev pub own_at : List Chunk → ℕ → ℕ
own_at chunks i = slice_index_or (map own_from chunks) i 0

-- the first `len` places have versions, 1,024 a chunk, and those below `room` find room
pub record AreFilled (chunks : List Chunk) (len room : ℕ) : Type 0 where
  pub filled : (i : ℕ) → length (versions_at chunks i) ≡ min 1024 (len - 1024 * i)
  pub free : (i : ℕ) → min 1024 (room - 1024 * i) ≤ length (versions_at chunks i) + free_at chunks i

-- each chunk is kept, and new ones are empty
pub record AreKept (old new : List Chunk) : Type 0 where
  pub versions : (i : ℕ) → versions_at new i ≡ versions_at old i
  pub free : (i : ℕ) → free_at old i ≤ free_at new i
  pub own : (i : ℕ) → own_at new i ≤ own_at old i
