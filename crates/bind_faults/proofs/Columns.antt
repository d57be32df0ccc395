-- One more of the columns that an INSERT names or an UPDATE sets.
use Rattle.std.proofs.Common.{◌≡◌, ℕ, ◌+◌, ◌<◌, length, drop, get_or, map, List, ◌∷◌, ◌++◌, Bool, true, false, ◌&&◌, ◌||◌, Option, refl, ap, sym, ◌∙◌}
use Rattle.std.specs.Prelude.{if◌then◌else◌}
use Rattle.cs_types.specs.declared.Column.{Column}
use Rattle.tsql_trees.specs.declared.leaf.NameTree.{NameTree}
use Rattle.cs_base.specs.Names.{same_name}
use Rattle.bind_faults.specs.declared.fault.Fault.{Fault}
use Rattle.bind_faults.specs.Least.{fault, fault_if, earlier, least}
use Rattle.bind_faults.specs.Columns.{names_of}
use Rattle.bind_faults.proofs.Leasts.{taken, drop_here}

-- the faults of a column's further names, where one was seen or not
abbrev pub later_faults : Column → Bool → List NameTree → List Fault
later_faults column seen names = map (λ n. fault 50001 n.place) (drop (if seen then 0 else 1) (names_of column names))

one_name : (column : Column) (seen : Bool) (n : NameTree) (rest : List NameTree) → later_faults column seen (n ∷ rest)
    ≡ fault_if (seen && same_name column.name n.bytes) 50001 n.place ++ later_faults column (seen || same_name column.name n.bytes) rest
one_name column seen n rest = go seen (same_name column.name n.bytes)
  where
    go : (s b : Bool) → map (λ (x : NameTree). fault 50001 x.place) (drop (if s then 0 else 1) (if b then n ∷ names_of column rest else names_of column rest))
        ≡ fault_if (s && b) 50001 n.place ++ map (λ (x : NameTree). fault 50001 x.place) (drop (if s || b then 0 else 1) (names_of column rest))
    go true true = refl
    go true false = refl
    go false true = refl
    go false false = refl

module _ {X : Type 0} (name_of : X → NameTree) (column : Column) (w : List X) (i : ℕ) (x : X) (lt : i < length w) (is : x ≡ get_or w i x) where
  pub one_more_name : (seen next_seen : Bool) (found next total : Option Fault) → next_seen ≡ (seen || same_name column.name (name_of x).bytes)
      → next ≡ earlier found (least (fault_if (seen && same_name column.name (name_of x).bytes) 50001 (name_of x).place))
      → earlier found (least (later_faults column seen (map name_of (drop i w)))) ≡ total
      → earlier next (least (later_faults column next_seen (map name_of (drop (i + 1) w)))) ≡ total
  one_more_name seen next_seen found next total s e before =
      let rest = map name_of (drop (i + 1) w) in
      let same = same_name column.name (name_of x).bytes in
      let here : later_faults column seen (map name_of (drop i w)) ≡ fault_if (seen && same) 50001 (name_of x).place ++ later_faults column (seen || same) rest =
      ap (λ z. later_faults column seen (map name_of z)) (drop_here w i x lt is) ∙ one_name column seen (name_of x) rest in
      ap (λ z. earlier next (least (later_faults column z rest))) s
      ∙ taken (fault_if (seen && same) 50001 (name_of x).place) (later_faults column (seen || same) rest) found next total e
      (ap (λ z. earlier found (least z)) (sym here) ∙ before)
