-- The codes of a column's cells as their ranks.
use Rattle.std.proofs.Common.{◌≡◌, ℕ, ◌<◌, List, [], length, get_or, refl, sym, ap, subst, arith, Result, Ok, Err, IfOk}
use Rattle.std.specs.List.{All, range_with_len, slice_get}
use Rattle.std.specs.List.Sorted.{IsPermutation}
use Rattle.std.proofs.lemmas.Option.{slice_get_read}
use Rattle.cs_types.specs.declared.Value.{Value}
use Rattle.cs_types.specs.declared.Value.TheVariants.{Null}
use Rattle.cs_types.specs.Values.{value_cmp}
use Rattle.column_segment.specs.Ranks.{AreCellRanks}
use Rattle.row_group.specs.declared.ranks.Ranks.{Ranks}
use Rattle.row_group.specs.Orders.{AreRanks}
use Rattle.row_group.specs.Arranged.{AreColumnRanks, codes_of}
use Rattle.row_group.proofs.RankLemmas.{ranks-dense}

-- an order of rows is one of each column's cells
pub columns-permuted : (columns : List (List Value)) (n : ℕ) (order : List ℕ) → All (λ cells. length cells ≡ n) columns → IsPermutation (range_with_len 0 n) order → All (λ cells. IsPermutation (range_with_len 0 (length cells)) order) columns
columns-permuted columns n order even all = λ k d l. subst (λ m. IsPermutation (range_with_len 0 m) order) (sym (even k d l)) all

-- the codes of a column are read
pub ranks-read : (columns : List (List Value)) (all : List Ranks) (c : ℕ) (ranks : Ranks) → AreColumnRanks columns all → c < length columns → ranks ≡ get_or all c ranks → AreRanks value_cmp (get_or columns c []) ranks.codes.items ranks.count
ranks-read columns all c ranks are there is = are.1 c ranks (slice_get_read all (length all) c ranks refl (omega (arith, are.0)) is)

pub codes-read : (all : List Ranks) (c : ℕ) (ranks : Ranks) → c < length all → ranks ≡ get_or all c ranks → codes_of (slice_get all c) ≡ ranks.codes.items
codes-read all c ranks there is = ap codes_of (slice_get_read all (length all) c ranks refl there is)

-- the codes of cells are their ranks
pub codes-ranks : (cells : List Value) (codes : List ℕ) (count : ℕ) → AreRanks value_cmp cells codes count → All (λ code. code < count) codes → AreCellRanks cells codes count
codes-ranks cells codes count ranks below = record {
  counted = ranks.counted;
  agree = λ i j l m. ranks.agree i j Null l m;
  dense = record { below = below; taken = ranks-dense value_cmp cells codes count ranks };
}

-- a result of which two things hold
pub both-hold : {X Y : Type 0} (r : Result X Y) (P Q : X → Type 0) → IfOk r P → IfOk r Q → IfOk r (λ x. P x × Q x)
both-hold (Ok x) P Q p q = (p, q)
both-hold (Err e) P Q p q = tt
