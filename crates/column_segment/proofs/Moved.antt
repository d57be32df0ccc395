-- Cells in another order: their dictionary is the same, and their codes are in that order too.
use Rattle.std.proofs.Common.{◌≡◌, ℕ, ◌<◌, List, length, map, get_or, refl, sym, ◌∙◌, ap, subst, arith, Bool, Option, None, Some, IsNone, slice_get}
use Rattle.std.specs.List.{All, range_with_len}
use Rattle.std.specs.List.Sorted.{IsPermutation}
use Rattle.std.specs.declared.cmp.Ordering.{Ordering}
use Rattle.std.proofs.lemmas.List.{get_or-map, length-map}
use Rattle.std.proofs.lemmas.List.FromFn.{fill_by_all, length-range_with_len, get_or-range_with_len}
use Rattle.std.proofs.lemmas.List.Sorted.{IsPermutation-map, IsPermutation-sym, All-permutation, Contains-permutation}
use Rattle.std.proofs.lemmas.Option.{slice_get-get_or, slice_get_within, get_or_from_slice_get, unwrap_or-slice_get}
use Rattle.segment_dict.specs.declared.Dict.{Dict}
use Rattle.segment_dict.specs.declared.Dict.TheVariants.{Numbers, Texts}
use Rattle.segment_dict.specs.Dictionaries.{IsDictOf}
use Rattle.cs_types.specs.declared.Value.{Value}
use Rattle.cs_types.specs.declared.Value.TheVariants.{Null}
use Rattle.cs_types.specs.Rows.{cell_at}
use Rattle.column_segment.specs.Cells.{number_of, text_of, HasText, HasNoText}
use Rattle.column_segment.specs.Dicts.{IsDictFor, IsDictCode, AreDictCodes, IsCoded}
use Rattle.column_segment.specs.Ranks.{ArePicked}

-- the places of an order are those of the range
pub range-within : (n : ℕ) (order : List ℕ) → IsPermutation (range_with_len 0 n) order → All (λ place. place < n) order
range-within n order moved =
    All-permutation (λ place. place < n) (range_with_len 0 n) order moved
    (λ k d l. let m : k < n = omega (arith, length-range_with_len 0 n) in omega (arith, get_or-range_with_len 0 n k d m))

-- cells in an order are the cells
pub cells-moved : (cells : List Value) (order : List ℕ) → IsPermutation (range_with_len 0 (length cells)) order → IsPermutation cells (map (cell_at cells) order)
cells-moved cells order all =
    let before = fill_by_all (cell_at cells) cells (length cells) Null refl (λ k l. sym (unwrap_or-slice_get cells k Null)) in
    subst (λ (some : List Value). IsPermutation some (map (cell_at cells) order)) (sym before)
    (IsPermutation-map (cell_at cells) (range_with_len 0 (length cells)) order all)

of-moved : {X : Type 0} {cmp : X → X → Ordering} (of : Value → Option X) (cells others : List Value) (entries : List X) (nulls : Bool) → IsPermutation cells others → IsDictOf cmp (map of cells) entries nulls → IsDictOf cmp (map of others) entries nulls
of-moved of cells others entries nulls moved is =
    let there = IsPermutation-map of cells others moved in
    let back = IsPermutation-sym (map of cells) (map of others) there in
    record {
      ascending = is.ascending;
      same = λ x. (
        (λ has. Contains-permutation (map of cells) (map of others) (Some x) there ((is.same x).0 has)),
        (λ has. (is.same x).1 (Contains-permutation (map of others) (map of cells) (Some x) back has)),
      );
      null = (
        (λ t. Contains-permutation (map of cells) (map of others) None there (is.null.0 t)),
        (λ has. is.null.1 (Contains-permutation (map of others) (map of cells) None back has)),
      );
    }

pub text-moved : (cells others : List Value) → IsPermutation cells others → HasText cells → HasText others
text-moved cells others moved (k, v, l, e, text) =
    let (j, m, f) = Contains-permutation cells others v moved (k, l, e) in
    (j, v, m, f, text)

pub no-text-moved : (cells others : List Value) → IsPermutation cells others → HasNoText cells → HasNoText others
no-text-moved cells others moved none = All-permutation (λ cell. IsNone (text_of cell)) cells others moved none

dict-moved : (cells others : List Value) (dict : Dict) → IsPermutation cells others → IsDictFor cells dict → IsDictFor others dict
dict-moved cells others (Numbers dict) moved is = (
  no-text-moved cells others moved is.0,
  of-moved number_of cells others dict.entries dict.nulls moved is.1,
)
dict-moved cells others (Texts dict) moved is = (
  text-moved cells others moved is.0,
  All-permutation (λ cell. IsNone (number_of cell)) cells others moved is.1,
  of-moved text_of cells others _ dict.nulls moved is.2,
)

-- the codes of cells in an order are their codes in that order
pub coded-moved : (cells : List Value) (dict : Dict) (ranks order codes : List ℕ) → 0 < length order → IsPermutation (range_with_len 0 (length cells)) order → IsDictFor cells dict → AreDictCodes dict cells ranks → ArePicked ranks order codes → IsCoded (map (cell_at cells) order) dict codes
coded-moved cells dict ranks order codes some all is are picked = (
  omega (arith, some, length-map order (cell_at cells)),
  dict-moved cells (map (cell_at cells) order) dict (cells-moved cells order all) is,
  (picked.0 ∙ sym (length-map order (cell_at cells)), at),
)
  where
    at : (i : ℕ) (v : Value) → slice_get (map (cell_at cells) order) i ≡ Some v → IsDictCode dict v (get_or codes i 0)
    at i v e =
        let l : i < length order = omega (arith, slice_get_within (map (cell_at cells) order) i v e, length-map order (cell_at cells)) in
        let p : ℕ = get_or order i 0 in
        let m : p < length cells = range-within (length cells) order all i 0 l in
        let here : get_or cells p Null ≡ v =
        sym (get_or-map (cell_at cells) order i 0 Null l ∙ unwrap_or-slice_get cells p Null) ∙ get_or_from_slice_get (map (cell_at cells) order) i v Null e in
        subst (λ (code : ℕ). IsDictCode dict v code) (sym (picked.1 i 0 l)) (are.1 p v (slice_get-get_or cells p Null m ∙ ap Some here))
