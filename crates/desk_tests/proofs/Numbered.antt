-- Groups of one row each, whose keys count up from 0: what is pinned of them may be read.
use Rattle.std.proofs.Common.{◌≡◌, ◌++◌, ◌+◌, ◌<◌, ◌≤◌, ◌&&◌, if◌then◌else◌, ℕ, zero, suc, pos, nat_abs, List, [], ◌∷◌, map, refl, sym, ap, ◌∙◌, subst, Bool, true, false, IsTrue, Some, None, arith}
use Rattle.std.specs.Prelude.{filter, slice_get}
use Rattle.std.specs.List.{flat_map, range_with_len, All}
use Rattle.std.proofs.lemmas.Int.{ints}
use Rattle.std.proofs.lemmas.List.Concat.{flat_map-append}
use Rattle.std.proofs.lemmas.List.Elements.{All-nil, All-cons, All-map, All-filter, All-same}
use Rattle.std.proofs.lemmas.List.FromFn.{map-range_with_len_more}
use Rattle.cs_types.specs.declared.Column.{Column}
use Rattle.cs_types.specs.declared.ColumnType.TheVariants.{BigInt}
use Rattle.cs_types.specs.declared.Key.{Key}
use Rattle.cs_types.specs.declared.Schema.{Schema}
use Rattle.cs_types.specs.declared.Value.TheVariants.{Number}
use Rattle.cs_types.specs.Keys.{same_key}
use Rattle.cs_types.specs.Kinds.{keeps_number}
use Rattle.cs_types.specs.Rows.{cell_at}
use Rattle.cs_types.specs.Schemas.{may_hold, IsSchema}
use Rattle.cs_types.proofs.KeyLemmas.{one_key}
use Rattle.cs_model.specs.Changes.{laid}
use Rattle.cs_model.specs.Held.{IsFit, IsFitTable}
use Rattle.group_book.specs.Book.{Ending, how_many, is_visible, shows}
use Rattle.edit_laws.specs.Edits.{edits_of}
use Rattle.edit_laws.proofs.Rows.{laid_all}
use Rattle.group_view.specs.declared.parts.GroupPart.{GroupPart}
use Rattle.group_view.specs.declared.view.Pinned.{Pinned}
use Rattle.group_view.specs.Parts.{Rowed, rowed_in, IsFitting}
use Rattle.group_view.specs.Views.{buffer_of, rowed_of, is_shown, shown_edit}
use Rattle.row_work.specs.Reads.{MayRead}

-- the column k
abbrev number_column : Column
number_column = record { name = 107 ∷ []; kind = BigInt; nullable = false }

-- the table t (k bigint NOT NULL PRIMARY KEY)
abbrev pub number_table : Schema
number_table = record { name = 116 ∷ []; columns = number_column ∷ []; key = 0 }

abbrev number_key : ℕ → Key
number_key n = record { 0 = pos n }

-- the version of a row that is this number
abbrev pub number_row : ℕ → Rowed
number_row n = record { version = record { key = number_key n; begin = 1; end = None }; row = Number (pos n) ∷ [] }

-- so many of them
abbrev pub numbered : ℕ → List Rowed
numbered n = map number_row (range_with_len 0 n)

abbrev in_group : ℕ × GroupPart → List Rowed
in_group group = rowed_in group.1

-- a group more
pub one_more : (groups : List (ℕ × GroupPart)) (group : ℕ × GroupPart) (n : ℕ) → flat_map in_group groups ≡ numbered n → in_group group ≡ number_row n ∷ [] → flat_map in_group (groups ++ group ∷ []) ≡ numbered (n + 1)
one_more groups group n before row =
    flat_map-append in_group groups (group ∷ [])
    ∙ ap (λ l. l ++ flat_map in_group (group ∷ [])) before
    ∙ ap (λ l. numbered n ++ (l ++ [])) row
    ∙ sym (map-range_with_len_more number_row 0 n n (omega arith))

-- ---- no key shows twice

front : (p q : Bool) → (p && q) ≡ true → p ≡ true
front true q e = refl
front false q e = e

none_of : (b : Bool) (rest : ℕ) → b ≡ false → rest ≡ 0 → (if b then 1 else 0) + rest ≡ 0
none_of true rest e none = absurd (cc)
none_of false rest e none = omega (arith, none)

module _ (buffer : List Ending) (key : Key) (s : ℕ) where
  abbrev test : Rowed → Bool
  test rowed = shows buffer key s rowed.version

  abbrev count : ℕ → ℕ → ℕ
  count a n = how_many test (map number_row (range_with_len a n))

  other : (k a : ℕ) → key ≡ number_key k → k < a → (b : Bool) → same_key key (number_key a) ≡ b → b ≡ false
  other k a is less false e = refl
  other k a is less true e =
      let same : k ≡ a = ap (λ (q : Key). nat_abs q.0) (sym is ∙ one_key key (number_key a) e) in
      absurd (omega (arith, less, same))

  hidden : (k a : ℕ) → key ≡ number_key k → k < a → test (number_row a) ≡ false
  hidden k a is less = ap (λ (b : Bool). b && is_visible buffer s (let row = number_row a in row.version)) (other k a is less (same_key key (number_key a)) refl)

  none_past : (k a n : ℕ) → key ≡ number_key k → k < a → count a n ≡ 0
  none_past k a zero is less = refl
  none_past k a (suc n) is less = none_of (test (number_row a)) (count (a + 1) n) (hidden k a is less) (none_past k (a + 1) n is (omega (arith, less)))

  once_at : (a n : ℕ) (b : Bool) → test (number_row a) ≡ b → count (a + 1) n ≤ 1 → (if b then 1 else 0) + count (a + 1) n ≤ 1
  once_at a n false e rest = omega (arith, rest)
  once_at a n true e rest =
      let none = none_past a (a + 1) n (one_key key (number_key a) (front (same_key key (number_key a)) (is_visible buffer s (let row = number_row a in row.version)) e)) (omega arith) in
      omega (arith, none)

  once : (a n : ℕ) → count a n ≤ 1
  once a zero = omega arith
  once a (suc n) = once_at a n (test (number_row a)) refl (once (a + 1) n)

-- ---- each row fits the table

kept : (n : ℕ) → n < 256 → keeps_number BigInt (pos n) ≡ true
kept n less = grind (arith, ints)

held : (n i : ℕ) (column : Column) → n < 256 → slice_get (number_column ∷ []) i ≡ Some column → IsTrue (may_hold column (cell_at (Number (pos n) ∷ []) i))
held n zero column less at =
    let same : number_column ≡ column = cc in
    subst (λ c. IsTrue (may_hold c (Number (pos n)))) same (kept n less)
held n (suc i) column less at = absurd (cc)

abbrev Fits : Rowed → Type 0
Fits rowed = IsFit number_table (shown_edit 1 rowed)

fits_row : (n : ℕ) → n < 256 → Fits (number_row n)
fits_row n less = (kept n less, record { row = record { short = omega arith; held = λ i column at. held n i column less at }; under = refl })

all_fit : (a n : ℕ) → a + n ≤ 256 → All Fits (map number_row (range_with_len a n))
all_fit a zero most = All-nil Fits
all_fit a (suc n) most = All-cons Fits (number_row a) (map number_row (range_with_len (a + 1) n)) (fits_row a (omega (arith, most))) (all_fit (a + 1) n (omega (arith, most)))

-- ---- so it may be read

pub may_read : (pinned : Pinned) (n : ℕ) → n ≤ 256 → rowed_of pinned.view ≡ numbered n → All (λ (group : ℕ × GroupPart). IsFitting group.1) pinned.view.groups → edits_of pinned.own ≡ []
    → pinned.view.floor ≤ pinned.snapshot → pinned.snapshot ≤ pinned.view.clock → IsSchema number_table → MayRead number_table pinned
may_read pinned n most rows fitting own from to table =
    let view = pinned.view in
    let seen = is_shown view pinned.snapshot in
    record {
      table = table;
      snapshot = record {
        view = record {
          fitting = fitting;
          within = omega (arith, from, to);
          once = λ key s low high. subst (λ l. how_many (λ (rowed : Rowed). shows (buffer_of view) key s rowed.version) l ≤ 1) (sym rows) (once (buffer_of view) key s 0 n);
        };
        from_floor = from;
        to_clock = to;
      };
      fit = subst (λ l. IsFitTable number_table (laid [] (map (shown_edit 1) (filter seen l)))) (sym rows)
          (laid_all (IsFit number_table) [] (map (shown_edit 1) (filter seen (numbered n))) (λ i d lt. absurd (omega (arith, lt)))
          (All-map (IsFit number_table) (shown_edit 1) (filter seen (numbered n)) (All-filter seen Fits (numbered n) (all_fit 0 n (omega (arith, most))))));
      own_fit = All-same (IsFit number_table) (edits_of pinned.own) [] own (All-nil (IsFit number_table));
    }
