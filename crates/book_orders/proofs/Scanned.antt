-- What a condition reads and skips of a group is the same for its rows in any order, and so for books that are one but for the
-- order of packed versions.
use Rattle.std.proofs.Common.{◌≡◌, ℕ, Bool, true, false, List, [], ◌∷◌, map, filter, length, not, Option, Some, None, refl, sym, ap, ◌∙◌}
use Rattle.std.specs.Prelude.{◌&&◌, ◌||◌, slice_get}
use Rattle.std.specs.List.{AllZip, list_all}
use Rattle.std.specs.List.Sorted.{IsPermutation}
use Rattle.std.proofs.lemmas.List.Elements.{length_all_zip}
use Rattle.std.proofs.lemmas.List.Sorted.{IsPermutation-sym, IsPermutation-trans, IsPermutation-map}
use Rattle.answer_laws.proofs.Moves.{by_moves}
use Rattle.cs_types.specs.declared.Loose.{Loose}
use Rattle.cs_types.specs.declared.Schema.{Schema}
use Rattle.cs_types.specs.declared.Value.{Value}
use Rattle.cs_types.specs.Rows.{cell_at}
use Rattle.cs_model.specs.declared.pred.Operand.{Operand}
use Rattle.cs_model.specs.declared.pred.Operand.TheVariants.{Column, Constant}
use Rattle.cs_model.specs.declared.pred.Pred.{Pred}
use Rattle.cs_model.specs.declared.pred.Pred.TheOpen.{Pred-F}
use Rattle.cs_model.specs.declared.pred.Pred.TheFolds.{fold-Pred}
use Rattle.cs_model.specs.declared.pred.Relation.{Relation}
use Rattle.cs_model.specs.declared.pred.Relation.TheVariants.{Equal, NotEqual, Less, LessEqual, Greater, GreaterEqual}
use Rattle.cs_model.specs.Cells.{loose_in}
use Rattle.cs_model.specs.Changes.{Change}
use Rattle.cs_model.specs.Queries.{is_true}
use Rattle.cs_model.specs.Scans.{is_skipped, scan_counts}
use Rattle.cs_model.specs.Skips.{loose_cells, none_stands, skips_compare, skips_null, skips_operands, skips_step, turned}
use Rattle.cs_model.specs.Truths.{compare, is_null}
use Rattle.row_group.specs.Rows.{PackedRow, column_of}
use Rattle.group_book.specs.Book.{Content, Group, Book, frozen_in, is_compressed}
use Rattle.group_book.specs.Orders.{IsContentReordered, IsGroupReordered}
use Rattle.group_book.proofs.Orders.{content_cases}
use Rattle.group_book.proofs.Zips.{zip_filter}
use Rattle.group_log.specs.Counted.{AreCounts}
use Rattle.group_log.specs.Segments.{packed_row, AreRowsOf}
use Rattle.book_orders.specs.Shuffled.{IsShuffled}
use Rattle.book_orders.proofs.Contents.{frozen_in_moved}

-- ---- a condition

all_moved : (test : Loose → Bool) (xs ys : List Loose) → IsPermutation xs ys → list_all test xs ≡ list_all test ys
all_moved test = by_moves (λ xs ys. list_all test xs ≡ list_all test ys) (λ xs. refl) (λ xs ys zs h k. h ∙ k) (λ x xs ys h. ap (λ t. test x && t) h) (λ x y xs. flip (test x) (test y) (list_all test xs))
  where
    flip : (a b c : Bool) → (a && (b && c)) ≡ (b && (a && c))
    flip true b c = refl
    flip false true c = refl
    flip false false c = refl

-- cells by column, and the same ones where those of each column may stand in another order
module _ (cells others : ℕ → List Loose) (moved : (i : ℕ) → IsPermutation (cells i) (others i)) where
  stands_moved : (sign : Relation) (i : ℕ) (constant : Loose) → none_stands sign (cells i) constant ≡ none_stands sign (others i) constant
  stands_moved sign i constant = all_moved (λ cell. not (is_true (compare sign cell constant))) (cells i) (others i) (moved i)

  compare_moved : (sign : Relation) (i : ℕ) (constant : Loose) → skips_compare sign (cells i) constant ≡ skips_compare sign (others i) constant
  compare_moved Equal i constant = λ k. stands_moved LessEqual i constant k || stands_moved GreaterEqual i constant k
  compare_moved NotEqual i constant = stands_moved NotEqual i constant
  compare_moved Less i constant = stands_moved Less i constant
  compare_moved LessEqual i constant = stands_moved LessEqual i constant
  compare_moved Greater i constant = stands_moved Greater i constant
  compare_moved GreaterEqual i constant = stands_moved GreaterEqual i constant

  operands_moved : (left : Operand) (sign : Relation) (right : Operand) → skips_operands cells left sign right ≡ skips_operands others left sign right
  operands_moved (Column i) sign (Constant constant) = compare_moved sign i constant
  operands_moved (Constant constant) sign (Column i) = compare_moved (turned sign) i constant
  operands_moved (Column i) sign (Column j) = refl
  operands_moved (Constant a) sign (Constant b) = refl

  null_moved : (negated : Bool) (i : ℕ) → skips_null negated (cells i) ≡ skips_null negated (others i)
  null_moved false i = all_moved (λ cell. not (is_null cell)) (cells i) (others i) (moved i)
  null_moved true i = all_moved is_null (cells i) (others i) (moved i)

  step_moved : (part : Pred-F Bool) → skips_step cells part ≡ skips_step others part
  step_moved (Pred-F.AnyOf parts) = refl
  step_moved (Pred-F.AllOf parts) = refl
  step_moved (Pred-F.Not part) = refl
  step_moved (Pred-F.Compare left sign right) = operands_moved left sign right
  step_moved (Pred-F.Between i negated low high) = λ k. not negated && (compare_moved GreaterEqual i low k || compare_moved LessEqual i high k)
  step_moved (Pred-F.Among i negated list) = λ k. not negated && list_all (λ constant. compare_moved Equal i constant k) list
  step_moved (Pred-F.Like i negated pattern) = refl
  step_moved (Pred-F.IsNull i negated) = null_moved negated i

-- the same rows, in any order
abbrev AreSameRows : ℕ × List PackedRow → ℕ × List PackedRow → Type 0
AreSameRows group other = IsPermutation group.1 other.1

abbrev HasSameCells : (ℕ → List Value) → (ℕ → List Value) → Type 0
HasSameCells cells others = (column : ℕ) → IsPermutation (cells column) (others column)

skipped_moved : (schema : Schema) (condition : Option Pred) (cells others : ℕ → List Value) → HasSameCells cells others → is_skipped schema condition cells ≡ is_skipped schema condition others
skipped_moved schema None cells others moved = refl
skipped_moved schema (Some pred) cells others moved =
    let each = step_moved (loose_cells schema cells) (loose_cells schema others)
    (λ i. IsPermutation-map (loose_in (slice_get schema.columns i)) (cells i) (others i) (moved i)) in
    λ k. fold-Pred Bool (λ part. each part k) pred

-- ---- groups

-- so are the counts of all groups
counts_moved : (schema : Schema) (condition : Option Pred) (groups others : List (ℕ → List Value)) → AllZip HasSameCells groups others → scan_counts schema condition groups ≡ scan_counts schema condition others
counts_moved schema condition groups others zip = λ k. (read k, skipped k)
  where
    is : (ℕ → List Value) → Bool
    is = is_skipped schema condition

    read : length (filter (λ cells. not (is cells)) groups) ≡ length (filter (λ cells. not (is cells)) others)
    read = length_all_zip HasSameCells (filter (λ cells. not (is cells)) groups) (filter (λ cells. not (is cells)) others)
        (zip_filter HasSameCells (λ cells. not (is cells)) (λ cells. not (is cells)) (λ a b r. ap not (skipped_moved schema condition a b r)) groups others zip)

    skipped : length (filter is groups) ≡ length (filter is others)
    skipped = length_all_zip HasSameCells (filter is groups) (filter is others) (zip_filter HasSameCells is is (skipped_moved schema condition) groups others zip)

cells_of_rows : (groups others : List (ℕ × List PackedRow)) → AllZip AreSameRows groups others
    → AllZip HasSameCells (map (λ (group : ℕ × List PackedRow). column_of group.1) groups) (map (λ (group : ℕ × List PackedRow). column_of group.1) others)
cells_of_rows [] [] zip = tt
cells_of_rows [] (y ∷ ys) zip = absurd zip
cells_of_rows (x ∷ xs) [] zip = absurd zip
cells_of_rows (x ∷ xs) (y ∷ ys) zip = ((λ column. IsPermutation-map (λ (row : PackedRow). cell_at row.cells column) x.1 y.1 zip.0), cells_of_rows xs ys zip.1)

-- the rows of two groups that are one but for their order
pub same_rows : (width : ℕ) (changes : List Change) (g h : Group) (rows others : ℕ × List PackedRow) → IsGroupReordered g h → AreRowsOf width changes g rows → AreRowsOf width changes h others → AreSameRows rows others
same_rows width changes g h rows others is a b =
    let first : List PackedRow = map (packed_row width changes) (frozen_in g.content) in
    let second : List PackedRow = map (packed_row width changes) (frozen_in h.content) in
    let between : IsPermutation first second = IsPermutation-map (packed_row width changes) (frozen_in g.content) (frozen_in h.content) (frozen_in_moved g.content h.content is.1) in
    IsPermutation-trans rows.1 first others.1 (IsPermutation-sym first rows.1 a.of_versions) (IsPermutation-trans first second others.1 between b.of_versions)

all_same_rows : (width : ℕ) (changes : List Change) (gs hs : List Group) (rows others : List (ℕ × List PackedRow)) → AllZip IsGroupReordered gs hs → AllZip (AreRowsOf width changes) gs rows
    → AllZip (AreRowsOf width changes) hs others → AllZip AreSameRows rows others
all_same_rows width changes [] [] [] [] zip a b = tt
all_same_rows width changes [] [] [] (y ∷ ys) zip a b = absurd b
all_same_rows width changes [] [] (x ∷ xs) ys zip a b = absurd a
all_same_rows width changes [] (h ∷ hs) xs ys zip a b = absurd zip
all_same_rows width changes (g ∷ gs) [] xs ys zip a b = absurd zip
all_same_rows width changes (g ∷ gs) (h ∷ hs) [] ys zip a b = absurd a
all_same_rows width changes (g ∷ gs) (h ∷ hs) (x ∷ xs) [] zip a b = absurd b
all_same_rows width changes (g ∷ gs) (h ∷ hs) (x ∷ xs) (y ∷ ys) zip a b = (same_rows width changes g h x y zip.0 a.0 b.0, all_same_rows width changes gs hs xs ys zip.1 a.1 b.1)

same_packed : (c d : Content) → IsContentReordered c d → is_compressed c ≡ is_compressed d
same_packed c d is = content_cases (λ c d. is_compressed c ≡ is_compressed d) (λ c. refl) (λ xs ys p. refl) c d is

pub packed_zip : (book other : Book) → IsShuffled book other → AllZip IsGroupReordered (filter (λ (group : Group). is_compressed group.content) book.groups) (filter (λ (group : Group). is_compressed group.content) other.groups)
packed_zip book other r = zip_filter IsGroupReordered (λ (group : Group). is_compressed group.content) (λ (group : Group). is_compressed group.content) (λ g h is. same_packed g.content h.content is.1) book.groups other.groups r.groups

-- what a condition reads and skips
pub shuffled_counts : (schema : Schema) (changes : List Change) (condition : Option Pred) (book other : Book) (counts told : ℕ × ℕ) → IsShuffled book other → AreCounts schema changes book condition counts
    → AreCounts schema changes other condition told → counts ≡ told
shuffled_counts schema changes condition book other counts told r a b =
    let zip = all_same_rows (length schema.columns) changes (filter (λ (group : Group). is_compressed group.content) book.groups) (filter (λ (group : Group). is_compressed group.content) other.groups) a.groups b.groups
    (packed_zip book other r) a.of_book b.of_book in
    a.counted
    ∙ counts_moved schema condition (map (λ (group : ℕ × List PackedRow). column_of group.1) a.groups) (map (λ (group : ℕ × List PackedRow). column_of group.1) b.groups) (cells_of_rows a.groups b.groups zip)
    ∙ sym b.counted
