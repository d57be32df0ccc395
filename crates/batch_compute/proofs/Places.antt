-- Lists of numbers place by place.
use Rattle.std.proofs.Common.{◌≡◌, ◌≢◌, ◌≤◌, ◌<◌, ◌+◌, suc, ◌∙◌, sym, ap, subst, refl, ℕ, ℤ, pos, List, [], ◌∷◌, ◌++◌, map, length, set, inl, inr, None, Some, Ok, Err, Result, Option, IfOk, IfSome, Bool, true, false, arith}
use Rattle.std.specs.Prelude.{replicate}
use Rattle.std.specs.declared.alloc.Global.{Global}
use Rattle.std.specs.declared.vec.Vec.{Vec}
use Rattle.std.proofs.lemmas.Bool.{cases_lt}
use Rattle.std.proofs.lemmas.List.{get_or-set_same, get_or-set_other, map-append}
use Rattle.std.proofs.lemmas.Simd.{map-map}
use Rattle.cs_base.specs.declared.memory.Memory.{Memory}
use Rattle.cs_types.specs.declared.Column.{Column}
use Rattle.cs_types.specs.declared.ColumnType.{ColumnType}
use Rattle.cs_types.specs.declared.Loose.TheVariants as loose
use Rattle.cs_types.specs.declared.Value.{Value}
use Rattle.cs_types.specs.declared.Value.TheVariants.{Null, Number}
use Rattle.cs_types.specs.Fit.{fit}
use Rattle.cs_types.specs.Rows.{number_cell}
use Rattle.cs_model.specs.declared.expr.Expr.{Expr}
use Rattle.cs_model.specs.Answers.{computed_of, kept, with_number}
use Rattle.cs_model.specs.Series.{series_schema}
use Rattle.batch_compute.specs.Columns.{kept_over, KeepsOver}
use Rattle.batch_compute.specs.Values.{at, over, AreKept, AreOver}

-- ---- a loop that writes each place in turn

pub done_more : (Done : ℕ → ℤ → Type 0) (values : List ℤ) (i : ℕ) (v : ℤ) → i < length values → ((k : ℕ) → k < i → Done k (at values k)) → Done i v
    → (k : ℕ) → k < i + 1 → Done k (at (set values i v) k)
done_more Done values i v within before here k less = elim (cases_lt k i) [
  | inl l ↦ let apart : k ≢ i = omega arith in subst (Done k) (sym (get_or-set_other values i k v (pos 0) apart)) (before k l)
  | inr m ↦ let same : i ≡ k = omega arith in subst (λ j. Done j (at (set values i v) j)) same (subst (Done i) (sym (get_or-set_same values i v (pos 0) within)) here)
]

pub left_more : (old values : List ℤ) (i : ℕ) (v : ℤ) → ((k : ℕ) → i ≤ k → at values k ≡ at old k) → (k : ℕ) → i + 1 ≤ k → at (set values i v) k ≡ at old k
left_more old values i v same k more = let apart : k ≢ i = omega arith in get_or-set_other values i k v (pos 0) apart ∙ same k (omega arith)

-- ---- cells

by_places : {R : Type 0} (f g : ℤ → R) (xs ys : List ℤ) → length ys ≡ length xs → ((k : ℕ) → k < length xs → f (at xs k) ≡ g (at ys k)) → map f xs ≡ map g ys
by_places f g [] [] long each = refl
by_places f g [] (y ∷ ys) long each = absurd (omega arith)
by_places f g (x ∷ xs) [] long each = absurd (omega arith)
by_places f g (x ∷ xs) (y ∷ ys) long each =
    ap (λ z. z ∷ map f xs) (each 0 (omega arith)) ∙ ap (λ zs. g y ∷ zs) (by_places f g xs ys (omega arith) (λ k l. each (suc k) (omega arith)))

-- what is computed and then kept is what the column keeps over the numbers
pub kept_each : (column : Column) (expr : Expr) (numbers values cells : List ℤ) → AreOver (λ number. over number expr) numbers values → AreKept column values cells
    → KeepsOver column (Some expr) numbers (map Some cells)
kept_each column expr numbers values cells are kept_ones =
    by_places (kept_over column (Some expr)) (λ z. Ok (Number z)) numbers cells (kept_ones.0 ∙ are.0)
    (λ k within. ap (kept column) (are.1 k within) ∙ kept_ones.1 k (let long = are.0 in omega (arith, long, within)))
    ∙ sym (map-map (λ cell. Ok (number_cell cell)) Some cells)

-- one piece after those before it
pub keeps_more : (column : Column) (expr : Expr) (before piece : List ℤ) (cells more : List (Option ℤ)) → KeepsOver column (Some expr) before cells → KeepsOver column (Some expr) piece more
    → KeepsOver column (Some expr) (before ++ piece) (cells ++ more)
keeps_more column expr before piece cells more keeps keeps' =
    map-append (kept_over column (Some expr)) before piece
    ∙ ap (λ xs. xs ++ map (kept_over column (Some expr)) piece) keeps ∙ ap (λ ys. map (λ cell. Ok (number_cell cell)) cells ++ ys) keeps'
    ∙ sym (map-append (λ cell. Ok (number_cell cell)) cells more)

all_null : (f : ℤ → Result Value ℕ) (numbers : List ℤ) → ((number : ℤ) → f number ≡ Ok Null) → map f numbers ≡ map (λ cell. Ok (number_cell cell)) (replicate (length numbers) None)
all_null f [] each = refl
all_null f (number ∷ numbers) each = ap (λ x. x ∷ map f numbers) (each number) ∙ ap (λ xs. Ok Null ∷ xs) (all_null f numbers each)

null_kept : (nullable : Bool) (kind : ColumnType) → nullable ≡ true → with_number (fit kind nullable loose.Null) ≡ Ok Null
null_kept true kind is = refl
null_kept false kind is = absurd (cc is)

-- NULLs are what a column keeps of what is NULL over each number, where it may have them
pub nulls_kept : (column : Column) (expr : Option Expr) (numbers : List ℤ) (made : Result (Option (Vec (Option ℤ) Global)) Memory) → ((number : ℤ) → computed_of series_schema (Number number ∷ []) expr ≡ Ok loose.Null)
    → IfOk made (λ found. IfSome found (λ cells. (column.nullable ≡ true) × (cells.items ≡ replicate (length numbers) None)))
    → IfOk made (λ found. IfSome found (λ cells. KeepsOver column expr numbers cells.items))
nulls_kept column expr numbers (Ok (Some cells)) null h =
    all_null (kept_over column expr) numbers (λ number. ap (kept column) (null number) ∙ null_kept column.nullable column.kind h.0)
    ∙ ap (map (λ cell. Ok (number_cell cell))) (sym h.1)
nulls_kept column expr numbers (Ok None) null h = tt
nulls_kept column expr numbers (Err memory) null h = tt
