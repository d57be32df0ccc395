-- A setup statement without faults means a schema that may be.
use Rattle.std.proofs.Common.{◌≡◌, ℕ, zero, suc, ◌+◌, ◌<◌, ◌≤◌, Bool, true, false, not, ◌&&◌, ◌||◌, List, [], ◌∷◌, ◌++◌, length, take, map, Option, None, Some, refl, ap, sym, subst, ◌∙◌, append_assoc, inl, inr, get_or, arith}
use Rattle.std.specs.Prelude.{◌==◌, slice_get, All, IsTrue, nat_le, if◌then◌else◌, is_none, ◌⊎◌}
use Rattle.std.specs.List.{list_any, flat_map}
use Rattle.std.specs.Option.{option_and_then, option_map, option_to_list}
use Rattle.std.specs.Char.{to_ascii_lowercase}
use Rattle.std.proofs.lemmas.List.{append-nil}
use Rattle.std.proofs.lemmas.List.Elements.{All-nil, All-cons}
use Rattle.std.proofs.lemmas.Option.{slice_get_cases, slice_get_within, get_or_from_slice_get}
use Rattle.std.proofs.lemmas.Bool.Decides.{Decides-eqb, nat_tests}
use Rattle.std.proofs.lemmas.Slice.Eq.{bytes_eq-Decides}
use Rattle.tsql_trees.specs.declared.leaf.NumberTree.{NumberTree}
use Rattle.tsql_create.specs.declared.tree.CreateTree.{CreateTree}
use Rattle.tsql_trees.specs.declared.column.TypeTree.{TypeTree}
use Rattle.tsql_trees.specs.declared.column.TypeTree.TheVariants as types
use Rattle.tsql_trees.specs.declared.column.PlainType.{PlainType}
use Rattle.tsql_trees.specs.declared.column.PlainType.TheVariants as plain
use Rattle.cs_types.specs.declared.Column.{Column}
use Rattle.cs_types.specs.Kinds.{IsColumnType}
use Rattle.cs_types.specs.Schemas.{is_key_kind, IsSchema}
use Rattle.tsql_create.specs.declared.written.WrittenColumn.{WrittenColumn}
use Rattle.tsql_create.specs.declared.written.WrittenKey.{WrittenKey}
use Rattle.cs_base.specs.Names.{same_name}
use Rattle.tsql_create.specs.Written.{columns, keys, key_shown, key_index}
use Rattle.tsql_exprs.specs.Types.{outside, digits_faults, type_faults}
use Rattle.tsql_create.specs.Faults.{contradictions, column_faults, too_many, has_name, repeated_name, repeated, second_key, null_on_key, key_type_faults, named_key_faults, key_faults, no_column, faults_of, faults}
use Rattle.tsql_create.specs.Tables.{plain_type, decimal_type, column_type, column_of, columns_from, schema_of, key_of}

-- ---- lists

none_both : {X : Type 0} (xs ys : List X) → xs ++ ys ≡ [] → (xs ≡ []) × (ys ≡ [])
none_both [] ys e = (refl, e)
none_both (x ∷ xs) ys e = absurd cc

neither : (a b : Bool) → (a || b) ≡ false → (a ≡ false) × (b ≡ false)
neither true b e = absurd cc
neither false b e = (refl, e)

all_at : {X : Type 0} (P : X → Type 0) (xs : List X) → All P xs → (i : ℕ) (x : X) → slice_get xs i ≡ Some x → P x
all_at P xs all i x e = subst P (get_or_from_slice_get xs i x x e) (all i x (slice_get_within xs i x e))

-- a test that nothing before place j passes
none_before : {X : Type 0} (p : X → Bool) (xs : List X) (i j : ℕ) (x : X) → i < j → slice_get xs i ≡ Some x → list_any p (take j xs) ≡ false → p x ≡ false
none_before p [] i j x lt e none = absurd cc
none_before p (y ∷ ys) i zero x lt e none = absurd (omega arith)
none_before p (y ∷ ys) zero (suc j) x lt e none =
    let same : y ≡ x = cc in subst (λ z. p z ≡ false) same (neither (p y) (list_any p (take j ys)) none).0
none_before p (y ∷ ys) (suc i) (suc j) x lt e none =
    none_before p ys i j x (omega arith) e (neither (p y) (list_any p (take j ys)) none).1

-- ---- types

outside_none : (low high : ℕ) (n : NumberTree) → outside low high n ≡ [] → (low ≤ n.digits) × (n.digits ≤ high)
outside_none low high n e = go (not n.point) (nat_le low n.digits) (nat_le n.digits high) refl refl e
  where
    go : (a b c : Bool) → nat_le low n.digits ≡ b → nat_le n.digits high ≡ c → (if a && b && c then [] else n.place ∷ []) ≡ [] → (low ≤ n.digits) × (n.digits ≤ high)
    go true true true f g h = (grind (arith, nat_tests), grind (arith, nat_tests))
    go true true false f g h = absurd cc
    go true false c f g h = absurd cc
    go false b c f g h = absurd cc

digits_fit : (p : NumberTree) (scale : Option NumberTree) → digits_faults p scale ≡ [] → IsColumnType (decimal_type p scale)
digits_fit p None e = let f = outside_none 1 18 p e in (f.0, f.1, omega arith)
digits_fit p (Some s) e =
    let both = none_both (outside 1 18 p) (outside 0 p.digits s) e in
    let f = outside_none 1 18 p both.0 in
    (f.0, f.1, (outside_none 0 p.digits s both.1).1)

plain_fits : (kind : PlainType) → IsColumnType (plain_type kind)
plain_fits plain.TinyInt = tt
plain_fits plain.SmallInt = tt
plain_fits plain.Int = tt
plain_fits plain.BigInt = tt
plain_fits plain.Date = tt

type_fits : (kind : TypeTree) → type_faults kind ≡ [] → IsColumnType (column_type kind)
type_fits (types.Plain place kind) e = plain_fits kind
type_fits (types.Decimal place None) e = (omega arith, omega arith, omega arith)
type_fits (types.Decimal place (Some (p, scale))) e = digits_fit p scale e
type_fits (types.VarChar place None) e = (omega arith, omega arith)
type_fits (types.VarChar place (Some n)) e = outside_none 1 8000 n e

plain_key : (kind : PlainType) → IsTrue (is_key_kind (plain_type kind))
plain_key plain.TinyInt = refl
plain_key plain.SmallInt = refl
plain_key plain.Int = refl
plain_key plain.BigInt = refl
plain_key plain.Date = refl

key_fits : (shown : ℕ) (kind : TypeTree) → key_type_faults shown kind ≡ [] → IsTrue (is_key_kind (column_type kind))
key_fits shown (types.Plain place kind) e = plain_key kind
key_fits shown (types.Decimal place digits) e = absurd cc
key_fits shown (types.VarChar place size) e = absurd cc

-- no column of a statement without faults has a type that may not be
pub types_fit : (w : List WrittenColumn) → flat_map column_faults w ≡ [] → All (λ c. type_faults c.kind ≡ []) w
types_fit [] e = All-nil (λ (c : WrittenColumn). type_faults c.kind ≡ [])
types_fit (c ∷ rest) e =
    let both = none_both (column_faults c) (flat_map column_faults rest) e in
    All-cons (λ (c : WrittenColumn). type_faults c.kind ≡ []) c rest (none_both (type_faults c.kind) (contradictions c.null c.not_null) both.0).0 (types_fit rest both.1)

-- ---- names

unseen : (before : List WrittenColumn) (c : WrittenColumn) → repeated_name before c ≡ [] → has_name before c.name.bytes ≡ false
unseen before c e = go (has_name before c.name.bytes) e
  where
    go : (b : Bool) → (if b then c.name.place ∷ [] else []) ≡ [] → b ≡ false
    go true f = absurd cc
    go false f = refl

distinct : (before w : List WrittenColumn) → repeated before w ≡ [] → (j : ℕ) (b : WrittenColumn) → slice_get w j ≡ Some b → has_name (before ++ take j w) b.name.bytes ≡ false
distinct before [] e j b is = absurd cc
distinct before (c ∷ rest) e zero b is =
    let same : c ≡ b = cc in
    let here = unseen before c (none_both (repeated_name before c) (repeated (before ++ c ∷ []) rest) e).0 in
    subst (λ z. has_name (before ++ []) z.name.bytes ≡ false) same (subst (λ z. has_name z c.name.bytes ≡ false) (sym (append-nil before)) here)
distinct before (c ∷ rest) e (suc j) b is =
    let there = distinct (before ++ c ∷ []) rest (none_both (repeated_name before c) (repeated (before ++ c ∷ []) rest) e).1 j b is in
    subst (λ z. has_name z b.name.bytes ≡ false) (append_assoc before (c ∷ []) (take j rest)) there

-- ---- columns

made_at : (key i : ℕ) (w : List WrittenColumn) (k : ℕ) (column : Column) → slice_get (columns_from key i w) k ≡ Some column
    → (c : WrittenColumn) × (slice_get w k ≡ Some c) × (column ≡ column_of ((i + k) == key) c)
made_at key i [] k column e = absurd cc
made_at key i (c ∷ rest) zero column e =
    (c, refl, subst (λ z. column ≡ column_of (z == key) c) (let at : i ≡ i + 0 = omega arith in at) cc)
made_at key i (c ∷ rest) (suc k) column e =
    let (d, is, same) = made_at key (i + 1) rest k column e in
    (d, is, subst (λ z. column ≡ column_of (z == key) d) (let at : i + 1 + k ≡ i + suc k = omega arith in at) same)

made_length : (key i : ℕ) (w : List WrittenColumn) → length (columns_from key i w) ≡ length w
made_length key i [] = refl
made_length key i (c ∷ rest) = ap suc (made_length key (i + 1) rest)

some_column : (end : ℕ) (w : List WrittenColumn) → no_column end w ≡ [] → 1 ≤ length w
some_column end [] e = absurd cc
some_column end (c ∷ rest) e = omega arith

few_columns : (w : List WrittenColumn) → too_many w ≡ [] → length w ≤ 32
few_columns w e = go (slice_get_cases w 32).1
  where
    go : ((x : WrittenColumn) × (32 < length w) × (slice_get w 32 ≡ Some x) × (get_or w 32 x ≡ x)) ⊎ ((length w ≤ 32) × (slice_get w 32 ≡ None)) → length w ≤ 32
    go (inl (x, lt, is, at)) = absurd (let f : option_to_list (option_map (λ c. c.name.place) (Some x)) ≡ [] = subst (λ z. option_to_list (option_map (λ c. c.name.place) z) ≡ []) is e in cc)
    go (inr (le, is)) = le

-- ---- the key

key_found : (end : ℕ) (w : List WrittenColumn) (o : Option WrittenKey) (key : ℕ) → option_and_then (key_index w) o ≡ Some key → key_faults end w o ≡ []
    → (c : WrittenColumn) × (shown : ℕ) × (slice_get w key ≡ Some c) × (key_type_faults shown c.kind ≡ [])
key_found end w None key e none = absurd cc
key_found end w (Some k) key e none =
    go (slice_get w key) refl (subst (λ z. named_key_faults k (option_and_then (slice_get w) z) ≡ []) e none)
  where
    go : (o : Option WrittenColumn) → slice_get w key ≡ o → named_key_faults k o ≡ [] → (c : WrittenColumn) × (shown : ℕ) × (slice_get w key ≡ Some c) × (key_type_faults shown c.kind ≡ [])
    go None is f = absurd cc
    go (Some c) is f = (c, key_shown k, is, (none_both (null_on_key (key_shown k) c.null) (key_type_faults (key_shown k) c.kind) f).1)

-- a statement without faults has a key
pub key_there : (end : ℕ) (w : List WrittenColumn) (o : Option WrittenKey) → key_faults end w o ≡ [] → (key : ℕ) × (option_and_then (key_index w) o ≡ Some key)
key_there end w None none = absurd cc
key_there end w (Some k) none = go (key_index w k) refl (subst (λ z. named_key_faults k (option_and_then (slice_get w) z) ≡ []) refl none)
  where
    go : (o : Option ℕ) → key_index w k ≡ o → named_key_faults k (option_and_then (slice_get w) o) ≡ [] → (key : ℕ) × (key_index w k ≡ Some key)
    go None is f = absurd cc
    go (Some key) is f = (key, is)

-- ---- the schema

pub record HasNone (end : ℕ) (w : List WrittenColumn) (ks : List WrittenKey) : Type 0 where
  pub of_columns : flat_map column_faults w ≡ []
  pub of_number : too_many w ≡ []
  pub of_names : repeated [] w ≡ []
  pub of_key : key_faults end w (slice_get ks 0) ≡ []
  pub of_none : no_column end w ≡ []

pub has_none : (end : ℕ) (w : List WrittenColumn) (ks : List WrittenKey) → faults_of end w ks ≡ [] → HasNone end w ks
has_none end w ks e =
    let a = flat_map column_faults w in
    let b = too_many w in
    let c = repeated [] w in
    let d = second_key ks in
    let f = key_faults end w (slice_get ks 0) in
    let g = no_column end w in
    let e1 = none_both (((a ++ (b ++ c)) ++ d) ++ f) g e in
    let e2 = none_both ((a ++ (b ++ c)) ++ d) f e1.0 in
    let e3 = none_both (a ++ (b ++ c)) d e2.0 in
    let e4 = none_both a (b ++ c) e3.0 in
    let e5 = none_both b c e4.1 in
    record { of_columns = e4.0; of_number = e5.0; of_names = e5.1; of_key = e2.1; of_none = e1.1 }

pub is_schema : (size : ℕ) (tree : CreateTree) (key : ℕ) → faults size tree ≡ [] → key_of tree ≡ Some key → IsSchema (schema_of tree key)
is_schema size tree key e is =
    let w = columns tree.parts in
    let none = has_none (size + 1) w (keys 0 tree.parts) e in
    let few = few_columns w none.of_number in
    let all = types_fit w none.of_columns in
    let (k, shown, at, typed) = key_found (size + 1) w (slice_get (keys 0 tree.parts) 0) key is none.of_key in
    record {
      some = subst (λ z. 1 ≤ z) (sym (made_length key 0 w)) (some_column (size + 1) w none.of_none);
      few = subst (λ z. z ≤ 32) (sym (made_length key 0 w)) few;
      kinds = λ i column there. kinds w all i column there;
      names = λ i j a b lt there other same. names w none.of_names i j a b lt there other same;
      key_there = subst (λ z. key < z) (sym (made_length key 0 w)) (slice_get_within w key k at);
      key_kind = λ column there. key_kind w k shown at typed column there;
      key_never_null = λ column there. key_never_null w column there;
    }
  where
    kinds : (w : List WrittenColumn) → All (λ c. type_faults c.kind ≡ []) w → (i : ℕ) (column : Column) → slice_get (columns_from key 0 w) i ≡ Some column → IsColumnType column.kind
    kinds w all i column there =
        let (c, at, same) = made_at key 0 w i column there in
        subst (λ z. IsColumnType z.kind) (sym same) (type_fits c.kind (all_at (λ d. type_faults d.kind ≡ []) w all i c at))

    names : (w : List WrittenColumn) → repeated [] w ≡ [] → (i j : ℕ) (a b : Column) → i < j
        → slice_get (columns_from key 0 w) i ≡ Some a → slice_get (columns_from key 0 w) j ≡ Some b → same_name a.name b.name ≡ false
    names w none i j a b lt there other =
        let (c, at, is_a) = made_at key 0 w i a there in
        let (d, at_b, is_b) = made_at key 0 w j b other in
        let unlike = none_before (λ x. same_name x.name.bytes d.name.bytes) w i j c lt at (distinct [] w none j d at_b) in
        cc

    key_kind : (w : List WrittenColumn) (k : WrittenColumn) (shown : ℕ) → slice_get w key ≡ Some k → key_type_faults shown k.kind ≡ [] → (column : Column)
        → slice_get (columns_from key 0 w) key ≡ Some column → IsTrue (is_key_kind column.kind)
    key_kind w k shown at typed column there =
        let (c, at_c, same) = made_at key 0 w key column there in
        let one : k ≡ c = cc in
        subst (λ z. IsTrue (is_key_kind z.kind)) (sym same) (subst (λ z. IsTrue (is_key_kind (column_type z.kind))) one (key_fits shown k.kind typed))

    key_never_null : (w : List WrittenColumn) (column : Column) → slice_get (columns_from key 0 w) key ≡ Some column → column.nullable ≡ false
    key_never_null w column there =
        let (c, at_c, same) = made_at key 0 w key column there in
        let itself : ((0 + key) == key) ≡ true = (Decides-eqb (0 + key) key).1 (omega arith) in
        ap (λ (z : Column). z.nullable) same ∙ ap (λ z. not z && is_none c.not_null) itself

-- the types of the columns that are written
pub sound_types : (size : ℕ) (tree : CreateTree) (list : List WrittenColumn) → faults size tree ≡ [] → list ≡ columns tree.parts → All (λ c. type_faults c.kind ≡ []) list
sound_types size tree list e is =
    subst (λ z. All (λ c. type_faults c.kind ≡ []) z) (sym is) (types_fit (columns tree.parts) (has_none (size + 1) (columns tree.parts) (keys 0 tree.parts) e).of_columns)
