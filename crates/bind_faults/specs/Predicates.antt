-- The faults of a predicate.
use Rattle.std.specs.Prelude.{ℕ, ◌==◌, List, [], ◌++◌, Bool, true, false, ◌&&◌, Option, None, Some}
use Rattle.std.specs.List.{flat_map, list_any}
use Rattle.cs_types.specs.declared.Schema.{Schema}
use Rattle.tsql_trees.specs.declared.leaf.NameTree.{NameTree}
use Rattle.tsql_trees.specs.declared.leaf.TextTree.{TextTree}
use Rattle.tsql_trees.specs.declared.pred.ConstTree.{ConstTree}
use Rattle.tsql_trees.specs.declared.pred.ConstTree.TheVariants as consts
use Rattle.tsql_trees.specs.declared.pred.OperandTree.{OperandTree}
use Rattle.tsql_trees.specs.declared.pred.OperandTree.TheVariants as operands
use Rattle.tsql_trees.specs.declared.pred.AtomTree.{AtomTree}
use Rattle.tsql_trees.specs.declared.pred.AtomTree.TheVariants as atoms
use Rattle.tsql_trees.specs.declared.pred.PredTree.{PredTree, PredTree-F, fold-PredTree}
use Rattle.tsql_trees.specs.declared.pred.ConjTree.{ConjTree, ConjTree-F, fold-ConjTree}
use Rattle.tsql_trees.specs.declared.pred.NegTree.{NegTree-F}
use Rattle.tsql_trees.specs.declared.pred.PartTree.{PartTree, PartTree-F, fold-PartTree}
use Rattle.bind_faults.specs.declared.fault.Fault.{Fault}
use Rattle.bind_faults.specs.declared.family.Family.{Family}
use Rattle.bind_faults.specs.declared.family.Family.TheVariants as families
use Rattle.bind_faults.specs.Least.{fault_if}
use Rattle.bind_faults.specs.Families.{kind_named, unknown_column, family_of, differ, text_beside, day_faults}

-- ---- names and literals

-- the family of a literal beside what is of another one; NULL is of every family
abbrev pub const_beside : Family → ConstTree → Family
const_beside other (consts.Number n) = families.Number
const_beside other (consts.Text t) = text_beside other
const_beside other (consts.Null at) = families.Any

-- 241 of a literal beside what is of a family
abbrev pub const_faults : Family → ConstTree → List Fault
const_faults other (consts.Number n) = []
const_faults other (consts.Text t) = day_faults other t
const_faults other (consts.Null at) = []

abbrev pub const_place : ConstTree → ℕ
const_place (consts.Number n) = n.place
const_place (consts.Text t) = t.place
const_place (consts.Null at) = at

abbrev pub name_family : Schema → NameTree → Family
name_family schema name = family_of (kind_named schema name.bytes)

abbrev pub operand_beside : Schema → Family → OperandTree → Family
operand_beside schema other (operands.Name name) = name_family schema name
operand_beside schema other (operands.Const c) = const_beside other c

-- the family of an operand by itself
abbrev pub own_family : Schema → OperandTree → Family
own_family schema operand = operand_beside schema families.Any operand

abbrev pub operand_faults : Schema → Family → OperandTree → List Fault
operand_faults schema other (operands.Name name) = unknown_column schema name
operand_faults schema other (operands.Const c) = const_faults other c

abbrev pub operand_place : OperandTree → ℕ
operand_place (operands.Name name) = name.place
operand_place (operands.Const c) = const_place c

abbrev pub is_const : OperandTree → Bool
is_const (operands.Name name) = false
is_const (operands.Const c) = true

-- ---- atoms

-- 206: sides of different families; 50001: two constants
abbrev pub compare_faults : Schema → OperandTree → OperandTree → List Fault
compare_faults schema left right =
    fault_if (differ (operand_beside schema (own_family schema right) left) (operand_beside schema (own_family schema left) right)) 206 (operand_place left)
    ++ fault_if (is_const left && is_const right) 50001 (operand_place left)
    ++ operand_faults schema (own_family schema right) left
    ++ operand_faults schema (own_family schema left) right

-- 206 and 241 of a literal beside the column that an atom begins with
abbrev pub beside_faults : Family → ℕ → ConstTree → List Fault
beside_faults column at c = fault_if (differ column (const_beside column c)) 206 at ++ const_faults column c

abbrev pub between_faults : Schema → NameTree → ConstTree → ConstTree → List Fault
between_faults schema name low high =
    unknown_column schema name
    ++ beside_faults (name_family schema name) name.place low
    ++ beside_faults (name_family schema name) name.place high

abbrev pub in_faults : Schema → NameTree → List ConstTree → List Fault
in_faults schema name list = unknown_column schema name ++ flat_map (beside_faults (name_family schema name) name.place) list

abbrev pub has_bracket : List ℕ → Bool
has_bracket pattern = list_any (λ b. b == 91) pattern

-- 206: LIKE on a column that is no text; 50001: a pattern with `[`
abbrev pub like_faults : Schema → NameTree → TextTree → List Fault
like_faults schema name pattern =
    unknown_column schema name
    ++ fault_if (differ (name_family schema name) families.Text) 206 name.place
    ++ fault_if (has_bracket pattern.bytes) 50001 pattern.place

abbrev pub atom_faults : Schema → AtomTree → List Fault
atom_faults schema (atoms.Compare left cmp right) = compare_faults schema left right
atom_faults schema (atoms.Between name negated low high) = between_faults schema name low high
atom_faults schema (atoms.In name negated list) = in_faults schema name list
atom_faults schema (atoms.Like name negated pattern) = like_faults schema name pattern
atom_faults schema (atoms.IsNull name negated) = unknown_column schema name

-- ---- predicates

-- the faults of the atoms, from left to right
abbrev pub part_step : Schema → PartTree-F (List Fault) (List Fault) (List Fault) (List Fault) → List Fault
part_step schema (PartTree-F.Nested at inner) = inner
part_step schema (PartTree-F.Atom atom) = atom_faults schema atom

abbrev pub neg_step : NegTree-F (List Fault) (List Fault) (List Fault) (List Fault) → List Fault
neg_step n = n.part

abbrev pub conj_step : ConjTree-F (List Fault) (List Fault) (List Fault) (List Fault) → List Fault
conj_step c = c.first ++ flat_map (λ p. p) c.rest

abbrev pub pred_step : PredTree-F (List Fault) (List Fault) (List Fault) (List Fault) → List Fault
pred_step p = p.first ++ flat_map (λ c. c) p.rest

abbrev pub pred_faults : Schema → PredTree → List Fault
pred_faults schema p = fold-PredTree (List Fault) (List Fault) (List Fault) (List Fault) (part_step schema) conj_step neg_step pred_step p

abbrev pub conj_faults : Schema → ConjTree → List Fault
conj_faults schema c = fold-ConjTree (List Fault) (List Fault) (List Fault) (List Fault) (part_step schema) conj_step neg_step pred_step c

abbrev pub part_faults : Schema → PartTree → List Fault
part_faults schema p = fold-PartTree (List Fault) (List Fault) (List Fault) (List Fault) (part_step schema) conj_step neg_step pred_step p

-- WHERE
abbrev pub filter_faults : Schema → Option PredTree → List Fault
filter_faults schema None = []
filter_faults schema (Some pred) = pred_faults schema pred
