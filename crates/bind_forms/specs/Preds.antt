-- The predicate that a tree means: parentheses and chains of one part make no node.
use Rattle.std.specs.Prelude.{List, [], ◌∷◌, map, Bool, Option, if◌then◌else◌}
use Rattle.std.specs.Option.{option_map}
use Rattle.cs_types.specs.declared.Schema.{Schema}
use Rattle.cs_types.specs.declared.Loose.{Loose}
use Rattle.tsql_trees.specs.declared.pred.PredTree.{PredTree, PredTree-F, fold-PredTree}
use Rattle.tsql_trees.specs.declared.pred.ConjTree.{ConjTree, ConjTree-F, fold-ConjTree}
use Rattle.tsql_trees.specs.declared.pred.NegTree.{NegTree, NegTree-F, fold-NegTree}
use Rattle.tsql_trees.specs.declared.pred.PartTree.{PartTree, PartTree-F, fold-PartTree}
use Rattle.tsql_trees.specs.declared.pred.AtomTree.{AtomTree}
use Rattle.tsql_trees.specs.declared.pred.AtomTree.TheVariants as atoms
use Rattle.tsql_trees.specs.declared.pred.OperandTree.{OperandTree}
use Rattle.tsql_trees.specs.declared.pred.OperandTree.TheVariants as sides
use Rattle.tsql_trees.specs.declared.pred.CmpTree.{CmpTree}
use Rattle.tsql_trees.specs.declared.pred.CmpTree.TheVariants as cmps
use Rattle.cs_model.specs.declared.pred.Relation.{Relation}
use Rattle.cs_model.specs.declared.pred.Relation.TheVariants as relations
use Rattle.cs_model.specs.declared.pred.Operand.{Operand}
use Rattle.cs_model.specs.declared.pred.Operand.TheVariants as operands
use Rattle.cs_model.specs.declared.pred.Pred.{Pred}
use Rattle.cs_model.specs.declared.pred.Pred.TheVariants as preds
use Rattle.bind_names.specs.Names.{trimmed}
use Rattle.bind_forms.specs.Literals.{column_of, const_of, beside}

-- `!=` is `<>`
abbrev pub relation_of : CmpTree → Relation
relation_of cmps.Equal = relations.Equal
relation_of cmps.NotEqual = relations.NotEqual
relation_of cmps.BangEqual = relations.NotEqual
relation_of cmps.Less = relations.Less
relation_of cmps.LessEqual = relations.LessEqual
relation_of cmps.Greater = relations.Greater
relation_of cmps.GreaterEqual = relations.GreaterEqual

-- a literal beside the other side of a comparison
abbrev pub beside_operand : Schema → OperandTree → Loose → Loose
beside_operand schema (sides.Name name) value = beside schema (column_of schema name) value
beside_operand schema (sides.Const const) value = value

-- a side of a comparison, beside the other side
abbrev pub operand_of : Schema → OperandTree → OperandTree → Operand
operand_of schema other (sides.Name name) = operands.Column (column_of schema name)
operand_of schema other (sides.Const const) = operands.Constant (beside_operand schema other (const_of const))

abbrev pub atom_of : Schema → AtomTree → Pred
atom_of schema (atoms.Compare left cmp right) =
    preds.Compare (operand_of schema right left) (relation_of cmp) (operand_of schema left right)
atom_of schema (atoms.Between name negated low high) =
    preds.Between (column_of schema name) negated (beside schema (column_of schema name) (const_of low)) (beside schema (column_of schema name) (const_of high))
atom_of schema (atoms.In name negated list) =
    preds.Among (column_of schema name) negated (map (λ const. beside schema (column_of schema name) (const_of const)) list)
atom_of schema (atoms.Like name negated pattern) = preds.Like (column_of schema name) negated (trimmed pattern.bytes)
atom_of schema (atoms.IsNull name negated) = preds.IsNull (column_of schema name) negated

-- a chain of OR
abbrev pub any_of : Pred → List Pred → Pred
any_of first [] = first
any_of first (next ∷ rest) = preds.AnyOf (first ∷ next ∷ rest)

-- a chain of AND
abbrev pub all_of : Pred → List Pred → Pred
all_of first [] = first
all_of first (next ∷ rest) = preds.AllOf (first ∷ next ∷ rest)

-- NOT an odd number of times
abbrev pub negated_pred : Bool → Pred → Pred
negated_pred negated pred = if negated then preds.Not pred else pred

-- each node, from the predicates of its parts
abbrev pub part_step : Schema → PartTree-F Pred Pred Pred Pred → Pred
part_step schema (PartTree-F.Nested place pred) = pred
part_step schema (PartTree-F.Atom atom) = atom_of schema atom

abbrev pub neg_step : NegTree-F Pred Pred Pred Pred → Pred
neg_step neg = negated_pred neg.negated neg.part

abbrev pub conj_step : ConjTree-F Pred Pred Pred Pred → Pred
conj_step conj = all_of conj.first conj.rest

abbrev pub pred_step : PredTree-F Pred Pred Pred Pred → Pred
pred_step pred = any_of pred.first pred.rest

-- the predicates of a tree and of its parts
abbrev pub pred_of : Schema → PredTree → Pred
pred_of schema pred = fold-PredTree Pred Pred Pred Pred (part_step schema) conj_step neg_step pred_step pred

abbrev pub conj_of : Schema → ConjTree → Pred
conj_of schema conj = fold-ConjTree Pred Pred Pred Pred (part_step schema) conj_step neg_step pred_step conj

abbrev pub neg_of : Schema → NegTree → Pred
neg_of schema neg = fold-NegTree Pred Pred Pred Pred (part_step schema) conj_step neg_step pred_step neg

abbrev pub part_of : Schema → PartTree → Pred
part_of schema part = fold-PartTree Pred Pred Pred Pred (part_step schema) conj_step neg_step pred_step part

-- the predicate of WHERE
abbrev pub filter_of : Schema → Option PredTree → Option Pred
filter_of schema filter = option_map (pred_of schema) filter
