-- Each line of the grammar keeps the laws of reading.
use Rattle.std.proofs.Common.{◌≡◌, ℕ, zero, suc, true, false, List, [], ◌∷◌, Option, refl}
use Rattle.tsql_trees.specs.declared.expr.PrimaryTree.{PrimaryTree}
use Rattle.tsql_trees.specs.declared.expr.PrimaryTree.TheVariants as primaries
use Rattle.tsql_trees.specs.declared.pred.PartTree.{PartTree}
use Rattle.tsql_trees.specs.declared.pred.PartTree.TheVariants as parts
use Rattle.tsql_trees.specs.declared.pred.OperandTree.TheVariants as operands
use Rattle.tsql_trees.specs.declared.pred.ConstTree.TheVariants as consts
use Rattle.tsql_trees.specs.declared.statement.Statement.{Statement}
use Rattle.tsql_trees.specs.declared.statement.Statement.TheVariants as statements
use Rattle.tsql_trees.specs.declared.statement.SourceTree.TheVariants as sources
use Rattle.tsql_trees.specs.declared.statement.ItemsTree.TheVariants as shown
use Rattle.tsql_trees.specs.declared.statement.ItemTree.TheVariants as its
use Rattle.tsql_grammar.specs.declared.terminal.Terminal.TheVariants as terminal
use Rattle.tsql_grammar.specs.declared.terminal.Symbol.{Symbol}
use Rattle.tsql_grammar.specs.Terminals.{subset}
use Rattle.tsql_grammar.specs.Forms.{Form}
use Rattle.tsql_grammar.specs.Values.{name_of, number_of, sign_of, signed, text_of, factor_of, null_of, nested_of, times_of, term_of, expr_of, is_some, is_odd, null_const, cmp_of, nested_pred, neg_of, conj_of, pred_of, table_of, row_of, series_of, set_of, all_of, oitem_of, is_word_on, begin_tran_of, commit_of, rollback_of, snapshot_of, all_indexes, one_index, alter_of, insert_of, update_of, delete_of, plain_of, decimal_of, varchar_of}
use Rattle.tsql_grammar.specs.Grammar.{all_names, other_names, column_aggregates, begins_part, begins_primary, atom_lines, item_lines, set_lines, select_lines, with_left, with_name, with_low, with_list, with_pattern, with_null, with_not, with_items, applied, applied_const, counted_star, counted_name, named_or, name, sign, unsigned, literal, table, names, whole, constant, operand, cmp, maybe_not, compared, between, within_list, like, tested, maybe_tested, is_null, after_name, atom_read, atom, nots, neg_from, conj_from, pred_from, part_at, pred, plain, times, factor_from, term_from, expr_from, primary_at, expr, row, counted, aggregated, item_read, item, all_items, item_list, oitem, where_part, on_off, values, series, set_part, index, group_part, order_part, begin_statement, commit_statement, rollback_statement, set_snapshot, set_statistics, set_lock_timeout, set_read, set_statement, compress_part, alter_index, altered, alter_statement, insert_statement, update_statement, delete_statement, query_part, queried, select_read, select_statement, statement, line, plain_types, decimal_types, digits_part, size_part, column_type}
use Rattle.tsql_grammar.proofs.Laws.{Laws}
use Rattle.tsql_grammar.proofs.Makers.{one_of, made, both, choose, maybe, repeated, declared_laws, word_laws, behind_laws, maybe_behind_laws, within_laws, listed_laws}
use Rattle.tsql_grammar.proofs.Written.{written_laws, atom_to, atom_from, item_to, item_from, set_to, set_from, select_to, select_from}

pub name_laws : (text : List ℕ) → Laws (name text)
unfolding name
name_laws text = made (name_of text) (one_of all_names terminal.Plain refl)

pub sign_laws : Laws sign
unfolding name sign
sign_laws = made sign_of (one_of (terminal.PlusSign ∷ terminal.MinusSign ∷ []) terminal.PlusSign refl)

pub unsigned_laws : (text : List ℕ) → Laws (unsigned text)
unfolding name sign unsigned
unsigned_laws text = made (number_of text) (word_laws terminal.Number refl)

pub literal_laws : (text : List ℕ) → Laws (literal text)
unfolding name sign unsigned literal
literal_laws text = made (text_of text) (word_laws terminal.Text refl)

pub table_laws : (text : List ℕ) → Laws (table text)
unfolding name sign unsigned literal table
table_laws text = made table_of (both (name_laws text) (maybe (behind_laws terminal.PointSign refl (name_laws text)) refl) refl)

pub names_laws : (text : List ℕ) → Laws (names text)
unfolding name sign unsigned literal table names
names_laws text = listed_laws (name_laws text) refl refl

pub whole_laws : (text : List ℕ) → Laws (whole text)
unfolding name sign unsigned literal table names whole
whole_laws text = made signed (both (maybe sign_laws refl) (unsigned_laws text) refl)

pub digits_part_laws : (text : List ℕ) → Laws (digits_part text)
unfolding unsigned digits_part
digits_part_laws text = within_laws (both (unsigned_laws text) (maybe (behind_laws terminal.CommaSign refl (unsigned_laws text)) refl) refl) refl

pub size_part_laws : (text : List ℕ) → Laws (size_part text)
unfolding unsigned size_part
size_part_laws text = within_laws (unsigned_laws text) refl

pub column_type_laws : (text : List ℕ) → Laws (column_type text)
unfolding unsigned digits_part size_part column_type
column_type_laws text = choose (made plain_of (one_of plain_types terminal.Int refl))
    (choose (made decimal_of (both (one_of decimal_types terminal.Decimal refl) (maybe (digits_part_laws text) refl) refl))
    (made varchar_of (both (word_laws terminal.Varchar refl) (maybe (size_part_laws text) refl) refl)) refl refl refl) refl refl refl

pub constant_laws : (text : List ℕ) → Laws (constant text)
unfolding name sign unsigned literal table names whole constant
constant_laws text = choose (made consts.Number (whole_laws text)) (choose (made consts.Text (literal_laws text)) (made null_const (word_laws terminal.Null refl)) refl refl refl) refl refl refl

pub operand_laws : (text : List ℕ) → Laws (operand text)
unfolding name sign unsigned literal table names whole constant operand
operand_laws text = choose (made operands.Name (name_laws text)) (made operands.Const (constant_laws text)) refl refl refl

pub cmp_laws : Laws cmp
unfolding name sign unsigned literal table names whole constant operand cmp
cmp_laws = made cmp_of (one_of (terminal.EqualSign ∷ terminal.UnequalSign ∷ terminal.BangEqualSign ∷ terminal.LessSign ∷ terminal.LessEqualSign ∷ terminal.GreaterSign ∷ terminal.GreaterEqualSign ∷ []) terminal.EqualSign refl)

pub maybe_not_laws : Laws maybe_not
unfolding name sign unsigned literal table names whole constant operand cmp maybe_not
maybe_not_laws = made is_some (maybe (word_laws terminal.Not refl) refl)

pub compared_laws : (text : List ℕ) → Laws (compared text)
unfolding name sign unsigned literal table names whole constant operand cmp maybe_not compared
compared_laws text = made with_left (both cmp_laws (operand_laws text) refl)

pub between_laws : (text : List ℕ) → Laws (between text)
unfolding name sign unsigned literal table names whole constant operand cmp maybe_not compared between
between_laws text = made with_low (behind_laws terminal.Between refl (both (constant_laws text) (behind_laws terminal.And refl (constant_laws text)) refl))

pub within_list_laws : (text : List ℕ) → Laws (within_list text)
unfolding name sign unsigned literal table names whole constant operand cmp maybe_not compared between within_list
within_list_laws text = made with_list (behind_laws terminal.In refl (within_laws (listed_laws (constant_laws text) refl refl) refl))

pub like_laws : (text : List ℕ) → Laws (like text)
unfolding name sign unsigned literal table names whole constant operand cmp maybe_not compared between within_list like
like_laws text = made with_pattern (behind_laws terminal.Like refl (literal_laws text))

pub tested_laws : (text : List ℕ) → Laws (tested text)
unfolding name sign unsigned literal table names whole constant operand cmp maybe_not compared between within_list like tested
tested_laws text = choose (between_laws text) (choose (within_list_laws text) (like_laws text) refl refl refl) refl refl refl

pub maybe_tested_laws : (text : List ℕ) → Laws (maybe_tested text)
unfolding name sign unsigned literal table names whole constant operand cmp maybe_not compared between within_list like tested maybe_tested
maybe_tested_laws text = made with_not (both maybe_not_laws (tested_laws text) refl)

pub is_null_laws : Laws is_null
unfolding name sign unsigned literal table names whole constant operand cmp maybe_not compared between within_list like tested maybe_tested is_null
is_null_laws = made with_null (behind_laws terminal.Is refl (both maybe_not_laws (word_laws terminal.Null refl) refl))

pub after_name_laws : (text : List ℕ) → Laws (after_name text)
unfolding name sign unsigned literal table names whole constant operand cmp maybe_not compared between within_list like tested maybe_tested is_null after_name
after_name_laws text = choose (made with_name (compared_laws text)) (choose (maybe_tested_laws text) is_null_laws refl refl refl) refl refl refl

pub atom_read_laws : (text : List ℕ) → Laws (atom_read text)
unfolding name sign unsigned literal table names whole constant operand cmp maybe_not compared between within_list like tested maybe_tested is_null after_name atom_read
atom_read_laws text = choose (made applied (both (name_laws text) (after_name_laws text) refl)) (made applied_const (both (constant_laws text) (compared_laws text) refl)) refl refl refl

pub atom_laws : (text : List ℕ) → Laws (atom text)
unfolding name sign unsigned literal table names whole constant operand cmp maybe_not compared between within_list like tested maybe_tested is_null after_name atom_read atom
atom_laws text = written_laws (atom_lines text) (atom_read text) (atom_read_laws text) (atom_to text) (atom_from text)

pub nots_laws : Laws nots
unfolding name sign unsigned literal table names whole constant operand cmp maybe_not compared between within_list like tested maybe_tested is_null after_name atom_read atom nots
nots_laws = made is_odd (repeated (word_laws terminal.Not refl) refl refl)

pub neg_from_laws : (part : Form PartTree) → Laws (begins_part part) → Laws (neg_from (begins_part part))
unfolding name sign unsigned literal table names whole constant operand cmp maybe_not compared between within_list like tested maybe_tested is_null after_name atom_read atom nots neg_from
neg_from_laws part la = made neg_of (both nots_laws la refl)

pub conj_from_laws : (part : Form PartTree) → Laws (begins_part part) → Laws (conj_from (begins_part part))
unfolding name sign unsigned literal table names whole constant operand cmp maybe_not compared between within_list like tested maybe_tested is_null after_name atom_read atom nots neg_from conj_from
conj_from_laws part la = made conj_of (both (neg_from_laws part la) (repeated (behind_laws terminal.And refl (neg_from_laws part la)) refl refl) refl)

pub pred_from_laws : (part : Form PartTree) → Laws (begins_part part) → Laws (pred_from (begins_part part))
unfolding name sign unsigned literal table names whole constant operand cmp maybe_not compared between within_list like tested maybe_tested is_null after_name atom_read atom nots neg_from conj_from pred_from
pred_from_laws part la = made pred_of (both (conj_from_laws part la) (repeated (behind_laws terminal.Or refl (conj_from_laws part la)) refl refl) refl)

part_first : (text : List ℕ) (n : ℕ) → subset (part_at text n).first (begins_part (part_at text n)).first ≡ true
unfolding name sign unsigned literal table names whole constant operand cmp maybe_not compared between within_list like tested maybe_tested is_null after_name atom_read atom nots neg_from conj_from pred_from part_at
part_first text zero = refl
part_first text (suc n) = refl

part_goes : (text : List ℕ) (n : ℕ) → subset (part_at text n).goes (begins_part (part_at text n)).goes ≡ true
unfolding name sign unsigned literal table names whole constant operand cmp maybe_not compared between within_list like tested maybe_tested is_null after_name atom_read atom nots neg_from conj_from pred_from part_at
part_goes text zero = refl
part_goes text (suc n) = refl

part_empty : (text : List ℕ) (n : ℕ) → (part_at text n).empty ≡ false
unfolding name sign unsigned literal table names whole constant operand cmp maybe_not compared between within_list like tested maybe_tested is_null after_name atom_read atom nots neg_from conj_from pred_from part_at
part_empty text zero = refl
part_empty text (suc n) = refl

pub part_at_laws : (text : List ℕ) (n : ℕ) → Laws (part_at text n)
unfolding name sign unsigned literal table names whole constant operand cmp maybe_not compared between within_list like tested maybe_tested is_null after_name atom_read atom nots neg_from conj_from pred_from part_at
part_at_laws text zero = made parts.Atom (atom_laws text)
part_at_laws text (suc n) =
    choose (made nested_pred (both (word_laws terminal.OpenSign refl)
    (both (pred_from_laws (part_at text n) (declared_laws (part_at_laws text n) (part_first text n) (part_goes text n) (part_empty text n))) (word_laws terminal.CloseSign refl) refl) refl))
    (made parts.Atom (atom_laws text)) refl refl refl

pub begins_part_laws : (text : List ℕ) (n : ℕ) → Laws (begins_part (part_at text n))
begins_part_laws text n = declared_laws (part_at_laws text n) (part_first text n) (part_goes text n) (part_empty text n)

pub pred_laws : (text : List ℕ) (n : ℕ) → Laws (pred text n)
unfolding name sign unsigned literal table names whole constant operand cmp maybe_not compared between within_list like tested maybe_tested is_null after_name atom_read atom nots neg_from conj_from pred_from part_at pred
pred_laws text n = pred_from_laws (part_at text n) (begins_part_laws text n)

pub plain_laws : (text : List ℕ) → Laws (plain text)
unfolding name sign unsigned literal table names whole constant operand cmp maybe_not compared between within_list like tested maybe_tested is_null after_name atom_read atom nots neg_from conj_from pred_from part_at pred plain
plain_laws text = choose (made primaries.Number (unsigned_laws text)) (choose (made primaries.Text (literal_laws text)) (choose (made null_of (word_laws terminal.Null refl)) (made primaries.Name (name_laws text)) refl refl refl) refl refl refl) refl refl refl

pub times_laws : Laws times
unfolding name sign unsigned literal table names whole constant operand cmp maybe_not compared between within_list like tested maybe_tested is_null after_name atom_read atom nots neg_from conj_from pred_from part_at pred plain times
times_laws = made times_of (one_of (terminal.StarSign ∷ terminal.SlashSign ∷ terminal.PercentSign ∷ []) terminal.StarSign refl)

pub factor_from_laws : (primary : Form PrimaryTree) → Laws (begins_primary primary) → Laws (factor_from (begins_primary primary))
unfolding name sign unsigned literal table names whole constant operand cmp maybe_not compared between within_list like tested maybe_tested is_null after_name atom_read atom nots neg_from conj_from pred_from part_at pred plain times factor_from
factor_from_laws primary la = made factor_of (both (maybe sign_laws refl) la refl)

pub term_from_laws : (primary : Form PrimaryTree) → Laws (begins_primary primary) → Laws (term_from (begins_primary primary))
unfolding name sign unsigned literal table names whole constant operand cmp maybe_not compared between within_list like tested maybe_tested is_null after_name atom_read atom nots neg_from conj_from pred_from part_at pred plain times factor_from term_from
term_from_laws primary la = made term_of (both (factor_from_laws primary la) (repeated (both times_laws (factor_from_laws primary la) refl) refl refl) refl)

pub expr_from_laws : (primary : Form PrimaryTree) → Laws (begins_primary primary) → Laws (expr_from (begins_primary primary))
unfolding name sign unsigned literal table names whole constant operand cmp maybe_not compared between within_list like tested maybe_tested is_null after_name atom_read atom nots neg_from conj_from pred_from part_at pred plain times factor_from term_from expr_from
expr_from_laws primary la = made expr_of (both (term_from_laws primary la) (repeated (both sign_laws (term_from_laws primary la) refl) refl refl) refl)

primary_first : (text : List ℕ) (n : ℕ) → subset (primary_at text n).first (begins_primary (primary_at text n)).first ≡ true
unfolding name sign unsigned literal table names whole constant operand cmp maybe_not compared between within_list like tested maybe_tested is_null after_name atom_read atom nots neg_from conj_from pred_from part_at pred plain times factor_from term_from expr_from primary_at
primary_first text zero = refl
primary_first text (suc n) = refl

primary_goes : (text : List ℕ) (n : ℕ) → subset (primary_at text n).goes (begins_primary (primary_at text n)).goes ≡ true
unfolding name sign unsigned literal table names whole constant operand cmp maybe_not compared between within_list like tested maybe_tested is_null after_name atom_read atom nots neg_from conj_from pred_from part_at pred plain times factor_from term_from expr_from primary_at
primary_goes text zero = refl
primary_goes text (suc n) = refl

primary_empty : (text : List ℕ) (n : ℕ) → (primary_at text n).empty ≡ false
unfolding name sign unsigned literal table names whole constant operand cmp maybe_not compared between within_list like tested maybe_tested is_null after_name atom_read atom nots neg_from conj_from pred_from part_at pred plain times factor_from term_from expr_from primary_at
primary_empty text zero = refl
primary_empty text (suc n) = refl

pub primary_at_laws : (text : List ℕ) (n : ℕ) → Laws (primary_at text n)
unfolding name sign unsigned literal table names whole constant operand cmp maybe_not compared between within_list like tested maybe_tested is_null after_name atom_read atom nots neg_from conj_from pred_from part_at pred plain times factor_from term_from expr_from primary_at
primary_at_laws text zero = plain_laws text
primary_at_laws text (suc n) =
    choose (made nested_of (both (word_laws terminal.OpenSign refl)
    (both (expr_from_laws (primary_at text n) (declared_laws (primary_at_laws text n) (primary_first text n) (primary_goes text n) (primary_empty text n))) (word_laws terminal.CloseSign refl) refl) refl))
    (plain_laws text) refl refl refl

pub begins_primary_laws : (text : List ℕ) (n : ℕ) → Laws (begins_primary (primary_at text n))
begins_primary_laws text n = declared_laws (primary_at_laws text n) (primary_first text n) (primary_goes text n) (primary_empty text n)

pub expr_laws : (text : List ℕ) (n : ℕ) → Laws (expr text n)
unfolding name sign unsigned literal table names whole constant operand cmp maybe_not compared between within_list like tested maybe_tested is_null after_name atom_read atom nots neg_from conj_from pred_from part_at pred plain times factor_from term_from expr_from primary_at expr
expr_laws text n = expr_from_laws (primary_at text n) (begins_primary_laws text n)

pub row_laws : (text : List ℕ) (n : ℕ) → Laws (row text n)
unfolding name sign unsigned literal table names whole constant operand cmp maybe_not compared between within_list like tested maybe_tested is_null after_name atom_read atom nots neg_from conj_from pred_from part_at pred plain times factor_from term_from expr_from primary_at expr row
row_laws text n = made row_of (both (word_laws terminal.OpenSign refl) (both (listed_laws (expr_laws text n) refl refl) (word_laws terminal.CloseSign refl) refl) refl)

pub counted_laws : (text : List ℕ) → Laws (counted text)
unfolding name sign unsigned literal table names whole constant operand cmp maybe_not compared between within_list like tested maybe_tested is_null after_name atom_read atom nots neg_from conj_from pred_from part_at pred plain times factor_from term_from expr_from primary_at expr row counted
counted_laws text = within_laws (choose (made counted_star (word_laws terminal.StarSign refl)) (made counted_name (name_laws text)) refl refl refl) refl

pub aggregated_laws : (text : List ℕ) → Laws (aggregated text)
unfolding name sign unsigned literal table names whole constant operand cmp maybe_not compared between within_list like tested maybe_tested is_null after_name atom_read atom nots neg_from conj_from pred_from part_at pred plain times factor_from term_from expr_from primary_at expr row counted aggregated
aggregated_laws text = made counted_name (within_laws (name_laws text) refl)

pub item_read_laws : (text : List ℕ) → Laws (item_read text)
unfolding name sign unsigned literal table names whole constant operand cmp maybe_not compared between within_list like tested maybe_tested is_null after_name atom_read atom nots neg_from conj_from pred_from part_at pred plain times factor_from term_from expr_from primary_at expr row counted aggregated item_read
item_read_laws text = choose (made (named_or text) (both (word_laws terminal.Count refl) (maybe (counted_laws text) refl) refl))
    (choose (made (named_or text) (both (one_of column_aggregates terminal.Sum refl) (maybe (aggregated_laws text) refl) refl))
    (made its.Name (made (name_of text) (one_of other_names terminal.Plain refl))) refl refl refl) refl refl refl

pub item_laws : (text : List ℕ) → Laws (item text)
unfolding name sign unsigned literal table names whole constant operand cmp maybe_not compared between within_list like tested maybe_tested is_null after_name atom_read atom nots neg_from conj_from pred_from part_at pred plain times factor_from term_from expr_from primary_at expr row counted aggregated item_read item
item_laws text = written_laws (item_lines text) (item_read text) (item_read_laws text) (item_to text) (item_from text)

pub all_items_laws : Laws all_items
unfolding all_items
all_items_laws = made all_of (word_laws terminal.StarSign refl)

pub item_list_laws : (text : List ℕ) → Laws (item_list text)
unfolding name sign unsigned literal table names whole constant operand cmp maybe_not compared between within_list like tested maybe_tested is_null after_name atom_read atom nots neg_from conj_from pred_from part_at pred plain times factor_from term_from expr_from primary_at expr row counted aggregated item_read item all_items item_list
item_list_laws text = made shown.List (listed_laws (item_laws text) refl refl)

pub oitem_laws : (text : List ℕ) → Laws (oitem text)
unfolding name sign unsigned literal table names whole constant operand cmp maybe_not compared between within_list like tested maybe_tested is_null after_name atom_read atom nots neg_from conj_from pred_from part_at pred plain times factor_from term_from expr_from primary_at expr row counted aggregated item_read item all_items item_list oitem
oitem_laws text = made oitem_of (both (name_laws text) (maybe (one_of (terminal.Asc ∷ terminal.Desc ∷ []) terminal.Asc refl) refl) refl)

pub where_part_laws : (text : List ℕ) (n : ℕ) → Laws (where_part text n)
unfolding name sign unsigned literal table names whole constant operand cmp maybe_not compared between within_list like tested maybe_tested is_null after_name atom_read atom nots neg_from conj_from pred_from part_at pred plain times factor_from term_from expr_from primary_at expr row counted aggregated item_read item all_items item_list oitem where_part
where_part_laws text n = behind_laws terminal.Where refl (pred_laws text n)

pub on_off_laws : Laws on_off
unfolding name sign unsigned literal table names whole constant operand cmp maybe_not compared between within_list like tested maybe_tested is_null after_name atom_read atom nots neg_from conj_from pred_from part_at pred plain times factor_from term_from expr_from primary_at expr row counted aggregated item_read item all_items item_list oitem where_part on_off
on_off_laws = made is_word_on (one_of (terminal.On ∷ terminal.Off ∷ []) terminal.On refl)

pub values_laws : (text : List ℕ) (n : ℕ) → Laws (values text n)
unfolding name sign unsigned literal table names whole constant operand cmp maybe_not compared between within_list like tested maybe_tested is_null after_name atom_read atom nots neg_from conj_from pred_from part_at pred plain times factor_from term_from expr_from primary_at expr row counted aggregated item_read item all_items item_list oitem where_part on_off values
values_laws text n = made sources.Values (behind_laws terminal.Values refl (listed_laws (row_laws text n) refl refl))

pub series_laws : (text : List ℕ) (n : ℕ) → Laws (series text n)
unfolding name sign unsigned literal table names whole constant operand cmp maybe_not compared between within_list like tested maybe_tested is_null after_name atom_read atom nots neg_from conj_from pred_from part_at pred plain times factor_from term_from expr_from primary_at expr row counted aggregated item_read item all_items item_list oitem where_part on_off values series
series_laws text n = made sources.Series (made series_of (behind_laws terminal.Select refl (both (listed_laws (expr_laws text n) refl refl)
    (behind_laws terminal.From refl (both (word_laws terminal.GenerateSeries refl)
    (within_laws (both (whole_laws text) (behind_laws terminal.CommaSign refl (whole_laws text)) refl) refl) refl)) refl)))

pub set_part_laws : (text : List ℕ) (n : ℕ) → Laws (set_part text n)
unfolding name sign unsigned literal table names whole constant operand cmp maybe_not compared between within_list like tested maybe_tested is_null after_name atom_read atom nots neg_from conj_from pred_from part_at pred plain times factor_from term_from expr_from primary_at expr row counted aggregated item_read item all_items item_list oitem where_part on_off values series set_part
set_part_laws text n = made set_of (both (name_laws text) (behind_laws terminal.EqualSign refl (expr_laws text n)) refl)

pub index_laws : (text : List ℕ) → Laws (index text)
unfolding name sign unsigned literal table names whole constant operand cmp maybe_not compared between within_list like tested maybe_tested is_null after_name atom_read atom nots neg_from conj_from pred_from part_at pred plain times factor_from term_from expr_from primary_at expr row counted aggregated item_read item all_items item_list oitem where_part on_off values series set_part index
index_laws text = choose (made all_indexes (word_laws terminal.All refl)) (made one_index (name_laws text)) refl refl refl

pub group_part_laws : (text : List ℕ) → Laws (group_part text)
unfolding name sign unsigned literal table names whole constant operand cmp maybe_not compared between within_list like tested maybe_tested is_null after_name atom_read atom nots neg_from conj_from pred_from part_at pred plain times factor_from term_from expr_from primary_at expr row counted aggregated item_read item all_items item_list oitem where_part on_off values series set_part index group_part
group_part_laws text = behind_laws terminal.Group refl (behind_laws terminal.By refl (names_laws text))

pub order_part_laws : (text : List ℕ) → Laws (order_part text)
unfolding name sign unsigned literal table names whole constant operand cmp maybe_not compared between within_list like tested maybe_tested is_null after_name atom_read atom nots neg_from conj_from pred_from part_at pred plain times factor_from term_from expr_from primary_at expr row counted aggregated item_read item all_items item_list oitem where_part on_off values series set_part index group_part order_part
order_part_laws text = behind_laws terminal.Order refl (behind_laws terminal.By refl (listed_laws (oitem_laws text) refl refl))

pub begin_statement_laws : Laws begin_statement
unfolding name sign unsigned literal table names whole constant operand cmp maybe_not compared between within_list like tested maybe_tested is_null after_name atom_read atom nots neg_from conj_from pred_from part_at pred plain times factor_from term_from expr_from primary_at expr row counted aggregated item_read item all_items item_list oitem where_part on_off values series set_part index group_part order_part begin_statement
begin_statement_laws = behind_laws terminal.Begin refl (made begin_tran_of (one_of (terminal.Tran ∷ terminal.Transaction ∷ []) terminal.Tran refl))

pub commit_statement_laws : Laws commit_statement
unfolding name sign unsigned literal table names whole constant operand cmp maybe_not compared between within_list like tested maybe_tested is_null after_name atom_read atom nots neg_from conj_from pred_from part_at pred plain times factor_from term_from expr_from primary_at expr row counted aggregated item_read item all_items item_list oitem where_part on_off values series set_part index group_part order_part begin_statement commit_statement
commit_statement_laws = behind_laws terminal.Commit refl (made commit_of (maybe (one_of (terminal.Tran ∷ terminal.Transaction ∷ terminal.Work ∷ []) terminal.Tran refl) refl))

pub rollback_statement_laws : Laws rollback_statement
unfolding name sign unsigned literal table names whole constant operand cmp maybe_not compared between within_list like tested maybe_tested is_null after_name atom_read atom nots neg_from conj_from pred_from part_at pred plain times factor_from term_from expr_from primary_at expr row counted aggregated item_read item all_items item_list oitem where_part on_off values series set_part index group_part order_part begin_statement commit_statement rollback_statement
rollback_statement_laws = behind_laws terminal.Rollback refl (made rollback_of (maybe (one_of (terminal.Tran ∷ terminal.Transaction ∷ terminal.Work ∷ []) terminal.Tran refl) refl))

pub set_snapshot_laws : Laws set_snapshot
unfolding name sign unsigned literal table names whole constant operand cmp maybe_not compared between within_list like tested maybe_tested is_null after_name atom_read atom nots neg_from conj_from pred_from part_at pred plain times factor_from term_from expr_from primary_at expr row counted aggregated item_read item all_items item_list oitem where_part on_off values series set_part index group_part order_part begin_statement commit_statement rollback_statement set_snapshot
set_snapshot_laws = behind_laws terminal.Transaction refl (behind_laws terminal.Isolation refl (behind_laws terminal.Level refl (made snapshot_of (word_laws terminal.Snapshot refl))))

pub set_statistics_laws : Laws set_statistics
unfolding name sign unsigned literal table names whole constant operand cmp maybe_not compared between within_list like tested maybe_tested is_null after_name atom_read atom nots neg_from conj_from pred_from part_at pred plain times factor_from term_from expr_from primary_at expr row counted aggregated item_read item all_items item_list oitem where_part on_off values series set_part index group_part order_part begin_statement commit_statement rollback_statement set_snapshot set_statistics
set_statistics_laws = behind_laws terminal.Statistics refl (behind_laws terminal.Io refl (made statements.SetStatistics on_off_laws))

pub set_lock_timeout_laws : (text : List ℕ) → Laws (set_lock_timeout text)
unfolding name sign unsigned literal table names whole constant operand cmp maybe_not compared between within_list like tested maybe_tested is_null after_name atom_read atom nots neg_from conj_from pred_from part_at pred plain times factor_from term_from expr_from primary_at expr row counted aggregated item_read item all_items item_list oitem where_part on_off values series set_part index group_part order_part begin_statement commit_statement rollback_statement set_snapshot set_statistics set_lock_timeout
set_lock_timeout_laws text = behind_laws terminal.LockTimeout refl (made statements.SetLockTimeout (unsigned_laws text))

pub set_read_laws : (text : List ℕ) → Laws (set_read text)
unfolding name sign unsigned literal table names whole constant operand cmp maybe_not compared between within_list like tested maybe_tested is_null after_name atom_read atom nots neg_from conj_from pred_from part_at pred plain times factor_from term_from expr_from primary_at expr row counted aggregated item_read item all_items item_list oitem where_part on_off values series set_part index group_part order_part begin_statement commit_statement rollback_statement set_snapshot set_statistics set_lock_timeout set_read
set_read_laws text = behind_laws terminal.Set refl (choose set_snapshot_laws (choose set_statistics_laws (set_lock_timeout_laws text) refl refl refl) refl refl refl)

pub set_statement_laws : (text : List ℕ) → Laws (set_statement text)
unfolding name sign unsigned literal table names whole constant operand cmp maybe_not compared between within_list like tested maybe_tested is_null after_name atom_read atom nots neg_from conj_from pred_from part_at pred plain times factor_from term_from expr_from primary_at expr row counted aggregated item_read item all_items item_list oitem where_part on_off values series set_part index group_part order_part begin_statement commit_statement rollback_statement set_snapshot set_statistics set_lock_timeout set_read set_statement
set_statement_laws text = written_laws (set_lines text) (set_read text) (set_read_laws text) (set_to text) (set_from text)

pub compress_part_laws : Laws compress_part
unfolding name sign unsigned literal table names whole constant operand cmp maybe_not compared between within_list like tested maybe_tested is_null after_name atom_read atom nots neg_from conj_from pred_from part_at pred plain times factor_from term_from expr_from primary_at expr row counted aggregated item_read item all_items item_list oitem where_part on_off values series set_part index group_part order_part begin_statement commit_statement rollback_statement set_snapshot set_statistics set_lock_timeout set_read set_statement compress_part
compress_part_laws = behind_laws terminal.With refl (within_laws (behind_laws terminal.CompressAllRowGroups refl (behind_laws terminal.EqualSign refl on_off_laws)) refl)

pub alter_index_laws : (text : List ℕ) → Laws (alter_index text)
unfolding name sign unsigned literal table names whole constant operand cmp maybe_not compared between within_list like tested maybe_tested is_null after_name atom_read atom nots neg_from conj_from pred_from part_at pred plain times factor_from term_from expr_from primary_at expr row counted aggregated item_read item all_items item_list oitem where_part on_off values series set_part index group_part order_part begin_statement commit_statement rollback_statement set_snapshot set_statistics set_lock_timeout set_read set_statement compress_part alter_index
alter_index_laws text = made alter_of (behind_laws terminal.Index refl (both (index_laws text)
    (behind_laws terminal.On refl (both (table_laws text) (behind_laws terminal.Reorganize refl (maybe compress_part_laws refl)) refl)) refl))

pub altered_laws : (text : List ℕ) → Laws (altered text)
unfolding name sign unsigned literal table names whole constant operand cmp maybe_not compared between within_list like tested maybe_tested is_null after_name atom_read atom nots neg_from conj_from pred_from part_at pred plain times factor_from term_from expr_from primary_at expr row counted aggregated item_read item all_items item_list oitem where_part on_off values series set_part index group_part order_part begin_statement commit_statement rollback_statement set_snapshot set_statistics set_lock_timeout set_read set_statement compress_part alter_index altered
altered_laws text = alter_index_laws text

pub alter_statement_laws : (text : List ℕ) → Laws (alter_statement text)
unfolding name sign unsigned literal table names whole constant operand cmp maybe_not compared between within_list like tested maybe_tested is_null after_name atom_read atom nots neg_from conj_from pred_from part_at pred plain times factor_from term_from expr_from primary_at expr row counted aggregated item_read item all_items item_list oitem where_part on_off values series set_part index group_part order_part begin_statement commit_statement rollback_statement set_snapshot set_statistics set_lock_timeout set_read set_statement compress_part alter_index altered alter_statement
alter_statement_laws text = behind_laws terminal.Alter refl (altered_laws text)

pub insert_statement_laws : (text : List ℕ) (n : ℕ) → Laws (insert_statement text n)
unfolding name sign unsigned literal table names whole constant operand cmp maybe_not compared between within_list like tested maybe_tested is_null after_name atom_read atom nots neg_from conj_from pred_from part_at pred plain times factor_from term_from expr_from primary_at expr row counted aggregated item_read item all_items item_list oitem where_part on_off values series set_part index group_part order_part begin_statement commit_statement rollback_statement set_snapshot set_statistics set_lock_timeout set_read set_statement compress_part alter_index altered alter_statement insert_statement
insert_statement_laws text n = made insert_of (behind_laws terminal.Insert refl (maybe_behind_laws terminal.Into refl (both (table_laws text)
    (both (maybe (within_laws (names_laws text) refl) refl) (choose (values_laws text n) (series_laws text n) refl refl refl) refl) refl) refl))

pub update_statement_laws : (text : List ℕ) (n : ℕ) → Laws (update_statement text n)
unfolding name sign unsigned literal table names whole constant operand cmp maybe_not compared between within_list like tested maybe_tested is_null after_name atom_read atom nots neg_from conj_from pred_from part_at pred plain times factor_from term_from expr_from primary_at expr row counted aggregated item_read item all_items item_list oitem where_part on_off values series set_part index group_part order_part begin_statement commit_statement rollback_statement set_snapshot set_statistics set_lock_timeout set_read set_statement compress_part alter_index altered alter_statement insert_statement update_statement
update_statement_laws text n = made update_of (behind_laws terminal.Update refl (both (table_laws text)
    (behind_laws terminal.Set refl (both (listed_laws (set_part_laws text n) refl refl) (maybe (where_part_laws text n) refl) refl)) refl))

pub delete_statement_laws : (text : List ℕ) (n : ℕ) → Laws (delete_statement text n)
unfolding name sign unsigned literal table names whole constant operand cmp maybe_not compared between within_list like tested maybe_tested is_null after_name atom_read atom nots neg_from conj_from pred_from part_at pred plain times factor_from term_from expr_from primary_at expr row counted aggregated item_read item all_items item_list oitem where_part on_off values series set_part index group_part order_part begin_statement commit_statement rollback_statement set_snapshot set_statistics set_lock_timeout set_read set_statement compress_part alter_index altered alter_statement insert_statement update_statement delete_statement
delete_statement_laws text n = made delete_of (behind_laws terminal.Delete refl (maybe_behind_laws terminal.From refl (both (table_laws text) (maybe (where_part_laws text n) refl) refl) refl))

pub query_part_laws : (text : List ℕ) (n : ℕ) → Laws (query_part text n)
unfolding name sign unsigned literal table names whole constant operand cmp maybe_not compared between within_list like tested maybe_tested is_null after_name atom_read atom nots neg_from conj_from pred_from part_at pred plain times factor_from term_from expr_from primary_at expr row counted aggregated item_read item all_items item_list oitem where_part on_off values series set_part index group_part order_part begin_statement commit_statement rollback_statement set_snapshot set_statistics set_lock_timeout set_read set_statement compress_part alter_index altered alter_statement insert_statement update_statement delete_statement query_part
query_part_laws text n = both (table_laws text) (both (maybe (where_part_laws text n) refl)
    (both (maybe (group_part_laws text) refl) (maybe (order_part_laws text) refl) refl) refl) refl

pub queried_laws : (text : List ℕ) (n : ℕ) → Laws (queried text n)
unfolding name sign unsigned literal table names whole constant operand cmp maybe_not compared between within_list like tested maybe_tested is_null after_name atom_read atom nots neg_from conj_from pred_from part_at pred plain times factor_from term_from expr_from primary_at expr row counted aggregated item_read item all_items item_list oitem where_part on_off values series set_part index group_part order_part begin_statement commit_statement rollback_statement set_snapshot set_statistics set_lock_timeout set_read set_statement compress_part alter_index altered alter_statement insert_statement update_statement delete_statement query_part queried
queried_laws text n = made with_items (query_part_laws text n)

pub select_read_laws : (text : List ℕ) (n : ℕ) → Laws (select_read text n)
unfolding name sign unsigned literal table names whole constant operand cmp maybe_not compared between within_list like tested maybe_tested is_null after_name atom_read atom nots neg_from conj_from pred_from part_at pred plain times factor_from term_from expr_from primary_at expr row counted aggregated item_read item all_items item_list oitem where_part on_off values series set_part index group_part order_part begin_statement commit_statement rollback_statement set_snapshot set_statistics set_lock_timeout set_read set_statement compress_part alter_index altered alter_statement insert_statement update_statement delete_statement query_part queried select_read
select_read_laws text n = behind_laws terminal.Select refl
    (choose (made applied (both all_items_laws (behind_laws terminal.From refl (queried_laws text n)) refl))
    (made applied (both (item_list_laws text) (behind_laws terminal.From refl (queried_laws text n)) refl)) refl refl refl)

pub select_statement_laws : (text : List ℕ) (n : ℕ) → Laws (select_statement text n)
unfolding name sign unsigned literal table names whole constant operand cmp maybe_not compared between within_list like tested maybe_tested is_null after_name atom_read atom nots neg_from conj_from pred_from part_at pred plain times factor_from term_from expr_from primary_at expr row counted aggregated item_read item all_items item_list oitem where_part on_off values series set_part index group_part order_part begin_statement commit_statement rollback_statement set_snapshot set_statistics set_lock_timeout set_read set_statement compress_part alter_index altered alter_statement insert_statement update_statement delete_statement query_part queried select_read select_statement
select_statement_laws text n =
    written_laws (select_lines text n) (select_read text n) (select_read_laws text n) (select_to text n) (select_from text n)

pub statement_laws : (text : List ℕ) (n : ℕ) → Laws (statement text n)
unfolding name sign unsigned literal table names whole constant operand cmp maybe_not compared between within_list like tested maybe_tested is_null after_name atom_read atom nots neg_from conj_from pred_from part_at pred plain times factor_from term_from expr_from primary_at expr row counted aggregated item_read item all_items item_list oitem where_part on_off values series set_part index group_part order_part begin_statement commit_statement rollback_statement set_snapshot set_statistics set_lock_timeout set_read set_statement compress_part alter_index altered alter_statement insert_statement update_statement delete_statement query_part queried select_read select_statement statement
statement_laws text n = choose begin_statement_laws (choose commit_statement_laws (choose rollback_statement_laws (choose (set_statement_laws text)
    (choose (alter_statement_laws text) (choose (insert_statement_laws text n) (choose (update_statement_laws text n)
    (choose (delete_statement_laws text n) (select_statement_laws text n) refl refl refl) refl refl refl) refl refl refl) refl refl refl) refl refl refl) refl refl refl) refl refl refl) refl refl refl

pub line_laws : (text : List ℕ) (n : ℕ) → Laws (line text n)
unfolding name sign unsigned literal table names whole constant operand cmp maybe_not compared between within_list like tested maybe_tested is_null after_name atom_read atom nots neg_from conj_from pred_from part_at pred plain times factor_from term_from expr_from primary_at expr row counted aggregated item_read item all_items item_list oitem where_part on_off values series set_part index group_part order_part begin_statement commit_statement rollback_statement set_snapshot set_statistics set_lock_timeout set_read set_statement compress_part alter_index altered alter_statement insert_statement update_statement delete_statement query_part queried select_read select_statement statement line
line_laws text n = made (λ (x : Statement × Option Symbol). x.0) (both (statement_laws text n) (maybe (word_laws terminal.SemicolonSign refl) refl) refl)
