-- Pairs, and the words that they are: what the walk along the words finds is what is said of the pairs.
use Rattle.std.proofs.Common.{◌≡◌, ℕ, List, [], ◌∷◌, Bool, true, false, not, ◌&&◌, ◌||◌, cond, if◌then◌else◌, bytes_eq, nat_le, arith, Some, refl, ap, sym, subst, ◌∙◌}
use Rattle.std.specs.Cmp.Derive.{both_true}
use Rattle.std.specs.List.{list_all, list_any, find}
use Rattle.std.specs.Option.{option_map_or}
use Rattle.std.proofs.lemmas.Bool.Decides.{nat_tests}
use Rattle.std.proofs.lemmas.Slice.Eq.{bytes_eq-Decides}
use Rattle.cs_types.specs.Calendar.{digits_value}
use Rattle.command_words.specs.declared.mode.Mode.{Mode}
use Rattle.command_words.specs.declared.mode.Mode.TheVariants as mode
use Rattle.command_words.specs.Options.{OptionRow, group_rows_row, direct_rows_row, workers_row, movers_row, number_row, sessions_row, statements_row, is_number, is_value}
use Rattle.command_words.specs.declared.order.Order.{Order}
use Rattle.command_words.specs.declared.order.Order.TheVariants as order
use Rattle.command_words.specs.Orders.{Words, Pair, words_of, is_pair, are_once, value_of, options_with, workload_with, order_with, IsWithin, AreInRange, IsWorkload, IsInRange, IsOrder}
use Rattle.command_words.specs.Walk.{is_named, are_pairs, value_among}

and_left : (a b : Bool) → (a && b) ≡ true → a ≡ true
and_left true b e = refl
and_left false b e = e

and_right : (a b : Bool) → (a && b) ≡ true → b ≡ true
and_right true b e = e
and_right false b e = cc

or_false : (b : Bool) → (b || false) ≡ true → b ≡ true
or_false true e = refl
or_false false e = e

-- the words, two by two
abbrev pub pairs_in : Words → List Pair
pairs_in [] = []
pairs_in (name ∷ []) = []
pairs_in (name ∷ value ∷ rest) = (name, value) ∷ pairs_in rest

-- good words are those of pairs
pub words_are_pairs : (mode : Mode) (words : Words) → are_pairs mode words ≡ true → words ≡ words_of (pairs_in words)
words_are_pairs mode [] good = refl
words_are_pairs mode (name ∷ []) good = cc
words_are_pairs mode (name ∷ value ∷ rest) good = ap (λ z. name ∷ value ∷ z) (words_are_pairs mode rest (and_right _ _ good))

named_is : (name : List ℕ) (pairs : List Pair) → is_named name (words_of pairs) ≡ list_any (λ (other : Pair). bytes_eq name other.0) pairs
named_is name [] = refl
named_is name (pair ∷ pairs) = ap (λ b. bytes_eq name pair.0 || b) (named_is name pairs)

pub values_of_good : (mode : Mode) (pairs : List Pair) → are_pairs mode (words_of pairs) ≡ true → list_all (is_pair mode) pairs ≡ true
values_of_good mode [] good = refl
values_of_good mode (pair ∷ pairs) good = both_true (and_left _ _ (and_left _ _ good)) (values_of_good mode pairs (and_right _ _ good))

pub once_of_good : (mode : Mode) (pairs : List Pair) → are_pairs mode (words_of pairs) ≡ true → are_once pairs ≡ true
once_of_good mode [] good = refl
once_of_good mode (pair ∷ pairs) good = both_true (sym (ap not (named_is pair.0 pairs)) ∙ and_right _ _ (and_left _ _ good)) (once_of_good mode pairs (and_right _ _ good))

pub good_of_pairs : (mode : Mode) (pairs : List Pair) → list_all (is_pair mode) pairs ≡ true → are_once pairs ≡ true → are_pairs mode (words_of pairs) ≡ true
good_of_pairs mode [] values once = refl
good_of_pairs mode (pair ∷ pairs) values once = both_true (both_true (and_left _ _ values) (ap not (named_is pair.0 pairs) ∙ and_left _ _ once)) (good_of_pairs mode pairs (and_right _ _ values) (and_right _ _ once))

-- ---- values

value_at : (row : OptionRow) (pair : Pair) (pairs : List Pair) (words : Words) (b : Bool) → (b ≡ true → is_value row pair.1 ≡ true) → value_among row words ≡ value_of pairs row → (if b then (if is_value row pair.1 then digits_value pair.1 else row.usual) else value_among row words) ≡ option_map_or (λ (pair : Pair). digits_value pair.1) (cond b (Some pair) (find (λ (pair : Pair). bytes_eq row.name pair.0) pairs)) row.usual
value_at row pair pairs words true good same = ap (λ t. if t then digits_value pair.1 else row.usual) (good refl)
value_at row pair pairs words false good same = same

-- a pair of the option's name has a value of it
abbrev Fits : Mode → OptionRow → Type 0
Fits mode row = (pair : Pair) → is_pair mode pair ≡ true → bytes_eq row.name pair.0 ≡ true → is_value row pair.1 ≡ true

value_is : (mode : Mode) (row : OptionRow) → Fits mode row → (pairs : List Pair) → list_all (is_pair mode) pairs ≡ true → value_among row (words_of pairs) ≡ value_of pairs row
value_is mode row fits [] values = refl
value_is mode row fits (pair ∷ pairs) values = value_at row pair pairs (words_of pairs) (bytes_eq row.name pair.0) (fits pair (and_left _ _ values)) (value_is mode row fits pairs (and_right _ _ values))

-- a name that stands once among the options of a mode has the values of its line there
fits : (mode : Mode) (row : OptionRow) → ((text : List ℕ) → is_pair mode (row.name, text) ≡ (is_value row text || false)) → Fits mode row
fits mode row one pair is named =
    let P : List ℕ → Type 0 = λ name. is_pair mode (name, pair.1) ≡ true → is_value row pair.1 ≡ true in
    subst P ((bytes_eq-Decides row.name pair.0).0 named) (λ same. or_false (is_value row pair.1) (sym (one pair.1) ∙ same)) is

-- the options of a run, in a mode that has them
record HasOptions (mode : Mode) : Type 0 where
  group_rows : Fits mode group_rows_row
  direct_rows : Fits mode direct_rows_row
  workers : Fits mode workers_row

-- the options of a workload, in a mode that has them
record HasWorkload (mode : Mode) : Type 0 where
  number : Fits mode number_row
  sessions : Fits mode sessions_row
  statements : Fits mode statements_row

replay_has : HasOptions mode.Replay
unfolding is_pair
replay_has = record {
  group_rows = fits mode.Replay group_rows_row (λ text. refl);
  direct_rows = fits mode.Replay direct_rows_row (λ text. refl);
  workers = fits mode.Replay workers_row (λ text. refl);
}

run_has : HasOptions mode.Run
unfolding is_pair
run_has = record {
  group_rows = fits mode.Run group_rows_row (λ text. refl);
  direct_rows = fits mode.Run direct_rows_row (λ text. refl);
  workers = fits mode.Run workers_row (λ text. refl);
}

run_has_movers : Fits mode.Run movers_row
unfolding is_pair
run_has_movers = fits mode.Run movers_row (λ text. refl)

generate_has : HasWorkload mode.Generate
unfolding is_pair
generate_has = record {
  number = fits mode.Generate number_row (λ text. refl);
  sessions = fits mode.Generate sessions_row (λ text. refl);
  statements = fits mode.Generate statements_row (λ text. refl);
}

load_has : HasOptions mode.Load
unfolding is_pair
load_has = record {
  group_rows = fits mode.Load group_rows_row (λ text. refl);
  direct_rows = fits mode.Load direct_rows_row (λ text. refl);
  workers = fits mode.Load workers_row (λ text. refl);
}

load_has_workload : HasWorkload mode.Load
unfolding is_pair
load_has_workload = record {
  number = fits mode.Load number_row (λ text. refl);
  sessions = fits mode.Load sessions_row (λ text. refl);
  statements = fits mode.Load statements_row (λ text. refl);
}

options_are : (mode : Mode) → HasOptions mode → (pairs : List Pair) → list_all (is_pair mode) pairs ≡ true → options_with (λ row. value_among row (words_of pairs)) ≡ options_with (value_of pairs)
options_are mode has pairs values =
    let group_rows = value_is mode group_rows_row has.group_rows pairs values in
    let direct_rows = value_is mode direct_rows_row has.direct_rows pairs values in
    let workers = value_is mode workers_row has.workers pairs values in
    cc

workload_is : (mode : Mode) → HasWorkload mode → (pairs : List Pair) → list_all (is_pair mode) pairs ≡ true → workload_with (λ row. value_among row (words_of pairs)) ≡ workload_with (value_of pairs)
workload_is mode has pairs values =
    let number = value_is mode number_row has.number pairs values in
    let sessions = value_is mode sessions_row has.sessions pairs values in
    let statements = value_is mode statements_row has.statements pairs values in
    cc

-- the order is the same where the first values among the words are those of the pairs
pub order_is : (mode : Mode) (pairs : List Pair) → list_all (is_pair mode) pairs ≡ true → order_with mode (λ row. value_among row (words_of pairs)) ≡ order_with mode (value_of pairs)
order_is mode.Replay pairs values = ap order.Replay (options_are mode.Replay replay_has pairs values)
order_is mode.Run pairs values =
    let options = options_are mode.Run run_has pairs values in
    let movers = value_is mode.Run movers_row run_has_movers pairs values in
    ap (λ z. order.Run z (value_among movers_row (words_of pairs))) options ∙ ap (order.Run (options_with (value_of pairs))) movers
order_is mode.Generate pairs values = ap order.Generate (workload_is mode.Generate generate_has pairs values)
order_is mode.Load pairs values =
    let workload = workload_is mode.Load load_has_workload pairs values in
    let options = options_are mode.Load load_has pairs values in
    ap (λ z. order.Load z (options_with (λ row. value_among row (words_of pairs)))) workload ∙ ap (order.Load (workload_with (value_of pairs))) options

-- ---- ranges

within : (row : OptionRow) (text : List ℕ) → is_value row text ≡ true → IsWithin row (digits_value text)
within row text value =
    let number : (is_number text && nat_le row.least (digits_value text)) ≡ true = and_left (is_number text && nat_le row.least (digits_value text)) (nat_le (digits_value text) row.greatest) value in
    let least : nat_le row.least (digits_value text) ≡ true = and_right (is_number text) (nat_le row.least (digits_value text)) number in
    let greatest : nat_le (digits_value text) row.greatest ≡ true = and_right (is_number text && nat_le row.least (digits_value text)) (nat_le (digits_value text) row.greatest) value in
    (grind (arith, nat_tests, least), grind (arith, nat_tests, greatest))

range_at : (row : OptionRow) (pair : Pair) (pairs : List Pair) (b : Bool) → (b ≡ true → is_value row pair.1 ≡ true) → IsWithin row (value_of pairs row)
    → IsWithin row (option_map_or (λ (pair : Pair). digits_value pair.1) (cond b (Some pair) (find (λ (pair : Pair). bytes_eq row.name pair.0) pairs)) row.usual)
range_at row pair pairs true good rest = within row pair.1 (good refl)
range_at row pair pairs false good rest = rest

range_of : (mode : Mode) (row : OptionRow) → Fits mode row → IsWithin row row.usual → (pairs : List Pair) → list_all (is_pair mode) pairs ≡ true → IsWithin row (value_of pairs row)
range_of mode row fits usual [] values = usual
range_of mode row fits usual (pair ∷ pairs) values = range_at row pair pairs (bytes_eq row.name pair.0) (fits pair (and_left _ _ values)) (range_of mode row fits usual pairs (and_right _ _ values))

options_range : (mode : Mode) → HasOptions mode → (pairs : List Pair) → list_all (is_pair mode) pairs ≡ true → AreInRange (options_with (value_of pairs))
options_range mode has pairs values = (
  range_of mode group_rows_row has.group_rows (omega arith, omega arith) pairs values,
  range_of mode direct_rows_row has.direct_rows (omega arith, omega arith) pairs values,
  range_of mode workers_row has.workers (omega arith, omega arith) pairs values,
)

workload_range : (mode : Mode) → HasWorkload mode → (pairs : List Pair) → list_all (is_pair mode) pairs ≡ true → IsWorkload (workload_with (value_of pairs))
workload_range mode has pairs values = (
  range_of mode number_row has.number (omega arith, omega arith) pairs values,
  range_of mode sessions_row has.sessions (omega arith, omega arith) pairs values,
  range_of mode statements_row has.statements (omega arith, omega arith) pairs values,
)

ranges : (mode : Mode) (pairs : List Pair) → list_all (is_pair mode) pairs ≡ true → IsInRange (order_with mode (value_of pairs))
ranges mode.Replay pairs values = options_range mode.Replay replay_has pairs values
ranges mode.Run pairs values = (options_range mode.Run run_has pairs values, range_of mode.Run movers_row run_has_movers (omega arith, omega arith) pairs values)
ranges mode.Generate pairs values = workload_range mode.Generate generate_has pairs values
ranges mode.Load pairs values = (workload_range mode.Load load_has_workload pairs values, options_range mode.Load load_has pairs values)

pub in_range : (words : Words) (order : Order) → IsOrder words order → IsInRange order
in_range words order is = subst IsInRange (sym is.is) (ranges is.mode is.pairs is.values)
