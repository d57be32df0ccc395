-- The rows of a table have different keys: each stands under its own, and the keys ascend.
use Rattle.std.proofs.Common.{◌≡◌, ◌≢◌, ◌<◌, List, [], ◌∷◌, length, pos, AllPairs, sym, ap, ◌∙◌, arith, true≢false}
use Rattle.std.specs.Map.{keys_of, values_of}
use Rattle.std.specs.declared.cmp.Ordering.TheVariants.{Less}
use Rattle.std.specs.Ordering.{is_lt}
use Rattle.std.specs.List.Sorted.{IsStrictlySortedBy}
use Rattle.std.proofs.lemmas.List.Elements.{All-from_recursion}
use Rattle.std.proofs.lemmas.List.Kept.{AllPairs-cons}
use Rattle.std.proofs.lemmas.List.{get_or-map, length-map}
use Rattle.cs_types.specs.declared.Key.{Key}
use Rattle.cs_types.specs.declared.Schema.{Schema}
use Rattle.cs_types.specs.declared.Value.{Value}
use Rattle.cs_types.specs.Keys.{key_cmp}
use Rattle.cs_types.specs.Rows.{key_in}
use Rattle.cs_model.specs.Changes.{Table}
use Rattle.cs_model.specs.Held.{IsFitTable}
use Rattle.answer_laws.specs.Laws.{KeysDiffer}
use Rattle.answer_laws.proofs.Orders.{int_itself}

-- a key is not below itself
never_below : (key : Key) → key_cmp key key ≡ Less → ⊥
never_below key e = absurd (true≢false (sym (ap is_lt e) ∙ ap is_lt (int_itself key.0)))

keys_apart : (table : Table) → IsStrictlySortedBy key_cmp (keys_of table) → AllPairs (λ (a b : Key × List Value). a.0 ≢ b.0) table
unfolding IsStrictlySortedBy
keys_apart [] h = λ i j d less l. absurd (omega arith)
keys_apart (x ∷ xs) h =
    AllPairs-cons (λ (a b : Key × List Value). a.0 ≢ b.0) x xs
    (λ k d l same.
    let first = λ (entry : Key × List Value). entry.0 in
    let at = get_or-map first xs k d x.0 l in
    let below = All-from_recursion (λ y. key_cmp x.0 y ≡ Less) (keys_of xs) h.0 k x.0 (omega (arith, l, length-map xs first)) in
    never_below x.0 (ap (key_cmp x.0) (same ∙ sym at) ∙ below))
    (keys_apart xs h.1)

pub keys_of_table : (schema : Schema) (table : Table) → IsFitTable schema table → IsStrictlySortedBy key_cmp (keys_of table) → KeysDiffer schema (values_of table)
keys_of_table schema table fit up i j d less l same =
    let none : Key × List Value = (record { 0 = pos 0 }, []) in
    let second = λ (entry : Key × List Value). entry.1 in
    let last : j < length table = omega (arith, l, length-map table second) in
    let left = get_or-map second table i none d (omega arith) in
    let right = get_or-map second table j none d last in
    keys_apart table up i j none less last
    (sym (fit i none (omega arith)).1.under ∙ ap (key_in schema.key) (sym left) ∙ same ∙ ap (key_in schema.key) right ∙ (fit j none last).1.under)
