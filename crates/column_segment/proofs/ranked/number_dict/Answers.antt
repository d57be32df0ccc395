use Rattle.std.proofs.Common.{◌≡◌, ◌-◌, ◌∙◌, ℕ, ℤ, List, length, map, drop, take, sym, ap, subst, arith}
use Rattle.std.proofs.lemmas.List.{take_all, length-drop, length-map}
use Rattle.std.specs.Int.{from_bool}
use Rattle.std.specs.Ordering.{int_cmp}
use Rattle.cs_types.specs.Rows.{cell_at, number_in, number_cell}
use Rattle.segment_dict.specs.Dictionaries.{Ascends}
use Rattle.column_segment.proofs.Dicts.{own-number, bare-no-text}
use Rattle.column_segment.proofs.RankLemmas.{kind-numbers, codes-ranked, dict-ranked, a-rank}
use Rattle.column_segment.proofs.ranked.number_dict.Goals as goal

pub invariant_of-result : goal.invariant_of-result
invariant_of-result c =
    let cells = map number_cell c.args.numbers.now in
    let ranks = c.args.ranks.now in
    let places = c.in_ok-places.places.items in
    let nulls = c.begins_none-nulls.result in
    let numbers_now : List ℕ → List ℤ = λ some. map (λ place. number_in (cell_at cells place)) some in
    let told : c.in_ok-entries.entries.items ≡ numbers_now (take (length c.deref-2.result.now - c.from.result) (drop c.from.result c.deref-2.result.now)) = c.in_ok-entries.ensures in
    let are : c.from_vec.result ≡ numbers_now (drop (from_bool nulls) places) =
    c.from_vec.ensures ∙ told
    ∙ ap numbers_now (take_all (length c.deref-2.result.now - c.from.result) (drop c.from.result c.deref-2.result.now) (omega (arith, length-drop c.from.result c.deref-2.result.now)))
    ∙ ap (λ (all : List ℕ). numbers_now (drop c.from.result all)) c.deref-2.ensures.value ∙ ap (λ (n : ℕ). numbers_now (drop n places)) c.from.ensures in
    let first = rw c.deref.ensures.value at c.begins_none-nulls.ensures in
    let own = own-number cells (bare-no-text c.args.numbers.now) in
    let some = a-rank cells ranks c.args.count c.requires.ranks (omega (arith, c.requires.some, length-map c.args.numbers.now number_cell)) in
    let dict = dict-ranked kind-numbers cells ranks c.args.count c.requires.ranks places c.in_ok-places.ensures own nulls first some in
    record { ascending = subst (Ascends int_cmp) (sym are) dict.ascending }

pub returns-clause-dict : goal.returns-clause-dict
returns-clause-dict c =
    let cells = map number_cell c.args.numbers.now in
    let ranks = c.args.ranks.now in
    let places = c.in_ok-places.places.items in
    let nulls = c.begins_none-nulls.result in
    let numbers_now : List ℕ → List ℤ = λ some. map (λ place. number_in (cell_at cells place)) some in
    let told : c.in_ok-entries.entries.items ≡ numbers_now (take (length c.deref-2.result.now - c.from.result) (drop c.from.result c.deref-2.result.now)) = c.in_ok-entries.ensures in
    let are : c.from_vec.result ≡ numbers_now (drop (from_bool nulls) places) =
    c.from_vec.ensures ∙ told
    ∙ ap numbers_now (take_all (length c.deref-2.result.now - c.from.result) (drop c.from.result c.deref-2.result.now) (omega (arith, length-drop c.from.result c.deref-2.result.now)))
    ∙ ap (λ (all : List ℕ). numbers_now (drop c.from.result all)) c.deref-2.ensures.value ∙ ap (λ (n : ℕ). numbers_now (drop n places)) c.from.ensures in
    let first = rw c.deref.ensures.value at c.begins_none-nulls.ensures in
    let own = own-number cells (bare-no-text c.args.numbers.now) in
    let some = a-rank cells ranks c.args.count c.requires.ranks (omega (arith, c.requires.some, length-map c.args.numbers.now number_cell)) in
    let dict = dict-ranked kind-numbers cells ranks c.args.count c.requires.ranks places c.in_ok-places.ensures own nulls first some in
    (bare-no-text c.args.numbers.now, rw are dict)

pub returns-clause-codes : goal.returns-clause-codes
returns-clause-codes c =
    let cells = map number_cell c.args.numbers.now in
    let ranks = c.args.ranks.now in
    let places = c.in_ok-places.places.items in
    let nulls = c.begins_none-nulls.result in
    let numbers_now : List ℕ → List ℤ = λ some. map (λ place. number_in (cell_at cells place)) some in
    let told : c.in_ok-entries.entries.items ≡ numbers_now (take (length c.deref-2.result.now - c.from.result) (drop c.from.result c.deref-2.result.now)) = c.in_ok-entries.ensures in
    let are : c.from_vec.result ≡ numbers_now (drop (from_bool nulls) places) =
    c.from_vec.ensures ∙ told
    ∙ ap numbers_now (take_all (length c.deref-2.result.now - c.from.result) (drop c.from.result c.deref-2.result.now) (omega (arith, length-drop c.from.result c.deref-2.result.now)))
    ∙ ap (λ (all : List ℕ). numbers_now (drop c.from.result all)) c.deref-2.ensures.value ∙ ap (λ (n : ℕ). numbers_now (drop n places)) c.from.ensures in
    let first = rw c.deref.ensures.value at c.begins_none-nulls.ensures in
    let own = own-number cells (bare-no-text c.args.numbers.now) in
    let some = a-rank cells ranks c.args.count c.requires.ranks (omega (arith, c.requires.some, length-map c.args.numbers.now number_cell)) in
    rw are (codes-ranked kind-numbers cells ranks c.args.count c.requires.ranks places c.in_ok-places.ensures own nulls first some)
