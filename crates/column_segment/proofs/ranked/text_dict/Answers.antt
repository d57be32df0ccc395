use Rattle.std.proofs.Common.{◌≡◌, ◌-◌, ◌∙◌, ℕ, List, Bor, length, map, drop, take, sym, ap, subst, arith}
use Rattle.std.proofs.lemmas.List.{take_all, length-drop}
use Rattle.std.specs.Int.{from_bool}
use Rattle.std.specs.Ordering.{nat_cmp}
use Rattle.std.specs.Cmp.Lexicographic.{slice_cmp}
use Rattle.cs_types.specs.Rows.{cell_at}
use Rattle.segment_dict.specs.Dictionaries.{Ascends}
use Rattle.column_segment.specs.Cells.{seen}
use Rattle.column_segment.specs.Ranks.{text_in}
use Rattle.column_segment.proofs.Dicts.{own-text}
use Rattle.column_segment.proofs.RankLemmas.{kind-texts, codes-ranked, dict-ranked, some-rank}
use Rattle.column_segment.proofs.ranked.text_dict.Goals as goal

pub joined_texts-requires : goal.joined_texts-requires
joined_texts-requires c =
    let cells = map seen c.args.cells.now in
    let ranks = c.args.ranks.now in
    let places = c.in_ok-places.places.items in
    let nulls = c.begins_null-nulls.result in
    let text_now : List ℕ → List (List ℕ) = λ some. map (λ place. text_in (cell_at cells place)) some in
    let told : map (λ (text : Bor (List ℕ)). text.now) c.in_ok-texts.texts.items ≡ text_now (take (length c.deref-2.result.now - c.from.result) (drop c.from.result c.deref-2.result.now)) = c.in_ok-texts.ensures in
    let are : map (λ (text : Bor (List ℕ)). text.now) c.as_slice.result.now ≡ text_now (drop (from_bool nulls) places) =
    ap (map (λ (text : Bor (List ℕ)). text.now)) c.as_slice.ensures.value ∙ told
    ∙ ap text_now (take_all (length c.deref-2.result.now - c.from.result) (drop c.from.result c.deref-2.result.now) (omega (arith, length-drop c.from.result c.deref-2.result.now)))
    ∙ ap (λ (all : List ℕ). text_now (drop c.from.result all)) c.deref-2.ensures.value ∙ ap (λ (n : ℕ). text_now (drop n places)) c.from.ensures in
    let first = rw c.deref.ensures.value at c.begins_null-nulls.ensures in
    let dict = dict-ranked kind-texts cells ranks c.args.count c.requires.ranks places c.in_ok-places.ensures (own-text cells c.requires.no_number) nulls first (some-rank cells ranks c.args.count c.requires.ranks c.requires.text) in
    subst (Ascends (slice_cmp nat_cmp)) (sym are) dict.ascending

pub returns-clause-dict : goal.returns-clause-dict
returns-clause-dict c =
    let cells = map seen c.args.cells.now in
    let ranks = c.args.ranks.now in
    let places = c.in_ok-places.places.items in
    let nulls = c.begins_null-nulls.result in
    let text_now : List ℕ → List (List ℕ) = λ some. map (λ place. text_in (cell_at cells place)) some in
    let told : map (λ (text : Bor (List ℕ)). text.now) c.in_ok-texts.texts.items ≡ text_now (take (length c.deref-2.result.now - c.from.result) (drop c.from.result c.deref-2.result.now)) = c.in_ok-texts.ensures in
    let are : map (λ (text : Bor (List ℕ)). text.now) c.as_slice.result.now ≡ text_now (drop (from_bool nulls) places) =
    ap (map (λ (text : Bor (List ℕ)). text.now)) c.as_slice.ensures.value ∙ told
    ∙ ap text_now (take_all (length c.deref-2.result.now - c.from.result) (drop c.from.result c.deref-2.result.now) (omega (arith, length-drop c.from.result c.deref-2.result.now)))
    ∙ ap (λ (all : List ℕ). text_now (drop c.from.result all)) c.deref-2.ensures.value ∙ ap (λ (n : ℕ). text_now (drop n places)) c.from.ensures in
    let first = rw c.deref.ensures.value at c.begins_null-nulls.ensures in
    let dict = dict-ranked kind-texts cells ranks c.args.count c.requires.ranks places c.in_ok-places.ensures (own-text cells c.requires.no_number) nulls first (some-rank cells ranks c.args.count c.requires.ranks c.requires.text) in
    (c.requires.text, c.requires.no_number, rw (c.in_ok-joined_texts.ensures.0, c.in_ok-joined_texts.ensures.1, are) dict)

pub returns-clause-codes : goal.returns-clause-codes
returns-clause-codes c =
    let cells = map seen c.args.cells.now in
    let ranks = c.args.ranks.now in
    let places = c.in_ok-places.places.items in
    let nulls = c.begins_null-nulls.result in
    let text_now : List ℕ → List (List ℕ) = λ some. map (λ place. text_in (cell_at cells place)) some in
    let told : map (λ (text : Bor (List ℕ)). text.now) c.in_ok-texts.texts.items ≡ text_now (take (length c.deref-2.result.now - c.from.result) (drop c.from.result c.deref-2.result.now)) = c.in_ok-texts.ensures in
    let are : map (λ (text : Bor (List ℕ)). text.now) c.as_slice.result.now ≡ text_now (drop (from_bool nulls) places) =
    ap (map (λ (text : Bor (List ℕ)). text.now)) c.as_slice.ensures.value ∙ told
    ∙ ap text_now (take_all (length c.deref-2.result.now - c.from.result) (drop c.from.result c.deref-2.result.now) (omega (arith, length-drop c.from.result c.deref-2.result.now)))
    ∙ ap (λ (all : List ℕ). text_now (drop c.from.result all)) c.deref-2.ensures.value ∙ ap (λ (n : ℕ). text_now (drop n places)) c.from.ensures in
    let first = rw c.deref.ensures.value at c.begins_null-nulls.ensures in
    rw (c.in_ok-joined_texts.ensures.0, c.in_ok-joined_texts.ensures.1, are)
    (codes-ranked kind-texts cells ranks c.args.count c.requires.ranks places c.in_ok-places.ensures (own-text cells c.requires.no_number) nulls first (some-rank cells ranks c.args.count c.requires.ranks c.requires.text))
