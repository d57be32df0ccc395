-- The rows of one key number more come into a partial answer.
use Rattle.std.proofs.Common.{◌≡◌, ℕ, ◌+◌, ◌<◌, ◌⊎◌, inl, inr, List, [], ◌∷◌, ◌++◌, Bool, true, false, ◌&&◌, length, map, filter, refl, sym, ◌∙◌, ap, subst, arith}
use Rattle.std.specs.Prelude.{◌==◌, slice_index}
use Rattle.std.specs.List.{range_with_len, All}
use Rattle.std.proofs.lemmas.Bool.{eqb-true}
use Rattle.std.proofs.lemmas.List.{append-nil, length-map}
use Rattle.std.proofs.lemmas.List.Elements.{filter-append}
use Rattle.cs_types.specs.declared.Schema.{Schema}
use Rattle.cs_types.specs.declared.Value.{Value}
use Rattle.cs_model.specs.declared.plan.Query.{Query}
use Rattle.cs_model.specs.Groups.{cells_of}
use Rattle.cs_model.specs.Queries.{keeps}
use Rattle.row_group.specs.Groups.{Group}
use Rattle.batch_aggregate.specs.declared.partial.Partial.{Partial}
use Rattle.batch_aggregate.specs.declared.tally.Tally.{Tally}
use Rattle.batch_aggregate.specs.Standing.{StandsFor, Keeps}
use Rattle.batch_aggregate.specs.Tallies.{tally_of}
use Rattle.batch_aggregate.proofs.Stands.{StandsFor_any_order}
use Rattle.code_tallies.specs.declared.chosen.Chosen.{Chosen}
use Rattle.code_tallies.specs.declared.table.Table.{Table}
use Rattle.code_tallies.specs.Shown.{cells_at, rows_at}
use Rattle.code_tallies.specs.Keys.{key_at, cells_of_key, AreColumnsOf, HasKeys, key_count}
use Rattle.code_tallies.specs.Tables.{is_chosen, key_positions, keys_below, tally_in}
use Rattle.code_tallies.specs.Scans.{IsScan}
use Rattle.code_tallies.proofs.KeyNumbers.{cells-of-key}
use Rattle.code_tallies.proofs.Buckets.{below-more, below-none, below-all, key-below, rows-all, rows-filtered}

pub both_true : (a b : Bool) → (a && b) ≡ true → (a ≡ true) × (b ≡ true)
both_true true true e = (refl, refl)
both_true true false e = absurd (cc e)
both_true false b e = absurd (cc e)

no_places : (group : Group) (places : List ℕ) → AreColumnsOf group places [] → places ≡ []
no_places group [] are = refl
no_places group (p ∷ ps) are = absurd are

no_rows : {X : Type 0} (xs : List X) → length xs ≡ 0 → xs ≡ []
no_rows [] e = refl
no_rows (x ∷ xs) e = absurd (omega (arith, e))

module _ (group : Group) (first old : Partial) (chosen : Chosen) (counts : List ℕ) (tables : List Table) (scan : IsScan group first chosen counts tables)
    (schema : old.schema.now ≡ first.schema.now) (query : old.query.now ≡ first.query.now) where
  grouped_too : old.query.now.grouped ≡ true
  grouped_too = ap (λ (q : Query). q.grouped) query ∙ scan.grouped

  all_kept : (key : ℕ) → All (λ row. keeps old.schema.now old.query.now.filter row ≡ true) (rows_at group (key_positions chosen key))
  all_kept key =
      rows-all (λ row. keeps old.schema.now old.query.now.filter row ≡ true) (cells_at group) (λ i. is_chosen chosen i && key_at chosen.keys.items i == key) chosen.length
      (λ i within passes.
      ap (λ (s : Schema). keeps s old.query.now.filter (cells_at group i)) schema
      ∙ ap (λ (q : Query). keeps first.schema.now q.filter (cells_at group i)) query
      ∙ scan.kept i within (both_true (is_chosen chosen i) (key_at chosen.keys.items i == key) passes).0)

  all_have : (key : ℕ) → All (λ row. cells_of old.query.now.groups row ≡ cells_of_key chosen.keys.items key) (rows_at group (key_positions chosen key))
  all_have key =
      rows-all (λ row. cells_of old.query.now.groups row ≡ cells_of_key chosen.keys.items key) (cells_at group) (λ i. is_chosen chosen i && key_at chosen.keys.items i == key) chosen.length
      (λ i within passes.
      ap (λ (q : Query). cells_of q.groups (cells_at group i)) query
      ∙ sym (cells-of-key group first.query.now.groups chosen.keys.items i scan.columns (omega (arith, within, scan.long)))
      ∙ ap (cells_of_key chosen.keys.items) (eqb-true (key_at chosen.keys.items i) key (both_true (is_chosen chosen i) (key_at chosen.keys.items i == key) passes).1))

  tallied : (key : ℕ) (tallies : List Tally) → key < chosen.size → tallies ≡ map (λ table. tally_in (slice_index counts key) table key) tables →
      map (tally_of (rows_at group (key_positions chosen key))) old.query.now.items ≡ tallies
  tallied key tallies within is =
      ap (λ (q : Query). map (tally_of (rows_at group (key_positions chosen key))) q.items) query
      ∙ sym (scan.tallies key within)
      ∙ ap (λ n. map (λ table. tally_in n table key) tables) (sym (scan.counted key within))
      ∙ sym is

  none_there : (key : ℕ) → key < chosen.size → slice_index counts key ≡ 0 → rows_at group (key_positions chosen key) ≡ []
  none_there key within empty =
      no_rows (rows_at group (key_positions chosen key)) (length-map (key_positions chosen key) (cells_at group) ∙ sym (scan.counted key within) ∙ empty)

  no_keys : (key : ℕ) → chosen.keys.items ≡ [] → (old.query.now.groups ≡ []) × (cells_of_key chosen.keys.items key ≡ [])
  no_keys key none = (
    ap (λ (q : Query). q.groups) query ∙ no_places group first.query.now.groups (subst (AreColumnsOf group first.query.now.groups) none scan.columns),
    ap (λ columns. cells_of_key columns key) none,
  )

  some_or_alone : (key : ℕ) → key < chosen.size → (0 < slice_index counts key) ⊎ (length chosen.keys.items ≡ 0) → rows_at group (key_positions chosen key) ≡ [] →
      (old.query.now.groups ≡ []) × (cells_of_key chosen.keys.items key ≡ [])
  some_or_alone key within (inl some) none =
      absurd (omega (arith, some, scan.counted key within, sym (length-map (key_positions chosen key) (cells_at group)), ap length none))
  some_or_alone key within (inr alone) none = no_keys key (no_rows chosen.keys.items alone)

  -- with the rows of a key number
  pub stands-key : (new : Partial) (rows : List (List Value)) (key : ℕ) (cells : List Value) (tallies : List Tally) → key < chosen.size →
      cells ≡ cells_of_key chosen.keys.items key → tallies ≡ map (λ table. tally_in (slice_index counts key) table key) tables →
      (0 < slice_index counts key) ⊎ (length chosen.keys.items ≡ 0) → new.query.now ≡ old.query.now →
      ((all more : List (List Value)) → old.query.now.grouped ≡ true → StandsFor old all
      → All (λ row. keeps old.schema.now old.query.now.filter row ≡ true) more
      → All (λ row. cells_of old.query.now.groups row ≡ cells) more
      → map (tally_of more) old.query.now.items ≡ tallies
      → (more ≡ [] → (old.query.now.groups ≡ []) × (cells ≡ [])) → StandsFor new (all ++ more)) →
      StandsFor old (rows ++ rows_at group (keys_below chosen key)) → StandsFor new (rows ++ rows_at group (keys_below chosen (key + 1)))
  stands-key new rows key cells tallies within cells_is tallies_is some same added stands =
      let more : List (List Value) = rows_at group (key_positions chosen key) in
      let all : List (List Value) = rows ++ rows_at group (keys_below chosen key) in
      let have : All (λ row. cells_of old.query.now.groups row ≡ cells) more = subst (λ (c : List Value). All (λ row. cells_of old.query.now.groups row ≡ c) more) (sym cells_is) (all_have key) in
      let further : StandsFor new (all ++ more)
      = added all more grouped_too stands (all_kept key) have (tallied key tallies within tallies_is)
      (λ none. let alone = some_or_alone key within some none in (alone.0, cells_is ∙ alone.1)) in
      StandsFor_any_order new (all ++ more) (rows ++ rows_at group (keys_below chosen (key + 1))) (ap (λ (q : Query). q.grouped) same ∙ grouped_too) further
      (below-more (cells_at group) (is_chosen chosen) (key_at chosen.keys.items) key chosen.length rows)

  -- and where no row has it
  pub stands-none : (rows : List (List Value)) (key : ℕ) → key < chosen.size → slice_index counts key ≡ 0 →
      StandsFor old (rows ++ rows_at group (keys_below chosen key)) → StandsFor old (rows ++ rows_at group (keys_below chosen (key + 1)))
  stands-none rows key within empty stands =
      let all : List (List Value) = rows ++ rows_at group (keys_below chosen key) in
      let same : all ≡ all ++ rows_at group (key_positions chosen key) = sym (ap (λ l. all ++ l) (none_there key within empty) ∙ append-nil all) in
      StandsFor_any_order old (all ++ rows_at group (key_positions chosen key)) (rows ++ rows_at group (keys_below chosen (key + 1))) grouped_too (subst (StandsFor old) same stands)
      (below-more (cells_at group) (is_chosen chosen) (key_at chosen.keys.items) key chosen.length rows)

-- at the start no key number, and at the end each
pub stands-start : (group : Group) (partial : Partial) (chosen : Chosen) (rows : List (List Value)) → StandsFor partial rows → StandsFor partial (rows ++ rows_at group (keys_below chosen 0))
stands-start group partial chosen rows stands =
    subst (StandsFor partial) (sym (ap (λ at. rows ++ rows_at group at) (below-none (is_chosen chosen) (key_at chosen.keys.items) chosen.length) ∙ append-nil rows)) stands

pub stands-end : (group : Group) (partial : Partial) (chosen : Chosen) (rows : List (List Value)) (key : ℕ) → key ≡ key_count chosen.keys.items → HasKeys chosen.length chosen.keys.items →
    StandsFor partial (rows ++ rows_at group (keys_below chosen key)) → StandsFor partial (rows ++ rows_at group (filter (is_chosen chosen) (range_with_len 0 chosen.length)))
stands-end group partial chosen rows key all has stands =
    subst (λ at. StandsFor partial (rows ++ rows_at group at))
    (below-all (is_chosen chosen) (key_at chosen.keys.items) key chosen.length (λ i within. subst (λ m. key_at chosen.keys.items i < m) (sym all) (key-below chosen.keys.items chosen.length i has within)))
    stands

twice : (s t : Bool) → (s && t) ≡ ((s && t) && t)
twice true true = refl
twice true false = refl
twice false t = refl

-- the rows that the filter keeps of the shown ones are as good as these
pub stands-shown : (group : Group) (partial : Partial) (rows : List (List Value)) (shown chosen : ℕ → Bool) (n : ℕ) →
    ((i : ℕ) → i < n → chosen i ≡ (shown i && keeps partial.schema.now partial.query.now.filter (cells_at group i))) →
    StandsFor partial (rows ++ rows_at group (filter chosen (range_with_len 0 n))) → StandsFor partial (rows ++ rows_at group (filter shown (range_with_len 0 n)))
stands-shown group partial rows shown chosen n each stands =
    let test = keeps partial.schema.now partial.query.now.filter in
    let mine = rows_at group (filter chosen (range_with_len 0 n)) in
    let theirs = rows_at group (filter shown (range_with_len 0 n)) in
    let of_theirs : filter test theirs ≡ mine = rows-filtered test (cells_at group) shown chosen n each in
    let of_mine : filter test mine ≡ mine
    = rows-filtered test (cells_at group) chosen chosen n (λ i within. each i within ∙ twice (shown i) (test (cells_at group i)) ∙ ap (λ b. b && test (cells_at group i)) (sym (each i within))) in
    let same : filter test (rows ++ mine) ≡ filter test (rows ++ theirs)
    = filter-append test rows mine ∙ ap (λ l. filter test rows ++ l) (of_mine ∙ sym of_theirs) ∙ sym (filter-append test rows theirs) in
    subst (Keeps partial.query.now.grouped partial) same stands
