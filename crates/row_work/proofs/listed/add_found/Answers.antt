use Rattle.std.proofs.Common.{◌≡◌, ◌∙◌, ◌++◌, ℕ, List, true, false, length, map, sym, ap, subst}
use Rattle.std.specs.Prelude.{OnOk, Some}
use Rattle.std.specs.List.{All, filter_map}
use Rattle.std.specs.Map.{values_of}
use Rattle.std.proofs.lemmas.List.Sorted.{All-permutation, IsPermutation-sym}
use Rattle.cs_types.specs.declared.Schema.{Schema}
use Rattle.cs_model.specs.declared.plan.Query.{Query}
use Rattle.cs_model.specs.Queries.{keeps}
use Rattle.batch_aggregate.specs.Standing.{StandsFor}
use Rattle.batch_scan.specs.Reads.{is_read}
use Rattle.group_view.specs.Parts.{Rowed}
use Rattle.row_work.specs.Reads.{read_row, rowed_at}
use Rattle.row_work.specs.Stores.{is_read_within, positions_of, read_at_position, PassesAt}
use Rattle.row_work.proofs.Positions.{places_pass}
use Rattle.row_work.proofs.Standing.{on_ok, stands_as, stands_listed}
use Rattle.row_work.proofs.Stored.{each_kept, enough_within, rows_read}
use Rattle.row_work.proofs.listed.add_found.Goals as goal

pub add_kept-requires-clause-read : goal.add_kept-requires-clause-read
add_kept-requires-clause-read c =
    let pinned = c.args.pinned.now in
    let versions = rowed_at pinned.view c.args.group in
    let listed = positions_of (is_read_within pinned c.args.range.bounds) versions in
    let enough = enough_within c.args.schema.now c.args.query.now.filter pinned c.args.range.bounds c.requires.range.within c.args.group c.requires.may in
    subst (All (PassesAt (is_read pinned) versions)) (sym c.deref.ensures.value)
    (All-permutation (PassesAt (is_read pinned) versions) listed c.args.found.items (IsPermutation-sym c.args.found.items listed c.requires.found) enough.read)

pub add_kept-requires-clause-kept : goal.add_kept-requires-clause-kept
add_kept-requires-clause-kept c =
    let schema = c.args.schema.now in
    let query = c.args.query.now in
    let old = c.args.partial.now in
    let pinned = c.args.pinned.now in
    let width = length schema.columns in
    let versions = rowed_at pinned.view c.args.group in
    let bounds = c.args.range.bounds in
    let test = is_read_within pinned bounds in
    let found = c.args.found.items in
    let listed = positions_of test versions in
    let exact = c.requires.range.exact (c.is_one_group.ensures.exact c.if-is_one_group.true) in
    let all = All-permutation (PassesAt test versions) listed found (IsPermutation-sym found listed c.requires.found) (places_pass (λ (x : Rowed). Some x) test versions) in
    let kept = each_kept schema query.filter pinned bounds exact versions (rows_read schema pinned c.args.group c.requires.may) found all in
    let here = subst (λ (s : Schema). All (λ row. keeps s old.query.now.filter row ≡ true) (values_of (filter_map (read_at_position width pinned versions) found))) (sym c.requires.of_schema)
    (subst (λ (q : Query). All (λ row. keeps schema q.filter row ≡ true) (values_of (filter_map (read_at_position width pinned versions) found))) (sym c.requires.of_query) kept) in
    let wide = subst (λ (n : ℕ). All (λ row. keeps old.schema.now old.query.now.filter row ≡ true) (values_of (filter_map (read_at_position n pinned versions) found))) (sym c.len-width.ensures) here in
    subst (λ (list : List ℕ). All (λ row. keeps old.schema.now old.query.now.filter row ≡ true) (values_of (filter_map (read_at_position c.len-width.result pinned versions) list))) (sym c.deref.ensures.value) wide

pub add_kept-requires-clause-grouped : goal.add_kept-requires-clause-grouped
add_kept-requires-clause-grouped c = c.is_one_group.ensures.grouped c.if-is_one_group.true

pub add_kept-requires-clause-alone : goal.add_kept-requires-clause-alone
add_kept-requires-clause-alone c = c.is_one_group.ensures.alone c.if-is_one_group.true

pub returns-then-is_one_group-clause-added : goal.returns-then-is_one_group-clause-added
returns-then-is_one_group-clause-added c = λ rows stands.
    let schema = c.args.schema.now in
    let query = c.args.query.now in
    let pinned = c.args.pinned.now in
    let width = length schema.columns in
    let versions = rowed_at pinned.view c.args.group in
    let bounds = c.args.range.bounds in
    let listed = positions_of (is_read_within pinned bounds) versions in
    let found = c.args.found.items in
    let enough = enough_within schema query.filter pinned bounds c.requires.range.within c.args.group c.requires.may in
    let new = c.add_kept.new.partial in
    let of_query : new.query.now ≡ query = c.add_kept.ensures.query ∙ c.requires.of_query in
    let grouped : new.query.now.grouped ≡ true = ap (λ (q : Query). q.grouped) of_query ∙ c.is_one_group.ensures.grouped c.if-is_one_group.true in
    let added = subst (λ (list : List ℕ). OnOk c.add_kept.result (StandsFor new (rows ++ values_of (filter_map (read_at_position c.len-width.result pinned versions) list)))) c.deref.ensures.value (c.add_kept.ensures.added rows stands) in
    let wide = subst (λ (n : ℕ). OnOk c.add_kept.result (StandsFor new (rows ++ values_of (filter_map (read_at_position n pinned versions) found)))) c.len-width.ensures added in
    on_ok c.add_kept.result
    (λ stood.
    stands_as schema query new rows (filter_map (read_at_position width pinned versions) listed) (filter_map (read_row width pinned) versions) (c.add_kept.ensures.schema ∙ c.requires.of_schema) of_query enough.kept
    (stands_listed new rows (read_at_position width pinned versions) found listed c.requires.found (λ plain. let no : true ≡ false = sym grouped ∙ plain in absurd cc) stood))
    wide

pub add_listed-requires-clause-read : goal.add_listed-requires-clause-read
add_listed-requires-clause-read c =
    let pinned = c.args.pinned.now in
    let versions = rowed_at pinned.view c.args.group in
    let listed = positions_of (is_read_within pinned c.args.range.bounds) versions in
    let enough = enough_within c.args.schema.now c.args.query.now.filter pinned c.args.range.bounds c.requires.range.within c.args.group c.requires.may in
    All-permutation (PassesAt (is_read pinned) versions) listed c.args.found.items (IsPermutation-sym c.args.found.items listed c.requires.found) enough.read

pub returns-clause-added : goal.returns-clause-added
returns-clause-added c = λ rows stands.
    let schema = c.args.schema.now in
    let query = c.args.query.now in
    let pinned = c.args.pinned.now in
    let width = length schema.columns in
    let versions = rowed_at pinned.view c.args.group in
    let bounds = c.args.range.bounds in
    let listed = positions_of (is_read_within pinned bounds) versions in
    let enough = enough_within schema query.filter pinned bounds c.requires.range.within c.args.group c.requires.may in
    let new = c.add_listed.new.partial in
    let added = c.add_listed.ensures.added (map (is_read_within pinned bounds) versions) rows c.requires.found stands in
    let wide = subst (λ (n : ℕ). OnOk c.add_listed.result (StandsFor new (rows ++ values_of (filter_map (read_at_position n pinned versions) listed)))) c.len-width.ensures added in
    on_ok c.add_listed.result
    (stands_as schema query new rows (filter_map (read_at_position width pinned versions) listed) (filter_map (read_row width pinned) versions) (c.add_listed.ensures.schema ∙ c.requires.of_schema) (c.add_listed.ensures.query ∙ c.requires.of_query) enough.kept)
    wide
