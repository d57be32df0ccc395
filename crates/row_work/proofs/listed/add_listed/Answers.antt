use Rattle.std.proofs.Common.{◌≡◌, ◌∙◌, ◌++◌, ℕ, List, false, sym, ap, subst}
use Rattle.std.specs.Prelude.{OnOk}
use Rattle.std.specs.List.{All, filter_map}
use Rattle.std.specs.Map.{values_of}
use Rattle.std.proofs.lemmas.List.Sorted.{All-permutation, IsPermutation-sym, IsPermutation-trans}
use Rattle.cs_model.specs.declared.plan.Query.{Query}
use Rattle.batch_aggregate.specs.Standing.{StandsFor}
use Rattle.batch_scan.specs.Reads.{is_read}
use Rattle.row_work.specs.Reads.{rowed_at}
use Rattle.row_work.specs.Stores.{read_at_position, true_from, PassesAt}
use Rattle.row_work.proofs.Standing.{on_ok, stands_listed}
use Rattle.row_work.proofs.listed.add_listed.Goals as goal

pub add_at_positions-requires : goal.add_at_positions-requires
add_at_positions-requires c =
    let pinned = c.args.pinned.now in
    let Read : ℕ → Type 0 = PassesAt (is_read pinned) (rowed_at pinned.view c.args.group) in
    subst (All Read) (sym c.deref.ensures.value) (All-permutation Read c.args.found.items c.in_query_order-positions.result.items c.in_query_order-positions.ensures.same c.requires.read)

pub returns-clause-added : goal.returns-clause-added
returns-clause-added c = λ flags rows these stands.
    let pinned = c.args.pinned.now in
    let f = read_at_position c.args.width pinned (rowed_at pinned.view c.args.group) in
    let found = c.args.found.items in
    let positions = c.in_query_order-positions.result.items in
    let listed = true_from 0 flags in
    let new = c.add_at_positions.new.partial in
    let of_query : new.query.now ≡ c.args.query.now = c.add_at_positions.ensures.query ∙ c.requires.of_query in
    let moved = IsPermutation-trans positions found listed (IsPermutation-sym found positions c.in_query_order-positions.ensures.same) these in
    let order = λ (plain : new.query.now.grouped ≡ false). c.in_query_order-positions.ensures.order flags these (sym (ap (λ (q : Query). q.grouped) of_query) ∙ plain) in
    on_ok c.add_at_positions.result (stands_listed new rows f positions listed moved order)
    (subst (λ (list : List ℕ). OnOk c.add_at_positions.result (StandsFor new (rows ++ values_of (filter_map f list)))) c.deref.ensures.value (c.add_at_positions.ensures.added rows stands))
