use Rattle.std.proofs.Common.{◌≡◌, ◌∙◌, ◌++◌, [], ℕ, List, get_or, length, map, sym, ap, subst}
use Rattle.std.proofs.lemmas.Bool.{eqb-true}
use Rattle.std.proofs.lemmas.List.{append-nil, nil_from_length}
use Rattle.batch_aggregate.specs.Standing.{StandsFor}
use Rattle.std.specs.List.{filter_map}
use Rattle.std.specs.Map.{values_of}
use Rattle.cs_model.specs.declared.plan.Item.{Item}
use Rattle.cs_model.specs.declared.plan.Query.{Query}
use Rattle.cs_model.specs.Groups.{cells_of}
use Rattle.batch_aggregate.specs.Tallies.{tally_of}
use Rattle.row_work.specs.Reads.{rowed_at}
use Rattle.row_work.specs.Stores.{read_at_position}
use Rattle.row_work.proofs.Narrow.{in_cells, whole_rows}
use Rattle.row_work.proofs.listed.add_kept.Goals as goal

-- where there is no position nothing is added
pub returns-then-is_empty-clause-added : goal.returns-then-is_empty-clause-added
returns-then-is_empty-clause-added c = λ rows stands.
    let old = c.args.partial.now in
    let f = read_at_position c.args.width c.args.pinned.now (rowed_at c.args.pinned.now.view c.args.group) in
    let none = nil_from_length c.args.positions.now (eqb-true (length c.args.positions.now) 0 (sym c.if-is_empty.ensures)) in
    subst (λ list. StandsFor old (rows ++ values_of (filter_map f list))) (sym none) (subst (StandsFor old) (sym (append-nil rows)) stands)

pub returns-clause-added : goal.returns-clause-added
returns-clause-added c = λ rows stands.
    let old = c.args.partial.now in
    let pinned = c.args.pinned.now in
    let more = values_of (filter_map (read_at_position c.args.width pinned (rowed_at pinned.view c.args.group)) c.args.positions.now) in
    let columns : old.query.now.groups ≡ [] = ap (λ (q : Query). q.groups) c.requires.of_query ∙ c.requires.alone in
    let versions = rowed_at pinned.view c.args.group in
    let whole = whole_rows pinned versions c.args.positions.now in
    let cells = c.cells_to_read-cells.result in
    let items : c.as_slice-items.result.now ≡ old.query.now.items = c.as_slice-items.ensures ∙ sym (ap (λ (q : Query). q.items) c.requires.of_query) in
    let same : map (tally_of (values_of (filter_map (read_at_position cells pinned versions) c.args.positions.now))) c.as_slice-items.result.now ≡ map (tally_of more) c.as_slice-items.result.now =
    ap (λ rows. map (tally_of rows) c.as_slice-items.result.now) (in_cells pinned versions cells c.args.positions.now) ∙ c.cells_to_read-cells.ensures whole
    ∙ sym (ap (λ rows. map (tally_of rows) c.as_slice-items.result.now) (in_cells pinned versions c.args.width c.args.positions.now)) in
    let tallied : map (tally_of more) old.query.now.items ≡ c.in_ok-tallies.tallies = sym (c.in_ok-tallies.ensures ∙ same ∙ ap (λ (list : List Item). map (tally_of more) list) items) in
    c.add_group.ensures.added rows more (ap (λ (q : Query). q.grouped) c.requires.of_query ∙ c.requires.grouped) stands c.requires.kept
    (λ k d within. ap (λ (list : List ℕ). cells_of list (get_or more k d)) columns ∙ sym c.new.ensures) tallied (λ none. (columns, c.new.ensures))
