use Rattle.std.proofs.Common.{◌∙◌, ◌≡◌, ◌++◌, ℕ, length, map, ap, sym, subst}
use Rattle.std.specs.Prelude.{OnOk}
use Rattle.std.specs.List.{All}
use Rattle.std.proofs.lemmas.Bool.{OnTrue_at}
use Rattle.std.proofs.lemmas.List.{length-map}
use Rattle.cs_types.specs.declared.Schema.{Schema}
use Rattle.cs_model.specs.declared.plan.Query.{Query}
use Rattle.batch_aggregate.specs.Standing.{StandsFor}
use Rattle.batch_scan.specs.Reads.{is_read}
use Rattle.batch_scan.specs.Scans.{verdicts_of}
use Rattle.row_group.specs.Rows.{PackedRow}
use Rattle.row_work.specs.Reads.{rowed_at}
use Rattle.row_work.specs.Sieved.{read_in, LosesNone}
use Rattle.row_work.proofs.Passed.{stands_on}
use Rattle.row_work.proofs.Sieved.{length-versions, loses_still, none_kept, shown_are, verdicts_lose_none}
use Rattle.row_work.proofs.packed.add_positions.Goals as goal

pub returns-then-keeps_none-clause-added : goal.returns-then-keeps_none-clause-added
returns-then-keeps_none-clause-added c = λ rows stands.
    let schema = c.args.schema.now in
    let query = c.args.query.now in
    let pinned = c.args.pinned.now in
    let versions = rowed_at pinned.view c.args.group in
    let are = c.in_ok-sieve.ensures ∙ ap (λ o. verdicts_of schema o c.args.packed.now) c.as_ref-filter.ensures.value in
    let loses = verdicts_lose_none pinned c.args.packed.now versions c.requires.rows schema query.filter c.in_ok-sieve.sieve are in
    stands_on schema query c.args.partial.now rows (read_in (length schema.columns) pinned versions) c.requires.of_schema c.requires.of_query
    (none_kept (length schema.columns) pinned schema query.filter versions (λ i rowed at. loses i rowed at (OnTrue_at c.if-keeps_none.true c.keeps_none.ensures i))) stands

pub tally_shown-requires : goal.tally_shown-requires
tally_shown-requires c =
    let packed = c.args.packed.now in
    let query = c.args.query.now in
    let old = c.args.partial.now in
    c.in_ok-sieve.ensures
    ∙ ap (λ o. verdicts_of c.args.schema.now o packed) c.as_ref-filter.ensures.value
    ∙ sym (ap (λ (s : Schema). verdicts_of s query.filter packed) c.requires.of_schema)
    ∙ sym (ap (λ (q : Query). verdicts_of old.schema.now q.filter packed) c.requires.of_query)

pub returns-then-is_tallied-clause-added : goal.returns-then-is_tallied-clause-added
returns-then-is_tallied-clause-added c = λ rows stands.
    let schema = c.args.schema.now in
    let pinned = c.args.pinned.now in
    let group = c.args.packed.now in
    let versions = rowed_at pinned.view c.args.group in
    let flags = map (is_read pinned) versions in
    let done = c.if-is_tallied.true in
    let wide : All (λ (row : PackedRow). length row.cells ≡ length schema.columns) group.rows
    = subst (λ (width : ℕ). All (λ (row : PackedRow). length row.cells ≡ width) group.rows) c.len-width.ensures (c.in_ok-is_tallied.ensures.wide done) in
    let same : length flags ≡ length group.rows = length-map versions (is_read pinned) ∙ length-versions pinned group versions c.requires.rows in
    subst (λ l. StandsFor c.tally_shown.new.partial (rows ++ l)) (shown_are pinned group versions c.requires.rows (length schema.columns) wide)
    (rw c.in_ok-is_tallied.was at (c.tally_shown.ensures.tallied flags rows c.requires.shown same stands) done)

pub add_versions-requires-clause-sieved : goal.add_versions-requires-clause-sieved
add_versions-requires-clause-sieved c =
    let schema = c.args.schema.now in
    let query = c.args.query.now in
    let versions = rowed_at c.args.pinned.now.view c.args.group in
    let new = c.tally_shown.new.partial in
    let are = c.in_ok-sieve.ensures ∙ ap (λ o. verdicts_of schema o c.args.packed.now) c.as_ref-filter.ensures.value in
    let loses = verdicts_lose_none c.args.pinned.now c.args.packed.now versions c.requires.rows schema query.filter c.in_ok-sieve.sieve are in
    loses_still c.len-width.result schema new.schema.now query new.query.now versions c.in_ok-sieve.sieve (c.in_ok-is_tallied.ensures.schema ∙ c.requires.of_schema) (c.in_ok-is_tallied.ensures.query ∙ c.requires.of_query)
    (subst (λ (width : ℕ). LosesNone width schema query.filter versions c.in_ok-sieve.sieve) (sym c.len-width.ensures) loses)

pub returns-clause-added : goal.returns-clause-added
returns-clause-added c = λ rows stands.
    let pinned = c.args.pinned.now in
    let versions = rowed_at pinned.view c.args.group in
    let still = subst (λ p. StandsFor p rows) (sym (c.in_ok-is_tallied.ensures.declined c.if-is_tallied.false)) stands in
    subst (λ (width : ℕ). OnOk c.add_versions.result (StandsFor c.add_versions.new.partial (rows ++ read_in width pinned versions))) c.len-width.ensures (c.add_versions.ensures.added rows still)
