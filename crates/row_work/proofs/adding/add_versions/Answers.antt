use Rattle.std.proofs.Common.{◌∙◌, ◌++◌, ℕ, [], length, take, append_assoc, ap, sym, subst, arith}
use Rattle.std.specs.Prelude.{slice_get, unwrap_or}
use Rattle.std.specs.List.{filter_map}
use Rattle.std.specs.Map.{values_of}
use Rattle.std.specs.Option.{option_and_then, option_map, option_to_list}
use Rattle.std.proofs.lemmas.List.{take_all}
use Rattle.batch_aggregate.specs.Standing.{StandsFor}
use Rattle.group_view.specs.declared.parts.GroupPart.{GroupPart}
use Rattle.group_view.specs.Parts.{rowed_in}
use Rattle.row_work.specs.Reads.{read_row, rowed_at}
use Rattle.row_work.specs.Sieved.{read_in}
use Rattle.row_work.proofs.Found.{at_place}
use Rattle.row_work.proofs.Scanned.{read_more, values_append}
use Rattle.row_work.proofs.Sieved.{loses_still}
use Rattle.row_work.proofs.adding.add_versions.Goals as goal

pub add_version-requires-clause-sieved : goal.add_version-requires-clause-sieved
add_version-requires-clause-sieved c =
    let old = c.args.partial.now in
    let new = c.loop-position.partial in
    loses_still c.args.width old.schema.now new.schema.now old.query.now new.query.now (rowed_at c.args.pinned.now.view c.args.group) c.args.sieve.now c.loop-position.invariant.schema c.loop-position.invariant.query
    c.requires.sieved

pub loop-position-preserved : goal.loop-position-preserved
loop-position-preserved c =
    let pinned = c.args.pinned.now in
    let f = read_row c.args.width pinned in
    let versions = rowed_at pinned.view c.args.group in
    let n = c.loop-position.position in
    let front = filter_map f (take n versions) in
    let new = c.add_version.new.partial in
    record {
      schema = c.in_ok-add_version.ensures.schema ∙ c.loop-position.invariant.schema;
      query = c.in_ok-add_version.ensures.query ∙ c.loop-position.invariant.query;
      added = λ rows stands.
          subst (λ l. StandsFor new (rows ++ values_of l)) (sym (read_more f versions n))
          (subst (λ l. StandsFor new (rows ++ l)) (sym (values_append front (option_to_list (option_and_then f (slice_get versions n)))))
          (subst (λ o. StandsFor new (rows ++ (values_of front ++ values_of (option_to_list (option_and_then f o))))) (at_place pinned.view c.args.group n)
          (subst (StandsFor new) (append_assoc rows (values_of front) _)
          (rw c.in_ok-add_version.was at (c.add_version.ensures.added (rows ++ values_of front) (c.loop-position.invariant.added rows stands))))));
    }

pub returns-clause-added : goal.returns-clause-added
returns-clause-added c = λ rows stands.
    let pinned = c.args.pinned.now in
    let versions = rowed_at pinned.view c.args.group in
    let n = c.loop-position.position in
    let are = ap (λ o. length (unwrap_or (option_map (λ (part : ℕ × GroupPart). rowed_in part.1) o) [])) c.at.ensures.value ∙ sym c.len-len.ensures in
    subst (λ l. StandsFor c.loop-position.partial (rows ++ read_in c.args.width pinned l)) (take_all n versions (omega (arith, are, c.loop-position-test.false))) (c.loop-position.invariant.added rows stands)
