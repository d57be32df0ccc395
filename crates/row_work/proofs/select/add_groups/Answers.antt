use Rattle.std.proofs.Common.{◌≡◌, ◌∙◌, ◌+◌, ◌-◌, ◌++◌, ℕ, length, take, drop, sym, subst, append_assoc, arith}
use Rattle.std.specs.List.{filter_map, flat_map}
use Rattle.std.specs.Map.{values_of}
use Rattle.std.proofs.lemmas.List.Elements.{filter_map-append}
use Rattle.batch_aggregate.specs.Standing.{StandsFor}
use Rattle.group_view.specs.declared.parts.GroupPart.{GroupPart}
use Rattle.group_view.specs.Parts.{rowed_in}
use Rattle.row_work.specs.Reads.{read_row, rowed_at}
use Rattle.row_work.proofs.Scanned.{groups_on, values_append}
use Rattle.row_work.proofs.select.add_groups.Goals as goal

pub loop-group-preserved : goal.loop-group-preserved
loop-group-preserved c =
    let view = c.args.pinned.now.view in
    let f = read_row (length c.args.schema.now.columns) c.args.pinned.now in
    let from = c.args.from in
    let group = c.loop-group.group in
    let since = c.loop-group.invariant.since in
    let n = group - from in
    let at : from + n ≡ group = omega (arith, since) in
    let next_n : n + 1 ≡ (group + 1) - from = omega (arith, since) in
    let front = flat_map (λ (part : ℕ × GroupPart). rowed_in part.1) (take n (drop from view.groups)) in
    let next = rowed_at view group in
    let more = subst (λ m. flat_map (λ (part : ℕ × GroupPart). rowed_in part.1) (take m (drop from view.groups)) ≡ front ++ next) next_n (subst (λ g. flat_map (λ (part : ℕ × GroupPart). rowed_in part.1) (take (n + 1) (drop from view.groups)) ≡ front ++ rowed_at view g) at (groups_on view from n)) in
    record {
      since = omega (arith, since);
      schema = c.in_ok-add_group.ensures.schema ∙ c.loop-group.invariant.schema;
      query = c.in_ok-add_group.ensures.query ∙ c.loop-group.invariant.query;
      added = λ rows stands.
          subst (λ l. StandsFor c.add_group.new.partial (rows ++ values_of (filter_map f l))) (sym more)
          (subst (λ l. StandsFor c.add_group.new.partial (rows ++ values_of l)) (sym (filter_map-append f front next))
          (subst (λ l. StandsFor c.add_group.new.partial (rows ++ l)) (sym (values_append (filter_map f front) (filter_map f next)))
          (subst (StandsFor c.add_group.new.partial) (append_assoc rows (values_of (filter_map f front)) (values_of (filter_map f next)))
          (rw c.in_ok-add_group.was at (c.add_group.ensures.added (rows ++ values_of (filter_map f front)) (c.loop-group.invariant.added rows stands))))));
    }
