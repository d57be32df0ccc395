use Rattle.std.proofs.Common.{[], ◌∷◌, map, ap, ◌∙◌}
use Rattle.batch_aggregate.specs.Tallies.{tally_of, all_joined}
use Rattle.batch_aggregate.proofs.TallyLemmas.{tallies-append}
use Rattle.batch_aggregate.proofs.entries.tallies_of.Goals as goal

pub returns : goal.returns
returns c =
    let row = c.args.row.now ∷ [] in
    let items = c.args.items.now in
    c.in_ok-add.ensures ∙ ap (λ ts. all_joined ts (map (tally_of row) items)) c.in_ok-tallies.ensures ∙ tallies-append [] row items
