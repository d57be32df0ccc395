use Rattle.std.proofs.Common.{◌<◌, List, length, set, ap, ◌∙◌, subst, sym, arith, rules}
use Rattle.shared_list.specs.Placed.{Placed}
use Rattle.shared_list.specs.Chunks.{joined, StandFrom}
use Rattle.shared_list.proofs.Edits.{ends_here, halves_join, halves_stand}
use Rattle.shared_list.proofs.chunks.split.Goals as goal

pub halves-requires-clause-fits : goal.halves-requires-clause-fits
halves-requires-clause-fits g c =
    let inside : c.args.at < length c.args.chunks.now.items = search rules in
    let ends = ends_here c.args.chunks.now.items c.requires.stand c.args.at c.index.result.now inside c.index.ensures in
    let fits = c.requires.fits in
    omega (arith, ends, fits)

pub returns : goal.returns
returns g c =
    let old = c.args.chunks.now.items in
    let inside : c.args.at < length old = search rules in
    let front = c.in_ok-front.front in
    let back = c.in_ok-front.back in
    let two = c.in_ok-front.ensures in
    record {
      stand = subst (λ (chunks : List (Placed g.row.T.Denot)). StandFrom 0 (set chunks c.args.at front)) (sym c.in_ok-insert.ensures.items)
          (halves_stand old c.requires.stand c.args.at c.index.result.now inside c.index.ensures front back two.front two.back two.items);
      items = ap (λ (chunks : List (Placed g.row.T.Denot)). joined (set chunks c.args.at front)) c.in_ok-insert.ensures.items
          ∙ halves_join old c.requires.stand c.args.at c.index.result.now inside c.index.ensures front back two.front two.back two.items;
    }
