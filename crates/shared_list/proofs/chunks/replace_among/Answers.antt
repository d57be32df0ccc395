use Rattle.std.proofs.Common.{◌-◌, ◌<◌, ◌∙◌, ℕ, length, get_or, set, ap, sym, subst, arith}
use Rattle.std.proofs.lemmas.List.{get_or_default}
use Rattle.shared_list.specs.Placed.{Placed}
use Rattle.shared_list.specs.Chunks.{joined, StandFrom}
use Rattle.shared_list.proofs.Edits.{replaced_joins, replaced_stands}
use Rattle.shared_list.proofs.chunks.replace_among.Goals as goal

pub returns : goal.returns
returns g c =
    let chunks = c.args.chunks.now in
    let at = c.chunk_at-at.result in
    let is = c.chunk_at-at.ensures in
    let here = get_or chunks at c.index-chunks-at.result in
    let read = get_or_default chunks at c.index-chunks-at.result here is.within in
    let from = is.from c.index-chunks-at.result in
    let below = is.below c.index-chunks-at.result in
    let inside : c.args.i - here.from < length here.items = omega (arith, from, below) in
    let new = c.in_ok-replace.ensures.ok ∙ ap (λ (n : ℕ). let chunk : Placed g.row.T.Denot = record here { items = set here.items (c.args.i - n) c.args.item } in chunk) c.from.ensures in
    record {
      stand = subst (λ (chunk : Placed g.row.T.Denot). StandFrom 0 (set chunks at chunk)) (sym new) (replaced_stands chunks c.requires.stand at here is.within read c.args.i c.args.item from inside);
      ok = ap (λ (chunk : Placed g.row.T.Denot). joined (set chunks at chunk)) new ∙ replaced_joins chunks c.requires.stand at here is.within read c.args.i c.args.item from inside;
      err = tt;
    }
