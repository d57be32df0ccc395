use Rattle.std.proofs.Common.{◌-◌, ◌≤◌, ◌^◌, ◌∙◌, ℕ, length, get_or, insert, ap, arith}
use Rattle.std.proofs.lemmas.List.{get_or_default}
use Rattle.shared_list.specs.Placed.{Placed}
use Rattle.shared_list.proofs.Edits.{inserted_joins, inserted_stands, may_shift}
use Rattle.shared_list.proofs.chunks.insert_at.Goals as goal

pub shift_each-requires : goal.shift_each-requires
shift_each-requires g c =
    let chunks = c.args.chunks.now in
    let here = get_or chunks c.args.at c.index-chunks-at.result in
    may_shift chunks c.requires.stand c.args.at here c.requires.place.within (get_or_default chunks c.args.at c.index-chunks-at.result here c.requires.place.within) c.insert.new.self (2 ^ 64) c.requires.room

pub returns : goal.returns
returns g c =
    let chunks = c.args.chunks.now in
    let here = get_or chunks c.args.at c.index-chunks-at.result in
    let read = get_or_default chunks c.args.at c.index-chunks-at.result here c.requires.place.within in
    let from = c.requires.place.from c.index-chunks-at.result in
    let upto = c.requires.place.upto c.index-chunks-at.result in
    let behind : c.args.i - here.from ≤ length here.items = omega (arith, upto) in
    let new = c.in_ok-insert.ensures.ok ∙ ap (λ (n : ℕ). let chunk : Placed g.row.T.Denot = record here { items = insert here.items (c.args.i - n) c.args.item } in chunk) c.from.ensures in
    record {
      stand = inserted_stands chunks c.requires.stand c.args.at here c.requires.place.within read c.args.i c.args.item from behind c.insert.new.self new c.shift_each.new.chunks c.shift_each.ensures;
      ok = inserted_joins chunks c.requires.stand c.args.at here c.requires.place.within read c.args.i c.args.item from behind c.insert.new.self new c.shift_each.new.chunks c.shift_each.ensures;
      err = tt;
    }
