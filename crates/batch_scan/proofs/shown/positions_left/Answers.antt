use Rattle.std.proofs.Common.{◌≡◌, ◌∙◌, Bool, List, false, length, get_or, replicate, ap}
use Rattle.std.specs.Prelude.{◌||◌}
use Rattle.std.proofs.lemmas.List.{length-replicate}
use Rattle.delete_bitmap.specs.Bits.{with_all}
use Rattle.delete_bitmap.specs.Marks.{end_at, is_removable}
use Rattle.batch_scan.proofs.Left.{left_is, length-left, length-with_all}
use Rattle.batch_scan.proofs.shown.positions_left.Goals as goal

pub take_ended-requires : goal.take_ended-requires
take_ended-requires c =
    ap length c.in_ok-insert_all.ensures.ok ∙ length-with_all c.args.hidden.now c.none-left.result ∙ ap length c.none-left.ensures ∙ length-replicate c.len.result false ∙ c.len.ensures

pub returns-clause-length : goal.returns-clause-length
returns-clause-length c =
    let s = c.args.s in
    let hidden = c.args.hidden.now in
    let marks = c.args.marks.now in
    let n = c.len.result in
    let inserted : c.insert_all.new.self ≡ with_all hidden (replicate n false) = c.in_ok-insert_all.ensures.ok ∙ ap (with_all hidden) c.none-left.ensures in
    length-left s hidden marks n c.len.ensures c.take_ended.new.positions c.complement.new.self (c.take_ended.ensures.length ∙ ap length inserted)
    (λ p. c.in_ok-take_ended.ensures.ok p ∙ ap (λ (bits : List Bool). get_or bits p false || is_removable s (end_at marks p)) inserted) c.in_ok-complement.ensures.ok

pub returns-clause-each : goal.returns-clause-each
returns-clause-each c =
    let s = c.args.s in
    let hidden = c.args.hidden.now in
    let marks = c.args.marks.now in
    let n = c.len.result in
    let inserted : c.insert_all.new.self ≡ with_all hidden (replicate n false) = c.in_ok-insert_all.ensures.ok ∙ ap (with_all hidden) c.none-left.ensures in
    left_is s hidden marks n c.len.ensures c.take_ended.new.positions c.complement.new.self (c.take_ended.ensures.length ∙ ap length inserted)
    (λ p. c.in_ok-take_ended.ensures.ok p ∙ ap (λ (bits : List Bool). get_or bits p false || is_removable s (end_at marks p)) inserted) c.in_ok-complement.ensures.ok
