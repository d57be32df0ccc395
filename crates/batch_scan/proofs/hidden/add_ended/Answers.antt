use Rattle.batch_scan.specs.Hidden.{is_ended_by}
use Rattle.batch_scan.proofs.Added.{adds_more, ended_parts}
use Rattle.batch_scan.proofs.hidden.add_ended.Goals as goal

pub returns : goal.returns
returns c =
    let group = c.args.packed.now in
    let s = c.args.s in
    let buffer = c.args.buffer.now in
    let parts = c.parts-parts.result in
    adds_more group (is_ended_by parts.settled.now s group) (is_ended_by parts.recent.now s group) (is_ended_by buffer s group) _ _ _
    (λ p below. ended_parts buffer parts.settled.now parts.recent.now s group c.parts-parts.ensures.entries p) c.in_ok-add_buffered.ensures c.in_ok-add_buffered-2.ensures
