use Rattle.std.proofs.Common.{◌≡◌, ◌<◌, ◌≤◌, ◌+◌, ◌-◌, length, take, drop, ap, ◌∙◌, arith}
use Rattle.std.proofs.Math.Seq.{take-add}
use Rattle.std.proofs.lemmas.List.{length-drop, take_rest}
use Rattle.cs_outside.proofs.Known.{adds_append, counted_once, front_of_piece, length_of_piece}
use Rattle.cs_outside.proofs.sink.write_whole.Goals as goal

pub loop-done-preserved : goal.loop-done-preserved
loop-done-preserved g c =
    let done = c.loop-done.done in
    let rest = drop done c.args.bytes.now in
    let piece = c.first_piece.result.now in
    let is : piece ≡ take 65536 rest = c.first_piece.ensures ∙ ap (take 65536) (take_rest c.args.bytes.now done) in
    let sized = length_of_piece rest piece 65535 is in
    let long : length rest ≡ length c.args.bytes.now - done = length-drop done c.args.bytes.now in
    let once : g.O.Sink.calls c.write.new.self ≤ g.O.Sink.calls c.args.sink.now + done + 1 =
    counted_once (g.O.Sink.calls c.loop-done.sink) (g.O.Sink.calls c.write.new.self) (g.O.Sink.calls c.args.sink.now + done) c.loop-done.invariant.turns c.write.ensures.called in
    let some : 0 < c.in-Ok.n = c.in-Ok.ensures.progress (sized.1 (omega (arith, long))) in
    record {
      within = omega (arith, c.in-Ok.ensures.bound, sized.0, long);
      added = rw (take-add done c.in-Ok.n c.args.bytes.now, ← front_of_piece rest piece 65536 c.in-Ok.n is c.in-Ok.ensures.bound)
          (adds_append (g.O.Sink.held c.args.sink.now) (g.O.Sink.held c.loop-done.sink) (g.O.Sink.held c.write.new.self) _ _ c.loop-done.invariant.added c.in-Ok.ensures.ok);
      later = omega arith;
      turns = omega (arith, once, some);
    }
