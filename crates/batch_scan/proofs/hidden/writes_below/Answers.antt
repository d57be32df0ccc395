use Rattle.std.proofs.Common.{◌∙◌, ◌+◌, ◌-◌, ◌/◌, ◌<◌, ◌<ℤ◌, length, get_or, sym, subst, arith}
use Rattle.std.proofs.lemmas.Option.{get_or_from_slice_get}
use Rattle.write_set.specs.declared.write.Write.{Write}
use Rattle.group_view.proofs.Spans.{below_is, up_to_below}
use Rattle.batch_scan.proofs.Cuts.{writes_rise}
use Rattle.batch_scan.proofs.hidden.writes_below.Goals as goal

pub loop-low-preserved-then-lt : goal.loop-low-preserved-then-lt
loop-low-preserved-then-lt c = record {
  order = omega arith;
  bound = c.loop-low.invariant.bound;
  below = λ i d before there.
      let own = c.args.own.now in
      let key = c.args.key in
      let middle = c.loop-low.low + (c.loop-low.high - c.loop-low.low) / 2 in
      let write = c.get.result.now in
      let inside : middle < length own = omega (arith, c.loop-low.invariant.bound) in
      let less = below_is write.key.0 key.0 (sym c.lt.ensures ∙ c.if-lt.true) in
      up_to_below (get_or own i d).key.0 (get_or own middle d).key.0 key.0 (writes_rise own c.len-high.ensures.order i middle d (omega arith) inside)
      (subst (λ (w : Write). w.key.0 <ℤ key.0) (sym (get_or_from_slice_get own middle write d c.get.ensures)) less);
}
