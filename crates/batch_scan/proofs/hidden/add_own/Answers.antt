use Rattle.std.proofs.Common.{◌∙◌, ◌+◌, ◌<ℤ◌, take, get_or, sym, ap, subst, arith}
use Rattle.std.specs.Prelude.{◌||◌, None}
use Rattle.std.proofs.lemmas.List.{take_all}
use Rattle.std.proofs.lemmas.Option.{get_or_from_slice_get, slice_get_within}
use Rattle.write_set.specs.declared.write.Write.{Write}
use Rattle.batch_scan.specs.Hidden.{is_of_key, is_written, Adds}
use Rattle.batch_scan.proofs.Added.{adds_more, adds_none, adds_same, written_push}
use Rattle.group_view.proofs.Spans.{above_is, below_up_to}
use Rattle.batch_scan.proofs.Cuts.{writes_rise, written_above, written_below}
use Rattle.batch_scan.proofs.hidden.add_own.Goals as goal

pub loop-i-init : goal.loop-i-init
loop-i-init c =
    let group = c.args.packed.now in
    let own = c.args.own.now in
    let from = c.writes_below-from.result in
    adds_none group (is_written (take from own) group) c.args.hidden.now.items (λ p there. written_below group p there c.args.least c.args.greatest c.requires own from c.writes_below-from.ensures)

pub returns-then-gt : goal.returns-then-gt
returns-then-gt c =
    let group = c.args.packed.now in
    let own = c.args.own.now in
    let n = c.loop-i.i in
    let write = c.get.result.now in
    let above = above_is write.key.0 c.args.greatest.0 (sym c.gt.ensures ∙ c.if-gt.true) in
    adds_same group (is_written (take n own) group) (is_written own group) c.args.hidden.now.items c.loop-i.hidden.items
    (λ p there. written_above group p there c.args.least c.args.greatest c.requires own n (λ i other from inside.
    below_up_to c.args.greatest.0 (get_or own n other).key.0 (get_or own i other).key.0
    (subst (λ (w : Write). c.args.greatest.0 <ℤ w.key.0) (sym (get_or_from_slice_get own n write other c.get.ensures)) above) (writes_rise own c.len-i-end.ensures.order n i other from inside)))
    c.loop-i.invariant

pub loop-i-preserved : goal.loop-i-preserved
loop-i-preserved c =
    let group = c.args.packed.now in
    let own = c.args.own.now in
    let n = c.loop-i.i in
    let write = c.get.result.now in
    let here = get_or_from_slice_get own n write write c.get.ensures in
    adds_more group (is_written (take n own) group) (is_of_key write.key None group) (is_written (take (n + 1) own) group) _ _ _
    (λ p below.
    written_push own n write (slice_get_within own n write c.get.ensures) group p
    ∙ ap (λ (w : Write). is_written (take n own) group p || is_of_key w.key None group p) here)
    c.loop-i.invariant c.in_ok-near.ensures

pub returns : goal.returns
returns c =
    let group = c.args.packed.now in
    let own = c.args.own.now in
    subst (λ list. Adds group (is_written list group) c.args.hidden.now.items c.loop-i.hidden.items) (take_all c.loop-i.i own (omega (arith, c.loop-i-test.false))) c.loop-i.invariant
