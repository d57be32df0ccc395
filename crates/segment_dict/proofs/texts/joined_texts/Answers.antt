use Rattle.std.proofs.Common.{arith, refl, take_all}
use Rattle.segment_dict.proofs.TextLemmas.{texts_in-more}
use Rattle.segment_dict.proofs.texts.joined_texts.Goals as goal

pub loop-text-preserved : goal.loop-text-preserved
loop-text-preserved c =
    let held = c.loop-text.bytes.ok.0 in
    let longer = c.in_ok-extend_from_slice.ensures.len in
    rw (c.in_ok-push.ensures.items, c.in_ok-extend_from_slice.ensures.items)
    (texts_in-more c.args.texts.now c.loop-text.text-index c.len.result _ c.loop-text.ends.items c.loop-text.bytes.items c.loop-text-test.true _ refl (omega (arith, c.len.ensures)) c.loop-text.invariant)

pub invariant_of-result : goal.invariant_of-result
invariant_of-result c =
    let all = rw (take_all c.loop-text.text-index c.args.texts.now c.loop-text-test.false) at c.loop-text.invariant.0 in
    record {
      joined = rw (c.from_vec.ensures, c.from_vec-2.ensures) c.loop-text.invariant.1;
      ascending = rw (c.from_vec.ensures, c.from_vec-2.ensures, all) c.requires;
    }
