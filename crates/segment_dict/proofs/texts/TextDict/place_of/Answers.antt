use Rattle.std.proofs.Common.{◌≡◌, ◌∙◌, sym, ap, arith, length, Some}
use Rattle.segment_dict.specs.Texts.{texts_in}
use Rattle.segment_dict.proofs.Orders.{same_text, text_order}
use Rattle.segment_dict.proofs.Searches.{Narrows-all, Narrows-less, Narrows-greater, not_there}
use Rattle.segment_dict.proofs.TextLemmas.{length-texts_from}
use Rattle.segment_dict.proofs.texts.TextDict.place_of.Goals as goal

pub loop-low-init : goal.loop-low-init
loop-low-init c =
    let count : length c.as_slice-high.result.now ≡ length (texts_in c.args.self.now.ends c.args.self.now.bytes) =
    ap length c.as_slice-high.ensures ∙ sym (length-texts_from 0 c.args.self.now.ends c.args.self.now.bytes) in
    rw count (Narrows-all _ _ _)

pub text-requires : goal.text-requires
text-requires c = omega (arith, c.loop-low.invariant.within, length-texts_from 0 c.args.self.now.ends c.args.self.now.bytes)

pub loop-low-preserved-in-Less : goal.loop-low-preserved-in-Less
loop-low-preserved-in-Less c = Narrows-less text_order _ _ c.args.self.now.ascending _ _ _ _ c.loop-low.invariant (omega arith) c.text.ensures (sym c.in-Less.ensures)

pub loop-low-preserved : goal.loop-low-preserved
loop-low-preserved c = Narrows-greater text_order _ _ c.args.self.now.ascending _ _ _ _ c.loop-low.invariant (omega arith) (omega arith) c.text.ensures (sym c.in-Greater.ensures)

pub returns-in-Equal-clause-place : goal.returns-in-Equal-clause-place
returns-in-Equal-clause-place c = c.text.ensures ∙ ap Some (same_text _ _ (sym c.in-Equal.ensures))

pub returns-in-Equal-clause-small : goal.returns-in-Equal-clause-small
returns-in-Equal-clause-small c =
    omega (arith, c.loop-low.invariant.within, length-texts_from 0 c.args.self.now.ends c.args.self.now.bytes, ap length c.as_slice-high.ensures, c.as_slice-high.type_inv.1)

pub returns-clause-place : goal.returns-clause-place
returns-clause-place c =
    let ordered = c.loop-low.invariant.ordered in
    let met : c.loop-low.high ≡ c.loop-low.low = omega arith in
    not_there text_order _ _ _ (rw met at c.loop-low.invariant)
