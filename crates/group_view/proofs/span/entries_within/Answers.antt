use Rattle.std.proofs.Common.{◌≡◌, length, get_or, arith}
use Rattle.group_view.proofs.Spans.{none_above, none_below}
use Rattle.group_view.proofs.span.entries_within.Goals as goal

pub returns-in-None : goal.returns-in-None
returns-in-None c = record {
  within = omega arith;
  before = λ i d there low. absurd (omega (arith, low));
  after = λ i d there up position inside. absurd (let none : length c.args.packed.now.rows ≡ 0 = c.in-None.ensures.none in omega (arith, none, inside));
}

pub returns-in-Some : goal.returns-in-Some
returns-in-Some c =
    let group = c.args.packed.now in
    let entries = c.args.entries.now in
    let least = c.in-Some.least in
    let greatest = c.in-Some.greatest in
    let between = c.in-Some.ensures.some in
    record {
      within = c.entries_up_to.ensures.within;
      before = λ i d there low. none_below group least greatest between (get_or entries i d).0 (c.entries_below.ensures i d low there);
      after = λ i d there up. none_above group least greatest between (get_or entries i d).0 (c.entries_up_to.ensures.after i d up there);
    }
