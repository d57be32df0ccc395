use Rattle.std.proofs.Common.{◌≡◌, ◌∙◌, ◌<◌, ℕ, length, sym, ap, subst, arith}
use Rattle.row_group.specs.Groups.{precedes, IsFirstPlace}
use Rattle.row_group.proofs.packed.Packed.first_of.Goals as goal

pub returns-in-Less : goal.returns-in-Less
returns-in-Less c = record {
  within = omega arith;
  before = λ i l. absurd (omega (arith, l));
  after = λ i _ l. ap (precedes c.args.tied) (c.in-Less.ensures i l);
}

pub returns-in-Greater : goal.returns-in-Greater
returns-in-Greater c =
    let group = c.args.self.now in
    let last : length group.places ≡ length c.places-end.result.now = sym (ap length c.places-end.ensures.value) in
    subst (IsFirstPlace group c.args.key c.args.tied) last (record {
      within = omega arith;
      before = λ i l. ap (precedes c.args.tied) (c.in-Greater.ensures i l);
      after = λ i m l. absurd (omega (arith, m, l));
    })
