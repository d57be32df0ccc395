use Rattle.std.proofs.Common.{◌≡◌, ◌+◌, ◌-◌, ◌/◌, sym, arith}
use Rattle.delta_store.proofs.VersionLemmas.{none_up_to, all_from}
use Rattle.delta_store.proofs.frozen.Frozen.first_after.Goals as goal

pub loop-low-preserved-then-get-begin : goal.loop-low-preserved-then-get-begin
loop-low-preserved-then-get-begin c = record {
  order = omega arith;
  bound = c.loop-low.invariant.bound;
  before = λ rising. none_up_to c.args.self.now rising c.args.begin (c.loop-low.low + (c.loop-low.high - c.loop-low.low) / 2) c.get.result.now (omega arith) c.get.ensures c.if-get-begin.true;
  after = c.loop-low.invariant.after;
}

pub loop-low-preserved : goal.loop-low-preserved
loop-low-preserved c = record {
  order = omega arith;
  bound = omega arith;
  before = c.loop-low.invariant.before;
  after = λ rising. all_from c.args.self.now rising c.args.begin (c.loop-low.low + (c.loop-low.high - c.loop-low.low) / 2) c.get.result.now (omega arith) c.get.ensures c.if-get-begin.false;
}

pub returns-clause-first : goal.returns-clause-first
returns-clause-first c rising =
    let same : c.loop-low.low ≡ c.loop-low.high = omega arith in
    record { before = c.loop-low.invariant.before rising; after = rw (sym same) at (c.loop-low.invariant.after rising) }
