use Rattle.std.proofs.Common.{◌∙◌, arith, pos}
use Rattle.std.proofs.lemmas.List.{take_all}
use Rattle.std.proofs.lemmas.List.Elements.{All-more}
use Rattle.delta_store.specs.Versions.{IsReady}
use Rattle.delta_store.proofs.store.Delta.prepare.Goals as goal

pub loop-key-preserved : goal.loop-key-preserved
loop-key-preserved c = record {
  versions = c.in_ok-prepare_key.ensures.versions ∙ c.loop-key.invariant.versions;
  ready = All-more (IsReady c.prepare_key.new.self) c.args.keys.now c.loop-key.key-index (record { 0 = pos 0 }) (omega arith) (λ k d below. c.in_ok-prepare_key.ensures.kept _ (c.loop-key.invariant.ready k d below)) c.in_ok-prepare_key.ensures.ready;
  kept = λ q ready. c.in_ok-prepare_key.ensures.kept q (c.loop-key.invariant.kept q ready);
  room = c.in_ok-prepare_key.ensures.room ∙ c.loop-key.invariant.room;
}

pub returns-clause-ready : goal.returns-clause-ready
returns-clause-ready c = rw (take_all c.loop-key.key-index c.args.keys.now (omega arith)) at c.loop-key.invariant.ready
