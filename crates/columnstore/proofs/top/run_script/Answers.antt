use Rattle.std.proofs.Common.{subst, refl, inl, codes, []}
use Rattle.cs_outside.specs.Outside.{Takes}
use Rattle.script_reader.specs.Scripts.{IsScript}
use Rattle.columnstore.specs.declared.status.Status.TheVariants as status
use Rattle.columnstore.specs.Outcome.{order_of, mode_of, too_long, answered}
use Rattle.columnstore.proofs.Complete.{came_short, all_came, finished}
use Rattle.columnstore.proofs.Ending.{asks_script, fault_ends, ending, none_added}
use Rattle.columnstore.proofs.top.run_script.Goals as goal

pub returns-in-Err-Fault-clause-ends : goal.returns-in-Err-Fault-clause-ends
returns-in-Err-Fault-clause-ends g c =
    let came = c.in-Err-Fault.ensures.came in
    (came.0, [], came.1, none_added (g.O.Sink.held c.args.output.now), fault_ends c.args.options c.args.way came.0 (g.I.Source.left c.read_all.new.source) (g.O.Sink.faults c.args.output.now) (g.O.Sink.faults c.args.output.now))

pub returns-in-Err-TooLong-clause-ends : goal.returns-in-Err-TooLong-clause-ends
returns-in-Err-TooLong-clause-ends g c =
    let came = c.in-Err-TooLong.ensures.came in
    let long = came.2.0 (cc) in
    let left = g.I.Source.left c.read_all.new.source in
    let asks = asks_script c.args.options c.args.way came.0 left status.Script (codes "refused too long\n") (too_long long) in
    let ends = ending (order_of c.args.options c.args.way) came.0 left status.Script c.finish.result (codes "refused too long\n")
    (g.O.Sink.held c.args.output.now) (g.O.Sink.held c.finish.new.output) (g.O.Sink.faults c.args.output.now) (g.O.Sink.faults c.finish.new.output)
    asks c.finish.ensures in
    (came.0, ends.0, came.1, ends.1, ends.2)

pub returns-in-Ok-answer-clause-ends : goal.returns-in-Ok-answer-clause-ends
returns-in-Ok-answer-clause-ends g c =
    let left = g.I.Source.left c.read_all.new.source in
    let asks = asks_script c.args.options c.args.way c.in-Ok.bytes.items left c.in-Ok-answer.status c.in-Ok-answer.text (answered c.in-Ok.ensures.within c.in-Ok.ensures.end c.in-Ok-answer.ensures.answered) in
    let ends = ending (order_of c.args.options c.args.way) c.in-Ok.bytes.items left c.in-Ok-answer.status c.finish-in-Ok-answer.result c.in-Ok-answer.text
    (g.O.Sink.held c.args.output.now) (g.O.Sink.held c.finish-in-Ok-answer.new.output) (g.O.Sink.faults c.args.output.now) (g.O.Sink.faults c.finish-in-Ok-answer.new.output)
    asks (rw c.as_slice.ensures at c.finish-in-Ok-answer.ensures) in
    (c.in-Ok.bytes.items, ends.0, c.in-Ok.ensures.ok, ends.1, ends.2)

pub returns-in-Err-TooLong-clause-complete : goal.returns-in-Err-TooLong-clause-complete
returns-in-Err-TooLong-clause-complete g c = λ bytes script told small reads.
    let came = c.in-Err-TooLong.ensures.came in
    absurd (came_short bytes came.0 (g.I.Source.left c.read_all.new.source) (subst (λ o. Takes o (g.I.Source.left c.read_all.new.source) came.0) told came.1) small (came.2.0 (cc)))

pub returns-in-Ok-answer-clause-complete : goal.returns-in-Ok-answer-clause-complete
returns-in-Ok-answer-clause-complete g c = λ bytes script told small reads.
    let came = c.in-Ok.bytes.items in
    let left = g.I.Source.left c.read_all.new.source in
    let all = all_came bytes came left (subst (λ o. Takes o left came) told c.in-Ok.ensures.ok) c.in-Ok.ensures.end in
    finished (g.O.Sink.held c.args.output.now) (g.O.Sink.held c.finish-in-Ok-answer.new.output) (g.O.Sink.faults c.args.output.now) (g.O.Sink.faults c.finish-in-Ok-answer.new.output)
    c.as_slice.result.now c.in-Ok-answer.status c.finish-in-Ok-answer.result c.finish-in-Ok-answer.ensures
    (c.in-Ok-answer.ensures.runs script (subst (λ bs. IsScript (mode_of c.args.way) bs script) all reads))

pub returns-in-Err-Memory-clause-ends : goal.returns-in-Err-Memory-clause-ends
returns-in-Err-Memory-clause-ends g c =
    let came = c.in-Err-Memory.ensures.came in
    (came.0, [], came.1, none_added (g.O.Sink.held c.args.output.now), inl refl)

pub returns-in-Err-clause-ends : goal.returns-in-Err-clause-ends
returns-in-Err-clause-ends g c =
    (c.in-Ok.bytes.items, [], c.in-Ok.ensures.ok, none_added (g.O.Sink.held c.args.output.now), inl refl)
