use Rattle.std.proofs.Common.{sym, subst}
use Rattle.script_reader.specs.Scripts.{IsScript, IsBadLine}
use Rattle.columnstore.specs.Outcome.{sizes_in}
use Rattle.columnstore.proofs.Replayed.{answers, told_stops}
use Rattle.columnstore.proofs.answer.answer.Goals as goal

pub returns-in-Ok-clause-answered : goal.returns-in-Ok-clause-answered
returns-in-Ok-clause-answered g c =
    let reads = subst (λ mode. IsScript mode c.args.bytes.items c.in-Ok.script) c.mode.ensures c.in-Ok.ensures.found in
    answers c.args.way (sizes_in c.args.options) c.args.bytes.items c.in-Ok.script c.perform.result reads c.perform.ensures.text

pub returns-in-Ok-clause-runs : goal.returns-in-Ok-clause-runs
returns-in-Ok-clause-runs g c = λ script is. told_stops c.args.way (sizes_in c.args.options) c.in-Ok.script c.perform.result c.perform.ensures.text

pub returns-in_ok-text-in-Err-Bad-clause-answered : goal.returns-in_ok-text-in-Err-Bad-clause-answered
returns-in_ok-text-in-Err-Bad-clause-answered g c = record {
  none = λ script is. let none = c.in-Err-Bad.ensures.only script (subst (λ mode. IsScript mode c.args.bytes.items script) (sym c.mode.ensures) is) in absurd (cc);
  line = c.in-Err-Bad.line;
  reason = c.in-Err-Bad.reason;
  number = c.in-Err-Bad.number;
  reads = subst (λ mode. IsBadLine mode c.args.bytes.items c.in-Err-Bad.line c.in-Err-Bad.reason c.in-Err-Bad.number) c.mode.ensures (rw c.in-Err-Bad.field-0-is at c.in-Err-Bad.ensures.refused);
  is = rw c.in-Err-Bad.field-0-is at c.in_ok-text-in-Err-Bad.ensures;
}

pub returns-in_ok-text-in-Err-Bad-clause-runs : goal.returns-in_ok-text-in-Err-Bad-clause-runs
returns-in_ok-text-in-Err-Bad-clause-runs g c = λ script is.
    let none = c.in-Err-Bad.ensures.only script (subst (λ mode. IsScript mode c.args.bytes.items script) (sym c.mode.ensures) is) in
    absurd (cc)
