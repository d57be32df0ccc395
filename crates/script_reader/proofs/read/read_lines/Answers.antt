use Rattle.std.proofs.Common.{sym, refl, [], arith}
use Rattle.script_reader.specs.Lines.{lines}
use Rattle.script_reader.proofs.Whole.{refused_at, refused_only, handed}
use Rattle.script_reader.proofs.read.read_lines.Goals as goal

pub loop-line-init : goal.loop-line-init
loop-line-init c = record {
  before = [];
  cut = refl;
  number = refl;
  read = record {
    good = tt;
    setup = tt;
    steps = c.new.ensures;
    marked = rw c.new.ensures c.none.ensures;
  };
  small = omega arith;
}

pub returns-in_err-read-clause-only : goal.returns-in_err-read-clause-only
returns-in_err-read-clause-only c = λ other o. handed c.from_residual.result _ c.in_err-read.field-0.0 c.from_residual.ensures.1 (refused_only c.args.mode c.args.bytes.now c.loop-line.invariant.before (lines c.in-Some.next.now) c.in-Some.line.now c.loop-line.number c.in_err-read.field-0.0 other
    (rw (sym c.in-Some.ensures.lines) at c.loop-line.invariant.cut) (c.in_err-read.ensures c.loop-line.invariant.before c.loop-line.invariant.read) o)

pub returns-in_err-read-clause-refused : goal.returns-in_err-read-clause-refused
returns-in_err-read-clause-refused c = handed c.from_residual.result _ c.in_err-read.field-0.0 c.from_residual.ensures.1 (refused_at c.args.mode c.args.bytes.now c.loop-line.invariant.before (lines c.in-Some.next.now) c.in-Some.line.now c.loop-line.reading c.loop-line.number c.in_err-read.field-0.0
    (rw (sym c.in-Some.ensures.lines) at c.loop-line.invariant.cut) c.loop-line.invariant.number c.loop-line.invariant.read (c.in_err-read.ensures c.loop-line.invariant.before c.loop-line.invariant.read))
