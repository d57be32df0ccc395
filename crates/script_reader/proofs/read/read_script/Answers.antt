use Rattle.script_reader.specs.Lines.{lines}
use Rattle.script_reader.proofs.Whole.{handed_only, refused_none, refused_half, half_only, placed_of, found_script, found_only, valid_schema, runs_of, allowed_in}
use Rattle.script_reader.proofs.read.read_script.Goals as goal

pub returns-in_err-reading-clause-only : goal.returns-in_err-reading-clause-only
returns-in_err-reading-clause-only c = λ other o. handed_only c.from_residual.result _ _ c.in_err-reading.field-0.0 c.from_residual.ensures.1 (c.in_err-reading.ensures.only other o)

pub returns-in_default-clause-refused : goal.returns-in_default-clause-refused
returns-in_default-clause-refused c = refused_none c.args.mode c.args.bytes.now c.in_ok-reading.reading c.in_ok-reading.ensures.found.0 c.in_ok-reading.end c.bad.result c.in_ok-reading.ensures.found.1 c.in_default.is c.bad.ensures

pub returns-then-is_any-clause-refused : goal.returns-then-is_any-clause-refused
returns-then-is_any-clause-refused c =
    let found = c.in_ok-reading.ensures.found in
    let half = c.is_any.ensures.some c.in_ok-reading.reading.lines found.0.marked c.if-is_any.true in
    refused_half c.args.mode c.args.bytes.now c.in_ok-reading.reading found.0 half.0 c.in_ok-reading.end c.bad-then-is_any.result half.1 found.1 c.bad-then-is_any.ensures

pub returns-then-is_any-clause-only : goal.returns-then-is_any-clause-only
returns-then-is_any-clause-only c = λ other o.
    let read = c.in_ok-reading.ensures.found.0 in
    let half = c.is_any.ensures.some c.in_ok-reading.reading.lines read.marked c.if-is_any.true in
    half_only c.args.mode c.args.bytes.now c.in_ok-reading.reading read half.0 c.bad-then-is_any.result other half.1 o

pub sessions-requires : goal.sessions-requires
sessions-requires c = rw (c.as_slice.ensures, c.in_ok-reading.ensures.found.0.steps) (placed_of c.args.mode (lines c.args.bytes.now) c.in_ok-reading.ensures.found.0.good)

pub returns-clause-found : goal.returns-clause-found
returns-clause-found c = let read = c.in_ok-reading.ensures.found.0 in
    found_script c.args.mode c.args.bytes.now c.in_ok-reading.reading read c.in-Some.schema c.in-Some.is c.in_ok-sessions.sessions (rw c.as_slice.ensures at c.in_ok-sessions.ensures)
    (c.is_any.ensures.none c.in_ok-reading.reading.lines read.marked c.if-is_any.false)

pub returns-clause-runs : goal.returns-clause-runs
returns-clause-runs c = runs_of c.args.mode c.args.bytes.now _ (returns-clause-found c) (valid_schema c.args.mode c.args.bytes.now c.in_ok-reading.reading c.in_ok-reading.ensures.found.0 c.in-Some.schema c.in-Some.is)

pub returns-clause-allowed : goal.returns-clause-allowed
returns-clause-allowed c = allowed_in c.args.mode c.args.bytes.now _ (returns-clause-found c)

pub returns-clause-only : goal.returns-clause-only
returns-clause-only c = λ other o.
    found_only c.args.mode c.args.bytes.now c.in_ok-reading.reading c.in_ok-reading.ensures.found.0 c.in-Some.schema c.in-Some.is c.in_ok-sessions.sessions other (rw c.as_slice.ensures at c.in_ok-sessions.ensures) o
