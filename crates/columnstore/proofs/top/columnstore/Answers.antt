use Rattle.std.proofs.Common.{◌≡◌, map, string_bytes, [], refl, sym, subst, true, false}
use Rattle.command_words.specs.declared.order.Order.TheVariants.{Replay, Run, Generate, Load}
use Rattle.command_words.proofs.WordPairs.{in_range}
use Rattle.script_reader.specs.Scripts.{IsScript}
use Rattle.script_runner.specs.Logs.{Summed}
use Rattle.columnstore.specs.declared.way.Way.TheVariants.{ByLine, OnThreads}
use Rattle.columnstore.specs.Outcome.{sizes_in, order_of, mode_of, drawn_script, refused, served}
use Rattle.columnstore.proofs.Serving.{given_way, none_given, no_script, reading, terms_of}
use Rattle.columnstore.proofs.Ending.{drawing, with_done, refusing, none_taken}
use Rattle.columnstore.proofs.top.columnstore.Goals as goal

pub run_script-requires-clause-range : goal.run_script-requires-clause-range
run_script-requires-clause-range g c κs within =
    let found = rw c.in-Some-Replay.field-0-is at c.in-Some-Replay.ensures.found in
    in_range (map string_bytes c.args.words.now) (Replay c.in-Some-Replay.options) found

pub run_script-requires-in-Some-Run-clause-range : goal.run_script-requires-in-Some-Run-clause-range
run_script-requires-in-Some-Run-clause-range g c κs within =
    let found = rw c.in-Some-Run.field-0-is at c.in-Some-Run.ensures.found in
    in_range (map string_bytes c.args.words.now) (Run c.in-Some-Run.options c.in-Some-Run.movers) found

pub generate-requires : goal.generate-requires
generate-requires g c =
    let found = rw c.in-Some-Generate.field-0-is at c.in-Some-Generate.ensures.found in
    in_range (map string_bytes c.args.words.now) (Generate c.in-Some-Generate.workload) found

pub load-requires-clause-sizes : goal.load-requires-clause-sizes
load-requires-clause-sizes g c =
    let found = rw c.in-Some-Load.field-0-is at c.in-Some-Load.ensures.found in
    let range = in_range (map string_bytes c.args.words.now) (Load c.in-Some-Load.workload c.in-Some-Load.options) found in
    terms_of c.in-Some-Load.options range.1

pub load-requires-clause-workers : goal.load-requires-clause-workers
load-requires-clause-workers g c =
    let found = rw c.in-Some-Load.field-0-is at c.in-Some-Load.ensures.found in
    let range = in_range (map string_bytes c.args.words.now) (Load c.in-Some-Load.workload c.in-Some-Load.options) found in
    range.1.2

pub load-requires-clause-drawn : goal.load-requires-clause-drawn
load-requires-clause-drawn g c =
    let found = rw c.in-Some-Load.field-0-is at c.in-Some-Load.ensures.found in
    let range = in_range (map string_bytes c.args.words.now) (Load c.in-Some-Load.workload c.in-Some-Load.options) found in
    range.0

pub returns-in-Some-Replay-clause-ends : goal.returns-in-Some-Replay-clause-ends
returns-in-Some-Replay-clause-ends g c =
    let found = rw c.in-Some-Replay.field-0-is at c.in-Some-Replay.ensures.found in
    let ends = c.run_script.ensures.ends in
    (ends.0, ends.1, ends.2, ends.3, served (Replay c.in-Some-Replay.options) found (λ drawn. let differs : true ≡ false = drawn in cc) ends.4)

pub returns-in-Some-Run-clause-ends : goal.returns-in-Some-Run-clause-ends
returns-in-Some-Run-clause-ends g c =
    let found = rw c.in-Some-Run.field-0-is at c.in-Some-Run.ensures.found in
    let ends = c.run_script-in-Some-Run.ensures.ends in
    (ends.0, ends.1, ends.2, ends.3, served (Run c.in-Some-Run.options c.in-Some-Run.movers) found (λ drawn. let differs : true ≡ false = drawn in cc) ends.4)

pub returns-in-Some-Replay-clause-complete : goal.returns-in-Some-Replay-clause-complete
returns-in-Some-Replay-clause-complete g c = λ bytes options way script told is small reads.
    let found = rw c.in-Some-Replay.field-0-is at c.in-Some-Replay.ensures.found in
    let read = c.of_words.ensures.only (Replay c.in-Some-Replay.options) found in
    let same = given_way (map string_bytes c.args.words.now) c.of_words.result c.of_words.ensures.only options c.in-Some-Replay.options way ByLine read is in
    c.run_script.ensures.complete bytes script told small (subst (λ way. IsScript (mode_of way) bytes script) (sym same) reads)

pub returns-in-Some-Run-clause-complete : goal.returns-in-Some-Run-clause-complete
returns-in-Some-Run-clause-complete g c = λ bytes options way script told is small reads.
    let found = rw c.in-Some-Run.field-0-is at c.in-Some-Run.ensures.found in
    let read = c.of_words.ensures.only (Run c.in-Some-Run.options c.in-Some-Run.movers) found in
    let same = given_way (map string_bytes c.args.words.now) c.of_words.result c.of_words.ensures.only options c.in-Some-Run.options way (OnThreads c.in-Some-Run.movers) read is in
    c.run_script-in-Some-Run.ensures.complete bytes script told small (subst (λ way. IsScript (mode_of way) bytes script) (sym same) reads)

pub returns-in-Some-Replay-clause-untouched : goal.returns-in-Some-Replay-clause-untouched
returns-in-Some-Replay-clause-untouched g c = λ none.
    let found = rw c.in-Some-Replay.field-0-is at c.in-Some-Replay.ensures.found in
    absurd {A = c.run_script.new.input ≡ c.args.input.now} (none (Replay c.in-Some-Replay.options) found refl)

pub returns-in-Some-Run-clause-untouched : goal.returns-in-Some-Run-clause-untouched
returns-in-Some-Run-clause-untouched g c = λ none.
    let found = rw c.in-Some-Run.field-0-is at c.in-Some-Run.ensures.found in
    absurd {A = c.run_script-in-Some-Run.new.input ≡ c.args.input.now} (none (Run c.in-Some-Run.options c.in-Some-Run.movers) found refl)

pub returns-in-Some-Generate-clause-ends : goal.returns-in-Some-Generate-clause-ends
returns-in-Some-Generate-clause-ends g c =
    let found = rw c.in-Some-Generate.field-0-is at c.in-Some-Generate.ensures.found in
    let drawn = c.in-Some-Generate.workload in
    let left = g.I.Source.left c.args.input.now in
    let made = with_done g.O.Sink.held g.O.Sink.faults c.args.output.now c.write_drawn.new.output (λ line. line ≡ drawn_script drawn) c.generate.result c.generate.ensures in
    let ends = drawing g.O.Sink.held g.O.Sink.faults c.args.output.now c.write_drawn.new.output (Generate drawn) left c.generate.result c.write_drawn.result made c.write_drawn.ensures in
    ([], ends.0, none_taken left, ends.1, served (Generate drawn) found (λ _. refl) ends.2)

pub returns-in-Some-Load-clause-ends : goal.returns-in-Some-Load-clause-ends
returns-in-Some-Load-clause-ends g c =
    let found = rw c.in-Some-Load.field-0-is at c.in-Some-Load.ensures.found in
    let drawn = c.in-Some-Load.workload in
    let options = c.in-Some-Load.options in
    let left = g.I.Source.left c.args.input.now in
    let output = c.write_drawn-in-Some-Load.new.output in
    let made = with_done g.O.Sink.held g.O.Sink.faults c.args.output.now output (Summed (sizes_in options) (drawn_script drawn)) c.load.result c.load.ensures in
    let ends = drawing g.O.Sink.held g.O.Sink.faults c.args.output.now output (Load drawn options) left c.load.result c.write_drawn-in-Some-Load.result made c.write_drawn-in-Some-Load.ensures in
    ([], ends.0, none_taken left, ends.1, served (Load drawn options) found (λ _. refl) ends.2)

pub returns-in-Some-Generate-clause-complete : goal.returns-in-Some-Generate-clause-complete
returns-in-Some-Generate-clause-complete g c = λ bytes options way script told is small reads.
    let found = rw c.in-Some-Generate.field-0-is at c.in-Some-Generate.ensures.found in
    let read = c.of_words.ensures.only (Generate c.in-Some-Generate.workload) found in
    absurd (no_script (map string_bytes c.args.words.now) c.of_words.result c.of_words.ensures.only (Generate c.in-Some-Generate.workload) read refl options way is)

pub returns-in-Some-Load-clause-complete : goal.returns-in-Some-Load-clause-complete
returns-in-Some-Load-clause-complete g c = λ bytes options way script told is small reads.
    let found = rw c.in-Some-Load.field-0-is at c.in-Some-Load.ensures.found in
    let read = c.of_words.ensures.only (Load c.in-Some-Load.workload c.in-Some-Load.options) found in
    absurd (no_script (map string_bytes c.args.words.now) c.of_words.result c.of_words.ensures.only (Load c.in-Some-Load.workload c.in-Some-Load.options) read refl options way is)

pub returns-in-None-clause-ends : goal.returns-in-None-clause-ends
returns-in-None-clause-ends g c =
    let words = map string_bytes c.args.words.now in
    let left = g.I.Source.left c.args.input.now in
    let ends = refusing c.refuse.result (g.O.Sink.held c.args.output.now) (g.O.Sink.held c.refuse.new.output) (g.O.Sink.faults c.args.output.now) (g.O.Sink.faults c.refuse.new.output) c.refuse.ensures in
    ([], ends.0, none_taken left, ends.1, refused (none_given words c.of_words.result c.of_words.ensures.only c.in-None.is) refl ends.2)

pub returns-in-None-clause-complete : goal.returns-in-None-clause-complete
returns-in-None-clause-complete g c = λ bytes options way script told is small reads.
    absurd (none_given (map string_bytes c.args.words.now) c.of_words.result c.of_words.ensures.only c.in-None.is (order_of options way) is)

pub returns-in-None-clause-drawn : goal.returns-in-None-clause-drawn
returns-in-None-clause-drawn g c = λ order is drawn.
    absurd (none_given (map string_bytes c.args.words.now) c.of_words.result c.of_words.ensures.only c.in-None.is order is)

pub returns-in-Some-Replay-clause-modes : goal.returns-in-Some-Replay-clause-modes
returns-in-Some-Replay-clause-modes g c = reading

pub returns-in-Some-Run-clause-modes : goal.returns-in-Some-Run-clause-modes
returns-in-Some-Run-clause-modes g c = reading

pub returns-in-Some-Generate-clause-modes : goal.returns-in-Some-Generate-clause-modes
returns-in-Some-Generate-clause-modes g c = reading

pub returns-in-Some-Load-clause-modes : goal.returns-in-Some-Load-clause-modes
returns-in-Some-Load-clause-modes g c = reading

pub returns-in-None-clause-modes : goal.returns-in-None-clause-modes
returns-in-None-clause-modes g c = reading
