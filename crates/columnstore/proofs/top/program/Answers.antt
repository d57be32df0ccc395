use Rattle.std.proofs.Common.{map, string_bytes, inl}
use Rattle.columnstore.proofs.Ending.{no_text}
use Rattle.columnstore.proofs.top.program.Goals as goal

pub returns-in-Ok-clause-ran : goal.returns-in-Ok-clause-ran
returns-in-Ok-clause-ran g c =
    let ends = rw c.as_slice.ensures.value at c.columnstore.ensures.ends in
    let complete = rw c.as_slice.ensures.value at c.columnstore.ensures.complete in
    let drawn = rw c.as_slice.ensures.value at c.columnstore.ensures.drawn in
    let untouched = rw c.as_slice.ensures.value at c.columnstore.ensures.untouched in
    inl (map string_bytes c.in-Ok.words.items, ends.0, ends.1, c.in-Ok.ensures.ok, ends.2, ends.3, ends.4, complete, drawn, untouched)

pub returns-in-Ok-clause-no_text : goal.returns-in-Ok-clause-no_text
returns-in-Ok-clause-no_text g c =
    let ends = rw c.as_slice.ensures.value at c.columnstore.ensures.ends in
    no_text g.A.Iterator.next_gives c.args.args (map string_bytes c.in-Ok.words.items) ends.0 (g.I.Source.left c.columnstore.new.input) ends.1 (g.O.Sink.faults c.args.output.now) (g.O.Sink.faults c.columnstore.new.output) c.columnstore.result c.in-Ok.ensures.ok ends.4
