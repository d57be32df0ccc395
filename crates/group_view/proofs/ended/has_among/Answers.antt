use Rattle.std.proofs.Common.{◌≡◌, ◌<◌, ◌∙◌, true, length, get_or, sym, arith}
use Rattle.std.proofs.lemmas.List.Folds.{list_any_at}
use Rattle.group_view.specs.Spans.{IsSpanOf}
use Rattle.group_view.proofs.Noted.{ended_here, ended_one, ending_of, first_any, last_any}
use Rattle.group_view.proofs.Walks.{any-map}
use Rattle.group_view.proofs.ended.has_among.Goals as goal

pub loop-i-init : goal.loop-i-init
loop-i-init c =
    let group = c.args.packed.now in
    let held = c.args.buffer.now.entries in
    let entries = c.args.entries.now in
    let span = c.entries_within-span.result in
    first_any group c.args.marks.now held entries span (c.entries_within-span.ensures)

pub returns-then-ends_version : goal.returns-then-ends_version
returns-then-ends_version c =
    let group = c.args.packed.now in
    let marks = c.args.marks.now in
    let held = c.args.buffer.now.entries in
    let entries = c.args.entries.now in
    let span = c.entries_within-span.result in
    let is : IsSpanOf group entries span = c.entries_within-span.ensures in
    let n = c.loop-i.i in
    let there : n < length entries = omega (arith, c.loop-i-test.true, is.within) in
    let passes : ended_one group marks held entries span is (get_or entries n _) ≡ true = sym c.ends_version.ensures ∙ c.if-ends_version.true in
    sym (any-map (ended_here group marks held entries span is) ending_of entries ∙ list_any_at (ended_one group marks held entries span is) entries n _ there passes)

pub returns : goal.returns
returns c =
    let group = c.args.packed.now in
    let marks = c.args.marks.now in
    let held = c.args.buffer.now.entries in
    let entries = c.args.entries.now in
    let span = c.entries_within-span.result in
    let is : IsSpanOf group entries span = c.entries_within-span.ensures in
    sym (sym (last_any group marks held entries span is c.loop-i.i c.loop-i-test.false) ∙ c.loop-i.invariant)
