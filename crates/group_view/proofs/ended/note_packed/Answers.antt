use Rattle.std.proofs.Common.{◌≡◌, ◌<◌, ◌∙◌, Bool, true, false, length, map, get_or, take, refl, sym, ap, arith}
use Rattle.std.specs.Prelude.{◌||◌}
use Rattle.std.specs.List.{list_any}
use Rattle.std.proofs.lemmas.List.{length-set}
use Rattle.group_book.specs.Book.{Ending}
use Rattle.group_view.specs.Spans.{IsSpanOf}
use Rattle.group_view.specs.Views.{endings_of}
use Rattle.group_view.proofs.Noted.{ended_here, ended_one, any_more, first_any, last_any, none_first, none_last, noted_first, noted_last, noted_one, noted_other}
use Rattle.group_view.proofs.Walks.{or_false}
use Rattle.group_view.proofs.ended.note_packed.Goals as goal
use Rattle.group_view.proofs.ended.note_packed.Goals.{then-ends_version, else-ends_version}

or_true : (t : Bool) → (t || true) ≡ true
or_true true = refl
or_true false = refl

pub loop-i-init : goal.loop-i-init
loop-i-init c =
    let group = c.args.packed.now in
    let marks = c.args.marks.now in
    let held = c.args.buffer.now.entries in
    let entries = c.args.entries.now in
    let span = c.entries_within-span.result in
    let is : IsSpanOf group entries span = c.entries_within-span.ensures in (
      c.requires.noted,
      sym (first_any group marks held entries span is),
      λ test are. noted_first entries test (ended_here group marks held entries span is) span.from c.args.noted.now are (none_first group marks held entries span is),
    )

pub loop-i-preserved : goal.loop-i-preserved
loop-i-preserved c =
    let group = c.args.packed.now in
    let marks = c.args.marks.now in
    let held = c.args.buffer.now.entries in
    let entries = c.args.entries.now in
    let span = c.entries_within-span.result in
    let is : IsSpanOf group entries span = c.entries_within-span.ensures in
    let n = c.loop-i.i in
    let there : n < length entries = omega (arith, c.loop-i-test.true, is.within) in
    let more = any_more (ended_one group marks held entries span is) entries n _ there in
    elim c.if-ends_version.branch [
      | then-ends_version w ↦
          let passes : ended_one group marks held entries span is (get_or entries n _) ≡ true = sym c.ends_version.ensures ∙ w.if-ends_version.true in
          rw (w.noted-is, w.found-is) (
            length-set c.loop-i.noted n true ∙ c.loop-i.invariant.0,
            sym (more ∙ ap (λ (b : Bool). list_any (ended_one group marks held entries span is) (take n entries) || b) passes ∙ or_true (list_any (ended_one group marks held entries span is) (take n entries))),
            λ test are. noted_one entries test (ended_here group marks held entries span is) n c.loop-i.noted _ there passes (c.loop-i.invariant.2 test are),
          )
      | else-ends_version w ↦
          let fails : ended_one group marks held entries span is (get_or entries n _) ≡ false = sym c.ends_version.ensures ∙ w.if-ends_version.false in
          rw (w.noted-is, w.found-is) (
            c.loop-i.invariant.0,
            c.loop-i.invariant.1 ∙ sym (more ∙ ap (λ (b : Bool). list_any (ended_one group marks held entries span is) (take n entries) || b) fails ∙ or_false (list_any (ended_one group marks held entries span is) (take n entries))),
            λ test are. noted_other entries test (ended_here group marks held entries span is) n c.loop-i.noted _ there fails (c.loop-i.invariant.2 test are),
          )
    ]

pub returns-clause-found : goal.returns-clause-found
returns-clause-found c =
    let group = c.args.packed.now in
    let held = c.args.buffer.now.entries in
    let entries = c.args.entries.now in
    let span = c.entries_within-span.result in
    let is : IsSpanOf group entries span = c.entries_within-span.ensures in
    c.loop-i.invariant.1 ∙ last_any group c.args.marks.now held entries span is c.loop-i.i c.loop-i-test.false

pub returns-clause-noted : goal.returns-clause-noted
returns-clause-noted c = λ (test : Ending → Bool) (are : c.args.noted.now ≡ map test (endings_of c.args.entries.now)).
    let group = c.args.packed.now in
    let marks = c.args.marks.now in
    let held = c.args.buffer.now.entries in
    let entries = c.args.entries.now in
    let span = c.entries_within-span.result in
    let is : IsSpanOf group entries span = c.entries_within-span.ensures in
    let past = c.loop-i-test.false in
    noted_last entries test (ended_here group marks held entries span is) c.loop-i.i c.loop-i.noted (λ i d there from. none_last group marks held entries span is i d there (omega (arith, from, past))) (c.loop-i.invariant.2 test are)
