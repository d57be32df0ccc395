use Rattle.std.proofs.Common.{◌≡◌, ◌∙◌, ◌++◌, ◌+◌, ◌<◌, ℕ, List, length, take, sym, ap, arith}
use Rattle.std.proofs.lemmas.List.{append_assoc, length-map, take_all}
use Rattle.delete_bitmap.specs.Marks.{end_at}
use Rattle.group_view.specs.Parts.{Rowed, end_of_mark}
use Rattle.tuple_mover.specs.Kept.{number_of, placed_end, placed_ends}
use Rattle.tuple_mover.proofs.KeptLemmas.{marked-number, placed-more}
use Rattle.tuple_mover.proofs.kept.note_ends.Goals as goal

pub loop-i-preserved : goal.loop-i-preserved
loop-i-preserved c = λ rowed same.
    let marks = c.args.marks.now in
    let positions = c.args.positions.now in
    let start = c.args.ends.now.items in
    let i = c.loop-i.i in
    let there : i < length positions = omega arith in
    let found = marked-number rowed marks positions i there same in
    let before = placed_ends c.args.first (take i rowed) in
    c.in_ok-note_end.ensures
    ∙ ap (λ (ends : List (ℕ × ℕ)). ends ++ placed_end (c.args.first + i) c.number_of.result) (c.loop-i.invariant rowed same)
    ∙ append_assoc start before (placed_end (c.args.first + i) c.number_of.result)
    ∙ ap (λ (more : List (ℕ × ℕ)). start ++ more)
    (ap (λ end. before ++ placed_end (c.args.first + i) end) (c.number_of.ensures ∙ ap (λ mark. number_of (end_of_mark mark)) c.end-end.ensures ∙ ap number_of found.1)
    ∙ sym (placed-more c.args.first rowed i found.0))

pub returns : goal.returns
returns c = λ rowed same.
    let many : length rowed ≡ length c.args.positions.now = sym (length-map rowed (λ (v : Rowed). v.version.end)) ∙ ap length same ∙ length-map c.args.positions.now (λ (position : ℕ). end_of_mark (end_at c.args.marks.now position)) in
    c.loop-i.invariant rowed same ∙ ap (λ (all : List Rowed). c.args.ends.now.items ++ placed_ends c.args.first all) (take_all c.loop-i.i rowed (omega (arith, many)))
