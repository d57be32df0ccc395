use Rattle.std.proofs.Common.{◌≡◌, ◌∙◌, ◌∷◌, [], arith, length, ap, sym, subst, All}
use Rattle.std.specs.Vec.Iter.{into_iter_items}
use Rattle.std.proofs.lemmas.List.{nil_from_length}
use Rattle.std.proofs.lemmas.List.Elements.{All-head, All-rest}
use Rattle.batch_aggregate.specs.Standing.{Entry, entries_in, merged}
use Rattle.batch_aggregate.proofs.entries.add_all.Goals as goal

pub loop-cells-preserved : goal.loop-cells-preserved
loop-cells-preserved c =
    let kept = c.loop-cells.invariant in
    let rest = into_iter_items c.next.new.self in
    let first : Entry = (c.in-Some.cells, c.in-Some.tallies) in
    let steps : into_iter_items c.loop-cells.cells-iterator ≡ first ∷ rest = c.in-Some.ensures.steps.0 in
    record {
      by = λ columns by. c.in_ok-add_tallies.ensures.by columns (kept.by columns by);
      wide = λ columns all. All-rest (λ (e : Entry). length e.0 ≡ length columns) first rest _ steps (kept.wide columns all);
      all = λ columns by all.
          let wide = All-head (λ (e : Entry). length e.0 ≡ length columns) first rest (subst (All (λ (e : Entry). length e.0 ≡ length columns)) steps (kept.wide columns all)) in
          ap (λ es. merged es rest) (c.in_ok-add_tallies.ensures.added columns (kept.by columns by) wide)
          ∙ ap (merged (entries_in c.loop-cells.entries)) (sym steps) ∙ kept.all columns by all;
    }

pub returns-clause-added : goal.returns-clause-added
returns-clause-added c = λ columns by all.
    let none : into_iter_items c.loop-cells.cells-iterator ≡ [] = nil_from_length (into_iter_items c.loop-cells.cells-iterator) (omega (arith, c.in-None.ensures.steps.0, c.loop-cells.iterator)) in
    ap (merged (entries_in c.loop-cells.entries)) (sym none) ∙ c.loop-cells.invariant.all columns by all
