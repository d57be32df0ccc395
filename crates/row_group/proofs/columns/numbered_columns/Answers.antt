use Rattle.std.proofs.Common.{◌≡◌, ◌++◌, ◌∷◌, [], List, map, sym, ◌∙◌, ap, arith}
use Rattle.std.specs.Vec.Iter.{into_iter_items}
use Rattle.std.proofs.lemmas.List.{append-nil, append_assoc, map-append, nil_from_length}
use Rattle.cs_types.specs.declared.Value.{Value}
use Rattle.cs_types.specs.Rows.{number_cell}
use Rattle.row_group.specs.Packings.{numbered}
use Rattle.row_group.proofs.columns.numbered_columns.Goals as goal

pub loop-numbers-preserved : goal.loop-numbers-preserved
loop-numbers-preserved c =
    let numbers = c.in-Some.numbers in
    let yielded = c.loop-numbers.yielded in
    record {
      made = c.in_ok-push.ensures.items ∙ ap (λ (cells : List Value). c.loop-numbers.made.items ++ cells ∷ []) c.of_numbers.ensures
          ∙ ap (λ (made : List (List Value)). made ++ map number_cell numbers.items ∷ []) c.loop-numbers.invariant.made
          ∙ sym (map-append (λ column. map number_cell column.items) yielded (numbers ∷ []));
      rest = append_assoc yielded (numbers ∷ []) (into_iter_items c.next.new.self)
          ∙ ap (λ items. yielded ++ items) (sym c.in-Some.ensures.steps.0) ∙ c.loop-numbers.invariant.rest;
    }

pub returns : goal.returns
returns c =
    let left = into_iter_items c.loop-numbers.numbers-iterator in
    let none : left ≡ [] = nil_from_length left (omega (arith, c.loop-numbers.numbers-iterator.rest.ok.0, c.in-None.ensures.steps.0)) in
    let all = sym (append-nil c.loop-numbers.yielded) ∙ ap (λ items. c.loop-numbers.yielded ++ items) (sym none) ∙ c.loop-numbers.invariant.rest in
    c.loop-numbers.invariant.made ∙ ap numbered all
