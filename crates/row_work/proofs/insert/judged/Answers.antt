use Rattle.std.proofs.Common.{rules, ◌∙◌, ◌++◌, ◌∷◌, [], List, ap, sym, subst, append_assoc, arith}
use Rattle.std.specs.Vec.Iter.{into_iter_items}
use Rattle.std.proofs.lemmas.List.{append-nil, length-map, map-append, nil_from_length}
use Rattle.cs_model.specs.Changes.{Edit}
use Rattle.edit_laws.specs.Edits.{edit_of, edits_of}
use Rattle.write_set.specs.declared.write.Write.{Write}
use Rattle.row_work.specs.Inserts.{AreJudged}
use Rattle.row_work.proofs.Judged.{all_judged, none_judged}
use Rattle.row_work.proofs.Puts.{none_above}
use Rattle.row_work.proofs.insert.judged.Goals as goal

pub loop-row-init : goal.loop-row-init
loop-row-init c = record {
  are =
      subst (λ (writes : List Write). AreJudged c.args.pinned.now [] writes c.new-present.result.items) (sym c.in_ok-writes.ensures.items)
      (subst (AreJudged c.args.pinned.now [] []) (sym c.new-present.ensures.items) (none_judged c.args.pinned.now));
  rest = search rules;
}

pub loop-row-preserved : goal.loop-row-preserved
loop-row-preserved c =
    let done = c.loop-row.yielded in
    let row = c.in-Some.row in
    let left = into_iter_items c.next.new.self in
    let all = ap (λ items. done ++ items) (sym c.in-Some.ensures.steps.0) ∙ c.loop-row.invariant.rest in
    let more = c.add.ensures (edits_of done) c.loop-row.invariant.are (none_above done row left c.args.rows.items all c.requires.sorted) in
    record {
      are = subst (λ (edits : List Edit). AreJudged c.args.pinned.now edits c.add.new.writes.items c.add.new.present.items) (sym (map-append edit_of done (row ∷ []))) (rw c.in_ok-add.was at more);
      rest = append_assoc done (row ∷ []) left ∙ all;
    }

pub returns : goal.returns
returns c = λ width edits moved.
    let rows = c.args.rows.items in
    let done = c.loop-row.yielded in
    let left = into_iter_items c.loop-row.row-iterator in
    let none = nil_from_length left (omega (arith, c.loop-row.row-iterator.rest.ok.0, c.in-None.ensures.steps.0)) in
    let all = sym (append-nil done) ∙ ap (λ items. done ++ items) (sym none) ∙ c.loop-row.invariant.rest in
    let are = subst (λ (list : List Write). AreJudged c.args.pinned.now (edits_of list) c.loop-row.writes.items c.loop-row.present.items) all c.loop-row.invariant.are in
    let long = length-map rows edit_of in
    all_judged width c.args.pinned.now (edits_of rows) edits c.loop-row.writes.items c.loop-row.present.items _ moved are (search (rules, long))
