use Rattle.std.proofs.Common.{◌∙◌, Ok, length, ap, sym}
use Rattle.std.proofs.lemmas.List.Sorted.{IsPermutation-map, IsPermutation-sym}
use Rattle.edit_laws.specs.Edits.{edit_of, edits_of}
use Rattle.row_work.proofs.insert.inserted.Goals as goal

pub returns : goal.returns
returns c =
    let written = c.in_ok-written.field-0 in
    let rows = c.into_vec-rows.result.items in
    let sorted = c.sort.new.writes.items in
    let moved = IsPermutation-sym (edits_of rows) (edits_of sorted) (IsPermutation-map edit_of rows sorted c.sort.ensures.permutation) in
    (edits_of rows, c.in_ok-written.ensures ∙ ap (λ list. Ok (edits_of list)) (sym c.into_vec-rows.ensures), rw c.in_ok-judged.was at (c.judged.ensures (length c.args.schema.now.columns) (edits_of rows) moved))
