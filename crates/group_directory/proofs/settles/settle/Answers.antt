use Rattle.std.proofs.Common.{map, length, sym, ap, ◌∙◌, arith}
use Rattle.group_view.specs.Books.{claim_of}
use Rattle.group_directory.specs.Settling.{with_marks}
use Rattle.group_view.specs.Lists.{packed_in}
use Rattle.group_directory.proofs.PackedLaws.{packed_settled}
use Rattle.group_directory.proofs.SettleLemmas.{length_marked, length_with, whole_items, book_after, held_after, rows_after}
use Rattle.group_directory.proofs.settles.settle.Goals as goal

pub put_each-requires : goal.put_each-requires
put_each-requires c =
    let same = length_marked c.args.floor (map claim_of c.args.list.now.claims.items) c.args.list.now.groups.items c.in_ok-settling.settling.marks.items c.in_ok-settling.ensures.marks in
    let here = ap length (c.deref_mut.ensures.value ∙ c.take-groups.ensures.items) in
    omega (arith, same, here, c.in_ok-settling.settling.marks.ok.0)

pub returns-clause-book : goal.returns-clause-book
returns-clause-book c =
    let plan = c.in_ok-settling.settling.marks.items in
    let made = c.put_each.ensures ∙ ap (with_marks plan) (c.deref_mut.ensures.value ∙ c.take-groups.ensures.items) in
    let all = c.from_vec.ensures.items ∙ whole_items c.take-groups.result.len c.put_each.new.groups c.take-groups.result.items c.take-groups.result.ok.0 (ap length made ∙ length_with plan c.args.list.now.groups.items ∙ ap length (sym c.take-groups.ensures.items)) in
    book_after c.args.list.now c.args.floor plan c.in_ok-settling.ensures.marks c.from_vec.result (all ∙ made)

pub returns-clause-held : goal.returns-clause-held
returns-clause-held c =
    let plan = c.in_ok-settling.settling.marks.items in
    let made = c.put_each.ensures ∙ ap (with_marks plan) (c.deref_mut.ensures.value ∙ c.take-groups.ensures.items) in
    let all = c.from_vec.ensures.items ∙ whole_items c.take-groups.result.len c.put_each.new.groups c.take-groups.result.items c.take-groups.result.ok.0 (ap length made ∙ length_with plan c.args.list.now.groups.items ∙ ap length (sym c.take-groups.ensures.items)) in
    held_after c.args.list.now c.args.floor plan c.in_ok-settling.ensures.marks c.from_vec.result (all ∙ made) c.requires

pub returns-clause-rows : goal.returns-clause-rows
returns-clause-rows c =
    let plan = c.in_ok-settling.settling.marks.items in
    let made = c.put_each.ensures ∙ ap (with_marks plan) (c.deref_mut.ensures.value ∙ c.take-groups.ensures.items) in
    let all = c.from_vec.ensures.items ∙ whole_items c.take-groups.result.len c.put_each.new.groups c.take-groups.result.items c.take-groups.result.ok.0 (ap length made ∙ length_with plan c.args.list.now.groups.items ∙ ap length (sym c.take-groups.ensures.items)) in
    rows_after c.args.list.now c.args.floor plan c.in_ok-settling.ensures.marks c.from_vec.result (all ∙ made)

pub returns-clause-packed : goal.returns-clause-packed
returns-clause-packed c =
    let plan = c.in_ok-settling.settling.marks.items in
    let made = c.put_each.ensures ∙ ap (with_marks plan) (c.deref_mut.ensures.value ∙ c.take-groups.ensures.items) in
    let all = c.from_vec.ensures.items ∙ whole_items c.take-groups.result.len c.put_each.new.groups c.take-groups.result.items c.take-groups.result.ok.0 (ap length made ∙ length_with plan c.args.list.now.groups.items ∙ ap length (sym c.take-groups.ensures.items)) in
    ap packed_in (all ∙ made) ∙ packed_settled plan c.args.list.now.groups.items
