use Rattle.std.proofs.Common.{◌≡◌, ◌∙◌, ◌++◌, ◌<◌, ◌≤◌, ℕ, false, leb, List, Vec, map, take, length, replicate, sym, ap, subst, arith}
use Rattle.std.specs.List.{filter, flat_map}
use Rattle.std.specs.declared.alloc.Global.{Global}
use Rattle.std.proofs.lemmas.List.{take_all}
use Rattle.std.proofs.lemmas.Result.{IfOk-weaker}
use Rattle.delete_buffer.specs.Entries.{Entry}
use Rattle.group_book.specs.Book.{Version, Ending}
use Rattle.group_view.specs.declared.parts.GroupPart.{GroupPart}
use Rattle.group_view.specs.Parts.{versions_in}
use Rattle.group_view.specs.Views.{endings_of, buffer_of, rowed_of}
use Rattle.group_view.specs.Books.{versions_of}
use Rattle.group_view.specs.Claims.{lent_entries}
use Rattle.group_view.proofs.Noted.{ending_of}
use Rattle.group_view.proofs.Walks.{filter-map}
use Rattle.tuple_mover.specs.Spent.{is_spent, spent_by}
use Rattle.tuple_mover.proofs.SpentLemmas.{none-spent, spent-filter, versions-groups, versions-all}
use Rattle.tuple_mover.proofs.spent.spent.Goals as goal

pub loop-place-init : goal.loop-place-init
loop-place-init c =
    let claim = c.args.claim.now in
    let counted : c.len.result ≡ length c.in_ok-entries.entries.items = grind arith in
    c.in_ok-spent.ensures.items_if_clones_equal (λ y same. same)
    ∙ ap (λ (n : ℕ). replicate n false) counted
    ∙ ap (λ (entries : List Entry). replicate (length entries) false) (c.in_ok-entries.ensures ∙ sym c.parts.ensures.entries ∙ c.deref.ensures)
    ∙ none-spent claim.floor (buffer_of claim.view) claim.view.buffer.value

pub loop-place-preserved : goal.loop-place-preserved
loop-place-preserved c =
    let claim = c.args.claim.now in
    let groups = claim.view.groups in
    let i = c.loop-place.place in
    let there : i < length groups = omega (arith, c.loop-place-test.true, c.len-place-end.ensures) in
    let item : ℕ × GroupPart = c.at-part.result.now in
    let before = flat_map (λ (group : ℕ × GroupPart). versions_in group.1) (take i groups) in
    let step = subst (λ (entries : List Entry). (versions : List Version) → c.loop-place.spent.items ≡ spent_by claim.floor (endings_of entries) versions → c.spend_part.new.spent.items ≡ spent_by claim.floor (endings_of entries) (versions ++ versions_in item.1)) c.deref-in-loop-place.ensures c.spend_part.ensures in
    step before c.loop-place.invariant
    ∙ ap (spent_by claim.floor (buffer_of claim.view)) (ap (λ (group : ℕ × GroupPart). before ++ versions_in group.1) c.at-part.ensures.item ∙ versions-groups groups i item there)

pub returns : goal.returns
returns c =
    let claim = c.args.claim.now in
    let groups = claim.view.groups in
    let buffer = buffer_of claim.view in
    let versions = versions_of (rowed_of claim.view) in
    let all : length groups ≤ c.loop-place.place = omega (arith, c.loop-place-test.false, c.len-place-end.ensures) in
    let entries : c.deref-2.result.now ≡ claim.view.buffer.value = c.deref-2.ensures.value ∙ c.in_ok-entries.ensures ∙ sym c.parts.ensures.entries ∙ c.deref.ensures in
    let marks : c.deref-3.result.now ≡ map (is_spent claim.floor buffer versions) (endings_of c.deref-2.result.now) =
    c.deref-3.ensures.value ∙ c.loop-place.invariant
    ∙ ap (λ (some : List (ℕ × GroupPart)). spent_by claim.floor buffer (flat_map (λ (group : ℕ × GroupPart). versions_in group.1) some)) (take_all c.loop-place.place groups all)
    ∙ ap (spent_by claim.floor buffer) (versions-all groups)
    ∙ ap (λ (some : List Entry). map (is_spent claim.floor buffer versions) (endings_of some)) (sym entries) in
    IfOk-weaker c.marked.result (λ (some : Vec Entry Global). some.items ≡ filter (λ (entry : Entry). is_spent claim.floor buffer versions (ending_of entry)) c.deref-2.result.now)
    (λ (some : Vec Entry Global). endings_of some.items ≡ filter (λ (entry : Ending). leb entry.end claim.floor) (lent_entries claim))
    (λ some is.
    ap endings_of is
    ∙ sym (filter-map (is_spent claim.floor buffer versions) ending_of c.deref-2.result.now)
    ∙ ap (λ (some : List Entry). filter (is_spent claim.floor buffer versions) (endings_of some)) entries
    ∙ spent-filter claim.floor buffer versions buffer)
    (c.marked.ensures (is_spent claim.floor buffer versions) marks)
