use Rattle.std.proofs.Common.{◌≡◌, List, refl, sym, ap, subst, ◌∙◌, arith}
use Rattle.std.specs.List.{list_any}
use Rattle.cs_model.specs.declared.work.Actor.{Actor}
use Rattle.delete_buffer.specs.Entries.{Entry, AreInOrder, without}
use Rattle.group_book.specs.Book.{Ending}
use Rattle.group_book.specs.Turns.{ends, after_flush}
use Rattle.group_view.specs.declared.claim.Claim.{Claim}
use Rattle.group_view.specs.Views.{buffer_of, rowed_of}
use Rattle.group_view.specs.Books.{book_of, claim_of, versions_of}
use Rattle.group_view.specs.Lists.{packed_in}
use Rattle.group_directory.specs.Installing.{held_by, marked_by, MayMark}
use Rattle.group_directory.proofs.InstallBuffers.{at_held, of_held, ordered_lent}
use Rattle.group_directory.proofs.InstallMarks.{marked_book, marked_held, marked_items, marked_rows}
use Rattle.group_directory.proofs.PackedLaws.{packed_flushed}
use Rattle.group_directory.proofs.installs.install_marks.Goals as goal

pub remove_all-requires : goal.remove_all-requires
remove_all-requires c =
    let claim = c.in-Some.claim in
    let may = of_held (λ (held : Actor × Claim). MayMark c.args.list.now held c.args.marks) (held_by c.args.actor c.args.list.now.claims.items) (c.in-Some.field-0-0, claim) (sym c.take_claim.ensures.claim ∙ c.in-Some.is) c.requires.marks in
    subst AreInOrder (sym c.as_slice.ensures)
    (ordered_lent (λ (entry : Ending). list_any (ends (buffer_of claim.view) entry) (versions_of (rowed_of claim.view))) claim.entries claim.view.buffer.value (subst AreInOrder c.buffer.ensures c.parts-parts.ensures.order) may.entries)

pub returns-clause-book : goal.returns-clause-book
returns-clause-book c =
    let claim = c.in-Some.claim in
    let held : Actor × Claim = (c.in-Some.field-0-0, claim) in
    let is = sym c.take_claim.ensures.claim ∙ c.in-Some.is in
    let may = of_held (λ (h : Actor × Claim). MayMark c.args.list.now h c.args.marks) (held_by c.args.actor c.args.list.now.claims.items) held is c.requires.marks in
    at_held (λ (h : Actor × Claim). book_of (record { groups = c.from_vec.result; opened = c.args.list.now.opened; buffer = c.remove_all.new.self; claims = c.take_claim.new.claims; next = c.args.list.now.next }) ≡ after_flush (claim_of h) (book_of c.args.list.now))
    (held_by c.args.actor c.args.list.now.claims.items) held is
    (marked_book c.args.list.now (record { groups = c.from_vec.result; opened = c.args.list.now.opened; buffer = c.remove_all.new.self; claims = c.take_claim.new.claims; next = c.args.list.now.next }) c.args.actor held c.args.marks is may c.requires.held
    (c.from_vec.ensures.items ∙ marked_items c.take-groups.result c.mark_sources.new.groups c.deref_mut.result.now c.into_vec.result.items c.args.marks (omega (arith, c.take-groups.result.ok.0)) c.mark_sources.ensures c.deref_mut.ensures.value c.into_vec.ensures ∙ ap (marked_by c.args.marks) c.take-groups.ensures.items)
    c.take_claim.ensures.others (c.remove_all.ensures.entries ∙ ap (λ (taken : List Entry). without taken c.args.list.now.buffer.entries) c.as_slice.ensures) refl)

pub returns-clause-held : goal.returns-clause-held
returns-clause-held c =
    let claim = c.in-Some.claim in
    let held : Actor × Claim = (c.in-Some.field-0-0, claim) in
    let is = sym c.take_claim.ensures.claim ∙ c.in-Some.is in
    let may = of_held (λ (h : Actor × Claim). MayMark c.args.list.now h c.args.marks) (held_by c.args.actor c.args.list.now.claims.items) held is c.requires.marks in
    marked_held c.args.list.now (record { groups = c.from_vec.result; opened = c.args.list.now.opened; buffer = c.remove_all.new.self; claims = c.take_claim.new.claims; next = c.args.list.now.next }) c.args.actor held c.args.marks is may c.requires.held
    (c.from_vec.ensures.items ∙ marked_items c.take-groups.result c.mark_sources.new.groups c.deref_mut.result.now c.into_vec.result.items c.args.marks (omega (arith, c.take-groups.result.ok.0)) c.mark_sources.ensures c.deref_mut.ensures.value c.into_vec.ensures ∙ ap (marked_by c.args.marks) c.take-groups.ensures.items)
    c.take_claim.ensures.others refl

pub returns-clause-rows : goal.returns-clause-rows
returns-clause-rows c =
    let claim = c.in-Some.claim in
    let held : Actor × Claim = (c.in-Some.field-0-0, claim) in
    let is = sym c.take_claim.ensures.claim ∙ c.in-Some.is in
    let may = of_held (λ (h : Actor × Claim). MayMark c.args.list.now h c.args.marks) (held_by c.args.actor c.args.list.now.claims.items) held is c.requires.marks in
    marked_rows c.args.list.now (record { groups = c.from_vec.result; opened = c.args.list.now.opened; buffer = c.remove_all.new.self; claims = c.take_claim.new.claims; next = c.args.list.now.next }) c.args.actor held c.args.marks is may c.requires.held
    (c.from_vec.ensures.items ∙ marked_items c.take-groups.result c.mark_sources.new.groups c.deref_mut.result.now c.into_vec.result.items c.args.marks (omega (arith, c.take-groups.result.ok.0)) c.mark_sources.ensures c.deref_mut.ensures.value c.into_vec.ensures ∙ ap (marked_by c.args.marks) c.take-groups.ensures.items)
    c.take_claim.ensures.others

pub returns-clause-packed : goal.returns-clause-packed
returns-clause-packed c =
    ap packed_in (c.from_vec.ensures.items ∙ marked_items c.take-groups.result c.mark_sources.new.groups c.deref_mut.result.now c.into_vec.result.items c.args.marks (omega (arith, c.take-groups.result.ok.0)) c.mark_sources.ensures c.deref_mut.ensures.value c.into_vec.ensures ∙ ap (marked_by c.args.marks) c.take-groups.ensures.items)
    ∙ packed_flushed c.args.marks c.args.list.now.groups.items
