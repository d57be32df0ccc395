use Rattle.std.proofs.Common.{◌≡◌, map, sym, ap, refl, subst, ◌∙◌, arith}
use Rattle.std.specs.Prelude.{nat_le, position}
use Rattle.std.specs.List.{All, list_any}
use Rattle.cs_model.specs.declared.work.Actor.{Actor}
use Rattle.delete_buffer.specs.Entries.{AreInOrder}
use Rattle.group_book.specs.Book.{Ending, how_many}
use Rattle.group_book.specs.Turns.{is_fresh, ends, spent_of, installed_with}
use Rattle.group_view.specs.declared.claim.Claim.{Claim}
use Rattle.group_view.specs.declared.groups.Group.{Group}
use Rattle.group_view.specs.Views.{endings_of, buffer_of, rowed_of}
use Rattle.group_view.specs.Books.{book_of, claim_of, group_of, versions_of}
use Rattle.group_view.specs.Lists.{listed}
use Rattle.group_directory.specs.Installing.{buried, held_by, ids_of, new_versions, with_new, HasPlace, IsOldOrNew}
use Rattle.group_directory.proofs.Opened.{opens}
use Rattle.group_directory.proofs.InstallBuffers.{at_held, of_held, ordered_some}
use Rattle.group_directory.proofs.InstallLists.{count_buried, graves_are, installed_book, installed_held, installed_listed}
use Rattle.group_directory.proofs.PackedLaws.{tables_installed}
use Rattle.group_directory.proofs.installs.install_group.Goals as goal

pub put_group-requires : goal.put_group-requires
put_group-requires c =
    let claim = c.in-Some.claim in
    let place = of_held (λ (held : Actor × Claim). HasPlace (book_of c.args.list.now).groups (claim_of held)) (held_by c.args.actor c.args.list.now.claims.items) (c.in-Some.field-0-0, claim) (sym c.take_claim.ensures.claim ∙ c.in-Some.is) c.requires.place in
    ap (how_many (λ (group : Group). is_fresh claim.fresh (group_of group)))
    (graves_are c.take-groups.result c.bury_sources.new.groups c.deref_mut.result.now claim.view.groups claim.view.groups (omega (arith, c.take-groups.result.ok.0)) c.bury_sources.ensures c.deref_mut.ensures.value refl ∙ ap (map (buried (ids_of claim.view.groups))) c.take-groups.ensures.items)
    ∙ count_buried (ids_of claim.view.groups) claim.fresh c.args.list.now.groups.items ∙ place.once

pub remove_all-requires : goal.remove_all-requires
remove_all-requires c =
    let claim = c.in-Some.claim in
    ordered_some (λ (entry : Ending). nat_le entry.end claim.floor) (λ (entry : Ending). list_any (ends (buffer_of claim.view) entry) (versions_of (rowed_of claim.view))) c.args.spent.now claim.view.buffer.value
    (subst AreInOrder c.buffer.ensures c.parts-parts.ensures.order)
    (of_held (λ (held : Actor × Claim). endings_of c.args.spent.now ≡ spent_of (claim_of held)) (held_by c.args.actor c.args.list.now.claims.items) (c.in-Some.field-0-0, claim) (sym c.take_claim.ensures.claim ∙ c.in-Some.is) c.requires.spent)

pub returns-clause-book : goal.returns-clause-book
returns-clause-book c =
    let claim = c.in-Some.claim in
    let held : Actor × Claim = (c.in-Some.field-0-0, claim) in
    let is = sym c.take_claim.ensures.claim ∙ c.in-Some.is in
    let graves = graves_are c.take-groups.result c.bury_sources.new.groups c.deref_mut.result.now claim.view.groups claim.view.groups (omega (arith, c.take-groups.result.ok.0)) c.bury_sources.ensures c.deref_mut.ensures.value refl ∙ ap (map (buried (ids_of claim.view.groups))) c.take-groups.ensures.items in
    let place = of_held (λ (h : Actor × Claim). HasPlace (book_of c.args.list.now).groups (claim_of h)) (held_by c.args.actor c.args.list.now.claims.items) held is c.requires.place in
    let spent = of_held (λ (h : Actor × Claim). endings_of c.args.spent.now ≡ spent_of (claim_of h)) (held_by c.args.actor c.args.list.now.claims.items) held is c.requires.spent in
    at_held (λ (h : Actor × Claim). book_of (record { groups = c.from_vec.result; opened = c.open_place-list.result; buffer = c.remove_all.new.self; claims = c.take_claim.new.claims; next = c.args.list.now.next }) ≡ installed_with (new_versions c.args.group) (claim_of h) (book_of c.args.list.now))
    (held_by c.args.actor c.args.list.now.claims.items) held is
    (installed_book c.args.list.now (record { groups = c.from_vec.result; opened = c.open_place-list.result; buffer = c.remove_all.new.self; claims = c.take_claim.new.claims; next = c.args.list.now.next }) c.args.actor held c.args.group is
    (c.from_vec.ensures.items ∙ c.put_group.ensures ∙ ap (with_new claim.fresh c.args.group) graves) c.take_claim.ensures.others c.requires.filled c.args.spent.now c.remove_all.ensures.entries spent refl place)

pub returns-clause-held : goal.returns-clause-held
returns-clause-held c =
    let claim = c.in-Some.claim in
    let graves = graves_are c.take-groups.result c.bury_sources.new.groups c.deref_mut.result.now claim.view.groups claim.view.groups (omega (arith, c.take-groups.result.ok.0)) c.bury_sources.ensures c.deref_mut.ensures.value refl ∙ ap (map (buried (ids_of claim.view.groups))) c.take-groups.ensures.items in
    installed_held c.args.list.now (record { groups = c.from_vec.result; opened = c.open_place-list.result; buffer = c.remove_all.new.self; claims = c.take_claim.new.claims; next = c.args.list.now.next }) c.args.actor (c.in-Some.field-0-0, claim) c.args.group (sym c.take_claim.ensures.claim ∙ c.in-Some.is)
    (c.from_vec.ensures.items ∙ c.put_group.ensures ∙ ap (with_new claim.fresh c.args.group) graves) c.take_claim.ensures.others c.requires.filled (c.open_place-list.ensures ∙ ap (position opens) (c.deref.ensures.value ∙ sym c.from_vec.ensures.items)) c.requires.held

pub returns-clause-listed : goal.returns-clause-listed
returns-clause-listed c =
    let claim = c.in-Some.claim in
    let held : Actor × Claim = (c.in-Some.field-0-0, claim) in
    let is = sym c.take_claim.ensures.claim ∙ c.in-Some.is in
    let graves = graves_are c.take-groups.result c.bury_sources.new.groups c.deref_mut.result.now claim.view.groups claim.view.groups (omega (arith, c.take-groups.result.ok.0)) c.bury_sources.ensures c.deref_mut.ensures.value refl ∙ ap (map (buried (ids_of claim.view.groups))) c.take-groups.ensures.items in
    at_held (λ (h : Actor × Claim). All (IsOldOrNew (listed c.args.list.now.groups.items) h.1.fresh c.args.group) (listed c.from_vec.result.items)) (held_by c.args.actor c.args.list.now.claims.items) held is
    (installed_listed c.args.list.now (record { groups = c.from_vec.result; opened = c.open_place-list.result; buffer = c.remove_all.new.self; claims = c.take_claim.new.claims; next = c.args.list.now.next }) c.args.actor held c.args.group is
    (c.from_vec.ensures.items ∙ c.put_group.ensures ∙ ap (with_new claim.fresh c.args.group) graves) c.take_claim.ensures.others c.requires.filled)

pub returns-clause-packed : goal.returns-clause-packed
returns-clause-packed c = λ schema was made.
    let claim = c.in-Some.claim in
    let graves = graves_are c.take-groups.result c.bury_sources.new.groups c.deref_mut.result.now claim.view.groups claim.view.groups (omega (arith, c.take-groups.result.ok.0)) c.bury_sources.ensures c.deref_mut.ensures.value refl ∙ ap (map (buried (ids_of claim.view.groups))) c.take-groups.ensures.items in
    tables_installed schema (ids_of claim.view.groups) claim.fresh c.args.group c.args.list.now.groups.items c.from_vec.result.items (c.from_vec.ensures.items ∙ c.put_group.ensures ∙ ap (with_new claim.fresh c.args.group) graves) was made
