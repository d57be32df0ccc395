use Rattle.std.proofs.Common.{not, refl, sym, ap, ◌∙◌}
use Rattle.std.specs.Prelude.{position, Option}
use Rattle.std.specs.List.{filter}
use Rattle.cs_model.specs.declared.work.Actor.{Actor}
use Rattle.group_book.specs.Book.{Claim as BookClaim}
use Rattle.group_book.specs.Turns.{is_fresh, released, same_actor}
use Rattle.group_view.specs.declared.claim.Claim.{Claim}
use Rattle.group_view.specs.declared.groups.Group.{Group}
use Rattle.group_view.specs.Books.{book_of, group_of}
use Rattle.group_directory.proofs.Books.{holds_it, no_claim}
use Rattle.group_directory.proofs.Held.{held_gone, release_book, release_listed, release_packed}
use Rattle.group_directory.proofs.Mapped.{filter-stays}
use Rattle.group_directory.proofs.Opened.{opens, none_found}
use Rattle.group_directory.proofs.events.release.Goals as goal

pub returns-in_default-clause-book : goal.returns-in_default-clause-book
returns-in_default-clause-book c =
    ap (λ (claim : Option BookClaim). released claim (book_of c.args.list.now)) (sym (no_claim c.args.actor c.args.list.now.claims.items (sym (c.claim_place.ensures ∙ ap (position (holds_it c.args.actor)) c.deref.ensures.value) ∙ c.in_default.is)))

pub returns-in_default-clause-claims : goal.returns-in_default-clause-claims
returns-in_default-clause-claims c =
    let none = sym (c.claim_place.ensures ∙ ap (position (holds_it c.args.actor)) c.deref.ensures.value) ∙ c.in_default.is in
    sym (filter-stays (holds_it c.args.actor) c.args.list.now.claims.items (λ k d inside. none_found (holds_it c.args.actor) c.args.list.now.claims.items none k d inside))

pub returns-clause-book : goal.returns-clause-book
returns-clause-book c =
    release_book c.args.list.now (record { groups = c.from_vec.result; opened = c.open_place-list.result; buffer = c.args.list.now.buffer; claims = c.drop_claims.new.claims; next = c.args.list.now.next }) c.args.actor c.in-Some.place c.index.result.now (sym (c.claim_place.ensures ∙ ap (position (holds_it c.args.actor)) c.deref.ensures.value) ∙ c.in-Some.is) c.index.ensures (c.from_vec.ensures.items ∙ c.drop_fresh.ensures ∙ ap (filter (λ (group : Group). not (is_fresh c.index.result.now.1.fresh (group_of group)))) c.take-groups.ensures.items) c.drop_claims.ensures refl refl

pub returns-clause-held : goal.returns-clause-held
returns-clause-held c =
    held_gone c.args.list.now (record { groups = c.from_vec.result; opened = c.open_place-list.result; buffer = c.args.list.now.buffer; claims = c.drop_claims.new.claims; next = c.args.list.now.next }) (λ (group : Group). not (is_fresh c.index.result.now.1.fresh (group_of group))) (λ (held : Actor × Claim). not (same_actor held.0 c.args.actor))
    (c.from_vec.ensures.items ∙ c.drop_fresh.ensures ∙ ap (filter (λ (group : Group). not (is_fresh c.index.result.now.1.fresh (group_of group)))) c.take-groups.ensures.items) (c.open_place-list.ensures ∙ ap (position opens) (c.deref-2.ensures.value ∙ sym c.from_vec.ensures.items)) c.drop_claims.ensures c.requires.held

pub returns-clause-listed : goal.returns-clause-listed
returns-clause-listed c =
    release_listed c.args.list.now (record { groups = c.from_vec.result; opened = c.open_place-list.result; buffer = c.args.list.now.buffer; claims = c.drop_claims.new.claims; next = c.args.list.now.next }) c.args.actor c.in-Some.place c.index.result.now (sym (c.claim_place.ensures ∙ ap (position (holds_it c.args.actor)) c.deref.ensures.value) ∙ c.in-Some.is) c.index.ensures (c.from_vec.ensures.items ∙ c.drop_fresh.ensures ∙ ap (filter (λ (group : Group). not (is_fresh c.index.result.now.1.fresh (group_of group)))) c.take-groups.ensures.items) c.requires.hidden

pub returns-clause-packed : goal.returns-clause-packed
returns-clause-packed c =
    release_packed c.args.list.now (record { groups = c.from_vec.result; opened = c.open_place-list.result; buffer = c.args.list.now.buffer; claims = c.drop_claims.new.claims; next = c.args.list.now.next }) c.args.actor c.in-Some.place c.index.result.now (sym (c.claim_place.ensures ∙ ap (position (holds_it c.args.actor)) c.deref.ensures.value) ∙ c.in-Some.is) c.index.ensures (c.from_vec.ensures.items ∙ c.drop_fresh.ensures ∙ ap (filter (λ (group : Group). not (is_fresh c.index.result.now.1.fresh (group_of group)))) c.take-groups.ensures.items) c.requires.hidden
