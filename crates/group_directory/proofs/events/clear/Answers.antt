use Rattle.std.proofs.Common.{length, not, refl, sym, ap, ◌∙◌, arith}
use Rattle.std.specs.List.{filter}
use Rattle.std.specs.Prelude.{◌-◌, position}
use Rattle.group_book.specs.Book.{is_tombstone}
use Rattle.group_view.specs.declared.groups.Group.{Group}
use Rattle.group_view.specs.Books.{content_of}
use Rattle.group_view.specs.Lists.{listed, packed_in}
use Rattle.group_directory.proofs.Held.{clear_book, clear_listed, clear_packed, clear_number, held_kept}
use Rattle.group_directory.proofs.Mapped.{how_many-gone}
use Rattle.group_directory.proofs.Opened.{opens}
use Rattle.group_directory.proofs.events.clear.Goals as goal

pub overflow_sub-dropped : goal.overflow_sub-dropped
overflow_sub-dropped c =
    let all = how_many-gone (λ (group : Group). is_tombstone (content_of group.content)) c.args.list.now.groups.items in
    let left = ap length (c.drop_tombstones.ensures ∙ ap (filter (λ (group : Group). not (is_tombstone (content_of group.content)))) c.take-groups.ensures.items) in
    let took = ap length c.take-groups.ensures.items in
    omega (arith, all, left, took, c.len.ensures, c.len-before.ensures, c.drop_tombstones.new.groups.ok.0, c.take-groups.result.ok.0)

pub returns-clause-book : goal.returns-clause-book
returns-clause-book c = clear_book c.args.list.now (record { groups = c.from_vec.result; opened = c.open_place-list.result; buffer = c.args.list.now.buffer; claims = c.args.list.now.claims; next = c.args.list.now.next }) (c.from_vec.ensures.items ∙ c.drop_tombstones.ensures ∙ ap (filter (λ (group : Group). not (is_tombstone (content_of group.content)))) c.take-groups.ensures.items) refl refl refl

pub returns-clause-number : goal.returns-clause-number
returns-clause-number c =
    let all = how_many-gone (λ (group : Group). is_tombstone (content_of group.content)) c.args.list.now.groups.items in
    let left = ap length (c.drop_tombstones.ensures ∙ ap (filter (λ (group : Group). not (is_tombstone (content_of group.content)))) c.take-groups.ensures.items) in
    let took = ap length c.take-groups.ensures.items in
    clear_number c.args.list.now (c.len-before.result - c.len.result) (omega (arith, all, left, took, c.len.ensures, c.len-before.ensures, c.drop_tombstones.new.groups.ok.0, c.take-groups.result.ok.0))

pub returns-clause-held : goal.returns-clause-held
returns-clause-held c = held_kept c.args.list.now (record { groups = c.from_vec.result; opened = c.open_place-list.result; buffer = c.args.list.now.buffer; claims = c.args.list.now.claims; next = c.args.list.now.next }) (λ (group : Group). not (is_tombstone (content_of group.content))) (c.from_vec.ensures.items ∙ c.drop_tombstones.ensures ∙ ap (filter (λ (group : Group). not (is_tombstone (content_of group.content)))) c.take-groups.ensures.items) (c.open_place-list.ensures ∙ ap (position opens) (c.deref.ensures.value ∙ sym c.from_vec.ensures.items)) refl c.requires.held

pub returns-clause-listed : goal.returns-clause-listed
returns-clause-listed c = ap listed (c.from_vec.ensures.items ∙ c.drop_tombstones.ensures ∙ ap (filter (λ (group : Group). not (is_tombstone (content_of group.content)))) c.take-groups.ensures.items) ∙ clear_listed c.args.list.now.groups.items

pub returns-clause-packed : goal.returns-clause-packed
returns-clause-packed c = ap packed_in (c.from_vec.ensures.items ∙ c.drop_tombstones.ensures ∙ ap (filter (λ (group : Group). not (is_tombstone (content_of group.content)))) c.take-groups.ensures.items) ∙ clear_packed c.args.list.now.groups.items
