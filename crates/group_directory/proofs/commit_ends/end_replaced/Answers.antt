use Rattle.std.proofs.Common.{◌≡◌, ℕ, List, length, not, sym, ap, subst, ◌∙◌, arith, Option, map}
use Rattle.std.proofs.lemmas.List.{length-map}
use Rattle.std.proofs.lemmas.List.Kept.{AllPairs-filter}
use Rattle.cs_types.specs.declared.Key.{Key}
use Rattle.cs_types.specs.Keys.{key_cmp}
use Rattle.std.specs.declared.cmp.Ordering.TheVariants.{Less}
use Rattle.delete_buffer.specs.Entries.{Ascend}
use Rattle.group_book.specs.Commits.{has_live, ended_by}
use Rattle.group_view.specs.Books.{versions_of, rowed_in_content, content_of}
use Rattle.group_view.specs.declared.groups.Group.{Group}
use Rattle.group_view.specs.Lists.{IsOpenAt}
use Rattle.group_directory.specs.Committing.{not_live, places_in, IsRoomy}
use Rattle.group_directory.proofs.IdLemmas.{places_ended}
use Rattle.group_directory.proofs.ChangeLemmas.{book_ended, book_ended_none, held_open, same_origins, same_packed, open_kind_is, same_room, all_here, few_others}
use Rattle.group_directory.proofs.commit_ends.end_replaced.Goals as goal

pub add_all-requires-clause-room : goal.add_all-requires-clause-room
add_all-requires-clause-room c =
    let keys : c.deref.result.now ≡ not_live (versions_of (rowed_in_content c.at_mut-group.result.now.content)) c.args.replaced.now = c.deref.ensures.value ∙ c.end_in_open.ensures.others in
    omega (arith, ap (λ (ks : List Key). length ks) keys, few_others (versions_of (rowed_in_content c.at_mut-group.result.now.content)) c.args.replaced.now, c.requires.buffer)

pub add_all-requires-clause-ascending : goal.add_all-requires-clause-ascending
add_all-requires-clause-ascending c =
    let keys : c.deref.result.now ≡ not_live (versions_of (rowed_in_content c.at_mut-group.result.now.content)) c.args.replaced.now = c.deref.ensures.value ∙ c.end_in_open.ensures.others in
    subst (λ (ks : List Key). Ascend ks) (sym keys)
    (AllPairs-filter (λ a b. key_cmp a b ≡ Less) (λ key. not (has_live key (versions_of (rowed_in_content c.at_mut-group.result.now.content)))) c.args.replaced.now c.requires.ascending)

pub returns-in-Some-clause-book : goal.returns-in-Some-clause-book
returns-in-Some-clause-book c =
    book_ended c.args.list.now c.in-Some.at c.at_mut-group.result.now c.end_in_open.new.content c.args.list.now.opened c.add_all.new.self c.requires.held c.in-Some.is c.at_mut-group.ensures.value
    c.args.replaced.now c.deref.result.now c.args.c c.end_in_open.ensures.content
    c.parts-parts.ensures.order c.add_all.ensures.order (subst (λ (ks : List Key). Ascend ks) (sym (c.deref.ensures.value ∙ c.end_in_open.ensures.others))
    (AllPairs-filter (λ a b. key_cmp a b ≡ Less) (λ key. not (has_live key (versions_of (rowed_in_content c.at_mut-group.result.now.content)))) c.args.replaced.now c.requires.ascending)) c.requires.later c.add_all.ensures.entries (c.deref.ensures.value ∙ c.end_in_open.ensures.others)

pub returns-in-Some-clause-held : goal.returns-in-Some-clause-held
returns-in-Some-clause-held c =
    held_open c.args.list.now c.in-Some.at c.at_mut-group.result.now c.end_in_open.new.content c.args.list.now.opened c.add_all.new.self c.requires.held c.in-Some.is c.at_mut-group.ensures.value c.end_in_open.ensures.state c.in-Some.is

pub returns-in-Some-clause-origins : goal.returns-in-Some-clause-origins
returns-in-Some-clause-origins c =
    same_origins c.args.list.now c.in-Some.at c.at_mut-group.result.now c.end_in_open.new.content c.args.list.now.opened c.add_all.new.self c.requires.held c.in-Some.is c.at_mut-group.ensures.value c.end_in_open.ensures.origins

pub returns-in-Some-clause-room : goal.returns-in-Some-clause-room
returns-in-Some-clause-room c = λ group_rows rows loads pool room.
    let roomy = all_here c.args.list.now c.in-Some.at c.at_mut-group.result.now c.requires.held c.in-Some.is c.at_mut-group.ensures.value (λ (group : Group). IsRoomy group_rows rows group.content) room.opened in
    let places = ap (places_in group_rows) c.end_in_open.ensures.content ∙ places_ended group_rows (map (ended_by c.args.replaced.now c.args.c)) (content_of c.at_mut-group.result.now.content) (λ versions. length-map versions (ended_by c.args.replaced.now c.args.c)) in
    same_room c.args.list.now c.in-Some.at c.at_mut-group.result.now c.end_in_open.new.content c.args.list.now.opened c.add_all.new.self c.requires.held c.in-Some.is c.at_mut-group.ensures.value
    group_rows rows loads pool (c.end_in_open.ensures.room group_rows rows roomy) places room

pub returns-clause-book : goal.returns-clause-book
returns-clause-book c =
    book_ended_none c.args.list.now c.add_all-in-None.new.self c.args.replaced.now c.args.c (subst (λ (at : Option ℕ). IsOpenAt c.args.list.now.groups.items at) c.in-None.is c.requires.held.opened)
    c.parts-parts.ensures.order c.add_all-in-None.ensures.order c.requires.ascending c.requires.later c.add_all-in-None.ensures.entries

pub returns-in-Some-clause-packed : goal.returns-in-Some-clause-packed
returns-in-Some-clause-packed c =
    same_packed c.args.list.now c.in-Some.at c.at_mut-group.result.now c.end_in_open.new.content c.args.list.now.opened c.add_all.new.self c.requires.held c.in-Some.is c.at_mut-group.ensures.value
    (open_kind_is c.end_in_open.new.content c.end_in_open.ensures.state)
