use Rattle.std.proofs.Common.{◌≡◌, ℕ, [], ap, subst, ◌∙◌, Option, Some}
use Rattle.std.proofs.Common.{Vec}
use Rattle.std.specs.declared.alloc.Global.{Global}
use Rattle.cs_model.specs.declared.work.Actor.{Actor}
use Rattle.group_view.specs.declared.claim.Claim.{Claim}
use Rattle.delete_buffer.specs.Entries.{Room}
use Rattle.delta_store.specs.Versions.{Store}
use Rattle.group_view.specs.Lists.{IsOpenAt}
use Rattle.group_view.specs.Books.{book_of}
use Rattle.group_directory.proofs.OpenLemmas.{stored-open}
use Rattle.group_directory.proofs.PutLemmas.{opens_there, last_of, held_new, put_new, live_none, no_origin, packed_new, room_new}
use Rattle.group_directory.proofs.ChangeLemmas.{split_at}
use Rattle.group_directory.proofs.commit_rest.open_place.Goals as goal

pub returns-in-Some-clause-book : goal.returns-in-Some-clause-book
returns-in-Some-clause-book c = λ group_rows version.
    stored-open group_rows version (book_of c.args.list.now) (opens_there c.args.list.now.groups.items c.in-Some.at (split_at c.args.list.now c.in-Some.at c.requires.held c.in-Some.is))

pub returns-in-Some-pop-clause-held : goal.returns-in-Some-pop-clause-held
returns-in-Some-pop-clause-held c =
    let shut = subst (λ (at : Option ℕ). IsOpenAt c.args.list.now.groups.items at) c.in-None.is c.requires.held.opened in
    let place = c.open_store.ensures.opened ∙ ap (λ (at : ℕ). Some at) c.open_store.ensures.place in
    held_new c.args.list.now c.open_store.new.list c.in-Some-pop.store c.requires.held shut c.open_store.ensures.groups place c.open_store.ensures.claims

pub returns-in-Some-pop-clause-book : goal.returns-in-Some-pop-clause-book
returns-in-Some-pop-clause-book c = λ group_rows version.
    let shut = subst (λ (at : Option ℕ). IsOpenAt c.args.list.now.groups.items at) c.in-None.is c.requires.held.opened in
    let empty = last_of (λ (store : Store). store.versions ≡ []) c.args.pool.now.items c.pop.new.self.items c.in-Some-pop.store c.in-Some-pop.ensures.items c.requires.empty in
    put_new c.args.list.now c.open_store.new.list c.in-Some-pop.store shut empty c.open_store.ensures.groups group_rows version c.open_store.ensures.next (ap (λ (b : Room). b.entries) c.open_store.ensures.buffer) (ap (λ (v : Vec (Actor × Claim) Global). v.items) c.open_store.ensures.claims)

pub returns-in-Some-pop-clause-live : goal.returns-in-Some-pop-clause-live
returns-in-Some-pop-clause-live c = λ key.
    let shut = subst (λ (at : Option ℕ). IsOpenAt c.args.list.now.groups.items at) c.in-None.is c.requires.held.opened in
    let empty = last_of (λ (store : Store). store.versions ≡ []) c.args.pool.now.items c.pop.new.self.items c.in-Some-pop.store c.in-Some-pop.ensures.items c.requires.empty in
    live_none c.args.list.now c.open_store.new.list c.in-Some-pop.store shut empty c.open_store.ensures.groups key

pub returns-in-Some-pop-clause-origins : goal.returns-in-Some-pop-clause-origins
returns-in-Some-pop-clause-origins c =
    let shut = subst (λ (at : Option ℕ). IsOpenAt c.args.list.now.groups.items at) c.in-None.is c.requires.held.opened in
    let empty = last_of (λ (store : Store). store.versions ≡ []) c.args.pool.now.items c.pop.new.self.items c.in-Some-pop.store c.in-Some-pop.ensures.items c.requires.empty in
    no_origin c.args.list.now c.open_store.new.list c.in-Some-pop.store shut empty c.open_store.ensures.groups

pub returns-in-Some-pop-clause-room : goal.returns-in-Some-pop-clause-room
returns-in-Some-pop-clause-room c = λ group_rows rows some room.
    let shut = subst (λ (at : Option ℕ). IsOpenAt c.args.list.now.groups.items at) c.in-None.is c.requires.held.opened in
    let empty = last_of (λ (store : Store). store.versions ≡ []) c.args.pool.now.items c.pop.new.self.items c.in-Some-pop.store c.in-Some-pop.ensures.items c.requires.empty in
    room_new c.args.list.now c.open_store.new.list c.in-Some-pop.store shut empty c.open_store.ensures.groups group_rows rows c.args.pool.now.items c.pop.new.self.items some c.in-Some-pop.ensures.items c.open_store.ensures.len c.open_store.ensures.room c.open_store.ensures.next room

pub returns-in-Some-pop-clause-packed : goal.returns-in-Some-pop-clause-packed
returns-in-Some-pop-clause-packed c =
    let shut = subst (λ (at : Option ℕ). IsOpenAt c.args.list.now.groups.items at) c.in-None.is c.requires.held.opened in
    let empty = last_of (λ (store : Store). store.versions ≡ []) c.args.pool.now.items c.pop.new.self.items c.in-Some-pop.store c.in-Some-pop.ensures.items c.requires.empty in
    packed_new c.args.list.now c.open_store.new.list c.in-Some-pop.store shut empty c.open_store.ensures.groups
