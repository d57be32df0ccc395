use Rattle.std.proofs.Common.{ℕ, List, Vec, map, refl, sym, ap, subst, ◌∙◌, arith, vec_len, slice_index_or}
use Rattle.std.specs.declared.alloc.Global.{Global}
use Rattle.std.proofs.lemmas.List.Elements.{All-from_recursion}
use Rattle.cs_model.specs.declared.work.Actor.{Actor}
use Rattle.delete_buffer.specs.Entries.{Room}
use Rattle.group_book.specs.Book.{Book, opened}
use Rattle.group_book.specs.Commits.{has_live, after_ends, after_loads, after_rest}
use Rattle.group_view.specs.declared.claim.Claim.{Claim}
use Rattle.group_view.specs.declared.groups.Group.{Group}
use Rattle.group_view.specs.Books.{group_of}
use Rattle.group_view.specs.Parcels.{keys_in, packed_keys}
use Rattle.group_directory.specs.Committing.{IsUnmarked, HasRoom}
use Rattle.group_directory.proofs.LoadLemmas.{unmarked_loaded}
use Rattle.group_directory.proofs.CommitLemmas.{dead_commit, room_loaded}
use Rattle.group_directory.proofs.WholeLemmas.{later_kept, origins_commit, book_loads, past_is, neither, memory_not_full, ok_not_full}
use Rattle.group_directory.proofs.PackedLaws.{packed_commit}
use Rattle.group_directory.proofs.committing.commit.Goals as goal

pub returns-then-is_past-clause-full : goal.returns-then-is_past-clause-full
returns-then-is_past-clause-full c =
    let past = past_is c.args.group_rows c.args.c c.args.replaced.now c.args.parcel c.args.list.now c.requires.rows c.requires.held c.len-2.result c.stores_needed-stores.result c.len.result c.is_past.result c.is_past.ensures c.len-2.ensures c.len.ensures c.stores_needed-stores.ensures in
    (λ full. sym past ∙ c.if-is_past.true, λ draws. refl)

pub returns-in_err-loads-clause-full : goal.returns-in_err-loads-clause-full
returns-in_err-loads-clause-full c =
    let past = past_is c.args.group_rows c.args.c c.args.replaced.now c.args.parcel c.args.list.now c.requires.rows c.requires.held c.len-2.result c.stores_needed-stores.result c.len.result c.is_past.result c.is_past.ensures c.len-2.ensures c.len.ensures c.stores_needed-stores.ensures in
    neither _ _ (memory_not_full c.from_residual.result c.from_residual.ensures.1) (sym past ∙ c.if-is_past.false)

pub returns-in_err-room-clause-full : goal.returns-in_err-room-clause-full
returns-in_err-room-clause-full c =
    let past = past_is c.args.group_rows c.args.c c.args.replaced.now c.args.parcel c.args.list.now c.requires.rows c.requires.held c.len-2.result c.stores_needed-stores.result c.len.result c.is_past.result c.is_past.ensures c.len-2.ensures c.len.ensures c.stores_needed-stores.ensures in
    neither _ _ (memory_not_full c.from_residual-in_err-room.result c.from_residual-in_err-room.ensures.1) (sym past ∙ c.if-is_past.false)

pub end_replaced-requires-clause-later : goal.end_replaced-requires-clause-later
end_replaced-requires-clause-later c = later_kept c.args.c c.args.list.now c.take_room.new.list c.in_ok-room.ensures.book c.requires.later

pub load_groups-requires-clause-unmarked : goal.load_groups-requires-clause-unmarked
load_groups-requires-clause-unmarked c = All-from_recursion IsUnmarked c.in_ok-loads.loads.items (unmarked_loaded c.args.c c.args.parcel.groups c.in_ok-loads.loads.items c.in_ok-loads.ensures)

pub load_groups-requires-clause-room : goal.load_groups-requires-clause-room
load_groups-requires-clause-room c =
    let room = c.end_replaced.ensures.room c.args.group_rows c.len-3.result c.len-4.result c.in_ok-room.room.pool.items c.in_ok-room.ensures.room in
    omega (arith, room.groups, c.len-4.ensures)

pub store_rest-requires-clause-dead : goal.store_rest-requires-clause-dead
store_rest-requires-clause-dead c = λ k d below.
    let key = slice_index_or (keys_in c.args.parcel.rest) k d in
    let ends = c.end_replaced.ensures.book ∙ ap (λ (whole : Book). after_ends c.args.replaced.now c.args.c whole) c.in_ok-room.ensures.book in
    ap (λ (groups : List Group). has_live key (opened (map group_of groups))) c.load_groups.ensures.groups
    ∙ dead_commit c.args.replaced.now c.args.c key c.args.list.now c.end_replaced.new.list c.in_ok-loads.loads.items ends (c.requires.live k d below)

pub store_rest-requires-clause-room : goal.store_rest-requires-clause-room
store_rest-requires-clause-room c =
    let room = c.end_replaced.ensures.room c.args.group_rows c.len-3.result c.len-4.result c.in_ok-room.room.pool.items c.in_ok-room.ensures.room in
    subst (λ (rows : ℕ). HasRoom c.args.group_rows rows 0 c.load_groups.new.list c.in_ok-room.room.pool.items) c.len-3.ensures
    (room_loaded c.args.group_rows c.len-3.result c.len-4.result c.end_replaced.new.list c.load_groups.new.list c.in_ok-room.room.pool.items c.in_ok-loads.loads.items c.load_groups.ensures.groups
    (omega (arith, c.load_groups.ensures.len, c.len-4.ensures)) c.load_groups.ensures.room (omega (arith, c.load_groups.ensures.next, c.len-4.ensures)) room)

pub returns-clause-book : goal.returns-clause-book
returns-clause-book c =
    let ends = c.end_replaced.ensures.book ∙ ap (λ (whole : Book). after_ends c.args.replaced.now c.args.c whole) c.in_ok-room.ensures.book in
    let loads = book_loads c.args.c c.end_replaced.new.list c.load_groups.new.list c.args.parcel.groups c.in_ok-loads.loads.items (vec_len c.in_ok-loads.loads) c.in_ok-loads.ensures c.in_ok-loads.loads.ok.0
    c.load_groups.ensures.groups c.load_groups.ensures.next (ap (λ (buffer : Room). buffer.entries) c.load_groups.ensures.buffer) (ap (λ (claims : Vec (Actor × Claim) Global). claims.items) c.load_groups.ensures.claims) in
    c.store_rest.ensures.book
    ∙ ap (λ (whole : Book). after_rest c.args.group_rows c.args.c (keys_in c.args.parcel.rest) whole)
    (loads ∙ ap (λ (whole : Book). after_loads c.args.c (map packed_keys c.args.parcel.groups) whole) ends)

pub returns-clause-origins : goal.returns-clause-origins
returns-clause-origins c =
    origins_commit c.args.c c.args.list.now.groups.items c.take_room.new.list.groups.items c.end_replaced.new.list.groups.items c.load_groups.new.list.groups.items c.store_rest.new.list.groups.items c.end_replaced.new.list.next
    c.args.parcel.groups c.in_ok-loads.loads.items c.args.parcel.rest c.in_ok-room.ensures.listed c.end_replaced.ensures.origins c.load_groups.ensures.groups c.in_ok-loads.ensures c.store_rest.ensures.origins

pub returns-clause-full : goal.returns-clause-full
returns-clause-full c =
    let past = past_is c.args.group_rows c.args.c c.args.replaced.now c.args.parcel c.args.list.now c.requires.rows c.requires.held c.len-2.result c.stores_needed-stores.result c.len.result c.is_past.result c.is_past.ensures c.len-2.ensures c.len.ensures c.stores_needed-stores.ensures in
    neither _ _ (ok_not_full tt) (sym past ∙ c.if-is_past.false)

pub returns-clause-packed : goal.returns-clause-packed
returns-clause-packed c =
    packed_commit c.args.c c.args.list.now.groups.items c.take_room.new.list.groups.items c.end_replaced.new.list.groups.items c.load_groups.new.list.groups.items c.store_rest.new.list.groups.items c.end_replaced.new.list.next
    c.args.parcel.groups c.in_ok-loads.loads.items c.in_ok-room.ensures.packed c.end_replaced.ensures.packed c.load_groups.ensures.groups c.in_ok-loads.ensures c.store_rest.ensures.packed
