-- The steps of a commit in a row.
use Rattle.std.proofs.Common.{◌≡◌, ℕ, ◌<◌, ◌≤◌, ◌+◌, ◌^◌, ◌↔◌, Bool, true, false, ◌&&◌, nat_lt, cond, List, [], ◌∷◌, ◌++◌, map, length, Result, Ok, Err, refl, sym, ap, subst, ◌∙◌, arith, IsErrAnd}
use Rattle.std.specs.List.{All, AllByRecursion, AllZip, flat_map}
use Rattle.std.specs.List.Sorted.{IsPermutation}
use Rattle.std.proofs.lemmas.Bool.Decides.{nat_tests}
use Rattle.std.proofs.lemmas.List.{append_assoc, map-append}
use Rattle.std.proofs.lemmas.List.Elements.{All-from_recursion, recursion_from_All}
use Rattle.cs_types.specs.declared.Key.{Key}
use Rattle.cs_types.specs.declared.Value.{Value}
use Rattle.delete_buffer.specs.Entries.{Entry}
use Rattle.row_group.specs.declared.packed.Packed.{Packed}
use Rattle.group_book.specs.Book.{Book, Ending}
use Rattle.group_book.specs.Commits.{Sizes, draws_past, direct_parts, after_ends, after_loads, after_rest, after_commit}
use Rattle.group_book.specs.Invariant.{IsBookOf}
use Rattle.group_book.specs.Orders.{IsReordered}
use Rattle.group_book.proofs.Reordered.{loads_reordered}
use Rattle.cs_model.specs.Changes.{Change}
use Rattle.group_view.specs.declared.claim.Parcel.{Parcel}
use Rattle.group_view.specs.declared.groups.GroupContent.{GroupContent}
use Rattle.group_view.specs.declared.groups.GroupContent.TheVariants.{Opened, Closed, Compressed, Invisible, Tombstone}
use Rattle.group_view.specs.declared.groups.Group.{Group}
use Rattle.group_view.specs.declared.groups.GroupList.{GroupList}
use Rattle.group_view.specs.Parts.{Rowed}
use Rattle.group_view.specs.Views.{endings_of}
use Rattle.group_view.specs.Books.{rowed_in_content, group_of, book_of}
use Rattle.group_view.specs.Lists.{is_listed, listed, IsHeld}
use Rattle.group_directory.specs.declared.committing.CommitRefusal.{CommitRefusal}
use Rattle.group_directory.specs.declared.committing.CommitRefusal.TheVariants as refusal
use Rattle.group_view.specs.Parcels.{keys_in, packed_keys, packed_rows, IsParcelOf}
use Rattle.group_directory.specs.Committing.{Origin, origin_of, origins, new_origin, NewGroup, new_groups, IsNewGroupOf, places, stores_opened, after_parcel}
use Rattle.group_directory.proofs.PutLemmas.{origins-append}
use Rattle.group_directory.proofs.LoadLemmas.{origins_loaded, book_with_loads, grown}
use Rattle.group_directory.proofs.CommitLemmas.{one_open, book_grown}
use Rattle.group_directory.proofs.IdLemmas.{commit_ids}

-- ---- what a list without a change keeps

-- entries of one book are below a number together
later_up : (c : ℕ) (entries : List Entry) → AllByRecursion (λ (entry : Entry). entry.1 < c) entries → AllByRecursion (λ (entry : Ending). entry.end < c) (endings_of entries)
later_up c [] all = tt
later_up c (entry ∷ entries) all = (all.0, later_up c entries all.1)

later_down : (c : ℕ) (entries : List Entry) → AllByRecursion (λ (entry : Ending). entry.end < c) (endings_of entries) → AllByRecursion (λ (entry : Entry). entry.1 < c) entries
later_down c [] all = tt
later_down c (entry ∷ entries) all = (all.0, later_down c entries all.1)

pub later_kept : (c : ℕ) (old new : GroupList) → book_of new ≡ book_of old → All (λ (entry : Entry). entry.1 < c) old.buffer.entries → All (λ (entry : Entry). entry.1 < c) new.buffer.entries
later_kept c old new same all =
    All-from_recursion (λ (entry : Entry). entry.1 < c) new.buffer.entries (later_down c new.buffer.entries
    (subst (λ (entries : List Ending). AllByRecursion (λ (entry : Ending). entry.end < c) entries) (sym (ap (λ (whole : Book). whole.buffer) same))
    (later_up c old.buffer.entries (recursion_from_All (λ (entry : Entry). entry.1 < c) old.buffer.entries all))))

-- the rows are those of the groups that a view shows
origins_in : List (ℕ × List Rowed) → List Origin
origins_in [] = []
origins_in (group ∷ groups) = map origin_of group.1 ++ origins_in groups

listed_first : (id : ℕ) (content : GroupContent) (more : List (ℕ × List Rowed)) → origins_in (cond (is_listed content) ((id, rowed_in_content content) ∷ more) more) ≡ map origin_of (rowed_in_content content) ++ origins_in more
unfolding origins_in
listed_first id (Opened store) more = refl
listed_first id (Closed store) more = refl
listed_first id (Compressed packed marks) more = refl
listed_first id Invisible more = refl
listed_first id (Tombstone total deleted) more = refl

origins_listed : (groups : List Group) → origins_in (listed groups) ≡ origins groups
unfolding origins_in
origins_listed [] = refl
origins_listed (group ∷ groups) = listed_first group.id group.content (listed groups) ∙ ap (λ (more : List Origin). map origin_of (rowed_in_content group.content) ++ more) (origins_listed groups)

pub origins_kept : (old new : List Group) → listed new ≡ listed old → origins new ≡ origins old
origins_kept old new same = sym (origins_listed new) ∙ ap origins_in same ∙ origins_listed old

-- ---- the rows

pub origins_commit : (c : ℕ) (old room ends loads after : List Group) (id : ℕ) (groups : List Packed) (made : List NewGroup) (rest : List (Key × List Value)) → listed room ≡ listed old → origins ends ≡ origins room → loads ≡ ends ++ new_groups id made → AllZip (IsNewGroupOf c) groups made
    → IsPermutation (origins loads ++ map (new_origin c) rest) (origins after) → IsPermutation (origins old ++ map (new_origin c) (packed_rows groups ++ rest)) (origins after)
origins_commit c old room ends loads after id groups made rest same_room same_ends is zip moved =
    subst (λ (xs : List Origin). IsPermutation xs (origins after)) whole moved
  where
    first : origins loads ≡ origins old ++ map (new_origin c) (packed_rows groups)
    first =
        ap origins is ∙ origins-append ends (new_groups id made)
        ∙ ap (λ (xs : List Origin). xs ++ origins (new_groups id made)) (same_ends ∙ origins_kept old room same_room)
        ∙ ap (λ (xs : List Origin). origins old ++ xs) (origins_loaded c id groups made zip)

    whole : origins loads ++ map (new_origin c) rest ≡ origins old ++ map (new_origin c) (packed_rows groups ++ rest)
    whole =
        ap (λ (xs : List Origin). xs ++ map (new_origin c) rest) first
        ∙ append_assoc (origins old) (map (new_origin c) (packed_rows groups)) (map (new_origin c) rest)
        ∙ ap (λ (xs : List Origin). origins old ++ xs) (sym (map-append (new_origin c) (packed_rows groups) rest))

-- ---- the book

pub book_loads : (c : ℕ) (old new : GroupList) (groups : List Packed) (loads : List NewGroup) (count : ℕ) → AllZip (IsNewGroupOf c) groups loads → count ≡ length loads
    → new.groups.items ≡ old.groups.items ++ new_groups old.next loads → new.next ≡ old.next + count → new.buffer.entries ≡ old.buffer.entries → new.claims.items ≡ old.claims.items
    → book_of new ≡ after_loads c (map packed_keys groups) (book_of old)
book_loads c old new groups loads count zip is items next buffer claims =
    book_grown old new loads count items next buffer claims
    ∙ ap (λ (n : ℕ). grown (book_of old) (map group_of old.groups.items ++ map group_of (new_groups old.next loads)) (old.next + n)) is
    ∙ book_with_loads c groups loads (book_of old) zip

-- ---- the ids

lt_more : (a n : ℕ) → nat_lt a (a + n) ≡ nat_lt 0 n
lt_more a n = grind (arith, nat_tests)

pub draws_is : (group_rows c : ℕ) (replaced : List Key) (parcel : Parcel) (list : GroupList) → 1 ≤ group_rows → IsHeld list
    → (nat_lt 0 (length parcel.groups + stores_opened group_rows (places group_rows (map group_of list.groups.items)) (length parcel.rest))
    && nat_lt (2 ^ 62 + 1) (list.next + (length parcel.groups + stores_opened group_rows (places group_rows (map group_of list.groups.items)) (length parcel.rest))))
    ≡ draws_past (book_of list) (after_parcel group_rows c replaced parcel (book_of list))
draws_is group_rows c replaced parcel list some held =
    let n = length parcel.groups + stores_opened group_rows (places group_rows (map group_of list.groups.items)) (length parcel.rest) in
    let ids = commit_ids group_rows c replaced parcel (book_of list) some (one_open list.groups.items list.opened held.opened) in
    ap (λ (t : Bool). t && nat_lt (2 ^ 62 + 1) (list.next + n)) (sym (lt_more list.next n))
    ∙ ap (λ (after : ℕ). nat_lt list.next after && nat_lt (2 ^ 62 + 1) after) (sym ids)

-- ---- the parcel

pub zip_keys : (parts : List (List Key)) (groups : List Packed) → AllZip (λ (part : List Key) (group : Packed). IsPermutation part (packed_keys group)) parts groups → AllZip IsPermutation parts (map packed_keys groups)
zip_keys [] [] all = tt
zip_keys [] (group ∷ groups) all = absurd all
zip_keys (part ∷ parts) [] all = absurd all
zip_keys (part ∷ parts) (group ∷ groups) all = (all.0, zip_keys parts groups all.1)

pub parcel_reordered : (sizes : Sizes) (whole : Book) (changes : List Change) (floor c : ℕ) (replaced inserted : List Key) (parcel : Parcel) → IsBookOf sizes.group_rows whole changes floor → IsParcelOf sizes inserted parcel
    → IsReordered (after_commit sizes c replaced inserted whole) (after_parcel sizes.group_rows c replaced parcel whole)
parcel_reordered sizes whole changes floor c replaced inserted parcel is_book is_parcel =
    subst (λ (keys : List Key). IsReordered (after_commit sizes c replaced inserted whole) (after_rest sizes.group_rows c keys (after_loads c (map packed_keys parcel.groups) (after_ends replaced c whole)))) (sym is_parcel.rest)
    (loads_reordered sizes whole changes floor c replaced inserted (map packed_keys parcel.groups) is_book (zip_keys (direct_parts (length inserted) sizes inserted).0 parcel.groups is_parcel.groups))

pub past_is : (group_rows c : ℕ) (replaced : List Key) (parcel : Parcel) (list : GroupList) → 1 ≤ group_rows → IsHeld list → (loads stores rows : ℕ) (past : Bool)
    → past ≡ (nat_lt 0 (loads + stores) && nat_lt (2 ^ 62 + 1) (list.next + (loads + stores))) → loads ≡ length parcel.groups → rows ≡ length parcel.rest
    → stores ≡ stores_opened group_rows (places group_rows (map group_of list.groups.items)) rows → past ≡ draws_past (book_of list) (after_parcel group_rows c replaced parcel (book_of list))
past_is group_rows c replaced parcel list some held loads stores rows past is loads_are rows_are stores_are =
    is
    ∙ ap (λ (n : ℕ). nat_lt 0 n && nat_lt (2 ^ 62 + 1) (list.next + n)) (count (stores_are ∙ ap (λ (n : ℕ). stores_opened group_rows (places group_rows (map group_of list.groups.items)) n) rows_are))
    ∙ draws_is group_rows c replaced parcel list some held
  where
    count : stores ≡ stores_opened group_rows (places group_rows (map group_of list.groups.items)) (length parcel.rest) → loads + stores ≡ length parcel.groups + stores_opened group_rows (places group_rows (map group_of list.groups.items)) (length parcel.rest)
    count h = omega (arith, h, loads_are)

-- ---- refusals

pub memory_not_full : {X : Type 0} (r : Result X CommitRefusal) → IsErrAnd r (λ e. e ≡ refusal.Memory) → r ≡ Err refusal.Full → ⊥
memory_not_full (Ok x) is h = cc
memory_not_full (Err e) is h = cc

pub ok_not_full : {X : Type 0} (x : X) → (let r : Result X CommitRefusal = Ok x in r) ≡ Err refusal.Full → ⊥
ok_not_full x h = cc

-- what is not so where no id is past the last one
pub neither : (A : Type 0) (draws : Bool) → (A → ⊥) → draws ≡ false → A ↔ (draws ≡ true)
neither A draws never is = (λ a. absurd (never a), λ h. absurd (differ (sym h ∙ is)))
  where
    differ : true ≡ false → ⊥
    differ h = cc

-- ---- the laws of a parcel

nil_parts : (parts : List (List Key)) → AllZip (λ (part : List Key) (group : Packed). IsPermutation part (packed_keys group)) parts [] → parts ≡ []
nil_parts [] all = refl
nil_parts (part ∷ parts) all = absurd all

pub parcel_plain : (sizes : Sizes) (whole : Book) (c : ℕ) (replaced inserted : List Key) (parcel : Parcel) → IsParcelOf sizes inserted parcel → parcel.groups ≡ []
    → after_parcel sizes.group_rows c replaced parcel whole ≡ after_commit sizes c replaced inserted whole
parcel_plain sizes whole c replaced inserted parcel is_parcel none =
    ap (λ (groups : List Packed). after_rest sizes.group_rows c (keys_in parcel.rest) (after_loads c (map packed_keys groups) (after_ends replaced c whole))) none
    ∙ ap (λ (keys : List Key). after_rest sizes.group_rows c keys (after_ends replaced c whole)) is_parcel.rest
    ∙ ap (λ (parts : List (List Key)). after_rest sizes.group_rows c (direct_parts (length inserted) sizes inserted).1 (after_loads c parts (after_ends replaced c whole)))
    (sym (nil_parts (direct_parts (length inserted) sizes inserted).0 (subst (λ (groups : List Packed). AllZip (λ (part : List Key) (group : Packed). IsPermutation part (packed_keys group)) (direct_parts (length inserted) sizes inserted).0 groups) none is_parcel.groups)))

origins_rows : (groups : List (ℕ × List Rowed)) → origins_in groups ≡ map origin_of (flat_map (λ (group : ℕ × List Rowed). group.1) groups)
unfolding origins_in
origins_rows [] = refl
origins_rows (group ∷ groups) = ap (λ (more : List Origin). map origin_of group.1 ++ more) (origins_rows groups) ∙ sym (map-append origin_of group.1 (flat_map (λ (one : ℕ × List Rowed). one.1) groups))

pub origins_of_listed : (groups : List Group) → origins groups ≡ map origin_of (flat_map (λ (group : ℕ × List Rowed). group.1) (listed groups))
origins_of_listed groups = sym (origins_listed groups) ∙ origins_rows (listed groups)
