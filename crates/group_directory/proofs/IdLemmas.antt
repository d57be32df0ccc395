-- The ids that a commit draws: one a direct group, and one a store that is opened.
use Rattle.std.proofs.Common.{◌≡◌, ℕ, zero, suc, ◌<◌, ◌≤◌, ◌+◌, ◌-◌, max, Bool, true, false, ◌||◌, cond, List, [], ◌∷◌, ◌++◌, map, length, nat_lt, refl, sym, ap, ◌∙◌, arith}
use Rattle.std.specs.List.{list_any}
use Rattle.std.proofs.lemmas.Bool.Decides.{nat_tests}
use Rattle.std.proofs.lemmas.List.{length-append, length-map}
use Rattle.cs_types.specs.declared.Key.{Key}
use Rattle.cs_types.specs.declared.Value.{Value}
use Rattle.group_book.specs.Book.{Version, Content, Group, Book, how_many, is_opened}
use Rattle.group_book.specs.Book.Content.{Opened, Closed, Compressed, Invisible, Tombstone}
use Rattle.group_book.specs.Commits.{new_version, ended_by, with_opened, with_group, with_version, store_of, stored, after_ends, after_loads, after_rest}
use Rattle.group_book.proofs.Lists.{how_many-append}
use Rattle.group_view.specs.declared.claim.Parcel.{Parcel}
use Rattle.group_view.specs.Parcels.{keys_in, packed_keys}
use Rattle.group_directory.specs.Committing.{places_in, places, stores_opened, after_parcel}

abbrev pub opens_in : Group → Bool
opens_in group = is_opened group.content

abbrev put : ℕ → Version → Group → Group
put group_rows version group = record group { content = with_version group_rows version group.content }

-- ---- a version more

places_store : (group_rows : ℕ) (version : Version) (versions : List Version) → places_in group_rows (store_of group_rows (versions ++ version ∷ [])) + 1 ≡ max 1 (group_rows - length versions)
places_store group_rows version versions = step (nat_lt (length (versions ++ version ∷ [])) group_rows) refl
  where
    long : length (versions ++ version ∷ []) ≡ length versions + 1
    long = length-append versions (version ∷ [])

    step : (t : Bool) → nat_lt (length (versions ++ version ∷ [])) group_rows ≡ t → places_in group_rows (cond t (Opened (versions ++ version ∷ [])) (Closed (versions ++ version ∷ []))) + 1 ≡ max 1 (group_rows - length versions)
    step true is = let less : length (versions ++ version ∷ []) < group_rows = grind (arith, nat_tests, is) in omega (arith, long, less)
    step false is = let most : group_rows ≤ length (versions ++ version ∷ []) = grind (arith, nat_tests, is) in omega (arith, long, most)

opens_store : (group_rows : ℕ) (versions : List Version) → cond (is_opened (store_of group_rows versions)) 1 0 ≤ 1
opens_store group_rows versions = step (nat_lt (length versions) group_rows)
  where
    step : (t : Bool) → cond (is_opened (cond t (Opened versions) (Closed versions))) 1 0 ≤ 1
    step true = omega arith
    step false = omega arith

abbrev placed : ℕ → Content → Group
placed id content = record { id = id; content = content }

not_counted : (t : Bool) (n : ℕ) → cond t 1 0 + n ≡ 0 → t ≡ false
not_counted true n none = absurd (omega (arith, none))
not_counted false n none = refl

put_none_at : (group_rows id : ℕ) (version : Version) (content : Content) → is_opened content ≡ false → put group_rows version (placed id content) ≡ placed id content
put_none_at group_rows id version (Opened versions) none = cc
put_none_at group_rows id version (Closed versions) none = refl
put_none_at group_rows id version (Compressed versions) none = refl
put_none_at group_rows id version Invisible none = refl
put_none_at group_rows id version (Tombstone versions ends) none = refl

put_none : (group_rows : ℕ) (version : Version) (groups : List Group) → how_many opens_in groups ≡ 0 → map (put group_rows version) groups ≡ groups
put_none group_rows version [] none = refl
put_none group_rows version (group ∷ groups) none =
    ap (λ (first : Group). first ∷ map (put group_rows version) groups) (put_none_at group_rows group.id version group.content (not_counted (is_opened group.content) (how_many opens_in groups) none))
    ∙ ap (λ (more : List Group). group ∷ more) (put_none group_rows version groups (omega (arith, none)))

places_none_at : (group_rows : ℕ) (content : Content) → is_opened content ≡ false → places_in group_rows content ≡ 0
places_none_at group_rows (Opened versions) none = cc
places_none_at group_rows (Closed versions) none = refl
places_none_at group_rows (Compressed versions) none = refl
places_none_at group_rows Invisible none = refl
places_none_at group_rows (Tombstone versions ends) none = refl

places_none : (group_rows : ℕ) (groups : List Group) → how_many opens_in groups ≡ 0 → places group_rows groups ≡ 0
places_none group_rows [] none = refl
places_none group_rows (group ∷ groups) none =
    omega (arith, places_none_at group_rows group.content (not_counted (is_opened group.content) (how_many opens_in groups) none), places_none group_rows groups (omega (arith, none)))

none_open_step : (t l : Bool) (n : ℕ) → (t || l) ≡ false → (l ≡ false → n ≡ 0) → cond t 1 0 + n ≡ 0
none_open_step true l n h rest = absurd (differ h)
  where
    differ : true ≡ false → ⊥
    differ h = cc
none_open_step false l n h rest = omega (arith, rest h)

none_open : (groups : List Group) → list_any opens_in groups ≡ false → how_many opens_in groups ≡ 0
none_open [] h = refl
none_open (group ∷ groups) h = none_open_step (is_opened group.content) (list_any opens_in groups) (how_many opens_in groups) h (none_open groups)

-- one place less is left where one store is open
record IsPut (group_rows : ℕ) (before after : List Group) : Type 0 where
  fewer : places group_rows after + 1 ≡ places group_rows before
  once : how_many opens_in after ≤ 1

put_first : (group_rows id : ℕ) (version : Version) (content : Content) (groups : List Group) → cond (is_opened content) 1 0 + how_many opens_in groups ≤ 1 → (is_opened content || list_any opens_in groups) ≡ true
    → (how_many opens_in groups ≤ 1 → list_any opens_in groups ≡ true → IsPut group_rows groups (map (put group_rows version) groups))
    → IsPut group_rows (placed id content ∷ groups) (map (put group_rows version) (placed id content ∷ groups))
put_first group_rows id version (Opened versions) groups once some_open rest =
    let none : how_many opens_in groups ≡ 0 = omega (arith, once) in
    rw (put_none group_rows version groups none) (record {
      fewer = omega (arith, places_store group_rows version versions, places_none group_rows groups none);
      once = omega (arith, opens_store group_rows (versions ++ version ∷ []), none);
    })
put_first group_rows id version (Closed versions) groups once some_open rest = let more = rest (omega (arith, once)) some_open in record { fewer = omega (arith, more.fewer); once = omega (arith, more.once) }
put_first group_rows id version (Compressed versions) groups once some_open rest = let more = rest (omega (arith, once)) some_open in record { fewer = omega (arith, more.fewer); once = omega (arith, more.once) }
put_first group_rows id version Invisible groups once some_open rest = let more = rest (omega (arith, once)) some_open in record { fewer = omega (arith, more.fewer); once = omega (arith, more.once) }
put_first group_rows id version (Tombstone versions ends) groups once some_open rest = let more = rest (omega (arith, once)) some_open in record { fewer = omega (arith, more.fewer); once = omega (arith, more.once) }

put_places : (group_rows : ℕ) (version : Version) (groups : List Group) → how_many opens_in groups ≤ 1 → list_any opens_in groups ≡ true → IsPut group_rows groups (map (put group_rows version) groups)
put_places group_rows version [] once some_open = absurd (differ some_open)
  where
    differ : false ≡ true → ⊥
    differ h = cc
put_places group_rows version (group ∷ groups) once some_open = put_first group_rows group.id version group.content groups once some_open (put_places group_rows version groups)

-- ---- all rows

pub places-append : (group_rows : ℕ) (xs ys : List Group) → places group_rows (xs ++ ys) ≡ places group_rows xs + places group_rows ys
places-append group_rows [] ys = omega arith
places-append group_rows (x ∷ xs) ys = omega (arith, places-append group_rows xs ys)

-- the next id, the places that are left, and that one store is open at most, after one row
record IsStored (group_rows : ℕ) (before after : Book) : Type 0 where
  once : how_many opens_in after.groups ≤ 1
  ids : (rows : ℕ) → after.next + stores_opened group_rows (places group_rows after.groups) rows ≡ before.next + stores_opened group_rows (places group_rows before.groups) (suc rows)

stored_ids : (group_rows : ℕ) (version : Version) (whole : Book) → 1 ≤ group_rows → how_many opens_in whole.groups ≤ 1 → IsStored group_rows whole (stored group_rows version whole)
stored_ids group_rows version whole some once = step (list_any opens_in whole.groups) refl
  where
    step : (t : Bool) → list_any opens_in whole.groups ≡ t
        → IsStored group_rows whole (cond t (record whole { groups = map (put group_rows version) whole.groups }) (with_group (store_of group_rows (version ∷ [])) whole))
    step true some_open =
        let made = put_places group_rows version whole.groups once some_open in
        let more : places group_rows whole.groups ≡ suc (places group_rows (map (put group_rows version) whole.groups)) = omega (arith, made.fewer) in
        record {
          once = made.once;
          ids = λ rows. ap (λ (free : ℕ). whole.next + stores_opened group_rows free (suc rows)) (sym more);
        }
    step false shut =
        let none = none_open whole.groups shut in
        let empty = places_none group_rows whole.groups none in
        let first : Group = record { id = whole.next; content = store_of group_rows (version ∷ []) } in
        let left : places group_rows (whole.groups ++ first ∷ []) ≡ group_rows - 1 = omega (arith, places-append group_rows whole.groups (first ∷ []), empty, places_store group_rows version [], some) in
        record {
          once = omega (arith, how_many-append opens_in whole.groups (first ∷ []), opens_store group_rows (version ∷ []), none);
          ids = λ rows.
              let one : stores_opened group_rows (places group_rows whole.groups) (suc rows) ≡ 1 + stores_opened group_rows (group_rows - 1) rows = ap (λ (free : ℕ). stores_opened group_rows free (suc rows)) empty in
              let two : stores_opened group_rows (places group_rows (whole.groups ++ first ∷ [])) rows ≡ stores_opened group_rows (group_rows - 1) rows = ap (λ (free : ℕ). stores_opened group_rows free rows) left in
              omega (arith, one, two);
        }

rest_ids : (group_rows c : ℕ) (keys : List Key) (whole : Book) → 1 ≤ group_rows → how_many opens_in whole.groups ≤ 1
    → let after = after_rest group_rows c keys whole in after.next ≡ whole.next + stores_opened group_rows (places group_rows whole.groups) (length keys)
rest_ids group_rows c [] whole some once = no_rows (places group_rows whole.groups)
  where
    no_rows : (free : ℕ) → whole.next ≡ whole.next + stores_opened group_rows free 0
    no_rows zero = omega arith
    no_rows (suc free) = omega arith
rest_ids group_rows c (key ∷ keys) whole some once =
    let one = stored_ids group_rows (new_version c key) whole some once in
    rest_ids group_rows c keys (stored group_rows (new_version c key) whole) some one.once ∙ one.ids (length keys)

-- ---- ends and direct groups

pub places_ended : (group_rows : ℕ) (f : List Version → List Version) (content : Content) → ((versions : List Version) → length (f versions) ≡ length versions) → places_in group_rows (with_opened f content) ≡ places_in group_rows content
places_ended group_rows f (Opened versions) long = ap (λ (n : ℕ). max 1 (group_rows - n)) (long versions)
places_ended group_rows f (Closed versions) long = refl
places_ended group_rows f (Compressed versions) long = refl
places_ended group_rows f Invisible long = refl
places_ended group_rows f (Tombstone versions ends) long = refl

opens_ended : (f : List Version → List Version) (content : Content) → is_opened (with_opened f content) ≡ is_opened content
opens_ended f (Opened versions) = refl
opens_ended f (Closed versions) = refl
opens_ended f (Compressed versions) = refl
opens_ended f Invisible = refl
opens_ended f (Tombstone versions ends) = refl

ended_groups : (group_rows : ℕ) (replaced : List Key) (c : ℕ) (groups : List Group)
    → (places group_rows (map (λ (group : Group). record group { content = with_opened (map (ended_by replaced c)) group.content }) groups) ≡ places group_rows groups)
    × (how_many opens_in (map (λ (group : Group). record group { content = with_opened (map (ended_by replaced c)) group.content }) groups) ≡ how_many opens_in groups)
ended_groups group_rows replaced c [] = (refl, refl)
ended_groups group_rows replaced c (group ∷ groups) =
    let rest = ended_groups group_rows replaced c groups in (
      omega (arith, places_ended group_rows (map (ended_by replaced c)) group.content (λ versions. length-map versions (ended_by replaced c)), rest.0),
      rw (opens_ended (map (ended_by replaced c)) group.content, rest.1) refl,
    )

-- the next id, the places and the open stores after direct loads
record IsLoaded (group_rows : ℕ) (count : ℕ) (before after : Book) : Type 0 where
  next : after.next ≡ before.next + count
  free : places group_rows after.groups ≡ places group_rows before.groups
  once : how_many opens_in after.groups ≡ how_many opens_in before.groups

loads_ids : (group_rows c : ℕ) (parts : List (List Key)) (whole : Book) → IsLoaded group_rows (length parts) whole (after_loads c parts whole)
loads_ids group_rows c [] whole = record { next = omega arith; free = refl; once = refl }
loads_ids group_rows c (part ∷ parts) whole =
    let first : Group = record { id = whole.next; content = Compressed (map (new_version c) part) } in
    let rest = loads_ids group_rows c parts (with_group (Compressed (map (new_version c) part)) whole) in
    record {
      next = omega (arith, rest.next);
      free = omega (arith, rest.free, places-append group_rows whole.groups (first ∷ []));
      once = omega (arith, rest.once, how_many-append opens_in whole.groups (first ∷ []));
    }

-- ---- the commit

pub commit_ids : (group_rows c : ℕ) (replaced : List Key) (parcel : Parcel) (whole : Book) → 1 ≤ group_rows → how_many opens_in whole.groups ≤ 1
    → let after = after_parcel group_rows c replaced parcel whole in after.next ≡ whole.next + (length parcel.groups + stores_opened group_rows (places group_rows whole.groups) (length parcel.rest))
commit_ids group_rows c replaced parcel whole some once =
    let ends = after_ends replaced c whole in
    let groups = ended_groups group_rows replaced c whole.groups in
    let loads = loads_ids group_rows c (map packed_keys parcel.groups) ends in
    let loaded = after_loads c (map packed_keys parcel.groups) ends in
    let rest = rest_ids group_rows c (keys_in parcel.rest) loaded some (omega (arith, loads.once, groups.1, once)) in
    let free : places group_rows loaded.groups ≡ places group_rows whole.groups = loads.free ∙ groups.0 in
    let same : stores_opened group_rows (places group_rows loaded.groups) (length (keys_in parcel.rest)) ≡ stores_opened group_rows (places group_rows whole.groups) (length parcel.rest) =
    ap (λ (places : ℕ). stores_opened group_rows places (length (keys_in parcel.rest))) free
    ∙ ap (λ (n : ℕ). stores_opened group_rows (places group_rows whole.groups) n) (length-map parcel.rest (λ (entry : Key × List Value). entry.0)) in
    omega (arith, rest, same, loads.next, length-map parcel.groups packed_keys)
