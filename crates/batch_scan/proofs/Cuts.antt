-- Entries and own writes in the order of their keys, cut to the keys of a group.
use Rattle.std.proofs.Common.{◌≡◌, ℕ, ℤ, ◌<◌, ◌≤◌, ◌<ℤ◌, ◌≤ℤ◌, Bool, false, ◌&&◌, leb, ltb, List, length, get_or, take, ap, sym, ◌∙◌, arith}
use Rattle.std.specs.declared.cmp.Ordering.TheVariants.{Less}
use Rattle.std.specs.List.{list_any}
use Rattle.std.proofs.lemmas.Cmp.{int_ranked}
use Rattle.std.proofs.lemmas.Int.{ints}
use Rattle.cs_types.specs.declared.Key.{Key}
use Rattle.cs_types.specs.Keys.{key_cmp, same_key}
use Rattle.write_set.specs.declared.write.Write.{Write}
use Rattle.write_set.specs.Writes.{Ascend}
use Rattle.delete_buffer.specs.Entries.{Entry}
use Rattle.delta_store.proofs.Pairs.{apart}
use Rattle.row_group.specs.Groups.{Group, row_at}
use Rattle.group_book.specs.Book.{Ending}
use Rattle.group_view.specs.Spans.{key_at, AreKeysBetween, HasNoRowOf}
use Rattle.group_view.proofs.Noted.{any_before, none_before}
use Rattle.group_view.proofs.Spans.{none_above, none_below, up_to_itself}
use Rattle.group_view.proofs.Walks.{any-map}
use Rattle.batch_scan.specs.Hidden.{is_ended_by, is_written}

key_less : (a b : Key) → key_cmp a b ≡ Less → a.0 <ℤ b.0
key_less a b is = int_ranked a.0 b.0 Less (sym is)

less_up_to : (a b : ℤ) → a <ℤ b → a ≤ℤ b
less_up_to a b less = omega (arith, ints)

pub writes_rise : (own : List Write) → Ascend own → (i j : ℕ) (d : Write) → i ≤ j → j < length own → (get_or own i d).key.0 ≤ℤ (get_or own j d).key.0
writes_rise own order i j d up there =
    up_to_itself (λ n. (get_or own n d).key.0) i j up (λ less. less_up_to (get_or own i d).key.0 (get_or own j d).key.0 (key_less (get_or own i d).key (get_or own j d).key (order i j d less there)))

-- ---- what is of no row of the group

module _ (group : Group) (p : ℕ) (there : p < length group.rows) where
  of_no_row : (key : Key) → HasNoRowOf group key → same_key (key_at group p) key ≡ false
  of_no_row key none = apart (key_at group p) key (λ same. let is : key_at group p ≡ key = ap (λ (k : ℤ). record { 0 = k }) same in none p there is)

  module _ (s : ℕ) (entries : List Entry) (n : ℕ) where
    abbrev tested : Entry → Bool
    tested entry = same_key (key_at group p) entry.0 && (ltb (row_at group p).begin entry.1 && leb entry.1 s)

    ended_as : (list : List Entry) → is_ended_by list s group p ≡ list_any tested list
    ended_as list = any-map (λ (e : Ending). same_key (key_at group p) e.key && (ltb (row_at group p).begin e.end && leb e.end s)) (λ (entry : Entry). record { key = entry.0; end = entry.1 }) list

    -- entries of keys that no row of the group has end none of its rows
    pub ended_before : ((i : ℕ) (d : Entry) → i < length entries → i < n → HasNoRowOf group (get_or entries i d).0) → is_ended_by (take n entries) s group p ≡ false
    ended_before none =
        ended_as (take n entries)
        ∙ none_before tested entries n (λ i d before inside.
        let entry = get_or entries i d in
        ap (λ (b : Bool). b && (ltb (row_at group p).begin entry.1 && leb entry.1 s)) (of_no_row entry.0 (none i d inside before)))

    pub ended_after : ((i : ℕ) (d : Entry) → i < length entries → n ≤ i → HasNoRowOf group (get_or entries i d).0) → is_ended_by (take n entries) s group p ≡ is_ended_by entries s group p
    ended_after none =
        ended_as (take n entries)
        ∙ any_before tested entries n (λ i d from inside.
        let entry = get_or entries i d in
        ap (λ (b : Bool). b && (ltb (row_at group p).begin entry.1 && leb entry.1 s)) (of_no_row entry.0 (none i d inside from)))
        ∙ sym (ended_as entries)

  module _ (least greatest : Key) (between : AreKeysBetween least greatest group) (own : List Write) (n : ℕ) where
    abbrev of_row : Write → Bool
    of_row write = same_key (key_at group p) write.key

    -- own writes of keys below those of the group are of none of its rows
    pub written_below : ((i : ℕ) (d : Write) → i < n → i < length own → (get_or own i d).key.0 <ℤ least.0) → is_written (take n own) group p ≡ false
    written_below less = none_before of_row own n (λ i d before inside. of_no_row (get_or own i d).key (none_below group least greatest between (get_or own i d).key (less i d before inside)))

    -- nor are those of keys above
    pub written_above : ((i : ℕ) (d : Write) → n ≤ i → i < length own → greatest.0 <ℤ (get_or own i d).key.0) → is_written (take n own) group p ≡ is_written own group p
    written_above more = any_before of_row own n (λ i d from inside. of_no_row (get_or own i d).key (none_above group least greatest between (get_or own i d).key (more i d from inside)))
