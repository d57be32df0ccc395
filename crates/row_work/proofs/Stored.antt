-- The versions of a store that are read, by the keys of the store.
use Rattle.std.proofs.Common.{◌≡◌, ◌≢◌, ℕ, ℤ, zero, suc, ◌+◌, ◌<◌, ◌≤◌, ◌<ℤ◌, Bool, true, false, not, ◌&&◌, ◌||◌, cond, List, [], ◌∷◌, ◌++◌, map, take, length, refl, sym, ap, ◌∙◌, subst, arith}
use Rattle.std.specs.Prelude.{Option, None, Some, slice_get, unwrap_or, is_some, IfNone, IfSome, IsSome}
use Rattle.std.specs.List.{All, cons_option, filter_map, flat_map, list_any}
use Rattle.std.specs.List.Sorted.{IsPermutation}
use Rattle.std.specs.Option.{option_and_then, option_map, option_to_list}
use Rattle.std.proofs.lemmas.Bool.{and_from, and_parts}
use Rattle.std.specs.BTreeMap.{is_at}
use Rattle.std.specs.Map.{lookup, values_of}
use Rattle.std.specs.Ordering.{eq_by_cmp}
use Rattle.std.proofs.lemmas.Int.{ints}
use Rattle.std.proofs.lemmas.List.{map-append}
use Rattle.std.proofs.lemmas.List.Elements.{All-cons, All-head, All-nil, All-tail, All-weaker}
use Rattle.std.proofs.lemmas.List.Sorted.{IsPermutation-append_left, IsPermutation-refl, IsPermutation-trans}
use Rattle.std.proofs.lemmas.Map.Views.{Contains-from_lookup}
use Rattle.std.proofs.lemmas.Option.{get_or_from_slice_get, same_Some, slice_get-map, slice_get_within}
use Rattle.cs_types.specs.declared.Key.{Key}
use Rattle.cs_types.specs.declared.Schema.{Schema}
use Rattle.cs_types.specs.declared.Value.{Value}
use Rattle.cs_types.specs.Keys.{key_cmp, same_key}
use Rattle.cs_types.proofs.KeyLemmas.{one_key}
use Rattle.cs_types.specs.Rows.{padded}
use Rattle.cs_model.specs.declared.pred.Pred.{Pred}
use Rattle.cs_model.specs.Answers.{chosen}
use Rattle.cs_model.specs.Changes.{Table}
use Rattle.cs_model.specs.Held.{IsRowAt}
use Rattle.cs_model.specs.Queries.{keeps}
use Rattle.edit_laws.specs.Edits.{writes_key}
use Rattle.edit_laws.proofs.Lists.{take_next}
use Rattle.delta_store.specs.declared.version.KeyedVersion.{KeyedVersion}
use Rattle.delta_store.specs.Index.{place_in, key_at, no_pair, is_between, AreInOrder, IsAt}
use Rattle.delta_store.specs.Places.{last_place, one_on, AreNewest}
use Rattle.delta_store.specs.Versions.{is_of, IsLastPlace}
use Rattle.delta_store.proofs.Pairs.{apart}
use Rattle.delta_store.proofs.Search.{place_at}
use Rattle.delta_store.proofs.VersionLemmas.{IsLastPlace-last_place}
use Rattle.group_book.specs.Book.{Version, how_many, is_visible, shows}
use Rattle.group_book.proofs.Keys.{key_is, key_itself}
use Rattle.group_book.proofs.Lists.{how_many-append}
use Rattle.group_view.specs.declared.parts.GroupPart.{GroupPart}
use Rattle.group_view.specs.declared.parts.GroupPart.TheVariants.{Packed, Store}
use Rattle.group_view.specs.declared.parts.GroupRef.TheVariants as lent
use Rattle.group_view.specs.declared.view.Pinned.{Pinned}
use Rattle.group_view.specs.declared.view.Place.{Place}
use Rattle.group_view.specs.Parts.{Rowed, rowed_in, stored_version, stored_versions, IsBorrowed}
use Rattle.group_view.specs.Views.{buffer_of, is_shown, version_at, HidesAll, Shows, ShowsAt}
use Rattle.group_view.specs.Laws.{shown_row}
use Rattle.group_view.proofs.Looked.{found_shown}
use Rattle.batch_scan.specs.Reads.{is_read}
use Rattle.row_work.specs.declared.bounds.Bounds.{Bounds}
use Rattle.row_work.specs.Bounds.{KeepsRange, KeepsWithin}
use Rattle.row_work.specs.Reads.{read_row, rowed_at, shown_by, HasSnapshot, MayRead}
use Rattle.row_work.specs.Stores.{is_read_of, is_read_within, positions_of, read_at_position, true_from, AreRowsRead, IsSeenOnce, PassesAt}
use Rattle.row_work.proofs.Found.{at_place}
use Rattle.row_work.proofs.Overlaid.{same_sym}
use Rattle.row_work.proofs.Positions.{none_true, one_more, places_pass, read_at_places, same_flags, where_true}

-- ---- one version of a key

some_pass : {X : Type 0} (test : X → Bool) (xs : List X) (p : ℕ) (y : X) → slice_get xs p ≡ Some y → test y ≡ true → 1 ≤ how_many test xs
some_pass test [] p y at on = cc
some_pass test (x ∷ xs) zero y at on =
    let here : test x ≡ true = ap test (same_Some x y at) ∙ on in
    rw here (omega arith)
some_pass test (x ∷ xs) (suc p) y at on = let rest = some_pass test xs p y at on in omega (arith, rest)

at_most_one : {X : Type 0} (test : X → Bool) (xs : List X) → how_many test xs ≤ 1 → (i p : ℕ) (x y : X) → slice_get xs i ≡ Some x → slice_get xs p ≡ Some y → test x ≡ true → test y ≡ true → i ≡ p
at_most_one test [] once i p x y at_x at_y on_x on_y = cc
at_most_one test (z ∷ zs) once zero zero x y at_x at_y on_x on_y = refl
at_most_one test (z ∷ zs) once zero (suc p) x y at_x at_y on_x on_y =
    let here : test z ≡ true = ap test (same_Some z x at_x) ∙ on_x in
    let more = some_pass test zs p y at_y on_y in
    let one : 1 + how_many test zs ≤ 1 = rw here at once in
    absurd (omega (arith, more, one))
at_most_one test (z ∷ zs) once (suc i) zero x y at_x at_y on_x on_y =
    let here : test z ≡ true = ap test (same_Some z y at_y) ∙ on_y in
    let more = some_pass test zs i x at_x on_x in
    let one : 1 + how_many test zs ≤ 1 = rw here at once in
    absurd (omega (arith, more, one))
at_most_one test (z ∷ zs) once (suc i) (suc p) x y at_x at_y on_x on_y =
    let fewer : how_many test zs ≤ 1 = omega (arith, once) in
    ap suc (at_most_one test zs fewer i p x y at_x at_y on_x on_y)

-- in a group not more versions pass a test than in all
pub part_fewer : (test : Rowed → Bool) (groups : List (ℕ × GroupPart)) (n : ℕ) → how_many test (unwrap_or (option_map (λ (part : ℕ × GroupPart). rowed_in part.1) (slice_get groups n)) []) ≤ how_many test (flat_map (λ (group : ℕ × GroupPart). rowed_in group.1) groups)
part_fewer test [] n = omega arith
part_fewer test (part ∷ groups) zero =
    let both = how_many-append test (rowed_in part.1) (flat_map (λ (group : ℕ × GroupPart). rowed_in group.1) groups) in omega (arith, both)
part_fewer test (part ∷ groups) (suc n) =
    let both = how_many-append test (rowed_in part.1) (flat_map (λ (group : ℕ × GroupPart). rowed_in group.1) groups) in
    let rest = part_fewer test groups n in
    omega (arith, both, rest)

-- ---- keys of the store

-- a list of keys has the key of a pair exactly where the pairs have a place for it
any_place : (pairs : List (Key × ℕ)) (key : Key) → list_any (same_key key) (map (λ (pair : Key × ℕ). pair.0) pairs) ≡ is_some (place_in pairs key)
any_place [] key = refl
any_place (x ∷ pairs) key = step (same_key x.0 key) (same_sym key x.0) (any_place pairs key)
  where
    step : (t : Bool) → same_key key x.0 ≡ t → list_any (same_key key) (map (λ (pair : Key × ℕ). pair.0) pairs) ≡ is_some (place_in pairs key)
        → (same_key key x.0 || list_any (same_key key) (map (λ (pair : Key × ℕ). pair.0) pairs)) ≡ is_some (cond t (Some x.1) (place_in pairs key))
    step true is rest = rw is refl
    step false is rest = rw is rest

-- a version's key has a last place
last_there : (versions : List KeyedVersion) (i : ℕ) (v : KeyedVersion) → slice_get versions i ≡ Some v → is_some (last_place versions v.key) ≡ true
last_there [] i v at = cc
last_there (u ∷ us) zero v at =
    let same : u ≡ v = same_Some u v at in
    subst (λ (w : KeyedVersion). is_some (one_on (last_place us v.key) (is_of v.key w)) ≡ true) (sym same)
    (subst (λ t. is_some (one_on (last_place us v.key) t) ≡ true) (sym (key_itself v.key)) (step (last_place us v.key)))
  where
    step : (o : Option ℕ) → is_some (one_on o true) ≡ true
    step None = refl
    step (Some p) = refl
last_there (u ∷ us) (suc i) v at = step (last_place us v.key) (is_of v.key u) (last_there us i v at)
  where
    step : (o : Option ℕ) (t : Bool) → is_some o ≡ true → is_some (one_on o t) ≡ true
    step None t is = cc
    step (Some p) t is = refl

-- the keys of all versions between are those of the newest places
listed_is : (versions : List KeyedVersion) (least greatest : Key) (newest : List (Key × ℕ)) → AreNewest versions least greatest newest → (i : ℕ) (v : KeyedVersion) → slice_get versions i ≡ Some v
    → list_any (same_key v.key) (map (λ (pair : Key × ℕ). pair.0) newest) ≡ is_between least greatest v.key
listed_is versions least greatest newest are i v at =
    any_place newest v.key ∙ ap is_some (are.places v.key) ∙ step (is_between least greatest v.key) (last_there versions i v at)
  where
    step : (t : Bool) → is_some (last_place versions v.key) ≡ true → is_some (cond t (last_place versions v.key) None) ≡ t
    step true some = some
    step false some = refl

not_both : (a b : ℤ) → a <ℤ b → b ≡ a → ⊥
not_both a b less same = omega (arith, ints)

-- a key is none of those before it
fresh_key : (newest : List (Key × ℕ)) (j : ℕ) (pair : Key × ℕ) → AreInOrder newest → slice_get newest j ≡ Some pair → list_any (same_key pair.0) (map (λ (other : Key × ℕ). other.0) (take j newest)) ≡ false
fresh_key [] j pair up at = cc
fresh_key (x ∷ newest) zero pair up at = refl
fresh_key (x ∷ newest) (suc j) pair up at =
    let there = slice_get_within newest j pair at in
    let here : key_at newest j ≡ pair.0.0 = ap (λ (p : Key × ℕ). p.0.0) (get_or_from_slice_get newest j pair no_pair at) in
    let below : x.0.0 <ℤ pair.0.0 = subst (λ z. x.0.0 <ℤ z) here (up 0 (suc j) (omega arith) (omega (arith, there))) in
    let other : same_key pair.0 x.0 ≡ false = apart pair.0 x.0 (not_both x.0.0 pair.0.0 below) in
    let rest = fresh_key newest j pair (λ i k less within. up (suc i) (suc k) (omega (arith, less)) (omega (arith, within))) at in
    rw other rest

-- the pair's place is the last one of its key
pub pair_place : (versions : List KeyedVersion) (least greatest : Key) (newest : List (Key × ℕ)) → AreNewest versions least greatest newest → (j : ℕ) (pair : Key × ℕ) → slice_get newest j ≡ Some pair → IsLastPlace versions pair.0 (Some pair.1)
pair_place versions least greatest newest are j pair at =
    let read = get_or_from_slice_get newest j pair no_pair at in
    let stands : IsAt newest pair.0 j = record { in_range = slice_get_within newest j pair at; has_key = ap (λ (p : Key × ℕ). p.0.0) read } in
    let place : place_in newest pair.0 ≡ Some pair.1 = place_at newest are.order pair.0 j stands ∙ ap (λ (p : Key × ℕ). Some p.1) read in
    subst (IsLastPlace versions pair.0) (step (is_between least greatest pair.0) (sym (are.places pair.0) ∙ place)) (IsLastPlace-last_place versions pair.0)
  where
    step : (t : Bool) → cond t (last_place versions pair.0) None ≡ Some pair.1 → last_place versions pair.0 ≡ Some pair.1
    step true is = is
    step false is = cc

-- ---- one key more

abbrev pub is_read_in : Pinned → List Key → Rowed → Bool
is_read_in pinned keys rowed = is_read pinned rowed && list_any (same_key rowed.version.key) keys

any_push : (f : Key → Bool) (keys : List Key) (key : Key) → list_any f (keys ++ key ∷ []) ≡ (list_any f keys || f key)
any_push f [] key = step (f key)
  where
    step : (t : Bool) → (t || false) ≡ t
    step true = refl
    step false = refl
any_push f (k ∷ keys) key = ap (λ t. f k || t) (any_push f keys key) ∙ step (f k) (list_any f keys) (f key)
  where
    step : (a b c : Bool) → (a || (b || c)) ≡ ((a || b) || c)
    step true b c = refl
    step false b c = refl

passing_step : (test : Rowed → Bool) (o : Option Rowed) → option_map test o ≡ Some true → (x : Rowed) × (o ≡ Some x) × (test x ≡ true)
passing_step test None is = cc
passing_step test (Some x) is = (x, refl, same_Some (test x) true is)

-- the version that passes
pub passing : (test : Rowed → Bool) (versions : List Rowed) (p : ℕ) → PassesAt test versions p → (x : Rowed) × (slice_get versions p ≡ Some x) × (test x ≡ true)
passing test versions p is = passing_step test (slice_get versions p) is

module _ (pinned : Pinned) (versions : List Rowed) (keys : List Key) (key : Key) where
  abbrev before : Rowed → Bool
  before = is_read_in pinned keys

  abbrev after : Rowed → Bool
  after = is_read_in pinned (keys ++ key ∷ [])

  -- what is not read of the key passes as before
  same_test : (y : Rowed) → (is_read pinned y ≡ true → same_key key y.version.key ≡ true → ⊥) → after y ≡ before y
  same_test y apart = ap (λ t. is_read pinned y && t) (any_push (same_key y.version.key) keys key) ∙ step (is_read pinned y) (same_key key y.version.key) (same_sym y.version.key key) apart (list_any (same_key y.version.key) keys)
    where
      step : (r k : Bool) → same_key y.version.key key ≡ k → (r ≡ true → k ≡ true → ⊥) → (b : Bool) → (r && (b || same_key y.version.key key)) ≡ (r && b)
      step false k is apart b = refl
      step true true is apart b = absurd (apart refl refl)
      step true false is apart true = refl
      step true false is apart false = is

  pub none_more : ((position : ℕ) → PassesAt (is_read_of pinned key) versions position → ⊥) → positions_of after versions ≡ positions_of before versions
  none_more none = ap (true_from 0) (same_flags before after versions (λ i y at. same_test y (λ read own. none i (ap (option_map (is_read_of pinned key)) at ∙ ap Some (and_from (is_read pinned y) (same_key key y.version.key) read own)))))

  visible : (y : Rowed) → is_read pinned y ≡ true → same_key key y.version.key ≡ true → shows (buffer_of pinned.view) key pinned.snapshot y.version ≡ true
  visible y read own = and_from (same_key key y.version.key) (is_visible (buffer_of pinned.view) pinned.snapshot y.version) own (and_parts (is_shown pinned.view pinned.snapshot y) (not (writes_key pinned.own y.version.key)) read).0

  pub found_more : IsSeenOnce pinned versions → list_any (same_key key) keys ≡ false → (p : ℕ) → PassesAt (is_read_of pinned key) versions p → (positions : List ℕ) → IsPermutation positions (positions_of before versions)
      → IsPermutation (positions ++ p ∷ []) (positions_of after versions)
  found_more once fresh p found positions moved =
      let held = passing (is_read_of pinned key) versions p found in
      let x = held.0 in
      let both = and_parts (is_read pinned x) (same_key key x.version.key) held.2 in
      let own : x.version.key ≡ key = key_is key x.version.key both.1 in
      let old : list_any (same_key x.version.key) keys ≡ false = ap (λ (k : Key). list_any (same_key k) keys) own ∙ fresh in
      let off : before x ≡ false = ap (λ t. is_read pinned x && t) old ∙ and_false (is_read pinned x) in
      let new : list_any (same_key x.version.key) (keys ++ key ∷ []) ≡ true =
      any_push (same_key x.version.key) keys key ∙ ap (λ t. t || same_key x.version.key key) old ∙ (same_sym x.version.key key ∙ both.1) in
      let on : after x ≡ true = and_from (is_read pinned x) (list_any (same_key x.version.key) (keys ++ key ∷ [])) both.0 new in
      let test = λ (rowed : Rowed). shows (buffer_of pinned.view) key pinned.snapshot rowed.version in
      let other = λ (i : ℕ) (y : Rowed) (away : i ≢ p) (at : slice_get versions i ≡ Some y). same_test y (λ read mine. away (at_most_one test versions (once key) i p y x at held.1 (visible y read mine) (visible x both.0 both.1))) in
      let zero : 0 + p ≡ p = omega arith in
      IsPermutation-trans (positions ++ p ∷ []) (positions_of before versions ++ p ∷ []) (positions_of after versions)
      (IsPermutation-append_left (p ∷ []) positions (positions_of before versions) moved)
      (subst (λ m. IsPermutation (positions_of before versions ++ m ∷ []) (positions_of after versions)) zero (one_more before after versions 0 p x held.1 off on other))
    where
      and_false : (t : Bool) → (t && false) ≡ false
      and_false true = refl
      and_false false = refl

-- without keys nothing is read
pub none_first : (pinned : Pinned) (versions : List Rowed) → IsPermutation [] (positions_of (is_read_in pinned []) versions)
none_first pinned versions =
    subst (IsPermutation []) (sym (none_true versions 0 (is_read_in pinned []) (λ i x at. step (is_read pinned x)))) (IsPermutation-refl [])
  where
    step : (t : Bool) → (t && false) ≡ false
    step true = refl
    step false = refl

keyed_step : (o : Option KeyedVersion) (y : Rowed) → option_map stored_version o ≡ Some y → (v : KeyedVersion) × (o ≡ Some v) × (v.key ≡ y.version.key)
keyed_step None y is = cc
keyed_step (Some v) y is = (v, refl, ap (λ (rowed : Rowed). rowed.version.key) (same_Some (stored_version v) y is))

-- with all keys of the newest places, all between
pub all_between : (pinned : Pinned) (store : List KeyedVersion) (bounds : Bounds) (newest : List (Key × ℕ)) → AreNewest store bounds.least bounds.greatest newest
    → positions_of (is_read_in pinned (map (λ (pair : Key × ℕ). pair.0) newest)) (stored_versions store) ≡ positions_of (is_read_within pinned bounds) (stored_versions store)
all_between pinned store bounds newest are =
    ap (true_from 0) (same_flags (is_read_within pinned bounds) (is_read_in pinned (map (λ (pair : Key × ℕ). pair.0) newest)) (stored_versions store) (λ i y at.
    let held = keyed_step (slice_get store i) y (sym (slice_get-map stored_version store i) ∙ at) in
    let listed = listed_is store bounds.least bounds.greatest newest are i held.0 held.1 in
    subst (λ (k : Key). (is_read pinned y && list_any (same_key k) (map (λ (pair : Key × ℕ). pair.0) newest)) ≡ (is_read pinned y && is_between bounds.least bounds.greatest k)) held.2 (ap (λ t. is_read pinned y && t) listed)))

-- a pair more of the newest places
pub next_key : (newest : List (Key × ℕ)) (j : ℕ) (pair : Key × ℕ) → AreInOrder newest → slice_get newest j ≡ Some pair
    → record {
      keys : map (λ (other : Key × ℕ). other.0) (take (j + 1) newest) ≡ map (λ (other : Key × ℕ). other.0) (take j newest) ++ pair.0 ∷ [];
      fresh : list_any (same_key pair.0) (map (λ (other : Key × ℕ). other.0) (take j newest)) ≡ false;
    }
next_key newest j pair up at = record {
  keys =
      let next : j + 1 ≡ suc j = omega arith in
      ap (λ n. map (λ (other : Key × ℕ). other.0) (take n newest)) next ∙ ap (map (λ (other : Key × ℕ). other.0)) (take_next newest j ∙ ap (λ o. take j newest ++ option_to_list o) at)
      ∙ map-append (λ (other : Key × ℕ). other.0) (take j newest) (pair ∷ []);
  fresh = fresh_key newest j pair up at;
}

-- ---- where the version of a key is read

shown_step : (pinned : Pinned) (key : Key) (o : Option Rowed) → writes_key pinned.own key ≡ false → option_map (λ (rowed : Rowed). shows (buffer_of pinned.view) key pinned.snapshot rowed.version) o ≡ Some true
    → option_map (is_read_of pinned key) o ≡ Some true
shown_step pinned key None free shown = cc
shown_step pinned key (Some x) free shown =
    let both = and_parts (same_key key x.version.key) (is_visible (buffer_of pinned.view) pinned.snapshot x.version) (same_Some _ _ shown) in
    let own : x.version.key ≡ key = key_is key x.version.key both.0 in
    let others : not (writes_key pinned.own x.version.key) ≡ true = ap (λ (k : Key). not (writes_key pinned.own k)) own ∙ ap not free in
    ap Some (and_from (is_read pinned x) (same_key key x.version.key) (and_from (is_shown pinned.view pinned.snapshot x) (not (writes_key pinned.own x.version.key)) both.1 others) both.0)

-- a version that shows the key is read, where no own write is of it
pub read_from_shown : (pinned : Pinned) (key : Key) (versions : List Rowed) (p : ℕ) → writes_key pinned.own key ≡ false → ShowsAt (buffer_of pinned.view) key pinned.snapshot versions p → PassesAt (is_read_of pinned key) versions p
read_from_shown pinned key versions p free shown = shown_step pinned key (slice_get versions p) free shown

-- and one that is read shows it
pub shown_from_read : (pinned : Pinned) (key : Key) (versions : List Rowed) (p : ℕ) → PassesAt (is_read_of pinned key) versions p → ShowsAt (buffer_of pinned.view) key pinned.snapshot versions p
shown_from_read pinned key versions p is =
    let held = passing (is_read_of pinned key) versions p is in
    let both = and_parts (is_read pinned held.0) (same_key key held.0.version.key) held.2 in
    ap (option_map (λ (rowed : Rowed). shows (buffer_of pinned.view) key pinned.snapshot rowed.version)) held.1 ∙ ap Some (visible pinned versions [] key held.0 both.0 both.1)

-- of the key of an own write none is
pub own_not_read : (pinned : Pinned) (key : Key) (versions : List Rowed) (p : ℕ) → writes_key pinned.own key ≡ true → PassesAt (is_read_of pinned key) versions p → ⊥
own_not_read pinned key versions p mine is =
    let held = passing (is_read_of pinned key) versions p is in
    let both = and_parts (is_read pinned held.0) (same_key key held.0.version.key) held.2 in
    let own : held.0.version.key ≡ key = key_is key held.0.version.key both.1 in
    let others = and_parts (is_shown pinned.view pinned.snapshot held.0) (not (writes_key pinned.own held.0.version.key)) both.0 in
    let none : not true ≡ true = sym (ap (λ (k : Key). not (writes_key pinned.own k)) own ∙ ap not mine) ∙ others.1 in
    cc

-- ---- rows between bounds

-- the versions at these positions are read, and the condition keeps of their rows what it keeps of all that are read
pub record AreEnough (schema : Schema) (condition : Option Pred) (pinned : Pinned) (versions : List Rowed) (positions : List ℕ) : Type 0 where
  pub read : All (PassesAt (is_read pinned) versions) positions
  pub kept : chosen schema condition (filter_map (read_at_position (length schema.columns) pinned versions) positions) ≡ chosen schema condition (filter_map (read_row (length schema.columns) pinned) versions)

module _ (schema : Schema) (condition : Option Pred) (pinned : Pinned) (bounds : Bounds) (keeps_within : KeepsWithin schema condition bounds) where
  abbrev width : ℕ
  width = length schema.columns

  abbrev reads : Rowed → Option (Key × List Value)
  reads = read_row width pinned

  abbrev bounded : Rowed → Option (Key × List Value)
  bounded = where_true (read_row width pinned) (is_read_within pinned bounds)

  -- a row of another key is not kept
  dropped : (x : Rowed) → IsRowAt schema x.version.key (padded width x.row) → is_between bounds.least bounds.greatest x.version.key ≡ false → (t : Bool) → keeps schema condition (padded width x.row) ≡ t → t ≡ false
  dropped x row outside true kept = let inside = keeps_within x.version.key (padded width x.row) row kept in absurd (cc)
  dropped x row outside false kept = refl

  one_kept : (x : Rowed) (read within : Bool) → is_read pinned x ≡ read → is_between bounds.least bounds.greatest x.version.key ≡ within → (is_read pinned x ≡ true → IsRowAt schema x.version.key (padded width x.row)) → (rest other : Table)
      → chosen schema condition rest ≡ chosen schema condition other
      → chosen schema condition (cons_option (cond (read && within) (cond read (Some (shown_row width x)) None) None) rest) ≡ chosen schema condition (cons_option (cond read (Some (shown_row width x)) None) other)
  one_kept x false within is_read' is_within row rest other same = same
  one_kept x true true is_read' is_within row rest other same = ap (λ l. cond (keeps schema condition (padded width x.row)) (shown_row width x ∷ l) l) same
  one_kept x true false is_read' is_within row rest other same =
      same ∙ ap (λ t. cond t (shown_row width x ∷ chosen schema condition other) (chosen schema condition other)) (sym (dropped x (row is_read') is_within (keeps schema condition (padded width x.row)) refl))

  pub kept_same : (versions : List Rowed) → AreRowsRead schema pinned versions → chosen schema condition (filter_map bounded versions) ≡ chosen schema condition (filter_map reads versions)
  kept_same [] rows = refl
  kept_same (x ∷ versions) rows =
      one_kept x (is_read pinned x) (is_between bounds.least bounds.greatest x.version.key) refl refl (rows zero x refl) (filter_map bounded versions) (filter_map reads versions) (kept_same versions (λ i. rows (suc i)))

  pub loses_none : (versions : List Rowed) → AreRowsRead schema pinned versions → AreEnough schema condition pinned versions (positions_of (is_read_within pinned bounds) versions)
  loses_none versions rows = record {
    read = All-weaker (PassesAt (is_read_within pinned bounds) versions) (PassesAt (is_read pinned) versions) (λ p is.
        let held = passing (is_read_within pinned bounds) versions p is in
        ap (option_map (is_read pinned)) held.1 ∙ ap Some (and_parts (is_read pinned held.0) (is_between bounds.least bounds.greatest held.0.version.key) held.2).0)
        (positions_of (is_read_within pinned bounds) versions) (places_pass reads (is_read_within pinned bounds) versions);
    kept = ap (chosen schema condition) (read_at_places reads (is_read_within pinned bounds) versions) ∙ kept_same versions rows;
  }

-- rows of keys that are all kept are kept
pub each_kept : (schema : Schema) (condition : Option Pred) (pinned : Pinned) (bounds : Bounds) → KeepsRange schema condition bounds → (versions : List Rowed) → AreRowsRead schema pinned versions → (positions : List ℕ)
    → All (PassesAt (is_read_within pinned bounds) versions) positions → All (λ row. keeps schema condition row ≡ true) (values_of (filter_map (read_at_position (length schema.columns) pinned versions) positions))
each_kept schema condition pinned bounds keeps_range versions rows [] all = All-nil (λ row. keeps schema condition row ≡ true)
each_kept schema condition pinned bounds keeps_range versions rows (p ∷ positions) all =
    let Kept : List Value → Type 0 = λ row. keeps schema condition row ≡ true in
    let read_at = read_at_position (length schema.columns) pinned versions in
    let (x, at, both) = passing (is_read_within pinned bounds) versions p (All-head (PassesAt (is_read_within pinned bounds) versions) p positions all) in
    let (read, within) = and_parts (is_read pinned x) (is_between bounds.least bounds.greatest x.version.key) both in
    let here : read_at p ≡ Some (shown_row (length schema.columns) x) = ap (option_and_then (read_row (length schema.columns) pinned)) at ∙ ap (λ t. cond t (Some (shown_row (length schema.columns) x)) None) read in
    let row = padded (length schema.columns) x.row in
    let rest = each_kept schema condition pinned bounds keeps_range versions rows positions (All-tail (PassesAt (is_read_within pinned bounds) versions) p positions all) in
    subst (λ o. All Kept (values_of (cons_option o (filter_map read_at positions)))) (sym here)
    (All-cons Kept row (values_of (filter_map read_at positions)) (keeps_range x.version.key row (rows p x at read) ∙ within) rest)

-- ---- the versions of a group

-- of a group of a view the snapshot sees each key once
pub seen_once : (pinned : Pinned) (group : ℕ) → HasSnapshot pinned → IsSeenOnce pinned (rowed_at pinned.view group)
seen_once pinned group has key =
    let few = has.view.once key pinned.snapshot has.from_floor has.to_clock in
    let part = part_fewer (λ (rowed : Rowed). shows (buffer_of pinned.view) key pinned.snapshot rowed.version) pinned.view.groups group in
    omega (arith, few, part)

-- what is read of it are rows of the table
pub rows_read : (schema : Schema) (pinned : Pinned) (group : ℕ) → MayRead schema pinned → AreRowsRead schema pinned (rowed_at pinned.view group)
rows_read schema pinned group may position x at read =
    let width = length schema.columns in
    let table = shown_by width pinned in
    let key = x.version.key in
    let place : Place = record { group = group; position = position } in
    let stands : version_at pinned.view place ≡ Some x = at_place pinned.view group position ∙ at in
    let seen = (and_parts (is_shown pinned.view pinned.snapshot x) (not (writes_key pinned.own key)) read).0 in
    let shown : Shows pinned.view key pinned.snapshot place =
    ap (option_map (λ (rowed : Rowed). shows (buffer_of pinned.view) key pinned.snapshot rowed.version)) stands ∙ ap Some (and_from (same_key key key) (is_visible (buffer_of pinned.view) pinned.snapshot x.version) (key_itself key) seen) in
    let has = may.snapshot in
    let found = found_shown width pinned.view key pinned.snapshot has.view has.from_floor has.to_clock place shown in
    let row : lookup (is_at (key_cmp key)) table ≡ Some (padded width x.row) = sym found ∙ ap (option_map (λ (rowed : Rowed). padded width rowed.row)) stands in
    let inside = Contains-from_lookup {eq = eq_by_cmp key_cmp} one_key key (padded width x.row) table row in
    let entry : Key × List Value = (key, padded width x.row) in
    subst (λ (e : Key × List Value). IsRowAt schema e.0 e.1) inside.2 (may.fit inside.0 entry inside.1).1

-- those of keys of which all that are kept are enough of it
pub enough_within : (schema : Schema) (condition : Option Pred) (pinned : Pinned) (bounds : Bounds) → KeepsWithin schema condition bounds → (group : ℕ) → MayRead schema pinned
    → AreEnough schema condition pinned (rowed_at pinned.view group) (positions_of (is_read_within pinned bounds) (rowed_at pinned.view group))
enough_within schema condition pinned bounds keeps_within group may = loses_none schema condition pinned bounds keeps_within (rowed_at pinned.view group) (rows_read schema pinned group may)

-- the versions of a store of the view
pub store_at : (pinned : Pinned) (store : _) (o : Option (ℕ × GroupPart)) → IfSome o (λ (part : ℕ × GroupPart). IsBorrowed part.1 (lent.Store store)) → IsSome o → unwrap_or (option_map (λ (part : ℕ × GroupPart). rowed_in part.1) o) [] ≡ stored_versions store.now
store_at pinned store None borrowed there = cc
store_at pinned store (Some (id, Packed packed marks)) borrowed there = absurd borrowed
store_at pinned store (Some (id, Store frozen)) borrowed there = ap stored_versions (sym borrowed)

-- where a key without own writes is read
pub found_read : (pinned : Pinned) (key : Key) (versions : List Rowed) → writes_key pinned.own key ≡ false → (o : Option ℕ) → IfSome o (ShowsAt (buffer_of pinned.view) key pinned.snapshot versions) → IfSome o (PassesAt (is_read_of pinned key) versions)
found_read pinned key versions free None shown = tt
found_read pinned key versions free (Some p) shown = read_from_shown pinned key versions p free shown

pub none_read : (pinned : Pinned) (key : Key) (versions : List Rowed) (o : Option ℕ) → IfNone o (HidesAll (buffer_of pinned.view) key pinned.snapshot versions) → IfNone o ((p : ℕ) → PassesAt (is_read_of pinned key) versions p → ⊥)
none_read pinned key versions None hidden = λ p is. hidden p (shown_from_read pinned key versions p is)
none_read pinned key versions (Some p) hidden = tt

pub there_some : {X : Type 0} (xs : List X) (i : ℕ) → i < length xs → IsSome (slice_get xs i)
there_some [] i within = absurd (omega (arith, within))
there_some (x ∷ xs) zero within = refl
there_some (x ∷ xs) (suc i) within = there_some xs i (omega (arith, within))

-- where one passes a test, one stands
pub stands_there : (pinned : Pinned) (test : Rowed → Bool) (place : Place) → PassesAt test (rowed_at pinned.view place.group) place.position → IsSome (version_at pinned.view place)
stands_there pinned test place is =
    let (x, at, passes) = passing test (rowed_at pinned.view place.group) place.position is in
    subst IsSome (sym (at_place pinned.view place.group place.position ∙ at)) refl

-- the row of a version that is read, at its position
pub read_there : (width : ℕ) (pinned : Pinned) (place : Place) (version : Version) (row : List Value) → PassesAt (is_read pinned) (rowed_at pinned.view place.group) place.position → option_map (λ (rowed : Rowed). rowed.version) (version_at pinned.view place) ≡ Some version
    → option_map (λ (rowed : Rowed). padded width rowed.row) (version_at pinned.view place) ≡ Some row → read_at_position width pinned (rowed_at pinned.view place.group) place.position ≡ Some (version.key, row)
read_there width pinned place version row is at_version at_row =
    let held = passing (is_read pinned) (rowed_at pinned.view place.group) place.position is in
    let x = held.0 in
    let stands : version_at pinned.view place ≡ Some x = at_place pinned.view place.group place.position ∙ held.1 in
    let same : x.version ≡ version = same_Some x.version version (sym (ap (option_map (λ (rowed : Rowed). rowed.version)) stands) ∙ at_version) in
    let cells : padded width x.row ≡ row = same_Some (padded width x.row) row (sym (ap (option_map (λ (rowed : Rowed). padded width rowed.row)) stands) ∙ at_row) in
    ap (option_and_then (read_row width pinned)) held.1
    ∙ ap (λ t. cond t (Some (shown_row width x)) None) held.2
    ∙ ap (λ (v : Version). Some (v.key, padded width x.row)) same
    ∙ ap (λ (l : List Value). Some (version.key, l)) cells

pub row_there : (width : ℕ) (pinned : Pinned) (place : Place) (row : List Value) → PassesAt (is_read pinned) (rowed_at pinned.view place.group) place.position → option_map (λ (rowed : Rowed). padded width rowed.row) (version_at pinned.view place) ≡ Some row
    → (key : Key) × (read_at_position width pinned (rowed_at pinned.view place.group) place.position ≡ Some (key, row))
row_there width pinned place row is at_row =
    let held = passing (is_read pinned) (rowed_at pinned.view place.group) place.position is in
    let stands : version_at pinned.view place ≡ Some held.0 = at_place pinned.view place.group place.position ∙ held.1 in
    (held.0.version.key, read_there width pinned place held.0.version row is (ap (option_map (λ (rowed : Rowed). rowed.version)) stands) at_row)
