-- The first pair of groups that fit together, by a walk from the last group back.
use Rattle.std.proofs.Common.{◌≡◌, ℕ, suc, ◌<◌, ◌≤◌, ◌+◌, inl, inr, Bool, true, false, ◌||◌, cond, leb, min, List, [], ◌∷◌, map, filter, length, get_or, drop, drop-cons, Option, None, Some, unwrap_or, refl, sym, ap, ◌∙◌, arith}
use Rattle.std.specs.List.{list_any}
use Rattle.std.specs.Option.{option_map}
use Rattle.std.proofs.lemmas.Bool.{cases_lt, le-leb, lt-leb}
use Rattle.std.proofs.lemmas.Option.{same_Some}
use Rattle.group_book.specs.Book.{Claim, Group}
use Rattle.group_book.specs.Turns.{lesser}
use Rattle.group_book.specs.Choices.{first_of, first_pair, fit_together, free_packed, lowest, or_else, remaining}
use Rattle.group_view.specs.declared.groups.Group.{Group as Kept}
use Rattle.group_view.specs.declared.groups.GroupList.{GroupList}
use Rattle.group_view.specs.Books.{book_of, group_of}
use Rattle.group_view.specs.declared.pairs.Scan.{Scan}
use Rattle.group_view.specs.Walks.{fits_beside, is_free_packed, least_remaining, packed_from, IsScanOf}
use Rattle.group_view.proofs.Chosen.{free_packed_is}
use Rattle.group_view.proofs.Walks.{or_false}

-- ---- the least that remains

-- the lesser of two numbers fits where one of them does
lesser_fits : (kept a b room : ℕ) → leb (kept + min a b) room ≡ (leb (kept + a) room || leb (kept + b) room)
lesser_fits kept a b room = elim (cases_lt room (kept + a)) [
  | inr fits ↦
      let less : kept + min a b ≤ room = omega (arith, fits) in
      le-leb (kept + min a b) room less ∙ ap (λ t. t || leb (kept + b) room) (sym (le-leb (kept + a) room fits))
  | inl over ↦ elim (cases_lt room (kept + b)) [
    | inr fits ↦
        let less : kept + min a b ≤ room = omega (arith, fits) in
        le-leb (kept + min a b) room less ∙ rw (lt-leb (kept + a) room over, le-leb (kept + b) room fits) refl
    | inl more ↦
        let far : room < kept + min a b = omega (arith, over, more) in
        lt-leb (kept + min a b) room far ∙ rw (lt-leb (kept + a) room over, lt-leb (kept + b) room more) refl
  ]
]

module _ (floor group_rows kept : ℕ) where
  -- the least that remains of some groups fits beside so many versions
  abbrev pub is_room : Option ℕ → Bool
  is_room least = unwrap_or (option_map (λ other. leb (kept + other) group_rows) least) false

  room_step : (a : ℕ) (least : Option ℕ) (t : Bool) → is_room least ≡ t → is_room (lesser a least) ≡ (leb (kept + a) group_rows || t)
  room_step a None t is = sym (or_false (leb (kept + a) group_rows)) ∙ ap (λ u. leb (kept + a) group_rows || u) is
  room_step a (Some b) t is = lesser_fits kept a b group_rows ∙ ap (λ u. leb (kept + a) group_rows || u) is

  -- it does where one of them fits
  pub room_any : (groups : List Group) → is_room (least_remaining floor groups) ≡ list_any (fits_beside floor group_rows kept) groups
  room_any [] = refl
  room_any (group ∷ groups) = room_step (remaining floor group) (least_remaining floor groups) (list_any (fits_beside floor group_rows kept) groups) (room_any groups)

-- ---- the first that passes

none_lowest : (test : Group → Bool) (groups : List Group) → list_any test groups ≡ false → lowest test groups ≡ None
none_lowest test [] none = refl
none_lowest test (group ∷ groups) none = step (test group) none (none_lowest test groups)
  where
    step : (t : Bool) → (t || list_any test groups) ≡ false → (list_any test groups ≡ false → lowest test groups ≡ None) → option_map (λ (g : Group). g.id) (first_of (cond t (group ∷ filter test groups) (filter test groups))) ≡ None
    step true none rest = cc
    step false none rest = rest none

some_lowest : (test : Group → Bool) (groups : List Group) → list_any test groups ≡ true → (id : ℕ) × (lowest test groups ≡ Some id)
some_lowest test [] some = cc
some_lowest test (group ∷ groups) some = step (test group) some (some_lowest test groups)
  where
    step : (t : Bool) → (t || list_any test groups) ≡ true → (list_any test groups ≡ true → (id : ℕ) × (lowest test groups ≡ Some id)) → (id : ℕ) × (option_map (λ (g : Group). g.id) (first_of (cond t (group ∷ filter test groups) (filter test groups))) ≡ Some id)
    step true some rest = (group.id, refl)
    step false some rest = rest some

first_one : {X Y : Type 0} (f : X → Y) (o : Option X) (other : Option Y) (x : X) → o ≡ Some x → or_else (option_map f o) other ≡ option_map f o
first_one f None other x is = cc
first_one f (Some y) other x is = refl

module _ (floor group_rows : ℕ) (group : Group) (groups : List Group) where
  abbrev fits : Group → Bool
  fits = fit_together floor group_rows group

  abbrev paired : ℕ → ℕ × ℕ
  paired second = (group.id, second)

  pub pair_here : list_any fits groups ≡ true → first_pair floor group_rows (group ∷ groups) ≡ option_map paired (lowest fits groups)
  pair_here some = let found = some_lowest fits groups some in first_one paired (lowest fits groups) (first_pair floor group_rows groups) found.0 found.1

  pub pair_behind : list_any fits groups ≡ false → first_pair floor group_rows (group ∷ groups) ≡ first_pair floor group_rows groups
  pair_behind none = ap (λ (o : Option ℕ). or_else (option_map paired o) (first_pair floor group_rows groups)) (none_lowest fits groups none)

-- ---- the walk

-- what is read of a group
pub kept_some : (t : Bool) (r kept : ℕ) → Some kept ≡ cond t (Some r) None → (t ≡ true) × (kept ≡ r)
kept_some true r kept is = (refl, same_Some kept r is)
kept_some false r kept is = cc

module _ (floor group_rows : ℕ) (list : GroupList) where
  abbrev claims : List Claim
  claims = (book_of list).claims

  packed_of : (groups : List Kept) → free_packed (record (book_of list) { groups = map group_of groups }) ≡ filter (is_free_packed claims) (map group_of groups)
  packed_of groups = free_packed_is (record (book_of list) { groups = map group_of groups })

  module _ (place : ℕ) (group : Kept) (inside : place < length list.groups.items) (at : get_or list.groups.items place group ≡ group) where
    abbrev here : Group
    here = group_of group

    dropped : drop place list.groups.items ≡ group ∷ drop (place + 1) list.groups.items
    dropped =
        let next : suc place ≡ place + 1 = omega arith in
        drop-cons list.groups.items place group inside ∙ ap (λ (x : Kept). x ∷ drop (suc place) list.groups.items) at ∙ ap (λ (n : ℕ). group ∷ drop n list.groups.items) next

    packed_here : packed_from place list ≡ cond (is_free_packed claims here) (here ∷ packed_from (place + 1) list) (packed_from (place + 1) list)
    packed_here =
        ap (λ (groups : List Kept). free_packed (record (book_of list) { groups = map group_of groups })) dropped
        ∙ packed_of (group ∷ drop (place + 1) list.groups.items)
        ∙ ap (λ (groups : List Group). cond (is_free_packed claims here) (here ∷ groups) groups) (sym (packed_of (drop (place + 1) list.groups.items)))

    module _ (scan : Scan) (is : IsScanOf floor group_rows list (place + 1) scan) where
      module _ (free : is_free_packed claims here ≡ true) (kept least : ℕ) (kept_is : kept ≡ remaining floor here) (least_is : Some least ≡ lesser kept scan.least) where
        more : packed_from place list ≡ here ∷ packed_from (place + 1) list
        more = packed_here ∙ ap (λ (t : Bool). cond t (here ∷ packed_from (place + 1) list) (packed_from (place + 1) list)) free

        least_more : Some least ≡ least_remaining floor (packed_from place list)
        least_more =
            least_is ∙ ap (lesser kept) is.least ∙ ap (λ (n : ℕ). lesser n (least_remaining floor (packed_from (place + 1) list))) kept_is
            ∙ sym (ap (least_remaining floor) more)

        any_is : is_room floor group_rows kept scan.least ≡ list_any (fit_together floor group_rows here) (packed_from (place + 1) list)
        any_is =
            ap (is_room floor group_rows kept) is.least ∙ room_any floor group_rows kept (packed_from (place + 1) list)
            ∙ ap (λ (n : ℕ). list_any (fits_beside floor group_rows n) (packed_from (place + 1) list)) kept_is

        pub scan_first : is_room floor group_rows kept scan.least ≡ true → IsScanOf floor group_rows list place (record { least = Some least; half = Some (record { id = group.id; kept = kept; next = place + 1 }) })
        scan_first room = record {
          least = least_more;
          pair =
              ap (first_pair floor group_rows) more ∙ pair_here floor group_rows here (packed_from (place + 1) list) (sym any_is ∙ room)
              ∙ ap (λ (n : ℕ). option_map (λ second. (group.id, second)) (lowest (fits_beside floor group_rows n) (packed_from (place + 1) list))) (sym kept_is);
          within = omega (arith, inside);
        }

        pub scan_kept : is_room floor group_rows kept scan.least ≡ false → IsScanOf floor group_rows list place (record { least = Some least; half = scan.half })
        scan_kept room = record {
          least = least_more;
          pair = ap (first_pair floor group_rows) more ∙ pair_behind floor group_rows here (packed_from (place + 1) list) (sym any_is ∙ room) ∙ is.pair;
          within = is.within;
        }
