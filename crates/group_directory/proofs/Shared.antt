-- What is shared of a list of groups, group by group.
use Rattle.std.proofs.Common.{◌≡◌, ℕ, zero, suc, ◌<◌, ◌+◌, Bool, true, false, cond, eqb, List, [], ◌∷◌, ◌++◌, map, filter, length, get_or, take, drop, Option, None, Some, refl, sym, ap, ◌∙◌, arith}
use Rattle.std.specs.Prelude.{◌==◌, slice_get, IfOk, Result, Ok, Err}
use Rattle.std.specs.List.{AllByRecursion}
use Rattle.std.specs.Option.{option_map}
use Rattle.std.proofs.lemmas.Bool.{eq-eqb}
use Rattle.std.proofs.lemmas.List.{map-append, take_more, get_or-map, length-map, drop_more, take-append-drop}
use Rattle.std.proofs.lemmas.List.Elements.{filter-append, recursion_from_All, All-from_recursion, All-get_or}
use Rattle.std.proofs.lemmas.Option.{slice_get-map, slice_get_within, get_or_from_slice_get}
use Rattle.group_book.specs.Book as book
use Rattle.group_book.specs.Book.{how_many, is_opened}
use Rattle.group_book.specs.Choices.{first_of}
use Rattle.group_book.proofs.Lists.{list_any-some}
use Rattle.group_view.specs.declared.groups.Group.{Group}
use Rattle.group_view.specs.declared.groups.GroupList.{GroupList}
use Rattle.group_view.specs.declared.parts.GroupPart.{GroupPart}
use Rattle.group_view.specs.declared.view.GroupView.{GroupView}
use Rattle.group_view.specs.Parts.{packed_parts}
use Rattle.group_view.specs.Books.{group_of}
use Rattle.group_view.specs.Lists.{is_open, listed, packed_in, IsOpenAt}
use Rattle.group_view.specs.Seen.{Seen, seen, shows, entry_of, part_entry}
use Rattle.group_directory.specs.Sharing.{picks, is_next, is_number_of, AreNamed, IsViewOf}
use Rattle.group_directory.proofs.Books.{open_kind, listed_seen}
use Rattle.group_directory.proofs.Opened.{opens}
use Rattle.group_directory.proofs.PackedLaws.{packed_listed}

-- ---- lists whose groups are seen alike

pub map-through : {X Y Z : Type 0} (f : Y → Z) (g : X → Y) (xs : List X) → map (λ x. f (g x)) xs ≡ map f (map g xs)
map-through f g [] = refl
map-through f g (x ∷ xs) = ap (λ l. f (g x) ∷ l) (map-through f g xs)

pub same_groups : (gs hs : List Group) → map seen gs ≡ map seen hs → map group_of gs ≡ map group_of hs
same_groups gs hs e = map-through (λ (s : Seen). s.group) seen gs ∙ ap (map (λ (s : Seen). s.group)) e ∙ sym (map-through (λ (s : Seen). s.group) seen hs)

pub same_listed : (gs hs : List Group) → map seen gs ≡ map seen hs → listed gs ≡ listed hs
same_listed gs hs e = listed_seen gs ∙ ap (λ l. map entry_of (filter shows l)) e ∙ sym (listed_seen hs)

-- whether each is the open one
abbrev kind : book.Group → Bool
kind group = is_opened group.content

opens_book : (gs : List Group) → map opens gs ≡ map kind (map group_of gs)
opens_book [] = refl
opens_book (g ∷ gs) = rw (open_kind g.content, opens_book gs) refl

read_at : (gs : List Group) (k : ℕ) (b : Bool) → slice_get (map opens gs) k ≡ Some b → (g : Group) × (slice_get gs k ≡ Some g) × (opens g ≡ b)
read_at [] k b at = cc
read_at (g ∷ gs) zero b at = (g, refl, cc)
read_at (g ∷ gs) (suc k) b at = read_at gs k b at

none_open : (xs ys : List Group) → map opens xs ≡ map opens ys → AllByRecursion (λ g. opens g ≡ false) xs → AllByRecursion (λ g. opens g ≡ false) ys
none_open xs [] e all = tt
none_open [] (y ∷ ys) e all = cc
none_open (x ∷ xs) (y ∷ ys) e all = let here : opens x ≡ opens y = cc in let rest : map opens xs ≡ map opens ys = cc in (sym here ∙ all.0, none_open xs ys rest all.1)

pub open_alike : (xs ys : List Group) (at : Option ℕ) → map opens xs ≡ map opens ys → IsOpenAt xs at → IsOpenAt ys at
open_alike xs ys None e all = All-from_recursion (λ (g : Group). is_open g.content ≡ false) ys (none_open xs ys e (recursion_from_All (λ (g : Group). is_open g.content ≡ false) xs all))
open_alike xs ys (Some at) e h = (
  sym (slice_get-map opens ys at) ∙ ap (λ l. slice_get l at) (sym e) ∙ slice_get-map opens xs at ∙ h.0,
  λ other apart g there.
      let old = read_at xs other (opens g) (ap (λ l. slice_get l other) e ∙ slice_get-map opens ys other ∙ ap (option_map opens) there) in
      sym old.2 ∙ h.1 other apart old.0 old.1,
)

pub same_open : (gs hs : List Group) (opened : Option ℕ) → map group_of gs ≡ map group_of hs → IsOpenAt gs opened → IsOpenAt hs opened
same_open gs hs opened e h = open_alike gs hs opened (opens_book gs ∙ ap (map kind) e ∙ sym (opens_book hs)) h

-- ---- one group more

pub picked_more : {X : Type 0} (f : List Seen → List X) → ((xs ys : List Seen) → f (xs ++ ys) ≡ f xs ++ f ys) → (test : Seen → Bool) (all : List Seen) (gs : List Group) (i : ℕ) (g : Group) (done : List X) → map seen gs ≡ all → i < length gs → g ≡ get_or gs i g
    → done ≡ f (filter test (take i all)) → done ++ f (filter test (seen g ∷ [])) ≡ f (filter test (take (i + 1) all))
picked_more f joins test all gs i g done same inside here is =
    let within : i < length all = omega (arith, ap length same, length-map gs seen, inside) in
    let item : get_or all i (seen g) ≡ seen g = ap (λ l. get_or l i (seen g)) (sym same) ∙ get_or-map seen gs i g (seen g) inside ∙ ap seen (sym here) in
    ap (λ l. l ++ f (filter test (seen g ∷ []))) is
    ∙ sym (joins (filter test (take i all)) (filter test (seen g ∷ [])))
    ∙ ap f (sym (filter-append test (take i all) (seen g ∷ [])))
    ∙ ap (λ s. f (filter test (take i all ++ s ∷ []))) (sym item)
    ∙ ap (λ l. f (filter test l)) (sym (take_more all i (seen g) within))

-- ---- the next source

abbrev id_of : Seen → ℕ
id_of group = let content = group.group in content.id

first_behind : {X : Type 0} (xs ys : List X) → slice_get (xs ++ ys) (length xs) ≡ first_of ys
first_behind [] [] = refl
first_behind [] (y ∷ ys) = refl
first_behind (x ∷ xs) ys = first_behind xs ys

next_step : (sources : List ℕ) (s : Seen) (rest : List Seen) (n : ℕ) (t : Bool) → picks sources s ≡ t → slice_get sources n ≡ first_of (map id_of (cond t (s ∷ rest) rest)) → is_next sources n (id_of s) ≡ t
next_step sources s rest n true is at = rw at (eq-eqb (id_of s) (id_of s) refl)
next_step sources s rest n false is at = other (slice_get sources n) refl
  where
    other : (o : Option ℕ) → slice_get sources n ≡ o → is_number_of o (id_of s) ≡ false
    other None e = refl
    other (Some id) e = step (eqb id (id_of s)) refl
      where
        step : (t : Bool) → eqb id (id_of s) ≡ t → t ≡ false
        step true same =
            let inside = slice_get_within sources n id e in
            let here : eqb (get_or sources n id) (id_of s) ≡ true = ap (λ m. eqb m (id_of s)) (get_or_from_slice_get sources n id id e) ∙ same in
            let found = list_any-some (λ m. m == id_of s) sources n id inside here in
            cc
        step false same = refl

pub next_is : (sources : List ℕ) (all : List Seen) (i n : ℕ) (s : Seen) → AreNamed sources all → i < length all → s ≡ get_or all i s → n ≡ length (filter (picks sources) (take i all)) → is_next sources n (id_of s) ≡ picks sources s
next_is sources all i n s named inside here count =
    let parted : all ≡ take i all ++ s ∷ drop (i + 1) all = sym (take-append-drop i all) ∙ ap (λ l. take i all ++ l) (drop_more all i s inside ∙ ap (λ x. x ∷ drop (i + 1) all) (sym here)) in
    let joined : map id_of (filter (picks sources) (take i all)) ++ map id_of (filter (picks sources) (s ∷ drop (i + 1) all)) ≡ sources =
    sym (map-append id_of (filter (picks sources) (take i all)) (filter (picks sources) (s ∷ drop (i + 1) all)))
    ∙ ap (map id_of) (sym (filter-append (picks sources) (take i all) (s ∷ drop (i + 1) all)))
    ∙ ap (λ l. map id_of (filter (picks sources) l)) (sym parted)
    ∙ named.ids in
    let length_is : n ≡ length (map id_of (filter (picks sources) (take i all))) = count ∙ sym (length-map (filter (picks sources) (take i all)) id_of) in
    next_step sources s (filter (picks sources) (drop (i + 1) all)) n (picks sources s) refl
    (ap (λ l. slice_get l n) (sym joined) ∙ ap (slice_get (map id_of (filter (picks sources) (take i all)) ++ map id_of (filter (picks sources) (s ∷ drop (i + 1) all)))) length_is ∙ first_behind (map id_of (filter (picks sources) (take i all))) (map id_of (filter (picks sources) (s ∷ drop (i + 1) all))))

-- a source is shown, so picking it or showing it is one; and what is no source is not picked
pub picked_shown : (sources : List ℕ) (all : List Seen) (i : ℕ) (s : Seen) → AreNamed sources all → i < length all → s ≡ get_or all i s → picks sources s ≡ true → filter shows (s ∷ []) ≡ filter (picks sources) (s ∷ [])
picked_shown sources all i s named inside here is =
    let shown : shows (get_or all i s) ≡ true = All-get_or (λ x. picks sources x ≡ true → shows x ≡ true) all i s inside named.shown (ap (picks sources) (sym here) ∙ is) in
    let now : shows s ≡ true = ap shows here ∙ shown in
    ap (λ t. cond t (s ∷ []) []) (now ∙ sym is)

pub not_picked : (sources : List ℕ) (s : Seen) → picks sources s ≡ false → filter (picks sources) (s ∷ []) ≡ []
not_picked sources s is = rw is refl

-- ---- at a group of the list

-- whether it is the next source says whether it is one
pub next_picks : (sources : List ℕ) (all : List Seen) (gs : List Group) (i n : ℕ) (g : Group) (parts : List (ℕ × GroupPart)) → AreNamed sources all → map seen gs ≡ all → i < length gs → g ≡ get_or gs i g
    → map part_entry parts ≡ map entry_of (filter (picks sources) (take i all)) → n ≡ length parts → (is_next sources n g.id ≡ picks sources (seen g)) × (i < length all) × (seen g ≡ get_or all i (seen g))
next_picks sources all gs i n g parts named same inside here done count =
    let within : i < length all = omega (arith, ap length same, length-map gs seen, inside) in
    let item : seen g ≡ get_or all i (seen g) = ap seen here ∙ sym (get_or-map seen gs i g (seen g) inside) ∙ ap (λ l. get_or l i (seen g)) same in
    let number : n ≡ length (filter (picks sources) (take i all)) = count ∙ sym (length-map parts part_entry) ∙ ap length done ∙ length-map (filter (picks sources) (take i all)) entry_of in
    (next_is sources all i n (seen g) named within item number, within, item)

-- what a view shows of all groups
pub shown_listed : {E : Type 0} (r : Result GroupView E) (list : GroupList) (least last : ℕ) → IfOk r (IsViewOf shows list least last) → IfOk r (λ view. map part_entry view.groups ≡ listed list.groups.items)
shown_listed (Ok view) list least last is = is.groups ∙ sym (listed_seen list.groups.items)
shown_listed (Err e) list least last is = tt

pub shown_packed : {E : Type 0} (r : Result GroupView E) (list : GroupList) (least last : ℕ) → IfOk r (IsViewOf shows list least last) → IfOk r (λ view. packed_parts view.groups ≡ packed_in list.groups.items)
shown_packed (Ok view) list least last is = is.packed ∙ packed_listed list.groups.items
shown_packed (Err e) list least last is = tt
