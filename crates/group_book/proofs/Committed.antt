-- How a commit moves the groups.
use Rattle.std.proofs.Common.{◌≡◌, ◌≢◌, ℕ, ◌<◌, ◌≤◌, ◌⊎◌, Bool, true, false, cond, List, [], ◌∷◌, ◌++◌, map, length, refl, sym, subst, inl, inr, arith}
use Rattle.std.specs.Prelude.{nat_lt}
use Rattle.std.specs.List.{list_any, Contains}
use Rattle.std.proofs.lemmas.List.Elements.{All-contains, All-from_recursion}
use Rattle.cs_types.specs.declared.Key.{Key}
use Rattle.group_book.specs.Book.{Version, Content, Group, Book, is_opened}
use Rattle.group_book.specs.Book.Content.{Opened, Closed, Compressed, Invisible, Tombstone}
use Rattle.group_book.specs.Commits.{Sizes, ended_by, with_opened, after_ends, direct_parts, new_version, with_group, after_loads, store_of, with_version, stored, after_rest, after_commit}
use Rattle.group_book.specs.States.{State, state_in, state_of, commit_transitions, GroupsMoveBy}
use Rattle.group_book.specs.States.State.{Absent, IsOpen, IsClosed, IsCompressed, IsInvisible, IsTombstone}
use Rattle.group_book.proofs.Lists.{every_one}
use Rattle.group_book.proofs.Moves.{MovesBy, states_changed, gone_changed, moved, itself, grown}

abbrev Moves : State → State → Type 0
Moves s t = MovesBy commit_transitions s t

-- ---- two moves are one

-- a commit moves no closed store and no packed group
none_from_closed : (s t : State) → Moves IsClosed s → Moves t IsClosed → Moves t s
none_from_closed s t moves before = elim moves [
  | inl same ↦ subst (Moves t) same before
  | inr listed ↦ absurd (All-contains (λ (move : State × State). move.0 ≡ IsClosed → ⊥) commit_transitions (IsClosed, s) (All-from_recursion (λ (move : State × State). move.0 ≡ IsClosed → ⊥) commit_transitions ((λ e. cc), ((λ e. cc), ((λ e. cc), ((λ e. cc), tt))))) listed refl)
]

none_from_packed : (s t : State) → Moves IsCompressed s → Moves t IsCompressed → Moves t s
none_from_packed s t moves before = elim moves [
  | inl same ↦ subst (Moves t) same before
  | inr listed ↦ absurd (All-contains (λ (move : State × State). move.0 ≡ IsCompressed → ⊥) commit_transitions (IsCompressed, s) (All-from_recursion (λ (move : State × State). move.0 ≡ IsCompressed → ⊥) commit_transitions ((λ e. cc), ((λ e. cc), ((λ e. cc), ((λ e. cc), tt))))) listed refl)
]

-- a store that the commit opened may be closed by it
opened_first : (s : State) → Moves IsOpen s → Moves Absent s
opened_first s moves = elim moves [
  | inl same ↦ subst (Moves Absent) same (inr (0, omega arith, refl))
  | inr listed ↦ All-contains (λ (move : State × State). move.0 ≡ IsOpen → Moves Absent move.1) commit_transitions (IsOpen, s) (All-from_recursion (λ (move : State × State). move.0 ≡ IsOpen → Moves Absent move.1) commit_transitions ((λ e. cc), ((λ e. inr (2, omega arith, refl)), ((λ e. cc), ((λ e. cc), tt))))) listed refl
]

-- what a transition leads to may move on
abbrev GoesOn : State × State → Type 0
GoesOn move = (s : State) → Moves move.1 s → Moves move.0 s

each_goes_on : (move : State × State) → Contains commit_transitions move → GoesOn move
each_goes_on move listed = All-contains GoesOn commit_transitions move (All-from_recursion GoesOn commit_transitions (
  opened_first,
  (
    (λ s moves. none_from_closed s IsOpen moves (inr (1, omega arith, refl))),
    ((λ s moves. none_from_closed s Absent moves (inr (2, omega arith, refl))), ((λ s moves. none_from_packed s Absent moves (inr (3, omega arith, refl))), tt)),
  ),
)) listed

both_moves : (s t u : State) → Moves s t → Moves t u → Moves s u
both_moves s t u first second = elim first [ inl same ↦ subst (λ v. Moves v u) (sym same) second | inr listed ↦ each_goes_on (s, t) listed u second ]

-- ---- ids that get a group

is_none_or_not : (s : State) → (s ≡ Absent) ⊎ (s ≢ Absent)
is_none_or_not Absent = inl refl
is_none_or_not IsOpen = inr (λ e. cc)
is_none_or_not IsClosed = inr (λ e. cc)
is_none_or_not IsCompressed = inr (λ e. cc)
is_none_or_not IsInvisible = inr (λ e. cc)
is_none_or_not IsTombstone = inr (λ e. cc)

-- an id that gets a group on the way gets it on the first part, or on the second
both_draw : (book next made : Book) → GroupsMoveBy commit_transitions book next → GroupsMoveBy commit_transitions next made → (id : ℕ) → state_of book.groups id ≡ Absent → state_of made.groups id ≢ Absent → (book.next ≤ id) × (id < made.next)
both_draw book next made first second id is there =
    let a = first.next in
    let b = second.next in
    elim (is_none_or_not (state_of next.groups id)) [
      | inl none ↦ let drawn = second.drawn id none there in let low = drawn.0 in let high = drawn.1 in (omega (arith, a, low), high)
      | inr come ↦ let drawn = first.drawn id is come in let low = drawn.0 in let high = drawn.1 in (low, omega (arith, b, high))
    ]

-- one event after another
then_moves : (book next made : Book) → GroupsMoveBy commit_transitions book next → GroupsMoveBy commit_transitions next made → GroupsMoveBy commit_transitions book made
then_moves book next made first second = record {
  each = λ id. both_moves (state_of book.groups id) (state_of next.groups id) (state_of made.groups id) (first.each id) (second.each id);
  next = let a = first.next in let b = second.next in omega (arith, a, b);
  drawn = both_draw book next made first second;
}

-- ---- the parts of a commit

same_opened : (f : List Version → List Version) (content : Content) → state_in content ≡ state_in (with_opened f content)
same_opened f (Opened versions) = refl
same_opened f (Closed versions) = refl
same_opened f (Compressed versions) = refl
same_opened f Invisible = refl
same_opened f (Tombstone versions ends) = refl

ends_move : (replaced : List Key) (c : ℕ) (book : Book) → GroupsMoveBy commit_transitions book (after_ends replaced c book)
ends_move replaced c book =
    let made : Group → Content = (λ g. with_opened (map (ended_by replaced c)) g.content) in
    moved commit_transitions book (after_ends replaced c book) refl (states_changed commit_transitions made book.groups (every_one _ (λ g. inl (same_opened (map (ended_by replaced c)) g.content)) book.groups)) (gone_changed made book.groups)

loads_move : (c : ℕ) (parts : List (List Key)) (book : Book) → GroupsMoveBy commit_transitions book (after_loads c parts book)
loads_move c [] book = itself commit_transitions book
loads_move c (part ∷ parts) book =
    let next : Book = with_group (Compressed (map (new_version c) part)) book in
    then_moves book next (after_loads c parts next) (grown commit_transitions (Compressed (map (new_version c) part)) book.claims book (inr (3, omega arith, refl))) (loads_move c parts next)

-- a store is open or closed
store_is : (P : State → Type 0) (group_rows : ℕ) (versions : List Version) → P IsOpen → P IsClosed → P (state_in (store_of group_rows versions))
store_is P group_rows versions is_open is_closed = step (nat_lt (length versions) group_rows)
  where
    step : (t : Bool) → P (state_in (cond t (Opened versions) (Closed versions)))
    step true = is_open
    step false = is_closed

version_moves : (group_rows : ℕ) (version : Version) (content : Content) → Moves (state_in content) (state_in (with_version group_rows version content))
version_moves group_rows version (Opened versions) = store_is (Moves IsOpen) group_rows (versions ++ version ∷ []) (inl refl) (inr (1, omega arith, refl))
version_moves group_rows version (Closed versions) = inl refl
version_moves group_rows version (Compressed versions) = inl refl
version_moves group_rows version Invisible = inl refl
version_moves group_rows version (Tombstone versions ends) = inl refl

abbrev filled : ℕ → Version → Book → Book
filled group_rows version book = record book { groups = map (λ (g : Group). record g { content = with_version group_rows version g.content }) book.groups }

stored_moves : (group_rows : ℕ) (version : Version) (book : Book) → GroupsMoveBy commit_transitions book (stored group_rows version book)
stored_moves group_rows version book = step (list_any (λ (g : Group). is_opened g.content) book.groups)
  where
    step : (t : Bool) → GroupsMoveBy commit_transitions book (cond t (filled group_rows version book) (with_group (store_of group_rows (version ∷ [])) book))
    step true = let made : Group → Content = (λ g. with_version group_rows version g.content) in
        moved commit_transitions book (filled group_rows version book) refl (states_changed commit_transitions made book.groups (every_one _ (λ g. version_moves group_rows version g.content) book.groups)) (gone_changed made book.groups)
    step false = grown commit_transitions (store_of group_rows (version ∷ [])) book.claims book (store_is (Moves Absent) group_rows (version ∷ []) (inr (0, omega arith, refl)) (inr (2, omega arith, refl)))

rest_moves : (group_rows c : ℕ) (keys : List Key) (book : Book) → GroupsMoveBy commit_transitions book (after_rest group_rows c keys book)
rest_moves group_rows c [] book = itself commit_transitions book
rest_moves group_rows c (key ∷ keys) book =
    let next : Book = stored group_rows (new_version c key) book in
    then_moves book next (after_rest group_rows c keys next) (stored_moves group_rows (new_version c key) book) (rest_moves group_rows c keys next)

-- ---- the commit

pub commit_moves : (sizes : Sizes) (book : Book) (c : ℕ) (replaced inserted : List Key) → GroupsMoveBy commit_transitions book (after_commit sizes c replaced inserted book)
commit_moves sizes book c replaced inserted =
    let parts : List (List Key) × List Key = direct_parts (length inserted) sizes inserted in
    let ended : Book = after_ends replaced c book in
    let loaded : Book = after_loads c parts.0 ended in
    let done : Book = after_rest sizes.group_rows c parts.1 loaded in
    then_moves book loaded done (then_moves book ended loaded (ends_move replaced c book) (loads_move c parts.0 ended)) (rest_moves sizes.group_rows c parts.1 loaded)
