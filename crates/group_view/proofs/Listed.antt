-- The versions of a list of groups, as a view of it has them and as its book does.
use Rattle.std.proofs.Common.{◌≡◌, ℕ, ◌≤◌, cond, List, [], ◌∷◌, ◌++◌, map, refl, sym, ap, ◌∙◌, subst, append_assoc}
use Rattle.std.specs.List.{All, flat_map}
use Rattle.std.specs.List.Sorted.{IsPermutation}
use Rattle.std.proofs.lemmas.List.{map-append}
use Rattle.std.proofs.lemmas.List.Sorted.{IsPermutation-append_comm, IsPermutation-append_left, IsPermutation-append_right, IsPermutation-refl, IsPermutation-trans}
use Rattle.cs_model.specs.Changes.{Change}
use Rattle.group_book.specs.Book.{Version, opened, opened_in, frozen, frozen_in}
use Rattle.group_view.specs.declared.groups.Group.{Group}
use Rattle.group_view.specs.declared.groups.GroupContent.{GroupContent}
use Rattle.group_view.specs.declared.groups.GroupContent.TheVariants.{Opened, Closed, Compressed, Invisible, Tombstone}
use Rattle.group_view.specs.declared.groups.GroupList.{GroupList}
use Rattle.group_view.specs.declared.parts.GroupPart.{GroupPart}
use Rattle.group_view.specs.declared.view.GroupView.{GroupView}
use Rattle.group_view.specs.Parts.{Rowed, rowed_in, IsFitting}
use Rattle.group_view.specs.Views.{rowed_of}
use Rattle.group_view.specs.Books.{versions_of, rowed_in_content, content_of, group_of, book_of}
use Rattle.group_view.specs.Lists.{is_listed, listed}
use Rattle.group_view.specs.Laws.{IsMadeRow, IsTakenOf, IsViewOf}

first_in : (more xs ys zs : List Version) → IsPermutation (xs ++ ys) zs → IsPermutation ((more ++ xs) ++ ys) (more ++ zs)
first_in more xs ys zs moved = subst (λ (list : List Version). IsPermutation list (more ++ zs)) (sym (append_assoc more xs ys)) (IsPermutation-append_right more (xs ++ ys) zs moved)

second_in : (more xs ys zs : List Version) → IsPermutation (xs ++ ys) zs → IsPermutation (xs ++ (more ++ ys)) (more ++ zs)
second_in more xs ys zs moved =
    IsPermutation-trans (xs ++ (more ++ ys)) ((more ++ xs) ++ ys) (more ++ zs)
    (subst (λ (list : List Version). IsPermutation list ((more ++ xs) ++ ys)) (append_assoc xs more ys) (IsPermutation-append_left ys (xs ++ more) (more ++ xs) (IsPermutation-append_comm xs more)))
    (first_in more xs ys zs moved)

abbrev rows_in : ℕ × List Rowed → List Rowed
rows_in group = group.1

joined : (id : ℕ) (rows : List Rowed) (others : List (ℕ × List Rowed)) → versions_of (flat_map rows_in ((id, rows) ∷ others)) ≡ versions_of rows ++ versions_of (flat_map rows_in others)
joined id rows others = map-append (λ (rowed : Rowed). rowed.version) rows (flat_map rows_in others)

module _ (xs ys : List Version) (others : List (ℕ × List Rowed)) (rest : IsPermutation (xs ++ ys) (versions_of (flat_map rows_in others))) (id : ℕ) (rows : List Rowed) where
  put_first : IsPermutation ((versions_of rows ++ xs) ++ ys) (versions_of (flat_map rows_in ((id, rows) ∷ others)))
  put_first = subst (IsPermutation ((versions_of rows ++ xs) ++ ys)) (sym (joined id rows others)) (first_in (versions_of rows) xs ys (versions_of (flat_map rows_in others)) rest)

  put_second : IsPermutation (xs ++ (versions_of rows ++ ys)) (versions_of (flat_map rows_in ((id, rows) ∷ others)))
  put_second = subst (IsPermutation (xs ++ (versions_of rows ++ ys))) (sym (joined id rows others)) (second_in (versions_of rows) xs ys (versions_of (flat_map rows_in others)) rest)

listed_step : (id : ℕ) (content : GroupContent) (xs ys : List Version) (others : List (ℕ × List Rowed)) → IsPermutation (xs ++ ys) (versions_of (flat_map rows_in others))
    → IsPermutation ((opened_in (content_of content) ++ xs) ++ (frozen_in (content_of content) ++ ys)) (versions_of (flat_map rows_in (cond (is_listed content) ((id, rowed_in_content content) ∷ others) others)))
listed_step id (Opened store) xs ys others rest = put_first xs ys others rest id (rowed_in_content (Opened store))
listed_step id (Closed store) xs ys others rest = put_second xs ys others rest id (rowed_in_content (Closed store))
listed_step id (Compressed packed marks) xs ys others rest = put_second xs ys others rest id (rowed_in_content (Compressed packed marks))
listed_step id Invisible xs ys others rest = rest
listed_step id (Tombstone total deleted) xs ys others rest = rest

-- the groups of a list that a view shows have the versions of its book's open store and of those that take no more rows
pub listed_versions : (groups : List Group) → IsPermutation (opened (map group_of groups) ++ frozen (map group_of groups)) (versions_of (flat_map rows_in (listed groups)))
listed_versions [] = IsPermutation-refl []
listed_versions (group ∷ groups) = listed_step group.id group.content (opened (map group_of groups)) (frozen (map group_of groups)) (listed groups) (listed_versions groups)

-- the versions of a view by its groups
pub rows_of_groups : (groups : List (ℕ × GroupPart)) → flat_map rows_in (map (λ (group : ℕ × GroupPart). (group.0, rowed_in group.1)) groups) ≡ flat_map (λ (group : ℕ × GroupPart). rowed_in group.1) groups
rows_of_groups [] = refl
rows_of_groups (group ∷ groups) = ap (λ (rows : List Rowed). rowed_in group.1 ++ rows) (rows_of_groups groups)

module _ (width : ℕ) (list : GroupList) (view : GroupView) (changes : List Change) (within : view.floor ≤ view.clock) (fitting : All (λ (group : ℕ × GroupPart). IsFitting group.1) view.groups) (taken : IsTakenOf list view) (rows : All (IsMadeRow width changes) (flat_map rows_in (listed list.groups.items))) where
  rows_are : flat_map rows_in (listed list.groups.items) ≡ rowed_of view
  rows_are = ap (flat_map rows_in) (sym taken.groups) ∙ rows_of_groups view.groups

  pub view_taken : IsViewOf width view (book_of list) changes
  view_taken = record {
    fitting = fitting;
    within = within;
    versions = subst (λ (versions : List Rowed). IsPermutation (opened (map group_of list.groups.items) ++ frozen (map group_of list.groups.items)) (versions_of versions)) rows_are (listed_versions list.groups.items);
    buffer = taken.buffer;
    rows = subst (λ (versions : List Rowed). All (IsMadeRow width changes) versions) rows_are rows;
  }
