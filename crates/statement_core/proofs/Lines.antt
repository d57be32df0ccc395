-- The lines of a ledger are those of a book's groups.
use Rattle.std.proofs.Common.{◌≡◌, ℕ, ◌+◌, ◌<◌, ◌≤◌, List, [], ◌∷◌, length, get_or, map, filter, refl, sym, ap, ◌∙◌, cond, Bool, true, false, not, count_by, inl, inr, Result, Ok, Err, arith}
use Rattle.std.specs.Prelude.{◌==◌, ◌&&◌, is_ok, IsPermutation, IsSorted}
use Rattle.std.specs.List.{list_any}
use Rattle.std.specs.List.Sorted.{IsBinarySearchResult}
use Rattle.std.specs.Ordering.{nat_cmp}
use Rattle.std.proofs.lemmas.Bool.{cases_lt, eq-eqb, eqb-true}
use Rattle.std.proofs.lemmas.List.{get_or_default}
use Rattle.std.proofs.lemmas.List.Folds.{Any-from_list_any}
use Rattle.std.proofs.lemmas.List.Sorted.{list_any-IsPermutation, searched, IsNonDecreasingBy-from_sort}
use Rattle.cs_model.specs.declared.work.Actor.{Actor}
use Rattle.cs_model.specs.declared.report.GroupLine.{GroupLine}
use Rattle.group_book.specs.Book.{Content, Group, how_many}
use Rattle.group_book.specs.Book.Content.{Opened, Closed, Compressed, Invisible, Tombstone}
use Rattle.group_book.specs.Book as book
use Rattle.group_book.specs.Turns.{same_actor}
use Rattle.group_book.proofs.Lists.{list_any-some}
use Rattle.group_book.proofs.Move.{count_by-how_many}
use Rattle.group_log.specs.Reorganizing.{is_kept}
use Rattle.group_log.specs.Reorganizing as group
use Rattle.group_log.specs.Reports.{line_of, state_of}
use Rattle.statement_core.specs.Lines.{is_closed, is_in_use}

in_use : (content : Content) → is_in_use (state_of content) ≡ group.is_in_use content
in_use (Opened versions) = refl
in_use (Closed versions) = refl
in_use (Compressed versions) = refl
in_use Invisible = refl
in_use (Tombstone versions ends) = refl

closed : (content : Content) → is_closed (state_of content) ≡ book.is_closed content
closed (Opened versions) = refl
closed (Closed versions) = refl
closed (Compressed versions) = refl
closed Invisible = refl
closed (Tombstone versions ends) = refl

how_many_lines : (groups : List Group) → how_many (λ (line : GroupLine). is_in_use line.state) (map line_of groups) ≡ how_many (λ (one : Group). group.is_in_use one.content) groups
how_many_lines [] = refl
how_many_lines (one ∷ groups) =
    ap (λ t. cond t 1 0 + how_many (λ (line : GroupLine). is_in_use line.state) (map line_of groups)) (in_use one.content)
    ∙ ap (λ n. cond (group.is_in_use one.content) 1 0 + n) (how_many_lines groups)

pub in_use_lines : (groups : List Group) → count_by (λ (line : GroupLine). is_in_use line.state) (map line_of groups) ≡ how_many (λ (one : Group). group.is_in_use one.content) groups
in_use_lines groups = count_by-how_many (λ (line : GroupLine). is_in_use line.state) (map line_of groups) ∙ how_many_lines groups

abbrev closed_in : List GroupLine → List GroupLine
closed_in lines = filter (λ (line : GroupLine). is_closed line.state) lines

abbrev stores_in : List Group → List Group
stores_in groups = filter (λ (one : Group). book.is_closed one.content) groups

pub closed_lines : (groups : List Group) → map (λ (line : GroupLine). line.id) (closed_in (map line_of groups)) ≡ map (λ (one : Group). one.id) (stores_in groups)
closed_lines [] = refl
closed_lines (one ∷ groups) =
    ap (λ t. map (λ (line : GroupLine). line.id) (cond t (line_of one ∷ closed_in (map line_of groups)) (closed_in (map line_of groups)))) (closed one.content)
    ∙ at (book.is_closed one.content) (closed_lines groups)
  where
    at : (t : Bool) → map (λ (line : GroupLine). line.id) (closed_in (map line_of groups)) ≡ map (λ (g : Group). g.id) (stores_in groups)
        → map (λ (line : GroupLine). line.id) (cond t (line_of one ∷ closed_in (map line_of groups)) (closed_in (map line_of groups)))
        ≡ map (λ (g : Group). g.id) (cond t (one ∷ stores_in groups) (stores_in groups))
    at true rest = ap (λ ids. one.id ∷ ids) rest
    at false rest = rest

-- ---- the groups that are held

-- the marked ids in another order keep the same groups
pub kept_alike : (marked ordered : List ℕ) (by : Actor) (holders : List (ℕ × Actor)) → IsPermutation marked ordered → filter (is_kept ordered by) holders ≡ filter (is_kept marked by) holders
kept_alike marked ordered by [] alike = refl
kept_alike marked ordered by (held ∷ holders) alike =
    ap (λ t. cond (t && not (same_actor held.1 by)) (held ∷ filter (is_kept ordered by) holders) (filter (is_kept ordered by) holders)) (sym (list_any-IsPermutation (λ id. id == held.0) marked ordered alike))
    ∙ ap (λ rest. cond (is_kept marked by held) (held ∷ rest) rest) (kept_alike marked ordered by holders alike)

-- a search among ids that ascend tells whether the id is there
pub found_in : (ids : List ℕ) (id : ℕ) (r : Result ℕ ℕ) → IsSorted nat_cmp ids → IsBinarySearchResult (λ (other : ℕ). nat_cmp other id) ids r → is_ok r ≡ list_any (λ other. other == id) ids
found_in ids id (Ok place) up is =
    let found = searched ids id (Ok place) is (λ i j le inside. IsNonDecreasingBy-from_sort (λ (other : ℕ). other) ids up i j 0 le inside) in
    sym (list_any-some (λ other. other == id) ids place 0 found.0 (eq-eqb (get_or ids place 0) id found.1))
found_in ids id (Err place) up is = at (list_any (λ other. other == id) ids) refl
  where
    apart : (place ≤ length ids) × ((k : ℕ) → k < place → get_or ids k 0 < id) × ((k : ℕ) → place ≤ k → k < length ids → id < get_or ids k 0)
    apart = searched ids id (Err place) is (λ i j le inside. IsNonDecreasingBy-from_sort (λ (other : ℕ). other) ids up i j 0 le inside)

    nowhere : (k : ℕ) → k < length ids → get_or ids k 0 ≡ id → ⊥
    nowhere k inside there = elim (cases_lt k place) [
      | inl less ↦ let below = apart.1 k less in omega (arith, below, there)
      | inr more ↦ let above = apart.2 k more inside in omega (arith, above, there)
    ]

    at : (t : Bool) → list_any (λ other. other == id) ids ≡ t → false ≡ t
    at true e =
        let any = Any-from_list_any (λ (other : ℕ). other == id) ids e in
        absurd (nowhere any.0 any.2 (get_or_default ids any.0 0 any.1 any.2 ∙ any.3 ∙ eqb-true any.1 id any.4))
    at false e = refl
