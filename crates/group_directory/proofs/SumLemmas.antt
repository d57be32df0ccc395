-- The sums of the groups' counts, one group more at a time.
use Rattle.std.proofs.Common.{◌≡◌, ℕ, ◌+◌, ◌<◌, List, map, take, length, get_or, cond, refl, sym, ap, ◌∙◌}
use Rattle.std.specs.List.{sum_by}
use Rattle.std.proofs.lemmas.List.Recursion.{is_sum_by}
use Rattle.std.proofs.lemmas.List.Sums.{sum_by_more}
use Rattle.group_book.specs.Book.{is_tombstone, total, deleted, total_sum, deleted_sum}
use Rattle.group_view.specs.declared.groups.Group.{Group}
use Rattle.group_view.specs.Books.{content_of, group_of}

abbrev totals : List Group → ℕ
totals groups = total_sum (map group_of groups)

abbrev ends : List Group → ℕ
ends groups = deleted_sum (map group_of groups)

abbrev pub total_at : Group → ℕ
total_at group = cond (is_tombstone (content_of group.content)) 0 (total (content_of group.content))

abbrev pub ends_at : Group → ℕ
ends_at group = cond (is_tombstone (content_of group.content)) 0 (deleted (content_of group.content))

-- a sum is that of the groups before a place, and grows by the count of the group there
pub totals_grow : (groups : List Group) (i : ℕ) (group : Group) (all count : ℕ) → i < length groups → group ≡ get_or groups i group → all ≡ total_sum (map group_of (take i groups)) → count ≡ total_at group
    → all + count ≡ total_sum (map group_of (take (i + 1) groups))
totals_grow groups i group all count here there so_far counts =
    let is = is_sum_by totals total_at refl (λ other rest. refl) in
    ap (λ n. n + count) (so_far ∙ is (take i groups)) ∙ (ap (λ n. sum_by total_at (take i groups) + n) (counts ∙ ap total_at there) ∙ (sym (sum_by_more total_at groups i group here) ∙ sym (is (take (i + 1) groups))))

pub ends_grow : (groups : List Group) (i : ℕ) (group : Group) (all count : ℕ) → i < length groups → group ≡ get_or groups i group → all ≡ deleted_sum (map group_of (take i groups)) → count ≡ ends_at group
    → all + count ≡ deleted_sum (map group_of (take (i + 1) groups))
ends_grow groups i group all count here there so_far counts =
    let is = is_sum_by ends ends_at refl (λ other rest. refl) in
    ap (λ n. n + count) (so_far ∙ is (take i groups)) ∙ (ap (λ n. sum_by ends_at (take i groups) + n) (counts ∙ ap ends_at there) ∙ (sym (sum_by_more ends_at groups i group here) ∙ sym (is (take (i + 1) groups))))
