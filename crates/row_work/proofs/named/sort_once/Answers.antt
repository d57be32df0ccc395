use Rattle.std.proofs.Common.{◌≡◌, ◌∙◌, List, [], Bool, refl, ap, sym, subst}
use Rattle.std.specs.declared.cmp.Ordering.TheVariants.{Equal}
use Rattle.std.specs.Cmp.{Equal-is}
use Rattle.std.specs.List.{dedup, Contains}
use Rattle.std.specs.List.Retain.{DiffersFromLast, IsFiltered}
use Rattle.std.specs.List.Sorted.{IsStrictlySortedBy}
use Rattle.std.specs.Ordering.{eq_by_cmp, int_cmp, int_eq, is_eq}
use Rattle.std.proofs.lemmas.Bool.Decides.{Decides-int_eq, same_from_decides}
use Rattle.std.proofs.lemmas.Cmp.{eq_by_cmp_equiv, int_cmp_total, tied_itself}
use Rattle.std.proofs.lemmas.List.Filters.{dedup_is}
use Rattle.std.proofs.lemmas.List.Kept.{Contains-dedup, IsStrictlySortedBy-dedup}
use Rattle.std.proofs.lemmas.List.Sorted.{Contains-permutation}
use Rattle.std.proofs.lemmas.Map.Lookups.{exact_signed}
use Rattle.cs_types.specs.declared.Key.{Key}
use Rattle.cs_types.specs.Keys.{key_cmp}
use Rattle.cs_types.proofs.KeyLemmas.{key_total, one_key}
use Rattle.row_work.proofs.named.sort_once.Goals as goal

-- what `==` answers at keys
abbrev equal : Key → Key → Bool
equal a b = int_eq a.0 b.0

ties : (a b : Key) → equal a b ≡ eq_by_cmp key_cmp a b
ties a b =
    same_from_decides (int_eq a.0 b.0) (is_eq (int_cmp a.0 b.0)) (Decides-int_eq a.0 b.0)
    (λ tied. exact_signed a.0 b.0 ((Equal-is (int_cmp a.0 b.0)).0 tied), λ same. ap is_eq (subst (λ z. int_cmp a.0 z ≡ Equal) same (tied_itself int_cmp_total a.0)))

once : (xs ys : List Key) → IsFiltered (DiffersFromLast equal) [] xs ys → ys ≡ dedup (eq_by_cmp key_cmp) xs
once xs ys filtered = dedup_is equal xs ys filtered ∙ ap (λ test. dedup test xs) (λ i a b. ties a b i)

pub returns-clause-order : goal.returns-clause-order
returns-clause-order c =
    let sorted = c.sort_unstable.new.self.items in
    subst (IsStrictlySortedBy key_cmp) (sym (once sorted c.dedup.new.self.items c.dedup.ensures.filtered))
    (IsStrictlySortedBy-dedup key_total (λ a b. refl) sorted c.sort_unstable.ensures.sorted)

pub returns-clause-kept : goal.returns-clause-kept
returns-clause-kept c = λ key inside.
    let before = c.args.keys.now.items in
    let sorted = c.sort_unstable.new.self.items in
    subst (λ keys. Contains keys key) (sym (once sorted c.dedup.new.self.items c.dedup.ensures.filtered))
    (Contains-dedup (eq_by_cmp_equiv key_total) one_key sorted key (Contains-permutation before sorted key c.sort_unstable.ensures.permutation inside))
