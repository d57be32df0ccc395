use Rattle.std.proofs.Common.{◌≡◌, ◌∙◌, ℕ, List, filter, sym, subst, ap}
use Rattle.std.specs.Prelude.{IsPermutation}
use Rattle.std.proofs.lemmas.List.Sorted.{IsNonDecreasingBy-from_sort}
use Rattle.cs_model.specs.declared.work.Actor.{Actor}
use Rattle.cs_model.specs.declared.work.Actor.TheVariants.{Session}
use Rattle.group_log.specs.Reorganizing.{held_groups, is_kept, AreLeft}
use Rattle.statement_core.specs.Course.{Course}
use Rattle.statement_core.proofs.Lines.{kept_alike}
use Rattle.statement_core.proofs.reorganizing.Reorganizing.left.Goals as goal

pub returns : goal.returns
returns c = λ book of.
    let by : Actor = Session c.args.session in
    let marked : List ℕ = c.args.self.now.marked in
    let ordered : List ℕ = c.in_ok-marked.marked.items in
    let kept : List (ℕ × Actor) = c.in_ok-left.left.items in
    let sorted : List (ℕ × Actor) = c.sort_by_id.new.groups.items in
    let is : c.deref.result.now ≡ marked = c.deref.ensures.value ∙ ap (λ (course : Course). course.marked) c.self.view_is in
    let alike : IsPermutation marked ordered = subst (λ ids. IsPermutation ids ordered) is c.in_ok-marked.ensures.permutation in
    let are : kept ≡ filter (is_kept marked by) (held_groups book) =
    c.in_ok-left.ensures
    ∙ ap (λ ids. filter (is_kept ids by) c.as_slice.result.now) c.deref-2.ensures.value
    ∙ ap (filter (is_kept ordered by)) (c.as_slice.ensures ∙ of)
    ∙ kept_alike marked ordered by (held_groups book) alike in
    subst (AreLeft marked by book) (sym c.from_vec.ensures) (record {
      by_id = IsNonDecreasingBy-from_sort (λ (held : ℕ × Actor). held.0) sorted c.sort_by_id.ensures.sorted;
      are = subst (λ items. IsPermutation items sorted) are c.sort_by_id.ensures.permutation;
    })
