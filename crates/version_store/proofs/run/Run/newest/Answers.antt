use Rattle.std.proofs.Common.{◌≡◌, ℕ, ◌∙◌, sym, ap, subst, cond, Bool, List, length, Some, None, Result}
use Rattle.std.specs.Prelude.{is_ok}
use Rattle.std.specs.List.{list_any}
use Rattle.std.specs.List.Sorted.{IsSearchInRange, IsBinarySearchResult}
use Rattle.cs_types.specs.declared.Key.{Key}
use Rattle.cs_types.specs.Keys.{key_cmp, same_key}
use Rattle.version_store.specs.Newest.{Ascend}
use Rattle.version_store.specs.Loads.{Load, changes_of, found}
use Rattle.version_store.proofs.LoadLaws.{found-load}
use Rattle.version_store.proofs.RunLaws.{searched}
use Rattle.version_store.proofs.run.Run.newest.Goals as goal

-- what a search among the keys finds
looked_up : (load : Load) (keys : List Key) (key : Key) (r : Result ℕ ℕ) → Ascend load.keys → keys ≡ load.keys → IsSearchInRange r (length keys) → IsBinarySearchResult (λ (other : Key). key_cmp other key) keys r
    → cond (is_ok r) (Some load.change) None ≡ found (changes_of load) key
looked_up load keys key r up same within is =
    ap (λ (t : Bool). cond t (Some load.change) None) (searched keys (subst Ascend (sym same) up) key r within is ∙ ap (list_any (same_key key)) same)
    ∙ sym (found-load load.change load.keys key)

pub returns-in-Ok : goal.returns-in-Ok
returns-in-Ok c =
    let load : Load = record { keys = c.self.inside.keys.items; change = c.self.inside.change } in
    ap (λ (r : Result ℕ ℕ). cond (is_ok r) (Some load.change) None) (sym c.in-Ok.is)
    ∙ looked_up load c.deref.result.now c.args.key c.binary_search.result c.self.invariant c.deref.ensures.value c.binary_search.ensures.bound c.binary_search.ensures.position
    ∙ ap (λ (own : Load). found (changes_of own) c.args.key) c.self.view_is

pub returns-in-Err : goal.returns-in-Err
returns-in-Err c =
    let load : Load = record { keys = c.self.inside.keys.items; change = c.self.inside.change } in
    ap (λ (r : Result ℕ ℕ). cond (is_ok r) (Some load.change) None) (sym c.in-Err.is)
    ∙ looked_up load c.deref.result.now c.args.key c.binary_search.result c.self.invariant c.deref.ensures.value c.binary_search.ensures.bound c.binary_search.ensures.position
    ∙ ap (λ (own : Load). found (changes_of own) c.args.key) c.self.view_is
