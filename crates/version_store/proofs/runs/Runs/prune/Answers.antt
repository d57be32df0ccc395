use Rattle.std.proofs.Common.{◌≡◌, ◌∙◌, sym, ap, subst, List, length, nat_lt, arith, rules}
use Rattle.std.specs.List.{filter}
use Rattle.std.proofs.lemmas.Fn.{filter_same}
use Rattle.version_store.specs.Newest.{above}
use Rattle.version_store.specs.Loads.{Load, Loads, newest_first, found, AreInOrder}
use Rattle.version_store.proofs.LoadLaws.{loads_above, order_pruned, fewer_left}
use Rattle.version_store.proofs.runs.Runs.prune.Goals as goal

pub keys_in-self-inside-requires : goal.keys_in-self-inside-requires
keys_in-self-inside-requires c =
    let kept : c.retain.new.self.items ≡ filter (λ (load : Load). nat_lt c.args.floor load.change.commit) c.self.inside.runs.items =
    filter_same _ (λ (load : Load). nat_lt c.args.floor load.change.commit) _ (λ x b f' t. search rules) _ _ c.retain.ensures.filtered in
    let fewer = fewer_left c.args.floor c.self.inside.runs.items in
    let same = ap (λ (loads : List Load). length (newest_first loads)) (c.deref.ensures.value ∙ kept) in
    omega (arith, fewer, same, c.self.invariant.counted, c.self.invariant.few)

pub invariant_of-self : goal.invariant_of-self
invariant_of-self c =
    let was = c.self.invariant in
    let kept : c.retain.new.self.items ≡ filter (λ (load : Load). nat_lt c.args.floor load.change.commit) c.self.inside.runs.items =
    filter_same _ (λ (load : Load). nat_lt c.args.floor load.change.commit) _ (λ x b f' t. search rules) _ _ c.retain.ensures.filtered in
    let fewer = fewer_left c.args.floor c.self.inside.runs.items in
    let same = ap (λ (loads : List Load). length (newest_first loads)) c.deref.ensures.value in
    let left = ap (λ (loads : List Load). length (newest_first loads)) kept in
    record {
      order = subst AreInOrder (sym kept) (order_pruned c.args.floor c.self.inside.runs.items was.order);
      counted = omega (arith, same, c.keys_in-self-inside.ensures);
      few = omega (arith, same, left, fewer, c.keys_in-self-inside.ensures, was.counted, was.few);
      free = was.free;
      room = was.room;
      place = λ some. let free = was.place some in omega (arith, free, c.retain.ensures.bound, c.retain.ensures.capacity);
    }

pub returns-clause-loads : goal.returns-clause-loads
returns-clause-loads c =
    let kept : c.retain.new.self.items ≡ filter (λ (load : Load). nat_lt c.args.floor load.change.commit) c.self.inside.runs.items =
    filter_same _ (λ (load : Load). nat_lt c.args.floor load.change.commit) _ (λ x b f' t. search rules) _ _ c.retain.ensures.filtered in
    kept ∙ ap (λ (l : Loads). filter (λ (load : Load). nat_lt c.args.floor load.change.commit) l.loads) c.self.view_is

pub returns-clause-above : goal.returns-clause-above
returns-clause-above c = λ key.
    let kept : c.retain.new.self.items ≡ filter (λ (load : Load). nat_lt c.args.floor load.change.commit) c.self.inside.runs.items =
    filter_same _ (λ (load : Load). nat_lt c.args.floor load.change.commit) _ (λ x b f' t. search rules) _ _ c.retain.ensures.filtered in
    ap (λ (loads : List Load). found (newest_first loads) key) kept
    ∙ loads_above c.args.floor c.self.inside.runs.items c.self.invariant.order key
    ∙ ap (λ (l : Loads). above c.args.floor (found (newest_first l.loads) key)) c.self.view_is
