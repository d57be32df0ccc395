use Rattle.std.proofs.Common.{◌≡◌, ◌-◌, ◌∙◌, sym, ap, subst, cond, Bool, true, refl, List, length, get_or, Some, None, Less, Equal, Greater, is_lt}
use Rattle.std.specs.declared.cmp.Ordering.{Ordering}
use Rattle.cs_types.specs.declared.Key.{Key}
use Rattle.cs_types.specs.Keys.{key_cmp}
use Rattle.version_store.specs.Newest.{Ascend, IsApart}
use Rattle.version_store.specs.Loads.{Load, changes_of, found}
use Rattle.version_store.proofs.LoadLaws.{found-load}
use Rattle.version_store.proofs.RunLaws.{apart_below, apart_above}
use Rattle.version_store.proofs.run.Run.is_apart.Goals as goal

less_of : (o : Ordering) → is_lt o ≡ true → o ≡ Less
less_of Less is = refl
less_of Equal is = absurd (cc is)
less_of Greater is = absurd (cc is)

module _ (load : Load) (up : Ascend load.keys) (keys : List Key) (same : keys ≡ load.keys) (least greatest : Key) where
  below : (last : Key) → last ≡ get_or keys (length keys - 1) last → is_lt (key_cmp last least) ≡ true → IsApart least greatest (found (changes_of load))
  below last is less key within =
      let at : key_cmp (get_or load.keys (length load.keys - 1) last) least ≡ Less = subst (λ (ks : List Key). key_cmp (get_or ks (length ks - 1) last) least ≡ Less) same (subst (λ (k : Key). key_cmp k least ≡ Less) is (less_of (key_cmp last least) less)) in
      found-load load.change load.keys key ∙ ap (λ (t : Bool). cond t (Some load.change) None) (apart_below load.keys up least greatest last at key within)

  above : (first : Key) → first ≡ get_or keys 0 first → is_lt (key_cmp greatest first) ≡ true → IsApart least greatest (found (changes_of load))
  above first is less key within =
      let at : key_cmp greatest (get_or load.keys 0 first) ≡ Less = subst (λ (ks : List Key). key_cmp greatest (get_or ks 0 first) ≡ Less) same (subst (λ (k : Key). key_cmp greatest k ≡ Less) is (less_of (key_cmp greatest first) less)) in
      found-load load.change load.keys key ∙ ap (λ (t : Bool). cond t (Some load.change) None) (apart_above load.keys up least greatest first at key within)

pub returns-then-lt-clause-apart : goal.returns-then-lt-clause-apart
returns-then-lt-clause-apart c = λ yes.
    let load : Load = record { keys = c.self.inside.keys.items; change = c.self.inside.change } in
    subst (λ (own : Load). IsApart c.args.least c.args.greatest (found (changes_of own))) c.self.view_is
    (below load c.self.invariant c.deref-2.result.now c.deref-2.ensures.value c.args.least c.args.greatest c.in-Some-Some.last.now (c.in-Some-Some.ensures'.item.1) (sym c.lt.ensures ∙ c.if-lt.true))

pub returns-else-lt-clause-apart : goal.returns-else-lt-clause-apart
returns-else-lt-clause-apart c = λ yes.
    let load : Load = record { keys = c.self.inside.keys.items; change = c.self.inside.change } in
    subst (λ (own : Load). IsApart c.args.least c.args.greatest (found (changes_of own))) c.self.view_is
    (above load c.self.invariant c.deref.result.now c.deref.ensures.value c.args.least c.args.greatest c.in-Some-Some.first.now (c.in-Some-Some.ensures.item.1) (sym c.lt-else-lt.ensures ∙ yes))
