use Rattle.std.proofs.Common.{◌≡◌, ◌<◌, ◌∙◌, sym, ap, subst, List, [], ◌∷◌, ◌++◌, length, All, arith}
use Rattle.std.specs.Option.{ForSome}
use Rattle.cs_types.specs.declared.Key.{Key}
use Rattle.version_store.specs.Loads.{Load, Loads, newest_first, found, AreInOrder}
use Rattle.version_store.proofs.LoadLaws.{order_pushed, comes_after, length-push}
use Rattle.version_store.proofs.runs.Runs.push.Goals as goal

pub invariant_of-self : goal.invariant_of-self
invariant_of-self c =
    let was = c.self.invariant in
    let load : Load = record { keys = c.args.keys.now; change = c.args.change } in
    let room : c.self.inside.room ≡ c.args.self.now.room = ap (λ (l : Loads). l.room) c.self.view_is in
    let taken : c.replace-run.result.items ≡ [] = cc (c.replace-run.ensures.value, was.free) in
    let keys : c.extend_from_slice.new.self.items ≡ c.args.keys.now = c.in-Ok.ensures.items ∙ ap (λ (list : List Key). list ++ c.args.keys.now) taken in
    let items : c.push.new.self.items ≡ c.self.inside.runs.items ++ load ∷ [] =
    c.in-Ok-push.ensures.items ∙ ap (λ (last : Load). c.self.inside.runs.items ++ last ∷ []) (c.new-2.ensures ∙ ap (λ (ks : List Key). record { keys = ks; change = c.args.change }) keys) in
    let older : All (λ (key : Key). ForSome (found (newest_first c.self.inside.runs.items) key) (λ other. other.commit < c.args.change.commit)) c.args.keys.now =
    subst (λ (l : Loads). All (λ (key : Key). ForSome (found (newest_first l.loads) key) (λ other. other.commit < c.args.change.commit)) c.args.keys.now) (sym c.self.view_is) c.requires.older in
    let more = length-push c.self.inside.runs.items load in
    let same = ap (λ (loads : List Load). length (newest_first loads)) items in
    record {
      order = subst AreInOrder (sym items) (order_pushed c.self.inside.runs.items load was.order (comes_after c.self.inside.runs.items load older));
      counted = omega (arith, more, same, was.counted);
      few = omega (arith, room, c.requires.room, was.few);
      free = cc (c.replace-run.ensures.after, c.new.ensures.items);
      room = omega arith;
      place = λ some. absurd (omega (arith, some));
    }
