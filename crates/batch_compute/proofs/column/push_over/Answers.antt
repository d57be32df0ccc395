use Rattle.std.proofs.Common.{◌≡◌, ◌∙◌, ◌++◌, ap, subst, Some, drop, length, map}
use Rattle.std.proofs.lemmas.List.{take_at}
use Rattle.batch_compute.specs.Values.{AreKept}
use Rattle.batch_compute.proofs.Places.{kept_each}
use Rattle.batch_compute.proofs.column.push_over.Goals as goal

pub returns-in_ok-push_each-in-Some : goal.returns-in_ok-push_each-in-Some
returns-in_ok-push_each-in-Some c = λ yes.
    let found = c.in-Some.found.items in
    let kept = c.keep_each.new.numbers in
    let values = rw c.in-Some.is at c.in_ok-found.ensures in
    let kept_ones : AreKept c.args.column.now c.deref_mut.result.now c.keep_each.new.numbers = c.keep_each.ensures c.if-not-keep_each.false in
    let long : length c.keep_each.new.numbers ≡ c.in-Some.found.len = kept_ones.0 ∙ c.deref_mut.ensures.len in
    let whole : c.deref.result.now ≡ c.keep_each.new.numbers = c.deref.ensures.value ∙ take_at kept (drop (length kept) found) c.in-Some.found.len long in (
      map Some kept,
      c.in_ok-push_each-in-Some.ensures ∙ ap (λ numbers. c.args.cells.now.items ++ map Some numbers) whole,
      kept_each c.args.column.now c.args.expr.now c.args.numbers.now found kept values (subst (λ numbers. AreKept c.args.column.now numbers kept) c.deref_mut.ensures.value kept_ones),
    )
