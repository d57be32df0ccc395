use Rattle.std.proofs.Common.{◌^◌, ◌<◌, sym, ap, subst, arith}
use Rattle.std.specs.Prelude.{IfSome}
use Rattle.code_tallies.specs.Keys.{key_count, HasKeys, AreColumnsOf}
use Rattle.code_tallies.proofs.Whole.{columns-keys}
use Rattle.code_tallies.proofs.tally.choose.Goals as goal

pub returns : goal.returns
returns g c =
    let group = c.args.packed.now in
    let keys = c.in-Some.keys.items in
    let columns : AreColumnsOf group c.args.places.now keys
    = subst (λ f. IfSome f (λ columns. AreColumnsOf c.args.packed.now c.args.places.now columns.items)) c.in-Some.is c.in_ok-keys.ensures in
    let few : key_count keys < 2 ^ 60
    = omega (arith, c.in-Some-key_count.ensures.count, c.in-Some-key_count.ensures.most, ap key_count c.deref.ensures.value) in
    record {
      some = omega arith;
      long = c.len-length.ensures;
      keyed = subst (λ n. HasKeys n keys) (sym c.len-length.ensures) (columns-keys group c.args.places.now keys columns few);
      columns = columns;
      passed = c.in_ok-kept.ensures;
    }
