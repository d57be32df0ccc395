use Rattle.std.proofs.Common.{◌≡◌, ℕ, ◌≤◌, ◌<◌, ◌+◌, ◌^◌, ◌∙◌, take, arith, rules}
use Rattle.cs_model.specs.Actors.{actor_of}
use Rattle.cs_model.specs.State.{begin_of}
use Rattle.cs_model.specs.Text.{statements_of}
use Rattle.cs_model.specs.Places.{place_in}
use Rattle.cs_model.proofs.LogText.{few, counts_more, prints_more}
use Rattle.cs_model.proofs.log.print_log.Goals as goal

pub count-requires : goal.count-requires
count-requires c =
    let session = actor_of c.index-log-i.result in
    let most : statements_of session (take c.loop-i.i c.args.log.now) ≤ c.loop-i.i = few c.args.log.now c.loop-i.i c.index-log-i.result c.loop-i-test.true c.index-log-i.is session in
    let so_far : place_in c.loop-i.places session ≤ c.loop-i.i = rw (c.loop-i.invariant.places session) most in
    let fits : c.loop-i.i + 1 < 2 ^ 64 = search rules in
    omega (arith, so_far, fits)

pub loop-i-preserved : goal.loop-i-preserved
loop-i-preserved c =
    let log = c.args.log.now in
    let places : (session : ℕ) → place_in c.count.new.places session ≡ statements_of session (take (c.loop-i.i + 1) log) =
    λ session. counts_more log c.loop-i.i c.index-log-i.result c.loop-i-test.true c.index-log-i.is session (place_in c.loop-i.places session) (place_in c.count.new.places session)
    (c.loop-i.invariant.places session) (c.in_ok-place.ensures.counts session) in
    record {
      text = prints_more log c.loop-i.i c.index-log-i.result c.loop-i-test.true c.index-log-i.is (begin_of c.args.schema.now) c.loop-i.line c.append_entry.new.line c.in_ok-place.place
          (c.in_ok-place.ensures.place ∙ places (actor_of c.index-log-i.result)) c.in_ok-append_entry.ensures c.loop-i.invariant.text;
      places = places;
    }
