use Rattle.std.proofs.Common.{ap, ◌∙◌, cond, None}
use Rattle.delta_store.specs.Index.{place_in, is_between}
use Rattle.delta_store.proofs.frozen.Frozen.newest_between.Goals as goal

pub returns : goal.returns
returns c =
    let least = c.args.least in
    let greatest = c.args.greatest in
    rw (← c.self.view_is) (record {
      order = c.into_pairs.ensures.order;
      places = λ key.
          ap (λ pairs. place_in pairs key) c.into_pairs.ensures.pairs
          ∙ c.in_ok-cut.ensures key
          ∙ ap (λ place. cond (is_between least greatest key) place None) (c.self.invariant.indexed.places key);
    })
