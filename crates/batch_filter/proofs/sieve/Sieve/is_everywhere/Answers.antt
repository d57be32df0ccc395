use Rattle.std.proofs.Common.{◌≡◌, ◌∙◌, List, Bool, false, sym, ap}
use Rattle.std.specs.Prelude.{not}
use Rattle.std.specs.List.{list_any}
use Rattle.std.proofs.lemmas.Bool.{not-true, not-false}
use Rattle.batch_kernels.specs.Masks.{same_as}
use Rattle.batch_filter.proofs.CellLemmas.{none_left_out, none_wanted}
use Rattle.batch_filter.proofs.sieve.Sieve.is_everywhere.Goals as goal

pub returns : goal.returns
returns c =
    let verdicts = c.args.self.now in
    let found : c.has_any.result ≡ list_any (same_as false) verdicts = c.has_any.ensures ∙ ap (λ (l : List Bool). list_any (same_as false) l) c.as_slice.ensures in (
      (λ each i below. not-false _ (none_wanted false verdicts (sym found ∙ not-true c.has_any.result each) i below)),
      (λ each. ap not (found ∙ none_left_out verdicts each)),
    )
