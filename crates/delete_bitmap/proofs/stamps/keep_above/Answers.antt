use Rattle.std.proofs.Common.{rules}
use Rattle.std.proofs.lemmas.Fn.{filter_same}
use Rattle.delete_bitmap.specs.Kept.{is_above}
use Rattle.delete_bitmap.proofs.stamps.keep_above.Goals as goal

pub returns-clause-kept : goal.returns-clause-kept
returns-clause-kept c = filter_same _ (is_above c.args.floor) _ (λ x b f' called. search rules) _ _ c.retain.ensures.filtered
