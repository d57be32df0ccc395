use Rattle.std.proofs.Common.{◌∙◌, ◌+◌, ◌&&◌, false, ap}
use Rattle.std.specs.Prelude.{slice_index_or}
use Rattle.batch_scan.proofs.positions.mask_of.Goals as goal

pub returns : goal.returns
returns c = λ flags i shown within less.
    c.narrow.ensures flags i shown within less
    ∙ ap (λ b. b && slice_index_or flags (c.args.from + i) false) (c.kept_mask-mask.ensures i less)
