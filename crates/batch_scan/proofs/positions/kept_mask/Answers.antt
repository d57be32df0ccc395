use Rattle.std.proofs.Common.{◌∙◌, ◌+◌, ◌&&◌, true, false, ap, sym, arith}
use Rattle.std.specs.Prelude.{slice_index_or}
use Rattle.std.proofs.lemmas.Bool.{lt-ltb}
use Rattle.std.proofs.lemmas.List.{get_or-replicate}
use Rattle.batch_scan.specs.Scans.{is_kept}
use Rattle.batch_scan.proofs.positions.kept_mask.Goals as goal

pub returns-in-Some : goal.returns-in-Some
returns-in-Some c = λ i less.
    c.keep.ensures i (omega (arith, less, c.requires)) ∙ ap (λ b. b && slice_index_or c.in-Some.sieve (c.args.from + i) false) (lt-ltb i c.args.count less)
    ∙ sym (ap (λ o. is_kept o (c.args.from + i)) c.in-Some.is)

pub returns-in-None : goal.returns-in-None
returns-in-None c = λ i less.
    get_or-replicate 1024 i true false (omega (arith, less, c.requires)) ∙ sym (ap (λ o. is_kept o (c.args.from + i)) c.in-None.is)
