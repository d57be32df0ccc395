use Rattle.std.proofs.Common.{◌≡◌, take, length}
use Rattle.std.specs.List.{list_all, list_any}
use Rattle.batch_kernels.specs.Masks.{IsNarrowed}
use Rattle.batch_filter.specs.Sieves.{asks}
use Rattle.batch_filter.proofs.narrow.+narrow.Given as goal

-- the mask is narrowed by the parts so far
abbrev pub invariant-narrow_each-loop-part : goal.invariant-narrow_each-loop-part
invariant-narrow_each-loop-part l =
    IsNarrowed (λ i. list_all (λ part. asks l.schema l.packed l.holds part i) (take l.part-index l.parts)) l.initial.mask l.mask

-- what is found are the mask's places of the parts so far
abbrev pub invariant-narrow_found-loop-part : goal.invariant-narrow_found-loop-part
invariant-narrow_found-loop-part l = record {
  same : l.mask ≡ l.initial.mask;
  narrowed : IsNarrowed (λ i. list_any (λ part. asks l.schema l.packed l.holds part i) (take l.part-index l.parts)) l.mask l.found;
  room : length l.left ≡ length l.mask;
}
