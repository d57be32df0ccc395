use Rattle.std.proofs.Common.{◌+◌, ◌+ℤ◌, ℕ, ℤ, FitsSigned, pos, length, slice_index, ap, subst, sym, ◌∙◌, rules}
use Rattle.std.specs.Int.{w128}
use Rattle.std.specs.Prelude.{slice_index_or, slice_set}
use Rattle.std.proofs.lemmas.Int.{to_z-of_z}
use Rattle.batch_kernels.specs.Places.{places, places_with, sum_with, IsSumOf}
use Rattle.batch_kernels.proofs.Lone.{lone-table, lone-bound}
use Rattle.batch_kernels.proofs.tables.sum_block.Goals as goal

pub returns-then-are_one-clause-sums : goal.returns-then-are_one-clause-sums
returns-then-are_one-clause-sums c = λ k there.
    let keys = c.args.keys.now in
    let j : ℕ = slice_index keys 0 in
    let sum : ℤ = slice_index_or c.args.sums.now j (pos 0) in
    let fits : FitsSigned w128 sum = search rules in
    let result : FitsSigned w128 c.sum_chosen.result = search rules in
    rw (to_z-of_z w128 c.sum_chosen.result result)
    (lone-table c.args.mask.now (λ m i. m +ℤ slice_index_or c.args.numbers.now i (pos 0)) c.args.sums.now (pos 0) c.sum_chosen.result j k (length keys) (c.requires.keys 0 c.requires.some)
    (c.sum_chosen.ensures.sum ∙ ap (λ s. sum_with s c.args.numbers.now (places c.args.mask.now (length keys))) (to_z-of_z w128 sum fits))
    (slice_index keys) c.if-are_one.ensures)

pub returns-then-are_one-clause-bound : goal.returns-then-are_one-clause-bound
returns-then-are_one-clause-bound c = λ k n there is.
    let keys = c.args.keys.now in
    let j : ℕ = slice_index keys 0 in
    let sum : ℤ = slice_index_or c.args.sums.now j (pos 0) in
    let fits : FitsSigned w128 sum = search rules in
    let result : FitsSigned w128 c.sum_chosen.result = search rules in
    let bound : IsSumOf (n + length (places_with c.args.mask.now (slice_index keys) k (length keys))) (slice_index_or (slice_set c.args.sums.now j c.sum_chosen.result) k (pos 0))
    = lone-bound c.args.mask.now c.args.sums.now c.sum_chosen.result j k (length keys) n (c.requires.keys 0 c.requires.some)
    (λ l is. c.sum_chosen.ensures.bound l (subst (IsSumOf l) (sym (to_z-of_z w128 sum fits)) is)) is
    (slice_index keys) c.if-are_one.ensures in
    rw (to_z-of_z w128 c.sum_chosen.result result) (bound.0, bound.1)
