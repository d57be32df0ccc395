use Rattle.std.proofs.Common.{◌+◌, ◌<◌, ◌+ℤ◌, ℕ, ℤ, FitsSigned, pos, length, slice_index, ap, subst, sym, ◌∙◌, rules}
use Rattle.std.specs.Int.{w128}
use Rattle.std.specs.Prelude.{slice_index_or, slice_set}
use Rattle.std.proofs.lemmas.Int.{to_z-of_z}
use Rattle.batch_kernels.specs.Places.{key_in, places, places_with, sum_with, IsSumOf}
use Rattle.batch_kernels.proofs.Lone.{lone-table, lone-bound, lone-key, lone-there}
use Rattle.batch_kernels.proofs.tables.sum_by_key.Goals as goal

pub returns-in-Some-clause-sums : goal.returns-in-Some-clause-sums
returns-in-Some-clause-sums c = λ k there.
    let j : ℕ = c.in-Some.key in
    let within : j < length c.args.sums.now = lone-there c.args.keys.now j c.args.count (length c.args.sums.now) c.in-Some.is c.requires.room.0 c.requires.keys in
    let sum : ℤ = slice_index_or c.args.sums.now j (pos 0) in
    let fits : FitsSigned w128 sum = search rules in
    let result : FitsSigned w128 c.sum_chosen.result = search rules in
    rw (to_z-of_z w128 c.sum_chosen.result result)
    (lone-table c.args.mask.now (λ m i. m +ℤ slice_index_or c.args.numbers.now i (pos 0)) c.args.sums.now (pos 0) c.sum_chosen.result j k c.args.count within
    (c.sum_chosen.ensures.sum ∙ ap (λ s. sum_with s c.args.numbers.now (places c.args.mask.now c.args.count)) (to_z-of_z w128 sum fits))
    (key_in c.args.keys.now) (λ i _. lone-key c.args.keys.now j c.in-Some.is i))

pub returns-in-Some-clause-bound : goal.returns-in-Some-clause-bound
returns-in-Some-clause-bound c = λ k n there is.
    let j : ℕ = c.in-Some.key in
    let within : j < length c.args.sums.now = lone-there c.args.keys.now j c.args.count (length c.args.sums.now) c.in-Some.is c.requires.room.0 c.requires.keys in
    let sum : ℤ = slice_index_or c.args.sums.now j (pos 0) in
    let fits : FitsSigned w128 sum = search rules in
    let result : FitsSigned w128 c.sum_chosen.result = search rules in
    let bound : IsSumOf (n + length (places_with c.args.mask.now (key_in c.args.keys.now) k c.args.count)) (slice_index_or (slice_set c.args.sums.now j c.sum_chosen.result) k (pos 0))
    = lone-bound c.args.mask.now c.args.sums.now c.sum_chosen.result j k c.args.count n within
    (λ l is. c.sum_chosen.ensures.bound l (subst (IsSumOf l) (sym (to_z-of_z w128 sum fits)) is)) is
    (key_in c.args.keys.now) (λ i _. lone-key c.args.keys.now j c.in-Some.is i) in
    rw (to_z-of_z w128 c.sum_chosen.result result) (bound.0, bound.1)

pub returns-in-None-clause-bound : goal.returns-in-None-clause-bound
returns-in-None-clause-bound c = λ k n there is.
    let bound : IsSumOf (n + length (places_with c.args.mask.now (slice_index c.args.keys.now.each) k c.args.count)) (slice_index_or c.sum_by_each.new.sums k (pos 0))
    = c.sum_by_each.ensures.bound k n there is in
    rw c.in-None.is (bound.0, bound.1)
