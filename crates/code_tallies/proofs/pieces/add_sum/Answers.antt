use Rattle.std.proofs.Common.{◌≡◌, ◌+◌, ◌<◌, ◌≤◌, ◌^◌, ◌∙◌, ◌+ℤ◌, ◌*ℤ◌, ◌-◌, ℤ, pos, FitsSigned, w64, arith, rules, sym, ap, subst}
use Rattle.std.specs.Int.{w128}
use Rattle.std.specs.Option.{option_copied}
use Rattle.std.specs.Prelude.{slice_index, slice_index_or, slice_set}
use Rattle.std.proofs.lemmas.Int.{ints, to_z-of_z}
use Rattle.column_segment.specs.Bodies.{IsKnown}
use Rattle.batch_kernels.specs.Places.{IsSumOf}
use Rattle.code_tallies.proofs.Again.{times-bound}
use Rattle.code_tallies.specs.Tables.{is_chosen, present_in, AreSums}
use Rattle.code_tallies.proofs.PieceSteps.{all-present, none-present, counts-past, counts-piece, counts-room, sums-past, sums-piece, sums-room, shown-most}
use Rattle.code_tallies.proofs.pieces.add_sum.Goals as goal

pub returns-then-is_without-clause-counts : goal.returns-then-is_without-clause-counts
returns-then-is_without-clause-counts c =
    let chosen = c.args.chosen.now in
    let column = c.args.column.now in
    let piece = c.piece-piece.result in
    let is = c.piece-piece.ensures in
    counts-past chosen c.args.from piece.end piece.key piece.rows is.some is.below is.keys is.shown (present_in column (is_chosen chosen)) (none-present chosen column c.args.from piece.end piece.code piece.rows c.requires.each is.codes is.shown c.if-is_without.ensures.none) c.args.counts.now c.requires.counted

pub returns-then-is_without-clause-sums : goal.returns-then-is_without-clause-sums
returns-then-is_without-clause-sums c =
    let chosen = c.args.chosen.now in
    let column = c.args.column.now in
    let piece = c.piece-piece.result in
    let is = c.piece-piece.ensures in
    sums-past chosen c.args.from piece.end piece.key piece.rows is.some is.below is.keys is.shown column (none-present chosen column c.args.from piece.end piece.code piece.rows c.requires.each is.codes is.shown c.if-is_without.ensures.none) c.args.sums.now c.requires.summed

pub overflow_add-counts : goal.overflow_add-counts
overflow_add-counts c =
    let chosen = c.args.chosen.now in
    let column = c.args.column.now in
    let piece = c.piece-piece.result in
    let is = c.piece-piece.ensures in
    let room : slice_index c.args.counts.now piece.key + piece.rows < 2 ^ 64
    = counts-room chosen c.args.from piece.end piece.key piece.rows is.some is.below is.keys is.shown (present_in column (is_chosen chosen)) (all-present chosen column c.args.from piece.end piece.code piece.rows c.requires.each is.codes is.shown c.if-is_without.ensures.some.1) (omega arith) is.within c.args.counts.now c.requires.counted in
    omega (arith, room)

pub returns-clause-counts : goal.returns-clause-counts
returns-clause-counts c =
    let chosen = c.args.chosen.now in
    let column = c.args.column.now in
    let piece = c.piece-piece.result in
    let is = c.piece-piece.ensures in
    counts-piece chosen c.args.from piece.end piece.key piece.rows is.some is.below is.keys is.shown (present_in column (is_chosen chosen)) (all-present chosen column c.args.from piece.end piece.code piece.rows c.requires.each is.codes is.shown c.if-is_without.ensures.some.1) c.args.counts.now c.requires.counted

pub number-requires : goal.number-requires
number-requires c =
    let chosen = c.args.chosen.now in
    let column = c.args.column.now in
    let piece = c.piece-piece.result in
    let is = c.piece-piece.ensures in
    subst (IsKnown column.segment.now.body) (is.codes c.args.from (omega arith) is.some) (c.requires.known c.args.from (omega arith))

pub times-requires : goal.times-requires
times-requires c =
    let chosen = c.args.chosen.now in
    let piece = c.piece-piece.result in
    let is = c.piece-piece.ensures in
    let most : piece.rows ≤ piece.end - c.args.from = shown-most (option_copied chosen.shown) c.args.from (piece.end - c.args.from) piece.rows is.shown in
    omega (arith, most, is.within)

fits : goal.overflow_add-sums
fits c =
    let chosen = c.args.chosen.now in
    let column = c.args.column.now in
    let piece = c.piece-piece.result in
    let is = c.piece-piece.ensures in
    let sum : ℤ = slice_index_or c.args.sums.now piece.key (pos 0) in
    let fits_sum : FitsSigned w128 sum = search rules in
    let fits_more : FitsSigned w128 c.times.result = search rules in
    let fits_number : FitsSigned w64 c.number.result = search rules in
    let product : c.times.result ≡ c.number.result *ℤ pos piece.rows
    = c.times.ensures ∙ ap (λ n. n *ℤ pos piece.rows) (to_z-of_z w64 c.number.result fits_number) in
    let room : IsSumOf 576460752303423488 sum
    = sums-room chosen c.args.from piece.end piece.key piece.rows is.some is.below is.keys is.shown column piece.code (all-present chosen column c.args.from piece.end piece.code piece.rows c.requires.each is.codes is.shown c.if-is_without.ensures.some.1) is.codes c.number.result c.number.ensures fits_number c.args.sums.now c.requires.summed (omega arith) c.requires.from in
    let more : IsSumOf piece.rows c.times.result = subst (IsSumOf piece.rows) (sym product) (times-bound c.number.result piece.rows fits_number) in
    let most : piece.rows ≤ piece.end - c.args.from = shown-most (option_copied chosen.shown) c.args.from (piece.end - c.args.from) piece.rows is.shown in
    rw (to_z-of_z w128 sum fits_sum, to_z-of_z w128 c.times.result fits_more) (omega (arith, ints, room.0, room.1, more.0, more.1, is.within, most))

pub overflow_add-sums : goal.overflow_add-sums
overflow_add-sums c = fits c

pub returns-clause-sums : goal.returns-clause-sums
returns-clause-sums c =
    let chosen = c.args.chosen.now in
    let column = c.args.column.now in
    let piece = c.piece-piece.result in
    let is = c.piece-piece.ensures in
    let sum : ℤ = slice_index_or c.args.sums.now piece.key (pos 0) in
    let fits_sum : FitsSigned w128 sum = search rules in
    let fits_more : FitsSigned w128 c.times.result = search rules in
    let fits_number : FitsSigned w64 c.number.result = search rules in
    let product : c.times.result ≡ c.number.result *ℤ pos piece.rows
    = c.times.ensures ∙ ap (λ n. n *ℤ pos piece.rows) (to_z-of_z w64 c.number.result fits_number) in
    let room : IsSumOf 576460752303423488 sum
    = sums-room chosen c.args.from piece.end piece.key piece.rows is.some is.below is.keys is.shown column piece.code (all-present chosen column c.args.from piece.end piece.code piece.rows c.requires.each is.codes is.shown c.if-is_without.ensures.some.1) is.codes c.number.result c.number.ensures fits_number c.args.sums.now c.requires.summed (omega arith) c.requires.from in
    let more : IsSumOf piece.rows c.times.result = subst (IsSumOf piece.rows) (sym product) (times-bound c.number.result piece.rows fits_number) in
    let most : piece.rows ≤ piece.end - c.args.from = shown-most (option_copied chosen.shown) c.args.from (piece.end - c.args.from) piece.rows is.shown in
    let fits_all : FitsSigned w128 (sum +ℤ c.times.result) = omega (arith, ints, room.0, room.1, more.0, more.1, is.within, most) in
    rw (to_z-of_z w128 sum fits_sum, to_z-of_z w128 c.times.result fits_more, to_z-of_z w128 (sum +ℤ c.times.result) fits_all)
    (subst (λ more. AreSums chosen column piece.end (slice_set c.args.sums.now piece.key (sum +ℤ more))) (sym product)
    (sums-piece chosen c.args.from piece.end piece.key piece.rows is.some is.below is.keys is.shown column piece.code (all-present chosen column c.args.from piece.end piece.code piece.rows c.requires.each is.codes is.shown c.if-is_without.ensures.some.1) is.codes c.number.result c.number.ensures fits_number c.args.sums.now c.requires.summed))
