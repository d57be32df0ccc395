use Rattle.std.proofs.Common.{◌+◌, ◌<◌, ◌^◌, arith}
use Rattle.std.specs.Prelude.{slice_index}
use Rattle.code_tallies.specs.Tables.{is_chosen, present_in}
use Rattle.code_tallies.proofs.PieceSteps.{all-present, none-present, counts-past, counts-piece, counts-room}
use Rattle.code_tallies.proofs.pieces.add_count.Goals as goal

pub returns-then-is_without-clause-counts : goal.returns-then-is_without-clause-counts
returns-then-is_without-clause-counts c =
    let chosen = c.args.chosen.now in
    let column = c.args.column.now in
    let piece = c.piece-piece.result in
    let is = c.piece-piece.ensures in
    counts-past chosen c.args.from piece.end piece.key piece.rows is.some is.below is.keys is.shown (present_in column (is_chosen chosen)) (none-present chosen column c.args.from piece.end piece.code piece.rows c.requires.each is.codes is.shown c.if-is_without.ensures.none) c.args.counts.now c.requires.before

pub overflow_add-counts : goal.overflow_add-counts
overflow_add-counts c =
    let chosen = c.args.chosen.now in
    let column = c.args.column.now in
    let piece = c.piece-piece.result in
    let is = c.piece-piece.ensures in
    let room : slice_index c.args.counts.now piece.key + piece.rows < 2 ^ 64
    = counts-room chosen c.args.from piece.end piece.key piece.rows is.some is.below is.keys is.shown (present_in column (is_chosen chosen)) (all-present chosen column c.args.from piece.end piece.code piece.rows c.requires.each is.codes is.shown c.if-is_without.ensures.some.1) (omega arith) is.within c.args.counts.now c.requires.before in
    omega (arith, room)

pub returns-clause-counts : goal.returns-clause-counts
returns-clause-counts c =
    let chosen = c.args.chosen.now in
    let column = c.args.column.now in
    let piece = c.piece-piece.result in
    let is = c.piece-piece.ensures in
    counts-piece chosen c.args.from piece.end piece.key piece.rows is.some is.below is.keys is.shown (present_in column (is_chosen chosen)) (all-present chosen column c.args.from piece.end piece.code piece.rows c.requires.each is.codes is.shown c.if-is_without.ensures.some.1) c.args.counts.now c.requires.before
