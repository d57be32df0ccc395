use Rattle.std.proofs.Common.{◌≡◌, ◌+◌, ◌<◌, ◌≤◌, ◌^◌, ℕ, ap, sym, ◌∙◌, arith}
use Rattle.std.specs.Prelude.{slice_index}
use Rattle.code_tallies.specs.Keys.{key_at, key_count}
use Rattle.code_tallies.specs.Tables.{is_chosen}
use Rattle.code_tallies.proofs.PieceSteps.{counts-piece, counts-room}
use Rattle.code_tallies.proofs.pieces.add_rows.Goals as goal

pub overflow_add-counts : goal.overflow_add-counts
overflow_add-counts c =
    let chosen = c.args.chosen.now in
    let key : ℕ = c.key_stretch-key.result.0 in
    let end : ℕ = c.key_stretch-key.result.1 in
    let keyed : (i : ℕ) → c.args.from ≤ i → i < end → key_at chosen.keys.items i ≡ key
    = λ i after below. ap (λ columns. key_at columns i) (sym c.deref.ensures.value) ∙ c.key_stretch-key.ensures.same i after below in
    let below : key < chosen.size = omega (arith, c.key_stretch-key.ensures.below, ap key_count c.deref.ensures.value, chosen.sized) in
    let room : slice_index c.args.counts.now key + c.shown_from.result < 2 ^ 64
    = counts-room chosen c.args.from end key c.shown_from.result c.key_stretch-key.ensures.end.0 below keyed c.shown_from.ensures (is_chosen chosen) (λ i _ _. c.requires.each i) (omega arith) c.key_stretch-key.ensures.end.1 c.args.counts.now c.requires.before in
    omega (arith, room)

pub returns-clause-counts : goal.returns-clause-counts
returns-clause-counts c =
    let chosen = c.args.chosen.now in
    let key : ℕ = c.key_stretch-key.result.0 in
    let end : ℕ = c.key_stretch-key.result.1 in
    let keyed : (i : ℕ) → c.args.from ≤ i → i < end → key_at chosen.keys.items i ≡ key
    = λ i after below. ap (λ columns. key_at columns i) (sym c.deref.ensures.value) ∙ c.key_stretch-key.ensures.same i after below in
    let below : key < chosen.size = omega (arith, c.key_stretch-key.ensures.below, ap key_count c.deref.ensures.value, chosen.sized) in
    counts-piece chosen c.args.from end key c.shown_from.result c.key_stretch-key.ensures.end.0 below keyed c.shown_from.ensures (is_chosen chosen) (λ i _ _. c.requires.each i) c.args.counts.now c.requires.before
