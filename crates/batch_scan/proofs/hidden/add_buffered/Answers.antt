use Rattle.std.proofs.Common.{◌+◌, ◌<◌, ◌≤◌, ℕ, pos, take, length, get_or, arith}
use Rattle.std.specs.Prelude.{Some}
use Rattle.cs_types.specs.declared.Key.{Key}
use Rattle.batch_scan.specs.Hidden.{is_ended_by, is_of_key}
use Rattle.batch_scan.proofs.Added.{adds_more, adds_none, adds_same, ended_push, ended_skip}
use Rattle.batch_scan.proofs.Cuts.{ended_after, ended_before}
use Rattle.batch_scan.proofs.hidden.add_buffered.Goals as goal
use Rattle.batch_scan.proofs.hidden.add_buffered.Goals.{then-end-s+in_ok-near, else-end-s}

-- what the entries are read with past their end
abbrev d : Key × ℕ
d = (record { 0 = pos 0 }, 0)

pub loop-i-init : goal.loop-i-init
loop-i-init c =
    let group = c.args.packed.now in
    let entries = c.args.entries.now in
    let from = c.entries_within-span.result.from in
    adds_none group (is_ended_by (take from entries) c.args.s group) c.args.hidden.now.items
    (λ p there. ended_before group p there c.args.s entries from c.entries_within-span.ensures.before)

pub loop-i-preserved : goal.loop-i-preserved
loop-i-preserved c =
    let group = c.args.packed.now in
    let s = c.args.s in
    let entries = c.args.entries.now in
    let n = c.loop-i.i in
    let there : n < length entries = omega (arith, c.loop-i-test.true, c.entries_within-span.ensures.within) in
    let entry = get_or entries n d in
    elim c.if-end-s.branch [
      | then-end-s+in_ok-near w ↦
          rw w.hidden-is (adds_more group (is_ended_by (take n entries) s group) (is_of_key entry.0 (Some entry.1) group) (is_ended_by (take (n + 1) entries) s group) _ _ _
          (λ p below. ended_push entries n d there s group w.if-end-s.true p) c.loop-i.invariant w.in_ok-near.ensures)
      | else-end-s w ↦
          rw w.hidden-is (adds_same group (is_ended_by (take n entries) s group) (is_ended_by (take (n + 1) entries) s group) _ _ (λ p below. ended_skip entries n d there s group w.if-end-s.false p) c.loop-i.invariant)
    ]

pub returns : goal.returns
returns c =
    let group = c.args.packed.now in
    let s = c.args.s in
    let entries = c.args.entries.now in
    let n = c.loop-i.i in
    let past : c.entries_within-span.result.to ≤ n = c.loop-i-test.false in
    adds_same group (is_ended_by (take n entries) s group) (is_ended_by entries s group) c.args.hidden.now.items c.loop-i.hidden.items
    (λ p there. ended_after group p there s entries n (λ i e inside from. c.entries_within-span.ensures.after i e inside (omega (arith, from, past))))
    c.loop-i.invariant
