use Rattle.std.proofs.Common.{◌≡◌, ◌∙◌, Bool, true, false, true≢false, ap, sym}
use Rattle.std.specs.Bool.{OnTrue}
use Rattle.std.specs.Option.{option_copied}
use Rattle.std.proofs.lemmas.Result.{IfOk-weaker}
use Rattle.batch_scan.specs.Reads.{read_flags}
use Rattle.batch_scan.specs.Scans.{positions_kept}
use Rattle.batch_scan.proofs.Flags.{length-flags}
use Rattle.batch_scan.proofs.Kept.{positions_nowhere, positions_sieved}
use Rattle.batch_scan.proofs.positions.kept_positions.Goals as goal

read_true : (b : Bool) (P : Type 0) → OnTrue b P → b ≡ true → P
read_true true P f is = f
read_true false P f is = absurd (true≢false (sym is))

pub returns-then-is_nowhere : goal.returns-then-is_nowhere
returns-then-is_nowhere c =
    let pinned = c.args.pinned.now in
    let group = c.args.packed.now in
    let marks = c.args.marks.now in
    let none = read_true c.is_nowhere.result _ (c.is_nowhere.ensures (read_flags pinned group marks) c.in_ok-shown.ensures) c.if-is_nowhere.true in
    c.new.ensures.items ∙ positions_nowhere pinned c.args.schema.now (option_copied c.args.pred) group marks c.requires none

pub returns : goal.returns
returns c =
    let pinned = c.args.pinned.now in
    let schema = c.args.schema.now in
    let condition = option_copied c.args.pred in
    let group = c.args.packed.now in
    let marks = c.args.marks.now in
    let flags = read_flags pinned group marks in
    IfOk-weaker c.positions_of.result _ _ (λ positions is. is ∙ ap (positions_kept flags) c.in_ok-sieve.ensures ∙ positions_sieved pinned schema condition group marks c.requires)
    (c.positions_of.ensures flags c.in_ok-shown.ensures (length-flags pinned group marks c.requires ∙ sym c.len.ensures))
