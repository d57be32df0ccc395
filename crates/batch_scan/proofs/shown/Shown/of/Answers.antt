use Rattle.std.proofs.Common.{◌≡◌, ◌∙◌, ◌<◌, ℕ, Bool, List, not, length, sym, ap, arith}
use Rattle.std.specs.Prelude.{◌||◌}
use Rattle.std.proofs.lemmas.Bool.Decides.{nat_tests}
use Rattle.delete_bitmap.specs.Marks.{end_at, is_removable}
use Rattle.batch_scan.specs.Hidden.{is_hidden, is_one_of}
use Rattle.batch_scan.proofs.Flags.{all_read, are_flags, none_read}
use Rattle.batch_scan.proofs.Left.{all_late, none_of}
use Rattle.batch_scan.proofs.shown.Shown.of.Goals as goal

pub returns-then-is_empty : goal.returns-then-is_empty
returns-then-is_empty c =
    let pinned = c.args.pinned.now in
    let group = c.args.packed.now in
    let none : length c.stamped.result.now ≡ 0 = grind (arith, nat_tests) in
    let above : pinned.snapshot < group.base = omega (arith, c.base.ensures, c.if-base-s.true) in
    none_read pinned group c.args.marks.now c.requires (all_late pinned.snapshot group c.stamped.result.now c.stamped.ensures none above)

pub returns-then-removable-eq0 : goal.returns-then-removable-eq0
returns-then-removable-eq0 c =
    let none : length c.in_ok-hidden.hidden.items ≡ 0 = grind (arith, nat_tests) in
    all_read c.args.pinned.now c.args.packed.now c.args.marks.now c.requires
    (λ p below. sym (c.in_ok-hidden.ensures.each p below) ∙ none_of c.in_ok-hidden.hidden.items none p)
    (sym c.removable.ensures ∙ c.if-removable-eq0.true)

pub returns : goal.returns
returns c =
    let pinned = c.args.pinned.now in
    let group = c.args.packed.now in
    let marks = c.args.marks.now in
    are_flags pinned group marks c.requires c.in_ok-positions_left.field-0 c.in_ok-positions_left.ensures.length (λ p below.
    let there : p < length group.rows = omega (arith, below, c.requires) in
    let hidden : is_one_of c.deref.result.now p ≡ is_hidden pinned group p = ap (λ (ps : List ℕ). is_one_of ps p) c.deref.ensures.value ∙ c.in_ok-hidden.ensures.each p there in
    c.in_ok-positions_left.ensures.each p below ∙ ap (λ (b : Bool). not (b || is_removable pinned.snapshot (end_at marks p))) hidden)
