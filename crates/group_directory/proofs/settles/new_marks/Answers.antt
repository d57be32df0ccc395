use Rattle.std.proofs.Common.{map, refl, sym, ap, ◌∙◌}
use Rattle.std.specs.Prelude.{count_by}
use Rattle.delete_bitmap.specs.Marks.{is_settling, settled}
use Rattle.group_view.specs.Books.{claim_of, group_of}
use Rattle.group_directory.proofs.SettleLemmas.{makes_claimed, makes_none, makes_some}
use Rattle.group_directory.proofs.settles.new_marks.Goals.{then-is_claimed-via-then-is_claimed, then-is_claimed-via-else-is_claimed+then-not-settles}
use Rattle.group_directory.proofs.settles.new_marks.Goals as goal

pub returns-then-is_claimed-clause-marks : goal.returns-then-is_claimed-clause-marks
returns-then-is_claimed-clause-marks c =
    let group = c.args.group.now in
    let claims = map claim_of c.args.claims.now in
    let tells = sym (c.is_claimed.ensures (group_of group) refl) in
    elim c.then-is_claimed.branch [
      | then-is_claimed-via-then-is_claimed w ↦ (makes_claimed c.args.floor claims group (tells ∙ w.if-is_claimed.true) c.requires).by
      | then-is_claimed-via-else-is_claimed+then-not-settles w ↦ (makes_none c.args.floor claims group c.in-Compressed.field-0 c.in-Compressed.marks c.in-Compressed.is c.requires (tells ∙ w.if-is_claimed.false) w.settles.result w.settles.ensures w.if-not-settles.true).by
    ]

pub returns-then-is_claimed-clause-number : goal.returns-then-is_claimed-clause-number
returns-then-is_claimed-clause-number c =
    let group = c.args.group.now in
    let claims = map claim_of c.args.claims.now in
    let tells = sym (c.is_claimed.ensures (group_of group) refl) in
    elim c.then-is_claimed.branch [
      | then-is_claimed-via-then-is_claimed w ↦ let none = (makes_claimed c.args.floor claims group (tells ∙ w.if-is_claimed.true) c.requires).count in sym none
      | then-is_claimed-via-else-is_claimed+then-not-settles w ↦
          let none = (makes_none c.args.floor claims group c.in-Compressed.field-0 c.in-Compressed.marks c.in-Compressed.is c.requires (tells ∙ w.if-is_claimed.false) w.settles.result w.settles.ensures w.if-not-settles.true).count in
          sym none
    ]

pub returns-clause-marks : goal.returns-clause-marks
returns-clause-marks c =
    (makes_some c.args.floor (map claim_of c.args.claims.now) c.args.group.now c.in-Compressed.field-0 c.in-Compressed.marks c.in-Compressed.is c.requires (sym (c.is_claimed.ensures (group_of c.args.group.now) refl) ∙ c.if-is_claimed.false)
    c.in_ok-made.made.0 (c.in_ok-made.ensures.marks ∙ ap (map (settled c.args.floor)) c.deref.ensures)).by

pub returns-clause-number : goal.returns-clause-number
returns-clause-number c =
    let made = makes_some c.args.floor (map claim_of c.args.claims.now) c.args.group.now c.in-Compressed.field-0 c.in-Compressed.marks c.in-Compressed.is c.requires (sym (c.is_claimed.ensures (group_of c.args.group.now) refl) ∙ c.if-is_claimed.false)
    c.in_ok-made.made.0 (c.in_ok-made.ensures.marks ∙ ap (map (settled c.args.floor)) c.deref.ensures) in
    c.in_ok-made.ensures.number ∙ ap (count_by (is_settling c.args.floor)) c.deref.ensures ∙ sym made.count
