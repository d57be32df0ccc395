use Rattle.std.proofs.Common.{◌≡◌, ◌∙◌, ◌++◌, true, false, not, ap, sym}
use Rattle.std.specs.Prelude.{is_some}
use Rattle.std.specs.Option.{option_and_then, option_copied, option_map}
use Rattle.std.proofs.lemmas.List.{append-nil}
use Rattle.cs_types.specs.Rows.{padded}
use Rattle.cs_model.specs.Queries.{keeps}
use Rattle.group_view.specs.Parts.{Rowed}
use Rattle.group_view.specs.Views.{version_at}
use Rattle.batch_scan.specs.Reads.{read_key}
use Rattle.batch_scan.proofs.Stored.{kept_stored, unkept, unread}
use Rattle.batch_scan.proofs.scans.scan_stored.Goals as goal

pub returns-then-is_none : goal.returns-then-is_none
returns-then-is_none c =
    let schema = c.args.schema.now in
    let condition = option_copied c.args.pred in
    let pinned = c.args.pinned.now in
    let at = version_at pinned.view c.args.place in
    let old = c.args.rows.now.items in
    let none : is_some (option_and_then (read_key pinned) at) ≡ false = ap is_some (sym c.key_seen.ensures) ∙ c.is_none.ensures ∙ ap not c.if-is_none.true in
    sym (append-nil old) ∙ ap (λ l. old ++ l) (sym (unread schema condition pinned at none))

pub returns-then-not-keeps : goal.returns-then-not-keeps
returns-then-not-keeps c =
    let schema = c.args.schema.now in
    let condition = option_copied c.args.pred in
    let pinned = c.args.pinned.now in
    let at = version_at pinned.view c.args.place in
    let old = c.args.rows.now.items in
    let out : keeps schema condition c.args.stored.now ≡ false = sym c.keeps.ensures ∙ c.if-not-keeps.true in
    sym (append-nil old) ∙ ap (λ l. old ++ l) (sym (unkept schema condition pinned c.args.stored.now at c.requires.stored out))

pub returns : goal.returns
returns c =
    let schema = c.args.schema.now in
    let condition = option_copied c.args.pred in
    let pinned = c.args.pinned.now in
    let at = version_at pinned.view c.args.place in
    let old = c.args.rows.now.items in
    let some : is_some (option_and_then (read_key pinned) at) ≡ true = ap is_some (sym c.key_seen.ensures) ∙ c.is_none.ensures ∙ ap not c.if-is_none.false in
    let keep : keeps schema condition c.args.stored.now ≡ true = sym c.keeps.ensures ∙ c.if-not-keeps.false in
    let width = ap (λ n. option_map (λ (rowed : Rowed). padded n rowed.row) at) (sym c.len.ensures) in
    c.in_ok-push.ensures.items ∙ ap (λ l. old ++ l) (sym (kept_stored schema condition pinned c.args.stored.now c.in_ok-row.field-0 at c.requires.stored some keep (width ∙ c.in_ok-row.ensures)))
