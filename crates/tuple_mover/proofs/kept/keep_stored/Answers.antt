use Rattle.std.proofs.Common.{◌≡◌, ◌∙◌, ◌++◌, ◌∷◌, ℕ, List, [], true, false, length, Option, sym, ap, subst}
use Rattle.std.proofs.lemmas.List.{append-nil}
use Rattle.std.proofs.lemmas.Result.{on_ok_weaker}
use Rattle.row_group.specs.Rows.{PackedRow}
use Rattle.row_group.specs.Packings.{Packing}
use Rattle.group_book.specs.Book.{Version}
use Rattle.group_view.specs.Parts.{Rowed, end_of_mark, stored_versions}
use Rattle.group_view.specs.Views.{endings_of}
use Rattle.group_view.proofs.Versions.{stored_is}
use Rattle.tuple_mover.specs.declared.kept.Kept.{Kept}
use Rattle.tuple_mover.specs.Kept.{kept_of, number_of, placed_end, placed_ends, rowed_at, HasKept}
use Rattle.tuple_mover.proofs.KeptLemmas.{has-more, has-none, kept-there, stored-number, stored-same, version-read}
use Rattle.tuple_mover.proofs.kept.keep_stored.Goals as goal

pub returns-then-is_left_out : goal.returns-then-is_left_out
returns-then-is_left_out c = λ (width : ℕ) (rowed : List Rowed) (had : HasKept width rowed c.args.kept.now).
    let buffer = endings_of c.args.buffer.now in
    let versions = stored_versions c.args.store.now in
    let stored = c.get-version.result.now in
    let version : Version = record { key = c.key-key.result; begin = stored.begin; end = end_of_mark c.stamp_of.result } in
    let is = stored_is c.key-key.result stored c.stamp_of.result c.stamp_of.ensures c.args.store.now c.args.position c.key-key.ensures c.get-version.ensures in
    has-none width rowed (kept_of c.args.floor buffer (rowed_at versions c.args.position ∷ [])) c.args.kept.now (kept-there c.args.floor buffer versions c.args.position version is true c.if-is_left_out.ensures) had

pub returns : goal.returns
returns c = λ (width : ℕ) (rowed : List Rowed) (had : HasKept width rowed c.args.kept.now).
    let buffer = endings_of c.args.buffer.now in
    let versions = stored_versions c.args.store.now in
    let next : Rowed = rowed_at versions c.args.position in
    let stored = c.get-version.result.now in
    let version : Version = record { key = c.key-key.result; begin = stored.begin; end = end_of_mark c.stamp_of.result } in
    let is = stored_is c.key-key.result stored c.stamp_of.result c.stamp_of.ensures c.args.store.now c.args.position c.key-key.ensures c.get-version.ensures in
    let old : Kept = c.args.kept.now in
    let new : Kept = record { packer = c.add.new.self; ends = c.note_end.new.ends } in
    let one : kept_of c.args.floor buffer (next ∷ []) ≡ next ∷ [] = kept-there c.args.floor buffer versions c.args.position version is false c.if-is_left_out.ensures in
    let number : stored.end ≡ number_of next.version.end = sym (stored-number stored.end) ∙ ap number_of (sym c.stamp_of.ensures) ∙ ap (λ (v : Version). number_of v.end) (sym (version-read versions c.args.position version is)) in
    let ended : c.note_end.new.ends.items ≡ old.ends.items ++ placed_ends (length old.packer.rows) (next ∷ []) =
    c.in_ok-note_end.ensures ∙ ap (λ (place : ℕ). old.ends.items ++ placed_end place stored.end) c.len-place.ensures ∙ ap (λ (end : Option ℕ). old.ends.items ++ placed_end (length old.packer.rows) end) number
    ∙ ap (λ (more : List (ℕ × ℕ)). old.ends.items ++ more) (sym (append-nil (placed_end (length old.packer.rows) (number_of next.version.end)))) in
    on_ok_weaker c.add.result (λ added. subst (λ (more : List Rowed). HasKept width (rowed ++ more) new) (sym one)
    (has-more width rowed (next ∷ []) old new had
    (added ∙ ap (λ (row : PackedRow). let after : Packing = record old.packer { rows = old.packer.rows ++ row ∷ [] } in after) (stored-same old.packer.width c.args.store.now c.args.position stored c.get-version.ensures)) ended)) c.add.ensures.ok
