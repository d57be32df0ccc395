use Rattle.std.proofs.Common.{◌∙◌, [], ◌∷◌, ◌++◌, true, false, ap, sym}
use Rattle.std.specs.Option.{option_copied}
use Rattle.std.proofs.lemmas.List.{append-nil}
use Rattle.batch_scan.proofs.Stored.{own_none, own_one}
use Rattle.batch_scan.proofs.scans.scan_own.Goals as goal

pub returns-in_default : goal.returns-in_default
returns-in_default c =
    let old = c.args.rows.now.items in
    sym (append-nil old) ∙ ap (λ l. old ++ l) (sym (own_none c.args.schema.now (option_copied c.args.pred) c.args.write.now c.in_default.is))

pub returns-then-not-keeps : goal.returns-then-not-keeps
returns-then-not-keeps c =
    let schema = c.args.schema.now in
    let condition = option_copied c.args.pred in
    let old = c.args.rows.now.items in
    let out = sym c.keeps.ensures ∙ c.if-not-keeps.true in
    sym (append-nil old) ∙ ap (λ l. old ++ l) (sym (own_one schema condition c.args.write.now c.in-Some.row false c.in-Some.is out))

pub returns : goal.returns
returns c =
    let schema = c.args.schema.now in
    let condition = option_copied c.args.pred in
    let old = c.args.rows.now.items in
    let keep = sym c.keeps.ensures ∙ c.if-not-keeps.false in
    c.in_ok-push.ensures.items ∙ ap (λ r. old ++ r ∷ []) c.in_ok-copy.ensures
    ∙ ap (λ l. old ++ l) (sym (own_one schema condition c.args.write.now c.in-Some.row true c.in-Some.is keep))
