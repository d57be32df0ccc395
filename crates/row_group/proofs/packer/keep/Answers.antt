use Rattle.std.proofs.Common.{◌≡◌, ◌∙◌, ◌++◌, List, map, sym, ap, subst}
use Rattle.std.specs.Result.{OnOk}
use Rattle.std.proofs.lemmas.List.{append-nil}
use Rattle.row_group.specs.Rows.{PackedRow, row_of}
use Rattle.row_group.proofs.PackerLemmas.{kept-filter}
use Rattle.row_group.proofs.packer.keep.Goals as goal

pub returns-then-has_ended : goal.returns-then-has_ended
returns-then-has_ended c =
    let old = c.args.packer.now in
    let rows = ap (λ vs. old.rows ++ map (row_of old.width) vs) (kept-filter c.args.floor c.args.version.now _ (sym c.if-has_ended.ensures)) ∙ append-nil old.rows in
    (λ i. record { width = old.width; rows = sym rows i })

pub returns : goal.returns
returns c =
    let old = c.args.packer.now in
    subst (λ (rows : List PackedRow). OnOk c.add.result (c.add.new.self ≡ record old { rows = rows }))
    (ap (λ vs. old.rows ++ map (row_of old.width) vs) (sym (kept-filter c.args.floor c.args.version.now _ (sym c.if-has_ended.ensures))))
    c.add.ensures.ok
