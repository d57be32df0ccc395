use Rattle.std.proofs.Common.{◌≡◌, length, ap, sym, ◌∙◌, Some}
use Rattle.cs_model.specs.declared.work.Work.TheVariants.{InstallCompress, InstallRebuild, InstallMerge}
use Rattle.group_book.specs.Choices.{id_in, install_work}
use Rattle.group_book.specs.Invariant.{makes_group}
use Rattle.group_book.specs.Turns.{made_of}
use Rattle.group_view.specs.declared.claim.Choice.{Choice}
use Rattle.group_view.specs.Books.{choice_of, claim_of}
use Rattle.statement_core.proofs.movers.install_work.Goals as goal

pub returns-in-Compress : goal.returns-in-Compress
returns-in-Compress c = λ actor entries is.
    let claim = c.args.claim.now in
    let fresh : id_in claim.fresh ≡ c.fresh_of-fresh.result = sym c.fresh_of-fresh.ensures in
    let rows : length (made_of (claim_of (actor, claim))) ≡ c.rows_of-rows.result = sym (c.rows_of-rows.ensures (actor, claim) (ap (λ (k : Choice). makes_group (choice_of k)) c.in-Compress.is) is) in
    ap (λ (k : Choice). install_work (choice_of k) (claim_of (actor, claim))) c.in-Compress.is ∙ (λ i. Some (InstallCompress c.in-Compress.source (fresh i) (rows i)))

pub returns-in-Rebuild : goal.returns-in-Rebuild
returns-in-Rebuild c = λ actor entries is.
    let claim = c.args.claim.now in
    let fresh : id_in claim.fresh ≡ c.fresh_of-fresh.result = sym c.fresh_of-fresh.ensures in
    let rows : length (made_of (claim_of (actor, claim))) ≡ c.rows_of-rows.result = sym (c.rows_of-rows.ensures (actor, claim) (ap (λ (k : Choice). makes_group (choice_of k)) c.in-Rebuild.is) is) in
    ap (λ (k : Choice). install_work (choice_of k) (claim_of (actor, claim))) c.in-Rebuild.is ∙ (λ i. Some (InstallRebuild c.in-Rebuild.source (fresh i) (rows i)))

pub returns-in-Merge : goal.returns-in-Merge
returns-in-Merge c = λ actor entries is.
    let claim = c.args.claim.now in
    let fresh : id_in claim.fresh ≡ c.fresh_of-fresh.result = sym c.fresh_of-fresh.ensures in
    let rows : length (made_of (claim_of (actor, claim))) ≡ c.rows_of-rows.result = sym (c.rows_of-rows.ensures (actor, claim) (ap (λ (k : Choice). makes_group (choice_of k)) c.in-Merge.is) is) in
    ap (λ (k : Choice). install_work (choice_of k) (claim_of (actor, claim))) c.in-Merge.is ∙ (λ i. Some (InstallMerge c.in-Merge.first c.in-Merge.second (fresh i) (rows i)))
