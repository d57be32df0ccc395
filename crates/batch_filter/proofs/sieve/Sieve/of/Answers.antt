use Rattle.std.proofs.Common.{◌≡◌, ◌∙◌, List, Bool, true, length, replicate, subst, sym, ap, rules}
use Rattle.batch_kernels.specs.Masks.{IsNarrowed}
use Rattle.batch_filter.specs.Sieves.{asks}
use Rattle.batch_filter.proofs.SieveLemmas.{narrowed_verdicts, written_whole}
use Rattle.batch_filter.proofs.sieve.Sieve.of.Goals as goal

pub returns : goal.returns
returns c =
    let mask = c.in_ok-mask.mask in
    let new = c.narrow.new.mask in
    let items : mask.items ≡ replicate c.len.result true = search rules in
    let counted : mask.len ≡ length mask.items = search rules in
    let slice : c.deref_mut.result.now ≡ mask.items = search rules in
    let is = subst (λ (old : List Bool). IsNarrowed (asks c.args.schema.now c.args.packed.now true c.args.pred.now) old new) (slice ∙ items) c.in_ok-narrow.ensures in
    let same : length new ≡ length mask.items = is.0 ∙ sym (ap length items) in
    c.from_vec.ensures ∙ written_whole mask.len mask.items new counted same ∙ narrowed_verdicts c.args.schema.now c.args.packed.now c.args.pred.now c.len.result new c.len.ensures is
