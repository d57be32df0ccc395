use Rattle.std.proofs.Common.{◌≡◌, Some, None, sym, subst, ◌∙◌}
use Rattle.delete_bitmap.specs.Marks.{end_at}
use Rattle.delete_buffer.specs.Entries.{IsLeastEnd}
use Rattle.group_view.proofs.EndLemmas.{ends_least, ends_none}
use Rattle.group_view.proofs.ended.is_end_of.Goals as goal

pub returns-in-Some : goal.returns-in-Some
returns-in-Some c =
    let recorded : end_at c.args.marks.now c.args.position ≡ Some c.in-Some.field-0 = sym c.end.ensures ∙ c.in-Some.is in
    λ version is own. sym (ends_none c.args.packed.now c.args.marks.now c.args.buffer.now.entries c.args.key c.args.end c.args.position version is own c.in-Some.field-0 recorded)

pub returns-in-None : goal.returns-in-None
returns-in-None c =
    let none : end_at c.args.marks.now c.args.position ≡ None = sym c.end.ensures ∙ c.in-None.is in
    let least = subst (λ begin. IsLeastEnd c.args.buffer.now.entries c.args.key begin c.ends.result) c.begin.ensures c.ends.ensures in
    λ version is own. c.is_found.ensures ∙ sym (ends_least c.args.packed.now c.args.marks.now c.args.buffer.now.entries c.args.key c.args.end c.args.position version is own c.ends.result none least)
