use Rattle.std.proofs.Common.{◌+◌, ◌∙◌, ap, sym, length}
use Rattle.column_segment.specs.Dicts.{dict_codes}
use Rattle.column_segment.proofs.Dicts.{text_codes}
use Rattle.column_segment.proofs.dict.codes_of.Goals as goal

pub returns-in-Texts : goal.returns-in-Texts
returns-in-Texts c =
    ap (λ l. length l + c.from-in-Texts.result) c.as_slice-in-Texts.ensures
    ∙ ap (λ n. length c.in-Texts.texts.ends + n) c.from-in-Texts.ensures
    ∙ text_codes c.in-Texts.texts.ends c.in-Texts.texts.bytes c.in-Texts.texts.nulls
    ∙ sym (ap dict_codes c.in-Texts.is)
