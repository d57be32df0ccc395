use Rattle.std.proofs.Common.{Bool, ap, sym, ◌∙◌}
use Rattle.std.specs.Prelude.{◌||◌}
use Rattle.std.specs.List.{list_any}
use Rattle.group_book.specs.Book.{Ending}
use Rattle.group_book.specs.Turns.{ends}
use Rattle.group_view.specs.Views.{endings_of}
use Rattle.group_view.proofs.EndLemmas.{versions}
use Rattle.group_view.proofs.Noted.{any_of_parts}
use Rattle.group_view.proofs.ended.has_packed.Goals as goal

pub returns-then-has_among : goal.returns-then-has_among
returns-then-has_among c =
    let held = c.args.buffer.now.entries in
    let test : Ending → Bool = λ entry. list_any (ends (endings_of held) entry) (versions c.args.packed.now c.args.marks.now) in
    let parts = c.parts-parts.result in
    c.if-has_among.true
    ∙ sym (any_of_parts test held parts.settled.now parts.recent.now c.parts-parts.ensures.entries
    ∙ ap (λ (b : Bool). b || list_any test (endings_of parts.recent.now)) (sym c.has_among.ensures ∙ c.if-has_among.true))

pub returns-else-has_among : goal.returns-else-has_among
returns-else-has_among c =
    let held = c.args.buffer.now.entries in
    let test : Ending → Bool = λ entry. list_any (ends (endings_of held) entry) (versions c.args.packed.now c.args.marks.now) in
    let parts = c.parts-parts.result in
    c.has_among-else-has_among.ensures
    ∙ sym (any_of_parts test held parts.settled.now parts.recent.now c.parts-parts.ensures.entries
    ∙ ap (λ (b : Bool). b || list_any test (endings_of parts.recent.now)) (sym c.has_among.ensures ∙ c.if-has_among.false))
