use Rattle.std.proofs.Common.{◌+◌, length, arith, ◌≡◌, sym, ◌∙◌, ap, List, []}
use Rattle.std.specs.Option.{option_or}
use Rattle.std.specs.FinMap as map
use Rattle.std.proofs.lemmas.List.{nil_from_length}
use Rattle.cs_types.specs.declared.Key.{Key}
use Rattle.version_store.specs.declared.NewestChange.{NewestChange}
use Rattle.version_store.specs.Newest.{Newest}
use Rattle.version_store.specs.Loads.{newest_first, found}
use Rattle.version_store.proofs.Laid.{get-laid}
use Rattle.version_store.proofs.Recent.is_apart.Goals as goal

pub returns-then-is_empty-clause-apart : goal.returns-then-is_empty-clause-apart
returns-then-is_empty-clause-apart c = λ yes key within.
    let own = c.self.inside.changes.entries in
    let runs = newest_first c.self.inside.runs.loads in
    let none : own ≡ [] = nil_from_length own (c.is_empty.ensures.0 c.if-is_empty.true) in
    sym (ap (λ (n : Newest). map.get n.changes key) c.self.view_is)
    ∙ get-laid own runs key
    ∙ ap (λ (es : List (Key × NewestChange)). option_or (found es key) (found runs key)) none
    ∙ c.is_apart.ensures.apart yes key within

pub returns-then-is_empty-clause-none : goal.returns-then-is_empty-clause-none
returns-then-is_empty-clause-none c = λ none.
    let held : length c.self.inside.changes.entries + length (newest_first c.self.inside.runs.loads) ≡ c.args.self.now.held = ap (λ (n : Newest). n.held) c.self.view_is in
    c.is_apart.ensures.none (omega (arith, held, none))

pub returns-else-is_empty-clause-none : goal.returns-else-is_empty-clause-none
returns-else-is_empty-clause-none c = λ none.
    let held : length c.self.inside.changes.entries + length (newest_first c.self.inside.runs.loads) ≡ c.args.self.now.held = ap (λ (n : Newest). n.held) c.self.view_is in
    absurd (cc (c.is_empty.ensures.1 (omega (arith, held, none)), c.if-is_empty.false))
