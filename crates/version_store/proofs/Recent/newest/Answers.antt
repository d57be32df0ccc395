use Rattle.std.proofs.Common.{◌≡◌, sym, ◌∙◌, ap, Option, Some, None}
use Rattle.std.specs.Option.{option_or, option_copied}
use Rattle.std.specs.FinMap as map
use Rattle.version_store.specs.declared.NewestChange.{NewestChange}
use Rattle.version_store.specs.Newest.{Newest}
use Rattle.version_store.specs.Loads.{newest_first, found}
use Rattle.version_store.proofs.Laid.{get-laid, found-lookup}
use Rattle.version_store.proofs.Recent.newest.Goals as goal

pub returns-in-Some : goal.returns-in-Some
returns-in-Some c =
    let own = c.self.inside.changes.entries in
    let runs = newest_first c.self.inside.runs.loads in
    let first : found own c.args.key ≡ Some c.in-Some.change.now = found-lookup own c.args.key ∙ sym c.get.ensures.value ∙ ap option_copied c.in-Some.is in
    sym (get-laid own runs c.args.key ∙ ap (λ (o : Option NewestChange). option_or o (found runs c.args.key)) first)
    ∙ ap (λ (n : Newest). map.get n.changes c.args.key) c.self.view_is

pub returns-in-None : goal.returns-in-None
returns-in-None c =
    let own = c.self.inside.changes.entries in
    let runs = newest_first c.self.inside.runs.loads in
    let none : found own c.args.key ≡ None = found-lookup own c.args.key ∙ sym c.get.ensures.value ∙ ap option_copied c.in-None.is in
    c.newest.ensures
    ∙ sym (get-laid own runs c.args.key ∙ ap (λ (o : Option NewestChange). option_or o (found runs c.args.key)) none)
    ∙ ap (λ (n : Newest). map.get n.changes c.args.key) c.self.view_is
