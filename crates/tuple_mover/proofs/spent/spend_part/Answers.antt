use Rattle.std.proofs.Common.{◌≡◌, ◌∙◌, ◌++◌, ◌∷◌, ◌<◌, List, [], take, length, ap, arith}
use Rattle.std.proofs.lemmas.List.{append_assoc}
use Rattle.group_book.specs.Book.{Version}
use Rattle.group_view.specs.Parts.{lived_version, rowed_in, versions_in}
use Rattle.group_view.specs.Views.{endings_of}
use Rattle.tuple_mover.specs.Spent.{spent_by}
use Rattle.tuple_mover.proofs.SpentLemmas.{versions-more}
use Rattle.tuple_mover.proofs.spent.spend_part.Goals as goal

pub loop-position-preserved : goal.loop-position-preserved
loop-position-preserved c = λ (versions : List Version) (was : c.args.spent.now.items ≡ spent_by c.args.floor (endings_of c.args.buffer.now) versions).
    let buffer = endings_of c.args.buffer.now in
    let rowed = rowed_in c.args.part.now in
    let i = c.loop-position.position in
    let there : i < length rowed = omega (arith, c.len-position-end.ensures) in
    let version : Version = lived_version c.version-lived.result in
    let before = take i (versions_in c.args.part.now) in
    c.spend.ensures (versions ++ before) (c.loop-position.invariant versions was)
    ∙ ap (spent_by c.args.floor buffer) (append_assoc versions before (version ∷ []) ∙ ap (λ (more : List Version). versions ++ more) (versions-more rowed i version there c.version-lived.ensures))
