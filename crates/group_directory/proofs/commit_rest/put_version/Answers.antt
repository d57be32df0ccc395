use Rattle.std.proofs.Common.{◌≡◌, ◌+◌, ◌<◌, List, length, ap, ◌∙◌, arith}
use Rattle.std.proofs.lemmas.List.{length_push}
use Rattle.group_view.specs.Parts.{Rowed}
use Rattle.group_view.specs.Books.{rowed_in_content}
use Rattle.group_directory.proofs.ChangeLemmas.{roomy_put}
use Rattle.group_directory.proofs.commit_rest.put_version.Goals as goal

pub returns-then-count-group_rows-clause-room : goal.returns-then-count-group_rows-clause-room
returns-then-count-group_rows-clause-room c = λ rows roomy.
    let made = c.insert_into-count.ensures in
    let more : length (rowed_in_content c.insert_into-count.new.content) ≡ length (rowed_in_content c.args.content.now) + 1 = ap (λ (rowed : List Rowed). length rowed) made.rows ∙ length_push (rowed_in_content c.args.content.now) _ in
    let less : length (rowed_in_content c.insert_into-count.new.content) < c.args.group_rows = omega (arith, made.count, c.if-count-group_rows.true) in
    roomy_put c.args.group_rows rows c.args.content.now c.insert_into-count.new.content c.requires.state made.state more less made.room roomy
