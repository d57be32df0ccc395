use Rattle.std.proofs.Common.{sym, ◌∙◌}
use Rattle.group_view.specs.Books.{group_of}
use Rattle.group_directory.specs.Installing.{ids_of}
use Rattle.group_directory.proofs.InstallLists.{buried_is, named_by, not_buried}
use Rattle.group_directory.proofs.installs.bury_source.Goals as goal

pub returns-then-has : goal.returns-then-has
returns-then-has c =
    buried_is (ids_of c.args.sources.now.groups) c.args.group.now c.total.result c.deleted.result (named_by c.args.sources.now.groups (group_of c.args.group.now) ∙ sym c.has.ensures ∙ c.if-has.true) c.total.ensures c.deleted.ensures

pub returns-else-has : goal.returns-else-has
returns-else-has c = not_buried (ids_of c.args.sources.now.groups) c.args.group.now (named_by c.args.sources.now.groups (group_of c.args.group.now) ∙ sym c.has.ensures ∙ c.if-has.false)
