use Rattle.std.proofs.Common.{◌≡◌, ◌∙◌, sym, length, get_or, true, arith}
use Rattle.std.specs.Prelude.{◌==◌}
use Rattle.std.proofs.lemmas.Bool.Decides.{nat_tests}
use Rattle.std.proofs.lemmas.List.{nil_from_length}
use Rattle.group_directory.proofs.ObstacleLaws.{never_obstacle}
use Rattle.group_directory.proofs.directory.Directory.has_no_obstacles.Goals as goal

pub returns : goal.returns
returns c = λ yes m s j same low k d within.
    let is : (length c.args.present.now == 0) ≡ true = sym c.is_empty.ensures ∙ c.if-not-is_empty.false in
    let none : length c.args.present.now ≡ 0 = grind (arith, nat_tests, is) in
    never_obstacle m c.args.session s (get_or c.args.keys.now k d) c.args.self.now.txns c.args.self.now.pruned c.args.self.now.recent.changes c.args.present.now same j.recent low
    (c.others_write.ensures.none c.if-others_write.false) (c.are_apart.ensures yes k d within) (nil_from_length c.args.present.now none)
