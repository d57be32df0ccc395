use Rattle.std.proofs.Common.{◌≡◌, ◌≤◌, ◌+◌, All, take, Some, None, true, false, sym, subst, ◌∙◌, arith, rules, is_some}
use Rattle.std.proofs.lemmas.List.{take_all}
use Rattle.std.proofs.lemmas.Option.{same_Some}
use Rattle.cs_model.specs.Obstacles.{IsObstacle, IsJudged}
use Rattle.txn_table.specs.Txns.{txn_of, snapshots_in}
use Rattle.group_book.specs.Commits.{is_one_of}
use Rattle.group_directory.proofs.ObstacleLaws.{first_judged, next_judged}
use Rattle.group_directory.proofs.directory.Directory.obstacle.Goals as goal

pub returns-then-has_no_obstacles : goal.returns-then-has_no_obstacles
returns-then-has_no_obstacles c = λ m s j same at.
    let low : c.args.self.now.pruned ≤ s = let pruned = j.pruned in let le = j.is_floor.least c.args.session s at in omega (arith, pruned, le) in
    c.has_no_obstacles.ensures c.if-has_no_obstacles.true m s j same low

pub returns-then-is_some : goal.returns-then-is_some
returns-then-is_some c = λ m s j same at.
    let here : snapshots_in (txn_of c.args.self.now.txns) c.args.session ≡ Some c.in-Some.snapshot = sym c.snapshot.ensures ∙ c.in-Some.is in
    let low : c.args.self.now.pruned ≤ c.in-Some.snapshot = let pruned = j.pruned in let le = j.is_floor.least c.args.session c.in-Some.snapshot here in omega (arith, pruned, le) in
    let some : is_some c.obstacle_at-found.result ≡ true = search rules in
    subst (λ x. IsJudged (IsObstacle m c.args.session (Some x) (is_one_of c.args.present.now)) c.args.keys.now c.obstacle_at-found.result) (same_Some c.in-Some.snapshot s (sym here ∙ at))
    (first_judged (IsObstacle m c.args.session (Some c.in-Some.snapshot) (is_one_of c.args.present.now)) c.args.keys.now c.requires.keys c.loop-key.key-index _ c.loop-key-test.true
    (c.loop-key.invariant m c.in-Some.snapshot j same here) c.obstacle_at-found.result some (c.obstacle_at-found.ensures m j same low))

pub loop-key-preserved : goal.loop-key-preserved
loop-key-preserved c = λ m s j same at.
    let here : snapshots_in (txn_of c.args.self.now.txns) c.args.session ≡ Some c.in-Some.snapshot = sym c.snapshot.ensures ∙ c.in-Some.is in
    let low : c.args.self.now.pruned ≤ c.in-Some.snapshot = let pruned = j.pruned in let le = j.is_floor.least c.args.session c.in-Some.snapshot here in omega (arith, pruned, le) in
    let none : is_some c.obstacle_at-found.result ≡ false = search rules in
    subst (λ x. All (λ key. IsObstacle m c.args.session (Some x) (is_one_of c.args.present.now) key None) (take (c.loop-key.key-index + 1) c.args.keys.now)) (same_Some c.in-Some.snapshot s (sym here ∙ at))
    (next_judged (IsObstacle m c.args.session (Some c.in-Some.snapshot) (is_one_of c.args.present.now)) c.args.keys.now c.requires.keys c.loop-key.key-index _ c.loop-key-test.true
    (c.loop-key.invariant m c.in-Some.snapshot j same here) c.obstacle_at-found.result none (c.obstacle_at-found.ensures m j same low))

pub returns : goal.returns
returns c = λ m s j same at. rw (take_all c.loop-key.key-index c.args.keys.now c.loop-key-test.false) at c.loop-key.invariant m s j same at
