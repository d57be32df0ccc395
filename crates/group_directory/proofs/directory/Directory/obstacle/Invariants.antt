use Rattle.std.proofs.Common.{◌≡◌, ℕ, All, take, None, Some}
use Rattle.cs_model.specs.Obstacles.{IsObstacle}
use Rattle.cs_model.specs.State.{State}
use Rattle.txn_table.specs.Txns.{txn_of, snapshots_in}
use Rattle.group_book.specs.Commits.{is_one_of}
use Rattle.group_directory.specs.Obstacles.{txns_of}
use Rattle.group_directory.specs.Stands.{Stands}
use Rattle.group_directory.proofs.directory.Directory.obstacle.Given as goal

abbrev pub invariant-loop-key : goal.invariant-loop-key
invariant-loop-key l = (m : State) (s : ℕ) → Stands l.self m.changes → m.txns ≡ txns_of l.self.txns → snapshots_in (txn_of l.self.txns) l.session ≡ Some s
    → All (λ key. IsObstacle m l.session (Some s) (is_one_of l.present) key None) (take l.key-index l.keys)
