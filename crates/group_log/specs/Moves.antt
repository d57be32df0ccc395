-- How an entry may move the groups.
use Rattle.std.specs.Prelude.{List, []}
use Rattle.cs_model.specs.declared.entry.Entry.{Entry}
use Rattle.cs_model.specs.declared.entry.Entry.TheVariants.{Start, Finish, End, Mover}
use Rattle.cs_model.specs.declared.work.Work.{Work}
use Rattle.cs_model.specs.declared.work.Work.TheVariants as work
use Rattle.group_book.specs.States.{State, mover_transitions, close_transitions, commit_transitions}

-- a close makes its one transition, and every other work those of movers
abbrev pub work_transitions : Work → List (State × State)
work_transitions (work.ClaimCompress source fresh) = mover_transitions
work_transitions (work.InstallCompress source fresh rows) = mover_transitions
work_transitions (work.ReleaseCompress source fresh) = mover_transitions
work_transitions (work.ClaimRebuild source fresh) = mover_transitions
work_transitions (work.InstallRebuild source fresh rows) = mover_transitions
work_transitions (work.ReleaseRebuild source fresh) = mover_transitions
work_transitions (work.ClaimMerge first second fresh) = mover_transitions
work_transitions (work.InstallMerge first second fresh rows) = mover_transitions
work_transitions (work.ReleaseMerge first second fresh) = mover_transitions
work_transitions (work.ClaimFlush entries) = mover_transitions
work_transitions (work.InstallFlush entries) = mover_transitions
work_transitions (work.ReleaseFlush entries) = mover_transitions
work_transitions (work.Settle ends) = mover_transitions
work_transitions (work.Clear groups) = mover_transitions
work_transitions (work.Close group) = close_transitions
work_transitions work.Memory = mover_transitions

-- a Finish makes the transitions of a commit, a work its own, and a Start and an End none
abbrev pub transitions_of : Entry → List (State × State)
transitions_of (Start session b short) = []
transitions_of (Finish session r) = commit_transitions
transitions_of (End session) = []
transitions_of (Mover by w) = work_transitions w
