-- What actors' work is for the log: its printed text, and whether it says that memory was wanting.
use Rattle.std.specs.Prelude.{ℕ, List, ◌++◌, Bool, true, false, codes, decimal}
use Rattle.cs_model.specs.declared.work.Actor.{Actor}
use Rattle.cs_model.specs.declared.work.Actor.TheVariants as actor
use Rattle.cs_model.specs.declared.work.Work.{Work}
use Rattle.cs_model.specs.declared.work.Work.TheVariants as work

-- the work says that memory was wanting: in the place of a turn's first event, or for what was to be installed
abbrev pub lacks_memory : Work → Bool
lacks_memory work.Memory = true
lacks_memory (work.ReleaseCompress source fresh) = true
lacks_memory (work.ReleaseRebuild source fresh) = true
lacks_memory (work.ReleaseMerge first second fresh) = true
lacks_memory (work.ReleaseFlush entries) = true
lacks_memory (work.ClaimCompress source fresh) = false
lacks_memory (work.InstallCompress source fresh rows) = false
lacks_memory (work.ClaimRebuild source fresh) = false
lacks_memory (work.InstallRebuild source fresh rows) = false
lacks_memory (work.ClaimMerge first second fresh) = false
lacks_memory (work.InstallMerge first second fresh rows) = false
lacks_memory (work.ClaimFlush entries) = false
lacks_memory (work.InstallFlush entries) = false
lacks_memory (work.Settle ends) = false
lacks_memory (work.Clear groups) = false
lacks_memory (work.Close group) = false

-- `s<n>`
abbrev pub session_text : ℕ → List ℕ
session_text session = codes "s" ++ decimal session

-- `s<n>` or `m<n>`
abbrev pub actor_text : Actor → List ℕ
actor_text (actor.Session n) = session_text n
actor_text (actor.Mover n) = codes "m" ++ decimal n

-- `<words> <i> to <j>`: one group becomes another
abbrev pub renewed_text : List ℕ → ℕ → ℕ → List ℕ
renewed_text words source fresh = words ++ codes " " ++ decimal source ++ codes " to " ++ decimal fresh

-- `<words> <i> <j> to <k>`: two groups become one
abbrev pub merged_text : List ℕ → ℕ → ℕ → ℕ → List ℕ
merged_text words first second fresh = words ++ codes " " ++ decimal first ++ codes " " ++ decimal second ++ codes " to " ++ decimal fresh

-- `<words> rows <r>`
abbrev pub rows_text : List ℕ → ℕ → List ℕ
rows_text words rows = words ++ codes " rows " ++ decimal rows

-- `<words> <n>`
abbrev pub counted_text : List ℕ → ℕ → List ℕ
counted_text words count = words ++ codes " " ++ decimal count

abbrev pub work_text : Work → List ℕ
work_text (work.ClaimCompress source fresh) = renewed_text (codes "claim compress") source fresh
work_text (work.InstallCompress source fresh rows) = rows_text (renewed_text (codes "install compress") source fresh) rows
work_text (work.ReleaseCompress source fresh) = renewed_text (codes "release compress") source fresh
work_text (work.ClaimRebuild source fresh) = renewed_text (codes "claim rebuild") source fresh
work_text (work.InstallRebuild source fresh rows) = rows_text (renewed_text (codes "install rebuild") source fresh) rows
work_text (work.ReleaseRebuild source fresh) = renewed_text (codes "release rebuild") source fresh
work_text (work.ClaimMerge first second fresh) = merged_text (codes "claim merge") first second fresh
work_text (work.InstallMerge first second fresh rows) = rows_text (merged_text (codes "install merge") first second fresh) rows
work_text (work.ReleaseMerge first second fresh) = merged_text (codes "release merge") first second fresh
work_text (work.ClaimFlush entries) = counted_text (codes "claim flush") entries
work_text (work.InstallFlush entries) = counted_text (codes "install flush") entries
work_text (work.ReleaseFlush entries) = counted_text (codes "release flush") entries
work_text (work.Settle ends) = counted_text (codes "settle") ends
work_text (work.Clear groups) = counted_text (codes "clear") groups
work_text (work.Close group) = counted_text (codes "close") group
work_text work.Memory = codes "memory"
