-- A reader of works: what stands before the first digit tells the form, and the numbers are taken by their places.
use Rattle.std.proofs.Common.{ℕ, List, get_or, if◌then◌else◌, bytes_eq, codes, false}
use Rattle.cs_model.specs.declared.work.Work.{Work}
use Rattle.cs_model.specs.declared.work.Work.TheVariants as work
use Rattle.text_laws.proofs.Numbers.{head_of, numbers_in}

-- the work with this head and these numbers
abbrev pub made : List ℕ → List ℕ → Work
made head numbers =
    let a : ℕ = get_or numbers 0 0 in
    let b : ℕ = get_or numbers 1 0 in
    let c : ℕ = get_or numbers 2 0 in
    let d : ℕ = get_or numbers 3 0 in
    if bytes_eq head (codes "claim compress ") then work.ClaimCompress a b
    else (if bytes_eq head (codes "install compress ") then work.InstallCompress a b c
    else (if bytes_eq head (codes "release compress ") then work.ReleaseCompress a b
    else (if bytes_eq head (codes "claim rebuild ") then work.ClaimRebuild a b
    else (if bytes_eq head (codes "install rebuild ") then work.InstallRebuild a b c
    else (if bytes_eq head (codes "release rebuild ") then work.ReleaseRebuild a b
    else (if bytes_eq head (codes "claim merge ") then work.ClaimMerge a b c
    else (if bytes_eq head (codes "install merge ") then work.InstallMerge a b c d
    else (if bytes_eq head (codes "release merge ") then work.ReleaseMerge a b c
    else (if bytes_eq head (codes "claim flush ") then work.ClaimFlush a
    else (if bytes_eq head (codes "install flush ") then work.InstallFlush a
    else (if bytes_eq head (codes "release flush ") then work.ReleaseFlush a
    else (if bytes_eq head (codes "settle ") then work.Settle a
    else (if bytes_eq head (codes "clear ") then work.Clear a
    else (if bytes_eq head (codes "close ") then work.Close a
    else work.Memory))))))))))))))

-- the work of a line, whatever follows it
abbrev pub work_in : List ℕ → Work
work_in bytes = made (head_of bytes) (numbers_in bytes false 0)
