-- What sessions' works and replies are by a REORGANIZE, along a log that goes on.
use Rattle.std.proofs.Common.{List, [], ◌∷◌, ◌++◌, sym, subst, append_assoc}
use Rattle.std.proofs.lemmas.List.{append-nil}
use Rattle.cs_model.specs.declared.entry.Entry.{Entry}
use Rattle.group_log.specs.Followed.{Ground}
use Rattle.group_log.specs.Reorganizing.{IsReorganizedEntry, AreReorganizedAfter, IsReorganized}

after_on : (origin : Ground) (before log : List Entry) (entry : Entry) → AreReorganizedAfter origin before log → IsReorganizedEntry origin (before ++ log) entry → AreReorganizedAfter origin before (log ++ entry ∷ [])
after_on origin before [] entry x is = (subst (λ es. IsReorganizedEntry origin es entry) (append-nil before) is, tt)
after_on origin before (e ∷ log) entry x is = (x.0, after_on origin (before ++ e ∷ []) log entry x.1 (subst (λ es. IsReorganizedEntry origin es entry) (sym (append_assoc before (e ∷ []) log)) is))

-- one entry more
pub reorganized_on : (origin : Ground) (log : List Entry) (entry : Entry) → IsReorganized origin log → IsReorganizedEntry origin log entry → IsReorganized origin (log ++ entry ∷ [])
reorganized_on origin log entry x is = after_on origin [] log entry x is
