-- The first event of a turn keeps the book one of the changes.
use Rattle.std.proofs.Common.{ℕ, List, [], ◌∷◌, arith}
use Rattle.cs_model.specs.declared.work.Actor.{Actor}
use Rattle.cs_model.specs.Changes.{Change}
use Rattle.group_book.specs.Book.{Choice, Book}
use Rattle.group_book.specs.Book.Choice.{Compress, Flush, Rebuild, Merge, Settle, Clear, Idle}
use Rattle.group_book.specs.Choices.{flush_sources, after_choice}
use Rattle.group_book.specs.Invariant.{IsBookOf, MayDo}
use Rattle.group_book.proofs.Changes.{AreAscending}
use Rattle.group_book.proofs.Sized.{clear_is}
use Rattle.group_book.proofs.Steady.{settle_is}
use Rattle.group_book.proofs.Claimed.{claim_is, flush_claimed}

pub turn_is : (group_rows : ℕ) (book : Book) (cs : List Change) (floor : ℕ) → AreAscending cs → (by : Actor) → IsBookOf group_rows book cs floor → (made : Choice) → MayDo group_rows book floor by made → IsBookOf group_rows (after_choice made floor by book) cs floor
turn_is group_rows book cs floor up by j (Compress source) may = claim_is group_rows book cs floor up by (Compress source) (source ∷ []) j may
turn_is group_rows book cs floor up by j Flush may = flush_claimed group_rows book cs floor up by (flush_sources book) j may
turn_is group_rows book cs floor up by j (Rebuild source) may = claim_is group_rows book cs floor up by (Rebuild source) (source ∷ []) j may
turn_is group_rows book cs floor up by j (Merge first second) may = claim_is group_rows book cs floor up by (Merge first second) (first ∷ second ∷ []) j may
turn_is group_rows book cs floor up by j Settle may = settle_is group_rows book cs floor floor (omega arith) j
turn_is group_rows book cs floor up by j Clear may = clear_is group_rows book cs floor j
turn_is group_rows book cs floor up by j Idle may = j
