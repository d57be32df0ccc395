-- What a commit and the work of a mover make of a book that is one of the changes is one of the changes after them.
use Rattle.std.proofs.Common.{◌≡◌, ℕ, ◌+◌, ◌≤◌, List, [], ◌∷◌, ◌++◌, length, map, drop, refl, sym, ap, subst, ◌∙◌}
use Rattle.std.specs.Prelude.{Contains}
use Rattle.std.specs.List.Sorted.{IsStrictlySortedBy}
use Rattle.std.proofs.lemmas.List.{append-nil, drop_at}
use Rattle.cs_types.specs.Keys.{key_cmp}
use Rattle.cs_model.specs.declared.entry.Reply.{Reply}
use Rattle.cs_model.specs.declared.entry.Entry.TheVariants.{Finish}
use Rattle.cs_model.specs.declared.work.Actor.{Actor}
use Rattle.cs_model.specs.declared.work.Work.{Work}
use Rattle.cs_model.specs.Changes.{Edit, Change}
use Rattle.cs_model.specs.Obstacles.{keys_of}
use Rattle.cs_model.specs.State.{State, Begin}
use Rattle.cs_model.specs.Steps.{IsStep, numbered}
use Rattle.log_laws.specs.Laws.{IsSound}
use Rattle.log_laws.proofs.Sound.{writes_sound}
use Rattle.group_book.specs.Book.{Choice, Claim, Book}
use Rattle.group_book.specs.Book.Choice.{Compress, Flush, Rebuild, Merge, Settle, Clear, Idle}
use Rattle.group_book.specs.Choices.{choice}
use Rattle.group_book.specs.Commits.{Sizes}
use Rattle.group_book.specs.Invariant.{makes_group, IsBookOf}
use Rattle.group_book.specs.Stocks.{AreChanges}
use Rattle.group_book.specs.Turns.{after_work}
use Rattle.group_book.proofs.Chosen.{choice_apt}
use Rattle.group_book.proofs.Closed.{close_is}
use Rattle.group_book.proofs.Flushed.{flush_is}
use Rattle.group_book.proofs.Installed.{install_is}
use Rattle.group_book.proofs.Kept.{commit_is}
use Rattle.group_book.proofs.Made.{once_sorted}
use Rattle.group_book.proofs.Orders.{order_free}
use Rattle.group_book.proofs.Released.{release_is}
use Rattle.group_book.proofs.Turned.{turn_is}
use Rattle.group_book.proofs.Visible.{ascending_of, below_of}
use Rattle.group_log.specs.Followed.{committed_edits, book_with, Commits, Works}
use Rattle.group_log.specs.Followed.Works.{chosen, out_of_memory, installed, released, closed}
use Rattle.group_log.proofs.Claims.{claim_in}

pub changes_of : (m : State) → IsSound m → AreChanges m.changes m.clock
changes_of m sound = record { below = sound.commits; ascend = sound.ascend }

-- ---- commits

edits_of : (commit txn : ℕ) (own : List Edit) → map (λ (change : Change). change.edit) (numbered commit txn own) ≡ own
edits_of commit txn [] = refl
edits_of commit txn (edit ∷ own) = ap (λ edits. edit ∷ edits) (edits_of commit txn own)

commit_keeps : (sizes : Sizes) (m : State) (txn floor : ℕ) (own : List Edit) (book made : Book) → 1 ≤ sizes.group_rows → 1 ≤ sizes.direct_rows → AreChanges m.changes m.clock → floor ≤ m.clock
    → IsStrictlySortedBy key_cmp (keys_of own) → IsBookOf sizes.group_rows book m.changes floor → Commits sizes m own book made → IsBookOf sizes.group_rows made (m.changes ++ numbered (m.clock + 1) txn own) floor
commit_keeps sizes m txn floor [] book made room some a reach sorted j same =
    subst (λ changes. IsBookOf sizes.group_rows made changes floor) (sym (append-nil m.changes)) (subst (λ b. IsBookOf sizes.group_rows b m.changes floor) (sym same) j)
commit_keeps sizes m txn floor (edit ∷ own) book made room some a reach sorted j commits =
    let up = ascending_of m.changes a.ascend in
    order_free sizes.group_rows (book_with sizes m (edit ∷ own) book) made (m.changes ++ numbered (m.clock + 1) txn (edit ∷ own)) floor commits.0
    (commit_is sizes book m.changes m.clock floor txn (edit ∷ own) (below_of m.changes m.clock a) up reach (once_sorted (edit ∷ own) sorted) room some j)

-- what a Finish commits are own writes by key
pub finish_keeps : (begin : Begin) (sizes : Sizes) (m after : State) (session : ℕ) (r : Reply) (floor : ℕ) (book made : Book) → 1 ≤ sizes.group_rows → 1 ≤ sizes.direct_rows → IsSound m → floor ≤ m.clock
    → IsStep begin m (Finish session r) after → IsBookOf sizes.group_rows book m.changes floor → Commits sizes m (committed_edits m after) book made → IsBookOf sizes.group_rows made after.changes floor
finish_keeps begin sizes m after session r floor book made room some sound reach step j commits =
    let w = writes_sound begin m (Finish session r) after step sound in
    let own : committed_edits m after ≡ w.own =
    ap (λ changes. map (λ (change : Change). change.edit) (drop (length m.changes) changes)) w.changes
    ∙ ap (λ changes. map (λ (change : Change). change.edit) changes) (drop_at m.changes (numbered (m.clock + 1) w.txn w.own) (length m.changes) refl)
    ∙ edits_of (m.clock + 1) w.txn w.own in
    subst (λ changes. IsBookOf sizes.group_rows made changes floor) (sym w.changes)
    (commit_keeps sizes m w.txn floor w.own book made room some (changes_of m sound) reach w.ascend j (subst (λ edits. Commits sizes m edits book made) own commits))

-- ---- the work of movers

work_keeps : (group_rows : ℕ) (book : Book) (changes : List Change) (floor : ℕ) (claim : Claim) (choice : Choice) → claim.choice ≡ choice → Contains book.claims claim → IsBookOf group_rows book changes floor
    → IsBookOf group_rows (after_work choice claim book) changes floor
work_keeps group_rows book changes floor claim (Compress source) e in_list j = install_is group_rows book changes floor claim j in_list (ap makes_group e)
work_keeps group_rows book changes floor claim Flush e in_list j = flush_is group_rows book changes floor claim j in_list e
work_keeps group_rows book changes floor claim (Rebuild source) e in_list j = install_is group_rows book changes floor claim j in_list (ap makes_group e)
work_keeps group_rows book changes floor claim (Merge first second) e in_list j = install_is group_rows book changes floor claim j in_list (ap makes_group e)
work_keeps group_rows book changes floor claim Settle e in_list j = j
work_keeps group_rows book changes floor claim Clear e in_list j = j
work_keeps group_rows book changes floor claim Idle e in_list j = j

pub works_keep : (sizes : Sizes) (floor : ℕ) (by : Actor) (book : Book) (changes : List Change) (clock : ℕ) (w : Work) (made : Book) → AreChanges changes clock → IsBookOf sizes.group_rows book changes floor
    → Works sizes floor by book w made → IsBookOf sizes.group_rows made changes floor
works_keep sizes floor by book changes clock w made a j (chosen none is) =
    turn_is sizes.group_rows book changes floor (ascending_of changes a.ascend) by j (choice floor sizes.group_rows by book) (choice_apt sizes.group_rows floor book by j.groups none)
works_keep sizes floor by book changes clock w made a j (out_of_memory none is) = j
works_keep sizes floor by book changes clock w made a j (installed claim holds is moved) =
    order_free sizes.group_rows (after_work claim.choice claim book) made changes floor moved (work_keeps sizes.group_rows book changes floor claim claim.choice refl (claim_in by book claim holds) j)
works_keep sizes floor by book changes clock w made a j (released claim holds is) = release_is sizes.group_rows book changes floor claim j (claim_in by book claim holds)
works_keep sizes floor by book changes clock w made a j (closed session none is) = close_is sizes.group_rows book changes floor j
