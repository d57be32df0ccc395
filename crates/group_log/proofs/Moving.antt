-- An entry moves the groups by the listed transitions alone.
use Rattle.std.proofs.Common.{◌≡◌, ℕ, ◌<◌, ◌≤◌, ◌+◌, ◌⊎◌, List, [], ◌∷◌, refl, sym, ap, subst, ◌∙◌, Option, None, Some}
use Rattle.std.specs.Prelude.{Contains}
use Rattle.std.proofs.lemmas.List.Elements.{All-contains}
use Rattle.cs_model.specs.declared.entry.Entry.{Entry}
use Rattle.cs_model.specs.declared.entry.Entry.TheVariants.{Start, Finish, End, Mover}
use Rattle.cs_model.specs.declared.work.Actor.{Actor}
use Rattle.cs_model.specs.declared.work.Work.{Work}
use Rattle.cs_model.specs.Changes.{Edit, Change}
use Rattle.cs_model.specs.State as model
use Rattle.group_book.specs.Book.{Choice, Claim, Book}
use Rattle.group_book.specs.Book.Choice.{Compress, Flush, Rebuild, Merge, Settle, Clear, Idle}
use Rattle.group_book.specs.Choices.{choice, after_choice, choice_work, flush_sources, install_work, release_work}
use Rattle.group_book.specs.Commits.{Sizes, replaced_by, inserted_by}
use Rattle.group_book.specs.Invariant.{IsClaim, IsBookOf}
use Rattle.group_book.specs.Orders.{IsReordered}
use Rattle.group_book.specs.States.{State, state_of, mover_transitions, commit_transitions, GroupsMoveBy}
use Rattle.group_book.specs.Turns.{after_work}
use Rattle.group_book.proofs.Committed.{commit_moves}
use Rattle.group_book.proofs.Moves.{claim_moves, flush_claim_moves, install_moves, flush_moves, release_moves, settle_moves, clear_moves, close_moves, itself}
use Rattle.group_book.proofs.Orders.{same_states}
use Rattle.group_log.specs.Followed.{Ground, committed_edits, book_with, Commits, Works, IsBookStep}
use Rattle.group_log.specs.Followed.Works.{chosen, out_of_memory, installed, released, closed}
use Rattle.group_log.specs.Moves.{work_transitions, transitions_of}
use Rattle.group_log.proofs.Claims.{claim_in}

rests : (transitions : List (State × State)) (book made : Book) → made ≡ book → GroupsMoveBy transitions book made
rests transitions book made same = subst (GroupsMoveBy transitions book) (sym same) (itself transitions book)

moves_reordered : (transitions : List (State × State)) (book made other : Book) → GroupsMoveBy transitions book made → IsReordered made other → GroupsMoveBy transitions book other
moves_reordered transitions book made other moves r = record {
  each = λ id. subst (λ s. (state_of book.groups id ≡ s) ⊎ Contains transitions (state_of book.groups id, s)) (same_states made other r id) (moves.each id);
  next = subst (λ n. book.next ≤ n) (sym r.next) moves.next;
  drawn = λ id is there. subst (λ n. (book.next ≤ id) × (id < n)) (sym r.next) (moves.drawn id is (λ none. there (sym (same_states made other r id) ∙ none)));
}

finish_moves : (sizes : Sizes) (m : model.State) (own : List Edit) (book made : Book) → Commits sizes m own book made → GroupsMoveBy commit_transitions book made
finish_moves sizes m [] book made same = rests commit_transitions book made same
finish_moves sizes m (edit ∷ own) book made commits =
    let all : List Edit = edit ∷ own in
    moves_reordered commit_transitions book (book_with sizes m all book) made (commit_moves sizes book (m.clock + 1) (replaced_by m.changes m.clock all) (inserted_by all)) commits.0

choice_moves : (group_rows : ℕ) (book : Book) (changes : List Change) (floor at : ℕ) (by : Actor) (choice : Choice) → IsBookOf group_rows book changes floor → GroupsMoveBy mover_transitions book (after_choice choice at by book)
choice_moves group_rows book changes floor at by (Compress source) j = claim_moves by (Compress source) (source ∷ []) at book
choice_moves group_rows book changes floor at by Flush j = flush_claim_moves by (flush_sources book) at book
choice_moves group_rows book changes floor at by (Rebuild source) j = claim_moves by (Rebuild source) (source ∷ []) at book
choice_moves group_rows book changes floor at by (Merge first second) j = claim_moves by (Merge first second) (first ∷ second ∷ []) at book
choice_moves group_rows book changes floor at by Settle j = settle_moves at book
choice_moves group_rows book changes floor at by Clear j = clear_moves book j.groups.by_id
choice_moves group_rows book changes floor at by Idle j = itself mover_transitions book

claim_is : (group_rows : ℕ) (book : Book) (changes : List Change) (floor : ℕ) (claim : Claim) → Contains book.claims claim → IsBookOf group_rows book changes floor → IsClaim group_rows book changes floor claim
claim_is group_rows book changes floor claim in_list j = All-contains (IsClaim group_rows book changes floor) book.claims claim j.claims.each in_list

work_moves : (group_rows : ℕ) (book : Book) (changes : List Change) (floor : ℕ) (claim : Claim) (choice : Choice) → Contains book.claims claim → IsBookOf group_rows book changes floor
    → GroupsMoveBy mover_transitions book (after_work choice claim book)
work_moves group_rows book changes floor claim (Compress source) in_list j = install_moves group_rows book changes floor claim j.groups.by_id (claim_is group_rows book changes floor claim in_list j)
work_moves group_rows book changes floor claim Flush in_list j = flush_moves claim book
work_moves group_rows book changes floor claim (Rebuild source) in_list j = install_moves group_rows book changes floor claim j.groups.by_id (claim_is group_rows book changes floor claim in_list j)
work_moves group_rows book changes floor claim (Merge first second) in_list j = install_moves group_rows book changes floor claim j.groups.by_id (claim_is group_rows book changes floor claim in_list j)
work_moves group_rows book changes floor claim Settle in_list j = itself mover_transitions book
work_moves group_rows book changes floor claim Clear in_list j = itself mover_transitions book
work_moves group_rows book changes floor claim Idle in_list j = itself mover_transitions book

-- every work but a close makes the transitions of movers
abbrev due : Option Work → List (State × State)
due None = mover_transitions
due (Some w) = work_transitions w

due_chosen : (floor : ℕ) (book : Book) (choice : Choice) → due (choice_work choice floor book) ≡ mover_transitions
due_chosen floor book (Compress source) = refl
due_chosen floor book Flush = refl
due_chosen floor book (Rebuild source) = refl
due_chosen floor book (Merge first second) = refl
due_chosen floor book Settle = refl
due_chosen floor book Clear = refl
due_chosen floor book Idle = refl

due_installed : (claim : Claim) (choice : Choice) → due (install_work choice claim) ≡ mover_transitions
due_installed claim (Compress source) = refl
due_installed claim Flush = refl
due_installed claim (Rebuild source) = refl
due_installed claim (Merge first second) = refl
due_installed claim Settle = refl
due_installed claim Clear = refl
due_installed claim Idle = refl

due_released : (claim : Claim) (choice : Choice) → due (release_work choice claim) ≡ mover_transitions
due_released claim (Compress source) = refl
due_released claim Flush = refl
due_released claim (Rebuild source) = refl
due_released claim (Merge first second) = refl
due_released claim Settle = refl
due_released claim Clear = refl
due_released claim Idle = refl

moves_as : (o : Option Work) (w : Work) (book made : Book) → o ≡ Some w → due o ≡ mover_transitions → GroupsMoveBy mover_transitions book made → GroupsMoveBy (work_transitions w) book made
moves_as o w book made is same moves = subst (λ transitions. GroupsMoveBy transitions book made) (sym same ∙ ap due is) moves

works_move : (sizes : Sizes) (at : ℕ) (by : Actor) (book : Book) (changes : List Change) (floor : ℕ) (w : Work) (made : Book) → IsBookOf sizes.group_rows book changes floor → Works sizes at by book w made
    → GroupsMoveBy (work_transitions w) book made
works_move sizes at by book changes floor w made j (chosen none is) =
    let turn = choice at sizes.group_rows by book in
    moves_as (choice_work turn at book) w book made is (due_chosen at book turn) (choice_moves sizes.group_rows book changes floor at by turn j)
works_move sizes at by book changes floor w made j (out_of_memory none is) = itself mover_transitions book
works_move sizes at by book changes floor w made j (installed claim holds is moved) =
    moves_as (install_work claim.choice claim) w book made is (due_installed claim claim.choice)
    (moves_reordered mover_transitions book (after_work claim.choice claim book) made (work_moves sizes.group_rows book changes floor claim claim.choice (claim_in by book claim holds) j) moved)
works_move sizes at by book changes floor w made j (released claim holds is) =
    moves_as (release_work claim.choice claim) w book made is (due_released claim claim.choice)
    (release_moves sizes.group_rows book changes floor claim j.groups.by_id (claim_is sizes.group_rows book changes floor claim (claim_in by book claim holds) j))
works_move sizes at by book changes floor w made j (closed session none is) = close_moves book

pub step_moves : (origin : Ground) (m after : model.State) (entry : Entry) (book made : Book) (changes : List Change) (floor : ℕ) → IsBookOf origin.sizes.group_rows book changes floor
    → IsBookStep origin m book entry after made → GroupsMoveBy (transitions_of entry) book made
step_moves origin m after (Start session b short) book made changes floor j same = rests [] book made same
step_moves origin m after (Finish session r) book made changes floor j finishes = finish_moves origin.sizes m (committed_edits m after) book made finishes.commits
step_moves origin m after (End session) book made changes floor j same = rests [] book made same
step_moves origin m after (Mover by w) book made changes floor j moves = works_move origin.sizes moves.0 by book changes floor w made j moves.2
