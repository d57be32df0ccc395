-- Events do not see the order of packed versions: from books that are one but for it, one log leads to such books.
use Rattle.std.proofs.Common.{◌≡◌, ℕ, ◌+◌, List, [], ◌∷◌, Some, None, refl, sym, subst, ◌∙◌}
use Rattle.std.specs.List.{AllZip}
use Rattle.std.proofs.lemmas.Option.{none-some, same_Some}
use Rattle.cs_model.specs.declared.entry.Entry.{Entry}
use Rattle.cs_model.specs.declared.entry.Entry.TheVariants.{Start, Finish, End, Mover}
use Rattle.cs_model.specs.declared.work.Actor.{Actor}
use Rattle.cs_model.specs.declared.work.Work.{Work}
use Rattle.cs_model.specs.declared.work.Work.TheVariants as work
use Rattle.cs_model.specs.Changes.{Edit}
use Rattle.cs_model.specs.Floors.{snapshots}
use Rattle.cs_model.specs.State.{State, Begin}
use Rattle.cs_model.specs.Steps.{IsStep}
use Rattle.log_laws.proofs.Floors.{floor_one}
use Rattle.log_laws.proofs.Logs.{step_one}
use Rattle.group_book.specs.Book.{Choice, Claim, Book}
use Rattle.group_book.specs.Book.Choice.{Compress, Flush, Rebuild, Merge, Settle, Clear, Idle}
use Rattle.group_book.specs.Choices.{choice, after_choice, choice_work, install_work, release_work}
use Rattle.group_book.specs.Commits.{Sizes, replaced_by, inserted_by, draws_past}
use Rattle.group_book.specs.Orders.{IsReordered}
use Rattle.group_book.specs.Turns.{claim_by, after_work}
use Rattle.group_log.specs.Followed.{Ground, committed_edits, book_with, Commits, Works, IsBookStep, Follows, Followed}
use Rattle.group_log.specs.Followed.Works.{chosen, out_of_memory, installed, released, closed as closes}
use Rattle.book_orders.specs.Shuffled.{IsClaimShuffled, IsShuffled, AreClaimsShuffled, IsSameEvent}
use Rattle.book_orders.proofs.Shuffled.{shuffled_itself, shuffled_back, shuffled_through, shuffled_reordered, shuffled_claim}
use Rattle.book_orders.proofs.Chosen.{shuffled_choice}
use Rattle.book_orders.proofs.Commits.{commit_shuffled, shuffled_draws}
use Rattle.book_orders.proofs.Movers.{choice_shuffled, close_shuffled, work_shuffled, release_shuffled}

-- ---- a commit

pub book_with_shuffled : (sizes : Sizes) (m : State) (own : List Edit) (book other : Book) → IsShuffled book other → IsShuffled (book_with sizes m own book) (book_with sizes m own other)
book_with_shuffled sizes m own book other r = commit_shuffled sizes (m.clock + 1) (replaced_by m.changes m.clock own) (inserted_by own) book other r

pub shuffled_full : (sizes : Sizes) (m : State) (own : List Edit) (book other : Book) → IsShuffled book other → draws_past book (book_with sizes m own book) ≡ draws_past other (book_with sizes m own other)
shuffled_full sizes m own book other r = shuffled_draws book other (book_with sizes m own book) (book_with sizes m own other) r (book_with_shuffled sizes m own book other r)

-- both reordered once more
both_reordered : (first second made other : Book) → IsShuffled first second → IsReordered first made → IsReordered second other → IsShuffled made other
both_reordered first second made other r a b =
    shuffled_through made first other (shuffled_back first made (shuffled_reordered first made a)) (shuffled_through first second other r (shuffled_reordered second other b))

-- both are as they were
both_stay : (book other made made_other : Book) → IsShuffled book other → made ≡ book → made_other ≡ other → IsShuffled made made_other
both_stay book other made made_other r same same_other = subst (λ z. IsShuffled z made_other) (sym same) (subst (IsShuffled book) (sym same_other) r)

commits_shuffled : (sizes : Sizes) (m : State) (own : List Edit) (book other made made_other : Book) → IsShuffled book other → Commits sizes m own book made → Commits sizes m own other made_other → IsShuffled made made_other
commits_shuffled sizes m [] book other made made_other r x y = both_stay book other made made_other r x y
commits_shuffled sizes m (edit ∷ own) book other made made_other r x y =
    both_reordered (book_with sizes m (edit ∷ own) book) (book_with sizes m (edit ∷ own) other) made made_other (book_with_shuffled sizes m (edit ∷ own) book other r) x.0 y.0

-- ---- a work

-- what a turn chooses is neither want of memory nor a close
abbrev pub IsChosen : Work → Type 0
IsChosen (work.ClaimCompress source fresh) = Unit {0}
IsChosen (work.InstallCompress source fresh rows) = Unit {0}
IsChosen (work.ReleaseCompress source fresh) = Unit {0}
IsChosen (work.ClaimRebuild source fresh) = Unit {0}
IsChosen (work.InstallRebuild source fresh rows) = Unit {0}
IsChosen (work.ReleaseRebuild source fresh) = Unit {0}
IsChosen (work.ClaimMerge first second fresh) = Unit {0}
IsChosen (work.InstallMerge first second fresh rows) = Unit {0}
IsChosen (work.ReleaseMerge first second fresh) = Unit {0}
IsChosen (work.ClaimFlush entries) = Unit {0}
IsChosen (work.InstallFlush entries) = Unit {0}
IsChosen (work.ReleaseFlush entries) = Unit {0}
IsChosen (work.Settle ends) = Unit {0}
IsChosen (work.Clear groups) = Unit {0}
IsChosen (work.Close group) = ⊥
IsChosen work.Memory = ⊥

pub choice_is : (made : Choice) (floor : ℕ) (book : Book) (w : Work) → choice_work made floor book ≡ Some w → IsChosen w
choice_is (Compress source) floor book w is = subst IsChosen (same_Some _ w is) tt
choice_is Flush floor book w is = subst IsChosen (same_Some _ w is) tt
choice_is (Rebuild source) floor book w is = subst IsChosen (same_Some _ w is) tt
choice_is (Merge first second) floor book w is = subst IsChosen (same_Some _ w is) tt
choice_is Settle floor book w is = subst IsChosen (same_Some _ w is) tt
choice_is Clear floor book w is = subst IsChosen (same_Some _ w is) tt
choice_is Idle floor book w is = absurd (none-some w is)

-- an install is no release
abbrev IsReleased : Work → Type 0
IsReleased (work.ClaimCompress source fresh) = ⊥
IsReleased (work.InstallCompress source fresh rows) = ⊥
IsReleased (work.ReleaseCompress source fresh) = Unit {0}
IsReleased (work.ClaimRebuild source fresh) = ⊥
IsReleased (work.InstallRebuild source fresh rows) = ⊥
IsReleased (work.ReleaseRebuild source fresh) = Unit {0}
IsReleased (work.ClaimMerge first second fresh) = ⊥
IsReleased (work.InstallMerge first second fresh rows) = ⊥
IsReleased (work.ReleaseMerge first second fresh) = Unit {0}
IsReleased (work.ClaimFlush entries) = ⊥
IsReleased (work.InstallFlush entries) = ⊥
IsReleased (work.ReleaseFlush entries) = Unit {0}
IsReleased (work.Settle ends) = ⊥
IsReleased (work.Clear groups) = ⊥
IsReleased (work.Close group) = ⊥
IsReleased work.Memory = ⊥

release_is : (kind : Choice) (claim : Claim) (w : Work) → release_work kind claim ≡ Some w → IsReleased w
release_is (Compress source) claim w is = subst IsReleased (same_Some _ w is) tt
release_is Flush claim w is = subst IsReleased (same_Some _ w is) tt
release_is (Rebuild source) claim w is = subst IsReleased (same_Some _ w is) tt
release_is (Merge first second) claim w is = subst IsReleased (same_Some _ w is) tt
release_is Settle claim w is = absurd (none-some w is)
release_is Clear claim w is = absurd (none-some w is)
release_is Idle claim w is = absurd (none-some w is)

install_is : (kind : Choice) (claim : Claim) (w : Work) → install_work kind claim ≡ Some w → IsReleased w → ⊥
install_is (Compress source) claim w is wrong = subst IsReleased (sym (same_Some _ w is)) wrong
install_is Flush claim w is wrong = subst IsReleased (sym (same_Some _ w is)) wrong
install_is (Rebuild source) claim w is wrong = subst IsReleased (sym (same_Some _ w is)) wrong
install_is (Merge first second) claim w is wrong = subst IsReleased (sym (same_Some _ w is)) wrong
install_is Settle claim w is wrong = absurd (none-some w is)
install_is Clear claim w is wrong = absurd (none-some w is)
install_is Idle claim w is wrong = absurd (none-some w is)

module _ (sizes : Sizes) (floor : ℕ) (by : Actor) (book other : Book) (r : IsShuffled book other) where
  held : AreClaimsShuffled (claim_by by book) (claim_by by other)
  held = shuffled_claim by book other r

  -- one holds a claim and the other one none
  held_by_one : (claim : Claim) → claim_by by book ≡ Some claim → claim_by by other ≡ None → ⊥
  held_by_one claim holds none = subst (λ o. AreClaimsShuffled o None) holds (subst (AreClaimsShuffled (claim_by by book)) none held)

  held_by_other : (claim : Claim) → claim_by by book ≡ None → claim_by by other ≡ Some claim → ⊥
  held_by_other claim none holds = subst (λ o. AreClaimsShuffled o (Some claim)) none (subst (AreClaimsShuffled (claim_by by book)) holds held)

  held_both : (claim lent : Claim) → claim_by by book ≡ Some claim → claim_by by other ≡ Some lent → IsClaimShuffled claim lent
  held_both claim lent holds holds_other = subst (λ o. AreClaimsShuffled o (Some lent)) holds (subst (AreClaimsShuffled (claim_by by book)) holds_other held)

  first_shuffled : IsShuffled (after_choice (choice floor sizes.group_rows by book) floor by book) (after_choice (choice floor sizes.group_rows by other) floor by other)
  first_shuffled = subst (λ made. IsShuffled (after_choice (choice floor sizes.group_rows by book) floor by book) (after_choice made floor by other)) (shuffled_choice floor sizes.group_rows by book other r)
      (choice_shuffled (choice floor sizes.group_rows by book) floor by book other r)

  -- one work, and how it came about in each book
  works_shuffled : (w v : Work) (made made_other : Book) → w ≡ v → Works sizes floor by book w made → Works sizes floor by other v made_other → IsShuffled made made_other
  works_shuffled w v made made_other same (chosen none is) (chosen none_other is_other) = first_shuffled
  works_shuffled w v made made_other same (chosen none is) (out_of_memory none_other is_other) = absurd (subst IsChosen same (choice_is (choice floor sizes.group_rows by book) floor book w is))
  works_shuffled w v made made_other same (chosen none is) (installed lent holds is_other moved) = absurd (held_by_other lent none holds)
  works_shuffled w v made made_other same (chosen none is) (released lent holds is_other) = absurd (held_by_other lent none holds)
  works_shuffled w v made made_other same (chosen none is) (closes session none_other is_other) = absurd (subst IsChosen same (choice_is (choice floor sizes.group_rows by book) floor book w is))
  works_shuffled w v made made_other same (out_of_memory none is) (chosen none_other is_other) = absurd (subst IsChosen (sym same) (choice_is (choice floor sizes.group_rows by other) floor other v is_other))
  works_shuffled w v made made_other same (out_of_memory none is) (out_of_memory none_other is_other) = r
  works_shuffled w v made made_other same (out_of_memory none is) (installed lent holds is_other moved) = absurd (held_by_other lent none holds)
  works_shuffled w v made made_other same (out_of_memory none is) (released lent holds is_other) = absurd (held_by_other lent none holds)
  works_shuffled w v made made_other same (out_of_memory none is) (closes session none_other is_other) = cc
  works_shuffled w v made made_other same (installed claim holds is moved) (chosen none_other is_other) = absurd (held_by_one claim holds none_other)
  works_shuffled w v made made_other same (installed claim holds is moved) (out_of_memory none_other is_other) = absurd (held_by_one claim holds none_other)
  works_shuffled w v made made_other same (installed claim holds is moved) (installed lent holds_other is_other moved_other) =
      both_reordered (after_work claim.choice claim book) (after_work lent.choice lent other) made made_other (work_shuffled claim lent (held_both claim lent holds holds_other) book other r) moved moved_other
  works_shuffled w v made made_other same (installed claim holds is moved) (released lent holds_other is_other) =
      absurd (install_is claim.choice claim w is (subst IsReleased (sym same) (release_is lent.choice lent v is_other)))
  works_shuffled w v made made_other same (installed claim holds is moved) (closes session none_other is_other) = absurd (held_by_one claim holds none_other)
  works_shuffled w v made made_other same (released claim holds is) (chosen none_other is_other) = absurd (held_by_one claim holds none_other)
  works_shuffled w v made made_other same (released claim holds is) (out_of_memory none_other is_other) = absurd (held_by_one claim holds none_other)
  works_shuffled w v made made_other same (released claim holds is) (installed lent holds_other is_other moved_other) =
      absurd (install_is lent.choice lent v is_other (subst IsReleased same (release_is claim.choice claim w is)))
  works_shuffled w v made made_other same (released claim holds is) (released lent holds_other is_other) = release_shuffled claim lent (held_both claim lent holds holds_other) book other r
  works_shuffled w v made made_other same (released claim holds is) (closes session none_other is_other) = absurd (held_by_one claim holds none_other)
  works_shuffled w v made made_other same (closes session none is) (chosen none_other is_other) = absurd (subst IsChosen (sym same) (choice_is (choice floor sizes.group_rows by other) floor other v is_other))
  works_shuffled w v made made_other same (closes session none is) (out_of_memory none_other is_other) = cc
  works_shuffled w v made made_other same (closes session none is) (installed lent holds_other is_other moved_other) = absurd (held_by_other lent none holds_other)
  works_shuffled w v made made_other same (closes session none is) (released lent holds_other is_other) = absurd (held_by_other lent none holds_other)
  works_shuffled w v made made_other same (closes session none is) (closes session_other none_other is_other) = close_shuffled book other r

-- ---- an entry

module _ (origin : Ground) (m after : State) (book other made made_other : Book) (r : IsShuffled book other) where
  same_step : (e : Entry) (f : Entry) → IsSameEvent e f → IsBookStep origin m book e after made → IsBookStep origin m other f after made_other → IsShuffled made made_other
  same_step (Start session bound short) f same x y =
      both_stay book other made made_other r x (subst (λ z. IsBookStep origin m other z after made_other) same.2 y)
  same_step (Finish session reply) f same x y =
      let finishes = subst (λ z. IsBookStep origin m other z after made_other) same.1 y in
      commits_shuffled origin.sizes m (committed_edits m after) book other made made_other r x.commits finishes.commits
  same_step (End session) f same x y = both_stay book other made made_other r x (subst (λ z. IsBookStep origin m other z after made_other) same y)
  same_step (Mover by w) f same x y =
      let works = subst (λ z. IsBookStep origin m other z after made_other) same y in
      let one : works.0 ≡ x.0 = floor_one (snapshots m) m.clock works.0 x.0 works.1 x.1 in
      works_shuffled origin.sizes x.0 by book other r w w made made_other refl x.2 (subst (λ floor. Works origin.sizes floor by other w made_other) one works.2)

pub shuffled_step : (origin : Ground) (m after : State) (e f : Entry) (book other made made_other : Book) → IsSameEvent e f → IsShuffled book other → IsBookStep origin m book e after made
    → IsBookStep origin m other f after made_other → IsShuffled made made_other
shuffled_step origin m after e f book other made made_other same r x y = same_step origin m after book other made made_other r e f same x y

-- ---- along a log

-- the other entry is the same event, and leads from one state to one
abbrev pub StepTogether : Begin → Entry → Entry → Type 0
StepTogether begin e f = IsSameEvent e f × ((m after other : State) → IsStep begin m e after → IsStep begin m f other → other ≡ after)

pub shuffled_along : (origin : Ground) (es fs : List Entry) (m after later : State) (book other made made_other : Book) → AllZip (StepTogether origin.begin) es fs → IsShuffled book other
    → Follows origin m book es after made → Follows origin m other fs later made_other → (later ≡ after) × IsShuffled made made_other
shuffled_along origin [] [] m after later book other made made_other zip r x y = (y.0 ∙ sym x.0, both_stay book other made made_other r x.1 y.1)
shuffled_along origin [] (f ∷ fs) m after later book other made made_other zip r x y = absurd zip
shuffled_along origin (e ∷ es) [] m after later book other made made_other zip r x y = absurd zip
shuffled_along origin (e ∷ es) (f ∷ fs) m after later book other made made_other zip r x y =
    let one : y.0 ≡ x.0 = zip.0.1 m x.0 y.0 x.2 y.2 in
    let moves : IsBookStep origin m other f x.0 y.1 = subst (λ z. IsBookStep origin m other f z y.1) one y.3 in
    let rest : Follows origin x.0 y.1 fs later made_other = subst (λ z. Follows origin z y.1 fs later made_other) one y.4 in
    shuffled_along origin es fs x.0 after later x.1 y.1 made made_other zip.1 (shuffled_step origin m x.0 e f book other x.1 y.1 zip.0.0 r x.3 moves) x.4 rest

event_itself : (e : Entry) → IsSameEvent e e
event_itself (Start session bound short) = (bound, short, refl)
event_itself (Finish session reply) = (reply, refl)
event_itself (End session) = refl
event_itself (Mover by w) = refl

-- with itself each entry steps together
together : (begin : Begin) (es : List Entry) → AllZip (StepTogether begin) es es
together begin [] = tt
together begin (e ∷ es) = ((event_itself e, (λ m after other x y. step_one begin m e other after y x)), together begin es)

-- books to which one log leads are one but for the order of packed versions
pub one_log_shuffled : (origin : Ground) (log : List Entry) (m n : State) (book other : Book) → Followed origin log m book → Followed origin log n other → (n ≡ m) × IsShuffled book other
one_log_shuffled origin log m n book other x y =
    shuffled_along origin log log origin.begin.state m n origin.book origin.book book other (together origin.begin log) (shuffled_itself origin.book) x y
