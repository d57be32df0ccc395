-- The works of a REORGANIZE in its line, and what it leaves, are one in two logs that agree before.
use Rattle.std.proofs.Common.{◌≡◌, ℕ, ◌+◌, ◌⊎◌, List, [], ◌∷◌, ◌++◌, filter, refl, sym, ap, subst, ◌∙◌, inl, inr, cond, Bool, true, false, Option, None, Some, arith}
use Rattle.std.specs.Prelude.{◌||◌}
use Rattle.std.specs.List.{AllZip, list_any}
use Rattle.std.specs.List.Sorted.{IsPermutation}
use Rattle.std.specs.Option.{option_map}
use Rattle.std.proofs.lemmas.List.{append-nil}
use Rattle.std.proofs.lemmas.Option.{none-some, same_Some}
use Rattle.cs_model.specs.declared.entry.Entry.{Entry}
use Rattle.cs_model.specs.declared.entry.Entry.TheVariants.{Mover}
use Rattle.cs_model.specs.declared.entry.Reply.{Reply}
use Rattle.cs_model.specs.declared.entry.Reply.TheVariants as reply
use Rattle.cs_model.specs.declared.work.Actor.{Actor}
use Rattle.cs_model.specs.declared.work.Actor.TheVariants as actor
use Rattle.cs_model.specs.declared.work.Work.{Work}
use Rattle.cs_model.specs.declared.work.Work.TheVariants as work
use Rattle.cs_model.specs.Floors.{IsFloor, snapshots}
use Rattle.cs_model.specs.State.{State}
use Rattle.cs_model.specs.Steps.{IsLeft}
use Rattle.log_laws.proofs.Floors.{floor_one}
use Rattle.cs_model.specs.Works.{lacks_memory}
use Rattle.log_summary.specs.Summary.{}
use Rattle.group_book.specs.Book.{Group, Choice, Claim, Book, is_opened}
use Rattle.group_book.specs.Book.Choice.{Compress, Flush, Rebuild, Merge, Settle, Clear, Idle}
use Rattle.group_book.specs.Choices.{choice, choice_work, first_of, lowest, release_work}
use Rattle.group_book.specs.Orders.{IsGroupReordered}
use Rattle.group_book.specs.Turns.{claim_by}
use Rattle.group_book.proofs.Lists.{how_many-append}
use Rattle.group_book.proofs.Orders.{same_opened}
use Rattle.group_book.proofs.Zips.{zip_any, zip_filter}
use Rattle.group_log.specs.Followed.{Ground, Works, Followed}
use Rattle.group_log.specs.Followed.Works.{chosen, out_of_memory, installed, released, closed as closes}
use Rattle.group_log.specs.Grounds.{IsGround}
use Rattle.group_log.specs.Reorganizing.{begins_turn, begun_turns, closed_ids, closed_in, from_start, held_groups, is_kept, most_turns, works_of, AreLeft, HasNoneOpen, IsHalfDone, IsIdle, IsMove, LeavesFrom, MayMake, MayTurn, Saw}
use Rattle.group_log.proofs.Since.{since_log}
use Rattle.book_orders.specs.Shuffled.{IsShuffled, AreClaimsShuffled}
use Rattle.book_orders.proofs.Chosen.{shuffled_choice, shuffled_work}
use Rattle.book_orders.proofs.Shown.{shuffled_held}
use Rattle.book_orders.proofs.Shuffled.{shuffled_claim, shuffled_install}
use Rattle.book_orders.proofs.Steps.{IsChosen, choice_is}
use Rattle.reorganize_laws.proofs.Entries.{works_append, works_none}
use Rattle.script_runner.specs.Schedule.{LeavesAmong, LooksAmong, TellsOf}
use Rattle.schedule_laws.specs.Agreeing.{Agrees}
use Rattle.schedule_laws.proofs.Beside.{agree_append, one_moment}
use Rattle.schedule_laws.proofs.Events.{lacks_in, release_lacks}
use Rattle.schedule_laws.proofs.Halves.{AreOwn, WasHalfDone, no_works, none_after, none_before, one_half, own_agree, own_joined, was_half_done, work_first}
use Rattle.schedule_laws.proofs.Lefts.{same_left}

-- ---- the open store

abbrev is_open : Group → Bool
is_open group = is_opened group.content

abbrev id_of : List Group → Option ℕ
id_of groups = option_map (λ (group : Group). group.id) (first_of groups)

lowest_none : (groups : List Group) → list_any is_open groups ≡ false → (id : ℕ) → lowest is_open groups ≡ Some id → ⊥
lowest_none [] none id found = none-some id found
lowest_none (g ∷ groups) none id found = at (is_open g) none found (lowest_none groups)
  where
    at : (t : Bool) → (t || list_any is_open groups) ≡ false → id_of (cond t (g ∷ filter is_open groups) (filter is_open groups)) ≡ Some id
        → (list_any is_open groups ≡ false → (n : ℕ) → lowest is_open groups ≡ Some n → ⊥) → ⊥
    at true none found rest = cc
    at false none found rest = rest none id found

first_zip : (gs hs : List Group) → AllZip IsGroupReordered gs hs → id_of gs ≡ id_of hs
first_zip [] [] zip = refl
first_zip [] (h ∷ hs) zip = absurd zip
first_zip (g ∷ gs) [] zip = absurd zip
first_zip (g ∷ gs) (h ∷ hs) zip = ap (λ (n : ℕ). Some n) (sym zip.0.0)

open_same : (g h : Group) → IsGroupReordered g h → is_open g ≡ is_open h
open_same g h is = same_opened g.content h.content is.1

same_lowest : (book other : Book) → IsShuffled book other → lowest is_open book.groups ≡ lowest is_open other.groups
same_lowest book other r = first_zip (filter is_open book.groups) (filter is_open other.groups) (zip_filter IsGroupReordered is_open is_open open_same book.groups other.groups r.groups)

-- ---- what a line says of its moves

pub looks_of : (origin : Ground) (from : List Entry) (session : ℕ) (moves : List Entry) (r : Reply) → (moves ≡ [] → ⊥) → TellsOf origin from session moves r → LooksAmong origin from session moves
looks_of origin from session moves reply.Done some told = absurd (some told)
looks_of origin from session moves (reply.Affected count) some told = absurd (some told)
looks_of origin from session moves (reply.Rows rows segments) some told = absurd (some told)
looks_of origin from session moves (reply.Groups lines buffered) some told = absurd (some told)
looks_of origin from session moves (reply.Segments lines) some told = absurd (some told)
looks_of origin from session moves (reply.Left groups) some told = record { half = told.half; looked = (told.leaves).looked }
looks_of origin from session moves (reply.Refused refusal) some (inl told) = absurd (some told)
looks_of origin from session moves (reply.Refused refusal) some (inr told) = told

pub leaves_of : (origin : Ground) (from : List Entry) (session : ℕ) (moves : List Entry) (r : Reply) → IsLeft r → TellsOf origin from session moves r → (groups : List (ℕ × Actor)) × LeavesAmong origin from session moves groups
leaves_of origin from session moves reply.Done left told = absurd left
leaves_of origin from session moves (reply.Affected count) left told = absurd left
leaves_of origin from session moves (reply.Rows rows segments) left told = absurd left
leaves_of origin from session moves (reply.Groups lines buffered) left told = absurd left
leaves_of origin from session moves (reply.Segments lines) left told = absurd left
leaves_of origin from session moves (reply.Left groups) left told = (groups, told)
leaves_of origin from session moves (reply.Refused refusal) left told = absurd left

-- what a turn chose begins one
may_turn : (origin : Ground) (session : ℕ) (all : Bool) (start : Book) (from behind : List Entry) (made : Choice) (floor : ℕ) (book : Book) (w : Work) → choice_work made floor book ≡ Some w
    → MayMake origin session all start from behind w → MayTurn origin session all start from behind
may_turn origin session all start from behind (Compress source) floor book w is may = subst (MayMake origin session all start from behind) (sym (same_Some (work.ClaimCompress source book.next) w is)) may
may_turn origin session all start from behind Flush floor book w is may = subst (MayMake origin session all start from behind) (sym (same_Some _ w is)) may
may_turn origin session all start from behind (Rebuild source) floor book w is may = subst (MayMake origin session all start from behind) (sym (same_Some (work.ClaimRebuild source book.next) w is)) may
may_turn origin session all start from behind (Merge first second) floor book w is may = subst (MayMake origin session all start from behind) (sym (same_Some (work.ClaimMerge first second book.next) w is)) may
may_turn origin session all start from behind Settle floor book w is may = subst (MayMake origin session all start from behind) (sym (same_Some _ w is)) may
may_turn origin session all start from behind Clear floor book w is may = subst (MayMake origin session all start from behind) (sym (same_Some _ w is)) may
may_turn origin session all start from behind Idle floor book w is may = absurd (none-some w is)

-- ---- two logs that agree, with the moves so far

module _ (origin : Ground) (session : ℕ) (from front done : List Entry) (agree : AllZip Agrees from front) (own : AreOwn session done) (m : State) (book spare : Book) (first : Followed origin (from ++ done) m book) (second : Followed origin (front ++ done) m spare) where
  abbrev by : Actor
  by = actor.Session session

  all_agree : AllZip Agrees (from ++ done) (front ++ done)
  all_agree = agree_append from front done done agree (own_agree session done own)

  shuffled : IsShuffled book spare
  shuffled = (one_moment origin (from ++ done) (front ++ done) m m book spare all_agree first second).1

  -- where the second one closes the open store, the first one has it closed first too
  closes_too : (left : List Entry) (id : ℕ) → LooksAmong origin from session (done ++ left) → AreOwn session left → IsMove origin (front ++ done) session (work.Close id) → lowest is_open spare.groups ≡ Some id
      → (n : ℕ) × (works : List Work) × (works_of session left ≡ work.Close n ∷ works)
  closes_too left id looks more move found = at (looks.looked to_close)
    where
      now : IsHalfDone origin (front ++ done) session
      now = move.half

      before : WasHalfDone origin front done session now
      before = was_half_done origin front done session now own

      none : done ≡ []
      none = no_works session done own (works_none session before.between done (ap (works_of session) (sym before.behind) ∙ (move.may).1)).1

      to_close : (looks.half).all ≡ true
      to_close = (one_half origin from front session looks.half before.half agree).0 ∙ before.all ∙ (move.may).0

      at : ((id : ℕ) × (works : List Work) × (works_of session (done ++ left) ≡ work.Close id ∷ works)) ⊎ Saw origin HasNoneOpen session from (done ++ left) (works_of session (done ++ left))
          → (n : ℕ) × (works : List Work) × (works_of session left ≡ work.Close n ∷ works)
      at (inl (n, works, is)) = (n, works, ap (λ (l : List Entry). works_of session (l ++ left)) (sym none) ∙ is)
      at (inr saw) =
          let start : saw.since ≡ [] = none_before session (done ++ left) saw.since saw.rest (own_joined session done left own more) saw.split saw.after in
          let here : from ++ saw.since ≡ from ++ done = (λ i. from ++ start i) ∙ (λ i. from ++ sym none i) in
          let moment = saw.moment in
          let so = one_moment origin (from ++ done) (front ++ done) moment.state m moment.book spare all_agree (subst (λ l. Followed origin l moment.state moment.book) here moment.followed) second in
          let closed = sym (zip_any IsGroupReordered is_open is_open open_same (moment.book).groups spare.groups (so.1).groups) ∙ saw.holds in
          absurd (lowest_none spare.groups closed id found)

  -- a first work that a turn chose is no close
  pub chosen_first : (left : List Entry) (a : Actor) (w : Work) (id : ℕ) → a ≡ by → LooksAmong origin from session (done ++ Mover a w ∷ left) → AreOwn session left → IsMove origin (front ++ done) session (work.Close id)
      → lowest is_open spare.groups ≡ Some id → IsChosen w → ⊥
  chosen_first left a w id is looks more move found chosen_so =
      let closing = closes_too (Mover a w ∷ left) id looks (is, more) move found in
      let all : w ∷ works_of session left ≡ work.Close closing.0 ∷ closing.1 = sym (work_first session a w left is) ∙ closing.2 in
      let one : w ≡ work.Close closing.0 = cc in
      subst IsChosen one chosen_so

  held : (o k : Option Claim) → claim_by by book ≡ o → claim_by by spare ≡ k → AreClaimsShuffled o k
  held o k e f = subst (λ z. AreClaimsShuffled o z) f (subst (λ z. AreClaimsShuffled z (claim_by by spare)) e (shuffled_claim by book spare shuffled))

  release_short : (claim : Claim) (w : Work) → release_work claim.choice claim ≡ Some w → lacks_memory w ≡ false → ⊥
  release_short claim w is well = let short : lacks_memory w ≡ true = ap lacks_in (sym is) ∙ release_lacks claim.choice claim in cc

  -- two works at one floor
  pub one_work : (floor : ℕ) (w v : Work) (made used : Book) → lacks_memory w ≡ false → lacks_memory v ≡ false → ((id : ℕ) → w ≡ work.Close id → lowest is_open book.groups ≡ Some id → IsChosen v → ⊥)
      → ((id : ℕ) → v ≡ work.Close id → lowest is_open spare.groups ≡ Some id → IsChosen w → ⊥) → Works origin.sizes floor by book w made → Works origin.sizes floor by spare v used → w ≡ v
  one_work floor w v made used well good x_closes y_closes (chosen none is) (chosen none_other is_other) =
      let rows : ℕ = origin.sizes.group_rows in
      same_Some w v (sym is ∙ ap (λ (c : Choice). choice_work c floor book) (shuffled_choice floor rows by book spare shuffled) ∙ shuffled_work (choice floor rows by spare) floor book spare shuffled ∙ is_other)
  one_work floor w v made used well good x_closes y_closes (chosen none is) (installed lent holds is_other moved) = absurd (held None (Some lent) none holds)
  one_work floor w v made used well good x_closes y_closes (chosen none is) (closes session_other none_other found) = absurd (y_closes _ refl found (choice_is (choice floor origin.sizes.group_rows by book) floor book w is))
  one_work floor w v made used well good x_closes y_closes (installed claim holds is moved) (chosen none_other is_other) = absurd (held (Some claim) None holds none_other)
  one_work floor w v made used well good x_closes y_closes (installed claim holds is moved) (installed lent holds_other is_other moved_other) =
      same_Some w v (sym is ∙ shuffled_install claim lent (held (Some claim) (Some lent) holds holds_other) ∙ is_other)
  one_work floor w v made used well good x_closes y_closes (installed claim holds is moved) (closes session_other none_other found) = absurd (held (Some claim) None holds none_other)
  one_work floor w v made used well good x_closes y_closes (closes session_one none found) (chosen none_other is_other) =
      absurd (x_closes _ refl found (choice_is (choice floor origin.sizes.group_rows by spare) floor spare v is_other))
  one_work floor w v made used well good x_closes y_closes (closes session_one none found) (installed lent holds is_other moved) = absurd (held None (Some lent) none holds)
  one_work floor w v made used well good x_closes y_closes (closes session_one none found) (closes session_other none_other found_other) =
      ap (λ (n : ℕ). work.Close n) (same_Some _ _ (sym found ∙ same_lowest book spare shuffled ∙ found_other))
  one_work floor w v made used well good x_closes y_closes (released claim holds is) y = absurd (release_short claim w is well)
  one_work floor w v made used well good x_closes y_closes x (released lent holds is) = absurd (release_short lent v is good)
  one_work floor w v made used well good x_closes y_closes (out_of_memory none is) y = absurd cc
  one_work floor w v made used well good x_closes y_closes x (out_of_memory none is) = absurd cc

  -- ---- the first one ends here

  module _ (groups : List (ℕ × Actor)) (told : LeavesAmong origin from session done groups) (free : claim_by by book ≡ None) where
    turns_made : (v : Work) (move : IsMove origin (front ++ done) session v) → MayTurn origin session (move.half).all (move.half).book (from_start (move.half).begun) ((move.half).begun).behind
        → begun_turns (works_of session done) ≡ most_turns (told.half).book → ⊥
    turns_made v move turn made =
        let before = was_half_done origin front done session move.half own in
        let most : most_turns (told.half).book ≡ most_turns (move.half).book =
        (shuffled_held (told.half).book (before.half).book (one_half origin from front session told.half before.half agree).1).2 ∙ ap most_turns before.book in
        let works = ap (works_of session) before.behind ∙ works_append session before.between done in
        let count : begun_turns (works_of session ((move.half).begun).behind) ≡ begun_turns (works_of session before.between) + begun_turns (works_of session done) =
        ap begun_turns works ∙ how_many-append begins_turn (works_of session before.between) (works_of session done) in
        let room = turn.room in
        omega (arith, room, count, made, most)

    idle_now : (floor : ℕ) (since : List Entry) → IsFloor (snapshots m) m.clock floor → since ≡ done → (saw : Saw origin (IsIdle origin.sizes session) session from since []) → choice floor origin.sizes.group_rows by spare ≡ Idle
    idle_now floor since is_floor all saw =
        let here : saw.since ≡ done = none_after session done saw.since saw.rest own (sym all ∙ saw.split) saw.after in
        let moment = saw.moment in
        let idle = saw.holds in
        let so = one_moment origin (from ++ done) (front ++ done) moment.state m moment.book spare all_agree (subst (λ l. Followed origin (from ++ l) moment.state moment.book) here moment.followed) second in
        let floors : idle.floor ≡ floor = floor_one (snapshots m) m.clock idle.floor floor (subst (λ (z : State). IsFloor (snapshots z) z.clock idle.floor) (sym so.0) idle.is_floor) is_floor in
        ap (λ n. choice n origin.sizes.group_rows by spare) (sym floors) ∙ sym (shuffled_choice idle.floor origin.sizes.group_rows by moment.book spare so.1) ∙ idle.idle

    none_chosen : (floor : ℕ) (v : Work) → IsFloor (snapshots m) m.clock floor → IsMove origin (front ++ done) session v → choice_work (choice floor origin.sizes.group_rows by spare) floor spare ≡ Some v → ⊥
    none_chosen floor v is_floor move is = at leaves.stopped
      where
        leaves : LeavesFrom origin session (told.half).all (told.half).book from done groups
        leaves = told.leaves

        all : leaves.since ≡ done
        all = none_after session done leaves.since leaves.rest own leaves.split leaves.last

        at : (begun_turns (works_of session done) ≡ most_turns (told.half).book) ⊎ Saw origin (IsIdle origin.sizes session) session from leaves.since [] → ⊥
        at (inl made) =
            let half = move.half in
            turns_made v move (may_turn origin session half.all half.book (from_start half.begun) (half.begun).behind (choice floor origin.sizes.group_rows by spare) floor spare v is move.may) made
        at (inr saw) = none-some v (ap (λ (c : Choice). choice_work c floor spare) (sym (idle_now floor leaves.since is_floor all saw)) ∙ is)

    pub cannot_go : (floor : ℕ) (v : Work) (used : Book) → IsFloor (snapshots m) m.clock floor → lacks_memory v ≡ false → IsMove origin (front ++ done) session v → Works origin.sizes floor by spare v used → ⊥
    cannot_go floor v used is_floor good move (chosen none is) = none_chosen floor v is_floor move is
    cannot_go floor v used is_floor good move (out_of_memory none is) = cc
    cannot_go floor v used is_floor good move (installed lent holds is moved) = held None (Some lent) free holds
    cannot_go floor v used is_floor good move (released lent holds is) = release_short lent v is good
    cannot_go floor v used is_floor good move (closes session_other none found) =
        let looks : LooksAmong origin from session (done ++ []) = subst (LooksAmong origin from session) (sym (append-nil done)) (record { half = told.half; looked = (told.leaves).looked }) in
        let closing = closes_too [] _ looks tt move found in
        let wrong : [] ≡ work.Close closing.0 ∷ closing.1 = closing.2 in
        cc

  -- ---- both end here

  one_left : IsGround origin → (groups others : List (ℕ × Actor)) → LeavesAmong origin from session done groups → LeavesAmong origin front session done others → groups ≡ others
  one_left ground groups others x y =
      let a = x.leaves in
      let b = y.leaves in
      let a_all : a.since ≡ done = none_after session done a.since a.rest own a.split a.last in
      let b_all : b.since ≡ done = none_after session done b.since b.rest own b.split b.last in
      let p = a.moment in
      let q = b.moment in
      let p_followed : Followed origin (from ++ done) p.state p.book = subst (λ l. Followed origin (from ++ l) p.state p.book) a_all p.followed in
      let q_followed : Followed origin (front ++ done) q.state q.book = subst (λ l. Followed origin (front ++ l) q.state q.book) b_all q.followed in
      let now = one_moment origin (from ++ done) (front ++ done) p.state q.state p.book q.book all_agree p_followed q_followed in
      let starts = one_half origin from front session x.half y.half agree in
      let ids : closed_ids (y.half).book ≡ closed_ids (x.half).book = sym (shuffled_held (x.half).book (y.half).book starts.1).1 in
      let holders : held_groups q.book ≡ held_groups p.book = sym (shuffled_held p.book q.book now.1).0 in
      let marked : List ℕ = closed_ids (x.half).book ++ closed_in (works_of session done) in
      let b_are = b.are in
      let b_left : AreLeft marked by p.book others = record {
        by_id = b_are.by_id;
        are = subst (λ l. IsPermutation (filter (is_kept (l ++ closed_in (works_of session done)) by) (held_groups p.book)) others) ids
            (subst (λ (l : List (ℕ × Actor)). IsPermutation (filter (is_kept (closed_ids (y.half).book ++ closed_in (works_of session done)) by) l) others) holders b_are.are);
      } in
      let since = since_log origin (from ++ done) p.state p.book ground p_followed in
      same_left origin.sizes.group_rows p.book (p.state).changes since.floor since.stands marked by groups others a.are b_left

  pub both_left : IsGround origin → (q r : Reply) → TellsOf origin from session done r → TellsOf origin front session done q → IsLeft q → IsLeft r → q ≡ r
  both_left ground (reply.Left others) (reply.Left groups) x y left also = ap (λ (l : List (ℕ × Actor)). reply.Left l) (sym (one_left ground groups others x y))
  both_left ground reply.Done r x y left also = absurd left
  both_left ground (reply.Affected count) r x y left also = absurd left
  both_left ground (reply.Rows rows segments) r x y left also = absurd left
  both_left ground (reply.Groups lines buffered) r x y left also = absurd left
  both_left ground (reply.Segments lines) r x y left also = absurd left
  both_left ground (reply.Refused refusal) r x y left also = absurd left
  both_left ground (reply.Left others) reply.Done x y left also = absurd also
  both_left ground (reply.Left others) (reply.Affected count) x y left also = absurd also
  both_left ground (reply.Left others) (reply.Rows rows segments) x y left also = absurd also
  both_left ground (reply.Left others) (reply.Groups lines buffered) x y left also = absurd also
  both_left ground (reply.Left others) (reply.Segments lines) x y left also = absurd also
  both_left ground (reply.Left others) (reply.Refused refusal) x y left also = absurd also
