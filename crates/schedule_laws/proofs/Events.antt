-- The events of a step agree in two logs whose prefixes do.
use Rattle.std.proofs.Common.{◌≡◌, ℕ, ◌+◌, ◌^◌, ◌⊎◌, List, [], ◌∷◌, refl, sym, ap, subst, ◌∙◌, inl, inr, Bool, true, false, Option, None, Some, arith}
use Rattle.std.specs.Prelude.{◌&&◌, nat_lt}
use Rattle.std.specs.List.{AllZip}
use Rattle.std.proofs.lemmas.Bool.Decides.{nat_tests}
use Rattle.std.proofs.lemmas.Option.{same_Some}
use Rattle.cs_types.specs.declared.Schema.{Schema}
use Rattle.cs_model.specs.declared.entry.Bound.{Bound}
use Rattle.cs_model.specs.declared.entry.Bound.TheVariants as bound
use Rattle.cs_model.specs.declared.entry.Entry.{Entry}
use Rattle.cs_model.specs.declared.entry.Entry.TheVariants.{Start, Finish, End, Mover}
use Rattle.cs_model.specs.declared.entry.Refusal.TheVariants.{Memory}
use Rattle.cs_model.specs.declared.entry.Reply.{Reply}
use Rattle.cs_model.specs.declared.entry.Reply.TheVariants as reply
use Rattle.cs_model.specs.declared.work.Actor.{Actor}
use Rattle.cs_model.specs.declared.work.Work.{Work}
use Rattle.cs_model.specs.Changes.{Edit}
use Rattle.cs_model.specs.Floors.{IsFloor, snapshots}
use Rattle.cs_model.specs.State.{Half, State, Begin}
use Rattle.cs_model.specs.Steps.{IsFinish, IsOutOfIds, IsReply, Legal, finished}
use Rattle.log_laws.specs.Laws.{IsSound}
use Rattle.log_laws.proofs.Floors.{floor_one}
use Rattle.cs_model.specs.Works.{lacks_memory}
use Rattle.log_summary.specs.Summary.{replies_memory}
use Rattle.group_book.specs.Book.{Book, Choice, Claim}
use Rattle.group_book.specs.Book.Choice.{Compress, Flush, Rebuild, Merge, Settle, Clear, Idle}
use Rattle.group_book.specs.Choices.{choice, choice_work, install_work, release_work}
use Rattle.group_book.specs.Commits.{draws_past}
use Rattle.group_book.specs.Turns.{claim_by}
use Rattle.group_log.specs.Followed.{Ground, committed_edits, book_with, Commits, IsFull}
use Rattle.book_orders.specs.Shuffled.{IsShuffled, AreClaimsShuffled}
use Rattle.book_orders.proofs.Shuffled.{shuffled_back, shuffled_claim, shuffled_install}
use Rattle.book_orders.proofs.Chosen.{shuffled_choice, shuffled_work}
use Rattle.book_orders.proofs.Steps.{shuffled_full}
use Rattle.statement_core.specs.Turns.{IsFirst, BeginsTurn, EndsBy, HasNoTurn, EndsTurn}
use Rattle.script_turns.specs.Texts.{Means}
use Rattle.script_turns.specs.Turns.{IsBound, IsStart}
use Rattle.schedule_laws.specs.Agreeing.{without_segments, Agrees}
use Rattle.schedule_laws.proofs.Texts.{means_one}
use Rattle.schedule_laws.proofs.Replies.{AreShown, reply_one, same_reply}
use Rattle.schedule_laws.proofs.States.{finished_so}
use Rattle.schedule_laws.proofs.Ample.{IsAmple, AreAmple}
use Rattle.schedule_laws.proofs.Beside.{Together, one_moment}
use Rattle.schedule_laws.proofs.Beside.Together.{none, one}

-- ---- a Start

sure_bound : (schema : Schema) (text : List ℕ) (b : Bound) → IsBound schema text b → (b ≡ bound.Refused Memory → ⊥) → Means schema text b
sure_bound schema text b (inl means) sure = means
sure_bound schema text b (inr short) sure = absurd (sure short)

pub starts_agree : (begin : Begin) (log other : List Entry) (m n : State) (session : ℕ) (text : List ℕ) (a b : Entry) → Legal begin log m → Legal begin other n
    → IsStart begin log session text a → IsStart begin other session text b → IsAmple a → IsAmple b → Agrees a b
starts_agree begin log other m n session text (Finish s r) b l k x y p q = absurd x
starts_agree begin log other m n session text (End s) b l k x y p q = absurd x
starts_agree begin log other m n session text (Mover actor work) b l k x y p q = absurd x
starts_agree begin log other m n session text (Start s c short) (Finish t r) l k x y p q = absurd y
starts_agree begin log other m n session text (Start s c short) (End t) l k x y p q = absurd y
starts_agree begin log other m n session text (Start s c short) (Mover actor work) l k x y p q = absurd y
starts_agree begin log other m n session text (Start s c short) (Start t d late) l k x y p q =
    let means = sure_bound begin.schema text c.value (x.1 m l) p.1 in
    let also = sure_bound begin.schema text d.value (y.1 n k) q.1 in
    let own : t ≡ s = y.0 ∙ sym x.0 in
    let found : late ≡ short = q.0 ∙ sym p.0 in
    (d, means_one begin.schema text d.value c.value also means, λ i. Start (own i) d (found i))

-- ---- a Finish

never_past : (n : ℕ) (t : Bool) → (nat_lt n n && t) ≡ true → ⊥
never_past n t e = at (nat_lt n n) refl e
  where
    at : (u : Bool) → nat_lt n n ≡ u → (u && t) ≡ true → ⊥
    at true is e = absurd (grind (arith, nat_tests))
    at false is e = cc

true_false : (t : Bool) → t ≡ true → t ≡ false → ⊥
true_false t e f = cc

-- a commit that was made in one book drew no id that it would draw too high in the other
draws_so : (origin : Ground) (m : State) (own : List Edit) (book spare made : Book) → IsShuffled book spare → Commits origin.sizes m own book made → draws_past spare (book_with origin.sizes m own spare) ≡ true → ⊥
draws_so origin m [] book spare made shuffled x past = never_past spare.next (nat_lt (2 ^ 62 + 1) spare.next) past
draws_so origin m (edit ∷ own) book spare made shuffled x past =
    let all : List Edit = edit ∷ own in
    let next = (x.0).next in
    let low : draws_past book (book_with origin.sizes m all book) ≡ false = ap (λ n. nat_lt book.next n && nat_lt (2 ^ 62 + 1) n) (sym next) ∙ x.1 in
    true_false (draws_past spare (book_with origin.sizes m all spare)) past (sym (shuffled_full origin.sizes m all book spare shuffled) ∙ low)

module _ (origin : Ground) (m : State) (sound : IsSound m) (session : ℕ) where
  not_full : (half : Half) (r q : Reply) (a : State) (book spare made : Book) → IsShuffled book spare → IsReply origin.begin.schema m session half r → a ≡ finished origin.begin.schema m session half.bound r
      → Commits origin.sizes m (committed_edits m a) book made → IsOutOfIds origin.begin.schema m session half q → IsFull origin m spare session (Some half) q → ⊥
  not_full half r q a book spare made shuffled is becomes commits out full =
      let same : finished origin.begin.schema m session half.bound out.given ≡ a =
      finished_so origin.begin.schema m session half.bound out.given r (reply_one origin.begin.schema m session half.note half.bound out.given r sound out.is_reply is) ∙ sym becomes in
      draws_so origin m (committed_edits m a) book spare made shuffled commits
      (subst (λ (z : State). draws_past spare (book_with origin.sizes m (committed_edits m z) spare) ≡ true) same (full out))

  not_memory : (r : Reply) → replies_memory r ≡ false → r ≡ reply.Refused Memory → ⊥
  not_memory r well e = let short : replies_memory r ≡ true = ap replies_memory e in cc

  pub replies_agree : (half : Option Half) (r q : Reply) (a b : State) (book spare made used : Book) → IsShuffled book spare → replies_memory r ≡ false → replies_memory q ≡ false
      → IsFinish origin.begin.schema m session half r a → IsFinish origin.begin.schema m session half q b → Commits origin.sizes m (committed_edits m a) book made → Commits origin.sizes m (committed_edits m b) spare used
      → IsFull origin m book session half r → IsFull origin m spare session half q → AreShown q r → without_segments q ≡ without_segments r
  replies_agree None r q a b book spare made used shuffled well good x y c d full filled shown = absurd x
  replies_agree (Some half) r q a b book spare made used shuffled well good (how, becomes) (also, turns) c d full filled shown = at how also
    where
      at : (r ≡ reply.Refused Memory) ⊎ ((half.short ≡ false) × (IsReply origin.begin.schema m session half r ⊎ IsOutOfIds origin.begin.schema m session half r))
          → (q ≡ reply.Refused Memory) ⊎ ((half.short ≡ false) × (IsReply origin.begin.schema m session half q ⊎ IsOutOfIds origin.begin.schema m session half q))
          → without_segments q ≡ without_segments r
      at (inl e) other = absurd (not_memory r well e)
      at (inr (_, inl is)) (inl e) = absurd (not_memory q good e)
      at (inr (_, inr out)) (inl e) = absurd (not_memory q good e)
      at (inr (_, inl is)) (inr (_, inl also)) = same_reply origin.begin.schema m session half.note half.bound q r sound shown also is
      at (inr (_, inr out)) (inr (_, inr also)) = ap without_segments (also.refuses ∙ sym out.refuses)
      at (inr (_, inl is)) (inr (_, inr out)) = absurd (not_full half r q a book spare made shuffled is becomes c out filled)
      at (inr (_, inr out)) (inr (_, inl also)) = absurd (not_full half q r b spare book used (shuffled_back book spare shuffled) also turns d out full)

-- ---- the events of a mover's turn

first_together : (actor : Actor) (w : Option Work) (piece twin : List Entry) → IsFirst actor w piece → IsFirst actor w twin → AreAmple piece → AreAmple twin → Together piece twin
first_together actor None piece twin x y p q = none x y
first_together actor (Some w) piece twin (inl x) (inl y) p q = one (Mover actor w) (Mover actor w) x y refl
first_together actor (Some w) piece twin (inr x) y p q = let well = (subst AreAmple x p).0 in absurd cc
first_together actor (Some w) piece twin (inl x) (inr y) p q = let well = (subst AreAmple y q).0 in absurd cc

pub begins_together : (origin : Ground) (log other : List Entry) (actor : Actor) (piece twin : List Entry) → AllZip Agrees log other → BeginsTurn origin log actor piece → BeginsTurn origin other actor twin
    → AreAmple piece → AreAmple twin → Together piece twin
begins_together origin log other actor piece twin agree x y p q =
    let rows : ℕ = origin.sizes.group_rows in
    let a = x.moment in
    let b = y.moment in
    let so = one_moment origin log other a.state b.state a.book b.book agree a.followed b.followed in
    let floors : x.floor ≡ y.floor = floor_one (snapshots a.state) a.state.clock x.floor y.floor x.is_floor (subst (λ (z : State). IsFloor (snapshots z) z.clock y.floor) so.0 y.is_floor) in
    let works : choice_work (choice x.floor rows actor a.book) x.floor a.book ≡ choice_work (choice y.floor rows actor b.book) y.floor b.book =
    ap (λ c. choice_work c x.floor a.book) (shuffled_choice x.floor rows actor a.book b.book so.1)
    ∙ shuffled_work (choice x.floor rows actor b.book) x.floor a.book b.book so.1
    ∙ ap (λ n. choice_work (choice n rows actor b.book) n b.book) floors in
    first_together actor (choice_work (choice x.floor rows actor a.book) x.floor a.book) piece twin x.first (subst (λ w. IsFirst actor w twin) (sym works) y.first) p q

abbrev pub lacks_in : Option Work → Bool
lacks_in None = true
lacks_in (Some w) = lacks_memory w

pub release_lacks : (choice : Choice) (claim : Claim) → lacks_in (release_work choice claim) ≡ true
release_lacks (Compress source) claim = refl
release_lacks Flush claim = refl
release_lacks (Rebuild source) claim = refl
release_lacks (Merge first second) claim = refl
release_lacks Settle claim = refl
release_lacks Clear claim = refl
release_lacks Idle claim = refl

-- it installs, where it has a claim
installs : (origin : Ground) (log : List Entry) (actor : Actor) (piece : List Entry) → EndsTurn origin log actor piece → AreAmple piece → EndsBy install_work origin log actor piece ⊎ HasNoTurn origin log actor piece
installs origin log actor piece (inl x) p = inl x
installs origin log actor piece (inr (inl x)) p =
    let short : lacks_memory x.work ≡ true = ap lacks_in (sym x.of_claim) ∙ release_lacks x.claim.choice x.claim in
    let well = (subst AreAmple x.entry p).0 in
    absurd cc
installs origin log actor piece (inr (inr x)) p = inr x

pub ends_together : (origin : Ground) (log other : List Entry) (actor : Actor) (piece twin : List Entry) → AllZip Agrees log other → EndsTurn origin log actor piece → EndsTurn origin other actor twin
    → AreAmple piece → AreAmple twin → Together piece twin
ends_together origin log other actor piece twin agree x y p q = at (installs origin log actor piece x p) (installs origin other actor twin y q)
  where
    claims : (m n : State) (book spare : Book) → IsShuffled book spare → (o k : Option Claim) → claim_by actor book ≡ o → claim_by actor spare ≡ k → AreClaimsShuffled o k
    claims m n book spare shuffled o k e f = subst (λ z. AreClaimsShuffled o z) f (subst (λ z. AreClaimsShuffled z (claim_by actor spare)) e (shuffled_claim actor book spare shuffled))

    at : EndsBy install_work origin log actor piece ⊎ HasNoTurn origin log actor piece → EndsBy install_work origin other actor twin ⊎ HasNoTurn origin other actor twin → Together piece twin
    at (inl x) (inl y) =
        let a = x.moment in
        let b = y.moment in
        let so = one_moment origin log other a.state b.state a.book b.book agree a.followed b.followed in
        let held = claims a.state b.state a.book b.book so.1 (Some x.claim) (Some y.claim) x.held y.held in
        let works : Some x.work ≡ Some y.work = sym x.of_claim ∙ shuffled_install x.claim y.claim held ∙ y.of_claim in
        one (Mover actor x.work) (Mover actor y.work) x.entry y.entry (ap (λ w. Mover actor w) (sym (same_Some x.work y.work works)))
    at (inl x) (inr y) =
        let a = x.moment in
        let b = y.moment in
        let so = one_moment origin log other a.state b.state a.book b.book agree a.followed b.followed in
        absurd (claims a.state b.state a.book b.book so.1 (Some x.claim) None x.held y.free)
    at (inr x) (inl y) =
        let a = x.moment in
        let b = y.moment in
        let so = one_moment origin log other a.state b.state a.book b.book agree a.followed b.followed in
        absurd (claims a.state b.state a.book b.book so.1 None (Some y.claim) x.free y.held)
    at (inr x) (inr y) = none x.none y.none
