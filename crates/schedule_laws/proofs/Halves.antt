-- The half-done REORGANIZE of a session, and its own works after a log.
use Rattle.std.proofs.Common.{◌≡◌, ℕ, ◌+◌, ◌⊎◌, List, [], ◌∷◌, ◌++◌, length, refl, sym, ap, subst, ◌∙◌, inl, inr, Bool, true, false, Some, All, arith}
use Rattle.std.specs.Prelude.{◌==◌}
use Rattle.std.specs.List.{AllZip}
use Rattle.std.proofs.lemmas.List.{append-nil, length-append}
use Rattle.std.proofs.lemmas.List.Elements.{All-head, All-tail}
use Rattle.cs_types.specs.declared.Schema.{Schema}
use Rattle.cs_model.specs.declared.entry.Bound.{Bound}
use Rattle.cs_model.specs.declared.entry.Bound.TheVariants.{Reorganize}
use Rattle.cs_model.specs.declared.entry.Entry.{Entry}
use Rattle.cs_model.specs.declared.entry.Entry.TheVariants.{Start, Finish, End, Mover}
use Rattle.cs_model.specs.declared.entry.Refusal.TheVariants.{Memory}
use Rattle.cs_model.specs.declared.entry.Reply.{Reply}
use Rattle.cs_model.specs.declared.entry.Reply.TheVariants as reply
use Rattle.cs_model.specs.declared.work.Actor.{Actor}
use Rattle.cs_model.specs.declared.work.Actor.TheVariants as actor
use Rattle.cs_model.specs.declared.work.Work.{Work}
use Rattle.cs_model.specs.Actors.{turns_of}
use Rattle.cs_model.specs.State.{Half, State, Begin}
use Rattle.cs_model.specs.Steps.{IsFinish, IsLeft, IsOutOfIds, IsReply, IsReplyTo, IsStep, Leads, finished, half_of}
use Rattle.log_laws.proofs.Framed.{framed}
use Rattle.log_laws.proofs.Logs.{leads_split}
use Rattle.log_laws.proofs.Owners.{equal}
use Rattle.log_summary.specs.Summary.{replies_memory}
use Rattle.group_book.specs.Book.{Book}
use Rattle.group_log.specs.Counted.{IsBegunAt}
use Rattle.group_log.specs.Followed.{Ground, Followed}
use Rattle.group_log.specs.Reorganizing.{works_of, IsHalfDone}
use Rattle.group_log.proofs.Follow.{follows_leads}
use Rattle.book_orders.specs.Shuffled.{IsShuffled}
use Rattle.reorganize_laws.proofs.Entries.{turns_left, works_append, works_cons, works_own}
use Rattle.script_runner.specs.Schedule.{IsOwnWork}
use Rattle.schedule_laws.specs.Agreeing.{Agrees}
use Rattle.schedule_laws.proofs.Ample.{half_begun, start_is_turn, turns_behind}
use Rattle.schedule_laws.proofs.Beside.{one_moment}
use Rattle.schedule_laws.proofs.Shown.{one_start}

-- ---- own works

abbrev pub AreOwn : ℕ → List Entry → Type 0
AreOwn session [] = Unit {0}
AreOwn session (e ∷ es) = IsOwnWork session e × AreOwn session es

pub all_own : (session : ℕ) (es : List Entry) → All (IsOwnWork session) es → AreOwn session es
all_own session [] own = tt
all_own session (e ∷ es) own = (All-head (IsOwnWork session) e es own, all_own session es (All-tail (IsOwnWork session) e es own))

own_apart : (session : ℕ) (xs ys : List Entry) → AreOwn session (xs ++ ys) → AreOwn session xs × AreOwn session ys
own_apart session [] ys own = (tt, own)
own_apart session (x ∷ xs) ys own = let rest = own_apart session xs ys own.1 in ((own.0, rest.0), rest.1)

pub own_joined : (session : ℕ) (xs ys : List Entry) → AreOwn session xs → AreOwn session ys → AreOwn session (xs ++ ys)
own_joined session [] ys own more = more
own_joined session (x ∷ xs) ys own more = (own.0, own_joined session xs ys own.1 more)

pub own_agree : (session : ℕ) (es : List Entry) → AreOwn session es → AllZip Agrees es es
own_agree session [] own = tt
own_agree session (Start s b short ∷ es) own = absurd own.0
own_agree session (Finish s r ∷ es) own = absurd own.0
own_agree session (End s ∷ es) own = absurd own.0
own_agree session (Mover by w ∷ es) own = (refl, own_agree session es own.1)

pub work_first : (session : ℕ) (by : Actor) (w : Work) (es : List Entry) → by ≡ actor.Session session → works_of session (Mover by w ∷ es) ≡ w ∷ works_of session es
work_first session by w es own =
    ap (λ a. works_of session (Mover a w ∷ es)) own ∙ works_cons session (Mover (actor.Session session) w) es ∙ ap (λ l. l ++ works_of session es) (works_own session w)

own_some : (session : ℕ) (e : Entry) (es : List Entry) → IsOwnWork session e → works_of session (e ∷ es) ≡ [] → ⊥
own_some session (Start s b short) es own none = own
own_some session (Finish s r) es own none = own
own_some session (End s) es own none = own
own_some session (Mover by w) es own none = let all = sym (work_first session by w es own) ∙ none in cc

pub no_works : (session : ℕ) (es : List Entry) → AreOwn session es → works_of session es ≡ [] → es ≡ []
no_works session [] own none = refl
no_works session (e ∷ es) own none = absurd (own_some session e es own.0 none)

empty_of : (works : List Work) → length works ≡ 0 → works ≡ []
empty_of [] e = refl
empty_of (w ∷ works) e = absurd (omega (arith, e))

-- all of them stand after a place after which all their works stand, and none after a place after which none does
pub none_before : (session : ℕ) (moves since rest : List Entry) → AreOwn session moves → moves ≡ since ++ rest → works_of session rest ≡ works_of session moves → since ≡ []
none_before session moves since rest own split same =
    let works : works_of session moves ≡ works_of session since ++ works_of session rest = ap (works_of session) split ∙ works_append session since rest in
    let count : length (works_of session moves) ≡ length (works_of session since) + length (works_of session rest) = ap (λ (l : List Work). length l) works ∙ length-append (works_of session since) (works_of session rest) in
    let alike : length (works_of session rest) ≡ length (works_of session moves) = ap (λ (l : List Work). length l) same in
    no_works session since (own_apart session since rest (subst (AreOwn session) split own)).0 (empty_of (works_of session since) (omega (arith, count, alike)))

pub none_after : (session : ℕ) (moves since rest : List Entry) → AreOwn session moves → moves ≡ since ++ rest → works_of session rest ≡ [] → since ≡ moves
none_after session moves since rest own split none =
    let end : rest ≡ [] = no_works session rest (own_apart session since rest (subst (AreOwn session) split own)).1 none in
    sym (split ∙ ap (λ l. since ++ l) end ∙ append-nil since)

-- ---- the Start stands before them

record StandsBefore (e : Entry) (log done before behind : List Entry) : Type 0 where
  between : List Entry
  first : log ≡ before ++ e ∷ between
  second : behind ≡ between ++ done

outside : (session : ℕ) (e : Entry) → (IsOwnWork session e → ⊥) → (done before behind : List Entry) → AreOwn session done → done ≡ before ++ e ∷ behind → ⊥
outside session e other [] [] behind own same = cc
outside session e other [] (b ∷ before) behind own same = cc
outside session e other (x ∷ done) [] behind own same = let one : x ≡ e = cc in other (subst (IsOwnWork session) one own.0)
outside session e other (x ∷ done) (b ∷ before) behind own same = let rest : done ≡ before ++ e ∷ behind = cc in outside session e other done before behind own.1 rest

stands_before : (session : ℕ) (e : Entry) → (IsOwnWork session e → ⊥) → (log done before behind : List Entry) → AreOwn session done → log ++ done ≡ before ++ e ∷ behind → StandsBefore e log done before behind
stands_before session e other [] done before behind own same = absurd (outside session e other done before behind own same)
stands_before session e other (x ∷ log) done [] behind own same =
    let one : x ≡ e = cc in let rest : log ++ done ≡ behind = cc in record { between = log; first = ap (λ z. z ∷ log) one; second = sym rest }
stands_before session e other (x ∷ log) done (b ∷ before) behind own same =
    let one : x ≡ b = cc in
    let rest : log ++ done ≡ before ++ e ∷ behind = cc in
    let more = stands_before session e other log done before behind own rest in
    record { between = more.between; first = (λ i. one i ∷ more.first i); second = more.second }

-- the REORGANIZE that is half done after own works was so before them
pub record WasHalfDone (origin : Ground) (log done : List Entry) (session : ℕ) (now : IsHalfDone origin (log ++ done) session) : Type 0 where
  pub half : IsHalfDone origin log session
  pub between : List Entry
  pub all : half.all ≡ now.all
  pub book : half.book ≡ now.book
  pub behind : (now.begun).behind ≡ between ++ done

pub was_half_done : (origin : Ground) (log done : List Entry) (session : ℕ) (now : IsHalfDone origin (log ++ done) session) → AreOwn session done → WasHalfDone origin log done session now
was_half_done origin log done session now own =
    let b = now.begun in
    let at = stands_before session (Start session b.bound b.short) (λ wrong. wrong) log done b.before b.behind own b.split in
    record {
      half = record {
        all = now.all;
        state = now.state;
        book = now.book;
        begun = record {
          before = b.before;
          bound = b.bound;
          short = b.short;
          behind = at.between;
          split = at.first;
          others = turns_left session at.between done (ap (turns_of session) (sym at.second) ∙ b.others);
          is = b.is;
          followed = b.followed;
        };
      };
      between = at.between;
      all = refl;
      book = refl;
      behind = at.second;
    }

-- of two that are half done after logs that agree, the Starts stand beside each other
pub one_half : (origin : Ground) (log other : List Entry) (session : ℕ) (x : IsHalfDone origin log session) (y : IsHalfDone origin other session) → AllZip Agrees log other → (x.all ≡ y.all) × IsShuffled x.book y.book
one_half origin log other session x y agree =
    let b = x.begun in
    let d = y.begun in
    let zip : AllZip Agrees (b.before ++ Start session b.bound b.short ∷ b.behind) (d.before ++ Start session d.bound d.short ∷ d.behind) =
    subst (λ z. AllZip Agrees z (d.before ++ Start session d.bound d.short ∷ d.behind)) b.split (subst (λ z. AllZip Agrees log z) d.split agree) in
    let at = one_start session b.bound d.bound b.short d.short b.before b.behind d.before d.behind zip b.others d.others in
    let so = one_moment origin b.before d.before x.state y.state x.book y.book at.0 b.followed d.followed in
    let statement : Reorganize y.all ≡ Reorganize x.all = sym d.is ∙ at.1 ∙ b.is in
    let all : x.all ≡ y.all = cc in
    (all, so.1)

-- ---- the statement in the state

half_step : (begin : Begin) (session : ℕ) (m : State) (e : Entry) (es : List Entry) (after : State) → IsStep begin m e after → turns_of session (e ∷ es) ≡ [] → after.half session ≡ m.half session
half_step begin session m (Mover by w) es after x none = ap (λ (z : State). z.half session) x
half_step begin session m (Start s b short) es after x none = at (session == s) refl
  where
    at : (t : Bool) → (session == s) ≡ t → after.half session ≡ m.half session
    at true own = absurd (start_is_turn session (Start s b short) es refl (sym (equal session s own)) none)
    at false other = (framed begin m (Start s b short) after x).halves session other
half_step begin session m (Finish s r) es after x none = at (session == s) refl
  where
    at : (t : Bool) → (session == s) ≡ t → after.half session ≡ m.half session
    at true own = absurd (start_is_turn session (Finish s r) es refl (sym (equal session s own)) none)
    at false other = (framed begin m (Finish s r) after x).halves session other
half_step begin session m (End s) es after x none = at (session == s) refl
  where
    at : (t : Bool) → (session == s) ≡ t → after.half session ≡ m.half session
    at true own = absurd (start_is_turn session (End s) es refl (sym (equal session s own)) none)
    at false other = (framed begin m (End s) after x).halves session other

half_stays : (begin : Begin) (session : ℕ) (es : List Entry) (m after : State) → Leads begin m es after → turns_of session es ≡ [] → after.half session ≡ m.half session
half_stays begin session [] m after x none = ap (λ (z : State). z.half session) x
half_stays begin session (e ∷ es) m after x none = half_stays begin session es x.0 after x.2 (turns_behind session e es none) ∙ half_step begin session m e es x.0 x.1 none

pub begun_half : (origin : Ground) (log : List Entry) (session : ℕ) (statement : Bound) (start m : State) (at book : Book) → IsBegunAt origin log session statement start at → Followed origin log m book
    → (half : Half) × (m.half session ≡ Some half) × (half.bound ≡ statement)
begun_half origin log session statement start m at book b followed =
    let whole : List Entry = b.before ++ Start session b.bound b.short ∷ b.behind in
    let leads : Leads origin.begin origin.begin.state whole m = subst (λ z. Leads origin.begin origin.begin.state z m) b.split (follows_leads origin origin.begin.state m origin.book book log followed) in
    let split = leads_split origin.begin origin.begin.state m b.before (Start session b.bound b.short ∷ b.behind) leads in
    let starts = split.2 in (
      half_of split.0 (b.bound).value b.short,
      half_stays origin.begin session b.behind starts.0 m starts.2 b.others ∙ half_begun origin.begin [] split.0 starts.0 session (b.bound).value b.short starts.1.2,
      b.is,
    )

-- ---- its reply

left_clock : (schema : Schema) (m : State) (session : ℕ) (all : Bool) (r : Reply) → IsLeft r → (finished schema m session (Reorganize all) r).clock ≡ m.clock
left_clock schema m session all reply.Done left = absurd left
left_clock schema m session all (reply.Affected count) left = absurd left
left_clock schema m session all (reply.Rows rows segments) left = absurd left
left_clock schema m session all (reply.Groups lines buffered) left = absurd left
left_clock schema m session all (reply.Segments lines) left = absurd left
left_clock schema m session all (reply.Left groups) left = refl
left_clock schema m session all (reply.Refused refusal) left = absurd left

-- where memory is not wanting it lists what it left
pub tells_left : (schema : Schema) (m after : State) (session : ℕ) (half : Half) (all : Bool) (r : Reply) → half.bound ≡ Reorganize all → IsFinish schema m session (Some half) r after → replies_memory r ≡ false → IsLeft r
tells_left schema m after session half all r is (how, becomes) well = at how
  where
    at : (r ≡ reply.Refused Memory) ⊎ ((half.short ≡ false) × (IsReply schema m session half r ⊎ IsOutOfIds schema m session half r)) → IsLeft r
    at (inl e) = let short : replies_memory r ≡ true = ap replies_memory e in absurd cc
    at (inr (_, inl told)) = subst (λ b. IsReplyTo schema m session half.note b r) is told
    at (inr (_, inr out)) =
        let left : IsLeft out.given = subst (λ b. IsReplyTo schema m session half.note b out.given) is out.is_reply in
        let same : (finished schema m session half.bound out.given).clock ≡ m.clock = (λ i. (finished schema m session (is i) out.given).clock) ∙ left_clock schema m session all out.given left in
        let up = out.commits in
        absurd (omega (arith, same, up))
