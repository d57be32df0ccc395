-- Along a log the book stays one of the changes, at what was the floor when a mover last worked, or when the log began: the floor
-- of a state in between need not be known, and none of them is below that one.
use Rattle.std.proofs.Common.{◌≡◌, ℕ, ◌≤◌, ◌⊎◌, inl, inr, List, [], ◌∷◌, ◌++◌, cond, Bool, true, false, refl, sym, ap, subst, ◌∙◌, arith, Option, None, Some}
use Rattle.std.proofs.lemmas.Option.{none-some}
use Rattle.cs_types.specs.declared.Schema.{Schema}
use Rattle.cs_model.specs.declared.entry.Bound.{Bound}
use Rattle.cs_model.specs.declared.entry.Entry.{Entry}
use Rattle.cs_model.specs.declared.entry.Entry.TheVariants.{Start, Finish, End, Mover}
use Rattle.cs_model.specs.Changes.{Change}
use Rattle.cs_model.specs.Floors.{snapshot_of, snapshots, IsFloor}
use Rattle.cs_model.specs.Kinds.{is_of_table}
use Rattle.cs_model.specs.State.{Txn, State, Begin}
use Rattle.cs_model.specs.Steps.{IsStep, Leads, pinned, started}
use Rattle.log_laws.specs.Frames.{SnapIn, SnapAtMost}
use Rattle.log_laws.specs.Laws.{IsSound}
use Rattle.log_laws.proofs.Beginnings.{may_begin}
use Rattle.log_laws.proofs.Floors.{floor_rises}
use Rattle.log_laws.proofs.Logs.{leads_append}
use Rattle.log_laws.proofs.Numbers.{clock_later}
use Rattle.log_laws.proofs.Sound.{sound_from}
use Rattle.group_book.specs.Book.{Book}
use Rattle.group_book.specs.Commits.{Sizes}
use Rattle.group_book.specs.Invariant.{IsBookOf}
use Rattle.group_book.proofs.Rise.{empty_is, book_rise}
use Rattle.group_log.specs.Followed.{Ground, ground_of, IsBookStep, Follows, Followed}
use Rattle.group_log.specs.Grounds.{IsGround}
use Rattle.group_log.proofs.Keeping.{changes_of, finish_keeps, works_keep}

-- the book is one of the changes of a state, at what was the floor at this moment, from which these entries lead to the state
pub record IsSince (begin : Begin) (group_rows : ℕ) (m : State) (book : Book) : Type 0 where
  pub moment : State
  pub floor : ℕ
  pub entries : List Entry
  pub sound : IsSound moment
  pub taken : IsFloor (snapshots moment) moment.clock floor
  pub leads : Leads begin moment entries m
  pub stands : IsBookOf group_rows book m.changes floor

-- ---- the state and its floor

pub sound_now : (begin : Begin) (group_rows : ℕ) (m : State) (book : Book) → IsSince begin group_rows m book → IsSound m
sound_now begin group_rows m book since = sound_from begin since.moment m since.entries since.leads since.sound

-- a floor is a snapshot or the clock
at_most_clock : (m : State) (floor : ℕ) → IsSound m → IsFloor (snapshots m) m.clock floor → floor ≤ m.clock
at_most_clock m floor sound taken = at taken.one_of
  where
    in_clock : (o : Option Txn) → snapshot_of o ≡ Some floor → SnapIn o m.clock → floor ≤ m.clock
    in_clock None e snap = absurd (none-some floor e)
    in_clock (Some txn) e snap = subst (λ x. SnapAtMost x m.clock) e snap

    at : ((session : ℕ) × (snapshots m session ≡ Some floor)) ⊎ ((floor ≡ m.clock) × ((session : ℕ) → snapshots m session ≡ None)) → floor ≤ m.clock
    at (inl one) = in_clock (m.txns one.0) one.1 (sound.snapshots one.0)
    at (inr none) = let e = none.0 in omega (arith, e)

pub since_reaches : (begin : Begin) (group_rows : ℕ) (m : State) (book : Book) (since : IsSince begin group_rows m book) → since.floor ≤ m.clock
since_reaches begin group_rows m book since =
    let first = at_most_clock since.moment since.floor since.sound since.taken in
    let later = clock_later begin since.moment m since.entries since.leads in
    omega (arith, first, later)

-- steps ask of what a log begins with its schema alone
step_from : (begin : Begin) (moment m after : State) (entry : Entry) → IsStep begin m entry after → IsStep (record begin { state = moment }) m entry after
step_from begin moment m after (Start session b short) x = x
step_from begin moment m after (Finish session r) x = x
step_from begin moment m after (End session) x = x
step_from begin moment m after (Mover by w) x = x

leads_from : (begin : Begin) (moment m after : State) (entries : List Entry) → Leads begin m entries after → Leads (record begin { state = moment }) m entries after
leads_from begin moment m after [] x = x
leads_from begin moment m after (entry ∷ entries) x = (x.0, step_from begin moment m x.0 entry x.1, leads_from begin moment x.0 after entries x.2)

-- the book is one of the changes at the floor
pub since_at_floor : (begin : Begin) (group_rows : ℕ) (m : State) (book : Book) (floor : ℕ) → IsSince begin group_rows m book → IsFloor (snapshots m) m.clock floor → IsBookOf group_rows book m.changes floor
since_at_floor begin group_rows m book floor since taken =
    let rises = floor_rises (record begin { state = since.moment }) [] since.entries since.moment m since.floor floor since.sound refl (leads_from begin since.moment since.moment m since.entries since.leads) since.taken taken in
    book_rise group_rows book m.changes since.floor floor rises since.stands

-- ---- an entry

changes_if : (b : Bool) (x y : State) → x.changes ≡ y.changes → (cond b x y).changes ≡ y.changes
changes_if true x y e = e
changes_if false x y e = refl

start_changes : (m : State) (session : ℕ) (b : Bound) (short : Bool) → (started m session b short).changes ≡ m.changes
start_changes m session b short = changes_if (is_of_table b) (pinned m session short) m refl

-- one entry more that no mover makes, with the book after it
goes_on : (begin : Begin) (group_rows : ℕ) (m after : State) (entry : Entry) (book made : Book) (since : IsSince begin group_rows m book) → IsStep begin m entry after
    → IsBookOf group_rows made after.changes since.floor → IsSince begin group_rows after made
goes_on begin group_rows m after entry book made since step j = record {
  moment = since.moment;
  floor = since.floor;
  entries = since.entries ++ entry ∷ [];
  sound = since.sound;
  taken = since.taken;
  leads = leads_append begin since.moment m after since.entries (entry ∷ []) since.leads (after, step, refl);
  stands = j;
}

stays : (group_rows : ℕ) (before now : List Change) (book made : Book) (floor : ℕ) → now ≡ before → made ≡ book → IsBookOf group_rows book before floor → IsBookOf group_rows made now floor
stays group_rows before now book made floor changes same j = subst (λ cs. IsBookOf group_rows made cs floor) (sym changes) (subst (λ b. IsBookOf group_rows b before floor) (sym same) j)

pub since_step : (origin : Ground) (m after : State) (entry : Entry) (book made : Book) → 1 ≤ origin.sizes.group_rows → 1 ≤ origin.sizes.direct_rows → IsSince origin.begin origin.sizes.group_rows m book
    → IsStep origin.begin m entry after → IsBookStep origin m book entry after made → IsSince origin.begin origin.sizes.group_rows after made
since_step origin m after (Start session b short) book made room some since step same =
    goes_on origin.begin origin.sizes.group_rows m after (Start session b short) book made since step
    (stays origin.sizes.group_rows m.changes after.changes book made since.floor (ap (λ (z : State). z.changes) step.2 ∙ start_changes m session b.value short) same since.stands)
since_step origin m after (Finish session r) book made room some since step finishes =
    let sound = sound_now origin.begin origin.sizes.group_rows m book since in
    let reach = since_reaches origin.begin origin.sizes.group_rows m book since in
    goes_on origin.begin origin.sizes.group_rows m after (Finish session r) book made since step
    (finish_keeps origin.begin origin.sizes m after session r since.floor book made room some sound reach step since.stands finishes.commits)
since_step origin m after (End session) book made room some since step same =
    goes_on origin.begin origin.sizes.group_rows m after (End session) book made since step
    (stays origin.sizes.group_rows m.changes after.changes book made since.floor (ap (λ (z : State). z.changes) step.1) same since.stands)
since_step origin m after (Mover by w) book made room some since step moves =
    let sound = sound_now origin.begin origin.sizes.group_rows m book since in
    let floor : ℕ = moves.0 in
    let j = since_at_floor origin.begin origin.sizes.group_rows m book floor since moves.1 in
    record {
      moment = m;
      floor = floor;
      entries = Mover by w ∷ [];
      sound = sound;
      taken = moves.1;
      leads = (after, step, refl);
      stands = subst (λ (z : State). IsBookOf origin.sizes.group_rows made z.changes floor) (sym step) (works_keep origin.sizes floor by book m.changes m.clock w made (changes_of m sound) j moves.2);
    }

-- ---- a log

pub since_floor : (begin : Begin) (group_rows : ℕ) (m : State) (book : Book) (floor : ℕ) → IsSound m → IsFloor (snapshots m) m.clock floor → IsBookOf group_rows book m.changes floor → IsSince begin group_rows m book
since_floor begin group_rows m book floor sound taken j = record { moment = m; floor = floor; entries = []; sound = sound; taken = taken; leads = refl; stands = j }

since_ground : (origin : Ground) → IsGround origin → IsSince origin.begin origin.sizes.group_rows origin.begin.state origin.book
since_ground origin g =
    let none : (session : ℕ) → snapshots origin.begin.state session ≡ None = λ session. ap snapshot_of (g.begin.closed session) in
    since_floor origin.begin origin.sizes.group_rows origin.begin.state origin.book origin.begin.state.clock g.begin.sound
    (record { least = λ session s e. absurd (none-some s (sym (none session) ∙ e)); one_of = inr (refl, none) }) g.book

pub new_ground : (schema : Schema) (sizes : Sizes) → 1 ≤ sizes.group_rows → 1 ≤ sizes.direct_rows → IsGround (ground_of schema sizes)
new_ground schema sizes room some = record { begin = may_begin schema; group_rows = room; direct_rows = some; unclaimed = refl; book = empty_is sizes.group_rows 0 }

since_from : (origin : Ground) (m after : State) (book made : Book) (log : List Entry) → 1 ≤ origin.sizes.group_rows → 1 ≤ origin.sizes.direct_rows → IsSince origin.begin origin.sizes.group_rows m book
    → Follows origin m book log after made → IsSince origin.begin origin.sizes.group_rows after made
since_from origin m after book made [] room some since x =
    subst (λ z. IsSince origin.begin origin.sizes.group_rows z made) (sym x.0) (subst (λ b. IsSince origin.begin origin.sizes.group_rows m b) (sym x.1) since)
since_from origin m after book made (entry ∷ log) room some since x = since_from origin x.0 after x.1 made log room some (since_step origin m x.0 entry book x.1 room some since x.2 x.3) x.4

pub since_log : (origin : Ground) (log : List Entry) (m : State) (book : Book) → IsGround origin → Followed origin log m book → IsSince origin.begin origin.sizes.group_rows m book
since_log origin log m book g x = since_from origin origin.begin.state m origin.book book log g.group_rows g.direct_rows (since_ground origin g) x
