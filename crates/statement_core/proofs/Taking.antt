-- What a Start takes is what was begun.
use Rattle.std.proofs.Common.{◌≡◌, ℕ, ◌≤◌, List, length, refl, sym, ap, subst, ◌∙◌, arith, inl, inr, ◌⊎◌, Bool, true, false, Option, None, Some}
use Rattle.std.specs.Prelude.{◌==◌, unwrap_or}
use Rattle.std.specs.declared.alloc.Global.{Global}
use Rattle.std.specs.declared.sync.Arc.{Arc}
use Rattle.cs_types.specs.declared.Schema.{Schema}
use Rattle.cs_model.specs.declared.entry.Bound.{Bound}
use Rattle.cs_model.specs.Changes.{Change, until, table}
use Rattle.cs_model.specs.Floors as floors
use Rattle.cs_model.specs.Floors.{IsFloor}
use Rattle.cs_model.specs.Kinds.{is_of_table}
use Rattle.cs_model.specs.State.{State, Begin, half_set}
use Rattle.cs_model.specs.Steps.{half_of, noted}
use Rattle.log_laws.specs.Started.{Begun, own_in, is_implicit, Shows, Starts}
use Rattle.edit_laws.specs.Edits.{edits_of}
use Rattle.write_set.specs.declared.write.Write.{Write}
use Rattle.txn_table.specs.declared.txn.Txn as kept
use Rattle.txn_table.specs.Txns.{txn_of, depth_of, fixed, own_of, snapshot_of, snapshots_in}
use Rattle.group_book.specs.Book.{Book}
use Rattle.group_log.specs.Counted.{AreCounts}
use Rattle.group_view.specs.declared.view.Pinned.{Pinned}
use Rattle.group_view.specs.Books.{book_of}
use Rattle.group_view.specs.Scanned.{counts_in}
use Rattle.group_view.specs.Views.{shown_table, padded_table, IsView, ShowsTables}
use Rattle.group_directory.specs.declared.directory.Directory.{Directory}
use Rattle.group_directory.specs.declared.ledger.Ledger.{Ledger}
use Rattle.group_directory.specs.Laws.{IsLookAt}
use Rattle.group_directory.specs.Obstacles.{txn_in}
use Rattle.group_directory.specs.Stands.{width_in, Stands}
use Rattle.group_directory.proofs.ReportLaws.{counts_shown}
use Rattle.statement_core.specs.declared.core_state.CoreState.{CoreState}
use Rattle.statement_core.specs.Begun.{Pins, IsPinnedFor}
use Rattle.statement_core.specs.CoreState.{state_of, groups_of}
use Rattle.statement_core.specs.Counted.{HasCounts}
use Rattle.statement_core.specs.Reorganizes.{reorganizes, IsLedgerFor}
use Rattle.statement_core.specs.Taken.{opened_for, IsPinOf, IsPinOrNone, IsTaken}
use Rattle.statement_core.proofs.Placing.{with_own}
use Rattle.statement_core.proofs.States.{own_model}

-- ---- the snapshot that a pin takes

within_view : (clock floor snap : ℕ) (o : Option kept.Txn) → ((s : ℕ) → snapshot_of o ≡ Some s → (floor ≤ s) × (s ≤ clock)) → floor ≤ clock → snapshot_of (fixed clock o) ≡ Some snap → (floor ≤ snap) × (snap ≤ clock)
within_view clock floor snap None h le e = absurd (cc e)
within_view clock floor snap (Some txn) h le e = at txn.snapshot h e
  where
    at : (x : Option ℕ) → ((s : ℕ) → x ≡ Some s → (floor ≤ s) × (s ≤ clock)) → Some (unwrap_or x clock) ≡ Some snap → (floor ≤ snap) × (snap ≤ clock)
    at None h e = let same : clock ≡ snap = cc e in (omega (arith, same, le), omega (arith, same))
    at (Some s) h e = h snap e

low : (d : Directory) (changes : List Change) → Stands d changes → (floor : ℕ) → IsFloor (snapshots_in (txn_of d.txns)) d.clock floor → floor ≤ d.clock
low d changes j floor is = at is.one_of
  where
    at : ((session : ℕ) × (snapshots_in (txn_of d.txns) session ≡ Some floor)) ⊎ ((floor ≡ d.clock) × ((session : ℕ) → snapshots_in (txn_of d.txns) session ≡ None)) → floor ≤ d.clock
    at (inl x) = let txns = j.txns in txns.snapshots x.0 floor x.1
    at (inr x) = let same = x.0 in omega (arith, same)

pub pin_of : (changes : List Change) (mid : Directory) (new : Directory) (session : ℕ) (pinned : Pinned) → Stands mid changes → new.schema ≡ mid.schema → new.clock ≡ mid.clock → book_of new.list ≡ book_of mid.list → IsLookAt mid pinned.view → IsView pinned.view
    → ShowsTables (width_in mid) pinned.view changes → snapshots_in (txn_of new.txns) session ≡ Some pinned.snapshot → txn_of new.txns session ≡ fixed mid.clock (txn_of mid.txns session) → pinned.own ≡ own_of (txn_of new.txns session)
    → IsPinOf changes new session pinned
pin_of changes mid new session pinned j schema clock book look view shows snap txns own =
    let low_is = low mid changes j pinned.view.floor look.floor in
    let kept = j.txns in
    let floor = look.floor in
    let in_view = within_view mid.clock pinned.view.floor pinned.snapshot (txn_of mid.txns session) (λ s e. (floor.least session s e, kept.snapshots session s e)) low_is (sym (ap snapshot_of txns) ∙ snap) in
    record {
      view = view;
      shows = subst (λ (s : Arc Schema Global). ShowsTables (length s.value.columns) pinned.view changes) (sym schema) shows;
      from_floor = in_view.0;
      to_clock = let same = look.clock in let le = in_view.1 in omega (arith, same, le);
      snapshot = snap;
      taken = let le = in_view.1 in omega (arith, clock, le);
      own = own;
      counts = λ condition.
          subst (λ (s : Arc Schema Global). AreCounts s.value changes (book_of new.list) condition (counts_in s.value pinned.view condition)) (sym schema)
          (subst (λ (b : Book). AreCounts mid.schema.value changes b condition (counts_in mid.schema.value pinned.view condition)) (sym book) (counts_shown mid pinned.view changes condition j look));
    }

-- ---- what was begun

module _ (begin : Begin) (changes : List Change) (old mid new : CoreState) (session : ℕ) (b : Bound) (short : Bool) (note : ℕ) (pinned : Option Pinned) (own : List Write) (implicit : Bool) (ledger : Option Ledger)
    (schema : mid.directory.schema.value ≡ begin.schema)
    (opened : state_of changes mid ≡ opened_for (state_of changes old) session b short)
    (halved : state_of changes new ≡ half_set (state_of changes mid) session (Some (half_of (state_of changes old) b short))) (note_is : note ≡ noted b (state_of changes old))
    (why : short ≡ true → is_of_table b ≡ true) (own_is : own ≡ own_of (txn_of mid.directory.txns session)) (implicit_is : implicit ≡ is_implicit ((state_of changes mid).txns session))
    (pin : is_of_table b ≡ true → short ≡ false → IsPinOrNone changes mid.directory session pinned) (groups : groups_of mid ≡ groups_of old)
    (lists : IsLedgerFor (groups_of old) (reorganizes b) ledger) where
  snap_of : Option Pinned → ℕ
  snap_of None = 0
  snap_of (Some p) = p.snapshot

  abbrev begun_at : ℕ → Begun
  begun_at s = record {
    bound = b;
    short = short;
    note = noted b (state_of changes old);
    implicit = is_implicit (txn_in (txn_of mid.directory.txns session));
    schema = begin.schema;
    changes = until s changes;
    snapshot = s;
    own = own_in (txn_in (txn_of mid.directory.txns session));
  }

  model_snapshot : (o : Option kept.Txn) (s : ℕ) → snapshot_of o ≡ Some s → floors.snapshot_of (txn_in o) ≡ Some s
  model_snapshot None s e = absurd (cc e)
  model_snapshot (Some txn) s e = e

  -- the statement with this snapshot, which is the transaction's where the statement reads
  shown : (s : ℕ) → (is_of_table b ≡ true → short ≡ false → (snapshots_in (txn_of mid.directory.txns) session ≡ Some s) × (s ≤ mid.directory.clock)) → Shows begin (state_of changes new) session (begun_at s)
  shown s at =
      subst (λ (x : State). Shows begin x session (begun_at s)) (sym halved) (record {
        half = with_own (state_of changes mid).half session (Some (half_of (state_of changes old) b short));
        schema = refl;
        implicit = refl;
        own = refl;
        sees = λ t n. let h = at t n in record { snapshot = model_snapshot (txn_of mid.directory.txns session) s h.0; taken = h.1; changes = refl };
      })

  starts : (s : ℕ) → (is_of_table b ≡ true → short ≡ false → (snapshots_in (txn_of mid.directory.txns) session ≡ Some s) × (s ≤ mid.directory.clock)) → Starts begin (state_of changes old) session (begun_at s) (state_of changes new)
  starts s at = record {
    state = halved ∙ ap (λ (x : State). half_set x session (Some (half_of (state_of changes old) b short))) opened;
    why = why;
    shows = shown s at;
  }

  own_begun : edits_of own ≡ own_in (txn_in (txn_of mid.directory.txns session))
  own_begun = ap edits_of own_is ∙ sym (own_model (txn_of mid.directory.txns session))

  pins : (p : Pinned) → IsPinOf changes mid.directory session p → Pins (begun_at p.snapshot) p
  pins p is = record {
    view = is.view;
    snapshot = refl;
    from_floor = is.from_floor;
    to_clock = is.to_clock;
    shows =
        let shows = is.shows in
        subst (λ (n : ℕ). shown_table n p.view p.snapshot ≡ padded_table n (table changes p.snapshot)) (ap (λ (s : Schema). length s.columns) schema) (shows.tables p.snapshot is.from_floor is.to_clock);
    own = ap edits_of is.own ∙ sym (own_model (txn_of mid.directory.txns session));
  }

  has : (p : Pinned) → IsPinOf changes mid.directory session p → HasCounts begin.schema changes (groups_of old) (Some p)
  has p is = λ condition.
      subst (λ (s : Schema). AreCounts s changes (groups_of old) condition (counts_in s p.view condition)) schema
      (subst (λ (book : Book). AreCounts mid.directory.schema.value changes book condition (counts_in mid.directory.schema.value p.view condition)) groups (is.counts condition))

  taken_at : (o : Option Pinned) → pinned ≡ o → IsTaken begin changes old session b (record { pinned = pinned; own = own; short = short; note = note; implicit = implicit; ledger = ledger }) new
  taken_at None e = record {
    begun = begun_at 0;
    bound = refl;
    among = refl;
    starts = starts 0 (λ t n. absurd (none t n));
    short = refl;
    note = note_is;
    implicit = implicit_is;
    own = own_begun;
    ledger = lists;
    pinned = λ t n. absurd (none t n);
    counts = λ t n. absurd (none t n);
  }
    where
      none : is_of_table b ≡ true → short ≡ false → ⊥
      none t n = subst (IsPinOrNone changes mid.directory session) e (pin t n)
  taken_at (Some p) e = record {
    begun = begun_at p.snapshot;
    bound = refl;
    among = refl;
    starts = starts p.snapshot (λ t n. let is = there t n in (is.snapshot, is.taken));
    short = refl;
    note = note_is;
    implicit = implicit_is;
    own = own_begun;
    ledger = lists;
    pinned = λ t n. subst (IsPinnedFor (begun_at p.snapshot)) (sym e) (pins p (there t n));
    counts = λ t n. subst (HasCounts begin.schema changes (groups_of old)) (sym e) (has p (there t n));
  }
    where
      there : is_of_table b ≡ true → short ≡ false → IsPinOf changes mid.directory session p
      there t n = subst (IsPinOrNone changes mid.directory session) e (pin t n)

  pub taken : IsTaken begin changes old session b (record { pinned = pinned; own = own; short = short; note = note; implicit = implicit; ledger = ledger }) new
  taken = taken_at pinned refl

-- ---- whether a transaction is implicit

abbrev pub is_zero : Option ℕ → Bool
is_zero None = false
is_zero (Some depth) = depth == 0

pub implicit_depth : (o : Option kept.Txn) (depth : Option ℕ) (eq : Bool) → depth ≡ depth_of o → eq ≡ is_zero depth → eq ≡ is_implicit (txn_in o)
implicit_depth None depth eq d e = e ∙ ap is_zero d
implicit_depth (Some txn) depth eq d e = e ∙ ap is_zero d
