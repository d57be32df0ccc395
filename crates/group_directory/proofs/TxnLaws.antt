-- The open transactions, as each event changes one of them.
use Rattle.std.proofs.Common.{◌≡◌, ◌≢◌, ℕ, ◌<◌, ◌≤◌, ◌+◌, Bool, true, false, ◌||◌, cond, ltb, leb, List, [], ◌∷◌, ◌++◌, get_or, length, Any, Option, Some, None, is_some, refl, sym, ap, subst, ◌∙◌, arith}
use Rattle.std.specs.Prelude.{◌==◌}
use Rattle.std.specs.List.{All, AllByRecursion, Contains}
use Rattle.std.specs.Option.{unwrap_or}
use Rattle.std.proofs.Math.Path.{fun_ext}
use Rattle.std.proofs.lemmas.Bool.Decides.{nat_tests}
use Rattle.std.proofs.lemmas.List.Elements.{All-nil, All-contains, All-contains_itself, recursion_from_All}
use Rattle.cs_types.specs.declared.Key.{Key}
use Rattle.cs_types.specs.Keys.{same_key}
use Rattle.cs_model.specs.Changes.{Edit, Change, table, until, newest, made}
use Rattle.cs_model.specs.Obstacles.{is_above, has_row}
use Rattle.cs_model.specs.Steps.{numbered}
use Rattle.cs_model.proofs.Tables.{row_is}
use Rattle.edit_laws.specs.Edits.{edits_of}
use Rattle.write_set.specs.declared.write.Write.{Write}
use Rattle.write_set.specs.Writes.{put, staged}
use Rattle.write_set.proofs.Puts.{All-put, all_tail}
use Rattle.txn_table.specs.declared.txn.Txn.{Txn}
use Rattle.txn_table.specs.Txns.{Table, txn_of, with, opened, deepened, fixed, widened, snapshot_of, own_of, Owns}
use Rattle.txn_table.proofs.PlaceSet.{txn_at-past}
use Rattle.group_book.specs.Commits.{is_in_table}
use Rattle.group_book.specs.Stocks.{AreChanges, next_change}
use Rattle.group_book.proofs.Keys.{key_is}
use Rattle.group_book.proofs.Lists.{All-in}
use Rattle.group_book.proofs.Changes.{last_at, later, last-append, last-later, last-some, last-ge, next-le, next-above, AreBelow}
use Rattle.group_book.proofs.Visible.{ascending_of, below_of}
use Rattle.group_book.proofs.Made.{is_written}
use Rattle.group_directory.specs.Stands.{SayReplaced, AreUnchanged, AreTxns}
use Rattle.group_directory.specs.Laws.{MayStage, MayCommit}
use Rattle.group_directory.proofs.RecentLaws.{above_stays}
use Rattle.group_directory.proofs.RowLaws.{none_made}
use Rattle.group_directory.proofs.FloorLaws.{snapshot-deepened, snapshot-widened}

-- ---- own writes

own-deepened : (depth : ℕ) (o : Option Txn) → own_of (deepened depth o) ≡ own_of o
own-deepened depth None = refl
own-deepened depth (Some txn) = refl

own-fixed : (clock : ℕ) (o : Option Txn) → own_of (fixed clock o) ≡ own_of o
own-fixed clock None = refl
own-fixed clock (Some txn) = refl

snapshot-fixed_low : (clock : ℕ) (o : Option Txn) → ((s : ℕ) → snapshot_of o ≡ Some s → s ≤ clock) → (s : ℕ) → snapshot_of (fixed clock o) ≡ Some s → s ≤ clock
snapshot-fixed_low clock None low s is = low s is
snapshot-fixed_low clock (Some txn) low s is = at txn.snapshot low is
  where
    at : (o : Option ℕ) → ((n : ℕ) → o ≡ Some n → n ≤ clock) → Some (unwrap_or o clock) ≡ Some s → s ≤ clock
    at None h e = let same : clock ≡ s = cc in omega (arith, same)
    at (Some n) h e = h s e

-- the keys of own writes stay unchanged above a snapshot that is taken, as those of none are
unchanged-fixed : (changes : List Change) (clock : ℕ) (o : Option Txn) → (snapshot_of o ≡ None → own_of o ≡ []) → AreUnchanged changes o → AreUnchanged changes (fixed clock o)
unchanged-fixed changes clock None pin un = un
unchanged-fixed changes clock (Some txn) pin un = at txn.snapshot refl
  where
    IsCalm : Option ℕ → Write → Type 0
    IsCalm q w = is_above (newest w.key changes) q ≡ false

    at : (q : Option ℕ) → txn.snapshot ≡ q → All (IsCalm (Some (unwrap_or q clock))) txn.own
    at None is = subst (All (IsCalm (Some clock))) (sym (pin is)) (All-nil (IsCalm (Some clock)))
    at (Some s) is = subst (λ (q : Option ℕ). All (IsCalm q) txn.own) is un

pinned-fixed : (clock : ℕ) (o : Option Txn) → snapshot_of (fixed clock o) ≡ None → own_of (fixed clock o) ≡ []
pinned-fixed clock None is = refl
pinned-fixed clock (Some txn) is = cc

pub All-staged : (P : Write → Type 0) (own writes : List Write) → All P own → All P writes → All P (staged own writes)
All-staged P own [] h more = h
All-staged P own (w ∷ writes) h more = All-staged P (put own w) writes (All-put P own w (more 0 w (omega arith)) h) (all_tail P w writes more)

-- where each write is of another key, the key is not among them
not_any : (key : Key) (own : List Write) → All (λ (w : Write). w.key ≡ key → ⊥) own → Any (λ (w : Write). w.key ≡ key) own → ⊥
not_any key own none (k, w, within, at, is) = All-contains (λ (v : Write). v.key ≡ key → ⊥) own w none (k, within, at) is

not_owned : (o : Option Txn) (key : Key) → (Owns o key → ⊥) → All (λ (w : Write). w.key ≡ key → ⊥) (own_of o)
not_owned o key not = All-in (Contains (own_of o)) (λ (w : Write). w.key ≡ key → ⊥) (own_of o) (λ w there _ is. not (there.0, w, there.1, there.2, is)) (All-contains_itself (own_of o))

-- ---- one transaction is another

module _ (txns : ℕ → Option Txn) (changes : List Change) (clock session : ℕ) (j : AreTxns txns changes clock) where
  same_session : (s : ℕ) → (s == session) ≡ true → s ≡ session
  same_session s is = grind (arith, nat_tests)

  other_session : (s : ℕ) → (s == session) ≡ false → s ≢ session
  other_session s is e = grind (arith, nat_tests)

  pub one_changed : (o : Option Txn) → ((s : ℕ) → snapshot_of o ≡ Some s → s ≤ clock) → ((other : ℕ) (key : Key) → other ≢ session → Owns (txns other) key → Owns o key → ⊥) → SayReplaced changes clock o
      → (snapshot_of o ≡ None → own_of o ≡ []) → AreUnchanged changes o → AreTxns (with txns session o) changes clock
  one_changed o low apart says pin un = record {
    snapshots = λ s n. snap_at s n (s == session);
    owners = λ a b key ne. owner_at a b key ne (a == session) refl (b == session) refl;
    replaced = λ s. says_at s (s == session);
    pinned = λ s. pin_at s (s == session);
    unchanged = λ s. un_at s (s == session);
  }
    where
      snap_at : (s n : ℕ) (t : Bool) → snapshot_of (cond t o (txns s)) ≡ Some n → n ≤ clock
      snap_at s n true is = low n is
      snap_at s n false is = j.snapshots s n is

      owner_at : (a b : ℕ) (key : Key) → a ≢ b → (t : Bool) → (a == session) ≡ t → (u : Bool) → (b == session) ≡ u → Owns (cond t o (txns a)) key → Owns (cond u o (txns b)) key → ⊥
      owner_at a b key ne true is_a true is_b p q = ne (same_session a is_a ∙ sym (same_session b is_b))
      owner_at a b key ne true is_a false is_b p q = apart b key (other_session b is_b) q p
      owner_at a b key ne false is_a true is_b p q = apart a key (other_session a is_a) p q
      owner_at a b key ne false is_a false is_b p q = j.owners a b key ne p q

      says_at : (s : ℕ) (t : Bool) → SayReplaced changes clock (cond t o (txns s))
      says_at s true = says
      says_at s false = j.replaced s

      pin_at : (s : ℕ) (t : Bool) → snapshot_of (cond t o (txns s)) ≡ None → own_of (cond t o (txns s)) ≡ []
      pin_at s true = pin
      pin_at s false = j.pinned s

      un_at : (s : ℕ) (t : Bool) → AreUnchanged changes (cond t o (txns s))
      un_at s true = un
      un_at s false = j.unchanged s

  -- with the same own writes
  pub own_kept : (o : Option Txn) → own_of o ≡ own_of (txns session) → ((s : ℕ) → snapshot_of o ≡ Some s → s ≤ clock) → (snapshot_of o ≡ None → own_of o ≡ []) → AreUnchanged changes o → AreTxns (with txns session o) changes clock
  own_kept o same low pin un =
      one_changed o low
      (λ other key ne p q. j.owners other session key ne p (subst (Any (λ (w : Write). w.key ≡ key)) same q))
      (subst (All (λ (w : Write). w.replaces ≡ is_in_table changes clock w.key)) (sym same) (j.replaced session))
      pin un

  pub none_own : (o : Option Txn) → own_of o ≡ [] → ((s : ℕ) → snapshot_of o ≡ Some s → s ≤ clock) → AreTxns (with txns session o) changes clock
  none_own o empty low =
      one_changed o low
      (λ other key ne p q. nothing key (subst (Any (λ (w : Write). w.key ≡ key)) empty q))
      (subst (All (λ (w : Write). w.replaces ≡ is_in_table changes clock w.key)) (sym empty) (All-nil (λ (w : Write). w.replaces ≡ is_in_table changes clock w.key)))
      (λ _. empty)
      (subst (All (λ (w : Write). is_above (newest w.key changes) (snapshot_of o) ≡ false)) (sym empty) (All-nil (λ (w : Write). is_above (newest w.key changes) (snapshot_of o) ≡ false)))
    where
      nothing : (key : Key) → Any (λ (w : Write). w.key ≡ key) [] → ⊥
      nothing key (k, w, within, at, is) = absurd (omega (arith, within))

  pub txns_opened : (number depth : ℕ) → AreTxns (with txns session (Some (opened number depth))) changes clock
  txns_opened number depth = none_own (Some (opened number depth)) refl (λ s is. cc)

  pub txns_deepened : (depth : ℕ) → AreTxns (with txns session (deepened depth (txns session))) changes clock
  txns_deepened depth =
      own_kept (deepened depth (txns session)) (own-deepened depth (txns session)) (λ s is. j.snapshots session s (sym (snapshot-deepened depth (txns session)) ∙ is))
      (λ none. own-deepened depth (txns session) ∙ j.pinned session (sym (snapshot-deepened depth (txns session)) ∙ none)) (unchanged-deepened (txns session) (j.unchanged session))
    where
      unchanged-deepened : (o : Option Txn) → AreUnchanged changes o → AreUnchanged changes (deepened depth o)
      unchanged-deepened None un = un
      unchanged-deepened (Some txn) un = un

  pub txns_fixed : AreTxns (with txns session (fixed clock (txns session))) changes clock
  txns_fixed =
      own_kept (fixed clock (txns session)) (own-fixed clock (txns session)) (snapshot-fixed_low clock (txns session) (j.snapshots session)) (pinned-fixed clock (txns session))
      (unchanged-fixed changes clock (txns session) (j.pinned session) (j.unchanged session))

  pub txns_removed : AreTxns (with txns session None) changes clock
  txns_removed = none_own None refl (λ s is. cc)

-- ---- rows in the tables of snapshots

-- where the newest change is not above the snapshot, none is next
quiet_next : (cs : List Change) (clock : ℕ) → AreChanges cs clock → (key : Key) (s : ℕ) → s ≤ clock → is_above (newest key cs) (Some s) ≡ false → next_change cs key s ≡ None
quiet_next cs clock a key s le quiet = step (next_change cs key s) refl (last_at cs key clock) refl
  where
    whole : (xs : List Change) → AreBelow clock xs → until clock xs ≡ xs
    whole [] low = refl
    whole (x ∷ xs) low =
        let passes : leb x.commit clock ≡ true = let le = low.0 in grind (arith, nat_tests) in
        ap (λ (t : Bool). cond t (x ∷ until clock xs) (until clock xs)) passes ∙ ap (λ (l : List Change). x ∷ l) (whole xs low.1)

    last_is : last_at cs key clock ≡ newest key cs
    last_is = ap (newest key) (whole cs (below_of cs clock a))

    step : (n : Option ℕ) → next_change cs key s ≡ n → (o : Option Change) → last_at cs key clock ≡ o → n ≡ None
    step None next o last = refl
    step (Some e) next None last = absurd (last-some cs key s clock e next (next-le cs clock (below_of cs clock a) key s e next) last)
    step (Some e) next (Some x) last =
        let e_low = next-le cs clock (below_of cs clock a) key s e next in
        let above = next-above cs key s e next in
        let late = last-ge cs key s clock e x (ascending_of cs a.ascend) next e_low last in
        let quiet_x : ltb s x.commit ≡ false = ap (λ (o : Option Change). is_above o (Some s)) (sym last ∙ last_is) ∙ quiet in
        absurd (contrary x.commit e above late quiet_x)
      where
        contrary : (n e : ℕ) → s < e → e ≤ n → ltb s n ≡ false → ⊥
        contrary n e lt le is = grind (arith, nat_tests)

row_there : (cs : List Change) (s : ℕ) (key : Key) → has_row (table cs s) key ≡ is_in_table cs s key
row_there cs s key = ap is_some (row_is cs s key)

-- a key without a change above a snapshot has a row in its table exactly where it has one at the clock
pub quiet_row : (cs : List Change) (clock : ℕ) → AreChanges cs clock → (key : Key) (s : ℕ) → s ≤ clock → is_above (newest key cs) (Some s) ≡ false → has_row (table cs s) key ≡ is_in_table cs clock key
quiet_row cs clock a key s le quiet = row_there cs s key ∙ ap (λ (o : Option Change). is_some (made o)) (sym (last-later cs key s clock (quiet_next cs clock a key s le quiet) le))

-- ---- writes that may be committed

-- own writes may be committed
pub own_commits : (txns : ℕ → Option Txn) (changes : List Change) (clock session : ℕ) → AreTxns txns changes clock → MayCommit txns changes clock session (own_of (txns session))
own_commits txns changes clock session j = record {
  free = All-in (Contains (own_of (txns session))) (λ (w : Write). (other : ℕ) → other ≢ session → Owns (txns other) w.key → ⊥) (own_of (txns session))
      (λ w there _ other ne theirs. j.owners other session w.key ne theirs (there.0, w, there.1, there.2, refl)) (All-contains_itself (own_of (txns session)));
  replaces = j.replaced session;
}

-- so may writes that may be laid over them
pub staged_commits : (txns : ℕ → Option Txn) (changes : List Change) (clock session s : ℕ) (writes : List Write) → AreChanges changes clock → AreTxns txns changes clock → MayStage txns changes session s writes
    → MayCommit txns changes clock session writes
staged_commits txns changes clock session s writes a j may = record {
  free = may.free;
  replaces = λ k d inside. may.replaces k d inside ∙ quiet_row changes clock a (get_or writes k d).key s (j.snapshots session s may.snapshot) (may.quiet k d inside);
}

-- ---- writes are laid over the own ones

abbrev SaysIt : List Change → ℕ → Write → Type 0
SaysIt changes clock w = w.replaces ≡ is_in_table changes clock w.key

own-widened : (writes : List Write) (o : Option Txn) (s : ℕ) → snapshot_of o ≡ Some s → own_of (widened writes o) ≡ staged (own_of o) writes
own-widened writes None s is = cc
own-widened writes (Some txn) s is = refl

pub txns_staged : (txns : ℕ → Option Txn) (changes : List Change) (clock session s : ℕ) (writes : List Write) → AreChanges changes clock → AreTxns txns changes clock → MayStage txns changes session s writes
    → AreTxns (with txns session (widened writes (txns session))) changes clock
txns_staged txns changes clock session s writes a j may =
    one_changed txns changes clock session j (widened writes (txns session))
    (λ n is. j.snapshots session n (sym (snapshot-widened writes (txns session)) ∙ is))
    apart
    (subst (All (SaysIt changes clock)) (sym own) (All-staged (SaysIt changes clock) (own_of (txns session)) writes (j.replaced session) (let commits = staged_commits txns changes clock session s writes a j may in commits.replaces)))
    (λ none. absurd (cc (none, snapshot)))
    (subst (λ (q : Option ℕ). All (IsCalm q) (own_of (widened writes (txns session)))) (sym snapshot)
    (subst (All (IsCalm (Some s))) (sym own) (All-staged (IsCalm (Some s)) (own_of (txns session)) writes (subst (λ (q : Option ℕ). All (IsCalm q) (own_of (txns session))) may.snapshot (j.unchanged session)) may.quiet)))
  where
    IsCalm : Option ℕ → Write → Type 0
    IsCalm q w = is_above (newest w.key changes) q ≡ false

    snapshot : snapshot_of (widened writes (txns session)) ≡ Some s
    snapshot = snapshot-widened writes (txns session) ∙ may.snapshot

    own : own_of (widened writes (txns session)) ≡ staged (own_of (txns session)) writes
    own = own-widened writes (txns session) s may.snapshot

    apart : (other : ℕ) (key : Key) → other ≢ session → Owns (txns other) key → Owns (widened writes (txns session)) key → ⊥
    apart other key ne p q =
        not_any key (staged (own_of (txns session)) writes)
        (All-staged (λ (w : Write). w.key ≡ key → ⊥) (own_of (txns session)) writes
        (not_owned (txns session) key (λ mine. j.owners other session key ne p mine))
        (λ k d inside is. may.free k d inside other ne (subst (λ (q : Key). Owns (txns other) q) (sym is) p)))
        (subst (Any (λ (w : Write). w.key ≡ key)) own q)

-- ---- a commit

unwritten : (own : List Write) (key : Key) → AllByRecursion (λ (w : Write). w.key ≡ key → ⊥) own → is_written (edits_of own) key ≡ false
unwritten [] key none = refl
unwritten (w ∷ own) key none = at (same_key key w.key) refl (unwritten own key none.1)
  where
    at : (t : Bool) → same_key key w.key ≡ t → is_written (edits_of own) key ≡ false → (t || is_written (edits_of own) key) ≡ false
    at true is rest = absurd (none.0 (key_is key w.key is))
    at false is rest = rest

-- at the clock nothing is next
none_next : (cs : List Change) (clock : ℕ) → AreBelow clock cs → (key : Key) → next_change cs key clock ≡ None
none_next cs clock low key = step (next_change cs key clock) refl
  where
    step : (n : Option ℕ) → next_change cs key clock ≡ n → n ≡ None
    step None is = refl
    step (Some e) is = absurd (omega (arith, next-le cs clock low key clock e is, next-above cs key clock e is))

-- a key that a commit does not write has a row after it exactly where it had one
pub row_stays : (cs : List Change) (clock txn : ℕ) (own : List Edit) → AreBelow clock cs → (key : Key) → is_written own key ≡ false → is_in_table cs clock key ≡ is_in_table (cs ++ numbered (clock + 1) txn own) (clock + 1) key
row_stays cs clock txn own low key none =
    ap (λ (o : Option Change). is_some (made o))
    (sym (last-append cs (numbered (clock + 1) txn own) key (clock + 1)
    ∙ ap (λ (o : Option Change). later o (last_at cs key (clock + 1))) (none_made own clock txn key none)
    ∙ last-later cs key clock (clock + 1) (none_next cs clock low key) (omega arith)))

pub txns_written : (txns : ℕ → Option Txn) (changes : List Change) (clock session number : ℕ) (writes : List Write) → AreChanges changes clock → AreTxns txns changes clock → MayCommit txns changes clock session writes
    → AreTxns (with txns session None) (changes ++ numbered (clock + 1) number (edits_of writes)) (clock + 1)
txns_written txns changes clock session number writes a j may = record {
  snapshots = λ s n is. let le = left.snapshots s n is in omega (arith, le);
  owners = left.owners;
  replaced = λ s. says_at s (s == session) refl;
  pinned = left.pinned;
  unchanged = λ s. un_at s (s == session) refl;
}
  where
    left : AreTxns (with txns session None) changes clock
    left = txns_removed txns changes clock session j

    own : List Edit
    own = edits_of writes

    later_changes : List Change
    later_changes = changes ++ numbered (clock + 1) number own

    -- a key of another transaction is not written
    other_key : (s : ℕ) → (s == session) ≡ false → (w : Write) → Contains (own_of (txns s)) w → is_written own w.key ≡ false
    other_key s e w there =
        unwritten writes w.key (recursion_from_All (λ (v : Write). v.key ≡ w.key → ⊥) writes
        (λ k d inside is. may.free k d inside s (other_session txns changes clock session j s e) (there.0, w, there.1, there.2, sym is)))

    says_at : (s : ℕ) (t : Bool) → (s == session) ≡ t → SayReplaced later_changes (clock + 1) (cond t None (txns s))
    says_at s true e = All-nil (SaysIt later_changes (clock + 1))
    says_at s false e = All-in (SaysIt changes clock) (SaysIt later_changes (clock + 1)) (own_of (txns s)) (λ w there is.
        is ∙ row_stays changes clock number own (below_of changes clock a) w.key (other_key s e w there))
        (j.replaced s)

    IsCalm : List Change → ℕ → Write → Type 0
    IsCalm all s w = is_above (newest w.key all) (snapshot_of (txns s)) ≡ false

    un_at : (s : ℕ) (t : Bool) → (s == session) ≡ t → AreUnchanged later_changes (cond t None (txns s))
    un_at s true e = All-nil (λ (w : Write). is_above (newest w.key later_changes) None ≡ false)
    un_at s false e = All-in (IsCalm changes s) (IsCalm later_changes s) (own_of (txns s)) (λ w there is.
        above_stays (clock + 1) number w.key changes own (snapshot_of (txns s)) (other_key s e w there) ∙ is)
        (j.unchanged s)

pub txns_committed : (txns : ℕ → Option Txn) (changes : List Change) (clock session number : ℕ) → AreChanges changes clock → AreTxns txns changes clock
    → AreTxns (with txns session None) (changes ++ numbered (clock + 1) number (edits_of (own_of (txns session)))) (clock + 1)
txns_committed txns changes clock session number a j = txns_written txns changes clock session number (own_of (txns session)) a j (own_commits txns changes clock session j)

-- ---- the clock rises

-- above all changes a key has a row exactly where it has one at the clock
table_stays : (cs : List Change) (clock now : ℕ) → AreChanges cs clock → clock ≤ now → (key : Key) → is_in_table cs clock key ≡ is_in_table cs now key
table_stays cs clock now a rises key = ap (λ (o : Option Change). is_some (made o)) (sym (last-later cs key clock now (none_next cs clock (below_of cs clock a) key) rises))

pub txns_risen : (txns : ℕ → Option Txn) (changes : List Change) (clock now : ℕ) → AreChanges changes clock → AreTxns txns changes clock → clock ≤ now → AreTxns txns changes now
txns_risen txns changes clock now a j rises = record {
  snapshots = λ s n is. let le = j.snapshots s n is in omega (arith, le, rises);
  owners = j.owners;
  replaced = λ s. All-in (SaysIt changes clock) (SaysIt changes now) (own_of (txns s)) (λ w there is. is ∙ table_stays changes clock now a rises w.key) (j.replaced s);
  pinned = j.pinned;
  unchanged = j.unchanged;
}

pub commits_risen : (txns : ℕ → Option Txn) (changes : List Change) (clock now session : ℕ) (writes : List Write) → AreChanges changes clock → clock ≤ now → MayCommit txns changes clock session writes
    → MayCommit txns changes now session writes
commits_risen txns changes clock now session writes a rises may = record {
  free = may.free;
  replaces = All-in (SaysIt changes clock) (SaysIt changes now) writes (λ w there is. is ∙ table_stays changes clock now a rises w.key) may.replaces;
}

-- ---- no transaction

-- past the places no session has one, which may then be gone
pub none_gone : (table : Table) → txn_of table ≡ with (txn_of table) (length table.txns) None
none_gone table = fun_ext (λ s. at s (s == length table.txns) refl)
  where
    at : (s : ℕ) (t : Bool) → (s == length table.txns) ≡ t → txn_of table s ≡ cond t None (txn_of table s)
    at s true is = let over : length table.txns ≤ s = grind (arith, nat_tests) in txn_at-past table.txns s over
    at s false is = refl

pub txns_none : (txns : ℕ → Option Txn) (changes : List Change) (clock : ℕ) → ((session : ℕ) → txns session ≡ None) → AreTxns txns changes clock
txns_none txns changes clock none = record {
  snapshots = λ s n is. absurd (cc (ap snapshot_of (none s)));
  owners = λ a b key ne p q. nothing key (subst (λ (o : Option Txn). Owns o key) (none a) p);
  replaced = λ s. subst (SayReplaced changes clock) (sym (none s)) (All-nil (λ (w : Write). w.replaces ≡ is_in_table changes clock w.key));
  pinned = λ s _. ap own_of (none s);
  unchanged = λ s. subst (AreUnchanged changes) (sym (none s)) (All-nil (λ (w : Write). is_above (newest w.key changes) None ≡ false));
}
  where
    nothing : (key : Key) → Owns None key → ⊥
    nothing key (k, w, within, at, is) = absurd (omega (arith, within))
