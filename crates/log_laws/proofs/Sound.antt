-- Every state of a legal log is sound.
use Rattle.std.proofs.Common.{◌≡◌, ◌≢◌, ℕ, ◌+◌, ◌≤◌, List, [], ◌∷◌, ◌++◌, length, refl, sym, ap, subst, ◌∙◌, cond, Bool, true, false, arith, is_some, fold, ◌⊎◌, ◌||◌, is_eq, All, Option, None, Some}
use Rattle.std.specs.Prelude.{◌==◌, ◌&&◌}
use Rattle.std.specs.List.Sorted.{IsStrictlySortedBy}
use Rattle.std.specs.List.{AllByRecursion}
use Rattle.std.specs.declared.cmp.Ordering.TheVariants.{Less}
use Rattle.std.proofs.lemmas.List.{length-append}
use Rattle.std.proofs.lemmas.List.Elements.{filter-append, All-head, All-tail, All-weaker}
use Rattle.std.proofs.lemmas.List.Sums.{fold-append}
use Rattle.std.proofs.lemmas.Bool.Decides.{nat_tests}
use Rattle.cs_types.specs.declared.Key.{Key}
use Rattle.cs_types.specs.Keys.{key_cmp, same_key}
use Rattle.cs_types.proofs.KeyLemmas.{one_key}
use Rattle.cs_model.specs.declared.entry.Entry.{Entry}
use Rattle.cs_model.specs.declared.entry.Entry.TheVariants.{Start, Finish, End, Mover}
use Rattle.cs_model.specs.Actors.{actor_of}
use Rattle.cs_model.specs.Changes.{Edit, Change, newest}
use Rattle.cs_model.specs.State.{Txn, Half, State, Begin}
use Rattle.cs_model.specs.Obstacles.{keys_of, owns, is_above, IsFree}
use Rattle.cs_model.specs.Steps.{IsStep, Leads, numbered}
use Rattle.log_laws.specs.Laws.{AreOwners, changes_at, AreOnce, IsUnchanged, IsPinnedHalf, IsSound}
use Rattle.log_laws.proofs.Framed.{framed, clock_step}
use Rattle.log_laws.proofs.Entries.{none_is}
use Rattle.log_laws.proofs.Numbers.{all_drawn, ascends_step, snap_step, commits_of}
use Rattle.log_laws.proofs.Owners.{has, own_gains, owners_at, not_true, equal, apart_is}
use Rattle.log_laws.proofs.StartedOn.{pinned_after, pinned_on}
use Rattle.log_laws.proofs.Written.{IsKept, Writes, writes_step}

-- ---- a commit changes a key once

-- changes of other commits
none_of : (commit : ℕ) (key : Key) (changes : List Change) → All (λ (change : Change). change.commit ≢ commit) changes → changes_at commit key changes ≡ []
none_of commit key [] apart = refl
none_of commit key (change ∷ changes) apart = at (change.commit == commit) refl (none_of commit key changes (All-tail (λ (change : Change). change.commit ≢ commit) change changes apart))
  where
    at : (b : Bool) → (change.commit == commit) ≡ b → changes_at commit key changes ≡ [] → cond (b && same_key key change.edit.0) (change ∷ changes_at commit key changes) (changes_at commit key changes) ≡ []
    at true e rest = absurd (All-head (λ (change : Change). change.commit ≢ commit) change changes apart (equal change.commit commit e))
    at false e rest = rest

none_beside : {X : Type 0} (b : Bool) (xs ys : List X) → cond (b && false) xs ys ≡ ys
none_beside true xs ys = refl
none_beside false xs ys = refl

-- changes of greater keys
none_above : (k t commit : ℕ) (key : Key) (own : List Edit) → AllByRecursion (λ other. key_cmp key other ≡ Less) (keys_of own) → changes_at commit key (numbered k t own) ≡ []
none_above k t commit key [] above = refl
none_above k t commit key (edit ∷ own) above =
    let rest = changes_at commit key (numbered k t own) in
    ap (λ r. cond ((k == commit) && is_eq r) (record { commit = k; txn = t; edit = edit } ∷ rest) rest) above.0
    ∙ none_beside (k == commit) (record { commit = k; txn = t; edit = edit } ∷ rest) rest
    ∙ none_above k t commit key own above.1

once_new : (k t commit : ℕ) (key : Key) (own : List Edit) → IsStrictlySortedBy key_cmp (keys_of own) → length (changes_at commit key (numbered k t own)) ≤ 1
unfolding IsStrictlySortedBy
once_new k t commit key [] up = omega arith
once_new k t commit key (edit ∷ own) up = at (k == commit) (same_key key edit.0) refl (once_new k t commit key own up.1)
  where
    rest : List Change
    rest = changes_at commit key (numbered k t own)

    at : (b c : Bool) → same_key key edit.0 ≡ c → length rest ≤ 1 → length (cond (b && c) (record { commit = k; txn = t; edit = edit } ∷ rest) rest) ≤ 1
    at true true e few =
        let is : edit.0 ≡ key = sym (one_key key edit.0 e) in
        let none : length rest ≡ 0 = ap length (none_above k t commit key own (subst (λ x. AllByRecursion (λ other. key_cmp x other ≡ Less) (keys_of own)) is up.0)) in
        omega (arith, none)
    at true false e few = few
    at false c e few = few

once_on : (changes : List Change) (clock t : ℕ) (own : List Edit) → All (λ (change : Change). change.commit ≤ clock) changes → IsStrictlySortedBy key_cmp (keys_of own)
    → ((commit : ℕ) (key : Key) → length (changes_at commit key changes) ≤ 1) → (commit : ℕ) (key : Key) → length (changes_at commit key (changes ++ numbered (clock + 1) t own)) ≤ 1
once_on changes clock t own below up once commit key = at (clock + 1 == commit) refl
  where
    new : List Change
    new = numbered (clock + 1) t own

    split : length (changes_at commit key (changes ++ new)) ≡ length (changes_at commit key changes) + length (changes_at commit key new)
    split = ap length (filter-append (λ (change : Change). (change.commit == commit) && same_key key change.edit.0) changes new) ∙ length-append (changes_at commit key changes) (changes_at commit key new)

    at : (b : Bool) → (clock + 1 == commit) ≡ b → length (changes_at commit key (changes ++ new)) ≤ 1
    at true e =
        let is : clock + 1 ≡ commit = equal (clock + 1) commit e in
        let none = ap length (none_of commit key changes (All-weaker (λ (change : Change). change.commit ≤ clock) (λ (change : Change). change.commit ≢ commit) (λ change le same. omega (arith, is, le, same)) changes below)) in
        let few = once_new (clock + 1) t commit key own up in
        omega (arith, split, none, few)
    at false e =
        let not : clock + 1 ≢ commit = apart_is (clock + 1) commit e in
        let none = ap length (none_of commit key new (All-weaker (λ (change : Change). change.commit ≡ clock + 1) (λ (change : Change). change.commit ≢ commit) (λ change is same. not (sym is ∙ same)) new (commits_of (clock + 1) t own))) in
        let few = once commit key in
        omega (arith, split, none, few)

-- ---- keys that an event does not change

neither : (a b : Bool) → (a || b) ≡ false → (a ≡ false) × (b ≡ false)
neither true b e = absurd (cc e)
neither false b e = (refl, e)

newest_on : (k t : ℕ) (key : Key) (own : List Edit) (last : Option Change) → has own key ≡ false
    → fold (λ last (change : Change). cond (same_key key change.edit.0) (Some change) last) last (numbered k t own) ≡ last
newest_on k t key [] last not = refl
newest_on k t key (edit ∷ own) last not =
    let both = neither (same_key key edit.0) (has own key) not in
    ap (λ b. fold (λ last (change : Change). cond (same_key key change.edit.0) (Some change) last) (cond b (Some (record { commit = k; txn = t; edit = edit })) last) (numbered k t own)) both.0
    ∙ newest_on k t key own last both.1

newest_stays : (changes : List Change) (k t : ℕ) (key : Key) (own : List Edit) → has own key ≡ false → newest key (changes ++ numbered k t own) ≡ newest key changes
newest_stays changes k t key own not =
    fold-append (λ last (change : Change). cond (same_key key change.edit.0) (Some change) last) None changes (numbered k t own) ∙ newest_on k t key own (newest key changes) not

unchanged_on : (changes : List Change) (k t : ℕ) (own : List Edit) (o : Option Txn) → ((key : Key) → owns o key ≡ true → has own key ≡ false) → IsUnchanged changes o → IsUnchanged (changes ++ numbered k t own) o
unchanged_on changes k t own None apart un = tt
unchanged_on changes k t own (Some txn) apart un = λ key h. ap (λ c. is_above c txn.snapshot) (newest_stays changes k t key own (apart key h)) ∙ un key h

-- ---- each part

pub writes_sound : (begin : Begin) (m : State) (e : Entry) (after : State) → IsStep begin m e after → IsSound m → Writes m (actor_of e) after
writes_sound begin m e after x p = writes_step begin m e after x (p.by_key (actor_of e), p.pinned (actor_of e), p.unchanged (actor_of e)) (p.halves (actor_of e))

once_step : (begin : Begin) (m : State) (e : Entry) (after : State) → IsStep begin m e after → IsSound m → AreOnce after
once_step begin m e after x p = λ commit key.
    let w = writes_sound begin m e after x p in
    subst (λ changes. length (changes_at commit key changes) ≤ 1) (sym w.changes) (once_on m.changes m.clock w.txn w.own p.commits w.ascend p.once commit key)

-- what others own is not changed
apart_step : (m : State) (n s : ℕ) (own : List Edit) → AreOwners m → (n == s) ≡ false → ((key : Key) → has own key ≡ true → (owns (m.txns n) key ≡ true) ⊎ IsFree m.txns n key)
    → (key : Key) → owns (m.txns s) key ≡ true → has own key ≡ false
apart_step m n s own owners ne mine key h = not_true (has own key) (λ t. cc (sym h, own_gains m n s key owners ne (mine key t)))

kept_step : (begin : Begin) (m : State) (e : Entry) (after : State) → IsStep begin m e after → IsSound m → (s : ℕ) → IsKept after.changes (after.txns s)
kept_step begin m e after x p s = at (s == actor_of e) refl (writes_sound begin m e after x p)
  where
    at : (b : Bool) → (s == actor_of e) ≡ b → Writes m (actor_of e) after → IsKept after.changes (after.txns s)
    at true t w = subst (λ n. IsKept after.changes (after.txns n)) (sym (equal s (actor_of e) t)) w.kept
    at false t w =
        let f = framed begin m e after x in
        let ne : (actor_of e == s) ≡ false = grind (arith, nat_tests, t) in
        let un : IsUnchanged after.changes (m.txns s) =
        subst (λ changes. IsUnchanged changes (m.txns s)) (sym w.changes)
        (unchanged_on m.changes (m.clock + 1) w.txn w.own (m.txns s) (apart_step m (actor_of e) s w.own p.owners ne w.mine) (p.unchanged s)) in
        subst (IsKept after.changes) (sym (f.txns s t)) (p.by_key s, p.pinned s, un)

-- ---- statements that are half done

half_on : (h : Option Half) (o : Option Txn) (a b : ℕ) → a ≤ b → IsPinnedHalf h o a → IsPinnedHalf h o b
half_on None o a b le p = tt
half_on (Some half) o a b le p = λ t short. pinned_on o a b le (p t short)

half_none : (h : Option Half) (o : Option Txn) (clock : ℕ) → is_some h ≡ false → IsPinnedHalf h o clock
half_none h o clock e = subst (λ x. IsPinnedHalf x o clock) (sym (none_is h e)) tt

half_own : (begin : Begin) (m : State) (e : Entry) (after : State) → IsStep begin m e after → IsSound m → IsPinnedHalf (after.half (actor_of e)) (after.txns (actor_of e)) after.clock
half_own begin m (Start s b short) after x p =
    subst (λ (z : State). IsPinnedHalf (z.half s) (z.txns s) z.clock) (sym x.2) (pinned_after m s b.value short (p.snapshots s))
half_own begin m (Finish s r) after x p = half_none (after.half s) (after.txns s) after.clock (framed begin m (Finish s r) after x).half
half_own begin m (End s) after x p = half_none (after.half s) (after.txns s) after.clock (framed begin m (End s) after x).half
half_own begin m (Mover actor work) after x p =
    subst (λ (z : State). IsPinnedHalf (z.half (actor_of (Mover actor work))) (z.txns (actor_of (Mover actor work))) z.clock) (sym x) (p.halves (actor_of (Mover actor work)))

halves_step : (begin : Begin) (m : State) (e : Entry) (after : State) → IsStep begin m e after → IsSound m → (s : ℕ) → IsPinnedHalf (after.half s) (after.txns s) after.clock
halves_step begin m e after x p s = at (s == actor_of e) refl
  where
    at : (b : Bool) → (s == actor_of e) ≡ b → IsPinnedHalf (after.half s) (after.txns s) after.clock
    at true t = subst (λ n. IsPinnedHalf (after.half n) (after.txns n) after.clock) (sym (equal s (actor_of e) t)) (half_own begin m e after x p)
    at false t =
        let f = framed begin m e after x in
        subst (λ h. IsPinnedHalf h (after.txns s) after.clock) (sym (f.halves s t))
        (subst (λ o. IsPinnedHalf (m.half s) o after.clock) (sym (f.txns s t)) (half_on (m.half s) (m.txns s) m.clock after.clock ((clock_step m e after f).1) (p.halves s)))

-- ---- the law

-- an event keeps a sound state sound
pub sound_step : (begin : Begin) (m : State) (e : Entry) (after : State) → IsStep begin m e after → IsSound m → IsSound after
sound_step begin m e after x p =
    let f = framed begin m e after x in
    let numbers = all_drawn m e after f (record { open_txns = p.drawn; changes = p.txns }) in
    let ascends = ascends_step m e after f (record { below = p.commits; up = p.ascend }) in
    record {
      owners = λ a b key ne h. owners_at begin m e after x p.owners a b key (a == actor_of e) (b == actor_of e) refl refl ne h;
      drawn = numbers.open_txns;
      txns = numbers.changes;
      snapshots = λ s. snap_step s m e after f (p.snapshots s);
      commits = ascends.below;
      ascend = ascends.up;
      once = once_step begin m e after x p;
      by_key = λ s. (kept_step begin m e after x p s).0;
      pinned = λ s. (kept_step begin m e after x p s).1;
      unchanged = λ s. (kept_step begin m e after x p s).2;
      halves = halves_step begin m e after x p;
    }

pub sound_from : (begin : Begin) (m after : State) (es : List Entry) → Leads begin m es after → IsSound m → IsSound after
sound_from begin m after [] l p = subst IsSound (sym l) p
sound_from begin m after (e ∷ es) l p = sound_from begin l.0 after es l.2 (sound_step begin m e l.0 l.1 p)
