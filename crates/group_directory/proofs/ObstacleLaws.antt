-- Why a key has an obstacle.
use Rattle.std.proofs.Common.{◌≡◌, ◌≢◌, ℕ, ◌+◌, ◌-◌, ◌<◌, ◌≤◌, ◌⊎◌, List, [], ◌∷◌, length, get_or, take, refl, sym, ap, ◌∙◌, subst, inl, inr, Bool, true, false, ◌||◌, cond, arith, Option, None, Some, Any, All, is_some, is_eq, Greater}
use Rattle.std.specs.Prelude.{◌==◌, nat_lt}
use Rattle.std.specs.List.{list_any}
use Rattle.std.specs.FinMap as finite
use Rattle.std.proofs.lemmas.Cmp.{tied_itself}
use Rattle.std.proofs.lemmas.List.Folds.{list_any-from_Any, Any-from_list_any}
use Rattle.std.proofs.lemmas.Bool.{cases_lt}
use Rattle.std.proofs.lemmas.Bool.Decides.{nat_tests}
use Rattle.std.proofs.lemmas.List.{length-take-le, get_or_default, get_or-take, take_more}
use Rattle.std.proofs.lemmas.List.Elements.{All-push}
use Rattle.cs_types.specs.declared.Key.{Key}
use Rattle.cs_types.specs.Keys.{key_cmp, same_key}
use Rattle.cs_types.proofs.KeyLemmas.{key_total, one_key}
use Rattle.cs_model.specs.declared.entry.Refusal.{Refusal}
use Rattle.cs_model.specs.declared.entry.Refusal.TheVariants.{Reading, Valued, Locked, Changed, Duplicate, NoTxn, Memory}
use Rattle.cs_model.specs.Changes.{Edit, Change}
use Rattle.cs_model.specs.Obstacles.{owns, IsOwner, IsLocked, IsFree, IsObstacle, IsJudged}
use Rattle.cs_model.specs.State as model
use Rattle.cs_model.specs.State.{State}
use Rattle.edit_laws.specs.Edits.{edits_of}
use Rattle.delete_buffer.specs.Entries.{Ascend}
use Rattle.write_set.specs.declared.write.Write.{Write}
use Rattle.txn_table.specs.declared.txn.Txn.{Txn}
use Rattle.txn_table.specs.Txns.{Table, txn_of, own_of, Owns, OwnsAs, IsHolder}
use Rattle.version_store.specs.declared.NewestChange.{NewestChange}
use Rattle.version_store.specs.Newest.{Changes, IsApart, above}
use Rattle.version_store.proofs.RunLaws.{within_ends}
use Rattle.group_book.specs.Commits.{is_one_of}
use Rattle.group_directory.specs.Stands.{IsRecent}
use Rattle.group_directory.proofs.RecentLaws.{judged, named}
use Rattle.group_directory.specs.Obstacles.{txn_in, txns_of, IsChanged}

-- ---- whether a key is among own writes

among : (key : Key) (own : List Write) → list_any (λ (edit : Edit). same_key key edit.0) (edits_of own) ≡ list_any (λ (write : Write). same_key key write.key) own
among key [] = refl
among key (write ∷ own) = ap (λ b. same_key key write.key || b) (among key own)

same_itself : (key other : Key) → other ≡ key → same_key key other ≡ true
same_itself key other e = ap (same_key key) e ∙ ap is_eq (tied_itself key_total key)

owned : (own : List Write) (key : Key) → Any (λ (write : Write). write.key ≡ key) own → list_any (λ (write : Write). same_key key write.key) own ≡ true
owned own key (k, write, within, at, is) = list_any-from_Any (λ (w : Write). same_key key w.key) own (k, write, within, at, same_itself key write.key is)

pub owner_is : (txn : Option Txn) (key : Key) (number : ℕ) → OwnsAs txn key number → IsOwner (txn_in txn) key number
owner_is None key number h = absurd h
owner_is (Some txn) key number h = (among key txn.own ∙ owned txn.own key h.1, h.0)

pub locked_is : (table : Table) (key : Key) (but number : ℕ) → IsHolder (txn_of table) key but number → IsLocked (txns_of table) but key number
locked_is table key but number (other, apart, is) = (other, apart, owner_is (txn_of table other) key number is)

unowned : (txn : Option Txn) (key : Key) → (Owns txn key → ⊥) → owns (txn_in txn) key ≡ false
unowned None key h = refl
unowned (Some txn) key h = among key txn.own ∙ by (list_any (λ (write : Write). same_key key write.key) txn.own) refl
  where
    found : Any (λ (write : Write). same_key key write.key ≡ true) txn.own → Owns (Some txn) key
    found (k, write, within, at, is) = (k, write, within, at, sym (one_key key write.key is))

    by : (b : Bool) → list_any (λ (write : Write). same_key key write.key) txn.own ≡ b → b ≡ false
    by true e = absurd (h (found (Any-from_list_any (λ (w : Write). same_key key w.key) txn.own e)))
    by false e = refl

pub free_is : (table : Table) (key : Key) (but : ℕ) → ((other : ℕ) → other ≢ but → Owns (txn_of table other) key → ⊥) → IsFree (txns_of table) but key
free_is table key but h other apart = unowned (txn_of table other) key (h other apart)

-- ---- keys that ascend

-- no change is noted of one, where none is of a key from the first to the last
pub none_noted : (keys : List Key) → Ascend keys → (noted : Changes) (least greatest : Key) → least ≡ get_or keys 0 least → greatest ≡ get_or keys (length keys - 1) greatest → IsApart least greatest (finite.get noted)
    → All (λ (key : Key). finite.get noted key ≡ None) keys
none_noted keys up noted least greatest first last none k d within = none key (
  subst (λ (bound : Key). key_cmp bound key ≢ Greater) (sym first) (within_ends keys up least key among).0,
  subst (λ (bound : Key). key_cmp key bound ≢ Greater) (sym last) (within_ends keys up greatest key among).1,
)
  where
    key : Key
    key = get_or keys k d

    among : list_any (same_key (get_or keys k d)) keys ≡ true
    among = list_any-from_Any (same_key (get_or keys k d)) keys (k, get_or keys k d, within, get_or_default keys k (get_or keys k d) d within, ap is_eq (tied_itself key_total (get_or keys k d)))

-- ---- the obstacle of one key

-- what is noted above a snapshot is noted
noted_of : (s : ℕ) (note : Option NewestChange) (n : NewestChange) → above s note ≡ Some n → note ≡ Some n
noted_of s None n e = absurd (cc e)
noted_of s (Some note) n e = at (nat_lt s note.commit) e
  where
    at : (t : Bool) → cond t (Some note) None ≡ Some n → Some note ≡ Some n
    at true e = e
    at false e = absurd (cc e)

module _ (pruned s : ℕ) (noted : Changes) (changes : List Change) (key : Key) (recent : IsRecent pruned noted changes) (low : pruned ≤ s) where
  pub changed_at : (n : NewestChange) → above s (finite.get noted key) ≡ Some n → IsChanged changes s key (Some (Changed key n.txn n.commit))
  changed_at n e = (
    refl,
    judged pruned noted changes recent s low key ∙ ap is_some e,
    named pruned noted changes recent key n (noted_of s (finite.get noted key) n e),
  )

  pub unchanged_at : above s (finite.get noted key) ≡ None → IsChanged changes s key None
  unchanged_at e = judged pruned noted changes recent s low key ∙ ap is_some e

module _ (m : State) (session s : ℕ) (present : List Key) (key : Key) where
  pub locked_obstacle : (table : Table) (txn : ℕ) → m.txns ≡ txns_of table → IsLocked (txns_of table) session key txn → IsObstacle m session (Some s) (is_one_of present) key (Some (Locked key txn))
  locked_obstacle table txn same locked = (refl, subst (λ (txns : ℕ → Option model.Txn). IsLocked txns session key txn) (sym same) locked)

  module _ (table : Table) (same : m.txns ≡ txns_of table) (free : IsFree (txns_of table) session key) where
    free_in : IsFree m.txns session key
    free_in = subst (λ (txns : ℕ → Option model.Txn). IsFree txns session key) (sym same) free

    -- one that is found above the snapshot is the obstacle
    pub changed_obstacle : (found : Option Refusal) → is_some found ≡ true → IsChanged m.changes s key found → IsObstacle m session (Some s) (is_one_of present) key found
    changed_obstacle None some h = absurd (cc some)
    changed_obstacle (Some (Changed k txn commit)) some h = (h.0, free_in, h.1, h.2)
    changed_obstacle (Some (Reading number at)) some h = absurd h
    changed_obstacle (Some (Valued number row column)) some h = absurd h
    changed_obstacle (Some (Locked k txn)) some h = absurd h
    changed_obstacle (Some (Duplicate k)) some h = absurd h
    changed_obstacle (Some (NoTxn number)) some h = absurd h
    changed_obstacle (Some Memory) some h = absurd h

    -- and else that the key is present
    pub present_obstacle : (found : Option Refusal) → is_some found ≡ false → IsChanged m.changes s key found → is_one_of present key ≡ true → IsObstacle m session (Some s) (is_one_of present) key (Some (Duplicate key))
    present_obstacle None none h is = (refl, free_in, h, is)
    present_obstacle (Some refusal) none h is = absurd (cc none)

    pub no_obstacle : (found : Option Refusal) → is_some found ≡ false → IsChanged m.changes s key found → is_one_of present key ≡ false → IsObstacle m session (Some s) (is_one_of present) key None
    no_obstacle None none h is = (free_in, h, is)
    no_obstacle (Some refusal) none h is = absurd (cc none)

-- a key has none, where no other transaction has own writes, no change of it is noted and no key is present
pub never_obstacle : (m : State) (session s : ℕ) (key : Key) (table : Table) (pruned : ℕ) (noted : Changes) (present : List Key) → m.txns ≡ txns_of table → IsRecent pruned noted m.changes → pruned ≤ s
    → ((other : ℕ) → other ≢ session → own_of (txn_of table other) ≡ []) → finite.get noted key ≡ None → present ≡ [] → IsObstacle m session (Some s) (is_one_of present) key None
never_obstacle m session s key table pruned noted present same recent low bare fresh none = no_obstacle m session s present key table same free None refl unchanged (ap (λ keys. is_one_of keys key) none)
  where
    free : IsFree (txns_of table) session key
    free = free_is table key session (λ other apart owns. bare_owns (own_of (txn_of table other)) (bare other apart) owns)
      where
        bare_owns : (own : List Write) → own ≡ [] → Any (λ (write : Write). write.key ≡ key) own → ⊥
        bare_owns own is (k, write, within, at, h) = omega (arith, within, ap length is)

    unchanged : IsChanged m.changes s key None
    unchanged = unchanged_at pruned s noted m.changes key recent low (ap (above s) fresh)

-- ---- the least key that has one

same_never_above : (key : Key) → key_cmp key key ≢ Greater
same_never_above key e = cc (tied_itself key_total key, e)

module _ (Is : Key → Option Refusal → Type 0) (keys : List Key) (up : Ascend keys) (i : ℕ) (d : Key) (within : i < length keys) (before : All (λ key. Is key None) (take i keys)) where
  -- the keys before it have none
  pub first_judged : (found : Option Refusal) → is_some found ≡ true → Is (get_or keys i d) found → IsJudged Is keys found
  first_judged None some is = absurd (cc some)
  first_judged (Some refusal) some is = record {
    key = get_or keys i d;
    listed = (i, within, get_or_default keys i (get_or keys i d) d within);
    is = is;
    least = λ k e l. at k e l (cases_lt k i);
  }
    where
      at : (k : ℕ) (e : Key) → k < length keys → (k < i) ⊎ (i ≤ k) → Is (get_or keys k e) None ⊎ (key_cmp (get_or keys i d) (get_or keys k e) ≢ Greater)
      at k e l (inl less) = inl (subst (λ key. Is key None) (get_or-take i keys k e less) (before k e (let n = length-take-le i keys (omega (arith, within)) in omega (arith, n, less))))
      at k e l (inr more) = inr (λ greater. later k e l more (k == i) refl greater)
        where
          later : (k : ℕ) (e : Key) → k < length keys → i ≤ k → (t : Bool) → (k == i) ≡ t → key_cmp (get_or keys i d) (get_or keys k e) ≡ Greater → ⊥
          later k e l more true is greater =
              let same : k ≡ i = grind (arith, nat_tests, is) in
              same_never_above (get_or keys i d) (ap (key_cmp (get_or keys i d)) (get_or_default keys i d e within ∙ ap (λ n. get_or keys n e) (sym same)) ∙ greater)
          later k e l more false is greater =
              let above : i < k = grind (arith, nat_tests, is, more) in
              cc (ap (λ key. key_cmp key (get_or keys k e)) (get_or_default keys i d e within) ∙ up i k e above l, greater)

  pub next_judged : (found : Option Refusal) → is_some found ≡ false → Is (get_or keys i d) found → All (λ key. Is key None) (take (i + 1) keys)
  next_judged None none is = rw (take_more keys i d within) (All-push (λ key. Is key None) (take i keys) (get_or keys i d) before is)
  next_judged (Some refusal) none is = absurd (cc none)
