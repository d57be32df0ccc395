-- How a write is judged: by the keys of its writes, as by those of its edits.
use Rattle.std.proofs.Common.{◌≡◌, ℕ, ◌⊎◌, List, [], ◌∷◌, filter, get_or, refl, sym, ap, ◌∙◌, inl, inr, cond, Bool, true, false, ◌&&◌, ◌||◌, arith, Option, None, Some, All, zero, suc, is_eq}
use Rattle.std.specs.Prelude.{◌≢◌, Contains}
use Rattle.std.specs.List.{list_any}
use Rattle.std.specs.declared.cmp.Ordering.TheVariants.{Greater}
use Rattle.std.proofs.lemmas.Cmp.{tied_itself}
use Rattle.std.proofs.lemmas.List.Elements.{All-contains}
use Rattle.cs_types.specs.declared.Key.{Key}
use Rattle.cs_types.specs.Keys.{key_cmp, same_key}
use Rattle.cs_types.proofs.KeyLemmas.{key_total, one_key}
use Rattle.cs_model.specs.declared.entry.Refusal.{Refusal}
use Rattle.cs_model.specs.declared.entry.Refusal.TheVariants.{Reading, Valued, Locked, Changed, Duplicate, NoTxn, Memory}
use Rattle.cs_model.specs.Obstacles.{IsObstacle, IsJudged}
use Rattle.cs_model.specs.State.{State}
use Rattle.group_book.specs.Commits.{is_one_of}

-- ---- a key among those that pass a test

among_kept : (test : Key → Bool) (keys : List Key) (key : Key) → list_any (same_key key) (filter test keys) ≡ (test key && list_any (same_key key) keys)
among_kept test [] key = by (test key)
  where
    by : (t : Bool) → false ≡ (t && false)
    by true = refl
    by false = refl
among_kept test (x ∷ keys) key = by (test x) (same_key key x) refl refl (among_kept test keys key)
  where
    rest : Bool
    rest = list_any (same_key key) keys

    and_false : (t : Bool) → t ≡ false → (b : Bool) → (t && b) ≡ false
    and_false t e b = ap (λ s. s && b) e

    and_true : (t : Bool) → t ≡ true → (b : Bool) → (t && (true || b)) ≡ true
    and_true t e b = ap (λ s. s && (true || b)) e

    by : (t u : Bool) → test x ≡ t → same_key key x ≡ u → list_any (same_key key) (filter test keys) ≡ (test key && list_any (same_key key) keys)
        → list_any (same_key key) (cond t (x ∷ filter test keys) (filter test keys)) ≡ (test key && (u || list_any (same_key key) keys))
    by true true e s ih = ap (λ b. b || list_any (same_key key) (filter test keys)) s ∙ sym (and_true (test key) (ap test (one_key key x s) ∙ e) (list_any (same_key key) keys))
    by true false e s ih = ap (λ b. b || list_any (same_key key) (filter test keys)) s ∙ ih
    by false true e s ih =
        let none = ap test (one_key key x s) ∙ e in ih ∙ and_false (test key) none (list_any (same_key key) keys) ∙ sym (and_false (test key) none (true || list_any (same_key key) keys))
    by false false e s ih = ih

listed_is : (keys : List Key) (key : Key) → Contains keys key → list_any (same_key key) keys ≡ true
listed_is [] key c = absurd (omega (arith, c.1))
listed_is (x ∷ keys) key (zero, within, is) = ap (λ b. b || list_any (same_key key) keys) (ap (same_key key) is ∙ ap is_eq (tied_itself key_total key))
listed_is (x ∷ keys) key (suc k, within, is) = by (same_key key x) (listed_is keys key (k, omega (arith, within), is))
  where
    by : (b : Bool) → list_any (same_key key) keys ≡ true → (b || list_any (same_key key) keys) ≡ true
    by true e = refl
    by false e = e

pub kept_is : (test : Key → Bool) (keys : List Key) (key : Key) → Contains keys key → is_one_of (filter test keys) key ≡ test key
kept_is test keys key c = among_kept test keys key ∙ ap (λ b. test key && b) (listed_is keys key c) ∙ by (test key)
  where
    by : (t : Bool) → (t && true) ≡ t
    by true = refl
    by false = refl

-- ---- other keys, and another test that is the same at them

module _ (m : State) (session : ℕ) (snapshot : Option ℕ) (test other : Key → Bool) where
  alike : (key : Key) (found : Option Refusal) → test key ≡ other key → IsObstacle m session snapshot test key found → IsObstacle m session snapshot other key found
  alike key None e h = (h.0, h.1, sym e ∙ h.2)
  alike key (Some (Locked k txn)) e h = h
  alike key (Some (Changed k txn commit)) e h = h
  alike key (Some (Duplicate k)) e h = (h.0, h.1, h.2, sym e ∙ h.3)
  alike key (Some (Reading number at)) e h = h
  alike key (Some (Valued number row column)) e h = h
  alike key (Some (NoTxn number)) e h = h
  alike key (Some Memory) e h = h

  module _ (keys keys' : List Key) (same : (key : Key) → Contains keys key → test key ≡ other key) (from : All (Contains keys) keys') (to : All (Contains keys') keys) where
    none_over : All (λ key. IsObstacle m session snapshot test key None) keys → All (λ key. IsObstacle m session snapshot other key None) keys'
    none_over h k d lt =
        let c = from k d lt in
        alike (get_or keys' k d) None (same (get_or keys' k d) c) (All-contains (λ key. IsObstacle m session snapshot test key None) keys (get_or keys' k d) h c)

    pub judged_over : (found : Option Refusal) → IsJudged (IsObstacle m session snapshot test) keys found → IsJudged (IsObstacle m session snapshot other) keys' found
    judged_over None h = none_over h
    judged_over (Some refusal) h = record {
      key = h.key;
      listed = All-contains (Contains keys') keys h.key to h.listed;
      is = alike h.key (Some refusal) (same h.key h.listed) h.is;
      least = λ k d lt.
          let c = from k d lt in
          moved (get_or keys' k d) c (All-contains (λ x. IsObstacle m session snapshot test x None ⊎ (key_cmp h.key x ≢ Greater)) keys (get_or keys' k d) h.least c);
    }
      where
        moved : (key : Key) → Contains keys key → IsObstacle m session snapshot test key None ⊎ (key_cmp h.key key ≢ Greater) → IsObstacle m session snapshot other key None ⊎ (key_cmp h.key key ≢ Greater)
        moved key c (inl none) = inl (alike key None (same key c) none)
        moved key c (inr above) = inr above
