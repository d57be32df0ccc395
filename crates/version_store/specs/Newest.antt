-- The newest changes, as a finite map from keys to changes.
use Rattle.std.specs.Prelude.{◌≡◌, ◌≢◌, ℕ, ◌<◌, ◌≤◌, max, ℤ, nat_lt, if◌then◌else◌, List, fold, All, Option, Some, None, refl}
use Rattle.std.specs.List.{AllPairs}
use Rattle.std.specs.Option.{ForSome}
use Rattle.std.specs.declared.cmp.Ordering.TheVariants.{Less, Greater}
use Rattle.std.specs.Coded.{Coded, code_by, coded×, coded_ℕ, coded_ℤ}
use Rattle.std.specs.FinMap as map
use Rattle.cs_types.specs.declared.Key.{Key}
use Rattle.cs_types.specs.Keys.{key_cmp}
use Rattle.version_store.specs.declared.NewestChange.{NewestChange}

-- by key its newest change
abbrev pub Changes : Type 0
Changes = map.FinMap key_cmp NewestChange

-- what contracts see: the newest changes; how many more keys find room without memory, one by one or as one run; and how many
-- changes are held, of which a key may have several
pub record Newest : Type 0 where
  pub changes : Changes
  pub spare : ℕ
  pub run : ℕ
  pub held : ℕ

-- ---- the keys of a commit

-- each key is below those after it
abbrev pub Ascend : List Key → Type 0
Ascend keys = AllPairs (λ a b. key_cmp a b ≡ Less) keys

-- with this one as the newest change of each of the keys
abbrev pub noted_by : NewestChange → Changes → List Key → Changes
noted_by note changes keys = fold (λ noted key. map.insert noted key note) changes keys

-- what is noted of these keys was committed before this commit
abbrev pub AreBefore : ℕ → List Key → Changes → Type 0
AreBefore commit keys changes = All (λ key. ForSome (map.get changes key) (λ change. change.commit < commit)) keys

-- so many keys of one commit find room without memory
abbrev pub HasRoom : ℕ → Newest → Type 0
HasRoom n newest = n ≤ max newest.spare newest.run

-- ---- keys between two bounds

-- the key is not below the least one, nor above the greatest
abbrev pub IsBetween : Key → Key → Key → Type 0
IsBetween least greatest key = (key_cmp least key ≢ Greater) × (key_cmp key greatest ≢ Greater)

-- no key between the two has a change
abbrev pub IsApart : Key → Key → (Key → Option NewestChange) → Type 0
IsApart least greatest change_of = (key : Key) → IsBetween least greatest key → change_of key ≡ None

-- ---- a prune

-- the change, where its commit number is above the floor
abbrev pub above : ℕ → Option NewestChange → Option NewestChange
above floor None = None
above floor (Some change) = if nat_lt floor change.commit then Some change else None

-- exactly the changes above the floor are left
abbrev pub KeepsAbove : ℕ → Changes → Changes → Type 0
KeepsAbove floor old new = (key : Key) → map.get new key ≡ above floor (map.get old key)

-- ---- how they are stored

abbrev pub key_code : Coded Key
key_code = code_by ℤ coded_ℤ (λ key. key.0) (λ n. record { 0 = n }) (λ _. refl)

abbrev pub change_code : Coded NewestChange
change_code = code_by (ℕ × ℕ) (coded× coded_ℕ coded_ℕ) (λ change. (change.commit, change.txn)) (λ p. record { commit = p.0; txn = p.1 }) (λ _. refl)

abbrev pub newest_code : Coded Newest
newest_code =
    code_by (Changes × (ℕ × (ℕ × ℕ))) (coded× (map.code key_code change_code) (coded× coded_ℕ (coded× coded_ℕ coded_ℕ)))
    (λ n. (n.changes, (n.spare, (n.run, n.held)))) (λ p. record { changes = p.0; spare = p.1.0; run = p.1.1.0; held = p.1.1.1 }) (λ _. refl)
