-- Worked laws: two commits of one key, and what agrees with them.
use Rattle.std.proofs.Common.{◌≡◌, ℕ, ◌≤◌, Bool, true, false, cond, List, [], ◌∷◌, ◌++◌, Option, Some, None, pos, refl, arith}
use Rattle.std.specs.Prelude.{◌==◌, ◌≢◌}
use Rattle.std.specs.FinMap as finite
use Rattle.std.proofs.lemmas.List.Elements.{All-nil, All-cons}
use Rattle.std.proofs.lemmas.List.Sorted.{IsNonDecreasingBy-short}
use Rattle.cs_types.specs.declared.Key.{Key}
use Rattle.cs_types.specs.declared.Value.{Value}
use Rattle.cs_types.specs.declared.Value.TheVariants.{Null, Number}
use Rattle.cs_model.specs.Changes.{Edit, Change, table, newest}
use Rattle.cs_model.specs.Obstacles.{is_above, has_row}
use Rattle.cs_model.specs.Steps.{numbered}
use Rattle.write_set.specs.declared.write.Write.{Write}
use Rattle.txn_table.specs.declared.txn.Txn.{Txn}
use Rattle.txn_table.specs.Txns.{with, opened, fixed, widened, Owns}
use Rattle.version_store.specs.Newest.{Changes}
use Rattle.version_store.proofs.Laid.{get-noted}
use Rattle.group_book.specs.Stocks.{AreChanges}
use Rattle.group_view.specs.Parts.{Rowed}
use Rattle.group_view.specs.Laws.{IsMadeRow}
use Rattle.group_directory.specs.Stands.{IsRecent, AreTxns}
use Rattle.group_directory.specs.Laws.{noted_by, MayStage}
use Rattle.group_directory.proofs.RecentLaws.{named, recent_none, recent_new}
use Rattle.group_directory.proofs.TxnLaws.{txns_none, txns_opened, txns_fixed, txns_staged, txns_committed}

abbrev seven : Key
seven = record { 0 = pos 7 }

abbrev row : ℕ → List Value
row n = Number (pos 7) ∷ Number (pos n) ∷ []

-- transaction 4 commits a row, and transaction 5 another one
abbrev first : List Edit
first = (seven, Some (row 1)) ∷ []

abbrev second : List Edit
second = (seven, Some (row 2)) ∷ []

abbrev one : List Change
one = numbered 1 4 first

abbrev two : List Change
two = one ++ numbered 2 5 second

-- ---- rows

abbrev version : ℕ → List Value → Rowed
version begin cells = record { version = record { key = seven; begin = begin; end = None }; row = cells }

old_row : IsMadeRow 3 two (version 1 (row 1))
old_row = refl

new_row : IsMadeRow 3 two (version 2 (row 2))
new_row = refl

-- NULL stands past a row's end
short_row : IsMadeRow 3 two (version 2 (Number (pos 7) ∷ Number (pos 2) ∷ Null ∷ []))
short_row = refl

not_row : IsMadeRow 3 two (version 2 (row 1)) → ⊥
not_row is = cc

-- ---- newest changes

abbrev noted : Changes
noted = noted_by (record { commit = 2; txn = 5 }) (noted_by (record { commit = 1; txn = 4 }) finite.empty (seven ∷ [])) (seven ∷ [])

recent : IsRecent 0 noted two
recent = recent_new 0 (noted_by (record { commit = 1; txn = 4 }) finite.empty (seven ∷ [])) one (recent_new 0 finite.empty [] (recent_none 0) 0 4 first) 1 5 second

apart : (a b : ℕ) → a ≡ 2 → b ≡ 1 → a ≡ b → ⊥
apart a b p q same = omega arith

-- a note of the first commit alone is not that of both
stale : IsRecent 0 (noted_by (record { commit = 1; txn = 4 }) finite.empty (seven ∷ [])) two → ⊥
stale r = apart 2 1 refl refl (named 0 (noted_by (record { commit = 1; txn = 4 }) finite.empty (seven ∷ [])) two r seven (record { commit = 1; txn = 4 }) (get-noted (record { commit = 1; txn = 4 }) finite.empty (seven ∷ []) seven)).1

judged : (is_above (newest seven two) (Some 1) ≡ true) × (is_above (newest seven two) (Some 2) ≡ false)
judged = (refl, refl)

-- ---- transactions

-- session 3 opens transaction 4 and writes the first row at the snapshot 0
abbrev begun : ℕ → Option Txn
begun = with (λ session. None) 3 (Some (opened 4 1))

abbrev pinned : ℕ → Option Txn
pinned = with begun 3 (fixed 0 (begun 3))

abbrev writes : List Write
writes = record { key = seven; row = Some (row 1); replaces = false } ∷ []

unowned : (other : ℕ) → Owns (pinned other) seven → ⊥
unowned other owns = at (other == 3) owns
  where
    at : (t : Bool) → Owns (cond t (fixed 0 (begun 3)) (cond t (Some (opened 4 1)) None)) seven → ⊥
    at true (k, write, within, is, same) = absurd (omega (arith, within))
    at false (k, write, within, is, same) = absurd (omega (arith, within))

may : MayStage pinned [] 3 0 writes
may = record {
  snapshot = refl;
  free = All-cons (λ (write : Write). (other : ℕ) → other ≢ 3 → Owns (pinned other) write.key → ⊥) (record { key = seven; row = Some (row 1); replaces = false }) [] (λ other ne owns. unowned other owns) (All-nil (λ (write : Write). (other : ℕ) → other ≢ 3 → Owns (pinned other) write.key → ⊥));
  quiet = All-cons (λ (write : Write). is_above (newest write.key []) (Some 0) ≡ false) (record { key = seven; row = Some (row 1); replaces = false }) [] refl (All-nil (λ (write : Write). is_above (newest write.key []) (Some 0) ≡ false));
  replaces = All-cons (λ (write : Write). write.replaces ≡ has_row (table [] 0) write.key) (record { key = seven; row = Some (row 1); replaces = false }) [] refl (All-nil (λ (write : Write). write.replaces ≡ has_row (table [] 0) write.key));
}

none_changed : AreChanges [] 0
none_changed = record { below = All-nil (λ (change : Change). change.commit ≤ 0); ascend = IsNonDecreasingBy-short (λ (change : Change). change.commit) [] (omega arith) }

staged_agree : AreTxns (with pinned 3 (widened writes (pinned 3))) [] 0
staged_agree = txns_staged pinned [] 0 3 0 writes none_changed (txns_fixed begun [] 0 3 (txns_opened (λ session. None) [] 0 3 (txns_none (λ session. None) [] 0 (λ session. refl)) 4 1)) may

committed_agree : AreTxns (with (with pinned 3 (widened writes (pinned 3))) 3 None) one 1
committed_agree = txns_committed (with pinned 3 (widened writes (pinned 3))) [] 0 3 4 none_changed staged_agree
