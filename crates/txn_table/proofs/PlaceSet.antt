-- What stands in the place of a session.
use Rattle.std.proofs.Common.{◌≡◌, ℕ, ◌<◌, ◌≤◌, List, [], ◌∷◌, length, get_or, Any, ap, ◌∙◌, arith, inl, inr, Option, None}
use Rattle.std.proofs.lemmas.Bool.{cases_lt}
use Rattle.std.proofs.lemmas.List.{get_or_default}
use Rattle.std.proofs.lemmas.Option.{slice_get-get_or, slice_get_past}
use Rattle.cs_types.specs.declared.Key.{Key}
use Rattle.write_set.specs.declared.write.Write.{Write}
use Rattle.write_set.specs.Writes.{IsFoundAt}
use Rattle.txn_table.specs.declared.txn.Txn.{Txn}
use Rattle.txn_table.specs.Txns.{txn_at, or_none, Owns}

pub txn_at-within : (places : List (Option Txn)) (i : ℕ) (d : Option Txn) → i < length places → txn_at places i ≡ get_or places i d
txn_at-within places i d lt = ap or_none (slice_get-get_or places i d lt)

-- a place that is not there has no transaction
pub txn_at-past : (places : List (Option Txn)) (i : ℕ) → length places ≤ i → txn_at places i ≡ None
txn_at-past places i over = ap or_none (slice_get_past places i over)

-- where no place has a transaction, no session has
pub none_at : (places : List (Option Txn)) → ((i : ℕ) (d : Option Txn) → i < length places → get_or places i d ≡ None) → (session : ℕ) → txn_at places session ≡ None
none_at places none session = elim (cases_lt session (length places)) [
  | inl within ↦ txn_at-within places session None within ∙ none session None within
  | inr over ↦ txn_at-past places session over
]

pub no_owner : (key : Key) → Owns None key → ⊥
no_owner key (k, write, within, at, is) = omega (arith, within)

-- a write of the key at a place is one of its own writes
pub owns_found : (own : List Write) (key : Key) (i : ℕ) → IsFoundAt own key i → Any (λ (write : Write). write.key ≡ key) own
owns_found [] key i found = absurd (omega (arith, found.within))
owns_found (v ∷ vs) key i found =
    let write = get_or (v ∷ vs) i v in
    (i, write, found.within, get_or_default (v ∷ vs) i write v found.within, found.is v)
