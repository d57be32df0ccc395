-- What becomes of the merge of two parts where a part changes.
use Rattle.std.proofs.Common.{◌≡◌, ℕ, List, [], ◌∷◌, ◌++◌, not, sym, subst, append_assoc, All, Contains, arith}
use Rattle.std.specs.List.Sorted.{IsPermutation}
use Rattle.std.proofs.lemmas.List.Elements.{All-append, All-map, All-tail, All-weaker, Contains-append_right}
use Rattle.std.proofs.lemmas.List.Sorted.{All-permutation, Contains-permutation, IsPermutation-append_comm, IsPermutation-append_left, IsPermutation-append_right, IsPermutation-cons, IsPermutation-middle, IsPermutation-sym, IsPermutation-trans}
use Rattle.cs_types.specs.declared.Key.{Key}
use Rattle.delete_buffer.specs.Entries.{Entry, AreInOrder, AreParts, Ascend, ended, is_among, merged, without}
use Rattle.delete_buffer.proofs.Merges.{in_order-ended}
use Rattle.delete_buffer.proofs.TwoParts.{AreParts-filter, IsPermutation-merged, filter-merged, in_order-merged, in_recent, in_settled}

abbrev IsNotIn : List Entry → Entry → Type 0
IsNotIn entries x = Contains entries x → ⊥

back : (settled recent : List Entry) → IsPermutation (merged settled recent) (settled ++ recent)
back settled recent = IsPermutation-sym (settled ++ recent) (merged settled recent) (IsPermutation-merged settled recent)

-- ---- entries that come among the recent ones

module _ (settled recent : List Entry) (keys : List Key) (end : ℕ) (parts : AreParts settled recent) (up : Ascend keys) (absent : All (λ key. Contains (merged settled recent) (key, end) → ⊥) keys) where
  pub added_apart : AreParts recent (ended keys end)
  added_apart = record {
    settled_in_order = parts.recent_in_order;
    recent_in_order = in_order-ended keys end up;
    apart =
        All-map (IsNotIn recent) (λ (key : Key). (key, end)) keys
        (All-weaker (λ (key : Key). Contains (merged settled recent) (key, end) → ⊥) (λ (key : Key). Contains recent (key, end) → ⊥) (λ key none has. none (in_recent settled recent (key, end) has)) keys absent);
  }

  pub added_parts : AreParts settled (merged recent (ended keys end))
  added_parts = record {
    settled_in_order = parts.settled_in_order;
    recent_in_order = in_order-merged recent (ended keys end) added_apart;
    apart =
        All-permutation (IsNotIn settled) (recent ++ ended keys end) (merged recent (ended keys end)) (IsPermutation-merged recent (ended keys end))
        (All-append (IsNotIn settled) recent (ended keys end) parts.apart
        (All-map (IsNotIn settled) (λ (key : Key). (key, end)) keys
        (All-weaker (λ (key : Key). Contains (merged settled recent) (key, end) → ⊥) (λ (key : Key). Contains settled (key, end) → ⊥) (λ key none has. none (in_settled settled recent (key, end) has)) keys absent)));
  }

  pub added_moved : IsPermutation (ended keys end ++ merged settled recent) (merged settled (merged recent (ended keys end)))
  added_moved =
      IsPermutation-trans (ended keys end ++ merged settled recent) (ended keys end ++ (settled ++ recent)) (merged settled (merged recent (ended keys end)))
      (IsPermutation-append_right (ended keys end) (merged settled recent) (settled ++ recent) (back settled recent))
      (IsPermutation-trans (ended keys end ++ (settled ++ recent)) ((settled ++ recent) ++ ended keys end) (merged settled (merged recent (ended keys end)))
      (IsPermutation-append_comm (ended keys end) (settled ++ recent))
      (subst (λ (xs : List Entry). IsPermutation xs (merged settled (merged recent (ended keys end)))) (sym (append_assoc settled recent (ended keys end)))
      (IsPermutation-trans (settled ++ (recent ++ ended keys end)) (settled ++ merged recent (ended keys end)) (merged settled (merged recent (ended keys end)))
      (IsPermutation-append_right settled (recent ++ ended keys end) (merged recent (ended keys end)) (IsPermutation-merged recent (ended keys end)))
      (IsPermutation-merged settled (merged recent (ended keys end))))))

-- ---- an entry that is taken away

module _ (settled recent left : List Entry) (x : Entry) where
  pub recent_gone : IsPermutation recent (x ∷ left) → IsPermutation (merged settled recent) (x ∷ merged settled left)
  recent_gone gone =
      IsPermutation-trans (merged settled recent) (settled ++ recent) (x ∷ merged settled left) (back settled recent)
      (IsPermutation-trans (settled ++ recent) (settled ++ x ∷ left) (x ∷ merged settled left) (IsPermutation-append_right settled recent (x ∷ left) gone)
      (IsPermutation-trans (settled ++ x ∷ left) (x ∷ (settled ++ left)) (x ∷ merged settled left) (IsPermutation-middle settled x left)
      (IsPermutation-cons x (settled ++ left) (merged settled left) (IsPermutation-merged settled left))))

  pub settled_gone : IsPermutation settled (x ∷ left) → IsPermutation (merged settled recent) (x ∷ merged left recent)
  settled_gone gone =
      IsPermutation-trans (merged settled recent) (settled ++ recent) (x ∷ merged left recent) (back settled recent)
      (IsPermutation-trans (settled ++ recent) (x ∷ (left ++ recent)) (x ∷ merged left recent) (IsPermutation-append_left recent settled (x ∷ left) gone)
      (IsPermutation-cons x (left ++ recent) (merged left recent) (IsPermutation-merged left recent)))

  pub recent_less : AreParts settled recent → AreInOrder left → IsPermutation recent (x ∷ left) → AreParts settled left
  recent_less parts up gone = record {
    settled_in_order = parts.settled_in_order;
    recent_in_order = up;
    apart = All-tail (IsNotIn settled) x left (All-permutation (IsNotIn settled) recent (x ∷ left) gone parts.apart);
  }

  pub settled_less : AreParts settled recent → AreInOrder left → IsPermutation settled (x ∷ left) → AreParts left recent
  settled_less parts up gone = record {
    settled_in_order = up;
    recent_in_order = parts.recent_in_order;
    apart =
        All-weaker (IsNotIn settled) (IsNotIn left)
        (λ y none has. none (Contains-permutation (x ∷ left) settled y (IsPermutation-sym settled (x ∷ left) gone) (Contains-append_right (x ∷ []) left y has))) recent parts.apart;
  }

-- ---- entries that are taken away together

pub AreParts-without : (taken settled recent : List Entry) → AreParts settled recent → AreParts (without taken settled) (without taken recent)
AreParts-without taken settled recent parts = AreParts-filter (λ x. not (is_among taken x)) (λ x. not (is_among taken x)) settled recent parts

pub without-merged : (taken settled recent : List Entry) → AreParts settled recent → merged (without taken settled) (without taken recent) ≡ without taken (merged settled recent)
without-merged taken settled recent parts = sym (filter-merged (λ x. not (is_among taken x)) settled recent parts)

-- the recent ones among the settled ones, with none left
pub settled_parts : (entries : List Entry) → AreInOrder entries → AreParts entries []
settled_parts entries up = record {
  settled_in_order = up;
  recent_in_order = λ i j d less there. absurd (omega (arith, there));
  apart = λ k d there. absurd (omega (arith, there));
}
