-- The order of writes, what a search among them finds, and what a write more does to them.
use Rattle.std.proofs.Common.{◌≡◌, ℕ, zero, suc, List, [], ◌∷◌, length, get_or, set, refl, sym, ◌∙◌, ap, subst, arith, true, false, true≢false, ◌<◌, ◌≤◌, All, inl, inr}
use Rattle.std.specs.declared.cmp.Ordering.{Ordering}
use Rattle.std.specs.declared.cmp.Ordering.TheVariants.{Less, Equal, Greater}
use Rattle.std.specs.List.{insert}
use Rattle.std.specs.List.Sorted.{IsPartitionedBy, IsPartitionPoint}
use Rattle.std.specs.Ordering.{is_lt, match_ordering, ordering_reverse}
use Rattle.std.proofs.lemmas.Bool.{cases_lt}
use Rattle.std.proofs.lemmas.Cmp.{tied_itself}
use Rattle.std.proofs.lemmas.List.Kept.{AllPairs-cons}
use Rattle.cs_types.specs.declared.Key.{Key}
use Rattle.write_set.specs.declared.write.Write.{Write}
use Rattle.cs_types.specs.Keys.{key_cmp}
use Rattle.cs_types.proofs.KeyLemmas.{key_total, exact_key}
use Rattle.write_set.specs.Writes.{Ascend, put, IsFoundAt, IsGapFor}

pub tied : (a b : Key) → a ≡ b → key_cmp a b ≡ Equal
tied a b e = subst (λ (k : Key). key_cmp a k ≡ Equal) e (tied_itself key_total a)

pub greater : (a b : Key) → key_cmp b a ≡ Less → key_cmp a b ≡ Greater
greater a b e = key_total.antisymm a b ∙ ap ordering_reverse e

pub less : (a b : Key) → key_cmp b a ≡ Greater → key_cmp a b ≡ Less
less a b e = key_total.antisymm a b ∙ ap ordering_reverse e

pub less_by : (o : Ordering) → true ≡ is_lt o → o ≡ Less
less_by Less e = refl
less_by Equal e = absurd (true≢false e)
less_by Greater e = absurd (true≢false e)

-- the writes of smaller keys come first
pub below_first : (writes : List Write) → Ascend writes → (key : Key) → IsPartitionedBy (λ (w : Write). is_lt (key_cmp w.key key)) writes
below_first writes up key i j d before there passes = elim (cases_lt i j) [
  | inl less ↦ ap is_lt (key_total.trans (get_or writes i d).key (get_or writes j d).key key (up i j d less there) (less_by (key_cmp (get_or writes j d).key key) (sym passes)))
  | inr not ↦ let same : j ≡ i = omega (arith, before, not) in subst (λ (k : ℕ). is_lt (key_cmp (get_or writes k d).key key) ≡ true) same passes
]

-- where those of smaller keys end the key has its write, or would go
module _ (writes : List Write) (up : Ascend writes) (key : Key) (i : ℕ) (within : i ≤ length writes) (point : IsPartitionPoint (λ (w : Write). is_lt (key_cmp w.key key) ≡ true) (λ (w : Write). is_lt (key_cmp w.key key) ≡ false) writes i) where
  other_above : (w : Write) → (w.key ≡ key → ⊥) → is_lt (key_cmp w.key key) ≡ false → key_cmp w.key key ≡ Greater
  other_above w other past = go (key_cmp w.key key) refl past
    where
      go : (o : Ordering) → key_cmp w.key key ≡ o → is_lt o ≡ false → key_cmp w.key key ≡ Greater
      go Less e fails = absurd (cc)
      go Equal e fails = absurd (other (exact_key w.key key e))
      go Greater e fails = e

  pub gap_at : ((d : Write) → i < length writes → (get_or writes i d).key ≡ key → ⊥) → IsGapFor writes key i
  gap_at other = record {
    within = within;
    before = λ k d low. less_by (key_cmp (get_or writes k d).key key) (sym (point.0 k d (omega arith) low));
    after = λ k d from there. elim (cases_lt i k) [
      | inl more ↦
          let here = less key (get_or writes i d).key (other_above (get_or writes i d) (other d (omega (arith, more, there))) (point.1 i d (omega arith) (omega (arith, more, there)))) in
          greater (get_or writes k d).key key (key_total.trans key (get_or writes i d).key (get_or writes k d).key here (up i k d more there))
      | inr none ↦
          let same : i ≡ k = omega (arith, from, none) in
          subst (λ (n : ℕ). key_cmp (get_or writes n d).key key ≡ Greater) same (other_above (get_or writes i d) (other d (omega (arith, from, none, there))) (point.1 i d (omega arith) (omega (arith, from, none, there))))
    ];
  }

abbrev pub Rises : Write → Write → Type 0
Rises a b = key_cmp a.key b.key ≡ Less

pub tail : (v : Write) (vs : List Write) → Ascend (v ∷ vs) → Ascend vs
tail v vs up i j d l there = up (suc i) (suc j) d (omega arith) (omega arith)

pub head : (v : Write) (vs : List Write) → Ascend (v ∷ vs) → All (λ (w : Write). key_cmp v.key w.key ≡ Less) vs
head v vs up k d l = up 0 (suc k) d (omega arith) (omega arith)

-- where the key has a write, it is replaced
pub put-found : (writes : List Write) (w : Write) (i : ℕ) → Ascend writes → IsFoundAt writes w.key i → put writes w ≡ set writes i w
put-found [] w i up found = absurd (omega (arith, found.within))
put-found (v ∷ vs) w zero up found =
    ap (λ o. match_ordering o (w ∷ v ∷ vs) (w ∷ vs) (v ∷ put vs w)) (tied w.key v.key (sym (found.is w)))
put-found (v ∷ vs) w (suc i) up found =
    let below : key_cmp v.key w.key ≡ Less = subst (λ (k : Key). key_cmp v.key k ≡ Less) (found.is w) (up 0 (suc i) w (omega arith) found.within) in
    ap (λ o. match_ordering o (w ∷ v ∷ vs) (w ∷ vs) (v ∷ put vs w)) (greater w.key v.key below)
    ∙ ap (λ l. v ∷ l) (put-found vs w i (tail v vs up) (record { within = omega (arith, found.within); is = λ d. found.is d }))

-- and where it has none, it goes to its gap
pub put-gap : (writes : List Write) (w : Write) (i : ℕ) → IsGapFor writes w.key i → put writes w ≡ insert writes i w
put-gap [] w zero gap = refl
put-gap [] w (suc i) gap = absurd (omega (arith, gap.within))
put-gap (v ∷ vs) w zero gap =
    ap (λ o. match_ordering o (w ∷ v ∷ vs) (w ∷ vs) (v ∷ put vs w)) (less w.key v.key (gap.after 0 w (omega arith) (omega arith)))
put-gap (v ∷ vs) w (suc i) gap =
    ap (λ o. match_ordering o (w ∷ v ∷ vs) (w ∷ vs) (v ∷ put vs w)) (greater w.key v.key (gap.before 0 w (omega arith)))
    ∙ ap (λ l. v ∷ l) (put-gap vs w i (record {
      within = omega (arith, gap.within);
      before = λ k d l. gap.before (suc k) d (omega arith);
      after = λ k d from l. gap.after (suc k) d (omega arith) (omega arith);
    }))

pub all_cons : (P : Write → Type 0) (v : Write) (vs : List Write) → P v → All P vs → All P (v ∷ vs)
all_cons P v vs p ps zero d l = p
all_cons P v vs p ps (suc k) d l = ps k d (omega arith)

pub all_tail : (P : Write → Type 0) (v : Write) (vs : List Write) → All P (v ∷ vs) → All P vs
all_tail P v vs ps k d l = ps (suc k) d (omega arith)

pub all_none : (P : Write → Type 0) → All P []
all_none P k d l = absurd (omega (arith, l))

pub All-put : (P : Write → Type 0) (writes : List Write) (w : Write) → P w → All P writes → All P (put writes w)
All-put P [] w p ps = all_cons P w [] p (all_none P)
All-put P (v ∷ vs) w p ps = go (All-put P vs w p (all_tail P v vs ps)) (key_cmp w.key v.key)
  where
    go : All P (put vs w) → (o : Ordering) → All P (match_ordering o (w ∷ v ∷ vs) (w ∷ vs) (v ∷ put vs w))
    go rest Less = all_cons P w (v ∷ vs) p ps
    go rest Equal = all_cons P w vs p (all_tail P v vs ps)
    go rest Greater = all_cons P v (put vs w) (ps 0 v (omega arith)) rest

-- one write more keeps the order
pub Ascend-put : (writes : List Write) (w : Write) → Ascend writes → Ascend (put writes w)
Ascend-put [] w up = AllPairs-cons Rises w [] (all_none (Rises w)) (λ i j d l there. absurd (omega (arith, there)))
Ascend-put (v ∷ vs) w up = go (Ascend-put vs w (tail v vs up)) (key_cmp w.key v.key) refl
  where
    go : Ascend (put vs w) → (o : Ordering) → key_cmp w.key v.key ≡ o → Ascend (match_ordering o (w ∷ v ∷ vs) (w ∷ vs) (v ∷ put vs w))
    go rest Less e = AllPairs-cons Rises w (v ∷ vs) (all_cons (λ (x : Write). key_cmp w.key x.key ≡ Less) v vs e (λ k d l. key_total.trans w.key v.key (get_or vs k d).key e (head v vs up k d l))) up
    go rest Equal e = AllPairs-cons Rises w vs (λ k d l. key_total.congr w.key v.key (get_or vs k d).key e ∙ head v vs up k d l) (tail v vs up)
    go rest Greater e = AllPairs-cons Rises v (put vs w) (All-put (λ (x : Write). key_cmp v.key x.key ≡ Less) vs w (less v.key w.key e) (head v vs up)) rest

-- no write of the key stands outside its place
pub no_write : (writes : List Write) (key : Key) (i : ℕ) → IsGapFor writes key i → All (λ (w : Write). w.key ≡ key → ⊥) writes
no_write writes key i gap k d l same = elim (cases_lt k i) [
  | inl below ↦ differ (sym (gap.before k d below) ∙ tied (get_or writes k d).key key same)
  | inr above ↦ differ' (sym (gap.after k d above l) ∙ tied (get_or writes k d).key key same)
]
  where
    differ : Less ≡ Equal → ⊥
    differ e = cc

    differ' : Greater ≡ Equal → ⊥
    differ' e = cc
