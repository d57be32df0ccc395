-- The order of entries, and what a search among ordered entries finds.
use Rattle.std.proofs.Common.{◌≡◌, ◌≢◌, ℕ, ◌+◌, ◌-◌, ◌<◌, ◌≤◌, ◌⊎◌, inl, inr, List, length, get_or, refl, sym, ◌∙◌, ap, subst, arith, Bool, true, false, cond, Contains, Option, None, Some}
use Rattle.std.specs.declared.cmp.Ordering.{Ordering}
use Rattle.std.specs.declared.cmp.Ordering.TheVariants.{Less, Equal, Greater}
use Rattle.std.specs.Cmp.{IsTotalOrder}
use Rattle.std.specs.List.{insert}
use Rattle.std.specs.List.Sorted.{IsNonDecreasingBy, IsPartitionPoint, IsSortedBy}
use Rattle.std.specs.Ordering.{is_eq, is_lt, nat_cmp, ordering_then, ordering_reverse, ordering_index}
use Rattle.std.proofs.lemmas.Bool.{cases_lt}
use Rattle.std.proofs.lemmas.Cmp.{ranked, nat_cmp_total, on_total, then_total, tied_itself}
use Rattle.std.proofs.lemmas.List.{get_or_default}
use Rattle.std.proofs.lemmas.List.Edits.{length-insert, get_or-insert_below, get_or-insert_at, get_or-insert_above}
use Rattle.std.proofs.lemmas.List.Sorted.{searchable_from_sorted}
use Rattle.std.proofs.lemmas.Option.{slice_get_past, slice_get-get_or}
use Rattle.cs_types.specs.declared.Key.{Key}
use Rattle.cs_types.specs.Keys.{key_cmp, same_key}
use Rattle.cs_types.proofs.KeyLemmas.{key_total, exact_key, one_key}
use Rattle.delete_buffer.specs.Entries.{Entry, entry_cmp, AreInOrder, IsFirstPast, IsLeastEnd, end_in, end_of}

pub entry_total : IsTotalOrder entry_cmp
entry_total = then_total (on_total (λ (x : Entry). x.0) key_total) (on_total (λ (x : Entry). x.1) nat_cmp_total)

-- how two entries stand
abbrev pub Ranked : Ordering → Entry → Entry → Type 0
Ranked Less x y = (key_cmp x.0 y.0 ≡ Less) ⊎ ((x.0 ≡ y.0) × (x.1 < y.1))
Ranked Equal x y = (x.0 ≡ y.0) × (x.1 ≡ y.1)
Ranked Greater x y = (key_cmp x.0 y.0 ≡ Greater) ⊎ ((x.0 ≡ y.0) × (y.1 < x.1))

by_parts : (x y : Entry) (o p : Ordering) → o ≡ key_cmp x.0 y.0 → p ≡ nat_cmp x.1 y.1 → Ranked (ordering_then o p) x y
by_parts x y Less p e f = inl (sym e)
by_parts x y Equal Less e f = inr (exact_key x.0 y.0 (sym e), ranked x.1 y.1 Less f)
by_parts x y Equal Equal e f = (exact_key x.0 y.0 (sym e), ranked x.1 y.1 Equal f)
by_parts x y Equal Greater e f = inr (exact_key x.0 y.0 (sym e), ranked x.1 y.1 Greater f)
by_parts x y Greater p e f = inl (sym e)

pub ranks : (x y : Entry) (r : Ordering) → entry_cmp x y ≡ r → Ranked r x y
ranks x y r e = subst (λ (o : Ordering). Ranked o x y) e (by_parts x y (key_cmp x.0 y.0) (nat_cmp x.1 y.1) refl refl)

pub same_entry : (x y : Entry) → entry_cmp x y ≡ Equal → x ≡ y
same_entry x y e = let r = ranks x y Equal e in λ i. (r.0 i, r.1 i)

-- a key is neither smaller nor greater than itself
never_less : (a b : Key) → a ≡ b → key_cmp a b ≡ Less → ⊥
never_less a b same less = differ (sym (tied_itself key_total b) ∙ ap (λ k. key_cmp k b) (sym same) ∙ less)
  where
    differ : Equal ≡ Less → ⊥
    differ e = cc

never_greater : (a b : Key) → a ≡ b → key_cmp a b ≡ Greater → ⊥
never_greater a b same greater = differ (sym (tied_itself key_total b) ∙ ap (λ k. key_cmp k b) (sym same) ∙ greater)
  where
    differ : Equal ≡ Greater → ⊥
    differ e = cc

pub sorted : (entries : List Entry) → AreInOrder entries → IsSortedBy (λ x y. is_lt (entry_cmp x y)) entries
sorted entries up = λ k d _ l. ap is_lt (entry_total.antisymm (get_or entries (k + 1) d) (get_or entries k d) ∙ ap ordering_reverse (up k (k + 1) d (omega arith) l))

-- what a search that finds no entry says of the place
abbrev pub Parts : List Entry → Entry → ℕ → Type 0
Parts entries x place = IsNonDecreasingBy (λ y. ordering_index (entry_cmp y x)) entries → IsPartitionPoint (λ y. entry_cmp y x ≡ Less) (λ y. entry_cmp y x ≡ Greater) entries place

-- a search that finds an entry, and one that finds the place where it would stand
pub at_found : (entries : List Entry) (x : Entry) (place : ℕ) → AreInOrder entries → place < length entries → ((d : Entry) → entry_cmp (get_or entries place d) x ≡ Equal) → IsFirstPast entries x (place + 1)
at_found entries x place up there equal =
    let is = same_entry (get_or entries place x) x (equal x) in
    record {
      within = omega arith;
      before = λ k l greater. elim (cases_lt k place) [
        | inl less ↦ differ (sym (ap (λ y. entry_cmp (get_or entries k x) y) (sym is) ∙ up k place x less there) ∙ greater)
        | inr more ↦ let same : k ≡ place = omega arith in differ' (sym (equal x) ∙ ap (λ i. entry_cmp (get_or entries i x) x) (sym same) ∙ greater)
      ];
      after = λ k from l. entry_total.antisymm (get_or entries k x) x ∙ ap ordering_reverse (ap (λ y. entry_cmp y (get_or entries k x)) (sym is) ∙ up place k x (omega arith) l);
    }
  where
    differ : Less ≡ Greater → ⊥
    differ e = cc

    differ' : Equal ≡ Greater → ⊥
    differ' e = cc

pub at_place : (entries : List Entry) (x : Entry) (place : ℕ) → AreInOrder entries → place ≤ length entries → Parts entries x place → (place ≤ length entries) × ((k : ℕ) → k < place → entry_cmp (get_or entries k x) x ≡ Less) × ((k : ℕ) → place ≤ k → k < length entries → entry_cmp (get_or entries k x) x ≡ Greater)
at_place entries x place up bound parted =
    let point = parted (searchable_from_sorted entry_total (λ y. y) entries x (sorted entries up)) in
    (bound, (λ k l. point.0 k x (omega arith) l), (λ k from l. point.1 k x from l))

pub IsFirstPast-place : (entries : List Entry) (x : Entry) (place : ℕ) → AreInOrder entries → place ≤ length entries → Parts entries x place → IsFirstPast entries x place
IsFirstPast-place entries x place up bound parted =
    let (within, before, after) = at_place entries x place up bound parted in
    record { within = within; before = λ k l greater. differ (sym (before k l) ∙ greater); after = after }
  where
    differ : Less ≡ Greater → ⊥
    differ e = cc

-- an entry that is not there stands nowhere
pub absent : (entries : List Entry) (x : Entry) (place : ℕ) → AreInOrder entries → place ≤ length entries → Parts entries x place → Contains entries x → ⊥
absent entries x place up bound parted (k, l, e) =
    let (within, before, after) = at_place entries x place up bound parted in
    let tied = ap (λ y. entry_cmp y x) e ∙ tied_itself entry_total x in
    elim (cases_lt k place) [ inl less ↦ differ (sym tied ∙ before k less) | inr more ↦ differ' (sym tied ∙ after k more l) ]
  where
    differ : Equal ≡ Less → ⊥
    differ e = cc

    differ' : Equal ≡ Greater → ⊥
    differ' e = cc

-- an entry put at its place keeps the order
pub in_order-insert : (entries : List Entry) (x : Entry) (place : ℕ) → AreInOrder entries → place ≤ length entries → Parts entries x place → AreInOrder (insert entries place x)
in_order-insert entries x place up bound parted i j d less there =
    elim (cases_lt j place) [
      | inl j_below ↦ ap (λ y. entry_cmp y (get_or new j d)) (below i (omega arith)) ∙ ap (λ y. entry_cmp (get_or entries i d) y) (below j j_below) ∙ up i j d less (omega arith)
      | inr j_more ↦ elim (cases_lt place j) [
        | inr j_here ↦
            let same : j ≡ place = omega arith in
            ap (λ y. entry_cmp y (get_or new j d)) (below i (omega arith))
            ∙ ap (λ k. entry_cmp (get_or entries i d) (get_or new k d)) same
            ∙ ap (λ y. entry_cmp (get_or entries i d) y) (get_or-insert_at entries place x d at.0)
            ∙ ap (λ y. entry_cmp y x) (get_or_default entries i d x (omega arith)) ∙ at.1 i (omega arith)
        | inl j_above ↦
            let last : j - 1 < length entries = omega (arith, length-insert entries place x at.0) in
            ap (λ y. entry_cmp (get_or new i d) y) (above j j_above)
            ∙ elim (cases_lt i place) [
              | inl i_below ↦ ap (λ y. entry_cmp y (get_or entries (j - 1) d)) (below i i_below) ∙ up i (j - 1) d (omega arith) last
              | inr i_more ↦ elim (cases_lt place i) [
                | inr i_here ↦
                    let same : i ≡ place = omega arith in
                    ap (λ k. entry_cmp (get_or new k d) (get_or entries (j - 1) d)) same
                    ∙ ap (λ y. entry_cmp y (get_or entries (j - 1) d)) (get_or-insert_at entries place x d at.0)
                    ∙ entry_total.antisymm x (get_or entries (j - 1) d)
                    ∙ ap ordering_reverse (ap (λ y. entry_cmp y x) (get_or_default entries (j - 1) d x last) ∙ at.2 (j - 1) (omega arith) last)
                | inl i_above ↦ ap (λ y. entry_cmp y (get_or entries (j - 1) d)) (above i i_above) ∙ up (i - 1) (j - 1) d (omega arith) last
              ]
            ]
      ]
    ]
  where
    at : (place ≤ length entries) × ((k : ℕ) → k < place → entry_cmp (get_or entries k x) x ≡ Less) × ((k : ℕ) → place ≤ k → k < length entries → entry_cmp (get_or entries k x) x ≡ Greater)
    at = at_place entries x place up bound parted

    new : List Entry
    new = insert entries place x

    below : (k : ℕ) → k < place → get_or (insert entries place x) k d ≡ get_or entries k d
    below k l = get_or-insert_below entries place x d k l at.0

    above : (k : ℕ) → place < k → get_or (insert entries place x) k d ≡ get_or entries (k - 1) d
    above k l =
        let next : k ≡ k - 1 + 1 = omega arith in
        ap (λ n. get_or (insert entries place x) n d) next ∙ get_or-insert_above entries place x d (k - 1) (omega arith) at.0

-- an entry of the key before the first past it has an end up to `begin`, and one from it on a greater one
end_before : (x : Entry) (key : Key) (begin : ℕ) → x.0 ≡ key → entry_cmp x (key, begin) ≢ Greater → x.1 ≤ begin
end_before x key begin same not_greater = go (entry_cmp x (key, begin)) refl
  where
    go : (r : Ordering) → entry_cmp x (key, begin) ≡ r → x.1 ≤ begin
    go Less e = elim (ranks x (key, begin) Less e) [ inl l ↦ absurd (never_less x.0 key same l) | inr h ↦ omega (arith, h.1) ]
    go Equal e = omega (arith, (ranks x (key, begin) Equal e).1)
    go Greater e = absurd (not_greater e)

end_after : (x : Entry) (key : Key) (begin : ℕ) → x.0 ≡ key → entry_cmp x (key, begin) ≡ Greater → begin < x.1
end_after x key begin same greater = elim (ranks x (key, begin) Greater greater) [ inl l ↦ absurd (never_greater x.0 key same l) | inr h ↦ h.1 ]

end_later : (x y : Entry) → x.0 ≡ y.0 → entry_cmp x y ≡ Less → x.1 < y.1
end_later x y same less = elim (ranks x y Less less) [ inl l ↦ absurd (never_less x.0 y.0 same l) | inr h ↦ h.1 ]

-- no entry of the key follows one of another key that is past it
other_key : (x y : Entry) (key : Key) (begin : ℕ) → x.0 ≢ key → entry_cmp x (key, begin) ≡ Greater → (entry_cmp x y ≡ Less) ⊎ (x ≡ y) → y.0 ≡ key → ⊥
other_key x y key begin other greater (inr same) is = other (ap (λ (e : Entry). e.0) same ∙ is)
other_key x y key begin other greater (inl less) is =
    elim (ranks x (key, begin) Greater greater) [
      | inl more ↦ elim (ranks x y Less less) [
        | inl l ↦ differ (sym (ap (key_cmp x.0) is ∙ more) ∙ l)
        | inr h ↦ other (h.0 ∙ is)
      ]
      | inr h ↦ other h.0
    ]
  where
    differ : Greater ≡ Less → ⊥
    differ e = cc

pub IsLeastEnd-past : (entries : List Entry) (key : Key) (begin place : ℕ) → AreInOrder entries → IsFirstPast entries (key, begin) place → IsLeastEnd entries key begin (end_in entries place key)
IsLeastEnd-past entries key begin place up past = elim (cases_lt place (length entries)) [
  | inl there ↦ here there (same_key (get_or entries place (key, begin)).0 key) refl
  | inr over ↦ subst (λ (o : Option ℕ). IsLeastEnd entries key begin o) (sym (ap (end_of key) (slice_get_past entries place over)))
      (λ k d l is. before k d l (omega arith) is)
]
  where
    before : (k : ℕ) (d : Entry) → k < length entries → k < place → (get_or entries k d).0 ≡ key → (get_or entries k d).1 ≤ begin
    before k d l less is =
        let same = get_or_default entries k d (key, begin) l in
        subst (λ (x : Entry). x.1 ≤ begin) (sym same) (end_before (get_or entries k (key, begin)) key begin (ap (λ (x : Entry). x.0) (sym same) ∙ is) (past.before k less))

    here : place < length entries → (b : Bool) → same_key (get_or entries place (key, begin)).0 key ≡ b → IsLeastEnd entries key begin (end_in entries place key)
    here there true e =
        let found : Entry = get_or entries place (key, begin) in
        let is : found.0 ≡ key = one_key found.0 key e in
        let whole : found ≡ (key, found.1) = λ i. (is i, found.1) in
        subst (λ (o : Option ℕ). IsLeastEnd entries key begin o)
        (sym (ap (end_of key) (slice_get-get_or entries place (key, begin) there) ∙ ap (λ b. cond b (Some found.1) None) e)) (
          (place, there, get_or_default entries place (key, found.1) (key, begin) there ∙ whole),
          end_after found key begin is (past.after place (omega arith) there),
          (λ k d l same above. elim (cases_lt k place) [
            | inl less ↦ absurd (omega (arith, before k d l less same))
            | inr more ↦ elim (cases_lt place k) [
              | inl later ↦
                  let next = up place k d later l in
                  let at = get_or_default entries place d (key, begin) there in
                  let bound = end_later (get_or entries place d) (get_or entries k d) (ap (λ (x : Entry). x.0) at ∙ is ∙ sym same) next in
                  omega (arith, bound, ap (λ (x : Entry). x.1) at)
              | inr first ↦
                  let at : k ≡ place = omega arith in
                  omega (arith, ap (λ n. (get_or entries n d).1) at, ap (λ (x : Entry). x.1) (get_or_default entries place d (key, begin) there))
            ]
          ]),
        )
    here there false e =
        let found : Entry = get_or entries place (key, begin) in
        let other : found.0 ≢ key = λ same. true_false (sym (ap is_eq (tied_itself key_total key)) ∙ ap (λ k. same_key k key) (sym same) ∙ e) in
        subst (λ (o : Option ℕ). IsLeastEnd entries key begin o)
        (sym (ap (end_of key) (slice_get-get_or entries place (key, begin) there) ∙ ap (λ b. cond b (Some found.1) None) e))
        (λ k d l is. elim (cases_lt k place) [
          | inl less ↦ before k d l less is
          | inr more ↦ absurd (other_key found (get_or entries k d) key begin other (past.after place (omega arith) there)
              (elim (cases_lt place k) [
                | inl later ↦ inl (ap (λ x. entry_cmp x (get_or entries k d)) (get_or_default entries place (key, begin) d there) ∙ up place k d later l)
                | inr first ↦ let at : place ≡ k = omega arith in inr (get_or_default entries place (key, begin) d there ∙ ap (λ n. get_or entries n d) at)
              ]) is)
        ])
      where
        true_false : true ≡ false → ⊥
        true_false e = cc
