-- Edits by key: writes that are staged by key are the edits of the row model, in whatever order these stand.
use Rattle.std.proofs.Common.{◌≡◌, ℕ, ◌+◌, ◌≤◌, zero, suc, List, [], ◌∷◌, map, get_or, refl, sym, ap, ◌∙◌, subst, cond, Bool, true, false, ◌&&◌, arith, Option, None, Some, All, T, Ordering, Less, Equal, Greater, is_eq}
use Rattle.std.specs.Prelude.{Contains, count_by}
use Rattle.std.specs.BTreeMap.{insert_entry}
use Rattle.std.specs.FinMap.Entries.{by_order, put, find, find-put, below_all, is_sorted, is_sorted-put, same_entries}
use Rattle.std.specs.List.{AllByRecursion}
use Rattle.std.specs.List.Sorted.{IsStrictlySortedBy}
use Rattle.std.specs.Ordering.{match_ordering, is_lt}
use Rattle.std.proofs.lemmas.Cmp.{tied_itself}
use Rattle.std.proofs.lemmas.List.Elements.{All-contains}
use Rattle.std.proofs.lemmas.List.Sums.{sum_by-cons}
use Rattle.cs_types.specs.declared.Key.{Key}
use Rattle.cs_types.specs.declared.Value.{Value}
use Rattle.cs_types.specs.Keys.{key_cmp, same_key}
use Rattle.cs_types.proofs.KeyLemmas.{key_total, exact_key, one_key}
use Rattle.cs_model.specs.Changes.{Edit}
use Rattle.cs_model.specs.Obstacles.{keys_of}
use Rattle.cs_model.specs.Steps.{staged}

-- ---- lists by key

-- the value of a key
abbrev pub at : {X : Type 0} → Key → List (Key × X) → Option X
at key es = find key_cmp key es

-- no key stands twice
abbrev pub Apart : {X : Type 0} → List (Key × X) → Type 0
Apart [] = Unit {0}
Apart (e ∷ es) = (at e.0 es ≡ None) × Apart es

both : (a b : Bool) → T a → T b → T (a && b)
both true b p q = q
both false b p q = p

pub first : (a b : Bool) → T (a && b) → T a
first true b p = tt
first false b p = p

pub second : (a b : Bool) → T (a && b) → T b
second true b p = p
second false b p = absurd p

is_less : (o : Ordering) → T (is_lt o) → o ≡ Less
is_less Less p = refl
is_less Equal p = absurd p
is_less Greater p = absurd p

none_above : {X : Type 0} (key : Key) (es : List (Key × X)) → T (below_all key_cmp key es) → at key es ≡ None
none_above key [] h = refl
none_above key (e ∷ es) h =
    ap (λ o. cond (is_eq o) (Some e.1) (at key es)) (is_less (key_cmp key e.0) (first (is_lt (key_cmp key e.0)) (below_all key_cmp key es) h)) ∙ none_above key es (second (is_lt (key_cmp key e.0)) (below_all key_cmp key es) h)

pub apart_sorted : {X : Type 0} (es : List (Key × X)) → T (is_sorted key_cmp es) → Apart es
apart_sorted [] h = tt
apart_sorted (e ∷ es) h = (none_above e.0 es (first (below_all key_cmp e.0 es) (is_sorted key_cmp es) h), apart_sorted es (second (below_all key_cmp e.0 es) (is_sorted key_cmp es) h))

below_from : {X : Type 0} (key : Key) (es : List (Key × X)) → AllByRecursion (λ k. key_cmp key k ≡ Less) (map (λ (e : Key × X). e.0) es) → T (below_all key_cmp key es)
below_from key [] h = tt
below_from key (e ∷ es) h = both (is_lt (key_cmp key e.0)) (below_all key_cmp key es) (subst (λ o. T (is_lt o)) (sym h.0) tt) (below_from key es h.1)

pub sorted_from : {X : Type 0} (es : List (Key × X)) → IsStrictlySortedBy key_cmp (map (λ (e : Key × X). e.0) es) → T (is_sorted key_cmp es)
unfolding IsStrictlySortedBy
sorted_from [] h = tt
sorted_from (e ∷ es) h = both (below_all key_cmp e.0 es) (is_sorted key_cmp es) (below_from e.0 es h.0) (sorted_from es h.1)

-- ---- what is there

here : {X : Type 0} (e : Key × X) (es : List (Key × X)) → at e.0 (e ∷ es) ≡ Some e.1
here e es = ap (λ o. cond (is_eq o) (Some e.1) (at e.0 es)) (tied_itself key_total e.0)

found : {X : Type 0} (es : List (Key × X)) (e : Key × X) → Apart es → Contains es e → at e.0 es ≡ Some e.1
found [] e a c = absurd (omega (arith, c.1))
found (x ∷ es) e a (zero, within, is) = subst (λ (y : Key × _). at y.0 (x ∷ es) ≡ Some y.1) is (here x es)
found (x ∷ es) e a (suc k, within, is) = by (same_key e.0 x.0) refl (found es e a.1 (k, omega (arith, within), is))
  where
    by : (t : Bool) → same_key e.0 x.0 ≡ t → at e.0 es ≡ Some e.1 → cond t (Some x.1) (at e.0 es) ≡ Some e.1
    by true s there = absurd (cc (sym (ap (λ key. at key es) (one_key e.0 x.0 s)) ∙ there, a.0))
    by false s there = there

pair_is : {X : Type 0} (x : Key × X) (key : Key) (r : X) → x.0 ≡ key → x.1 ≡ r → x ≡ (key, r)
pair_is x key r a b = λ i. (a i, b i)

inside : {X : Type 0} (es : List (Key × X)) (key : Key) (r : X) → at key es ≡ Some r → Contains es (key, r)
inside [] key r e = absurd (cc e)
inside {X} (x ∷ es) key r e = by (same_key key x.0) refl e (inside es key r)
  where
    by : (t : Bool) → same_key key x.0 ≡ t → cond t (Some x.1) (at key es) ≡ Some r → (at key es ≡ Some r → Contains es (key, r)) → Contains (x ∷ es) (key, r)
    by true s is rest = (0, omega arith, pair_is x key r (sym (one_key key x.0 s)) (cc is))
    by false s is rest = let c = rest is in (suc c.0, (let lt = c.1 in omega (arith, lt)), c.2)

keyed : {X : Type 0} (es : List (Key × X)) (key : Key) → Contains (map (λ (e : Key × X). e.0) es) key → at key es ≡ None → ⊥
keyed [] key c none = absurd (omega (arith, c.1))
keyed (x ∷ es) key (zero, within, is) none = let h = subst (λ k. at k (x ∷ es) ≡ Some x.1) is (here x es) in cc (h, none)
keyed (x ∷ es) key (suc k, within, is) none = by (same_key key x.0) none (keyed es key (k, omega (arith, within), is))
  where
    by : (t : Bool) → cond t (Some x.1) (at key es) ≡ None → (at key es ≡ None → ⊥) → ⊥
    by true e rest = cc e
    by false e rest = rest e

-- the key of one that is there is there
pub key_inside : {X : Type 0} (es : List (Key × X)) (e : Key × X) → Contains es e → Contains (map (λ (x : Key × X). x.0) es) e.0
key_inside [] e c = absurd (omega (arith, c.1))
key_inside (x ∷ es) e (zero, within, is) = (0, omega arith, ap (λ (y : Key × _). y.0) is)
key_inside (x ∷ es) e (suc k, within, is) = let c = key_inside es e (k, omega (arith, within), is) in (suc c.0, (let lt = c.1 in omega (arith, lt)), c.2)

-- ---- edits in another order

module _ (list edits : List Edit) (apart : Apart list) (apart' : Apart edits) (each : All (Contains edits) list) (every : All (λ (edit : Edit). Contains (keys_of list) edit.0) edits) where
  -- each key has the same edit in both
  same_at : (key : Key) → at key list ≡ at key edits
  same_at key = by (at key list) refl
    where
      none : at key list ≡ None → (o : Option (Option (List Value))) → at key edits ≡ o → None ≡ o
      none e None is = refl
      none e (Some r) is = absurd (keyed list key (All-contains (λ (edit : Edit). Contains (keys_of list) edit.0) edits (key, r) every (inside edits key r is)) e)

      by : (o : Option (Option (List Value))) → at key list ≡ o → o ≡ at key edits
      by (Some r) e = sym (found edits (key, r) apart' (All-contains (Contains edits) list (key, r) each (inside list key r e)))
      by None e = none e (at key edits) refl

-- ---- edits that are staged

put_is : {X : Type 0} (es : List (Key × X)) (k : Key) (v : X) → insert_entry key_cmp es k v ≡ put key_cmp k v es
put_is [] k v = refl
put_is (e ∷ es) k v = by (key_cmp k e.0) (put_is es k v)
  where
    by : (o : Ordering) → insert_entry key_cmp es k v ≡ put key_cmp k v es → match_ordering o ((k, v) ∷ e ∷ es) ((e.0, v) ∷ es) (e ∷ insert_entry key_cmp es k v) ≡ by_order o ((k, v) ∷ e ∷ es) ((e.0, v) ∷ es) (e ∷ put key_cmp k v es)
    by Less rest = refl
    by Equal rest = refl
    by Greater rest = ap (λ l. e ∷ l) rest

sorted_staged : (own edits : List Edit) → T (is_sorted key_cmp own) → T (is_sorted key_cmp (staged own edits))
sorted_staged own [] up = up
sorted_staged own (e ∷ edits) up =
    sorted_staged (insert_entry key_cmp own e.0 e.1) edits (subst (λ l. T (is_sorted key_cmp l)) (sym (put_is own e.0 e.1)) (is_sorted-put key_cmp key_total e.0 e.1 own up))

-- an edit of the key, and else what there was
abbrev else : {A : Type 0} → Option A → Option A → Option A
else None o = o
else (Some x) o = Some x

at_staged : (own edits : List Edit) (key : Key) → Apart edits → at key (staged own edits) ≡ else (at key edits) (at key own)
at_staged own [] key a = refl
at_staged own (e ∷ edits) key a =
    at_staged (insert_entry key_cmp own e.0 e.1) edits key a.1
    ∙ ap (else (at key edits)) (ap (at key) (put_is own e.0 e.1) ∙ find-put key_cmp key_total key e.0 e.1 own)
    ∙ by (same_key key e.0) refl
  where
    by : (t : Bool) → same_key key e.0 ≡ t → else (at key edits) (cond t (Some e.1) (at key own)) ≡ else (cond t (Some e.1) (at key edits)) (at key own)
    by true s = ap (λ o. else o (Some e.1)) (ap (λ k. at k edits) (one_key key e.0 s) ∙ a.0)
    by false s = refl

pub staged_same : (own list edits : List Edit) → T (is_sorted key_cmp own) → T (is_sorted key_cmp list) → Apart edits → All (Contains edits) list → All (λ (edit : Edit). Contains (keys_of list) edit.0) edits
    → staged own list ≡ staged own edits
staged_same own list edits up up' apart each every =
    same_entries key_cmp key_total exact_key (staged own list) (staged own edits) (sorted_staged own list up) (sorted_staged own edits up) rows
  where
    rows : (key : Key) → at key (staged own list) ≡ at key (staged own edits)
    rows key =
        at_staged own list key (apart_sorted list up') ∙ ap (λ o. else o (at key own)) (same_at list edits (apart_sorted list up') apart each every key) ∙ sym (at_staged own edits key apart)

-- writes by key over none are themselves
pub staged_none : (list : List Edit) → T (is_sorted key_cmp list) → staged [] list ≡ list
staged_none list up = same_entries key_cmp key_total exact_key (staged [] list) list (sorted_staged [] list tt) up rows
  where
    rows : (key : Key) → at key (staged [] list) ≡ at key list
    rows key = at_staged [] list key (apart_sorted list up) ∙ by (at key list)
      where
        by : (o : Option (Option (List Value))) → else o None ≡ o
        by None = refl
        by (Some r) = refl

-- ---- keys that stand once

-- how often the key stands in the list
abbrev times : {X : Type 0} → Key → List (Key × X) → ℕ
times key es = count_by (λ other. same_key key other) (map (λ (e : Key × _). e.0) es)

times_more : {X : Type 0} (key : Key) (x : Key × X) (es : List (Key × X)) → times key (x ∷ es) ≡ cond (same_key key x.0) 1 0 + times key es
times_more key x es = sum_by-cons (λ other. cond (same_key key other) 1 0) x.0 (map (λ (e : Key × _). e.0) es)

counted_none : {X : Type 0} (es : List (Key × X)) (key : Key) → times key es ≡ 0 → at key es ≡ None
counted_none [] key e = refl
counted_none (x ∷ es) key e = by (same_key key x.0) (sym (times_more key x es) ∙ e) (counted_none es key)
  where
    by : (t : Bool) → cond t 1 0 + times key es ≡ 0 → (times key es ≡ 0 → at key es ≡ None) → cond t (Some x.1) (at key es) ≡ None
    by true e rest = absurd (omega (arith, e))
    by false e rest = rest (omega (arith, e))

once_behind : {X : Type 0} (x : Key × X) (es : List (Key × X)) (key : Key) → times key (x ∷ es) ≤ 1 → times key es ≤ 1
once_behind x es key le = let more = times_more key x es in omega (arith, le, more)

-- edits whose keys stand once each
pub apart_once : {X : Type 0} (es : List (Key × X)) → All (λ key. times key es ≤ 1) (map (λ (e : Key × X). e.0) es) → Apart es
apart_once [] h = tt
apart_once {X} (x ∷ es) h = (
  counted_none es x.0 (let le = h 0 x.0 (omega arith) in let one = itself in omega (arith, le, one)),
  apart_once es (λ k d lt. once_behind x es (get_or (map (λ (e : Key × X). e.0) es) k d) (h (suc k) d (omega (arith, lt)))),
)
  where
    itself : times x.0 (x ∷ es) ≡ 1 + times x.0 es
    itself = times_more x.0 x es ∙ ap (λ o. cond (is_eq o) 1 0 + times x.0 es) (tied_itself key_total x.0)
