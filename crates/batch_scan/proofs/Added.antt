-- Positions that come to others one by one.
use Rattle.std.proofs.Common.{◌≡◌, ◌≢◌, ℕ, suc, ◌<◌, ◌≤◌, ◌+◌, Bool, true, false, not, ◌&&◌, eqb, leb, ltb, List, [], ◌∷◌, ◌++◌, length, get_or, take, map, refl, sym, ap, ◌∙◌, inl, inr, arith}
use Rattle.std.specs.Prelude.{◌||◌, Option, None, Some, slice_index, AllPairs}
use Rattle.std.specs.List.{All, list_any}
use Rattle.std.proofs.lemmas.Bool.{cases_eq, cases_lt, cases_order, eq-eqb, ne_eqb, lt-ltb, le-ltb, le-leb, lt-leb}
use Rattle.std.proofs.lemmas.List.{get_or-map, length-map, map_more}
use Rattle.std.proofs.lemmas.List.Elements.{All-push}
use Rattle.std.proofs.lemmas.List.Folds.{list_any-append, list_any_more, list_any_none}
use Rattle.cs_types.specs.declared.Key.{Key}
use Rattle.cs_types.specs.Keys.{same_key}
use Rattle.write_set.specs.declared.write.Write.{Write}
use Rattle.delete_buffer.specs.Entries.{Entry, merged}
use Rattle.row_group.specs.Groups.{Group, row_at, key_at_place, AreByKey, ArePlacesOf}
use Rattle.row_group.specs.Fields.{begin_in, AreStamps}
use Rattle.row_group.proofs.GroupLemmas.{places_by_key}
use Rattle.group_book.specs.Book.{Ending}
use Rattle.group_book.proofs.Keys.{key_here, key_is}
use Rattle.group_view.specs.Views.{endings_of}
use Rattle.group_view.specs.Spans.{key_at}
use Rattle.group_view.proofs.Noted.{any_of_parts}
use Rattle.batch_scan.specs.Hidden.{is_begun_below, is_ended_by, is_of_key, is_one_of, is_written, Adds}

pub or_false : (b : Bool) → (b || false) ≡ b
or_false true = refl
or_false false = refl

pub or_true : (b : Bool) → (b || true) ≡ true
or_true true = refl
or_true false = refl

and_true : (b : Bool) → (b && true) ≡ b
and_true true = refl
and_true false = refl

and_false : (b : Bool) → (b && false) ≡ false
and_false true = refl
and_false false = refl

or_assoc : (a b c : Bool) → ((a || b) || c) ≡ (a || (b || c))
or_assoc true b c = refl
or_assoc false b c = refl

-- one position more
one_more : (positions : List ℕ) (q p : ℕ) → is_one_of (positions ++ q ∷ []) p ≡ (is_one_of positions p || eqb q p)
one_more positions q p = list_any-append (λ other. eqb other p) positions (q ∷ []) ∙ ap (λ (b : Bool). is_one_of positions p || b) (or_false (eqb q p))

module _ (group : Group) where
  abbrev IsThere : ℕ → Type 0
  IsThere p = p < length group.rows

  pub adds_none : (test : ℕ → Bool) (xs : List ℕ) → ((p : ℕ) → IsThere p → test p ≡ false) → Adds group test xs xs
  adds_none test xs none = record {
    within = λ all. all;
    each = λ p below. sym (ap (λ (b : Bool). is_one_of xs p || b) (none p below) ∙ or_false (is_one_of xs p));
  }

  pub adds_same : (test other : ℕ → Bool) (old new : List ℕ) → ((p : ℕ) → IsThere p → test p ≡ other p) → Adds group test old new → Adds group other old new
  adds_same test other old new same adds = record {
    within = adds.within;
    each = λ p below. adds.each p below ∙ ap (λ (b : Bool). is_one_of old p || b) (same p below);
  }

  pub adds_push : (test other : ℕ → Bool) (old new : List ℕ) (q : ℕ) → IsThere q → ((p : ℕ) → IsThere p → other p ≡ (test p || eqb q p)) → Adds group test old new → Adds group other old (new ++ q ∷ [])
  adds_push test other old new q there is adds = record {
    within = λ all. All-push IsThere new q (adds.within all) there;
    each = λ p below.
        one_more new q p ∙ ap (λ (b : Bool). b || eqb q p) (adds.each p below) ∙ or_assoc (is_one_of old p) (test p) (eqb q p)
        ∙ ap (λ (b : Bool). is_one_of old p || b) (sym (is p below));
  }

  pub adds_more : (first second both : ℕ → Bool) (old mid new : List ℕ) → ((p : ℕ) → IsThere p → both p ≡ (first p || second p)) → Adds group first old mid → Adds group second mid new → Adds group both old new
  adds_more first second both old mid new is a b = record {
    within = λ all. b.within (a.within all);
    each = λ p below.
        b.each p below ∙ ap (λ (t : Bool). t || second p) (a.each p below) ∙ or_assoc (is_one_of old p) (first p) (second p)
        ∙ ap (λ (t : Bool). is_one_of old p || t) (sym (is p below));
  }

-- ---- begins above a snapshot

module _ (s : ℕ) where
  -- a stamp above s is of the position
  abbrev pub late_in : List (ℕ × ℕ) → ℕ → Bool
  late_in stamps p = list_any (λ (stamp : ℕ × ℕ). eqb stamp.0 p && not (leb stamp.1 s)) stamps

  pub late_push : (stamps : List (ℕ × ℕ)) (n : ℕ) (d : ℕ × ℕ) → n < length stamps → s < (get_or stamps n d).1 → (p : ℕ) → late_in (take (n + 1) stamps) p ≡ (late_in (take n stamps) p || eqb (get_or stamps n d).0 p)
  late_push stamps n d there above p =
      let stamp = get_or stamps n d in
      list_any_more (λ (stamp : ℕ × ℕ). eqb stamp.0 p && not (leb stamp.1 s)) stamps n d there
      ∙ ap (λ (b : Bool). late_in (take n stamps) p || (eqb stamp.0 p && not b)) (lt-leb stamp.1 s above)
      ∙ ap (λ (b : Bool). late_in (take n stamps) p || b) (and_true (eqb stamp.0 p))

  pub late_skip : (stamps : List (ℕ × ℕ)) (n : ℕ) (d : ℕ × ℕ) → n < length stamps → (get_or stamps n d).1 ≤ s → (p : ℕ) → late_in (take n stamps) p ≡ late_in (take (n + 1) stamps) p
  late_skip stamps n d there low p =
      let stamp = get_or stamps n d in
      sym (list_any_more (λ (stamp : ℕ × ℕ). eqb stamp.0 p && not (leb stamp.1 s)) stamps n d there
      ∙ ap (λ (b : Bool). late_in (take n stamps) p || (eqb stamp.0 p && not b)) (le-leb stamp.1 s low)
      ∙ ap (λ (b : Bool). late_in (take n stamps) p || b) (and_false (eqb stamp.0 p)) ∙ or_false (late_in (take n stamps) p))

  -- where the base is at most s, the begins above s are the stamps above it
  pub late_is : (base : ℕ) → base ≤ s → (stamps : List (ℕ × ℕ)) → AllPairs (λ x y. x.0 < y.0) stamps → (p : ℕ) → late_in stamps p ≡ not (leb (begin_in stamps base p) s)
  late_is base low [] rising p = sym (ap not (le-leb base s low))
  late_is base low (stamp ∷ stamps) rising p = elim (cases_eq stamp.0 p) [
    | inl same ↦
        let none : late_in stamps p ≡ false = list_any_none (λ (other : ℕ × ℕ). eqb other.0 p && not (leb other.1 s)) stamps (λ k d there.
        let past : stamp.0 < (get_or stamps k d).0 = rising 0 (suc k) d (omega arith) (omega (arith, there)) in
        ap (λ (b : Bool). b && not (leb (get_or stamps k d).1 s)) (ne_eqb (get_or stamps k d).0 p (λ e. absurd (omega (arith, e, past, same))))) in
        rw (eq-eqb stamp.0 p same) (ap (λ (b : Bool). not (leb stamp.1 s) || b) none ∙ or_false (not (leb stamp.1 s)))
    | inr other ↦ rw (ne_eqb stamp.0 p other) (late_is base low stamps (λ i j d less there. rising (suc i) (suc j) d (omega (arith, less)) (omega (arith, there))) p)
  ]

  -- the begins of a group are those of its stamps
  pub begins_are : (group : Group) (stamps : List (ℕ × ℕ)) → AreStamps (map (λ row. row.begin) group.rows) group.base stamps → (p : ℕ) → p < length group.rows → begin_in stamps group.base p ≡ (row_at group p).begin
  begins_are group stamps are p there = are.shown p (omega (arith, there, length-map group.rows (λ row. row.begin))) ∙ get_or-map (λ row. row.begin) group.rows p (record { cells = []; begin = 0 }) 0 there

-- those of the positions below n
pub below_push : (late : ℕ → Bool) (n p : ℕ) → late n ≡ true → (ltb p (n + 1) && late p) ≡ ((ltb p n && late p) || eqb n p)
below_push late n p is = elim (cases_order p n) [
  | inl same ↦
      rw (lt-ltb p (n + 1) (omega (arith, same)), eq-eqb n p (sym same)) (ap late same ∙ is ∙ sym (or_true (ltb p n && late p)))
  | inr (inl less) ↦
      rw (lt-ltb p (n + 1) (omega (arith, less)), lt-ltb p n less, ne_eqb n p (λ e. absurd (omega (arith, e, less)))) (sym (or_false (late p)))
  | inr (inr more) ↦
      rw (le-ltb p (n + 1) (omega (arith, more)), le-ltb p n (omega (arith, more)), ne_eqb n p (λ e. absurd (omega (arith, e, more)))) refl
]

pub below_skip : (late : ℕ → Bool) (n p : ℕ) → late n ≡ false → (ltb p n && late p) ≡ (ltb p (n + 1) && late p)
below_skip late n p is = elim (cases_order p n) [
  | inl same ↦ ap (λ (b : Bool). ltb p n && b) (ap late same ∙ is) ∙ and_false (ltb p n) ∙ sym (ap (λ (b : Bool). ltb p (n + 1) && b) (ap late same ∙ is) ∙ and_false (ltb p (n + 1)))
  | inr (inl less) ↦ ap (λ (b : Bool). b && late p) (lt-ltb p n less ∙ sym (lt-ltb p (n + 1) (omega (arith, less))))
  | inr (inr more) ↦ ap (λ (b : Bool). b && late p) (le-ltb p n (omega (arith, more)) ∙ sym (le-ltb p (n + 1) (omega (arith, more))))
]

-- ---- the rows of a key

-- a walk from one place of a key up to another has added the positions there whose begins are below the end
pub record IsWalk (group : Group) (end : Option ℕ) (from n : ℕ) (old new : List ℕ) : Type 0 where
  pub within : All (λ p. p < length group.rows) old → All (λ p. p < length group.rows) new
  pub done : (i : ℕ) → from ≤ i → i < n → is_one_of new (slice_index group.places i) ≡ (is_one_of old (slice_index group.places i) || is_begun_below end (row_at group (slice_index group.places i)).begin)
  pub others : (p : ℕ) → ((i : ℕ) → from ≤ i → i < n → slice_index group.places i ≢ p) → is_one_of new p ≡ is_one_of old p

module _ (group : Group) (end : Option ℕ) (from : ℕ) (old : List ℕ) where
  pub walk_start : IsWalk group end from from old old
  walk_start = record {
    within = λ all. all;
    done = λ i low high. absurd (omega (arith, low, high));
    others = λ p apart. refl;
  }

  module _ (n : ℕ) (new : List ℕ) (by_key : AreByKey group) (low_n : from ≤ n) (there : n < length group.places) (walk : IsWalk group end from n old new) where
    abbrev at : ℕ → ℕ
    at i = slice_index group.places i

    -- the place is none of those before it
    apart : (i : ℕ) → i < n → at i ≢ at n
    apart i less same = absurd (omega (arith, less, (places_by_key group by_key).once i n (omega (arith, less, there)) there same))

    pub walk_push : (q : ℕ) → q ≡ at n → is_begun_below end (row_at group q).begin ≡ true → IsWalk group end from (n + 1) old (new ++ q ∷ [])
    walk_push q is below = record {
      within = λ all. All-push (λ p. p < length group.rows) new q (walk.within all) (omega (arith, is, (places_by_key group by_key).within n there));
      done = λ i low high. elim (cases_lt i n) [
        | inl less ↦
            one_more new q (at i) ∙ ap (λ (b : Bool). is_one_of new (at i) || b) (ne_eqb q (at i) (λ e. apart i less (sym e ∙ is)))
            ∙ or_false (is_one_of new (at i)) ∙ walk.done i low less
        | inr more ↦
            let same : i ≡ n = omega (arith, high, more) in
            let here : at i ≡ q = ap at same ∙ sym is in
            one_more new q (at i) ∙ ap (λ (b : Bool). is_one_of new (at i) || b) (eq-eqb q (at i) (sym here)) ∙ or_true (is_one_of new (at i))
            ∙ sym (ap (λ (p : ℕ). is_one_of old (at i) || is_begun_below end (row_at group p).begin) here ∙ ap (λ (b : Bool). is_one_of old (at i) || b) below ∙ or_true (is_one_of old (at i)))
      ];
      others = λ p far.
          one_more new q p ∙ ap (λ (b : Bool). is_one_of new p || b) (ne_eqb q p (λ e. far n low_n (omega arith) (sym is ∙ e)))
          ∙ or_false (is_one_of new p) ∙ walk.others p (λ i low less. far i low (omega (arith, less)));
    }

    pub walk_skip : (q : ℕ) → q ≡ at n → is_begun_below end (row_at group q).begin ≡ false → IsWalk group end from (n + 1) old new
    walk_skip q is above = record {
      within = walk.within;
      done = λ i low high. elim (cases_lt i n) [
        | inl less ↦ walk.done i low less
        | inr more ↦
            let same : i ≡ n = omega (arith, high, more) in
            let here : at i ≡ q = ap at same ∙ sym is in
            walk.others (at i) (λ j _ less e. apart j less (e ∙ ap at same))
            ∙ sym (ap (λ (p : ℕ). is_one_of old (at i) || is_begun_below end (row_at group p).begin) here ∙ ap (λ (b : Bool). is_one_of old (at i) || b) above ∙ or_false (is_one_of old (at i)))
      ];
      others = λ p far. walk.others p (λ i low less. far i low (omega (arith, less)));
    }

  -- where all places of the key are walked, its rows are added
  pub walk_end : (key : Key) (to n : ℕ) (new : List ℕ) → ArePlacesOf group key from to → n ≡ to → IsWalk group end from n old new → Adds group (is_of_key key end group) old new
  walk_end key to n new places all walk = record {
    within = walk.within;
    each = λ p there. step p there (same_key (key_at group p) key) refl;
  }
    where
      step : (p : ℕ) → p < length group.rows → (t : Bool) → same_key (key_at group p) key ≡ t → is_one_of new p ≡ (is_one_of old p || (same_key (key_at group p) key && is_begun_below end (row_at group p).begin))
      step p there true is =
          let found = places.every p there (sym (key_is (key_at group p) key is)) in
          let here = found.3 in
          ap (is_one_of new) (sym here) ∙ walk.done found.0 found.1 (omega (arith, found.2, all))
          ∙ ap (λ (q : ℕ). is_one_of old q || is_begun_below end (row_at group q).begin) here
          ∙ ap (λ (b : Bool). is_one_of old p || (b && is_begun_below end (row_at group p).begin)) (sym is)
      step p there false is =
          walk.others p (λ i low less e. other i (places.of_key i low (omega (arith, less, all))) e)
          ∙ sym (ap (λ (b : Bool). is_one_of old p || (b && is_begun_below end (row_at group p).begin)) is ∙ or_false (is_one_of old p))
        where
          other : (i : ℕ) → key_at_place group i ≡ key → slice_index group.places i ≡ p → ⊥
          other i own e =
              let same : same_key (key_at group p) key ≡ true = key_here (key_at group p) key (sym own ∙ ap (key_at group) e) in
              absurd (no_both same)
            where
              no_both : same_key (key_at group p) key ≡ true → ⊥
              no_both same = cc

-- ---- the delete buffer

module _ (entries : List Entry) (n : ℕ) (d : Entry) (there : n < length entries) (s : ℕ) (group : Group) where
  entry : Entry
  entry = get_or entries n d

  tested : (p : ℕ) → Ending → Bool
  tested p e = same_key (key_at group p) e.key && (ltb (row_at group p).begin e.end && leb e.end s)

  ended_more : (p : ℕ) → is_ended_by (take (n + 1) entries) s group p ≡ (is_ended_by (take n entries) s group p || (same_key (key_at group p) (get_or entries n d).0 && (ltb (row_at group p).begin (get_or entries n d).1 && leb (get_or entries n d).1 s)))
  ended_more p =
      let test = λ (e : Ending). same_key (key_at group p) e.key && (ltb (row_at group p).begin e.end && leb e.end s) in
      let last = get_or entries n d in
      let ending : Ending = record { key = last.0; end = last.1 } in
      ap (list_any test) (map_more (λ (entry : Entry). record { key = entry.0; end = entry.1 }) entries n d there)
      ∙ list_any-append test (endings_of (take n entries)) (ending ∷ [])
      ∙ ap (λ (b : Bool). list_any test (endings_of (take n entries)) || b) (or_false (test ending))

  -- an entry at most at s ends the rows of its key that have begun below it
  pub ended_push : (get_or entries n d).1 ≤ s → (p : ℕ) → is_ended_by (take (n + 1) entries) s group p ≡ (is_ended_by (take n entries) s group p || is_of_key (get_or entries n d).0 (Some (get_or entries n d).1) group p)
  ended_push low p =
      let last = get_or entries n d in
      ended_more p
      ∙ ap (λ (b : Bool). is_ended_by (take n entries) s group p || (same_key (key_at group p) last.0 && (ltb (row_at group p).begin last.1 && b))) (le-leb last.1 s low)
      ∙ ap (λ (b : Bool). is_ended_by (take n entries) s group p || (same_key (key_at group p) last.0 && b)) (and_true (ltb (row_at group p).begin last.1))

  -- one above s ends none
  pub ended_skip : s < (get_or entries n d).1 → (p : ℕ) → is_ended_by (take n entries) s group p ≡ is_ended_by (take (n + 1) entries) s group p
  ended_skip above p =
      let last = get_or entries n d in
      sym (ended_more p
      ∙ ap (λ (b : Bool). is_ended_by (take n entries) s group p || (same_key (key_at group p) last.0 && (ltb (row_at group p).begin last.1 && b))) (lt-leb last.1 s above)
      ∙ ap (λ (b : Bool). is_ended_by (take n entries) s group p || (same_key (key_at group p) last.0 && b)) (and_false (ltb (row_at group p).begin last.1))
      ∙ ap (λ (b : Bool). is_ended_by (take n entries) s group p || b) (and_false (same_key (key_at group p) last.0))
      ∙ or_false (is_ended_by (take n entries) s group p))

-- the rows that the entries of two parts have ended are those that the entries of either have
pub ended_parts : (entries settled recent : List Entry) (s : ℕ) (group : Group) → entries ≡ merged settled recent → (p : ℕ) → is_ended_by entries s group p ≡ (is_ended_by settled s group p || is_ended_by recent s group p)
ended_parts entries settled recent s group is p =
    any_of_parts (λ (e : Ending). same_key (key_at group p) e.key && (ltb (row_at group p).begin e.end && leb e.end s)) entries settled recent is

-- ---- own writes

-- a write is of all rows of its key
pub written_push : (own : List Write) (n : ℕ) (d : Write) → n < length own → (group : Group) (p : ℕ) → is_written (take (n + 1) own) group p ≡ (is_written (take n own) group p || is_of_key (get_or own n d).key None group p)
written_push own n d there group p =
    list_any_more (λ (write : Write). same_key (key_at group p) write.key) own n d there
    ∙ ap (λ (b : Bool). is_written (take n own) group p || b) (sym (and_true (same_key (key_at group p) (get_or own n d).key)))
