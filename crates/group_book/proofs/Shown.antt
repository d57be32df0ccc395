-- What a book shows at a number is the table there.
use Rattle.std.proofs.Common.{◌≡◌, ℕ, ◌<◌, ◌≤◌, ◌+◌, Bool, true, false, ◌&&◌, ◌||◌, eqb, ltb, leb, List, [], ◌∷◌, Option, Some, None, is_some, not, refl, sym, ap, ◌∙◌, inl, inr, arith}
use Rattle.std.specs.List.{All}
use Rattle.std.specs.Option.{option_map}
use Rattle.std.proofs.lemmas.Bool.Decides.{nat_tests}
use Rattle.std.proofs.lemmas.Bool.{cases_lt}
use Rattle.std.proofs.lemmas.List.Elements.{recursion_from_All, All-contains}
use Rattle.cs_types.specs.declared.Key.{Key}
use Rattle.cs_types.specs.Keys.{same_key}
use Rattle.cs_model.specs.Changes.{Change, made}
use Rattle.group_book.specs.Book.{Version, Ending, how_many, has_ended, is_buffered, shows}
use Rattle.group_book.specs.Book.End.{At}
use Rattle.group_book.specs.Turns.{is_number, holds}
use Rattle.group_book.specs.Stocks.{Stock, Stems, EndFits, IsSeenFrom, IsStockOf, next_change, is_after, is_from, copies, is_end_of}
use Rattle.group_book.proofs.Keys.{key_is}
use Rattle.group_book.proofs.Lists.{both_true, All-in, how_many-same, how_many-none, how_many-found, list_any-found}
use Rattle.group_book.proofs.Changes.{last_at, AreAscending, last-same, last-is, last-ge, last-one, next-above, next-before}

-- the change has a row
abbrev pub makes_row : Option Change → Bool
makes_row change = is_some (made change)

-- the number that a test names
pub at_is : (e : ℕ) (n : Option ℕ) → is_number e n ≡ true → n ≡ Some e
at_is e None h = cc
at_is e (Some f) h = let same : f ≡ e = grind (arith, nat_tests) in ap Some same

pub holds-buffered : (buffer : List Ending) (k : Key) (b e s : ℕ) → b < e → e ≤ s → holds buffer k e ≡ true → is_buffered buffer k b s ≡ true
holds-buffered [] k b e s lt le h = cc
holds-buffered (x ∷ xs) k b e s lt le h = step (same_key k x.key) (eqb x.end e) refl (holds-buffered xs k b e s lt le) h
  where
    or-true : (t : Bool) → (t || true) ≡ true
    or-true true = refl
    or-true false = refl

    step : (p q : Bool) → eqb x.end e ≡ q → (holds xs k e ≡ true → is_buffered xs k b s ≡ true) → ((p && q) || holds xs k e) ≡ true → ((p && (ltb b x.end && leb x.end s)) || is_buffered xs k b s) ≡ true
    step true true is rest h =
        let same : x.end ≡ e = grind (arith, nat_tests) in
        let above : ltb b x.end ≡ true = grind (arith, nat_tests) in
        let within : leb x.end s ≡ true = grind (arith, nat_tests) in
        rw (above, within) refl
    step true false is rest h = rw (rest h) (or-true (true && (ltb b x.end && leb x.end s)))
    step false q is rest h = rest h

module _ (b : Stock) (cs : List Change) (floor : ℕ) (j : IsStockOf b cs floor) (up : AreAscending cs) (s : ℕ) (reach : floor ≤ s) where
  after_step : (n : Option ℕ) (e : ℕ) → e ≤ s → is_after e n ≡ false → is_after s n ≡ false
  after_step None e le h = cc
  after_step (Some f) e le h = grind (arith, nat_tests)

  -- an entry that hides a version is a later change of the key
  buffered_means : (k : Key) (d : ℕ) → is_buffered b.buffer k d s ≡ true → is_after s (next_change cs k d) ≡ false
  buffered_means k d h =
      let found = list_any-found (λ x. same_key k x.key && (ltb d x.end && leb x.end s)) (λ x. how_many (is_end_of cs x) b.frozen ≡ 1) b.buffer (recursion_from_All (λ x. how_many (is_end_of cs x) b.frozen ≡ 1) b.buffer j.entries.owned) h in
      let parts = both_true (same_key k found.0.key) (ltb d found.0.end && leb found.0.end s) found.1 in
      let inner = both_true (ltb d found.0.end) (leb found.0.end s) parts.1 in
      let owner = how_many-found (is_end_of cs found.0) b.frozen (omega (arith, found.2)) in
      let tests = both_true (same_key found.0.key owner.0.key) (is_number found.0.end (next_change cs owner.0.key owner.0.begin)) owner.1 in
      let first : owner.0.key ≡ found.0.key = key_is found.0.key owner.0.key tests.0 in
      let second : found.0.key ≡ k = key_is k found.0.key parts.0 in
      let next = at_is found.0.end (next_change cs owner.0.key owner.0.begin) tests.1 in
      let next_k : next_change cs k owner.0.begin ≡ Some found.0.end = ap (λ (q : Key). next_change cs q owner.0.begin) (sym (first ∙ second)) ∙ next in
      let lt : d < found.0.end = grind (arith, nat_tests, inner.0) in
      let le : found.0.end ≤ s = grind (arith, nat_tests, inner.1) in
      after_step (next_change cs k d) found.0.end le (next-before cs k owner.0.begin d found.0.end next_k lt)

  pub unbuffered : (k : Key) (d : ℕ) → is_after s (next_change cs k d) ≡ true → is_buffered b.buffer k d s ≡ false
  unbuffered k d after = step (is_buffered b.buffer k d s) refl
    where
      step : (t : Bool) → is_buffered b.buffer k d s ≡ t → t ≡ false
      step false is = refl
      step true is = let contrary = buffered_means k d is in cc

  stamped_shown : (e : ℕ) (t : Bool) → (ltb s e ≡ true → t ≡ false) → (not (leb e s) && not t) ≡ ltb s e
  stamped_shown e t h = elim (cases_lt s e) [
    | inl lt ↦
        let after : ltb s e ≡ true = grind (arith, nat_tests) in
        let later : leb e s ≡ false = grind (arith, nat_tests) in
        rw (after, later, h after) refl
    | inr ge ↦
        let not_after : ltb s e ≡ false = grind (arith, nat_tests) in
        let reached : leb e s ≡ true = grind (arith, nat_tests) in
        rw (not_after, reached) refl
  ]

  -- a version is hidden exactly from its next change on
  pub frozen_shown : (v : Version) (n : Option ℕ) → next_change cs v.key v.begin ≡ n → EndFits b.buffer floor v n → (not (has_ended s v.end) && not (is_buffered b.buffer v.key v.begin s)) ≡ is_after s n
  frozen_shown v None is fits = rw (fits, unbuffered v.key v.begin (ap (is_after s) is)) refl
  frozen_shown v (Some e) is fits = elim fits [
    | inl stamped ↦ rw stamped.0 (stamped_shown e (is_buffered b.buffer v.key v.begin s) (λ after. unbuffered v.key v.begin (ap (is_after s) is ∙ after)))
    | inr other ↦ elim other [
      | inl plain ↦ let not_after : ltb s e ≡ false = grind (arith, nat_tests, plain.1) in rw (plain.0, not_after) refl
      | inr buffered ↦ elim (cases_lt s e) [
        | inl lt ↦
            let after : ltb s e ≡ true = grind (arith, nat_tests) in
            rw (buffered.0, after, unbuffered v.key v.begin (ap (is_after s) is ∙ after)) refl
        | inr ge ↦
            let not_after : ltb s e ≡ false = grind (arith, nat_tests) in
            rw (buffered.0, not_after, holds-buffered b.buffer v.key v.begin e s (next-above cs v.key v.begin e is) ge buffered.1) refl
      ]
    ]
  ]

  pub opened_shown : (v : Version) (n : Option ℕ) → next_change cs v.key v.begin ≡ n → v.end ≡ option_map At n → (not (has_ended s v.end) && not (is_buffered b.buffer v.key v.begin s)) ≡ is_after s n
  opened_shown v None is end = rw (end, unbuffered v.key v.begin (ap (is_after s) is)) refl
  opened_shown v (Some e) is end = rw end (stamped_shown e (is_buffered b.buffer v.key v.begin s) (λ after. unbuffered v.key v.begin (ap (is_after s) is ∙ after)))

  -- a version is visible exactly where it stems from the last change at s
  pub from_is : (k : Key) (x : Change) → last_at cs k s ≡ Some x → (v : Version) → Stems cs floor v → (same_key k v.key && (leb v.begin s && is_after s (next_change cs v.key v.begin))) ≡ is_from cs k x.commit v
  from_is k x last v stems = step (same_key k v.key) refl
    where
      o : Change
      o = stems.origin

      inside : v.key ≡ k → (leb v.begin s && is_after s (next_change cs v.key v.begin)) ≡ eqb stems.origin.commit x.commit
      inside key = cases (leb v.begin s) refl (next_change cs v.key v.begin) refl
        where
          last_v : last_at cs v.key s ≡ Some x
          last_v = ap (λ (q : Key). last_at cs q s) key ∙ last

          cases : (t : Bool) → leb v.begin s ≡ t → (n : Option ℕ) → next_change cs v.key v.begin ≡ n → (t && is_after s n) ≡ eqb stems.origin.commit x.commit
          cases false is n n_is =
              let over : s < v.begin = grind (arith, nat_tests) in
              let begin : v.begin ≡ stems.origin.commit = elim stems.begin [ inl same ↦ same | inr below ↦ absurd (omega (arith, below)) ] in
              let low = (last-is cs k s x last).low in
              grind (arith, nat_tests)
          cases true is None n_is =
              let le : v.begin ≤ s = grind (arith, nat_tests) in
              let same = last-same cs v.key v.begin s le (ap (is_after s) n_is) in
              let one : Some stems.origin ≡ Some x = sym stems.is_origin ∙ sym same ∙ last_v in
              let origin : stems.origin ≡ x = cc in
              let number = ap (λ (z : Change). z.commit) origin in
              grind (arith, nat_tests)
          cases true is (Some e) n_is = elim (cases_lt s e) [
            | inl lt ↦
                let le : v.begin ≤ s = grind (arith, nat_tests) in
                let after : ltb s e ≡ true = grind (arith, nat_tests) in
                let same = last-same cs v.key v.begin s le (ap (is_after s) n_is ∙ after) in
                let one : Some stems.origin ≡ Some x = sym stems.is_origin ∙ sym same ∙ last_v in
                let origin : stems.origin ≡ x = cc in
                let number = ap (λ (z : Change). z.commit) origin in
                grind (arith, nat_tests)
            | inr ge ↦
                let later = last-ge cs v.key v.begin s e x up n_is ge last_v in
                let low = (last-is cs v.key v.begin stems.origin stems.is_origin).low in
                let above = next-above cs v.key v.begin e n_is in
                grind (arith, nat_tests)
          ]

      step : (t : Bool) → same_key k v.key ≡ t → (t && (leb v.begin s && is_after s (next_change cs v.key v.begin))) ≡ is_from cs k x.commit v
      step false is = rw is refl
      step true is = let key : v.key ≡ k = key_is k v.key is in inside key ∙ rw (is, stems.is_origin) refl

  abbrev shown_from : Key → Change → Version → Type 0
  shown_from k x v = shows b.buffer k s v ≡ is_from cs k x.commit v

  frozen_from : (k : Key) (x : Change) → last_at cs k s ≡ Some x → All (shown_from k x) b.frozen
  frozen_from k x last = All-in (Stems cs floor) (shown_from k x) b.frozen (λ v in_list stems.
      ap (λ (t : Bool). same_key k v.key && (leb v.begin s && t)) (frozen_shown v (next_change cs v.key v.begin) refl (All-contains (λ (u : Version). EndFits b.buffer floor u (next_change cs u.key u.begin)) b.frozen v j.ends.frozen in_list))
      ∙ from_is k x last v stems) j.versions.frozen

  opened_from : (k : Key) (x : Change) → last_at cs k s ≡ Some x → All (shown_from k x) b.opened
  opened_from k x last = All-in (Stems cs floor) (shown_from k x) b.opened (λ v in_list stems.
      ap (λ (t : Bool). same_key k v.key && (leb v.begin s && t)) (opened_shown v (next_change cs v.key v.begin) refl (All-contains (λ (u : Version). u.end ≡ option_map At (next_change cs u.key u.begin)) b.opened v j.ends.opened in_list))
      ∙ from_is k x last v stems) j.versions.opened

  -- how many versions of a key are visible: the copies of its last change
  pub shown_count : (k : Key) (x : Change) → last_at cs k s ≡ Some x → how_many (shows b.buffer k s) b.frozen + how_many (shows b.buffer k s) b.opened ≡ copies cs k x.commit b
  shown_count k x last = omega (
    arith,
    how_many-same (shows b.buffer k s) (is_from cs k x.commit) b.frozen (recursion_from_All (shown_from k x) b.frozen (frozen_from k x last)),
    how_many-same (shows b.buffer k s) (is_from cs k x.commit) b.opened (recursion_from_All (shown_from k x) b.opened (opened_from k x last)),
  )

  pub is_open : (k : Key) (x : Change) → last_at cs k s ≡ Some x → (n : Option ℕ) → next_change cs k x.commit ≡ n → IsSeenFrom floor n
  is_open k x last None is = tt
  is_open k x last (Some e) is = elim (cases_lt floor e) [
    | inl lt ↦ lt
    | inr ge ↦ omega (arith, last-ge cs k x.commit s e x up is (omega (arith, ge, reach)) last, next-above cs k x.commit e is)
  ]

  -- a key of the table at s has one visible version
  pub shown_once : (k : Key) (x : Change) → last_at cs k s ≡ Some x → is_some x.edit.1 ≡ true → how_many (shows b.buffer k s) b.frozen + how_many (shows b.buffer k s) b.opened ≡ 1
  shown_once k x last some =
      let key = (last-is cs k s x last).key in
      let Kept : Change → Type 0 = λ y. is_some y.edit.1 ≡ true → IsSeenFrom floor (next_change cs y.edit.0 y.commit) → copies cs y.edit.0 y.commit b ≡ 1 in
      let kept = last-one (λ y. is_some y.edit.1 ≡ true → IsSeenFrom floor (next_change cs y.edit.0 y.commit) → copies cs y.edit.0 y.commit b ≡ 1) cs k s x (recursion_from_All (λ y. is_some y.edit.1 ≡ true → IsSeenFrom floor (next_change cs y.edit.0 y.commit) → copies cs y.edit.0 y.commit b ≡ 1) cs j.kept) last in
      shown_count k x last ∙ (rw key at kept) some (is_open k x last (next_change cs k x.commit) refl)

  -- the last change at s of a version that is shown
  pub shown_last : (k : Key) (v : Version) (stems : Stems cs floor v) → (same_key k v.key && (leb v.begin s && is_after s (next_change cs v.key v.begin))) ≡ true → last_at cs k s ≡ Some stems.origin
  shown_last k v stems h =
      let outer = both_true (same_key k v.key) (leb v.begin s && is_after s (next_change cs v.key v.begin)) h in
      let inner = both_true (leb v.begin s) (is_after s (next_change cs v.key v.begin)) outer.1 in
      let key : v.key ≡ k = key_is k v.key outer.0 in
      let le : v.begin ≤ s = grind (arith, nat_tests, inner.0) in
      ap (λ (q : Key). last_at cs q s) (sym key) ∙ last-same cs v.key v.begin s le inner.1 ∙ stems.is_origin

  hidden_step : (k : Key) (v : Version) → Stems cs floor v → makes_row (last_at cs k s) ≡ false → (t : Bool) → (same_key k v.key && (leb v.begin s && is_after s (next_change cs v.key v.begin))) ≡ t → t ≡ false
  hidden_step k v stems none false is = refl
  hidden_step k v stems none true is =
      let row = rw (shown_last k v stems is, stems.row) at none in
      cc

  frozen_hidden : (k : Key) → makes_row (last_at cs k s) ≡ false → All (λ v. shows b.buffer k s v ≡ false) b.frozen
  frozen_hidden k none = All-in (Stems cs floor) (λ v. shows b.buffer k s v ≡ false) b.frozen (λ v in_list stems.
      ap (λ (t : Bool). same_key k v.key && (leb v.begin s && t)) (frozen_shown v (next_change cs v.key v.begin) refl (All-contains (λ (u : Version). EndFits b.buffer floor u (next_change cs u.key u.begin)) b.frozen v j.ends.frozen in_list))
      ∙ hidden_step k v stems none _ refl) j.versions.frozen

  opened_hidden : (k : Key) → makes_row (last_at cs k s) ≡ false → All (λ v. shows b.buffer k s v ≡ false) b.opened
  opened_hidden k none = All-in (Stems cs floor) (λ v. shows b.buffer k s v ≡ false) b.opened (λ v in_list stems.
      ap (λ (t : Bool). same_key k v.key && (leb v.begin s && t)) (opened_shown v (next_change cs v.key v.begin) refl (All-contains (λ (u : Version). u.end ≡ option_map At (next_change cs u.key u.begin)) b.opened v j.ends.opened in_list))
      ∙ hidden_step k v stems none _ refl) j.versions.opened

  -- a key that the table at s has not shows no version
  pub shown_none : (k : Key) → makes_row (last_at cs k s) ≡ false → how_many (shows b.buffer k s) b.frozen + how_many (shows b.buffer k s) b.opened ≡ 0
  shown_none k none = omega (
    arith,
    how_many-none (shows b.buffer k s) b.frozen (recursion_from_All (λ v. shows b.buffer k s v ≡ false) b.frozen (frozen_hidden k none)),
    how_many-none (shows b.buffer k s) b.opened (recursion_from_All (λ v. shows b.buffer k s v ≡ false) b.opened (opened_hidden k none)),
  )
