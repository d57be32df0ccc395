-- Entries that are noted group by group.
use Rattle.std.proofs.Common.{◌≡◌, ◌≢◌, ℕ, zero, suc, ◌+◌, ◌<◌, ◌≤◌, inl, inr, Bool, true, false, ◌&&◌, cond, ltb, List, [], ◌∷◌, ◌++◌, map, filter, take, get_or, set, replicate, length, Option, refl, sym, ap, ◌∙◌, arith}
use Rattle.std.specs.Prelude.{◌||◌, pos}
use Rattle.std.specs.List.{list_any}
use Rattle.std.proofs.lemmas.Bool.{cases_lt, cases_eq, lt-ltb, le-ltb}
use Rattle.std.proofs.lemmas.List.{take_more, length-map, length-set, get_or-map, get_or_default, get_or-set_same, get_or-set_other, same_lists}
use Rattle.std.proofs.lemmas.List.Elements.{filter-append}
use Rattle.std.proofs.lemmas.List.Folds.{list_any-append, list_any_none}
use Rattle.delete_bitmap.specs.declared.MarkedEnd.{MarkedEnd}
use Rattle.delete_buffer.specs.Entries.{Entry, merged}
use Rattle.delete_buffer.proofs.TwoParts.{any-merged}
use Rattle.row_group.specs.Groups.{Group}
use Rattle.group_book.specs.Book.{Ending}
use Rattle.group_book.specs.Turns.{ends}
use Rattle.group_view.specs.declared.span.Span.{Span}
use Rattle.group_view.specs.Spans.{IsSpanOf}
use Rattle.group_view.specs.Views.{endings_of}
use Rattle.group_view.proofs.EndLemmas.{no_row_ended, versions}
use Rattle.group_view.proofs.Walks.{and_false, any-map, or_false}

-- the entry as the book has it
abbrev pub ending_of : Entry → Ending
ending_of entry = record { key = entry.0; end = entry.1 }

-- before any is noted
pub none_noted : (entries : List Entry) → replicate (length entries) false ≡ map (λ (entry : Ending). false) (endings_of entries)
none_noted [] = refl
none_noted (x ∷ entries) = ap (λ (bits : List Bool). false ∷ bits) (none_noted entries)

-- ---- marked entries

-- the mark at a place is the test of the entry there
pub mark_at : (p : Ending → Bool) (entries : List Entry) (marks : List Bool) (i : ℕ) (d : Entry) → i < length entries → marks ≡ map p (endings_of entries) → get_or marks i false ≡ p (ending_of (get_or entries i d))
mark_at p entries marks i d there are =
    ap (λ (bits : List Bool). get_or bits i false) are
    ∙ get_or-map p (endings_of entries) i (ending_of d) false (omega (arith, there, length-map entries ending_of))
    ∙ ap p (get_or-map ending_of entries i d (ending_of d) there)

-- one entry more, where it is marked
pub marked_more : (p : Entry → Bool) (entries : List Entry) (i : ℕ) (d : Entry) (some : List Entry) (mark : Bool) → i < length entries → some ≡ filter p (take i entries) → mark ≡ p (get_or entries i d)
    → some ++ cond mark (get_or entries i d ∷ []) [] ≡ filter p (take (i + 1) entries)
marked_more p entries i d some mark there so_far is =
    ap (λ (before : List Entry). before ++ cond mark (get_or entries i d ∷ []) []) so_far
    ∙ ap (λ (t : Bool). filter p (take i entries) ++ cond t (get_or entries i d ∷ []) []) is
    ∙ sym (filter-append p (take i entries) (get_or entries i d ∷ []))
    ∙ ap (filter p) (sym (take_more entries i d there))

-- ---- tests of a part of the entries

module _ {X : Type 0} (test : X → Bool) where
  -- where no element from n on passes, the first n tell
  pub any_before : (xs : List X) (n : ℕ) → ((i : ℕ) (d : X) → n ≤ i → i < length xs → test (get_or xs i d) ≡ false) → list_any test (take n xs) ≡ list_any test xs
  any_before xs zero none = sym (list_any_none test xs (λ i d there. none i d (omega arith) there))
  any_before [] (suc n) none = refl
  any_before (x ∷ xs) (suc n) none = ap (λ (b : Bool). test x || b) (any_before xs n (λ i d from there. none (suc i) d (omega (arith, from)) (omega (arith, there))))

  -- where none of the first n passes, they have none
  pub none_before : (xs : List X) (n : ℕ) → ((i : ℕ) (d : X) → i < n → i < length xs → test (get_or xs i d) ≡ false) → list_any test (take n xs) ≡ false
  none_before xs zero none = refl
  none_before [] (suc n) none = refl
  none_before (x ∷ xs) (suc n) none =
      ap (λ (b : Bool). b || list_any test (take n xs)) (none 0 x (omega arith) (omega arith))
      ∙ none_before xs n (λ i d below there. none (suc i) d (omega (arith, below)) (omega (arith, there)))

  -- one element more
  pub any_more : (xs : List X) (n : ℕ) (d : X) → n < length xs → list_any test (take (n + 1) xs) ≡ (list_any test (take n xs) || test (get_or xs n d))
  any_more xs n d there =
      ap (list_any test) (take_more xs n d there)
      ∙ list_any-append test (take n xs) (get_or xs n d ∷ [])
      ∙ ap (λ (b : Bool). list_any test (take n xs) || b) (or_false (test (get_or xs n d)))

-- one of two parts' entries passes where one of either part does
pub any_of_parts : (test : Ending → Bool) (entries settled recent : List Entry) → entries ≡ merged settled recent
    → list_any test (endings_of entries) ≡ (list_any test (endings_of settled) || list_any test (endings_of recent))
any_of_parts test entries settled recent is =
    ap (λ (all : List Entry). list_any test (endings_of all)) is
    ∙ any-map test ending_of (merged settled recent)
    ∙ any-merged (λ entry. test (ending_of entry)) settled recent
    ∙ ap (λ (b : Bool). b || list_any (λ entry. test (ending_of entry)) recent) (sym (any-map test ending_of settled))
    ∙ ap (λ (b : Bool). list_any test (endings_of settled) || b) (sym (any-map test ending_of recent))

-- ---- notes

or_true : (t : Bool) → (t || true) ≡ true
or_true true = refl
or_true false = refl

module _ (entries : List Entry) (test ended : Ending → Bool) where
  -- beside the entries that pass one test, those of the first n are noted that pass another
  pub record Noted (n : ℕ) (noted : List Bool) : Type 0 where
    pub long : length noted ≡ length entries
    pub each : (i : ℕ) (d : Entry) → i < length entries → get_or noted i false ≡ (test (ending_of (get_or entries i d)) || (ltb i n && ended (ending_of (get_or entries i d))))

  below : (i n : ℕ) (t : Bool) → i < n → (ltb i n && t) ≡ t
  below i n t less = ap (λ (b : Bool). b && t) (lt-ltb i n less)

  not_below : (i n : ℕ) (t : Bool) → n ≤ i → (ltb i n && t) ≡ false
  not_below i n t up = ap (λ (b : Bool). b && t) (le-ltb i n up)

  none_passes : (i n : ℕ) (d : Entry) → ended (ending_of (get_or entries i d)) ≡ false → (ltb i n && ended (ending_of (get_or entries i d))) ≡ false
  none_passes i n d none = ap (λ (b : Bool). ltb i n && b) none ∙ and_false (ltb i n)

  -- before a place from which on some may pass
  pub noted_first : (n : ℕ) (noted : List Bool) → noted ≡ map test (endings_of entries) → ((i : ℕ) (d : Entry) → i < length entries → i < n → ended (ending_of (get_or entries i d)) ≡ false) → Noted n noted
  noted_first n noted are none = record {
    long = ap length are ∙ length-map (endings_of entries) test ∙ length-map entries ending_of;
    each = λ i d there.
        mark_at test entries noted i d there are
        ∙ sym (ap (λ (b : Bool). test (ending_of (get_or entries i d)) || b) (past i d there) ∙ or_false (test (ending_of (get_or entries i d))));
  }
    where
      past : (i : ℕ) (d : Entry) → i < length entries → (ltb i n && ended (ending_of (get_or entries i d))) ≡ false
      past i d there = elim (cases_lt i n) [
        | inl less ↦ none_passes i n d (none i d there less)
        | inr up ↦ not_below i n (ended (ending_of (get_or entries i d))) up
      ]

  -- the entry at the next place passes, or it does not
  pub noted_one : (n : ℕ) (noted : List Bool) (x : Entry) → n < length entries → ended (ending_of (get_or entries n x)) ≡ true → Noted n noted → Noted (n + 1) (set noted n true)
  noted_one n noted x here passes is = record {
    long = length-set noted n true ∙ is.long;
    each = λ i d there. elim (cases_eq i n) [
      | inl same ↦
          ap (λ (k : ℕ). get_or (set noted n true) k false) same
          ∙ get_or-set_same noted n true false (omega (arith, here, is.long))
          ∙ sym (ap (λ (b : Bool). test (ending_of (get_or entries i d)) || b) (below i (n + 1) _ (omega (arith, same)) ∙ ap (λ (k : ℕ). ended (ending_of (get_or entries k d))) same ∙ ap (λ (e : Entry). ended (ending_of e)) (get_or_default entries n d x here) ∙ passes) ∙ or_true (test (ending_of (get_or entries i d))))
      | inr other ↦ get_or-set_other noted n i true false other ∙ is.each i d there ∙ ap (λ (b : Bool). test (ending_of (get_or entries i d)) || b) (as_before i d other)
    ];
  }
    where
      as_before : (i : ℕ) (d : Entry) → i ≢ n → (ltb i n && ended (ending_of (get_or entries i d))) ≡ (ltb i (n + 1) && ended (ending_of (get_or entries i d)))
      as_before i d other = elim (cases_lt i n) [
        | inl less ↦ below i n _ less ∙ sym (below i (n + 1) _ (omega (arith, less)))
        | inr up ↦ not_below i n _ up ∙ sym (not_below i (n + 1) _ (let more : n < i = beyond n i up other in omega (arith, more)))
      ]
        where
          beyond : (a b : ℕ) → a ≤ b → b ≢ a → a < b
          beyond a b up other = elim (cases_lt a b) [
            | inl less ↦ less
            | inr more ↦ absurd (other (omega (arith, up, more)))
          ]

  pub noted_other : (n : ℕ) (noted : List Bool) (x : Entry) → n < length entries → ended (ending_of (get_or entries n x)) ≡ false → Noted n noted → Noted (n + 1) noted
  noted_other n noted x here fails is = record {
    long = is.long;
    each = λ i d there. is.each i d there ∙ ap (λ (b : Bool). test (ending_of (get_or entries i d)) || b) (as_before i d);
  }
    where
      fails_at : (i : ℕ) (d : Entry) → i ≡ n → ended (ending_of (get_or entries i d)) ≡ false
      fails_at i d same = ap (λ (k : ℕ). ended (ending_of (get_or entries k d))) same ∙ ap (λ (e : Entry). ended (ending_of e)) (get_or_default entries n d x here) ∙ fails

      as_before : (i : ℕ) (d : Entry) → (ltb i n && ended (ending_of (get_or entries i d))) ≡ (ltb i (n + 1) && ended (ending_of (get_or entries i d)))
      as_before i d = elim (cases_lt i n) [
        | inl less ↦ below i n _ less ∙ sym (below i (n + 1) _ (omega (arith, less)))
        | inr up ↦ elim (cases_lt n i) [
          | inl more ↦ not_below i n _ up ∙ sym (not_below i (n + 1) _ (omega (arith, more)))
          | inr low ↦ none_passes i n d (fails_at i d (omega (arith, up, low))) ∙ sym (none_passes i (n + 1) d (fails_at i d (omega (arith, up, low))))
        ]
      ]

  -- after the last place at which one may pass
  pub noted_last : (n : ℕ) (noted : List Bool) → ((i : ℕ) (d : Entry) → i < length entries → n ≤ i → ended (ending_of (get_or entries i d)) ≡ false) → Noted n noted → noted ≡ map (λ entry. test entry || ended entry) (endings_of entries)
  noted_last n noted none is = same_lists noted (map both (endings_of entries)) (is.long ∙ sym (length-map (endings_of entries) both ∙ length-map entries ending_of)) (λ i t there.
      let inside : i < length entries = omega (arith, there, is.long) in
      get_or_default noted i t false there
      ∙ is.each i blank inside
      ∙ ap (λ (b : Bool). test (ending_of (get_or entries i blank)) || b) (all i blank inside)
      ∙ sym (mark_at both entries (map both (endings_of entries)) i blank inside refl)
      ∙ get_or_default (map both (endings_of entries)) i false t (omega (arith, inside, length-map (endings_of entries) both, length-map entries ending_of)))
    where
      blank : Entry
      blank = (record { 0 = pos 0 }, 0)

      both : Ending → Bool
      both entry = test entry || ended entry

      all : (i : ℕ) (d : Entry) → i < length entries → (ltb i n && ended (ending_of (get_or entries i d))) ≡ ended (ending_of (get_or entries i d))
      all i d there = elim (cases_lt i n) [
        | inl less ↦ below i n _ less
        | inr up ↦ not_below i n _ up ∙ sym (none i d there up)
      ]

-- ---- the entries of a group's keys, among all that are held
module _ (group : Group) (marks : List (Option MarkedEnd)) (held entries : List Entry) (span : Span) (is : IsSpanOf group entries span) where
  -- the entry ends a version of the group
  abbrev pub ended_here : Ending → Bool
  ended_here entry = list_any (ends (endings_of held) entry) (versions group marks)

  abbrev pub ended_one : Entry → Bool
  ended_one entry = ended_here (ending_of entry)

  -- those before the span end none, nor do those after it
  pub none_first : (i : ℕ) (d : Entry) → i < length entries → i < span.from → ended_one (get_or entries i d) ≡ false
  none_first i d there low = no_row_ended group marks held (get_or entries i d).0 (get_or entries i d).1 (is.before i d there low)

  pub none_last : (i : ℕ) (d : Entry) → i < length entries → span.to ≤ i → ended_one (get_or entries i d) ≡ false
  none_last i d there up = no_row_ended group marks held (get_or entries i d).0 (get_or entries i d).1 (is.after i d there up)

  pub first_any : list_any ended_one (take span.from entries) ≡ false
  first_any = none_before ended_one entries span.from (λ i d low there. none_first i d there low)

  pub last_any : (n : ℕ) → span.to ≤ n → list_any ended_one (take n entries) ≡ list_any ended_here (endings_of entries)
  last_any n past = any_before ended_one entries n (λ i d from there. none_last i d there (omega (arith, from, past))) ∙ sym (any-map ended_here ending_of entries)
