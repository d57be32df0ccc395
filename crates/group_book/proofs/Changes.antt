-- The last and the next change of a key.
use Rattle.std.proofs.Common.{◌≡◌, ℕ, ◌<◌, ◌≤◌, ◌⊎◌, Bool, true, false, ◌&&◌, cond, ltb, leb, List, [], ◌∷◌, ◌++◌, fold, min, max, Option, Some, None, refl, sym, ap, ◌∙◌, inl, inr, subst, arith}
use Rattle.std.specs.List.{AllByRecursion}
use Rattle.std.proofs.lemmas.Bool.Decides.{nat_tests}
use Rattle.std.proofs.lemmas.Bool.{cases_lt}
use Rattle.cs_types.specs.declared.Key.{Key}
use Rattle.cs_types.specs.Keys.{same_key}
use Rattle.cs_model.specs.Changes.{Change, until, newest, last_change}
use Rattle.group_book.specs.Turns.{lesser}
use Rattle.group_book.specs.Stocks.{next_change, is_after}
use Rattle.group_book.proofs.Keys.{key_is}

-- the last change of the key numbered at most s
abbrev pub last_at : List Change → Key → ℕ → Option Change
last_at changes key s = last_change key s changes

abbrev pub later : Option Change → Option Change → Option Change
later None x = x
later (Some y) x = Some y

pub later-none : (o : Option Change) → later o None ≡ o
later-none None = refl
later-none (Some x) = refl

later-assoc : (p q t : Option Change) → later (later p q) t ≡ later p (later q t)
later-assoc None q t = refl
later-assoc (Some x) q t = refl

abbrev taken : Key → Option Change → Change → Option Change
taken key last change = cond (same_key key change.edit.0) (Some change) last

taken_later : (t : Bool) (x : Change) (acc : Option Change) → cond t (Some x) acc ≡ later (cond t (Some x) None) acc
taken_later true x acc = refl
taken_later false x acc = refl

newest_from : (key : Key) (acc : Option Change) (xs : List Change) → fold (taken key) acc xs ≡ later (fold (taken key) None xs) acc
newest_from key acc [] = refl
newest_from key acc (x ∷ xs) =
    newest_from key (taken key acc x) xs
    ∙ ap (later (fold (taken key) None xs)) (taken_later (same_key key x.edit.0) x acc)
    ∙ sym (later-assoc (fold (taken key) None xs) (taken key None x) acc)
    ∙ ap (λ o. later o acc) (sym (newest_from key (taken key None x) xs))

pub last_step : (xs : List Change) (key : Key) (s : ℕ) (x : Change) → last_at (x ∷ xs) key s ≡ later (last_at xs key s) (cond (same_key key x.edit.0 && leb x.commit s) (Some x) None)
last_step xs key s x = step (leb x.commit s) (same_key key x.edit.0) refl
  where
    step : (t q : Bool) → same_key key x.edit.0 ≡ q → newest key (cond t (x ∷ until s xs) (until s xs)) ≡ later (last_at xs key s) (cond (q && t) (Some x) None)
    step true true is = newest_from key (taken key None x) (until s xs) ∙ ap (λ (u : Bool). later (last_at xs key s) (cond u (Some x) None)) is
    step true false is = newest_from key (taken key None x) (until s xs) ∙ ap (λ (u : Bool). later (last_at xs key s) (cond u (Some x) None)) is
    step false true is = sym (later-none (last_at xs key s))
    step false false is = sym (later-none (last_at xs key s))

-- the numbers do not fall along the list
abbrev pub AreAscending : List Change → Type 0
AreAscending [] = Unit {0}
AreAscending (x ∷ xs) = AllByRecursion (λ (y : Change). x.commit ≤ y.commit) xs × AreAscending xs

-- each is numbered at most n
abbrev pub AreBelow : ℕ → List Change → Type 0
AreBelow n xs = AllByRecursion (λ (x : Change). x.commit ≤ n) xs

-- where no change lies above b and at most s, the last change at s is the one at b
last-same_step : (p : Bool) (b s a : ℕ) (n : Option ℕ) → b ≤ s → is_after s (cond (p && ltb b a) (lesser a n) n) ≡ true → (is_after s n ≡ true) × ((p && leb a s) ≡ (p && leb a b))
last-same_step false b s a n h after = (after, refl)
last-same_step true b s a n h after = step (ltb b a) refl n after
  where
    step : (t : Bool) → ltb b a ≡ t → (n : Option ℕ) → is_after s (cond t (lesser a n) n) ≡ true → (is_after s n ≡ true) × ((true && leb a s) ≡ (true && leb a b))
    step false is n after = (after, grind (arith, nat_tests))
    step true is None after = (refl, grind (arith, nat_tests))
    step true is (Some f) after = (grind (arith, nat_tests), grind (arith, nat_tests))

pub last-same : (xs : List Change) (k : Key) (b s : ℕ) → b ≤ s → is_after s (next_change xs k b) ≡ true → last_at xs k s ≡ last_at xs k b
last-same [] k b s h after = refl
last-same (x ∷ xs) k b s h after =
    let parts = last-same_step (same_key k x.edit.0) b s x.commit (next_change xs k b) h after in
    last_step xs k s x
    ∙ ap (λ (o : Option Change). later o (cond (same_key k x.edit.0 && leb x.commit s) (Some x) None)) (last-same xs k b s h parts.0)
    ∙ ap (λ (t : Bool). later (last_at xs k b) (cond t (Some x) None)) parts.1
    ∙ sym (last_step xs k b x)

-- what the last change at s is
pub record IsLastAt (k : Key) (s : ℕ) (x : Change) : Type 0 where
  pub key : x.edit.0 ≡ k
  pub low : x.commit ≤ s

pub last-is : (xs : List Change) (k : Key) (s : ℕ) (x : Change) → last_at xs k s ≡ Some x → IsLastAt k s x
last-is [] k s x is = cc
last-is (y ∷ xs) k s x is = step (last_at xs k s) (same_key k y.edit.0) (leb y.commit s) refl refl (last-is xs k s x) (sym (last_step xs k s y) ∙ is)
  where
    step : (o : Option Change) (p q : Bool) → same_key k y.edit.0 ≡ p → leb y.commit s ≡ q → (o ≡ Some x → IsLastAt k s x) → later o (cond (p && q) (Some y) None) ≡ Some x → IsLastAt k s x
    step (Some z) p q is_p is_q rest is = rest is
    step None true true is_p is_q rest is =
        let same : y ≡ x = cc in
        record {
          key = ap (λ (z : Change). z.edit.0) (sym same) ∙ key_is k y.edit.0 is_p;
          low = let number : y.commit ≡ x.commit = ap (λ (z : Change). z.commit) same in grind (arith, nat_tests);
        }
    step None true false is_p is_q rest is = cc
    step None false q is_p is_q rest is = cc

-- the last change is one of the list
last-all : (xs : List Change) (k : Key) (s n : ℕ) (x : Change) → AllByRecursion (λ y. n ≤ y.commit) xs → last_at xs k s ≡ Some x → n ≤ x.commit
last-all [] k s n x all is = cc
last-all (y ∷ xs) k s n x all is = step (last_at xs k s) (same_key k y.edit.0 && leb y.commit s) (last-all xs k s n x all.1) (sym (last_step xs k s y) ∙ is)
  where
    step : (o : Option Change) (t : Bool) → (o ≡ Some x → n ≤ x.commit) → later o (cond t (Some y) None) ≡ Some x → n ≤ x.commit
    step (Some z) t rest is = rest is
    step None true rest is = let number : y.commit ≡ x.commit = let same : y ≡ x = cc in ap (λ (z : Change). z.commit) same in omega (arith, all.0)
    step None false rest is = cc

lesser-le : (a e : ℕ) (n : Option ℕ) → lesser a n ≡ Some e → e ≤ a
lesser-le a e None is = let same : a ≡ e = cc in omega arith
lesser-le a e (Some f) is = let same : min a f ≡ e = cc in omega arith

lesser-either : (a e : ℕ) (n : Option ℕ) → lesser a n ≡ Some e → (e ≡ a) ⊎ (n ≡ Some e)
lesser-either a e None is = inl (let same : a ≡ e = cc in omega arith)
lesser-either a e (Some f) is = let same : min a f ≡ e = cc in elim (cases_lt a f) [ inl lt ↦ inl (omega arith) | inr ge ↦ inr (ap Some (omega arith)) ]

-- a change above b and at most s makes a last change at s
pub last-some : (xs : List Change) (k : Key) (b s e : ℕ) → next_change xs k b ≡ Some e → e ≤ s → last_at xs k s ≡ None → ⊥
last-some [] k b s e next le is = cc
last-some (y ∷ xs) k b s e next le is = step (last_at xs k s) (same_key k y.edit.0) (ltb b y.commit) (leb y.commit s) refl refl (λ n. last-some xs k b s e n le) next (sym (last_step xs k s y) ∙ is)
  where
    step : (o : Option Change) (p q r : Bool) → last_at xs k s ≡ o → leb y.commit s ≡ r → (next_change xs k b ≡ Some e → last_at xs k s ≡ None → ⊥) → cond (p && q) (lesser y.commit (next_change xs k b)) (next_change xs k b) ≡ Some e → later o (cond (p && r) (Some y) None) ≡ None → ⊥
    step (Some z) p q r o_is r_is rest next is = cc
    step None true true true o_is r_is rest next is = cc
    step None true true false o_is r_is rest next is = elim (lesser-either y.commit e (next_change xs k b) next) [
      | inl same ↦ let over : s < y.commit = grind (arith, nat_tests) in omega (arith, same)
      | inr tail ↦ rest tail o_is
    ]
    step None true false r o_is r_is rest next is = rest next o_is
    step None false q r o_is r_is rest next is = rest next o_is

-- and one at least as late
pub last-ge : (xs : List Change) (k : Key) (b s e : ℕ) (x : Change) → AreAscending xs → next_change xs k b ≡ Some e → e ≤ s → last_at xs k s ≡ Some x → e ≤ x.commit
last-ge [] k b s e x up next le is = cc
last-ge (y ∷ xs) k b s e x up next le is = step (last_at xs k s) (same_key k y.edit.0 && ltb b y.commit) (same_key k y.edit.0 && leb y.commit s) refl (λ n l. last-ge xs k b s e x up.1 n le l) next (sym (last_step xs k s y) ∙ is)
  where
    step : (o : Option Change) (t u : Bool) → last_at xs k s ≡ o → (next_change xs k b ≡ Some e → last_at xs k s ≡ Some x → e ≤ x.commit) → cond t (lesser y.commit (next_change xs k b)) (next_change xs k b) ≡ Some e → later o (cond u (Some y) None) ≡ Some x → e ≤ x.commit
    step (Some z) true u o_is rest next is = omega (arith, lesser-le y.commit e (next_change xs k b) next, last-all xs k s y.commit x up.0 (o_is ∙ is))
    step (Some z) false u o_is rest next is = rest next (o_is ∙ is)
    step None true true o_is rest next is = let number : y.commit ≡ x.commit = let same : y ≡ x = cc in ap (λ (z : Change). z.commit) same in omega (arith, lesser-le y.commit e (next_change xs k b) next)
    step None true false o_is rest next is = cc
    step None false u o_is rest next is = absurd (last-some xs k b s e next le o_is)

-- the next change lies above
pub next-above : (xs : List Change) (k : Key) (b e : ℕ) → next_change xs k b ≡ Some e → b < e
next-above [] k b e is = cc
next-above (y ∷ xs) k b e is = step (same_key k y.edit.0) (ltb b y.commit) refl (next-above xs k b e) is
  where
    step : (p q : Bool) → ltb b y.commit ≡ q → (next_change xs k b ≡ Some e → b < e) → cond (p && q) (lesser y.commit (next_change xs k b)) (next_change xs k b) ≡ Some e → b < e
    step true true q_is rest is = elim (lesser-either y.commit e (next_change xs k b) is) [
      | inl same ↦ let over : b < y.commit = grind (arith, nat_tests) in omega (arith, same)
      | inr tail ↦ rest tail
    ]
    step true false q_is rest is = rest is
    step false q q_is rest is = rest is

-- a change of the key that lies above another begin too is next there or later
pub next-before : (xs : List Change) (k : Key) (b d e : ℕ) → next_change xs k b ≡ Some e → d < e → is_after e (next_change xs k d) ≡ false
next-before [] k b d e is lt = cc
next-before (y ∷ xs) k b d e is lt = step (same_key k y.edit.0) (ltb b y.commit) (ltb d y.commit) (next_change xs k d) refl refl refl (λ n. next-before xs k b d e n lt) is
  where
    above : (n : Option ℕ) (a : ℕ) → a ≤ e → is_after e (lesser a n) ≡ false
    above None a h = grind (arith, nat_tests)
    above (Some f) a h = grind (arith, nat_tests)

    below : (n : Option ℕ) (a : ℕ) → is_after e n ≡ false → is_after e (lesser a n) ≡ false
    below None a h = cc
    below (Some f) a h = grind (arith, nat_tests)

    either : (t : Bool) (n : Option ℕ) (a : ℕ) → is_after e n ≡ false → is_after e (cond t (lesser a n) n) ≡ false
    either true n a h = below n a h
    either false n a h = h

    step : (p q r : Bool) (n : Option ℕ) → ltb b y.commit ≡ q → ltb d y.commit ≡ r → next_change xs k d ≡ n → (next_change xs k b ≡ Some e → is_after e (next_change xs k d) ≡ false) → cond (p && q) (lesser y.commit (next_change xs k b)) (next_change xs k b) ≡ Some e → is_after e (cond (p && r) (lesser y.commit n) n) ≡ false
    step true true r n q_is r_is n_is rest is = elim (lesser-either y.commit e (next_change xs k b) is) [
      | inl same ↦ let passed : ltb d y.commit ≡ true = grind (arith, nat_tests) in rw (sym r_is ∙ passed) (above n y.commit (omega (arith, same)))
      | inr tail ↦ either (true && r) n y.commit (ap (is_after e) (sym n_is) ∙ rest tail)
    ]
    step true false r n q_is r_is n_is rest is = either (true && r) n y.commit (ap (is_after e) (sym n_is) ∙ rest is)
    step false q r n q_is r_is n_is rest is = ap (is_after e) (sym n_is) ∙ rest is

-- where no change lies above b and at most f, the next change after f is the one after b
next-same_step : (p : Bool) (b f a : ℕ) (n : Option ℕ) → b ≤ f → is_after f (cond (p && ltb b a) (lesser a n) n) ≡ true → (is_after f n ≡ true) × ((p && ltb f a) ≡ (p && ltb b a))
next-same_step false b f a n h after = (after, refl)
next-same_step true b f a n h after = step (ltb b a) refl n after
  where
    step : (t : Bool) → ltb b a ≡ t → (n : Option ℕ) → is_after f (cond t (lesser a n) n) ≡ true → (is_after f n ≡ true) × ((true && ltb f a) ≡ (true && ltb b a))
    step false is n after = (after, grind (arith, nat_tests))
    step true is None after = (refl, grind (arith, nat_tests))
    step true is (Some e) after = (grind (arith, nat_tests), grind (arith, nat_tests))

pub next-same : (xs : List Change) (k : Key) (b f : ℕ) → b ≤ f → is_after f (next_change xs k b) ≡ true → next_change xs k f ≡ next_change xs k b
next-same [] k b f h after = refl
next-same (x ∷ xs) k b f h after =
    let parts = next-same_step (same_key k x.edit.0) b f x.commit (next_change xs k b) h after in
    rw (next-same xs k b f h parts.0) (ap (λ (t : Bool). cond t (lesser x.commit (next_change xs k b)) (next_change xs k b)) parts.1)

-- at the greater of f and b too
pub next-max : (xs : List Change) (k : Key) (b f : ℕ) → is_after f (next_change xs k b) ≡ true → next_change xs k (max f b) ≡ next_change xs k b
next-max xs k b f after = elim (cases_lt f b) [
  | inl lt ↦ ap (λ (n : ℕ). next_change xs k n) (omega arith)
  | inr ge ↦ ap (λ (n : ℕ). next_change xs k n) (omega arith) ∙ next-same xs k b f ge after
]

pub last-max : (xs : List Change) (k : Key) (b f : ℕ) → is_after f (next_change xs k b) ≡ true → last_at xs k (max f b) ≡ last_at xs k b
last-max xs k b f after = elim (cases_lt f b) [
  | inl lt ↦ ap (λ (n : ℕ). last_at xs k n) (omega arith)
  | inr ge ↦ ap (λ (n : ℕ). last_at xs k n) (omega arith) ∙ last-same xs k b f ge after
]

-- the last change is one of the list
pub last-one : (P : Change → Type 0) (xs : List Change) (k : Key) (s : ℕ) (x : Change) → AllByRecursion P xs → last_at xs k s ≡ Some x → P x
last-one P [] k s x all is = cc
last-one P (y ∷ xs) k s x all is = step (last_at xs k s) (same_key k y.edit.0 && leb y.commit s) (last-one P xs k s x all.1) (sym (last_step xs k s y) ∙ is)
  where
    step : (o : Option Change) (t : Bool) → (o ≡ Some x → P x) → later o (cond t (Some y) None) ≡ Some x → P x
    step (Some z) t rest is = rest is
    step None true rest is = let same : y ≡ x = cc in subst P same all.0
    step None false rest is = cc

-- the lesser of two numbers that may be there
abbrev pub both : Option ℕ → Option ℕ → Option ℕ
both None o = o
both (Some e) o = lesser e o

lesser-both : (a : ℕ) (n m : Option ℕ) → lesser a (both n m) ≡ both (lesser a n) m
lesser-both a None m = refl
lesser-both a (Some f) None = refl
lesser-both a (Some f) (Some g) = ap Some (omega arith)

next_step : (t : Bool) (a : ℕ) (n m : Option ℕ) → cond t (lesser a (both n m)) (both n m) ≡ both (cond t (lesser a n) n) m
next_step true a n m = lesser-both a n m
next_step false a n m = refl

pub next-append : (xs ys : List Change) (k : Key) (b : ℕ) → next_change (xs ++ ys) k b ≡ both (next_change xs k b) (next_change ys k b)
next-append [] ys k b = refl
next-append (x ∷ xs) ys k b = rw (next-append xs ys k b) (next_step (same_key k x.edit.0 && ltb b x.commit) x.commit (next_change xs k b) (next_change ys k b))

next-le_step : (t : Bool) (a n : ℕ) (o : Option ℕ) → a ≤ n → ((f : ℕ) → o ≡ Some f → f ≤ n) → (e : ℕ) → cond t (lesser a o) o ≡ Some e → e ≤ n
next-le_step true a n o le h e is = elim (lesser-either a e o is) [ inl same ↦ omega (arith, le, same) | inr tail ↦ h e tail ]
next-le_step false a n o le h e is = h e is

pub next-le : (xs : List Change) (n : ℕ) → AreBelow n xs → (k : Key) (b e : ℕ) → next_change xs k b ≡ Some e → e ≤ n
next-le [] n low k b e is = cc
next-le (x ∷ xs) n low k b e is = next-le_step (same_key k x.edit.0 && ltb b x.commit) x.commit n (next_change xs k b) low.0 (next-le xs n low.1 k b) e is

pub last-append : (xs ys : List Change) (k : Key) (b : ℕ) → last_at (xs ++ ys) k b ≡ later (last_at ys k b) (last_at xs k b)
last-append [] ys k b = sym (later-none (last_at ys k b))
last-append (x ∷ xs) ys k b =
    last_step (xs ++ ys) k b x
    ∙ ap (λ (o : Option Change). later o (cond (same_key k x.edit.0 && leb x.commit b) (Some x) None)) (last-append xs ys k b)
    ∙ later-assoc (last_at ys k b) (last_at xs k b) (cond (same_key k x.edit.0 && leb x.commit b) (Some x) None)
    ∙ ap (later (last_at ys k b)) (sym (last_step xs k b x))

pub last-le : (xs : List Change) (n : ℕ) → AreBelow n xs → (k : Key) (b : ℕ) (y : Change) → last_at xs k b ≡ Some y → y.commit ≤ n
last-le xs n low k b y is = last-one (λ (x : Change). x.commit ≤ n) xs k b y low is

-- where nothing is next, the last change stays the last
last-later_step : (p ge le : Bool) (a : ℕ) (x : Change) (n : Option ℕ) → cond (p && ge) (lesser a n) n ≡ None → n ≡ None
last-later_step true true le a x None is = refl
last-later_step true true le a x (Some f) is = cc
last-later_step true false le a x n is = is
last-later_step false ge le a x n is = is

pub last-later : (xs : List Change) (k : Key) (b d : ℕ) → next_change xs k b ≡ None → b ≤ d → last_at xs k d ≡ last_at xs k b
last-later [] k b d none h = refl
last-later (x ∷ xs) k b d none h =
    last_step xs k d x
    ∙ ap (λ (o : Option Change). later o (cond (same_key k x.edit.0 && leb x.commit d) (Some x) None)) (last-later xs k b d (last-later_step (same_key k x.edit.0) (ltb b x.commit) true x.commit x (next_change xs k b) none) h)
    ∙ ap (λ t. later (last_at xs k b) (cond t (Some x) None)) (same_test (same_key k x.edit.0) none)
    ∙ sym (last_step xs k b x)
  where
    not_above : (n : Option ℕ) → cond (ltb b x.commit) (lesser x.commit n) n ≡ None → x.commit ≤ b
    not_above None is = grind (arith, nat_tests)
    not_above (Some f) is = grind (arith, nat_tests)

    same_test : (p : Bool) → cond (p && ltb b x.commit) (lesser x.commit (next_change xs k b)) (next_change xs k b) ≡ None → (p && leb x.commit d) ≡ (p && leb x.commit b)
    same_test true is = let low = not_above (next_change xs k b) is in grind (arith, nat_tests)
    same_test false is = refl

-- two begins with one next change have one last change
pub one_origin : (xs : List Change) (k : Key) (b d e : ℕ) → next_change xs k b ≡ Some e → next_change xs k d ≡ Some e → last_at xs k b ≡ last_at xs k d
one_origin xs k b d e next_b next_d = elim (cases_lt b d) [
  | inl lt ↦
      let below : is_after d (Some e) ≡ true = let above = next-above xs k d e next_d in grind (arith, nat_tests) in
      sym (last-same xs k b d (omega arith) (ap (is_after d) next_b ∙ below))
  | inr ge ↦
      let below : is_after b (Some e) ≡ true = let above = next-above xs k b e next_b in grind (arith, nat_tests) in
      last-same xs k d b ge (ap (is_after b) next_d ∙ below)
]
