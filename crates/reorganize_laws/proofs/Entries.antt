-- The works of a session among entries.
use Rattle.std.proofs.Common.{◌≡◌, ℕ, ◌⊎◌, inl, inr, Bool, true, false, cond, List, [], ◌∷◌, ◌++◌, refl, sym, ap, subst, ◌∙◌, arith}
use Rattle.std.specs.Prelude.{◌==◌, ◌&&◌, Contains}
use Rattle.std.proofs.lemmas.Bool.Decides.{nat_tests}
use Rattle.std.proofs.lemmas.List.{append-nil}
use Rattle.std.proofs.lemmas.List.Concat.{flat_map-append}
use Rattle.std.proofs.lemmas.List.Elements.{filter-append, Contains-append_left, Contains-append_right, Contains-append_cases}
use Rattle.cs_model.specs.declared.entry.Entry.{Entry}
use Rattle.cs_model.specs.declared.entry.Entry.TheVariants as entry
use Rattle.cs_model.specs.declared.work.Actor.{Actor}
use Rattle.cs_model.specs.declared.work.Actor.TheVariants as actor
use Rattle.cs_model.specs.declared.work.Work.{Work}
use Rattle.cs_model.specs.Actors.{actor_of, is_turn, turns_of}
use Rattle.group_book.specs.Turns.{same_actor}
use Rattle.group_log.specs.Reorganizing.{work_by, works_of}
use Rattle.reorganize_laws.proofs.Alike.{same_itself}
use Rattle.reorganize_laws.proofs.Lists.{in_none, in_head, in_tail, in_cases, in_filter}

pub works_append : (session : ℕ) (xs ys : List Entry) → works_of session (xs ++ ys) ≡ works_of session xs ++ works_of session ys
works_append session xs ys = flat_map-append (work_by session) xs ys

pub works_cons : (session : ℕ) (e : Entry) (es : List Entry) → works_of session (e ∷ es) ≡ works_of session (e ∷ []) ++ works_of session es
works_cons session e es = works_append session (e ∷ []) es

-- the works of one entry
pub works_one : (session : ℕ) (by : Actor) (w : Work) (t : Bool) → same_actor by (actor.Session session) ≡ t → works_of session (entry.Mover by w ∷ []) ≡ cond t (w ∷ []) []
works_one session (actor.Session s) w t e = ap (λ u. cond u (w ∷ []) [] ++ []) e ∙ append-nil (cond t (w ∷ []) [])
works_one session (actor.Mover m) w true e = cc
works_one session (actor.Mover m) w false e = refl

pub works_own : (session : ℕ) (w : Work) → works_of session (entry.Mover (actor.Session session) w ∷ []) ≡ w ∷ []
works_own session w = works_one session (actor.Session session) w true (same_itself (actor.Session session))

-- no work is among those of other entries
pub none_left : {X : Type 0} (xs ys : List X) → xs ++ ys ≡ [] → (xs ≡ []) × (ys ≡ [])
none_left [] ys e = (refl, e)
none_left (x ∷ xs) ys e = cc

pub works_none : (session : ℕ) (xs ys : List Entry) → works_of session (xs ++ ys) ≡ [] → (works_of session xs ≡ []) × (works_of session ys ≡ [])
works_none session xs ys e = none_left (works_of session xs) (works_of session ys) (sym (works_append session xs ys) ∙ e)

-- a work of the session that stands among entries is one of its works
pub works_hold : (session : ℕ) (es : List Entry) (w : Work) → Contains es (entry.Mover (actor.Session session) w) → Contains (works_of session es) w
works_hold session [] w c = absurd (in_none (entry.Mover (actor.Session session) w) c)
works_hold session (e ∷ es) w c = subst (λ l. Contains l w) (sym (works_cons session e es)) (elim (in_cases e es (entry.Mover (actor.Session session) w) c) [
  | inl first ↦ Contains-append_left (works_of session (e ∷ [])) (works_of session es) w
      (subst (λ x. Contains (works_of session (x ∷ [])) w) (sym first) (subst (λ l. Contains l w) (sym (works_own session w)) (in_head w [])))
  | inr later ↦ Contains-append_right (works_of session (e ∷ [])) (works_of session es) w (works_hold session es w later)
])

-- an entry of the session with one of its works, and what stands before and after it
pub record StandsAt (session : ℕ) (es : List Entry) (w : Work) : Type 0 where
  pub before : List Entry
  pub behind : List Entry
  pub split : es ≡ before ++ entry.Mover (actor.Session session) w ∷ behind

works_here : (session : ℕ) (e : Entry) (w : Work) → Contains (works_of session (e ∷ [])) w → e ≡ entry.Mover (actor.Session session) w
works_here session (entry.Start s b short) w c = absurd (in_none w c)
works_here session (entry.Finish s r) w c = absurd (in_none w c)
works_here session (entry.End s) w c = absurd (in_none w c)
works_here session (entry.Mover (actor.Mover m) v) w c = absurd (in_none w c)
works_here session (entry.Mover (actor.Session s) v) w c = step (s == session) refl (subst (λ l. Contains l w) (works_one session (actor.Session s) v (s == session) refl) c)
  where
    step : (t : Bool) → (s == session) ≡ t → Contains (cond t (v ∷ []) []) w → entry.Mover (actor.Session s) v ≡ entry.Mover (actor.Session session) w
    step false is c = absurd (in_none w c)
    step true is c = let e : s ≡ session = grind (arith, nat_tests) in elim (in_cases v [] w c) [
      | inl one ↦ ap (λ n. entry.Mover (actor.Session n) v) e ∙ ap (entry.Mover (actor.Session session)) one
      | inr none ↦ absurd (in_none w none)
    ]

pub works_at : (session : ℕ) (es : List Entry) (w : Work) → Contains (works_of session es) w → StandsAt session es w
works_at session [] w c = absurd (in_none w c)
works_at session (e ∷ es) w c = step (in_which (subst (λ l. Contains l w) (works_cons session e es) c)) (works_at session es w)
  where
    in_which : Contains (works_of session (e ∷ []) ++ works_of session es) w → Contains (works_of session (e ∷ [])) w ⊎ Contains (works_of session es) w
    in_which c = Contains-append_cases (works_of session (e ∷ [])) (works_of session es) w c

    step : Contains (works_of session (e ∷ [])) w ⊎ Contains (works_of session es) w → (Contains (works_of session es) w → StandsAt session es w) → StandsAt session (e ∷ es) w
    step (inl first) rest = record { before = []; behind = es; split = ap (λ x. x ∷ es) (works_here session e w first) }
    step (inr later) rest = let at = rest later in record { before = e ∷ at.before; behind = at.behind; split = ap (λ l. e ∷ l) at.split }

-- ---- cuts

-- of two cuts of one list, after the second of which there is no work of the session, the second is not before this work
pub record CutsBehind (x : Entry) (q s r : List Entry) (p : List Entry) : Type 0 where
  pub between : List Entry
  pub first : s ≡ p ++ x ∷ between
  pub second : q ≡ between ++ r

abbrev head_or : {X : Type 0} → X → List X → X
head_or x [] = x
head_or x (y ∷ ys) = y

abbrev rest_of : {X : Type 0} → List X → List X
rest_of [] = []
rest_of (y ∷ ys) = ys

head_is : {X : Type 0} (x y : X) (xs ys : List X) → x ∷ xs ≡ y ∷ ys → x ≡ y
head_is x y xs ys e = ap (head_or x) e

tail_is : {X : Type 0} (x y : X) (xs ys : List X) → x ∷ xs ≡ y ∷ ys → xs ≡ ys
tail_is x y xs ys e = ap rest_of e

pub cuts_behind : (session : ℕ) (w : Work) (p q s r : List Entry) → p ++ entry.Mover (actor.Session session) w ∷ q ≡ s ++ r → works_of session r ≡ [] → CutsBehind (entry.Mover (actor.Session session) w) q s r p
cuts_behind session w [] q [] r e none =
    let own : Entry = entry.Mover (actor.Session session) w in absurd (in_none w (subst (λ l. Contains l w) none (works_hold session r w (subst (λ l. Contains l own) e (in_head own q)))))
cuts_behind session w [] q (y ∷ s) r e none =
    let own : Entry = entry.Mover (actor.Session session) w in record { between = s; first = ap (λ x. x ∷ s) (sym (head_is own y q (s ++ r) e)); second = tail_is own y q (s ++ r) e }
cuts_behind session w (z ∷ p) q [] r e none =
    let own : Entry = entry.Mover (actor.Session session) w in
    absurd (in_none w (subst (λ l. Contains l w) none (works_hold session r w (subst (λ l. Contains l own) e (in_tail z (p ++ own ∷ q) own (Contains-append_right p (own ∷ q) own (in_head own q)))))))
cuts_behind session w (z ∷ p) q (y ∷ s) r e none =
    let own : Entry = entry.Mover (actor.Session session) w in
    let rest = cuts_behind session w p q s r (tail_is z y (p ++ own ∷ q) (s ++ r) e) none in
    record { between = rest.between; first = ap (λ l. y ∷ l) rest.first ∙ ap (λ x. x ∷ (p ++ own ∷ rest.between)) (sym (head_is z y (p ++ own ∷ q) (s ++ r) e)); second = rest.second }

-- ---- what stands after the session's last Start

-- no turn of the session stands in the list
turn_in : (session : ℕ) (es : List Entry) (e : Entry) → Contains es e → (is_turn e && (actor_of e == session)) ≡ true → turns_of session es ≡ [] → ⊥
turn_in session es e c is none = in_none e (subst (λ l. Contains l e) none (in_filter (λ x. is_turn x && (actor_of x == session)) es e c is))

-- two cuts at a turn of the session, after which it has none, are one
pub one_cut : (session : ℕ) (x y : Entry) (p q s r : List Entry) → (is_turn x && (actor_of x == session)) ≡ true → (is_turn y && (actor_of y == session)) ≡ true → turns_of session q ≡ [] → turns_of session r ≡ []
    → p ++ x ∷ q ≡ s ++ y ∷ r → q ≡ r
one_cut session x y [] q [] r x_is y_is q_none r_none e = tail_is x y q r e
one_cut session x y [] q (z ∷ s) r x_is y_is q_none r_none e =
    let rest : q ≡ s ++ y ∷ r = tail_is x z q (s ++ y ∷ r) e in
    absurd (turn_in session q y (subst (λ l. Contains l y) (sym rest) (Contains-append_right s (y ∷ r) y (in_head y r))) y_is q_none)
one_cut session x y (z ∷ p) q [] r x_is y_is q_none r_none e =
    let rest : p ++ x ∷ q ≡ r = tail_is z y (p ++ x ∷ q) r e in
    absurd (turn_in session r x (subst (λ l. Contains l x) rest (Contains-append_right p (x ∷ q) x (in_head x q))) x_is r_none)
one_cut session x y (z ∷ p) q (u ∷ s) r x_is y_is q_none r_none e = one_cut session x y p q s r x_is y_is q_none r_none (tail_is z u (p ++ x ∷ q) (s ++ y ∷ r) e)

pub turns_left : (session : ℕ) (xs ys : List Entry) → turns_of session (xs ++ ys) ≡ [] → turns_of session xs ≡ []
turns_left session xs ys e = (none_left (turns_of session xs) (turns_of session ys) (sym (filter-append (λ x. is_turn x && (actor_of x == session)) xs ys) ∙ e)).0
