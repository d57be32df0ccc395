-- The entries that sessions owe, one entry more.
use Rattle.std.proofs.Common.{suc, zero, ◌≡◌, ◌≢◌, ℕ, ◌+◌, ◌*◌, ◌≤◌, List, [], ◌∷◌, ◌++◌, length, refl, ap, subst, ◌∙◌, cond, Bool, true, false, arith, ◌||◌, All, Contains, Global}
use Rattle.std.specs.Prelude.{◌==◌}
use Rattle.std.specs.declared.sync.Arc.{Arc}
use Rattle.std.proofs.lemmas.List.{append-nil}
use Rattle.std.proofs.lemmas.Bool.Decides.{nat_tests}
use Rattle.cs_model.specs.declared.entry.Entry.{Entry}
use Rattle.cs_model.specs.declared.entry.Entry.TheVariants.{Start, Finish, End}
use Rattle.cs_model.specs.declared.entry.Bound.{Bound}
use Rattle.cs_model.specs.declared.entry.Reply.{Reply}
use Rattle.cs_model.specs.Actors.{actor_of, entries_of, begun_by, is_end, is_begun, has_ended, one_if, one_unless, owed_by, owed}
use Rattle.log_laws.specs.Laws.{AreDistinct}
use Rattle.log_laws.proofs.Entries.{entries_push, begun_push, ended_push}

-- an entry of another session changes nothing that these owe
pub one_more : (sessions : List ℕ) (log : List Entry) (e : Entry) → All (λ y. actor_of e ≢ y) sessions → owed (log ++ e ∷ []) sessions ≡ owed log sessions
one_more [] log e apart = refl
one_more (s ∷ sessions) log e apart =
    let ne : (actor_of e == s) ≡ false = let not : actor_of e ≢ s = apart 0 s (omega arith) in grind (arith, nat_tests, not) in
    let same : entries_of s (log ++ e ∷ []) ≡ entries_of s log = entries_push s log e ∙ ap (λ b. entries_of s log ++ cond b (e ∷ []) []) ne ∙ append-nil (entries_of s log) in
    let rest : owed (log ++ e ∷ []) sessions ≡ owed log sessions = one_more sessions log e (λ k d lt. apart (suc k) d (omega arith)) in
    λ i. owed_by (same i) + rest i

behind : (s n : ℕ) (sessions : List ℕ) → (s == n) ≡ false → Contains (s ∷ sessions) n → Contains sessions n
behind s n sessions ne (zero, lt, e) = absurd (let is : s ≡ n = e in grind (arith, nat_tests, is))
behind s n sessions ne (suc k, lt, e) = (k, omega arith, e)

-- an entry changes what its own session owes, and nothing else
pub owed_push : (sessions : List ℕ) (log : List Entry) (e : Entry) → AreDistinct sessions → Contains sessions (actor_of e)
    → owed (log ++ e ∷ []) sessions + owed_by (entries_of (actor_of e) log) ≡ owed log sessions + owed_by (entries_of (actor_of e) log ++ e ∷ [])
owed_push [] log e d c = absurd (omega (arith, c.1))
owed_push (s ∷ sessions) log e d c = at (s == actor_of e) refl (λ k. owed_push sessions log e d.1 k)
  where
    at : (b : Bool) → (s == actor_of e) ≡ b
        → (Contains sessions (actor_of e) → owed (log ++ e ∷ []) sessions + owed_by (entries_of (actor_of e) log) ≡ owed log sessions + owed_by (entries_of (actor_of e) log ++ e ∷ []))
        → owed (log ++ e ∷ []) (s ∷ sessions) + owed_by (entries_of (actor_of e) log) ≡ owed log (s ∷ sessions) + owed_by (entries_of (actor_of e) log ++ e ∷ [])
    at true t ih =
        let is : s ≡ actor_of e = grind (arith, nat_tests) in
        let own : (actor_of e == s) ≡ true = grind (arith, nat_tests) in
        let mine : owed_by (entries_of s (log ++ e ∷ [])) ≡ owed_by (entries_of s log ++ e ∷ []) = ap owed_by (entries_push s log e ∙ ap (λ b. entries_of s log ++ cond b (e ∷ []) []) own) in
        let here : owed_by (entries_of s log ++ e ∷ []) ≡ owed_by (entries_of (actor_of e) log ++ e ∷ []) = ap (λ n. owed_by (entries_of n log ++ e ∷ [])) is in
        let was : owed_by (entries_of s log) ≡ owed_by (entries_of (actor_of e) log) = ap (λ n. owed_by (entries_of n log)) is in
        let rest : owed (log ++ e ∷ []) sessions ≡ owed log sessions = one_more sessions log e (subst (λ n. All (λ y. n ≢ y) sessions) is d.0) in
        omega (arith, mine, here, was, rest)
    at false f ih =
        let other : (actor_of e == s) ≡ false = grind (arith, nat_tests) in
        let mine : owed_by (entries_of s (log ++ e ∷ [])) ≡ owed_by (entries_of s log) = ap owed_by (entries_push s log e ∙ ap (λ b. entries_of s log ++ cond b (e ∷ []) []) other ∙ append-nil (entries_of s log)) in
        let rest = ih (behind s (actor_of e) sessions f c) in
        omega (arith, mine, rest)

-- what a session owes, one entry more
pub owes_push : (es : List Entry) (e : Entry) → owed_by (es ++ e ∷ []) ≡ one_if (begun_by (is_begun es) e) + one_unless (has_ended es || is_end e)
owes_push es e = λ i. one_if (begun_push es e i) + one_unless (ended_push es e i)

-- ---- by the kind of entry

or_false : (b : Bool) → (b || false) ≡ b
or_false true = refl
or_false false = refl

or_true : (b : Bool) → (b || true) ≡ true
or_true true = refl
or_true false = refl

owes : (es : List Entry) (b c : Bool) → is_begun es ≡ b → has_ended es ≡ c → owed_by es ≡ one_if b + one_unless c
owes es b c x y = λ i. one_if (x i) + one_unless (y i)

pub room_start : (sessions : List ℕ) (log : List Entry) (s : ℕ) (b : Arc Bound Global) (short : Bool) → AreDistinct sessions → Contains sessions s → is_begun (entries_of s log) ≡ false
    → owed (log ++ Start s b short ∷ []) sessions ≡ owed log sessions + 1
room_start sessions log s bd short d has b =
    let p = owed_push sessions log (Start s bd short) d has in
    let q = owes_push (entries_of s log) (Start s bd short) ∙ ap (λ x. 1 + one_unless x) (or_false (has_ended (entries_of s log))) in
    let w = owes (entries_of s log) false (has_ended (entries_of s log)) b refl in
    omega (arith, p, q, w)

pub room_finish : (sessions : List ℕ) (log : List Entry) (s : ℕ) (r : Reply) → AreDistinct sessions → Contains sessions s → is_begun (entries_of s log) ≡ true
    → owed (log ++ Finish s r ∷ []) sessions + 1 ≡ owed log sessions
room_finish sessions log s r d has b =
    let p = owed_push sessions log (Finish s r) d has in
    let q = owes_push (entries_of s log) (Finish s r) ∙ ap (λ x. 0 + one_unless x) (or_false (has_ended (entries_of s log))) in
    let w = owes (entries_of s log) true (has_ended (entries_of s log)) b refl in
    omega (arith, p, q, w)

pub room_end : (sessions : List ℕ) (log : List Entry) (s : ℕ) → AreDistinct sessions → Contains sessions s → is_begun (entries_of s log) ≡ false → has_ended (entries_of s log) ≡ false
    → owed (log ++ End s ∷ []) sessions + 1 ≡ owed log sessions
room_end sessions log s d has b e =
    let p = owed_push sessions log (End s) d has in
    let q = owes_push (entries_of s log) (End s) ∙ ap (λ x. 0 + one_unless x) (or_true (has_ended (entries_of s log))) in
    let w = owes (entries_of s log) false false b e in
    omega (arith, p, q, w)

-- ---- how many

-- before the first entry each session owes its End
pub owed_first : (sessions : List ℕ) → owed [] sessions ≡ length sessions
owed_first [] = refl
owed_first (s ∷ sessions) = let e = owed_first sessions in omega (arith, e)

owes_at_most : (b c : Bool) → one_if b + one_unless c ≤ 2
owes_at_most true true = omega arith
owes_at_most true false = omega arith
owes_at_most false true = omega arith
owes_at_most false false = omega arith

-- each session owes at most two entries
pub owed_at_most : (sessions : List ℕ) (log : List Entry) → owed log sessions ≤ 2 * length sessions
owed_at_most [] log = omega arith
owed_at_most (s ∷ sessions) log =
    let rest = owed_at_most sessions log in
    let own = owes_at_most (is_begun (entries_of s log)) (has_ended (entries_of s log)) in
    omega (arith, rest, own)
