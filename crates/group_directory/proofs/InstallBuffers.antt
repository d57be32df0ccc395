-- The buffer and the claims of a list of groups after an install.
use Rattle.std.proofs.Common.{◌≡◌, ℕ, ◌<◌, zero, suc, Bool, true, false, ◌&&◌, ◌||◌, cond, eqb, List, [], ◌∷◌, ◌++◌, map, filter, length, get_or, take, drop, not, Option, Some, None, IsSome, refl, sym, ap, subst, ◌∙◌, arith}
use Rattle.std.specs.Prelude.{position, IfSome}
use Rattle.std.specs.List.{Contains, remove}
use Rattle.std.specs.declared.cmp.Ordering.{Ordering}
use Rattle.std.specs.declared.cmp.Ordering.TheVariants.{Less, Equal, Greater}
use Rattle.std.specs.Ordering.{is_eq, nat_cmp, ordering_then}
use Rattle.std.proofs.lemmas.Bool.Decides.{nat_tests}
use Rattle.std.proofs.lemmas.List.{take-append-drop}
use Rattle.std.proofs.lemmas.List.Elements.{filter-append}
use Rattle.std.proofs.lemmas.List.Kept.{AllPairs-filter}
use Rattle.std.proofs.lemmas.List.Quantifiers.{position-Some}
use Rattle.cs_types.specs.Keys.{key_cmp, same_key}
use Rattle.cs_model.specs.declared.work.Actor.{Actor}
use Rattle.delete_buffer.specs.Entries.{Entry, entry_cmp, is_among, without, AreInOrder}
use Rattle.group_book.specs.Book.{Ending}
use Rattle.group_book.specs.Choices.{first_of}
use Rattle.group_book.specs.Turns.{holds, same_actor, without_claim, without_entries}
use Rattle.group_view.specs.declared.claim.Claim.{Claim}
use Rattle.group_view.specs.Views.{endings_of}
use Rattle.group_view.specs.Books.{claim_of}
use Rattle.group_directory.specs.Installing.{held_by}
use Rattle.group_directory.proofs.Books.{holds_it}
use Rattle.group_directory.proofs.Held.{gone_claims, same_actors}
use Rattle.group_directory.proofs.Mapped.{filter-map, first-filter, filter-none}
use Rattle.group_directory.proofs.Opened.{none_found}

-- ---- entries that go

eq_then : (o p : Ordering) → is_eq (ordering_then o p) ≡ (is_eq o && is_eq p)
eq_then Less p = refl
eq_then Equal p = refl
eq_then Greater p = refl

eq_nat : (m n : ℕ) → is_eq (nat_cmp m n) ≡ eqb n m
eq_nat m n = grind (arith, nat_tests)

among_is : (taken : List Entry) (x : Entry) → is_among taken x ≡ holds (endings_of taken) x.0 x.1
among_is [] x = refl
among_is (y ∷ taken) x =
    (let first = eq_then (key_cmp x.0 y.0) (nat_cmp x.1 y.1) ∙ ap (λ t. same_key x.0 y.0 && t) (eq_nat x.1 y.1) in let rest = among_is taken x in λ i. first i || rest i)

pub endings_without : (taken entries : List Entry) → endings_of (without taken entries) ≡ without_entries (endings_of taken) (endings_of entries)
endings_without taken [] = refl
endings_without taken (x ∷ entries) = rw (among_is taken x) (step (holds (endings_of taken) x.0 x.1) (endings_without taken entries))
  where
    step : (t : Bool) → endings_of (without taken entries) ≡ without_entries (endings_of taken) (endings_of entries)
        → endings_of (cond (not t) (x ∷ without taken entries) (without taken entries)) ≡ cond (not t) (record { key = x.0; end = x.1 } ∷ without_entries (endings_of taken) (endings_of entries)) (without_entries (endings_of taken) (endings_of entries))
    step true rest = rest
    step false rest = ap (λ (l : List Ending). record { key = x.0; end = x.1 } ∷ l) rest

-- ---- entries in order

abbrev to_entry : Ending → Entry
to_entry ending = (ending.key, ending.end)

abbrev to_ending : Entry → Ending
to_ending entry = record { key = entry.0; end = entry.1 }

back : (xs : List Entry) → map to_entry (endings_of xs) ≡ xs
back [] = refl
back (x ∷ xs) = ap (λ l. x ∷ l) (back xs)

-- some of the entries in order are in order
pub ordered_some : (p q : Ending → Bool) (taken entries : List Entry) → AreInOrder entries → endings_of taken ≡ filter p (filter q (endings_of entries)) → AreInOrder taken
ordered_some p q taken entries order is =
    subst AreInOrder (sym same)
    (AllPairs-filter (λ x y. entry_cmp x y ≡ Less) (λ x. p (to_ending x)) (filter (λ x. q (to_ending x)) entries) (AllPairs-filter (λ x y. entry_cmp x y ≡ Less) (λ x. q (to_ending x)) entries order))
  where
    same : taken ≡ filter (λ x. p (to_ending x)) (filter (λ x. q (to_ending x)) entries)
    same =
        sym (back taken) ∙ ap (map to_entry) (is ∙ ap (filter p) (filter-map q to_ending entries) ∙ filter-map p to_ending (filter (λ x. q (to_ending x)) entries))
        ∙ back (filter (λ x. p (to_ending x)) (filter (λ x. q (to_ending x)) entries))

all_kept : (xs : List Ending) → filter (λ (x : Ending). true) xs ≡ xs
all_kept [] = refl
all_kept (x ∷ xs) = ap (λ l. x ∷ l) (all_kept xs)

pub ordered_lent : (q : Ending → Bool) (taken entries : List Entry) → AreInOrder entries → endings_of taken ≡ filter q (endings_of entries) → AreInOrder taken
ordered_lent q taken entries order is = ordered_some (λ (x : Ending). true) q taken entries order (is ∙ sym (all_kept (filter q (endings_of entries))))

-- ---- the claim that an actor holds

pub held_found : (actor : Actor) (claims : List (Actor × Claim)) (place : ℕ) (held : Actor × Claim) → position (holds_it actor) claims ≡ Some place → held ≡ get_or claims place held → held_by actor claims ≡ Some held
held_found actor claims place held at is =
    let found = position-Some (holds_it actor) claims place held at in
    first-filter (holds_it actor) claims place held found.0 found.1 (λ k lt. found.2 k lt) ∙ ap Some (sym is)

pub held_none : (actor : Actor) (claims : List (Actor × Claim)) → position (holds_it actor) claims ≡ None → held_by actor claims ≡ None
held_none actor claims at = ap first_of (filter-none (holds_it actor) claims (λ k d inside. none_found (holds_it actor) claims at k d inside))

drop_next : {X : Type 0} (xs : List X) (i : ℕ) (d : X) → i < length xs → drop i xs ≡ get_or xs i d ∷ drop (suc i) xs
drop_next [] i d inside = absurd (omega (arith, inside))
drop_next (x ∷ xs) zero d inside = refl
drop_next (x ∷ xs) (suc i) d inside = drop_next xs i d (omega (arith, inside))

pub others_left : (actor : Actor) (claims : List (Actor × Claim)) (place : ℕ) (held : Actor × Claim) → position (holds_it actor) claims ≡ Some place
    → filter (λ (h : Actor × Claim). not (same_actor h.0 actor)) (remove claims place) ≡ filter (λ (h : Actor × Claim). not (same_actor h.0 actor)) claims
others_left actor claims place held at =
    let found = position-Some (holds_it actor) claims place held at in
    filter-append other (take place claims) (drop (suc place) claims)
    ∙ ap (λ l. filter other (take place claims) ++ l) (sym (gone (get_or claims place held) found.1))
    ∙ sym (filter-append other (take place claims) (get_or claims place held ∷ drop (suc place) claims))
    ∙ ap (λ l. filter other (take place claims ++ l)) (sym (drop_next claims place held found.0))
    ∙ ap (filter other) (take-append-drop place claims)
  where
    other : Actor × Claim → Bool
    other h = not (same_actor h.0 actor)

    gone : (h : Actor × Claim) → holds_it actor h ≡ true → filter other (h ∷ drop (suc place) claims) ≡ filter other (drop (suc place) claims)
    gone h is = rw is refl

-- it is one of the claims, and the actor's
pub held_there : (actor : Actor) (claims : List (Actor × Claim)) (held : Actor × Claim) → held_by actor claims ≡ Some held → Contains claims held × (same_actor held.0 actor ≡ true)
held_there actor [] held is = absurd (cc is)
held_there actor (h ∷ claims) held is = step (same_actor h.0 actor) refl is (held_there actor claims held)
  where
    step : (t : Bool) → same_actor h.0 actor ≡ t → first_of (cond t (h ∷ filter (λ (x : Actor × Claim). same_actor x.0 actor) claims) (filter (λ (x : Actor × Claim). same_actor x.0 actor) claims)) ≡ Some held
        → (held_by actor claims ≡ Some held → Contains claims held × (same_actor held.0 actor ≡ true)) → Contains (h ∷ claims) held × (same_actor held.0 actor ≡ true)
    step true by found rest = let same : h ≡ held = cc found in ((0, omega arith, same), ap (λ (x : Actor × Claim). same_actor x.0 actor) (sym same) ∙ by)
    step false by found rest =
        let deep = rest found in
        let there = deep.0 in
        ((suc there.0, (let within = there.1 in omega (arith, within)), there.2), deep.1)

pub claims_left : (actor : Actor) (old new : List (Actor × Claim)) (held : Actor × Claim) → held_by actor old ≡ Some held → new ≡ filter (λ (other : Actor × Claim). not (same_actor other.0 actor)) old
    → map claim_of new ≡ without_claim (claim_of held).actor (map claim_of old)
claims_left actor old new held is left = ap (map claim_of) left ∙ gone_claims actor old ∙ ap (λ (by : Actor). without_claim by (map claim_of old)) (sym (same_actors held.0 actor (held_there actor old held is).1))

-- ---- what is said of the one that there is

pub at_held : {X : Type 0} (P : X → Type 0) (o : Option X) (x : X) → o ≡ Some x → P x → IfSome o P
at_held {X = X} P o x is holds = subst (λ (p : Option X). IfSome p P) (sym is) holds

pub if_held : {X : Type 0} (P : X → Type 0) (o : Option X) → ((x : X) → o ≡ Some x → P x) → IfSome o P
if_held P None all = tt
if_held P (Some x) all = all x refl

pub one_held : {X : Type 0} (o : Option X) → IsSome o → (x : X) × (o ≡ Some x)
one_held None some = absurd (cc some)
one_held (Some x) some = (x, refl)

pub of_held : {X : Type 0} (P : X → Type 0) (o : Option X) (x : X) → o ≡ Some x → IfSome o P → P x
of_held {X = X} P o x is all = subst (λ (p : Option X). IfSome p P) is all
