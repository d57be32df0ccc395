-- The book and the rows of a list of groups, when groups and claims go or change.
use Rattle.std.proofs.Common.{◌≡◌, ℕ, Bool, true, false, cond, List, [], ◌∷◌, map, filter, get_or, not, None, Some, refl, sym, ap, ◌∙◌}
use Rattle.std.specs.Prelude.{position}
use Rattle.std.specs.List.{AllByRecursion}
use Rattle.std.specs.Option.{option_map}
use Rattle.std.proofs.lemmas.List.Quantifiers.{position-Some}
use Rattle.cs_model.specs.declared.work.Actor.{Actor}
use Rattle.group_book.specs.Book as book
use Rattle.group_book.specs.Book.{Book, Content, is_opened, is_invisible, is_tombstone}
use Rattle.group_book.specs.Choices.{first_of}
use Rattle.group_book.specs.Turns.{is_by, first_claim, same_actor}
use Rattle.group_view.specs.declared.claim.Claim.{Claim}
use Rattle.group_view.specs.declared.groups.Group.{Group}
use Rattle.group_view.specs.declared.groups.GroupContent.{GroupContent}
use Rattle.group_view.specs.declared.groups.GroupContent.TheVariants.{Opened, Closed, Compressed, Invisible, Tombstone}
use Rattle.group_view.specs.Books.{claim_of, content_of, rowed_in_content}
use Rattle.group_view.specs.Lists.{is_open, is_listed, listed}
use Rattle.group_view.specs.Seen.{seen, is_shown, shows, entry_of}
use Rattle.group_directory.proofs.Mapped.{filter-map, first-filter, filter-none}
use Rattle.group_directory.proofs.Opened.{none_found}

pub book_is : (a b : Book) → a.groups ≡ b.groups → a.buffer ≡ b.buffer → a.claims ≡ b.claims → a.next ≡ b.next → a ≡ b
book_is a b g u c n = λ i. record { groups = g i; buffer = u i; claims = c i; next = n i }

-- ---- kinds

pub open_kind : (content : GroupContent) → is_open content ≡ is_opened (content_of content)
open_kind (Opened store) = refl
open_kind (Closed store) = refl
open_kind (Compressed packed marks) = refl
open_kind Invisible = refl
open_kind (Tombstone total deleted) = refl

pub listed_kind : (content : GroupContent) → is_listed content ≡ is_shown (content_of content)
listed_kind (Opened store) = refl
listed_kind (Closed store) = refl
listed_kind (Compressed packed marks) = refl
listed_kind Invisible = refl
listed_kind (Tombstone total deleted) = refl

pub invisible_hidden : (content : GroupContent) → is_invisible (content_of content) ≡ true → is_listed content ≡ false
invisible_hidden (Opened store) is = cc
invisible_hidden (Closed store) is = cc
invisible_hidden (Compressed packed marks) is = cc
invisible_hidden Invisible is = refl
invisible_hidden (Tombstone total deleted) is = cc

pub tombstone_hidden : (content : GroupContent) → is_tombstone (content_of content) ≡ true → is_listed content ≡ false
tombstone_hidden (Opened store) is = cc
tombstone_hidden (Closed store) is = cc
tombstone_hidden (Compressed packed marks) is = cc
tombstone_hidden Invisible is = cc
tombstone_hidden (Tombstone total deleted) is = refl

-- ---- the rows that a view shows

pub listed_seen : (gs : List Group) → listed gs ≡ map entry_of (filter shows (map seen gs))
listed_seen [] = refl
listed_seen (g ∷ gs) = step (is_listed g.content) (is_shown (content_of g.content)) (listed_kind g.content) (listed_seen gs)
  where
    step : (t u : Bool) → t ≡ u → listed gs ≡ map entry_of (filter shows (map seen gs))
        → cond t ((g.id, rowed_in_content g.content) ∷ listed gs) (listed gs) ≡ map entry_of (cond u (seen g ∷ filter shows (map seen gs)) (filter shows (map seen gs)))
    step true true e rest = ap (λ l. (g.id, rowed_in_content g.content) ∷ l) rest
    step true false e rest = cc
    step false true e rest = cc
    step false false e rest = rest

-- groups that are not shown may go
pub listed-filter : (p : Group → Bool) (gs : List Group) → AllByRecursion (λ g. p g ≡ true → is_listed g.content ≡ false) gs → listed (filter (λ g. not (p g)) gs) ≡ listed gs
listed-filter p [] all = refl
listed-filter p (g ∷ gs) all = step (p g) all.0 (listed-filter p gs all.1)
  where
    step : (t : Bool) → (t ≡ true → is_listed g.content ≡ false) → listed (filter (λ h. not (p h)) gs) ≡ listed gs
        → listed (cond (not t) (g ∷ filter (λ h. not (p h)) gs) (filter (λ h. not (p h)) gs)) ≡ cond (is_listed g.content) ((g.id, rowed_in_content g.content) ∷ listed gs) (listed gs)
    step true hidden rest = rw (hidden refl) rest
    step false hidden rest = ap (λ l. cond (is_listed g.content) ((g.id, rowed_in_content g.content) ∷ l) l) rest

pub all-mapped : {X Y : Type 0} (P : Y → Type 0) (f : X → Y) (xs : List X) → AllByRecursion P (map f xs) → AllByRecursion (λ x. P (f x)) xs
all-mapped P f [] all = tt
all-mapped P f (x ∷ xs) all = (all.0, all-mapped P f xs all.1)

-- ---- the claim that an actor holds

abbrev pub holds_it : Actor → Actor × Claim → Bool
holds_it actor held = same_actor held.0 actor

pub first_made : {X : Type 0} (f : X → book.Claim) (xs : List X) → first_claim (map f xs) ≡ option_map f (first_of xs)
first_made f [] = refl
first_made f (x ∷ xs) = refl

pub held_claim : (actor : Actor) (claims : List (Actor × Claim)) (place : ℕ) (held : Actor × Claim) → position (holds_it actor) claims ≡ Some place → held ≡ get_or claims place held
    → first_claim (filter (is_by actor) (map claim_of claims)) ≡ Some (claim_of held)
held_claim actor claims place held at is =
    let found = position-Some (holds_it actor) claims place held at in
    ap first_claim (filter-map (is_by actor) claim_of claims)
    ∙ first_made claim_of (filter (holds_it actor) claims)
    ∙ ap (option_map claim_of) (first-filter (holds_it actor) claims place held found.0 found.1 (λ k lt. found.2 k lt) ∙ ap Some (sym is))

pub no_claim : (actor : Actor) (claims : List (Actor × Claim)) → position (holds_it actor) claims ≡ None → first_claim (filter (is_by actor) (map claim_of claims)) ≡ None
no_claim actor claims at =
    ap first_claim (filter-map (is_by actor) claim_of claims)
    ∙ first_made claim_of (filter (holds_it actor) claims)
    ∙ ap (λ l. option_map claim_of (first_of l)) (filter-none (holds_it actor) claims (λ k d inside. none_found (holds_it actor) claims at k d inside))
