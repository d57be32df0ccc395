-- What is kept true of a list of groups, when it changes; and the book that it stands for then.
use Rattle.std.proofs.Common.{◌≡◌, ℕ, ◌+◌, Bool, true, false, List, [], ◌∷◌, map, filter, length, get_or, not, Option, Some, sym, ap, subst, ◌∙◌, arith}
use Rattle.std.specs.Prelude.{position}
use Rattle.std.specs.List.{All, AllByRecursion}
use Rattle.std.proofs.lemmas.Bool.{eqb-true}
use Rattle.std.proofs.lemmas.List.Elements.{recursion_from_All, All-filter}
use Rattle.std.proofs.lemmas.List.Quantifiers.{position-Some}
use Rattle.cs_model.specs.declared.work.Actor.{Actor}
use Rattle.cs_model.specs.declared.work.Actor.TheVariants.{Session, Mover}
use Rattle.group_book.specs.Book as book
use Rattle.group_book.specs.Book.{Book, how_many, is_invisible, is_tombstone}
use Rattle.group_book.specs.Choices.{tombstone_count}
use Rattle.group_book.specs.Turns.{is_by, is_fresh, same_actor, after_release, after_clear, claim_by, released}
use Rattle.group_book.proofs.Lists.{how_many-map, weaker}
use Rattle.group_view.specs.declared.claim.Claim.{Claim}
use Rattle.group_view.specs.declared.groups.Group.{Group}
use Rattle.group_view.specs.declared.groups.GroupList.{GroupList}
use Rattle.group_view.specs.declared.parts.GroupPart.{GroupPart}
use Rattle.group_view.specs.Parts.{IsFitting}
use Rattle.group_view.specs.Views.{endings_of}
use Rattle.group_view.specs.Books.{book_of, claim_of, content_of, group_of}
use Rattle.group_view.specs.Lists.{is_listed, listed, packed_in, IsFittingContent, IsHeld, IsOpenAt}
use Rattle.group_directory.specs.Sharing.{IsSameList}
use Rattle.group_directory.specs.Events.{MakesHidden, IsHiddenBy}
use Rattle.group_directory.proofs.Mapped.{filter-map, how_many-gone}
use Rattle.group_directory.proofs.Opened.{opens, open-filter}
use Rattle.group_directory.proofs.Books.{book_is, all-mapped, held_claim, holds_it, invisible_hidden, tombstone_hidden, listed-filter}
use Rattle.group_directory.proofs.PackedLaws.{packed-filter}
use Rattle.group_directory.proofs.Shared.{same_groups, same_open}

abbrev pub Fits : Group → Type 0
Fits group = IsFittingContent group.content

abbrev pub Lends : Actor × Claim → Type 0
Lends held = All (λ (part : ℕ × GroupPart). IsFitting part.1) held.1.view.groups

-- ---- a list that is only shared

module _ (old new : GroupList) (same : IsSameList old new) where
  pub book_same : book_of new ≡ book_of old
  book_same = book_is (book_of new) (book_of old) (same_groups new.groups.items old.groups.items same.seen) (ap endings_of same.buffer) (ap (map claim_of) same.claims) same.next

  pub held_same : IsHeld old → IsHeld new
  held_same held = record {
    fitting = same.fitting;
    opened = subst (IsOpenAt new.groups.items) (sym same.opened) (same_open old.groups.items new.groups.items old.opened (sym (same_groups new.groups.items old.groups.items same.seen)) held.opened);
    lent = subst (All Lends) (sym same.claims) held.lent;
  }

-- ---- groups and claims that go

pub held_gone : (old new : GroupList) (p : Group → Bool) (q : Actor × Claim → Bool) → new.groups.items ≡ filter p old.groups.items → new.opened ≡ position opens new.groups.items → new.claims.items ≡ filter q old.claims.items → IsHeld old → IsHeld new
held_gone old new p q groups opened claims held = record {
  fitting = subst (All Fits) (sym groups) (All-filter p Fits old.groups.items held.fitting);
  opened = subst (IsOpenAt new.groups.items) (sym opened) (subst (λ gs. IsOpenAt gs (position opens gs)) (sym groups) (open-filter p old.groups.items old.opened held.opened));
  lent = subst (All Lends) (sym claims) (All-filter q Lends old.claims.items held.lent);
}

-- groups alone
pub held_kept : (old new : GroupList) (p : Group → Bool) → new.groups.items ≡ filter p old.groups.items → new.opened ≡ position opens new.groups.items → new.claims.items ≡ old.claims.items → IsHeld old → IsHeld new
held_kept old new p groups opened claims held = record {
  fitting = subst (All Fits) (sym groups) (All-filter p Fits old.groups.items held.fitting);
  opened = subst (IsOpenAt new.groups.items) (sym opened) (subst (λ gs. IsOpenAt gs (position opens gs)) (sym groups) (open-filter p old.groups.items old.opened held.opened));
  lent = subst (All Lends) (sym claims) held.lent;
}

gone_groups : (fresh : Option ℕ) (gs : List Group) → map group_of (filter (λ g. not (is_fresh fresh (group_of g))) gs) ≡ filter (λ g. not (is_fresh fresh g)) (map group_of gs)
gone_groups fresh gs = sym (filter-map (λ g. not (is_fresh fresh g)) group_of gs)

pub gone_claims : (actor : Actor) (claims : List (Actor × Claim)) → map claim_of (filter (λ (held : Actor × Claim). not (same_actor held.0 actor)) claims) ≡ filter (λ claim. not (is_by actor claim)) (map claim_of claims)
gone_claims actor claims = sym (filter-map (λ claim. not (is_by actor claim)) claim_of claims)

pub same_actors : (a b : Actor) → same_actor a b ≡ true → a ≡ b
same_actors (Session m) (Session n) is = ap Session (eqb-true m n is)
same_actors (Session m) (Mover n) is = cc
same_actors (Mover m) (Session n) is = cc
same_actors (Mover m) (Mover n) is = ap Mover (eqb-true m n is)

-- ---- a release

module _ (old new : GroupList) (actor : Actor) (place : ℕ) (held : Actor × Claim) (at : position (holds_it actor) old.claims.items ≡ Some place) (is : held ≡ get_or old.claims.items place held) where
  pub the_claim : claim_by actor (book_of old) ≡ Some (claim_of held)
  the_claim = held_claim actor old.claims.items place held at is

  pub actor_is : same_actor held.0 actor ≡ true
  actor_is = (let found = position-Some (holds_it actor) old.claims.items place held at in ap (holds_it actor) is ∙ found.1)

  pub release_book : new.groups.items ≡ filter (λ g. not (is_fresh held.1.fresh (group_of g))) old.groups.items → new.claims.items ≡ filter (λ (other : Actor × Claim). not (same_actor other.0 actor)) old.claims.items
      → new.buffer.entries ≡ old.buffer.entries → new.next ≡ old.next → book_of new ≡ released (claim_by actor (book_of old)) (book_of old)
  release_book groups claims buffer next =
      book_is (book_of new) (after_release (claim_of held) (book_of old))
      (ap (map group_of) groups ∙ gone_groups held.1.fresh old.groups.items)
      (ap endings_of buffer)
      (ap (map claim_of) claims ∙ gone_claims actor old.claims.items ∙ ap (λ by. filter (λ claim. not (is_by by claim)) (map claim_of old.claims.items)) (sym (same_actors held.0 actor actor_is)))
      next
      ∙ ap (λ claim. released claim (book_of old)) (sym the_claim)

  unlisted : MakesHidden actor (book_of old) → AllByRecursion (λ (g : Group). is_fresh held.1.fresh (group_of g) ≡ true → is_listed g.content ≡ false) old.groups.items
  unlisted hidden =
      let now : IsHiddenBy (map group_of old.groups.items) (Some (claim_of held)) = subst (IsHiddenBy (map group_of old.groups.items)) the_claim hidden in
      weaker (λ (g : Group). is_fresh held.1.fresh (group_of g) ≡ true → is_invisible (content_of g.content) ≡ true) (λ (g : Group). is_fresh held.1.fresh (group_of g) ≡ true → is_listed g.content ≡ false) old.groups.items (λ g h fresh. invisible_hidden g.content (h fresh))
      (all-mapped (λ (g : book.Group). is_fresh held.1.fresh g ≡ true → is_invisible g.content ≡ true) group_of old.groups.items (recursion_from_All (λ (g : book.Group). is_fresh held.1.fresh g ≡ true → is_invisible g.content ≡ true) (map group_of old.groups.items) now))

  pub release_packed : new.groups.items ≡ filter (λ g. not (is_fresh held.1.fresh (group_of g))) old.groups.items → MakesHidden actor (book_of old) → packed_in new.groups.items ≡ packed_in old.groups.items
  release_packed groups hidden = ap packed_in groups ∙ packed-filter (λ g. is_fresh held.1.fresh (group_of g)) old.groups.items (unlisted hidden)

  pub release_listed : new.groups.items ≡ filter (λ g. not (is_fresh held.1.fresh (group_of g))) old.groups.items → MakesHidden actor (book_of old) → listed new.groups.items ≡ listed old.groups.items
  release_listed groups hidden = ap listed groups ∙ listed-filter (λ g. is_fresh held.1.fresh (group_of g)) old.groups.items (unlisted hidden)

-- ---- a clear

pub clear_book : (old new : GroupList) → new.groups.items ≡ filter (λ (g : Group). not (is_tombstone (content_of g.content))) old.groups.items → new.claims.items ≡ old.claims.items → new.buffer.entries ≡ old.buffer.entries → new.next ≡ old.next → book_of new ≡ after_clear (book_of old)
clear_book old new groups claims buffer next =
    book_is (book_of new) (after_clear (book_of old)) (ap (map group_of) groups ∙ sym (filter-map (λ (g : book.Group). not (is_tombstone g.content)) group_of old.groups.items)) (ap endings_of buffer) (ap (map claim_of) claims) next

tombstones_hidden : (gs : List Group) → AllByRecursion (λ (g : Group). is_tombstone (content_of g.content) ≡ true → is_listed g.content ≡ false) gs
tombstones_hidden [] = tt
tombstones_hidden (g ∷ gs) = (tombstone_hidden g.content, tombstones_hidden gs)

pub clear_listed : (gs : List Group) → listed (filter (λ (g : Group). not (is_tombstone (content_of g.content))) gs) ≡ listed gs
clear_listed gs = listed-filter (λ (g : Group). is_tombstone (content_of g.content)) gs (tombstones_hidden gs)

pub clear_packed : (gs : List Group) → packed_in (filter (λ (g : Group). not (is_tombstone (content_of g.content))) gs) ≡ packed_in gs
clear_packed gs = packed-filter (λ (g : Group). is_tombstone (content_of g.content)) gs (tombstones_hidden gs)

pub clear_number : (list : GroupList) (n : ℕ) → n + length (filter (λ (g : Group). not (is_tombstone (content_of g.content))) list.groups.items) ≡ length list.groups.items → n ≡ tombstone_count (book_of list)
clear_number list n e =
    let all = how_many-gone (λ (g : Group). is_tombstone (content_of g.content)) list.groups.items in
    let mapped = how_many-map (λ (g : book.Group). is_tombstone g.content) group_of list.groups.items in
    omega (arith, e, all, mapped)
