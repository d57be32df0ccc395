-- The list of groups of a new table.
use Rattle.std.proofs.Common.{◌≡◌, ℕ, [], None, false, refl, sym, subst}
use Rattle.std.specs.List.{All}
use Rattle.std.proofs.lemmas.List.Elements.{All-nil}
use Rattle.cs_model.specs.declared.work.Actor.{Actor}
use Rattle.group_book.specs.Book.{empty}
use Rattle.group_view.specs.declared.claim.Claim.{Claim}
use Rattle.group_view.specs.declared.groups.Group.{Group}
use Rattle.group_view.specs.declared.groups.GroupList.{GroupList}
use Rattle.group_view.specs.Parts.{IsFitting}
use Rattle.group_view.specs.Books.{book_of}
use Rattle.group_view.specs.Lists.{is_open, IsFittingContent, IsOpenAt, IsHeld}

pub held_none : (list : GroupList) → list.groups.items ≡ [] → list.opened ≡ None → list.claims.items ≡ [] → IsHeld list
held_none list groups opened claims = record {
  fitting = subst (All (λ (group : Group). IsFittingContent group.content)) (sym groups) (All-nil (λ (group : Group). IsFittingContent group.content));
  opened = subst (λ items. IsOpenAt items list.opened) (sym groups) (subst (IsOpenAt []) (sym opened) (All-nil (λ (group : Group). is_open group.content ≡ false)));
  lent = subst (All (λ (held : Actor × Claim). All (λ (group : ℕ × _). IsFitting group.1) held.1.view.groups)) (sym claims) (All-nil (λ (held : Actor × Claim). All (λ (group : ℕ × _). IsFitting group.1) held.1.view.groups));
}

pub book_none : (list : GroupList) → list.groups.items ≡ [] → list.buffer.entries ≡ [] → list.claims.items ≡ [] → list.next ≡ 1 → book_of list ≡ empty
book_none list groups buffer claims next = rw (groups, buffer, claims, next) refl
