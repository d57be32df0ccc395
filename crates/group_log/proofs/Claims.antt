-- The claim that an actor holds is one of the book's.
use Rattle.std.proofs.Common.{◌≡◌, List, [], ◌∷◌, filter, Some, subst}
use Rattle.std.specs.Prelude.{All, Contains}
use Rattle.std.proofs.lemmas.List.Elements.{All-head, All-filter, All-contains_itself}
use Rattle.std.proofs.lemmas.Option.{none-some, same_Some}
use Rattle.cs_model.specs.declared.work.Actor.{Actor}
use Rattle.group_book.specs.Book.{Claim, Book}
use Rattle.group_book.specs.Turns.{is_by, first_claim, claim_by}

first_in : (claims listed : List Claim) (claim : Claim) → All (Contains claims) listed → first_claim listed ≡ Some claim → Contains claims claim
first_in claims [] claim all e = absurd (none-some claim e)
first_in claims (first ∷ listed) claim all e = subst (Contains claims) (same_Some first claim e) (All-head (Contains claims) first listed all)

pub claim_in : (by : Actor) (book : Book) (claim : Claim) → claim_by by book ≡ Some claim → Contains book.claims claim
claim_in by book claim e = first_in book.claims (filter (is_by by) book.claims) claim (All-filter (is_by by) (Contains book.claims) book.claims (All-contains_itself book.claims)) e
