-- A close where no store is open.
use Rattle.std.proofs.Common.{◌≡◌, List, [], ◌∷◌, map, filter, refl, ap, cond, Bool, true, false, ◌||◌, None}
use Rattle.std.specs.List.{list_any}
use Rattle.std.specs.Option.{option_map}
use Rattle.group_book.specs.Book.{Content, Group, Book, is_opened}
use Rattle.group_book.specs.Book.Content.{Opened, Closed, Compressed, Invisible, Tombstone}
use Rattle.group_book.specs.Choices.{first_of, lowest}
use Rattle.group_book.specs.Turns.{closed, after_close}

abbrev is_open : Group → Bool
is_open group = is_opened group.content

-- where there is no lowest open store, none is open
pub none_open : (groups : List Group) → lowest is_open groups ≡ None → list_any is_open groups ≡ false
none_open [] e = refl
none_open (g ∷ groups) e = by (is_open g) e (none_open groups)
  where
    by : (t : Bool) → option_map (λ (group : Group). group.id) (first_of (cond t (g ∷ filter is_open groups) (filter is_open groups))) ≡ None → (lowest is_open groups ≡ None → list_any is_open groups ≡ false)
        → (t || list_any is_open groups) ≡ false
    by true e rest = absurd (cc e)
    by false e rest = rest e

stays : (content : Content) → is_opened content ≡ false → closed content ≡ content
stays (Opened versions) is = absurd (cc is)
stays (Closed versions) is = refl
stays (Compressed versions) is = refl
stays Invisible is = refl
stays (Tombstone versions ends) is = refl

all_stay : (groups : List Group) → list_any is_open groups ≡ false → map (λ (group : Group). record group { content = closed group.content }) groups ≡ groups
all_stay [] e = refl
all_stay (g ∷ groups) e = by (is_open g) refl e (all_stay groups)
  where
    by : (t : Bool) → is_open g ≡ t → (t || list_any is_open groups) ≡ false → (list_any is_open groups ≡ false → map (λ (group : Group). record group { content = closed group.content }) groups ≡ groups)
        → map (λ (group : Group). record group { content = closed group.content }) (g ∷ groups) ≡ g ∷ groups
    by true is e rest = absurd (cc e)
    by false is e rest = λ i. record { id = g.id; content = stays g.content is i } ∷ rest e i

-- then a close leaves the book as it is
pub none_closes : (book : Book) → lowest is_open book.groups ≡ None → after_close book ≡ book
none_closes book e = ap (λ (groups : List Group). record book { groups = groups }) (all_stay book.groups (none_open book.groups e))
