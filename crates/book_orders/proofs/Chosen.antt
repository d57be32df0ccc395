-- The choice of a turn does not see the order of packed versions.
use Rattle.std.proofs.Common.{◌≡◌, ℕ, Bool, true, false, cond, List, [], ◌∷◌, filter, not, refl, sym, ◌∙◌}
use Rattle.std.specs.List.{AllZip}
use Rattle.cs_model.specs.declared.work.Actor.{Actor}
use Rattle.group_book.specs.Book.{Group, Choice, Claim, Book, is_tombstone}
use Rattle.group_book.specs.Book.Choice.{Compress, Flush, Rebuild, Merge, Settle, Clear, Idle}
use Rattle.group_book.specs.Choices.{free, tombstone_count, flush_sources, choice, choice_work}
use Rattle.group_book.specs.Orders.{IsGroupReordered, IsReordered}
use Rattle.group_book.specs.Turns.{is_claimed}
use Rattle.group_book.proofs.Orders.{same_choice, same_work, same_sources, reordered_apart}
use Rattle.group_book.proofs.Zips.{zip_count}
use Rattle.book_orders.specs.Shuffled.{IsShuffled}
use Rattle.book_orders.proofs.Contents.{group_itself, same_tombstone}
use Rattle.book_orders.proofs.Shuffled.{same_claimed}

-- the other groups, where those that a claim has are the first ones: the book with these is the first one reordered, and the other
-- one differs from it in what claims have alone, at which no choice looks
abbrev halfway : List Claim → List Group → List Group → List Group
halfway claims [] hs = []
halfway claims (g ∷ gs) [] = []
halfway claims (g ∷ gs) (h ∷ hs) = cond (is_claimed claims g) g h ∷ halfway claims gs hs

abbrev IsApart : List Claim → Group → Group → Type 0
IsApart claims g h = IsGroupReordered g h × (is_claimed claims g ≡ true → h ≡ g)

halfway_apart : (claims : List Claim) (gs hs : List Group) → AllZip IsGroupReordered gs hs → AllZip (IsApart claims) gs (halfway claims gs hs)
halfway_apart claims [] [] zip = tt
halfway_apart claims [] (h ∷ hs) zip = absurd zip
halfway_apart claims (g ∷ gs) [] zip = absurd zip
halfway_apart claims (g ∷ gs) (h ∷ hs) zip = (step (is_claimed claims g) refl, halfway_apart claims gs hs zip.1)
  where
    step : (t : Bool) → is_claimed claims g ≡ t → IsApart claims g (cond t g h)
    step true is = (group_itself g, (λ _. refl))
    step false is = (zip.0, (λ wrong. absurd (cc (is, wrong))))

halfway_on : (claims : List Claim) (gs hs : List Group) → AllZip IsGroupReordered gs hs → AllZip IsGroupReordered (halfway claims gs hs) hs
halfway_on claims [] [] zip = tt
halfway_on claims [] (h ∷ hs) zip = absurd zip
halfway_on claims (g ∷ gs) [] zip = absurd zip
halfway_on claims (g ∷ gs) (h ∷ hs) zip = (step (is_claimed claims g), halfway_on claims gs hs zip.1)
  where
    step : (t : Bool) → IsGroupReordered (cond t g h) h
    step true = zip.0
    step false = group_itself h

-- what no claim has is the other's
halfway_free : (claims others : List Claim) → ((g h : Group) → h.id ≡ g.id → is_claimed claims g ≡ is_claimed others h) → (gs hs : List Group) → AllZip IsGroupReordered gs hs
    → filter (λ g. not (is_claimed claims g)) (halfway claims gs hs) ≡ filter (λ g. not (is_claimed others g)) hs
halfway_free claims others same [] [] zip = refl
halfway_free claims others same [] (h ∷ hs) zip = absurd zip
halfway_free claims others same (g ∷ gs) [] zip = absurd zip
halfway_free claims others same (g ∷ gs) (h ∷ hs) zip = step (is_claimed claims g) refl (halfway_free claims others same gs hs zip.1)
  where
    step : (t : Bool) → is_claimed claims g ≡ t → {rest kept : List Group} → rest ≡ kept → cond (not (is_claimed claims (cond t g h))) (cond t g h ∷ rest) rest ≡ cond (not (is_claimed others h)) (h ∷ kept) kept
    step true is e = rw (is, sym (same g h zip.0.0) ∙ is) e
    step false is e = rw (same h h refl, e) refl

module _ (book other : Book) (r : IsShuffled book other) where
  abbrev middle : Book
  middle = record book { groups = halfway book.claims book.groups other.groups }

  abbrev same : (g h : Group) → h.id ≡ g.id → is_claimed book.claims g ≡ is_claimed other.claims h
  same = same_claimed book.claims other.claims r.claims

  reordered : IsReordered book middle
  reordered = reordered_apart book middle (halfway_apart book.claims book.groups other.groups r.groups) refl refl refl

  same_free : free middle ≡ free other
  same_free = halfway_free book.claims other.claims same book.groups other.groups r.groups

  same_tombstones : tombstone_count middle ≡ tombstone_count other
  same_tombstones = zip_count IsGroupReordered (λ (g : Group). is_tombstone g.content) (λ (g : Group). is_tombstone g.content) (λ g h is. same_tombstone g.content h.content is.1)
      middle.groups other.groups (halfway_on book.claims book.groups other.groups r.groups)

  middle_choice : (floor group_rows : ℕ) (by : Actor) → choice floor group_rows by middle ≡ choice floor group_rows by other
  middle_choice floor group_rows by = rw (same_free, same_tombstones, sym r.buffer, sym r.next) refl

  middle_work : (made : Choice) (floor : ℕ) → choice_work made floor middle ≡ choice_work made floor other
  middle_work (Compress source) floor = rw (sym r.next) refl
  middle_work Flush floor = rw (same_free, sym r.buffer) refl
  middle_work (Rebuild source) floor = rw (sym r.next) refl
  middle_work (Merge first second) floor = rw (sym r.next) refl
  middle_work Settle floor = rw same_free refl
  middle_work Clear floor = rw same_tombstones refl
  middle_work Idle floor = refl

  middle_sources : flush_sources middle ≡ flush_sources other
  middle_sources = rw (same_free, sym r.buffer) refl

pub shuffled_choice : (floor group_rows : ℕ) (by : Actor) (book other : Book) → IsShuffled book other → choice floor group_rows by book ≡ choice floor group_rows by other
shuffled_choice floor group_rows by book other r = same_choice floor group_rows by book (middle book other r) (reordered book other r) ∙ middle_choice book other r floor group_rows by

pub shuffled_work : (made : Choice) (floor : ℕ) (book other : Book) → IsShuffled book other → choice_work made floor book ≡ choice_work made floor other
shuffled_work made floor book other r = same_work made floor book (middle book other r) (reordered book other r) ∙ middle_work book other r made floor

-- the groups that a flush takes
pub shuffled_sources : (book other : Book) → IsShuffled book other → flush_sources book ≡ flush_sources other
shuffled_sources book other r = same_sources book (middle book other r) (reordered book other r) ∙ middle_sources book other r
