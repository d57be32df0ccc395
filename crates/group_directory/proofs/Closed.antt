-- A list of groups whose OPEN store is closed.
use Rattle.std.proofs.Common.{◌≡◌, ℕ, zero, suc, ◌<◌, true, false, cond, List, [], ◌∷◌, map, filter, length, get_or, set, Option, None, Some, refl, sym, ap, ◌∙◌, arith}
use Rattle.std.specs.Prelude.{slice_get}
use Rattle.std.specs.List.{AllByRecursion}
use Rattle.std.specs.Option.{option_map}
use Rattle.std.proofs.lemmas.List.Elements.{recursion_from_All, All-from_recursion}
use Rattle.std.proofs.lemmas.Option.{same_Some, slice_get-get_or, slice_get_within}
use Rattle.group_book.specs.Book as book
use Rattle.group_book.specs.Book.{is_opened, is_compressed}
use Rattle.group_book.specs.Choices.{first_of, lowest}
use Rattle.group_book.specs.Turns.{closed}
use Rattle.group_view.specs.declared.groups.Group.{Group}
use Rattle.group_view.specs.declared.groups.GroupContent.{GroupContent}
use Rattle.group_view.specs.declared.groups.GroupContent.TheVariants as kept
use Rattle.group_view.specs.Books.{content_of, group_of, rowed_in_content}
use Rattle.group_view.specs.Lists.{is_open, is_listed, listed, packed_content, packed_in, IsOpenAt}
use Rattle.group_directory.proofs.Books.{open_kind}
use Rattle.group_directory.proofs.Opened.{opens}
use Rattle.group_directory.proofs.PackedLaws.{unpacked, open_unpacked, packed-set}

abbrev IsShut : Group → Type 0
IsShut g = opens g ≡ false

closed_same : (content : GroupContent) → is_open content ≡ false → closed (content_of content) ≡ content_of content
closed_same (kept.Opened store) is = cc
closed_same (kept.Closed store) is = refl
closed_same (kept.Compressed packed marks) is = refl
closed_same kept.Invisible is = refl
closed_same (kept.Tombstone total deleted) is = refl

shut_closed : (gs : List Group) → AllByRecursion IsShut gs → map group_of gs ≡ map (λ (group : book.Group). record group { content = closed group.content }) (map group_of gs)
shut_closed [] all = refl
shut_closed (g ∷ gs) all = (let same = sym (closed_same g.content all.0) in λ i. record { id = g.id; content = same i } ∷ shut_closed gs all.1 i)

shut_lowest : (gs : List Group) → AllByRecursion IsShut gs → filter (λ (group : book.Group). is_opened group.content) (map group_of gs) ≡ []
shut_lowest [] all = refl
shut_lowest (g ∷ gs) all =
    ap (λ t. cond t (group_of g ∷ filter (λ (group : book.Group). is_opened group.content) (map group_of gs)) (filter (λ (group : book.Group). is_opened group.content) (map group_of gs))) (sym (open_kind g.content) ∙ all.0)
    ∙ shut_lowest gs all.1

-- without an open store nothing changes
pub none_closed : (gs : List Group) → IsOpenAt gs None → map group_of gs ≡ map (λ (group : book.Group). record group { content = closed group.content }) (map group_of gs)
none_closed gs all = shut_closed gs (recursion_from_All IsShut gs all)

pub none_lowest : (gs : List Group) → IsOpenAt gs None → lowest (λ (group : book.Group). is_opened group.content) (map group_of gs) ≡ None
none_lowest gs all = ap (λ l. option_map (λ (group : book.Group). group.id) (first_of l)) (shut_lowest gs (recursion_from_All IsShut gs all))

-- ---- the open store

pub open_within : (gs : List Group) (at : ℕ) → IsOpenAt gs (Some at) → at < length gs
open_within gs at h = step (slice_get gs at) refl h.0
  where
    step : (o : Option Group) → slice_get gs at ≡ o → option_map (λ (group : Group). is_open group.content) o ≡ Some true → at < length gs
    step None is some = cc
    step (Some g) is some = slice_get_within gs at g is

-- the others are shut
others_shut : (g : Group) (gs : List Group) → IsOpenAt (g ∷ gs) (Some zero) → AllByRecursion IsShut gs
others_shut g gs h = recursion_from_All IsShut gs (λ k d inside. h.1 (suc k) (λ e. omega (arith, e)) (get_or gs k d) (slice_get-get_or gs k d inside))

behind : (g : Group) (gs : List Group) (at : ℕ) → IsOpenAt (g ∷ gs) (Some (suc at)) → IsOpenAt gs (Some at)
behind g gs at h = (h.0, λ k apart other there. h.1 (suc k) (λ e. apart (omega (arith, e))) other there)

first_shut : (g : Group) (gs : List Group) (at : ℕ) → IsOpenAt (g ∷ gs) (Some (suc at)) → opens g ≡ false
first_shut g gs at h = h.1 0 (λ e. omega (arith, e)) g refl

pub closed_book : (gs : List Group) (at : ℕ) (x y : Group) → IsOpenAt gs (Some at) → x ≡ get_or gs at x → y.id ≡ x.id → content_of y.content ≡ closed (content_of x.content)
    → map group_of (set gs at y) ≡ map (λ (group : book.Group). record group { content = closed group.content }) (map group_of gs)
closed_book [] at x y h here id content = absurd (let within = open_within [] at h in omega (arith, within))
closed_book (g ∷ gs) zero x y h here id content =
    let head : group_of y ≡ record { id = g.id; content = closed (content_of g.content) } =
    (λ i. record { id = id i; content = content i }) ∙ ap (λ (z : Group). record { id = z.id; content = closed (content_of z.content) }) here in
    let rest = shut_closed gs (others_shut g gs h) in
    (λ i. head i ∷ rest i)
closed_book (g ∷ gs) (suc at) x y h here id content =
    let head : group_of g ≡ record { id = g.id; content = closed (content_of g.content) } = ap (λ c. record { id = g.id; content = c }) (sym (closed_same g.content (first_shut g gs at h))) in
    let rest = closed_book gs at x y (behind g gs at h) here id content in
    (λ i. head i ∷ rest i)

pub closed_lowest : (gs : List Group) (at : ℕ) (x : Group) → IsOpenAt gs (Some at) → x ≡ get_or gs at x → lowest (λ (group : book.Group). is_opened group.content) (map group_of gs) ≡ Some x.id
closed_lowest [] at x h here = absurd (let within = open_within [] at h in omega (arith, within))
closed_lowest (g ∷ gs) zero x h here =
    let open_is : is_open g.content ≡ true = same_Some (is_open g.content) true h.0 in
    ap (λ t. option_map (λ (group : book.Group). group.id) (first_of (cond t (group_of g ∷ filter (λ (group : book.Group). is_opened group.content) (map group_of gs)) (filter (λ (group : book.Group). is_opened group.content) (map group_of gs))))) (sym (open_kind g.content) ∙ open_is)
    ∙ ap (λ (z : Group). Some z.id) (sym here)
closed_lowest (g ∷ gs) (suc at) x h here =
    ap (λ t. option_map (λ (group : book.Group). group.id) (first_of (cond t (group_of g ∷ filter (λ (group : book.Group). is_opened group.content) (map group_of gs)) (filter (λ (group : book.Group). is_opened group.content) (map group_of gs))))) (sym (open_kind g.content) ∙ first_shut g gs at h)
    ∙ closed_lowest gs at x (behind g gs at h) here

set_shut : (gs : List Group) (at : ℕ) (y : Group) → IsOpenAt gs (Some at) → opens y ≡ false → AllByRecursion IsShut (set gs at y)
set_shut [] at y h shut = tt
set_shut (g ∷ gs) zero y h shut = (shut, others_shut g gs h)
set_shut (g ∷ gs) (suc at) y h shut = (first_shut g gs at h, set_shut gs at y (behind g gs at h) shut)

pub closed_open : (gs : List Group) (at : ℕ) (y : Group) → IsOpenAt gs (Some at) → opens y ≡ false → IsOpenAt (set gs at y) None
closed_open gs at y h shut = All-from_recursion IsShut (set gs at y) (set_shut gs at y h shut)

-- the packed groups
closed_unpacked : (id : ℕ) (old new : GroupContent) → is_open old ≡ true → content_of new ≡ closed (content_of old) → packed_content id new ≡ []
closed_unpacked id (kept.Opened store) new is made = unpacked id new (ap is_compressed made)
closed_unpacked id (kept.Closed store) new is made = unpacked id new (ap is_compressed made)
closed_unpacked id (kept.Compressed packed marks) new is made = cc
closed_unpacked id kept.Invisible new is made = unpacked id new (ap is_compressed made)
closed_unpacked id (kept.Tombstone total deleted) new is made = unpacked id new (ap is_compressed made)

pub closed_packed : (gs : List Group) (at : ℕ) (x y : Group) → IsOpenAt gs (Some at) → x ≡ get_or gs at x → content_of y.content ≡ closed (content_of x.content) → packed_in (set gs at y) ≡ packed_in gs
closed_packed gs at x y h here made =
    let open_is : is_open x.content ≡ true = same_Some (is_open x.content) true (ap (λ (g : Group). Some (is_open g.content)) here ∙ sym (ap (option_map (λ (group : Group). is_open group.content)) (slice_get-get_or gs at x (open_within gs at h))) ∙ h.0) in
    packed-set gs at x y here (closed_unpacked y.id x.content y.content open_is made ∙ sym (open_unpacked x.id x.content open_is))

-- the rows that a view shows
pub listed-set : (gs : List Group) (at : ℕ) (x y : Group) → x ≡ get_or gs at x → y.id ≡ x.id → is_listed y.content ≡ is_listed x.content → rowed_in_content y.content ≡ rowed_in_content x.content → listed (set gs at y) ≡ listed gs
listed-set [] at x y here id shown rows = refl
listed-set (g ∷ gs) zero x y here id shown rows =
    (λ i. cond (shown i) ((id i, rows i) ∷ listed gs) (listed gs))
    ∙ ap (λ (z : Group). cond (is_listed z.content) ((z.id, rowed_in_content z.content) ∷ listed gs) (listed gs)) here
listed-set (g ∷ gs) (suc at) x y here id shown rows = ap (λ l. cond (is_listed g.content) ((g.id, rowed_in_content g.content) ∷ l) l) (listed-set gs at x y here id shown rows)
