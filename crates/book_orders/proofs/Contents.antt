-- Groups whose packed versions stand in another order: what of them is the same, and that what is made of both is so too.
use Rattle.std.proofs.Common.{◌≡◌, ℕ, Bool, true, false, cond, List, [], ◌∷◌, ◌++◌, map, filter, Option, Some, None, is_some, refl, sym, ap, ◌∙◌}
use Rattle.std.specs.Prelude.{◌==◌}
use Rattle.std.specs.List.{AllZip, list_any}
use Rattle.std.specs.List.Sorted.{IsPermutation}
use Rattle.std.proofs.lemmas.List.Sorted.{IsPermutation-refl, IsPermutation-sym, IsPermutation-trans, IsPermutation-append, IsPermutation-map, length_permutation}
use Rattle.group_book.specs.Book.{Version, Content, Group, opened, opened_in, frozen, frozen_in, total, deleted, ended_count, is_tombstone}
use Rattle.group_book.specs.Book.Content.{Compressed, Tombstone}
use Rattle.group_book.specs.Commits.{with_opened, with_version}
use Rattle.group_book.specs.Orders.{IsContentReordered, IsGroupReordered}
use Rattle.group_book.specs.Turns.{is_id_of, is_fresh, versions_of, with_compressed, closed}
use Rattle.group_book.proofs.Move.{how_many-permutation}
use Rattle.group_book.proofs.Orders.{content_cases, content_itself}

-- ---- the relation

content_back : (c d : Content) → IsContentReordered c d → IsContentReordered d c
content_back c d is = content_cases (λ c d. IsContentReordered d c) content_itself (λ xs ys p. (xs, IsPermutation-sym xs ys p, refl)) c d is

content_through : (first second third : Content) → IsContentReordered first second → IsContentReordered second third → IsContentReordered first third
content_through first second third is = content_cases (λ c d. IsContentReordered d third → IsContentReordered c third) (λ c h. h) (λ xs ys p h. (h.0, IsPermutation-trans xs ys h.0 p h.1, h.2)) first second is

pub group_itself : (g : Group) → IsGroupReordered g g
group_itself g = (refl, content_itself g.content)

pub group_back : (g h : Group) → IsGroupReordered g h → IsGroupReordered h g
group_back g h r = (sym r.0, content_back g.content h.content r.1)

pub group_through : (first second third : Group) → IsGroupReordered first second → IsGroupReordered second third → IsGroupReordered first third
group_through first second third a b = (b.0 ∙ a.0, content_through first.content second.content third.content a.1 b.1)

-- ---- what is the same

pub same_source : (ids : List ℕ) (g h : Group) → IsGroupReordered g h → is_id_of ids g ≡ is_id_of ids h
same_source ids g h r = ap (λ n. list_any (λ id. id == n) ids) (sym r.0)

pub same_fresh : (fresh : Option ℕ) (g h : Group) → IsGroupReordered g h → is_fresh fresh g ≡ is_fresh fresh h
same_fresh None g h r = refl
same_fresh (Some id) g h r = ap (λ n. n == id) (sym r.0)

pub same_tombstone : (c d : Content) → IsContentReordered c d → is_tombstone c ≡ is_tombstone d
same_tombstone c d is = content_cases (λ c d. is_tombstone c ≡ is_tombstone d) (λ c. refl) (λ xs ys p. refl) c d is

-- the counts that are left of it
pub same_counts : (c d : Content) → IsContentReordered c d → Tombstone (total d) (deleted d) ≡ Tombstone (total c) (deleted c)
same_counts c d is = content_cases (λ c d. Tombstone (total d) (deleted d) ≡ Tombstone (total c) (deleted c)) (λ c. refl)
    (λ xs ys p. ap (λ n. Tombstone n (ended_count ys)) (length_permutation xs ys p) ∙ ap (Tombstone (total (Compressed xs))) (how_many-permutation (λ (version : Version). is_some version.end) xs ys p)) c d is

same_opened_in : (c d : Content) → IsContentReordered c d → opened_in d ≡ opened_in c
same_opened_in c d is = content_cases (λ c d. opened_in d ≡ opened_in c) (λ c. refl) (λ xs ys p. refl) c d is

-- the open store has its rows in one order
pub opened_stays : (gs hs : List Group) → AllZip IsGroupReordered gs hs → opened hs ≡ opened gs
opened_stays [] [] zip = refl
opened_stays [] (h ∷ hs) zip = absurd zip
opened_stays (g ∷ gs) [] zip = absurd zip
opened_stays (g ∷ gs) (h ∷ hs) zip = ap (λ vs. vs ++ opened hs) (same_opened_in g.content h.content zip.0.1) ∙ ap (λ vs. opened_in g.content ++ vs) (opened_stays gs hs zip.1)

pub frozen_in_moved : (c d : Content) → IsContentReordered c d → IsPermutation (frozen_in c) (frozen_in d)
frozen_in_moved c d is = content_cases (λ c d. IsPermutation (frozen_in c) (frozen_in d)) (λ c. IsPermutation-refl (frozen_in c)) (λ xs ys p. p) c d is

-- the versions of the groups of these ids are the same up to their order
pub versions_moved : (ids : List ℕ) (gs hs : List Group) → AllZip IsGroupReordered gs hs → IsPermutation (versions_of ids gs) (versions_of ids hs)
versions_moved ids [] [] zip = IsPermutation-refl []
versions_moved ids [] (h ∷ hs) zip = absurd zip
versions_moved ids (g ∷ gs) [] zip = absurd zip
versions_moved ids (g ∷ gs) (h ∷ hs) zip = step (is_id_of ids g) (is_id_of ids h) (same_source ids g h zip.0) (versions_moved ids gs hs zip.1)
  where
    step : (t u : Bool) → t ≡ u → IsPermutation (versions_of ids gs) (versions_of ids hs)
        → IsPermutation (frozen (cond t (g ∷ filter (is_id_of ids) gs) (filter (is_id_of ids) gs))) (frozen (cond u (h ∷ filter (is_id_of ids) hs) (filter (is_id_of ids) hs)))
    step true true same rest = IsPermutation-append (frozen_in g.content) (frozen_in h.content) (versions_of ids gs) (versions_of ids hs) (frozen_in_moved g.content h.content zip.0.1) rest
    step true false same rest = cc
    step false true same rest = cc
    step false false same rest = rest

-- ---- what is made of both

pub opened_moved : (f : List Version → List Version) (c d : Content) → IsContentReordered c d → IsContentReordered (with_opened f c) (with_opened f d)
opened_moved f c d is = content_cases (λ c d. IsContentReordered (with_opened f c) (with_opened f d)) (λ c. content_itself (with_opened f c)) (λ xs ys p. (ys, p, refl)) c d is

pub version_moved : (group_rows : ℕ) (version : Version) (c d : Content) → IsContentReordered c d → IsContentReordered (with_version group_rows version c) (with_version group_rows version d)
version_moved group_rows version c d is = content_cases (λ c d. IsContentReordered (with_version group_rows version c) (with_version group_rows version d)) (λ c. content_itself (with_version group_rows version c)) (λ xs ys p. (ys, p, refl)) c d is

pub compressed_moved : (f : Version → Version) (c d : Content) → IsContentReordered c d → IsContentReordered (with_compressed (map f) c) (with_compressed (map f) d)
compressed_moved f c d is = content_cases (λ c d. IsContentReordered (with_compressed (map f) c) (with_compressed (map f) d)) (λ c. content_itself (with_compressed (map f) c)) (λ xs ys p. (map f ys, IsPermutation-map f xs ys p, refl)) c d is

pub closed_moved : (c d : Content) → IsContentReordered c d → IsContentReordered (closed c) (closed d)
closed_moved c d is = content_cases (λ c d. IsContentReordered (closed c) (closed d)) (λ c. content_itself (closed c)) (λ xs ys p. (ys, p, refl)) c d is

-- of two contents the one that the test says
pub either_moved : (s t : Bool) (a b c d : Content) → s ≡ t → IsContentReordered a c → IsContentReordered b d → IsContentReordered (cond s a b) (cond t c d)
either_moved true true a b c d same first second = first
either_moved true false a b c d same first second = cc
either_moved false true a b c d same first second = cc
either_moved false false a b c d same first second = second
