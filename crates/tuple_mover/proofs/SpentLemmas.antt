-- The entries of the buffer by which versions are left out, one version after the other.
use Rattle.std.proofs.Common.{◌≡◌, ℕ, zero, suc, ◌+◌, ◌<◌, ◌≤◌, Bool, true, false, cond, ◌&&◌, ◌||◌, eqb, leb, List, [], ◌∷◌, ◌++◌, map, take, get_or, set, replicate, length, Option, Some, None, inl, inr, refl, sym, ap, subst, ◌∙◌, arith}
use Rattle.std.specs.Prelude.{is_some}
use Rattle.std.specs.List.{AllByRecursion, Contains, filter, flat_map, list_any}
use Rattle.std.proofs.lemmas.Bool.{cases_lt, cases_eq, lt-leb, le-leb, or_right, eqb-true}
use Rattle.std.proofs.lemmas.Bool.Decides.{nat_tests}
use Rattle.std.proofs.lemmas.List.{append-nil, map-append, take_more, length-map, length-set, get_or-map, get_or_default, get_or-set_same, get_or-set_other, same_lists}
use Rattle.std.proofs.lemmas.List.Concat.{flat_map-append}
use Rattle.std.proofs.lemmas.List.Elements.{recursion_from_All, All-contains_itself, filter-append}
use Rattle.std.specs.declared.cmp.Ordering.TheVariants.{Less, Greater}
use Rattle.std.specs.Ordering.{ordering_reverse}
use Rattle.cs_types.specs.declared.Key.{Key}
use Rattle.cs_types.specs.Keys.{same_key}
use Rattle.delete_bitmap.specs.declared.MarkedEnd.{MarkedEnd}
use Rattle.delete_bitmap.specs.declared.MarkedEnd.TheVariants.{Plain, Stamped}
use Rattle.delete_buffer.specs.Entries.{Entry, AreInOrder, IsLeastEnd, entry_cmp}
use Rattle.delete_buffer.proofs.Order.{entry_total}
use Rattle.group_book.specs.Book.{Version, Ending}
use Rattle.group_book.specs.Turns.{least_entry, unless_ended, buffered_end, is_number, ends, holds}
use Rattle.group_book.proofs.Keys.{key_here, key_is}
use Rattle.group_view.specs.declared.parts.GroupPart.{GroupPart}
use Rattle.group_view.specs.Parts.{Rowed, end_of_mark, rowed_in, versions_in}
use Rattle.group_view.specs.Views.{endings_of}
use Rattle.group_view.specs.Books.{versions_of}
use Rattle.group_view.proofs.Noted.{ending_of}
use Rattle.group_view.proofs.Versions.{version_in}
use Rattle.tuple_mover.specs.Spent.{is_spent, spent_by}
use Rattle.tuple_mover.specs.Kept.{rowed_at}
use Rattle.tuple_mover.proofs.EntryLemmas.{IsLeast, least-of}
use Rattle.tuple_mover.proofs.KeptLemmas.{same-within, version-read}

-- ---- the least entry, as the buffer finds it

held-pass : (P : ℕ → Type 0) (key : Key) (e : ℕ) (xs : List Ending) → AllByRecursion (λ (x : Ending). same_key key x.key ≡ true → P x.end) xs → holds xs key e ≡ true → P e
held-pass P key e [] all held = absurd (differ held)
  where
    differ : false ≡ true → ⊥
    differ h = cc
held-pass P key e (x ∷ xs) all held = step (same_key key x.key) (eqb x.end e) refl refl held (held-pass P key e xs all.1)
  where
    step : (p q : Bool) → same_key key x.key ≡ p → eqb x.end e ≡ q → ((p && q) || holds xs key e) ≡ true → (holds xs key e ≡ true → P e) → P e
    step true true of_key number both rest = subst P (eqb-true x.end e number) (all.0 of_key)
    step true false of_key number both rest = rest both
    step false q of_key number both rest = rest both

least-unique : (buffer : List Ending) (key : Key) (begin : ℕ) (o r : Option ℕ) → IsLeast buffer key begin o → IsLeast buffer key begin r → o ≡ r
least-unique buffer key begin None None a b = refl
least-unique buffer key begin None (Some e) a b = absurd (held-pass (λ (n : ℕ). begin < n → ⊥) key e buffer a b.1 b.0)
least-unique buffer key begin (Some e) None a b = absurd (held-pass (λ (n : ℕ). begin < n → ⊥) key e buffer b a.1 a.0)
least-unique buffer key begin (Some e) (Some f) a b =
    let low : e ≤ f = held-pass (λ (n : ℕ). begin < n → e ≤ n) key f buffer a.2 b.1 b.0 in
    let high : f ≤ e = held-pass (λ (n : ℕ). begin < n → f ≤ n) key e buffer b.2 a.1 a.0 in
    let same : e ≡ f = omega (arith, low, high) in
    ap (λ (n : ℕ). Some n) same

all-endings : (P : Entry → Type 0) (Q : Ending → Type 0) → ((x : Entry) → P x → Q (ending_of x)) → (entries : List Entry) → AllByRecursion P entries → AllByRecursion Q (endings_of entries)
all-endings P Q each [] all = tt
all-endings P Q each (x ∷ entries) all = (each x all.0, all-endings P Q each entries all.1)

contains-held : (entries : List Entry) (key : Key) (e k : ℕ) → k < length entries → get_or entries k (key, e) ≡ (key, e) → holds (endings_of entries) key e ≡ true
contains-held [] key e k there at = absurd (omega (arith, there))
contains-held (x ∷ entries) key e zero there at =
    let of_key = key_here key x.0 (ap (λ (y : Entry). y.0) at) in
    let number : x.1 ≡ e = ap (λ (y : Entry). y.1) at in
    let same : eqb x.1 e ≡ true = grind (arith, nat_tests, number) in
    rw (of_key, same) refl
contains-held (x ∷ entries) key e (suc k) there at =
    or_right (same_key key x.0 && eqb x.1 e) (holds (endings_of entries) key e) (contains-held entries key e k (omega (arith, there)) at)

pub least-is : (entries : List Entry) (key : Key) (begin : ℕ) (o : Option ℕ) → IsLeastEnd entries key begin o → least_entry (endings_of entries) key begin ≡ o
least-is entries key begin o is = least-unique (endings_of entries) key begin (least_entry (endings_of entries) key begin) o (least-of (endings_of entries) key begin) (least o is)
  where
    least : (o : Option ℕ) → IsLeastEnd entries key begin o → IsLeast (endings_of entries) key begin o
    least None is =
        all-endings (λ (x : Entry). x.0 ≡ key → x.1 ≤ begin) (λ (x : Ending). same_key key x.key ≡ true → begin < x.end → ⊥) (λ x low of_key above. absurd (omega (arith, low (key_is key x.0 of_key), above))) entries
        (recursion_from_All (λ (x : Entry). x.0 ≡ key → x.1 ≤ begin) entries is)
    least (Some e) is = (
      is.1,
      contains-held entries key e is.0.0 is.0.1 is.0.2,
      all-endings (λ (x : Entry). x.0 ≡ key → begin < x.1 → e ≤ x.1) (λ (x : Ending). same_key key x.key ≡ true → begin < x.end → e ≤ x.end) (λ x most of_key above. most (key_is key x.0 of_key) above) entries
          (recursion_from_All (λ (x : Entry). x.0 ≡ key → begin < x.1 → e ≤ x.1) entries is.2),
    )

-- where an end is recorded, no entry is the version's
pub recorded-none : (mark : Option MarkedEnd) (o : Option ℕ) → is_some mark ≡ true → unless_ended (end_of_mark mark) o ≡ None
recorded-none None o some = cc
recorded-none (Some Plain) o some = refl
recorded-none (Some (Stamped e)) o some = refl

pub unrecorded : (mark : Option MarkedEnd) (o : Option ℕ) → is_some mark ≡ false → unless_ended (end_of_mark mark) o ≡ o
unrecorded None o none = refl
unrecorded (Some mark) o none = cc

-- ---- one version more

any-more : (p : Version → Bool) (versions : List Version) (version : Version) → list_any p (versions ++ version ∷ []) ≡ (list_any p versions || p version)
any-more p [] version = step (p version)
  where
    step : (t : Bool) → (t || false) ≡ t
    step true = refl
    step false = refl
any-more p (first ∷ versions) version = ap (λ (t : Bool). p first || t) (any-more p versions version) ∙ step (p first) (list_any p versions) (p version)
  where
    step : (a b t : Bool) → (a || (b || t)) ≡ ((a || b) || t)
    step true b t = refl
    step false b t = refl

ends-number : (buffer : List Ending) (x : Ending) (version : Version) → ends buffer x version ≡ true → buffered_end buffer version ≡ Some x.end
ends-number buffer x version ended = step (same_key x.key version.key) (buffered_end buffer version) ended
  where
    step : (p : Bool) (o : Option ℕ) → (p && is_number x.end o) ≡ true → o ≡ Some x.end
    step true (Some e) both = ap (λ (n : ℕ). Some n) (eqb-true e x.end both)
    step true None both = cc
    step false o both = cc

ends-key : (buffer : List Ending) (x : Ending) (version : Version) → ends buffer x version ≡ true → same_key x.key version.key ≡ true
ends-key buffer x version ended = step (same_key x.key version.key) ended
  where
    step : (p : Bool) → (p && is_number x.end (buffered_end buffer version)) ≡ true → p ≡ true
    step true both = refl
    step false both = both

-- an entry stands at one place
unlike : (x : Entry) → entry_cmp x x ≡ Less → ⊥
unlike x less = let turned : Less ≡ Greater = sym less ∙ entry_total.antisymm x x ∙ ap ordering_reverse less in absurd (differ turned)
  where
    differ : Less ≡ Greater → ⊥
    differ h = cc

once : (entries : List Entry) → AreInOrder entries → (i j : ℕ) (x y : Entry) → i < length entries → j < length entries → get_or entries i x ≡ x → get_or entries j y ≡ y → x ≡ y → i ≡ j
once entries in_order i j x y there_i there_j at_i at_j same = elim (cases_lt i j) [
  | inl low ↦ absurd (unlike y (subst (λ (z : Entry). entry_cmp z y ≡ Less) (get_or_default entries i y x there_i ∙ at_i ∙ same) (subst (λ (z : Entry). entry_cmp (get_or entries i y) z ≡ Less) at_j (in_order i j y low there_j))))
  | inr high ↦ elim (cases_lt j i) [
    | inl low ↦ absurd (unlike x (subst (λ (z : Entry). entry_cmp z x ≡ Less) (get_or_default entries j x y there_j ∙ at_j ∙ sym same) (subst (λ (z : Entry). entry_cmp (get_or entries j x) z ≡ Less) at_i (in_order j i x low there_i))))
    | inr more ↦ omega (arith, high, more)
  ]
]

module _ (f : ℕ) (buffer : List Ending) (versions : List Version) (version : Version) where
  -- an entry that does not end the version by the floor is spent as before
  as_before : (x : Ending) → (ends buffer x version ≡ true → f < x.end) → is_spent f buffer versions x ≡ is_spent f buffer (versions ++ version ∷ []) x
  as_before x late = step (ends buffer x version) refl ∙ sym (ap (λ (t : Bool). leb x.end f && t) (any-more (ends buffer x) versions version))
    where
      same : (a b : Bool) → (a && b) ≡ (a && (b || false))
      same true true = refl
      same true false = refl
      same false b = refl

      step : (t : Bool) → ends buffer x version ≡ t → (leb x.end f && list_any (ends buffer x) versions) ≡ (leb x.end f && (list_any (ends buffer x) versions || ends buffer x version))
      step true is = rw (lt-leb x.end f (late is)) refl
      step false is = rw is (same (leb x.end f) (list_any (ends buffer x) versions))

  spent-same : ((x : Ending) → ends buffer x version ≡ true → f < x.end) → spent_by f buffer versions ≡ spent_by f buffer (versions ++ version ∷ [])
  spent-same late =
      same-within (Contains buffer) (is_spent f buffer versions) (is_spent f buffer (versions ++ version ∷ [])) (λ x there. as_before x (late x)) buffer (All-contains_itself buffer)

  pub spent-none : buffered_end buffer version ≡ None → spent_by f buffer versions ≡ spent_by f buffer (versions ++ version ∷ [])
  spent-none none = spent-same (λ x ended. absurd (differ (sym none ∙ ends-number buffer x version ended)))
    where
      differ : {e : ℕ} → None ≡ Some e → ⊥
      differ h = cc

  pub spent-late : (e : ℕ) → buffered_end buffer version ≡ Some e → f < e → spent_by f buffer versions ≡ spent_by f buffer (versions ++ version ∷ [])
  spent-late e is later = spent-same (λ x ended. let same : Some e ≡ Some x.end = sym is ∙ ends-number buffer x version ended in let number : e ≡ x.end = cc in omega (arith, later, number))

-- the entry at a place ends the version by the floor
module _ (f : ℕ) (entries : List Entry) (in_order : AreInOrder entries) (versions : List Version) (version : Version) (e : ℕ) (is : buffered_end (endings_of entries) version ≡ Some e) (within : e ≤ f)
    (place : ℕ) (there : place < length entries) (at : get_or entries place (version.key, e) ≡ (version.key, e)) where
  abbrev buffer : List Ending
  buffer = endings_of entries

  ended_here : ends buffer (ending_of (version.key, e)) version ≡ true
  ended_here = rw (key_here version.key version.key refl, is) (grind (arith, nat_tests))

  spent_here : is_spent f buffer (versions ++ version ∷ []) (ending_of (version.key, e)) ≡ true
  spent_here =
      ap (λ (t : Bool). leb e f && t) (any-more (ends buffer (ending_of (version.key, e))) versions version)
      ∙ rw (le-leb e f within, ended_here) (or_right (list_any (ends buffer (ending_of (version.key, e))) versions) true refl)

  other_ends : (k : ℕ) (x : Entry) → k < length entries → get_or entries k x ≡ x → ends buffer (ending_of x) version ≡ true → k ≡ place
  other_ends k x there_k at_k ended =
      let number : Some e ≡ Some x.1 = sym is ∙ ends-number buffer (ending_of x) version ended in
      let key : version.key ≡ x.0 = key_is x.0 version.key (ends-key buffer (ending_of x) version ended) in
      let end : e ≡ x.1 = cc in
      let same : x ≡ (version.key, e) = λ i. (sym key i, sym end i) in
      once entries in_order k place x (version.key, e) there_k there at_k at same

  pub spent-set : set (spent_by f buffer versions) place true ≡ spent_by f buffer (versions ++ version ∷ [])
  spent-set =
      let old = spent_by f buffer versions in
      let new = spent_by f buffer (versions ++ version ∷ []) in
      let first : Entry = (version.key, e) in
      let many : length buffer ≡ length entries = length-map entries ending_of in
      same_lists (set old place true) new (length-set old place true ∙ length-map buffer (is_spent f buffer versions) ∙ sym (length-map buffer (is_spent f buffer (versions ++ version ∷ []))))
      (λ k d l.
      let m : k < length entries = omega (arith, l, length-set old place true, length-map buffer (is_spent f buffer versions), many) in
      elim (cases_eq k place) [
        | inl same ↦
            ap (λ (i : ℕ). get_or (set old place true) i d) same
            ∙ get_or-set_same old place true d (omega (arith, there, many, length-map buffer (is_spent f buffer versions)))
            ∙ sym (ap (λ (i : ℕ). get_or new i d) same
            ∙ get_or-map (is_spent f buffer (versions ++ version ∷ [])) buffer place (ending_of first) d (omega (arith, there, many))
            ∙ ap (is_spent f buffer (versions ++ version ∷ [])) (get_or-map ending_of entries place first (ending_of first) there ∙ ap ending_of at) ∙ spent_here)
        | inr other ↦
            let x : Entry = get_or entries k first in
            get_or-set_other old place k true d other
            ∙ get_or-map (is_spent f buffer versions) buffer k (ending_of first) d (omega (arith, m, many))
            ∙ ap (is_spent f buffer versions) (get_or-map ending_of entries k first (ending_of first) m)
            ∙ as_before f buffer versions version (ending_of x) (λ ended. absurd (other (other_ends k x m (get_or_default entries k x first m) ended)))
            ∙ sym (get_or-map (is_spent f buffer (versions ++ version ∷ [])) buffer k (ending_of first) d (omega (arith, m, many))
            ∙ ap (is_spent f buffer (versions ++ version ∷ [])) (get_or-map ending_of entries k first (ending_of first) m))
      ])

-- ---- all of them

pub none-spent : (f : ℕ) (buffer : List Ending) (entries : List Entry) → replicate (length entries) false ≡ map (is_spent f buffer []) (endings_of entries)
none-spent f all [] = refl
none-spent f all (x ∷ entries) = ap (λ (bits : List Bool). false ∷ bits) (none-spent f all entries) ∙ ap (λ (bit : Bool). bit ∷ map (is_spent f all []) (endings_of entries)) (step (leb x.1 f))
  where
    step : (t : Bool) → false ≡ (t && false)
    step true = refl
    step false = refl

pub spent-filter : (f : ℕ) (buffer : List Ending) (versions : List Version) (xs : List Ending)
    → filter (is_spent f buffer versions) xs ≡ filter (λ (x : Ending). leb x.end f) (filter (λ (x : Ending). list_any (ends buffer x) versions) xs)
spent-filter f all versions [] = refl
spent-filter f all versions (x ∷ xs) = step (leb x.end f) (list_any (ends all x) versions) refl (spent-filter f all versions xs)
  where
    step : (p q : Bool) → leb x.end f ≡ p → filter (is_spent f all versions) xs ≡ filter (λ (x : Ending). leb x.end f) (filter (λ (x : Ending). list_any (ends all x) versions) xs)
        → cond (p && q) (x ∷ filter (is_spent f all versions) xs) (filter (is_spent f all versions) xs)
        ≡ filter (λ (x : Ending). leb x.end f) (cond q (x ∷ filter (λ (x : Ending). list_any (ends all x) versions) xs) (filter (λ (x : Ending). list_any (ends all x) versions) xs))
    step true true is rest = ap (λ (ys : List Ending). x ∷ ys) rest ∙ sym (ap (λ (t : Bool). cond t (x ∷ filter (λ (x : Ending). leb x.end f) (filter (λ (x : Ending). list_any (ends all x) versions) xs)) (filter (λ (x : Ending). leb x.end f) (filter (λ (x : Ending). list_any (ends all x) versions) xs))) is)
    step true false is rest = rest
    step false true is rest = rest ∙ sym (ap (λ (t : Bool). cond t (x ∷ filter (λ (x : Ending). leb x.end f) (filter (λ (x : Ending). list_any (ends all x) versions) xs)) (filter (λ (x : Ending). leb x.end f) (filter (λ (x : Ending). list_any (ends all x) versions) xs))) is)
    step false false is rest = rest

-- the versions of a part, one more
pub versions-more : (rowed : List Rowed) (i : ℕ) (version : Version) → i < length rowed → version_in rowed i ≡ Some version → take i (versions_of rowed) ++ version ∷ [] ≡ take (i + 1) (versions_of rowed)
versions-more rowed i version there is =
    let all = versions_of rowed in
    let m : i < length all = omega (arith, there, length-map rowed (λ (v : Rowed). v.version)) in
    let at : get_or all i version ≡ version = get_or-map (λ (v : Rowed). v.version) rowed i (rowed_at [] 0) version there ∙ version-read rowed i version is in
    ap (λ (v : Version). take i all ++ v ∷ []) (sym at) ∙ sym (take_more all i version m)

pub versions-groups : (groups : List (ℕ × GroupPart)) (i : ℕ) (d : ℕ × GroupPart) → i < length groups
    → flat_map (λ (group : ℕ × _). versions_in group.1) (take i groups) ++ versions_in (get_or groups i d).1 ≡ flat_map (λ (group : ℕ × _). versions_in group.1) (take (i + 1) groups)
versions-groups groups i d there =
    let part : ℕ × GroupPart = get_or groups i d in
    sym (ap (λ (some : List (ℕ × GroupPart)). flat_map (λ (group : ℕ × GroupPart). versions_in group.1) some) (take_more groups i d there)
    ∙ flat_map-append (λ (group : ℕ × GroupPart). versions_in group.1) (take i groups) (part ∷ [])
    ∙ ap (λ (more : List Version). flat_map (λ (group : ℕ × GroupPart). versions_in group.1) (take i groups) ++ more) (append-nil (versions_in part.1)))

pub versions-all : (groups : List (ℕ × GroupPart)) → flat_map (λ (group : ℕ × _). versions_in group.1) groups ≡ versions_of (flat_map (λ (group : ℕ × _). rowed_in group.1) groups)
versions-all [] = refl
versions-all (group ∷ groups) =
    ap (λ (more : List Version). versions_in group.1 ++ more) (versions-all groups)
    ∙ sym (map-append (λ (v : Rowed). v.version) (rowed_in group.1) (flat_map (λ (group : ℕ × GroupPart). rowed_in group.1) groups))
