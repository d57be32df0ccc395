-- Lists in chunks of 128, and what is shared of them.
use Rattle.std.proofs.Common.{◌≡◌, ◌≢◌, ℕ, zero, suc, ◌+◌, ◌*◌, ◌/◌, ◌<◌, ◌≤◌, inl, inr, List, [], ◌∷◌, ◌++◌, map, length, get_or, set, take, drop, slice_get, Option, None, Some, refl, sym, ap, ◌∙◌, subst, arith}
use Rattle.std.specs.Prelude.{min, ◌⊎◌}
use Rattle.std.specs.List.{All, filter}
use Rattle.std.proofs.Math.Seq.{take-set-lt}
use Rattle.std.proofs.lemmas.Bool.{cases_lt}
use Rattle.std.proofs.lemmas.Grind.{flat_map-append}
use Rattle.std.proofs.lemmas.List.{append-nil, drop_all, drop-append-le, drop-set-lt, length-map, length-take, map-append, map-set, set-get_or, take-append-drop, take-append-le, take-set-le, take-take, take_all, take_more, get_or-map}
use Rattle.std.proofs.lemmas.List.Elements.{filter-append, All-append}
use Rattle.std.proofs.lemmas.Option.{slice_get_within}
use Rattle.group_view.specs.declared.groups.Group.{Group}
use Rattle.group_view.specs.declared.parts.GroupPart.{GroupPart}
use Rattle.group_view.specs.Parts.{packed_part, packed_parts, IsFitting}
use Rattle.group_view.specs.Seen.{Seen, seen, shows, entry_of, packed_seen, part_entry}
use Rattle.group_view.specs.Shares.{Share, chunk_in, parts_of, AreShared, HaveOthers, IsShareOf}

-- the lists have the same chunks below one
abbrev pub HaveLower : ℕ → List Seen → List Seen → Type 0
HaveLower chunk old new = (c : ℕ) → c < chunk → chunk_in c new ≡ chunk_in c old

-- ---- an element read

module _ {X : Type 0} where
  read_other : (xs : List X) (i c : ℕ) (y : X) → c ≢ i → slice_get (set xs i y) c ≡ slice_get xs c
  read_other [] i c y other = refl
  read_other (x ∷ xs) zero zero y other = absurd (other refl)
  read_other (x ∷ xs) zero (suc c) y other = refl
  read_other (x ∷ xs) (suc i) zero y other = refl
  read_other (x ∷ xs) (suc i) (suc c) y other = read_other xs i c y (λ same. other (ap suc same))

  read_here : (xs : List X) (i : ℕ) (y z : X) → slice_get (set xs i y) i ≡ Some z → y ≡ z
  read_here [] i y z at = cc
  read_here (x ∷ xs) zero y z at = cc
  read_here (x ∷ xs) (suc i) y z at = read_here xs i y z at

  read_push : (xs : List X) (y z : X) (c : ℕ) → slice_get (xs ++ y ∷ []) c ≡ Some z → (slice_get xs c ≡ Some z) ⊎ ((c ≡ length xs) × (y ≡ z))
  read_push [] y z zero at = inr (refl, cc)
  read_push [] y z (suc c) at = cc
  read_push (x ∷ xs) y z zero at = inl at
  read_push (x ∷ xs) y z (suc c) at = elim (read_push xs y z c at) [ inl before ↦ inl before | inr last ↦ inr (ap suc last.0, last.1) ]

  read_take : (n : ℕ) (xs : List X) (z : X) (c : ℕ) → slice_get (take n xs) c ≡ Some z → (c < n) × (slice_get xs c ≡ Some z)
  read_take zero xs z c at = cc
  read_take (suc n) [] z c at = cc
  read_take (suc n) (x ∷ xs) z zero at = (omega arith, at)
  read_take (suc n) (x ∷ xs) z (suc c) at = let rest = read_take n xs z c at in let below = rest.0 in (omega (arith, below), rest.1)

  -- it is the one that was set, or another one
  read_set : (xs : List X) (i c : ℕ) (y z : X) → slice_get (set xs i y) c ≡ Some z → ((c ≡ i) × (y ≡ z)) ⊎ ((c ≢ i) × (slice_get xs c ≡ Some z))
  read_set xs i c y z at = elim (cases_lt c i) [
    | inl below ↦ let other : c ≢ i = λ same. omega (arith, same, below) in inr (other, sym (read_other xs i c y other) ∙ at)
    | inr from ↦ elim (cases_lt i c) [
      | inl above ↦ let other : c ≢ i = λ same. omega (arith, same, above) in inr (other, sym (read_other xs i c y other) ∙ at)
      | inr to ↦ let same : c ≡ i = omega (arith, from, to) in inl (same, read_here xs i y z (ap (slice_get (set xs i y)) (sym same) ∙ at))
    ]
  ]

-- ---- chunks

module _ {X : Type 0} where
  -- another item at a place is in the chunk of the place alone
  chunk_set : (xs : List X) (place c : ℕ) (y : X) → c ≢ place / 128 → chunk_in c (set xs place y) ≡ chunk_in c xs
  chunk_set xs place c y other = elim (cases_lt place (128 * c)) [
    | inl below ↦
        ap (drop (128 * c)) (take-set-lt (128 * c + 128) xs place y (omega (arith, below)))
        ∙ drop-set-lt (128 * c) (take (128 * c + 128) xs) place y below
    | inr from ↦ elim (cases_lt place (128 * c + 128)) [
      | inl inside ↦ absurd (other (omega (arith, from, inside)))
      | inr late ↦ ap (drop (128 * c)) (take-set-le (128 * c + 128) xs place y late)
    ]
  ]

  -- an item more is in none of the whole chunks before
  chunk_push : (xs : List X) (y : X) (c : ℕ) → c < length xs / 128 → chunk_in c (xs ++ y ∷ []) ≡ chunk_in c xs
  chunk_push xs y c below = ap (drop (128 * c)) (take-append-le (128 * c + 128) xs (y ∷ []) (omega (arith, below)))

  -- a chunk follows those before it
  take_chunk : (xs : List X) (c : ℕ) → take (128 * c) xs ++ chunk_in c xs ≡ take (128 * (c + 1)) xs
  take_chunk xs c =
      let next : 128 * c + 128 ≡ 128 * (c + 1) = omega arith in
      ap (λ (l : List X). l ++ chunk_in c xs) (sym (take-take (128 * c) (128 * c + 128) xs (omega arith)))
      ∙ take-append-drop (128 * c) (take (128 * c + 128) xs) ∙ ap (λ (n : ℕ). take n xs) next

  -- the last chunk ends where the list does
  chunk_end : (xs : List X) (c from to : ℕ) → from ≡ 128 * c → to ≡ min (length xs) (from + 128) → drop from (take to xs) ≡ chunk_in c xs
  chunk_end xs c from to begins ends =
      ap (λ (n : ℕ). drop n (take to xs)) begins ∙ ap (drop (128 * c)) (elim (cases_lt (length xs) (from + 128)) [
        | inl short ↦ take_all to xs (omega (arith, ends, short)) ∙ sym (take_all (128 * c + 128) xs (omega (arith, short, begins)))
        | inr long ↦ ap (λ (n : ℕ). take n xs) (omega (arith, ends, long, begins))
      ])

  -- one item further
  pub window_more : (xs : List X) (from i : ℕ) (d : X) → from ≤ i → i < length xs → drop from (take (i + 1) xs) ≡ drop from (take i xs) ++ get_or xs i d ∷ []
  window_more xs from i d below inside =
      ap (drop from) (take_more xs i d inside)
      ∙ drop-append-le from (take i xs) (get_or xs i d ∷ []) (omega (arith, length-take i xs, below, inside))

-- ---- what is shared of a list that changes

-- one group changes, and is seen as it was
pub seen_set : (groups : List Group) (place : ℕ) (d group : Group) → seen group ≡ seen (get_or groups place d) → map seen (set groups place group) ≡ map seen groups
seen_set groups place d group same =
    map-set seen groups place group ∙ ap (λ (s : Seen). set (map seen groups) place s) same ∙ sym (map-set seen groups place (get_or groups place d)) ∙ ap (map seen) (set-get_or groups place d)

pub others_set : (groups : List Group) (place : ℕ) (group : Group) → HaveOthers (place / 128) (map seen groups) (map seen (set groups place group))
others_set groups place group = λ c other. ap (chunk_in c) (map-set seen groups place group) ∙ chunk_set (map seen groups) place c (seen group) other

pub lower_push : (groups : List Group) (group : Group) → HaveLower (length groups / 128) (map seen groups) (map seen (groups ++ group ∷ []))
lower_push groups group = λ c below.
    ap (chunk_in c) (map-append seen groups (group ∷ []))
    ∙ chunk_push (map seen groups) (seen group) c (let long = length-map groups seen in omega (arith, below, long))

-- ---- shares

pub share_none : IsShareOf [] []
share_none = record { entries = refl; packed = refl; fitting = λ k d l. absurd (omega (arith, l)) }

pub share_both : (xs ys : List Seen) (ps qs : List (ℕ × GroupPart)) → IsShareOf xs ps → IsShareOf ys qs → IsShareOf (xs ++ ys) (ps ++ qs)
share_both xs ys ps qs first second = record {
  entries =
      map-append part_entry ps qs ∙ ap (λ l. l ++ map part_entry qs) first.entries ∙ ap (λ l. map entry_of (filter shows xs) ++ l) second.entries
      ∙ sym (map-append entry_of (filter shows xs) (filter shows ys)) ∙ ap (map entry_of) (sym (filter-append shows xs ys));
  packed =
      flat_map-append packed_part ps qs ∙ ap (λ l. l ++ packed_parts qs) first.packed ∙ ap (λ l. packed_seen (filter shows xs) ++ l) second.packed
      ∙ sym (flat_map-append (λ (s : Seen). s.packed) (filter shows xs) (filter shows ys)) ∙ ap packed_seen (sym (filter-append shows xs ys));
  fitting = All-append (λ (part : ℕ × GroupPart). IsFitting part.1) ps qs first.fitting second.fitting;
}

-- chunk after chunk
pub share_chunk : (all : List Seen) (c : ℕ) (ps qs : List (ℕ × GroupPart)) → IsShareOf (take (128 * c) all) ps → IsShareOf (chunk_in c all) qs → IsShareOf (take (128 * (c + 1)) all) (ps ++ qs)
share_chunk all c ps qs before here = subst (λ (l : List Seen). IsShareOf l (ps ++ qs)) (take_chunk all c) (share_both (take (128 * c) all) (chunk_in c all) ps qs before here)

pub share_whole : (all : List Seen) (c : ℕ) (ps : List (ℕ × GroupPart)) → length all ≤ 128 * c → IsShareOf (take (128 * c) all) ps → IsShareOf all ps
share_whole all c ps past is = subst (λ (l : List Seen). IsShareOf l ps) (take_all (128 * c) all past) is

pub share_end : (all : List Seen) (c from to : ℕ) (ps : List (ℕ × GroupPart)) → from ≡ 128 * c → to ≡ min (length all) (from + 128) → IsShareOf (drop from (take to all)) ps → IsShareOf (chunk_in c all) ps
share_end all c from to ps begins ends is = subst (λ (l : List Seen). IsShareOf l ps) (chunk_end all c from to begins ends) is

-- what was made of a chunk is what a view shows of it
pub share_made : (old new : List Group) (c to : ℕ) (parts kept : List (ℕ × GroupPart)) → map seen new ≡ map seen old → to ≡ min (length old) (c * 128 + 128) → kept ≡ parts → IsShareOf (drop (c * 128) (take to (map seen old))) parts
    → IsShareOf (chunk_in c (map seen new)) kept
share_made old new c to parts kept same ends one made =
    let begins : c * 128 ≡ 128 * c = omega arith in
    let long : length (map seen old) ≡ length old = length-map old seen in
    subst (λ (l : List (ℕ × GroupPart)). IsShareOf (chunk_in c (map seen new)) l) (sym one)
    (subst (λ (l : List Seen). IsShareOf (chunk_in c l) parts) (sym same) (share_end (map seen old) c (c * 128) to parts begins (ends ∙ ap (λ (n : ℕ). min n (c * 128 + 128)) (sym long)) made))

-- group after group
pub share_more : (all : List Seen) (gs : List Group) (from i : ℕ) (g : Group) (ps qs : List (ℕ × GroupPart)) → map seen gs ≡ all → from ≤ i → i < length gs → g ≡ get_or gs i g
    → map part_entry qs ≡ map part_entry ps ++ map entry_of (filter shows (seen g ∷ [])) → packed_parts qs ≡ packed_parts ps ++ packed_seen (filter shows (seen g ∷ []))
    → All (λ (part : ℕ × GroupPart). IsFitting part.1) qs → IsShareOf (drop from (take i all)) ps → IsShareOf (drop from (take (i + 1) all)) qs
share_more all gs from i g ps qs same below inside here entries packed fitting is =
    let within : i < length all = omega (arith, ap length same, length-map gs seen, inside) in
    let item : get_or all i (seen g) ≡ seen g = ap (λ l. get_or l i (seen g)) (sym same) ∙ get_or-map seen gs i g (seen g) inside ∙ ap seen (sym here) in
    let window = drop from (take i all) in
    let more : window ++ seen g ∷ [] ≡ drop from (take (i + 1) all) = ap (λ (s : Seen). window ++ s ∷ []) (sym item) ∙ sym (window_more all from i (seen g) below within) in
    subst (λ (l : List Seen). IsShareOf l qs) more (record {
      entries = entries ∙ ap (λ l. l ++ map entry_of (filter shows (seen g ∷ []))) is.entries ∙ sym (map-append entry_of (filter shows window) (filter shows (seen g ∷ []))) ∙ ap (map entry_of) (sym (filter-append shows window (seen g ∷ [])));
      packed = packed ∙ ap (λ l. l ++ packed_seen (filter shows (seen g ∷ []))) is.packed ∙ sym (flat_map-append (λ (s : Seen). s.packed) (filter shows window) (filter shows (seen g ∷ []))) ∙ ap packed_seen (sym (filter-append shows window (seen g ∷ [])));
      fitting = fitting;
    })

-- ---- what is kept of shares

module _ (old new : List Seen) (shares : List (Option Share)) (chunk : ℕ) where
  -- without the share of the chunk that changes
  pub forgot : HaveOthers chunk old new → AreShared old shares → AreShared new (set shares chunk None)
  forgot others shared = λ c share at. elim (read_set shares chunk c None (Some share) at) [
    | inl here ↦ cc
    | inr there ↦ subst (λ (l : List Seen). IsShareOf l (parts_of share)) (sym (others c there.0)) (shared c share there.1)
  ]

  -- where the chunk has no share
  pub forgot_past : length shares ≤ chunk → HaveOthers chunk old new → AreShared old shares → AreShared new shares
  forgot_past past others shared = λ c share at.
      let within = slice_get_within shares c (Some share) at in
      subst (λ (l : List Seen). IsShareOf l (parts_of share)) (sym (others c (λ same. omega (arith, same, within, past)))) (shared c share at)

  -- with the shares before a chunk alone
  pub forgot_from : HaveLower chunk old new → AreShared old shares → AreShared new (take chunk shares)
  forgot_from lower shared = λ c share at.
      let there = read_take chunk shares (Some share) c at in
      subst (λ (l : List Seen). IsShareOf l (parts_of share)) (sym (lower c there.0)) (shared c share there.1)

module _ (all : List Seen) (shares : List (Option Share)) (chunk : ℕ) (share : Share) (shared : AreShared all shares) (is : IsShareOf (chunk_in chunk all) (parts_of share)) where
  pub kept_here : AreShared all (set shares chunk (Some share))
  kept_here = λ c other at. elim (read_set shares chunk c (Some share) (Some other) at) [
    | inl here ↦
        let one : share ≡ other = cc in
        subst (λ (n : ℕ). IsShareOf (chunk_in n all) (parts_of other)) (sym here.0) (subst (λ (s : Share). IsShareOf (chunk_in chunk all) (parts_of s)) one is)
    | inr there ↦ shared c other there.1
  ]

  pub kept_last : chunk ≡ length shares → AreShared all (shares ++ Some share ∷ [])
  kept_last end = λ c other at. elim (read_push shares (Some share) (Some other) c at) [
    | inl before ↦ shared c other before
    | inr last ↦
        let one : share ≡ other = cc in
        subst (λ (n : ℕ). IsShareOf (chunk_in n all) (parts_of other)) (end ∙ sym last.0) (subst (λ (s : Share). IsShareOf (chunk_in chunk all) (parts_of s)) one is)
  ]

-- the same groups are seen
pub shared_alike : (old new : List Group) (shares : List (Option Share)) → map seen new ≡ map seen old → AreShared (map seen old) shares → AreShared (map seen new) shares
shared_alike old new shares same shared = subst (λ (l : List Seen). AreShared l shares) (sym same) shared

-- a slice of all groups, given back
pub given_back : (len : ℕ) (old new : List Group) → len ≡ length old → map seen new ≡ map seen old → take len (new ++ drop (length new) old) ≡ new
given_back len old new is same =
    let long : length new ≡ length old = let seen_long = ap length same in let one = length-map new seen in let two = length-map old seen in omega (arith, seen_long, one, two) in
    ap (λ (l : List Group). take len (new ++ l)) (drop_all (length new) old (omega (arith, long))) ∙ ap (take len) (append-nil new) ∙ take_all len new (omega (arith, is, long))
