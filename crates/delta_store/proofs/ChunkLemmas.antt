-- What a change of one chunk does to them all.
use Rattle.std.proofs.Common.{◌≡◌, ◌≢◌, ℕ, ◌+◌, ◌-◌, ◌*◌, ◌/◌, ◌%◌, ◌<◌, ◌≤◌, min, true, false, All, unwrap_or, List, [], ◌∷◌, ◌++◌, map, length, get_or, set, take, slice_get, sym, ap, ◌∙◌, subst, arith, inl, inr, Result, Ok, Err, OnOk}
use Rattle.std.proofs.Math.Seq.{map-set_same}
use Rattle.std.proofs.lemmas.Bool.{cases_eq, cases_lt}
use Rattle.std.proofs.lemmas.List.{map-set, get_or-map, get_or-set_same, get_or-set_other, get_or_past, length-map, get_or_append_left, get_or_push, length_push, map-append, take_more}
use Rattle.std.proofs.lemmas.List.Elements.{All-nil, All-append, All-head, All-tail}
use Rattle.std.proofs.lemmas.Option.{unwrap_or-slice_get}
use Rattle.delta_store.specs.declared.chunk.Chunk.{Chunk}
use Rattle.delta_store.specs.declared.version.LinkedVersion.{LinkedVersion}
use Rattle.delta_store.specs.Chunks.{versions_in, owns_in, own_from, free_in, versions_at, free_at, own_at, joined, owned, IsKept, AreFilled, AreKept}
use Rattle.delta_store.proofs.OwnLemmas.{owns_at-long, owns_at-from, owns_at-own}
use Rattle.delta_store.proofs.Parts.{whole, IsCut, length-whole, get-whole, set-whole, push-whole, whole-same}

-- ---- what a function of chunks is at a place

pub at_read : {Y : Type 0} (f : Chunk → Y) (cs : List Chunk) (i : ℕ) (c : Chunk) (d : Y) → i < length cs → c ≡ get_or cs i c → get_or (map f cs) i d ≡ f c
at_read f cs i c d there is = get_or-map f cs i c d there ∙ ap f (sym is)

module _ {Y : Type 0} (f : Chunk → Y) (cs : List Chunk) (i : ℕ) (c : Chunk) (d : Y) (there : i < length cs) where
  pub at_set-here : get_or (map f (set cs i c)) i d ≡ f c
  at_set-here = ap (λ ys. get_or ys i d) (map-set f cs i c) ∙ get_or-set_same (map f cs) i (f c) d (omega (arith, there, length-map cs f))

  pub at_set-other : (k : ℕ) → k ≢ i → get_or (map f (set cs i c)) k d ≡ get_or (map f cs) k d
  at_set-other k apart = ap (λ ys. get_or ys k d) (map-set f cs i c) ∙ get_or-set_other (map f cs) i k (f c) d apart

-- what is as before at the place is so everywhere
pub at_set-same : {Y : Type 0} (f : Chunk → Y) (cs : List Chunk) (i : ℕ) (c : Chunk) (d : Y) → i < length cs → f c ≡ get_or (map f cs) i d → (k : ℕ) → get_or (map f (set cs i c)) k d ≡ get_or (map f cs) k d
at_set-same f cs i c d there same k = elim (cases_eq k i) [
  | inl is ↦ subst (λ n. get_or (map f (set cs i c)) n d ≡ get_or (map f cs) n d) (sym is) (at_set-here f cs i c d there ∙ same)
  | inr apart ↦ at_set-other f cs i c d there k apart
]

module _ {Y : Type 0} (f : Chunk → Y) (cs : List Chunk) (c : Chunk) (d : Y) where
  pub at_push-below : (k : ℕ) → k < length cs → get_or (map f (cs ++ c ∷ [])) k d ≡ get_or (map f cs) k d
  at_push-below k below = ap (λ ys. get_or ys k d) (map-append f cs (c ∷ [])) ∙ get_or_append_left (map f cs) (f c ∷ []) d k (omega (arith, below, length-map cs f))

  pub at_push-here : get_or (map f (cs ++ c ∷ [])) (length cs) d ≡ f c
  at_push-here = ap (λ ys. get_or ys (length cs) d) (map-append f cs (c ∷ [])) ∙ get_or_push (map f cs) (f c) d (length cs) (length-map cs f)

  pub at_push-above : (k : ℕ) → length cs < k → get_or (map f (cs ++ c ∷ [])) k d ≡ get_or (map f cs) k d
  at_push-above k above =
      get_or_past (map f (cs ++ c ∷ [])) k d (omega (arith, above, length-map (cs ++ c ∷ []) f, length_push cs c))
      ∙ sym (get_or_past (map f cs) k d (omega (arith, above, length-map cs f)))

-- a chunk in place of one of which all that is looked at is the same
pub at-same : {Y : Type 0} (f : Chunk → Y) (cs : List Chunk) (i : ℕ) (c d : Chunk) → c ≡ get_or cs i c → f d ≡ f c → map f (set cs i d) ≡ map f cs
at-same f cs i c d here same = map-set_same f cs i d c (same ∙ ap f here)

-- what follows on Ok from what holds on Ok
pub on_ok : {A E : Type 0} {P Q : Type 0} (r : Result A E) → (P → Q) → OnOk r P → OnOk r Q
on_ok (Ok x) f p = f p
on_ok (Err e) f p = tt

-- ---- chunks that are kept

pub AreKept-trans : (old mid new : List Chunk) → AreKept old mid → AreKept mid new → AreKept old new
AreKept-trans old mid new one two = record {
  versions = λ i. two.versions i ∙ one.versions i;
  free = λ i. let a = one.free i in let b = two.free i in omega (arith, a, b);
  own = λ i. let a = one.own i in let b = two.own i in omega (arith, a, b);
}

pub AreKept-set : (cs : List Chunk) (i : ℕ) (c d : Chunk) → i < length cs → c ≡ get_or cs i c → IsKept c d → AreKept cs (set cs i d)
AreKept-set cs i c d there is kept = record {
  versions = at_set-same versions_in cs i d [] there (kept.versions ∙ sym (at_read versions_in cs i c [] there is));
  free = λ k. elim (cases_eq k i) [
    | inl same ↦ subst (λ n. free_at cs n ≤ free_at (set cs i d) n) (sym same) (let old = at_read free_in cs i c 0 there is in let new = at_set-here free_in cs i d 0 there in omega (arith, old, new, kept.free))
    | inr apart ↦ let other = at_set-other free_in cs i d 0 there k apart in omega (arith, other)
  ];
  own = λ k. elim (cases_eq k i) [
    | inl same ↦ subst (λ n. own_at (set cs i d) n ≤ own_at cs n) (sym same) (let old = at_read own_from cs i c 0 there is in let new = at_set-here own_from cs i d 0 there in omega (arith, old, new, kept.own))
    | inr apart ↦ let other = at_set-other own_from cs i d 0 there k apart in omega (arith, other)
  ];
}

-- ---- chunks that are filled

-- kept chunks have the same versions, and are as filled
module _ (old new : List Chunk) (kept : AreKept old new) where
  pub joined-kept : joined new ≡ joined old
  joined-kept = whole-same (map versions_in new) (map versions_in old) kept.versions

  pub AreFilled-kept : (len room : ℕ) → AreFilled old len room → AreFilled new len room
  AreFilled-kept len room is = record {
    filled = λ i. ap length (kept.versions i) ∙ is.filled i;
    free = λ i. let same = ap length (kept.versions i) in let more = kept.free i in let was = is.free i in omega (arith, same, more, was);
  }

  -- with room made from the chunk of the last place on, there is room up to the end
  pub AreFilled-room : (len room first end : ℕ) → AreFilled old len room → len ≤ room → 1024 * first ≤ len → ((i : ℕ) → first ≤ i → min 1024 (end - 1024 * i) ≤ length (versions_at new i) + free_at new i) → AreFilled new len end
  AreFilled-room len room first end is more from made = record {
    filled = λ i. ap length (kept.versions i) ∙ is.filled i;
    free = λ i. elim (cases_lt i first) [
      | inl below ↦ let same = ap length (kept.versions i) in let was = is.filled i in omega (arith, same, was, from, below)
      | inr here ↦ made i here
    ];
  }

-- one chunk more is taken along
pub take_shared : (cs ds shared : List Chunk) (i : ℕ) (c e : Chunk) → i < length ds → map versions_in ds ≡ map versions_in cs → versions_in e ≡ versions_in (get_or ds i c) → map versions_in shared ≡ take i (map versions_in cs) → map versions_in (shared ++ e ∷ []) ≡ take (i + 1) (map versions_in cs)
take_shared cs ds shared i c e there same is so_far =
    map-append versions_in shared (e ∷ [])
    ∙ ap (λ ps. ps ++ versions_in e ∷ []) so_far
    ∙ ap (λ p. take i (map versions_in cs) ++ p ∷ []) (is ∙ sym (get_or-map versions_in ds i c [] there) ∙ ap (λ ps. get_or ps i []) same)
    ∙ sym (take_more (map versions_in cs) i [] (omega (arith, there, length-map ds versions_in, length-map cs versions_in, ap length same)))

pub set_shared : (ds : List Chunk) (i : ℕ) (c d : Chunk) → versions_in d ≡ versions_in (get_or ds i c) → map versions_in (set ds i d) ≡ map versions_in ds
set_shared ds i c d same = map-set_same versions_in ds i d c same

-- where no version of a chunk is own, none of them all is
pub none_owned : (cs : List Chunk) → All (λ c. All (λ own. own ≡ false) (owns_in c)) cs → All (λ own. own ≡ false) (owned cs)
none_owned [] all = All-nil (λ own. own ≡ false)
none_owned (c ∷ cs) all =
    All-append (λ own. own ≡ false) (owns_in c) (owned cs) (All-head (λ d. All (λ own. own ≡ false) (owns_in d)) c cs all) (none_owned cs (All-tail (λ d. All (λ own. own ≡ false) (owns_in d)) c cs all))

module _ (cs : List Chunk) (len room : ℕ) (is : AreFilled cs len room) where
  cut : IsCut (map versions_in cs) len
  cut = is.filled

  own_cut : IsCut (map owns_in cs) len
  own_cut i = owns_at-long cs i ∙ is.filled i

  pub length-owned : length (owned cs) ≡ len
  length-owned = length-whole (map owns_in cs) len own_cut

  -- whether the version at a place is own says its chunk
  own-read : (n : ℕ) → n < len → get_or (owned cs) n false ≡ get_or (get_or (map owns_in cs) (n / 1024) []) (n % 1024) false
  own-read n below =
      sym (unwrap_or-slice_get (owned cs) n false)
      ∙ ap (λ o. unwrap_or o false) (get-whole (map owns_in cs) len (n / 1024) (n % 1024) n own_cut (omega arith) (omega arith) below)
      ∙ unwrap_or-slice_get (get_or (map owns_in cs) (n / 1024) []) (n % 1024) false

  pub own-within : (n : ℕ) → get_or (owned cs) n false ≡ true → (n < len) × (own_at cs (n / 1024) ≤ n % 1024)
  own-within n own = elim (cases_lt n len) [
    | inl below ↦ (below, owns_at-from cs (n / 1024) (n % 1024) (sym (own-read n below) ∙ own))
    | inr past ↦ absurd (let none = get_or_past (owned cs) n false (omega (arith, past, length-owned)) in cc)
  ]

  pub own-from : (n : ℕ) → n < len → own_at cs (n / 1024) ≤ n % 1024 → get_or (owned cs) n false ≡ true
  own-from n below from = own-read n below ∙ owns_at-own cs (n / 1024) (n % 1024) from (let was = is.filled (n / 1024) in omega (arith, was, below))

  pub length-joined : length (joined cs) ≡ len
  length-joined = length-whole (map versions_in cs) len cut

  -- the chunk of a place is there
  pub chunk_there : (n : ℕ) → n < len → n / 1024 < length cs
  chunk_there n below = elim (cases_lt (n / 1024) (length cs)) [
    | inl there ↦ there
    | inr past ↦ absurd (let none = ap length (get_or_past (map versions_in cs) (n / 1024) [] (omega (arith, past, length-map cs versions_in))) in let was = is.filled (n / 1024) in omega (arith, none, was))
  ]

  -- and so is that of a place that finds room
  pub room_there : (n : ℕ) → n < room → n / 1024 < length cs
  room_there n below = elim (cases_lt (n / 1024) (length cs)) [
    | inl there ↦ there
    | inr past ↦ absurd (let none = ap length (get_or_past (map versions_in cs) (n / 1024) [] (omega (arith, past, length-map cs versions_in))) in let free = get_or_past (map free_in cs) (n / 1024) 0 (omega (arith, past, length-map cs free_in)) in let was = is.free (n / 1024) in omega (arith, none, free, was))
  ]

  -- the chunk at which the places end is there, or comes next
  pub end_there : len / 1024 ≤ length cs
  end_there = elim (cases_lt (length cs) (len / 1024)) [
    | inl past ↦ absurd (let none = ap length (get_or_past (map versions_in cs) (length cs) [] (omega (arith, length-map cs versions_in))) in let was = is.filled (length cs) in omega (arith, none, was, past))
    | inr there ↦ there
  ]

  module _ (n : ℕ) (c : Chunk) (below : n < len) (here : c ≡ get_or cs (n / 1024) c) where
    versions_here : versions_at cs (n / 1024) ≡ versions_in c
    versions_here = at_read versions_in cs (n / 1024) c [] (chunk_there n below) here

    pub within_chunk : n % 1024 < length (versions_in c)
    within_chunk = let same = ap length versions_here in let was = is.filled (n / 1024) in omega (arith, same, was, below)

    pub own_here : get_or (owned cs) n false ≡ true → own_from c ≤ n % 1024
    own_here own = let read = at_read own_from cs (n / 1024) c 0 (chunk_there n below) here in let from = own-within n own in omega (arith, read, from.1)

    pub get-joined : slice_get (joined cs) n ≡ slice_get (versions_in c) (n % 1024)
    get-joined = get-whole (map versions_in cs) len (n / 1024) (n % 1024) n cut (omega arith) (omega arith) below ∙ ap (λ (xs : List LinkedVersion). slice_get xs (n % 1024)) versions_here

    -- a version written over in its chunk
    pub set-joined : (d : Chunk) (v : LinkedVersion) → versions_in d ≡ set (versions_in c) (n % 1024) v → joined (set cs (n / 1024) d) ≡ set (joined cs) n v
    set-joined d v written =
        ap whole (map-set versions_in cs (n / 1024) d ∙ ap (λ (p : List LinkedVersion). set (map versions_in cs) (n / 1024) p) (written ∙ ap (λ (xs : List LinkedVersion). set xs (n % 1024) v) (sym versions_here)))
        ∙ sym (set-whole (map versions_in cs) len (n / 1024) (n % 1024) n v cut (omega arith) (omega arith) below)

    -- the chunks are as filled as before
    pub set-filled : (d : Chunk) → length (versions_in d) ≡ length (versions_in c) → free_in d ≡ free_in c → AreFilled (set cs (n / 1024) d) len room
    set-filled d long_as free = record {
      filled = λ k. long k ∙ is.filled k;
      free = λ k. let same = long k in let less = at_set-same free_in cs (n / 1024) d 0 (chunk_there n below) (free ∙ sym (at_read free_in cs (n / 1024) c 0 (chunk_there n below) here)) k in let was = is.free k in omega (arith, same, less, was);
    }
      where
        long : (k : ℕ) → length (versions_at (set cs (n / 1024) d) k) ≡ length (versions_at cs k)
        long k = elim (cases_eq k (n / 1024)) [
          | inl same ↦ subst (λ m. length (versions_at (set cs (n / 1024) d) m) ≡ length (versions_at cs m)) (sym same) (ap length (at_set-here versions_in cs (n / 1024) d [] (chunk_there n below)) ∙ long_as ∙ sym (ap length versions_here))
          | inr apart ↦ ap length (at_set-other versions_in cs (n / 1024) d [] (chunk_there n below) k apart)
        ]

  module _ (c : Chunk) (below : len < room) (here : c ≡ get_or cs (len / 1024) c) where
    at_end : versions_at cs (len / 1024) ≡ versions_in c
    at_end = at_read versions_in cs (len / 1024) c [] (room_there len below) here

    -- the chunk at which the places end takes another one
    pub free_at_end : 0 < free_in c
    free_at_end =
        let same = ap length at_end in
        let free = at_read free_in cs (len / 1024) c 0 (room_there len below) here in
        let was = is.filled (len / 1024) in
        let more = is.free (len / 1024) in
        omega (arith, same, free, was, more)

    -- and what is one longer there is one longer over all chunks
    push-part : {Y : Type 0} (f : Chunk → List Y) (d : Chunk) (y : Y) → IsCut (map f cs) len → f d ≡ f c ++ y ∷ [] → whole (map f (set cs (len / 1024) d)) ≡ whole (map f cs) ++ y ∷ []
    push-part {Y} f d y cut pushed =
        ap whole (map-set f cs (len / 1024) d ∙ ap (λ (p : List Y). set (map f cs) (len / 1024) p) (pushed ∙ ap (λ (xs : List Y). xs ++ y ∷ []) (sym (at_read f cs (len / 1024) c [] (room_there len below) here))))
        ∙ push-whole (map f cs) len (len / 1024) y cut (let there = room_there len below in omega (arith, there, length-map cs f)) (omega arith) (omega arith)

    pub push-owned : (d : Chunk) → owns_in d ≡ owns_in c ++ true ∷ [] → owned (set cs (len / 1024) d) ≡ owned cs ++ true ∷ []
    push-owned d pushed = push-part owns_in d true own_cut pushed

    module _ (d : Chunk) (v : LinkedVersion) (pushed : versions_in d ≡ versions_in c ++ v ∷ []) where
      pub push-joined : joined (set cs (len / 1024) d) ≡ joined cs ++ v ∷ []
      push-joined = push-part versions_in d v cut pushed

      pub push-filled : free_in d + 1 ≡ free_in c → (len' room' : ℕ) → len' ≡ len + 1 → room' ≡ room → AreFilled (set cs (len / 1024) d) len' room'
      push-filled less len' room' longer same_room = record {
        filled = λ k. elim (cases_eq k (len / 1024)) [
          | inl same ↦ subst (λ n. length (versions_at (set cs (len / 1024) d) n) ≡ min 1024 (len' - 1024 * n)) (sym same) (let new = ap length (at_set-here versions_in cs (len / 1024) d [] (room_there len below) ∙ pushed) in let one = length_push (versions_in c) v in let old = ap length at_end in let was = is.filled (len / 1024) in omega (arith, new, one, old, was, longer))
          | inr apart ↦ let other = ap length (at_set-other versions_in cs (len / 1024) d [] (room_there len below) k apart) in let was = is.filled k in omega (arith, other, was, longer, apart)
        ];
        free = λ k. elim (cases_eq k (len / 1024)) [
          | inl same ↦ subst (λ n. min 1024 (room' - 1024 * n) ≤ length (versions_at (set cs (len / 1024) d) n) + free_at (set cs (len / 1024) d) n) (sym same) (let new = ap length (at_set-here versions_in cs (len / 1024) d [] (room_there len below) ∙ pushed) in let one = length_push (versions_in c) v in let old = ap length at_end in let new_free = at_set-here free_in cs (len / 1024) d 0 (room_there len below) in let old_free = at_read free_in cs (len / 1024) c 0 (room_there len below) here in let was = is.free (len / 1024) in omega (arith, new, one, old, new_free, old_free, was, less, same_room))
          | inr apart ↦ let other = ap length (at_set-other versions_in cs (len / 1024) d [] (room_there len below) k apart) in let other_free = at_set-other free_in cs (len / 1024) d 0 (room_there len below) k apart in let was = is.free k in omega (arith, other, other_free, was, same_room)
        ];
      }

-- ---- versions that are own stay so in chunks that are kept

pub own-kept : (old new : List Chunk) (len room : ℕ) → AreFilled old len room → AreKept old new → (n : ℕ) → get_or (owned old) n false ≡ true → get_or (owned new) n false ≡ true
own-kept old new len room is kept n own =
    let was = own-within old len room is n own in
    let less = kept.own (n / 1024) in
    own-from new len room (AreFilled-kept old new kept len room is) n was.0 (omega (arith, was.1, less))
