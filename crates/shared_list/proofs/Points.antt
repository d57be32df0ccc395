-- Where a test parts the items of a list in chunks.
use Rattle.std.proofs.Common.{◌≡◌, ℕ, zero, suc, ◌+◌, ◌-◌, ◌<◌, ◌≤◌, Bool, true, false, true≢false, List, [], ◌∷◌, length, get_or, drop, refl, sym, ◌∙◌, ap, subst, arith, inl, inr, Some, slice_get}
use Rattle.std.specs.List.Sorted.{IsPartitionedBy, IsPartitionPoint}
use Rattle.std.proofs.lemmas.Bool.{cases_lt}
use Rattle.std.proofs.lemmas.List.{drop_all, get_or_default, nil_from_length}
use Rattle.shared_list.specs.Placed.{Placed}
use Rattle.shared_list.specs.Chunks.{joined, passes_first, StandFrom}
use Rattle.shared_list.proofs.Places.{ends_at, from_is, got, next_from, some_at}

-- a test that would pass what another fails does not pass
fails_too : (a b : Bool) → (a ≡ true → b ≡ true) → b ≡ false → a ≡ false
fails_too true b up fails = absurd (true≢false (sym (up refl) ∙ fails))
fails_too false b up fails = refl

an_item : {T : Type 0} (items : List T) → 0 < length items → T
an_item [] some = absurd (omega (arith, some))
an_item (x ∷ xs) some = x

no_chunk : {T : Type 0} → Placed T
no_chunk = record { from = 0; items = [] }

module _ {T : Type 0} (p : T → Bool) where
  first_is : (items : List T) (d : T) → 0 < length items → passes_first p items ≡ p (get_or items 0 d)
  first_is [] d some = absurd (omega (arith, some))
  first_is (x ∷ xs) d some = refl

  -- the answer at the first of some items
  pub first_passes : (items : List T) (x : T) → Some x ≡ slice_get items 0 → p x ≡ passes_first p items
  first_passes [] x is = absurd (cc)
  first_passes (y ∷ ys) x is = let same : x ≡ y = cc in ap p same

  module _ (chunks : List (Placed T)) (stand : StandFrom 0 chunks) where
    -- the items before a place pass and those from it on fail; likewise the first items of chunks
    abbrev PartsAt : ℕ → Type 0
    PartsAt = IsPartitionPoint (λ (item : T). p item ≡ true) (λ (item : T). p item ≡ false) (joined chunks)

    abbrev PartsFirsts : ℕ → Type 0
    PartsFirsts = IsPartitionPoint (λ (chunk : Placed T). passes_first p chunk.items ≡ true) (λ (chunk : Placed T). passes_first p chunk.items ≡ false) chunks

    -- an item by its place in its chunk
    in_chunk : (at : ℕ) (e : Placed T) (j : ℕ) (d : T) → at < length chunks → j < length (get_or chunks at e).items → get_or (joined chunks) ((get_or chunks at e).from + j) d ≡ get_or (get_or chunks at e).items j d
    in_chunk at e j d within inside =
        let chunk = get_or chunks at e in
        let same : chunk.from + j - chunk.from ≡ j = omega arith in
        got chunks stand (chunk.from + j) at d e (record {
          within = within;
          from = λ f. subst (λ (c : Placed T). c.from ≤ chunk.from + j) (get_or_default chunks at e f within) (omega arith);
          below = λ f. subst (λ (c : Placed T). chunk.from + j < c.from + length c.items) (get_or_default chunks at e f within) (omega (arith, inside));
        })
        ∙ ap (λ (k : ℕ). get_or chunk.items k d) same

    -- and the first
    starts : (at : ℕ) (e : Placed T) (d : T) → at < length chunks → passes_first p (get_or chunks at e).items ≡ p (get_or (joined chunks) (get_or chunks at e).from d)
    starts at e d within =
        let chunk = get_or chunks at e in
        let some = some_at chunks stand at e within in
        let same : chunk.from + 0 ≡ chunk.from = omega arith in
        first_is chunk.items d some ∙ ap p (sym (in_chunk at e 0 d within some) ∙ ap (λ (k : ℕ). get_or (joined chunks) k d) same)

    starts_inside : (at : ℕ) (e : Placed T) → at < length chunks → (get_or chunks at e).from < length (joined chunks)
    starts_inside at e within =
        let some = some_at chunks stand at e within in
        let ends = ends_at chunks stand at e within in
        omega (arith, some, ends)

    froms_up : (i m : ℕ) (e : Placed T) → i + m < length chunks → (get_or chunks i e).from ≤ (get_or chunks (i + m) e).from
    froms_up i zero e l = let same : i + 0 ≡ i = omega arith in subst (λ (k : ℕ). (get_or chunks i e).from ≤ (get_or chunks k e).from) (sym same) (omega arith)
    froms_up i (suc m) e l =
        let next : i + m + 1 ≡ i + suc m = omega arith in
        let up = froms_up i m e (omega (arith, l)) in
        let more = next_from chunks stand (i + m) e (omega (arith, l)) in
        subst (λ (k : ℕ). (get_or chunks i e).from ≤ (get_or chunks k e).from) next (omega (arith, up, more))

    module _ (parted : IsPartitionedBy p (joined chunks)) where
      -- the chunks are parted by their first items
      pub firsts_parted : IsPartitionedBy (λ (chunk : Placed T). passes_first p chunk.items) chunks
      firsts_parted i j e up within passes =
          let far : i + (j - i) ≡ j = omega (arith, up) in
          let rise : (get_or chunks i e).from ≤ (get_or chunks j e).from = subst (λ (k : ℕ). (get_or chunks i e).from ≤ (get_or chunks k e).from) far (froms_up i (j - i) e (omega (arith, up, within))) in
          let d = an_item (get_or chunks j e).items (some_at chunks stand j e within) in
          starts i e d (omega (arith, up, within))
          ∙ parted (get_or chunks i e).from (get_or chunks j e).from d rise (starts_inside j e within) (sym (starts j e d within) ∙ passes)

      -- and so are the items of each chunk
      items_parted : (at : ℕ) (e : Placed T) → at < length chunks → IsPartitionedBy p (get_or chunks at e).items
      items_parted at e within i j d up inside passes =
          let chunk = get_or chunks at e in
          let ends = ends_at chunks stand at e within in
          ap p (sym (in_chunk at e i d within (omega (arith, up, inside))))
          ∙ parted (chunk.from + i) (chunk.from + j) d (omega (arith, up)) (omega (arith, inside, ends)) (ap p (in_chunk at e j d within inside) ∙ passes)

      -- behind a chunk whose first item fails, none passes
      fails_behind : (at j : ℕ) (e : Placed T) (d : T) → at < length chunks → passes_first p (get_or chunks at e).items ≡ false → (get_or chunks at e).from ≤ j → j < length (joined chunks) → p (get_or (joined chunks) j d) ≡ false
      fails_behind at j e d within fails low high =
          fails_too (p (get_or (joined chunks) j d)) (p (get_or (joined chunks) (get_or chunks at e).from d))
          (λ yes. parted (get_or chunks at e).from j d low high yes) (sym (starts at e d within) ∙ fails)

      -- where no chunk's first item passes, none does
      pub none_passes : PartsFirsts 0 → PartsAt 0
      none_passes point = (
        λ j d low high. absurd (omega (arith, high)),
        λ j d low high. elim (cases_lt 0 (length chunks)) [
          | inl some ↦
              let from = from_is chunks stand 0 no_chunk some in
              fails_behind 0 j no_chunk d some (point.1 0 no_chunk (omega arith) some) (omega (arith, from)) high
          | inr none ↦
              let empty : length (joined chunks) ≡ 0 = ap (λ (cs : List (Placed T)). length (joined cs)) (nil_from_length chunks (omega (arith, none))) in
              absurd (omega (arith, empty, high))
        ],
      )

      -- and else they part in the last chunk whose first item passes, or at its end
      point_in : (at k : ℕ) (e : Placed T) → at < length chunks → PartsFirsts (at + 1)
          → k ≤ length (get_or chunks at e).items → IsPartitionPoint (λ (item : T). p item ≡ true) (λ (item : T). p item ≡ false) (get_or chunks at e).items k
          → PartsAt ((get_or chunks at e).from + k)
      point_in at k e within point bound inner = (below, above)
        where
          chunk : Placed T
          chunk = get_or chunks at e

          by_place : (j : ℕ) (d : T) → chunk.from ≤ j → j < chunk.from + length chunk.items → p (get_or (joined chunks) j d) ≡ p (get_or chunk.items (j - chunk.from) d)
          by_place j d low high =
              let same : j ≡ chunk.from + (j - chunk.from) = omega (arith, low) in
              ap (λ (n : ℕ). p (get_or (joined chunks) n d)) same ∙ ap p (in_chunk at e (j - chunk.from) d within (omega (arith, low, high)))

          below : (j : ℕ) (d : T) → 0 ≤ j → j < chunk.from + k → p (get_or (joined chunks) j d) ≡ true
          below j d low high = elim (cases_lt j chunk.from) [
            | inl before ↦ parted j chunk.from d (omega (arith, before)) (starts_inside at e within) (sym (starts at e d within) ∙ point.0 at e (omega arith) (omega arith))
            | inr here ↦ by_place j d here (omega (arith, high, bound)) ∙ inner.0 (j - chunk.from) d (omega arith) (omega (arith, here, high))
          ]

          above : (j : ℕ) (d : T) → chunk.from + k ≤ j → j < length (joined chunks) → p (get_or (joined chunks) j d) ≡ false
          above j d low high = elim (cases_lt j (chunk.from + length chunk.items)) [
            | inl here ↦ by_place j d (omega (arith, low)) here ∙ inner.1 (j - chunk.from) d (omega (arith, low)) (omega (arith, low, here))
            | inr past ↦ elim (cases_lt (at + 1) (length chunks)) [
              | inl more ↦
                  let next = next_from chunks stand at e more in
                  fails_behind (at + 1) j e d more (point.1 (at + 1) e (omega arith) more) (omega (arith, next, past)) high
              | inr last ↦
                  let ends = ends_at chunks stand at e within in
                  let none : length (joined (drop (at + 1) chunks)) ≡ 0 = ap (λ (cs : List (Placed T)). length (joined cs)) (drop_all (at + 1) chunks last) in
                  absurd (omega (arith, ends, none, past, high))
            ]
          ]

      -- by the chunk and the items that were read
      pub point_read : (at k : ℕ) (e : Placed T) (items : List T) → at < length chunks → e ≡ get_or chunks at e → items ≡ e.items → PartsFirsts (at + 1)
          → k ≤ length items → (IsPartitionedBy p items → IsPartitionPoint (λ (item : T). p item ≡ true) (λ (item : T). p item ≡ false) items k)
          → PartsAt (e.from + k)
      point_read at k e items within read is point bound inner =
          let here : items ≡ (get_or chunks at e).items = is ∙ ap (λ (chunk : Placed T). chunk.items) read in
          let upto : k ≤ length (get_or chunks at e).items = subst (λ (l : List T). k ≤ length l) here bound in
          subst (λ (chunk : Placed T). PartsAt (chunk.from + k)) (sym read)
          (point_in at k e within point upto
          (subst (λ (l : List T). IsPartitionPoint (λ (item : T). p item ≡ true) (λ (item : T). p item ≡ false) l k) here (inner (subst (IsPartitionedBy p) (sym here) (items_parted at e within)))))
