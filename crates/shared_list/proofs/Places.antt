-- Chunks one after another, and the chunk of a place.
use Rattle.std.proofs.Common.{◌≡◌, ℕ, zero, suc, ◌+◌, ◌-◌, ◌<◌, ◌≤◌, List, [], ◌∷◌, ◌++◌, length, get_or, take, drop, sym, ◌∙◌, ap, subst, arith, false, HoldsAt, inl, inr}
use Rattle.std.specs.List.Sorted.{IsNonDecreasingBy, IsPartitionPoint, IsSortedBy}
use Rattle.std.specs.declared.cmp.Ordering.TheVariants.{Less, Equal, Greater}
use Rattle.std.specs.Ordering.{is_lt, nat_cmp, ordering_index}
use Rattle.std.proofs.lemmas.Bool.{cases_lt}
use Rattle.std.proofs.lemmas.Bool.Decides.{nat_tests}
use Rattle.std.proofs.lemmas.Cmp.{nat_cmp_total, ranked}
use Rattle.std.proofs.lemmas.List.{append-nil, drop_all, drop_more, length-append, take-append-drop}
use Rattle.std.proofs.lemmas.List.Concat.{flat_map-append, get_or-flat_map}
use Rattle.std.proofs.lemmas.List.Sorted.{searchable_from_sorted}
use Rattle.shared_list.specs.Placed.{Placed}
use Rattle.shared_list.specs.Chunks.{joined, AreChunks, IsChunk, IsChunkAt, IsGapIn, StandFrom}

module _ {T : Type 0} where
  -- ---- chunks in two

  far : (n : ℕ) (x : Placed T) (xs : List (Placed T)) → n + length (joined (x ∷ xs)) ≡ n + length x.items + length (joined xs)
  far n x xs = let long : length (joined (x ∷ xs)) ≡ length x.items + length (joined xs) = length-append x.items (joined xs) in omega (arith, long)

  pub stand_both : (n : ℕ) (xs ys : List (Placed T)) → StandFrom n xs → StandFrom (n + length (joined xs)) ys → StandFrom n (xs ++ ys)
  stand_both n [] ys front back = let same : n + length (joined {T = T} []) ≡ n = omega arith in subst (λ (k : ℕ). StandFrom k ys) same back
  stand_both n (x ∷ xs) ys front back = (front.0, stand_both (n + length x.items) xs ys front.1 (subst (λ (k : ℕ). StandFrom k ys) (far n x xs) back))

  pub stand_front : (n : ℕ) (xs ys : List (Placed T)) → StandFrom n (xs ++ ys) → StandFrom n xs
  stand_front n [] ys stand = tt
  stand_front n (x ∷ xs) ys stand = (stand.0, stand_front (n + length x.items) xs ys stand.1)

  pub stand_back : (n : ℕ) (xs ys : List (Placed T)) → StandFrom n (xs ++ ys) → StandFrom (n + length (joined xs)) ys
  stand_back n [] ys stand = let same : n ≡ n + length (joined {T = T} []) = omega arith in subst (λ (k : ℕ). StandFrom k ys) same stand
  stand_back n (x ∷ xs) ys stand = subst (λ (k : ℕ). StandFrom k ys) (sym (far n x xs)) (stand_back (n + length x.items) xs ys stand.1)

  pub joined_both : (xs ys : List (Placed T)) → joined (xs ++ ys) ≡ joined xs ++ joined ys
  joined_both xs ys = flat_map-append (λ (chunk : Placed T). chunk.items) xs ys

  module _ (chunks : List (Placed T)) (i : ℕ) (d : Placed T) (within : i < length chunks) where
    pub parted : take i chunks ++ get_or chunks i d ∷ drop (i + 1) chunks ≡ chunks
    parted = ap (λ (l : List (Placed T)). take i chunks ++ l) (sym (drop_more chunks i d within)) ∙ take-append-drop i chunks

    pub joined_parted : joined (take i chunks) ++ ((get_or chunks i d).items ++ joined (drop (i + 1) chunks)) ≡ joined chunks
    joined_parted = sym (joined_both (take i chunks) (get_or chunks i d ∷ drop (i + 1) chunks)) ∙ ap joined parted

    chunk_is : StandFrom 0 chunks → IsChunk (0 + length (joined (take i chunks))) (get_or chunks i d)
    chunk_is stand = (stand_back 0 (take i chunks) (get_or chunks i d ∷ drop (i + 1) chunks) (subst (λ (cs : List (Placed T)). StandFrom 0 cs) (sym parted) stand)).0

  -- ---- the chunk of a place

  module _ (chunks : List (Placed T)) (stand : StandFrom 0 chunks) where
    pub from_is : (k : ℕ) (d : Placed T) → k < length chunks → (get_or chunks k d).from ≡ length (joined (take k chunks))
    from_is k d l = let is = (chunk_is chunks k d l stand).from in is ∙ omega arith

    -- a chunk ends where the next one begins, and the last one where the list ends
    pub ends_at : (k : ℕ) (d : Placed T) → k < length chunks → (get_or chunks k d).from + length (get_or chunks k d).items + length (joined (drop (k + 1) chunks)) ≡ length (joined chunks)
    ends_at k d l =
        let from = from_is k d l in
        let whole = ap length (joined_parted chunks k d l) in
        let two = length-append (joined (take k chunks)) ((get_or chunks k d).items ++ joined (drop (k + 1) chunks)) in
        let three = length-append (get_or chunks k d).items (joined (drop (k + 1) chunks)) in
        omega (arith, from, whole, two, three)

    pub next_from : (k : ℕ) (d : Placed T) → k + 1 < length chunks → (get_or chunks (k + 1) d).from ≡ (get_or chunks k d).from + length (get_or chunks k d).items
    next_from k d l =
        let here = ends_at k d (omega (arith, l)) in
        let next = ends_at (k + 1) d l in
        let more : length (joined (drop (k + 1) chunks)) ≡ length (get_or chunks (k + 1) d).items + length (joined (drop (k + 1 + 1) chunks)) =
        ap (λ (cs : List (Placed T)). length (joined cs)) (drop_more chunks (k + 1) d l) ∙ length-append (get_or chunks (k + 1) d).items (joined (drop (k + 1 + 1) chunks)) in
        omega (arith, here, next, more)

    pub some_at : (k : ℕ) (d : Placed T) → k < length chunks → 0 < length (get_or chunks k d).items
    some_at k d l = (chunk_is chunks k d l stand).some

    pub froms_rise : (i : ℕ) → IsNonDecreasingBy (λ (chunk : Placed T). ordering_index (nat_cmp chunk.from i)) chunks
    froms_rise i = searchable_from_sorted nat_cmp_total (λ (chunk : Placed T). chunk.from) chunks i sorted
      where
        ahead : (k : ℕ) (d : Placed T) → k + 1 < length chunks → is_lt (nat_cmp (get_or chunks (k + 1) d).from (get_or chunks k d).from) ≡ false
        ahead k d l = let next = next_from k d l in grind (arith, nat_tests, next)

        sorted : IsSortedBy (λ (a b : Placed T). is_lt (nat_cmp a.from b.from)) chunks
        sorted = λ k d _ l. ahead k d l

    pub place_found : (i at : ℕ) → at < length chunks → HoldsAt (λ (chunk : Placed T). nat_cmp chunk.from i ≡ Equal) chunks at → IsChunkAt chunks i at
    place_found i at within equal = record {
      within = within;
      from = λ d. let same : (get_or chunks at d).from ≡ i = ranked (get_or chunks at d).from i Equal (sym (equal d)) in omega (arith, same);
      below = λ d. let same : (get_or chunks at d).from ≡ i = ranked (get_or chunks at d).from i Equal (sym (equal d)) in let some = some_at at d within in omega (arith, same, some);
    }

    -- the item at a place
    pub got : (i at : ℕ) (d : T) (e : Placed T) → IsChunkAt chunks i at → get_or (joined chunks) i d ≡ get_or (get_or chunks at e).items (i - (get_or chunks at e).from) d
    got i at d e is =
        let chunk = get_or chunks at e in
        let from = from_is at e is.within in
        let low = is.from e in
        let high = is.below e in
        let same : i ≡ length (joined (take at chunks)) + (i - chunk.from) = omega (arith, from, low) in
        ap (λ (k : ℕ). get_or (joined chunks) k d) same
        ∙ get_or-flat_map (λ (chunk : Placed T). chunk.items) chunks at (i - chunk.from) e d is.within (omega (arith, low, high))

    -- an item read in its chunk
    pub got_read : (i at : ℕ) (e : Placed T) (x : T) → IsChunkAt chunks i at → e ≡ get_or chunks at e → x ≡ get_or e.items (i - e.from) x → x ≡ get_or (joined chunks) i x
    got_read i at e x is e_is read = read ∙ ap (λ (chunk : Placed T). get_or chunk.items (i - chunk.from) x) e_is ∙ sym (got i at x e is)

  pub place_between : (chunks : List (Placed T)) → StandFrom 0 chunks → (i at : ℕ) → at ≤ length chunks → i < length (joined chunks) → IsPartitionPoint (λ (chunk : Placed T). nat_cmp chunk.from i ≡ Less) (λ (chunk : Placed T). nat_cmp chunk.from i ≡ Greater) chunks at → (0 < at) × IsChunkAt chunks i (at - 1)
  place_between [] stand i at within there parted = absurd (omega (arith, there))
  place_between (c ∷ rest) stand i zero within there parted =
      let late : i < c.from = ranked c.from i Greater (sym (parted.1 0 c (omega arith) (omega arith))) in
      let from = stand.0.from in
      absurd (omega (arith, late, from))
  place_between (c ∷ rest) stand i (suc at) within there parted =
      let chunks = c ∷ rest in
      let one : at ≡ suc at - 1 = omega arith in
      let next : suc at ≡ at + 1 = omega arith in
      let inside : at < length chunks = omega (arith, within) in (
        omega arith,
        subst (λ (k : ℕ). IsChunkAt chunks i k) one (record {
          within = inside;
          from = λ d. let low : (get_or chunks at d).from < i = ranked (get_or chunks at d).from i Less (sym (parted.0 at d (omega arith) (omega arith))) in omega (arith, low);
          below = λ d. elim (cases_lt (at + 1) (length chunks)) [
            | inl more ↦
                let follows = next_from chunks stand at d more in
                let late : nat_cmp (get_or chunks (at + 1) d).from i ≡ Greater = subst (λ (k : ℕ). nat_cmp (get_or chunks k d).from i ≡ Greater) next (parted.1 (suc at) d (omega arith) (omega (arith, more))) in
                let high : i < (get_or chunks (at + 1) d).from = ranked (get_or chunks (at + 1) d).from i Greater (sym late) in
                omega (arith, follows, high)
            | inr last ↦
                let ends = ends_at chunks stand at d inside in
                let none : length (joined (drop (at + 1) chunks)) ≡ 0 = ap (λ (cs : List (Placed T)). length (joined cs)) (drop_all (at + 1) chunks last) in
                omega (arith, ends, none, there)
          ];
        }),
      )

  -- the place of an item is within its chunk
  pub within_chunk : (chunks : List (Placed T)) (i at : ℕ) (e : Placed T) → IsChunkAt chunks i at → e ≡ get_or chunks at e → (e.from ≤ i) × (i - e.from < length e.items)
  within_chunk chunks i at e is e_is =
      let from : e.from ≤ i = subst (λ (c : Placed T). c.from ≤ i) (sym e_is) (is.from e) in
      let high : i < e.from + length e.items = subst (λ (c : Placed T). i < c.from + length c.items) (sym e_is) (is.below e) in
      (from, omega (arith, from, high))

  -- a list of chunks has items
  pub some_items : (chunks : List (Placed T)) → StandFrom 0 chunks → 0 < length chunks → 0 < length (joined chunks)
  some_items [] stand there = absurd (omega (arith, there))
  some_items (x ∷ xs) stand there =
      let some = stand.0.some in
      let two = length-append x.items (joined xs) in
      let long : length (joined (x ∷ xs)) ≡ length x.items + length (joined xs) = two in
      omega (arith, some, long)

  -- what goes behind an item may go into its chunk
  pub gap_in : (chunks : List (Placed T)) (i at : ℕ) → IsChunkAt chunks (i - 1) at → IsGapIn chunks i at
  gap_in chunks i at is = record {
    within = is.within;
    from = λ d. let from = is.from d in omega (arith, from);
    upto = λ d. let below = is.below d in omega (arith, below);
  }

  -- a chunk more at the end
  module _ (chunks : List (Placed T)) (count : ℕ) (are : AreChunks chunks count) (chunk : Placed T) (from : chunk.from ≡ count) (some : 0 < length chunk.items) where
    pub joined_more : joined (chunks ++ chunk ∷ []) ≡ joined chunks ++ chunk.items
    joined_more = joined_both chunks (chunk ∷ []) ∙ ap (λ (l : List T). joined chunks ++ l) (append-nil chunk.items)

    pub chunks_more : AreChunks (chunks ++ chunk ∷ []) (count + length chunk.items)
    chunks_more = record {
      stand = stand_both 0 chunks (chunk ∷ []) are.stand (record { from = from ∙ are.len ∙ omega arith; some = some }, tt);
      len = let long = ap length joined_more in let two = length-append (joined chunks) chunk.items in let len = are.len in omega (arith, long, two, len);
    }
