-- What a change of one chunk does to the list.
use Rattle.std.proofs.Common.{◌≡◌, ℕ, zero, suc, ◌+◌, ◌-◌, ◌<◌, ◌≤◌, List, [], ◌∷◌, ◌++◌, length, map, get_or, set, take, drop, insert, reverse, refl, sym, ◌∙◌, ap, subst, arith, All}
use Rattle.std.proofs.lemmas.List.{append-nil, append_assoc, drop-set-lt, drop_all, length-append, length-drop, length-set, length-take-le, reverse-append, set-append_left, set-append_right, set_at, set_split, take-append-drop, take_more, take_more_set, take_rest}
use Rattle.std.proofs.lemmas.List.Edits.{insert-append_left, insert-append_right, length-insert}
use borrow.Rule.Slice.PartMut.{put_mid}
use Rattle.shared_list.specs.Placed.{Placed}
use Rattle.shared_list.specs.Chunks.{joined, later, IsChunk, StandFrom}
use Rattle.shared_list.proofs.Places.{from_is, joined_both, parted, stand_back, stand_both, stand_front}

module _ {T : Type 0} where
  -- ---- chunks that stand one place later

  later_stand : (n : ℕ) (chunks : List (Placed T)) → StandFrom n chunks → StandFrom (n + 1) (map later chunks)
  later_stand n [] stand = tt
  later_stand n (x ∷ xs) stand =
      let comm : n + length x.items + 1 ≡ n + 1 + length x.items = omega arith in (
        record { from = ap (λ (k : ℕ). k + 1) stand.0.from; some = stand.0.some },
        subst (λ (k : ℕ). StandFrom k (map later xs)) comm (later_stand (n + length x.items) xs stand.1),
      )

  later_joined : (chunks : List (Placed T)) → joined (map later chunks) ≡ joined chunks
  later_joined [] = refl
  later_joined (x ∷ xs) = ap (λ (l : List T). x.items ++ l) (later_joined xs)

  -- no chunk stands after more items than there are
  from_most : (n : ℕ) (chunks : List (Placed T)) → StandFrom n chunks → All (λ (chunk : Placed T). chunk.from ≤ n + length (joined chunks)) chunks
  from_most n [] stand k d l = absurd (omega (arith, l))
  from_most n (x ∷ xs) stand zero d l = let from = stand.0.from in omega (arith, from)
  from_most n (x ∷ xs) stand (suc k) d l =
      let rest = from_most (n + length x.items) xs stand.1 k d (omega (arith, l)) in
      let long : length (joined (x ∷ xs)) ≡ length x.items + length (joined xs) = length-append x.items (joined xs) in
      omega (arith, rest, long)

  -- ---- a chunk that was read

  module _ (chunks : List (Placed T)) (stand : StandFrom 0 chunks) (at : ℕ) (old : Placed T) (within : at < length chunks) (read : old ≡ get_or chunks at old) where
    abbrev front : List (Placed T)
    front = take at chunks

    abbrev rest : List (Placed T)
    rest = drop (at + 1) chunks

    parts : front ++ old ∷ rest ≡ chunks
    parts = ap (λ (chunk : Placed T). front ++ chunk ∷ rest) read ∙ parted chunks at old within

    pieces : joined front ++ (old.items ++ joined rest) ≡ joined chunks
    pieces = sym (joined_both front (old ∷ rest)) ∙ ap joined parts

    from_here : old.from ≡ length (joined front)
    from_here = ap (λ (chunk : Placed T). chunk.from) read ∙ from_is chunks stand at old within

    -- the list ends where what stands behind it does
    pub ends_here : old.from + length old.items + length (joined rest) ≡ length (joined chunks)
    ends_here =
        let from = from_here in
        let whole = ap length pieces in
        let two = length-append (joined front) (old.items ++ joined rest) in
        let three = length-append old.items (joined rest) in
        omega (arith, from, whole, two, three)

    stand_parts : StandFrom 0 (front ++ old ∷ rest)
    stand_parts = subst (λ (cs : List (Placed T)). StandFrom 0 cs) (sym parts) stand

    stand_here : StandFrom (0 + length (joined front)) (old ∷ rest)
    stand_here = stand_back 0 front (old ∷ rest) stand_parts

    pub is_here : IsChunk old.from old
    is_here = record { from = refl; some = stand_here.0.some }

    rest_here : StandFrom (old.from + length old.items) rest
    rest_here = subst (λ (n : ℕ). StandFrom (n + length old.items) rest) (sym stand_here.0.from) stand_here.1

    -- other chunks in the place of it and those behind it
    others_stand : (others : List (Placed T)) → StandFrom old.from others → StandFrom 0 (front ++ others)
    others_stand others is = stand_both 0 front others (stand_front 0 front (old ∷ rest) stand_parts) (subst (λ (n : ℕ). StandFrom n others) stand_here.0.from is)

    put_here : (new : Placed T) → set chunks at new ≡ front ++ new ∷ rest
    put_here new =
        let next : suc at ≡ at + 1 = omega arith in
        set_split chunks at new within ∙ ap (λ (n : ℕ). front ++ new ∷ drop n chunks) next

    -- ---- an item in the place of another

    module _ (i : ℕ) (item : T) (low : old.from ≤ i) (inside : i - old.from < length old.items) where
      abbrev replaced : Placed T
      replaced = record old { items = set old.items (i - old.from) item }

      replaced_long : length replaced.items ≡ length old.items
      replaced_long = length-set old.items (i - old.from) item

      pub replaced_stands : StandFrom 0 (set chunks at replaced)
      replaced_stands =
          let long = replaced_long in
          let some = is_here.some in
          subst (λ (cs : List (Placed T)). StandFrom 0 cs) (sym (put_here replaced))
          (others_stand (replaced ∷ rest) (
            record { from = refl; some = omega (arith, long, some) },
            subst (λ (n : ℕ). StandFrom (old.from + n) rest) (sym long) rest_here,
          ))

      pub replaced_joins : joined (set chunks at replaced) ≡ set (joined chunks) i item
      replaced_joins =
          ap joined (put_here replaced) ∙ joined_both front (replaced ∷ rest)
          ∙ ap (λ (l : List T). joined front ++ l) (sym (set-append_left old.items (joined rest) (i - old.from) item inside))
          ∙ sym (set-append_right (joined front) (old.items ++ joined rest) old.from i item (sym from_here) low)
          ∙ ap (λ (l : List T). set l i item) pieces

    -- ---- an item more

    -- those behind may stand one place later
    behind_is : (new : Placed T) → take (length (set chunks at new) - (at + 1)) (drop (at + 1) (set chunks at new)) ≡ rest
    behind_is new = take_rest (set chunks at new) (at + 1) ∙ drop-set-lt (at + 1) chunks at new (omega arith)

    pub may_shift : (new : Placed T) (top : ℕ) → length (joined chunks) + 1 < top → All (λ (chunk : Placed T). chunk.from + 1 < top) (take (length (set chunks at new) - (at + 1)) (drop (at + 1) (set chunks at new)))
    may_shift new top fits =
        subst (All (λ (chunk : Placed T). chunk.from + 1 < top)) (sym (behind_is new))
        (λ k d l. let most = from_most (old.from + length old.items) rest rest_here k d l in let ends = ends_here in omega (arith, fits, most, ends))

    -- the chunks behind, shifted and put back
    put_back : (new : Placed T) (ys : List (Placed T)) → ys ≡ map later (take (length (set chunks at new) - (at + 1)) (drop (at + 1) (set chunks at new))) → put_mid (at + 1) (length (set chunks at new) - (at + 1)) (set chunks at new) ys ≡ front ++ new ∷ map later rest
    put_back new ys is =
        let last = drop (length (set chunks at new) - (at + 1)) (drop (at + 1) (set chunks at new)) in
        let none : last ≡ [] = drop_all _ (drop (at + 1) (set chunks at new)) (let n = length-drop (at + 1) (set chunks at new) in omega (arith, n)) in
        ap (λ (l : List (Placed T)). l ++ (ys ++ last)) (take_more_set chunks at new within)
        ∙ append_assoc front (new ∷ []) (ys ++ last)
        ∙ ap (λ (l : List (Placed T)). front ++ new ∷ l) (ap (λ (l : List (Placed T)). ys ++ l) none ∙ append-nil ys ∙ is ∙ ap (map later) (behind_is new))

    module _ (i : ℕ) (item : T) (low : old.from ≤ i) (upto : i - old.from ≤ length old.items) where
      abbrev longer : Placed T
      longer = record old { items = insert old.items (i - old.from) item }

      inserted_stand : StandFrom 0 (front ++ longer ∷ map later rest)
      inserted_stand =
          let long = length-insert old.items (i - old.from) item upto in
          let same : old.from + length old.items + 1 ≡ old.from + length longer.items = omega (arith, long) in
          others_stand (longer ∷ map later rest) (
            record { from = refl; some = omega (arith, long) },
            subst (λ (n : ℕ). StandFrom n (map later rest)) same (later_stand (old.from + length old.items) rest rest_here),
          )

      inserted_join : joined (front ++ longer ∷ map later rest) ≡ insert (joined chunks) i item
      inserted_join =
          joined_both front (longer ∷ map later rest)
          ∙ ap (λ (l : List T). joined front ++ (longer.items ++ l)) (later_joined rest)
          ∙ ap (λ (l : List T). joined front ++ l) (sym (insert-append_left old.items (joined rest) (i - old.from) item upto))
          ∙ sym (insert-append_right (joined front) (old.items ++ joined rest) old.from i item (sym from_here) low)
          ∙ ap (λ (l : List T). insert l i item) pieces

      -- by the chunk that was written, and those behind it that were shifted
      module _ (new : Placed T) (is : new ≡ longer) (ys : List (Placed T)) (shifted : ys ≡ map later (take (length (set chunks at new) - (at + 1)) (drop (at + 1) (set chunks at new)))) where
        now_is : put_mid (at + 1) (length (set chunks at new) - (at + 1)) (set chunks at new) ys ≡ front ++ longer ∷ map later rest
        now_is = put_back new ys shifted ∙ ap (λ (chunk : Placed T). front ++ chunk ∷ map later rest) is

        pub inserted_stands : StandFrom 0 (put_mid (at + 1) (length (set chunks at new) - (at + 1)) (set chunks at new) ys)
        inserted_stands = subst (λ (cs : List (Placed T)). StandFrom 0 cs) (sym now_is) inserted_stand

        pub inserted_joins : joined (put_mid (at + 1) (length (set chunks at new) - (at + 1)) (set chunks at new) ys) ≡ insert (joined chunks) i item
        inserted_joins = ap joined now_is ∙ inserted_join

    -- ---- a chunk in two halves

    module _ (a b : Placed T) (is_a : IsChunk old.from a) (is_b : IsChunk (old.from + length a.items) b) (same : a.items ++ b.items ≡ old.items) where
      both_in : set (insert chunks (at + 1) b) at a ≡ front ++ a ∷ b ∷ rest
      both_in =
          ap (λ (l : List (Placed T)). set (l ++ b ∷ rest) at a) (take_more chunks at old within)
          ∙ ap (λ (l : List (Placed T)). set l at a) (append_assoc front (get_or chunks at old ∷ []) (b ∷ rest))
          ∙ set_at front (get_or chunks at old) (b ∷ rest) a at (length-take-le at chunks (omega (arith, within)))

      pub halves_stand : StandFrom 0 (set (insert chunks (at + 1) b) at a)
      halves_stand =
          let two = length-append a.items b.items in
          let whole = ap length same in
          let long : old.from + length old.items ≡ old.from + length a.items + length b.items = omega (arith, two, whole) in
          subst (λ (cs : List (Placed T)). StandFrom 0 cs) (sym both_in)
          (others_stand (a ∷ b ∷ rest) (is_a, (is_b, subst (λ (n : ℕ). StandFrom n rest) long rest_here)))

      pub halves_join : joined (set (insert chunks (at + 1) b) at a) ≡ joined chunks
      halves_join =
          ap joined both_in ∙ joined_both front (a ∷ b ∷ rest)
          ∙ ap (λ (l : List T). joined front ++ l) (sym (append_assoc a.items b.items (joined rest)) ∙ ap (λ (l : List T). l ++ joined rest) same)
          ∙ pieces

  -- ---- a chunk more before the others

  module _ (left front back : List T) (n : ℕ) (is_front : front ≡ take n left) (is_back : back ≡ drop n left) where
    both : front ++ back ≡ left
    both = ap (λ (l : List T). l ++ back) is_front ∙ ap (λ (l : List T). take n left ++ l) is_back ∙ take-append-drop n left

    module _ (chunks new : List (Placed T)) (chunk : Placed T) (items : chunk.items ≡ back) (pushed : new ≡ chunks ++ chunk ∷ []) where
      turned : reverse new ≡ chunk ∷ reverse chunks
      turned = ap reverse pushed ∙ reverse-append chunks (chunk ∷ [])

      pub more_stand : length front ≡ n → IsChunk n chunk → StandFrom (length left) (reverse chunks) → StandFrom (length front) (reverse new)
      more_stand from is stand =
          let long : length left ≡ length front + length chunk.items = sym (ap length both) ∙ length-append front back ∙ ap (λ (l : List T). length front + length l) (sym items) in
          subst (StandFrom (length front)) (sym turned) (subst (λ (k : ℕ). IsChunk k chunk) (sym from) is, subst (λ (k : ℕ). StandFrom k (reverse chunks)) long stand)

      pub more_join : (all : List T) → left ++ joined (reverse chunks) ≡ all → front ++ joined (reverse new) ≡ all
      more_join all before =
          ap (λ (cs : List (Placed T)). front ++ joined cs) turned
          ∙ ap (λ (l : List T). front ++ (l ++ joined (reverse chunks))) items
          ∙ sym (append_assoc front back (joined (reverse chunks)))
          ∙ ap (λ (l : List T). l ++ joined (reverse chunks)) both ∙ before
