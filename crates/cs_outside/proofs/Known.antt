-- Bytes that are taken or added in pieces.
use Rattle.std.proofs.Common.{◌≡◌, ℕ, ◌≤◌, ◌<◌, min, ◌∙◌, ◌+◌, ◌-◌, List, ◌++◌, length, take, drop, refl, arith, ap, sym, append_assoc}
use Rattle.std.proofs.lemmas.List.{take_rest, drop-drop, take-append-drop, take-take, length-take}
use Rattle.std.specs.Prelude.{None, Some}
use Rattle.std.specs.declared.option.Option.{Option}
use Rattle.cs_base.specs.Counts.{count_up}
use Rattle.cs_outside.specs.Outside.{Takes, Adds}

pub takes_append : (a b c : Option (List ℕ)) (xs ys : List ℕ) → Takes a b xs → Takes b c ys → Takes a c (xs ++ ys)
takes_append a b None xs ys e f = rw (e, f) refl
takes_append a b (Some zs) xs ys e f = rw (e, f) (ap Some (sym (append_assoc xs ys zs)))

pub adds_append : (a b c : Option (List ℕ)) (xs ys : List ℕ) → Adds a b xs → Adds b c ys → Adds a c (xs ++ ys)
adds_append None b c xs ys e f = rw (f, e) refl
adds_append (Some zs) b c xs ys e f = rw (f, e) (ap Some (append_assoc zs xs ys))

-- what is left falls into the part that was moved into a buffer and the part that is left then
pub left_moves : (left items slice buf : List ℕ) (at n : ℕ) → drop at items ≡ left → slice ≡ items → take n buf ≡ take n (take (length slice - at) (drop at slice)) → left ≡ take n buf ++ drop (at + n) items
left_moves left items slice buf at n l s m = rw (m, s, take_rest, ← l, ← drop-drop n at items) (sym (take-append-drop n (drop at items)))

-- one call more than so many is at most one more
pub counted_once : (before now turns : ℕ) → before ≤ turns → now ≡ count_up before → now ≤ turns + 1
counted_once before now turns small is = grind arith

-- the prefix of a piece is the prefix of what the piece was cut from
pub front_of_piece : (rest piece : List ℕ) (size n : ℕ) → piece ≡ take size rest → n ≤ length piece → take n piece ≡ take n rest
front_of_piece rest piece size n is short = ap (take n) is ∙ take-take n size rest (grind (arith, short, ap length is, length-take size rest))

-- a piece of something is something, and no more than that
pub length_of_piece : (rest piece : List ℕ) (size : ℕ) → piece ≡ take (size + 1) rest → (length piece ≤ length rest) × (0 < length rest → 0 < length piece)
length_of_piece rest piece size is =
    let len : length piece ≡ min (size + 1) (length rest) = ap length is ∙ length-take (size + 1) rest in
    (grind (arith, len), λ some. grind (arith, len, some))
