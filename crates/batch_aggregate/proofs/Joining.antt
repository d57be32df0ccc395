-- Tallies joined place by place.
use Rattle.std.proofs.Common.{◌≡◌, ℕ, zero, suc, ◌+◌, ◌<◌, ◌≤◌, List, [], ◌∷◌, length, get_or, map, set, take, refl, sym, ap, ◌∙◌, arith}
use Rattle.std.proofs.lemmas.List.{get_or-map, length-map, take_all}
use Rattle.cs_model.specs.declared.plan.Item.{Item}
use Rattle.batch_aggregate.specs.declared.tally.Tally.{Tally}
use Rattle.batch_aggregate.specs.Tallies.{joined, all_joined}

pub none_joined : (ts : List Tally) → all_joined ts [] ≡ ts
none_joined [] = refl
none_joined (t ∷ ts) = refl

pub length-joined : (ts us : List Tally) → length (all_joined ts us) ≡ length ts
length-joined [] us = refl
length-joined (t ∷ ts) [] = refl
length-joined (t ∷ ts) (u ∷ us) = ap suc (length-joined ts us)

one_more : (i : ℕ) (ts us : List Tally) (d e : Tally) → i < length ts → i < length us
    → set (all_joined ts (take i us)) i (joined (get_or (all_joined ts (take i us)) i d) (get_or us i e)) ≡ all_joined ts (take (suc i) us)
one_more zero [] us d e l m = absurd (omega arith)
one_more zero (t ∷ ts) [] d e l m = absurd (omega arith)
one_more zero (t ∷ ts) (u ∷ us) d e l m = ap (λ l. joined t u ∷ l) (sym (none_joined ts))
one_more (suc i) [] us d e l m = absurd (omega arith)
one_more (suc i) (t ∷ ts) [] d e l m = absurd (omega arith)
one_more (suc i) (t ∷ ts) (u ∷ us) d e l m = ap (λ l. joined t u ∷ l) (one_more i ts us d e (omega arith) (omega arith))

-- after a step of a loop
pub joined-more : (i : ℕ) (ts us items : List Tally) (x y z : Tally) → i < length items → i < length us → items ≡ all_joined ts (take i us) → get_or us i y ≡ y
    → z ≡ joined (get_or items i x) y → set items i z ≡ all_joined ts (take (i + 1) us)
joined-more i ts us items x y z l m e there is =
    let next : suc i ≡ i + 1 = omega arith in
    let within : i < length ts = omega (arith, ap length e, length-joined ts (take i us)) in
    ap (set items i) (is ∙ ap (joined (get_or items i x)) (sym there))
    ∙ ap (λ l. set l i (joined (get_or l i x) (get_or us i y))) e ∙ one_more i ts us x y within m ∙ ap (λ n. all_joined ts (take n us)) next

-- after a step of a loop that adds a row
pub added-more : (tally : Item → Tally) (items : List Item) (i : ℕ) (ts here : List Tally) (x z : Tally) (d : Item) → i < length here → i < length items → here ≡ all_joined ts (take i (map tally items))
    → z ≡ joined (get_or here i x) (tally (get_or items i d)) → set here i z ≡ all_joined ts (take (i + 1) (map tally items))
added-more tally items i ts here x z d l m e is =
    let item = tally (get_or items i d) in
    let there : i < length (map tally items) = omega (arith, length-map items tally) in
    joined-more i ts (map tally items) here x item z l there e (get_or-map tally items i d item m) is

past : (i : ℕ) (ts us : List Tally) → length ts ≤ i → all_joined ts (take i us) ≡ all_joined ts (take (suc i) us)
past i [] us l = refl
past zero (t ∷ ts) us l = absurd (omega arith)
past (suc i) (t ∷ ts) [] l = refl
past (suc i) (t ∷ ts) (u ∷ us) l = ap (λ l. joined t u ∷ l) (past i ts us (omega arith))

pub joined-past : (i : ℕ) (ts us items : List Tally) → length items ≤ i → items ≡ all_joined ts (take i us) → items ≡ all_joined ts (take (i + 1) us)
joined-past i ts us items l e =
    let next : suc i ≡ i + 1 = omega arith in
    e ∙ past i ts us (omega (arith, ap length e, length-joined ts (take i us))) ∙ ap (λ n. all_joined ts (take n us)) next

pub joined-all : (n : ℕ) (ts us : List Tally) → length us ≤ n → all_joined ts (take n us) ≡ all_joined ts us
joined-all n ts us l = ap (all_joined ts) (take_all n us l)
