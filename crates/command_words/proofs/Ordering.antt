-- The order that words are: there is one at most, and the walk along the words finds it.
use Rattle.std.proofs.Common.{◌≡◌, ℕ, List, [], ◌∷◌, map, Bool, true, false, cond, IfSome, bytes_eq, Some, None, Option, refl, ap, sym, subst, ◌∙◌}
use Rattle.std.specs.List.{find}
use Rattle.std.proofs.lemmas.Option.{cond_some}
use Rattle.std.proofs.lemmas.Slice.Eq.{bytes_eq-Decides}
use Rattle.command_words.specs.declared.mode.Mode.{Mode}
use Rattle.command_words.specs.declared.mode.Mode.TheVariants as mode
use Rattle.command_words.specs.declared.order.Order.{Order}
use Rattle.command_words.specs.Options.{modes, name_of}
use Rattle.command_words.specs.Orders.{Words, words_of, order_with, IsOrder}
use Rattle.command_words.specs.Walk.{mode_named, are_pairs, value_among, order_in}
use Rattle.command_words.proofs.WordPairs.{pairs_in, words_are_pairs, values_of_good, once_of_good, good_of_pairs, order_is}

-- ---- modes

found_here : {X : Type 0} (p : X → Bool) (b : Bool) (y x : X) (rest : Option X) → p y ≡ b → (rest ≡ Some x → p x ≡ true) → cond b (Some y) rest ≡ Some x → p x ≡ true
found_here p true y x rest is later e = let same : y ≡ x = cc in subst (λ z. p z ≡ true) same is
found_here p false y x rest is later e = later e

find_passes : {X : Type 0} (p : X → Bool) (xs : List X) (x : X) → find p xs ≡ Some x → p x ≡ true
find_passes p [] x e = cc
find_passes p (y ∷ xs) x e = found_here p (p y) y x (find p xs) refl (find_passes p xs x) e

mode_word : (word : List ℕ) (mode : Mode) → mode_named word ≡ Some mode → word ≡ name_of mode
mode_word word mode e = sym ((bytes_eq-Decides (name_of mode) word).0 (find_passes (λ mode. bytes_eq (name_of mode) word) modes mode e))

mode_of_name : (mode : Mode) → mode_named (name_of mode) ≡ Some mode
mode_of_name mode.Replay = refl
mode_of_name mode.Run = refl
mode_of_name mode.Generate = refl
mode_of_name mode.Load = refl

-- ---- orders

-- what the walk gives is an order of the words
pub found : (mode : Mode) (word : List ℕ) (words : Words) (order : Order) → mode_named word ≡ Some mode → order_in mode words ≡ Some order → IsOrder (word ∷ words) order
found mode word words order named read =
    let good = cond_some (are_pairs mode words) (order_with mode (λ row. value_among row words)) order read in
    let said = words_are_pairs mode words good.0 in
    let goods : are_pairs mode (words_of (pairs_in words)) ≡ true = subst (λ z. are_pairs mode z ≡ true) said good.0 in
    let values = values_of_good mode (pairs_in words) goods in
    record {
      mode = mode;
      pairs = pairs_in words;
      said = ap (λ z. z ∷ words) (mode_word word mode named) ∙ ap (λ z. name_of mode ∷ z) said;
      values = values;
      once = once_of_good mode (pairs_in words) goods;
      is = sym good.1 ∙ (ap (λ z. order_with mode (λ row. value_among row z)) said ∙ order_is mode (pairs_in words) values);
    }

mode_said : (word : List ℕ) (words : Words) (order : Order) → (is : IsOrder (word ∷ words) order) → mode_named word ≡ Some is.mode
mode_said word words order is = let said : word ∷ words ≡ name_of is.mode ∷ words_of is.pairs = is.said in let same : word ≡ name_of is.mode = cc in ap mode_named same ∙ mode_of_name is.mode

-- the walk gives the order that the words are
pub only : (mode : Mode) (word : List ℕ) (words : Words) (order : Order) → mode_named word ≡ Some mode → IsOrder (word ∷ words) order → order_in mode words ≡ Some order
only mode word words order named is =
    let said : word ∷ words ≡ name_of is.mode ∷ words_of is.pairs = is.said in
    let rest : words ≡ words_of is.pairs = cc in
    let some : Some mode ≡ Some is.mode = sym named ∙ mode_said word words order is in
    let same : mode ≡ is.mode = cc in
    let good = good_of_pairs is.mode is.pairs is.values is.once in
    ap (λ z. order_in z words) same
    ∙ (ap (order_in is.mode) rest
    ∙ (ap (λ b. cond b (Some (order_with is.mode (λ row. value_among row (words_of is.pairs)))) None) good
    ∙ ap Some (order_is is.mode is.pairs is.values ∙ sym is.is)))

pub no_words : (order : Order) → IsOrder [] order → ⊥
no_words order is = let said : [] ≡ name_of is.mode ∷ words_of is.pairs = is.said in cc

pub no_mode : (word : List ℕ) (words : Words) (order : Order) → mode_named word ≡ None → IsOrder (word ∷ words) order → ⊥
no_mode word words order none is = let some = mode_said word words order is in cc

-- the same of the words as the code has them: a first one, which is a mode's, and the rest
pub found_in : {X : Type 0} (f : X → List ℕ) (mode : Mode) (word : X) (rest words : List X) (bytes : List ℕ) (read : Option Order) → words ≡ word ∷ rest → bytes ≡ f word → Some mode ≡ mode_named bytes → read ≡ order_in mode (map f rest) → IfSome read (λ order. IsOrder (map f words) order)
found_in f mode word rest words bytes None are is named reads = tt
found_in f mode word rest words bytes (Some order) are is named reads =
    subst (λ z. IsOrder (map f z) order) (sym are) (found mode (f word) (map f rest) order (sym (named ∙ ap mode_named is)) (sym reads))

pub only_in : {X : Type 0} (f : X → List ℕ) (mode : Mode) (word : X) (rest words : List X) (bytes : List ℕ) (read : Option Order) → words ≡ word ∷ rest → bytes ≡ f word → Some mode ≡ mode_named bytes → read ≡ order_in mode (map f rest) → (order : Order) → IsOrder (map f words) order → read ≡ Some order
only_in f mode word rest words bytes read are is named reads order of =
    reads ∙ only mode (f word) (map f rest) order (sym (named ∙ ap mode_named is)) (subst (λ z. IsOrder (map f z) order) are of)

-- words are one order at most
pub one_order : (words : Words) (a b : Order) → IsOrder words a → IsOrder words b → a ≡ b
one_order [] a b is other = absurd (no_words a is)
one_order (word ∷ words) a b is other =
    let named = mode_said word words a is in
    let first = only is.mode word words a named is in
    let second = only is.mode word words b named other in
    cc
