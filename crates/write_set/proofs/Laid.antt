-- A write laid over a list in two parts.
use Rattle.std.proofs.Common.{◌≡◌, zero, suc, List, [], ◌∷◌, ◌++◌, get_or, refl, sym, ◌∙◌, ap, subst, arith, true, false, cond, All}
use Rattle.std.specs.declared.cmp.Ordering.{Ordering}
use Rattle.std.specs.declared.cmp.Ordering.TheVariants.{Less, Equal, Greater}
use Rattle.std.specs.Ordering.{is_eq, is_lt, match_ordering, ordering_reverse}
use Rattle.std.proofs.lemmas.List.{append-nil, append_assoc}
use Rattle.std.proofs.lemmas.List.Elements.{All-push}
use Rattle.std.proofs.lemmas.List.Kept.{AllPairs-cons}
use Rattle.cs_types.specs.declared.Key.{Key}
use Rattle.write_set.specs.declared.write.Write.{Write}
use Rattle.cs_types.specs.Keys.{key_cmp}
use Rattle.write_set.specs.Writes.{Ascend, put, staged, is_front_below, without_front}
use Rattle.cs_types.proofs.KeyLemmas.{key_total}
use Rattle.write_set.proofs.Puts.{greater, Rises, head, tail, all_cons, all_none, all_tail}

pub all_prefix : (P : Write → Type 0) (xs ys : List Write) → All P (xs ++ ys) → All P xs
all_prefix P [] ys ps k d l = absurd (omega (arith, l))
all_prefix P (x ∷ xs) ys ps zero d l = ps 0 d (omega arith)
all_prefix P (x ∷ xs) ys ps (suc k) d l = all_prefix P xs ys (all_tail P x (xs ++ ys) ps) k d (omega arith)

pub all_suffix : (P : Write → Type 0) (xs ys : List Write) → All P (xs ++ ys) → All P ys
all_suffix P [] ys ps = ps
all_suffix P (x ∷ xs) ys ps = all_suffix P xs ys (all_tail P x (xs ++ ys) ps)

-- the first part of a list in order is in order
pub Ascend-prefix : (xs ys : List Write) → Ascend (xs ++ ys) → Ascend xs
Ascend-prefix [] ys up = λ i j d l there. absurd (omega (arith, there))
Ascend-prefix (x ∷ xs) ys up = AllPairs-cons Rises x xs (all_prefix (Rises x) xs ys (head x (xs ++ ys) up)) (Ascend-prefix xs ys (tail x (xs ++ ys) up))

-- and so is the rest
pub Ascend-suffix : (xs ys : List Write) → Ascend (xs ++ ys) → Ascend ys
Ascend-suffix [] ys up = up
Ascend-suffix (x ∷ xs) ys up = Ascend-suffix xs ys (tail x (xs ++ ys) up)

back : (a b : Key) (o : Ordering) → key_cmp a b ≡ o → key_cmp b a ≡ ordering_reverse o
back a b o e = key_total.antisymm b a ∙ ap ordering_reverse e

greater_kept : (v : Write) (vs : List Write) (key : Key) → key_cmp key v.key ≡ Less → without_front (v ∷ vs) key ≡ v ∷ vs
greater_kept v vs key e = ap (λ o. cond (is_eq o) vs (v ∷ vs)) (back key v.key Less e)

-- the first write of a part whose writes are all of greater keys is kept
kept : (x w : Write) (rest : List Write) (o : Ordering) → All (Rises x) rest → key_cmp w.key x.key ≡ o → (is_lt o ≡ true) → without_front rest w.key ≡ rest
kept x w [] o above e l = refl
kept x w (v ∷ vs) Less above e l = greater_kept v vs w.key (key_total.trans w.key x.key v.key e (above 0 v (omega arith)))
kept x w (v ∷ vs) Equal above e l = absurd (cc l)
kept x w (v ∷ vs) Greater above e l = absurd (cc l)

kept_tied : (x w : Write) (rest : List Write) → All (Rises x) rest → key_cmp w.key x.key ≡ Equal → without_front rest w.key ≡ rest
kept_tied x w [] above e = refl
kept_tied x w (v ∷ vs) above e = greater_kept v vs w.key (key_total.congr w.key x.key v.key e ∙ above 0 v (omega arith))

at_front : (w v : Write) (vs : List Write) (o : Ordering) → key_cmp w.key v.key ≡ o → is_lt (key_cmp v.key w.key) ≡ false → match_ordering o (w ∷ v ∷ vs) (w ∷ vs) (v ∷ put vs w) ≡ w ∷ without_front (v ∷ vs) w.key
at_front w v vs Less e reached = ap (λ l. w ∷ l) (sym (greater_kept v vs w.key e))
at_front w v vs Equal e reached = ap (λ o. w ∷ cond (is_eq o) vs (v ∷ vs)) (sym (back w.key v.key Equal e))
at_front w v vs Greater e reached = absurd (differ (sym (ap is_lt (back w.key v.key Greater e)) ∙ reached))
  where
    differ : true ≡ false → ⊥
    differ e = cc

-- a write laid over both parts is laid over the first, where the second has no smaller key, and takes the place of its own key there
pub put-parts : (xs rest : List Write) (w : Write) → Ascend (xs ++ rest) → is_front_below rest w.key ≡ false → put xs w ++ without_front rest w.key ≡ put (xs ++ rest) w
put-parts [] [] w up reached = refl
put-parts [] (v ∷ vs) w up reached = sym (at_front w v vs (key_cmp w.key v.key) refl reached)
put-parts (x ∷ xs) rest w up reached = go (put-parts xs rest w (tail x (xs ++ rest) up) reached) (key_cmp w.key x.key) refl
  where
    above : All (Rises x) rest
    above = all_suffix (Rises x) xs rest (head x (xs ++ rest) up)

    go : put xs w ++ without_front rest w.key ≡ put (xs ++ rest) w → (o : Ordering) → key_cmp w.key x.key ≡ o → match_ordering o (w ∷ x ∷ xs) (w ∷ xs) (x ∷ put xs w) ++ without_front rest w.key ≡ match_ordering o (w ∷ x ∷ (xs ++ rest)) (w ∷ (xs ++ rest)) (x ∷ put (xs ++ rest) w)
    go ih Less e = ap (λ l. w ∷ x ∷ (xs ++ l)) (kept x w rest Less above e refl)
    go ih Equal e = ap (λ l. w ∷ (xs ++ l)) (kept_tied x w rest above e)
    go ih Greater e = ap (λ l. x ∷ l) ih

-- ---- a write behind all others

-- what stands before a write has smaller keys
below : (xs : List Write) (y : Write) (ys : List Write) → Ascend (xs ++ y ∷ ys) → All (λ (w : Write). key_cmp w.key y.key ≡ Less) xs
below [] y ys up = all_none (λ (w : Write). key_cmp w.key y.key ≡ Less)
below (x ∷ xs) y ys up =
    all_cons (λ (w : Write). key_cmp w.key y.key ≡ Less) x xs
    (all_suffix (Rises x) xs (y ∷ ys) (head x (xs ++ y ∷ ys) up) 0 y (omega arith))
    (below xs y ys (tail x (xs ++ y ∷ ys) up))

-- it goes to the end
pub put_last : (xs : List Write) (w : Write) → All (λ (v : Write). key_cmp v.key w.key ≡ Less) xs → put xs w ≡ xs ++ w ∷ []
put_last [] w under = refl
put_last (x ∷ xs) w under =
    ap (λ o. match_ordering o (w ∷ x ∷ xs) (w ∷ xs) (x ∷ put xs w)) (greater w.key x.key (under 0 x (omega arith)))
    ∙ ap (λ (l : List Write). x ∷ l) (put_last xs w (all_tail (λ (v : Write). key_cmp v.key w.key ≡ Less) x xs under))

-- a write laid behind the part that is done, where that has smaller keys
pub laid_one : (done rest : List Write) (w : Write) → Ascend (done ++ rest) → All (λ (v : Write). key_cmp v.key w.key ≡ Less) done → is_front_below rest w.key ≡ false → done ++ w ∷ [] ++ without_front rest w.key ≡ put (done ++ rest) w
laid_one done rest w up under reached = ap (λ (l : List Write). l ++ without_front rest w.key) (sym (put_last done w under)) ∙ put-parts done rest w up reached

-- what is greater than a write is greater than those before it
pub below_more : (done : List Write) (w : Write) (key : Key) → All (λ (v : Write). key_cmp v.key w.key ≡ Less) done → key_cmp w.key key ≡ Less → All (λ (v : Write). key_cmp v.key key ≡ Less) (done ++ w ∷ [])
below_more done w key under above =
    All-push (λ (v : Write). key_cmp v.key key ≡ Less) done w (λ k d l. key_total.trans (get_or done k d).key w.key key (under k d l) above) above

-- a list in order, laid write for write
laid_behind : (xs ys : List Write) → Ascend (xs ++ ys) → staged xs ys ≡ xs ++ ys
laid_behind xs [] up = sym (append-nil xs)
laid_behind xs (y ∷ ys) up =
    let assoc = append_assoc xs (y ∷ []) ys in
    ap (λ (l : List Write). staged l ys) (put_last xs y (below xs y ys up))
    ∙ laid_behind (xs ++ y ∷ []) ys (subst Ascend (sym assoc) up)
    ∙ assoc

pub staged_itself : (ys : List Write) → Ascend ys → staged [] ys ≡ ys
staged_itself ys up = laid_behind [] ys up
