-- Writes laid in another order.
use Rattle.std.proofs.Common.{◌≡◌, List, [], ◌∷◌, ◌++◌, map, get_or, refl, sym, ◌∙◌, ap, subst, arith, Result, Ok, Err, IfOk, All}
use Rattle.std.specs.declared.cmp.Ordering.{Ordering}
use Rattle.std.specs.declared.cmp.Ordering.TheVariants.{Less, Equal, Greater}
use Rattle.std.specs.Ordering.{match_ordering}
use Rattle.std.specs.BTreeMap.{insert_entry}
use Rattle.std.specs.Map.{values_of}
use Rattle.cs_types.specs.declared.Key.{Key}
use Rattle.write_set.specs.declared.write.Write.{Write}
use Rattle.cs_types.specs.Keys.{key_cmp}
use Rattle.write_set.specs.Writes.{Ascend, keyed, put, staged}
use Rattle.cs_types.proofs.KeyLemmas.{key_total, exact_key}
use Rattle.write_set.proofs.Puts.{greater, tied, Rises, head, tail, all_cons, all_tail, Ascend-put}

-- what a write does to a list whose first write it stands so to
abbrev at : Write → Write → List Write → Ordering → List Write
at w v vs o = match_ordering o (w ∷ v ∷ vs) (w ∷ vs) (v ∷ put vs w)

module _ (a b : Write) (ab : key_cmp a.key b.key ≡ Less) where
  ba : key_cmp b.key a.key ≡ Greater
  ba = greater b.key a.key ab

  -- two writes of different keys may be laid in either order
  pub turned : (own : List Write) → put (put own a) b ≡ put (put own b) a
  turned [] = ap (λ o. match_ordering o (b ∷ a ∷ []) (b ∷ []) (a ∷ b ∷ [])) ba ∙ sym (ap (λ o. match_ordering o (a ∷ b ∷ []) (a ∷ []) (b ∷ a ∷ [])) ab)
  turned (v ∷ vs) = go (turned vs) (key_cmp b.key v.key) refl (key_cmp a.key v.key) refl
    where
      under : key_cmp b.key v.key ≡ Less → key_cmp a.key v.key ≡ Less
      under e = key_total.trans a.key b.key v.key ab e

      beside : key_cmp b.key v.key ≡ Equal → key_cmp a.key v.key ≡ Less
      beside e = subst (λ k. key_cmp a.key k ≡ Less) (exact_key b.key v.key e) ab

      -- b is put after a, where a is put first
      behind : (o : Ordering) → key_cmp b.key v.key ≡ o → at b a (v ∷ vs) (key_cmp b.key a.key) ≡ a ∷ at b v vs o
      behind o e = ap (λ p. at b a (v ∷ vs) p) ba ∙ ap (λ p. a ∷ at b v vs p) e

      go : put (put vs a) b ≡ put (put vs b) a → (ob : Ordering) → key_cmp b.key v.key ≡ ob → (oa : Ordering) → key_cmp a.key v.key ≡ oa → put (at a v vs oa) b ≡ put (at b v vs ob) a
      go ih Less eb Less ea = behind Less eb ∙ sym (ap (λ o. at a b (v ∷ vs) o) ab)
      go ih Less eb Equal ea = absurd (cc (sym (under eb) ∙ ea))
      go ih Less eb Greater ea = absurd (cc (sym (under eb) ∙ ea))
      go ih Equal eb Less ea = behind Equal eb ∙ sym (ap (λ o. at a b vs o) ab)
      go ih Equal eb Equal ea = absurd (cc (sym (beside eb) ∙ ea))
      go ih Equal eb Greater ea = absurd (cc (sym (beside eb) ∙ ea))
      go ih Greater eb Less ea = behind Greater eb ∙ sym (ap (λ o. at a v (put vs b) o) ea)
      go ih Greater eb Equal ea = ap (λ o. at b a vs o) ba ∙ sym (ap (λ o. at a v (put vs b) o) ea)
      go ih Greater eb Greater ea = ap (λ o. at b v (put vs a) o) eb ∙ ap (λ l. v ∷ l) ih ∙ sym (ap (λ o. at a v (put vs b) o) ea)

-- of two writes of one key the later one stands
pub replaced : (a b : Write) (own : List Write) → key_cmp a.key b.key ≡ Equal → put (put own a) b ≡ put own b
replaced a b own same = go own
  where
    ba : key_cmp b.key a.key ≡ Equal
    ba = tied b.key a.key (sym (exact_key a.key b.key same))

    at_key : (v : Write) (o : Ordering) → key_cmp a.key v.key ≡ o → key_cmp b.key v.key ≡ o
    at_key v o e = sym (key_total.congr a.key b.key v.key same) ∙ e

    go : (own : List Write) → put (put own a) b ≡ put own b
    go [] = ap (λ o. match_ordering o (b ∷ a ∷ []) (b ∷ []) (a ∷ b ∷ [])) ba
    go (v ∷ vs) = by (go vs) (key_cmp a.key v.key) refl
      where
        by : put (put vs a) b ≡ put vs b → (o : Ordering) → key_cmp a.key v.key ≡ o → put (at a v vs o) b ≡ put (v ∷ vs) b
        by ih Less e = ap (λ o. at b a (v ∷ vs) o) ba ∙ sym (ap (λ o. at b v vs o) (at_key v Less e))
        by ih Equal e = ap (λ o. at b a vs o) ba ∙ sym (ap (λ o. at b v vs o) (at_key v Equal e))
        by ih Greater e = ap (λ o. at b v (put vs a) o) (at_key v Greater e) ∙ ap (λ l. v ∷ l) ih ∙ sym (ap (λ o. at b v vs o) (at_key v Greater e))

-- a write of a smaller key than those that follow may be laid after them
last : (w : Write) (us own : List Write) → All (Rises w) us → staged (put own w) us ≡ put (staged own us) w
last w [] own above = refl
last w (u ∷ us) own above = ap (λ l. staged l us) (turned w u (above 0 u (omega arith)) own) ∙ last w us (put own u) (all_tail (Rises w) u us above)

-- one write more may be laid after the others, or among them
more : (w : Write) (acc own : List Write) → Ascend acc → staged own (put acc w) ≡ put (staged own acc) w
more w [] own up = refl
more w (v ∷ vs) own up = go (more w vs (put own v) (tail v vs up)) (key_cmp w.key v.key) refl
  where
    go : staged (put own v) (put vs w) ≡ put (staged (put own v) vs) w → (o : Ordering) → key_cmp w.key v.key ≡ o → staged own (at w v vs o) ≡ put (staged own (v ∷ vs)) w
    go ih Less e = last w (v ∷ vs) own (all_cons (Rises w) v vs e (λ k d l. key_total.trans w.key v.key (get_or vs k d).key e (head v vs up k d l)))
    go ih Equal e =
        ap (λ l. staged l vs) (sym (replaced v w own (tied v.key w.key (sym (exact_key w.key v.key e)))))
        ∙ last w vs (put own v) (λ k d l. key_total.congr w.key v.key (get_or vs k d).key e ∙ head v vs up k d l)
    go ih Greater e = ih

whole : (ws acc own : List Write) → Ascend acc → staged own (staged acc ws) ≡ staged (staged own acc) ws
whole [] acc own up = refl
whole (w ∷ ws) acc own up = whole ws (put acc w) own (Ascend-put acc w up) ∙ ap (λ l. staged l ws) (more w acc own up)

-- writes brought into order do what they did
ordered_alike : (ws own : List Write) → staged own (staged [] ws) ≡ staged own ws
ordered_alike ws own = whole ws [] own (λ i j d l there. absurd (omega (arith, there)))

pub result_alike : {V E : Type 0} (items : V → List Write) (ws : List Write) (r : Result V E) → IfOk r (λ v. items v ≡ staged [] ws) → IfOk r (λ v. (own : List Write) → staged own (items v) ≡ staged own ws)
result_alike items ws (Ok v) e = λ own. ap (λ l. staged own l) e ∙ ordered_alike ws own
result_alike items ws (Err error) e = tt

-- ---- writes by key

-- what is kept of each write at its key
module _ {V : Type 0} (of : Write → V) where
  abbrev pub at_keys : List Write → List (Key × V)
  at_keys writes = map (λ (write : Write). (write.key, of write)) writes

  -- a write put in is an entry of a map put in
  pub put_entry : (own : List Write) (w : Write) → at_keys (put own w) ≡ insert_entry key_cmp (at_keys own) w.key (of w)
  put_entry [] w = refl
  put_entry (v ∷ vs) w = go (key_cmp w.key v.key) refl (put_entry vs w)
    where
      go : (o : Ordering) → key_cmp w.key v.key ≡ o → at_keys (put vs w) ≡ insert_entry key_cmp (at_keys vs) w.key (of w)
          → at_keys (at w v vs o) ≡ match_ordering o ((w.key, of w) ∷ (v.key, of v) ∷ at_keys vs) ((v.key, of w) ∷ at_keys vs) ((v.key, of v) ∷ insert_entry key_cmp (at_keys vs) w.key (of w))
      go Less e ih = refl
      go Equal e ih = ap (λ k. (k, of w) ∷ at_keys vs) (exact_key w.key v.key e)
      go Greater e ih = ap (λ es. (v.key, of v) ∷ es) ih

staged_more : (own writes : List Write) (w : Write) → staged own (writes ++ w ∷ []) ≡ put (staged own writes) w
staged_more own [] w = refl
staged_more own (v ∷ vs) w = staged_more (put own v) vs w

pub keyed_more : (writes : List Write) (w : Write) → keyed (staged [] (writes ++ w ∷ [])) ≡ insert_entry key_cmp (keyed (staged [] writes)) w.key w
keyed_more writes w = ap keyed (staged_more [] writes w) ∙ put_entry (λ v. v) (staged [] writes) w

pub values_keyed : (ws : List Write) → values_of (keyed ws) ≡ ws
values_keyed [] = refl
values_keyed (w ∷ ws) = ap (λ l. w ∷ l) (values_keyed ws)
