-- Texts side by side, as one more is put at the end.
use Rattle.std.proofs.Common.{◌≡◌, ℕ, ◌+◌, ◌-◌, ◌<◌, ◌≤◌, List, [], ◌∷◌, ◌++◌, length, get_or, map, take, drop, refl, sym, ◌∙◌, ap, arith, IsTrue, Some, slice_get, slice_range, zero, suc, length-append, Bor}
use Rattle.std.proofs.lemmas.Bool.Decides.{nat_tests}
use Rattle.std.proofs.lemmas.List.{drop-append-le, take-append-le, length-drop, drop_at, take_all, map_more}
use Rattle.segment_dict.specs.Texts.{texts_from, texts_in, ends_rise}

pub record Rises (from end : ℕ) (ends : List ℕ) (last : ℕ) : Type 0 where
  pub first : from ≤ end
  pub rest : IsTrue (ends_rise end ends last)

rises : (from end : ℕ) (ends : List ℕ) (last : ℕ) → IsTrue (ends_rise from (end ∷ ends) last) → Rises from end ends last
rises from end ends last h = record { first = grind (arith, nat_tests); rest = grind (arith, nat_tests) }

rise_last : (from last : ℕ) → IsTrue (ends_rise from [] last) → from ≡ last
rise_last from last h = grind (arith, nat_tests)

rise_cons : (from end : ℕ) (ends : List ℕ) (last : ℕ) → from ≤ end → IsTrue (ends_rise end ends last) → IsTrue (ends_rise from (end ∷ ends) last)
rise_cons from end ends last h rest = grind (arith, nat_tests)

rise_none : (last : ℕ) → IsTrue (ends_rise last [] last)
rise_none last = grind (arith, nat_tests)

-- no end is past the last
rise-le : (from : ℕ) (ends : List ℕ) (last : ℕ) → IsTrue (ends_rise from ends last) → from ≤ last
rise-le from [] last h = omega (arith, rise_last from last h)
rise-le from (end ∷ ends) last h = let r = rises from end ends last h in omega (arith, r.first, rise-le end ends last r.rest)

pub ends_rise-push : (from : ℕ) (ends : List ℕ) (last more : ℕ) → IsTrue (ends_rise from ends last) → last ≤ more → IsTrue (ends_rise from (ends ++ more ∷ []) more)
ends_rise-push from [] last more h le = rise_cons from more [] more (omega (arith, rise_last from last h)) (rise_none more)
ends_rise-push from (end ∷ ends) last more h le =
    let r = rises from end ends last h in
    rise_cons from end (ends ++ more ∷ []) more r.first (ends_rise-push end ends last more r.rest le)

range_append : (bytes text : List ℕ) (from end : ℕ) → from ≤ end → end ≤ length bytes → slice_range (bytes ++ text) from end ≡ slice_range bytes from end
range_append bytes text from end le within =
    ap (take (end - from)) (drop-append-le from bytes text (omega arith))
    ∙ take-append-le (end - from) (drop from bytes) text (omega (arith, length-drop from bytes))

pub texts_from-push : (from : ℕ) (ends bytes text : List ℕ) → IsTrue (ends_rise from ends (length bytes)) → texts_from from (ends ++ (length bytes + length text) ∷ []) (bytes ++ text) ≡ texts_from from ends bytes ++ text ∷ []
texts_from-push from [] bytes text h =
    let at_end : from ≡ length bytes = rise_last from (length bytes) h in
    ap (λ t. t ∷ []) (ap (λ k. take (length bytes + length text - k) (drop k (bytes ++ text))) at_end
    ∙ ap (take (length bytes + length text - length bytes)) (drop_at bytes text (length bytes) refl)
    ∙ take_all (length bytes + length text - length bytes) text (omega arith))
texts_from-push from (end ∷ ends) bytes text h =
    let r = rises from end ends (length bytes) h in
    ap (λ t. t ∷ texts_from end (ends ++ (length bytes + length text) ∷ []) (bytes ++ text)) (range_append bytes text from end r.first (rise-le end ends (length bytes) r.rest))
    ∙ ap (λ ts. slice_range bytes from end ∷ ts) (texts_from-push end ends bytes text r.rest)

-- where the text at a place stands
pub record TextAt (from : ℕ) (ends bytes : List ℕ) (place : ℕ) : Type 0 where
  pub begins : get_or (from ∷ ends) place 0 ≤ get_or ends place 0
  pub within : get_or ends place 0 ≤ length bytes
  pub is : slice_get (texts_from from ends bytes) place ≡ Some (slice_range bytes (get_or (from ∷ ends) place 0) (get_or ends place 0))

pub text_at : (from : ℕ) (ends bytes : List ℕ) (place : ℕ) → IsTrue (ends_rise from ends (length bytes)) → place < length ends → TextAt from ends bytes place
text_at from [] bytes place h l = absurd (omega arith)
text_at from (end ∷ ends) bytes zero h l =
    let r = rises from end ends (length bytes) h in
    record { begins = r.first; within = rise-le end ends (length bytes) r.rest; is = refl }
text_at from (end ∷ ends) bytes (suc place) h l =
    let r = rises from end ends (length bytes) h in
    let next = text_at end ends bytes place r.rest (omega arith) in
    record { begins = next.begins; within = next.within; is = next.is }

pub length-texts_from : (from : ℕ) (ends bytes : List ℕ) → length (texts_from from ends bytes) ≡ length ends
length-texts_from from [] bytes = refl
length-texts_from from (end ∷ ends) bytes = ap suc (length-texts_from end ends bytes)

pub start-later : (ends : List ℕ) (place : ℕ) → 0 < place → get_or (0 ∷ ends) place 0 ≡ get_or ends (place - 1) 0
start-later ends zero h = absurd (omega arith)
start-later ends (suc place) h = ap (λ k. get_or ends k 0) (omega arith)

pub start-first : (ends : List ℕ) (place : ℕ) → place ≡ 0 → get_or (0 ∷ ends) place 0 ≡ 0
start-first ends place e = ap (λ k. get_or (0 ∷ ends) k 0) e

-- the next of some texts goes to the end
pub texts_in-more : (texts : List (Bor (List ℕ))) (i end : ℕ) (text ends bytes : List ℕ) → i < length texts → (d : Bor (List ℕ)) → (get_or texts i d).now ≡ text → end ≡ length bytes + length text → (texts_in ends bytes ≡ map (λ (t : Bor (List ℕ)). t.now) (take i texts)) × IsTrue (ends_rise 0 ends (length bytes)) → (texts_in (ends ++ end ∷ []) (bytes ++ text) ≡ map (λ (t : Bor (List ℕ)). t.now) (take (i + 1) texts)) × IsTrue (ends_rise 0 (ends ++ end ∷ []) (length (bytes ++ text)))
texts_in-more texts i end text ends bytes there d is at_end (before, rise) =
    let total : length (bytes ++ text) ≡ end = length-append bytes text ∙ sym at_end in (
      ap (λ e. texts_from 0 (ends ++ e ∷ []) (bytes ++ text)) at_end
          ∙ texts_from-push 0 ends bytes text rise
          ∙ ap (λ ts. ts ++ text ∷ []) before
          ∙ ap (λ t. map (λ (t : Bor (List ℕ)). t.now) (take i texts) ++ t ∷ []) (sym is)
          ∙ sym (map_more (λ (t : Bor (List ℕ)). t.now) texts i d there),
      rw total (ends_rise-push 0 ends (length bytes) end rise (omega arith)),
    )
