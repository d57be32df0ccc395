-- In a whole log in which memory was never wanting, no Start found it wanting, and no statement is a refusal for want of it: each
-- such Start has its Finish, which is told 701.
use Rattle.std.proofs.Common.{◌≡◌, ◌⊎◌, ℕ, zero, suc, ◌+◌, List, [], ◌∷◌, ◌++◌, map, refl, sym, ap, subst, ◌∙◌, inl, inr, cond, Bool, true, false, arith, Some}
use Rattle.std.specs.Prelude.{◌==◌, ◌&&◌, count_by, Contains}
use Rattle.std.proofs.lemmas.List.Sums.{sum_by-cons}
use Rattle.std.proofs.lemmas.Bool.Decides.{nat_tests}
use Rattle.std.proofs.lemmas.Option.{none-some}
use Rattle.cs_types.specs.declared.Schema.{Schema}
use Rattle.cs_model.specs.declared.entry.Bound.{Bound}
use Rattle.cs_model.specs.declared.entry.Bound.TheVariants as bound
use Rattle.cs_model.specs.declared.entry.Entry.{Entry}
use Rattle.cs_model.specs.declared.entry.Entry.TheVariants.{Start, Finish, End, Mover}
use Rattle.cs_model.specs.declared.entry.Refusal.TheVariants.{Memory}
use Rattle.cs_model.specs.declared.entry.Reply.{Reply}
use Rattle.cs_model.specs.declared.entry.Reply.TheVariants as reply
use Rattle.cs_model.specs.Actors.{actor_of, is_turn, turns_of}
use Rattle.cs_model.specs.Kinds.{is_of_table}
use Rattle.cs_model.specs.State.{Half, State, Begin, schema_now}
use Rattle.cs_model.specs.Steps.{IsFinish, IsOutOfIds, IsReply, IsReplyTo, IsStep, Leads, ends_txn, finished, gone, half_of, pinned, rested, started}
use Rattle.log_laws.proofs.Framed.{at_own, framed}
use Rattle.log_laws.proofs.Owners.{equal}
use Rattle.cs_model.specs.Works.{lacks_memory}
use Rattle.log_summary.specs.Summary.{is_short_event, replies_memory}

-- an entry in which memory was not wanting
abbrev pub IsAmple : Entry → Type 0
IsAmple (Start session b short) = (short ≡ false) × (b.value ≡ bound.Refused Memory → ⊥)
IsAmple (Finish session r) = replies_memory r ≡ false
IsAmple (End session) = Unit {0}
IsAmple (Mover actor work) = lacks_memory work ≡ false

abbrev pub AreAmple : List Entry → Type 0
AreAmple [] = Unit {0}
AreAmple (e ∷ es) = IsAmple e × AreAmple es

pub ample_apart : (xs ys : List Entry) → AreAmple (xs ++ ys) → AreAmple xs × AreAmple ys
ample_apart [] ys all = (tt, all)
ample_apart (x ∷ xs) ys all = let rest = ample_apart xs ys all.1 in ((all.0, rest.0), rest.1)

-- ---- events for want of memory

abbrev counted : Bool → ℕ
counted t = cond t 1 0

-- where none of these is one, neither is the first
pub one_less : (e : Entry) (es : List Entry) → count_by is_short_event (e ∷ es) ≡ 0 → (is_short_event e ≡ false) × (count_by is_short_event es ≡ 0)
one_less e es none = at (is_short_event e) refl
  where
    all : counted (is_short_event e) + count_by is_short_event es ≡ 0
    all = sym (sum_by-cons (λ x. cond (is_short_event x) 1 0) e es) ∙ none

    at : (t : Bool) → is_short_event e ≡ t → (is_short_event e ≡ false) × (count_by is_short_event es ≡ 0)
    at true is = let counts : counted (is_short_event e) ≡ counted true = ap counted is in absurd (omega (arith, all, counts))
    at false is = let counts : counted (is_short_event e) ≡ counted false = ap counted is in (is, omega (arith, all, counts))

-- ---- its Finish is told 701

-- a statement whose Start found no memory, or no memory for what it means
abbrev IsPoor : Half → Type 0
IsPoor half = (half.short ≡ true) ⊎ (half.bound ≡ bound.Refused Memory)

clock_kept : (schema : Schema) (m : State) (session : ℕ) (b : Bound) (r : Reply) → b ≡ bound.Refused Memory → r ≡ reply.Refused Memory → (finished schema m session b r).clock ≡ m.clock
clock_kept schema m session b r e told =
    (λ i. (finished schema m session (e i) (told i)).clock) ∙ at (ends_txn (m.txns session) Memory)
  where
    at : (t : Bool) → (cond t (gone (rested m session) session) (rested m session)).clock ≡ m.clock
    at true = refl
    at false = refl

poor_told : (schema : Schema) (m after : State) (session : ℕ) (half : Half) (r : Reply) → IsPoor half → IsFinish schema m session (Some half) r after → replies_memory r ≡ true
poor_told schema m after session half r poor (how, becomes) = at how poor
  where
    told : r ≡ reply.Refused Memory → replies_memory r ≡ true
    told e = ap replies_memory e

    answered : half.bound ≡ bound.Refused Memory → IsReply schema m session half r ⊎ IsOutOfIds schema m session half r → replies_memory r ≡ true
    answered e (inl is) = told (subst (λ b. IsReplyTo schema m session half.note b r) e is)
    answered e (inr out) =
        let given : out.given ≡ reply.Refused Memory = subst (λ b. IsReplyTo schema m session half.note b out.given) e out.is_reply in
        let same = clock_kept schema m session half.bound out.given e given in
        let up = out.commits in
        absurd (omega (arith, same, up))

    at : (r ≡ reply.Refused Memory) ⊎ ((half.short ≡ false) × (IsReply schema m session half r ⊎ IsOutOfIds schema m session half r)) → IsPoor half → replies_memory r ≡ true
    at (inl e) poor = told e
    at (inr (well, how)) (inl short) = absurd cc
    at (inr (well, how)) (inr e) = answered e how

-- ---- it stays half done until then

module _ (begin : Begin) (session : ℕ) (half : Half) (poor : IsPoor half) where
  own_stays : (m : State) (e : Entry) (after : State) → IsStep begin m e after → is_short_event e ≡ false → session ≡ actor_of e → m.half session ≡ Some half → after.half session ≡ Some half
  own_stays m (Start s b short) after x none own is = absurd (none-some half (sym (ap m.half own ∙ x.0) ∙ is))
  own_stays m (Finish s r) after x none own is =
      let told = poor_told (schema_now begin m) m after s half r poor (subst (λ h. IsFinish (schema_now begin m) m s h r after) (ap m.half (sym own) ∙ is) x) in
      absurd cc
  own_stays m (End s) after x none own is = absurd (none-some half (sym (ap m.half own ∙ x.0) ∙ is))
  own_stays m (Mover actor work) after x none own is = ap (λ (z : State). z.half session) x ∙ is

  stays : (m : State) (e : Entry) (after : State) → IsStep begin m e after → is_short_event e ≡ false → m.half session ≡ Some half → after.half session ≡ Some half
  stays m e after x none is = at (session == actor_of e) refl
    where
      at : (t : Bool) → (session == actor_of e) ≡ t → after.half session ≡ Some half
      at true own = own_stays m e after x none (equal session (actor_of e) own) is
      at false other = (framed begin m e after x).halves session other ∙ is

  -- so its session does not end
  no_end : (sessions : List ℕ) (m after : State) → Leads begin m (map End sessions) after → m.half session ≡ Some half → Contains sessions session → ⊥
  no_end [] m after x is c = let lt = c.1 in omega (arith, lt)
  no_end (s ∷ sessions) m after x is (zero, within, same) = none-some half (sym (ap m.half (sym same) ∙ (x.1).0) ∙ is)
  no_end (s ∷ sessions) m after x is (suc k, within, same) = no_end sessions x.0 after x.2 (stays m (End s) x.0 x.1 refl is) (k, omega (arith, within), same)

  no_end_later : (es : List Entry) (sessions : List ℕ) (m after : State) → Leads begin m (es ++ map End sessions) after → count_by is_short_event es ≡ 0 → m.half session ≡ Some half → Contains sessions session → ⊥
  no_end_later [] sessions m after x none is c = no_end sessions m after x is c
  no_end_later (e ∷ es) sessions m after x none is c =
      let apart = one_less e es none in no_end_later es sessions x.0 after x.2 apart.1 (stays m e x.0 x.1 apart.0 is) c

-- ---- all entries

-- a session whose turns none of these are has none after the first
pub turns_behind : (session : ℕ) (e : Entry) (es : List Entry) → turns_of session (e ∷ es) ≡ [] → turns_of session es ≡ []
turns_behind session e es none = at (is_turn e && (actor_of e == session)) none
  where
    at : (t : Bool) → cond t (e ∷ turns_of session es) (turns_of session es) ≡ [] → turns_of session es ≡ []
    at true none = absurd cc
    at false none = none

pub start_is_turn : (session : ℕ) (e : Entry) (es : List Entry) → is_turn e ≡ true → actor_of e ≡ session → turns_of session (e ∷ es) ≡ [] → ⊥
start_is_turn session e es turn own none = at (is_turn e && (actor_of e == session)) is none
  where
    same : (actor_of e == session) ≡ true
    same = grind (arith, nat_tests)

    is : (is_turn e && (actor_of e == session)) ≡ true
    is = rw (turn, same) refl

    at : (t : Bool) → t ≡ true → cond t (e ∷ turns_of session es) (turns_of session es) ≡ [] → ⊥
    at true is none = cc
    at false is none = cc

module _ (begin : Begin) (sessions : List ℕ) where
  ample_start : (session : ℕ) (half : Half) (es : List Entry) (m after : State) → Leads begin m (es ++ map End sessions) after → count_by is_short_event es ≡ 0 → m.half session ≡ Some half
      → ((Contains sessions session → ⊥) → ⊥) → IsPoor half → ⊥
  ample_start session half es m after x none is ends poor = ends (no_end_later begin session half poor es sessions m after x none is)

  pub half_begun : (m after : State) (session : ℕ) (b : Bound) (short : Bool) → after ≡ started m session b short → after.half session ≡ Some (half_of m b short)
  half_begun m after session b short e =
      let before : State = cond (is_of_table b) (pinned m session short) m in
      ap (λ (z : State). z.half session) e ∙ at_own before.half session (Some (half_of m b short))

  ample_one : (e : Entry) (es : List Entry) (m mid after : State) → IsStep begin m e mid → Leads begin mid (es ++ map End sessions) after → is_short_event e ≡ false → count_by is_short_event es ≡ 0
      → ((session : ℕ) → (Contains sessions session → ⊥) → turns_of session (e ∷ es) ≡ []) → IsAmple e
  ample_one (Start session b short) es m mid after x later well none others =
      (not_short short refl, λ e. poor (inr e))
    where
      poor : IsPoor (half_of m b.value short) → ⊥
      poor how = ample_start session (half_of m b.value short) es mid after later none (half_begun m mid session b.value short x.2)
          (λ missing. start_is_turn session (Start session b short) es refl refl (others session missing)) how

      not_short : (t : Bool) → short ≡ t → short ≡ false
      not_short true e = absurd (poor (inl e))
      not_short false e = e
  ample_one (Finish session r) es m mid after x later well none others = well
  ample_one (End session) es m mid after x later well none others = tt
  ample_one (Mover actor work) es m mid after x later well none others = well

  pub all_ample : (es : List Entry) (m after : State) → Leads begin m (es ++ map End sessions) after → count_by is_short_event es ≡ 0
      → ((session : ℕ) → (Contains sessions session → ⊥) → turns_of session es ≡ []) → AreAmple es
  all_ample [] m after x none others = tt
  all_ample (e ∷ es) m after x none others =
      let apart = one_less e es none in (
        ample_one e es m x.0 after x.1 x.2 apart.0 apart.1 others,
        all_ample es x.0 after x.2 apart.1 (λ session missing. turns_behind session e es (others session missing)),
      )
