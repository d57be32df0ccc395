-- After a Finish all fits the table, and its reply can be printed.
use Rattle.std.proofs.Common.{◌≡◌, ℕ, List, [], ◌∷◌, length, refl, sym, ap, subst, ◌∙◌, inl, inr, ◌⊎◌, Bool, true, false, All, Option, None, Some}
use Rattle.std.specs.Prelude.{IsSome}
use Rattle.std.proofs.lemmas.List.Elements.{All-nil, All-cons, All-head, All-tail}
use Rattle.cs_types.specs.declared.Key.{Key}
use Rattle.cs_types.specs.declared.Schema.{Schema}
use Rattle.cs_model.specs.declared.entry.Bound.{Bound}
use Rattle.cs_model.specs.declared.entry.Bound.TheVariants as bound
use Rattle.cs_model.specs.declared.entry.Refusal.{Refusal}
use Rattle.cs_model.specs.declared.entry.Refusal.TheVariants.{Reading, Memory}
use Rattle.cs_model.specs.declared.entry.Reply.{Reply}
use Rattle.cs_model.specs.declared.entry.Reply.TheVariants as reply
use Rattle.cs_model.specs.Answers.{writes}
use Rattle.cs_model.specs.Changes.{Edit, Change}
use Rattle.cs_model.specs.Held.{IsFit, IsWhole}
use Rattle.cs_model.specs.Kinds.{is_of_table, is_write}
use Rattle.cs_model.specs.Obstacles.{keys_of, is_present, IsObstacle, IsJudged}
use Rattle.cs_model.specs.Ready.{IsReady}
use Rattle.cs_model.specs.State.{State, Begin, Half, seen}
use Rattle.cs_model.specs.Steps.{IsReply, IsReplyTo, IsWriteReply, IsWriteReplyOf, IsWritten, IsOutOfIds, IsFinish, edits_in, writes_in, rested}
use Rattle.cs_model.specs.Text.{IsPrintableReply}
use Rattle.write_set.specs.declared.write.Write.{Write}
use Rattle.group_view.specs.declared.claim.Parcel.{Parcel}
use Rattle.group_directory.specs.Obstacles.{txn_as, txn_in}
use Rattle.statement_core.specs.declared.core_state.CoreState.{CoreState}
use Rattle.statement_core.specs.declared.started.Outcome.{Outcome}
use Rattle.statement_core.specs.declared.started.Outcome.TheVariants as outcome
use Rattle.statement_core.specs.CoreState.{settings_of, state_of}
use Rattle.statement_core.specs.Fit.{IsFitting, IsFitState}
use Rattle.statement_core.specs.Outcomes.{needs_none, told}
use Rattle.statement_core.specs.Reorganizes.{reorganizes}
use Rattle.statement_core.specs.Settled.{IsDoneAt, IsWritingAt}
use Rattle.statement_core.proofs.Decided.{no_writes, decided_refused}
use Rattle.statement_core.proofs.Finishing.{none_of_table, writing_of, loading_of, decided, answered_prints}
use Rattle.statement_core.proofs.Fitting.{fit_half, fit_replied, refused_prints, plain_prints, judged_prints}
use Rattle.statement_core.proofs.Reorganizes.{reorganize_writes, reorganize_of_table}
use Rattle.statement_core.proofs.Written.{txn, has, defined}

both_fit : (schema : Schema) (edits : List Edit) → All (IsFit schema) edits → All (IsWhole schema) edits → All (IsFitting schema) edits
both_fit schema [] a b = All-nil (IsFitting schema)
both_fit schema (edit ∷ edits) a b =
    All-cons (IsFitting schema) edit edits (All-head (IsFit schema) edit edits a, All-head (IsWhole schema) edit edits b) (both_fit schema edits (All-tail (IsFit schema) edit edits a) (All-tail (IsWhole schema) edit edits b))

none_writes : (b : Bound) → needs_none b ≡ true → is_write b ≡ false
none_writes bound.Begin e = refl
none_writes bound.Commit e = absurd (cc e)
none_writes bound.Rollback e = refl
none_writes bound.Nothing e = refl
none_writes (bound.Statistics on) e = refl
none_writes (bound.Insert plan) e = absurd (cc e)
none_writes (bound.Update plan) e = absurd (cc e)
none_writes (bound.Delete condition) e = absurd (cc e)
none_writes (bound.Select query) e = absurd (cc e)
none_writes bound.GroupReport e = refl
none_writes bound.SegmentReport e = refl
none_writes (bound.Reorganize all) e = refl
none_writes (bound.Refused refusal) e = refl

-- the reply to a write, by what its transaction sees
reply_write : (schema : Schema) (m : State) (session note : ℕ) (b : Bound) (r : Reply) → is_write b ≡ true → IsReplyTo schema m session note b r → IsWriteReply schema m session (m.txns session) b r
reply_write schema m session note bound.Begin r w h = absurd (cc w)
reply_write schema m session note bound.Commit r w h = absurd (cc w)
reply_write schema m session note bound.Rollback r w h = absurd (cc w)
reply_write schema m session note bound.Nothing r w h = absurd (cc w)
reply_write schema m session note (bound.Statistics on) r w h = absurd (cc w)
reply_write schema m session note (bound.Insert plan) r w h = h
reply_write schema m session note (bound.Update plan) r w h = h
reply_write schema m session note (bound.Delete condition) r w h = h
reply_write schema m session note (bound.Select query) r w h = absurd (cc w)
reply_write schema m session note bound.GroupReport r w h = absurd (cc w)
reply_write schema m session note bound.SegmentReport r w h = absurd (cc w)
reply_write schema m session note (bound.Reorganize all) r w h = absurd (cc w)
reply_write schema m session note (bound.Refused refusal) r w h = absurd (cc w)

written_prints : (schema : Schema) (m : State) (session : ℕ) (snapshot : Option ℕ) (t : _) (b : Bound) (edits : List Edit) (r : Reply) → All (IsFit schema) edits
    → IsWritten (IsJudged (IsObstacle m session snapshot (is_present b edits t)) (keys_of edits)) edits r → IsPrintableReply schema r
written_prints schema m session snapshot t b edits reply.Done fit h = tt
written_prints schema m session snapshot t b edits (reply.Affected count) fit h = tt
written_prints schema m session snapshot t b edits (reply.Rows rows segments) fit h = absurd h
written_prints schema m session snapshot t b edits (reply.Groups lines buffered) fit h = absurd h
written_prints schema m session snapshot t b edits (reply.Segments lines) fit h = absurd h
written_prints schema m session snapshot t b edits (reply.Left groups) fit h = absurd h
written_prints schema m session snapshot t b edits (reply.Refused refusal) fit h = judged_prints schema m session snapshot (is_present b edits t) edits refusal fit h

module _ (begin : Begin) (changes : List Change) (old : CoreState) (session : ℕ) (half : Half) (r : Reply) (is : (state_of changes old).half session ≡ Some half) where
  -- what a write gave fits the table
  module _ (list : List Write) (present : List Key) (affected : ℕ) (parcel : Option Parcel) (w : IsWritingAt begin changes old session half list present affected parcel) where
    schema_is : w.begun.schema ≡ begin.schema
    schema_is = let h = w.holds in h.schema

    edits_fit : All (IsFit begin.schema) (let x = w.gives in x.edits)
    edits_fit = let x = w.gives in subst (λ (s : Schema). All (IsFit s) x.edits) schema_is x.fit

    edits_whole : All (IsWhole begin.schema) (let x = w.gives in x.edits)
    edits_whole = let x = w.gives in subst (λ (s : Schema). All (IsWhole s) x.edits) schema_is x.whole

    written_are : writes_in begin.schema changes ((state_of changes old).txns session) half.bound ≡ (let x = w.gives in x.edits)
    written_are =
        ap (λ o. writes_in begin.schema changes o half.bound) (ap txn_in (has begin changes old session half list present affected parcel w))
        ∙ ap edits_in (defined begin changes old session half list present affected parcel w)

    write_fits : All (IsFitting begin.schema) (writes_in begin.schema changes ((state_of changes old).txns session) half.bound)
    write_fits = subst (All (IsFitting begin.schema)) (sym written_are) (both_fit begin.schema _ edits_fit edits_whole)

    write_prints : IsReply begin.schema (state_of changes old) session half r → IsPrintableReply begin.schema r
    write_prints h =
        let t = txn begin changes old session half list present affected parcel w in
        let said = subst (λ o. IsWriteReply begin.schema (state_of changes old) session o half.bound r) (ap txn_in (has begin changes old session half list present affected parcel w))
        (reply_write begin.schema (state_of changes old) session half.note half.bound r w.writes h) in
        written_prints begin.schema (state_of changes old) session t.snapshot (seen changes (txn_as t)) half.bound (let x = w.gives in x.edits) r edits_fit
        (subst (λ x. IsWriteReplyOf (state_of changes old) session t.snapshot (seen changes (txn_as t)) half.bound x r) (defined begin changes old session half list present affected parcel w) said)

  no_edits : is_write half.bound ≡ false → ((found : Refusal) × (r ≡ reply.Refused found)) ⊎ All (IsFitting begin.schema) (writes_in begin.schema changes ((state_of changes old).txns session) half.bound)
  no_edits w = inr (subst (All (IsFitting begin.schema)) (sym (no_writes begin.schema changes ((state_of changes old).txns session) half.bound w)) (All-nil (IsFitting begin.schema)))

  module _ (o : Outcome) (d : IsDoneAt begin changes old session half o) (short : o ≡ outcome.Short → r ≡ reply.Refused Memory) (given : (g : Reply) → o ≡ outcome.Answer g → r ≡ told (settings_of old.settings session) g) where
    fits_at : (x : Outcome) → o ≡ x → IsDoneAt begin changes old session half x → ((found : Refusal) × (r ≡ reply.Refused found)) ⊎ All (IsFitting begin.schema) (writes_in begin.schema changes ((state_of changes old).txns session) half.bound)
    fits_at outcome.Nothing e x = no_edits (none_writes half.bound (ap needs_none (sym x.bound) ∙ x.gives))
    fits_at (outcome.Answer g) e x = by (is_write half.bound) refl
      where
        by : (t : Bool) → is_write half.bound ≡ t → ((found : Refusal) × (r ≡ reply.Refused found)) ⊎ All (IsFitting begin.schema) (writes_in begin.schema changes ((state_of changes old).txns session) half.bound)
        by true w = let f = decided_refused begin.schema (state_of changes old) session half.bound _ g w (decided begin changes old session half g x) in inl (f.0, given g e ∙ ap (told (settings_of old.settings session)) f.1)
        by false w = no_edits w
    fits_at (outcome.Writes writes present affected parcel) e x = inr (write_fits writes.items present.items affected parcel (writing_of begin changes old session half writes present affected parcel x))
    fits_at (outcome.Load keys parcel) e x = let load = loading_of begin changes old session half keys parcel x in inr (write_fits load.list [] (length keys.items) (Some parcel) load.is)
    fits_at (outcome.Commit parcel) e x = no_edits (let g = x.gives in ap is_write (sym x.bound ∙ g.0))
    fits_at (outcome.Left groups) e x = no_edits (reorganize_writes half.bound (subst (λ (y : Bound). IsSome (reorganizes y)) x.bound x.gives))
    fits_at outcome.Short e x = inl (Memory, short e)

    plain_at : IsReady begin.schema half.bound → (half.bound ≡ bound.SegmentReport → IsPrintableReply begin.schema r) → is_of_table half.bound ≡ false → IsReply begin.schema (state_of changes old) session half r → IsPrintableReply begin.schema r
    plain_at ready segments not h = plain_prints begin.schema (state_of changes old) session half.note half.bound r not ready segments h

    prints_at : IsReady begin.schema half.bound → (half.bound ≡ bound.SegmentReport → IsPrintableReply begin.schema r) → (x : Outcome) → o ≡ x → IsDoneAt begin changes old session half x
        → IsReply begin.schema (state_of changes old) session half r → IsPrintableReply begin.schema r
    prints_at ready segments outcome.Nothing e x h = plain_at ready segments (none_of_table half.bound (ap needs_none (sym x.bound) ∙ x.gives)) h
    prints_at ready segments (outcome.Answer g) e x h = subst (IsPrintableReply begin.schema) (sym (given g e)) (answered_prints begin changes old session half g x)
    prints_at ready segments (outcome.Writes writes present affected parcel) e x h = write_prints writes.items present.items affected parcel (writing_of begin changes old session half writes present affected parcel x) h
    prints_at ready segments (outcome.Load keys parcel) e x h =
        let load = loading_of begin changes old session half keys parcel x in write_prints load.list [] (length keys.items) (Some parcel) load.is h
    prints_at ready segments (outcome.Commit parcel) e x h = plain_at ready segments (let g = x.gives in ap is_of_table (sym x.bound ∙ g.0)) h
    prints_at ready segments (outcome.Left groups) e x h = plain_at ready segments (reorganize_of_table half.bound (subst (λ (y : Bound). IsSome (reorganizes y)) x.bound x.gives)) h
    prints_at ready segments outcome.Short e x h = refused_prints begin.schema r Memory (short e) tt

    -- ---- the law

    pub fits_after : (after : State) → IsFinish begin.schema (state_of changes old) session (Some half) r after → IsFitState begin.schema (state_of changes old) → IsFitState begin.schema after
    fits_after after x fit =
        subst (IsFitState begin.schema) (sym x.1) (fit_replied begin.schema (rested (state_of changes old) session) session half.bound r (fit_half begin.schema (state_of changes old) session None fit tt) (fits_at o refl d))

    pub prints_after : (after : State) → IsFinish begin.schema (state_of changes old) session (Some half) r after → IsReady begin.schema half.bound → (half.bound ≡ bound.SegmentReport → IsPrintableReply begin.schema r) → IsPrintableReply begin.schema r
    prints_after after x ready segments = at x.0
      where
        among : IsReply begin.schema (state_of changes old) session half r ⊎ IsOutOfIds begin.schema (state_of changes old) session half r → IsPrintableReply begin.schema r
        among (inl h) = prints_at ready segments o refl d h
        among (inr out) = refused_prints begin.schema r (Reading 50001 1) out.refuses tt

        at : (r ≡ reply.Refused Memory) ⊎ ((half.short ≡ false) × (IsReply begin.schema (state_of changes old) session half r ⊎ IsOutOfIds begin.schema (state_of changes old) session half r)) → IsPrintableReply begin.schema r
        at (inl e) = refused_prints begin.schema r Memory e tt
        at (inr h) = among h.1
