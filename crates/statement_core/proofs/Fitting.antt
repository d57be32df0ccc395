-- What an event leaves fits the table, and its reply can be printed.
use Rattle.std.proofs.Common.{◌≡◌, ℕ, List, [], ◌∷◌, ◌++◌, refl, sym, subst, inl, inr, ◌⊎◌, Bool, true, false, cond, All, Option, None, Some, nat_lt, nat_le, ◌+◌, ◌-◌}
use Rattle.std.specs.Prelude.{◌==◌}
use Rattle.std.specs.declared.cmp.Ordering.{Ordering}
use Rattle.std.specs.declared.cmp.Ordering.TheVariants.{Less, Equal, Greater}
use Rattle.std.specs.BTreeMap.{insert_entry}
use Rattle.std.specs.Ordering.{match_ordering}
use Rattle.std.proofs.lemmas.List.Elements.{All-append, All-map, All-cons, All-nil, All-head, All-tail, All-contains}
use Rattle.cs_types.specs.declared.Key.{Key}
use Rattle.cs_types.specs.declared.Schema.{Schema}
use Rattle.cs_model.specs.declared.entry.Bound.{Bound}
use Rattle.cs_model.specs.declared.entry.Bound.TheVariants as bound
use Rattle.cs_model.specs.declared.entry.Refusal.{Refusal}
use Rattle.cs_model.specs.declared.entry.Refusal.TheVariants as refusal
use Rattle.cs_model.specs.declared.entry.Reply.{Reply}
use Rattle.cs_model.specs.declared.entry.Reply.TheVariants as reply
use Rattle.cs_types.specs.Keys.{key_cmp}
use Rattle.cs_model.specs.Changes.{Edit, Change}
use Rattle.cs_model.specs.Held.{IsFit}
use Rattle.cs_model.specs.Ready.{IsOfReading, IsReady}
use Rattle.cs_types.proofs.KeyLemmas.{exact_key}
use Rattle.cs_model.specs.State.{State, Txn, Half, with, txn_set, half_set}
use Rattle.cs_model.specs.Kinds.{is_of_table}
use Rattle.cs_model.specs.Obstacles.{keys_of, IsObstacle, IsJudged}
use Rattle.cs_model.specs.Steps.{IsReplyTo, IsGroups, IsLeft, began, unwound, settled, commits, wrote, writes_in, gone, half_of, refused, replied, accepted, ends_txn, staged, is_empty, numbered, begin_reply, done_in, pinned, started, txn_opened}
use Rattle.cs_model.specs.Text.{IsPrintableKey, IsPrintableRefusal, IsPrintableReply}
use Rattle.statement_core.specs.Fit.{IsFitting, AreFitting, IsFitTxn, IsReadyHalf, IsFitState}

module _ (schema : Schema) where
  -- ---- one session's part

  set_fits : {A : Type 0} (P : A → Type 0) (f : ℕ → A) (i : ℕ) (x : A) → P x → ((s : ℕ) → P (f s)) → (s : ℕ) → P (with f i x s)
  set_fits P f i x p h s = at (s == i)
    where
      at : (t : Bool) → P (cond t x (f s))
      at true = p
      at false = h s

  fit_txn : (m : State) (i : ℕ) (o : Option Txn) → IsFitState schema m → IsFitTxn schema o → IsFitState schema (txn_set m i o)
  fit_txn m i o fit p = record { changes = fit.changes; txns = set_fits (IsFitTxn schema) m.txns i o p fit.txns; halves = fit.halves }

  pub fit_half : (m : State) (i : ℕ) (h : Option Half) → IsFitState schema m → IsReadyHalf schema h → IsFitState schema (half_set m i h)
  fit_half m i h fit p = record { changes = fit.changes; txns = fit.txns; halves = set_fits (IsReadyHalf schema) m.half i h p fit.halves }

  pub fit_gone : (m : State) (i : ℕ) → IsFitState schema m → IsFitState schema (gone m i)
  fit_gone m i fit = fit_txn m i None fit tt

  -- ---- edits and changes

  fit_numbered : (commit txn : ℕ) (edits : List Edit) → All (IsFitting schema) edits → AreFitting schema (numbered commit txn edits)
  fit_numbered commit txn edits fit = All-map (λ (change : Change). IsFitting schema change.edit) (λ edit. record { commit = commit; txn = txn; edit = edit }) edits fit

  fit_commits : (m : State) (i : ℕ) (txn : Txn) → IsFitState schema m → All (IsFitting schema) txn.own → IsFitState schema (commits m i txn)
  fit_commits m i txn fit own = at (is_empty txn.own)
    where
      at : (t : Bool) → IsFitState schema (cond t (gone m i) (record (gone m i) { changes = m.changes ++ numbered (m.clock + 1) txn.number txn.own; clock = m.clock + 1 }))
      at true = fit_gone m i fit
      at false = record {
        changes = All-append (λ (change : Change). IsFitting schema change.edit) m.changes (numbered (m.clock + 1) txn.number txn.own) fit.changes (fit_numbered (m.clock + 1) txn.number txn.own own);
        txns = (fit_gone m i fit).txns;
        halves = fit.halves;
      }

  insert_fits : (own : List Edit) (edit : Edit) → IsFitting schema edit → All (IsFitting schema) own → All (IsFitting schema) (insert_entry key_cmp own edit.0 edit.1)
  insert_fits [] edit p all = All-cons (IsFitting schema) edit [] p all
  insert_fits (e ∷ es) edit p all = at (key_cmp edit.0 e.0) refl (insert_fits es edit p (All-tail (IsFitting schema) e es all))
    where
      at : (r : Ordering) → key_cmp edit.0 e.0 ≡ r → All (IsFitting schema) (insert_entry key_cmp es edit.0 edit.1) → All (IsFitting schema) (match_ordering r ((edit.0, edit.1) ∷ e ∷ es) ((e.0, edit.1) ∷ es) (e ∷ insert_entry key_cmp es edit.0 edit.1))
      at Less is rest = All-cons (IsFitting schema) edit (e ∷ es) p all
      at Equal is rest = All-cons (IsFitting schema) (e.0, edit.1) es (subst (λ (key : Key). IsFitting schema (key, edit.1)) (exact_key edit.0 e.0 is) p) (All-tail (IsFitting schema) e es all)
      at Greater is rest = All-cons (IsFitting schema) e (insert_entry key_cmp es edit.0 edit.1) (All-head (IsFitting schema) e es all) rest

  fit_staged : (own edits : List Edit) → All (IsFitting schema) own → All (IsFitting schema) edits → All (IsFitting schema) (staged own edits)
  fit_staged own [] a b = a
  fit_staged own (edit ∷ edits) a b = fit_staged (insert_entry key_cmp own edit.0 edit.1) edits (insert_fits own edit (All-head (IsFitting schema) edit edits b) a) (All-tail (IsFitting schema) edit edits b)

  fit_settled : (m : State) (i : ℕ) (txn : Txn) → IsFitState schema m → All (IsFitting schema) txn.own → IsFitState schema (settled m i txn)
  fit_settled m i txn fit own = at (txn.depth == 0)
    where
      at : (t : Bool) → IsFitState schema (cond t (commits m i txn) (txn_set m i (Some txn)))
      at true = fit_commits m i txn fit own
      at false = fit_txn m i (Some txn) fit own

  fit_wrote : (m : State) (i : ℕ) (o : Option Txn) (edits : List Edit) → IsFitState schema m → IsFitTxn schema o → All (IsFitting schema) edits → IsFitState schema (wrote m i o edits)
  fit_wrote m i None edits fit p e = fit
  fit_wrote m i (Some txn) edits fit p e = fit_settled m i (record txn { own = staged txn.own edits }) fit (fit_staged txn.own edits p e)

  fit_refused : (m : State) (i : ℕ) (refusal : Refusal) → IsFitState schema m → IsFitState schema (refused m i refusal)
  fit_refused m i refusal fit = at (ends_txn (m.txns i) refusal)
    where
      at : (t : Bool) → IsFitState schema (cond t (gone m i) m)
      at true = fit_gone m i fit
      at false = fit

  fit_began : (m : State) (i : ℕ) (o : Option Txn) → IsFitState schema m → IsFitTxn schema o → IsFitState schema (began m i o)
  fit_began m i None fit p = record { changes = fit.changes; txns = set_fits (IsFitTxn schema) m.txns i _ (All-nil (IsFitting schema)) fit.txns; halves = fit.halves }
  fit_began m i (Some txn) fit p = fit_txn m i _ fit p

  fit_unwound : (m : State) (i : ℕ) (o : Option Txn) → IsFitState schema m → IsFitTxn schema o → IsFitState schema (unwound m i o)
  fit_unwound m i None fit p = fit
  fit_unwound m i (Some txn) fit p = at (nat_le txn.depth 1)
    where
      at : (t : Bool) → IsFitState schema (cond t (commits m i txn) (txn_set m i (Some (record txn { depth = txn.depth - 1 }))))
      at true = fit_commits m i txn fit p
      at false = fit_txn m i _ fit p

  fit_accepted : (m : State) (i : ℕ) (b : Bound) → IsFitState schema m → All (IsFitting schema) (writes_in schema m.changes (m.txns i) b) → IsFitState schema (accepted schema m i b)
  fit_accepted m i bound.Begin fit e = fit_began m i (m.txns i) fit (fit.txns i)
  fit_accepted m i bound.Commit fit e = fit_unwound m i (m.txns i) fit (fit.txns i)
  fit_accepted m i bound.Rollback fit e = fit_gone m i fit
  fit_accepted m i bound.Nothing fit e = fit
  fit_accepted m i (bound.Statistics on) fit e = record { changes = fit.changes; txns = fit.txns; halves = fit.halves }
  fit_accepted m i (bound.Insert plan) fit e = fit_wrote m i (m.txns i) _ fit (fit.txns i) e
  fit_accepted m i (bound.Update plan) fit e = fit_wrote m i (m.txns i) _ fit (fit.txns i) e
  fit_accepted m i (bound.Delete condition) fit e = fit_wrote m i (m.txns i) _ fit (fit.txns i) e
  fit_accepted m i (bound.Select query) fit e = fit_wrote m i (m.txns i) [] fit (fit.txns i) (All-nil (IsFitting schema))
  fit_accepted m i bound.GroupReport fit e = fit
  fit_accepted m i bound.SegmentReport fit e = fit
  fit_accepted m i (bound.Reorganize all) fit e = fit
  fit_accepted m i (bound.Refused refusal) fit e = fit

  -- what the statement writes fits the table, where it is not refused
  pub fit_replied : (m : State) (i : ℕ) (b : Bound) (r : Reply) → IsFitState schema m → ((found : Refusal) × (r ≡ reply.Refused found)) ⊎ All (IsFitting schema) (writes_in schema m.changes (m.txns i) b) → IsFitState schema (replied schema m i b r)
  fit_replied m i b r fit (inl e) = subst (λ x. IsFitState schema (replied schema m i b x)) (sym e.1) (fit_refused m i e.0 fit)
  fit_replied m i b reply.Done fit (inr e) = fit_accepted m i b fit e
  fit_replied m i b (reply.Affected count) fit (inr e) = fit_accepted m i b fit e
  fit_replied m i b (reply.Rows rows segments) fit (inr e) = fit_accepted m i b fit e
  fit_replied m i b (reply.Groups lines buffered) fit (inr e) = fit_accepted m i b fit e
  fit_replied m i b (reply.Segments lines) fit (inr e) = fit_accepted m i b fit e
  fit_replied m i b (reply.Left groups) fit (inr e) = fit_accepted m i b fit e
  fit_replied m i b (reply.Refused refusal) fit (inr e) = fit_refused m i refusal fit

  -- ---- replies

  pub refused_prints : (r : Reply) (refusal : Refusal) → r ≡ reply.Refused refusal → IsPrintableRefusal schema refusal → IsPrintableReply schema r
  refused_prints r refusal e p = subst (IsPrintableReply schema) (sym e) p

  reading_prints : (found : Refusal) → IsOfReading found → IsPrintableRefusal schema found
  reading_prints (refusal.Reading number at) p = tt
  reading_prints (refusal.Valued number row column) p = tt
  reading_prints (refusal.Locked key txn) p = absurd p
  reading_prints (refusal.Changed key txn commit) p = absurd p
  reading_prints (refusal.Duplicate key) p = absurd p
  reading_prints (refusal.NoTxn number) p = tt
  reading_prints refusal.Memory p = tt

  begin_prints : (o : Option Txn) → IsPrintableReply schema (begin_reply o)
  begin_prints None = tt
  begin_prints (Some txn) = at (nat_lt txn.depth 32)
    where
      at : (t : Bool) → IsPrintableReply schema (cond t reply.Done (reply.Refused (refusal.Reading 50001 1)))
      at true = tt
      at false = tt

  done_prints : (o : Option Txn) (number : ℕ) → IsPrintableReply schema (done_in o number)
  done_prints None number = tt
  done_prints (Some txn) number = tt

  groups_print : (r : Reply) → IsGroups r → IsPrintableReply schema r
  groups_print reply.Done h = tt
  groups_print (reply.Affected count) h = tt
  groups_print (reply.Rows rows segments) h = absurd h
  groups_print (reply.Groups lines buffered) h = tt
  groups_print (reply.Segments lines) h = absurd h
  groups_print (reply.Left groups) h = absurd h
  groups_print (reply.Refused refusal) h = absurd h

  left_print : (r : Reply) → IsLeft r → IsPrintableReply schema r
  left_print reply.Done h = tt
  left_print (reply.Affected count) h = tt
  left_print (reply.Rows rows segments) h = absurd h
  left_print (reply.Groups lines buffered) h = tt
  left_print (reply.Segments lines) h = absurd h
  left_print (reply.Left groups) h = tt
  left_print (reply.Refused refusal) h = absurd h

  -- the reply to a statement that is none of the table, where a report on segments prints
  pub plain_prints : (m : State) (i note : ℕ) (b : Bound) (r : Reply) → is_of_table b ≡ false → IsReady schema b → (b ≡ bound.SegmentReport → IsPrintableReply schema r) → IsReplyTo schema m i note b r → IsPrintableReply schema r
  plain_prints m i note bound.Begin r e p k h = subst (IsPrintableReply schema) (sym h) (begin_prints (m.txns i))
  plain_prints m i note bound.Commit r e p k h = subst (IsPrintableReply schema) (sym h) (done_prints (m.txns i) 3902)
  plain_prints m i note bound.Rollback r e p k h = subst (IsPrintableReply schema) (sym h) (done_prints (m.txns i) 3903)
  plain_prints m i note bound.Nothing r e p k h = subst (IsPrintableReply schema) (sym h) tt
  plain_prints m i note (bound.Statistics on) r e p k h = subst (IsPrintableReply schema) (sym h) tt
  plain_prints m i note (bound.Insert plan) r e p k h = absurd (cc e)
  plain_prints m i note (bound.Update plan) r e p k h = absurd (cc e)
  plain_prints m i note (bound.Delete condition) r e p k h = absurd (cc e)
  plain_prints m i note (bound.Select query) r e p k h = absurd (cc e)
  plain_prints m i note bound.GroupReport r e p k h = groups_print r h
  plain_prints m i note bound.SegmentReport r e p k h = k refl
  plain_prints m i note (bound.Reorganize all) r e p k h = left_print r h
  plain_prints m i note (bound.Refused refusal) r e p k h = refused_prints r refusal h (reading_prints refusal p)

  keys_fit : (edits : List Edit) → All (IsFit schema) edits → All (IsPrintableKey schema) (keys_of edits)
  keys_fit [] all = All-nil (IsPrintableKey schema)
  keys_fit (e ∷ es) all = All-cons (IsPrintableKey schema) e.0 (keys_of es) (All-head (IsFit schema) e es all).0 (keys_fit es (All-tail (IsFit schema) e es all))

  obstacle_prints : (m : State) (i : ℕ) (snapshot : Option ℕ) (present : Key → Bool) (key : Key) (found : Refusal) → IsPrintableKey schema key → IsObstacle m i snapshot present key (Some found) → IsPrintableRefusal schema found
  obstacle_prints m i snapshot present key (refusal.Locked k txn) p h = subst (IsPrintableKey schema) (sym h.0) p
  obstacle_prints m i snapshot present key (refusal.Changed k txn commit) p h = subst (IsPrintableKey schema) (sym h.0) p
  obstacle_prints m i snapshot present key (refusal.Duplicate k) p h = subst (IsPrintableKey schema) (sym h.0) p
  obstacle_prints m i snapshot present key (refusal.Reading number at) p h = tt
  obstacle_prints m i snapshot present key (refusal.Valued number row column) p h = tt
  obstacle_prints m i snapshot present key (refusal.NoTxn number) p h = tt
  obstacle_prints m i snapshot present key refusal.Memory p h = tt

  -- the obstacle of a write whose edits fit the table
  pub judged_prints : (m : State) (i : ℕ) (snapshot : Option ℕ) (present : Key → Bool) (edits : List Edit) (found : Refusal) → All (IsFit schema) edits → IsJudged (IsObstacle m i snapshot present) (keys_of edits) (Some found) → IsPrintableRefusal schema found
  judged_prints m i snapshot present edits found fit h =
      obstacle_prints m i snapshot present h.key found (All-contains (IsPrintableKey schema) (keys_of edits) h.key (keys_fit edits fit) h.listed) h.is

  -- ---- a Start

  opened_fits : (o : Option Txn) (next : ℕ) → IsFitTxn schema o → All (IsFitting schema) (txn_opened o next).own
  opened_fits None next p = All-nil (IsFitting schema)
  opened_fits (Some txn) next p = p

  pinned_fits : (m : State) (i : ℕ) (short : Bool) → IsFitState schema m → IsFitState schema (pinned m i short)
  pinned_fits m i short fit = record { changes = fit.changes; txns = set_fits (IsFitTxn schema) m.txns i _ (opened_fits (m.txns i) m.next (fit.txns i)) fit.txns; halves = fit.halves }

  pub started_fits : (m : State) (i : ℕ) (b : Bound) (short : Bool) → IsFitState schema m → IsReady schema b → (short ≡ true → is_of_table b ≡ true) → IsFitState schema (started m i b short)
  started_fits m i b short fit ready why = fit_half _ i (Some (half_of m b short)) (at (is_of_table b)) (ready, why)
    where
      at : (t : Bool) → IsFitState schema (cond t (pinned m i short) m)
      at true = pinned_fits m i short fit
      at false = fit
