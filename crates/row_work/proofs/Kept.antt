-- Writes by the keys of what was chosen.
use Rattle.std.proofs.Common.{◌≡◌, ℕ, zero, suc, ◌+◌, ◌<◌, Bool, List, [], ◌∷◌, ◌++◌, length, get_or, take, map, refl, sym, ap, ◌∙◌, subst, append_assoc, arith}
use Rattle.std.specs.Prelude.{Option, None, Some, IsSome, Result}
use Rattle.std.specs.List.{All, Contains}
use Rattle.std.specs.Map.{keys_of}
use Rattle.std.specs.List.Sorted.{IsStrictlySortedBy}
use Rattle.std.proofs.lemmas.List.{get_or-map, length-map, map-append}
use Rattle.std.specs.Option.{option_to_list}
use Rattle.std.proofs.lemmas.List.Elements.{All-contains_itself, All-cons, All-nil}
use Rattle.std.proofs.lemmas.Map.Keys.{Less-from_sorted}
use Rattle.std.proofs.lemmas.Option.{slice_get_read}
use Rattle.edit_laws.proofs.Lists.{take_next}
use Rattle.cs_types.specs.declared.Key.{Key}
use Rattle.cs_types.specs.declared.Value.{Value}
use Rattle.cs_types.specs.Keys.{key_cmp}
use Rattle.cs_types.specs.declared.Schema.{Schema}
use Rattle.cs_types.specs.Rows.{key_in}
use Rattle.cs_model.specs.Answers as spec
use Rattle.cs_model.specs.Changes.{Edit, Table}
use Rattle.write_set.specs.declared.write.Write.{Write}
use Rattle.write_set.specs.Writes.{Ascend, write_keys}
use Rattle.edit_laws.specs.Edits.{edit_of, edits_of}
use Rattle.group_view.specs.declared.view.Pinned.{Pinned}
use Rattle.row_work.specs.declared.choose.Chosen.{Chosen}
use Rattle.row_work.specs.declared.refusal.WriteRefusal.{WriteRefusal}
use Rattle.row_work.specs.declared.refusal.WriteRefusal.TheVariants as refusal
use Rattle.row_work.specs.Gives.{RefusesRow}
use Rattle.row_work.specs.Sources.{chosen_edit, row_of, rows_as_edits}

-- writes whose keys ascend are in order
pub ascend_by : (writes : List Write) (keys : List Key) → write_keys writes ≡ keys → IsStrictlySortedBy key_cmp keys → Ascend writes
ascend_by writes keys same up i j d less inside =
    let key = λ (write : Write). write.key in
    let low = get_or-map key writes i d d.key (omega (arith, less, inside)) in
    let high = get_or-map key writes j d d.key inside in
    let sorted = Less-from_sorted key_cmp (write_keys writes) i j d.key (subst (IsStrictlySortedBy key_cmp) (sym same) up) less (omega (arith, inside, length-map writes key)) in
    ap (λ (k : Key). key_cmp k (get_or writes j d).key) (sym low) ∙ ap (key_cmp (get_or (write_keys writes) i d.key)) (sym high) ∙ sorted

-- the key of each write's edit is one of their keys
each_key : (list : List Write) (keys : List Key) → All (Contains keys) (write_keys list) → All (λ (edit : Edit). Contains keys edit.0) (edits_of list)
each_key [] keys all = All-nil (λ (edit : Edit). Contains keys edit.0)
each_key (w ∷ list) keys all =
    All-cons (λ (edit : Edit). Contains keys edit.0) (edit_of w) (edits_of list) (all 0 w.key (omega arith)) (each_key list keys (λ i d there. all (suc i) d (omega (arith, there))))

pub every_key : (list : List Write) → All (λ (edit : Edit). Contains (write_keys list) edit.0) (edits_of list)
every_key list = each_key list (write_keys list) (All-contains_itself (write_keys list))

-- the keys of edits, and of what was chosen
pub edit_keys : (writes : List Write) → write_keys writes ≡ keys_of (edits_of writes)
edit_keys [] = refl
edit_keys (w ∷ writes) = ap (λ (keys : List Key). w.key ∷ keys) (edit_keys writes)

pub row_keys : (rows : Table) → keys_of (rows_as_edits rows) ≡ keys_of rows
row_keys [] = refl
row_keys (e ∷ rows) = ap (λ (keys : List Key). e.0 ∷ keys) (row_keys rows)

module _ (width : ℕ) (pinned : Pinned) where
  chosen_keys : (list : List Chosen) → map (λ (one : Chosen). one.key) list ≡ keys_of (map (chosen_edit width pinned) list)
  chosen_keys [] = refl
  chosen_keys (one ∷ list) = ap (λ (keys : List Key). one.key ∷ keys) (chosen_keys list)

  pub keys_chosen : (list : List Chosen) (rows : Table) → map (chosen_edit width pinned) list ≡ rows_as_edits rows → map (λ (one : Chosen). one.key) list ≡ keys_of rows
  keys_chosen list rows is = chosen_keys list ∙ ap keys_of is ∙ row_keys rows

  -- each stands where it has its row
  same_heads : {X : Type 0} (x y : X) (xs ys : List X) → x ∷ xs ≡ y ∷ ys → (x ≡ y) × (xs ≡ ys)
  same_heads x y xs ys is = (cc, cc)

  pub stands_at : (list : List Chosen) (rows : Table) (k : ℕ) (d : Chosen) → map (chosen_edit width pinned) list ≡ rows_as_edits rows → k < length list
      → (entry : Key × List Value) × (k < length rows) × (entry ≡ get_or rows k entry) × (chosen_edit width pinned (get_or list k d) ≡ (entry.0, Some entry.1))
  stands_at [] rows k d is inside = absurd (omega (arith, inside))
  stands_at (one ∷ list) [] k d is inside = cc
  stands_at (one ∷ list) (e ∷ rows) zero d is inside =
      (e, omega arith, refl, (same_heads (chosen_edit width pinned one) (e.0, Some e.1) (map (chosen_edit width pinned) list) (rows_as_edits rows) is).0)
  stands_at (one ∷ list) (e ∷ rows) (suc k) d is inside =
      let rest = stands_at list rows k d (same_heads (chosen_edit width pinned one) (e.0, Some e.1) (map (chosen_edit width pinned) list) (rows_as_edits rows) is).1 (omega (arith, inside)) in
      (rest.0, omega (arith, rest.1), rest.2, rest.3)

  some_there : (o : Option (List Value)) (row : List Value) → o ≡ Some row → IsSome o
  some_there None row is = cc
  some_there (Some r) row is = refl

  pub each_there : (list : List Chosen) (rows : Table) → map (chosen_edit width pinned) list ≡ rows_as_edits rows → All (λ (one : Chosen). IsSome (row_of width pinned one.source)) list
  each_there list rows is k d inside =
      let found = stands_at list rows k d is inside in
      some_there (row_of width pinned (get_or list k d).source) found.0.1 (ap (λ (edit : Edit). edit.1) found.3)

-- ---- keys that a DELETE takes away

abbrev pub without_rows : Table → List Edit
without_rows rows = map (λ (entry : Key × List Value). (entry.0, None)) rows

pub gone_keys : (rows : Table) → keys_of (without_rows rows) ≡ keys_of rows
gone_keys [] = refl
gone_keys (e ∷ rows) = ap (λ (keys : List Key). e.0 ∷ keys) (gone_keys rows)

abbrev gone : Key → Edit
gone key = (key, None)

gone_chosen : (list : List Chosen) → map (λ (one : Chosen). (one.key, None)) list ≡ map gone (map (λ (one : Chosen). one.key) list)
gone_chosen [] = refl
gone_chosen (one ∷ list) = ap (λ (l : List Edit). (one.key, None) ∷ l) (gone_chosen list)

gone_rows : (rows : Table) → map gone (keys_of rows) ≡ without_rows rows
gone_rows [] = refl
gone_rows (e ∷ rows) = ap (λ (l : List Edit). (e.0, None) ∷ l) (gone_rows rows)

pub gone_of : (width : ℕ) (pinned : Pinned) (list : List Chosen) (rows : Table) → map (chosen_edit width pinned) list ≡ rows_as_edits rows → map (λ (one : Chosen). (one.key, None)) list ≡ without_rows rows
gone_of width pinned list rows is = gone_chosen list ∙ ap (map gone) (keys_chosen width pinned list rows is) ∙ gone_rows rows

-- ---- refusals of a row

pub refused_at : (n : ℕ) (key : Key) (wanted : Result (List Value) (ℕ × ℕ)) (e : WriteRefusal) → RefusesRow n wanted e → RefusesRow n (spec.at_key key wanted) e
refused_at n key wanted (refusal.Value number row column) h = (ap (spec.at_key key) h.0, h.1)
refused_at n key wanted refusal.Memory h = tt

-- ---- one write more

pub keys_more : (writes new : List Write) (list : List Chosen) (i : ℕ) (one : Chosen) (row : Option (List Value)) (replaces : Bool) → i < length list → one ≡ get_or list i one
    → new ≡ writes ++ record { key = one.key; row = row; replaces = replaces } ∷ [] → write_keys writes ≡ map (λ (c : Chosen). c.key) (take i list) → write_keys new ≡ map (λ (c : Chosen). c.key) (take (i + 1) list)
keys_more writes new list i one row replaces below is pushed before =
    let key = λ (c : Chosen). c.key in
    let next : i + 1 ≡ suc i = omega arith in
    let write : Write = record { key = one.key; row = row; replaces = replaces } in
    ap write_keys pushed ∙ map-append (λ (w : Write). w.key) writes (write ∷ []) ∙ ap (λ l. l ++ one.key ∷ []) before ∙ sym (map-append key (take i list) (one ∷ []))
    ∙ ap (λ o. map key (take i list ++ option_to_list o)) (sym (slice_get_read list (length list) i one refl below is)) ∙ sym (ap (map key) (take_next list i)) ∙ ap (λ k. map key (take k list)) (sym next)
