-- What is written of rows that are put at their keys.
use Rattle.std.proofs.Common.{◌≡◌, ◌≢◌, ℕ, ◌-◌, Bool, true, false, ◌||◌, cond, List, [], ◌∷◌, ◌++◌, length, filter, refl, sym, ap, ◌∙◌, subst, true≢false}
use Rattle.std.specs.Prelude.{slice_get}
use Rattle.std.specs.declared.cmp.Ordering.TheVariants.{Less}
use Rattle.std.specs.List.{All, AllByRecursion, Contains}
use Rattle.std.specs.List.Sorted.{IsPermutation}
use Rattle.std.specs.Map.{keys_of}
use Rattle.std.proofs.lemmas.List.{append-nil, map-append}
use Rattle.std.proofs.lemmas.List.Elements.{filter-append, recursion_from_All, All-nil, All-push}
use Rattle.std.proofs.lemmas.List.Sorted.{length_permutation}
use Rattle.cs_types.specs.declared.Key.{Key}
use Rattle.cs_types.specs.Keys.{key_cmp}
use Rattle.cs_model.specs.Changes.{Edit, Table}
use Rattle.cs_model.specs.Obstacles.{has_row, stands_twice}
use Rattle.cs_model.specs.Obstacles as obstacles
use Rattle.write_set.specs.declared.write.Write.{Write}
use Rattle.edit_laws.specs.Edits.{edit_of, edits_of}
use Rattle.group_view.specs.declared.view.Pinned.{Pinned}
use Rattle.row_work.specs.Inserts.{Put, is_double, is_of, noted, put_keys, puts_as_edits, ArePuts, AreInserted, AreJudged}
use Rattle.row_work.specs.Keyed.{would_stand_twice, Replaces}
use Rattle.write_set.specs.Writes.{write_keys}
use Rattle.row_work.specs.Reads.{read_by, shown_by}
use Rattle.row_work.proofs.Kept.{ascend_by, edit_keys}
use Rattle.row_work.proofs.Puts.{ends_at, ends_with, mark_last, marked_edits, no_puts, noted_last, permuted, put_again, put_behind}

turned : (a b : Bool) → (a || b) ≡ (b || a)
turned true true = refl
turned true false = refl
turned false true = refl
turned false false = refl

put_edit_keys : (puts : List Put) → keys_of (puts_as_edits puts) ≡ put_keys puts
put_edit_keys [] = refl
put_edit_keys (p ∷ puts) = ap (λ (keys : List Key). p.key ∷ keys) (put_edit_keys puts)

module _ (width : ℕ) (pinned : Pinned) (edits : List Edit) where
  double_keys : (puts : List Put) → AllByRecursion (λ (p : Put). p.twice ≡ stands_twice (obstacles.keys_of edits) p.key) puts → put_keys (filter (is_double (read_by width pinned)) puts) ≡ filter (would_stand_twice width pinned edits) (put_keys puts)
  double_keys [] all = refl
  double_keys (p ∷ puts) all =
      step (is_double (read_by width pinned) p) (would_stand_twice width pinned edits p.key)
      (ap (λ t. t || has_row (read_by width pinned) p.key) all.0 ∙ turned (stands_twice (obstacles.keys_of edits) p.key) (has_row (read_by width pinned) p.key)) (double_keys puts all.1)
    where
      step : (t u : Bool) → t ≡ u → put_keys (filter (is_double (read_by width pinned)) puts) ≡ filter (would_stand_twice width pinned edits) (put_keys puts)
          → put_keys (cond t (p ∷ filter (is_double (read_by width pinned)) puts) (filter (is_double (read_by width pinned)) puts)) ≡ cond u (p.key ∷ filter (would_stand_twice width pinned edits) (put_keys puts)) (filter (would_stand_twice width pinned edits) (put_keys puts))
      step true true same rest = ap (λ (keys : List Key). p.key ∷ keys) rest
      step false false same rest = rest
      step true false same rest = absurd (true≢false same)
      step false true same rest = absurd (true≢false (sym same))

  inserted_are : (puts : List Put) (writes : List Write) (present : List Key) (count : ℕ) → ArePuts edits puts → edits_of writes ≡ puts_as_edits puts → present ≡ put_keys (filter (is_double (read_by width pinned)) puts)
      → All (Replaces width pinned) writes → count ≡ length edits → AreInserted width pinned edits writes present count
  inserted_are puts writes present count are made doubles replaces affected =
      let keys : write_keys writes ≡ put_keys puts = edit_keys writes ∙ ap keys_of made ∙ put_edit_keys puts in
      record {
        keyed = record {
          order = ascend_by writes (put_keys puts) keys are.order;
          each = subst (All (Contains edits)) (sym made) are.each;
          every = subst (λ (list : List Key). All (λ (edit : Edit). Contains list edit.0) edits) (sym keys) are.every;
        };
        replaces = replaces;
        present =
            doubles ∙ double_keys puts (recursion_from_All (λ (p : Put). p.twice ≡ stands_twice (obstacles.keys_of edits) p.key) puts are.twice)
            ∙ ap (filter (would_stand_twice width pinned edits)) (sym keys);
        affected = affected;
      }

-- ---- one row more

made_more : (writes new : List Write) (puts : List Put) (put : Put) (replaces : Bool) → edits_of writes ≡ puts_as_edits puts → new ≡ writes ++ record { key = put.key; row = put.row; replaces = replaces } ∷ []
    → edits_of new ≡ puts_as_edits (puts ++ put ∷ [])
made_more writes new puts put replaces made pushed =
    let write : Write = record { key = put.key; row = put.row; replaces = replaces } in
    ap edits_of pushed ∙ map-append edit_of writes (write ∷ []) ∙ ap (λ l. l ++ edit_of write ∷ []) made ∙ sym (map-append (λ (p : Put). (p.key, p.row)) puts (put ∷ []))

doubles_more : (table : Table) (puts : List Put) (put : Put) → put_keys (filter (is_double table) (puts ++ put ∷ [])) ≡ put_keys (filter (is_double table) puts) ++ put_keys (cond (is_double table put) (put ∷ []) [])
doubles_more table puts put = ap put_keys (filter-append (is_double table) puts (put ∷ [])) ∙ map-append (λ (p : Put). p.key) (filter (is_double table) puts) (filter (is_double table) (put ∷ []))

key_kept : (put : Put) (t : Bool) → cond t (put.key ∷ []) [] ≡ put_keys (cond t (put ∷ []) [])
key_kept put true = refl
key_kept put false = refl

appended_where : (present : List Key) (key : Key) (here : Bool) → cond here (present ++ key ∷ []) present ≡ present ++ cond here (key ∷ []) []
appended_where present key true = refl
appended_where present key false = sym (append-nil present)

module _ (pinned : Pinned) (edits : List Edit) (writes : List Write) (present : List Key) (write : Write) (judged : AreJudged pinned edits writes present) (above : All (λ (edit : Edit). key_cmp write.key edit.0 ≢ Less) edits) where
  ends : (t : Bool) → is_of write.key (slice_get writes (length writes - 1)) ≡ t → ends_with write.key (put_keys judged.puts) ≡ t
  ends t is =
      ap (ends_with write.key) (sym (edit_keys writes ∙ ap keys_of judged.made ∙ put_edit_keys judged.puts)) ∙ sym (ends_at write.key writes) ∙ is

  -- another row of the last key
  pub judged_again : (new : List Key) → is_of write.key (slice_get writes (length writes - 1)) ≡ true → new ≡ noted write.key present → AreJudged pinned (edits ++ edit_of write ∷ []) writes new
  judged_again new last is = record {
    puts = mark_last judged.puts;
    are = put_again edits judged.puts write.key write.row judged.are above (ends true last);
    made = judged.made ∙ sym (marked_edits judged.puts);
    replaces = judged.replaces;
    present = λ width. is ∙ ap (noted write.key) (judged.present width) ∙ sym (noted_last (read_by width pinned) write.key judged.puts judged.are.order (ends true last));
  }

  -- a row of a greater key
  pub judged_more : (more : List Write) (new : List Key) (replaces here : Bool) → is_of write.key (slice_get writes (length writes - 1)) ≡ false → more ≡ writes ++ record { key = write.key; row = write.row; replaces = replaces } ∷ []
      → ((width : ℕ) → replaces ≡ has_row (shown_by width pinned) write.key) → ((width : ℕ) → here ≡ has_row (read_by width pinned) write.key) → new ≡ cond here (present ++ write.key ∷ []) present
      → AreJudged pinned (edits ++ edit_of write ∷ []) more new
  judged_more more new replaces here apart pushed shown read is =
      let put : Put = record { key = write.key; row = write.row; twice = false } in
      record {
        puts = judged.puts ++ put ∷ [];
        are = put_behind edits judged.puts write.key write.row judged.are above (ends false apart);
        made = made_more writes more judged.puts put replaces judged.made pushed;
        replaces = λ width. subst (All (Replaces width pinned)) (sym pushed) (All-push (Replaces width pinned) writes (record { key = write.key; row = write.row; replaces = replaces }) (judged.replaces width) (shown width));
        present = λ width.
            let table = read_by width pinned in
            is ∙ appended_where present write.key here
            ∙ ap (λ (t : Bool). present ++ cond t (write.key ∷ []) []) (read width)
            ∙ ap (λ (keys : List Key). keys ++ cond (has_row table write.key) (write.key ∷ []) []) (judged.present width)
            ∙ ap (λ (keys : List Key). put_keys (filter (is_double table) judged.puts) ++ keys) (key_kept put (has_row table write.key)) ∙ sym (doubles_more table judged.puts put);
      }

-- no row yet
pub none_judged : (pinned : Pinned) → AreJudged pinned [] [] []
none_judged pinned = record {
  puts = [];
  are = no_puts;
  made = refl;
  replaces = λ width. All-nil (Replaces width pinned);
  present = λ width. refl;
}

-- all rows: what is written of them, in any order of the edits
pub all_judged : (width : ℕ) (pinned : Pinned) (edits others : List Edit) (writes : List Write) (present : List Key) (count : ℕ) → IsPermutation edits others → AreJudged pinned edits writes present → count ≡ length edits
    → AreInserted width pinned others writes present count
all_judged width pinned edits others writes present count moved judged affected =
    inserted_are width pinned others judged.puts writes present count (permuted edits others judged.puts moved judged.are) judged.made (judged.present width) (judged.replaces width)
    (affected ∙ sym (length_permutation edits others moved))
