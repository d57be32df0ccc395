-- The keys of a commit, by what its own writes say.
use Rattle.std.proofs.Common.{◌≡◌, ℕ, Bool, true, false, cond, List, [], ◌∷◌, map, filter, is_some, refl, sym, ap, ◌∙◌}
use Rattle.std.specs.List.{AllByRecursion}
use Rattle.std.specs.List.Sorted.{IsStrictlySortedBy}
use Rattle.std.specs.declared.cmp.Ordering.TheVariants.{Less}
use Rattle.std.proofs.lemmas.List.Elements.{recursion_from_All}
use Rattle.cs_types.specs.Keys.{key_cmp}
use Rattle.write_set.specs.Writes.{Ascend}
use Rattle.write_set.proofs.Puts.{head, tail}
use Rattle.cs_types.specs.declared.Key.{Key}
use Rattle.cs_model.specs.Changes.{Edit, Change}
use Rattle.cs_model.specs.Obstacles.{keys_of}
use Rattle.edit_laws.specs.Edits.{edits_of}
use Rattle.write_set.specs.declared.write.Write.{Write}
use Rattle.group_book.specs.Commits.{is_in_table, replaced_by, inserted_by}

pub keys_are : (own : List Write) → keys_of (edits_of own) ≡ map (λ (write : Write). write.key) own
keys_are [] = refl
keys_are (w ∷ own) = ap (λ (keys : List Key). w.key ∷ keys) (keys_are own)

pub replaced_are : (changes : List Change) (clock : ℕ) (own : List Write) → AllByRecursion (λ (write : Write). write.replaces ≡ is_in_table changes clock write.key) own
    → replaced_by changes clock (edits_of own) ≡ map (λ (write : Write). write.key) (filter (λ (write : Write). write.replaces) own)
replaced_are changes clock [] says = refl
replaced_are changes clock (w ∷ own) says =
    ap (λ (t : Bool). cond t (w.key ∷ replaced_by changes clock (edits_of own)) (replaced_by changes clock (edits_of own))) (sym says.0)
    ∙ at w.replaces (replaced_are changes clock own says.1)
  where
    at : (t : Bool) → replaced_by changes clock (edits_of own) ≡ map (λ (write : Write). write.key) (filter (λ (write : Write). write.replaces) own)
        → cond t (w.key ∷ replaced_by changes clock (edits_of own)) (replaced_by changes clock (edits_of own)) ≡ map (λ (write : Write). write.key) (cond t (w ∷ filter (λ (write : Write). write.replaces) own) (filter (λ (write : Write). write.replaces) own))
    at true rest = ap (λ (keys : List Key). w.key ∷ keys) rest
    at false rest = rest

pub inserted_are : (own : List Write) → inserted_by (edits_of own) ≡ map (λ (write : Write). write.key) (filter (λ (write : Write). is_some write.row) own)
inserted_are [] = refl
inserted_are (w ∷ own) = at (is_some w.row) (inserted_are own)
  where
    at : (t : Bool) → inserted_by (edits_of own) ≡ map (λ (write : Write). write.key) (filter (λ (write : Write). is_some write.row) own)
        → map (λ (edit : Edit). edit.0) (cond t ((w.key, w.row) ∷ filter (λ (edit : Edit). is_some edit.1) (edits_of own)) (filter (λ (edit : Edit). is_some edit.1) (edits_of own)))
        ≡ map (λ (write : Write). write.key) (cond t (w ∷ filter (λ (write : Write). is_some write.row) own) (filter (λ (write : Write). is_some write.row) own))
    at true rest = ap (λ (keys : List Key). w.key ∷ keys) rest
    at false rest = rest

-- own writes stand by key
sorted_step : (key : Key) (own : List Write) → AllByRecursion (λ (write : Write). key_cmp key write.key ≡ Less) own → AllByRecursion (λ (other : Key). key_cmp key other ≡ Less) (keys_of (edits_of own))
sorted_step key [] all = tt
sorted_step key (w ∷ own) all = (all.0, sorted_step key own all.1)

pub sorted_keys : (own : List Write) → Ascend own → IsStrictlySortedBy key_cmp (keys_of (edits_of own))
unfolding IsStrictlySortedBy
sorted_keys [] up = tt
sorted_keys (w ∷ own) up = (sorted_step w.key own (recursion_from_All (λ (write : Write). key_cmp w.key write.key ≡ Less) own (head w own up)), sorted_keys own (tail w own up))
