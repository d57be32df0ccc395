-- The runs of an index, the newest first.
use Rattle.std.proofs.Common.{◌≡◌, ℕ, ◌+◌, ◌-◌, ◌<◌, ◌≤◌, List, [], ◌∷◌, ◌++◌, map, length, get_or, set, take, sym, ap, ◌∙◌, append_assoc, arith}
use Rattle.std.specs.declared.alloc.Global.{Global}
use Rattle.std.specs.declared.sync.Arc.{Arc}
use Rattle.std.specs.Option.{option_or}
use Rattle.std.proofs.lemmas.List.{append-nil, get_or-map, length-map, map-append, take_all, take_more, take_more_set}
use Rattle.cs_types.specs.declared.Key.{Key}
use Rattle.delta_store.specs.declared.run.Run.{Run}
use Rattle.delta_store.specs.Index.{Index, place_in, newest_first, HaveSamePlaces}
use Rattle.delta_store.specs.Runs.{pairs_in, pairs_of}
use Rattle.delta_store.proofs.Pairs.{place_in-append, same-front}

-- the pairs of a run after the others come first
newest_first-push : (runs : List (List (Key × ℕ))) (run : List (Key × ℕ)) → newest_first (runs ++ run ∷ []) ≡ run ++ newest_first runs
newest_first-push [] run = sym (append-nil run)
newest_first-push (older ∷ runs) run = ap (λ l. l ++ older) (newest_first-push runs run) ∙ append_assoc run (newest_first runs) older

pub pairs_of-push : (runs : List (Arc Run Global)) (run : Arc Run Global) → pairs_of (runs ++ run ∷ []) ≡ pairs_in run ++ pairs_of runs
pairs_of-push runs run = ap newest_first (map-append pairs_in runs (run ∷ [])) ∙ newest_first-push (map pairs_in runs) (pairs_in run)

-- of the first runs the last one is the newest
pub pairs_of-take : (runs : List (Arc Run Global)) (i : ℕ) (d : Arc Run Global) → i < length runs → pairs_of (take (i + 1) runs) ≡ pairs_in (get_or runs i d) ++ pairs_of (take i runs)
pairs_of-take runs i d there = ap pairs_of (take_more runs i d there) ∙ pairs_of-push (take i runs) (get_or runs i d)

-- a key has its place in the newest of the first runs, or in those before it
pub newest-place : (runs : List (Arc Run Global)) (n : ℕ) (key : Key) (run : Arc Run Global) (held : Index) → 0 < n → n ≤ length runs → run ≡ get_or runs (n - 1) run → held ≡ run.value → place_in (pairs_of (take n runs)) key ≡ option_or (place_in held.pairs key) (place_in (pairs_of (take (n - 1) runs)) key)
newest-place runs n key run held some within is held_is =
    ap (λ i. place_in (pairs_of (take i runs)) key) last
    ∙ ap (λ l. place_in l key) (pairs_of-take runs (n - 1) run (omega arith) ∙ ap (λ r. pairs_in r ++ pairs_of (take (n - 1) runs)) (sym is))
    ∙ place_in-append (pairs_in run) (pairs_of (take (n - 1) runs)) key
    ∙ ap (λ (h : Index). option_or (place_in h.pairs key) (place_in (pairs_of (take (n - 1) runs)) key)) (sym held_is)
  where
    last : n ≡ n - 1 + 1
    last = omega arith

-- one run more is shared
pub shared-more : (runs shared : List (Arc Run Global)) (i : ℕ) (run other : Arc Run Global) → i < length runs → run ≡ get_or runs i run → other.value ≡ run.value → map pairs_in shared ≡ take i (map pairs_in runs) → map pairs_in (shared ++ other ∷ []) ≡ take (i + 1) (map pairs_in runs)
shared-more runs shared i run other there is same so_far =
    map-append pairs_in shared (other ∷ [])
    ∙ ap (λ ps. ps ++ pairs_in other ∷ []) so_far
    ∙ ap (λ p. take i (map pairs_in runs) ++ p ∷ []) (ap (λ (h : Index). h.pairs) same ∙ ap pairs_in is ∙ sym (get_or-map pairs_in runs i run [] there))
    ∙ sym (take_more (map pairs_in runs) i [] (omega (arith, there, length-map runs pairs_in)))

-- where a run takes the place of the two newest ones and has the places of both, all places are as before
pub merged-last : (runs : List (Arc Run Global)) (last before : ℕ) (newer older merged : Arc Run Global) → length runs ≡ last + 1 → last ≡ before + 1 → newer ≡ get_or runs last newer → older ≡ get_or runs before older → HaveSamePlaces (pairs_in newer ++ pairs_in older) (pairs_in merged) → HaveSamePlaces (pairs_of runs) (pairs_of (take last (set runs before merged)))
merged-last runs last before newer older merged long next newer_is older_is same q =
    ap (λ l. place_in l q) new
    ∙ same-front (pairs_in newer ++ pairs_in older) (pairs_in merged) (pairs_of (take before runs)) same q
    ∙ sym (ap (λ l. place_in l q) old)
  where
    new : pairs_of (take last (set runs before merged)) ≡ pairs_in merged ++ pairs_of (take before runs)
    new =
        ap (λ i. pairs_of (take i (set runs before merged))) next
        ∙ ap pairs_of (take_more_set runs before merged (omega (arith, long, next)))
        ∙ pairs_of-push (take before runs) merged

    old : pairs_of runs ≡ (pairs_in newer ++ pairs_in older) ++ pairs_of (take before runs)
    old =
        ap pairs_of (sym (take_all (last + 1) runs (omega (arith, long))))
        ∙ pairs_of-take runs last newer (omega (arith, long))
        ∙ ap (λ run. pairs_in run ++ pairs_of (take last runs)) (sym newer_is)
        ∙ ap (λ i. pairs_in newer ++ pairs_of (take i runs)) next
        ∙ ap (λ l. pairs_in newer ++ l) (pairs_of-take runs before older (omega (arith, long, next)) ∙ ap (λ run. pairs_in run ++ pairs_of (take before runs)) (sym older_is))
        ∙ sym (append_assoc (pairs_in newer) (pairs_in older) (pairs_of (take before runs)))
