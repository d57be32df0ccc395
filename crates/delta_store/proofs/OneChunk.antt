-- What a change does to one chunk.
use Rattle.std.proofs.Common.{◌≡◌, ℕ, ◌+◌, ◌-◌, true, false, All, List, [], ◌++◌, map, length, set, slice_get, refl, sym, ap, ◌∙◌, arith}
use Rattle.std.proofs.lemmas.List.{append-nil, set-append_right}
use Rattle.std.proofs.lemmas.List.Elements.{All-map, All-same}
use Rattle.delta_store.specs.declared.chunk.Chunk.{Chunk}
use Rattle.delta_store.specs.declared.version.LinkedVersion.{LinkedVersion}
use Rattle.delta_store.specs.Chunks.{shared_in, versions_in, owns_in, own_from}
use Rattle.delta_store.proofs.Parts.{get_behind}

-- ---- the version at a place

pub get-own : (c : Chunk) (at past : ℕ) → own_from c + past ≡ at → slice_get (versions_in c) at ≡ slice_get c.own.items past
get-own c at past place = get_behind (shared_in c.pieces) c.own.items at past (sym place)

-- an own version written over is written over in its chunk
pub set-own : (xs ys : List LinkedVersion) (at past : ℕ) (v : LinkedVersion) → length xs + past ≡ at → xs ++ set ys past v ≡ set (xs ++ ys) at v
set-own xs ys at past v place =
    let same : past ≡ at - length xs = omega arith in
    ap (λ n. xs ++ set ys n v) same ∙ sym (set-append_right xs ys (length xs) at v refl (omega arith))

-- ---- versions that are shared

-- where a chunk has nothing own, no version of it is
pub none_own : (c : Chunk) → c.own.items ≡ [] → All (λ own. own ≡ false) (owns_in c)
none_own c none =
    All-same (λ own. own ≡ false) (owns_in c) (map (λ (v : LinkedVersion). false) (shared_in c.pieces)) (ap (λ ys. map (λ (v : LinkedVersion). false) (shared_in c.pieces) ++ map (λ (v : LinkedVersion). true) ys) none ∙ append-nil (map (λ (v : LinkedVersion). false) (shared_in c.pieces))) (All-map (λ own. own ≡ false) (λ (v : LinkedVersion). false) (shared_in c.pieces) (λ k d below. refl))
