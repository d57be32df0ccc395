-- The versions of pieces, one after another.
use Rattle.std.proofs.Common.{◌≡◌, ℕ, ◌+◌, ◌<◌, List, [], ◌∷◌, ◌++◌, length, get_or, take, drop, slice_get, sym, ap, ◌∙◌, arith, length-append}
use Rattle.std.specs.declared.alloc.Global.{Global}
use Rattle.std.specs.declared.sync.Arc.{Arc}
use Rattle.std.specs.declared.vec.Vec.{Vec}
use Rattle.std.proofs.lemmas.List.{append-nil, take_more, take-append-drop}
use Rattle.std.proofs.lemmas.List.Concat.{flat_map-append}
use Rattle.delta_store.specs.declared.version.LinkedVersion.{LinkedVersion}
use Rattle.delta_store.specs.Chunks.{piece_in, pieces_in}
use Rattle.delta_store.proofs.Parts.{get_front, get_behind}

-- a piece more
pub pieces-push : (ps : List (Arc (Vec LinkedVersion Global) Global)) (p : Arc (Vec LinkedVersion Global) Global) → pieces_in (ps ++ p ∷ []) ≡ pieces_in ps ++ piece_in p
pieces-push ps p = flat_map-append piece_in ps (p ∷ []) ∙ ap (λ q. pieces_in ps ++ q) (append-nil (piece_in p))

module _ (ps : List (Arc (Vec LinkedVersion Global) Global)) (i : ℕ) (p : Arc (Vec LinkedVersion Global) Global) (there : i < length ps) (is : p ≡ get_or ps i p) where
  -- a piece more of the first ones
  pub pieces-more : pieces_in (take (i + 1) ps) ≡ pieces_in (take i ps) ++ piece_in p
  pieces-more = ap pieces_in (take_more ps i p there) ∙ pieces-push (take i ps) (get_or ps i p) ∙ ap (λ q. pieces_in (take i ps) ++ piece_in q) (sym is)

  -- the version at a place in a piece
  pub pieces-place : (n r : ℕ) → length (pieces_in (take i ps)) + r ≡ n → r < length (piece_in p) → slice_get (pieces_in ps) n ≡ slice_get (piece_in p) r
  pieces-place n r at within =
      ap (λ xs. slice_get xs n) (ap pieces_in (sym (take-append-drop (i + 1) ps)) ∙ flat_map-append piece_in (take (i + 1) ps) (drop (i + 1) ps))
      ∙ get_front (pieces_in (take (i + 1) ps)) (pieces_in (drop (i + 1) ps)) n (let long = ap length pieces-more in let both = length-append (pieces_in (take i ps)) (piece_in p) in omega (arith, long, both, at, within))
      ∙ ap (λ xs. slice_get xs n) pieces-more
      ∙ get_behind (pieces_in (take i ps)) (piece_in p) n r (sym at)
