use Rattle.std.proofs.Common.{◌+◌, ◌<◌, ℕ, [], ◌∷◌, ◌++◌, length, slice_index, take, sym, subst, arith}
use Rattle.std.specs.List.{AllZip}
use Rattle.std.proofs.lemmas.List.{take_more}
use Rattle.code_tallies.specs.Columns.{IsColumnOf}
use Rattle.code_tallies.specs.Keys.{AreColumnsOf}
use Rattle.code_tallies.proofs.BatchSteps.{zip-push}
use Rattle.code_tallies.proofs.tally.columns_at.Goals as goal

pub loop-place-preserved : goal.loop-place-preserved
loop-place-preserved c =
    let group = c.args.packed.now in
    let places = c.args.places.now in
    let i : ℕ = c.loop-place.place-index in
    let columns = c.loop-place.columns.items in
    let column = c.in-Some.column in
    let within : i < length places = omega arith in
    let all : AllZip (IsColumnOf group) (take i places ++ slice_index places i ∷ []) (columns ++ column ∷ [])
    = zip-push (IsColumnOf group) (take i places) columns (slice_index places i) column c.loop-place.invariant c.in-Some.ensures in
    subst (λ l. AreColumnsOf group (take (i + 1) places) l) (sym c.in_ok-push-in-Some.ensures.items)
    (subst (λ l. AllZip (IsColumnOf group) l (columns ++ column ∷ [])) (sym (take_more places i 0 within)) all)
