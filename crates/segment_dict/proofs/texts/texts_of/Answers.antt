use Rattle.std.proofs.Common.{List, ℕ, Bor}
use Rattle.std.specs.Ordering.{nat_cmp}
use Rattle.std.specs.Cmp.Lexicographic.{slice_cmp}
use Rattle.std.proofs.lemmas.Result.{IfOk-weaker}
use Rattle.std.proofs.lemmas.Slice.Eq.{bytes_eq-Decides}
use Rattle.segment_dict.proofs.Entries.{Ascends-map, IsDictOf-map}
use Rattle.segment_dict.proofs.texts.texts_of.Goals as goal

pub joined_texts-requires : goal.joined_texts-requires
joined_texts-requires c = rw c.as_slice.ensures.value (Ascends-map (λ (text : Bor (List ℕ)). text.now) (slice_cmp nat_cmp) (λ x y e. e) _ c.in_ok-texts.ensures.ascending)

pub returns : goal.returns
returns c = IfOk-weaker c.joined_texts.result _ _ (λ dict is.
    rw (is.0, is.1, c.as_slice.ensures.value)
    (IsDictOf-map (λ (text : Bor (List ℕ)). text.now) (slice_cmp nat_cmp) (λ x y e. e) (λ x y e. (bytes_eq-Decides x.now y.now).0 e) c.args.cells.now _ c.has_null.result
    c.in_ok-texts.ensures c.has_null.ensures)) c.joined_texts.ensures
