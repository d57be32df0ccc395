-- The equality of cells that groups are looked up by.
use Rattle.std.proofs.Common.{◌≡◌, List, refl, ap, Decides}
use Rattle.std.specs.Cmp.Lexicographic.{pointwise}
use Rattle.std.proofs.lemmas.Bool.Decides.{Decides-int_eq}
use Rattle.std.proofs.lemmas.Slice.Eq.{slice_eq-Decides, bytes_eq-Decides}
use Rattle.cs_types.specs.declared.Value.{Value}
use Rattle.cs_types.specs.declared.Value.TheVariants.{Null, Number, Text}
use Rattle.cs_types.specs.contracts.ValuePartialEq.TheImpl.{eq-value}

pub cells_decide : (a b : Value) → Decides (eq-value.it a b) (a ≡ b)
cells_decide Null Null = (λ e. refl, λ e. refl)
cells_decide Null (Number n) = (λ e. cc, λ e. cc)
cells_decide Null (Text t) = (λ e. cc, λ e. cc)
cells_decide (Number m) Null = (λ e. cc, λ e. cc)
cells_decide (Number m) (Number n) = (λ e. ap Number ((Decides-int_eq m n).0 e), λ e. (Decides-int_eq m n).1 (cc))
cells_decide (Number m) (Text t) = (λ e. cc, λ e. cc)
cells_decide (Text t) Null = (λ e. cc, λ e. cc)
cells_decide (Text t) (Number n) = (λ e. cc, λ e. cc)
cells_decide (Text t) (Text u) = (λ e. ap Text ((bytes_eq-Decides t u).0 e), λ e. (bytes_eq-Decides t u).1 (cc))

pub rows_decide : (a b : List Value) → Decides (pointwise eq-value.it a b) (a ≡ b)
rows_decide a b = slice_eq-Decides cells_decide a b _ refl
