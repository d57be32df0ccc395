-- Keys: their order is total, and tells all of them apart.
use Rattle.std.proofs.Common.{◌≡◌, true}
use Rattle.std.specs.declared.cmp.Ordering.TheVariants.{Equal}
use Rattle.std.specs.Cmp.{IsTotalOrder, Equal-is}
use Rattle.std.proofs.lemmas.Cmp.{int_cmp_total, on_total}
use Rattle.std.proofs.lemmas.Map.Lookups.{exact_signed}
use Rattle.cs_types.specs.declared.Key.{Key}
use Rattle.cs_types.specs.Keys.{key_cmp, same_key}

pub key_total : IsTotalOrder key_cmp
key_total = on_total (λ (key : Key). key.0) int_cmp_total

pub exact_key : (x y : Key) → key_cmp x y ≡ Equal → x ≡ y
exact_key x y e = λ i. record { 0 = exact_signed x.0 y.0 e i }

pub one_key : (x y : Key) → same_key x y ≡ true → x ≡ y
one_key x y e = exact_key x y ((Equal-is (key_cmp x y)).0 e)
