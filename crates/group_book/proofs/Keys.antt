-- Keys that are the same.
use Rattle.std.proofs.Common.{◌≡◌, true, sym, ap, subst}
use Rattle.std.proofs.lemmas.Cmp.{tied_itself}
use Rattle.std.specs.Ordering.{is_eq}
use Rattle.cs_types.specs.declared.Key.{Key}
use Rattle.cs_types.specs.Keys.{same_key}
use Rattle.cs_types.proofs.KeyLemmas.{key_total, one_key}

pub key_itself : (k : Key) → same_key k k ≡ true
key_itself k = ap is_eq (tied_itself key_total k)

pub key_here : (k q : Key) → q ≡ k → same_key k q ≡ true
key_here k q e = subst (λ z. same_key k z ≡ true) (sym e) (key_itself k)

pub key_is : (k q : Key) → same_key k q ≡ true → q ≡ k
key_is k q e = sym (one_key k q e)
