use Rattle.std.proofs.Common.{◌≡◌, ℕ, ◌+◌, ◌<◌, List, [], ◌∷◌, ◌++◌, length, arith, ap, subst, sym}
use Rattle.std.proofs.lemmas.Bool.Decides.{nat_tests}
use Rattle.shared_list.specs.Placed.{Placed}
use Rattle.shared_list.specs.Chunks.{AreChunks}
use Rattle.shared_list.proofs.Places.{chunks_more}
use Rattle.shared_list.proofs.list.SharedList.append.Goals as goal

pub invariant_of-self-2 : goal.invariant_of-self-2
invariant_of-self-2 g c =
    let chunk = c.new.result in
    let long = ap length c.new.ensures.items in
    let empty = rw c.deref.ensures at c.if-is_empty.ensures in
    let some : 0 < length c.args.items.value.items = grind (arith, nat_tests, empty) in
    let count = rw c.deref-2.ensures at c.len.ensures in
    let len : c.in-Some.len ≡ c.self.inside.len + length chunk.items = let sum = c.in-Some.ensures in omega (arith, sum.1, count, long) in
    let fits = c.in-Some.ensures in (
      subst (λ (chunks : List (Placed g.row.T.Denot)). AreChunks chunks c.in-Some.len) (sym c.in_ok-push.ensures.items)
          (subst (λ (n : ℕ). AreChunks (c.self.inside.chunks.items ++ chunk ∷ []) n) (sym len) (chunks_more c.self.inside.chunks.items c.self.inside.len c.self.invariant.0 chunk c.new.ensures.from (omega (arith, some, long)))),
      omega (arith, fits.0, fits.1),
    )
