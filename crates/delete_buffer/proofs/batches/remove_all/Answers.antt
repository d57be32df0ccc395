use Rattle.std.proofs.Common.{◌≡◌, ◌≤◌, ℕ, inl, inr, Bool, ltb, length, not, sym, ap, subst, ◌∙◌, arith}
use Rattle.std.specs.Bool.{OnFalse}
use Rattle.std.proofs.lemmas.Bool.{cases_lt, le-ltb, lt-ltb}
use Rattle.std.proofs.lemmas.Grind.{common_steps}
use Rattle.delete_buffer.specs.Entries.{is_among, without}
use Rattle.delete_buffer.proofs.Merges.{all_kept}
use Rattle.delete_buffer.proofs.batches.remove_all.Goals as goal

-- what is told of a number that is not below another
on_false : (k n : ℕ) (P : Type 0) → (n ≤ k → P) → OnFalse (ltb k n) P
on_false k n P told = elim (cases_lt k n) [
  | inl less ↦ subst (λ (b : Bool). OnFalse b P) (sym (lt-ltb k n less)) tt
  | inr more ↦ subst (λ (b : Bool). OnFalse b P) (sym (le-ltb k n more)) (told more)
]

pub returns-clause-kept : goal.returns-clause-kept
returns-clause-kept c =
    let left : c.truncate.new.self.items ≡ without c.args.taken.now c.args.entries.now.items = grind (arith, common_steps) in
    let long : length c.truncate.new.self.items ≡ c.keep_others-kept.result = grind (arith, common_steps) in
    on_false c.keep_others-kept.result c.len.result (c.truncate.new.self.items ≡ c.args.entries.now.items)
    (λ all. left ∙ all_kept (λ x. not (is_among c.args.taken.now x)) c.args.entries.now.items (omega (arith, all, ap length left, long, c.len.ensures)))
