use Rattle.std.proofs.Common.{◌≡◌, ◌∙◌, true, false, sym}
use Rattle.row_work.proofs.exact.key_range.Goals as goal

pub returns-in-Some : goal.returns-in-Some
returns-in-Some c = record {
  within = λ key row at kept. sym (c.in-Some.ensures key row at) ∙ kept;
  exact = λ yes. c.in-Some.ensures;
}

pub returns-in-None : goal.returns-in-None
returns-in-None c = record {
  within = c.named_bounds-bounds.ensures;
  exact = λ yes. let no : false ≡ true = yes in absurd cc;
}
