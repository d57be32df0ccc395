use Rattle.std.proofs.Common.{true≢false, sym, ◌∙◌}
use Rattle.answer_laws.proofs.Answered.{answer-moved, answer-moved_by_keys}
use Rattle.answer_laws.proofs.Keys.{keys_of_table}
use Rattle.answer_laws.proofs.Needed.{ties_must_show_one}
use Rattle.answer_laws.proofs.answer_in_any_order.Goals as goal

pub returns : goal.returns
returns c = record {
  table = λ schema query table others fit up moved. answer-moved_by_keys schema query _ others moved (keys_of_table schema table fit up);
  keys = λ schema query rows others differ moved. answer-moved_by_keys schema query rows others moved differ;
  grouped = λ schema query rows others t moved. answer-moved schema query rows others moved (λ f. absurd (true≢false (sym t ∙ f)));
  ties = λ schema query rows others one moved. answer-moved schema query rows others moved (λ f. one);
  needed = ties_must_show_one;
}
