use Rattle.std.proofs.Common.{◌≡◌, ◌<◌, length, ◌-◌, sym, ap, ◌∙◌, arith}
use Rattle.std.specs.Prelude.{Some}
use Rattle.std.proofs.lemmas.List.{length-take}
use Rattle.tsql_tokens.specs.declared.lexeme.Lexeme.{Lexeme}
use Rattle.tsql_tokens.specs.Lexemes.{lexeme_at}
use Rattle.tsql_tokens.specs.Behind.{behind}
use Rattle.tsql_tokens.proofs.Pieces.{behind_shorter}
use Rattle.tsql_tokens.proofs.lexeme.piece_at.Goals as goal

pub slice_bounds-result-count : goal.slice_bounds-result-count
slice_bounds-result-count c =
    let found : behind (lexeme_at c.args.after_name c.args.text.now) c.args.text.now ≡ Some c.in_ok-after.after.now =
    ap (λ (l : Lexeme). behind l c.args.text.now) (sym c.lexeme_at-lexeme.ensures) ∙ sym c.in_ok-after.ensures in
    let less : length c.in_ok-after.after.now < length c.args.text.now = behind_shorter c.args.after_name c.args.text.now c.in_ok-after.after.now c.requires.some found in
    omega arith

pub returns-clause-shorter : goal.returns-clause-shorter
returns-clause-shorter c =
    let found : behind (lexeme_at c.args.after_name c.args.text.now) c.args.text.now ≡ Some c.in_ok-after.after.now =
    ap (λ (l : Lexeme). behind l c.args.text.now) (sym c.lexeme_at-lexeme.ensures) ∙ sym c.in_ok-after.ensures in
    behind_shorter c.args.after_name c.args.text.now c.in_ok-after.after.now c.requires.some found

pub returns-clause-size : goal.returns-clause-size
returns-clause-size c =
    let found : behind (lexeme_at c.args.after_name c.args.text.now) c.args.text.now ≡ Some c.in_ok-after.after.now =
    ap (λ (l : Lexeme). behind l c.args.text.now) (sym c.lexeme_at-lexeme.ensures) ∙ sym c.in_ok-after.ensures in
    let less : length c.in_ok-after.after.now < length c.args.text.now = behind_shorter c.args.after_name c.args.text.now c.in_ok-after.after.now c.requires.some found in
    omega (arith, length-take (length c.args.text.now - length c.in_ok-after.after.now) c.args.text.now)
