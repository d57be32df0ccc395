use Rattle.std.proofs.Common.{◌≡◌, ◌++◌, ◌∙◌, ap, codes, decimal, ℕ, List, [], ◌∷◌, append_assoc}
use Rattle.std.proofs.lemmas.List.{append-nil}
use Rattle.std.proofs.lemmas.Result.{on_ok_weaker}
use Rattle.std.specs.List.{flat_map}
use Rattle.cs_types.specs.Text.{value_text}
use Rattle.cs_model.specs.Text.{next_part, encoding_name, bit_of, column_kind}
use Rattle.cs_model.proofs.print_report.SegmentLineReplyLine.append_to.Goals as goal

-- the parts of a line, however they were joined
joined : (next : List ℕ → List ℕ) (l blanks id column encoding rows nulls words least greatest : List ℕ)
    → l ++ blanks ++ id ++ next column ++ next encoding ++ next rows ++ next nulls ++ next words ++ next least ++ next greatest
    ≡ l ++ (blanks ++ (id ++ flat_map next (column ∷ encoding ∷ rows ∷ nulls ∷ words ∷ least ∷ greatest ∷ [])))
joined next l blanks id column encoding rows nulls words least greatest = simp (append_assoc, append-nil)

pub returns : goal.returns
returns c =
    let s = c.args.self.now in
    let kind = column_kind c.args.schema.now s.column in
    on_ok_weaker c.append_bounds.result (λ e.
    e ∙ ap (λ (x : List ℕ). x ++ next_part (value_text kind s.least) ++ next_part (value_text kind s.greatest))
    (c.in_ok-append_sizes.ensures ∙ ap (λ (x : List ℕ). x ++ next_part (decimal s.rows) ++ next_part (decimal (bit_of s.nulls)) ++ next_part (decimal s.words)) c.in_ok-append_place.ensures)
    ∙ joined next_part c.args.line.now (codes "  ") (decimal s.id) (decimal s.column) (encoding_name s.encoding) (decimal s.rows) (decimal (bit_of s.nulls)) (decimal s.words) (value_text kind s.least) (value_text kind s.greatest)) c.append_bounds.ensures
