use Rattle.std.proofs.Common.{◌≡◌, ℕ, List, [], ◌++◌, sym, ap, ◌∙◌, append_assoc, append-nil, codes, decimal}
use Rattle.std.proofs.lemmas.Result.{on_ok_weaker}
use Rattle.cs_model.specs.Text.{lines_text, segments_lines}
use Rattle.cs_model.proofs.print.append_segment_counts.Goals as goal

-- the parts of the line, however they were joined
joined : (out words read between skipped end : List ℕ) → out ++ words ++ read ++ between ++ skipped ++ end ≡ out ++ ((words ++ read ++ between ++ skipped ++ end) ++ [])
joined out words read between skipped end = simp (append_assoc, append-nil)

pub returns : goal.returns
returns c =
    let out = c.args.line.now in
    let read = decimal c.in-Some.read in
    let skipped = decimal c.in-Some.skipped in
    on_ok_weaker c.append-3.result (λ e.
    e ∙ ap (λ (x : List ℕ). x ++ codes "\n") (c.in_ok-append_number-2.ensures.ok
    ∙ ap (λ (x : List ℕ). x ++ skipped) (c.in_ok-append-2.ensures.ok
    ∙ ap (λ (x : List ℕ). x ++ codes ", skipped ") (c.in_ok-append_number.ensures.ok ∙ ap (λ (x : List ℕ). x ++ read) c.in_ok-append.ensures.ok)))
    ∙ joined out (codes "  segments read ") read (codes ", skipped ") skipped (codes "\n")
    ∙ ap (λ counts. out ++ lines_text (segments_lines counts)) (sym c.in-Some.is)) c.append-3.ensures.ok
