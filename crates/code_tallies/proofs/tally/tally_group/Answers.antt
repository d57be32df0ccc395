use Rattle.std.proofs.Common.{◌≡◌, ℕ, ◌++◌, ◌&&◌, Bool, true, filter, sym, ap, subst, ◌∙◌}
use Rattle.std.specs.Prelude.{IfSome}
use Rattle.std.specs.List.{range_with_len}
use Rattle.std.specs.Option.{option_copied}
use Rattle.cs_model.specs.declared.plan.Query.{Query}
use Rattle.batch_aggregate.specs.Standing.{StandsFor}
use Rattle.code_tallies.specs.Shown.{is_shown, rows_at, shown_rows}
use Rattle.code_tallies.specs.Keys.{AreColumnsOf}
use Rattle.code_tallies.specs.Tables.{is_chosen}
use Rattle.code_tallies.specs.Scans.{IsChoice}
use Rattle.code_tallies.proofs.Choices.{choice-kept, choice-shown, ok-mapped}
use Rattle.code_tallies.proofs.tally.tally_group.Goals as goal

pub returns-in-Some-clause-tallied : goal.returns-in-Some-clause-tallied
returns-in-Some-clause-tallied g c = λ rows stands.
    let group = c.args.packed.now in
    let old = c.args.partial.now in
    let new = c.tally_chosen.new.partial in
    let places = c.as_slice-groups.result.now in
    let shown = is_shown (option_copied c.args.shown) in
    let verdict : ℕ → Bool = λ i. g.V.Verdicts.kept c.args.verdicts.now i in
    let chosen = c.in-Some.chosen in
    let choice : IsChoice group places (λ i. shown i && verdict i) chosen
    = subst (λ f. IfSome f (λ chosen. IsChoice c.args.packed.now c.as_slice-groups.result.now (λ i. is_shown (option_copied c.args.shown) i && g.V.Verdicts.kept c.args.verdicts.now i) chosen)) c.in-Some.is c.in_ok-choose.ensures in
    let grouped : old.query.now.grouped ≡ true = sym (ap (λ (q : Query). q.grouped) c.query.ensures) ∙ c.if-not-query.false in
    let of_query : places ≡ old.query.now.groups = c.as_slice-groups.ensures ∙ ap (λ (q : Query). q.groups) c.query-2.ensures in
    let columns : AreColumnsOf group old.query.now.groups chosen.keys.items = subst (λ ps. AreColumnsOf group ps chosen.keys.items) of_query choice.columns in
    let kept = choice-kept group old new places shown verdict chosen choice c.requires in
    ok-mapped (λ done. done ≡ true → StandsFor new (rows ++ rows_at group (filter (is_chosen chosen) (range_with_len 0 chosen.length))))
    (λ done. done ≡ true → StandsFor new (rows ++ shown_rows group (option_copied c.args.shown)))
    c.tally_chosen.result
    (λ done holds yes. choice-shown group old new places shown verdict chosen choice c.requires c.tally_chosen.ensures.schema c.tally_chosen.ensures.query rows (holds yes))
    (c.tally_chosen.ensures.tallied rows grouped columns kept stands)
