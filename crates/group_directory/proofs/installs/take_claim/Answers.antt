use Rattle.std.proofs.Common.{not, sym, ap, ◌∙◌}
use Rattle.std.specs.Prelude.{position, filter}
use Rattle.cs_model.specs.declared.work.Actor.{Actor}
use Rattle.group_book.specs.Turns.{same_actor}
use Rattle.group_view.specs.declared.claim.Claim.{Claim}
use Rattle.group_directory.proofs.Books.{holds_it}
use Rattle.group_directory.proofs.Mapped.{filter-stays}
use Rattle.group_directory.proofs.Opened.{none_found}
use Rattle.group_directory.proofs.InstallBuffers.{held_found, held_none, others_left}
use Rattle.group_directory.proofs.installs.take_claim.Goals as goal

pub returns-in_default-clause-claim : goal.returns-in_default-clause-claim
returns-in_default-clause-claim c =
    sym (held_none c.args.actor c.args.claims.now.items (sym (c.claim_place.ensures ∙ ap (position (holds_it c.args.actor)) c.deref.ensures.value) ∙ c.in_default.is))

pub returns-in_default-clause-others : goal.returns-in_default-clause-others
returns-in_default-clause-others c =
    sym (filter-stays (holds_it c.args.actor) c.args.claims.now.items (λ k d inside. none_found (holds_it c.args.actor) c.args.claims.now.items (sym (c.claim_place.ensures ∙ ap (position (holds_it c.args.actor)) c.deref.ensures.value) ∙ c.in_default.is) k d inside))

pub returns-clause-claim : goal.returns-clause-claim
returns-clause-claim c =
    sym (held_found c.args.actor c.args.claims.now.items c.in-Some.place c.remove-held.result (sym (c.claim_place.ensures ∙ ap (position (holds_it c.args.actor)) c.deref.ensures.value) ∙ c.in-Some.is) c.remove-held.ensures.value)

pub returns-clause-others : goal.returns-clause-others
returns-clause-others c =
    c.drop_claims.ensures ∙ ap (filter (λ (held : Actor × Claim). not (same_actor held.0 c.args.actor))) c.remove-held.ensures.items
    ∙ others_left c.args.actor c.args.claims.now.items c.in-Some.place c.remove-held.result (sym (c.claim_place.ensures ∙ ap (position (holds_it c.args.actor)) c.deref.ensures.value) ∙ c.in-Some.is)
