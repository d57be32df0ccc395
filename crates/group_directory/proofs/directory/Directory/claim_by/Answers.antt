use Rattle.std.proofs.Common.{sym, ap, ◌∙◌}
use Rattle.std.specs.Prelude.{option_copied, position}
use Rattle.std.specs.Option.{option_map}
use Rattle.cs_model.specs.declared.work.Actor.{Actor}
use Rattle.group_view.specs.declared.claim.Claim.{Claim}
use Rattle.group_directory.proofs.Books.{holds_it}
use Rattle.group_directory.proofs.InstallBuffers.{held_found, held_none}
use Rattle.group_directory.proofs.directory.Directory.claim_by.Goals as goal

pub returns-in_err-place : goal.returns-in_err-place
returns-in_err-place c =
    let none = held_none c.args.actor c.args.self.now.list.claims.items (sym (c.in_err-place.ensures ∙ ap (position (holds_it c.args.actor)) c.deref.ensures.value)) in
    ap option_copied c.from_residual.ensures ∙ sym (ap (option_map (λ (held : Actor × Claim). held.1)) none)

pub returns : goal.returns
returns c =
    let found = held_found c.args.actor c.args.self.now.list.claims.items c.in_ok-place.place c.index.result.now (sym (c.in_ok-place.ensures ∙ ap (position (holds_it c.args.actor)) c.deref.ensures.value)) c.index.ensures in
    sym (ap (option_map (λ (held : Actor × Claim). held.1)) found)
