use Rattle.std.proofs.Common.{◌≡◌, ℕ, Vec, Global, Some, slice_get, map, length, refl, subst, sym, ap, ◌∙◌}
use Rattle.std.proofs.lemmas.Option.{slice_get_read}
use Rattle.group_view.specs.declared.parts.GroupPart.{GroupPart}
use Rattle.group_view.specs.Seen.{seen}
use Rattle.group_view.specs.Shares.{chunk_in, parts_of, IsShareOf}
use Rattle.group_view.proofs.ShareLemmas.{share_made, shared_alike}
use Rattle.group_view.proofs.held.share_of.Goals as goal

pub returns-in-Some-Some-clause-share : goal.returns-in-Some-Some-clause-share
returns-in-Some-Some-clause-share c =
    let shares = c.args.shares.now.items in
    let all = map seen c.args.groups.now in
    let found = rw c.deref.ensures.value at c.in-Some-Some.ensures.lookup in
    let at : slice_get shares c.args.chunk ≡ Some (Some c.in-Some-Some.share) =
    slice_get_read shares (length shares) c.args.chunk c.in-Some-Some.field-0.now refl found.3.0 found.1 ∙ ap Some c.in-Some-Some.field-0-is in
    subst (λ (parts : Vec (ℕ × GroupPart) Global). IsShareOf (chunk_in c.args.chunk all) parts.items) (sym c.in_ok-try_clone.ensures)
    (c.requires.shared c.args.chunk c.in-Some-Some.share at)

pub returns-in_err-shown_between-clause-shared : goal.returns-in_err-shown_between-clause-shared
returns-in_err-shown_between-clause-shared c = shared_alike c.args.groups.now c.shown_between.new.groups c.args.shares.now.items c.in_err-shown_between.ensures.seen c.requires.shared

pub returns-in_err-share-clause-shared : goal.returns-in_err-share-clause-shared
returns-in_err-share-clause-shared c = shared_alike c.args.groups.now c.shown_between.new.groups c.args.shares.now.items c.in_ok-shown_between.ensures.seen c.requires.shared

pub returns-in_err-kept-clause-shared : goal.returns-in_err-kept-clause-shared
returns-in_err-kept-clause-shared c = shared_alike c.args.groups.now c.shown_between.new.groups c.args.shares.now.items c.in_ok-shown_between.ensures.seen c.requires.shared

pub returns-in_err-keep-clause-shared : goal.returns-in_err-keep-clause-shared
returns-in_err-keep-clause-shared c =
    let made = c.in_ok-shown_between.ensures in
    let now = map seen c.shown_between.new.groups in
    c.in_err-keep.ensures.shared now
    (shared_alike c.args.groups.now c.shown_between.new.groups c.args.shares.now.items made.seen c.requires.shared)
    (share_made c.args.groups.now c.shown_between.new.groups c.args.chunk c.min-to.result c.in_ok-shown_between.field-0.items (parts_of c.in_ok-kept.kept) made.seen c.min-to.ensures
    (ap (λ (parts : Vec (ℕ × GroupPart) Global). parts.items) (c.in_ok-kept.ensures ∙ c.in_ok-share.ensures.ok)) made.parts)

pub returns-clause-shared : goal.returns-clause-shared
returns-clause-shared c =
    let made = c.in_ok-shown_between.ensures in
    let now = map seen c.shown_between.new.groups in
    c.in_ok-keep.ensures.shared now
    (shared_alike c.args.groups.now c.shown_between.new.groups c.args.shares.now.items made.seen c.requires.shared)
    (share_made c.args.groups.now c.shown_between.new.groups c.args.chunk c.min-to.result c.in_ok-shown_between.field-0.items (parts_of c.in_ok-kept.kept) made.seen c.min-to.ensures
    (ap (λ (parts : Vec (ℕ × GroupPart) Global). parts.items) (c.in_ok-kept.ensures ∙ c.in_ok-share.ensures.ok)) made.parts)
