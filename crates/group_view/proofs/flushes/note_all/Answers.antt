use Rattle.std.proofs.Common.{◌≡◌, ◌<◌, ◌≤◌, ◌∙◌, ◌&&◌, Bool, true, false, not, ℕ, [], ◌∷◌, ◌++◌, List, filter, length, map, get_or, refl, sym, ap}
use Rattle.std.specs.List.{list_any}
use Rattle.std.proofs.lemmas.Bool.{and_from}
use Rattle.std.proofs.lemmas.List.{append-nil, take_all}
use Rattle.group_book.specs.Book as group_book
use Rattle.group_book.specs.Book.{is_compressed}
use Rattle.group_book.specs.Turns.{is_claimed}
use Rattle.group_view.specs.declared.groups.Group.{Group}
use Rattle.group_view.specs.Books.{book_of, claim_of, group_of}
use Rattle.group_view.specs.Walks.{ends_in}
use Rattle.group_view.proofs.Chosen.{ids_more, noted_by, noted_claimed, noted_flushed, noted_free, sources_kept, takes_packed}
use Rattle.group_view.proofs.Walks.{and_false}
use Rattle.group_view.proofs.flushes.note_all.Goals as goal
use Rattle.group_view.proofs.flushes.note_all.Goals.{then-not-is_claimed+then-note_ends+in_ok-push, else-not-is_claimed, else-not-is_claimed-via-then-not-is_claimed+else-note_ends, else-not-is_claimed-via-else-not-is_claimed}

pub loop-group-preserved : goal.loop-group-preserved
loop-group-preserved c =
    let list = c.args.list.now in
    let book = book_of list in
    let n = c.loop-group.group-index in
    let group = c.group-item.result in
    let there : n < length list.groups.items = rw c.as_slice-group-items.ensures at c.loop-group-test.true in
    let at : get_or list.groups.items n group ≡ group = rw c.as_slice-group-items.ensures at (sym c.group-item.is) in
    let claimed : c.is_claimed.result ≡ is_claimed book.claims (group_of group) = c.is_claimed.ensures (group_of group) refl ∙ ap (λ claims. is_claimed (map claim_of claims) (group_of group)) c.deref.ensures.value in
    let test : group_book.Group → Bool = λ other. list_any (ends_in book.buffer other) book.buffer in
    let more = ids_more (takes_packed book.claims test) list.groups.items n group in
    elim c.if-not-is_claimed.branch [
      | then-not-is_claimed+then-note_ends+in_ok-push w ↦
          let free : is_claimed book.claims (group_of group) ≡ false = sym claimed ∙ w.if-not-is_claimed.true in
          let found : (is_compressed (group_of group).content && test (group_of group)) ≡ true = sym (rw c.requires.entries at w.note_ends.ensures.found) ∙ w.if-note_ends.true in
          rw (w.noted-is, w.sources-is) (
            w.in_ok-push.ensures.ok ∙ ap (λ (ids : List ℕ). ids ++ group.id ∷ []) c.loop-group.invariant.0 ∙ sym (more true there at (and_from _ _ found (ap not free))),
            (rw c.requires.entries at w.note_ends.ensures.noted) (noted_by book.claims book.buffer list.groups.items n) c.loop-group.invariant.1 ∙ noted_free book.claims book.buffer list.groups.items n group there at free,
          )
      | else-not-is_claimed w ↦
          elim w.else-not-is_claimed.branch [
            | else-not-is_claimed-via-then-not-is_claimed+else-note_ends v ↦
                let free : is_claimed book.claims (group_of group) ≡ false = sym claimed ∙ v.if-not-is_claimed.true in
                let found : (is_compressed (group_of group).content && test (group_of group)) ≡ false = sym (rw c.requires.entries at v.note_ends.ensures.found) ∙ v.if-note_ends.false in
                rw (w.noted-is, w.sources-is, v.noted-is) (
                  c.loop-group.invariant.0 ∙ sym (more false there at (ap (λ (t : Bool). t && not (is_claimed book.claims (group_of group))) found) ∙ append-nil _),
                  (rw c.requires.entries at v.note_ends.ensures.noted) (noted_by book.claims book.buffer list.groups.items n) c.loop-group.invariant.1 ∙ noted_free book.claims book.buffer list.groups.items n group there at free,
                )
            | else-not-is_claimed-via-else-not-is_claimed v ↦
                let taken : is_claimed book.claims (group_of group) ≡ true = sym claimed ∙ v.if-not-is_claimed.false in
                rw (w.noted-is, w.sources-is, v.noted-is) (
                  c.loop-group.invariant.0 ∙ sym (more false there at (ap (λ (t : Bool). (is_compressed (group_of group).content && test (group_of group)) && not t) taken ∙ and_false (is_compressed (group_of group).content && test (group_of group))) ∙ append-nil _),
                  c.loop-group.invariant.1 ∙ noted_claimed book.claims book.buffer list.groups.items n group there at taken,
                )
          ]
    ]

pub returns-clause-sources : goal.returns-clause-sources
returns-clause-sources c =
    let list = c.args.list.now in
    let past : length list.groups.items ≤ c.loop-group.group-index = rw c.as_slice-group-items.ensures at c.loop-group-test.false in
    c.loop-group.invariant.0
    ∙ ap (λ (groups : List Group). map (λ (group : Group). group.id) (filter (λ group. takes_packed (book_of list).claims (λ other. list_any (ends_in (book_of list).buffer other) (book_of list).buffer) (group_of group)) groups)) (take_all c.loop-group.group-index list.groups.items past)
    ∙ sym (sources_kept list)

pub returns-clause-noted : goal.returns-clause-noted
returns-clause-noted c =
    let list = c.args.list.now in
    let past : length list.groups.items ≤ c.loop-group.group-index = rw c.as_slice-group-items.ensures at c.loop-group-test.false in
    c.loop-group.invariant.1 ∙ noted_flushed list c.loop-group.group-index past
