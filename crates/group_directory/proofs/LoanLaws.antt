-- The ends of lent versions, by the buffer of their claim and by the present one.
use Rattle.std.proofs.Common.{◌≡◌, ℕ, ◌<◌, ◌≤◌, ◌+◌, Bool, true, false, ◌&&◌, ◌||◌, cond, eqb, ltb, min, List, [], ◌∷◌, ◌++◌, get_or, Option, Some, None, IfSome, refl, sym, ap, subst, ◌∙◌, inl, inr, arith}
use Rattle.std.specs.List.{All, Contains, list_any}
use Rattle.std.proofs.lemmas.Bool.Decides.{nat_tests}
use Rattle.std.proofs.lemmas.Option.{none-some}
use Rattle.std.proofs.lemmas.List.Elements.{All-map, All-contains, All-from_recursion, recursion_from_All}
use Rattle.cs_types.specs.declared.Key.{Key}
use Rattle.cs_types.specs.Keys.{same_key}
use Rattle.cs_model.specs.declared.work.Actor.{Actor}
use Rattle.cs_model.specs.Changes.{Edit, Change}
use Rattle.cs_model.specs.Steps.{numbered}
use Rattle.group_book.specs.Book.{End, Version, Ending, Book, frozen}
use Rattle.group_book.specs.Book.End.{At}
use Rattle.group_book.specs.Turns.{holds, lesser, least_entry, unless_ended, buffered_end, ends, entries_for, end_in, flushed}
use Rattle.group_book.specs.Turns as turns
use Rattle.group_book.specs.Stocks.{EndFits, IsStockOf, next_change, stock_of}
use Rattle.group_book.specs.Invariant.{IsBookOf, IsClaim}
use Rattle.group_book.proofs.Lists.{both_true, all-both, weaker}
use Rattle.group_book.proofs.Changes.{AreBelow, next-above}
use Rattle.group_book.proofs.Entries.{holds-filter}
use Rattle.group_book.proofs.Flush.{least_next, end_by_next}
use Rattle.group_book.proofs.Made.{is_written, next_after, next-commit}
use Rattle.group_view.specs.declared.claim.Claim.{Claim}
use Rattle.group_view.specs.declared.view.GroupView.{GroupView}
use Rattle.group_view.specs.Parts.{Rowed}
use Rattle.group_view.specs.Views.{buffer_of, rowed_of}
use Rattle.group_view.specs.Books.{versions_of, claim_of, book_of}
use Rattle.group_view.specs.Claims.{lent_entries}
use Rattle.group_directory.specs.declared.directory.Directory.{Directory}
use Rattle.group_directory.specs.Stands.{IsEndedBy, IsLoanOf, Stands}
use Rattle.group_directory.specs.Laws.{BeginsBy}
use Rattle.group_directory.proofs.BookLaws.{some_frozen, lent_versions, each_claim}

-- ---- what is lent

itself : (n : Option ℕ) → IfSome n (λ e. n ≡ Some e)
itself None = tt
itself (Some e) = refl

-- the buffer of a book ends its versions where they change next
ended_in : (book : Book) (cs : List Change) (floor : ℕ) → IsStockOf (stock_of book) cs floor → (v : Version) → EndFits book.buffer floor v (next_change cs v.key v.begin) → IsEndedBy cs book.buffer v
ended_in book cs floor j v fits = step v.end refl
  where
    step : (end : Option End) → v.end ≡ end → IfSome (unless_ended end (least_entry book.buffer v.key v.begin)) (λ e. next_change cs v.key v.begin ≡ Some e)
    step None is = subst (λ (o : Option ℕ). IfSome o (λ e. next_change cs v.key v.begin ≡ Some e)) (sym (least_next (stock_of book) cs floor j v (next_change cs v.key v.begin) refl is fits)) (itself (next_change cs v.key v.begin))
    step (Some end) is = tt

pub ends_lent : (group_rows floor : ℕ) (book : Book) (cs : List Change) (sources : List ℕ) (view : GroupView) → IsBookOf group_rows book cs floor → buffer_of view ≡ book.buffer → versions_of (rowed_of view) ≡ turns.versions_of sources book.groups
    → All (IsEndedBy cs (buffer_of view)) (versions_of (rowed_of view))
ends_lent group_rows floor book cs sources view j buffer lent =
    subst (λ (entries : List Ending). All (IsEndedBy cs entries) (versions_of (rowed_of view))) (sym buffer)
    (subst (All (IsEndedBy cs book.buffer)) (sym lent) (All-from_recursion (IsEndedBy cs book.buffer) (turns.versions_of sources book.groups) (some_frozen (IsEndedBy cs book.buffer) sources book.groups
    (weaker (λ (v : Version). EndFits book.buffer floor v (next_change cs v.key v.begin)) (IsEndedBy cs book.buffer) (frozen book.groups) (ended_in book cs floor j.stock)
    (recursion_from_All (λ (v : Version). EndFits book.buffer floor v (next_change cs v.key v.begin)) (frozen book.groups) j.stock.ends.frozen)))))

-- ---- after a commit

later_step : (o n : Option ℕ) (w : Bool) (c : ℕ) → IfSome o (λ e. n ≡ Some e) → IfSome o (λ e. next_after n w c ≡ Some e)
later_step None n w c h = tt
later_step (Some e) n w c h = ap (λ (m : Option ℕ). next_after m w c) h

pub ends_later : (cs : List Change) (clock txn : ℕ) (own : List Edit) → AreBelow clock cs → (buffer : List Ending) (rows : List Rowed) → All (BeginsBy clock) rows → All (IsEndedBy cs buffer) (versions_of rows)
    → All (IsEndedBy (cs ++ numbered (clock + 1) txn own) buffer) (versions_of rows)
ends_later cs clock txn own low buffer rows begins all k d inside =
    let v = get_or (versions_of rows) k d in
    let begun : v.begin ≤ clock = All-map (λ (version : Version). version.begin ≤ clock) (λ (rowed : Rowed). rowed.version) rows begins k d inside in
    subst (λ (n : Option ℕ). IfSome (buffered_end buffer v) (λ e. n ≡ Some e)) (sym (next-commit cs clock txn low own v.key v.begin begun))
    (later_step (buffered_end buffer v) (next_change cs v.key v.begin) (is_written own v.key) (clock + 1) (all k d inside))

-- ---- a flush

-- where no entry lies above the begin, none is held there
none_held : (buffer : List Ending) (k : Key) (b e : ℕ) → b < e → least_entry buffer k b ≡ None → holds buffer k e ≡ false
none_held [] k b e lt none = refl
none_held (x ∷ xs) k b e lt none = step (same_key k x.key) (ltb b x.end) (eqb x.end e) refl refl (least_entry xs k b) refl (none_held xs k b e lt) none
  where
    step : (p q r : Bool) → ltb b x.end ≡ q → eqb x.end e ≡ r → (o : Option ℕ) → least_entry xs k b ≡ o → (least_entry xs k b ≡ None → holds xs k e ≡ false) → cond (p && q) (lesser x.end o) o ≡ None → ((p && r) || holds xs k e) ≡ false
    step true true r q_is r_is None o_is rest is = absurd (none-some x.end (sym is))
    step true true r q_is r_is (Some f) o_is rest is = absurd (none-some (min x.end f) (sym is))
    step true false true q_is r_is o o_is rest is = absurd (let same : x.end ≡ e = grind (arith, nat_tests) in let below : x.end ≤ b = grind (arith, nat_tests) in omega (arith, same, below, lt))
    step true false false q_is r_is o o_is rest is = rest (o_is ∙ is)
    step false q r q_is r_is o o_is rest is = rest (o_is ∙ is)

module _ (book : Book) (cs : List Change) (floor : ℕ) (j : IsStockOf (stock_of book) cs floor) (buffer : List Ending) (versions : List Version)
    (held : (k : Key) (e : ℕ) → holds (entries_for buffer versions) k e ≡ true → holds book.buffer k e ≡ true) (v : Version) (fits : EndFits book.buffer floor v (next_change cs v.key v.begin)) (ended : IsEndedBy cs buffer v) where
  abbrev lent : List Ending
  lent = entries_for buffer versions

  abbrev next : Option ℕ
  next = next_change cs v.key v.begin

  lent_held : (e : ℕ) → holds lent v.key e ≡ true → holds buffer v.key e ≡ true
  lent_held e is = (both_true (holds buffer v.key e) (list_any (ends buffer (record { key = v.key; end = e })) versions)
      (sym (holds-filter (λ k end. list_any (ends buffer (record { key = k; end = end })) versions) buffer v.key e) ∙ is)).0

  -- an end that stands beside the version is no entry
  beside : (end : End) (e : ℕ) → v.end ≡ Some end → EndFits book.buffer floor v (Some e) → holds book.buffer v.key e ≡ false
  beside end e is fit = elim fit [
    | inl stamped ↦ stamped.1
    | inr other ↦ elim other [ inl plain ↦ plain.2 | inr entry ↦ absurd (none-some end (sym entry.0 ∙ is)) ]
  ]

  not_held : (e : ℕ) → next ≡ Some e → (end : Option End) → v.end ≡ end → unless_ended end (least_entry buffer v.key v.begin) ≡ None → holds lent v.key e ≡ false
  not_held e n None is none = at (holds lent v.key e) refl
    where
      at : (t : Bool) → holds lent v.key e ≡ t → t ≡ false
      at false t_is = refl
      at true t_is = sym (lent_held e t_is) ∙ none_held buffer v.key v.begin e (next-above cs v.key v.begin e n) none
  not_held e n (Some end) is none = at (holds lent v.key e) refl
    where
      at : (t : Bool) → holds lent v.key e ≡ t → t ≡ false
      at false t_is = refl
      at true t_is = sym (held v.key e t_is) ∙ beside end e is (subst (EndFits book.buffer floor v) n fits)

  by_claim : (o : Option ℕ) → buffered_end buffer v ≡ o → IfSome o (λ e. next ≡ Some e) → (n : Option ℕ) → next ≡ n → end_in o lent v.key v.end ≡ end_in n lent v.key v.end
  by_claim (Some e) o_is is n n_is = ap (λ (m : Option ℕ). end_in m lent v.key v.end) (sym is ∙ n_is)
  by_claim None o_is is None n_is = refl
  by_claim None o_is is (Some e) n_is = ap (λ (t : Bool). cond t (Some (At e)) v.end) (sym (not_held e n_is v.end refl o_is))

  pub flushed_alike : flushed buffer lent v ≡ flushed book.buffer lent v
  flushed_alike = ap (λ (end : Option End). record v { end = end })
      (by_claim (buffered_end buffer v) refl ended next refl ∙ sym (end_by_next (stock_of book) cs floor j lent held v next refl fits))

pub flush_agrees : (directory : Directory) (cs : List Change) (held : Actor × Claim) → Stands directory cs → Contains directory.list.claims.items held
    → All (λ (version : Version). flushed (buffer_of held.1.view) (lent_entries held.1) version ≡ flushed (book_of directory.list).buffer (lent_entries held.1) version) (versions_of (rowed_of held.1.view))
flush_agrees directory cs held j there =
    let claim = All-contains (λ (other : Actor × Claim). IsClaim directory.sizes.group_rows (book_of directory.list) cs j.floor (claim_of other)) directory.list.claims.items held (each_claim directory cs j) there in
    let loan = All-contains (IsLoanOf directory.schema.value cs) directory.list.claims.items held j.loans there in
    All-from_recursion Agrees (versions_of (rowed_of held.1.view))
    (all-both Fits (IsEndedBy cs (buffer_of held.1.view)) Agrees (versions_of (rowed_of held.1.view))
    (λ v fits ended. flushed_alike (book_of directory.list) cs j.floor j.book.stock (buffer_of held.1.view) (versions_of (rowed_of held.1.view)) claim.lent.held v fits ended)
    (lent_versions Fits directory.sizes.group_rows (book_of directory.list) cs j.floor held (recursion_from_All Fits (frozen (book_of directory.list).groups) j.book.stock.ends.frozen) claim)
    (recursion_from_All (IsEndedBy cs (buffer_of held.1.view)) (versions_of (rowed_of held.1.view)) loan.ends))
  where
    Fits : Version → Type 0
    Fits v = EndFits (book_of directory.list).buffer j.floor v (next_change cs v.key v.begin)

    Agrees : Version → Type 0
    Agrees v = flushed (buffer_of held.1.view) (lent_entries held.1) v ≡ flushed (book_of directory.list).buffer (lent_entries held.1) v
