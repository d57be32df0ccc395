use Rattle.std.proofs.Common.{arith, ◌≡◌, ◌∙◌, ℕ, Bool, false, List, ◌++◌, drop, take, filter, length, map, replicate, sym, ap, subst}
use Rattle.std.specs.List.{list_any}
use Rattle.std.specs.declared.cmp.Ordering.TheVariants.{Less}
use Rattle.std.proofs.lemmas.List.{length-map, length-replicate, take_at}
use Rattle.std.proofs.lemmas.List.Kept.{AllPairs-filter}
use Rattle.delete_buffer.specs.Entries.{Entry, entry_cmp, AreInOrder}
use Rattle.group_book.specs.Book.{Ending, frozen}
use Rattle.group_book.specs.Choices.{free_packed}
use Rattle.group_book.specs.Turns.{ends}
use Rattle.group_view.specs.declared.groups.GroupList.{GroupList}
use Rattle.group_view.specs.Books.{book_of}
use Rattle.group_view.specs.Views.{endings_of}
use Rattle.group_view.proofs.Chosen.{flushed_all, is_flushed}
use Rattle.group_view.proofs.Noted.{ending_of, none_noted}
use Rattle.group_view.proofs.flushes.flush_of.Goals as goal

-- the test of an entry
abbrev flushes : GroupList → Ending → Bool
flushes list entry = list_any (ends (book_of list).buffer entry) (frozen (free_packed (book_of list)))

-- the marks of the entries, once all groups are passed
marks_of : (test : Ending → Bool) (entries shown : List Entry) (first new items last : List Bool) (len : ℕ) → shown ≡ entries → items ≡ replicate (length shown) false → first ≡ items → length first ≡ len
    → new ≡ map test (endings_of entries) → last ≡ take len (new ++ drop (length new) items) → last ≡ map test (endings_of shown)
marks_of test entries shown first new items last len same blank at long noted is =
    let counted : length entries ≡ len = ap length (sym same) ∙ sym (ap length (at ∙ blank) ∙ length-replicate (length shown) false) ∙ long in
    is ∙ take_at new (drop (length new) items) len (ap length noted ∙ length-map (endings_of entries) test ∙ length-map entries ending_of ∙ counted) ∙ noted ∙ ap (λ (some : List Entry). map test (endings_of some)) (sym same)

pub note_all-requires-clause-none : goal.note_all-requires-clause-none
note_all-requires-clause-none c =
    let counted : c.len.result ≡ length c.in_ok-entries.entries.items = grind arith in
    c.deref_mut.ensures.value
    ∙ c.in_ok-noted.ensures.items_if_clones_equal (λ y same. same)
    ∙ ap (λ (n : ℕ). replicate n false) counted
    ∙ ap (λ (entries : List Entry). replicate (length entries) false) (c.in_ok-entries.ensures ∙ sym c.parts.ensures.entries)
    ∙ none_noted c.args.list.now.buffer.entries

pub marked-requires : goal.marked-requires
marked-requires c =
    let list = c.args.list.now in
    let counted : c.len.result ≡ length c.in_ok-entries.entries.items = grind arith in
    let same : c.deref-2.result.now ≡ list.buffer.entries = c.deref-2.ensures.value ∙ c.in_ok-entries.ensures ∙ sym c.parts.ensures.entries in
    let blank : c.in_ok-noted.noted.items ≡ replicate (length c.deref-2.result.now) false =
    c.in_ok-noted.ensures.items_if_clones_equal (λ y same. same) ∙ ap (λ (n : ℕ). replicate n false) counted ∙ ap (λ (entries : List Entry). replicate (length entries) false) (sym c.deref-2.ensures.value) in (
      flushes list,
      marks_of (flushes list) list.buffer.entries c.deref-2.result.now c.deref_mut.result.now c.note_all.new.noted c.in_ok-noted.noted.items c.deref-3.result.now c.in_ok-noted.noted.len
          same blank c.deref_mut.ensures.value c.deref_mut.ensures.len c.in_ok-sources.ensures.noted c.deref-3.ensures.value,
    )

pub returns-clause-entries : goal.returns-clause-entries
returns-clause-entries c =
    let list = c.args.list.now in
    let counted : c.len.result ≡ length c.in_ok-entries.entries.items = grind arith in
    let same : c.deref-2.result.now ≡ list.buffer.entries = c.deref-2.ensures.value ∙ c.in_ok-entries.ensures ∙ sym c.parts.ensures.entries in
    let blank : c.in_ok-noted.noted.items ≡ replicate (length c.deref-2.result.now) false =
    c.in_ok-noted.ensures.items_if_clones_equal (λ y same. same) ∙ ap (λ (n : ℕ). replicate n false) counted ∙ ap (λ (entries : List Entry). replicate (length entries) false) (sym c.deref-2.ensures.value) in
    let marks = marks_of (flushes list) list.buffer.entries c.deref-2.result.now c.deref_mut.result.now c.note_all.new.noted c.in_ok-noted.noted.items c.deref-3.result.now c.in_ok-noted.noted.len
    same blank c.deref_mut.ensures.value c.deref_mut.ensures.len c.in_ok-sources.ensures.noted c.deref-3.ensures.value in
    let some = rw c.in_ok-marked.was at c.marked.ensures (flushes list) marks in
    ap endings_of (c.from_vec.ensures ∙ some ∙ ap (filter (λ (entry : Entry). flushes list (ending_of entry))) same) ∙ flushed_all list

pub returns-clause-order : goal.returns-clause-order
returns-clause-order c =
    let list = c.args.list.now in
    let counted : c.len.result ≡ length c.in_ok-entries.entries.items = grind arith in
    let same : c.deref-2.result.now ≡ list.buffer.entries = c.deref-2.ensures.value ∙ c.in_ok-entries.ensures ∙ sym c.parts.ensures.entries in
    let blank : c.in_ok-noted.noted.items ≡ replicate (length c.deref-2.result.now) false =
    c.in_ok-noted.ensures.items_if_clones_equal (λ y same. same) ∙ ap (λ (n : ℕ). replicate n false) counted ∙ ap (λ (entries : List Entry). replicate (length entries) false) (sym c.deref-2.ensures.value) in
    let marks = marks_of (flushes list) list.buffer.entries c.deref-2.result.now c.deref_mut.result.now c.note_all.new.noted c.in_ok-noted.noted.items c.deref-3.result.now c.in_ok-noted.noted.len
    same blank c.deref_mut.ensures.value c.deref_mut.ensures.len c.in_ok-sources.ensures.noted c.deref-3.ensures.value in
    let some = rw c.in_ok-marked.was at c.marked.ensures (flushes list) marks in
    let kept : AreInOrder (filter (is_flushed list) list.buffer.entries) = AllPairs-filter (λ x y. entry_cmp x y ≡ Less) (is_flushed list) list.buffer.entries c.parts.ensures.order in
    subst AreInOrder (sym (c.from_vec.ensures ∙ some ∙ ap (filter (is_flushed list)) same)) kept
