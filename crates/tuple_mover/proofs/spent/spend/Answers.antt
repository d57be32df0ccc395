use Rattle.std.proofs.Common.{◌≡◌, ◌∙◌, ℕ, Bool, true, List, set, Option, None, Some, sym, ap, subst}
use Rattle.delete_buffer.specs.Entries.{AreInOrder, Entry, IsLeastEnd}
use Rattle.delete_buffer.proofs.Order.{absent, same_entry}
use Rattle.group_book.specs.Book.{Version}
use Rattle.group_book.specs.Turns.{least_entry, buffered_end}
use Rattle.group_view.specs.Parts.{lived_version}
use Rattle.group_view.specs.Views.{endings_of}
use Rattle.tuple_mover.specs.Spent.{spent_by}
use Rattle.tuple_mover.proofs.SpentLemmas.{least-is, recorded-none, unrecorded, spent-none, spent-late, spent-set}
use Rattle.tuple_mover.proofs.spent.spend.Goals as goal

pub returns-then-is_some : goal.returns-then-is_some
returns-then-is_some c = λ (versions : List Version) (was : c.args.spent.now.items ≡ spent_by c.args.floor (endings_of c.args.buffer.now) versions).
    let lived = c.args.lived.now in
    let buffer = endings_of c.args.buffer.now in
    was ∙ spent-none c.args.floor buffer versions (lived_version lived) (recorded-none lived.end (least_entry buffer lived.key lived.begin) (sym c.if-is_some.ensures))

pub returns-in_default : goal.returns-in_default
returns-in_default c = λ (versions : List Version) (was : c.args.spent.now.items ≡ spent_by c.args.floor (endings_of c.args.buffer.now) versions).
    let lived = c.args.lived.now in
    let entries = c.args.buffer.now in
    let buffer = endings_of entries in
    let least = subst (λ (end : Option ℕ). IsLeastEnd entries lived.key lived.begin end) c.in_default.is c.ends.ensures in
    was ∙ spent-none c.args.floor buffer versions (lived_version lived) (unrecorded lived.end (least_entry buffer lived.key lived.begin) (sym c.if-is_some.ensures) ∙ least-is entries lived.key lived.begin None least)

pub returns-then-end-floor : goal.returns-then-end-floor
returns-then-end-floor c = λ (versions : List Version) (was : c.args.spent.now.items ≡ spent_by c.args.floor (endings_of c.args.buffer.now) versions).
    let lived = c.args.lived.now in
    let entries = c.args.buffer.now in
    let buffer = endings_of entries in
    let end = c.in-Some.end in
    let least = subst (λ (end : Option ℕ). IsLeastEnd entries lived.key lived.begin end) c.in-Some.is c.ends.ensures in
    was ∙ spent-late c.args.floor buffer versions (lived_version lived) end (unrecorded lived.end (least_entry buffer lived.key lived.begin) (sym c.if-is_some.ensures) ∙ least-is entries lived.key lived.begin (Some end) least) c.if-end-floor.true

pub unreachable-requires : goal.unreachable-requires
unreachable-requires c =
    let lived = c.args.lived.now in
    let entries = c.args.buffer.now in
    let end = c.in-Some.end in
    let least = subst (λ (end : Option ℕ). IsLeastEnd entries lived.key lived.begin end) c.in-Some.is c.ends.ensures in
    let order = subst AreInOrder c.requires.entries c.requires.order in
    let within = rw c.requires.entries at c.in-Err.ensures.bound in
    let parted = rw c.requires.entries at c.in-Err.ensures.position in
    absent entries (lived.key, end) c.in-Err.field-0 order within parted least.0

pub returns : goal.returns
returns c = λ (versions : List Version) (was : c.args.spent.now.items ≡ spent_by c.args.floor (endings_of c.args.buffer.now) versions).
    let lived = c.args.lived.now in
    let entries = c.args.buffer.now in
    let buffer = endings_of entries in
    let end = c.in-Some.end in
    let entry : Entry = (lived.key, end) in
    let least = subst (λ (end : Option ℕ). IsLeastEnd entries lived.key lived.begin end) c.in-Some.is c.ends.ensures in
    let is : buffered_end buffer (lived_version lived) ≡ Some end = unrecorded lived.end (least_entry buffer lived.key lived.begin) (sym c.if-is_some.ensures) ∙ least-is entries lived.key lived.begin (Some end) least in
    let there = rw c.requires.entries at c.in-Ok.ensures.bound in
    let found = rw c.requires.entries at c.in-Ok.ensures.position in
    ap (λ (bits : List Bool). set bits c.in-Ok.place true) was
    ∙ spent-set c.args.floor entries (subst AreInOrder c.requires.entries c.requires.order) versions (lived_version lived) end is c.if-end-floor.false c.in-Ok.place there (same_entry _ entry (found entry))
