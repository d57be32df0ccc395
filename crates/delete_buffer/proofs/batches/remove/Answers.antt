use Rattle.std.proofs.Common.{sym, arith}
use Rattle.std.proofs.lemmas.List.Sorted.{IsPermutation-remove}
use Rattle.delete_buffer.specs.Entries.{Entry}
use Rattle.delete_buffer.proofs.Order.{absent, same_entry}
use Rattle.delete_buffer.proofs.batches.remove.Goals as goal

pub returns-in-Ok-clause-gone : goal.returns-in-Ok-clause-gone
returns-in-Ok-clause-gone c =
    let entry : Entry = (c.args.key, c.args.end) in
    let there = rw c.deref.ensures.value at c.in-Ok.ensures.bound in
    let found = rw c.deref.ensures.value at c.in-Ok.ensures.position in
    rw c.remove.ensures.items
    (IsPermutation-remove c.args.entries.now.items c.in-Ok.place entry there (sym (same_entry _ entry (found entry))))

pub returns-in-Err-clause-there : goal.returns-in-Err-clause-there
returns-in-Err-clause-there c =
    let within = rw c.deref.ensures.value at c.in-Err.ensures.bound in
    let parted = rw c.deref.ensures.value at c.in-Err.ensures.position in (
      (λ never. absurd (grind arith)),
      (λ has. absurd (absent c.args.entries.now.items (c.args.key, c.args.end) c.in-Err.field-0 c.requires within parted has)),
    )
