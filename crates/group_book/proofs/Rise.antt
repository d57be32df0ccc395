-- The empty book, and a floor that rises.
use Rattle.std.proofs.Common.{ℕ, ◌≤◌, List, [], Option, Some, None, get_or, inl, inr, arith}
use Rattle.std.specs.List.{All}
use Rattle.std.specs.List.Sorted.{IsStrictlySortedBy}
use Rattle.group_book.specs.Commits.{ending_cmp}
use Rattle.std.proofs.lemmas.List.Elements.{All-from_recursion}
use Rattle.cs_model.specs.Changes.{Change}
use Rattle.group_book.specs.Book.{Version, Claim, Book, empty}
use Rattle.group_book.specs.Stocks.{Stock, stock_of, Stems, EndFits, IsSeenFrom, IsStockOf, next_change}
use Rattle.group_book.specs.Invariant.{IsClaim, IsBookOf}
use Rattle.group_book.proofs.Lists.{apart_none}

all_none : {X : Type 0} (P : X → Type 0) → All P []
all_none P = All-from_recursion P [] tt

none_sorted : IsStrictlySortedBy ending_cmp []
unfolding IsStrictlySortedBy
none_sorted = tt

pub empty_is : (group_rows floor : ℕ) → IsBookOf group_rows empty [] floor
empty_is group_rows floor = record {
  stock = record {
    versions = record { frozen = all_none _; opened = all_none _; begins = all_none _; once = λ key c. omega arith };
    ends = record { frozen = all_none _; opened = all_none _ };
    entries = record { sorted = none_sorted; owned = all_none _ };
    kept = all_none _;
  };
  groups = record { by_id = tt; below = all_none _; one = omega arith; sized = all_none _ };
  claims = record { actors = λ actor. omega arith; sources = apart_none; fresh = apart_none; made = all_none _; each = all_none _ };
}

module _ (b : Stock) (cs : List Change) (floor later : ℕ) (rises : floor ≤ later) (j : IsStockOf b cs floor) where
  stems_rise : (v : Version) → Stems cs floor v → Stems cs later v
  stems_rise v s = record { origin = s.origin; is_origin = s.is_origin; row = s.row; begin = elim s.begin [ inl same ↦ inl same | inr below ↦ inr (omega (arith, below, rises)) ] }

  fits_rise : (v : Version) (n : Option ℕ) → EndFits b.buffer floor v n → EndFits b.buffer later v n
  fits_rise v None h = h
  fits_rise v (Some e) h = elim h [
    | inl stamped ↦ inl stamped
    | inr other ↦ elim other [ inl plain ↦ inr (inl (plain.0, omega (arith, plain.1, rises), plain.2)) | inr buffered ↦ inr (inr buffered) ]
  ]

  seen_rise : (n : Option ℕ) → IsSeenFrom later n → IsSeenFrom floor n
  seen_rise None h = h
  seen_rise (Some e) h = omega (arith, h, rises)

  pub stock_rise : IsStockOf b cs later
  stock_rise = record {
    versions = record {
      frozen = λ k d inside. stems_rise (get_or b.frozen k d) (j.versions.frozen k d inside);
      opened = λ k d inside. stems_rise (get_or b.opened k d) (j.versions.opened k d inside);
      begins = j.versions.begins;
      once = j.versions.once;
    };
    ends = record {
      frozen = λ k d inside. let v = get_or b.frozen k d in fits_rise v (next_change cs v.key v.begin) (j.ends.frozen k d inside);
      opened = j.ends.opened;
    };
    entries = j.entries;
    kept = λ k d inside some is_open. j.kept k d inside some (let x = get_or cs k d in seen_rise (next_change cs x.edit.0 x.commit) is_open);
  }

claim_rise : (group_rows : ℕ) (book : Book) (cs : List Change) (floor later : ℕ) (claim : Claim) → floor ≤ later → IsClaim group_rows book cs floor claim → IsClaim group_rows book cs later claim
claim_rise group_rows book cs floor later claim rises c = record { below = let le = c.below in omega (arith, le, rises); kind = c.kind; there = c.there; sources = c.sources; makes = c.makes; fresh = c.fresh; once = c.once; lent = c.lent; room = c.room }

pub book_rise : (group_rows : ℕ) (book : Book) (cs : List Change) (floor later : ℕ) → floor ≤ later → IsBookOf group_rows book cs floor → IsBookOf group_rows book cs later
book_rise group_rows book cs floor later rises j = record {
  stock = stock_rise (stock_of book) cs floor later rises j.stock;
  groups = j.groups;
  claims = record {
    actors = j.claims.actors;
    sources = j.claims.sources;
    fresh = j.claims.fresh;
    made = j.claims.made;
    each = λ k d inside. claim_rise group_rows book cs floor later (get_or book.claims k d) rises (j.claims.each k d inside);
  };
}
