-- Counts of segments, along a log that goes on.
use Rattle.std.proofs.Common.{◌≡◌, ℕ, List, [], ◌∷◌, ◌++◌, refl, sym, ap, subst, ◌∙◌, cond, Bool, false, append_assoc, Global}
use Rattle.std.specs.Prelude.{◌==◌, ◌&&◌}
use Rattle.std.specs.declared.sync.Arc.{Arc}
use Rattle.std.proofs.lemmas.List.{append-nil}
use Rattle.std.proofs.lemmas.List.Elements.{filter-append}
use Rattle.cs_model.specs.declared.entry.Bound.{Bound}
use Rattle.cs_model.specs.declared.entry.Entry.{Entry}
use Rattle.cs_model.specs.declared.entry.Entry.TheVariants.{Start}
use Rattle.cs_model.specs.Actors.{actor_of, is_turn, turns_of}
use Rattle.cs_model.specs.State.{State}
use Rattle.group_book.specs.Book.{Book}
use Rattle.group_log.specs.Counted.{IsBegunAt, IsCountedEntry, AreCountedAfter, IsCounted}
use Rattle.group_log.specs.Followed.{Ground, Followed}

after_on : (origin : Ground) (before log : List Entry) (entry : Entry) → AreCountedAfter origin before log → IsCountedEntry origin (before ++ log) entry → AreCountedAfter origin before (log ++ entry ∷ [])
after_on origin before [] entry x is = (subst (λ es. IsCountedEntry origin es entry) (append-nil before) is, tt)
after_on origin before (e ∷ log) entry x is = (x.0, after_on origin (before ++ e ∷ []) log entry x.1 (subst (λ es. IsCountedEntry origin es entry) (sym (append_assoc before (e ∷ []) log)) is))

-- one entry more
pub counted_on : (origin : Ground) (log : List Entry) (entry : Entry) → IsCounted origin log → IsCountedEntry origin log entry → IsCounted origin (log ++ entry ∷ [])
counted_on origin log entry x is = after_on origin [] log entry x is

-- a Start begins its statement
abbrev pub begun_first : (origin : Ground) (log : List Entry) (session : ℕ) (bound : Arc Bound Global) (short : Bool) (m : State) (book : Book) → Followed origin log m book
    → IsBegunAt origin (log ++ Start session bound short ∷ []) session bound.value m book
begun_first origin log session bound short m book followed = record {
  before = log;
  bound = bound;
  short = short;
  behind = [];
  split = refl;
  others = refl;
  is = refl;
  followed = followed;
}

-- and it stays begun while others make entries
abbrev pub begun_on : (origin : Ground) (log : List Entry) (entry : Entry) (session : ℕ) (statement : Bound) (m : State) (book : Book) → (is_turn entry && (actor_of entry == session)) ≡ false
    → IsBegunAt origin log session statement m book → IsBegunAt origin (log ++ entry ∷ []) session statement m book
begun_on origin log entry session statement m book other x = record {
  before = x.before;
  bound = x.bound;
  short = x.short;
  behind = x.behind ++ entry ∷ [];
  split = ap (λ es. es ++ entry ∷ []) x.split ∙ append_assoc x.before (Start session x.bound x.short ∷ x.behind) (entry ∷ []);
  others =
      filter-append (λ e. is_turn e && (actor_of e == session)) x.behind (entry ∷ [])
      ∙ ap (λ es. es ++ turns_of session (entry ∷ [])) x.others
      ∙ ap (λ t. cond t (entry ∷ []) []) other;
  is = x.is;
  followed = x.followed;
}
