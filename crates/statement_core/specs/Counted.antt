-- The counts of segments that the work of a statement tells.
use Rattle.std.specs.Prelude.{◌≡◌, ℕ, List, true, false, IfSome, Option, None, Some}
use Rattle.cs_types.specs.declared.Schema.{Schema}
use Rattle.cs_model.specs.declared.entry.Bound.{Bound}
use Rattle.cs_model.specs.declared.entry.Bound.TheVariants as bound
use Rattle.cs_model.specs.declared.entry.Entry.{Entry}
use Rattle.cs_model.specs.declared.pred.Pred.{Pred}
use Rattle.cs_model.specs.Changes.{Change}
use Rattle.cs_model.specs.Kinds.{is_of_table}
use Rattle.cs_model.specs.State.{State}
use Rattle.group_book.specs.Book.{Book}
use Rattle.group_log.specs.Counted.{told_counts, AreCounts, IsBegunAt}
use Rattle.group_log.specs.Followed.{Ground}
use Rattle.group_view.specs.declared.view.Pinned.{Pinned}
use Rattle.group_view.specs.Scanned.{counts_in}
use Rattle.statement_core.specs.declared.started.Outcome.{Outcome}
use Rattle.statement_core.specs.declared.started.Outcome.TheVariants as outcome
use Rattle.statement_core.specs.declared.started.Started.{Started}

-- the counts of segments in an outcome
abbrev pub outcome_counts : Outcome → Option (ℕ × ℕ)
outcome_counts outcome.Nothing = None
outcome_counts (outcome.Answer r) = told_counts r
outcome_counts (outcome.Writes list present affected parcel) = None
outcome_counts (outcome.Load keys parcel) = None
outcome_counts (outcome.Commit parcel) = None
outcome_counts (outcome.Left groups) = None
outcome_counts outcome.Short = None

-- the condition of a query
abbrev pub condition_of : Bound → Option Pred
condition_of bound.Begin = None
condition_of bound.Commit = None
condition_of bound.Rollback = None
condition_of bound.Nothing = None
condition_of (bound.Statistics on) = None
condition_of (bound.Insert plan) = None
condition_of (bound.Update plan) = None
condition_of (bound.Delete condition) = None
condition_of (bound.Select query) = query.filter
condition_of bound.GroupReport = None
condition_of bound.SegmentReport = None
condition_of (bound.Reorganize all) = None
condition_of (bound.Refused refusal) = None

-- the counts are those of a condition over what is pinned
abbrev pub ArePinnedCounts : Schema → Option Pred → Option Pinned → ℕ × ℕ → Type 0
ArePinnedCounts schema condition None counts = ⊥
ArePinnedCounts schema condition (Some pinned) counts = counts ≡ counts_in schema pinned.view condition

-- counts in the outcome are those of the query that was started, over what is pinned for it
abbrev pub AreCountsOf : Started → Outcome → Type 0
AreCountsOf started result =
    IfSome (outcome_counts result) (ArePinnedCounts started.terms.value.schema.value (condition_of started.bound.value) started.pinned)

-- over what is pinned each condition has the counts that it has over this book
abbrev pub HasCounts : Schema → List Change → Book → Option Pinned → Type 0
HasCounts schema changes book None = ⊥
HasCounts schema changes book (Some pinned) = (condition : Option Pred) → AreCounts schema changes book condition (counts_in schema pinned.view condition)

-- what was started is the statement that the session has begun in the log, and what is pinned for it has the counts of the groups
-- at its Start
pub record HasStartCounts (origin : Ground) (log : List Entry) (session : ℕ) (started : Started) : Type 0 where
  pub schema : started.terms.value.schema.value ≡ (let begin = origin.begin in begin.schema)
  pub state : State
  pub book : Book
  pub begun : IsBegunAt origin log session started.bound.value state book
  pub has : is_of_table started.bound.value ≡ true → started.short ≡ false → HasCounts (let begin = origin.begin in begin.schema) state.changes book started.pinned
