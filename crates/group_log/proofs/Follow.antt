-- A followed log is legal, and goes on.
use Rattle.std.proofs.Common.{List, [], ◌∷◌, ◌++◌, refl, subst}
use Rattle.cs_model.specs.declared.entry.Entry.{Entry}
use Rattle.cs_model.specs.State.{State}
use Rattle.cs_model.specs.Steps.{IsStep, Leads}
use Rattle.group_book.specs.Book.{Book}
use Rattle.group_log.specs.Followed.{Ground, IsBookStep, Follows, Followed}

pub follows_leads : (origin : Ground) (m after : State) (book made : Book) (log : List Entry) → Follows origin m book log after made → Leads origin.begin m log after
follows_leads origin m after book made [] x = x.0
follows_leads origin m after book made (entry ∷ log) x = (x.0, x.2, follows_leads origin x.0 after x.1 made log x.4)

follows_on : (origin : Ground) (m mid after : State) (book between made : Book) (log : List Entry) (entry : Entry)
    → Follows origin m book log mid between → IsStep origin.begin mid entry after → IsBookStep origin mid between entry after made → Follows origin m book (log ++ entry ∷ []) after made
follows_on origin m mid after book between made [] entry x step moves =
    let first : IsStep origin.begin m entry after = subst (λ z. IsStep origin.begin z entry after) x.0 step in
    let second : IsBookStep origin m book entry after made =
    subst (λ z. IsBookStep origin z book entry after made) x.0 (subst (λ z. IsBookStep origin mid z entry after made) x.1 moves) in
    (after, made, first, second, (refl, refl))
follows_on origin m mid after book between made (e ∷ log) entry x step moves = (x.0, x.1, x.2, x.3, follows_on origin x.0 mid after x.1 between made log entry x.4 step moves)

pub followed_on : (origin : Ground) (log : List Entry) (entry : Entry) (m after : State) (book made : Book) → Followed origin log m book → IsStep origin.begin m entry after
    → IsBookStep origin m book entry after made → Followed origin (log ++ entry ∷ []) after made
followed_on origin log entry m after book made x step moves = follows_on origin origin.begin.state m after origin.book book made log entry x step moves
