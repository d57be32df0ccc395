-- Two logs that go on beside each other, entry by entry, from prefixes that agree.
use Rattle.std.proofs.Common.{◌≡◌, List, [], ◌∷◌, ◌++◌, refl, sym, ap, subst, ◌∙◌}
use Rattle.std.specs.List.{AllZip}
use Rattle.std.proofs.lemmas.List.{append-nil}
use Rattle.std.proofs.lemmas.List.Elements.{AllZip-push}
use Rattle.cs_model.specs.declared.entry.Entry.{Entry}
use Rattle.cs_model.specs.declared.entry.Entry.TheVariants.{Start, Finish, End, Mover}
use Rattle.cs_model.specs.State.{State}
use Rattle.group_book.specs.Book.{Book}
use Rattle.group_book.proofs.Zips.{zip_weaker}
use Rattle.group_log.specs.Counted.{AreCountedAfter}
use Rattle.group_log.specs.Followed.{Ground, Follows, Followed}
use Rattle.group_log.specs.Reorganizing.{AreReorganizedAfter}
use Rattle.group_log.proofs.Follow.{followed_on}
use Rattle.book_orders.specs.Shuffled.{IsShuffled, IsSameEvent}
use Rattle.book_orders.proofs.Shuffled.{shuffled_itself}
use Rattle.book_orders.proofs.Steps.{StepTogether, shuffled_along}
use Rattle.schedule_laws.specs.Agreeing.{Agrees}
use Rattle.schedule_laws.proofs.States.{step_so}

-- ---- logs that agree

pub agrees_back : (e f : Entry) → Agrees e f → Agrees f e
agrees_back (Start session b short) f (c, same, is) = subst (λ z. Agrees z (Start session b short)) (sym is) (b, sym same, refl)
agrees_back (Finish session r) f (q, same, is) = subst (λ z. Agrees z (Finish session r)) (sym is) (r, sym same, refl)
agrees_back (End session) f is = subst (λ z. Agrees z (End session)) (sym is) refl
agrees_back (Mover actor work) f is = subst (λ z. Agrees z (Mover actor work)) (sym is) refl

pub agree_append : (xs ys us vs : List Entry) → AllZip Agrees xs ys → AllZip Agrees us vs → AllZip Agrees (xs ++ us) (ys ++ vs)
agree_append [] [] us vs a b = b
agree_append [] (y ∷ ys) us vs a b = absurd a
agree_append (x ∷ xs) [] us vs a b = absurd a
agree_append (x ∷ xs) (y ∷ ys) us vs a b = (a.0, agree_append xs ys us vs a.1 b)

same_event : (e f : Entry) → Agrees e f → IsSameEvent e f
same_event (Start session b short) f (c, same, is) = (c, short, is)
same_event (Finish session r) f (q, same, is) = (q, is)
same_event (End session) f is = is
same_event (Mover actor work) f is = is

-- they lead to one state, and to books that differ in the order of versions alone
pub one_moment : (origin : Ground) (log other : List Entry) (m n : State) (book spare : Book) → AllZip Agrees log other → Followed origin log m book → Followed origin other n spare → (n ≡ m) × IsShuffled book spare
one_moment origin log other m n book spare agree first second =
    shuffled_along origin log other origin.begin.state m n origin.book origin.book book spare
    (zip_weaker Agrees (StepTogether origin.begin) (λ e f agrees. (same_event e f agrees, step_so origin.begin e f agrees)) log other agree) (shuffled_itself origin.book) first second

-- ---- beside each other

-- both prefixes lead here
pub record Beside (origin : Ground) (log other : List Entry) : Type 0 where
  pub state : State
  pub book : Book
  pub spare : Book
  pub first : Followed origin log state book
  pub second : Followed origin other state spare
  pub agree : AllZip Agrees log other

-- and go on by these entries, whose answers tell the counts of segments of their Starts, and in which sessions work as their
-- REORGANIZE may
pub record Goes (origin : Ground) (log other more rest : List Entry) (after last : State) (made used : Book) : Type 0 where
  pub beside : Beside origin log other
  pub first : Follows origin beside.state beside.book more after made
  pub second : Follows origin beside.state beside.spare rest last used
  pub counted : AreCountedAfter origin log more
  pub told : AreCountedAfter origin other rest
  pub moved : AreReorganizedAfter origin log more
  pub also : AreReorganizedAfter origin other rest

-- two pieces: none, or an entry each, which agree
pub data Together (piece twin : List Entry) : Type 0 where
  none : piece ≡ [] → twin ≡ [] → Together piece twin
  one : (e f : Entry) → piece ≡ e ∷ [] → twin ≡ f ∷ [] → Agrees e f → Together piece twin

module _ (origin : Ground) (after last : State) (made used : Book) where
  pub one_on : (log other more rest : List Entry) (e f : Entry) → Agrees e f → Goes origin log other (e ∷ more) (f ∷ rest) after last made used
      → Goes origin (log ++ e ∷ []) (other ++ f ∷ []) more rest after last made used
  one_on log other more rest e f agrees g =
      let b = g.beside in
      let x = g.first in
      let y = g.second in
      let same : y.0 ≡ x.0 = step_so origin.begin e f agrees b.state x.0 y.0 x.2 y.2 in
      record {
        beside = record {
          state = x.0;
          book = x.1;
          spare = y.1;
          first = followed_on origin log e b.state x.0 b.book x.1 b.first x.2 x.3;
          second = subst (λ z. Followed origin (other ++ f ∷ []) z y.1) same (followed_on origin other f b.state y.0 b.spare y.1 b.second y.2 y.3);
          agree = AllZip-push Agrees log other e f b.agree agrees;
        };
        first = x.4;
        second = subst (λ z. Follows origin z y.1 rest last used) same y.4;
        counted = g.counted.1;
        told = g.told.1;
        moved = g.moved.1;
        also = g.also.1;
      }

  pub piece_on : (log other piece twin more rest : List Entry) → Together piece twin → Goes origin log other (piece ++ more) (twin ++ rest) after last made used
      → Goes origin (log ++ piece) (other ++ twin) more rest after last made used
  piece_on log other piece twin more rest (none d e) g =
      let here : Goes origin log other more rest after last made used =
      subst (λ x. Goes origin log other (x ++ more) rest after last made used) d (subst (λ y. Goes origin log other (piece ++ more) (y ++ rest) after last made used) e g) in
      let first : log ≡ log ++ piece = sym (append-nil log) ∙ ap (λ x. log ++ x) (sym d) in
      let second : other ≡ other ++ twin = sym (append-nil other) ∙ ap (λ y. other ++ y) (sym e) in
      subst (λ x. Goes origin x (other ++ twin) more rest after last made used) first (subst (λ y. Goes origin log y more rest after last made used) second here)
  piece_on log other piece twin more rest (one e f d k agrees) g =
      let here : Goes origin log other (e ∷ more) (f ∷ rest) after last made used =
      subst (λ x. Goes origin log other (x ++ more) (f ∷ rest) after last made used) d (subst (λ y. Goes origin log other (piece ++ more) (y ++ rest) after last made used) k g) in
      subst (λ x. Goes origin (log ++ x) (other ++ twin) more rest after last made used) (sym d) (subst (λ y. Goes origin (log ++ e ∷ []) (other ++ y) more rest after last made used) (sym k)
      (one_on log other more rest e f agrees here))
