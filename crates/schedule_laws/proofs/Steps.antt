-- Two logs of one script go on beside each other, step by step.
use Rattle.std.proofs.Common.{◌≡◌, ℕ, List, [], ◌∷◌, ◌++◌, refl, sym, ap, subst, ◌∙◌, append_assoc}
use Rattle.std.specs.List.{AllZip}
use Rattle.std.proofs.lemmas.List.{append-nil}
use Rattle.cs_model.specs.declared.entry.Bound.TheVariants.{Reorganize}
use Rattle.cs_model.specs.declared.entry.Entry.{Entry}
use Rattle.cs_model.specs.declared.entry.Entry.TheVariants.{Start, Finish, End, Mover}
use Rattle.cs_model.specs.declared.entry.Reply.{Reply}
use Rattle.cs_model.specs.declared.work.Actor.{Actor}
use Rattle.cs_model.specs.declared.work.Actor.TheVariants as actor
use Rattle.cs_model.specs.declared.work.Work.{Work}
use Rattle.cs_model.specs.Floors.{snapshots}
use Rattle.cs_model.specs.State.{State, schema_now}
use Rattle.cs_model.specs.Steps.{IsFinish, IsLeft, IsStep}
use Rattle.log_laws.specs.Laws.{IsSound}
use Rattle.log_laws.proofs.Sound.{sound_from}
use Rattle.log_laws.proofs.Floors.{floor_one}
use Rattle.group_book.specs.Book.{Book}
use Rattle.group_log.specs.Followed.{Ground, Finishes, Followed, IsBookStep, Works}
use Rattle.group_log.specs.Grounds.{IsGround}
use Rattle.group_log.specs.Reorganizing.{IsMove, IsWorkBy}
use Rattle.group_log.proofs.Follow.{follows_leads}
use Rattle.statement_core.specs.Turns.{BeginsTurn, EndsTurn}
use Rattle.script_reader.specs.declared.script.Step.{Step}
use Rattle.script_reader.specs.declared.script.Step.TheVariants.{Whole, Begun, Finished, Turn, Claiming, Installing}
use Rattle.script_turns.specs.Turns.{IsFinishOf, IsStart}
use Rattle.script_runner.specs.Schedule.{IsFinishing, IsPiece, RepliesBy, TellsOf, ArePieces}
use Rattle.book_orders.proofs.Lists.{zip_back}
use Rattle.schedule_laws.specs.Agreeing.{Agrees}
use Rattle.schedule_laws.proofs.Ample.{IsAmple, AreAmple, ample_apart}
use Rattle.schedule_laws.proofs.Beside.{Goes, agrees_back, one_moment, one_on, piece_on}
use Rattle.schedule_laws.proofs.Beside.Together.{none}
use Rattle.schedule_laws.proofs.Shown.{are_shown}
use Rattle.schedule_laws.proofs.Halves.{AreOwn, all_own, begun_half, own_joined, tells_left}
use Rattle.schedule_laws.proofs.Moves.{both_left, cannot_go, chosen_first, leaves_of, looks_of, one_work}
use Rattle.schedule_laws.proofs.Events.{starts_agree, replies_agree, begins_together, ends_together}

-- the moves of a line, and the reply of its Finish
record FinishOf (origin : Ground) (log : List Entry) (session : ℕ) (piece : List Entry) : Type 0 where
  moves : List Entry
  reply : Reply
  joined : piece ≡ moves ++ Finish session reply ∷ []
  own : AreOwn session moves
  told : TellsOf origin log session moves reply

finish_of : (origin : Ground) (log : List Entry) (session : ℕ) (piece : List Entry) → IsFinishing origin log session piece → FinishOf origin log session piece
finish_of origin log session piece (moves, b, joined, are, of) = at b are.told of joined
  where
    at : (b : Entry) → RepliesBy (TellsOf origin log session moves) b → IsFinishOf session b → piece ≡ moves ++ b ∷ [] → FinishOf origin log session piece
    at (Start s c short) told own joined = absurd own
    at (Finish s r) told own joined = record { moves = moves; reply = r; joined = joined ∙ (λ i. moves ++ Finish (own i) r ∷ []); own = all_own session moves are.own; told = told }
    at (End s) told own joined = absurd own
    at (Mover by w) told own joined = absurd own

not_none : (xs : List Entry) (e : Entry) (ys : List Entry) → xs ++ e ∷ ys ≡ [] → ⊥
not_none [] e ys empty = cc
not_none (x ∷ xs) e ys empty = cc

module _ (origin : Ground) (ground : IsGround origin) (after last : State) (made used : Book) where
  abbrev Go : List Entry → List Entry → List Entry → List Entry → Type 0
  Go log other more rest = Goes origin log other more rest after last made used

  -- the same, cut elsewhere
  cut : (log log' other other' more more' rest rest' : List Entry) → log ≡ log' → other ≡ other' → more ≡ more' → rest ≡ rest' → Go log other more rest → Go log' other' more' rest'
  cut log log' other other' more more' rest rest' a b c d g =
      subst (λ w. Go w other' more' rest') a (subst (λ x. Go log x more' rest') b (subst (λ y. Go log other y rest') c (subst (λ z. Go log other more z) d g)))

  sound : (log other more rest : List Entry) (g : Go log other more rest) → IsSound (g.beside).state
  sound log other more rest g =
      let b = g.beside in
      sound_from origin.begin origin.begin.state b.state log (follows_leads origin origin.begin.state b.state origin.book b.book log b.first) ground.begin.sound

  start_on : (log other more rest : List Entry) (session : ℕ) (text : List ℕ) (a b : Entry) → IsStart origin.begin log session text a
      → IsStart origin.begin other session text b → IsAmple a → IsAmple b → Go log other (a ∷ more) (b ∷ rest) → Go (log ++ a ∷ []) (other ++ b ∷ []) more rest
  start_on log other more rest session text a b x y p q g =
      let here = g.beside in
      let both = starts_agree origin.begin log other here.state here.state session text a b (follows_leads origin origin.begin.state here.state origin.book here.book log here.first)
      (follows_leads origin origin.begin.state here.state origin.book here.spare other here.second) x y p q in
      one_on origin after last made used log other more rest a b both g

  -- two Finishes
  told_on : (log other more rest : List Entry) (session : ℕ) (r q : Reply) → IsAmple (Finish session r) → IsAmple (Finish session q) → (IsLeft q → IsLeft r → q ≡ r) → Go log other (Finish session r ∷ more) (Finish session q ∷ rest)
      → Go (log ++ Finish session r ∷ []) (other ++ Finish session q ∷ []) more rest
  told_on log other more rest session r q p k left g =
      let b = g.beside in
      let x = g.first in
      let y = g.second in
      let so = one_moment origin log other b.state b.state b.book b.spare b.agree b.first b.second in
      let same = replies_agree origin b.state (sound log other (Finish session r ∷ more) (Finish session q ∷ rest) g) session (b.state.half session) r q x.0 y.0 b.book b.spare x.1 y.1 so.1 p k x.2 y.2
      x.3.commits y.3.commits x.3.full y.3.full
      (are_shown origin log other session (schema_now origin.begin b.state) (b.state).changes b.book b.spare r q b.agree so.1 g.counted.0 g.told.0 x.3.shows y.3.shows left) in
      one_on origin after last made used log other more rest (Finish session r) (Finish session q) (q, same, refl) g

  -- from the pieces as they are made up
  made_up : (log other more rest piece twin parts pair : List Entry) → piece ≡ parts → twin ≡ pair → (Go log other (parts ++ more) (pair ++ rest) → Go (log ++ parts) (other ++ pair) more rest)
      → Go log other (piece ++ more) (twin ++ rest) → Go (log ++ piece) (other ++ twin) more rest
  made_up log other more rest piece twin parts pair d e goes g =
      cut (log ++ parts) (log ++ piece) (other ++ pair) (other ++ twin) more more rest rest (ap (λ z. log ++ z) (sym d)) (ap (λ z. other ++ z) (sym e)) refl refl
      (goes (cut log log other other (piece ++ more) (parts ++ more) (twin ++ rest) (pair ++ rest) refl refl (ap (λ z. z ++ more) d) (ap (λ z. z ++ rest) e) g))

  -- a work in each, after the same moves
  works_on : (from front done left right more rest : List Entry) (session : ℕ) (r q : Reply) (by of : Actor) (w v : Work) → AllZip Agrees from front → AreOwn session done → by ≡ actor.Session session → AreOwn session left
      → of ≡ actor.Session session → AreOwn session right → TellsOf origin from session (done ++ Mover by w ∷ left) r → TellsOf origin front session (done ++ Mover of v ∷ right) q → IsAmple (Mover by w) → IsAmple (Mover of v)
      → Go (from ++ done) (front ++ done) (Mover by w ∷ more) (Mover of v ∷ rest) → Mover of v ≡ Mover by w
  works_on from front done left right more rest session r q by of w v agree own is mine so yours told also p k g =
      let b = g.beside in
      let x = g.first in
      let y = g.second in
      let first = subst (λ a. IsWorkBy origin (from ++ done) a w) is g.moved.0 in
      let second = subst (λ a. IsWorkBy origin (front ++ done) a v) so g.also.0 in
      let back : AllZip Agrees front from = zip_back Agrees agrees_back from front agree in
      let looks = looks_of origin from session (done ++ Mover by w ∷ left) r (not_none done (Mover by w) left) told in
      let gazes = looks_of origin front session (done ++ Mover of v ∷ right) q (not_none done (Mover of v) right) also in
      let floors : y.3.0 ≡ x.3.0 = floor_one (snapshots b.state) (b.state).clock y.3.0 x.3.0 y.3.1 x.3.1 in
      let same : w ≡ v = one_work origin session from front done agree own b.state b.book b.spare b.first b.second x.3.0 w v x.1 y.1 p k
      (λ id closing found. chosen_first origin session front from done back own b.state b.spare b.book b.second b.first right of v id so gazes yours (subst (IsMove origin (from ++ done) session) closing first) found)
      (λ id closing found. chosen_first origin session from front done agree own b.state b.book b.spare b.first b.second left by w id is looks mine (subst (IsMove origin (front ++ done) session) closing second) found)
      (subst (λ a. Works origin.sizes x.3.0 a b.book w x.1) is x.3.2)
      (subst (λ a. Works origin.sizes x.3.0 a b.spare v y.1) so (subst (λ n. Works origin.sizes n of b.spare v y.1) floors y.3.2)) in
      let actors = so ∙ sym is in
      let works = sym same in
      λ i. Mover (actors i) (works i)

  -- one ends where the other one works on
  ends_first : (from front done more rest : List Entry) (session : ℕ) (r : Reply) (of : Actor) (v : Work) → AllZip Agrees from front → AreOwn session done → of ≡ actor.Session session → TellsOf origin from session done r
      → IsAmple (Finish session r) → IsAmple (Mover of v) → (m a z : State) (book spare next later : Book) → Followed origin (from ++ done) m book → Followed origin (front ++ done) m spare → IsStep origin.begin m (Finish session r) a
      → Finishes origin m book session r a next → IsWorkBy origin (front ++ done) of v → IsBookStep origin m spare (Mover of v) z later → ⊥
  ends_first from front done more rest session r of v agree own so told p k m a z book spare next later first second finish finishes moves step =
      let move = subst (λ c. IsWorkBy origin (front ++ done) c v) so moves in
      let now = move.half in
      let half = begun_half origin (front ++ done) session (Reorganize now.all) now.state m now.book spare now.begun second in
      let left = tells_left origin.begin.schema m a session half.0 now.all r half.2 (subst (λ h. IsFinish origin.begin.schema m session h r a) half.1 finish) p in
      let leaves = leaves_of origin from session done r left told in
      cannot_go origin session from front done agree own m book spare first second leaves.0 leaves.1 finishes.free step.0 v later step.1 k move (subst (λ c. Works origin.sizes step.0 c spare v later) so step.2)

  -- the moves that are left of two lines, and their Finishes
  moves_on : (from front done left right more rest : List Entry) (session : ℕ) (r q : Reply) → AllZip Agrees from front → AreOwn session done → AreOwn session left → AreOwn session right → TellsOf origin from session (done ++ left) r
      → TellsOf origin front session (done ++ right) q → AreAmple left → AreAmple right → IsAmple (Finish session r) → IsAmple (Finish session q)
      → Go (from ++ done) (front ++ done) ((left ++ Finish session r ∷ []) ++ more) ((right ++ Finish session q ∷ []) ++ rest)
      → Go ((from ++ done) ++ (left ++ Finish session r ∷ [])) ((front ++ done) ++ (right ++ Finish session q ∷ [])) more rest
  moves_on from front done [] [] more rest session r q agree own mine yours told also p k x y g =
      let b = g.beside in
      told_on (from ++ done) (front ++ done) more rest session r q x y
      (both_left origin session from front done agree own b.state b.book b.spare b.first b.second ground q r (subst (λ l. TellsOf origin from session l r) (append-nil done) told) (subst (λ l. TellsOf origin front session l q) (append-nil done) also)) g
  moves_on from front done [] (Start s c short ∷ right) more rest session r q agree own mine yours told also p k x y g = absurd yours.0
  moves_on from front done [] (Finish s t ∷ right) more rest session r q agree own mine yours told also p k x y g = absurd yours.0
  moves_on from front done [] (End s ∷ right) more rest session r q agree own mine yours told also p k x y g = absurd yours.0
  moves_on from front done [] (Mover of v ∷ right) more rest session r q agree own mine yours told also p k x y g =
      let b = g.beside in
      let i = g.first in
      let j = g.second in
      absurd (ends_first from front done more rest session r of v agree own yours.0 (subst (λ l. TellsOf origin from session l r) (append-nil done) told) x k.0 b.state i.0 j.0 b.book b.spare i.1 j.1 b.first b.second i.2 i.3 g.also.0 j.3)
  moves_on from front done (Start s c short ∷ left) right more rest session r q agree own mine yours told also p k x y g = absurd mine.0
  moves_on from front done (Finish s t ∷ left) right more rest session r q agree own mine yours told also p k x y g = absurd mine.0
  moves_on from front done (End s ∷ left) right more rest session r q agree own mine yours told also p k x y g = absurd mine.0
  moves_on from front done (Mover by w ∷ left) [] more rest session r q agree own mine yours told also p k x y g =
      let b = g.beside in
      let i = g.first in
      let j = g.second in
      absurd (ends_first front from done rest more session q by w (zip_back Agrees agrees_back from front agree) own mine.0 (subst (λ l. TellsOf origin front session l q) (append-nil done) also) y p.0 b.state j.0 i.0 b.spare b.book j.1 i.1
      b.second b.first j.2 j.3 g.moved.0 i.3)
  moves_on from front done (Mover by w ∷ left) (Start s c short ∷ right) more rest session r q agree own mine yours told also p k x y g = absurd yours.0
  moves_on from front done (Mover by w ∷ left) (Finish s t ∷ right) more rest session r q agree own mine yours told also p k x y g = absurd yours.0
  moves_on from front done (Mover by w ∷ left) (End s ∷ right) more rest session r q agree own mine yours told also p k x y g = absurd yours.0
  moves_on from front done (Mover by w ∷ left) (Mover of v ∷ right) more rest session r q agree own mine yours told also p k x y g =
      let one : Entry = Mover by w in
      let two : Entry = Mover of v in
      let end : List Entry = left ++ Finish session r ∷ [] in
      let close : List Entry = right ++ Finish session q ∷ [] in
      let same : two ≡ one = works_on from front done left right (end ++ more) (close ++ rest) session r q by of w v agree own mine.0 mine.1 yours.0 yours.1 told also p.0 k.0 g in
      let stepped = one_on origin after last made used (from ++ done) (front ++ done) (end ++ more) (close ++ rest) one two same g in
      let mid : (front ++ done) ++ two ∷ [] ≡ front ++ (done ++ one ∷ []) = append_assoc front done (two ∷ []) ∙ (λ i. front ++ (done ++ same i ∷ [])) in
      let here = cut ((from ++ done) ++ one ∷ []) (from ++ (done ++ one ∷ [])) ((front ++ done) ++ two ∷ []) (front ++ (done ++ one ∷ [])) (end ++ more) (end ++ more) (close ++ rest) (close ++ rest)
      (append_assoc from done (one ∷ [])) mid refl refl stepped in
      let rested = moves_on from front (done ++ one ∷ []) left right more rest session r q agree (own_joined session done (one ∷ []) own (mine.0, tt)) mine.1 yours.1
      (subst (λ l. TellsOf origin from session l r) (sym (append_assoc done (one ∷ []) left)) told)
      (subst (λ l. TellsOf origin front session l q) ((λ i. done ++ same i ∷ right) ∙ sym (append_assoc done (one ∷ []) right)) also) p.1 k.1 x y here in
      cut ((from ++ (done ++ one ∷ [])) ++ end) ((from ++ done) ++ (one ∷ end)) ((front ++ (done ++ one ∷ [])) ++ close) ((front ++ done) ++ (two ∷ close)) more more rest rest
      (ap (λ l. l ++ end) (sym (append_assoc from done (one ∷ []))) ∙ append_assoc (from ++ done) (one ∷ []) end) (ap (λ l. l ++ close) (sym mid) ∙ append_assoc (front ++ done) (two ∷ []) close) refl refl rested

  -- a line's Finish with its moves
  finish_on : (log other more rest : List Entry) (session : ℕ) (piece twin : List Entry) → IsFinishing origin log session piece → IsFinishing origin other session twin → AreAmple piece → AreAmple twin
      → Go log other (piece ++ more) (twin ++ rest) → Go (log ++ piece) (other ++ twin) more rest
  finish_on log other more rest session piece twin x y p q g =
      let a = finish_of origin log session piece x in
      let c = finish_of origin other session twin y in
      let well = ample_apart a.moves (Finish session a.reply ∷ []) (subst AreAmple a.joined p) in
      let good = ample_apart c.moves (Finish session c.reply ∷ []) (subst AreAmple c.joined q) in
      let here : log ++ [] ≡ log = append-nil log in
      let too : other ++ [] ≡ other = append-nil other in
      made_up log other more rest piece twin (a.moves ++ Finish session a.reply ∷ []) (c.moves ++ Finish session c.reply ∷ []) a.joined c.joined
      (λ h. cut ((log ++ []) ++ (a.moves ++ Finish session a.reply ∷ [])) (log ++ (a.moves ++ Finish session a.reply ∷ [])) ((other ++ []) ++ (c.moves ++ Finish session c.reply ∷ [])) (other ++ (c.moves ++ Finish session c.reply ∷ []))
      more more rest rest (ap (λ l. l ++ (a.moves ++ Finish session a.reply ∷ [])) here) (ap (λ l. l ++ (c.moves ++ Finish session c.reply ∷ [])) too) refl refl
      (moves_on log other [] a.moves c.moves more rest session a.reply c.reply (g.beside).agree tt a.own c.own a.told c.told well.0 good.0 well.1.0 good.1.0
      (cut log (log ++ []) other (other ++ []) ((a.moves ++ Finish session a.reply ∷ []) ++ more) ((a.moves ++ Finish session a.reply ∷ []) ++ more) ((c.moves ++ Finish session c.reply ∷ []) ++ rest)
      ((c.moves ++ Finish session c.reply ∷ []) ++ rest) (sym here) (sym too) refl refl h))) g

  begin_on : (log other more rest : List Entry) (by : Actor) (piece twin : List Entry) → BeginsTurn origin log by piece → BeginsTurn origin other by twin → AreAmple piece → AreAmple twin
      → Go log other (piece ++ more) (twin ++ rest) → Go (log ++ piece) (other ++ twin) more rest
  begin_on log other more rest by piece twin x y p q g =
      piece_on origin after last made used log other piece twin more rest (begins_together origin log other by piece twin (g.beside).agree x y p q) g

  end_on : (log other more rest : List Entry) (by : Actor) (piece twin : List Entry) → EndsTurn origin log by piece → EndsTurn origin other by twin → AreAmple piece → AreAmple twin
      → Go log other (piece ++ more) (twin ++ rest) → Go (log ++ piece) (other ++ twin) more rest
  end_on log other more rest by piece twin x y p q g =
      piece_on origin after last made used log other piece twin more rest (ends_together origin log other by piece twin (g.beside).agree x y p q) g

  -- one after the other
  both_on : (log other more rest first second front back : List Entry) → Go ((log ++ first) ++ second) ((other ++ front) ++ back) more rest → Go (log ++ (first ++ second)) (other ++ (front ++ back)) more rest
  both_on log other more rest first second front back g =
      cut ((log ++ first) ++ second) (log ++ (first ++ second)) ((other ++ front) ++ back) (other ++ (front ++ back)) more more rest rest (append_assoc log first second) (append_assoc other front back) refl refl g

  behind : (log other more rest first second front back : List Entry) → Go log other ((first ++ second) ++ more) ((front ++ back) ++ rest) → Go log other (first ++ (second ++ more)) (front ++ (back ++ rest))
  behind log other more rest first second front back g =
      cut log log other other ((first ++ second) ++ more) (first ++ (second ++ more)) ((front ++ back) ++ rest) (front ++ (back ++ rest)) refl refl (append_assoc first second more) (append_assoc front back rest) g

  step_on : (log other more rest : List Entry) (step : Step) (piece twin : List Entry) → IsPiece origin log step piece → IsPiece origin other step twin → AreAmple piece → AreAmple twin → Go log other (piece ++ more) (twin ++ rest) → Go (log ++ piece) (other ++ twin) more rest
  step_on log other more rest (Whole session text) piece twin (a, first, d, starts, ends) (b, second, e, begins, finishes) p q g =
      let well = subst AreAmple d p in
      let good = subst AreAmple e q in
      made_up log other more rest piece twin (a ∷ first) (b ∷ second) d e
      (λ h. both_on log other more rest (a ∷ []) first (b ∷ []) second
      (finish_on (log ++ a ∷ []) (other ++ b ∷ []) more rest session first second ends finishes well.1 good.1
      (start_on log other (first ++ more) (second ++ rest) session text a b starts begins well.0 good.0 h))) g
  step_on log other more rest (Begun session text) piece twin (a, d, starts) (b, e, begins) p q g =
      made_up log other more rest piece twin (a ∷ []) (b ∷ []) d e (λ h. start_on log other more rest session text a b starts begins (subst AreAmple d p).0 (subst AreAmple e q).0 h) g
  step_on log other more rest (Finished session) piece twin x y p q g = finish_on log other more rest session piece twin x y p q g
  step_on log other more rest (Turn mover) piece twin x y p q g =
      let well = ample_apart x.first x.last (subst AreAmple x.joined p) in
      let good = ample_apart y.first y.last (subst AreAmple y.joined q) in
      made_up log other more rest piece twin (x.first ++ x.last) (y.first ++ y.last) x.joined y.joined
      (λ h. both_on log other more rest x.first x.last y.first y.last
      (end_on (log ++ x.first) (other ++ y.first) more rest (actor.Mover mover) x.last y.last x.ends y.ends well.1 good.1
      (begin_on log other (x.last ++ more) (y.last ++ rest) (actor.Mover mover) x.first y.first x.begins y.begins well.0 good.0
      (behind log other more rest x.first x.last y.first y.last h)))) g
  step_on log other more rest (Claiming mover) piece twin x y p q g = begin_on log other more rest (actor.Mover mover) piece twin x y p q g
  step_on log other more rest (Installing mover) piece twin x y p q g = end_on log other more rest (actor.Mover mover) piece twin x y p q g

  pub steps_on : (steps : List Step) (log other more rest es fs : List Entry) → ArePieces origin log steps es → ArePieces origin other steps fs → AreAmple es → AreAmple fs
      → Go log other (es ++ more) (fs ++ rest) → Go (log ++ es) (other ++ fs) more rest
  steps_on [] log other more rest es fs x y p q g = piece_on origin after last made used log other es fs more rest (none x y) g
  steps_on (step ∷ steps) log other more rest es fs (piece, later, d, is, are) (twin, behind_it, e, also, too) p q g =
      let well = ample_apart piece later (subst AreAmple d p) in
      let good = ample_apart twin behind_it (subst AreAmple e q) in
      made_up log other more rest es fs (piece ++ later) (twin ++ behind_it) d e
      (λ h. both_on log other more rest piece later twin behind_it
      (steps_on steps (log ++ piece) (other ++ twin) more rest later behind_it are too well.1 good.1
      (step_on log other (later ++ more) (behind_it ++ rest) step piece twin is also well.0 good.0
      (behind log other more rest piece later twin behind_it h)))) g
