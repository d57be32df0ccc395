-- An install keeps the book one of the changes.
use Rattle.std.proofs.Common.{◌≡◌, ℕ, ◌≤◌, ◌+◌, Bool, true, false, ◌&&◌, ◌||◌, cond, leb, List, [], ◌∷◌, ◌++◌, map, filter, not, length, get_or, refl, sym, ap, subst, ◌∙◌, arith}
use Rattle.std.specs.Prelude.{◌==◌, ◌≢◌}
use Rattle.std.specs.List.{All, AllByRecursion, list_any, Contains}
use Rattle.std.proofs.lemmas.Bool.Decides.{nat_tests}
use Rattle.std.proofs.lemmas.List.Elements.{recursion_from_All, All-contains, All-contains_itself, All-map}
use Rattle.cs_types.specs.declared.Key.{Key}
use Rattle.cs_model.specs.Changes.{Change}
use Rattle.group_book.specs.Book.{Version, Ending, Content, Group, Choice, Claim, Book, frozen, frozen_in, how_many, total, deleted, is_opened, is_closed, is_compressed, is_invisible}
use Rattle.group_book.specs.Book.Content.{Opened, Closed, Compressed, Invisible, Tombstone}
use Rattle.group_book.specs.Book.Choice.{Compress, Flush, Rebuild, Merge, Settle, Clear, Idle}
use Rattle.group_book.specs.Turns.{holds, is_id_of, is_fresh, is_by, versions_of, made_of, spent_of, is_none_left, without_claim, without_fresh, without_entries, after_install}
use Rattle.group_book.specs.Stocks.{stock_of, IsStockOf, is_end_of}
use Rattle.group_book.specs.Invariant.{IsSized, AreGroups, IsClaim, fresh_in, joined, IsBookOf, may_be_source, makes_group}
use Rattle.group_book.proofs.Lists.{All-in, all-left, all-right, weaker, how_many-append, list_any-none, some_pass, AreApart, apart_head, apart_tail}
use Rattle.group_book.proofs.Entries.{holds-filter, held_one}
use Rattle.group_book.proofs.Events.{source_is, install_stock}
use Rattle.group_book.proofs.Sized.{All-filter, claim_beside}
use Rattle.group_book.proofs.Steady.{KeepsGroup, IsSteady, changed, groups_changed, claim_changed, makers_same}
use Rattle.group_book.proofs.Released.{distinct_right, actors_filter, joined_filter, one_makes, makes_it, apart_pass, All-filter-in, any_kept, untrue, by_itself, not_made, release_is}

-- ---- a group is the source of one claim at most

abbrev pub sourced : Group → Claim → Bool
sourced g claim = is_id_of claim.sources g

no_member : (n : ℕ) (ids : List ℕ) → AllByRecursion (λ y. n ≢ y) ids → list_any (λ id. id == n) ids ≡ false
no_member n ids apart = list_any-none (λ id. id == n) ids (weaker (λ y. n ≢ y) (λ id. (id == n) ≡ false) ids (λ y away. step y away (y == n) refl) apart)
  where
    step : (y : ℕ) → (n ≢ y) → (t : Bool) → (y == n) ≡ t → t ≡ false
    step y away true is = absurd (away (grind (arith, nat_tests)))
    step y away false is = refl

none_sources : (g : Group) (cs : List Claim) → AllByRecursion (λ y. g.id ≢ y) (joined (λ (c : Claim). c.sources) cs) → how_many (sourced g) cs ≡ 0
none_sources g [] all = refl
none_sources g (c ∷ cs) all = rw (no_member g.id c.sources (all-left (λ y. g.id ≢ y) c.sources (joined (λ (d : Claim). d.sources) cs) all)) (let rest = none_sources g cs (all-right (λ y. g.id ≢ y) c.sources (joined (λ (d : Claim). d.sources) cs) all) in omega (arith, rest))

member_apart : (n : ℕ) (xs ys : List ℕ) → AreApart (xs ++ ys) → list_any (λ id. id == n) xs ≡ true → AllByRecursion (λ y. n ≢ y) ys
member_apart n [] ys d is = absurd (cc is)
member_apart n (x ∷ xs) ys d is = step (x == n) refl is (member_apart n xs ys (apart_tail x (xs ++ ys) d))
  where
    step : (t : Bool) → (x == n) ≡ t → (t || list_any (λ id. id == n) xs) ≡ true → (list_any (λ id. id == n) xs ≡ true → AllByRecursion (λ y. n ≢ y) ys) → AllByRecursion (λ y. n ≢ y) ys
    step true same is rest =
        let e : x ≡ n = grind (arith, nat_tests) in
        subst (λ m. AllByRecursion (λ y. m ≢ y) ys) e (all-right (λ y. x ≢ y) xs ys (recursion_from_All (λ y. x ≢ y) (xs ++ ys) (apart_head x (xs ++ ys) d)))
    step false same is rest = rest is

pub one_source : (g : Group) (claims : List Claim) → AreApart (joined (λ (c : Claim). c.sources) claims) → how_many (sourced g) claims ≤ 1
one_source g [] d = omega arith
one_source g (c ∷ cs) d = step (is_id_of c.sources g) refl (one_source g cs (distinct_right c.sources (joined (λ (e : Claim). e.sources) cs) d))
  where
    step : (t : Bool) → is_id_of c.sources g ≡ t → how_many (sourced g) cs ≤ 1 → cond t 1 0 + how_many (sourced g) cs ≤ 1
    step true is rest = let none = none_sources g cs (member_apart g.id c.sources (joined (λ (e : Claim). e.sources) cs) d is) in omega (arith, none)
    step false is rest = omega (arith, rest)

-- ---- counts in two groups of groups

two_parts : (q : Version → Bool) (a b : Group → Bool) (gs : List Group) → AllByRecursion (λ g. a g ≡ true → b g ≡ false) gs → how_many q (frozen (filter a gs)) + how_many q (frozen (filter b gs)) ≤ how_many q (frozen gs)
two_parts q a b [] all = omega arith
two_parts q a b (g ∷ gs) all = step (a g) (b g) all.0 (two_parts q a b gs all.1)
  where
    step : (s t : Bool) → (s ≡ true → t ≡ false) → how_many q (frozen (filter a gs)) + how_many q (frozen (filter b gs)) ≤ how_many q (frozen gs)
        → how_many q (frozen (cond s (g ∷ filter a gs) (filter a gs))) + how_many q (frozen (cond t (g ∷ filter b gs) (filter b gs))) ≤ how_many q (frozen_in g.content ++ frozen gs)
    step true true apart rest = absurd (cc (apart refl))
    step true false apart rest = omega (arith, rest, how_many-append q (frozen_in g.content) (frozen (filter a gs)), how_many-append q (frozen_in g.content) (frozen gs))
    step false true apart rest = omega (arith, rest, how_many-append q (frozen_in g.content) (frozen (filter b gs)), how_many-append q (frozen_in g.content) (frozen gs))
    step false false apart rest = omega (arith, rest, how_many-append q (frozen_in g.content) (frozen gs))

-- a claim stays where entries go that it was not lent
pub claim_spent : (group_rows : ℕ) (b : Book) (cs : List Change) (floor : ℕ) (o : Claim) (spent : List Ending) (claims : List Claim) (next : ℕ) → ((k : Key) (e : ℕ) → holds o.entries k e ≡ true → holds spent k e ≡ false)
    → IsClaim group_rows b cs floor o → IsClaim group_rows (record { groups = b.groups; buffer = without_entries spent b.buffer; claims = claims; next = next }) cs floor o
claim_spent group_rows b cs floor o spent claims next apart c = record {
  below = c.below;
  kind = c.kind;
  there = c.there;
  sources = c.sources;
  makes = c.makes;
  fresh = c.fresh;
  once = c.once;
  lent = record {
    versions = c.lent.versions;
    gone = c.lent.gone;
    spent = All-filter (λ (x : Ending). holds (spent_of o) x.key x.end ≡ (leb x.end o.floor && list_any (is_end_of cs x) o.lent)) (λ (x : Ending). not (holds spent x.key x.end)) b.buffer c.lent.spent;
    held = λ k e is. holds-filter (λ q d. not (holds spent q d)) b.buffer k e ∙ rw (c.lent.held k e is, apart k e is) refl;
    owned = c.lent.owned;
  };
  room = c.room;
}

shut_closed : (content : Content) → is_closed content ≡ true → is_opened content ≡ false
shut_closed (Opened versions) is = cc
shut_closed (Closed versions) is = refl
shut_closed (Compressed versions) is = refl
shut_closed Invisible is = refl
shut_closed (Tombstone versions ends) is = refl

shut_packed : (content : Content) → is_compressed content ≡ true → is_opened content ≡ false
shut_packed (Opened versions) is = cc
shut_packed (Closed versions) is = refl
shut_packed (Compressed versions) is = refl
shut_packed Invisible is = refl
shut_packed (Tombstone versions ends) is = refl

pub shut_invisible : (content : Content) → is_invisible content ≡ true → is_opened content ≡ false
shut_invisible (Opened versions) is = cc
shut_invisible (Closed versions) is = refl
shut_invisible (Compressed versions) is = refl
shut_invisible Invisible is = refl
shut_invisible (Tombstone versions ends) is = refl

pub shut_source : (choice : Choice) (content : Content) → may_be_source choice content ≡ true → is_opened content ≡ false
shut_source (Compress source) content is = shut_closed content is
shut_source Flush content is = shut_packed content is
shut_source (Rebuild source) content is = shut_packed content is
shut_source (Merge first second) content is = shut_packed content is
shut_source Settle content is = cc
shut_source Clear content is = cc
shut_source Idle content is = cc

module _ (group_rows : ℕ) (book : Book) (cs : List Change) (floor : ℕ) (claim : Claim) (j : IsBookOf group_rows book cs floor) (in_list : Contains book.claims claim) where
  c : IsClaim group_rows book cs floor claim
  c = All-contains (IsClaim group_rows book cs floor) book.claims claim j.claims.each in_list

  pub by_claim : is_by claim.actor claim ≡ true
  by_claim = by_itself group_rows book cs floor claim j in_list

  abbrev pub others : List Claim
  others = without_claim claim.actor book.claims

  abbrev new_content : Group → Content
  new_content g = cond (is_id_of claim.sources g) (Tombstone (total g.content) (deleted g.content)) (cond (is_fresh claim.fresh g) (Compressed (made_of claim)) g.content)

  pub of_claim : (g : Group) → Contains book.groups g → is_id_of claim.sources g ≡ true → may_be_source claim.choice g.content ≡ true
  of_claim g in_groups = All-contains (λ (h : Group). is_id_of claim.sources h ≡ true → may_be_source claim.choice h.content ≡ true) book.groups g c.sources in_groups

  fresh_claim : (g : Group) → Contains book.groups g → is_fresh claim.fresh g ≡ true → is_invisible g.content ≡ true
  fresh_claim g in_groups = All-contains (λ (h : Group). is_fresh claim.fresh h ≡ true → is_invisible h.content ≡ true) book.groups g c.fresh in_groups

  same_content : (g : Group) → is_id_of claim.sources g ≡ false → is_fresh claim.fresh g ≡ false → new_content g ≡ g.content
  same_content g s f = rw (s, f) refl

  visible : (choice : Choice) (g : Group) → (t : Bool) → may_be_source choice g.content ≡ true → (t ≡ true → is_invisible g.content ≡ true) → t ≡ false
  visible choice g true source fresh = cc ((source_is choice g.content source).1, fresh refl)
  visible choice g false source fresh = refl

  module _ (o : Claim) (in_o : Contains book.claims o) (by : is_by claim.actor o ≡ false) where
    pub o_is : IsClaim group_rows book cs floor o
    o_is = All-contains (IsClaim group_rows book cs floor) book.claims o j.claims.each in_o

    pub other_source : (g : Group) → is_id_of o.sources g ≡ true → is_id_of claim.sources g ≡ false
    other_source g is = apart_pass (λ z. not (is_by claim.actor z)) (sourced g) book.claims (one_source g book.claims j.claims.sources) o claim in_o in_list (rw by refl) (rw by_claim refl) is (is_id_of claim.sources g) refl

    steady_at : (g : Group) → Contains book.groups g → IsSteady new_content o.sources o.fresh g
    steady_at g in_groups =
        let o_sources = All-contains (λ (h : Group). is_id_of o.sources h ≡ true → may_be_source o.choice h.content ≡ true) book.groups g o_is.sources in_groups in
        let o_fresh = All-contains (λ (h : Group). is_fresh o.fresh h ≡ true → is_invisible h.content ≡ true) book.groups g o_is.fresh in_groups in
        record {
          source = λ is. same_content g (other_source g is) (visible o.choice g (is_fresh claim.fresh g) (o_sources is) (fresh_claim g in_groups));
          fresh_group = λ is. same_content g
              (no_source (is_id_of claim.sources g) (of_claim g in_groups) (o_fresh is))
              (apart_pass (λ z. not (is_by claim.actor z)) (makes_it g) book.claims (one_makes g book.claims j.claims.fresh) o claim in_o in_list (rw by refl) (rw by_claim refl) is (is_fresh claim.fresh g) refl);
        }
      where
        no_source : (t : Bool) → (t ≡ true → may_be_source claim.choice g.content ≡ true) → is_invisible g.content ≡ true → t ≡ false
        no_source true source invisible = cc ((source_is claim.choice g.content (source refl)).1, invisible)
        no_source false source invisible = refl

    -- no entry is lent twice
    abbrev entry : Key → ℕ → Ending
    entry k e = record { key = k; end = e }

    alike : (x : Ending) (k : Key) (e : ℕ) (vs : List Version) → x.key ≡ k → x.end ≡ e → list_any (is_end_of cs x) vs ≡ true → list_any (is_end_of cs (entry k e)) vs ≡ true
    alike x k e vs key end h = ap (λ (q : Key). list_any (is_end_of cs (entry q e)) vs) (sym key) ∙ ap (λ (n : ℕ). list_any (is_end_of cs (entry x.key n)) vs) (sym end) ∙ h

    owner_of : (d : Claim) → IsClaim group_rows book cs floor d → (k : Key) (e : ℕ) → holds d.entries k e ≡ true → 1 ≤ how_many (is_end_of cs (entry k e)) (versions_of d.sources book.groups)
    owner_of d d_is k e is =
        let one = held_one (λ (x : Ending). list_any (is_end_of cs x) d.lent ≡ true) d.entries k e (recursion_from_All _ d.entries d_is.lent.owned) is in
        some_pass (is_end_of cs (entry k e)) (versions_of d.sources book.groups) (subst (λ l. list_any (is_end_of cs (entry k e)) l ≡ true) (sym d_is.lent.versions) (alike one.0 k e d.lent one.1 one.2 one.3))

    one_owner : (k : Key) (e : ℕ) → holds book.buffer k e ≡ true → how_many (is_end_of cs (entry k e)) (frozen book.groups) ≡ 1
    one_owner k e is =
        let one = held_one (λ (x : Ending). how_many (is_end_of cs x) (frozen book.groups) ≡ 1) book.buffer k e (recursion_from_All _ book.buffer j.stock.entries.owned) is in
        ap (λ (q : Key). how_many (is_end_of cs (entry q e)) (frozen book.groups)) (sym one.1) ∙ ap (λ (n : ℕ). how_many (is_end_of cs (entry one.0.key n)) (frozen book.groups)) (sym one.2) ∙ one.3

    pub lent_once : (k : Key) (e : ℕ) → holds o.entries k e ≡ true → (t : Bool) → holds claim.entries k e ≡ t → t ≡ false
    lent_once k e is true both =
        absurd (omega (
          arith,
          owner_of o o_is k e is,
          owner_of claim c k e both,
          one_owner k e (o_is.lent.held k e is),
          two_parts (is_end_of cs (entry k e)) (is_id_of o.sources) (is_id_of claim.sources) book.groups (all_sources book.groups),
        ))
      where
        all_sources : (gs : List Group) → AllByRecursion (λ g. is_id_of o.sources g ≡ true → is_id_of claim.sources g ≡ false) gs
        all_sources [] = tt
        all_sources (g ∷ gs) = (other_source g, all_sources gs)
    lent_once k e is false both = refl

    unspent : (k : Key) (e : ℕ) → holds o.entries k e ≡ true → holds (spent_of claim) k e ≡ false
    unspent k e is = holds-filter (λ q d. leb d claim.floor) claim.entries k e ∙ rw (lent_once k e is (holds claim.entries k e) refl) refl

    other_kept : (b : Book) → b.buffer ≡ book.buffer → All (Contains book.groups) b.groups → IsClaim group_rows b cs floor o
        → IsClaim group_rows (record { groups = map (changed new_content) b.groups; buffer = without_entries (spent_of claim) b.buffer; claims = others; next = book.next }) cs floor o
    other_kept b same within is =
        claim_spent group_rows (record b { groups = map (changed new_content) b.groups }) cs floor o (spent_of claim) others book.next unspent
        (claim_changed new_content group_rows b cs floor o (All-in (Contains book.groups) (IsSteady new_content o.sources o.fresh) b.groups (λ g _ in_groups. steady_at g in_groups) within) is)

  -- ---- the groups

  keeps : makes_group claim.choice ≡ true → (g : Group) → Contains book.groups g → (is_fresh claim.fresh g ≡ true → 1 ≤ length (made_of claim)) → KeepsGroup new_content group_rows g
  keeps makes g in_groups some = record { opened = λ is. sym (open_step (is_id_of claim.sources g) (is_fresh claim.fresh g) (of_claim g in_groups) (fresh_claim g in_groups)) ∙ is; sized = size_step (is_id_of claim.sources g) (is_fresh claim.fresh g) some }
    where
      open_step : (s f : Bool) → (s ≡ true → may_be_source claim.choice g.content ≡ true) → (f ≡ true → is_invisible g.content ≡ true) → is_opened (cond s (Tombstone (total g.content) (deleted g.content)) (cond f (Compressed (made_of claim)) g.content)) ≡ is_opened g.content
      open_step true f source fresh = sym (shut_source claim.choice g.content (source refl))
      open_step false true source fresh = sym (shut_invisible g.content (fresh refl))
      open_step false false source fresh = refl

      size_step : (s f : Bool) → (f ≡ true → 1 ≤ length (made_of claim)) → IsSized group_rows g.content → IsSized group_rows (cond s (Tombstone (total g.content) (deleted g.content)) (cond f (Compressed (made_of claim)) g.content))
      size_step true f some sized = tt
      size_step false true some sized = (some refl, c.room makes)
      size_step false false some sized = sized

  -- a group that is invisible afterwards is made by another claim
  abbrev left_of : Bool → Bool → Content → Content
  left_of s f content = cond s (Tombstone (total content) (deleted content)) (cond f (Compressed (made_of claim)) content)

  not_tombstone : (s f : Bool) (content : Content) → is_invisible (left_of s f content) ≡ true → (s ≡ false) × (f ≡ false) × (is_invisible content ≡ true)
  not_tombstone true f content is = cc
  not_tombstone false true content is = cc
  not_tombstone false false content is = (refl, refl, is)

  made_by_other : (g : Group) → Contains book.groups g → is_invisible (new_content g) ≡ true → list_any (makes_it g) others ≡ true
  made_by_other g in_groups is =
      let parts = not_tombstone (is_id_of claim.sources g) (is_fresh claim.fresh g) g.content is in
      any_kept (is_by claim.actor) (makes_it g) book.claims
      (recursion_from_All (λ other. is_by claim.actor other ≡ true → makes_it g other ≡ false) book.claims (All-in (Contains book.claims) (λ other. is_by claim.actor other ≡ true → makes_it g other ≡ false) book.claims
      (λ other in_other _ by. not_made group_rows book cs floor claim j in_list g parts.1 other in_other by (is_fresh other.fresh g) refl) (All-contains_itself book.claims)))
      (All-contains (λ (h : Group). is_invisible h.content ≡ true → list_any (makes_it h) book.claims ≡ true) book.groups g j.claims.made in_groups parts.2)

  abbrev pub base : List Group → Book
  base gs = record { groups = gs; buffer = book.buffer; claims = others; next = book.next }

  abbrev final : List Group → Book
  final gs = record { groups = map (changed new_content) gs; buffer = without_entries (spent_of claim) book.buffer; claims = others; next = book.next }

  pub other_all : All (λ o. Contains book.claims o × (is_by claim.actor o ≡ false)) others
  other_all = All-filter-in (λ o. Contains book.claims o × (is_by claim.actor o ≡ false)) (λ o. not (is_by claim.actor o)) book.claims (λ o in_o kept. (in_o, untrue (is_by claim.actor o) kept))

  finish : makes_group claim.choice ≡ true → (gs : List Group) → AreGroups group_rows (base gs) → All (IsClaim group_rows (base gs) cs floor) others → All (Contains book.groups) gs → All (λ (g : Group). is_fresh claim.fresh g ≡ true → 1 ≤ length (made_of claim)) gs
      → IsStockOf (stock_of (final gs)) cs floor → IsBookOf group_rows (final gs) cs floor
  finish makes gs groups1 each1 within some stock = record {
    stock = stock;
    groups = let g = groups_changed new_content group_rows (base gs) (recursion_from_All (KeepsGroup new_content group_rows) gs (All-in (Contains gs) (KeepsGroup new_content group_rows) gs (λ g in_gs _. keeps makes g (All-contains (Contains book.groups) gs g within in_gs) (All-contains (λ (h : Group). is_fresh claim.fresh h ≡ true → 1 ≤ length (made_of claim)) gs g some in_gs)) (All-contains_itself gs))) groups1 in
        record { by_id = g.by_id; below = g.below; one = g.one; sized = g.sized };
    claims = record {
      actors = actors_filter (λ other. not (is_by claim.actor other)) book.claims j.claims.actors;
      sources = joined_filter (λ (d : Claim). d.sources) (λ other. not (is_by claim.actor other)) book.claims j.claims.sources;
      fresh = joined_filter (λ (d : Claim). fresh_in d.fresh) (λ other. not (is_by claim.actor other)) book.claims j.claims.fresh;
      made = All-map (λ (g : Group). is_invisible g.content ≡ true → list_any (makes_it g) others ≡ true) (changed new_content) gs
          (All-in (Contains book.groups) (λ (g : Group). is_invisible (new_content g) ≡ true → list_any (makes_it (changed new_content g)) others ≡ true) gs
          (λ g _ in_groups is. makers_same new_content g others ∙ made_by_other g in_groups is) within);
      each = λ k d inside. let fact = other_all k d inside in other_kept (get_or others k d) fact.0 fact.1 (base gs) refl within (each1 k d inside);
    };
  }

  nonempty : (versions : List Version) → is_none_left versions ≡ false → 1 ≤ length versions
  nonempty [] is = cc
  nonempty (v ∷ vs) is = omega arith

  abbrev less : List Group
  less = without_fresh claim.fresh book.groups

  step : makes_group claim.choice ≡ true → (t : Bool) → is_none_left (made_of claim) ≡ t → IsStockOf (stock_of (final (cond t less book.groups))) cs floor → IsBookOf group_rows (final (cond t less book.groups)) cs floor
  step makes true is stock =
      let r = release_is group_rows book cs floor claim j in_list in
      finish makes less r.groups r.claims.each (All-filter (Contains book.groups) (λ g. not (is_fresh claim.fresh g)) book.groups (All-contains_itself book.groups))
      (All-filter-in (λ (g : Group). is_fresh claim.fresh g ≡ true → 1 ≤ length (made_of claim)) (λ g. not (is_fresh claim.fresh g)) book.groups (λ g _ kept fresh. cc (untrue (is_fresh claim.fresh g) kept, fresh))) stock
  step makes false is stock =
      finish makes book.groups (record { by_id = j.groups.by_id; below = j.groups.below; one = j.groups.one; sized = j.groups.sized })
      (All-filter-in (IsClaim group_rows (base book.groups) cs floor) (λ o. not (is_by claim.actor o)) book.claims (λ o in_o _. claim_beside group_rows book others cs floor o (All-contains (IsClaim group_rows book cs floor) book.claims o j.claims.each in_o)))
      (All-contains_itself book.groups)
      (All-in (Contains book.groups) (λ (g : Group). is_fresh claim.fresh g ≡ true → 1 ≤ length (made_of claim)) book.groups (λ g _ _ _. nonempty (made_of claim) is) (All-contains_itself book.groups)) stock

  pub install_is : makes_group claim.choice ≡ true → IsBookOf group_rows (after_install claim book) cs floor
  install_is makes = step makes (is_none_left (made_of claim)) refl (install_stock group_rows book cs floor claim j.stock c makes)
