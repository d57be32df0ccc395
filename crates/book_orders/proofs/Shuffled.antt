-- Books that are one but for the order of packed versions: the relation, and what of claims is the same.
use Rattle.std.proofs.Common.{◌≡◌, Bool, List, [], ◌∷◌, filter, length, not, Some, refl, sym, ap, subst, ◌∙◌}
use Rattle.std.specs.Prelude.{◌==◌}
use Rattle.std.specs.List.{AllZip, list_any}
use Rattle.std.specs.List.Sorted.{IsPermutation}
use Rattle.std.proofs.lemmas.List.Sorted.{IsPermutation-refl, IsPermutation-sym, IsPermutation-trans, IsPermutation-map, length_permutation}
use Rattle.answer_laws.proofs.Moves.{filter-moved}
use Rattle.cs_model.specs.declared.work.Actor.{Actor}
use Rattle.cs_model.specs.declared.work.Work.TheVariants as work
use Rattle.group_book.specs.Book.{Version, Group, Choice, Claim, Book}
use Rattle.group_book.specs.Book.Choice.{Compress, Flush, Rebuild, Merge, Settle, Clear, Idle}
use Rattle.group_book.specs.Choices.{id_in, install_work, release_work}
use Rattle.group_book.specs.Orders.{IsGroupReordered, IsReordered}
use Rattle.group_book.specs.Turns.{is_id_of, is_claimed, is_gone, raised, is_by, first_claim, claim_by, without_claim, made_of}
use Rattle.group_book.proofs.Zips.{zip_itself, zip_through, zip_any, zip_filter}
use Rattle.book_orders.specs.Shuffled.{IsClaimShuffled, IsShuffled, AreClaimsShuffled}
use Rattle.book_orders.proofs.Lists.{zip_back}
use Rattle.book_orders.proofs.Contents.{group_itself, group_back, group_through}

-- ---- claims

claim_itself : (claim : Claim) → IsClaimShuffled claim claim
claim_itself claim = (claim.lent, IsPermutation-refl claim.lent, refl)

claim_back : (claim other : Claim) → IsClaimShuffled claim other → IsClaimShuffled other claim
claim_back claim other r = subst (λ z. IsClaimShuffled z claim) (sym r.2) (claim.lent, IsPermutation-sym claim.lent r.0 r.1, refl)

claim_through : (first second third : Claim) → IsClaimShuffled first second → IsClaimShuffled second third → IsClaimShuffled first third
claim_through first second third a =
    subst (λ z. IsClaimShuffled z third → IsClaimShuffled first third) (sym a.2) (λ b. (b.0, IsPermutation-trans first.lent a.0 b.0 a.1 b.1, b.2))

-- ---- books

pub shuffled_itself : (book : Book) → IsShuffled book book
shuffled_itself book = record {
  groups = zip_itself IsGroupReordered group_itself book.groups;
  buffer = refl;
  claims = zip_itself IsClaimShuffled claim_itself book.claims;
  next = refl;
}

pub shuffled_back : (book other : Book) → IsShuffled book other → IsShuffled other book
shuffled_back book other r = record {
  groups = zip_back IsGroupReordered group_back book.groups other.groups r.groups;
  buffer = sym r.buffer;
  claims = zip_back IsClaimShuffled claim_back book.claims other.claims r.claims;
  next = sym r.next;
}

pub shuffled_through : (first second third : Book) → IsShuffled first second → IsShuffled second third → IsShuffled first third
shuffled_through first second third a b = record {
  groups = zip_through IsGroupReordered group_through first.groups second.groups third.groups a.groups b.groups;
  buffer = b.buffer ∙ a.buffer;
  claims = zip_through IsClaimShuffled claim_through first.claims second.claims third.claims a.claims b.claims;
  next = b.next ∙ a.next;
}

pub shuffled_reordered : (book other : Book) → IsReordered book other → IsShuffled book other
shuffled_reordered book other r = record {
  groups = r.groups;
  buffer = r.buffer;
  claims = subst (AllZip IsClaimShuffled book.claims) (sym r.claims) (zip_itself IsClaimShuffled claim_itself book.claims);
  next = r.next;
}

-- ---- what of claims is the same

-- the groups that some claim has
pub same_claimed : (claims others : List Claim) → AllZip IsClaimShuffled claims others → (g h : Group) → h.id ≡ g.id → is_claimed claims g ≡ is_claimed others h
same_claimed claims others zip g h same = zip_any IsClaimShuffled (λ (claim : Claim). is_id_of claim.sources g) (λ (claim : Claim). is_id_of claim.sources h)
    (λ c d r. ap (λ n. list_any (λ id. id == n) c.sources) (sym same) ∙ ap (λ (z : Claim). is_id_of z.sources h) (sym r.2)) claims others zip

same_by : (by : Actor) (claim other : Claim) → IsClaimShuffled claim other → is_by by claim ≡ is_by by other
same_by by claim other r = ap (is_by by) (sym r.2)

pub kept_claims : (by : Actor) (claims others : List Claim) → AllZip IsClaimShuffled claims others → AllZip IsClaimShuffled (without_claim by claims) (without_claim by others)
kept_claims by claims others zip = zip_filter IsClaimShuffled (λ claim. not (is_by by claim)) (λ claim. not (is_by by claim)) (λ c d r. ap not (same_by by c d r)) claims others zip

pub shuffled_claim : (by : Actor) (book other : Book) → IsShuffled book other → AreClaimsShuffled (claim_by by book) (claim_by by other)
shuffled_claim by book other r = first (filter (is_by by) book.claims) (filter (is_by by) other.claims) (zip_filter IsClaimShuffled (is_by by) (is_by by) (same_by by) book.claims other.claims r.claims)
  where
    first : (claims others : List Claim) → AllZip IsClaimShuffled claims others → AreClaimsShuffled (first_claim claims) (first_claim others)
    first [] [] zip = tt
    first [] (d ∷ ds) zip = absurd zip
    first (c ∷ cs) [] zip = absurd zip
    first (c ∷ cs) (d ∷ ds) zip = zip.0

-- ---- their work

-- the versions that a claim makes of what it lent
pub made_moved : (claim : Claim) (moved : List Version) → IsPermutation claim.lent moved → IsPermutation (made_of claim) (made_of (record claim { lent = moved }))
made_moved claim moved p =
    let stays : Version → Bool = (λ version. not (is_gone claim.floor claim.entries version)) in
    IsPermutation-map (raised claim.floor) (filter stays claim.lent) (filter stays moved) (filter-moved stays claim.lent moved p)

install_moved : (claim : Claim) (moved : List Version) → IsPermutation claim.lent moved → (kind : Choice) → install_work kind claim ≡ install_work kind (record claim { lent = moved })
install_moved claim moved p kind = of kind
  where
    same : length (made_of claim) ≡ length (made_of (record claim { lent = moved }))
    same = sym (length_permutation (made_of claim) (made_of (record claim { lent = moved })) (made_moved claim moved p))

    of : (kind : Choice) → install_work kind claim ≡ install_work kind (record claim { lent = moved })
    of (Compress source) = ap (λ n. Some (work.InstallCompress source (id_in claim.fresh) n)) same
    of Flush = refl
    of (Rebuild source) = ap (λ n. Some (work.InstallRebuild source (id_in claim.fresh) n)) same
    of (Merge first second) = ap (λ n. Some (work.InstallMerge first second (id_in claim.fresh) n)) same
    of Settle = refl
    of Clear = refl
    of Idle = refl

release_moved : (claim : Claim) (moved : List Version) (kind : Choice) → release_work kind claim ≡ release_work kind (record claim { lent = moved })
release_moved claim moved (Compress source) = refl
release_moved claim moved Flush = refl
release_moved claim moved (Rebuild source) = refl
release_moved claim moved (Merge first second) = refl
release_moved claim moved Settle = refl
release_moved claim moved Clear = refl
release_moved claim moved Idle = refl

pub shuffled_install : (claim other : Claim) → IsClaimShuffled claim other → install_work claim.choice claim ≡ install_work other.choice other
shuffled_install claim other r = install_moved claim r.0 r.1 claim.choice ∙ ap (λ (z : Claim). install_work z.choice z) (sym r.2)

pub shuffled_release : (claim other : Claim) → IsClaimShuffled claim other → release_work claim.choice claim ≡ release_work other.choice other
shuffled_release claim other r = release_moved claim r.0 claim.choice ∙ ap (λ (z : Claim). release_work z.choice z) (sym r.2)
