-- What a round leaves may run again over the blocks that are bound then; and with that a round that starts safely ends so.
use Rattle.std.proofs.Common.{◌≡◌, ◌≢◌, ℕ, List, [], ◌∷◌, true, false, bytes_eq, is_some, Option, Some, None, Contains, ◌⊎◌, inl, inr, ⊎_elim, refl, sym, ap, ◌∙◌, subst}
use Rattle.std.proofs.lemmas.Bool.{cases_Bool}
use Rattle.std.proofs.lemmas.Slice.Eq.{bytes_eq-Decides}
use Rattle.std.specs.List.{AllByRecursion}
use Rattle.zio_types.specs.declared.error.Errno.{Errno}
use Rattle.zio_types.specs.Choices.{Choice}
use Rattle.zio_script.specs.declared.script.Request.{Request}
use Rattle.zio_script.specs.declared.script.Work.{Work}
use Rattle.zio_script.specs.declared.script.Work.TheVariants.{Null, Read, Write, Free, Claim}
use Rattle.zio_script.specs.Requests.{name_of, names_it}
use Rattle.zio_cksum.proofs.AllLemmas.{all_append, all_contains, all_weaker}
use Rattle.zio_gang.specs.declared.tree.Tree.{Tree}
use Rattle.zio_gang.specs.Attempts.{Ended, Pending}
use Rattle.zio_gang.specs.Rounds.{Bound, bind_made, block_of, bound_after, bound_by, bound_unless, settle_each}
use Rattle.zio_gang.proofs.BoundLemmas.{block_of-bind-other, block_of-unbind-other}
use Rattle.zio_trace.specs.RunTraces.{RoundStart}
use Rattle.zio_trace.specs.Separate.{IsNoClaim}
use Rattle.zio_trace.specs.SoundRounds.{IsRead}
use Rattle.zio_trace.proofs.PairLemmas.{all_of, pairs_stronger, pairs_two}
use Rattle.zio_heal.specs.Discipline.{IsUnfailing}
use Rattle.zio_heal.specs.Given.{Deeds}
use Rattle.zio_heal.specs.SafeBlocks.{Contents}
use Rattle.zio_heal.specs.SafeRounds.{AreReady, HaveChildren, IsReady, IsSafeEnd, IsSafeStart, NamesApart, NamesWell, NumbersDiffer, requests_in}
use Rattle.zio_heal.proofs.AfterContents.{IsTold, after, all_ends, all_told, apart_from, apart_names, ended_well, no_errors, others_same}
use Rattle.zio_heal.proofs.BoundAfter.{safe_after}
use Rattle.zio_heal.proofs.BoundBlocks.{Q, answers, claims, from_itself, kids, tells}
use Rattle.zio_heal.proofs.CleanRounds.{clean_law}
use Rattle.zio_heal.proofs.EndedBlocks.{sizes_after}
use Rattle.zio_heal.proofs.EndedRequests.{IsFrom, from_stable}
use Rattle.zio_heal.proofs.KidsLemmas.{IsFitting, LeftKids, round_kids}

-- ---- a name that no request changes

-- the request ended without error, and changes another name or none
pub record ChangesOther (m : List ℕ) (e : Ended) : Type 0 where
  pub none : e.error ≡ None
  pub other : (n : List ℕ) → (IsRead e.request.work → ⊥) → name_of e.request.work ≡ Some n → m ≢ n

made_other : (n m : List ℕ) (tree : Option Tree) (bound : Bound) → m ≢ n → block_of (bind_made n tree bound) m ≡ block_of bound m
made_other n m None bound ne = refl
made_other n m (Some tree) bound ne = block_of-bind-other n m tree bound ne

work_other : (work : Work) (m : List ℕ) (tree : Option Tree) (bound : Bound) → ((n : List ℕ) → (IsRead work → ⊥) → name_of work ≡ Some n → m ≢ n) → block_of (bound_by work tree bound) m ≡ block_of bound m
work_other Null m tree bound f = refl
work_other (Read n prio) m tree bound f = refl
work_other (Write n sum copies prio body) m tree bound f = made_other n m tree bound (f n (λ r. r) refl)
work_other (Free n) m tree bound f = block_of-unbind-other n m bound (f n (λ r. r) refl)
work_other (Claim n pointer) m tree bound f = made_other n m tree bound (f n (λ r. r) refl)

pub still_bound : (m : List ℕ) (es : List Ended) (bound : Bound) → AllByRecursion (ChangesOther m) es → block_of (bound_after es bound) m ≡ block_of bound m
still_bound m [] bound h = refl
still_bound m (e ∷ es) bound h =
    still_bound m es (bound_unless e.error e bound) h.1
    ∙ ap (λ (x : Option Errno). block_of (bound_unless x e bound) m) h.0.none
    ∙ work_other e.request.work m e.tree bound h.0.other

named_still : (old new : Bound) (work : Work) (block : Option Tree) → ((m : List ℕ) → name_of work ≡ Some m → block_of new m ≡ block_of old m) → NamesWell old work block → NamesWell new work block
named_still old new Null block same h = h
named_still old new (Read name prio) block same h = record { there = h.there; is = h.is ∙ sym (same name refl) }
named_still old new (Write name sum copies prio body) block same h = (h.0, ap (λ (o : Option Tree). is_some o) (same name refl) ∙ h.1)
named_still old new (Free name) block same h = record { there = h.there; is = h.is ∙ sym (same name refl) }
named_still old new (Claim name pointer) block same h = h

-- ---- names apart

turned_bytes : (a b : List ℕ) → bytes_eq a b ≡ false → bytes_eq b a ≡ false
turned_bytes a b differs =
    ⊎_elim
    (λ (yes : bytes_eq b a ≡ true).
    let e : false ≡ true = sym differs ∙ (bytes_eq-Decides a b).1 (sym ((bytes_eq-Decides b a).0 yes)) in
    absurd (cc))
    (λ (k : bytes_eq b a ≡ false). k)
    (cases_Bool (bytes_eq b a))

pub turned_names : (a b : Option (List ℕ)) → names_it a b ≡ false → names_it b a ≡ false
turned_names None None h = refl
turned_names None (Some y) h = refl
turned_names (Some x) None h = refl
turned_names (Some x) (Some y) h = turned_bytes x y h

turned_apart : (p q : Pending) → NamesApart p q → NamesApart q p
turned_apart p q (inl one) = inl (turned_names (name_of p.request.work) (name_of q.request.work) one)
turned_apart p q (inr reads) = inr (reads.1, reads.0)

same_apart : (p q a b : Pending) → a.request ≡ p.request → b.request ≡ q.request → NamesApart a b → NamesApart p q
same_apart p q a b ea eb h =
    subst (λ (w : Work). (names_it (name_of w) (name_of q.request.work) ≡ false) ⊎ (IsRead w × IsRead q.request.work)) (ap (λ (r : Request). r.work) ea)
    (subst (λ (w : Work). (names_it (name_of a.request.work) (name_of w) ≡ false) ⊎ (IsRead a.request.work × IsRead w)) (ap (λ (r : Request). r.work) eb) h)

joined_all : (P : Pending → Type 0) (trees : List (List Pending)) → AllByRecursion (AllByRecursion P) trees → AllByRecursion P (requests_in trees)
joined_all P [] h = tt
joined_all P (tree ∷ trees) h = all_append P tree (requests_in trees) h.0 (joined_all P trees h.1)

module _ (journal : List Choice) (sizes : ℕ → ℕ) (ds : Deeds) (contents : Contents) (children : ℕ → ℕ) (s : RoundStart) (h : IsSafeStart journal sizes ds contents children s) where
  abbrev ended : List Ended
  ended = (settle_each journal s.terms s.trees s.images).ended

  abbrev left : List (List Pending)
  left = (settle_each journal s.terms s.trees s.images).left

  abbrev requests : List Pending
  requests = Q journal sizes ds contents children s h

  pub left_from : AllByRecursion (IsFrom requests) (requests_in left)
  left_from = (tells journal sizes ds contents children s h).again (IsFrom requests) (from_stable requests) (from_itself journal sizes ds contents children s h)

  -- what ended changes no name of what is left
  pub changes_other : (p : Pending) (m : List ℕ) → Contains (requests_in left) p → name_of p.request.work ≡ Some m → AllByRecursion (ChangesOther m) ended
  changes_other p m lp named =
      let from : IsFrom requests p = all_contains (IsFrom requests) (requests_in left) p left_from lp in
      all_of (ChangesOther m) ended
      (λ e le.
      let told : IsTold journal sizes ds contents children s h (after journal sizes ds contents children s h) e = all_contains (IsTold journal sizes ds contents children s h (after journal sizes ds contents children s h)) ended e (all_told journal sizes ds contents children s h) le in
      let ne : p.request.number ≢ e.request.number =
      all_contains (λ (q : Pending). q.request.number ≢ e.request.number) (requests_in left) p
      (all_contains (λ (x : Ended). AllByRecursion (λ (q : Pending). q.request.number ≢ x.request.number) (requests_in left)) ended e (tells journal sizes ds contents children s h).apart le) lp in
      let apart = apart_from journal sizes ds contents children s h 0 from.source e told.ends from.listed (λ same. ne (ap (λ (r : Request). r.number) (sym from.request) ∙ same)) in
      record {
        none = told.none;
        other = λ n no_read is same.
            apart_names e.request.work from.source.request.work n m apart no_read is (ap (λ (r : Request). name_of r.work) from.request ∙ named) (sym same);
      })

  pub kids_left : AllByRecursion (LeftKids journal s.terms children sizes h.pool (answers journal sizes ds contents children s h)) left
  kids_left = round_kids journal s.terms children sizes h.pool (answers journal sizes ds contents children s h) s.trees s.images (kids journal sizes ds contents children s h)

  fitting_left : AllByRecursion (IsFitting children) (requests_in left)
  fitting_left = joined_all (IsFitting children) left (all_weaker (LeftKids journal s.terms children sizes h.pool (answers journal sizes ds contents children s h)) (AllByRecursion (IsFitting children)) left (λ tree k. k.fitting) kids_left)

  one_ready : (p : Pending) → Contains (requests_in left) p → IsReady (bound_after ended s.bound) children p
  one_ready p lp =
      let unfailing : AllByRecursion IsUnfailing (requests_in left) = joined_all IsUnfailing left (no_errors journal sizes ds contents children s h).1 in
      let claimless : AllByRecursion (λ (q : Pending). IsNoClaim q.request.work) (requests_in left) =
      (tells journal sizes ds contents children s h).again (λ (q : Pending). IsNoClaim q.request.work) (λ q kept k. k) (claims journal sizes ds contents children s h) in
      let named : AllByRecursion (λ (q : Pending). NamesWell s.bound q.request.work q.block) (requests_in left) =
      (tells journal sizes ds contents children s h).again (λ (q : Pending). NamesWell s.bound q.request.work q.block) (λ q kept k. k)
      (all_weaker (IsReady s.bound children) (λ (q : Pending). NamesWell s.bound q.request.work q.block) requests (λ q k. k.named) h.ready.each) in
      let fits : IsFitting children p = all_contains (IsFitting children) (requests_in left) p fitting_left lp in
      record {
        unfailing = all_contains IsUnfailing (requests_in left) p unfailing lp;
        claims = all_contains (λ (q : Pending). IsNoClaim q.request.work) (requests_in left) p claimless lp;
        named = named_still s.bound (bound_after ended s.bound) p.request.work p.block
            (λ m is. still_bound m ended s.bound (changes_other p m lp is))
            (all_contains (λ (q : Pending). NamesWell s.bound q.request.work q.block) (requests_in left) p named lp);
        fits = fits.fits;
        kept = fits.kept;
      }

  two_apart : (p q : Pending) → Contains (requests_in left) p → Contains (requests_in left) q → NumbersDiffer p q → NamesApart p q
  two_apart p q lp lq ne =
      let a : IsFrom requests p = all_contains (IsFrom requests) (requests_in left) p left_from lp in
      let b : IsFrom requests q = all_contains (IsFrom requests) (requests_in left) q left_from lq in
      same_apart p q a.source b.source a.request b.request
      (⊎_elim
      (λ (same : a.source ≡ b.source). absurd (ne (ap (λ (r : Request). r.number) (sym a.request) ∙ ap (λ (x : Pending). x.request.number) same ∙ ap (λ (r : Request). r.number) b.request)))
      (λ (two : NamesApart a.source b.source ⊎ NamesApart b.source a.source). ⊎_elim (λ (x : NamesApart a.source b.source). x) (λ (y : NamesApart b.source a.source). turned_apart b.source a.source y) two)
      (pairs_two NamesApart requests a.source b.source h.ready.names a.listed b.listed))

  pub ready_after : AreReady (bound_after ended s.bound) children left
  ready_after = record {
    each = all_of (IsReady (bound_after ended s.bound) children) (requests_in left) one_ready;
    kids = all_weaker (LeftKids journal s.terms children sizes h.pool (answers journal sizes ds contents children s h)) (HaveChildren children []) left (λ tree k. k.kids) kids_left;
    numbers = (tells journal sizes ds contents children s h).pairs;
    names = pairs_stronger NamesApart NumbersDiffer (requests_in left) two_apart (tells journal sizes ds contents children s h).pairs;
  }

-- A round that starts safely ends so.
pub round_law : (journal : List Choice) (sizes : ℕ → ℕ) (ds : Deeds) (contents : Contents) (children : ℕ → ℕ) (s : RoundStart) → IsSafeStart journal sizes ds contents children s → IsSafeEnd journal sizes ds contents children s
round_law journal sizes ds contents children s h = record {
  after = after journal sizes ds contents children s h;
  sizes_are = sizes_after journal sizes ds contents children s h;
  safe = safe_after journal sizes ds contents children s h;
  others = λ name bound. others_same journal sizes ds contents children s h (settle_each journal s.terms s.trees s.images).ended (all_ends journal sizes ds contents children s h) name bound;
  ended = ended_well journal sizes ds contents children s h;
  ready = ready_after journal sizes ds contents children s h;
  clean = clean_law journal sizes ds contents children s h;
}
