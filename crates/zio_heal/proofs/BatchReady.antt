-- The requests of a batch that heals may run as they enter their first round, where admission lets their trees through.
use Rattle.std.proofs.Common.{◌≡◌, ℕ, ◌+◌, ◌*◌, ◌^◌, ◌<◌, ◌≤◌, List, [], ◌∷◌, ◌++◌, length, map, find, replicate, flat_map, Bool, true, false, cond, ◌==◌, ◌&&◌, not, nat_le, Option, Some, None, Contains, ◌⊎◌, ⊎_elim, refl, sym, ap, ◌∙◌, subst, length-append, arith}
use Rattle.std.proofs.lemmas.Bool.{and_parts, eqb-true, leb-true, not-false}
use Rattle.std.proofs.lemmas.List.{length-replicate, map-append}
use Rattle.std.specs.List.{AllByRecursion}
use Rattle.zio_types.specs.declared.place.TheConstants.{COPIES_MAX}
use Rattle.zio_types.specs.declared.request.Kind.{Kind}
use Rattle.zio_types.specs.declared.request.Kind.TheVariants.{Null as NullKind, Read as ReadKind, Write as WriteKind, Free as FreeKind, Claim as ClaimKind}
use Rattle.zio_types.specs.Places.{rounded_up}
use Rattle.zio_blkptr.specs.declared.pointer.Bp.{Bp}
use Rattle.zio_blkptr.specs.declared.pointer.TheConstants.{BLOCK_SIZE_MAX}
use Rattle.zio_script.specs.declared.limits.TheConstants.{POINTER_SIZE}
use Rattle.zio_script.specs.declared.script.Body.{Body}
use Rattle.zio_script.specs.declared.script.Request.{Request}
use Rattle.zio_script.specs.declared.script.Work.{Work}
use Rattle.zio_script.specs.declared.script.Work.TheVariants.{Null, Read, Write, Free, Claim}
use Rattle.zio_script.specs.Accepted.{AreBehindParents, AreRising, HasParentIn, IsInRange, IsOrderlyBatch}
use Rattle.zio_script.specs.Bodies.{body_of}
use Rattle.zio_script.specs.Requests.{is_under, is_under_number, kind_of, makes_block, name_of, needs_block}
use Rattle.zio_script.specs.Whys.{body_len, fits_work, is_claim, is_within, is_write, may_have, size_with, writes_under}
use Rattle.zio_script.proofs.BodyLemmas.{length-body}
use Rattle.zio_script.proofs.ListLemmas.{none_passes}
use Rattle.zio_cksum.specs.Headers.{member_bytes}
use Rattle.zio_cksum.proofs.AllLemmas.{all_contained, all_contains, all_map, all_unmap}
use Rattle.zio_gang.specs.Attempts.{Pending}
use Rattle.zio_gang.specs.Rounds.{Bound, admission, admitted, block_if, first_rule, has_bound, is_bound, lacks_block, passes, pending, pending_trees, takes_bound, trees_of}
use Rattle.zio_gang.specs.Writes.{content_of}
use Rattle.zio_gang.proofs.ContentLemmas.{length-padded}
use Rattle.zio_gang.proofs.FateLemmas.{tally}
use Rattle.zio_trace.specs.Separate.{IsNoClaim}
use Rattle.zio_trace.specs.TreeOrders.{Pairs}
use Rattle.zio_trace.proofs.ListLemmas.{all_lists, contains_first, contains_later}
use Rattle.zio_trace.proofs.PairLemmas.{pairs_map, pairs_two}
use Rattle.zio_heal.specs.Healed.{IsHealedRequest}
use Rattle.zio_heal.specs.Pools.{IsBlockSize}
use Rattle.zio_heal.specs.SafeRounds.{AreReady, FitsWrite, HaveChildren, IsReady, NamesApart, NamesWell, NumbersDiffer, requests_in}
use Rattle.zio_heal.proofs.BatchTrees.{HaveNumbersApart, rising_pairs, trees_members, trees_names, trees_numbers}
use Rattle.zio_heal.proofs.TreeKids.{count_is, kids_in, one_if, trees_kids}
use Rattle.zio_heal.proofs.TreeLists.{admitted_all, flat_all, flat_trees, trees_all}
use Rattle.zio_heal.proofs.DisciplineLemmas.{healed_must}
use Rattle.zio_heal.proofs.SlotLemmas.{no_slots, slots_long}

-- what is known of a batch of a script that heals
pub record IsFineBatch (apart : Bool) (batch : List Request) : Type 0 where
  pub orderly : IsOrderlyBatch apart batch
  pub rising : AreRising batch
  pub healed : AllByRecursion IsHealedRequest batch

-- ---- admission

-- neither the second nor the third rule applies to the request
pub record IsLetIn (test : List ℕ → Bool) (r : Request) : Type 0 where
  pub needs : (needs_block r.work && not (has_bound test r)) ≡ false
  pub makes : (makes_block r.work && has_bound test r) ≡ false

no_rule : (lacks takes : Bool) → first_rule false lacks takes ≡ None → (lacks ≡ false) × (takes ≡ false)
no_rule true takes e = absurd (cc)
no_rule false true e = absurd (cc)
no_rule false false e = (refl, refl)

let_in : (test : List ℕ → Bool) (tree : List Request) → admission [] test tree ≡ None → AllByRecursion (IsLetIn test) tree
let_in test tree none =
    let rules = no_rule (lacks_block test tree) (takes_bound test tree) none in
    all_lists (λ (r : Request). (needs_block r.work && not (has_bound test r)) ≡ false) (λ (r : Request). (makes_block r.work && has_bound test r) ≡ false) (IsLetIn test) tree
    (λ r a b. record { needs = a; makes = b })
    (none_passes (λ (r : Request). needs_block r.work && not (has_bound test r)) tree rules.0)
    (none_passes (λ (r : Request). makes_block r.work && has_bound test r) tree rules.1)

named_by : (bound : Bound) (work : Work) → is_claim (kind_of work) ≡ false → (needs_block work && not (passes (is_bound bound) (name_of work))) ≡ false → (makes_block work && passes (is_bound bound) (name_of work)) ≡ false
    → NamesWell bound work (block_if (needs_block work) (name_of work) bound)
named_by bound Null claim needs makes = refl
named_by bound (Read name prio) claim needs makes = record { there = not-false (is_bound bound name) needs; is = refl }
named_by bound (Write name sum copies prio body) claim needs makes = (refl, makes)
named_by bound (Free name) claim needs makes = record { there = not-false (is_bound bound name) needs; is = refl }
named_by bound (Claim name pointer) claim needs makes = absurd (let no : true ≡ false = claim in cc)

claims_by : (work : Work) → is_claim (kind_of work) ≡ false → IsNoClaim work
claims_by Null claim = tt
claims_by (Read name prio) claim = tt
claims_by (Write name sum copies prio body) claim = tt
claims_by (Free name) claim = tt
claims_by (Claim name pointer) claim = absurd (let no : true ≡ false = claim in cc)

-- ---- sizes

content_size : (k : ℕ) (body : Body) → length (content_of (replicate k None) (body_of body)) ≡ rounded_up (body_len body + POINTER_SIZE * k)
content_size k body =
    let ms : List (Option Bp) = replicate k None in
    let slots : length (flat_map member_bytes ms) ≡ 128 * length ms = slots_long ms (no_slots k) in
    let many : length ms ≡ k = length-replicate k None in
    let own : length (body_of body) ≡ body_len body = length-body body in
    let all : length (flat_map member_bytes ms ++ body_of body) ≡ body_len body + POINTER_SIZE * k = omega (arith, length-append (flat_map member_bytes ms) (body_of body)) in
    length-padded (flat_map member_bytes ms ++ body_of body) ∙ ap rounded_up all

rounded_size : (m : ℕ) → 1 ≤ m → rounded_up m ≤ BLOCK_SIZE_MAX → IsBlockSize (rounded_up m)
rounded_size m some most = record { some = omega arith; whole = omega arith; most = most }

fits_by : (p : Pending) (k : ℕ) (work : Work) → fits_work work ≡ true → size_with k work ≤ BLOCK_SIZE_MAX → 1 ≤ p.birth → p.birth < 2 ^ 64 → FitsWrite p k work
fits_by p k Null fits size some born = tt
fits_by p k (Read name prio) fits size some born = tt
fits_by p k (Write name sum copies prio body) fits size some born =
    let two = and_parts (is_within 1 COPIES_MAX copies) (is_within 1 BLOCK_SIZE_MAX (body_len body)) fits in
    let copied = and_parts (nat_le 1 copies) (nat_le copies COPIES_MAX) two.0 in
    let long = and_parts (nat_le 1 (body_len body)) (nat_le (body_len body) BLOCK_SIZE_MAX) two.1 in
    let low : 1 ≤ body_len body = leb-true 1 (body_len body) long.0 in (
      record { one = leb-true 1 copies copied.0; three = leb-true copies COPIES_MAX copied.1; some = some; born = born },
      subst IsBlockSize (sym (content_size k body)) (rounded_size (body_len body + POINTER_SIZE * k) (omega arith) size),
    )
fits_by p k (Free name) fits size some born = tt
fits_by p k (Claim name pointer) fits size some born = tt

-- ---- children of a write are writes

found_by : (b : Bool) (test : Request → Bool) (y x : Request) (ys : List Request) → test y ≡ b → cond b (Some y) (find test ys) ≡ Some x → (find test ys ≡ Some x → Contains ys x × (test x ≡ true)) → Contains (y ∷ ys) x × (test x ≡ true)
found_by true test y x ys is e rest = let same : y ≡ x = cc in (subst (Contains (y ∷ ys)) same (contains_first y ys), subst (λ (z : Request). test z ≡ true) same is)
found_by false test y x ys is e rest = let later = rest e in (contains_later y ys x later.0, later.1)

found_there : (test : Request → Bool) (xs : List Request) (x : Request) → find test xs ≡ Some x → Contains xs x × (test x ≡ true)
found_there test [] x e = absurd (let no : None ≡ Some x = e in cc)
found_there test (y ∷ ys) x e = found_by (test y) test y x ys refl e (found_there test ys x)

may_write : (kind child : Kind) → is_write kind ≡ true → may_have kind child ≡ true → is_write child ≡ true
may_write NullKind child is may = absurd (let no : false ≡ true = is in cc)
may_write ReadKind child is may = absurd (let no : false ≡ true = is in cc)
may_write WriteKind child is may = may
may_write FreeKind child is may = absurd (let no : false ≡ true = is in cc)
may_write ClaimKind child is may = absurd (let no : false ≡ true = is in cc)

module _ (batch : List Request) (rising : AreRising batch) (r : Request) (listed : Contains batch r) (writes : is_write (kind_of r.work) ≡ true) where
  parent_writes : (before : List Request) (kind : Kind) (under : Option ℕ) → AllByRecursion (Contains batch) before → HasParentIn before kind under → is_under_number under r.number ≡ true → is_write kind ≡ true
  parent_writes before kind None all parent is = absurd (let no : false ≡ true = is in cc)
  parent_writes before kind (Some p) all parent is =
      let found = found_there (λ (q : Request). q.number == p) before parent.parent parent.found in
      let same : parent.parent.number ≡ r.number = eqb-true parent.parent.number p found.1 ∙ eqb-true p r.number is in
      ⊎_elim
      (λ (one : parent.parent ≡ r). may_write (kind_of parent.parent.work) kind (ap (λ (q : Request). is_write (kind_of q.work)) one ∙ writes) parent.may)
      (λ (two : HaveNumbersApart parent.parent r ⊎ HaveNumbersApart r parent.parent).
      ⊎_elim (λ (a : HaveNumbersApart parent.parent r). absurd (a same)) (λ (b : HaveNumbersApart r parent.parent). absurd (b (sym same))) two)
      (pairs_two HaveNumbersApart batch parent.parent r (rising_pairs batch rising) (all_contains (Contains batch) before parent.parent all found.0) listed)

  kids_write : (before rest : List Request) → AllByRecursion (Contains batch) before → AllByRecursion (Contains batch) rest → AreBehindParents before rest
      → AllByRecursion (λ (q : Request). is_under q r.number ≡ true → is_write (kind_of q.work) ≡ true) rest
  kids_write before [] inside all parents = tt
  kids_write before (q ∷ qs) inside all parents =
      (parent_writes before (kind_of q.work) q.under inside parents.0, kids_write (before ++ q ∷ []) qs (pushed before inside) all.1 parents.1)
    where
      pushed : (xs : List Request) → AllByRecursion (Contains batch) xs → AllByRecursion (Contains batch) (xs ++ q ∷ [])
      pushed [] h = (all.0, tt)
      pushed (x ∷ xs) h = (h.0, pushed xs h.1)

  both_if : (under write : Bool) → (under ≡ true → write ≡ true) → one_if under ≡ one_if (under && write)
  both_if true write h = sym (ap one_if (h refl))
  both_if false write h = refl

  same_kids : (qs : List Request) → AllByRecursion (λ (q : Request). is_under q r.number ≡ true → is_write (kind_of q.work) ≡ true) qs
      → kids_in qs r.number ≡ tally (λ (q : Request). one_if (is_under q r.number && is_write (kind_of q.work))) qs
  same_kids [] h = refl
  same_kids (q ∷ qs) h = omega (arith, both_if (is_under q r.number) (is_write (kind_of q.work)) h.0, same_kids qs h.1)

  -- All that stand under a write are writes.
  pub kids_are_writes : AreBehindParents [] batch → kids_in batch r.number ≡ writes_under batch r.number
  kids_are_writes parents =
      same_kids batch (kids_write [] batch tt (all_contained batch) parents) ∙ count_is (λ (q : Request). is_under q r.number && is_write (kind_of q.work)) batch

-- ---- requests

module _ (apart : Bool) (batch : List Request) (fine : IsFineBatch apart batch) (bound : Bound) (birth : ℕ) (some : 1 ≤ birth) (born : birth < 2 ^ 64) where
  size_of_work : (work : Work) (r : Request) → r.work ≡ work → Contains batch r → size_with (kids_in batch r.number) work ≤ BLOCK_SIZE_MAX
  size_of_work Null r is listed = omega arith
  size_of_work (Read name prio) r is listed = omega arith
  size_of_work (Write name sum copies prio body) r is listed =
      let kids : kids_in batch r.number ≡ writes_under batch r.number = kids_are_writes batch fine.rising r listed (ap (λ (w : Work). is_write (kind_of w)) is) fine.orderly.parents in
      let least : size_with (writes_under batch r.number) r.work ≤ BLOCK_SIZE_MAX =
      all_contains (λ (q : Request). size_with (writes_under batch q.number) q.work ≤ BLOCK_SIZE_MAX) batch r
      (all_unmap (λ n. n ≤ BLOCK_SIZE_MAX) (λ (q : Request). size_with (writes_under batch q.number) q.work) batch fine.orderly.sizes) listed in
      subst (λ (n : ℕ). size_with n (Write name sum copies prio body) ≤ BLOCK_SIZE_MAX) (sym kids) (subst (λ (w : Work). size_with (writes_under batch r.number) w ≤ BLOCK_SIZE_MAX) is least)
  size_of_work (Free name) r is listed = omega arith
  size_of_work (Claim name pointer) r is listed = omega arith

  one_ready : (r : Request) → Contains batch r → IsLetIn (is_bound bound) r → IsReady bound (kids_in batch) (pending bound birth r)
  one_ready r listed admitted_ =
      let healed : IsHealedRequest r = all_contains IsHealedRequest batch r fine.healed listed in
      let range : IsInRange r = all_contains IsInRange batch r fine.orderly.ranges listed in
      record {
        unfailing = record { must = healed_must r healed; kept = tt };
        claims = claims_by r.work healed.no_claim;
        named = named_by bound r.work healed.no_claim admitted_.needs admitted_.makes;
        fits = fits_by (pending bound birth r) (kids_in batch r.number) r.work range.work (size_of_work r.work r refl listed) some born;
        kept = tt;
      }

  abbrev pub let_trees : List (List Request)
  let_trees = (admitted [] (is_bound bound) (trees_of batch)).trees

  abbrev pub let_requests : List Request
  let_requests = flat_trees let_trees

  joined : (trees : List (List Request)) → requests_in (pending_trees bound birth trees) ≡ map (pending bound birth) (flat_trees trees)
  joined [] = refl
  joined (tree ∷ trees) = ap (λ (ps : List Pending). map (pending bound birth) tree ++ ps) (joined trees) ∙ sym (map-append (pending bound birth) tree (flat_trees trees))

  -- what holds of each request that admission lets through, as it enters
  pub all_enter : (P : Pending → Type 0) → AllByRecursion (λ (r : Request). P (pending bound birth r)) let_requests → AllByRecursion P (requests_in (pending_trees bound birth let_trees))
  all_enter P h = subst (AllByRecursion P) (sym (joined let_trees)) (all_map P (pending bound birth) let_requests h)

  -- and back
  pub all_entered : (P : Pending → Type 0) → AllByRecursion P (requests_in (pending_trees bound birth let_trees)) → AllByRecursion (λ (r : Request). P (pending bound birth r)) let_requests
  all_entered P h = all_unmap P (pending bound birth) let_requests (subst (AllByRecursion P) (joined let_trees) h)

  pub all_let_in : AllByRecursion (IsLetIn (is_bound bound)) let_requests
  all_let_in =
      flat_all (IsLetIn (is_bound bound)) let_trees
      (admitted_all (AllByRecursion (λ (r : Request). Unit {0})) (AllByRecursion (IsLetIn (is_bound bound))) [] (is_bound bound) (trees_of batch) (λ tree none k. let_in (is_bound bound) tree none)
      (trees_all (λ (r : Request). Unit {0}) batch [] (units batch) tt))
    where
      units : (rs : List Request) → AllByRecursion (λ (r : Request). Unit {0}) rs
      units [] = tt
      units (r ∷ rs) = (tt, units rs)

  -- A batch whose trees admission lets through may run.
  pub batch_ready : AreReady bound (kids_in batch) (pending_trees bound birth let_trees)
  batch_ready = record {
    each = all_enter (IsReady bound (kids_in batch))
        (all_lists (Contains batch) (IsLetIn (is_bound bound)) (λ (r : Request). IsReady bound (kids_in batch) (pending bound birth r)) let_requests one_ready
        (trees_members batch [] (is_bound bound)) all_let_in);
    kids = all_map (HaveChildren (kids_in batch) []) (map (pending bound birth)) let_trees (trees_kids batch [] (is_bound bound) bound birth fine.orderly.parents fine.rising);
    numbers = subst (Pairs NumbersDiffer) (sym (joined let_trees)) (pairs_map NumbersDiffer (pending bound birth) let_requests (trees_numbers batch [] (is_bound bound) fine.orderly.parents fine.rising));
    names = subst (Pairs NamesApart) (sym (joined let_trees))
        (pairs_map NamesApart (pending bound birth) let_requests (trees_names apart batch [] (is_bound bound) fine.orderly.parents fine.rising fine.orderly.names));
  }
