-- With no row met, and no sector refused, a round that starts safely leaves nothing.
use Rattle.std.proofs.Common.{◌≡◌, ℕ, zero, suc, ◌+◌, List, [], ◌∷◌, ◌++◌, length, map, Bool, true, false, Option, Some, None, Result, Ok, Err, IsOk, refl, sym, ap, ◌∙◌, subst, append_assoc}
use Rattle.std.proofs.lemmas.List.{map-append}
use Rattle.std.specs.List.{AllByRecursion}
use Rattle.zio_types.specs.declared.error.Errno.{Errno}
use Rattle.zio_types.specs.declared.request.Bits.{Bits}
use Rattle.zio_types.specs.Choices.{Ask, Choice}
use Rattle.zio_blkptr.specs.declared.pointer.Bp.{Bp}
use Rattle.zio_script.specs.declared.script.Request.{Request}
use Rattle.zio_script.specs.declared.script.Work.{Work}
use Rattle.zio_script.specs.declared.script.Work.TheVariants.{Null, Read, Write, Free, Claim}
use Rattle.zio_script.specs.Bodies.{body_of}
use Rattle.zio_script.specs.Requests.{is_under_number, kind_of}
use Rattle.zio_cksum.specs.Images.{Images}
use Rattle.zio_cksum.proofs.AllLemmas.{all_append, all_contains, all_true}
use Rattle.zio_gang.specs.declared.tree.Tree.{Tree}
use Rattle.zio_gang.specs.Attempts.{Attempt, Attempted, Child, Own, Pending, Return, Settled, all_bits, attempt_each, attempt_one, bits_of, children_of, closed_if, finished_of, free_of, has_bits, insert_children, joined_bits, no_bits, now_alone, own_found, own_work, read_of, reexecutions_max, returned_to, root_bits, settle, settle_from, settled_if}
use Rattle.zio_gang.specs.Rounds.{Ran, add_left, settle_each, used_places}
use Rattle.zio_gang.specs.Trees.{free_tree, read_tree}
use Rattle.zio_gang.specs.Writes.{content_of}
use Rattle.zio_trace.specs.Leaves.{HaveSizes}
use Rattle.zio_trace.specs.Programs.{Happen}
use Rattle.zio_trace.specs.RoundTraces.{Trace, again_if, attempt_trace, is_single_or_piece, own_trace, pointers_after, round_trace, settle_trace}
use Rattle.zio_trace.specs.RunTraces.{RoundStart, in_round}
use Rattle.zio_trace.specs.Tasks.{means}
use Rattle.zio_trace.specs.TreeOrders.{Pairs}
use Rattle.zio_trace.proofs.ListLemmas.{all_front, all_rest}
use Rattle.zio_trace.proofs.PairLemmas.{pairs_front, pairs_rest}
use Rattle.zio_trace.proofs.TraceLemmas.{happen_join}
use Rattle.zio_heal.specs.Contents.{EachPiece, IsHeld}
use Rattle.zio_heal.specs.Copies.{IsPastFaults}
use Rattle.zio_heal.specs.Given.{AreTrueReads, Deeds}
use Rattle.zio_heal.specs.Pools.{IsBlockSize, NoSmallRefused}
use Rattle.zio_heal.specs.SafeBlocks.{Contents, IsSafe}
use Rattle.zio_heal.specs.SafeRounds.{FitsWrite, HasNamed, IsReady, IsSafeStart, NamesWell, NumbersDiffer, requests_in}
use Rattle.zio_heal.proofs.BoundBlocks.{IsNamed, Q, answers, block_at, block_named, block_safe, claims, from_itself, kids}
use Rattle.zio_heal.proofs.CleanPieces.{IsAnswered}
use Rattle.zio_heal.proofs.CleanWrites.{block_clean}
use Rattle.zio_heal.proofs.EndedBlocks.{sized_by, some_of, true_first}
use Rattle.zio_heal.proofs.EndedRequests.{AreBy, IsBy, IsFrom, Tells, own_by, own_happens, settle_by, settle_tells}
use Rattle.zio_heal.proofs.HeldBlocks.{free_law, read_law}
use Rattle.zio_heal.proofs.KidsLemmas.{AreAll, LeftKids, PointersFit, filtered, tree_kids}
use Rattle.zio_heal.proofs.PieceLemmas.{each_weaker}
use Rattle.zio_heal.proofs.SlotLemmas.{contents_long}

-- ---- bits

-- nothing goes again
abbrev IsQuiet : Return → Type 0
IsQuiet r = r.bits ≡ no_bits

no_bits_of : (rs : List Return) → AllByRecursion IsQuiet rs → bits_of rs ≡ no_bits
no_bits_of [] h = refl
no_bits_of (r ∷ rs) h = ap (λ (b : Bits). joined_bits b (bits_of rs)) h.0 ∙ ap (joined_bits no_bits) (no_bits_of rs h.1)

-- what a request without bits comes to
record IsDone (one : Attempted) (own : Own) : Type 0 where
  again : one.again ≡ []
  quiet : IsQuiet one.return
  images : one.images ≡ own.images

closed_done : (b : Bool) (p : Pending) (own : Own) (bits : Bits) (kept : List Child) → b ≡ false → IsDone (closed_if b p own bits kept) own
closed_done true p own bits kept e = absurd (cc)
closed_done false p own bits kept e = record { again = refl; quiet = refl; images = refl }

-- whatever becomes of it, it asks for what its own work asks for
closed_asks : (b : Bool) (p : Pending) (own : Own) (bits : Bits) (kept : List Child) → (closed_if b p own bits kept).asks ≡ own.asks
closed_asks true p own bits kept = refl
closed_asks false p own bits kept = refl

ok_fine : (found : Result (List ℕ) Errno) (images : Images) → IsOk found → (own_found found images).error ≡ None
ok_fine (Ok bytes) images h = refl
ok_fine (Err e) images h = absurd (cc)

both_empty : {X : Type 0} (xs ys : List X) → xs ≡ [] → ys ≡ [] → xs ++ ys ≡ []
both_empty xs ys ex ey = λ i. ex i ++ ey i

module _ (journal : List Choice) (sizes : ℕ → ℕ) (ds : Deeds) (contents : Contents) (children : ℕ → ℕ) (s : RoundStart) (h : IsSafeStart journal sizes ds contents children s)
    (past : IsPastFaults s.terms.setting) (small : NoSmallRefused journal) where
  abbrev requests : List Pending
  requests = Q journal sizes ds contents children s h

  abbrev AreAnswered : List Ask → Type 0
  AreAnswered asks = AllByRecursion (IsAnswered journal s.terms.round) asks

  -- the round so far
  record IsHere (es : Trace) (now : Images) : Type 0 where
    by : AreBy journal s.terms requests children (λ n. Unit {0}) es
    accepts : AreTrueReads ds (map (in_round s.terms) es)
    happen : Happen (means journal s.terms) es s.images now

  -- ---- own work

  -- the block of a read or a free is held
  record IsThere (p : Pending) (now : Images) : Type 0 where
    tree : Tree
    block : p.block ≡ Some tree
    read : IsOk (read_tree s.terms.setting tree now).found
    free : (free_tree s.terms.setting tree now).error ≡ None

  there : (p : Pending) (es : Trace) (now : Images) → IsHere es now → (tree : Tree) → p.block ≡ Some tree → NamesWell s.bound p.request.work p.block → IsThere p now
  there p es now here tree block named =
      let k : IsNamed s.bound tree = block_named s.bound p.request.work p.block tree named block in
      let old = block_safe journal sizes ds contents children s h k.binding k.listed in
      let have : HaveSizes sizes now = sized_by journal sizes ds contents children s h (λ n. Unit {0}) es s.images now here.by here.happen h.sizes_are in
      let held : EachPiece (IsHeld s.terms.setting now) k.binding.tree (contents k.binding.name) =
      each_weaker (IsSafe s.terms.setting now (ds ++ map (in_round s.terms) es)) (IsHeld s.terms.setting now) (λ c bytes x. x.held) k.binding.tree (contents k.binding.name)
      (block_at journal sizes ds contents children s h es now here.by here.accepts here.happen k.binding k.listed) in
      record {
        tree = tree;
        block = block;
        read = subst (λ (x : Tree). IsOk (read_tree s.terms.setting x now).found) k.is (read_law s.terms.setting sizes (used_places s.bound) k.binding.tree (contents k.binding.name) now h.pool past old.own have held);
        free = subst (λ (x : Tree). (free_tree s.terms.setting x now).error ≡ None) k.is (free_law s.terms.setting sizes (used_places s.bound) k.binding.tree (contents k.binding.name) now h.pool past old.own have held);
      }

  ready_of : (p : Pending) (from : IsFrom requests p) → IsReady s.bound children from.source
  ready_of p from = all_contains (IsReady s.bound children) requests from.source h.ready.each from.listed

  named_of : (p : Pending) → IsFrom requests p → NamesWell s.bound p.request.work p.block
  named_of p from =
      subst (λ (r : Request). NamesWell s.bound r.work p.block) from.request
      (subst (NamesWell s.bound from.source.request.work) from.block (ready_of p from).named)

  work_clean : (attempt : ℕ) (p : Pending) (work : Work) (pointers : List (Option Bp)) (es : Trace) (now : Images) → IsFrom requests p → p.request.work ≡ work → AreAll children p pointers → IsHere es now
      → AreAnswered (own_work journal s.terms attempt p work pointers now).asks → (own_work journal s.terms attempt p work pointers now).error ≡ None
  work_clean attempt p Null pointers es now from is all here answered = refl
  work_clean attempt p (Read name prio) pointers es now from is all here answered =
      let named : HasNamed s.bound name p.block = subst (λ (w : Work). NamesWell s.bound w p.block) is (named_of p from) in
      let block = some_of p.block named.there in
      let t : IsThere p now = there p es now here block.0 block.1 (named_of p from) in
      ap (λ (b : Option Tree). (read_of s.terms b now).error) t.block
      ∙ ok_fine (read_tree s.terms.setting t.tree now).found (read_tree s.terms.setting t.tree now).images t.read
  work_clean attempt p (Write name sum copies prio body) pointers es now from is all here answered =
      let fits : FitsWrite from.source (children p.request.number) (Write name sum copies prio body) =
      subst (FitsWrite from.source (children p.request.number)) is (subst (λ (r : Request). FitsWrite from.source (children r.number) r.work) from.request (ready_of p from).fits) in
      let content : List ℕ = content_of pointers (body_of body) in
      let block : IsBlockSize (length content) = subst IsBlockSize (sym (contents_long pointers (children p.request.number) (body_of body) all.slots all.count)) fits.1 in
      block_clean journal s.terms p sizes h.pool (answers journal sizes ds contents children s h) attempt sum copies past small content now block answered
  work_clean attempt p (Free name) pointers es now from is all here answered =
      let named : HasNamed s.bound name p.block = subst (λ (w : Work). NamesWell s.bound w p.block) is (named_of p from) in
      let block = some_of p.block named.there in
      let t : IsThere p now = there p es now here block.0 block.1 (named_of p from) in
      ap (λ (b : Option Tree). (free_of s.terms b now).error) t.block ∙ t.free
  work_clean attempt p (Claim name pointer) pointers es now from is all here answered =
      absurd (subst (λ (w : Work). NamesWell s.bound w p.block) is (named_of p from))

  -- ---- an attempt

  one_done : (attempt : ℕ) (p : Pending) (returns : List Return) (es : Trace) (now : Images) → IsFrom requests p → AreAll children p (pointers_after p returns) → AllByRecursion IsQuiet returns → IsHere es now
      → AreAnswered (attempt_one journal s.terms attempt p returns now).asks → IsDone (attempt_one journal s.terms attempt p returns now) (own_work journal s.terms attempt p p.request.work (pointers_after p returns) now)
  one_done attempt p returns es now from all quiet here answered =
      let mine : List Return = returned_to p returns in
      let own : Own = own_work journal s.terms attempt p p.request.work (pointers_after p returns) now in
      let bits : Bits = all_bits (kind_of p.request.work) own.error p.request.canfail s.terms.failmode (bits_of mine) in
      let kept : List Child = insert_children (children_of (finished_of mine)) p.kept in
      let own_asked : AreAnswered own.asks = subst AreAnswered (closed_asks (has_bits bits) p own bits kept) answered in
      let none : own.error ≡ None = work_clean attempt p p.request.work (pointers_after p returns) es now from refl all here own_asked in
      let nothing : bits ≡ no_bits =
      ap (λ (e : Option Errno). all_bits (kind_of p.request.work) e p.request.canfail s.terms.failmode (bits_of mine)) none
      ∙ no_bits_of mine (filtered IsQuiet (λ (r : Return). is_under_number r.under p.request.number) returns quiet) in
      closed_done (has_bits bits) p own bits kept (ap has_bits nothing)

  -- one more request's work
  here_more : (attempt : ℕ) (p : Pending) (pointers : List (Option Bp)) (es more : Trace) (now after : Images) → IsFrom requests p → IsHere es now → after ≡ (own_work journal s.terms attempt p p.request.work pointers now).images
      → AreTrueReads ds (map (in_round s.terms) (es ++ (own_trace is_single_or_piece journal s.terms attempt p pointers now ++ more))) → IsHere (es ++ own_trace is_single_or_piece journal s.terms attempt p pointers now) after
  here_more attempt p pointers es more now after from here same accepts =
      let own : Trace = own_trace is_single_or_piece journal s.terms attempt p pointers now in
      let a = answers journal sizes ds contents children s h in
      let c = claims journal sizes ds contents children s h in
      record {
        by = all_append (IsBy journal s.terms requests children (λ n. Unit {0})) es own here.by (own_by journal s.terms requests children sizes h.pool a c (λ n. Unit {0}) attempt p pointers now from tt);
        accepts = true_first ds (map (in_round s.terms) (es ++ own)) (map (in_round s.terms) more)
            (subst (AreTrueReads ds) (ap (map (in_round s.terms)) (sym (append_assoc es own more)) ∙ map-append (in_round s.terms) (es ++ own) more) accepts);
        happen = subst (Happen (means journal s.terms) (es ++ own) s.images) (sym same)
            (happen_join (means journal s.terms) es own s.images now (own_work journal s.terms attempt p p.request.work pointers now).images here.happen
            (own_happens journal s.terms requests children sizes h.pool a c attempt p pointers now));
      }

  each_clean : (attempt : ℕ) (ps : List Pending) (returns : List Return) (es : Trace) (now : Images) → AllByRecursion (IsFrom requests) ps → PointersFit journal s.terms children sizes h.pool (answers journal sizes ds contents children s h) attempt ps returns now
      → AllByRecursion IsQuiet returns → IsHere es now → AreTrueReads ds (map (in_round s.terms) (es ++ attempt_trace is_single_or_piece journal s.terms attempt ps returns now))
      → AreAnswered (attempt_each journal s.terms attempt ps returns now).asks → (attempt_each journal s.terms attempt ps returns now).again ≡ []
  unfolding attempt_each
  each_clean attempt [] returns es now from fit quiet here accepts answered = refl
  each_clean attempt (p ∷ ps) returns es now from fit quiet here accepts answered =
      let one : Attempted = attempt_one journal s.terms attempt p returns now in
      let a : Attempt = attempt_each journal s.terms attempt ps (one.return ∷ returns) one.images in
      let own : Trace = own_trace is_single_or_piece journal s.terms attempt p (pointers_after p returns) now in
      let more : Trace = attempt_trace is_single_or_piece journal s.terms attempt ps (one.return ∷ returns) one.images in
      let done : IsDone one (own_work journal s.terms attempt p p.request.work (pointers_after p returns) now) =
      one_done attempt p returns es now from.0 fit.0 quiet here (all_front (IsAnswered journal s.terms.round) one.asks a.asks answered) in
      both_empty one.again a.again done.again
      (each_clean attempt ps (one.return ∷ returns) (es ++ own) one.images from.1 fit.1 (done.quiet, quiet)
      (here_more attempt p (pointers_after p returns) es more now one.images from.0 here done.images accepts)
      (subst (λ (xs : Trace). AreTrueReads ds (map (in_round s.terms) xs)) (sym (append_assoc es own more)) accepts)
      (all_rest (IsAnswered journal s.terms.round) one.asks a.asks answered))

  -- ---- all attempts of a tree

  settle_empty : (more attempt : ℕ) (now : Images) → (settle_from more journal s.terms attempt [] now).left ≡ []
  unfolding settle_from attempt_each
  settle_empty zero attempt now = refl
  settle_empty (suc more) attempt now = refl

  if_empty : (b : Bool) (a : Attempt) (again : List Pending → Images → Settled) → a.again ≡ [] → ((now : Images) → (again [] now).left ≡ []) → (settled_if b a again).left ≡ []
  if_empty true a again none f = ap (λ (ps : List Pending). (again ps a.images).left) none ∙ f a.images
  if_empty false a again none f = none

  if_asked : (b : Bool) (a : Attempt) (again : List Pending → Images → Settled) → AreAnswered (settled_if b a again).asks → AreAnswered a.asks
  if_asked true a again k = all_front (IsAnswered journal s.terms.round) a.asks (again a.again a.images).asks k
  if_asked false a again k = k

  abbrev IsKids : List Pending → Type 0
  IsKids ps = LeftKids journal s.terms children sizes h.pool (answers journal sizes ds contents children s h) ps

  tree_clean : (more : ℕ) (ps : List Pending) (es : Trace) (now : Images) → AllByRecursion (IsFrom requests) ps → IsKids ps → IsHere es now
      → AreTrueReads ds (map (in_round s.terms) (es ++ settle_trace (suc more) is_single_or_piece journal s.terms 0 ps now)) → AreAnswered (settle_from (suc more) journal s.terms 0 ps now).asks → (settle_from (suc more) journal s.terms 0 ps now).left ≡ []
  unfolding settle_from
  tree_clean more ps es now from kids here accepts answered =
      let a : Attempt = attempt_each journal s.terms 0 ps [] now in
      let first : Trace = attempt_trace is_single_or_piece journal s.terms 0 ps [] now in
      let rest : Trace = again_if (now_alone (root_bits a.returns)) a (settle_trace more is_single_or_piece journal s.terms (0 + 1)) in
      let fit = (tree_kids journal s.terms children sizes h.pool (answers journal sizes ds contents children s h) 0 ps now kids.kids kids.fitting).fit in
      let accepts_first : AreTrueReads ds (map (in_round s.terms) (es ++ first)) =
      true_first ds (map (in_round s.terms) (es ++ first)) (map (in_round s.terms) rest)
      (subst (AreTrueReads ds) (ap (map (in_round s.terms)) (sym (append_assoc es first rest)) ∙ map-append (in_round s.terms) (es ++ first) rest) accepts) in
      if_empty (now_alone (root_bits a.returns)) a (settle_from more journal s.terms (0 + 1))
      (each_clean 0 ps [] es now from fit tt here accepts_first (if_asked (now_alone (root_bits a.returns)) a (settle_from more journal s.terms (0 + 1)) answered))
      (λ i. settle_empty more (0 + 1) i)

  -- ---- tree after tree

  none_left : (left : List Pending) (others : List (List Pending)) → left ≡ [] → others ≡ [] → add_left left others ≡ []
  none_left left others e f = ap (λ (ps : List Pending). add_left ps others) e ∙ f

  round_clean : (trees : List (List Pending)) (es : Trace) (now : Images) → AllByRecursion (IsFrom requests) (requests_in trees) → Pairs NumbersDiffer (requests_in trees) → AllByRecursion IsKids trees → IsHere es now
      → AreTrueReads ds (map (in_round s.terms) (es ++ round_trace is_single_or_piece journal s.terms trees now)) → AreAnswered (settle_each journal s.terms trees now).asks → (settle_each journal s.terms trees now).left ≡ []
  unfolding settle_each
  round_clean [] es now from pairs behind here accepts answered = refl
  round_clean (tree ∷ trees) es now from pairs behind here accepts answered =
      let others : List Pending = requests_in trees in
      let x : Settled = settle journal s.terms tree now in
      let ran : Ran = settle_each journal s.terms trees x.images in
      let first : Trace = settle_trace reexecutions_max is_single_or_piece journal s.terms 0 tree now in
      let rest : Trace = round_trace is_single_or_piece journal s.terms trees x.images in
      let a = answers journal sizes ds contents children s h in
      let c = claims journal sizes ds contents children s h in
      let from_tree : AllByRecursion (IsFrom requests) tree = all_front (IsFrom requests) tree others from in
      let pairs_tree : Pairs NumbersDiffer tree = pairs_front NumbersDiffer tree others pairs in
      let split : AreTrueReads ds (map (in_round s.terms) ((es ++ first) ++ rest)) = subst (λ (xs : Trace). AreTrueReads ds (map (in_round s.terms) xs)) (sym (append_assoc es first rest)) accepts in
      let accepts_first : AreTrueReads ds (map (in_round s.terms) (es ++ first)) =
      true_first ds (map (in_round s.terms) (es ++ first)) (map (in_round s.terms) rest) (subst (AreTrueReads ds) (map-append (in_round s.terms) (es ++ first) rest) split) in
      let tells : Tells journal s.terms requests children sizes h.pool a c now first tree x.ended x.left x.images =
      settle_tells journal s.terms requests children sizes h.pool a c reexecutions_max 0 tree now from_tree pairs_tree behind.0 in
      let there : IsHere (es ++ first) x.images = record {
        by = all_append (IsBy journal s.terms requests children (λ n. Unit {0})) es first here.by
            (settle_by journal s.terms requests children sizes h.pool a c (λ n. Unit {0}) reexecutions_max 0 tree now from_tree pairs_tree behind.0 (all_true (λ (p : Pending). Unit {0}) tree (λ p. tt)));
        accepts = accepts_first;
        happen = happen_join (means journal s.terms) es first s.images now x.images here.happen tells.happen;
      } in
      none_left x.left ran.left
      (tree_clean 2 tree es now from_tree behind.0 here accepts_first (all_front (IsAnswered journal s.terms.round) x.asks ran.asks answered))
      (round_clean trees (es ++ first) x.images (all_rest (IsFrom requests) tree others from) (pairs_rest NumbersDiffer tree others pairs) behind.1 there split
      (all_rest (IsAnswered journal s.terms.round) x.asks ran.asks answered))

  pub nothing_left : (settle_each journal s.terms s.trees s.images).left ≡ []
  nothing_left =
      round_clean s.trees [] s.images (from_itself journal sizes ds contents children s h) h.ready.numbers (kids journal sizes ds contents children s h)
      (record { by = tt; accepts = tt; happen = refl }) h.accepts h.lawful.answered

-- Where no row is met any more and no sector is refused, nothing is left.
pub clean_law : (journal : List Choice) (sizes : ℕ → ℕ) (ds : Deeds) (contents : Contents) (children : ℕ → ℕ) (s : RoundStart) → IsSafeStart journal sizes ds contents children s → IsPastFaults s.terms.setting → NoSmallRefused journal → (settle_each journal s.terms s.trees s.images).left ≡ []
clean_law journal sizes ds contents children s h past small = nothing_left journal sizes ds contents children s h past small
