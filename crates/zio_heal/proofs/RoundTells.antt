-- The requests that ended in a round, and what is left of its trees.
use Rattle.std.proofs.Common.{◌≡◌, ◌≢◌, ℕ, List, [], ◌∷◌, ◌++◌, refl, sym, subst, append-nil}
use Rattle.std.specs.List.{AllByRecursion}
use Rattle.zio_types.specs.Choices.{Choice}
use Rattle.zio_cksum.specs.Images.{Images}
use Rattle.zio_cksum.proofs.AllLemmas.{all_append, all_contains, all_weaker}
use Rattle.zio_gang.specs.Attempts.{Ended, Pending, Settled, Terms, reexecutions_max, settle}
use Rattle.zio_gang.specs.Rounds.{Ran, add_left, settle_each}
use Rattle.zio_gang.specs.Trees.{sizes_of}
use Rattle.zio_trace.specs.Programs.{Happen}
use Rattle.zio_trace.specs.RoundTraces.{Trace, is_single_or_piece, round_trace, settle_trace}
use Rattle.zio_trace.specs.Separate.{IsNoClaim}
use Rattle.zio_trace.specs.Tasks.{means}
use Rattle.zio_trace.specs.TreeOrders.{Pairs}
use Rattle.zio_trace.proofs.ChoiceLemmas.{Answers}
use Rattle.zio_trace.proofs.ListLemmas.{all_front, all_rest}
use Rattle.zio_trace.proofs.PairLemmas.{all_of, pairs_across, pairs_append, pairs_front, pairs_rest}
use Rattle.zio_trace.proofs.TraceLemmas.{happen_join}
use Rattle.zio_heal.specs.Pools.{IsPool}
use Rattle.zio_heal.specs.SafeRounds.{EndsDiffer, NumbersDiffer, requests_in}
use Rattle.zio_heal.proofs.EndedRequests.{AreBy, EndsIn, IsBy, IsFrom, IsStable, Tells, ends_more, settle_by, settle_tells}
use Rattle.zio_heal.proofs.KidsLemmas.{LeftKids}

left_joined : (left : List Pending) (others : List (List Pending)) → requests_in (add_left left others) ≡ left ++ requests_in others
left_joined [] others = refl
left_joined (p ∷ ps) others = refl

module _ (journal : List Choice) (t : Terms) (Q : List Pending) (children : ℕ → ℕ) (sizes : ℕ → ℕ) (pool : IsPool sizes t.setting.tops) (answers : Answers journal (sizes_of t.setting.tops) t.used t.round) (claims : AllByRecursion (λ (p : Pending). IsNoClaim p.request.work) Q) where
  -- what some trees come to in a round
  pub record RoundTells (start : Images) (ds : Trace) (trees : List (List Pending)) (ended : List Ended) (left : List (List Pending)) (after : Images) : Type 1 where
    pub all : AllByRecursion (EndsIn journal t Q children start ds) ended
    pub numbers : (N : ℕ → Type 0) → AllByRecursion (λ (p : Pending). N p.request.number) (requests_in trees) → AllByRecursion (λ (e : Ended). N e.request.number) ended
    pub again : (P : Pending → Type 0) → IsStable P → AllByRecursion P (requests_in trees) → AllByRecursion P (requests_in left)
    pub apart : AllByRecursion (λ (e : Ended). AllByRecursion (λ (q : Pending). q.request.number ≢ e.request.number) (requests_in left)) ended
    pub pairs : Pairs NumbersDiffer (requests_in left)
    pub distinct : Pairs EndsDiffer ended
    pub happen : Happen (means journal t) ds start after

  -- the deeds of the trees are of their requests
  pub round_by : (N : ℕ → Type 0) (trees : List (List Pending)) (images : Images) → AllByRecursion (IsFrom Q) (requests_in trees) → Pairs NumbersDiffer (requests_in trees) → AllByRecursion (LeftKids journal t children sizes pool answers) trees → AllByRecursion (λ (p : Pending). N p.request.number) (requests_in trees)
      → AreBy journal t Q children N (round_trace is_single_or_piece journal t trees images)
  round_by N [] images from pairs kids numbers = tt
  round_by N (tree ∷ trees) images from pairs kids numbers =
      let rest : List Pending = requests_in trees in
      let s : Settled = settle journal t tree images in
      all_append (IsBy journal t Q children N) (settle_trace reexecutions_max is_single_or_piece journal t 0 tree images) (round_trace is_single_or_piece journal t trees s.images)
      (settle_by journal t Q children sizes pool answers claims N reexecutions_max 0 tree images (all_front (IsFrom Q) tree rest from) (pairs_front NumbersDiffer tree rest pairs) kids.0 (all_front (λ (p : Pending). N p.request.number) tree rest numbers))
      (round_by N trees s.images (all_rest (IsFrom Q) tree rest from) (pairs_rest NumbersDiffer tree rest pairs) kids.1 (all_rest (λ (p : Pending). N p.request.number) tree rest numbers))

  pub round_tells : (trees : List (List Pending)) (images : Images) → AllByRecursion (IsFrom Q) (requests_in trees) → Pairs NumbersDiffer (requests_in trees) → AllByRecursion (LeftKids journal t children sizes pool answers) trees
      → RoundTells images (round_trace is_single_or_piece journal t trees images) trees (settle_each journal t trees images).ended (settle_each journal t trees images).left (settle_each journal t trees images).images
  unfolding settle_each
  round_tells [] images from pairs kids = record { all = tt; numbers = λ N h. tt; again = λ P stable h. tt; apart = tt; pairs = tt; distinct = tt; happen = refl }
  round_tells (tree ∷ trees) images from pairs kids =
      let rest : List Pending = requests_in trees in
      let s : Settled = settle journal t tree images in
      let ran : Ran = settle_each journal t trees s.images in
      let ds : Trace = settle_trace reexecutions_max is_single_or_piece journal t 0 tree images in
      let es : Trace = round_trace is_single_or_piece journal t trees s.images in
      let from_tree : AllByRecursion (IsFrom Q) tree = all_front (IsFrom Q) tree rest from in
      let from_rest : AllByRecursion (IsFrom Q) rest = all_rest (IsFrom Q) tree rest from in
      let pairs_rest_ : Pairs NumbersDiffer rest = pairs_rest NumbersDiffer tree rest pairs in
      let first : Tells journal t Q children sizes pool answers claims images ds tree s.ended s.left s.images = settle_tells journal t Q children sizes pool answers claims reexecutions_max 0 tree images from_tree (pairs_front NumbersDiffer tree rest pairs) kids.0 in
      let later : RoundTells s.images es trees ran.ended ran.left ran.images = round_tells trees s.images from_rest pairs_rest_ kids.1 in
      -- numbers of the first tree differ from those of the others
      let across : AllByRecursion (λ (p : Pending). AllByRecursion (λ (q : Pending). p.request.number ≢ q.request.number) rest) tree =
      all_of (λ (p : Pending). AllByRecursion (λ (q : Pending). p.request.number ≢ q.request.number) rest) tree
      (λ p cp. all_of (λ (q : Pending). p.request.number ≢ q.request.number) rest (λ q cq. pairs_across NumbersDiffer tree rest p q pairs cp cq)) in
      let ended_across : AllByRecursion (λ (e : Ended). AllByRecursion (λ (q : Pending). e.request.number ≢ q.request.number) rest) s.ended =
      first.numbers (λ (n : ℕ). AllByRecursion (λ (q : Pending). n ≢ q.request.number) rest) across in
      let left_is = left_joined s.left ran.left in
      record {
        all = all_append (EndsIn journal t Q children images (ds ++ es)) s.ended ran.ended
            (all_of (EndsIn journal t Q children images (ds ++ es)) s.ended
            (λ e c. ends_more journal t Q children images images [] ds es e refl
            (round_by (λ (n : ℕ). n ≢ e.request.number) trees s.images from_rest pairs_rest_ kids.1
            (all_weaker (λ (q : Pending). e.request.number ≢ q.request.number) (λ (q : Pending). q.request.number ≢ e.request.number) rest (λ q ne f. ne (sym f))
            (all_contains (λ (x : Ended). AllByRecursion (λ (q : Pending). x.request.number ≢ q.request.number) rest) s.ended e ended_across c)))
            (all_contains (EndsIn journal t Q children images ds) s.ended e first.all c)))
            (all_weaker (EndsIn journal t Q children s.images es) (EndsIn journal t Q children images (ds ++ es)) ran.ended
            (λ e h. subst (λ (xs : Trace). EndsIn journal t Q children images (ds ++ xs) e) (append-nil es) (ends_more journal t Q children images s.images ds es [] e first.happen tt h)) later.all);
        numbers = λ N h. all_append (λ (e : Ended). N e.request.number) s.ended ran.ended (first.numbers N (all_front (λ (p : Pending). N p.request.number) tree rest h)) (later.numbers N (all_rest (λ (p : Pending). N p.request.number) tree rest h));
        again = λ P stable h. subst (AllByRecursion P) (sym left_is) (all_append P s.left (requests_in ran.left) (first.again P stable (all_front P tree rest h)) (later.again P stable (all_rest P tree rest h)));
        apart = subst (λ (qs : List Pending). AllByRecursion (λ (e : Ended). AllByRecursion (λ (q : Pending). q.request.number ≢ e.request.number) qs) (s.ended ++ ran.ended)) (sym left_is)
            (all_append (λ (e : Ended). AllByRecursion (λ (q : Pending). q.request.number ≢ e.request.number) (s.left ++ requests_in ran.left)) s.ended ran.ended
            (all_of (λ (e : Ended). AllByRecursion (λ (q : Pending). q.request.number ≢ e.request.number) (s.left ++ requests_in ran.left)) s.ended
            (λ e c. all_append (λ (q : Pending). q.request.number ≢ e.request.number) s.left (requests_in ran.left)
            (all_contains (λ (x : Ended). AllByRecursion (λ (q : Pending). q.request.number ≢ x.request.number) s.left) s.ended e first.apart c)
            (later.again (λ (q : Pending). q.request.number ≢ e.request.number) (λ q kept h. h)
            (all_weaker (λ (q : Pending). e.request.number ≢ q.request.number) (λ (q : Pending). q.request.number ≢ e.request.number) rest (λ q ne f. ne (sym f))
            (all_contains (λ (x : Ended). AllByRecursion (λ (q : Pending). x.request.number ≢ q.request.number) rest) s.ended e ended_across c)))))
            (all_of (λ (e : Ended). AllByRecursion (λ (q : Pending). q.request.number ≢ e.request.number) (s.left ++ requests_in ran.left)) ran.ended
            (λ e c. all_append (λ (q : Pending). q.request.number ≢ e.request.number) s.left (requests_in ran.left)
            (first.again (λ (q : Pending). q.request.number ≢ e.request.number) (λ q kept h. h)
            (all_of (λ (p : Pending). p.request.number ≢ e.request.number) tree
            (λ p cp. all_contains (λ (x : Ended). p.request.number ≢ x.request.number) ran.ended e
            (later.numbers (λ (n : ℕ). p.request.number ≢ n) (all_contains (λ (x : Pending). AllByRecursion (λ (q : Pending). x.request.number ≢ q.request.number) rest) tree p across cp)) c)))
            (all_contains (λ (x : Ended). AllByRecursion (λ (q : Pending). q.request.number ≢ x.request.number) (requests_in ran.left)) ran.ended e later.apart c))));
        pairs = subst (Pairs NumbersDiffer) (sym left_is)
            (pairs_append NumbersDiffer s.left (requests_in ran.left) first.pairs later.pairs
            (λ p q cp cq.
            all_contains (λ (x : Pending). p.request.number ≢ x.request.number) (requests_in ran.left) q
            (all_contains (λ (x : Pending). AllByRecursion (λ (y : Pending). x.request.number ≢ y.request.number) (requests_in ran.left)) s.left p
            (first.again (λ (x : Pending). AllByRecursion (λ (y : Pending). x.request.number ≢ y.request.number) (requests_in ran.left)) (λ x kept h. h)
            (all_of (λ (x : Pending). AllByRecursion (λ (y : Pending). x.request.number ≢ y.request.number) (requests_in ran.left)) tree
            (λ x cx. later.again (λ (y : Pending). x.request.number ≢ y.request.number) (λ y kept h. h)
            (all_contains (λ (z : Pending). AllByRecursion (λ (y : Pending). z.request.number ≢ y.request.number) rest) tree x across cx)))) cp) cq));
        distinct = pairs_append EndsDiffer s.ended ran.ended first.distinct later.distinct
            (λ x y cx cy.
            all_contains (λ (e : Ended). x.request.number ≢ e.request.number) ran.ended y
            (later.numbers (λ (n : ℕ). x.request.number ≢ n) (all_contains (λ (e : Ended). AllByRecursion (λ (q : Pending). e.request.number ≢ q.request.number) rest) s.ended x ended_across cx)) cy);
        happen = happen_join (means journal t) ds es images s.images ran.images first.happen later.happen;
      }
