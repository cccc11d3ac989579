-- The trees of a round, tree by tree.
use Rattle.std.proofs.Common.{◌≡◌, ◌≢◌, ℕ, suc, ◌+◌, ◌≤◌, List, [], ◌∷◌, ◌++◌, length, map, cond, count_by, Bool, true, false, ◌||◌, ◌==◌, inl, inr, eq-eqb, refl, sym, ap, ◌∙◌, subst, arith, append_assoc, length-append}
use Rattle.std.specs.Prelude.{IfSome, Option}
use Rattle.std.specs.List.{AllByRecursion}
use Rattle.std.proofs.lemmas.List.{append-nil, map-append}
use Rattle.std.proofs.lemmas.List.Sums.{sum_by-append, sum_by-cons}
use Rattle.std.proofs.lemmas.Grind.{flat_map-append}
use Rattle.zio_types.specs.declared.place.Place.{Place}
use Rattle.zio_types.specs.Choices.{Choice}
use Rattle.zio_cksum.proofs.AllLemmas.{all_append, all_parts, all_unmap}
use Rattle.zio_script.specs.declared.script.Failmode.{Failmode}
use Rattle.zio_script.specs.declared.script.Request.{Request}
use Rattle.zio_script.specs.Requests.{kind_of}
use Rattle.zio_script.specs.Whys.{is_claim}
use Rattle.zio_cksum.specs.Images.{Images}
use Rattle.zio_disks.specs.Whole.{IsWholeTree}
use Rattle.zio_gang.specs.declared.tree.Tree.{Tree}
use Rattle.zio_gang.specs.Attempts.{Pending, Settled, Terms, settle}
use Rattle.zio_gang.specs.Journals.{asks_of}
use Rattle.zio_gang.specs.Rounds.{Ran, add_left, add_settled, settle_each}
use Rattle.zio_course.specs.declared.runner.RequestEnd.{RequestEnd}
use Rattle.zio_course.specs.Runners.{finished_of, has_claim, joined_trees, made_places, places_of_block, requests_in as requests_of}
use Rattle.zio_plain.specs.declared.waiting.Waiting.{Waiting}
use Rattle.zio_plain.specs.OwnEnds.{AreAsked, AreNamed}
use Rattle.zio_plain.specs.Passes.{AreNumberedApart, ArePasses, HasNumber, IsAmong, IsSettled, all_ends, all_freed}
use Rattle.zio_plain.specs.Posts.{IsOneTree, IsSound, requests_in}
use Rattle.zio_plain.specs.Settlings.{AreRun, IsRan, IsTreeRun, TellsRan, TreeRun, ends_run, freed_run, named_in, requests_run, trees_in, trees_left}
use Rattle.zio_plain.specs.Waits.{pending_of, pendings}
use Rattle.zio_course.proofs.MadePlaces.{made_append}
use Rattle.zio_plain.proofs.PassLemmas.{answers_before, asked_both, number_back, number_front}
use Rattle.zio_plain.proofs.NamedLemmas.{claims_all, named_each}

-- ---- trees one after another

-- the front of the trees before the others
abbrev joined_ran : Ran → Ran → Ran
joined_ran a b = record { left = a.left ++ b.left; ended = a.ended ++ b.ended; asks = a.asks ++ b.asks; images = b.images }

add_left_front : (ps : List Pending) (xs ys : List (List Pending)) → add_left ps (xs ++ ys) ≡ add_left ps xs ++ ys
add_left_front [] xs ys = refl
add_left_front (p ∷ ps) xs ys = refl

add_joined : (s : Settled) (a b : Ran) → add_settled s (joined_ran a b) ≡ joined_ran (add_settled s a) b
add_joined s a b = λ i. record {
  left = add_left_front s.left a.left b.left i;
  ended = sym (append_assoc s.ended a.ended b.ended) i;
  asks = sym (append_assoc s.asks a.asks b.asks) i;
  images = b.images;
}

settle_each-append : (journal : List Choice) (t : Terms) (xs ys : List (List Pending)) (images : Images)
    → settle_each journal t (xs ++ ys) images ≡ joined_ran (settle_each journal t xs images) (settle_each journal t ys (settle_each journal t xs images).images)
unfolding settle_each
settle_each-append journal t [] ys images = refl
settle_each-append journal t (x ∷ xs) ys images =
    let s : Settled = settle journal t x images in
    ap (add_settled s) (settle_each-append journal t xs ys s.images)
    ∙ add_joined s (settle_each journal t xs s.images) (settle_each journal t ys (settle_each journal t xs s.images).images)

trees_left_append : (xs ys : List TreeRun) → trees_left (xs ++ ys) ≡ trees_left xs ++ trees_left ys
trees_left_append [] ys = refl
trees_left_append (x ∷ xs) ys = ap (add_left (pendings x.left)) (trees_left_append xs ys) ∙ add_left_front (pendings x.left) (trees_left xs) (trees_left ys)

-- one tree more
more_ran : (journal : List Choice) (t : Terms) (runs : List TreeRun) (r : TreeRun) (images after last : Images) (old mid new : List Choice)
    → IsRan (settle_each journal t (trees_in runs) images) (ends_run runs) (trees_left runs) old mid after
    → IsSettled (settle journal t (pendings r.tree) after) (all_ends r.passes) r.left mid new last
    → IsRan (settle_each journal t (trees_in (runs ++ r ∷ [])) images) (ends_run (runs ++ r ∷ [])) (trees_left (runs ++ r ∷ [])) old new last
unfolding settle_each
more_ran journal t runs r images after last old mid new h k =
    let a : Ran = settle_each journal t (trees_in runs) images in
    let s : Settled = settle journal t (pendings r.tree) a.images in
    let l : IsSettled s (all_ends r.passes) r.left mid new last =
    subst (λ im. IsSettled (settle journal t (pendings r.tree) im) (all_ends r.passes) r.left mid new last) (sym h.images) k in
    let all : settle_each journal t (trees_in (runs ++ r ∷ [])) images ≡ joined_ran a (settle_each journal t (pendings r.tree ∷ []) a.images) =
    ap (λ ts. settle_each journal t ts images) (map-append (λ (x : TreeRun). pendings x.tree) runs (r ∷ [])) ∙ settle_each-append journal t (trees_in runs) (pendings r.tree ∷ []) images in
    subst (λ ran. IsRan ran (ends_run (runs ++ r ∷ [])) (trees_left (runs ++ r ∷ [])) old new last) (sym all) (record {
      ended = map-append finished_of a.ended (s.ended ++ []) ∙ ap (λ es. map finished_of a.ended ++ map finished_of es) (append-nil s.ended)
          ∙ ap (λ fs. fs ++ map finished_of s.ended) h.ended ∙ ap (λ fs. ends_run runs ++ fs) (l.ended ∙ sym (append-nil (all_ends r.passes)))
          ∙ sym (flat_map-append (λ (x : TreeRun). all_ends x.passes) runs (r ∷ []));
      left_is = ap (λ ts. ts ++ add_left s.left []) h.left_is ∙ ap (λ ps. trees_left runs ++ add_left ps []) l.left_is ∙ sym (trees_left_append runs (r ∷ []));
      asks = l.asks ∙ ap (λ qs. qs ++ s.asks) h.asks ∙ append_assoc (asks_of old) a.asks s.asks ∙ ap (λ qs. asks_of old ++ (a.asks ++ qs)) (sym (append-nil s.asks));
      images = l.images;
    })

-- ---- numbers

abbrev one_if : Bool → ℕ
one_if b = cond {A = ℕ} b 1 0

abbrev is_number : ℕ → Request → Bool
is_number n r = r.number == n

pub counted_more : (n : ℕ) (ws : List Waiting) → HasNumber ws n → 1 ≤ count_by (is_number n) (requests_in ws)
counted_more n [] h = absurd h
counted_more n (w ∷ ws) (inl e) =
    let one : one_if (w.request.number == n) ≡ 1 = ap one_if (eq-eqb w.request.number n e) in
    let all : count_by (is_number n) (requests_in (w ∷ ws)) ≡ one_if (w.request.number == n) + count_by (is_number n) (requests_in ws) = sum_by-cons (λ (r : Request). one_if (is_number n r)) w.request (requests_in ws) in
    omega arith
counted_more n (w ∷ ws) (inr h) =
    let rest = counted_more n ws h in
    let all : count_by (is_number n) (requests_in (w ∷ ws)) ≡ one_if (w.request.number == n) + count_by (is_number n) (requests_in ws) = sum_by-cons (λ (r : Request). one_if (is_number n r)) w.request (requests_in ws) in
    omega arith

-- where each number is counted at most once the requests are numbered apart
apart_from : (n : ℕ) (ws : List Waiting) → count_by (is_number n) (requests_in ws) ≤ 0 → AllByRecursion (λ (q : Waiting). q.request.number ≢ n) ws
apart_from n [] h = tt
apart_from n (w ∷ ws) h =
    let all : count_by (is_number n) (requests_in (w ∷ ws)) ≡ one_if (w.request.number == n) + count_by (is_number n) (requests_in ws) = sum_by-cons (λ (r : Request). one_if (is_number n r)) w.request (requests_in ws) in
    (λ e. (let one : one_if (w.request.number == n) ≡ 1 = ap one_if (eq-eqb w.request.number n e) in omega arith), apart_from n ws (omega arith))

pub numbered_apart : (ws : List Waiting) → ((n : ℕ) → count_by (is_number n) (requests_in ws) ≤ 1) → AreNumberedApart ws
numbered_apart [] h = tt
numbered_apart (w ∷ ws) h = (
  apart_from w.request.number ws
      (let n : ℕ = w.request.number in
      let one : one_if (w.request.number == n) ≡ 1 = ap one_if (eq-eqb w.request.number n refl) in
      let all : count_by (is_number n) (requests_in (w ∷ ws)) ≡ one_if (w.request.number == n) + count_by (is_number n) (requests_in ws) = sum_by-cons (λ (r : Request). one_if (is_number n r)) w.request (requests_in ws) in
      let most = h n in omega arith),
  numbered_apart ws (λ n.
      let all : count_by (is_number n) (requests_in (w ∷ ws)) ≡ one_if (w.request.number == n) + count_by (is_number n) (requests_in ws) = sum_by-cons (λ (r : Request). one_if (is_number n r)) w.request (requests_in ws) in
      let most = h n in omega arith),
)

count_append : (n : ℕ) (xs ys : List Request) → count_by (is_number n) (xs ++ ys) ≡ count_by (is_number n) xs + count_by (is_number n) ys
count_append n xs ys = sum_by-append (λ (r : Request). one_if (is_number n r)) xs ys

-- ---- requests of trees

pub requests_seen : (ws : List Waiting) → map (λ (p : Pending). p.request) (pendings ws) ≡ requests_in ws
requests_seen [] = refl
requests_seen (w ∷ ws) = ap (λ rs. w.request ∷ rs) (requests_seen ws)

pub requests_join : (xs ys : List (List Pending)) → requests_of (xs ++ ys) ≡ requests_of xs ++ requests_of ys
requests_join xs ys = ap (map (λ (p : Pending). p.request)) (flat_map-append (λ (tree : List Pending). tree) xs ys) ∙ map-append (λ (p : Pending). p.request) (joined_trees xs) (joined_trees ys)

pub requests_one : (ws : List Waiting) (trees : List (List Pending)) → requests_of (pendings ws ∷ trees) ≡ requests_in ws ++ requests_of trees
requests_one ws trees = map-append (λ (p : Pending). p.request) (pendings ws) (joined_trees trees) ∙ ap (λ rs. rs ++ requests_of trees) (requests_seen ws)

pub requests_runs : (runs : List TreeRun) → requests_of (trees_in runs) ≡ requests_in (requests_run runs)
requests_runs [] = refl
requests_runs (r ∷ runs) =
    requests_one r.tree (trees_in runs) ∙ ap (λ rs. requests_in r.tree ++ rs) (requests_runs runs) ∙ sym (map-append (λ (w : Waiting). w.request) r.tree (requests_run runs))

-- the requests by the tree that is next
pub requests_split : (runs : List TreeRun) (ws : List Waiting) (rest trees : List (List Pending)) → trees ≡ trees_in runs ++ pendings ws ∷ rest
    → requests_of trees ≡ requests_in (requests_run runs) ++ (requests_in ws ++ requests_of rest)
requests_split runs ws rest trees split =
    ap requests_of split ∙ requests_join (trees_in runs) (pendings ws ∷ rest) ∙ ap (λ rs. rs ++ requests_of (pendings ws ∷ rest)) (requests_runs runs)
    ∙ ap (λ rs. requests_in (requests_run runs) ++ rs) (requests_one ws rest)

parts_counted : (n : ℕ) (runs : List TreeRun) (ws : List Waiting) (rest trees : List (List Pending)) → trees ≡ trees_in runs ++ pendings ws ∷ rest
    → count_by (is_number n) (requests_of trees) ≡ count_by (is_number n) (requests_in (requests_run runs)) + (count_by (is_number n) (requests_in ws) + count_by (is_number n) (requests_of rest))
parts_counted n runs ws rest trees split =
    ap (count_by (is_number n)) (requests_split runs ws rest trees split) ∙ count_append n (requests_in (requests_run runs)) (requests_in ws ++ requests_of rest)
    ∙ ap (λ m. count_by (is_number n) (requests_in (requests_run runs)) + m) (count_append n (requests_in ws) (requests_of rest))

pub next_apart : (runs : List TreeRun) (ws : List Waiting) (rest trees : List (List Pending)) → trees ≡ trees_in runs ++ pendings ws ∷ rest
    → ((n : ℕ) → count_by (λ (r : Request). r.number == n) (requests_of trees) ≤ 1) → AreNumberedApart ws
next_apart runs ws rest trees split once = numbered_apart ws (λ n. (let all = parts_counted n runs ws rest trees split in let most : count_by (is_number n) (requests_of trees) ≤ 1 = once n in omega arith))

next_other : (n : ℕ) (runs : List TreeRun) (ws : List Waiting) (rest trees : List (List Pending)) → trees ≡ trees_in runs ++ pendings ws ∷ rest
    → ((n : ℕ) → count_by (λ (r : Request). r.number == n) (requests_of trees) ≤ 1) → HasNumber (requests_run runs) n → HasNumber ws n → ⊥
next_other n runs ws rest trees split once h k =
    let all = parts_counted n runs ws rest trees split in
    let most : count_by (is_number n) (requests_of trees) ≤ 1 = once n in
    let one = counted_more n (requests_run runs) h in
    let two = counted_more n ws k in omega arith

-- ---- a claim

or_second : (a b : Bool) → b ≡ true → (a || b) ≡ true
or_second true b e = refl
or_second false b e = e

claim_front : (xs ys : List Request) → has_claim xs ≡ true → has_claim (xs ++ ys) ≡ true
claim_front [] ys e = absurd (cc)
claim_front (x ∷ xs) ys e = one (is_claim (kind_of x.work)) e (claim_front xs ys)
  where
    one : (b : Bool) → (b || has_claim xs) ≡ true → (has_claim xs ≡ true → has_claim (xs ++ ys) ≡ true) → (b || has_claim (xs ++ ys)) ≡ true
    one true h later = refl
    one false h later = later h

claim_back : (xs ys : List Request) → has_claim ys ≡ true → has_claim (xs ++ ys) ≡ true
claim_back [] ys e = e
claim_back (x ∷ xs) ys e = or_second (is_claim (kind_of x.work)) (has_claim (xs ++ ys)) (claim_back xs ys e)

claim_all : (runs : List TreeRun) (ws : List Waiting) (rest trees : List (List Pending)) → trees ≡ trees_in runs ++ pendings ws ∷ rest
    → has_claim (requests_in ws) ≡ true → has_claim (requests_of trees) ≡ true
claim_all runs ws rest trees split e =
    ap has_claim (requests_split runs ws rest trees split)
    ∙ claim_back (requests_in (requests_run runs)) (requests_in ws ++ requests_of rest) (claim_front (requests_in ws) (requests_of rest) e)

length_requests : (ws : List Waiting) → length (requests_in ws) ≡ length ws
length_requests [] = refl
length_requests (w ∷ ws) = ap suc (length_requests ws)

some_waits : (ws : List Waiting) → IsOneTree IsWholeTree ws → 1 ≤ length ws
some_waits [] one = let e : [] ≡ one.root ∷ [] = one.alone in absurd (cc)
some_waits (w ∷ ws) one = omega arith

all_lengths : (runs : List TreeRun) (ws : List Waiting) (rest trees : List (List Pending)) → trees ≡ trees_in runs ++ pendings ws ∷ rest
    → length (requests_of trees) ≡ length (requests_run runs) + (length ws + length (requests_of rest))
all_lengths runs ws rest trees split =
    let a = length_requests (requests_run runs) in
    let b = length_requests ws in
    let c = length-append (requests_in (requests_run runs)) (requests_in ws ++ requests_of rest) in
    let d = length-append (requests_in ws) (requests_of rest) in
    ap length (requests_split runs ws rest trees split) ∙ (omega arith)

pub claim_alone : (runs : List TreeRun) (ws : List Waiting) (rest trees : List (List Pending)) → trees ≡ trees_in runs ++ pendings ws ∷ rest → IsOneTree IsWholeTree ws
    → (has_claim (requests_of trees) ≡ true → length (requests_of trees) ≡ 1) → has_claim (requests_in ws) ≡ true → length ws ≡ 1
claim_alone runs ws rest trees split one alone e =
    let n : length (requests_of trees) ≡ 1 = alone (claim_all runs ws rest trees split e) in
    let all = all_lengths runs ws rest trees split in
    let some = some_waits ws one in omega arith

no_runs : (runs : List TreeRun) → AllByRecursion IsTreeRun runs → length (requests_run runs) ≡ 0 → runs ≡ []
no_runs [] each e = refl
no_runs (r ∷ runs) each e =
    let n = length-append r.tree (requests_run runs) in
    let some = some_waits r.tree each.0.one in absurd (omega arith)

claim_first : (runs : List TreeRun) (ws : List Waiting) (rest trees : List (List Pending)) → trees ≡ trees_in runs ++ pendings ws ∷ rest → AllByRecursion IsTreeRun runs → IsOneTree IsWholeTree ws
    → (has_claim (requests_of trees) ≡ true → length (requests_of trees) ≡ 1) → has_claim (requests_in ws) ≡ true → runs ≡ []
claim_first runs ws rest trees split each one alone e =
    no_runs runs each (
    let n : length (requests_of trees) ≡ 1 = alone (claim_all runs ws rest trees split e) in
    let all = all_lengths runs ws rest trees split in
    let some = some_waits ws one in omega arith)

-- ---- blocks

all_back : {X : Type 0} (P : X → Type 0) (xs ys : List X) → AllByRecursion P (xs ++ ys) → AllByRecursion P ys
all_back P [] ys h = h
all_back P (x ∷ xs) ys h = all_back P xs ys h.1

all_front : {X : Type 0} (P : X → Type 0) (xs ys : List X) → AllByRecursion P (xs ++ ys) → AllByRecursion P xs
all_front P [] ys h = tt
all_front P (x ∷ xs) ys h = (h.0, all_front P xs ys h.1)

-- what holds of all requests holds of those of the next tree
pub next_all : (P : Pending → Type 0) (runs : List TreeRun) (ws : List Waiting) (rest trees : List (List Pending)) → trees ≡ trees_in runs ++ pendings ws ∷ rest
    → AllByRecursion P (joined_trees trees) → AllByRecursion (λ (w : Waiting). P (pending_of w)) ws
next_all P runs ws rest trees split h =
    seen ws (all_front P (pendings ws) (joined_trees rest)
    (all_back P (joined_trees (trees_in runs)) (pendings ws ++ joined_trees rest)
    (subst (AllByRecursion P) (ap joined_trees split ∙ flat_map-append (λ (tree : List Pending). tree) (trees_in runs) (pendings ws ∷ rest)) h)))
  where
    seen : (vs : List Waiting) → AllByRecursion P (pendings vs) → AllByRecursion (λ (w : Waiting). P (pending_of w)) vs
    seen [] k = tt
    seen (v ∷ vs) k = (k.0, seen vs k.1)

-- what whole blocks may be given may be given here
pub whole_can : (can : Option Tree → Type 0) (ws : List Waiting) → AllByRecursion (λ (w : Waiting). IfSome w.block IsWholeTree → can w.block) ws → AllByRecursion (IsSound IsWholeTree) ws
    → AllByRecursion (λ (w : Waiting). can w.block) ws
whole_can can [] h sound = tt
whole_can can (w ∷ ws) h sound = (h.0 sound.0.fit, whole_can can ws h.1 sound.1)

-- the next tree names what the round does
pub next_named : (runs : List TreeRun) (ws : List Waiting) (rest trees : List (List Pending)) → trees ≡ trees_in runs ++ pendings ws ∷ rest
    → (has_claim (requests_of trees) ≡ true → length (requests_of trees) ≡ 1) → AllByRecursion (λ (w : Waiting). AreNamed (named_in trees) w.request.work w.block) ws
next_named runs ws rest trees split alone =
    next_all (λ (p : Pending). AreNamed (named_in trees) p.request.work p.block) runs ws rest trees split
    (named_each (λ (p : Pending). p.request.work) (λ (p : Pending). p.block) (named_in trees) (joined_trees trees) (all_parts (λ (p : Pending). places_of_block p.block) (joined_trees trees))
    (all_unmap (λ (r : Request). is_claim (kind_of r.work) ≡ has_claim (requests_of trees)) (λ (p : Pending). p.request) (joined_trees trees) (claims_all (requests_of trees) alone)))

-- ---- the loop

module _ {S : Type 0} (tells : S → Images → Type 0) (runs fresh : S → Terms → Type 0) (given : S → List Choice) (moves : S → S → List Place → Type 0)
    (failmode : Failmode) (trees : List (List Pending)) where
  -- what holds before the rest of the trees
  pub record IsRunning (rest left : List (List Pending)) (finished_old finished_new : List RequestEnd) (freed_old freed_new : List Tree) (old new : S) : Type 0 where
    pub each_run : List TreeRun
    pub split : trees ≡ trees_in each_run ++ rest
    pub first : each_run ≡ [] → new ≡ old
    pub left_are : left ≡ trees_left each_run
    pub each : AllByRecursion IsTreeRun each_run
    pub finished : finished_new ≡ finished_old ++ ends_run each_run
    pub freed : freed_new ≡ freed_old ++ freed_run each_run
    pub moved : moves old new (made_places (ends_run each_run))
    pub asked : AreAsked (IsAmong (requests_run each_run) (λ n. 0 ≤ n)) (given old) (given new)
    pub told : (t : Terms) → runs old t → t.failmode ≡ failmode → (has_claim (requests_of trees) ≡ true → fresh old t) → (images : Images) → tells old images
        → TellsRan tells given (λ journal. settle_each journal t (trees_in each_run) images) (ends_run each_run) left old new

  pub running_begins : (rest left : List (List Pending)) (finished : List RequestEnd) (freed : List Tree) (old : S) → rest ≡ trees → left ≡ [] → moves old old [] → IsRunning rest left finished finished freed freed old old
  unfolding settle_each
  running_begins rest left finished freed old all none itself =
      subst (λ ts. IsRunning rest ts finished finished freed freed old old) (sym none) (record {
        each_run = [];
        split = sym all;
        first = λ e. refl;
        left_are = refl;
        each = tt;
        finished = sym (append-nil finished);
        freed = sym (append-nil freed);
        moved = itself;
        asked = record { more = []; is = sym (append-nil (given old)); of = tt; distinct = tt };
        told = λ t run mode claim images told. record {
          after = images;
          told = told;
          meant = λ journal answers. record { ended = refl; left_is = refl; asks = sym (append-nil (asks_of (given old))); images = refl };
        };
      })

  abbrev next_split : List TreeRun → List Waiting → List (List Pending) → Type 0
  next_split each_run ws rest = trees ≡ trees_in each_run ++ pendings ws ∷ rest

  pub running_next : (rest left next : List (List Pending)) (tree : List Pending) (ws : List Waiting) (finished_old finished_new : List RequestEnd) (freed_old freed_new : List Tree) (old new : S)
      → (h : IsRunning rest left finished_old finished_new freed_old freed_new old new) → rest ≡ tree ∷ next → pendings ws ≡ tree → next_split h.each_run ws next
  running_next rest left next tree ws finished_old finished_new freed_old freed_new old new h first seen =
      h.split ∙ ap (λ ts. trees_in h.each_run ++ ts) (first ∙ ap (λ ps. ps ∷ next) (sym seen))

  -- one tree more
  pub running_more : (rest left left_new next : List (List Pending)) (tree : List Pending) (ws ls : List Waiting) (finished_old finished_mid finished_new : List RequestEnd) (freed_old freed_mid freed_new : List Tree) (old mid new : S)
      → ((a b c : S) (ps qs : List Place) → moves a b ps → moves b c qs → moves a c (ps ++ qs))
      → ((a b : S) (ps : List Place) (t : Terms) → moves a b ps → runs a t → runs b t)
      → ((n : ℕ) → count_by (λ (r : Request). r.number == n) (requests_of trees) ≤ 1)
      → (has_claim (requests_of trees) ≡ true → length (requests_of trees) ≡ 1)
      → IsRunning rest left finished_old finished_mid freed_old freed_mid old mid → rest ≡ tree ∷ next → pendings ws ≡ tree → IsOneTree IsWholeTree ws
      → ArePasses tells runs fresh given moves failmode 3 0 ws ls finished_mid finished_new freed_mid freed_new mid new
      → left_new ≡ left ++ add_left (pendings ls) []
      → IsRunning next left_new finished_old finished_new freed_old freed_new old new
  running_more rest left left_new next tree ws ls finished_old finished_mid finished_new freed_old freed_mid freed_new old mid new then stays once alone h first seen one k left_is =
      let r : TreeRun = record { tree = ws; passes = k.passes; left = ls } in
      let all : List TreeRun = h.each_run ++ r ∷ [] in
      let split : next_split h.each_run ws next = running_next rest left next tree ws finished_old finished_mid freed_old freed_mid old mid h first seen in
      let waits : requests_run all ≡ requests_run h.each_run ++ ws = flat_map-append (λ (x : TreeRun). x.tree) h.each_run (r ∷ []) ∙ ap (λ xs. requests_run h.each_run ++ xs) (append-nil ws) in
      let ends : ends_run h.each_run ++ all_ends k.passes ≡ ends_run all =
      ap (λ fs. ends_run h.each_run ++ fs) (sym (append-nil (all_ends k.passes))) ∙ sym (flat_map-append (λ (x : TreeRun). all_ends x.passes) h.each_run (r ∷ [])) in
      let left_all : left_new ≡ trees_left all = left_is ∙ ap (λ ts. ts ++ add_left (pendings ls) []) h.left_are ∙ sym (trees_left_append h.each_run (r ∷ [])) in record {
        each_run = all;
        split = split ∙ sym (append_assoc (trees_in h.each_run) (pendings ws ∷ []) next) ∙ ap (λ ts. ts ++ next) (sym (map-append (λ (x : TreeRun). pendings x.tree) h.each_run (r ∷ [])));
        first = λ none. absurd (some h.each_run r none);
        left_are = left_all;
        each = all_append IsTreeRun h.each_run (r ∷ []) h.each (record { one = one; apart = next_apart h.each_run ws next trees split once; some = k.some; chained = k.chained; rest = k.rest }, tt);
        finished = k.finished ∙ ap (λ fs. fs ++ all_ends k.passes) h.finished ∙ append_assoc finished_old (ends_run h.each_run) (all_ends k.passes) ∙ ap (λ fs. finished_old ++ fs) ends;
        freed = k.freed ∙ ap (λ ts. ts ++ all_freed k.passes) h.freed ∙ append_assoc freed_old (freed_run h.each_run) (all_freed k.passes)
            ∙ ap (λ ts. freed_old ++ ts) (ap (λ ts. freed_run h.each_run ++ ts) (sym (append-nil (all_freed k.passes))) ∙ sym (flat_map-append (λ (x : TreeRun). all_freed x.passes) h.each_run (r ∷ [])));
        moved = subst (λ ps. moves old new ps) (sym (made_append (ends_run h.each_run) (all_ends k.passes)) ∙ ap made_places ends)
            (then old mid new (made_places (ends_run h.each_run)) (made_places (all_ends k.passes)) h.moved k.moved);
        asked = asked_both (IsAmong (requests_run h.each_run) (λ n. 0 ≤ n)) (IsAmong ws (λ n. 0 ≤ n)) (IsAmong (requests_run all) (λ n. 0 ≤ n)) (given old) (given mid) (given new)
            (λ x n a b. next_other x h.each_run ws next trees split once a.0 b.0)
            (λ x n a. (subst (λ xs. HasNumber xs x) (sym waits) (number_front x (requests_run h.each_run) ws a.0), a.1))
            (λ x n b. (subst (λ xs. HasNumber xs x) (sym waits) (number_back x (requests_run h.each_run) ws b.0), b.1))
            h.asked k.asked;
        told = λ t run mode claim images told.
            let before = h.told t run mode claim images told in
            let mine : has_claim (requests_in ws) ≡ true → fresh mid t = λ e.
            subst (λ s. fresh s t) (sym (h.first (claim_first h.each_run ws next trees split h.each one alone e))) (claim (claim_all h.each_run ws next trees split e)) in
            let later = k.told t (stays old mid (made_places (ends_run h.each_run)) t h.moved run) mode mine before.after before.told in record {
              after = later.after;
              told = later.told;
              meant = λ journal answers.
                  let b = before.meant journal (answers_before (IsAmong ws (λ n. 0 ≤ n)) journal (given mid) (given new) k.asked answers) in
                  subst (λ ts. IsRan (settle_each journal t (trees_in all) images) (ends_run all) ts (given old) (given new) later.after) (sym left_all)
                  (more_ran journal t h.each_run r images before.after later.after (given old) (given mid) (given new)
                  (record { ended = b.ended; left_is = b.left_is ∙ h.left_are; asks = b.asks; images = b.images }) (later.meant journal answers));
            };
      }
    where
      some : (xs : List TreeRun) (x : TreeRun) → xs ++ x ∷ [] ≡ [] → ⊥
      some [] x e = cc
      some (y ∷ xs) x e = cc

  pub running_ends : (rest left : List (List Pending)) (finished_old finished_new : List RequestEnd) (freed_old freed_new : List Tree) (old new : S)
      → IsRunning rest left finished_old finished_new freed_old freed_new old new → rest ≡ []
      → AreRun tells runs fresh given moves failmode trees left finished_old finished_new freed_old freed_new old new
  running_ends rest left finished_old finished_new freed_old freed_new old new h none =
      let whole : trees ≡ trees_in h.each_run = h.split ∙ ap (λ ts. trees_in h.each_run ++ ts) none ∙ append-nil (trees_in h.each_run) in record {
        each_run = h.each_run;
        whole = whole;
        left_are = h.left_are;
        each = h.each;
        finished = h.finished;
        freed = h.freed;
        moved = h.moved;
        asked = h.asked;
        told = λ t run mode claim images told.
            let k = h.told t run mode claim images told in record {
              after = k.after;
              told = k.told;
              meant = λ journal answers. subst (λ ts. IsRan (settle_each journal t ts images) (ends_run h.each_run) left (given old) (given new) k.after) (sym whole) (k.meant journal answers);
            };
      }
