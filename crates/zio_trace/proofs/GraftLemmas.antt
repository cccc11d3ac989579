-- The trees of a batch are families: each request is put under its parent.
use Rattle.std.proofs.Common.{◌≡◌, ◌≢◌, ℕ, ◌<◌, List, [], ◌∷◌, ◌++◌, map, Bool, true, false, ◌||◌, ◌==◌, Option, Some, None, ◌⊎◌, inl, inr, ⊎_elim, refl, sym, ap, ◌∙◌, subst, append_assoc, arith}
use Rattle.std.proofs.lemmas.Bool.{eqb-true}
use Rattle.std.specs.List.{AllByRecursion}
use Rattle.zio_script.specs.declared.script.Request.{Request}
use Rattle.zio_script.specs.Accepted.{AreRising}
use Rattle.zio_cksum.proofs.AllLemmas.{all_append, all_map, all_weaker}
use Rattle.zio_gang.specs.Attempts.{Pending}
use Rattle.zio_gang.specs.Rounds.{Bound, pending, put_before, put_if, trees_of, with_request, with_requests}
use Rattle.zio_trace.specs.Families.{AreUnder, Forest, NoTrees, NotIn, TreeOf, before, flat}
use Rattle.zio_trace.proofs.ListLemmas.{all_front, all_lists, all_rest}
use Rattle.zio_trace.proofs.SettleLemmas.{flat_before}

-- ---- a request before the first of the number

abbrev put_first : Bool → Pending → Pending → List Pending → List Pending → List Pending
put_first true x q qs placed = x ∷ q ∷ qs
put_first false x q qs placed = q ∷ placed

abbrev put : ℕ → Pending → List Pending → List Pending
put n x [] = []
put n x (q ∷ qs) = put_first (q.request.number == n) x q qs (put n x qs)

abbrev has : ℕ → List Pending → Bool
has n [] = false
has n (q ∷ qs) = (q.request.number == n) || has n qs

front_step : (same : Bool) (x q : Pending) (qs ys placed whole : List Pending) → ((same ≡ false) → whole ≡ placed ++ ys) → put_first same x q (qs ++ ys) whole ≡ put_first same x q qs placed ++ ys
front_step true x q qs ys placed whole h = refl
front_step false x q qs ys placed whole h = ap (λ (ps : List Pending). q ∷ ps) (h refl)

or_rest : (a b : Bool) → (a || b) ≡ true → a ≡ false → b ≡ true
or_rest true b h e = absurd (cc)
or_rest false b h e = h

or_none : (a b : Bool) → (a || b) ≡ false → (a ≡ false) × (b ≡ false)
or_none true b h = absurd (cc)
or_none false b h = (refl, h)

put_front : (n : ℕ) (x : Pending) (xs ys : List Pending) → has n xs ≡ true → put n x (xs ++ ys) ≡ put n x xs ++ ys
put_front n x [] ys h = absurd (cc)
put_front n x (q ∷ xs) ys h =
    front_step (q.request.number == n) x q xs ys (put n x xs) (put n x (xs ++ ys)) (λ e. put_front n x xs ys (or_rest (q.request.number == n) (has n xs) h e))

put_back : (n : ℕ) (x : Pending) (xs ys : List Pending) → has n xs ≡ false → put n x (xs ++ ys) ≡ xs ++ put n x ys
put_back n x [] ys h = refl
put_back n x (q ∷ xs) ys h =
    let none = or_none (q.request.number == n) (has n xs) h in
    ap (λ (b : Bool). put_first b x q (xs ++ ys) (put n x (xs ++ ys))) none.0 ∙ ap (λ (ps : List Pending). q ∷ ps) (put_back n x xs ys none.1)

first_all : (P : Pending → Type 0) (same : Bool) (x q : Pending) (qs placed : List Pending) → P x → P q → AllByRecursion P qs → AllByRecursion P placed → AllByRecursion P (put_first same x q qs placed)
first_all P true x q qs placed px pq all placed_all = (px, (pq, all))
first_all P false x q qs placed px pq all placed_all = (pq, placed_all)

all_put : (P : Pending → Type 0) (n : ℕ) (x : Pending) (ps : List Pending) → P x → AllByRecursion P ps → AllByRecursion P (put n x ps)
all_put P n x [] px h = tt
all_put P n x (q ∷ qs) px h = first_all P (q.request.number == n) x q qs (put n x qs) px h.0 h.1 (all_put P n x qs px h.1)

-- ---- a request under its parent

-- the last of these trees is the request alone
before_under : (u : Option ℕ) (f : Forest) (x : Pending) → AreUnder u f → x.request.under ≡ u → u ≢ Some x.request.number → NotIn x.request.number (flat f) → AreUnder u (before f (TreeOf x NoTrees NoTrees))
before_under u NoTrees x h is apart fresh = (is, tt, tt, tt, tt)
before_under u (TreeOf p kids more) x h is apart fresh =
    let Q : Pending → Type 0 = λ q. (u ≢ Some q.request.number) × (p.request.number ≢ q.request.number) × NotIn q.request.number (flat kids) in
    let rest : NotIn x.request.number (p ∷ flat more) = all_rest (λ (q : Pending). q.request.number ≢ x.request.number) (flat kids) (p ∷ flat more) fresh in (
      h.0,
      h.1,
      before_under u more x h.2 is apart rest.1,
      h.3,
      subst (AllByRecursion Q) (sym (flat_before more (TreeOf x NoTrees NoTrees)))
          (all_append Q (flat more) (x ∷ []) h.4 ((apart, rest.0, all_front (λ (q : Pending). q.request.number ≢ x.request.number) (flat kids) (p ∷ flat more) fresh), tt)),
    )

-- the trees under a root with the request among them
record NewKids (n : ℕ) (x p : Pending) (kids : Forest) : Type 0 where
  new : Forest
  under : AreUnder (Some p.request.number) new
  is : (ys : List Pending) → put n x (flat kids ++ p ∷ ys) ≡ flat new ++ p ∷ ys
  apart : (m : ℕ) → x.request.number ≢ m → NotIn m (flat kids) → NotIn m (flat new)

-- neither the root nor a request under it has the number
abbrev Passes : ℕ → Pending → Pending → Forest → Type 0
Passes n x p kids = (ys : List Pending) → put n x (flat kids ++ p ∷ ys) ≡ flat kids ++ p ∷ put n x ys

record Grafted (u : Option ℕ) (n : ℕ) (x : Pending) (f : Forest) : Type 0 where
  new : Forest
  under : AreUnder u new
  is : put n x (flat f) ≡ flat new

module _ (n : ℕ) (x : Pending) (is : x.request.under ≡ Some n) where
  kids_by : (inside at : Bool) (p : Pending) (kids : Forest) → has n (flat kids) ≡ inside → (p.request.number == n) ≡ at → AreUnder (Some p.request.number) kids → NotIn x.request.number (flat kids) → p.request.number ≢ x.request.number
      → Grafted (Some p.request.number) n x kids → NewKids n x p kids ⊎ Passes n x p kids
  kids_by true at p kids e k under fresh apart g = inl (record {
    new = g.new;
    under = g.under;
    is = λ ys. put_front n x (flat kids) (p ∷ ys) e ∙ ap (λ (ps : List Pending). ps ++ p ∷ ys) g.is;
    apart = λ m not_x notin. subst (NotIn m) g.is (all_put (λ (q : Pending). q.request.number ≢ m) n x (flat kids) not_x notin);
  })
  kids_by false true p kids e k under fresh apart g =
      let same : p.request.number ≡ n = eqb-true p.request.number n k in
      let flat_is : flat (before kids (TreeOf x NoTrees NoTrees)) ≡ flat kids ++ x ∷ [] = flat_before kids (TreeOf x NoTrees NoTrees) in
      inl (record {
        new = before kids (TreeOf x NoTrees NoTrees);
        under = before_under (Some p.request.number) kids x under (is ∙ ap (λ m. Some m) (sym same)) (λ e. apart (cc)) fresh;
        is = λ ys.
            put_back n x (flat kids) (p ∷ ys) e ∙ ap (λ (b : Bool). flat kids ++ put_first b x p ys (put n x ys)) k
            ∙ sym (append_assoc (flat kids) (x ∷ []) (p ∷ ys)) ∙ ap (λ (ps : List Pending). ps ++ p ∷ ys) (sym flat_is);
        apart = λ m not_x notin. subst (NotIn m) (sym flat_is) (all_append (λ (q : Pending). q.request.number ≢ m) (flat kids) (x ∷ []) notin (not_x, tt));
      })
  kids_by false false p kids e k under fresh apart g =
      inr (λ ys. put_back n x (flat kids) (p ∷ ys) e ∙ ap (λ (b : Bool). flat kids ++ put_first b x p ys (put n x ys)) k)

  new_graft : (u : Option ℕ) (p : Pending) (kids others : Forest) → AreUnder u (TreeOf p kids others) → NotIn x.request.number (flat (TreeOf p kids others)) → NewKids n x p kids → Grafted u n x (TreeOf p kids others)
  new_graft u p kids others h fresh k =
      let P : Pending → Type 0 = λ q. q.request.number ≢ x.request.number in
      let rest : AllByRecursion P (p ∷ flat others) = all_rest P (flat kids) (p ∷ flat others) fresh in
      record {
        new = TreeOf p k.new others;
        under = (
          h.0,
          k.under,
          h.2,
          k.apart p.request.number (λ e. rest.0 (sym e)) h.3,
          all_lists P (λ (q : Pending). (u ≢ Some q.request.number) × (p.request.number ≢ q.request.number) × NotIn q.request.number (flat kids))
              (λ (q : Pending). (u ≢ Some q.request.number) × (p.request.number ≢ q.request.number) × NotIn q.request.number (flat k.new)) (flat others)
              (λ q apart old. (old.0, old.1, k.apart q.request.number (λ e. apart (sym e)) old.2)) rest.1 h.4,
        );
        is = k.is (flat others);
      }

  past_graft : (u : Option ℕ) (p : Pending) (kids others : Forest) → AreUnder u (TreeOf p kids others) → u ≢ Some x.request.number → NotIn x.request.number (flat (TreeOf p kids others)) → Passes n x p kids → Grafted u n x others
      → Grafted u n x (TreeOf p kids others)
  past_graft u p kids others h apart fresh k o =
      let P : Pending → Type 0 = λ q. q.request.number ≢ x.request.number in
      let rest : AllByRecursion P (p ∷ flat others) = all_rest P (flat kids) (p ∷ flat others) fresh in
      let Q : Pending → Type 0 = λ q. (u ≢ Some q.request.number) × (p.request.number ≢ q.request.number) × NotIn q.request.number (flat kids) in
      record {
        new = TreeOf p kids o.new;
        under = (
          h.0,
          h.1,
          o.under,
          h.3,
          subst (AllByRecursion Q) o.is (all_put Q n x (flat others) (apart, rest.0, all_front P (flat kids) (p ∷ flat others) fresh) h.4),
        );
        is = k (flat others) ∙ ap (λ (ps : List Pending). flat kids ++ p ∷ ps) o.is;
      }

  graft : (u : Option ℕ) (f : Forest) → AreUnder u f → u ≢ Some x.request.number → NotIn x.request.number (flat f) → Grafted u n x f
  graft u NoTrees h apart fresh = record { new = NoTrees; under = tt; is = refl }
  graft u (TreeOf p kids others) h apart fresh =
      let P : Pending → Type 0 = λ q. q.request.number ≢ x.request.number in
      let front : AllByRecursion P (flat kids) = all_front P (flat kids) (p ∷ flat others) fresh in
      let rest : AllByRecursion P (p ∷ flat others) = all_rest P (flat kids) (p ∷ flat others) fresh in
      ⊎_elim (λ k. new_graft u p kids others h fresh k) (λ k. past_graft u p kids others h apart fresh k (graft u others h.2 apart rest.1))
      (kids_by (has n (flat kids)) (p.request.number == n) p kids refl refl h.1 front rest.0 (graft (Some p.request.number) kids h.1 (λ e. rest.0 (cc)) front))

-- ---- one tree

-- the list is a tree, its root last
pub record IsFamily (tree : List Pending) : Type 0 where
  pub root : Pending
  pub kids : Forest
  pub under : AreUnder None (TreeOf root kids NoTrees)
  pub is : flat kids ++ root ∷ [] ≡ tree

none_some : (n : ℕ) → ◌≢◌ {A = Option ℕ} None (Some n)
none_some n e = cc

family_put : (n : ℕ) (x : Pending) (tree : List Pending) → x.request.under ≡ Some n → NotIn x.request.number tree → IsFamily tree → IsFamily (put n x tree)
family_put n x tree is fresh h =
    let P : Pending → Type 0 = λ q. q.request.number ≢ x.request.number in
    let whole : AllByRecursion P (flat h.kids ++ h.root ∷ []) = subst (AllByRecursion P) (sym h.is) fresh in
    let front : AllByRecursion P (flat h.kids) = all_front P (flat h.kids) (h.root ∷ []) whole in
    let rest : AllByRecursion P (h.root ∷ []) = all_rest P (flat h.kids) (h.root ∷ []) whole in
    ⊎_elim
    (λ (k : NewKids n x h.root h.kids). record {
      root = h.root;
      kids = k.new;
      under = (h.under.0, k.under, tt, k.apart h.root.request.number (λ e. rest.0 (sym e)) h.under.3, tt);
      is = sym (k.is []) ∙ ap (put n x) h.is;
    })
    (λ (k : Passes n x h.root h.kids). record { root = h.root; kids = h.kids; under = h.under; is = sym (k []) ∙ ap (put n x) h.is })
    (kids_by n x is (has n (flat h.kids)) (h.root.request.number == n) h.root h.kids refl refl h.under.1 front rest.0
    (graft n x is (Some h.root.request.number) h.kids h.under.1 (λ e. rest.0 (cc)) front))

-- ---- the trees of a batch

module _ (bound : Bound) (birth : ℕ) where
  abbrev enter : List Request → List Pending
  enter = map (pending bound birth)

  enter_step : (same : Bool) (n : ℕ) (r q : Request) (qs placed : List Request) → enter placed ≡ put n (pending bound birth r) (enter qs)
      → enter (put_if same r q qs placed) ≡ put_first same (pending bound birth r) (pending bound birth q) (enter qs) (put n (pending bound birth r) (enter qs))
  enter_step true n r q qs placed h = refl
  enter_step false n r q qs placed h = ap (λ (ps : List Pending). pending bound birth q ∷ ps) h

  enter_put : (n : ℕ) (r : Request) (tree : List Request) → enter (put_before n r tree) ≡ put n (pending bound birth r) (enter tree)
  enter_put n r [] = refl
  enter_put n r (q ∷ qs) = enter_step (q.number == n) n r q qs (put_before n r qs) (enter_put n r qs)

  -- a tree of requests, whose numbers are below those that come
  record IsGrown (later : List Request) (tree : List Request) : Type 0 where
    family : IsFamily (enter tree)
    below : AllByRecursion (λ (q : Request). AllByRecursion (λ (r : Request). q.number < r.number) later) tree

  placed_all : (P : Request → Type 0) (same : Bool) (r q : Request) (qs placed : List Request) → P r → P q → AllByRecursion P qs → AllByRecursion P placed → AllByRecursion P (put_if same r q qs placed)
  placed_all P true r q qs placed pr pq all h = (pr, (pq, all))
  placed_all P false r q qs placed pr pq all h = (pq, h)

  before_all : (P : Request → Type 0) (n : ℕ) (r : Request) (tree : List Request) → P r → AllByRecursion P tree → AllByRecursion P (put_before n r tree)
  before_all P n r [] pr h = tt
  before_all P n r (q ∷ qs) pr h = placed_all P (q.number == n) r q qs (put_before n r qs) pr h.0 h.1 (before_all P n r qs pr h.1)

  fresh_in : (r : Request) (later tree : List Request) → AllByRecursion (λ (q : Request). AllByRecursion (λ (x : Request). q.number < x.number) (r ∷ later)) tree → NotIn r.number (enter tree)
  fresh_in r later tree h =
      all_map (λ (p : Pending). p.request.number ≢ r.number) (pending bound birth) tree
      (all_weaker _ (λ (q : Request). q.number ≢ r.number) tree (λ q less same. let l : q.number < r.number = less.0 in let e : q.number ≡ r.number = same in omega arith) h)

  grown_put : (n : ℕ) (r : Request) (later tree : List Request) → r.under ≡ Some n → AllByRecursion (λ (q : Request). r.number < q.number) later → IsGrown (r ∷ later) tree → IsGrown later (put_before n r tree)
  grown_put n r later tree is rising h = record {
    family = subst IsFamily (sym (enter_put n r tree)) (family_put n (pending bound birth r) (enter tree) is (fresh_in r later tree h.below) h.family);
    below = before_all (λ (q : Request). AllByRecursion (λ (x : Request). q.number < x.number) later) n r tree rising (all_weaker _ _ tree (λ q less. less.1) h.below);
  }

  grown_one : (r : Request) (later : List Request) → r.under ≡ None → AllByRecursion (λ (q : Request). r.number < q.number) later → IsGrown later (r ∷ [])
  grown_one r later is rising = record {
    family = record { root = pending bound birth r; kids = NoTrees; under = (is, tt, tt, tt, tt); is = refl };
    below = (rising, tt);
  }

  grown_step : (under : Option ℕ) (r : Request) (later : List Request) (trees : List (List Request)) → r.under ≡ under → AllByRecursion (λ (q : Request). r.number < q.number) later
      → AllByRecursion (IsGrown (r ∷ later)) trees → AllByRecursion (IsGrown later) (with_request under r trees)
  grown_step None r later trees is rising h =
      all_append (IsGrown later) trees ((r ∷ []) ∷ [])
      (all_weaker (IsGrown (r ∷ later)) (IsGrown later) trees (λ tree g. record { family = g.family; below = all_weaker _ _ tree (λ q less. less.1) g.below }) h)
      (grown_one r later is rising, tt)
  grown_step (Some n) r later trees is rising h =
      all_map (IsGrown later) (put_before n r) trees (all_weaker (IsGrown (r ∷ later)) (λ tree. IsGrown later (put_before n r tree)) trees (λ tree g. grown_put n r later tree is rising g) h)

  batch_families : (requests : List Request) (trees : List (List Request)) → AreRising requests → AllByRecursion (IsGrown requests) trees → AllByRecursion (λ (tree : List Request). IsFamily (enter tree)) (with_requests requests trees)
  batch_families [] trees rising h = all_weaker (IsGrown []) _ trees (λ tree g. g.family) h
  batch_families (r ∷ requests) trees rising h = batch_families requests (with_request r.under r trees) rising.1 (grown_step r.under r requests trees refl rising.0 h)

  pub trees_families : (batch : List Request) → AreRising batch → AllByRecursion (λ (tree : List Request). IsFamily (map (pending bound birth) tree)) (trees_of batch)
  trees_families batch rising = batch_families batch [] rising tt
