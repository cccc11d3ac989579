-- A history apart: the parts of what is read with repairs, and the single operations beside them.
use Rattle.std.proofs.Common.{◌≡◌, ℕ, ◌+◌, Bool, true, false, cond, List, [], ◌∷◌, ◌++◌, Contains, ◌⊎◌, inl, inr, ⊎_elim, refl, sym, ap, ◌∙◌, subst, arith}
use Rattle.std.specs.List.{AllByRecursion}
use Rattle.zio_types.specs.Choices.{Choice}
use Rattle.zio_cksum.specs.Images.{Images}
use Rattle.zio_cksum.proofs.AllLemmas.{all_append, all_contained, all_contains, all_weaker}
use Rattle.zio_gang.specs.Attempts.{Terms}
use Rattle.zio_trace.specs.Conflicts.{TaskLies, TasksApart, is_single}
use Rattle.zio_trace.specs.Labels.{Below, Earlier, Labelled, means_at, same_at}
use Rattle.zio_trace.specs.Leaves.{Fetch, HaveSizes, LeafOp, LiesOn, Store}
use Rattle.zio_trace.specs.Oracles.{Ascends, InOrder, Oracle, ops_of, weigh}
use Rattle.zio_trace.specs.Passing.{parent_at}
use Rattle.zio_trace.specs.Programs.{Deed, Happen}
use Rattle.zio_trace.specs.Tasks.{Leaf, Task, Value, means}
use Rattle.zio_trace.proofs.AtomLemmas.{all_parts}
use Rattle.zio_trace.proofs.ChoiceLemmas.{contained_cases}
use Rattle.zio_trace.proofs.LabelLemmas.{Under, at_is, at_itself}
use Rattle.zio_trace.proofs.ListLemmas.{contains_first, contains_later}
use Rattle.zio_trace.proofs.PutLemmas.{after_all, after_append}
use Rattle.zio_trace.proofs.RoundDone.{weigh_append}
use Rattle.zio_trace.proofs.RoundLemmas.{tasks_commute}
use Rattle.zio_trace.proofs.SharedTurns.{single_passes, singles_in}

-- ---- which operations are parts

-- it stands in the place of a part of one of these
abbrev pub is_part : List (Labelled Task) → Labelled Task → Bool
is_part [] x = false
is_part (y ∷ ys) x = cond (is_single y.op) (is_part ys x) (cond (same_at y.at (parent_at x.at)) true (is_part ys x))

still_true : (a b : Bool) → cond a true (cond b true true) ≡ true
still_true true b = refl
still_true false true = refl
still_true false false = refl

pub part_true : (ys : List (Labelled Task)) (y x : Labelled Task) → Contains ys y → is_single y.op ≡ false → y.at ≡ parent_at x.at → is_part ys x ≡ true
part_true [] y x c e h = absurd (all_contains (λ (z : Labelled Task). ⊥) [] y tt c)
part_true (z ∷ ys) y x c e h =
    ⊎_elim
    (λ (is : z ≡ y).
    let double : is_single z.op ≡ false = ap (λ (q : Labelled Task). is_single q.op) is ∙ e in
    let here : same_at z.at (parent_at x.at) ≡ true = ap (λ (at : List ℕ). same_at at (parent_at x.at)) (ap (λ (q : Labelled Task). q.at) is ∙ h) ∙ at_itself (parent_at x.at) in
    λ i. cond (double i) (is_part ys x) (cond (here i) true (is_part ys x)))
    (λ (later : Contains ys y).
    ap (λ (b : Bool). cond (is_single z.op) b (cond (same_at z.at (parent_at x.at)) true b)) (part_true ys y x later e h)
    ∙ still_true (is_single z.op) (same_at z.at (parent_at x.at)))
    (contained_cases z ys y c)

part_false : (ys : List (Labelled Task)) (x : Labelled Task) → AllByRecursion (λ (y : Labelled Task). is_single y.op ≡ false → y.at ≡ parent_at x.at → ⊥) ys → is_part ys x ≡ false
part_false [] x h = refl
part_false (z ∷ ys) x h = by (is_single z.op) (same_at z.at (parent_at x.at)) refl refl (part_false ys x h.1)
  where
    by : (a b : Bool) → is_single z.op ≡ a → same_at z.at (parent_at x.at) ≡ b → is_part ys x ≡ false → cond a (is_part ys x) (cond b true (is_part ys x)) ≡ false
    by true b e f rest = rest
    by false true e f rest = absurd (h.0 e (at_is z.at (parent_at x.at) f))
    by false false e f rest = rest

below_front : (ns ms : List ℕ) → Below ns (ns ++ ms) → ⊥
below_front [] [] h = h
below_front [] (m ∷ ms) h = h
below_front (n ∷ ns) ms (inl h) = omega arith
below_front (n ∷ ns) ms (inr h) = below_front ns ms h.1

below_back : (ns ms : List ℕ) → Below (ns ++ ms) ns → ⊥
below_back [] [] h = h
below_back [] (m ∷ ms) h = h
below_back (n ∷ ns) ms (inl h) = omega arith
below_back (n ∷ ns) ms (inr h) = below_back ns ms h.1

unparent : (n : ℕ) (ns : List ℕ) → (k : ℕ) × (n ∷ ns ≡ parent_at (n ∷ ns) ++ k ∷ [])
unparent n [] = (n, refl)
unparent n (m ∷ ns) = let r : (k : ℕ) × (m ∷ ns ≡ parent_at (m ∷ ns) ++ k ∷ []) = unparent m ns in (r.0, ap (λ (xs : List ℕ). n ∷ xs) r.1)

-- two of those that ascend are one, or one stands before the other
either : (ops : List (Labelled Task)) → Ascends Earlier ops → (x y : Labelled Task) → Contains ops x → Contains ops y → (x ≡ y) ⊎ (Earlier x y ⊎ Earlier y x)
either [] h x y cx cy = absurd (all_contains (λ (z : Labelled Task). ⊥) [] x tt cx)
either (a ∷ ops) h x y cx cy =
    ⊎_elim
    (λ (ex : a ≡ x).
    ⊎_elim
    (λ (ey : a ≡ y). inl (sym ex ∙ ey))
    (λ (later : Contains ops y). inr (inl (subst (λ (z : Labelled Task). Earlier z y) ex (all_contains (Earlier a) ops y h.0 later))))
    (contained_cases a ops y cy))
    (λ (lx : Contains ops x).
    ⊎_elim
    (λ (ey : a ≡ y). inr (inr (subst (λ (z : Labelled Task). Earlier z x) ey (all_contains (Earlier a) ops x h.0 lx))))
    (λ (ly : Contains ops y). either ops h.1 x y lx ly)
    (contained_cases a ops y cy))
    (contained_cases a ops x cx)

-- a single operation is no part of another
pub single_no_part : (ops : List (Labelled Task)) → Ascends Earlier ops → AllByRecursion (Under [] 0) ops → (x : Labelled Task) → Contains ops x → is_single x.op ≡ true → is_part ops x ≡ false
single_no_part ops h under x cx single =
    part_false ops x
    (all_weaker (Contains ops) (λ (y : Labelled Task). is_single y.op ≡ false → y.at ≡ parent_at x.at → ⊥) ops
    (λ y cy double e.
    let u : Under [] 0 x = all_contains (Under [] 0) ops x under cx in
    let r = unparent u.number u.below in
    let is : x.at ≡ y.at ++ r.0 ∷ [] = u.is ∙ r.1 ∙ ap (λ (ns : List ℕ). parent_at ns ++ r.0 ∷ []) (sym u.is) ∙ ap (λ (ns : List ℕ). ns ++ r.0 ∷ []) (sym e) in
    ⊎_elim
    (λ (same : x ≡ y). let no : true ≡ false = sym single ∙ ap (λ (q : Labelled Task). is_single q.op) same ∙ double in absurd (cc))
    (λ order.
    ⊎_elim
    (λ (first : Earlier x y). below_back y.at (r.0 ∷ []) (subst (λ (ns : List ℕ). Below ns y.at) is first))
    (λ (later : Earlier y x). below_front y.at (r.0 ∷ []) (subst (Below y.at) is later))
    order)
    (either ops h x y cx cy))
    (all_contained ops))

-- ---- single operations of a list

pub all_single_ops : (P : Labelled Task → Type 0) (xs : List (Labelled Task)) → AllByRecursion P xs → AllByRecursion P (singles_in xs)
all_single_ops P [] h = tt
all_single_ops P (x ∷ xs) h = by (is_single x.op) (all_single_ops P xs h.1)
  where
    by : (b : Bool) → AllByRecursion P (singles_in xs) → AllByRecursion P (cond b (x ∷ singles_in xs) (singles_in xs))
    by true rest = (h.0, rest)
    by false rest = rest

pub ascends_singles : (xs : List (Labelled Task)) → Ascends Earlier xs → Ascends Earlier (singles_in xs)
ascends_singles [] h = tt
ascends_singles (x ∷ xs) h = by (is_single x.op) (ascends_singles xs h.1)
  where
    by : (b : Bool) → Ascends Earlier (singles_in xs) → Ascends Earlier (cond b (x ∷ singles_in xs) (singles_in xs))
    by true rest = (all_single_ops (Earlier x) xs h.0, rest)
    by false rest = rest

pub single_listed : (xs : List (Labelled Task)) (x : Labelled Task) → Contains xs x → is_single x.op ≡ true → Contains (singles_in xs) x
single_listed [] x c e = absurd (all_contains (λ (y : Labelled Task). ⊥) [] x tt c)
single_listed (y ∷ xs) x c e =
    ⊎_elim
    (λ (same : y ≡ x).
    let single : is_single y.op ≡ true = ap (λ (q : Labelled Task). is_single q.op) same ∙ e in
    subst (λ (b : Bool). Contains (cond b (y ∷ singles_in xs) (singles_in xs)) x) (sym single)
    (subst (Contains (y ∷ singles_in xs)) same (contains_first y (singles_in xs))))
    (λ (later : Contains xs x). by (is_single y.op) (single_listed xs x later e))
    (contained_cases y xs x c)
  where
    by : (b : Bool) → Contains (singles_in xs) x → Contains (cond b (y ∷ singles_in xs) (singles_in xs)) x
    by true k = contains_later y (singles_in xs) x k
    by false k = k

-- ---- the history apart

abbrev pub stores_of : Task → List LeafOp
stores_of (Leaf (Store retry bytes spot)) = Store retry bytes spot ∷ []
stores_of _ = []

abbrev pub IsLeafTask : Task → Type 0
IsLeafTask (Leaf op) = Unit {0}
IsLeafTask _ = ⊥

module _ (test : Labelled Task → Bool) where
  abbrev pub singles_done : List (Deed (Labelled Task) Value) → List (Deed (Labelled Task) Value)
  singles_done [] = []
  singles_done (d ∷ ds) = cond (test d.op) (singles_done ds) (d ∷ singles_done ds)

  abbrev pub puts_done : List (Deed (Labelled Task) Value) → List LeafOp
  puts_done [] = []
  puts_done (d ∷ ds) = cond (test d.op) (stores_of d.op.op ++ puts_done ds) (puts_done ds)

  pub all_singles : (P : Deed (Labelled Task) Value → Type 0) (ds : List (Deed (Labelled Task) Value)) → AllByRecursion (λ (d : Deed (Labelled Task) Value). test d.op ≡ false → P d) ds → AllByRecursion P (singles_done ds)
  all_singles P [] h = tt
  all_singles P (d ∷ ds) h = by (test d.op) refl (all_singles P ds h.1)
    where
      by : (b : Bool) → test d.op ≡ b → AllByRecursion P (singles_done ds) → AllByRecursion P (cond b (singles_done ds) (d ∷ singles_done ds))
      by true e rest = rest
      by false e rest = (h.0 e, rest)

  pub all_puts : (P : LeafOp → Type 0) (ds : List (Deed (Labelled Task) Value)) → AllByRecursion (λ (d : Deed (Labelled Task) Value). test d.op ≡ true → AllByRecursion P (stores_of d.op.op)) ds → AllByRecursion P (puts_done ds)
  all_puts P [] h = tt
  all_puts P (d ∷ ds) h = by (test d.op) refl (all_puts P ds h.1)
    where
      by : (b : Bool) → test d.op ≡ b → AllByRecursion P (puts_done ds) → AllByRecursion P (cond b (stores_of d.op.op ++ puts_done ds) (puts_done ds))
      by true e rest = all_append P (stores_of d.op.op) (puts_done ds) (h.0 e) rest
      by false e rest = rest

  puts_later : (b : Bool) (xs ys : List LeafOp) (op : LeafOp) → Contains ys op → Contains (cond b (xs ++ ys) ys) op
  puts_later true [] ys op c = c
  puts_later true (x ∷ xs) ys op c = contains_later x (xs ++ ys) op (puts_later true xs ys op c)
  puts_later false xs ys op c = c

  -- a write of a part is among them
  pub put_done : (ds : List (Deed (Labelled Task) Value)) (y : Labelled Task) (retry : Bool) (bytes : List ℕ) (spot : _) → Contains (ops_of ds) y → test y ≡ true → y.op ≡ Leaf (Store retry bytes spot) → Contains (puts_done ds) (Store retry bytes spot)
  put_done [] y retry bytes spot c e is = absurd (all_contains (λ (z : Labelled Task). ⊥) [] y tt c)
  put_done (d ∷ ds) y retry bytes spot c e is =
      ⊎_elim
      (λ (same : d.op ≡ y).
      let here : test d.op ≡ true = ap test same ∙ e in
      let op : d.op.op ≡ Leaf (Store retry bytes spot) = ap (λ (q : Labelled Task). q.op) same ∙ is in
      subst (λ (b : Bool). Contains (cond b (stores_of d.op.op ++ puts_done ds) (puts_done ds)) (Store retry bytes spot)) (sym here)
      (subst (λ (q : Task). Contains (stores_of q ++ puts_done ds) (Store retry bytes spot)) (sym op) (contains_first (Store retry bytes spot) (puts_done ds))))
      (λ (later : Contains (ops_of ds) y). puts_later (test d.op) (stores_of d.op.op) (puts_done ds) (Store retry bytes spot) (put_done ds y retry bytes spot later e is))
      (contained_cases d.op (ops_of ds) y c)

  -- the order of the single ones
  pub order_singles : (R S : Labelled Task → Labelled Task → Type 0) (F : Labelled Task → Type 0) → ((x y : Labelled Task) → F x → F y → R x y → S x y) → (ds : List (Deed (Labelled Task) Value)) → AllByRecursion (λ (d : Deed (Labelled Task) Value). test d.op ≡ false → F d.op) ds → InOrder Earlier R ds → InOrder Earlier S (singles_done ds)
  order_singles R S F f [] h order = tt
  order_singles R S F f (d ∷ ds) h order = by (test d.op) refl (order_singles R S F f ds h.1 order.1)
    where
      each : F d.op → (es : List (Deed (Labelled Task) Value)) → AllByRecursion (λ (e : Deed (Labelled Task) Value). test e.op ≡ false → F e.op) es → AllByRecursion (λ (e : Deed (Labelled Task) Value). Earlier e.op d.op → R d.op e.op) es
          → AllByRecursion (λ (e : Deed (Labelled Task) Value). test e.op ≡ false → Earlier e.op d.op → S d.op e.op) es
      each fd [] k o = tt
      each fd (e ∷ es) k o = ((λ no l. f d.op e.op fd (k.0 no) (o.0 l)), each fd es k.1 o.1)

      by : (b : Bool) → test d.op ≡ b → InOrder Earlier S (singles_done ds) → InOrder Earlier S (cond b (singles_done ds) (d ∷ singles_done ds))
      by true e rest = rest
      by false e rest = (all_singles (λ (x : Deed (Labelled Task) Value). Earlier x.op d.op → S d.op x.op) ds (each (h.0 e) ds h.1 order.0), rest)

  -- ---- how much

  abbrev pub beside : (Labelled Task → ℕ) → Labelled Task → ℕ
  beside v x = cond (test x) 0 (v x)

  pub weigh_done : (v : Labelled Task → ℕ) (ds : List (Deed (Labelled Task) Value)) → weigh v (ops_of (singles_done ds)) ≡ weigh (beside v) (ops_of ds)
  weigh_done v [] = refl
  weigh_done v (d ∷ ds) = by (test d.op) ∙ ap (λ (n : ℕ). beside v d.op + n) (weigh_done v ds)
    where
      by : (b : Bool) → weigh v (ops_of (cond b (singles_done ds) (d ∷ singles_done ds))) ≡ cond b 0 (v d.op) + weigh v (ops_of (singles_done ds))
      by true = omega arith
      by false = refl

  weigh_none : (v : Labelled Task → ℕ) (xs : List (Labelled Task)) → AllByRecursion (λ (x : Labelled Task). test x ≡ true) xs → weigh (beside v) xs ≡ 0
  weigh_none v [] h = refl
  weigh_none v (x ∷ xs) h =
      let none : beside v x ≡ 0 = ap (λ (b : Bool). cond b 0 (v x)) h.0 in
      let rest : weigh (beside v) xs ≡ 0 = weigh_none v xs h.1 in
      omega arith

  -- a single operation is itself and no part, and another comes to parts alone
  pub record IsSplit (o : Oracle (Labelled Task) Value) (x : Labelled Task) : Type 0 where
    pub itself : is_single x.op ≡ true → o.asked x ≡ x ∷ []
    pub no_part : is_single x.op ≡ true → test x ≡ false
    pub parts : is_single x.op ≡ false → AllByRecursion (λ (q : Labelled Task). test q ≡ true) (o.asked x)

  pub weigh_parts : (o : Oracle (Labelled Task) Value) (v : Labelled Task → ℕ) (xs : List (Labelled Task)) → AllByRecursion (IsSplit o) xs → weigh v (singles_in xs) ≡ weigh (beside v) (all_parts o xs)
  weigh_parts o v [] h = refl
  weigh_parts o v (x ∷ xs) h = by (is_single x.op) refl (weigh_parts o v xs h.1) ∙ sym (weigh_append (beside v) (o.asked x) (all_parts o xs))
    where
      by : (b : Bool) → is_single x.op ≡ b → weigh v (singles_in xs) ≡ weigh (beside v) (all_parts o xs) → weigh v (cond b (x ∷ singles_in xs) (singles_in xs)) ≡ weigh (beside v) (o.asked x) + weigh (beside v) (all_parts o xs)
      by true e rest =
          let one : weigh (beside v) (o.asked x) ≡ beside v x + 0 = ap (weigh (beside v)) (h.0.itself e) in
          let is : beside v x ≡ v x = ap (λ (b : Bool). cond b 0 (v x)) (h.0.no_part e) in
          omega arith
      by false e rest = let none : weigh (beside v) (o.asked x) ≡ 0 = weigh_none v (o.asked x) (h.0.parts e) in omega arith

  -- ---- what happened

  stored_after : (j : List Choice) (t : Terms) (task : Task) (images : Images) → IsLeafTask task → (means j t task images).images ≡ after_all t.setting (stores_of task) images
  stored_after j t (Leaf (Fetch retry len spot)) images h = refl
  stored_after j t (Leaf (Store retry bytes spot)) images h = refl
  stored_after j t _ images h = absurd h

  module _ (j : List Choice) (t : Terms) (sizes : ℕ → ℕ) (In : LeafOp → Type 0) (lies_in : (op : LeafOp) → In op → LiesOn sizes op) where
    -- a part is on a leaf, and if it writes, so; a single operation doesn't conflict with such writes
    pub record IsSorted (d : Deed (Labelled Task) Value) : Type 0 where
      pub leaf : test d.op ≡ true → IsLeafTask d.op.op
      pub puts : test d.op ≡ true → AllByRecursion In (stores_of d.op.op)
      pub apart : test d.op ≡ false → (op : LeafOp) → In op → TasksApart (Leaf op) d.op.op

    abbrev Happens : List (Deed (Labelled Task) Value) → Images → Images → Type 0
    Happens ds before after = Happen (means_at (means j t)) ds before after

    -- the single ones gave the same where all writes of parts were made before
    pub singles_happen : (ds : List (Deed (Labelled Task) Value)) (before after : Images) → AllByRecursion IsSorted ds → AllByRecursion (λ (d : Deed (Labelled Task) Value). TaskLies sizes d.op.op) ds → HaveSizes sizes before → Happens ds before after → Happens (singles_done ds) (after_all t.setting (puts_done ds) before) after
    singles_happen [] before after sorted lies sized h = h
    singles_happen (d ∷ ds) before after sorted lies sized h =
        let next : Images = (means j t d.op.op before).images in
        by (test d.op) refl (singles_happen ds next after sorted.1 lies.1 ((tasks_commute j t sizes).sound d.op.op before sized lies.0) h.1)
      where
        by : (b : Bool) → test d.op ≡ b → Happens (singles_done ds) (after_all t.setting (puts_done ds) (means j t d.op.op before).images) after
            → Happens (cond b (singles_done ds) (d ∷ singles_done ds)) (after_all t.setting (cond b (stores_of d.op.op ++ puts_done ds) (puts_done ds)) before) after
        by true e rest =
            subst (λ (i : Images). Happens (singles_done ds) i after)
            (ap (after_all t.setting (puts_done ds)) (stored_after j t d.op.op before (sorted.0.leaf e)) ∙ sym (after_append t.setting (stores_of d.op.op) (puts_done ds) before))
            rest
        by false e rest =
            let all : AllByRecursion In (puts_done ds) = all_puts In ds (all_weaker IsSorted (λ (x : Deed (Labelled Task) Value). test x.op ≡ true → AllByRecursion In (stores_of x.op.op)) ds (λ x s. s.puts) sorted.1) in
            let passes = single_passes j t sizes d.op.op (puts_done ds) before lies.0 sized (all_weaker In (λ (op : LeafOp). TasksApart (Leaf op) d.op.op × LiesOn sizes op) (puts_done ds) (λ op k. (sorted.0.apart e op k, lies_in op k)) all) in
            (passes.0 ∙ h.0, subst (λ (i : Images). Happens (singles_done ds) i after) (sym passes.1) rest)
