-- A round that a runner may be given is sound.
use Rattle.std.proofs.Common.{◌≡◌, ◌≢◌, ℕ, suc, ◌+◌, ◌≤◌, List, [], ◌∷◌, ◌++◌, length, map, Bool, true, false, ◌&&◌, ◌||◌, not, Contains}
use Rattle.std.proofs.Common.{Option, Some, None, IfSome, IsTrue, eqb, eq-eqb, eqb-true, refl, sym, ap, ◌∙◌, subst, inl, inr, ◌⊎◌, arith}
use Rattle.std.specs.List.{AllByRecursion, flat_map}
use Rattle.std.proofs.lemmas.Bool.{and_parts}
use Rattle.std.proofs.lemmas.List.{append-nil, append_assoc}
use Rattle.zio_types.specs.declared.place.Place.{Place}
use Rattle.zio_types.specs.declared.place.TopSize.{TopSize}
use Rattle.zio_types.specs.Places.{are_apart, is_inside}
use Rattle.zio_faults.specs.declared.table.FaultKind.{FaultKind}
use Rattle.zio_faults.specs.declared.table.FaultKind.TheVariants.{Eio, Gone, Flip}
use Rattle.zio_faults.specs.declared.table.Row.{Row}
use Rattle.zio_blkptr.specs.declared.pointer.Bp.{Bp}
use Rattle.zio_blkptr.specs.Pointers.{valid}
use Rattle.zio_script.specs.declared.script.Failmode.{Failmode}
use Rattle.zio_script.specs.declared.script.Request.{Request}
use Rattle.zio_script.specs.declared.script.Work.{Work}
use Rattle.zio_script.specs.declared.script.Work.TheVariants.{Null, Read, Write, Free, Claim}
use Rattle.zio_script.specs.Accepted.{NameApart}
use Rattle.zio_script.specs.Requests.{kind_of, name_of, names_it}
use Rattle.zio_script.specs.Whys.{clashes, is_claim, is_flip, is_read, may_share}
use Rattle.zio_cksum.proofs.AllLemmas.{all_contains, all_weaker}
use Rattle.zio_gang.specs.declared.tree.Tree.{Tree}
use Rattle.zio_gang.specs.Attempts.{Pending, Terms}
use Rattle.zio_gang.specs.Trees.{sizes_of, tree_places, tree_pointers}
use Rattle.zio_trace.specs.Families.{Forest, NoTrees, TreeOf, flat}
use Rattle.zio_trace.specs.Keys.{NumbersOnce, bit, count_in}
use Rattle.zio_trace.specs.Labels.{same_number}
use Rattle.zio_trace.specs.Readers.{RowsArePlain, TurnsNoBytes}
use Rattle.zio_trace.specs.Rounds.{AreTrees, trees_in}
use Rattle.zio_trace.specs.Separate.{BlocksApart, IsNoClaim, LeavesHold, LeavesOnce}
use Rattle.zio_trace.specs.SoundRounds.{IsOwnBlock, IsRead, IsSoundRound, LeavesDiffer, ReadOneBlock}
use Rattle.zio_trace.proofs.LabelLemmas.{number_is, number_itself}
use Rattle.zio_trace.proofs.ListLemmas.{all_front, all_rest}
use Rattle.zio_trace.proofs.ValidBlocks.{valid_sound}
use Rattle.zio_course.specs.Runners.{AreOneOrApart, AreRunnable, NoneMeet, Standing, has_claim, joined_trees, places_of_block, requests_in}
use Rattle.zio_course.specs.Runners.{rows_tell_apart, terms_at}
use Rattle.zio_course.proofs.AdmittedLemmas.{not_both}
use Rattle.zio_course.proofs.DoneLemmas.{contains_one}
use Rattle.zio_course.proofs.RunnableLemmas.{clash_swap, counted_by}
use Rattle.zio_course.proofs.SortLemmas.{IsOneOf, counted, one_if, one_map}
use Rattle.zio_course.proofs.TouchLemmas.{two_apart}

-- a forest's trees have its requests in its order
joined_flat : (f : Forest) → joined_trees (trees_in f) ≡ flat f
joined_flat NoTrees = refl
joined_flat (TreeOf p kids others) =
    append_assoc (flat kids) (p ∷ []) (joined_trees (trees_in others))
    ∙ ap (λ (ps : List Pending). flat kids ++ p ∷ ps) (joined_flat others)

-- ---- numbers

same_bit : (m n : ℕ) → bit (same_number m n) ≡ one_if (eqb m n)
same_bit m n = go (same_number m n) refl (eqb m n) refl
  where
    go : (a : Bool) → same_number m n ≡ a → (b : Bool) → eqb m n ≡ b → bit a ≡ one_if b
    go true e true k = refl
    go false e false k = refl
    go true e false k = not_both (eqb m n) (eq-eqb m n (number_is m n e)) k
    go false e true k =
        not_both (same_number m n) (subst (λ (i : ℕ). same_number m i ≡ true) (eqb-true m n k) (number_itself m)) e

abbrev asked_in : List Pending → List Request
asked_in ps = map (λ (p : Pending). p.request) ps

abbrev times : ℕ → List Pending → ℕ
times n ps = counted (λ (r : Request). r.number) n (asked_in ps)

times_both : (n : ℕ) (ps qs : List Pending) → times n (ps ++ qs) ≡ times n ps + times n qs
times_both n [] qs = omega arith
times_both n (p ∷ ps) qs = omega (arith, times_both n ps qs)

count_times : (n : ℕ) (f : Forest) → count_in n f ≡ times n (flat f)
count_times n NoTrees = refl
count_times n (TreeOf p kids others) =
    let both = times_both n (flat kids) (p ∷ flat others) in
    omega (arith, same_bit p.request.number n, count_times n kids, count_times n others)

-- ---- blocks

abbrev HasValidPointers : Tree → Type 0
HasValidPointers tree = AllByRecursion (λ (bp : Bp). IsTrue (valid bp)) (tree_pointers tree)

own_block : (tops : List TopSize) (live : List Place) (block : Option Tree)
    → AllByRecursion (λ (p : Place). IsTrue (is_inside tops p)) live
    → IfSome block HasValidPointers → AllByRecursion (Contains live) (places_of_block block)
    → are_apart (places_of_block block) ≡ true
    → IfSome block (IsOwnBlock tops live)
own_block tops live None inside pointers used own = tt
own_block tops live (Some tree) inside pointers used own =
    let all : AllByRecursion (Contains live) (tree_places tree) =
    subst (AllByRecursion (Contains live)) (append-nil (tree_places tree)) used in
    record {
      sound = valid_sound tops live tree pointers all
          (all_weaker (Contains live) (λ (p : Place). IsTrue (is_inside tops p)) (tree_places tree)
          (λ p there. all_contains (λ (q : Place). IsTrue (is_inside tops q)) live p inside there) all);
      own = subst (λ (ps : List Place). are_apart ps ≡ true) (append-nil (tree_places tree)) own;
    }

each_of : (P : Place → Type 0) (ps : List Pending) → AllByRecursion P (flat_map (λ (p : Pending). places_of_block p.block) ps)
    → AllByRecursion (λ (p : Pending). AllByRecursion P (places_of_block p.block)) ps
each_of P [] h = tt
each_of P (p ∷ ps) h =
    let others : List Place = flat_map (λ (q : Pending). places_of_block q.block) ps in
    (all_front P (places_of_block p.block) others h, each_of P ps (all_rest P (places_of_block p.block) others h))

abbrev IsOwnIn : List TopSize → List Place → Pending → Type 0
IsOwnIn tops live p = IfSome p.block (IsOwnBlock tops live)

own_blocks : (tops : List TopSize) (live : List Place) (ps : List Pending)
    → AllByRecursion (λ (p : Place). IsTrue (is_inside tops p)) live
    → AllByRecursion (λ (p : Pending). IfSome p.block HasValidPointers) ps
    → AllByRecursion (λ (p : Pending). AllByRecursion (Contains live) (places_of_block p.block)) ps
    → AllByRecursion (λ (p : Pending). are_apart (places_of_block p.block) ≡ true) ps
    → AllByRecursion (IsOwnIn tops live) ps
own_blocks tops live [] inside pointers used own = tt
own_blocks tops live (p ∷ ps) inside pointers used own =
    (own_block tops live p.block inside pointers.0 used.0 own.0, own_blocks tops live ps inside pointers.1 used.1 own.1)

-- ---- two requests

blocks_apart : (block other : Option Tree) → NoneMeet (places_of_block block) (places_of_block other) → BlocksApart block other
blocks_apart None other h = tt
blocks_apart (Some tree) None h = tt
blocks_apart (Some tree) (Some more) h =
    subst (λ (ps : List Place). NoneMeet ps (tree_places more)) (append-nil (tree_places tree))
    (subst (NoneMeet (places_of_block (Some tree))) (append-nil (tree_places more)) h)

turns_none : (kind : FaultKind) → is_flip kind ≡ false → TurnsNoBytes kind
turns_none Eio e = tt
turns_none Gone e = tt
turns_none Flip e = absurd (let no = e in cc)

neither : (a b : Bool) → (a || b) ≡ false → (a ≡ false) × (b ≡ false)
neither true b e = absurd (let no = e in cc)
neither false b e = (refl, e)

plain_rows : (rows : List Row) → rows_tell_apart rows ≡ false → RowsArePlain rows
plain_rows [] e = tt
plain_rows (row ∷ rows) e =
    let both = neither (row.first || is_flip row.kind) (rows_tell_apart rows) e in
    let own = neither row.first (is_flip row.kind) both.0 in
    ((own.0, turns_none row.kind own.1), plain_rows rows both.1)

read_of : (work : Work) → is_read (kind_of work) ≡ true → IsRead work
read_of Null e = absurd (let no = e in cc)
read_of (Read name prio) e = tt
read_of (Write name sum copies prio body) e = absurd (let no = e in cc)
read_of (Free name) e = absurd (let no = e in cc)
read_of (Claim name pointer) e = absurd (let no = e in cc)

not_false : (b : Bool) → not b ≡ false → b ≡ true
not_false true e = refl
not_false false e = absurd (let no = e in cc)

not_true : (b : Bool) → not b ≡ true → b ≡ false
not_true true e = absurd (let no = e in cc)
not_true false e = refl

-- requests that name one block and don't clash may share it
shared : (apart : Bool) (v w : Work) → names_it (name_of v) (name_of w) ≡ true → clashes apart v w ≡ false
    → may_share apart v w ≡ true
shared apart v w names free =
    not_false (may_share apart v w) (sym (ap (λ (b : Bool). b && not (may_share apart v w)) names) ∙ free)

-- those that may are reads, and no row tells them apart
both_read : (t : Terms) (p q : Pending) → p.block ≡ q.block
    → may_share (rows_tell_apart t.setting.rows) p.request.work q.request.work ≡ true → ReadOneBlock t p q
both_read t p q same may =
    let apart : Bool = rows_tell_apart t.setting.rows in
    let first = and_parts (not apart && is_read (kind_of p.request.work)) (is_read (kind_of q.request.work)) may in
    let second = and_parts (not apart) (is_read (kind_of p.request.work)) first.0 in
    record {
      first = read_of p.request.work second.1;
      second = read_of q.request.work first.1;
      same = same;
      rows = plain_rows t.setting.rows (not_true apart second.0);
    }

abbrev AreFree : Terms → Request → Request → Type 0
AreFree t r u = clashes (rows_tell_apart t.setting.rows) r.work u.work ≡ false

two_requests : (t : Terms) (ps : List Pending) (p q : Pending) → NameApart (rows_tell_apart t.setting.rows) (asked_in ps)
    → Contains ps p → Contains ps q → p.request.number ≢ q.request.number → AreOneOrApart p q
    → BlocksApart p.block q.block ⊎ ReadOneBlock t p q
two_requests t ps p q names at here differ (inr apart) = inl (blocks_apart p.block q.block apart)
two_requests t ps p q names at here differ (inl one) =
    inr (both_read t p q one.same (shared (rows_tell_apart t.setting.rows) p.request.work q.request.work one.names
    (go (two_apart (rows_tell_apart t.setting.rows) (asked_in ps) p.request q.request names (asked p at) (asked q here)))))
  where
    asked : (x : Pending) → Contains ps x → IsOneOf x.request (asked_in ps)
    asked x there = one_map (λ (y : Pending). y.request) x ps (contains_one x ps there)

    go : (p.request ≡ q.request) ⊎ (AreFree t p.request q.request ⊎ AreFree t q.request p.request) → AreFree t p.request q.request
    go (inl same) = absurd (differ (ap (λ (r : Request). r.number) same))
    go (inr (inl free)) = free
    go (inr (inr free)) = clash_swap (rows_tell_apart t.setting.rows) p.request.work q.request.work ∙ free

-- ---- a claim

no_claim : (work : Work) → is_claim (kind_of work) ≡ false → IsNoClaim work
no_claim Null e = tt
no_claim (Read name prio) e = tt
no_claim (Write name sum copies prio body) e = tt
no_claim (Free name) e = tt
no_claim (Claim name pointer) e = absurd (let no = e in cc)

no_claims : (ps : List Pending) → has_claim (asked_in ps) ≡ false → AllByRecursion (λ (p : Pending). IsNoClaim p.request.work) ps
no_claims [] e = tt
no_claims (p ∷ ps) e =
    let both = neither (is_claim (kind_of p.request.work)) (has_claim (asked_in ps)) e in
    (no_claim p.request.work both.0, no_claims ps both.1)

more_in : (ps : List Pending) (p : Pending) (qs : List Pending) → length (ps ++ p ∷ qs) ≡ suc (length ps + length qs)
more_in [] p qs = omega arith
more_in (x ∷ ps) p qs = omega (arith, more_in ps p qs)

none_of : (f : Forest) → length (flat f) ≡ 0 → f ≡ NoTrees
none_of NoTrees e = refl
none_of (TreeOf p kids others) e = absurd (omega (arith, more_in (flat kids) p (flat others)))

one_of : (f : Forest) → length (flat f) ≡ 1 → (p : Pending) × (f ≡ TreeOf p NoTrees NoTrees)
one_of NoTrees e = absurd (omega arith)
one_of (TreeOf p kids others) e =
    let more = more_in (flat kids) p (flat others) in (
      p,
      ap (λ (k : Forest). TreeOf p k others) (none_of kids (omega arith))
          ∙ ap (λ (o : Forest). TreeOf p NoTrees o) (none_of others (omega arith)),
    )

mapped_length : (ps : List Pending) → length (asked_in ps) ≡ length ps
mapped_length [] = refl
mapped_length (p ∷ ps) = ap suc (mapped_length ps)

claims : (f : Forest) → (has_claim (asked_in (flat f)) ≡ true → length (asked_in (flat f)) ≡ 1)
    → AllByRecursion (λ (p : Pending). IsNoClaim p.request.work) (flat f) ⊎ ((p : Pending) × (f ≡ TreeOf p NoTrees NoTrees))
claims f alone = go (has_claim (asked_in (flat f))) refl
  where
    go : (b : Bool) → has_claim (asked_in (flat f)) ≡ b
        → AllByRecursion (λ (p : Pending). IsNoClaim p.request.work) (flat f) ⊎ ((p : Pending) × (f ≡ TreeOf p NoTrees NoTrees))
    go true has = inr (one_of f (sym (mapped_length (flat f)) ∙ alone has))
    go false none = inl (no_claims (flat f) none)

-- ---- all together

-- what is known of the requests of the trees, as one list
record AreGiven (s : Standing) (ps : List Pending) : Type 0 where
  once : (n : ℕ) → times n ps ≤ 1
  names : NameApart (rows_tell_apart s.rows) (asked_in ps)
  claim : has_claim (asked_in ps) ≡ true → length (asked_in ps) ≡ 1
  used : AllByRecursion (Contains s.live) (flat_map (λ (p : Pending). places_of_block p.block) ps)
  own : AllByRecursion (λ (p : Pending). are_apart (places_of_block p.block) ≡ true) ps
  between : (p q : Pending) → Contains ps p → Contains ps q → p.request.number ≢ q.request.number → AreOneOrApart p q
  pointers : AllByRecursion (λ (p : Pending). IfSome p.block HasValidPointers) ps

given : (s : Standing) (trees : List (List Pending)) → AreRunnable s trees
    → AllByRecursion (λ (p : Pending). IfSome p.block HasValidPointers) (joined_trees trees)
    → AreGiven s (joined_trees trees)
given s trees runs pointers = record {
  once = λ n. subst (λ (k : ℕ). k ≤ 1) (counted_by n (requests_in trees)) (runs.once n);
  names = runs.apart;
  claim = runs.claim;
  used = runs.live;
  own = runs.own;
  between = runs.between;
  pointers = pointers;
}

-- no number stands twice in the forest
pub runnable_once : (s : Standing) (trees : List (List Pending)) (f : Forest) → trees_in f ≡ trees → AreRunnable s trees → NumbersOnce f
runnable_once s trees f is runs n =
    let all : times n (joined_trees trees) ≤ 1 = subst (λ (k : ℕ). k ≤ 1) (counted_by n (requests_in trees)) (runs.once n) in
    let few : times n (flat f) ≤ 1 =
    subst (λ (ps : List Pending). times n ps ≤ 1) (sym (ap joined_trees is) ∙ joined_flat f) all in
    let same = count_times n f in omega arith

pub runnable_sound : (s : Standing) (failmode : Failmode) (round point : ℕ) (sizes : ℕ → ℕ) (trees : List (List Pending)) (f : Forest)
    → trees_in f ≡ trees → AreTrees f → AreRunnable s trees
    → LeavesOnce s.tops → LeavesDiffer s.tops → LeavesHold sizes s.tops
    → AllByRecursion (λ (p : Pending). IfSome p.block HasValidPointers) (joined_trees trees)
    → AllByRecursion (λ (p : Place). IsTrue (is_inside (sizes_of s.tops) p)) s.live
    → IsSoundRound (terms_at s failmode round point) sizes f
runnable_sound s failmode round point sizes trees f is are runs once differ hold pointers inside =
    let known : AreGiven s (flat f) =
    subst (AreGiven s) (sym (ap joined_trees is) ∙ joined_flat f) (given s trees runs pointers) in
    record {
      trees = are;
      numbers = λ n. (let same = count_times n f in let few = known.once n in omega arith);
      once = once;
      twice = differ;
      hold = hold;
      blocks = own_blocks (sizes_of s.tops) s.live (flat f) inside known.pointers
          (each_of (Contains s.live) (flat f) known.used) known.own;
      different = λ p q at here other.
          two_requests (terms_at s failmode round point) (flat f) p q known.names at here other (known.between p q at here other);
      claims = claims f known.claim;
    }
