-- What attempts leave: requests that finished and requests that are left.
use Rattle.std.proofs.Common.{◌≡◌, ℕ, suc, zero, ◌+◌, ◌≤◌, List, [], ◌∷◌, ◌++◌, length, map, count_by, Bool, true, false, ◌&&◌, ◌||◌, not, cond, Contains, Option, Some, None, is_some, refl, sym, ap, ◌∙◌, subst, inl, inr, ◌⊎◌, arith}
use Rattle.std.specs.List.{AllByRecursion}
use Rattle.std.proofs.lemmas.Bool.{false≢true}
use Rattle.std.proofs.lemmas.List.{append-nil, append_assoc, map-append}
use Rattle.std.proofs.lemmas.List.Elements.{Contains-append_cases, Contains-append_left, Contains-append_right}
use Rattle.std.proofs.lemmas.List.Sums.{sum_by-append}
use Rattle.zio_cksum.proofs.AllLemmas.{all_append}
use Rattle.zio_types.specs.declared.error.Errno.{Errno}
use Rattle.zio_types.specs.declared.request.Bits.{Bits}
use Rattle.zio_types.specs.declared.request.Kind.{Kind}
use Rattle.zio_types.specs.declared.request.Kind.TheVariants.{Claim}
use Rattle.zio_types.specs.Bits.{has_bits, joined_bits, no_bits}
use Rattle.zio_types.specs.Errors.{worst_error, worst_of}
use Rattle.zio_script.specs.declared.script.Failmode.{Failmode}
use Rattle.zio_script.specs.declared.script.Request.{Request}
use Rattle.zio_script.specs.declared.script.Work.{Work}
use Rattle.zio_script.specs.declared.script.Work.TheVariants.{Null, Read, Write, Free, Claim as ClaimOf}
use Rattle.zio_script.specs.Whys.{is_claim}
use Rattle.zio_script.specs.Decisions.{all_bits, kind_bits, may_fail, suspend_unless}
use Rattle.zio_script.specs.Requests.{kind_of}
use Rattle.zio_gang.specs.Attempts.{Attempted, Child, Ended, Own, Pending, Return, Terms, bits_of, closed_if, insert_children, judged_own, now_alone, reexecutions_max, tree_unless}
use Rattle.zio_trace.specs.Families.{Forest, NoTrees, TreeOf, before, flat, root_left}
use Rattle.zio_trace.specs.Plans.{Kids, add_kid, bare, one_of}
use Rattle.zio_trace.specs.Rounds.{Round, add_tree, trees_in}
use Rattle.zio_trace.specs.Tasks.{One, OwnGot, Settled, Value, settled as settled_in}
use Rattle.zio_trace.specs.Together.{round_of}
use Rattle.zio_gang.specs.Rounds.{add_left}
use Rattle.zio_course.specs.Runners.{AreRestsOf, IsFrontOf, IsRestOf, IsSamePending, has_claim, is_numbered, joined_trees, numbers_of, requests_in}
use Rattle.zio_sound.specs.Leaving.{AreAttempted, AreSettled, IsAttempted, IsSettled, LeavesTrees, MakesOwn, OwnMakes, SettlesOn, no_kids, requests_ended, requests_of}

-- ---- counts

abbrev pub times : ℕ → List Request → ℕ
times n rs = count_by (is_numbered n) (numbers_of rs)

times_append : (n : ℕ) (xs ys : List Request) → times n (xs ++ ys) ≡ times n xs + times n ys
times_append n xs ys =
    ap (λ (ns : List ℕ). count_by (is_numbered n) ns) (map-append (λ (r : Request). r.number) xs ys)
    ∙ sum_by-append (λ m. cond {A = ℕ} (is_numbered n m) 1 0) (numbers_of xs) (numbers_of ys)

pub pending_times : (n : ℕ) (xs ys : List Pending) → times n (requests_of (xs ++ ys)) ≡ times n (requests_of xs) + times n (requests_of ys)
pending_times n xs ys =
    ap (times n) (map-append (λ (p : Pending). p.request) xs ys) ∙ times_append n (requests_of xs) (requests_of ys)

pub ended_times : (n : ℕ) (xs ys : List Ended) → times n (requests_ended (xs ++ ys)) ≡ times n (requests_ended xs) + times n (requests_ended ys)
ended_times n xs ys =
    ap (times n) (map-append (λ (e : Ended). e.request) xs ys) ∙ times_append n (requests_ended xs) (requests_ended ys)

-- ---- bits

or_none : (a b : Bool) → a || b ≡ false → (a ≡ false) × (b ≡ false)
or_none true b e = absurd (cc)
or_none false b e = (refl, e)

joined_none : (a b : Bits) → has_bits (joined_bits a b) ≡ false → (has_bits a ≡ false) × (has_bits b ≡ false)
joined_none a b e =
    let both = or_none (a.now || b.now) (a.suspend || b.suspend) e in
    let now = or_none a.now b.now both.0 in
    let held = or_none a.suspend b.suspend both.1 in
    (none a.now a.suspend now.0 held.0, none b.now b.suspend now.1 held.1)
  where
    none : (x y : Bool) → x ≡ false → y ≡ false → x || y ≡ false
    none true y p q = p
    none false y p q = q

unless_none : (canfail : Bool) (bits : Bits) → has_bits (suspend_unless canfail bits) ≡ false → has_bits bits ≡ false
unless_none true bits e = e
unless_none false bits e = absurd (some bits.now e)
  where
    some : (now : Bool) → now || true ≡ false → ⊥
    some true e = cc
    some false e = cc

-- no bit of all is none of the children's
all_none : (kind : Kind) (error : Option Errno) (canfail : Bool) (mode : Failmode) (children : Bits) →
    has_bits (all_bits kind error canfail mode children) ≡ false → has_bits children ≡ false
all_none kind None canfail mode children e = e
all_none kind (Some x) canfail mode children e =
    let joined = joined_bits (kind_bits kind x canfail mode) children in
    (joined_none (kind_bits kind x canfail mode) children (unless_none (may_fail kind canfail || has_bits joined) joined e)).1

-- ---- one request

-- it finished and nothing goes again, since no child does, or it goes again as it was
pub data Judged (p : Pending) (children : Bits) (a : Attempted) : Type 0 where
  Ends : (e : Ended) → a.ended ≡ e ∷ [] → a.again ≡ [] → e.request ≡ p.request → MakesOwn e → has_bits a.return.bits ≡ false
      → has_bits children ≡ false → Judged p children a
  Stays : (q : Pending) → a.ended ≡ [] → a.again ≡ q ∷ [] → IsSamePending p q → has_bits a.return.bits ≡ true → Judged p children a

unless_well : (error : Option Errno) (own : OwnGot) → is_some (tree_unless error own.tree) ≡ true → error ≡ None
unless_well None own e = refl
unless_well (Some x) own e = absurd (cc)

unless_some : (error : Option Errno) (own : OwnGot) → is_some (tree_unless error own.tree) ≡ true → is_some own.tree ≡ true
unless_some None own e = e
unless_some (Some x) own e = absurd (cc)

abbrev closed_error : OwnGot → List Child → Option Errno
closed_error own kept = worst_error own.error (worst_of (map (λ (c : Child). c.error) kept))

closed_so : (b : Bool) (p : Pending) (own : OwnGot) (bits children : Bits) (kept : List Child) → OwnMakes p.request.work own
    → has_bits bits ≡ b → (b ≡ false → has_bits children ≡ false) → Judged p children (closed_if b p (bare own) bits kept)
closed_so true p own bits children kept makes e none =
    Stays (record p { kept = kept }) refl refl (record { request = refl; birth = refl; block = refl }) e
closed_so false p own bits children kept makes e none =
    let error : Option Errno = closed_error own kept in
    Ends (record { request = p.request; error = error; bytes = own.bytes; tree = tree_unless error own.tree }) refl refl refl
    (record { well = unless_well error own; makes = λ some. makes (unless_some error own some) }) refl (none refl)

pub judged_so : (t : Terms) (p : Pending) (returns : List Return) (own : OwnGot) → OwnMakes p.request.work own
    → Judged p (bits_of returns) (judged_own t p returns (bare own))
judged_so t p returns own makes =
    let bits : Bits = all_bits (kind_of p.request.work) own.error p.request.canfail t.failmode (bits_of returns) in
    closed_so (has_bits bits) p own bits (bits_of returns) _ makes refl
    (all_none (kind_of p.request.work) own.error p.request.canfail t.failmode (bits_of returns))

-- ---- parts of lists

-- some of the requests in their order, each as it was
abbrev pub PartOf : List Pending → List Pending → Type 0
PartOf [] ys = ys ≡ []
PartOf (x ∷ xs) ys = IsFrontOf x ys (PartOf xs) ⊎ PartOf xs ys

part_none : (xs : List Pending) → PartOf xs []
part_none [] = refl
part_none (x ∷ xs) = inr (part_none xs)

part_append : (xs ys us bs : List Pending) → PartOf xs ys → PartOf us bs → PartOf (xs ++ us) (ys ++ bs)
part_append [] ys us bs h k = subst (λ (zs : List Pending). PartOf us (zs ++ bs)) (sym h) k
part_append (x ∷ xs) ys us bs (inr h) k = inr (part_append xs ys us bs h k)
part_append (x ∷ xs) [] us bs (inl h) k = absurd h
part_append (x ∷ xs) (y ∷ ys) us bs (inl h) k = inl (h.0, part_append xs ys us bs h.1 k)

part_one : (x y : Pending) → IsSamePending x y → PartOf (x ∷ []) (y ∷ [])
part_one x y h = inl (h, refl)

same_then : (p q r : Pending) → IsSamePending p q → IsSamePending q r → IsSamePending p r
same_then p q r h k = record { request = k.request ∙ h.request; birth = k.birth ∙ h.birth; block = k.block ∙ h.block }

part_of_none : (ys zs : List Pending) → ys ≡ [] → PartOf ys zs → PartOf [] zs
part_of_none [] zs e k = k
part_of_none (y ∷ ys) zs e k = absurd (cc)

part_then : (xs ys zs : List Pending) → PartOf xs ys → PartOf ys zs → PartOf xs zs
part_then [] ys zs h k = part_of_none ys zs h k
part_then (x ∷ xs) ys zs (inr h) k = inr (part_then xs ys zs h k)
part_then (x ∷ xs) [] zs (inl h) k = absurd h
part_then (x ∷ xs) (y ∷ ys) zs (inl h) (inr k) = inr (part_then xs ys zs h.1 k)
part_then (x ∷ xs) (y ∷ ys) [] (inl h) (inl k) = absurd k
part_then (x ∷ xs) (y ∷ ys) (z ∷ zs) (inl h) (inl k) = inl (same_then x y z h.0 k.0, part_then xs ys zs h.1 k.1)

rest_skip : (a : Pending) (us : List Pending) (b : Pending) (left : List Pending) → IsRestOf (us ++ b ∷ []) left
    → IsRestOf (a ∷ (us ++ b ∷ [])) left
rest_skip a [] b left h = inr h
rest_skip a (c ∷ cs) b left h = inr h

rest_keep : (a z : Pending) (us : List Pending) (b : Pending) (left : List Pending) → IsSamePending a z
    → IsRestOf (us ++ b ∷ []) left → IsRestOf (a ∷ (us ++ b ∷ [])) (z ∷ left)
rest_keep a z [] b left same h = inl (same, h)
rest_keep a z (c ∷ cs) b left same h = inl (same, h)

-- with the root behind, it is the rest of a tree
part_rest : (xs ys : List Pending) (p q : Pending) → PartOf xs ys → IsSamePending p q → IsRestOf (xs ++ p ∷ []) (ys ++ q ∷ [])
part_rest [] ys p q h same = subst (λ (zs : List Pending). IsRestOf (p ∷ []) (zs ++ q ∷ [])) (sym h) (same, refl)
part_rest (x ∷ xs) ys p q (inr h) same = rest_skip x xs p (ys ++ q ∷ []) (part_rest xs ys p q h same)
part_rest (x ∷ xs) [] p q (inl h) same = absurd h
part_rest (x ∷ xs) (y ∷ ys) p q (inl h) same = rest_keep x y xs p (ys ++ q ∷ []) h.0 (part_rest xs ys p q h.1 same)

-- ---- some trees

-- What attempts of some trees left: each request finished or goes again, as it was, and those that go again are the trees left.
pub record KidsLeft (ps : List Pending) (k : Kids) : Type 0 where
  pub times : (n : ℕ) → times n (requests_of ps) ≡ times n (requests_ended k.ended) + times n (requests_of k.again)
  pub part : PartOf ps k.again
  pub flat_is : k.again ≡ flat k.left
  pub none : has_bits (bits_of k.returns) ≡ false → k.again ≡ []
  pub from : AllByRecursion (λ (e : Ended). Contains (requests_of ps) e.request) k.ended
  pub makers : AllByRecursion MakesOwn k.ended

-- of one tree nothing is left, or a tree with its root
pub data OneLeft (kids : List Pending) (p : Pending) (one : One) : Type 0 where
  AllEnded : one.again ≡ [] → one.left ≡ NoTrees → OneLeft kids p one
  SomeLeft : (q : Pending) (below : Forest) → one.again ≡ flat below ++ q ∷ [] → one.left ≡ TreeOf q below NoTrees
      → PartOf kids (flat below) → IsSamePending p q → has_bits one.return.bits ≡ true → OneLeft kids p one

pub record OneFacts (kids : List Pending) (p : Pending) (one : One) : Type 0 where
  pub times : (n : ℕ) → times n (requests_of (kids ++ p ∷ [])) ≡ times n (requests_ended one.ended) + times n (requests_of one.again)
  pub part : PartOf (kids ++ p ∷ []) one.again
  pub left : OneLeft kids p one
  pub from : AllByRecursion (λ (e : Ended). Contains (requests_of (kids ++ p ∷ [])) e.request) one.ended
  pub makers : AllByRecursion MakesOwn one.ended

none_left : KidsLeft [] no_kids
none_left = record { times = λ n. refl; part = refl; flat_is = refl; none = λ e. refl; from = tt; makers = tt }

contains_front : (xs ys : List Pending) (r : Request) → Contains (requests_of xs) r → Contains (requests_of (xs ++ ys)) r
contains_front xs ys r h =
    subst (λ (rs : List Request). Contains rs r) (sym (map-append (λ (p : Pending). p.request) xs ys)) (Contains-append_left (requests_of xs) (requests_of ys) r h)

contains_back : (xs ys : List Pending) (r : Request) → Contains (requests_of ys) r → Contains (requests_of (xs ++ ys)) r
contains_back xs ys r h =
    subst (λ (rs : List Request). Contains rs r) (sym (map-append (λ (p : Pending). p.request) xs ys)) (Contains-append_right (requests_of xs) (requests_of ys) r h)

from_more : (ps qs : List Pending) (es : List Ended) → ((r : Request) → Contains (requests_of ps) r → Contains (requests_of qs) r)
    → AllByRecursion (λ (e : Ended). Contains (requests_of ps) e.request) es → AllByRecursion (λ (e : Ended). Contains (requests_of qs) e.request) es
from_more ps qs [] more h = tt
from_more ps qs (e ∷ es) more h = (more e.request h.0, from_more ps qs es more h.1)

-- ---- an attempt of one tree

one_left : (kids : List Pending) (p : Pending) (k : Kids) (a : Attempted) → KidsLeft kids k → Judged p (bits_of k.returns) a → OneFacts kids p (one_of k a)
one_left kids p k a h (Ends e ended again request makes quiet none) =
    let no_kid : k.again ≡ [] = h.none none in
    let again_is : k.again ++ a.again ≡ [] = ap (λ (xs : List Pending). xs ++ a.again) no_kid ∙ again in
    let ended_is : k.ended ++ a.ended ≡ k.ended ++ e ∷ [] = ap (λ (es : List Ended). k.ended ++ es) ended in
    let AllFrom : List Ended → Type 0 = λ es. AllByRecursion (λ (x : Ended). Contains (requests_of (kids ++ p ∷ [])) x.request) es in
    let last : Contains (requests_of (kids ++ p ∷ [])) e.request =
    contains_back kids (p ∷ []) e.request (subst (λ (r : Request). Contains (p.request ∷ []) r) (sym request) (0, omega arith, refl)) in
    record {
      times = λ n.
          pending_times n kids (p ∷ [])
          ∙ ap (λ m. m + times n (p.request ∷ [])) (h.times n)
          ∙ ends_count n k a e request no_kid again_is ended_is;
      part = subst (λ (xs : List Pending). PartOf (kids ++ p ∷ []) xs) (sym again_is) (part_none (kids ++ p ∷ []));
      left = AllEnded again_is (ap (λ (xs : List Pending). root_left xs k.left) again);
      from = subst AllFrom (sym ended_is)
          (all_append (λ (x : Ended). Contains (requests_of (kids ++ p ∷ [])) x.request) k.ended (e ∷ [])
          (from_more kids (kids ++ p ∷ []) k.ended (contains_front kids (p ∷ [])) h.from) (last, tt));
      makers = subst (λ (es : List Ended). AllByRecursion MakesOwn es) (sym ended_is) (all_append MakesOwn k.ended (e ∷ []) h.makers (makes, tt));
    }
  where
    ends_count : (n : ℕ) (k : Kids) (a : Attempted) (e : Ended) → e.request ≡ p.request → k.again ≡ [] → k.again ++ a.again ≡ [] → k.ended ++ a.ended ≡ k.ended ++ e ∷ []
        → times n (requests_ended k.ended) + times n (requests_of k.again) + times n (p.request ∷ [])
        ≡ times n (requests_ended (k.ended ++ a.ended)) + times n (requests_of (k.again ++ a.again))
    ends_count n k a e request no_kid again_is ended_is =
        let b = ap (λ (xs : List Pending). times n (requests_of xs)) no_kid in
        let c = ap (λ (xs : List Pending). times n (requests_of xs)) again_is in
        let d = ap (λ (es : List Ended). times n (requests_ended es)) ended_is in
        let f = ended_times n k.ended (e ∷ []) in
        let g : times n (requests_ended (e ∷ [])) ≡ times n (p.request ∷ []) = ap (λ (r : Request). times n (r ∷ [])) request in
        omega arith
one_left kids p k a h (Stays q ended again same bits) =
    let again_is : k.again ++ a.again ≡ flat k.left ++ q ∷ [] =
    ap (λ (xs : List Pending). xs ++ a.again) h.flat_is ∙ ap (λ (xs : List Pending). flat k.left ++ xs) again in
    let ended_is : k.ended ++ a.ended ≡ k.ended = ap (λ (es : List Ended). k.ended ++ es) ended ∙ append-nil k.ended in
    let part : PartOf kids (flat k.left) = subst (λ (xs : List Pending). PartOf kids xs) h.flat_is h.part in
    record {
      times = λ n.
          pending_times n kids (p ∷ []) ∙ ap (λ m. m + times n (p.request ∷ [])) (h.times n) ∙ stays_count n k a q same again_is ended_is h.flat_is;
      part = subst (λ (xs : List Pending). PartOf (kids ++ p ∷ []) xs) (sym again_is)
          (part_append kids (flat k.left) (p ∷ []) (q ∷ []) part (part_one p q same));
      left = SomeLeft q k.left again_is (ap (λ (xs : List Pending). root_left xs k.left) again) part same bits;
      from = subst (λ (es : List Ended). AllByRecursion (λ (x : Ended). Contains (requests_of (kids ++ p ∷ [])) x.request) es) (sym ended_is)
          (from_more kids (kids ++ p ∷ []) k.ended (contains_front kids (p ∷ [])) h.from);
      makers = subst (λ (es : List Ended). AllByRecursion MakesOwn es) (sym ended_is) h.makers;
    }
  where
    stays_count : (n : ℕ) (k : Kids) (a : Attempted) (q : Pending) → IsSamePending p q → k.again ++ a.again ≡ flat k.left ++ q ∷ [] → k.ended ++ a.ended ≡ k.ended
        → k.again ≡ flat k.left → times n (requests_ended k.ended) + times n (requests_of k.again) + times n (p.request ∷ [])
        ≡ times n (requests_ended (k.ended ++ a.ended)) + times n (requests_of (k.again ++ a.again))
    stays_count n k a q same again_is ended_is flat_is =
        let b = ap (λ (xs : List Pending). times n (requests_of xs)) flat_is in
        let c = ap (λ (xs : List Pending). times n (requests_of xs)) again_is in
        let d = ap (λ (es : List Ended). times n (requests_ended es)) ended_is in
        let f = pending_times n (flat k.left) (q ∷ []) in
        let g : times n (requests_of (q ∷ [])) ≡ times n (p.request ∷ []) = ap (λ (r : Request). times n (r ∷ [])) same.request in
        omega arith

-- ---- one more tree

four_none : (w x y z : Bool) → w ≡ false → x ≡ false → y ≡ false → z ≡ false → (w || y) || (x || z) ≡ false
four_none true x y z a b c d = absurd (cc)
four_none false true y z a b c d = absurd (cc)
four_none false false true z a b c d = absurd (cc)
four_none false false false true a b c d = absurd (cc)
four_none false false false false a b c d = refl

joined_both : (a b : Bits) → has_bits a ≡ false → has_bits b ≡ false → has_bits (joined_bits a b) ≡ false
joined_both a b e f =
    let x = or_none a.now a.suspend e in
    let y = or_none b.now b.suspend f in
    four_none a.now a.suspend b.now b.suspend x.0 x.1 y.0 y.1

bits_apart : (rs : List Return) (r : Return) → has_bits (bits_of (rs ++ r ∷ [])) ≡ false → (has_bits (bits_of rs) ≡ false) × (has_bits r.bits ≡ false)
bits_apart [] r e = (refl, (joined_none r.bits no_bits e).0)
bits_apart (x ∷ rs) r e =
    let first = joined_none x.bits (bits_of (rs ++ r ∷ [])) e in
    let rest = bits_apart rs r first.1 in
    (joined_both x.bits (bits_of rs) first.0 rest.0, rest.1)

one_none : (kids : List Pending) (p : Pending) (one : One) → OneLeft kids p one → has_bits one.return.bits ≡ false → one.again ≡ []
one_none kids p one (AllEnded again left) e = again
one_none kids p one (SomeLeft q below again left part same bits) e = absurd (false≢true (sym e ∙ bits))

one_flat : (kids : List Pending) (p : Pending) (one : One) (others : Forest) → OneLeft kids p one → one.again ++ flat others ≡ flat (before one.left others)
one_flat kids p one others (AllEnded again left) =
    ap (λ (xs : List Pending). xs ++ flat others) again ∙ ap (λ (f : Forest). flat (before f others)) (sym left)
one_flat kids p one others (SomeLeft q below again left part same bits) =
    ap (λ (xs : List Pending). xs ++ flat others) again ∙ append_assoc (flat below) (q ∷ []) (flat others) ∙ ap (λ (f : Forest). flat (before f others)) (sym left)

kid_left : (kids rest : List Pending) (p : Pending) (one : One) (o : Kids) → OneFacts kids p one → KidsLeft rest o
    → KidsLeft ((kids ++ p ∷ []) ++ rest) (add_kid one o)
kid_left kids rest p one o h k = record {
  times = λ n.
      (let a = pending_times n (kids ++ p ∷ []) rest in let b = h.times n in let c = k.times n in
      let d = ended_times n one.ended o.ended in let e = pending_times n one.again o.again in omega arith);
  part = part_append (kids ++ p ∷ []) one.again rest o.again h.part k.part;
  flat_is = ap (λ (xs : List Pending). one.again ++ xs) k.flat_is ∙ one_flat kids p one o.left h.left;
  none = λ e. (let apart = bits_apart o.returns one.return e in
      ap (λ (xs : List Pending). xs ++ o.again) (one_none kids p one h.left apart.1) ∙ k.none apart.0);
  from = all_append (λ (x : Ended). Contains (requests_of ((kids ++ p ∷ []) ++ rest)) x.request) one.ended o.ended
      (from_more (kids ++ p ∷ []) ((kids ++ p ∷ []) ++ rest) one.ended (contains_front (kids ++ p ∷ []) rest) h.from)
      (from_more rest ((kids ++ p ∷ []) ++ rest) o.ended (contains_back (kids ++ p ∷ []) rest) k.from);
  makers = all_append MakesOwn one.ended o.ended h.makers k.makers;
}

attempted_left : (t : Terms) (p : Pending) (kids : List Pending) (KidsAre : Kids → Type 0) (one : One) → ((k : Kids) → KidsAre k → KidsLeft kids k)
    → IsAttempted t p KidsAre one → OneFacts kids p one
attempted_left t p kids KidsAre one left h =
    subst (λ (x : One). OneFacts kids p x) (sym h.is)
    (one_left kids p h.kids (judged_own t p h.kids.returns (bare h.own)) (left h.kids h.are) (judged_so t p h.kids.returns h.own h.makes))

pub trees_left : (t : Terms) (f : Forest) (k : Kids) → AreAttempted t f k → KidsLeft (flat f) k
trees_left t NoTrees k h = subst (λ (x : Kids). KidsLeft [] x) (sym h) none_left
trees_left t (TreeOf p kids others) k (one, o, attempted, rest, is) =
    subst (λ (ps : List Pending). KidsLeft ps k) (append_assoc (flat kids) (p ∷ []) (flat others))
    (subst (λ (x : Kids). KidsLeft ((flat kids ++ p ∷ []) ++ flat others) x) (sym is)
    (kid_left (flat kids) (flat others) p one o (attempted_left t p (flat kids) (AreAttempted t kids) one (trees_left t kids) attempted) (trees_left t others o rest)))

-- ---- all attempts of a tree

-- what they left: nothing, or a rest of the tree
pub record TreeLeft (kids : List Pending) (p : Pending) (ended : List Ended) (again : List Pending) : Type 0 where
  pub times : (n : ℕ) → times n (requests_of (kids ++ p ∷ [])) ≡ times n (requests_ended ended) + times n (requests_of again)
  pub rest : (again ≡ []) ⊎ IsRestOf (kids ++ p ∷ []) again
  pub part : PartOf (kids ++ p ∷ []) again
  pub from : AllByRecursion (λ (e : Ended). Contains (requests_of (kids ++ p ∷ [])) e.request) ended
  pub makers : AllByRecursion MakesOwn ended

add_left_of : (kids : List Pending) (p : Pending) (one : One) → OneFacts kids p one → TreeLeft kids p one.ended one.again
add_left_of kids p one h = record { times = h.times; rest = rest_of h.left; part = h.part; from = h.from; makers = h.makers }
  where
    rest_of : OneLeft kids p one → (one.again ≡ []) ⊎ IsRestOf (kids ++ p ∷ []) one.again
    rest_of (AllEnded again left) = inl again
    rest_of (SomeLeft q below again left part same bits) =
        inr (subst (λ (xs : List Pending). IsRestOf (kids ++ p ∷ []) xs) (sym again) (part_rest kids (flat below) p q part same))

rest_of_none : (xs ys : List Pending) → xs ≡ [] → PartOf xs ys → ys ≡ []
rest_of_none [] ys e h = h
rest_of_none (x ∷ xs) ys e h = absurd (cc)

rest_some : (tree : List Pending) → IsRestOf tree [] → ⊥
rest_some [] h = h
rest_some (p ∷ []) h = h
rest_some (p ∷ r ∷ ps) (inl h) = h
rest_some (p ∷ r ∷ ps) (inr h) = rest_some (r ∷ ps) h

rest_last : (p q : Pending) (left : List Pending) → IsSamePending p q → IsFrontOf q left (λ qs. qs ≡ []) → IsFrontOf p left (λ qs. qs ≡ [])
rest_last p q [] same h = h
rest_last p q (x ∷ xs) same h = (same_then p q x same h.0, h.1)

rest_then : (a b c : List Pending) → IsRestOf a b → IsRestOf b c → IsRestOf a c
rest_then [] b c h k = absurd h
rest_then (p ∷ []) [] c h k = absurd h
rest_then (p ∷ []) (q ∷ []) c h k = rest_last p q c h.0 k
rest_then (p ∷ []) (q ∷ x ∷ xs) c h k = let no : x ∷ xs ≡ [] = h.1 in absurd (cc)
rest_then (p ∷ r ∷ ps) b c (inr h) k = inr (rest_then (r ∷ ps) b c h k)
rest_then (p ∷ r ∷ ps) [] c (inl h) k = absurd h
rest_then (p ∷ r ∷ ps) (q ∷ []) c (inl h) k = absurd (rest_some (r ∷ ps) h.1)
rest_then (p ∷ r ∷ ps) (q ∷ s ∷ ss) [] (inl h) (inl k) = absurd k
rest_then (p ∷ r ∷ ps) (q ∷ s ∷ ss) (x ∷ xs) (inl h) (inl k) = inl (same_then p q x h.0 k.0, rest_then (r ∷ ps) (s ∷ ss) xs h.1 k.1)
rest_then (p ∷ r ∷ ps) (q ∷ s ∷ ss) c (inl h) (inr k) = inr (rest_then (r ∷ ps) (s ∷ ss) c h.1 k)

-- an attempt that left a tree, and what later ones left of that
left_then : (kids : List Pending) (p : Pending) (one : One) (below : List Pending) (q : Pending) (ended : List Ended) (again : List Pending) → OneFacts kids p one
    → one.again ≡ below ++ q ∷ [] → PartOf kids below → IsSamePending p q → TreeLeft below q ended again → TreeLeft kids p (one.ended ++ ended) again
left_then kids p one below q ended again h is part same later = record {
  times = λ n.
      (let a = h.times n in let b = ap (λ (xs : List Pending). times n (requests_of xs)) is in let c = later.times n in
      let d = ended_times n one.ended ended in omega arith);
  rest = elim later.rest [ inl none ↦ inl none | inr r ↦ inr (rest_then (kids ++ p ∷ []) (below ++ q ∷ []) again (part_rest kids below p q part same) r) ];
  part = part_then (kids ++ p ∷ []) (below ++ q ∷ []) again (part_append kids below (p ∷ []) (q ∷ []) part (part_one p q same)) later.part;
  from = all_append (λ (x : Ended). Contains (requests_of (kids ++ p ∷ [])) x.request) one.ended ended h.from
      (from_more (below ++ q ∷ []) (kids ++ p ∷ []) ended (part_requests (kids ++ p ∷ []) (below ++ q ∷ [])
      (part_append kids below (p ∷ []) (q ∷ []) part (part_one p q same))) later.from);
  makers = all_append MakesOwn one.ended ended h.makers later.makers;
}
  where
    part_requests : (xs ys : List Pending) → PartOf xs ys → (r : Request) → Contains (requests_of ys) r → Contains (requests_of xs) r
    part_requests [] ys e r c = subst (λ (zs : List Pending). Contains (requests_of zs) r) e c
    part_requests (x ∷ xs) ys (inr h) r c = Contains-append_right (x.request ∷ []) (requests_of xs) r (part_requests xs ys h r c)
    part_requests (x ∷ xs) [] (inl h) r c = absurd h
    part_requests (x ∷ xs) (y ∷ ys) (inl h) r c =
        elim (Contains-append_cases (y.request ∷ []) (requests_of ys) r c) [
          | inl first ↦ Contains-append_left (x.request ∷ []) (requests_of xs) r (subst (λ (q : Request). Contains (q ∷ []) r) h.0.request first)
          | inr later ↦ Contains-append_right (x.request ∷ []) (requests_of xs) r (part_requests xs ys h.1 r later)
        ]

on_left : (kids : List Pending) (p : Pending) (one : One) (b : Bool) (left : Forest) (Again : Pending → Forest → Settled → Type 0) (s : Settled) → OneFacts kids p one
    → left ≡ one.left → ((q : Pending) (below : Forest) (later : Settled) → Again q below later → TreeLeft (flat below) q later.ended later.again)
    → SettlesOn b one left Again s → TreeLeft kids p s.ended s.again
on_left kids p one false left Again s h e again is = subst (λ (x : Settled). TreeLeft kids p x.ended x.again) (sym is) (add_left_of kids p one h)
on_left kids p one true NoTrees Again s h e again is = subst (λ (x : Settled). TreeLeft kids p x.ended x.again) (sym is) (add_left_of kids p one h)
on_left kids p one true (TreeOf q below others) Again s h e again (later, k, is) =
    subst (λ (x : Settled). TreeLeft kids p x.ended x.again) (sym is) (went_on h.left)
  where
    went_on : OneLeft kids p one → TreeLeft kids p (one.ended ++ later.ended) later.again
    went_on (AllEnded none gone) = let no : TreeOf q below others ≡ NoTrees = e ∙ gone in absurd (cc)
    went_on (SomeLeft r under front there part same bits) =
        let both : TreeOf q below others ≡ TreeOf r under NoTrees = e ∙ there in
        let root : r ≡ q = cc in
        let trees : under ≡ below = cc in
        left_then kids p one (flat below) q later.ended later.again h
        (front ∙ ap (λ (f : Forest). flat f ++ r ∷ []) trees ∙ ap (λ (x : Pending). flat below ++ x ∷ []) root)
        (subst (λ (f : Forest). PartOf kids (flat f)) trees part) (subst (λ (x : Pending). IsSamePending p x) root same) (again q below later k)

pub settled_left : (more : ℕ) (t : Terms) (p : Pending) (kids : Forest) (s : Settled) → IsSettled more t p kids s → TreeLeft (flat kids) p s.ended s.again
settled_left zero t p kids s (one, attempted, is) =
    subst (λ (x : Settled). TreeLeft (flat kids) p x.ended x.again) (sym is)
    (add_left_of (flat kids) p one (attempted_left t p (flat kids) (AreAttempted t kids) one (trees_left t kids) attempted))
settled_left (suc more) t p kids s (one, attempted, on) =
    on_left (flat kids) p one (now_alone one.return.bits) one.left (IsSettled more t) s
    (attempted_left t p (flat kids) (AreAttempted t kids) one (trees_left t kids) attempted) refl (λ q below later. settled_left more t q below later) on

-- ---- a claim

-- it goes never again: it may always fail
claim_bits : (error : Option Errno) (canfail : Bool) (mode : Failmode) → has_bits (all_bits Claim error canfail mode no_bits) ≡ false
claim_bits None canfail mode = refl
claim_bits (Some e) canfail mode = refl

claim_kind : (work : Work) → is_claim (kind_of work) ≡ true → kind_of work ≡ Claim
claim_kind Null e = absurd (cc)
claim_kind (Read name prio) e = absurd (cc)
claim_kind (Write name sum copies prio body) e = absurd (cc)
claim_kind (Free name) e = absurd (cc)
claim_kind (ClaimOf name pointer) e = refl

closed_quiet : (b : Bool) (p : Pending) (own : Own) (bits : Bits) (kept : List Child) → b ≡ false
    → ((closed_if b p own bits kept).again ≡ []) × (has_bits (closed_if b p own bits kept).return.bits ≡ false)
closed_quiet true p own bits kept e = absurd (cc)
closed_quiet false p own bits kept e = (refl, refl)

pub claim_quiet : (t : Terms) (p : Pending) (one : One) → is_claim (kind_of p.request.work) ≡ true → IsAttempted t p (AreAttempted t NoTrees) one
    → (one.again ≡ []) × (has_bits one.return.bits ≡ false)
claim_quiet t p one claim h =
    subst (λ (x : One). (x.again ≡ []) × (has_bits x.return.bits ≡ false)) (sym h.is)
    (subst (λ (k : Kids). ((one_of k (judged_own t p k.returns (bare h.own))).again ≡ []) × (has_bits (one_of k (judged_own t p k.returns (bare h.own))).return.bits ≡ false)) (sym h.are)
    (closed_quiet (has_bits (all_bits (kind_of p.request.work) h.own.error p.request.canfail t.failmode no_bits)) p (bare h.own)
    (all_bits (kind_of p.request.work) h.own.error p.request.canfail t.failmode no_bits) (insert_children [] p.kept)
    (ap (λ (k : Kind). has_bits (all_bits k h.own.error p.request.canfail t.failmode no_bits)) (claim_kind p.request.work claim)
    ∙ claim_bits h.own.error p.request.canfail t.failmode)))

settled_quiet : (one : One) (b : Bool) (left : Forest) (Again : Pending → Forest → Settled → Type 0) (s : Settled) → b ≡ false → one.again ≡ []
    → SettlesOn b one left Again s → s.again ≡ []
settled_quiet one true left Again s e none h = absurd (cc)
settled_quiet one false left Again s e none h = ap (λ (x : Settled). x.again) h ∙ none

quiet_alone : (now held : Bool) → now || held ≡ false → now && not held ≡ false
quiet_alone true held e = absurd (cc)
quiet_alone false held e = refl

claim_settled : (t : Terms) (p : Pending) (s : Settled) → is_claim (kind_of p.request.work) ≡ true → IsSettled reexecutions_max t p NoTrees s → s.again ≡ []
claim_settled t p s claim (one, attempted, on) =
    let quiet = claim_quiet t p one claim attempted in
    settled_quiet one (now_alone one.return.bits) one.left (IsSettled 2 t) s (quiet_alone one.return.bits.now one.return.bits.suspend quiet.1) quiet.0 on

none_or : (a b : Bool) → a ≡ false → b ≡ false → a || b ≡ false
none_or true b e f = absurd (cc)
none_or false b e f = f

-- no claim is among them
no_claims : (rs : List Request) → has_claim rs ≡ false → AllByRecursion (λ (r : Request). is_claim (kind_of r.work) ≡ false) rs
no_claims [] e = tt
no_claims (r ∷ rs) e = let both = or_none (is_claim (kind_of r.work)) (has_claim rs) e in (both.0, no_claims rs both.1)

claims_none : (rs : List Request) → AllByRecursion (λ (r : Request). is_claim (kind_of r.work) ≡ false) rs → has_claim rs ≡ false
claims_none [] h = refl
claims_none (r ∷ rs) h = none_or (is_claim (kind_of r.work)) (has_claim rs) h.0 (claims_none rs h.1)

of_requests : (P : Request → Type 0) (xs ys : List Pending) → AllByRecursion P (requests_of (xs ++ ys)) → AllByRecursion P (requests_of xs) × AllByRecursion P (requests_of ys)
of_requests P [] ys h = (tt, h)
of_requests P (x ∷ xs) ys h = let rest = of_requests P xs ys h.1 in ((h.0, rest.0), rest.1)

both_requests : (P : Request → Type 0) (xs ys : List Pending) → AllByRecursion P (requests_of xs) → AllByRecursion P (requests_of ys) → AllByRecursion P (requests_of (xs ++ ys))
both_requests P [] ys h k = k
both_requests P (x ∷ xs) ys h k = (h.0, both_requests P xs ys h.1 k)

part_all : (P : Request → Type 0) (xs ys : List Pending) → PartOf xs ys → AllByRecursion P (requests_of xs) → AllByRecursion P (requests_of ys)
part_all P [] ys e h = subst (λ (zs : List Pending). AllByRecursion P (requests_of zs)) (sym e) tt
part_all P (x ∷ xs) ys (inr k) h = part_all P xs ys k h.1
part_all P (x ∷ xs) [] (inl k) h = absurd k
part_all P (x ∷ xs) (y ∷ ys) (inl k) h = (subst P (sym k.0.request) h.0, part_all P xs ys k.1 h.1)

left_all : (P : Request → Type 0) (again : List Pending) (left : List (List Pending)) → AllByRecursion P (requests_of again) → AllByRecursion P (requests_in left)
    → AllByRecursion P (requests_in (add_left again left))
left_all P [] left h k = k
left_all P (p ∷ ps) left h k = both_requests P (p ∷ ps) (joined_trees left) h k

-- ---- a round

left_times : (n : ℕ) (again : List Pending) (left : List (List Pending)) → times n (requests_in (add_left again left)) ≡ times n (requests_of again) + times n (requests_in left)
left_times n [] left = omega arith
left_times n (p ∷ ps) left = pending_times n (p ∷ ps) (joined_trees left)

rests_skip : (tree : List Pending) (trees left : List (List Pending)) → AreRestsOf trees left → AreRestsOf (tree ∷ trees) left
rests_skip tree trees [] h = tt
rests_skip tree trees (l ∷ left) h = inr h

rests_add : (tree again : List Pending) (trees left : List (List Pending)) → (again ≡ []) ⊎ IsRestOf tree again → AreRestsOf trees left
    → AreRestsOf (tree ∷ trees) (add_left again left)
rests_add tree [] trees left h k = rests_skip tree trees left k
rests_add tree (q ∷ qs) trees left (inl e) k = absurd (cc)
rests_add tree (q ∷ qs) trees left (inr h) k = inl (h, k)

-- what is said of a round but for its claims
pub record RoundLeft (trees : List (List Pending)) (r : Round) : Type 1 where
  pub each : (n : ℕ) → times n (requests_in trees) ≡ times n (requests_ended r.ended) + times n (requests_in r.left)
  pub rests : AreRestsOf trees r.left
  pub from : AllByRecursion (λ (e : Ended). Contains (requests_in trees) e.request) r.ended
  pub makers : AllByRecursion MakesOwn r.ended
  pub among : (P : Request → Type 0) → AllByRecursion P (requests_in trees) → AllByRecursion P (requests_in r.left)

round_add : (kids : List Pending) (p : Pending) (trees : List (List Pending)) (s : Settled) (r : Round) → TreeLeft kids p s.ended s.again → RoundLeft trees r
    → RoundLeft ((kids ++ p ∷ []) ∷ trees) (add_tree s r)
round_add kids p trees s r h k = record {
  each = λ n.
      (let a = pending_times n (kids ++ p ∷ []) (joined_trees trees) in let b = h.times n in let c = k.each n in
      let d = ended_times n s.ended r.ended in let e = left_times n s.again r.left in omega arith);
  rests = rests_add (kids ++ p ∷ []) s.again trees r.left h.rest k.rests;
  from = all_append (λ (x : Ended). Contains (requests_in ((kids ++ p ∷ []) ∷ trees)) x.request) s.ended r.ended
      (from_more (kids ++ p ∷ []) ((kids ++ p ∷ []) ++ joined_trees trees) s.ended (contains_front (kids ++ p ∷ []) (joined_trees trees)) h.from)
      (from_more (joined_trees trees) ((kids ++ p ∷ []) ++ joined_trees trees) r.ended (contains_back (kids ++ p ∷ []) (joined_trees trees)) k.from);
  makers = all_append MakesOwn s.ended r.ended h.makers k.makers;
  among = λ P all. (let parts = of_requests P (kids ++ p ∷ []) (joined_trees trees) all in
      left_all P s.again r.left (part_all P (kids ++ p ∷ []) s.again h.part parts.0) (k.among P parts.1));
}

rounds_left : (t : Terms) (f : Forest) (values : List Value) → AreSettled t f values → RoundLeft (trees_in f) (round_of values)
rounds_left t NoTrees values h =
    subst (λ (vs : List Value). RoundLeft [] (round_of vs)) (sym h) (record { each = λ n. refl; rests = tt; from = tt; makers = tt; among = λ P all. tt })
rounds_left t (TreeOf p kids others) [] h = absurd h
rounds_left t (TreeOf p kids others) (v ∷ vs) ((s, is, settled), rest) =
    subst (λ (x : Value). RoundLeft ((flat kids ++ p ∷ []) ∷ trees_in others) (add_tree (settled_in x) (round_of vs))) (sym is)
    (round_add (flat kids) p (trees_in others) s (round_of vs) (settled_left reexecutions_max t p kids s settled) (rounds_left t others vs rest))

length_of : (xs ys : List Pending) → length (requests_of (xs ++ ys)) ≡ length (requests_of xs) + length (requests_of ys)
length_of [] ys = omega arith
length_of (x ∷ xs) ys = let rest = length_of xs ys in omega arith

flat_some : (f : Forest) (p : Pending) (kids others : Forest) → f ≡ TreeOf p kids others → 1 ≤ length (requests_of (flat f))
flat_some f p kids others e =
    let a = ap (λ (g : Forest). length (requests_of (flat g))) e in let b = length_of (flat kids) (p ∷ flat others) in omega arith

trees_some : (p : Pending) (kids others : Forest) → 1 ≤ length (requests_in (trees_in (TreeOf p kids others)))
trees_some p kids others =
    let a = length_of (flat kids ++ p ∷ []) (joined_trees (trees_in others)) in let b = length_of (flat kids) (p ∷ []) in omega arith

only_claim : (b : Bool) → b || false ≡ true → b ≡ true
only_claim true e = refl
only_claim false e = absurd (cc)

-- a claim that is alone leaves nothing
claim_alone : (t : Terms) (f : Forest) (values : List Value) → AreSettled t f values → has_claim (requests_in (trees_in f)) ≡ true → length (requests_in (trees_in f)) ≡ 1
    → (round_of values).left ≡ []
claim_alone t NoTrees values h claim one = absurd (cc)
claim_alone t (TreeOf p kids others) [] h claim one = absurd h
claim_alone t (TreeOf p kids (TreeOf q below more)) (v ∷ vs) h claim one =
    let a = length_of (flat kids ++ p ∷ []) (joined_trees (trees_in (TreeOf q below more))) in
    let b = length_of (flat kids) (p ∷ []) in let c = trees_some q below more in absurd (omega arith)
claim_alone t (TreeOf p (TreeOf q below more) NoTrees) (v ∷ vs) h claim one =
    let a = length_of (flat (TreeOf q below more) ++ p ∷ []) [] in let b = length_of (flat (TreeOf q below more)) (p ∷ []) in
    let c = flat_some (TreeOf q below more) q below more refl in absurd (omega arith)
claim_alone t (TreeOf p NoTrees NoTrees) (v ∷ vs) ((s, is, settled), rest) claim one =
    let none : s.again ≡ [] = claim_settled t p s (only_claim (is_claim (kind_of p.request.work)) claim) settled in
    ap (λ (x : Value). add_left (settled_in x).again (round_of vs).left) is ∙ ap (λ (xs : List Pending). add_left xs (round_of vs).left) none
    ∙ ap (λ (xs : List Value). (round_of xs).left) rest

pub round_left : (t : Terms) (f : Forest) (values : List Value) → AreSettled t f values → LeavesTrees (trees_in f) (round_of values)
round_left t f values h =
    let r = rounds_left t f values h in
    record { each = r.each; rests = r.rests; from = r.from; makers = r.makers; claims = λ alone. claims_left (has_claim (requests_in (trees_in f))) refl alone r }
  where
    claims_left : (b : Bool) → has_claim (requests_in (trees_in f)) ≡ b → (has_claim (requests_in (trees_in f)) ≡ true → length (requests_in (trees_in f)) ≡ 1)
        → RoundLeft (trees_in f) (round_of values) → has_claim (requests_in (round_of values).left) ≡ false
    claims_left true e alone r = ap (λ (left : List (List Pending)). has_claim (requests_in left)) (claim_alone t f values h e (alone e))
    claims_left false e alone r =
        claims_none (requests_in (round_of values).left)
        (r.among (λ (x : Request). is_claim (kind_of x.work) ≡ false) (no_claims (requests_in (trees_in f)) e))
