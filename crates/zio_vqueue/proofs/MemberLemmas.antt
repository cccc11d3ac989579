-- The entries that were gathered around a first operation are its group.
use Rattle.std.proofs.Common.{◌≡◌, ℕ, ◌+◌, ◌<◌, ◌≤◌, List, [], ◌∷◌, ◌++◌, Bool, true, false, cond, ◌&&◌, ◌||◌, not, ◌==◌, nat_le, Some, None, refl, sym, ap, ◌∙◌, arith, filter, subst, append_assoc, get_or, length, zero, suc, ◌-◌, All, take}
use Rattle.std.proofs.lemmas.List.{take_more}
use Rattle.std.proofs.lemmas.List.Elements.{All-head, All-tail}
use Rattle.zio_vqueue.specs.declared.op.Group.{Group}
use Rattle.std.specs.List.Sorted.{IsStrictlySortedBy}
use Rattle.std.specs.Map.{keys_of, values_of}
use Rattle.std.specs.Ordering.{is_eq, is_lt, ordering_reverse}
use Rattle.std.specs.declared.cmp.Ordering.{Ordering}
use Rattle.std.specs.declared.cmp.Ordering.TheVariants.{Less, Equal, Greater}
use Rattle.zio_vqueue.specs.declared.op.Op.{Op}
use Rattle.zio_vqueue.specs.declared.spots.Spot.{Spot}
use Rattle.zio_vqueue.specs.Queues.{AreApart, FitsDevice, arranged, end_of, is_queued, put_before}
use Rattle.zio_vqueue.specs.Groups.{AreTakenWith, IsChain, IsLongestRun, IsRun, IsSpanOf, gap_max, last_of, may_join}
use Rattle.zio_vqueue.specs.Spots.{AreGathered, AreJoined, AreThere, IsIndexed, above_spot, at_spot, at_time, below_spot, is_sought_at, join_shelf, join_spot, kept_at, spot_cmp}
use Rattle.zio_vqueue.proofs.GatherLemmas.{values-append}
use Rattle.zio_vqueue.proofs.IndexLemmas.{apart-filter, neither, equal_flip}
use Rattle.zio_vqueue.proofs.ServeLemmas.{any-arranged_by, any-put, there-filter, there_all}
use Rattle.zio_vqueue.proofs.EntryLemmas.{some_none, some_some}
use Rattle.zio_vqueue.proofs.ShelfLemmas.{AllAfter, after_yet, equal_itself, none_after, shelf_of, values-join_shelf}
use Rattle.zio_vqueue.proofs.SpotLemmas.{spot_exact, spot_total}

-- ---- a shelf below, at and above one of its spots

none_below : (k : Spot) (fs : List (Spot × Op)) → AllAfter k (keys_of fs) → below_spot k fs ≡ []
none_below k [] h = refl
none_below k (f ∷ fs) h =
    let over : spot_cmp f.0 k ≡ Greater = spot_total.antisymm f.0 k ∙ ap ordering_reverse h.0 in
    ap (λ o. cond (f.0.shelf == k.shelf && is_lt o) (f ∷ below_spot k fs) (below_spot k fs)) over ∙ go (f.0.shelf == k.shelf) ∙ none_below k fs h.1
  where
    go : (b : Bool) → cond (b && false) (f ∷ below_spot k fs) (below_spot k fs) ≡ below_spot k fs
    go true = refl
    go false = refl

all_above : (k : Spot) (fs : List (Spot × Op)) → AllAfter k (keys_of fs) → above_spot k fs ≡ shelf_of k.shelf fs
all_above k [] h = refl
all_above k (f ∷ fs) h =
    ap (λ o. cond (f.0.shelf == k.shelf && is_lt o) (f ∷ above_spot k fs) (above_spot k fs)) h.0 ∙ go (f.0.shelf == k.shelf) (all_above k fs h.1)
  where
    go : (b : Bool) → above_spot k fs ≡ shelf_of k.shelf fs → cond (b && true) (f ∷ above_spot k fs) (above_spot k fs) ≡ cond b (f ∷ shelf_of k.shelf fs) (shelf_of k.shelf fs)
    go true e = ap (λ r. f ∷ r) e
    go false e = e

shelf_split : (k : Spot) (o : Op) (fs : List (Spot × Op)) → IsStrictlySortedBy spot_cmp (keys_of fs) → at_spot fs k ≡ Some o →
    shelf_of k.shelf fs ≡ below_spot k fs ++ (k, o) ∷ above_spot k fs
unfolding IsStrictlySortedBy
shelf_split k o [] sorted h = absurd (some_none o (sym h))
shelf_split k o (f ∷ fs) sorted h = go (spot_cmp k f.0) refl (shelf_split k o fs sorted.1)
  where
    go : (r : Ordering) → spot_cmp k f.0 ≡ r → (at_spot fs k ≡ Some o → shelf_of k.shelf fs ≡ below_spot k fs ++ (k, o) ∷ above_spot k fs) →
        cond (f.0.shelf == k.shelf) (f ∷ shelf_of k.shelf fs) (shelf_of k.shelf fs)
        ≡ cond (f.0.shelf == k.shelf && is_lt (spot_cmp f.0 k)) (f ∷ below_spot k fs) (below_spot k fs)
        ++ (k, o) ∷ cond (f.0.shelf == k.shelf && is_lt (spot_cmp k f.0)) (f ∷ above_spot k fs) (above_spot k fs)
    go Less e later =
        absurd (some_none o (sym h ∙ none_after k (f ∷ fs) (e, after_yet k f.0 (keys_of fs) e sorted.0)))
    go Equal e later = rw (back, e, shelf, none, some) (ap (λ x. x ∷ shelf_of k.shelf fs) whole)
      where
        spot : k ≡ f.0
        spot = spot_exact k f.0 e

        back : spot_cmp f.0 k ≡ Equal
        back = spot_total.antisymm f.0 k ∙ ap ordering_reverse e

        op : f.1 ≡ o
        op = some_some f.1 o (ap (λ b. cond (is_eq b) (Some f.1) (at_spot fs k)) (sym e) ∙ h)

        whole : f ≡ (k, o)
        whole = λ i. (sym spot i, op i)

        shelf : (f.0.shelf == k.shelf) ≡ true
        shelf = ap (λ (z : Spot). z.shelf == k.shelf) (sym spot) ∙ equal_itself k.shelf

        after : AllAfter k (keys_of fs)
        after = subst (λ z. AllAfter z (keys_of fs)) (sym spot) sorted.0

        none : below_spot k fs ≡ []
        none = none_below k fs after

        some : above_spot k fs ≡ shelf_of k.shelf fs
        some = all_above k fs after
    go Greater e later = rw (back, e) (on (f.0.shelf == k.shelf) (later (ap (λ b. cond (is_eq b) (Some f.1) (at_spot fs k)) (sym e) ∙ h)))
      where
        back : spot_cmp f.0 k ≡ Less
        back = spot_total.antisymm f.0 k ∙ ap ordering_reverse e

        on : (b : Bool) → shelf_of k.shelf fs ≡ below_spot k fs ++ (k, o) ∷ above_spot k fs →
            cond b (f ∷ shelf_of k.shelf fs) (shelf_of k.shelf fs) ≡ cond (b && true) (f ∷ below_spot k fs) (below_spot k fs) ++ (k, o) ∷ cond (b && false) (f ∷ above_spot k fs) (above_spot k fs)
        on true t = ap (λ r. f ∷ r) t
        on false t = t

-- an operation that may be joined stands on the shelf for that
joins_at : (time : ℕ) (o : Op) → o.flags.dont_aggregate ≡ false → is_sought_at time o (join_spot time o) ≡ true
joins_at time o e =
    either _ _ _ (ap not e) (rw (equal_itself (join_shelf o.write o.flags.repair), equal_itself o.at, equal_itself time) refl)
  where
    either : (a b c : Bool) → b ≡ true → c ≡ true → (a || (b && c)) ≡ true
    either true b c e f = refl
    either false true true e f = refl
    either false false c e f = e
    either false true false e f = f

stands_at : (es : List (ℕ × Op)) (fs : List (Spot × Op)) (time : ℕ) (o : Op) → IsIndexed es fs → at_time es time ≡ Some o → o.flags.dont_aggregate ≡ false →
    at_spot fs (join_spot time o) ≡ Some o
stands_at es fs time o h there e = h.shelved (join_spot time o) ∙ ap (kept_at (join_spot time o)) there ∙ ap (λ b. cond b (Some o) None) (joins_at time o e)

-- ---- the longest run

push_values : (fs : List (Spot × Op)) (os : List Op) (o : Op) → values_of fs ≡ os ++ o ∷ [] → (rest : List (Spot × Op)) × (f : Spot × Op) × (fs ≡ rest ++ f ∷ []) × (f.1 ≡ o)
push_values [] [] o e = absurd (cc)
push_values [] (p ∷ ps) o e = absurd (cc)
push_values (f ∷ []) [] o e = ([], f, refl, cc)
push_values (f ∷ g ∷ gs) [] o e = absurd (cc)
push_values (f ∷ fs) (p ∷ ps) o e =
    let r = push_values fs ps o (cc) in
    (f ∷ r.0, r.1, ap (λ x. f ∷ x) r.2, r.3)

cons_values : (fs : List (Spot × Op)) (o : Op) (os : List Op) → values_of fs ≡ o ∷ os → (f : Spot × Op) × (rest : List (Spot × Op)) × (fs ≡ f ∷ rest) × (f.1 ≡ o)
cons_values [] o os e = absurd (cc)
cons_values (f ∷ fs) o os e = (f, fs, refl, cc)

joined_values : (members lower more : List (Spot × Op)) (k : Spot) (first : Op) → members ≡ (lower ++ (k, first) ∷ []) ++ more → values_of members ≡ values_of lower ++ first ∷ values_of more
joined_values members lower more k first e =
    ap values_of e ∙ values-append (lower ++ (k, first) ∷ []) more ∙ ap (λ r. r ++ values_of more) (values-append lower ((k, first) ∷ []))
    ∙ append_assoc (values_of lower) (first ∷ []) (values_of more)

around_values : (below lower more above : List (Spot × Op)) (k : Spot) (first : Op) →
    values_of ((below ++ lower) ++ (k, first) ∷ (more ++ above)) ≡ (values_of below ++ values_of lower) ++ first ∷ (values_of more ++ values_of above)
around_values below lower more above k first =
    values-append (below ++ lower) ((k, first) ∷ (more ++ above)) ∙ ap (λ r. r ++ first ∷ values_of (more ++ above)) (values-append below lower)
    ∙ ap (λ r. (values_of below ++ values_of lower) ++ first ∷ r) (values-append more above)

shelf_parts : (es : List (ℕ × Op)) (fs members : List (Spot × Op)) (time : ℕ) (first : Op) → IsIndexed es fs → at_time es time ≡ Some first → first.flags.dont_aggregate ≡ false →
    (j : AreJoined time first fs members) → shelf_of (join_shelf first.write first.flags.repair) fs ≡ (j.downward.left ++ j.lower) ++ (join_spot time first, first) ∷ (j.upward.more ++ j.upward.left)
shelf_parts es fs members time first h there e j =
    shelf_split (join_spot time first) first fs h.sorted (stands_at es fs time first h there e)
    ∙ ap (λ b. b ++ (join_spot time first, first) ∷ above_spot (join_spot time first) fs) j.downward.parts
    ∙ ap (λ a. (j.downward.left ++ j.lower) ++ (join_spot time first, first) ∷ a) j.upward.parts

longest : (es : List (ℕ × Op)) (fs members : List (Spot × Op)) (time : ℕ) (first : Op) → IsIndexed es fs → at_time es time ≡ Some first → first.flags.dont_aggregate ≡ false →
    AreJoined time first fs members → IsLongestRun (values_of es) first (values_of members)
longest es fs members time first h there e j = record {
  below = values_of j.downward.left;
  lower = values_of j.lower;
  upper = values_of j.upward.more;
  above = values_of j.upward.left;
  around = sym (values-join_shelf first es fs h.timed h.sorted h.shelved) ∙ ap values_of (shelf_parts es fs members time first h there e j)
      ∙ around_values j.downward.left j.lower j.upward.more j.upward.left (join_spot time first) first;
  members_are = joined_values members j.lower j.upward.more (join_spot time first) first j.upward.found_is;
  run = j.upward.run;
  no_lower = λ rest o is longer.
      let r = push_values j.downward.left rest o is in
      j.downward.stop r.0 r.1 r.2 (subst (λ x. IsRun (gap_max first.write) (x ∷ values_of j.lower ++ first ∷ [])) (sym r.3) longer);
  no_higher = λ o rest is longer.
      let r = cons_values j.upward.left o rest is in
      j.upward.stop r.0 r.1 r.2 (subst (λ x. IsRun (gap_max first.write) (values_of members ++ x ∷ [])) (sym r.3) longer);
}

pub taken_with : (es : List (ℕ × Op)) (fs members : List (Spot × Op)) (time : ℕ) (first : Op) → IsIndexed es fs → at_time es time ≡ Some first →
    AreGathered time first fs members → AreTakenWith (values_of es) first (values_of members)
taken_with es fs members time first h there g = record {
  alone = λ e. ap values_of (g.alone e);
  joined = λ e. longest es fs members time first h there e (g.joined e);
}

-- ---- members are there, each with a ticket of its own

there_parts : (es : List (ℕ × Op)) (xs ys : List (Spot × Op)) → AreThere es (xs ++ ys) → AreThere es xs × AreThere es ys
there_parts es [] ys h = (tt, h)
there_parts es (x ∷ xs) ys h = let r = there_parts es xs ys h.1 in ((h.0, r.0), r.1)

there_join : (es : List (ℕ × Op)) (xs ys : List (Spot × Op)) → AreThere es xs → AreThere es ys → AreThere es (xs ++ ys)
there_join es [] ys h k = k
there_join es (x ∷ xs) ys h k = (h.0, there_join es xs ys h.1 k)

middle : (us bs : List (Spot × Op)) (k : Spot × Op) (cs ds : List (Spot × Op)) → (us ++ bs) ++ k ∷ (cs ++ ds) ≡ us ++ (((bs ++ k ∷ []) ++ cs) ++ ds)
middle us bs k cs ds =
    append_assoc us bs (k ∷ (cs ++ ds))
    ∙ ap (λ r. us ++ r) (sym (append_assoc bs (k ∷ []) (cs ++ ds)) ∙ sym (append_assoc (bs ++ k ∷ []) cs ds))

shelf_middle : (es : List (ℕ × Op)) (fs members : List (Spot × Op)) (time : ℕ) (first : Op) → IsIndexed es fs → at_time es time ≡ Some first → first.flags.dont_aggregate ≡ false →
    (j : AreJoined time first fs members) → shelf_of (join_shelf first.write first.flags.repair) fs ≡ j.downward.left ++ (members ++ j.upward.left)
shelf_middle es fs members time first h there e j =
    shelf_parts es fs members time first h there e j
    ∙ middle j.downward.left j.lower (join_spot time first, first) j.upward.more j.upward.left
    ∙ ap (λ r. j.downward.left ++ (r ++ j.upward.left)) (sym j.upward.found_is)

pub by_flag : (b : Bool) {P : Type 0} → (b ≡ true → P) → (b ≡ false → P) → P
by_flag true set clear = set refl
by_flag false set clear = clear refl

pub members_there : (es : List (ℕ × Op)) (fs members : List (Spot × Op)) (time : ℕ) (first : Op) → IsIndexed es fs → at_time es time ≡ Some first → AreGathered time first fs members → AreThere es members
members_there es fs members time first h there g = by_flag first.flags.dont_aggregate
    (λ e. subst (AreThere es) (sym (g.alone e)) (there, tt))
    (λ e. let all = subst (AreThere es) (shelf_middle es fs members time first h there e (g.joined e)) (there-filter es _ fs (there_all es fs h)) in
    (there_parts es members _ (there_parts es _ _ all).1).0)

apart-put_before : (r : Op → ℕ) (o : Op) (os : List Op) → AreApart os → is_queued o.ticket os ≡ false → AreApart (put_before r o os)
apart-put_before r o [] h e = (refl, tt)
apart-put_before r o (p ∷ ps) h e = go (nat_le (r o) (r p)) (apart-put_before r o ps h.1 (neither (p.ticket == o.ticket) (is_queued o.ticket ps) e).1)
  where
    go : (b : Bool) → AreApart (put_before r o ps) → AreApart (cond b (o ∷ p ∷ ps) (p ∷ put_before r o ps))
    go true k = (e, h)
    go false k = (any-put (λ x. x.ticket == p.ticket) r o ps ∙ rw (equal_flip o.ticket p.ticket, (neither (p.ticket == o.ticket) (is_queued o.ticket ps) e).0, h.0) refl, k)

pub apart-arranged : (r : Op → ℕ) (os : List Op) → AreApart os → AreApart (arranged r os)
apart-arranged r [] h = tt
apart-arranged r (o ∷ os) h = apart-put_before r o (arranged r os) (apart-arranged r os h.1) (any-arranged_by (λ x. x.ticket == o.ticket) r os ∙ h.0)

queued_parts : (t : ℕ) (xs ys : List Op) → is_queued t (xs ++ ys) ≡ false → is_queued t xs ≡ false
queued_parts t [] ys h = refl
queued_parts t (x ∷ xs) ys h =
    let n = neither (x.ticket == t) (is_queued t (xs ++ ys)) h in
    rw (n.0, queued_parts t xs ys n.1) refl

pub apart_parts : (xs ys : List Op) → AreApart (xs ++ ys) → AreApart xs × AreApart ys
apart_parts [] ys h = (tt, h)
apart_parts (x ∷ xs) ys h = let r = apart_parts xs ys h.1 in ((queued_parts x.ticket xs ys h.0, r.0), r.1)

pub members_apart : (es : List (ℕ × Op)) (fs members : List (Spot × Op)) (time : ℕ) (first : Op) → IsIndexed es fs → at_time es time ≡ Some first → AreGathered time first fs members →
    AreApart (values_of members)
members_apart es fs members time first h there g = by_flag first.flags.dont_aggregate
    (λ e. subst (λ (ms : List (Spot × Op)). AreApart (values_of ms)) (sym (g.alone e)) (refl, tt))
    (λ e.
    let j = g.joined e in
    let whole = subst AreApart (sym (values-join_shelf first es fs h.timed h.sorted h.shelved)
    ∙ ap values_of (shelf_middle es fs members time first h there e j) ∙ values-append j.downward.left (members ++ j.upward.left)
    ∙ ap (λ r. values_of j.downward.left ++ r) (values-append members j.upward.left))
    (apart-arranged (λ o. o.at) (filter (may_join first) (values_of es)) (apart-filter (may_join first) (values_of es) h.apart)) in
    (apart_parts (values_of members) _ (apart_parts (values_of j.downward.left) _ whole).1).0)

-- ---- members rise

pub members_run : (fs members : List (Spot × Op)) (time : ℕ) (first : Op) → AreGathered time first fs members → IsRun (gap_max first.write) (values_of members)
members_run fs members time first g = by_flag first.flags.dont_aggregate
    (λ e. subst (λ (ms : List (Spot × Op)). IsRun (gap_max first.write) (values_of ms)) (sym (g.alone e)) (tt, tt))
    (λ e. (g.joined e).upward.run)

chain_rises : (gap : ℕ) (o : Op) (os : List Op) → IsChain gap o os → o.at ≤ end_of (last_of o os)
chain_rises gap o [] h = omega arith
chain_rises gap o (p ∷ ps) h = omega (arith, h.0.0, chain_rises gap p ps h.1)

last_at : (m : Spot × Op) (ms : List (Spot × Op)) (d : Spot × Op) (k : ℕ) → k ≡ length ms → last_of m.1 (values_of ms) ≡ (get_or (m ∷ ms) k d).1
last_at m [] d k e = ap (λ n. (get_or (m ∷ []) n d).1) (sym e)
last_at m (n ∷ ns) d zero e = absurd (omega (arith, e))
last_at m (n ∷ ns) d (suc k) e = last_at n ns d k (omega (arith, e))

pub span_rises : (ms : List (Spot × Op)) (d : Spot × Op) → 0 < length ms → (gap : ℕ) → IsRun gap (values_of ms) → ((get_or ms 0 d).1).at ≤ end_of (get_or ms (length ms - 1) d).1
span_rises [] d l gap h = absurd (omega arith)
span_rises (m ∷ ms) d l gap h = subst (λ (o : Op). (m.1).at ≤ end_of o) (last_at m ms d (suc (length ms) - 1) (omega arith)) (chain_rises gap m.1 (values_of ms) h.0)

pub span_of : (ms : List (Spot × Op)) (d : Spot × Op) (group : Group) → 0 < length ms → group.at ≡ ((get_or ms 0 d).1).at → group.at + group.len ≡ end_of (get_or ms (length ms - 1) d).1 →
    IsSpanOf group (values_of ms)
span_of [] d group l a e = absurd (omega arith)
span_of (m ∷ ms) d group l a e = (a, e ∙ ap end_of (sym (last_at m ms d (suc (length ms) - 1) (omega arith))))

pub fit_at : (ms : List (Spot × Op)) (k : ℕ) (d : Spot × Op) → k < length ms → All FitsDevice (values_of ms) → FitsDevice (get_or ms k d).1
fit_at [] k d l h = absurd (omega arith)
fit_at (m ∷ ms) zero d l h = All-head FitsDevice m.1 (values_of ms) h
fit_at (m ∷ ms) (suc k) d l h = fit_at ms k d (omega arith) (All-tail FitsDevice m.1 (values_of ms) h)

pub values_more : (ms : List (Spot × Op)) (k : ℕ) (d : Spot × Op) → k < length ms → values_of (take (k + 1) ms) ≡ values_of (take k ms) ++ (get_or ms k d).1 ∷ []
values_more ms k d l = ap values_of (take_more ms k d l) ∙ values-append (take k ms) (get_or ms k d ∷ [])

pub values_all : (ms : List (Spot × Op)) (k : ℕ) → length ms ≤ k → values_of (take k ms) ≡ values_of ms
values_all [] zero l = refl
values_all [] (suc k) l = refl
values_all (m ∷ ms) zero l = absurd (omega arith)
values_all (m ∷ ms) (suc k) l = ap (λ r. m.1 ∷ r) (values_all ms k (omega arith))
