-- A request in an attempt ends: by its children and its own work it finishes, or goes again.
use Rattle.std.proofs.Common.{◌≡◌, List, [], ◌∷◌, ◌++◌, map, Bool, true, false, ◌||◌, Option, Some, None, refl, sym, ap, ◌∙◌, subst, append-nil}
use Rattle.std.specs.List.{list_all}
use Rattle.zio_types.specs.declared.error.Errno.{Errno}
use Rattle.zio_types.specs.declared.request.Bits.{Bits}
use Rattle.zio_types.specs.declared.request.Kind.{Kind}
use Rattle.zio_types.specs.Errors.{worst_error, worst_of}
use Rattle.zio_types.specs.Bits.{has_bits, joined_bits, no_bits}
use Rattle.zio_blkptr.specs.declared.pointer.Bp.{Bp}
use Rattle.zio_script.specs.declared.script.Failmode.{Failmode}
use Rattle.zio_script.specs.Decisions.{all_bits, kind_bits, may_fail, suspend_unless}
use Rattle.zio_script.specs.Requests.{kind_of}
use Rattle.zio_gang.specs.Attempts.{Attempted, Child, Pending, Return, Terms, bits_of, children_of, closed, closed_if, ended_with, goes_again, insert_children, judged_own}
use Rattle.zio_trace.specs.Plans.{Kids, TaskPlan, bare, one_of, plan, plan_own, plan_root}
use Rattle.zio_trace.specs.Programs.{Ends, Asks, ◌>>=◌}
use Rattle.zio_trace.specs.Tasks.{AttemptedBy, OwnGot, Value, attempted}
use Rattle.zio_children.specs.RequestKids.{bare_child, child_of, finished_in, is_ended, kids_by, pointers_of, returns_in, seen_return}
use Rattle.zio_children.specs.declared.kept.KeptChild.{KeptChild}
use Rattle.zio_children.proofs.KidPlans.{all_heard, kids_ended}
use Rattle.zio_children.proofs.KidReturns.{judged_seen, returns_heard, same_pointers, seen_children}
use Rattle.zio_frames.specs.Frames.{Stack}
use Rattle.zio_frames.specs.Moves.{IsEnded}
use Rattle.zio_frames.specs.Slots.{Heard, IsOut, Slot, left_behind_slots, told_in}
use Rattle.zio_exchange.specs.Wholes.{IsLeft, root_number}
use Rattle.zio_exchange.specs.Waits.{pending_of}
use Rattle.zio_exchange.specs.declared.waiting.UnfinishedRequest.{UnfinishedRequest}
use Rattle.zio_stages.specs.ClosedRequests.{Again, Finished}
use Rattle.zio_stages.specs.KidTrees.{AreLeft, IsLeftIn}
use Rattle.zio_stages.specs.RequestNodes.{Closes, GoesAgain, IsFinished, IsRequestNode, OwnEnds, own_got}
use Rattle.zio_stages.specs.declared.request_node.OwnFound.{OwnFound}
use Rattle.zio_stages.specs.declared.request_node.RequestNode.{RequestNode}

-- ---- the end of its plan

heard_both : (xs ys : List Slot) → told_in xs ≡ [] → told_in ys ≡ [] → told_in (xs ++ ys) ≡ []
heard_both [] ys a b = b
heard_both (Heard v ∷ xs) ys a b = heard_both xs ys a b
heard_both (IsOut told ∷ xs) ys a b = absurd (cc)

pub left_ends : {A B : Type 0} (g : A → B) (slots : List Slot) (q : TaskPlan A) (a : A) → told_in slots ≡ [] → left_behind_slots slots q ≡ Ends a
    → left_behind_slots slots (q >>= λ x. Ends (g x)) ≡ Ends (g a)
left_ends g [] q a h e = ap (λ p. p >>= λ x. Ends (g x)) e
left_ends g (s ∷ slots) (Ends b) a h e = ap (λ p. p >>= λ x. Ends (g x)) e
left_ends g (Heard v ∷ slots) (Asks op more) a h e = left_ends g slots (more v) a h e
left_ends g (IsOut told ∷ slots) (Asks op more) a h e = absurd (cc)

-- what becomes of it, by what it keeps of its children
abbrev pub judged_by : Terms → RequestNode → OwnGot → Attempted
judged_by t r own =
    closed (pending_of r.waiting) (bare own) (all_bits (kind_of r.waiting.request.work) own.error r.waiting.request.canfail r.failmode (bits_of (returns_in r.kids.kids)))
    (finished_in r.kids.kids)

kept_is : (t : Terms) (r : RequestNode) (st : Stack) → IsRequestNode t r st → (pending_of r.waiting).kept ≡ map child_of r.kids.kids.kept
kept_is t r st h = ap (λ (ks : List KeptChild). map child_of ks) (sym h.kept)

pointers_are : (t : Terms) (r : RequestNode) (st : Stack) (h : IsRequestNode t r st) → list_all is_ended r.kids.kids.kids ≡ true
    → map (λ (c : Child). c.pointer) (insert_children (children_of (kids_by h.kid_slots).returns) (pending_of r.waiting).kept) ≡ pointers_of r.kids.kids
pointers_are t r st h e =
    ap (λ (ks : List Child). map (λ (c : Child). c.pointer) (insert_children (children_of (kids_by h.kid_slots).returns) ks)) (kept_is t r st h)
    ∙ same_pointers (children_of (kids_by h.kid_slots).returns) (children_of (returns_in r.kids.kids)) (map child_of r.kids.kids.kept)
    (ap (map bare_child) (seen_children (kids_by h.kid_slots).returns ∙ ap children_of (returns_heard r.kids.kids.kids h.kid_slots h.kids.fits e)))

judged_is : (t : Terms) (r : RequestNode) (st : Stack) (h : IsRequestNode t r st) (own : OwnGot) → list_all is_ended r.kids.kids.kids ≡ true
    → judged_own t (pending_of r.waiting) (kids_by h.kid_slots).returns (bare own) ≡ judged_by t r own
judged_is t r st h own e =
    judged_seen t (pending_of r.waiting) (bare own) (kids_by h.kid_slots).returns (returns_in r.kids.kids) (map child_of r.kids.kids.kept)
    (returns_heard r.kids.kids.kids h.kid_slots h.kids.fits e) (kept_is t r st h)
    ∙ ap (λ (m : Failmode). closed (pending_of r.waiting) (bare own) (all_bits (kind_of r.waiting.request.work) own.error r.waiting.request.canfail m (bits_of (returns_in r.kids.kids))) (finished_in r.kids.kids)) h.failmode

pub ends_by : (t : Terms) (r : RequestNode) (st : Stack) (h : IsRequestNode t r st) (own : OwnGot) → list_all is_ended r.kids.kids.kids ≡ true
    → OwnEnds t r st own h → IsEnded t st (AttemptedBy (one_of (kids_by h.kid_slots) (judged_by t r own)))
ends_by t r st h own e o =
    let p : Pending = pending_of r.waiting in
    let k : Kids = kids_by h.kid_slots in
    record {
      alone = o.alone;
      heard = ap told_in h.slots ∙ heard_both h.kid_slots h.own_slots (all_heard r.kids.kids.kids h.kid_slots h.kids.fits e) o.heard;
      value =
          (λ i. left_behind_slots (h.slots i) (plan t (h.op i)))
          ∙ kids_ended r.kids.kids.kids r.attempt h.forest h.kid_slots h.own_slots (plan_root t r.attempt p) h.kids.fits h.kids.roots e
          ∙ left_ends (λ (got : OwnGot). AttemptedBy (one_of k (judged_own t p k.returns (bare got)))) h.own_slots
          (plan_own t r.attempt p p.request.work (map (λ (c : Child). c.pointer) (insert_children (children_of k.returns) p.kept))) own o.heard
          (ap (λ (ps : List (Option Bp)). left_behind_slots h.own_slots (plan_own t r.attempt p p.request.work ps)) (pointers_are t r st h e) ∙ o.value)
          ∙ ap (λ (one : Attempted). Ends (AttemptedBy (one_of k one))) (judged_is t r st h own e);
    }

-- ---- no child goes again where the request doesn't

no_or : (a b : Bool) → a || b ≡ false → (a ≡ false) × (b ≡ false)
no_or true b e = absurd (cc)
no_or false b e = (refl, e)

or_no : (a b : Bool) → a ≡ false → b ≡ false → a || b ≡ false
or_no a b x y = λ i. x i || y i

none_joined : (a b : Bits) → has_bits (joined_bits a b) ≡ false → (has_bits a ≡ false) × (has_bits b ≡ false)
none_joined a b e =
    let both = no_or (a.now || b.now) (a.suspend || b.suspend) e in
    let now = no_or a.now b.now both.0 in
    let suspend = no_or a.suspend b.suspend both.1 in
    (or_no a.now a.suspend now.0 suspend.0, or_no b.now b.suspend now.1 suspend.1)

suspends : (b : Bool) → b || true ≡ false → ⊥
suspends true e = cc
suspends false e = cc

none_decided : (may : Bool) (bits : Bits) → has_bits (suspend_unless may bits) ≡ false → has_bits bits ≡ false
none_decided true bits e = e
none_decided false bits e = absurd (suspends bits.now e)

none_of_children : (kind : Kind) (error : Option Errno) (canfail : Bool) (mode : Failmode) (children : Bits)
    → has_bits (all_bits kind error canfail mode children) ≡ false → has_bits children ≡ false
none_of_children kind None canfail mode children e = e
none_of_children kind (Some x) canfail mode children e =
    let b : Bits = joined_bits (kind_bits kind x canfail mode) children in
    (none_joined (kind_bits kind x canfail mode) children (none_decided (may_fail kind canfail || has_bits b) b e)).1

none_last : (rs : List Return) (r : Return) → has_bits (bits_of (rs ++ r ∷ [])) ≡ false → (has_bits (bits_of rs) ≡ false) × (has_bits r.bits ≡ false)
none_last [] r e = (refl, (none_joined r.bits no_bits e).0)
none_last (x ∷ rs) r e =
    let both = none_joined x.bits (bits_of (rs ++ r ∷ [])) e in
    let rest = none_last rs r both.1 in
    let a : (x.bits.now ≡ false) × (x.bits.suspend ≡ false) = no_or x.bits.now x.bits.suspend both.0 in
    let b : ((bits_of rs).now ≡ false) × ((bits_of rs).suspend ≡ false) = no_or (bits_of rs).now (bits_of rs).suspend rest.0 in (
      or_no (x.bits.now || (bits_of rs).now) (x.bits.suspend || (bits_of rs).suspend)
          (or_no x.bits.now (bits_of rs).now a.0 b.0) (or_no x.bits.suspend (bits_of rs).suspend a.1 b.1),
      rest.1,
    )

nothing_left : (a : Option (List UnfinishedRequest)) (v : Value) → IsLeftIn a (Heard v) → has_bits (attempted v).return.bits ≡ false
    → (attempted v).again ≡ []
nothing_left a (AttemptedBy one) h e = by a h
  where
    by : (b : Option (List UnfinishedRequest)) → IsLeftIn b (Heard (AttemptedBy one)) → one.again ≡ []
    by None l = l.1.0
    by (Some ws) l = absurd (let no : false ≡ true = sym e ∙ l.0 in cc)
nothing_left a v h e = absurd h

seen_bits : (rs : List Return) → bits_of rs ≡ bits_of (map seen_return rs)
seen_bits [] = refl
seen_bits (r ∷ rs) = ap (joined_bits r.bits) (seen_bits rs)

none_again : (again : List (Option (List UnfinishedRequest))) (slots : List Slot) → AreLeft again slots → has_bits (bits_of (kids_by slots).returns) ≡ false
    → (kids_by slots).again ≡ []
none_again [] [] h e = refl
none_again [] (s ∷ slots) h e = absurd h
none_again (a ∷ again) [] h e = refl
none_again (a ∷ again) (IsOut told ∷ slots) h e = none_again again slots h.1 e
none_again (a ∷ again) (Heard v ∷ slots) h e =
    let both = none_last (kids_by slots).returns (attempted v).return e in
    λ i. nothing_left a v h.0 both.1 i ++ none_again again slots h.1 both.0 i

-- ---- it finishes, or goes again

finishes : (t : Terms) (r : RequestNode) (st : Stack) (h : IsRequestNode t r st) (own : OwnGot) → list_all is_ended r.kids.kids.kids ≡ true
    → has_bits (all_bits (kind_of r.waiting.request.work) own.error r.waiting.request.canfail r.failmode (bits_of (returns_in r.kids.kids))) ≡ false
    → IsFinished r.waiting (kids_by h.kid_slots).ended (worst_error own.error (worst_of (map (λ (c : Child). c.error) (finished_in r.kids.kids)))) own (one_of (kids_by h.kid_slots) (judged_by t r own))
finishes t r st h own e none =
    let bits : Bits = all_bits (kind_of r.waiting.request.work) own.error r.waiting.request.canfail r.failmode (bits_of (returns_in r.kids.kids)) in
    let error : Option Errno = worst_error own.error (worst_of (map (λ (c : Child). c.error) (finished_in r.kids.kids))) in
    let k : Kids = kids_by h.kid_slots in
    let is : ended_with (pending_of r.waiting) (bare own) error ≡ judged_by t r own =
    ap (λ (b : Bool). closed_if b (pending_of r.waiting) (bare own) bits (finished_in r.kids.kids)) (sym none) in
    let children : has_bits (bits_of (returns_in r.kids.kids)) ≡ false =
    none_of_children (kind_of r.waiting.request.work) own.error r.waiting.request.canfail r.failmode (bits_of (returns_in r.kids.kids)) none in
    let returned : has_bits (bits_of k.returns) ≡ false =
    ap has_bits (seen_bits k.returns ∙ ap bits_of (returns_heard r.kids.kids.kids h.kid_slots h.kids.fits e)) ∙ children in
    subst (λ (a : Attempted). IsFinished r.waiting k.ended error own (one_of k a)) is (record {
      bits = refl;
      child = refl;
      ended = refl;
      again = append-nil k.again ∙ none_again r.kids.again h.kid_slots h.kids.left returned;
      left = refl;
    })

pub closes_finished : (t : Terms) (r : RequestNode) (st : Stack) (h : IsRequestNode t r st) (own : OwnFound) (waiting : UnfinishedRequest) (bits : Bits) (error : Option Errno) → list_all is_ended r.kids.kids.kids ≡ true
    → OwnEnds t r st (own_got own) h → waiting ≡ r.waiting
    → bits ≡ all_bits (kind_of r.waiting.request.work) own.error r.waiting.request.canfail r.failmode (bits_of (returns_in r.kids.kids))
    → has_bits bits ≡ false → error ≡ worst_error own.error (worst_of (map (λ (c : Child). c.error) (finished_in r.kids.kids)))
    → Closes t r st h (Finished waiting error own)
closes_finished t r st h own waiting bits error e o same all none worst = record {
  one = one_of (kids_by h.kid_slots) (judged_by t r (own_got own));
  value = ends_by t r st h (own_got own) e o;
  shows = (
    same,
    subst (λ (x : Option Errno). IsFinished r.waiting (kids_by h.kid_slots).ended x (own_got own) (one_of (kids_by h.kid_slots) (judged_by t r (own_got own)))) (sym worst)
        (finishes t r st h (own_got own) e (ap has_bits (sym all) ∙ none)),
  );
}

goes : (t : Terms) (r : RequestNode) (st : Stack) (h : IsRequestNode t r st) (own : OwnGot) (ws : List UnfinishedRequest) (bits : Bits)
    → bits ≡ all_bits (kind_of r.waiting.request.work) own.error r.waiting.request.canfail r.failmode (bits_of (returns_in r.kids.kids))
    → has_bits bits ≡ true → ((one : Attempted) → one.again ≡ record { request = r.waiting.request; birth = r.waiting.birth; block = r.waiting.block; kept = finished_in r.kids.kids } ∷ []
    → IsLeft ws (one_of (kids_by h.kid_slots) one)) → root_number ws ≡ Some r.waiting.request.number
    → GoesAgain r.waiting (kids_by h.kid_slots).ended bits ws own (one_of (kids_by h.kid_slots) (judged_by t r own))
goes t r st h own ws bits all some left number =
    let k : Kids = kids_by h.kid_slots in
    let again : Attempted = goes_again (pending_of r.waiting) (bare own) bits (finished_in r.kids.kids) in
    let is : again ≡ judged_by t r own =
    ap (λ (b : Bool). closed_if b (pending_of r.waiting) (bare own) bits (finished_in r.kids.kids)) (sym some)
    ∙ ap (λ (b : Bits). closed (pending_of r.waiting) (bare own) b (finished_in r.kids.kids)) all in
    subst (λ (a : Attempted). GoesAgain r.waiting k.ended bits ws own (one_of k a)) is (record {
      same = refl;
      some = some;
      child = refl;
      ended = append-nil k.ended;
      left = left again refl;
      number = number;
    })

pub closes_again : (t : Terms) (r : RequestNode) (st : Stack) (h : IsRequestNode t r st) (own : OwnFound) (ws : List UnfinishedRequest) (bits : Bits) → list_all is_ended r.kids.kids.kids ≡ true
    → OwnEnds t r st (own_got own) h
    → bits ≡ all_bits (kind_of r.waiting.request.work) own.error r.waiting.request.canfail r.failmode (bits_of (returns_in r.kids.kids))
    → has_bits bits ≡ true → ((one : Attempted) → one.again ≡ record { request = r.waiting.request; birth = r.waiting.birth; block = r.waiting.block; kept = finished_in r.kids.kids } ∷ []
    → IsLeft ws (one_of (kids_by h.kid_slots) one)) → root_number ws ≡ Some r.waiting.request.number
    → Closes t r st h (Again bits ws own)
closes_again t r st h own ws bits e o all some left number = record {
  one = one_of (kids_by h.kid_slots) (judged_by t r (own_got own));
  value = ends_by t r st h (own_got own) e o;
  shows = goes t r st h (own_got own) ws bits all some left number;
}
