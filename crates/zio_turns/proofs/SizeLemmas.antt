-- How many bytes a plan ends with, where what it asked gave as many as were asked for.
use Rattle.std.proofs.Common.{◌≡◌, ℕ, List, [], ◌∷◌, ◌++◌, length, length-append, Bool, true, false, Option, Some, None, Ok, Err, ◌⊎◌, inl, inr, refl, sym, ap, ◌∙◌, subst, arith}
use Rattle.std.specs.Prelude.{IfSome, map}
use Rattle.zio_types.specs.declared.error.Errno.{Errno}
use Rattle.zio_types.specs.declared.place.Place.{Place}
use Rattle.zio_types.specs.declared.request.Bits.{Bits}
use Rattle.zio_types.specs.Paths.{path_steps_max}
use Rattle.zio_types.specs.Choices.{Choice}
use Rattle.zio_types.specs.Errors.{rank, worst_error, worst_of}
use Rattle.zio_types.proofs.ErrorLemmas.{rank-worst_error, same_rank}
use Rattle.zio_blkptr.specs.declared.pointer.Bp.{Bp}
use Rattle.zio_blkptr.specs.Pointers.{pointer_of}
use Rattle.zio_script.specs.declared.script.Work.{Work}
use Rattle.zio_script.specs.declared.script.Work.TheVariants.{Null, Read as WorkRead, Write, Free, Claim}
use Rattle.zio_script.specs.Bodies.{body_of}
use Rattle.zio_script.specs.Requests.{kind_of}
use Rattle.zio_cksum.specs.Blocks.{Pass, Tried, judged, judged_by, leaves_of, read_order, spot_in}
use Rattle.zio_cksum.specs.Headers.{offset_of}
use Rattle.zio_cksum.specs.Images.{Setting, Spot}
use Rattle.zio_gang.specs.declared.tree.Tree.{Tree}
use Rattle.zio_gang.specs.Attempts.{Child, Ended, Pending, Terms, all_bits, bits_of, children_of, closed_if, finished_of, has_bits, insert_children, judged_own}
use Rattle.zio_gang.specs.Trees.{unless_errors}
use Rattle.zio_gang.specs.Writes.{content_of}
use Rattle.zio_trace.specs.BlockCopies.{body_copies}
use Rattle.zio_trace.specs.CopyPrograms.{Program, block_reading, fetch_in, first_on, found_by, last_on, none_passed, none_tried, pass_each, pass_on, pass_reading, place_reading, repair_if, try_each, try_on, with_failure}
use Rattle.zio_trace.specs.Families.{Forest}
use Rattle.zio_trace.specs.Leaves.{Answer, LeafOp}
use Rattle.zio_trace.specs.Plans.{Bodies, Kids, TaskPlan, add_got, bare as bare_own, by_leaves, one_of, only, own_read_by, own_stored, own_taken, plan, plan_after, plan_bodies, plan_claim, plan_free, plan_kids, plan_own, plan_read, plan_root, plan_taken, plan_tree, plan_write}
use Rattle.zio_trace.specs.Programs.{Asks, Ends, ◌>>=◌}
use Rattle.zio_trace.specs.Tasks.{Attempt, AttemptedBy, Got, Leaf, One, OwnGot, ReadCopies, Task, Value, good_by, got, stored, taken, walked}
use Rattle.zio_frames.specs.Frames.{Stack}
use Rattle.zio_frames.specs.Moves.{IsEnded}
use Rattle.zio_frames.specs.OfRound.{AreAsked, FitsWhichever, SlotsFit}
use Rattle.zio_frames.specs.Slots.{Heard, IsOut, Slot, left_behind_slots}
use Rattle.zio_turns.specs.Ledgers.{Ending, IsEnding}
use Rattle.zio_turns.specs.Sizes.{FitsBodies, HasAskedSize, HasSize, HasSizes, IsSizedAs, SlotsSized, block_read, bodies_size, joined_size}
use Rattle.zio_turns.proofs.Links.{some_is}
use Rattle.zio_turns.proofs.Withins.{asks_no_end, same_end}

-- ---- programs of leaf operations

-- whatever is answered so, this holds of its end
abbrev LeavesEnd : {A : Type 0} → (A → Type 0) → Program A → Type 0
LeavesEnd P (Ends a) = P a
LeavesEnd P (Asks act more) = (a : Answer) → HasAskedSize act a → LeavesEnd P (more a)

leaves_then : {A B : Type 0} (P : A → Type 0) (Q : B → Type 0) (p : Program A) (next : A → Program B) → LeavesEnd P p
    → ((a : A) → P a → LeavesEnd Q (next a)) → LeavesEnd Q (p >>= next)
leaves_then P Q (Ends a) next h k = k a h
leaves_then P Q (Asks act more) next h k = λ a full. leaves_then P Q (more a) next (h a full) k

leaves_any : {A B : Type 0} (Q : B → Type 0) (p : Program A) (next : A → Program B) → ((a : A) → LeavesEnd Q (next a))
    → LeavesEnd Q (p >>= next)
leaves_any Q (Ends a) next k = k a
leaves_any Q (Asks act more) next k = λ a full. leaves_any Q (more a) next k

module _ (len : ℕ) where
  -- what was found has so many bytes
  abbrev FoundSized : Option (List ℕ) → Type 0
  FoundSized found = IfSome found (λ bytes. length bytes ≡ len)

  abbrev TriedSized : {C : Type 0} → Tried C → Type 0
  TriedSized tried = FoundSized tried.found

  abbrev PassSized : Pass → Type 0
  PassSized pass = FoundSized pass.found

  by_test : (b : Bool) (bytes : List ℕ) → length bytes ≡ len → HasSize len (judged_by b bytes)
  by_test true bytes h = h
  by_test false bytes h = tt

  judged_size : (good : List ℕ → Bool) (a : Answer) → HasSize len a → HasSize len (judged good a)
  judged_size good (Ok bytes) h = by_test (good bytes) bytes h
  judged_size good (Err e) h = tt

  on_try : {C : Type 0} (c : C) (r : Answer) (so_far : Tried C) (on : Tried C → Program (Tried C)) → HasSize len r
      → ((now : Tried C) → TriedSized now → LeavesEnd TriedSized (on now)) → LeavesEnd TriedSized (try_on c r so_far on)
  on_try c (Ok bytes) so_far on h k = h
  on_try c (Err e) so_far on h k = k (with_failure c e so_far) tt

  tries_sized : {C : Type 0} (op : C → LeafOp) (good : List ℕ → Bool) (so_far : Tried C) (cs : List C)
      → ((c : C) (a : Answer) → HasAskedSize (op c) a → HasSize len a) → TriedSized so_far
      → LeavesEnd TriedSized (try_each op good so_far cs)
  tries_sized op good so_far [] full h = h
  tries_sized op good so_far (c ∷ cs) full h = λ a is.
      on_try c (judged good a) so_far (λ now. try_each op good now cs) (judged_size good a (full c a is))
      (λ now k. tries_sized op good now cs full k)

  place_sized : (s : Setting) (retry : Bool) (good : List ℕ → Bool) (p : Place)
      → LeavesEnd TriedSized (place_reading s retry good len p)
  place_sized s retry good p =
      tries_sized (fetch_in retry len p) good none_tried (read_order (offset_of p) (leaves_of s p)) (λ leaf a h. h) tt

  on_pass : (found : Option (List ℕ)) (bad all : List Spot) (tried : Tried ℕ) (so_far : Pass) (on : Pass → Program Pass)
      → FoundSized found → ((now : Pass) → PassSized now → LeavesEnd PassSized (on now))
      → LeavesEnd PassSized (pass_on found bad all tried so_far on)
  on_pass (Some bytes) bad all tried so_far on h k = h
  on_pass None bad all tried so_far on h k = k _ tt

  passes_sized : (s : Setting) (retry : Bool) (good : List ℕ → Bool) (so_far : Pass) (places : List Place) → PassSized so_far
      → LeavesEnd PassSized (pass_each s retry good len so_far places)
  passes_sized s retry good so_far [] h = h
  passes_sized s retry good so_far (p ∷ ps) h =
      leaves_then TriedSized PassSized (place_reading s retry good len p) _ (place_sized s retry good p) (λ tried k.
      on_pass tried.found (map (spot_in p) tried.failed) (map (spot_in p) (leaves_of s p)) tried so_far
      (λ now. pass_each s retry good len now ps) k (λ now m. passes_sized s retry good now ps m))

  found_sized : (repair retry : Bool) (pass : Pass) (bytes : List ℕ) → length bytes ≡ len
      → LeavesEnd (HasSize len) (found_by repair retry pass bytes)
  found_sized repair retry pass bytes h =
      leaves_any (HasSize len) (repair_if repair retry bytes pass.repairs) (λ errors. Ends (Ok bytes)) (λ errors. h)

  last_sized : (found : Option (List ℕ)) (repair : Bool) (pass : Pass) → FoundSized found
      → LeavesEnd (HasSize len) (last_on found repair pass)
  last_sized (Some bytes) repair pass h = found_sized repair true pass bytes h
  last_sized None repair pass h = tt

  first_sized : (found : Option (List ℕ)) (repair : Bool) (pass : Pass) (again : Program Pass) → FoundSized found
      → LeavesEnd PassSized again → LeavesEnd (HasSize len) (first_on found repair pass again)
  first_sized (Some bytes) repair pass again h k = found_sized repair false pass bytes h
  first_sized None repair pass again h k =
      leaves_then PassSized (HasSize len) again _ k (λ last m. last_sized last.found repair last m)

  block_sized : (s : Setting) (repair : Bool) (good : List ℕ → Bool) (places : List Place)
      → LeavesEnd (HasSize len) (block_reading s repair good len places)
  block_sized s repair good places =
      leaves_then PassSized (HasSize len) (pass_reading s false good len places) _
      (passes_sized s false good none_passed places tt) (λ pass h.
      first_sized pass.found repair pass (pass_reading s true good len places) h
      (passes_sized s true good none_passed places tt))

-- ---- plans

module _ (t : Terms) (entries : List Choice) where
  -- whatever fitting values of such sizes are answered, this holds of its end
  abbrev EndsSized : {A : Type 0} → (A → Type 0) → TaskPlan A → Type 0
  EndsSized P (Ends a) = P a
  EndsSized P (Asks op more) = (v : Value) → IsSizedAs op v → FitsWhichever t entries op v → EndsSized P (more v)

  sized_then : {A B : Type 0} (P : A → Type 0) (Q : B → Type 0) (p : TaskPlan A) (next : A → TaskPlan B) → EndsSized P p
      → ((a : A) → P a → EndsSized Q (next a)) → EndsSized Q (p >>= next)
  sized_then P Q (Ends a) next h k = k a h
  sized_then P Q (Asks op more) next h k = λ v size fits. sized_then P Q (more v) next (h v size fits) k

  sized_any : {A B : Type 0} (Q : B → Type 0) (p : TaskPlan A) (next : A → TaskPlan B) → ((a : A) → EndsSized Q (next a))
      → EndsSized Q (p >>= next)
  sized_any Q (Ends a) next k = k a
  sized_any Q (Asks op more) next k = λ v size fits. sized_any Q (more v) next k

  sized_leaves : {A : Type 0} (P : A → Type 0) (p : Program A) → LeavesEnd P p → EndsSized P (by_leaves p)
  sized_leaves P (Ends a) h = h
  sized_leaves P (Asks act more) h = λ v size fits. sized_leaves P (more (got v)) (h (got v) size)

  -- what a plan's answers leave of it
  pub ended_sized : {A : Type 0} (P : A → Type 0) (asked : List Task) (slots : List Slot) (p : TaskPlan A) (a : A) → EndsSized P p
      → AreAsked asked slots p → SlotsSized asked slots → SlotsFit t entries asked slots → length asked ≡ length slots
      → left_behind_slots slots p ≡ Ends a → P a
  ended_sized P [] [] (Ends b) a h are sized fit full e = subst P (same_end b a e) h
  ended_sized P [] [] (Asks op more) a h are sized fit full e = absurd (asks_no_end op more a e)
  ended_sized P [] (x ∷ slots) p a h are sized fit full e = absurd (omega (arith, full))
  ended_sized P (q ∷ asked) [] p a h are sized fit full e = absurd (omega (arith, full))
  ended_sized P (q ∷ asked) (x ∷ slots) (Ends b) a h are sized fit full e = absurd are
  ended_sized P (q ∷ asked) (Heard v ∷ slots) (Asks op more) a h are sized fit full e =
      ended_sized P asked slots (more v) a
      (h v (subst (λ (y : Task). IsSizedAs y v) are.0 sized.0) (subst (λ (y : Task). FitsWhichever t entries y v) are.0 fit.0))
      are.1 sized.1 fit.1 (omega (arith, full)) e
  ended_sized P (q ∷ asked) (IsOut told ∷ slots) (Asks op more) a h are sized fit full e =
      absurd (asks_no_end op (λ v. left_behind_slots slots (more v)) a e)

  -- ---- the read of a block

  copies_sized : (repair : Bool) (good : List ℕ → Bool) (len : ℕ) (places : List Place)
      → EndsSized (λ (v : Value). HasSize len (got v))
      (by_leaves (block_reading t.setting repair good len places) >>= λ a. Ends (Got a))
  copies_sized repair good len places =
      sized_then (HasSize len) (λ (v : Value). HasSize len (got v)) (by_leaves (block_reading t.setting repair good len places))
      (λ a. Ends (Got a))
      (sized_leaves (HasSize len) (block_reading t.setting repair good len places) (block_sized len t.setting repair good places))
      (λ a h. h)

  -- the bodies so far, where none had an error
  abbrev BodiesSized : List Bp → Bodies → Type 0
  BodiesSized bodies b = b.errors ≡ [] → length b.bytes ≡ joined_size (map body_copies bodies)

  add_sized : (bp : Bp) (bps : List Bp) (a : Answer) (others : Bodies) → HasSize bp.size a → BodiesSized bps others
      → BodiesSized (bp ∷ bps) (add_got a others)
  add_sized bp bps (Ok bytes) others size h none = omega (arith, length-append bytes others.bytes, size, h none)
  add_sized bp bps (Err e) others size h none = absurd (cc)

  bodies_sized : (bodies : List Bp) → EndsSized (BodiesSized bodies) (plan_bodies bodies)
  bodies_sized [] = λ none. refl
  bodies_sized (bp ∷ bps) = λ v size fits.
      sized_then (BodiesSized bps) (BodiesSized (bp ∷ bps)) (plan_bodies bps) _ (bodies_sized bps)
      (λ others h. add_sized bp bps (got v) others size h)

  unless_sized : (errors : List (Option Errno)) (bytes : List ℕ) (n : ℕ) → (errors ≡ [] → length bytes ≡ n)
      → HasSize n (unless_errors errors bytes)
  unless_sized [] bytes n h = h refl
  unless_sized (e ∷ errors) bytes n h = tt

  after_sized : (errors : List (Option Errno)) (bodies : List Bp) (n : ℕ)
      → (errors ≡ [] → joined_size (map body_copies bodies) ≡ n)
      → EndsSized (λ (v : Value). HasSize n (got v)) (plan_after errors bodies)
  after_sized [] bodies n h =
      sized_then (BodiesSized bodies) (λ (v : Value). HasSize n (got v)) (plan_bodies bodies)
      (λ b. Ends (Got (unless_errors b.errors b.bytes))) (bodies_sized bodies)
      (λ b k. unless_sized b.errors b.bytes n (λ none. k none ∙ h refl))
  after_sized (e ∷ errors) bodies n h = tt

  tree_sized : (tree : Tree) → EndsSized (λ (v : Value). HasSize (bodies_size tree) (got v)) (plan_tree tree)
  tree_sized tree = λ v size fits.
      after_sized (walked v).errors (walked v).bodies (bodies_size tree) (λ none. ap joined_size ((fits.fits [] tt).1 none))

  -- ---- a request's own work

  record OwnSized (work : Work) (block : Option Tree) (own : OwnGot) : Type 0 where
    bytes : (own.bytes ≡ []) ⊎ ((tree : Tree) × (block_read work block ≡ Some tree) × (length own.bytes ≡ bodies_size tree))
    whole : own.error ≡ None → (tree : Tree) → block_read work block ≡ Some tree → length own.bytes ≡ bodies_size tree

  none_some : (tree : Tree) → None ≡ Some tree → ⊥
  none_some tree e = cc

  some_none : (e : Errno) → Some e ≡ None → ⊥
  some_none e h = cc

  -- what reads no block
  no_bytes : (work : Work) (block : Option Tree) (own : OwnGot) → own.bytes ≡ [] → block_read work block ≡ None
      → OwnSized work block own
  no_bytes work block own none reads =
      record { bytes = inl none; whole = λ e tree is. absurd (none_some tree (sym reads ∙ is)) }

  -- what fails
  fails : (work : Work) (block : Option Tree) (e : Errno) → OwnSized work block (only (Some e))
  fails work block e = record { bytes = inl refl; whole = λ none tree is. absurd (some_none e none) }

  own_by : (work : Work) (tree : Tree) (a : Answer) → block_read work (Some tree) ≡ Some tree
      → HasSize (bodies_size tree) a → OwnSized work (Some tree) (own_read_by a)
  own_by work tree (Ok bytes) reads h = record {
    bytes = inr (tree, reads, h);
    whole = λ e other is. h ∙ ap bodies_size (some_is tree other (sym reads ∙ is));
  }
  own_by work tree (Err e) reads h = fails work (Some tree) e

  read_sized : (work : Work) (block : Option Tree) → block_read work block ≡ block
      → EndsSized (OwnSized work block) (plan_read block)
  read_sized work None reads = fails work None _
  read_sized work (Some tree) reads =
      sized_then (λ (v : Value). HasSize (bodies_size tree) (got v)) (OwnSized work (Some tree)) (plan_tree tree)
      (λ v. Ends (own_read_by (got v))) (tree_sized tree) (λ v h. own_by work tree (got v) reads h)

  free_sized : (work : Work) (block : Option Tree) → block_read work block ≡ None
      → EndsSized (OwnSized work block) (plan_free block)
  free_sized work None reads = fails work None _
  free_sized work (Some tree) reads = λ v size fits. no_bytes work (Some tree) _ refl reads

  own_taken_sized : (work : Work) (block : Option Tree) (free : Bool) (tree : Tree) → block_read work block ≡ None
      → OwnSized work block (own_taken free tree)
  own_taken_sized work block true tree reads = no_bytes work block _ refl reads
  own_taken_sized work block false tree reads = fails work block _

  taken_sized : (work : Work) (block : Option Tree) (errors : List (Option Errno)) (tree : Tree) → block_read work block ≡ None
      → EndsSized (OwnSized work block) (plan_taken errors tree)
  taken_sized work block [] tree reads = λ v size fits. own_taken_sized work block (taken v) tree reads
  taken_sized work block (e ∷ errors) tree reads = no_bytes work block _ refl reads

  claim_sized : (work : Work) (block : Option Tree) (pointer : Option Bp) → block_read work block ≡ None
      → EndsSized (OwnSized work block) (plan_claim pointer)
  claim_sized work block None reads = no_bytes work block _ refl reads
  claim_sized work block (Some bp) reads = λ v size fits. taken_sized work block (walked v).errors _ reads

  own_sized : (attempt : ℕ) (p : Pending) (work : Work) (pointers : List (Option Bp))
      → EndsSized (OwnSized work p.block) (plan_own t attempt p work pointers)
  own_sized attempt p Null pointers = no_bytes Null p.block (only None) refl refl
  own_sized attempt p (WorkRead name prio) pointers = read_sized (WorkRead name prio) p.block refl
  own_sized attempt p (Write name sum copies prio body) pointers =
      sized_any (OwnSized (Write name sum copies prio body) p.block)
      (plan_write t attempt p sum copies path_steps_max [] (content_of pointers (body_of body)))
      (λ v. Ends (own_stored (stored v)))
      (λ v. no_bytes (Write name sum copies prio body) p.block (own_stored (stored v)) refl refl)
  own_sized attempt p (Free name) pointers = free_sized (Free name) p.block refl
  own_sized attempt p (Claim name pointer) pointers = claim_sized (Claim name pointer) p.block (pointer_of pointer) refl

  -- ---- an attempt

  -- where its request finished in it, it is the last
  pub record LastSized (p : Pending) (v : Value) : Type 0 where
    pub one : One
    pub is : v ≡ AttemptedBy one
    pub last : one.again ≡ [] → (front : List Ended) (e : Ended) → one.ended ≡ front ++ e ∷ [] → FitsBodies p e

  some_behind : {X : Type 0} (xs : List X) (x : X) → xs ++ x ∷ [] ≡ [] → ⊥
  some_behind [] x e = cc
  some_behind (y ∷ xs) x e = cc

  last_is : {X : Type 0} (xs ys : List X) (x y : X) → xs ++ x ∷ [] ≡ ys ++ y ∷ [] → x ≡ y
  last_is [] [] x y e = cc
  last_is [] (b ∷ ys) x y e = absurd (some_behind ys y (sym (cc)))
  last_is (a ∷ xs) [] x y e = absurd (some_behind xs x (cc))
  last_is (a ∷ xs) (b ∷ ys) x y e = last_is xs ys x y (cc)

  first_none : (a b : Option Errno) → worst_error a b ≡ None → a ≡ None
  first_none a b e =
      let r : rank (worst_error a b) ≡ 0 = ap rank e in
      same_rank a None (omega (arith, rank-worst_error a b))

  closed_sized : (b : Bool) (p : Pending) (k : Kids) (own : OwnGot) (bits : Bits) (kept : List Child)
      → OwnSized p.request.work p.block own → LastSized p (AttemptedBy (one_of k (closed_if b p (bare_own own) bits kept)))
  closed_sized true p k own bits kept h = record {
    one = one_of k (closed_if true p (bare_own own) bits kept);
    is = refl;
    last = λ none front e same. absurd (some_behind k.again (record p { kept = kept }) none);
  }
  closed_sized false p k own bits kept h =
      let error : Option Errno = worst_of (map (λ (c : Child). c.error) kept) in
      record {
        one = one_of k (closed_if false p (bare_own own) bits kept);
        is = refl;
        last = λ none front e same. subst (FitsBodies p) (last_is k.ended front _ e same) (record {
          bytes = h.bytes;
          whole = λ good tree reads. h.whole (first_none own.error error good) tree reads;
        });
      }

  attempt_sized : (attempt : ℕ) (p : Pending) (kids : Forest) → EndsSized (LastSized p) (plan t (Attempt attempt p kids))
  attempt_sized attempt p kids =
      sized_any (LastSized p) (plan_kids attempt kids) (λ k. plan_root t attempt p k) (λ k.
      sized_then (OwnSized p.request.work p.block) (LastSized p)
      (plan_own t attempt p p.request.work (map (λ (c : Child). c.pointer) (insert_children (children_of k.returns) p.kept)))
      (λ own. Ends (AttemptedBy (one_of k (judged_own t p k.returns (bare_own own)))))
      (own_sized attempt p p.request.work (map (λ (c : Child). c.pointer) (insert_children (children_of k.returns) p.kept)))
      (λ own h.
      let bits : Bits = all_bits (kind_of p.request.work) own.error p.request.canfail t.failmode (bits_of k.returns) in
      closed_sized (has_bits bits) p k own bits (insert_children (children_of (finished_of k.returns)) p.kept) h))

  -- ---- a part

  -- what it ends with
  pub part_sized : (op : Task) (asked : List Task) (slots : List Slot) (v : Value) → AreAsked asked slots (plan t op)
      → SlotsSized asked slots → SlotsFit t entries asked slots → length asked ≡ length slots
      → left_behind_slots slots (plan t op) ≡ Ends v → IsSizedAs op v
  part_sized (Leaf act) asked slots v are sized fit full e =
      ended_sized (IsSizedAs (Leaf act)) asked slots (plan t (Leaf act)) v (λ w size fits. size) are sized fit full e
  part_sized (ReadCopies repair test len places) asked slots v are sized fit full e =
      ended_sized (λ (w : Value). HasSize len (got w)) asked slots (plan t (ReadCopies repair test len places)) v
      (copies_sized repair (good_by test) len places) are sized fit full e
  part_sized _ asked slots v are sized fit full e = tt

-- ---- a node that ends

-- its value is sized, and so is the request that finished in it
pub record EndSizes (t : Terms) (f : Forest) (st : Stack) (v : Value) : Type 0 where
  pub value : HasSizes st → IsSizedAs st.outer.op v
  pub last : HasSizes st → (x : Ending) (h : IsEnding t f x) → h.stack ≡ st → FitsBodies x.request x.ended

same_one : (one other : One) → AttemptedBy one ≡ AttemptedBy other → one ≡ other
same_one one other e = cc

pub end_sizes : (t : Terms) (f : Forest) (entries : List Choice) (st : Stack) (v : Value)
    → AreAsked st.outer.asked st.outer.slots (plan t st.outer.op) → SlotsFit t entries st.outer.asked st.outer.slots
    → length st.outer.asked ≡ length st.outer.slots → IsEnded t st v → EndSizes t f st v
end_sizes t f entries st v are fit full ends = record {
  value = λ sizes. part_sized t entries st.outer.op st.outer.asked st.outer.slots v are sizes.outer fit full ends.value;
  last = λ sizes x h same.
      let does : st.outer.op ≡ Attempt h.attempt x.request h.kids = sym (ap (λ (s : Stack). s.outer.op) same) ∙ h.does in
      let now : IsEnded t st (AttemptedBy h.one) = subst (λ (s : Stack). IsEnded t s (AttemptedBy h.one)) same h.ends in
      let l : LastSized t entries x.request (AttemptedBy h.one) =
      ended_sized t entries (LastSized t entries x.request) st.outer.asked st.outer.slots
      (plan t (Attempt h.attempt x.request h.kids)) (AttemptedBy h.one)
      (attempt_sized t entries h.attempt x.request h.kids)
      (subst (λ (op : Task). AreAsked st.outer.asked st.outer.slots (plan t op)) does are) sizes.outer fit full
      (subst (λ (op : Task). left_behind_slots st.outer.slots (plan t op) ≡ Ends (AttemptedBy h.one)) does now.value) in
      let one : h.one ≡ l.one = same_one h.one l.one l.is in
      l.last (ap (λ (o : One). o.again) (sym one) ∙ h.none_again) x.below x.ended
      (ap (λ (o : One). o.ended) (sym one) ∙ h.ended_are);
}
