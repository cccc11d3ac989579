-- Each plan of a task asks for a key no more often than the task may.
use Rattle.std.proofs.Common.{◌≡◌, ℕ, zero, suc, ◌+◌, ◌≤◌, List, [], ◌∷◌, ◌++◌, length, Bool, true, false, cond, nat_le, Option, Some, None, Ok, Err, refl, subst, arith}
use Rattle.zio_types.specs.declared.error.Errno.{Errno}
use Rattle.zio_types.specs.declared.journal.Key.{Key}
use Rattle.zio_types.specs.declared.journal.Role.{Role}
use Rattle.zio_types.specs.declared.journal.Role.TheVariants.{Body as BodyRole, Head as HeadRole}
use Rattle.zio_types.specs.declared.place.Place.{Place}
use Rattle.zio_types.specs.Choices.{same_key, same_role}
use Rattle.zio_types.specs.Places.{sector_size}
use Rattle.zio_types.specs.Paths.{path_steps_max}
use Rattle.zio_blkptr.specs.declared.pointer.Bp.{Bp}
use Rattle.zio_blkptr.specs.declared.pointer.SumKind.{SumKind}
use Rattle.zio_blkptr.specs.Pointers.{pointer_of}
use Rattle.zio_script.specs.declared.script.Work.{Work}
use Rattle.zio_script.specs.declared.script.Work.TheVariants.{Null, Read as WorkRead, Write, Free, Claim}
use Rattle.zio_script.specs.Bodies.{body_of}
use Rattle.zio_cksum.specs.Headers.{split_sizes, members_of}
use Rattle.zio_gang.specs.declared.tree.Tree.{Tree}
use Rattle.zio_types.specs.declared.request.Bits.{Bits}
use Rattle.zio_gang.specs.Attempts.{Terms, Pending, Child, Own, now_alone, reexecutions_max, writing_of, closed_if, judged_own}
use Rattle.zio_gang.specs.Writes.{Writing, cut, content_of, body_ask, head_ask}
use Rattle.zio_trace.specs.Conflicts.{is_single}
use Rattle.zio_trace.specs.CopyPrograms.{block_reading, piece_writing}
use Rattle.zio_trace.specs.Families.{Forest, NoTrees, TreeOf, root_left, before}
use Rattle.zio_trace.specs.Keys.{bit, if_same, starts, count_in, cap, FitsLeft, Capped}
use Rattle.zio_trace.specs.Labels.{same_number, same_at}
use Rattle.zio_trace.specs.Leaves.{LeafOp, Answer}
use Rattle.zio_trace.specs.Plans.{TaskPlan, Kids, bare, by_leaves, plan_members, plan_gang, plan_gang_unless, plan_body, plan_part, plan_write, head_task, plan_below, plan_found, plan_pointer, plan_bodies, plan_after, plan_tree, plan_read, plan_free, plan_taken, plan_claim, plan_own, plan_kids, plan_root, plan_left, plan_again, plan_settle, plan}
use Rattle.zio_trace.specs.Programs.{Program as ProgramOf, Ends, Asks, ask}
use Rattle.zio_trace.specs.Rounds.{plan_round, settles}
use Rattle.zio_trace.specs.Tasks.{good_by, Look, ByKept, ByClaim, Task, ReadCopies, WriteCopies, WritePart, ReadHeads, ReadTree, Attempt, Settle, Value, Got, Wrote, One, Settled, OwnGot, got, found, StoredAs, nowhere, walked, attempted}
use Rattle.zio_trace.specs.Traces.{AsksOnly}
use Rattle.zio_trace.specs.Underway.{plan_each}
use Rattle.zio_trace.proofs.CapLemmas.{capped-more, capped-then, idle}
use Rattle.zio_trace.proofs.GroundLemmas.{only-then}
use Rattle.zio_trace.proofs.PathLemmas.{if_added, if_more, passes, one_of_path, key_bit}

module _ (k : Key) where
  abbrev Idle : {A : Type 0} → TaskPlan A → Type 0
  Idle p = AsksOnly (λ (task : Task). cap k task ≡ 0) p

  abbrev Caps : {A : Type 0} → (A → Type 0) → ℕ → TaskPlan A → Type 0
  Caps Q n p = Capped FitsLeft (cap k) Q n p

  -- ---- what asks for no places

  leaves_idle : {A : Type 0} (p : ProgramOf LeafOp Answer A) → Idle (by_leaves p)
  leaves_idle (Ends a) = tt
  leaves_idle (Asks act more) = (refl, λ v. leaves_idle (more (got v)))

  below_idle : (look : Look) (levels : ℕ) (path : List ℕ) (n : ℕ) (ms : List Bp) → Idle (plan_below (ReadHeads look levels) path n ms)
  below_idle look levels path n [] = tt
  below_idle look levels path n (m ∷ ms) = (refl, λ v. only-then _ (plan_below (ReadHeads look levels) path (n + 1) ms) _ (below_idle look levels path (n + 1) ms) (λ others. tt))

  found_idle : (look : Look) (levels : ℕ) (path : List ℕ) (a : Answer) → Idle (plan_found (ReadHeads look levels) path a)
  found_idle look levels path (Err e) = tt
  found_idle look levels path (Ok bytes) = only-then _ (plan_below (ReadHeads look levels) path 0 (members_of bytes)) _ (below_idle look levels path 0 (members_of bytes)) (λ w. tt)

  pointer_idle : (e : Option Errno) (gang : Bool) (bp : Bp) (follow : TaskPlan Value) → Idle follow → Idle (plan_pointer e gang bp follow)
  pointer_idle (Some e) gang bp follow h = tt
  pointer_idle None false bp follow h = tt
  pointer_idle None true bp follow h = h

  head_idle : (look : Look) (path : List ℕ) (bp : Bp) → cap k (head_task look path bp) ≡ 0
  head_idle (ByKept heads) path bp = refl
  head_idle ByClaim path bp = refl

  heads_idle : (t : Terms) (look : Look) (levels : ℕ) (path : List ℕ) (bp : Bp) → Idle (plan t (ReadHeads look levels path bp))
  heads_idle t look zero path bp = pointer_idle _ bp.gang bp _ tt
  heads_idle t look (suc levels) path bp = pointer_idle _ bp.gang bp _ (head_idle look path bp, λ v. found_idle look levels path (got v))

  bodies_idle : (bps : List Bp) → Idle (plan_bodies bps)
  bodies_idle [] = tt
  bodies_idle (bp ∷ bps) = (refl, λ v. only-then _ (plan_bodies bps) _ (bodies_idle bps) (λ others. tt))

  after_idle : (errors : List (Option Errno)) (bodies : List Bp) → Idle (plan_after errors bodies)
  after_idle [] bodies = only-then _ (plan_bodies bodies) _ (bodies_idle bodies) (λ b. tt)
  after_idle (e ∷ errors) bodies = tt

  tree_idle : (tree : Tree) → Idle (plan_tree tree)
  tree_idle tree = (refl, λ v. after_idle (walked v).errors (walked v).bodies)

  read_idle : (tree : Option Tree) → Idle (plan_read tree)
  read_idle None = tt
  read_idle (Some tree) = only-then _ (plan_tree tree) _ (tree_idle tree) (λ v. tt)

  free_idle : (tree : Option Tree) → Idle (plan_free tree)
  free_idle None = tt
  free_idle (Some tree) = (refl, λ v. tt)

  taken_idle : (errors : List (Option Errno)) (tree : Tree) → Idle (plan_taken errors tree)
  taken_idle [] tree = (refl, λ v. tt)
  taken_idle (e ∷ errors) tree = tt

  claim_idle : (bp : Option Bp) → Idle (plan_claim bp)
  claim_idle None = tt
  claim_idle (Some bp) = (refl, λ v. taken_idle (walked v).errors _)

  -- ---- a part that is written

  module _ (t : Terms) (attempt : ℕ) (p : Pending) (sum : SumKind) (copies : ℕ) where
    abbrev w : Writing
    w = writing_of t attempt p sum copies

    abbrev wrap : ℕ → ℕ
    wrap n = if_same p.request.number k.request (if_same attempt k.attempt n)

    abbrev part_cap : List ℕ → ℕ
    part_cap path = wrap (bit (starts path k.path))

    wrap_added : (x y z : ℕ) → x + y ≤ z → wrap x + wrap y ≤ wrap z
    wrap_added x y z h = if_added (same_number p.request.number k.request) _ _ _ (if_added (same_number attempt k.attempt) x y z h)

    wrap_more : (x y : ℕ) → x ≤ y → wrap x ≤ wrap y
    wrap_more x y h = if_more (same_number p.request.number k.request) _ _ (if_more (same_number attempt k.attempt) x y h)

    abbrev own : List ℕ → Role → ℕ
    own path role = cond (same_at path k.path) (bit (same_role role k.role)) 0

    abbrev Any : {A : Type 0} → A → Type 0
    Any a = Unit {0}

    module _ (below : List ℕ → List ℕ → TaskPlan Value) (h : (path part : List ℕ) → Caps Any (part_cap path) (below path part)) (path : List ℕ) where
      abbrev f : ℕ → Bool
      f n = starts (path ++ n ∷ []) k.path

      members_capped : (n : ℕ) (bits : List (List ℕ)) → Caps Any (wrap (passes f n bits)) (plan_members below path n bits)
      members_capped n [] = tt
      members_capped n (part ∷ bits) =
          capped-more FitsLeft (cap k) Any _ (wrap (passes f n (part ∷ bits))) (plan_members below path n (part ∷ bits)) (wrap_added (bit (f n)) (passes f (n + 1) bits) (passes f n (part ∷ bits)) (omega arith))
          (capped-then FitsLeft (cap k) Any Any (wrap (bit (f n))) (wrap (passes f (n + 1) bits)) (below (path ++ n ∷ []) part) _ (h (path ++ n ∷ []) part)
          (λ v q. capped-more FitsLeft (cap k) Any (wrap (passes f (n + 1) bits) + 0) (wrap (passes f (n + 1) bits)) _ (omega arith)
          (capped-then FitsLeft (cap k) Any Any (wrap (passes f (n + 1) bits)) 0 (plan_members below path (n + 1) bits) _ (members_capped (n + 1) bits) (λ o r. tt))))

      module _ (bytes : List ℕ) where
        abbrev bits : List (List ℕ)
        bits = cut (split_sizes (length bytes)) bytes

        gang_capped : (places : Option (List Place)) → Caps Any (wrap (passes f 0 bits)) (plan_gang places w below path bytes)
        gang_capped None = tt
        gang_capped (Some places) =
            capped-more FitsLeft (cap k) Any (wrap (passes f 0 bits) + 0) (wrap (passes f 0 bits)) (plan_gang (Some places) w below path bytes) (omega arith)
            (capped-then FitsLeft (cap k) Any Any (wrap (passes f 0 bits)) 0 (plan_members below path 0 bits) _ (members_capped 0 bits) (λ m q. (0, omega arith, λ v fits. tt)))

        abbrev head_most : ℕ
        head_most = wrap (own path HeadRole + passes f 0 bits)

        unless_capped : (one : Bool) → Caps Any head_most (plan_gang_unless one w below path bytes)
        unless_capped true = tt
        unless_capped false =
            let a : bit (same_key (head_ask w path).key k) ≤ wrap (own path HeadRole) = key_bit (head_ask w path).key k in
            let b : wrap (own path HeadRole) + wrap (passes f 0 bits) ≤ head_most = wrap_added (own path HeadRole) (passes f 0 bits) (own path HeadRole + passes f 0 bits) (omega arith) in
            (wrap (passes f 0 bits), omega (arith, a, b), λ v fits. gang_capped (found v))

        body_capped : (places : Option (List Place)) → Caps Any head_most (plan_body places w below path bytes)
        body_capped (Some places) = (head_most, omega arith, λ v fits. tt)
        body_capped None = unless_capped (nat_le (length bytes) sector_size)

        part_capped : Caps Any (part_cap path) (plan_part w below path bytes)
        part_capped =
            let a : bit (same_key (body_ask w path bytes).key k) ≤ wrap (own path BodyRole) = key_bit (body_ask w path bytes).key k in
            let b : wrap (own path BodyRole) + head_most ≤ part_cap path = wrap_added (own path BodyRole) (own path HeadRole + passes f 0 bits) (bit (starts path k.path)) (one_of_path path k.path k.role 0 bits) in
            (head_most, omega (arith, a, b), λ v fits. body_capped (found v))

    pub write_capped : (levels : ℕ) (path bytes : List ℕ) → Caps Any (part_cap path) (plan_write t attempt p sum copies levels path bytes)
    write_capped zero path bytes = part_capped (λ below part. Ends (StoredAs nowhere)) (λ below part. tt) path bytes
    write_capped (suc levels) path bytes =
        part_capped (λ below part. ask (WritePart attempt p sum copies levels below part)) (λ below part. (0, omega arith, λ v fits. tt)) path bytes

  -- ---- an attempt

  count_before : (n : ℕ) (f g : Forest) → count_in n (before f g) ≡ count_in n f + count_in n g
  count_before n NoTrees g = omega arith
  count_before n (TreeOf p kids others) g = let e : count_in n (before others g) ≡ count_in n others + count_in n g = count_before n others g in omega arith

  abbrev KidsFit : Forest → Kids → Type 0
  KidsFit kids x = (n : ℕ) → count_in n x.left ≤ count_in n kids

  abbrev FitsNow : {A : Type 0} → A → Type 0
  FitsNow a = Unit {0}

  kids_capped : (attempt : ℕ) (kids : Forest) → Caps (KidsFit kids) (if_same attempt k.attempt (count_in k.request kids)) (plan_kids attempt kids)
  kids_capped attempt NoTrees = λ n. omega arith
  kids_capped attempt (TreeOf p kids others) = (
    if_same attempt k.attempt (count_in k.request others),
    if_added (same_number attempt k.attempt) (bit (same_number p.request.number k.request) + count_in k.request kids) (count_in k.request others) _ (omega arith),
    λ v fits. capped-more FitsLeft (cap k) (KidsFit (TreeOf p kids others)) (if_same attempt k.attempt (count_in k.request others) + 0) (if_same attempt k.attempt (count_in k.request others)) _ (omega arith)
        (capped-then FitsLeft (cap k) (KidsFit others) (KidsFit (TreeOf p kids others)) (if_same attempt k.attempt (count_in k.request others)) 0 (plan_kids attempt others) _ (kids_capped attempt others)
        (λ o q n.
        let a : count_in n (before (attempted v).left o.left) ≡ count_in n (attempted v).left + count_in n o.left = count_before n (attempted v).left o.left in
        let b : count_in n (attempted v).left ≤ bit (same_number p.request.number n) + count_in n kids = fits n in
        let c : count_in n o.left ≤ count_in n others = q n in
        omega arith)),
  )

  again_left : (again : Bool) (p : Pending) (own : Own) (bits : Bits) (kept : List Child) (left : Forest) (n : ℕ) → count_in n (root_left (closed_if again p own bits kept).again left) ≤ bit (same_number p.request.number n) + count_in n left
  again_left true p own bits kept left n = omega arith
  again_left false p own bits kept left n = omega arith

  one_left : (t : Terms) (p : Pending) (x : Kids) (o : OwnGot) (n most : ℕ) → count_in n x.left ≤ most → count_in n (root_left (judged_own t p x.returns (bare o)).again x.left) ≤ bit (same_number p.request.number n) + most
  one_left t p x o n most h =
      let a : count_in n (root_left (judged_own t p x.returns (bare o)).again x.left) ≤ bit (same_number p.request.number n) + count_in n x.left = again_left _ p (bare o) _ _ x.left n in
      omega arith

  own_if : (a b : Bool) → cond a (cond b 1 0) 0 ≤ cond b (bit a) 0
  own_if true b = omega arith
  own_if false true = omega arith
  own_if false false = omega arith

  own_capped : (t : Terms) (attempt : ℕ) (p : Pending) (work : Work) (pointers : List (Option Bp)) → Caps FitsNow (if_same attempt k.attempt (bit (same_number p.request.number k.request))) (plan_own t attempt p work pointers)
  own_capped t attempt p Null pointers = tt
  own_capped t attempt p (WorkRead name prio) pointers = idle FitsLeft (cap k) FitsNow _ (plan_read p.block) (read_idle p.block) (λ a. tt)
  own_capped t attempt p (Write name sum copies prio body) pointers =
      let most : ℕ = if_same p.request.number k.request (if_same attempt k.attempt 1) in
      let l : most ≤ if_same attempt k.attempt (bit (same_number p.request.number k.request)) = own_if (same_number p.request.number k.request) (same_number attempt k.attempt) in
      capped-more FitsLeft (cap k) FitsNow (most + 0) _ (plan_own t attempt p (Write name sum copies prio body) pointers) (omega arith)
      (capped-then FitsLeft (cap k) FitsNow FitsNow most 0 (plan_write t attempt p sum copies path_steps_max [] (content_of pointers (body_of body))) _
      (write_capped t attempt p sum copies path_steps_max [] (content_of pointers (body_of body))) (λ v q. tt))
  own_capped t attempt p (Free name) pointers = idle FitsLeft (cap k) FitsNow _ (plan_free p.block) (free_idle p.block) (λ a. tt)
  own_capped t attempt p (Claim name pointer) pointers = idle FitsLeft (cap k) FitsNow _ (plan_claim (pointer_of pointer)) (claim_idle (pointer_of pointer)) (λ a. tt)

  attempt_capped : (t : Terms) (attempt : ℕ) (p : Pending) (kids : Forest) → Caps (FitsLeft (Attempt attempt p kids)) (cap k (Attempt attempt p kids)) (plan t (Attempt attempt p kids))
  attempt_capped t attempt p kids =
      let one : ℕ = if_same attempt k.attempt (bit (same_number p.request.number k.request)) in
      let rest : ℕ = if_same attempt k.attempt (count_in k.request kids) in
      let l : rest + one ≤ cap k (Attempt attempt p kids) = if_added (same_number attempt k.attempt) (count_in k.request kids) (bit (same_number p.request.number k.request)) _ (omega arith) in
      capped-more FitsLeft (cap k) (FitsLeft (Attempt attempt p kids)) (rest + (one + 0)) (cap k (Attempt attempt p kids)) (plan t (Attempt attempt p kids)) (omega arith)
      (capped-then FitsLeft (cap k) (KidsFit kids) (FitsLeft (Attempt attempt p kids)) rest (one + 0) (plan_kids attempt kids) (λ x. plan_root t attempt p x) (kids_capped attempt kids)
      (λ x q. capped-then FitsLeft (cap k) FitsNow (FitsLeft (Attempt attempt p kids)) one 0 (plan_own t attempt p p.request.work _) _ (own_capped t attempt p p.request.work _)
      (λ o r n. one_left t p x o n (count_in n kids) (q n))))

  -- ---- all attempts

  abbrev from_number : ℕ → ℕ → Bool
  from_number zero n = true
  from_number (suc m) zero = false
  from_number (suc m) (suc n) = from_number m n

  now_or_later : (a n x y : ℕ) → y ≤ x → cond (same_number a n) x 0 + cond (from_number (suc a) n) y 0 ≤ cond (from_number a n) x 0
  now_or_later zero zero x y h = omega arith
  now_or_later zero (suc n) x y h = omega arith
  now_or_later (suc a) zero x y h = omega arith
  now_or_later (suc a) (suc n) x y h = now_or_later a n x y h

  abbrev tree_count : Pending → Forest → ℕ
  tree_count p kids = bit (same_number p.request.number k.request) + count_in k.request kids

  abbrev from_attempt : ℕ → ℕ → ℕ
  from_attempt attempt n = cond (from_number attempt k.attempt) n 0

  left_capped : (one : One) (left : Forest) (again : Pending → Forest → TaskPlan Settled) (attempt most : ℕ) → count_in k.request left ≤ most
      → ((p : Pending) (kids : Forest) → Caps FitsNow (from_attempt attempt (tree_count p kids)) (again p kids)) → Caps FitsNow (from_attempt attempt most) (plan_left one left again)
  left_capped one NoTrees again attempt most l h = tt
  left_capped one (TreeOf p kids others) again attempt most l h =
      let less : from_attempt attempt (tree_count p kids) ≤ from_attempt attempt most = if_more (from_number attempt k.attempt) (tree_count p kids) most (omega (arith, l)) in
      capped-more FitsLeft (cap k) FitsNow (from_attempt attempt (tree_count p kids) + 0) (from_attempt attempt most) (plan_left one (TreeOf p kids others) again) (omega arith)
      (capped-then FitsLeft (cap k) FitsNow FitsNow (from_attempt attempt (tree_count p kids)) 0 (again p kids) _ (h p kids) (λ later q. tt))

  again_capped : (now : Bool) (one : One) (again : Pending → Forest → TaskPlan Settled) (attempt most : ℕ) → count_in k.request one.left ≤ most
      → ((p : Pending) (kids : Forest) → Caps FitsNow (from_attempt attempt (tree_count p kids)) (again p kids)) → Caps FitsNow (from_attempt attempt most) (plan_again now one again)
  again_capped true one again attempt most l h = left_capped one one.left again attempt most l h
  again_capped false one again attempt most l h = tt

  settle_capped : (more attempt : ℕ) (p : Pending) (kids : Forest) → Caps FitsNow (from_attempt attempt (tree_count p kids)) (plan_settle more attempt p kids)
  settle_capped zero attempt p kids =
      (from_attempt (suc attempt) 0, now_or_later attempt k.attempt (tree_count p kids) 0 (omega arith), λ v fits. tt)
  settle_capped (suc more) attempt p kids = (
    from_attempt (suc attempt) (tree_count p kids),
    now_or_later attempt k.attempt (tree_count p kids) (tree_count p kids) (omega arith),
    λ v fits.
        subst (λ (a : ℕ). Caps FitsNow (from_attempt a (tree_count p kids)) (plan_again (now_alone (attempted v).return.bits) (attempted v) (plan_settle more (attempt + 1)))) (next attempt)
        (again_capped (now_alone (attempted v).return.bits) (attempted v) (plan_settle more (attempt + 1)) (attempt + 1) (tree_count p kids) (fits k.request)
        (λ q ks. settle_capped more (attempt + 1) q ks)),
  )
    where
      next : (n : ℕ) → n + 1 ≡ suc n
      next n = omega arith

  all_from : (b : Bool) (n : ℕ) → cond b n 0 ≤ n
  all_from true n = omega arith
  all_from false n = omega arith

  pub plans_capped : (t : Terms) (task : Task) → is_single task ≡ false → Caps (FitsLeft task) (cap k task) (plan t task)
  plans_capped t (ReadCopies repair test len places) e = idle FitsLeft (cap k) FitsNow 0 _ (only-then _ (by_leaves (block_reading t.setting repair (good_by test) len places)) (λ a. Ends (Got a)) (leaves_idle (block_reading t.setting repair (good_by test) len places)) (λ a. tt)) (λ a. tt)
  plans_capped t (WriteCopies bytes places) e = idle FitsLeft (cap k) FitsNow 0 _ (only-then _ (by_leaves (piece_writing t.setting bytes places)) (λ a. Ends (Wrote a)) (leaves_idle (piece_writing t.setting bytes places)) (λ a. tt)) (λ a. tt)
  plans_capped t (WritePart attempt p sum copies levels path bytes) e = write_capped t attempt p sum copies levels path bytes
  plans_capped t (ReadHeads look levels path bp) e = idle FitsLeft (cap k) FitsNow 0 (plan t (ReadHeads look levels path bp)) (heads_idle t look levels path bp) (λ a. tt)
  plans_capped t (ReadTree tree) e = idle FitsLeft (cap k) FitsNow 0 (plan_tree tree) (tree_idle tree) (λ a. tt)
  plans_capped t (Attempt attempt p kids) e = attempt_capped t attempt p kids
  plans_capped t (Settle p kids) e =
      let l : from_attempt 0 (tree_count p kids) ≤ tree_count p kids = all_from (from_number 0 k.attempt) (tree_count p kids) in
      capped-more FitsLeft (cap k) FitsNow (from_attempt 0 (tree_count p kids) + 0) (tree_count p kids) (plan t (Settle p kids)) (omega arith)
      (capped-then FitsLeft (cap k) FitsNow FitsNow (from_attempt 0 (tree_count p kids)) 0 (plan_settle reexecutions_max 0 p kids) _ (settle_capped reexecutions_max 0 p kids) (λ x q. tt))
  plans_capped t _ e = absurd (cc)

  -- a round may ask for a key as often as its requests have the key's number
  pub round_capped : (f : Forest) → Caps FitsNow (count_in k.request f) (plan_round f)
  round_capped NoTrees = tt
  round_capped (TreeOf p kids others) = (
    count_in k.request others,
    omega arith,
    λ v fits. capped-more FitsLeft (cap k) FitsNow (count_in k.request others + 0) (count_in k.request others) _ (omega arith)
        (capped-then FitsLeft (cap k) FitsNow FitsNow (count_in k.request others) 0 (plan_round others) _ (round_capped others) (λ o q. tt)),
  )

  -- and so may its trees as tasks
  pub settles_capped : (f : Forest) → Caps FitsNow (count_in k.request f) (plan_each (settles f))
  settles_capped NoTrees = tt
  settles_capped (TreeOf p kids others) = (
    count_in k.request others,
    omega arith,
    λ v fits. capped-more FitsLeft (cap k) FitsNow (count_in k.request others + 0) (count_in k.request others) _ (omega arith)
        (capped-then FitsLeft (cap k) FitsNow FitsNow (count_in k.request others) 0 (plan_each (settles others)) _ (settles_capped others) (λ o q. tt)),
  )
