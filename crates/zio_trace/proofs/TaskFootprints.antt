-- Each task's plan stays within what the task may do, whatever fitting answers come, and its own answer fits.
use Rattle.std.proofs.Common.{◌≡◌, ℕ, zero, suc, ◌+◌, List, [], ◌∷◌, ◌++◌, length, Bool, true, false, nat_le, Option, Some, None, Ok, Err, IfOk, IsTrue, Contains, refl, sym, ap, ◌∙◌, subst, append_assoc, append-nil}
use Rattle.std.specs.List.{AllByRecursion, list_all}
use Rattle.std.proofs.lemmas.Bool.{and_parts}
use Rattle.std.proofs.lemmas.List.{map-append}
use Rattle.std.proofs.lemmas.List.Elements.{Contains-append_left, Contains-append_right}
use Rattle.std.proofs.lemmas.Slice.Eq.{bytes_eq-Decides}
use Rattle.zio_types.specs.declared.error.Errno.{Errno}
use Rattle.zio_types.specs.declared.place.Place.{Place}
use Rattle.zio_types.specs.Choices.{Ask, Choice}
use Rattle.zio_types.specs.Places.{is_inside, sector_size}
use Rattle.zio_blkptr.specs.declared.pointer.Bp.{Bp}
use Rattle.zio_blkptr.specs.declared.pointer.SumKind.{SumKind}
use Rattle.zio_blkptr.specs.Pointers.{places_of}
use Rattle.zio_cksum.specs.Frames.{spots_of}
use Rattle.zio_cksum.specs.Headers.{split_sizes, members_of}
use Rattle.zio_cksum.specs.Blocks.{good_kept}
use Rattle.zio_cksum.specs.Images.{Spot}
use Rattle.zio_cksum.proofs.AllLemmas.{all_append, all_weaker}
use Rattle.zio_gang.specs.declared.tree.Head.{Head}
use Rattle.zio_gang.specs.declared.tree.Tree.{Tree}
use Rattle.zio_gang.specs.Attempts.{Terms, Pending, writing_of}
use Rattle.zio_gang.specs.Pieces.{members_kept}
use Rattle.zio_gang.specs.Trees.{inval_unless, is_claimable, kept_at, piece_size, sizes_of}
use Rattle.zio_gang.specs.Writes.{Writing, chosen, body_ask, head_ask, cut}
use Rattle.zio_trace.specs.BlockCopies.{Copies, Groups, below_copies, body_copies, copies_from, copies_of, groups_if, groups_of, groups_of_members, head_copies, no_groups}
use Rattle.zio_trace.specs.CopyPrograms.{block_reading, piece_writing}
use Rattle.zio_trace.specs.Footprints.{FindsBodies, Stays, FitsTask, Within, WithinBy, OnCopies, OnOneOf, OnSpots, IsOfPart, OfPart, ReadsAlone, ReadsHeader}
use Rattle.zio_trace.specs.Leaves.{LeafOp, Answer, IsAmong}
use Rattle.zio_trace.specs.Plans.{TaskPlan, by_leaves, plan_members, plan_gang, plan_gang_unless, plan_body, plan_part, plan_write, join_walked, plan_below, plan_found, plan_pointer, plan_bodies, plan_after, plan_tree, header_over, plan}
use Rattle.zio_trace.specs.Programs.{Program as ProgramOf, Ends, Asks, ask}
use Rattle.zio_trace.specs.Tasks.{Test, good_by, Task, Leaf, Find, ReadCopies, WriteCopies, WritePart, ReadHeads, Value, StoredAs, Walked, ByKept, ByClaim, nowhere, got, found, walked}
use Rattle.zio_trace.proofs.FootprintLemmas.{stays-then, read_stays, write_stays, Anything, ReadsOn}
use Rattle.zio_trace.proofs.ListLemmas.{contains_first, contains_later}

-- ---- copies

leaves_stay : {A : Type 0} (j : List Choice) (t : Terms) (P : Task → Type 0) (R : LeafOp → Type 0) (Q : A → Type 0) (p : ProgramOf LeafOp Answer A) → ((a : LeafOp) → R a → P (Leaf a)) → Stays Anything R Q p → Stays (FitsTask j t) P Q (by_leaves p)
leaves_stay j t P R Q (Ends a) f h = h
leaves_stay j t P R Q (Asks act more) f h = (f act h.0, λ v fits. leaves_stay j t P R Q (more (got v)) f (h.1 (got v) tt))

on_spots : (spots : List Spot) (len : ℕ) (a : LeafOp) → IsAmong spots len a → (d : Task) → Leaf a ≡ d → OnSpots spots len d
on_spots spots len a h d is = subst (OnSpots spots len) is h

reads_on : (spots : List Spot) (len : ℕ) (repair : Bool) (a : LeafOp) → ReadsOn spots len repair a → (d : Task) → Leaf a ≡ d → OnSpots spots len d × (repair ≡ false → ReadsAlone d)
reads_on spots len repair a h d is = (subst (OnSpots spots len) is h.0, λ e. subst ReadsAlone is (h.1 e))

-- what a read of copies comes to, whatever whole reads may do
abbrev pub ReadsOnly : (Copies → Task → Type 0) → List Choice → Terms → Bool → Copies → Task → Type 0
ReadsOnly R j t repair c q = (d : Task) → WithinBy R j t q d → OnSpots (spots_of t.setting c.places) c.len d × (repair ≡ false → ReadsAlone d)

copies_stay : (R : Copies → Task → Type 0) (j : List Choice) (t : Terms) (repair : Bool) (c : Copies) →
    Stays (FitsTask j t) (ReadsOnly R j t repair c) (FitsTask j t (ReadCopies repair c.test c.len c.places)) (plan t (ReadCopies repair c.test c.len c.places))
copies_stay R j t repair c =
    stays-then (FitsTask j t) (ReadsOnly R j t repair c) (λ (a : Answer). IfOk a (λ bytes. IsTrue (good_by c.test bytes))) (FitsTask j t (ReadCopies repair c.test c.len c.places))
    (by_leaves (block_reading t.setting repair (good_by c.test) c.len c.places)) _
    (leaves_stay j t _ (ReadsOn (spots_of t.setting c.places) c.len repair) _ (block_reading t.setting repair (good_by c.test) c.len c.places)
    (λ a h. reads_on (spots_of t.setting c.places) c.len repair a h) (read_stays t.setting repair (good_by c.test) c.len c.places))
    (λ a fit. fit)

pub stays_wider : {A : Type 0} (j : List Choice) (t : Terms) (P R : Task → Type 0) (Q S : A → Type 0) (x : TaskPlan A) → ((q : Task) → P q → R q) → ((a : A) → Q a → S a) → Stays (FitsTask j t) P Q x → Stays (FitsTask j t) R S x
stays_wider j t P R Q S (Ends a) f g h = g a h
stays_wider j t P R Q S (Asks op more) f g h = (f op h.0, λ v fits. stays_wider j t P R Q S (more v) f g (h.1 v fits))

pub read_alone_stays : (R : Copies → Task → Type 0) (j : List Choice) (t : Terms) (test : Test) (len : ℕ) (places : List Place) →
    Stays (FitsTask j t) (λ (q : Task). (d : Task) → WithinBy R j t q d → WithinBy R j t (ReadCopies false test len places) d) (FitsTask j t (ReadCopies false test len places)) (plan t (ReadCopies false test len places))
read_alone_stays R j t test len places =
    let c : Copies = record { test = test; len = len; places = places } in
    let Q : Value → Type 0 = FitsTask j t (ReadCopies false test len places) in
    stays_wider j t (ReadsOnly R j t false c) _ Q Q (plan t (ReadCopies false test len places)) (λ q f d may. ((f d may).0, (f d may).1 refl)) (λ v k. k) (copies_stay R j t false c)

pub read_copies_stay : (j : List Choice) (t : Terms) (test : Test) (len : ℕ) (places : List Place) →
    Stays (FitsTask j t) (λ (q : Task). (d : Task) → Within j t q d → Within j t (ReadCopies true test len places) d) (FitsTask j t (ReadCopies true test len places)) (plan t (ReadCopies true test len places))
read_copies_stay j t test len places =
    let c : Copies = record { test = test; len = len; places = places } in
    let Q : Value → Type 0 = FitsTask j t (ReadCopies true test len places) in
    stays_wider j t (ReadsOnly (OnCopies t.setting) j t true c) _ Q Q (plan t (ReadCopies true test len places)) (λ q f d may. (f d may).0) (λ v k. k) (copies_stay (OnCopies t.setting) j t true c)

pub write_copies_stay : (R : Copies → Task → Type 0) (j : List Choice) (t : Terms) (bytes : List ℕ) (places : List Place) →
    Stays (FitsTask j t) (λ (q : Task). (d : Task) → WithinBy R j t q d → WithinBy R j t (WriteCopies bytes places) d) (FitsTask j t (WriteCopies bytes places)) (plan t (WriteCopies bytes places))
write_copies_stay R j t bytes places =
    stays-then (FitsTask j t) (λ (q : Task). (d : Task) → WithinBy R j t q d → WithinBy R j t (WriteCopies bytes places) d) (λ (e : Option Errno). Unit {0}) (FitsTask j t (WriteCopies bytes places))
    (by_leaves (piece_writing t.setting bytes places)) _
    (leaves_stay j t _ (IsAmong (spots_of t.setting places) 0) _ (piece_writing t.setting bytes places)
    (λ a h. on_spots (spots_of t.setting places) 0 a h) (write_stays t.setting bytes places))
    (λ e fit. tt)

-- ---- a part that is written

longer : (round request attempt : ℕ) (path : List ℕ) (n : ℕ) (a : Ask) → IsOfPart round request attempt (path ++ n ∷ []) a → IsOfPart round request attempt path a
longer round request attempt path n a h = record { now = h.now; by = h.by; during = h.during; below = n ∷ h.below; at = h.at ∙ append_assoc path (n ∷ []) h.below }

module _ (R : Copies → Task → Type 0) (j : List Choice) (t : Terms) (attempt : ℕ) (p : Pending) (sum : SumKind) (copies : ℕ) where
  abbrev wr : Writing
  wr = writing_of t attempt p sum copies

  abbrev May : List ℕ → Task → Type 0
  May path q = (d : Task) → WithinBy R j t q d → OfPart j t p.request.number attempt path d

  abbrev PartStays : {A : Type 0} → List ℕ → TaskPlan A → Type 0
  PartStays path x = Stays (FitsTask j t) (May path) (λ a. Unit {0}) x

  below_part : (path : List ℕ) (n : ℕ) (d : Task) → OfPart j t p.request.number attempt (path ++ n ∷ []) d → OfPart j t p.request.number attempt path d
  below_part path n (Leaf act) h = (h.0, h.1, longer t.round p.request.number attempt path n h.0 h.2, h.3, h.4)
  below_part path n (Find a) h = longer t.round p.request.number attempt path n a h
  below_part path n _ h = absurd h

  own_ask : (path : List ℕ) (a : Ask) → a.key.round ≡ t.round → a.key.request ≡ p.request.number → a.key.attempt ≡ attempt → a.key.path ≡ path → IsOfPart t.round p.request.number attempt path a
  own_ask path a now r k e = record { now = now; by = r; during = k; below = []; at = e ∙ sym (append-nil path) }

  asks_own : (path : List ℕ) (a : Ask) → IsOfPart t.round p.request.number attempt path a → May path (Find a)
  asks_own path a h d is = subst (OfPart j t p.request.number attempt path) is h

  writes_own : (path : List ℕ) (a : Ask) (places : List Place) (bytes : List ℕ) → IsOfPart t.round p.request.number attempt path a → chosen j a ≡ Some places → May path (WriteCopies bytes places)
  writes_own path a places bytes h is (Leaf act) among = (a, places, h, is, among)
  writes_own path a places bytes h is _ among = absurd among

  abbrev Below : (List ℕ → List ℕ → TaskPlan Value) → Type 0
  Below below = (path part : List ℕ) → PartStays path (below path part)

  weaker : {A : Type 0} (path : List ℕ) (n : ℕ) (x : TaskPlan A) → PartStays (path ++ n ∷ []) x → PartStays path x
  weaker path n (Ends a) h = tt
  weaker path n (Asks op more) h = ((λ d may. below_part path n d (h.0 d may)), λ v fits. weaker path n (more v) (h.1 v fits))

  members_stay : (below : List ℕ → List ℕ → TaskPlan Value) → Below below → (path : List ℕ) (n : ℕ) (bits : List (List ℕ)) → PartStays path (plan_members below path n bits)
  members_stay below h path n [] = tt
  members_stay below h path n (part ∷ bits) =
      stays-then (FitsTask j t) (May path) (λ v. Unit {0}) (λ v. Unit {0}) (below (path ++ n ∷ []) part) _ (weaker path n (below (path ++ n ∷ []) part) (h (path ++ n ∷ []) part))
      (λ v k. stays-then (FitsTask j t) (May path) (λ o. Unit {0}) (λ o. Unit {0}) (plan_members below path (n + 1) bits) _ (members_stay below h path (n + 1) bits) (λ o m. tt))

  gang_stays : (below : List ℕ → List ℕ → TaskPlan Value) → Below below → (path bytes : List ℕ) (places : Option (List Place)) → places ≡ chosen j (head_ask wr path) → PartStays path (plan_gang places wr below path bytes)
  gang_stays below h path bytes None is = tt
  gang_stays below h path bytes (Some places) is =
      stays-then (FitsTask j t) (May path) (λ m. Unit {0}) (λ v. Unit {0}) (plan_members below path 0 (cut (split_sizes (length bytes)) bytes)) _ (members_stay below h path 0 (cut (split_sizes (length bytes)) bytes))
      (λ m k. (writes_own path (head_ask wr path) places (header_over wr places m) (own_ask path (head_ask wr path) refl refl refl refl) (sym is), λ v fits. tt))

  unless_stays : (below : List ℕ → List ℕ → TaskPlan Value) → Below below → (path bytes : List ℕ) (one : Bool) → PartStays path (plan_gang_unless one wr below path bytes)
  unless_stays below h path bytes true = tt
  unless_stays below h path bytes false =
      (asks_own path (head_ask wr path) (own_ask path (head_ask wr path) refl refl refl refl), λ v fits. gang_stays below h path bytes (found v) fits)

  body_stays : (below : List ℕ → List ℕ → TaskPlan Value) → Below below → (path bytes : List ℕ) (places : Option (List Place)) → places ≡ chosen j (body_ask wr path bytes) → PartStays path (plan_body places wr below path bytes)
  body_stays below h path bytes (Some places) is =
      (writes_own path (body_ask wr path bytes) places bytes (own_ask path (body_ask wr path bytes) refl refl refl refl) (sym is), λ v fits. tt)
  body_stays below h path bytes None is = unless_stays below h path bytes (nat_le (length bytes) sector_size)

  part_stays : (below : List ℕ → List ℕ → TaskPlan Value) → Below below → (path bytes : List ℕ) → PartStays path (plan_part wr below path bytes)
  part_stays below h path bytes =
      (asks_own path (body_ask wr path bytes) (own_ask path (body_ask wr path bytes) refl refl refl refl), λ v fits. body_stays below h path bytes (found v) fits)

  pub write_part_stays : (levels : ℕ) (path bytes : List ℕ) → PartStays path (plan_write t attempt p sum copies levels path bytes)
  write_part_stays zero path bytes = part_stays (λ below part. Ends (StoredAs nowhere)) (λ below part. tt) path bytes
  write_part_stays (suc levels) path bytes =
      part_stays (λ below part. ask (WritePart attempt p sum copies levels below part)) (λ below part. ((λ d may. may), λ v fits. tt)) path bytes

-- ---- headers that are read

pub on_more : (R : Copies → Task → Type 0) (xs ys : List Copies) → ((c : Copies) → Contains xs c → Contains ys c) → (d : Task) → OnOneOf R xs d → OnOneOf R ys d
on_more R xs ys f d h = (h.0, f h.0 h.1, h.2)

front_none : {X : Type 0} (xs ys : List X) → xs ++ ys ≡ [] → xs ≡ []
front_none [] ys e = refl
front_none (x ∷ xs) ys e = absurd (cc)

rest_none : {X : Type 0} (xs ys : List X) → xs ++ ys ≡ [] → ys ≡ []
rest_none [] ys e = e
rest_none (x ∷ xs) ys e = absurd (cc)

-- the bodies of two walks
joined_bodies : (xs ys : List Copies) (v w : Walked) → FindsBodies xs v → FindsBodies ys w → FindsBodies (xs ++ ys) (join_walked v w)
joined_bodies xs ys v w h k = (
  all_append (λ (b : Bp). Contains (xs ++ ys) (body_copies b)) v.bodies w.bodies
      (all_weaker (λ (b : Bp). Contains xs (body_copies b)) _ v.bodies (λ b c. Contains-append_left xs ys (body_copies b) c) h.0)
      (all_weaker (λ (b : Bp). Contains ys (body_copies b)) _ w.bodies (λ b c. Contains-append_right xs ys (body_copies b) c) k.0),
  λ none. map-append body_copies v.bodies w.bodies
      ∙ (λ i. (h.1 (front_none v.errors w.errors none)) i ++ (k.1 (rest_none v.errors w.errors none)) i),
)

module _ (R : Copies → Task → Type 0) (j : List Choice) (t : Terms) where
  -- what a walk over kept headers may do, and what it comes to
  abbrev WalkStays : {A : Type 0} → Groups → (A → Walked) → TaskPlan A → Type 0
  WalkStays {A} groups walk x =
      Stays (FitsTask j t) (λ (q : Task). (d : Task) → WithinBy R j t q d → OnOneOf R groups.heads d) (λ (a : A). FindsBodies groups.bodies (walk a)) x

  below_stays : (heads : List Head) (levels : ℕ) (path : List ℕ) (n : ℕ) (ms : List Bp) →
      WalkStays (groups_of_members (copies_from levels heads) path n ms) (λ (w : Walked). w) (plan_below (ReadHeads (ByKept heads) levels) path n ms)
  below_stays heads levels path n [] = (tt, λ none. refl)
  below_stays heads levels path n (m ∷ ms) =
      let one : Groups = copies_from levels heads (path ++ n ∷ []) m in
      let rest : Groups = groups_of_members (copies_from levels heads) path (n + 1) ms in (
        (λ d may. on_more R one.heads (one.heads ++ rest.heads) (λ x c. Contains-append_left one.heads rest.heads x c) d may),
        λ v fits. stays-then (FitsTask j t) _ (FindsBodies rest.bodies) _ (plan_below (ReadHeads (ByKept heads) levels) path (n + 1) ms) _
            (stays_wider j t (λ (q : Task). (d : Task) → WithinBy R j t q d → OnOneOf R rest.heads d) _ (FindsBodies rest.bodies) (FindsBodies rest.bodies)
            (plan_below (ReadHeads (ByKept heads) levels) path (n + 1) ms)
            (λ q f d may. on_more R rest.heads (one.heads ++ rest.heads) (λ x c. Contains-append_right one.heads rest.heads x c) d (f d may)) (λ w k. k)
            (below_stays heads levels path (n + 1) ms))
            (λ others k. joined_bodies one.bodies rest.bodies (walked v) others fits k),
      )

  kept_is : (kept : Option (List ℕ)) (bytes : List ℕ) → IsTrue (good_kept kept bytes) → kept ≡ Some bytes
  kept_is None bytes h = let no : ⊥ = cc in absurd no
  kept_is (Some k) bytes h = ap (λ x. Some x) ((bytes_eq-Decides k bytes).0 h)

  found_stays : (heads : List Head) (levels : ℕ) (path : List ℕ) (bp : Bp) (kept : Option (List ℕ)) (answer : Answer) → IfOk answer (λ bytes. IsTrue (good_kept kept bytes)) →
      WalkStays (below_copies (head_copies heads path bp) (groups_of_members (copies_from levels heads) path 0 (members_kept kept))) walked (plan_found (ReadHeads (ByKept heads) levels) path answer)
  found_stays heads levels path bp kept (Err e) fits = (tt, λ none. absurd (cc))
  found_stays heads levels path bp kept (Ok bytes) fits =
      let head : Copies = head_copies heads path bp in
      subst (λ (k : Option (List ℕ)). WalkStays (below_copies head (groups_of_members (copies_from levels heads) path 0 (members_kept k))) walked (plan_found (ReadHeads (ByKept heads) levels) path (Ok bytes))) (sym (kept_is kept bytes fits))
      (let groups : Groups = groups_of_members (copies_from levels heads) path 0 (members_of bytes) in
      stays-then (FitsTask j t) _ (FindsBodies groups.bodies) _ (plan_below (ReadHeads (ByKept heads) levels) path 0 (members_of bytes)) _
      (stays_wider j t (λ (q : Task). (d : Task) → WithinBy R j t q d → OnOneOf R groups.heads d) _ (FindsBodies groups.bodies) (FindsBodies groups.bodies)
      (plan_below (ReadHeads (ByKept heads) levels) path 0 (members_of bytes))
      (λ q f d may. on_more R groups.heads (head ∷ groups.heads) (λ x c. contains_later head groups.heads x c) d (f d may)) (λ w k. k)
      (below_stays heads levels path 0 (members_of bytes)))
      (λ w k. k))

  pointer_stays : (e : Option Errno) (gang : Bool) (bp : Bp) (follow : TaskPlan Value) (groups : Groups) → WalkStays groups walked follow → WalkStays (groups_if gang bp groups) walked (plan_pointer e gang bp follow)
  pointer_stays (Some e) gang bp follow groups h = (tt, λ none. absurd (cc))
  pointer_stays None false bp follow groups h = ((contains_first (body_copies bp) [], tt), λ none. refl)
  pointer_stays None true bp follow groups h = h

  pub kept_heads_stay : (heads : List Head) (levels : ℕ) (path : List ℕ) (bp : Bp) →
      WalkStays (copies_from levels heads path bp) walked (plan t (ReadHeads (ByKept heads) levels path bp))
  unfolding copies_from
  kept_heads_stay heads zero path bp = pointer_stays None bp.gang bp _ no_groups (tt, λ none. absurd (cc))
  kept_heads_stay heads (suc levels) path bp =
      let head : Copies = head_copies heads path bp in
      let below : Groups = groups_of_members (copies_from levels heads) path 0 (members_kept (kept_at heads path)) in
      pointer_stays None bp.gang bp _ (below_copies head below) (
        (λ d may. (head, contains_first head below.heads, may)),
        λ v fits. found_stays heads levels path bp (kept_at heads path) (got v) fits,
      )

  -- ---- and a claim's

  abbrev ReadsHeaders : {A : Type 0} → TaskPlan A → Type 0
  ReadsHeaders x = Stays (FitsTask j t) (λ (q : Task). (d : Task) → WithinBy R j t q d → ReadsHeader t.setting d) (λ a. Unit {0}) x

  below_reads : (levels : ℕ) (path : List ℕ) (n : ℕ) (ms : List Bp) → ReadsHeaders (plan_below (ReadHeads ByClaim levels) path n ms)
  below_reads levels path n [] = tt
  below_reads levels path n (m ∷ ms) =
      ((λ d may. may), λ v fits. stays-then (FitsTask j t) _ (λ w. Unit {0}) _ (plan_below (ReadHeads ByClaim levels) path (n + 1) ms) _ (below_reads levels path (n + 1) ms) (λ others k. tt))

  found_reads : (levels : ℕ) (path : List ℕ) (answer : Answer) → ReadsHeaders (plan_found (ReadHeads ByClaim levels) path answer)
  found_reads levels path (Err e) = tt
  found_reads levels path (Ok bytes) =
      stays-then (FitsTask j t) _ (λ w. Unit {0}) _ (plan_below (ReadHeads ByClaim levels) path 0 (members_of bytes)) _ (below_reads levels path 0 (members_of bytes)) (λ w k. tt)

  -- only below a pointer without an error something is read
  pointer_reads : (e : Option Errno) (gang : Bool) (bp : Bp) (follow : TaskPlan Value) → (e ≡ None → ReadsHeaders follow) → ReadsHeaders (plan_pointer e gang bp follow)
  pointer_reads (Some e) gang bp follow h = tt
  pointer_reads None false bp follow h = tt
  pointer_reads None true bp follow h = h refl

  claimable_inside : (size : ℕ) (ps : List Place) → list_all (is_claimable (sizes_of t.setting.tops) size) ps ≡ true → AllByRecursion (λ (p : Place). IsTrue (is_inside (sizes_of t.setting.tops) p)) ps
  claimable_inside size [] h = tt
  claimable_inside size (p ∷ ps) h =
      let both = and_parts (is_claimable (sizes_of t.setting.tops) size p) _ h in
      ((and_parts (is_inside (sizes_of t.setting.tops) p) _ both.0).0, claimable_inside size ps both.1)

  inval_none : (b : Bool) → inval_unless b ≡ None → b ≡ true
  inval_none true e = refl
  inval_none false e = absurd (cc)

  header_read : (bp : Bp) (d : Task) → inval_unless (list_all (is_claimable (sizes_of t.setting.tops) (piece_size bp)) (places_of bp)) ≡ None → OnSpots (spots_of t.setting (places_of bp)) sector_size d → ReadsAlone d → ReadsHeader t.setting d
  header_read bp (Leaf op) e on reads =
      (reads, (places_of bp, claimable_inside (piece_size bp) (places_of bp) (inval_none (list_all (is_claimable (sizes_of t.setting.tops) (piece_size bp)) (places_of bp)) e), on))
  header_read bp _ e on reads = absurd reads

  pub claimed_heads_stay : (levels : ℕ) (path : List ℕ) (bp : Bp) → ReadsHeaders (plan t (ReadHeads ByClaim levels path bp))
  claimed_heads_stay zero path bp = pointer_reads _ bp.gang bp _ (λ e. tt)
  claimed_heads_stay (suc levels) path bp =
      pointer_reads _ bp.gang bp _ (λ e. ((λ d may. header_read bp d e may.0 may.1), λ v fits. found_reads levels path (got v)))

  -- ---- a tree that is read

  -- the bodies of some pointers whose group are among these
  bodies_stay : (group : List Copies) (bps : List Bp) → AllByRecursion (λ (b : Bp). Contains group (body_copies b)) bps →
      Stays (FitsTask j t) (λ (q : Task). (d : Task) → WithinBy R j t q d → OnOneOf R group d) (λ b. Unit {0}) (plan_bodies bps)
  bodies_stay group [] h = tt
  bodies_stay group (bp ∷ bps) h = (
    (λ d may. (body_copies bp, h.0, may)),
    λ v fits. stays-then (FitsTask j t) _ (λ b. Unit {0}) _ (plan_bodies bps) _ (bodies_stay group bps h.1) (λ others k. tt),
  )

  after_stays : (group : List Copies) (errors : List (Option Errno)) (bps : List Bp) → AllByRecursion (λ (b : Bp). Contains group (body_copies b)) bps →
      Stays (FitsTask j t) (λ (q : Task). (d : Task) → WithinBy R j t q d → OnOneOf R group d) (λ b. Unit {0}) (plan_after errors bps)
  after_stays group [] bps h = stays-then (FitsTask j t) _ (λ b. Unit {0}) _ (plan_bodies bps) _ (bodies_stay group bps h) (λ b k. tt)
  after_stays group (e ∷ errors) bps h = tt

  pub tree_stays : (tree : Tree) → Stays (FitsTask j t) (λ (q : Task). (d : Task) → WithinBy R j t q d → OnOneOf R (copies_of tree) d) (λ v. Unit {0}) (plan_tree tree)
  tree_stays tree =
      let groups : Groups = groups_of tree in (
        (λ d may. on_more R groups.heads (copies_of tree) (λ x c. Contains-append_left groups.heads groups.bodies x c) d may),
        λ v fits. after_stays (copies_of tree) (walked v).errors (walked v).bodies
            (all_weaker (λ (b : Bp). Contains groups.bodies (body_copies b)) _ (walked v).bodies (λ b c. Contains-append_right groups.heads groups.bodies (body_copies b) c) fits.0),
      )
