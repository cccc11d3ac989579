-- What a group's span covers on the disks, and how long their images are.
use Rattle.std.proofs.Common.{◌≡◌, ℕ, zero, suc, ◌+◌, ◌<◌, ◌≤◌, List, [], ◌∷◌, length, map, filter, cond, get_or, Bool, true, Result, Ok, Err, OnErr, IsErrAnd, Contains, ⊎_elim, refl, sym, ap, subst, arith}
use Rattle.std.proofs.lemmas.Bool.{cases_lt}
use Rattle.std.proofs.lemmas.List.Elements.{Contains-append_right}
use Rattle.std.proofs.lemmas.Result.{err_from_is_err_and}
use Rattle.std.specs.List.{AllByRecursion}
use Rattle.zio_vqueue.specs.declared.op.Group.{Group}
use Rattle.zio_vqueue.specs.Queues.{end_of}
use Rattle.zio_vqueue.specs.Groups.{IsChain, IsRun, IsSpanOf, last_of}
use Rattle.zio_cksum.specs.Frames.{IsCovered, SameOutside}
use Rattle.zio_cksum.specs.Images.{Images, Spot, image_of}
use Rattle.zio_cksum.proofs.AllLemmas.{all_contained, all_contains}
use Rattle.zio_outside.specs.declared.written.Written.{Written}
use Rattle.zio_disks.specs.Disks.{Handles, LiesWithin, Tell}
use Rattle.zio_disks.specs.declared.setting.Stop.{Stop}
use Rattle.zio_disks.specs.declared.setting.Stop.TheVariants.{Memory}
use Rattle.zio_disks.proofs.DiskLemmas.{writes_among}
use Rattle.zio_groups.specs.declared.waiting.QueuedOp.{QueuedOp}
use Rattle.zio_groups.specs.Issued.{spot_of, written_spots}
use Rattle.zio_groups.specs.LeafQueues.{ops_of}
use Rattle.zio_groups.specs.Spans.{span_spot}

spot_first : (leaf : ℕ) (w : QueuedOp) (ws : List QueuedOp) → w.op.write ≡ true → written_spots leaf (w ∷ ws) ≡ spot_of leaf w.op ∷ written_spots leaf ws
spot_first leaf w ws e = ap (λ (b : Bool). map (λ (v : QueuedOp). spot_of leaf v.op) (cond b (w ∷ filter (λ (v : QueuedOp). v.op.write) ws) (filter (λ (v : QueuedOp). v.op.write) ws))) e

covers_here : (leaf : ℕ) (w : QueuedOp) (ws : List QueuedOp) (at : ℕ) → w.op.write ≡ true → w.op.at ≤ at → at < end_of w.op → IsCovered (written_spots leaf (w ∷ ws)) leaf at
covers_here leaf w ws at e from below = record {
  spot = spot_of leaf w.op;
  listed = subst (λ (xs : List Spot). Contains xs (spot_of leaf w.op)) (sym (spot_first leaf w ws e)) (all_contained (spot_of leaf w.op ∷ written_spots leaf ws)).0;
  same_leaf = refl;
  from = from;
  below = below;
}

covers_behind : (leaf : ℕ) (w : QueuedOp) (ws : List QueuedOp) (at : ℕ) → w.op.write ≡ true → IsCovered (written_spots leaf ws) leaf at → IsCovered (written_spots leaf (w ∷ ws)) leaf at
covers_behind leaf w ws at e c = record {
  spot = c.spot;
  listed = subst (λ (xs : List Spot). Contains xs c.spot) (sym (spot_first leaf w ws e)) (Contains-append_right (spot_of leaf w.op ∷ []) (written_spots leaf ws) c.spot c.listed);
  same_leaf = c.same_leaf;
  from = c.from;
  below = c.below;
}

chain_covers : (leaf : ℕ) (w : QueuedOp) (ws : List QueuedOp) (at : ℕ) → AllByRecursion (λ (v : QueuedOp). v.op.write ≡ true) (w ∷ ws) → IsChain 0 w.op (ops_of ws) → w.op.at ≤ at → at < end_of (last_of w.op (ops_of ws))
    → IsCovered (written_spots leaf (w ∷ ws)) leaf at
chain_covers leaf w [] at writes chain from below = covers_here leaf w [] at writes.0 from below
chain_covers leaf w (v ∷ vs) at writes chain from below =
    let step = chain.0 in
    let touch = step.1 in
    ⊎_elim
    (λ (l : at < end_of w.op). covers_here leaf w (v ∷ vs) at writes.0 from l)
    (λ (l : end_of w.op ≤ at). covers_behind leaf w (v ∷ vs) at writes.0 (chain_covers leaf v vs at writes.1 chain.1 (omega arith) below))
    (cases_lt at (end_of w.op))

span_covers : (leaf : ℕ) (group : Group) (ws : List QueuedOp) (at : ℕ) → AllByRecursion (λ (v : QueuedOp). v.op.write ≡ true) ws → IsRun 0 (ops_of ws) → IsSpanOf group (ops_of ws) → group.at ≤ at → at < group.at + group.len
    → IsCovered (written_spots leaf ws) leaf at
span_covers leaf group [] at writes run span from below = absurd span
span_covers leaf group (w ∷ ws) at writes run span from below =
    let start = span.0 in
    let end = span.1 in
    chain_covers leaf w ws at writes run.0 (omega arith) (omega arith)

-- what a spot of the span covers a spot of the writes does
span_covered : (leaf : ℕ) (group : Group) (ws : List QueuedOp) → AllByRecursion (λ (v : QueuedOp). v.op.write ≡ true) ws → IsRun 0 (ops_of ws) → IsSpanOf group (ops_of ws)
    → (l at : ℕ) → IsCovered (span_spot leaf group ∷ []) l at → IsCovered (written_spots leaf ws) l at
span_covered leaf group ws writes run span l at c =
    all_contains (λ (spot : Spot). spot.leaf ≡ l → spot.at ≤ at → at < spot.at + spot.span → IsCovered (written_spots leaf ws) l at) (span_spot leaf group ∷ []) c.spot
    ((λ e from below. subst (λ (n : ℕ). IsCovered (written_spots leaf ws) n at) e (span_covers leaf group ws at writes run span from below)), tt)
    c.listed c.same_leaf c.from c.below

-- so a range within the span lies within the writes' spots
span_within : (leaf : ℕ) (group : Group) (ws : List QueuedOp) → AllByRecursion (λ (v : QueuedOp). v.op.write ≡ true) ws → IsRun 0 (ops_of ws) → IsSpanOf group (ops_of ws)
    → (l : ℕ) (range : Written) → LiesWithin (span_spot leaf group ∷ []) l range → LiesWithin (written_spots leaf ws) l range
span_within leaf group ws writes run span l range h = λ at from below. span_covered leaf group ws writes run span l at (h at from below)

-- what is the same outside the span is the same outside the spots of the writes
span_outside : (leaf : ℕ) (group : Group) (ws : List QueuedOp) (old new : Images) → AllByRecursion (λ (v : QueuedOp). v.op.write ≡ true) ws → IsRun 0 (ops_of ws) → IsSpanOf group (ops_of ws)
    → SameOutside (span_spot leaf group ∷ []) old new → SameOutside (written_spots leaf ws) old new
span_outside leaf group ws old new writes run span h = record {
  sizes = h.sizes;
  bytes = λ l at out. h.bytes l at (λ c. out (span_covered leaf group ws writes run span l at c));
}

pub handles_span : {D A : Type 0} {bytes faults faults_at_fetch : D → ℕ} {home image : D → List ℕ → Type 0} {sound : D → Type 0} {went : List Written → D → D → Type 0} {answer : Result A Stop} {a b : List D} (leaf : ℕ) (group : Group) (ws : List QueuedOp)
    → AllByRecursion (λ (v : QueuedOp). v.op.write ≡ true) ws → IsRun 0 (ops_of ws) → IsSpanOf group (ops_of ws)
    → Handles bytes faults faults_at_fetch home image sound went (span_spot leaf group ∷ []) answer a b → Handles bytes faults faults_at_fetch home image sound went (written_spots leaf ws) answer a b
handles_span {D} {A} {bytes} {faults} {faults_at_fetch} {home} {image} {sound} {went} {answer} {a} {b} leaf group ws writes run span h = record {
  same = h.same;
  steady = h.steady;
  device = h.device;
  calm = h.calm;
  outside = λ before told.
      let o = h.outside before told in
      (o.0, o.1, span_outside leaf group ws before o.0 writes run span o.2);
  wrote = writes_among went (span_spot leaf group ∷ []) (written_spots leaf ws) a b (span_within leaf group ws writes run span) h.wrote;
}

-- the image that a disk tells has its size
pub told_size : {D : Type 0} (bytes : D → ℕ) (image : D → List ℕ → Type 0) → ((disk : D) (content : List ℕ) → image disk content → length content ≡ bytes disk)
    → (disks : List D) (images : Images) (leaf : ℕ) → Tell image disks images → length (image_of images leaf) ≡ get_or (map bytes disks) leaf 0
told_size bytes image sized [] [] leaf told = refl
told_size bytes image sized [] (content ∷ images) leaf told = absurd told
told_size bytes image sized (disk ∷ disks) [] leaf told = absurd told
told_size bytes image sized (disk ∷ disks) (content ∷ images) zero told = sized disk content told.0
told_size bytes image sized (disk ∷ disks) (content ∷ images) (suc leaf) told = told_size bytes image sized disks images leaf told.1

-- ---- stops

on_err : {A E : Type 0} {P : Type 0} (r : Result A E) → P → OnErr r P
on_err (Ok x) h = tt
on_err (Err e) h = h

-- want of memory that is passed on
pub memory_on : {A B : Type 0} (answer : Result B Stop) (stop : Stop) → IsErrAnd answer (λ s. s ≡ stop) → ◌≡◌ {A = Result A Stop} (Err stop) (Err Memory) → OnErr answer (answer ≡ Err Memory)
memory_on {A} {B} answer stop is e =
    let p = err_from_is_err_and answer is in
    let q = p.1 in
    let r = p.2 in
    let all : answer ≡ Err Memory = cc in
    on_err answer all
