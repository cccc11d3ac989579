-- What goes again of a tree is a tree.
use Rattle.std.proofs.Common.{◌≡◌, ℕ, zero, suc, ◌+◌, ◌≤◌, List, [], ◌∷◌, ◌++◌, length, take, drop, reverse, cond, Bool, true, false, Some, refl, sym, ap, ◌∙◌, subst, arith, length-append}
use Rattle.std.specs.Prelude.{IfSome, is_some}
use Rattle.std.specs.List.{AllByRecursion}
use Rattle.std.proofs.lemmas.List.{append-nil, reverse-append, map-append, take-append-drop}
use Rattle.std.proofs.lemmas.List.Sums.{sum_by-cons}
use Rattle.zio_cksum.proofs.AllLemmas.{all_append}
use Rattle.zio_blkptr.specs.declared.pointer.TheConstants.{BLOCK_SIZE_MAX}
use Rattle.zio_script.specs.declared.script.Request.{Request}
use Rattle.zio_script.specs.Accepted.{IsInRange}
use Rattle.zio_script.specs.Requests.{needs_block}
use Rattle.zio_script.specs.Whys.{size_with}
use Rattle.zio_disks.specs.Whole.{IsWholeTree}
use Rattle.zio_gang.specs.Attempts.{has_bits}
use Rattle.zio_course.specs.Runners.{AreRisingFrom, numbers_of}
use Rattle.zio_plain.specs.declared.waiting.Handed.{Handed}
use Rattle.zio_plain.specs.declared.waiting.Waiting.{Waiting}
use Rattle.zio_plain.specs.Judgments.{again_in, children_handed}
use Rattle.zio_plain.specs.Passes.{AllEnd, IsAgainOf}
use Rattle.zio_plain.specs.Posts.{AreBehindChildren, AreHandedBy, IsOneTree, IsOver, IsSound, children_in, met_after, requests_in}
use Rattle.zio_plain.specs.Waits.{HasPointer, numbers_in}
use Rattle.zio_plain.proofs.PostLemmas.{behind_then, met_then}

-- what was handed on, the last first, by these requests
abbrev pub IsStack : List Handed → List Waiting → Type 0
IsStack [] [] = Unit {0}
IsStack [] (m ∷ ms) = ⊥
IsStack (h ∷ hs) [] = ⊥
IsStack (h ∷ hs) (m ∷ ms) = (h.child.number ≡ m.request.number) × (h.under ≡ m.request.under) × HasPointer h.child × IsStack hs ms

-- those of the requests that go again
abbrev pub still_if : Bool → Waiting → List Waiting → List Waiting
still_if true m ms = m ∷ ms
still_if false m ms = ms

abbrev pub still : List Handed → List Waiting → List Waiting
still [] ms = []
still (h ∷ hs) [] = []
still (h ∷ hs) (m ∷ ms) = still_if (has_bits h.bits) m (still hs ms)

pub stack_handed : (hs : List Handed) (ms : List Waiting) → IsStack hs ms → AreHandedBy hs ms
stack_handed [] [] s = tt
stack_handed [] (m ∷ ms) s = absurd s
stack_handed (h ∷ hs) [] s = absurd s
stack_handed (h ∷ hs) (m ∷ ms) s = (s.1, stack_handed hs ms s.3)

pub stack_length : (hs : List Handed) (ms : List Waiting) → IsStack hs ms → length hs ≡ length ms
stack_length [] [] s = refl
stack_length [] (m ∷ ms) s = absurd s
stack_length (h ∷ hs) [] s = absurd s
stack_length (h ∷ hs) (m ∷ ms) s = ap suc (stack_length hs ms s.3)

pub stack_drop : (n : ℕ) (hs : List Handed) (ms : List Waiting) → IsStack hs ms → IsStack (drop n hs) (drop n ms)
stack_drop zero hs ms s = s
stack_drop (suc n) [] [] s = tt
stack_drop (suc n) [] (m ∷ ms) s = absurd s
stack_drop (suc n) (h ∷ hs) [] s = absurd s
stack_drop (suc n) (h ∷ hs) (m ∷ ms) s = stack_drop n hs ms s.3

pub stack_take : (n : ℕ) (hs : List Handed) (ms : List Waiting) → IsStack hs ms → IsStack (take n hs) (take n ms)
stack_take zero hs ms s = tt
stack_take (suc n) [] [] s = tt
stack_take (suc n) [] (m ∷ ms) s = absurd s
stack_take (suc n) (h ∷ hs) [] s = absurd s
stack_take (suc n) (h ∷ hs) (m ∷ ms) s = (s.0, s.1, s.2, stack_take n hs ms s.3)

pub stack_append : (hs gs : List Handed) (ms ns : List Waiting) → IsStack hs ms → IsStack gs ns → IsStack (hs ++ gs) (ms ++ ns)
stack_append [] gs [] ns s r = r
stack_append [] gs (m ∷ ms) ns s r = absurd s
stack_append (h ∷ hs) gs [] ns s r = absurd s
stack_append (h ∷ hs) gs (m ∷ ms) ns s r = (s.0, s.1, s.2, stack_append hs gs ms ns s.3 r)

pub stack_turned : (hs : List Handed) (ms : List Waiting) → IsStack hs ms → IsStack (reverse hs) (reverse ms)
stack_turned [] [] s = tt
stack_turned [] (m ∷ ms) s = absurd s
stack_turned (h ∷ hs) [] s = absurd s
stack_turned (h ∷ hs) (m ∷ ms) s =
    subst (λ gs. IsStack gs (reverse (m ∷ ms))) (sym (reverse-append (h ∷ []) hs))
    (subst (λ ns. IsStack (reverse hs ++ h ∷ []) ns) (sym (reverse-append (m ∷ []) ms))
    (stack_append (reverse hs) (h ∷ []) (reverse ms) (m ∷ []) (stack_turned hs ms s.3) (s.0, s.1, s.2, tt)))

pub stack_pointers : (hs : List Handed) (ms : List Waiting) → IsStack hs ms → AllByRecursion (λ (h : Handed). HasPointer h.child) hs
stack_pointers [] ms s = tt
stack_pointers (h ∷ hs) [] s = absurd s
stack_pointers (h ∷ hs) (m ∷ ms) s = (s.2, stack_pointers hs ms s.3)

pub stack_numbers : (hs : List Handed) (ms : List Waiting) → IsStack hs ms → numbers_in (children_handed hs) ≡ numbers_of (requests_in ms)
stack_numbers [] [] s = refl
stack_numbers [] (m ∷ ms) s = absurd s
stack_numbers (h ∷ hs) [] s = absurd s
stack_numbers (h ∷ hs) (m ∷ ms) s = ap (λ n. n ∷ numbers_in (children_handed hs)) s.0 ∙ ap (λ ns. m.request.number ∷ ns) (stack_numbers hs ms s.3)

-- ---- those that go again

still_append_if : (b : Bool) (m : Waiting) (xs ys : List Waiting) → still_if b m (xs ++ ys) ≡ still_if b m xs ++ ys
still_append_if true m xs ys = refl
still_append_if false m xs ys = refl

pub still_append : (hs gs : List Handed) (ms ns : List Waiting) → IsStack hs ms → still (hs ++ gs) (ms ++ ns) ≡ still hs ms ++ still gs ns
still_append [] gs [] ns s = refl
still_append [] gs (m ∷ ms) ns s = absurd s
still_append (h ∷ hs) gs [] ns s = absurd s
still_append (h ∷ hs) gs (m ∷ ms) ns s =
    ap (still_if (has_bits h.bits) m) (still_append hs gs ms ns s.3) ∙ still_append_if (has_bits h.bits) m (still hs ms) (still gs ns)

-- by the requests on top and those below
pub still_split : (k : ℕ) (hs : List Handed) (ms : List Waiting) → IsStack hs ms → still hs ms ≡ still (take k hs) (take k ms) ++ still (drop k hs) (drop k ms)
still_split k hs ms s =
    ap (λ gs. still gs ms) (sym (take-append-drop k hs)) ∙ ap (still (take k hs ++ drop k hs)) (sym (take-append-drop k ms))
    ∙ still_append (take k hs) (drop k hs) (take k ms) (drop k ms) (stack_take k hs ms s)

still_turned_if : (b : Bool) (h : Handed) (m : Waiting) (ms : List Waiting) → has_bits h.bits ≡ b → reverse (still_if b m ms) ≡ reverse ms ++ still (h ∷ []) (m ∷ [])
still_turned_if true h m ms e = reverse-append (m ∷ []) ms ∙ ap (λ b. reverse ms ++ still_if b m []) (sym e)
still_turned_if false h m ms e = sym (append-nil (reverse ms)) ∙ ap (λ b. reverse ms ++ still_if b m []) (sym e)

pub still_turned : (hs : List Handed) (ms : List Waiting) → IsStack hs ms → reverse (still hs ms) ≡ still (reverse hs) (reverse ms)
still_turned [] [] s = refl
still_turned [] (m ∷ ms) s = absurd s
still_turned (h ∷ hs) [] s = absurd s
still_turned (h ∷ hs) (m ∷ ms) s =
    still_turned_if (has_bits h.bits) h m (still hs ms) refl
    ∙ ap (λ xs. xs ++ still (h ∷ []) (m ∷ [])) (still_turned hs ms s.3)
    ∙ sym (still_append (reverse hs) (h ∷ []) (reverse ms) (m ∷ []) (stack_turned hs ms s.3))
    ∙ ap (λ gs. still gs (reverse ms ++ m ∷ [])) (sym (reverse-append (h ∷ []) hs))
    ∙ ap (still (reverse (h ∷ hs))) (sym (reverse-append (m ∷ []) ms))

still_none_if : (b : Bool) (m : Waiting) (ms : List Waiting) → b ≡ false → ms ≡ [] → still_if b m ms ≡ []
still_none_if true m ms e n = absurd (cc)
still_none_if false m ms e n = n

pub still_none : (hs : List Handed) (ms : List Waiting) → AllEnd hs → still hs ms ≡ []
still_none [] ms e = refl
still_none (h ∷ hs) [] e = refl
still_none (h ∷ hs) (m ∷ ms) e = still_none_if (has_bits h.bits) m (still hs ms) e.0 (still_none hs ms e.1)

still_count_if : (b : Bool) (m : Waiting) (ms : List Waiting) → length (still_if b m ms) ≡ cond {A = ℕ} b 1 0 + length ms
still_count_if true m ms = omega arith
still_count_if false m ms = omega arith

pub still_count : (hs : List Handed) (ms : List Waiting) → IsStack hs ms → length (still hs ms) ≡ again_in hs
still_count [] [] s = refl
still_count [] (m ∷ ms) s = absurd s
still_count (h ∷ hs) [] s = absurd s
still_count (h ∷ hs) (m ∷ ms) s =
    still_count_if (has_bits h.bits) m (still hs ms) ∙ ap (λ n. cond {A = ℕ} (has_bits h.bits) 1 0 + n) (still_count hs ms s.3)
    ∙ sym (sum_by-cons (λ (x : Handed). cond (has_bits x.bits) 1 0) h hs)

abbrev Unders : ℕ → List Waiting → Type 0
Unders n ms = AllByRecursion (λ (r : Request). r.under ≡ Some n) (requests_in ms)

still_under_if : (b : Bool) (n : ℕ) (m : Waiting) (ms : List Waiting) → m.request.under ≡ Some n → Unders n ms → Unders n (still_if b m ms)
still_under_if true n m ms u us = (u, us)
still_under_if false n m ms u us = us

still_under : (n : ℕ) (hs : List Handed) (ms : List Waiting) → Unders n ms → Unders n (still hs ms)
still_under n [] ms u = tt
still_under n (h ∷ hs) [] u = tt
still_under n (h ∷ hs) (m ∷ ms) u = still_under_if (has_bits h.bits) n m (still hs ms) u.0 (still_under n hs ms u.1)

abbrev Rising : ℕ → List Waiting → Type 0
Rising n ms = AreRisingFrom n (numbers_of (requests_in ms))

lower : (m n : ℕ) (ks : List ℕ) → m ≤ n → AreRisingFrom n ks → AreRisingFrom m ks
lower m n [] le h = tt
lower m n (k ∷ ks) le h = (omega (arith, h.0), h.1)

still_rising_if : (b : Bool) (n : ℕ) (m : Waiting) (ms : List Waiting) → n ≤ m.request.number → Rising (m.request.number + 1) ms → Rising n (still_if b m ms)
still_rising_if true n m ms le r = (le, r)
still_rising_if false n m ms le r = lower n (m.request.number + 1) (numbers_of (requests_in ms)) (omega arith) r

still_rising : (n : ℕ) (hs : List Handed) (ms : List Waiting) → Rising n ms → Rising n (still hs ms)
still_rising n [] ms r = tt
still_rising n (h ∷ hs) [] r = tt
still_rising n (h ∷ hs) (m ∷ ms) r = still_rising_if (has_bits h.bits) n m (still hs ms) r.0 (still_rising (m.request.number + 1) hs ms r.1)

-- ---- lists of the same requests

requests_reverse : (ms : List Waiting) → requests_in (reverse ms) ≡ reverse (requests_in ms)
requests_reverse [] = refl
requests_reverse (m ∷ ms) =
    ap requests_in (reverse-append (m ∷ []) ms) ∙ map-append (λ (w : Waiting). w.request) (reverse ms) (m ∷ [])
    ∙ ap (λ rs. rs ++ m.request ∷ []) (requests_reverse ms) ∙ sym (reverse-append (m.request ∷ []) (requests_in ms))

requests_take : (n : ℕ) (ms : List Waiting) → requests_in (take n ms) ≡ take n (requests_in ms)
requests_take zero ms = refl
requests_take (suc n) [] = refl
requests_take (suc n) (m ∷ ms) = ap (λ rs. m.request ∷ rs) (requests_take n ms)

pub requests_drop : (n : ℕ) (ms : List Waiting) → requests_in (drop n ms) ≡ drop n (requests_in ms)
requests_drop zero ms = refl
requests_drop (suc n) [] = refl
requests_drop (suc n) (m ∷ ms) = requests_drop n ms

length_requests : (ms : List Waiting) → length (requests_in ms) ≡ length ms
length_requests [] = refl
length_requests (m ∷ ms) = ap suc (length_requests ms)

take_front : {X : Type 0} (n : ℕ) (xs ys : List X) → length xs ≡ n → take n (xs ++ ys) ≡ xs
take_front n xs ys e = ap (λ m. take m (xs ++ ys)) (sym e) ∙ all xs
  where
    all : (zs : List _) → take (length zs) (zs ++ ys) ≡ zs
    all [] = refl
    all (z ∷ zs) = ap (λ us. z ∷ us) (all zs)

drop_front : {X : Type 0} (n : ℕ) (xs ys : List X) → length xs ≡ n → drop n (xs ++ ys) ≡ ys
drop_front n xs ys e = ap (λ m. drop m (xs ++ ys)) (sym e) ∙ all xs
  where
    all : (zs : List _) → drop (length zs) (zs ++ ys) ≡ ys
    all [] = refl
    all (z ∷ zs) = all zs

-- ---- one request more

-- the requests that go again have these on top
record IsOnTop (w v : Waiting) (hs : List Handed) (ms left_met : List Waiting) : Type 0 where
  pub top : requests_in (take v.unfinished left_met) ≡ requests_in (still (take w.unfinished hs) (take w.unfinished ms))
  pub below : requests_in (drop v.unfinished left_met) ≡ requests_in (still (drop w.unfinished hs) (drop w.unfinished ms))
  pub enough : v.unfinished ≤ length left_met

on_top : (w v : Waiting) (hs : List Handed) (ms left_met : List Waiting) → IsStack hs ms → v.unfinished ≡ again_in (take w.unfinished hs)
    → requests_in left_met ≡ requests_in (still hs ms) → IsOnTop w v hs ms left_met
on_top w v hs ms left_met s open_is same =
    let k : ℕ = w.unfinished in
    let top : List Waiting = still (take k hs) (take k ms) in
    let below : List Waiting = still (drop k hs) (drop k ms) in
    let both : requests_in left_met ≡ requests_in top ++ requests_in below =
    same ∙ ap requests_in (still_split k hs ms s) ∙ map-append (λ (x : Waiting). x.request) top below in
    let count : length (requests_in top) ≡ v.unfinished = length_requests top ∙ still_count (take k hs) (take k ms) (stack_take k hs ms s) ∙ sym open_is in
    let all : length left_met ≡ length (requests_in top) + length (requests_in below) = sym (length_requests left_met) ∙ ap length both ∙ length-append (requests_in top) (requests_in below) in record {
      top = requests_take v.unfinished left_met ∙ ap (take v.unfinished) both ∙ take_front v.unfinished (requests_in top) (requests_in below) count;
      below = requests_drop v.unfinished left_met ∙ ap (drop v.unfinished) both ∙ drop_front v.unfinished (requests_in top) (requests_in below) count;
      enough = omega arith;
    }

-- the request stands over those of its children that go again
pub over_again : (w v : Waiting) (kids hs : List Handed) (ms left_met : List Waiting) → IsStack hs ms → IsOver w ms → kids ≡ take w.unfinished hs → IsAgainOf w kids v
    → requests_in left_met ≡ requests_in (still hs ms) → IsOver v left_met
over_again w v kids hs ms left_met s over kids_are again same =
    let k : ℕ = w.unfinished in
    let open_is : v.unfinished ≡ again_in (take k hs) = again.unfinished ∙ ap again_in kids_are in
    let t : IsOnTop w v hs ms left_met = on_top w v hs ms left_met s open_is same in
    let taken : IsStack (take k hs) (take k ms) = stack_take k hs ms s in
    let children : requests_in (children_in v left_met) ≡ requests_in (still (reverse (take k hs)) (children_in w ms)) =
    requests_reverse (take v.unfinished left_met) ∙ ap reverse t.top ∙ sym (requests_reverse (still (take k hs) (take k ms)))
    ∙ ap requests_in (still_turned (take k hs) (take k ms) taken) in record {
      enough = t.enough;
      under = subst (AllByRecursion (λ (r : Request). r.under ≡ Some v.request.number)) (sym children)
          (still_under v.request.number (reverse (take k hs)) (children_in w ms)
          (subst (λ (q : Request). AllByRecursion (λ (r : Request). r.under ≡ Some q.number) (requests_in (children_in w ms))) (sym again.request) over.under));
      rising = subst (λ rs. AreRisingFrom 0 (numbers_of rs)) (sym children) (still_rising 0 (reverse (take k hs)) (children_in w ms) over.rising);
    }

-- ---- what is left so far

-- what goes again so far is in order, and over it stand those of the requests without a parent so far
pub record IsLeft (left : List Waiting) (hs : List Handed) (ms : List Waiting) : Type 0 where
  pub ordered : AreBehindChildren [] left
  pub met : requests_in (met_after [] left) ≡ requests_in (still hs ms)
  pub sound : AllByRecursion (IsSound IsWholeTree) left

pub left_none : IsLeft [] [] []
left_none = record { ordered = tt; met = refl; sound = tt }

-- a request that finished, and so did its children
pub left_ended : (left : List Waiting) (w : Waiting) (one : Handed) (hs : List Handed) (ms : List Waiting) → IsStack hs ms → has_bits one.bits ≡ false → AllEnd (take w.unfinished hs)
    → IsLeft left hs ms → IsLeft left (one ∷ drop w.unfinished hs) (w ∷ drop w.unfinished ms)
left_ended left w one hs ms s bits ends h =
    let k : ℕ = w.unfinished in
    let below : List Waiting = still (drop k hs) (drop k ms) in
    record {
      ordered = h.ordered;
      met = h.met ∙ ap requests_in (still_split k hs ms s ∙ ap (λ xs. xs ++ below) (still_none (take k hs) (take k ms) ends))
          ∙ ap (λ b. requests_in (still_if b w below)) (sym bits);
      sound = h.sound;
    }

again_sound : (w v : Waiting) (kids : List Handed) → IsSound IsWholeTree w → IsAgainOf w kids v → IsSound IsWholeTree v
again_sound w v kids s again = record {
  range = subst IsInRange (sym again.request) s.range;
  some = subst (λ n. 1 ≤ n) (sym again.birth) s.some;
  block_is = ap is_some again.block ∙ s.block_is ∙ ap (λ (r : Request). needs_block r.work) (sym again.request);
  fit = subst (λ b. IfSome b IsWholeTree) (sym again.block) s.fit;
  few = omega (arith, again.count, s.few);
  size = subst (λ n. size_with n v.request.work ≤ BLOCK_SIZE_MAX) (sym again.count)
      (subst (λ (r : Request). size_with (length w.kept + w.unfinished) r.work ≤ BLOCK_SIZE_MAX) (sym again.request) s.size);
  pointers = again.pointers;
}

-- a request that goes again
pub left_again : (left : List Waiting) (w v : Waiting) (one : Handed) (kids hs : List Handed) (ms : List Waiting) → IsStack hs ms → IsOver w ms → IsSound IsWholeTree w → kids ≡ take w.unfinished hs
    → has_bits one.bits ≡ true → IsAgainOf w kids v → IsLeft left hs ms → IsLeft (left ++ v ∷ []) (one ∷ drop w.unfinished hs) (w ∷ drop w.unfinished ms)
left_again left w v one kids hs ms s over sound kids_are bits again h =
    let met : List Waiting = met_after [] left in
    let below : List Waiting = still (drop w.unfinished hs) (drop w.unfinished ms) in
    let t : IsOnTop w v hs ms met = on_top w v hs ms met s (again.unfinished ∙ ap again_in kids_are) h.met in record {
      ordered = behind_then [] left (v ∷ []) h.ordered (over_again w v kids hs ms met s over kids_are again h.met, tt);
      met = ap requests_in (met_then [] left (v ∷ [])) ∙ ap (λ r. r ∷ requests_in (drop v.unfinished met)) again.request ∙ ap (λ rs. w.request ∷ rs) t.below
          ∙ ap (λ b. requests_in (still_if b w below)) (sym bits);
      sound = all_append (IsSound IsWholeTree) left (v ∷ []) h.sound (again_sound w v kids sound again, tt);
    }

-- ---- at the end

met_some : (met : List Waiting) (w : Waiting) (ws : List Waiting) → (last : Waiting) × (below : List Waiting) × (met_after met (w ∷ ws) ≡ last ∷ below)
met_some met w [] = (w, drop w.unfinished met, refl)
met_some met w (v ∷ ws) = met_some (w ∷ drop w.unfinished met) v ws

none_left : (left : List Waiting) → requests_in (met_after [] left) ≡ [] → left ≡ []
none_left [] e = refl
none_left (w ∷ ws) e =
    let m = met_some [] w ws in
    let no : m.0.request ∷ requests_in m.1 ≡ [] = sym (ap requests_in m.2) ∙ e in absurd (cc)

one_met : (ms : List Waiting) (r : Request) → requests_in ms ≡ r ∷ [] → (m : Waiting) × (ms ≡ m ∷ [])
one_met [] r e = absurd (cc)
one_met (m ∷ []) r e = (m, refl)
one_met (m ∷ n ∷ ms) r e = let no : n.request ∷ requests_in ms ≡ [] = cc in absurd (cc)

pub left_ends : (left : List Waiting) (root : Waiting) (h : Handed) → has_bits h.bits ≡ false → IsLeft left (h ∷ []) (root ∷ []) → left ≡ []
left_ends left root h bits l = none_left left (l.met ∙ ap (λ b. requests_in (still_if b root [])) bits)

pub left_tree : (left : List Waiting) (root : Waiting) (h : Handed) → has_bits h.bits ≡ true → IsLeft left (h ∷ []) (root ∷ []) → IsOneTree IsWholeTree left
left_tree left root h bits l =
    let m = one_met (met_after [] left) root.request (l.met ∙ ap (λ b. requests_in (still_if b root [])) bits) in record {
      ordered = l.ordered;
      root = m.0;
      alone = m.1;
      sound = l.sound;
    }
