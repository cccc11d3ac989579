-- The headers of a whole block are found by their paths, and its bodies have as many bytes as the block.
use Rattle.std.proofs.Common.{◌≡◌, ℕ, zero, suc, ◌+◌, ◌-◌, ◌<◌, ◌≤◌, List, [], ◌∷◌, ◌++◌, length, map, Bool, true, false, cond, Option, Some, None, IsTrue, find, option_map, bytes_eq, refl, sym, ap, subst, ◌∙◌, arith, append_assoc, length-append}
use Rattle.std.specs.List.{AllByRecursion, sum}
use Rattle.std.proofs.lemmas.Bool.{and_parts}
use Rattle.std.proofs.lemmas.List.{append-nil}
use Rattle.std.proofs.lemmas.List.Sums.{sum-map}
use Rattle.std.proofs.lemmas.Slice.Eq.{bytes_eq-Decides}
use Rattle.zio_types.specs.declared.place.Place.{Place}
use Rattle.zio_blkptr.specs.declared.pointer.Bp.{Bp}
use Rattle.zio_blkptr.specs.Pointers.{valid}
use Rattle.zio_blkptr.proofs.PointerLemmas.{valid_parts}
use Rattle.zio_cksum.specs.Blocks.{good_claimed, good_claimed_at}
use Rattle.zio_cksum.specs.Headers.{members_of, split_sizes}
use Rattle.zio_cksum.proofs.AllLemmas.{all_append, all_weaker}
use Rattle.zio_cksum.proofs.SplitLemmas.{total_law}
use Rattle.zio_gang.specs.declared.tree.Head.{Head}
use Rattle.zio_gang.specs.declared.tree.Tree.{Tree}
use Rattle.zio_gang.specs.Trees.{header_levels_max, kept_at}
use Rattle.zio_disks.specs.Kept.{AreKept, AreNamedAt, IsKept, IsKeptGang, IsKeptIf, bytes_of_all}
use Rattle.zio_disks.specs.Whole.{AreUnder, AreUnderGang, AreUnderIf, AreUnderMembers, IsWholeTree}

-- ---- paths

-- the second path goes on from the first
record GoesOn (path longer : List ℕ) : Type 0 where
  pub rest : List ℕ
  pub is : longer ≡ path ++ rest

-- it goes on with a member's number, from n on
record GoesOnFrom (path : List ℕ) (n : ℕ) (longer : List ℕ) : Type 0 where
  pub step : ℕ
  pub from : n ≤ step
  pub on : GoesOn (path ++ step ∷ []) longer

abbrev AllGoOn : List ℕ → List Head → Type 0
AllGoOn path heads = AllByRecursion (λ (h : Head). GoesOn path h.path) heads

abbrev NoneGoesOn : List ℕ → List Head → Type 0
NoneGoesOn path heads = AllByRecursion (λ (h : Head). ¬ GoesOn path h.path) heads

goes_above : (path longer : List ℕ) (n : ℕ) → GoesOn (path ++ n ∷ []) longer → GoesOn path longer
goes_above path longer n h = record { rest = n ∷ h.rest; is = h.is ∙ append_assoc path (n ∷ []) h.rest }

not_itself : (path : List ℕ) (n : ℕ) → ¬ GoesOn (path ++ n ∷ []) path
not_itself path n h =
    let e : length path ≡ length ((path ++ n ∷ []) ++ h.rest) = ap length h.is in
    let one : length ((path ++ n ∷ []) ++ h.rest) ≡ length (path ++ n ∷ []) + length h.rest = length-append (path ++ n ∷ []) h.rest in
    let two : length (path ++ n ∷ []) ≡ length path + length (n ∷ []) = length-append path (n ∷ []) in
    absurd (omega arith)

same_rest : (path xs ys : List ℕ) → path ++ xs ≡ path ++ ys → xs ≡ ys
same_rest [] xs ys e = e
same_rest (p ∷ ps) xs ys e = let f : ps ++ xs ≡ ps ++ ys = cc in same_rest ps xs ys f

same_step : (path longer : List ℕ) (n k : ℕ) → GoesOn (path ++ n ∷ []) longer → GoesOn (path ++ k ∷ []) longer → n ≡ k
same_step path longer n k a b =
    let e : n ∷ a.rest ≡ k ∷ b.rest = same_rest path (n ∷ a.rest) (k ∷ b.rest) (sym (append_assoc path (n ∷ []) a.rest) ∙ sym a.is ∙ b.is ∙ append_assoc path (k ∷ []) b.rest) in
    cc

-- ---- a header that is found

no_true : (t : Bool) → (t ≡ true → ⊥) → t ≡ false
no_true true never = absurd (never refl)
no_true false _ = refl

abbrev bytes_in_head : Head → List ℕ
bytes_in_head h = h.bytes

kept_step : (t : Bool) (head : Head) (rest : Option Head) → t ≡ false → option_map bytes_in_head (cond t (Some head) rest) ≡ option_map bytes_in_head rest
kept_step true head rest e = absurd (let f = e in cc)
kept_step false head rest e = refl

kept_first : (t : Bool) (head : Head) (rest : Option Head) → t ≡ true → option_map bytes_in_head (cond t (Some head) rest) ≡ Some head.bytes
kept_first true head rest e = refl
kept_first false head rest e = absurd (let f = e in cc)

-- behind headers elsewhere
kept_behind : (path : List ℕ) (front back : List Head) → NoneGoesOn path front → kept_at (front ++ back) path ≡ kept_at back path
kept_behind path [] back h = refl
kept_behind path (head ∷ front) back h =
    kept_step (bytes_eq head.path path) head (find (λ (x : Head). bytes_eq x.path path) (front ++ back))
    (no_true (bytes_eq head.path path) (λ e. h.0 (record { rest = []; is = (bytes_eq-Decides head.path path).0 e ∙ sym (append-nil path) })))
    ∙ kept_behind path front back h.1

kept_there : (path : List ℕ) (head : Head) (front back : List Head) → NoneGoesOn path front → head.path ≡ path → kept_at (front ++ head ∷ back) path ≡ Some head.bytes
kept_there path head front back h at =
    kept_behind path front (head ∷ back) h
    ∙ kept_first (bytes_eq head.path path) head (find (λ (x : Head). bytes_eq x.path path) back) ((bytes_eq-Decides head.path path).1 at)

-- ---- where the headers under a pointer stand

members_go_on : (under : List ℕ → Bp → List Head → Type 0) (path : List ℕ) (n : ℕ) (ms : List Bp) (heads : List Head)
    → ((p : List ℕ) (bp : Bp) (hs : List Head) → under p bp hs → AllGoOn p hs)
    → AreUnderMembers under path n ms heads → AllByRecursion (λ (h : Head). GoesOnFrom path n h.path) heads
members_go_on under path n [] heads each h = subst (AllByRecursion (λ (x : Head). GoesOnFrom path n x.path)) (sym h) tt
members_go_on under path n (m ∷ ms) heads each h =
    subst (AllByRecursion (λ (x : Head). GoesOnFrom path n x.path)) (sym h.joined)
    (all_append (λ (x : Head). GoesOnFrom path n x.path) h.front h.back
    (all_weaker (λ (x : Head). GoesOn (path ++ n ∷ []) x.path) (λ (x : Head). GoesOnFrom path n x.path) h.front
    (λ x on. record { step = n; from = omega arith; on = on }) (each (path ++ n ∷ []) m h.front h.under_first))
    (all_weaker (λ (x : Head). GoesOnFrom path (n + 1) x.path) (λ (x : Head). GoesOnFrom path n x.path) h.back
    (λ x more. record { step = more.step; from = (let least = more.from in omega arith); on = more.on })
    (members_go_on under path (n + 1) ms h.back each h.under_others)))

nothing_goes : (path : List ℕ) (heads : List Head) → heads ≡ [] → AllGoOn path heads
nothing_goes path heads e = subst (AllGoOn path) (sym e) tt

gang_goes_on : (under : List ℕ → Bp → List Head → Type 0) (path : List ℕ) (bp : Bp) (heads : List Head)
    → ((p : List ℕ) (b : Bp) (hs : List Head) → under p b hs → AllGoOn p hs)
    → AreUnderGang under path bp heads → AllGoOn path heads
gang_goes_on under path bp heads each h =
    subst (AllGoOn path) (sym h.first) (
      record { rest = []; is = h.at ∙ sym (append-nil path) },
      all_weaker (λ (x : Head). GoesOnFrom path 0 x.path) (λ (x : Head). GoesOn path x.path) h.rest
          (λ x more. goes_above path x.path more.step more.on)
          (members_go_on under path 0 (members_of h.head.bytes) h.rest each h.members),
    )

if_goes_on : (t : Bool) (gang : Type 0) (path : List ℕ) (heads : List Head) → (gang → AllGoOn path heads) → AreUnderIf t gang heads → AllGoOn path heads
if_goes_on true gang path heads f h = f h
if_goes_on false gang path heads f h = nothing_goes path heads h

under_goes_on : (levels : ℕ) (path : List ℕ) (bp : Bp) (heads : List Head) → AreUnder levels path bp heads → AllGoOn path heads
under_goes_on zero path bp heads h = if_goes_on bp.gang ⊥ path heads (λ no. absurd no) h.1
under_goes_on (suc levels) path bp heads h =
    if_goes_on bp.gang (AreUnderGang (AreUnder levels) path bp heads) path heads (gang_goes_on (AreUnder levels) path bp heads (under_goes_on levels)) h.1

-- ---- the sizes of a header's members

header_sizes : (place : Option Place) (bp : Bp) (bytes : List ℕ) → IsTrue (good_claimed_at place bp bytes) → map (λ (m : Bp). m.size) (members_of bytes) ≡ split_sizes bp.size
header_sizes None bp bytes h = absurd (let f = h in cc)
header_sizes (Some place) bp bytes h =
    let sizes : IsTrue (bytes_eq (map (λ (m : Bp). m.size) (members_of bytes)) (split_sizes bp.size)) = (and_parts _ (bytes_eq (map (λ (m : Bp). m.size) (members_of bytes)) (split_sizes bp.size)) h).1 in
    (bytes_eq-Decides (map (λ (m : Bp). m.size) (members_of bytes)) (split_sizes bp.size)).0 sizes

members_sizes : (bp : Bp) (bytes : List ℕ) → IsTrue (valid bp) → IsTrue (good_claimed bp bytes) → bytes_of_all (members_of bytes) ≡ bp.size
members_sizes bp bytes ok good =
    sym (sum-map (λ (m : Bp). m.size) (members_of bytes))
    ∙ ap sum (header_sizes _ bp bytes good)
    ∙ total_law bp.size (valid_parts bp ok).size.whole

-- ---- a whole block's headers are found

-- what is found of the headers under a pointer that stand somewhere among others
abbrev IsFoundUnder : (List ℕ → Bp → List Head → Type 0) → (List Head → List ℕ → Bp → Type 0) → Type 0
IsFoundUnder under kept =
    (path : List ℕ) (bp : Bp) (front heads back : List Head) → NoneGoesOn path front → under path bp heads → kept (front ++ (heads ++ back)) path bp

members_found : (under : List ℕ → Bp → List Head → Type 0) (kept : List Head → List ℕ → Bp → Type 0) (path : List ℕ) (n : ℕ) (ms : List Bp) (front heads back : List Head)
    → IsFoundUnder under kept → ((p : List ℕ) (bp : Bp) (hs : List Head) → under p bp hs → AllGoOn p hs)
    → ((k : ℕ) → n ≤ k → NoneGoesOn (path ++ k ∷ []) front) → AreUnderMembers under path n ms heads
    → AreKept (kept (front ++ (heads ++ back))) path n ms
members_found under kept path n [] front heads back each on clear h = tt
members_found under kept path n (m ∷ ms) front heads back each on clear h =
    let all : front ++ (h.front ++ (h.back ++ back)) ≡ front ++ (heads ++ back) =
    ap (λ (hs : List Head). front ++ hs) (sym (append_assoc h.front h.back back) ∙ ap (λ (hs : List Head). hs ++ back) (sym h.joined)) in
    let own : AllGoOn (path ++ n ∷ []) h.front = on (path ++ n ∷ []) m h.front h.under_first in
    let later : (k : ℕ) → n + 1 ≤ k → NoneGoesOn (path ++ k ∷ []) (front ++ h.front) = λ k more.
    all_append (λ (x : Head). ¬ GoesOn (path ++ k ∷ []) x.path) front h.front (clear k (omega arith))
    (all_weaker (λ (x : Head). GoesOn (path ++ n ∷ []) x.path) (λ (x : Head). ¬ GoesOn (path ++ k ∷ []) x.path) h.front
    (λ x here there. (let same : n ≡ k = same_step path x.path n k here there in absurd (omega arith))) own) in (
      subst (λ hs. kept hs (path ++ n ∷ []) m) all (each (path ++ n ∷ []) m front h.front (h.back ++ back) (clear n (omega arith)) h.under_first),
      subst (λ hs. AreKept (kept hs) path (n + 1) ms) (append_assoc front h.front (h.back ++ back) ∙ all)
          (members_found under kept path (n + 1) ms (front ++ h.front) h.back back each on later h.under_others),
    )

gang_found : (under : List ℕ → Bp → List Head → Type 0) (kept : List Head → List ℕ → Bp → Type 0) (path : List ℕ) (bp : Bp) (front heads back : List Head)
    → IsFoundUnder under kept → ((p : List ℕ) (b : Bp) (hs : List Head) → under p b hs → AllGoOn p hs)
    → IsTrue (valid bp) → NoneGoesOn path front → AreUnderGang under path bp heads
    → IsKeptGang (kept (front ++ (heads ++ back))) (front ++ (heads ++ back)) path bp
gang_found under kept path bp front heads back each on ok clear h =
    let all : front ++ (h.head ∷ (h.rest ++ back)) ≡ front ++ (heads ++ back) = ap (λ (hs : List Head). front ++ (hs ++ back)) (sym h.first) in
    let behind : (front ++ h.head ∷ []) ++ (h.rest ++ back) ≡ front ++ (heads ++ back) = append_assoc front (h.head ∷ []) (h.rest ++ back) ∙ all in
    let later : (k : ℕ) → 0 ≤ k → NoneGoesOn (path ++ k ∷ []) (front ++ h.head ∷ []) = λ k any.
    all_append (λ (x : Head). ¬ GoesOn (path ++ k ∷ []) x.path) front (h.head ∷ [])
    (all_weaker (λ (x : Head). ¬ GoesOn path x.path) (λ (x : Head). ¬ GoesOn (path ++ k ∷ []) x.path) front (λ x not on_k. not (goes_above path x.path k on_k)) clear)
    (λ on_k. not_itself path k (subst (GoesOn (path ++ k ∷ [])) h.at on_k), tt) in
    record {
      bytes = h.head.bytes;
      found = subst (λ hs. kept_at hs path ≡ Some h.head.bytes) all (kept_there path h.head front (h.rest ++ back) clear h.at);
      sizes = members_sizes bp h.head.bytes ok h.good;
      members = subst (λ hs. AreKept (kept hs) path 0 (members_of h.head.bytes)) behind
          (members_found under kept path 0 (members_of h.head.bytes) (front ++ h.head ∷ []) h.rest back each on later h.members);
    }

if_found : (t : Bool) (gang kept : Type 0) (heads : List Head) → (gang → kept) → AreUnderIf t gang heads → IsKeptIf t kept
if_found true gang kept heads f h = f h
if_found false gang kept heads f h = tt

under_found : (levels : ℕ) → IsFoundUnder (AreUnder levels) (IsKept levels)
unfolding IsKept
under_found zero path bp front heads back clear h = if_found bp.gang ⊥ ⊥ heads (λ no. no) h.1
under_found (suc levels) path bp front heads back clear h =
    if_found bp.gang (AreUnderGang (AreUnder levels) path bp heads) (IsKeptGang (IsKept levels (front ++ (heads ++ back))) (front ++ (heads ++ back)) path bp) heads
    (gang_found (AreUnder levels) (IsKept levels) path bp front heads back (under_found levels) (under_goes_on levels) h.0 clear) h.1

pub whole_kept : (tree : Tree) → IsWholeTree tree → IsKept 8 tree.heads [] tree.bp
whole_kept tree h = subst (λ hs. IsKept 8 hs [] tree.bp) (append-nil tree.heads) (under_found header_levels_max [] tree.bp [] tree.heads [] tt h)

-- ---- what is below a kept header

gang_below : (t : Bool) (kept : List ℕ → Bp → Type 0) (heads : List Head) (path : List ℕ) (bp : Bp) (members : List Bp) → t ≡ true → AreNamedAt heads path members
    → IsKeptIf t (IsKeptGang kept heads path bp) → AreKept kept path 0 members × (bytes_of_all members ≡ bp.size)
gang_below true kept heads path bp members gang named h =
    let both : Some h.bytes ≡ Some named.header = sym h.found ∙ named.found in
    let same : h.bytes ≡ named.header = cc in
    let all : members_of h.bytes ≡ members = ap members_of same ∙ sym named.named in
    (subst (AreKept kept path 0) all h.members, ap bytes_of_all (sym all) ∙ h.sizes)
gang_below false kept heads path bp members gang named h = absurd (let f = gang in cc)

pub kept_below : (levels : ℕ) (heads : List Head) (path : List ℕ) (bp : Bp) (members : List Bp) → bp.gang ≡ true → 0 < levels → AreNamedAt heads path members
    → IsKept levels heads path bp → AreKept (IsKept (levels - 1) heads) path 0 members × (bytes_of_all members ≡ bp.size)
unfolding IsKept
kept_below zero heads path bp members gang some named h = absurd (omega arith)
kept_below (suc levels) heads path bp members gang some named h =
    let less : levels ≡ suc levels - 1 = omega arith in
    let below = gang_below bp.gang (IsKept levels heads) heads path bp members gang named h in
    (subst (λ n. AreKept (IsKept n heads) path 0 members) less below.0, below.1)

-- sizes that are added to those before
pub sized_by : (kept bare : Type 0) (old new before after total size : ℕ) → (kept → bare × (total ≡ size)) → (bare → new ≡ old → after ≡ before + total) → kept → new ≡ old → after ≡ before + size
sized_by kept bare old new before after total size f h k e =
    let parts = f k in
    h parts.0 e ∙ ap (λ n. before + n) parts.1
