-- A claim's own work behind other operations: its walk at once, the taking of its places, and its end.
use Rattle.std.proofs.Common.{◌≡◌, ℕ, zero, suc, ◌+◌, ◌-◌, ◌*◌, ◌/◌, ◌%◌, List, [], ◌∷◌, ◌++◌, length, set, Bool, true, false, Option, Some, None, Result, Ok, Err, refl, sym, ap, subst, ◌∙◌, arith, append-nil, IsTrue}
use Rattle.std.specs.Prelude.{IfSome, ◌==◌, slice_get}
use Rattle.std.specs.List.{list_all}
use Rattle.std.proofs.lemmas.Bool.{and_from, and_parts, eq-eqb, eqb-true, false≢true}
use Rattle.std.proofs.lemmas.Nat.{mod-mul-add}
use Rattle.std.proofs.Math.Nat.{mod-zero}
use Rattle.zio_types.specs.declared.error.Errno.{Errno}
use Rattle.zio_types.specs.declared.error.Errno.TheVariants.{Inval, Exist}
use Rattle.zio_types.specs.declared.place.Place.{Place}
use Rattle.zio_types.specs.declared.place.Top.{Top}
use Rattle.zio_types.specs.declared.place.TopSize.{TopSize}
use Rattle.zio_types.specs.declared.request.ChildKind.TheVariants.{Gang}
use Rattle.zio_types.specs.Places.{fits_on, fits_size, is_aligned_on, is_inside, rounded_to, sector_size}
use Rattle.zio_blkptr.specs.declared.pointer.Bp.{Bp}
use Rattle.zio_blkptr.specs.Pointers.{places_of, valid}
use Rattle.zio_script.specs.declared.script.Failmode.{Failmode}
use Rattle.zio_script.specs.declared.script.Failmode.TheVariants.{Wait}
use Rattle.zio_gang.specs.declared.tree.Head.{Head}
use Rattle.zio_gang.specs.declared.tree.Tree.{Tree}
use Rattle.zio_gang.specs.Attempts.{Terms}
use Rattle.zio_gang.specs.Trees.{inval_unless, is_claimable, piece_size, sizes_of, tree_places}
use Rattle.zio_trace.specs.Plans.{TaskPlan, head_task, plan, plan_claim, plan_found, plan_pointer, plan_taken, stopped}
use Rattle.zio_trace.specs.Programs.{Ends, Asks, ◌>>=◌, ask}
use Rattle.zio_trace.specs.Tasks.{ByClaim, OwnGot, ReadHeads, TakePlaces, Taken, Task, Value, Walked, WalkedBy, got}
use Rattle.zio_frames.specs.Answering.{NextAnswered}
use Rattle.zio_frames.specs.Frames.{Child, OfOuter, Stack}
use Rattle.zio_frames.specs.Moves.{AsksNext, Took, child_ended, child_told, done_at_once, heard_early, heard_of}
use Rattle.zio_frames.specs.Slots.{AllHeard, Heard, IsOut, Slot, left_behind_slots, told_in}
use Rattle.zio_parts.specs.TreeReads.{claiming}
use Rattle.zio_exchange.specs.SpaceCalls.{Claimed, LieOnTops}
use Rattle.zio_stages.specs.NodeChildren.{new_child}
use Rattle.zio_stages.specs.OwnClaims.{ComesTo, HasClaimEnded, HasWalked, IsBlockOf, IsClaimOf, IsClaimOver, IsClaimStep, IsOwnClaim, LiesFound, LiesWalked, claim_task, own_claimed}
use Rattle.zio_stages.specs.OwnParts.{DoesThen, GoesOnAs, HandsTo, IsBehind}
use Rattle.zio_stages.specs.PartsOut.{ArePartsOut}
use Rattle.zio_stages.specs.declared.own_claim.ClaimStep.{ClaimStep}
use Rattle.zio_stages.specs.declared.own_claim.ClaimStep.TheVariants.{Due, Failed, Found, Out, Refused, Taken as TakenStep}
use Rattle.zio_stages.specs.declared.own_claim.OwnClaim.{OwnClaim}
use Rattle.zio_stages.proofs.BehindLemmas.{asks_behind, behind_more, first_at_once, heard_inner}
use Rattle.zio_stages.proofs.FirstLemmas.{hands_first, hears_first, tells_first, told_inner}

-- ---- nothing is asked

claim_fresh : (pointer : Option Bp) (block : Option Tree) → IsBlockOf pointer block → IsClaimOf pointer block Due [] []
claim_fresh None None h = (refl, refl)
claim_fresh None (Some tree) h = h
claim_fresh (Some bp) None h = h
claim_fresh (Some bp) (Some tree) h = (h.0, (refl, refl))

pub fresh_claim : (w : OwnClaim) (family : List Child) (pointer : Option Bp) (front_asked : List Task) (front : List Slot) (st : Stack) → IsBlockOf pointer w.block → w.step ≡ Due → family ≡ st.children
    → IsBehind front_asked front [] [] st → st.inner ≡ None → IsOwnClaim w family pointer front_asked front st
fresh_claim w family pointer front_asked front st block due children behind alone = record {
  asked = [];
  slots = [];
  children = children;
  behind = behind;
  claim = subst (λ (s : ClaimStep). IsClaimOf pointer w.block s [] []) (sym due) (claim_fresh pointer w.block block);
  alone = alone;
}

pub fresh_claim_over : (tops : List Top) (pointer : Option Bp) (block : Option Tree) → IsBlockOf pointer block → IfSome block (λ tree. IsTrue (valid tree.bp) × LiesFound tops tree Due)
fresh_claim_over tops None None h = tt
fresh_claim_over tops None (Some tree) h = absurd h
fresh_claim_over tops (Some bp) None h = tt
fresh_claim_over tops (Some bp) (Some tree) h = (h.1, tt)

-- ---- what a walk comes to

-- what is asked first
abbrev asked_first : TaskPlan OwnGot → Option Task
asked_first (Ends a) = None
asked_first (Asks op more) = Some op

-- a walk that comes to a block met no error, and the block has its headers
pub comes_tree : (bp : Bp) (walked : Walked) (tree : Tree) → ComesTo bp walked (Ok tree) → (walked.errors ≡ []) × (record { bp = bp; heads = walked.heads } ≡ tree)
comes_tree bp walked tree h = by walked.errors refl h
  where
    whole : Tree
    whole = record { bp = bp; heads = walked.heads }

    by : (es : List (Option Errno)) → walked.errors ≡ es → plan_taken es whole ≡ claiming (Ok tree) → (walked.errors ≡ []) × (whole ≡ tree)
    by [] e is =
        let same : Some (TakePlaces whole) ≡ Some (TakePlaces tree) = ap asked_first is in
        (e, cc)
    by (x ∷ es) e is =
        let no : None ≡ Some (TakePlaces tree) = ap asked_first is in
        absurd (cc)

-- ---- the walk at once

-- what its fields are once the walk came to this
abbrev pub IsClaimNow : Result Tree Errno → Tree → OwnClaim → Type 0
IsClaimNow (Ok tree) block w = (w.block ≡ Some tree) × (w.step ≡ Found)
IsClaimNow (Err e) block w = (w.block ≡ Some block) × (w.step ≡ Failed e)

claim_with : (pointer : Option Bp) (a b : Option Tree) (s r : ClaimStep) (asked : List Task) (slots : List Slot) → a ≡ b → s ≡ r → IsClaimOf pointer a s asked slots → IsClaimOf pointer b r asked slots
claim_with pointer a b s r asked slots e f h =
    subst (λ (o : Option Tree). IsClaimOf pointer o r asked slots) e (subst (λ (x : ClaimStep). IsClaimOf pointer a x asked slots) f h)

claim_walked : (w : OwnClaim) (bp : Bp) (block : Tree) (found : Result Tree Errno) (walked : Walked) → block.bp ≡ bp → IsClaimNow found block w → ComesTo bp walked found
    → IsClaimOf (Some bp) w.block w.step (claim_task bp ∷ []) (Heard (WalkedBy walked) ∷ [])
claim_walked w bp block (Ok tree) walked same now comes =
    let is : record { bp = bp; heads = walked.heads } ≡ tree = (comes_tree bp walked tree comes).1 in
    claim_with (Some bp) (Some tree) w.block Found w.step (claim_task bp ∷ []) (Heard (WalkedBy walked) ∷ []) (sym now.0) (sym now.1)
    (sym (ap (λ (x : Tree). x.bp) is), record { walked = walked; comes = comes; asked_are = refl; slots_are = refl })
claim_walked w bp block (Err e) walked same now comes =
    claim_with (Some bp) (Some block) w.block (Failed e) w.step (claim_task bp ∷ []) (Heard (WalkedBy walked) ∷ []) (sym now.0) (sym now.1)
    (same, record { walked = walked; comes = comes; asked_are = refl; slots_are = refl })

pub claim_walks : (t : Terms) (tops : List Top) (old new : OwnClaim) (block : Tree) (family : List Child) (pointer : Option Bp) (front_asked : List Task) (front : List Slot) (st : Stack) (walked : Walked)
    (found : Result Tree Errno) → old.block ≡ Some block → old.step ≡ Due → IsClaimNow found block new → plan t (claim_task block.bp) ≡ Ends (WalkedBy walked)
    → ComesTo block.bp walked found → GoesOnAs t tops (plan_claim pointer) front st → IsOwnClaim old family pointer front_asked front st
    → DoesThen t st [] (IsOwnClaim new family pointer front_asked front)
claim_walks t tops old new block family pointer front_asked front st walked found is due now ends comes goes h =
    by pointer goes h.behind (claim_with pointer old.block (Some block) old.step Due h.asked h.slots is due h.claim)
  where
    by : (p : Option Bp) → GoesOnAs t tops (plan_claim p) front st → IsBehind front_asked front h.asked h.slots st → IsClaimOf p (Some block) Due h.asked h.slots
        → DoesThen t st [] (IsOwnClaim new family p front_asked front)
    by None goes behind c = absurd c
    by (Some bp) goes behind c =
        let fresh : IsBehind front_asked front [] [] st =
        subst (λ (xs : List Task). IsBehind front_asked front xs [] st) c.1.0 (subst (λ (ys : List Slot). IsBehind front_asked front h.asked ys st) c.1.1 behind) in
        let whole : plan t (claim_task bp) ≡ Ends (WalkedBy walked) = ap (λ (b : Bp). plan t (claim_task b)) (sym c.0) ∙ ends in
        first_at_once t tops (plan_claim (Some bp)) front_asked front st (claim_task bp) (WalkedBy walked) (IsOwnClaim new family (Some bp) front_asked front) goes fresh h.alone refl tt refl whole
        (λ b is alone children. record {
          asked = claim_task bp ∷ [];
          slots = Heard (WalkedBy walked) ∷ [];
          children = h.children ∙ sym children;
          behind = is;
          claim = claim_walked new bp block found walked c.0 now (subst (λ (x : Bp). ComesTo x walked found) c.0 comes);
          alone = alone;
        })

-- bytes that are no pointer
pub claim_same : (w : OwnClaim) (family : List Child) (pointer : Option Bp) (front_asked : List Task) (front : List Slot) (st : Stack) (v : OwnClaim) → v ≡ w
    → IsOwnClaim w family pointer front_asked front st → IsOwnClaim v family pointer front_asked front st
claim_same w family pointer front_asked front st v e h = subst (λ (x : OwnClaim). IsOwnClaim x family pointer front_asked front st) (sym e) h

-- ---- its places are taken

abbrev pub step_taken : Bool → ClaimStep
step_taken true = TakenStep
step_taken false = Refused

taken_step : (bp : Bp) (tree : Tree) (free : Bool) (asked : List Task) (slots : List Slot) → HasWalked bp (Ok tree) (TakePlaces tree ∷ []) (Heard (Taken free) ∷ []) asked slots
    → IsClaimStep bp tree (step_taken free) asked slots
taken_step bp tree true asked slots h = h
taken_step bp tree false asked slots h = h

pub claim_takes : (t : Terms) (tops : List Top) (old new : OwnClaim) (tree : Tree) (family : List Child) (pointer : Option Bp) (front_asked : List Task) (front : List Slot) (st : Stack) (free : Bool)
    → old.block ≡ Some tree → old.step ≡ Found → new.block ≡ old.block → new.step ≡ step_taken free → GoesOnAs t tops (plan_claim pointer) front st
    → IsOwnClaim old family pointer front_asked front st
    → DoesThen t st (Claimed (tree_places tree) free ∷ []) (IsOwnClaim new family pointer front_asked front)
claim_takes t tops old new tree family pointer front_asked front st free is found same now goes h =
    by pointer goes h.behind (claim_with pointer old.block (Some tree) old.step Found h.asked h.slots is found h.claim)
  where
    op : Task
    op = TakePlaces tree

    by : (p : Option Bp) → GoesOnAs t tops (plan_claim p) front st → IsBehind front_asked front h.asked h.slots st → IsClaimOf p (Some tree) Found h.asked h.slots
        → DoesThen t st (Claimed (tree_places tree) free ∷ []) (IsOwnClaim new family p front_asked front)
    by None goes behind c = absurd c
    by (Some bp) goes behind c =
        let w : HasWalked bp (Ok tree) [] [] h.asked h.slots = c.1 in
        let next : NextAnswered (told_in h.slots) (left_behind_slots h.slots (plan_claim (Some bp))) op =
        subst (λ (xs : List Slot). NextAnswered (told_in xs) (left_behind_slots xs (plan_claim (Some bp))) op) (sym w.slots_are)
        (subst (λ (q : TaskPlan OwnGot). NextAnswered [] q op) (sym w.comes) refl) in
        let parts : ArePartsOut h.asked h.slots =
        subst (λ (qs : List Task). ArePartsOut qs h.slots) (sym w.asked_are) (subst (ArePartsOut (claim_task bp ∷ [])) (sym w.slots_are) tt) in
        let asks : AsksNext t st.outer op = asks_behind t front_asked front h.asked h.slots st (plan_claim (Some bp)) op behind parts goes.follows next in
        let after : Stack = done_at_once st op (Taken free) in
        let more : HasWalked bp (Ok tree) (op ∷ []) (Heard (Taken free) ∷ []) (h.asked ++ op ∷ []) (h.slots ++ Heard (Taken free) ∷ []) = record {
          walked = w.walked;
          comes = w.comes;
          asked_are = ap (λ (qs : List Task). qs ++ op ∷ []) w.asked_are;
          slots_are = ap (λ (xs : List Slot). xs ++ Heard (Taken free) ∷ []) w.slots_are;
        } in
        record {
          dids = Took tree free ∷ [];
          stack = after;
          does = (after, (h.alone, asks, refl), refl);
          opens = (tt, tt);
          calls_are = refl;
          after = record {
            asked = h.asked ++ op ∷ [];
            slots = h.slots ++ Heard (Taken free) ∷ [];
            children = h.children;
            behind = behind_more front_asked front h.asked h.slots st after op (Heard (Taken free)) behind refl;
            claim = claim_with (Some bp) (Some tree) new.block (step_taken free) new.step (h.asked ++ op ∷ []) (h.slots ++ Heard (Taken free) ∷ []) (sym (same ∙ is)) (sym now)
                (c.0, taken_step bp tree free (h.asked ++ op ∷ []) (h.slots ++ Heard (Taken free) ∷ []) more);
            alone = refl;
          };
        }

-- ---- its end

-- what it came to, by its fields
abbrev pub claim_result : Option Tree → ClaimStep → Result Tree Errno
claim_result None step = Err Inval
claim_result (Some tree) TakenStep = Ok tree
claim_result (Some tree) (Failed e) = Err e
claim_result (Some tree) _ = Err Exist

walked_ends : (bp : Bp) (found : Result Tree Errno) (more_asked : List Task) (more : List Slot) (asked : List Task) (slots : List Slot) (own : OwnGot) → HasWalked bp found more_asked more asked slots
    → told_in more ≡ [] → left_behind_slots more (claiming found) ≡ Ends own → AllHeard slots × (left_behind_slots slots (plan_claim (Some bp)) ≡ Ends own)
walked_ends bp found more_asked more asked slots own w none ends = (
  ap told_in w.slots_are ∙ none,
  ap (λ (xs : List Slot). left_behind_slots xs (plan_claim (Some bp))) w.slots_are ∙ ap (left_behind_slots more) w.comes ∙ ends,
)

claim_ends_of : (pointer : Option Bp) (block : Option Tree) (step : ClaimStep) (asked : List Task) (slots : List Slot) → HasClaimEnded block step → IsClaimOf pointer block step asked slots
    → AllHeard slots × (left_behind_slots slots (plan_claim pointer) ≡ Ends (own_claimed (claim_result block step)))
claim_ends_of None None step asked slots e c = (ap told_in c.1, ap (λ (xs : List Slot). left_behind_slots xs (plan_claim None)) c.1)
claim_ends_of None (Some tree) step asked slots e c = absurd c
claim_ends_of (Some bp) None step asked slots e c = absurd c
claim_ends_of (Some bp) (Some tree) Due asked slots e c = absurd e
claim_ends_of (Some bp) (Some tree) Out asked slots e c = absurd e
claim_ends_of (Some bp) (Some tree) Found asked slots e c = absurd e
claim_ends_of (Some bp) (Some tree) (Failed x) asked slots e c = walked_ends bp (Err x) [] [] asked slots (own_claimed (Err x)) c.1 refl refl
claim_ends_of (Some bp) (Some tree) TakenStep asked slots e c =
    walked_ends bp (Ok tree) (TakePlaces tree ∷ []) (Heard (Taken true) ∷ []) asked slots (own_claimed (Ok tree)) c.1 refl refl
claim_ends_of (Some bp) (Some tree) Refused asked slots e c =
    walked_ends bp (Ok tree) (TakePlaces tree ∷ []) (Heard (Taken false) ∷ []) asked slots (own_claimed (Err Exist)) c.1 refl refl

pub claim_ends : (w : OwnClaim) (family : List Child) (pointer : Option Bp) (front_asked : List Task) (front : List Slot) (st : Stack) (found : Result Tree Errno) → HasClaimEnded w.block w.step
    → found ≡ claim_result w.block w.step → (h : IsOwnClaim w family pointer front_asked front st)
    → AllHeard h.slots × (left_behind_slots h.slots (plan_claim pointer) ≡ Ends (own_claimed found))
claim_ends w family pointer front_asked front st found ended is h =
    let e = claim_ends_of pointer w.block w.step h.asked h.slots ended h.claim in
    (e.0, e.1 ∙ ap (λ (r : Result Tree Errno). Ends (own_claimed r)) (sym is))

-- ---- where the places lie

mod_mul : (a u : ℕ) → a * u % u ≡ 0
mod_mul a zero = mod-zero (a * zero) ∙ omega arith
mod_mul a (suc u) =
    let whole : a * suc u ≡ a * suc u + 0 = omega arith in
    ap (λ n. n % suc u) whole ∙ mod-mul-add a (suc u) 0 (omega arith)

aligned_on : (size : ℕ) (p : Place) (o : Option TopSize) → fits_on size p o ≡ true → is_aligned_on p o ≡ true
aligned_on size p None h = absurd (false≢true h)
aligned_on size p (Some top) h =
    let taken : ℕ = rounded_to top.unit (size / sector_size) in
    let f = and_parts (p.sector % top.unit == 0) (p.sectors == taken) h in
    and_from (p.sector % top.unit == 0) (p.sectors % top.unit == 0) f.0
    (eq-eqb (p.sectors % top.unit) 0 (ap (λ n. n % top.unit) (eqb-true p.sectors taken f.1) ∙ mod_mul ((size / sector_size + (top.unit - 1)) / top.unit) top.unit))

claimable_lie : (tops : List TopSize) (size : ℕ) (places : List Place) → list_all (is_claimable tops size) places ≡ true → LieOnTops tops places
claimable_lie tops size [] h = tt
claimable_lie tops size (p ∷ ps) h =
    let both = and_parts (is_claimable tops size p) (list_all (is_claimable tops size) ps) h in
    let here = and_parts (is_inside tops p) (fits_size tops size p) both.0 in
    ((here.0, aligned_on size p (slice_get tops p.top) here.1), claimable_lie tops size ps both.1)

-- its value, if it asks nothing
abbrev walked_in : TaskPlan Value → Option Value
walked_in (Ends v) = Some v
walked_in (Asks op more) = None

-- a walk that asks nothing and meets no error is that of a pointer that can be claimed and is no gang
judged_at_once : (fits gang : Bool) (bp : Bp) (below : TaskPlan Value) (op : Task) (more : Value → TaskPlan Value) (w : Walked) → below ≡ Asks op more
    → plan_pointer (inval_unless fits) gang bp below ≡ Ends (WalkedBy w) → w.errors ≡ [] → (fits ≡ true) × (w.heads ≡ [])
judged_at_once false gang bp below op more w asks e none =
    let same : Some (WalkedBy (stopped Inval)) ≡ Some (WalkedBy w) = ap walked_in e in
    let is : stopped Inval ≡ w = cc in
    let no : Some Inval ∷ [] ≡ [] = ap (λ (x : Walked). x.errors) is ∙ none in
    absurd (cc)
judged_at_once true true bp below op more w asks e none =
    let no : None ≡ Some (WalkedBy w) = ap walked_in (sym asks ∙ e) in
    absurd (cc)
judged_at_once true false bp below op more w asks e none =
    let v : Walked = record { errors = []; bodies = bp ∷ []; heads = [] } in
    let same : Some (WalkedBy v) ≡ Some (WalkedBy w) = ap walked_in e in
    let is : v ≡ w = cc in
    (refl, sym (ap (λ (x : Walked). x.heads) is))

-- any terms over these tops
abbrev terms_over : List Top → Failmode → Terms
terms_over tops mode = record { setting = record { tops = tops; rows = []; point = 0 }; failmode = mode; round = 0; used = [] }

pub lies_at_once : (tops : List Top) (bp : Bp) (walked : Walked) → ((t : Terms) → t.setting.tops ≡ tops → plan t (claim_task bp) ≡ Ends (WalkedBy walked)) → walked.errors ≡ []
    → LieOnTops (sizes_of tops) (tree_places (record { bp = bp; heads = walked.heads }))
lies_at_once tops bp walked plans none =
    let j = judged_at_once (list_all (is_claimable (sizes_of tops) (piece_size bp)) (places_of bp)) bp.gang bp
    (ask (head_task ByClaim [] bp) >>= λ v. plan_found (ReadHeads ByClaim 7) [] (got v)) (head_task ByClaim [] bp) (λ v. plan_found (ReadHeads ByClaim 7) [] (got v)) walked refl
    (plans (terms_over tops Wait) refl) none in
    subst (λ (hs : List Head). LieOnTops (sizes_of tops) (tree_places (record { bp = bp; heads = hs }))) (sym j.1)
    (subst (LieOnTops (sizes_of tops)) (sym (append-nil (places_of bp))) (claimable_lie (sizes_of tops) (piece_size bp) (places_of bp) j.0))

-- where the walk at once came to a block its places lie on the tops
pub found_lies : (tops : List Top) (bp : Bp) (walked : Walked) (tree : Tree) → ((t : Terms) → t.setting.tops ≡ tops → plan t (claim_task bp) ≡ Ends (WalkedBy walked))
    → ComesTo bp walked (Ok tree) → (tree.bp ≡ bp) × LieOnTops (sizes_of tops) (tree_places tree)
found_lies tops bp walked tree plans comes =
    let is = comes_tree bp walked tree comes in (
      sym (ap (λ (x : Tree). x.bp) is.1),
      subst (λ (x : Tree). LieOnTops (sizes_of tops) (tree_places x)) is.1 (lies_at_once tops bp walked plans is.0),
    )

-- ---- a gang's walk

pub claim_hands : (t : Terms) (tops : List Top) (old new : OwnClaim) (family more : List Child) (bp : Bp) (front_asked : List Task) (front : List Slot) (st : Stack) (n : ℕ) → length front ≡ n
    → old.step ≡ Due → new.block ≡ old.block → new.step ≡ Out → more ≡ family ++ new_child (OfOuter n) Gang ∷ [] → GoesOnAs t tops (plan_claim (Some bp)) front st
    → IsOwnClaim old family (Some bp) front_asked front st → HandsTo t Gang (λ op. op ≡ claim_task bp) (IsOwnClaim new more (Some bp) front_asked front) st
claim_hands t tops old new family more bp front_asked front st n count due same out grown goes h = by old.block refl (claim_with (Some bp) old.block old.block old.step Due h.asked h.slots refl due h.claim)
  where
    by : (o : Option Tree) → old.block ≡ o → IsClaimOf (Some bp) o Due h.asked h.slots → HandsTo t Gang (λ op. op ≡ claim_task bp) (IsOwnClaim new more (Some bp) front_asked front) st
    by None e k = absurd k
    by (Some tree) e k =
        let behind : IsBehind front_asked front [] [] st =
        subst (λ (xs : List Task). IsBehind front_asked front xs [] st) k.1.0 (subst (λ (ys : List Slot). IsBehind front_asked front h.asked ys st) k.1.1 h.behind) in
        hands_first t tops (plan_claim (Some bp)) front_asked front st (claim_task bp) n family more (IsOwnClaim new more (Some bp) front_asked front) goes behind h.alone refl refl count h.children grown
        (λ b is alone children. record {
          asked = claim_task bp ∷ [];
          slots = IsOut None ∷ [];
          children = children;
          behind = is;
          claim = claim_with (Some bp) (Some tree) new.block Out new.step (claim_task bp ∷ []) (IsOut None ∷ []) (sym (same ∙ e)) (sym out) (k.0, (None, refl, refl));
          alone = alone;
        })

pub claim_tells : (w : OwnClaim) (family more : List Child) (bp : Bp) (front_asked : List Task) (front : List Slot) (st : Stack) (k : ℕ) (c : Child) (pointer : Option Bp) → w.step ≡ Out
    → c.seat ≡ OfOuter (length front) → more ≡ set family k (child_told c) → IsOwnClaim w family (Some bp) front_asked front st → IsOwnClaim w more (Some bp) front_asked front (heard_early st k c pointer)
claim_tells w family more bp front_asked front st k c pointer out seat told h = by w.block refl (claim_with (Some bp) w.block w.block w.step Out h.asked h.slots refl out h.claim)
  where
    by : (o : Option Tree) → w.block ≡ o → IsClaimOf (Some bp) o Out h.asked h.slots → IsOwnClaim w more (Some bp) front_asked front (heard_early st k c pointer)
    by None e j = absurd j
    by (Some tree) e j = record {
      asked = h.asked;
      slots = IsOut (Some pointer) ∷ [];
      children = told ∙ ap (λ (cs : List Child). set cs k (child_told c)) h.children;
      behind = tells_first front_asked front h.asked j.1.0 st k c pointer seat (subst (λ (ys : List Slot). IsBehind front_asked front h.asked ys st) j.1.2 h.behind);
      claim = claim_with (Some bp) (Some tree) w.block Out w.step h.asked (IsOut (Some pointer) ∷ []) (sym e) (sym out) (j.0, (Some pointer, j.1.1, refl));
      alone = told_inner st k (length front) c pointer seat ∙ h.alone;
    }

-- what is out isn't found yet
pub out_over : (tops : List Top) (old new : OwnClaim) → new.block ≡ old.block → new.step ≡ Out → IsClaimOver tops old → IsClaimOver tops new
out_over tops old new same out h = by old.block h (same)
  where
    by : (o : Option Tree) → IfSome o (λ tree. IsTrue (valid tree.bp) × LiesFound tops tree old.step) → new.block ≡ o → IsClaimOver tops new
    by None k e = subst (λ (o : Option Tree). IfSome o (λ tree. IsTrue (valid tree.bp) × LiesFound tops tree new.step)) (sym e) tt
    by (Some tree) k e =
        subst (λ (o : Option Tree). IfSome o (λ tree. IsTrue (valid tree.bp) × LiesFound tops tree new.step)) (sym e)
        (k.0, subst (LiesFound tops tree) (sym out) tt)

pub claim_hears : (old new : OwnClaim) (block : Tree) (family more : List Child) (bp : Bp) (front_asked : List Task) (front : List Slot) (st : Stack) (k : ℕ) (c : Child) (walked : Walked) (found : Result Tree Errno)
    → old.block ≡ Some block → old.step ≡ Out → IsClaimNow found block new → ComesTo block.bp walked found → c.seat ≡ OfOuter (length front) → more ≡ set family k (child_ended c)
    → IsOwnClaim old family (Some bp) front_asked front st → IsOwnClaim new more (Some bp) front_asked front (heard_of st k c (WalkedBy walked))
claim_hears old new block family more bp front_asked front st k c walked found is out now comes seat ended h =
    let j : IsClaimOf (Some bp) (Some block) Out h.asked h.slots = claim_with (Some bp) old.block (Some block) old.step Out h.asked h.slots is out h.claim in
    record {
      asked = h.asked;
      slots = Heard (WalkedBy walked) ∷ [];
      children = ended ∙ ap (λ (cs : List Child). set cs k (child_ended c)) h.children;
      behind = hears_first front_asked front h.asked j.1.0 st k c (WalkedBy walked) seat (subst (λ (ys : List Slot). IsBehind front_asked front h.asked ys st) j.1.2 h.behind);
      claim = subst (λ (qs : List Task). IsClaimOf (Some bp) new.block new.step qs (Heard (WalkedBy walked) ∷ [])) (sym j.1.1)
          (claim_walked new bp block found walked j.0 now (subst (λ (x : Bp). ComesTo x walked found) j.0 comes));
      alone = heard_inner st k (length front) c (WalkedBy walked) seat ∙ h.alone;
    }

-- the block that a walk came to lies on the tops
pub walked_over : (tops : List Top) (bp : Bp) (walked : Walked) (tree : Tree) → LiesWalked tops bp walked → IsTrue (valid bp) → ComesTo bp walked (Ok tree)
    → IsTrue (valid tree.bp) × LieOnTops (sizes_of tops) (tree_places tree)
walked_over tops bp walked tree lies good comes =
    let is = comes_tree bp walked tree comes in (
      subst (λ (b : Bp). IsTrue (valid b)) (ap (λ (x : Tree). x.bp) is.1) good,
      subst (λ (x : Tree). LieOnTops (sizes_of tops) (tree_places x)) is.1 (lies is.0),
    )

pub lies_of : (tops : List Top) (tree block : Tree) (walked : Walked) → Some tree ≡ Some block → LiesWalked tops tree.bp walked → LiesWalked tops block.bp walked
lies_of tops tree block walked e h = let is : tree ≡ block = cc in subst (λ (x : Tree). LiesWalked tops x.bp walked) is h
