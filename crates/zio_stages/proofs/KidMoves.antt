-- The children of a request with their trees: one is handed out, one tells, one is heard of.
use Rattle.std.proofs.Common.{◌≡◌, ℕ, zero, suc, ◌+◌, ◌<◌, List, [], ◌∷◌, ◌++◌, length, set, slice_get, take, drop, Option, Some, None, refl, sym, ap, ◌∙◌, subst, arith, add-one, length-append, length-drop}
use Rattle.std.proofs.lemmas.List.{nil_from_length}
use Rattle.std.specs.List.{AllByRecursion}
use Rattle.zio_blkptr.specs.declared.pointer.Bp.{Bp}
use Rattle.zio_gang.specs.Attempts.{Pending}
use Rattle.zio_trace.specs.Families.{Forest, NoTrees, TreeOf}
use Rattle.zio_trace.specs.Tasks.{Attempt, Task}
use Rattle.zio_children.specs.RequestKids.{Fits, IsOutWith, IsTreeAt, KidsUnderWay, RiseFrom, kid_handed, kid_is, numbers_of, state_at}
use Rattle.zio_children.specs.declared.kids.Kid.{Kid}
use Rattle.zio_children.specs.declared.kids.KidState.{KidState}
use Rattle.zio_children.specs.declared.kids.KidState.TheVariants.{Out}
use Rattle.zio_children.proofs.KidFields.{numbers_set, out_at}
use Rattle.zio_children.proofs.KidPlans.{next_kid}
use Rattle.zio_frames.specs.Slots.{Heard, IsOut, Slot}
use Rattle.zio_frames.proofs.SlotMoves.{IsOutAt}
use Rattle.zio_exchange.specs.declared.waiting.UnfinishedRequest.{UnfinishedRequest}
use Rattle.zio_exchange.specs.Wholes.{AreTrees, IsTreeOf, IsWhole, number_or, root_number, roots_in}
use Rattle.zio_exchange.proofs.WholeLemmas.{root_number_is}
use Rattle.zio_stages.specs.KidTrees.{AreHeld, AreLeft, AreNumbered, HandsOut, IsKids, IsLeftIn, KidsHeld, attempts_of, trees_from}

-- ---- the next tree

pub numbers_count : (kids : List Kid) → length (numbers_of kids) ≡ length kids
numbers_count [] = refl
numbers_count (k ∷ kids) = ap suc (numbers_count kids)

dropped_one : {X : Type 0} (xs ys : List X) (n : ℕ) (y : X) → y ∷ ys ≡ drop n xs
    → (slice_get xs n ≡ Some y) × (ys ≡ drop (suc n) xs)
dropped_one [] ys zero y e = absurd (cc)
dropped_one [] ys (suc n) y e = absurd (cc)
dropped_one (x ∷ xs) ys zero y e = let first : x ≡ y = cc in let rest : ys ≡ xs = cc in (ap (λ z. Some z) first, rest)
dropped_one (x ∷ xs) ys (suc n) y e = dropped_one xs ys n y e

-- the first tree that is due is that of the next child
pub record NextDue (ws : List UnfinishedRequest) (due : List (List UnfinishedRequest)) (numbers : List ℕ) (handed : ℕ) : Type 0 where
  pub number : ℕ
  pub root : root_number ws ≡ Some number
  pub is : slice_get numbers handed ≡ Some number
  pub rest : roots_in due ≡ drop (handed + 1) numbers

pub next_due : (ws : List UnfinishedRequest) (due : List (List UnfinishedRequest)) (numbers : List ℕ) (handed : ℕ) → IsWhole ws
    → roots_in (ws ∷ due) ≡ drop handed numbers → NextDue ws due numbers handed
next_due ws due numbers handed h e =
    let root : root_number ws ≡ Some h.root.request.number = root_number_is ws h.root h.kids h.is in
    let d =
    dropped_one numbers (roots_in due) handed h.root.request.number (ap (λ (o : Option ℕ). number_or o (roots_in due)) (sym root) ∙ e) in
    record { number = h.root.request.number; root = root; is = d.0; rest = d.1 ∙ ap (λ k. drop k numbers) (sym (add-one handed)) }

pub number_of_next : (x : KidsHeld) (ws : List UnfinishedRequest) (due : List (List UnfinishedRequest)) → AreHeld x → x.due ≡ ws ∷ due
    → root_number ws ≡ slice_get (numbers_of x.kids.kids) x.kids.handed
number_of_next x ws due h e =
    let each : AllByRecursion IsWhole (ws ∷ due) = subst (AllByRecursion IsWhole) e h.each in
    let d : NextDue ws due (numbers_of x.kids.kids) x.kids.handed =
    next_due ws due (numbers_of x.kids.kids) x.kids.handed each.0 (ap roots_in (sym e) ∙ h.due) in
    d.root ∙ sym d.is

pub handed_held : (x : KidsHeld) (ws : List UnfinishedRequest) (due : List (List UnfinishedRequest)) (kids : KidsUnderWay) → AreHeld x
    → x.due ≡ ws ∷ due → kids ≡ kid_handed x.kids → AreHeld (record { kids = kids; due = due; again = x.again })
handed_held x ws due kids h e k =
    let each : AllByRecursion IsWhole (ws ∷ due) = subst (AllByRecursion IsWhole) e h.each in
    let d : NextDue ws due (numbers_of x.kids.kids) x.kids.handed =
    next_due ws due (numbers_of x.kids.kids) x.kids.handed each.0 (ap roots_in (sym e) ∙ h.due) in
    let same : numbers_of x.kids.kids ≡ numbers_of (kid_handed x.kids).kids = sym (numbers_set x.kids.kids x.kids.handed Out) in
    subst (λ (ks : KidsUnderWay). AreHeld (record { kids = ks; due = due; again = x.again })) (sym k) (record {
      due = d.rest ∙ ap (drop (x.kids.handed + 1)) same;
      each = each.1;
      again = subst (λ (ns : List ℕ). AreNumbered ns x.again) same h.again;
      rising = subst (RiseFrom 0) same h.rising;
    })

-- some tree is due where a child wasn't handed out
pub some_due : (x : KidsHeld) → AreHeld x → x.kids.handed < length x.kids.kids → length x.due ≡ 0 → ⊥
some_due x h l e =
    let none : x.due ≡ [] = nil_from_length x.due e in
    omega (
      arith,
      l,
      numbers_count x.kids.kids,
      length-drop x.kids.handed (numbers_of x.kids.kids),
      ap length h.due,
      ap (λ (ts : List (List UnfinishedRequest)). length (roots_in ts)) none,
    )

pub record AtPlace (ws : List UnfinishedRequest) (due : List (List UnfinishedRequest)) (n : ℕ) (forest : Forest) : Type 0 where
  pub root : Pending
  pub below : Forest
  pub tree : IsTreeOf ws root below
  pub place : IsTreeAt n forest root below
  pub rest : AreTrees due (trees_from (suc n) forest)

at_place : (ws : List UnfinishedRequest) (due : List (List UnfinishedRequest)) (n : ℕ) (forest : Forest)
    → AreTrees (ws ∷ due) (trees_from n forest) → AtPlace ws due n forest
at_place ws due zero NoTrees h = absurd h
at_place ws due (suc n) NoTrees h = absurd h
at_place ws due zero (TreeOf p below others) h = record { root = p; below = below; tree = h.0; place = (refl, refl); rest = h.1 }
at_place ws due (suc n) (TreeOf p below others) h =
    let a : AtPlace ws due n others = at_place ws due n others h in
    record { root = a.root; below = a.below; tree = a.tree; place = a.place; rest = a.rest }

attempts_more : (attempt n : ℕ) (forest : Forest) (p : Pending) (below : Forest) → IsTreeAt n forest p below
    → take n (attempts_of attempt forest) ++ Attempt attempt p below ∷ [] ≡ take (suc n) (attempts_of attempt forest)
attempts_more attempt n NoTrees p below h = absurd h
attempts_more attempt zero (TreeOf q kids others) p below h = λ i. Attempt attempt (sym h.0 i) (sym h.1 i) ∷ []
attempts_more attempt (suc n) (TreeOf q kids others) p below h =
    ap (λ (ops : List Task). Attempt attempt q kids ∷ ops) (attempts_more attempt n others p below h)

left_more : (again : List (Option (List UnfinishedRequest))) (slots : List Slot) → length slots < length again → AreLeft again slots
    → AreLeft again (slots ++ IsOut None ∷ [])
left_more [] slots l h = absurd (omega (arith, l))
left_more (a ∷ again) [] l h = h
left_more (a ∷ again) (slot ∷ slots) l h = (h.0, left_more again slots (omega (arith, l)) h.1)

pub numbered_count : (ns : List ℕ) (again : List (Option (List UnfinishedRequest))) → AreNumbered ns again → length again ≡ length ns
numbered_count [] [] h = refl
numbered_count [] (a ∷ again) h = absurd h
numbered_count (n ∷ ns) [] h = absurd h
numbered_count (n ∷ ns) (a ∷ again) h = ap suc (numbered_count ns again h.1)

pub hands_out : (x : KidsHeld) (ws : List UnfinishedRequest) (due : List (List UnfinishedRequest)) (kids : KidsUnderWay) (attempt : ℕ)
    (forest : Forest) (asked : List Task) (slots : List Slot)
    → AreHeld x → x.kids.handed < length x.kids.kids
    → x.due ≡ ws ∷ due → kids ≡ kid_handed x.kids → (Fits x.kids slots → Fits kids (slots ++ IsOut None ∷ []))
    → IsKids x attempt forest asked slots
    → HandsOut ws x (record { kids = kids; due = due; again = x.again }) attempt forest asked slots
hands_out x ws due kids attempt forest asked slots h l e k fits is =
    let n : ℕ = x.kids.handed in
    let a : AtPlace ws due n forest =
    at_place ws due n forest (subst (λ (ts : List (List UnfinishedRequest)). AreTrees ts (trees_from n forest)) e is.due) in
    let handed : kids.handed ≡ suc n = ap (λ (y : KidsUnderWay). y.handed) k ∙ add-one n in
    record {
      root = a.root;
      below = a.below;
      tree = a.tree;
      place = a.place;
      asks = λ f. next_kid slots n attempt forest a.root a.below f is.all a.place;
      after = record {
        fits = fits is.fits;
        roots = is.roots ∙ sym (numbers_set x.kids.kids n Out) ∙ ap (λ (y : KidsUnderWay). numbers_of y.kids) (sym k);
        all = length-append slots (IsOut None ∷ []) ∙ ap (λ m. m + 1) is.all ∙ ap (λ (y : KidsUnderWay). y.handed) (sym k);
        ops = ap (λ (ops : List Task). ops ++ Attempt attempt a.root a.below ∷ []) is.ops
            ∙ attempts_more attempt n forest a.root a.below a.place
            ∙ ap (λ m. take m (attempts_of attempt forest)) (sym handed);
        due = subst (λ m. AreTrees due (trees_from m forest)) (sym handed) a.rest;
        left = left_more x.again slots (omega (arith, l, is.all, numbered_count (numbers_of x.kids.kids) x.again h.again, numbers_count x.kids.kids)) is.left;
      };
    }

-- ---- a child that is out

-- nothing is left of it
out_left : (again : List (Option (List UnfinishedRequest))) (slots : List Slot) (n : ℕ) (slot : Slot) → IsOutAt n slots
    → AreLeft again slots → IsLeftIn None slot → AreLeft again (set slots n slot)
out_left again [] n slot o h i = absurd o
out_left [] (s ∷ slots) n slot o h i = absurd h
out_left (a ∷ again) (IsOut told ∷ slots) zero slot o h i =
    (subst (λ (b : Option (List UnfinishedRequest)). IsLeftIn b slot) (sym h.0) i, h.1)
out_left (a ∷ again) (Heard v ∷ slots) zero slot o h i = absurd o
out_left (a ∷ again) (s ∷ slots) (suc n) slot o h i = (h.0, out_left again slots n slot o h.1 i)

-- this is left of it
again_left : (again : List (Option (List UnfinishedRequest))) (slots : List Slot) (n : ℕ) (ws : List UnfinishedRequest) (slot : Slot)
    → IsOutAt n slots → AreLeft again slots → IsLeftIn (Some ws) slot → AreLeft (set again n (Some ws)) (set slots n slot)
again_left again [] n ws slot o h i = absurd o
again_left [] (s ∷ slots) n ws slot o h i = absurd h
again_left (a ∷ again) (s ∷ slots) zero ws slot o h i = (i, h.1)
again_left (a ∷ again) (s ∷ slots) (suc n) ws slot o h i = (h.0, again_left again slots n ws slot o h.1 i)

length_set : {X : Type 0} (xs : List X) (n : ℕ) (x : X) → length (set xs n x) ≡ length xs
length_set [] n x = refl
length_set (y ∷ xs) zero x = refl
length_set (y ∷ xs) (suc n) x = ap suc (length_set xs n x)

-- it is so far now
pub moved_kids : (x : KidsHeld) (kids : KidsUnderWay) (n : ℕ) (state : KidState) (pointer : Option Bp)
    (again : List (Option (List UnfinishedRequest))) (slot : Slot) (attempt : ℕ) (forest : Forest) (asked : List Task) (slots : List Slot)
    → kids ≡ kid_is x.kids n state → Fits kids (set slots n slot) → AreLeft again (set slots n slot)
    → IsKids x attempt forest asked slots
    → IsKids (record { kids = kids; due = x.due; again = again }) attempt forest asked (set slots n slot)
moved_kids x kids n state pointer again slot attempt forest asked slots k fits left is =
    let handed : kids.handed ≡ x.kids.handed = ap (λ (y : KidsUnderWay). y.handed) k in
    record {
      fits = fits;
      roots = is.roots ∙ sym (numbers_set x.kids.kids n state) ∙ ap (λ (y : KidsUnderWay). numbers_of y.kids) (sym k);
      all = length_set slots n slot ∙ is.all ∙ sym handed;
      ops = is.ops ∙ ap (λ m. take m (attempts_of attempt forest)) (sym handed);
      due = subst (λ m. AreTrees x.due (trees_from m forest)) (sym handed) is.due;
      left = left;
    }

pub out_kids : (x : KidsHeld) (kids : KidsUnderWay) (n : ℕ) (state : KidState) (pointer : Option Bp) (slot : Slot) (attempt : ℕ)
    (forest : Forest) (asked : List Task) (slots : List Slot)
    → IsOutWith pointer (state_at x.kids.kids n) → kids ≡ kid_is x.kids n state
    → (Fits x.kids slots → Fits kids (set slots n slot)) → IsLeftIn None slot → IsKids x attempt forest asked slots
    → IsKids (record { kids = kids; due = x.due; again = x.again }) attempt forest asked (set slots n slot)
out_kids x kids n state pointer slot attempt forest asked slots out k fits i is =
    moved_kids x kids n state pointer x.again slot attempt forest asked slots k (fits is.fits)
    (out_left x.again slots n slot (out_at pointer x.kids.kids n slots out is.fits) is.left i) is

pub again_kids : (x : KidsHeld) (kids : KidsUnderWay) (n : ℕ) (state : KidState) (pointer : Option Bp) (ws : List UnfinishedRequest)
    (slot : Slot) (attempt : ℕ) (forest : Forest) (asked : List Task) (slots : List Slot)
    → IsOutWith pointer (state_at x.kids.kids n) → kids ≡ kid_is x.kids n state
    → (Fits x.kids slots → Fits kids (set slots n slot)) → IsLeftIn (Some ws) slot → IsKids x attempt forest asked slots
    → IsKids (record { kids = kids; due = x.due; again = set x.again n (Some ws) }) attempt forest asked (set slots n slot)
again_kids x kids n state pointer ws slot attempt forest asked slots out k fits i is =
    moved_kids x kids n state pointer (set x.again n (Some ws)) slot attempt forest asked slots k (fits is.fits)
    (again_left x.again slots n ws slot (out_at pointer x.kids.kids n slots out is.fits) is.left i) is

-- the trees stay those of their children
pub moved_held : (x : KidsHeld) (kids : KidsUnderWay) (n : ℕ) (state : KidState) → AreHeld x → kids ≡ kid_is x.kids n state
    → AreHeld (record { kids = kids; due = x.due; again = x.again })
moved_held x kids n state h k =
    let same : numbers_of x.kids.kids ≡ numbers_of (kid_is x.kids n state).kids = sym (numbers_set x.kids.kids n state) in
    subst (λ (ks : KidsUnderWay). AreHeld (record { kids = ks; due = x.due; again = x.again })) (sym k) (record {
      due = h.due ∙ ap (drop x.kids.handed) same;
      each = h.each;
      again = subst (λ (ns : List ℕ). AreNumbered ns x.again) same h.again;
      rising = subst (RiseFrom 0) same h.rising;
    })

numbered_set : (ns : List ℕ) (again : List (Option (List UnfinishedRequest))) (n : ℕ) (ws : List UnfinishedRequest)
    → root_number ws ≡ slice_get ns n → IsWhole ws → AreNumbered ns again → AreNumbered ns (set again n (Some ws))
numbered_set [] [] n ws e w h = tt
numbered_set [] (a ∷ again) n ws e w h = absurd h
numbered_set (m ∷ ns) [] n ws e w h = absurd h
numbered_set (m ∷ ns) (a ∷ again) zero ws e w h = ((e, w), h.1)
numbered_set (m ∷ ns) (a ∷ again) (suc n) ws e w h = (h.0, numbered_set ns again n ws e w h.1)

pub again_held : (x : KidsHeld) (kids : KidsUnderWay) (n : ℕ) (state : KidState) (ws : List UnfinishedRequest) → AreHeld x
    → kids ≡ kid_is x.kids n state → root_number ws ≡ slice_get (numbers_of x.kids.kids) n → IsWhole ws
    → AreHeld (record { kids = kids; due = x.due; again = set x.again n (Some ws) })
again_held x kids n state ws h k e w =
    moved_held (record { kids = x.kids; due = x.due; again = set x.again n (Some ws) }) kids n state (record {
      due = h.due;
      each = h.each;
      again = numbered_set (numbers_of x.kids.kids) x.again n ws e w h.again;
      rising = h.rising;
    }) k

state_less : (pointer : Option Bp) (kids : List Kid) (n : ℕ) → IsOutWith pointer (state_at kids n) → n < length kids
state_less pointer [] n h = absurd h
state_less pointer (k ∷ kids) zero h = omega arith
state_less pointer (k ∷ kids) (suc n) h = let l : n < length kids = state_less pointer kids n h in omega arith

pub out_within : (x : KidsHeld) (n : ℕ) (pointer : Option Bp) → AreHeld x → IsOutWith pointer (state_at x.kids.kids n)
    → n < length x.again
out_within x n pointer h o =
    omega (arith, state_less pointer x.kids.kids n o, numbered_count (numbers_of x.kids.kids) x.again h.again, numbers_count x.kids.kids)
