-- A request that goes again, over what is left of its children.
use Rattle.std.proofs.Common.{◌≡◌, ℕ, ◌+◌, ◌<◌, ◌≤◌, List, [], ◌∷◌, ◌++◌, length, take, get_or, Option, Some, None, option_map, refl, sym, ap, ◌∙◌, subst, arith, append_assoc, append-nil, length-append}
use Rattle.std.specs.List.{AllByRecursion}
use Rattle.std.proofs.lemmas.List.{take_more}
use Rattle.std.proofs.lemmas.Grind.{flat_map-append}
use Rattle.zio_gang.specs.Attempts.{Attempted, Pending}
use Rattle.zio_trace.specs.Families.{Forest, NoTrees, TreeOf, before, flat, root_left}
use Rattle.zio_trace.specs.Plans.{Kids, one_of}
use Rattle.zio_trace.specs.Tasks.{AttemptedBy, Got, Wrote, Found, StoredAs, WalkedBy, Taken, SettledBy}
use Rattle.zio_children.specs.RequestKids.{RiseFrom, kids_by}
use Rattle.zio_frames.specs.Slots.{Heard, IsOut, Slot}
use Rattle.zio_exchange.specs.declared.waiting.UnfinishedRequest.{UnfinishedRequest}
use Rattle.zio_exchange.specs.Wholes.{AreTrees, IsForestOf, IsLeft, IsTreeOf, IsWhole, joined, number_or, root_number, root_of, roots_in}
use Rattle.zio_exchange.proofs.ForestLemmas.{one_forest}
use Rattle.zio_exchange.proofs.WholeLemmas.{root_last}
use Rattle.zio_stages.specs.KidTrees.{AreLeft, AreNumbered, trees_left}

-- ---- what is left

pub all_left : (ns : List ℕ) (again : List (Option (List UnfinishedRequest))) → AreNumbered ns again
    → AllByRecursion IsWhole (trees_left again)
all_left [] [] h = tt
all_left [] (a ∷ again) h = absurd h
all_left (n ∷ ns) [] h = absurd h
all_left (n ∷ ns) (None ∷ again) h = all_left ns again h.1
all_left (n ∷ ns) (Some ws ∷ again) h = (h.0.1, all_left ns again h.1)

rise_lower : (lower least : ℕ) (ns : List ℕ) → lower ≤ least → RiseFrom least ns → RiseFrom lower ns
rise_lower lower least [] l h = tt
rise_lower lower least (n ∷ ns) l h = let m : least ≤ n = h.0 in (omega (arith, l, m), h.1)

pub rise_left : (least : ℕ) (ns : List ℕ) (again : List (Option (List UnfinishedRequest))) → RiseFrom least ns → AreNumbered ns again
    → RiseFrom least (roots_in (trees_left again))
rise_left least [] [] r h = tt
rise_left least [] (a ∷ again) r h = absurd h
rise_left least (n ∷ ns) [] r h = absurd h
rise_left least (n ∷ ns) (None ∷ again) r h =
    let m : least ≤ n = r.0 in
    rise_left least ns again (rise_lower least (n + 1) ns (omega (arith, m)) r.1) h.1
rise_left least (n ∷ ns) (Some ws ∷ again) r h =
    subst (λ (o : Option ℕ). RiseFrom least (number_or o (roots_in (trees_left again)))) (sym h.0.0)
    (r.0, rise_left (n + 1) ns again r.1 h.1)

-- ---- what attempts left

flat_before : (f g : Forest) → flat (before f g) ≡ flat f ++ flat g
flat_before NoTrees g = refl
flat_before (TreeOf p kids more) g =
    ap (λ (ps : List Pending). flat kids ++ p ∷ ps) (flat_before more g) ∙ sym (append_assoc (flat kids) (p ∷ flat more) (flat g))

-- the trees are those that the attempts left, in their order
pub record LeftBy (again : List (Option (List UnfinishedRequest))) (k : Kids) : Type 0 where
  pub are : AreTrees (trees_left again) k.left
  pub list : k.again ≡ flat k.left

pub left_by : (again : List (Option (List UnfinishedRequest))) (slots : List Slot) → AreLeft again slots
    → AllByRecursion IsWhole (trees_left again) → LeftBy again (kids_by slots)
left_by [] [] h w = record { are = tt; list = refl }
left_by [] (s ∷ slots) h w = absurd h
left_by (None ∷ again) [] h w =
    let r : LeftBy again (kids_by []) = left_by again [] h.1 w in record { are = r.are; list = r.list }
left_by (Some ws ∷ again) [] h w = absurd (let e : Some ws ≡ None = h.0 in cc)
left_by (None ∷ again) (IsOut told ∷ slots) h w =
    let r : LeftBy again (kids_by slots) = left_by again slots h.1 w in record { are = r.are; list = r.list }
left_by (Some ws ∷ again) (IsOut told ∷ slots) h w = absurd (let e : Some ws ≡ None = h.0 in cc)
left_by (None ∷ again) (Heard (AttemptedBy one) ∷ slots) h w =
    let r : LeftBy again (kids_by slots) = left_by again slots h.1 w in
    let o : Kids = kids_by slots in
    record {
      are = subst (λ (f : Forest). AreTrees (trees_left again) (before f o.left)) (sym h.0.1.1) r.are;
      list = ap (λ (ps : List Pending). ps ++ o.again) h.0.1.0 ∙ r.list
          ∙ ap (λ (f : Forest). flat (before f o.left)) (sym h.0.1.1);
    }
left_by (Some ws ∷ again) (Heard (AttemptedBy one) ∷ slots) h w =
    let r : LeftBy again (kids_by slots) = left_by again slots h.1 w.1 in
    let o : Kids = kids_by slots in
    let is : one.left ≡ TreeOf w.0.root w.0.kids NoTrees =
    one_forest ws one.left (TreeOf w.0.root w.0.kids NoTrees) h.0.1.tree w.0.is in
    record {
      are = subst (λ (f : Forest). AreTrees (ws ∷ trees_left again) (before f o.left)) (sym is) (w.0.is, r.are);
      list = (λ i. h.0.1.list i ++ r.list i) ∙ sym (flat_before one.left o.left);
    }
left_by (a ∷ again) (Heard (Got x) ∷ slots) h w = absurd h.0
left_by (a ∷ again) (Heard (Wrote x) ∷ slots) h w = absurd h.0
left_by (a ∷ again) (Heard (Found x) ∷ slots) h w = absurd h.0
left_by (a ∷ again) (Heard (StoredAs x) ∷ slots) h w = absurd h.0
left_by (a ∷ again) (Heard (WalkedBy x) ∷ slots) h w = absurd h.0
left_by (a ∷ again) (Heard (Taken x) ∷ slots) h w = absurd h.0
left_by (a ∷ again) (Heard (SettledBy x) ∷ slots) h w = absurd h.0

pub left_of_one : (k : Kids) (one : Attempted) (p : Pending) (ws : List UnfinishedRequest) → one.again ≡ p ∷ [] → IsTreeOf ws p k.left
    → k.again ≡ flat k.left → IsLeft ws (one_of k one)
left_of_one k one p ws e h l = record {
  tree = subst (λ (ps : List Pending). IsForestOf ws (root_left ps k.left)) (sym e) h;
  list = (λ i. l i ++ e i) ∙ sym (ap (λ (ps : List Pending). flat (root_left ps k.left)) e);
}

-- ---- putting them beside one another

-- so many trees are there already, and this is left to be put there
pub record LeftSoFar (again rest : List (Option (List UnfinishedRequest))) (left : List (List UnfinishedRequest)) (room : ℕ) : Type 0 where
  pub list : left ++ trees_left rest ≡ trees_left again
  pub enough : length left + length rest ≤ room

pub left_begins : (again rest : List (Option (List UnfinishedRequest))) (left : List (List UnfinishedRequest)) (room : ℕ) → rest ≡ again → left ≡ []
    → length again ≤ room → LeftSoFar again rest left room
left_begins again rest left room same none enough = record {
  list = (λ i. none i ++ trees_left (same i));
  enough = omega (arith, ap length none, ap length same, enough);
}

pub left_skips : (again rest next : List (Option (List UnfinishedRequest))) (left : List (List UnfinishedRequest)) (room : ℕ) → LeftSoFar again rest left room
    → rest ≡ None ∷ next → LeftSoFar again next left room
left_skips again rest next left room h first = record {
  list = ap (λ (xs : List (Option (List UnfinishedRequest))). left ++ trees_left xs) (sym first) ∙ h.list;
  enough = omega (arith, h.enough, ap length first);
}

pub left_next : (again rest next : List (Option (List UnfinishedRequest))) (ws : List UnfinishedRequest) (left after : List (List UnfinishedRequest)) (room now : ℕ)
    → LeftSoFar again rest left room → rest ≡ Some ws ∷ next → after ≡ left ++ ws ∷ [] → room ≤ now → LeftSoFar again next after now
left_next again rest next ws left after room now h first is wide = record {
  list = ap (λ (ts : List (List UnfinishedRequest)). ts ++ trees_left next) is ∙ append_assoc left (ws ∷ []) (trees_left next)
      ∙ ap (λ (xs : List (Option (List UnfinishedRequest))). left ++ trees_left xs) (sym first) ∙ h.list;
  enough = omega (arith, h.enough, wide, ap length first, ap length is, length-append left (ws ∷ []));
}

pub left_fits : (again rest next : List (Option (List UnfinishedRequest))) (ws : List UnfinishedRequest) (left : List (List UnfinishedRequest)) (room : ℕ)
    → LeftSoFar again rest left room → rest ≡ Some ws ∷ next → length left < room
left_fits again rest next ws left room h first = omega (arith, h.enough, ap length first)

pub left_all : (again rest : List (Option (List UnfinishedRequest))) (left : List (List UnfinishedRequest)) (room : ℕ) → LeftSoFar again rest left room
    → rest ≡ [] → left ≡ trees_left again
left_all again rest left room h none =
    sym (append-nil left) ∙ ap (λ (xs : List (Option (List UnfinishedRequest))). left ++ trees_left xs) (sym none) ∙ h.list

pub number_last : (front all : List UnfinishedRequest) (w : UnfinishedRequest) → all ≡ front ++ w ∷ [] → root_number all ≡ Some w.request.number
number_last front all w is =
    ap (λ (ws : List UnfinishedRequest). option_map (λ (v : UnfinishedRequest). v.request.number) (root_of ws)) is
    ∙ ap (option_map (λ (v : UnfinishedRequest). v.request.number)) (root_last front w)
