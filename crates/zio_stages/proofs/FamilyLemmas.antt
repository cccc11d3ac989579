-- A node's children as they are kept: one more, one that changed, and the first that is missing.
use Rattle.std.proofs.Common.{◌≡◌, ℕ, zero, suc, List, [], ◌∷◌, ◌++◌, length, set, slice_get, Bool, true, false, ◌||◌, not, Option, Some, None, Bor, is_some, option_map, refl, sym, ap, ◌∙◌, subst}
use Rattle.std.specs.List.{AllByRecursion}
use Rattle.std.specs.Option.{option_and_then, option_copied}
use Rattle.std.specs.Prelude.{IfSome}
use Rattle.zio_types.specs.declared.request.ChildKind.{ChildKind}
use Rattle.zio_types.specs.declared.request.ChildKind.TheVariants.{Vdev, Gang, Logical}
use Rattle.zio_trace.specs.Tasks.{Task}
use Rattle.zio_counts.specs.Broods.{new_child}
use Rattle.zio_counts.specs.declared.child.Child.{Child as Kept}
use Rattle.zio_cksum.proofs.AllLemmas.{all_append}
use Rattle.zio_frames.specs.Frames.{Child, Seat as SeatOf, kind_of_task, needs_none}
use Rattle.zio_frames.specs.Moves.{child_ended, child_for, child_told}
use Rattle.zio_stages.specs.declared.family.Seat.{Seat}
use Rattle.zio_stages.specs.declared.family.Seat.TheVariants.{Outer}
use Rattle.zio_stages.specs.declared.family.Sitting.{Sitting}
use Rattle.zio_stages.specs.NodeChildren.{AllToldIfEnded, AreBeside, Changes, HasTold, IsOfKind, ToldIfEnded, child_by, children_by, seat_of, new_child as new_at}

-- ---- how many

pub length_seats : {R V : Type 0} (cs : List (Kept R V)) (ss : List Sitting) → AreBeside cs ss → length ss ≡ length cs
length_seats [] [] h = refl
length_seats [] (s ∷ ss) h = absurd h
length_seats (c ∷ cs) [] h = absurd h
length_seats (c ∷ cs) (s ∷ ss) h = ap suc (length_seats cs ss h.1)

pub length_children : {R V : Type 0} (cs : List (Kept R V)) (ss : List Sitting) → AreBeside cs ss
    → length (children_by cs ss) ≡ length cs
length_children [] [] h = refl
length_children [] (s ∷ ss) h = absurd h
length_children (c ∷ cs) [] h = absurd h
length_children (c ∷ cs) (s ∷ ss) h = ap suc (length_children cs ss h.1)

-- ---- one more

pub beside_more : {R V : Type 0} (cs : List (Kept R V)) (ss : List Sitting) (c : Kept R V) (s : Sitting) → c.kind ≡ s.kind
    → AreBeside cs ss → AreBeside (cs ++ c ∷ []) (ss ++ s ∷ [])
beside_more [] [] c s e h = (e, tt)
beside_more [] (t ∷ ss) c s e h = absurd h
beside_more (d ∷ cs) [] c s e h = absurd h
beside_more (d ∷ cs) (t ∷ ss) c s e h = (h.0, beside_more cs ss c s e h.1)

children_more : {R V : Type 0} (cs : List (Kept R V)) (ss : List Sitting) (c : Kept R V) (s : Sitting) → AreBeside cs ss
    → children_by (cs ++ c ∷ []) (ss ++ s ∷ []) ≡ children_by cs ss ++ child_by c s.seat ∷ []
children_more [] [] c s h = refl
children_more [] (t ∷ ss) c s h = absurd h
children_more (d ∷ cs) [] c s h = absurd h
children_more (d ∷ cs) (t ∷ ss) c s h = ap (λ (xs : List Child). child_by d t.seat ∷ xs) (children_more cs ss c s h.1)

fresh_by : (R V : Type 0) (kind : ChildKind) (label : ℕ) (seat : Seat)
    → child_by (new_child {R = R} {V = V} kind label) seat ≡ new_at (seat_of seat) kind
fresh_by R V Vdev label seat = refl
fresh_by R V Gang label seat = refl
fresh_by R V Logical label seat = refl

pub added : {R V : Type 0} (cs : List (Kept R V)) (ss : List Sitting) (kind : ChildKind) (label : ℕ) (seat : Seat)
    (cs2 : List (Kept R V)) (ss2 : List Sitting)
    → AreBeside cs ss
    → cs2 ≡ cs ++ new_child kind label ∷ [] → ss2 ≡ ss ++ record { seat = seat; kind = kind } ∷ []
    → AreBeside cs2 ss2 × (children_by cs2 ss2 ≡ children_by cs ss ++ new_at (seat_of seat) kind ∷ [])
added {R} {V} cs ss kind label seat cs2 ss2 h ec es =
    let s : Sitting = record { seat = seat; kind = kind } in
    let c : Kept R V = new_child kind label in (
      subst (λ (xs : List (Kept R V)). AreBeside xs ss2) (sym ec)
          (subst (λ (ys : List Sitting). AreBeside (cs ++ c ∷ []) ys) (sym es) (beside_more cs ss c s refl h)),
      ap (λ (xs : List (Kept R V)). children_by xs ss2) ec ∙ ap (children_by (cs ++ c ∷ [])) es ∙ children_more cs ss c s h
          ∙ ap (λ (x : Child). children_by cs ss ++ x ∷ []) (fresh_by R V kind label seat),
    )

-- ---- what ended told before

pub told_added : {R V : Type 0} (cs cs2 : List (Kept R V)) (kind : ChildKind) (label : ℕ) → AllToldIfEnded cs
    → cs2 ≡ cs ++ new_child kind label ∷ [] → AllToldIfEnded cs2
told_added {R} {V} cs cs2 kind label h e =
    subst AllToldIfEnded (sym e) (all_append ToldIfEnded cs (new_child kind label ∷ []) h (λ ended. absurd (cc), tt))

all_set : {X : Type 0} (P : X → Type 0) (xs : List X) (n : ℕ) (x : X) → AllByRecursion P xs → P x → AllByRecursion P (set xs n x)
all_set P [] n x h p = tt
all_set P (y ∷ ys) zero x h p = (p, h.1)
all_set P (y ∷ ys) (suc n) x h p = (h.0, all_set P ys n x h.1 p)

pub told_changed : {R V : Type 0} (made : Child → Child) (n : ℕ) (old new : List (Kept R V)) → ((c : Child) → (made c).told ≡ true)
    → AllToldIfEnded old → Changes made n old new → AllToldIfEnded new
told_changed {R} {V} made n old new told h c =
    subst AllToldIfEnded (sym c.is)
    (all_set ToldIfEnded old n c.now h (λ ended. ap (λ (x : Child). x.told) (c.shows (Outer 0)) ∙ told (child_by c.was (Outer 0))))

-- ---- one that changed

pub same_there : {X : Type 0} (xs : List X) (n : ℕ) (x : X) → slice_get xs n ≡ Some x → set xs n x ≡ xs
same_there {X} [] n x e = refl
same_there {X} (y ∷ ys) zero x e = let is : x ≡ y = cc in ap (λ (z : X). z ∷ ys) is
same_there {X} (y ∷ ys) (suc n) x e = ap (λ (zs : List X). y ∷ zs) (same_there ys n x e)

beside_set : {R V : Type 0} (cs : List (Kept R V)) (ss : List Sitting) (n : ℕ) (was now : Kept R V)
    → slice_get cs n ≡ Some was → now.kind ≡ was.kind → AreBeside cs ss → AreBeside (set cs n now) ss
beside_set {R} {V} [] ss n was now there e h = absurd (cc)
beside_set {R} {V} (c ∷ cs) [] n was now there e h = absurd h
beside_set {R} {V} (c ∷ cs) (s ∷ ss) zero was now there e h =
    let is : c ≡ was = cc in (e ∙ sym (ap (λ (d : Kept R V). d.kind) is) ∙ h.0, h.1)
beside_set {R} {V} (c ∷ cs) (s ∷ ss) (suc n) was now there e h = (h.0, beside_set cs ss n was now there e h.1)

abbrev IsMadeAt : (Child → Child) → ℕ → List Child → List Child → Type 0
IsMadeAt made n old new = IfSome (slice_get old n) (λ (c : Child). new ≡ set old n (made c))

made_more : (made : Child → Child) (n : ℕ) (d : Child) (old new : List Child) (there : Option Child)
    → IfSome there (λ (c : Child). new ≡ set old n (made c))
    → IfSome there (λ (c : Child). d ∷ new ≡ set (d ∷ old) (suc n) (made c))
made_more made n d old new None h = tt
made_more made n d old new (Some c) h = ap (λ (xs : List Child). d ∷ xs) h

children_set : {R V : Type 0} (made : Child → Child) (cs : List (Kept R V)) (ss : List Sitting) (n : ℕ) (was now : Kept R V)
    → slice_get cs n ≡ Some was → ((seat : Seat) → child_by now seat ≡ made (child_by was seat))
    → IsMadeAt made n (children_by cs ss) (children_by (set cs n now) ss)
children_set {R} {V} made [] ss n was now there shows = absurd (cc)
children_set {R} {V} made (c ∷ cs) [] n was now there shows = tt
children_set {R} {V} made (c ∷ cs) (s ∷ ss) zero was now there shows =
    let is : was ≡ c = cc in ap (λ (x : Child). x ∷ children_by cs ss) (shows s.seat ∙ ap (λ (d : Kept R V). made (child_by d s.seat)) is)
children_set {R} {V} made (c ∷ cs) (s ∷ ss) (suc n) was now there shows =
    made_more made n (child_by c s.seat) (children_by cs ss) (children_by (set cs n now) ss) (slice_get (children_by cs ss) n)
    (children_set made cs ss n was now there shows)

pub changed_beside : {R V : Type 0} (made : Child → Child) (n : ℕ) (old new : List (Kept R V)) (ss : List Sitting)
    → AreBeside old ss → Changes made n old new → AreBeside new ss
changed_beside {R} {V} made n old new ss h c =
    subst (λ (xs : List (Kept R V)). AreBeside xs ss) (sym c.is) (beside_set old ss n c.was c.now c.there c.kind h)

pub changed_children : {R V : Type 0} (made : Child → Child) (n : ℕ) (old new : List (Kept R V)) (ss : List Sitting)
    (seen after : List Child)
    → Changes made n old new
    → children_by old ss ≡ seen → after ≡ children_by new ss
    → IfSome (slice_get seen n) (λ (c : Child). after ≡ set seen n (made c))
changed_children {R} {V} made n old new ss seen after c es ea =
    subst (λ (xs : List Child). IfSome (slice_get xs n) (λ (d : Child). after ≡ set xs n (made d))) es
    (subst (λ (ys : List Child). IsMadeAt made n (children_by old ss) ys) (sym (ea ∙ ap (λ (xs : List (Kept R V)). children_by xs ss) c.is)) (children_set made old ss n c.was c.now c.there c.shows))

-- one change after another
set_again : {X : Type 0} (xs : List X) (n : ℕ) (x y : X) → set (set xs n x) n y ≡ set xs n y
set_again {X} [] n x y = refl
set_again {X} (z ∷ zs) zero x y = refl
set_again {X} (z ∷ zs) (suc n) x y = ap (λ (ws : List X). z ∷ ws) (set_again zs n x y)

get_set : {X : Type 0} (xs : List X) (n : ℕ) (was x : X) → slice_get xs n ≡ Some was → slice_get (set xs n x) n ≡ Some x
get_set [] n was x e = absurd (cc)
get_set (z ∷ zs) zero was x e = refl
get_set (z ∷ zs) (suc n) was x e = get_set zs n was x e

same_some : {X : Type 0} (x y : X) → Some x ≡ Some y → x ≡ y
same_some x y e = cc

pub changes_then : {R V : Type 0} (first second both : Child → Child) (n : ℕ) (old mid new : List (Kept R V))
    → ((c : Child) → second (first c) ≡ both c) → Changes first n old mid → Changes second n mid new → Changes both n old new
changes_then {R} {V} first second both n old mid new e a b =
    let same : b.was ≡ a.now =
    same_some b.was a.now (sym b.there ∙ ap (λ (xs : List (Kept R V)). slice_get xs n) a.is ∙ get_set old n a.was a.now a.there) in
    record {
      was = a.was;
      now = b.now;
      there = a.there;
      is = b.is ∙ ap (λ (xs : List (Kept R V)). set xs n b.now) a.is ∙ set_again old n a.now b.now;
      kind = b.kind ∙ ap (λ (c : Kept R V). c.kind) same ∙ a.kind;
      shows = λ seat. b.shows seat ∙ ap (λ (c : Kept R V). second (child_by c seat)) same ∙ ap second (a.shows seat)
          ∙ e (child_by a.was seat);
    }

-- ---- where a child sits

pub seat_there : {R V : Type 0} (cs : List (Kept R V)) (ss : List Sitting) (n : ℕ) (s : Sitting) → AreBeside cs ss
    → slice_get ss n ≡ Some s
    → option_map (λ (c : Child). c.seat) (slice_get (children_by cs ss) n) ≡ Some (seat_of s.seat)
seat_there [] [] n s h e = absurd (cc)
seat_there [] (t ∷ ss) n s h e = absurd h
seat_there (c ∷ cs) [] n s h e = absurd h
seat_there (c ∷ cs) (t ∷ ss) zero s h e = let is : t ≡ s = same_some t s e in ap (λ (x : Sitting). Some (seat_of x.seat)) is
seat_there (c ∷ cs) (t ∷ ss) (suc n) s h e = seat_there cs ss n s h.1 e

pub kind_there : {R V : Type 0} (cs : List (Kept R V)) (ss : List Sitting) (n : ℕ) (s : Sitting) → AreBeside cs ss
    → slice_get ss n ≡ Some s
    → option_map (λ (c : Child). c.kind) (slice_get (children_by cs ss) n) ≡ Some s.kind
kind_there [] [] n s h e = absurd (cc)
kind_there [] (t ∷ ss) n s h e = absurd h
kind_there (c ∷ cs) [] n s h e = absurd h
kind_there (c ∷ cs) (t ∷ ss) zero s h e =
    let is : t ≡ s = same_some t s e in ap (λ k. Some k) (h.0 ∙ ap (λ (x : Sitting). x.kind) is)
kind_there (c ∷ cs) (t ∷ ss) (suc n) s h e = kind_there cs ss n s h.1 e

-- ---- one that told or ended before

pub of_kind_there : {R V : Type 0} (kind : ChildKind) (o : Option (Kept R V)) → IsOfKind kind o
    → (c : Kept R V) × (o ≡ Some c) × (c.kind ≡ kind)
of_kind_there kind None h = absurd h
of_kind_there kind (Some c) h = (c, refl, h)

told_there : {R V : Type 0} (o : Option (Kept R V)) → HasTold o
    → (c : Kept R V) × (o ≡ Some c) × (needs_none c.kind || is_some c.ready ≡ true)
told_there None h = absurd h
told_there (Some c) h = (c, refl, h)

or_true : (b : Bool) → b || true ≡ true
or_true true = refl
or_true false = refl

pub stays_told : {R V : Type 0} (cs : List (Kept R V)) (n : ℕ) → HasTold (slice_get cs n) → Changes child_told n cs cs
stays_told {R} {V} cs n h =
    let t : (c : Kept R V) × (slice_get cs n ≡ Some c) × (needs_none c.kind || is_some c.ready ≡ true) =
    told_there (slice_get cs n) h in
    record {
      was = t.0;
      now = t.0;
      there = t.1;
      is = sym (same_there cs n t.0 t.1);
      kind = refl;
      shows = λ seat. let x : Child = child_by t.0 seat in λ i. record { seat = x.seat; kind = x.kind; told = t.2 i; ended = x.ended };
    }

-- a vdev child needs to tell nothing, and one with a ready value told
pub vdev_told : {R V : Type 0} (kind : ChildKind) (o : Option (Kept R V)) → IsOfKind kind o → kind ≡ Vdev → HasTold o
vdev_told kind None h e = absurd h
vdev_told kind (Some c) h e = ap (λ (k : ChildKind). needs_none k || is_some c.ready) (h ∙ e)

pub ready_told : {R V : Type 0} (kind : ChildKind) (o : Option (Kept R V)) → IsOfKind kind o
    → is_some (option_and_then (λ (c : Kept R V). c.ready) o) ≡ true → HasTold o
ready_told kind None h e = absurd h
ready_told kind (Some c) h e = ap (λ (b : Bool). needs_none c.kind || b) e ∙ or_true (needs_none c.kind)

pub copied_some : {A : Type 0} (o : Option (Bor A)) (b : Bool) → is_some o ≡ not b → b ≡ false → is_some (option_copied o) ≡ true
copied_some None b e is = e ∙ ap not is
copied_some (Some r) b e is = refl

pub stays_ended : {R V : Type 0} (cs : List (Kept R V)) (n : ℕ) → HasTold (slice_get cs n)
    → is_some (option_and_then (λ (c : Kept R V). c.done) (slice_get cs n)) ≡ true → Changes child_ended n cs cs
stays_ended {R} {V} cs n h e =
    let t : (c : Kept R V) × (slice_get cs n ≡ Some c) × (needs_none c.kind || is_some c.ready ≡ true) =
    told_there (slice_get cs n) h in
    let ended : is_some t.0.done ≡ true =
    subst (λ (o : Option (Kept R V)). is_some (option_and_then (λ (c : Kept R V). c.done) o) ≡ true) t.1 e in
    record {
      was = t.0;
      now = t.0;
      there = t.1;
      is = sym (same_there cs n t.0 t.1);
      kind = refl;
      shows = λ seat. let x : Child = child_by t.0 seat in λ i. record { seat = x.seat; kind = x.kind; told = t.2 i; ended = ended i };
    }

pub of_kind_at : {R V : Type 0} (cs : List (Kept R V)) (ss : List Sitting) (n : ℕ) (s : Sitting) → AreBeside cs ss
    → slice_get ss n ≡ Some s → IsOfKind s.kind (slice_get cs n)
of_kind_at [] [] n s h e = absurd (cc)
of_kind_at [] (t ∷ ss) n s h e = absurd h
of_kind_at (c ∷ cs) [] n s h e = absurd h
of_kind_at (c ∷ cs) (t ∷ ss) zero s h e = h.0 ∙ ap (λ (x : Sitting). x.kind) (same_some t s e)
of_kind_at (c ∷ cs) (t ∷ ss) (suc n) s h e = of_kind_at cs ss n s h.1 e

pub told_after : {R V : Type 0} (n : ℕ) (old new : List (Kept R V)) → Changes child_told n old new → HasTold (slice_get new n)
told_after {R} {V} n old new c =
    subst HasTold (sym (ap (λ (xs : List (Kept R V)). slice_get xs n) c.is ∙ get_set old n c.was c.now c.there))
    (ap (λ (x : Child). x.told) (c.shows (Outer 0)))

-- a child is added for an operation of its kind
pub added_for : (seat : SeatOf) (op : Task) (kind : ChildKind) → kind ≡ kind_of_task op → new_at seat kind ≡ child_for seat op
added_for seat op kind e = ap (new_at seat) e
