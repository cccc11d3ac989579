-- What is said of a request's plan behind its children's attempts, whatever their attempts are answered that are out, or once
-- each told which pointer it will have.
use Rattle.std.proofs.Common.{◌≡◌, ℕ, List, [], ◌∷◌, ◌++◌, length, map, reverse, true, false, Option, Some, None, refl, sym, ap, subst, ◌∙◌, arith}
use Rattle.std.specs.List.{list_all}
use Rattle.std.proofs.lemmas.Bool.{and_parts}
use Rattle.std.proofs.lemmas.List.{reverse-append}
use Rattle.zio_blkptr.specs.declared.pointer.Bp.{Bp}
use Rattle.zio_gang.specs.Attempts.{Child, Return, children_of}
use Rattle.zio_trace.specs.Calls.{FitsEarly}
use Rattle.zio_trace.specs.Families.{Forest, NoTrees, TreeOf}
use Rattle.zio_trace.specs.Plans.{Kids, TaskPlan, add_kid, plan_kids}
use Rattle.zio_trace.specs.Programs.{Ends, Asks, ◌>>=◌}
use Rattle.zio_trace.specs.Tasks.{Attempt, AttemptedBy, One, Task, Value, attempted}
use Rattle.zio_trace.specs.Underway.{early}
use Rattle.zio_frames.specs.Answering.{IsAnswerTo}
use Rattle.zio_frames.specs.Slots.{Heard, IsOut, Slot, left_behind_slots, told_in}
use Rattle.zio_frames.proofs.SlotMoves.{bind_assoc}
use Rattle.zio_children.specs.RequestKids.{FitKids, FitsState, bare_child, child_of, has_told, is_told, kept_as, numbers_of, pointer_by, return_by, root_numbers}
use Rattle.zio_children.specs.declared.kids.Kid.{Kid}
use Rattle.zio_children.specs.declared.kids.KidState.{KidState}
use Rattle.zio_children.specs.declared.kids.KidState.TheVariants.{Due, Out, Told, Ended}

-- with the first child's value put in, the others' plan goes on
then_others : (attempt : ℕ) (others : Forest) (v : Value) (f : Kids → TaskPlan Value) →
    ((plan_kids attempt others >>= λ o. Ends (add_kid (attempted v) o)) >>= f) ≡ (plan_kids attempt others >>= λ o. f (add_kid (attempted v) o))
then_others attempt others v f = bind_assoc (plan_kids attempt others) (λ o. Ends (add_kid (attempted v) o)) f

-- ---- what they told

-- numbers and pointers of returns
abbrev pub told_by : List Return → List Child
told_by returns = map bare_child (children_of returns)

told_more : (returns : List Return) (r : Return) → told_by (returns ++ r ∷ []) ≡ told_by returns ++ bare_child r.child ∷ []
told_more [] r = refl
told_more (q ∷ returns) r = ap (λ cs. bare_child q.child ∷ cs) (told_more returns r)

-- the first child stands last
told_first : (one : One) (o : Kids) (k : Kid) (kids : List Kid) → bare_child one.return.child ≡ bare_child (child_of (kept_as k)) → told_by o.returns ≡ told_by (reverse (map return_by kids))
    → told_by (add_kid one o).returns ≡ told_by (reverse (map return_by (k ∷ kids)))
told_first one o k kids e h =
    told_more o.returns one.return
    ∙ ap (λ cs. cs ++ bare_child one.return.child ∷ []) h
    ∙ ap (λ c. told_by (reverse (map return_by kids)) ++ c ∷ []) e
    ∙ sym (told_more (reverse (map return_by kids)) (return_by k))
    ∙ ap told_by (sym (reverse-append (return_by k ∷ []) (map return_by kids)))

-- what a slot tells of a child that told its pointer
abbrev KnowsOf : ℕ → Option Bp → Slot → Type 0
KnowsOf number pointer (IsOut told) = told ≡ Some pointer
KnowsOf number pointer (Heard v) = (one : One) × (v ≡ AttemptedBy one) × (one.return.child.number ≡ number) × (one.return.child.pointer ≡ pointer)

known_of : (number : ℕ) (state : KidState) (slot : Slot) → has_told state ≡ true → FitsState number state slot → KnowsOf number (pointer_by state) slot
known_of number Due slot t f = absurd f
known_of number Out slot t f = absurd (cc)
known_of number (Told pointer) slot t f = subst (KnowsOf number pointer) (sym f) refl
known_of number (Ended bits error pointer) slot t f =
    subst (KnowsOf number pointer) (sym f.1) (f.0, refl, ap (λ (c : Child). c.number) f.2.same_child, ap (λ (c : Child). c.pointer) f.2.same_child)

bare_is : (c : Child) (k : Kid) → c.number ≡ k.number → c.pointer ≡ pointer_by k.state → bare_child c ≡ bare_child (child_of (kept_as k))
bare_is c k n p = λ i. record { number = n i; error = None; pointer = p i }

-- whatever of its kind the attempt of a child that told its pointer is answered, it hands on that pointer
told_early : (told : Option (Option Bp)) (pointer : Option Bp) (v : Value) (one : One) → told ≡ Some pointer → v ≡ AttemptedBy one → FitsEarly early told v → one.return.child.pointer ≡ pointer
told_early None pointer v one t e h = absurd (cc)
told_early (Some q) pointer v one t e h = let same : q ≡ pointer = cc in sym (ap early e) ∙ h ∙ same

heads : (m n : ℕ) (ms ns : List ℕ) → m ∷ ms ≡ n ∷ ns → m ≡ n
heads m n ms ns e = cc

tails : (m n : ℕ) (ms ns : List ℕ) → m ∷ ms ≡ n ∷ ns → ms ≡ ns
tails m n ms ns e = cc

-- ---- behind them

-- what holds of a plan behind operations that are out holds with one more before them, if it does whatever of its kind that
-- one is answered
abbrev pub HoldsBehind : (List (Option (Option Bp)) → TaskPlan Value → Type 0) → Type 0
HoldsBehind Q =
    (told : Option (Option Bp)) (outs : List (Option (Option Bp))) (next : Task) (more : Value → TaskPlan Value)
    → ((v : Value) → IsAnswerTo next v → FitsEarly early told v → Q outs (more v)) → Q (told ∷ outs) (Asks next more)

pub behind_whatever : (Q : List (Option (Option Bp)) → TaskPlan Value → Type 0) → HoldsBehind Q → (attempt : ℕ) (forest : Forest) (slots own : List Slot) (f : Kids → TaskPlan Value)
    → length slots ≡ length (root_numbers forest) → ((k : Kids) → Q (told_in own) (left_behind_slots own (f k)))
    → Q (told_in (slots ++ own)) (left_behind_slots (slots ++ own) (plan_kids attempt forest >>= f))
behind_whatever Q behind attempt NoTrees [] own f e h = h (record { returns = []; ended = []; again = []; left = NoTrees })
behind_whatever Q behind attempt NoTrees (s ∷ slots) own f e h = absurd (omega arith)
behind_whatever Q behind attempt (TreeOf p below others) [] own f e h = absurd (omega arith)
behind_whatever Q behind attempt (TreeOf p below others) (Heard v ∷ slots) own f e h =
    subst (λ q. Q (told_in (slots ++ own)) (left_behind_slots (slots ++ own) q)) (sym (then_others attempt others v f))
    (behind_whatever Q behind attempt others slots own (λ o. f (add_kid (attempted v) o)) (omega arith) (λ o. h (add_kid (attempted v) o)))
behind_whatever Q behind attempt (TreeOf p below others) (IsOut told ∷ slots) own f e h =
    behind told (told_in (slots ++ own)) (Attempt attempt p below) (λ v. left_behind_slots (slots ++ own) ((plan_kids attempt others >>= λ o. Ends (add_kid (attempted v) o)) >>= f)) (λ v kind fits.
    subst (λ q. Q (told_in (slots ++ own)) (left_behind_slots (slots ++ own) q)) (sym (then_others attempt others v f))
    (behind_whatever Q behind attempt others slots own (λ o. f (add_kid (attempted v) o)) (omega arith) (λ o. h (add_kid (attempted v) o))))

pub behind_told : (Q : List (Option (Option Bp)) → TaskPlan Value → Type 0) → HoldsBehind Q → (attempt : ℕ) (forest : Forest) (kids : List Kid) (slots own : List Slot) (f : Kids → TaskPlan Value)
    → FitKids kids slots → root_numbers forest ≡ numbers_of kids → list_all is_told kids ≡ true
    → ((k : Kids) → told_by k.returns ≡ told_by (reverse (map return_by kids)) → Q (told_in own) (left_behind_slots own (f k)))
    → Q (told_in (slots ++ own)) (left_behind_slots (slots ++ own) (plan_kids attempt forest >>= f))
behind_told Q behind attempt NoTrees [] [] own f fit r t h = h (record { returns = []; ended = []; again = []; left = NoTrees }) refl
behind_told Q behind attempt NoTrees [] (s ∷ slots) own f fit r t h = absurd fit
behind_told Q behind attempt NoTrees (k ∷ kids) slots own f fit r t h = absurd (cc)
behind_told Q behind attempt (TreeOf p below others) [] slots own f fit r t h = absurd (cc)
behind_told Q behind attempt (TreeOf p below others) (k ∷ kids) [] own f fit r t h =
    let no : false ≡ true = ap has_told (sym fit.0) ∙ (and_parts (is_told k) (list_all is_told kids) t).0 in absurd (cc)
behind_told Q behind attempt (TreeOf p below others) (k ∷ kids) (Heard v ∷ slots) own f fit r t h =
    let both = and_parts (is_told k) (list_all is_told kids) t in
    let w = known_of k.number k.state (Heard v) both.0 fit.0 in
    let bare : bare_child (attempted v).return.child ≡ bare_child (child_of (kept_as k)) =
    ap (λ u. bare_child (attempted u).return.child) w.1 ∙ bare_is w.0.return.child k w.2 w.3 in
    subst (λ q. Q (told_in (slots ++ own)) (left_behind_slots (slots ++ own) q)) (sym (then_others attempt others v f))
    (behind_told Q behind attempt others kids slots own (λ o. f (add_kid (attempted v) o)) fit.1 (tails p.request.number k.number (root_numbers others) (numbers_of kids) r) both.1
    (λ o same. h (add_kid (attempted v) o) (told_first (attempted v) o k kids bare same)))
behind_told Q behind attempt (TreeOf p below others) (k ∷ kids) (IsOut told ∷ slots) own f fit r t h =
    behind told (told_in (slots ++ own)) (Attempt attempt p below) (λ v. left_behind_slots (slots ++ own) ((plan_kids attempt others >>= λ o. Ends (add_kid (attempted v) o)) >>= f)) (λ v kind fits.
    let both = and_parts (is_told k) (list_all is_told kids) t in
    let knows : told ≡ Some (pointer_by k.state) = known_of k.number k.state (IsOut told) both.0 fit.0 in
    let number : kind.0.return.child.number ≡ k.number = kind.2 ∙ heads p.request.number k.number (root_numbers others) (numbers_of kids) r in
    let bare : bare_child (attempted v).return.child ≡ bare_child (child_of (kept_as k)) =
    ap (λ u. bare_child (attempted u).return.child) kind.1 ∙ bare_is kind.0.return.child k number (told_early told (pointer_by k.state) v kind.0 knows kind.1 fits) in
    subst (λ q. Q (told_in (slots ++ own)) (left_behind_slots (slots ++ own) q)) (sym (then_others attempt others v f))
    (behind_told Q behind attempt others kids slots own (λ o. f (add_kid (attempted v) o)) fit.1 (tails p.request.number k.number (root_numbers others) (numbers_of kids) r) both.1
    (λ o same. h (add_kid (attempted v) o) (told_first (attempted v) o k kids bare same))))
