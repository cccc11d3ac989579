-- The children in a request's plan: they are its first operations, and its own work goes on behind them.
use Rattle.std.proofs.Common.{◌≡◌, ℕ, zero, suc, List, [], ◌∷◌, ◌++◌, length, map, reverse, slice_get, true, false, Option, Some, None, refl, sym, ap, subst, ◌∙◌, arith}
use Rattle.std.specs.List.{list_all}
use Rattle.std.proofs.lemmas.Bool.{and_parts}
use Rattle.std.proofs.lemmas.List.{reverse-append}
use Rattle.zio_blkptr.specs.declared.pointer.Bp.{Bp}
use Rattle.zio_gang.specs.Attempts.{Child, Pending, Return, children_of}
use Rattle.zio_trace.specs.Calls.{FitsEarly}
use Rattle.zio_trace.specs.Families.{Forest, NoTrees, TreeOf}
use Rattle.zio_trace.specs.Plans.{Kids, TaskPlan, add_kid, plan_kids}
use Rattle.zio_trace.specs.Programs.{Ends, Asks, ◌>>=◌}
use Rattle.zio_trace.specs.Tasks.{Attempt, AttemptedBy, One, Task, Value, attempted}
use Rattle.zio_trace.specs.Underway.{early}
use Rattle.zio_frames.specs.Answering.{AsksBehindAnswers}
use Rattle.zio_children.specs.RequestKids.{FitKids, FitsState, IsTreeAt, bare_child, child_of, has_ended, has_told, is_ended, is_told, kept_as, kids_by, numbers_of, pointer_by, return_by, root_numbers}
use Rattle.zio_frames.specs.Slots.{AsksBehindSlots, Heard, IsOut, Slot, left_behind_slots, told_in}
use Rattle.zio_children.specs.declared.kids.Kid.{Kid}
use Rattle.zio_children.specs.declared.kids.KidState.{KidState}
use Rattle.zio_children.specs.declared.kids.KidState.TheVariants.{Due, Out, Told, Ended}
use Rattle.zio_frames.proofs.SlotMoves.{bind_assoc}
use Rattle.zio_frames.proofs.SlotLemmas.{AsksTasks, asks_then, next_behind_slots}

-- ---- the next one

-- the attempts of some trees
abbrev attempts_of : ℕ → Forest → List Task
attempts_of attempt NoTrees = []
attempts_of attempt (TreeOf p below others) = Attempt attempt p below ∷ attempts_of attempt others

kids_ask : (attempt : ℕ) (forest : Forest) → AsksTasks (attempts_of attempt forest) (plan_kids attempt forest)
kids_ask attempt NoTrees = tt
kids_ask attempt (TreeOf p below others) = (refl, λ v. asks_then (attempts_of attempt others) (plan_kids attempt others) (λ o. Ends (add_kid (attempted v) o)) (kids_ask attempt others))

get_attempt : (attempt n : ℕ) (forest : Forest) (p : Pending) (below : Forest) → IsTreeAt n forest p below → slice_get (attempts_of attempt forest) n ≡ Some (Attempt attempt p below)
get_attempt attempt n NoTrees p below h = absurd h
get_attempt attempt zero (TreeOf q kids others) p below h = λ i. Some (Attempt attempt (h.0 i) (h.1 i))
get_attempt attempt (suc n) (TreeOf q kids others) p below h = get_attempt attempt n others p below h

pub next_kid : (slots : List Slot) (n attempt : ℕ) (forest : Forest) (p : Pending) (below : Forest) (f : Kids → TaskPlan Value) → length slots ≡ n → IsTreeAt n forest p below
    → AsksBehindSlots slots (plan_kids attempt forest >>= f) (Attempt attempt p below)
next_kid slots n attempt forest p below f e h =
    next_behind_slots (attempts_of attempt forest) slots (Attempt attempt p below) (plan_kids attempt forest >>= f)
    (asks_then (attempts_of attempt forest) (plan_kids attempt forest) f (kids_ask attempt forest))
    (get_attempt attempt (length slots) forest p below (subst (λ k. IsTreeAt k forest p below) (sym e) h))

-- ---- own work behind them

-- with the first child's value put in, the others' plan goes on
then_others : (attempt : ℕ) (others : Forest) (v : Value) (f : Kids → TaskPlan Value) →
    ((plan_kids attempt others >>= λ o. Ends (add_kid (attempted v) o)) >>= f) ≡ (plan_kids attempt others >>= λ o. f (add_kid (attempted v) o))
then_others attempt others v f = bind_assoc (plan_kids attempt others) (λ o. Ends (add_kid (attempted v) o)) f

pub kids_first : (attempt : ℕ) (forest : Forest) (slots own : List Slot) (f : Kids → TaskPlan Value) → length slots ≡ length (root_numbers forest)
    → left_behind_slots (slots ++ own) (plan_kids attempt forest >>= f) ≡ left_behind_slots slots (plan_kids attempt forest >>= λ k. left_behind_slots own (f k))
kids_first attempt NoTrees [] own f e = refl
kids_first attempt NoTrees (s ∷ slots) own f e = absurd (omega arith)
kids_first attempt (TreeOf p below others) [] own f e = absurd (omega arith)
kids_first attempt (TreeOf p below others) (Heard v ∷ slots) own f e =
    ap (λ q. left_behind_slots (slots ++ own) q) (then_others attempt others v f)
    ∙ kids_first attempt others slots own (λ o. f (add_kid (attempted v) o)) (omega arith)
    ∙ ap (λ q. left_behind_slots slots q) (sym (then_others attempt others v (λ k. left_behind_slots own (f k))))
kids_first attempt (TreeOf p below others) (IsOut told ∷ slots) own f e = λ i. Asks (Attempt attempt p below) (λ v.
    (ap (λ q. left_behind_slots (slots ++ own) q) (then_others attempt others v f)
    ∙ kids_first attempt others slots own (λ o. f (add_kid (attempted v) o)) (omega arith)
    ∙ ap (λ q. left_behind_slots slots q) (sym (then_others attempt others v (λ k. left_behind_slots own (f k))))) i)

pub asked_whatever : (attempt : ℕ) (forest : Forest) (slots own : List Slot) (f : Kids → TaskPlan Value) (op : Task) → length slots ≡ length (root_numbers forest)
    → ((k : Kids) → AsksBehindSlots own (f k) op) → AsksBehindSlots (slots ++ own) (plan_kids attempt forest >>= f) op
asked_whatever attempt NoTrees [] own f op e h = h (record { returns = []; ended = []; again = []; left = NoTrees })
asked_whatever attempt NoTrees (s ∷ slots) own f op e h = absurd (omega arith)
asked_whatever attempt (TreeOf p below others) [] own f op e h = absurd (omega arith)
asked_whatever attempt (TreeOf p below others) (Heard v ∷ slots) own f op e h =
    subst (λ q. AsksBehindSlots (slots ++ own) q op) (sym (then_others attempt others v f))
    (asked_whatever attempt others slots own (λ o. f (add_kid (attempted v) o)) op (omega arith) (λ o. h (add_kid (attempted v) o)))
asked_whatever attempt (TreeOf p below others) (IsOut told ∷ slots) own f op e h = λ v _.
    subst (λ q. AsksBehindSlots (slots ++ own) q op) (sym (then_others attempt others v f))
    (asked_whatever attempt others slots own (λ o. f (add_kid (attempted v) o)) op (omega arith) (λ o. h (add_kid (attempted v) o)))

pub kids_heard : (attempt : ℕ) (forest : Forest) (slots own : List Slot) (f : Kids → TaskPlan Value) → length slots ≡ length (root_numbers forest) → told_in slots ≡ []
    → left_behind_slots (slots ++ own) (plan_kids attempt forest >>= f) ≡ left_behind_slots own (f (kids_by slots))
kids_heard attempt NoTrees [] own f e h = refl
kids_heard attempt NoTrees (s ∷ slots) own f e h = absurd (omega arith)
kids_heard attempt (TreeOf p below others) [] own f e h = absurd (omega arith)
kids_heard attempt (TreeOf p below others) (Heard v ∷ slots) own f e h =
    ap (λ q. left_behind_slots (slots ++ own) q) (then_others attempt others v f)
    ∙ kids_heard attempt others slots own (λ o. f (add_kid (attempted v) o)) (omega arith) h
kids_heard attempt (TreeOf p below others) (IsOut told ∷ slots) own f e h = absurd (cc)

-- ---- what they told

-- numbers and pointers of returns
abbrev pub told_by : List Return → List Child
told_by returns = map bare_child (children_of returns)

told_more : (returns : List Return) (r : Return) → told_by (returns ++ r ∷ []) ≡ told_by returns ++ bare_child r.child ∷ []
told_more [] r = refl
told_more (q ∷ returns) r = ap (λ cs. bare_child q.child ∷ cs) (told_more returns r)

-- the first child stands last
told_first : (one : One) (o : Kids) (k : Kid) (kids : List Kid) → bare_child one.return.child ≡ bare_child (child_of (kept_as k)) → told_by o.returns ≡ told_by (reverse (map return_by kids))
    → told_by (add_kid one o).returns ≡ told_by (reverse (map return_by (k ∷ kids)))
told_first one o k kids e h =
    told_more o.returns one.return
    ∙ ap (λ cs. cs ++ bare_child one.return.child ∷ []) h
    ∙ ap (λ c. told_by (reverse (map return_by kids)) ++ c ∷ []) e
    ∙ sym (told_more (reverse (map return_by kids)) (return_by k))
    ∙ ap told_by (sym (reverse-append (return_by k ∷ []) (map return_by kids)))

-- what a slot tells of a child that told its pointer
abbrev KnowsOf : ℕ → Option Bp → Slot → Type 0
KnowsOf number pointer (IsOut told) = told ≡ Some pointer
KnowsOf number pointer (Heard v) = (one : One) × (v ≡ AttemptedBy one) × (one.return.child.number ≡ number) × (one.return.child.pointer ≡ pointer)

known_of : (number : ℕ) (state : KidState) (slot : Slot) → has_told state ≡ true → FitsState number state slot → KnowsOf number (pointer_by state) slot
known_of number Due slot t f = absurd f
known_of number Out slot t f = absurd (cc)
known_of number (Told pointer) slot t f = subst (KnowsOf number pointer) (sym f) refl
known_of number (Ended bits error pointer) slot t f =
    subst (KnowsOf number pointer) (sym f.1) (f.0, refl, ap (λ (c : Child). c.number) f.2.same_child, ap (λ (c : Child). c.pointer) f.2.same_child)

bare_is : (c : Child) (k : Kid) → c.number ≡ k.number → c.pointer ≡ pointer_by k.state → bare_child c ≡ bare_child (child_of (kept_as k))
bare_is c k n p = λ i. record { number = n i; error = None; pointer = p i }

-- whatever of its kind the attempt of a child that told its pointer is answered, it hands on that pointer
told_early : (told : Option (Option Bp)) (pointer : Option Bp) (v : Value) (one : One) → told ≡ Some pointer → v ≡ AttemptedBy one → FitsEarly early told v → one.return.child.pointer ≡ pointer
told_early None pointer v one t e h = absurd (cc)
told_early (Some q) pointer v one t e h = let same : q ≡ pointer = cc in sym (ap early e) ∙ h ∙ same

heads : (m n : ℕ) (ms ns : List ℕ) → m ∷ ms ≡ n ∷ ns → m ≡ n
heads m n ms ns e = cc

tails : (m n : ℕ) (ms ns : List ℕ) → m ∷ ms ≡ n ∷ ns → ms ≡ ns
tails m n ms ns e = cc

pub asked_told : (attempt : ℕ) (forest : Forest) (kids : List Kid) (slots own : List Slot) (f : Kids → TaskPlan Value) (op : Task) → FitKids kids slots → root_numbers forest ≡ numbers_of kids
    → list_all is_told kids ≡ true → ((k : Kids) → told_by k.returns ≡ told_by (reverse (map return_by kids)) → AsksBehindAnswers own (f k) op)
    → AsksBehindAnswers (slots ++ own) (plan_kids attempt forest >>= f) op
asked_told attempt NoTrees [] [] own f op fit r t h = h (record { returns = []; ended = []; again = []; left = NoTrees }) refl
asked_told attempt NoTrees [] (s ∷ slots) own f op fit r t h = absurd fit
asked_told attempt NoTrees (k ∷ kids) slots own f op fit r t h = absurd (cc)
asked_told attempt (TreeOf p below others) [] slots own f op fit r t h = absurd (cc)
asked_told attempt (TreeOf p below others) (k ∷ kids) [] own f op fit r t h =
    let no : false ≡ true = ap has_told (sym fit.0) ∙ (and_parts (is_told k) (list_all is_told kids) t).0 in absurd (cc)
asked_told attempt (TreeOf p below others) (k ∷ kids) (Heard v ∷ slots) own f op fit r t h =
    let both = and_parts (is_told k) (list_all is_told kids) t in
    let w = known_of k.number k.state (Heard v) both.0 fit.0 in
    let bare : bare_child (attempted v).return.child ≡ bare_child (child_of (kept_as k)) =
    ap (λ u. bare_child (attempted u).return.child) w.1 ∙ bare_is w.0.return.child k w.2 w.3 in
    subst (λ q. AsksBehindAnswers (slots ++ own) q op) (sym (then_others attempt others v f))
    (asked_told attempt others kids slots own (λ o. f (add_kid (attempted v) o)) op fit.1 (tails p.request.number k.number (root_numbers others) (numbers_of kids) r) both.1
    (λ o same. h (add_kid (attempted v) o) (told_first (attempted v) o k kids bare same)))
asked_told attempt (TreeOf p below others) (k ∷ kids) (IsOut told ∷ slots) own f op fit r t h = λ v kind fits.
    let both = and_parts (is_told k) (list_all is_told kids) t in
    let knows : told ≡ Some (pointer_by k.state) = known_of k.number k.state (IsOut told) both.0 fit.0 in
    let number : kind.0.return.child.number ≡ k.number = kind.2 ∙ heads p.request.number k.number (root_numbers others) (numbers_of kids) r in
    let bare : bare_child (attempted v).return.child ≡ bare_child (child_of (kept_as k)) =
    ap (λ u. bare_child (attempted u).return.child) kind.1 ∙ bare_is kind.0.return.child k number (told_early told (pointer_by k.state) v kind.0 knows kind.1 fits) in
    subst (λ q. AsksBehindAnswers (slots ++ own) q op) (sym (then_others attempt others v f))
    (asked_told attempt others kids slots own (λ o. f (add_kid (attempted v) o)) op fit.1 (tails p.request.number k.number (root_numbers others) (numbers_of kids) r) both.1
    (λ o same. h (add_kid (attempted v) o) (told_first (attempted v) o k kids bare same)))

-- ---- all ended

ended_told : (state : KidState) → has_ended state ≡ true → has_told state ≡ true
ended_told Due e = e
ended_told Out e = e
ended_told (Told pointer) e = refl
ended_told (Ended bits error pointer) e = refl

pub not_out : (number : ℕ) (state : KidState) (told : Option (Option Bp)) → has_ended state ≡ true → FitsState number state (IsOut told) → ⊥
not_out number Due told e f = f
not_out number Out told e f = cc
not_out number (Told pointer) told e f = cc
not_out number (Ended bits error pointer) told e f = let no : IsOut told ≡ Heard (AttemptedBy f.0) = f.1 in cc

pub all_heard : (kids : List Kid) (slots : List Slot) → FitKids kids slots → list_all is_ended kids ≡ true → told_in slots ≡ []
all_heard [] [] fit e = refl
all_heard [] (s ∷ slots) fit e = absurd fit
all_heard (k ∷ kids) [] fit e = refl
all_heard (k ∷ kids) (Heard v ∷ slots) fit e = all_heard kids slots fit.1 (and_parts (is_ended k) (list_all is_ended kids) e).1
all_heard (k ∷ kids) (IsOut told ∷ slots) fit e = absurd (not_out k.number k.state told (and_parts (is_ended k) (list_all is_ended kids) e).0 fit.0)

pub ended_length : (kids : List Kid) (slots : List Slot) → FitKids kids slots → list_all is_ended kids ≡ true → length slots ≡ length kids
ended_length [] [] fit e = refl
ended_length [] (s ∷ slots) fit e = absurd fit
ended_length (k ∷ kids) [] fit e =
    let no : false ≡ true = ap has_ended (sym fit.0) ∙ (and_parts (is_ended k) (list_all is_ended kids) e).0 in absurd (cc)
ended_length (k ∷ kids) (s ∷ slots) fit e =
    let same : length slots ≡ length kids = ended_length kids slots fit.1 (and_parts (is_ended k) (list_all is_ended kids) e).1 in omega arith

pub numbers_length : (kids : List Kid) → length (numbers_of kids) ≡ length kids
numbers_length [] = refl
numbers_length (k ∷ kids) = let same : length (numbers_of kids) ≡ length kids = numbers_length kids in omega arith

pub kids_ended : (kids : List Kid) (attempt : ℕ) (forest : Forest) (slots own : List Slot) (f : Kids → TaskPlan Value) → FitKids kids slots → root_numbers forest ≡ numbers_of kids
    → list_all is_ended kids ≡ true → left_behind_slots (slots ++ own) (plan_kids attempt forest >>= f) ≡ left_behind_slots own (f (kids_by slots))
kids_ended kids attempt forest slots own f fit r e =
    kids_heard attempt forest slots own f (ended_length kids slots fit e ∙ sym (numbers_length kids) ∙ ap length (sym r)) (all_heard kids slots fit e)
