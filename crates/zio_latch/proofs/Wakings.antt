-- Each wait that parks gets just one wake, and each child gives each value once.
use Rattle.std.proofs.Common.{◌≡◌, ◌≢◌, ℕ, zero, suc, ◌+◌, Bool, true, false, ◌&&◌, not, ◌==◌, IsTrue, List, [], ◌∷◌, ◌++◌, length, refl, ap, ap₂, sym, ◌∙◌, subst, inl, inr, ◌⊎◌, ⊎_elim, arith, Option, Some, None, eq-eqb, length-append}
use Rattle.std.proofs.lemmas.List.{append-nil}
use Rattle.std.proofs.Math.Bool.{and-false, and-true}
use Rattle.std.proofs.lemmas.Bool.{eqb-true}
use mathlib.Core.List.{IsPrefix, append_assoc}
use Rattle.zio_types.specs.declared.request.ChildKind.{ChildKind}
use Rattle.zio_types.specs.declared.request.ChildKind.TheVariants.{Vdev, Gang, Logical}
use Rattle.zio_types.specs.declared.request.Phase.{Phase}
use Rattle.zio_types.specs.declared.request.Phase.TheVariants.{Ready, Done}
use Rattle.zio_types.specs.Machine.{Child, Count, Machine, after, count_of, fresh, is_stall, lacks, marked_at, owes_at, same_kind, same_phase, stall_is_open, stalled_unless, wakes}
use Rattle.zio_types.proofs.MachineLemmas.{stall_is_open-after}
use Rattle.zio_latch.specs.declared.view.Event.{Event}
use Rattle.zio_latch.specs.declared.view.Event.TheVariants.{Added, Gave, Waited}
use Rattle.zio_latch.specs.declared.view.Kid.{Kid}
use Rattle.zio_latch.specs.History.{AreLawful, AreOfOne, AreValues, ChildStep, IsLawful, OwnerStep, count_at, count_event, led, may_come, no_stall, state_of, value_event}
use Rattle.zio_latch.specs.Kids.{one_if}
use Rattle.zio_latch.specs.Stalls.{AreQuiet, AreQuietUntilParked, IsParkedStill, IsWokenOnce, how_many, is_parked_on, is_wake, parked_waits, parks, wakes_given}
use Rattle.zio_latch.proofs.Receipts.{of_one}
use Rattle.zio_latch.proofs.Words.{same_kind_self, same_phase_self}
use Rattle.zio_latch.proofs.Histories.{may_is, value_marks, value_stalls, waited_children, waited_stall, wakes_is, woken_stalls}

kind_is : (a b : ChildKind) → same_kind a b ≡ true → a ≡ b
kind_is Vdev Vdev h = refl
kind_is Vdev Gang h = cc
kind_is Vdev Logical h = cc
kind_is Gang Vdev h = cc
kind_is Gang Gang h = refl
kind_is Gang Logical h = cc
kind_is Logical Vdev h = cc
kind_is Logical Gang h = cc
kind_is Logical Logical h = refl

phase_is : (a b : Phase) → same_phase a b ≡ true → a ≡ b
phase_is Ready Ready h = refl
phase_is Ready Done h = cc
phase_is Done Ready h = cc
phase_is Done Done h = refl

both : (a b : Bool) → (a && b) ≡ true → (a ≡ true) × (b ≡ true)
both true b h = (refl, h)
both false b h = cc

stall_none : (s : Option Count) → IsTrue (no_stall s) → s ≡ None
stall_none None h = refl
stall_none (Some c) h = cc

-- ---- as many waits park as values wake, but for one while the owner is parked

module _ (kind : ChildKind) (phase : Phase) where
  abbrev stalls : Option Count → ℕ
  stalls s = one_if (is_stall kind phase s)

  -- what a step owes
  abbrev Even : Event → Machine → Type 0
  Even e m = one_if (parks kind phase e m) + stalls m.stall ≡ one_if (is_wake kind phase e m) + stalls (after (count_event e) m).stall

  waited_even : (k : ChildKind) (p : Phase) (b : Bool) (m : Machine) → m.stall ≡ None →
      one_if (same_kind k kind && (same_phase p phase && not b)) + stalls m.stall ≡ 0 + stalls (stalled_unless b (record { kind = k; phase = p }) m).stall
  waited_even k p true m none_ =
      ap (λ (x : Bool). one_if x + stalls m.stall) (ap (λ (x : Bool). same_kind k kind && x) (and-false (same_phase p phase)) ∙ and-false (same_kind k kind))
  waited_even k p false m none_ =
      let a = ap (λ (x : Bool). one_if (same_kind k kind && x)) (and-true (same_phase p phase)) in
      let b = ap stalls none_ in
      omega (arith, a, b)

  stalled_is : (k : ChildKind) (p : Phase) (s : Option Count) → is_stall k p s ≡ true → is_stall kind phase s ≡ (same_kind k kind && same_phase p phase)
  stalled_is k p None h = cc
  stalled_is k p (Some c) h =
      let two = both (same_kind c.kind k) (same_phase c.phase p) h in
      ap₂ (λ (x : ChildKind) (y : Phase). same_kind x kind && same_phase y phase) (kind_is c.kind k two.0) (phase_is c.phase p two.1)

  gave_even : (p : Phase) (k : ChildKind) (n : ℕ) (m : Machine) (b : Bool) → wakes (value_event p k n) m ≡ b →
      0 + stalls m.stall ≡ one_if (same_kind k kind && (same_phase p phase && b)) + stalls (after (value_event p k n) m).stall
  gave_even p k n m true w =
      let here = stalled_is k p m.stall (both (is_stall k p m.stall) (count_of k p (marked_at p n m.children) == 0) (sym (wakes_is p k n m) ∙ w)).0 in
      let a = ap one_if here in
      let c = ap (λ (x : Bool). one_if (same_kind k kind && x)) (and-true (same_phase p phase)) in
      let d = ap stalls (woken_stalls (value_event p k n) m w) in
      omega (arith, a, c, d)
  gave_even p k n m false w =
      let c = ap one_if (ap (λ (x : Bool). same_kind k kind && x) (and-false (same_phase p phase)) ∙ and-false (same_kind k kind)) in
      let d = ap stalls (value_stalls p k n m w) in
      omega (arith, c, d)

  step_even : (e : Event) (m : Machine) → IsTrue (may_come e m) → Even e m
  step_even (Added k) m may = refl
  step_even (Gave p k n) m may =
      gave_even p k n m (wakes (value_event p k n) m) refl
  step_even (Waited k p kids) m may = waited_even k p (count_of k p m.children == 0) m (stall_none m.stall may)

  even_from : (m : Machine) (log : List Event) → AreLawful m log →
      how_many (parks kind phase) m log + stalls m.stall ≡ how_many (is_wake kind phase) m log + stalls (led m log).stall
  even_from m [] l = refl
  even_from m (e ∷ es) l =
      let here = step_even e m l.0 in
      let rest = even_from (after (count_event e) m) es l.1 in
      omega (arith, here, rest)

  pub counted : (log : List Event) → IsLawful log → parked_waits kind phase log ≡ wakes_given kind phase log + one_if (is_parked_on kind phase log)
  counted log l = omega (arith, even_from fresh log l)

-- ---- a stall is open

open_from : (m : Machine) (log : List Event) → stall_is_open m ≡ true → AreLawful m log → stall_is_open (led m log) ≡ true
open_from m [] o l = o
open_from m (Added k ∷ es) o l = open_from (after (count_event (Added k)) m) es (stall_is_open-after m (count_event (Added k)) refl o) l.1
open_from m (Gave p k n ∷ es) o l = open_from (after (value_event p k n) m) es (stall_is_open-after m (value_event p k n) l.0 o) l.1
open_from m (Waited k p kids ∷ es) o l = open_from (after (count_event (Waited k p kids)) m) es (stall_is_open-after m (count_event (Waited k p kids)) refl o) l.1

not_zero : (n : ℕ) → not (n == 0) ≡ true → n ≢ 0
not_zero n h e = let f = ap not (eq-eqb n 0 e) in cc

open_is : (kind : ChildKind) (phase : Phase) (m : Machine) (s : Option Count) → m.stall ≡ s → is_stall kind phase s ≡ true → stall_is_open m ≡ true → count_of kind phase m.children ≢ 0
open_is kind phase m None e h o = cc
open_is kind phase m (Some c) e h o =
    let two = both (same_kind c.kind kind) (same_phase c.phase phase) h in
    let open_ : not (count_of c.kind c.phase m.children == 0) ≡ true = subst (λ (x : Option Count). stall_is_open (record m { stall = x }) ≡ true) e o in
    not_zero _ (subst (λ (z : ChildKind × Phase). not (count_of z.0 z.1 m.children == 0) ≡ true) (λ i. (kind_is c.kind kind two.0 i, phase_is c.phase phase two.1 i)) open_)

pub owing : (kind : ChildKind) (phase : Phase) (log : List Event) → IsLawful log → is_parked_on kind phase log ≡ true → count_at kind phase log ≢ 0
owing kind phase log l h = open_is kind phase (state_of log) (state_of log).stall refl h (open_from fresh log refl l)

-- ---- where the wake stands

led-apart : (m : Machine) (xs ys : List Event) → led m (xs ++ ys) ≡ led (led m xs) ys
led-apart m [] ys = refl
led-apart m (x ∷ xs) ys = led-apart (after (count_event x) m) xs ys

lawful_rest : (m : Machine) (xs ys : List Event) → AreLawful m (xs ++ ys) → AreLawful (led m xs) ys
lawful_rest m [] ys l = l
lawful_rest m (x ∷ xs) ys l = lawful_rest (after (count_event x) m) xs ys l.1

lawful_first : (m : Machine) (xs ys : List Event) → AreLawful m (xs ++ ys) → AreLawful m xs
lawful_first m [] ys l = tt
lawful_first m (x ∷ xs) ys l = (l.0, lawful_first (after (count_event x) m) xs ys l.1)

pub begins_lawful : (log since : List Event) → IsLawful (log ++ since) → IsLawful log
begins_lawful log since l = lawful_first fresh log since l

no_wake : (e : Event) (m : Machine) → m.stall ≡ None → wakes (count_event e) m ≡ false
no_wake (Added k) m s = refl
no_wake (Gave p k n) m s = wakes_is p k n m ∙ ap (λ (x : Option Count). is_stall k p x && (count_of k p (marked_at p n m.children) == 0)) s
no_wake (Waited k p kids) m s = refl

quiet_until : (m : Machine) (es : List Event) → m.stall ≡ None → AreQuietUntilParked m es
quiet_until m [] s = tt
quiet_until m (e ∷ es) s = (no_wake e m s, λ t. quiet_until (after (count_event e) m) es t)

module _ (kind : ChildKind) (phase : Phase) where
  abbrev here_count : Count
  here_count = record { kind = kind; phase = phase }

  abbrev Ends : Machine → List Event → Type 0
  Ends m since = IsParkedStill kind phase m since ⊎ IsWokenOnce kind phase m since

  more_values : (p : Phase) (k : ChildKind) (n : ℕ) (m : Machine) (es : List Event) → wakes (value_event p k n) m ≡ false →
      Ends (after (value_event p k n) m) es → Ends m (Gave p k n ∷ es)
  more_values p k n m es w (inl r) = inl (record { values = (refl, r.values); quiet = (w, r.quiet); owing = r.owing })
  more_values p k n m es w (inr r) = inr (record {
    until = Gave p k n ∷ r.until;
    number = r.number;
    later = r.later;
    since_is = ap (λ (l : List Event). Gave p k n ∷ l) r.since_is;
    values = (refl, r.values);
    quiet = (w, r.quiet);
    wake = r.wake;
    over = r.over;
    once = r.once;
  })

  at_once : (p : Phase) (k : ChildKind) (n : ℕ) (m : Machine) (es : List Event) → kind ≡ k → phase ≡ p → wakes (value_event phase kind n) m ≡ true →
      IsWokenOnce kind phase m (Gave p k n ∷ es)
  at_once p k n m es ek ep w = record {
    until = [];
    number = n;
    later = es;
    since_is = ap₂ (λ (x : Phase) (y : ChildKind). Gave x y n ∷ es) (sym ep) (sym ek);
    values = tt;
    quiet = tt;
    wake = w;
    over = ap (count_of kind phase) (value_marks phase kind n m) ∙ eqb-true _ 0 (both (is_stall kind phase m.stall) (count_of kind phase (marked_at phase n m.children) == 0) (sym (wakes_is phase kind n m) ∙ w)).1;
    once = quiet_until (after (value_event phase kind n) m) es (woken_stalls (value_event phase kind n) m w);
  }

  stalled_open : (m : Machine) → m.stall ≡ Some here_count → stall_is_open m ≡ true → count_of kind phase m.children ≢ 0
  stalled_open m s o = open_is kind phase m (Some here_count) s (ap₂ (λ (x y : Bool). x && y) (same_kind_self kind) (same_phase_self phase)) o

  gave_ends : (p : Phase) (k : ChildKind) (n : ℕ) (m : Machine) (es : List Event) (b : Bool) → wakes (value_event p k n) m ≡ b → m.stall ≡ Some here_count →
      (wakes (value_event p k n) m ≡ false → Ends (after (value_event p k n) m) es) → Ends m (Gave p k n ∷ es)
  gave_ends p k n m es true w s more =
      let t : is_stall k p m.stall ≡ true = (both (is_stall k p m.stall) (count_of k p (marked_at p n m.children) == 0) (sym (wakes_is p k n m) ∙ w)).0 in
      let two = both (same_kind kind k) (same_phase phase p) (sym (ap (is_stall k p) s) ∙ t) in
      let ek = kind_is kind k two.0 in
      let ep = phase_is phase p two.1 in
      inr (at_once p k n m es ek ep (ap₂ (λ (x : Phase) (y : ChildKind). wakes (value_event x y n) m) ep ek ∙ w))
  gave_ends p k n m es false w s more = more_values p k n m es w (more w)

  ends_from : (m : Machine) (since : List Event) → m.stall ≡ Some here_count → stall_is_open m ≡ true → AreLawful m since → Ends m since
  ends_from m [] s o l = inl (record { values = tt; quiet = tt; owing = stalled_open m s o })
  ends_from m (Added k ∷ es) s o l = let e : false ≡ true = sym (ap no_stall s) ∙ l.0 in cc
  ends_from m (Waited k p kids ∷ es) s o l = let e : false ≡ true = sym (ap no_stall s) ∙ l.0 in cc
  ends_from m (Gave p k n ∷ es) s o l =
      gave_ends p k n m es (wakes (value_event p k n) m) refl s
      (λ w. ends_from (after (value_event p k n) m) es (value_stalls p k n m w ∙ s) (stall_is_open-after m (value_event p k n) l.0 o) l.1)

  pub one_wake : (before since : List Event) (kids : List Kid) → IsLawful ((before ++ Waited kind phase kids ∷ []) ++ since) → count_at kind phase before ≢ 0 →
      Ends (state_of (before ++ Waited kind phase kids ∷ [])) since
  one_wake before since kids l some_ =
      let w : Event = Waited kind phase kids in
      let parked : List Event = before ++ w ∷ [] in
      let lp = begins_lawful parked since l in
      let lb = begins_lawful before (w ∷ []) lp in
      let is = led-apart fresh before (w ∷ []) in
      let may = lawful_rest fresh before (w ∷ []) lp in
      let stall = waited_stall kind phase kids (state_of before) (Some here_count) (stall_none (state_of before).stall may.0)
      (λ e. absurd (some_ (eqb-true _ 0 e))) (λ e. refl) in
      ends_from (state_of parked) since (ap (λ (m : Machine). m.stall) is ∙ stall) (open_from fresh parked refl lp) (lawful_rest fresh parked since l)

-- ---- a child gives a value once

abbrev HasMark : Phase → ℕ → List Child → Type 0
HasMark p n [] = ⊥
HasMark p zero (c ∷ cs) = lacks p c ≡ false
HasMark p (suc n) (c ∷ cs) = HasMark p n cs

mark_more : (p : Phase) (n : ℕ) (cs : List Child) (x : Child) → HasMark p n cs → HasMark p n (cs ++ x ∷ [])
mark_more p n [] x h = absurd h
mark_more p zero (c ∷ cs) x h = h
mark_more p (suc n) (c ∷ cs) x h = mark_more p n cs x h

mark_kept : (p : Phase) (n : ℕ) (q : Phase) (j : ℕ) (cs : List Child) → HasMark p n cs → HasMark p n (marked_at q j cs)
mark_kept p n q j [] h = absurd h
mark_kept Ready zero Ready zero (c ∷ cs) h = refl
mark_kept Ready zero Done zero (c ∷ cs) h = h
mark_kept Done zero Ready zero (c ∷ cs) h = h
mark_kept Done zero Done zero (c ∷ cs) h = refl
mark_kept p zero q (suc j) (c ∷ cs) h = h
mark_kept p (suc n) q zero (c ∷ cs) h = h
mark_kept p (suc n) q (suc j) (c ∷ cs) h = mark_kept p n q j cs h

mark_set : (k : ChildKind) (p : Phase) (n : ℕ) (cs : List Child) → IsTrue (owes_at k p n cs) → HasMark p n (marked_at p n cs)
mark_set k p n [] h = let e : false ≡ true = h in cc
mark_set k Ready zero (c ∷ cs) h = refl
mark_set k Done zero (c ∷ cs) h = refl
mark_set k p (suc n) (c ∷ cs) h = mark_set k p n cs h

marked_owes_none : (k : ChildKind) (p : Phase) (n : ℕ) (cs : List Child) → HasMark p n cs → IsTrue (owes_at k p n cs) → ⊥
marked_owes_none k p n [] h o = h
marked_owes_none k p zero (c ∷ cs) h o = let e : false ≡ true = sym (ap (λ (x : Bool). same_kind c.kind k && x) h ∙ and-false (same_kind c.kind k)) ∙ o in cc
marked_owes_none k p (suc n) (c ∷ cs) h o = marked_owes_none k p n cs h o

mark_after : (p : Phase) (n : ℕ) (e : Event) (m : Machine) → HasMark p n m.children → HasMark p n (after (count_event e) m).children
mark_after p n (Added k) m h = mark_more p n m.children _ h
mark_after p n (Gave q k j) m h = subst (HasMark p n) (sym (value_marks q k j m)) (mark_kept p n q j m.children h)
mark_after p n (Waited k q kids) m h = subst (HasMark p n) (sym (waited_children k q kids m)) h

none_again : (p : Phase) (k : ChildKind) (n : ℕ) (m : Machine) (es : List Event) → HasMark p n m.children → AreLawful m (es ++ Gave p k n ∷ []) → ⊥
none_again p k n m [] h l = marked_owes_none k p n m.children h (sym (may_is p k n m) ∙ l.0)
none_again p k n m (e ∷ es) h l = none_again p k n (after (count_event e) m) es (mark_after p n e m h) l.1

-- two beginnings of a history that end with this value are one
same_by : (p : Phase) (k : ChildKind) (n : ℕ) (m : Machine) (xs ys rest : List Event) → AreLawful m (ys ++ Gave p k n ∷ []) →
    (xs ++ Gave p k n ∷ []) ++ rest ≡ ys ++ Gave p k n ∷ [] → xs ≡ ys
same_by p k n m [] [] rest l e = (λ _. [])
same_by p k n m [] (y ∷ ys) rest l e =
    let y_is : y ≡ Gave p k n = cc in
    let l' = subst (λ (z : Event). AreLawful m (z ∷ (ys ++ Gave p k n ∷ []))) y_is l in
    absurd (none_again p k n (after (value_event p k n) m) ys
    (subst (HasMark p n) (sym (value_marks p k n m)) (mark_set k p n m.children (sym (may_is p k n m) ∙ l'.0))) l'.1)
same_by p k n m (x ∷ []) [] rest l e = cc
same_by p k n m (x ∷ z ∷ xs) [] rest l e = cc
same_by p k n m (x ∷ xs) (y ∷ ys) rest l e =
    let here : x ≡ y = cc in
    let more : (xs ++ Gave p k n ∷ []) ++ rest ≡ ys ++ Gave p k n ∷ [] = cc in
    let t = same_by p k n (after (count_event y) m) xs ys rest l.1 more in λ i. here i ∷ t i

before_is : (p : Phase) (k : ChildKind) (n : ℕ) (known other one two : List Event) (a b : Bool) (s : ChildStep p k n known one a) (t : ChildStep p k n other two b) →
    IsPrefix one two → s.before ≡ t.before
before_is p k n known other one two a b s t h =
    same_by p k n fresh s.before t.before h.0 (subst IsLawful t.later_is t.lawful) (ap (λ (l : List Event). l ++ h.0) (sym s.later_is) ∙ h.1 ∙ t.later_is)

pub same_step : (p : Phase) (k : ChildKind) (n : ℕ) (known other one two : List Event) (a b : Bool) → ChildStep p k n known one a → ChildStep p k n other two b →
    AreOfOne one two → (one ≡ two) × (a ≡ b)
same_step p k n known other one two a b s t order =
    let same : s.before ≡ t.before = ⊎_elim (λ h. before_is p k n known other one two a b s t h) (λ h. sym (before_is p k n other known two one b a t s h)) order in (
      s.later_is ∙ ap (λ (l : List Event). l ++ Gave p k n ∷ []) same ∙ sym t.later_is,
      sym s.wake ∙ ap (λ (l : List Event). wakes (value_event p k n) (state_of l)) same ∙ t.wake,
    )

-- the value that wakes is that of the child's answer
pub answered : (p : Phase) (k : ChildKind) (parked since known later : List Event) (woke : Bool) → IsLawful (parked ++ since) → (w : IsWokenOnce k p (state_of parked) since) →
    ChildStep p k w.number known later woke → IsPrefix later (parked ++ since) → woke ≡ true
answered p k parked since known later woke lawful w step order =
    let g : Event = Gave p k w.number in
    let whole : (parked ++ w.until) ++ g ∷ w.later ≡ parked ++ since = append_assoc parked w.until (g ∷ w.later) ∙ ap (λ (l : List Event). parked ++ l) (sym w.since_is) in
    let split : ((parked ++ w.until) ++ g ∷ []) ++ w.later ≡ parked ++ since = append_assoc (parked ++ w.until) (g ∷ []) w.later ∙ whole in
    let mine : ChildStep p k w.number (parked ++ w.until) ((parked ++ w.until) ++ g ∷ []) true = record {
      before = parked ++ w.until;
      since = ([], append-nil (parked ++ w.until));
      later_is = refl;
      lawful = begins_lawful ((parked ++ w.until) ++ g ∷ []) w.later (subst IsLawful (sym split) lawful);
      wake = ap (λ (m : Machine). wakes (value_event p k w.number) m) (led-apart fresh parked w.until) ∙ w.wake;
    } in
    (same_step p k w.number known (parked ++ w.until) later ((parked ++ w.until) ++ g ∷ []) woke true step mine (of_one (parked ++ since) later ((parked ++ w.until) ++ g ∷ []) order (w.later, split))).1

-- without a stall no value wakes
quiet_values : (m : Machine) (vs : List Event) (e : Event) (rest : List Event) → m.stall ≡ None → AreValues (vs ++ e ∷ rest) → wakes (count_event e) (led m vs) ≡ false
quiet_values m [] e rest s v = no_wake e m s
quiet_values m (Added k ∷ vs) e rest s v = let h : false ≡ true = v.0 in cc
quiet_values m (Waited k p kids ∷ vs) e rest s v = let h : false ≡ true = v.0 in cc
quiet_values m (Gave p k n ∷ vs) e rest s v =
    quiet_values (after (value_event p k n) m) vs e rest (value_stalls p k n m (no_wake (Gave p k n) m s) ∙ s) v.1

values_after : (us : List Event) (g : Event) (later : List Event) → AreValues (us ++ g ∷ later) → AreValues later
values_after [] g later v = v.1
values_after (u ∷ us) g later v = values_after us g later v.1

-- of values only one wakes
one_value : (m : Machine) (us : List Event) (g : Event) (later vs : List Event) (e : Event) (rest : List Event) → AreQuiet m us → wakes (count_event g) (led m us) ≡ true →
    AreValues later → wakes (count_event e) (led m vs) ≡ true → us ++ g ∷ later ≡ vs ++ e ∷ rest → g ≡ e
one_value m [] g later [] e rest q w v x is = cc
one_value m [] g later (u ∷ vs) e rest q w v x is =
    let here : u ≡ g = cc in
    let more : later ≡ vs ++ e ∷ rest = cc in
    let none = quiet_values (after (count_event g) m) vs e rest (woken_stalls (count_event g) m w) (subst AreValues more v) in
    let h : true ≡ false = sym (subst (λ (z : Event). wakes (count_event e) (led (after (count_event z) m) vs) ≡ true) here x) ∙ none in cc
one_value m (u ∷ us) g later [] e rest q w v x is =
    let here : u ≡ e = cc in
    let h : true ≡ false = sym (subst (λ (z : Event). wakes (count_event z) m ≡ true) (sym here) x) ∙ q.0 in cc
one_value m (u ∷ us) g later (y ∷ vs) e rest q w v x is =
    let here : y ≡ u = cc in
    let more : us ++ g ∷ later ≡ vs ++ e ∷ rest = cc in
    one_value (after (count_event u) m) us g later vs e rest q.1 w v (subst (λ (z : Event). wakes (count_event e) (led (after (count_event z) m) vs) ≡ true) here x) more

without : (xs ys zs : List Event) → xs ++ ys ≡ xs ++ zs → ys ≡ zs
without [] ys zs e = e
without (x ∷ xs) ys zs e = let more : xs ++ ys ≡ xs ++ zs = cc in without xs ys zs more

-- while the owner rests no other answer is a wake
pub only_answer : (p : Phase) (k : ChildKind) (parked since : List Event) (w : IsWokenOnce k p (state_of parked) since) → AreValues since →
    (q : Phase) (j : ChildKind) (n : ℕ) (known later : List Event) (s : ChildStep q j n known later true) → IsPrefix parked s.before → IsPrefix later (parked ++ since) →
    (q ≡ p) × (j ≡ k) × (n ≡ w.number)
only_answer p k parked since w values q j n known later s from within =
    let g : Event = Gave p k w.number in
    let e : Event = Gave q j n in
    let vs : List Event = from.0 in
    let before : parked ++ vs ≡ s.before = from.1 in
    let whole : parked ++ (vs ++ e ∷ within.0) ≡ parked ++ since =
    sym (append_assoc parked vs (e ∷ within.0)) ∙ ap (λ (l : List Event). l ++ e ∷ within.0) before ∙ sym (append_assoc s.before (e ∷ []) within.0)
    ∙ ap (λ (l : List Event). l ++ within.0) (sym s.later_is) ∙ within.1 in
    let split : w.until ++ g ∷ w.later ≡ vs ++ e ∷ within.0 = sym w.since_is ∙ sym (without parked (vs ++ e ∷ within.0) since whole) in
    let woke : wakes (count_event e) (led (state_of parked) vs) ≡ true =
    ap (λ (m : Machine). wakes (value_event q j n) m) (sym (led-apart fresh parked vs) ∙ ap state_of before) ∙ s.wake in
    let same : g ≡ e = one_value (state_of parked) w.until g w.later vs e within.0 w.quiet w.wake (values_after w.until g w.later (subst AreValues w.since_is values)) woke split in
    ((cc), (cc), (cc))

-- ---- a step is news

longer : (known rest before later : List Event) (e : Event) → known ++ rest ≡ before → later ≡ before ++ e ∷ [] → later ≢ known
longer known rest before later e a b same =
    let x = ap length a in let y = length-append known rest in let z = ap length b in let w = length-append before (e ∷ []) in let s = ap length same in
    omega arith

pub child_news : (phase : Phase) (kind : ChildKind) (n : ℕ) (known later : List Event) (woke : Bool) → ChildStep phase kind n known later woke → later ≢ known
child_news phase kind n known later woke s = longer known s.since.0 s.before later (Gave phase kind n) s.since.1 s.later_is

pub owner_news : (event : Event) (known later : List Event) → OwnerStep event known later → later ≢ known
owner_news event known later s = longer known s.since.0 s.before later event s.since.2 s.later_is
