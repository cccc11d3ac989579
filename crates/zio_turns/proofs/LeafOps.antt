-- What is in flight under the keys at the leaves does their operations there, where one of them moves.
use Rattle.std.proofs.Common.{◌≡◌, ◌≢◌, ℕ, ◌+◌, ◌<◌, List, [], slice_get, Bool, cond, Option, Some, None, ◌⊎◌, inl, inr, sym, ap, ◌∙◌, arith}
use Rattle.zio_trace.specs.Labels.{same_number}
use Rattle.zio_trace.specs.Leaves.{LeafOp}
use Rattle.zio_trace.proofs.LabelLemmas.{number_itself}
use Rattle.zio_trace.specs.Tasks.{Leaf}
use Rattle.zio_frames.specs.Frames.{Child, Flying, Stack, fresh_stack}
use Rattle.zio_frames.proofs.GetLemmas.{same_or_not}
use Rattle.zio_staged.specs.Entries.{IsWith, OneMore, times_in}
use Rattle.zio_turns.specs.Rounds.{DoTheirs, op_set}
use Rattle.zio_turns.proofs.Links.{some_is}
use Rattle.zio_turns.proofs.Queues.{more_other, more_there, number_other}

none_there : (x : Flying) → None ≡ Some x → ⊥
none_there x e = cc

not_there : (k key : ℕ) (leaves : List ℕ) → k ≡ key → times_in key leaves ≡ 0 → 0 < times_in k leaves → ⊥
not_there k key leaves i none at =
    let e : times_in k leaves ≡ times_in key leaves = ap (λ (n : ℕ). times_in n leaves) i in
    absurd (omega arith)

-- one that is at no leaf moves
pub theirs_with : (lives now : ℕ → Option Flying) (leaves : List ℕ) (ops : ℕ → LeafOp) (key : ℕ) (o : Option Flying)
    → IsWith lives key o now → times_in key leaves ≡ 0 → DoTheirs lives leaves ops → DoTheirs now leaves ops
theirs_with lives now leaves ops key o w none h = λ k x flies at. by k x flies at (same_or_not k key)
  where
    by : (k : ℕ) (x : Flying) → now k ≡ Some x → 0 < times_in k leaves → (k ≡ key) ⊎ (k ≢ key)
        → x.stack ≡ fresh_stack (Leaf (ops k))
    by k x flies at (inl i) = absurd (not_there k key leaves i none at)
    by k x flies at (inr n) = h k x (sym (w.others k n) ∙ flies) at

-- one is gone
pub theirs_without : (lives now : ℕ → Option Flying) (leaves : List ℕ) (ops : ℕ → LeafOp) (key : ℕ) → IsWith lives key None now
    → DoTheirs lives leaves ops → DoTheirs now leaves ops
theirs_without lives now leaves ops key w h = λ k x flies at. by k x flies at (same_or_not k key)
  where
    by : (k : ℕ) (x : Flying) → now k ≡ Some x → 0 < times_in k leaves → (k ≡ key) ⊎ (k ≢ key)
        → x.stack ≡ fresh_stack (Leaf (ops k))
    by k x flies at (inl i) = absurd (none_there x (sym w.there ∙ sym (ap now i) ∙ flies))
    by k x flies at (inr n) = h k x (sym (w.others k n) ∙ flies) at

no_child : (n : ℕ) (c : Child) → slice_get [] n ≡ Some c → ⊥
no_child n c e = cc

-- one that has a child moves: it is at no leaf
pub theirs_parent : (lives now : ℕ → Option Flying) (leaves : List ℕ) (ops : ℕ → LeafOp) (key : ℕ) (x : Flying)
    (o : Option Flying) (n : ℕ) (c : Child) → IsWith lives key o now → lives key ≡ Some x
    → slice_get x.stack.children n ≡ Some c → DoTheirs lives leaves ops → DoTheirs now leaves ops
theirs_parent lives now leaves ops key x o n c w there child h = λ k y flies at. by k y flies at (same_or_not k key)
  where
    by : (k : ℕ) (y : Flying) → now k ≡ Some y → 0 < times_in k leaves → (k ≡ key) ⊎ (k ≢ key)
        → y.stack ≡ fresh_stack (Leaf (ops k))
    by k y flies at (inl i) =
        let fresh : x.stack ≡ fresh_stack (Leaf (ops k)) = h k x (ap lives i ∙ there) at in
        absurd (no_child n c (sym (ap (λ (st : Stack). slice_get st.children n) fresh) ∙ child))
    by k y flies at (inr m) = h k y (sym (w.others k m) ∙ flies) at

-- one goes to a leaf
pub theirs_out : (lives : ℕ → Option Flying) (leaves leaves_now : List ℕ) (ops : ℕ → LeafOp) (key : ℕ) (x : Flying)
    (op : LeafOp) → lives key ≡ Some x → x.stack ≡ fresh_stack (Leaf op) → OneMore key leaves leaves_now
    → DoTheirs lives leaves ops → DoTheirs lives leaves_now (op_set ops key op)
theirs_out lives leaves leaves_now ops key x op there fresh more h = λ k y flies at. by k y flies at (same_or_not k key)
  where
    set_there : (k : ℕ) → k ≡ key → op_set ops key op k ≡ op
    set_there k i = ap (λ (b : Bool). cond b op (ops k)) (ap (same_number key) i ∙ number_itself key)

    by : (k : ℕ) (y : Flying) → lives k ≡ Some y → 0 < times_in k leaves_now → (k ≡ key) ⊎ (k ≢ key)
        → y.stack ≡ fresh_stack (Leaf (op_set ops key op k))
    by k y flies at (inl i) =
        let same : y ≡ x = some_is y x (sym flies ∙ ap lives i ∙ there) in
        ap (λ (z : Flying). z.stack) same ∙ fresh ∙ ap (λ (a : LeafOp). fresh_stack (Leaf a)) (sym (set_there k i))
    by k y flies at (inr n) =
        let e : times_in k leaves_now ≡ times_in k leaves = more_other key k leaves leaves_now more n in
        h k y flies (omega arith)
        ∙ ap (λ (b : Bool). fresh_stack (Leaf (cond b op (ops k)))) (sym (number_other key k (λ i. n (sym i))))

-- one comes back
pub theirs_back : (lives now : ℕ → Option Flying) (leaves rest : List ℕ) (ops : ℕ → LeafOp) (key : ℕ) (o : Option Flying)
    → IsWith lives key o now → OneMore key rest leaves → times_in key leaves ≡ 1 → DoTheirs lives leaves ops
    → DoTheirs now rest ops
theirs_back lives now leaves rest ops key o w more one h = λ k x flies at. by k x flies at (same_or_not k key)
  where
    by : (k : ℕ) (x : Flying) → now k ≡ Some x → 0 < times_in k rest → (k ≡ key) ⊎ (k ≢ key)
        → x.stack ≡ fresh_stack (Leaf (ops k))
    by k x flies at (inl i) =
        let e : times_in key leaves ≡ times_in key rest + 1 = more_there key rest leaves more in
        absurd (not_there k key rest i (omega arith) at)
    by k x flies at (inr n) =
        let e : times_in k leaves ≡ times_in k rest = more_other key k rest leaves more n in
        h k x (sym (w.others k n) ∙ flies) (omega arith)
