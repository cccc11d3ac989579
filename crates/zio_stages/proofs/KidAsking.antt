-- What may be asked while a request's children are out.
use Rattle.std.proofs.Common.{◌≡◌, ℕ, zero, suc, ◌≤◌, List, [], ◌∷◌, ◌++◌, length, take, refl, sym, ap, ◌∙◌, subst, arith}
use Rattle.zio_gang.specs.Attempts.{Pending, Terms}
use Rattle.zio_trace.specs.Families.{Forest, NoTrees, TreeOf}
use Rattle.zio_trace.specs.Plans.{plan_root}
use Rattle.zio_trace.specs.Tasks.{Attempt, Task}
use Rattle.zio_children.specs.RequestKids.{FitKids, root_numbers}
use Rattle.zio_children.specs.declared.kids.Kid.{Kid}
use Rattle.zio_frames.specs.Moves.{AsksNext, GoesBesideAll}
use Rattle.zio_frames.specs.Slots.{Heard, IsOut, Slot}
use Rattle.zio_exchange.specs.declared.waiting.UnfinishedRequest.{UnfinishedRequest}
use Rattle.zio_stages.specs.KidTrees.{HandsOut, IsKids, KidsHeld, attempts_of}
use Rattle.zio_stages.specs.PartsOut.{ArePartsOut}
use Rattle.zio_stages.proofs.Asking.{asks_next}
use Rattle.zio_stages.proofs.KidMoves.{numbers_count}

-- anything goes beside attempts
attempts_beside : (op : Task) (n attempt : ℕ) (forest : Forest) (slots : List Slot)
    → GoesBesideAll op (take n (attempts_of attempt forest)) slots
attempts_beside op zero attempt forest slots = tt
attempts_beside op (suc n) attempt NoTrees slots = tt
attempts_beside op (suc n) attempt (TreeOf p below others) [] = tt
attempts_beside op (suc n) attempt (TreeOf p below others) (Heard v ∷ slots) = attempts_beside op n attempt others slots
attempts_beside op (suc n) attempt (TreeOf p below others) (IsOut told ∷ slots) = (tt, attempts_beside op n attempt others slots)

pub kids_beside : (x : KidsHeld) (attempt : ℕ) (forest : Forest) (asked : List Task) (slots : List Slot) (op : Task)
    → IsKids x attempt forest asked slots → GoesBesideAll op asked slots
kids_beside x attempt forest asked slots op is =
    subst (λ (ops : List Task). GoesBesideAll op ops slots) (sym is.ops) (attempts_beside op x.kids.handed attempt forest slots)

-- those that are out are parts of the work
attempts_out : (n attempt : ℕ) (forest : Forest) (slots : List Slot) → ArePartsOut (take n (attempts_of attempt forest)) slots
attempts_out zero attempt forest slots = tt
attempts_out (suc n) attempt NoTrees slots = tt
attempts_out (suc n) attempt (TreeOf p below others) [] = tt
attempts_out (suc n) attempt (TreeOf p below others) (Heard v ∷ slots) = attempts_out n attempt others slots
attempts_out (suc n) attempt (TreeOf p below others) (IsOut told ∷ slots) = (tt, attempts_out n attempt others slots)

pub kids_out : (x : KidsHeld) (attempt : ℕ) (forest : Forest) (asked : List Task) (slots : List Slot)
    → IsKids x attempt forest asked slots → ArePartsOut asked slots
kids_out x attempt forest asked slots is =
    subst (λ (ops : List Task). ArePartsOut ops slots) (sym is.ops) (attempts_out x.kids.handed attempt forest slots)

-- own work behind them
pub beside_then : (op : Task) (asked more : List Task) (slots own : List Slot) → length asked ≡ length slots
    → GoesBesideAll op asked slots → GoesBesideAll op more own → GoesBesideAll op (asked ++ more) (slots ++ own)
beside_then op [] more [] own e h k = k
beside_then op [] more (s ∷ slots) own e h k = absurd (omega (arith, e))
beside_then op (q ∷ asked) more [] own e h k = absurd (omega (arith, e))
beside_then op (q ∷ asked) more (Heard v ∷ slots) own e h k = beside_then op asked more slots own (omega (arith, e)) h k
beside_then op (q ∷ asked) more (IsOut told ∷ slots) own e h k =
    (h.0, beside_then op asked more slots own (omega (arith, e)) h.1 k)

-- ---- how many were asked

few_slots : (kids : List Kid) (slots : List Slot) → FitKids kids slots → length slots ≤ length kids
few_slots [] [] f = omega arith
few_slots [] (s ∷ slots) f = absurd f
few_slots (k ∷ kids) [] f = omega arith
few_slots (k ∷ kids) (s ∷ slots) f = let l : length slots ≤ length kids = few_slots kids slots f.1 in omega arith

attempts_count : (attempt : ℕ) (forest : Forest) → length (attempts_of attempt forest) ≡ length (root_numbers forest)
attempts_count attempt NoTrees = refl
attempts_count attempt (TreeOf p below others) = ap suc (attempts_count attempt others)

length_taken : {X : Type 0} (n : ℕ) (xs : List X) → n ≤ length xs → length (take n xs) ≡ n
length_taken zero xs l = refl
length_taken (suc n) [] l = absurd (omega arith)
length_taken (suc n) (x ∷ xs) l = ap suc (length_taken n xs (omega arith))

-- each operation that was asked is so far
pub kids_full : (x : KidsHeld) (attempt : ℕ) (forest : Forest) (asked : List Task) (slots : List Slot)
    → IsKids x attempt forest asked slots → length asked ≡ length slots
kids_full x attempt forest asked slots is =
    let few : length slots ≤ length x.kids.kids = few_slots x.kids.kids slots is.fits in
    ap length is.ops
    ∙ length_taken x.kids.handed (attempts_of attempt forest)
    (omega (arith, few, is.all, attempts_count attempt forest, ap length is.roots, numbers_count x.kids.kids))
    ∙ sym is.all

-- ---- the next one

-- the request asks for the tree that is handed out
pub asks_kid : (t : Terms) (p : Pending) (ws : List UnfinishedRequest) (x y : KidsHeld) (attempt : ℕ) (forest : Forest)
    (asked : List Task) (slots : List Slot) (h : HandsOut ws x y attempt forest asked slots)
    → IsKids x attempt forest asked slots
    → AsksNext t (record { op = Attempt attempt p forest; asked = asked; slots = slots }) (Attempt attempt h.root h.below)
asks_kid t p ws x y attempt forest asked slots h is =
    asks_next t (record { op = Attempt attempt p forest; asked = asked; slots = slots }) (Attempt attempt h.root h.below)
    (h.asks (plan_root t attempt p))
    (kids_beside x attempt forest asked slots (Attempt attempt h.root h.below) is)
