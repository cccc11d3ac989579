-- How often nodes run, from stage to stage, and which of their children are missing.
use Rattle.std.proofs.Common.{◌≡◌, ℕ, zero, suc, mul-suc, ap, ◌∙◌, ◌-◌, ◌*◌, ◌≤◌, ◌+◌, ◌<◌, List, [], ◌∷◌, Bool, true, false, cond, ◌&&◌, ◌||◌, not, Some, None, refl, arith}
use Rattle.std.specs.List.{list_any}
use Rattle.zio_types.specs.declared.request.ChildKind.{ChildKind}
use Rattle.zio_types.specs.declared.request.ChildKind.TheVariants.{Vdev}
use Rattle.zio_types.specs.declared.request.Phase.{Phase}
use Rattle.zio_types.specs.declared.request.Phase.TheVariants.{Done, Ready}
use Rattle.zio_types.specs.Machine.{same_kind}
use Rattle.zio_trace.specs.Keys.{bit}
use Rattle.zio_frames.specs.Frames.{Child}
use Rattle.zio_stages.specs.NodeChildren.{first_owing, is_awaited, is_owing}
use Rattle.zio_stages.specs.HeadsNodes.{walk_kids_max}
use Rattle.zio_staged.specs.Entries.{count_owing, owing}
use Rattle.zio_nodes.specs.Bounds.{copies_max, kid_share, walk_max}

-- ---- a child that is missing counts

one_counts : (s ended : Bool) → s && not ended ≡ true → cond s (bit (cond ended false true)) 0 ≡ 1
one_counts true true h = cc
one_counts true false h = refl
one_counts false true h = cc
one_counts false false h = cc

either_counts : (b rest : Bool) (n m : ℕ) → b || rest ≡ true → (b ≡ true → n ≡ 1) → (rest ≡ true → 0 < m) → 0 < n + m
either_counts true rest n m h one more = let is : n ≡ 1 = one refl in omega (arith, is)
either_counts false rest n m h one more = let some : 0 < m = more h in omega (arith, some)

one_untold : (s told ended : Bool) → (s && not told) && not ended ≡ true → cond s (bit (cond told false (cond ended false true))) 0 ≡ 1
one_untold true false false h = refl
one_untold true false true h = absurd (cc)
one_untold true true ended h = absurd (cc)
one_untold false told ended h = absurd (cc)

pub owed_counts : (kind : ChildKind) (phase : Phase) (cs : List Child) → list_any (is_awaited kind phase) cs ≡ true → 0 < count_owing kind phase cs
owed_counts kind phase [] h = absurd (cc)
owed_counts kind phase (c ∷ cs) h =
    either_counts (is_awaited kind phase c) (list_any (is_awaited kind phase) cs) _ _ h (one phase) (owed_counts kind phase cs) where
      one : (p : Phase) → is_awaited kind p c ≡ true → owing kind p c ≡ 1
      one Ready e = one_untold (same_kind c.kind kind) c.told c.ended e
      one Done e = one_counts (same_kind c.kind kind) c.ended e

pub any_counts : (kind : ChildKind) (cs : List Child) → list_any (is_owing kind Done) cs ≡ true → 0 < count_owing kind Done cs
any_counts kind cs h = owed_counts kind Done cs h

is_chosen : (b : Bool) → cond b (Some Vdev) None ≡ Some Vdev → b ≡ true
is_chosen true h = refl
is_chosen false h = absurd (cc)

pub vdev_counts : (cs : List Child) → first_owing (Vdev ∷ []) Done cs ≡ Some Vdev → 0 < count_owing Vdev Done cs
vdev_counts cs h = any_counts Vdev cs (is_chosen (list_any (is_owing Vdev Done) cs) h)

-- ---- a walk over headers

pub kid_least : (levels : ℕ) → copies_max + 1 ≤ kid_share levels
kid_least zero = omega arith
kid_least (suc levels) = omega arith

pub kid_below : (levels below : ℕ) → below + 1 ≡ levels → walk_max below + 1 ≤ kid_share levels
kid_below zero below e = absurd (omega (arith, e))
kid_below (suc levels) below e =
    let is : below ≡ levels = omega (arith, e) in
    omega (arith, ap walk_max is)

-- one child more is one share less
pub walk_grows : (old new many more child stages : ℕ) → new ≡ old → more ≡ many + 1 → more ≤ walk_kids_max → child + 1 ≤ kid_share old
    → kid_share new * (walk_kids_max - more) + stages + child < kid_share old * (walk_kids_max - many) + stages
walk_grows old new many more child stages same one few least =
    let m : ℕ = walk_kids_max - more in
    let left : walk_kids_max - many ≡ suc m = omega (arith, one, few) in
    let share : kid_share new * m ≡ kid_share old * m = ap (λ (l : ℕ). kid_share l * m) same in
    let whole : kid_share old * (walk_kids_max - many) ≡ kid_share old * m + kid_share old = ap (λ (k : ℕ). kid_share old * k) left ∙ mul-suc (kid_share old) m in
    omega (arith, share, whole, least)
