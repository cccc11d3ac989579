-- A change under one name is a disk that goes out or comes home.
use Rattle.std.proofs.Common.{◌≡◌, ◌≢◌, ℕ, Bool, true, false, nat_eq, List, ◌⊎◌, ◌↔◌, inl, inr, Option, Some, None, Vec, refl, ap, sym, ◌∙◌, subst}
use Rattle.std.specs.declared.alloc.Global.{Global}
use Rattle.std.specs.Cmp.Lexicographic.{pointwise, same_text, other_text}
use Rattle.zio_outside.specs.Crash.{KeptComesHome, KeptGoesOut, KeptStays}
use Rattle.zio_outside.specs.MemoryShelf.{ChangesOnly, IsSoundUnder, at_home, image_under, kept_under, out_of, shelf_slot, slot_of}
use Rattle.zio_outside.specs.Outside.{ComesHome, GoesOut, StaysHome}
use Rattle.zio_outside.specs.declared.mem_shelf.MemShelf.{MemShelf}
use Rattle.zio_outside.specs.declared.mem_shelf.Slot.{Slot}
use Rattle.zio_outside.specs.declared.written.Written.{Written}

same_or_other : (xs ys : List ℕ) → (b : Bool) → b ≡ pointwise nat_eq xs ys → (xs ≡ ys) ⊎ (xs ≢ ys)
same_or_other xs ys true e = inl (same_text xs ys e)
same_or_other xs ys false e = inr (other_text xs ys e)

decided : (xs ys : List ℕ) → (xs ≡ ys) ⊎ (xs ≢ ys)
decided xs ys = same_or_other xs ys (pointwise nat_eq xs ys) refl

pub StaysHome-same : {D : Type 0} (image : D → List ℕ → Type 0) (slots : List ℕ → Option (Option D))
    → StaysHome (image_under image slots) (image_under image slots) (out_of slots) (out_of slots)
StaysHome-same image slots = record { images = λ name bytes. (λ h. h, λ h. h); out = λ name. (λ h. h, λ h. h) }

pub StaysHome-equal : {D : Type 0} (image : D → List ℕ → Type 0) (old new : List ℕ → Option (Option D)) → new ≡ old
    → StaysHome (image_under image old) (image_under image new) (out_of old) (out_of new)
StaysHome-equal {D} image old new e =
    subst
    (λ (slots : List ℕ → Option (Option D)). StaysHome (image_under image old) (image_under image slots) (out_of old) (out_of slots))
    (sym e) (StaysHome-same image old)

pub KeptStays-equal : {D : Type 0} (keeps : D → List ℕ → List Written → Type 0) (old new : List ℕ → Option (Option D))
    → new ≡ old → KeptStays (kept_under keeps old) (kept_under keeps new)
KeptStays-equal {D} keeps old new e =
    subst (λ (slots : List ℕ → Option (Option D)). KeptStays (kept_under keeps old) (kept_under keeps slots)) (sym e)
    (λ name stable ranges. (λ h. h, λ h. h))

-- where a slot was emptied, what is under another name
gone_other : {D : Type 0} (old new : List ℕ → Option (Option D)) (name other : List ℕ) (disk : D) → ChangesOnly old new name None
    → new other ≡ Some (Some disk) → other ≢ name
gone_other old new name other disk change there e =
    let here : new name ≡ Some (Some disk) = subst (λ (n : List ℕ). new n ≡ Some (Some disk)) e there in
    let gone = change.changed in
    cc

pub GoesOut-from_change : {D : Type 0} (image : D → List ℕ → Type 0) (old new : List ℕ → Option (Option D)) (name : List ℕ)
    (disk : D) → old name ≡ Some (Some disk) → ChangesOnly old new name None
    → GoesOut name (image_under image old) (image_under image new) (out_of old) (out_of new)
GoesOut-from_change image old new name disk was change = record {
  images = λ other bytes. (
    λ h. let differ = gone_other old new name other h.0 change h.1 in
        ((h.0, sym (change.others other differ) ∙ h.1, h.2), differ),
    λ h. (h.0.0, change.others other h.1 ∙ h.0.1, h.0.2),
  );
  out = λ other. (
    λ h. elim (decided other name) [ inl e ↦ inr e | inr differ ↦ inl (sym (change.others other differ) ∙ h) ],
    λ h. elim h [
      | inl out ↦ (let differ : other ≢ name = λ e. (let there : old name ≡ Some None = subst (λ n. old n ≡ Some None) e out in cc) in
          change.others other differ ∙ out)
      | inr e ↦ subst (λ n. new n ≡ Some None) (sym e) change.changed
    ],
  );
}

pub KeptGoesOut-from_change : {D : Type 0} (keeps : D → List ℕ → List Written → Type 0) (old new : List ℕ → Option (Option D))
    (name : List ℕ) → ChangesOnly old new name None → KeptGoesOut name (kept_under keeps old) (kept_under keeps new)
KeptGoesOut-from_change keeps old new name change other stable ranges = (
  λ h. let differ = gone_other old new name other h.0 change h.1 in
      ((h.0, sym (change.others other differ) ∙ h.1, h.2), differ),
  λ h. (h.0.0, change.others other h.1 ∙ h.0.1, h.0.2),
)

-- the disk that came home
home_disk : {D : Type 0} (old new : List ℕ → Option (Option D)) (name other : List ℕ) (disk there : D)
    → ChangesOnly old new name (Some disk) → new other ≡ Some (Some there) → other ≡ name → there ≡ disk
home_disk old new name other disk there change at e =
    let here : new name ≡ Some (Some there) = subst (λ (n : List ℕ). new n ≡ Some (Some there)) e at in
    let changed = change.changed in
    cc

pub ComesHome-from_change : {D : Type 0} (image : D → List ℕ → Type 0) (old new : List ℕ → Option (Option D))
    (name bytes : List ℕ) (disk : D) → image disk bytes → ((x : List ℕ) → image disk x → x ≡ bytes)
    → ChangesOnly old new name (Some disk) → old name ≡ Some None
    → ComesHome name bytes (image_under image old) (image_under image new) (out_of old) (out_of new)
ComesHome-from_change {D} image old new name bytes disk told one change was = record {
  images = λ other x. (
    λ h. elim (decided other name) [
      | inl e ↦ (let same = home_disk old new name other disk h.0 change h.1 e in
          inr (e, one x (subst (λ (d : D). image d x) same h.2)))
      | inr differ ↦ inl ((h.0, sym (change.others other differ) ∙ h.1, h.2), differ)
    ],
    λ h. elim h [
      | inl home ↦ (home.0.0, change.others other home.1 ∙ home.0.1, home.0.2)
      | inr here ↦ (
        disk,
        subst (λ n. new n ≡ Some (Some disk)) (sym here.0) change.changed,
        subst (λ (y : List ℕ). image disk y) (sym here.1) told,
      )
    ],
  );
  out = λ other. (
    λ h. let differ : other ≢ name = λ e. (let there : new name ≡ Some None = subst (λ n. new n ≡ Some None) e h in let here = change.changed in cc) in
        (sym (change.others other differ) ∙ h, differ),
    λ h. change.others other h.1 ∙ h.0,
  );
}

pub KeptComesHome-from_change : {D : Type 0} (keeps : D → List ℕ → List Written → Type 0)
    (old new : List ℕ → Option (Option D)) (name : List ℕ) (disk : D) → ChangesOnly old new name (Some disk)
    → KeptComesHome name (keeps disk) (kept_under keeps old) (kept_under keeps new)
KeptComesHome-from_change {D} keeps old new name disk change other stable ranges = (
  λ h. elim (decided other name) [
    | inl e ↦ inr (e, subst (λ (d : D). keeps d stable ranges) (home_disk old new name other disk h.0 change h.1 e) h.2)
    | inr differ ↦ inl ((h.0, sym (change.others other differ) ∙ h.1, h.2), differ)
  ],
  λ h. elim h [
    | inl home ↦ (home.0.0, change.others other home.1 ∙ home.0.1, home.0.2)
    | inr here ↦ (disk, subst (λ n. new n ≡ Some (Some disk)) (sym here.0) change.changed, here.1)
  ],
)

-- a change of what was the same before
pub change_after : {D : Type 0} (old between new : List ℕ → Option (Option D)) (name : List ℕ) (disk : Option D) → between ≡ old → ChangesOnly between new name disk → ChangesOnly old new name disk
change_after {D} old between new name disk e change = subst (λ (slots : List ℕ → Option (Option D)). ChangesOnly slots new name disk) e change

pub only_name : (home : Option (List ℕ)) (name other : List ℕ) → home ≡ Some name → home ≡ Some other → name ≡ other
only_name home name other e f = cc

-- a disk that went out and came home with its image left the shelf as it was
pub StaysHome-after_trip : (name image : List ℕ) (old mid new : List ℕ → List ℕ → Type 0) (old_out mid_out new_out : List ℕ → Type 0)
    → GoesOut name old mid old_out mid_out → ComesHome name image mid new mid_out new_out
    → old name image → ((other a b : List ℕ) → old other a → old other b → a ≡ b) → ((other : List ℕ) → old_out other → ⊥)
    → StaysHome old new old_out new_out
StaysHome-after_trip name image old mid new old_out mid_out new_out gone back told one home = record {
  images = λ other bytes. (
    λ h. elim ((back.images other bytes).0 h) [
      | inl p ↦ ((gone.images other bytes).0 p.0).0
      | inr p ↦ subst (λ (n : List ℕ). old n bytes) (sym p.0) (subst (λ (xs : List ℕ). old name xs) (sym p.1) told)
    ],
    λ h. elim (decided other name) [
      | inl e ↦ (back.images other bytes).1 (inr (e, one name bytes image (subst (λ (n : List ℕ). old n bytes) e h) told))
      | inr differ ↦ (back.images other bytes).1 (inl ((gone.images other bytes).1 (h, differ), differ))
    ],
  );
  out = λ other. (
    λ h. elim ((gone.out other).0 ((back.out other).0 h).0) [
      | inl p ↦ p
      | inr e ↦ absurd (((back.out other).0 h).1 e)
    ],
    λ h. absurd (home other h),
  );
}

-- a change under one name to what is sound leaves each name sound that was
pub IsSoundUnder-after_change : {D : Type 0} (sound : D → Type 0) (old new : List ℕ → Option (Option D)) (name other : List ℕ) (disk : Option D)
    → ChangesOnly old new name disk → IsSoundUnder sound (Some disk) → IsSoundUnder sound (old other) → IsSoundUnder sound (new other)
IsSoundUnder-after_change sound old new name other disk change is_sound was =
    elim (decided other name) [
      | inl e ↦ subst (λ (n : List ℕ). IsSoundUnder sound (new n)) (sym e) (subst (IsSoundUnder sound) (sym change.changed) is_sound)
      | inr differ ↦ subst (IsSoundUnder sound) (sym (change.others other differ)) was
    ]

-- where a name is sound and its disk isn't out, its disk is at home
pub sound_at_home : {D : Type 0} (sound : D → Type 0) (under : Option (Option D)) → None ≡ at_home under → under ≢ Some None → IsSoundUnder sound under → ⊥
sound_at_home sound None none home is_sound = is_sound
sound_at_home sound (Some None) none home is_sound = home refl
sound_at_home sound (Some (Some disk)) none home is_sound = let no : None ≡ Some disk = none in cc

-- what a disk keeps that was at home goes out with it
pub kept_handed : {D : Type 0} (keeps : D → List ℕ → List Written → Type 0) (slots : List ℕ → Option (Option D))
    (name : List ℕ) (was out : D) → slots name ≡ Some (Some was)
    → ((stable : List ℕ) (ranges : List Written) → keeps out stable ranges ↔ keeps was stable ranges)
    → (stable : List ℕ) (ranges : List Written) → keeps out stable ranges ↔ kept_under keeps slots name stable ranges
kept_handed {D} keeps slots name was out found same stable ranges = (
  λ h. (was, found, (same stable ranges).0 h),
  λ h. (let there : slots name ≡ Some (Some h.0) = h.1 in
      let is : h.0 ≡ was = cc in
      (same stable ranges).1 (subst (λ (disk : D). keeps disk stable ranges) is h.2)),
)

-- ---- parts of a shelf that is the same

pub same_slots : {D : Type 0} (a b : MemShelf D) → a ≡ b → shelf_slot a ≡ shelf_slot b
same_slots {D} a b e = ap (λ (s : MemShelf D). shelf_slot s) e

pub same_vec : {D : Type 0} (a b : Vec (Slot D) Global) → a ≡ b → slot_of a.items ≡ slot_of b.items
same_vec {D} a b e = ap (λ (v : Vec (Slot D) Global). slot_of v.items) e

pub same_calls : {D : Type 0} (a b : MemShelf D) → a ≡ b → a.calls ≡ b.calls
same_calls {D} a b e = ap (λ (s : MemShelf D). s.calls) e

pub same_disk_faults : {D : Type 0} (a b : MemShelf D) → a ≡ b → a.disk_faults ≡ b.disk_faults
same_disk_faults {D} a b e = ap (λ (s : MemShelf D). s.disk_faults) e
