-- What disks keep through a crash, as they come home one by one.
use Rattle.std.proofs.Common.{◌≢◌, ℕ, List, [], ◌∷◌, inl, inr, refl, sym}
use Rattle.zio_outside.specs.Crash.{KeptComesHome}
use Rattle.zio_outside.specs.declared.written.Written.{Written}
use Rattle.zio_cksum.specs.Images.{Images}
use Rattle.zio_command.specs.Shelves.{AreOut, KeptComeHome}
use Rattle.zio_command.specs.Words.{AreNames}
use Rattle.zio_command.proofs.ShelfLemmas.{AreNames-apart, Contains-here, Contains-there}

pub KeptComeHome-none : {D : Type 0} (disk_keeps : D → List ℕ → List Written → Type 0) (home disk_image : D → List ℕ → Type 0)
    (out : List ℕ → Type 0) (keeps : List ℕ → List ℕ → List Written → Type 0) (names : List (List ℕ)) (images : Images)
    → AreOut home disk_image out names images [] → KeptComeHome disk_keeps names [] keeps keeps
KeptComeHome-none disk_keeps home disk_image out keeps [] images are = record {
  each = tt;
  others = λ other stable ranges none. (λ h. h, λ h. h);
}
KeptComeHome-none disk_keeps home disk_image out keeps (name ∷ names) images are = absurd are.homes

pub KeptComeHome-more : {D : Type 0} (disk_keeps : D → List ℕ → List Written → Type 0) (name : List ℕ) (names : List (List ℕ)) (disk : D)
    (disks : List D) (old mid new : List ℕ → List ℕ → List Written → Type 0) → AreNames (name ∷ names)
    → KeptComesHome name (disk_keeps disk) old mid → KeptComeHome disk_keeps names disks mid new
    → KeptComeHome disk_keeps (name ∷ names) (disk ∷ disks) old new
KeptComeHome-more disk_keeps name names disk disks old mid new are first rest = record {
  each = (
    λ stable ranges.
        (let behind = rest.others name stable ranges (AreNames-apart name names are) in
        let here = first name stable ranges in (
          λ h. elim (here.0 (behind.0 h)) [ inl p ↦ absurd (p.1 refl) | inr p ↦ p.1 ],
          λ h. behind.1 (here.1 (inr (refl, h))),
        )),
    rest.each,
  );
  others = λ other stable ranges none.
      (let apart : other ≢ name = λ e. none (Contains-here name other names (sym e)) in
      let behind = rest.others other stable ranges (λ there. none (Contains-there name other names there)) in
      let here = first other stable ranges in (
        λ h. elim (here.0 (behind.0 h)) [ inl p ↦ p.0 | inr p ↦ absurd (apart p.0) ],
        λ h. behind.1 (here.1 (inl (h, apart))),
      ));
}
