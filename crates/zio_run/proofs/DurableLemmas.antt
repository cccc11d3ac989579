-- The run of a durable command, as the words of `run` ask for it; and images that are stable under their names.
use Rattle.std.proofs.Common.{◌≡◌, ◌≢◌, ℕ, List, [], ◌∷◌, Bool, true, false, refl, sym, subst, eqb-true}
use Rattle.std.specs.Prelude.{codes, ◌==◌}
use Rattle.std.specs.List.{AllByRecursion}
use Rattle.zio_outside.specs.declared.written.Written.{Written}
use Rattle.zio_cksum.specs.Images.{Images}
use Rattle.zio_command.specs.Headline.{TellEach}
use Rattle.zio_command.specs.Shelves.{AreLeft, KeepEach}
use Rattle.zio_command.specs.Words.{AreImages, AreNames, IsCommandOf, IsSplit, begins_option, none_asked}
use Rattle.zio_graph.specs.Stable.{AreStable}
use Rattle.zio_run.specs.Stable.{LeavesStable, plain_run}

no_dash : (c : ℕ) (b : Bool) → b ≡ (c == 45) → c ≢ 45 → (c == 45) ≡ false
no_dash c true is other = absurd (other (eqb-true c 45 (sym is)))
no_dash c false is other = sym is

-- names begin no option
no_option : (names : List (List ℕ)) → AreNames names → begins_option names ≡ false
no_option [] are = refl
no_option ([] ∷ names) are = absurd are.0
no_option ((c ∷ cs) ∷ names) are = no_dash c (c == 45) refl are.0

names_split : (names : List (List ℕ)) → AreImages names → IsSplit true names none_asked names
names_split names are = record {
  asked = [];
  words_are = refl;
  known = tt;
  once = tt;
  options_are = refl;
  ends = no_option names are.names;
}

-- `run` and images are the words of a plain run
pub is_plain_run : (words names : List (List ℕ)) → words ≡ codes "run" ∷ names → AreImages names → IsCommandOf true words (plain_run names)
is_plain_run words names behind are = record {
  rest = names;
  options = none_asked;
  words_are = behind;
  split = names_split names are;
  workers_are = refl;
  picks_are = refl;
  show_is = refl;
  named = are;
}

-- images that are stable on their disks are stable under their names
stable_under : {D : Type 0} (keeps : D → List ℕ → List Written → Type 0) (image : List ℕ → List ℕ → Type 0)
    (shelf_keeps : List ℕ → List ℕ → List Written → Type 0) → ((name a b : List ℕ) → image name a → image name b → a ≡ b)
    → (names : List (List ℕ)) (disks : List D) (images : Images) → TellEach image names images → KeepEach keeps shelf_keeps names disks
    → AreStable keeps disks images → AllByRecursion (λ name. (bytes : List ℕ) → image name bytes → shelf_keeps name bytes []) names
stable_under keeps image shelf_keeps one [] disks images told kept stable = tt
stable_under keeps image shelf_keeps one (name ∷ names) [] images told kept stable = absurd kept
stable_under keeps image shelf_keeps one (name ∷ names) (disk ∷ disks) [] told kept stable = absurd told
stable_under keeps image shelf_keeps one (name ∷ names) (disk ∷ disks) (bytes ∷ images) told kept stable = (
  λ other tells. (kept.0 other []).1 (subst (λ (bs : List ℕ). keeps disk bs []) (one name bytes other told.0 tells) stable.0),
  stable_under keeps image shelf_keeps one names disks images told.1 kept.1 stable.1,
)

pub left_stable : {D : Type 0} (disk_image : D → List ℕ → Type 0) (keeps : D → List ℕ → List Written → Type 0) (rounds : ℕ) (names : List (List ℕ))
    (image : List ℕ → List ℕ → Type 0) (shelf_keeps : List ℕ → List ℕ → List Written → Type 0)
    → ((name a b : List ℕ) → image name a → image name b → a ≡ b)
    → AreLeft disk_image keeps (LeavesStable disk_image keeps rounds) names image shelf_keeps → (rounds ≡ 0 → ⊥)
    → AllByRecursion (λ name. (bytes : List ℕ) → image name bytes → shelf_keeps name bytes []) names
left_stable disk_image keeps rounds names image shelf_keeps one left ran =
    stable_under keeps image shelf_keeps one names left.disks left.images left.stored left.kept (left.left ran left.images left.told)
