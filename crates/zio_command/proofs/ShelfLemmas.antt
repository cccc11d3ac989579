-- Disks that leave their shelf one by one and come home one by one.
use Rattle.std.proofs.Common.{◌≡◌, ◌≢◌, ◌<◌, ◌≤◌, ℕ, zero, suc, ◌-◌, get_or, Result, Ok, Err, List, [], ◌∷◌, ◌++◌, ◌⊎◌, inl, inr, Bool, true, false, ◌||◌, length, map, take, drop, refl, sym, ap, ◌∙◌, subst, arith}
use Rattle.std.specs.Cmp.Lexicographic.{same_text, other_text}
use Rattle.std.specs.List.{AllByRecursion, Contains}
use Rattle.std.proofs.lemmas.List.{take_all}
use Rattle.std.specs.Prelude.{bytes_eq, OnOk}
use Rattle.zio_cksum.proofs.AllLemmas.{all_contains}
use Rattle.zio_cksum.specs.Images.{Images}
use Rattle.zio_outside.specs.Outside.{ComesHome, GoesOut, StaysHome, counted}
use Rattle.zio_command.specs.Headline.{TellEach}
use Rattle.zio_command.specs.declared.shelf.ImagesFault.{ImagesFault}
use Rattle.zio_command.specs.declared.shelf.ImagesFault.TheVariants.{Failed, Size, Memory}
use Rattle.zio_command.specs.Outcomes.{HasLawfulSize, counted_times}
use Rattle.zio_command.specs.Shelves.{AreFetched, AreOut, ComeHome, GoOut, IsFirstUnlawful, KeepOthers, added}
use Rattle.zio_command.specs.Words.{AreNames, is_among}

-- ---- what a list contains

pub Contains-here : {X : Type 0} (x y : X) (xs : List X) → x ≡ y → Contains (x ∷ xs) y
Contains-here x y xs e = (0, omega arith, e)

pub Contains-there : {X : Type 0} (x y : X) (xs : List X) → Contains xs y → Contains (x ∷ xs) y
Contains-there x y xs (k, inside, is) = (suc k, (let l : k < length xs = inside in omega arith), is)

Contains-cons : {X : Type 0} (x y : X) (xs : List X) → Contains (x ∷ xs) y → (x ≡ y) ⊎ Contains xs y
Contains-cons x y xs (zero, inside, is) = inl is
Contains-cons x y xs (suc k, inside, is) = inr (k, (let l : suc k < suc (length xs) = inside in omega arith), is)

Contains-none : {X : Type 0} (y : X) → Contains [] y → ⊥
Contains-none y (k, inside, is) = let l : k < 0 = inside in omega arith

each : {X : Type 0} (P : X → Type 0) (xs : List X) → ((x : X) → Contains xs x → P x) → AllByRecursion P xs
each P [] all = tt
each P (x ∷ xs) all = (all x (Contains-here x x xs refl), each P xs (λ y there. all y (Contains-there x y xs there)))

-- ---- names

false_or : (a b : Bool) → (a || b) ≡ false → (a ≡ false) × (b ≡ false)
false_or true b h = absurd (let no : true ≡ false = h in cc)
false_or false b h = (refl, h)

differs : (b : Bool) (xs ys : List ℕ) → b ≡ bytes_eq xs ys → b ≡ false → xs ≡ ys → ⊥
differs true xs ys e told same = (let f : true ≡ false = told in cc)
differs false xs ys e told same = other_text xs ys e same

among_not : (names : List (List ℕ)) (name : List ℕ) → is_among names name ≡ false → Contains names name → ⊥
among_not [] name none there = Contains-none name there
among_not (other ∷ names) name none there =
    let parts = false_or (bytes_eq name other) (is_among names name) none in
    elim (Contains-cons other name names there) [
      | inl e ↦ differs (bytes_eq name other) name other refl parts.0 (sym e)
      | inr rest ↦ among_not names name parts.1 rest
    ]

pub AreNames-apart : (name : List ℕ) (names : List (List ℕ)) → AreNames (name ∷ names) → Contains names name → ⊥
AreNames-apart name names are there = among_not names name are.1 there

same_or_other : (b : Bool) (xs ys : List ℕ) → b ≡ bytes_eq xs ys → (xs ≡ ys) ⊎ (xs ≢ ys)
same_or_other true xs ys e = inl (same_text xs ys e)
same_or_other false xs ys e = inr (other_text xs ys e)

pub Contains-decided : (names : List (List ℕ)) (name : List ℕ) → Contains names name ⊎ (Contains names name → ⊥)
Contains-decided [] name = inr (Contains-none name)
Contains-decided (other ∷ names) name = elim (same_or_other (bytes_eq other name) other name refl) [
  | inl e ↦ inl (Contains-here other name names e)
  | inr differ ↦ elim (Contains-decided names name) [
    | inl there ↦ inl (Contains-there other name names there)
    | inr none ↦ inr (λ there. elim (Contains-cons other name names there) [ inl e ↦ differ e | inr rest ↦ none rest ])
  ]
]

among_take : (k : ℕ) (names : List (List ℕ)) (name : List ℕ) → is_among names name ≡ false → is_among (take k names) name ≡ false
among_take zero names name none = refl
among_take (suc k) [] name none = refl
among_take (suc k) (other ∷ names) name none =
    let parts = false_or (bytes_eq name other) (is_among names name) none in
    rw parts.0 (among_take k names name parts.1)

pub AreNames-take : (k : ℕ) (names : List (List ℕ)) → AreNames names → AreNames (take k names)
AreNames-take zero names are = tt
AreNames-take (suc k) [] are = tt
AreNames-take (suc k) (name ∷ names) are = (are.0, among_take k names name are.1, AreNames-take k names are.2)

-- ---- disks that were added

pub added-none : {D : Type 0} (disks : List D) → added disks disks ≡ []
added-none [] = refl
added-none (disk ∷ disks) = added-none disks

added-front : {D : Type 0} (old more : List D) → added old (old ++ more) ≡ more
added-front [] more = refl
added-front (disk ∷ old) more = added-front old more

append_one : {D : Type 0} (old : List D) (disk : D) (more : List D) → (old ++ disk ∷ []) ++ more ≡ old ++ disk ∷ more
append_one [] disk more = refl
append_one (first ∷ old) disk more = ap (λ xs. first ∷ xs) (append_one old disk more)

-- one disk, and those that were added behind it
pub added-one : {D : Type 0} (old mid new : List D) (disk : D) → mid ≡ old ++ disk ∷ [] → new ≡ mid ++ added mid new
    → added old new ≡ disk ∷ added mid new
added-one {D} old mid new disk one more =
    let whole : new ≡ old ++ disk ∷ added mid new =
    more ∙ (ap (λ (xs : List D). xs ++ added mid new) one ∙ append_one old disk (added mid new)) in
    ap (λ (xs : List D). added old xs) whole ∙ added-front old (disk ∷ added mid new)

-- ---- counts

pub counted_times-first : (times n : ℕ) → counted_times times (counted n) ≡ counted (counted_times times n)
counted_times-first zero n = refl
counted_times-first (suc times) n = ap (λ (k : ℕ). counted k) (counted_times-first times n)

-- ---- the shelf: going out

pub GoOut-none : (old new : List ℕ → List ℕ → Type 0) (old_out new_out : List ℕ → Type 0)
    → StaysHome old new old_out new_out → GoOut [] old new old_out new_out
GoOut-none old new old_out new_out stays = record {
  images = λ other image. (
    λ h. ((stays.images other image).0 h, Contains-none other),
    λ h. (stays.images other image).1 h.0,
  );
  out = λ other. (
    λ h. inl ((stays.out other).0 h),
    λ h. elim h [ inl p ↦ (stays.out other).1 p | inr there ↦ absurd (Contains-none other there) ],
  );
}

pub StaysHome-refl : (image : List ℕ → List ℕ → Type 0) (out : List ℕ → Type 0) → StaysHome image image out out
StaysHome-refl image out = record { images = λ name bytes. (λ h. h, λ h. h); out = λ name. (λ h. h, λ h. h) }

pub GoOut-more : (name : List ℕ) (names : List (List ℕ)) (old mid new : List ℕ → List ℕ → Type 0) (old_out mid_out new_out : List ℕ → Type 0)
    → GoesOut name old mid old_out mid_out → GoOut names mid new mid_out new_out → GoOut (name ∷ names) old new old_out new_out
GoOut-more name names old mid new old_out mid_out new_out first rest = record {
  images = λ other image. (
    λ h. (let a = (rest.images other image).0 h in
        let b = (first.images other image).0 a.0 in
        (b.0, λ there. elim (Contains-cons name other names there) [ inl e ↦ b.1 (sym e) | inr more ↦ a.1 more ])),
    λ h. (rest.images other image).1 (
      (first.images other image).1 (h.0, λ e. h.1 (Contains-here name other names (sym e))),
      λ there. h.1 (Contains-there name other names there),
    ),
  );
  out = λ other. (
    λ h. elim ((rest.out other).0 h) [
      | inl p ↦ elim ((first.out other).0 p) [
        | inl q ↦ inl q
        | inr e ↦ inr (Contains-here name other names (sym e))
      ]
      | inr there ↦ inr (Contains-there name other names there)
    ],
    λ h. elim h [
      | inl p ↦ (rest.out other).1 (inl ((first.out other).1 (inl p)))
      | inr there ↦ elim (Contains-cons name other names there) [
        | inl e ↦ (rest.out other).1 (inl ((first.out other).1 (inr (sym e))))
        | inr more ↦ (rest.out other).1 (inr more)
      ]
    ],
  );
}

-- what other names tell after one disk went out, they told before
pub TellEach-back : (old new : List ℕ → List ℕ → Type 0) → ((other image : List ℕ) → new other image → old other image)
    → (names : List (List ℕ)) (images : Images) → TellEach new names images → TellEach old names images
TellEach-back old new back [] [] tells = tt
TellEach-back old new back [] (image ∷ images) tells = absurd tells
TellEach-back old new back (name ∷ names) [] tells = absurd tells
TellEach-back old new back (name ∷ names) (image ∷ images) tells =
    (back name image tells.0, TellEach-back old new back names images tells.1)

-- names that aren't this one tell what they told
pub TellEach-kept : (old new : List ℕ → List ℕ → Type 0) (names : List (List ℕ))
    → ((other image : List ℕ) → Contains names other → old other image → new other image)
    → (images : Images) → TellEach old names images → TellEach new names images
TellEach-kept old new [] keep [] tells = tt
TellEach-kept old new [] keep (image ∷ images) tells = absurd tells
TellEach-kept old new (name ∷ names) keep [] tells = absurd tells
TellEach-kept old new (name ∷ names) keep (image ∷ images) tells = (
  keep name image (Contains-here name name names refl) tells.0,
  TellEach-kept old new names (λ other bytes there. keep other bytes (Contains-there name other names there)) images tells.1,
)

pub TellEach-goes_out : (name : List ℕ) (names : List (List ℕ)) (old mid : List ℕ → List ℕ → Type 0) (old_out mid_out : List ℕ → Type 0)
    → AreNames (name ∷ names) → GoesOut name old mid old_out mid_out → (images : Images) → TellEach old names images → TellEach mid names images
TellEach-goes_out name names old mid old_out mid_out are first images tells =
    TellEach-kept old mid names
    (λ other bytes there told. (first.images other bytes).1
    (told, λ e. AreNames-apart name names are (subst (λ n. Contains names n) e there)))
    images tells

-- the disks of these names aren't out after that of another name went out
pub home_after : (name : List ℕ) (names : List (List ℕ)) (old mid : List ℕ → List ℕ → Type 0) (old_out mid_out : List ℕ → Type 0)
    → AreNames (name ∷ names) → GoesOut name old mid old_out mid_out → AllByRecursion (λ n. ¬ old_out n) names
    → AllByRecursion (λ n. ¬ mid_out n) names
home_after name names old mid old_out mid_out are first home =
    each (λ n. ¬ mid_out n) names (λ n there out. elim ((first.out n).0 out) [
      | inl p ↦ all_contains (λ m. ¬ old_out m) names n home there p
      | inr e ↦ AreNames-apart name names are (subst (λ m. Contains names m) e there)
    ])

pub AreFetched-none : {D : Type 0} (home disk_image : D → List ℕ → Type 0) (old new : List ℕ → List ℕ → Type 0) (old_out new_out : List ℕ → Type 0)
    → StaysHome old new old_out new_out → AreFetched home disk_image [] [] old new old_out new_out
AreFetched-none home disk_image old new old_out new_out stays = record {
  images = [];
  before = tt;
  told = tt;
  homes = tt;
  gone = GoOut-none old new old_out new_out stays;
}

pub AreFetched-more : {D : Type 0} (home disk_image : D → List ℕ → Type 0) (name bytes : List ℕ) (names : List (List ℕ)) (disk : D) (disks : List D)
    (old mid new : List ℕ → List ℕ → Type 0) (old_out mid_out new_out : List ℕ → Type 0)
    → GoesOut name old mid old_out mid_out → old name bytes → disk_image disk bytes → home disk name
    → AreFetched home disk_image names disks mid new mid_out new_out
    → AreFetched home disk_image (name ∷ names) (disk ∷ disks) old new old_out new_out
AreFetched-more home disk_image name bytes names disk disks old mid new old_out mid_out new_out first told its at rest = record {
  images = bytes ∷ rest.images;
  before = (told, TellEach-back old mid (λ other image h. ((first.images other image).0 h).0) names rest.images rest.before);
  told = (its, rest.told);
  homes = (at, rest.homes);
  gone = GoOut-more name names old mid new old_out mid_out new_out first rest.gone;
}

-- ---- the shelf: coming home

pub ComeHome-none : {D : Type 0} (home disk_image : D → List ℕ → Type 0) (out : List ℕ → Type 0) (image : List ℕ → List ℕ → Type 0)
    (names : List (List ℕ)) (images : Images) → AreOut home disk_image out names images [] → ComeHome names images image image out out
ComeHome-none home disk_image out image [] [] are = record {
  told = tt;
  others = λ other bytes none. (λ h. h, λ h. h);
  out = λ other. (λ h. (h, Contains-none other), λ h. h.0);
}
ComeHome-none home disk_image out image [] (bytes ∷ images) are = absurd are.told
ComeHome-none home disk_image out image (name ∷ names) images are = absurd are.homes

pub ComeHome-more : (name bytes : List ℕ) (names : List (List ℕ)) (images : Images) (old mid new : List ℕ → List ℕ → Type 0)
    (old_out mid_out new_out : List ℕ → Type 0) → AreNames (name ∷ names)
    → ComesHome name bytes old mid old_out mid_out → ComeHome names images mid new mid_out new_out
    → ComeHome (name ∷ names) (bytes ∷ images) old new old_out new_out
ComeHome-more name bytes names images old mid new old_out mid_out new_out are first rest = record {
  told = (
    (rest.others name bytes (AreNames-apart name names are)).1 ((first.images name bytes).1 (inr (refl, refl))),
    rest.told,
  );
  others = λ other image none.
      (let apart : other ≢ name = λ e. none (Contains-here name other names (sym e)) in
      let behind = rest.others other image (λ there. none (Contains-there name other names there)) in (
        λ h. elim ((first.images other image).0 (behind.0 h)) [ inl p ↦ p.0 | inr p ↦ absurd (apart p.0) ],
        λ h. behind.1 ((first.images other image).1 (inl (h, apart))),
      ));
  out = λ other. (
    λ h. (let a = (rest.out other).0 h in
        let b = (first.out other).0 a.0 in
        (b.0, λ there. elim (Contains-cons name other names there) [ inl e ↦ b.1 (sym e) | inr more ↦ a.1 more ])),
    λ h. (rest.out other).1 (
      (first.out other).1 (h.0, λ e. h.1 (Contains-here name other names (sym e))),
      λ there. h.1 (Contains-there name other names there),
    ),
  );
}

-- the first of these disks has the first of the names, which is out; the others are still out once it came home
pub record AreOutBehind {D : Type 0} (home disk_image : D → List ℕ → Type 0) (out : List ℕ → Type 0) (names : List (List ℕ))
    (images : Images) (disk : D) (disks : List D) : Type 0 where
  pub name : List ℕ
  pub bytes : List ℕ
  pub rest : List (List ℕ)
  pub others : Images
  pub names_are : names ≡ name ∷ rest
  pub images_are : images ≡ bytes ∷ others
  pub apart : AreNames (name ∷ rest)
  pub at : home disk name
  pub told : disk_image disk bytes
  pub out_now : out name
  pub behind : AreOut home disk_image out rest others disks

pub AreOut-split : {D : Type 0} (home disk_image : D → List ℕ → Type 0) (out : List ℕ → Type 0) (names : List (List ℕ)) (images : Images)
    (disk : D) (disks : List D) → AreOut home disk_image out names images (disk ∷ disks)
    → AreOutBehind home disk_image out names images disk disks
AreOut-split home disk_image out [] images disk disks are = absurd are.homes
AreOut-split home disk_image out (name ∷ names) [] disk disks are = absurd are.told
AreOut-split home disk_image out (name ∷ names) (bytes ∷ images) disk disks are = record {
  name = name;
  bytes = bytes;
  rest = names;
  others = images;
  names_are = refl;
  images_are = refl;
  apart = are.apart;
  at = are.homes.0;
  told = are.told.0;
  out_now = are.out_now.0;
  behind = record { apart = are.apart.2; homes = are.homes.1; told = are.told.1; out_now = are.out_now.1 };
}

pub AreOut-after : {D : Type 0} (home disk_image : D → List ℕ → Type 0) (name bytes : List ℕ) (names : List (List ℕ)) (images : Images)
    (disks : List D) (old mid : List ℕ → List ℕ → Type 0) (old_out mid_out : List ℕ → Type 0) → AreNames (name ∷ names)
    → ComesHome name bytes old mid old_out mid_out → AreOut home disk_image old_out names images disks
    → AreOut home disk_image mid_out names images disks
AreOut-after home disk_image name bytes names images disks old mid old_out mid_out are first out = record {
  apart = out.apart;
  homes = out.homes;
  told = out.told;
  out_now = each mid_out names (λ n there. (first.out n).1
      (all_contains old_out names n out.out_now there, λ e. AreNames-apart name names are (subst (λ m. Contains names m) e there)));
}

-- disks that were fetched are out
pub AreOut-fetched : {D : Type 0} (home disk_image : D → List ℕ → Type 0) (names : List (List ℕ)) (disks : List D)
    (old new : List ℕ → List ℕ → Type 0) (old_out new_out : List ℕ → Type 0) → AreNames names
    → (fetched : AreFetched home disk_image names disks old new old_out new_out) → AreOut home disk_image new_out names fetched.images disks
AreOut-fetched home disk_image names disks old new old_out new_out are fetched = record {
  apart = are;
  homes = fetched.homes;
  told = fetched.told;
  out_now = each new_out names (λ n there. (fetched.gone.out n).1 (inr there));
}

-- two shelves that tell each of these names one image tell the same of each
both_tell : (a b : List ℕ → List ℕ → Type 0) (names : List (List ℕ)) (images : Images) → TellEach a names images → TellEach b names images
    → (name : List ℕ) → Contains names name → (bytes : List ℕ) × a name bytes × b name bytes
both_tell a b [] images tells tell name there = absurd (Contains-none name there)
both_tell a b (other ∷ names) [] tells tell name there = absurd tells
both_tell a b (other ∷ names) (bytes ∷ images) tells tell name there = elim (Contains-cons other name names there) [
  | inl e ↦ (bytes, subst (λ (n : List ℕ). a n bytes) e tells.0, subst (λ (n : List ℕ). b n bytes) e tell.0)
  | inr rest ↦ both_tell a b names images tells.1 tell.1 name rest
]

-- a disk that went out and came home with its image left the shelf as it was
pub StaysHome-after_one : (name image : List ℕ) (old mid new : List ℕ → List ℕ → Type 0) (old_out mid_out new_out : List ℕ → Type 0)
    → GoesOut name old mid old_out mid_out → ComesHome name image mid new mid_out new_out → old name image
    → ((other a b : List ℕ) → old other a → old other b → a ≡ b) → (old_out name → ⊥) → StaysHome old new old_out new_out
StaysHome-after_one name image old mid new old_out mid_out new_out gone back told one home = record {
  images = λ other bytes. (
    λ h. elim ((back.images other bytes).0 h) [
      | inl p ↦ ((gone.images other bytes).0 p.0).0
      | inr p ↦ subst (λ (n : List ℕ). old n bytes) (sym p.0) (subst (λ (xs : List ℕ). old name xs) (sym p.1) told)
    ],
    λ h. elim (same_or_other (bytes_eq other name) other name refl) [
      | inl e ↦ (back.images other bytes).1 (inr (e, one name bytes image (subst (λ (n : List ℕ). old n bytes) e h) told))
      | inr differ ↦ (back.images other bytes).1 (inl ((gone.images other bytes).1 (h, differ), differ))
    ],
  );
  out = λ other. (
    λ h. (let a = (back.out other).0 h in
        elim ((gone.out other).0 a.0) [ inl p ↦ p | inr e ↦ absurd (a.1 e) ]),
    λ h. (back.out other).1 ((gone.out other).1 (inl h), λ e. home (subst old_out e h)),
  );
}

-- disks that went out and came home with their images left the shelf as it was
pub StaysHome-after_trips : (names : List (List ℕ)) (images : Images) (old mid new : List ℕ → List ℕ → Type 0) (old_out mid_out new_out : List ℕ → Type 0)
    → GoOut names old mid old_out mid_out → ComeHome names images mid new mid_out new_out → TellEach old names images
    → ((name a b : List ℕ) → old name a → old name b → a ≡ b) → ((name a b : List ℕ) → new name a → new name b → a ≡ b)
    → AllByRecursion (λ n. ¬ old_out n) names → StaysHome old new old_out new_out
StaysHome-after_trips names images old mid new old_out mid_out new_out gone back told one_old one_new home = record {
  images = λ name bytes. elim (Contains-decided names name) [
    | inl there ↦ (let both = both_tell old new names images told back.told name there in (
      λ h. subst (λ (xs : List ℕ). old name xs) (one_new name both.0 bytes both.2 h) both.1,
      λ h. subst (λ (xs : List ℕ). new name xs) (one_old name both.0 bytes both.1 h) both.2,
    ))
    | inr none ↦ (
      λ h. ((gone.images name bytes).0 ((back.others name bytes none).0 h)).0,
      λ h. (back.others name bytes none).1 ((gone.images name bytes).1 (h, none)),
    )
  ];
  out = λ name. (
    λ h. (let a = (back.out name).0 h in
        elim ((gone.out name).0 a.0) [ inl p ↦ p | inr there ↦ absurd (a.1 there) ]),
    λ h. (back.out name).1 ((gone.out name).1 (inl h), λ there. all_contains (λ n. ¬ old_out n) names name home there h),
  );
}

-- disks that went out and came home with some images left the others as they were
pub KeepOthers-after_trips : (names : List (List ℕ)) (images : Images) (old mid new : List ℕ → List ℕ → Type 0) (old_out mid_out new_out : List ℕ → Type 0)
    → GoOut names old mid old_out mid_out → ComeHome names images mid new mid_out new_out
    → AllByRecursion (λ n. ¬ old_out n) names → KeepOthers names old new old_out new_out
KeepOthers-after_trips names images old mid new old_out mid_out new_out gone back home = record {
  images = λ name bytes none. (
    λ h. ((gone.images name bytes).0 ((back.others name bytes none).0 h)).0,
    λ h. (back.others name bytes none).1 ((gone.images name bytes).1 (h, none)),
  );
  out = λ name. (
    λ h. (let a = (back.out name).0 h in
        elim ((gone.out name).0 a.0) [ inl p ↦ p | inr there ↦ absurd (a.1 there) ]),
    λ h. (back.out name).1 ((gone.out name).1 (inl h), λ there. all_contains (λ n. ¬ old_out n) names name home there h),
  );
  still = λ before told. (images, back.told);
}

-- ---- names one by one

-- a slice that isn't empty is its first item and the rest
pub names_split : (names : List (List ℕ)) (item name : List ℕ) → 1 ≤ length names → item ≡ get_or names 0 item → name ≡ item
    → names ≡ name ∷ take (length names - 1) (drop 1 names)
names_split [] item name some is same = absurd (let l : 1 ≤ 0 = some in omega arith)
names_split (first ∷ names) item name some is same =
    ap (λ (n : List ℕ). n ∷ names) (sym (same ∙ is))
    ∙ ap (λ (ns : List (List ℕ)). name ∷ ns) (sym (take_all (suc (length names) - 1) names (omega arith)))

pub counted-more : (times old mid new : ℕ) → mid ≡ counted old → new ≡ counted_times times mid → new ≡ counted_times (suc times) old
counted-more times old mid new first rest = rest ∙ (ap (λ (n : ℕ). counted_times times n) first ∙ counted_times-first times old)

pub on_ok : {A E P Q : Type 0} (r : Result A E) → (P → Q) → OnOk r P → OnOk r Q
on_ok (Ok x) f h = f h
on_ok (Err e) f h = tt

-- the sizes of the first images are lawful
pub lawful-more : (old mid : List ℕ → List ℕ → Type 0) (name : List ℕ) (rest : List (List ℕ)) (k : ℕ)
    → ((bytes : List ℕ) → old name bytes → HasLawfulSize (length bytes))
    → ((images : Images) → TellEach old rest images → TellEach mid rest images)
    → ((images : Images) → TellEach mid rest images → AllByRecursion HasLawfulSize (take k (map (length {A = ℕ}) images)))
    → (images : Images) → TellEach old (name ∷ rest) images → AllByRecursion HasLawfulSize (take (suc k) (map (length {A = ℕ}) images))
lawful-more old mid name rest k first keep behind [] told = absurd told
lawful-more old mid name rest k first keep behind (bytes ∷ images) told = (first bytes told.0, behind images (keep images told.1))

-- as many sizes as names are all of them
pub lawful-all : (old : List ℕ → List ℕ → Type 0) (names : List (List ℕ)) (images : Images) → TellEach old names images
    → AllByRecursion HasLawfulSize (take (length names) (map (length {A = ℕ}) images)) → AllByRecursion HasLawfulSize (map (length {A = ℕ}) images)
lawful-all old [] [] told all = tt
lawful-all old [] (bytes ∷ images) told all = absurd told
lawful-all old (name ∷ names) [] told all = absurd told
lawful-all old (name ∷ names) (bytes ∷ images) told all = (all.0, lawful-all old names images told.1 all.1)

-- the first size out of range is one behind the first image's
pub IsFirstUnlawful-more : (old mid : List ℕ → List ℕ → Type 0) (name : List ℕ) (rest : List (List ℕ)) (k : ℕ)
    → ((bytes : List ℕ) → old name bytes → HasLawfulSize (length bytes))
    → ((images : Images) → TellEach old rest images → TellEach mid rest images)
    → ((images : Images) → TellEach mid rest images → IsFirstUnlawful (map (length {A = ℕ}) images) k)
    → (images : Images) → TellEach old (name ∷ rest) images → IsFirstUnlawful (map (length {A = ℕ}) images) (suc k)
IsFirstUnlawful-more old mid name rest k first keep behind [] told = absurd told
IsFirstUnlawful-more old mid name rest k first keep behind (bytes ∷ images) told =
    let later = behind images (keep images told.1) in
    record {
      there = (let l = later.there in omega arith);
      before = (first bytes told.0, later.before);
      unlawful = later.unlawful;
    }

-- what holds of each fault
pub by_fault : {T P : Type 0} (r : Result T ImagesFault) (fault : ImagesFault) → r ≡ Err fault → ((leaf : ℕ) → r ≡ Err (Failed leaf) → P)
    → ((leaf : ℕ) → r ≡ Err (Size leaf) → P) → (r ≡ Err Memory → P) → P
by_fault r (Failed leaf) is failed size memory = failed leaf is
by_fault r (Size leaf) is failed size memory = size leaf is
by_fault r Memory is failed size memory = memory is
