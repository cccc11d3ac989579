-- One key belongs to one part at most.
use Rattle.std.proofs.Common.{◌≡◌, ℕ, zero, suc, ◌+◌, ◌<◌, ◌≤◌, Bool, true, false, cond, List, [], ◌∷◌, ◌++◌, refl, sym, ap, ◌∙◌, eqb-true, arith}
use Rattle.std.proofs.lemmas.Bool.{and_parts}
use Rattle.std.proofs.lemmas.Slice.Eq.{bytes_eq-Decides}
use Rattle.zio_types.specs.declared.journal.Key.{Key}
use Rattle.zio_types.specs.declared.journal.Role.{Role}
use Rattle.zio_types.specs.declared.journal.Role.TheVariants.{Body as BodyRole, Head as HeadRole}
use Rattle.zio_types.specs.Choices.{same_key, same_role}
use Rattle.zio_trace.specs.Keys.{bit, if_same, starts}
use Rattle.zio_trace.specs.Labels.{same_number, same_at}
use Rattle.zio_trace.proofs.LabelLemmas.{number_itself, number_is}

-- the parts of keys that are the same
pub record SameParts (a b : Key) : Type 0 where
  pub request : a.request ≡ b.request
  pub round : a.round ≡ b.round
  pub attempt : a.attempt ≡ b.attempt
  pub path : a.path ≡ b.path
  pub role : a.role ≡ b.role

role_is : (a b : Role) → same_role a b ≡ true → a ≡ b
role_is BodyRole BodyRole h = refl
role_is BodyRole HeadRole h = absurd (cc)
role_is HeadRole BodyRole h = absurd (cc)
role_is HeadRole HeadRole h = refl

pub parts_of : (a b : Key) → same_key a b ≡ true → SameParts a b
parts_of a b h =
    let whole = and_parts _ _ h in
    let paths = and_parts _ _ whole.0 in
    let attempts = and_parts _ _ paths.0 in
    let ends = and_parts _ _ attempts.0 in
    record {
      request = eqb-true a.request b.request ends.0;
      round = eqb-true a.round b.round ends.1;
      attempt = eqb-true a.attempt b.attempt attempts.1;
      path = (bytes_eq-Decides a.path b.path).0 paths.1;
      role = role_is a.role b.role whole.1;
    }

pub if_added : (b : Bool) (x y z : ℕ) → x + y ≤ z → cond b x 0 + cond b y 0 ≤ cond b z 0
if_added true x y z h = h
if_added false x y z h = omega arith

pub if_more : (b : Bool) (x y : ℕ) → x ≤ y → cond b x 0 ≤ cond b y 0
if_more true x y h = h
if_more false x y h = omega arith

-- how many of these numbers, from n on, pass
abbrev pub passes : (ℕ → Bool) → ℕ → List (List ℕ) → ℕ
passes f n [] = 0
passes f n (part ∷ parts) = bit (f n) + passes f (n + 1) parts

none_passes : (n : ℕ) (parts : List (List ℕ)) → passes (λ m. false) n parts ≡ 0
none_passes n [] = refl
none_passes n (part ∷ parts) = let e : passes (λ m. false) (n + 1) parts ≡ 0 = none_passes (n + 1) parts in omega arith

number_less : (m i : ℕ) → i < m → same_number m i ≡ false
number_less zero i h = absurd (omega arith)
number_less (suc m) zero h = refl
number_less (suc m) (suc i) h = number_less m i (omega arith)

bit_cond : (b : Bool) → bit (cond b true false) ≡ bit b
bit_cond true = refl
bit_cond false = refl

abbrev is_here : ℕ → ℕ → Bool
is_here i m = cond (same_number m i) true false

later_none : (i n : ℕ) (parts : List (List ℕ)) → i < n → passes (is_here i) n parts ≡ 0
later_none i n [] h = refl
later_none i n (part ∷ parts) h =
    let a : bit (is_here i n) ≡ 0 = ap (λ (b : Bool). bit (cond b true false)) (number_less n i h) in
    let b : passes (is_here i) (n + 1) parts ≡ 0 = later_none i (n + 1) parts (omega arith) in
    omega arith

one_if : (b : Bool) (i n : ℕ) (parts : List (List ℕ)) → same_number n i ≡ b → passes (is_here i) (n + 1) parts ≤ 1 → bit (cond b true false) + passes (is_here i) (n + 1) parts ≤ 1
one_if true i n parts e h =
    let same : n ≡ i = number_is n i e in
    let b : passes (is_here i) (n + 1) parts ≡ 0 = later_none i (n + 1) parts (omega arith) in
    omega arith
one_if false i n parts e h = omega (arith, h)

one_passes : (i n : ℕ) (parts : List (List ℕ)) → passes (is_here i) n parts ≤ 1
one_passes i n [] = omega arith
one_passes i n (part ∷ parts) = one_if (same_number n i) i n parts refl (one_passes i (n + 1) parts)

-- what a part's own asks and its members may ask of the key's path
abbrev pub of_path : List ℕ → List ℕ → Role → ℕ → List (List ℕ) → ℕ
of_path path at role n parts =
    cond (same_at path at) (bit (same_role BodyRole role)) 0
    + (cond (same_at path at) (bit (same_role HeadRole role)) 0 + passes (λ m. starts (path ++ m ∷ []) at) n parts)

one_role : (role : Role) → bit (same_role BodyRole role) + bit (same_role HeadRole role) ≡ 1
one_role BodyRole = refl
one_role HeadRole = refl

under_if : (b inner : Bool) (x y : ℕ) (f : ℕ → Bool) (n : ℕ) (parts : List (List ℕ)) (most : Bool) → cond inner x 0 + (cond inner y 0 + passes f n parts) ≤ bit most
    → cond (cond b inner false) x 0 + (cond (cond b inner false) y 0 + passes (λ m. cond b (f m) false) n parts) ≤ bit (cond b most false)
under_if true inner x y f n parts most h = h
under_if false inner x y f n parts most h = let e : passes (λ m. false) n parts ≡ 0 = none_passes n parts in omega arith

pub one_of_path : (path at : List ℕ) (role : Role) (n : ℕ) (parts : List (List ℕ)) → of_path path at role n parts ≤ bit (starts path at)
one_of_path [] [] role n parts =
    let e : passes (λ m. false) n parts ≡ 0 = none_passes n parts in
    let f : bit (same_role BodyRole role) + bit (same_role HeadRole role) ≡ 1 = one_role role in
    omega arith
one_of_path [] (i ∷ at) role n parts = let e : passes (is_here i) n parts ≤ 1 = one_passes i n parts in omega arith
one_of_path (x ∷ path) [] role n parts = let e : passes (λ m. false) n parts ≡ 0 = none_passes n parts in omega arith
one_of_path (x ∷ path) (y ∷ at) role n parts =
    under_if (same_number x y) (same_at path at) (bit (same_role BodyRole role)) (bit (same_role HeadRole role)) (λ m. starts (path ++ m ∷ []) at) n parts (starts path at) (one_of_path path at role n parts)

at_itself : (xs : List ℕ) → same_at xs xs ≡ true
at_itself [] = refl
at_itself (x ∷ xs) = ap (λ (b : Bool). cond b (same_at xs xs) false) (number_itself x) ∙ at_itself xs

role_itself : (a : Role) → same_role a a ≡ true
role_itself BodyRole = refl
role_itself HeadRole = refl

-- a key is asked where all of it is the same
abbrev wrapped : Key → Key → ℕ
wrapped a k = if_same a.request k.request (if_same a.attempt k.attempt (cond (same_at a.path k.path) (bit (same_role a.role k.role)) 0))

key_if : (b : Bool) (a k : Key) → same_key a k ≡ b → bit b ≤ wrapped a k
key_if false a k e = omega arith
key_if true a k e =
    let h : SameParts a k = parts_of a k e in
    let q : same_number a.request k.request ≡ true = ap (same_number a.request) (sym h.request) ∙ number_itself a.request in
    let r : same_number a.attempt k.attempt ≡ true = ap (same_number a.attempt) (sym h.attempt) ∙ number_itself a.attempt in
    let s : same_at a.path k.path ≡ true = ap (same_at a.path) (sym h.path) ∙ at_itself a.path in
    let u : same_role a.role k.role ≡ true = ap (same_role a.role) (sym h.role) ∙ role_itself a.role in
    let all : wrapped a k ≡ 1 = λ i. cond (q i) (cond (r i) (cond (s i) (bit (u i)) 0) 0) 0 in
    omega arith

pub key_bit : (a k : Key) → bit (same_key a k) ≤ wrapped a k
key_bit a k = key_if (same_key a k) a k refl
