-- How many bytes a write stores.
use Rattle.std.proofs.Common.{◌≡◌, ◌==◌, ℕ, suc, ◌+◌, ◌-◌, ◌*◌, ◌%◌, Bool, true, List, [], ◌∷◌, ◌++◌, length, replicate, Option, refl, sym, ap, ◌∙◌, arith, length-append}
use Rattle.std.specs.List.{flat_map}
use Rattle.std.proofs.lemmas.List.{length-replicate}
use Rattle.std.proofs.lemmas.Bool.{eqb-true}
use Rattle.zio_blkptr.specs.declared.pointer.Bp.{Bp}
use Rattle.zio_script.specs.declared.limits.TheConstants.{POINTER_SIZE}
use Rattle.zio_script.specs.declared.script.Body.{Body}
use Rattle.zio_script.specs.Bodies.{body_of}
use Rattle.zio_script.specs.Whys.{body_len, rounded_up}
use Rattle.zio_script.proofs.BodyLemmas.{length-body}
use Rattle.zio_cksum.specs.Headers.{member_bytes}
use Rattle.zio_gang.specs.Writes.{padded}

-- up to whole sectors
pub length-padded : (bytes : List ℕ) → length (padded bytes) ≡ rounded_up (length bytes)
length-padded bytes =
    let n : ℕ = length bytes in
    let zeros : length (replicate ((512 - n % 512) % 512) 0) ≡ (512 - n % 512) % 512 = length-replicate ((512 - n % 512) % 512) 0 in
    let all : length (padded bytes) ≡ n + length (replicate ((512 - n % 512) % 512) 0) = length-append bytes (replicate ((512 - n % 512) % 512) 0) in
    all ∙ ap (λ m. n + m) zeros ∙ rounded n
  where
    rounded : (n : ℕ) → n + (512 - n % 512) % 512 ≡ rounded_up n
    rounded n = omega arith

-- the body behind the pointers
pub joined_size : (joined pointers own : List ℕ) (body : Body) (count : ℕ) → joined ≡ pointers ++ own → length pointers ≡ POINTER_SIZE * count → own ≡ body_of body
    → length joined ≡ body_len body + POINTER_SIZE * count
joined_size joined pointers own body count joined_is size own_is =
    let own_size : length own ≡ body_len body = ap length own_is ∙ length-body body in
    ap length joined_is ∙ length-append pointers own ∙ omega (arith, size, own_size)

none_left : (pointers : List (Option Bp)) (none : Bool) → none ≡ (length pointers == 0) → none ≡ true → pointers ≡ []
none_left [] none is holds = refl
none_left (p ∷ pointers) none is holds = let e : suc (length pointers) ≡ 0 = eqb-true (suc (length pointers)) 0 (sym is ∙ holds) in absurd (omega arith)

-- the body alone, where there are no children
pub alone_content : (pointers : List (Option Bp)) (own : List ℕ) (none : Bool) → none ≡ (length pointers == 0) → none ≡ true → own ≡ flat_map member_bytes pointers ++ own
alone_content pointers own none is holds = ap (λ (cs : List (Option Bp)). flat_map member_bytes cs ++ own) (sym (none_left pointers none is holds))

pub alone_size : (pointers : List (Option Bp)) (own : List ℕ) (body : Body) (none : Bool) → none ≡ (length pointers == 0) → none ≡ true → own ≡ body_of body
    → length own ≡ body_len body + POINTER_SIZE * length pointers
alone_size pointers own body none is holds own_is =
    let size : length own ≡ body_len body = ap length own_is ∙ length-body body in
    let count : length pointers ≡ 0 = ap length (none_left pointers none is holds) in
    omega (arith, size, count)

-- with zeros behind it
pub padded_size : (after joined : List ℕ) (n : ℕ) → after ≡ padded joined → length joined ≡ n → length after ≡ rounded_up n
padded_size after joined n padded_is size = ap length padded_is ∙ length-padded joined ∙ ap rounded_up size
