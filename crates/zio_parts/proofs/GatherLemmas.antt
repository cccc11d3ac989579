-- How much walks leave that are joined.
use Rattle.std.proofs.Common.{◌≡◌, ◌≤◌, ◌<◌, ◌+◌, ◌^◌, ℕ, List, [], ◌∷◌, length, Option, Some, None, get_or, sym, subst, vec_capacity, arith, length-append}
use Rattle.zio_trace.specs.Plans.{join_walked, under_head}
use Rattle.zio_trace.specs.Tasks.{Walked}
use Rattle.zio_parts.specs.Gathers.{FitsIn, IsRoomFor, KeepsRoom, as_counted, gathered}
use Rattle.zio_parts.specs.HeadWalks.{joined, joined_behind, no_walk, with_member}
use Rattle.zio_parts.specs.declared.gathered.Gathered.{Gathered}
use Rattle.zio_parts.specs.declared.walked.Counts.{Counts}

-- as much as the walk and those behind it
pub record Joins (w : Walked) (members : List (Option Walked)) : Type 0 where
  pub errors : length (joined_behind w members).errors ≡ length w.errors + length (joined members).errors
  pub bodies : length (joined_behind w members).bodies ≡ length w.bodies + length (joined members).bodies
  pub heads : length (joined_behind w members).heads ≡ length w.heads + length (joined members).heads

pub joins : (w : Walked) (members : List (Option Walked)) → Joins w members
joins w [] = record { errors = omega arith; bodies = omega arith; heads = omega arith }
joins w (None ∷ members) = let h : Joins w members = joins w members in record { errors = h.errors; bodies = h.bodies; heads = h.heads }
joins w (Some x ∷ members) =
    let h : Joins (join_walked w x) members = joins (join_walked w x) members in
    record {
      errors = omega (arith, h.errors, length-append w.errors x.errors, length-append x.errors (joined members).errors);
      bodies = omega (arith, h.bodies, length-append w.bodies x.bodies, length-append x.bodies (joined members).bodies);
      heads = omega (arith, h.heads, length-append w.heads x.heads, length-append x.heads (joined members).heads);
    }

-- there is room for a walk where there is for it and those behind it
pub fits_less : (w : Walked) (members : List (Option Walked)) (g : Gathered) → FitsIn (joined_behind w members) g → FitsIn w g
fits_less w members g h =
    let more : Joins w members = joins w members in
    record {
      errors = omega (arith, h.errors, more.errors);
      bodies = omega (arith, h.bodies, more.bodies);
      heads = omega (arith, h.heads, more.heads);
    }

pub fits_still : (w : Walked) (g now : Gathered) → FitsIn w g → KeepsRoom g now → FitsIn w now
fits_still w g now h k = record {
  errors = omega (arith, h.errors, k.errors);
  bodies = omega (arith, h.bodies, k.bodies);
  heads = omega (arith, h.heads, k.heads);
}

-- ---- a header, and room for what is below it

-- what fits into less than can be counted was counted
pub counted_fits : (n c room : ℕ) → c ≡ as_counted n → c ≤ room → room < 2 ^ 63 → n ≤ room
counted_fits n c room e fits few = omega (arith, e, fits, few)

pub room_fits : (path bytes : List ℕ) (members : List (Option Walked)) (c : Counts) (g : Gathered) → IsRoomFor (joined members) c → c.errors ≤ vec_capacity g.errors → c.bodies ≤ vec_capacity g.bodies → c.heads ≤ vec_capacity g.heads
    → vec_capacity g.errors < 2 ^ 63 → vec_capacity g.bodies < 2 ^ 63 → vec_capacity g.heads < 2 ^ 63
    → FitsIn (joined_behind (under_head path bytes no_walk) members) g
room_fits path bytes members c g room errors bodies heads few_errors few_bodies few_heads =
    let more : Joins (under_head path bytes no_walk) members = joins (under_head path bytes no_walk) members in
    let all_errors : length (joined members).errors ≤ vec_capacity g.errors = counted_fits _ _ _ room.errors errors few_errors in
    let all_bodies : length (joined members).bodies ≤ vec_capacity g.bodies = counted_fits _ _ _ room.bodies bodies few_bodies in
    let all_heads : length (joined members).heads + 1 ≤ vec_capacity g.heads = counted_fits _ _ _ room.heads heads few_heads in
    record {
      errors = omega (arith, more.errors, all_errors);
      bodies = omega (arith, more.bodies, all_bodies);
      heads = omega (arith, more.heads, all_heads);
    }

-- ---- one member after another

pub same_walk : (a b : Walked) → a.errors ≡ b.errors → a.bodies ≡ b.bodies → a.heads ≡ b.heads → a ≡ b
same_walk a b e f g = λ i. record { errors = e i; bodies = f i; heads = g i }

-- there is room for the second of two walks once the first is moved
pub fits_next : (g now : Gathered) (w : Walked) (m : Option Walked) (rest : List (Option Walked)) → FitsIn (joined_behind w (m ∷ rest)) g → KeepsRoom g now → gathered now ≡ with_member w m
    → FitsIn (joined_behind (gathered now) rest) now
fits_next g now w m rest h keeps is = fits_still (joined_behind (gathered now) rest) g now (subst (λ (x : Walked). FitsIn (joined_behind x rest) g) (sym is) h) keeps

pub three_are : (xs : List (Option Walked)) (a b c : Option Walked) → length xs ≡ 3 → a ≡ get_or xs 0 a → b ≡ get_or xs 1 b → c ≡ get_or xs 2 c → xs ≡ a ∷ b ∷ c ∷ []
three_are [] a b c n e f g = absurd (omega (arith, n))
three_are (x ∷ []) a b c n e f g = absurd (omega (arith, n))
three_are (x ∷ y ∷ []) a b c n e f g = absurd (omega (arith, n))
three_are (x ∷ y ∷ z ∷ []) a b c n e f g = λ i. sym e i ∷ sym f i ∷ sym g i ∷ []
three_are (x ∷ y ∷ z ∷ w ∷ xs) a b c n e f g = absurd (omega (arith, n))
