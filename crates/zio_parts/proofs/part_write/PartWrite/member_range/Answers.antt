use Rattle.std.proofs.Common.{◌≡◌, ℕ, zero, suc, ◌+◌, ◌-◌, ◌*◌, ◌/◌, ◌^◌, ◌<◌, ◌≤◌, refl, ap, arith, subst, sym, length}
use Rattle.zio_parts.specs.Parts.{is_gang, PartWriting}
use Rattle.zio_parts.specs.PartWrites.{IsPartWriting, IsPlacedWell}
use Rattle.zio_parts.specs.declared.parts.Placing.{Placing}
use Rattle.zio_parts.specs.declared.parts.Placing.TheVariants.{Body, Head, Whole, Gang, Nowhere}
use Rattle.std.proofs.Common.{true}
use Rattle.std.proofs.lemmas.Bool.{false≢true}
use Rattle.std.proofs.Math.Nat.{pow-succ'}
use Rattle.zio_parts.proofs.part_write.PartWrite.member_range.Goals as goal

-- only a part of more than a sector is a gang
large : (p : Placing) (x : PartWriting) → is_gang p ≡ true → IsPlacedWell p x → 512 < x.size
large Body x g is = absurd (false≢true g)
large Head x g is = absurd (false≢true g)
large (Whole places) x g is = absurd (false≢true g)
large (Gang places) x g is = is.large
large Nowhere x g is = absurd (false≢true g)

-- a third of so many levels has one level less
third : (levels n k : ℕ) → n ≤ 512 * 3 ^ (suc levels) → k ≤ (n / 512 + 2) / 3 * 512 → k ≤ 512 * 3 ^ levels
third levels n k h l =
    let p : ℕ = 3 ^ levels in
    let e : 3 ^ (suc levels) ≡ 3 * p = pow-succ' 3 levels in
    omega arith

third_of : (room n k : ℕ) → n ≤ 512 * 3 ^ (8 - room) → 512 < n → k ≤ (n / 512 + 2) / 3 * 512 → k ≤ 512 * 3 ^ (7 - room)
third_of room n k h large l = by (8 - room) refl where
  by : (m : ℕ) → m ≡ 8 - room → k ≤ 512 * 3 ^ (7 - room)
  by zero e = let no : n ≤ 512 * 3 ^ 0 = subst (λ m. n ≤ 512 * 3 ^ m) (sym e) h in absurd (omega arith)
  by (suc m) e =
      let less : m ≡ 7 - room = omega arith in
      subst (λ j. k ≤ 512 * 3 ^ j) less (third m n k (subst (λ j. n ≤ 512 * 3 ^ j) (sym e) h) l)

pub returns-clause-deep : goal.returns-clause-deep
returns-clause-deep c =
    let is = subst IsPartWriting c.self.view_is c.self.invariant.is in
    let big : 512 < c.args.self.now.size = large c.args.self.now.placing c.args.self.now c.requires.gang is.placed in
    let same : c.self.inside.size ≡ c.args.self.now.size = ap (λ (y : PartWriting). y.size) c.self.view_is in
    third_of (length c.args.self.now.path) c.args.self.now.size (c.member_range.result.end - c.member_range.result.start) is.deep big
    (subst (λ n. c.member_range.result.end - c.member_range.result.start ≤ (n / 512 + 2) / 3 * 512) same (c.member_range.ensures.third (subst (λ n. 512 < n) (sym same) big)))
