-- What the content of a sound write owes to the write of its block.
use Rattle.std.proofs.Common.{◌≡◌, ℕ, suc, ◌+◌, ◌*◌, ◌%◌, ◌<◌, ◌≤◌, List, [], ◌∷◌, length, Option, Bool, true, false, ◌&&◌, nat_le, refl, sym, ap, ◌∙◌, subst, arith}
use Rattle.std.proofs.lemmas.Bool.{false≢true}
use Rattle.zio_types.specs.declared.request.Prio.{Prio}
use Rattle.zio_blkptr.specs.declared.pointer.SumKind.{SumKind}
use Rattle.zio_blkptr.specs.declared.pointer.TheConstants.{BLOCK_SIZE_MAX}
use Rattle.zio_types.specs.declared.place.TheConstants.{COPIES_MAX}
use Rattle.zio_script.specs.declared.limits.TheConstants.{POINTER_SIZE}
use Rattle.zio_script.specs.declared.script.Body.{Body}
use Rattle.zio_script.specs.declared.script.Work.{Work}
use Rattle.zio_script.specs.declared.script.Work.TheVariants.{Null, Read, Write, Free, Claim}
use Rattle.zio_script.specs.Requests.{kind_of}
use Rattle.zio_script.specs.Whys.{body_len, fits_work, is_within, is_write, rounded_up, size_with}
use Rattle.zio_gang.specs.Attempts.{Pending, Terms, writing_of}
use Rattle.zio_exchange.specs.declared.waiting.UnfinishedRequest.{UnfinishedRequest}
use Rattle.zio_stages.specs.KidTrees.{AreNumbered}
use Rattle.zio_parts.specs.Parts.{writing_by}

pub not_write : (w : Work) → is_write (kind_of w) ≡ true
    → ((name : List ℕ) (sum : SumKind) (copies : ℕ) (prio : Prio) (body : Body) → w ≡ Write name sum copies prio body → ⊥) → ⊥
not_write Null e not = false≢true e
not_write (Read name prio) e not = false≢true e
not_write (Write name sum copies prio body) e not = not name sum copies prio body refl
not_write (Free name) e not = false≢true e
not_write (Claim name pointer) e not = false≢true e

both_true : (a b : Bool) → a && b ≡ true → (a ≡ true) × (b ≡ true)
both_true true b h = (refl, h)
both_true false b h = absurd (false≢true h)

within : (low high n : ℕ) → is_within low high n ≡ true → (low ≤ n) × (n ≤ high)
within low high n h =
    let both : (nat_le low n ≡ true) × (nat_le n high ≡ true) = both_true (nat_le low n) (nat_le n high) h in
    (below low n both.0, below n high both.1)
  where
    below : (a b : ℕ) → nat_le a b ≡ true → a ≤ b
    below a b e = search (arith, e)

-- whole sectors, no more than a block, in one to three copies
pub record IsBlockBytes (len copies : ℕ) : Type 0 where
  pub some : 0 < len
  pub whole : len % 512 ≡ 0
  pub most : len ≤ BLOCK_SIZE_MAX
  pub deep : len ≤ 3359232
  pub one : 1 ≤ copies
  pub three : copies ≤ 3

rounded_whole : (n : ℕ) → rounded_up n % 512 ≡ 0
rounded_whole n = omega arith

rounded_some : (n m : ℕ) → 0 < n → 0 < rounded_up (n + m)
rounded_some n m h = omega (arith, h)

sized : (len children copies : ℕ) (body : Body) → len ≡ rounded_up (body_len body + POINTER_SIZE * children)
    → rounded_up (body_len body + POINTER_SIZE * children) ≤ BLOCK_SIZE_MAX → (1 ≤ copies) × (copies ≤ COPIES_MAX)
    → 1 ≤ body_len body → IsBlockBytes len copies
sized len children copies body is most few some =
    let n : ℕ = body_len body in
    let m : ℕ = POINTER_SIZE * children in
    let low : len ≤ BLOCK_SIZE_MAX = subst (λ k. k ≤ BLOCK_SIZE_MAX) (sym is) most in
    record {
      some = subst (λ k. 0 < k) (sym is) (rounded_some (body_len body) (POINTER_SIZE * children) some);
      whole = ap (λ k. k % 512) is ∙ rounded_whole (body_len body + POINTER_SIZE * children);
      most = low;
      deep = omega (arith, low);
      one = few.0;
      three = few.1;
    }

pub block_bytes : (work : Work) (len children : ℕ) (name : List ℕ) (sum : SumKind) (copies : ℕ) (prio : Prio) (body : Body)
    → work ≡ Write name sum copies prio body → fits_work work ≡ true → size_with children work ≤ BLOCK_SIZE_MAX
    → len ≡ rounded_up (body_len body + POINTER_SIZE * children) → IsBlockBytes len copies
block_bytes work len children name sum copies prio body is fits size len_is =
    let both = both_true (is_within 1 COPIES_MAX copies) (is_within 1 BLOCK_SIZE_MAX (body_len body)) (sym (ap fits_work is) ∙ fits) in
    sized len children copies body len_is (subst (λ (w : Work). size_with children w ≤ BLOCK_SIZE_MAX) is size)
    (within 1 COPIES_MAX copies both.0) (within 1 BLOCK_SIZE_MAX (body_len body) both.1).0

-- what all parts of its block share
pub same_write : (t : Terms) (p : Pending) (round attempt : ℕ) (sum : SumKind) (copies birth : ℕ) → t.round ≡ round → birth ≡ p.birth
    → writing_by t.setting (record { request = p.request.number; round = round; attempt = attempt; sum = sum; copies = copies; birth = birth })
    ≡ writing_of t attempt p sum copies
same_write t p round attempt sum copies birth r b = λ i. record {
  setting = t.setting;
  request = p.request.number;
  round = sym r i;
  attempt = attempt;
  sum = sum;
  copies = copies;
  birth = b i;
}

-- there is a place for what is left of each child
pub numbered_count : (ns : List ℕ) (again : List (Option (List UnfinishedRequest))) → AreNumbered ns again → length again ≡ length ns
numbered_count [] [] h = refl
numbered_count [] (a ∷ again) h = absurd h
numbered_count (n ∷ ns) [] h = absurd h
numbered_count (n ∷ ns) (a ∷ again) h = ap suc (numbered_count ns again h.1)
