-- What a round does depends on a journal only by what this chooses for each ask.
use Rattle.std.proofs.Common.{◌≡◌, ℕ, zero, suc, List, [], Bool, true, false, Option, None, Some, refl, ap, ◌∙◌, nat_le, length}
use Rattle.zio_types.specs.declared.place.Place.{Place}
use Rattle.zio_types.specs.Choices.{Ask, Choice}
use Rattle.zio_cksum.specs.Images.{Images}
use Rattle.zio_script.specs.Bodies.{body_of}
use Rattle.zio_script.specs.declared.script.Work.{Work}
use Rattle.zio_script.specs.declared.script.Work.TheVariants.{Null, Read, Write, Free, Claim}
use Rattle.zio_gang.specs.Attempts.{Pending, Terms, own_work, own_write, writing_of}
use Rattle.zio_gang.specs.Rounds.{settle_each}
use Rattle.zio_gang.specs.Writes.{Placed, Writing, body_ask, body_with, chosen, content_of, gang_unless, gang_with, head_ask, place_part, without_place}
use Rattle.zio_gang.proofs.DependenceLemmas.{trees_same}

-- both journals choose the same for each ask
abbrev pub ChooseAlike : List Choice → List Choice → Type 0
ChooseAlike j k = (ask : Ask) → chosen j ask ≡ chosen k ask

unless_alike : (small : Bool) (j k : List Choice) (w : Writing) (p q : List ℕ → List ℕ → Images → Placed) (path bytes : List ℕ) (images : Images) → ChooseAlike j k → p ≡ q
    → gang_unless small j w p path bytes images ≡ gang_unless small k w q path bytes images
unless_alike true j k w p q path bytes images e same = refl
unless_alike false j k w p q path bytes images e same = λ i. gang_with (e (head_ask w path) i) w (same i) path bytes images

with_alike : (o : Option (List Place)) (j k : List Choice) (w : Writing) (p q : List ℕ → List ℕ → Images → Placed) (path bytes : List ℕ) (images : Images) → ChooseAlike j k → p ≡ q
    → body_with o j w p path bytes images ≡ body_with o k w q path bytes images
with_alike (Some places) j k w p q path bytes images e same = refl
with_alike None j k w p q path bytes images e same = unless_alike (nat_le (length bytes) 512) j k w p q path bytes images e same

part_alike : (levels : ℕ) (j k : List Choice) (w : Writing) → ChooseAlike j k → (path bytes : List ℕ) (images : Images)
    → place_part levels j w path bytes images ≡ place_part levels k w path bytes images
unfolding place_part
part_alike zero j k w e path bytes images =
    let nowhere : List ℕ → List ℕ → Images → Placed = λ below part now. without_place [] now in
    ap (λ (o : Option (List Place)). body_with o j w nowhere path bytes images) (e (body_ask w path bytes))
    ∙ with_alike (chosen k (body_ask w path bytes)) j k w nowhere nowhere path bytes images e refl
part_alike (suc levels) j k w e path bytes images =
    ap (λ (o : Option (List Place)). body_with o j w (place_part levels j w) path bytes images) (e (body_ask w path bytes))
    ∙ with_alike (chosen k (body_ask w path bytes)) j k w (place_part levels j w) (place_part levels k w) path bytes images e
    (λ i below part now. part_alike levels j k w e below part now i)

own_alike : (j k : List Choice) (t : Terms) → ChooseAlike j k → (attempt : ℕ) (p : Pending) (work : Work) (pointers : List (Option _)) (images : Images)
    → own_work j t attempt p work pointers images ≡ own_work k t attempt p work pointers images
own_alike j k t e attempt p Null pointers images = refl
own_alike j k t e attempt p (Read name prio) pointers images = refl
own_alike j k t e attempt p (Write name sum copies prio body) pointers images =
    ap own_write (part_alike 8 j k (writing_of t attempt p sum copies) e [] (content_of pointers (body_of body)) images)
own_alike j k t e attempt p (Free name) pointers images = refl
own_alike j k t e attempt p (Claim name pointer) pointers images = refl

-- so running trees gives the same under both
pub settle_alike : (j k : List Choice) (t : Terms) (trees : List (List Pending)) (images : Images) → ChooseAlike j k → settle_each j t trees images ≡ settle_each k t trees images
settle_alike j k t trees images e = trees_same j k t t refl (own_alike j k t e) trees images
