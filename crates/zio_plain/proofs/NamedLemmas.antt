-- What the requests of a round name: the places of the blocks that they read or free, and whether they are claims.
use Rattle.std.proofs.Common.{◌≡◌, List, [], ◌∷◌, length, Bool, true, false, ◌||◌, Option, refl, sym, ◌∙◌, arith}
use Rattle.std.specs.Prelude.{Contains}
use Rattle.std.specs.List.{AllByRecursion, flat_map}
use Rattle.std.proofs.lemmas.List.{length-map}
use Rattle.zio_cksum.proofs.AllLemmas.{all_contained, all_parts, all_unmap, all_weaker}
use Rattle.zio_script.specs.declared.script.Request.{Request}
use Rattle.zio_script.specs.declared.script.Work.{Work}
use Rattle.zio_script.specs.Requests.{kind_of}
use Rattle.zio_script.specs.Whys.{is_claim}
use Rattle.zio_gang.specs.declared.tree.Tree.{Tree}
use Rattle.zio_course.specs.Runners.{has_claim, places_of_block}
use Rattle.zio_plain.specs.declared.waiting.Waiting.{Waiting}
use Rattle.zio_plain.specs.OwnEnds.{AreNamed, Named}
use Rattle.zio_plain.specs.Posts.{requests_in}

-- what the requests name
abbrev pub named_by : List Waiting → Named
named_by ws = record { places = flat_map (λ (w : Waiting). places_of_block w.block) ws; claims = has_claim (requests_in ws) }

no_or : (b : Bool) → b ≡ (b || false)
no_or true = refl
no_or false = refl

-- where a claim is alone, all requests are claims or none is
pub claims_all : (rs : List Request) → (has_claim rs ≡ true → length rs ≡ 1) → AllByRecursion (λ (r : Request). is_claim (kind_of r.work) ≡ has_claim rs) rs
claims_all [] alone = tt
claims_all (r ∷ []) alone = (no_or (is_claim (kind_of r.work)), tt)
claims_all (r ∷ q ∷ rs) alone =
    let none : has_claim (r ∷ q ∷ rs) ≡ false = is_false (has_claim (r ∷ q ∷ rs)) (λ e. (let n : length (r ∷ q ∷ rs) ≡ 1 = alone e in omega arith)) in
    all_weaker (λ (x : Request). is_claim (kind_of x.work) ≡ false) (λ (x : Request). is_claim (kind_of x.work) ≡ has_claim (r ∷ q ∷ rs)) (r ∷ q ∷ rs)
    (λ x e. e ∙ sym none) (no_claims (r ∷ q ∷ rs) none)
  where
    is_false : (b : Bool) → (b ≡ true → ⊥) → b ≡ false
    is_false true k = absurd (k refl)
    is_false false k = refl

    both_false : (a b : Bool) → (a || b) ≡ false → (a ≡ false) × (b ≡ false)
    both_false false b e = (refl, e)
    both_false true b e = absurd (cc)

    no_claims : (xs : List Request) → has_claim xs ≡ false → AllByRecursion (λ (x : Request). is_claim (kind_of x.work) ≡ false) xs
    no_claims [] e = tt
    no_claims (x ∷ xs) e = let parts = both_false (is_claim (kind_of x.work)) (has_claim xs) e in (parts.0, no_claims xs parts.1)

-- what one request names
abbrev pub naming : Work → Option Tree → Named
naming work block = record { places = places_of_block block; claims = is_claim (kind_of work) }

pub names_itself : (work : Work) (block : Option Tree) → AreNamed (naming work block) work block
names_itself work block = record { within = all_contained (places_of_block block); claim = refl }

-- requests whose blocks have places among these, and which are claims or not
pub named_each : {X : Type 0} (work : X → Work) (block : X → Option Tree) (named : Named) (xs : List X) → AllByRecursion (λ x. AllByRecursion (Contains named.places) (places_of_block (block x))) xs
    → AllByRecursion (λ x. is_claim (kind_of (work x)) ≡ named.claims) xs → AllByRecursion (λ x. AreNamed named (work x) (block x)) xs
named_each work block named [] h k = tt
named_each work block named (x ∷ xs) h k = (record { within = h.0; claim = k.0 }, named_each work block named xs h.1 k.1)

pub named_all : (ws : List Waiting) → (has_claim (requests_in ws) ≡ true → length ws ≡ 1) → AllByRecursion (λ (w : Waiting). AreNamed (named_by ws) w.request.work w.block) ws
named_all ws alone =
    named_each (λ (w : Waiting). w.request.work) (λ (w : Waiting). w.block) (named_by ws) ws (all_parts (λ (w : Waiting). places_of_block w.block) ws)
    (all_unmap (λ (r : Request). is_claim (kind_of r.work) ≡ has_claim (requests_in ws)) (λ (w : Waiting). w.request) ws
    (claims_all (requests_in ws) (λ e. length-map ws (λ (w : Waiting). w.request) ∙ alone e)))
