-- Operations on leaves that don't conflict give the same in either order.
use Rattle.std.proofs.Common.{◌≡◌, ◌≢◌, ℕ, ◌+◌, ◌<◌, ◌≤◌, List, [], ◌∷◌, length, set, take, drop, true, false, Option, Some, None, IfSome, ◌⊎◌, inl, inr, ⊎_elim, refl, sym, ap, ◌∙◌, subst, arith}
use Rattle.std.proofs.lemmas.Bool.{cases_eq, cases_lt}
use Rattle.std.proofs.lemmas.List.{set-set, set_comm}
use Rattle.zio_faults.specs.declared.table.Hit.{Hit}
use Rattle.zio_faults.specs.declared.table.FaultKind.{FaultKind}
use Rattle.zio_faults.specs.declared.table.FaultKind.TheVariants.{Eio, Gone, Flip}
use Rattle.zio_faults.specs.Hits.{flipped}
use Rattle.zio_cksum.specs.Images.{Images, Setting, Spot, image_of, bytes_at, with_bytes, overwritten, met, padded_to, read_met, write_met, faulty_write}
use Rattle.zio_cksum.proofs.ByteLemmas.{length-flipped, length-padded_to, image_of_other, image_of_same, images_past}
use Rattle.zio_trace.specs.Leaves.{LeafOp, Fetch, Store, answer_of, on_leaf, AreClear, AreApart, spot_of, asked_of, stores, HaveSizes, LiesOn}
use Rattle.zio_trace.specs.Orders.{Commute}
use Rattle.zio_trace.proofs.ByteLemmas.{AreClear as RunsClear, read_over, over_over}
use Rattle.zio_cksum.proofs.AllLemmas.{all_contained}
use Rattle.zio_cksum.proofs.FrameLemmas.{write_same}

-- ---- bytes at one spot and at another

-- so many bytes here and there don't meet
abbrev RangesClear : Spot → ℕ → Spot → ℕ → Type 0
RangesClear t n u m = (t.leaf ≢ u.leaf) ⊎ RunsClear t.at n u.at m

-- as many bytes as the places have, or fewer
ranges_clear : (t u : Spot) (n m : ℕ) → AreClear t u → n ≤ t.span → m ≤ u.span → RangesClear t n u m
ranges_clear t u n m h f g =
    ⊎_elim (λ (ne : t.leaf ≢ u.leaf). inl ne)
    (λ (k : RunsClear t.at t.span u.at u.span). inr (⊎_elim (λ (l : t.at + t.span ≤ u.at). inl (omega arith)) (λ (l : u.at + u.span ≤ t.at). inr (omega arith)) k))
    h

-- so many bytes are there
abbrev IsThere : Images → Spot → ℕ → Type 0
IsThere images t n = t.at + n ≤ length (image_of images t.leaf)

read_same_leaf : (images : Images) (leaf at u : ℕ) (vs : List ℕ) (m : ℕ) → RunsClear at (length vs) u m → at + length vs ≤ length (image_of images leaf) → take m (drop u (image_of (set images leaf (overwritten (image_of images leaf) at vs)) leaf)) ≡ take m (drop u (image_of images leaf))
read_same_leaf images leaf at u vs m h fits =
    ⊎_elim
    (λ (there : leaf < length images).
    ap (λ (i : List ℕ). take m (drop u i)) (image_of_same images leaf (overwritten (image_of images leaf) at vs) there)
    ∙ read_over (image_of images leaf) vs at u m h fits)
    (λ (past : length images ≤ leaf). ap (λ (i : Images). take m (drop u (image_of i leaf))) (images_past images leaf (overwritten (image_of images leaf) at vs) past))
    (cases_lt leaf (length images))

with_read : (images : Images) (t u : Spot) (vs : List ℕ) (m : ℕ) → RangesClear t (length vs) u m → IsThere images t (length vs) → bytes_at (with_bytes images t vs) u m ≡ bytes_at images u m
with_read images t u vs m h fits =
    let image : List ℕ = overwritten (image_of images t.leaf) t.at vs in
    let other : (u.leaf ≢ t.leaf) → bytes_at (with_bytes images t vs) u m ≡ bytes_at images u m = λ ne. ap (λ (i : List ℕ). take m (drop u.at i)) (image_of_other images t.leaf u.leaf image ne) in
    ⊎_elim
    (λ (ne : t.leaf ≢ u.leaf). other (λ e. ne (sym e)))
    (λ (clear : RunsClear t.at (length vs) u.at m).
    ⊎_elim
    (λ (is : t.leaf ≡ u.leaf).
    subst (λ (leaf : ℕ). take m (drop u.at (image_of (set images t.leaf image) leaf)) ≡ take m (drop u.at (image_of images leaf))) is
    (read_same_leaf images t.leaf t.at u.at vs m clear fits))
    (λ (ne : t.leaf ≢ u.leaf). other (λ e. ne (sym e)))
    (cases_eq t.leaf u.leaf))
    h

with_same_leaf : (images : Images) (leaf at u : ℕ) (vs ws : List ℕ) → RunsClear at (length vs) u (length ws) → at + length vs ≤ length (image_of images leaf) → u + length ws ≤ length (image_of images leaf) → with_bytes (with_bytes images (record { leaf = leaf; at = at; span = 0 }) vs) (record { leaf = leaf; at = u; span = 0 }) ws ≡ with_bytes (with_bytes images (record { leaf = leaf; at = u; span = 0 }) ws) (record { leaf = leaf; at = at; span = 0 }) vs
with_same_leaf images leaf at u vs ws h f g =
    let image : List ℕ = image_of images leaf in
    let a : List ℕ = overwritten image at vs in
    let b : List ℕ = overwritten image u ws in
    ⊎_elim
    (λ (there : leaf < length images).
    ap (λ (i : List ℕ). set (set images leaf a) leaf (overwritten i u ws)) (image_of_same images leaf a there)
    ∙ set-set images leaf a (overwritten a u ws)
    ∙ ap (set images leaf) (over_over image vs ws at u h f g)
    ∙ sym (set-set images leaf b (overwritten b at vs))
    ∙ ap (λ (i : List ℕ). set (set images leaf b) leaf (overwritten i at vs)) (sym (image_of_same images leaf b there)))
    (λ (past : length images ≤ leaf).
    let none : (i : List ℕ) → set images leaf i ≡ images = λ i. images_past images leaf i past in
    ap (λ (i : Images). with_bytes i (record { leaf = leaf; at = u; span = 0 }) ws) (none a) ∙ none b
    ∙ sym (ap (λ (i : Images). with_bytes i (record { leaf = leaf; at = at; span = 0 }) vs) (none b) ∙ none a))
    (cases_lt leaf (length images))

with_with : (images : Images) (t u : Spot) (vs ws : List ℕ) → RangesClear t (length vs) u (length ws) → IsThere images t (length vs) → IsThere images u (length ws) → with_bytes (with_bytes images t vs) u ws ≡ with_bytes (with_bytes images u ws) t vs
with_with images t u vs ws h f g =
    let a : List ℕ = overwritten (image_of images t.leaf) t.at vs in
    let b : List ℕ = overwritten (image_of images u.leaf) u.at ws in
    let other : (t.leaf ≢ u.leaf) → with_bytes (with_bytes images t vs) u ws ≡ with_bytes (with_bytes images u ws) t vs =
    λ ne.
    ap (λ (i : List ℕ). set (set images t.leaf a) u.leaf (overwritten i u.at ws)) (image_of_other images t.leaf u.leaf a (λ e. ne (sym e)))
    ∙ set_comm images t.leaf u.leaf a b ne
    ∙ ap (λ (i : List ℕ). set (set images u.leaf b) t.leaf (overwritten i t.at vs)) (sym (image_of_other images u.leaf t.leaf b ne)) in
    ⊎_elim other
    (λ (clear : RunsClear t.at (length vs) u.at (length ws)).
    ⊎_elim
    (λ (is : t.leaf ≡ u.leaf).
    subst (λ (leaf : ℕ). u.at + length ws ≤ length (image_of images leaf) → with_bytes (with_bytes images t vs) (record { leaf = leaf; at = u.at; span = u.span }) ws ≡ with_bytes (with_bytes images (record { leaf = leaf; at = u.at; span = u.span }) ws) t vs) is
    (λ g2. with_same_leaf images t.leaf t.at u.at vs ws clear f g2) g)
    other
    (cases_eq t.leaf u.leaf))
    h

-- ---- what an operation stores

abbrev faulty_bytes : FaultKind → Hit → Spot → List ℕ → Option (List ℕ)
faulty_bytes Eio hit spot bytes = None
faulty_bytes Gone hit spot bytes = None
faulty_bytes Flip hit spot bytes = Some (flipped spot.at hit bytes)

abbrev met_bytes : Option Hit → Spot → List ℕ → Option (List ℕ)
met_bytes None spot bytes = Some bytes
met_bytes (Some hit) spot bytes = faulty_bytes hit.kind hit spot bytes

abbrev kept_bytes : Setting → LeafOp → Option (List ℕ)
kept_bytes s (Fetch retry len spot) = None
kept_bytes s (Store retry bytes spot) = met_bytes (met s retry true spot) spot (padded_to spot.span bytes)

abbrev put : Images → Spot → Option (List ℕ) → Images
put images spot None = images
put images spot (Some bytes) = with_bytes images spot bytes

faulty_put : (kind : FaultKind) (hit : Hit) (images : Images) (spot : Spot) (bytes : List ℕ) → (faulty_write kind hit images spot bytes).images ≡ put images spot (faulty_bytes kind hit spot bytes)
faulty_put Eio hit images spot bytes = refl
faulty_put Gone hit images spot bytes = refl
faulty_put Flip hit images spot bytes = refl

met_put : (hit : Option Hit) (images : Images) (spot : Spot) (bytes : List ℕ) → (write_met hit images spot bytes).images ≡ put images spot (met_bytes hit spot bytes)
met_put None images spot bytes = refl
met_put (Some hit) images spot bytes = faulty_put hit.kind hit images spot bytes

done_put : (s : Setting) (a : LeafOp) (images : Images) → (on_leaf s a images).images ≡ put images (spot_of a) (kept_bytes s a)
done_put s (Fetch retry len spot) images = refl
done_put s (Store retry bytes spot) images = met_put (met s retry true spot) images spot (padded_to spot.span bytes)

-- what is stored fills the place
faulty_length : (n : ℕ) (kind : FaultKind) (hit : Hit) (spot : Spot) (bytes : List ℕ) → length bytes ≡ n → IfSome (faulty_bytes kind hit spot bytes) (λ b. length b ≡ n)
faulty_length n Eio hit spot bytes e = tt
faulty_length n Gone hit spot bytes e = tt
faulty_length n Flip hit spot bytes e = length-flipped spot.at hit bytes ∙ e

met_length : (n : ℕ) (hit : Option Hit) (spot : Spot) (bytes : List ℕ) → length bytes ≡ n → IfSome (met_bytes hit spot bytes) (λ b. length b ≡ n)
met_length n None spot bytes e = e
met_length n (Some hit) spot bytes e = faulty_length n hit.kind hit spot bytes e

kept_length : (s : Setting) (a : LeafOp) → IfSome (kept_bytes s a) (λ b. length b ≡ (spot_of a).span)
kept_length s (Fetch retry len spot) = tt
kept_length s (Store retry bytes spot) = met_length spot.span (met s retry true spot) spot (padded_to spot.span bytes) (length-padded_to spot.span bytes)

-- a write's answer doesn't come from the images
faulty_answer : (kind : FaultKind) (hit : Hit) (a b : Images) (spot : Spot) (bytes : List ℕ) → (faulty_write kind hit a spot bytes).error ≡ (faulty_write kind hit b spot bytes).error
faulty_answer Eio hit a b spot bytes = refl
faulty_answer Gone hit a b spot bytes = refl
faulty_answer Flip hit a b spot bytes = refl

pub met_answer : (hit : Option Hit) (a b : Images) (spot : Spot) (bytes : List ℕ) → (write_met hit a spot bytes).error ≡ (write_met hit b spot bytes).error
met_answer None a b spot bytes = refl
met_answer (Some hit) a b spot bytes = faulty_answer hit.kind hit a b spot bytes

-- ---- two operations

put_put : (images : Images) (t u : Spot) (x y : Option (List ℕ)) → IfSome x (λ b. length b ≡ t.span) → IfSome y (λ b. length b ≡ u.span) → AreClear t u → IsThere images t t.span → IsThere images u u.span → put (put images t x) u y ≡ put (put images u y) t x
put_put images t u None y e1 e2 h f g = refl
put_put images t u (Some vs) None e1 e2 h f g = refl
put_put images t u (Some vs) (Some ws) e1 e2 h f g =
    with_with images t u vs ws (ranges_clear t u (length vs) (length ws) h (omega arith) (omega arith)) (omega arith) (omega arith)

put_read : (images : Images) (t u : Spot) (m : ℕ) (x : Option (List ℕ)) → IfSome x (λ b. length b ≡ t.span) → m ≤ u.span → AreClear t u → IsThere images t t.span → bytes_at (put images t x) u m ≡ bytes_at images u m
put_read images t u m None e room h f = refl
put_read images t u m (Some vs) e room h f =
    with_read images t u vs m (ranges_clear t u (length vs) m h (omega arith) room) (omega arith)

-- as the first does, the second is answered
answer_put : (s : Setting) (b : LeafOp) (images : Images) (t : Spot) (x : Option (List ℕ)) → IfSome x (λ v. length v ≡ t.span) → asked_of b ≤ (spot_of b).span → AreClear t (spot_of b) → IsThere images t t.span → (on_leaf s b (put images t x)).value ≡ (on_leaf s b images).value
answer_put s (Fetch retry len spot) images t x e room h f = ap (read_met (met s retry false spot) spot.at) (put_read images t spot len x e room h f)
answer_put s (Store retry bytes spot) images t x e room h f = ap answer_of (met_answer (met s retry true spot) (put images t x) images spot (padded_to spot.span bytes))

pub apart_sym : (a b : LeafOp) → AreApart a b → AreApart b a
apart_sym a b h =
    ⊎_elim (λ both. inl (both.1, both.0))
    (λ (clear : AreClear (spot_of a) (spot_of b)).
    inr (⊎_elim (λ (ne : (spot_of a).leaf ≢ (spot_of b).leaf). inl (λ e. ne (sym e)))
    (λ (k : RunsClear (spot_of a).at (spot_of a).span (spot_of b).at (spot_of b).span). inr (⊎_elim (λ l. inr l) (λ l. inl l) k)) clear))
    h

fetch_same : (s : Setting) (a : LeafOp) (images : Images) → stores a ≡ false → (on_leaf s a images).images ≡ images
fetch_same s (Fetch retry len spot) images h = refl
fetch_same s (Store retry bytes spot) images h = absurd (cc)

is_there : (sizes : ℕ → ℕ) (images : Images) (a : LeafOp) → HaveSizes sizes images → LiesOn sizes a → IsThere images (spot_of a) (spot_of a).span
is_there sizes images a h on = let there : (spot_of a).at + (spot_of a).span ≤ sizes (spot_of a).leaf = on.lies in omega (arith, h (spot_of a).leaf)

-- the second is answered as if it were the first
same_answer : (s : Setting) (sizes : ℕ → ℕ) (images : Images) (a b : LeafOp) → AreApart a b → HaveSizes sizes images → LiesOn sizes a → LiesOn sizes b → (on_leaf s b (on_leaf s a images).images).value ≡ (on_leaf s b images).value
same_answer s sizes images a b h have la lb =
    ⊎_elim
    (λ both. ap (λ (i : Images). (on_leaf s b i).value) (fetch_same s a images both.0))
    (λ (clear : AreClear (spot_of a) (spot_of b)).
    ap (λ (i : Images). (on_leaf s b i).value) (done_put s a images)
    ∙ answer_put s b images (spot_of a) (kept_bytes s a) (kept_length s a) lb.room clear (is_there sizes images a have la))
    h

-- both leave the same, whichever comes first
same_images : (s : Setting) (sizes : ℕ → ℕ) (images : Images) (a b : LeafOp) → AreApart a b → HaveSizes sizes images → LiesOn sizes a → LiesOn sizes b → (on_leaf s b (on_leaf s a images).images).images ≡ (on_leaf s a (on_leaf s b images).images).images
same_images s sizes images a b h have la lb =
    ⊎_elim
    (λ both. fetch_same s b (on_leaf s a images).images both.1 ∙ fetch_same s a images both.0
    ∙ sym (fetch_same s a (on_leaf s b images).images both.0 ∙ fetch_same s b images both.1))
    (λ (clear : AreClear (spot_of a) (spot_of b)).
    done_put s b (on_leaf s a images).images
    ∙ ap (λ (i : Images). put i (spot_of b) (kept_bytes s b)) (done_put s a images)
    ∙ put_put images (spot_of a) (spot_of b) (kept_bytes s a) (kept_bytes s b) (kept_length s a) (kept_length s b) clear (is_there sizes images a have la) (is_there sizes images b have lb)
    ∙ sym (done_put s a (on_leaf s b images).images ∙ ap (λ (i : Images). put i (spot_of a) (kept_bytes s a)) (done_put s b images)))
    h

pub done_sizes : (s : Setting) (sizes : ℕ → ℕ) (images : Images) (a : LeafOp) → HaveSizes sizes images → LiesOn sizes a → HaveSizes sizes (on_leaf s a images).images
done_sizes s sizes images (Fetch retry len spot) have lies = have
done_sizes s sizes images (Store retry bytes spot) have lies =
    λ leaf. (write_same (spot ∷ []) s retry bytes images spot (is_there sizes images (Store retry bytes spot) have lies, tt) (all_contained (spot ∷ [])).0).sizes leaf ∙ have leaf

-- operations on leaves that don't conflict may change places
pub leaves_commute : (s : Setting) (sizes : ℕ → ℕ) → Commute (on_leaf s) (HaveSizes sizes) (LiesOn sizes) AreApart
leaves_commute s sizes = record {
  turned = apart_sym;
  sound = λ a images have lies. done_sizes s sizes images a have lies;
  answer = λ a b images apart have la lb. same_answer s sizes images a b apart have la lb;
  images = λ a b images apart have la lb. same_images s sizes images a b apart have la lb;
}
