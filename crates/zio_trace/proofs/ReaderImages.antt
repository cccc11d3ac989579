-- Repairs of one block with the same bytes: in whatever order, and however often.
use Rattle.std.proofs.Common.{◌≡◌, ℕ, ◌+◌, ◌<◌, ◌≤◌, List, [], ◌∷◌, length, set, true, false, Option, Some, None, Contains, ◌⊎◌, inl, inr, ⊎_elim, refl, sym, ap, ◌∙◌, subst, arith}
use Rattle.std.specs.List.{AllByRecursion}
use Rattle.std.proofs.lemmas.Bool.{cases_lt}
use Rattle.std.proofs.lemmas.List.{set-set}
use Rattle.zio_faults.specs.declared.table.Hit.{Hit}
use Rattle.zio_faults.specs.declared.table.FaultKind.{FaultKind}
use Rattle.zio_faults.specs.declared.table.FaultKind.TheVariants.{Eio, Gone, Flip}
use Rattle.zio_cksum.specs.Blocks.{repaired}
use Rattle.zio_cksum.specs.Images.{Images, Setting, Spot, faulty_write, image_of, met, overwritten, padded_to, with_bytes, write_leaf, write_met}
use Rattle.zio_cksum.proofs.AllLemmas.{all_contains}
use Rattle.zio_cksum.proofs.ByteLemmas.{image_of_same, images_past, length-padded_to}
use Rattle.zio_trace.specs.Leaves.{AreClear, HaveSizes, LiesOn, Store}
use Rattle.zio_trace.specs.Readers.{RowsArePlain, TurnsNoBytes}
use Rattle.zio_trace.proofs.ByteLemmas.{over_twice}
use Rattle.zio_trace.proofs.LeafLemmas.{done_sizes, leaves_commute}
use Rattle.zio_trace.proofs.ReaderFaults.{MetPlain, met_plain}
use Rattle.zio_trace.proofs.ChoiceLemmas.{contained_cases}

with_twice : (images : Images) (t : Spot) (b : List ℕ) → t.at + length b ≤ length (image_of images t.leaf) → with_bytes (with_bytes images t b) t b ≡ with_bytes images t b
with_twice images t b fits =
    let a : List ℕ = overwritten (image_of images t.leaf) t.at b in
    ⊎_elim
    (λ (there : t.leaf < length images).
    ap (λ (i : List ℕ). set (set images t.leaf a) t.leaf (overwritten i t.at b)) (image_of_same images t.leaf a there)
    ∙ set-set images t.leaf a (overwritten a t.at b)
    ∙ ap (set images t.leaf) (over_twice (image_of images t.leaf) b t.at fits))
    (λ (past : length images ≤ t.leaf). ap (λ (i : Images). with_bytes i t b) (images_past images t.leaf a past))
    (cases_lt t.leaf (length images))

-- a write stores its bytes, or leaves all as it is, whatever the images are
pub met_stores : (h : Option Hit) (t : Spot) (b : List ℕ) → MetPlain h → ((images : Images) → (write_met h images t b).images ≡ with_bytes images t b) ⊎ ((images : Images) → (write_met h images t b).images ≡ images)
met_stores None t b plain = inl (λ images. refl)
met_stores (Some hit) t b plain = inr (λ images. faulty_leaves hit.kind images plain)
  where
    faulty_leaves : (kind : FaultKind) (images : Images) → TurnsNoBytes kind → (faulty_write kind hit images t b).images ≡ images
    faulty_leaves Eio images p = refl
    faulty_leaves Gone images p = refl
    faulty_leaves Flip images p = absurd p

module _ (s : Setting) (sizes : ℕ → ℕ) (plain : RowsArePlain s.rows) (bytes : List ℕ) where
  abbrev pub put_copy : Spot → Images → Images
  put_copy t images = (write_leaf s false bytes images t).images

  abbrev Fits : Spot → Type 0
  Fits t = t.at + t.span ≤ sizes t.leaf

  copy_lies : (t : Spot) → Fits t → LiesOn sizes (Store false bytes t)
  copy_lies t h = record { room = (omega arith); lies = h }

  pub put_sizes : (t : Spot) (images : Images) → Fits t → HaveSizes sizes images → HaveSizes sizes (put_copy t images)
  put_sizes t images h have = done_sizes s sizes images (Store false bytes t) have (copy_lies t h)

  pub put_commutes : (t u : Spot) (images : Images) → (t ≡ u) ⊎ AreClear t u → Fits t → Fits u → HaveSizes sizes images → put_copy u (put_copy t images) ≡ put_copy t (put_copy u images)
  put_commutes t u images (inl e) ft fu have = subst (λ (x : Spot). put_copy x (put_copy t images) ≡ put_copy t (put_copy x images)) e refl
  put_commutes t u images (inr clear) ft fu have = (leaves_commute s sizes).images (Store false bytes t) (Store false bytes u) images (inr clear) have (copy_lies t ft) (copy_lies u fu)

  pub put_twice : (t : Spot) (images : Images) → Fits t → HaveSizes sizes images → put_copy t (put_copy t images) ≡ put_copy t images
  put_twice t images ft have =
      let b : List ℕ = padded_to t.span bytes in
      let fits : t.at + length b ≤ length (image_of images t.leaf) = omega (arith, length-padded_to t.span bytes, have t.leaf) in
      ⊎_elim
      (λ (stores : (i : Images) → put_copy t i ≡ with_bytes i t b). stores (put_copy t images) ∙ ap (λ (i : Images). with_bytes i t b) (stores images) ∙ with_twice images t b fits ∙ sym (stores images))
      (λ (leaves : (i : Images) → put_copy t i ≡ i). leaves (put_copy t images))
      (met_stores (met s false true t) t b (met_plain s false true t plain))

  -- ---- lists of them

  abbrev Apart : List Spot → Type 0
  Apart all = (t u : Spot) → Contains all t → Contains all u → (t ≡ u) ⊎ AreClear t u

  module _ (all : List Spot) (apart : Apart all) (fit : (t : Spot) → Contains all t → Fits t) where
    pub mended_sizes : (spots : List Spot) (images : Images) → AllByRecursion (Contains all) spots → HaveSizes sizes images → HaveSizes sizes (repaired s false bytes spots images)
    mended_sizes [] images h have = have
    mended_sizes (u ∷ spots) images h have = mended_sizes spots (put_copy u images) h.1 (put_sizes u images (fit u h.0) have)

    -- one more copy before or after
    pub put_after : (t : Spot) (spots : List Spot) (images : Images) → Contains all t → AllByRecursion (Contains all) spots → HaveSizes sizes images → put_copy t (repaired s false bytes spots images) ≡ repaired s false bytes spots (put_copy t images)
    put_after t [] images c h have = refl
    put_after t (u ∷ spots) images c h have =
        put_after t spots (put_copy u images) c h.1 (put_sizes u images (fit u h.0) have)
        ∙ ap (λ (i : Images). repaired s false bytes spots i) (put_commutes u t images (apart u t h.0 c) (fit u h.0) (fit t c) have)

    -- a copy that was put already
    pub put_again : (t : Spot) (spots : List Spot) (images : Images) → Contains spots t → AllByRecursion (Contains all) spots → HaveSizes sizes images → put_copy t (repaired s false bytes spots images) ≡ repaired s false bytes spots images
    put_again t [] images c h have = absurd (all_contains (λ z. ⊥) [] t tt c)
    put_again t (u ∷ spots) images c h have =
        ⊎_elim
        (λ (e : u ≡ t).
        put_after t spots (put_copy u images) (subst (Contains all) e h.0) h.1 (put_sizes u images (fit u h.0) have)
        ∙ ap (λ (i : Images). repaired s false bytes spots i)
        (subst (λ (x : Spot). put_copy x (put_copy u images) ≡ put_copy u images) e (put_twice u images (fit u h.0) have)))
        (λ (later : Contains spots t). put_again t spots (put_copy u images) later h.1 (put_sizes u images (fit u h.0) have))
        (contained_cases u spots t c)
