-- All pieces are read: the beginning and what the copies say.
use Rattle.std.proofs.Common.{◌≡◌, ℕ, zero, suc, ◌+◌, ◌<◌, ◌≤◌, List, [], ◌∷◌, ◌++◌, length, map, get_or, replicate, Option, None, IfSome, Ok, ◌⊎◌, inl, inr, refl, sym, ap, subst, ◌∙◌, arith, Contains}
use Rattle.std.specs.Prelude.{slice_index_or}
use Rattle.std.specs.List.{AllByRecursion}
use Rattle.std.proofs.lemmas.Bool.{cases_lt}
use Rattle.std.proofs.lemmas.List.{length-map, map-append}
use Rattle.zio_cksum.specs.Images.{Images, Setting, Spot}
use Rattle.zio_cksum.proofs.AllLemmas.{all_append, all_contains, all_contained, all_map, all_unmap, all_weaker}
use Rattle.zio_disks.proofs.DiskLemmas.{map_past}
use Rattle.zio_groups.specs.LeafQueues.{Waits}
use Rattle.zio_scrub.specs.declared.heard.Heard.{Heard}
use Rattle.zio_scrub.specs.declared.heard.Mark.{Mark}
use Rattle.zio_scrub.specs.declared.heard.Mark.TheVariants.{Out, Good}
use Rattle.zio_scrub.specs.declared.heard.Source.{Source}
use Rattle.zio_scrub.specs.declared.layout.CopyAt.{CopyAt}
use Rattle.zio_scrub.specs.declared.layout.Layout.{Layout}
use Rattle.zio_scrub.specs.declared.pieces.Piece.{Piece}
use Rattle.zio_scrub.specs.declared.repairs.Repair.{Repair}
use Rattle.zio_scrub.specs.Layouts.{FitsQueue, IsCopyOn, IsLayoutOf, IsReadable, LiesOnDisks, copies_from, copies_of_all, spots_at}
use Rattle.zio_scrub.specs.Pieces.{seen}
use Rattle.zio_scrub.specs.Queues.{HaveAll}
use Rattle.zio_scrub.specs.Reads.{AreOut, is_out, IsFrom, IsHeard, IsKept, IsReadOf, IsTrueOf, Says, leaf_at, mark_at, read_at, source_at, IsAt}
use Rattle.zio_scrub.specs.Repairs.{IsRepairOn}

-- ---- nothing is heard yet

none_at : {X : Type 0} (n i : ℕ) (x : X) → get_or (replicate n x) i x ≡ x
none_at zero i x = refl
none_at (suc n) zero x = refl
none_at (suc n) (suc i) x = none_at n i x

out_at : (h : Heard) (n t : ℕ) → h.marks.items ≡ replicate n Out → mark_at h t ≡ Out
out_at h n t e = ap (λ (xs : List Mark). get_or xs t Out) e ∙ none_at n t Out

nothing_at : (h : Heard) (n p : ℕ) → h.sources.items ≡ replicate n None → source_at h p ≡ None
nothing_at h n p e = ap (λ (xs : List (Option Source)). get_or xs p None) e ∙ none_at n p None

replicated : {X : Type 0} (n : ℕ) (x : X) → length (replicate n x) ≡ n
replicated zero x = refl
replicated (suc n) x = ap (λ (k : ℕ). suc k) (replicated n x)

pub fresh_heard : (layout : Layout) (h : Heard) → h.marks.items ≡ replicate (length layout.copies) Out → h.sources.items ≡ replicate (length layout.pieces) None
    → IsHeard layout h
fresh_heard layout h marks sources = record {
  marks = ap (λ (xs : List Mark). length xs) marks ∙ replicated (length layout.copies) Out;
  sources = ap (λ (xs : List (Option Source)). length xs) sources ∙ replicated (length layout.pieces) None;
  kept = λ p n at. subst (IsKept (mark_at h) n.first n.count (seen n.piece).size) (sym (nothing_at h (length layout.pieces) p sources))
      (inl (λ i l e. let q : Out ≡ Good = sym (out_at h (length layout.copies) (n.first + i) marks) ∙ e in let no : ⊥ = cc in no));
}

pub fresh_true : (s : Setting) (images : Images) (layout : Layout) (h : Heard) → h.marks.items ≡ replicate (length layout.copies) Out
    → h.sources.items ≡ replicate (length layout.pieces) None → IsTrueOf s images layout h
fresh_true s images layout h marks sources = record {
  says = λ t c n at it. subst (λ (m : Mark). Says m (read_at s images n c)) (sym (out_at h (length layout.copies) t marks)) tt;
  bytes = λ p n c at. subst (λ (o : Option Source). IfSome o (λ src. IsAt layout.copies src.copy c → read_at s images n c ≡ Ok src.bytes))
      (sym (nothing_at h (length layout.pieces) p sources)) tt;
}

pub fresh_out : (layout : Layout) (h : Heard) (leaves : List Waits) → h.marks.items ≡ replicate (length layout.copies) Out
    → HaveAll (IsReadOf layout.copies) (leaf_at layout.copies) (length layout.copies) leaves → AreOut layout.copies (mark_at h) leaves
fresh_out layout h leaves marks have t l = have.wait t l ∙ sym (ap is_out (out_at h (length layout.copies) t marks))

-- ---- what holds of all copies

all_copies : (P : Spot → Type 0) (s : Setting) (n : ℕ) (ps : List Piece) → AllByRecursion (λ (p : Piece). AllByRecursion P (spots_at s p)) ps
    → AllByRecursion (λ (c : CopyAt). P c.spot) (copies_from s n ps)
all_copies P s n [] h = tt
all_copies P s n (p ∷ ps) h =
    all_append (λ (c : CopyAt). P c.spot) (map (λ (u : Spot). record { spot = u; piece = n }) (spots_at s p)) (copies_from s (n + 1) ps)
    (all_map (λ (c : CopyAt). P c.spot) (λ (u : Spot). record { spot = u; piece = n }) (spots_at s p) h.0) (all_copies P s (n + 1) ps h.1)

any_size : (sizes : List ℕ) (size : ℕ) (u : Spot) → IsCopyOn sizes size u → IsCopyOn sizes 0 u
any_size sizes size u h = record { some = h.some; room = omega arith; small = h.small; device = h.device; lies = h.lies }

pub copies_on : (s : Setting) (sizes : List ℕ) (ps : List Piece) (layout : Layout) → AllByRecursion (IsReadable s sizes) ps → IsLayoutOf s ps layout
    → AllByRecursion (λ (c : CopyAt). IsCopyOn sizes 0 c.spot) layout.copies
copies_on s sizes ps layout h laid =
    subst (AllByRecursion (λ (c : CopyAt). IsCopyOn sizes 0 c.spot)) (sym laid.copies_are)
    (all_copies (IsCopyOn sizes 0) s 0 ps
    (all_weaker (IsReadable s sizes) (λ (p : Piece). AllByRecursion (IsCopyOn sizes 0) (spots_at s p)) ps
    (λ p r. all_weaker (IsCopyOn sizes (seen p).size) (IsCopyOn sizes 0) (spots_at s p) (any_size sizes (seen p).size) r.spots) h))

pub copies_lie : (sizes : List ℕ) (copies : List CopyAt) → AllByRecursion (λ (c : CopyAt). IsCopyOn sizes 0 c.spot) copies
    → AllByRecursion (λ (c : CopyAt). LiesOnDisks sizes c.spot) copies
copies_lie sizes copies h = all_weaker (λ (c : CopyAt). IsCopyOn sizes 0 c.spot) (λ (c : CopyAt). LiesOnDisks sizes c.spot) copies (λ c r. r.lies) h

pub copies_fit : {D : Type 0} (bytes : D → ℕ) (disks : List D) (copies : List CopyAt) → AllByRecursion (λ (c : CopyAt). IsCopyOn (map bytes disks) 0 c.spot) copies
    → AllByRecursion (λ (c : CopyAt). FitsQueue (length disks) c.spot) copies
copies_fit bytes disks [] h = tt
copies_fit bytes disks (c ∷ cs) h = (
  record { there = within (cases_lt c.spot.leaf (length disks)); small = h.0.small; device = h.0.device },
  copies_fit bytes disks cs h.1,
)
  where
    within : (c.spot.leaf < length disks) ⊎ (length disks ≤ c.spot.leaf) → c.spot.leaf < length disks
    within (inl l) = l
    within (inr past) =
        let none : slice_index_or (map bytes disks) c.spot.leaf 0 ≡ 0 = map_past bytes disks c.spot.leaf past in
        let some = h.0.some in
        let lies = h.0.lies in
        absurd (omega arith)

-- ---- their spots

abbrev copy_at : ℕ → Spot → CopyAt
copy_at n u = record { spot = u; piece = n }

abbrev spot_of : CopyAt → Spot
spot_of c = c.spot

back : (n : ℕ) (us : List Spot) → map spot_of (map (copy_at n) us) ≡ us
back n [] = refl
back n (u ∷ us) = ap (λ (vs : List Spot). u ∷ vs) (back n us)

pub copies_spots : (s : Setting) (n : ℕ) (ps : List Piece) → map spot_of (copies_from s n ps) ≡ copies_of_all s ps
copies_spots s n [] = refl
copies_spots s n (p ∷ ps) =
    map-append spot_of (map (copy_at n) (spots_at s p)) (copies_from s (n + 1) ps)
    ∙ (λ i. back n (spots_at s p) i ++ copies_spots s (n + 1) ps i)

pub copies_count : (s : Setting) (ps : List Piece) (layout : Layout) → IsLayoutOf s ps layout → length layout.copies ≡ length (copies_of_all s ps)
copies_count s ps layout laid =
    ap (λ (xs : List CopyAt). length xs) laid.copies_are ∙ sym (length-map (copies_from s 0 ps) spot_of)
    ∙ ap (λ (xs : List Spot). length xs) (copies_spots s 0 ps)

-- ---- the repairs

pub repairs_on : (sizes : List ℕ) (layout : Layout) (repairs : List Repair) → AllByRecursion (λ (c : CopyAt). IsCopyOn sizes 0 c.spot) layout.copies
    → AllByRecursion (IsFrom layout) repairs → AllByRecursion (IsRepairOn sizes) repairs
repairs_on sizes layout repairs on from =
    all_weaker (IsFrom layout) (IsRepairOn sizes) repairs
    (λ r f.
    let c : IsCopyOn sizes 0 f.copy.spot = all_contains (λ (c : CopyAt). IsCopyOn sizes 0 c.spot) layout.copies f.copy on f.listed in
    subst (IsCopyOn sizes (length r.bytes)) (sym f.spot_is)
    (record { some = c.some; room = f.room; small = c.small; device = c.device; lies = c.lies })) from

pub repairs_among : (s : Setting) (ps : List Piece) (layout : Layout) (repairs : List Repair) → IsLayoutOf s ps layout
    → AllByRecursion (IsFrom layout) repairs → AllByRecursion (λ (r : Repair). Contains (copies_of_all s ps) r.spot) repairs
repairs_among s ps layout repairs laid from =
    let spots : map spot_of layout.copies ≡ copies_of_all s ps = ap (map spot_of) laid.copies_are ∙ copies_spots s 0 ps in
    let each : AllByRecursion (λ (c : CopyAt). Contains (copies_of_all s ps) c.spot) layout.copies =
    subst (λ (us : List Spot). AllByRecursion (λ (c : CopyAt). Contains us c.spot) layout.copies) spots
    (all_unmap (Contains (map spot_of layout.copies)) spot_of layout.copies (all_contained (map spot_of layout.copies))) in
    all_weaker (IsFrom layout) (λ (r : Repair). Contains (copies_of_all s ps) r.spot) repairs
    (λ r f. subst (Contains (copies_of_all s ps)) (sym f.spot_is)
    (all_contains (λ (c : CopyAt). Contains (copies_of_all s ps) c.spot) layout.copies f.copy each f.listed)) from
