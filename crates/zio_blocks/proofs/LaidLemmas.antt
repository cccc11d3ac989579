-- Parts and members from their pieces: the places that they took, and whether their headers are whole.
use Rattle.std.proofs.Common.{◌≡◌, ℕ, zero, suc, ◌+◌, ◌<◌, ◌≤◌, List, [], ◌∷◌, ◌++◌, length, map, take, drop, get_or, append_assoc, refl, sym, ap, subst, ◌∙◌, arith, Option, Some, None, IfSome}
use Rattle.std.specs.Prelude.{Bool, true, false, nat_lt, slice_get, slice_set, filter_map, IsPermutation, IsTrue}
use Rattle.std.specs.List.{AllByRecursion, flat_map}
use Rattle.std.proofs.Math.Seq.{drop-append_seam}
use Rattle.std.proofs.lemmas.Bool.{ltb-false, ltb-true}
use Rattle.std.proofs.lemmas.Grind.{flat_map-append}
use Rattle.std.proofs.lemmas.List.{append-nil, take_more_set}
use Rattle.std.proofs.lemmas.List.Sorted.{IsPermutation-append, IsPermutation-append_comm, IsPermutation-append_left, IsPermutation-append_right, IsPermutation-refl, IsPermutation-trans}
use Rattle.zio_types.specs.declared.error.Errno.{Errno}
use Rattle.zio_types.specs.declared.error.Errno.TheVariants.{Nospc}
use Rattle.zio_types.specs.declared.place.Place.{Place}
use Rattle.zio_types.specs.declared.place.TopSize.{TopSize}
use Rattle.zio_types.specs.Choices.{no_place}
use Rattle.zio_types.specs.Errors.{rank, second_if, worst_error}
use Rattle.zio_types.specs.Filled.{IsFilled, filled_to}
use Rattle.zio_blkptr.specs.declared.pointer.Bp.{Bp}
use Rattle.zio_blkptr.specs.Pointers.{FitsTypes, places_of, valid}
use Rattle.zio_cksum.specs.Blocks.{good_claimed, good_claimed_at}
use Rattle.zio_cksum.specs.Headers.{Heads, header_of, is_header, members_max, members_of, split_sizes}
use Rattle.zio_cksum.proofs.AllLemmas.{all_append, all_weaker}
use Rattle.zio_cksum.proofs.HeaderLemmas.{IsNamed, accepted_law, header_names, none_named, some_named}
use Rattle.zio_gang.specs.declared.tree.Head.{Head}
use Rattle.zio_disks.specs.Whole.{AreUnder, AreUnderGang, AreUnderIf, AreUnderMembers}
use Rattle.zio_blocks.specs.Laid.{AreLaid, AreWhole, IsLaid, places_if, pointers_in}
use Rattle.zio_blocks.specs.Parts.{IsMade}
use Rattle.zio_blocks.specs.declared.pieces.Part.{Part}

-- ---- the worst of two errors

worst_by : (t : Bool) (a b : Option Errno) → nat_lt (rank a) (rank b) ≡ t → (rank a ≤ rank (second_if t a b)) × (rank b ≤ rank (second_if t a b))
worst_by true a b e = (omega (arith, ltb-true (rank a) (rank b) e), omega arith)
worst_by false a b e = (omega arith, omega (arith, ltb-false (rank a) (rank b) e))

-- neither ranks above it
worst_above : (a b : Option Errno) → (rank a ≤ rank (worst_error a b)) × (rank b ≤ rank (worst_error a b))
worst_above a b = worst_by (nat_lt (rank a) (rank b)) a b refl

-- ---- members that are there

-- those of the members that have a pointer
abbrev present : List (Option Bp) → List Bp
present members = filter_map (λ (m : Option Bp). m) members

named_if : (tops : List TopSize) (m : Option Bp) → IfSome m (IsMade tops) → IsNamed m
named_if tops None h = none_named
named_if tops (Some bp) h = some_named bp h.types h.ok

-- a header names those of its members that are there
header_present : (tops : List TopSize) (ms : List (Option Bp)) (place : Place) (birth : ℕ) → length ms ≤ 3 → AllByRecursion (λ (m : Option Bp). IfSome m (IsMade tops)) ms
    → members_of (header_of (filled_to None members_max ms) place birth) ≡ present ms
header_present tops [] place birth few h = header_names None None None place birth none_named none_named none_named
header_present tops (a ∷ []) place birth few h = header_names a None None place birth (named_if tops a h.0) none_named none_named
header_present tops (a ∷ b ∷ []) place birth few h = header_names a b None place birth (named_if tops a h.0) (named_if tops b h.1.0) none_named
header_present tops (a ∷ b ∷ c ∷ []) place birth few h = header_names a b c place birth (named_if tops a h.0) (named_if tops b h.1.0) (named_if tops c h.1.1.0)
header_present tops (a ∷ b ∷ c ∷ d ∷ ms) place birth few h = absurd (omega (arith, few))

present_all : (P : Bp → Type 0) (ms : List (Option Bp)) → AllByRecursion (λ (m : Option Bp). IfSome m P) ms → AllByRecursion P (present ms)
present_all P [] h = tt
present_all P (None ∷ ms) h = present_all P ms h.1
present_all P (Some bp ∷ ms) h = (h.0, present_all P ms h.1)

present_places : (ms : List (Option Bp)) → flat_map places_of (present ms) ≡ flat_map places_if ms
present_places [] = refl
present_places (None ∷ ms) = present_places ms
present_places (Some bp ∷ ms) = ap (λ (ps : List Place). places_of bp ++ ps) (present_places ms)

present_some : (bps : List Bp) → present (map Some bps) ≡ bps
present_some [] = refl
present_some (bp ∷ bps) = ap (λ (rest : List Bp). bp ∷ rest) (present_some bps)

-- ---- lists of places

same_order : {X : Type 0} (xs ys : List X) → xs ≡ ys → IsPermutation xs ys
same_order xs ys e = subst (λ (zs : List _). IsPermutation xs zs) e (IsPermutation-refl xs)

-- two lists that are interleaved with others
turned : {X : Type 0} (a b c d : List X) → IsPermutation ((a ++ b) ++ (c ++ d)) ((a ++ c) ++ (b ++ d))
turned a b c d =
    subst (λ (zs : List _). IsPermutation zs ((a ++ c) ++ (b ++ d))) (sym (append_assoc a b (c ++ d)))
    (subst (λ (zs : List _). IsPermutation (a ++ (b ++ (c ++ d))) zs) (sym (append_assoc a c (b ++ d)))
    (IsPermutation-append_right a (b ++ (c ++ d)) (c ++ (b ++ d))
    (subst (λ (zs : List _). IsPermutation zs (c ++ (b ++ d))) (append_assoc b c d)
    (subst (λ (zs : List _). IsPermutation ((b ++ c) ++ d) zs) (append_assoc c b d)
    (IsPermutation-append_left d (b ++ c) (c ++ b) (IsPermutation-append_comm b c))))))

pointers_both : (xs ys : List Head) → pointers_in (xs ++ ys) ≡ pointers_in xs ++ pointers_in ys
pointers_both xs ys = flat_map-append (λ (h : Head). members_of h.bytes) xs ys

places_both : (xs ys : List Head) → flat_map places_of (pointers_in (xs ++ ys)) ≡ flat_map places_of (pointers_in xs) ++ flat_map places_of (pointers_in ys)
places_both xs ys = ap (flat_map places_of) (pointers_both xs ys) ∙ flat_map-append places_of (pointers_in xs) (pointers_in ys)

-- what was added, and added once more
pub drop_both : {X : Type 0} (old middle new front back : List X) → middle ≡ old ++ front → new ≡ middle ++ back → drop (length old) new ≡ front ++ back
drop_both old middle new front back one two =
    ap (drop (length old)) (two ∙ ap (λ (xs : List _). xs ++ back) one ∙ append_assoc old front back) ∙ drop-append_seam old (front ++ back)

-- ---- parts without headers

plain_under : (levels : ℕ) (path : List ℕ) (bp : Bp) → IsTrue (valid bp) → bp.gang ≡ false → AreUnder levels path bp []
plain_under zero path bp ok plain = (ok, subst (λ (t : Bool). AreUnderIf t ⊥ []) (sym plain) refl)
plain_under (suc levels) path bp ok plain = (ok, subst (λ (t : Bool). AreUnderIf t (AreUnderGang (AreUnder levels) path bp []) []) (sym plain) refl)

-- a part that was written whole
pub laid_body : (tops : List TopSize) (levels : ℕ) (path : List ℕ) (len : ℕ) (part : Part) (bp : Bp) (heads : List Head) (taken : List Place)
    → part.pointer ≡ Some bp → IsMade tops bp → bp.size ≡ len → bp.gang ≡ false → heads ≡ [] → taken ≡ places_of bp → IsLaid tops levels path len part heads taken
laid_body tops levels path len part bp heads taken pointer made size plain none took =
    subst (λ (hs : List Head). IsLaid tops levels path len part hs taken) (sym none) (record {
      made = subst (λ (o : Option Bp). IfSome o (IsMade tops)) (sym pointer) made;
      size = subst (λ (o : Option Bp). IfSome o (λ (b : Bp). b.size ≡ len)) (sym pointer) size;
      named = tt;
      places = same_order (places_if part.pointer ++ []) taken (append-nil (places_if part.pointer) ∙ ap places_if pointer ∙ sym took);
      nowhere = λ no. absurd (let both : None ≡ Some bp = sym no ∙ pointer in cc);
      whole = λ low. subst (λ (o : Option Bp). IfSome o (λ (b : Bp). AreUnder levels path b [])) (sym pointer) (plain_under levels path bp made.ok plain);
    })

-- a part without a place
pub laid_nowhere : (tops : List TopSize) (levels : ℕ) (path : List ℕ) (len : ℕ) (part : Part) (heads : List Head) (taken : List Place)
    → part.pointer ≡ None → part.error ≡ Some Nospc → heads ≡ [] → taken ≡ [] → IsLaid tops levels path len part heads taken
laid_nowhere tops levels path len part heads taken pointer error none took =
    subst (λ (hs : List Head). IsLaid tops levels path len part hs taken) (sym none) (record {
      made = subst (λ (o : Option Bp). IfSome o (IsMade tops)) (sym pointer) tt;
      size = subst (λ (o : Option Bp). IfSome o (λ (b : Bp). b.size ≡ len)) (sym pointer) tt;
      named = tt;
      places = same_order (places_if part.pointer ++ []) taken (append-nil (places_if part.pointer) ∙ ap places_if pointer ∙ sym took);
      nowhere = λ no. (took, error);
      whole = λ low. absurd (let same : rank part.error ≡ 4 = ap rank error in omega arith);
    })

-- the same part by what the code has
pub laid_at : (tops : List TopSize) (levels fewer : ℕ) (path : List ℕ) (len : ℕ) (part : Part) (heads : List Head) (taken all : List Place)
    → fewer ≡ levels → all ≡ taken → IsLaid tops fewer path len part heads taken → IsLaid tops levels path len part heads all
laid_at tops levels fewer path len part heads taken all less is h =
    subst (λ (ps : List Place). IsLaid tops levels path len part heads ps) (sym is) (subst (λ (n : ℕ). IsLaid tops n path len part heads taken) less h)

-- ---- gangs

good_at : (bp : Bp) (header : List ℕ) (places : List Place) → 1 ≤ length places → IsTrue (is_header (get_or places 0 no_place) bp.birth bp.size header)
    → IsTrue (good_claimed_at (slice_get places 0) bp header)
good_at bp header [] some h = absurd (omega arith)
good_at bp header (p ∷ places) some h = h

-- the header of members that are all there is good for its gang
header_good : (tops : List TopSize) (bp : Bp) (places : List Place) (header : List ℕ) (bps : List Bp) → places_of bp ≡ places → 1 ≤ length places
    → header ≡ header_of (filled_to None members_max (map Some bps)) (get_or places 0 no_place) bp.birth
    → AllByRecursion (IsMade tops) bps → map (λ (m : Bp). m.size) bps ≡ split_sizes bp.size
    → IsTrue (good_claimed bp header)
header_good tops bp places header bps at some is made sizes =
    let heads : Heads header (get_or places 0 no_place) bp.birth bp.size bps = record {
      spelled = is;
      types = all_weaker (IsMade tops) FitsTypes bps (λ m h. h.types) made;
      valid = all_weaker (IsMade tops) (λ m. IsTrue (valid m)) bps (λ m h. h.ok) made;
      sizes = sizes;
    } in
    subst (λ (ps : List Place). IsTrue (good_claimed_at (slice_get ps 0) bp header)) (sym at)
    (good_at bp header places some (accepted_law header (get_or places 0 no_place) bp.birth bp.size bps heads))

-- a gang whose members were written, and then its header
pub laid_gang : (tops : List TopSize) (levels : ℕ) (path : List ℕ) (len : ℕ) (part : Part) (bp : Bp) (places : List Place) (header sizes : List ℕ) (error written : Option Errno)
    (pointers_old pointers : List (Option Bp)) (below heads : List Head) (taken : List Place)
    → AreLaid tops levels path 0 sizes error pointers_old pointers below taken
    → sizes ≡ split_sizes len → length sizes ≤ 3
    → header ≡ header_of pointers (get_or places 0 no_place) bp.birth
    → part.pointer ≡ Some bp → part.error ≡ worst_error error written
    → IsMade tops bp → bp.size ≡ len → bp.gang ≡ true → places_of bp ≡ places → 1 ≤ length places
    → heads ≡ record { path = path; bytes = header } ∷ below
    → IsLaid tops (suc levels) path len part heads (places ++ taken)
laid_gang tops levels path len part bp places header sizes error written pointers_old pointers below heads taken members split few header_is pointer error_is made size gang at some heads_are =
    let place : Place = get_or places 0 no_place in
    let ms : List (Option Bp) = members.members in
    let head : Head = record { path = path; bytes = header } in
    let spelled : header ≡ header_of (filled_to None members_max ms) place bp.birth = header_is ∙ ap (λ (ps : List (Option Bp)). header_of ps place bp.birth) members.pointers in
    let names : members_of header ≡ present ms = ap members_of spelled ∙ header_present tops ms place bp.birth (omega (arith, members.count)) members.made in
    subst (λ (hs : List Head). IsLaid tops (suc levels) path len part hs (places ++ taken)) (sym heads_are) (record {
      made = subst (λ (o : Option Bp). IfSome o (IsMade tops)) (sym pointer) made;
      size = subst (λ (o : Option Bp). IfSome o (λ (b : Bp). b.size ≡ len)) (sym pointer) size;
      named = all_append (IsMade tops) (members_of header) (pointers_in below)
          (subst (AllByRecursion (IsMade tops)) (sym names) (present_all (IsMade tops) ms members.made)) members.named;
      places =
          let own : places_if part.pointer ≡ places = ap places_if pointer ∙ at in
          let lower : flat_map places_of (members_of header ++ pointers_in below) ≡ flat_map places_if ms ++ flat_map places_of (pointers_in below) =
          flat_map-append places_of (members_of header) (pointers_in below)
          ∙ ap (λ (ps : List Place). ps ++ flat_map places_of (pointers_in below)) (ap (flat_map places_of) names ∙ present_places ms) in
          subst (λ (ps : List Place). IsPermutation ps (places ++ taken)) (sym (λ j. own j ++ lower j))
          (IsPermutation-append_right places (flat_map places_if ms ++ flat_map places_of (pointers_in below)) taken members.places);
      nowhere = λ no. absurd (let both : None ≡ Some bp = sym no ∙ pointer in cc);
      whole = λ low. (
          let above = worst_above error written in
          let same : rank part.error ≡ rank (worst_error error written) = ap rank error_is in
          let w = members.whole (omega (arith, above.0, same, low)) in
          let named : members_of header ≡ w.bps = names ∙ ap present w.all ∙ present_some w.bps in
          let each : AllByRecursion (IsMade tops) w.bps = subst (AllByRecursion (IsMade tops)) (ap present w.all ∙ present_some w.bps) (present_all (IsMade tops) ms members.made) in
          let good : IsTrue (good_claimed bp header) = header_good tops bp places header w.bps at some
          (spelled ∙ ap (λ (xs : List (Option Bp)). header_of (filled_to None members_max xs) place bp.birth) w.all) each (w.sizes_are ∙ split ∙ ap split_sizes (sym size)) in
          let under : AreUnder (suc levels) path bp (head ∷ below) = (
            made.ok,
            subst (λ (t : Bool). AreUnderIf t (AreUnderGang (AreUnder levels) path bp (head ∷ below)) (head ∷ below)) (sym gang) (record {
              head = head;
              rest = below;
              first = refl;
              at = refl;
              good = good;
              members = subst (λ (bs : List Bp). AreUnderMembers (AreUnder levels) path 0 bs below) (sym named) w.under;
            }),
          ) in
          subst (λ (o : Option Bp). IfSome o (λ (b : Bp). AreUnder (suc levels) path b (head ∷ below))) (sym pointer) under);
    })

-- ---- members in turn

pub laid_no_members : (tops : List TopSize) (levels : ℕ) (path : List ℕ) (n : ℕ) (sizes : List ℕ) (pointers : List (Option Bp)) (heads : List Head) (taken : List Place)
    → sizes ≡ [] → heads ≡ [] → taken ≡ [] → IsFilled None 3 n pointers → AreLaid tops levels path n sizes None pointers pointers heads taken
laid_no_members tops levels path n sizes pointers heads taken no_sizes no_heads none filled =
    subst (λ (ss : List ℕ). AreLaid tops levels path n ss None pointers pointers heads taken) (sym no_sizes)
    (subst (λ (hs : List Head). AreLaid tops levels path n [] None pointers pointers hs taken) (sym no_heads) (record {
      members = [];
      pointers = filled.rest ∙ ap (filled_to None 3) (sym (append-nil (take n pointers)));
      count = refl;
      made = tt;
      named = tt;
      places = same_order [] taken (sym none);
      whole = λ low. record { bps = []; all = refl; sizes_are = refl; under = refl };
    }))

-- a member that is whole in front of others that are
whole_member : (levels : ℕ) (path : List ℕ) (n size : ℕ) (sizes : List ℕ) (pointer : Option Bp) (members : List (Option Bp)) (front back : List Head) → (pointer ≡ None → ⊥)
    → IfSome pointer (λ (bp : Bp). bp.size ≡ size) → IfSome pointer (λ (bp : Bp). AreUnder levels (path ++ n ∷ []) bp front) → AreWhole levels path (n + 1) sizes members back
    → AreWhole levels path n (size ∷ sizes) (pointer ∷ members) (front ++ back)
whole_member levels path n size sizes None members front back there is under others = absurd (there refl)
whole_member levels path n size sizes (Some bp) members front back there is under others = record {
  bps = bp ∷ others.bps;
  all = ap (λ (ms : List (Option Bp)). Some bp ∷ ms) others.all;
  sizes_are = λ j. is j ∷ others.sizes_are j;
  under = record { front = front; back = back; joined = refl; under_first = under; under_others = others.under };
}

-- a member and those behind it
pub laid_members : (tops : List TopSize) (levels : ℕ) (path : List ℕ) (n size : ℕ) (rest sizes : List ℕ) (part : Part) (others error : Option Errno)
    (pointers_old pointers : List (Option Bp)) (front back heads : List Head) (first second all : List Place)
    → sizes ≡ size ∷ rest → n < length pointers_old → error ≡ worst_error part.error others → heads ≡ front ++ back → all ≡ first ++ second
    → IsLaid tops levels (path ++ n ∷ []) size part front first
    → AreLaid tops levels path (n + 1) rest others (slice_set pointers_old n part.pointer) pointers back second
    → AreLaid tops levels path n sizes error pointers_old pointers heads all
laid_members tops levels path n size rest sizes part others error pointers_old pointers front back heads first second all sizes_are here error_is heads_are all_is one more =
    let ms : List (Option Bp) = more.members in
    let Own : List Place = flat_map places_if ms in
    let Front : List Place = flat_map places_of (pointers_in front) in
    let Back : List Place = flat_map places_of (pointers_in back) in
    subst (λ (ss : List ℕ). AreLaid tops levels path n ss error pointers_old pointers heads all) (sym sizes_are)
    (subst (λ (hs : List Head). AreLaid tops levels path n (size ∷ rest) error pointers_old pointers hs all) (sym heads_are) (record {
      members = part.pointer ∷ ms;
      pointers = more.pointers
          ∙ ap (λ (ps : List (Option Bp)). filled_to None 3 (ps ++ ms)) (take_more_set pointers_old n part.pointer here)
          ∙ ap (filled_to None 3) (append_assoc (take n pointers_old) (part.pointer ∷ []) ms);
      count = omega (arith, more.count);
      made = (one.made, more.made);
      named = subst (AllByRecursion (IsMade tops)) (sym (pointers_both front back)) (all_append (IsMade tops) (pointers_in front) (pointers_in back) one.named more.named);
      places =
          subst (λ (ps : List Place). IsPermutation ((places_if part.pointer ++ Own) ++ ps) all) (sym (places_both front back))
          (subst (λ (ps : List Place). IsPermutation ((places_if part.pointer ++ Own) ++ (Front ++ Back)) ps) (sym all_is)
          (IsPermutation-trans ((places_if part.pointer ++ Own) ++ (Front ++ Back)) ((places_if part.pointer ++ Front) ++ (Own ++ Back)) (first ++ second)
          (turned (places_if part.pointer) Own Front Back)
          (IsPermutation-append (places_if part.pointer ++ Front) first (Own ++ Back) second one.places more.places)));
      whole = λ low. (
          let above = worst_above part.error others in
          let same : rank error ≡ rank (worst_error part.error others) = ap rank error_is in
          let mine : rank part.error < 4 = omega (arith, above.0, same, low) in
          whole_member levels path n size rest part.pointer ms front back
          (λ no. let worst : rank part.error ≡ 4 = ap rank (one.nowhere no).1 in omega arith)
          one.size (one.whole mine) (more.whole (omega (arith, above.1, same, low))));
    }))
