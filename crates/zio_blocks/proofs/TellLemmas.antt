-- Parts of a block as the definition of a placed write has them.
use Rattle.std.proofs.Common.{◌≡◌, ℕ, zero, suc, ◌+◌, ◌-◌, ◌*◌, ◌^◌, ◌<◌, ◌≤◌, List, [], ◌∷◌, ◌++◌, length, take, drop, get_or, append_assoc, refl, sym, ap, subst, ◌∙◌, arith, Option, Some, None}
use Rattle.std.specs.Prelude.{Bool, true, false, find, nat_le, nat_lt, slice_set}
use Rattle.std.specs.List.{AllByRecursion}
use Rattle.std.proofs.lemmas.Bool.{false_from_ne_true, le-leb, leb-true}
use Rattle.std.proofs.lemmas.List.{append-nil, take_more_set}
use Rattle.zio_types.specs.declared.error.Errno.{Errno}
use Rattle.zio_types.specs.declared.error.Errno.TheVariants.{Nospc}
use Rattle.zio_types.specs.Choices.{Ask, Choice, is_refused, no_place, same_ask}
use Rattle.zio_types.specs.Errors.{worst_error, worst_of}
use Rattle.zio_types.specs.Filled.{IsFilled, filled_to}
use Rattle.zio_types.specs.declared.place.Place.{Place}
use Rattle.zio_types.specs.Places.{sector_size}
use Rattle.zio_blkptr.specs.declared.pointer.Bp.{Bp}
use Rattle.zio_cksum.specs.Blocks.{write_piece}
use Rattle.zio_cksum.specs.Headers.{header_of, split_sizes}
use Rattle.zio_cksum.specs.Images.{Images}
use Rattle.zio_gang.specs.declared.tree.Head.{Head}
use Rattle.zio_gang.specs.Journals.{asks_of}
use Rattle.zio_gang.specs.Writes.{Members, Placed, Writing, add_member, body_ask, body_placed, body_with, chosen, cut, gang_header, gang_placed, gang_unless, gang_with, head_ask, place_members, place_part, places_chosen, places_unless, pointer_to, with_members, without_place}
use Rattle.zio_disks.specs.Disks.{Tell}
use Rattle.zio_disks.proofs.WriteLemmas.{all_left, all_right}
use Rattle.zio_blocks.specs.Parts.{AreMembers, IsPart, TellsMembers, TellsPart}
use Rattle.zio_blocks.specs.declared.pieces.Part.{Part}

-- ---- what a journal has for an ask

chosen_at : (journal : List Choice) (e : Choice) (ask : Ask) (t : Bool) → find (λ (c : Choice). same_ask c.asked e.asked) journal ≡ Some e → e.asked ≡ ask → is_refused e ≡ t → chosen journal ask ≡ places_unless t e
chosen_at journal e ask t h asked refused =
    let at : find (λ (c : Choice). same_ask c.asked ask) journal ≡ Some e = subst (λ (a : Ask). find (λ (c : Choice). same_ask c.asked a) journal ≡ Some e) asked h in
    ap (places_chosen ask.copies) at ∙ ap (λ x. places_unless x e) (ap (λ (a : Ask). nat_lt (length e.places) a.copies) (sym asked) ∙ refused)

-- ---- a part by cases

part_body : (levels : ℕ) (journal : List Choice) (w : Writing) (path bytes : List ℕ) (images : Images) (places : List Place) → chosen journal (body_ask w path bytes) ≡ Some places
    → place_part levels journal w path bytes images ≡ body_placed w path bytes places (write_piece w.setting bytes places images)
unfolding place_part
part_body zero journal w path bytes images places h = ap (λ o. body_with o journal w (λ below part now. without_place [] now) path bytes images) h
part_body (suc levels) journal w path bytes images places h = ap (λ o. body_with o journal w (place_part levels journal w) path bytes images) h

part_nowhere : (levels : ℕ) (journal : List Choice) (w : Writing) (path bytes : List ℕ) (images : Images) → chosen journal (body_ask w path bytes) ≡ None → nat_le (length bytes) sector_size ≡ true
    → place_part levels journal w path bytes images ≡ without_place (body_ask w path bytes ∷ []) images
unfolding place_part
part_nowhere zero journal w path bytes images h small =
    ap (λ o. body_with o journal w (λ below part now. without_place [] now) path bytes images) h
    ∙ ap (λ t. gang_unless t journal w (λ below part now. without_place [] now) path bytes images) small
part_nowhere (suc levels) journal w path bytes images h small =
    ap (λ o. body_with o journal w (place_part levels journal w) path bytes images) h
    ∙ ap (λ t. gang_unless t journal w (place_part levels journal w) path bytes images) small

part_gang : (levels : ℕ) (journal : List Choice) (w : Writing) (path bytes : List ℕ) (images : Images) → chosen journal (body_ask w path bytes) ≡ None → nat_le (length bytes) sector_size ≡ false → 0 < levels
    → place_part levels journal w path bytes images ≡ gang_with (chosen journal (head_ask w path)) w (place_part (levels - 1) journal w) path bytes images
unfolding place_part
part_gang zero journal w path bytes images h large some = absurd (omega arith)
part_gang (suc levels) journal w path bytes images h large some =
    let less : levels ≡ suc levels - 1 = omega arith in
    ap (λ o. body_with o journal w (place_part levels journal w) path bytes images) h
    ∙ ap (λ t. gang_unless t journal w (place_part levels journal w) path bytes images) large
    ∙ ap (λ n. gang_with (chosen journal (head_ask w path)) w (place_part n journal w) path bytes images) less

-- ---- what a part tells

pub tell_body : {D : Type 0} (image : D → List ℕ → Type 0) (levels : ℕ) (w : Writing) (path bytes : List ℕ) (images : Images) (part : Part) (heads : List Head) (e : Choice) (entries : List Choice) (new : List D)
    → entries ≡ e ∷ [] → e.asked ≡ body_ask w path bytes → is_refused e ≡ false → part.pointer ≡ Some (pointer_to w e.places false bytes)
    → (part.error ≡ (write_piece w.setting bytes e.places images).error) × Tell image new (write_piece w.setting bytes e.places images).images
    → TellsPart image (λ journal. place_part levels journal w path bytes images) [] part heads heads entries new
tell_body image levels w path bytes images part heads e entries new is asked found pointer written =
    subst (λ es. TellsPart image (λ journal. place_part levels journal w path bytes images) [] part heads heads es new) (sym is) (record {
      after = (write_piece w.setting bytes e.places images).images;
      told = written.1;
      meant = λ journal answers.
          subst (λ p. IsPart p [] part heads heads (e ∷ []) (write_piece w.setting bytes e.places images).images)
          (sym (part_body levels journal w path bytes images e.places (chosen_at journal e (body_ask w path bytes) false answers.0 asked found)))
          (record { error = written.0; pointer = pointer; heads = sym (append-nil heads); asks = ap (λ (a : Ask). a ∷ []) asked; after_is = refl });
    })

pub tell_nowhere : {D : Type 0} (image : D → List ℕ → Type 0) (levels : ℕ) (w : Writing) (path bytes : List ℕ) (images : Images) (part : Part) (heads : List Head) (e : Choice) (entries : List Choice) (new : List D)
    → entries ≡ e ∷ [] → e.asked ≡ body_ask w path bytes → is_refused e ≡ true → nat_le (length bytes) sector_size ≡ true → part.pointer ≡ None → part.error ≡ Some Nospc → Tell image new images
    → TellsPart image (λ journal. place_part levels journal w path bytes images) [] part heads heads entries new
tell_nowhere image levels w path bytes images part heads e entries new is asked refused small pointer error tell =
    subst (λ es. TellsPart image (λ journal. place_part levels journal w path bytes images) [] part heads heads es new) (sym is) (record {
      after = images;
      told = tell;
      meant = λ journal answers.
          subst (λ p. IsPart p [] part heads heads (e ∷ []) images)
          (sym (part_nowhere levels journal w path bytes images (chosen_at journal e (body_ask w path bytes) true answers.0 asked refused) small))
          (record { error = error; pointer = pointer; heads = sym (append-nil heads); asks = ap (λ (a : Ask). a ∷ []) asked; after_is = refl });
    })

pub tell_gang : {D : Type 0} (image : D → List ℕ → Type 0) (levels : ℕ) (w : Writing) (path bytes : List ℕ) (images : Images) (part : Part) (old heads : List Head) (e : Choice) (entries es : List Choice) (new : List D)
    → entries ≡ e ∷ es → e.asked ≡ body_ask w path bytes → is_refused e ≡ true → nat_le (length bytes) sector_size ≡ false → 0 < levels
    → TellsPart image (λ journal. gang_with (chosen journal (head_ask w path)) w (place_part (levels - 1) journal w) path bytes images) (body_ask w path bytes ∷ []) part old heads es new
    → TellsPart image (λ journal. place_part levels journal w path bytes images) [] part old heads entries new
tell_gang image levels w path bytes images part old heads e entries es new is asked refused large some gang =
    subst (λ xs. TellsPart image (λ journal. place_part levels journal w path bytes images) [] part old heads xs new) (sym is) (record {
      after = gang.after;
      told = gang.told;
      meant = λ journal answers.
          (let h = gang.meant journal answers.1 in
          subst (λ p. IsPart p [] part old heads (e ∷ es) gang.after)
          (sym (part_gang levels journal w path bytes images (chosen_at journal e (body_ask w path bytes) true answers.0 asked refused) large some))
          (record { error = h.error; pointer = h.pointer; heads = h.heads; asks = ap (λ (a : Ask). a ∷ asks_of es) asked ∙ h.asks; after_is = h.after_is }));
    })

pub tell_headless : {D : Type 0} (image : D → List ℕ → Type 0) (levels : ℕ) (w : Writing) (path bytes : List ℕ) (images : Images) (part : Part) (heads : List Head) (e : Choice) (entries : List Choice) (new : List D)
    → entries ≡ e ∷ [] → e.asked ≡ head_ask w path → is_refused e ≡ true → part.pointer ≡ None → part.error ≡ Some Nospc → Tell image new images
    → TellsPart image (λ journal. gang_with (chosen journal (head_ask w path)) w (place_part levels journal w) path bytes images) (body_ask w path bytes ∷ []) part heads heads entries new
tell_headless image levels w path bytes images part heads e entries new is asked refused pointer error tell =
    subst (λ es. TellsPart image (λ journal. gang_with (chosen journal (head_ask w path)) w (place_part levels journal w) path bytes images) (body_ask w path bytes ∷ []) part heads heads es new) (sym is) (record {
      after = images;
      told = tell;
      meant = λ journal answers.
          subst (λ o. IsPart (gang_with o w (place_part levels journal w) path bytes images) (body_ask w path bytes ∷ []) part heads heads (e ∷ []) images)
          (sym (chosen_at journal e (head_ask w path) true answers.0 asked refused))
          (record { error = error; pointer = pointer; heads = sym (append-nil heads); asks = ap (λ (a : Ask). body_ask w path bytes ∷ a ∷ []) asked; after_is = refl });
    })

-- the definition of a gang's members
abbrev pub members_meant : ℕ → Writing → List ℕ → List ℕ → Images → List Choice → Members
members_meant levels w path bytes images journal = place_members (place_part levels journal w) path 0 (cut (split_sizes (length bytes)) bytes) images

pub tell_headed : {D : Type 0} (image : D → List ℕ → Type 0) (levels : ℕ) (w : Writing) (path bytes : List ℕ) (images : Images) (part : Part) (old heads : List Head) (e : Choice) (entries es : List Choice) (new : List D)
    → entries ≡ e ∷ es → e.asked ≡ head_ask w path → is_refused e ≡ false
    → TellsPart image (λ journal. with_members w path bytes e.places (members_meant levels w path bytes images journal)) (body_ask w path bytes ∷ head_ask w path ∷ []) part old heads es new
    → TellsPart image (λ journal. gang_with (chosen journal (head_ask w path)) w (place_part levels journal w) path bytes images) (body_ask w path bytes ∷ []) part old heads entries new
tell_headed image levels w path bytes images part old heads e entries es new is asked found gang =
    subst (λ xs. TellsPart image (λ journal. gang_with (chosen journal (head_ask w path)) w (place_part levels journal w) path bytes images) (body_ask w path bytes ∷ []) part old heads xs new) (sym is) (record {
      after = gang.after;
      told = gang.told;
      meant = λ journal answers.
          (let h = gang.meant journal answers.1 in
          subst (λ o. IsPart (gang_with o w (place_part levels journal w) path bytes images) (body_ask w path bytes ∷ []) part old heads (e ∷ es) gang.after)
          (sym (chosen_at journal e (head_ask w path) false answers.0 asked found))
          (record { error = h.error; pointer = h.pointer; heads = h.heads; asks = ap (λ (a : Ask). body_ask w path bytes ∷ a ∷ asks_of es) asked ∙ h.asks; after_is = h.after_is }));
    })

-- ---- a gang whose members were written

pub tell_written : {D : Type 0} (image : D → List ℕ → Type 0) (levels : ℕ) (w : Writing) (path bytes : List ℕ) (images : Images) (places : List Place) (part : Part) (worst written : Option Errno) (header : List ℕ)
    (pointers_old pointers : List (Option Bp)) (old headed members heads : List Head) (es : List Choice) (middle new : List D) (zeros : List ℕ)
    → (tells : TellsMembers image (members_meant levels w path bytes images) worst 0 pointers_old pointers headed members es middle)
    → headed ≡ old ++ record { path = path; bytes = zeros } ∷ []
    → ((front back : List Head) (head : Head) → members ≡ front ++ head ∷ back → length old ≡ length front → heads ≡ front ++ record { path = head.path; bytes = header } ∷ back)
    → header ≡ header_of pointers (get_or places 0 no_place) w.birth
    → (written ≡ (write_piece w.setting header places tells.after).error) × Tell image new (write_piece w.setting header places tells.after).images
    → part.error ≡ worst_error worst written → part.pointer ≡ Some (pointer_to w places true bytes)
    → TellsPart image (λ journal. with_members w path bytes places (members_meant levels w path bytes images journal)) (body_ask w path bytes ∷ head_ask w path ∷ []) part old heads es new
tell_written image levels w path bytes images places part worst written header pointers_old pointers old headed members heads es middle new zeros tells begun filled header_is wrote error pointer =
    record {
      after = (write_piece w.setting header places tells.after).images;
      told = wrote.1;
      meant = λ journal answers.
          (let m : Members = members_meant levels w path bytes images journal in
          let h = tells.meant journal answers in
          let same : header ≡ gang_header w places m = header_is ∙ ap (λ ps. header_of ps (get_or places 0 no_place) w.birth) h.pointers in
          let around : members ≡ old ++ record { path = path; bytes = zeros } ∷ m.heads =
          h.heads ∙ ap (λ hs. hs ++ m.heads) begun ∙ append_assoc old (record { path = path; bytes = zeros } ∷ []) m.heads in
          let all : heads ≡ old ++ record { path = path; bytes = header } ∷ m.heads = filled old m.heads (record { path = path; bytes = zeros }) around refl in
          subst (λ bs. IsPart (gang_placed w path bytes places m bs (write_piece w.setting bs places m.images)) (body_ask w path bytes ∷ head_ask w path ∷ []) part old heads es (write_piece w.setting header places tells.after).images) same
          (record {
            error = error ∙ (λ j. worst_error (h.error j) (wrote.0 j)) ∙ ap (λ now. worst_error (worst_of m.errors) (write_piece w.setting header places now).error) h.after_is;
            pointer = pointer;
            heads = all;
            asks = ap (λ more. body_ask w path bytes ∷ head_ask w path ∷ more) h.asks;
            after_is = ap (λ now. (write_piece w.setting header places now).images) h.after_is;
          }));
    }

-- ---- members in turn

pub tell_no_members : {D : Type 0} (image : D → List ℕ → Type 0) (place : List Choice → List ℕ → List ℕ → Images → Placed) (path bytes : List ℕ) (n : ℕ) (images : Images) (pointers : List (Option Bp)) (heads : List Head) (entries : List Choice) (new : List D)
    → entries ≡ [] → IsFilled None 3 n pointers → Tell image new images
    → TellsMembers image (λ journal. place_members (place journal) path n (cut [] bytes) images) None n pointers pointers heads heads entries new
tell_no_members image place path bytes n images pointers heads entries new is filled tell =
    subst (λ es. TellsMembers image (λ journal. place_members (place journal) path n (cut [] bytes) images) None n pointers pointers heads heads es new) (sym is) (record {
      after = images;
      told = tell;
      meant = λ journal answers. record {
        error = refl;
        pointers = filled.rest ∙ ap (filled_to None 3) (sym (append-nil (take n pointers)));
        heads = sym (append-nil heads);
        asks = refl;
        after_is = refl;
      };
    })

asks_both : (es fs : List Choice) → asks_of (es ++ fs) ≡ asks_of es ++ asks_of fs
asks_both [] fs = refl
asks_both (e ∷ es) fs = ap (λ more. e.asked ∷ more) (asks_both es fs)

pub tell_members : {D : Type 0} (image : D → List ℕ → Type 0) (place : List Choice → List ℕ → List ℕ → Images → Placed) (path bytes : List ℕ) (n size : ℕ) (sizes : List ℕ) (images : Images) (part : Part) (others : Option Errno)
    (pointers_old pointers : List (Option Bp)) (old middle heads : List Head) (entries es fs : List Choice) (between new : List D)
    → entries ≡ es ++ fs → n < length pointers_old
    → (first : TellsPart image (λ journal. place journal (path ++ n ∷ []) (take size bytes) images) [] part old middle es between)
    → TellsMembers image (λ journal. place_members (place journal) path (n + 1) (cut sizes (drop size bytes)) first.after) others (n + 1) (slice_set pointers_old n part.pointer) pointers middle heads fs new
    → TellsMembers image (λ journal. place_members (place journal) path n (cut (size ∷ sizes) bytes) images) (worst_error part.error others) n pointers_old pointers old heads entries new
tell_members image place path bytes n size sizes images part others pointers_old pointers old middle heads entries es fs between new is here first rest =
    subst (λ xs. TellsMembers image (λ journal. place_members (place journal) path n (cut (size ∷ sizes) bytes) images) (worst_error part.error others) n pointers_old pointers old heads xs new) (sym is) (record {
      after = rest.after;
      told = rest.told;
      meant = λ journal answers.
          (let p : Placed = place journal (path ++ n ∷ []) (take size bytes) images in
          let then : Images → Members = place_members (place journal) path (n + 1) (cut sizes (drop size bytes)) in
          let a = first.meant journal (all_left (λ (e : Choice). find (λ (c : Choice). same_ask c.asked e.asked) journal ≡ Some e) es fs answers) in
          let b = rest.meant journal (all_right (λ (e : Choice). find (λ (c : Choice). same_ask c.asked e.asked) journal ≡ Some e) es fs answers) in
          subst (λ now. AreMembers (add_member p (then now)) (worst_error part.error others) n pointers_old pointers old heads (es ++ fs) rest.after) a.after_is
          (record {
            error = λ j. worst_error (a.error j) (b.error j);
            pointers = b.pointers
                ∙ ap (λ ps. filled_to None 3 (ps ++ (then first.after).pointers)) (take_more_set pointers_old n part.pointer here ∙ ap (λ x. take n pointers_old ++ x ∷ []) a.pointer)
                ∙ ap (filled_to None 3) (append_assoc (take n pointers_old) (p.pointer ∷ []) (then first.after).pointers);
            heads = b.heads ∙ ap (λ hs. hs ++ (then first.after).heads) a.heads ∙ append_assoc old p.heads (then first.after).heads;
            asks = asks_both es fs ∙ (λ j. a.asks j ++ b.asks j);
            after_is = b.after_is;
          }));
    })

-- the same by what the code has
pub tell_members_at : {D : Type 0} (image : D → List ℕ → Type 0) (place : List Choice → List ℕ → List ℕ → Images → Placed) (path bytes : List ℕ) (n size : ℕ) (sizes : List ℕ) (images : Images) (part : Part) (others : Option Errno)
    (pointers_old pointers : List (Option Bp)) (old middle heads : List Head) (entries es fs : List Choice) (between new : List D) (below front back all : List ℕ)
    → below ≡ path ++ n ∷ [] → front ≡ take size bytes → back ≡ drop size bytes → all ≡ size ∷ sizes
    → entries ≡ es ++ fs → n < length pointers_old
    → (first : TellsPart image (λ journal. place journal below front images) [] part old middle es between)
    → TellsMembers image (λ journal. place_members (place journal) path (n + 1) (cut sizes back) first.after) others (n + 1) (slice_set pointers_old n part.pointer) pointers middle heads fs new
    → TellsMembers image (λ journal. place_members (place journal) path n (cut all bytes) images) (worst_error part.error others) n pointers_old pointers old heads entries new
tell_members_at image place path bytes n size sizes images part others pointers_old pointers old middle heads entries es fs between new below front back all at_below at_front at_back at_all is here first rest =
    let Goal : List ℕ → Type 0 = λ all. TellsMembers image (λ journal. place_members (place journal) path n (cut all bytes) images) (worst_error part.error others) n pointers_old pointers old heads entries new in
    let First : List ℕ → List ℕ → Type 0 = λ p f. TellsPart image (λ journal. place journal p f images) [] part old middle es between in
    let Rest : List ℕ → Images → Type 0 = λ b now. TellsMembers image (λ journal. place_members (place journal) path (n + 1) (cut sizes b) now) others (n + 1) (slice_set pointers_old n part.pointer) pointers middle heads fs new in
    subst Goal (sym at_all)
    ((subst (λ (p : List ℕ). (f : First p front) → Rest back f.after → Goal (size ∷ sizes)) (sym at_below)
    (subst (λ (x : List ℕ). (f : First (path ++ n ∷ []) x) → Rest back f.after → Goal (size ∷ sizes)) (sym at_front)
    (subst (λ (x : List ℕ). (f : First (path ++ n ∷ []) (take size bytes)) → Rest x f.after → Goal (size ∷ sizes)) (sym at_back)
    (λ f r. tell_members image place path bytes n size sizes images part others pointers_old pointers old middle heads entries es fs between new is here f r))))
    first rest)

-- ---- pointers of members

filled_three : (n : ℕ) (a b c x : Option Bp) → n < 3 → IsFilled None 3 n (a ∷ b ∷ c ∷ []) → IsFilled None 3 (n + 1) (slice_set (a ∷ b ∷ c ∷ []) n x)
filled_three zero a b c x h f =
    let is : a ∷ b ∷ c ∷ [] ≡ None ∷ None ∷ None ∷ [] = f.rest in
    record { fits = omega arith; rest = ap (λ ps. slice_set ps 0 x) is }
filled_three (suc zero) a b c x h f =
    let is : a ∷ b ∷ c ∷ [] ≡ a ∷ None ∷ None ∷ [] = f.rest in
    record { fits = omega arith; rest = ap (λ ps. slice_set ps 1 x) is }
filled_three (suc (suc zero)) a b c x h f =
    record { fits = omega arith; rest = refl }
filled_three (suc (suc (suc n))) a b c x h f = absurd (omega arith)

pub filled_more : (n : ℕ) (pointers : List (Option Bp)) (x : Option Bp) → length pointers ≡ 3 → n < 3 → IsFilled None 3 n pointers → IsFilled None 3 (n + 1) (slice_set pointers n x)
filled_more n [] x h = absurd (omega arith)
filled_more n (a ∷ []) x h = absurd (omega (arith, h))
filled_more n (a ∷ b ∷ []) x h = absurd (omega (arith, h))
filled_more n (a ∷ b ∷ c ∷ []) x h = filled_three n a b c x
filled_more n (a ∷ b ∷ c ∷ d ∷ more) x h = absurd (omega (arith, h))

pub made_more : (P : Option Bp → Type 0) (pointers : List (Option Bp)) (n : ℕ) (x : Option Bp) → AllByRecursion P pointers → P x → AllByRecursion P (slice_set pointers n x)
made_more P [] n x h k = tt
made_more P (p ∷ pointers) zero x h k = (k, h.1)
made_more P (p ∷ pointers) (suc n) x h k = (h.0, made_more P pointers n x h.1 k)

-- ---- a header among others

pub head_read : (front back : List Head) (head d : Head) → get_or (front ++ head ∷ back) (length front) d ≡ head
head_read [] back head d = refl
head_read (x ∷ front) back head d = head_read front back head d

pub head_set : (front back : List Head) (head new : Head) → slice_set (front ++ head ∷ back) (length front) new ≡ front ++ new ∷ back
head_set [] back head new = refl
head_set (x ∷ front) back head new = ap (λ hs. x ∷ hs) (head_set front back head new)

-- ---- levels and sizes

pub some_levels : (levels n : ℕ) → n ≤ 512 * 3 ^ levels → 512 < n → 0 < levels
some_levels zero n h k = absurd (omega arith)
some_levels (suc levels) n h k = omega arith

pub large_test : (n m : ℕ) → m < n → nat_le n m ≡ false
large_test n m h = false_from_ne_true (nat_le n m) (λ e. let no : n ≤ m = leb-true n m e in absurd (omega arith))

pub small_test : (n m : ℕ) → n ≤ m → nat_le n m ≡ true
small_test n m h = le-leb n m h
