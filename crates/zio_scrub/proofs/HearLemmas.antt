-- One more copy is heard.
use Rattle.std.proofs.Common.{◌≡◌, ◌≢◌, ℕ, zero, suc, ◌+◌, ◌-◌, ◌<◌, ◌≤◌, List, [], ◌∷◌, length, length-set, get_or, get_or-set_same, get_or-set_other, set, take, drop, Bool, true, false, ◌&&◌, not, Option, Some, None, IfSome, Result, Ok, Err, inl, inr, ⊎_elim, refl, sym, ap, subst, ◌∙◌, arith}
use Rattle.std.specs.Prelude.{◌==◌, nat_lt}
use Rattle.std.proofs.lemmas.Bool.{cases_eq, ltb-true}
use Rattle.std.proofs.lemmas.Bool.Decides.{nat_tests}
use Rattle.std.proofs.lemmas.List.{get_or_read}
use Rattle.zio_types.specs.declared.error.Errno.{Errno}
use Rattle.zio_cksum.specs.Blocks.{judged, judged_by}
use Rattle.zio_cksum.specs.Images.{Images, Setting, read_leaf}
use Rattle.zio_disks.specs.Disks.{found_with}
use Rattle.zio_gang.specs.Pieces.{Piece}
use Rattle.zio_groups.specs.declared.waiting.Answered.{Answered}
use Rattle.zio_scrub.specs.declared.heard.Heard.{Heard}
use Rattle.zio_scrub.specs.declared.heard.Mark.{Mark}
use Rattle.zio_scrub.specs.declared.heard.Mark.TheVariants.{Out, Good, Bad}
use Rattle.zio_scrub.specs.declared.heard.Source.{Source}
use Rattle.zio_scrub.specs.declared.layout.CopyAt.{CopyAt}
use Rattle.zio_scrub.specs.declared.layout.Layout.{Layout}
use Rattle.zio_scrub.specs.declared.layout.Numbered.{Numbered}
use Rattle.zio_scrub.specs.Pieces.{seen}
use Rattle.zio_scrub.specs.Reads.{IsAt, IsHeard, IsHearable, IsKept, IsLeast, IsSound, IsTrueOf, IsTruthful, Says, all_good, found_good, found_if, is_good, is_out, kept_after, lesser, mark_at, read_at, source_at}

out_is : (m : Mark) → is_out m ≡ true → m ≡ Out
out_is Out e = refl
out_is Good e = absurd (let no : ⊥ = cc in no)
out_is Bad e = absurd (let no : ⊥ = cc in no)

good_is : (m : Mark) → is_good m ≡ true → m ≡ Good
good_is Out e = absurd (let no : ⊥ = cc in no)
good_is Good e = refl
good_is Bad e = absurd (let no : ⊥ = cc in no)

abbrev marked : Mark → ℕ → List Mark → ℕ → Mark
marked m t marks i = get_or (set marks t m) i Out

-- ---- marks

-- where the mark that is set isn't Out, the copy isn't out any more
pub outs_after : (marks : List Mark) (t : ℕ) (m : Mark) (u : ℕ) → t < length marks → is_out m ≡ false
    → is_out (get_or (set marks t m) u Out) ≡ (is_out (get_or marks u Out) && not (t == u))
outs_after marks t m u l heard =
    ⊎_elim
    (λ (e : u ≡ t).
    let here : get_or (set marks t m) u Out ≡ m = subst (λ (k : ℕ). get_or (set marks t m) k Out ≡ m) (sym e) (get_or-set_same marks t m Out l) in
    ap is_out here ∙ heard ∙ sym (gone (is_out (get_or marks u Out)) (t == u) (same t u (sym e))))
    (λ (ne : u ≢ t). ap is_out (get_or-set_other marks t u m Out ne) ∙ stays (is_out (get_or marks u Out)) (t == u) (differ t u (λ e. ne (sym e))))
    (cases_eq u t)
  where
    same : (a b : ℕ) → a ≡ b → (a == b) ≡ true
    same a b e = grind (arith, nat_tests)

    differ : (a b : ℕ) → (a ≡ b → ⊥) → (a == b) ≡ false
    differ a b ne = grind (arith, nat_tests)

    gone : (a b : Bool) → b ≡ true → (a && not b) ≡ false
    gone true b e = ap not e
    gone false b e = refl

    stays : (a b : Bool) → b ≡ false → a ≡ (a && not b)
    stays true b e = sym (ap not e)
    stays false b e = refl

-- ---- what is kept

abbrev Marks : Type 0
Marks = ℕ → Mark

-- a copy that was out is marked; all other marks stay
record Sets (old new : Marks) (t : ℕ) (m : Mark) : Type 0 where
  here : new t ≡ m
  others : (i : ℕ) → (i ≡ t → ⊥) → new i ≡ old i
  was : old t ≡ Out

sets_of : (marks : List Mark) (t : ℕ) (m : Mark) → t < length marks → is_out (get_or marks t Out) ≡ true
    → Sets (λ (i : ℕ). get_or marks i Out) (λ (i : ℕ). get_or (set marks t m) i Out) t m
sets_of marks t m l out = record {
  here = get_or-set_same marks t m Out l;
  others = λ i ne. get_or-set_other marks t i m Out ne;
  was = out_is (get_or marks t Out) out;
}

-- a piece whose copies don't have the one that is marked
kept_elsewhere : (old new : Marks) (t : ℕ) (m : Mark) (first count size : ℕ) (kept : Option Source) → Sets old new t m
    → ((i : ℕ) → i < count → first + i ≡ t → ⊥) → IsKept old first count size kept → IsKept new first count size kept
kept_elsewhere old new t m first count size None st never (inl none) = inl (λ i l e. none i l (sym (st.others (first + i) (never i l)) ∙ e))
kept_elsewhere old new t m first count size None st never (inr all) = inr (λ i l. st.others (first + i) (never i l) ∙ all i l)
kept_elsewhere old new t m first count size (Some source) st never h =
    let from = h.from in
    let below = h.below in
    let within : (i : ℕ) → first ≤ i → i < first + count → i ≡ t → ⊥ =
    λ i a b e. never (i - first) (omega arith) (let q : first + (i - first) ≡ i = omega arith in q ∙ e) in
    record {
      from = h.from;
      below = h.below;
      good = st.others source.copy (within source.copy h.from h.below) ∙ h.good;
      least = λ i a b e. h.least i a b (sym (st.others i (within i a (omega arith))) ∙ e);
      whole = h.whole;
    }

not_out_good : (m : Mark) → m ≡ Out → m ≡ Good → ⊥
not_out_good m e f = let no : ⊥ = cc in no

bad_not_good : (m : Mark) → m ≡ Bad → m ≡ Good → ⊥
bad_not_good m e f = let no : ⊥ = cc in no

-- a piece with one more bad copy
kept_bad : (old new : Marks) (t first count size : ℕ) (kept : Option Source) → Sets old new t Bad → first ≤ t → t < first + count
    → IsKept old first count size kept → IsKept new first count size kept
kept_bad old new t first count size None st a b (inl none) =
    inl (λ i l e. ⊎_elim
    (λ (q : first + i ≡ t). bad_not_good (new t) st.here (subst (λ (k : ℕ). new k ≡ Good) q e))
    (λ (ne : first + i ≢ t). none i l (sym (st.others (first + i) ne) ∙ e))
    (cases_eq (first + i) t))
kept_bad old new t first count size None st a b (inr all) =
    absurd (not_out_good (old t) st.was (let q : first + (t - first) ≡ t = omega arith in subst (λ (k : ℕ). old k ≡ Good) q (all (t - first) (omega arith))))
kept_bad old new t first count size (Some source) st a b h =
    let other : source.copy ≡ t → ⊥ = λ e. not_out_good (old t) st.was (subst (λ (k : ℕ). old k ≡ Good) e h.good) in
    record {
      from = h.from;
      below = h.below;
      good = st.others source.copy other ∙ h.good;
      least = λ i x y e. ⊎_elim
          (λ (q : i ≡ t). bad_not_good (new t) st.here (subst (λ (k : ℕ). new k ≡ Good) q e))
          (λ (ne : i ≢ t). h.least i x y (sym (st.others i ne) ∙ e))
          (cases_eq i t);
      whole = h.whole;
    }

-- a piece with one more good copy
kept_good : (old new : Marks) (t first count size : ℕ) (kept : Option Source) (all : Bool) (source : Source) → Sets old new t Good
    → first ≤ t → t < first + count → source.copy ≡ t → length source.bytes ≡ size
    → (all ≡ true → (i : ℕ) → i < count → new (first + i) ≡ Good)
    → IsKept old first count size kept → IsKept new first count size (kept_after all kept source)
kept_good old new t first count size kept true source st a b at long every h = inr (every refl)
kept_good old new t first count size None false source st a b at long every (inl none) =
    let is : (k : ℕ) → k ≡ first + (k - first) → old k ≡ Good → k < first + count → first ≤ k → ⊥ =
    λ k q e l m. none (k - first) (omega arith) (subst (λ (j : ℕ). old j ≡ Good) q e) in
    record {
      from = omega arith;
      below = omega arith;
      good = subst (λ (k : ℕ). new k ≡ Good) (sym at) st.here;
      least = λ i x y e. is i (omega arith) (sym (st.others i (λ q. absurd (omega arith))) ∙ e) (omega arith) x;
      whole = long;
    }
kept_good old new t first count size None false source st a b at long every (inr good) =
    absurd (not_out_good (old t) st.was (let q : first + (t - first) ≡ t = omega arith in subst (λ (k : ℕ). old k ≡ Good) q (good (t - first) (omega arith))))
kept_good old new t first count size (Some earlier) false source st a b at long every h = by (nat_lt earlier.copy source.copy) refl
  where
    other : earlier.copy ≡ t → ⊥
    other = λ e. not_out_good (old t) st.was (subst (λ (k : ℕ). old k ≡ Good) e h.good)

    later : nat_lt earlier.copy source.copy ≡ false → source.copy ≤ earlier.copy
    later e = grind (arith, nat_tests)

    by : (c : Bool) → c ≡ nat_lt earlier.copy source.copy → IsLeast new first count size (lesser c earlier source)
    by true e =
        let low : earlier.copy < source.copy = ltb-true earlier.copy source.copy (sym e) in
        record {
          from = h.from;
          below = h.below;
          good = st.others earlier.copy other ∙ h.good;
          least = λ i x y q. h.least i x y (sym (st.others i (λ z. absurd (omega arith))) ∙ q);
          whole = h.whole;
        }
    by false e =
        let high : source.copy ≤ earlier.copy = later (sym e) in
        record {
          from = omega arith;
          below = omega arith;
          good = subst (λ (k : ℕ). new k ≡ Good) (sym at) st.here;
          least = λ i x y q. h.least i x (omega arith) (sym (st.others i (λ z. absurd (omega arith))) ∙ q);
          whole = long;
        }

-- ---- the whole

pub at_same : {X : Type 0} (xs : List X) (i : ℕ) (x y : X) → IsAt xs i x → IsAt xs i y → x ≡ y
at_same xs i x y a b = sym a.is ∙ got xs i x y a.within ∙ b.is
  where
    got : {X : Type 0} (xs : List X) (i : ℕ) (x y : X) → i < length xs → get_or xs i x ≡ get_or xs i y
    got [] i x y l = absurd (omega arith)
    got (z ∷ zs) zero x y l = refl
    got (z ∷ zs) (suc i) x y l = got zs i x y (omega arith)

not_in_range : (layout : Layout) (h : Heard) (t p : ℕ) (c : CopyAt) (n : Numbered) → IsSound layout → IsAt layout.copies t c → IsAt layout.pieces p n
    → (p ≡ c.piece → ⊥) → (i : ℕ) → i < n.count → n.first + i ≡ t → ⊥
not_in_range layout h t p c n sound at piece other i l e =
    other (sym (sound.own p i n c piece l (subst (λ (k : ℕ). IsAt layout.copies k c) (sym e) at)))

pub heard_bad : (layout : Layout) (h new : Heard) (a : Answered) (c : CopyAt) → IsSound layout → IsHeard layout h
    → IsHearable layout (mark_at h) a → IsAt layout.copies a.ticket c → new.marks.items ≡ set h.marks.items a.ticket Bad → new.sources.items ≡ h.sources.items
    → IsHeard layout new
heard_bad layout h new a c sound heard able at marks sources =
    let there = able.there in
    let count = heard.marks in
    let st : Sets (mark_at h) (λ (i : ℕ). get_or (set h.marks.items a.ticket Bad) i Out) a.ticket Bad = sets_of h.marks.items a.ticket Bad (omega arith) able.out in
    record {
      marks = ap (λ (xs : List Mark). length xs) marks ∙ length-set h.marks.items a.ticket Bad ∙ heard.marks;
      sources = ap (λ (xs : List (Option Source)). length xs) sources ∙ heard.sources;
      kept = λ p n piece.
          subst (λ (xs : List (Option Source)). IsKept (mark_at new) n.first n.count (seen n.piece).size (get_or xs p None)) (sym sources)
          (subst (λ (xs : List Mark). IsKept (λ (i : ℕ). get_or xs i Out) n.first n.count (seen n.piece).size (source_at h p)) (sym marks)
          (⊎_elim
          (λ (e : p ≡ c.piece).
          let r = sound.range a.ticket c n at (subst (λ (k : ℕ). IsAt layout.pieces k n) e piece) in
          kept_bad (mark_at h) (λ (i : ℕ). get_or (set h.marks.items a.ticket Bad) i Out) a.ticket n.first n.count (seen n.piece).size (source_at h p) st r.0 r.1
          (heard.kept p n piece))
          (λ (ne : p ≢ c.piece).
          kept_elsewhere (mark_at h) (λ (i : ℕ). get_or (set h.marks.items a.ticket Bad) i Out) a.ticket Bad n.first n.count (seen n.piece).size (source_at h p) st
          (not_in_range layout h a.ticket p c n sound at piece ne) (heard.kept p n piece))
          (cases_eq p c.piece)));
    }

pub heard_good : (layout : Layout) (h new : Heard) (a : Answered) (c : CopyAt) (m : Numbered) (all : Bool) (source : Source) → IsSound layout → IsHeard layout h
    → IsHearable layout (mark_at h) a → IsAt layout.copies a.ticket c → IsAt layout.pieces c.piece m
    → new.marks.items ≡ set h.marks.items a.ticket Good
    → new.sources.items ≡ set h.sources.items c.piece (kept_after all (source_at h c.piece) source)
    → source.copy ≡ a.ticket → length source.bytes ≡ (seen m.piece).size
    → (all ≡ true → (i : ℕ) → i < m.count → get_or (set h.marks.items a.ticket Good) (m.first + i) Out ≡ Good)
    → IsHeard layout new
heard_good layout h new a c m all source sound heard able at piece_at marks sources ticket long every =
    let there = able.there in
    let count = heard.marks in
    let st : Sets (mark_at h) (λ (i : ℕ). get_or (set h.marks.items a.ticket Good) i Out) a.ticket Good = sets_of h.marks.items a.ticket Good (omega arith) able.out in
    record {
      marks = ap (λ (xs : List Mark). length xs) marks ∙ length-set h.marks.items a.ticket Good ∙ heard.marks;
      sources = ap (λ (xs : List (Option Source)). length xs) sources ∙ length-set h.sources.items c.piece (kept_after all (source_at h c.piece) source) ∙ heard.sources;
      kept = λ p n piece.
          subst (λ (xs : List (Option Source)). IsKept (mark_at new) n.first n.count (seen n.piece).size (get_or xs p None)) (sym sources)
          (subst (λ (xs : List Mark). IsKept (λ (i : ℕ). get_or xs i Out) n.first n.count (seen n.piece).size
          (get_or (set h.sources.items c.piece (kept_after all (source_at h c.piece) source)) p None)) (sym marks)
          (⊎_elim
          (λ (e : p ≡ c.piece).
          let here : IsAt layout.pieces c.piece n = subst (λ (k : ℕ). IsAt layout.pieces k n) e piece in
          let is : m ≡ n = at_same layout.pieces c.piece m n piece_at here in
          let w = here.within in
          let inside : c.piece < length h.sources.items = let q = heard.sources in omega arith in
          let stored : get_or (set h.sources.items c.piece (kept_after all (source_at h c.piece) source)) p None ≡ kept_after all (source_at h c.piece) source =
          ap (λ (k : ℕ). get_or (set h.sources.items c.piece (kept_after all (source_at h c.piece) source)) k None) e
          ∙ get_or-set_same h.sources.items c.piece (kept_after all (source_at h c.piece) source) None inside in
          subst (λ (x : Numbered). IsKept (λ (i : ℕ). get_or (set h.marks.items a.ticket Good) i Out) x.first x.count (seen x.piece).size
          (get_or (set h.sources.items c.piece (kept_after all (source_at h c.piece) source)) p None)) is
          (subst (IsKept (λ (i : ℕ). get_or (set h.marks.items a.ticket Good) i Out) m.first m.count (seen m.piece).size) (sym stored)
          (let r = sound.range a.ticket c m at piece_at in
          kept_good (mark_at h) (λ (i : ℕ). get_or (set h.marks.items a.ticket Good) i Out) a.ticket m.first m.count (seen m.piece).size (source_at h c.piece) all source
          st r.0 r.1 ticket long every (heard.kept c.piece m piece_at))))
          (λ (ne : p ≢ c.piece).
          subst (IsKept (λ (i : ℕ). get_or (set h.marks.items a.ticket Good) i Out) n.first n.count (seen n.piece).size)
          (sym (get_or-set_other h.sources.items c.piece p (kept_after all (source_at h c.piece) source) None ne))
          (kept_elsewhere (mark_at h) (λ (i : ℕ). get_or (set h.marks.items a.ticket Good) i Out) a.ticket Good n.first n.count (seen n.piece).size (source_at h p) st
          (not_in_range layout h a.ticket p c n sound at piece ne) (heard.kept p n piece)))
          (cases_eq p c.piece)));
    }

-- ---- the truth

judged_good : (piece : Piece) (r : Result (List ℕ) Errno) (bytes : List ℕ) → found_good piece r ≡ Some bytes → judged piece.good r ≡ Ok bytes
judged_good piece (Err e) bytes h = absurd (let no : ⊥ = cc in no)
judged_good piece (Ok found) bytes h = by (piece.good found) h
  where
    by : (b : Bool) → found_if b found ≡ Some bytes → judged_by b found ≡ Ok bytes
    by true e = let q : found ≡ bytes = cc in ap Ok q
    by false e = absurd (let no : ⊥ = cc in no)

says_bad : (piece : Piece) (r : Result (List ℕ) Errno) → found_good piece r ≡ None → Says Bad (judged piece.good r)
says_bad piece (Err e) h = tt
says_bad piece (Ok found) h = by (piece.good found) h
  where
    by : (b : Bool) → found_if b found ≡ None → Says Bad (judged_by b found)
    by true e = absurd (let no : ⊥ = cc in no)
    by false e = tt

pub true_bad : (s : Setting) (images : Images) (layout : Layout) (h new : Heard) (a : Answered) (c : CopyAt) (m : Numbered) → IsHeard layout h
    → IsHearable layout (mark_at h) a → IsAt layout.copies a.ticket c → IsAt layout.pieces c.piece m
    → new.marks.items ≡ set h.marks.items a.ticket Bad → new.sources.items ≡ h.sources.items
    → None ≡ found_good (seen m.piece) (found_with a.error (take (seen m.piece).size a.bytes))
    → IsTruthful s images layout a → IsTrueOf s images layout h → IsTrueOf s images layout new
true_bad s images layout h new a c m heard able at piece_at marks sources none truth told =
    let there = able.there in
    let count = heard.marks in
    let st : Sets (mark_at h) (λ (i : ℕ). get_or (set h.marks.items a.ticket Bad) i Out) a.ticket Bad = sets_of h.marks.items a.ticket Bad (omega arith) able.out in
    let read : found_good (seen m.piece) (read_leaf s false images (seen m.piece).size c.spot) ≡ None =
    sym (none ∙ ap (found_good (seen m.piece)) (truth c m at piece_at)) in
    record {
      says = λ t d n here there2.
          subst (λ (xs : List Mark). Says (get_or xs t Out) (read_at s images n d)) (sym marks)
          (⊎_elim
          (λ (e : t ≡ a.ticket).
          let dc : c ≡ d = at_same layout.copies a.ticket c d at (subst (λ (k : ℕ). IsAt layout.copies k d) e here) in
          let mn : m ≡ n = at_same layout.pieces c.piece m n piece_at (subst (λ (x : CopyAt). IsAt layout.pieces x.piece n) (sym dc) there2) in
          subst (λ (x : Mark). Says x (read_at s images n d)) (sym (ap (λ (k : ℕ). get_or (set h.marks.items a.ticket Bad) k Out) e ∙ st.here))
          (subst (λ (x : Numbered). Says Bad (read_at s images x d)) mn (subst (λ (x : CopyAt). Says Bad (read_at s images m x)) dc
          (says_bad (seen m.piece) (read_leaf s false images (seen m.piece).size c.spot) read))))
          (λ (ne : t ≢ a.ticket). subst (λ (x : Mark). Says x (read_at s images n d)) (sym (st.others t ne)) (told.says t d n here there2))
          (cases_eq t a.ticket));
      bytes = λ p n d here.
          subst (λ (xs : List (Option Source)). IfSome (get_or xs p None) (λ source. IsAt layout.copies source.copy d → read_at s images n d ≡ Ok source.bytes))
          (sym sources) (told.bytes p n d here);
    }

kept_if_true : (P : Source → Type 0) (all : Bool) (kept : Option Source) (source : Source) → IfSome kept P → P source → IfSome (kept_after all kept source) P
kept_if_true P true kept source h k = tt
kept_if_true P false None source h k = k
kept_if_true P false (Some earlier) source h k = by (nat_lt earlier.copy source.copy)
  where
    by : (b : Bool) → P (lesser b earlier source)
    by true = h
    by false = k

pub true_good : (s : Setting) (images : Images) (layout : Layout) (h new : Heard) (a : Answered) (c : CopyAt) (m : Numbered) (all : Bool) (source : Source)
    → IsHeard layout h → IsHearable layout (mark_at h) a → IsAt layout.copies a.ticket c → IsAt layout.pieces c.piece m
    → new.marks.items ≡ set h.marks.items a.ticket Good
    → new.sources.items ≡ set h.sources.items c.piece (kept_after all (source_at h c.piece) source) → source.copy ≡ a.ticket
    → Some source.bytes ≡ found_good (seen m.piece) (found_with a.error (take (seen m.piece).size a.bytes))
    → IsTruthful s images layout a → IsTrueOf s images layout h → IsTrueOf s images layout new
true_good s images layout h new a c m all source heard able at piece_at marks sources ticket some truth told =
    let there = able.there in
    let count = heard.marks in
    let st : Sets (mark_at h) (λ (i : ℕ). get_or (set h.marks.items a.ticket Good) i Out) a.ticket Good = sets_of h.marks.items a.ticket Good (omega arith) able.out in
    let read : read_at s images m c ≡ Ok source.bytes =
    judged_good (seen m.piece) (read_leaf s false images (seen m.piece).size c.spot) source.bytes
    (sym (some ∙ ap (found_good (seen m.piece)) (truth c m at piece_at))) in
    let same : (t : ℕ) (d : CopyAt) (n : Numbered) → t ≡ a.ticket → IsAt layout.copies t d → IsAt layout.pieces d.piece n → read_at s images n d ≡ Ok source.bytes =
    λ t d n e here there2.
    let dc : c ≡ d = at_same layout.copies a.ticket c d at (subst (λ (k : ℕ). IsAt layout.copies k d) e here) in
    let mn : m ≡ n = at_same layout.pieces c.piece m n piece_at (subst (λ (x : CopyAt). IsAt layout.pieces x.piece n) (sym dc) there2) in
    subst (λ (x : Numbered). read_at s images x d ≡ Ok source.bytes) mn (subst (λ (x : CopyAt). read_at s images m x ≡ Ok source.bytes) dc read) in
    record {
      says = λ t d n here there2.
          subst (λ (xs : List Mark). Says (get_or xs t Out) (read_at s images n d)) (sym marks)
          (⊎_elim
          (λ (e : t ≡ a.ticket).
          subst (λ (x : Mark). Says x (read_at s images n d)) (sym (ap (λ (k : ℕ). get_or (set h.marks.items a.ticket Good) k Out) e ∙ st.here))
          (subst (Says Good) (sym (same t d n e here there2)) tt))
          (λ (ne : t ≢ a.ticket). subst (λ (x : Mark). Says x (read_at s images n d)) (sym (st.others t ne)) (told.says t d n here there2))
          (cases_eq t a.ticket));
      bytes = λ p n d here.
          subst (λ (xs : List (Option Source)). IfSome (get_or xs p None) (λ src. IsAt layout.copies src.copy d → read_at s images n d ≡ Ok src.bytes))
          (sym sources)
          (⊎_elim
          (λ (e : p ≡ c.piece).
          let at_piece : IsAt layout.pieces c.piece n = subst (λ (k : ℕ). IsAt layout.pieces k n) e here in
          let w = at_piece.within in
          let inside : c.piece < length h.sources.items = let q = heard.sources in omega arith in
          let stored : get_or (set h.sources.items c.piece (kept_after all (source_at h c.piece) source)) p None ≡ kept_after all (source_at h c.piece) source =
          ap (λ (k : ℕ). get_or (set h.sources.items c.piece (kept_after all (source_at h c.piece) source)) k None) e
          ∙ get_or-set_same h.sources.items c.piece (kept_after all (source_at h c.piece) source) None inside in
          subst (λ (o : Option Source). IfSome o (λ src. IsAt layout.copies src.copy d → read_at s images n d ≡ Ok src.bytes)) (sym stored)
          (kept_if_true (λ (src : Source). IsAt layout.copies src.copy d → read_at s images n d ≡ Ok src.bytes) all (source_at h c.piece) source
          (subst (λ (k : ℕ). IfSome (source_at h k) (λ src. IsAt layout.copies src.copy d → read_at s images n d ≡ Ok src.bytes)) e (told.bytes p n d here))
          (λ there2.
          let spot : IsAt layout.copies a.ticket d = subst (λ (k : ℕ). IsAt layout.copies k d) ticket there2 in
          let dc : c ≡ d = at_same layout.copies a.ticket c d at spot in
          same a.ticket d n refl spot (subst (λ (x : CopyAt). IsAt layout.pieces x.piece n) dc at_piece))))
          (λ (ne : p ≢ c.piece).
          subst (λ (o : Option Source). IfSome o (λ src. IsAt layout.copies src.copy d → read_at s images n d ≡ Ok src.bytes))
          (sym (get_or-set_other h.sources.items c.piece p (kept_after all (source_at h c.piece) source) None ne)) (told.bytes p n d here))
          (cases_eq p c.piece));
    }

-- ---- whether all are good

dropped : (f : ℕ) (ms : List Mark) (i : ℕ) → f + i < length ms → (i < length (drop f ms) → get_or (drop f ms) i Out ≡ Good)
    → get_or ms (f + i) Out ≡ Good
dropped zero ms i l h = let e : i ≡ 0 + i = omega arith in subst (λ (k : ℕ). get_or ms k Out ≡ Good) e (h (omega arith))
dropped (suc f) [] i l h = absurd (omega arith)
dropped (suc f) (m ∷ ms) i l h =
    let e : suc (f + i) ≡ suc f + i = omega arith in
    subst (λ (k : ℕ). get_or (m ∷ ms) k Out ≡ Good) e (dropped f ms i (omega arith) h)

pub at_default : {X : Type 0} (xs : List X) (i : ℕ) (d : X) → i < length xs → IsAt xs i (get_or xs i d)
at_default xs i d l = record { within = l; is = sym (got xs i d l) }
  where
    got : {X : Type 0} (xs : List X) (i : ℕ) (d : X) → i < length xs → get_or xs i d ≡ get_or xs i (get_or xs i d)
    got [] i d l = absurd (omega arith)
    got (x ∷ xs) zero d l = refl
    got (x ∷ xs) (suc i) d l = got xs i d (omega arith)

pub every_good : (marks : List Mark) (first count : ℕ) → first + count ≤ length marks → all_good (take count (drop first marks)) ≡ true
    → (i : ℕ) → i < count → get_or marks (first + i) Out ≡ Good
every_good marks first count l e i below =
    dropped first marks i (omega arith) (taken count (drop first marks) i below e)
  where
    split : (a b : Bool) → (a && b) ≡ true → (a ≡ true) × (b ≡ true)
    split true b e = (refl, e)
    split false b e = absurd (let no : ⊥ = cc in no)

    taken : (n : ℕ) (ms : List Mark) (i : ℕ) → i < n → all_good (take n ms) ≡ true → (i < length ms → get_or ms i Out ≡ Good)
    taken zero ms i l e = λ k. absurd (omega arith)
    taken (suc n) [] i l e = λ k. absurd (omega arith)
    taken (suc n) (m ∷ ms) zero l e = λ k. good_is m (split (is_good m) (all_good (take n ms)) e).0
    taken (suc n) (m ∷ ms) (suc i) l e = λ k. taken n ms i (omega arith) (split (is_good m) (all_good (take n ms)) e).1 (omega arith)

pub every_slice : (marks : List Mark) (t first count : ℕ) (seen : List Mark) → seen ≡ set marks t Good → first + count ≤ length marks
    → all_good (take (first + count - first) (drop first seen)) ≡ true → (i : ℕ) → i < count → get_or (set marks t Good) (first + i) Out ≡ Good
every_slice marks t first count got is within every i l =
    let n : first + count - first ≡ count = omega arith in
    every_good (set marks t Good) first count (omega (arith, length-set marks t Good))
    (subst (λ (k : ℕ). all_good (take k (drop first (set marks t Good))) ≡ true) n
    (subst (λ (xs : List Mark). all_good (take (first + count - first) (drop first xs)) ≡ true) is every)) i l

pub stored : (sources : List (Option Source)) (p q : ℕ) (all : Bool) (was now : Option Source) (source : Source) → p ≡ q → p < length sources
    → was ≡ get_or sources p was → now ≡ kept_after all was source
    → set sources p now ≡ set sources q (kept_after all (get_or sources q None) source)
stored sources p q all was now source e l is kept =
    let v : was ≡ get_or sources p None = get_or_read sources p was l is None in
    ap (λ (x : Option Source). set sources p x) (kept ∙ ap (λ (o : Option Source). kept_after all o source) v)
    ∙ ap (λ (k : ℕ). set sources k (kept_after all (get_or sources k None) source)) e
