-- Reads under way.
use Rattle.std.proofs.Common.{◌≡◌, ℕ, ◌+◌, ◌<◌, ◌≤◌, List, [], ◌∷◌, length, map, take, Bool, true, false, ◌&&◌, ◌||◌, not, cond, filter, Option, Result, Ok, Err, refl, sym, ap, subst, ◌∙◌, arith, Contains}
use Rattle.std.specs.Prelude.{◌==◌, slice_index_or}
use Rattle.std.specs.List.{AllByRecursion}
use Rattle.std.proofs.lemmas.Bool.Decides.{nat_tests}
use Rattle.std.proofs.lemmas.List.{get_or_read}
use Rattle.zio_types.specs.declared.error.Errno.{Errno}
use Rattle.zio_vqueue.specs.declared.op.Op.{Op}
use Rattle.zio_vqueue.specs.Queues.{AreApart, FitsDevice, end_of, is_queued}
use Rattle.zio_cksum.specs.Images.{Images, Setting, read_leaf}
use Rattle.zio_cksum.proofs.AllLemmas.{all_contains, all_weaker}
use Rattle.zio_disks.specs.Disks.{Tell, found_with}
use Rattle.zio_groups.specs.declared.waiting.Answered.{Answered}
use Rattle.zio_groups.specs.declared.waiting.QueuedOp.{QueuedOp}
use Rattle.zio_groups.specs.Issued.{AreWhole, EndsOn, OneIssued, all_issued, head_of, issued_by, one_issued, read_answered, spot_of, written_spots}
use Rattle.zio_groups.specs.LeafQueues.{Waits, ops_of, waiting_with}
use Rattle.zio_groups.proofs.ByteLemmas.{found_front}
use Rattle.zio_scrub.specs.declared.heard.Mark.{Mark}
use Rattle.zio_scrub.specs.declared.layout.CopyAt.{CopyAt}
use Rattle.zio_scrub.specs.declared.layout.Layout.{Layout}
use Rattle.zio_scrub.specs.declared.layout.Numbered.{Numbered}
use Rattle.zio_scrub.specs.Layouts.{FitsQueue, LiesOnDisks}
use Rattle.zio_scrub.specs.Pieces.{seen}
use Rattle.zio_scrub.specs.Queues.{AllWait, AreIssued, HaveAll, IsPut, waiting_at, waits_at}
use Rattle.zio_scrub.specs.Reads.{AreHearable, AreOut, IsAt, IsReadOf, IsSound, IsTruthful, is_answered, is_out, leaf_at, no_copy, read_op}
use Rattle.zio_scrub.proofs.HearLemmas.{at_same}
use Rattle.zio_scrub.proofs.PickLemmas.{all_got}
use Rattle.zio_scrub.proofs.WaitLemmas.{have_more, numbers_left, picked_waits}

pub leaf_is : (copies : List CopyAt) (n : ℕ) (c : CopyAt) → IsAt copies n c → leaf_at copies n ≡ c.spot.leaf
leaf_is copies n c at = ap (λ (x : CopyAt). x.spot.leaf) (sym (get_or_read copies n c at.within (sym at.is) no_copy))

-- ---- a read that is put

pub fits_at : (leaves : ℕ) (copies : List CopyAt) (n : ℕ) (c : CopyAt) → AllByRecursion (λ (x : CopyAt). FitsQueue leaves x.spot) copies → IsAt copies n c
    → FitsQueue leaves c.spot
fits_at leaves copies n c fits at = all_got (λ (x : CopyAt). FitsQueue leaves x.spot) copies n c at.within at.is fits

waits_for : (copies : List CopyAt) (n : ℕ) (c : CopyAt) (op : Op) (bytes : List ℕ) → IsAt copies n c → op ≡ read_op n c.spot
    → IsReadOf copies c.spot.leaf (waiting_with op bytes)
waits_for copies n c op bytes at is =
    subst (λ (o : Op). IsReadOf copies c.spot.leaf (waiting_with o bytes)) (sym is)
    (record { copy = c; at = at; here = refl; op = refl })

pub read_put : (copies : List CopyAt) (n m : ℕ) (c : CopyAt) (op : Op) (bytes : List ℕ) (old new : List Waits) → IsAt copies n c → op ≡ read_op n c.spot
    → IsPut c.spot.leaf (waiting_with op bytes) old new → HaveAll (IsReadOf copies) (leaf_at copies) n old → m ≡ n + 1
    → HaveAll (IsReadOf copies) (leaf_at copies) m new
read_put copies n m c op bytes old new at is put have more =
    have_more (IsReadOf copies) (leaf_at copies) n m c.spot.leaf (waiting_with op bytes) old new have put
    (ap (λ (o : Op). o.ticket) is) (leaf_is copies n c at) more (waits_for copies n c op bytes at is)

pub op_fits : (leaves n : ℕ) (c : CopyAt) (op : Op) → FitsQueue leaves c.spot → op ≡ read_op n c.spot → FitsDevice op
op_fits leaves n c op fits is = subst FitsDevice (sym is) fits.device

-- ---- a group

pub ends_on : (sizes : List ℕ) (copies : List CopyAt) (leaves : List Waits) → AllByRecursion (λ (c : CopyAt). LiesOnDisks sizes c.spot) copies
    → AllWait (IsReadOf copies) leaves → AllWait (EndsOn sizes) leaves
ends_on sizes copies leaves lies all = λ leaf.
    all_weaker (IsReadOf copies leaf) (EndsOn sizes leaf) (waiting_at leaves leaf) (λ w r. one leaf w r) (all leaf)
  where
    one : (leaf : ℕ) (w : QueuedOp) → IsReadOf copies leaf w → EndsOn sizes leaf w
    one leaf w r =
        let f : LiesOnDisks sizes r.copy.spot = all_got (λ (c : CopyAt). LiesOnDisks sizes c.spot) copies w.op.ticket r.copy r.at.within r.at.is lies in
        subst (λ (o : Op). end_of o ≤ slice_index_or sizes leaf 0) (sym r.op)
        (subst (λ (k : ℕ). r.copy.spot.at + r.copy.spot.span ≤ slice_index_or sizes k 0) r.here f)

is_read : (copies : List CopyAt) (leaf : ℕ) (w : QueuedOp) → IsReadOf copies leaf w → w.op.write ≡ false
is_read copies leaf w r = ap (λ (o : Op). o.write) r.op

-- reads write nowhere
pub no_spots : (copies : List CopyAt) (leaf : ℕ) (ws : List QueuedOp) → AllByRecursion (IsReadOf copies leaf) ws → written_spots leaf ws ≡ []
no_spots copies leaf [] h = refl
no_spots copies leaf (w ∷ ws) h =
    ap (λ (b : Bool). map (λ (v : QueuedOp). spot_of leaf v.op) (cond b (w ∷ filter (λ (v : QueuedOp). v.op.write) ws) (filter (λ (v : QueuedOp). v.op.write) ws)))
    (is_read copies leaf w h.0)
    ∙ no_spots copies leaf ws h.1

one_read : (s : Setting) (leaf : ℕ) (w : QueuedOp) (images : Images) → w.op.write ≡ false
    → one_issued s leaf w images ≡ record { answer = read_answered w.op.ticket (read_leaf s w.op.flags.retry images w.op.len (spot_of leaf w.op)); images = images }
one_read s leaf w images e = ap (λ (b : Bool). issued_by b s leaf w images) e

-- reads change no image
pub reads_keep : (s : Setting) (copies : List CopyAt) (leaf : ℕ) (ws : List QueuedOp) (images : Images) → AllByRecursion (IsReadOf copies leaf) ws
    → (all_issued s leaf ws images).images ≡ images
reads_keep s copies leaf [] images h = refl
reads_keep s copies leaf (w ∷ ws) images h =
    let one : (one_issued s leaf w images).images ≡ images = ap (λ (x : OneIssued). x.images) (one_read s leaf w images (is_read copies leaf w h.0)) in
    ap (λ (now : Images). (all_issued s leaf ws now).images) one ∙ reads_keep s copies leaf ws images h.1

-- what is answered of these is what reads over the images give
pub truthful : (s : Setting) (layout : Layout) (leaf : ℕ) (ws : List QueuedOp) (images : Images) → IsSound layout
    → AllByRecursion (IsReadOf layout.copies leaf) ws → AllByRecursion (IsTruthful s images layout) (all_issued s leaf ws images).answers
truthful s layout leaf [] images sound h = tt
truthful s layout leaf (w ∷ ws) images sound h =
    let step = one_read s leaf w images (is_read layout.copies leaf w h.0) in
    let one : (one_issued s leaf w images).images ≡ images = ap (λ (x : OneIssued). x.images) step in
    let answer : (one_issued s leaf w images).answer ≡ read_answered w.op.ticket (read_leaf s w.op.flags.retry images w.op.len (spot_of leaf w.op)) =
    ap (λ (x : OneIssued). x.answer) step in (
      subst (IsTruthful s images layout) (sym answer) first,
      subst (λ (now : Images). AllByRecursion (IsTruthful s images layout) (all_issued s leaf ws now).answers) (sym one)
          (truthful s layout leaf ws images sound h.1),
    )
  where
    r : IsReadOf layout.copies leaf w
    r = h.0

    by_op : (t : ℕ) (c : CopyAt) (n : Numbered) → (seen n.piece).size ≤ c.spot.span
        → found_with (read_answered t (read_leaf s false images c.spot.span c.spot)).error
        (take (seen n.piece).size (read_answered t (read_leaf s false images c.spot.span c.spot)).bytes)
        ≡ read_leaf s false images (seen n.piece).size c.spot
    by_op t c n room = found_front s false images t (seen n.piece).size c.spot (read_answered t (read_leaf s false images c.spot.span c.spot)) room refl

    asked : read_answered w.op.ticket (read_leaf s w.op.flags.retry images w.op.len (spot_of leaf w.op))
        ≡ read_answered w.op.ticket (read_leaf s false images r.copy.spot.span r.copy.spot)
    asked =
        ap (λ (o : Op). read_answered w.op.ticket (read_leaf s o.flags.retry images o.len (spot_of leaf o))) r.op
        ∙ ap (λ (k : ℕ). read_answered w.op.ticket (read_leaf s false images r.copy.spot.span (record { leaf = k; at = r.copy.spot.at; span = r.copy.spot.span }))) (sym r.here)

    ticket : (x : Result (List ℕ) Errno) (t : ℕ) → (read_answered t x).ticket ≡ t
    ticket (Ok b) t = refl
    ticket (Err e) t = refl

    first : IsTruthful s images layout (read_answered w.op.ticket (read_leaf s w.op.flags.retry images w.op.len (spot_of leaf w.op)))
    first = subst (IsTruthful s images layout) (sym asked) (λ c n at it.
        let here : IsAt layout.copies w.op.ticket c =
        subst (λ (k : ℕ). IsAt layout.copies k c) (ticket (read_leaf s false images r.copy.spot.span r.copy.spot) w.op.ticket) at in
        let same : r.copy ≡ c = at_same layout.copies w.op.ticket r.copy c r.at here in
        subst (λ (x : CopyAt). found_with (read_answered w.op.ticket (read_leaf s false images x.spot.span x.spot)).error
        (take (seen n.piece).size (read_answered w.op.ticket (read_leaf s false images x.spot.span x.spot)).bytes)
        ≡ read_leaf s false images (seen n.piece).size c.spot) (sym same)
        (by_op w.op.ticket c n (sound.room w.op.ticket c n here it)))

-- ---- answers in turn

-- once the first is heard the others are still out
pub hearable_next : (layout : Layout) (old new : ℕ → Mark) (a : Answered) (answers : List Answered)
    → ((t : ℕ) → is_out (new t) ≡ (is_out (old t) && not (a.ticket == t)))
    → AllByRecursion (λ (b : Answered). (b.ticket == a.ticket) ≡ false) answers → AreHearable layout old answers → AreHearable layout new answers
hearable_next layout old new a [] marks apart h = tt
hearable_next layout old new a (b ∷ answers) marks apart h = (
  record {
    there = h.0.there;
    out = marks b.ticket ∙ both (is_out (old b.ticket)) (a.ticket == b.ticket) h.0.out (turned b.ticket a.ticket apart.0);
    whole = h.0.whole;
  },
  h.1,
  hearable_next layout old new a answers marks apart.1 h.2,
)
  where
    both : (a b : Bool) → a ≡ true → b ≡ false → (a && not b) ≡ true
    both a b e f = (λ i. e i && not (f i))

    turned : (a b : ℕ) → (a == b) ≡ false → (b == a) ≡ false
    turned a b e = grind (arith, nat_tests)

pub marks_next : (old now : Bool) (a : Answered) (answers : List Answered) (t : ℕ) → now ≡ (old && not (a.ticket == t))
    → (now && not (is_answered t answers)) ≡ (old && not (is_answered t (a ∷ answers)))
marks_next old now a answers t e =
    ap (λ (b : Bool). b && not (is_answered t answers)) e ∙ by old (a.ticket == t) (is_answered t answers)
  where
    by : (q a b : Bool) → ((q && not a) && not b) ≡ (q && not (a || b))
    by true true b = refl
    by true false b = refl
    by false a b = refl

pub none_more : (b : Bool) → (b && not false) ≡ b
none_more true = refl
none_more false = refl

-- ---- a group under way

same_tickets : (xs ys : List Answered) → map head_of xs ≡ map head_of ys → (t : ℕ) → is_answered t xs ≡ is_answered t ys
same_tickets [] [] e t = refl
same_tickets [] (y ∷ ys) e t = absurd (let no : ⊥ = cc in no)
same_tickets (x ∷ xs) [] e t = absurd (let no : ⊥ = cc in no)
same_tickets (x ∷ xs) (y ∷ ys) e t =
    let first : head_of x ≡ head_of y = cc in
    let others : map head_of xs ≡ map head_of ys = cc in
    let ticket : x.ticket ≡ y.ticket = ap (λ (p : ℕ × Option Errno). p.0) first in
    let rest : is_answered t xs ≡ is_answered t ys = same_tickets xs ys others t in
    (λ i. (ticket i == t) || rest i)

-- the answers, with the operations that they answer
abbrev AreFor : List QueuedOp → List Answered → Type 0
AreFor [] [] = Unit {0}
AreFor [] (b ∷ bs) = ⊥
AreFor (w ∷ ws) [] = ⊥
AreFor (w ∷ ws) (b ∷ bs) = (b.ticket ≡ w.op.ticket) × AreFor ws bs

read_ticket : (t : ℕ) (r : Result (List ℕ) Errno) → (read_answered t r).ticket ≡ t
read_ticket t (Ok b) = refl
read_ticket t (Err e) = refl

are_for : (s : Setting) (copies : List CopyAt) (leaf : ℕ) (ws : List QueuedOp) (images : Images) (answers : List Answered) → AllByRecursion (IsReadOf copies leaf) ws
    → map head_of answers ≡ map head_of (all_issued s leaf ws images).answers → AreFor ws answers
are_for s copies leaf [] images [] h e = tt
are_for s copies leaf [] images (b ∷ bs) h e = let no : ⊥ = cc in absurd no
are_for s copies leaf (w ∷ ws) images [] h e = let no : ⊥ = cc in absurd no
are_for s copies leaf (w ∷ ws) images (b ∷ bs) h e =
    let step = one_read s leaf w images (is_read copies leaf w h.0) in
    let first : head_of b ≡ head_of (one_issued s leaf w images).answer = cc in
    let others : map head_of bs ≡ map head_of (all_issued s leaf ws (one_issued s leaf w images).images).answers = cc in (
      ap (λ (p : ℕ × Option Errno). p.0) first ∙ ap (λ (x : OneIssued). x.answer.ticket) step
          ∙ read_ticket w.op.ticket (read_leaf s w.op.flags.retry images w.op.len (spot_of leaf w.op)),
      are_for s copies leaf ws (one_issued s leaf w images).images bs h.1 others,
    )

answered_as : (ws : List QueuedOp) (answers : List Answered) → AreFor ws answers → (t : ℕ) → is_answered t answers ≡ is_queued t (ops_of ws)
answered_as [] [] h t = refl
answered_as [] (b ∷ bs) h t = absurd h
answered_as (w ∷ ws) [] h t = absurd h
answered_as (w ∷ ws) (b ∷ bs) h t =
    let first : b.ticket ≡ w.op.ticket = h.0 in
    let rest : is_answered t bs ≡ is_queued t (ops_of ws) = answered_as ws bs h.1 t in
    (λ i. (first i == t) || rest i)

apart_of : (t : ℕ) (ws : List QueuedOp) (answers : List Answered) → AreFor ws answers → is_queued t (ops_of ws) ≡ false
    → AllByRecursion (λ (b : Answered). (b.ticket == t) ≡ false) answers
apart_of t [] [] h e = tt
apart_of t [] (b ∷ bs) h e = absurd h
apart_of t (w ∷ ws) [] h e = absurd h
apart_of t (w ∷ ws) (b ∷ bs) h e =
    let both = neither (w.op.ticket == t) (is_queued t (ops_of ws)) e in
    (subst (λ (k : ℕ). (k == t) ≡ false) (sym h.0) both.0, apart_of t ws bs h.1 both.1)
  where
    neither : (a b : Bool) → (a || b) ≡ false → (a ≡ false) × (b ≡ false)
    neither true b e = let no : ⊥ = cc in absurd no
    neither false b e = (refl, e)

pub hearable_group : (layout : Layout) (leaf : ℕ) (mark : ℕ → Mark) (ws : List QueuedOp) (answers : List Answered) → AllByRecursion (IsReadOf layout.copies leaf) ws
    → AreFor ws answers → AreApart (ops_of ws) → AreWhole ws answers → AllByRecursion (λ (w : QueuedOp). is_out (mark w.op.ticket) ≡ true) ws
    → AreHearable layout mark answers
hearable_group layout leaf mark [] [] h f apart whole out = tt
hearable_group layout leaf mark [] (b ∷ bs) h f apart whole out = absurd f
hearable_group layout leaf mark (w ∷ ws) [] h f apart whole out = absurd f
hearable_group layout leaf mark (w ∷ ws) (b ∷ bs) h f apart whole out = (
  record {
    there = subst (λ (k : ℕ). k < length layout.copies) (sym f.0) h.0.at.within;
    out = subst (λ (k : ℕ). is_out (mark k) ≡ true) (sym f.0) out.0;
    whole = λ c at none.
        let here : IsAt layout.copies w.op.ticket c = subst (λ (k : ℕ). IsAt layout.copies k c) f.0 at in
        let same : h.0.copy ≡ c = at_same layout.copies w.op.ticket h.0.copy c h.0.at here in
        whole.0 (is_read layout.copies leaf w h.0) none ∙ ap (λ (o : Op). o.len) h.0.op ∙ ap (λ (x : CopyAt). x.spot.span) same;
  },
  subst (λ (k : ℕ). AllByRecursion (λ (x : Answered). (x.ticket == k) ≡ false) bs) (sym f.0) (apart_of w.op.ticket ws bs f.1 apart.0),
  hearable_group layout leaf mark ws bs h.1 f.1 apart.1 whole.1 out.1,
)

-- what is known of a group of reads
pub record IsReadGroup (s : Setting) (layout : Layout) (leaf : ℕ) (mark : ℕ → Mark) (new : List Waits) (answers : List Answered) : Type 0 where
  pub hearable : AreHearable layout mark answers
  pub outs : (t : ℕ) → t < length layout.copies → waits_at new (leaf_at layout.copies t) t ≡ (is_out (mark t) && not (is_answered t answers))

pub read_group : {D : Type 0} (image : D → List ℕ → Type 0) (s : Setting) (layout : Layout) (leaf : ℕ) (mark : ℕ → Mark) (old new : List Waits)
    (before after : List D) (answers : List Answered) → AllWait (IsReadOf layout.copies) old → AreOut layout.copies mark old
    → AreIssued image s leaf old new before after answers → IsReadGroup s layout leaf mark new answers
read_group image s layout leaf mark old new before after answers all out h =
    let are : AllByRecursion (IsReadOf layout.copies leaf) h.members =
    all_weaker (Contains (waiting_at old leaf)) (IsReadOf layout.copies leaf) h.members
    (λ w c. all_contains (IsReadOf layout.copies leaf) (waiting_at old leaf) w (all leaf) c) h.among in
    let for = are_for s layout.copies leaf h.members [] answers are (h.heads []) in
    let leafs : AllByRecursion (λ (w : QueuedOp). leaf_at layout.copies w.op.ticket ≡ leaf) h.members =
    all_weaker (IsReadOf layout.copies leaf) (λ (w : QueuedOp). leaf_at layout.copies w.op.ticket ≡ leaf) h.members
    (λ w r. leaf_is layout.copies w.op.ticket r.copy r.at ∙ r.here) are in
    record {
      hearable = hearable_group layout leaf mark h.members answers are for h.apart h.whole
          (all_weaker (Contains (waiting_at old leaf)) (λ (w : QueuedOp). is_out (mark w.op.ticket) ≡ true) h.members
          (λ w c.
          let r : IsReadOf layout.copies leaf w = all_contains (IsReadOf layout.copies leaf) (waiting_at old leaf) w (all leaf) c in
          sym (out w.op.ticket r.at.within)
          ∙ subst (λ (k : ℕ). waits_at old k w.op.ticket ≡ true) (sym (leaf_is layout.copies w.op.ticket r.copy r.at ∙ r.here)) (picked_waits (waiting_at old leaf) w c))
          h.among);
      outs = λ t l.
          numbers_left image s (leaf_at layout.copies) leaf old new before after answers h leafs t
          ∙ (λ i. out t l i && not (sym (answered_as h.members answers for t) i));
    }

-- for images that the disks told the answers are true, and the disks tell them still
pub group_told : {D : Type 0} (image : D → List ℕ → Type 0) (s : Setting) (layout : Layout) (leaf : ℕ) (old new : List Waits)
    (before after : List D) (answers : List Answered) (images : Images) → IsSound layout → AllWait (IsReadOf layout.copies) old
    → AreIssued image s leaf old new before after answers → Tell image before images
    → AllByRecursion (IsTruthful s images layout) answers × Tell image after images
group_told image s layout leaf old new before after answers images sound all h told =
    let are : AllByRecursion (IsReadOf layout.copies leaf) h.members =
    all_weaker (Contains (waiting_at old leaf)) (IsReadOf layout.copies leaf) h.members
    (λ w c. all_contains (IsReadOf layout.copies leaf) (waiting_at old leaf) w (all leaf) c) h.among in
    let t = h.told images told in (
      subst (λ (xs : List Answered). AllByRecursion (IsTruthful s images layout) xs) (sym t.0) (truthful s layout leaf h.members images sound are),
      subst (Tell image after) (reads_keep s layout.copies leaf h.members images are) t.1,
    )

pub none_left : (copies : List CopyAt) (leaves : List Waits) (t : ℕ) → ((leaf : ℕ) → waiting_at leaves leaf ≡ []) → waits_at leaves (leaf_at copies t) t ≡ false
none_left copies leaves t none = ap (λ (ws : List QueuedOp). is_queued t (ops_of ws)) (none (leaf_at copies t))
