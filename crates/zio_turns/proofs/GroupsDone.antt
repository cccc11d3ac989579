-- A group that was issued: its operations were done one after another.
use Rattle.std.proofs.Common.{◌≡◌, ℕ, suc, ◌+◌, ◌-◌, ◌<◌, ◌≤◌, List, [], ◌∷◌, length, map, take, Bool, true, false, Option, Result, Ok, Err, inl, inr, refl, sym, ap, subst, ◌∙◌, arith, Contains, replicate}
use Rattle.std.specs.Prelude.{nat_le, slice_index_or, slice_set}
use Rattle.std.specs.List.{AllByRecursion}
use Rattle.std.proofs.lemmas.Bool.{cases_Bool, leb-false, leb-true}
use Rattle.std.proofs.lemmas.List.{length-take, take-append-le, take-take, take_all}
use Rattle.zio_types.specs.declared.error.Errno.{Errno}
use Rattle.zio_vqueue.specs.declared.op.Op.{Op}
use Rattle.zio_vqueue.specs.Queues.{AreApart}
use Rattle.zio_cksum.specs.Images.{Images, Setting, Spot, Written, met, padded_to, read_leaf, write_leaf, write_met}
use Rattle.zio_groups.specs.declared.waiting.Answered.{Answered}
use Rattle.zio_groups.specs.declared.waiting.QueuedOp.{QueuedOp}
use Rattle.zio_groups.specs.Issued.{all_issued, front_of, head_of, issued_by, one_issued, read_answered, spot_of}
use Rattle.zio_groups.specs.LeafQueues.{IsIssued, Waits, ops_of, waiting_without}
use Rattle.zio_groups.proofs.ByteLemmas.{read_front}
use Rattle.zio_groups.proofs.GroupLemmas.{members_apart, span_some}
use Rattle.zio_trace.specs.Leaves.{Fetch, LeafOp, Store, answer_of, on_leaf}
use Rattle.zio_exchange.specs.LeafOps.{IsOpAt}
use Rattle.zio_turns.specs.AtLeaves.{AreDone, AreIssued, WaitForAll, WaitsFor, key_of, keyed, keys_at, keys_in, keys_of, no_waits}
use Rattle.zio_staged.specs.Entries.{times_in}
use Rattle.zio_staged.specs.Stages.{ShowsAnswer}
use Rattle.zio_turns.proofs.KeyTimes.{here_set, others_set, times_one, times_set}
use Rattle.zio_turns.proofs.TakenKeys.{keys_leave, once_apart, still_among}

-- ---- one operation

spot_is : (write retry : Bool) (spot : Spot) (leaf : ℕ) (op : Op) → IsOpAt write retry spot (keyed 0 op) leaf
    → spot_of leaf op ≡ spot
spot_is write retry spot leaf op h = λ i. record { leaf = h.on i; at = h.at i; span = h.len i }

shows_read : (retry : Bool) (len : ℕ) (spot : Spot) (ticket : ℕ) (r a : Result (List ℕ) Errno) → a ≡ front_of len r
    → ShowsAnswer (Fetch retry len spot) (read_answered ticket r).error (read_answered ticket r).bytes a
shows_read retry len spot ticket (Ok bytes) a h = h
shows_read retry len spot ticket (Err e) a h = h

-- only the first bytes are written, as many as the place has
cut_padded : (span : ℕ) (bytes : List ℕ) → padded_to span (take span bytes) ≡ padded_to span bytes
cut_padded span bytes = elim (cases_Bool (nat_le (length bytes) span)) [
  | inl on ↦ ap (padded_to span) (take_all span bytes (leb-true (length bytes) span on))
  | inr off ↦
      let long : span < length bytes = leb-false (length bytes) span off in
      let whole : span ≤ length (take span bytes) = omega (arith, length-take span bytes) in
      take-append-le span (take span bytes) (replicate (span - length (take span bytes)) 0) whole
      ∙ (take-take span span bytes (omega arith)
      ∙ sym (take-append-le span bytes (replicate (span - length bytes) 0) (omega arith)))
]

-- it answers as its operation does, and leaves what that leaves
pub record IsAsDone (s : Setting) (act : LeafOp) (w : QueuedOp) (leaf : ℕ) (images : Images) : Type 0 where
  pub shows : ShowsAnswer act (one_issued s leaf w images).answer.error (one_issued s leaf w images).answer.bytes
      (on_leaf s act images).value
  pub leaves : (one_issued s leaf w images).images ≡ (on_leaf s act images).images

abbrev IsAsDoneIf : Bool → Setting → LeafOp → QueuedOp → ℕ → Images → Type 0
IsAsDoneIf b s act w leaf images =
    ShowsAnswer act (issued_by b s leaf w images).answer.error (issued_by b s leaf w images).answer.bytes
    (on_leaf s act images).value
    × ((issued_by b s leaf w images).images ≡ (on_leaf s act images).images)

one_done : (s : Setting) (act : LeafOp) (w : QueuedOp) (leaf : ℕ) (images : Images) → WaitsFor leaf act w
    → IsAsDone s act w leaf images
one_done s (Fetch retry len spot) w leaf images h =
    let both = subst (λ (b : Bool). IsAsDoneIf b s (Fetch retry len spot) w leaf images) (sym h.0.direction) (read, refl) in
    record { shows = both.0; leaves = both.1 }
  where
    read : ShowsAnswer (Fetch retry len spot) (issued_by false s leaf w images).answer.error
        (issued_by false s leaf w images).answer.bytes (read_leaf s retry images len spot)
    read =
        let same : read_leaf s w.op.flags.retry images w.op.len (spot_of leaf w.op) ≡ read_leaf s retry images spot.span spot =
        λ i. read_leaf s (h.0.pass i) images (h.0.len i) (spot_is false retry spot leaf w.op h.0 i) in
        shows_read retry len spot w.op.ticket (read_leaf s w.op.flags.retry images w.op.len (spot_of leaf w.op))
        (read_leaf s retry images len spot)
        (read_front s retry images len spot h.1 ∙ sym (ap (front_of len) same))
one_done s (Store retry bytes spot) w leaf images h =
    let both = subst (λ (b : Bool). IsAsDoneIf b s (Store retry bytes spot) w leaf images) (sym h.0.direction) (
      sym (ap (λ (x : Written). answer_of x.error) same),
      ap (λ (x : Written). x.images) same,
    ) in
    record { shows = both.0; leaves = both.1 }
  where
    cut : write_leaf s retry (take spot.span bytes) images spot ≡ write_leaf s retry bytes images spot
    cut = ap (λ (b : List ℕ). write_met (met s retry true spot) images spot b) (cut_padded spot.span bytes)

    same : write_leaf s w.op.flags.retry w.bytes images (spot_of leaf w.op) ≡ write_leaf s retry bytes images spot
    same = (λ i. write_leaf s (h.0.pass i) (h.1 i) images (spot_is true retry spot leaf w.op h.0 i)) ∙ cut

-- ---- all of them

pub all_done : (s : Setting) (leaf : ℕ) (acts : List LeafOp) (ws : List QueuedOp) (images : Images) → WaitForAll leaf acts ws
    → AreDone s acts (all_issued s leaf ws images).answers images (all_issued s leaf ws images).images
all_done s leaf [] [] images h = refl
all_done s leaf [] (w ∷ ws) images h = absurd h
all_done s leaf (act ∷ acts) [] images h = absurd h
all_done s leaf (act ∷ acts) (w ∷ ws) images h =
    let one = one_done s act w leaf images h.0 in
    let rest = all_done s leaf acts ws (one_issued s leaf w images).images h.1 in (
      one.shows,
      subst (λ (mid : Images). AreDone s acts (all_issued s leaf ws (one_issued s leaf w images).images).answers mid
          (all_issued s leaf ws (one_issued s leaf w images).images).images)
          one.leaves rest,
    )

ticket_read : (ticket : ℕ) (r : Result (List ℕ) Errno) → (read_answered ticket r).ticket ≡ ticket
ticket_read ticket (Ok bytes) = refl
ticket_read ticket (Err e) = refl

ticket_one : (b : Bool) (s : Setting) (leaf : ℕ) (w : QueuedOp) (images : Images) →
    (issued_by b s leaf w images).answer.ticket ≡ key_of w
ticket_one true s leaf w images = refl
ticket_one false s leaf w images = ticket_read w.op.ticket (read_leaf s w.op.flags.retry images w.op.len (spot_of leaf w.op))

abbrev tickets : List Answered → List ℕ
tickets bs = map (λ (b : Answered). b.ticket) bs

tickets_all : (s : Setting) (leaf : ℕ) (ws : List QueuedOp) (images : Images) → tickets
    (all_issued s leaf ws images).answers ≡ keys_in ws
tickets_all s leaf [] images = refl
tickets_all s leaf (w ∷ ws) images = λ i.
    ticket_one w.op.write s leaf w images i ∷ tickets_all s leaf ws (one_issued s leaf w images).images i

tickets_heads : (bs : List Answered) → map (λ (h : ℕ × Option Errno). h.0) (map head_of bs) ≡ tickets bs
tickets_heads [] = refl
tickets_heads (b ∷ bs) = ap (λ (ts : List ℕ). b.ticket ∷ ts) (tickets_heads bs)

-- ---- a group of one leaf

length_ops : (ws : List QueuedOp) → length (ops_of ws) ≡ length ws
length_ops [] = refl
length_ops (w ∷ ws) = ap suc (length_ops ws)

pub group_done : {D : Type 0} (image : D → List ℕ → Type 0) (s : Setting) (leaves : List Waits) (leaf : ℕ) (now : Waits)
    (before after : List D)
    (answers : List Answered) → leaf < length leaves → ((key : ℕ) → times_in key (keys_at leaves) ≤ 1)
    → IsIssued image s leaf (slice_index_or leaves leaf no_waits) now before after answers
    → length (slice_set leaves leaf now) ≡ length leaves
    → AreIssued image s leaf leaves (slice_set leaves leaf now) before after answers
group_done image s leaves leaf now before after answers there once h count =
    let old = slice_index_or leaves leaf no_waits in
    let now_is : now.waiting ≡ waiting_without (ops_of h.members) old.waiting =
    ap (λ (w : Waits). w.waiting) h.left ∙ ap (λ (os : List Op). waiting_without os old.waiting) (sym h.ops) in
    let here : (key : ℕ) → times_in key (keys_in old.waiting) ≤ 1 = λ key. omega (arith, once key, times_one key leaves leaf) in
    let apart : AreApart (ops_of h.members) =
    subst AreApart (sym h.ops) (members_apart (ops_of old.waiting) h.next.first h.group.ops h.next.members
    (once_apart old.waiting here)) in
    record {
      members = h.members;
      some = omega (arith, span_some h.group h.group.ops h.next.span, ap length h.ops, length_ops h.members);
      among = h.among;
      keys = sym (tickets_heads answers) ∙ (ap (map (λ (p : ℕ × Option Errno). p.0)) (h.heads [])
          ∙ (tickets_heads (all_issued s leaf h.members []).answers ∙ tickets_all s leaf h.members []));
      leave = λ key.
          let set : times_in key (keys_at (slice_set leaves leaf now)) + times_in key (keys_in old.waiting) ≡ times_in key
          (keys_at leaves) + times_in key (keys_of now) =
          times_set key leaves leaf now there in
          let less : times_in key (keys_in old.waiting) ≡ times_in key (keys_in h.members) + times_in key (keys_of now) =
          keys_leave key h.members old.waiting apart (here key) h.among
          ∙ sym (ap (λ (ws : List QueuedOp). times_in key (keys_in h.members) + times_in key (keys_in ws)) now_is) in
          omega (arith, set, less);
      stay = subst (AllByRecursion (Contains old.waiting)) (sym (here_set leaves leaf now there ∙ now_is))
          (still_among h.members old.waiting);
      others = λ other n. others_set leaves leaf other now n;
      count = count;
      done = λ acts images wait told.
          let both = h.told images told in
          let all = all_done s leaf acts h.members images wait in (
            (all_issued s leaf h.members images).images,
            subst (λ (bs : List Answered). AreDone s acts bs images (all_issued s leaf h.members images).images)
                (sym both.0) all,
            both.1,
          );
      whole = h.whole;
    }
