-- Members that are issued as one call answer and leave what they do one after another.
use Rattle.std.proofs.Common.{◌≡◌, ℕ, append_assoc, ◌+◌, ◌-◌, ◌<◌, ◌≤◌, List, [], ◌∷◌, ◌++◌, length, length-append, length-take, length-drop, map, drop, Bool, true, false, Option, Some, None, refl, sym, ap, subst, ◌∙◌, arith, append-nil, is_some}
use Rattle.std.specs.List.{AllByRecursion}
use Rattle.zio_types.specs.declared.error.Errno.{Errno}
use Rattle.zio_faults.specs.declared.table.Hit.{Hit}
use Rattle.zio_faults.specs.Hits.{first_hit}
use Rattle.zio_vqueue.specs.declared.op.Op.{Op}
use Rattle.zio_vqueue.specs.declared.op.Group.{Group}
use Rattle.zio_vqueue.specs.Members.{LiesIn, is_write}
use Rattle.zio_vqueue.specs.Queues.{end_of}
use Rattle.zio_vqueue.specs.Groups.{IsChain, IsRun, IsSpanOf, gap_max, last_of}
use Rattle.zio_cksum.specs.Images.{Images, Setting, Spot, bytes_at, image_of, met, padded_to, read_met, with_bytes, write_met}
use Rattle.zio_cksum.proofs.ByteLemmas.{length-padded_to}
use Rattle.zio_cksum.proofs.AllLemmas.{all_map}
use Rattle.zio_disks.specs.Disks.{Tell}
use Rattle.zio_groups.specs.declared.waiting.QueuedOp.{QueuedOp}
use Rattle.zio_groups.specs.declared.waiting.Answered.{Answered}
use Rattle.zio_groups.specs.Issued.{AllIssued, AreWhole, OneIssued, all_issued, head_of, issued_by, one_issued, read_answered, spot_of, write_answered}
use Rattle.zio_groups.specs.LeafQueues.{AreMembers, ops_of}
use Rattle.zio_groups.specs.Spans.{AreParts, joined, part_answered, span_spot, stored_answered}
use Rattle.zio_groups.proofs.ByteLemmas.{cut, none_within, size_kept, with_behind}
use Rattle.zio_groups.proofs.GroupLemmas.{run_within, span_ends, span_some}

-- ---- no row is met

pub unmet : (s : Setting) (retry write : Bool) (leaf : ℕ) (group : Group) (o : Op) → LiesIn group o → met s false write (span_spot leaf group) ≡ None → met s retry write (spot_of leaf o) ≡ None
unmet s retry write leaf group o lies none =
    none_within s.rows
    (record { leaf = leaf; write = write; at = o.at; len = o.len; point = s.point; retry = retry })
    (record { leaf = leaf; write = write; at = group.at; len = group.len; point = s.point; retry = false })
    refl refl refl refl lies.0 lies.1 none

no_hit : {X : Type 0} (b : Bool) (o : Option X) → b ≡ is_some o → b ≡ false → o ≡ None
no_hit b None e f = refl
no_hit b (Some x) e f = absurd (let k : true ≡ false = sym e ∙ f in cc)

-- a group that isn't to be issued member by member meets none
pub not_lone : (s seen : Setting) (leaf : ℕ) (group : Group) (write b : Bool) → seen ≡ s → is_write group.ops ≡ write → b ≡ false
    → b ≡ is_some (first_hit seen.rows (record { leaf = leaf; write = is_write group.ops; at = group.at; len = group.len; point = seen.point; retry = false }))
    → met s false write (span_spot leaf group) ≡ None
not_lone s seen leaf group write b view same f e =
    ap (λ (t : Setting). met t false write (span_spot leaf group)) (sym view)
    ∙ ap (λ (w : Bool). met seen false w (span_spot leaf group)) (sym same)
    ∙ no_hit b (met seen false (is_write group.ops) (span_spot leaf group)) e f

-- ---- reads

part_read : (s : Setting) (leaf : ℕ) (group : Group) (images : Images) (w : QueuedOp) → w.op.write ≡ false → LiesIn group w.op → met s false false (span_spot leaf group) ≡ None
    → one_issued s leaf w images ≡ record { answer = part_answered group.at (bytes_at images (span_spot leaf group) group.len) w; images = images }
part_read s leaf group images w read lies none =
    let spot : Spot = spot_of leaf w.op in
    ap (λ (b : Bool). issued_by b s leaf w images) read
    ∙ ap (λ (hit : Option Hit). record { answer = read_answered w.op.ticket (read_met hit spot.at (bytes_at images spot w.op.len)); images = images }) (unmet s w.op.flags.retry false leaf group w.op lies none)
    ∙ ap (λ (bytes : List ℕ). record { answer = record { ticket = w.op.ticket; error = None; bytes = bytes }; images = images })
    (sym (cut (image_of images leaf) group.at group.len w.op.at w.op.len lies.0 lies.1))

pub parts_read : (s : Setting) (leaf : ℕ) (group : Group) (images : Images) (ws : List QueuedOp) → AllByRecursion (λ (w : QueuedOp). w.op.write ≡ false) ws → AllByRecursion (LiesIn group) (ops_of ws)
    → met s false false (span_spot leaf group) ≡ None
    → all_issued s leaf ws images ≡ record { answers = map (part_answered group.at (bytes_at images (span_spot leaf group) group.len)) ws; images = images }
parts_read s leaf group images [] reads lie none = refl
parts_read s leaf group images (w ∷ ws) reads lie none =
    ap (λ (one : OneIssued). record { answers = one.answer ∷ (all_issued s leaf ws one.images).answers; images = (all_issued s leaf ws one.images).images })
    (part_read s leaf group images w reads.0 lie.0 none)
    ∙ ap (λ (rest : AllIssued). record { answers = part_answered group.at (bytes_at images (span_spot leaf group) group.len) w ∷ rest.answers; images = rest.images })
    (parts_read s leaf group images ws reads.1 lie.1 none)

pub parts_heads : (at : ℕ) (xs ys : List ℕ) (ws : List QueuedOp) → map head_of (map (part_answered at xs) ws) ≡ map head_of (map (part_answered at ys) ws)
parts_heads at xs ys [] = refl
parts_heads at xs ys (w ∷ ws) = ap (λ (hs : List (ℕ × Option Errno)). (w.op.ticket, None) ∷ hs) (parts_heads at xs ys ws)

pub parts_whole : (group : Group) (bytes : List ℕ) (ws : List QueuedOp) → AllByRecursion (LiesIn group) (ops_of ws) → length bytes ≡ group.len → AreWhole ws (map (part_answered group.at bytes) ws)
parts_whole group bytes [] lie e = tt
parts_whole group bytes (w ∷ ws) lie e =
    let d : ℕ = w.op.at - group.at in
    let lies = lie.0 in
    (λ r n. omega (arith, length-take w.op.len (drop d bytes), length-drop d bytes), parts_whole group bytes ws lie.1 e)

-- ---- writes

part_written : (s : Setting) (leaf : ℕ) (group : Group) (images : Images) (w : QueuedOp) → w.op.write ≡ true → LiesIn group w.op → met s false true (span_spot leaf group) ≡ None
    → one_issued s leaf w images ≡ record { answer = stored_answered w; images = with_bytes images (spot_of leaf w.op) (padded_to w.op.len w.bytes) }
part_written s leaf group images w write lies none =
    let spot : Spot = spot_of leaf w.op in
    ap (λ (b : Bool). issued_by b s leaf w images) write
    ∙ ap (λ (hit : Option Hit). write_answered w.op.ticket (write_met hit images spot (padded_to w.op.len w.bytes))) (unmet s w.op.flags.retry true leaf group w.op lies none)

pub writes_stored : (s : Setting) (leaf : ℕ) (group : Group) (images : Images) (ws : List QueuedOp) → AllByRecursion (λ (w : QueuedOp). w.op.write ≡ true) ws → AllByRecursion (LiesIn group) (ops_of ws)
    → met s false true (span_spot leaf group) ≡ None → (all_issued s leaf ws images).answers ≡ map stored_answered ws
writes_stored s leaf group images [] writes lie none = refl
writes_stored s leaf group images (w ∷ ws) writes lie none =
    ap (λ (one : OneIssued). one.answer ∷ (all_issued s leaf ws one.images).answers) (part_written s leaf group images w writes.0 lie.0 none)
    ∙ ap (λ (bs : List Answered). stored_answered w ∷ bs) (writes_stored s leaf group (with_bytes images (spot_of leaf w.op) (padded_to w.op.len w.bytes)) ws writes.1 lie.1 none)

pub stored_whole : (ws : List QueuedOp) → AllByRecursion (λ (w : QueuedOp). w.op.write ≡ true) ws → AreWhole ws (map stored_answered ws)
stored_whole [] writes = tt
stored_whole (w ∷ ws) writes = (λ read none. absurd (let k = writes.0 in cc), stored_whole ws writes.1)

-- what writes that touch put on the span ends where the last of them does
pub joined_ends : (w : QueuedOp) (ws : List QueuedOp) → IsChain 0 w.op (ops_of ws) → w.op.at + length (joined (w ∷ ws)) ≡ end_of (last_of w.op (ops_of ws))
joined_ends w [] chain =
    let long = length-padded_to w.op.len w.bytes in
    omega (arith, length-append (padded_to w.op.len w.bytes) [])
joined_ends w (v ∷ vs) chain =
    let rest = joined_ends v vs chain.1 in
    let step = chain.0 in
    let from = step.0 in
    let to = step.1 in
    let long = length-padded_to w.op.len w.bytes in
    omega (arith, length-append (padded_to w.op.len w.bytes) (joined (v ∷ vs)))

pub writes_joined : (s : Setting) (leaf : ℕ) (group : Group) (images : Images) (w : QueuedOp) (ws : List QueuedOp) → AllByRecursion (λ (v : QueuedOp). v.op.write ≡ true) (w ∷ ws) → AllByRecursion (LiesIn group) (ops_of (w ∷ ws))
    → met s false true (span_spot leaf group) ≡ None → IsChain 0 w.op (ops_of ws) → w.op.at + length (joined (w ∷ ws)) ≤ length (image_of images leaf)
    → (all_issued s leaf (w ∷ ws) images).images ≡ with_bytes images (spot_of leaf w.op) (joined (w ∷ ws))
writes_joined s leaf group images w [] writes lie none chain fits =
    ap (λ (one : OneIssued). one.images) (part_written s leaf group images w writes.0 lie.0 none)
    ∙ ap (with_bytes images (spot_of leaf w.op)) (sym (append-nil (padded_to w.op.len w.bytes)))
writes_joined s leaf group images w (v ∷ vs) writes lie none chain fits =
    let step = chain.0 in
    let from = step.0 in
    let to = step.1 in
    let bytes : List ℕ = padded_to w.op.len w.bytes in
    let long : length bytes ≡ w.op.len = length-padded_to w.op.len w.bytes in
    let all : length (joined (w ∷ v ∷ vs)) ≡ length bytes + length (joined (v ∷ vs)) = length-append bytes (joined (v ∷ vs)) in
    let next : Images = with_bytes images (spot_of leaf w.op) bytes in
    let size : length (image_of next leaf) ≡ length (image_of images leaf) = size_kept images leaf bytes w.op.at (omega arith) in
    ap (λ (one : OneIssued). (all_issued s leaf (v ∷ vs) one.images).images) (part_written s leaf group images w writes.0 lie.0 none)
    ∙ writes_joined s leaf group next v vs writes.1 lie.1 none chain.1 (omega arith)
    ∙ with_behind images leaf bytes (joined (v ∷ vs)) w.op.at v.op.at (omega arith) (omega arith)

joined_push : (ws : List QueuedOp) (w : QueuedOp) → joined (ws ++ w ∷ []) ≡ joined ws ++ padded_to w.op.len w.bytes
joined_push [] w = append-nil (padded_to w.op.len w.bytes)
joined_push (v ∷ vs) w =
    ap (λ (bytes : List ℕ). padded_to v.op.len v.bytes ++ bytes) (joined_push vs w)
    ∙ sym (append_assoc (padded_to v.op.len v.bytes) (joined vs) (padded_to w.op.len w.bytes))

pub joined_more : (ts vs : List QueuedOp) (w : QueuedOp) (old new bytes : List ℕ) → vs ≡ ts ++ w ∷ [] → new ≡ old ++ padded_to w.op.len bytes → bytes ≡ w.bytes → old ≡ joined ts → new ≡ joined vs
joined_more ts vs w old new bytes more push here so_far =
    push
    ∙ ap (λ (bs : List ℕ). bs ++ padded_to w.op.len bytes) so_far
    ∙ ap (λ (bs : List ℕ). joined ts ++ padded_to w.op.len bs) here
    ∙ sym (ap joined more ∙ joined_push ts w)

-- they fill the span
pub joined_long : (group : Group) (ws : List QueuedOp) → IsRun 0 (ops_of ws) → IsSpanOf group (ops_of ws) → length (joined ws) ≡ group.len
joined_long group [] run span = absurd span
joined_long group (w ∷ ws) run span =
    let start = span.0 in
    let end = span.1 in
    let ends = joined_ends w ws run.0 in
    omega arith

pub span_written : (s : Setting) (leaf : ℕ) (group : Group) (images : Images) (ws : List QueuedOp) → AllByRecursion (λ (w : QueuedOp). w.op.write ≡ true) ws → AllByRecursion (LiesIn group) (ops_of ws)
    → met s false true (span_spot leaf group) ≡ None → IsRun 0 (ops_of ws) → IsSpanOf group (ops_of ws) → group.at + group.len ≤ length (image_of images leaf)
    → with_bytes images (span_spot leaf group) (joined ws) ≡ (all_issued s leaf ws images).images
span_written s leaf group images [] writes lie none run span fits = absurd span
span_written s leaf group images (w ∷ ws) writes lie none run span fits =
    let start = span.0 in
    let long = joined_long group (w ∷ ws) run span in
    ap (λ (at : ℕ). with_bytes images (record { leaf = leaf; at = at; span = group.len }) (joined (w ∷ ws))) start
    ∙ sym (writes_joined s leaf group images w ws writes lie none run.0 (omega arith))

-- ---- the members of a group

pub group_within : (group : Group) (write : Bool) (ws : List QueuedOp) → AreMembers group write ws → AllByRecursion (LiesIn group) (ops_of ws)
group_within group write ws h = run_within (gap_max write) group (ops_of ws) h.run h.span

pub group_ends : (most : ℕ) (group : Group) (write : Bool) (ws : List QueuedOp) → AreMembers group write ws → AllByRecursion (λ (w : QueuedOp). end_of w.op ≤ most) ws → group.at + group.len ≤ most
group_ends most group write ws h ends = span_ends most group (ops_of ws) h.span (all_map (λ (o : Op). end_of o ≤ most) (λ (w : QueuedOp). w.op) ws ends)

pub group_some : (group : Group) (write : Bool) (ws : List QueuedOp) → AreMembers group write ws → 0 < length group.ops
group_some group write ws h = subst (λ (os : List Op). 0 < length os) h.ops (span_some group (ops_of ws) h.span)

pub group_writes : (group : Group) (write : Bool) (ws : List QueuedOp) → AreMembers group write ws → is_write group.ops ≡ write
group_writes group write ws h = ap is_write (sym h.ops) ∙ first ws (span_some group (ops_of ws) h.span) h.alike
  where
    first : (vs : List QueuedOp) → 0 < length (ops_of vs) → AllByRecursion (λ (w : QueuedOp). w.op.write ≡ write) vs → is_write (ops_of vs) ≡ write
    first [] some alike = absurd (omega arith)
    first (v ∷ vs) some alike = alike.0

-- reads that got their parts of the span
pub parts_told : {D : Type 0} (image : D → List ℕ → Type 0) (s : Setting) (leaf : ℕ) (group : Group) (ws : List QueuedOp) (before after : List D) (answers : List Answered) → AreMembers group false ws
    → met s false false (span_spot leaf group) ≡ None → AreParts image leaf group ws before after answers
    → (images : Images) → Tell image before images → (answers ≡ (all_issued s leaf ws images).answers) × Tell image after (all_issued s leaf ws images).images
parts_told image s leaf group ws before after answers members none parts images told =
    let all = parts_read s leaf group images ws members.alike (group_within group false ws members) none in
    let t = parts.told images told in (
      parts.parts ∙ ap (λ (bytes : List ℕ). map (part_answered group.at bytes) ws) t.0 ∙ sym (ap (λ (r : AllIssued). r.answers) all),
      subst (Tell image after) (sym (ap (λ (r : AllIssued). r.images) all)) t.1,
    )

pub parts_heads_told : {D : Type 0} (image : D → List ℕ → Type 0) (s : Setting) (leaf : ℕ) (group : Group) (ws : List QueuedOp) (before after : List D) (answers : List Answered) → AreMembers group false ws
    → met s false false (span_spot leaf group) ≡ None → AreParts image leaf group ws before after answers
    → (images : Images) → map head_of answers ≡ map head_of ((all_issued s leaf ws images).answers)
parts_heads_told image s leaf group ws before after answers members none parts images =
    let all = parts_read s leaf group images ws members.alike (group_within group false ws members) none in
    ap (map head_of) parts.parts
    ∙ parts_heads group.at parts.bytes (bytes_at images (span_spot leaf group) group.len) ws
    ∙ sym (ap (λ (r : AllIssued). map head_of r.answers) all)
