-- The walk over headers under way: what each step shows.
use Rattle.std.proofs.Common.{◌≡◌, ℕ, zero, suc, ◌+◌, ◌<◌, ◌≤◌, List, [], ◌∷◌, ◌++◌, length, take, slice_get, Bool, true, false, Option, Some, None, sym, ap, ◌∙◌, subst, inr, arith, length-append}
use Rattle.zio_types.specs.declared.error.Errno.{Errno}
use Rattle.zio_blkptr.specs.declared.pointer.Bp.{Bp}
use Rattle.zio_trace.specs.Plans.{plan_pointer}
use Rattle.zio_trace.specs.Programs.{Ends}
use Rattle.zio_trace.specs.Tasks.{Look, ReadHeads, Walked, WalkedBy}
use Rattle.zio_parts.specs.HeadWalks.{ShowsWalk, Walking, following, header_left, is_any_out, is_followed, look_of, named_by, pointer_left, walk_slots, walking_from}
use Rattle.zio_frames.specs.Slots.{AsksBehindSlots, left_behind_slots, told_in}
use Rattle.zio_parts.specs.WalkFields.{IsAskedFor, IsRead, WalkFields}
use Rattle.zio_parts.specs.declared.head_walk.Header.{Header}
use Rattle.zio_parts.specs.declared.head_walk.Header.TheVariants.{Unread, Out, Failed, Read}
use Rattle.zio_parts.specs.declared.head_walk.MemberWalk.{MemberWalk}
use Rattle.zio_parts.specs.declared.head_walk.WalkStep.TheVariants.{Member, Wait, End}
use Rattle.zio_parts.proofs.AnsweredLemmas.{past_get, within_get}
use Rattle.zio_parts.proofs.WalkLemmas.{few_named, length_held, member_asked, member_valid, none_told, read_left, some_told}

-- what the fields show
abbrev pub walking : Bool → ℕ → List ℕ → Bp → Option Errno → Header → ℕ → List (Option Walked) → Walking
walking claim levels path bp judged header handed left = record {
  claim = claim;
  levels = levels;
  path = path;
  bp = bp;
  judged = judged;
  header = header;
  members = take handed left;
}

followed_deep : (judged : Option Errno) (gang : Bool) (levels : ℕ) → is_followed judged gang levels ≡ true → 1 ≤ levels
followed_deep (Some e) gang levels f = absurd (cc)
followed_deep None false levels f = absurd (cc)
followed_deep None true zero f = absurd (cc)
followed_deep None true (suc levels) f = omega arith

pub is_deep : (judged : Option Errno) (gang : Bool) (levels : ℕ) (header : Header) → IsAskedFor (is_followed judged gang levels) header → IsRead header → 1 ≤ levels
is_deep judged gang levels Unread a r = absurd r
is_deep judged gang levels Out a r = absurd r
is_deep judged gang levels (Failed e) a r = absurd r
is_deep judged gang levels (Read bytes) a r = followed_deep judged gang levels a

pub few_handed : (levels : ℕ) (path : List ℕ) (bp : Bp) (judged : Option Errno) (header : Header) (members : List Bp) (handed : ℕ) (left : List (Option Walked)) →
    WalkFields levels path bp judged header members handed left → handed ≤ 3
few_handed levels path bp judged header members handed left h =
    let few = few_named header in
    let same : length members ≡ length (named_by header) = ap length h.named in
    omega (arith, h.within)

pub is_within : (levels : ℕ) (path : List ℕ) (bp : Bp) (judged : Option Errno) (header : Header) (members : List Bp) (handed : ℕ) (left : List (Option Walked)) (m : Bp) →
    WalkFields levels path bp judged header members handed left → slice_get members handed ≡ Some m → handed < 3
is_within levels path bp judged header members handed left m h got =
    let few = few_named header in
    let same : length members ≡ length (named_by header) = ap length h.named in
    let within = within_get members handed m got in
    omega arith

pub member_shown : (claim : Bool) (levels : ℕ) (path : List ℕ) (bp : Bp) (judged : Option Errno) (header : Header) (members : List Bp) (handed : ℕ) (left : List (Option Walked)) (m : MemberWalk) →
    WalkFields levels path bp judged header members handed left → slice_get members handed ≡ Some m.bp → m.n ≡ handed → m.levels + 1 ≡ levels → m.path ≡ path ++ m.n ∷ [] →
    ShowsWalk (walking claim levels path bp judged header handed left) (Member m)
member_shown claim levels path bp judged header members handed left m h got number below at =
    let few = few_handed levels path bp judged header members handed left h in
    let held : length (take handed left) ≡ handed = length_held handed left h.three few in
    let named : slice_get (named_by header) handed ≡ Some m.bp = ap (λ ms. slice_get ms handed) (sym h.named) ∙ got in
    let within : handed < length (named_by header) = within_get (named_by header) handed m.bp named in
    let longer : length (path ++ m.n ∷ []) ≡ length path + 1 = length-append path (m.n ∷ []) in
    let deeper : length m.path ≡ length path + 1 = ap length at ∙ longer in
    let depth = h.depth in
    let here : slice_get (named_by header) (length (take handed left)) ≡ Some m.bp = ap (slice_get (named_by header)) held ∙ named in
    let counted : length (take handed left) ≡ m.n = held ∙ sym number in
    let same : path ++ length (take handed left) ∷ [] ≡ m.path = ap (λ k. path ++ k ∷ []) counted ∙ sym at in (
      omega arith,
      counted,
      at,
      below,
      omega arith,
      member_valid header handed m.bp named,
      ap (slice_get (named_by header)) number ∙ named,
      λ heads. subst (λ p. AsksBehindSlots (walk_slots header (take handed left)) (walking_from heads (walking claim levels path bp judged header handed left)) (ReadHeads (look_of claim heads) m.levels p m.bp)) same
          (member_asked judged bp.gang levels m.levels (look_of claim heads) path bp m.bp header (take handed left) h.asked below here),
    )

told_out : (header : Header) (members : List (Option Walked)) → IsRead header → is_any_out members ≡ true → 0 < length (told_in (walk_slots header members))
told_out Unread members r q = absurd r
told_out Out members r q = absurd r
told_out (Failed e) members r q = absurd r
told_out (Read bytes) members r q = some_told members q

told_none : (header : Header) (members : List (Option Walked)) → IsRead header → is_any_out members ≡ false → told_in (walk_slots header members) ≡ []
told_none Unread members r q = absurd r
told_none Out members r q = absurd r
told_none (Failed e) members r q = absurd r
told_none (Read bytes) members r q = none_told members q

all_handed : (levels : ℕ) (path : List ℕ) (bp : Bp) (judged : Option Errno) (header : Header) (members : List Bp) (handed : ℕ) (left : List (Option Walked)) →
    WalkFields levels path bp judged header members handed left → slice_get members handed ≡ None → length (take handed left) ≡ length (named_by header)
all_handed levels path bp judged header members handed left h past =
    let few = few_handed levels path bp judged header members handed left h in
    let held : length (take handed left) ≡ handed = length_held handed left h.three few in
    let same : length members ≡ length (named_by header) = ap length h.named in
    let behind = past_get members handed past in
    omega (arith, h.within)

pub wait_shown : (claim : Bool) (levels : ℕ) (path : List ℕ) (bp : Bp) (judged : Option Errno) (header : Header) (members : List Bp) (handed : ℕ) (left : List (Option Walked)) →
    WalkFields levels path bp judged header members handed left → IsRead header → slice_get members handed ≡ None → is_any_out (take handed left) ≡ true →
    ShowsWalk (walking claim levels path bp judged header handed left) Wait
wait_shown claim levels path bp judged header members handed left h read past out =
    (told_out header (take handed left) read out, inr (all_handed levels path bp judged header members handed left h past))

read_ended : (judged : Option Errno) (gang : Bool) (levels : ℕ) (look : Look) (path : List ℕ) (bp : Bp) (header : Header) (members : List (Option Walked)) → IsRead header → IsAskedFor (is_followed judged gang levels) header
    → length members ≡ length (named_by header) → is_any_out members ≡ false
    → left_behind_slots (walk_slots header members) (plan_pointer judged gang bp (following look levels path bp)) ≡ Ends (WalkedBy (pointer_left judged gang levels bp (header_left path header members)))
read_ended judged gang levels look path bp Unread members r a l q = absurd r
read_ended judged gang levels look path bp Out members r a l q = absurd r
read_ended judged gang levels look path bp (Failed e) members r a l q = absurd r
read_ended judged gang levels look path bp (Read bytes) members r a l q = read_left judged gang levels look path bp bytes members a l q

pub end_shown : (claim : Bool) (levels : ℕ) (path : List ℕ) (bp : Bp) (judged : Option Errno) (header : Header) (members : List Bp) (handed : ℕ) (left : List (Option Walked)) →
    WalkFields levels path bp judged header members handed left → IsRead header → slice_get members handed ≡ None → is_any_out (take handed left) ≡ false →
    ShowsWalk (walking claim levels path bp judged header handed left) End
end_shown claim levels path bp judged header members handed left h read past quiet = (
  told_none header (take handed left) read quiet,
  λ heads. read_ended judged bp.gang levels (look_of claim heads) path bp header (take handed left) read h.asked (all_handed levels path bp judged header members handed left h past) quiet,
)
