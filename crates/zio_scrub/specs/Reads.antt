-- What is known of copies while they are read, in whatever order.
use Rattle.std.specs.Prelude.{◌≡◌, ◌≢◌, ℕ, ◌+◌, ◌-◌, ◌<◌, ◌≤◌, List, [], ◌∷◌, length, take, drop, slice_index_or, ◌==◌, ◌&&◌, nat_lt, IsTrue, Contains, Bool, true, false, Option, Some, None, IfSome, Result, Ok, Err, ◌⊎◌}
use Rattle.std.specs.List.{AllByRecursion, list_any}
use Rattle.zio_types.specs.declared.error.Errno.{Errno}
use Rattle.zio_types.specs.declared.request.Flags.{Flags}
use Rattle.zio_types.specs.declared.request.Prio.TheVariants.{Scrub}
use Rattle.zio_vqueue.specs.declared.op.Op.{Op}
use Rattle.zio_blkptr.specs.declared.pointer.SumKind.TheVariants.{Off}
use Rattle.zio_blkptr.specs.Pointers.{valid}
use Rattle.zio_cksum.specs.Images.{Images, Setting, Spot, read_leaf}
use Rattle.zio_disks.specs.Disks.{found_with}
use Rattle.zio_gang.specs.Pieces.{Piece}
use Rattle.zio_groups.specs.declared.waiting.Answered.{Answered}
use Rattle.zio_groups.specs.declared.waiting.QueuedOp.{QueuedOp}
use Rattle.zio_scrub.specs.declared.heard.Heard.{Heard}
use Rattle.zio_scrub.specs.declared.heard.Mark.{Mark}
use Rattle.zio_scrub.specs.declared.heard.Mark.TheVariants.{Out, Good, Bad}
use Rattle.zio_scrub.specs.declared.heard.Source.{Source}
use Rattle.zio_scrub.specs.declared.layout.CopyAt.{CopyAt}
use Rattle.zio_scrub.specs.declared.layout.Layout.{Layout}
use Rattle.zio_scrub.specs.declared.layout.Numbered.{Numbered}
use Rattle.zio_scrub.specs.declared.repairs.Repair.{Repair}
use Rattle.zio_scrub.specs.Pieces.{seen}
use Rattle.zio_groups.specs.LeafQueues.{Waits}
use Rattle.zio_scrub.specs.Queues.{waits_at}
use Rattle.zio_scrub.specs.Scrubs.{copy_read, repairs_with}

-- ---- one of a list

-- the list has it at this index
pub record IsAt {X : Type 0} (xs : List X) (i : ℕ) (x : X) : Type 0 where
  pub within : i < length xs
  pub is : slice_index_or xs i x ≡ x

-- ---- what is heard

abbrev pub mark_at : Heard → ℕ → Mark
mark_at h ticket = slice_index_or h.marks.items ticket Out

abbrev pub is_out : Mark → Bool
is_out Out = true
is_out Good = false
is_out Bad = false

-- the bytes of the least good copy of so many from the first on
pub record IsLeast (mark : ℕ → Mark) (first count size : ℕ) (source : Source) : Type 0 where
  pub from : first ≤ source.copy
  pub below : source.copy < first + count
  pub good : mark source.copy ≡ Good
  pub least : (i : ℕ) → first ≤ i → i < source.copy → mark i ≢ Good
  pub whole : length source.bytes ≡ size

-- What is kept of a piece, whose copies are so many from the first on: the bytes of the least good copy that was heard. Where
-- nothing is kept none was good, or all were.
abbrev pub IsKept : (ℕ → Mark) → ℕ → ℕ → ℕ → Option Source → Type 0
IsKept mark first count size None =
    ((i : ℕ) → i < count → mark (first + i) ≢ Good) ⊎ ((i : ℕ) → i < count → mark (first + i) ≡ Good)
IsKept mark first count size (Some source) = IsLeast mark first count size source

abbrev pub source_at : Heard → ℕ → Option Source
source_at h piece = slice_index_or h.sources.items piece None

pub record IsHeard (layout : Layout) (h : Heard) : Type 0 where
  pub marks : length h.marks.items ≡ length layout.copies
  pub sources : length h.sources.items ≡ length layout.pieces
  pub kept : (p : ℕ) (n : Numbered) → IsAt layout.pieces p n → IsKept (mark_at h) n.first n.count (seen n.piece).size (source_at h p)

-- a mark says what the read of its copy gives
abbrev pub Says : Mark → Result (List ℕ) Errno → Type 0
Says Out r = Unit {0}
Says Good (Ok bytes) = Unit {0}
Says Good (Err e) = ⊥
Says Bad (Ok bytes) = ⊥
Says Bad (Err e) = Unit {0}

-- what the read of a copy gives
abbrev pub read_at : Setting → Images → Numbered → CopyAt → Result (List ℕ) Errno
read_at s images n c = copy_read s images (seen n.piece) c.spot

-- the marks and the bytes are those that reads of these images give
pub record IsTrueOf (s : Setting) (images : Images) (layout : Layout) (h : Heard) : Type 0 where
  pub says : (ticket : ℕ) (c : CopyAt) (n : Numbered) → IsAt layout.copies ticket c → IsAt layout.pieces c.piece n
      → Says (mark_at h ticket) (read_at s images n c)
  pub bytes : (p : ℕ) (n : Numbered) (c : CopyAt) → IsAt layout.pieces p n
      → IfSome (source_at h p) (λ source. IsAt layout.copies source.copy c → read_at s images n c ≡ Ok source.bytes)

-- ---- one more copy

abbrev pub is_good : Mark → Bool
is_good Out = false
is_good Good = true
is_good Bad = false

abbrev pub all_good : List Mark → Bool
all_good [] = true
all_good (mark ∷ marks) = is_good mark && all_good marks

abbrev pub lesser : Bool → Source → Source → Source
lesser true earlier source = earlier
lesser false earlier source = source

-- what is kept once one more copy is good: nothing where all are
abbrev pub kept_after : Bool → Option Source → Source → Option Source
kept_after true kept source = None
kept_after false None source = Some source
kept_after false (Some earlier) source = Some (lesser (nat_lt earlier.copy source.copy) earlier source)

abbrev pub found_if : Bool → List ℕ → Option (List ℕ)
found_if true bytes = Some bytes
found_if false bytes = None

-- the bytes of a read that are good
abbrev pub found_good : Piece → Result (List ℕ) Errno → Option (List ℕ)
found_good piece (Ok bytes) = found_if (piece.good bytes) bytes
found_good piece (Err e) = None

-- ---- answers

-- the layout's numbers fit: each copy is one of its piece, whose pointer is valid and whose bytes it has room for
pub record IsSound (layout : Layout) : Type 0 where
  pub pieces : AllByRecursion (λ (n : Numbered). IsTrue (valid n.piece.pointer)) layout.pieces
  pub piece : (ticket : ℕ) (c : CopyAt) → IsAt layout.copies ticket c → c.piece < length layout.pieces
  pub range : (ticket : ℕ) (c : CopyAt) (n : Numbered) → IsAt layout.copies ticket c → IsAt layout.pieces c.piece n
      → (n.first ≤ ticket) × (ticket < n.first + n.count)
  pub room : (ticket : ℕ) (c : CopyAt) (n : Numbered) → IsAt layout.copies ticket c → IsAt layout.pieces c.piece n
      → (seen n.piece).size ≤ c.spot.span
  pub rising : (p : ℕ) (n m : Numbered) → IsAt layout.pieces p n → IsAt layout.pieces (p + 1) m → n.first + n.count ≤ m.first
  pub within : (p : ℕ) (n : Numbered) → IsAt layout.pieces p n → n.first + n.count ≤ length layout.copies
  pub own : (p i : ℕ) (n : Numbered) (c : CopyAt) → IsAt layout.pieces p n → i < n.count → IsAt layout.copies (n.first + i) c
      → c.piece ≡ p

-- it answers a read of a copy that is out, and where it has no error it has all bytes of the copy's place
pub record IsHearable (layout : Layout) (mark : ℕ → Mark) (a : Answered) : Type 0 where
  pub there : a.ticket < length layout.copies
  pub out : is_out (mark a.ticket) ≡ true
  pub whole : (c : CopyAt) → IsAt layout.copies a.ticket c → a.error ≡ None → length a.bytes ≡ c.spot.span

-- no two are for one copy
abbrev pub AreHearable : Layout → (ℕ → Mark) → List Answered → Type 0
AreHearable layout mark [] = Unit {0}
AreHearable layout mark (a ∷ answers) =
    IsHearable layout mark a × AllByRecursion (λ (b : Answered). (b.ticket == a.ticket) ≡ false) answers × AreHearable layout mark answers

abbrev pub is_answered : ℕ → List Answered → Bool
is_answered ticket answers = list_any (λ (a : Answered). a.ticket == ticket) answers

-- the first bytes of the answer are those that a read of the copy gives over these images
abbrev pub IsTruthful : Setting → Images → Layout → Answered → Type 0
IsTruthful s images layout a = (c : CopyAt) (n : Numbered) → IsAt layout.copies a.ticket c → IsAt layout.pieces c.piece n
    → found_with a.error (take (seen n.piece).size a.bytes) ≡ read_leaf s false images (seen n.piece).size c.spot

-- ---- reads that wait

abbrev pub no_flags : Flags
no_flags = record { canfail = false; retry = false; dont_aggregate = false; repair = false }

-- the read of a whole copy, of the first pass
abbrev pub read_op : ℕ → Spot → Op
read_op ticket spot = record { ticket = ticket; write = false; at = spot.at; len = spot.span; prio = Scrub; flags = no_flags }

-- it waits at its leaf for a copy
pub record IsReadOf (copies : List CopyAt) (leaf : ℕ) (w : QueuedOp) : Type 0 where
  pub copy : CopyAt
  pub at : IsAt copies w.op.ticket copy
  pub here : copy.spot.leaf ≡ leaf
  pub op : w.op ≡ read_op w.op.ticket copy.spot

abbrev pub no_copy : CopyAt
no_copy = record { spot = record { leaf = 0; at = 0; span = 0 }; piece = 0 }

abbrev pub no_numbered : Numbered
no_numbered = record {
  piece = record { pointer = record { count = 0; places = []; gang = false; size = 0; sum = Off; birth = 0; words = [] }; kept = None };
  first = 0;
  count = 0;
}

-- the leaf of a copy
abbrev pub leaf_at : List CopyAt → ℕ → ℕ
leaf_at copies ticket = (slice_index_or copies ticket no_copy).spot.leaf

-- what waits are the copies that are out
abbrev pub AreOut : List CopyAt → (ℕ → Mark) → List Waits → Type 0
AreOut copies mark leaves =
    (ticket : ℕ) → ticket < length copies → waits_at leaves (leaf_at copies ticket) ticket ≡ is_out (mark ticket)

-- ---- what the reads come to

-- All copies were heard, and the marks and the bytes are those of these images.
pub record AreAllHeard (layout : Layout) (h : Heard) : Type 0 where
  pub heard : IsHeard layout h
  pub none_out : (ticket : ℕ) → ticket < length layout.copies → is_out (mark_at h ticket) ≡ false

-- the copies of a piece that are marked bad
abbrev pub marked_if : Mark → Spot → List Spot → List Spot
marked_if Out spot others = others
marked_if Good spot others = others
marked_if Bad spot others = spot ∷ others

abbrev pub bad_marked : List Mark → List CopyAt → List Spot
bad_marked [] copies = []
bad_marked (mark ∷ marks) [] = []
bad_marked (mark ∷ marks) (copy ∷ copies) = marked_if mark copy.spot (bad_marked marks copies)

-- where nothing is kept of a piece, its first copy tells whether all are lost
abbrev pub lost_if : Mark → ℕ → ℕ
lost_if Out count = 0
lost_if Good count = 0
lost_if Bad count = count

abbrev pub lost_marked : List Mark → ℕ
lost_marked [] = 0
lost_marked (mark ∷ marks) = lost_if mark (1 + length marks)

-- those of a piece
abbrev pub slice : {X : Type 0} → List X → Numbered → List X
slice xs n = take (n.first + n.count - n.first) (drop n.first xs)

-- what is added for a piece, by what is kept of it
abbrev pub settled_repairs : Option Source → List Mark → List CopyAt → List Repair
settled_repairs None marks copies = []
settled_repairs (Some source) marks copies = repairs_with (Some source.bytes) (bad_marked marks copies)

abbrev pub settled_lost : Option Source → List Mark → ℕ
settled_lost None marks = lost_marked marks
settled_lost (Some source) marks = 0

-- it writes one of the copies, with no more bytes than that has
pub record IsFrom (layout : Layout) (r : Repair) : Type 0 where
  pub copy : CopyAt
  pub listed : Contains layout.copies copy
  pub spot_is : r.spot ≡ copy.spot
  pub room : length r.bytes ≤ copy.spot.span
