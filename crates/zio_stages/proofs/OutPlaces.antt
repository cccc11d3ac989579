-- Where the operations on leaves that are out of a part stand.
use Rattle.std.proofs.Common.{◌≡◌, ℕ, zero, suc, ◌+◌, ◌-◌, ◌≤◌, List, [], ◌∷◌, ◌++◌, length, slice_get, Bool, true, false, Option, Some, None, ap, ◌∙◌, arith}
use Rattle.zio_gang.specs.Attempts.{Terms}
use Rattle.zio_trace.specs.Tasks.{Task}
use Rattle.zio_frames.specs.Frames.{Frame}
use Rattle.zio_frames.specs.Slots.{Heard, IsOut, Slot}
use Rattle.zio_stages.specs.LeavesOut.{AreOut, AsksLeaves, HasAskedLeaves, IsLeafTask, IsWriteIn}
use Rattle.zio_stages.specs.ReadIos.{IsAskedWhen, IsReadIo, IsReadOutIn, outs_of_read}
use Rattle.zio_stages.specs.WriteIos.{IsOutIn, IsWriteIo, outs_in}
use Rattle.zio_stages.specs.declared.read_io.ReadIo.{ReadIo}
use Rattle.zio_stages.specs.declared.write_io.WriteIo.{WriteIo}
use Rattle.zio_stages.proofs.OutLemmas.{leaves_all, leaves_full, leaves_where, write_leaf}
use Rattle.zio_stages.proofs.WriteIoLemmas.{outs_back, outs_get}

out_slot : (outs : List Bool) (slots : List Slot) (m : ℕ) → AreOut outs slots → slice_get outs m ≡ Some true → slice_get slots m ≡ Some (IsOut None)
out_slot [] slots m h e = absurd (cc)
out_slot (out ∷ outs) [] m h e = absurd h
out_slot (true ∷ outs) (IsOut told ∷ slots) zero h e = ap (λ o. Some (IsOut o)) h.0
out_slot (true ∷ outs) (IsOut told ∷ slots) (suc m) h e = out_slot outs slots m h.1 e
out_slot (true ∷ outs) (Heard v ∷ slots) m h e = absurd h
out_slot (false ∷ outs) (IsOut told ∷ slots) m h e = absurd h
out_slot (false ∷ outs) (Heard v ∷ slots) zero h e = absurd (cc)
out_slot (false ∷ outs) (Heard v ∷ slots) (suc m) h e = out_slot outs slots m h e

pub get_behind : {X : Type 0} (front xs : List X) (n m : ℕ) → n ≡ length front + m → slice_get (front ++ xs) n ≡ slice_get xs m
get_behind [] xs n m e = let same : n ≡ m = omega arith in ap (slice_get xs) same
get_behind (x ∷ front) xs zero m e = absurd (omega arith)
get_behind (x ∷ front) xs (suc n) m e = get_behind front xs n m (omega arith)

-- what the outs say is out is out of the part
leaves_there : (P : Task → Type 0) (base : ℕ) (outs : List Bool) (x : Frame) (n : ℕ) → AsksLeaves P base outs x → base ≤ n → slice_get outs (n - base) ≡ Some true → slice_get x.slots n ≡ Some (IsOut None)
leaves_there P base outs x n h low is =
    ap (λ xs. slice_get xs n) h.slots_are ∙ get_behind h.front h.slots n (n - base) (omega (arith, h.many)) ∙ out_slot outs h.slots (n - base) h.outs_are is

-- ---- writes

pub write_asks : (t : Terms) (bytes : List ℕ) (w : WriteIo) (x : Frame) → IsWriteIo t bytes w x → HasAskedLeaves x
write_asks t bytes w x h = record {
  full = leaves_full (IsWriteIn w.write.retry) w.base (outs_in w.write.answers) x h.leaves;
  leaves = leaves_all (IsWriteIn w.write.retry) w.base (outs_in w.write.answers) x (write_leaf w.write.retry) h.leaves;
}

pub write_is_out : (t : Terms) (bytes : List ℕ) (w : WriteIo) (x : Frame) (n : ℕ) → IsWriteIo t bytes w x → slice_get x.slots n ≡ Some (IsOut None) → IsOutIn w n
write_is_out t bytes w x n h e =
    let r = leaves_where (IsWriteIn w.write.retry) w.base (outs_in w.write.answers) x n None h.leaves e in
    (r.0, outs_back w.write.answers (n - w.base) r.1)

pub write_out_is : (t : Terms) (bytes : List ℕ) (w : WriteIo) (x : Frame) (n : ℕ) → IsWriteIo t bytes w x → IsOutIn w n → slice_get x.slots n ≡ Some (IsOut None)
write_out_is t bytes w x n h out = leaves_there (IsWriteIn w.write.retry) w.base (outs_in w.write.answers) x n h.leaves out.0 (outs_get w.write.answers (n - w.base) out.1)

-- ---- reads

asked_leaf : (good : Option (List ℕ)) (retry : Bool) (op : Task) → IsAskedWhen good retry op → IsLeafTask op
asked_leaf None retry op h = h
asked_leaf (Some bytes) retry op h = write_leaf retry op h

pub read_asks : (t : Terms) (w : ReadIo) (x : Frame) → IsReadIo t w x → HasAskedLeaves x
read_asks t w x h = record {
  full = leaves_full (IsAskedWhen w.read.good w.read.retry) w.base (outs_of_read w) x h.leaves;
  leaves = leaves_all (IsAskedWhen w.read.good w.read.retry) w.base (outs_of_read w) x (asked_leaf w.read.good w.read.retry) h.leaves;
}

pub read_is_out : (t : Terms) (w : ReadIo) (x : Frame) (n : ℕ) → IsReadIo t w x → slice_get x.slots n ≡ Some (IsOut None) → IsReadOutIn w n
read_is_out t w x n h e = leaves_where (IsAskedWhen w.read.good w.read.retry) w.base (outs_of_read w) x n None h.leaves e

pub read_out_is : (t : Terms) (w : ReadIo) (x : Frame) (n : ℕ) → IsReadIo t w x → IsReadOutIn w n → slice_get x.slots n ≡ Some (IsOut None)
read_out_is t w x n h out = leaves_there (IsAskedWhen w.read.good w.read.retry) w.base (outs_of_read w) x n h.leaves out.0 out.1
