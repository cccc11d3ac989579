-- At every moment of a sound round a good copy of each named piece is spared.
use Rattle.std.proofs.Common.{ℕ, Some}
use Rattle.zio_cksum.specs.Frames.{spots_of}
use Rattle.zio_cksum.specs.Images.{Images}
use Rattle.zio_cksum.proofs.AllLemmas.{all_contains}
use Rattle.zio_gang.specs.Attempts.{Terms}
use Rattle.zio_gang.specs.Trees.{sizes_of}
use Rattle.zio_trace.specs.BlockCopies.{Copies, copies_of}
use Rattle.zio_trace.specs.Families.{Forest}
use Rattle.zio_trace.specs.Leaves.{HaveSizes}
use Rattle.zio_trace.specs.Readers.{CopiesLie}
use Rattle.zio_trace.specs.Separate.{HaveRoomFor}
use Rattle.zio_trace.specs.SoundRounds.{IsOwnBlock, IsSoundRound, work_of}
use Rattle.zio_trace.specs.Tasks.{good_by}
use Rattle.zio_trace.specs.Underway.{Comes, IsUnderway, State}
use Rattle.zio_trace.proofs.CopiesLemmas.{copies_follow}
use Rattle.zio_trace.proofs.EntryLemmas.{entries_may_come}
use Rattle.zio_trace.proofs.MoreDone.{some_under}
use Rattle.zio_trace.proofs.OwnBlocks.{piece_own}
use Rattle.zio_trace.proofs.PlaceLemmas.{spots_lie}
use Rattle.zio_trace.proofs.SoundLemmas.{own_of}
use Rattle.zio_spared.specs.Spared.{HasGood, HasSpared, IsNamedPiece, IsSpared, KeepsCopy, NoFlips}
use Rattle.zio_spared.proofs.PieceOrigins.{named_inside}
use Rattle.zio_spared.proofs.RiskedCopies.{IsSparing, is_sparing}
use Rattle.zio_spared.proofs.SparingHistory.{spared_now}

module _ (t : Terms) (sizes : ℕ → ℕ) (f : Forest) (before : Images) (c : Copies) (round : IsSoundRound t sizes f) (have : HaveSizes sizes before) (flips : NoFlips t.setting.rows) (named : IsNamedPiece f c) (good : HasGood t.setting before c) where
  block : IsOwnBlock (sizes_of t.setting.tops) t.used named.tree
  block = own_of t sizes f round named.named.0 named.tree named.named.1 named.named.2

  lie : CopiesLie sizes c.len (spots_of t.setting c.places)
  lie =
      spots_lie t.setting sizes c.len c.places round.hold (named_inside t sizes f round c named)
      (all_contains (λ (d : Copies). HaveRoomFor d.len d.places) (copies_of named.tree) c (copies_follow HaveRoomFor named.tree block.sound.room) named.piece)

  piece : IsSparing t.setting c.places c.len (good_by c.test) before
  piece = is_sparing t.setting c.places c.len (good_by c.test) before round.once round.twice (piece_own t.setting named.tree block.sound.inside block.own c named.piece) flips good.spot good.listed good.good

  spared : (s : State) → IsUnderway (work_of t sizes f) (Some before) s → IsSpared before c piece.spot s
  spared s under =
      let comes : Comes (work_of t sizes f) s.entries s.entries = entries_may_come (sizes_of t.setting.tops) t.used s.entries under.distinct under.lawful in
      let some = some_under (work_of t sizes f) s.deeds s.entries s.entries under.going.once under.going.single under.recorded comes in
      spared_now t sizes f round before s have under c named lie piece s.entries comes some.0 some.1 some.2

  pub keeps_copy : KeepsCopy t sizes f before c
  keeps_copy = record { spot = piece.spot; listed = piece.listed; good = piece.good_there; spared = spared }

  pub has_spared : (s : State) → IsUnderway (work_of t sizes f) (Some before) s → HasSpared t.setting before c s
  has_spared s under = record { spot = piece.spot; listed = piece.listed; good = piece.good_there; spared = spared s under }
