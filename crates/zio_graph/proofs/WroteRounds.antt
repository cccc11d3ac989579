-- Where a round of trees wrote, and which copies it spared.
use Rattle.std.proofs.Common.{◌≡◌, ℕ, ◌+◌, ◌<◌, ◌≤◌, List, [], ◌++◌, false, IfSome, map, replicate, length, Option, Some, None, Contains, IsTrue, ◌⊎◌, inl, inr, refl, sym, ap, ◌∙◌, ⊎_elim, subst}
use Rattle.std.specs.List.{AllByRecursion}
use Rattle.std.proofs.lemmas.List.Elements.{Contains-append_cases}
use Rattle.zio_types.specs.declared.place.Place.{Place}
use Rattle.zio_types.specs.Choices.{Choice}
use Rattle.zio_types.specs.Places.{is_free, is_inside, meets}
use Rattle.zio_outside.specs.declared.written.Written.{Written}
use Rattle.zio_script.specs.declared.script.Failmode.{Failmode}
use Rattle.zio_cksum.specs.Images.{Images, Spot}
use Rattle.zio_cksum.proofs.AllLemmas.{all_contains}
use Rattle.zio_gang.specs.declared.tree.Tree.{Tree}
use Rattle.zio_gang.specs.Attempts.{Pending, Terms}
use Rattle.zio_gang.specs.Trees.{sizes_of, tree_places}
use Rattle.zio_disks.specs.Disks.{Tell}
use Rattle.zio_trace.specs.BlockCopies.{Copies, copies_of}
use Rattle.zio_trace.specs.Families.{Forest, flat}
use Rattle.zio_trace.specs.Separate.{IsSoundBlock, NoneMeet}
use Rattle.zio_trace.specs.SoundRounds.{IsSoundRound, work_of}
use Rattle.zio_trace.specs.Stopped.{places_named, places_taken, spots_touched}
use Rattle.zio_trace.proofs.DoneWithin.{taken_placed}
use Rattle.zio_trace.proofs.SpotLemmas.{IsCopy, is_copy}
use Rattle.zio_spared.specs.Crashes.{HasUnwritten, IsWrittenIn, spots_written}
use Rattle.zio_spared.specs.Spared.{HasGood, IsNamedPiece, NoFlips}
use Rattle.zio_spared.proofs.CrashCopies.{named_unwritten, others_unwritten}
use Rattle.zio_spared.proofs.WritesWithin.{writes_within}
use Rattle.zio_course.specs.Runners.{Standing, joined_trees, named_places}
use Rattle.zio_exchange.specs.Waits.{pendings}
use Rattle.zio_exchange.specs.declared.waiting.UnfinishedRequest.{UnfinishedRequest}
use Rattle.slab.specs.Slab.{Slab}
use Rattle.zio_staged.specs.Parts.{Nodes}
use Rattle.zio_turns.specs.Rounds.{Before}
use Rattle.zio_turns.specs.UnderTrees.{TreesBegin}
use Rattle.zio_turns.specs.UnderTurns.{TellNow}
use Rattle.zio_turns.specs.Wrote.{TreesTellWrote, Wrote}
use Rattle.zio_turns.specs.declared.entry.TiedNode.{TiedNode}
use Rattle.zio_turns.specs.declared.grounds.Grounds.{Grounds}
use Rattle.zio_turns.specs.declared.trees.TreeState.{TreeState}
use Rattle.zio_turns.specs.declared.trees.TreeState.TheVariants.{UnderWay}
use Rattle.zio_turns.proofs.WroteLemmas.{wrote_same, wrote_wider}
use Rattle.zio_graph.specs.Crashes.{IsInUse, IsNamedBy, IsOpen, IsOutside, MayWrite, Spares, SparesAll, setting_of}
use Rattle.zio_graph.specs.Jobs.{IsSoundJob, size_at}
use Rattle.zio_graph.specs.SteadyGrounds.{IsSteadyGrounds, standing_on, terms_on}
use Rattle.zio_graph.proofs.Begun.{has_begun}
use Rattle.zio_graph.proofs.Loose.{free_of, named_are, named_inside}
use Rattle.zio_graph.proofs.Overs.{sizes_told}
use Rattle.zio_graph.proofs.Sounds.{joined_flat}

-- ---- a byte that a round writes

module _ (t : Terms) (sizes : ℕ → ℕ) (f : Forest) (round : IsSoundRound t sizes f) (before : Before) (named : List Place)
    (are : named ≡ places_named f) where
  open_place : (entries : List Choice) (p : Place)
      → ((q : Place) → Contains (places_taken entries) q → AllByRecursion (λ (r : Place). meets q r ≡ false) t.used × IsTrue (is_inside (sizes_of t.setting.tops) q))
      → Contains (places_named f ++ places_taken entries) p
      → IsTrue (is_inside (sizes_of t.setting.tops) p) × (Contains named p ⊎ IsTrue (is_free t.used p))
  open_place entries p taken listed =
      ⊎_elim
      (λ (c : Contains (places_named f) p). (
        all_contains (λ (q : Place). IsTrue (is_inside (sizes_of t.setting.tops) q)) (places_named f) p (named_inside t (flat f) round.blocks) c,
        inl (subst (λ (qs : List Place). Contains qs p) (sym are) c),
      ))
      (λ (c : Contains (places_taken entries) p). (
        (taken p c).1,
        inr (free_of t.used p (λ q used. all_contains (λ (r : Place). meets p r ≡ false) t.used q (taken p c).0 used)),
      ))
      (Contains-append_cases (places_named f) (places_taken entries) p listed)

  pub written_open : (leaf at : ℕ) → IsWrittenIn t sizes f before leaf at → IsOpen t.setting.tops t.used named leaf at
  written_open leaf at w =
      let u : Spot = w.written.spot in
      let entries : List Choice = w.moment.entries in
      let copy : IsCopy t.setting (places_named f ++ places_taken entries) u =
      is_copy t.setting (places_named f ++ places_taken entries) u
      (all_contains (Contains (spots_touched t f entries)) (spots_written w.moment) u (writes_within t sizes f before w.moment w.under)
      w.written.listed) in
      let where_is = open_place entries copy.place
      (λ q c. let placed = taken_placed (work_of t sizes f) before w.moment q w.under c in (placed.0, placed.1)) copy.listed in
      record {
        place = copy.place;
        inside = where_is.0;
        may = where_is.1;
        mirrored = subst (Contains _) (ap (λ (x : Spot). x.leaf) copy.is ∙ w.written.same_leaf) copy.mirrored;
        from = subst (λ (x : Spot). x.at ≤ at) (sym copy.is) w.written.from;
        below = subst (λ (x : Spot). at < x.at + x.span) (sym copy.is) w.written.below;
      }

-- ---- a copy of which it writes no byte

named_piece : (trees : List (List Pending)) (f : Forest) (tree : Tree) (c : Copies) → joined_trees trees ≡ flat f → IsNamedBy trees tree
    → Contains (copies_of tree) c → IsNamedPiece f c
named_piece trees f tree c are h piece = record {
  tree = tree;
  named = (h.request, subst (λ (ps : List Pending). Contains ps h.request) are h.listed, h.is);
  piece = piece;
}

module _ {D : Type 0} (went : List Written → D → D → Type 0) (t : Terms) (sizes : ℕ → ℕ) (f : Forest) (told : Before) (before : Images)
    (c : Copies) where
  pub unwritten_spares : (old new : List D) → HasUnwritten t sizes f told before c → Wrote {D = D} went (IsWrittenIn t sizes f told) old new
      → Spares {D = D} went t.setting before c old new
  unwritten_spares old new h wrote = record {
    spot = h.spot;
    listed = h.listed;
    good = h.good;
    unwritten = wrote_wider {D = D} went (IsOutside h.spot c.len) (IsWrittenIn t sizes f told) old new
        (λ leaf at w is from below. h.unwritten at from below (subst (λ (l : ℕ). IsWrittenIn t sizes f told l at) is w)) wrote;
  }

-- where nothing was written
pub spares_same : {D : Type 0} (image : D → List ℕ → Type 0) (went : List Written → D → D → Type 0) (s : Standing) (trees : List (List Pending))
    (old new : List D) → new ≡ old → SparesAll {D = D} image went s trees old new
spares_same {D} image went s trees old new same = λ before told flips tree c used piece good. record {
  spot = good.spot;
  listed = good.listed;
  good = good.good;
  unwritten = wrote_same {D = D} went (IsOutside good.spot c.len) old new same;
}

-- the disks are these now
pub wrote_now : {D : Type 0} (went : List Written → D → D → Type 0) (s : Standing) (trees : List (List Pending)) (old mid new : List D)
    → new ≡ mid → Wrote {D = D} went (MayWrite s trees) old mid → Wrote {D = D} went (MayWrite s trees) old new
wrote_now {D} went s trees old mid new same h = subst (λ (ds : List D). Wrote {D = D} went (MayWrite s trees) old ds) (sym same) h

pub spares_now : {D : Type 0} (image : D → List ℕ → Type 0) (went : List Written → D → D → Type 0) (s : Standing) (trees : List (List Pending))
    (old mid new : List D) → new ≡ mid → SparesAll {D = D} image went s trees old mid → SparesAll {D = D} image went s trees old new
spares_now {D} image went s trees old mid new same h = subst (λ (ds : List D). SparesAll {D = D} image went s trees old ds) (sym same) h

-- ---- over the grounds

module _ {N D : Type 0} (nodes : Nodes N) (bytes faults : D → ℕ) (image : D → List ℕ → Type 0) (went : List Written → D → D → Type 0)
    (g : Grounds D) (round : ℕ) (failmode : Failmode) (steady : IsSteadyGrounds {D = D} bytes g) (wholes : List (List UnfinishedRequest))
    (job : IsSoundJob (terms_on g failmode round) (size_at (map bytes g.disks.items)) wholes)
    (slab : Slab (TiedNode N)) (line : List ℕ) (states : List TreeState) (now : List D)
    (begins : TreesBegin {N = N} nodes slab line round failmode wholes states []) (are : states ≡ replicate (length wholes) (UnderWay 0))
    (wrote : TreesTellWrote {N = N} {D = D} nodes bytes image went slab line g round failmode states now) where
  abbrev T : Terms
  T = terms_on g failmode round

  abbrev Sizes : ℕ → ℕ
  Sizes = size_at (map bytes g.disks.items)

  -- from its first attempts on
  round_wrote : (before : Before) (images : Images) → IfSome before (λ b. b ≡ images) → TellNow {D = D} image before g.disks.items images
      → Wrote {D = D} went (IsWrittenIn T Sizes job.forest before) g.disks.items now
  round_wrote before images is tell =
      let b = has_begun {N = N} {D = D} nodes bytes image g round failmode steady slab line wholes states begins are job.forest before
      images job.round job.are is tell in
      wrote T Sizes job.forest before b.now b.runs

  pub may_write : Wrote {D = D} went (MayWrite (standing_on faults g) (map pendings wholes)) g.disks.items now
  may_write =
      wrote_wider {D = D} went (MayWrite (standing_on faults g) (map pendings wholes)) (IsWrittenIn T Sizes job.forest None)
      g.disks.items now
      (written_open T Sizes job.forest job.round None (named_places (map pendings wholes))
      (named_are (map pendings wholes) job.forest job.lists))
      (round_wrote None [] tt tt)

  module _ (has : (disk : D) (content : List ℕ) → image disk content → length content ≡ bytes disk) where
    unwritten : (before : Images) → Tell image g.disks.items before → NoFlips g.setting.rows → (tree : Tree) (c : Copies)
        → IsInUse (standing_on faults g) (map pendings wholes) tree → Contains (copies_of tree) c → HasGood T.setting before c
        → HasUnwritten T Sizes job.forest (Some before) before c
    unwritten before told flips tree c used piece good =
        ⊎_elim
        (λ (h : IsNamedBy (map pendings wholes) tree).
        named_unwritten T Sizes job.forest before c job.round (sizes_told {D = D} bytes image has g.disks.items before told) flips
        (named_piece (map pendings wholes) job.forest tree c
        (ap joined_trees (sym job.lists) ∙ joined_flat job.forest) h piece) good)
        (λ (h : IsSoundBlock (sizes_of g.setting.tops) g.desk.space.live tree × NoneMeet (tree_places tree) (named_places (map pendings wholes))).
        others_unwritten T Sizes job.forest (Some before) before tree c job.round h.0
        (subst (NoneMeet (tree_places tree)) (named_are (map pendings wholes) job.forest job.lists) h.1) piece good)
        used

    pub spares : SparesAll {D = D} image went (standing_on faults g) (map pendings wholes) g.disks.items now
    spares = λ before told flips tree c used piece good.
        let k = unwritten_spares {D = D} went T Sizes job.forest (Some before) before c g.disks.items now
        (unwritten before told flips tree c used piece (record { spot = good.spot; listed = good.listed; good = good.good }))
        (round_wrote (Some before) before refl told) in
        record { spot = k.spot; listed = k.listed; good = k.good; unwritten = k.unwritten }
