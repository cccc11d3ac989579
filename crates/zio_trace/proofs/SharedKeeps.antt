-- Nothing but reads with repairs touches the pieces that several trees of a sound round read.
use Rattle.std.proofs.Common.{◌≡◌, ℕ, cond, List, [], Bool, true, false, Option, Some, None, Contains, inl, inr, ⊎_elim, refl, sym, ap, ◌∙◌, subst}
use Rattle.std.specs.List.{AllByRecursion, flat_map}
use Rattle.zio_types.specs.declared.place.Place.{Place}
use Rattle.zio_types.specs.Choices.{Choice}
use Rattle.zio_types.specs.Places.{meets}
use Rattle.zio_script.specs.declared.script.Work.{Work}
use Rattle.zio_script.specs.declared.script.Work.TheVariants.{Null, Read as WorkRead, Write, Free, Claim}
use Rattle.zio_cksum.specs.Frames.{spots_of}
use Rattle.zio_cksum.specs.Images.{Spot}
use Rattle.zio_cksum.proofs.AllLemmas.{all_contains, all_weaker}
use Rattle.zio_gang.specs.declared.tree.Tree.{Tree}
use Rattle.zio_gang.specs.Attempts.{Pending, Terms}
use Rattle.zio_gang.specs.Trees.{sizes_of}
use Rattle.zio_trace.specs.BlockCopies.{Copies}
use Rattle.zio_trace.specs.Families.{Forest, NoTrees, TreeOf, flat}
use Rattle.zio_trace.specs.Footprints.{IsReading, OfBlock, OfClaim, OfPart, OfWork, WithinWhole}
use Rattle.zio_trace.specs.Leaves.{AreClear, spot_of}
use Rattle.zio_trace.specs.Readers.{RowsArePlain}
use Rattle.zio_trace.specs.Rounds.{settles}
use Rattle.zio_trace.specs.Separate.{IsNoClaim}
use Rattle.zio_trace.specs.SoundRounds.{IsSoundRound, are_plain, copies_if, copies_read, shared_in, work_of}
use Rattle.zio_trace.specs.Tasks.{Find, Leaf, TakePlaces, Task}
use Rattle.zio_trace.specs.Together.{AreSharedWell, IsSharedWell, KeepsTo}
use Rattle.zio_trace.proofs.ChoiceLemmas.{Answers, IsPlaced, MeetsNone, answers_in_round, chosen_placed, contained_cases}
use Rattle.zio_trace.proofs.PairLemmas.{all_of}
use Rattle.zio_trace.proofs.SharedRounds.{IsPieceIn, copies_well, piece_inside, piece_used, plain_rows, shared_clear, shared_from}
use Rattle.zio_trace.proofs.SoundLemmas.{in_shared}
use Rattle.zio_trace.proofs.SoundRoundLemmas.{first_tree, other_trees}
use Rattle.zio_trace.proofs.SpotLemmas.{NoneTouch, none_touch, spots_clear, touch_turned}
use Rattle.zio_trace.proofs.WholeReach.{tasks_reach}

module _ (t : Terms) (sizes : ℕ → ℕ) (f : Forest) (round : IsSoundRound t sizes f) (plain : RowsArePlain t.setting.rows) (j : List Choice) (answers : Answers j (sizes_of t.setting.tops) t.used t.round) where
  abbrev Keeps : Task → Type 0
  Keeps = KeepsTo t.setting (shared_in t f)

  -- ---- what reads a block

  reading_keeps : (c : Copies) (d : Task) → Contains (shared_in t f) c → IsReading c d → Keeps d
  reading_keeps c d h is = subst Keeps is h

  block_keeps : (p : Pending) → Contains (flat f) p → ((c : Copies) → Contains (copies_if p.block) c → Contains (shared_in t f) c) → (d : Task) → OfBlock IsReading p.block d → Keeps d
  block_keeps p cp inside d h = named p.block inside h
    where
      named : (block : Option Tree) → ((c : Copies) → Contains (copies_if block) c → Contains (shared_in t f) c) → OfBlock IsReading block d → Keeps d
      named None inside h = absurd h
      named (Some tree) inside h = reading_keeps h.0 d (inside h.0 h.1) h.2

  read_keeps : (p : Pending) → Contains (flat f) p → (work : Work) → p.request.work ≡ work → ((c : Copies) → Contains (copies_if p.block) c → Contains (copies_read p.block work) c) → (d : Task) → OfBlock IsReading p.block d → Keeps d
  read_keeps p cp work e inside d h =
      block_keeps p cp (λ c cc. in_shared t sizes f round plain p c cp (subst (λ (w : Work). Contains (copies_read p.block w) c) (sym e) (inside c cc))) d h

  -- ---- what is written

  -- places that are free beside those in use touch no piece
  free_touch : (c : Copies) (places : List Place) → Contains (shared_in t f) c → AllByRecursion (IsPlaced (sizes_of t.setting.tops) t.used) places → NoneTouch places c.places
  free_touch c places h placed =
      let x : IsPieceIn f c = shared_from t sizes f round c h in
      none_touch t.setting places c.places (all_weaker _ _ places (λ p k. k.1) placed) (piece_inside t sizes f round c x)
      (all_weaker (IsPlaced (sizes_of t.setting.tops) t.used) (MeetsNone c.places) places
      (λ p k. all_weaker (Contains t.used) (λ (q : Place). meets p q ≡ false) c.places (λ q cq. all_contains (λ (r : Place). meets p r ≡ false) t.used q k.0 cq) (piece_used t sizes f round c x)) placed)

  write_keeps : (request attempt : ℕ) (path : List ℕ) (d : Task) → OfPart j t request attempt path d → Keeps d
  write_keeps request attempt path (Leaf op) h =
      let placed = chosen_placed j (sizes_of t.setting.tops) t.used t.round answers h.0 h.1 h.2.now h.3 in
      all_of _ (shared_in t f) (λ c cc. all_of (λ (u : Spot). AreClear u (spot_of op)) (spots_of t.setting c.places)
      (λ u cu. spots_clear t.setting c.places h.1 u (spot_of op) round.once (touch_turned h.1 c.places (free_touch c h.1 cc placed)) cu h.4.listed))
  write_keeps request attempt path (Find a) h = tt
  write_keeps request attempt path _ h = absurd h

  -- ---- a claim, which is alone and shares no piece

  alone : (x z : Pending) → f ≡ TreeOf z NoTrees NoTrees → Contains (flat f) x → z ≡ x
  alone x z e c =
      ⊎_elim (λ (is : z ≡ x). is) (λ (no : Contains [] x). absurd (all_contains (λ (w : Pending). ⊥) [] x tt no))
      (contained_cases z [] x (subst (λ (g : Forest). Contains (flat g) x) e c))

  no_piece : (p : Pending) → Contains (flat f) p → (IsNoClaim p.request.work → ⊥) → (c : Copies) → Contains (shared_in t f) c → ⊥
  no_piece p cp claim c h =
      let x : IsPieceIn f c = shared_from t sizes f round c h in
      ⊎_elim
      (λ (none : AllByRecursion (λ (y : Pending). IsNoClaim y.request.work) (flat f)). claim (all_contains _ (flat f) p none cp))
      (λ (one : (z : Pending) × (f ≡ TreeOf z NoTrees NoTrees)).
      claim (subst (λ (y : Pending). IsNoClaim y.request.work) (sym (alone x.request one.0 one.1 x.listed) ∙ alone p one.0 one.1 cp) x.no_claim))
      round.claims

  claim_keeps : ((c : Copies) → Contains (shared_in t f) c → ⊥) → (d : Task) → OfClaim t.setting d → Keeps d
  claim_keeps none (Leaf op) h = all_of _ (shared_in t f) (λ c cc. absurd (none c cc))
  claim_keeps none (TakePlaces tree) h = tt
  claim_keeps none _ h = absurd h

  -- ---- all trees

  work_keeps : (p : Pending) → Contains (flat f) p → (work : Work) → p.request.work ≡ work → (d : Task) → OfWork IsReading j t p work d → Keeps d
  work_keeps p cp Null e d h = absurd h
  work_keeps p cp (WorkRead name prio) e d h = read_keeps p cp (WorkRead name prio) e (λ c cc. cc) d h
  work_keeps p cp (Write name sum copies prio body) e d h = write_keeps p.request.number h.0 [] d h.1
  work_keeps p cp (Free name) e d h = read_keeps p cp (Free name) e (λ c cc. cc) d h
  work_keeps p cp (Claim name pointer) e d h = claim_keeps (no_piece p cp (λ none. subst IsNoClaim e none)) d h

  trees_keep : (g : Forest) → ((q : Pending) → Contains (flat g) q → Contains (flat f) q) → AllByRecursion (λ (q : Task). (d : Task) → WithinWhole j t q d → Keeps d) (settles g)
  trees_keep NoTrees inside = tt
  trees_keep (TreeOf p kids others) inside = (
    (λ d h. work_keeps h.0 (inside h.0 (first_tree p kids others h.0 h.1)) h.0.request.work refl d h.2),
    trees_keep others (λ q c. inside q (other_trees p kids others q c)),
  )

  pub all_keep : AllByRecursion (λ (q : Task). (d : Task) → WithinWhole j t q d → Keeps d) (settles f)
  all_keep = trees_keep f (λ q c. c)

shared_well : (t : Terms) (sizes : ℕ → ℕ) (f : Forest) → IsSoundRound t sizes f → RowsArePlain t.setting.rows → AreSharedWell (work_of t sizes f)
shared_well t sizes f round plain = record {
  rows = plain;
  copies = all_of _ (shared_in t f) (λ c h. copies_well t sizes f round c h);
  clear = λ c d hc hd. shared_clear t sizes f round c d hc hd;
  keeps = λ j lawful o is.
      tasks_reach j t o is (KeepsTo t.setting (shared_in t f)) (settles f) (all_keep t sizes f round plain j (answers_in_round j (sizes_of t.setting.tops) t.used t.round lawful));
}

-- What several trees of a sound round read is shared well.
pub round_shares : (t : Terms) (sizes : ℕ → ℕ) (f : Forest) → IsSoundRound t sizes f → IsSharedWell (work_of t sizes f)
round_shares t sizes f round = by_rows (are_plain t.setting.rows) refl
  where
    by_rows : (b : Bool) → are_plain t.setting.rows ≡ b → IsSharedWell (work_of t sizes f)
    by_rows true e = inr (shared_well t sizes f round (plain_rows t.setting.rows e))
    by_rows false e = inl (ap (λ (b : Bool). cond b (flat_map (λ (p : Pending). copies_read p.block p.request.work) (flat f)) []) e)
