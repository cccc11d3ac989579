-- The laws of what calls of own work do to disks and a chooser of places: one after another, and up to a stop.
use Rattle.std.proofs.Common.{◌≡◌, ℕ, List, [], ◌++◌, map, append_assoc, Bool, inl, inr, ◌⊎◌, refl, sym, ap, ◌∙◌, subst}
use Rattle.std.specs.Prelude.{true, false, Contains, IsTrue, Option, IfSome}
use Rattle.std.specs.List.{AllByRecursion, list_all}
use Rattle.std.proofs.lemmas.List.{append-nil}
use Rattle.std.proofs.lemmas.List.Concat.{flat_map-append}
use Rattle.std.proofs.lemmas.List.Elements.{Contains-append_left}
use Rattle.zio_types.specs.declared.place.Place.{Place}
use Rattle.zio_types.specs.declared.place.TopSize.{TopSize}
use Rattle.zio_types.specs.Choices.{Choice, taken_by}
use Rattle.zio_types.specs.Places.{SamePlaces, is_free, is_inside}
use Rattle.zio_cksum.specs.Frames.{SameOutside, spots_of}
use Rattle.zio_cksum.specs.Images.{Images, Setting, Spot}
use Rattle.zio_cksum.proofs.AllLemmas.{all_append, all_contains, all_weaker}
use Rattle.zio_cksum.proofs.FrameLemmas.{same_itself as images_itself, same_then as images_then}
use Rattle.zio_gang.specs.declared.tree.Tree.{Tree}
use Rattle.zio_gang.specs.Attempts.{Terms}
use Rattle.zio_gang.specs.Trees.{sizes_of}
use Rattle.zio_disks.specs.Disks.{AnyRose}
use Rattle.zio_disks.specs.Trees.{BearsTops, IsPlacedTree}
use Rattle.zio_disks.proofs.DiskLemmas.{same_itself, same_then}
use Rattle.zio_disks.proofs.WriteLemmas.{contains_left, contains_right}
use Rattle.zio_blocks.specs.Blocks.{HavePointers}
use Rattle.zio_blocks.specs.Choosers.{Continues, EntryLaw, taken_by_all}
use Rattle.zio_blocks.proofs.AskLemmas.{spots_join}
use Rattle.zio_course.specs.declared.runner.Stop.{Stop}
use Rattle.zio_course.specs.declared.runner.Stop.TheVariants.{Device, Memory}
use Rattle.zio_course.specs.Changes.{ChangedAt}
use Rattle.zio_plain.specs.Grounds.{Breaks, CanRun, HasMoved, Moves, SeenGround, TellChanged}
use Rattle.zio_plain.specs.Grounds.Moves.{Itself, Moved}
use Rattle.zio_plain.specs.OwnEnds.{Named}
use Rattle.zio_plain.specs.GroundPlaces.{free_among, inside_append, live_then, open_then, still_used, used_then}

-- ---- images

wider_spots : (xs ys : List Spot) (old new : Images) → AllByRecursion (Contains ys) xs → SameOutside xs old new → SameOutside ys old new
wider_spots xs ys old new among h = record {
  sizes = h.sizes;
  bytes = λ leaf at out. h.bytes leaf at
      (λ c. out (record { spot = c.spot; listed = all_contains (Contains ys) xs c.spot among c.listed; same_leaf = c.same_leaf; from = c.from; below = c.below }));
}

changed_then : (s : Setting) (sizes : List TopSize) (u v named : List Place) (a b c : Images) → ((p : Place) → Contains u p → Contains v p) → ChangedAt s sizes u named a b → ChangedAt s sizes v named b c
    → ChangedAt s sizes u named a c
changed_then s sizes u v named a b c within h k = record {
  places = h.places ++ k.places;
  inside = inside_append sizes h.places k.places h.inside k.inside;
  may = all_append (λ (p : Place). Contains named p ⊎ IsTrue (is_free u p)) h.places k.places h.may
      (all_weaker (λ (p : Place). Contains named p ⊎ IsTrue (is_free v p)) (λ (p : Place). Contains named p ⊎ IsTrue (is_free u p)) k.places
      (λ p may. elim may [ inl there ↦ inl there | inr free ↦ inr (free_among v u p within free) ]) k.may);
  same = subst (λ (spots : List Spot). SameOutside spots a c) (sym (spots_join s h.places k.places))
      (images_then (spots_of s h.places ++ spots_of s k.places) a b c
      (wider_spots (spots_of s h.places) (spots_of s h.places ++ spots_of s k.places) a b (contains_left (spots_of s h.places) (spots_of s k.places)) h.same)
      (wider_spots (spots_of s k.places) (spots_of s h.places ++ spots_of s k.places) b c (contains_right (spots_of s h.places) (spots_of s k.places)) k.same));
}

unchanged : (s : Setting) (sizes : List TopSize) (used named : List Place) (images : Images) → ChangedAt s sizes used named images images
unchanged s sizes used named images = record { places = []; inside = refl; may = tt; same = images_itself [] images }

tell_then : {D : Type 0} (image : D → List ℕ → Type 0) (named : List Place) (a b c : SeenGround D) → b.setting ≡ a.setting → b.sizes ≡ a.sizes → ((p : Place) → Contains a.used p → Contains b.used p)
    → TellChanged image named a b → TellChanged image named b c → TellChanged image named a c
tell_then image named a b c at_s at_z within h k before told =
    let mid = h before told in
    let end = k mid.0 mid.1 in
    let there : ChangedAt a.setting a.sizes b.used named mid.0 end.0 =
    subst (λ s. ChangedAt s a.sizes b.used named mid.0 end.0) at_s (subst (λ z. ChangedAt b.setting z b.used named mid.0 end.0) at_z end.2) in
    (end.0, end.1, changed_then a.setting a.sizes a.used b.used named before mid.0 end.0 within mid.2 there)

-- ---- entries

no_more : (Lawful : EntryLaw) (claims : Bool) (sizes : List TopSize) (u v hc : List Place) (hm km : List Choice) → (claims ≡ false → hc ≡ []) → (claims ≡ true → km ≡ [])
    → Continues Lawful
    → SamePlaces v (hc ++ (taken_by_all hm ++ u)) → Lawful sizes u hm → Lawful sizes v km → Lawful sizes u (hm ++ km)
no_more Lawful true sizes u v hc hm km none asks joins same h k = subst (Lawful sizes u) (sym (ap (λ es. hm ++ es) (asks refl) ∙ append-nil hm)) h
no_more Lawful false sizes u v hc hm km none asks joins same h k =
    joins sizes u v hm km h (subst (λ (cs : List Place). SamePlaces v (cs ++ (taken_by_all hm ++ u))) (none refl) same) k

-- ---- moves

module _ {D : Type 0} {bytes faults faults_at_fetch : D → ℕ} {home image : D → List ℕ → Type 0} {sound : D → Type 0} {named : Named} where
  moved_then : {Lawful : EntryLaw} {a b c : SeenGround D} {ps qs : List Place}
      → Continues Lawful
      → HasMoved bytes faults faults_at_fetch home image sound Lawful named a b ps → HasMoved bytes faults faults_at_fetch home image sound Lawful named b c qs
      → HasMoved bytes faults faults_at_fetch home image sound Lawful named a c (ps ++ qs)
  moved_then {Lawful} {a} {b} {c} {ps} {qs} joins h k =
      let within : (p : Place) → Contains a.used p → Contains b.used p = still_used h.claimed (taken_by_all h.more) a.used b.used h.used in
      record {
        setting = k.setting ∙ h.setting;
        round = k.round ∙ h.round;
        sizes = k.sizes ∙ h.sizes;
        disks = same_then bytes faults faults_at_fetch home image sound a.disks b.disks c.disks h.disks k.disks;
        steady = k.steady ∙ h.steady;
        outside = tell_then image named.places a b c h.setting h.sizes within h.outside k.outside;
        more = h.more ++ k.more;
        claimed = h.claimed ++ k.claimed;
        given = k.given ∙ ap (λ es. es ++ k.more) h.given ∙ append_assoc a.given h.more k.more;
        rounds = all_append (λ (e : Choice). e.asked.key.round ≡ a.round) h.more k.more h.rounds
            (subst (λ n. AllByRecursion (λ (e : Choice). e.asked.key.round ≡ n) k.more) h.round k.rounds);
        used = subst (λ (ts : List Place). SamePlaces c.used ((h.claimed ++ k.claimed) ++ (ts ++ a.used))) (sym (flat_map-append taken_by h.more k.more))
            (used_then k.claimed (taken_by_all k.more) h.claimed (taken_by_all h.more) a.used b.used c.used k.used h.used);
        lawful = no_more Lawful named.claims a.sizes a.used b.used h.claimed h.more k.more h.unclaimed k.unasked joins h.used h.lawful (subst (λ z. Lawful z b.used k.more) h.sizes k.lawful);
        unclaimed = λ none. (λ i. h.unclaimed none i ++ k.unclaimed none i);
        unasked = λ all. (λ i. h.unasked all i ++ k.unasked all i);
        live = live_then ps qs a.live b.live c.live k.live h.live;
        held = k.held;
        were_open = open_then a.used b.used ps qs h.were_open k.were_open within (λ p there. h.held.among p ((h.live p).1 (Contains-append_left ps a.live p there)));
        inside = inside_append a.sizes ps qs h.inside (subst (λ z. IsTrue (list_all (is_inside z) qs)) h.sizes k.inside);
      }

  pub moves_itself : {Lawful : EntryLaw} (a : SeenGround D) → Moves bytes faults faults_at_fetch home image sound Lawful named a a []
  moves_itself {Lawful} a = Itself refl refl

  pub moves_then : {Lawful : EntryLaw} {a b c : SeenGround D} {ps qs : List Place}
      → Continues Lawful
      → Moves bytes faults faults_at_fetch home image sound Lawful named a b ps → Moves bytes faults faults_at_fetch home image sound Lawful named b c qs
      → Moves bytes faults faults_at_fetch home image sound Lawful named a c (ps ++ qs)
  moves_then {Lawful} {a} {b} {c} {ps} {qs} joins (Itself same none) k =
      subst (λ rs. Moves bytes faults faults_at_fetch home image sound Lawful named a c (rs ++ qs)) (sym none)
      (subst (λ x. Moves bytes faults faults_at_fetch home image sound Lawful named x c qs) same k)
  moves_then {Lawful} {a} {b} {c} {ps} {qs} joins (Moved held h) (Itself same none) =
      subst (λ x. Moves bytes faults faults_at_fetch home image sound Lawful named a x (ps ++ qs)) (sym same)
      (subst (λ rs. Moves bytes faults faults_at_fetch home image sound Lawful named a b rs) (sym (ap (λ rs. ps ++ rs) none ∙ append-nil ps)) (Moved held h))
  moves_then {Lawful} joins (Moved held h) (Moved mid k) = Moved held (moved_then joins h k)

  moves_stays : {Lawful : EntryLaw} {a b : SeenGround D} {ps : List Place} → Moves bytes faults faults_at_fetch home image sound Lawful named a b ps → (b.setting ≡ a.setting) × (b.round ≡ a.round)
  moves_stays {Lawful} (Itself same none) = (ap (λ (g : SeenGround D). g.setting) same, ap (λ (g : SeenGround D). g.round) same)
  moves_stays {Lawful} (Moved held h) = (h.setting, h.round)

  -- they stay in their setting and round
  pub stays_running : {Lawful : EntryLaw} {a b : SeenGround D} {ps : List Place} (t : Terms) → Moves bytes faults faults_at_fetch home image sound Lawful named a b ps → (t.setting ≡ a.setting) × (t.round ≡ a.round)
      → (t.setting ≡ b.setting) × (t.round ≡ b.round)
  stays_running {Lawful} t h runs = let stays = moves_stays h in (runs.0 ∙ sym stays.0, runs.1 ∙ sym stays.1)

  pub moves_can : {Lawful : EntryLaw} {a b : SeenGround D} {ps : List Place} (block : Option Tree) → Moves bytes faults faults_at_fetch home image sound Lawful named a b ps → CanRun bytes a block → CanRun bytes b block
  moves_can {Lawful} block (Itself same none) can = subst (λ x. CanRun bytes x block) (sym same) can
  moves_can {Lawful} {a} {b} block (Moved held h) can = record {
    bears = subst (λ s. BearsTops s (map bytes b.disks)) (sym h.setting) (subst (BearsTops a.setting) (sym h.disks.sizes) can.bears);
    tops = subst (λ (s : Setting). HavePointers s.tops) (sym h.setting) can.tops;
    sizes = h.sizes ∙ can.sizes ∙ ap (λ (s : Setting). sizes_of s.tops) (sym h.setting);
    held = h.held;
    placed = subst (λ (s : Setting). IfSome block (IsPlacedTree (sizes_of s.tops))) (sym h.setting) can.placed;
  }

  -- ---- stops

  pub breaks_itself : {device : Type 0} (a : SeenGround D) → (device → ⊥) → Breaks bytes faults faults_at_fetch home image sound named a a device
  breaks_itself a none = record {
    setting = refl;
    sizes = refl;
    disks = same_itself bytes faults faults_at_fetch home image sound a.disks;
    rose = λ d. absurd (none d);
    calm = λ other. refl;
    outside = λ before told. (before, told, unchanged a.setting a.sizes a.used named.places before);
  }

  pub moves_breaks : {Lawful : EntryLaw} {device : Type 0} {a b c : SeenGround D} {ps : List Place} → Moves bytes faults faults_at_fetch home image sound Lawful named a b ps
      → Breaks bytes faults faults_at_fetch home image sound named b c device → Breaks bytes faults faults_at_fetch home image sound named a c device
  moves_breaks {Lawful} {device} {a} {b} {c} (Itself same none) k = subst (λ x. Breaks bytes faults faults_at_fetch home image sound named x c device) same k
  moves_breaks {Lawful} {device} {a} {b} {c} (Moved held h) k = record {
    setting = k.setting ∙ h.setting;
    sizes = k.sizes ∙ h.sizes;
    disks = same_then bytes faults faults_at_fetch home image sound a.disks b.disks c.disks h.disks k.disks;
    rose = λ d. subst (λ counts. AnyRose counts (map faults c.disks)) h.steady (k.rose d);
    calm = λ other. k.calm other ∙ h.steady;
    outside = tell_then image named.places a b c h.setting h.sizes (still_used h.claimed (taken_by_all h.more) a.used b.used h.used) h.outside k.outside;
  }

abbrev IsMemory : Stop → Type 0
IsMemory Memory = Unit {0}
IsMemory Device = ⊥

pub memory_no_device : Memory ≡ Device → ⊥
memory_no_device e = subst IsMemory e tt
