-- A round whose trees ran: its blocks to give back, its end, and what is in use then.
use Rattle.std.proofs.Common.{◌≡◌, ℕ, ◌≤◌, List, [], ◌∷◌, ◌++◌, length, map, count_by, true, ◌==◌, ◌⊎◌, sym, ap, ◌∙◌, subst}
use Rattle.std.specs.Prelude.{Contains, IsPermutation, IsTrue, Option, ◌↔◌}
use Rattle.std.specs.List.{AllByRecursion, flat_map, list_all}
use Rattle.std.proofs.lemmas.List.Elements.{Contains-append_right}
use Rattle.zio_types.specs.declared.place.Place.{Place}
use Rattle.zio_types.specs.declared.place.TopSize.{TopSize}
use Rattle.zio_types.specs.Choices.{Ask, Choice}
use Rattle.zio_types.specs.Places.{SamePlaces, are_apart, is_inside}
use Rattle.zio_blkptr.specs.Pointers.{valid}
use Rattle.zio_cksum.specs.Images.{Images}
use Rattle.zio_cksum.proofs.AllLemmas.{all_contained, all_contains, all_weaker}
use Rattle.zio_script.specs.declared.script.Request.{Request}
use Rattle.zio_script.specs.declared.script.Work.{Work}
use Rattle.zio_script.specs.declared.script.Work.TheVariants.{Null, Read, Write, Free, Claim}
use Rattle.zio_gang.specs.declared.tree.Tree.{Tree}
use Rattle.zio_gang.specs.Attempts.{Pending}
use Rattle.zio_gang.specs.Journals.{asks_of}
use Rattle.zio_places.proofs.PlaceLemmas.{contains-included}
use Rattle.zio_disks.specs.Disks.{Tell}
use Rattle.zio_disks.specs.Whole.{IsWholeTree}
use Rattle.zio_blocks.specs.Choosers.{AreLeft, EntryLaw}
use Rattle.zio_course.specs.declared.runner.RequestEnd.{RequestEnd}
use Rattle.zio_course.specs.Runners.{DiffersInRound, IsRoundEnd, SeenEnd, freed_by, freed_places, joined_trees, made_places, named_places, places_of_block, requests_in}
use Rattle.zio_course.proofs.SortLemmas.{IsOneOf}
use Rattle.zio_plain.specs.Grounds.{HasMoved, SeenGround, TellChanged}
use Rattle.zio_plain.specs.Plains.{SeenPlain, standing_of}
use Rattle.zio_plain.specs.Settlings.{IsListEnd, IsTreeRun, TreeRun, ends_run, freed_run, named_in, trees_in}
use Rattle.zio_plain.proofs.OwnerLemmas.{runs_apart}
use Rattle.zio_plain.proofs.PlainBegun.{SteadyPlain, begun, whole_valid}
use Rattle.zio_plain.proofs.PlainFreed.{freed_fewer, freed_whole, places_in}
use Rattle.zio_plain.proofs.PlainGiven.{freed_same}
use Rattle.zio_course.proofs.ItemLemmas.{found_one, of_part, one_found, part_of}
use Rattle.zio_course.proofs.MadePlaces.{made_inside, made_open, made_same}
use Rattle.zio_plain.proofs.PlainLive.{live_after}
use Rattle.zio_disks.proofs.TellLemmas.{told_count}
use Rattle.zio_course.proofs.ItemLemmas.{same_length}
use Rattle.zio_course.proofs.LooseLemmas.{changed_loose}
use Rattle.zio_course.proofs.OpenPlaces.{apart_fewer}

-- a block that is to be freed is one that is named
frees_named : (work : Work) (block : Option Tree) (q : Place) → IsOneOf q (freed_by work block) → IsOneOf q (places_of_block block)
frees_named Null block q at = absurd at
frees_named (Read name prio) block q at = absurd at
frees_named (Write name sum copies prio body) block q at = absurd at
frees_named (Free name) block q at = at
frees_named (Claim name pointer) block q at = absurd at

-- what the frees of trees name
abbrev frees_of : List (List Pending) → List Place
frees_of trees = flat_map (λ (p : Pending). freed_by p.request.work p.block) (joined_trees trees)

all_named : (trees : List (List Pending)) (q : Place) → Contains (frees_of trees) q → Contains (named_places trees) q
all_named trees q c =
    let part = part_of (λ (p : Pending). freed_by p.request.work p.block) (joined_trees trees) q (found_one q (frees_of trees) c) in
    one_found q (named_places trees) (of_part (λ (p : Pending). places_of_block p.block) (joined_trees trees) part.of q part.at (frees_named part.of.request.work part.of.block q part.there))

-- what was asked for in a round is of the round
asks_round : (number : ℕ) (given : List Choice) → AllByRecursion (λ (c : Choice). c.asked.key.round ≡ number) given → AllByRecursion (λ (q : Ask). q.key.round ≡ number) (asks_of given)
asks_round number [] h = tt
asks_round number (c ∷ given) h = (h.0, asks_round number given h.1)

-- entries for what was asked in a round are of the round
keys_round : (number : ℕ) (given entries : List Choice) → AllByRecursion (λ (c : Choice). c.asked.key.round ≡ number) given → AllByRecursion (λ q. Contains (asks_of given) q) (asks_of entries)
    → AllByRecursion (λ (c : Choice). c.asked.key.round ≡ number) entries
keys_round number given [] h asked = tt
keys_round number given (e ∷ entries) h asked =
    (all_contains (λ (q : Ask). q.key.round ≡ number) (asks_of given) e.asked (asks_round number given h) asked.0, keys_round number given entries h asked.1)

-- the entries of a round that began with none
pub all_entries : (old more new : List Choice) → old ≡ [] → new ≡ old ++ more → new ≡ more
all_entries old more new none is = is ∙ ap (λ es. es ++ more) none

module _ {D C : Type 0} (bytes faults faults_at_fetch : D → ℕ) (home image : D → List ℕ → Type 0) (sound : D → Type 0) (Lawful : EntryLaw)
    (sizes : C → List TopSize) (used live : C → List Place) (given : C → List Choice) where
  -- the trees of a round ran from the begun ground on
  pub record HasRun (p : SeenPlain D C) (number point : ℕ) (trees : List (List Pending)) (runs : List TreeRun) (finished : List RequestEnd) (freed : List Tree) (new : SeenGround D) : Type 0 where
    pub steady : SteadyPlain bytes faults faults_at_fetch home image sound Lawful sizes used live given p
    pub moved : HasMoved bytes faults faults_at_fetch home image sound Lawful (named_in trees) (begun bytes faults faults_at_fetch home image sound Lawful sizes used live given p number point) new (made_places (ends_run runs))
    pub whole : trees ≡ trees_in runs
    pub each : AllByRecursion IsTreeRun runs
    pub same : IsPermutation (ends_run runs) finished
    pub freed_are : freed ≡ freed_run runs
    pub once : (n : ℕ) → count_by (λ (r : Request). r.number == n) (requests_in trees) ≤ 1
    pub within : AllByRecursion (Contains (live p.chooser)) (named_places trees)
    pub apart : are_apart (frees_of trees) ≡ true

  module _ (p : SeenPlain D C) (number point : ℕ) (trees : List (List Pending)) (runs : List TreeRun) (finished : List RequestEnd) (freed : List Tree) (new : SeenGround D)
      (h : HasRun p number point trees runs finished freed new) where
    -- ---- what is given back

    freed_live : (q : Place) → Contains (places_in freed) q → Contains (live p.chooser) q
    freed_live q c =
        all_contains (Contains (live p.chooser)) (named_places trees) q h.within
        (all_named trees q
        (contains-included (places_in (freed_run runs)) (frees_of trees) (freed_fewer trees runs h.whole h.each) q (subst (λ ts. Contains (places_in ts) q) h.freed_are c)))

    pub freed_in_use : AllByRecursion (Contains new.live) (places_in freed)
    freed_in_use =
        all_weaker (Contains (places_in freed)) (Contains new.live) (places_in freed)
        (λ q c. (h.moved.live q).1 (Contains-append_right (made_places (ends_run runs)) (live p.chooser) q (freed_live q c))) (all_contained (places_in freed))

    pub freed_apart : are_apart (places_in freed) ≡ true
    freed_apart = ap (λ ts. are_apart (places_in ts)) h.freed_are ∙ apart_fewer (places_in (freed_run runs)) (frees_of trees) (freed_fewer trees runs h.whole h.each) h.apart

    pub freed_valid : AllByRecursion (λ (tree : Tree). IsTrue (valid tree.bp)) freed
    freed_valid =
        subst (AllByRecursion (λ (tree : Tree). IsTrue (valid tree.bp))) (sym h.freed_are)
        (all_weaker IsWholeTree (λ (tree : Tree). IsTrue (valid tree.bp)) (freed_run runs) whole_valid (freed_whole runs h.each))

    -- ---- what is in use

    pub lives : (last : List Place) → AreLeft new.live (places_in freed) last → (q : Place)
        → Contains last q ↔ ((Contains (live p.chooser) q × ¬ Contains (freed_places trees finished) q) ⊎ Contains (made_places finished) q)
    lives last left q =
        live_after (sizes p.chooser) (used p.chooser) (live p.chooser) new.live last (made_places (ends_run runs)) (places_in freed) (freed_places trees finished) (made_places finished)
        h.steady.same h.moved.live left h.moved.inside h.moved.were_open freed_live
        (subst (λ ts. SamePlaces (places_in ts) (freed_places trees finished)) (sym h.freed_are) (freed_same trees runs finished h.whole h.each (runs_apart trees runs h.whole h.once) h.same))
        (made_same (ends_run runs) finished h.same) q

    -- ---- the round's end

    pub round_ends : (end : SeenEnd) → IsListEnd number trees end.left finished end.completions → end.finished ≡ finished
        → AllByRecursion (λ q. Contains (asks_of new.given) q) (asks_of end.entries)
        → IsRoundEnd (standing_of faults live p) number trees end
    round_ends end l finished_are asked =
        let ends : IsListEnd number trees end.left end.finished end.completions =
        subst (λ fs. IsListEnd number trees end.left fs end.completions) (sym finished_are) l in
        let same : IsPermutation (ends_run runs) end.finished = subst (IsPermutation (ends_run runs)) (sym finished_are) h.same in record {
          each = ends.each;
          rests = ends.rests;
          claims = ends.claims;
          rising = ends.rising;
          reads = ends.reads;
          sectors = ends.sectors;
          makers = ends.makers;
          inside = subst (λ ts. IsTrue (list_all (is_inside ts) (made_places end.finished))) h.steady.sizes_are (made_inside (sizes p.chooser) (ends_run runs) end.finished same h.moved.inside);
          free = made_open (used p.chooser) (live p.chooser) (ends_run runs) end.finished h.steady.same same h.moved.were_open;
          completed = ends.completed;
          all_completed = ends.all_completed;
          once = ends.once;
          after_children = ends.after_children;
          keys = keys_round number new.given end.entries
              (subst (AllByRecursion (λ (c : Choice). c.asked.key.round ≡ number)) (sym (all_entries (given p.chooser) h.moved.more new.given h.steady.taken h.moved.given)) h.moved.rounds) asked;
        }

  -- ---- images

  -- images that changed at places that weren't in use or are named, and nowhere else
  pub differs : (p : SeenPlain D C) (number point : ℕ) (trees : List (List Pending)) (new : SeenGround D) → SteadyPlain bytes faults faults_at_fetch home image sound Lawful sizes used live given p → map bytes new.disks ≡ map bytes p.disks
      → TellChanged image (named_places trees) (begun bytes faults faults_at_fetch home image sound Lawful sizes used live given p number point) new
      → (before : Images) → Tell image p.disks before → (after : Images) × Tell image new.disks after × DiffersInRound (standing_of faults live p) trees before after
  differs p number point trees new steady same outside before told =
      let k = outside before told in
      let count : length k.0 ≡ length before = told_count image new.disks k.0 k.1 ∙ same_length bytes p.disks new.disks same ∙ sym (told_count image p.disks before told) in (
        k.0,
        k.1,
        changed_loose (record { tops = p.setting.tops; rows = p.setting.rows; point = point }) (sizes p.chooser) (used p.chooser) (live p.chooser) (named_places trees) before k.0 steady.sizes_are steady.same count k.2,
      )
