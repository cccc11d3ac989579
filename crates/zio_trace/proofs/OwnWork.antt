-- A request's own work is free of attempts of other trees.
use Rattle.std.proofs.Common.{◌≡◌, ◌≢◌, ℕ, List, [], ◌∷◌, false, Option, Some, Contains, ⊎_elim, refl, sym, ap, ◌∙◌, subst}
use Rattle.std.proofs.lemmas.List.Elements.{Contains-append_left}
use Rattle.zio_types.specs.declared.place.Place.{Place}
use Rattle.zio_types.specs.Choices.{Ask, Choice}
use Rattle.zio_blkptr.specs.declared.pointer.SumKind.{SumKind}
use Rattle.zio_script.specs.declared.script.Work.{Work as Order}
use Rattle.zio_script.specs.declared.script.Work.TheVariants.{Read as WorkRead, Write, Free}
use Rattle.zio_cksum.specs.Frames.{spots_of}
use Rattle.zio_cksum.proofs.AllLemmas.{all_contains}
use Rattle.zio_gang.specs.declared.tree.Tree.{Tree}
use Rattle.zio_gang.specs.Attempts.{Pending, Terms}
use Rattle.zio_gang.specs.Trees.{header_levels_max, sizes_of}
use Rattle.zio_gang.specs.Writes.{chosen}
use Rattle.zio_trace.specs.BlockCopies.{Copies, copies_of, groups_of, reading_of}
use Rattle.zio_trace.specs.Conflicts.{is_single}
use Rattle.zio_trace.specs.Families.{Forest, NotIn, flat}
use Rattle.zio_trace.specs.Footprints.{AreFrom, IsOfPart, OfBlock, OfPart, OfRequest, OfWork, OnCopies, OnOneOf, OnSpots, Within}
use Rattle.zio_trace.specs.SoundRounds.{AreFreeParts, DifferentNumbers, IsFree, IsRead, IsSoundRound, IsWrite, shared_in}
use Rattle.zio_trace.specs.Tasks.{Attempt, ByKept, Find, Leaf, ReadHeads, Task, WriteCopies, WritePart}
use Rattle.zio_trace.proofs.ChoiceLemmas.{Answers, contained_cases}
use Rattle.zio_trace.proofs.FreeLemmas.{parts_free}
use Rattle.zio_trace.proofs.ListLemmas.{contains_first}
use Rattle.zio_trace.proofs.SoundLemmas.{trees_together}

-- what a part of a request's write does, the request does
below_request : (j : List Choice) (t : Terms) (request attempt : ℕ) (path : List ℕ) (d : Task) → OfPart j t request attempt path d → OfPart j t request attempt [] d
below_request j t request attempt path (Leaf op) h = (h.0, h.1, whole h.0 h.2, h.3, h.4)
  where
    whole : (a : Ask) → IsOfPart t.round request attempt path a → IsOfPart t.round request attempt [] a
    whole a k = record { now = k.now; by = k.by; during = k.during; below = a.key.path; at = refl }
below_request j t request attempt path (Find a) h = record { now = h.now; by = h.by; during = h.during; below = a.key.path; at = refl }
below_request j t request attempt path _ h = absurd h

of_write : (j : List Choice) (t : Terms) (p : Pending) (work : Order) (attempt : ℕ) (d : Task) → IsWrite work → OfPart j t p.request.number attempt [] d → OfWork (OnCopies t.setting) j t p work d
of_write j t p (Write name sum copies prio body) attempt d w h = (attempt, h)
of_write j t p _ attempt d w h = absurd w

of_copies : (j : List Choice) (t : Terms) (request : ℕ) (a : Ask) (places : List Place) (d : Task) → a.key.round ≡ t.round → a.key.request ≡ request → chosen j a ≡ Some places → OnSpots (spots_of t.setting places) 0 d → OfPart j t request a.key.attempt [] d
of_copies j t request a places (Leaf op) now by is h = (a, places, record { now = now; by = by; during = refl; below = a.key.path; at = refl }, is, h)
of_copies j t request a places _ now by is h = absurd h

of_reader : (t : Terms) (j : List Choice) (p : Pending) (work : Order) (tree : Tree) (d : Task) → IsRead work → p.block ≡ Some tree → OnOneOf (OnCopies t.setting) (copies_of tree) d → OfWork (OnCopies t.setting) j t p work d
of_reader t j p (WorkRead name prio) tree d r is h = subst (λ (b : Option Tree). OfBlock (OnCopies t.setting) b d) (sym is) h
of_reader t j p _ tree d r is h = absurd r

of_freer : (t : Terms) (j : List Choice) (p : Pending) (work : Order) (tree : Tree) (d : Task) → IsFree work → p.block ≡ Some tree → OnOneOf (OnCopies t.setting) (copies_of tree) d → OfWork (OnCopies t.setting) j t p work d
of_freer t j p (Free name) tree d r is h = subst (λ (b : Option Tree). OfBlock (OnCopies t.setting) b d) (sym is) h
of_freer t j p _ tree d r is h = absurd r

module _ (t : Terms) (sizes : ℕ → ℕ) (f : Forest) (journal : List Choice) (at : List ℕ) (i k : ℕ) (round : IsSoundRound t sizes f) (answers : Answers journal (sizes_of t.setting.tops) t.used t.round)
    (p q : Pending) (kids : Forest) (ne : i ≢ k) (from : AreFrom (flat f) (p ∷ q ∷ flat kids)) (other : NotIn p.request.number (q ∷ flat kids)) where
  differ : DifferentNumbers (p ∷ []) (q ∷ flat kids)
  differ x y cx cy same =
      all_contains (λ (z : Pending). z.request.number ≢ p.request.number) (q ∷ flat kids) y other cy
      (sym same ∙ ap (λ (z : Pending). z.request.number) (sym (only x cx)))
    where
      only : (x : Pending) → Contains (p ∷ []) x → p ≡ x
      only x c = ⊎_elim (λ (e : p ≡ x). e) (λ (none : Contains [] x). absurd (all_contains (λ (z : Pending). ⊥) [] x tt none)) (contained_cases p [] x c)

  -- a whole operation of the own work
  own_free : (attempt : ℕ) (op : Task) → is_single op ≡ false → ((d : Task) → Within journal t op d → OfRequest journal t p d) → AreFreeParts journal t f at i (Attempt attempt q kids) k op
  own_free attempt op whole own =
      parts_free journal t (shared_in t f) at i k (Attempt attempt q kids) op ne refl whole
      (λ d e md me. trees_together t sizes f round journal answers (p ∷ []) (q ∷ flat kids) d e (from.0, tt) from.1 differ (p, contains_first p [], own d md) me)

  pub own_parts : (attempt more : ℕ) (sum : SumKind) (copies levels : ℕ) (path bytes : List ℕ) → IsWrite p.request.work → AreFreeParts journal t f at i (Attempt attempt q kids) k (WritePart more p sum copies levels path bytes)
  own_parts attempt more sum copies levels path bytes w =
      own_free attempt (WritePart more p sum copies levels path bytes) refl (λ d md. of_write journal t p p.request.work more d w (below_request journal t p.request.number more path d md))

  pub own_copies : (attempt : ℕ) (bytes : List ℕ) (a : Ask) (places : List Place) → IsWrite p.request.work → a.key.round ≡ t.round → a.key.request ≡ p.request.number → chosen journal a ≡ Some places
      → AreFreeParts journal t f at i (Attempt attempt q kids) k (WriteCopies bytes places)
  own_copies attempt bytes a places w now by is =
      own_free attempt (WriteCopies bytes places) refl (λ d md. of_write journal t p p.request.work a.key.attempt d w (of_copies journal t p.request.number a places d now by is md))

  pub own_walk : (attempt : ℕ) (tree : Tree) → IsRead p.request.work → p.block ≡ Some tree → AreFreeParts journal t f at i (Attempt attempt q kids) k (ReadHeads (ByKept tree.heads) header_levels_max [] tree.bp)
  own_walk attempt tree r is =
      own_free attempt (ReadHeads (ByKept tree.heads) header_levels_max [] tree.bp) refl
      (λ d md. of_reader t journal p p.request.work tree d r is (md.0, Contains-append_left (groups_of tree).heads (groups_of tree).bodies md.0 md.1, md.2))

  pub own_free_walk : (attempt : ℕ) (tree : Tree) → IsFree p.request.work → p.block ≡ Some tree → AreFreeParts journal t f at i (Attempt attempt q kids) k (ReadHeads (ByKept tree.heads) header_levels_max [] tree.bp)
  own_free_walk attempt tree r is =
      own_free attempt (ReadHeads (ByKept tree.heads) header_levels_max [] tree.bp) refl
      (λ d md. of_freer t journal p p.request.work tree d r is (md.0, Contains-append_left (groups_of tree).heads (groups_of tree).bodies md.0 md.1, md.2))

  pub own_bodies : (attempt : ℕ) (tree : Tree) (c : Copies) → IsRead p.request.work → p.block ≡ Some tree → Contains (copies_of tree) c → AreFreeParts journal t f at i (Attempt attempt q kids) k (reading_of c)
  own_bodies attempt tree c r is cc = own_free attempt (reading_of c) refl (λ d md. of_reader t journal p p.request.work tree d r is (c, cc, md))
