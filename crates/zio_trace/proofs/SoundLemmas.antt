-- What the requests of a sound round do lies on the leaves, and doesn't conflict between two of them.
use Rattle.std.proofs.Common.{◌≡◌, ◌≢◌, ℕ, ◌*◌, ◌<◌, ◌≤◌, cond, List, [], ◌∷◌, Bool, true, false, ◌&&◌, not, Option, Some, None, IfSome, Contains, ◌⊎◌, inl, inr, ⊎_elim, refl, sym, ap, ◌∙◌, subst, arith, slice_get}
use Rattle.std.specs.List.{AllByRecursion, flat_map}
use Rattle.zio_types.specs.declared.place.Place.{Place}
use Rattle.zio_types.specs.Choices.{Choice}
use Rattle.zio_types.specs.Places.{sector_size}
use Rattle.zio_faults.specs.declared.table.Row.{Row}
use Rattle.zio_faults.specs.declared.table.FaultKind.{FaultKind}
use Rattle.zio_faults.specs.declared.table.FaultKind.TheVariants.{Eio, Gone, Flip}
use Rattle.zio_script.specs.declared.script.Work.{Work}
use Rattle.zio_script.specs.declared.script.Work.TheVariants.{Null, Read as WorkRead, Write, Free, Claim}
use Rattle.zio_cksum.specs.Images.{Setting}
use Rattle.zio_cksum.proofs.AllLemmas.{all_contains, all_weaker}
use Rattle.zio_gang.specs.declared.tree.Tree.{Tree}
use Rattle.zio_gang.specs.Attempts.{Pending, Terms}
use Rattle.zio_gang.specs.Trees.{sizes_of}
use Rattle.zio_trace.specs.BlockCopies.{Copies, copies_of}
use Rattle.zio_trace.specs.Conflicts.{TaskLies}
use Rattle.zio_trace.specs.Families.{Forest, NoTrees, TreeOf, flat}
use Rattle.zio_trace.specs.Footprints.{AreFrom, OfBlock, OfClaim, OfRequest, OfTree, OfWork, OnCopies, OnOneOf}
use Rattle.zio_trace.specs.Leaves.{spot_of}
use Rattle.zio_trace.specs.Readers.{RowsArePlain, TurnsNoBytes}
use Rattle.zio_trace.specs.Separate.{BlocksApart, HaveRoomFor, IsNoClaim, IsSoundBlock, IsSoundRequest, LeavesOnce}
use Rattle.zio_trace.specs.SoundRounds.{DifferentNumbers, IsOwnBlock, IsRead, IsSoundRound, ReadOneBlock, are_plain, copies_if, copies_read, shared_in, turns_no_bytes}
use Rattle.zio_trace.specs.Tasks.{Leaf, TakePlaces, Task}
use Rattle.zio_trace.specs.TreeOrders.{Pairs}
use Rattle.zio_trace.proofs.BlockPieces.{CopiesApart}
use Rattle.zio_trace.proofs.ChoiceLemmas.{Answers, contained_cases}
use Rattle.zio_trace.proofs.FreeLemmas.{GoTogether}
use Rattle.zio_trace.proofs.OwnBlocks.{block_apart}
use Rattle.zio_trace.proofs.PairLemmas.{flat_contains, pairs_two}
use Rattle.zio_trace.proofs.PlaceLemmas.{copies_lie, below_sectors}
use Rattle.zio_trace.proofs.RequestFootprints.{request_same}
use Rattle.zio_trace.proofs.SeparateLemmas.{request_touches, touches_apart, touches_lie}
use Rattle.zio_trace.proofs.SpotLemmas.{AllInside, NoneTouch, spots_clear, touch_turned}

-- ---- rows

plain_kind : (kind : FaultKind) → TurnsNoBytes kind → turns_no_bytes kind ≡ true
plain_kind Eio h = refl
plain_kind Gone h = refl
plain_kind Flip h = absurd h

and_true : (a b : Bool) → a ≡ true → b ≡ true → (a && b) ≡ true
and_true true b e h = h
and_true false b e h = absurd (cc)

pub rows_plain : (rows : List Row) → RowsArePlain rows → are_plain rows ≡ true
rows_plain [] h = refl
rows_plain (row ∷ rows) h =
    and_true (not row.first && turns_no_bytes row.kind) (are_plain rows)
    (and_true (not row.first) (turns_no_bytes row.kind) (ap not h.0.0) (plain_kind row.kind h.0.1)) (rows_plain rows h.1)

-- ---- one block

-- two operations on one block's pieces don't conflict, or are on one piece
pub pieces_together : (s : Setting) (shared cs : List Copies) (d e : Task) → LeavesOnce s.tops → Pairs CopiesApart cs → ((c : Copies) → Contains cs c → Contains shared c) → OnOneOf (OnCopies s) cs d → OnOneOf (OnCopies s) cs e → GoTogether s shared d e
pieces_together s shared cs (Leaf a) (Leaf b) once pairs inside h k =
    ⊎_elim
    (λ (same : h.0 ≡ k.0). inr (h.0, inside h.0 h.1, h.2, subst (λ (c : Copies). OnCopies s c (Leaf b)) (sym same) k.2))
    (λ (either : CopiesApart h.0 k.0 ⊎ CopiesApart k.0 h.0).
    let none : NoneTouch h.0.places k.0.places = ⊎_elim (λ (x : CopiesApart h.0 k.0). x) (λ (x : CopiesApart k.0 h.0). touch_turned k.0.places h.0.places x) either in
    inl (inr (spots_clear s h.0.places k.0.places (spot_of a) (spot_of b) once none h.2.listed k.2.listed)))
    (pairs_two CopiesApart cs h.0 k.0 pairs h.1 k.1)
pieces_together s shared cs (Leaf a) _ once pairs inside h k = absurd k.2
pieces_together s shared cs _ _ once pairs inside h k = absurd h.2

-- ---- the round

module _ (t : Terms) (sizes : ℕ → ℕ) (f : Forest) (round : IsSoundRound t sizes f) where
  abbrev pub OwnBlock : Tree → Type 0
  OwnBlock tree = IsOwnBlock (sizes_of t.setting.tops) t.used tree

  pub block_of : (p : Pending) → Contains (flat f) p → IfSome p.block OwnBlock
  block_of p c = all_contains (λ (x : Pending). IfSome x.block OwnBlock) (flat f) p round.blocks c

  pub own_of : (p : Pending) (tree : Tree) → Contains (flat f) p → p.block ≡ Some tree → OwnBlock tree
  own_of p tree c is = subst (λ (b : Option Tree). IfSome b OwnBlock) is (block_of p c)

  pub pieces_of_round : (tree : Tree) → OwnBlock tree → Pairs CopiesApart (copies_of tree)
  pieces_of_round tree block = block_apart t.setting tree block.sound.inside block.own

  sound_if : (b : Option Tree) → IfSome b OwnBlock → IfSome b (λ (tree : Tree). IsSoundBlock (sizes_of t.setting.tops) t.used tree)
  sound_if None h = tt
  sound_if (Some tree) h = h.sound

  request_sound : (p : Pending) → Contains (flat f) p → IsNoClaim p.request.work → IsSoundRequest t p
  request_sound p c none = record { no_claim = none; block = sound_if p.block (block_of p c) }

  -- ---- they lie on the leaves

  header_room : (ps : List Place) → AllInside t.setting ps → HaveRoomFor sector_size ps
  header_room ps inside =
      all_weaker _ (λ (p : Place). sector_size ≤ p.sectors * sector_size) ps
      (λ p h. let some : 0 < p.sectors = (below_sectors p (slice_get (sizes_of t.setting.tops) p.top) h).0 in omega arith) inside

  claim_lies : (d : Task) → OfClaim t.setting d → TaskLies sizes d
  claim_lies (Leaf op) h = copies_lie t.setting sizes sector_size h.1.0 op round.hold h.1.1 (header_room h.1.0 h.1.1) h.1.2
  claim_lies (TakePlaces tree) h = tt
  claim_lies _ h = absurd h

  no_claim_lies : (j : List Choice) → Answers j (sizes_of t.setting.tops) t.used t.round → (p : Pending) → Contains (flat f) p → IsNoClaim p.request.work → (d : Task) → OfRequest j t p d → TaskLies sizes d
  no_claim_lies j answers p c none d h = touches_lie j t sizes round.hold p d (request_touches j t answers p (request_sound p c none) d h)

  work_lies : (j : List Choice) → Answers j (sizes_of t.setting.tops) t.used t.round → (p : Pending) → Contains (flat f) p → (work : Work) → p.request.work ≡ work → (d : Task) → OfWork (OnCopies t.setting) j t p work d → TaskLies sizes d
  work_lies j answers p c Null e d h = absurd h
  work_lies j answers p c (WorkRead name prio) e d h = no_claim_lies j answers p c (subst IsNoClaim (sym e) tt) d (subst (λ (w : Work). OfWork (OnCopies t.setting) j t p w d) (sym e) h)
  work_lies j answers p c (Write name sum copies prio body) e d h = no_claim_lies j answers p c (subst IsNoClaim (sym e) tt) d (subst (λ (w : Work). OfWork (OnCopies t.setting) j t p w d) (sym e) h)
  work_lies j answers p c (Free name) e d h = no_claim_lies j answers p c (subst IsNoClaim (sym e) tt) d (subst (λ (w : Work). OfWork (OnCopies t.setting) j t p w d) (sym e) h)
  work_lies j answers p c (Claim name pointer) e d h = claim_lies d h

  pub request_lies : (j : List Choice) → Answers j (sizes_of t.setting.tops) t.used t.round → (p : Pending) → Contains (flat f) p → (d : Task) → OfRequest j t p d → TaskLies sizes d
  request_lies j answers p c d h = work_lies j answers p c p.request.work refl d h

  -- ---- two requests

  pub in_shared : RowsArePlain t.setting.rows → (p : Pending) (c : Copies) → Contains (flat f) p → Contains (copies_read p.block p.request.work) c → Contains (shared_in t f) c
  in_shared plain p c cp cc =
      let all : List Copies = flat_map (λ (x : Pending). copies_read x.block x.request.work) (flat f) in
      subst (λ (b : Bool). Contains (cond b all []) c) (sym (rows_plain t.setting.rows plain)) (flat_contains (λ (x : Pending). copies_read x.block x.request.work) (flat f) p c cp cc)

  of_read : (j : List Choice) (p : Pending) (work : Work) (d : Task) → IsRead work → OfWork (OnCopies t.setting) j t p work d → OfBlock (OnCopies t.setting) p.block d
  of_read j p (WorkRead name prio) d r h = h
  of_read j p _ d r h = absurd r

  read_copies : (block : Option Tree) (work : Work) (c : Copies) → IsRead work → Contains (copies_if block) c → Contains (copies_read block work) c
  read_copies block (WorkRead name prio) c r h = h
  read_copies block _ c r h = absurd r

  block_together : (block : Option Tree) (d e : Task) → IfSome block OwnBlock → ((c : Copies) → Contains (copies_if block) c → Contains (shared_in t f) c) → OfBlock (OnCopies t.setting) block d → OfBlock (OnCopies t.setting) block e → GoTogether t.setting (shared_in t f) d e
  block_together None d e own inside h k = absurd h
  block_together (Some tree) d e own inside h k = pieces_together t.setting (shared_in t f) (copies_of tree) d e round.once (pieces_of_round tree own) inside h k

  read_together : (j : List Choice) (p q : Pending) (d e : Task) → Contains (flat f) p → ReadOneBlock t p q → OfRequest j t p d → OfRequest j t q e → GoTogether t.setting (shared_in t f) d e
  read_together j p q d e c one h k =
      block_together p.block d e (block_of p c) (λ x cx. in_shared one.rows p x c (read_copies p.block p.request.work x one.first cx))
      (of_read j p p.request.work d one.first h) (subst (λ (b : Option Tree). OfBlock (OnCopies t.setting) b e) (sym one.same) (of_read j q q.request.work e one.second k))

  alone : (p q : Pending) → flat f ≡ q ∷ [] → Contains (flat f) p → q ≡ p
  alone p q e c =
      ⊎_elim (λ (is : q ≡ p). is) (λ (no : Contains [] p). absurd (all_contains (λ (x : Pending). ⊥) [] p tt no))
      (contained_cases q [] p (subst (λ (xs : List Pending). Contains xs p) e c))

  -- two requests of the round don't conflict, or are on one piece that is shared
  pub requests_together : (j : List Choice) → Answers j (sizes_of t.setting.tops) t.used t.round → (p q : Pending) (d e : Task) → Contains (flat f) p → Contains (flat f) q → p.request.number ≢ q.request.number
      → OfRequest j t p d → OfRequest j t q e → GoTogether t.setting (shared_in t f) d e
  requests_together j answers p q d e cp cq ne h k =
      ⊎_elim
      (λ (none : AllByRecursion (λ (x : Pending). IsNoClaim x.request.work) (flat f)).
      let sp : IsSoundRequest t p = request_sound p cp (all_contains _ (flat f) p none cp) in
      let sq : IsSoundRequest t q = request_sound q cq (all_contains _ (flat f) q none cq) in
      ⊎_elim
      (λ (apart : BlocksApart p.block q.block). inl (touches_apart j t answers round.once p q sp sq ne apart d e (request_touches j t answers p sp d h) (request_touches j t answers q sq e k)))
      (λ (one : ReadOneBlock t p q). read_together j p q d e cp one h k)
      (round.different p q cp cq ne))
      (λ (one : (x : Pending) × (f ≡ TreeOf x NoTrees NoTrees)).
      let flats : flat f ≡ one.0 ∷ [] = ap flat one.1 in
      absurd (ne (ap (λ (x : Pending). x.request.number) (sym (alone p one.0 flats cp) ∙ alone q one.0 flats cq))))
      round.claims

  pub trees_together : (j : List Choice) → Answers j (sizes_of t.setting.tops) t.used t.round → (ps qs : List Pending) (d e : Task) → AreFrom (flat f) ps → AreFrom (flat f) qs → DifferentNumbers ps qs
      → OfTree j t ps d → OfTree j t qs e → GoTogether t.setting (shared_in t f) d e
  trees_together j answers ps qs d e fp fq ne h k =
      let p : (x : Pending) × Contains (flat f) x × (x.request ≡ h.0.request) × (x.block ≡ h.0.block) = all_contains _ ps h.0 fp h.1 in
      let q : (x : Pending) × Contains (flat f) x × (x.request ≡ k.0.request) × (x.block ≡ k.0.block) = all_contains _ qs k.0 fq k.1 in
      requests_together j answers p.0 q.0 d e p.1 q.1 (λ same. ne h.0 k.0 h.1 k.1 (ap (λ r. r.number) (sym p.2) ∙ same ∙ ap (λ r. r.number) q.2))
      (request_same (OnCopies t.setting) j t p.0 h.0 d p.2 p.3 h.2) (request_same (OnCopies t.setting) j t q.0 k.0 e q.2 q.3 k.2)
