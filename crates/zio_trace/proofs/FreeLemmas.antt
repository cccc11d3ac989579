-- Two operations of one part are free of each other where what they may do doesn't conflict, or is on a shared piece.
use Rattle.std.proofs.Common.{◌≡◌, ◌≢◌, ℕ, List, [], ◌∷◌, ◌++◌, Bool, true, false, Option, Some, None, Contains, ◌⊎◌, inl, inr, ⊎_elim, refl, sym, ap, ◌∙◌, append-nil, subst}
use Rattle.zio_types.specs.Choices.{Ask, Choice}
use Rattle.zio_blkptr.specs.declared.pointer.Bp.{Bp}
use Rattle.zio_cksum.specs.Frames.{spots_of}
use Rattle.zio_cksum.specs.Images.{Setting}
use Rattle.zio_gang.specs.declared.tree.Tree.{Tree}
use Rattle.zio_gang.specs.Attempts.{Pending, Terms}
use Rattle.zio_script.specs.declared.script.Work.{Work}
use Rattle.zio_script.specs.declared.script.Work.TheVariants.{Null, Read as WorkRead, Write, Free as FreeWork, Claim}
use Rattle.zio_trace.specs.BlockCopies.{Copies, copies_from, copies_of}
use Rattle.zio_trace.specs.Clearings.{Free}
use Rattle.zio_trace.specs.Conflicts.{TasksApart, is_single}
use Rattle.zio_trace.specs.Engines.{MayDo, reach_in}
use Rattle.zio_trace.specs.Footprints.{OfBlock, OfClaim, OfHeads, OfPart, OfWork, OnCopies, OnOneOf, OnSpots, ReadsBy, ReadsHeader, Within}
use Rattle.zio_trace.specs.Labels.{IsIn, Labelled}
use Rattle.zio_trace.specs.Leaves.{AreApart, LeafOp, stores}
use Rattle.zio_trace.specs.Passing.{Stores, parent_at}
use Rattle.zio_trace.specs.Tasks.{Attempt, ByClaim, ByKept, Find, Leaf, Look, ReadCopies, ReadHeads, ReadTree, Settle, TakePlaces, Task, WriteCopies, WritePart}
use Rattle.zio_trace.specs.Underway.{part_of}
use Rattle.zio_trace.proofs.BlockPieces.{forks_differ, longer_differs}

-- ---- parts at different numbers

parent_behind : (xs : List ℕ) (n : ℕ) (ys : List ℕ) → parent_at (xs ++ n ∷ ys) ≡ xs ++ parent_at (n ∷ ys)
parent_behind [] n ys = refl
parent_behind (x ∷ []) n ys = refl
parent_behind (x ∷ y ∷ xs) n ys = ap (λ (zs : List ℕ). x ∷ zs) (parent_behind (y ∷ xs) n ys)

parents_differ : (at : List ℕ) (i k n m : ℕ) (b c x y : List ℕ) → i ≢ k → IsIn (at ++ i ∷ []) n b x → IsIn (at ++ k ∷ []) m c y → parent_at x ≢ parent_at y
parents_differ at i k n m b c x y ne hx hy e =
    forks_differ at (parent_at (n ∷ b)) (parent_at (m ∷ c)) i k ne
    (sym (parent_behind (at ++ i ∷ []) n b) ∙ ap parent_at (sym hx) ∙ e ∙ ap parent_at hy ∙ parent_behind (at ++ k ∷ []) m c)

-- an operation of the part itself has the part's place
part_parent : (at : List ℕ) (k : ℕ) → parent_at (at ++ k ∷ []) ≡ at
part_parent at k = parent_behind at k [] ∙ append-nil at

alone_differs : (at : List ℕ) (i k n : ℕ) (b x : List ℕ) → IsIn (at ++ i ∷ []) n b x → parent_at x ≡ parent_at (at ++ k ∷ []) → ⊥
alone_differs at i k n b x h e =
    longer_differs at (parent_at (n ∷ b)) i (sym (part_parent at k) ∙ sym e ∙ ap parent_at h ∙ parent_behind (at ++ i ∷ []) n b)

ask_apart : (a : Ask) (d : Task) → is_single d ≡ true → TasksApart (Find a) d
ask_apart a (Leaf op) e = tt
ask_apart a (Find b) e = tt
ask_apart a (TakePlaces tree) e = tt
ask_apart a _ e = absurd (cc)

-- ---- what a task may do are single operations

spots_single : (s : Setting) (c : Copies) (d : Task) → OnCopies s c d → is_single d ≡ true
spots_single s c (Leaf op) h = refl
spots_single s c _ h = absurd h

header_single : (s : Setting) (d : Task) → ReadsHeader s d → is_single d ≡ true
header_single s (Leaf op) h = refl
header_single s _ h = absurd h

claim_single : (s : Setting) (d : Task) → OfClaim s d → is_single d ≡ true
claim_single s (Leaf op) h = refl
claim_single s (TakePlaces tree) h = refl
claim_single s _ h = absurd h

part_single : (j : List Choice) (t : Terms) (request attempt : ℕ) (path : List ℕ) (d : Task) → OfPart j t request attempt path d → is_single d ≡ true
part_single j t request attempt path (Leaf op) h = refl
part_single j t request attempt path (Find a) h = refl
part_single j t request attempt path _ h = absurd h

block_single : (s : Setting) (cs : List Copies) (d : Task) → OnOneOf (OnCopies s) cs d → is_single d ≡ true
block_single s cs d h = spots_single s h.0 d h.2

named_single : (s : Setting) (block : Option Tree) (d : Task) → OfBlock (OnCopies s) block d → is_single d ≡ true
named_single s None d h = absurd h
named_single s (Some tree) d h = block_single s (copies_of tree) d h

work_single : (j : List Choice) (t : Terms) (p : Pending) (work : Work) (d : Task) → OfWork (OnCopies t.setting) j t p work d → is_single d ≡ true
work_single j t p Null d h = absurd h
work_single j t p (WorkRead name prio) d h = named_single t.setting p.block d h
work_single j t p (Write name sum copies prio body) d h = part_single j t p.request.number h.0 [] d h.1
work_single j t p (FreeWork name) d h = named_single t.setting p.block d h
work_single j t p (Claim name pointer) d h = claim_single t.setting d h

reads_single : (s : Setting) (repair : Bool) (c : Copies) (d : Task) → ReadsBy (OnCopies s) s repair c d → is_single d ≡ true
reads_single s true c d h = spots_single s c d h
reads_single s false c d h = spots_single s c d h.0

heads_single : (s : Setting) (look : Look) (levels : ℕ) (path : List ℕ) (bp : Bp) (d : Task) → OfHeads (OnCopies s) s look levels path bp d → is_single d ≡ true
heads_single s (ByKept heads) levels path bp d h = block_single s (copies_from levels heads path bp).heads d h
heads_single s ByClaim levels path bp d h = header_single s d h

pub within_single : (j : List Choice) (t : Terms) (q d : Task) → Within j t q d → is_single d ≡ true
within_single j t (Leaf op) d h = subst (λ (x : Task). is_single x ≡ true) h refl
within_single j t (Find a) d h = subst (λ (x : Task). is_single x ≡ true) h refl
within_single j t (TakePlaces tree) d h = subst (λ (x : Task). is_single x ≡ true) h refl
within_single j t (ReadCopies repair test len places) d h = reads_single t.setting repair (record { test = test; len = len; places = places }) d h
within_single j t (WriteCopies bytes places) d h = writes d h
  where
    writes : (d : Task) → OnSpots (spots_of t.setting places) 0 d → is_single d ≡ true
    writes (Leaf op) h = refl
    writes _ h = absurd h
within_single j t (WritePart attempt p sum copies levels path bytes) d h = part_single j t p.request.number attempt path d h
within_single j t (ReadHeads look levels path bp) d h = heads_single t.setting look levels path bp d h
within_single j t (ReadTree tree) d h = block_single t.setting (copies_of tree) d h
within_single j t (Attempt attempt p kids) d h = work_single j t h.0 h.0.request.work d h.2
within_single j t (Settle p kids) d h = work_single j t h.0 h.0.request.work d h.2

-- ---- free parts

-- both are on the copies of one of these pieces
abbrev pub OnShared : Setting → List Copies → Task → Task → Type 0
OnShared s shared d e = (c : Copies) × Contains shared c × OnSpots (spots_of s c.places) c.len d × OnSpots (spots_of s c.places) c.len e

-- they don't conflict, or are on a shared piece
abbrev pub GoTogether : Setting → List Copies → Task → Task → Type 0
GoTogether s shared d e = TasksApart d e ⊎ OnShared s shared d e

module _ (j : List Choice) (t : Terms) (shared : List Copies) where
  -- a whole part does nothing at its own place
  within_part : (x d : Labelled Task) → is_single x.op ≡ false → MayDo j t x d → (n : ℕ) × (below : List ℕ) × IsIn x.at n below d.at
  within_part x d whole may =
      ⊎_elim
      (λ (e : d ≡ x). absurd (let one : is_single d.op ≡ true = within_single j t x.op d.op may.within in
      let same : is_single d.op ≡ is_single x.op = ap (λ (y : Labelled Task). is_single y.op) e in
      let no : true ≡ false = sym one ∙ same ∙ whole in cc))
      (λ k. k) may.at

  -- whole parts at different numbers
  pub parts_free : (at : List ℕ) (i k : ℕ) (q r : Task) → i ≢ k → is_single q ≡ false → is_single r ≡ false
      → ((d e : Task) → Within j t r d → Within j t q e → GoTogether t.setting shared d e) → Free (reach_in j t shared) (part_of at i q) (part_of at k r)
  parts_free at i k q r ne wq wr f d md e me =
      let x = within_part (part_of at k r) d wr md in
      let y = within_part (part_of at i q) e wq me in
      let differ : parent_at d.at ≢ parent_at e.at = parents_differ at k i x.0 y.0 x.1 y.1 d.at e.at (λ same. ne (sym same)) x.2 y.2 in
      ⊎_elim
      (λ (apart : TasksApart d.op e.op). inl (apart, λ same. absurd (differ same)))
      (λ (both : OnShared t.setting shared d.op e.op). inr (differ, both))
      (f d.op e.op md.within me.within)

  -- writes on leaves whose places don't meet
  pub stores_free : (at : List ℕ) (i k : ℕ) (a b : LeafOp) → stores a ≡ true → stores b ≡ true → AreApart b a → Free (reach_in j t shared) (part_of at i (Leaf a)) (part_of at k (Leaf b))
  stores_free at i k a b sa sb apart d md e me =
      inl (
        subst (λ (x : Task). TasksApart x e.op) md.within (subst (TasksApart (Leaf b)) me.within apart),
        λ same. (subst Stores md.within sb, subst Stores me.within sa),
      )

  -- what the space is asked is free of each whole part
  pub ask_free : (at : List ℕ) (i k : ℕ) (q : Task) (a : Ask) → i ≢ k → is_single q ≡ false → Free (reach_in j t shared) (part_of at i q) (part_of at k (Find a))
  ask_free at i k q a ne wq d md e me =
      let y = within_part (part_of at i q) e wq me in
      let single : is_single e.op ≡ true = within_single j t q e.op me.within in
      let differ : parent_at d.at ≢ parent_at e.at = ⊎_elim
      (λ (here : d ≡ part_of at k (Find a)). λ same. alone_differs at i k y.0 y.1 e.at y.2 (sym same ∙ ap (λ (z : Labelled Task). parent_at z.at) here))
      (λ (deep : (n : ℕ) × (below : List ℕ) × IsIn (at ++ k ∷ []) n below d.at). parents_differ at k i deep.0 y.0 deep.1 y.1 d.at e.at (λ same. ne (sym same)) deep.2 y.2)
      md.at in
      inl (subst (λ (x : Task). TasksApart x e.op) md.within (ask_apart a e.op single), λ same. absurd (differ same))
