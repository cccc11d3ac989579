-- A part of a block that was placed without error: its pointer, its headers, and a write of each of its pieces.
use Rattle.std.proofs.Common.{◌≡◌, ◌≢◌, ℕ, ◌+◌, ◌≤◌, List, [], ◌∷◌, ◌++◌, length, map, take, drop, Some, sym, ◌∙◌, subst, append-nil, length-take, arith}
use Rattle.std.specs.List.{AllByRecursion}
use Rattle.zio_types.specs.declared.place.Place.{Place}
use Rattle.zio_types.specs.Choices.{Choice}
use Rattle.zio_blkptr.specs.declared.pointer.Bp.{Bp}
use Rattle.zio_cksum.proofs.AllLemmas.{all_append, all_weaker}
use Rattle.zio_gang.specs.declared.tree.Head.{Head}
use Rattle.zio_gang.specs.Attempts.{Pending, Terms}
use Rattle.zio_gang.specs.Trees.{kept_at, sizes_of}
use Rattle.zio_trace.specs.Plans.{Kin, add_kin}
use Rattle.zio_trace.specs.Programs.{Deed}
use Rattle.zio_trace.specs.RoundTraces.{Trace}
use Rattle.zio_trace.specs.Tasks.{Stored, Task, Value}
use Rattle.zio_trace.proofs.BlockPieces.{forks_differ}
use Rattle.zio_trace.proofs.ChoiceLemmas.{Answers}
use Rattle.zio_trace.proofs.SpotLemmas.{NoneTouch}
use Rattle.zio_heal.specs.Contents.{HasPieces, HaveBytes}
use Rattle.zio_heal.specs.Pools.{IsPool}
use Rattle.zio_heal.proofs.PieceLemmas.{AreOff, bytes_weaker, kept_front, kept_rest, pieces_weaker}
use Rattle.zio_heal.proofs.PlacedPlaces.{AreOwn, IsFoundAt, IsFoundFrom, own_before, pointers_in}
use Rattle.zio_heal.proofs.PointerLemmas.{IsSpelled}
use Rattle.zio_heal.proofs.WrittenPieces.{AllWriteAt, AtMember, IsAt, IsWrittenIn, WritesAt, all_writes, paths_apart, written_more}

-- the header is at the path or below it
pub record IsHeadBelow (path : List ℕ) (h : Head) : Type 0 where
  pub below : List ℕ
  pub at : h.path ≡ path ++ below

-- the header is below the gang at the path, of a member from this number on
pub record IsHeadFrom (path : List ℕ) (n : ℕ) (h : Head) : Type 0 where
  pub number : ℕ
  pub from : n ≤ number
  pub below : List ℕ
  pub at : h.path ≡ (path ++ number ∷ []) ++ below

-- the same headers are kept at the path and below it
abbrev pub KeepBelow : List Head → List Head → List ℕ → Type 0
KeepBelow heads own path = (below : List ℕ) → kept_at heads (path ++ below) ≡ kept_at own (path ++ below)

abbrev pub KeepFrom : List Head → List Head → List ℕ → ℕ → Type 0
KeepFrom heads own path n = (i : ℕ) → n ≤ i → (below : List ℕ) → kept_at heads ((path ++ i ∷ []) ++ below) ≡ kept_at own ((path ++ i ∷ []) ++ below)

module _ (journal : List Choice) (t : Terms) (p : Pending) where
  -- a part with the deeds that placed it
  pub record IsPartWritten (levels : ℕ) (path bytes : List ℕ) (ds : Trace) (st : Stored) : Type 0 where
    pub bp : Bp
    pub pointer : st.pointer ≡ Some bp
    pub can_spell : IsSpelled bp
    pub size : bp.size ≡ length bytes
    pub writes : AllWriteAt (IsAt journal t p path) ds
    pub heads : AllByRecursion (IsHeadBelow path) st.heads
    pub places : AreOwn (IsFoundAt journal t p path) (bp ∷ pointers_in st.heads)
    pub pieces : (heads : List Head) → KeepBelow heads st.heads path → HasPieces (IsWrittenIn t (IsAt journal t p path) ds) levels heads path bp bytes

  -- members in order, numbered from n
  pub record AreMembersWritten (levels : ℕ) (path : List ℕ) (n : ℕ) (ns bytes : List ℕ) (ds : Trace) (k : Kin) : Type 0 where
    pub bps : List Bp
    pub pointers : k.pointers ≡ map Some bps
    pub sizes_are : map (λ (m : Bp). m.size) bps ≡ ns
    pub can_spell : AllByRecursion IsSpelled bps
    pub writes : AllWriteAt (AtMember journal t p path n) ds
    pub heads : AllByRecursion (IsHeadFrom path n) k.heads
    pub places : AreOwn (IsFoundFrom journal t p path n) (bps ++ pointers_in k.heads)
    pub pieces : (heads : List Head) → KeepFrom heads k.heads path n → HaveBytes (HasPieces (IsWrittenIn t (AtMember journal t p path n) ds) levels heads) path n bps bytes

  -- ---- members

  -- headers below one member are at no path below another
  off_member : (path below : List ℕ) (n i : ℕ) (hs : List Head) → n ≢ i → AllByRecursion (IsHeadBelow (path ++ n ∷ [])) hs → AreOff ((path ++ i ∷ []) ++ below) hs
  off_member path below n i hs ne h =
      all_weaker (IsHeadBelow (path ++ n ∷ [])) (λ (x : Head). x.path ≢ (path ++ i ∷ []) ++ below) hs
      (λ x k e. forks_differ path k.below below n i ne (sym k.at ∙ e)) h

  off_later : (path below : List ℕ) (n : ℕ) (hs : List Head) → AllByRecursion (IsHeadFrom path (n + 1)) hs → AreOff ((path ++ n ∷ []) ++ below) hs
  off_later path below n hs h =
      all_weaker (IsHeadFrom path (n + 1)) (λ (x : Head). x.path ≢ (path ++ n ∷ []) ++ below) hs
      (λ x k e. let l : n + 1 ≤ k.number = k.from in forks_differ path k.below below k.number n (λ (same : k.number ≡ n). absurd (omega arith)) (sym k.at ∙ e)) h

  head_at_member : (path : List ℕ) (n : ℕ) (h : Head) → IsHeadBelow (path ++ n ∷ []) h → IsHeadFrom path n h
  head_at_member path n h k = record { number = n; from = omega arith; below = k.below; at = k.at }

  head_earlier : (path : List ℕ) (n : ℕ) (h : Head) → IsHeadFrom path (n + 1) h → IsHeadFrom path n h
  head_earlier path n h k = let l : n + 1 ≤ k.number = k.from in record { number = k.number; from = omega arith; below = k.below; at = k.at }

  to_member : (path : List ℕ) (n : ℕ) (qs : List Place) → IsAt journal t p (path ++ n ∷ []) qs → AtMember journal t p path n qs
  to_member path n qs a = record { number = n; from = omega arith; there = a }

  to_earlier : (path : List ℕ) (n : ℕ) (qs : List Place) → AtMember journal t p path (n + 1) qs → AtMember journal t p path n qs
  to_earlier path n qs a = let l : n + 1 ≤ a.number = a.from in record { number = a.number; from = omega arith; there = a.there }

  module _ (sizes : ℕ → ℕ) (pool : IsPool sizes t.setting.tops) (answers : Answers journal (sizes_of t.setting.tops) t.used t.round) where
    -- later members leave a member's copies alone
    alone_later : (path : List ℕ) (n : ℕ) (ps : List Place) (ds : Trace) → IsAt journal t p (path ++ n ∷ []) ps → AllWriteAt (AtMember journal t p path (n + 1)) ds → AllWriteAt (NoneTouch ps) ds
    alone_later path n ps ds a h =
        all_writes (AtMember journal t p path (n + 1)) (NoneTouch ps)
        (λ qs b. let l : n + 1 ≤ b.number = b.from in
        paths_apart journal t sizes pool answers p p (path ++ n ∷ []) (path ++ b.number ∷ []) ps qs a b.there
        (λ below under e. forks_differ path below under n b.number (λ (same : n ≡ b.number). absurd (omega arith)) e))
        ds h

    -- a member in front of the others
    pub member_before : (levels : ℕ) (path : List ℕ) (n size : ℕ) (ns bytes : List ℕ) (ds es : Trace) (st : Stored) (k : Kin) → size ≤ length bytes
        → IsPartWritten levels (path ++ n ∷ []) (take size bytes) ds st → AreMembersWritten levels path (n + 1) ns (drop size bytes) es k
        → AreMembersWritten levels path n (size ∷ ns) bytes (ds ++ es) (add_kin st k)
    member_before levels path n size ns bytes ds es st k room one more =
        let at : List ℕ = path ++ n ∷ [] in
        let long : length (take size bytes) ≡ size = length-take size bytes ∙ omega arith in
        let e : one.bp.size ≡ size = one.size ∙ long in
        record {
          bps = one.bp ∷ more.bps;
          pointers = λ i. one.pointer i ∷ more.pointers i;
          sizes_are = λ i. e i ∷ more.sizes_are i;
          can_spell = (one.can_spell, more.can_spell);
          writes = all_append (λ (d : Deed Task Value). WritesAt (AtMember journal t p path n) d.op) ds es
              (all_writes (IsAt journal t p at) (AtMember journal t p path n) (to_member path n) ds one.writes)
              (all_writes (AtMember journal t p path (n + 1)) (AtMember journal t p path n) (to_earlier path n) es more.writes);
          heads = all_append (IsHeadFrom path n) st.heads k.heads
              (all_weaker (IsHeadBelow at) (IsHeadFrom path n) st.heads (head_at_member path n) one.heads)
              (all_weaker (IsHeadFrom path (n + 1)) (IsHeadFrom path n) k.heads (head_earlier path n) more.heads);
          places = own_before journal t p sizes pool answers path n one.bp more.bps st.heads k.heads one.places more.places;
          pieces = λ heads keep. (
            subst (λ (m : ℕ). HasPieces (IsWrittenIn t (AtMember journal t p path n) (ds ++ es)) levels heads at one.bp (take m bytes)) (sym e)
                (pieces_weaker (IsWrittenIn t (IsAt journal t p at) ds) (IsWrittenIn t (AtMember journal t p path n) (ds ++ es))
                (λ c bs h. written_more t (IsAt journal t p at) (AtMember journal t p path n) [] ds es c bs (to_member path n c.places) (λ a. alone_later path n c.places es a more.writes) h)
                levels heads at one.bp (take size bytes)
                (one.pieces heads (λ below. keep n (omega arith) below ∙ kept_front st.heads k.heads (at ++ below) (off_later path below n k.heads more.heads)))),
            subst (λ (m : ℕ). HaveBytes (HasPieces (IsWrittenIn t (AtMember journal t p path n) (ds ++ es)) levels heads) path (n + 1) more.bps (drop m bytes)) (sym e)
                (bytes_weaker (HasPieces (IsWrittenIn t (AtMember journal t p path (n + 1)) es) levels heads) (HasPieces (IsWrittenIn t (AtMember journal t p path n) (ds ++ es)) levels heads)
                (pieces_weaker (IsWrittenIn t (AtMember journal t p path (n + 1)) es) (IsWrittenIn t (AtMember journal t p path n) (ds ++ es))
                (λ c bs h. subst (λ (xs : Trace). IsWrittenIn t (AtMember journal t p path n) (ds ++ xs) c bs) (append-nil es)
                (written_more t (AtMember journal t p path (n + 1)) (AtMember journal t p path n) ds es [] c bs (to_earlier path n c.places) (λ a. tt) h))
                levels heads)
                path (n + 1) more.bps (drop size bytes)
                (more.pieces heads (λ i from below. keep i (omega arith) below
                ∙ kept_rest st.heads k.heads ((path ++ i ∷ []) ++ below) (off_member path below n i st.heads (λ (same : n ≡ i). absurd (omega arith)) one.heads)))),
          );
        }
