-- The pieces that several trees of a sound round read.
use Rattle.std.proofs.Common.{◌≡◌, ◌≢◌, ℕ, ◌+◌, ◌≤◌, cond, List, [], ◌∷◌, ◌++◌, Bool, true, false, ◌&&◌, not, Option, Some, None, Contains, ◌⊎◌, inl, inr, ⊎_elim, refl, sym, ap, ◌∙◌, subst, arith}
use Rattle.std.proofs.lemmas.Bool.{and_parts, cases_eq}
use Rattle.std.proofs.lemmas.List.Elements.{Contains-append_cases}
use Rattle.std.specs.List.{AllByRecursion}
use Rattle.zio_faults.specs.declared.table.Row.{Row}
use Rattle.zio_faults.specs.declared.table.FaultKind.{FaultKind}
use Rattle.zio_faults.specs.declared.table.FaultKind.TheVariants.{Eio, Gone, Flip}
use Rattle.zio_script.specs.declared.script.Work.{Work}
use Rattle.zio_script.specs.declared.script.Work.TheVariants.{Read as WorkRead, Free}
use Rattle.zio_cksum.specs.Frames.{spots_of}
use Rattle.zio_cksum.proofs.AllLemmas.{all_contained, all_contains}
use Rattle.zio_gang.specs.declared.tree.Tree.{Tree}
use Rattle.zio_gang.specs.Attempts.{Pending, Terms}
use Rattle.zio_gang.specs.Trees.{sizes_of, tree_places}
use Rattle.zio_trace.specs.BlockCopies.{Copies, copies_of}
use Rattle.zio_trace.specs.Families.{Forest, NoTrees, TreeOf, flat}
use Rattle.zio_trace.specs.Keys.{NumbersOnce, bit, count_in}
use Rattle.zio_trace.specs.Labels.{same_number}
use Rattle.zio_trace.specs.Leaves.{AreClear}
use Rattle.zio_trace.specs.Readers.{CopiesApart as SpotsApart, CopiesLie, RowsArePlain, TurnsNoBytes}
use Rattle.zio_trace.specs.Separate.{BlocksApart, HaveRoomFor, IsNoClaim, NoneMeet}
use Rattle.zio_trace.specs.SoundRounds.{IsOwnBlock, IsSoundRound, ReadOneBlock, are_plain, copies_if, copies_read, shared_in, turns_no_bytes}
use Rattle.zio_trace.specs.Together.{CopiesClear}
use Rattle.zio_trace.proofs.BlockPieces.{CopiesApart}
use Rattle.zio_trace.proofs.ChoiceLemmas.{contained_cases}
use Rattle.zio_trace.proofs.CopiesLemmas.{copies_follow}
use Rattle.zio_trace.proofs.LabelLemmas.{number_itself}
use Rattle.zio_trace.proofs.ListLemmas.{contains_first, contains_later}
use Rattle.zio_trace.proofs.OwnBlocks.{piece_own}
use Rattle.zio_trace.proofs.PairLemmas.{all_of, contains_flat, pairs_two}
use Rattle.zio_trace.proofs.PlaceLemmas.{spots_lie}
use Rattle.zio_trace.proofs.SeparateLemmas.{copies_places}
use Rattle.zio_trace.proofs.SoundLemmas.{own_of, pieces_of_round}
use Rattle.zio_trace.proofs.SoundRoundLemmas.{counted, first_differs, kids_once, others_once}
use Rattle.zio_trace.proofs.SpotLemmas.{AllInside, NoneTouch, clear_turned, none_touch, own_spots, spots_clear, touch_turned}

-- ---- rows

turned_none : (kind : FaultKind) → turns_no_bytes kind ≡ true → TurnsNoBytes kind
turned_none Eio e = tt
turned_none Gone e = tt
turned_none Flip e = absurd (cc)

not_first : (b : Bool) → not b ≡ true → b ≡ false
not_first true e = absurd (cc)
not_first false e = refl

pub plain_rows : (rows : List Row) → are_plain rows ≡ true → RowsArePlain rows
plain_rows [] e = tt
plain_rows (row ∷ rows) e =
    let both = and_parts (not row.first && turns_no_bytes row.kind) (are_plain rows) e in
    let one = and_parts (not row.first) (turns_no_bytes row.kind) both.0 in
    ((not_first row.first one.0, turned_none row.kind one.1), plain_rows rows both.1)

-- ---- numbers

none_here : {X : Type 0} (x : X) → Contains [] x → ⊥
none_here x c = all_contains (λ (y : _). ⊥) [] x tt c

-- a forest's requests are told by their numbers
pub numbers_tell : (g : Forest) (x y : Pending) → NumbersOnce g → Contains (flat g) x → Contains (flat g) y → x.request.number ≡ y.request.number → x ≡ y
numbers_tell NoTrees x y once cx cy e = absurd (none_here x cx)
numbers_tell (TreeOf p kids others) x y once cx cy e =
    ⊎_elim
    (λ (a : Contains (p ∷ flat kids) x).
    ⊎_elim (λ (b : Contains (p ∷ flat kids) y). in_tree (λ kx ky. numbers_tell kids x y (kids_once p kids others once) kx ky e) a b) (λ (b : Contains (flat others) y). absurd (first_differs p kids others once x y a b e)) (sides y cy))
    (λ (a : Contains (flat others) x).
    ⊎_elim (λ (b : Contains (p ∷ flat kids) y). absurd (first_differs p kids others once y x b a (sym e))) (λ (b : Contains (flat others) y). numbers_tell others x y (others_once p kids others once) a b e) (sides y cy))
    (sides x cx)
  where
    sides : (z : Pending) → Contains (flat kids ++ p ∷ flat others) z → Contains (p ∷ flat kids) z ⊎ Contains (flat others) z
    sides z c =
        ⊎_elim (λ (k : Contains (flat kids) z). inl (contains_later p (flat kids) z k))
        (λ (r : Contains (p ∷ flat others) z).
        ⊎_elim (λ (is : p ≡ z). inl (subst (Contains (p ∷ flat kids)) is (contains_first p (flat kids)))) (λ (k : Contains (flat others) z). inr k) (contained_cases p (flat others) z r))
        (Contains-append_cases (flat kids) (p ∷ flat others) z c)

    root_alone : (z : Pending) → Contains (flat kids) z → p.request.number ≡ z.request.number → ⊥
    root_alone z c same =
        let one : bit (same_number p.request.number z.request.number) ≡ 1 = ap (λ (n : ℕ). bit (same_number n z.request.number)) same ∙ ap bit (number_itself z.request.number) in
        let some : 1 ≤ count_in z.request.number kids = counted kids z c in
        let all : bit (same_number p.request.number z.request.number) + (count_in z.request.number kids + count_in z.request.number others) ≤ 1 = once z.request.number in
        omega arith

    in_tree : (Contains (flat kids) x → Contains (flat kids) y → x ≡ y) → Contains (p ∷ flat kids) x → Contains (p ∷ flat kids) y → x ≡ y
    in_tree again a b =
        ⊎_elim
        (λ (px : p ≡ x).
        ⊎_elim (λ (py : p ≡ y). sym px ∙ py) (λ (ky : Contains (flat kids) y). absurd (root_alone y ky (ap (λ (z : Pending). z.request.number) px ∙ e))) (contained_cases p (flat kids) y b))
        (λ (kx : Contains (flat kids) x).
        ⊎_elim (λ (py : p ≡ y). absurd (root_alone x kx (ap (λ (z : Pending). z.request.number) py ∙ sym e))) (λ (ky : Contains (flat kids) y). again kx ky) (contained_cases p (flat kids) y b))
        (contained_cases p (flat kids) x a)

-- ---- shared pieces

-- the piece is one of a block that a request of the round reads
pub record IsPieceIn (f : Forest) (c : Copies) : Type 0 where
  pub request : Pending
  pub listed : Contains (flat f) request
  pub tree : Tree
  pub block : request.block ≡ Some tree
  pub piece : Contains (copies_of tree) c
  pub no_claim : IsNoClaim request.request.work

from_if : (b : Bool) (cs : List Copies) (c : Copies) → Contains (cond b cs []) c → Contains cs c
from_if true cs c h = h
from_if false cs c h = absurd (none_here c h)

module _ (t : Terms) (sizes : ℕ → ℕ) (f : Forest) (round : IsSoundRound t sizes f) where
  read_by : (p : Pending) → Contains (flat f) p → (block : Option Tree) (c : Copies) → p.block ≡ block → IsNoClaim p.request.work → Contains (copies_if block) c → IsPieceIn f c
  read_by p cp None c e none h = absurd (none_here c h)
  read_by p cp (Some tree) c e none h = record { request = p; listed = cp; tree = tree; block = e; piece = h; no_claim = none }

  read_work : (p : Pending) → Contains (flat f) p → (work : Work) (c : Copies) → p.request.work ≡ work → Contains (copies_read p.block work) c → IsPieceIn f c
  read_work p cp (WorkRead name prio) c e h = read_by p cp p.block c refl (subst IsNoClaim (sym e) tt) h
  read_work p cp (Free name) c e h = read_by p cp p.block c refl (subst IsNoClaim (sym e) tt) h
  read_work p cp _ c e h = absurd (none_here c h)

  pub shared_from : (c : Copies) → Contains (shared_in t f) c → IsPieceIn f c
  shared_from c h =
      let k = contains_flat (λ (p : Pending). copies_read p.block p.request.work) (flat f) c (from_if (are_plain t.setting.rows) _ c h) in
      read_work k.0 k.1 k.0.request.work c refl k.2

  own_tree : (c : Copies) (x : IsPieceIn f c) → IsOwnBlock (sizes_of t.setting.tops) t.used x.tree
  own_tree c x = own_of t sizes f round x.request x.tree x.listed x.block

  pub piece_inside : (c : Copies) (x : IsPieceIn f c) → AllInside t.setting c.places
  piece_inside c x = copies_places _ x.tree c (own_tree c x).sound.inside x.piece

  pub piece_used : (c : Copies) (x : IsPieceIn f c) → AllByRecursion (Contains t.used) c.places
  piece_used c x = copies_places (Contains t.used) x.tree c (own_tree c x).sound.in_use x.piece

  -- ---- its copies

  pub copies_well : (c : Copies) → Contains (shared_in t f) c → SpotsApart (spots_of t.setting c.places) × CopiesLie sizes c.len (spots_of t.setting c.places)
  copies_well c h =
      let x : IsPieceIn f c = shared_from c h in
      let own = own_tree c x in (
        (λ u v cu cv.
            ⊎_elim (λ (e : u ≡ v). inl e)
            (λ (either : AreClear u v ⊎ AreClear v u). inr (⊎_elim (λ (k : AreClear u v). k) (λ (k : AreClear v u). clear_turned v u k) either))
            (pairs_two AreClear (spots_of t.setting c.places) u v (own_spots t.setting c.places round.once round.twice (piece_own t.setting x.tree own.sound.inside own.own c x.piece)) cu cv)),
        spots_lie t.setting sizes c.len c.places round.hold (piece_inside c x)
            (all_contains (λ (d : Copies). HaveRoomFor d.len d.places) (copies_of x.tree) c (copies_follow HaveRoomFor x.tree own.sound.room) x.piece),
      )

  -- ---- two pieces

  pub copies_clear : (c d : Copies) → NoneTouch c.places d.places → CopiesClear t.setting c d
  copies_clear c d none =
      all_of _ (spots_of t.setting c.places) (λ u cu. all_of (AreClear u) (spots_of t.setting d.places) (λ v cv. spots_clear t.setting c.places d.places u v round.once none cu cv))

  of_one_tree : (tree : Tree) → IsOwnBlock (sizes_of t.setting.tops) t.used tree → (c d : Copies) → Contains (copies_of tree) c → Contains (copies_of tree) d → (c ≡ d) ⊎ CopiesClear t.setting c d
  of_one_tree tree own c d cc cd =
      ⊎_elim (λ (e : c ≡ d). inl e)
      (λ (either : CopiesApart c d ⊎ CopiesApart d c). inr (copies_clear c d (⊎_elim (λ (k : CopiesApart c d). k) (λ (k : CopiesApart d c). touch_turned d.places c.places k) either)))
      (pairs_two CopiesApart (copies_of tree) c d (pieces_of_round t sizes f round tree own) cc cd)

  same_tree : (c d : Copies) (x : IsPieceIn f c) (y : IsPieceIn f d) → x.request.block ≡ y.request.block → (c ≡ d) ⊎ CopiesClear t.setting c d
  same_tree c d x y e =
      let same : y.tree ≡ x.tree = some_is y.tree x.tree (sym y.block ∙ sym e ∙ x.block) in
      of_one_tree x.tree (own_tree c x) c d x.piece (subst (λ (z : Tree). Contains (copies_of z) d) same y.piece)
    where
      some_is : (a b : Tree) → Some a ≡ Some b → a ≡ b
      some_is a b h = let is : a ≡ b = cc in is

  meet_none : (a b : Option Tree) (x y : Tree) → a ≡ Some x → b ≡ Some y → BlocksApart a b → NoneMeet (tree_places x) (tree_places y)
  meet_none a b x y ea eb h = subst (λ (z : Option Tree). BlocksApart (Some x) z) eb (subst (λ (z : Option Tree). BlocksApart z b) ea h)

  different_trees : (c d : Copies) (x : IsPieceIn f c) (y : IsPieceIn f d) → BlocksApart x.request.block y.request.block → NoneTouch c.places d.places
  different_trees c d x y apart p q cp cq =
      let own_x = own_tree c x in
      let own_y = own_tree d y in
      none_touch t.setting (tree_places x.tree) (tree_places y.tree) own_x.sound.inside own_y.sound.inside (meet_none x.request.block y.request.block x.tree y.tree x.block y.block apart) p q
      (all_contains (Contains (tree_places x.tree)) c.places p (copies_places (Contains (tree_places x.tree)) x.tree c (all_contained (tree_places x.tree)) x.piece) cp)
      (all_contains (Contains (tree_places y.tree)) d.places q (copies_places (Contains (tree_places y.tree)) y.tree d (all_contained (tree_places y.tree)) y.piece) cq)

  pub shared_clear : (c d : Copies) → Contains (shared_in t f) c → Contains (shared_in t f) d → (c ≡ d) ⊎ CopiesClear t.setting c d
  shared_clear c d hc hd =
      let x : IsPieceIn f c = shared_from c hc in
      let y : IsPieceIn f d = shared_from d hd in
      ⊎_elim
      (λ (e : x.request.request.number ≡ y.request.request.number). same_tree c d x y (ap (λ (p : Pending). p.block) (numbers_tell f x.request y.request round.numbers x.listed y.listed e)))
      (λ (ne : x.request.request.number ≢ y.request.request.number).
      ⊎_elim
      (λ (apart : BlocksApart x.request.block y.request.block). inr (copies_clear c d (different_trees c d x y apart)))
      (λ (one : ReadOneBlock t x.request y.request). same_tree c d x y one.same)
      (round.different x.request y.request x.listed y.listed ne))
      (cases_eq x.request.request.number y.request.request.number)
