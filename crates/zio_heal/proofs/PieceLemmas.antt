-- What holds of each piece of a block, and which headers are kept for one.
use Rattle.std.proofs.Common.{◌≡◌, ◌≢◌, ℕ, zero, suc, ◌+◌, List, [], ◌∷◌, ◌++◌, take, drop, find, Bool, true, false, cond, bytes_eq, Option, Some, None, option_map, refl, ap, ◌∙◌, subst}
use Rattle.std.proofs.lemmas.Slice.Eq.{bytes_eq-Decides}
use Rattle.std.specs.List.{AllByRecursion}
use Rattle.zio_blkptr.specs.declared.pointer.Bp.{Bp}
use Rattle.zio_cksum.specs.Headers.{members_of}
use Rattle.zio_gang.specs.declared.tree.Head.{Head}
use Rattle.zio_gang.specs.declared.tree.Tree.{Tree}
use Rattle.zio_gang.specs.Pieces.{members_kept}
use Rattle.zio_gang.specs.Trees.{header_levels_max, kept_at}
use Rattle.zio_trace.specs.BlockCopies.{Copies, Groups, below_copies, body_copies, copies_from, copies_of, groups_if, groups_of, groups_of_members, head_copies, no_groups}
use Rattle.zio_trace.proofs.ListLemmas.{all_front, all_rest}
use Rattle.zio_heal.specs.Contents.{EachPiece, HasPieces, HaveBytes, IfGang, IsGangOf}

-- ---- of each piece

if_weaker : (gang : Bool) (A B C D : Type 0) → (A → B) → (C → D) → IfGang gang A C → IfGang gang B D
if_weaker true A B C D f g h = f h
if_weaker false A B C D f g h = g h

pub bytes_weaker : (one two : List ℕ → Bp → List ℕ → Type 0) → ((path : List ℕ) (bp : Bp) (bytes : List ℕ) → one path bp bytes → two path bp bytes) → (path : List ℕ) (n : ℕ) (ms : List Bp) (bytes : List ℕ) → HaveBytes one path n ms bytes → HaveBytes two path n ms bytes
bytes_weaker one two f path n [] bytes h = h
bytes_weaker one two f path n (m ∷ ms) bytes h =
    (f (path ++ n ∷ []) m (take m.size bytes) h.0, bytes_weaker one two f path (n + 1) ms (drop m.size bytes) h.1)

-- where it holds of each piece, what follows from it does
pub pieces_weaker : (P Q : Copies → List ℕ → Type 0) → ((c : Copies) (bytes : List ℕ) → P c bytes → Q c bytes) → (levels : ℕ) (heads : List Head) (path : List ℕ) (bp : Bp) (bytes : List ℕ) → HasPieces P levels heads path bp bytes → HasPieces Q levels heads path bp bytes
unfolding HasPieces
pieces_weaker P Q f zero heads path bp bytes h = if_weaker bp.gang ⊥ ⊥ (P (body_copies bp) bytes) (Q (body_copies bp) bytes) (λ no. no) (λ k. f (body_copies bp) bytes k) h
pieces_weaker P Q f (suc levels) heads path bp bytes h =
    if_weaker bp.gang _ _ (P (body_copies bp) bytes) (Q (body_copies bp) bytes)
    (λ g. record {
      header = g.header;
      kept = g.kept;
      own = f (head_copies heads path bp) g.header g.own;
      members = bytes_weaker (HasPieces P levels heads) (HasPieces Q levels heads) (pieces_weaker P Q f levels heads) path 0 _ bytes g.members;
    })
    (λ k. f (body_copies bp) bytes k) h

pub each_weaker : (P Q : Copies → List ℕ → Type 0) → ((c : Copies) (bytes : List ℕ) → P c bytes → Q c bytes) → (tree : Tree) (content : List ℕ) → EachPiece P tree content → EachPiece Q tree content
each_weaker P Q f tree content h = pieces_weaker P Q f header_levels_max tree.heads [] tree.bp content h

of_body : (gang : Bool) (A B : Type 0) → gang ≡ false → B → IfGang gang A B
of_body true A B e h = absurd (cc)
of_body false A B e h = h

of_gang : (gang : Bool) (A B : Type 0) → gang ≡ true → A → IfGang gang A B
of_gang true A B e h = h
of_gang false A B e h = absurd (cc)

-- a body is its pointer's only piece
pub body_piece : (P : Copies → List ℕ → Type 0) (levels : ℕ) (heads : List Head) (path : List ℕ) (bp : Bp) (bytes : List ℕ) → bp.gang ≡ false → P (body_copies bp) bytes → HasPieces P levels heads path bp bytes
unfolding HasPieces
body_piece P zero heads path bp bytes e h = of_body bp.gang ⊥ (P (body_copies bp) bytes) e h
body_piece P (suc levels) heads path bp bytes e h = of_body bp.gang (IsGangOf P (λ ms. HaveBytes (HasPieces P levels heads) path 0 ms bytes) heads path bp) (P (body_copies bp) bytes) e h

-- a gang has its header and its members
pub gang_pieces : (P : Copies → List ℕ → Type 0) (levels : ℕ) (heads : List Head) (path : List ℕ) (bp : Bp) (bytes : List ℕ) → bp.gang ≡ true → IsGangOf P (λ ms. HaveBytes (HasPieces P levels heads) path 0 ms bytes) heads path bp → HasPieces P (suc levels) heads path bp bytes
unfolding HasPieces
gang_pieces P levels heads path bp bytes e h = of_gang bp.gang (IsGangOf P (λ ms. HaveBytes (HasPieces P levels heads) path 0 ms bytes) heads path bp) (P (body_copies bp) bytes) e h

-- ---- with what is known of each piece

abbrev BothAre : (Copies → Type 0) → Groups → Type 0
BothAre S g = AllByRecursion S g.heads × AllByRecursion S g.bodies

module _ (P : Copies → List ℕ → Type 0) (S : Copies → Type 0) where
  abbrev And : Copies → List ℕ → Type 0
  And c bytes = P c bytes × S c

  members_with : (groups : List ℕ → Bp → Groups) (one two : List ℕ → Bp → List ℕ → Type 0) → ((path : List ℕ) (bp : Bp) (bytes : List ℕ) → BothAre S (groups path bp) → one path bp bytes → two path bp bytes)
      → (path : List ℕ) (n : ℕ) (ms : List Bp) (bytes : List ℕ) → BothAre S (groups_of_members groups path n ms) → HaveBytes one path n ms bytes → HaveBytes two path n ms bytes
  members_with groups one two f path n [] bytes known h = h
  members_with groups one two f path n (m ∷ ms) bytes known h =
      let g : Groups = groups (path ++ n ∷ []) m in
      let rest : Groups = groups_of_members groups path (n + 1) ms in (
        f (path ++ n ∷ []) m (take m.size bytes) (all_front S g.heads rest.heads known.0, all_front S g.bodies rest.bodies known.1) h.0,
        members_with groups one two f path (n + 1) ms (drop m.size bytes) (all_rest S g.heads rest.heads known.0, all_rest S g.bodies rest.bodies known.1) h.1,
      )

  if_with : (gang : Bool) (bp : Bp) (g : Groups) (bytes : List ℕ) (A B : Type 0) → (BothAre S g → A → B) → BothAre S (groups_if gang bp g) → IfGang gang A (P (body_copies bp) bytes) → IfGang gang B (And (body_copies bp) bytes)
  if_with true bp g bytes A B f known h = f known h
  if_with false bp g bytes A B f known h = (h, known.1.0)

  pieces_with : (levels : ℕ) (heads : List Head) (path : List ℕ) (bp : Bp) (bytes : List ℕ) → BothAre S (copies_from levels heads path bp) → HasPieces P levels heads path bp bytes → HasPieces And levels heads path bp bytes
  unfolding copies_from HasPieces
  pieces_with zero heads path bp bytes known h = if_with bp.gang bp no_groups bytes ⊥ ⊥ (λ k no. no) known h
  pieces_with (suc levels) heads path bp bytes known h =
      if_with bp.gang bp (below_copies (head_copies heads path bp) (groups_of_members (copies_from levels heads) path 0 (members_kept (kept_at heads path)))) bytes _ _
      (λ k g.
      let members : BothAre S (groups_of_members (copies_from levels heads) path 0 (members_of g.header)) =
      subst (λ (x : Option (List ℕ)). BothAre S (groups_of_members (copies_from levels heads) path 0 (members_kept x))) g.kept (k.0.1, k.1) in
      record {
        header = g.header;
        kept = g.kept;
        own = (g.own, k.0.0);
        members = members_with (copies_from levels heads) (HasPieces P levels heads) (HasPieces And levels heads) (pieces_with levels heads) path 0 (members_of g.header) bytes members g.members;
      })
      known h

  pub each_with : (tree : Tree) (content : List ℕ) → AllByRecursion S (copies_of tree) → EachPiece P tree content → EachPiece And tree content
  each_with tree content known h =
      pieces_with header_levels_max tree.heads [] tree.bp content
      (all_front S (groups_of tree).heads (groups_of tree).bodies known, all_rest S (groups_of tree).heads (groups_of tree).bodies known) h

-- ---- kept headers

-- none of these is at the path
abbrev pub AreOff : List ℕ → List Head → Type 0
AreOff path heads = AllByRecursion (λ (h : Head). h.path ≢ path) heads

not_equal : (b : Bool) (x y : List ℕ) → bytes_eq x y ≡ b → x ≢ y → b ≡ false
not_equal true x y e ne = absurd (ne ((bytes_eq-Decides x y).0 e))
not_equal false x y e ne = refl

step_same : (b : Bool) (x : Head) (a c : Option Head) → option_map (λ (h : Head). h.bytes) a ≡ option_map (λ (h : Head). h.bytes) c → option_map (λ (h : Head). h.bytes) (cond b (Some x) a) ≡ option_map (λ (h : Head). h.bytes) (cond b (Some x) c)
step_same true x a c e = refl
step_same false x a c e = e

pub kept_other : (x : Head) (xs : List Head) (path : List ℕ) → x.path ≢ path → kept_at (x ∷ xs) path ≡ kept_at xs path
kept_other x xs path ne =
    ap (λ (b : Bool). option_map (λ (h : Head). h.bytes) (cond b (Some x) (find (λ (h : Head). bytes_eq h.path path) xs))) (not_equal (bytes_eq x.path path) x.path path refl ne)

pub kept_first : (x : Head) (xs : List Head) → kept_at (x ∷ xs) x.path ≡ Some x.bytes
kept_first x xs =
    ap (λ (b : Bool). option_map (λ (h : Head). h.bytes) (cond b (Some x) (find (λ (h : Head). bytes_eq h.path x.path) xs))) ((bytes_eq-Decides x.path x.path).1 refl)

kept_none : (ys : List Head) (path : List ℕ) → AreOff path ys → kept_at ys path ≡ None
kept_none [] path h = refl
kept_none (y ∷ ys) path h = kept_other y ys path h.0 ∙ kept_none ys path h.1

pub kept_front : (xs ys : List Head) (path : List ℕ) → AreOff path ys → kept_at (xs ++ ys) path ≡ kept_at xs path
kept_front [] ys path h = kept_none ys path h
kept_front (x ∷ xs) ys path h =
    step_same (bytes_eq x.path path) x (find (λ (k : Head). bytes_eq k.path path) (xs ++ ys)) (find (λ (k : Head). bytes_eq k.path path) xs) (kept_front xs ys path h)

pub kept_rest : (xs ys : List Head) (path : List ℕ) → AreOff path xs → kept_at (xs ++ ys) path ≡ kept_at ys path
kept_rest [] ys path h = refl
kept_rest (x ∷ xs) ys path h = kept_other x (xs ++ ys) path h.0 ∙ kept_rest xs ys path h.1
