-- The blocks that are bound at a round's start stay safe through it.
use Rattle.std.proofs.Common.{◌≡◌, ℕ, List, [], ◌∷◌, ◌++◌, map, Bool, true, false, cond, find, Option, Some, None, option_map, IfSome, Contains, ◌⊎◌, inl, inr, ⊎_elim, refl, sym, ◌∙◌, subst}
use Rattle.std.proofs.lemmas.Slice.Eq.{bytes_eq-Decides}
use Rattle.std.specs.List.{AllByRecursion}
use Rattle.zio_types.specs.declared.place.Place.{Place}
use Rattle.zio_types.specs.Choices.{Choice}
use Rattle.zio_types.specs.Places.{meets}
use Rattle.zio_blkptr.specs.Pointers.{places_of}
use Rattle.zio_script.specs.declared.script.Work.{Work}
use Rattle.zio_script.specs.declared.script.Work.TheVariants.{Null, Read, Write, Free, Claim}
use Rattle.zio_cksum.specs.Images.{Images}
use Rattle.zio_cksum.proofs.AllLemmas.{all_contains, all_true, all_weaker}
use Rattle.zio_gang.specs.declared.tree.Tree.{Tree}
use Rattle.zio_gang.specs.Attempts.{Pending, Terms}
use Rattle.zio_gang.specs.Pieces.{Piece, pieces_of}
use Rattle.zio_gang.specs.Rounds.{Binding, Bound, block_of, is_of, settle_each, used_places}
use Rattle.zio_gang.specs.Trees.{sizes_of, tree_places, tree_pointers}
use Rattle.zio_trace.specs.BlockCopies.{Copies, copies_of}
use Rattle.zio_trace.specs.Programs.{Deed, Happen}
use Rattle.zio_trace.specs.RoundTraces.{Trace, is_single_or_piece, round_trace}
use Rattle.zio_trace.specs.RunTraces.{RoundStart, in_round}
use Rattle.zio_trace.specs.Separate.{IsNoClaim, NoneMeet}
use Rattle.zio_trace.specs.Tasks.{Task, Value, means}
use Rattle.zio_trace.proofs.BlockPieces.{CopiesApart as PiecesApart}
use Rattle.zio_trace.proofs.ChoiceLemmas.{Answers, IsPlaced, answers_in_round, chosen_placed}
use Rattle.zio_trace.proofs.CopiesLemmas.{copies_follow}
use Rattle.zio_trace.proofs.ListLemmas.{all_front, all_rest, contains_first, contains_later}
use Rattle.zio_trace.proofs.OwnBlocks.{block_apart}
use Rattle.zio_trace.proofs.PairLemmas.{all_of, flat_contains, pairs_two}
use Rattle.zio_trace.proofs.SeparateLemmas.{pieces_among}
use Rattle.zio_trace.proofs.SpotLemmas.{AllInside, NoneTouch, none_touch, touch_turned}
use Rattle.zio_heal.specs.Contents.{EachPiece}
use Rattle.zio_heal.specs.Given.{AreTrueReads, Deeds}
use Rattle.zio_heal.specs.SafeBlocks.{BindingsApart, Contents, IsSafe, IsSafeBlock}
use Rattle.zio_heal.specs.SafeRounds.{HaveChildren, IsReady, IsSafeStart, NamesWell, deeds_in, requests_in}
use Rattle.zio_heal.proofs.EndedRequests.{AreBy, IsBy, IsFrom}
use Rattle.zio_heal.proofs.HeldBlocks.{sound_pieces}
use Rattle.zio_heal.proofs.KidsLemmas.{IsFitting, LeftKids}
use Rattle.zio_heal.proofs.OwnTraces.{IsBeside, one_passes}
use Rattle.zio_heal.proofs.PieceLemmas.{each_weaker, each_with}
use Rattle.zio_heal.proofs.RoundTells.{RoundTells, round_by, round_tells}
use Rattle.zio_heal.proofs.SafeTraces.{AllPass, IsStill, Passes, all_still}
use Rattle.zio_heal.proofs.WrittenPieces.{AreUsable, IsAt, found_inside}

-- ---- names

-- one of the bindings has the block
pub record IsNamed (bound : Bound) (tree : Tree) : Type 0 where
  pub binding : Binding
  pub listed : Contains bound binding
  pub is : binding.tree ≡ tree

-- one of the bindings is of the name, and has the block
pub record IsBinding (bound : Bound) (name : List ℕ) (tree : Tree) : Type 0 where
  pub named : IsNamed bound tree
  pub name_is : named.binding.name ≡ name

binding_step : (found : Bool) (b : Binding) (bound : Bound) (name : List ℕ) (tree : Tree) → is_of name b ≡ found → option_map (λ (x : Binding). x.tree) (cond found (Some b) (find (is_of name) bound)) ≡ Some tree
    → (block_of bound name ≡ Some tree → IsBinding bound name tree) → IsBinding (b ∷ bound) name tree
binding_step true b bound name tree is e rest = record { named = record { binding = b; listed = contains_first b bound; is = cc }; name_is = (bytes_eq-Decides b.name name).0 is }
binding_step false b bound name tree is e rest =
    let k : IsBinding bound name tree = rest e in
    record { named = record { binding = k.named.binding; listed = contains_later b bound k.named.binding k.named.listed; is = k.named.is }; name_is = k.name_is }

pub find_binding : (bound : Bound) (name : List ℕ) (tree : Tree) → block_of bound name ≡ Some tree → IsBinding bound name tree
find_binding [] name tree e = absurd (cc)
find_binding (b ∷ bound) name tree e = binding_step (is_of name b) b bound name tree refl e (find_binding bound name tree)

pub block_named : (bound : Bound) (work : Work) (block : Option Tree) (tree : Tree) → NamesWell bound work block → block ≡ Some tree → IsNamed bound tree
block_named bound Null block tree h e = let no : None ≡ Some tree = sym h ∙ e in absurd (cc)
block_named bound (Read name prio) block tree h e = (find_binding bound name tree (sym h.is ∙ e)).named
block_named bound (Write name sum copies prio body) block tree h e = let no : None ≡ Some tree = sym h.0 ∙ e in absurd (cc)
block_named bound (Free name) block tree h e = (find_binding bound name tree (sym h.is ∙ e)).named
block_named bound (Claim name pointer) block tree h e = absurd h

pub if_some : {X : Type 0} (o : Option X) (P : X → Type 0) → ((x : X) → o ≡ Some x → P x) → IfSome o P
if_some None P f = tt
if_some (Some x) P f = f x refl

-- the places of a piece are places of its block
pub places_in_tree : (tree : Tree) (c : Copies) → Contains (copies_of tree) c → AllByRecursion (Contains (tree_places tree)) c.places
places_in_tree tree c listed =
    all_contains (λ (x : Copies). AllByRecursion (Contains (tree_places tree)) x.places) (copies_of tree) c
    (copies_follow (λ len places. AllByRecursion (Contains (tree_places tree)) places) tree
    (all_weaker (λ (x : Piece). Contains (tree_pointers tree) x.pointer) (λ (x : Piece). AllByRecursion (Contains (tree_places tree)) (places_of x.pointer)) (pieces_of tree)
    (λ x k. all_of (Contains (tree_places tree)) (places_of x.pointer) (λ q cq. flat_contains places_of (tree_pointers tree) x.pointer q k cq)) (pieces_among tree))) listed

-- pieces of blocks that don't meet
pub none_meet_in : (ps qs all others : List Place) → AllByRecursion (Contains all) ps → AllByRecursion (Contains others) qs → NoneMeet all others → NoneMeet ps qs
none_meet_in ps qs all others inp inq none =
    all_weaker (Contains all) (λ (p : Place). AllByRecursion (λ (q : Place). meets p q ≡ false) qs) ps
    (λ p cp. all_weaker (Contains others) (λ (q : Place). meets p q ≡ false) qs
    (λ q cq. all_contains (λ (x : Place). meets p x ≡ false) others q (all_contains (λ (y : Place). AllByRecursion (λ (x : Place). meets y x ≡ false) others) all p none cp) cq) inq) inp

module _ (journal : List Choice) (sizes : ℕ → ℕ) (ds : Deeds) (contents : Contents) (children : ℕ → ℕ) (s : RoundStart) (h : IsSafeStart journal sizes ds contents children s) where
  abbrev pub t : Terms
  t = s.terms

  abbrev pub Q : List Pending
  Q = requests_in s.trees

  abbrev pub trace : Trace
  trace = round_trace is_single_or_piece journal s.terms s.trees s.images

  pub claims : AllByRecursion (λ (p : Pending). IsNoClaim p.request.work) Q
  claims = all_weaker (IsReady s.bound children) (λ (p : Pending). IsNoClaim p.request.work) Q (λ p k. k.claims) h.ready.each

  pub from_itself : AllByRecursion (IsFrom Q) Q
  from_itself = all_of (IsFrom Q) Q (λ p c. record { source = p; listed = c; request = refl; block = refl; birth = refl })

  pub answers : Answers journal (sizes_of s.terms.setting.tops) s.terms.used s.terms.round
  answers = answers_in_round journal (sizes_of s.terms.setting.tops) s.terms.used s.terms.round h.lawful.lawful

  pub kids : AllByRecursion (LeftKids journal s.terms children sizes h.pool answers) s.trees
  kids = all_kids s.trees h.ready.kids (all_weaker (IsReady s.bound children) (IsFitting children) Q (λ p k. record { fits = k.fits; kept = k.kept }) h.ready.each)
    where
      all_kids : (trees : List (List Pending)) → AllByRecursion (HaveChildren children []) trees → AllByRecursion (IsFitting children) (requests_in trees) → AllByRecursion (LeftKids journal s.terms children sizes h.pool answers) trees
      all_kids [] a b = tt
      all_kids (tree ∷ trees) a b = (record { kids = a.0; fitting = all_front (IsFitting children) tree (requests_in trees) b }, all_kids trees a.1 (all_rest (IsFitting children) tree (requests_in trees) b))

  pub tells : RoundTells journal s.terms Q children sizes h.pool answers claims s.images trace s.trees (settle_each journal s.terms s.trees s.images).ended (settle_each journal s.terms s.trees s.images).left (settle_each journal s.terms s.trees s.images).images
  tells = round_tells journal s.terms Q children sizes h.pool answers claims s.trees s.images from_itself h.ready.numbers kids

  abbrev Safe : Binding → Type 0
  Safe b = IsSafeBlock s.terms.setting s.images ds (used_places s.bound) b.tree (contents b.name)

  pub block_safe : (b : Binding) → Contains s.bound b → Safe b
  block_safe b listed = all_contains Safe s.bound b h.safe.blocks listed

  pub usable_in : (b : Binding) → Contains s.bound b → AllByRecursion (λ (c : Copies). AreUsable s.terms.setting c.len c.places) (copies_of b.tree)
  usable_in b listed = sound_pieces s.terms.setting (used_places s.bound) b.tree (block_safe b listed).own

  pub inside_in : (b : Binding) → Contains s.bound b → AllByRecursion (λ (c : Copies). AllInside s.terms.setting c.places) (copies_of b.tree)
  inside_in b listed = all_weaker (λ (c : Copies). AreUsable s.terms.setting c.len c.places) (λ (c : Copies). AllInside s.terms.setting c.places) (copies_of b.tree) (λ c u. u.inside) (usable_in b listed)

  -- a request's block is bound
  pub block_of_request : (q : Pending) (tree : Tree) → Contains Q q → q.block ≡ Some tree → IsNamed s.bound tree
  block_of_request q tree listed e = block_named s.bound q.request.work q.block tree (all_contains (IsReady s.bound children) Q q h.ready.each listed).named e

  -- ---- a bound block beside the requests

  -- two pieces of bound blocks are one, or don't touch
  pieces_beside : (b k : Binding) (c d : Copies) → Contains s.bound b → Contains s.bound k → Contains (copies_of b.tree) c → Contains (copies_of k.tree) d → NoneTouch c.places d.places ⊎ (d ≡ c)
  pieces_beside b k c d lb lk lc ld =
      let ic : AllInside s.terms.setting c.places = all_contains (λ (x : Copies). AllInside s.terms.setting x.places) (copies_of b.tree) c (inside_in b lb) lc in
      let id : AllInside s.terms.setting d.places = all_contains (λ (x : Copies). AllInside s.terms.setting x.places) (copies_of k.tree) d (inside_in k lk) ld in
      ⊎_elim
      (λ (same : b ≡ k).
      let own = (block_safe b lb).own in
      let ld_ : Contains (copies_of b.tree) d = subst (λ (x : Binding). Contains (copies_of x.tree) d) (sym same) ld in
      ⊎_elim
      (λ (one : c ≡ d). inr (sym one))
      (λ (two : PiecesApart c d ⊎ PiecesApart d c). inl (⊎_elim (λ (x : PiecesApart c d). x) (λ (y : PiecesApart d c). touch_turned d.places c.places y) two))
      (pairs_two PiecesApart (copies_of b.tree) c d (block_apart s.terms.setting b.tree own.sound.inside own.own) lc ld_))
      (λ (other : BindingsApart b k ⊎ BindingsApart k b).
      inl (⊎_elim
      (λ (x : BindingsApart b k). none_touch s.terms.setting c.places d.places ic id (none_meet_in c.places d.places (tree_places b.tree) (tree_places k.tree) (places_in_tree b.tree c lc) (places_in_tree k.tree d ld) x))
      (λ (y : BindingsApart k b). touch_turned d.places c.places (none_touch s.terms.setting d.places c.places id ic (none_meet_in d.places c.places (tree_places k.tree) (tree_places b.tree) (places_in_tree k.tree d ld) (places_in_tree b.tree c lc) y)))
      other))
      (pairs_two BindingsApart s.bound b k h.safe.apart lb lk)

  -- places that were found in the round don't touch places in use
  pub found_beside : (ps qs : List Place) (q : Pending) → IsAt journal s.terms q [] qs → AllInside s.terms.setting ps → AllByRecursion (Contains s.terms.used) ps → NoneTouch ps qs
  found_beside ps qs q at inside used =
      let iq : AllInside s.terms.setting qs = found_inside journal s.terms sizes h.pool answers at.ask qs at.now at.found in
      let placed = chosen_placed journal (sizes_of s.terms.setting.tops) s.terms.used s.terms.round answers at.ask qs at.now at.found in
      touch_turned qs ps
      (none_touch s.terms.setting qs ps iq inside
      (all_weaker (IsPlaced (sizes_of s.terms.setting.tops) s.terms.used) (λ (x : Place). AllByRecursion (λ (y : Place). meets x y ≡ false) ps) qs
      (λ x k. all_weaker (Contains s.terms.used) (λ (y : Place). meets x y ≡ false) ps (λ y c. all_contains (λ (z : Place). meets x z ≡ false) s.terms.used y k.0 c) used) placed))

  -- nor do they touch a bound block
  pub bound_clear : (b : Binding) (c : Copies) (q : Pending) (places : List Place) → Contains s.bound b → Contains (copies_of b.tree) c → IsAt journal s.terms q [] places → NoneTouch c.places places
  bound_clear b c q places lb lc at =
      found_beside c.places places q at (all_contains (λ (x : Copies). AllInside s.terms.setting x.places) (copies_of b.tree) c (inside_in b lb) lc)
      (all_weaker (Contains (tree_places b.tree)) (Contains s.terms.used) c.places
      (λ p cp. subst (λ (used : List Place). Contains used p) (sym h.used) (flat_contains (λ (x : Binding). tree_places x.tree) s.bound b p lb cp)) (places_in_tree b.tree c lc))

  pub bound_beside : (b : Binding) (c : Copies) (q : Pending) → Contains s.bound b → Contains (copies_of b.tree) c → Contains Q q → IsBeside journal s.terms c q
  bound_beside b c q lb lc lq = record {
    inside = if_some q.block _ (λ tree e.
        let k : IsNamed s.bound tree = block_of_request q tree lq e in
        subst (λ (x : Tree). AllByRecursion (λ (d : Copies). AllInside s.terms.setting d.places) (copies_of x)) k.is (inside_in k.binding k.listed));
    reads = if_some q.block _ (λ tree e.
        let k : IsNamed s.bound tree = block_of_request q tree lq e in
        subst (λ (x : Tree). AllByRecursion (λ (d : Copies). NoneTouch c.places d.places ⊎ (d ≡ c)) (copies_of x)) k.is
        (all_of (λ (d : Copies). NoneTouch c.places d.places ⊎ (d ≡ c)) (copies_of k.binding.tree) (λ d ld. pieces_beside b k.binding c d lb k.listed lc ld)));
    writes = λ places at. bound_clear b c q places lb lc at;
  }

  -- ---- it stays safe

  pub by_all : AreBy journal s.terms Q children (λ n. Unit {0}) trace
  by_all = round_by journal s.terms Q children sizes h.pool answers claims (λ n. Unit {0}) s.trees s.images from_itself h.ready.numbers kids (all_true (λ (p : Pending). Unit {0}) Q (λ p. tt))

  -- a piece beside all requests is passed by all deeds
  pub pass_all : (c : Copies) (N : ℕ → Type 0) (es : Trace) → ((q : Pending) → Contains Q q → N q.request.number → IsBeside journal s.terms c q) → AreBy journal s.terms Q children N es → AllPass s.terms.setting c es
  pass_all c N es beside by =
      all_weaker (IsBy journal s.terms Q children N) (λ (d : Deed Task Value). Passes s.terms.setting c d.op d.answer) es
      (λ d k. one_passes journal s.terms sizes h.pool answers c k.by d.op d.answer (beside k.by k.listed k.number) k.of) by

  -- a piece of a bound block, behind some first deeds of the round
  piece_at : (es : Trace) (now : Images) → AreBy journal s.terms Q children (λ n. Unit {0}) es → AreTrueReads ds (map (in_round s.terms) es) → Happen (means journal s.terms) es s.images now
      → (b : Binding) (c : Copies) (bytes : List ℕ) → Contains s.bound b → Contains (copies_of b.tree) c → IsSafe s.terms.setting s.images ds c bytes → IsSafe s.terms.setting now (ds ++ map (in_round s.terms) es) c bytes
  piece_at es now by true_ happen b c bytes lb lc safe =
      let usable : AreUsable s.terms.setting c.len c.places = all_contains (λ (x : Copies). AreUsable s.terms.setting x.len x.places) (copies_of b.tree) c (usable_in b lb) lc in
      let still : IsStill journal s.terms sizes h.pool c bytes usable (ds ++ map (in_round s.terms) es) now =
      all_still journal s.terms sizes h.pool c bytes usable h.stores es ds s.images now
      (pass_all c (λ n. Unit {0}) es (λ q lq any. bound_beside b c q lb lc lq) by) true_ happen (record { sizes_are = h.sizes_are; safe = safe }) in
      still.safe

  pub block_at : (es : Trace) (now : Images) → AreBy journal s.terms Q children (λ n. Unit {0}) es → AreTrueReads ds (map (in_round s.terms) es) → Happen (means journal s.terms) es s.images now
      → (b : Binding) → Contains s.bound b → EachPiece (IsSafe s.terms.setting now (ds ++ map (in_round s.terms) es)) b.tree (contents b.name)
  block_at es now by true_ happen b lb =
      each_weaker (λ (c : Copies) (bytes : List ℕ). IsSafe s.terms.setting s.images ds c bytes × Contains (copies_of b.tree) c)
      (IsSafe s.terms.setting now (ds ++ map (in_round s.terms) es))
      (λ c bytes k. piece_at es now by true_ happen b c bytes lb k.1 k.0) b.tree (contents b.name)
      (each_with (IsSafe s.terms.setting s.images ds) (Contains (copies_of b.tree)) b.tree (contents b.name) (all_of (Contains (copies_of b.tree)) (copies_of b.tree) (λ c k. k)) (block_safe b lb).pieces)

  -- Each bound block is safe after the round, with its content.
  pub block_stays : (b : Binding) → Contains s.bound b → EachPiece (IsSafe s.terms.setting (settle_each journal s.terms s.trees s.images).images (ds ++ deeds_in journal s)) b.tree (contents b.name)
  block_stays b lb = block_at trace (settle_each journal s.terms s.trees s.images).images by_all h.accepts tells.happen b lb
