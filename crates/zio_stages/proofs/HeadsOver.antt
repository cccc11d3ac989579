-- What the fields of a walk's node owe to the tops, and how that is kept.
use Rattle.std.proofs.Common.{◌≡◌, ℕ, List, [], ◌∷◌, ◌++◌, length, map, set, slice_get, Bool, true, false, not, Option, Some, None, Ok, Err, IsTrue, bytes_eq, refl, sym, ap, subst, ◌∙◌, length-set}
use Rattle.std.specs.Prelude.{IfOk, IfSome, filter}
use Rattle.std.specs.List.{AllByRecursion}
use Rattle.std.proofs.lemmas.Bool.{and_parts}
use Rattle.std.proofs.lemmas.Slice.Eq.{bytes_eq-Decides}
use Rattle.zio_types.specs.declared.error.Errno.{Errno}
use Rattle.zio_types.specs.declared.place.Place.{Place}
use Rattle.zio_types.specs.declared.place.Top.{Top}
use Rattle.zio_types.specs.Filled.{filled_to}
use Rattle.zio_types.specs.Places.{sector_size}
use Rattle.zio_blkptr.specs.declared.pointer.Bp.{Bp}
use Rattle.zio_blkptr.specs.Pointers.{places_of, valid}
use Rattle.zio_cksum.specs.Blocks.{good_claimed_at, good_kept}
use Rattle.zio_cksum.specs.Headers.{header_of, members_max, members_of, split_sizes}
use Rattle.zio_gang.specs.declared.tree.Head.{Head}
use Rattle.zio_gang.specs.Attempts.{Terms}
use Rattle.zio_gang.specs.Trees.{kept_at}
use Rattle.zio_trace.specs.Footprints.{FitsTask}
use Rattle.zio_trace.specs.Leaves.{Answer}
use Rattle.zio_trace.specs.Plans.{head_task}
use Rattle.zio_trace.specs.Tasks.{ByKept, ClaimedBy, Got, KeptAs, ReadCopies, Task, Test, Value, Walked}
use Rattle.zio_frames.specs.Frames.{Child, Stack, fresh_stack}
use Rattle.zio_frames.specs.Slots.{IsOut, Slot}
use Rattle.zio_parts.specs.HeadWalks.{ShowsWalk, Walking, fresh_walk, header_by, is_followed, look_of, named_by, slots_of, with_header, with_members}
use Rattle.zio_parts.specs.declared.head_walk.Header.{Header}
use Rattle.zio_parts.specs.declared.head_walk.Header.TheVariants.{Out}
use Rattle.zio_parts.specs.declared.head_walk.MemberWalk.{MemberWalk}
use Rattle.zio_parts.specs.declared.head_walk.WalkStep.TheVariants.{Member, ReadHead}
use Rattle.zio_stages.specs.CopiesNodes.{IsCopiesNode}
use Rattle.zio_stages.specs.HeadsNodes.{HearsHead, HearsSomeHead, IsClaimOver, IsHeadOn, IsHeadsOver, IsKeptOver, IsSized, IsWalkOver, LiesOn}
use Rattle.zio_stages.specs.HeadsWorks.{IsReadFor, IsReadOf, claim_error, is_under, pointer_in, read_task}
use Rattle.zio_stages.specs.Tops.{AreTops}
use Rattle.zio_stages.specs.declared.copies_node.CopiesNode.{CopiesNode}
use Rattle.zio_stages.specs.declared.heads.HeadRead.{HeadRead}
use Rattle.zio_stages.specs.declared.heads.HeadRead.TheVariants.{Kept, Claimed}
use Rattle.zio_stages.specs.declared.heads.HeadsWork.{HeadsWork}
use Rattle.zio_stages.specs.declared.heads_node.HeadsNode.{HeadsNode}
use Rattle.zio_stages.proofs.CheckLemmas.{header_long}
use Rattle.zio_stages.proofs.HeadsKept.{kept_beside}
use Rattle.zio_stages.proofs.HeadsLemmas.{out_header, turned}
use Rattle.zio_stages.proofs.HeadsNodeLemmas.{SitsFirst, known, sits_first}
use Rattle.zio_stages.proofs.PartsOutLemmas.{more_full}
use Rattle.zio_stages.proofs.HeadsTops.{all_kept, claim_lies}
use Rattle.zio_frames.proofs.GetLemmas.{all_at}

-- ---- it begins

pub fresh_over : (tops : List Top) (node : HeadsNode) (claim : Bool) (levels : ℕ) (path : List ℕ) (bp : Bp) (judged : Option Errno) → node.work.walk ≡ fresh_walk claim levels path bp judged
    → IsTrue (valid bp) → node.name.path ≡ path → node.family ≡ [] → IsWalkOver claim tops node.work → IsHeadsOver tops node
fresh_over tops node claim levels path bp judged is ok named none over = record {
  valid = subst (λ (k : Walking). IsTrue (valid k.bp)) (sym is) ok;
  walk = subst (λ (k : Walking). IsWalkOver k.claim tops node.work) (sym is) over;
  named = named ∙ ap (λ (k : Walking). k.path) (sym is);
  count = ap (λ (cs : List Child). length cs) none ∙ ap (λ (k : Walking). length (slots_of k)) (sym is);
}

pub kept_fresh : (tops : List Top) (w : HeadsWork) (claim : Bool) (levels : ℕ) (path : List ℕ) (bp : Bp) (judged : Option Errno) (heads : List Head) → w.walk ≡ fresh_walk claim levels path bp judged → w.heads.items ≡ heads
    → LiesOn tops bp → AllByRecursion (IsHeadOn tops) heads → IsKeptOver tops w
kept_fresh tops w claim levels path bp judged heads is same on all = record {
  bp = subst (λ (k : Walking). LiesOn tops k.bp) (sym is) on;
  heads = subst (AllByRecursion (IsHeadOn tops)) (sym same) all;
  members = subst (λ (k : Walking). AllByRecursion (LiesOn tops) (named_by k.header)) (sym is) tt;
  sized = subst (λ (k : Walking). IsSized k.header (kept_at w.heads.items k.path)) (sym is) tt;
}

pub claim_fresh : (tops : List Top) (w : HeadsWork) (claim : Bool) (levels : ℕ) (path : List ℕ) (bp : Bp) (judged : Option Errno) → w.walk ≡ fresh_walk claim levels path bp judged → w.walk.judged ≡ claim_error tops bp
    → AreTops tops → IsClaimOver tops w
claim_fresh tops w claim levels path bp judged is error are = record {
  are_tops = are;
  judged = error ∙ ap (λ (k : Walking). claim_error tops k.bp) (sym is);
}

-- ---- it goes on

pub turned_over : (tops : List Top) (old new : HeadsNode) (header : Header) (members : List (Option Walked)) → IsHeadsOver tops old → new.work.walk ≡ turned old.work.walk header members → new.name.path ≡ old.name.path
    → (old.work.walk.claim ≡ false → IsKeptOver tops old.work → IsKeptOver tops new.work) → length new.family ≡ length (slots_of new.work.walk) → IsHeadsOver tops new
turned_over tops old new header members h is name kept count = record {
  valid = subst (λ (k : Walking). IsTrue (valid k.bp)) (sym is) h.valid;
  walk = subst (λ (k : Walking). IsWalkOver k.claim tops new.work) (sym is) (by old.work.walk.claim refl h.walk);
  named = name ∙ h.named ∙ ap (λ (k : Walking). k.path) (sym is);
  count = count;
}
  where
    by : (claim : Bool) → old.work.walk.claim ≡ claim → IsWalkOver claim tops old.work → IsWalkOver claim tops new.work
    by true e w = record { are_tops = w.are_tops; judged = ap (λ (k : Walking). k.judged) is ∙ w.judged ∙ ap (λ (k : Walking). claim_error tops k.bp) (sym is) }
    by false e w = kept e w

pub kept_turned : (tops : List Top) (old new : HeadsWork) (header : Header) (members : List (Option Walked)) → IsKeptOver tops old → new.walk ≡ turned old.walk header members
    → AllByRecursion (IsHeadOn tops) new.heads.items → AllByRecursion (LiesOn tops) (named_by header) → IsSized header (kept_at new.heads.items old.walk.path) → IsKeptOver tops new
kept_turned tops old new header members h is heads named sized = record {
  bp = subst (λ (k : Walking). LiesOn tops k.bp) (sym is) h.bp;
  heads = heads;
  members = subst (λ (k : Walking). AllByRecursion (LiesOn tops) (named_by k.header)) (sym is) named;
  sized = subst (λ (k : Walking). IsSized k.header (kept_at new.heads.items k.path)) (sym is) sized;
}

-- ---- the header's read

followed_none : (judged : Option Errno) (gang : Bool) (levels : ℕ) → IsTrue (is_followed judged gang levels) → judged ≡ None
followed_none None gang levels h = refl
followed_none (Some e) gang levels h = absurd (cc)

-- a header that is followed lies on the tops
pub head_lies : (tops : List Top) (node : HeadsNode) → IsHeadsOver tops node → ShowsWalk node.work.walk ReadHead → LiesOn tops node.work.walk.bp
head_lies tops node h shows = by node.work.walk.claim h.walk
  where
    none : node.work.walk.judged ≡ None
    none = followed_none node.work.walk.judged node.work.walk.bp.gang node.work.walk.levels shows.1

    by : (claim : Bool) → IsWalkOver claim tops node.work → LiesOn tops node.work.walk.bp
    by true w = claim_lies tops node.work.walk.bp w.are_tops (sym w.judged ∙ none)
    by false w = w.bp

-- what is read is what is kept there, and has a header's size
read_sized : (w : HeadsWork) (read : HeadRead) → w.walk.claim ≡ false → IsReadFor w.walk read → IsReadOf w read → IsSized Out (kept_at w.heads.items w.walk.path)
read_sized w (Claimed bp) kept at of = absurd (let no : true ≡ false = sym at.1 ∙ kept in cc)
read_sized w (Kept bp bytes) kept at of =
    let same : ReadCopies true (KeptAs bytes) sector_size (places_of bp) ≡ head_task (ByKept w.heads.items) w.walk.path w.walk.bp =
    of w.heads.items refl ∙ ap (λ b. head_task (look_of b w.heads.items) w.walk.path w.walk.bp) kept in
    let is : bytes ≡ kept_at w.heads.items w.walk.path = cc in
    subst (λ o. IfSome o (λ (b : List ℕ). length b ≡ sector_size)) is at.2

pub head_over : (tops : List Top) (old new : HeadsNode) (read : HeadRead) → IsHeadsOver tops old → new.work.walk ≡ with_header old.work.walk Out → new.work.heads ≡ old.work.heads → new.name.path ≡ old.name.path
    → IsReadFor old.work.walk read → IsReadOf old.work read → length new.family ≡ length (slots_of new.work.walk) → IsHeadsOver tops new
head_over tops old new read h is same name at of count =
    turned_over tops old new Out old.work.walk.members h is name
    (λ kept w. kept_turned tops old.work new.work Out old.work.walk.members w is
    (subst (λ hs. AllByRecursion (IsHeadOn tops) hs) (sym (ap (λ v. v.items) same)) w.heads) tt
    (subst (λ hs. IsSized Out (kept_at hs old.work.walk.path)) (sym (ap (λ v. v.items) same)) (read_sized old.work read kept at of)))
    count

-- ---- the walk below a member

sized_still : (header : Header) (a b : Option (List ℕ)) → a ≡ b → IsSized header b → IsSized header a
sized_still header a b e h = subst (IsSized header) (sym e) h

pub below_over : (tops : List Top) (old new : HeadsNode) (m : MemberWalk) → IsHeadsOver tops old → ShowsWalk old.work.walk (Member m) → new.work.walk ≡ with_members old.work.walk (old.work.walk.members ++ None ∷ [])
    → new.work.heads.items ≡ filter (λ h. not (is_under m.path h)) old.work.heads.items → new.name.path ≡ old.name.path → length new.family ≡ length (slots_of new.work.walk) → IsHeadsOver tops new
below_over tops old new m h shows is rest name count =
    turned_over tops old new old.work.walk.header (old.work.walk.members ++ None ∷ []) h is name
    (λ kept w. kept_turned tops old.work new.work old.work.walk.header (old.work.walk.members ++ None ∷ []) w is
    (subst (AllByRecursion (IsHeadOn tops)) (sym rest) (all_kept (IsHeadOn tops) (λ h. not (is_under m.path h)) old.work.heads.items w.heads)) w.members
    (sized_still old.work.walk.header (kept_at new.work.heads.items old.work.walk.path) (kept_at old.work.heads.items old.work.walk.path) still w.sized))
    count
  where
    still : kept_at new.work.heads.items old.work.walk.path ≡ kept_at old.work.heads.items old.work.walk.path
    still =
        ap (λ hs. kept_at hs old.work.walk.path) rest
        ∙ ap (λ p. kept_at (filter (λ h. not (is_under p h)) old.work.heads.items) old.work.walk.path) shows.2
        ∙ (kept_beside old.work.heads.items old.work.heads.items old.work.walk.path m.n (record { own = refl; below = λ n rest l. refl })).own

pub child_over : (tops : List Top) (old child : HeadsNode) (m : MemberWalk) (judged : Option Errno) → IsHeadsOver tops old → ShowsWalk old.work.walk (Member m)
    → child.work.walk ≡ fresh_walk old.work.walk.claim m.levels m.path m.bp judged → child.work.heads.items ≡ filter (is_under m.path) old.work.heads.items
    → (old.work.walk.claim ≡ true → child.work.walk.judged ≡ claim_error tops m.bp) → child.name.path ≡ m.path → child.family ≡ [] → IsHeadsOver tops child
child_over tops old child m judged h shows is under error name none =
    fresh_over tops child old.work.walk.claim m.levels m.path m.bp judged is shows.5 name none (by old.work.walk.claim refl h.walk)
  where
    by : (claim : Bool) → old.work.walk.claim ≡ claim → IsWalkOver claim tops old.work → IsWalkOver claim tops child.work
    by true e w = claim_fresh tops child.work old.work.walk.claim m.levels m.path m.bp judged is (error e) w.are_tops
    by false e w =
        kept_fresh tops child.work old.work.walk.claim m.levels m.path m.bp judged (filter (is_under m.path) old.work.heads.items) is under
        (all_at (LiesOn tops) (named_by old.work.walk.header) m.n m.bp w.members shows.6)
        (all_kept (IsHeadOn tops) (is_under m.path) old.work.heads.items w.heads)

-- ---- a header that was read

-- one of the headers that are kept has these bytes
pub record IsKeptHead (P : Head → Type 0) (bytes : List ℕ) : Type 0 where
  pub head : Head
  pub has : P head
  pub same : head.bytes ≡ bytes

kept_head : (P : Head → Type 0) (hs : List Head) (path bytes : List ℕ) → AllByRecursion P hs → IsTrue (good_kept (kept_at hs path) bytes) → IsKeptHead P bytes
kept_head P [] path bytes all good = absurd (cc)
kept_head P (h ∷ hs) path bytes all good = by (bytes_eq h.path path) refl (λ there. kept_head P hs path bytes all.1 there)
  where
    by : (b : Bool) → bytes_eq h.path path ≡ b → (IsTrue (good_kept (kept_at hs path) bytes) → IsKeptHead P bytes) → IsKeptHead P bytes
    by true e rest =
        let here : IsTrue (bytes_eq h.bytes bytes) = rw e at good in
        record { head = h; has = all.0; same = (bytes_eq-Decides h.bytes bytes).0 here }
    by false e rest =
        let there : IsTrue (good_kept (kept_at hs path) bytes) = rw e at good in
        rest there

-- good bytes have the kept bytes' length
kept_long : (o : Option (List ℕ)) (bytes : List ℕ) → IfSome o (λ (b : List ℕ). length b ≡ sector_size) → IsTrue (good_kept o bytes) → length bytes ≡ sector_size
kept_long None bytes sized good = absurd (cc)
kept_long (Some kept) bytes sized good = sym (ap length ((bytes_eq-Decides kept bytes).0 good)) ∙ sized

claimed_long_at : (o : Option Place) (bp : Bp) (bytes : List ℕ) → IsTrue (good_claimed_at o bp bytes) → length bytes ≡ 512
claimed_long_at None bp bytes good = absurd (cc)
claimed_long_at (Some place) bp bytes good =
    let header : List ℕ = header_of (filled_to None members_max (map Some (members_of bytes))) place bp.birth in
    let parts = and_parts (bytes_eq header bytes) (bytes_eq (map (λ (m : Bp). m.size) (members_of bytes)) (split_sizes bp.size)) good in
    sym (ap length ((bytes_eq-Decides header bytes).0 parts.0)) ∙ header_long bytes place bp.birth

sized_out : (header : Header) (o : Option (List ℕ)) → header ≡ Out → IsSized header o → IfSome o (λ (b : List ℕ). length b ≡ sector_size)
sized_out header o e h = subst (λ k. IsSized k o) e h

-- what is known of a header's bytes
pub record IsGoodHead (tops : List Top) (claim : Bool) (bytes : List ℕ) : Type 0 where
  pub long : length bytes ≡ 512
  pub members : claim ≡ false → AllByRecursion (LiesOn tops) (members_of bytes)

good_head : (t : Terms) (tops : List Top) (claim : Bool) (w : HeadsWork) (heads : List Head) (bytes : List ℕ) → w.walk.header ≡ Out → IsWalkOver claim tops w
    → kept_at w.heads.items w.walk.path ≡ kept_at heads w.walk.path
    → FitsTask [] t (head_task (look_of claim heads) w.walk.path w.walk.bp) (Got (Ok bytes)) → IsGoodHead tops claim bytes
good_head t tops true w heads bytes out over same fits = record {
  long = claimed_long_at (slice_get (places_of w.walk.bp) 0) w.walk.bp bytes fits;
  members = λ no. absurd (cc);
}
good_head t tops false w heads bytes out over same fits =
    let good : IsTrue (good_kept (kept_at w.heads.items w.walk.path) bytes) = subst (λ o. IsTrue (good_kept o bytes)) (sym same) fits in
    let kept : IsKeptHead (IsHeadOn tops) bytes = kept_head (IsHeadOn tops) w.heads.items w.walk.path bytes over.heads good in
    record {
      long = kept_long (kept_at w.heads.items w.walk.path) bytes (sized_out w.walk.header (kept_at w.heads.items w.walk.path) out over.sized) good;
      members = λ no. subst (λ b. AllByRecursion (LiesOn tops) (members_of b)) kept.same kept.has;
    }

-- of what a child read of the header
abbrev pub IsGoodFound : List Top → Bool → Answer → Type 0
IsGoodFound tops claim (Ok bytes) = IsGoodHead tops claim bytes
IsGoodFound tops claim (Err e) = Unit {0}

pub found_good : (t : Terms) (tops : List Top) (node : HeadsNode) (st : Stack) (n : ℕ) (c : Child) (op : Task) (v : Value) (found : Answer) → IsHeadsOver tops node → node.work.walk.header ≡ Out → HearsHead t tops node st n c op v found
    → IsGoodFound tops node.work.walk.claim found
found_good t tops node st n c op v found over out h = by found h.value_is
  where
    first : SitsFirst t node st c op h.node_is
    first = sits_first t tops node st n c op v found h

    by : (a : Answer) → v ≡ Got a → IsGoodFound tops node.work.walk.claim a
    by (Err e) is = tt
    by (Ok bytes) is =
        good_head t tops node.work.walk.claim node.work h.node_is.part.heads bytes out over.walk h.node_is.part.kept.own
        (subst (λ (x : Value). FitsTask [] t (head_task (look_of node.work.walk.claim h.node_is.part.heads) node.work.walk.path node.work.walk.bp) x) is
        (subst (λ (q : Task). FitsTask [] t q v) first.task (h.hears.fits [])))

pub found_long : (tops : List Top) (claim : Bool) (found : Answer) → IsGoodFound tops claim found → IfOk found (λ bytes. length bytes ≡ 512)
found_long tops claim (Ok bytes) h = h.long
found_long tops claim (Err e) h = tt

found_members : (tops : List Top) (claim : Bool) (found : Answer) → claim ≡ false → IsGoodFound tops claim found → AllByRecursion (LiesOn tops) (named_by (header_by found))
found_members tops claim (Ok bytes) kept h = h.members kept
found_members tops claim (Err e) kept h = tt

sized_by : (found : Answer) (o : Option (List ℕ)) → IfSome o (λ (b : List ℕ). length b ≡ sector_size) → IsSized (header_by found) o
sized_by (Ok bytes) o h = h
sized_by (Err e) o h = h

pub heard_head_over : (tops : List Top) (old new : HeadsNode) (found : Answer) → IsHeadsOver tops old → old.work.walk.header ≡ Out → IsGoodFound tops old.work.walk.claim found → new.work.walk ≡ with_header old.work.walk (header_by found)
    → new.work.heads ≡ old.work.heads → new.name.path ≡ old.name.path → length new.family ≡ length (slots_of new.work.walk) → IsHeadsOver tops new
heard_head_over tops old new found h out good is same name count =
    turned_over tops old new (header_by found) old.work.walk.members h is name
    (λ kept w. kept_turned tops old.work new.work (header_by found) old.work.walk.members w is
    (subst (λ hs. AllByRecursion (IsHeadOn tops) hs) (sym (ap (λ v. v.items) same)) w.heads)
    (found_members tops old.work.walk.claim found kept good)
    (subst (λ hs. IsSized (header_by found) (kept_at hs old.work.walk.path)) (sym (ap (λ v. v.items) same))
    (sized_by found (kept_at old.work.heads.items old.work.walk.path) (sized_out old.work.walk.header (kept_at old.work.heads.items old.work.walk.path) out w.sized))))
    count

-- ---- a walk that was heard

pub heard_below_over : (tops : List Top) (old new : HeadsNode) (members : List (Option Walked)) → IsHeadsOver tops old → new.work.walk ≡ with_members old.work.walk members → new.work.heads ≡ old.work.heads → new.name.path ≡ old.name.path
    → length new.family ≡ length (slots_of new.work.walk) → IsHeadsOver tops new
heard_below_over tops old new members h is same name count =
    turned_over tops old new old.work.walk.header members h is name
    (λ kept w. kept_turned tops old.work new.work old.work.walk.header members w is
    (subst (λ hs. AllByRecursion (IsHeadOn tops) hs) (sym (ap (λ v. v.items) same)) w.heads) w.members
    (subst (λ hs. IsSized old.work.walk.header (kept_at hs old.work.walk.path)) (sym (ap (λ v. v.items) same)) w.sized))
    count

-- ---- of what it hears

-- a child that reads the header ends while that is out, with bytes of a header
pub record IsGoodArrival (tops : List Top) (node : HeadsNode) (n : ℕ) (found : Answer) : Type 0 where
  pub slot : slice_get (slots_of node.work.walk) 0 ≡ Some (IsOut None)
  pub out : node.work.walk.header ≡ Out
  pub good : IsGoodFound tops node.work.walk.claim found
  pub child : Child
  pub there : slice_get node.family n ≡ Some child

pub good_arrival : (tops : List Top) (node : HeadsNode) (n : ℕ) (found : Answer) → IsHeadsOver tops node → HearsSomeHead tops node n found → IsGoodArrival tops node n found
good_arrival tops node n found over h =
    let first = sits_first h.terms tops node h.stack n h.child h.op h.value found h.hears in
    let out : node.work.walk.header ≡ Out = out_header node.work.walk.header node.work.walk.members first.out in
    record {
      slot = first.out;
      out = out;
      good = found_good h.terms tops node h.stack n h.child h.op h.value found over out h.hears;
      child = h.child;
      there = known h.terms tops node h.stack n h.child h.op h.value h.hears.node_is h.hears.hears;
    }

-- ---- counts

pub count_more : (xs ys : List Child) (c : Child) (ss ts : List Slot) (s : Slot) → length xs ≡ length ss → ys ≡ xs ++ c ∷ [] → ts ≡ ss ++ s ∷ [] → length ys ≡ length ts
count_more xs ys c ss ts s e more asked =
    ap (λ (cs : List Child). length cs) more ∙ more_full xs ss c s e ∙ sym (ap (λ (xs : List Slot). length xs) asked)

pub count_set : (xs ys : List Child) (n : ℕ) (c : Child) (ss ts : List Slot) (k : ℕ) (s : Slot) → length xs ≡ length ss → ys ≡ set xs n c → ts ≡ set ss k s → length ys ≡ length ts
count_set xs ys n c ss ts k s e ended heard =
    ap (λ (cs : List Child). length cs) ended ∙ length-set xs n c ∙ e ∙ sym (length-set ss k s) ∙ sym (ap (λ (xs : List Slot). length xs) heard)

pub read_pointer : (w : Walking) (r : HeadRead) → IsReadFor w r → w.bp ≡ pointer_in r
read_pointer w (Kept bp bytes) h = h.0
read_pointer w (Claimed bp) h = h.0

-- ---- the node that reads

pub kept_read : (t : Terms) (node : CopiesNode) (read : HeadRead) (bp : Bp) (bytes : Option (List ℕ)) (check : Test) (len : ℕ) (places : List Place) → IsCopiesNode t node (fresh_stack (ReadCopies true check len places))
    → check ≡ KeptAs bytes → len ≡ sector_size → read ≡ Kept bp bytes → places ≡ places_of (pointer_in read) → IsCopiesNode t node (fresh_stack (read_task read))
kept_read t node read bp bytes check len places h test many is at =
    let here : places ≡ places_of bp = at ∙ ap (λ (r : HeadRead). places_of (pointer_in r)) is in
    let task : ReadCopies true check len places ≡ ReadCopies true (KeptAs bytes) sector_size (places_of bp) = λ i. ReadCopies true (test i) (many i) (here i) in
    subst (λ (q : Task). IsCopiesNode t node (fresh_stack q)) (task ∙ ap read_task (sym is)) h

pub claimed_read : (t : Terms) (node : CopiesNode) (read : HeadRead) (bp : Bp) (check : Test) (len : ℕ) (places : List Place) → IsCopiesNode t node (fresh_stack (ReadCopies false check len places))
    → check ≡ ClaimedBy bp → len ≡ sector_size → read ≡ Claimed bp → places ≡ places_of (pointer_in read) → IsCopiesNode t node (fresh_stack (read_task read))
claimed_read t node read bp check len places h test many is at =
    let here : places ≡ places_of bp = at ∙ ap (λ (r : HeadRead). places_of (pointer_in r)) is in
    let task : ReadCopies false check len places ≡ ReadCopies false (ClaimedBy bp) sector_size (places_of bp) = λ i. ReadCopies false (test i) (many i) (here i) in
    subst (λ (q : Task). IsCopiesNode t node (fresh_stack q)) (task ∙ ap read_task (sym is)) h
