-- The blocks that a round's requests made are whole, whatever their operations were answered, and what is left of its trees may
-- make such blocks.
use Rattle.std.proofs.Common.{◌≡◌, ℕ, zero, suc, ◌+◌, ◌≤◌, List, [], ◌∷◌, ◌++◌, length, length-append, map, Bool, true, false, not, nat_le, cond, Option, Some, None, IfSome, refl, sym, ap, ◌∙◌, subst, arith}
use Rattle.std.specs.List.{AllByRecursion}
use Rattle.std.proofs.lemmas.List.{length-map}
use Rattle.std.proofs.lemmas.List.Elements.{filter-append}
use Rattle.zio_types.specs.declared.error.Errno.{Errno}
use Rattle.zio_types.specs.declared.request.Bits.{Bits}
use Rattle.zio_types.specs.Choices.{Choice}
use Rattle.zio_types.specs.Errors.{rank, worst_error, worst_of}
use Rattle.zio_types.proofs.ErrorLemmas.{rank-worst_error, same_rank}
use Rattle.zio_blkptr.specs.declared.pointer.Bp.{Bp}
use Rattle.zio_blkptr.specs.declared.pointer.TheConstants.{BLOCK_SIZE_MAX}
use Rattle.zio_script.specs.Requests.{kind_of}
use Rattle.zio_script.specs.Whys.{size_with}
use Rattle.zio_cksum.proofs.AllLemmas.{all_append, all_filter, all_map, all_weaker}
use Rattle.zio_gang.specs.declared.tree.Tree.{Tree}
use Rattle.zio_gang.specs.Attempts.{Child, Ended, Pending, Return, Terms, all_bits, bits_of, children_of, closed_if, finished_of, has_bits, insert_children, judged_own, now_alone, reexecutions_max, tree_unless}
use Rattle.zio_gang.specs.ByNumber.{insert_by, insert_if}
use Rattle.zio_gang.specs.Journals.{AreLawful}
use Rattle.zio_gang.specs.Rounds.{add_left}
use Rattle.zio_gang.specs.Trees.{sizes_of}
use Rattle.zio_trace.specs.Families.{Forest, NoTrees, TreeOf, before}
use Rattle.zio_trace.specs.Labels.{Labelled, labelled, ways_at}
use Rattle.zio_trace.specs.Oracles.{IsOracle, Oracle, heard}
use Rattle.zio_trace.specs.Plans.{Kids, TaskPlan, add_kid, add_settled, bare, one_of, plan_again, plan_kids, plan_left, plan_own, plan_root, plan_settle}
use Rattle.zio_trace.specs.RoundRules.{task_ways}
use Rattle.zio_trace.specs.Rounds.{settles}
use Rattle.zio_trace.specs.Tasks.{Attempt, AttemptedBy, One, OwnGot, Settle, Settled, SettledBy, Task, Value, attempted, settled}
use Rattle.zio_trace.specs.Together.{round_of}
use Rattle.zio_trace.specs.Underway.{AreAnswered, plan_each}
use Rattle.zio_disks.specs.Whole.{IsWholeTree}
use Rattle.zio_blocks.specs.Blocks.{HavePointers}
use Rattle.zio_sound.proofs.Oracled.{at_place, map_at, then_at}
use Rattle.zio_exchange.specs.Wholes.{trees_in}
use Rattle.zio_graph.proofs.OwnBlocks.{MakesWhole, MayMake, MaySpell, own_made}

-- ---- what holds of trees, and of what they leave

-- each of these may make a whole block
abbrev pub AreMaking : Forest → Type 0
AreMaking NoTrees = Unit {0}
AreMaking (TreeOf p kids others) = MayMake (trees_in kids) p × AreMaking kids × AreMaking others

-- bytes spell the pointers of the children that it keeps
abbrev pub KeepsSpelled : Pending → Type 0
KeepsSpelled p = AllByRecursion (λ (c : Child). MaySpell c.pointer) p.kept

-- its block is whole, if it made one
abbrev pub EndsWhole : Ended → Type 0
EndsWhole e = IfSome e.tree IsWholeTree

-- What attempts of some trees left: a root for each tree that goes again, and a child that finished for each other.
record KidsMake (f : Forest) (k : Kids) : Type 0 where
  count : length k.returns ≡ trees_in f
  left_count : trees_in k.left + length (finished_of k.returns) ≡ trees_in f
  spelled : AllByRecursion (λ (r : Return). MaySpell r.child.pointer) k.returns
  whole : AllByRecursion EndsWhole k.ended
  left : AreMaking k.left
  again : AllByRecursion KeepsSpelled k.again

-- And of one.
record OneMakes (one : One) : Type 0 where
  left_count : trees_in one.left + length (finished_of (one.return ∷ [])) ≡ 1
  spelled : MaySpell one.return.child.pointer
  whole : AllByRecursion EndsWhole one.ended
  left : AreMaking one.left
  again : AllByRecursion KeepsSpelled one.again

-- What all attempts of a tree in the round left.
record SettledWhole (s : Settled) : Type 0 where
  whole : AllByRecursion EndsWhole s.ended
  again : AllByRecursion KeepsSpelled s.again

-- ---- children at their places

insert_if_long : (b : Bool) (c d : Child) (cs inserted : List Child) → length inserted ≡ suc (length cs)
    → length (insert_if b c d cs inserted) ≡ suc (suc (length cs))
insert_if_long true c d cs inserted e = refl
insert_if_long false c d cs inserted e = ap suc e

insert_long : (c : Child) (cs : List Child) → length (insert_by (λ (x : Child). x.number) c cs) ≡ suc (length cs)
insert_long c [] = refl
insert_long c (d ∷ cs) =
    insert_if_long (nat_le c.number d.number) c d cs (insert_by (λ (x : Child). x.number) c cs) (insert_long c cs)

merged_long : (new kept : List Child) → length (insert_children new kept) ≡ length new + length kept
merged_long [] kept = omega arith
merged_long (c ∷ new) kept =
    let rest = merged_long new kept in
    insert_long c (insert_children new kept) ∙ omega arith

module _ (P : Child → Type 0) where
  insert_if_all : (b : Bool) (c d : Child) (cs inserted : List Child) → P c → AllByRecursion P (d ∷ cs)
      → AllByRecursion P inserted
      → AllByRecursion P (insert_if b c d cs inserted)
  insert_if_all true c d cs inserted own all more = (own, all)
  insert_if_all false c d cs inserted own all more = (all.0, more)

  insert_all : (c : Child) (cs : List Child) → P c → AllByRecursion P cs
      → AllByRecursion P (insert_by (λ (x : Child). x.number) c cs)
  insert_all c [] own all = (own, tt)
  insert_all c (d ∷ cs) own all =
      insert_if_all (nat_le c.number d.number) c d cs (insert_by (λ (x : Child). x.number) c cs) own all
      (insert_all c cs own all.1)

  merged_all : (new kept : List Child) → AllByRecursion P new → AllByRecursion P kept
      → AllByRecursion P (insert_children new kept)
  merged_all [] kept all more = more
  merged_all (c ∷ new) kept all more = insert_all c (insert_children new kept) all.0 (merged_all new kept all.1 more)

-- ---- which trees are left

before_count : (f g : Forest) → trees_in (before f g) ≡ trees_in f + trees_in g
before_count NoTrees g = omega arith
before_count (TreeOf p kids others) g = let more = before_count others g in omega arith

before_making : (f g : Forest) → AreMaking f → AreMaking g → AreMaking (before f g)
before_making NoTrees g h k = k
before_making (TreeOf p kids others) g h k = (h.0, h.1, before_making others g h.2 k)

finished_if : (r : Return) (b : Bool) → has_bits r.bits ≡ b → length (finished_of (r ∷ [])) ≡ cond b 0 1
finished_if r true e = ap (λ (b : Bool). length (cond (not b) (r ∷ []) [])) e
finished_if r false e = ap (λ (b : Bool). length (cond (not b) (r ∷ []) [])) e

finished_more : (xs ys : List Return) → length (finished_of (xs ++ ys)) ≡ length (finished_of xs) + length (finished_of ys)
finished_more xs ys =
    ap length (filter-append (λ (r : Return). not (has_bits r.bits)) xs ys) ∙ length-append (finished_of xs) (finished_of ys)

none_make : KidsMake NoTrees (record { returns = []; ended = []; again = []; left = NoTrees })
none_make = record { count = refl; left_count = refl; spelled = tt; whole = tt; left = tt; again = tt }

-- one tree, and those behind it
kids_make : (p : Pending) (kids others : Forest) (one : One) (k : Kids) → OneMakes one → KidsMake others k
    → KidsMake (TreeOf p kids others) (add_kid one k)
kids_make p kids others one k h rest = record {
  count = (let count = rest.count in length-append k.returns (one.return ∷ []) ∙ omega arith);
  left_count =
      (let here = h.left_count in
      let behind = rest.left_count in
      let trees = before_count one.left k.left in
      let ended = finished_more k.returns (one.return ∷ []) in
      omega arith);
  spelled = all_append (λ (r : Return). MaySpell r.child.pointer) k.returns (one.return ∷ []) rest.spelled (h.spelled, tt);
  whole = all_append EndsWhole one.ended k.ended h.whole rest.whole;
  left = before_making one.left k.left h.left rest.left;
  again = all_append KeepsSpelled one.again k.again h.again rest.again;
}

-- ---- one request

first_none : (a b : Option Errno) → worst_error a b ≡ None → a ≡ None
first_none a b e =
    let r : rank (worst_error a b) ≡ 0 = ap rank e in
    same_rank a None (omega (arith, rank-worst_error a b))

unless_whole : (error : Option Errno) (tree : Option Tree) → (error ≡ None → IfSome tree IsWholeTree)
    → IfSome (tree_unless error tree) IsWholeTree
unless_whole None tree h = h refl
unless_whole (Some e) tree h = tt

closed_makes : (b : Bool) (p : Pending) (f : Forest) (k : Kids) (own : OwnGot) (bits : Bits) (kept : List Child)
    → has_bits bits ≡ b → MakesWhole own → KidsMake f k
    → MayMake (trees_in k.left) (record p { kept = kept }) → OneMakes (one_of k (closed_if b p (bare own) bits kept))
closed_makes true p f k own bits kept e makes kids may = record {
  left_count = (let none = finished_if (closed_if true p (bare own) bits kept).return true e in omega arith);
  spelled = makes.pointer;
  whole = all_append EndsWhole k.ended [] kids.whole tt;
  left = (may, kids.left, tt);
  again = all_append KeepsSpelled k.again (record p { kept = kept } ∷ []) kids.again (may.kept, tt);
}
closed_makes false p f k own bits kept e makes kids may =
    let others : Option Errno = worst_of (map (λ (c : Child). c.error) kept) in
    record {
      left_count = refl;
      spelled = makes.pointer;
      whole = all_append EndsWhole k.ended (closed_if false p (bare own) bits kept).ended kids.whole
          (unless_whole (worst_error own.error others) own.tree (λ none. makes.whole (first_none own.error others none)), tt);
      left = tt;
      again = all_append KeepsSpelled k.again [] kids.again tt;
    }

-- it may make a block again, with the children that it keeps then
may_again : (p : Pending) (kids : Forest) (k : Kids) → MayMake (trees_in kids) p → KidsMake kids k
    → MayMake (trees_in k.left) (record p { kept = insert_children (children_of (finished_of k.returns)) p.kept })
may_again p kids k may h =
    let new : List Child = children_of (finished_of k.returns) in
    let many : length (insert_children new p.kept) ≡ length (finished_of k.returns) + length p.kept =
    merged_long new p.kept ∙ ap (λ (n : ℕ). n + length p.kept) (length-map (finished_of k.returns) (λ (r : Return). r.child)) in
    let same : trees_in k.left + length (insert_children new p.kept) ≡ trees_in kids + length p.kept =
    (let left = h.left_count in omega arith) in
    record {
      fits = may.fits;
      some = may.some;
      born = may.born;
      size = subst (λ (n : ℕ). size_with n p.request.work ≤ BLOCK_SIZE_MAX) (sym same) may.size;
      kept = merged_all (λ (c : Child). MaySpell c.pointer) new p.kept
          (all_map (λ (c : Child). MaySpell c.pointer) (λ (r : Return). r.child) (finished_of k.returns)
          (all_filter (λ (r : Return). MaySpell r.child.pointer) (λ (r : Return). not (has_bits r.bits)) k.returns
          (all_weaker (λ (r : Return). MaySpell r.child.pointer)
          (λ (r : Return). not (has_bits r.bits) ≡ true → MaySpell r.child.pointer) k.returns
          (λ r spelled going. spelled) h.spelled))) may.kept;
    }

module _ (journal : List Choice) (t : Terms) (o : Oracle (Labelled Task) Value) (is : IsOracle (ways_at (task_ways journal t)) o)
    (have : HavePointers t.setting.tops) (lawful : AreLawful (sizes_of t.setting.tops) t.used journal) where
  judged_makes : (p : Pending) (kids : Forest) (k : Kids) (own : OwnGot) → MayMake (trees_in kids) p → KidsMake kids k
      → MakesWhole own
      → OneMakes (one_of k (judged_own t p k.returns (bare own)))
  judged_makes p kids k own may h makes =
      let bits : Bits = all_bits (kind_of p.request.work) own.error p.request.canfail t.failmode (bits_of k.returns) in
      closed_makes (has_bits bits) p kids k own bits (insert_children (children_of (finished_of k.returns)) p.kept) refl makes h
      (may_again p kids k may h)

  root_makes : (attempt : ℕ) (p : Pending) (kids : Forest) (k : Kids) (at : List ℕ) (n : ℕ) → MayMake (trees_in kids) p
      → KidsMake kids k
      → OneMakes (attempted (heard o (labelled at n (plan_root t attempt p k))))
  root_makes attempt p kids k at n may h =
      let children : List Child = insert_children (children_of k.returns) p.kept in
      let pointers : List (Option Bp) = map (λ (c : Child). c.pointer) children in
      let work : TaskPlan OwnGot = plan_own t attempt p p.request.work pointers in
      let own : OwnGot = heard o (labelled at n work) in
      let many : length pointers ≡ trees_in kids + length p.kept =
      (let count = h.count in
      length-map children (λ (c : Child). c.pointer) ∙ merged_long (children_of k.returns) p.kept
      ∙ ap (λ (m : ℕ). m + length p.kept) (length-map k.returns (λ (r : Return). r.child) ∙ count)) in
      let same : trees_in kids + length p.kept ≡ length pointers + 0 = omega arith in
      let room : MayMake (length pointers) (record p { kept = [] }) = record {
        fits = may.fits;
        some = may.some;
        born = may.born;
        size = subst (λ (m : ℕ). size_with m p.request.work ≤ BLOCK_SIZE_MAX) same may.size;
        kept = tt;
      } in
      let spelled : AllByRecursion MaySpell pointers =
      all_map MaySpell (λ (c : Child). c.pointer) children
      (merged_all (λ (c : Child). MaySpell c.pointer) (children_of k.returns) p.kept
      (all_map (λ (c : Child). MaySpell c.pointer) (λ (r : Return). r.child) k.returns h.spelled) may.kept) in
      let makes : MakesWhole own = own_made journal t o is have lawful attempt p p.request.work pointers at n refl room spelled in
      subst (λ (v : Value). OneMakes (attempted v))
      (sym (map_at o at n work (λ (x : OwnGot). AttemptedBy (one_of k (judged_own t p k.returns (bare x))))))
      (judged_makes p kids k own may h makes)

  kids_at : (attempt : ℕ) (f : Forest) (at : List ℕ) (n : ℕ) → AreMaking f
      → KidsMake f (heard o (labelled at n (plan_kids attempt f)))
  kids_at attempt NoTrees at n h = none_make
  kids_at attempt (TreeOf p kids others) at n h =
      let x = at_place at n (Attempt attempt p kids) in
      let one : One = attempted (o.answer x) in
      let under : Kids = heard o (labelled x.at 0 (plan_kids attempt kids)) in
      let behind = then_at o x.at 0 (plan_kids attempt kids) (plan_root t attempt p) in
      let makes : OneMakes one = subst (λ (v : Value). OneMakes (attempted v)) (sym (is.answer x refl ∙ behind.1))
      (root_makes attempt p kids under x.at behind.0 h.0 (kids_at attempt kids x.at 0 h.1)) in
      subst (KidsMake (TreeOf p kids others))
      (sym (map_at o at (suc n) (plan_kids attempt others) (λ (k : Kids). add_kid one k)))
      (kids_make p kids others one (heard o (labelled at (suc n) (plan_kids attempt others))) makes
      (kids_at attempt others at (suc n) h.2))

  attempt_at : (attempt : ℕ) (p : Pending) (kids : Forest) (at : List ℕ) → MayMake (trees_in kids) p → AreMaking kids
      → OneMakes (attempted (o.answer (record { at = at; op = Attempt attempt p kids })))
  attempt_at attempt p kids at may h =
      let x : Labelled Task = record { at = at; op = Attempt attempt p kids } in
      let under : Kids = heard o (labelled at 0 (plan_kids attempt kids)) in
      let behind = then_at o at 0 (plan_kids attempt kids) (plan_root t attempt p) in
      subst (λ (v : Value). OneMakes (attempted v)) (sym (is.answer x refl ∙ behind.1))
      (root_makes attempt p kids under at behind.0 may (kids_at attempt kids at 0 h))

  -- ---- all attempts

  one_settled : (one : One) → OneMakes one → SettledWhole (record { ended = one.ended; again = one.again; left = one.left })
  one_settled one h = record { whole = h.whole; again = h.again }

  left_at : (one : One) (left : Forest) (at : List ℕ) (n : ℕ) (again : Pending → Forest → TaskPlan Settled) → OneMakes one
      → AreMaking left
      → ((q : Pending) (below : Forest) → MayMake (trees_in below) q → AreMaking below
      → SettledWhole (heard o (labelled at n (again q below))))
      → SettledWhole (heard o (labelled at n (plan_left one left again)))
  left_at one NoTrees at n again h making goes = one_settled one h
  left_at one (TreeOf q below others) at n again h making goes =
      let later : Settled = heard o (labelled at n (again q below)) in
      let whole : SettledWhole later = goes q below making.0 making.1 in
      subst SettledWhole (sym (map_at o at n (again q below) (λ (s : Settled). add_settled one s)))
      (record { whole = all_append EndsWhole one.ended later.ended h.whole whole.whole; again = whole.again })

  again_at : (b : Bool) (one : One) (at : List ℕ) (n : ℕ) (again : Pending → Forest → TaskPlan Settled) → OneMakes one
      → ((q : Pending) (below : Forest) → MayMake (trees_in below) q → AreMaking below
      → SettledWhole (heard o (labelled at n (again q below))))
      → SettledWhole (heard o (labelled at n (plan_again b one again)))
  again_at true one at n again h goes = left_at one one.left at n again h h.left goes
  again_at false one at n again h goes = one_settled one h

  settle_at : (more attempt : ℕ) (p : Pending) (kids : Forest) (at : List ℕ) (n : ℕ) → MayMake (trees_in kids) p → AreMaking kids
      → SettledWhole (heard o (labelled at n (plan_settle more attempt p kids)))
  settle_at zero attempt p kids at n may h =
      let x = at_place at n (Attempt attempt p kids) in one_settled (attempted (o.answer x))
      (attempt_at attempt p kids x.at may h)
  settle_at (suc more) attempt p kids at n may h =
      let x = at_place at n (Attempt attempt p kids) in
      let one : One = attempted (o.answer x) in
      again_at (now_alone one.return.bits) one at (suc n) (plan_settle more (attempt + 1)) (attempt_at attempt p kids x.at may h)
      (λ q below room making. settle_at more (attempt + 1) q below at (suc n) room making)

  -- ---- all trees

  abbrev RoundWhole : List Value → Type 0
  RoundWhole vs = AllByRecursion EndsWhole (round_of vs).ended × AllByRecursion (AllByRecursion KeepsSpelled) (round_of vs).left

  left_spelled : (again : List Pending) (left : List (List Pending)) → AllByRecursion KeepsSpelled again
      → AllByRecursion (AllByRecursion KeepsSpelled) left
      → AllByRecursion (AllByRecursion KeepsSpelled) (add_left again left)
  left_spelled [] left h k = k
  left_spelled (p ∷ again) left h k = (h, k)

  each_at : (f : Forest) (at : List ℕ) (n : ℕ) → AreMaking f → RoundWhole (heard o (labelled at n (plan_each (settles f))))
  each_at NoTrees at n h = (tt, tt)
  each_at (TreeOf p kids others) at n h =
      let x = at_place at n (Settle p kids) in
      let s : Settled = heard o (labelled x.at 0 (plan_settle reexecutions_max 0 p kids)) in
      let value : o.answer x ≡ SettledBy s =
      is.answer x refl ∙ map_at o x.at 0 (plan_settle reexecutions_max 0 p kids) (λ (y : Settled). SettledBy y) in
      let first : SettledWhole (settled (o.answer x)) =
      subst (λ (v : Value). SettledWhole (settled v)) (sym value) (settle_at reexecutions_max 0 p kids x.at 0 h.0 h.1) in
      let vs : List Value = heard o (labelled at (suc n) (plan_each (settles others))) in
      let rest : RoundWhole vs = each_at others at (suc n) h.2 in
      subst RoundWhole (sym (map_at o at (suc n) (plan_each (settles others)) (λ (us : List Value). o.answer x ∷ us))) (
        all_append EndsWhole (settled (o.answer x)).ended (round_of vs).ended first.whole rest.0,
        left_spelled (settled (o.answer x)).again (round_of vs).left first.again rest.1,
      )

-- the blocks are whole, and what is left keeps pointers that bytes spell
pub round_whole : (journal : List Choice) (t : Terms) (f : Forest) (ds : _) (values : List Value) → HavePointers t.setting.tops
    → AreLawful (sizes_of t.setting.tops) t.used journal → AreMaking f → AreAnswered (task_ways journal t) (settles f) ds values
    → AllByRecursion EndsWhole (round_of values).ended × AllByRecursion (AllByRecursion KeepsSpelled) (round_of values).left
round_whole journal t f ds values have lawful making h =
    subst (λ (vs : List Value). AllByRecursion EndsWhole (round_of vs).ended × AllByRecursion (AllByRecursion KeepsSpelled)
    (round_of vs).left) h.values_are
    (each_at journal t h.oracle h.is have lawful f [] 0 making)
