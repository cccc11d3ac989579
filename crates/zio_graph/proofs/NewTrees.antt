-- A request over its children's trees is a tree again.
use Rattle.std.proofs.Common.{◌≡◌, ℕ, ◌+◌, ◌^◌, ◌<◌, ◌≤◌, List, [], ◌∷◌, ◌++◌, length, map, count_by, cond, Bool, true, Option, Some, IfSome, refl, sym, ap, ◌∙◌, subst, arith}
use Rattle.std.specs.List.{AllByRecursion}
use Rattle.std.proofs.lemmas.List.{length-map, map-append}
use Rattle.std.proofs.lemmas.List.Sums.{sum_by-cons}
use Rattle.zio_types.specs.declared.request.Kind.{Kind}
use Rattle.zio_types.specs.declared.request.Kind.TheVariants.{Null as NullKind, Read as ReadKind, Write as WriteKind, Free as FreeKind, Claim as ClaimKind}
use Rattle.zio_blkptr.specs.declared.pointer.TheConstants.{BLOCK_SIZE_MAX}
use Rattle.zio_script.specs.declared.script.Request.{Request}
use Rattle.zio_script.specs.declared.script.Work.{Work}
use Rattle.zio_script.specs.declared.script.Work.TheVariants.{Null, Read, Write, Free, Claim}
use Rattle.zio_script.specs.Requests.{kind_of}
use Rattle.zio_script.specs.Whys.{is_write, may_have, size_with}
use Rattle.zio_cksum.proofs.AllLemmas.{all_weaker}
use Rattle.zio_gang.specs.declared.tree.Tree.{Tree}
use Rattle.zio_gang.specs.Attempts.{Pending}
use Rattle.zio_disks.specs.Whole.{IsWholeTree}
use Rattle.zio_trace.specs.Families.{Forest}
use Rattle.zio_course.specs.Runners.{AreRisingFrom, IsChild, IsNewTree, joined_trees, numbers_of, roots_of, tree_over}
use Rattle.zio_children.specs.RequestKids.{RiseFrom}
use Rattle.zio_exchange.specs.Waits.{fresh, pending_of, pendings}
use Rattle.zio_exchange.specs.Wholes.{AreTrees, IsTreeOf, joined, number_or, roots_in, trees_in}
use Rattle.zio_exchange.specs.declared.waiting.UnfinishedRequest.{UnfinishedRequest}
use Rattle.zio_exchange.proofs.WholeLemmas.{root_number_is, trees_count}
use Rattle.zio_nodes.specs.TreeAts.{is_childless}
use Rattle.zio_graph.specs.EngineTrees.{HasThree, IsEngineTree}
use Rattle.zio_graph.proofs.Forests.{AreEngineForest, forest_of, roots_by, tree_root}

-- ---- how large it is

writes_more : (r : Request) (rs : List Request) →
    count_by (λ (q : Request). is_write (kind_of q.work)) (r ∷ rs)
    ≡ cond {A = ℕ} (is_write (kind_of r.work)) 1 0 + count_by (λ (q : Request). is_write (kind_of q.work)) rs
writes_more r rs = sum_by-cons (λ (q : Request). cond {A = ℕ} (is_write (kind_of q.work)) 1 0) r rs

only_write : (kind : Kind) → may_have WriteKind kind ≡ true → is_write kind ≡ true
only_write NullKind e = absurd (cc)
only_write ReadKind e = absurd (cc)
only_write WriteKind e = refl
only_write FreeKind e = absurd (cc)
only_write ClaimKind e = absurd (cc)

all_writes : (r : Request) (rs : List Request) → kind_of r.work ≡ WriteKind → AllByRecursion (IsChild r) rs
    → count_by (λ (q : Request). is_write (kind_of q.work)) rs ≡ length rs
all_writes r [] e h = refl
all_writes r (q ∷ qs) e h =
    let more = writes_more q qs in
    let rest = all_writes r qs e h.1 in
    let write : is_write (kind_of q.work) ≡ true =
    only_write (kind_of q.work) (subst (λ (k : Kind). may_have k (kind_of q.work) ≡ true) e h.0.may) in
    let one : cond {A = ℕ} (is_write (kind_of q.work)) 1 0 ≡ 1 = ap (λ (b : Bool). cond {A = ℕ} b 1 0) write in omega arith

sized : (work : Work) (writes children : ℕ) → size_with writes work ≤ BLOCK_SIZE_MAX → (kind_of work ≡ WriteKind → writes ≡ children)
    → size_with children work ≤ BLOCK_SIZE_MAX
sized Null writes children h e = omega arith
sized (Read name prio) writes children h e = omega arith
sized (Write name sum copies prio body) writes children h e =
    subst (λ n. size_with n (Write name sum copies prio body) ≤ BLOCK_SIZE_MAX) (e refl) h
sized (Free name) writes children h e = omega arith
sized (Claim name pointer) writes children h e = omega arith

-- ---- children

never_under : (kind child : Kind) → is_childless kind ≡ true → may_have kind child ≡ true → ⊥
never_under NullKind child e h = absurd (cc)
never_under ReadKind child e h = absurd (cc)
never_under WriteKind child e h = absurd (cc)
never_under FreeKind child e h = absurd (cc)
never_under ClaimKind child e h = absurd (cc)

none_under : (r : Request) (rs : List Request) → is_childless (kind_of r.work) ≡ true → AllByRecursion (IsChild r) rs → length rs ≡ 0
none_under r [] e h = refl
none_under r (q ∷ qs) e h = absurd (never_under (kind_of r.work) (kind_of q.work) e h.0.may)

-- ---- the roots' numbers

pub roots_are : (trees : List (List UnfinishedRequest)) → AllByRecursion IsEngineTree trees → roots_in trees ≡ numbers_of (roots_of (map pendings trees))
roots_are [] h = refl
roots_are (ws ∷ trees) h =
    let first : IsEngineTree ws = h.0 in
    ap (λ (n : Option ℕ). number_or n (roots_in trees)) (root_number_is ws first.root first.kids first.is)
    ∙ ap (λ (ns : List ℕ). first.root.request.number ∷ ns) (roots_are trees h.1)
    ∙ sym (ap (λ (root : Option Pending). numbers_of (roots_by root ++ roots_of (map pendings trees))) (tree_root ws first.root first.kids first.is))

pub rise_so : (least : ℕ) (ns : List ℕ) → AreRisingFrom least ns → RiseFrom least ns
rise_so least [] h = tt
rise_so least (n ∷ ns) h = (h.0, rise_so (n + 1) ns h.1)

pub over_rises : (trees : List (List Pending)) (wholes : List (List UnfinishedRequest)) → map pendings wholes ≡ trees → AllByRecursion IsEngineTree wholes
    → AreRisingFrom 0 (numbers_of (roots_of trees)) → RiseFrom 0 (roots_in wholes)
over_rises trees wholes same each rising =
    subst (RiseFrom 0) (sym (roots_are wholes each ∙ ap (λ (ts : List (List Pending)). numbers_of (roots_of ts)) same))
    (rise_so 0 (numbers_of (roots_of trees)) rising)

-- ---- the tree

pub new_tree : (r : Request) (birth : ℕ) (block : Option Tree) (children : List (List UnfinishedRequest)) (tree : List UnfinishedRequest)
    → IsNewTree r birth block (map pendings children) → AllByRecursion IsEngineTree children → IfSome block IsWholeTree
    → IfSome block (λ (x : Tree). HasThree x.bp) → birth < 2 ^ 32
    → ((forest : Forest) → AreTrees children forest → IsTreeOf tree (fresh r birth block) forest) → IsEngineTree tree
new_tree r birth block children tree new each whole three born is =
    let kids : AreEngineForest (Some r.number) children =
    forest_of (Some r.number) children each
    (all_weaker (IsChild r) (λ (q : Request). q.under ≡ Some r.number) (roots_of (map pendings children)) (λ q c. c.under) new.kinds) in
    let count : length children ≡ trees_in kids.forest = trees_count children kids.forest kids.are in
    record {
      root = fresh r birth block;
      kids = kids.forest;
      is = is kids.forest kids.are;
      linked = kids.linked;
      sound = (
        record {
          range = new.range;
          some = new.some;
          born = born;
          block_is = new.block_is;
          whole = whole;
          three = three;
          size = sized r.work (count_by (λ (q : Request). is_write (kind_of q.work)) (roots_of (map pendings children))) (trees_in kids.forest + 0) new.size
              (λ write. (let all = all_writes r (roots_of (map pendings children)) write new.kinds in let roots = new.each in
              let same = length-map children pendings in omega arith));
          alone = λ childless.
              (let none = none_under r (roots_of (map pendings children)) childless new.kinds in let roots = new.each in
              let same = length-map children pendings in omega arith);
          pointers = tt;
          types = tt;
        },
        kids.sound,
        tt,
      );
    }

pub joined_pendings : (wholes : List (List UnfinishedRequest)) → pendings (joined wholes) ≡ joined_trees (map pendings wholes)
joined_pendings [] = refl
joined_pendings (ws ∷ wholes) = map-append pending_of ws (joined wholes) ∙ ap (λ (ps : List Pending). pendings ws ++ ps) (joined_pendings wholes)

-- its requests
pub new_list : (p : Pending) (trees : List (List Pending)) (wholes : List (List UnfinishedRequest)) (tree : List UnfinishedRequest) → map pendings wholes ≡ trees
    → pendings tree ≡ pendings (joined wholes) ++ p ∷ [] → pendings tree ≡ tree_over trees p
new_list p trees wholes tree same is =
    is ∙ ap (λ (ps : List Pending). ps ++ p ∷ []) (joined_pendings wholes ∙ ap joined_trees same)
