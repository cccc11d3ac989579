-- A history with readers of shared pieces apart: what is put on the copies, and what the single operations did.
use Rattle.std.proofs.Common.{◌≡◌, ℕ, Bool, true, false, List, [], ◌∷◌, Contains, ◌⊎◌, inl, inr, ⊎_elim, refl, sym, ap, ◌∙◌, subst}
use Rattle.std.specs.List.{AllByRecursion}
use Rattle.std.proofs.lemmas.List.Elements.{Contains-append_left, Contains-append_right}
use Rattle.zio_types.specs.Choices.{Choice}
use Rattle.zio_cksum.specs.Images.{Images, Setting, Spot}
use Rattle.zio_cksum.proofs.AllLemmas.{all_append, all_contained, all_contains, all_map, all_unmap, all_weaker}
use Rattle.zio_trace.specs.Conflicts.{TaskLies, TasksApart, is_single}
use Rattle.zio_trace.specs.Footprints.{OnSpots}
use Rattle.zio_trace.specs.Labels.{Earlier, Labelled, means_at, same_place}
use Rattle.zio_trace.specs.Leaves.{AreClear, Fetch, HaveSizes, LeafOp, LiesOn, Store, spot_of}
use Rattle.zio_trace.specs.Oracles.{Ascends, Shuffled, deeds_as, ops_of, weigh}
use Rattle.zio_trace.specs.Orders.{Commute}
use Rattle.zio_trace.specs.Passing.{Copies, Passes, parent_at, reading_of}
use Rattle.zio_trace.specs.Programs.{Deed, Happen}
use Rattle.zio_trace.specs.Tasks.{Leaf, Task, Value, good_by, means}
use Rattle.zio_trace.specs.Underway.{Work}
use Rattle.zio_trace.proofs.AskedLemmas.{happen_as_asked}
use Rattle.zio_trace.proofs.ChoiceLemmas.{contained_cases}
use Rattle.zio_trace.proofs.LabelLemmas.{test_among}
use Rattle.zio_trace.proofs.ListLemmas.{contains_first}
use Rattle.zio_trace.proofs.PutLemmas.{after_all, all_sized}
use Rattle.zio_trace.proofs.ReaderHistory.{IsOther, parent_part}
use Rattle.zio_trace.proofs.ReaderPaths.{first_at}
use Rattle.zio_trace.proofs.ReaderSteps.{IsPartAt, IsProper, IsPut, Said, asked_parts, follows_put}
use Rattle.zio_trace.proofs.RoundLemmas.{tasks_commute}
use Rattle.zio_trace.proofs.SharedOrigins.{IsFrom, IsOwn, IsSharedRound, Reader, asked_is, asked_of, end_of, one_is, ops, origins, piece, reader_asked, reader_gave, reader_here, single_origin, sort_of, spots, was_done}
use Rattle.zio_trace.proofs.SharedPieces.{IsRepair, bytes_of, first_before, found_of, mended_of, puts_for, puts_of, puts_repair, reader_of, repair_lies, same_repairs}
use Rattle.zio_trace.proofs.SharedTurns.{IsReading, IsSingle, in_turn, puts_in, repair_apart, single_puts, singles_in}
use Rattle.zio_trace.proofs.SplitLemmas.{IsLeafTask, IsSorted, IsSplit, all_puts, all_singles, ascends_singles, beside, is_part, order_singles, part_true, put_done, puts_done, single_listed, single_no_part, singles_done, singles_happen, stores_of, weigh_done, weigh_parts}

-- ---- operations of readers

proper_leaf : (all : List Spot) (len : ℕ) (mended : List Spot) (bytes : List ℕ) (task : Task) → IsProper all len mended bytes task → IsLeafTask task
proper_leaf all len mended bytes (Leaf op) h = tt
proper_leaf all len mended bytes _ h = absurd h

proper_stores : (all : List Spot) (len : ℕ) (mended : List Spot) (bytes : List ℕ) (P : LeafOp → Type 0) (task : Task) → ((u : Spot) → Contains mended u → P (Store false bytes u)) → IsProper all len mended bytes task → AllByRecursion P (stores_of task)
proper_stores all len mended bytes P (Leaf (Fetch retry n u)) f h = tt
proper_stores all len mended bytes P (Leaf (Store retry b u)) f h =
    (subst (λ (r : Bool). P (Store r b u)) (sym h.0) (subst (λ (x : List ℕ). P (Store false x u)) (sym h.1) (f u h.2)), tt)
proper_stores all len mended bytes P _ f h = absurd h

apart_on : (all : List Spot) (len : ℕ) (a b : Task) → OnSpots all len a → OnSpots all len b → IsOther all b → TasksApart a b
apart_on all len (Leaf a) (Leaf b) ha hb other = inr (all_contains (λ (u : Spot). AreClear u (spot_of b)) all (spot_of a) other ha.listed)
apart_on all len (Leaf a) _ ha hb other = absurd hb
apart_on all len _ b ha hb other = absurd ha

module _ (j : List Choice) (w : Work) (history : List (Deed (Labelled Task) Value)) (values : List Value) (before after : Images) (g : IsSharedRound j w history values before after) where
  abbrev s : Setting
  s = w.terms.setting

  abbrev asked : List (Labelled Task)
  asked = ops j w history values before after g

  abbrev test : Labelled Task → Bool
  test = is_part asked

  abbrev Repairs : LeafOp → Type 0
  Repairs op = IsRepair s before w.sizes g.well.rows w.shared g.well.copies g.well.clear g.have op

  abbrev Puts : List (Labelled Task) → List LeafOp
  Puts xs = puts_in j w.terms w.sizes before g.well.rows w.shared g.well.copies g.well.clear g.have xs

  abbrev Single : Labelled Task → Type 0
  Single x = IsSingle j w.terms w.sizes before g.well.rows w.shared g.well.copies g.well.clear g.have x

  abbrev Reading : Labelled Task → Type 0
  Reading x = IsReading j w.terms w.sizes before g.well.rows w.shared g.well.copies g.well.clear g.have g.oracle x

  abbrev mended : Copies → List Spot
  mended c = mended_of s before c

  abbrev store : Copies → Spot → LeafOp
  store c u = Store false (bytes_of s before c) u

  all_by_puts : (Q : LeafOp → Type 0) (xs : List (Labelled Task)) → AllByRecursion (λ (x : Labelled Task). AllByRecursion Q (puts_for s before x.op)) xs → AllByRecursion Q (Puts xs)
  all_by_puts Q [] h = tt
  all_by_puts Q (x ∷ xs) h = all_append Q (puts_for s before x.op) (Puts xs) h.0 (all_by_puts Q xs h.1)

  puts_contain : (xs : List (Labelled Task)) (x : Labelled Task) → Contains xs x → AllByRecursion (Contains (Puts xs)) (puts_for s before x.op)
  puts_contain [] x c = absurd (all_contains (λ (y : Labelled Task). ⊥) [] x tt c)
  puts_contain (y ∷ xs) x c =
      ⊎_elim
      (λ (e : y ≡ x).
      subst (λ (z : Labelled Task). AllByRecursion (Contains (Puts (y ∷ xs))) (puts_for s before z.op)) e
      (all_weaker (Contains (puts_for s before y.op)) (Contains (Puts (y ∷ xs))) (puts_for s before y.op) (λ q k. Contains-append_left (puts_for s before y.op) (Puts xs) q k) (all_contained (puts_for s before y.op))))
      (λ (later : Contains xs x).
      all_weaker (Contains (Puts xs)) (Contains (Puts (y ∷ xs))) (puts_for s before x.op) (λ q k. Contains-append_right (puts_for s before y.op) (Puts xs) q k) (puts_contain xs x later))
      (contained_cases y xs x c)

  -- ---- what is asked

  single_of : (x : Labelled Task) → Contains asked x → is_single x.op ≡ true → ((c : Copies) → Contains w.shared c → IsOther (spots j w history values before after g c) x.op) → Single x
  single_of x c e other = record {
    single = e;
    lies =
        all_contains (λ (y : Labelled Task). TaskLies w.sizes y.op) (ops_of history) x
        (all_map (λ (y : Labelled Task). TaskLies w.sizes y.op) (λ (d : Deed (Labelled Task) Value). d.op) history g.done.lies)
        (all_contains (Contains (ops_of history)) (g.oracle.asked x) x (was_done j w history values before after g x c)
        (subst (λ (xs : List (Labelled Task)). Contains xs x) (sym (one_is j w history values before after g x e)) (contains_first x [])));
    other = other;
  }

  turns : AllByRecursion (λ (x : Labelled Task). Single x ⊎ Reading x) asked
  turns =
      all_weaker (Contains asked) (λ (x : Labelled Task). Single x ⊎ Reading x) asked
      (λ x c.
      ⊎_elim
      (λ one. inl (single_of x c one.0 one.1))
      (λ r. inr (record { piece = r.0; listed = r.1; is = r.2; answer = reader_gave j w history values before after g x r.0 r.1 c r.2 }))
      (sort_of j w history values before after g x c))
      (all_contained asked)

  parts_tested : (x : Labelled Task) (c : Copies) → Contains asked x → x.op ≡ reading_of c → AllByRecursion (λ (q : Labelled Task). test q ≡ true) (g.oracle.asked x)
  parts_tested x c cx e =
      subst (AllByRecursion (λ (q : Labelled Task). test q ≡ true)) (sym (asked_is j w history values before after g x c e))
      (all_weaker (IsPartAt x.at) (λ (q : Labelled Task). test q ≡ true) (asked_of j w history values before after g c x.at)
      (λ q p. part_true asked x q cx (ap is_single e) (sym (ap parent_at p.1 ∙ parent_part x.at p.0)))
      (asked_parts g.oracle (one_is j w history values before after g) x.at 0 (reader_of s before c)))

  single_tested : (x : Labelled Task) → Contains asked x → is_single x.op ≡ true → test x ≡ false
  single_tested x c e = single_no_part asked g.atomic.rest.ascends g.atomic.rest.under x c e

  splits : AllByRecursion (IsSplit test g.oracle) asked
  splits =
      all_weaker (Contains asked) (IsSplit test g.oracle) asked
      (λ x c. record {
        itself = one_is j w history values before after g x;
        no_part = single_tested x c;
        parts = λ double.
            ⊎_elim
            (λ one. absurd (let no : true ≡ false = sym one.0 ∙ double in cc))
            (λ r. parts_tested x r.0 c r.2)
            (sort_of j w history values before after g x c);
      })
      (all_contained asked)

  -- ---- what was put

  abbrev InPuts : LeafOp → Type 0
  InPuts op = Repairs op × Contains (Puts asked) op

  repair_in : (x : Labelled Task) (c : Copies) → Contains w.shared c → Contains asked x → x.op ≡ reading_of c → (u : Spot) → Contains (mended c) u → InPuts (store c u)
  repair_in x c k cx e u m = (
    record { piece = c; listed = k; spot = u; is = refl; mends = m },
    all_contains (λ (v : Spot). Contains (Puts asked) (store c v)) (mended c) u
        (all_unmap (Contains (Puts asked)) (store c) (mended c) (subst (λ (q : Task). AllByRecursion (Contains (Puts asked)) (puts_for s before q)) e (puts_contain asked x cx))) m,
  )

  in_lies : (op : LeafOp) → InPuts op → LiesOn w.sizes op
  in_lies op k = repair_lies s before w.sizes g.well.rows w.shared g.well.copies g.well.clear g.have op k.0

  sorted_of : (d : Deed (Labelled Task) Value) → Contains history d → IsFrom g.oracle asked d.op → IsSorted test j w.terms w.sizes InPuts in_lies d
  sorted_of d cd from =
      let x : Labelled Task = from.0 in
      ⊎_elim
      (λ one.
      let same : x ≡ d.op = single_origin j w history values before after g x d.op one.0 from.2 in
      let no : test d.op ≡ false = subst (λ (y : Labelled Task). test y ≡ false) same (single_tested x from.1 one.0) in
      record {
        leaf = λ e. absurd (let bad : true ≡ false = sym e ∙ no in cc);
        puts = λ e. absurd (let bad : true ≡ false = sym e ∙ no in cc);
        apart = λ e op k. subst (λ (y : Labelled Task). TasksApart (Leaf op) y.op) same (repair_apart j w.terms w.sizes before g.well.rows w.shared g.well.copies g.well.clear g.have x op (single_of x from.1 one.0 one.1) k.0);
      })
      (λ (r : (c : Copies) × Contains w.shared c × (x.op ≡ reading_of c)).
      let c : Copies = r.0 in
      let yes : test d.op ≡ true = all_contains (λ (q : Labelled Task). test q ≡ true) (g.oracle.asked x) d.op (parts_tested x c from.1 r.2) from.2 in
      let own : IsOwn j w history values before after g c d.op =
      (x.at, reader_here j w history values before after g x c r.2 from.1, subst (λ (xs : List (Labelled Task)). Contains xs d.op) (asked_is j w history values before after g x c r.2) from.2) in
      let proper : IsProper (spots j w history values before after g c) c.len (mended c) (bytes_of s before c) d.op.op =
      all_contains (λ (e : Deed (Labelled Task) Value). IsOwn j w history values before after g c e.op → IsProper (spots j w history values before after g c) c.len (mended c) (bytes_of s before c) e.op.op) history d (end_of j w history values before after g c r.1).proper cd own in
      record {
        leaf = λ e. proper_leaf (spots j w history values before after g c) c.len (mended c) (bytes_of s before c) d.op.op proper;
        puts = λ e. proper_stores (spots j w history values before after g c) c.len (mended c) (bytes_of s before c) InPuts d.op.op (repair_in x c r.1 from.1 r.2) proper;
        apart = λ e op k. absurd (let bad : true ≡ false = sym yes ∙ e in cc);
      })
      (sort_of j w history values before after g x from.1)

  sorted : AllByRecursion (IsSorted test j w.terms w.sizes InPuts in_lies) history
  sorted = each history (all_contained history) (origins j w history values before after g)
    where
      each : (ds : List (Deed (Labelled Task) Value)) → AllByRecursion (Contains history) ds → AllByRecursion (λ (d : Deed (Labelled Task) Value). IsFrom g.oracle asked d.op) ds → AllByRecursion (IsSorted test j w.terms w.sizes InPuts in_lies) ds
      each [] c h = tt
      each (d ∷ ds) c h = (sorted_of d c.0 h.0, each ds c.1 h.1)

  abbrev was_put : List LeafOp
  was_put = puts_done test history

  put_in : AllByRecursion InPuts was_put
  put_in = all_puts test InPuts history (all_weaker (IsSorted test j w.terms w.sizes InPuts in_lies) (λ (d : Deed (Labelled Task) Value). test d.op ≡ true → AllByRecursion InPuts (stores_of d.op.op)) history (λ d k. k.puts) sorted)

  -- some reader puts the bytes on each copy
  abbrev SomePut : Copies → Spot → Type 0
  SomePut c u = (at : List ℕ) × Reader j w history values before after g c at × IsPut (bytes_of s before c) (asked_of j w history values before after g c at) u

  all_put : (x : Labelled Task) (c : Copies) → Contains w.shared c → Contains asked x → x.op ≡ reading_of c → AllByRecursion (SomePut c) (mended c)
  all_put x c k cx e =
      let here : Reader j w history values before after g c x.at = reader_here j w history values before after g x c e cx in
      let all : List Spot = spots j w history values before after g c in
      let parts : List (Labelled Task) = asked_of j w history values before after g c x.at in
      ⊎_elim
      (λ known.
      all_weaker (IsPut (bytes_of s before c) parts) (SomePut c) (mended c) (λ u p. (x.at, here, p))
      (follows_put g.oracle (one_is j w history values before after g) s all c.len (good_by c.test) before (mended c) (bytes_of s before c) (found_of s before c) x.at 0 (reader_of s before c) (piece j w history values before after g c k).follows
      (all_weaker (λ (q : Labelled Task). Contains [] q ⊎ Said (good_by c.test) (λ u r. r ≡ first_at s all c.len (good_by c.test) before (mended c) (bytes_of s before c) (found_of s before c) u) g.oracle q)
      (Said (good_by c.test) (λ u r. r ≡ first_at s all c.len (good_by c.test) before (mended c) (bytes_of s before c) (found_of s before c) u) g.oracle) parts
      (λ q h. ⊎_elim (λ (none : Contains [] q). absurd (all_contains (λ (y : Labelled Task). ⊥) [] q tt none)) (λ said. said) h)
      (known x.at here))))
      (λ put. put)
      (end_of j w history values before after g c k).puts

  put_there : (c : Copies) (u : Spot) → SomePut c u → Contains was_put (store c u)
  put_there c u p =
      let y : Labelled Task = p.2.0 in
      let at : IsPartAt p.0 y = all_contains (IsPartAt p.0) (asked_of j w history values before after g c p.0) y (asked_parts g.oracle (one_is j w history values before after g) p.0 0 (reader_of s before c)) p.2.1 in
      put_done test history y false (bytes_of s before c) u
      (all_contains (Contains (ops_of history)) (asked_of j w history values before after g c p.0) y (reader_asked j w history values before after g c p.0 p.1) p.2.1)
      (part_true asked (record { at = p.0; op = reading_of c }) y p.1 refl (sym (ap parent_at at.1 ∙ parent_part p.0 at.0)))
      p.2.2

  by_sort : (Q : LeafOp → Type 0) → ((x : Labelled Task) (c : Copies) → Contains w.shared c → Contains asked x → x.op ≡ reading_of c → AllByRecursion Q (puts_of s before c)) → AllByRecursion Q (Puts asked)
  by_sort Q f =
      all_by_puts Q asked
      (all_weaker (Contains asked) (λ (x : Labelled Task). AllByRecursion Q (puts_for s before x.op)) asked
      (λ x c.
      ⊎_elim
      (λ one. subst (AllByRecursion Q) (sym (single_puts j w.terms w.sizes before g.well.rows w.shared g.well.copies g.well.clear g.have x.op one.0)) tt)
      (λ r. subst (λ (q : Task). AllByRecursion Q (puts_for s before q)) (sym r.2) (f x r.0 r.1 c r.2))
      (sort_of j w history values before after g x c))
      (all_contained asked))

  puts_repairs : AllByRecursion Repairs (Puts asked)
  puts_repairs = by_sort Repairs (λ x c k cx e. puts_repair s before w.sizes g.well.rows w.shared g.well.copies g.well.clear g.have c k)

  puts_made : AllByRecursion (Contains was_put) (Puts asked)
  puts_made =
      by_sort (Contains was_put)
      (λ x c k cx e. all_map (Contains was_put) (store c) (mended c) (all_weaker (SomePut c) (λ (u : Spot). Contains was_put (store c u)) (mended c) (put_there c) (all_put x c k cx e)))

  same_after : after_all s was_put before ≡ after_all s (Puts asked) before
  same_after =
      same_repairs s before w.sizes g.well.rows w.shared g.well.copies g.well.clear g.have was_put (Puts asked) before
      (all_weaker InPuts Repairs was_put (λ op k. k.0) put_in) puts_repairs
      (all_weaker InPuts (Contains (Puts asked)) was_put (λ op k. k.1) put_in) puts_made g.have

  -- ---- the single operations, and all in turn

  abbrev Happens : List (Deed (Labelled Task) Value) → Images → Images → Type 0
  Happens ds from to = Happen (means_at (means j w.terms)) ds from to

  single_done : (d : Deed (Labelled Task) Value) → IsFrom g.oracle asked d.op → test d.op ≡ false → Single d.op × Contains (singles_in asked) d.op
  single_done d from e =
      let x : Labelled Task = from.0 in
      ⊎_elim
      (λ one.
      subst (λ (y : Labelled Task). Single y × Contains (singles_in asked) y) (single_origin j w history values before after g x d.op one.0 from.2)
      (single_of x from.1 one.0 one.1, single_listed asked x from.1 one.0))
      (λ (r : (c : Copies) × Contains w.shared c × (x.op ≡ reading_of c)).
      absurd (let yes : test d.op ≡ true = all_contains (λ (q : Labelled Task). test q ≡ true) (g.oracle.asked x) d.op (parts_tested x r.0 from.1 r.2) from.2 in let bad : true ≡ false = sym yes ∙ e in cc))
      (sort_of j w history values before after g x from.1)

  singles_apart : (x y : Labelled Task) → Single x → Single y → Passes s w.shared x y → TasksApart x.op y.op
  singles_apart x y hx hy (inl h) = h.0
  singles_apart x y hx hy (inr h) =
      let c : Copies = h.1.0 in
      apart_on (spots j w history values before after g c) c.len x.op y.op h.1.2 h.1.3 (hy.other c h.1.1)

  pub all_in_turn : Happens (deeds_as g.atomic.atoms asked) before after
  all_in_turn =
      let rest : List (Deed (Labelled Task) Value) = singles_done test history in
      let alone : List (Labelled Task) = singles_in asked in
      let start : Images = after_all s (Puts asked) before in
      let sized : HaveSizes w.sizes start = all_sized s w.sizes (Puts asked) before (all_weaker Repairs (LiesOn w.sizes) (Puts asked) (λ op r. repair_lies s before w.sizes g.well.rows w.shared g.well.copies g.well.clear g.have op r) puts_repairs) g.have in
      let did : Happens rest start after =
      subst (λ (i : Images). Happens rest i after) same_after (singles_happen test j w.terms w.sizes InPuts in_lies history before after sorted g.done.lies g.have g.happen) in
      let ascends : Ascends Earlier alone = ascends_singles asked g.atomic.rest.ascends in
      let from : AllByRecursion (λ (d : Deed (Labelled Task) Value). test d.op ≡ false → Single d.op × Contains alone d.op) history =
      all_weaker (λ (d : Deed (Labelled Task) Value). IsFrom g.oracle asked d.op) (λ (d : Deed (Labelled Task) Value). test d.op ≡ false → Single d.op × Contains alone d.op) history single_done (origins j w history values before after g) in
      let commute : Commute (means_at (means j w.terms)) (HaveSizes w.sizes) (λ (x : Labelled Task). TaskLies w.sizes x.op) (λ (x y : Labelled Task). TasksApart x.op y.op) = record {
        turned = λ x y. (tasks_commute j w.terms w.sizes).turned x.op y.op;
        sound = λ x. (tasks_commute j w.terms w.sizes).sound x.op;
        answer = λ x y. (tasks_commute j w.terms w.sizes).answer x.op y.op;
        images = λ x y. (tasks_commute j w.terms w.sizes).images x.op y.op;
      } in
      let shuffled : Shuffled alone (ops_of rest) =
      λ v.
      weigh_parts test g.oracle v asked splits ∙ ap (weigh (beside test v)) (sym g.atomic.parts)
      ∙ g.done.all g.oracle g.is g.agrees (beside test v) ∙ sym (weigh_done test v history) in
      let singles : Happens (deeds_as g.oracle alone) start after =
      happen_as_asked (means_at (means j w.terms)) (HaveSizes w.sizes) (λ (x : Labelled Task). TaskLies w.sizes x.op) (λ (x y : Labelled Task). TasksApart x.op y.op) commute Earlier same_place (Contains alone) (test_among alone ascends) g.oracle alone rest start after
      (all_contained alone)
      (all_singles test (λ (d : Deed (Labelled Task) Value). Contains alone d.op) history (all_weaker (λ (d : Deed (Labelled Task) Value). test d.op ≡ false → Single d.op × Contains alone d.op) (λ (d : Deed (Labelled Task) Value). test d.op ≡ false → Contains alone d.op) history (λ d k e. (k e).1) from))
      shuffled
      (all_singles test (λ (d : Deed (Labelled Task) Value). g.oracle.answer d.op ≡ d.answer) history (all_weaker (λ (d : Deed (Labelled Task) Value). g.oracle.answer d.op ≡ d.answer) (λ (d : Deed (Labelled Task) Value). test d.op ≡ false → g.oracle.answer d.op ≡ d.answer) history (λ d k e. k) g.agrees))
      ascends
      (order_singles test (Passes s w.shared) (λ x y. TasksApart x.op y.op) Single singles_apart history
      (all_weaker (λ (d : Deed (Labelled Task) Value). test d.op ≡ false → Single d.op × Contains alone d.op) (λ (d : Deed (Labelled Task) Value). test d.op ≡ false → Single d.op) history (λ d k e. (k e).0) from) g.done.order)
      (all_singles test (λ (d : Deed (Labelled Task) Value). TaskLies w.sizes d.op.op) history (all_weaker (λ (d : Deed (Labelled Task) Value). TaskLies w.sizes d.op.op) (λ (d : Deed (Labelled Task) Value). test d.op ≡ false → TaskLies w.sizes d.op.op) history (λ d k e. k) g.done.lies))
      sized did in
      in_turn j w.terms w.sizes before g.well.rows w.shared g.well.copies g.well.clear g.have g.oracle g.atomic.atoms g.atomic.answer asked before after turns puts_repairs
      (λ c k. inl (first_before s before w.sizes g.well.rows w.shared g.well.copies g.well.clear g.have c)) g.have singles
