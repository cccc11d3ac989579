-- The trees of a round begin, one after another.
use Rattle.std.proofs.Common.{◌≡◌, ◌≢◌, ℕ, zero, suc, ◌+◌, ◌<◌, ◌≤◌, List, [], ◌∷◌, ◌++◌, length, length-append, replicate, slice_get, slice_set, Option, Some, None, ◌⊎◌, inl, inr, refl, sym, ap, ◌∙◌, subst, arith}
use Rattle.std.proofs.lemmas.List.{replicate-append-replicate}
use Rattle.std.specs.List.{AllByRecursion}
use Rattle.zio_types.specs.declared.place.Top.{Top}
use Rattle.zio_script.specs.declared.script.Failmode.{Failmode}
use Rattle.zio_gang.specs.Attempts.{Terms}
use Rattle.zio_trace.specs.Families.{Forest, NoTrees, TreeOf}
use Rattle.zio_trace.specs.Rounds.{settles}
use Rattle.zio_frames.specs.Frames.{Flying}
use Rattle.zio_frames.specs.Running.{settling_from}
use Rattle.zio_frames.proofs.GetLemmas.{get_last, same_or_not}
use Rattle.slab.specs.Slab.{Slab}
use Rattle.zio_exchange.specs.Wholes.{AreTrees, IsTreeOf}
use Rattle.zio_exchange.specs.declared.waiting.UnfinishedRequest.{UnfinishedRequest}
use Rattle.zio_turns.specs.Attempting.{Course, attempt_of, course_of}
use Rattle.zio_staged.specs.Entries.{all_tops, handed_on, top_at}
use Rattle.zio_staged.specs.Parts.{Nodes}
use Rattle.zio_turns.specs.Rounds.{first_of, with_tree}
use Rattle.zio_turns.specs.Slabs.{AreAll}
use Rattle.zio_turns.specs.UnderTrees.{BeginsOn, FreshAt, HaveBegun, IsFreshFor, IsInState, TreesBegin}
use Rattle.zio_turns.specs.declared.entry.TiedNode.{TiedNode}
use Rattle.zio_turns.specs.declared.trees.TreeState.{TreeState}
use Rattle.zio_turns.specs.declared.trees.TreeState.TheVariants.{UnderWay}
use Rattle.zio_turns.proofs.AttemptMoves.{course_begins}
use Rattle.zio_turns.proofs.Requeue.{none_held, round_first}
use Rattle.zio_turns.proofs.Tops.{top_other, top_set}

fresh_trees : (t : Terms) (k : ℕ) (wholes : List (List UnfinishedRequest)) (f : Forest) → AreTrees wholes f → (n : ℕ) (whole : List UnfinishedRequest)
    → slice_get wholes n ≡ Some whole → FreshAt t (top_at (all_tops (settling_from k (settles f))) n) whole
fresh_trees t k [] f trees n whole e = absurd (cc)
fresh_trees t k (w ∷ wholes) NoTrees trees n whole e = absurd trees
fresh_trees t k (w ∷ wholes) (TreeOf p kids others) trees zero whole e =
    let same : w ≡ whole = cc in
    record { request = p; kids = kids; between = course_begins t p kids; is = subst (λ (x : List UnfinishedRequest). IsTreeOf x p kids) same trees.0 }
fresh_trees t k (w ∷ wholes) (TreeOf p kids others) trees (suc n) whole e =
    fresh_trees t (suc k) wholes others trees.1 n whole e

past_trees : (k : ℕ) (wholes : List (List UnfinishedRequest)) (f : Forest) → AreTrees wholes f → (n : ℕ) → length wholes ≤ n
    → top_at (all_tops (settling_from k (settles f))) n ≡ None
past_trees k [] NoTrees trees n h = refl
past_trees k [] (TreeOf p kids others) trees n h = absurd trees
past_trees k (w ∷ wholes) NoTrees trees n h = absurd trees
past_trees k (w ∷ wholes) (TreeOf p kids others) trees zero h = absurd (omega arith)
past_trees k (w ∷ wholes) (TreeOf p kids others) trees (suc n) h = past_trees (suc k) wholes others trees.1 n (omega arith)

get_before : {X : Type 0} (xs : List X) (y : X) (n : ℕ) → n < length xs → slice_get (xs ++ y ∷ []) n ≡ slice_get xs n
get_before [] y n h = absurd (omega arith)
get_before (x ∷ xs) y zero h = refl
get_before (x ∷ xs) y (suc n) h = get_before xs y n (omega arith)

module _ {N : Type 0} (nodes : Nodes N) (over : List Top → N → Type 0) (tree_over : List Top → List UnfinishedRequest → Type 0) (round : ℕ)
    (failmode : Failmode) (wholes : List (List UnfinishedRequest)) where
  pub record AreBeginning (slab : Slab (TiedNode N)) (line : List ℕ) (states : List TreeState) (rest : List (List UnfinishedRequest)) : Type 0 where
    pub begins : TreesBegin {N = N} nodes slab line round failmode wholes states rest
    pub inside : (tops : List Top) → AllByRecursion (tree_over tops) wholes → AreAll {N = N} (over tops) slab
        × AllByRecursion (tree_over tops) rest
    pub count : length states + length rest ≡ length wholes
    pub are : states ≡ replicate (length states) (UnderWay 0)

  pub none_begun : (slab : Slab (TiedNode N)) (line : List ℕ) (rest : List (List UnfinishedRequest)) → slab.slots ≡ [] → line ≡ [] → rest ≡ wholes
      → AreBeginning slab line [] rest
  none_begun slab line rest none empty same = subst (AreBeginning slab line []) (sym same) (record {
    begins = λ t sizes f before images sound same_round same_mode is trees. record {
      now = first_of f images;
      keeps = round_first nodes t sizes f before images slab line sound is none empty;
      entries_are = refl;
      images_are = refl;
      ops_are = refl;
      books_are = refl;
      begun = record {
        begun = λ n h. absurd (omega arith);
        fresh = λ n whole e. fresh_at t f trees n whole e;
        past = λ n h. past_trees 0 wholes f trees n (omega arith);
      };
    };
    inside = λ tops all. (none_held {N = N} (over tops) slab none, all);
    count = omega arith;
    are = refl;
  })
    where
      fresh_at : (t : Terms) (f : Forest) → AreTrees wholes f → (n : ℕ) (whole : List UnfinishedRequest) → slice_get wholes n ≡ Some whole
          → FreshAt t (top_at (all_tops (settling_from 0 (settles f))) (0 + n)) whole
      fresh_at t f trees n whole e =
          let zero_n : n ≡ 0 + n = omega arith in
          subst (λ (m : ℕ). FreshAt t (top_at (all_tops (settling_from 0 (settles f))) m) whole) zero_n
          (fresh_trees t 0 wholes f trees n whole e)

  -- ---- one more

  module _ (slab slab_now : Slab (TiedNode N)) (line line_now : List ℕ) (states : List TreeState) (whole : List UnfinishedRequest)
      (rest later : List (List UnfinishedRequest)) (h : AreBeginning slab line states rest) (is : rest ≡ whole ∷ later) where
    begun_more : (t : Terms) (tops : List (Option Flying)) (top now : Flying) → HaveBegun t tops states (whole ∷ later)
        → top_at tops (length states) ≡ Some top → IsInState t (Some now) (Some (UnderWay 0))
        → HaveBegun t (slice_set tops (length states) (Some now)) (states ++ UnderWay 0 ∷ []) later
    begun_more t tops top now b there state =
        let m : length (states ++ UnderWay 0 ∷ []) ≡ length states + 1 = length-append states (UnderWay 0 ∷ []) in
        record {
          begun = λ n less. by n less (same_or_not n (length states));
          fresh = λ n w e.
              let at : length states + suc n ≡ length (states ++ UnderWay 0 ∷ []) + n = omega (arith, m) in
              subst (λ (k : ℕ). FreshAt t (top_at (slice_set tops (length states) (Some now)) k) w) at
              (subst (λ (o : Option Flying). FreshAt t o w)
              (sym (top_other tops (length states) (length states + suc n) (Some now) (λ i. absurd (omega (arith, i)))))
              (b.fresh (suc n) w e));
          past = λ n less.
              top_other tops (length states) n (Some now) (λ i. absurd (omega (arith, i, less, m)))
              ∙ b.past n (omega (arith, less, m));
        }
      where
        by : (n : ℕ) → n < length (states ++ UnderWay 0 ∷ []) → (n ≡ length states) ⊎ (n ≢ length states)
            → IsInState t (top_at (slice_set tops (length states) (Some now)) n) (slice_get (states ++ UnderWay 0 ∷ []) n)
        by n less (inl i) =
            subst (λ (k : ℕ). IsInState t (top_at (slice_set tops (length states) (Some now)) k)
            (slice_get (states ++ UnderWay 0 ∷ []) k)) (sym i)
            (subst (λ (o : Option Flying). IsInState t o (slice_get (states ++ UnderWay 0 ∷ []) (length states)))
            (sym (top_set tops (length states) top (Some now) there))
            (subst (IsInState t (Some now)) (sym (get_last states (UnderWay 0))) state))
        by n less (inr other) =
            let m : length (states ++ UnderWay 0 ∷ []) ≡ length states + 1 = length-append states (UnderWay 0 ∷ []) in
            subst (λ (o : Option Flying). IsInState t o (slice_get (states ++ UnderWay 0 ∷ []) n))
            (sym (top_other tops (length states) n (Some now) other))
            (subst (IsInState t (top_at tops n)) (sym (get_before states (UnderWay 0) n (omega (arith, less, m, other))))
            (b.begun n (omega (arith, less, m, other))))

    found_fresh : (t : Terms) (tops : List (Option Flying)) (o : Option Flying) → top_at tops (length states) ≡ o → FreshAt t o whole
        → (top : Flying) × (top_at tops (length states) ≡ Some top) × IsFreshFor t top whole
    found_fresh t tops None e fresh = absurd fresh
    found_fresh t tops (Some top) e fresh = (top, e, fresh)

    pub begun_one : (tree : ℕ) (now : List TreeState) → tree ≡ length states → now ≡ states ++ UnderWay 0 ∷ []
        → BeginsOn {N = N} nodes slab line slab_now line_now round failmode tree 0 whole
        → ((tops : List Top) → AreAll {N = N} (over tops) slab → tree_over tops whole → AreAll {N = N} (over tops) slab_now)
        → AreBeginning slab_now line_now now later
    begun_one tree now number same begins_on still = subst (λ (xs : List TreeState). AreBeginning slab_now line_now xs later) (sym same)
        (record {
          begins = λ t sizes f before images sound same_round same_mode told trees.
              let b = h.begins t sizes f before images sound same_round same_mode told trees in
              let begun : HaveBegun t b.now.tops states (whole ∷ later) = subst (HaveBegun t b.now.tops states) is b.begun in
              let at : length states + 0 ≡ length states = omega arith in
              let fresh : FreshAt t (top_at b.now.tops (length states)) whole =
              subst (λ (k : ℕ). FreshAt t (top_at b.now.tops k) whole) at (begun.fresh 0 whole refl) in
              let found = found_fresh t b.now.tops (top_at b.now.tops (length states)) refl fresh in
              let c : Course = course_of found.2.request found.2.kids in
              let x = subst (λ (k : ℕ). BeginsOn {N = N} nodes slab line slab_now line_now round failmode k 0 whole) number begins_on t
              sizes f before b.now [] found.0 c sound same_round same_mode b.keeps found.1 found.2.between refl found.2.is in
              record {
                now = with_tree b.now (length states) (handed_on found.0 (attempt_of c));
                keeps = x.keeps;
                entries_are = b.entries_are;
                images_are = b.images_are;
                ops_are = b.ops_are;
                books_are = b.books_are;
                begun = begun_more t b.now.tops found.0 (handed_on found.0 (attempt_of c)) begun found.1 (c, x.out, refl, refl);
              };
          inside = λ tops all.
              let i = h.inside tops all in
              let both : AllByRecursion (tree_over tops) (whole ∷ later) = subst (AllByRecursion (tree_over tops)) is i.1 in
              (still tops i.0 both.0, both.1);
          count =
              let m : length (states ++ UnderWay 0 ∷ []) ≡ length states + 1 = length-append states (UnderWay 0 ∷ []) in
              let n : length rest ≡ length (whole ∷ later) = ap (λ (ws : List (List UnfinishedRequest)). length ws) is in
              omega (arith, m, n, h.count);
          are =
              let m : length (states ++ UnderWay 0 ∷ []) ≡ length states + 1 = length-append states (UnderWay 0 ∷ []) in
              ap (λ (xs : List TreeState). xs ++ UnderWay 0 ∷ []) h.are
              ∙ (replicate-append-replicate (length states) 1 (UnderWay 0)
              ∙ ap (λ (k : ℕ). replicate k (UnderWay 0)) (sym m));
        })
