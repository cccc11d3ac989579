-- The books of a round, move by move.
use Rattle.std.proofs.Common.{◌≡◌, ℕ, zero, suc, ◌+◌, List, [], ◌∷◌, ◌++◌, slice_get, slice_set, Option, Some, None, ◌⊎◌, inl, inr, refl, sym, ap, ◌∙◌, subst, arith, append_assoc, ◌≤◌}
use Rattle.std.specs.Prelude.{Contains, IsPermutation}
use Rattle.std.specs.List.{AllByRecursion, flat_map, sum_by}
use Rattle.std.proofs.lemmas.List.{append-nil}
use Rattle.std.proofs.lemmas.List.Concat.{flat_map-append}
use Rattle.std.proofs.lemmas.List.Elements.{Contains-append_left, Contains-append_right}
use Rattle.std.proofs.lemmas.List.Sorted.{Contains-permutation, IsPermutation-append_left, IsPermutation-append_right, IsPermutation-sym, IsPermutation-trans, sum_by-IsPermutation}
use Rattle.std.proofs.lemmas.List.Sums.{sum_by-cons}
use Rattle.zio_types.specs.declared.place.Place.{Place}
use Rattle.zio_types.specs.Choices.{Choice, taken_by}
use Rattle.zio_places.specs.Tables.{total}
use Rattle.zio_places.proofs.PlaceLemmas.{total-append}
use Rattle.zio_cksum.proofs.AllLemmas.{all_append, all_contained, all_weaker}
use Rattle.zio_gang.specs.Attempts.{Ended, Terms}
use Rattle.zio_trace.specs.Families.{Forest, NoTrees, TreeOf}
use Rattle.zio_trace.specs.Keys.{NumbersOnce}
use Rattle.zio_trace.specs.Rounds.{AreTrees, settles}
use Rattle.zio_trace.specs.Tasks.{Task, Value, settled}
use Rattle.zio_trace.proofs.AnyOrder.{all_permuted}
use Rattle.zio_frames.specs.Frames.{Flying, fresh_stack}
use Rattle.zio_frames.specs.Moves.{Chose, Closed, Did, Opened, Took}
use Rattle.zio_frames.specs.Running.{all_out, settling_from}
use Rattle.zio_frames.specs.Slots.{Heard, IsOut, Slot}
use Rattle.zio_frames.proofs.PermLemmas.{swap_fronts}
use Rattle.zio_exchange.specs.Outcomes.{held_by, places_by}
use Rattle.zio_exchange.specs.SpaceCalls.{SpaceCall, calls_back, calls_by}
use Rattle.zio_exchange.specs.declared.outcome.Outcome.{Outcome}
use Rattle.slab.specs.Slab.{Slab}
use Rattle.zio_turns.specs.Attempting.{IsSettle}
use Rattle.zio_turns.specs.Claims.{ClaimsOnce}
use Rattle.zio_turns.specs.Desks.{backs_in, choices_in, claims_in, found_in, taken_by_all}
use Rattle.zio_staged.specs.Entries.{Live, all_tops, live_of, new_flying}
use Rattle.zio_turns.specs.Ledgers.{AreBehind, Books, Ending, IsEnding, IsLedger, IsOfTree, all_ended, ended_of_top, ended_of_tree, ended_of_trees, ended_with, found_so_far, freed_for, freed_in, gave_over, held_over, made_for, made_in, no_books}
use Rattle.zio_staged.specs.Parts.{Nodes, ended_by, ended_in}
use Rattle.zio_turns.specs.Rests.{HasRests, HasRestsIn, numbers_ended}
use Rattle.zio_turns.specs.Sizes.{FitsBodies, HasSizes}
use Rattle.zio_turns.specs.Slabs.{left_in}
use Rattle.zio_staged.specs.Stages.{AreHandedOut}
use Rattle.zio_turns.specs.declared.entry.TiedNode.{TiedNode}
use Rattle.zio_turns.proofs.ClaimLedger.{first_ends, lives_order, second_same, tree_change}
use Rattle.zio_turns.proofs.DeskLemmas.{found_both, split_in}
use Rattle.zio_turns.proofs.LedgerChildren.{children_begin, children_end, children_first, children_new, children_no_top, children_order, children_root_end, children_second, children_top, ended_both, numbers_among, tops_set}
use Rattle.zio_turns.proofs.LedgerEnds.{IsMore, PlacesEnd}
use Rattle.zio_turns.proofs.LedgerHands.{hands_fresh}
use Rattle.zio_turns.proofs.LedgerHears.{HasHeardEarly, HasHeardIt}
use Rattle.zio_turns.proofs.LedgerPerms.{books_more, same_moved, set_less, set_more, set_same, with_heard, with_order, with_same}
use Rattle.zio_turns.proofs.Links.{some_is}
use Rattle.zio_turns.proofs.PlaceTotals.{contained}
use Rattle.zio_turns.proofs.RestLemmas.{EndLeaves, IsAmong}
use Rattle.zio_turns.proofs.SizeLemmas.{EndSizes}

-- ---- calls

found_back : (w : Place → ℕ) (gone : List Place) → total w (found_in (calls_back gone)) ≡ 0
found_back w [] = refl
found_back w (p ∷ gone) = found_back w gone

backs_back : (w : Place → ℕ) (gone : List Place) → total w (backs_in (calls_back gone)) ≡ total w gone
backs_back w [] = refl
backs_back w (p ∷ gone) = let rest = backs_back w gone in omega arith

pub backs_did : (w : Place → ℕ) (dids : List Did) (gone : List Place)
    → total w (backs_in (calls_by dids ++ calls_back gone)) ≡ total w gone
backs_did w [] gone = backs_back w gone
backs_did w (Opened op ∷ dids) gone = backs_did w dids gone
backs_did w (Closed v ∷ dids) gone = backs_did w dids gone
backs_did w (Chose c ∷ dids) gone = backs_did w dids gone
backs_did w (Took tree free ∷ dids) gone = backs_did w dids gone

pub found_did : (w : Place → ℕ) (dids : List Did) (gone : List Place)
    → total w (found_in (calls_by dids ++ calls_back gone)) ≡ total w (found_in (calls_by dids))
found_did w dids gone = omega (arith, found_both w (calls_by dids) (calls_back gone), found_back w gone)

pub found_more : (w : Place → ℕ) (entries : List Choice) (claimed : List Place) (calls : List SpaceCall)
    → total w (found_so_far (entries ++ choices_in calls) (claimed ++ claims_in calls))
    ≡ total w (found_so_far entries claimed) + total w (found_in calls)
found_more w entries claimed calls =
    let taken : total w (taken_by_all (entries ++ choices_in calls)) ≡ total w (taken_by_all entries ++ taken_by_all (choices_in calls)) =
    ap (total w) (flat_map-append taken_by entries (choices_in calls)) in
    omega (
      arith,
      taken,
      split_in w calls,
      total-append w (claimed ++ claims_in calls) (taken_by_all (entries ++ choices_in calls)),
      total-append w claimed (claims_in calls),
      total-append w (taken_by_all entries) (taken_by_all (choices_in calls)),
      total-append w claimed (taken_by_all entries),
    )

no_claims : (gone : List Place) → claims_in (calls_back gone) ≡ []
no_claims [] = refl
no_claims (p ∷ gone) = no_claims gone

-- where nothing was claimed the claims are as before
claims_same : (f : Forest) (claimed : List Place) (calls : List SpaceCall) (tops : List (Option Flying)) (lives : List Live)
    → claims_in calls ≡ [] → ClaimsOnce f claimed tops lives → ClaimsOnce f (claimed ++ claims_in calls) tops lives
claims_same f claimed calls tops lives none c =
    subst (λ (ps : List Place). ClaimsOnce f ps tops lives)
    (sym (ap (λ (ps : List Place). claimed ++ ps) none ∙ append-nil claimed)) c

pub back_are : (gone : List Place) → backs_in (calls_back gone) ≡ gone
back_are [] = refl
back_are (p ∷ gone) = ap (λ (ps : List Place). p ∷ ps) (back_are gone)

pub backs_are : (dids : List Did) (gone : List Place) → backs_in (calls_by dids ++ calls_back gone) ≡ gone
backs_are [] gone = back_are gone
backs_are (Opened op ∷ dids) gone = backs_are dids gone
backs_are (Closed v ∷ dids) gone = backs_are dids gone
backs_are (Chose c ∷ dids) gone = backs_are dids gone
backs_are (Took tree free ∷ dids) gone = backs_are dids gone

-- what is held was found
own_found : (used held found : List Place) (p : Place) → ((w : Place → ℕ) → total w held ≤ total w found)
    → Contains held p ⊎ Contains used p → Contains (used ++ found) p
own_found used held found p less (inl in_held) = Contains-append_right used found p (contained held found less p in_held)
own_found used held found p less (inr in_use) = Contains-append_left used found p in_use

-- with more that was found
backs_more : (used : List Place) (entries : List Choice) (claimed back : List Place) (calls : List SpaceCall)
    → AllByRecursion (Contains (used ++ found_so_far entries claimed)) back
    → AllByRecursion (Contains (used ++ found_so_far (entries ++ choices_in calls) (claimed ++ claims_in calls))) (backs_in calls)
    → AllByRecursion (Contains (used ++ found_so_far (entries ++ choices_in calls) (claimed ++ claims_in calls))) (back ++ backs_in calls)
backs_more used entries claimed back calls h k =
    let was : List Place = found_so_far entries claimed in
    let now : List Place = found_so_far (entries ++ choices_in calls) (claimed ++ claims_in calls) in
    all_append (Contains (used ++ now)) back (backs_in calls)
    (all_weaker (Contains (used ++ was)) (Contains (used ++ now)) back (λ p. contained (used ++ was) (used ++ now) (λ w.
    let more = found_more w entries claimed calls in
    let a = total-append w used was in
    let b = total-append w used now in
    omega arith) p) h) k

-- the books with these calls, and with these requests
abbrev pub booked : Books → List SpaceCall → Books
booked b calls = record { done = b.done; claimed = b.claimed ++ claims_in calls; back = b.back ++ backs_in calls }

abbrev pub enrolled : Books → List SpaceCall → List Ending → Books
enrolled b calls more = record { done = b.done ++ more; claimed = b.claimed ++ claims_in calls; back = b.back ++ backs_in calls }

-- ---- what is held

held_first : (w : Place → ℕ) (x : Live) (lives : List Live) → held_over w (x ∷ lives) ≡ total w (held_by x.stack) + held_over w lives
held_first w x lives = sum_by-cons (λ (y : Live). total w (held_by y.stack)) x lives

freed_both : (w : Place → ℕ) (done more : List Ending) → total w (freed_in (done ++ more)) ≡ total w (freed_in done) + total w (freed_in more)
freed_both w done more =
    ap (total w) (flat_map-append freed_for done more) ∙ total-append w (freed_in done) (freed_in more)

made_both : (w : Place → ℕ) (done more : List Ending) → total w (made_in (done ++ more)) ≡ total w (made_in done) + total w (made_in more)
made_both w done more = ap (total w) (flat_map-append made_for done more) ∙ total-append w (made_in done) (made_in more)

-- ---- behind those below

behind_both : (front : List Ended) (done more : List Ending) → AreBehind front done → AreBehind (front ++ all_ended done) more
    → AreBehind front (done ++ more)
behind_both front [] more h k = subst (λ (es : List Ended). AreBehind es more) (append-nil front) k
behind_both front (x ∷ done) more h k = (
  h.0,
  behind_both (front ++ x.ended ∷ []) done more h.1
      (subst (λ (es : List Ended). AreBehind es more) (sym (append_assoc front (x.ended ∷ []) (all_ended done))) k),
)

-- what it heard of finished before
heard_before : (own done rest : List Ended) → IsPermutation done (own ++ rest) → AllByRecursion (Contains done) own
heard_before own done rest p =
    all_weaker (Contains own) (Contains done) own
    (λ e c. Contains-permutation (own ++ rest) done e (IsPermutation-sym done (own ++ rest) p) (Contains-append_left own rest e c))
    (all_contained own)

-- of what is in flight for the trees, where one is so far now
trees_set : (tops : List (Option Flying)) (n : ℕ) (now : Option Flying)
    → ((k : ℕ) (top : Flying) → slice_get tops k ≡ Some (Some top) → IsOfTree top.stack)
    → ((top : Flying) → now ≡ Some top → IsOfTree top.stack)
    → (k : ℕ) (top : Flying) → slice_get (slice_set tops n now) k ≡ Some (Some top) → IsOfTree top.stack
trees_set tops n now = tops_set (λ (x : Flying). IsOfTree x.stack) tops n now

of_same : (b top : Flying) → Some b ≡ Some top → IsOfTree b.stack → IsOfTree top.stack
of_same b top e h = subst (λ (x : Flying). IsOfTree x.stack) (some_is b top e) h

module _ {N : Type 0} (nodes : Nodes N) (t : Terms) (f : Forest) (books : Books) (entries : List Choice)
    (tops : List (Option Flying)) (trees : List Slot) (slab slab_now : Slab (TiedNode N)) where
  abbrev Before : List Live → Type 0
  Before lives = IsLedger {N = N} nodes t f books entries tops trees lives slab

  abbrev Later : Books → List Choice → List (Option Flying) → List Slot → List Live → Type 0
  Later b es tops_now trees_now lives = IsLedger {N = N} nodes t f b es tops_now trees_now lives slab_now

  -- nothing but their order changes
  pub ledger_order : (lives now : List Live) → IsPermutation lives now → Before lives → Before now
  ledger_order lives now p l =
      let heard : List Ended = ended_of_trees tops trees in
      let same : (w : Place → ℕ) → held_over w now ≡ held_over w lives =
      λ w. sum_by-IsPermutation (λ (x : Live). total w (held_by x.stack)) lives now p in
      record {
        requests = IsPermutation-trans (all_ended books.done) (ended_with heard lives) (ended_with heard now) l.requests
            (with_order heard lives now p);
        each = l.each;
        behind = l.behind;
        places = λ w. omega (arith, l.places w, same w);
        made = λ w. omega (arith, l.made w, same w);
        backs = l.backs;
        hands = all_permuted (λ (x : Live). AreHandedOut x.stack) lives now p l.hands;
        of_trees = l.of_trees;
        rests = children_order f books.done tops lives now p l.rests;
        sizes = all_permuted (λ (x : Live). HasSizes x.stack) lives now p l.sizes;
        sized = l.sized;
        claims = lives_order f books.claimed tops lives now p l.claims;
      }

  -- the first goes on, with these calls
  pub ledger_moves : (calls : List SpaceCall) (key : ℕ) (x y : Flying) (others : List Live) → Before (live_of key x ∷ others)
      → ended_in y.stack ≡ ended_in x.stack
      → ((w : Place → ℕ) → total w (held_by y.stack) ≡ total w (held_by x.stack) + total w (found_in calls))
      → AreHandedOut y.stack → HasSizes y.stack
      → AllByRecursion (λ (p : Place). Contains (held_by y.stack) p ⊎ Contains t.used p) (backs_in calls)
      → ((w : Place → ℕ) → gave_over {N = N} nodes w slab_now ≡ gave_over {N = N} nodes w slab + total w (backs_in calls))
      → ((ended : List ℕ) → HasRests f ended x.stack → HasRests f ended y.stack)
      → ClaimsOnce f (books.claimed ++ claims_in calls) tops (live_of key y ∷ others)
      → Later (booked books calls) (entries ++ choices_in calls) tops trees (live_of key y ∷ others)
  ledger_moves calls key x y others l ended held hands sizes own gave rests claims = record {
    requests = subst (λ (es : List Ended). IsPermutation (all_ended books.done) (es ++ ended_with (ended_of_trees tops trees) others))
        (sym ended) l.requests;
    each = l.each;
    behind = l.behind;
    places = λ w. omega (
      arith,
      l.places w,
      found_more w entries books.claimed calls,
      held w,
      gave w,
      held_first w (live_of key x) others,
      held_first w (live_of key y) others,
      total-append w books.back (backs_in calls),
    );
    made = λ w. omega (
      arith,
      l.made w,
      found_more w entries books.claimed calls,
      held w,
      held_first w (live_of key x) others,
      held_first w (live_of key y) others,
    );
    backs = backs_more t.used entries books.claimed books.back calls l.backs (all_weaker
        (λ (p : Place). Contains (held_by y.stack) p ⊎ Contains t.used p)
        (Contains (t.used ++ found_so_far (entries ++ choices_in calls) (books.claimed ++ claims_in calls))) (backs_in calls)
        (λ p. own_found t.used (held_by y.stack) (found_so_far (entries ++ choices_in calls) (books.claimed ++ claims_in calls)) p (λ w.
        let now = found_more w entries books.claimed calls in
        let one = held_first w (live_of key x) others in
        let two = held w in
        let three = l.made w in
        omega arith)) own);
    hands = (hands, l.hands.1);
    of_trees = l.of_trees;
    rests = children_first f books.done tops (live_of key x) (live_of key y) others rests l.rests;
    sizes = (sizes, l.sizes.1);
    sized = l.sized;
    claims = claims;
  }

  -- no call was made
  pub ledger_stays : (calls : List SpaceCall) (lives : List Live) → Before lives → calls ≡ []
      → ((w : Place → ℕ) → gave_over {N = N} nodes w slab_now ≡ gave_over {N = N} nodes w slab)
      → Later (booked books calls) (entries ++ choices_in calls) tops trees lives
  ledger_stays calls lives l none gave =
      let found : (w : Place → ℕ) → total w (found_in calls) ≡ 0 = λ w. ap (λ (cs : List SpaceCall). total w (found_in cs)) none in
      let backs : (w : Place → ℕ) → total w (backs_in calls) ≡ 0 = λ w. ap (λ (cs : List SpaceCall). total w (backs_in cs)) none in
      record {
        requests = l.requests;
        each = l.each;
        behind = l.behind;
        places = λ w. omega (
          arith,
          l.places w,
          found_more w entries books.claimed calls,
          found w,
          backs w,
          gave w,
          total-append w books.back (backs_in calls),
        );
        made = λ w. omega (arith, l.made w, found_more w entries books.claimed calls, found w);
        backs = backs_more t.used entries books.claimed books.back calls l.backs
            (subst (AllByRecursion (Contains (t.used ++ found_so_far (entries ++ choices_in calls) (books.claimed ++ claims_in calls))))
            (sym (ap backs_in none)) tt);
        hands = l.hands;
        of_trees = l.of_trees;
        rests = l.rests;
        sizes = l.sizes;
        sized = l.sized;
        claims = claims_same f books.claimed calls tops lives (ap claims_in none) l.claims;
      }

  -- it is as before, with other nodes that gave the same back
  pub ledger_same : (lives : List Live) → Before lives
      → ((w : Place → ℕ) → gave_over {N = N} nodes w slab_now ≡ gave_over {N = N} nodes w slab) → Later books entries tops trees lives
  ledger_same lives l gave = record {
    requests = l.requests;
    each = l.each;
    behind = l.behind;
    places = λ w. omega (arith, l.places w, gave w);
    made = l.made;
    backs = l.backs;
    hands = l.hands;
    of_trees = l.of_trees;
    rests = l.rests;
    sizes = l.sizes;
    sized = l.sized;
    claims = l.claims;
  }

  -- the first is so far now, and no call was made
  pub ledger_changes : (key : ℕ) (x y : Flying) (others : List Live) → Before (live_of key x ∷ others)
      → ended_in y.stack ≡ ended_in x.stack → held_by y.stack ≡ held_by x.stack → AreHandedOut y.stack → HasSizes y.stack
      → ((w : Place → ℕ) → gave_over {N = N} nodes w slab_now ≡ gave_over {N = N} nodes w slab)
      → ((ended : List ℕ) → HasRests f ended x.stack → HasRests f ended y.stack)
      → ClaimsOnce f books.claimed tops (live_of key y ∷ others) → Later books entries tops trees (live_of key y ∷ others)
  ledger_changes key x y others l ended held hands sizes gave rests claims =
      let same : (w : Place → ℕ) → held_over w (live_of key y ∷ others) ≡ held_over w (live_of key x ∷ others) =
      λ w. omega (arith, ap (total w) held, held_first w (live_of key x) others, held_first w (live_of key y) others) in
      record {
        requests = subst (λ (es : List Ended). IsPermutation (all_ended books.done) (es ++ ended_with (ended_of_trees tops trees) others))
            (sym ended) l.requests;
        each = l.each;
        behind = l.behind;
        places = λ w. omega (arith, l.places w, gave w, same w);
        made = λ w. omega (arith, l.made w, same w);
        backs = l.backs;
        hands = (hands, l.hands.1);
        of_trees = l.of_trees;
        rests = children_first f books.done tops (live_of key x) (live_of key y) others rests l.rests;
        sizes = (sizes, l.sizes.1);
        sized = l.sized;
        claims = claims;
      }

  -- one more, of which nothing is done
  pub ledger_child : (key : ℕ) (x : Flying) (op : Task) (lives : List Live) → Before lives
      → ((w : Place → ℕ) → gave_over {N = N} nodes w slab_now ≡ gave_over {N = N} nodes w slab)
      → HasRestsIn f (numbers_ended (all_ended books.done)) op
      → ClaimsOnce f books.claimed tops (live_of key (new_flying x op) ∷ lives)
      → Later books entries tops trees (live_of key (new_flying x op) ∷ lives)
  ledger_child key x op lives l gave own claims = record {
    requests = l.requests;
    each = l.each;
    behind = l.behind;
    places = λ w. omega (arith, l.places w, gave w, held_first w (live_of key (new_flying x op)) lives);
    made = λ w. omega (arith, l.made w, held_first w (live_of key (new_flying x op)) lives);
    backs = l.backs;
    hands = (hands_fresh op, l.hands);
    of_trees = l.of_trees;
    rests = children_new f books.done tops key x op lives own l.rests;
    sizes = (record { outer = tt; inner = tt }, l.sizes);
    sized = l.sized;
    claims = claims;
  }

  -- what is in flight for a tree is so far now, and heard of the same
  pub ledger_tree : (n : ℕ) (a b : Flying) (lives : List Live) → Before lives → slice_get tops n ≡ Some (Some a)
      → ended_in b.stack ≡ ended_in a.stack → (IsOfTree a.stack → IsOfTree b.stack)
      → ((w : Place → ℕ) → gave_over {N = N} nodes w slab_now ≡ gave_over {N = N} nodes w slab)
      → ((ended : List ℕ) → HasRests f ended a.stack → HasRests f ended b.stack)
      → ClaimsOnce f books.claimed (slice_set tops n (Some b)) lives → Later books entries (slice_set tops n (Some b)) trees lives
  ledger_tree n a b lives l there same of gave rests claims =
      let all : flat_map ended_of_top (slice_set tops n (Some b)) ≡ flat_map ended_of_top tops =
      set_same ended_of_top tops n (Some a) (Some b) there same in
      record {
        requests = subst (λ (es : List Ended). IsPermutation (all_ended books.done) (ended_with (es ++ flat_map ended_of_tree trees) lives))
            (sym all) l.requests;
        each = l.each;
        behind = l.behind;
        places = λ w. omega (arith, l.places w, gave w);
        made = l.made;
        backs = l.backs;
        hands = l.hands;
        of_trees = trees_set tops n (Some b) l.of_trees (λ top is. of_same b top is (of (l.of_trees n a there)));
        rests = children_top f books.done tops n a b lives there rests l.rests;
        sizes = l.sizes;
        sized = l.sized;
        claims = claims;
      }

  -- the tree has its value, with the requests that it heard of
  pub ledger_settles : (n : ℕ) (a : Flying) (told : Option _) (v : Value) (lives : List Live) → Before lives
      → slice_get tops n ≡ Some (Some a) → slice_get trees n ≡ Some (IsOut told) → ended_in a.stack ≡ (settled v).ended
      → ((w : Place → ℕ) → gave_over {N = N} nodes w slab_now ≡ gave_over {N = N} nodes w slab)
      → Later books entries (slice_set tops n None) (slice_set trees n (Heard v)) lives
  ledger_settles n a told v lives l there out same gave =
      let left : List Ended = flat_map ended_of_top (slice_set tops n None) in
      let own : List Ended = (settled v).ended in
      let rest : List Ended = flat_map ended_of_tree trees in
      let now : List Ended = flat_map ended_of_tree (slice_set trees n (Heard v)) in
      let more : IsPermutation now (own ++ rest) =
      set_more ended_of_tree trees n (IsOut told) (Heard v) own out (same_moved own (own ++ []) (sym (append-nil own))) in
      let less : IsPermutation (own ++ left) (flat_map ended_of_top tops) =
      subst (λ (es : List Ended). IsPermutation (es ++ left) (flat_map ended_of_top tops)) same
      (set_less ended_of_top tops n (Some a) None there refl) in
      let one : IsPermutation (left ++ now) (left ++ (own ++ rest)) = IsPermutation-append_right left now (own ++ rest) more in
      let two : IsPermutation (left ++ (own ++ rest)) (own ++ (left ++ rest)) = swap_fronts left own rest in
      let three : IsPermutation (own ++ (left ++ rest)) (flat_map ended_of_top tops ++ rest) =
      subst (λ (es : List Ended). IsPermutation es (flat_map ended_of_top tops ++ rest)) (append_assoc own left rest)
      (IsPermutation-append_left rest (own ++ left) (flat_map ended_of_top tops) less) in
      let heard : IsPermutation (left ++ now) (flat_map ended_of_top tops ++ rest) =
      IsPermutation-trans (left ++ now) (left ++ (own ++ rest)) (flat_map ended_of_top tops ++ rest) one
      (IsPermutation-trans (left ++ (own ++ rest)) (own ++ (left ++ rest)) (flat_map ended_of_top tops ++ rest) two three) in
      record {
        requests = IsPermutation-trans (all_ended books.done) (ended_with (flat_map ended_of_top tops ++ rest) lives)
            (ended_with (left ++ now) lives) l.requests
            (with_same lives (flat_map ended_of_top tops ++ rest) (left ++ now)
            (IsPermutation-sym (left ++ now) (flat_map ended_of_top tops ++ rest) heard));
        each = l.each;
        behind = l.behind;
        places = λ w. omega (arith, l.places w, gave w);
        made = l.made;
        backs = l.backs;
        hands = l.hands;
        of_trees = trees_set tops n None l.of_trees (λ top is. absurd (cc));
        rests = children_no_top f books.done tops n lives l.rests;
        sizes = l.sizes;
        sized = l.sized;
        claims = tree_change f books.claimed tops n a None lives l.claims there (omega arith) (λ h quiet b e. absurd (cc));
      }

  -- the second heard of a pointer
  pub ledger_tells : (x : Live) (above : ℕ) (q y : Flying) (others : List Live) → Before (x ∷ live_of above q ∷ others)
      → HasHeardEarly q.stack y.stack
      → ((w : Place → ℕ) → gave_over {N = N} nodes w slab_now ≡ gave_over {N = N} nodes w slab)
      → Later books entries tops trees (x ∷ live_of above y ∷ others)
  ledger_tells x above q y others l h gave =
      let same : (w : Place → ℕ) → total w (held_by y.stack) ≡ total w (held_by q.stack) = λ w. ap (total w) h.held in
      let held : (w : Place → ℕ) → held_over w (x ∷ live_of above y ∷ others) ≡ held_over w (x ∷ live_of above q ∷ others) =
      λ w. omega (
        arith,
        same w,
        held_first w x (live_of above y ∷ others),
        held_first w x (live_of above q ∷ others),
        held_first w (live_of above y) others,
        held_first w (live_of above q) others,
      ) in
      record {
        requests = subst (λ (es : List Ended). IsPermutation (all_ended books.done)
            (ended_in x.stack ++ (es ++ ended_with (ended_of_trees tops trees) others))) (sym h.ended) l.requests;
        each = l.each;
        behind = l.behind;
        places = λ w. omega (arith, l.places w, gave w, held w);
        made = λ w. omega (arith, l.made w, held w);
        backs = l.backs;
        hands = (l.hands.0, (h.hands l.hands.1.0, l.hands.1.1));
        of_trees = l.of_trees;
        rests = children_second f books.done tops x (live_of above q) (live_of above y) others (λ es. h.rests f es) l.rests;
        sizes = (l.sizes.0, (h.sizes l.sizes.1.0, l.sizes.1.1));
        sized = l.sized;
        claims = second_same f books.claimed tops x (live_of above q) (live_of above y) others l.claims h.turn h.same_op;
      }

  -- ---- it ends

  module _ {S : Type 0} (key : ℕ) (x : Flying) (outcome : Outcome S) (v : Value) (gone : List Place) (calls : List SpaceCall) (ended : List Ended)
      (node : N) (are : calls ≡ calls_back gone) (m : IsMore t f x.stack outcome ended)
      (requests : ended_by v ≡ ended_in x.stack ++ ended) (ends : (w : Place → ℕ) → PlacesEnd {N = N} nodes node x.stack outcome v gone w)
      (gave : (w : Place → ℕ) → gave_over {N = N} nodes w slab_now + total w (nodes.gave node) ≡ gave_over {N = N} nodes w slab)
      (own : AllByRecursion (λ (p : Place). Contains (held_by x.stack) p ⊎ Contains t.used p) gone)
      (leaves : EndLeaves t f x.stack v) (sizes : EndSizes t f x.stack v) where
    none_found : (w : Place → ℕ) → total w (found_in calls) ≡ 0
    none_found w = ap (λ (cs : List SpaceCall). total w (found_in cs)) are ∙ found_back w gone

    all_back : (w : Place → ℕ) → total w (backs_in calls) ≡ total w gone
    all_back w = ap (λ (cs : List SpaceCall). total w (backs_in cs)) are ∙ backs_back w gone

    value_ended : ended_by v ≡ ended_in x.stack ++ all_ended m.more
    value_ended = requests ∙ ap (λ (es : List Ended). ended_in x.stack ++ es) (sym m.are)

    behind_now : (rest : List Ended) → IsPermutation (all_ended books.done) (ended_in x.stack ++ rest) → AreBehind [] books.done
        → AreBehind [] (books.done ++ m.more)
    behind_now rest p h =
        behind_both [] books.done m.more h (m.behind (all_ended books.done) (heard_before (ended_in x.stack) (all_ended books.done) rest p))

    -- the requests in its value finished
    ended_now : (rest : List Ended) → IsPermutation (all_ended books.done) (ended_in x.stack ++ rest)
        → IsAmong (numbers_ended (ended_by v)) (numbers_ended (all_ended (books.done ++ m.more)))
    ended_now rest p =
        let was : List Ended = all_ended books.done in
        let more : List Ended = all_ended m.more in
        numbers_among (ended_by v) (all_ended (books.done ++ m.more))
        (subst (λ (es : List Ended). AllByRecursion (Contains es) (ended_by v)) (sym (ended_both books.done m.more))
        (subst (AllByRecursion (Contains (was ++ more))) (sym value_ended)
        (all_append (Contains (was ++ more)) (ended_in x.stack) more
        (all_weaker (Contains was) (Contains (was ++ more)) (ended_in x.stack) (λ e c. Contains-append_left was more e c)
        (heard_before (ended_in x.stack) was rest p))
        (all_weaker (Contains more) (Contains (was ++ more)) more (λ e c. Contains-append_right was more e c)
        (all_contained more)))))

    -- and each read that did has the size of its block's bodies
    sized_now : HasSizes x.stack → AllByRecursion (λ (y : Ending). FitsBodies y.request y.ended) books.done
        → AllByRecursion (λ (y : Ending). FitsBodies y.request y.ended) (books.done ++ m.more)
    sized_now has h =
        all_append (λ (y : Ending). FitsBodies y.request y.ended) books.done m.more h
        (all_weaker (λ (y : Ending). (h : IsEnding t f y) × (h.stack ≡ x.stack))
        (λ (y : Ending). FitsBodies y.request y.ended) m.more (λ y k. sizes.last has y k.0 k.1) m.by)

    -- what it gave back was found or in use
    backs_now : ((w : Place → ℕ) → total w (held_by x.stack) ≤ total w (found_so_far entries books.claimed))
        → AllByRecursion (Contains (t.used ++ found_so_far entries books.claimed)) books.back
        → AllByRecursion (Contains (t.used ++ found_so_far (entries ++ choices_in calls) (books.claimed ++ claims_in calls)))
        (books.back ++ backs_in calls)
    backs_now less h =
        let now : List Place = found_so_far (entries ++ choices_in calls) (books.claimed ++ claims_in calls) in
        let same : backs_in calls ≡ gone = ap backs_in are ∙ back_are gone in
        backs_more t.used entries books.claimed books.back calls h
        (subst (AllByRecursion (Contains (t.used ++ now))) (sym same)
        (all_weaker (λ (p : Place). Contains (held_by x.stack) p ⊎ Contains t.used p) (Contains (t.used ++ now)) gone
        (λ p. own_found t.used (held_by x.stack) now p (λ w.
        let more = found_more w entries books.claimed calls in
        let few = less w in
        omega arith)) own))

    -- and its parent, which comes second, heard of it
    pub ledger_ends : (above : ℕ) (q y : Flying) (others : List Live) → Before (live_of key x ∷ live_of above q ∷ others)
        → HasHeardIt q.stack x.stack.outer.op v y.stack → AreHandedOut y.stack
        → Later (enrolled books calls m.more) (entries ++ choices_in calls) tops trees (live_of above y ∷ others)
    ledger_ends above q y others l h hands =
        let rest : List Ended = ended_with (ended_of_trees tops trees) others in
        let up : IsPermutation (ended_in y.stack) ((ended_in x.stack ++ all_ended m.more) ++ ended_in q.stack) =
        subst (λ (es : List Ended). IsPermutation (ended_in y.stack) (es ++ ended_in q.stack)) value_ended h.ended in
        let held : (w : Place → ℕ) → held_over w (live_of above y ∷ others) + total w (held_by x.stack)
        ≡ held_over w (live_of key x ∷ live_of above q ∷ others) + total w (places_by x.stack.outer.op v) =
        λ w. omega (
          arith,
          h.held w,
          held_first w (live_of key x) (live_of above q ∷ others),
          held_first w (live_of above q) others,
          held_first w (live_of above y) others,
        ) in
        record {
          requests = subst (λ (es : List Ended). IsPermutation es (ended_in y.stack ++ rest)) (sym (ended_both books.done m.more))
              (books_more (all_ended books.done) (ended_in x.stack) (all_ended m.more) (ended_in q.stack) (ended_in y.stack) rest
              l.requests up);
          each = all_append (IsEnding t f) books.done m.more l.each m.each;
          behind = behind_now (ended_in q.stack ++ rest) l.requests l.behind;
          places = λ w. omega (
            arith,
            l.places w,
            held w,
            gave w,
            (ends w).all,
            none_found w,
            all_back w,
            m.freed w,
            m.made w,
            freed_both w books.done m.more,
            made_both w books.done m.more,
            found_more w entries books.claimed calls,
            total-append w books.back (backs_in calls),
          );
          made = λ w. omega (
            arith,
            l.made w,
            held w,
            (ends w).held,
            none_found w,
            m.made w,
            made_both w books.done m.more,
            found_more w entries books.claimed calls,
          );
          backs = backs_now (λ w. omega (arith, l.made w, held_first w (live_of key x) (live_of above q ∷ others))) l.backs;
          hands = (hands, l.hands.1.1);
          of_trees = l.of_trees;
          rests = children_end t f books.done m.more x.stack v leaves m.by (ended_now (ended_in q.stack ++ rest) l.requests) tops
              (live_of key x) (live_of above q) (live_of above y) others refl (λ es. h.rests f es) l.rests;
          sizes = (h.sizes (sizes.value l.sizes.0) l.sizes.1.0, l.sizes.1.1);
          sized = sized_now l.sizes.0 l.sized;
          claims = claims_same f books.claimed calls tops (live_of above y ∷ others) (ap claims_in are ∙ no_claims gone)
              (first_ends f books.claimed tops (live_of key x) (live_of above y ∷ others)
              (second_same f books.claimed tops (live_of key x) (live_of above q) (live_of above y) others l.claims h.turn h.same_op));
        }

    -- and the tree heard of it; its value has no places
    pub ledger_root_ends : (n : ℕ) (q y : Flying) (others : List Live) → Before (live_of key x ∷ others)
        → slice_get tops n ≡ Some (Some q) → HasHeardIt q.stack x.stack.outer.op v y.stack → places_by x.stack.outer.op v ≡ []
        → (IsOfTree q.stack → IsOfTree y.stack) → ClaimsOnce f books.claimed (slice_set tops n (Some y)) others
        → Later (enrolled books calls m.more) (entries ++ choices_in calls) (slice_set tops n (Some y)) trees others
    ledger_root_ends n q y others l there h none of claims =
        let was : List Ended = ended_of_trees tops trees in
        let now : List Ended = ended_of_trees (slice_set tops n (Some y)) trees in
        let own : List Ended = ended_in x.stack ++ all_ended m.more in
        let tree : IsPermutation (flat_map ended_of_top (slice_set tops n (Some y))) (own ++ flat_map ended_of_top tops) =
        set_more ended_of_top tops n (Some q) (Some y) own there
        (subst (λ (es : List Ended). IsPermutation (ended_in y.stack) (es ++ ended_in q.stack)) value_ended h.ended) in
        let heard : IsPermutation now (own ++ was) =
        subst (IsPermutation now) (append_assoc own (flat_map ended_of_top tops) (flat_map ended_of_tree trees))
        (IsPermutation-append_left (flat_map ended_of_tree trees) (flat_map ended_of_top (slice_set tops n (Some y)))
        (own ++ flat_map ended_of_top tops) tree) in
        let first : IsPermutation (all_ended books.done ++ all_ended m.more) (own ++ ended_with was others) =
        books_more (all_ended books.done) (ended_in x.stack) (all_ended m.more) [] own (ended_with was others) l.requests
        (same_moved own (own ++ []) (sym (append-nil own))) in
        let nothing : (w : Place → ℕ) → total w (places_by x.stack.outer.op v) ≡ 0 = λ w. ap (total w) none in
        record {
          requests = subst (λ (es : List Ended). IsPermutation es (ended_with now others)) (sym (ended_both books.done m.more))
              (IsPermutation-trans (all_ended books.done ++ all_ended m.more) (own ++ ended_with was others) (ended_with now others) first
              (IsPermutation-sym (ended_with now others) (own ++ ended_with was others) (with_heard others was now own heard)));
          each = all_append (IsEnding t f) books.done m.more l.each m.each;
          behind = behind_now (ended_with was others) l.requests l.behind;
          places = λ w. omega (
            arith,
            l.places w,
            held_first w (live_of key x) others,
            gave w,
            (ends w).all,
            nothing w,
            none_found w,
            all_back w,
            m.freed w,
            m.made w,
            freed_both w books.done m.more,
            made_both w books.done m.more,
            found_more w entries books.claimed calls,
            total-append w books.back (backs_in calls),
          );
          made = λ w. omega (
            arith,
            l.made w,
            held_first w (live_of key x) others,
            (ends w).held,
            none_found w,
            m.made w,
            made_both w books.done m.more,
            found_more w entries books.claimed calls,
          );
          backs = backs_now (λ w. omega (arith, l.made w, held_first w (live_of key x) others)) l.backs;
          hands = l.hands.1;
          of_trees = trees_set tops n (Some y) l.of_trees (λ top is. of_same y top is (of (l.of_trees n q there)));
          rests = children_root_end t f books.done m.more x.stack v leaves m.by (ended_now (ended_with was others) l.requests)
              tops n (live_of key x) q y others refl there (λ es. h.rests f es) l.rests;
          sizes = l.sizes.1;
          sized = sized_now l.sizes.0 l.sized;
          claims = claims_same f books.claimed calls (slice_set tops n (Some y)) others (ap claims_in are ∙ no_claims gone) claims;
        }

-- ---- the beginning

fresh_tops : (n : ℕ) (tasks : List Task) → flat_map ended_of_top (all_tops (settling_from n tasks)) ≡ []
fresh_tops n [] = refl
fresh_tops n (q ∷ tasks) = fresh_tops (suc n) tasks

fresh_trees : (tasks : List Task) → flat_map ended_of_tree (all_out tasks) ≡ []
fresh_trees [] = refl
fresh_trees (q ∷ tasks) = fresh_trees tasks

all_settle : (f : Forest) → AllByRecursion IsSettle (settles f)
all_settle NoTrees = tt
all_settle (TreeOf p kids others) = (tt, all_settle others)

fresh_of_trees : (k : ℕ) (tasks : List Task) (n : ℕ) (top : Flying) → AllByRecursion IsSettle tasks
    → slice_get (all_tops (settling_from k tasks)) n ≡ Some (Some top) → IsOfTree top.stack
fresh_of_trees k [] n top h e = absurd (cc)
fresh_of_trees k (q ∷ tasks) zero top h e =
    of_same (record { at = k ∷ []; stack = fresh_stack q }) top (some_is _ _ e)
    (record { settles = h.0; alone = refl; attempts = λ m op is. absurd (cc) })
fresh_of_trees k (q ∷ tasks) (suc n) top h e = fresh_of_trees (suc k) tasks n top h.1 e

pub ledger_first : {N : Type 0} (nodes : Nodes N) (t : Terms) (f : Forest) (slab : Slab (TiedNode N)) → slab.slots ≡ [] → AreTrees f
    → NumbersOnce f → ClaimsOnce f [] (all_tops (settling_from 0 (settles f))) []
    → IsLedger {N = N} nodes t f no_books [] (all_tops (settling_from 0 (settles f))) (all_out (settles f)) [] slab
ledger_first {N} nodes t f slab none trees once claims =
    let gave : (w : Place → ℕ) → gave_over {N = N} nodes w slab ≡ 0 =
    λ w. ap (λ (xs : List (Option (TiedNode N))). sum_by (left_in {N = N} (λ (n : N). total w (nodes.gave n))) xs) none in
    let heard : [] ≡ ended_of_trees (all_tops (settling_from 0 (settles f))) (all_out (settles f)) =
    sym (ap (λ (es : List Ended). es ++ flat_map ended_of_tree (all_out (settles f))) (fresh_tops 0 (settles f)) ∙ fresh_trees (settles f)) in
    record {
      requests = same_moved [] (ended_of_trees (all_tops (settling_from 0 (settles f))) (all_out (settles f))) heard;
      each = tt;
      behind = tt;
      places = λ w. omega (arith, gave w);
      made = λ w. omega arith;
      backs = tt;
      hands = tt;
      of_trees = λ n top e. fresh_of_trees 0 (settles f) n top (all_settle f) e;
      rests = children_begin f trees once;
      sizes = tt;
      sized = tt;
      claims = claims;
    }
