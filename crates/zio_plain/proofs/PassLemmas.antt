-- A pass over a tree, request by request.
use Rattle.std.proofs.Common.{◌≡◌, ◌≢◌, ℕ, ◌≤◌, List, [], ◌∷◌, ◌++◌, length, map, take, drop, reverse, cond, Bool, true, false, ◌||◌, ◌&&◌, not, Some, ◌⊎◌, inl, inr, eqb, eqb-true, refl, sym, ap, ◌∙◌, subst, arith, append_assoc, length-append}
use Rattle.std.specs.Prelude.{bytes_eq}
use Rattle.std.specs.List.{AllByRecursion, flat_map}
use Rattle.std.proofs.lemmas.List.{append-nil, map-append, reverse-reverse, take-append-drop}
use Rattle.std.proofs.lemmas.Grind.{flat_map-append}
use Rattle.zio_types.specs.declared.place.Place.{Place}
use Rattle.zio_types.specs.declared.journal.Key.{Key}
use Rattle.zio_types.specs.Choices.{Ask, Choice, same_key, same_role}
use Rattle.zio_cksum.proofs.AllLemmas.{all_append, all_weaker}
use Rattle.zio_script.specs.declared.script.Failmode.{Failmode}
use Rattle.zio_script.specs.declared.script.Request.{Request}
use Rattle.zio_script.specs.Requests.{is_under_number, kind_of}
use Rattle.zio_script.specs.Whys.{is_claim}
use Rattle.zio_cksum.specs.Images.{Images}
use Rattle.zio_disks.specs.Whole.{IsWholeTree}
use Rattle.zio_gang.specs.declared.tree.Tree.{Tree}
use Rattle.zio_gang.specs.Attempts.{Attempt, Attempted, Return, Terms, attempt_each, attempt_one, attempt_tree, has_bits, joined_attempt, now_alone, returned_to, root_bits}
use Rattle.zio_gang.specs.Journals.{HaveDistinctKeys, asks_of}
use Rattle.zio_gang.specs.Trees.{tree_places}
use Rattle.zio_gang.proofs.AttemptLemmas.{attempt_each-append}
use Rattle.zio_blocks.specs.Blocks.{AnswersBy}
use Rattle.zio_course.specs.declared.runner.RequestEnd.{RequestEnd}
use Rattle.zio_course.proofs.MadePlaces.{made_append}
use Rattle.zio_course.specs.Runners.{AreRisingFrom, finished_of, has_claim, made_places, made_trees}
use Rattle.zio_plain.specs.declared.judge.Fate.{Fate}
use Rattle.zio_plain.specs.declared.judge.Fate.TheVariants.{Ends, Again}
use Rattle.zio_plain.specs.declared.waiting.Handed.{Handed}
use Rattle.zio_plain.specs.declared.waiting.Waiting.{Waiting}
use Rattle.zio_plain.specs.Judgments.{again_of, children_handed, ends_of}
use Rattle.zio_plain.specs.OwnEnds.{AreAsked, IsFor}
use Rattle.zio_plain.specs.Passes.{AreNumberedApart, Fated, HasFate, HasNumber, IsAmong, IsAttempted, IsFated, IsPass, IsPassed, IsStep, LastIsAgain, ends_in, freed_in, freed_of, is_again, left_in, waitings_in}
use Rattle.zio_plain.specs.Posts.{AreBehindChildren, IsOneTree, IsOver, IsSound, children_in, met_after, requests_in}
use Rattle.zio_plain.specs.Waits.{HasPointer, numbers_in, pending_of, pendings, return_of}
use Rattle.zio_plain.proofs.FateLemmas.{all_turned}
use Rattle.zio_plain.proofs.ReturnLemmas.{returned_last}
use Rattle.zio_plain.proofs.StillLemmas.{IsLeft, IsStack, left_again, left_ended, left_ends, left_none, left_tree, stack_drop, stack_handed, stack_length, stack_numbers, stack_pointers, stack_take, stack_turned}

-- ---- what was handed on

-- what was handed to these requests is on the stack
abbrev pub AreReturned : List Return → List Handed → List Waiting → Type 0
AreReturned returns hs rest = AllByRecursion (λ (p : Waiting). returned_to (pending_of p) returns ≡ returned_to (pending_of p) (map return_of hs)) rest

not_number : (b : Bool) → (b ≡ true → ⊥) → b ≡ false
not_number true h = absurd (h refl)
not_number false h = refl

dropped : (b : Bool) (r : Return) (rs ss : List Return) → b ≡ false → rs ≡ ss → cond b (r ∷ rs) rs ≡ ss
dropped true r rs ss e f = absurd (cc)
dropped false r rs ss e f = f

kept_both : (b : Bool) (r : Return) (rs ss : List Return) → rs ≡ ss → cond b (r ∷ rs) rs ≡ cond b (r ∷ ss) ss
kept_both true r rs ss e = ap (λ qs. r ∷ qs) e
kept_both false r rs ss e = e

-- those under another request are passed over
passed_over : (p : Waiting) (n : ℕ) (hs gs : List Handed) (ms : List Waiting) → p.request.number ≢ n → IsStack hs ms → AllByRecursion (λ (m : Waiting). m.request.under ≡ Some n) ms
    → returned_to (pending_of p) (map return_of (hs ++ gs)) ≡ returned_to (pending_of p) (map return_of gs)
passed_over p n [] gs ms apart s u = refl
passed_over p n (h ∷ hs) gs [] apart s u = absurd s
passed_over p n (h ∷ hs) gs (m ∷ ms) apart s u =
    let is : is_under_number h.under p.request.number ≡ eqb n p.request.number = ap (λ o. is_under_number o p.request.number) (s.1 ∙ u.0) in
    dropped (is_under_number h.under p.request.number) (return_of h) (returned_to (pending_of p) (map return_of (hs ++ gs))) (returned_to (pending_of p) (map return_of gs))
    (is ∙ not_number (eqb n p.request.number) (λ e. apart (sym (eqb-true n p.request.number e))))
    (passed_over p n hs gs ms apart s.3 u.1)

unders_in : (n : ℕ) (ms : List Waiting) → AllByRecursion (λ (r : Request). r.under ≡ Some n) (requests_in ms) → AllByRecursion (λ (m : Waiting). m.request.under ≡ Some n) ms
unders_in n [] u = tt
unders_in n (m ∷ ms) u = (u.0, unders_in n ms u.1)

turned_back : {X : Type 0} (P : X → Type 0) (xs : List X) → AllByRecursion P (reverse xs) → AllByRecursion P xs
turned_back P xs h = subst (AllByRecursion P) (reverse-reverse xs) (all_turned P (reverse xs) h)

kids_under : (w : Waiting) (met : List Waiting) → IsOver w met → AllByRecursion (λ (m : Waiting). m.request.under ≡ Some w.request.number) (take w.unfinished met)
kids_under w met over = turned_back (λ (m : Waiting). m.request.under ≡ Some w.request.number) (take w.unfinished met) (unders_in w.request.number (children_in w met) over.under)

-- one more was handed on, above those below its children
returned_more : (w : Waiting) (met : List Waiting) (returns : List Return) (one : Handed) (hs : List Handed) (rest : List Waiting) → IsStack hs met → IsOver w met
    → AllByRecursion (λ (q : Waiting). q.request.number ≢ w.request.number) rest → AreReturned returns hs rest → AreReturned (return_of one ∷ returns) (one ∷ drop w.unfinished hs) rest
returned_more w met returns one hs [] s over apart h = tt
returned_more w met returns one hs (p ∷ rest) s over apart h =
    let k : ℕ = w.unfinished in
    let below : returned_to (pending_of p) (map return_of hs) ≡ returned_to (pending_of p) (map return_of (drop k hs)) =
    ap (λ gs. returned_to (pending_of p) (map return_of gs)) (sym (take-append-drop k hs))
    ∙ passed_over p w.request.number (take k hs) (drop k hs) (take k met) apart.0 (stack_take k hs met s) (kids_under w met over) in (
      kept_both (is_under_number one.under p.request.number) (return_of one) (returned_to (pending_of p) returns) (returned_to (pending_of p) (map return_of (drop k hs))) (h.0 ∙ below),
      returned_more w met returns one hs rest s over apart.1 h.1,
    )

-- ---- lists

all_front : {X : Type 0} (P : X → Type 0) (xs ys : List X) → AllByRecursion P (xs ++ ys) → AllByRecursion P xs
all_front P [] ys h = tt
all_front P (x ∷ xs) ys h = (h.0, all_front P xs ys h.1)

all_back : {X : Type 0} (P : X → Type 0) (xs ys : List X) → AllByRecursion P (xs ++ ys) → AllByRecursion P ys
all_back P [] ys h = h
all_back P (x ∷ xs) ys h = all_back P xs ys h.1

and_first : (a b : Bool) → (a && b) ≡ true → a ≡ true
and_first true b e = refl
and_first false b e = absurd (cc)

and_second : (a b : Bool) → (a && b) ≡ true → b ≡ true
and_second true b e = e
and_second false b e = absurd (cc)

same_request : (a b : Key) → same_key a b ≡ true → a.request ≡ b.request
same_request a b e =
    let one = and_first (((eqb a.request b.request && eqb a.round b.round) && eqb a.attempt b.attempt) && bytes_eq a.path b.path) (same_role a.role b.role) e in
    let two = and_first ((eqb a.request b.request && eqb a.round b.round) && eqb a.attempt b.attempt) (bytes_eq a.path b.path) one in
    let three = and_first (eqb a.request b.request && eqb a.round b.round) (eqb a.attempt b.attempt) two in
    eqb-true a.request b.request (and_first (eqb a.request b.request) (eqb a.round b.round) three)

same_attempt : (a b : Key) → same_key a b ≡ true → a.attempt ≡ b.attempt
same_attempt a b e =
    let one = and_first (((eqb a.request b.request && eqb a.round b.round) && eqb a.attempt b.attempt) && bytes_eq a.path b.path) (same_role a.role b.role) e in
    let two = and_first ((eqb a.request b.request && eqb a.round b.round) && eqb a.attempt b.attempt) (bytes_eq a.path b.path) one in
    eqb-true a.attempt b.attempt (and_second (eqb a.request b.request && eqb a.round b.round) (eqb a.attempt b.attempt) two)

pub answers_before : (may : ℕ → ℕ → Type 0) (journal old new : List Choice) → AreAsked may old new → AnswersBy journal new → AnswersBy journal old
answers_before may journal old new h answers = all_front _ old h.more (subst (AnswersBy journal) h.is answers)

-- keys of which the one may not ask what the other may
keys_apart : (may might : ℕ → ℕ → Type 0) (a : Key) (bs : List Choice) → ((r n : ℕ) → may r n → might r n → ⊥) → may a.request a.attempt
    → AllByRecursion (λ (c : Choice). might c.asked.key.request c.asked.key.attempt) bs → AllByRecursion (λ (other : Ask). same_key a other.key ≡ false) (asks_of bs)
keys_apart may might a [] apart h k = tt
keys_apart may might a (b ∷ bs) apart h k = (
  not_number (same_key a b.asked.key) (λ e.
      apart a.request a.attempt h
      (subst (λ n. might a.request n) (sym (same_attempt a b.asked.key e)) (subst (λ r. might r b.asked.key.attempt) (sym (same_request a b.asked.key e)) k.0))),
  keys_apart may might a bs apart h k.1,
)

keys_both : (may might : ℕ → ℕ → Type 0) (xs ys : List Choice) → ((r n : ℕ) → may r n → might r n → ⊥)
    → AllByRecursion (λ (c : Choice). may c.asked.key.request c.asked.key.attempt) xs → AllByRecursion (λ (c : Choice). might c.asked.key.request c.asked.key.attempt) ys
    → HaveDistinctKeys (asks_of xs) → HaveDistinctKeys (asks_of ys) → HaveDistinctKeys (asks_of (xs ++ ys))
keys_both may might [] ys apart h k d e = e
keys_both may might (x ∷ xs) ys apart h k d e = (
  subst (AllByRecursion (λ (other : Ask). same_key x.asked.key other.key ≡ false)) (sym (map-append (λ (c : Choice). c.asked) xs ys))
      (all_append (λ (other : Ask). same_key x.asked.key other.key ≡ false) (asks_of xs) (asks_of ys) d.0 (keys_apart may might x.asked.key ys apart h.0 k)),
  keys_both may might xs ys apart h.1 k d.1 e,
)

-- what was asked one after the other
pub asked_both : (may might all : ℕ → ℕ → Type 0) (a b c : List Choice) → ((r n : ℕ) → may r n → might r n → ⊥) → ((r n : ℕ) → may r n → all r n) → ((r n : ℕ) → might r n → all r n)
    → AreAsked may a b → AreAsked might b c → AreAsked all a c
asked_both may might all a b c apart first second h k = record {
  more = h.more ++ k.more;
  is = k.is ∙ ap (λ es. es ++ k.more) h.is ∙ append_assoc a h.more k.more;
  of = all_append (λ (x : Choice). all x.asked.key.request x.asked.key.attempt) h.more k.more
      (all_weaker (λ (x : Choice). may x.asked.key.request x.asked.key.attempt) (λ (x : Choice). all x.asked.key.request x.asked.key.attempt) h.more (λ x p. first x.asked.key.request x.asked.key.attempt p) h.of)
      (all_weaker (λ (x : Choice). might x.asked.key.request x.asked.key.attempt) (λ (x : Choice). all x.asked.key.request x.asked.key.attempt) k.more (λ x p. second x.asked.key.request x.asked.key.attempt p) k.of);
  distinct = keys_both may might h.more k.more apart h.of k.of h.distinct k.distinct;
}

pub asked_weaker : (may all : ℕ → ℕ → Type 0) (a b : List Choice) → ((r n : ℕ) → may r n → all r n) → AreAsked may a b → AreAsked all a b
asked_weaker may all a b first h = record {
  more = h.more;
  is = h.is;
  of = all_weaker (λ (x : Choice). may x.asked.key.request x.asked.key.attempt) (λ (x : Choice). all x.asked.key.request x.asked.key.attempt) h.more (λ x p. first x.asked.key.request x.asked.key.attempt p) h.of;
  distinct = h.distinct;
}

-- ---- numbers

pub number_front : (n : ℕ) (xs ys : List Waiting) → HasNumber xs n → HasNumber (xs ++ ys) n
number_front n [] ys h = absurd h
number_front n (x ∷ xs) ys (inl e) = inl e
number_front n (x ∷ xs) ys (inr h) = inr (number_front n xs ys h)

pub number_back : (n : ℕ) (xs ys : List Waiting) → HasNumber ys n → HasNumber (xs ++ ys) n
number_back n [] ys h = h
number_back n (x ∷ xs) ys h = inr (number_back n xs ys h)

-- no request in front has the number of one behind
pub number_once : (w : Waiting) (xs rest : List Waiting) → AreNumberedApart (xs ++ w ∷ rest) → HasNumber xs w.request.number → ⊥
number_once w [] rest apart h = h
number_once w (x ∷ xs) rest apart (inl e) = (all_back _ xs (w ∷ rest) apart.0).0 (sym e)
number_once w (x ∷ xs) rest apart (inr h) = number_once w xs rest apart.1 h

pub asks_append : (a b : List Choice) → asks_of (a ++ b) ≡ asks_of a ++ asks_of b
asks_append a b = map-append (λ (c : Choice). c.asked) a b

abbrev one_fated : Waiting → Fate → List Fated
one_fated w fate = record { waiting = w; fate = fate } ∷ []

-- ---- so far

-- the pass so far is what the definition says of the attempt so far
pub record IsSoFar (a : Attempt) (fates : List Fated) (hs : List Handed) (rest : List Waiting) (given_old given_new : List Choice) (after : Images) : Type 0 where
  pub returns : AreReturned a.returns hs rest
  pub root : root_bits a.returns ≡ root_bits (map return_of hs)
  pub ended : map finished_of a.ended ≡ ends_in fates
  pub again : a.again ≡ pendings (left_in fates)
  pub asks : asks_of given_new ≡ asks_of given_old ++ a.asks
  pub images : a.images ≡ after

pub record TellsSoFar {S : Type 0} (tells : S → Images → Type 0) (given : S → List Choice) (means : List Choice → Attempt) (fates : List Fated) (hs : List Handed) (rest : List Waiting) (old new : S) : Type 0 where
  pub after : Images
  pub told : tells new after
  pub meant : (journal : List Choice) → AnswersBy journal (given new) → IsSoFar (means journal) fates hs rest (given old) (given new) after

-- one request more of an attempt
more_so_far : (journal : List Choice) (t : Terms) (attempt : ℕ) (images : Images) (fates : List Fated) (w : Waiting) (fate : Fate) (one : Handed) (hs : List Handed) (met rest : List Waiting) (old mid new : List Choice) (after last : Images)
    → IsStack hs met → IsOver w met → AllByRecursion (λ (q : Waiting). q.request.number ≢ w.request.number) rest
    → IsSoFar (attempt_each journal t attempt (pendings (waitings_in fates)) [] images) fates hs (w ∷ rest) old mid after
    → ((returns : List Return) → returned_to (pending_of w) returns ≡ returned_to (pending_of w) (map return_of hs) → IsAttempted (attempt_one journal t attempt (pending_of w) returns after) one fate mid new last)
    → IsSoFar (attempt_each journal t attempt (pendings (waitings_in (fates ++ one_fated w fate))) [] images) (fates ++ one_fated w fate) (one ∷ drop w.unfinished hs) rest old new last
unfolding attempt_each
more_so_far journal t attempt images fates w fate one hs met rest old mid new after last s over apart h step =
    let a : Attempt = attempt_each journal t attempt (pendings (waitings_in fates)) [] images in
    let x : Attempted = attempt_one journal t attempt (pending_of w) a.returns a.images in
    let split : pendings (waitings_in (fates ++ one_fated w fate)) ≡ pendings (waitings_in fates) ++ pending_of w ∷ [] =
    ap pendings (map-append (λ (f : Fated). f.waiting) fates (one_fated w fate)) ∙ map-append pending_of (waitings_in fates) (w ∷ []) in
    let all : attempt_each journal t attempt (pendings (waitings_in (fates ++ one_fated w fate))) [] images ≡ joined_attempt a (attempt_each journal t attempt (pending_of w ∷ [])) =
    ap (λ ps. attempt_each journal t attempt ps [] images) split ∙ attempt_each-append journal t attempt (pendings (waitings_in fates)) (pending_of w ∷ []) [] images in
    let k : IsAttempted x one fate mid new last =
    subst (λ im. IsAttempted (attempt_one journal t attempt (pending_of w) a.returns im) one fate mid new last) (sym h.images) (step a.returns h.returns.0) in
    subst (λ b. IsSoFar b (fates ++ one_fated w fate) (one ∷ drop w.unfinished hs) rest old new last) (sym all) (record {
      returns = subst (λ r. AreReturned (r ∷ a.returns) (one ∷ drop w.unfinished hs) rest) (sym k.return) (returned_more w met a.returns one hs rest s over apart h.returns.1);
      root = ap (λ (r : Return). r.bits) k.return;
      ended = map-append finished_of a.ended (x.ended ++ []) ∙ ap (λ es. map finished_of a.ended ++ map finished_of es) (append-nil x.ended)
          ∙ ap (λ fs. fs ++ map finished_of x.ended) h.ended ∙ ap (λ fs. ends_in fates ++ fs) (k.ended ∙ sym (append-nil (ends_of fate)))
          ∙ sym (flat_map-append (λ (f : Fated). ends_of f.fate) fates (one_fated w fate));
      again = ap (λ ps. a.again ++ ps) (append-nil x.again) ∙ ap (λ ps. ps ++ x.again) h.again ∙ ap (λ ps. pendings (left_in fates) ++ ps) k.again
          ∙ sym (map-append pending_of (left_in fates) (again_of fate)) ∙ ap (λ ws. pendings (left_in fates ++ ws)) (sym (append-nil (again_of fate)))
          ∙ ap pendings (sym (flat_map-append (λ (f : Fated). again_of f.fate) fates (one_fated w fate)));
      asks = k.asks ∙ ap (λ qs. qs ++ x.asks) h.asks ∙ append_assoc (asks_of old) a.asks x.asks ∙ ap (λ qs. asks_of old ++ (a.asks ++ qs)) (sym (append-nil x.asks));
      images = k.images;
    })

-- the last request is the one that handed on what is on top
pub record IsTopOf (fates : List Fated) (hs : List Handed) : Type 0 where
  pub front : List Fated
  pub last : Fated
  pub split : fates ≡ front ++ last ∷ []
  pub one : Handed
  pub below : List Handed
  pub on : hs ≡ one ∷ below
  pub bits : has_bits one.bits ≡ is_again last.fate

-- ---- the loop

pub waits : (fates : List Fated) {ws vs : List Waiting} → ws ≡ vs → waitings_in fates ++ ws ≡ waitings_in fates ++ vs
waits fates e = ap (λ ws. waitings_in fates ++ ws) e

-- of the next request
pub all_at : (P : Waiting → Type 0) (fates : List Fated) (w : Waiting) (rest tree : List Waiting) → tree ≡ waitings_in fates ++ w ∷ rest → AllByRecursion P tree → P w
all_at P fates w rest tree split h = (all_back P (waitings_in fates) (w ∷ rest) (subst (AllByRecursion P) split h)).0

left_step : (left : List Waiting) (w : Waiting) (one : Handed) (hs : List Handed) (met : List Waiting) (fate : Fate) → IsStack hs met → IsOver w met → IsSound IsWholeTree w
    → HasFate w (take w.unfinished hs) one fate → IsLeft left hs met → IsLeft (left ++ again_of fate) (one ∷ drop w.unfinished hs) (w ∷ drop w.unfinished met)
left_step left w one hs met (Ends f) s over sound is h =
    subst (λ ws. IsLeft ws (one ∷ drop w.unfinished hs) (w ∷ drop w.unfinished met)) (sym (append-nil left)) (left_ended left w one hs met s is.bits is.is.done h)
left_step left w one hs met (Again v) s over sound is h = left_again left w v one (take w.unfinished hs) hs met s over sound refl is.bits is.is h

any_in : (ws : List Waiting) (w : Waiting) (rest : List Waiting) → is_claim (kind_of w.request.work) ≡ true → has_claim (requests_in (ws ++ w ∷ rest)) ≡ true
any_in [] w rest e = ap (λ b. b || has_claim (requests_in rest)) e
any_in (v ∷ ws) w rest e = ap (λ b. is_claim (kind_of v.request.work) || b) (any_in ws w rest e) ∙ or_true (is_claim (kind_of v.request.work))
  where
    or_true : (b : Bool) → (b || true) ≡ true
    or_true true = refl
    or_true false = refl

no_fates : (fates : List Fated) (w : Waiting) (rest : List Waiting) → length (waitings_in fates ++ w ∷ rest) ≡ 1 → fates ≡ []
no_fates [] w rest e = refl
no_fates (f ∷ fates) w rest e =
    let n = length-append (waitings_in fates) (w ∷ rest) in absurd (omega arith)

module _ {S : Type 0} (tells : S → Images → Type 0) (runs fresh : S → Terms → Type 0) (given : S → List Choice) (moves : S → S → List Place → Type 0)
    (failmode : Failmode) (attempt : ℕ) (tree : List Waiting) where
  -- what holds before the rest of the tree
  pub record IsPassing (rest : List Waiting) (hs : List Handed) (left : List Waiting) (finished_old finished_new : List RequestEnd) (freed_old freed_new : List Tree) (old new : S) : Type 0 where
    pub fates : List Fated
    pub split : tree ≡ waitings_in fates ++ rest
    pub first : fates ≡ [] → new ≡ old
    pub left_are : left ≡ left_in fates
    pub finished : finished_new ≡ finished_old ++ ends_in fates
    pub freed : freed_new ≡ freed_old ++ freed_in fates
    pub each : AllByRecursion IsFated fates
    pub met : List Waiting
    pub stack : IsStack hs met
    pub behind_rest : AreBehindChildren met rest
    pub root : Waiting
    pub alone : met_after met rest ≡ root ∷ []
    pub sound : AllByRecursion (IsSound IsWholeTree) rest
    pub apart : AreNumberedApart rest
    pub still : IsLeft left hs met
    pub top : (fates ≡ []) ⊎ IsTopOf fates hs
    pub moved : moves old new (made_places (ends_in fates))
    pub asked : AreAsked (IsAmong (waitings_in fates) (λ n. n ≡ attempt)) (given old) (given new)
    pub told : (t : Terms) → runs old t → t.failmode ≡ failmode → (has_claim (requests_in tree) ≡ true → fresh old t) → (images : Images) → tells old images
        → TellsSoFar tells given (λ journal. attempt_each journal t attempt (pendings (waitings_in fates)) [] images) fates hs rest old new

  pub passing_begins : (hs : List Handed) (left : List Waiting) (finished : List RequestEnd) (freed : List Tree) (old : S) → IsOneTree IsWholeTree tree → AreNumberedApart tree
      → hs ≡ [] → left ≡ [] → moves old old [] → IsPassing tree hs left finished finished freed freed old old
  unfolding attempt_each
  passing_begins hs left finished freed old one apart no_hs no_left itself =
      subst (λ gs. IsPassing tree gs left finished finished freed freed old old) (sym no_hs)
      (subst (λ ws. IsPassing tree [] ws finished finished freed freed old old) (sym no_left) (record {
        fates = [];
        split = refl;
        first = λ none. refl;
        left_are = refl;
        finished = sym (append-nil finished);
        freed = sym (append-nil freed);
        each = tt;
        met = [];
        stack = tt;
        behind_rest = one.ordered;
        root = one.root;
        alone = one.alone;
        sound = one.sound;
        apart = apart;
        still = left_none;
        top = inl refl;
        moved = itself;
        asked = record { more = []; is = sym (append-nil (given old)); of = tt; distinct = tt };
        told = λ t run mode claim images told. record {
          after = images;
          told = told;
          meant = λ journal answers. record {
            returns = all_same tree;
            root = refl;
            ended = refl;
            again = refl;
            asks = sym (append-nil (asks_of (given old)));
            images = refl;
          };
        };
      }))
    where
      all_same : (ws : List Waiting) → AreReturned [] [] ws
      all_same [] = tt
      all_same (w ∷ ws) = (refl, all_same ws)

  -- one request more
  pub passing_more : (w : Waiting) (rest : List Waiting) (hs hs_new : List Handed) (left left_new : List Waiting) (finished_old finished_mid finished_new : List RequestEnd) (freed_old freed_mid freed_new : List Tree) (old mid new : S)
      → ((a b c : S) (ps qs : List Place) → moves a b ps → moves b c qs → moves a c (ps ++ qs))
      → ((a b : S) (ps : List Place) (t : Terms) → moves a b ps → runs a t → runs b t)
      → (has_claim (requests_in tree) ≡ true → length tree ≡ 1) → AreNumberedApart tree
      → IsPassing (w ∷ rest) hs left finished_old finished_mid freed_old freed_mid old mid
      → IsStep tells runs fresh given moves failmode attempt w hs hs_new left left_new finished_mid finished_new freed_mid freed_new mid new
      → IsPassing rest hs_new left_new finished_old finished_new freed_old freed_new old new
  passing_more w rest hs hs_new left left_new finished_old finished_mid finished_new freed_old freed_mid freed_new old mid new then stays alone whole_apart h step =
      let fates : List Fated = h.fates ++ one_fated w step.fate in
      let over : IsOver w h.met = h.behind_rest.0 in
      let is : HasFate w (take w.unfinished hs) step.one step.fate = step.is in
      subst (λ gs. IsPassing rest gs left_new finished_old finished_new freed_old freed_new old new) (sym step.handed)
      (subst (λ ws. IsPassing rest (step.one ∷ drop w.unfinished hs) ws finished_old finished_new freed_old freed_new old new) (sym step.again) (record {
        fates = fates;
        split = h.split ∙ sym (append_assoc (waitings_in h.fates) (w ∷ []) rest) ∙ ap (λ ws. ws ++ rest) (sym (map-append (λ (f : Fated). f.waiting) h.fates (one_fated w step.fate)));
        first = λ none. absurd (some h.fates none);
        left_are = ap (λ ws. ws ++ again_of step.fate) h.left_are ∙ ap (λ ws. left_in h.fates ++ ws) (sym (append-nil (again_of step.fate)))
            ∙ sym (flat_map-append (λ (f : Fated). again_of f.fate) h.fates (one_fated w step.fate));
        finished = step.finished ∙ ap (λ fs. fs ++ ends_of step.fate) h.finished ∙ append_assoc finished_old (ends_in h.fates) (ends_of step.fate) ∙ ap (λ fs. finished_old ++ fs) ends;
        freed = step.freed ∙ ap (λ ts. ts ++ freed_of w step.fate) h.freed ∙ append_assoc freed_old (freed_in h.fates) (freed_of w step.fate)
            ∙ ap (λ ts. freed_old ++ ts) (ap (λ ts. freed_in h.fates ++ ts) (sym (append-nil (freed_of w step.fate)))
            ∙ sym (flat_map-append (λ (f : Fated). freed_of f.waiting f.fate) h.fates (one_fated w step.fate)));
        each = all_append IsFated h.fates (one_fated w step.fate) h.each (record { kids = take w.unfinished hs; is = is.is }, tt);
        met = w ∷ drop w.unfinished h.met;
        stack = (is.number, is.under, is.pointer, stack_drop w.unfinished hs h.met h.stack);
        behind_rest = h.behind_rest.1;
        root = h.root;
        alone = h.alone;
        sound = h.sound.1;
        apart = h.apart.1;
        still = left_step left w step.one hs h.met step.fate h.stack over h.sound.0 is h.still;
        top = inr (record { front = h.fates; last = record { waiting = w; fate = step.fate }; split = refl; one = step.one; below = drop w.unfinished hs; on = refl; bits = is.bits });
        moved = subst (λ ps. moves old new ps) (sym (made_append (ends_in h.fates) (ends_of step.fate)) ∙ ap made_places ends) (then old mid new (made_places (ends_in h.fates)) (made_places (ends_of step.fate)) h.moved step.moved);
        asked = asked_both (IsAmong (waitings_in h.fates) (λ n. n ≡ attempt)) (IsFor w.request.number attempt) (IsAmong (waitings_in fates) (λ n. n ≡ attempt)) (given old) (given mid) (given new)
            (λ r n one two. number_once w (waitings_in h.fates) rest (subst AreNumberedApart h.split whole_apart) (subst (HasNumber (waitings_in h.fates)) two.0 one.0))
            (λ r n one. (subst (λ ws. HasNumber ws r) (sym (all_waitings h.fates)) (number_front r (waitings_in h.fates) (w ∷ []) one.0), one.1))
            (λ r n two. (subst (λ ws. HasNumber ws r) (sym (all_waitings h.fates)) (number_back r (waitings_in h.fates) (w ∷ []) (inl (sym two.0))), two.1))
            h.asked step.asked;
        told = λ t run mode claim images told.
            let before = h.told t run mode claim images told in
            let mine : is_claim (kind_of w.request.work) ≡ true → fresh mid t = λ e.
            let c : has_claim (requests_in tree) ≡ true = ap (λ ws. has_claim (requests_in ws)) h.split ∙ any_in (waitings_in h.fates) w rest e in
            let none : h.fates ≡ [] = no_fates h.fates w rest (sym (ap length h.split) ∙ alone c) in
            subst (λ s. fresh s t) (sym (h.first none)) (claim c) in
            let next = step.told t (stays old mid (made_places (ends_in h.fates)) t h.moved run) mode mine before.after before.told in record {
              after = next.after;
              told = next.told;
              meant = λ journal answers.
                  more_so_far journal t attempt images h.fates w step.fate step.one hs h.met rest (given old) (given mid) (given new) before.after next.after
                  h.stack over h.apart.0 (before.meant journal (answers_before (IsFor w.request.number attempt) journal (given mid) (given new) step.asked answers))
                  (λ returns same. next.meant journal answers returns (same ∙ returned_last h.met h.root w rest hs h.behind_rest h.alone h.apart.0 (stack_handed hs h.met h.stack)));
            };
      }))
    where
      all_waitings : (fs : List Fated) → waitings_in (fs ++ one_fated w step.fate) ≡ waitings_in fs ++ w ∷ []
      all_waitings fs = map-append (λ (f : Fated). f.waiting) fs (one_fated w step.fate)

      ends : ends_in h.fates ++ ends_of step.fate ≡ ends_in (h.fates ++ one_fated w step.fate)
      ends = ap (λ fs. ends_in h.fates ++ fs) (sym (append-nil (ends_of step.fate))) ∙ sym (flat_map-append (λ (f : Fated). ends_of f.fate) h.fates (one_fated w step.fate))

      some : (fs : List Fated) → fs ++ one_fated w step.fate ≡ [] → ⊥
      some [] e = cc
      some (f ∷ fs) e = cc

  -- ---- what a request of the loop needs

  pub passing_rising : (w : Waiting) (rest : List Waiting) (hs : List Handed) (left : List Waiting) (finished_old finished_new : List RequestEnd) (freed_old freed_new : List Tree) (old new : S)
      → IsPassing (w ∷ rest) hs left finished_old finished_new freed_old freed_new old new → AreRisingFrom 0 (numbers_in (children_handed (reverse (take w.unfinished hs))))
  passing_rising w rest hs left finished_old finished_new freed_old freed_new old new h =
      subst (AreRisingFrom 0) (sym (stack_numbers (reverse (take w.unfinished hs)) (children_in w h.met) (stack_turned (take w.unfinished hs) (take w.unfinished h.met) (stack_take w.unfinished hs h.met h.stack))))
      h.behind_rest.0.rising

  pub passing_enough : (w : Waiting) (rest : List Waiting) (hs : List Handed) (left : List Waiting) (finished_old finished_new : List RequestEnd) (freed_old freed_new : List Tree) (old new : S)
      → IsPassing (w ∷ rest) hs left finished_old finished_new freed_old freed_new old new → w.unfinished ≤ length hs
  passing_enough w rest hs left finished_old finished_new freed_old freed_new old new h =
      let n = stack_length hs h.met h.stack in
      let e = h.behind_rest.0.enough in omega arith

  pub passing_pointers : (w : Waiting) (rest : List Waiting) (hs : List Handed) (left : List Waiting) (finished_old finished_new : List RequestEnd) (freed_old freed_new : List Tree) (old new : S)
      → IsPassing (w ∷ rest) hs left finished_old finished_new freed_old freed_new old new → AllByRecursion (λ (h : Handed). HasPointer h.child) (take w.unfinished hs)
  passing_pointers w rest hs left finished_old finished_new freed_old freed_new old new h =
      stack_pointers (take w.unfinished hs) (take w.unfinished h.met) (stack_take w.unfinished hs h.met h.stack)

  -- ---- the end

  one_on : (hs : List Handed) (root : Waiting) → IsStack hs (root ∷ []) → (x : Handed) × (hs ≡ x ∷ [])
  one_on [] root s = absurd s
  one_on (x ∷ []) root s = (x, refl)
  one_on (x ∷ y ∷ hs) root s = absurd s.3

  now_has : (b s : Bool) → (b && not s) ≡ true → (b || s) ≡ true
  now_has true s e = refl
  now_has false s e = absurd (cc)

  rest_if : (b : Bool) (left : List Waiting) (root : Waiting) (x : Handed) → has_bits x.bits ≡ b → IsLeft left (x ∷ []) (root ∷ []) → (left ≡ []) ⊎ IsOneTree IsWholeTree left
  rest_if true left root x e l = inr (left_tree left root x e l)
  rest_if false left root x e l = inl (left_ends left root x e l)

  root_if : (b : Bool) (left : List Waiting) (root : Waiting) (x : Handed) (fates : List Fated) (hs : List Handed) → has_bits x.bits ≡ b → hs ≡ x ∷ [] → tree ≡ waitings_in fates → IsOneTree IsWholeTree tree
      → (fates ≡ []) ⊎ IsTopOf fates hs → IsLeft left (x ∷ []) (root ∷ []) → (left ≡ []) ⊎ LastIsAgain fates
  root_if false left root x fates hs e on whole one top l = inl (left_ends left root x e l)
  root_if true left root x fates hs e on whole one (inl none) l = let no : [] ≡ one.root ∷ [] = sym (ap (met_after []) (whole ∙ ap waitings_in none)) ∙ one.alone in absurd (cc)
  root_if true left root x fates hs e on whole one (inr t) l =
      let same : t.one ≡ x = (let both : t.one ∷ t.below ≡ x ∷ [] = sym t.on ∙ on in cc) in
      inr (record { front = t.front; last = t.last; split = t.split; is = sym t.bits ∙ ap (λ (y : Handed). has_bits y.bits) same ∙ e })

  pub passing_ends : (hs : List Handed) (left : List Waiting) (at_once : Bool) (finished_old finished_new : List RequestEnd) (freed_old freed_new : List Tree) (old new : S)
      → IsOneTree IsWholeTree tree → IsPassing [] hs left finished_old finished_new freed_old freed_new old new → at_once ≡ now_alone (root_bits (map return_of hs))
      → IsPass tells runs fresh given moves failmode attempt tree left at_once finished_old finished_new freed_old freed_new old new
  passing_ends hs left at_once finished_old finished_new freed_old freed_new old new one_tree h bits =
      let one = one_on hs h.root (subst (IsStack hs) h.alone h.stack) in
      let x : Handed = one.0 in
      let l : IsLeft left (x ∷ []) (h.root ∷ []) = subst (λ gs. IsLeft left gs (h.root ∷ [])) one.1 (subst (IsLeft left hs) h.alone h.still) in
      let whole : tree ≡ waitings_in h.fates = h.split ∙ append-nil (waitings_in h.fates) in
      let top : root_bits (map return_of hs) ≡ x.bits = ap (λ gs. root_bits (map return_of gs)) one.1 in record {
        fates = h.fates;
        whole = whole;
        left_are = h.left_are;
        finished = h.finished;
        freed = h.freed;
        each = h.each;
        turns = λ e. left_tree left h.root x (now_has x.bits.now x.bits.suspend (sym (bits ∙ ap now_alone top) ∙ e)) l;
        rest = rest_if (has_bits x.bits) left h.root x refl l;
        root = root_if (has_bits x.bits) left h.root x h.fates hs refl one.1 whole one_tree h.top l;
        moved = h.moved;
        asked = subst (λ ws. AreAsked (IsAmong ws (λ n. n ≡ attempt)) (given old) (given new)) (sym whole) h.asked;
        told = λ t run mode claim images told.
            let all = h.told t run mode claim images told in record {
              after = all.after;
              told = all.told;
              meant = λ journal answers.
                  let k = all.meant journal answers in
                  subst (λ ws. IsPassed (attempt_tree journal t attempt (pendings ws) images) (ends_in h.fates) left at_once (given old) (given new) all.after) (sym whole) (record {
                    ended = k.ended;
                    again = k.again ∙ ap pendings (sym h.left_are);
                    bits = ap now_alone k.root ∙ sym bits;
                    asks = k.asks;
                    images = k.images;
                  });
            };
      }
