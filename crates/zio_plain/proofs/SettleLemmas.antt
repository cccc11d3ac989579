-- Passes over a tree, one after another.
use Rattle.std.proofs.Common.{◌≡◌, ◌≢◌, ℕ, zero, suc, ◌+◌, ◌-◌, ◌<◌, ◌≤◌, List, [], ◌∷◌, ◌++◌, length, map, Bool, true, false, ◌||◌, ◌⊎◌, inl, inr, refl, sym, ap, ◌∙◌, subst, arith, append_assoc}
use Rattle.std.specs.Prelude.{Result, Ok, Err, IfErr, IfOk}
use Rattle.std.specs.List.{AllByRecursion}
use Rattle.std.proofs.lemmas.List.{append-nil, map-append}
use Rattle.zio_types.specs.declared.place.Place.{Place}
use Rattle.zio_types.specs.Choices.{Choice}
use Rattle.zio_script.specs.declared.script.Failmode.{Failmode}
use Rattle.zio_script.specs.declared.script.Request.{Request}
use Rattle.zio_script.specs.Requests.{kind_of}
use Rattle.zio_script.specs.Whys.{is_claim}
use Rattle.zio_cksum.specs.Images.{Images}
use Rattle.zio_disks.specs.Whole.{IsWholeTree}
use Rattle.zio_gang.specs.declared.tree.Tree.{Tree}
use Rattle.zio_gang.specs.Attempts.{Attempt, Settled, Terms, attempt_tree, settle_from, settled_if}
use Rattle.zio_gang.specs.Journals.{asks_of}
use Rattle.zio_course.specs.declared.runner.RequestEnd.{RequestEnd}
use Rattle.zio_course.specs.Runners.{finished_of, has_claim, made_places}
use Rattle.zio_plain.specs.declared.judge.Fate.{Fate}
use Rattle.zio_plain.specs.declared.judge.Fate.TheVariants.{Ends, Again}
use Rattle.zio_plain.specs.declared.waiting.Waiting.{Waiting}
use Rattle.zio_plain.specs.Judgments.{again_of}
use Rattle.zio_plain.specs.OwnEnds.{AreNamed, Named}
use Rattle.zio_plain.specs.Passes.{AreChained, AreNumberedApart, ArePasses, Fated, HasNumber, IsAmong, IsFated, IsFateOf, IsPass, IsPassed, IsPassOf, IsSettled, LastIsAgain, all_ends, all_freed, ends_in, freed_in, left_in, waitings_in}
use Rattle.zio_plain.specs.Posts.{IsOneTree, requests_in}
use Rattle.zio_plain.specs.Waits.{pendings}
use Rattle.zio_course.proofs.MadePlaces.{made_append}
use Rattle.zio_plain.proofs.PassLemmas.{answers_before, asked_both, asked_weaker}

-- ---- what is left of a pass

-- what holds of all numbers but one
abbrev IsApartFrom : ℕ → List Waiting → Type 0
IsApartFrom n ws = AllByRecursion (λ (q : Waiting). q.request.number ≢ n) ws

left_apart_from : (n : ℕ) (fs : List Fated) → AllByRecursion IsFated fs → IsApartFrom n (waitings_in fs) → IsApartFrom n (left_in fs)
left_apart_from n [] each h = tt
left_apart_from n (f ∷ fs) each h = one f.fate each.0.is (left_apart_from n fs each.1 h.1)
  where
    one : (fate : Fate) → IsFateOf f.waiting each.0.kids fate → IsApartFrom n (left_in fs) → IsApartFrom n (again_of fate ++ left_in fs)
    one (Ends e) is rest = rest
    one (Again v) is rest = (λ same. h.0 (ap (λ (r : Request). r.number) (sym is.request) ∙ same), rest)

pub left_apart : (fs : List Fated) → AllByRecursion IsFated fs → AreNumberedApart (waitings_in fs) → AreNumberedApart (left_in fs)
left_apart [] each h = tt
left_apart (f ∷ fs) each h = one f.fate each.0.is (left_apart fs each.1 h.1)
  where
    one : (fate : Fate) → IsFateOf f.waiting each.0.kids fate → AreNumberedApart (left_in fs) → AreNumberedApart (again_of fate ++ left_in fs)
    one (Ends e) is rest = rest
    one (Again v) is rest =
        (subst (λ (r : Request). IsApartFrom r.number (left_in fs)) (sym is.request) (left_apart_from f.waiting.request.number fs each.1 h.0), rest)

pub left_can : {B : Type 0} (block : Waiting → B) (same : (w v : Waiting) → v.block ≡ w.block → block v ≡ block w) (P : B → Type 0) (fs : List Fated) → AllByRecursion IsFated fs
    → AllByRecursion (λ (w : Waiting). P (block w)) (waitings_in fs) → AllByRecursion (λ (w : Waiting). P (block w)) (left_in fs)
left_can block same P [] each h = tt
left_can block same P (f ∷ fs) each h = one f.fate each.0.is (left_can block same P fs each.1 h.1)
  where
    one : (fate : Fate) → IsFateOf f.waiting each.0.kids fate → AllByRecursion (λ (w : Waiting). P (block w)) (left_in fs) → AllByRecursion (λ (w : Waiting). P (block w)) (again_of fate ++ left_in fs)
    one (Ends e) is rest = rest
    one (Again v) is rest = (subst P (sym (same f.waiting v is.block)) h.0, rest)

-- the numbers of what is left
pub left_numbers : (n : ℕ) (fs : List Fated) → AllByRecursion IsFated fs → HasNumber (left_in fs) n → HasNumber (waitings_in fs) n
left_numbers n [] each h = absurd h
left_numbers n (f ∷ fs) each h = one f.fate each.0.is (λ k. left_numbers n fs each.1 k) h
  where
    one : (fate : Fate) → IsFateOf f.waiting each.0.kids fate → (HasNumber (left_in fs) n → HasNumber (waitings_in fs) n) → HasNumber (again_of fate ++ left_in fs) n → HasNumber (f.waiting ∷ waitings_in fs) n
    one (Ends e) is later k = inr (later k)
    one (Again v) is later (inl e) = inl (ap (λ (r : Request). r.number) (sym is.request) ∙ e)
    one (Again v) is later (inr k) = inr (later k)

-- ---- no claim is left

or_either : (a b : Bool) → (a || b) ≡ true → (a ≡ true) ⊎ (b ≡ true)
or_either true b e = inl refl
or_either false b e = inr e

or_first : (a b : Bool) → a ≡ true → (a || b) ≡ true
or_first true b e = refl
or_first false b e = absurd (cc)

or_second : (a b : Bool) → b ≡ true → (a || b) ≡ true
or_second true b e = refl
or_second false b e = e

pub claims_of : (fs : List Fated) → AllByRecursion IsFated fs → has_claim (requests_in (left_in fs)) ≡ true → has_claim (requests_in (waitings_in fs)) ≡ true
claims_of [] each e = e
claims_of (f ∷ fs) each e = one f.fate each.0.is (λ h. claims_of fs each.1 h) e
  where
    one : (fate : Fate) → IsFateOf f.waiting each.0.kids fate → (has_claim (requests_in (left_in fs)) ≡ true → has_claim (requests_in (waitings_in fs)) ≡ true) → has_claim (requests_in (again_of fate ++ left_in fs)) ≡ true → has_claim (requests_in (f.waiting ∷ waitings_in fs)) ≡ true
    one (Ends x) is later h = or_second (is_claim (kind_of f.waiting.request.work)) (has_claim (requests_in (waitings_in fs))) (later h)
    one (Again v) is later h = elim (or_either (is_claim (kind_of v.request.work)) (has_claim (requests_in (left_in fs))) h) [
      | inl mine ↦ or_first (is_claim (kind_of f.waiting.request.work)) (has_claim (requests_in (waitings_in fs))) (ap (λ (r : Request). is_claim (kind_of r.work)) (sym is.request) ∙ mine)
      | inr others ↦ or_second (is_claim (kind_of f.waiting.request.work)) (has_claim (requests_in (waitings_in fs))) (later others)
    ]

not_true : (b : Bool) → (b ≡ true → ⊥) → b ≡ false
not_true true h = absurd (h refl)
not_true false h = refl

-- a claim is alone, and finishes
pub no_claim_left : (tree : List Waiting) (fs : List Fated) → tree ≡ waitings_in fs → AllByRecursion IsFated fs → IsOneTree IsWholeTree tree → (has_claim (requests_in tree) ≡ true → length tree ≡ 1)
    → has_claim (requests_in (left_in fs)) ≡ false
no_claim_left tree fs whole each one alone =
    not_true (has_claim (requests_in (left_in fs))) (λ e.
    let c : has_claim (requests_in tree) ≡ true = ap (λ ws. has_claim (requests_in ws)) whole ∙ claims_of fs each e in
    single fs each (sym (ap length whole) ∙ alone c) (subst (IsOneTree IsWholeTree) whole one) e)
  where
    lone : (f : Fated) → IsFated f → IsOneTree IsWholeTree (f.waiting ∷ []) → (fate : Fate) → fate ≡ f.fate → has_claim (requests_in (again_of fate ++ [])) ≡ true → ⊥
    lone f is t (Ends e) same h = cc
    lone f is t (Again v) same h =
        let k = subst (IsFateOf f.waiting is.kids) (sym same) is.is in
        let none : f.waiting.unfinished ≡ 0 = (let enough = t.ordered.0.enough in omega arith) in
        elim (or_either (is_claim (kind_of v.request.work)) false h) [
          | inl mine ↦ (let no : true ≡ false = sym mine ∙ ap (λ (r : Request). is_claim (kind_of r.work)) k.request ∙ k.claim none in cc)
          | inr none_other ↦ cc
        ]

    single : (gs : List Fated) → AllByRecursion IsFated gs → length (waitings_in gs) ≡ 1 → IsOneTree IsWholeTree (waitings_in gs) → has_claim (requests_in (left_in gs)) ≡ true → ⊥
    single [] k n t h = cc
    single (f ∷ []) k n t h = lone f k.0 t f.fate refl h
    single (f ∷ g ∷ gs) k n t h = omega arith

-- ---- settled

pass_of : (tree left : List Waiting) (fates : List Fated) → tree ≡ waitings_in fates → AllByRecursion IsFated fates → left ≡ left_in fates → (left ≡ []) ⊎ IsOneTree IsWholeTree left → (left ≡ []) ⊎ LastIsAgain fates
    → IsPassOf tree fates
pass_of tree left fates whole each left_are rest root = record {
  whole = whole;
  each = each;
  rest = subst (λ ws. (ws ≡ []) ⊎ IsOneTree IsWholeTree ws) left_are rest;
  root = subst (λ ws. (ws ≡ []) ⊎ LastIsAgain fates) left_are root;
}

module _ {S : Type 0} (tells : S → Images → Type 0) (runs fresh : S → Terms → Type 0) (given : S → List Choice) (moves : S → S → List Place → Type 0) (failmode : Failmode) where
  -- the pass is the only one
  settled_once : (more : ℕ) (journal : List Choice) (t : Terms) (attempt : ℕ) (tree left : List Waiting) (at_once : Bool) (finished : List RequestEnd) (old new : List Choice) (images after : Images)
      → (at_once ≡ false) ⊎ (more ≡ 0) → IsPassed (attempt_tree journal t attempt (pendings tree) images) finished left at_once old new after
      → IsSettled (settle_from more journal t attempt (pendings tree) images) finished left old new after
  unfolding settle_from
  settled_once zero journal t attempt tree left at_once finished old new images after why h = record { ended = h.ended; left_is = h.again; asks = h.asks; images = h.images }
  settled_once (suc more) journal t attempt tree left at_once finished old new images after (inl stops) h =
      let a : Attempt = attempt_tree journal t attempt (pendings tree) images in
      let next = settle_from more journal t (attempt + 1) in
      subst (λ s. IsSettled s finished left old new after) (ap (λ b. settled_if b a next) (sym (h.bits ∙ stops)))
      (record { ended = h.ended; left_is = h.again; asks = h.asks; images = h.images })
  settled_once (suc more) journal t attempt tree left at_once finished old new images after (inr zero_more) h = absurd (omega arith)

  settled_more : (more : ℕ) (journal : List Choice) (t : Terms) (attempt : ℕ) (tree mid left : List Waiting) (first rest : List RequestEnd) (old given_mid new : List Choice) (images between after : Images)
      → IsPassed (attempt_tree journal t attempt (pendings tree) images) first mid true old given_mid between
      → IsSettled (settle_from more journal t (attempt + 1) (pendings mid) between) rest left given_mid new after
      → IsSettled (settle_from (suc more) journal t attempt (pendings tree) images) (first ++ rest) left old new after
  unfolding settle_from
  settled_more more journal t attempt tree mid left first rest old given_mid new images between after h k =
      let a : Attempt = attempt_tree journal t attempt (pendings tree) images in
      let next = settle_from more journal t (attempt + 1) in
      let later : Settled = next a.again a.images in
      let l : IsSettled later rest left given_mid new after =
      subst (λ ps. IsSettled (next ps a.images) rest left given_mid new after) (sym h.again)
      (subst (λ im. IsSettled (next (pendings mid) im) rest left given_mid new after) (sym h.images) k) in
      subst (λ s. IsSettled s (first ++ rest) left old new after) (ap (λ b. settled_if b a next) (sym h.bits))
      (record {
        ended = map-append finished_of a.ended later.ended ∙ ap (λ fs. fs ++ map finished_of later.ended) h.ended ∙ ap (λ fs. first ++ fs) l.ended;
        left_is = l.left_is;
        asks = l.asks ∙ ap (λ qs. qs ++ later.asks) h.asks ∙ append_assoc (asks_of old) a.asks later.asks;
        images = l.images;
      })

  pub passes_end : (more attempt : ℕ) (tree left : List Waiting) (at_once : Bool) (finished_old finished_new : List RequestEnd) (freed_old freed_new : List Tree) (old new : S)
      → (at_once ≡ false) ⊎ (more ≡ 0)
      → IsPass tells runs fresh given moves failmode attempt tree left at_once finished_old finished_new freed_old freed_new old new
      → ArePasses tells runs fresh given moves failmode more attempt tree left finished_old finished_new freed_old freed_new old new
  passes_end more attempt tree left at_once finished_old finished_new freed_old freed_new old new why h =
      let ends : all_ends (h.fates ∷ []) ≡ ends_in h.fates = append-nil (ends_in h.fates) in record {
        passes = h.fates ∷ [];
        some = omega arith;
        chained = (pass_of tree left h.fates h.whole h.each h.left_are h.rest h.root, h.left_are);
        finished = h.finished ∙ ap (λ fs. finished_old ++ fs) (sym ends);
        freed = h.freed ∙ ap (λ ts. freed_old ++ ts) (sym (append-nil (freed_in h.fates)));
        rest = h.rest;
        moved = subst (λ fs. moves old new (made_places fs)) (sym ends) h.moved;
        asked = asked_weaker (IsAmong tree (λ n. n ≡ attempt)) (IsAmong tree (λ n. attempt ≤ n)) (given old) (given new) (λ r n k. (k.0, omega (arith, k.1))) h.asked;
        told = λ t run mode claim images told.
            let k = h.told t run mode claim images told in record {
              after = k.after;
              told = k.told;
              meant = λ journal answers.
                  subst (λ fs. IsSettled (settle_from more journal t attempt (pendings tree) images) fs left (given old) (given new) k.after) (sym ends)
                  (settled_once more journal t attempt tree left at_once (ends_in h.fates) (given old) (given new) images k.after why (k.meant journal answers));
            };
      }

  pub passes_go_on : (less more attempt : ℕ) (tree mid left : List Waiting) (finished_old finished_mid finished_new : List RequestEnd) (freed_old freed_mid freed_new : List Tree) (old between new : S)
      → more ≡ suc less
      → ((a b c : S) (ps qs : List Place) → moves a b ps → moves b c qs → moves a c (ps ++ qs))
      → ((a b : S) (ps : List Place) (t : Terms) → moves a b ps → runs a t → runs b t)
      → has_claim (requests_in mid) ≡ false
      → IsPass tells runs fresh given moves failmode attempt tree mid true finished_old finished_mid freed_old freed_mid old between
      → ArePasses tells runs fresh given moves failmode less (attempt + 1) mid left finished_mid finished_new freed_mid freed_new between new
      → ArePasses tells runs fresh given moves failmode more attempt tree left finished_old finished_new freed_old freed_new old new
  passes_go_on less more attempt tree mid left finished_old finished_mid finished_new freed_old freed_mid freed_new old between new is then stays no_claim h k = record {
    passes = h.fates ∷ k.passes;
    some = omega arith;
    chained = (pass_of tree mid h.fates h.whole h.each h.left_are h.rest h.root, subst (λ ws. AreChained ws k.passes left) h.left_are k.chained);
    finished = k.finished ∙ ap (λ fs. fs ++ all_ends k.passes) h.finished ∙ append_assoc finished_old (ends_in h.fates) (all_ends k.passes);
    freed = k.freed ∙ ap (λ ts. ts ++ all_freed k.passes) h.freed ∙ append_assoc freed_old (freed_in h.fates) (all_freed k.passes);
    rest = k.rest;
    moved = subst (λ ps. moves old new ps) (sym (made_append (ends_in h.fates) (all_ends k.passes)))
        (then old between new (made_places (ends_in h.fates)) (made_places (all_ends k.passes)) h.moved k.moved);
    asked = asked_both (IsAmong tree (λ n. n ≡ attempt)) (IsAmong mid (λ n. attempt + 1 ≤ n)) (IsAmong tree (λ n. attempt ≤ n)) (given old) (given between) (given new)
        (λ r n one two. (let a : n ≡ attempt = one.1 in let b : attempt + 1 ≤ n = two.1 in omega arith))
        (λ r n one. (one.0, (let a : n ≡ attempt = one.1 in omega arith)))
        (λ r n two. (subst (λ ws. HasNumber ws r) (sym h.whole) (left_numbers r h.fates h.each (subst (λ ws. HasNumber ws r) h.left_are two.0)), (let b : attempt + 1 ≤ n = two.1 in omega arith)))
        h.asked k.asked;
    told = λ t run mode claim images told.
        let first = h.told t run mode claim images told in
        let none : has_claim (requests_in mid) ≡ true → fresh between t = λ e. (let no : true ≡ false = sym e ∙ no_claim in absurd (cc)) in
        let second = k.told t (stays old between (made_places (ends_in h.fates)) t h.moved run) mode none first.after first.told in record {
          after = second.after;
          told = second.told;
          meant = λ journal answers.
              subst (λ n. IsSettled (settle_from n journal t attempt (pendings tree) images) (ends_in h.fates ++ all_ends k.passes) left (given old) (given new) second.after) (sym is)
              (settled_more less journal t attempt tree mid left (ends_in h.fates) (all_ends k.passes) (given old) (given between) (given new) images first.after second.after
              (first.meant journal (answers_before (IsAmong mid (λ n. attempt + 1 ≤ n)) journal (given between) (given new) k.asked answers)) (second.meant journal answers));
        };
  }

  pub go_on : (more attempt : ℕ) (tree mid : List Waiting) (at_once : Bool) (left : List Waiting) (finished_old finished_mid finished_new : List RequestEnd) (freed_old freed_mid freed_new : List Tree) (old between new : S)
      → 0 < more → at_once ≡ true
      → ((a b c : S) (ps qs : List Place) → moves a b ps → moves b c qs → moves a c (ps ++ qs))
      → ((a b : S) (ps : List Place) (t : Terms) → moves a b ps → runs a t → runs b t)
      → has_claim (requests_in mid) ≡ false
      → IsPass tells runs fresh given moves failmode attempt tree mid at_once finished_old finished_mid freed_old freed_mid old between
      → ArePasses tells runs fresh given moves failmode (more - 1) (attempt + 1) mid left finished_mid finished_new freed_mid freed_new between new
      → ArePasses tells runs fresh given moves failmode more attempt tree left finished_old finished_new freed_old freed_new old new
  go_on more attempt tree mid at_once left finished_old finished_mid finished_new freed_old freed_mid freed_new old between new some once then stays none h k =
      let is : more ≡ suc (more - 1) = omega arith in
      passes_go_on (more - 1) more attempt tree mid left finished_old finished_mid finished_new freed_old freed_mid freed_new old between new is then stays none
      (subst (λ b. IsPass tells runs fresh given moves failmode attempt tree mid b finished_old finished_mid freed_old freed_mid old between) once h) k

-- ---- for whatever the requests name

pub if_ok_all : {V E : Type 0} (r : Result V E) (At At' : Named → Type 0) (P Q : Named → V → Type 0) → ((named : Named) → At' named → At named) → ((named : Named) → At' named → (v : V) → P named v → Q named v)
    → IfOk r (λ v. (named : Named) → At named → P named v) → IfOk r (λ v. (named : Named) → At' named → Q named v)
if_ok_all (Ok v) At At' P Q less more h = λ named at. more named at v (h named (less named at))
if_ok_all (Err e) At At' P Q less more h = tt

pub if_err_all : {V E : Type 0} (r : Result V E) (At At' : Named → Type 0) (P Q : Named → E → Type 0) → ((named : Named) → At' named → At named) → ((named : Named) → At' named → (e : E) → P named e → Q named e)
    → IfErr r (λ e. (named : Named) → At named → P named e) → IfErr r (λ e. (named : Named) → At' named → Q named e)
if_err_all (Ok v) At At' P Q less more h = tt
if_err_all (Err e) At At' P Q less more h = λ named at. more named at e (h named (less named at))

left_named : (named : Named) (fs : List Fated) → AllByRecursion IsFated fs
    → AllByRecursion (λ (w : Waiting). AreNamed named w.request.work w.block) (waitings_in fs) → AllByRecursion (λ (w : Waiting). AreNamed named w.request.work w.block) (left_in fs)
left_named named [] each h = tt
left_named named (f ∷ fs) each h = one f.fate each.0.is (left_named named fs each.1 h.1)
  where
    one : (fate : Fate) → IsFateOf f.waiting each.0.kids fate → AllByRecursion (λ (w : Waiting). AreNamed named w.request.work w.block) (left_in fs)
        → AllByRecursion (λ (w : Waiting). AreNamed named w.request.work w.block) (again_of fate ++ left_in fs)
    one (Ends e) is rest = rest
    one (Again v) is rest =
        (subst (λ (r : Request). AreNamed named r.work v.block) (sym is.request) (subst (AreNamed named f.waiting.request.work) (sym is.block) h.0), rest)

-- what is left names nothing else
pub named_left : (named : Named) (tree left : List Waiting) (fs : List Fated) → tree ≡ waitings_in fs → left ≡ left_in fs → AllByRecursion IsFated fs
    → AllByRecursion (λ (w : Waiting). AreNamed named w.request.work w.block) tree → AllByRecursion (λ (w : Waiting). AreNamed named w.request.work w.block) left
named_left named tree left fs whole left_are each at =
    subst (AllByRecursion (λ (w : Waiting). AreNamed named w.request.work w.block)) (sym left_are)
    (left_named named fs each (subst (AllByRecursion (λ (w : Waiting). AreNamed named w.request.work w.block)) whole at))
