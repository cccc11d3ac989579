-- A request's part of a pass: what it adds, and that it is the definition's.
use Rattle.std.proofs.Common.{◌≡◌, ℕ, ◌≤◌, List, [], ◌∷◌, ◌++◌, length, map, take, drop, reverse, Bool, true, false, Option, Some, None, refl, sym, ap, ◌∙◌, subst, arith}
use Rattle.std.proofs.lemmas.List.{append-nil, reverse-append, take-append-le, drop-append-le, length-reverse}
use Rattle.std.proofs.Math.Seq.{drop-length, take-length}
use Rattle.std.specs.Prelude.{option_to_list, IfErr, OnErr, OnOk, Result, Ok, Err}
use Rattle.std.specs.List.{AllByRecursion, flat_map}
use Rattle.zio_types.specs.declared.error.Errno.{Errno}
use Rattle.zio_types.specs.declared.place.Place.{Place}
use Rattle.zio_types.specs.declared.request.Bits.{Bits}
use Rattle.zio_types.specs.Choices.{Ask, Choice}
use Rattle.zio_blkptr.specs.declared.pointer.Bp.{Bp}
use Rattle.zio_script.specs.declared.script.Failmode.{Failmode}
use Rattle.zio_script.specs.Requests.{kind_of}
use Rattle.zio_script.specs.Whys.{is_claim}
use Rattle.zio_cksum.specs.Images.{Images}
use Rattle.zio_gang.specs.declared.tree.Tree.{Tree}
use Rattle.zio_gang.specs.Attempts.{Attempted, Child, Own, Pending, Return, Terms, attempt_one, attempt_with, children_of, closed_if, insert_children, judged_own, own_work, returned_to, tree_unless}
use Rattle.zio_gang.specs.Journals.{asks_of}
use Rattle.zio_gang.specs.Trees.{tree_places}
use Rattle.zio_blocks.specs.Blocks.{AnswersBy}
use Rattle.zio_course.specs.declared.runner.RequestEnd.{RequestEnd}
use Rattle.zio_course.specs.declared.runner.Stop.{Stop}
use Rattle.zio_course.specs.declared.runner.Stop.TheVariants.{Memory}
use Rattle.zio_course.specs.Runners.{made_places, places_of_block}
use Rattle.zio_plain.specs.declared.judge.Fate.TheVariants.{Ends, Again}
use Rattle.zio_plain.specs.declared.judge.Judged.{Judged}
use Rattle.zio_plain.specs.declared.owns.OwnEnd.{OwnEnd}
use Rattle.zio_plain.specs.declared.waiting.Handed.{Handed}
use Rattle.zio_plain.specs.declared.waiting.Kept.{Kept}
use Rattle.zio_plain.specs.declared.waiting.Waiting.{Waiting}
use Rattle.zio_plain.specs.Judgments.{IsJudged, again_in, again_of, children_handed, done_in, ends_of, freed_block, own_of, unused_in, unused_unless}
use Rattle.zio_plain.specs.OwnEnds.{AreAsked, IsFor, IsOwn, IsOwnEnd, TellsOwn}
use Rattle.zio_plain.specs.Passes.{HasFate, IsAttempted, IsStep, TellsAttempted, freed_of, freed_unless, made_unless}
use Rattle.zio_plain.specs.Waits.{HasPointer, child_of, merged, pending_of, pointers_in, return_of}
use Rattle.zio_plain.proofs.FateLemmas.{HaveHanded, ended_tree, judged_fate}
use Rattle.zio_plain.proofs.JudgeLemmas.{children_seen, map_reverse, merge_seen}

pub ok_both : {V E A B C : Type 0} (r : Result V E) → OnOk r A → OnOk r B → (A → B → C) → OnOk r C
ok_both (Ok v) a b f = f a b
ok_both (Err e) a b f = tt

pub memory_stop : {V : Type 0} (r : Result V Stop) (P : Stop → Type 0) → OnErr r (r ≡ Err Memory) → P Memory → IfErr r P
memory_stop (Ok v) P is h = tt
memory_stop (Err e) P is h = let same : e ≡ Memory = cc in subst P (sym same) h

-- ---- the stack

pub record IsTop (k : ℕ) (old last mid : List Handed) : Type 0 where
  pub top : take k (reverse old) ≡ reverse last
  pub below : drop k (reverse old) ≡ reverse mid

pub stack_top : (k : ℕ) (old mid last : List Handed) → old ≡ mid ++ last → length last ≡ k → IsTop k old last mid
stack_top k old mid last is count =
    let turned : reverse old ≡ reverse last ++ reverse mid = ap reverse is ∙ reverse-append mid last in
    let n : length (reverse last) ≡ k = length-reverse last ∙ count in
    let le : k ≤ length (reverse last) = omega (arith, n) in record {
      top = ap (take k) turned ∙ take-append-le k (reverse last) (reverse mid) le ∙ ap (λ m. take m (reverse last)) (sym n) ∙ take-length (reverse last);
      below = ap (drop k) turned ∙ drop-append-le k (reverse last) (reverse mid) le
          ∙ ap (λ hs. hs ++ reverse mid) (ap (λ m. drop m (reverse last)) (sym n) ∙ drop-length (reverse last));
    }

pub stack_pushed : (mid after : List Handed) (one : Handed) → after ≡ mid ++ one ∷ [] → reverse after ≡ one ∷ reverse mid
stack_pushed mid after one is = ap reverse is ∙ reverse-append mid (one ∷ [])

-- ---- what is judged

closed_asks : (b : Bool) (p : Pending) (own : Own) (bits : Bits) (ks : List Child) → (closed_if b p own bits ks).asks ≡ own.asks
closed_asks true p own bits ks = refl
closed_asks false p own bits ks = refl

closed_images : (b : Bool) (p : Pending) (own : Own) (bits : Bits) (ks : List Child) → (closed_if b p own bits ks).images ≡ own.images
closed_images true p own bits ks = refl
closed_images false p own bits ks = refl

judged_asks : (t : Terms) (p : Pending) (rs : List Return) (own : Own) → (judged_own t p rs own).asks ≡ own.asks
judged_asks t p rs own = closed_asks _ p own _ _

judged_images : (t : Terms) (p : Pending) (rs : List Return) (own : Own) → (judged_own t p rs own).images ≡ own.images
judged_images t p rs own = closed_images _ p own _ _

pointers_seen : (ks : List Kept) → pointers_in ks ≡ map (λ (c : Child). c.pointer) (map child_of ks)
pointers_seen [] = refl
pointers_seen (k ∷ ks) = ap (λ ps. k.pointer ∷ ps) (pointers_seen ks)

-- the pointers that all children handed on, by number
pointers_are : (w : Waiting) (kids : List Handed)
    → pointers_in (merged (reverse (children_handed kids)) w.kept)
    ≡ map (λ (c : Child). c.pointer) (insert_children (children_of (map return_of (reverse kids))) (map child_of w.kept))
pointers_are w kids =
    let turned : reverse (children_handed kids) ≡ children_handed (reverse kids) = sym (map_reverse (λ (h : Handed). h.child) kids) in
    pointers_seen (merged (reverse (children_handed kids)) w.kept)
    ∙ ap (map (λ (c : Child). c.pointer)) (merge_seen (reverse (children_handed kids)) w.kept
    ∙ ap (λ cs. insert_children cs (map child_of w.kept)) (ap (map child_of) turned ∙ children_seen (reverse kids)))

pub attempted : (journal : List Choice) (t : Terms) (attempt : ℕ) (w : Waiting) (kids : List Handed) (own : OwnEnd) (judged : Judged) (returns : List Return) (images after : Images)
    (given_old given_new : List Choice)
    → returned_to (pending_of w) returns ≡ map return_of (reverse kids)
    → IsOwn (own_work journal t attempt (pending_of w) w.request.work (pointers_in (merged (reverse (children_handed kids)) w.kept)) images) own given_old given_new after
    → ((asks : List Ask) (images : Images) → IsJudged judged (judged_own t (pending_of w) (map return_of (reverse kids)) (own_of own asks images)))
    → IsAttempted (attempt_one journal t attempt (pending_of w) returns images) judged.handed judged.fate given_old given_new after
attempted journal t attempt w kids own judged returns images after given_old given_new same is h =
    let p : Pending = pending_of w in
    let rs : List Return = map return_of (reverse kids) in
    let work : List (Option Bp) → Own = λ ps. own_work journal t attempt p w.request.work ps images in
    let seen : Own = own_of own ((work (pointers_in (merged (reverse (children_handed kids)) w.kept))).asks) after in
    let own_is : work (map (λ (c : Child). c.pointer) (insert_children (children_of rs) (map child_of w.kept))) ≡ seen =
    sym (ap work (pointers_are w kids)) ∙ is.is in
    let all : attempt_one journal t attempt p returns images ≡ judged_own t p rs seen =
    ap (λ qs. attempt_with journal t attempt p qs images) same ∙ ap (judged_own t p rs) own_is in
    let j : IsJudged judged (judged_own t p rs seen) = h seen.asks after in
    subst (λ (a : Attempted). IsAttempted a judged.handed judged.fate given_old given_new after) (sym all) (record {
      return = sym j.return_is;
      ended = sym j.ended_is;
      again = sym j.again_is;
      asks = is.asks ∙ ap (λ more. asks_of given_old ++ more) (sym (judged_asks t p rs seen));
      images = judged_images t p rs seen;
    })

-- ---- told

module _ {S : Type 0} (tells : S → Images → Type 0) (given : S → List Choice) where
  pub tells_attempted : (t : Terms) (attempt : ℕ) (failmode : Failmode) (w : Waiting) (kids : List Handed) (own : OwnEnd) (judged : Judged) (images : Images) (old mid new : S)
      → t.failmode ≡ failmode
      → TellsOwn tells given (λ journal. own_work journal t attempt (pending_of w) w.request.work (pointers_in (merged (reverse (children_handed kids)) w.kept)) images) own old mid
      → ((ims : Images) → tells mid ims → tells new ims) → given new ≡ given mid
      → ((u : Terms) (asks : List Ask) (ims : Images) → u.failmode ≡ failmode → IsJudged judged (judged_own u (pending_of w) (map return_of (reverse kids)) (own_of own asks ims)))
      → TellsAttempted tells given (λ journal returns. attempt_one journal t attempt (pending_of w) returns images) w (reverse kids) judged.handed judged.fate old new
  tells_attempted t attempt failmode w kids own judged images old mid new mode h kept same j = record {
    after = h.after;
    told = kept h.after h.told;
    meant = λ journal answers returns returned.
        subst (λ gs. IsAttempted (attempt_one journal t attempt (pending_of w) returns images) judged.handed judged.fate (given old) gs h.after) (sym same)
        (attempted journal t attempt w kids own judged returns images h.after (given old) (given mid) returned
        (h.meant journal (subst (AnswersBy journal) same answers)) (λ asks ims. j t asks ims mode));
  }

-- ---- the step

made_of_one : (f : RequestEnd) → made_places (f ∷ []) ≡ places_of_block f.tree
made_of_one f = ap (flat_map tree_places) (append-nil (option_to_list f.tree))

made_is : (error : Option Errno) (own : Option Tree) → made_unless error (places_of_block own) ≡ places_of_block (tree_unless error own)
made_is None own = refl
made_is (Some x) own = refl

freed_is : (w : Waiting) (error : Option Errno) (made unused : Option Tree) → unused ≡ unused_unless error made (freed_block w.request.work w.block)
    → freed_unless error unused ≡ freed_unless error (freed_block w.request.work w.block)
freed_is w None made unused h = ap (freed_unless None) h
freed_is w (Some x) made unused h = refl

module _ {S : Type 0} (tells : S → Images → Type 0) (runs fresh : S → Terms → Type 0) (given : S → List Choice) (moves : S → S → List Place → Type 0)
    (failmode : Failmode) (attempt : ℕ) (w : Waiting) (old mid after kids : List Handed) (own : OwnEnd) (taken : List Place) (judged : Judged) (a b c : S) where
  -- the same of the code: what was handed on, own work, what it is judged to, and what that changed
  pub record IsRun : Type 0 where
    pub split : old ≡ mid ++ kids
    pub count : length kids ≡ w.unfinished
    pub pointers : HaveHanded kids
    pub kept : AllByRecursion HasPointer w.kept
    pub pushed : after ≡ mid ++ judged.handed ∷ []
    pub end : IsOwnEnd w own
    pub judged_is : (t : Terms) (asks : List Ask) (ims : Images) → t.failmode ≡ failmode → IsJudged judged (judged_own t (pending_of w) (map return_of (reverse kids)) (own_of own asks ims))
    pub again_is : (v : Waiting) → judged.fate ≡ Again v → v ≡ record w { kept = merged (reverse (children_handed (done_in kids))) w.kept; unfinished = again_in kids }
    pub unused_is : judged.unused ≡ unused_in judged.fate own.tree (freed_block w.request.work w.block)
    pub told : (t : Terms) → runs a t → (is_claim (kind_of w.request.work) ≡ true → fresh a t) → (images : Images) → tells a images
        → TellsOwn tells given (λ journal. own_work journal t attempt (pending_of w) w.request.work (pointers_in (merged (reverse (children_handed kids)) w.kept)) images) own a b
    pub asked : AreAsked (IsFor w.request.number attempt) (given a) (given b)
    pub images : (ims : Images) → tells b ims → tells c ims
    pub same : given c ≡ given b

  abbrev IsJudgedBy : List Handed → Type 0
  IsJudgedBy hs = (t : Terms) (asks : List Ask) (ims : Images) → t.failmode ≡ failmode → IsJudged judged (judged_own t (pending_of w) (map return_of (reverse hs)) (own_of own asks ims))

  abbrev IsAgainBy : List Handed → Type 0
  IsAgainBy hs = (v : Waiting) → judged.fate ≡ Again v → v ≡ record w { kept = merged (reverse (children_handed (done_in hs))) w.kept; unfinished = again_in hs }

  abbrev IsToldBy : List Handed → Type 0
  IsToldBy hs = (t : Terms) → runs a t → (is_claim (kind_of w.request.work) ≡ true → fresh a t) → (images : Images) → tells a images
      → TellsOwn tells given (λ journal. own_work journal t attempt (pending_of w) w.request.work (pointers_in (merged (reverse (children_handed hs)) w.kept)) images) own a b

  pub run_of : (first second : List Handed) → first ≡ kids → second ≡ kids → old ≡ mid ++ kids → length kids ≡ w.unfinished → HaveHanded kids → AllByRecursion HasPointer w.kept
      → after ≡ mid ++ judged.handed ∷ [] → IsOwnEnd w own → IsJudgedBy second → IsAgainBy second
      → judged.unused ≡ unused_in judged.fate own.tree (freed_block w.request.work w.block)
      → IsToldBy first → AreAsked (IsFor w.request.number attempt) (given a) (given b) → ((ims : Images) → tells b ims → tells c ims) → given c ≡ given b → IsRun
  run_of first second one two split count pointers kept pushed end judged_is again_is unused_is told asked images same = record {
    split = split;
    count = count;
    pointers = pointers;
    kept = kept;
    pushed = pushed;
    end = end;
    judged_is = subst IsJudgedBy two judged_is;
    again_is = subst IsAgainBy two again_is;
    unused_is = unused_is;
    told = subst IsToldBy one told;
    asked = asked;
    images = images;
    same = same;
  }

  module _ (again_old again_new : List Waiting) (fin_old fin_new : List RequestEnd) (freed_old freed_new : List Tree) where
    step_done : IsRun → again_new ≡ again_old ++ again_of judged.fate → fin_new ≡ fin_old ++ ends_of judged.fate → freed_new ≡ freed_old ++ freed_of w judged.fate
        → moves a c (made_places (ends_of judged.fate))
        → IsStep tells runs fresh given moves failmode attempt w (reverse old) (reverse after) again_old again_new fin_old fin_new freed_old freed_new a c
    step_done r again fin freed moved =
        let top : IsTop w.unfinished old kids mid = stack_top w.unfinished old mid kids r.split r.count in record {
          one = judged.handed;
          fate = judged.fate;
          is = subst (λ hs. HasFate w hs judged.handed judged.fate) (sym top.top)
              (judged_fate w kids own judged failmode r.judged_is r.again_is r.end r.count r.pointers r.kept);
          handed = stack_pushed mid after judged.handed r.pushed ∙ ap (λ hs. judged.handed ∷ hs) (sym top.below);
          again = again;
          finished = fin;
          freed = freed;
          moved = moved;
          asked = record { more = r.asked.more; is = r.same ∙ r.asked.is; of = r.asked.of; distinct = r.asked.distinct };
          told = λ t run mode claim images told.
              subst (λ hs. TellsAttempted tells given (λ journal returns. attempt_one journal t attempt (pending_of w) returns images) w hs judged.handed judged.fate a c) (sym top.top)
              (tells_attempted tells given t attempt failmode w kids own judged images a b c mode (r.told t run claim images told) r.images r.same r.judged_is);
        }

    -- it finished
    pub step_ended : (f : RequestEnd) (unused : Option Tree) → IsRun → judged.fate ≡ Ends f → judged.unused ≡ unused
        → again_new ≡ again_old → fin_new ≡ fin_old ++ f ∷ [] → freed_new ≡ freed_old ++ freed_unless f.error unused
        → moves a b taken → (own.error ≡ None → moves a b (places_of_block own.tree))
        → ((before : S) (made : List Place) → moves before b taken → (f.error ≡ None → moves before b made) → moves before c (made_unless f.error made))
        → IsStep tells runs fresh given moves failmode attempt w (reverse old) (reverse after) again_old again_new fin_old fin_new freed_old freed_new a c
    step_ended f unused r is unused_as again fin freed taken_moves made end =
        let tree = ended_tree w kids own judged failmode r.judged_is f is in
        let ends : ends_of judged.fate ≡ f ∷ [] = ap ends_of is in
        let moved : moves a c (made_unless f.error (places_of_block own.tree)) = end a (places_of_block own.tree) taken_moves (λ none. made (tree.1 none)) in
        let places : made_unless f.error (places_of_block own.tree) ≡ made_places (ends_of judged.fate) =
        made_is f.error own.tree ∙ ap places_of_block (sym tree.0) ∙ sym (made_of_one f) ∙ ap made_places (sym ends) in
        step_done r (again ∙ sym (append-nil again_old) ∙ ap (λ ws. again_old ++ ws) (sym (ap again_of is)))
        (fin ∙ ap (λ fs. fin_old ++ fs) (sym ends))
        (freed ∙ ap (λ ts. freed_old ++ ts) (freed_is w f.error own.tree unused (sym unused_as ∙ r.unused_is ∙ ap (λ x. unused_in x own.tree (freed_block w.request.work w.block)) is)
        ∙ ap (freed_of w) (sym is)))
        (subst (λ ps. moves a c ps) places moved)

    -- it goes again
    pub step_again : (v : Waiting) → IsRun → judged.fate ≡ Again v → again_new ≡ again_old ++ v ∷ [] → fin_new ≡ fin_old → freed_new ≡ freed_old
        → moves a b taken → ((before : S) → moves before b taken → moves before c [])
        → IsStep tells runs fresh given moves failmode attempt w (reverse old) (reverse after) again_old again_new fin_old fin_new freed_old freed_new a c
    step_again v r is again fin freed taken_moves back =
        step_done r (again ∙ ap (λ ws. again_old ++ ws) (sym (ap again_of is)))
        (fin ∙ sym (append-nil fin_old) ∙ ap (λ fs. fin_old ++ fs) (sym (ap ends_of is)))
        (freed ∙ sym (append-nil freed_old) ∙ ap (λ ts. freed_old ++ ts) (sym (ap (freed_of w) is)))
        (subst (λ ps. moves a c ps) (sym (ap (λ x. made_places (ends_of x)) is)) (back a taken_moves))
