-- The contents of names after a round, and that whatever ended was answered by them.
use Rattle.std.proofs.Common.{◌≡◌, ◌≢◌, ℕ, List, [], ◌∷◌, length, Bool, true, false, cond, bytes_eq, Option, Some, None, is_some, IsSome, Contains, ◌⊎◌, inl, inr, ⊎_elim, refl, sym, ap, ◌∙◌, subst}
use Rattle.std.proofs.lemmas.Bool.{cases_Bool}
use Rattle.std.proofs.lemmas.Slice.Eq.{bytes_eq-Decides}
use Rattle.std.specs.List.{AllByRecursion}
use Rattle.zio_types.specs.declared.request.Prio.{Prio}
use Rattle.zio_types.specs.Choices.{Choice}
use Rattle.zio_blkptr.specs.declared.pointer.Bp.{Bp}
use Rattle.zio_blkptr.specs.declared.pointer.SumKind.{SumKind}
use Rattle.zio_script.specs.declared.script.Body.{Body}
use Rattle.zio_script.specs.declared.script.Request.{Request}
use Rattle.zio_script.specs.declared.script.Work.{Work}
use Rattle.zio_script.specs.declared.script.Work.TheVariants.{Null, Read, Write, Free, Claim}
use Rattle.zio_script.specs.Bodies.{body_of}
use Rattle.zio_script.specs.Requests.{name_of, names_it}
use Rattle.zio_cksum.proofs.AllLemmas.{all_weaker}
use Rattle.zio_gang.specs.declared.tree.Tree.{Tree}
use Rattle.zio_gang.specs.Attempts.{Ended, Pending}
use Rattle.zio_gang.specs.Rounds.{is_bound, settle_each}
use Rattle.zio_gang.specs.Writes.{content_of}
use Rattle.zio_trace.specs.RunTraces.{RoundStart}
use Rattle.zio_trace.specs.Separate.{IsNoClaim}
use Rattle.zio_trace.specs.SoundRounds.{IsRead}
use Rattle.zio_trace.specs.TreeOrders.{Pairs}
use Rattle.zio_trace.proofs.ListLemmas.{all_front, all_lists, all_rest}
use Rattle.zio_trace.proofs.PairLemmas.{pairs_two}
use Rattle.zio_heal.specs.Discipline.{AreUnfailing, EndWithoutError, IsUnfailing}
use Rattle.zio_heal.specs.Given.{Deeds}
use Rattle.zio_heal.specs.SafeBlocks.{Contents}
use Rattle.zio_heal.specs.SafeRounds.{EndsAs, EndsDiffer, EndsWell, HasNamed, IsReady, IsSafeStart, NamesApart, NamesWell, requests_in}
use Rattle.zio_heal.proofs.BoundBlocks.{Q, tells}
use Rattle.zio_heal.proofs.DisciplineLemmas.{round_fine}
use Rattle.zio_heal.proofs.EndedBlocks.{Ends, at_start, count, made_size, tree, tree_is}
use Rattle.zio_heal.proofs.EndedReads.{read_gave}

-- ---- names

different : (a b : List ℕ) → bytes_eq a b ≡ false → a ≢ b
different a b differs same = let e : false ≡ true = sym differs ∙ (bytes_eq-Decides a b).1 same in absurd (cc)

not_equal : (a b : List ℕ) → a ≢ b → bytes_eq a b ≡ false
not_equal a b ne = ⊎_elim (λ (yes : bytes_eq a b ≡ true). absurd (ne ((bytes_eq-Decides a b).0 yes))) (λ (no : bytes_eq a b ≡ false). no) (cases_Bool (bytes_eq a b))

-- works of different names, or two reads
abbrev pub WorksApart : Work → Work → Type 0
WorksApart w v = (names_it (name_of w) (name_of v) ≡ false) ⊎ (IsRead w × IsRead v)

names_different : (a b : Option (List ℕ)) (n m : List ℕ) → a ≡ Some n → b ≡ Some m → names_it a b ≡ false → n ≢ m
names_different a b n m ea eb differs =
    different n m (sym (ap (λ (x : Option (List ℕ)). names_it x b) ea ∙ ap (λ (x : Option (List ℕ)). names_it (Some n) x) eb) ∙ differs)

pub apart_names : (w v : Work) (n m : List ℕ) → WorksApart w v ⊎ WorksApart v w → (IsRead w → ⊥) → name_of w ≡ Some n → name_of v ≡ Some m → n ≢ m
apart_names w v n m either no_read ew ev =
    ⊎_elim
    (λ (one : WorksApart w v).
    ⊎_elim (λ (no : names_it (name_of w) (name_of v) ≡ false). names_different (name_of w) (name_of v) n m ew ev no) (λ (reads : IsRead w × IsRead v). absurd (no_read reads.0)) one)
    (λ (two : WorksApart v w).
    ⊎_elim (λ (no : names_it (name_of v) (name_of w) ≡ false) (same : n ≡ m). names_different (name_of v) (name_of w) m n ev ew no (sym same)) (λ (reads : IsRead v × IsRead w). absurd (no_read reads.1)) two)
    either

-- ---- contents

-- what the name has after a request of this work
abbrev pub content_by : Work → List (Option Bp) → List ℕ → List ℕ → List ℕ
content_by (Write n sum copies prio body) pointers name other = cond (bytes_eq n name) (content_of pointers (body_of body)) other
content_by _ pointers name other = other

content_elsewhere : (work : Work) (pointers : List (Option Bp)) (name other : List ℕ) → ((n : List ℕ) (sum : SumKind) (copies : ℕ) (prio : Prio) (body : Body) → work ≡ Write n sum copies prio body → n ≢ name) → content_by work pointers name other ≡ other
content_elsewhere Null pointers name other f = refl
content_elsewhere (Read n prio) pointers name other f = refl
content_elsewhere (Write n sum copies prio body) pointers name other f = ap (λ (b : Bool). cond b (content_of pointers (body_of body)) other) (not_equal n name (f n sum copies prio body refl))
content_elsewhere (Free n) pointers name other f = refl
content_elsewhere (Claim n pointer) pointers name other f = refl

pub per_tree : (P : Pending → Type 0) (trees : List (List Pending)) → AllByRecursion P (requests_in trees) → AllByRecursion (AllByRecursion P) trees
per_tree P [] h = tt
per_tree P (tree ∷ trees) h = (all_front P tree (requests_in trees) h, per_tree P trees (all_rest P tree (requests_in trees) h))

module _ (journal : List Choice) (sizes : ℕ → ℕ) (ds : Deeds) (contents : Contents) (children : ℕ → ℕ) (s : RoundStart) (h : IsSafeStart journal sizes ds contents children s) where
  abbrev Ended_ : Ended → Type 0
  Ended_ e = Ends journal sizes ds contents children s h e

  pub no_errors : EndWithoutError (settle_each journal s.terms s.trees s.images).ended × AreUnfailing (settle_each journal s.terms s.trees s.images).left
  no_errors =
      round_fine journal s.terms s.trees s.images
      (per_tree IsUnfailing s.trees (all_weaker (IsReady s.bound children) IsUnfailing (requests_in s.trees) (λ p k. k.unfailing) h.ready.each))

  pub all_ends : AllByRecursion Ended_ (settle_each journal s.terms s.trees s.images).ended
  all_ends = (tells journal sizes ds contents children s h).all

  -- the contents after these requests
  abbrev pub after_of : (es : List Ended) → AllByRecursion Ended_ es → Contents
  after_of [] all name = contents name
  after_of (e ∷ es) all name = content_by e.request.work all.0.pointers name (after_of es all.1 name)

  -- ---- requests that ended

  -- the request as the round began has the same work
  work_at_start : (e : Ended) (ends : Ended_ e) → ends.from.source.request.work ≡ e.request.work
  work_at_start e ends = ap (λ (r : Request). r.work) (ends.from.request ∙ sym ends.request)

  pub named_at_start : (e : Ended) (ends : Ended_ e) (work : Work) → e.request.work ≡ work → NamesWell s.bound work ends.from.source.block
  named_at_start e ends work is =
      subst (λ (w : Work). NamesWell s.bound w ends.from.source.block) (work_at_start e ends ∙ is) (at_start journal sizes ds contents children s h e ends).named

  -- a request of another number has another name, or both read
  pub apart_from : (n : ℕ) (p : Pending) (e : Ended) (ends : Ended_ e) → Contains (Q journal sizes ds contents children s h) p → p.request.number ≢ e.request.number → WorksApart e.request.work p.request.work ⊎ WorksApart p.request.work e.request.work
  apart_from n p e ends lp ne =
      let source : Pending = ends.from.source in
      let same : source.request ≡ e.request = ends.from.request ∙ sym ends.request in
      ⊎_elim
      (λ (one : source ≡ p). absurd (ne (ap (λ (q : Pending). q.request.number) (sym one) ∙ ap (λ (r : Request). r.number) same)))
      (λ (two : NamesApart source p ⊎ NamesApart p source).
      ⊎_elim
      (λ (a : NamesApart source p). inl (subst (λ (w : Work). WorksApart w p.request.work) (work_at_start e ends) a))
      (λ (b : NamesApart p source). inr (subst (λ (w : Work). WorksApart p.request.work w) (work_at_start e ends) b))
      two)
      (pairs_two NamesApart (Q journal sizes ds contents children s h) source p h.ready.names ends.from.listed lp)

  pub two_apart : (e f : Ended) → Ended_ e → Ended_ f → e.request.number ≢ f.request.number → WorksApart e.request.work f.request.work ⊎ WorksApart f.request.work e.request.work
  two_apart e f ee ef ne =
      subst (λ (w : Work). WorksApart e.request.work w ⊎ WorksApart w e.request.work) (work_at_start f ef)
      (apart_from 0 ef.from.source e ee ef.from.listed
      (λ same. ne (sym same ∙ ap (λ (r : Request). r.number) (ef.from.request ∙ sym ef.request))))

  -- a bound name keeps its content
  pub others_same : (es : List Ended) (all : AllByRecursion Ended_ es) (name : List ℕ) → is_bound s.bound name ≡ true → after_of es all name ≡ contents name
  others_same [] all name bound = refl
  others_same (e ∷ es) all name bound =
      content_elsewhere e.request.work all.0.pointers name (after_of es all.1 name)
      (λ n sum copies prio body is same.
      let free : is_bound s.bound n ≡ false = (named_at_start e all.0 (Write n sum copies prio body) is).1 in
      let no : true ≡ false = sym bound ∙ sym (ap (is_bound s.bound) same) ∙ free in
      absurd (cc))
      ∙ others_same es all.1 name bound

  pub named_bound : (name : List ℕ) (block : Option Tree) → HasNamed s.bound name block → is_bound s.bound name ≡ true
  named_bound name block k = subst (λ (o : Option Tree). is_some o ≡ true) k.is (some_true block k.there)
    where
      some_true : (o : Option Tree) → IsSome o → is_some o ≡ true
      some_true (Some x) i = refl
      some_true None i = absurd (cc)

  -- ---- they were answered well

  first_answered : (e : Ended) (es : List Ended) (all : AllByRecursion Ended_ (e ∷ es)) (work : Work) → e.error ≡ None → e.request.work ≡ work → EndsAs (after_of (e ∷ es) all) children e work
  first_answered e es all Null none is = tt
  first_answered e es all (Read name prio) none is =
      read_gave journal sizes ds contents children s h e all.0 none name prio is
      ∙ sym (others_same (e ∷ es) all name (named_bound name all.0.from.source.block (named_at_start e all.0 (Read name prio) is)))
  first_answered e es all (Write name sum copies prio body) none is =
      let now : after_of (e ∷ es) all name ≡ content_of all.0.pointers (body_of body) =
      ap (λ (w : Work). content_by w all.0.pointers name (after_of es all.1 name)) is
      ∙ ap (λ (b : Bool). cond b (content_of all.0.pointers (body_of body)) (after_of es all.1 name)) ((bytes_eq-Decides name name).1 refl) in
      record {
        tree = tree journal sizes ds contents children s h e all.0 none name sum copies prio body is;
        is = tree_is journal sizes ds contents children s h e all.0 none name sum copies prio body is;
        size = made_size journal sizes ds contents children s h e all.0 none name sum copies prio body is ∙ ap length (sym now);
        content = record {
          pointers = all.0.pointers;
          many = count journal sizes ds contents children s h e all.0 none name sum copies prio body is;
          slots = all.0.all.slots;
          is = now;
        };
      }
  first_answered e es all (Free name) none is = tt
  first_answered e es all (Claim name pointer) none is =
      subst IsNoClaim (work_at_start e all.0 ∙ is) (at_start journal sizes ds contents children s h e all.0).claims

  -- an earlier request changes no name of a later one
  stays_answered : (e f : Ended) (ee : Ended_ e) (ef : Ended_ f) (now : Contents) (work : Work) → e.request.number ≢ f.request.number → f.request.work ≡ work → EndsAs now children f work
      → EndsAs (λ name. content_by e.request.work ee.pointers name (now name)) children f work
  stays_answered e f ee ef now Null ne is k = tt
  stays_answered e f ee ef now (Read name prio) ne is k =
      k ∙ sym (content_elsewhere e.request.work ee.pointers name (now name)
      (λ n sum copies p body we. apart_names e.request.work f.request.work n name (two_apart e f ee ef ne) (λ r. subst IsRead we r) (ap name_of we) (ap name_of is)))
  stays_answered e f ee ef now (Write name sum copies prio body) ne is k =
      let same : content_by e.request.work ee.pointers name (now name) ≡ now name =
      content_elsewhere e.request.work ee.pointers name (now name)
      (λ n sm cp p bd we. apart_names e.request.work f.request.work n name (two_apart e f ee ef ne) (λ r. subst IsRead we r) (ap name_of we) (ap name_of is)) in
      record {
        tree = k.tree;
        is = k.is;
        size = k.size ∙ ap length (sym same);
        content = record { pointers = k.content.pointers; many = k.content.many; slots = k.content.slots; is = same ∙ k.content.is };
      }
  stays_answered e f ee ef now (Free name) ne is k = tt
  stays_answered e f ee ef now (Claim name pointer) ne is k = k

  all_answered : (es : List Ended) (all : AllByRecursion Ended_ es) → EndWithoutError es → Pairs EndsDiffer es → AllByRecursion (EndsWell (after_of es all) children) es
  all_answered [] all none distinct = tt
  all_answered (e ∷ es) all none distinct = (
    record { none = none.0; answered = first_answered e es all e.request.work none.0 refl },
    all_lists (EndsWell (after_of es all.1) children) (λ (f : Ended). Ended_ f × EndsDiffer e f) (EndsWell (after_of (e ∷ es) all) children) es
        (λ f k a. record { none = k.none; answered = stays_answered e f all.0 a.0 (after_of es all.1) f.request.work a.1 refl k.answered })
        (all_answered es all.1 none.1 distinct.1)
        (all_lists Ended_ (EndsDiffer e) (λ (f : Ended). Ended_ f × EndsDiffer e f) es (λ f a b. (a, b)) all.1 distinct.0),
  )

  abbrev pub after : Contents
  after = after_of (settle_each journal s.terms s.trees s.images).ended all_ends

  -- Whatever ended was answered by the contents after the round.
  pub ended_well : AllByRecursion (EndsWell after children) (settle_each journal s.terms s.trees s.images).ended
  ended_well = all_answered (settle_each journal s.terms s.trees s.images).ended all_ends no_errors.0 (tells journal sizes ds contents children s h).distinct

  -- ---- what each name has

  -- the request with its own work in the round, and what these contents have of it
  pub record IsTold (now : Contents) (e : Ended) : Type 0 where
    pub ends : Ended_ e
    pub none : e.error ≡ None
    pub is : (name : List ℕ) (sum : SumKind) (copies : ℕ) (prio : Prio) (body : Body) → e.request.work ≡ Write name sum copies prio body → now name ≡ content_of ends.pointers (body_of body)

  told_of : (es : List Ended) (all : AllByRecursion Ended_ es) → EndWithoutError es → Pairs EndsDiffer es → AllByRecursion (IsTold (after_of es all)) es
  told_of [] all none distinct = tt
  told_of (e ∷ es) all none distinct = (
    record {
      ends = all.0;
      none = none.0;
      is = λ name sum copies prio body is.
          ap (λ (w : Work). content_by w all.0.pointers name (after_of es all.1 name)) is
          ∙ ap (λ (b : Bool). cond b (content_of all.0.pointers (body_of body)) (after_of es all.1 name)) ((bytes_eq-Decides name name).1 refl);
    },
    all_lists (IsTold (after_of es all.1)) (EndsDiffer e) (IsTold (after_of (e ∷ es) all)) es
        (λ f k ne. record {
          ends = k.ends;
          none = k.none;
          is = λ name sum copies prio body is.
              content_elsewhere e.request.work all.0.pointers name (after_of es all.1 name)
              (λ n sm cp p bd we. apart_names e.request.work f.request.work n name (two_apart e f all.0 k.ends ne) (λ r. subst IsRead we r) (ap name_of we) (ap name_of is))
              ∙ k.is name sum copies prio body is;
        })
        (told_of es all.1 none.1 distinct.1) distinct.0,
  )

  pub all_told : AllByRecursion (IsTold after) (settle_each journal s.terms s.trees s.images).ended
  all_told = told_of (settle_each journal s.terms s.trees s.images).ended all_ends no_errors.0 (tells journal sizes ds contents children s h).distinct
