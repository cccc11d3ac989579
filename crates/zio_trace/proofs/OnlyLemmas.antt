-- What calls are made of is determined: two lists of single operations that happen from the same images are the same.
use Rattle.std.proofs.Common.{◌≡◌, Bool, true, false, List, [], ◌∷◌, ◌++◌, ◌⊎◌, inl, inr, refl, sym, ap, ◌∙◌, subst, append-nil}
use Rattle.std.specs.List.{AllByRecursion}
use Rattle.zio_cksum.specs.Images.{Images}
use Rattle.zio_trace.specs.Programs.{Asks, ByParts, Deed, Does, Done, Ends, Happen, Itself, Made, Meaning, NoneMade, Program, ask, asks_of, deeds_of, run}
use Rattle.zio_trace.specs.RoundTraces.{deed_of}
use Rattle.zio_trace.specs.Traces.{Above, Bottom, Grounded, Mentions}
use Rattle.zio_trace.proofs.ListLemmas.{all_front, all_rest}
use Rattle.zio_trace.proofs.ProgramLemmas.{happen_apart, made_happen, run_does}

-- the deeds of a program that happen are those that it does alone
pub does_own : {Op Ans A : Type 0} (means : Meaning Op Ans) (p : Program Op Ans A) (ds : List (Deed Op Ans)) (value : A) (before after : Images) → Does p ds value → Happen means ds before after → ds ≡ deeds_of means p before
does_own means p [] value before after h k = ap (λ (q : Program _ _ _). deeds_of means q before) (sym h)
does_own means (Ends a) (d ∷ ds) value before after h k = absurd h
does_own {Op} {Ans} means (Asks op more) (d ∷ ds) value before after h k =
    let now : Images = (means d.op before).images in
    let rest : ds ≡ deeds_of means (more (means d.op before).value) now =
    does_own means (more d.answer) ds value now after h.1 k.1 ∙ ap (λ (v : Ans). deeds_of means (more v) now) (sym k.0) in
    (λ i. record { op = d.op; answer = sym k.0 i } ∷ rest i)
    ∙ ap (λ (o : Op). deed_of means o before ∷ deeds_of means (more (means o before).value) (means o before).images) h.0

module _ {Op Ans : Type 0} (plan : Op → Program Op Ans Ans) where
  -- ---- calls taken apart

  -- what the first call is made of, and the rest
  record Cut (c : Deed Op Ans) (cs ds : List (Deed Op Ans)) : Type 0 where
    front : List (Deed Op Ans)
    rest : List (Deed Op Ans)
    is : ds ≡ front ++ rest
    first : Made plan (c ∷ []) front
    later : Made plan cs rest

  abbrev IsCut : List (Deed Op Ans) → List (Deed Op Ans) → Type 0
  IsCut [] ds = ds ≡ []
  IsCut (c ∷ cs) ds = Cut c cs ds

  made_cut : (cs ds : List (Deed Op Ans)) → Made plan cs ds → IsCut cs ds
  made_cut cs ds NoneMade = refl
  made_cut cs ds (Itself {c = c} {cs = cs1} {ds = ds1} m) = record { front = c ∷ []; rest = ds1; is = refl; first = Itself NoneMade; later = m }
  made_cut cs ds (ByParts {c = c} {cs = cs1} {calls = calls} {ds = ds1} {es = es1} does m ms) = record {
    front = ds1;
    rest = es1;
    is = refl;
    first = subst (Made plan (c ∷ [])) (append-nil ds1) (ByParts {c = c} does m NoneMade);
    later = ms;
  }

  -- one call, by its plan
  record Parts (c : Deed Op Ans) (ds : List (Deed Op Ans)) : Type 0 where
    calls : List (Deed Op Ans)
    does : Does (plan c.op) calls c.answer
    made : Made plan calls ds

  abbrev IsOne : List (Deed Op Ans) → List (Deed Op Ans) → Type 0
  IsOne [] ds = Unit {0}
  IsOne (c ∷ []) ds = (ds ≡ c ∷ []) ⊎ Parts c ds
  IsOne (c ∷ d ∷ cs) ds = Unit {0}

  one_itself : (c : Deed Op Ans) (cs ds : List (Deed Op Ans)) → Made plan cs ds → IsOne (c ∷ cs) (c ∷ ds)
  one_itself c [] ds m = inl (ap (λ (xs : List (Deed Op Ans)). c ∷ xs) (made_cut [] ds m))
  one_itself c (d ∷ cs) ds m = tt

  one_parts : (c : Deed Op Ans) (cs calls ds es : List (Deed Op Ans)) → Does (plan c.op) calls c.answer → Made plan calls ds → Made plan cs es → IsOne (c ∷ cs) (ds ++ es)
  one_parts c [] calls ds es does m ms =
      inr (record { calls = calls; does = does; made = subst (Made plan calls) (sym (ap (λ (xs : List (Deed Op Ans)). ds ++ xs) (made_cut [] es ms) ∙ append-nil ds)) m })
  one_parts c (d ∷ cs) calls ds es does m ms = tt

  made_one : (cs ds : List (Deed Op Ans)) → Made plan cs ds → IsOne cs ds
  made_one cs ds NoneMade = tt
  made_one cs ds (Itself {c = c} {cs = cs1} {ds = ds1} m) = one_itself c cs1 ds1 m
  made_one cs ds (ByParts {c = c} {cs = cs1} {calls = calls} {ds = ds1} {es = es1} does m ms) = one_parts c cs1 calls ds1 es1 does m ms

module _ {Op Ans : Type 0} (means : Meaning Op Ans) (plan : Op → Program Op Ans Ans) (single : Op → Bool)
    (law : (op : Op) (images : Images) → run means (plan op) images ≡ means op images) (own : (op : Op) → single op ≡ true → plan op ≡ ask op) where
  abbrev AllSingle : List (Deed Op Ans) → Type 0
  AllSingle ds = AllByRecursion (λ (d : Deed Op Ans). single d.op ≡ true) ds

  -- ---- calls that are single operations are made of themselves

  pub singles_made : (cs ds : List (Deed Op Ans)) (before after : Images) → Made plan cs ds → AllSingle cs → Happen means ds before after → ds ≡ cs
  singles_made cs ds before after NoneMade all h = refl
  singles_made cs ds before after (Itself {c = c} {cs = cs1} {ds = ds1} m) all h =
      ap (λ (xs : List (Deed Op Ans)). c ∷ xs) (singles_made cs1 ds1 (means c.op before).images after m all.1 h.1)
  singles_made cs ds before after (ByParts {c = c} {cs = cs1} {calls = calls} {ds = ds1} {es = es1} does m ms) all h =
      let cut = happen_apart means ds1 es1 before after h in
      let inner : Happen means calls before cut.0 = made_happen means plan law calls ds1 before cut.0 m cut.1 in
      let gives : means c.op before ≡ record { value = c.answer; asks = asks_of means calls before; images = cut.0 } =
      sym (law c.op before) ∙ run_does means (plan c.op) calls c.answer before cut.0 does inner in
      let call : calls ≡ c ∷ [] =
      does_own means (plan c.op) calls c.answer before cut.0 does inner
      ∙ ap (λ (q : Program Op Ans Ans). deeds_of means q before) (own c.op all.0)
      ∙ (λ i. record { op = c.op; answer = (gives i).value } ∷ []) in
      let first : ds1 ≡ c ∷ [] = singles_made calls ds1 before cut.0 m (subst AllSingle (sym call) (all.0, tt)) cut.1 ∙ call in
      λ i. first i ++ singles_made cs1 es1 cut.0 after ms all.1 cut.2 i

  -- ---- two lists that calls are made of

  abbrev pub Only : Op → Type 0
  Only op = (images after later : Images) (ds es : List (Deed Op Ans)) → Made plan (deed_of means op images ∷ []) ds → Made plan (deed_of means op images ∷ []) es
      → AllSingle ds → AllSingle es → Happen means ds images after → Happen means es images later → ds ≡ es

  -- what happens of a call's making leaves the images that the call leaves
  one_leaves : (op : Op) (images after : Images) (ds : List (Deed Op Ans)) → Made plan (deed_of means op images ∷ []) ds → Happen means ds images after → after ≡ (means op images).images
  one_leaves op images after ds m h = sym (made_happen means plan law (deed_of means op images ∷ []) ds images after m h).1

  pub each_only : {A : Type 0} (p : Program Op Ans A) (images after later : Images) → ((q : Op) → Mentions p q → Only q) → (ds es : List (Deed Op Ans)) → Made plan (deeds_of means p images) ds → Made plan (deeds_of means p images) es
      → AllSingle ds → AllSingle es → Happen means ds images after → Happen means es images later → ds ≡ es
  each_only (Ends a) images after later only ds es m n sd se hd he = made_cut plan [] ds m ∙ sym (made_cut plan [] es n)
  each_only (Asks op more) images after later only ds es m n sd se hd he =
      let now : Done Ans = means op images in
      let cs : List (Deed Op Ans) = deeds_of means (more now.value) now.images in
      let x : Cut plan (deed_of means op images) cs ds = made_cut plan (deed_of means op images ∷ cs) ds m in
      let y : Cut plan (deed_of means op images) cs es = made_cut plan (deed_of means op images ∷ cs) es n in
      let P : Deed Op Ans → Type 0 = λ d. single d.op ≡ true in
      let sx : AllSingle (x.front ++ x.rest) = subst AllSingle x.is sd in
      let sy : AllSingle (y.front ++ y.rest) = subst AllSingle y.is se in
      let hx = happen_apart means x.front x.rest images after (subst (λ (xs : List (Deed Op Ans)). Happen means xs images after) x.is hd) in
      let hy = happen_apart means y.front y.rest images later (subst (λ (xs : List (Deed Op Ans)). Happen means xs images later) y.is he) in
      let front : x.front ≡ y.front = only op (inl refl) images hx.0 hy.0 x.front y.front x.first y.first (all_front P x.front x.rest sx) (all_front P y.front y.rest sy) hx.1 hy.1 in
      let rest : x.rest ≡ y.rest =
      each_only (more now.value) now.images after later (λ q mentioned. only q (inr (now.value, mentioned))) x.rest y.rest x.later y.later (all_rest P x.front x.rest sx) (all_rest P y.front y.rest sy)
      (subst (λ (i : Images). Happen means x.rest i after) (one_leaves op images hx.0 x.front x.first hx.1) hx.2)
      (subst (λ (i : Images). Happen means y.rest i later) (one_leaves op images hy.0 y.front y.first hy.1) hy.2) in
      x.is ∙ (λ i. front i ++ rest i) ∙ sym y.is

  -- an operation that isn't single is done by its plan
  by_parts : (op : Op) (images after : Images) (ds : List (Deed Op Ans)) → single op ≡ false → IsOne plan (deed_of means op images ∷ []) ds → AllSingle ds → Happen means ds images after → Made plan (deeds_of means (plan op) images) ds
  by_parts op images after ds e (inl is) all h = absurd (let yes : single op ≡ true = (subst AllSingle is all).0 in cc)
  by_parts op images after ds e (inr parts) all h =
      subst (λ (cs : List (Deed Op Ans)). Made plan cs ds)
      (does_own means (plan op) parts.calls (means op images).value images after parts.does (made_happen means plan law parts.calls ds images after parts.made h)) parts.made

  pub ground_only : (op : Op) → Grounded plan single op → Only op
  ground_only op (Bottom e) = λ images after later ds es m n sd se hd he.
      singles_made (deed_of means op images ∷ []) ds images after m (e, tt) hd ∙ sym (singles_made (deed_of means op images ∷ []) es images later n (e, tt) he)
  ground_only op (Above e below) = λ images after later ds es m n sd se hd he.
      each_only (plan op) images after later (λ q mentioned. ground_only q (below q mentioned)) ds es
      (by_parts op images after ds e (made_one plan (deed_of means op images ∷ []) ds m) sd hd)
      (by_parts op images later es e (made_one plan (deed_of means op images ∷ []) es n) se he) sd se hd he
