-- Each task has a trace.
use Rattle.std.proofs.Common.{◌≡◌, Bool, true, List, [], ◌∷◌, ◌++◌, inl, inr, refl, sym, ap, ◌∙◌, subst, append_assoc, append-nil}
use Rattle.std.specs.List.{AllByRecursion}
use Rattle.zio_types.specs.Choices.{Ask}
use Rattle.zio_cksum.specs.Images.{Images}
use Rattle.zio_cksum.proofs.AllLemmas.{all_append}
use Rattle.zio_trace.specs.Plans.{plan}
use Rattle.zio_trace.specs.Programs.{Done, Meaning, Program, Ends, Asks, run, Deed, Does, Happen, asks_of, deeds_of, Made, NoneMade, Itself, ByParts}
use Rattle.zio_trace.specs.Tasks.{means}
use Rattle.zio_trace.specs.Traces.{Mentions, Grounded, Bottom, Above, AsksOnly}
use Rattle.zio_trace.proofs.ProgramLemmas.{own_does, run_does, made_happen, happen_apart}

pub mentions_only : {Op Ans A : Type 0} (P : Op → Type 0) (p : Program Op Ans A) (q : Op) → AsksOnly P p → Mentions p q → P q
mentions_only P (Ends a) q h m = absurd m
mentions_only P (Asks op more) q h (inl e) = subst P e h.0
mentions_only P (Asks op more) q h (inr m) = mentions_only P (more m.0) q (h.1 m.0) m.1

pub made-append : {Op Ans : Type 0} (plan : Op → Program Op Ans Ans) (cs es ds fs : List (Deed Op Ans)) → Made plan cs ds → Made plan es fs → Made plan (cs ++ es) (ds ++ fs)
made-append plan cs es ds fs NoneMade k = k
made-append plan cs es ds fs (Itself {c = c} {cs = cs1} {ds = ds1} m) k = Itself (made-append plan cs1 es ds1 fs m k)
made-append plan cs es ds fs (ByParts {c = c} {cs = cs1} {calls = calls} {ds = ds1} {es = es1} does m ms) k =
    subst (Made plan (c ∷ (cs1 ++ es))) (sym (append_assoc ds1 es1 fs)) (ByParts {c = c} does m (made-append plan cs1 es es1 fs ms k))

pub happen_join : {Op Ans : Type 0} (means : Meaning Op Ans) (ds es : List (Deed Op Ans)) (before mid after : Images) → Happen means ds before mid → Happen means es mid after → Happen means (ds ++ es) before after
happen_join means [] es before mid after h k = subst (λ (i : Images). Happen means es i after) (sym h) k
happen_join means (d ∷ ds) es before mid after h k = (h.0, happen_join means ds es (means d.op before).images mid after h.1 k)

pub asks_append : {Op Ans : Type 0} (means : Meaning Op Ans) (ds es : List (Deed Op Ans)) (before mid : Images) → Happen means ds before mid → asks_of means (ds ++ es) before ≡ asks_of means ds before ++ asks_of means es mid
asks_append means [] es before mid h = ap (asks_of means es) h
asks_append means (d ∷ ds) es before mid h =
    let now : Done _ = means d.op before in
    ap (λ (xs : List Ask). now.asks ++ xs) (asks_append means ds es now.images mid h.1) ∙ sym (append_assoc now.asks (asks_of means ds now.images) (asks_of means es mid))

-- what calls ask for is what the deeds ask for that they are made of
pub made_asks : {Op Ans : Type 0} (means : Meaning Op Ans) (plan : Op → Program Op Ans Ans) → ((op : Op) (images : Images) → run means (plan op) images ≡ means op images)
    → (calls ds : List (Deed Op Ans)) (before after : Images) → Made plan calls ds → Happen means ds before after → asks_of means calls before ≡ asks_of means ds before
made_asks means plan law calls ds before after NoneMade h = refl
made_asks means plan law calls ds before after (Itself {c = c} {cs = cs} {ds = es} m) h =
    let now : Done _ = means c.op before in ap (λ (xs : List Ask). now.asks ++ xs) (made_asks means plan law cs es now.images after m h.1)
made_asks means plan law calls ds before after (ByParts {c = c} {cs = cs} {calls = inner} {ds = es} {es = fs} does m ms) h =
    let cut = happen_apart means es fs before after h in
    let gives : means c.op before ≡ record { value = c.answer; asks = asks_of means inner before; images = cut.0 } =
    sym (law c.op before) ∙ run_does means (plan c.op) inner c.answer before cut.0 does (made_happen means plan law inner es before cut.0 m cut.1) in
    ap (λ (d : Done _). d.asks ++ asks_of means cs d.images) gives
    ∙ (λ i. made_asks means plan law inner es before cut.0 m cut.1 i ++ made_asks means plan law cs fs cut.0 after ms cut.2 i)
    ∙ sym (asks_append means es fs before cut.0 cut.1)

-- ---- an operation comes to single ones

module _ {Op Ans : Type 0} (means : Meaning Op Ans) (plan : Op → Program Op Ans Ans) (single : Op → Bool) (law : (op : Op) (images : Images) → run means (plan op) images ≡ means op images) where
  -- the deeds that these calls come to
  pub record ComesTo (calls : List (Deed Op Ans)) (before after : Images) : Type 0 where
    pub ds : List (Deed Op Ans)
    pub made : Made plan calls ds
    pub happen : Happen means ds before after
    pub all : AllByRecursion (λ (d : Deed Op Ans). single d.op ≡ true) ds

  abbrev pub OneComes : Op → Type 0
  OneComes op = (images : Images) → ComesTo (record { op = op; answer = (means op images).value } ∷ []) images (means op images).images

  calls_come : {A : Type 0} (p : Program Op Ans A) (images : Images) → ((q : Op) → Mentions p q → OneComes q) → ComesTo (deeds_of means p images) images (run means p images).images
  calls_come (Ends a) images h = record { ds = []; made = NoneMade; happen = refl; all = tt }
  calls_come (Asks op more) images h =
      let now : Done Ans = means op images in
      let call : Deed Op Ans = record { op = op; answer = now.value } in
      let first : ComesTo (call ∷ []) images now.images = h op (inl refl) images in
      let rest : ComesTo (deeds_of means (more now.value) now.images) now.images (run means (more now.value) now.images).images =
      calls_come (more now.value) now.images (λ q m. h q (inr (now.value, m))) in
      record {
        ds = first.ds ++ rest.ds;
        made = made-append plan (call ∷ []) (deeds_of means (more now.value) now.images) first.ds rest.ds first.made rest.made;
        happen = happen_join means first.ds rest.ds images now.images (run means (more now.value) now.images).images first.happen rest.happen;
        all = all_append _ first.ds rest.ds first.all rest.all;
      }

  pub one_comes : (op : Op) → Grounded plan single op → OneComes op
  one_comes op (Bottom e) = λ images. record {
    ds = record { op = op; answer = (means op images).value } ∷ [];
    made = Itself NoneMade;
    happen = (refl, refl);
    all = (e, tt);
  }
  one_comes op (Above e below) = λ images.
      let calls : List (Deed Op Ans) = deeds_of means (plan op) images in
      let inner : ComesTo calls images (run means (plan op) images).images = calls_come (plan op) images (λ q m. one_comes q (below q m)) in
      let call : Deed Op Ans = record { op = op; answer = (means op images).value } in
      let does : Does (plan op) calls (means op images).value =
      subst (λ (v : Ans). Does (plan op) calls v) (ap (λ (d : Done Ans). d.value) (law op images)) (own_does means (plan op) images) in
      record {
        ds = inner.ds;
        made = subst (Made plan (call ∷ [])) (append-nil inner.ds) (ByParts {c = call} does inner.made NoneMade);
        happen = subst (λ (i : Images). Happen means inner.ds images i) (ap (λ (d : Done Ans). d.images) (law op images)) inner.happen;
        all = inner.all;
      }
