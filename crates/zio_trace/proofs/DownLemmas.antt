-- What an operation comes to, so many levels down.
use Rattle.std.proofs.Common.{◌≡◌, ℕ, zero, suc, Bool, true, false, List, [], ◌∷◌, ◌++◌, ◌⊎◌, inl, inr, ⊎_elim, refl, ap, ◌∙◌, subst, append-nil}
use Rattle.std.specs.List.{AllByRecursion}
use Rattle.zio_types.specs.Choices.{Ask}
use Rattle.zio_cksum.specs.Images.{Images}
use Rattle.zio_cksum.proofs.AllLemmas.{all_append}
use Rattle.zio_trace.specs.Programs.{Asks, ByParts, Deed, Does, Done, Ends, Happen, Itself, Made, Meaning, NoneMade, Program, asks_of, deeds_of, run}
use Rattle.zio_trace.specs.RoundTraces.{deed_of, itself_if, trace_down, trace_each}
use Rattle.zio_trace.specs.Traces.{AsksOnly}
use Rattle.zio_trace.proofs.ProgramLemmas.{own_does}
use Rattle.zio_trace.proofs.TraceLemmas.{asks_append, happen_join, made-append}

module _ {Op Ans : Type 0} (means : Meaning Op Ans) (plan : Op → Program Op Ans Ans) (stops : Op → Bool) where
  -- The deeds happen from the images before to those after, and ask for these.
  pub record Gives (ds : List (Deed Op Ans)) (before after : Images) (asks : List Ask) : Type 0 where
    pub happen : Happen means ds before after
    pub asked : asks_of means ds before ≡ asks

  pub gives_join : (ds es : List (Deed Op Ans)) (before mid after : Images) (xs ys : List Ask) → Gives ds before mid xs → Gives es mid after ys → Gives (ds ++ es) before after (xs ++ ys)
  gives_join ds es before mid after xs ys d e = record {
    happen = happen_join means ds es before mid after d.happen e.happen;
    asked = asks_append means ds es before mid d.happen ∙ (λ i. d.asked i ++ e.asked i);
  }

  -- what is below gives what the operation means
  abbrev pub Faithful : (Op → Images → List (Deed Op Ans)) → Type 0
  Faithful below = (op : Op) (images : Images) → Gives (below op images) images (means op images).images (means op images).asks

  pub each_gives : {A : Type 0} (below : Op → Images → List (Deed Op Ans)) → Faithful below → (p : Program Op Ans A) (images : Images)
      → Gives (trace_each below means p images) images (run means p images).images (run means p images).asks
  each_gives below h (Ends a) images = record { happen = refl; asked = refl }
  each_gives below h (Asks op more) images =
      let now : Done Ans = means op images in
      let rest : Done _ = run means (more now.value) now.images in
      gives_join (below op images) (trace_each below means (more now.value) now.images) images now.images rest.images now.asks rest.asks
      (h op images) (each_gives below h (more now.value) now.images)

  itself_gives : (op : Op) (images : Images) → Gives (deed_of means op images ∷ []) images (means op images).images (means op images).asks
  itself_gives op images = record { happen = (refl, refl); asked = append-nil (means op images).asks }

  if_gives : (b : Bool) (op : Op) (below : Images → List (Deed Op Ans)) (images : Images) → Gives (below images) images (means op images).images (means op images).asks
      → Gives (itself_if b (deed_of means op images) below images) images (means op images).images (means op images).asks
  if_gives true op below images h = itself_gives op images
  if_gives false op below images h = h

  pub down_gives : ((op : Op) (images : Images) → run means (plan op) images ≡ means op images) → (levels : ℕ) → Faithful (trace_down levels stops means plan)
  down_gives law zero op images = itself_gives op images
  down_gives law (suc levels) op images =
      if_gives (stops op) op (trace_each (trace_down levels stops means plan) means (plan op)) images
      (subst (λ (d : Done Ans). Gives (trace_each (trace_down levels stops means plan) means (plan op) images) images d.images d.asks) (law op images)
      (each_gives (trace_down levels stops means plan) (down_gives law levels) (plan op) images))

  -- ---- where it stops

  abbrev pub AllStop : List (Deed Op Ans) → Type 0
  AllStop ds = AllByRecursion (λ (d : Deed Op Ans). stops d.op ≡ true) ds

  -- whatever answers come, the trace stops so many levels down
  abbrev pub Reaches : ℕ → Op → Type 0
  Reaches zero op = stops op ≡ true
  Reaches (suc levels) op = (stops op ≡ true) ⊎ AsksOnly (Reaches levels) (plan op)

  pub each_stops : {A : Type 0} (below : Op → Images → List (Deed Op Ans)) (P : Op → Type 0) → ((op : Op) (images : Images) → P op → AllStop (below op images))
      → (p : Program Op Ans A) (images : Images) → AsksOnly P p → AllStop (trace_each below means p images)
  each_stops below P h (Ends a) images only = tt
  each_stops below P h (Asks op more) images only =
      let now : Done Ans = means op images in
      all_append (λ (d : Deed Op Ans). stops d.op ≡ true) (below op images) (trace_each below means (more now.value) now.images) (h op images only.0)
      (each_stops below P h (more now.value) now.images (only.1 now.value))

  if_stops : (b : Bool) (op : Op) (below : Images → List (Deed Op Ans)) (images : Images) → stops op ≡ b → (stops op ≡ true) ⊎ AllStop (below images)
      → AllStop (itself_if b (deed_of means op images) below images)
  if_stops true op below images e h = (e, tt)
  if_stops false op below images e (inl h) = absurd (cc)
  if_stops false op below images e (inr h) = h

  pub down_stops : (levels : ℕ) (op : Op) (images : Images) → Reaches levels op → AllStop (trace_down levels stops means plan op images)
  down_stops zero op images h = (h, tt)
  down_stops (suc levels) op images h =
      let below : Images → List (Deed Op Ans) = trace_each (trace_down levels stops means plan) means (plan op) in
      if_stops (stops op) op below images refl
      (⊎_elim (λ at. inl at) (λ only. inr (each_stops (trace_down levels stops means plan) (Reaches levels) (down_stops levels) (plan op) images only)) h)

  -- ---- what it is made of

  abbrev pub MadeOf : (Op → Images → List (Deed Op Ans)) → Type 0
  MadeOf below = (op : Op) (images : Images) → Made plan (deed_of means op images ∷ []) (below op images)

  pub each_made : {A : Type 0} (below : Op → Images → List (Deed Op Ans)) → MadeOf below → (p : Program Op Ans A) (images : Images)
      → Made plan (deeds_of means p images) (trace_each below means p images)
  each_made below h (Ends a) images = NoneMade
  each_made below h (Asks op more) images =
      let now : Done Ans = means op images in
      made-append plan (deed_of means op images ∷ []) (deeds_of means (more now.value) now.images) (below op images) (trace_each below means (more now.value) now.images)
      (h op images) (each_made below h (more now.value) now.images)

  if_made : (b : Bool) (op : Op) (below : Images → List (Deed Op Ans)) (images : Images) → Made plan (deed_of means op images ∷ []) (below images)
      → Made plan (deed_of means op images ∷ []) (itself_if b (deed_of means op images) below images)
  if_made true op below images h = Itself NoneMade
  if_made false op below images h = h

  pub by_plan : ((op : Op) (images : Images) → run means (plan op) images ≡ means op images) → (op : Op) (images : Images) (ds : List (Deed Op Ans)) → Made plan (deeds_of means (plan op) images) ds
      → Made plan (deed_of means op images ∷ []) ds
  by_plan law op images ds h =
      let call : Deed Op Ans = deed_of means op images in
      let does : Does (plan op) (deeds_of means (plan op) images) call.answer =
      subst (λ (v : Ans). Does (plan op) (deeds_of means (plan op) images) v) (ap (λ (d : Done Ans). d.value) (law op images)) (own_does means (plan op) images) in
      subst (Made plan (call ∷ [])) (append-nil ds) (ByParts {c = call} does h NoneMade)

  pub down_made : ((op : Op) (images : Images) → run means (plan op) images ≡ means op images) → (levels : ℕ) → MadeOf (trace_down levels stops means plan)
  down_made law zero op images = Itself NoneMade
  down_made law (suc levels) op images =
      let below : Images → List (Deed Op Ans) = trace_each (trace_down levels stops means plan) means (plan op) in
      if_made (stops op) op below images (by_plan law op images (below images) (each_made (trace_down levels stops means plan) (down_made law levels) (plan op) images))

-- ---- where one trace stops above another

module _ {Op Ans : Type 0} (means : Meaning Op Ans) (plan : Op → Program Op Ans Ans) (stops single : Op → Bool) (above : (op : Op) → single op ≡ true → stops op ≡ true) where
  pub each_finer : {A : Type 0} (below finer : Op → Images → List (Deed Op Ans)) → ((op : Op) (images : Images) → Made plan (below op images) (finer op images)) → (p : Program Op Ans A) (images : Images)
      → Made plan (trace_each below means p images) (trace_each finer means p images)
  each_finer below finer h (Ends a) images = NoneMade
  each_finer below finer h (Asks op more) images =
      let now : Done Ans = means op images in
      made-append plan (below op images) (trace_each below means (more now.value) now.images) (finer op images) (trace_each finer means (more now.value) now.images)
      (h op images) (each_finer below finer h (more now.value) now.images)

  if_finer : (b c : Bool) (op : Op) (below finer : Images → List (Deed Op Ans)) (images : Images) → (c ≡ true → b ≡ true) → Made plan (deed_of means op images ∷ []) (itself_if c (deed_of means op images) finer images)
      → Made plan (below images) (finer images) → Made plan (itself_if b (deed_of means op images) below images) (itself_if c (deed_of means op images) finer images)
  if_finer true c op below finer images h whole parts = whole
  if_finer false true op below finer images h whole parts = absurd (let e : false ≡ true = h refl in cc)
  if_finer false false op below finer images h whole parts = parts

  pub down_finer : ((op : Op) (images : Images) → run means (plan op) images ≡ means op images) → (levels : ℕ) (op : Op) (images : Images)
      → Made plan (trace_down levels stops means plan op images) (trace_down levels single means plan op images)
  down_finer law zero op images = Itself NoneMade
  down_finer law (suc levels) op images =
      if_finer (stops op) (single op) op (trace_each (trace_down levels stops means plan) means (plan op)) (trace_each (trace_down levels single means plan) means (plan op)) images (above op)
      (down_made means plan single law (suc levels) op images)
      (each_finer (trace_down levels stops means plan) (trace_down levels single means plan) (down_finer law levels) (plan op) images)
