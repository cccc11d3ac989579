-- Programs and the deeds that they do.
use Rattle.std.proofs.Common.{◌≡◌, List, [], ◌∷◌, ◌++◌, refl, sym, ap, ◌∙◌, subst, append_assoc}
use Rattle.zio_types.specs.Choices.{Ask}
use Rattle.zio_cksum.specs.Images.{Images}
use Rattle.zio_trace.specs.Programs.{Done, Meaning, Program, Ends, Asks, ◌>>=◌, behind, run, Deed, Does, Happen, asks_of, deeds_of, Made, NoneMade, Itself, ByParts}

behind_behind : {A : Type 0} (xs ys : List Ask) (d : Done A) → behind xs (behind ys d) ≡ behind (xs ++ ys) d
behind_behind xs ys d = ap (λ (asks : List Ask). record { value = d.value; asks = asks; images = d.images }) (sym (append_assoc xs ys d.asks))

-- running one after another
pub run-then : {Op Ans A B : Type 0} (means : Meaning Op Ans) (p : Program Op Ans A) (next : A → Program Op Ans B) (images : Images) → run means (p >>= next) images ≡ behind (run means p images).asks (run means (next (run means p images).value) (run means p images).images)
run-then means (Ends a) next images = refl
run-then means (Asks op more) next images =
    let now : Done _ = means op images in
    ap (behind now.asks) (run-then means (more now.value) next now.images)
    ∙ behind_behind now.asks (run means (more now.value) now.images).asks (run means (next (run means (more now.value) now.images).value) (run means (more now.value) now.images).images)

pub gives_then : {Op Ans A B : Type 0} (means : Meaning Op Ans) (p : Program Op Ans A) (next : A → Program Op Ans B) (images : Images) (d : Done A) (e : Done B) → run means p images ≡ d → run means (next d.value) d.images ≡ e → run means (p >>= next) images ≡ behind d.asks e
gives_then means p next images d e h k =
    run-then means p next images
    ∙ ap (λ (r : Done _). behind r.asks (run means (next r.value) r.images)) h
    ∙ ap (behind d.asks) k

-- ---- deeds that happen are a run

-- the program's own value and images come out
pub run_does : {Op Ans A : Type 0} (means : Meaning Op Ans) (p : Program Op Ans A) (ds : List (Deed Op Ans)) (value : A) (before after : Images) → Does p ds value → Happen means ds before after → run means p before ≡ record { value = value; asks = asks_of means ds before; images = after }
run_does means p [] value before after h k = λ i. run means (h i) (k i)
run_does means (Ends a) (d ∷ ds) value before after h k = absurd h
run_does means (Asks op more) (d ∷ ds) value before after h k =
    let now : Done _ = means d.op before in
    ap (λ (o : _). behind (means o before).asks (run means (more (means o before).value) (means o before).images)) (sym h.0)
    ∙ ap (λ (x : _). behind now.asks (run means (more x) now.images)) k.0
    ∙ ap (behind now.asks) (run_does means (more d.answer) ds value now.images after h.1 k.1)

-- and each run has such deeds
pub own_does : {Op Ans A : Type 0} (means : Meaning Op Ans) (p : Program Op Ans A) (images : Images) → Does p (deeds_of means p images) (run means p images).value
own_does means (Ends a) images = refl
own_does means (Asks op more) images = (refl, own_does means (more (means op images).value) (means op images).images)

pub own_happen : {Op Ans A : Type 0} (means : Meaning Op Ans) (p : Program Op Ans A) (images : Images) → Happen means (deeds_of means p images) images (run means p images).images
own_happen means (Ends a) images = refl
own_happen means (Asks op more) images = (refl, own_happen means (more (means op images).value) (means op images).images)

-- ---- one part after another

pub happen_apart : {Op Ans : Type 0} (means : Meaning Op Ans) (ds es : List (Deed Op Ans)) (before after : Images) → Happen means (ds ++ es) before after → (mid : Images) × Happen means ds before mid × Happen means es mid after
happen_apart means [] es before after h = (before, refl, h)
happen_apart means (d ∷ ds) es before after h =
    let rest = happen_apart means ds es (means d.op before).images after h.1 in
    (rest.0, (h.0, rest.1), rest.2)

-- What calls are made of happens, so they happen, where each operation's plan, run alone, gives what the operation means.
pub made_happen : {Op Ans : Type 0} (means : Meaning Op Ans) (plan : Op → Program Op Ans Ans) → ((op : Op) (images : Images) → run means (plan op) images ≡ means op images)
    → (calls ds : List (Deed Op Ans)) (before after : Images) → Made plan calls ds → Happen means ds before after → Happen means calls before after
made_happen means plan law calls ds before after NoneMade h = h
made_happen means plan law calls ds before after (Itself {c = c} {cs = cs} {ds = es} m) h = (h.0, made_happen means plan law cs es (means c.op before).images after m h.1)
made_happen means plan law calls ds before after (ByParts {c = c} {cs = cs} {calls = inner} {ds = es} {es = fs} does m ms) h =
    let cut = happen_apart means es fs before after h in
    let gives : means c.op before ≡ record { value = c.answer; asks = asks_of means inner before; images = cut.0 } =
    sym (law c.op before) ∙ run_does means (plan c.op) inner c.answer before cut.0 does (made_happen means plan law inner es before cut.0 m cut.1) in (
      ap (λ (d : Done _). d.value) gives,
      subst (λ (i : Images). Happen means cs i after) (sym (ap (λ (d : Done _). d.images) gives)) (made_happen means plan law cs fs cut.0 after ms cut.2),
    )
