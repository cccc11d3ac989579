-- The deeds that calls are made of are deeds that the calls may do.
use Rattle.std.proofs.Common.{List, [], ◌∷◌, sym, subst}
use Rattle.std.specs.List.{AllByRecursion}
use Rattle.zio_cksum.proofs.AllLemmas.{all_append, all_weaker}
use Rattle.zio_trace.specs.Footprints.{Stays}
use Rattle.zio_trace.specs.Programs.{Program as ProgramOf, Ends, Asks, Deed, Does, Made, NoneMade, Itself, ByParts}
use Rattle.zio_trace.proofs.ListLemmas.{all_front, all_rest}

-- deeds with fitting answers are among a program's operations
pub does_stay : {Op Ans A : Type 0} (Fits : Op → Ans → Type 0) (P : Op → Type 0) (Q : A → Type 0) (p : ProgramOf Op Ans A) (ds : List (Deed Op Ans)) (a : A) → Stays Fits P Q p → AllByRecursion (λ (d : Deed Op Ans). Fits d.op d.answer) ds → Does p ds a → AllByRecursion (λ (d : Deed Op Ans). P d.op) ds × Q a
does_stay Fits P Q p [] a h fits does = (tt, subst (λ (x : ProgramOf _ _ _). Stays Fits P Q x) does h)
does_stay Fits P Q (Ends x) (d ∷ ds) a h fits does = absurd does
does_stay {Op} {Ans} Fits P Q (Asks op more) (d ∷ ds) a h fits does =
    let fit : Fits op d.answer = subst (λ (o : Op). Fits o d.answer) does.0 fits.0 in
    let rest : AllByRecursion (λ (e : Deed Op Ans). P e.op) ds × Q a = does_stay Fits P Q (more d.answer) ds a (h.1 d.answer fit) fits.1 does.1 in
    ((subst P (sym does.0) h.0, rest.0), rest.1)

module _ {Op Ans : Type 0} (plan_of : Op → ProgramOf Op Ans Ans) (Fits : Op → Ans → Type 0) (May : Op → Op → Type 0)
    (law : (o : Op) → Stays Fits (λ (q : Op). (d : Op) → May q d → May o d) (λ (answer : Ans). Fits o answer) (plan_of o)) where
  -- answers fit, where those of the deeds do
  pub made_fits : (calls ds : List (Deed Op Ans)) → Made plan_of calls ds → AllByRecursion (λ (d : Deed Op Ans). Fits d.op d.answer) ds → AllByRecursion (λ (c : Deed Op Ans). Fits c.op c.answer) calls
  made_fits calls ds NoneMade h = tt
  made_fits calls ds (Itself {cs = cs} {ds = es} m) h = (h.0, made_fits cs es m h.1)
  made_fits calls ds (ByParts {c = c} {cs = cs} {calls = inner} {ds = es} {es = fs} does m ms) h =
      let F : Deed Op Ans → Type 0 = λ d. Fits d.op d.answer in
      ((does_stay Fits (λ (q : Op). (d : Op) → May q d → May c.op d) (λ (answer : Ans). Fits c.op answer) (plan_of c.op) inner c.answer (law c.op) (made_fits inner es m (all_front F es fs h)) does).1, made_fits cs fs ms (all_rest F es fs h))

  -- what holds of all that the calls may do holds of the deeds
  pub made_may : (P : Op → Type 0) (calls ds : List (Deed Op Ans)) → Made plan_of calls ds → AllByRecursion (λ (d : Deed Op Ans). Fits d.op d.answer × May d.op d.op) ds → AllByRecursion (λ (c : Deed Op Ans). (d : Op) → May c.op d → P d) calls → AllByRecursion (λ (d : Deed Op Ans). P d.op) ds
  made_may P calls ds NoneMade h k = tt
  made_may P calls ds (Itself {c = c} {cs = cs} {ds = es} m) h k = (k.0 c.op h.0.1, made_may P cs es m h.1 k.1)
  made_may P calls ds (ByParts {c = c} {cs = cs} {calls = inner} {ds = es} {es = fs} does m ms) h k =
      let F : Deed Op Ans → Type 0 = λ d. Fits d.op d.answer × May d.op d.op in
      let he : AllByRecursion F es = all_front F es fs h in
      let fits : AllByRecursion (λ (d : Deed Op Ans). Fits d.op d.answer) inner = made_fits inner es m (all_weaker F (λ (d : Deed Op Ans). Fits d.op d.answer) es (λ d f. f.0) he) in
      let asked : AllByRecursion (λ (q : Deed Op Ans). (d : Op) → May q.op d → May c.op d) inner =
      (does_stay Fits (λ (q : Op). (d : Op) → May q d → May c.op d) (λ (answer : Ans). Fits c.op answer) (plan_of c.op) inner c.answer (law c.op) fits does).0 in
      all_append (λ (d : Deed Op Ans). P d.op) es fs
      (made_may P inner es m he (all_weaker (λ (q : Deed Op Ans). (d : Op) → May q.op d → May c.op d) (λ (q : Deed Op Ans). (d : Op) → May q.op d → P d) inner (λ q f d may. k.0 d (f d may)) asked))
      (made_may P cs fs ms (all_rest F es fs h) k.1)
