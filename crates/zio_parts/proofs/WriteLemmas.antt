-- The write of a piece under way: what its arrays show, and what is left by each call.
use Rattle.std.proofs.Common.{◌≡◌, ℕ, zero, suc, ◌+◌, ◌<◌, ◌≤◌, List, [], ◌∷◌, ◌++◌, length, map, set, get_or, take, drop, slice_get, Bool, true, false, Option, Some, None, option_map, refl, sym, ap, ◌∙◌, subst, arith, append_assoc, append-nil, length-append, length-take}
use Rattle.std.proofs.lemmas.List.{map-append, map-set, take_more, take_more_set, take-append-drop, length-drop, length-map}
use Rattle.zio_types.specs.declared.error.Errno.{Errno}
use Rattle.zio_types.specs.declared.place.Place.{Place}
use Rattle.zio_types.specs.declared.place.Top.{Top}
use Rattle.zio_types.specs.Errors.{worst_error}
use Rattle.zio_cksum.specs.Blocks.{leaves_of, spot_in}
use Rattle.zio_cksum.specs.Frames.{spots_of}
use Rattle.zio_cksum.specs.Images.{Setting, Spot}
use Rattle.zio_trace.specs.Calls.{answered_at}
use Rattle.zio_trace.specs.CopyPrograms.{Program, again_on, pass_writing, place_error, places_writing, store_each}
use Rattle.zio_trace.specs.Leaves.{LeafOp, Store, Answer, answer_of, error_of}
use Rattle.zio_trace.specs.Programs.{Ends, ◌>>=◌}
use Rattle.zio_parts.specs.Answered.{filled, out_before, out_count}
use Rattle.zio_parts.specs.Copies.{copies_at, spot_at}
use Rattle.zio_parts.specs.declared.copies.Target.{Target}
use Rattle.zio_parts.specs.declared.copy_write.WriteStep.TheVariants.{Store as StoreStep, Wait, Retry, End}
use Rattle.zio_parts.specs.CopyWrites.{Writing, answers_in, any_out, left_of_write, pass_error, ShowsWrite, write_handed, write_heard, writes_of, writing_from}
use Rattle.zio_parts.proofs.AnsweredLemmas.{AsksFirst, ReadsBy, past_get, bind_ends, error_back, filled_answered, filled_by, filled_more, get_map, next_behind, out_less, out_more, reads_on, take_set_in}

-- ---- the arrays

pub length_answers : (outs : List Bool) (errors : List (Option Errno)) → length outs ≡ length errors → length (answers_in outs errors) ≡ length outs
length_answers [] errors h = refl
length_answers (out ∷ outs) [] h = absurd (omega arith)
length_answers (true ∷ outs) (e ∷ errors) h = ap suc (length_answers outs errors (omega arith))
length_answers (false ∷ outs) (e ∷ errors) h = ap suc (length_answers outs errors (omega arith))

answers_more : (outs : List Bool) (errors : List (Option Errno)) (e : Option Errno) → length outs ≡ length errors →
    answers_in (outs ++ true ∷ []) (errors ++ e ∷ []) ≡ answers_in outs errors ++ None ∷ []
answers_more [] [] e h = refl
answers_more [] (f ∷ errors) e h = absurd (omega arith)
answers_more (out ∷ outs) [] e h = absurd (omega arith)
answers_more (true ∷ outs) (f ∷ errors) e h = ap (λ xs. None ∷ xs) (answers_more outs errors e (omega arith))
answers_more (false ∷ outs) (f ∷ errors) e h = ap (λ xs. Some f ∷ xs) (answers_more outs errors e (omega arith))

answers_set : (outs : List Bool) (errors : List (Option Errno)) (n : ℕ) (e : Option Errno) →
    answers_in (set outs n false) (set errors n e) ≡ set (answers_in outs errors) n (Some e)
answers_set [] errors n e = refl
answers_set (out ∷ outs) [] zero e = refl
answers_set (out ∷ outs) [] (suc n) e = refl
answers_set (true ∷ outs) (f ∷ errors) zero e = refl
answers_set (false ∷ outs) (f ∷ errors) zero e = refl
answers_set (true ∷ outs) (f ∷ errors) (suc n) e = ap (λ xs. None ∷ xs) (answers_set outs errors n e)
answers_set (false ∷ outs) (f ∷ errors) (suc n) e = ap (λ xs. Some f ∷ xs) (answers_set outs errors n e)

-- as the fields have them
pub length_held : (h : ℕ) (outs : List Bool) (errors : List (Option Errno)) → length outs ≡ 12 → length errors ≡ 12 → h ≤ 12 → length (answers_in (take h outs) (take h errors)) ≡ h
length_held h outs errors os es l =
    length_answers (take h outs) (take h errors) (omega (arith, length-take h outs, length-take h errors)) ∙ omega (arith, length-take h outs)

pub held_more : (h : ℕ) (outs : List Bool) (errors : List (Option Errno)) → length outs ≡ 12 → length errors ≡ 12 → h < 12 →
    answers_in (take (h + 1) (set outs h true)) (take (h + 1) errors) ≡ answers_in (take h outs) (take h errors) ++ None ∷ []
held_more h outs errors os es l =
    ap (λ xs. answers_in xs (take (h + 1) errors)) (take_more_set outs h true (omega arith))
    ∙ ap (answers_in (take h outs ++ true ∷ [])) (take_more errors h None (omega arith))
    ∙ answers_more (take h outs) (take h errors) (get_or errors h None) (omega (arith, length-take h outs, length-take h errors))

pub held_set : (h : ℕ) (outs : List Bool) (errors : List (Option Errno)) (n : ℕ) (e : Option Errno) →
    answers_in (take h (set outs n false)) (take h (set errors n e)) ≡ set (answers_in (take h outs) (take h errors)) n (Some e)
held_set h outs errors n e =
    ap (λ xs. answers_in xs (take h (set errors n e))) (take_set_in h outs n false)
    ∙ ap (answers_in (set (take h outs) n false)) (take_set_in h errors n e)
    ∙ answers_set (take h outs) (take h errors) n e

-- ---- what the program reads of its answers

abbrev by_error : Answer → Answer
by_error v = answer_of (error_of v)

stores_read : (retry : Bool) (bytes : List ℕ) (so_far : List (Option Errno)) (spots : List Spot) → ReadsBy by_error (store_each retry bytes so_far spots)
stores_read retry bytes so_far [] = tt
stores_read retry bytes so_far (spot ∷ spots) = (
  λ v. ap (λ e. store_each retry bytes (so_far ++ e ∷ []) spots) (sym (error_back (error_of v))),
  λ v. stores_read retry bytes (so_far ++ error_of v ∷ []) spots,
)

places_read : (s : Setting) (retry : Bool) (bytes : List ℕ) (worst : Option Errno) (places : List Place) → ReadsBy by_error (places_writing s retry bytes worst places)
places_read s retry bytes worst [] = tt
places_read s retry bytes worst (p ∷ ps) =
    reads_on by_error (store_each retry bytes [] (map (spot_in p) (leaves_of s p)) >>= λ errors. Ends (place_error errors)) (λ error. places_writing s retry bytes (worst_error worst error) ps)
    (reads_on by_error (store_each retry bytes [] (map (spot_in p) (leaves_of s p))) (λ errors. Ends (place_error errors)) (stores_read retry bytes [] (map (spot_in p) (leaves_of s p))) (λ errors. tt))
    (λ error. places_read s retry bytes (worst_error worst error) ps)

again_reads : (s : Setting) (bytes : List ℕ) (places : List Place) (error : Option Errno) → ReadsBy by_error (again_on error (pass_writing s true bytes places))
again_reads s bytes places None = tt
again_reads s bytes places (Some e) = places_read s true bytes None places

writing_reads : (s : Setting) (bytes : List ℕ) (places : List Place) (retry : Bool) → ReadsBy by_error (writing_from s bytes places retry)
writing_reads s bytes places false =
    reads_on by_error (pass_writing s false bytes places) (λ error. again_on error (pass_writing s true bytes places)) (places_read s false bytes None places) (again_reads s bytes places)
writing_reads s bytes places true = places_read s true bytes None places

-- ---- calls

pub handed_left : (s : Setting) (bytes : List ℕ) (x : Writing) → left_of_write s bytes (write_handed x) ≡ left_of_write s bytes x
handed_left s bytes x =
    ap (λ as_. filled as_ (writing_from s bytes x.places x.retry)) (map-append (option_map answer_of) x.answers (None ∷ []))
    ∙ filled_more (writes_of x) (writing_from s bytes x.places x.retry)

pub handed_out : (x : Writing) → out_count (writes_of (write_handed x)) ≡ out_count (writes_of x) + 1
handed_out x = ap out_count (map-append (option_map answer_of) x.answers (None ∷ [])) ∙ out_more (writes_of x)

pub heard_left : (s : Setting) (bytes : List ℕ) (x : Writing) (n : ℕ) (error : Option Errno) (answer : Answer) → slice_get x.answers n ≡ Some None → error_of answer ≡ error →
    left_of_write s bytes (write_heard x n error) ≡ answered_at (out_before n (writes_of x)) answer (left_of_write s bytes x)
heard_left s bytes x n error answer is e =
    let p : Program (Option Errno) = writing_from s bytes x.places x.retry in
    ap (λ as_. filled as_ p) (map-set (option_map answer_of) x.answers n (Some error))
    ∙ ap (λ f. filled (set (writes_of x) n (Some (answer_of f))) p) (sym e)
    ∙ sym (filled_by by_error n answer (writes_of x) p (writing_reads s bytes x.places x.retry))
    ∙ sym (filled_answered n answer (writes_of x) p (get_map (option_map answer_of) x.answers n None is))

pub heard_out : (x : Writing) (n : ℕ) (error : Option Errno) → slice_get x.answers n ≡ Some None → out_count (writes_of (write_heard x n error)) + 1 ≡ out_count (writes_of x)
heard_out x n error is =
    ap (λ as_. out_count as_ + 1) (map-set (option_map answer_of) x.answers n (Some error))
    ∙ out_less n (answer_of error) (writes_of x) (get_map (option_map answer_of) x.answers n None is)

pub held_room : (h : ℕ) (outs : List Bool) (errors : List (Option Errno)) → length outs ≡ 12 → length errors ≡ 12 → h ≤ 12 → length (answers_in (take h outs) (take h errors)) < 12 → h < 12
held_room h outs errors os es l r = let e : length (answers_in (take h outs) (take h errors)) ≡ h = length_held h outs errors os es l in omega arith

-- ---- what a pass asks

abbrev stores_of : Bool → List ℕ → List Spot → List LeafOp
stores_of retry bytes spots = map (λ (spot : Spot). Store retry bytes spot) spots

-- what is left of writing places, once some leaves of the first place were written
abbrev rest_from : {A : Type 0} → Setting → Bool → List ℕ → Option Errno → List (Option Errno) → List Spot → List Place → (Option Errno → Program A) → Program A
rest_from s retry bytes worst so_far spots ps k =
    ((store_each retry bytes so_far spots >>= λ errors. Ends (place_error errors)) >>= λ error. places_writing s retry bytes (worst_error worst error) ps) >>= k

spots_first : {A : Type 0} (s : Setting) (retry : Bool) (bytes : List ℕ) (worst : Option Errno) (ps : List Place) (k : Option Errno → Program A) (ops : List LeafOp)
    → ((w : Option Errno) → AsksFirst ops (places_writing s retry bytes w ps >>= k))
    → (so_far : List (Option Errno)) (spots : List Spot) → AsksFirst (stores_of retry bytes spots ++ ops) (rest_from s retry bytes worst so_far spots ps k)
spots_first s retry bytes worst ps k ops h so_far [] = h (worst_error worst (place_error so_far))
spots_first s retry bytes worst ps k ops h so_far (spot ∷ spots) = (refl, λ v. spots_first s retry bytes worst ps k ops h (so_far ++ error_of v ∷ []) spots)

places_first : {A : Type 0} (s : Setting) (retry : Bool) (bytes : List ℕ) (k : Option Errno → Program A) (places : List Place) (worst : Option Errno)
    → AsksFirst (stores_of retry bytes (spots_of s places)) (places_writing s retry bytes worst places >>= k)
places_first s retry bytes k [] worst = tt
places_first {A} s retry bytes k (p ∷ ps) worst =
    let mine : List Spot = map (spot_in p) (leaves_of s p) in
    let P : List LeafOp → Type 0 = λ ops. AsksFirst ops (places_writing s retry bytes worst (p ∷ ps) >>= k) in
    subst P (sym (map-append (λ (spot : Spot). Store retry bytes spot) mine (spots_of s ps)))
    (spots_first s retry bytes worst ps k (stores_of retry bytes (spots_of s ps)) (λ w. places_first s retry bytes k ps w) [] mine)

writing_first : (s : Setting) (bytes : List ℕ) (places : List Place) (retry : Bool) → AsksFirst (stores_of retry bytes (spots_of s places)) (writing_from s bytes places retry)
writing_first s bytes places false = places_first s false bytes (λ error. again_on error (pass_writing s true bytes places)) places None
writing_first s bytes places true =
    let P : Program (Option Errno) → Type 0 = λ p. AsksFirst (stores_of true bytes (spots_of s places)) p in
    subst P (bind_ends (pass_writing s true bytes places)) (places_first s true bytes (λ error. Ends error) places None)

pub store_shown : (s : Setting) (tops : List Top) (bytes : List ℕ) (x : Writing) (target : Target) → s.tops ≡ tops → slice_get (copies_at tops x.places) (length x.answers) ≡ Some (spot_at target)
    → ShowsWrite s bytes x (StoreStep target)
store_shown s tops bytes x target e is =
    let here : slice_get (copies_at s.tops x.places) (length x.answers) ≡ Some (spot_at target) = ap (λ ts. slice_get (copies_at ts x.places) (length x.answers)) e ∙ is in
    let op : LeafOp = Store x.retry bytes (spot_at target) in
    let next : slice_get (stores_of x.retry bytes (spots_of s x.places)) (length (writes_of x)) ≡ Some op =
    ap (λ n. slice_get (stores_of x.retry bytes (spots_of s x.places)) n) (length-map x.answers (option_map answer_of))
    ∙ get_map (λ (spot : Spot). Store x.retry bytes spot) (spots_of s x.places) (length x.answers) (spot_at target) here in
    next_behind (stores_of x.retry bytes (spots_of s x.places)) (writes_of x) op (writing_from s bytes x.places x.retry) (writing_first s bytes x.places x.retry) next

-- ---- the pass is over

out_some : (outs : List Bool) (errors : List (Option Errno)) → length outs ≡ length errors → any_out outs ≡ true → 0 < out_count (map (option_map answer_of) (answers_in outs errors))
out_some [] errors h e = absurd (cc)
out_some (out ∷ outs) [] h e = absurd (omega arith)
out_some (true ∷ outs) (f ∷ errors) h e = omega arith
out_some (false ∷ outs) (f ∷ errors) h e = out_some outs errors (omega arith) e

-- the answers of writes with these errors
abbrev answered : List (Option Errno) → List (Option Answer)
answered errors = map (λ (e : Option Errno). Some (answer_of e)) errors

all_heard : (outs : List Bool) (errors : List (Option Errno)) → length outs ≡ length errors → any_out outs ≡ false → map (option_map answer_of) (answers_in outs errors) ≡ answered errors
all_heard [] [] h e = refl
all_heard [] (f ∷ errors) h e = absurd (omega arith)
all_heard (out ∷ outs) [] h e = absurd (omega arith)
all_heard (true ∷ outs) (f ∷ errors) h e = absurd (cc)
all_heard (false ∷ outs) (f ∷ errors) h e = ap (λ as_. Some (answer_of f) ∷ as_) (all_heard outs errors (omega arith) e)

none_out : (errors : List (Option Errno)) → out_count (answered errors) ≡ 0
none_out [] = refl
none_out (e ∷ errors) = none_out errors

spots_filled : {A : Type 0} (s : Setting) (retry : Bool) (bytes : List ℕ) (worst : Option Errno) (ps : List Place) (k : Option Errno → Program A) (behind : List (Option Answer))
    → (so_far es : List (Option Errno)) (spots : List Spot) → length es ≡ length spots
    → filled (answered es ++ behind) (rest_from s retry bytes worst so_far spots ps k) ≡ filled behind (places_writing s retry bytes (worst_error worst (place_error (so_far ++ es))) ps >>= k)
spots_filled s retry bytes worst ps k behind so_far [] [] h =
    ap (λ (errors : List (Option Errno)). filled behind (places_writing s retry bytes (worst_error worst (place_error errors)) ps >>= k)) (sym (append-nil so_far))
spots_filled s retry bytes worst ps k behind so_far [] (spot ∷ spots) h = absurd (omega arith)
spots_filled s retry bytes worst ps k behind so_far (x ∷ es) [] h = absurd (omega arith)
spots_filled s retry bytes worst ps k behind so_far (x ∷ es) (spot ∷ spots) h =
    ap (λ (y : Option Errno). filled (answered es ++ behind) (rest_from s retry bytes worst (so_far ++ y ∷ []) spots ps k)) (error_back x)
    ∙ spots_filled s retry bytes worst ps k behind (so_far ++ x ∷ []) es spots (omega arith)
    ∙ ap (λ (errors : List (Option Errno)). filled behind (places_writing s retry bytes (worst_error worst (place_error errors)) ps >>= k)) (append_assoc so_far (x ∷ []) es)

places_filled : {A : Type 0} (s : Setting) (retry : Bool) (bytes : List ℕ) (k : Option Errno → Program A) (places : List Place) (worst : Option Errno) (es : List (Option Errno))
    → length es ≡ length (spots_of s places) → filled (answered es) (places_writing s retry bytes worst places >>= k) ≡ k (pass_error s.tops worst places es)
places_filled s retry bytes k [] worst [] h = refl
places_filled s retry bytes k [] worst (x ∷ es) h = absurd (omega arith)
places_filled s retry bytes k (p ∷ ps) worst es h =
    let mine : List Spot = map (spot_in p) (leaves_of s p) in
    let c : ℕ = length (leaves_of s p) in
    let mines : length mine ≡ c = length-map (leaves_of s p) (spot_in p) in
    let all : length (spots_of s (p ∷ ps)) ≡ length mine + length (spots_of s ps) = length-append mine (spots_of s ps) in
    let first : length (take c es) ≡ length mine = omega (arith, length-take c es) in
    let left : length (drop c es) ≡ length (spots_of s ps) = omega (arith, length-drop c es) in
    let apart : answered es ≡ answered (take c es) ++ answered (drop c es) =
    ap answered (sym (take-append-drop c es)) ∙ map-append (λ (x : Option Errno). Some (answer_of x)) (take c es) (drop c es) in
    ap (λ (as_ : List (Option Answer)). filled as_ (places_writing s retry bytes worst (p ∷ ps) >>= k)) apart
    ∙ spots_filled s retry bytes worst ps k (answered (drop c es)) [] (take c es) mine first
    ∙ places_filled s retry bytes k ps (worst_error worst (place_error (take c es))) (drop c es) left

passed : (s : Setting) (bytes : List ℕ) (places : List Place) (es : List (Option Errno)) → length es ≡ length (spots_of s places)
    → filled (answered es) (writing_from s bytes places false) ≡ again_on (pass_error s.tops None places es) (pass_writing s true bytes places)
passed s bytes places es h = places_filled s false bytes (λ error. again_on error (pass_writing s true bytes places)) places None es h

passed_again : (s : Setting) (bytes : List ℕ) (places : List Place) (es : List (Option Errno)) → length es ≡ length (spots_of s places)
    → filled (answered es) (writing_from s bytes places true) ≡ Ends (pass_error s.tops None places es)
passed_again s bytes places es h =
    ap (filled (answered es)) (sym (bind_ends (pass_writing s true bytes places))) ∙ places_filled s true bytes (λ error. Ends error) places None es h

-- ---- the steps behind it

-- what the fields show of a pass that is over
pub record IsOver (s : Setting) (places : List Place) (outs : List Bool) (errors : List (Option Errno)) (error : Option Errno) : Type 0 where
  pub quiet : any_out outs ≡ false
  pub same : length outs ≡ length errors
  pub all : length errors ≡ length (copies_at s.tops places)
  pub error_is : error ≡ pass_error s.tops None places errors

over_left : (s : Setting) (bytes : List ℕ) (places : List Place) (retry : Bool) (outs : List Bool) (errors : List (Option Errno)) (error : Option Errno) → IsOver s places outs errors error
    → filled (map (option_map answer_of) (answers_in outs errors)) (writing_from s bytes places retry) ≡ filled (answered errors) (writing_from s bytes places retry)
over_left s bytes places retry outs errors error h = ap (λ as_. filled as_ (writing_from s bytes places retry)) (all_heard outs errors h.same h.quiet)

over_out : (s : Setting) (places : List Place) (outs : List Bool) (errors : List (Option Errno)) (error : Option Errno) → IsOver s places outs errors error
    → out_count (map (option_map answer_of) (answers_in outs errors)) ≡ 0
over_out s places outs errors error h = ap out_count (all_heard outs errors h.same h.quiet) ∙ none_out errors

pub ended_again : (s : Setting) (bytes : List ℕ) (places : List Place) (retry : Bool) (outs : List Bool) (errors : List (Option Errno)) (error : Option Errno) → IsOver s places outs errors error
    → retry ≡ true → ShowsWrite s bytes (record { places = places; retry = retry; answers = answers_in outs errors }) (End error)
ended_again s bytes places retry outs errors error h e = (
  over_out s places outs errors error h,
  over_left s bytes places retry outs errors error h
      ∙ ap (λ r. filled (answered errors) (writing_from s bytes places r)) e
      ∙ passed_again s bytes places errors h.all
      ∙ ap (λ x. Ends x) (sym h.error_is),
)

pub ended_well : (s : Setting) (bytes : List ℕ) (places : List Place) (retry : Bool) (outs : List Bool) (errors : List (Option Errno)) (error : Option Errno) → IsOver s places outs errors error
    → retry ≡ false → error ≡ None → ShowsWrite s bytes (record { places = places; retry = retry; answers = answers_in outs errors }) (End None)
ended_well s bytes places retry outs errors error h e none = (
  over_out s places outs errors error h,
  over_left s bytes places retry outs errors error h
      ∙ ap (λ r. filled (answered errors) (writing_from s bytes places r)) e
      ∙ passed s bytes places errors h.all
      ∙ ap (λ x. again_on x (pass_writing s true bytes places)) (sym h.error_is ∙ none),
)

pub due_again : (s : Setting) (bytes : List ℕ) (places : List Place) (retry : Bool) (outs : List Bool) (errors : List (Option Errno)) (error : Option Errno) (f : Errno) → IsOver s places outs errors error
    → retry ≡ false → error ≡ Some f → ShowsWrite s bytes (record { places = places; retry = retry; answers = answers_in outs errors }) Retry
due_again s bytes places retry outs errors error f h e some = (
  over_out s places outs errors error h,
  e,
  sym (
      over_left s bytes places retry outs errors error h
      ∙ ap (λ r. filled (answered errors) (writing_from s bytes places r)) e
      ∙ passed s bytes places errors h.all
      ∙ ap (λ x. again_on x (pass_writing s true bytes places)) (sym h.error_is ∙ some)),
)

-- ---- as the fields have them

pub all_handed : (tops : List Top) (places : List Place) (h : ℕ) (outs : List Bool) (errors : List (Option Errno)) → length outs ≡ 12 → length errors ≡ 12 → h ≤ 12
    → slice_get (copies_at tops places) h ≡ None → length (answers_in (take h outs) (take h errors)) ≤ length (copies_at tops places)
    → h ≡ length (copies_at tops places)
all_handed tops places h outs errors os es l none within =
    let held : length (answers_in (take h outs) (take h errors)) ≡ h = length_held h outs errors os es l in
    let past : length (copies_at tops places) ≤ h = past_get (copies_at tops places) h none in
    omega arith

pub wait_shown : (s : Setting) (tops : List Top) (bytes : List ℕ) (places : List Place) (retry : Bool) (h : ℕ) (outs : List Bool) (errors : List (Option Errno)) → s.tops ≡ tops
    → length outs ≡ 12 → length errors ≡ 12 → h ≤ 12 → h ≡ length (copies_at tops places) → any_out (take h outs) ≡ true
    → ShowsWrite s bytes (record { places = places; retry = retry; answers = answers_in (take h outs) (take h errors) }) Wait
wait_shown s tops bytes places retry h outs errors e os es l all some = (
  out_some (take h outs) (take h errors) (omega (arith, length-take h outs, length-take h errors)) some,
  length_held h outs errors os es l ∙ all ∙ ap (λ ts. length (copies_at ts places)) (sym e),
)

pub over : (s : Setting) (tops : List Top) (places : List Place) (h : ℕ) (outs : List Bool) (errors : List (Option Errno)) (error : Option Errno) → s.tops ≡ tops
    → length outs ≡ 12 → length errors ≡ 12 → h ≤ 12 → h ≡ length (copies_at tops places) → any_out (take h outs) ≡ false
    → error ≡ pass_error tops None places (take h errors) → IsOver s places (take h outs) (take h errors) error
over s tops places h outs errors error e os es l all quiet is = record {
  quiet = quiet;
  same = omega (arith, length-take h outs, length-take h errors);
  all = let n : length (take h errors) ≡ h = omega (arith, length-take h errors) in n ∙ all ∙ ap (λ ts. length (copies_at ts places)) (sym e);
  error_is = is ∙ ap (λ ts. pass_error ts None places (take h errors)) (sym e);
}
