-- The read of a block under way: what its fields show, what is left by each call, and what each step shows.
use Rattle.std.proofs.Common.{◌≡◌, ℕ, zero, suc, ◌+◌, ◌-◌, ◌<◌, ◌≤◌, List, [], ◌∷◌, ◌++◌, length, map, set, take, slice_get, true, Option, Some, None, Ok, Err, refl, sym, ap, ◌∙◌, subst, inr, arith, append_assoc, append-nil, length-append, length-set}
use Rattle.std.proofs.lemmas.List.{map-append, map-set, length-map}
use Rattle.zio_blkptr.specs.declared.pointer.Bp.{Bp}
use Rattle.zio_blkptr.specs.Pointers.{places_of}
use Rattle.zio_gang.specs.declared.tree.Head.{Head}
use Rattle.zio_trace.specs.Leaves.{Answer}
use Rattle.zio_trace.specs.Plans.{Bodies, add_got, plan_after, plan_bodies}
use Rattle.zio_trace.specs.Programs.{Ends}
use Rattle.zio_trace.specs.Tasks.{BodyOf, Got, ReadCopies, Task, Value}
use Rattle.zio_parts.specs.Joins.{then_got}
use Rattle.zio_parts.specs.ReadFields.{IsIdle, ReadFields, outs_in}
use Rattle.zio_frames.specs.Slots.{AsksBehindSlots, Heard, IsOut, Slot, left_behind_slots, told_in}
use Rattle.zio_parts.specs.TreeReads.{ShowsRead, bodies_in, body_slot, bytes_or, found_in, left_of_read, reading_in, slots_in}
use Rattle.zio_parts.specs.declared.tree_read.BodyRead.{BodyRead}
use Rattle.zio_parts.specs.declared.tree_read.Phase.{Phase}
use Rattle.zio_parts.specs.declared.tree_read.Phase.TheVariants.{Unread, Out, Failed, Found}
use Rattle.zio_parts.specs.declared.tree_read.TreeStep.TheVariants.{Body, Wait, End}
use Rattle.zio_parts.proofs.AnsweredLemmas.{get_map, past_get, within_get}
use Rattle.zio_frames.proofs.SlotLemmas.{AnswerAll, AsksTasks, all_answered, answers_then, asks_then, handed_left, next_behind_slots}

-- ---- how many are out

told_more : (slots : List Slot) → length (told_in (slots ++ IsOut None ∷ [])) ≡ length (told_in slots) + 1
told_more [] = refl
told_more (Heard v ∷ slots) = told_more slots
told_more (IsOut told ∷ slots) = let e : length (told_in (slots ++ IsOut None ∷ [])) ≡ length (told_in slots) + 1 = told_more slots in omega arith

told_less : (n : ℕ) (v : Value) (slots : List Slot) → slice_get slots n ≡ Some (IsOut None) → length (told_in (set slots n (Heard v))) + 1 ≡ length (told_in slots)
told_less n v [] e = absurd (cc)
told_less zero v (Heard b ∷ slots) e = absurd (cc)
told_less zero v (IsOut told ∷ slots) e = omega arith
told_less (suc n) v (Heard b ∷ slots) e = told_less n v slots e
told_less (suc n) v (IsOut told ∷ slots) e = let h : length (told_in (set slots n (Heard v))) + 1 ≡ length (told_in slots) = told_less n v slots e in omega arith

outs_more : (results : List (Option Answer)) → outs_in (results ++ None ∷ []) ≡ outs_in results + 1
outs_more results = ap (λ slots. length (told_in slots)) (map-append body_slot results (None ∷ [])) ∙ told_more (map body_slot results)

pub outs_less : (n : ℕ) (found : Answer) (results : List (Option Answer)) → slice_get results n ≡ Some None → outs_in (set results n (Some found)) + 1 ≡ outs_in results
outs_less n found results e =
    ap (λ slots. length (told_in slots) + 1) (map-set body_slot results n (Some found))
    ∙ told_less n (Got found) (map body_slot results) (get_map body_slot results n None e)

-- ---- the fields

pub is_found : (phase : Phase) (results : List (Option Answer)) (n : ℕ) → IsIdle phase results → slice_get results n ≡ Some None → phase ≡ Found
is_found Unread results n idle e = absurd (let none : slice_get results n ≡ None = ap (λ rs. slice_get rs n) idle in cc)
is_found Out results n idle e = absurd (let none : slice_get results n ≡ None = ap (λ rs. slice_get rs n) idle in cc)
is_found (Failed f) results n idle e = absurd (let none : slice_get results n ≡ None = ap (λ rs. slice_get rs n) idle in cc)
is_found Found results n idle e = refl

pub more_fields : (phase : Phase) (bodies : List Bp) (results more : List (Option Answer)) (out : ℕ) → ReadFields phase bodies results out → more ≡ results ++ None ∷ [] → phase ≡ Found
    → length results < length bodies → length (told_in (slots_in phase results)) < 3 → ReadFields phase bodies more (out + 1)
more_fields phase bodies results more out h is found room few =
    let counted = h.counted in
    let told : length (told_in (slots_in phase results)) ≡ outs_in results = ap (λ p. length (told_in (slots_in p results))) found in
    let longer : length more ≡ length results + 1 = ap length is ∙ length-append results (None ∷ []) in
    let outs : outs_in more ≡ outs_in results + 1 = ap outs_in is ∙ outs_more results in
    record {
      idle = subst (λ p. IsIdle p more) (sym found) tt;
      within = omega arith;
      counted = omega arith;
      few = omega arith;
    }

unread_none : (phase : Phase) (results : List (Option Answer)) → IsIdle phase (results ++ None ∷ []) → phase ≡ Found
unread_none Unread results idle = absurd (let e : length (results ++ None ∷ []) ≡ 0 = ap length idle in omega (arith, e, length-append results (None ∷ [])))
unread_none Out results idle = absurd (let e : length (results ++ None ∷ []) ≡ 0 = ap length idle in omega (arith, e, length-append results (None ∷ [])))
unread_none (Failed f) results idle = absurd (let e : length (results ++ None ∷ []) ≡ 0 = ap length idle in omega (arith, e, length-append results (None ∷ [])))
unread_none Found results idle = refl

-- the last body that was handed out, which is out, isn't
pub less_fields : (phase : Phase) (bodies : List Bp) (results less : List (Option Answer)) (out : ℕ) → ReadFields phase bodies results out → results ≡ less ++ None ∷ []
    → (1 ≤ out) × ReadFields phase bodies less (out - 1)
less_fields phase bodies results less out h is =
    let counted = h.counted in
    let within = h.within in
    let most = h.few in
    let found : phase ≡ Found = unread_none phase less (subst (IsIdle phase) is h.idle) in
    let longer : length results ≡ length less + 1 = ap length is ∙ length-append less (None ∷ []) in
    let outs : outs_in results ≡ outs_in less + 1 = ap outs_in is ∙ outs_more less in (
      omega arith,
      record {
        idle = subst (λ p. IsIdle p less) (sym found) tt;
        within = omega arith;
        counted = omega arith;
        few = omega arith;
      },
    )

take_front : {X : Type 0} (xs ys : List X) → take (length xs) (xs ++ ys) ≡ xs
take_front [] ys = refl
take_front (x ∷ xs) ys = ap (λ zs. x ∷ zs) (take_front xs ys)

-- all but the last
pub but_last : {X : Type 0} (items now less : List X) (x : X) (n : ℕ) → items ≡ less ++ x ∷ [] → now ≡ take (n - 1) items → n ≡ length items → now ≡ less
but_last items now less x n is rest count =
    let long : length items ≡ length less + 1 = ap length is ∙ length-append less (x ∷ []) in
    let k : n - 1 ≡ length less = omega arith in
    rest ∙ ap (λ m. take m items) k ∙ ap (take (length less)) is ∙ take_front less (x ∷ [])

pub heard_fields : (phase : Phase) (bodies : List Bp) (results : List (Option Answer)) (out n : ℕ) (found : Answer) → ReadFields phase bodies results out → slice_get results n ≡ Some None
    → ReadFields phase bodies (set results n (Some found)) (out - 1)
heard_fields phase bodies results out n found h e =
    let counted = h.counted in
    let few = h.few in
    let within = h.within in
    let same : length (set results n (Some found)) ≡ length results = length-set results n (Some found) in
    let outs : outs_in (set results n (Some found)) + 1 ≡ outs_in results = outs_less n found results e in
    record {
      idle = subst (λ p. IsIdle p (set results n (Some found))) (sym (is_found phase results n h.idle e)) tt;
      within = omega arith;
      counted = omega arith;
      few = omega arith;
    }

pub some_out : (phase : Phase) (bodies : List Bp) (results : List (Option Answer)) (out n : ℕ) → ReadFields phase bodies results out → slice_get results n ≡ Some None → 1 ≤ out
some_out phase bodies results out n h e =
    let counted = h.counted in
    let outs : outs_in (set results n (Some (Ok []))) + 1 ≡ outs_in results = outs_less n (Ok []) results e in
    omega arith

-- ---- calls

more_slots : (phase : Phase) (results : List (Option Answer)) → phase ≡ Found → slots_in phase (results ++ None ∷ []) ≡ slots_in phase results ++ IsOut None ∷ []
more_slots phase results found = rw found (map-append body_slot results (None ∷ []))

pub more_left : (heads : List Head) (bp : Bp) (phase : Phase) (bodies : List Bp) (results : List (Option Answer)) → phase ≡ Found →
    left_of_read heads (record { bp = bp; phase = phase; bodies = bodies; results = results ++ None ∷ [] }) ≡ left_of_read heads (record { bp = bp; phase = phase; bodies = bodies; results = results })
more_left heads bp phase bodies results found =
    handed_left (slots_in phase results) (slots_in phase (results ++ None ∷ [])) (reading_in heads bp phase bodies) (more_slots phase results found)

pub heard_slots : (phase : Phase) (results : List (Option Answer)) (n : ℕ) (found : Answer) → phase ≡ Found → slots_in phase (set results n (Some found)) ≡ set (slots_in phase results) n (Heard (Got found))
heard_slots phase results n found is = rw is (map-set body_slot results n (Some found))

pub slot_out : (phase : Phase) (results : List (Option Answer)) (n : ℕ) → phase ≡ Found → slice_get results n ≡ Some None → slice_get (slots_in phase results) n ≡ Some (IsOut None)
slot_out phase results n is e = rw is (get_map body_slot results n None e)

-- ---- the next operation

abbrev body_read : Bp → Task
body_read bp = ReadCopies true (BodyOf bp) bp.size (places_of bp)

bodies_ask : (bps : List Bp) → AsksTasks (map body_read bps) (plan_bodies bps)
bodies_ask [] = tt
bodies_ask (bp ∷ bps) = (refl, λ v. asks_then (map body_read bps) (plan_bodies bps) _ (bodies_ask bps))

body_asked : (bodies : List Bp) (results : List (Option Answer)) (bp : Bp) → slice_get bodies (length results) ≡ Some bp → AsksBehindSlots (map body_slot results) (plan_after [] bodies) (body_read bp)
body_asked bodies results bp e =
    next_behind_slots (map body_read bodies) (map body_slot results) (body_read bp) (plan_after [] bodies)
    (asks_then (map body_read bodies) (plan_bodies bodies) (λ (b : Bodies). Ends (Got (bytes_or b))) (bodies_ask bodies))
    (ap (slice_get (map body_read bodies)) (length-map results body_slot) ∙ get_map body_read bodies (length results) bp e)

pub body_shown : (bp : Bp) (phase : Phase) (bodies : List Bp) (results : List (Option Answer)) (out : ℕ) (b : BodyRead) → ReadFields phase bodies results out → phase ≡ Found → (out ≡ 3 → ⊥)
    → slice_get bodies (length results) ≡ Some b.bp → length results ≡ b.n → ShowsRead (record { bp = bp; phase = phase; bodies = bodies; results = results }) (Body b)
body_shown bp phase bodies results out b h found room e number =
    let counted = h.counted in
    let few = h.few in
    let told : length (told_in (slots_in phase results)) ≡ outs_in results = ap (λ p. length (told_in (slots_in p results))) found in
    let within : length results < length bodies = within_get bodies (length results) b.bp e in (
      found,
      number,
      omega arith,
      omega (arith, room),
      λ heads. subst (λ p. AsksBehindSlots (slots_in p results) (reading_in heads bp p bodies) (body_read b.bp)) (sym found) (body_asked bodies results b.bp e),
    )

-- ---- the end

pub wait_shown : (bp : Bp) (phase : Phase) (bodies : List Bp) (results : List (Option Answer)) (out : ℕ) → ReadFields phase bodies results out → phase ≡ Found → 0 < out
    → slice_get bodies (length results) ≡ None → ShowsRead (record { bp = bp; phase = phase; bodies = bodies; results = results }) Wait
wait_shown bp phase bodies results out h found some e =
    let counted = h.counted in
    let within = h.within in
    let told : length (told_in (slots_in phase results)) ≡ outs_in results = ap (λ p. length (told_in (slots_in p results))) found in
    let past : length bodies ≤ length results = past_get bodies (length results) e in
    let all : length results ≡ length bodies = omega arith in
    (omega arith, inr (inr all))

empty : {X : Type 0} (xs : List X) → length xs ≡ 0 → xs ≡ []
empty [] e = refl
empty (x ∷ xs) e = absurd (omega arith)

bodies_answer : (bps : List Bp) (results : List (Option Answer)) → length results ≡ length bps → told_in (map body_slot results) ≡ [] → AnswerAll (map body_slot results) (plan_bodies bps) (bodies_in results)
bodies_answer [] [] l q = refl
bodies_answer [] (x ∷ results) l q = absurd (omega arith)
bodies_answer (bp ∷ bps) [] l q = absurd (omega arith)
bodies_answer (bp ∷ bps) (None ∷ results) l q = absurd (cc)
bodies_answer (bp ∷ bps) (Some found ∷ results) l q =
    answers_then (map body_slot results) (plan_bodies bps) (bodies_in results) (λ (others : Bodies). Ends (add_got found others)) (add_got found (bodies_in results))
    (bodies_answer bps results (omega arith) q) refl

found_left : (bodies : List Bp) (results : List (Option Answer)) → length results ≡ length bodies → told_in (map body_slot results) ≡ []
    → left_behind_slots (map body_slot results) (plan_after [] bodies) ≡ Ends (Got (bytes_or (bodies_in results)))
found_left bodies results l q =
    all_answered (map body_slot results) (plan_after [] bodies) (Got (bytes_or (bodies_in results)))
    (answers_then (map body_slot results) (plan_bodies bodies) (bodies_in results) (λ (b : Bodies). Ends (Got (bytes_or b))) (Got (bytes_or (bodies_in results))) (bodies_answer bodies results l q) refl)

pub end_shown : (bp : Bp) (phase : Phase) (bodies : List Bp) (results : List (Option Answer)) (out : ℕ) → ReadFields phase bodies results out → phase ≡ Found → out ≤ 0
    → slice_get bodies (length results) ≡ None → ShowsRead (record { bp = bp; phase = phase; bodies = bodies; results = results }) End
end_shown bp phase bodies results out h found none e =
    let counted = h.counted in
    let within = h.within in
    let past : length bodies ≤ length results = past_get bodies (length results) e in
    let all : length results ≡ length bodies = omega arith in
    let quiet : told_in (map body_slot results) ≡ [] = empty (told_in (map body_slot results)) (omega arith) in (
      ap (λ p. told_in (slots_in p results)) found ∙ quiet,
      λ heads. subst (λ p. left_behind_slots (slots_in p results) (reading_in heads bp p bodies) ≡ Ends (Got (found_in p results))) (sym found) (found_left bodies results all quiet),
    )

-- ---- bodies that are joined

add_then : (a : Answer) (b : Bodies) (x : Option Answer) → add_got a (then_got b x) ≡ then_got (add_got a b) x
add_then a b None = refl
add_then (Ok p) b (Some (Ok q)) = λ i. record { errors = b.errors; bytes = sym (append_assoc p b.bytes q) i }
add_then (Ok p) b (Some (Err e)) = refl
add_then (Err f) b (Some (Ok q)) = refl
add_then (Err f) b (Some (Err e)) = refl

pub bodies_more : (results : List (Option Answer)) (x : Option Answer) → bodies_in (results ++ x ∷ []) ≡ then_got (bodies_in results) x
bodies_more [] None = refl
bodies_more [] (Some (Ok bytes)) = λ i. record { errors = []; bytes = append-nil bytes i }
bodies_more [] (Some (Err e)) = refl
bodies_more (None ∷ results) x = bodies_more results x
bodies_more (Some found ∷ results) x = ap (add_got found) (bodies_more results x) ∙ add_then found (bodies_in results) x
