-- The read of a block under way, once a copy is good: its repairs, and what is left by each call.
use Rattle.std.proofs.Common.{◌≡◌, ℕ, ◌+◌, ◌<◌, ◌≤◌, List, [], ◌∷◌, ◌++◌, length, map, slice_get, Bool, true, false, Option, Some, None, Ok, refl, sym, ap, ◌∙◌, subst, arith}
use Rattle.std.specs.Option.{IsSome, is_some}
use Rattle.std.proofs.lemmas.List.{map-append, map-set, length-map, nil_from_length}
use Rattle.zio_types.specs.declared.error.Errno.{Errno}
use Rattle.zio_types.specs.declared.place.Top.{Top}
use Rattle.zio_cksum.specs.Images.{Setting, Spot}
use Rattle.zio_trace.specs.Calls.{answered_at}
use Rattle.zio_trace.specs.CopyPrograms.{Program, found_by, store_each}
use Rattle.zio_trace.specs.Leaves.{LeafOp, Store, Answer, error_of}
use Rattle.zio_trace.specs.Programs.{Ends, Asks, ◌>>=◌}
use Rattle.zio_parts.specs.Answered.{AsksBehind, filled, out_before, out_count}
use Rattle.zio_parts.specs.Copies.{spot_at}
use Rattle.zio_parts.specs.CopyReads.{IsReady, IsReadyWith, Reading, ShowsRead, WaitsWith, handed_with, left_of_read, left_with, mend_of, outs_of, outs_with, pass_found, read_mended, repairs_if, repairs_of, wanted_of}
use Rattle.zio_parts.specs.CopyWrites.{any_out}
use Rattle.zio_parts.specs.declared.copies.Target.{Target}
use Rattle.zio_parts.specs.declared.copy_read.ReadStep.TheVariants.{Repair, Wait, End}
use Rattle.zio_parts.proofs.AnsweredLemmas.{AsksFirst, ReadsBy, filled_answered, filled_by, filled_more, get_map, next_behind, out_less, out_more, past_get, within_get}

-- ---- what repairs ask

-- the repairs of these copies, behind others with these errors
abbrev mending : Bool → List ℕ → List (Option Errno) → List Spot → Program Answer
mending retry bytes so_far spots = store_each retry bytes so_far spots >>= λ errors. Ends (Ok bytes)

abbrev stores_of : Bool → List ℕ → List Spot → List LeafOp
stores_of retry bytes spots = map (λ (spot : Spot). Store retry bytes spot) spots

mends_first : (retry : Bool) (bytes : List ℕ) (so_far : List (Option Errno)) (spots : List Spot) → AsksFirst (stores_of retry bytes spots) (mending retry bytes so_far spots)
mends_first retry bytes so_far [] = tt
mends_first retry bytes so_far (spot ∷ spots) = (refl, λ v. mends_first retry bytes (so_far ++ error_of v ∷ []) spots)

-- how they ended doesn't matter
mends_alike : (retry : Bool) (bytes : List ℕ) (a b : List (Option Errno)) (spots : List Spot) → mending retry bytes a spots ≡ mending retry bytes b spots
mends_alike retry bytes a b [] = refl
mends_alike retry bytes a b (spot ∷ spots) = λ i. Asks (Store retry bytes spot) (λ v. mends_alike retry bytes (a ++ error_of v ∷ []) (b ++ error_of v ∷ []) spots i)

abbrev ended : Answer → Answer
ended v = Ok []

mends_read : (retry : Bool) (bytes : List ℕ) (so_far : List (Option Errno)) (spots : List Spot) → ReadsBy ended (mending retry bytes so_far spots)
mends_read retry bytes so_far [] = tt
mends_read retry bytes so_far (spot ∷ spots) = (
  λ v. mends_alike retry bytes (so_far ++ error_of v ∷ []) (so_far ++ None ∷ []) spots,
  λ v. mends_read retry bytes (so_far ++ error_of v ∷ []) spots,
)

found_reads : (s : Setting) (x : Reading) (bytes : List ℕ) (repair : Bool) → ReadsBy ended (found_by repair x.retry (pass_found s.tops x bytes) bytes)
found_reads s x bytes true = mends_read x.retry bytes [] (repairs_of s.tops x)
found_reads s x bytes false = tt

-- ---- calls

mends_handed : (s : Setting) (good : List ℕ → Bool) (x : Reading) (bytes : List ℕ) →
    left_with s good (handed_with (Some bytes) x) (Some bytes) ≡ left_with s good x (Some bytes)
mends_handed s good x bytes =
    let p : Program Answer = found_by x.repair x.retry (pass_found s.tops x bytes) bytes in
    ap (λ as_. filled as_ p) (map-append mend_of x.mends (true ∷ [])) ∙ filled_more (map mend_of x.mends) p

pub repair_handed : (s : Setting) (good : List ℕ → Bool) (x : Reading) (bytes : List ℕ) → x.good ≡ Some bytes →
    left_of_read s good (handed_with (Some bytes) x) ≡ left_of_read s good x
repair_handed s good x bytes e =
    ap (left_with s good (handed_with (Some bytes) x)) e ∙ mends_handed s good x bytes ∙ ap (left_with s good x) (sym e)

pub repair_handed_out : (x : Reading) (bytes : List ℕ) → x.good ≡ Some bytes → out_count (outs_of (handed_with (Some bytes) x)) ≡ out_count (outs_of x) + 1
repair_handed_out x bytes e =
    ap (λ g. out_count (outs_with g (handed_with (Some bytes) x))) e
    ∙ ap out_count (map-append mend_of x.mends (true ∷ []))
    ∙ out_more (map mend_of x.mends)
    ∙ ap (λ g. out_count (outs_with g x) + 1) (sym e)

pub mended_left : (s : Setting) (good : List ℕ → Bool) (x : Reading) (n : ℕ) (answer : Answer) (bytes : List ℕ) → x.good ≡ Some bytes → slice_get x.mends n ≡ Some true →
    left_of_read s good (read_mended x n) ≡ answered_at (out_before n (outs_of x)) answer (left_of_read s good x)
mended_left s good x n answer bytes e is =
    let p : Program Answer = found_by x.repair x.retry (pass_found s.tops x bytes) bytes in
    let as_ : List (Option Answer) = map mend_of x.mends in
    ap (left_with s good (read_mended x n)) e
    ∙ ap (λ bs. filled bs p) (map-set mend_of x.mends n false)
    ∙ sym (filled_by ended n answer as_ p (found_reads s x bytes x.repair))
    ∙ sym (filled_answered n answer as_ p (get_map mend_of x.mends n true is))
    ∙ ap (λ g. answered_at (out_before n (outs_with g x)) answer (left_with s good x g)) (sym e)

pub mended_out : (x : Reading) (n : ℕ) (bytes : List ℕ) → x.good ≡ Some bytes → slice_get x.mends n ≡ Some true → out_count (outs_of (read_mended x n)) + 1 ≡ out_count (outs_of x)
mended_out x n bytes e is =
    ap (λ g. out_count (outs_with g (read_mended x n)) + 1) e
    ∙ ap (λ as_. out_count as_ + 1) (map-set mend_of x.mends n false)
    ∙ out_less n (Ok []) (map mend_of x.mends) (get_map mend_of x.mends n true is)
    ∙ ap (λ g. out_count (outs_with g x)) (sym e)

-- ---- steps

pub repair_shown : (s : Setting) (good : List ℕ → Bool) (x : Reading) (bytes : List ℕ) (target : Target) → x.good ≡ Some bytes → x.repair ≡ true →
    slice_get (repairs_of s.tops x) (length x.mends) ≡ Some (spot_at target) → ShowsRead s good x (Repair target)
repair_shown s good x bytes target e r is =
    let op : LeafOp = Store x.retry bytes (spot_at target) in
    let as_ : List (Option Answer) = map mend_of x.mends in
    let spots : List Spot = repairs_of s.tops x in
    let next : slice_get (stores_of x.retry bytes spots) (length as_) ≡ Some op =
    ap (λ n. slice_get (stores_of x.retry bytes spots) n) (length-map x.mends mend_of)
    ∙ get_map (λ (spot : Spot). Store x.retry bytes spot) spots (length x.mends) (spot_at target) is in
    let here : AsksBehind (out_count as_) (filled as_ (mending x.retry bytes [] spots)) op =
    next_behind (stores_of x.retry bytes spots) as_ op (mending x.retry bytes [] spots) (mends_first x.retry bytes [] spots) next in
    let mended : AsksBehind (out_count as_) (filled as_ (found_by x.repair x.retry (pass_found s.tops x bytes) bytes)) op =
    subst (λ b. AsksBehind (out_count as_) (filled as_ (found_by b x.retry (pass_found s.tops x bytes) bytes)) op) (sym r) here in
    (bytes, e, subst (λ g. AsksBehind (out_count (outs_with g x)) (left_with s good x g) op) (sym e) mended)

pub repair_allowed : (tops : List Top) (x : Reading) (bytes : List ℕ) (target : Target) → x.good ≡ Some bytes → x.repair ≡ true → length (repairs_of tops x) ≤ 12 →
    slice_get (repairs_of tops x) (length x.mends) ≡ Some (spot_at target) → IsReady x × IsSome x.good × (length x.mends < length (wanted_of tops x))
repair_allowed tops x bytes target e r few is =
    let below : length x.mends < length (repairs_of tops x) = within_get (repairs_of tops x) (length x.mends) (spot_at target) is in
    let room : length x.mends < 12 = omega arith in
    (subst (λ g. IsReadyWith g x) (sym e) room, ap is_some e, subst (λ b. length x.mends < length (repairs_if b (repairs_of tops x))) (sym r) below)

mends_out : (mends : List Bool) → any_out mends ≡ true → 0 < out_count (map mend_of mends)
mends_out [] e = absurd (cc)
mends_out (true ∷ mends) e = omega arith
mends_out (false ∷ mends) e = mends_out mends e

mends_quiet : (mends : List Bool) → any_out mends ≡ false → out_count (map mend_of mends) ≡ 0
mends_quiet [] e = refl
mends_quiet (true ∷ mends) e = absurd (cc)
mends_quiet (false ∷ mends) e = mends_quiet mends e

mends_done : (retry : Bool) (bytes : List ℕ) (so_far : List (Option Errno)) (spots : List Spot) (mends : List Bool) → any_out mends ≡ false → length mends ≡ length spots →
    filled (map mend_of mends) (mending retry bytes so_far spots) ≡ Ends (Ok bytes)
mends_done retry bytes so_far [] [] e h = refl
mends_done retry bytes so_far [] (m ∷ mends) e h = absurd (omega arith)
mends_done retry bytes so_far (spot ∷ spots) [] e h = absurd (omega arith)
mends_done retry bytes so_far (spot ∷ spots) (true ∷ mends) e h = absurd (cc)
mends_done retry bytes so_far (spot ∷ spots) (false ∷ mends) e h = mends_done retry bytes (so_far ++ None ∷ []) spots mends e (omega arith)

-- none is left to hand out
all_mended : (tops : List Top) (x : Reading) → x.repair ≡ true → slice_get (repairs_of tops x) (length x.mends) ≡ None → length x.mends ≤ length (wanted_of tops x) →
    length x.mends ≡ length (repairs_of tops x)
all_mended tops x r none within =
    let l : length x.mends ≤ length (repairs_of tops x) = subst (λ b. length x.mends ≤ length (repairs_if b (repairs_of tops x))) r within in
    let g : length (repairs_of tops x) ≤ length x.mends = past_get (repairs_of tops x) (length x.mends) none in
    omega arith

pub mends_wait : (s : Setting) (good : List ℕ → Bool) (x : Reading) (bytes : List ℕ) → x.good ≡ Some bytes → x.repair ≡ true →
    slice_get (repairs_of s.tops x) (length x.mends) ≡ None → length x.mends ≤ length (wanted_of s.tops x) → any_out x.mends ≡ true → ShowsRead s good x Wait
mends_wait s good x bytes e r none within some =
    let all : length x.mends ≡ length (repairs_of s.tops x) = all_mended s.tops x r none within in
    let wanted : length x.mends ≡ length (wanted_of s.tops x) = subst (λ b. length x.mends ≡ length (repairs_if b (repairs_of s.tops x))) (sym r) all in
    subst (λ g. WaitsWith g s.tops x) (sym e) (mends_out x.mends some, wanted)

pub mends_ended : (s : Setting) (good : List ℕ → Bool) (x : Reading) (bytes : List ℕ) → x.good ≡ Some bytes → x.repair ≡ true →
    slice_get (repairs_of s.tops x) (length x.mends) ≡ None → length x.mends ≤ length (wanted_of s.tops x) → any_out x.mends ≡ false → ShowsRead s good x (End (Ok tt))
mends_ended s good x bytes e r none within quiet =
    let all : length x.mends ≡ length (repairs_of s.tops x) = all_mended s.tops x r none within in
    let ends : left_with s good x (Some bytes) ≡ Ends (Ok bytes) =
    ap (λ b. filled (map mend_of x.mends) (found_by b x.retry (pass_found s.tops x bytes) bytes)) r
    ∙ mends_done x.retry bytes [] (repairs_of s.tops x) x.mends quiet all in
    (bytes, e, ap (λ g. out_count (outs_with g x)) e ∙ mends_quiet x.mends quiet, ap (left_with s good x) e ∙ ends)

pub unrepaired : (s : Setting) (good : List ℕ → Bool) (x : Reading) (bytes : List ℕ) → x.good ≡ Some bytes → x.repair ≡ false →
    length x.mends ≤ length (wanted_of s.tops x) → ShowsRead s good x (End (Ok tt))
unrepaired s good x bytes e r within =
    let l : length x.mends ≤ 0 = subst (λ b. length x.mends ≤ length (repairs_if b (repairs_of s.tops x))) r within in
    let none : x.mends ≡ [] = nil_from_length x.mends (omega arith) in
    let ends : left_with s good x (Some bytes) ≡ Ends (Ok bytes) =
    ap (λ ms. filled (map mend_of ms) (found_by x.repair x.retry (pass_found s.tops x bytes) bytes)) none
    ∙ ap (λ b. found_by b x.retry (pass_found s.tops x bytes) bytes) r in
    (bytes, e, ap (λ g. out_count (outs_with g x)) e ∙ ap (λ ms. out_count (map mend_of ms)) none, ap (left_with s good x) e ∙ ends)
