-- What the children of a request hand on, as their parent kept it.
use Rattle.std.proofs.Common.{◌≡◌, ℕ, List, [], ◌∷◌, ◌++◌, map, reverse, not, cond, Bool, true, false, Option, None, nat_le, refl, sym, ap, ◌∙◌}
use Rattle.std.specs.List.{list_all}
use Rattle.std.proofs.lemmas.Bool.{and_parts}
use Rattle.std.proofs.lemmas.List.{reverse-append, map-append}
use Rattle.zio_types.specs.declared.error.Errno.{Errno}
use Rattle.zio_types.specs.declared.request.Bits.{Bits}
use Rattle.zio_types.specs.Bits.{has_bits, joined_bits}
use Rattle.zio_blkptr.specs.declared.pointer.Bp.{Bp}
use Rattle.zio_gang.specs.Attempts.{Child, Own, Pending, Return, Terms, all_bits, bits_of, children_of, closed, finished_of, insert_children, judged_own}
use Rattle.zio_gang.specs.ByNumber.{insert_by, insert_if}
use Rattle.zio_script.specs.Requests.{kind_of}
use Rattle.zio_trace.specs.Tasks.{AttemptedBy, One, Value, attempted}
use Rattle.zio_children.specs.RequestKids.{FitKids, FitsState, bare_child, bits_by, error_by, has_ended, is_ended, kids_by, pointer_by, return_by, seen_return}
use Rattle.zio_frames.specs.Slots.{Heard, IsOut, Slot}
use Rattle.zio_children.specs.declared.kids.Kid.{Kid}
use Rattle.zio_children.specs.declared.kids.KidState.{KidState}
use Rattle.zio_children.specs.declared.kids.KidState.TheVariants.{Due, Out, Told, Ended}
use Rattle.zio_children.proofs.KidPlans.{not_out}

-- ---- the values of the attempts

seen_more : (returns : List Return) (r : Return) → map seen_return (returns ++ r ∷ []) ≡ map seen_return returns ++ seen_return r ∷ []
seen_more returns r = map-append seen_return returns (r ∷ [])

-- what is seen of an attempt that ended
seen_one : (k : Kid) (bits : Bits) (error : Option Errno) (pointer : Option Bp) (one : One) → one.return.bits ≡ bits → one.return.child ≡ record { number = k.number; error = error; pointer = pointer }
    → seen_return one.return ≡ record { under = None; bits = bits; child = record { number = k.number; error = error; pointer = pointer } }
seen_one k bits error pointer one b c = λ i. record { under = None; bits = b i; child = c i }

seen_state : (number : ℕ) (state : KidState) (v : Value) → has_ended state ≡ true → FitsState number state (Heard v)
    → seen_return (attempted v).return ≡ record { under = None; bits = bits_by state; child = record { number = number; error = error_by state; pointer = pointer_by state } }
seen_state number Due v e f = absurd f
seen_state number Out v e f = absurd (cc)
seen_state number (Told pointer) v e f = absurd (cc)
seen_state number (Ended bits error pointer) v e f =
    let is : v ≡ AttemptedBy f.0 = let same : Heard v ≡ Heard (AttemptedBy f.0) = f.1 in cc in
    ap (λ u. seen_return (attempted u).return) is ∙ (λ i. record { under = None; bits = f.2.same_bits i; child = f.2.same_child i })

pub returns_heard : (kids : List Kid) (slots : List Slot) → FitKids kids slots → list_all is_ended kids ≡ true → map seen_return (kids_by slots).returns ≡ reverse (map return_by kids)
returns_heard [] [] fit e = refl
returns_heard [] (s ∷ slots) fit e = absurd fit
returns_heard (k ∷ kids) [] fit e =
    let no : false ≡ true = ap has_ended (sym fit.0) ∙ (and_parts (is_ended k) (list_all is_ended kids) e).0 in absurd (cc)
returns_heard (k ∷ kids) (Heard v ∷ slots) fit e =
    let both = and_parts (is_ended k) (list_all is_ended kids) e in
    seen_more (kids_by slots).returns (attempted v).return
    ∙ ap (λ rs. rs ++ seen_return (attempted v).return ∷ []) (returns_heard kids slots fit.1 both.1)
    ∙ ap (λ r. reverse (map return_by kids) ++ r ∷ []) (seen_state k.number k.state v both.0 fit.0)
    ∙ sym (reverse-append (return_by k ∷ []) (map return_by kids))
returns_heard (k ∷ kids) (IsOut told ∷ slots) fit e = absurd (not_out k.number k.state told (and_parts (is_ended k) (list_all is_ended kids) e).0 fit.0)

-- ---- what is taken from returns

seen_bits : (rs : List Return) → bits_of rs ≡ bits_of (map seen_return rs)
seen_bits [] = refl
seen_bits (r ∷ rs) = ap (joined_bits r.bits) (seen_bits rs)

pub seen_children : (rs : List Return) → children_of rs ≡ children_of (map seen_return rs)
seen_children [] = refl
seen_children (r ∷ rs) = ap (λ cs. r.child ∷ cs) (seen_children rs)

seen_if : (b : Bool) (r : Return) (xs ys : List Return) → children_of xs ≡ children_of ys → children_of (cond b (r ∷ xs) xs) ≡ children_of (cond b (seen_return r ∷ ys) ys)
seen_if true r xs ys e = ap (λ cs. r.child ∷ cs) e
seen_if false r xs ys e = e

seen_finished : (rs : List Return) → children_of (finished_of rs) ≡ children_of (finished_of (map seen_return rs))
seen_finished [] = refl
seen_finished (r ∷ rs) = seen_if (not (has_bits r.bits)) r (finished_of rs) (finished_of (map seen_return rs)) (seen_finished rs)

pub judged_seen : (t : Terms) (p : Pending) (own : Own) (returns seen : List Return) (kept : List Child) → map seen_return returns ≡ seen → p.kept ≡ kept
    → judged_own t p returns own
    ≡ closed p own (all_bits (kind_of p.request.work) own.error p.request.canfail t.failmode (bits_of seen)) (insert_children (children_of (finished_of seen)) kept)
judged_seen t p own returns seen kept e k =
    ap (λ b. closed p own (all_bits (kind_of p.request.work) own.error p.request.canfail t.failmode b) (insert_children (children_of (finished_of returns)) p.kept)) (seen_bits returns ∙ ap bits_of e)
    ∙ ap (λ cs. closed p own (all_bits (kind_of p.request.work) own.error p.request.canfail t.failmode (bits_of seen)) (insert_children cs p.kept)) (seen_finished returns ∙ ap (λ rs. children_of (finished_of rs)) e)
    ∙ ap (λ ks. closed p own (all_bits (kind_of p.request.work) own.error p.request.canfail t.failmode (bits_of seen)) (insert_children (children_of (finished_of seen)) ks)) k

-- ---- pointers by number

bare_if : (b : Bool) (x y : Child) (ys inserted : List Child) → map bare_child inserted ≡ insert_by (λ (c : Child). c.number) (bare_child x) (map bare_child ys)
    → map bare_child (insert_if b x y ys inserted) ≡ insert_if b (bare_child x) (bare_child y) (map bare_child ys) (insert_by (λ (c : Child). c.number) (bare_child x) (map bare_child ys))
bare_if true x y ys inserted e = refl
bare_if false x y ys inserted e = ap (λ cs. bare_child y ∷ cs) e

bare_inserted : (x : Child) (ys : List Child) → map bare_child (insert_by (λ (c : Child). c.number) x ys) ≡ insert_by (λ (c : Child). c.number) (bare_child x) (map bare_child ys)
bare_inserted x [] = refl
bare_inserted x (y ∷ ys) = bare_if (nat_le x.number y.number) x y ys (insert_by (λ (c : Child). c.number) x ys) (bare_inserted x ys)

bare_merged : (new kept : List Child) → map bare_child (insert_children new kept) ≡ insert_children (map bare_child new) (map bare_child kept)
bare_merged [] kept = refl
bare_merged (x ∷ new) kept = bare_inserted x (insert_children new kept) ∙ ap (insert_by (λ (c : Child). c.number) (bare_child x)) (bare_merged new kept)

bare_pointers : (cs : List Child) → map (λ (c : Child). c.pointer) (map bare_child cs) ≡ map (λ (c : Child). c.pointer) cs
bare_pointers [] = refl
bare_pointers (c ∷ cs) = ap (λ ps. c.pointer ∷ ps) (bare_pointers cs)

-- children of the same numbers and pointers give the same pointers
pub same_pointers : (new other kept : List Child) → map bare_child new ≡ map bare_child other
    → map (λ (c : Child). c.pointer) (insert_children new kept) ≡ map (λ (c : Child). c.pointer) (insert_children other kept)
same_pointers new other kept e =
    sym (bare_pointers (insert_children new kept))
    ∙ ap (λ cs. map (λ (c : Child). c.pointer) cs) (bare_merged new kept ∙ ap (λ cs. insert_children cs (map bare_child kept)) e ∙ sym (bare_merged other kept))
    ∙ bare_pointers (insert_children other kept)
