-- What a request is judged to, and the definition.
use Rattle.std.proofs.Common.{◌≡◌, ℕ, ◌+◌, ◌≤◌, List, [], ◌∷◌, ◌++◌, map, filter, reverse, Bool, true, false, not, cond, nat_le, refl, sym, ap, ◌∙◌, subst, arith}
use Rattle.std.proofs.lemmas.List.{map-append, reverse-append, append-nil}
use Rattle.std.proofs.lemmas.List.Elements.{filter-append}
use Rattle.zio_types.specs.declared.request.Bits.{Bits}
use Rattle.zio_types.specs.Choices.{Ask}
use Rattle.zio_types.specs.Errors.{worst_error, worst_of}
use Rattle.zio_script.specs.declared.script.Failmode.{Failmode}
use Rattle.zio_script.specs.Requests.{kind_of}
use Rattle.zio_cksum.specs.Images.{Images}
use Rattle.zio_gang.specs.Attempts.{Child, Own, Return, Terms, all_bits, bits_of, children_of, closed_if, ended_with, finished_of, goes_again, has_bits, insert_children, judged_own}
use Rattle.zio_gang.specs.ByNumber.{insert_by, insert_if}
use Rattle.zio_course.specs.Runners.{AreRisingFrom}
use Rattle.zio_plain.specs.declared.judge.Judged.{Judged}
use Rattle.zio_plain.specs.declared.owns.OwnEnd.{OwnEnd}
use Rattle.zio_plain.specs.declared.waiting.Handed.{Handed}
use Rattle.zio_plain.specs.declared.waiting.Kept.{Kept}
use Rattle.zio_plain.specs.declared.waiting.Waiting.{Waiting}
use Rattle.zio_plain.specs.Judgments.{IsJudged, children_handed, done_in, own_of}
use Rattle.zio_plain.specs.Waits.{child_of, merged, numbers_in, pending_of, return_of}

abbrev goes_on : Handed → Bool
goes_on h = not (has_bits h.bits)

pub map_reverse : {X Y : Type 0} (f : X → Y) (xs : List X) → map f (reverse xs) ≡ reverse (map f xs)
map_reverse f [] = refl
map_reverse f (x ∷ xs) =
    ap (map f) (reverse-append (x ∷ []) xs) ∙ map-append f (reverse xs) (x ∷ []) ∙ ap (λ ys. ys ++ f x ∷ []) (map_reverse f xs)
    ∙ sym (reverse-append (f x ∷ []) (map f xs))

one_filtered : {X : Type 0} (b : Bool) (x : X) (ys : List X) → reverse ys ++ cond b (x ∷ []) [] ≡ reverse (cond b (x ∷ ys) ys)
one_filtered true x ys = sym (reverse-append (x ∷ []) ys)
one_filtered false x ys = append-nil (reverse ys)

pub filter_reverse : {X : Type 0} (p : X → Bool) (xs : List X) → filter p (reverse xs) ≡ reverse (filter p xs)
filter_reverse p [] = refl
filter_reverse p (x ∷ xs) =
    ap (filter p) (reverse-append (x ∷ []) xs) ∙ filter-append p (reverse xs) (x ∷ [])
    ∙ ap (λ ys. ys ++ cond (p x) (x ∷ []) []) (filter_reverse p xs) ∙ one_filtered (p x) x (filter p xs)

-- ---- numbers

lower : (m n : ℕ) (ks : List ℕ) → m ≤ n → AreRisingFrom n ks → AreRisingFrom m ks
lower m n [] le h = tt
lower m n (k ∷ ks) le h = (omega (arith, h.0), h.1)

-- some of what was handed on
rising_if : (b : Bool) (least : ℕ) (h : Handed) (hs : List Handed) → least ≤ h.child.number → AreRisingFrom (h.child.number + 1) (numbers_in (children_handed hs)) → AreRisingFrom least (numbers_in (children_handed (cond b (h ∷ hs) hs)))
rising_if true least h hs le rising = (le, rising)
rising_if false least h hs le rising = lower least (h.child.number + 1) (numbers_in (children_handed hs)) (omega arith) rising

pub rising_done : (least : ℕ) (hs : List Handed) → AreRisingFrom least (numbers_in (children_handed hs)) → AreRisingFrom least (numbers_in (children_handed (done_in hs)))
rising_done least [] h = tt
rising_done least (x ∷ hs) h = rising_if (goes_on x) least x (done_in hs) h.0 (rising_done (x.child.number + 1) hs h.1)

-- ---- children as the definition sees them

insert_seen_if : (b : Bool) (x y : Kept) (ys zs : List Kept) → map child_of (insert_if b x y ys zs) ≡ insert_if b (child_of x) (child_of y) (map child_of ys) (map child_of zs)
insert_seen_if true x y ys zs = refl
insert_seen_if false x y ys zs = refl

insert_seen : (x : Kept) (ys : List Kept) → map child_of (insert_by (λ (k : Kept). k.number) x ys) ≡ insert_by (λ (c : Child). c.number) (child_of x) (map child_of ys)
insert_seen x [] = refl
insert_seen x (y ∷ ys) =
    insert_seen_if (nat_le x.number y.number) x y ys (insert_by (λ (k : Kept). k.number) x ys)
    ∙ ap (insert_if (nat_le x.number y.number) (child_of x) (child_of y) (map child_of ys)) (insert_seen x ys)

pub merge_seen : (xs ys : List Kept) → map child_of (merged xs ys) ≡ insert_children (map child_of xs) (map child_of ys)
merge_seen [] ys = refl
merge_seen (x ∷ xs) ys =
    insert_seen x (merged xs ys) ∙ ap (insert_by (λ (c : Child). c.number) (child_of x)) (merge_seen xs ys)

pub children_seen : (hs : List Handed) → map child_of (children_handed hs) ≡ children_of (map return_of hs)
children_seen [] = refl
children_seen (h ∷ hs) = ap (λ cs. child_of h.child ∷ cs) (children_seen hs)

done_if : (b : Bool) (h : Handed) (hs : List Handed) (rs : List Return) → map return_of hs ≡ rs → map return_of (cond b (h ∷ hs) hs) ≡ cond b (return_of h ∷ rs) rs
done_if true h hs rs e = ap (λ qs. return_of h ∷ qs) e
done_if false h hs rs e = e

done_seen : (hs : List Handed) → map return_of (done_in hs) ≡ finished_of (map return_of hs)
done_seen [] = refl
done_seen (h ∷ hs) = done_if (goes_on h) h (done_in hs) (finished_of (map return_of hs)) (done_seen hs)

errors_seen : (ks : List Kept) → map (λ (k : Kept). k.error) ks ≡ map (λ (c : Child). c.error) (map child_of ks)
errors_seen [] = refl
errors_seen (k ∷ ks) = ap (λ es. k.error ∷ es) (errors_seen ks)

-- the children that are kept
kept_seen : (hs : List Handed) (ks kept : List Kept) → kept ≡ merged (reverse (children_handed (done_in hs))) ks
    → map child_of kept ≡ insert_children (children_of (finished_of (map return_of (reverse hs)))) (map child_of ks)
kept_seen hs ks kept is =
    let turned : reverse (children_handed (done_in hs)) ≡ children_handed (done_in (reverse hs)) =
    sym (map_reverse (λ (h : Handed). h.child) (done_in hs)) ∙ ap children_handed (sym (filter_reverse goes_on hs)) in
    ap (map child_of) is ∙ merge_seen (reverse (children_handed (done_in hs))) ks
    ∙ ap (λ cs. insert_children cs (map child_of ks)) (ap (map child_of) turned ∙ children_seen (done_in (reverse hs)) ∙ ap children_of (done_seen (reverse hs)))

-- ---- judged

pub judged_again : (judged : Judged) (failmode : Failmode) (w : Waiting) (own : OwnEnd) (hs : List Handed) (bits : Bits) (kept : List Kept)
    → bits ≡ all_bits (kind_of w.request.work) own.error w.request.canfail failmode (bits_of (map return_of (reverse hs)))
    → kept ≡ merged (reverse (children_handed (done_in hs))) w.kept → has_bits bits ≡ true
    → ((asks : List Ask) (images : Images) → IsJudged judged (goes_again (pending_of w) (own_of own asks images) bits (map child_of kept)))
    → (t : Terms) (asks : List Ask) (images : Images) → t.failmode ≡ failmode → IsJudged judged (judged_own t (pending_of w) (map return_of (reverse hs)) (own_of own asks images))
judged_again judged failmode w own hs bits kept bits_are kept_are again h t asks images mode =
    let all : Bits = all_bits (kind_of w.request.work) own.error w.request.canfail t.failmode (bits_of (map return_of (reverse hs))) in
    let same : bits ≡ all = bits_are ∙ ap (λ m. all_bits (kind_of w.request.work) own.error w.request.canfail m (bits_of (map return_of (reverse hs)))) (sym mode) in
    let p = pending_of w in
    let o : Own = own_of own asks images in
    let ks : List Child = insert_children (children_of (finished_of (map return_of (reverse hs)))) (map child_of w.kept) in
    subst (IsJudged judged)
    (ap (λ b. goes_again p o b (map child_of kept)) same ∙ ap (goes_again p o all) (kept_seen hs w.kept kept kept_are)
    ∙ ap (λ b. closed_if b p o all ks) (sym again ∙ ap has_bits same))
    (h asks images)

pub judged_ended : (judged : Judged) (failmode : Failmode) (w : Waiting) (own : OwnEnd) (hs : List Handed) (bits : Bits) (kept : List Kept)
    → bits ≡ all_bits (kind_of w.request.work) own.error w.request.canfail failmode (bits_of (map return_of (reverse hs)))
    → kept ≡ merged (reverse (children_handed (done_in hs))) w.kept → has_bits bits ≡ false
    → ((asks : List Ask) (images : Images) → IsJudged judged (ended_with (pending_of w) (own_of own asks images) (worst_error own.error (worst_of (map (λ (k : Kept). k.error) kept)))))
    → (t : Terms) (asks : List Ask) (images : Images) → t.failmode ≡ failmode → IsJudged judged (judged_own t (pending_of w) (map return_of (reverse hs)) (own_of own asks images))
judged_ended judged failmode w own hs bits kept bits_are kept_are done h t asks images mode =
    let all : Bits = all_bits (kind_of w.request.work) own.error w.request.canfail t.failmode (bits_of (map return_of (reverse hs))) in
    let same : bits ≡ all = bits_are ∙ ap (λ m. all_bits (kind_of w.request.work) own.error w.request.canfail m (bits_of (map return_of (reverse hs)))) (sym mode) in
    let p = pending_of w in
    let o : Own = own_of own asks images in
    let ks : List Child = insert_children (children_of (finished_of (map return_of (reverse hs)))) (map child_of w.kept) in
    subst (IsJudged judged)
    (ap (λ es. ended_with p o (worst_error own.error (worst_of es))) (errors_seen kept ∙ ap (map (λ (c : Child). c.error)) (kept_seen hs w.kept kept kept_are))
    ∙ ap (λ b. closed_if b p o all ks) (sym done ∙ ap has_bits same))
    (h asks images)
