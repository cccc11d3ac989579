-- Children that finished: their worst error, and those of an attempt at their places among those that were kept.
use Rattle.std.proofs.Common.{◌≡◌, ℕ, ◌+◌, ◌<◌, ◌≤◌, List, [], ◌∷◌, ◌++◌, map, filter, not, reverse, take, get_or, length, cond, Bool, true, false, Option, None, nat_le, refl, sym, ap, subst, ◌∙◌, arith}
use Rattle.std.proofs.lemmas.List.{take_more, reverse-append, map-append}
use Rattle.std.proofs.lemmas.List.Elements.{filter-append}
use Rattle.zio_types.specs.declared.error.Errno.{Errno}
use Rattle.zio_types.specs.Bits.{has_bits}
use Rattle.zio_types.specs.Errors.{worst_error, worst_of}
use Rattle.zio_types.proofs.ErrorLemmas.{rank-worst_error, same_rank, worst_error_assoc, worst_error_comm}
use Rattle.zio_gang.specs.Attempts.{Child, Return, children_of, finished_of, insert_children}
use Rattle.zio_gang.specs.ByNumber.{insert_by, insert_if}
use Rattle.zio_children.specs.KeptChildren.{merged, numbers_in}
use Rattle.zio_children.specs.RequestKids.{RiseFrom, bits_by, child_of, done_error, error_by, kept_as, numbers_of, return_by}
use Rattle.zio_children.specs.declared.kept.KeptChild.{KeptChild}
use Rattle.zio_children.specs.declared.kids.Kid.{Kid}

-- ---- errors

worst_of-append : (es : List (Option Errno)) (e : Option Errno) → worst_of (es ++ e ∷ []) ≡ worst_error (worst_of es) e
worst_of-append [] e = worst_error_comm e None
worst_of-append (f ∷ es) e = ap (worst_error f) (worst_of-append es e) ∙ worst_error_assoc f (worst_of es) e

-- the worst error with each child
pub worst_step : (children : List KeptChild) (i : ℕ) (d : KeptChild) (error after : Option Errno) → i < length children
    → error ≡ worst_of (map (λ (k : KeptChild). k.error) (take i children)) → after ≡ worst_error error (get_or children i d).error
    → after ≡ worst_of (map (λ (k : KeptChild). k.error) (take (i + 1) children))
worst_step children i d error after h before one =
    one ∙ ap (λ e. worst_error e (get_or children i d).error) before
    ∙ sym (worst_of-append (map (λ (k : KeptChild). k.error) (take i children)) (get_or children i d).error)
    ∙ ap worst_of (sym (map-append (λ (k : KeptChild). k.error) (take i children) (get_or children i d ∷ [])))
    ∙ ap (λ ks. worst_of (map (λ (k : KeptChild). k.error) ks)) (sym (take_more children i d h))

pub worst_more : {X : Type 0} (f : X → Option Errno) (xs : List X) (i : ℕ) (d : X) (error after : Option Errno) → i < length xs
    → error ≡ worst_of (map f (take i xs)) → after ≡ worst_error error (f (get_or xs i d)) → after ≡ worst_of (map f (take (i + 1) xs))
worst_more f xs i d error after h before one =
    one ∙ ap (λ e. worst_error e (f (get_or xs i d))) before
    ∙ sym (worst_of-append (map f (take i xs)) (f (get_or xs i d)))
    ∙ ap worst_of (sym (map-append f (take i xs) (get_or xs i d ∷ [])))
    ∙ ap (λ ks. worst_of (map f ks)) (sym (take_more xs i d h))

abbrev errors_of : List Child → List (Option Errno)
errors_of cs = map (λ (c : Child). c.error) cs

worst_swap : (a b c : Option Errno) → worst_error a (worst_error b c) ≡ worst_error b (worst_error a c)
worst_swap a b c = worst_error_assoc a b c ∙ ap (λ e. worst_error e c) (worst_error_comm a b) ∙ sym (worst_error_assoc b a c)

worst_if : (b : Bool) (x y : Child) (ys inserted : List Child) → worst_of (errors_of inserted) ≡ worst_error x.error (worst_of (errors_of ys))
    → worst_of (errors_of (insert_if b x y ys inserted)) ≡ worst_error x.error (worst_of (errors_of (y ∷ ys)))
worst_if true x y ys inserted e = refl
worst_if false x y ys inserted e = ap (worst_error y.error) e ∙ worst_swap y.error x.error (worst_of (errors_of ys))

worst_inserted : (x : Child) (ys : List Child) → worst_of (errors_of (insert_by (λ (c : Child). c.number) x ys)) ≡ worst_error x.error (worst_of (errors_of ys))
worst_inserted x [] = refl
worst_inserted x (y ∷ ys) = worst_if (nat_le x.number y.number) x y ys (insert_by (λ (c : Child). c.number) x ys) (worst_inserted x ys)

worst_none : (error : Option Errno) → worst_error error None ≡ error
worst_none error = same_rank _ _ (omega (arith, rank-worst_error error None))

worst_merged : (new kept : List Child) → worst_of (errors_of (insert_children new kept)) ≡ worst_error (worst_of (errors_of new)) (worst_of (errors_of kept))
worst_merged [] kept = sym (worst_error_comm None (worst_of (errors_of kept)) ∙ worst_none (worst_of (errors_of kept)))
worst_merged (x ∷ new) kept =
    worst_inserted x (insert_children new kept) ∙ ap (worst_error x.error) (worst_merged new kept) ∙ worst_error_assoc x.error (worst_of (errors_of new)) (worst_of (errors_of kept))

worst_reversed : (es : List (Option Errno)) → worst_of (reverse es) ≡ worst_of es
worst_reversed [] = refl
worst_reversed (e ∷ es) =
    ap worst_of (reverse-append (e ∷ []) es) ∙ worst_of-append (reverse es) e ∙ worst_error_comm (worst_of (reverse es)) e ∙ ap (worst_error e) (worst_reversed es)

-- ---- children by number

seen_if : (b : Bool) (x y : KeptChild) (ys inserted : List KeptChild) → map child_of inserted ≡ insert_by (λ (c : Child). c.number) (child_of x) (map child_of ys)
    → map child_of (insert_if b x y ys inserted) ≡ insert_if b (child_of x) (child_of y) (map child_of ys) (insert_by (λ (c : Child). c.number) (child_of x) (map child_of ys))
seen_if true x y ys inserted e = refl
seen_if false x y ys inserted e = ap (λ cs. child_of y ∷ cs) e

seen_inserted : (x : KeptChild) (ys : List KeptChild) → map child_of (insert_by (λ (c : KeptChild). c.number) x ys) ≡ insert_by (λ (c : Child). c.number) (child_of x) (map child_of ys)
seen_inserted x [] = refl
seen_inserted x (y ∷ ys) = seen_if (nat_le x.number y.number) x y ys (insert_by (λ (c : KeptChild). c.number) x ys) (seen_inserted x ys)

pub seen_merged : (new kept : List KeptChild) → map child_of (merged new kept) ≡ insert_children (map child_of new) (map child_of kept)
seen_merged [] kept = refl
seen_merged (x ∷ new) kept = seen_inserted x (merged new kept) ∙ ap (insert_by (λ (c : Child). c.number) (child_of x)) (seen_merged new kept)

-- ---- the children of an attempt

abbrev pub goes_not_again : Kid → Bool
goes_not_again k = not (has_bits (bits_by k.state))

last_child : (rs : List Return) (r : Return) → children_of (rs ++ r ∷ []) ≡ children_of rs ++ r.child ∷ []
last_child rs r = map-append (λ (x : Return). x.child) rs (r ∷ [])

last_seen : (ks : List KeptChild) (k : KeptChild) → map child_of (ks ++ k ∷ []) ≡ map child_of ks ++ child_of k ∷ []
last_seen ks k = map-append child_of ks (k ∷ [])

pub kids_seen : (kids : List Kid) → children_of (reverse (map return_by kids)) ≡ map child_of (reverse (map kept_as kids))
kids_seen [] = refl
kids_seen (k ∷ kids) =
    ap children_of (reverse-append (return_by k ∷ []) (map return_by kids))
    ∙ last_child (reverse (map return_by kids)) (return_by k)
    ∙ ap (λ cs. cs ++ child_of (kept_as k) ∷ []) (kids_seen kids)
    ∙ sym (last_seen (reverse (map kept_as kids)) (kept_as k))
    ∙ ap (map child_of) (sym (reverse-append (kept_as k ∷ []) (map kept_as kids)))

done_if : (b : Bool) (k : Kid) (rs : List Return) (kids : List Kid) → children_of rs ≡ map child_of (reverse (map kept_as kids))
    → children_of (rs ++ cond b (return_by k ∷ []) []) ≡ map child_of (reverse (map kept_as (cond b (k ∷ kids) kids)))
done_if true k rs kids e =
    last_child rs (return_by k)
    ∙ ap (λ cs. cs ++ child_of (kept_as k) ∷ []) e
    ∙ sym (last_seen (reverse (map kept_as kids)) (kept_as k))
    ∙ ap (map child_of) (sym (reverse-append (kept_as k ∷ []) (map kept_as kids)))
done_if false k rs kids e = ap children_of (nothing_more rs) ∙ e
  where
    nothing_more : (rs : List Return) → rs ++ [] ≡ rs
    nothing_more [] = refl
    nothing_more (r ∷ rs) = ap (λ xs. r ∷ xs) (nothing_more rs)

pub finished_seen : (kids : List Kid) → children_of (finished_of (reverse (map return_by kids))) ≡ map child_of (reverse (map kept_as (filter goes_not_again kids)))
finished_seen [] = refl
finished_seen (k ∷ kids) =
    ap (λ rs. children_of (finished_of rs)) (reverse-append (return_by k ∷ []) (map return_by kids))
    ∙ ap children_of (filter-append (λ (r : Return). not (has_bits r.bits)) (reverse (map return_by kids)) (return_by k ∷ []))
    ∙ done_if (goes_not_again k) k (finished_of (reverse (map return_by kids))) (filter goes_not_again kids) (finished_seen kids)

-- those that go again have no error
done_errors : (kids : List Kid) → worst_of (map done_error kids) ≡ worst_of (map (λ (k : Kid). error_by k.state) (filter goes_not_again kids))
done_errors [] = refl
done_errors (k ∷ kids) = one_if (has_bits (bits_by k.state)) k (filter goes_not_again kids) (worst_of (map done_error kids)) (done_errors kids)
  where
    one_if : (b : Bool) (k : Kid) (ks : List Kid) (w : Option Errno) → w ≡ worst_of (map (λ (x : Kid). error_by x.state) ks)
        → worst_error (cond b None (error_by k.state)) w ≡ worst_of (map (λ (x : Kid). error_by x.state) (cond (not b) (k ∷ ks) ks))
    one_if true k ks w e = worst_error_comm None w ∙ worst_none w ∙ e
    one_if false k ks w e = ap (worst_error (error_by k.state)) e

-- the worst error of all that finished
pub worst_finished : (kids : List Kid) (kept : List KeptChild)
    → worst_error (worst_of (map done_error kids)) (worst_of (map (λ (c : KeptChild). c.error) kept))
    ≡ worst_of (errors_of (insert_children (children_of (finished_of (reverse (map return_by kids)))) (map child_of kept)))
worst_finished kids kept =
    ap (λ e. worst_error e (worst_of (map (λ (c : KeptChild). c.error) kept))) (done_errors kids) ∙
    ap (λ e. worst_error e (worst_of (map (λ (c : KeptChild). c.error) kept))) (sym (worst_reversed (map (λ (k : Kid). error_by k.state) (filter goes_not_again kids))) ∙ ap worst_of (errors_back (filter goes_not_again kids)))
    ∙ ap (λ e. worst_error (worst_of (errors_of (map child_of (reverse (map kept_as (filter goes_not_again kids)))))) (worst_of e)) (errors_seen kept)
    ∙ ap (λ cs. worst_error (worst_of (errors_of cs)) (worst_of (errors_of (map child_of kept)))) (sym (finished_seen kids))
    ∙ sym (worst_merged (children_of (finished_of (reverse (map return_by kids)))) (map child_of kept))
  where
    errors_seen : (ks : List KeptChild) → map (λ (c : KeptChild). c.error) ks ≡ errors_of (map child_of ks)
    errors_seen [] = refl
    errors_seen (k ∷ ks) = ap (λ es. k.error ∷ es) (errors_seen ks)

    errors_back : (ks : List Kid) → reverse (map (λ (k : Kid). error_by k.state) ks) ≡ errors_of (map child_of (reverse (map kept_as ks)))
    errors_back [] = refl
    errors_back (k ∷ ks) =
        reverse-append (error_by k.state ∷ []) (map (λ (x : Kid). error_by x.state) ks)
        ∙ ap (λ es. es ++ error_by k.state ∷ []) (errors_back ks)
        ∙ sym (map-append (λ (c : Child). c.error) (map child_of (reverse (map kept_as ks))) (child_of (kept_as k) ∷ []))
        ∙ ap errors_of (sym (last_seen (reverse (map kept_as ks)) (kept_as k)) ∙ ap (map child_of) (sym (reverse-append (kept_as k ∷ []) (map kept_as ks))))

pub pointers_seen : (ks : List KeptChild) → map (λ (c : KeptChild). c.pointer) ks ≡ map (λ (c : Child). c.pointer) (map child_of ks)
pointers_seen [] = refl
pointers_seen (k ∷ ks) = ap (λ ps. k.pointer ∷ ps) (pointers_seen ks)

pub pointers_end : (kids : List Kid) (kept : List KeptChild) → map (λ (c : KeptChild). c.pointer) (merged (reverse (map kept_as kids)) kept)
    ≡ map (λ (c : Child). c.pointer) (insert_children (children_of (reverse (map return_by kids))) (map child_of kept))
pointers_end kids kept =
    pointers_seen (merged (reverse (map kept_as kids)) kept)
    ∙ ap (map (λ (c : Child). c.pointer)) (seen_merged (reverse (map kept_as kids)) kept ∙ ap (λ cs. insert_children cs (map child_of kept)) (sym (kids_seen kids)))

pub kept_end : (kids : List Kid) (kept : List KeptChild) → map child_of (merged (reverse (map kept_as (filter goes_not_again kids))) kept)
    ≡ insert_children (children_of (finished_of (reverse (map return_by kids)))) (map child_of kept)
kept_end kids kept = seen_merged (reverse (map kept_as (filter goes_not_again kids))) kept ∙ ap (λ cs. insert_children cs (map child_of kept)) (sym (finished_seen kids))

-- ---- in order

pub rising_kids : (kids : List Kid) → RiseFrom 0 (numbers_of kids) → RiseFrom 0 (numbers_in (map kept_as kids))
rising_kids kids r = subst (RiseFrom 0) (numbers_kept kids) r
  where
    numbers_kept : (ks : List Kid) → numbers_of ks ≡ numbers_in (map kept_as ks)
    numbers_kept [] = refl
    numbers_kept (k ∷ ks) = ap (λ ns. k.number ∷ ns) (numbers_kept ks)

rise_lower : (m n : ℕ) (ns : List ℕ) → m ≤ n → RiseFrom n ns → RiseFrom m ns
rise_lower m n [] l r = tt
rise_lower m n (x ∷ ns) l r = (omega (arith, r.0), r.1)

rising_if : (b : Bool) (least : ℕ) (k : Kid) (ks : List Kid) → least ≤ k.number → RiseFrom (k.number + 1) (numbers_in (map kept_as ks)) → RiseFrom least (numbers_in (map kept_as (cond b (k ∷ ks) ks)))
rising_if true least k ks l r = (l, r)
rising_if false least k ks l r = rise_lower least (k.number + 1) (numbers_in (map kept_as ks)) (omega arith) r

pub rising_finished : (least : ℕ) (kids : List Kid) → RiseFrom least (numbers_of kids) → RiseFrom least (numbers_in (map kept_as (filter goes_not_again kids)))
rising_finished least [] r = tt
rising_finished least (k ∷ kids) r = rising_if (goes_not_again k) least k (filter goes_not_again kids) r.0 (rising_finished (k.number + 1) kids r.1)
