-- Meeting completions one after another, without tables: each is due in its round, comes once and after its children.
use Rattle.std.proofs.Common.{◌≡◌, ◌<◌, ◌≤◌, ℕ, List, [], ◌∷◌, ◌++◌, length, set, cond, map, refl, sym, ap, subst, ◌∙◌, arith, Bool, Option, Some, None, true, false, inl, inr, ⊎_elim, ◌⊎◌, ◌==◌, ◌&&◌, ◌||◌, Contains}
use Rattle.std.specs.Prelude.{fold, not, slice_get}
use Rattle.std.specs.List.{AllByRecursion, list_any}
use Rattle.std.proofs.lemmas.Bool.{and_left, and_parts, cases_eq, cases_lt, cond-false, cond-true, eq-eqb, eqb-true, ne_eqb, or_from, true≢false, both_ways}
use Rattle.std.proofs.lemmas.List.{append_assoc, append-nil, length-set}
use Rattle.std.proofs.lemmas.List.Folds.{list_any-append}
use Rattle.std.proofs.lemmas.Option.{slice_get_past}
use Rattle.zio_types.specs.declared.journal.Completion.{Completion}
use Rattle.zio_cksum.proofs.AllLemmas.{all_append, all_weaker}
use Rattle.zio_script.specs.declared.script.Item.{Item}
use Rattle.zio_gang.specs.Journals.{CompleteOnce}
use Rattle.zio_audit.specs.declared.marks.Mark.{Mark}
use Rattle.zio_audit.specs.declared.marks.Mark.TheVariants.{Never, Due, Met}
use Rattle.zio_audit.specs.Marks.{AreParentsOf, due_after, due_in, is_due_with, is_met, may_meet, meet_each, parent_met, parent_of}
use Rattle.zio_audit.proofs.MarkLemmas.{get_set_same, get_set_other}
use Rattle.zio_audit.proofs.Members.{contained_cases, contains_first, contains_later, none_contained}

-- the number stands among these
abbrev pub is_among : List ℕ → ℕ → Bool
is_among done n = list_any (λ m. m == n) done

-- the mark of a request where these were met
abbrev pub mark_of : List Completion → List ℕ → ℕ → Mark
mark_of due done n = cond (is_among done n) Met (due_in due n)

-- the parent is among these
abbrev pub parent_done : List ℕ → Option ℕ → Bool
parent_done done None = false
parent_done done (Some p) = is_among done p

-- the next may be met behind these
abbrev pub is_good : List Completion → List Item → List ℕ → Completion → Bool
is_good due items done c = is_due_with c.round (Some (mark_of due done c.request)) && not (parent_done done (parent_of items c.request))

-- and all that come
abbrev pub are_good : List Completion → List Item → List ℕ → List Completion → Bool
are_good due items done [] = true
are_good due items done (c ∷ cs) = is_good due items done c && are_good due items (done ++ c.request ∷ []) cs

abbrev pub requests_in : List Completion → List ℕ
requests_in cs = map (λ (c : Completion). c.request) cs

-- ---- what is due

-- none of the others changes a mark
none_due : (n : ℕ) (mark : Mark) (due : List Completion) → AllByRecursion (λ (c : Completion). (c.request == n) ≡ false) due → fold (due_after n) mark due ≡ mark
none_due n mark [] none = refl
none_due n mark (c ∷ due) none =
    ap (λ m. fold (due_after n) m due) (cond-false (c.request == n) (Due c.round) mark none.0) ∙ none_due n mark due none.1

same_request : (a b n : ℕ) → a ≡ n → (a == b) ≡ false → (b == n) ≡ false
same_request a b n same other = ne_eqb b n (λ e. both_ways (a == b) other (eq-eqb a b (same ∙ sym e)))

due_from : (mark : Mark) (due : List Completion) (c : Completion) → CompleteOnce due → Contains due c → fold (due_after c.request) mark due ≡ Due c.round
due_from mark [] c once there = absurd (none_contained c there)
due_from mark (d ∷ due) c once there =
    ⊎_elim
    (λ (e : d ≡ c).
    let same : d.request ≡ c.request = ap (λ (x : Completion). x.request) e in
    ap (λ m. fold (due_after c.request) m due) (cond-true (d.request == c.request) (Due d.round) mark (eq-eqb d.request c.request same))
    ∙ none_due c.request (Due d.round) due
    (all_weaker (λ (other : Completion). (d.request == other.request) ≡ false) (λ (other : Completion). (other.request == c.request) ≡ false) due
    (λ other apart. same_request d.request other.request c.request same apart) once.0)
    ∙ ap (λ (x : Completion). Due x.round) e)
    (λ (later : Contains due c). due_from (due_after c.request mark d) due c once.1 later)
    (contained_cases d due c there)

-- a completion that is due has its mark
pub due_is : (due : List Completion) (c : Completion) → CompleteOnce due → Contains due c → due_in due c.request ≡ Due c.round
due_is due c once there = due_from Never due c once there

-- where a request is due, that is for one of the completions
pub record IsDueFor (due : List Completion) (n round : ℕ) : Type 0 where
  pub completion : Completion
  pub there : Contains due completion
  pub request : completion.request ≡ n
  pub round_is : completion.round ≡ round

same_round : (a b : ℕ) → Due a ≡ Due b → a ≡ b
same_round a b e = cc

taken_mark : (n round : ℕ) (t : Bool) (c : Completion) (mark : Mark) → (c.request == n) ≡ t → cond t (Due c.round) mark ≡ Due round → (mark ≡ Due round) ⊎ ((c.request ≡ n) × (c.round ≡ round))
taken_mark n round true c mark is e = inr (eqb-true c.request n is, same_round c.round round e)
taken_mark n round false c mark is e = inl e

due_by : (n round : ℕ) (mark : Mark) (due : List Completion) → fold (due_after n) mark due ≡ Due round → (mark ≡ Due round) ⊎ IsDueFor due n round
due_by n round mark [] e = inl e
due_by n round mark (c ∷ due) e =
    ⊎_elim
    (λ now.
    ⊎_elim (λ early. inl early)
    (λ here. inr (record { completion = c; there = contains_first c due; request = here.0; round_is = here.1 }))
    (taken_mark n round (c.request == n) c mark refl now))
    (λ (later : IsDueFor due n round). inr (record {
      completion = later.completion;
      there = contains_later c due later.completion later.there;
      request = later.request;
      round_is = later.round_is;
    }))
    (due_by n round (due_after n mark c) due e)

never_due : (round : ℕ) → Never ≡ Due round → ⊥
never_due round e = cc

pub due_for : (due : List Completion) (n round : ℕ) → due_in due n ≡ Due round → IsDueFor due n round
due_for due n round e = ⊎_elim (λ never. absurd (never_due round never)) (λ here. here) (due_by n round Never due e)

never_met : (n : ℕ) (mark : Mark) (due : List Completion) → is_met (Some mark) ≡ false → is_met (Some (fold (due_after n) mark due)) ≡ false
never_met n mark [] e = e
never_met n mark (c ∷ due) e = never_met n (due_after n mark c) due (go (c.request == n))
  where
    go : (t : Bool) → is_met (Some (cond t (Due c.round) mark)) ≡ false
    go true = refl
    go false = e

-- ---- with the tables

-- the table's marks where these were met
pub record HasMet (due : List Completion) (len : ℕ) (done : List ℕ) (marks : List Mark) : Type 0 where
  pub long : length marks ≡ len
  pub each : (n : ℕ) → n < len → slice_get marks n ≡ Some (mark_of due done n)
  pub below : AllByRecursion (λ n. n < len) done

not_among : (len n : ℕ) (done : List ℕ) → AllByRecursion (λ m. m < len) done → len ≤ n → is_among done n ≡ false
not_among len n [] below past = refl
not_among len n (m ∷ done) below past =
    let small : m < len = below.0 in
    or_from (m == n) (is_among done n) (ne_eqb m n (λ e. absurd (omega arith))) (not_among len n done below.1 past)

-- behind the table nothing is due
past_due : (due : List Completion) (len n : ℕ) → AllByRecursion (λ (c : Completion). c.request < len) due → len ≤ n → due_in due n ≡ Never
past_due due len n below past =
    none_due n Never due
    (all_weaker (λ (c : Completion). c.request < len) (λ (c : Completion). (c.request == n) ≡ false) due (λ c small. ne_eqb c.request n (λ e. absurd (omega arith))) below)

met_with : (t : Bool) (mark : Mark) → is_met (Some mark) ≡ false → is_met (Some (cond t Met mark)) ≡ t
met_with true mark e = refl
met_with false mark e = e

met_is : (due : List Completion) (len : ℕ) (done : List ℕ) (marks : List Mark) (p : ℕ) → HasMet due len done marks → is_met (slice_get marks p) ≡ is_among done p
met_is due len done marks p has =
    ⊎_elim
    (λ small. ap is_met (has.each p small) ∙ met_with (is_among done p) (due_in due p) (never_met p Never due refl))
    (λ past.
    let long : length marks ≡ len = has.long in
    ap is_met (slice_get_past marks p (omega arith)) ∙ sym (not_among len p done has.below past))
    (cases_lt p len)

parent_is : (due : List Completion) (len : ℕ) (done : List ℕ) (marks : List Mark) (parent : Option ℕ) → HasMet due len done marks → parent_met marks (Some parent) ≡ parent_done done parent
parent_is due len done marks None has = refl
parent_is due len done marks (Some p) has = met_is due len done marks p has

may_is : (due : List Completion) (items : List Item) (len : ℕ) (done : List ℕ) (marks : List Mark) (parents : List (Option ℕ)) (c : Completion)
    → AllByRecursion (λ (d : Completion). d.request < len) due → AreParentsOf items parents len → HasMet due len done marks
    → may_meet marks parents c.round c.request ≡ is_good due items done c
may_is due items len done marks parents c below known has =
    ⊎_elim
    (λ small.
    ap (λ mark. is_due_with c.round mark && not (parent_met marks (slice_get parents c.request))) (has.each c.request small)
    ∙ ap (λ parent. is_due_with c.round (Some (mark_of due done c.request)) && not (parent_met marks parent)) (known c.request small)
    ∙ ap (λ met. is_due_with c.round (Some (mark_of due done c.request)) && not met) (parent_is due len done marks (parent_of items c.request) has))
    (λ past.
    let long : length marks ≡ len = has.long in
    let none = ap (is_due_with c.round) (slice_get_past marks c.request (omega arith)) in
    let never : is_due_with c.round (Some (mark_of due done c.request)) ≡ false =
    ap (λ t. is_due_with c.round (Some (cond t Met (due_in due c.request)))) (not_among len c.request done has.below past)
    ∙ ap (λ mark. is_due_with c.round (Some mark)) (past_due due len c.request below past) in
    and_left (is_due_with c.round (slice_get marks c.request)) (not (parent_met marks (slice_get parents c.request))) none
    ∙ sym (and_left (is_due_with c.round (Some (mark_of due done c.request))) (not (parent_done done (parent_of items c.request))) never))
    (cases_lt c.request len)

-- what is good is in the table
good_small : (due : List Completion) (items : List Item) (len : ℕ) (done : List ℕ) (marks : List Mark) (c : Completion)
    → AllByRecursion (λ (d : Completion). d.request < len) due → HasMet due len done marks → is_good due items done c ≡ true → c.request < len
good_small due items len done marks c below has good =
    ⊎_elim (λ small. small)
    (λ past.
    let never : is_due_with c.round (Some (mark_of due done c.request)) ≡ false =
    ap (λ t. is_due_with c.round (Some (cond t Met (due_in due c.request)))) (not_among len c.request done has.below past)
    ∙ ap (λ mark. is_due_with c.round (Some mark)) (past_due due len c.request below past) in
    absurd (both_ways (is_due_with c.round (Some (mark_of due done c.request))) never (and_parts _ _ good).0))
    (cases_lt c.request len)

among_push : (done : List ℕ) (n m : ℕ) → is_among (done ++ n ∷ []) m ≡ (is_among done m || (n == m))
among_push done n m = list_any-append (λ k. k == m) done (n ∷ []) ∙ ap (λ t. is_among done m || t) (or_false (n == m))
  where
    or_false : (t : Bool) → (t || false) ≡ t
    or_false true = refl
    or_false false = refl

or_true : (t u : Bool) → u ≡ true → (t || u) ≡ true
or_true true u e = refl
or_true false u e = e

or_same : (t u : Bool) → u ≡ false → (t || u) ≡ t
or_same true u e = refl
or_same false u e = e

-- one more was met
has_met : (due : List Completion) (len n : ℕ) (done : List ℕ) (marks : List Mark) → n < len → HasMet due len done marks → HasMet due len (done ++ n ∷ []) (set marks n Met)
has_met due len n done marks small has = record {
  long = length-set marks n Met ∙ has.long;
  each = λ m within.
      let long : length marks ≡ len = has.long in
      ⊎_elim
      (λ (e : n ≡ m).
      let at : slice_get (set marks n Met) n ≡ Some Met = get_set_same marks n Met (omega arith) in
      subst (λ k. slice_get (set marks n Met) k ≡ Some Met) e at
      ∙ ap Some (sym (cond-true (is_among (done ++ n ∷ []) m) Met (due_in due m) (among_push done n m ∙ or_true (is_among done m) (n == m) (eq-eqb n m e)))))
      (λ other.
      get_set_other marks n m Met (λ e. other (sym e)) (omega arith) ∙ has.each m within
      ∙ ap (λ t. Some (cond t Met (due_in due m))) (sym (among_push done n m ∙ or_same (is_among done m) (n == m) (ne_eqb n m other))))
      (cases_eq n m);
  below = all_append (λ m. m < len) done (n ∷ []) has.below (small, tt);
}

-- what the tables come to
pub record IsMetAs (due : List Completion) (len : ℕ) (done : List ℕ) (parents : List (Option ℕ)) (marks : List Mark) (cs : List Completion) (good : Bool) : Type 0 where
  pub on : good ≡ true → (next : List Mark) × (meet_each parents marks cs ≡ Some next) × HasMet due len (done ++ requests_in cs) next
  pub off : good ≡ false → meet_each parents marks cs ≡ None

met_next : (due : List Completion) (len : ℕ) (done : List ℕ) (parents : List (Option ℕ)) (marks : List Mark) (c : Completion) (cs : List Completion) (may rest : Bool)
    → may_meet marks parents c.round c.request ≡ may → (may ≡ true → IsMetAs due len (done ++ c.request ∷ []) parents (set marks c.request Met) cs rest)
    → IsMetAs due len done parents marks (c ∷ cs) (may && rest)
met_next due len done parents marks c cs true rest may then = record {
  on = λ good.
      let k = (then refl).on good in (
        k.0,
        cond-true (may_meet marks parents c.round c.request) (meet_each parents (set marks c.request Met) cs) None may ∙ k.1,
        subst (λ ns. HasMet due len ns k.0) (append_assoc done (c.request ∷ []) (requests_in cs)) k.2,
      );
  off = λ bad. cond-true (may_meet marks parents c.round c.request) (meet_each parents (set marks c.request Met) cs) None may ∙ (then refl).off bad;
}
met_next due len done parents marks c cs false rest may then = record {
  on = λ good. absurd (true≢false (sym good));
  off = λ bad. cond-false (may_meet marks parents c.round c.request) (meet_each parents (set marks c.request Met) cs) None may;
}

pub meets : (due : List Completion) (items : List Item) (len : ℕ) (done : List ℕ) (marks : List Mark) (parents : List (Option ℕ)) (cs : List Completion)
    → AllByRecursion (λ (d : Completion). d.request < len) due → AreParentsOf items parents len → HasMet due len done marks
    → IsMetAs due len done parents marks cs (are_good due items done cs)
meets due items len done marks parents [] below known has = record {
  on = λ good. (marks, refl, subst (λ ns. HasMet due len ns marks) (sym (append-nil done)) has);
  off = λ bad. absurd (true≢false bad);
}
meets due items len done marks parents (c ∷ cs) below known has =
    met_next due len done parents marks c cs (is_good due items done c) (are_good due items (done ++ c.request ∷ []) cs) (may_is due items len done marks parents c below known has)
    (λ good. meets due items len (done ++ c.request ∷ []) (set marks c.request Met) parents cs below known
    (has_met due len c.request done marks (good_small due items len done marks c below has good) has))
