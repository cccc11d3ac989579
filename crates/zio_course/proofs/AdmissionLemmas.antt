-- What admission finds in a batch with one request more.
use Rattle.std.proofs.Common.{◌≡◌, ℕ, zero, suc, ◌<◌, ◌≤◌, List, [], ◌∷◌, ◌++◌, map, length, Bool, true, false, ◌&&◌, ◌||◌, not, cond, Option, Some, None, eqb, eqb-true, refl, sym, ap, ◌∙◌, subst, get_or, arith}
use Rattle.std.proofs.Math.ListN.{set}
use Rattle.std.specs.List.{AllByRecursion, list_any}
use Rattle.std.specs.Map.{lookup}
use Rattle.std.specs.Option.{option_map}
use Rattle.zio_script.specs.declared.script.Item.{Item}
use Rattle.zio_script.specs.declared.script.Item.TheVariants.{Request as RequestLine, Go, Clear}
use Rattle.zio_script.specs.declared.script.Request.{Request}
use Rattle.zio_script.specs.Accepted.{AreRising}
use Rattle.zio_script.specs.Requests.{changes_pool, makes_block, name_of, needs_block, requests_of}
use Rattle.zio_gang.specs.Rounds.{passes, put_before, put_if, trees_of, with_request, with_requests}
use Rattle.zio_course.specs.declared.admission.Rules.{Rules}
use Rattle.zio_course.specs.Admissions.{IsAdmission, IsComing, IsComingLine, StandsOnce, with_line, has_number, joined_at, joined_rules, rules_in, rules_of, slot_if, slot_of}
use Rattle.zio_course.proofs.ForestLemmas.{Below, Good, all_then, below_apart, good_less, good_push, good_put}

-- ---- either

or_back : (a b : Bool) → a || b ≡ b || a
or_back true true = refl
or_back true false = refl
or_back false true = refl
or_back false false = refl

or_then : (a b c : Bool) → a || (b || c) ≡ (a || b) || c
or_then true b c = refl
or_then false b c = refl

or_none : (a : Bool) → a || false ≡ a
or_none true = refl
or_none false = refl

true_not_false : {X : Type 0} → true ≡ false → X
true_not_false e = absurd (let f = e in cc)

-- ---- a request right before its parent

put_none_if : (b : Bool) (p : ℕ) (r q : Request) (qs placed : List Request) → (b || has_number p qs) ≡ false → (has_number p qs ≡ false → placed ≡ qs)
    → put_if b r q qs placed ≡ q ∷ qs
put_none_if true p r q qs placed h later = true_not_false h
put_none_if false p r q qs placed h later = ap (λ (xs : List Request). q ∷ xs) (later h)

put_none : (p : ℕ) (r : Request) (tree : List Request) → has_number p tree ≡ false → put_before p r tree ≡ tree
put_none p r [] h = refl
put_none p r (q ∷ qs) h = put_none_if (eqb q.number p) p r q qs (put_before p r qs) h (put_none p r qs)

puts_none : (p : ℕ) (r : Request) (trees : List (List Request)) → AllByRecursion (λ t. has_number p t ≡ false) trees → map (put_before p r) trees ≡ trees
puts_none p r [] h = refl
puts_none p r (t ∷ trees) h =
    ap (λ (x : List Request). x ∷ map (put_before p r) trees) (put_none p r t h.0) ∙ ap (λ (xs : List (List Request)). t ∷ xs) (puts_none p r trees h.1)

any_put_if : (P : Request → Bool) (b : Bool) (p : ℕ) (r q : Request) (qs placed : List Request) → (b || has_number p qs) ≡ true
    → (has_number p qs ≡ true → list_any P placed ≡ list_any P qs || P r) → list_any P (put_if b r q qs placed) ≡ (P q || list_any P qs) || P r
any_put_if P true p r q qs placed h later = or_back (P r) (P q || list_any P qs)
any_put_if P false p r q qs placed h later =
    ap (λ (b : Bool). P q || b) (later h) ∙ or_then (P q) (list_any P qs) (P r)

any_put : (P : Request → Bool) (p : ℕ) (r : Request) (tree : List Request) → has_number p tree ≡ true
    → list_any P (put_before p r tree) ≡ list_any P tree || P r
any_put P p r [] h = true_not_false (sym h)
any_put P p r (q ∷ qs) h = any_put_if P (eqb q.number p) p r q qs (put_before p r qs) h (any_put P p r qs)

-- ---- what is found

same_rules : (a b c d e f : Bool) → a ≡ d → b ≡ e → c ≡ f
    → (let x : Rules = record { blocked = a; lacks = b; takes = c } in x) ≡ (let y : Rules = record { blocked = d; lacks = e; takes = f } in y)
same_rules a b c d e f p q r = cc

module _ (waits : Bool) (awaited bound : List ℕ → Bool) where
  rules_put : (p : ℕ) (r : Request) (tree : List Request) → has_number p tree ≡ true
      → rules_in waits awaited bound (put_before p r tree) ≡ joined_rules (rules_in waits awaited bound tree) (rules_of waits awaited bound r.work)
  rules_put p r tree h =
      same_rules _ _ _ _ _ _
      (any_put (λ (q : Request). waits && (changes_pool q.work || passes awaited (name_of q.work))) p r tree h)
      (any_put (λ (q : Request). needs_block q.work && not (passes bound (name_of q.work))) p r tree h)
      (any_put (λ (q : Request). makes_block q.work && passes bound (name_of q.work)) p r tree h)

  rules_one : (r : Request) → rules_in waits awaited bound (r ∷ []) ≡ rules_of waits awaited bound r.work
  rules_one r =
      same_rules _ _ _ _ _ _
      (or_none (waits && (changes_pool r.work || passes awaited (name_of r.work))))
      (or_none (needs_block r.work && not (passes bound (name_of r.work))))
      (or_none (makes_block r.work && passes bound (name_of r.work)))

  rules_pushed : (r : Request) (trees : List (List Request))
      → map (rules_in waits awaited bound) trees ++ rules_of waits awaited bound r.work ∷ [] ≡ map (rules_in waits awaited bound) (trees ++ (r ∷ []) ∷ [])
  rules_pushed r [] = ap (λ (x : Rules). x ∷ []) (sym (rules_one r))
  rules_pushed r (t ∷ trees) = ap (λ (xs : List Rules). rules_in waits awaited bound t ∷ xs) (rules_pushed r trees)

  joined_if : (b : Bool) (found : Option ℕ) (p : ℕ) (r : Request) (t : List Request) (trees : List (List Request)) (slot : ℕ)
      → has_number p t ≡ b → slot_of trees p ≡ found → slot_if b found ≡ Some slot
      → (has_number p t ≡ true → AllByRecursion (λ t. has_number p t ≡ false) trees)
      → ((s : ℕ) → slot_of trees p ≡ Some s → map (rules_in waits awaited bound) (map (put_before p r) trees)
      ≡ joined_at (map (rules_in waits awaited bound) trees) s (rules_of waits awaited bound r.work))
      → map (rules_in waits awaited bound) (map (put_before p r) (t ∷ trees))
      ≡ joined_at (map (rules_in waits awaited bound) (t ∷ trees)) slot (rules_of waits awaited bound r.work)
  joined_if true found p r t trees slot is at e once later =
      let zero_is : zero ≡ slot = cc in
      ap (λ (x : Rules). x ∷ map (rules_in waits awaited bound) (map (put_before p r) trees)) (rules_put p r t is)
      ∙ (ap (λ (xs : List (List Request)). joined_rules (rules_in waits awaited bound t) (rules_of waits awaited bound r.work) ∷ map (rules_in waits awaited bound) xs) (puts_none p r trees (once is))
      ∙ ap (λ (n : ℕ). joined_at (map (rules_in waits awaited bound) (t ∷ trees)) n (rules_of waits awaited bound r.work)) zero_is)
  joined_if false None p r t trees slot is at e once later = absurd (let f = e in cc)
  joined_if false (Some s) p r t trees slot is at e once later =
      let suc_is : suc s ≡ slot = cc in
      ap (λ (x : List Request). rules_in waits awaited bound x ∷ map (rules_in waits awaited bound) (map (put_before p r) trees)) (put_none p r t is)
      ∙ (ap (λ (xs : List Rules). rules_in waits awaited bound t ∷ xs) (later s at)
      ∙ ap (λ (n : ℕ). joined_at (map (rules_in waits awaited bound) (t ∷ trees)) n (rules_of waits awaited bound r.work)) suc_is)

  rules_joined : (p : ℕ) (r : Request) (trees : List (List Request)) (slot : ℕ) → StandsOnce p trees → slot_of trees p ≡ Some slot
      → map (rules_in waits awaited bound) (map (put_before p r) trees)
      ≡ joined_at (map (rules_in waits awaited bound) trees) slot (rules_of waits awaited bound r.work)
  rules_joined p r [] slot once e = absurd (let f = e in cc)
  rules_joined p r (t ∷ trees) slot once e =
      joined_if (has_number p t) (slot_of trees p) p r t trees slot refl refl e once.0 (λ s at. rules_joined p r trees s once.1 at)

-- ---- which tree

none_found_if : (b : Bool) (found : Option ℕ) → slot_if b found ≡ None → (b ≡ false) × (found ≡ None)
none_found_if true found e = absurd (let f = e in cc)
none_found_if false None e = (refl, refl)
none_found_if false (Some s) e = absurd (let f = e in cc)

none_found : (p : ℕ) (trees : List (List Request)) → slot_of trees p ≡ None → AllByRecursion (λ t. has_number p t ≡ false) trees
none_found p [] e = tt
none_found p (t ∷ trees) e =
    let both = none_found_if (has_number p t) (slot_of trees p) e in
    (both.0, none_found p trees both.1)

number_put_if : (b : Bool) (n p : ℕ) (r q : Request) (qs placed : List Request) → eqb q.number p ≡ b
    → has_number n placed ≡ has_number n qs || (has_number p qs && eqb r.number n)
    → has_number n (put_if b r q qs placed) ≡ (eqb q.number n || has_number n qs) || ((b || has_number p qs) && eqb r.number n)
number_put_if true n p r q qs placed is later = or_back (eqb r.number n) (eqb q.number n || has_number n qs)
number_put_if false n p r q qs placed is later =
    ap (λ (b : Bool). eqb q.number n || b) later ∙ or_then (eqb q.number n) (has_number n qs) (has_number p qs && eqb r.number n)

number_put : (n p : ℕ) (r : Request) (tree : List Request) → has_number n (put_before p r tree) ≡ has_number n tree || (has_number p tree && eqb r.number n)
number_put n p r [] = refl
number_put n p r (q ∷ qs) = number_put_if (eqb q.number p) n p r q qs (put_before p r qs) refl (number_put n p r qs)

-- the request's tree is its parent's, and each other request's is the one that it was
slot_put_if : (b c : Bool) (found : Option ℕ) (n p : ℕ) (r : Request) (t : List Request) (trees : List (List Request)) (slot : ℕ)
    → has_number p t ≡ b → eqb r.number n ≡ c → slot_of trees p ≡ found → slot_if b found ≡ Some slot
    → has_number r.number t ≡ false → AllByRecursion (λ tree. has_number r.number tree ≡ false) trees
    → (has_number p t ≡ true → AllByRecursion (λ t. has_number p t ≡ false) trees)
    → ((s : ℕ) → slot_of trees p ≡ Some s → slot_of (map (put_before p r) trees) n ≡ cond (eqb r.number n) (Some s) (slot_of trees n))
    → slot_if (has_number n (put_before p r t)) (slot_of (map (put_before p r) trees) n) ≡ cond c (Some slot) (slot_if (has_number n t) (slot_of trees n))
slot_put_if true true found n p r t trees slot is same at e fresh freshes once later =
    let zero_is : zero ≡ slot = cc in
    let has : has_number n (put_before p r t) ≡ true =
    number_put n p r t ∙ (ap (λ (b : Bool). has_number n t || (b && eqb r.number n)) is ∙ (ap (λ (b : Bool). has_number n t || b) same ∙ or_back (has_number n t) true)) in
    ap (λ (b : Bool). slot_if b (slot_of (map (put_before p r) trees) n)) has ∙ ap Some zero_is
slot_put_if true false found n p r t trees slot is same at e fresh freshes once later =
    let has : has_number n (put_before p r t) ≡ has_number n t =
    number_put n p r t ∙ (ap (λ (b : Bool). has_number n t || (b && eqb r.number n)) is ∙ (ap (λ (b : Bool). has_number n t || b) same ∙ or_none (has_number n t))) in
    ap (λ (b : Bool). slot_if b (slot_of (map (put_before p r) trees) n)) has
    ∙ ap (λ (xs : List (List Request)). slot_if (has_number n t) (slot_of xs n)) (puts_none p r trees (once is))
slot_put_if false c None n p r t trees slot is same at e fresh freshes once later = absurd (let f = e in cc)
slot_put_if false true (Some s) n p r t trees slot is same at e fresh freshes once later =
    let suc_is : suc s ≡ slot = cc in
    let here : r.number ≡ n = eqb-true r.number n same in
    let no : has_number n t ≡ false = subst (λ (m : ℕ). has_number m t ≡ false) here fresh in
    ap (λ (x : List Request). slot_if (has_number n x) (slot_of (map (put_before p r) trees) n)) (put_none p r t is)
    ∙ (ap (λ (b : Bool). slot_if b (slot_of (map (put_before p r) trees) n)) no
    ∙ (ap (λ (o : Option ℕ). option_map suc o) (later s at ∙ ap (λ (b : Bool). cond b (Some s) (slot_of trees n)) same) ∙ ap Some suc_is))
slot_put_if false false (Some s) n p r t trees slot is same at e fresh freshes once later =
    ap (λ (x : List Request). slot_if (has_number n x) (slot_of (map (put_before p r) trees) n)) (put_none p r t is)
    ∙ ap (λ (o : Option ℕ). slot_if (has_number n t) o) (later s at ∙ ap (λ (b : Bool). cond b (Some s) (slot_of trees n)) same)

slot_put : (n p : ℕ) (r : Request) (trees : List (List Request)) (slot : ℕ) → StandsOnce p trees → slot_of trees p ≡ Some slot
    → AllByRecursion (λ tree. has_number r.number tree ≡ false) trees
    → slot_of (map (put_before p r) trees) n ≡ cond (eqb r.number n) (Some slot) (slot_of trees n)
slot_put n p r [] slot once e fresh = absurd (let f = e in cc)
slot_put n p r (t ∷ trees) slot once e fresh =
    slot_put_if (has_number p t) (eqb r.number n) (slot_of trees p) n p r t trees slot refl refl refl e fresh.0 fresh.1 once.0
    (λ s at. slot_put n p r trees s once.1 at fresh.1)

slot_push_if : (b c : Bool) (n : ℕ) (r : Request) (t : List Request) (trees : List (List Request)) → eqb r.number n ≡ c → has_number n t ≡ b
    → has_number r.number t ≡ false
    → slot_of (trees ++ (r ∷ []) ∷ []) n ≡ cond c (Some (length trees)) (slot_of trees n)
    → slot_if b (slot_of (trees ++ (r ∷ []) ∷ []) n) ≡ cond c (Some (suc (length trees))) (slot_if b (slot_of trees n))
slot_push_if true true n r t trees same is fresh later =
    let here : r.number ≡ n = eqb-true r.number n same in
    true_not_false (sym is ∙ subst (λ (m : ℕ). has_number m t ≡ false) here fresh)
slot_push_if true false n r t trees same is fresh later = refl
slot_push_if false true n r t trees same is fresh later = ap (λ (o : Option ℕ). option_map suc o) later
slot_push_if false false n r t trees same is fresh later = ap (λ (o : Option ℕ). option_map suc o) later

slot_push_none : (b : Bool) → slot_if (b || false) None ≡ cond b (Some zero) None
slot_push_none true = refl
slot_push_none false = refl

slot_push : (n : ℕ) (r : Request) (trees : List (List Request)) → AllByRecursion (λ tree. has_number r.number tree ≡ false) trees
    → slot_of (trees ++ (r ∷ []) ∷ []) n ≡ cond (eqb r.number n) (Some (length trees)) (slot_of trees n)
slot_push n r [] fresh = slot_push_none (eqb r.number n)
slot_push n r (t ∷ trees) fresh =
    slot_push_if (has_number n t) (eqb r.number n) n r t trees refl refl fresh.0 (slot_push n r trees fresh.1)

-- ---- one request more

module _ (waits : Bool) (awaited bound : List ℕ → Bool) (r : Request) (trees : List (List Request)) (slots more : List (ℕ × ℕ)) (rules after : List Rules) where
  -- a root has a tree of its own
  pub admission_root : IsComing r trees → IsAdmission waits awaited bound trees slots rules
      → ((n : ℕ) → lookup (eqb n) more ≡ cond (eqb r.number n) (Some (length trees)) (lookup (eqb n) slots))
      → after ≡ rules ++ rules_of waits awaited bound r.work ∷ []
      → IsAdmission waits awaited bound (with_request None r trees) more after
  admission_root coming is noted found = record {
    slots_are = λ n. noted n ∙ (ap (λ (o : Option ℕ). cond (eqb r.number n) (Some (length trees)) o) (is.slots_are n) ∙ sym (slot_push n r trees coming.fresh));
    rules_are = found ∙ (ap (λ (xs : List Rules). xs ++ rules_of waits awaited bound r.work ∷ []) is.rules_are ∙ rules_pushed waits awaited bound r trees);
  }

  -- a child is in its parent's tree
  pub admission_child : (p slot : ℕ) → IsComing r trees → IsAdmission waits awaited bound trees slots rules → lookup (eqb p) slots ≡ Some slot
      → ((n : ℕ) → lookup (eqb n) more ≡ cond (eqb r.number n) (Some slot) (lookup (eqb n) slots))
      → after ≡ joined_at rules slot (rules_of waits awaited bound r.work)
      → IsAdmission waits awaited bound (with_request (Some p) r trees) more after
  admission_child p slot coming is here noted found =
      let at : slot_of trees p ≡ Some slot = sym (is.slots_are p) ∙ here in
      record {
        slots_are = λ n. noted n ∙ (ap (λ (o : Option ℕ). cond (eqb r.number n) (Some slot) o) (is.slots_are n) ∙ sym (slot_put n p r trees slot (coming.once p) at coming.fresh));
        rules_are = found ∙ (ap (λ (xs : List Rules). joined_at xs slot (rules_of waits awaited bound r.work)) is.rules_are
            ∙ sym (rules_joined waits awaited bound p r trees slot (coming.once p) at));
      }

  -- a request whose parent has no tree is in none
  pub admission_none : (p : ℕ) → IsAdmission waits awaited bound trees slots rules → lookup (eqb p) slots ≡ None
      → IsAdmission waits awaited bound (with_request (Some p) r trees) slots rules
  admission_none p is here =
      subst (λ (ts : List (List Request)). IsAdmission waits awaited bound ts slots rules)
      (sym (puts_none p r trees (none_found p trees (sym (is.slots_are p) ∙ here)))) is

-- ---- one tree finds more

pub joined_inside : (rules : List Rules) (n : ℕ) (more any : Rules) → n < length rules
    → set rules n (joined_rules (get_or rules n any) more) ≡ joined_at rules n more
joined_inside [] n more any h = absurd (omega arith)
joined_inside (x ∷ xs) zero more any h = refl
joined_inside (x ∷ xs) (suc n) more any h =
    ap (λ (ys : List Rules). x ∷ ys) (joined_inside xs n more any (omega arith))

pub joined_outside : (rules : List Rules) (n : ℕ) (more : Rules) → length rules ≤ n → rules ≡ joined_at rules n more
joined_outside [] n more h = refl
joined_outside (x ∷ xs) zero more h = absurd (omega arith)
joined_outside (x ∷ xs) (suc n) more h = ap (λ (ys : List Rules). x ∷ ys) (joined_outside xs n more (omega arith))

-- ---- lines

-- a tree whose numbers are below the next one hasn't it
fresh_in : (r : Request) (tree : List Request) → AllByRecursion (λ (q : Request). q.number < r.number) tree → has_number r.number tree ≡ false
fresh_in r [] h = refl
fresh_in r (q ∷ qs) h = ap (λ (b : Bool). b || has_number r.number qs) (below_apart q.number r.number h.0) ∙ fresh_in r qs h.1

fresh_trees : (r : Request) (rs : List Request) (trees : List (List Request)) → AllByRecursion (Good (r ∷ rs)) trees
    → AllByRecursion (λ tree. has_number r.number tree ≡ false) trees
fresh_trees r rs trees h =
    all_then (Good (r ∷ rs)) (λ tree. has_number r.number tree ≡ false) trees
    (λ tree g. fresh_in r tree (all_then (λ (q : Request). Below q.number (r ∷ rs)) (λ (q : Request). q.number < r.number) tree (λ q b. b.0) g.0)) h

all_push_one : (n : ℕ) (r : Request) (trees : List (List Request)) → AllByRecursion (λ t. has_number n t ≡ false) trees → eqb r.number n ≡ false
    → AllByRecursion (λ t. has_number n t ≡ false) (trees ++ (r ∷ []) ∷ [])
all_push_one n r [] h e = (ap (λ (b : Bool). b || false) e, tt)
all_push_one n r (t ∷ trees) h e = (h.0, all_push_one n r trees h.1 e)

other_number : (b : Bool) (n : ℕ) (r : Request) (t : List Request) → eqb r.number n ≡ b → has_number n t ≡ true → has_number r.number t ≡ false
    → eqb r.number n ≡ false
other_number true n r t same has fresh =
    true_not_false (sym has ∙ subst (λ (m : ℕ). has_number m t ≡ false) (eqb-true r.number n same) fresh)
other_number false n r t same has fresh = same

once_push : (n : ℕ) (r : Request) (trees : List (List Request)) → StandsOnce n trees → AllByRecursion (λ t. has_number r.number t ≡ false) trees
    → StandsOnce n (trees ++ (r ∷ []) ∷ [])
once_push n r [] once fresh = (λ h. tt, tt)
once_push n r (t ∷ trees) once fresh = (
  λ h. all_push_one n r trees (once.0 h) (other_number (eqb r.number n) n r t refl h fresh.0),
  once_push n r trees once.1 fresh.1,
)

and_none : (a : Bool) → (a && false) ≡ false
and_none true = refl
and_none false = refl

number_kept : (n p : ℕ) (r : Request) (tree : List Request) → eqb r.number n ≡ false → has_number n (put_before p r tree) ≡ has_number n tree
number_kept n p r tree e =
    number_put n p r tree
    ∙ (ap (λ (b : Bool). has_number n tree || (has_number p tree && b)) e
    ∙ (ap (λ (b : Bool). has_number n tree || b) (and_none (has_number p tree)) ∙ or_none (has_number n tree)))

numbers_kept : (n p : ℕ) (r : Request) (trees : List (List Request)) → eqb r.number n ≡ false → AllByRecursion (λ t. has_number n t ≡ false) trees
    → AllByRecursion (λ t. has_number n t ≡ false) (map (put_before p r) trees)
numbers_kept n p r [] e h = tt
numbers_kept n p r (t ∷ trees) e h = (number_kept n p r t e ∙ h.0, numbers_kept n p r trees e h.1)

once_put_if : (b c : Bool) (n p : ℕ) (r : Request) (t : List Request) (trees : List (List Request)) → eqb r.number n ≡ b → has_number p t ≡ c
    → (has_number n t ≡ true → AllByRecursion (λ t. has_number n t ≡ false) trees)
    → (has_number p t ≡ true → AllByRecursion (λ t. has_number p t ≡ false) trees)
    → has_number r.number t ≡ false → AllByRecursion (λ t. has_number r.number t ≡ false) trees
    → has_number n (put_before p r t) ≡ true → AllByRecursion (λ t. has_number n t ≡ false) (map (put_before p r) trees)
once_put_if true true n p r t trees same is once once_p fresh freshes h =
    subst (λ (ts : List (List Request)). AllByRecursion (λ t. has_number n t ≡ false) ts) (sym (puts_none p r trees (once_p is)))
    (subst (λ (m : ℕ). AllByRecursion (λ t. has_number m t ≡ false) trees) (eqb-true r.number n same) freshes)
once_put_if true false n p r t trees same is once once_p fresh freshes h =
    let none : has_number n t ≡ false = subst (λ (m : ℕ). has_number m t ≡ false) (eqb-true r.number n same) fresh in
    true_not_false (sym h ∙ (ap (λ (x : List Request). has_number n x) (put_none p r t is) ∙ none))
once_put_if false c n p r t trees same is once once_p fresh freshes h =
    numbers_kept n p r trees same (once (sym (number_kept n p r t same) ∙ h))

once_put : (n p : ℕ) (r : Request) (trees : List (List Request)) → StandsOnce n trees → StandsOnce p trees
    → AllByRecursion (λ t. has_number r.number t ≡ false) trees → StandsOnce n (map (put_before p r) trees)
once_put n p r [] once once_p fresh = tt
once_put n p r (t ∷ trees) once once_p fresh = (
  λ h. once_put_if (eqb r.number n) (has_number p t) n p r t trees refl refl once.0 once_p.0 fresh.0 fresh.1 h,
  once_put n p r trees once.1 once_p.1 fresh.1,
)

once_with : (under : Option ℕ) (r : Request) (trees : List (List Request)) → ((n : ℕ) → StandsOnce n trees)
    → AllByRecursion (λ t. has_number r.number t ≡ false) trees → (n : ℕ) → StandsOnce n (with_request under r trees)
once_with None r trees once fresh n = once_push n r trees (once n) fresh
once_with (Some p) r trees once fresh n = once_put n p r trees (once n) (once p) fresh

good_with : (under : Option ℕ) (r : Request) (rs : List Request) (trees : List (List Request)) → Below r.number rs → AllByRecursion (Good (r ∷ rs)) trees
    → AllByRecursion (Good rs) (with_request under r trees)
good_with None r rs trees below good = good_push r rs trees below (good_less r rs trees good)
good_with (Some p) r rs trees below good = good_put p r rs trees below good

-- the trees of the lines so far, where these are left
pub record IsPart (whole : List (List Request)) (rest : List Item) (trees : List (List Request)) : Type 0 where
  pub same : with_requests (requests_of rest) trees ≡ whole
  pub rising : AreRising (requests_of rest)
  pub good : AllByRecursion (Good (requests_of rest)) trees
  pub once : (n : ℕ) → StandsOnce n trees

pub part_start : (items : List Item) → AreRising (requests_of items) → IsPart (trees_of (requests_of items)) items []
part_start items rising = record { same = refl; rising = rising; good = tt; once = λ n. tt }

pub part_coming : (whole : List (List Request)) (item : Item) (rest : List Item) (trees : List (List Request)) → IsPart whole (item ∷ rest) trees → IsComingLine item trees
part_coming whole (RequestLine r) rest trees h = record { once = h.once; fresh = fresh_trees r (requests_of rest) trees h.good }
part_coming whole Go rest trees h = tt
part_coming whole Clear rest trees h = tt

pub part_next : (whole : List (List Request)) (item : Item) (rest : List Item) (trees : List (List Request)) → IsPart whole (item ∷ rest) trees → IsPart whole rest (with_line item trees)
part_next whole (RequestLine r) rest trees h = record {
  same = h.same;
  rising = h.rising.1;
  good = good_with r.under r (requests_of rest) trees h.rising.0 h.good;
  once = once_with r.under r trees h.once (fresh_trees r (requests_of rest) trees h.good);
}
part_next whole Go rest trees h = record { same = h.same; rising = h.rising; good = h.good; once = h.once }
part_next whole Clear rest trees h = record { same = h.same; rising = h.rising; good = h.good; once = h.once }

parts : (whole : List (List Request)) (rest : List Item) (trees : List (List Request)) → IsPart whole rest trees → (n : ℕ) → StandsOnce n whole
parts whole [] trees h n = subst (StandsOnce n) h.same (h.once n)
parts whole (item ∷ rest) trees h n = parts whole rest (with_line item trees) (part_next whole item rest trees h) n

-- no number stands in two trees of a batch
pub stand_once : (items : List Item) → AreRising (requests_of items) → (n : ℕ) → StandsOnce n (trees_of (requests_of items))
stand_once items rising n = parts (trees_of (requests_of items)) items [] (part_start items rising) n
