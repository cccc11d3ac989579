-- What becomes of a request, from what it is judged to.
use Rattle.std.proofs.Common.{◌≡◌, ℕ, ◌+◌, ◌%◌, List, [], ◌∷◌, ◌++◌, suc, length, map, reverse, Bool, true, false, ◌||◌, not, cond, Option, Some, None, refl, sym, ap, ◌∙◌, subst, arith}
use Rattle.std.specs.Prelude.{is_some, IfSome, IsTrue, nat_le}
use Rattle.std.specs.List.{AllByRecursion}
use Rattle.std.proofs.lemmas.List.{length-reverse, reverse-append}
use Rattle.std.proofs.lemmas.List.Sums.{sum_by-cons}
use Rattle.zio_types.specs.declared.error.Errno.{Errno}
use Rattle.zio_types.specs.declared.request.Bits.{Bits}
use Rattle.zio_types.specs.declared.request.Kind.{Kind}
use Rattle.zio_types.specs.declared.request.Kind.TheVariants.{Null, Read, Write, Free, Claim}
use Rattle.zio_types.specs.Choices.{Ask}
use Rattle.zio_types.specs.Errors.{rank, worst_error, worst_of}
use Rattle.zio_types.proofs.ErrorLemmas.{rank-worst_error, same_rank}
use Rattle.zio_blkptr.specs.Pointers.{valid}
use Rattle.zio_gang.specs.ByNumber.{insert_by, insert_if}
use Rattle.zio_script.specs.declared.script.Failmode.{Failmode}
use Rattle.zio_script.specs.Requests.{kind_of}
use Rattle.zio_script.specs.Whys.{is_claim}
use Rattle.zio_cksum.proofs.AllLemmas.{all_append}
use Rattle.zio_cksum.specs.Images.{Images, Setting}
use Rattle.zio_disks.specs.Whole.{IsWholeTree}
use Rattle.zio_gang.specs.declared.tree.Tree.{Tree}
use Rattle.zio_gang.specs.Attempts.{Child, Own, Return, Terms, all_bits, bits_of, children_of, closed_if, decided, has_bits, insert_children, finished_of as finished_of_returns, joined_bits, judged_own, kind_bits, may_fail, no_bits, suspend_unless, tree_unless}
use Rattle.zio_course.specs.declared.runner.RequestEnd.{RequestEnd}
use Rattle.zio_course.specs.Runners.{finished_of, read_size}
use Rattle.zio_plain.specs.declared.judge.Fate.{Fate}
use Rattle.zio_plain.specs.declared.judge.Fate.TheVariants.{Ends, Again}
use Rattle.zio_plain.specs.declared.judge.Judged.{Judged}
use Rattle.zio_plain.specs.declared.owns.OwnEnd.{OwnEnd}
use Rattle.zio_plain.specs.declared.waiting.Handed.{Handed}
use Rattle.zio_plain.specs.declared.waiting.Kept.{Kept}
use Rattle.zio_plain.specs.declared.waiting.Waiting.{Waiting}
use Rattle.zio_plain.specs.Judgments.{IsJudged, again_in, children_handed, done_in, ends_of, own_of}
use Rattle.zio_plain.specs.OwnEnds.{IsOwnEnd}
use Rattle.zio_plain.specs.Passes.{AllEnd, HasFate, IsFateOf, is_again}
use Rattle.zio_plain.specs.Waits.{HasPointer, child_of, merged, pending_of, return_of}

-- ---- bits

joined_none : (a b c d : Bool) → ((a || c) || (b || d)) ≡ false → ((a || b) ≡ false) × ((c || d) ≡ false)
joined_none true b c d e = absurd (cc)
joined_none false true true d e = absurd (cc)
joined_none false true false d e = absurd (cc)
joined_none false false true d e = absurd (cc)
joined_none false false false true e = absurd (cc)
joined_none false false false false e = (refl, refl)

pub none_joined : (a b : Bits) → has_bits (joined_bits a b) ≡ false → (has_bits a ≡ false) × (has_bits b ≡ false)
none_joined a b e = joined_none a.now a.suspend b.now b.suspend e

or_true : (a : Bool) → (a || true) ≡ true
or_true true = refl
or_true false = refl

or_false : (a b : Bool) → (a || b) ≡ false → b ≡ false
or_false true b e = absurd (cc)
or_false false b e = e

suspended_not : (b : Bool) (bits : Bits) → has_bits (suspend_unless b bits) ≡ false → b ≡ true
suspended_not true bits e = refl
suspended_not false bits e = let no : true ≡ false = sym (or_true bits.now) ∙ e in absurd (cc)

decided_none : (may : Bool) (bits : Bits) → has_bits (decided may bits) ≡ false → has_bits bits ≡ false
decided_none may bits e =
    let b : (may || has_bits bits) ≡ true = suspended_not (may || has_bits bits) bits e in
    ap (λ c. has_bits (suspend_unless c bits)) (sym b) ∙ e

-- where a request has no bits its children have none
children_none : (kind : Kind) (error : Option Errno) (canfail : Bool) (mode : Failmode) (bits : Bits) → has_bits (all_bits kind error canfail mode bits) ≡ false → has_bits bits ≡ false
children_none kind None canfail mode bits e = e
children_none kind (Some x) canfail mode bits e =
    (none_joined (kind_bits kind x canfail mode) bits (decided_none (may_fail kind canfail) (joined_bits (kind_bits kind x canfail mode) bits) e)).1

all_none : (hs : List Handed) → has_bits (bits_of (map return_of hs)) ≡ false → AllEnd hs
all_none [] e = tt
all_none (h ∷ hs) e = let both = none_joined h.bits (bits_of (map return_of hs)) e in (both.0, all_none hs both.1)

-- a claim without children has no bits
claim_none : (kind : Kind) (error : Option Errno) (canfail : Bool) (mode : Failmode) → is_claim kind ≡ true → has_bits (all_bits kind error canfail mode no_bits) ≡ false
claim_none Null error canfail mode e = absurd (cc)
claim_none Read error canfail mode e = absurd (cc)
claim_none Write error canfail mode e = absurd (cc)
claim_none Free error canfail mode e = absurd (cc)
claim_none Claim None canfail mode e = refl
claim_none Claim (Some x) canfail mode e = refl

not_true : (b : Bool) → (b ≡ true → ⊥) → b ≡ false
not_true true h = absurd (h refl)
not_true false h = refl

-- ---- errors

no_worst : (a b : Option Errno) → worst_error a b ≡ None → a ≡ None
no_worst a b e =
    let r : rank (worst_error a b) ≡ 0 = ap rank e in
    same_rank a None (omega (arith, rank-worst_error a b))

made_none : (error : Option Errno) (tree : Option Tree) → is_some (tree_unless error tree) ≡ true → error ≡ None
made_none None tree h = refl
made_none (Some e) tree h = absurd (cc)

made_some : (error : Option Errno) (tree : Option Tree) → is_some (tree_unless error tree) ≡ true → is_some tree ≡ true
made_some None tree h = h
made_some (Some e) tree h = absurd (cc)

whole_unless : (error : Option Errno) (tree : Option Tree) → (error ≡ None → IfSome tree IsWholeTree) → IfSome (tree_unless error tree) IsWholeTree
whole_unless None tree h = h refl
whole_unless (Some e) tree h = tt

-- ---- counts

not_counted : (hs : List Handed) → length (done_in hs) + again_in hs ≡ length hs
not_counted [] = refl
not_counted (h ∷ hs) =
    let more : again_in (h ∷ hs) ≡ cond {A = ℕ} (has_bits h.bits) 1 0 + again_in hs = sum_by-cons (λ (x : Handed). cond (has_bits x.bits) 1 0) h hs in
    split (has_bits h.bits) (not_counted hs) more
  where
    split : (b : Bool) → length (done_in hs) + again_in hs ≡ length hs → again_in (h ∷ hs) ≡ cond {A = ℕ} b 1 0 + again_in hs
        → length (cond (not b) (h ∷ done_in hs) (done_in hs)) + again_in (h ∷ hs) ≡ length (h ∷ hs)
    split true e f = omega arith
    split false e f = omega arith

length_insert_if : (b : Bool) (x y : Kept) (ys zs : List Kept) → length zs ≡ length (x ∷ ys) → length (insert_if b x y ys zs) ≡ length (x ∷ y ∷ ys)
length_insert_if true x y ys zs e = refl
length_insert_if false x y ys zs e = omega arith

length_insert : (x : Kept) (ys : List Kept) → length (insert_by (λ (k : Kept). k.number) x ys) ≡ length (x ∷ ys)
length_insert x [] = refl
length_insert x (y ∷ ys) = length_insert_if (nat_le x.number y.number) x y ys (insert_by (λ (k : Kept). k.number) x ys) (length_insert x ys)

pub length_merged : (xs ys : List Kept) → length (merged xs ys) ≡ length xs + length ys
length_merged [] ys = omega arith
length_merged (x ∷ xs) ys = length_insert x (merged xs ys) ∙ (let e = length_merged xs ys in omega arith)

all_insert_if : (b : Bool) (x y : Kept) (ys zs : List Kept) → HasPointer x → AllByRecursion HasPointer (y ∷ ys) → AllByRecursion HasPointer zs → AllByRecursion HasPointer (insert_if b x y ys zs)
all_insert_if true x y ys zs p h k = (p, h)
all_insert_if false x y ys zs p h k = (h.0, k)

all_insert : (x : Kept) (ys : List Kept) → HasPointer x → AllByRecursion HasPointer ys → AllByRecursion HasPointer (insert_by (λ (k : Kept). k.number) x ys)
all_insert x [] p h = (p, tt)
all_insert x (y ∷ ys) p h = all_insert_if (nat_le x.number y.number) x y ys (insert_by (λ (k : Kept). k.number) x ys) p h (all_insert x ys p h.1)

pub all_merged : (xs ys : List Kept) → AllByRecursion HasPointer xs → AllByRecursion HasPointer ys → AllByRecursion HasPointer (merged xs ys)
all_merged [] ys h k = k
all_merged (x ∷ xs) ys h k = all_insert x (merged xs ys) h.0 (all_merged xs ys h.1 k)

abbrev pub HaveHanded : List Handed → Type 0
HaveHanded hs = AllByRecursion (λ (h : Handed). HasPointer h.child) hs

handed_done_if : (b : Bool) (h : Handed) (hs ds : List Handed) → HasPointer h.child → HaveHanded ds → HaveHanded (cond b (h ∷ ds) ds)
handed_done_if true h hs ds p k = (p, k)
handed_done_if false h hs ds p k = k

handed_done : (hs : List Handed) → HaveHanded hs → HaveHanded (done_in hs)
handed_done [] k = tt
handed_done (h ∷ hs) k = handed_done_if (not (has_bits h.bits)) h hs (done_in hs) k.0 (handed_done hs k.1)

children_pointers : (hs : List Handed) → HaveHanded hs → AllByRecursion HasPointer (children_handed hs)
children_pointers [] k = tt
children_pointers (h ∷ hs) k = (k.0, children_pointers hs k.1)

pub all_turned : {X : Type 0} (P : X → Type 0) (xs : List X) → AllByRecursion P xs → AllByRecursion P (reverse xs)
all_turned P [] h = tt
all_turned P (x ∷ xs) h = subst (AllByRecursion P) (sym (reverse-append (x ∷ []) xs)) (all_append P (reverse xs) (x ∷ []) (all_turned P xs h.1) (h.0, tt))

length_children : (hs : List Handed) → length (children_handed hs) ≡ length hs
length_children [] = refl
length_children (h ∷ hs) = ap suc (length_children hs)

-- how many go again, in whatever order
again_append : (xs ys : List Handed) → again_in (xs ++ ys) ≡ again_in xs + again_in ys
again_append [] ys = omega arith
again_append (x ∷ xs) ys =
    let one : again_in (x ∷ (xs ++ ys)) ≡ cond {A = ℕ} (has_bits x.bits) 1 0 + again_in (xs ++ ys) = sum_by-cons (λ (h : Handed). cond (has_bits h.bits) 1 0) x (xs ++ ys) in
    let two : again_in (x ∷ xs) ≡ cond {A = ℕ} (has_bits x.bits) 1 0 + again_in xs = sum_by-cons (λ (h : Handed). cond (has_bits h.bits) 1 0) x xs in
    let rest = again_append xs ys in
    omega arith

pub again_turned : (hs : List Handed) → again_in (reverse hs) ≡ again_in hs
again_turned [] = refl
again_turned (h ∷ hs) =
    let one : again_in (h ∷ hs) ≡ cond {A = ℕ} (has_bits h.bits) 1 0 + again_in hs = sum_by-cons (λ (x : Handed). cond (has_bits x.bits) 1 0) h hs in
    let last : again_in (h ∷ []) ≡ cond {A = ℕ} (has_bits h.bits) 1 0 + 0 = sum_by-cons (λ (x : Handed). cond (has_bits x.bits) 1 0) h [] in
    let rest = again_turned hs in
    let split = again_append (reverse hs) (h ∷ []) in
    ap again_in (reverse-append (h ∷ []) hs) ∙ (omega arith)

-- all children of a request
pub children_count : (kids : List Handed) (kept : List Kept) (n : ℕ) → length kids ≡ n → length (merged (reverse (children_handed kids)) kept) ≡ length kept + n
children_count kids kept n e =
    let all = length_merged (reverse (children_handed kids)) kept in
    let turned = length-reverse (children_handed kids) in
    let count = length_children kids in
    omega arith

pub children_have : (kids : List Handed) (kept : List Kept) → HaveHanded kids → AllByRecursion HasPointer kept → AllByRecursion HasPointer (merged (reverse (children_handed kids)) kept)
children_have kids kept h k = all_merged (reverse (children_handed kids)) kept (all_turned HasPointer (children_handed kids) (children_pointers kids h)) k

-- ---- the fate

-- the children as they were handed on, the last last; what the code says of a request that goes again
module _ (w : Waiting) (kids : List Handed) (own : OwnEnd) (judged : Judged) where
  abbrev again_as : Waiting
  again_as = record w { kept = merged (reverse (children_handed (done_in kids))) w.kept; unfinished = again_in kids }

  abbrev IsLeftAs : Type 0
  IsLeftAs = (v : Waiting) → judged.fate ≡ Again v → v ≡ again_as

  ended_fate : (fate : Fate) (error : Option Errno) → ends_of fate ≡ record { request = w.request.number; error = error; bytes = own.bytes; tree = tree_unless error own.tree } ∷ []
      → IsOwnEnd w own → (error ≡ None → own.error ≡ None) → AllEnd (reverse kids) → (is_again fate ≡ false) × IsFateOf w (reverse kids) fate
  ended_fate (Ends f) error e end none all =
      let is : f ≡ record { request = w.request.number; error = error; bytes = own.bytes; tree = tree_unless error own.tree } = cc in
      let error_is : f.error ≡ error = ap (λ (g : RequestEnd). g.error) is in
      let bytes_are : f.bytes ≡ own.bytes = ap (λ (g : RequestEnd). g.bytes) is in
      let tree_is : f.tree ≡ tree_unless error own.tree = ap (λ (g : RequestEnd). g.tree) is in (
        refl,
        record {
          request = ap (λ (g : RequestEnd). g.request) is;
          done = all;
          sectors = subst (λ (bs : List ℕ). length bs % 512 ≡ 0) (sym bytes_are) end.sectors;
          size = λ good. subst (λ (bs : List ℕ). AllByRecursion (λ n. length bs ≡ n) (read_size w.request.work w.block)) (sym bytes_are) (end.size (none (sym error_is ∙ good)));
          makes = λ some. let there : is_some (tree_unless error own.tree) ≡ true = sym (ap is_some tree_is) ∙ some in
              (error_is ∙ made_none error own.tree there, end.makes (made_some error own.tree there));
          whole = subst (λ (t : Option Tree). IfSome t IsWholeTree) (sym tree_is) (whole_unless error own.tree (λ e. end.whole (none e)));
        },
      )
  ended_fate (Again v) error e end none all = absurd (cc)

  again_fate : (fate : Fate) → judged.fate ≡ fate → ends_of fate ≡ [] → IsLeftAs → length kids ≡ w.unfinished → HaveHanded kids → AllByRecursion HasPointer w.kept
      → (w.unfinished ≡ 0 → is_claim (kind_of w.request.work) ≡ false) → (is_again fate ≡ true) × IsFateOf w (reverse kids) fate
  again_fate (Ends f) is e left count handed kept claim = absurd (cc)
  again_fate (Again v) is e left count handed kept claim =
      let same : v ≡ again_as = left v is in
      let done : List Kept = reverse (children_handed (done_in kids)) in
      let kept_is : v.kept ≡ merged done w.kept = ap (λ (u : Waiting). u.kept) same in
      let open_is : v.unfinished ≡ again_in kids = ap (λ (u : Waiting). u.unfinished) same in
      let done_count : length done ≡ length (done_in kids) = length-reverse (children_handed (done_in kids)) ∙ length_children (done_in kids) in
      let all : length v.kept ≡ length done + length w.kept = ap length kept_is ∙ length_merged done w.kept in
      let parts : length (done_in kids) + again_in kids ≡ length kids = not_counted kids in (
        refl,
        record {
          request = ap (λ (u : Waiting). u.request) same;
          birth = ap (λ (u : Waiting). u.birth) same;
          block = ap (λ (u : Waiting). u.block) same;
          unfinished = open_is ∙ sym (again_turned kids);
          count = omega arith;
          pointers = subst (AllByRecursion HasPointer) (sym kept_is) (all_merged done w.kept (all_turned HasPointer (children_handed (done_in kids)) (children_pointers (done_in kids) (handed_done kids handed))) kept);
          claim = claim;
        },
      )

  fate_if : (b : Bool) (bits : Bits) (own_seen : Own) (ks : List Child) → own_seen ≡ own_of own own_seen.asks own_seen.images → has_bits bits ≡ b
      → IsJudged judged (closed_if b (pending_of w) own_seen bits ks) → IsLeftAs → IsOwnEnd w own
      → length kids ≡ w.unfinished → HaveHanded kids → AllByRecursion HasPointer w.kept
      → (b ≡ false → AllEnd (reverse kids)) → (b ≡ true → w.unfinished ≡ 0 → is_claim (kind_of w.request.work) ≡ false)
      → HasFate w (reverse kids) judged.handed judged.fate
  fate_if true bits own_seen ks seen is h left end count handed kept ends again =
      let fate = again_fate judged.fate refl h.ended_is left count handed kept (again refl) in record {
        number = ap (λ (r : Return). r.child.number) h.return_is;
        under = ap (λ (r : Return). r.under) h.return_is;
        pointer = subst (λ p. IfSome p (λ bp. IsTrue (valid bp))) (sym (ap (λ (r : Return). r.child.pointer) h.return_is ∙ ap (λ (o : Own). o.pointer) seen)) end.pointer;
        bits = ap (λ (r : Return). has_bits r.bits) h.return_is ∙ is ∙ sym fate.0;
        is = fate.1;
      }
  fate_if false bits own_seen ks seen is h left end count handed kept ends again =
      let error : Option Errno = worst_error own_seen.error (worst_of (map (λ (c : Child). c.error) ks)) in
      let seen_as : finished_of (record { request = w.request; error = error; bytes = own_seen.bytes; tree = tree_unless error own_seen.tree })
      ≡ record { request = w.request.number; error = error; bytes = own.bytes; tree = tree_unless error own.tree } =
      ap (λ (o : Own). record { request = w.request.number; error = error; bytes = o.bytes; tree = tree_unless error o.tree }) seen in
      let fate = ended_fate judged.fate error (h.ended_is ∙ ap (λ f. f ∷ []) seen_as) end
      (λ e. sym (ap (λ (o : Own). o.error) seen) ∙ no_worst own_seen.error (worst_of (map (λ (c : Child). c.error) ks)) e) (ends refl) in record {
        number = ap (λ (r : Return). r.child.number) h.return_is;
        under = ap (λ (r : Return). r.under) h.return_is;
        pointer = subst (λ p. IfSome p (λ bp. IsTrue (valid bp))) (sym (ap (λ (r : Return). r.child.pointer) h.return_is ∙ ap (λ (o : Own). o.pointer) seen)) end.pointer;
        bits = ap (λ (r : Return). has_bits r.bits) h.return_is ∙ sym fate.0;
        is = fate.1;
      }

  no_kids : (xs : List Handed) → length xs ≡ 0 → xs ≡ []
  no_kids [] e = refl
  no_kids (x ∷ xs) e = absurd (omega arith)

  -- what becomes of the request, from what the code says it is judged to
  pub judged_fate : (failmode : Failmode) → ((t : Terms) (asks : List Ask) (images : Images) → t.failmode ≡ failmode → IsJudged judged (judged_own t (pending_of w) (map return_of (reverse kids)) (own_of own asks images)))
      → IsLeftAs → IsOwnEnd w own → length kids ≡ w.unfinished → HaveHanded kids → AllByRecursion HasPointer w.kept → HasFate w (reverse kids) judged.handed judged.fate
  judged_fate failmode h left end count handed kept =
      let setting : Setting = record { tops = []; rows = []; point = 0 } in
      let t : Terms = record { setting = setting; failmode = failmode; round = 0; used = [] } in
      let returns : List Return = map return_of (reverse kids) in
      let kind : Kind = kind_of w.request.work in
      let bits : Bits = all_bits kind own.error w.request.canfail failmode (bits_of returns) in
      let ks : List Child = insert_children (children_of (finished_of_returns returns)) (map child_of w.kept) in
      fate_if (has_bits bits) bits (own_of own [] []) ks refl refl (h t [] [] refl) left end count handed kept
      (λ e. all_none (reverse kids) (children_none kind own.error w.request.canfail failmode (bits_of returns) e))
      (λ e zero. not_true (is_claim kind) (λ claim.
      let none : kids ≡ [] = no_kids kids (count ∙ zero) in
      let no_children : bits_of returns ≡ no_bits = ap (λ (xs : List Handed). bits_of (map return_of (reverse xs))) none in
      let ends : has_bits bits ≡ false = ap (λ b. has_bits (all_bits kind own.error w.request.canfail failmode b)) no_children ∙ claim_none kind own.error w.request.canfail failmode claim in
      let no : true ≡ false = sym e ∙ ends in cc))

  ended_if : (b : Bool) (bits : Bits) (own_seen : Own) (ks : List Child) (f : RequestEnd) → own_seen ≡ own_of own own_seen.asks own_seen.images
      → IsJudged judged (closed_if b (pending_of w) own_seen bits ks) → judged.fate ≡ Ends f → (f.tree ≡ tree_unless f.error own.tree) × (f.error ≡ None → own.error ≡ None)
  ended_if true bits own_seen ks f seen h is =
      let no : f ∷ [] ≡ [] = sym (ap ends_of is) ∙ h.ended_is in absurd (cc)
  ended_if false bits own_seen ks f seen h is =
      let error : Option Errno = worst_error own_seen.error (worst_of (map (λ (c : Child). c.error) ks)) in
      let listed : f ∷ [] ≡ record { request = w.request.number; error = error; bytes = own_seen.bytes; tree = tree_unless error own_seen.tree } ∷ [] =
      sym (ap ends_of is) ∙ h.ended_is in
      let one : f ≡ record { request = w.request.number; error = error; bytes = own_seen.bytes; tree = tree_unless error own_seen.tree } = cc in
      let error_is : f.error ≡ error = ap (λ (g : RequestEnd). g.error) one in (
        ap (λ (g : RequestEnd). g.tree) one ∙ ap (λ (o : Own). tree_unless error o.tree) seen ∙ ap (λ e. tree_unless e own.tree) (sym error_is),
        λ none. sym (ap (λ (o : Own). o.error) seen) ∙ no_worst own_seen.error (worst_of (map (λ (c : Child). c.error) ks)) (sym error_is ∙ none),
      )

  -- the block of a request that finished
  pub ended_tree : (failmode : Failmode) → ((t : Terms) (asks : List Ask) (images : Images) → t.failmode ≡ failmode → IsJudged judged (judged_own t (pending_of w) (map return_of (reverse kids)) (own_of own asks images)))
      → (f : RequestEnd) → judged.fate ≡ Ends f → (f.tree ≡ tree_unless f.error own.tree) × (f.error ≡ None → own.error ≡ None)
  ended_tree failmode h f is =
      let setting : Setting = record { tops = []; rows = []; point = 0 } in
      let t : Terms = record { setting = setting; failmode = failmode; round = 0; used = [] } in
      let returns : List Return = map return_of (reverse kids) in
      let bits : Bits = all_bits (kind_of w.request.work) own.error w.request.canfail failmode (bits_of returns) in
      let ks : List Child = insert_children (children_of (finished_of_returns returns)) (map child_of w.kept) in
      ended_if (has_bits bits) bits (own_of own [] []) ks f refl (h t [] [] refl) is
