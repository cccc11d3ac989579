-- How many requests finished in a round, and what they read, by the lines of its report.
use Rattle.std.proofs.Common.{◌≡◌, ℕ, zero, suc, ◌+◌, List, [], ◌∷◌, ◌++◌, length, map, filter, Bool, true, false, cond, Option, Some, None, refl, sym, ap, ◌∙◌, inl, inr, ◌⊎◌, arith}
use Rattle.std.specs.Prelude.{is_none, is_some, nat_le, sum_by, Result, Ok, Err}
use Rattle.std.specs.List.{AllByRecursion, flat_map}
use Rattle.std.proofs.lemmas.List.Sums.{sum_by-cons}
use Rattle.zio_types.specs.declared.error.Errno.{Errno}
use Rattle.zio_types.specs.declared.request.Bits.{Bits}
use Rattle.zio_types.specs.declared.request.Kind.{Kind}
use Rattle.zio_types.specs.declared.request.Kind.TheVariants.{Null as NullKind, Read as ReadKind, Write as WriteKind, Free as FreeKind, Claim as ClaimKind}
use Rattle.zio_types.specs.Choices.{Choice}
use Rattle.zio_blkptr.specs.declared.pointer.Bp.{Bp}
use Rattle.zio_script.specs.declared.script.Work.{Work}
use Rattle.zio_script.specs.declared.script.Work.TheVariants.{Null, Read, Write, Free, Claim}
use Rattle.zio_script.specs.Requests.{kind_of}
use Rattle.zio_cksum.specs.Images.{Images}
use Rattle.zio_cksum.proofs.AllLemmas.{all_append}
use Rattle.zio_gang.specs.declared.tree.Tree.{Tree}
use Rattle.zio_gang.specs.Attempts.{Attempt, Attempted, Child, Ended, Own, Pending, Return, Settled, Terms, attempt_each, attempt_one, closed_if, free_of, own_claimed, own_work, settle, settle_from, settled_if}
use Rattle.zio_gang.specs.ByNumber.{insert_by, insert_if, merge_by}
use Rattle.zio_gang.specs.Rounds.{Ran, settle_each}
use Rattle.zio_gang.proofs.FateLemmas.{tally, tally-append}
use Rattle.zio_report.specs.declared.report.ReportLine.{ReportLine}
use Rattle.zio_report.specs.declared.report.LineResult.{LineResult}
use Rattle.zio_report.specs.declared.report.LineResult.TheVariants.{Suspended, Failed, Done, Sized, Bytes}
use Rattle.zio_report.specs.Reports.{by_number, good_result, line_of_ended, line_of_pending, result_with, sized_by}
use Rattle.zio_course.specs.declared.fold.Tally.{Tally}
use Rattle.zio_course.specs.Folds.{counted_by, counted_in, waiting_by, waiting_of}
use Rattle.zio_script.specs.declared.script.Request.{Request}

-- ---- lines

abbrev pub good_line : LineResult → ℕ
good_line Suspended = 0
good_line (Failed e) = 0
good_line Done = 1
good_line (Sized n) = 1
good_line (Bytes bytes) = 1

abbrev pub bad_line : LineResult → ℕ
bad_line Suspended = 0
bad_line (Failed e) = 1
bad_line Done = 0
bad_line (Sized n) = 0
bad_line (Bytes bytes) = 0

abbrev pub read_line : LineResult → ℕ
read_line Suspended = 0
read_line (Failed e) = 0
read_line Done = 0
read_line (Sized n) = 0
read_line (Bytes bytes) = length bytes

-- one more by its line
record OneMore (r : LineResult) (t : Tally) : Type 0 where
  good : (counted_by r t).good ≡ t.good + good_line r
  bad : (counted_by r t).bad ≡ t.bad + bad_line r
  read : (counted_by r t).read ≡ t.read + read_line r

one_more : (r : LineResult) (t : Tally) → OneMore r t
one_more Suspended t = record { good = omega arith; bad = omega arith; read = omega arith }
one_more (Failed e) t = record { good = omega arith; bad = omega arith; read = omega arith }
one_more Done t = record { good = omega arith; bad = omega arith; read = omega arith }
one_more (Sized n) t = record { good = omega arith; bad = omega arith; read = omega arith }
one_more (Bytes bytes) t = record { good = omega arith; bad = omega arith; read = omega arith }

pub record Counts (ls : List ReportLine) (t : Tally) : Type 0 where
  pub good : (counted_in ls t).good ≡ t.good + tally (λ (l : ReportLine). good_line l.result) ls
  pub bad : (counted_in ls t).bad ≡ t.bad + tally (λ (l : ReportLine). bad_line l.result) ls
  pub read : (counted_in ls t).read ≡ t.read + tally (λ (l : ReportLine). read_line l.result) ls

pub line_counts : (ls : List ReportLine) (t : Tally) → Counts ls t
line_counts [] t = record { good = omega arith; bad = omega arith; read = omega arith }
line_counts (l ∷ ls) t =
    let one = one_more l.result t in
    let rest = line_counts ls (counted_by l.result t) in
    record {
      good = let a = one.good in let b = rest.good in omega arith;
      bad = let a = one.bad in let b = rest.bad in omega arith;
      read = let a = one.read in let b = rest.read in omega arith;
    }

-- each request of a round is counted, or waits
pub waits_and_counts : (rs : List Request) (ls : List ReportLine) → length rs ≡ length ls
    → tally (λ (l : ReportLine). good_line l.result) ls + tally (λ (l : ReportLine). bad_line l.result) ls + length (waiting_of rs ls) ≡ length ls
waits_and_counts [] [] h = refl
waits_and_counts [] (l ∷ ls) h = absurd (omega arith)
waits_and_counts (r ∷ rs) [] h = absurd (omega arith)
waits_and_counts (r ∷ rs) (l ∷ ls) h = go l.result (waits_and_counts rs ls (omega arith))
  where
    go : (x : LineResult) → tally (λ (m : ReportLine). good_line m.result) ls + tally (λ (m : ReportLine). bad_line m.result) ls + length (waiting_of rs ls) ≡ length ls
        → (good_line x + tally (λ (m : ReportLine). good_line m.result) ls) + (bad_line x + tally (λ (m : ReportLine). bad_line m.result) ls) + length (waiting_by x r ++ waiting_of rs ls) ≡ suc (length ls)
    go Suspended k = omega arith
    go (Failed e) k = omega arith
    go Done k = omega arith
    go (Sized n) k = omega arith
    go (Bytes bytes) k = omega arith

-- ---- in whatever order

insert_tally_if : {X : Type 0} (b : Bool) (f : X → ℕ) (x y : X) (ys inserted : List X) → tally f inserted ≡ f x + tally f ys → tally f (insert_if b x y ys inserted) ≡ f x + (f y + tally f ys)
insert_tally_if true f x y ys inserted h = refl
insert_tally_if false f x y ys inserted h = omega arith

insert_tally : {X : Type 0} (number : X → ℕ) (f : X → ℕ) (x : X) (xs : List X) → tally f (insert_by number x xs) ≡ f x + tally f xs
insert_tally number f x [] = refl
insert_tally number f x (y ∷ ys) = insert_tally_if (nat_le (number x) (number y)) f x y ys (insert_by number x ys) (insert_tally number f x ys)

merge_tally : {X : Type 0} (number : X → ℕ) (f : X → ℕ) (xs : List X) → tally f (merge_by number xs []) ≡ tally f xs
merge_tally number f [] = refl
merge_tally number f (x ∷ xs) = insert_tally number f x (merge_by number xs []) ∙ ap (λ (n : ℕ). f x + n) (merge_tally number f xs)

-- ---- what ended

good_sized : (tree : Option Tree) → good_line (sized_by tree) ≡ 1
good_sized None = refl
good_sized (Some t) = refl

good_kind : (kind : Kind) (e : Ended) → good_line (good_result kind e) ≡ 1
good_kind NullKind e = refl
good_kind ReadKind e = refl
good_kind WriteKind e = good_sized e.tree
good_kind FreeKind e = refl
good_kind ClaimKind e = refl

bad_sized : (tree : Option Tree) → bad_line (sized_by tree) ≡ 0
bad_sized None = refl
bad_sized (Some t) = refl

bad_kind : (kind : Kind) (e : Ended) → bad_line (good_result kind e) ≡ 0
bad_kind NullKind e = refl
bad_kind ReadKind e = refl
bad_kind WriteKind e = bad_sized e.tree
bad_kind FreeKind e = refl
bad_kind ClaimKind e = refl

-- nothing but a read has bytes
abbrev pub IsPlain : Ended → Type 0
IsPlain e = (kind_of e.request.work ≡ ReadKind) ⊎ (e.bytes ≡ [])

read_sized : (tree : Option Tree) → read_line (sized_by tree) ≡ 0
read_sized None = refl
read_sized (Some t) = refl

read_kind : (kind : Kind) (e : Ended) → (kind ≡ ReadKind) ⊎ (e.bytes ≡ []) → read_line (good_result kind e) ≡ length e.bytes
read_kind ReadKind e h = refl
read_kind NullKind e (inl h) = absurd (let no = h in cc)
read_kind NullKind e (inr h) = sym (ap length h)
read_kind WriteKind e (inl h) = absurd (let no = h in cc)
read_kind WriteKind e (inr h) = read_sized e.tree ∙ sym (ap length h)
read_kind FreeKind e (inl h) = absurd (let no = h in cc)
read_kind FreeKind e (inr h) = sym (ap length h)
read_kind ClaimKind e (inl h) = absurd (let no = h in cc)
read_kind ClaimKind e (inr h) = sym (ap length h)

ended_good : (es : List Ended) → tally (λ (l : ReportLine). good_line l.result) (map line_of_ended es) ≡ length (filter (λ (e : Ended). is_none e.error) es)
ended_good [] = refl
ended_good (e ∷ es) = go e.error (ended_good es)
  where
    go : (o : Option Errno) → tally (λ (l : ReportLine). good_line l.result) (map line_of_ended es) ≡ length (filter (λ (x : Ended). is_none x.error) es)
        → good_line (result_with o e) + tally (λ (l : ReportLine). good_line l.result) (map line_of_ended es)
        ≡ length (cond (is_none o) (e ∷ filter (λ (x : Ended). is_none x.error) es) (filter (λ (x : Ended). is_none x.error) es))
    go None h = let one = good_kind (kind_of e.request.work) e in omega arith
    go (Some x) h = omega arith

ended_bad : (es : List Ended) → tally (λ (l : ReportLine). bad_line l.result) (map line_of_ended es) ≡ length (filter (λ (e : Ended). is_some e.error) es)
ended_bad [] = refl
ended_bad (e ∷ es) = go e.error (ended_bad es)
  where
    go : (o : Option Errno) → tally (λ (l : ReportLine). bad_line l.result) (map line_of_ended es) ≡ length (filter (λ (x : Ended). is_some x.error) es)
        → bad_line (result_with o e) + tally (λ (l : ReportLine). bad_line l.result) (map line_of_ended es)
        ≡ length (cond (is_some o) (e ∷ filter (λ (x : Ended). is_some x.error) es) (filter (λ (x : Ended). is_some x.error) es))
    go None h = let none = bad_kind (kind_of e.request.work) e in omega arith
    go (Some x) h = omega arith

ended_read : (es : List Ended) → AllByRecursion IsPlain es
    → tally (λ (l : ReportLine). read_line l.result) (map line_of_ended es) ≡ sum_by (λ (e : Ended). length e.bytes) (filter (λ (e : Ended). is_none e.error) es)
ended_read [] h = refl
ended_read (e ∷ es) h = go e.error (ended_read es h.1)
  where
    go : (o : Option Errno) → tally (λ (l : ReportLine). read_line l.result) (map line_of_ended es) ≡ sum_by (λ (x : Ended). length x.bytes) (filter (λ (x : Ended). is_none x.error) es)
        → read_line (result_with o e) + tally (λ (l : ReportLine). read_line l.result) (map line_of_ended es)
        ≡ sum_by (λ (x : Ended). length x.bytes) (cond (is_none o) (e ∷ filter (λ (x : Ended). is_none x.error) es) (filter (λ (x : Ended). is_none x.error) es))
    go None k =
        let own = read_kind (kind_of e.request.work) e h.0 in
        let first = sum_by-cons (λ (x : Ended). length x.bytes) e (filter (λ (x : Ended). is_none x.error) es) in omega arith
    go (Some x) k = let same = k in omega arith

pending_none : (f : LineResult → ℕ) (left : List (List Pending)) → f Suspended ≡ 0 → tally (λ (l : ReportLine). f l.result) (flat_map (map line_of_pending) left) ≡ 0
pending_none f [] none = refl
pending_none f (tree ∷ left) none =
    let a = tally-append (λ (l : ReportLine). f l.result) (map line_of_pending tree) (flat_map (map line_of_pending) left) in
    let b = own tree in
    let d = pending_none f left none in omega arith
  where
    own : (ps : List Pending) → tally (λ (l : ReportLine). f l.result) (map line_of_pending ps) ≡ 0
    own [] = refl
    own (p ∷ ps) = let rest = own ps in omega arith

-- The lines of a round count what ended in it.
pub record RoundCounts (lines : List ReportLine) (t : Tally) (ended : List Ended) : Type 0 where
  pub good : (counted_in lines t).good ≡ t.good + length (filter (λ (e : Ended). is_none e.error) ended)
  pub bad : (counted_in lines t).bad ≡ t.bad + length (filter (λ (e : Ended). is_some e.error) ended)
  pub read : (counted_in lines t).read ≡ t.read + sum_by (λ (e : Ended). length e.bytes) (filter (λ (e : Ended). is_none e.error) ended)

pub round_counts : (t : Tally) (lines : List ReportLine) (ended : List Ended) (left : List (List Pending)) → by_number (map line_of_ended ended ++ flat_map (map line_of_pending) left) ≡ lines
    → AllByRecursion IsPlain ended → RoundCounts lines t ended
round_counts t lines ended left is plain =
    let all : (f : LineResult → ℕ) → f Suspended ≡ 0 → tally (λ (l : ReportLine). f l.result) lines ≡ tally (λ (l : ReportLine). f l.result) (map line_of_ended ended) = λ f none.
    (let a : tally (λ (l : ReportLine). f l.result) lines ≡ tally (λ (l : ReportLine). f l.result) (map line_of_ended ended ++ flat_map (map line_of_pending) left) =
    ap (tally (λ (l : ReportLine). f l.result)) (sym is) ∙ merge_tally (λ (l : ReportLine). l.number) (λ (l : ReportLine). f l.result) (map line_of_ended ended ++ flat_map (map line_of_pending) left) in
    let b = tally-append (λ (l : ReportLine). f l.result) (map line_of_ended ended) (flat_map (map line_of_pending) left) in
    let d = pending_none f left none in omega arith) in
    let counts = line_counts lines t in
    record {
      good = let a = counts.good in let b = all good_line refl in let d = ended_good ended in omega arith;
      bad = let a = counts.bad in let b = all bad_line refl in let d = ended_bad ended in omega arith;
      read = let a = counts.read in let b = all read_line refl in let d = ended_read ended plain in omega arith;
    }

-- ---- nothing but a read has bytes

abbrev PlainBytes : Kind → List ℕ → Type 0
PlainBytes kind bytes = (kind ≡ ReadKind) ⊎ (bytes ≡ [])

free_plain : (t : Terms) (block : Option Tree) (images : Images) → (free_of t block images).bytes ≡ []
free_plain t None images = refl
free_plain t (Some tree) images = refl

claim_plain : (r : Result Tree Errno) (images : Images) → (own_claimed r images).bytes ≡ []
claim_plain (Err e) images = refl
claim_plain (Ok tree) images = refl

own_plain : (j : List Choice) (t : Terms) (attempt : ℕ) (p : Pending) (work : Work) (pointers : List (Option Bp)) (images : Images) → PlainBytes (kind_of work) (own_work j t attempt p work pointers images).bytes
own_plain j t attempt p Null pointers images = inr refl
own_plain j t attempt p (Read name prio) pointers images = inl refl
own_plain j t attempt p (Write name sum copies prio body) pointers images = inr refl
own_plain j t attempt p (Free name) pointers images = inr (free_plain t p.block images)
own_plain j t attempt p (Claim name pointer) pointers images = inr (claim_plain _ _)

closed_plain : (again : Bool) (p : Pending) (own : Own) (bits : Bits) (kept : List Child) → PlainBytes (kind_of p.request.work) own.bytes → AllByRecursion IsPlain (closed_if again p own bits kept).ended
closed_plain true p own bits kept h = tt
closed_plain false p own bits kept h = (h, tt)

each_plain : (j : List Choice) (t : Terms) (attempt : ℕ) (tree : List Pending) (returns : List Return) (images : Images) → AllByRecursion IsPlain (attempt_each j t attempt tree returns images).ended
unfolding attempt_each
each_plain j t attempt [] returns images = tt
each_plain j t attempt (p ∷ tree) returns images =
    let one : Attempted = attempt_one j t attempt p returns images in
    let rest : Attempt = attempt_each j t attempt tree (one.return ∷ returns) one.images in
    let here : AllByRecursion IsPlain one.ended = closed_plain _ p _ _ _ (own_plain j t attempt p p.request.work _ _) in
    all_append IsPlain one.ended rest.ended here (each_plain j t attempt tree (one.return ∷ returns) one.images)

settled_plain : (now : Bool) (a : Attempt) (again : List Pending → Images → Settled) → AllByRecursion IsPlain a.ended → AllByRecursion IsPlain (again a.again a.images).ended
    → AllByRecursion IsPlain (settled_if now a again).ended
settled_plain true a again h later = all_append IsPlain a.ended (again a.again a.images).ended h later
settled_plain false a again h later = h

settle_plain : (more : ℕ) (j : List Choice) (t : Terms) (attempt : ℕ) (tree : List Pending) (images : Images) → AllByRecursion IsPlain (settle_from more j t attempt tree images).ended
unfolding settle_from
settle_plain zero j t attempt tree images = each_plain j t attempt tree [] images
settle_plain (suc more) j t attempt tree images =
    let a : Attempt = attempt_each j t attempt tree [] images in
    settled_plain _ a (settle_from more j t (attempt + 1)) (each_plain j t attempt tree [] images) (settle_plain more j t (attempt + 1) a.again a.images)

pub ran_plain : (j : List Choice) (t : Terms) (trees : List (List Pending)) (images : Images) → AllByRecursion IsPlain (settle_each j t trees images).ended
unfolding settle_each
ran_plain j t [] images = tt
ran_plain j t (tree ∷ trees) images =
    let s : Settled = settle j t tree images in
    let rest : Ran = settle_each j t trees s.images in
    all_append IsPlain s.ended rest.ended (settle_plain 3 j t 0 tree images) (ran_plain j t trees s.images)
