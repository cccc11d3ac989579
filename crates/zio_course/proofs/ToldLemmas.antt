-- What requests that finished do to the bound names, and their lines.
use Rattle.std.proofs.Common.{◌≡◌, ◌≢◌, ℕ, ◌%◌, ◌<◌, List, [], ◌∷◌, ◌++◌, map, filter, length, Bool, true, false, cond, Option, Some, None, is_none, bytes_eq, eqb, eqb-true, eq-eqb, refl, sym, ap, ◌∙◌, subst, append_assoc, inl, inr, ◌⊎◌, arith}
use Rattle.std.proofs.lemmas.Bool.{false_from_ne_true}
use Rattle.std.proofs.lemmas.List.{append-nil, map-append}
use Rattle.std.proofs.lemmas.Slice.Eq.{bytes_eq-Decides}
use Rattle.std.specs.List.{AllByRecursion}
use Rattle.zio_types.specs.declared.error.Errno.{Errno}
use Rattle.zio_script.specs.declared.script.Item.{Item}
use Rattle.zio_script.specs.declared.script.Item.TheVariants.{Request as RequestLine, Go, Clear}
use Rattle.zio_script.specs.declared.script.Request.{Request}
use Rattle.zio_script.specs.declared.script.Work.{Work}
use Rattle.zio_script.specs.declared.script.Work.TheVariants.{Null, Read, Write, Free, Claim}
use Rattle.zio_script.specs.Accepted.{AreRising}
use Rattle.zio_script.specs.Requests.{kind_of, requests_of}
use Rattle.zio_gang.specs.declared.tree.Tree.{Tree}
use Rattle.zio_gang.specs.Attempts.{Ended}
use Rattle.zio_gang.specs.Rounds.{Bound, bind, block_of, bound_after, bound_by, bound_unless, unbind}
use Rattle.zio_gang.proofs.BoundLemmas.{block_of-bind, block_of-bind-other, block_of-unbind, block_of-unbind-other}
use Rattle.zio_types.specs.declared.request.Kind.{Kind}
use Rattle.zio_types.specs.declared.request.Kind.TheVariants.{Null as NullKind, Read as ReadKind, Write as WriteKind, Free as FreeKind, Claim as ClaimKind}
use Rattle.zio_report.specs.declared.report.ReportLine.{ReportLine}
use Rattle.zio_report.specs.Lines.{AreWhole, IsWhole}
use Rattle.zio_report.specs.Reports.{good_result, result_with, sized_by}
use Rattle.zio_course.specs.declared.runner.RequestEnd.{RequestEnd}
use Rattle.zio_course.specs.Forests.{names_of}
use Rattle.zio_course.specs.Names.{named_in}
use Rattle.zio_course.specs.Told.{AreFinishedOf, ended_as, ended_by, ended_told, ends_by, finish_of, left_by, line_by, line_told, lines_by, next_if, next_of, rest_if, rest_of}
use Rattle.zio_course.proofs.AdmittedLemmas.{all_both}
use Rattle.zio_course.proofs.PlantLemmas.{named_of}

-- ---- names

other_name : (n m : List ℕ) → bytes_eq n m ≡ false → m ≢ n
other_name n m e same = let yes_same : bytes_eq n m ≡ true = (bytes_eq-Decides n m).1 (sym same) in (let no : ⊥ = cc in no)

pub bind_if : (b : Bool) (n m : List ℕ) (tree : Tree) (bound : Bound) → bytes_eq n m ≡ b → block_of (bind n tree bound) m ≡ cond b (Some tree) (block_of bound m)
bind_if true n m tree bound e =
    let same : n ≡ m = (bytes_eq-Decides n m).0 e in
    subst (λ (k : List ℕ). block_of (bind n tree bound) k ≡ Some tree) same (block_of-bind n tree bound)
bind_if false n m tree bound e = block_of-bind-other n m tree bound (other_name n m e)

pub unbind_if : (b : Bool) (n m : List ℕ) (bound : Bound) → bytes_eq n m ≡ b → block_of (unbind n bound) m ≡ cond b None (block_of bound m)
unbind_if true n m bound e =
    let same : n ≡ m = (bytes_eq-Decides n m).0 e in
    subst (λ (k : List ℕ). block_of (unbind n bound) k ≡ None) same (block_of-unbind n bound)
unbind_if false n m bound e = block_of-unbind-other n m bound (other_name n m e)

pub bound_put : (n m : List ℕ) (tree : Tree) (old new : List (List ℕ × Tree)) → named_in new m ≡ cond (bytes_eq n m) (Some tree) (named_in old m)
    → named_in new m ≡ block_of (bind n tree (names_of old)) m
bound_put n m tree old new h =
    h ∙ (ap (λ (o : Option Tree). cond (bytes_eq n m) (Some tree) o) (named_of m old)
    ∙ sym (bind_if (bytes_eq n m) n m tree (names_of old) refl))

pub bound_out : (n m : List ℕ) (old new : List (List ℕ × Tree)) → named_in new m ≡ cond (bytes_eq n m) None (named_in old m)
    → named_in new m ≡ block_of (unbind n (names_of old)) m
bound_out n m old new h =
    h ∙ (ap (λ (o : Option Tree). cond (bytes_eq n m) None o) (named_of m old)
    ∙ sym (unbind_if (bytes_eq n m) n m (names_of old) refl))

-- a request that finished without error does what its work and block do
pub finish_bound : (r : Request) (f : RequestEnd) (old new : List (List ℕ × Tree)) (name : List ℕ) (work : Work) (tree : Option Tree)
    → f.error ≡ None → r.work ≡ work → f.tree ≡ tree → named_in new name ≡ block_of (bound_by work tree (names_of old)) name
    → named_in new name ≡ block_of (bound_unless f.error (ended_as r f) (names_of old)) name
finish_bound r f old new name work tree e same block h =
    h ∙ (ap (λ (t : Option Tree). block_of (bound_by work t (names_of old)) name) (sym block)
    ∙ (ap (λ (w : Work). block_of (bound_by w f.tree (names_of old)) name) (sym same)
    ∙ ap (λ (o : Option Errno). block_of (bound_unless o (ended_as r f) (names_of old)) name) (sym e)))

-- one that finished with an error leaves the names
pub failed_bound : (r : Request) (f : RequestEnd) (old : List (List ℕ × Tree)) (name : List ℕ) (error : Errno) → f.error ≡ Some error
    → named_in old name ≡ block_of (bound_unless f.error (ended_as r f) (names_of old)) name
failed_bound r f old name error e =
    named_of name old ∙ ap (λ (o : Option Errno). block_of (bound_unless o (ended_as r f) (names_of old)) name) (sym e)

-- ---- names that agree

cond_same : (b : Bool) (x y z : Option Tree) → y ≡ z → cond b x y ≡ cond b x z
cond_same b x y z e = ap (λ (o : Option Tree). cond b x o) e

by_agree : (work : Work) (tree : Option Tree) (a b : Bound) → ((name : List ℕ) → block_of a name ≡ block_of b name)
    → (name : List ℕ) → block_of (bound_by work tree a) name ≡ block_of (bound_by work tree b) name
by_agree Null tree a b same name = same name
by_agree (Read n prio) tree a b same name = same name
by_agree (Write n sum copies prio body) None a b same name = same name
by_agree (Write n sum copies prio body) (Some tree) a b same name =
    bind_if (bytes_eq n name) n name tree a refl
    ∙ (cond_same (bytes_eq n name) (Some tree) (block_of a name) (block_of b name) (same name) ∙ sym (bind_if (bytes_eq n name) n name tree b refl))
by_agree (Free n) tree a b same name =
    unbind_if (bytes_eq n name) n name a refl
    ∙ (cond_same (bytes_eq n name) None (block_of a name) (block_of b name) (same name) ∙ sym (unbind_if (bytes_eq n name) n name b refl))
by_agree (Claim n pointer) None a b same name = same name
by_agree (Claim n pointer) (Some tree) a b same name =
    bind_if (bytes_eq n name) n name tree a refl
    ∙ (cond_same (bytes_eq n name) (Some tree) (block_of a name) (block_of b name) (same name) ∙ sym (bind_if (bytes_eq n name) n name tree b refl))

unless_agree : (error : Option Errno) (e : Ended) (a b : Bound) → ((name : List ℕ) → block_of a name ≡ block_of b name)
    → (name : List ℕ) → block_of (bound_unless error e a) name ≡ block_of (bound_unless error e b) name
unless_agree None e a b same name = by_agree e.request.work e.tree a b same name
unless_agree (Some error) e a b same name = same name

-- requests that end do the same to names that agree
pub after_agree : (es : List Ended) (a b : Bound) → ((name : List ℕ) → block_of a name ≡ block_of b name)
    → (name : List ℕ) → block_of (bound_after es a) name ≡ block_of (bound_after es b) name
after_agree [] a b same name = same name
after_agree (e ∷ es) a b same name =
    after_agree es (bound_unless e.error e a) (bound_unless e.error e b) (unless_agree e.error e a b same) name

pub after_both : (xs ys : List Ended) (bound : Bound) → bound_after (xs ++ ys) bound ≡ bound_after ys (bound_after xs bound)
after_both [] ys bound = refl
after_both (x ∷ xs) ys bound = after_both xs ys (bound_unless x.error x bound)

-- ---- what finished, request by request

finished_none : (rs : List Request) → AreFinishedOf rs []
finished_none [] = tt
finished_none (r ∷ rs) = tt

apart_from : (n m k : ℕ) → k ≡ m → n < m → eqb k n ≡ false
apart_from n m k e h = false_from_ne_true (eqb k n) (λ same. let is : k ≡ n = eqb-true k n same in omega arith)

none_above : (n : ℕ) (rs : List Request) (fs : List RequestEnd) → AreFinishedOf rs fs → AllByRecursion (λ (q : Request). n < q.number) rs → finish_of fs n ≡ None
none_above n [] [] h above = refl
none_above n [] (f ∷ fs) h above = absurd h
none_above n (r ∷ rs) [] h above = refl
none_above n (r ∷ rs) (f ∷ fs) (inl h) above =
    ap (λ (b : Bool). cond b (Some f) (finish_of fs n)) (apart_from n r.number f.request h.0 above.0) ∙ none_above n rs fs h.1 above.1
none_above n (r ∷ rs) (f ∷ fs) (inr h) above = none_above n rs (f ∷ fs) h above.1

found_not : {X : Type 0} (f : RequestEnd) (o : Option RequestEnd) → o ≡ Some f → o ≡ None → X
found_not f o some none = absurd (let both = sym some ∙ none in cc)

next_if_head : (b : Bool) (f : RequestEnd) (fs ks : List RequestEnd) (r : Request) (rs : List Request) → eqb f.request r.number ≡ b
    → AreFinishedOf (r ∷ rs) (f ∷ fs) → AllByRecursion (λ (q : Request). r.number < q.number) rs
    → cond b (Some f) None ≡ cond b (Some f) (finish_of fs r.number)
next_if_head true f fs ks r rs e h above = refl
next_if_head false f fs ks r rs e (inl h) above =
    absurd (let same : eqb f.request r.number ≡ true = eq-eqb f.request r.number h.0 in let no = sym same ∙ e in cc)
next_if_head false f fs ks r rs e (inr h) above =
    sym (ap (λ (b : Bool). cond b (Some f) (finish_of fs r.number)) (sym e) ∙ none_above r.number rs (f ∷ fs) h above) ∙ refl

next_is : (r : Request) (rs : List Request) (fs : List RequestEnd) → AreFinishedOf (r ∷ rs) fs → AllByRecursion (λ (q : Request). r.number < q.number) rs
    → next_of fs r.number ≡ finish_of fs r.number
next_is r rs [] h above = refl
next_is r rs (f ∷ fs) h above = next_if_head (eqb f.request r.number) f fs [] r rs refl h above

rest_head : (b : Bool) (f : RequestEnd) (fs : List RequestEnd) (r : Request) (rs : List Request) → eqb f.request r.number ≡ b
    → AreFinishedOf (r ∷ rs) (f ∷ fs) → AllByRecursion (λ (q : Request). r.number < q.number) rs → AreFinishedOf rs (cond b fs (f ∷ fs))
rest_head true f fs r rs e (inl h) above = h.1
rest_head true f fs r rs e (inr h) above =
    found_not f (finish_of (f ∷ fs) r.number) (ap (λ (b : Bool). cond b (Some f) (finish_of fs r.number)) e) (none_above r.number rs (f ∷ fs) h above)
rest_head false f fs r rs e (inl h) above =
    absurd (let same : eqb f.request r.number ≡ true = eq-eqb f.request r.number h.0 in let no = sym same ∙ e in cc)
rest_head false f fs r rs e (inr h) above = h

rest_is : (r : Request) (rs : List Request) (fs : List RequestEnd) → AreFinishedOf (r ∷ rs) fs → AllByRecursion (λ (q : Request). r.number < q.number) rs
    → AreFinishedOf rs (rest_of fs r.number)
rest_is r rs [] h above = finished_none rs
rest_is r rs (f ∷ fs) h above = rest_head (eqb f.request r.number) f fs r rs refl h above

later_head : (b : Bool) (f : RequestEnd) (fs : List RequestEnd) (n m : ℕ) → eqb f.request n ≡ b → n < m
    → finish_of (f ∷ fs) m ≡ finish_of (cond b fs (f ∷ fs)) m
later_head true f fs n m e h =
    let is : f.request ≡ n = eqb-true f.request n e in
    let other : eqb f.request m ≡ false = false_from_ne_true (eqb f.request m) (λ same. let here : f.request ≡ m = eqb-true f.request m same in omega arith) in
    ap (λ (b : Bool). cond b (Some f) (finish_of fs m)) other
later_head false f fs n m e h = refl

later_is : (fs : List RequestEnd) (n m : ℕ) → n < m → finish_of fs m ≡ finish_of (rest_of fs n) m
later_is [] n m h = refl
later_is (f ∷ fs) n m h = later_head (eqb f.request n) f fs n m refl h

-- ---- with what answered each

module _ (r : Request) (ks : List Request) (finished fs : List RequestEnd) where
  line_if : (e : Option Errno) → AreFinishedOf (cond (is_none e) (r ∷ ks) ks) fs → AllByRecursion (λ (q : Request). r.number < q.number) ks
      → (e ≡ None → finish_of finished r.number ≡ finish_of fs r.number)
      → line_by e (next_if e fs r.number) r ≡ line_by e (finish_of finished r.number) r
  line_if None h above same = ap (λ (o : Option RequestEnd). line_by None o r) (next_is r ks fs h above ∙ sym (same refl))
  line_if (Some e) h above same = refl

  ends_if : (e : Option Errno) → AreFinishedOf (cond (is_none e) (r ∷ ks) ks) fs → AllByRecursion (λ (q : Request). r.number < q.number) ks
      → (e ≡ None → finish_of finished r.number ≡ finish_of fs r.number)
      → ended_by e (next_if e fs r.number) r ≡ ended_by e (finish_of finished r.number) r
  ends_if None h above same = ap (λ (o : Option RequestEnd). ended_by None o r) (next_is r ks fs h above ∙ sym (same refl))
  ends_if (Some e) h above same = refl

  left_if : (e : Option Errno) → AreFinishedOf (cond (is_none e) (r ∷ ks) ks) fs → AllByRecursion (λ (q : Request). r.number < q.number) ks
      → AreFinishedOf ks (rest_if e fs r.number)
  left_if None h above = rest_is r ks fs h above
  left_if (Some e) h above = h

  same_if : (e : Option Errno) (m : ℕ) → r.number < m → finish_of fs m ≡ finish_of (rest_if e fs r.number) m
  same_if None m h = later_is fs r.number m h
  same_if (Some e) m h = refl

above_kept : (P : Request → Bool) (n : ℕ) (rs : List Request) → AllByRecursion (λ (q : Request). n < q.number) rs → AllByRecursion (λ (q : Request). n < q.number) (filter P rs)
above_kept P n [] h = tt
above_kept P n (r ∷ rs) h = go (P r) (above_kept P n rs h.1)
  where
    go : (b : Bool) → AllByRecursion (λ (q : Request). n < q.number) (filter P rs) → AllByRecursion (λ (q : Request). n < q.number) (cond b (r ∷ filter P rs) (filter P rs))
    go true rest = (h.0, rest)
    go false rest = rest

-- ---- the lines so far

abbrev pub kept_of : (ℕ → Option Errno) → List Request → List Request
kept_of error rs = filter (λ (r : Request). is_none (error r.number)) rs

-- these lines and bound names are those of the requests so far, where these lines of the script and these ends are left
pub record IsTelling (error : ℕ → Option Errno) (finished : List RequestEnd) (batch : List Request) (old : List (List ℕ × Tree)) (rest : List Item) (fs : List RequestEnd) (lines : List ReportLine) (bound : List (List ℕ × Tree)) (front : List Request) : Type 0 where
  pub all : front ++ requests_of rest ≡ batch
  pub rising : AreRising (requests_of rest)
  pub left_is : AreFinishedOf (kept_of error (requests_of rest)) fs
  pub same : AllByRecursion (λ (q : Request). error q.number ≡ None → finish_of finished q.number ≡ finish_of fs q.number) (requests_of rest)
  pub lines_are : lines ≡ map (line_told error finished) front
  pub bound_is : (name : List ℕ) → named_in bound name ≡ block_of (bound_after (ended_told error finished front) (names_of old)) name

same_itself : (error : ℕ → Option Errno) (finished : List RequestEnd) (rs : List Request)
    → AllByRecursion (λ (q : Request). error q.number ≡ None → finish_of finished q.number ≡ finish_of finished q.number) rs
same_itself error finished [] = tt
same_itself error finished (r ∷ rs) = (λ e. refl, same_itself error finished rs)

pub telling_start : (error : ℕ → Option Errno) (finished : List RequestEnd) (items : List Item) (old : List (List ℕ × Tree)) (lines : List ReportLine)
    → AreRising (requests_of items) → AreFinishedOf (kept_of error (requests_of items)) finished → lines ≡ []
    → IsTelling error finished (requests_of items) old items finished lines old []
telling_start error finished items old lines rising left none = record {
  all = refl;
  rising = rising;
  left_is = left;
  same = same_itself error finished (requests_of items);
  lines_are = none;
  bound_is = λ name. named_of name old;
}

ended_more : (error : ℕ → Option Errno) (finished : List RequestEnd) (front : List Request) (r : Request)
    → ended_told error finished (front ++ r ∷ []) ≡ ended_told error finished front ++ ended_by (error r.number) (finish_of finished r.number) r
ended_more error finished [] r = append-nil (ended_by (error r.number) (finish_of finished r.number) r)
ended_more error finished (q ∷ qs) r =
    ap (λ (es : List Ended). ended_by (error q.number) (finish_of finished q.number) q ++ es) (ended_more error finished qs r)
    ∙ sym (append_assoc (ended_by (error q.number) (finish_of finished q.number) q) (ended_told error finished qs) (ended_by (error r.number) (finish_of finished r.number) r))

telling_same : (error : ℕ → Option Errno) (finished : List RequestEnd) (batch : List Request) (old : List (List ℕ × Tree)) (rest : List Item) (fs : List RequestEnd)
    (lines : List ReportLine) (bound after : List (List ℕ × Tree)) (front : List Request)
    → IsTelling error finished batch old rest fs lines bound front
    → ((name : List ℕ) → named_in after name ≡ block_of (names_of bound) name)
    → IsTelling error finished batch old rest fs (lines ++ []) after (front ++ [])
telling_same error finished batch old rest fs lines bound after front h done =
    subst (λ (ls : List ReportLine). IsTelling error finished batch old rest fs ls after (front ++ [])) (sym (append-nil lines))
    (subst (λ (rs : List Request). IsTelling error finished batch old rest fs lines after rs) (sym (append-nil front))
    (record {
      all = h.all;
      rising = h.rising;
      left_is = h.left_is;
      same = h.same;
      lines_are = h.lines_are;
      bound_is = λ name. done name ∙ (sym (named_of name bound) ∙ h.bound_is name);
    }))

pub telling_next : (error : ℕ → Option Errno) (finished : List RequestEnd) (batch : List Request) (old : List (List ℕ × Tree)) (item : Item) (rest : List Item) (fs : List RequestEnd)
    (lines : List ReportLine) (bound after : List (List ℕ × Tree)) (front : List Request)
    → IsTelling error finished batch old (item ∷ rest) fs lines bound front
    → ((name : List ℕ) → named_in after name ≡ block_of (bound_after (ends_by error fs item) (names_of bound)) name)
    → IsTelling error finished batch old rest (left_by error fs item) (lines ++ lines_by error fs item) after (front ++ requests_of (item ∷ []))
telling_next error finished batch old (RequestLine r) rest fs lines bound after front h done =
    let ks : List Request = kept_of error (requests_of rest) in
    let above : AllByRecursion (λ (q : Request). r.number < q.number) ks =
    above_kept (λ (q : Request). is_none (error q.number)) r.number (requests_of rest) h.rising.0 in
    let ends : ended_by (error r.number) (next_if (error r.number) fs r.number) r ≡ ended_by (error r.number) (finish_of finished r.number) r =
    ends_if r ks finished fs (error r.number) h.left_is above h.same.0 in
    record {
      all = append_assoc front (r ∷ []) (requests_of rest) ∙ h.all;
      rising = h.rising.1;
      left_is = left_if r ks finished fs (error r.number) h.left_is above;
      same = all_both (λ (q : Request). r.number < q.number) (λ (q : Request). error q.number ≡ None → finish_of finished q.number ≡ finish_of fs q.number)
          (λ (q : Request). error q.number ≡ None → finish_of finished q.number ≡ finish_of (rest_if (error r.number) fs r.number) q.number) (requests_of rest)
          (λ q low same e. same e ∙ same_if r ks finished fs (error r.number) q.number low) h.rising.0 h.same.1;
      lines_are = ap (λ (ls : List ReportLine). ls ++ line_by (error r.number) (next_if (error r.number) fs r.number) r ∷ []) h.lines_are
          ∙ (ap (λ (l : ReportLine). map (line_told error finished) front ++ l ∷ []) (line_if r ks finished fs (error r.number) h.left_is above h.same.0)
          ∙ sym (map-append (line_told error finished) front (r ∷ [])));
      bound_is = λ name. done name
          ∙ (ap (λ (es : List Ended). block_of (bound_after es (names_of bound)) name) ends
          ∙ (after_agree (ended_by (error r.number) (finish_of finished r.number) r) (names_of bound) (bound_after (ended_told error finished front) (names_of old))
          (λ other. sym (named_of other bound) ∙ h.bound_is other) name
          ∙ (ap (λ (b : Bound). block_of b name) (sym (after_both (ended_told error finished front) (ended_by (error r.number) (finish_of finished r.number) r) (names_of old)))
          ∙ ap (λ (es : List Ended). block_of (bound_after es (names_of old)) name) (sym (ended_more error finished front r)))));
    }
telling_next error finished batch old Go rest fs lines bound after front h done = telling_same error finished batch old rest fs lines bound after front
    (record { all = h.all; rising = h.rising; left_is = h.left_is; same = h.same; lines_are = h.lines_are; bound_is = h.bound_is }) done
telling_next error finished batch old Clear rest fs lines bound after front h done = telling_same error finished batch old rest fs lines bound after front
    (record { all = h.all; rising = h.rising; left_is = h.left_is; same = h.same; lines_are = h.lines_are; bound_is = h.bound_is }) done

-- a line without a request does nothing to the names
pub no_request : (error : ℕ → Option Errno) (fs : List RequestEnd) (old : List (List ℕ × Tree)) (name : List ℕ) (item : Item)
    → (item ≡ Go) ⊎ (item ≡ Clear) → named_in old name ≡ block_of (bound_after (ends_by error fs item) (names_of old)) name
no_request error fs old name item (inl is) =
    named_of name old ∙ ap (λ (i : Item). block_of (bound_after (ends_by error fs i) (names_of old)) name) (sym is)
no_request error fs old name item (inr is) =
    named_of name old ∙ ap (λ (i : Item). block_of (bound_after (ends_by error fs i) (names_of old)) name) (sym is)

-- at the end the requests so far are all
pub telling_end : (error : ℕ → Option Errno) (finished : List RequestEnd) (batch : List Request) (old : List (List ℕ × Tree)) (fs : List RequestEnd) (lines : List ReportLine)
    (bound : List (List ℕ × Tree)) (front : List Request) → IsTelling error finished batch old [] fs lines bound front
    → IsTelling error finished batch old [] fs lines bound batch
telling_end error finished batch old fs lines bound front h =
    let same : front ≡ batch = sym (append-nil front) ∙ h.all in
    subst (λ (rs : List Request). IsTelling error finished batch old [] fs lines bound rs) same h

-- ---- lines that can be shown

sized_whole : (tree : Option Tree) → IsWhole (sized_by tree)
sized_whole None = tt
sized_whole (Some tree) = tt

good_whole : (kind : Kind) (e : Ended) → length e.bytes % 512 ≡ 0 → IsWhole (good_result kind e)
good_whole NullKind e h = tt
good_whole ReadKind e h = h
good_whole WriteKind e h = sized_whole e.tree
good_whole FreeKind e h = tt
good_whole ClaimKind e h = tt

result_whole : (error : Option Errno) (e : Ended) → length e.bytes % 512 ≡ 0 → IsWhole (result_with error e)
result_whole None e h = good_whole (kind_of e.request.work) e h
result_whole (Some error) e h = tt

line_whole : (e : Option Errno) (o : Option RequestEnd) (r : Request) → ((f : RequestEnd) → o ≡ Some f → length f.bytes % 512 ≡ 0) → IsWhole (line_by e o r).result
line_whole (Some e) o r h = tt
line_whole None None r h = tt
line_whole None (Some f) r h = result_whole f.error (ended_as r f) (h f refl)

found_holds_if : (P : RequestEnd → Type 0) (b : Bool) (f g : RequestEnd) (o : Option RequestEnd) → P f → ((x : RequestEnd) → o ≡ Some x → P x) → cond b (Some f) o ≡ Some g → P g
found_holds_if P true f g o p later e = subst P (let same : f ≡ g = cc in same) p
found_holds_if P false f g o p later e = later g e

pub found_holds : (P : RequestEnd → Type 0) (fs : List RequestEnd) (n : ℕ) (g : RequestEnd) → AllByRecursion P fs → finish_of fs n ≡ Some g → P g
found_holds P [] n g h e = absurd (let no = e in cc)
found_holds P (f ∷ fs) n g h e = found_holds_if P (eqb f.request n) f g (finish_of fs n) h.0 (λ x is. found_holds P fs n x h.1 is) e

-- the bytes of what finished are whole sectors, so its lines can be shown
pub lines_whole : (error : ℕ → Option Errno) (finished : List RequestEnd) (requests : List Request)
    → AllByRecursion (λ (f : RequestEnd). length f.bytes % 512 ≡ 0) finished → AreWhole (map (line_told error finished) requests)
lines_whole error finished [] h = tt
lines_whole error finished (r ∷ rs) h = (
  line_whole (error r.number) (finish_of finished r.number) r (λ f e. found_holds (λ (x : RequestEnd). length x.bytes % 512 ≡ 0) finished r.number f h e),
  lines_whole error finished rs h,
)
