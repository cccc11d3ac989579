-- A request more, in what is kept of the lines of any form.
use Rattle.std.proofs.Common.{◌≡◌, ◌≤◌, ◌<◌, ◌+◌, ℕ, List, [], ◌∷◌, ◌++◌, length, map, fold, refl, sym, ap, ◌∙◌, Bool, true, false, not, cond, ◌&&◌, ◌||◌, nat_le, Option, Some, None, arith}
use Rattle.std.proofs.lemmas.Bool.{and_parts, leb-true, lt-leb, not-false}
use Rattle.std.proofs.lemmas.List.{map-append}
use Rattle.std.proofs.lemmas.List.Folds.{list_any-append}
use Rattle.std.proofs.lemmas.List.Sums.{fold-append}
use Rattle.std.specs.Prelude.{bytes_eq, count_by, sum}
use Rattle.std.specs.Ordering.{is_eq, nat_cmp}
use Rattle.std.specs.List.{AllByRecursion, list_any}
use Rattle.zio_script.specs.declared.builder.Builder.{Builder}
use Rattle.zio_script.specs.declared.limits.TheConstants.{BATCH_LEN_MAX, NUMBER_MAX}
use Rattle.zio_script.specs.declared.names.BatchNames.{BatchNames}
use Rattle.zio_script.specs.declared.open_batch.RequestMark.{RequestMark}
use Rattle.zio_script.specs.declared.open_batch.OpenBatch.{OpenBatch}
use Rattle.zio_script.specs.declared.open_batch.Stand.{Stand}
use Rattle.zio_script.specs.declared.script.Item.{Item}
use Rattle.zio_script.specs.declared.script.Item.TheVariants.{Request as RequestItem}
use Rattle.zio_script.specs.declared.script.Request.{Request}
use Rattle.zio_script.specs.declared.script.Work.{Work}
use Rattle.zio_script.specs.declared.why.Why.TheVariants.{Limit, Order, Name, Conflict, Flag, Parent}
use Rattle.zio_script.specs.Accepted.{AreBehindParents, HasParentIn}
use Rattle.zio_script.specs.Builders.{AreLimited, IsKept, IsNamed, asked_of, batch_of, script_of}
use Rattle.zio_script.specs.Grammar.{script_with}
use Rattle.zio_script.specs.Keys.{AreBegun, has_key, name_key}
use Rattle.zio_script.specs.Lines.{NewRequest, RequestLine}
use Rattle.zio_script.specs.NewLines.{request_made}
use Rattle.zio_script.specs.OpenBatches.{AddsWork, AddsWorkBy, IsBatch, IsStand, depth_at, is_clash, is_clash_by, is_full_at, is_owned_in, is_shared, is_shared_in, mark_in, marks_after, marks_of, must_at, new_mark, work_len}
use Rattle.zio_script.specs.Requests.{is_under_number, kind_of, name_of, names_it, requests_of}
use Rattle.zio_script.specs.Whys.{are_too_large, batch_after, breaks_limit, children_in, clashes, depth_under, falls_back, fits_asked, fits_work, has_bad_parent, if_so, is_claim, is_clear, is_misnamed, is_number, is_number_if, is_read, is_taken, least_why, may_fail, may_share, must_parent, parent_in, request_in, request_whys, says_canfail, shares_with_claim, sizes_with, tells_reads_apart, writes_under}
use Rattle.zio_script.specs.Words.{is_empty, is_name}
use Rattle.zio_script.proofs.AcceptedLemmas.{lower, no_child_yet, open_passes, parent_there, request_orderly, rising_more, sizes_same, not_under}
use Rattle.zio_script.proofs.BatchSizeLemmas.{AreSized, TooLarge, Fit, stand_within}
use Rattle.zio_script.proofs.ListLemmas.{all_more, counts_none, or_false, or_left_false, or_moved, or_right_false, requests-append, rises_to}
use Rattle.zio_script.proofs.KeyLemmas.{same_key}
use Rattle.zio_script.proofs.MarkLemmas.{NotUnder, depth_stays, none_under_later, tidy_more}
use Rattle.zio_script.proofs.StandLemmas.{depth_is, full_is, must_is, others_after}

-- ---- why 3

pub limited_is : (batch : List Request) (asked : NewRequest) (size : Option ℕ) → fits_asked asked ≡ true → length batch < BATCH_LEN_MAX
    → AreSized (sizes_with batch (request_in batch asked)) size → AreLimited batch asked size
limited_is batch asked None fits few (TooLarge are) =
    rw (fits, lt-leb BATCH_LEN_MAX (length batch) few, are) refl
limited_is batch asked (Some size) fits few (Fit are) =
    (rw (fits, lt-leb BATCH_LEN_MAX (length batch) few, are) refl, refl)

-- ---- names

no_name : (apart : Bool) (work : Work) (batch : List Request) → name_of work ≡ None → list_any (λ (r : Request). clashes apart work r.work) batch ≡ false
no_name apart work [] none = refl
no_name apart work (r ∷ batch) none = rw none (no_name apart work batch none)

-- a request of this name shares its block or not
either : (name apart reads own_reads written read any : Bool) → any ≡ (written || not (not apart && reads) && read)
    → (name && not (not apart && reads && own_reads) || any)
    ≡ ((name && not (not apart && own_reads) || written) || not (not apart && reads) && (name && (not apart && own_reads) || read))
either false apart reads own_reads written read any is = is
either true true reads own_reads written read any is = refl
either true false true true written read any is = is
either true false true false written read any is = refl
either true false false true written read any is = shift written
  where
    shift : (a : Bool) → true ≡ (a || true)
    shift false = refl
    shift true = refl
either true false false false written read any is = refl

taken_of : (apart : Bool) (batch : List Request) (name : List ℕ) (work : Work) → name_of work ≡ Some name
    → list_any (λ (r : Request). clashes apart work r.work) batch ≡ (is_owned_in apart batch name || not (is_shared apart work) && is_shared_in apart batch name)
taken_of apart [] name work is = ends (not (is_shared apart work))
  where
    ends : (a : Bool) → false ≡ (a && false)
    ends false = refl
    ends true = refl
taken_of apart (r ∷ batch) name work is =
    ap (λ (named : Option (List ℕ)). names_it named (name_of r.work) && not (may_share apart work r.work) || list_any (λ (q : Request). clashes apart work q.work) batch) is
    ∙ either (names_it (Some name) (name_of r.work)) apart (is_read (kind_of work)) (is_read (kind_of r.work)) (is_owned_in apart batch name) (is_shared_in apart batch name)
    (list_any (λ (q : Request). clashes apart work q.work) batch) (taken_of apart batch name work is)

clash_by : (apart : Bool) (batch : List Request) (kept : OpenBatch) (work : Work) (name : Option (List ℕ)) → name_of work ≡ name → is_misnamed name ≡ false → IsBatch apart batch kept
    → is_clash_by name kept.names (is_shared apart work) ≡ list_any (λ (r : Request). clashes apart work r.work) batch
clash_by apart batch kept work None is named kept_is = sym (no_name apart work batch is)
clash_by apart batch kept work (Some name) is named kept_is =
    let is_one : is_name name ≡ true = not-false (is_name name) named in
    rw (kept_is.written name is_one, kept_is.read name is_one) (sym (taken_of apart batch name work is))

pub clash_is : (apart : Bool) (batch : List Request) (kept : OpenBatch) (work : Work) → is_misnamed (name_of work) ≡ false → IsBatch apart batch kept
    → is_clash kept.names apart work ≡ list_any (λ (r : Request). clashes apart work r.work) batch
clash_is apart batch kept work named is = clash_by apart batch kept work (name_of work) refl named is

and_one : (a : Bool) → (a && true) ≡ a
and_one false = refl
and_one true = refl

named_by : (apart own : Bool) (batch : List Request) (r : Request) (old new : BatchNames) (name other : List ℕ) → name_of r.work ≡ Some other → is_name name ≡ true → is_name other ≡ true
    → (had : Bool) → (of : Work → Bool) → of r.work ≡ own → had ≡ list_any (λ (q : Request). names_it (Some name) (name_of q.work) && of q.work) batch
    → (own && is_eq (nat_cmp (name_key name) (name_key other)) || had) ≡ list_any (λ (q : Request). names_it (Some name) (name_of q.work) && of q.work) (batch ++ r ∷ [])
named_by apart own batch r old new name other is one two had of own_is had_is =
    rw (list_any-append, is, own_is, had_is, same_key name other one two) (or_moved own (bytes_eq name other) (list_any (λ (q : Request). names_it (Some name) (name_of q.work) && of q.work) batch))

unnamed_by : (batch : List Request) (r : Request) (name : List ℕ) (of : Work → Bool) → name_of r.work ≡ None
    → list_any (λ (q : Request). names_it (Some name) (name_of q.work) && of q.work) batch ≡ list_any (λ (q : Request). names_it (Some name) (name_of q.work) && of q.work) (batch ++ r ∷ [])
unnamed_by batch r name of is = rw (list_any-append, is) (sym (or_false (list_any (λ (q : Request). names_it (Some name) (name_of q.work) && of q.work) batch)))

-- the names of a batch with one more request
pub record AreNamesOf (apart : Bool) (batch : List Request) (names : BatchNames) : Type 0 where
  pub read : (name : List ℕ) → is_name name ≡ true → has_key names.read (name_key name) ≡ is_shared_in apart batch name
  pub written : (name : List ℕ) → is_name name ≡ true → has_key names.written (name_key name) ≡ is_owned_in apart batch name

names_by : (apart : Bool) (batch : List Request) (kept : OpenBatch) (r : Request) (new : BatchNames) (name : Option (List ℕ)) → name_of r.work ≡ name → is_misnamed name ≡ false
    → IsBatch apart batch kept → AddsWorkBy name kept.names (is_shared apart r.work) new → AreNamesOf apart (batch ++ r ∷ []) new
names_by apart batch kept r new None is named kept_is adds = record {
  read = λ other one. ap (λ (names : BatchNames). has_key names.read (name_key other)) adds ∙ kept_is.read other one ∙ unnamed_by batch r other (is_shared apart) is;
  written = λ other one. ap (λ (names : BatchNames). has_key names.written (name_key other)) adds ∙ kept_is.written other one ∙ unnamed_by batch r other (λ work. not (is_shared apart work)) is;
}
names_by apart batch kept r new (Some name) is named kept_is adds =
    let is_one : is_name name ≡ true = not-false (is_name name) named in
    record {
      read = λ other one. adds.read (name_key other)
          ∙ named_by apart (is_shared apart r.work) batch r kept.names new other name is one is_one (has_key kept.names.read (name_key other)) (is_shared apart) refl (kept_is.read other one);
      written = λ other one. adds.written (name_key other)
          ∙ named_by apart (not (is_shared apart r.work)) batch r kept.names new other name is one is_one (has_key kept.names.written (name_key other)) (λ work. not (is_shared apart work)) refl (kept_is.written other one);
    }

pub names_more : (apart : Bool) (batch : List Request) (kept : OpenBatch) (r : Request) (new : BatchNames) → is_misnamed (name_of r.work) ≡ false
    → IsBatch apart batch kept → AddsWork kept.names apart r.work new → AreNamesOf apart (batch ++ r ∷ []) new
names_more apart batch kept r new named is adds = names_by apart batch kept r new (name_of r.work) refl named is adds

-- ---- the whys of a named request

pub whys_are : (b : Builder) (r : Request) (flag : Option Bool) (stand : Stand) (size : ℕ) → IsKept b → IsNamed b r flag stand size
    → least_why (request_whys (script_of b) (batch_of b) (asked_of r flag))
    ≡ cond (is_clash b.batch.names b.apart r.work) (Some Conflict)
    (cond (says_canfail flag && must_at b.batch stand) (Some Flag)
    (cond (is_full_at b.batch (kind_of r.work) stand || shares_with_claim (batch_of b) (kind_of r.work)) (Some Parent) None))
whys_are b r flag stand size kept named =
    by_three (breaks_limit (batch_of b) (asked_of r flag)) (is_empty b.tops || falls_back (script_of b) r.number) (is_misnamed (name_of r.work))
    (is_taken (script_of b) (batch_of b) r.work) (is_clash b.batch.names b.apart r.work)
    (says_canfail flag && must_parent (parent_in (batch_of b) r.under)) (says_canfail flag && must_at b.batch stand)
    (has_bad_parent (batch_of b) (kind_of r.work) r.under || shares_with_claim (batch_of b) (kind_of r.work))
    (is_full_at b.batch (kind_of r.work) stand || shares_with_claim (batch_of b) (kind_of r.work))
    named.within named.above named.named
    (ap (λ (apart : Bool). list_any (λ (q : Request). clashes apart r.work q.work) (batch_of b)) (sym kept.apart) ∙ sym (clash_is b.apart (batch_of b) b.batch r.work named.named kept.batch))
    (ap (λ (must : Bool). says_canfail flag && must) (sym (must_is (batch_of b) b.batch r.under stand named.stands)))
    (ap (λ (full : Bool). full || shares_with_claim (batch_of b) (kind_of r.work)) (sym (full_is b.apart (batch_of b) b.batch (kind_of r.work) r.under stand kept.batch named.stands)))
  where
    by_three : (a b c d d2 e e2 f f2 : Bool) → a ≡ false → b ≡ false → c ≡ false → d ≡ d2 → e ≡ e2 → f ≡ f2
        → least_why (if_so Limit a ∷ if_so Order b ∷ if_so Name c ∷ if_so Conflict d ∷ if_so Flag e ∷ if_so Parent f ∷ [])
        ≡ cond d2 (Some Conflict) (cond e2 (Some Flag) (cond f2 (Some Parent) None))
    by_three a b c true d2 e e2 f f2 no_a no_b no_c d_is e_is f_is = rw (no_a, no_b, no_c, ← d_is) refl
    by_three a b c false d2 true e2 f f2 no_a no_b no_c d_is e_is f_is = rw (no_a, no_b, no_c, ← d_is, ← e_is) refl
    by_three a b c false d2 false e2 true f2 no_a no_b no_c d_is e_is f_is = rw (no_a, no_b, no_c, ← d_is, ← e_is, ← f_is) refl
    by_three a b c false d2 false e2 false f2 no_a no_b no_c d_is e_is f_is = rw (no_a, no_b, no_c, ← d_is, ← e_is, ← f_is) refl

pub fits_parts : (asked : NewRequest) → fits_asked asked ≡ true → (is_number asked.number ≡ true) × (is_number_if asked.under ≡ true) × (fits_work asked.work ≡ true)
fits_parts asked fits = parts (is_number asked.number) (is_number_if asked.under) (fits_work asked.work) fits
  where
    parts : (a b c : Bool) → (a && b && c) ≡ true → (a ≡ true) × (b ≡ true) × (c ≡ true)
    parts true true true is = (refl, refl, refl)
    parts true true false is = let no : ⊥ = cc in absurd no
    parts true false c is = let no : ⊥ = cc in absurd no
    parts false b c is = let no : ⊥ = cc in absurd no

-- ---- the batch with the request

new_mark_is : (batch : List Request) (r : Request) (depth : ℕ) → depth ≡ depth_under (batch ++ r ∷ []) r.under → children_in (batch ++ r ∷ []) r.number ≡ 0
    → writes_under (batch ++ r ∷ []) r.number ≡ 0
    → ◌≡◌ {A = RequestMark} (record { number = r.number; kind = kind_of r.work; canfail = r.canfail; depth = depth; children = 0; writes = 0; len = work_len r.work }) (mark_in (batch ++ r ∷ []) r)
new_mark_is batch r depth depth_is children writes = rw (depth_is, children, writes) refl

marks_behind : (batch : List Request) (r : Request) (stand : Stand) (old new : List RequestMark) (mark : RequestMark) → old ≡ marks_of batch
    → map (mark_in (batch ++ r ∷ [])) batch ≡ marks_after (marks_of batch) stand (kind_of r.work) → mark ≡ mark_in (batch ++ r ∷ []) r
    → new ≡ marks_after old stand (kind_of r.work) ++ mark ∷ [] → new ≡ marks_of (batch ++ r ∷ [])
marks_behind batch r stand old new mark old_is others mark_is new_is =
    new_is ∙ ap (λ (marks : List RequestMark). marks_after marks stand (kind_of r.work) ++ mark ∷ []) old_is
    ∙ ap (λ (m : RequestMark). marks_after (marks_of batch) stand (kind_of r.work) ++ m ∷ []) mark_is
    ∙ ap (λ (marks : List RequestMark). marks ++ mark_in (batch ++ r ∷ []) r ∷ []) (sym others)
    ∙ sym (map-append (mark_in (batch ++ r ∷ [])) batch (r ∷ []))

-- a request to which no why applies
pub record IsAdmitted (b : Builder) (r : Request) (stand : Stand) : Type 0 where
  pub full : is_full_at b.batch (kind_of r.work) stand ≡ false

lows : (b : Builder) (r : Request) (flag : Option Bool) (stand : Stand) (size : ℕ) → IsNamed b r flag stand size → AllByRecursion (λ (q : Request). q.number < r.number) (batch_of b)
lows b r flag stand size named =
    let falls : falls_back (script_of b) r.number ≡ false = or_right_false (is_empty b.tops) (falls_back (script_of b) r.number) named.above in
    lower (batch_of b) r.number (open_passes (λ (q : Request). nat_le r.number q.number) [] b.items refl falls)

pub batch_more : (b : Builder) (r : Request) (flag : Option Bool) (stand : Stand) (size : ℕ) (new : OpenBatch) → IsKept b → IsNamed b r flag stand size
    → is_full_at b.batch (kind_of r.work) stand ≡ false → new.marks.items ≡ marks_after b.batch.marks.items stand (kind_of r.work) ++ new_mark b.batch r stand ∷ []
    → new.size ≡ size → new.has_claim ≡ (b.batch.has_claim || is_claim (kind_of r.work)) → AreBegun new.names → AreNamesOf b.apart (batch_of b ++ r ∷ []) new.names
    → IsBatch b.apart (batch_of b ++ r ∷ []) new
batch_more b r flag stand size new kept named full marks size_is claim begun names =
    let batch = batch_of b in
    let low = lows b r flag stand size named in
    let good : has_bad_parent batch (kind_of r.work) r.under ≡ false
    = sym (full_is b.apart batch b.batch (kind_of r.work) r.under stand kept.batch named.stands) ∙ full in
    let there : HasParentIn batch (kind_of r.work) r.under = parent_there batch (kind_of r.work) r.under good in
    let behind : AreBehindParents [] batch = kept.orderly.last.parents in
    let own : is_under_number r.under r.number ≡ false = not_under (kind_of r.work) r.under batch r.number there low in
    let past : AllByRecursion (NotUnder r.number) batch = none_under_later batch r.number behind low in
    let writes : writes_under (batch ++ r ∷ []) r.number ≡ 0 = no_child_yet batch r behind there low in
    let children : children_in (batch ++ r ∷ []) r.number ≡ 0
    = counts_none (λ (q : Request). is_under_number q.under r.number) 0 (batch ++ r ∷ []) (all_more (NotUnder r.number) batch r past own) in
    let depth : depth_at b.batch stand ≡ depth_under (batch ++ r ∷ []) r.under
    = depth_is b.apart batch b.batch (kind_of r.work) r.under stand kept.batch named.stands full ∙ sym (depth_stays batch r r.under own) in
    record {
      marks = marks_behind batch r stand b.batch.marks.items new.marks.items (new_mark b.batch r stand) kept.batch.marks
          (others_after b.apart batch b.batch r stand kept.batch named.stands past)
          (new_mark_is batch r (depth_at b.batch stand) depth children writes) marks;
      size = size_is ∙ named.sized ∙ ap sum (sym (sizes_same batch r writes));
      claim = claim ∙ (rw (kept.batch.claim, list_any-append) (ap (λ (one : Bool). list_any (λ (q : Request). is_claim (kind_of q.work)) batch || one) (sym (or_false (is_claim (kind_of r.work))))));
      begun = begun;
      read = names.read;
      written = names.written;
      rising = rising_more batch r kept.batch.rising low;
      tidy = tidy_more batch r kept.batch.tidy behind low own;
    }

-- ---- the lines with the request

pub kept_request : (b : Builder) (r : Request) (flag : Option Bool) (stand : Stand) (size : ℕ) (items : List Item) (batch : OpenBatch) → IsKept b → IsNamed b r flag stand size
    → least_why (request_whys (script_of b) (batch_of b) (asked_of r flag)) ≡ None → items ≡ b.items ++ RequestItem r ∷ [] → IsBatch b.apart (batch_of b ++ r ∷ []) batch
    → IsKept (record b { begun = true; items = items; last = r.number; batch = batch })
kept_request b r flag stand size items batch kept named none is more =
    let open_is : fold batch_after [] items ≡ batch_of b ++ r ∷ [] = rw is (fold-append batch_after [] b.items (RequestItem r ∷ [])) in
    let numbers : requests_of items ≡ requests_of b.items ++ r ∷ [] = rw is (requests-append b.items (RequestItem r ∷ [])) in
    let counted : count_by is_clear (b.items ++ RequestItem r ∷ []) ≡ count_by is_clear b.items + 0 = fold-append _ 0 b.items (RequestItem r ∷ []) in
    let same : count_by is_clear (b.items ++ RequestItem r ∷ []) ≡ count_by is_clear b.items = omega arith in
    let above : b.last < r.number = named.last in
    record {
      batch = rw open_is more;
      orderly = rw (is, ← named.made) (request_orderly (script_of b) (asked_of r flag) kept.orderly none);
      apart = kept.apart;
      seen = kept.seen;
      last = λ n low. rw (numbers, list_any-append, kept.last n low) (rises_to n b.last r.number (omega arith));
      clears = rw (is, kept.clears) (sym same);
      most = kept.most;
    }

pub named_next : (b : Builder) (r : Request) (flag : Option Bool) (stand : Stand) (size : ℕ) (items : List Item) (batch : OpenBatch) → IsNamed b r flag stand size → items ≡ b.items ++ RequestItem r ∷ []
    → script_with (script_of b) (RequestLine (asked_of r flag)) ≡ record { begun = true; script = record { failmode = b.failmode; tops = b.tops; faults = b.faults; items = items } }
named_next b r flag stand size items batch named is = rw (is, named.made) refl

-- ---- a request that is named

pub fits_of : (batch : List Request) (asked : NewRequest) → breaks_limit batch asked ≡ false → fits_asked asked ≡ true
fits_of batch asked within =
    let large = are_too_large (sizes_with batch (request_in batch asked)) in
    let full = nat_le BATCH_LEN_MAX (length batch) in
    not-false (fits_asked asked) (or_left_false (not (fits_asked asked)) full (or_left_false (not (fits_asked asked) || full) large within))

pub named_of : (b : Builder) (asked : NewRequest) (r : Request) (stand : Stand) (size : ℕ) (canfail : Bool) → IsKept b → breaks_limit (batch_of b) asked ≡ false
    → size ≡ sum (sizes_with (batch_of b) (request_in (batch_of b) asked)) → is_empty b.tops ≡ false → b.last < asked.number → r ≡ request_made asked canfail
    → canfail ≡ may_fail asked.flag (parent_in (batch_of b) asked.under) (kind_of asked.work) → is_misnamed (name_of asked.work) ≡ false
    → IsStand (batch_of b) b.batch asked.under stand → IsNamed b r asked.flag stand size
named_of b asked r stand size canfail kept within sized tops above is can named stands =
    let fits : fits_asked asked ≡ true = fits_of (batch_of b) asked within in
    let parts = fits_parts asked fits in
    let low : 1 ≤ asked.number = leb-true 1 asked.number (and_parts (nat_le 1 asked.number) (nat_le asked.number NUMBER_MAX) parts.0).0 in
    let made : request_in (batch_of b) asked ≡ request_made asked canfail = ap (λ (may : Bool). request_made asked may) (sym can) in
    rw is (record {
      within = within;
      above = rw (tops, kept.last asked.number low) (lt-leb asked.number b.last above);
      named = named;
      made = made;
      stands = stands;
      sized = sized ∙ ap (λ (q : Request). sum (sizes_with (batch_of b) q)) made;
      last = above;
      fits = parts.2;
      inside = stand_within b.apart (tells_reads_apart (script_of b)) (batch_of b) b.batch asked.under stand kept.batch kept.orderly.last stands;
    })

pub same_asked : (asked : NewRequest) (r : Request) (canfail : Bool) → r ≡ request_made asked canfail → asked_of r asked.flag ≡ asked
same_asked asked r canfail is = rw is refl
