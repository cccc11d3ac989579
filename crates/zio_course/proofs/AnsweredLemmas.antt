-- The completions of answered requests, from the back of a batch.
use Rattle.std.proofs.Common.{◌≡◌, ℕ, List, [], ◌∷◌, ◌++◌, reverse, Option, Some, None, refl, sym, ap, ◌∙◌, append_assoc}
use Rattle.std.proofs.lemmas.List.{reverse-append}
use Rattle.zio_types.specs.declared.error.Errno.{Errno}
use Rattle.zio_types.specs.declared.journal.Completion.{Completion}
use Rattle.zio_script.specs.declared.script.Item.{Item}
use Rattle.zio_script.specs.declared.script.Item.TheVariants.{Request as RequestLine, Go, Clear}
use Rattle.zio_script.specs.declared.script.Request.{Request}
use Rattle.zio_script.specs.Requests.{requests_of}
use Rattle.zio_course.specs.Answered.{answer_of, answered_by, answered_in}
use Rattle.zio_course.proofs.PlantLemmas.{requests_both}

one_back : (e : Option Errno) (round : ℕ) (r : Request) → answer_of e round r ++ [] ≡ reverse (answer_of e round r ++ [])
one_back None round r = refl
one_back (Some e) round r = refl

line_back : (error : ℕ → Option Errno) (round : ℕ) (item : Item) → answered_by error round item ≡ reverse (answered_by error round item)
line_back error round (RequestLine r) = one_back (error r.number) round r
line_back error round Go = refl
line_back error round Clear = refl

answered_both : (error : ℕ → Option Errno) (round : ℕ) (xs ys : List Request) → answered_in error round (xs ++ ys) ≡ answered_in error round xs ++ answered_in error round ys
answered_both error round [] ys = refl
answered_both error round (x ∷ xs) ys =
    ap (λ (cs : List Completion). answer_of (error x.number) round x ++ cs) (answered_both error round xs ys)
    ∙ sym (append_assoc (answer_of (error x.number) round x) (answered_in error round xs) (answered_in error round ys))

-- a line in front of those whose requests are done
pub answered_next : (error : ℕ → Option Errno) (round : ℕ) (item : Item) (done : List Request) (so_far : List Completion)
    → so_far ≡ reverse (answered_in error round done)
    → so_far ++ answered_by error round item ≡ reverse (answered_in error round (requests_of (item ∷ []) ++ done))
answered_next error round item done so_far h =
    ap (λ (cs : List Completion). cs ++ answered_by error round item) h
    ∙ (ap (λ (cs : List Completion). reverse (answered_in error round done) ++ cs) (line_back error round item)
    ∙ (sym (reverse-append (answered_by error round item) (answered_in error round done))
    ∙ ap reverse (sym (answered_both error round (requests_of (item ∷ [])) done))))

pub requests_split : (front : List Item) (item : Item) (done batch : List Request) → requests_of (front ++ item ∷ []) ++ done ≡ batch
    → requests_of front ++ (requests_of (item ∷ []) ++ done) ≡ batch
requests_split front item done batch h =
    sym (append_assoc (requests_of front) (requests_of (item ∷ [])) done)
    ∙ (ap (λ (rs : List Request). rs ++ done) (sym (requests_both front (item ∷ []))) ∙ h)
