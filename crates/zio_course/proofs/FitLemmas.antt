-- The blocks of bound names fit after a round, where those before it and those that it made fit.
use Rattle.std.proofs.Common.{◌≡◌, ℕ, List, [], ◌∷◌, ◌++◌, Bool, true, false, cond, Option, Some, None, IfSome, bytes_eq, refl, sym, subst}
use Rattle.std.specs.Prelude.{option_to_list}
use Rattle.std.specs.List.{AllByRecursion}
use Rattle.zio_types.specs.declared.error.Errno.{Errno}
use Rattle.zio_script.specs.declared.script.Request.{Request}
use Rattle.zio_script.specs.declared.script.Work.{Work}
use Rattle.zio_script.specs.declared.script.Work.TheVariants.{Null, Read, Write, Free, Claim}
use Rattle.zio_cksum.proofs.AllLemmas.{all_append}
use Rattle.zio_gang.specs.declared.tree.Tree.{Tree}
use Rattle.zio_gang.specs.Attempts.{Ended}
use Rattle.zio_gang.specs.Rounds.{Bound, block_of, bound_after, bound_by, bound_unless}
use Rattle.zio_course.specs.declared.runner.RequestEnd.{RequestEnd}
use Rattle.zio_course.specs.Forests.{names_of}
use Rattle.zio_course.specs.Names.{named_in}
use Rattle.zio_course.specs.Runners.{made_trees}
use Rattle.zio_course.specs.Told.{ended_by, ended_told, finish_of}
use Rattle.zio_course.proofs.PlantLemmas.{named_of}
use Rattle.zio_course.proofs.ToldLemmas.{bind_if, found_holds, unbind_if}

module _ (fits : Tree → Type 0) where
  put_fits : (b : Bool) (tree : Option Tree) (before : Option Tree) → IfSome tree fits → IfSome before fits → IfSome (cond b tree before) fits
  put_fits true tree before h k = h
  put_fits false tree before h k = k

  by_fits : (work : Work) (tree : Option Tree) (bound : Bound) (name : List ℕ) → IfSome tree fits → IfSome (block_of bound name) fits
      → IfSome (block_of (bound_by work tree bound) name) fits
  by_fits Null tree bound name h k = k
  by_fits (Read n prio) tree bound name h k = k
  by_fits (Write n sum copies prio body) None bound name h k = k
  by_fits (Write n sum copies prio body) (Some tree) bound name h k =
      subst (λ (o : Option Tree). IfSome o fits) (sym (bind_if (bytes_eq n name) n name tree bound refl)) (put_fits (bytes_eq n name) (Some tree) (block_of bound name) h k)
  by_fits (Free n) tree bound name h k =
      subst (λ (o : Option Tree). IfSome o fits) (sym (unbind_if (bytes_eq n name) n name bound refl)) (put_fits (bytes_eq n name) None (block_of bound name) tt k)
  by_fits (Claim n pointer) None bound name h k = k
  by_fits (Claim n pointer) (Some tree) bound name h k =
      subst (λ (o : Option Tree). IfSome o fits) (sym (bind_if (bytes_eq n name) n name tree bound refl)) (put_fits (bytes_eq n name) (Some tree) (block_of bound name) h k)

  unless_fits : (error : Option Errno) (e : Ended) (bound : Bound) (name : List ℕ) → IfSome e.tree fits → IfSome (block_of bound name) fits
      → IfSome (block_of (bound_unless error e bound) name) fits
  unless_fits None e bound name h k = by_fits e.request.work e.tree bound name h k
  unless_fits (Some error) e bound name h k = k

  after_fits : (es : List Ended) (bound : Bound) (name : List ℕ) → AllByRecursion (λ (e : Ended). IfSome e.tree fits) es → IfSome (block_of bound name) fits
      → IfSome (block_of (bound_after es bound) name) fits
  after_fits [] bound name h k = k
  after_fits (e ∷ es) bound name h k = after_fits es (bound_unless e.error e bound) name h.1 (unless_fits e.error e bound name h.0 k)

  first_fits : (tree : Option Tree) (trees : List Tree) → AllByRecursion fits (option_to_list tree ++ trees) → IfSome tree fits × AllByRecursion fits trees
  first_fits None trees h = (tt, h)
  first_fits (Some tree) trees h = (h.0, h.1)

  each_fits : (finished : List RequestEnd) → AllByRecursion fits (made_trees finished) → AllByRecursion (λ (f : RequestEnd). IfSome f.tree fits) finished
  each_fits [] h = tt
  each_fits (f ∷ fs) h = let both = first_fits f.tree (made_trees fs) h in (both.0, each_fits fs both.1)

  ended_fits : (error : Option Errno) (f : Option RequestEnd) (r : Request) → ((x : RequestEnd) → f ≡ Some x → IfSome x.tree fits)
      → AllByRecursion (λ (e : Ended). IfSome e.tree fits) (ended_by error f r)
  ended_fits (Some e) f r h = tt
  ended_fits None None r h = tt
  ended_fits None (Some f) r h = (h f refl, tt)

  told_fits : (error : ℕ → Option Errno) (finished : List RequestEnd) (requests : List Request) → AllByRecursion (λ (f : RequestEnd). IfSome f.tree fits) finished
      → AllByRecursion (λ (e : Ended). IfSome e.tree fits) (ended_told error finished requests)
  told_fits error finished [] h = tt
  told_fits error finished (r ∷ rs) h =
      all_append (λ (e : Ended). IfSome e.tree fits) (ended_by (error r.number) (finish_of finished r.number) r) (ended_told error finished rs)
      (ended_fits (error r.number) (finish_of finished r.number) r (λ f is. found_holds (λ (x : RequestEnd). IfSome x.tree fits) finished r.number f h is))
      (told_fits error finished rs h)

  -- the blocks of the names that are bound after what is told of a round
  pub bound_fits : (error : ℕ → Option Errno) (finished : List RequestEnd) (requests : List Request) (old new : List (List ℕ × Tree))
      → ((name : List ℕ) → IfSome (named_in old name) fits) → AllByRecursion fits (made_trees finished)
      → ((name : List ℕ) → named_in new name ≡ block_of (bound_after (ended_told error finished requests) (names_of old)) name)
      → (name : List ℕ) → IfSome (named_in new name) fits
  bound_fits error finished requests old new before made is name =
      subst (λ (o : Option Tree). IfSome o fits) (sym (is name))
      (after_fits (ended_told error finished requests) (names_of old) name (told_fits error finished requests (each_fits finished made))
      (subst (λ (o : Option Tree). IfSome o fits) (named_of name old) (before name)))
