-- After a round the places in use are those of the blocks that are bound then.
use Rattle.std.proofs.Common.{◌≡◌, ℕ, ◌+◌, ◌≤◌, List, [], ◌∷◌, map, filter, Bool, true, false, cond, Option, Some, None, IfSome, find, option_map, is_some, bytes_eq, eqb, eqb-true, refl, sym, ap, ◌∙◌, subst, inl, inr, ◌⊎◌, arith, Contains}
use Rattle.std.specs.Prelude.{nat_lt}
use Rattle.std.proofs.lemmas.Bool.{and_parts}
use Rattle.std.specs.List.{AllByRecursion, list_all}
use Rattle.zio_types.specs.declared.error.Errno.{Errno}
use Rattle.zio_types.specs.declared.place.Place.{Place}
use Rattle.zio_types.specs.Places.{SamePlaces, are_apart, is_free, is_inside, meets}
use Rattle.zio_script.specs.declared.script.Request.{Request}
use Rattle.zio_script.specs.declared.script.Work.{Work}
use Rattle.zio_script.specs.declared.script.Work.TheVariants.{Free}
use Rattle.zio_script.specs.Accepted.{NameApart}
use Rattle.zio_script.specs.Requests.{makes_block, name_of, needs_block}
use Rattle.zio_cksum.proofs.AllLemmas.{all_append, all_unmap}
use Rattle.zio_gang.specs.declared.tree.Tree.{Tree}
use Rattle.zio_gang.specs.Attempts.{Ended, Pending}
use Rattle.zio_gang.specs.Rounds.{Binding, Bound, NamesOnce, block_if, block_of, bound_after, is_of, passes, used_places}
use Rattle.zio_gang.specs.Trees.{sizes_of, tree_places}
use Rattle.zio_course.specs.declared.runner.RequestEnd.{RequestEnd}
use Rattle.zio_course.specs.Forests.{names_of}
use Rattle.zio_course.specs.Live.{IsBoundPlace, IsLive, IsRoundOver}
use Rattle.zio_course.specs.Names.{is_some_name, named_in}
use Rattle.zio_course.specs.Runners.{IsRoundEnd, MakesTree, SeenEnd, Standing, StandsAfter, freed_by, freed_places, is_good_in, joined_trees, made_places, numbers_of, requests_in}
use Rattle.zio_course.specs.Told.{ended_as, ended_by, ended_told, finish_of}
use Rattle.zio_course.proofs.AdmittedLemmas.{not_both}
use Rattle.zio_course.proofs.ApartLemmas.{below_some, free_of, meets_self, meets_swap, one_passing}
use Rattle.zio_course.proofs.DoneLemmas.{contains_one, one_contains}
use Rattle.zio_course.proofs.EndLemmas.{own_times, times, times_is}
use Rattle.zio_course.proofs.LineLemmas.{found_at}
use Rattle.zio_course.proofs.PlantLemmas.{named_of}
use Rattle.zio_course.proofs.RunnableLemmas.{eq_swap}
use Rattle.zio_course.proofs.SortLemmas.{IsOneOf, all_one, one_all}
use Rattle.zio_course.proofs.StepLemmas.{Found, found_there, one_number, some_same}
use Rattle.zio_course.proofs.TouchLemmas.{TouchAlike, Toucher, after_untouched, agreed_by, apart_alike, becomes, first_toucher, touch, touch_by, touch_unless}
use Rattle.zio_course.proofs.MadeLemmas.{Change, Made, block_tree, filtered_one, found_good, freed_of, good_found, good_touch, made_apart, made_one, makes_touch, one_filtered, one_made, one_maker, one_within, same_bytes, tree_one, within_one}
use Rattle.zio_course.proofs.MadeLemmas.Change.{Makes, Frees}

-- ---- a round

-- The requests of a round's trees: each of its requests is one of these, which no admission answered, with the block that
-- its name has, and no block where it makes one; and each that finished is of one of them.
record IsOver (bound : List (List ℕ × Tree)) (error : ℕ → Option Errno) (requests : List Request) (trees : List (List Pending)) (finished : List RequestEnd) : Type 0 where
  apart : Bool
  names : NameApart apart requests
  one : (q r : Request) → IsOneOf q requests → IsOneOf r requests → q.number ≡ r.number → q ≡ r
  inside : (p : Pending) → IsOneOf p (joined_trees trees) → IsOneOf p.request requests
  free : (p : Pending) → IsOneOf p (joined_trees trees) → error p.request.number ≡ None
  block : (p : Pending) → IsOneOf p (joined_trees trees) → p.block ≡ block_if (needs_block p.request.work) (name_of p.request.work) (names_of bound)
  lacks : (p : Pending) → IsOneOf p (joined_trees trees) → makes_block p.request.work ≡ true → passes (is_some_name bound) (name_of p.request.work) ≡ false
  ends : (f : RequestEnd) → IsOneOf f finished → (p : Pending) × IsOneOf p (joined_trees trees) × (p.request.number ≡ f.request)

-- an end that is told, and the request that it is of
pub record ToldEnd (error : ℕ → Option Errno) (finished : List RequestEnd) (requests : List Request) (e : Ended) : Type 0 where
  pub end : RequestEnd
  pub at : IsOneOf end finished
  pub number : end.request ≡ e.request.number
  pub found : finish_of finished e.request.number ≡ Some end
  pub is : e ≡ ended_as e.request end
  pub inside : IsOneOf e.request requests

told_end_if : (error : ℕ → Option Errno) (finished : List RequestEnd) (requests : List Request) (r : Request) (o : Option Errno) (f : Option RequestEnd) → IsOneOf r requests
    → finish_of finished r.number ≡ f → AllByRecursion (ToldEnd error finished requests) (ended_by o f r)
told_end_if error finished requests r (Some x) f at is = tt
told_end_if error finished requests r None None at is = tt
told_end_if error finished requests r None (Some f) at is =
    let found : Found finished r.number f = found_there finished r.number f is in
    (record { end = f; at = found.at; number = found.number; found = is; is = refl; inside = at }, tt)

pub told_ends : (error : ℕ → Option Errno) (finished : List RequestEnd) (requests rs : List Request) → AllByRecursion (λ (r : Request). IsOneOf r requests) rs
    → AllByRecursion (ToldEnd error finished requests) (ended_told error finished rs)
told_ends error finished requests [] h = tt
told_ends error finished requests (r ∷ rs) h =
    all_append (ToldEnd error finished requests) (ended_by (error r.number) (finish_of finished r.number) r) (ended_told error finished rs)
    (told_end_if error finished requests r (error r.number) (finish_of finished r.number) h.0 refl) (told_ends error finished requests rs h.1)

end_told : (error : ℕ → Option Errno) (finished : List RequestEnd) (rs : List Request) (r : Request) (f : RequestEnd) → IsOneOf r rs → error r.number ≡ None
    → finish_of finished r.number ≡ Some f → IsOneOf (ended_as r f) (ended_told error finished rs)
end_told error finished rs r f at none found = within_one (λ (q : Request). ended_by (error q.number) (finish_of finished q.number) q) rs r (ended_as r f) at
    (subst (λ (o : Option Errno). IsOneOf (ended_as r f) (ended_by o (finish_of finished r.number) r)) (sym none)
    (subst (λ (o : Option RequestEnd). IsOneOf (ended_as r f) (ended_by None o r)) (sym found) (inl refl)))

module _ (s new : Standing) (round : ℕ) (trees : List (List Pending)) (end : SeenEnd) (requests : List Request) (error : ℕ → Option Errno)
    (bound after : List (List ℕ × Tree)) (live : IsLive s.live bound) (stands : StandsAfter s new round trees end) (over : IsRoundEnd s round trees end)
    (known : IsOver bound error requests trees end.finished)
    (told : (name : List ℕ) → named_in after name ≡ block_of (bound_after (ended_told error end.finished requests) (names_of bound)) name) where
  abbrev ends : List Ended
  ends = ended_told error end.finished requests

  all_ends : AllByRecursion (ToldEnd error end.finished requests) ends
  all_ends = told_ends error end.finished requests requests (all_one (λ (r : Request). IsOneOf r requests) requests (λ r at. at))

  end_at : (e : Ended) → IsOneOf e ends → ToldEnd error end.finished requests e
  end_at e at = one_all (ToldEnd error end.finished requests) e ends all_ends at

  once : (e f : Ended) → IsOneOf e ends → IsOneOf f ends → e.request ≡ f.request → e ≡ f
  once e f at here same =
      let a = end_at e at in
      let b = end_at f here in
      let ends_same : a.end ≡ b.end = some_same a.end b.end (sym a.found ∙ (ap (λ (r : Request). finish_of end.finished r.number) same ∙ b.found)) in
      a.is ∙ (ap (λ (r : Request). ended_as r a.end) same ∙ (ap (ended_as f.request) ends_same ∙ sym b.is))

  alike : (name : List ℕ) → TouchAlike name ends
  alike name = apart_alike known.apart requests ends name known.names (all_one (λ (e : Ended). IsOneOf e.request requests) ends (λ e at. (end_at e at).inside)) once

  -- a name after the round: as it was, or as a request made it
  abbrev NameAfter : List ℕ → Type 0
  NameAfter name = (AllByRecursion (λ (e : Ended). touch name e ≡ None) ends × (named_in after name ≡ named_in bound name))
      ⊎ ((t : Toucher name ends) × (named_in after name ≡ t.after))

  name_after : (name : List ℕ) → NameAfter name
  name_after name = go (first_toucher name ends)
    where
      go : AllByRecursion (λ (e : Ended). touch name e ≡ None) ends ⊎ Toucher name ends → NameAfter name
      go (inl none) = inl (none, told name ∙ (after_untouched ends (names_of bound) name none ∙ sym (named_of name bound)))
      go (inr t) = inr (
        t,
        told name ∙ becomes ends (names_of bound) name t.after t.ended
            (agreed_by name ends ends t.ended t.after (alike name) t.at t.makes (all_one (λ (e : Ended). IsOneOf e ends) ends (λ e at. at))) t.at t.makes,
      )

  -- the request in the trees that an end is of
  pending_of : (e : Ended) → IsOneOf e ends → (p : Pending) × IsOneOf p (joined_trees trees) × (p.request ≡ e.request)
  pending_of e at =
      let a = end_at e at in
      let p = known.ends a.end a.at in (
        p.0,
        p.1,
        known.one p.0.request e.request (known.inside p.0 p.1) a.inside (p.2 ∙ a.number),
      )

  -- the end of a request in the trees that finished
  end_of_pending : (p : Pending) (f : RequestEnd) → IsOneOf p (joined_trees trees) → IsOneOf f end.finished → f.request ≡ p.request.number → IsOneOf (ended_as p.request f) ends
  end_of_pending p f at there number =
      end_told error end.finished requests p.request f (known.inside p at) (known.free p at)
      (ap (finish_of end.finished) (sym number) ∙ found_at 0 end.finished f over.rising there)

  some_sectors : (p : Place) → IsOneOf p (made_places end.finished) → nat_lt 0 p.sectors ≡ true
  some_sectors p at = below_some p _ (one_passing (is_inside (sizes_of s.tops)) (made_places end.finished) p over.inside at)

  open_parts : (list_all (is_free s.live) (made_places end.finished) ≡ true) × (are_apart (made_places end.finished) ≡ true)
  open_parts = and_parts (list_all (is_free s.live) (made_places end.finished)) (are_apart (made_places end.finished)) over.free

  -- what was freed was the block of a name that a request freed
  freed_at : (p : Place) → IsOneOf p (freed_places trees end.finished) → (name : List ℕ) × (tree : Tree) × (e : Ended) × IsOneOf e ends × (touch name e ≡ Some None)
      × (named_in bound name ≡ Some tree) × IsOneOf p (tree_places tree)
  freed_at p at =
      let w = one_within (λ (q : Pending). freed_by q.request.work q.block) (filter (λ (q : Pending). is_good_in end.finished q.request.number) (joined_trees trees)) p at in
      let q = one_filtered (λ (x : Pending). is_good_in end.finished x.request.number) (joined_trees trees) w.item w.at in
      let good = good_found end.finished w.item.request.number q.1 in
      let freed = freed_of w.item.request.work w.item.block p w.there in
      let block = block_tree w.item.block p freed.2 in
      let e : Ended = ended_as w.item.request good.0 in
      let e_at : IsOneOf e ends = end_of_pending w.item good.0 q.0 good.1 good.2 in
      let named : named_in bound freed.0 ≡ Some block.0 =
      named_of freed.0 bound
      ∙ (ap (λ (work : Work). block_if (needs_block work) (name_of work) (names_of bound)) (sym freed.1) ∙ (sym (known.block w.item q.0) ∙ block.1)) in
      let made : touch freed.0 e ≡ Some None =
      ap (λ (o : Option Errno). touch_unless o e freed.0) good.3
      ∙ (ap (λ (work : Work). touch_by work good.0.tree freed.0) freed.1 ∙ ap (λ (b : Bool). cond b (Some None) None) (same_bytes freed.0)) in
      (freed.0, block.0, e, e_at, made, named, block.2)

  -- a name whose block was freed, or made
  freed_here : (name : List ℕ) (tree : Tree) (e : Ended) (p : Place) → IsOneOf e ends → e.error ≡ None → e.request.work ≡ Free name → named_in bound name ≡ Some tree
      → IsOneOf p (tree_places tree) → IsOneOf p (freed_places trees end.finished)
  freed_here name tree e p at none work is there =
      let a = end_at e at in
      let q = pending_of e at in
      let free : q.0.request.work ≡ Free name = ap (λ (r : Request). r.work) q.2 ∙ work in
      let good : is_good_in end.finished q.0.request.number ≡ true =
      ap (is_good_in end.finished) (ap (λ (r : Request). r.number) q.2 ∙ sym a.number)
      ∙ found_good end.finished a.end a.at (sym (ap (λ (x : Ended). x.error) a.is) ∙ none) in
      let block : q.0.block ≡ Some tree =
      known.block q.0 q.1
      ∙ (ap (λ (w : Work). block_if (needs_block w) (name_of w) (names_of bound)) free ∙ (sym (named_of name bound) ∙ is)) in
      within_one (λ (x : Pending). freed_by x.request.work x.block) (filter (λ (x : Pending). is_good_in end.finished x.request.number) (joined_trees trees)) q.0 p
      (filtered_one (λ (x : Pending). is_good_in end.finished x.request.number) (joined_trees trees) q.0 q.1 good)
      (subst (λ (w : Work). IsOneOf p (freed_by w q.0.block)) (sym free) (tree_one q.0.block tree p block there))

  none_bound : {Z : Type 0} (name : List ℕ) (tree : Tree) (e : Ended) → IsOneOf e ends → makes_block e.request.work ≡ true → name_of e.request.work ≡ Some name
      → named_in bound name ≡ Some tree → Z
  none_bound name tree e at makes names is =
      let q = pending_of e at in
      let lacks = known.lacks q.0 q.1 (ap (λ (r : Request). makes_block r.work) q.2 ∙ makes) in
      let passed : passes (is_some_name bound) (name_of q.0.request.work) ≡ true =
      ap (λ (r : Request). passes (is_some_name bound) (name_of r.work)) q.2 ∙ (ap (passes (is_some_name bound)) names ∙ ap is_some is) in
      not_both (passes (is_some_name bound) (name_of q.0.request.work)) passed lacks

  -- a touched name's block was made
  made_here : (e : Ended) (t : Tree) (p : Place) → IsOneOf e ends → e.tree ≡ Some t → IsOneOf p (tree_places t) → IsOneOf p (made_places end.finished)
  made_here e t p at is there =
      let a = end_at e at in made_one end.finished a.end t p a.at (sym (ap (λ (x : Ended). x.tree) a.is) ∙ is) there

  there_after : (name : List ℕ) → IfSome (named_in after name) (λ tree. AllByRecursion (Contains new.live) (tree_places tree))
  there_after name = go (name_after name)
    where
      stays : (o : Option Tree) → named_in bound name ≡ o → AllByRecursion (λ (e : Ended). touch name e ≡ None) ends → IfSome o (λ tree. AllByRecursion (Contains new.live) (tree_places tree))
      stays None is none = tt
      stays (Some t) is none = all_one (Contains new.live) (tree_places t) (λ p at.
          (let all : AllByRecursion (Contains s.live) (tree_places t) =
          subst (λ (o : Option Tree). IfSome o (λ tree. AllByRecursion (Contains s.live) (tree_places tree))) is (live.there name) in
          (stands.live p).1 (inl (
            one_all (Contains s.live) p (tree_places t) all at,
            λ freed.
                (let f = freed_at p (contains_one p (freed_places trees end.finished) freed) in
                let same : f.0 ≡ name = live.apart f.0 name f.1 t p f.5 is (one_contains p (tree_places f.1) f.6) (one_contains p (tree_places t) at) in
                let touched : touch name f.2 ≡ Some None = subst (λ (n : List ℕ). touch n f.2 ≡ Some None) same f.4 in
                let untouched : touch name f.2 ≡ None = one_all (λ (e : Ended). touch name e ≡ None) f.2 ends none f.3 in
                (let differ = sym touched ∙ untouched in cc)),
          ))))

      makes : (o : Option Tree) (e : Ended) → IsOneOf e ends → Change e.request.work e.tree o name → IfSome o (λ tree. AllByRecursion (Contains new.live) (tree_places tree))
      makes o e at (Makes t maker names is made) =
          subst (λ (x : Option Tree). IfSome x (λ tree. AllByRecursion (Contains new.live) (tree_places tree))) (sym made)
          (all_one (Contains new.live) (tree_places t) (λ p here. (stands.live p).1 (inr (one_contains p (made_places end.finished) (made_here e t p at is here)))))
      makes o e at (Frees work made) = subst (λ (x : Option Tree). IfSome x (λ tree. AllByRecursion (Contains new.live) (tree_places tree))) (sym made) tt

      go : NameAfter name → IfSome (named_in after name) (λ tree. AllByRecursion (Contains new.live) (tree_places tree))
      go (inl h) = subst (λ (o : Option Tree). IfSome o (λ tree. AllByRecursion (Contains new.live) (tree_places tree))) (sym h.1) (stays (named_in bound name) refl h.0)
      go (inr h) = subst (λ (o : Option Tree). IfSome o (λ tree. AllByRecursion (Contains new.live) (tree_places tree))) (sym h.1)
          (makes h.0.after h.0.ended h.0.at (good_touch h.0.ended h.0.after name h.0.makes).1)

  -- what a request made of a name is what the name has
  is_after : (name : List ℕ) (made : Option Tree) (e : Ended) → IsOneOf e ends → touch name e ≡ Some made → NameAfter name → named_in after name ≡ made
  is_after name made e at touched (inl h) = absurd (let differ = sym touched ∙ one_all (λ (x : Ended). touch name x ≡ None) e ends h.0 at in cc)
  is_after name made e at touched (inr h) = h.1 ∙ alike name h.0.ended e h.0.after made h.0.at at h.0.makes touched

  changed_back : (p : Place) (b : IsBoundPlace bound p) (e : Ended) (made : Option Tree) → IsOneOf e ends → e.error ≡ None → Change e.request.work e.tree made b.name
      → ¬ Contains (freed_places trees end.finished) p → IsBoundPlace after p
  changed_back p b e made at none (Makes t maker names is of) kept = none_bound b.name b.tree e at maker names b.is
  changed_back p b e made at none (Frees work of) kept =
      absurd (kept (one_contains p (freed_places trees end.finished) (freed_here b.name b.tree e p at none work b.is (contains_one p (tree_places b.tree) b.at))))

  old_back : (p : Place) (b : IsBoundPlace bound p) → ¬ Contains (freed_places trees end.finished) p → NameAfter b.name → IsBoundPlace after p
  old_back p b kept (inl h) = record { name = b.name; tree = b.tree; is = h.1 ∙ b.is; at = b.at }
  old_back p b kept (inr h) =
      let good = good_touch h.0.ended h.0.after b.name h.0.makes in changed_back p b h.0.ended h.0.after h.0.at good.0 good.1 kept

  made_back : (p : Place) → Made end.finished p → IsBoundPlace after p
  made_back p m =
      let maker = one_all (MakesTree trees) m.end end.finished over.makers m.at (ap is_some m.is) in
      let q = known.ends m.end m.at in
      let makes : makes_block q.0.request.work ≡ true =
      one_all (λ (x : Pending). x.request.number ≡ m.end.request → makes_block x.request.work ≡ true) q.0 (joined_trees trees) maker.1 q.1 q.2 in
      let touches = makes_touch q.0.request.work m.tree makes in
      let e : Ended = ended_as q.0.request m.end in
      let e_at : IsOneOf e ends = end_of_pending q.0 m.end q.1 m.at (sym q.2) in
      let touched : touch touches.0 e ≡ Some (Some m.tree) =
      ap (λ (o : Option Errno). touch_unless o e touches.0) maker.0 ∙ (ap (λ (o : Option Tree). touch_by q.0.request.work o touches.0) m.is ∙ touches.2) in
      record { name = touches.0; tree = m.tree; is = is_after touches.0 (Some m.tree) e e_at touched (name_after touches.0); at = one_contains p (tree_places m.tree) m.there }

  back_after : (p : Place) → Contains new.live p → IsBoundPlace after p
  back_after p at = go ((stands.live p).0 at)
    where
      go : (Contains s.live p × ¬ Contains (freed_places trees end.finished) p) ⊎ Contains (made_places end.finished) p → IsBoundPlace after p
      go (inl h) = let b = live.back p h.0 in old_back p b h.1 (name_after b.name)
      go (inr h) = made_back p (one_made end.finished p (contains_one p (made_places end.finished) h))

  -- a name that was changed and has a block: its request made that
  changed_made : (name : List ℕ) (t : Tree) (e : Ended) (made : Option Tree) → Change e.request.work e.tree made name → made ≡ Some t
      → (e.tree ≡ Some t) × (name_of e.request.work ≡ Some name)
  changed_made name t e made (Makes u maker names is of) has = (is ∙ (sym of ∙ has), names)
  changed_made name t e made (Frees work of) has = absurd (let no_tree = sym of ∙ has in cc)

  touched_made_by : (name : List ℕ) (t : Tree) (h : (k : Toucher name ends) × (named_in after name ≡ k.after)) → named_in after name ≡ Some t
      → (h.0.ended.tree ≡ Some t) × (name_of h.0.ended.request.work ≡ Some name)
  touched_made_by name t h has =
      changed_made name t h.0.ended h.0.after (good_touch h.0.ended h.0.after name h.0.makes).1 (sym h.1 ∙ has)

  -- a place that was made meets none that was in use
  old_not_made : {Z : Type 0} (p q : Place) → Contains s.live p → IsOneOf q (made_places end.finished) → meets q p ≡ true → Z
  old_not_made p q old made met =
      not_both (meets q p) met (free_of s.live q p (one_passing (is_free s.live) (made_places end.finished) q open_parts.0 made) (contains_one p s.live old))

  made_itself : (p : Place) → IsOneOf p (made_places end.finished) → meets p p ≡ true
  made_itself p made = meets_self p (some_sectors p made)

  old_live : (name : List ℕ) (t : Tree) (p : Place) → named_in bound name ≡ Some t → Contains (tree_places t) p → Contains s.live p
  old_live name t p is at =
      let all : AllByRecursion (Contains s.live) (tree_places t) = subst (λ (o : Option Tree). IfSome o (λ tree. AllByRecursion (Contains s.live) (tree_places tree))) is (live.there name) in
      one_all (Contains s.live) p (tree_places t) all (contains_one p (tree_places t) at)

  both_made : (n m : List ℕ) (t u : Tree) (p q : Place) (e f : Ended) → meets p q ≡ true → IsOneOf e ends → IsOneOf f ends → (e.tree ≡ Some t) × (name_of e.request.work ≡ Some n)
      → (f.tree ≡ Some u) × (name_of f.request.work ≡ Some m) → IsOneOf p (tree_places t) → IsOneOf q (tree_places u) → n ≡ m
  both_made n m t u p q e f met at here made too pt qu =
      let a = end_at e at in
      let b = end_at f here in
      let ends_same : a.end ≡ b.end =
      one_maker end.finished a.end b.end t u p q met open_parts.1 a.at b.at
      (sym (ap (λ (x : Ended). x.tree) a.is) ∙ made.0) (sym (ap (λ (x : Ended). x.tree) b.is) ∙ too.0) pt qu in
      let same : e.request ≡ f.request = known.one e.request f.request a.inside b.inside (sym a.number ∙ (ap (λ (x : RequestEnd). x.request) ends_same ∙ b.number)) in
      some_same n m (sym made.1 ∙ (ap (λ (r : Request). name_of r.work) same ∙ too.1))

  -- a place of a block that a request made of a name
  touched_made : (name : List ℕ) (t : Tree) (p : Place) (h : (k : Toucher name ends) × (named_in after name ≡ k.after)) → named_in after name ≡ Some t
      → Contains (tree_places t) p → IsOneOf p (made_places end.finished)
  touched_made name t p h has there = made_here h.0.ended t p h.0.at (touched_made_by name t h has).0 (contains_one p (tree_places t) there)

  two_touched : (n m : List ℕ) (t u : Tree) (p q : Place) (h : (k : Toucher n ends) × (named_in after n ≡ k.after)) (i : (k : Toucher m ends) × (named_in after m ≡ k.after))
      → named_in after n ≡ Some t → named_in after m ≡ Some u → Contains (tree_places t) p → Contains (tree_places u) q → meets p q ≡ true → n ≡ m
  two_touched n m t u p q h i nt mu pt qu met =
      both_made n m t u p q h.0.ended i.0.ended met h.0.at i.0.at (touched_made_by n t h nt) (touched_made_by m u i mu) (contains_one p (tree_places t) pt) (contains_one q (tree_places u) qu)

  apart_after : (n m : List ℕ) (t u : Tree) (p : Place) → named_in after n ≡ Some t → named_in after m ≡ Some u → Contains (tree_places t) p → Contains (tree_places u) p → n ≡ m
  apart_after n m t u p nt mu pt pu = go (name_after n) (name_after m)
    where
      go : NameAfter n → NameAfter m → n ≡ m
      go (inl h) (inl k) = live.apart n m t u p (sym h.1 ∙ nt) (sym k.1 ∙ mu) pt pu
      go (inl h) (inr k) = let made = touched_made m u p k mu pu in old_not_made p p (old_live n t p (sym h.1 ∙ nt) pt) made (made_itself p made)
      go (inr h) (inl k) = let made = touched_made n t p h nt pt in old_not_made p p (old_live m u p (sym k.1 ∙ mu) pu) made (made_itself p made)
      go (inr h) (inr k) = two_touched n m t u p p h k nt mu pt pu (made_itself p (touched_made n t p h nt pt))

  own_after : (name : List ℕ) → IfSome (named_in after name) (λ tree. are_apart (tree_places tree) ≡ true)
  own_after name = go (name_after name)
    where
      makes : (o : Option Tree) (e : Ended) → IsOneOf e ends → Change e.request.work e.tree o name → IfSome o (λ tree. are_apart (tree_places tree) ≡ true)
      makes o e at (Makes t maker names is made) =
          let a = end_at e at in
          subst (λ (x : Option Tree). IfSome x (λ tree. are_apart (tree_places tree) ≡ true)) (sym made)
          (made_apart end.finished a.end t open_parts.1 a.at (sym (ap (λ (x : Ended). x.tree) a.is) ∙ is))
      makes o e at (Frees work made) = subst (λ (x : Option Tree). IfSome x (λ tree. are_apart (tree_places tree) ≡ true)) (sym made) tt

      go : NameAfter name → IfSome (named_in after name) (λ tree. are_apart (tree_places tree) ≡ true)
      go (inl h) = subst (λ (o : Option Tree). IfSome o (λ tree. are_apart (tree_places tree) ≡ true)) (sym h.1) (live.own name)
      go (inr h) = subst (λ (o : Option Tree). IfSome o (λ tree. are_apart (tree_places tree) ≡ true)) (sym h.1)
          (makes h.0.after h.0.ended h.0.at (good_touch h.0.ended h.0.after name h.0.makes).1)

  between_after : (n m : List ℕ) (t u : Tree) (p q : Place) → named_in after n ≡ Some t → named_in after m ≡ Some u → Contains (tree_places t) p → Contains (tree_places u) q → meets p q ≡ true → n ≡ m
  between_after n m t u p q nt mu pt qu met = go (name_after n) (name_after m)
    where
      go : NameAfter n → NameAfter m → n ≡ m
      go (inl h) (inl k) = live.between n m t u p q (sym h.1 ∙ nt) (sym k.1 ∙ mu) pt qu met
      go (inl h) (inr k) = old_not_made p q (old_live n t p (sym h.1 ∙ nt) pt) (touched_made m u q k mu qu) (meets_swap q p ∙ met)
      go (inr h) (inl k) = old_not_made q p (old_live m u q (sym k.1 ∙ mu) qu) (touched_made n t p h nt pt) met
      go (inr h) (inr k) = two_touched n m t u p q h k nt mu pt qu met

  -- After the round the places in use are those of the blocks that are bound then.
  live_after_round : IsLive new.live after
  live_after_round = record { there = there_after; back = back_after; apart = apart_after; own = own_after; between = between_after }

-- ---- from what is known of a batch

numbered_pending : (n : ℕ) (ps : List Pending) → 1 ≤ times n (numbers_of (map (λ (p : Pending). p.request) ps)) → (p : Pending) × IsOneOf p ps × (p.request.number ≡ n)
numbered_pending n [] some = absurd (omega arith)
numbered_pending n (p ∷ ps) some = go (eqb p.request.number n) refl some (numbered_pending n ps)
  where
    go : (b : Bool) → eqb p.request.number n ≡ b → 1 ≤ cond b (1 + times n (numbers_of (map (λ (q : Pending). q.request) ps))) (times n (numbers_of (map (λ (q : Pending). q.request) ps)))
        → (1 ≤ times n (numbers_of (map (λ (q : Pending). q.request) ps)) → (q : Pending) × IsOneOf q ps × (q.request.number ≡ n)) → (q : Pending) × IsOneOf q (p ∷ ps) × (q.request.number ≡ n)
    go true e k later = (p, inl refl, eqb-true p.request.number n e)
    go false e k later = let rest = later k in (rest.0, inr rest.1, rest.2)

some_finish : (fs : List RequestEnd) (f : RequestEnd) → IsOneOf f fs → 1 ≤ times f.request (map (λ (g : RequestEnd). g.request) fs)
some_finish fs f at = one_all (λ (g : RequestEnd). 1 ≤ times g.request (map (λ (h : RequestEnd). h.request) fs)) f fs (all_unmap (λ n. 1 ≤ times n (map (λ (h : RequestEnd). h.request) fs)) (λ (g : RequestEnd). g.request) fs (own_times (map (λ (g : RequestEnd). g.request) fs))) at

over_of : (s : Standing) (round : ℕ) (apart : Bool) (bound : List (List ℕ × Tree)) (error : ℕ → Option Errno) (requests : List Request) (trees : List (List Pending)) (end : SeenEnd)
    → IsRoundOver apart bound error requests trees → IsRoundEnd s round trees end → IsOver bound error requests trees end.finished
over_of s round apart bound error requests trees end h over =
    let ps : List Pending = joined_trees trees in
    record {
      apart = apart;
      names = h.names;
      one = λ q r at here same. one_number requests q r h.rising at here same;
      inside = λ p at. contains_one p.request requests (one_all (λ (x : Pending). Contains requests x.request) p ps h.inside at);
      free = λ p at. one_all (λ (x : Pending). error x.request.number ≡ None) p ps h.free at;
      block = λ p at. one_all (λ (x : Pending). x.block ≡ block_if (needs_block x.request.work) (name_of x.request.work) (names_of bound)) p ps h.blocks at;
      lacks = λ p at. one_all (λ (x : Pending). makes_block x.request.work ≡ true → passes (is_some_name bound) (name_of x.request.work) ≡ false) p ps h.lacks at;
      ends = λ f at.
          (let some : 1 ≤ times f.request (map (λ (g : RequestEnd). g.request) end.finished) = some_finish end.finished f at in
          let each = over.each f.request in
          let a = times_is f.request (map (λ (g : RequestEnd). g.request) end.finished) in
          let b = times_is f.request (numbers_of (requests_in trees)) in
          numbered_pending f.request ps (omega arith));
    }

-- After a round the places in use are those of the blocks that are bound then.
pub live_after : (s new : Standing) (round : ℕ) (apart : Bool) (trees : List (List Pending)) (end : SeenEnd) (requests : List Request) (error : ℕ → Option Errno) (bound after : List (List ℕ × Tree))
    → IsLive s.live bound → StandsAfter s new round trees end → IsRoundEnd s round trees end → IsRoundOver apart bound error requests trees
    → ((name : List ℕ) → named_in after name ≡ block_of (bound_after (ended_told error end.finished requests) (names_of bound)) name)
    → IsLive new.live after
live_after s new round apart trees end requests error bound after live stands over known told =
    live_after_round s new round trees end requests error bound after live stands over (over_of s round apart bound error requests trees end known over) told

-- ---- the places of the bound blocks

once_named : (b : Bound) (x : Binding) → NamesOnce b → IsOneOf x b → block_of b x.name ≡ Some x.tree
once_named [] x h at = absurd at
once_named (y ∷ b) x h (inl same) =
    ap (λ (t : Bool). option_map (λ (z : Binding). z.tree) (cond t (Some y) (find (is_of x.name) b))) (ap (λ (z : Binding). bytes_eq z.name x.name) same ∙ same_bytes x.name)
    ∙ ap (λ (z : Binding). Some z.tree) same
once_named (y ∷ b) x h (inr at) =
    let other : is_of y.name x ≡ false = one_all (λ (z : Binding). is_of y.name z ≡ false) x b h.0 at in
    ap (λ (t : Bool). option_map (λ (z : Binding). z.tree) (cond t (Some y) (find (is_of x.name) b))) (eq_swap y.name x.name ∙ other) ∙ once_named b x h.1 at

found_binding : (b : Bound) (name : List ℕ) (tree : Tree) → block_of b name ≡ Some tree → (x : Binding) × IsOneOf x b × (x.tree ≡ tree)
found_binding [] name tree is = absurd (let no_block = is in cc)
found_binding (y ∷ b) name tree is = go (is_of name y) is (found_binding b name tree)
  where
    go : (t : Bool) → option_map (λ (z : Binding). z.tree) (cond t (Some y) (find (is_of name) b)) ≡ Some tree → (block_of b name ≡ Some tree → (x : Binding) × IsOneOf x b × (x.tree ≡ tree))
        → (x : Binding) × IsOneOf x (y ∷ b) × (x.tree ≡ tree)
    go true k later = (y, inl refl, some_same y.tree tree k)
    go false k later = let rest = later k in (rest.0, inr rest.1, rest.2)

-- The places in use are those of the course's bound blocks, whichever stands first.
pub used_live : (b : Bound) (bound : List (List ℕ × Tree)) (live : List Place) → NamesOnce b → ((name : List ℕ) → block_of b name ≡ named_in bound name) → IsLive live bound
    → SamePlaces (used_places b) live
used_live b bound live once same h p = (
  λ there.
      (let w = one_within (λ (x : Binding). tree_places x.tree) b p (contains_one p (used_places b) there) in
      let is : named_in bound w.item.name ≡ Some w.item.tree = sym (same w.item.name) ∙ once_named b w.item once w.at in
      let all : AllByRecursion (Contains live) (tree_places w.item.tree) = subst (λ (o : Option Tree). IfSome o (λ tree. AllByRecursion (Contains live) (tree_places tree))) is (h.there w.item.name) in
      one_all (Contains live) p (tree_places w.item.tree) all w.there),
  λ there.
      (let back = h.back p there in
      let x = found_binding b back.name back.tree (same back.name ∙ back.is) in
      one_contains p (used_places b) (within_one (λ (y : Binding). tree_places y.tree) b x.0 p x.1
      (subst (λ (t : Tree). IsOneOf p (tree_places t)) (sym x.2) (contains_one p (tree_places back.tree) back.at)))),
)
