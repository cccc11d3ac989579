use Rattle.std.proofs.Common.{arith, rules, List, get_or, ℕ, ◌≡◌, length, remove, slice_index, Option, Some, None, ap, ◌∙◌, sym, subst, length-set}
use Rattle.std.specs.Option.{IsSome}
use Rattle.std.proofs.lemmas.List.{get_or_read, with_items_is}
use Rattle.zio_turns.proofs.PlaceLemmas.{Taken}
use Rattle.zio_turns.proofs.TableLemmas.{found_some, kept_at, kept_found, kept_length, kept_sum, kept_take, same_held}
use Rattle.zio_turns.proofs.table.Table.take.Goals as goal

pub place_of-place-requires-clause-within : goal.place_of-place-requires-clause-within
place_of-place-requires-clause-within c =
    omega (arith, kept_sum _ _ _ (kept_at c.deref.ensures.value c.self.invariant) ∙ ap (λ h. length h.waiting) c.self.view_is)

pub index-value-requires : goal.index-value-requires
index-value-requires c =
    omega (arith, kept_length _ _ _ (kept_at c.deref.ensures.value c.self.invariant), c.self.inside.places.ok.0)

pub lower-requires-clause-some : goal.lower-requires-clause-some
lower-requires-clause-some c =
    let found = c.place_of-place.ensures in
    let taken = kept_found (kept_at c.deref.ensures.value c.self.invariant) found.place found.before found.passes in
    found_some (kept_at c.deref_mut.ensures.value c.self.invariant) taken

pub index_mut-requires : goal.index_mut-requires
index_mut-requires c =
    omega (arith, kept_length _ _ _ (kept_at c.deref.ensures.value c.self.invariant), c.self.inside.places.ok.0)

-- what was read is the value that stands there
read_some : (places : List (Option ℕ)) (k place : ℕ) (read : Option ℕ) (t : Taken places k place) → read ≡ get_or places place read → read ≡ Some t.value
read_some places k place read t e = get_or_read places place read t.within e None ∙ t.stands

is_some_by : (o : Option ℕ) (v : ℕ) → o ≡ Some v → IsSome o
is_some_by o v e = subst IsSome (sym e) (search rules)

some_is : (a b : ℕ) → ◌≡◌ {A = Option ℕ} (Some a) (Some b) → a ≡ b
some_is a b e = cc

pub unwrap-requires : goal.unwrap-requires
unwrap-requires c =
    let found = c.place_of-place.ensures in
    let taken = kept_found (kept_at c.deref.ensures.value c.self.invariant) found.place found.before found.passes in
    is_some_by _ _ (read_some _ _ _ _ taken c.index-value.ensures)

pub invariant_of-self : goal.invariant_of-self
invariant_of-self c =
    let found = c.place_of-place.ensures in
    let taken = kept_found (kept_at c.deref.ensures.value c.self.invariant) found.place found.before found.passes in
    let written = with_items_is c.self.inside.nodes c.lower.new.nodes (c.lower.auto.nodes ∙ c.deref_mut.ensures.len) in
    kept_at written (kept_take (kept_at c.deref_mut.ensures.value c.self.invariant) taken c.lower.ensures.sums c.lower.ensures.places)

pub returns-clause-value : goal.returns-clause-value
returns-clause-value c =
    let found = c.place_of-place.ensures in
    let taken = kept_found (kept_at c.deref.ensures.value c.self.invariant) found.place found.before found.passes in
    some_is _ _ (sym c.unwrap.ensures ∙ read_some _ _ _ _ taken c.index-value.ensures)
    ∙ (sym taken.is_kth ∙ ap (λ h. slice_index h.waiting c.args.k) c.self.view_is)

pub returns-clause-others : goal.returns-clause-others
returns-clause-others c =
    let found = c.place_of-place.ensures in
    let taken = kept_found (kept_at c.deref.ensures.value c.self.invariant) found.place found.before found.passes in
    same_held
    (taken.others ∙ ap (λ h. remove h.waiting c.args.k) c.self.view_is)
    (length-set c.self.inside.places.items c.place_of-place.result None ∙ ap (λ h. h.size) c.self.view_is)
    (ap (λ h. h.used) c.self.view_is)
