-- Entries in order with the same at each key are the same.
use Rattle.std.proofs.Common.{◌≡◌, List, [], ◌∷◌, Bool, true, false, Some, None, refl, sym, ap, ◌∙◌}
use Rattle.std.proofs.lemmas.Cmp.{eq_by_cmp_equiv, tied_itself}
use Rattle.std.proofs.lemmas.Map.{lookup-none}
use Rattle.std.proofs.lemmas.Map.Entries.{lookup_head, lookup_tail, none_below_head, none_past_head}
use Rattle.std.proofs.lemmas.Map.Keys.{IsDistinct-from_sorted, sorted_tail}
use Rattle.std.proofs.lemmas.Map.Lookups.{CmpEqualImpliesEq}
use Rattle.std.specs.BTreeMap.{is_at}
use Rattle.std.specs.Cmp.{IsTotalOrder}
use Rattle.std.specs.List.Sorted.{IsStrictlySortedBy}
use Rattle.std.specs.Map.{keys_of, lookup}
use Rattle.std.specs.Ordering.{is_eq, ordering_reverse}
use Rattle.std.specs.declared.cmp.Ordering.{Ordering}
use Rattle.std.specs.declared.cmp.Ordering.TheVariants.{Less, Equal, Greater}
use Rattle.zio_vqueue.specs.declared.op.Op.{Op}

pub some_none : (o : Op) → Some o ≡ None → ⊥
some_none o e = cc

pub some_some : (o p : Op) → Some o ≡ Some p → o ≡ p
some_some o p e = cc

module _ {K : Type 0} {R : K → K → Ordering} (o : IsTotalOrder R) (exact : CmpEqualImpliesEq R) where
  at_head : (x : K × Op) (xs : List (K × Op)) → lookup (is_at (R x.0)) (x ∷ xs) ≡ Some x.1
  at_head x xs = lookup_head (is_at (R x.0)) x xs (ap is_eq (tied_itself o x.0))

  past_head : (q : K) (x : K × Op) (xs : List (K × Op)) → IsStrictlySortedBy R (keys_of (x ∷ xs)) → is_eq (R q x.0) ≡ true → lookup (is_at (R q)) xs ≡ None
  past_head q x xs s t = lookup-none (is_at (R q)) xs (none_past_head (eq_by_cmp_equiv o) q x xs (IsDistinct-from_sorted R _ s) t)

  pub same_entries : (xs ys : List (K × Op)) → IsStrictlySortedBy R (keys_of xs) → IsStrictlySortedBy R (keys_of ys) → ((q : K) → lookup (is_at (R q)) xs ≡ lookup (is_at (R q)) ys) → xs ≡ ys
  same_entries [] [] s t h = refl
  same_entries [] (y ∷ ys) s t h = absurd (some_none y.1 (sym (at_head y ys) ∙ sym (h y.0)))
  same_entries (x ∷ xs) [] s t h = absurd (some_none x.1 (sym (at_head x xs) ∙ h x.0))
  same_entries (x ∷ xs) (y ∷ ys) s t h = go (R x.0 y.0) refl (same_entries xs ys (sorted_tail R x.0 (keys_of xs) s) (sorted_tail R y.0 (keys_of ys) t))
    where
      go : (c : Ordering) → R x.0 y.0 ≡ c → (((q : K) → lookup (is_at (R q)) xs ≡ lookup (is_at (R q)) ys) → xs ≡ ys) → x ∷ xs ≡ y ∷ ys
      go Less e later = absurd (some_none x.1 (sym (at_head x xs) ∙ h x.0 ∙ lookup-none (is_at (R x.0)) (y ∷ ys) (none_below_head o x.0 y ys t e)))
      go Greater e later =
          absurd (some_none y.1 (sym (at_head y ys) ∙ sym (h y.0) ∙ lookup-none (is_at (R y.0)) (x ∷ xs) (none_below_head o y.0 x xs s (o.antisymm y.0 x.0 ∙ ap ordering_reverse e))))
      go Equal e later = λ i. both i ∷ later tails i
        where
          key : x.0 ≡ y.0
          key = exact x.0 y.0 e

          op : x.1 ≡ y.1
          op = some_some x.1 y.1 (sym (at_head x xs) ∙ h x.0 ∙ lookup_head (is_at (R x.0)) y ys (ap is_eq e))

          both : x ≡ y
          both = λ i. (key i, op i)

          tails : (q : K) → lookup (is_at (R q)) xs ≡ lookup (is_at (R q)) ys
          tails q = tail (is_eq (R q x.0)) refl
            where
              tail : (b : Bool) → is_eq (R q x.0) ≡ b → lookup (is_at (R q)) xs ≡ lookup (is_at (R q)) ys
              tail true is = past_head q x xs s is ∙ sym (past_head q y ys t (ap (λ z. is_eq (R q z)) (sym key) ∙ is))
              tail false is = sym (lookup_tail (is_at (R q)) x xs is) ∙ h q ∙ lookup_tail (is_at (R q)) y ys (ap (λ z. is_eq (R q z)) (sym key) ∙ is)
