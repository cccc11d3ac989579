-- What an empty queue tells of the hands of all passes.
use Rattle.std.proofs.Common.{◌≡◌, ℕ, cond, eqb, Bool, true, false, List, [], ◌∷◌, refl, sym, ap, ◌∙◌, arith, subst}
use Rattle.std.proofs.lemmas.List.{append-nil}
use Rattle.std.proofs.lemmas.List.Elements.{All-contains}
use Rattle.zio_tasks.specs.declared.hand.Hand.{Hand}
use Rattle.zio_tasks.specs.Hands.{of, taken, Fits, Stands, StandsIn, AllTaken}

module _ {T : Type 0} where
  -- one more entry of the log: b says that the taker is the one asked for, d that the putter is
  one_entry : (i : ℕ) (b d : Bool) (e : ℕ × T) (takes : List (ℕ × T)) (puts : List T) → eqb i e.0 ≡ d → StandsIn (of i takes) puts → StandsIn (of i (cond b (e ∷ takes) takes)) (cond d (e.1 ∷ puts) puts)
  one_entry i true true e takes puts is within = (true ∷ within.0, ap (λ t. cond t (e.1 ∷ of i takes) (of i takes)) is ∙ ap (λ l. e.1 ∷ l) within.1)
  one_entry i true false e takes puts is within = (within.0, ap (λ t. cond t (e.1 ∷ of i takes) (of i takes)) is ∙ within.1)
  one_entry i false true e takes puts is within = (false ∷ within.0, within.1)
  one_entry i false false e takes puts is within = within

  within_log : (i j : ℕ) (log : List (ℕ × (ℕ × T))) → StandsIn (of i (of j log)) (of i (taken log))
  within_log i j [] = ([], refl)
  within_log i j (x ∷ xs) = one_entry i (eqb j x.0) (eqb i x.1.0) x.1 (of j xs) (of i (taken xs)) refl (within_log i j xs)

  pub all_taken : (passes : ℕ) (hands : List (Hand T)) (log : List (ℕ × (ℕ × T))) → Stands passes hands log [] → AllTaken passes hands
  all_taken passes hands log s = record {
    each_as_often = λ w. (let e = s.weighed w in omega arith);
    in_order = λ p q at at'.
        let P = All-contains (Fits passes log []) hands p s.each at in
        let Q = All-contains (Fits passes log []) hands q s.each at' in
        let puts : p.puts ≡ of p.number (taken log) = P.puts ∙ ap (of p.number) (append-nil (taken log)) in
        subst (λ l. StandsIn (of p.number l) p.puts) (sym Q.takes) (subst (λ l. StandsIn (of p.number (of q.number log)) l) (sym puts) (within_log p.number q.number log));
    one_order = (log, s);
  }
