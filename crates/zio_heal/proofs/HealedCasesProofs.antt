-- Scripts that heal, and scripts that nearly do.
use Rattle.std.proofs.Common.{◌≡◌, [], ◌∷◌, true, false, inl, inr, ⊎_elim, refl, sym}
use Rattle.zio_faults.specs.declared.table.FaultKind.TheVariants.{Eio}
use Rattle.zio_faults.specs.declared.table.On.TheVariants.{Write as OnWrite}
use Rattle.zio_faults.specs.declared.table.Row.{Row}
use Rattle.zio_script.specs.declared.script.Failmode.TheVariants.{Wait, Continue, Panic}
use Rattle.zio_heal.specs.HealedCases.{ClaimsMayFail, ClearIsNotLast, NoClearAtAll, NoRowsHeal, NoSumNoDamage, OneClearTooFew, OthersGoOn, PanicsEnd, ReadMayFail, ReadsMayBeTurned, TurnedByAnyStay, TurnedWritesStay, TwoClearsHeal, WriteHeals, faulty}

-- what is true isn't false
not_both : true ≡ false → ⊥
not_both e = cc

some_row : (row : Row) → row ∷ [] ≡ [] → ⊥
some_row row e = cc

pub write_heals : WriteHeals
write_heals = record {
  waits = refl;
  requests = (record { must = refl; no_claim = refl; summed = refl }, (record { must = refl; no_claim = refl; summed = refl }, tt));
  rows = refl;
  last = inr refl;
}

pub reads_may_be_turned : ReadsMayBeTurned
reads_may_be_turned = record {
  waits = refl;
  requests = (record { must = refl; no_claim = refl; summed = refl }, (record { must = refl; no_claim = refl; summed = refl }, tt));
  rows = refl;
  last = inr refl;
}

pub two_clears_heal : TwoClearsHeal
two_clears_heal = record {
  waits = refl;
  requests = (record { must = refl; no_claim = refl; summed = refl }, (record { must = refl; no_claim = refl; summed = refl }, tt));
  rows = refl;
  last = inr refl;
}

pub no_rows_heal : NoRowsHeal
no_rows_heal = record {
  waits = refl;
  requests = (record { must = refl; no_claim = refl; summed = refl }, tt);
  rows = refl;
  last = inl refl;
}

pub turned_writes_stay : TurnedWritesStay
turned_writes_stay h = not_both (sym h.rows)

pub turned_by_any_stay : TurnedByAnyStay
turned_by_any_stay h = not_both (sym h.rows)

pub one_clear_too_few : OneClearTooFew
one_clear_too_few h = not_both (sym h.rows)

pub clear_is_not_last : ClearIsNotLast
clear_is_not_last h =
    ⊎_elim (λ (e : faulty OnWrite Eio 1 ∷ [] ≡ []). some_row (faulty OnWrite Eio 1) e) (λ (e : false ≡ true). not_both (sym e)) h.last

pub no_clear_at_all : NoClearAtAll
no_clear_at_all h =
    ⊎_elim (λ (e : faulty OnWrite Eio 0 ∷ [] ≡ []). some_row (faulty OnWrite Eio 0) e) (λ (e : false ≡ true). not_both (sym e)) h.last

pub claims_may_fail : ClaimsMayFail
claims_may_fail h = not_both h.requests.0.no_claim

pub read_may_fail : ReadMayFail
read_may_fail h = not_both h.requests.0.must

pub no_sum_no_damage : NoSumNoDamage
no_sum_no_damage h = not_both (sym h.requests.0.summed)

pub others_go_on : OthersGoOn
others_go_on h = let e : Continue ≡ Wait = h.waits in absurd (cc)

pub panics_end : PanicsEnd
panics_end h = let e : Panic ≡ Wait = h.waits in absurd (cc)
