-- A run with a fault meets what the law of healing asks for, evaluated.
use Rattle.std.proofs.Common.{◌≡◌, ◌<◌, ◌≤◌, ℕ, ◌+◌, ◌^◌, List, [], ◌∷◌, true, false, IsTrue, inr, refl, arith, codes, Option, Some, None}
use Rattle.zio_types.specs.declared.error.Errno.{Errno}
use Rattle.zio_types.specs.declared.error.Errno.TheVariants.{Noent}
use Rattle.zio_types.specs.declared.place.Place.{Place}
use Rattle.zio_types.specs.declared.place.TopSize.{TopSize}
use Rattle.zio_types.specs.Places.{IsLawfulChoice, fits_size, is_free, is_inside}
use Rattle.hex.specs.Hex.{decode_pairs}
use Rattle.zio_script.specs.Grammar.{read_lines}
use Rattle.zio_cksum.specs.Sums.{fletcher4, fletcher_after}
use Rattle.zio_gang.specs.Attempts.{attempt_each, settle_from}
use Rattle.zio_gang.specs.Rounds.{settle_each}
use Rattle.zio_gang.specs.Runs.{run_held, run_lines}
use Rattle.zio_gang.specs.Trees.{free_tree, read_tree, walk}
use Rattle.zio_gang.specs.Writes.{place_part}
use Rattle.zio_report.specs.declared.report.LineResult.TheVariants.{Bytes, Failed}
use Rattle.zio_heal.specs.Alike.{ShowsReply}
use Rattle.zio_heal.specs.AlikeCases.{read_ended}
use Rattle.zio_heal.specs.PlainStore.{Content}
use Rattle.zio_heal.specs.StoreCases.{gave, letters}
use Rattle.zio_heal.specs.PremiseCases.{ErrorInOneRun, FaultMeetsPremises, OneMoreDoesnt, SameReadTwice, SameSectorIsntLawful, SectorsFit, WideFaultHeals, WideScriptIsRead, finds_at, four_sectors, sector_at, wide_choices, wide_script, wide_text}
use Rattle.zio_heal.proofs.PlainEnds.{plainly}

pub sectors_fit : SectorsFit
sectors_fit = (omega arith, tt)

pub one_more_doesnt : OneMoreDoesnt
one_more_doesnt h = let l : 2 ^ 48 + 1 ≤ 281474976710656 = h.0 in absurd (omega arith)

abbrev one_top : List TopSize
one_top = record { sectors = 4; unit = 1 } ∷ []

lawful_at : (used : List Place) (round attempt sector : ℕ) → IsTrue (fits_size one_top 512 (sector_at sector)) → IsTrue (is_inside one_top (sector_at sector)) → IsTrue (is_free used (sector_at sector)) → IsLawfulChoice one_top used (finds_at round attempt sector)
lawful_at used round attempt sector fits inside free = record {
  found = omega arith;
  copies = (record { fits = fits; inside = inside; free = free; spread = λ (e : false ≡ true). absurd (cc) }, tt);
  refused = λ (fewer : 1 < 1). absurd (omega arith);
}

pub fault_meets_premises : FaultMeetsPremises
unfolding fletcher4 fletcher_after attempt_each settle_from settle_each run_held run_lines walk read_tree free_tree place_part
fault_meets_premises = record {
  healed = record {
    waits = refl;
    requests = (record { must = refl; no_claim = refl; summed = refl }, (record { must = refl; no_claim = refl; summed = refl }, tt));
    rows = refl;
    last = inr refl;
  };
  lawful = record {
    of_rounds = (refl, (refl, (refl, (refl, (refl, tt)))));
    each = (
      record {
        distinct = ((refl, (refl, (refl, tt))), ((refl, (refl, tt)), ((refl, tt), (tt, tt))));
        asked = ((0, omega arith, refl), ((1, omega arith, refl), ((2, omega arith, refl), ((3, omega arith, refl), tt))));
        answered = ((0, omega arith, refl), ((1, omega arith, refl), ((2, omega arith, refl), ((3, omega arith, refl), tt))));
        lawful = (
          lawful_at [] 1 0 0 refl refl refl,
          (
            lawful_at (sector_at 0 ∷ []) 1 1 1 refl refl refl,
            (lawful_at (sector_at 1 ∷ sector_at 0 ∷ []) 1 2 2 refl refl refl, (lawful_at (sector_at 2 ∷ sector_at 1 ∷ sector_at 0 ∷ []) 1 3 3 refl refl refl, tt)),
          ),
        );
      },
      (
        record { distinct = (tt, tt); asked = ((0, omega arith, refl), tt); answered = ((0, omega arith, refl), tt); lawful = (lawful_at [] 2 0 0 refl refl refl, tt) },
        (record { distinct = tt; asked = tt; answered = tt; lawful = tt }, tt),
      ),
    );
  };
  fit = (omega arith, tt);
  small = ((λ e. refl), ((λ e. refl), ((λ e. refl), ((λ e. refl), ((λ e. refl), tt)))));
  accepts = (tt, (tt, (tt, (tt, (tt, (tt, (tt, (tt, (tt, (tt, (refl, (refl, tt))))))))))));
}

pub wide_script_is_read : WideScriptIsRead
unfolding read_lines decode_pairs
wide_script_is_read = refl

pub wide_fault_heals : WideFaultHeals
wide_fault_heals =
    plainly wide_text wide_script four_sectors wide_choices wide_script_is_read fault_meets_premises.lawful fault_meets_premises.healed fault_meets_premises.fit fault_meets_premises.small
    fault_meets_premises.accepts

pub same_sector_isnt_lawful : SameSectorIsntLawful
unfolding fletcher4 fletcher_after attempt_each settle_from settle_each run_held run_lines walk read_tree free_tree place_part
same_sector_isnt_lawful h = let e : false ≡ true = h.lawful.each.0.lawful.1.0.copies.0.free in absurd (cc)

pub same_read_twice : SameReadTwice
same_read_twice = record {
  reply = gave 2 0 (letters (codes "ab"));
  listed = (0, omega arith, refl);
  first = record { number = refl; shown = (refl, refl) };
  second = record { number = refl; shown = (refl, refl) };
}

not_both : (error : Option Errno) (content : Option Content) (bytes : List ℕ) → ShowsReply (Bytes bytes) error content → ShowsReply (Failed Noent) error content → ⊥
not_both None content bytes a b = b
not_both (Some e) content bytes a b = cc

pub error_in_one_run : ErrorInOneRun
error_in_one_run h = not_both h.reply.error h.reply.content read_ended.bytes h.first.shown h.second.shown
