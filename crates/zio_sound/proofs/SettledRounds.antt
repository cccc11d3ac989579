-- A round that is settled by its entries is a round by the definitions.
use Rattle.std.proofs.Common.{◌≡◌, List, ap, sym, ◌∙◌, subst}
use Rattle.zio_types.specs.Choices.{Ask}
use Rattle.zio_cksum.specs.Images.{Images}
use Rattle.zio_gang.specs.Attempts.{Pending, Terms}
use Rattle.zio_gang.specs.Journals.{AreChoicesOf, AreLawful}
use Rattle.zio_gang.specs.Rounds.{Ran, settle_each}
use Rattle.zio_gang.specs.Trees.{sizes_of}
use Rattle.zio_trace.specs.Entries.{IsSettledByEntries}
use Rattle.zio_trace.specs.Families.{Forest}
use Rattle.zio_trace.specs.Rounds.{trees_in}
use Rattle.zio_trace.specs.Tasks.{Value}
use Rattle.zio_trace.specs.Together.{round_of}
use Rattle.zio_course.specs.Runners.{IsRound, SeenEnd, finished_by_number}

pub settled_round : (t : Terms) (f : Forest) (trees : List (List Pending)) (values : List Value) (before after : Images)
    (end : SeenEnd) → trees_in f ≡ trees →
    IsSettledByEntries end.entries t f end.entries (round_of values) before after →
    AreLawful (sizes_of t.setting.tops) t.used end.entries →
    end.left ≡ (round_of values).left → end.finished ≡ finished_by_number (round_of values).ended →
    IsRound t trees before after end
settled_round t f trees values before after end e h lawful left finished =
    let ran : Ran = record { left = (round_of values).left; ended = (round_of values).ended; asks = h.asks; images = after } in
    let SettlesSo : List (List Pending) → Type 0 = λ ts. settle_each end.entries t ts before ≡ ran in
    let is : settle_each end.entries t trees before ≡ ran = subst SettlesSo e h.is in
    let AreAsks : List Ask → Type 0 = λ asks. AreChoicesOf (sizes_of t.setting.tops) t.used asks end.entries in
    record {
      left_is = left ∙ sym (ap (λ (r : Ran). r.left) is);
      finished_is = finished ∙ sym (ap (λ (r : Ran). finished_by_number r.ended) is);
      images_are = sym (ap (λ (r : Ran). r.images) is);
      choices = subst AreAsks (sym (ap (λ (r : Ran). r.asks) is)) (h.choices lawful);
    }
