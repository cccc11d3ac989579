-- What an engine did, in whatever order, is what its calls mean.
use Rattle.std.proofs.Common.{◌≡◌, ℕ, List, refl, sym, ap, subst}
use Rattle.std.specs.List.{AllByRecursion}
use Rattle.zio_cksum.specs.Images.{Images}
use Rattle.zio_types.specs.Choices.{Choice}
use Rattle.zio_gang.specs.Attempts.{Terms}
use Rattle.zio_trace.specs.Conflicts.{TaskLies, TasksApart}
use Rattle.zio_trace.specs.Leaves.{AreApart, HaveSizes, LiesOn, on_leaf}
use Rattle.zio_trace.specs.Orders.{Commute, Stamped, deeds_in, IsOrderOf}
use Rattle.zio_trace.specs.Programs.{Meaning, Program, run, Deed, Does, Happen, asks_of, Made}
use Rattle.zio_trace.specs.Tasks.{Task, Leaf, Find, TakePlaces, Got, means}
use Rattle.zio_trace.proofs.HistoryLemmas.{history_by_stamp}
use Rattle.zio_trace.proofs.LeafLemmas.{leaves_commute}
use Rattle.zio_trace.proofs.OrderLemmas.{happen_risen}
use Rattle.zio_trace.proofs.ProgramLemmas.{made_happen, run_does}

-- What happened happens in each other order in which those that conflict stand as they were done.
pub happens_in_order : {Op Ans : Type 0} (means : Meaning Op Ans) (Sound : Images → Type 0) (Lies : Op → Type 0) (Apart : Op → Op → Type 0) → Commute means Sound Lies Apart
    → (history : List (Deed Op Ans)) (xs : List (Stamped Op Ans)) (before after : Images)
    → IsOrderOf Apart history xs → AllByRecursion (λ (x : Stamped Op Ans). Lies x.deed.op) xs → Sound before → Happen means history before after → Happen means (deeds_in xs) before after
happens_in_order means Sound Lies Apart commute history xs before after order lies sound h =
    happen_risen means Sound Lies Apart commute xs before after sound lies order.rise
    (subst (λ (ds : List (Deed _ _)). Happen means ds before after) (sym (history_by_stamp history xs order.stand order.once order.all)) h)

-- A round's program, of whose calls the deeds were done in some order that a history shows, gives what it gives alone.
pub round_run : {Op Ans A : Type 0} (means : Meaning Op Ans) (plan : Op → Program Op Ans Ans) (Sound : Images → Type 0) (Lies : Op → Type 0) (Apart : Op → Op → Type 0)
    → ((op : Op) (images : Images) → run means (plan op) images ≡ means op images) → Commute means Sound Lies Apart
    → (round : Program Op Ans A) (calls history : List (Deed Op Ans)) (xs : List (Stamped Op Ans)) (value : A) (before after : Images)
    → Does round calls value → Made plan calls (deeds_in xs) → IsOrderOf Apart history xs → AllByRecursion (λ (x : Stamped Op Ans). Lies x.deed.op) xs → Sound before → Happen means history before after
    → run means round before ≡ record { value = value; asks = asks_of means calls before; images = after }
round_run means plan Sound Lies Apart law commute round calls history xs value before after does made shows lies sound h =
    let ordered : Happen means (deeds_in xs) before after = happens_in_order means Sound Lies Apart commute history xs before after shows lies sound h in
    run_does means round calls value before after does (made_happen means plan law calls (deeds_in xs) before after made ordered)

-- ---- tasks of leaves and of the space

abbrev Swaps : List Choice → Terms → Task → Task → Images → Type 0
Swaps j t a b images =
    ((means j t b (means j t a images).images).value ≡ (means j t b images).value)
    × ((means j t b (means j t a images).images).images ≡ (means j t a (means j t b images).images).images)

turned_tasks : (j : List Choice) (t : Terms) (sizes : ℕ → ℕ) (a b : Task) → TasksApart a b → TasksApart b a
turned_tasks j t sizes (Leaf a) (Leaf b) h = (leaves_commute t.setting sizes).turned a b h
turned_tasks j t sizes (Leaf a) (Find b) h = tt
turned_tasks j t sizes (Find a) (Leaf b) h = tt
turned_tasks j t sizes (Find a) (Find b) h = tt
turned_tasks j t sizes (Leaf a) (TakePlaces x) h = tt
turned_tasks j t sizes (TakePlaces x) (Leaf a) h = tt
turned_tasks j t sizes (Find a) (TakePlaces x) h = tt
turned_tasks j t sizes (TakePlaces x) (Find a) h = tt
turned_tasks j t sizes (TakePlaces x) (TakePlaces y) h = tt
turned_tasks j t sizes _ _ h = absurd h

sound_tasks : (j : List Choice) (t : Terms) (sizes : ℕ → ℕ) (a : Task) (images : Images) → HaveSizes sizes images → TaskLies sizes a → HaveSizes sizes (means j t a images).images
sound_tasks j t sizes (Leaf a) images have lies = (leaves_commute t.setting sizes).sound a images have lies
sound_tasks j t sizes (Find a) images have lies = have
sound_tasks j t sizes (TakePlaces x) images have lies = have
sound_tasks j t sizes _ images have lies = absurd lies

swap_tasks : (j : List Choice) (t : Terms) (sizes : ℕ → ℕ) (a b : Task) (images : Images) → TasksApart a b → HaveSizes sizes images → TaskLies sizes a → TaskLies sizes b → Swaps j t a b images
swap_tasks j t sizes (Leaf a) (Leaf b) images h have la lb =
    let law : Commute (on_leaf t.setting) (HaveSizes sizes) (LiesOn sizes) AreApart = leaves_commute t.setting sizes in
    (ap (λ v. Got v) (law.answer a b images h have la lb), law.images a b images h have la lb)
swap_tasks j t sizes (Leaf a) (Find b) images h have la lb = (refl, refl)
swap_tasks j t sizes (Find a) (Leaf b) images h have la lb = (refl, refl)
swap_tasks j t sizes (Find a) (Find b) images h have la lb = (refl, refl)
swap_tasks j t sizes (Leaf a) (TakePlaces x) images h have la lb = (refl, refl)
swap_tasks j t sizes (TakePlaces x) (Leaf a) images h have la lb = (refl, refl)
swap_tasks j t sizes (Find a) (TakePlaces x) images h have la lb = (refl, refl)
swap_tasks j t sizes (TakePlaces x) (Find a) images h have la lb = (refl, refl)
swap_tasks j t sizes (TakePlaces x) (TakePlaces y) images h have la lb = (refl, refl)
swap_tasks j t sizes _ _ images h have la lb = absurd h

pub tasks_commute : (j : List Choice) (t : Terms) (sizes : ℕ → ℕ) → Commute (means j t) (HaveSizes sizes) (TaskLies sizes) TasksApart
tasks_commute j t sizes = record {
  turned = turned_tasks j t sizes;
  sound = sound_tasks j t sizes;
  answer = λ a b images h have la lb. (swap_tasks j t sizes a b images h have la lb).0;
  images = λ a b images h have la lb. (swap_tasks j t sizes a b images h have la lb).1;
}
