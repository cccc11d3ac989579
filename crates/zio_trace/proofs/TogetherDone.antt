-- Work done in any order is as in turn.
use Rattle.std.proofs.Common.{◌≡◌, true, List, [], ◌∷◌, ◌++◌, Contains, inl, inr, refl, sym, ap, ◌∙◌, subst, append_assoc}
use Rattle.std.specs.List.{AllByRecursion}
use Rattle.zio_types.specs.Choices.{Ask, Choice}
use Rattle.zio_cksum.specs.Images.{Images}
use Rattle.zio_cksum.proofs.AllLemmas.{all_contained}
use Rattle.zio_gang.specs.Journals.{AreLawful, HaveDistinctKeys, asks_of, choices_in}
use Rattle.zio_gang.specs.Trees.{sizes_of}
use Rattle.zio_trace.specs.Entries.{AnsweredBy, Pass, Recorded, any_rules}
use Rattle.zio_trace.specs.Labels.{Labelled, labelled, means_at, ways_at}
use Rattle.zio_trace.specs.Leaves.{HaveSizes}
use Rattle.zio_trace.specs.Oracles.{deeds_as, heard}
use Rattle.zio_trace.specs.Passing.{Copies, Passes}
use Rattle.zio_trace.specs.Plans.{plan}
use Rattle.zio_trace.specs.Programs.{Deed, Meaning, asks_of as deeds_ask, run}
use Rattle.zio_trace.specs.RoundRules.{asks_in, task_rules}
use Rattle.zio_trace.specs.Rules.{IsDoneBy}
use Rattle.zio_trace.specs.Tasks.{Task, Value, good_by, means}
use Rattle.zio_trace.specs.Together.{AreSharedWell, IsAsInTurn, IsSharedWell, atom_ways}
use Rattle.zio_trace.specs.Traces.{asked_by}
use Rattle.zio_trace.specs.Underway.{Work, plan_each}
use Rattle.zio_trace.proofs.AtomLemmas.{all_parts}
use Rattle.zio_trace.proofs.AtomOracle.{IsAtomic, atom_ground, atoms_of}
use Rattle.zio_trace.proofs.DoneLemmas.{some_oracle}
use Rattle.zio_trace.proofs.EntryLemmas.{answered_by_journal}
use Rattle.zio_trace.proofs.FootprintLemmas.{ReadsOn, read_stays}
use Rattle.zio_trace.proofs.LabelLemmas.{labelled_run}
use Rattle.zio_trace.proofs.OracleLemmas.{op_gave, program_gave}
use Rattle.zio_trace.proofs.ReaderSteps.{IsLeaf, asked_leaves}
use Rattle.zio_trace.proofs.RequestLemmas.{plan_run}
use Rattle.zio_trace.proofs.RoundDone.{task_laws}
use Rattle.zio_trace.proofs.RoundEnds.{done_under, pass_under}
use Rattle.zio_trace.proofs.SharedOrigins.{IsSharedRound, IsSort, all_asked, asked_is, asked_of, back, one_is, ops, sort_of, spots}
use Rattle.zio_trace.proofs.SharedPieces.{reader_of}
use Rattle.zio_trace.proofs.SharedHistories.{all_in_turn}
use Rattle.zio_trace.proofs.TogetherEnds.{as_in_turn, none_shared}
use Rattle.zio_trace.proofs.WholeTraces.{single_asks}

asks_append : (xs ys : List (Labelled Task)) → asks_in (xs ++ ys) ≡ asks_in xs ++ asks_in ys
asks_append [] ys = refl
asks_append (x ∷ xs) ys = ap (λ (rest : List Ask). asked_by x.op ++ rest) (asks_append xs ys) ∙ sym (append_assoc (asked_by x.op) (asks_in xs) (asks_in ys))

leaves_ask : (P : _) (xs : List (Labelled Task)) → AllByRecursion (IsLeaf P) xs → asks_in xs ≡ []
leaves_ask P [] h = refl
leaves_ask P (x ∷ xs) h = (λ i. asked_by (h.0.1 i) ++ asks_in xs) ∙ leaves_ask P xs h.1

module _ (j : List Choice) (w : Work) (history : List (Deed (Labelled Task) Value)) (values : List Value) (before after : Images) (g : IsSharedRound j w history values before after) where
  abbrev atoms : List (Labelled Task)
  atoms = ops j w history values before after g

  abbrev Sorted : Labelled Task → Type 0
  Sorted x = Contains atoms x

  -- what atoms ask doesn't depend on the images
  one_asks : (x : Labelled Task) (images : Images) → IsSort w.terms.setting w.shared x.op → (means j w.terms x.op images).asks ≡ asked_by x.op
  one_asks x images (inl one) = single_asks j w.terms x.op images one.0
  one_asks x images (inr r) = subst (λ (q : Task). (means j w.terms q images).asks ≡ asked_by q) (sym r.2) refl

  atoms_ask : (xs : List (Labelled Task)) (images : Images) → AllByRecursion Sorted xs → deeds_ask (means_at (means j w.terms)) (deeds_as g.atomic.atoms xs) images ≡ asks_in xs
  atoms_ask [] images h = refl
  atoms_ask (x ∷ xs) images h =
      λ i. one_asks x images (sort_of j w history values before after g x h.0) i ++ atoms_ask xs (means j w.terms x.op images).images h.1 i

  one_part : (x : Labelled Task) → IsSort w.terms.setting w.shared x.op → asks_in (g.oracle.asked x) ≡ asked_by x.op ++ []
  one_part x (inl one) = ap asks_in (one_is j w history values before after g x one.0)
  one_part x (inr r) =
      let c : Copies = r.0 in
      ap asks_in (asked_is j w history values before after g x c r.2)
      ∙ leaves_ask (ReadsOn (spots j w history values before after g c) c.len true) (asked_of j w history values before after g c x.at)
      (asked_leaves g.oracle (one_is j w history values before after g) (ReadsOn (spots j w history values before after g c) c.len true) _ x.at 0 (reader_of w.terms.setting before c) (read_stays w.terms.setting true (good_by c.test) c.len c.places))
      ∙ ap (λ (q : Task). asked_by q ++ []) (sym r.2)

  none_behind : (front bs : List Ask) → (front ++ []) ++ bs ≡ front ++ bs
  none_behind front bs = append_assoc front [] bs

  parts_ask : (xs : List (Labelled Task)) → AllByRecursion Sorted xs → asks_in (all_parts g.oracle xs) ≡ asks_in xs
  parts_ask [] h = refl
  parts_ask (x ∷ xs) h =
      asks_append (g.oracle.asked x) (all_parts g.oracle xs)
      ∙ (λ i. one_part x (sort_of j w history values before after g x h.0) i ++ parts_ask xs h.1 i)
      ∙ none_behind (asked_by x.op) (asks_in xs)

  pub shared_gives : run (means j w.terms) (plan_each w.tasks) before ≡ record { value = values; asks = asks_in (all_asked j w history values before after g); images = after }
  shared_gives =
      let means_labelled : Meaning (Labelled Task) Value = means_at (means j w.terms) in
      let law : (x : Labelled Task) (images : Images) → run means_labelled ((ways_at (atom_ways j w.terms)).plan x) images ≡ means_labelled x images =
      λ x images. labelled_run (means j w.terms) x.at 0 (plan w.terms x.op) images ∙ plan_run j w.terms x.op images in
      let gives = program_gave means_labelled g.atomic.atoms (labelled [] 0 (plan_each w.tasks)) (λ q m. op_gave (ways_at (atom_ways j w.terms)) means_labelled g.atomic.atoms g.atomic.is law q (atom_ground j w.terms q))
      before after (all_in_turn j w history values before after g) in
      let value : heard g.atomic.atoms (labelled [] 0 (plan_each w.tasks)) ≡ values = g.atomic.value ∙ g.done.known g.oracle g.is g.agrees in
      let asks : deeds_ask means_labelled (deeds_as g.atomic.atoms atoms) before ≡ asks_in (all_asked j w history values before after g) =
      atoms_ask atoms before (all_contained atoms) ∙ sym (parts_ask atoms (all_contained atoms)) ∙ ap asks_in (sym g.atomic.parts) in
      sym (labelled_run (means j w.terms) [] 0 (plan_each w.tasks) before) ∙ gives ∙ (λ i. record { value = value i; asks = asks i; images = after })

some_shared : (j : List Choice) (w : Work) (values : List Value) (history : List (Deed (Labelled Task) Value)) (before after : Images) (entries : List Choice) → AreSharedWell w
    → IsDoneBy (any_rules w.terms w.sizes) (Passes w.terms.setting w.shared) (plan_each w.tasks) history values → HaveSizes w.sizes before → Pass w.terms history before after
    → Recorded history entries → HaveDistinctKeys (asks_of entries) → AreLawful (sizes_of w.terms.setting.tops) w.terms.used entries → choices_in w.terms.round j ≡ entries → IsAsInTurn j w entries values before after
some_shared j w values history before after entries well done have pass recorded distinct lawful of_round =
    let answered : AnsweredBy j history = answered_by_journal w.terms.round j history entries of_round recorded distinct in
    let under : IsDoneBy (task_rules j w.terms w.sizes) (Passes w.terms.setting w.shared) (plan_each w.tasks) history values =
    done_under j w.terms w.sizes (Passes w.terms.setting w.shared) (plan_each w.tasks) history values done answered in
    let some = some_oracle (task_rules j w.terms w.sizes) (task_laws j w.terms w.sizes) history (λ (x : Labelled Task). (means j w.terms x.op before).value) under.once under.single under.fit in
    let atomic : IsAtomic j w.terms some.0 (plan_each w.tasks) = atoms_of j w.terms some.0 (plan_each w.tasks) some.1 in
    let g : IsSharedRound j w history values before after = record {
      well = well;
      have = have;
      done = under;
      happen = pass_under j w.terms history before after done.single answered pass;
      oracle = some.0;
      is = some.1;
      agrees = some.2;
      atomic = atomic;
      keeps = well.keeps j (subst (AreLawful (sizes_of w.terms.setting.tops) w.terms.used) (sym of_round) lawful) atomic.atoms atomic.is;
    } in
    as_in_turn j w values history before after entries (all_asked j w history values before after g) recorded distinct
    (record { all = under.all some.0 some.1 some.2; within = under.within some.0 some.1 some.2; back = back j w history values before after g })
    (shared_gives j w history values before after g)

pub done_as_in_turn : (j : List Choice) (w : Work) (values : List Value) (history : List (Deed (Labelled Task) Value)) (before after : Images) (entries : List Choice) → IsSharedWell w
    → IsDoneBy (any_rules w.terms w.sizes) (Passes w.terms.setting w.shared) (plan_each w.tasks) history values → HaveSizes w.sizes before → Pass w.terms history before after
    → Recorded history entries → HaveDistinctKeys (asks_of entries) → AreLawful (sizes_of w.terms.setting.tops) w.terms.used entries → choices_in w.terms.round j ≡ entries → IsAsInTurn j w entries values before after
done_as_in_turn j w values history before after entries (inl none) done have pass recorded distinct lawful of_round =
    none_shared j w values history before after entries none done have pass recorded distinct of_round
done_as_in_turn j w values history before after entries (inr well) done have pass recorded distinct lawful of_round =
    some_shared j w values history before after entries well done have pass recorded distinct lawful of_round
