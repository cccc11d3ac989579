use Rattle.std.proofs.Common.{◌≡◌, ℕ, List, ap, false, refl, subst, sym, take, ◌∙◌}
use Rattle.zio_masks.specs.declared.stage.Stage.{Stage}
use Rattle.zio_trace.specs.Tasks.{Leaf}
use Rattle.zio_frames.specs.Frames.{fresh_frame}
use Rattle.zio_stages.specs.LeafWorks.{IsLeafWork, len_of}
use Rattle.zio_stages.specs.declared.leaf.LeafWork.{LeafWork}
use Rattle.zio_nodes.specs.LeafAts.{LeafStands}
use Rattle.zio_nodes.specs.Told.{is_told}
use Rattle.zio_nodes.specs.declared.leaf_at.LeafAt.{LeafAt}
use Rattle.zio_nodes.proofs.LeafLemmas.{answer_shown, answered_left, unheard_stands}
use Rattle.zio_nodes.proofs.StageLemmas.{leaf_out}
use Rattle.zio_nodes.proofs.leaf_at.LeafAt.answered.Goals as goal
use Rattle.zio_nodes.proofs.leaf_at.LeafAt.answered.Goals.{then-not-self+in-One-1, then-not-self+in-Many-1, else-not-self}

pub returns-clause-heard : goal.returns-clause-heard
returns-clause-heard c = λ t act a h shows.
    let work : LeafWork = c.if-not-self.self.work in
    let P : LeafAt → Type 0 = λ at. IsLeafWork t at.work (fresh_frame (Leaf act)) in
    let part : IsLeafWork t work (fresh_frame (Leaf act)) = elim c.if-not-self.branch [
      | then-not-self+in-One-1 w ↦ subst P (sym w.self-is) (w.hand_out.ensures.related t (fresh_frame (Leaf act)) h.part)
      | then-not-self+in-Many-1 w ↦ subst P (sym w.self-is) (w.hand_out.ensures.related t (fresh_frame (Leaf act)) h.part)
      | else-not-self w ↦ subst P (sym w.self-is) h.part
    ] in
    let cut : c.from_vec.result ≡ take (len_of work) c.args.bytes =
    c.from_vec.ensures ∙ c.truncate.ensures.items ∙ ap (λ (bs : List ℕ). take c.len-len.result bs) c.into_vec-items.ensures
    ∙ ap (λ (n : ℕ). take n c.args.bytes) c.len-len.ensures in
    record {
      stands = subst (λ (s : Stage). LeafStands s false c.answer.new.self) (sym (leaf_out c.next-self.result c.next-self.ensures)) c.answer.ensures.answered;
      alone = refl;
      childless = refl;
      part = c.answer.ensures.related t (fresh_frame (Leaf act)) a part (answer_shown t work act c.args.error c.args.bytes c.from_vec.result a part shows cut);
    }

pub returns-clause-told : goal.returns-clause-told
returns-clause-told c =
    let k = c.requires in
    ap is_told (leaf_out c.next-self.result c.next-self.ensures) ∙ sym (ap is_told (unheard_stands k.0 c.args.self.now k.1 k.2).0)

pub returns-clause-left : goal.returns-clause-left
returns-clause-left c =
    let k = c.requires in
    let at = c.args.self.now in
    answered_left at.stage c.next-self.result at.is_out (unheard_stands k.0 at k.1 k.2).0 (leaf_out c.next-self.result c.next-self.ensures)
