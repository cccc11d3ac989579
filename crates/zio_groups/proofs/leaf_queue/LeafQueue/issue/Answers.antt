use Rattle.std.proofs.Common.{◌≡◌, List, Bool, Contains, is_some, map, nat_eq, ap, sym, subst, ◌∙◌}
use Rattle.std.specs.HashMap.{get}
use Rattle.std.specs.List.{AllByRecursion}
use Rattle.zio_cksum.specs.Images.{Images}
use Rattle.zio_disks.specs.Disks.{Tell}
use Rattle.zio_disks.proofs.DiskLemmas.{handles_err, handles_none, handles_wider, not_device}
use Rattle.zio_vqueue.specs.declared.op.Group.{Group}
use Rattle.zio_vqueue.specs.Groups.{IsNextGroup}
use Rattle.zio_vqueue.specs.Queues.{AreApart, Queue, eligible, is_queued}
use Rattle.zio_groups.specs.declared.waiting.QueuedOp.{QueuedOp}
use Rattle.zio_groups.specs.Issued.{AreWhole, EndsOn, IsFit, all_issued, head_of, written_spots}
use Rattle.zio_groups.specs.LeafQueues.{AreMembers, IsInOrder, Waits, after_issue, kept_with, queue_of, waits_of}
use Rattle.zio_groups.proofs.CoverLemmas.{memory_on}
use Rattle.zio_groups.proofs.IssueLemmas.{spots_among}
use Rattle.zio_groups.proofs.QueueLemmas.{Kept, after_done, ops_kept, order_done, order_taken, queue_kept, waits_done}
use Rattle.zio_groups.proofs.TakeLemmas.{all_among, next_among, next_apart, next_members}
use Rattle.zio_groups.proofs.leaf_queue.LeafQueue.issue.Goals as goal

pub next_group-requires : goal.next_group-requires
next_group-requires g c =
    ap (λ (q : Queue). is_some (eligible q)) (sym (queue_kept (get nat_eq c.self.inside.kept) c.self.inside.queue))
    ∙ ap (λ (w : Waits). is_some (eligible (queue_of w))) c.self.view_is
    ∙ c.requires.eligible

pub returns-in_err-group-clause-handled : goal.returns-in_err-group-clause-handled
returns-in_err-group-clause-handled g c =
    handles_none g.D.Disk.bytes g.D.Disk.faults g.D.Disk.faults_at_fetch g.D.Disk.home g.D.Disk.image g.D.Disk.sound g.D.Disk.went (written_spots c.args.leaf c.args.self.now.waiting) c.from_residual.result c.args.disks.now
    (not_device c.from_residual.result (memory_on c.from_residual.result _ c.from_residual.ensures.1 c.in_err-group.ensures.err))

pub take_kept-requires : goal.take_kept-requires
take_kept-requires g c =
    let f : Kept = get nat_eq c.self.inside.kept in
    let q : Queue = c.self.inside.queue in
    let group : Group = c.in_ok-group.group in
    record { apart = subst AreApart (sym c.as_slice.ensures) (next_apart f q group c.in_ok-group.ensures.group c.self.invariant) }

pub invariant_of-self-in_err-members : goal.invariant_of-self-in_err-members
invariant_of-self-in_err-members g c =
    let f : Kept = get nat_eq c.self.inside.kept in
    let q : Queue = c.self.inside.queue in
    let group : Group = c.in_ok-group.group in
    subst (λ (p : Queue). IsInOrder (waits_of (get nat_eq c.take_kept.new.kept) p)) (sym c.in_ok-group.ensures.taken) (order_taken f (get nat_eq c.take_kept.new.kept) q group c.take_kept.ensures.fewer c.self.invariant)

pub returns-in_err-members-clause-handled : goal.returns-in_err-members-clause-handled
returns-in_err-members-clause-handled g c =
    handles_none g.D.Disk.bytes g.D.Disk.faults g.D.Disk.faults_at_fetch g.D.Disk.home g.D.Disk.image g.D.Disk.sound g.D.Disk.went (written_spots c.args.leaf c.args.self.now.waiting) c.from_residual-in_err-members.result c.args.disks.now
    (not_device c.from_residual-in_err-members.result (memory_on c.from_residual-in_err-members.result _ c.from_residual-in_err-members.ensures.1 c.in_err-members.ensures.err))

pub issue_group-requires-clause-fit : goal.issue_group-requires-clause-fit
issue_group-requires-clause-fit g c =
    let f : Kept = get nat_eq c.self.inside.kept in
    let q : Queue = c.self.inside.queue in
    let group : Group = c.in_ok-group.group in
    let ms : List QueuedOp = map (kept_with f) group.ops in
    let are : c.as_slice-2.result.now ≡ ms = c.as_slice-2.ensures ∙ c.in_ok-members.ensures.ok ∙ ap (map (kept_with f)) c.as_slice.ensures in
    let among : AllByRecursion (Contains c.args.self.now.waiting) ms = subst (λ (w : Waits). AllByRecursion (Contains w.waiting) ms) c.self.view_is (next_among f q group c.in_ok-group.ensures.group) in
    subst (AllByRecursion IsFit) (sym are) (all_among IsFit (map (kept_with f) q.queued) ms (next_among f q group c.in_ok-group.ensures.group) c.self.invariant.fit)

pub issue_group-requires-clause-members : goal.issue_group-requires-clause-members
issue_group-requires-clause-members g c =
    let f : Kept = get nat_eq c.self.inside.kept in
    let q : Queue = c.self.inside.queue in
    let group : Group = c.in_ok-group.group in
    let ms : List QueuedOp = map (kept_with f) group.ops in
    let are : c.as_slice-2.result.now ≡ ms = c.as_slice-2.ensures ∙ c.in_ok-members.ensures.ok ∙ ap (map (kept_with f)) c.as_slice.ensures in
    let among : AllByRecursion (Contains c.args.self.now.waiting) ms = subst (λ (w : Waits). AllByRecursion (Contains w.waiting) ms) c.self.view_is (next_among f q group c.in_ok-group.ensures.group) in
    subst (λ (ws : List QueuedOp). (write : Bool) × AreMembers group write ws) (sym are) (next_members f q group c.in_ok-group.ensures.group)

pub issue_group-requires-clause-lies : goal.issue_group-requires-clause-lies
issue_group-requires-clause-lies g c =
    let f : Kept = get nat_eq c.self.inside.kept in
    let q : Queue = c.self.inside.queue in
    let group : Group = c.in_ok-group.group in
    let ms : List QueuedOp = map (kept_with f) group.ops in
    let are : c.as_slice-2.result.now ≡ ms = c.as_slice-2.ensures ∙ c.in_ok-members.ensures.ok ∙ ap (map (kept_with f)) c.as_slice.ensures in
    let among : AllByRecursion (Contains c.args.self.now.waiting) ms = subst (λ (w : Waits). AllByRecursion (Contains w.waiting) ms) c.self.view_is (next_among f q group c.in_ok-group.ensures.group) in
    subst (AllByRecursion (EndsOn (map g.D.Disk.bytes c.args.disks.now) c.args.leaf)) (sym are)
    (all_among (EndsOn (map g.D.Disk.bytes c.args.disks.now) c.args.leaf) c.args.self.now.waiting ms among c.requires.lies)

pub invariant_of-self-in_err-answers : goal.invariant_of-self-in_err-answers
invariant_of-self-in_err-answers g c =
    let f : Kept = get nat_eq c.self.inside.kept in
    let q : Queue = c.self.inside.queue in
    let group : Group = c.in_ok-group.group in
    subst (λ (p : Queue). IsInOrder (waits_of (get nat_eq c.take_kept.new.kept) p)) (sym c.in_ok-group.ensures.taken) (order_taken f (get nat_eq c.take_kept.new.kept) q group c.take_kept.ensures.fewer c.self.invariant)

pub returns-in_err-answers-clause-handled : goal.returns-in_err-answers-clause-handled
returns-in_err-answers-clause-handled g c =
    let f : Kept = get nat_eq c.self.inside.kept in
    let q : Queue = c.self.inside.queue in
    let group : Group = c.in_ok-group.group in
    let ms : List QueuedOp = map (kept_with f) group.ops in
    let are : c.as_slice-2.result.now ≡ ms = c.as_slice-2.ensures ∙ c.in_ok-members.ensures.ok ∙ ap (map (kept_with f)) c.as_slice.ensures in
    let among : AllByRecursion (Contains c.args.self.now.waiting) ms = subst (λ (w : Waits). AllByRecursion (Contains w.waiting) ms) c.self.view_is (next_among f q group c.in_ok-group.ensures.group) in
    handles_err c.from_residual-in_err-answers.result c.from_residual-in_err-answers.ensures.1
    (handles_wider (written_spots c.args.leaf c.args.self.now.waiting)
    (subst (λ (ws : List QueuedOp). AllByRecursion (Contains (written_spots c.args.leaf c.args.self.now.waiting)) (written_spots c.args.leaf ws)) (sym are) (spots_among c.args.leaf c.args.self.now.waiting ms among))
    c.in_err-answers.ensures.handled)

pub invariant_of-self-2 : goal.invariant_of-self-2
invariant_of-self-2 g c =
    let f : Kept = get nat_eq c.self.inside.kept in
    let q : Queue = c.self.inside.queue in
    let group : Group = c.in_ok-group.group in
    let h : Kept = get nat_eq c.take_kept.new.kept in
    subst (λ (p : Queue). IsInOrder (waits_of h p)) (sym {b = after_done c.next_group.new.queue group} c.done.ensures)
    (order_done c.next_group.new.queue group h (subst (λ (p : Queue). IsInOrder (waits_of h p)) (sym c.in_ok-group.ensures.taken) (order_taken f h q group c.take_kept.ensures.fewer c.self.invariant)))

pub returns-clause-issued : goal.returns-clause-issued
returns-clause-issued g c =
    let f : Kept = get nat_eq c.self.inside.kept in
    let q : Queue = c.self.inside.queue in
    let group : Group = c.in_ok-group.group in
    let ms : List QueuedOp = map (kept_with f) group.ops in
    let are : c.as_slice-2.result.now ≡ ms = c.as_slice-2.ensures ∙ c.in_ok-members.ensures.ok ∙ ap (map (kept_with f)) c.as_slice.ensures in
    let among : AllByRecursion (Contains c.args.self.now.waiting) ms = subst (λ (w : Waits). AllByRecursion (Contains w.waiting) ms) c.self.view_is (next_among f q group c.in_ok-group.ensures.group) in
    let h : Kept = get nat_eq c.take_kept.new.kept in
    record {
      group = group;
      members = ms;
      next = subst (λ (w : Waits). IsNextGroup (queue_of w) group) c.self.view_is (subst (λ (p : Queue). IsNextGroup p group) (sym (queue_kept f q)) c.in_ok-group.ensures.group);
      ops = ops_kept f group.ops;
      among = among;
      left = ap (waits_of h) (c.done.ensures ∙ ap (λ (p : Queue). after_done p group) c.in_ok-group.ensures.taken)
          ∙ waits_done f h q group (λ t e. c.take_kept.ensures.others t (ap (is_queued t) c.as_slice.ensures ∙ e)) c.self.invariant.room
          ∙ ap (λ (w : Waits). after_issue w group) c.self.view_is;
      told = subst
          (λ (ws : List QueuedOp). (images : Images) → Tell g.D.Disk.image c.args.disks.now images →
          (c.in_ok-answers.answers ≡ (all_issued c.args.setting.now c.args.leaf ws images).answers)
          × Tell g.D.Disk.image c.issue_group.new.disks (all_issued c.args.setting.now c.args.leaf ws images).images)
          are c.in_ok-answers.ensures.told;
      heads = subst
          (λ (ws : List QueuedOp). (images : Images) → map head_of c.in_ok-answers.answers ≡ map head_of ((all_issued c.args.setting.now c.args.leaf ws images).answers))
          are c.in_ok-answers.ensures.heads;
      whole = subst (λ (ws : List QueuedOp). AreWhole ws c.in_ok-answers.answers) are c.in_ok-answers.ensures.whole;
    }

pub returns-clause-handled : goal.returns-clause-handled
returns-clause-handled g c =
    let f : Kept = get nat_eq c.self.inside.kept in
    let q : Queue = c.self.inside.queue in
    let group : Group = c.in_ok-group.group in
    let ms : List QueuedOp = map (kept_with f) group.ops in
    let are : c.as_slice-2.result.now ≡ ms = c.as_slice-2.ensures ∙ c.in_ok-members.ensures.ok ∙ ap (map (kept_with f)) c.as_slice.ensures in
    let among : AllByRecursion (Contains c.args.self.now.waiting) ms = subst (λ (w : Waits). AllByRecursion (Contains w.waiting) ms) c.self.view_is (next_among f q group c.in_ok-group.ensures.group) in
    handles_wider (written_spots c.args.leaf c.args.self.now.waiting)
    (subst (λ (ws : List QueuedOp). AllByRecursion (Contains (written_spots c.args.leaf c.args.self.now.waiting)) (written_spots c.args.leaf ws)) (sym are) (spots_among c.args.leaf c.args.self.now.waiting ms among))
    c.in_ok-answers.ensures.handled
