-- Whether a request that closes keeps the block that it made, and what it ends with.
use Rattle.std.proofs.Common.{◌≡◌, ℕ, List, map, Bool, true, false, ◌&&◌, not, Option, Some, None, refl, sym, ap, ◌∙◌}
use Rattle.std.specs.Prelude.{IfOk, Result, Ok, Err, is_none}
use Rattle.zio_types.specs.declared.error.Errno.{Errno}
use Rattle.zio_types.specs.declared.request.Bits.{Bits}
use Rattle.zio_types.specs.Errors.{worst_error, worst_of}
use Rattle.zio_types.specs.Bits.{has_bits}
use Rattle.zio_script.specs.Requests.{kind_of}
use Rattle.zio_gang.specs.Attempts.{Child, Terms, all_bits, bits_of}
use Rattle.zio_children.specs.RequestKids.{finished_in, returns_in}
use Rattle.zio_frames.specs.Frames.{Child as StackChild, Stack}
use Rattle.zio_stages.specs.Closings.{ClosesBy, EndsBy, node_over}
use Rattle.zio_stages.specs.RequestNodes.{IsRequestNode, OwnEnds, own_got}
use Rattle.zio_stages.specs.RequestStoreds.{is_well, keeps_if}
use Rattle.zio_stages.specs.Sealed.{Outcome}
use Rattle.zio_stages.specs.declared.request_node.Own.{Own}
use Rattle.zio_stages.specs.declared.request_node.OwnFound.{OwnFound}
use Rattle.zio_stages.specs.declared.request_node.RequestNode.{RequestNode}

keeps_none : (e : Option Errno) → keeps_if e ≡ is_none e
keeps_none None = refl
keeps_none (Some e) = refl

-- it finishes with the worst error of all
pub keeps_finished : (r : RequestNode) (error worst : Option Errno) (bits : Bits)
    → bits ≡ all_bits (kind_of r.waiting.request.work) error r.waiting.request.canfail r.failmode (bits_of (returns_in r.kids.kids)) → has_bits bits ≡ false
    → worst ≡ worst_error error (worst_of (map (λ (c : Child). c.error) (finished_in r.kids.kids))) → keeps_if worst ≡ is_well r error
keeps_finished r error worst bits is none all =
    keeps_none worst ∙ ap (λ (e : Option Errno). is_none e) all
    ∙ ap (λ (b : Bool). not b && is_none (worst_error error (worst_of (map (λ (c : Child). c.error) (finished_in r.kids.kids))))) (sym none ∙ ap has_bits is)

-- it goes again
pub keeps_again : (r : RequestNode) (error : Option Errno) (bits : Bits)
    → bits ≡ all_bits (kind_of r.waiting.request.work) error r.waiting.request.canfail r.failmode (bits_of (returns_in r.kids.kids)) → has_bits bits ≡ true
    → false ≡ is_well r error
keeps_again r error bits is some =
    ap (λ (b : Bool). not b && is_none (worst_error error (worst_of (map (λ (c : Child). c.error) (finished_in r.kids.kids))))) (sym some ∙ ap has_bits is)

-- where its own work ended with this, what it closes with it ends with
pub ends_with : {E : Type 0} (r : RequestNode) (own : OwnFound) (Is : OwnFound → Type 0) (result : Result Outcome E) → Is own
    → ((t : Terms) (st : Stack) (h : IsRequestNode t r st) → OwnEnds t r st (own_got own) h)
    → IfOk result (λ outcome. (begun : Own) (family : List StackChild) (round : ℕ) → ClosesBy (node_over r.waiting r.kids begun family round r.attempt r.failmode) own outcome)
    → IfOk result (λ outcome. (x : OwnFound) × Is x × EndsBy r x outcome)
ends_with r own Is (Ok outcome) is ends closes =
    let by = closes r.own r.family r.round in (
      own,
      is,
      record {
        closed = by.closed;
        is = by.is;
        own_is = by.own_is;
        decides = by.decides;
        closes = λ t st h. by.closes t st h (ends t st h);
        list = by.list;
      },
    )
ends_with r own Is (Err e) is ends closes = tt
