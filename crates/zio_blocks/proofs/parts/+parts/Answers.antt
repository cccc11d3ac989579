use Rattle.std.proofs.Common.{◌≡◌, ℕ, suc, inl, inr, ◌+◌, ◌-◌, ◌<◌, ◌∷◌, ◌++◌, [], List, None, Some, false, true, refl, sym, ap, subst, ◌∙◌, arith, rules, length, map, drop, get_or, Option}
use Rattle.std.proofs.lemmas.Grind.{common_steps}
use Rattle.std.proofs.lemmas.Result.{IfOk-weaker}
use Rattle.zio_types.specs.declared.place.Place.{Place}
use Rattle.zio_types.specs.Choices.{Choice, no_place}
use Rattle.zio_cksum.specs.Frames.{spots_of}
use Rattle.zio_gang.specs.Trees.{sizes_of}
use Rattle.zio_gang.specs.Writes.{cut, head_ask, place_members, place_part, pointer_to}
use Rattle.zio_blkptr.specs.declared.pointer.Bp.{Bp}
use Rattle.zio_cksum.specs.Blocks.{write_piece}
use Rattle.zio_blkptr.specs.Pointers.{FitsTypes}
use Rattle.zio_cksum.specs.Headers.{header_of}
use Rattle.zio_cksum.proofs.SplitLemmas.{few_law}
use Rattle.zio_types.specs.Filled.{length-filled}
use Rattle.zio_blocks.specs.Laid.{IsBelow, IsFrom, IsHeadOf, IsLaid, IsOfGang}
use Rattle.zio_blocks.specs.Parts.{IsMade, TellsMembers}
use Rattle.std.proofs.Math.Seq.{drop-append_seam}
use Rattle.std.proofs.lemmas.List.{append-nil, drop_all}
use Rattle.std.proofs.Common.{append_assoc}
use Rattle.zio_gang.specs.declared.tree.Head.{Head}
use Rattle.zio_disks.specs.Trees.{BearsTops}
use Rattle.zio_disks.specs.Disks.{LieOn, Tell}
use Rattle.zio_disks.proofs.DiskLemmas.{handles_err, handles_none, handles_ok, handles_then}
use Rattle.zio_blocks.specs.Blocks.{terms_of}
use Rattle.zio_blocks.specs.Choosers.{given_since, taken_by_all}
use Rattle.zio_blocks.proofs.AskLemmas.{asks_then, behind_of, first_of as first_item, handles_at, handles_found, handles_join, handles_left, handles_right, handles_stop, if_both, none_of, since_same, since_then, stop_is, taken_behind, taken_both, taken_front}
use Rattle.zio_blocks.proofs.FoundLemmas.{entry_lies, first_sector, head_entry, made_pointer, places_of_pointer}
use Rattle.zio_blocks.proofs.KeyLemmas.{IsBodyOf, below_member, body_and_gang, body_asked, from_body, from_gang, head_and_below, head_asked, member_keys, once_none, once_one, once_then, once_wider}
use Rattle.zio_blocks.proofs.LaidLemmas.{drop_both, laid_at, laid_body, laid_gang, laid_members, laid_no_members, laid_nowhere}
use Rattle.zio_blocks.proofs.TellLemmas.{filled_more, large_test, members_meant, small_test, some_levels, tell_body, tell_gang, tell_headed, tell_headless, tell_members_at, tell_nowhere, tell_written}
use Rattle.zio_blocks.proofs.parts.+parts.Goals as goal

pub place_gang-returns-in_err-entry-clause-handled : goal.place_gang-returns-in_err-entry-clause-handled
place_gang-returns-in_err-entry-clause-handled g t c =
    handles_stop g.D.Disk.bytes g.D.Disk.faults g.D.Disk.faults_at_fetch g.D.Disk.home g.D.Disk.image g.D.Disk.sound g.D.Disk.went _ c.from_residual.result _ c.args.disks.now c.from_residual.ensures.1
    (stop_is c.ask.result _ c.in_err-entry.was c.ask.ensures.memory)

pub place_gang-returns-then-is_refused-clause-told : goal.place_gang-returns-then-is_refused-clause-told
place_gang-returns-then-is_refused-clause-told g t c images tell =
    let w = terms_of c.args.setting.now c.args.writing.now in
    tell_headless g.D.Disk.image c.args.levels w c.args.path.now c.args.bytes.now images c.nowhere.result _ c.in_ok-entry.entry _ c.args.disks.now
    c.in_ok-entry.ensures.given (c.in_ok-entry.ensures.asked ∙ ap (λ n. record (head_ask w c.args.path.now) { copies = n }) c.min-copies.ensures) (sym c.is_refused.ensures ∙ c.if-is_refused.true)
    c.nowhere.ensures.pointer c.nowhere.ensures.error tell

pub place_gang-returns-then-is_refused-clause-handled : goal.place_gang-returns-then-is_refused-clause-handled
place_gang-returns-then-is_refused-clause-handled g t c =
    handles_none g.D.Disk.bytes g.D.Disk.faults g.D.Disk.faults_at_fetch g.D.Disk.home g.D.Disk.image g.D.Disk.sound g.D.Disk.went _ _ c.args.disks.now (λ e. cc)

pub place_gang-returns-clause-asks : goal.place_gang-returns-clause-asks
place_gang-returns-clause-asks g t c = asks_then g.met.C.Chooser.lawful_then c.in_ok-entry.ensures.asks c.write_gang.ensures.asks

pub place_gang-returns-clause-told : goal.place_gang-returns-clause-told
place_gang-returns-clause-told g t c =
    let w = terms_of c.args.setting.now c.args.writing.now in
    let es : List Choice = given_since (g.C.Chooser.given c.ask.new.chooser) (g.C.Chooser.given c.write_gang.new.chooser) in
    IfOk-weaker c.write_gang.result _ _
    (λ part h images tell.
    tell_headed g.D.Disk.image c.args.levels w c.args.path.now c.args.bytes.now images part _ _ c.in_ok-entry.entry _ es c.write_gang.new.disks
    (since_then c.in_ok-entry.ensures.asks c.write_gang.ensures.asks ∙ ap (λ xs. xs ++ es) c.in_ok-entry.ensures.given)
    (c.in_ok-entry.ensures.asked ∙ ap (λ n. record (head_ask w c.args.path.now) { copies = n }) c.min-copies.ensures)
    (sym c.is_refused.ensures ∙ c.if-is_refused.false) (h images tell))
    c.write_gang.ensures.told

pub place_gang-returns-clause-handled : goal.place_gang-returns-clause-handled
place_gang-returns-clause-handled g t c =
    let es : List Choice = given_since (g.C.Chooser.given c.ask.new.chooser) (g.C.Chooser.given c.write_gang.new.chooser) in
    handles_at c.args.setting.now (c.in_ok-entry.entry.places ++ taken_by_all es) _
    (taken_front c.in_ok-entry.entry _ es (since_then c.in_ok-entry.ensures.asks c.write_gang.ensures.asks ∙ ap (λ xs. xs ++ es) c.in_ok-entry.ensures.given) (sym c.is_refused.ensures ∙ c.if-is_refused.false))
    c.write_gang.ensures.handled

pub place_members-returns-in_default-clause-handled : goal.place_members-returns-in_default-clause-handled
place_members-returns-in_default-clause-handled g t c =
    handles_none g.D.Disk.bytes g.D.Disk.faults g.D.Disk.faults_at_fetch g.D.Disk.home g.D.Disk.image g.D.Disk.sound g.D.Disk.went _ _ c.args.disks.now (λ e. cc)

pub place_members-place_members-requires : goal.place_members-place_members-requires
place_members-place_members-requires g t c κs within =
    let bears : BearsTops c.args.setting.now (map g.D.Disk.bytes c.place_part.new.disks) = subst (BearsTops c.args.setting.now) (sym c.in_ok-placed.ensures.handled.same.sizes) c.requires.bears in
    let filled = filled_more c.args.n c.args.pointers.now c.in_ok-placed.placed.pointer (length-filled None 3 c.args.n c.args.pointers.now c.requires.filled) (omega arith) c.requires.filled in
    (first_of (search rules, grind (arith, common_steps)), (search rules, (search rules, (bears, (c.requires.tops, (first_of (search rules, grind (arith, common_steps)), (c.requires.one, (c.requires.three, (c.requires.birth, (first_of (search rules, grind (arith, common_steps)), (first_of (search rules, grind (arith, common_steps)), (first_of (search rules, grind (arith, common_steps)), (first_of (search rules, grind (arith, common_steps)), (filled, (c.requires.depth, first_of (search rules, grind (arith, common_steps)))))))))))))))))

pub place_members-returns-in_err-error-clause-asks : goal.place_members-returns-in_err-error-clause-asks
place_members-returns-in_err-error-clause-asks g t c = asks_then g.met.C.Chooser.lawful_then c.in_ok-placed.ensures.asks c.in_err-error.ensures.asks

pub place_members-returns-in_err-error-clause-handled : goal.place_members-returns-in_err-error-clause-handled
place_members-returns-in_err-error-clause-handled g t c =
    let es : List Choice = given_since (g.C.Chooser.given c.args.chooser.now) (g.C.Chooser.given c.place_part.new.chooser) in
    let fs : List Choice = given_since (g.C.Chooser.given c.place_part.new.chooser) (g.C.Chooser.given c.place_members.new.chooser) in
    handles_err _ c.from_residual-in_err-error.ensures.1
    (handles_join c.args.setting.now (taken_by_all es) (taken_by_all fs) _ (taken_both _ es fs (since_then c.in_ok-placed.ensures.asks c.in_err-error.ensures.asks))
    c.in_ok-placed.ensures.handled c.in_err-error.ensures.handled)

pub place_members-returns-clause-asks : goal.place_members-returns-clause-asks
place_members-returns-clause-asks g t c = asks_then g.met.C.Chooser.lawful_then c.in_ok-placed.ensures.asks c.in_ok-error.ensures.asks

pub place_members-returns-clause-told : goal.place_members-returns-clause-told
place_members-returns-clause-told g t c = λ images tell.
    (let w = terms_of c.args.setting.now c.args.writing.now in
    let es : List Choice = given_since (g.C.Chooser.given c.args.chooser.now) (g.C.Chooser.given c.place_part.new.chooser) in
    let fs : List Choice = given_since (g.C.Chooser.given c.place_part.new.chooser) (g.C.Chooser.given c.place_members.new.chooser) in
    let all : List Choice = given_since (g.C.Chooser.given c.args.chooser.now) (g.C.Chooser.given c.place_members.new.chooser) in
    let first = c.in_ok-placed.ensures.told images tell in
    let rest = c.in_ok-error.ensures.told first.after first.told in
    subst (λ worst. TellsMembers g.D.Disk.image (λ journal. place_members (place_part c.args.levels journal w) c.args.path.now c.args.n (cut c.args.sizes.now c.args.bytes.now) images) worst c.args.n
    c.args.pointers.now c.place_members.new.pointers c.args.heads.now.items c.place_members.new.heads.items all c.place_members.new.disks) (sym c.worst.ensures)
    (tell_members_at g.D.Disk.image (λ journal. place_part c.args.levels journal w) c.args.path.now c.args.bytes.now c.args.n _ _ images c.in_ok-placed.placed c.in_ok-error.error
    c.args.pointers.now c.place_members.new.pointers c.args.heads.now.items c.place_part.new.heads.items c.place_members.new.heads.items all es fs c.place_part.new.disks c.place_members.new.disks
    c.below-below.result c.split_at.result.0.now c.split_at.result.1.now c.args.sizes.now
    c.below-below.ensures c.split_at.ensures.front c.split_at.ensures.back (first_item c.args.sizes.now _ c.in-len1-up.len_at_least)
    (since_then c.in_ok-placed.ensures.asks c.in_ok-error.ensures.asks) (omega (arith, length-filled None 3 c.args.n c.args.pointers.now c.requires.filled)) first rest))

pub place_members-returns-clause-handled : goal.place_members-returns-clause-handled
place_members-returns-clause-handled g t c =
    let es : List Choice = given_since (g.C.Chooser.given c.args.chooser.now) (g.C.Chooser.given c.place_part.new.chooser) in
    let fs : List Choice = given_since (g.C.Chooser.given c.place_part.new.chooser) (g.C.Chooser.given c.place_members.new.chooser) in
    handles_ok _
    (handles_join c.args.setting.now (taken_by_all es) (taken_by_all fs) _ (taken_both _ es fs (since_then c.in_ok-placed.ensures.asks c.in_ok-error.ensures.asks))
    c.in_ok-placed.ensures.handled c.in_ok-error.ensures.handled)

pub place_part-returns-in_err-entry-clause-handled : goal.place_part-returns-in_err-entry-clause-handled
place_part-returns-in_err-entry-clause-handled g t c =
    handles_stop g.D.Disk.bytes g.D.Disk.faults g.D.Disk.faults_at_fetch g.D.Disk.home g.D.Disk.image g.D.Disk.sound g.D.Disk.went _ c.from_residual.result _ c.args.disks.now c.from_residual.ensures.1
    (stop_is c.ask.result _ c.in_err-entry.was c.ask.ensures.memory)

pub place_part-returns-then-not-is_refused-clause-told : goal.place_part-returns-then-not-is_refused-clause-told
place_part-returns-then-not-is_refused-clause-told g t c =
    let w = terms_of c.args.setting.now c.args.writing.now in
    IfOk-weaker c.write_body.result _ _
    (λ part h images tell.
    tell_body g.D.Disk.image c.args.levels w c.args.path.now c.args.bytes.now images part c.args.heads.now.items c.in_ok-entry.entry _ c.write_body.new.disks
    c.in_ok-entry.ensures.given c.in_ok-entry.ensures.asked (sym c.is_refused.ensures ∙ c.if-not-is_refused.true) h.0 (h.1 images tell))
    (if_both c.write_body.result _ _ c.write_body.ensures.made c.write_body.ensures.told)

pub place_part-returns-then-size-le-SECTOR_SIZE-clause-told : goal.place_part-returns-then-size-le-SECTOR_SIZE-clause-told
place_part-returns-then-size-le-SECTOR_SIZE-clause-told g t c = λ images tell.
    (let w = terms_of c.args.setting.now c.args.writing.now in
    tell_nowhere g.D.Disk.image c.args.levels w c.args.path.now c.args.bytes.now images c.nowhere.result c.args.heads.now.items c.in_ok-entry.entry _ c.args.disks.now
    c.in_ok-entry.ensures.given c.in_ok-entry.ensures.asked (sym c.is_refused.ensures ∙ c.if-not-is_refused.false) (small_test _ _ c.if-size-le-SECTOR_SIZE.true)
    c.nowhere.ensures.pointer c.nowhere.ensures.error tell)

pub place_part-returns-then-size-le-SECTOR_SIZE-clause-handled : goal.place_part-returns-then-size-le-SECTOR_SIZE-clause-handled
place_part-returns-then-size-le-SECTOR_SIZE-clause-handled g t c =
    handles_none g.D.Disk.bytes g.D.Disk.faults g.D.Disk.faults_at_fetch g.D.Disk.home g.D.Disk.image g.D.Disk.sound g.D.Disk.went _ _ c.args.disks.now (λ e. cc)

pub place_part-returns-clause-asks : goal.place_part-returns-clause-asks
place_part-returns-clause-asks g t c = asks_then g.met.C.Chooser.lawful_then c.in_ok-entry.ensures.asks c.place_gang.ensures.asks

pub place_part-returns-clause-told : goal.place_part-returns-clause-told
place_part-returns-clause-told g t c =
    let w = terms_of c.args.setting.now c.args.writing.now in
    let es : List Choice = given_since (g.C.Chooser.given c.ask.new.chooser) (g.C.Chooser.given c.place_gang.new.chooser) in
    let large : 512 < length c.args.bytes.now = omega (arith, c.if-size-le-SECTOR_SIZE.false) in
    IfOk-weaker c.place_gang.result _ _
    (λ part h images tell.
    tell_gang g.D.Disk.image c.args.levels w c.args.path.now c.args.bytes.now images part c.args.heads.now.items c.place_gang.new.heads.items c.in_ok-entry.entry _ es c.place_gang.new.disks
    (since_then c.in_ok-entry.ensures.asks c.place_gang.ensures.asks ∙ ap (λ xs. xs ++ es) c.in_ok-entry.ensures.given)
    c.in_ok-entry.ensures.asked (sym c.is_refused.ensures ∙ c.if-not-is_refused.false) (large_test _ _ large) (some_levels c.args.levels (length c.args.bytes.now) c.requires.deep large) (h images tell))
    c.place_gang.ensures.told

pub place_part-returns-clause-handled : goal.place_part-returns-clause-handled
place_part-returns-clause-handled g t c =
    let es : List Choice = given_since (g.C.Chooser.given c.ask.new.chooser) (g.C.Chooser.given c.place_gang.new.chooser) in
    handles_at c.args.setting.now (taken_by_all es) _
    (taken_behind c.in_ok-entry.entry _ es (since_then c.in_ok-entry.ensures.asks c.place_gang.ensures.asks ∙ ap (λ xs. xs ++ es) c.in_ok-entry.ensures.given) (sym c.is_refused.ensures ∙ c.if-not-is_refused.false))
    c.place_gang.ensures.handled

pub place_part-returns-then-not-is_refused-clause-handled : goal.place_part-returns-then-not-is_refused-clause-handled
place_part-returns-then-not-is_refused-clause-handled g t c =
    handles_at c.args.setting.now c.in_ok-entry.entry.places _
    (taken_front c.in_ok-entry.entry _ [] c.in_ok-entry.ensures.given (sym c.is_refused.ensures ∙ c.if-not-is_refused.true) ∙ append-nil c.in_ok-entry.entry.places)
    c.write_body.ensures.handled

pub write_gang-returns-in_err-add_head-clause-handled : goal.write_gang-returns-in_err-add_head-clause-handled
write_gang-returns-in_err-add_head-clause-handled g t c =
    handles_stop g.D.Disk.bytes g.D.Disk.faults g.D.Disk.faults_at_fetch g.D.Disk.home g.D.Disk.image g.D.Disk.sound g.D.Disk.went _ c.from_residual.result _ c.args.disks.now c.from_residual.ensures.1
    (stop_is c.add_head.result _ c.in_err-add_head.was c.add_head.ensures.err)

pub write_gang-returns-in_err-error-clause-handled : goal.write_gang-returns-in_err-error-clause-handled
write_gang-returns-in_err-error-clause-handled g t c =
    handles_err _ c.from_residual-in_err-error.ensures.1 (handles_right c.args.setting.now c.args.entry.now.places _ c.in_err-error.ensures.handled)

pub write_gang-header_encode-header-requires-clause-sector : goal.write_gang-header_encode-header-requires-clause-sector
write_gang-header_encode-header-requires-clause-sector g t c =
    let w = terms_of c.args.setting.now c.args.writing.now in
    let whole = head_entry (sizes_of c.args.setting.now.tops) w c.args.path.now c.args.entry.now c.requires.entry c.requires.found c.requires.asked c.requires.one in
    let low : (get_or c.args.entry.now.places 0 no_place).sector < 281474976710656 = first_sector c.args.setting.now.tops 512 c.args.entry.now.places c.requires.tops whole in
    subst (λ (p : Place). p.sector < 281474976710656) (sym c.first_place.ensures) low

pub write_gang-write_piece-requires-clause-lies : goal.write_gang-write_piece-requires-clause-lies
write_gang-write_piece-requires-clause-lies g t c =
    let w = terms_of c.args.setting.now c.args.writing.now in
    let whole = head_entry (sizes_of c.args.setting.now.tops) w c.args.path.now c.args.entry.now c.requires.entry c.requires.found c.requires.asked c.requires.one in
    let made = made_pointer c.args.setting.now.tops w c.args.entry.now.places true c.args.bytes.now 512 c.requires.tops whole refl (omega arith) c.requires.whole c.requires.most c.requires.birth (subst FitsTypes (c.pointer_to-pointer.ensures.pointer c.args.setting.now) c.pointer_to-pointer.ensures.types) in
    let sizes = map g.D.Disk.bytes c.place_members.new.disks in
    let bears : BearsTops c.args.setting.now sizes = subst (BearsTops c.args.setting.now) (sym c.in_ok-error.ensures.handled.same.sizes) c.requires.bears in
    let long : 512 ≡ length c.header_encode-header.result = omega arith in
    subst (λ ps. LieOn sizes (length c.header_encode-header.result) (spots_of c.args.setting.now ps)) (sym c.places_found.ensures)
    (subst (λ n. LieOn sizes n (spots_of c.args.setting.now c.args.entry.now.places)) long
    (entry_lies c.args.setting.now sizes w c.args.entry.now.places true c.args.bytes.now 512 bears refl made))

pub write_gang-returns-in_err-written-clause-handled : goal.write_gang-returns-in_err-written-clause-handled
write_gang-returns-in_err-written-clause-handled g t c =
    let es : List Choice = given_since (g.C.Chooser.given c.args.chooser.now) (g.C.Chooser.given c.place_members.new.chooser) in
    let places : List Place = c.args.entry.now.places in
    handles_err _ c.from_residual-in_err-written.ensures.1
    (handles_then (handles_right c.args.setting.now places (taken_by_all es) c.in_ok-error.ensures.handled)
    (handles_left c.args.setting.now places (taken_by_all es) (handles_found c.args.setting.now c.places_found.ensures c.in_err-written.ensures.handled)))

pub write_gang-returns-clause-behind : goal.write_gang-returns-clause-behind
write_gang-returns-clause-behind g t c =
    let begun = c.in_ok-add_head.ensures.ok in
    let head : Head = record { path = c.args.path.now; bytes = begun.0 } in
    let old : List Head = c.args.heads.now.items in
    let more : List Head = drop (length c.add_head.new.heads.items) c.place_members.new.heads.items in
    let members : c.place_members.new.heads.items ≡ old ++ head ∷ more =
    c.in_ok-error.ensures.behind ∙ ap (λ hs. hs ++ more) begun.1 ∙ append_assoc old (head ∷ []) more in
    behind_of old c.fill_head.new.heads.items _ (c.fill_head.ensures old more head members (ap length c.as_slice-before.ensures.value))

pub write_gang-returns-clause-laid : goal.write_gang-returns-clause-laid
write_gang-returns-clause-laid g t c =
    let tops = sizes_of c.args.setting.now.tops in
    let w = terms_of c.args.setting.now c.args.writing.now in
    let len : ℕ = length c.args.bytes.now in
    let places : List Place = c.args.entry.now.places in
    let bp : Bp = pointer_to w places true c.args.bytes.now in
    let es : List Choice = given_since (g.C.Chooser.given c.args.chooser.now) (g.C.Chooser.given c.place_members.new.chooser) in
    let whole = head_entry tops w c.args.path.now c.args.entry.now c.requires.entry c.requires.found c.requires.asked c.requires.one in
    let made : IsMade tops bp = made_pointer c.args.setting.now.tops w places true c.args.bytes.now 512 c.requires.tops whole refl (omega arith) c.requires.whole c.requires.most c.requires.birth (subst FitsTypes (c.pointer_to-pointer.ensures.pointer c.args.setting.now) c.pointer_to-pointer.ensures.types) in
    let begun = c.in_ok-add_head.ensures.ok in
    let head : Head = record { path = c.args.path.now; bytes = begun.0 } in
    let filled : Head = record { path = c.args.path.now; bytes = c.header_encode-header.result } in
    let old : List Head = c.args.heads.now.items in
    let below : List Head = drop (length c.add_head.new.heads.items) c.place_members.new.heads.items in
    let members : c.place_members.new.heads.items ≡ old ++ head ∷ below =
    c.in_ok-error.ensures.behind ∙ ap (λ hs. hs ++ below) begun.1 ∙ append_assoc old (head ∷ []) below in
    let all : c.fill_head.new.heads.items ≡ old ++ filled ∷ below = c.fill_head.ensures old below head members (ap length c.as_slice-before.ensures.value) in
    laid_at tops (c.args.levels + 1) (suc c.args.levels) c.args.path.now len _ (drop (length old) c.fill_head.new.heads.items) (places ++ taken_by_all es) (places ++ taken_by_all es) (omega arith) refl
    (laid_gang tops c.args.levels c.args.path.now len _ bp places c.header_encode-header.result _ c.in_ok-error.error c.in_ok-written.written _ c.place_members.new.pointers
    below (drop (length old) c.fill_head.new.heads.items) (taken_by_all es) c.in_ok-error.ensures.laid c.split-parts.ensures.sizes (omega (arith, ap length c.split-parts.ensures.sizes, few_law len))
    (c.header_encode-header.ensures ∙ ap (λ p. header_of c.place_members.new.pointers p c.args.writing.now.birth) c.first_place.ensures)
    (ap Some (c.pointer_to-pointer.ensures.pointer c.args.setting.now)) c.worst.ensures made refl refl (places_of_pointer w places true c.args.bytes.now) whole.one
    (ap (drop (length old)) all ∙ drop-append_seam old (filled ∷ below)))

pub write_gang-returns-clause-told : goal.write_gang-returns-clause-told
write_gang-returns-clause-told g t c = λ images tell.
    (let w = terms_of c.args.setting.now c.args.writing.now in
    let es : List Choice = given_since (g.C.Chooser.given c.args.chooser.now) (g.C.Chooser.given c.place_members.new.chooser) in
    let begun = c.in_ok-add_head.ensures.ok in
    let nowhere : List (Option Bp) = None ∷ None ∷ None ∷ [] in
    let tells : TellsMembers g.D.Disk.image (members_meant c.args.levels w c.args.path.now c.args.bytes.now images) c.in_ok-error.error 0 nowhere c.place_members.new.pointers
    c.add_head.new.heads.items c.place_members.new.heads.items es c.place_members.new.disks =
    subst (λ ss. TellsMembers g.D.Disk.image (λ journal. place_members (place_part c.args.levels journal w) c.args.path.now 0 (cut ss c.args.bytes.now) images) c.in_ok-error.error 0 nowhere c.place_members.new.pointers
    c.add_head.new.heads.items c.place_members.new.heads.items es c.place_members.new.disks) c.split-parts.ensures.sizes (c.in_ok-error.ensures.told images tell) in
    let wrote = subst (λ ps. (c.in_ok-written.written ≡ (write_piece c.args.setting.now c.header_encode-header.result ps tells.after).error)
    × Tell g.D.Disk.image c.write_piece.new.disks (write_piece c.args.setting.now c.header_encode-header.result ps tells.after).images) c.places_found.ensures (c.in_ok-written.ensures.told tells.after tells.told) in
    tell_written g.D.Disk.image c.args.levels w c.args.path.now c.args.bytes.now images c.args.entry.now.places _ c.in_ok-error.error c.in_ok-written.written c.header_encode-header.result
    nowhere c.place_members.new.pointers c.args.heads.now.items c.add_head.new.heads.items c.place_members.new.heads.items c.fill_head.new.heads.items es c.place_members.new.disks c.write_piece.new.disks begun.0
    tells begun.1 (λ front back head is at. c.fill_head.ensures front back head is (ap length c.as_slice-before.ensures.value ∙ at))
    (c.header_encode-header.ensures ∙ ap (λ p. header_of c.place_members.new.pointers p c.args.writing.now.birth) c.first_place.ensures)
    wrote c.worst.ensures (ap Some (c.pointer_to-pointer.ensures.pointer c.args.setting.now)))

pub write_gang-returns-clause-handled : goal.write_gang-returns-clause-handled
write_gang-returns-clause-handled g t c =
    let es : List Choice = given_since (g.C.Chooser.given c.args.chooser.now) (g.C.Chooser.given c.place_members.new.chooser) in
    let places : List Place = c.args.entry.now.places in
    handles_ok _
    (handles_then (handles_right c.args.setting.now places (taken_by_all es) c.in_ok-error.ensures.handled)
    (handles_left c.args.setting.now places (taken_by_all es) (handles_found c.args.setting.now c.places_found.ensures c.in_ok-written.ensures.handled)))

pub place_gang-returns-in_err-entry-clause-keys : goal.place_gang-returns-in_err-entry-clause-keys
place_gang-returns-in_err-entry-clause-keys g t c = once_none (IsOfGang c.args.path.now) _ c.in_err-entry.ensures.none

pub place_gang-returns-then-is_refused-clause-keys : goal.place_gang-returns-then-is_refused-clause-keys
place_gang-returns-then-is_refused-clause-keys g t c =
    once_one (IsOfGang c.args.path.now) c.in_ok-entry.entry _ c.in_ok-entry.ensures.given (inl (head_asked c.args.path.now c.in_ok-entry.entry c.in_ok-entry.ensures.asked))

pub place_gang-returns-then-is_refused-clause-laid : goal.place_gang-returns-then-is_refused-clause-laid
place_gang-returns-then-is_refused-clause-laid g t c =
    let old : List Head = c.args.heads.now.items in
    laid_nowhere (sizes_of c.args.setting.now.tops) (c.args.levels + 1) c.args.path.now (length c.args.bytes.now) c.nowhere.result (drop (length old) old) _
    c.nowhere.ensures.pointer c.nowhere.ensures.error (drop_all (length old) old (omega arith))
    (taken_behind c.in_ok-entry.entry _ [] c.in_ok-entry.ensures.given (sym c.is_refused.ensures ∙ c.if-is_refused.true))

pub place_gang-returns-clause-keys : goal.place_gang-returns-clause-keys
place_gang-returns-clause-keys g t c =
    let path : List ℕ = c.args.path.now in
    let e : Choice = c.in_ok-entry.entry in
    let es : List Choice = given_since (g.C.Chooser.given c.ask.new.chooser) (g.C.Chooser.given c.write_gang.new.chooser) in
    once_then (IsHeadOf path) (IsBelow path 0) (IsOfGang path) _ (e ∷ []) es
    (since_then c.in_ok-entry.ensures.asks c.write_gang.ensures.asks ∙ ap (λ xs. xs ++ es) c.in_ok-entry.ensures.given)
    (head_and_below path) (λ f h. inl h) (λ f h. inr h)
    (once_one (IsHeadOf path) e (e ∷ []) refl (head_asked path e c.in_ok-entry.ensures.asked)) c.write_gang.ensures.keys

pub place_gang-returns-clause-laid : goal.place_gang-returns-clause-laid
place_gang-returns-clause-laid g t c =
    let es : List Choice = given_since (g.C.Chooser.given c.ask.new.chooser) (g.C.Chooser.given c.write_gang.new.chooser) in
    IfOk-weaker c.write_gang.result _ _
    (λ part h.
    laid_at (sizes_of c.args.setting.now.tops) (c.args.levels + 1) (c.args.levels + 1) c.args.path.now (length c.args.bytes.now) part _ (c.in_ok-entry.entry.places ++ taken_by_all es) _ refl
    (taken_front c.in_ok-entry.entry _ es (since_then c.in_ok-entry.ensures.asks c.write_gang.ensures.asks ∙ ap (λ xs. xs ++ es) c.in_ok-entry.ensures.given) (sym c.is_refused.ensures ∙ c.if-is_refused.false)) h)
    c.write_gang.ensures.laid

pub place_members-returns-in_default-clause-keys : goal.place_members-returns-in_default-clause-keys
place_members-returns-in_default-clause-keys g t c = once_none (IsBelow c.args.path.now c.args.n) _ (since_same (g.C.Chooser.given c.args.chooser.now) (g.C.Chooser.given c.args.chooser.now) refl)

pub place_members-returns-in_default-clause-laid : goal.place_members-returns-in_default-clause-laid
place_members-returns-in_default-clause-laid g t c =
    let old : List Head = c.args.heads.now.items in
    laid_no_members (sizes_of c.args.setting.now.tops) c.args.levels c.args.path.now c.args.n c.args.sizes.now c.args.pointers.now (drop (length old) old) _
    (none_of c.args.sizes.now c.in_default.len_below) (drop_all (length old) old (omega arith))
    (ap taken_by_all (since_same (g.C.Chooser.given c.args.chooser.now) (g.C.Chooser.given c.args.chooser.now) refl)) c.requires.filled

pub place_members-returns-in_err-placed-clause-keys : goal.place_members-returns-in_err-placed-clause-keys
place_members-returns-in_err-placed-clause-keys g t c =
    once_wider (IsFrom c.below-below.result) (IsBelow c.args.path.now c.args.n) _ (λ e h. below_member c.args.path.now c.args.n e (subst (λ p. IsFrom p e) c.below-below.ensures h)) c.in_err-placed.ensures.keys

pub place_members-returns-in_err-error-clause-keys : goal.place_members-returns-in_err-error-clause-keys
place_members-returns-in_err-error-clause-keys g t c =
    let es : List Choice = given_since (g.C.Chooser.given c.args.chooser.now) (g.C.Chooser.given c.place_part.new.chooser) in
    let fs : List Choice = given_since (g.C.Chooser.given c.place_part.new.chooser) (g.C.Chooser.given c.place_members.new.chooser) in
    member_keys c.args.path.now c.below-below.result c.args.n _ es fs c.below-below.ensures (since_then c.in_ok-placed.ensures.asks c.in_err-error.ensures.asks) c.in_ok-placed.ensures.keys c.in_err-error.ensures.keys

pub place_members-returns-clause-keys : goal.place_members-returns-clause-keys
place_members-returns-clause-keys g t c =
    let es : List Choice = given_since (g.C.Chooser.given c.args.chooser.now) (g.C.Chooser.given c.place_part.new.chooser) in
    let fs : List Choice = given_since (g.C.Chooser.given c.place_part.new.chooser) (g.C.Chooser.given c.place_members.new.chooser) in
    member_keys c.args.path.now c.below-below.result c.args.n _ es fs c.below-below.ensures (since_then c.in_ok-placed.ensures.asks c.in_ok-error.ensures.asks) c.in_ok-placed.ensures.keys c.in_ok-error.ensures.keys

pub place_members-returns-clause-laid : goal.place_members-returns-clause-laid
place_members-returns-clause-laid g t c =
    let tops = sizes_of c.args.setting.now.tops in
    let es : List Choice = given_since (g.C.Chooser.given c.args.chooser.now) (g.C.Chooser.given c.place_part.new.chooser) in
    let fs : List Choice = given_since (g.C.Chooser.given c.place_part.new.chooser) (g.C.Chooser.given c.place_members.new.chooser) in
    let old : List Head = c.args.heads.now.items in
    let middle : List Head = c.place_part.new.heads.items in
    let new : List Head = c.place_members.new.heads.items in
    let size : ℕ = get_or c.args.sizes.now 0 0 in
    laid_members tops c.args.levels c.args.path.now c.args.n size _ c.args.sizes.now c.in_ok-placed.placed c.in_ok-error.error c.worst.result c.args.pointers.now c.place_members.new.pointers
    (drop (length old) middle) (drop (length middle) new) (drop (length old) new) (taken_by_all es) (taken_by_all fs) _
    (first_item c.args.sizes.now 0 c.in-len1-up.len_at_least) (omega (arith, length-filled None 3 c.args.n c.args.pointers.now c.requires.filled)) c.worst.ensures
    (drop_both old middle new (drop (length old) middle) (drop (length middle) new) c.in_ok-placed.ensures.behind c.in_ok-error.ensures.behind)
    (taken_both _ es fs (since_then c.in_ok-placed.ensures.asks c.in_ok-error.ensures.asks))
    (subst (λ p. IsLaid tops c.args.levels p size c.in_ok-placed.placed (drop (length old) middle) (taken_by_all es)) c.below-below.ensures
    (subst (λ n. IsLaid tops c.args.levels c.below-below.result n c.in_ok-placed.placed (drop (length old) middle) (taken_by_all es)) c.split_at.ensures.front_len c.in_ok-placed.ensures.laid))
    c.in_ok-error.ensures.laid

pub place_part-returns-in_err-entry-clause-keys : goal.place_part-returns-in_err-entry-clause-keys
place_part-returns-in_err-entry-clause-keys g t c = once_none (IsFrom c.args.path.now) _ c.in_err-entry.ensures.none

pub place_part-returns-then-not-is_refused-clause-keys : goal.place_part-returns-then-not-is_refused-clause-keys
place_part-returns-then-not-is_refused-clause-keys g t c =
    let e : Choice = c.in_ok-entry.entry in
    once_one (IsFrom c.args.path.now) e _ c.in_ok-entry.ensures.given (from_body c.args.path.now e (body_asked c.args.path.now e c.in_ok-entry.ensures.asked))

pub place_part-returns-then-not-is_refused-clause-laid : goal.place_part-returns-then-not-is_refused-clause-laid
place_part-returns-then-not-is_refused-clause-laid g t c =
    let tops = sizes_of c.args.setting.now.tops in
    let w = terms_of c.args.setting.now c.args.writing.now in
    let old : List Head = c.args.heads.now.items in
    let places : List Place = c.in_ok-entry.entry.places in
    let took = taken_front c.in_ok-entry.entry _ [] c.in_ok-entry.ensures.given (sym c.is_refused.ensures ∙ c.if-not-is_refused.true) ∙ append-nil places in
    IfOk-weaker c.write_body.result _ _
    (λ part h.
    laid_body tops c.args.levels c.args.path.now (length c.args.bytes.now) part (pointer_to w places false c.args.bytes.now) (drop (length old) old) _
    h.0 h.1 refl refl (drop_all (length old) old (omega arith)) (took ∙ sym (places_of_pointer w places false c.args.bytes.now)))
    (if_both c.write_body.result _ _ c.write_body.ensures.made c.write_body.ensures.good)

pub place_part-returns-then-size-le-SECTOR_SIZE-clause-keys : goal.place_part-returns-then-size-le-SECTOR_SIZE-clause-keys
place_part-returns-then-size-le-SECTOR_SIZE-clause-keys g t c =
    let e : Choice = c.in_ok-entry.entry in
    once_one (IsFrom c.args.path.now) e _ c.in_ok-entry.ensures.given (from_body c.args.path.now e (body_asked c.args.path.now e c.in_ok-entry.ensures.asked))

pub place_part-returns-then-size-le-SECTOR_SIZE-clause-laid : goal.place_part-returns-then-size-le-SECTOR_SIZE-clause-laid
place_part-returns-then-size-le-SECTOR_SIZE-clause-laid g t c =
    let old : List Head = c.args.heads.now.items in
    laid_nowhere (sizes_of c.args.setting.now.tops) c.args.levels c.args.path.now (length c.args.bytes.now) c.nowhere.result (drop (length old) old) _
    c.nowhere.ensures.pointer c.nowhere.ensures.error (drop_all (length old) old (omega arith))
    (taken_behind c.in_ok-entry.entry _ [] c.in_ok-entry.ensures.given (sym c.is_refused.ensures ∙ c.if-not-is_refused.false))

pub place_part-returns-clause-keys : goal.place_part-returns-clause-keys
place_part-returns-clause-keys g t c =
    let path : List ℕ = c.args.path.now in
    let e : Choice = c.in_ok-entry.entry in
    let es : List Choice = given_since (g.C.Chooser.given c.ask.new.chooser) (g.C.Chooser.given c.place_gang.new.chooser) in
    once_then (IsBodyOf path) (IsOfGang path) (IsFrom path) _ (e ∷ []) es
    (since_then c.in_ok-entry.ensures.asks c.place_gang.ensures.asks ∙ ap (λ xs. xs ++ es) c.in_ok-entry.ensures.given)
    (body_and_gang path) (from_body path) (from_gang path)
    (once_one (IsBodyOf path) e (e ∷ []) refl (body_asked path e c.in_ok-entry.ensures.asked)) c.place_gang.ensures.keys

pub place_part-returns-clause-laid : goal.place_part-returns-clause-laid
place_part-returns-clause-laid g t c =
    let es : List Choice = given_since (g.C.Chooser.given c.ask.new.chooser) (g.C.Chooser.given c.place_gang.new.chooser) in
    let large : 512 < length c.args.bytes.now = omega (arith, c.if-size-le-SECTOR_SIZE.false) in
    let some : 0 < c.args.levels = some_levels c.args.levels (length c.args.bytes.now) c.requires.deep large in
    IfOk-weaker c.place_gang.result _ _
    (λ part h.
    laid_at (sizes_of c.args.setting.now.tops) c.args.levels (c.args.levels - 1 + 1) c.args.path.now (length c.args.bytes.now) part _ (taken_by_all es) _ (omega arith)
    (taken_behind c.in_ok-entry.entry _ es (since_then c.in_ok-entry.ensures.asks c.place_gang.ensures.asks ∙ ap (λ xs. xs ++ es) c.in_ok-entry.ensures.given) (sym c.is_refused.ensures ∙ c.if-not-is_refused.false)) h)
    c.place_gang.ensures.laid
