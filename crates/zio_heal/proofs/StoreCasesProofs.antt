-- Plain stores of a few batches, evaluated.
use Rattle.std.proofs.Common.{refl}
use Rattle.zio_heal.specs.StoreCases.{ChildrenMakeAFront, FaultsChangeNothing, FreedNameIsGone, FreedNameIsWritten, MissingComesFirst, NamesAtTheEnd, PaddedToASector, ReadersShareAName, TakenNameStays, TreeFailsWhole, TreesFailAlone, WholeSectorsStay}

pub padded_to_a_sector : PaddedToASector
padded_to_a_sector = refl

pub whole_sectors_stay : WholeSectorsStay
whole_sectors_stay = refl

pub readers_share_a_name : ReadersShareAName
readers_share_a_name = refl

pub freed_name_is_gone : FreedNameIsGone
freed_name_is_gone = refl

pub freed_name_is_written : FreedNameIsWritten
freed_name_is_written = refl

pub taken_name_stays : TakenNameStays
taken_name_stays = refl

pub names_at_the_end : NamesAtTheEnd
names_at_the_end = (refl, refl, refl)

pub tree_fails_whole : TreeFailsWhole
tree_fails_whole = refl

pub missing_comes_first : MissingComesFirst
missing_comes_first = refl

pub trees_fail_alone : TreesFailAlone
trees_fail_alone = refl

pub children_make_a_front : ChildrenMakeAFront
children_make_a_front = refl

pub faults_change_nothing : FaultsChangeNothing
faults_change_nothing = (refl, refl)
