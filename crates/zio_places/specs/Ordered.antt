-- Lists of places in the order of tops and sectors, and how a place enters and leaves one.
use Rattle.std.specs.Prelude.{List, [], ◌∷◌, Bool, ◌&&◌, ◌||◌, ◌==◌, nat_lt, cond}
use Rattle.zio_types.specs.declared.place.Place.{Place}

-- the first place stands on a lower top, or on the same one at a lower sector
abbrev pub comes_before : Place → Place → Bool
comes_before p q = nat_lt p.top q.top || ((p.top == q.top) && nat_lt p.sector q.sector)

abbrev pub is_same_place : Place → Place → Bool
is_same_place p q = (p.top == q.top) && ((p.sector == q.sector) && (p.sectors == q.sectors))

-- the place is put behind those that come before it
abbrev pub placed_in : Place → List Place → List Place
placed_in p [] = p ∷ []
placed_in p (q ∷ live) = cond (comes_before q p) (q ∷ placed_in p live) (p ∷ q ∷ live)

-- so are places one after another
abbrev pub all_placed_in : List Place → List Place → List Place
all_placed_in [] live = live
all_placed_in (p ∷ places) live = all_placed_in places (placed_in p live)

-- the list without this place
abbrev pub without : Place → List Place → List Place
without p [] = []
without p (q ∷ live) = cond (is_same_place p q) live (q ∷ without p live)
