-- What is to come of an iterator that is seen as the list of what it has left.
use Rattle.std.proofs.Common.{◌≡◌, ◌<◌, ◌^◌, List, map, length}
use Rattle.std.proofs.lemmas.List.{length-map}
use Rattle.std_collections.proofs.IterRuns.{shows_in_order, shows_in_reverse, gives_in_order, gives_in_reverse}
use Rattle.sorted_vector_map.specs.Coming.{ComesByReference, ComesByValue}

pub comes_by_reference : {A X : Type 0} (shows : A → X) (xs left : List X) → left ≡ xs → length left < 2 ^ 64 → ComesByReference shows xs left
comes_by_reference shows xs left same few = record { all = same; countable = few; forwards = shows_in_order shows; backwards = shows_in_reverse shows }

-- the parts of the pairs that come
pub parts_come_by_reference : {A X Y : Type 0} (shows : A → Y) (part : X → Y) (ps qs : List X) (left : List Y) → qs ≡ ps → length qs < 2 ^ 64 → left ≡ map part qs → ComesByReference shows (map part ps) left
parts_come_by_reference shows part ps qs left same few is = rw (← same) (comes_by_reference shows (map part qs) left is (rw (is, length-map qs part) few))

pub comes_by_value : {X : Type 0} (xs left : List X) → left ≡ xs → length left < 2 ^ 64 → ComesByValue xs left
comes_by_value xs left same few = record { all = same; countable = few; forwards = gives_in_order; backwards = gives_in_reverse }
