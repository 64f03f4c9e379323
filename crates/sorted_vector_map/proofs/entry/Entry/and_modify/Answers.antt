use Rattle.std.proofs.Common.{◌≡◌, Some, refl, sym, ap, ◌∙◌}
use Rattle.sorted_vector_map.specs.Entry.{Occupied, storing, stored, after_storing}
use Rattle.sorted_vector_map.proofs.EntryLemmas.{stays_in_place, stores}
use Rattle.sorted_vector_map.proofs.entry.Entry.and_modify.Goals as goal

pub returns-in-Occupied-clause-place : goal.returns-in-Occupied-clause-place
returns-in-Occupied-clause-place g c = rw c.in-Occupied.is (stays_in_place c.in-Occupied.taken c.f.new.arg2)

pub returns-in-Occupied-clause-modified : goal.returns-in-Occupied-clause-modified
returns-in-Occupied-clause-modified g c =
    let called : stored c.args.self ≡ Some c.get_mut.result.now = ap (λ e. stored e) c.in-Occupied.is ∙ c.get_mut.ensures.value in
    let left : stored (Occupied (storing c.in-Occupied.taken c.f.new.arg2)) ≡ Some c.f.new.arg2 = stores c.in-Occupied.taken c.f.new.arg2 in
    let now = record c.get_mut.result { now = c.f.new.arg2 } in
    rw (called, left) (record { lent = c.get_mut.result; result = c.f.result; left = now; before = refl; met = c.f.ensures; after = refl })

pub returns-in-Occupied-clause-pairs : goal.returns-in-Occupied-clause-pairs
returns-in-Occupied-clause-pairs g c =
    let left : stored (Occupied (storing c.in-Occupied.taken c.f.new.arg2)) ≡ Some c.f.new.arg2 = stores c.in-Occupied.taken c.f.new.arg2 in
    rw left (sym (ap (λ e. after_storing e (Some c.f.new.arg2)) c.in-Occupied.is))
