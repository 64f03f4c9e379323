use Rattle.sorted_iter.proofs.multiway.heap.sift_down.Goals as goal

pub returns-clause-heap : goal.returns-clause-heap
returns-clause-heap g c = λ h. c.sift_from.ensures.heap 0 h
