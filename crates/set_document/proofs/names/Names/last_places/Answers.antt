use Rattle.set_document.proofs.PassLemmas.{index_shown}
use Rattle.set_document.specs.Words.{letters_of}
use Rattle.set_document.proofs.names.Names.last_places.Goals as goal

pub returns : goal.returns
returns c =
    rw (c.in_ok-places.ensures, ← c.self.view_is)
    (index_shown (letters_of c.self.inside.list.items) c.self.inside.latest.pairs c.self.invariant)
