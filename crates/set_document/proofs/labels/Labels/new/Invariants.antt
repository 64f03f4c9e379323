-- The labels of the names that came, and the names that are left.
use Rattle.std.proofs.Common.{◌≡◌, length, drop, map}
use Rattle.set_document.specs.Words.{letters}
use Rattle.set_document.proofs.LabelLemmas.{AreLabelsTo}
use Rattle.set_document.proofs.labels.Labels.new.Given as goal

abbrev pub invariant-loop-name : goal.invariant-loop-name
invariant-loop-name l = (l.name-iterator ≡ drop (length l.starts.items) l.names.pairs)
    × AreLabelsTo (map (λ p. letters p.0) l.names.pairs) (length l.starts.items) l.bytes.items l.starts.items
