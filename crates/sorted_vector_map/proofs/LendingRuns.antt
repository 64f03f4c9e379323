-- What a run of calls gives, at an iterator that lends values for writing.
use Rattle.std.proofs.Common.{◌≡◌, ◌^◌, ◌<◌, List, length, ap}
use Rattle.std.proofs.iter.runs.Sources.{from_front, from_back}
use Rattle.sorted_vector_map.specs.Lending.{LendsFirstOf, LendsLastOf, LendsInOrder, LendsInReverse, ComesForWriting}

module _ {A X : Type 0} (shows : A → X) where
  pub lends_in_order : LendsInOrder shows
  lends_in_order = from_front (LendsFirstOf shows) shows (λ s. s.rest) (λ s t none. ap length none.0) (λ s x t first. first)

  pub lends_in_reverse : LendsInReverse shows
  lends_in_reverse = from_back (LendsLastOf shows) shows (λ s. s.rest) (λ s t none. ap length none.0) (λ s x t last. last)

  pub comes_for_writing : (xs left : List X) → left ≡ xs → length left < 2 ^ 64 → ComesForWriting shows xs left
  comes_for_writing xs left same few = record { all = same; countable = few; forwards = lends_in_order; backwards = lends_in_reverse }
