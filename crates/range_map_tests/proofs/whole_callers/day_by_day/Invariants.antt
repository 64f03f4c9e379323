use Rattle.std.proofs.Common.{◌≡◌, ◌++◌, map}
use Rattle.std.specs.Prelude.{pos}
use Rattle.element_core.specs.Numberings.{unsigned}
use Rattle.number_line.specs.KeysValues.{keys_values}
use Rattle.range_map.specs.KeysValues.{pairs_left}
use Rattle.range_map_tests.proofs.whole_callers.day_by_day.Given as goal

abbrev pub invariant-loop-day : goal.invariant-loop-day
invariant-loop-day l = map (λ day. (pos day.0, day.1)) l.days.items ++ pairs_left (unsigned 16) l.day-iterator ≡ keys_values l.fn.bookings
