-- What was read so far stands at the front of the buffer, and no read has failed.
use Rattle.std.proofs.Common.{◌≡◌, ◌+◌, ◌-◌, ◌≤◌, length, take}
use Rattle.std.specs.Io.KnownBytes.{Consumes}
use Rattle.set_program.specs.Counts.{RoseBy}
use Rattle.set_program.proofs.reading.read_text.Given as goal

abbrev pub invariant-loop-filled : goal.invariant-loop-filled
invariant-loop-filled g l = record {
  within : l.filled ≤ length l.buffer;
  bytes : Consumes (g.S.Source.left l.initial.source) (g.S.Source.left l.source) (take l.filled l.buffer);
  faults : g.S.Source.faults l.source ≡ g.S.Source.faults l.initial.source;
  taken : g.S.Source.taken l.source ≤ g.S.Source.taken l.initial.source + l.filled;
  later : g.S.Source.taken l.initial.source ≤ g.S.Source.taken l.source;
  rose : RoseBy l.filled (g.S.Source.taken l.initial.source) (g.S.Source.taken l.source);
}

abbrev pub decreases-loop-filled : goal.decreases-loop-filled
decreases-loop-filled g l = length l.buffer - l.filled
