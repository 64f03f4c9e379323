-- How a run ends: what the source and the sink show before it and after it, one record for each status.
use Rattle.std.specs.Prelude.{◌≡◌, ◌+◌, ◌<◌, ◌≤◌, ℕ, Bool, true, List, length, IfSome, Option, None, Some}
use Rattle.std.specs.Io.KnownBytes.{Appends}
use Rattle.std.specs.Option.{option_map}
use Rattle.set_program.specs.declared.command.Document.{Document}
use Rattle.set_program.specs.Documents.{Fault, first_fault, answer_of, kind_of, line_of, text_of, IsWantOfMemory}
use Rattle.set_program.specs.Counts.{Rose, RoseBy}
use Rattle.set_program.specs.Devices.{ReadWhole, AppendsPrefix}
use Rattle.set_program.specs.declared.reading.TheConstants.{MAX_TEXT, MAX_READ}
use Rattle.set_program.specs.declared.devices.Source as sources
use Rattle.set_program.specs.declared.devices.Sink as sinks

-- what a source shows at one moment
pub record SourceSeen : Type 0 where
  -- the bytes that are left, where it tells them
  pub left : Option (List ℕ)
  -- how many bytes were taken, and how many reads failed
  pub taken : ℕ
  pub faults : ℕ

-- what a sink shows at one moment
pub record SinkSeen : Type 0 where
  -- the bytes that were written, where it tells them
  pub written : Option (List ℕ)
  pub finished : Bool
  -- how many writes and finishes failed
  pub faults : ℕ

-- what both show at one moment
pub record Seen : Type 0 where
  pub source : SourceSeen
  pub sink : SinkSeen

abbrev pub source_seen : {S : Type 0} → sources.Ghosts S → S → SourceSeen
source_seen g source = record { left = g.left source; taken = g.taken source; faults = g.faults source }

abbrev pub sink_seen : {K : Type 0} → sinks.Ghosts K → K → SinkSeen
sink_seen g sink = record { written = g.written sink; finished = g.finished sink; faults = g.faults sink }

abbrev pub seen : {S K : Type 0} → sources.Ghosts S → sinks.Ghosts K → S → K → Seen
seen g h source sink = record { source = source_seen g source; sink = sink_seen h sink }

-- the sink took just the wanted bytes, where these are known, and is finished; no call on it failed
pub record IsWritten (wanted : Option (List ℕ)) (before after : SinkSeen) : Type 0 where
  pub written : IfSome wanted (Appends before.written after.written)
  pub finished : after.finished ≡ true
  pub faults : after.faults ≡ before.faults

-- a call on the sink failed; it took a beginning of the wanted bytes, and wasn't finished
pub record IsCutShort (wanted : Option (List ℕ)) (before after : SinkSeen) : Type 0 where
  pub cause : Rose before.faults after.faults
  pub written : IfSome wanted (AppendsPrefix before.written after.written)
  pub unfinished : after.finished ≡ true → before.finished ≡ true

-- the text was read to its end, it has at most 65,536 bytes, and no read failed
pub record IsReadWhole (before after : SourceSeen) : Type 0 where
  pub read : ReadWhole MAX_TEXT before.left after.left
  pub faults : after.faults ≡ before.faults

-- `Done` of a document: the text was read whole and has no fault, and its answer was written
pub record Answered (kind : Document) (before after : Seen) : Type 0 where
  pub read : IsReadWhole before.source after.source
  pub no_fault : IfSome before.source.left (λ text. first_fault kind text ≡ None)
  pub written : IsWritten (option_map (answer_of kind) before.source.left) before.sink after.sink

-- the status of a fault: the text was read whole, this is its first fault, and the fault's line was written
pub record Faulted (fault : Fault) (before after : Seen) : Type 0 where
  pub read : IsReadWhole before.source after.source
  pub first : IfSome before.source.left (λ text. first_fault (kind_of fault) text ≡ Some fault)
  pub of_text : IsWantOfMemory fault → ⊥
  pub written : IsWritten (Some (line_of fault)) before.sink after.sink

-- `WriteFault` of a document: it was read whole, and of its answer or its fault's line a beginning was written
pub record WriteFailed (kind : Document) (before after : Seen) : Type 0 where
  pub read : IsReadWhole before.source after.source
  pub written : IsCutShort (option_map (text_of kind) before.source.left) before.sink after.sink

-- `TooLong`: more than 65,536 bytes were taken, and no read failed
pub record IsTooLong (before after : SourceSeen) : Type 0 where
  pub cause : RoseBy MAX_READ before.taken after.taken
  pub text : IfSome before.left (λ text. MAX_TEXT < length text)
  pub faults : after.faults ≡ before.faults

-- whatever the status: at most 65,537 bytes are taken, and no count falls
pub record IsBounded (before after : Seen) : Type 0 where
  pub taken : after.source.taken ≤ before.source.taken + MAX_READ
  pub taken_never_falls : before.source.taken ≤ after.source.taken
  pub source_faults_never_fall : before.source.faults ≤ after.source.faults
  pub sink_faults_never_fall : before.sink.faults ≤ after.sink.faults
