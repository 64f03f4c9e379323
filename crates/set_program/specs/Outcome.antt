-- The outcome of a run.
use Rattle.std.specs.Prelude.{◌≡◌, ℕ, List, ⊤, Option, None, Some}
use Rattle.set_program.specs.declared.command.Document.{Document}
use Rattle.set_program.specs.Documents.{Fault, OfSets, OfRules, first_fault}
use Rattle.set_program.specs.declared.status.Status.{Status}
use Rattle.set_program.specs.declared.status.Status.TheVariants.{Done, TextFault, NoMemory, ReadFault, WriteFault, TooLong, Usage, RuleFault}

-- the status of a text with this first fault, or without one
abbrev pub status_by : Option Fault → Status
status_by None = Done
status_by (Some (OfSets fault)) = TextFault fault
status_by (Some (OfRules fault)) = RuleFault fault

-- the status of a text as a document of the kind, when all calls on the devices succeed
abbrev pub status_of : Document → List ℕ → Status
status_of kind text = status_by (first_fault kind text)

-- the fault that a status tells, or none
abbrev pub fault_of : Status → Option Fault
fault_of (TextFault fault) = Some (OfSets fault)
fault_of (RuleFault fault) = Some (OfRules fault)
fault_of _ = None

-- `NoMemory`, or this status
abbrev pub IsUnlessNoMemory : Status → Status → Type 0
IsUnlessNoMemory NoMemory wanted = ⊤
IsUnlessNoMemory status wanted = status ≡ wanted

-- a status that comes once the text is read
abbrev pub IsAfterReading : Status → Type 0
IsAfterReading ReadFault = ⊥
IsAfterReading TooLong = ⊥
IsAfterReading Usage = ⊥
IsAfterReading _ = ⊤

-- a status that comes before anything is written
abbrev pub IsWithoutWriting : Status → Type 0
IsWithoutWriting Done = ⊥
IsWithoutWriting (TextFault fault) = ⊥
IsWithoutWriting (RuleFault fault) = ⊥
IsWithoutWriting WriteFault = ⊥
IsWithoutWriting _ = ⊤

-- a status that comes where no text is read
abbrev pub IsWithoutText : Status → Type 0
IsWithoutText Done = ⊤
IsWithoutText NoMemory = ⊤
IsWithoutText WriteFault = ⊤
IsWithoutText _ = ⊥
