-- How a fault is written.
use Rattle.std.specs.Prelude.{List, ℕ, ◌++◌, codes, decimal}
use Rattle.rule_table.specs.declared.fault.RuleError.{RuleError}
use Rattle.rule_table.specs.declared.fault.RuleError.TheVariants as fault

-- a fault's line and its name; want of memory has no line
abbrev pub fault_text : RuleError → List ℕ
fault_text (fault.BadRule line) = codes "line " ++ (decimal line ++ codes ": bad rule")
fault_text (fault.ReversedRule line) = codes "line " ++ (decimal line ++ codes ": reversed range")
fault_text fault.NoMemory = codes "no memory"
