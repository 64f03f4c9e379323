-- What is written of rules. A text is the list of its bytes.
use Rattle.std.specs.Prelude.{ℕ, ◌+◌, ◌/◌, ◌%◌, ◌^◌, ℤ, unsigned_abs, Bool, if◌then◌else◌, List, [], ◌∷◌, ◌++◌, flat_map, codes, Option, Some, None}
use Rattle.std.specs.Fmt.{decimal}
use Rattle.number_line.specs.Segments.{Segment}
use Rattle.rule_table.specs.Tiling.{tiling}
use Rattle.rule_table.specs.Dead.{is_dead}
use Rattle.rule_table.specs.Decisions.{decision_segments}
use Rattle.rule_table.specs.declared.rule.Decision.{Decision}
use Rattle.rule_table.specs.declared.rule.Decision.TheVariants.{Allow, Deny}

-- an address as four decimals joined by dots, the highest first
abbrev pub address_text : ℕ → List ℕ
address_text a =
    decimal (a / 2 ^ 24) ++ codes "." ++ decimal (a / 2 ^ 16 % 256) ++ codes "."
    ++ decimal (a / 2 ^ 8 % 256) ++ codes "." ++ decimal (a % 256)

abbrev pub range_text : ℕ × ℕ → List ℕ
range_text range = address_text range.0 ++ codes "-" ++ address_text range.1

abbrev pub decision_text : Option Decision → List ℕ
decision_text None = codes "none"
decision_text (Some Allow) = codes "allow"
decision_text (Some Deny) = codes "deny"

-- a segment of the decision on a line
abbrev pub segment_text : Segment (Option Decision) → List ℕ
segment_text s = range_text (unsigned_abs s.first, unsigned_abs s.last) ++ codes " " ++ decision_text s.label ++ codes "\n"

abbrev pub segments_text : List (Segment (Option Decision)) → List ℕ
segments_text segments = flat_map segment_text segments

-- a block on a line
abbrev pub block_text : ℕ × ℕ → List ℕ
block_text block = codes "block " ++ address_text block.0 ++ codes "/" ++ decimal block.1 ++ codes "\n"

abbrev pub blocks_text : List (ℕ × ℕ) → List ℕ
blocks_text blocks = flat_map block_text blocks

-- the blocks that tile a segment, by its decision: only where that is to allow
abbrev pub tiling_text : Segment (Option Decision) → Option Decision → List ℕ
tiling_text s None = []
tiling_text s (Some Allow) = blocks_text (tiling (unsigned_abs s.first) (unsigned_abs s.last))
tiling_text s (Some Deny) = []

abbrev pub tilings_text : List (Segment (Option Decision)) → List ℕ
tilings_text segments = flat_map (λ s. tiling_text s s.label) segments

-- the line of a rule by whether it is dead, with the number of the line that it stands on
abbrev pub dead_line : Bool → ℕ → List ℕ
dead_line dead line = if dead then codes "dead " ++ decimal line ++ codes "\n" else []

-- the lines of the dead rules, given the number of the line that each rule stands on, from place k on
abbrev pub dead_text : {D : Type 0} → List ((ℤ × ℤ) × D) → ℕ → List ℕ → List ℕ
dead_text rules k [] = []
dead_text rules k (line ∷ rest) = dead_line (is_dead rules k) line ++ dead_text rules (k + 1) rest

-- all that is written of rules that stand on those lines
abbrev pub table_text : List ((ℤ × ℤ) × Decision) → List ℕ → List ℕ
table_text rules lines = segments_text (decision_segments rules) ++ (tilings_text (decision_segments rules) ++ dead_text rules 0 lines)
