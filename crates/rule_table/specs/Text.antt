-- The lines of a text of rules. A text is the list of its bytes.
use Rattle.std.specs.Prelude.{ℕ, ◌+◌, ◌-◌, ◌*◌, ◌%◌, pos, unsigned_abs, slice_index, Bool, ◌==◌, nat_lt, if◌then◌else◌, List, length, drop, take, bytes_eq, codes, Option, Some, None, option_map, option_and_then}
use Rattle.std.specs.List.{position_or_len}
use Rattle.text_lines.specs.Lines.{ends_with_feed}
use Rattle.text_lines.specs.Decimals.{number_between}
use Rattle.rule_table.specs.Blocks.{size}
use Rattle.rule_table.specs.declared.rule.Decision.{Decision}
use Rattle.rule_table.specs.declared.rule.Decision.TheVariants.{Allow, Deny}

-- ---- addresses

-- the number of at most `most` that a piece writes in decimal without leading zeros, or none
abbrev pub decimal_up_to : ℕ → List ℕ → Option ℕ
decimal_up_to most piece = option_map unsigned_abs (number_between (pos 0) (pos most) piece)

-- where the byte first stands in a piece, or the piece's length
abbrev pub place_of : ℕ → List ℕ → ℕ
place_of byte piece = position_or_len (λ c. c == byte) piece

-- the byte stands in the piece
abbrev pub has : ℕ → List ℕ → Bool
has byte piece = nat_lt (place_of byte piece) (length piece)

-- what stands before the first such byte, and what stands behind it
abbrev pub before : ℕ → List ℕ → List ℕ
before byte piece = take (place_of byte piece) piece

abbrev pub behind : ℕ → List ℕ → List ℕ
behind byte piece = drop (place_of byte piece + 1) piece

-- a decimal of 0 to 255 that a dot follows, and what stands behind the dot
abbrev pub part : List ℕ → Option (ℕ × List ℕ)
part piece = if has 46 piece then option_map (λ n. (n, behind 46 piece)) (decimal_up_to 255 (before 46 piece)) else None

-- the number of four decimals of 0 to 255, the first one the highest
abbrev pub joined : ℕ → ℕ → ℕ → ℕ → ℕ
joined a b c d = ((a * 256 + b) * 256 + c) * 256 + d

-- the address that four decimals joined by dots write
abbrev pub address : List ℕ → Option ℕ
address piece =
    option_and_then (λ a. option_and_then (λ b. option_and_then (λ c.
    option_map (λ d. joined a.0 b.0 c.0 d) (decimal_up_to 255 c.1)) (part b.1)) (part a.1)) (part piece)

-- from one address to another
abbrev pub span : Option ℕ → Option ℕ → Option (ℕ × ℕ)
span None b = None
span (Some a) None = None
span (Some a) (Some b) = Some (a, b)

-- the addresses that agree with A in all but the lowest 32 - n bits, where these are zero in A
abbrev pub block : Option ℕ → Option ℕ → Option (ℕ × ℕ)
block None n = None
block (Some a) None = None
block (Some a) (Some n) = if a % size n == 0 then Some (a, a + (size n - 1)) else None

-- the first and the last address that a piece writes as `A-B`, `A/n` or `A`
abbrev pub addresses : List ℕ → Option (ℕ × ℕ)
addresses piece =
    if has 45 piece then span (address (before 45 piece)) (address (behind 45 piece))
    else if has 47 piece then block (address (before 47 piece)) (decimal_up_to 32 (behind 47 piece))
    else option_map (λ a. (a, a)) (address piece)

-- ---- lines

-- a comment, a rule with its decision and its first and last address, or neither
pub data Form : Type 0 where
  Comment : Form
  Ruling : Decision → ℕ × ℕ → Form
  Bad : Form

-- a rule of the addresses that a piece writes, where it writes some
abbrev pub ruling : Decision → Option (ℕ × ℕ) → Form
ruling decision None = Bad
ruling decision (Some range) = Ruling decision range

-- what follows a word at the front, where it stands there
abbrev pub after_word : List ℕ → List ℕ → Option (List ℕ)
after_word word body = if bytes_eq (take (length word) body) word then Some (drop (length word) body) else None

-- the form by what follows `allow ` and by what follows `deny `
abbrev pub form_by : Option (List ℕ) → Option (List ℕ) → Form
form_by (Some piece) denied = ruling Allow (addresses piece)
form_by None (Some piece) = ruling Deny (addresses piece)
form_by None None = Bad

-- the form of a line without its line feed
abbrev pub body_form : List ℕ → Form
body_form body = if slice_index body 0 == 35 then Comment else form_by (after_word (codes "allow ") body) (after_word (codes "deny ") body)

-- the form of a line, which is bad where it has no line feed
abbrev pub form : List ℕ → Form
form line = if ends_with_feed line then body_form (take (length line - 1) line) else Bad
