-- The sample text of so many lines, and the counts of an answer. Each line of the sample takes 26 numbers from ten times its place
-- on, and most lines take the set of the line before.
use Rattle.std.specs.Prelude.{ℕ, zero, suc, ◌+◌, ◌-◌, ◌*◌, ◌/◌, ◌%◌, ◌==◌, pos, if◌then◌else◌, List, [], ◌∷◌, ◌++◌, codes, length, sum_by}
use Rattle.std.specs.Fmt.{decimal}
use Rattle.set_document.specs.Answer.{range_text, Shape, shape, shape_text}

-- the name of the line at a place, which counts from 0: three letters, at the places k / 676, (k / 26) mod 26 and k mod 26 of `a` to `z`
abbrev pub sample_name : ℕ → List ℕ
sample_name k = (97 + k / 676) ∷ (97 + (k / 26) % 26) ∷ (97 + k % 26) ∷ []

-- its range: from 10k to 10k + 25
abbrev pub sample_range : ℕ → List ℕ
sample_range k = range_text (pos (10 * k), pos (10 * k + 25))

-- its words, by the rest of its place by four: the range, the range with the line before by `|` or by `^`, and the range without that line
abbrev pub sample_words : ℕ → List ℕ
sample_words k =
    if k % 4 == 0 then sample_range k
    else if k % 4 == 1 then sample_range k ++ (codes " " ++ (sample_name (k - 1) ++ codes " |"))
    else if k % 4 == 2 then sample_range k ++ (codes " " ++ (sample_name (k - 1) ++ codes " ^"))
    else sample_name (k - 1) ++ (codes " ! " ++ (sample_range k ++ codes " &"))

abbrev pub sample_line : ℕ → List ℕ
sample_line k = sample_name k ++ (codes ": " ++ (sample_words k ++ codes "\n"))

-- the text of the lines at the first n places
unfoldable pub sample : ℕ → List ℕ
sample zero = []
sample (suc n) = sample n ++ sample_line n

-- how many named lines, runs of all lines, rows and bytes an answer has
abbrev pub counts_text : Shape → List ℕ
counts_text s =
    codes "lines " ++ (decimal (length s.lines) ++ (codes " ranges " ++ (decimal (sum_by (λ l. length l.1) s.lines)
    ++ (codes " rows " ++ (decimal (length s.rows) ++ (codes " bytes " ++ (decimal (length (shape_text s)) ++ codes "\n")))))))

-- the counts of the answer to the sample text of n lines
unfoldable pub summary : ℕ → List ℕ
summary n = counts_text (shape (sample n))
