use Rattle.std.proofs.Common.{◌≡◌, suc, List, [], ◌∷◌, refl, sym, ◌∙◌, ap, arith}
use Rattle.std.specs.Prelude.{ℕ, ℤ, ◌≤ℤ◌, Bool, map, nat_eq, Some}
use Rattle.std.specs.Cmp.Lexicographic.{pointwise}
use Rattle.number_line.specs.Segments.{segments}
use Rattle.number_line.specs.Valued.{value_at, IsCanonicalMap}
use Rattle.std.proofs.lemmas.Int.{ints}
use Rattle.std.proofs.lemmas.Simd.{map-map}
use Rattle.number_line.specs.Ranges.{holds}
use Rattle.set_document.specs.Numbers.{least, greatest, above_least, i64_runs}
use Rattle.set_document.specs.Truth.{Lines, at, named_lines}
use Rattle.set_document.specs.Answer.{Shape, shape, line_lists}
use Rattle.set_document.specs.Lines.{Agree, AllCanonical, lines_of, names_of}
use Rattle.set_document.specs.Names.{distinct_names}
use Rattle.set_document.specs.Table.{names, names_held, rows, row_of}
use Rattle.set_document.proofs.GatherLemmas.{names_at}
use Rattle.set_document.proofs.NumberLemmas.{canonical_is_i64_runs, width}
use Rattle.set_document.proofs.TableLemmas.{rows_are_segments}

some_number : (least ≤ℤ least) × (least ≤ℤ greatest)
unfolding least greatest
some_number = (omega (arith, ints), omega (arith, ints))

heads : (n m : List ℕ) (a b : Bool) (xs ys : List (List ℕ × Bool)) → ((n, a) ∷ xs) ≡ ((m, b) ∷ ys) → (n ≡ m) × (a ≡ b) × (xs ≡ ys)
heads n m a b xs ys e = let p : ◌≡◌ {A = List ℕ × Bool} (n, a) (m, b) = cc in (ap (λ (r : List ℕ × Bool). r.0) p, ap (λ (r : List ℕ × Bool). r.1) p, cc)

pub lines_are_runs : (lines : List (List ℕ × List (ℤ × ℤ))) (ls : Lines) → AllCanonical lines → Agree (lines_of lines) ls
    → lines ≡ map (λ l. (l.0, i64_runs l.1)) ls
lines_are_runs [] [] c h = refl
lines_are_runs [] (l ∷ ls) c h = let e = h least some_number.0 some_number.1 in absurd (cc)
lines_are_runs (d ∷ ds) [] c h = let e = h least some_number.0 some_number.1 in absurd (cc)
lines_are_runs (d ∷ ds) (l ∷ ls) c h =
    let e = λ (x : ℤ) (p : least ≤ℤ x) (q : x ≤ℤ greatest). heads d.0 l.0 (holds d.1 x) (l.1 x) (at (lines_of ds) x) (at ls x) (h x p q) in
    let name : d.0 ≡ l.0 = (e least some_number.0 some_number.1).0 in
    let runs : d.1 ≡ i64_runs l.1 = canonical_is_i64_runs l.1 d.1 (c 0 d (omega arith)) (λ x p q. (e x p q).1) in
    let rest : ds ≡ map (λ l. (l.0, i64_runs l.1)) ls = lines_are_runs ds ls (λ k x p. c (suc k) x (omega arith)) (λ x p q. (e x p q).2) in
    let head : ◌≡◌ {A = List ℕ × List (ℤ × ℤ)} d (l.0, i64_runs l.1) = λ i. (name i, runs i) in
    cc

-- the lines and the rows of a text are its shape
pub shape_is : (text : List ℕ) (lines : List (List ℕ × List (ℤ × ℤ))) (table : List ((ℤ × ℤ) × List ℕ))
    → AllCanonical lines → Agree (lines_of lines) (named_lines text) → IsCanonicalMap (pointwise nat_eq) least greatest table
    → ((x : ℤ) → least ≤ℤ x → x ≤ℤ greatest → value_at table x ≡ Some (names_held (at (lines_of lines) x)))
    → ◌≡◌ {A = Shape} (record { lines = lines; names = distinct_names (names_of lines); rows = table }) (shape text)
unfolding shape line_lists names rows
shape_is text lines table canonical agree rows_canonical values =
    let runs : lines ≡ map (λ l. (l.0, i64_runs l.1)) (named_lines text) = lines_are_runs lines (named_lines text) canonical agree in
    let same_names : names_of lines ≡ map (λ l. l.0) (named_lines text) =
    sym (names_at lines least) ∙ (ap (map (λ l. l.0)) (agree least some_number.0 some_number.1) ∙ map-map (λ (l : List ℕ × Bool). l.0) (λ (l : List ℕ × (ℤ → Bool)). (l.0, l.1 least)) (named_lines text)) in
    let rows' : table ≡ map row_of (segments (pointwise nat_eq) (λ x. names_held (at (named_lines text) x)) least above_least) =
    rows_are_segments least greatest above_least (λ x. names_held (at (named_lines text) x)) table width rows_canonical
    (λ x p q. values x p q ∙ ap (λ lines. Some (names_held lines)) (agree x p q)) in
    λ i. record { lines = runs i; names = distinct_names (same_names i); rows = rows' i }
