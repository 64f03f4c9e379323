-- The rows that the pass begins are those of the table.
use Rattle.std.proofs.Common.{◌≡◌, ℕ, suc, ◌+◌, ◌<◌, List, [], ◌∷◌, ◌++◌, length, get_or, refl, sym, ap, ◌∙◌, arith, append_assoc}
use Rattle.std.specs.Prelude.{ℤ, pos, ◌+ℤ◌, ◌-ℤ◌, Bool, true, false, not, nat_eq, unwrap_or, if◌then◌else◌, map, Option, Some}
use Rattle.std.specs.Bool.{Decides}
use Rattle.std.specs.Cmp.{unsigned_Decides}
use Rattle.std.specs.Cmp.Lexicographic.{pointwise}
use Rattle.std.proofs.lemmas.Slice.Eq.{slice_eq-Decides}
use Rattle.number_line.specs.Segments.{segments}
use Rattle.set_document.specs.Answer.{Shape, shape, line_lists}
use Rattle.set_document.specs.Lines.{line_lists_of, names_of}
use Rattle.set_document.specs.declared.named_lines.Line.{Line}
use Rattle.std.proofs.lemmas.Simd.{map-map}
use Rattle.set_document.specs.Numbers.{least, greatest, i64_runs}
use Rattle.set_document.specs.Truth.{Lines, at, named_lines}
use Rattle.set_document.specs.Table.{names, indices_where, is_held, names_held, row_of, rows}
use Rattle.set_document.specs.Names.{last_place, distinct_names, IsIndex, AreLastPlaces}
use Rattle.set_document.specs.Words.{letters}
use Rattle.set_document.specs.declared.word.Name.{Name}
use Rattle.set_document.proofs.NameLemmas.{place_in_range}
use Rattle.std.specs.List.{AllByRecursion}
use Rattle.set_document.specs.Literals.{literal_cuts}
use Rattle.set_document.specs.Visits.{values_at, walk, IsWalk, IsConstantBetween, IsCompiled, rows_with_ends, numbers_of_first, firsts}
use Rattle.set_document.specs.Tabled.{table_rows}
use Rattle.set_document.specs.declared.table.TableRow.{TableRow}
use Rattle.truth_blocks.specs.declared.rows.Row.{Row}
use Rattle.cut_points.specs.Cuts.{IsAscending}
use Rattle.cut_points.proofs.CutLemmas.{ascending_from}
use Rattle.std.proofs.lemmas.Int.{ints}
use Rattle.std.proofs.lemmas.List.{map-append}
use Rattle.set_document.proofs.RunLemmas.{walk_rises}
use Rattle.truth_blocks.specs.Blocks.{values_of}
use Rattle.truth_blocks.specs.Notes.{note_all, walk_places}
use Rattle.truth_blocks.proofs.WalkLemmas.{length_values}
use Rattle.truth_blocks.specs.Rows.{places_of_true, label_of, rows_from, rows_of, begins}
use Rattle.truth_blocks.specs.declared.step.Step.{Step}
use Rattle.set_document.proofs.LineLemmas.{width}
use Rattle.set_document.proofs.LiteralLemmas.{changes_at_literals}
use Rattle.set_document.proofs.VisitLemmas.{walk_is_segments}
use Rattle.truth_blocks.proofs.RowLemmas.{begins_later}
use Rattle.set_document.proofs.CompileLemmas.{latest_there, second_at}

same : List ℕ → List ℕ → Bool
same = pointwise nat_eq

decides : (a b : List ℕ) → Decides (pointwise nat_eq a b) (a ≡ b)
decides a b = slice_eq-Decides unsigned_Decides a b (pointwise nat_eq a b) refl

-- p is the place of the last visited number, and `first` begins the row that is open
rows_walk : (f : ℤ → List ℕ) (label : ℕ → List ℕ) (hi first : ℤ) (p : ℕ) (vs : List ℤ) → label p ≡ f first
    → ((i : ℕ) → i < length vs → label (suc p + i) ≡ f (get_or vs i (pos 0)))
    → rows_with_ends hi ((first, f first) ∷ rows_from label (suc p) vs) ≡ map row_of (walk (pointwise nat_eq) f hi first vs)
rows_walk f label hi first p [] e h = refl
rows_walk f label hi first p (v ∷ vs) e h =
    let a : suc p + 0 ≡ suc p = omega arith in
    let b : suc p + 1 ≡ suc (suc p) = omega arith in
    let here : label (suc p) ≡ f v = rw a at (h 0 (omega arith)) in
    rw (begins_later label p, e, here, b) (go (pointwise nat_eq (f first) (f v)) refl here
    (λ g. rows_walk f label hi first (suc p) vs (here ∙ g) later) (rows_walk f label hi v (suc p) vs here later))
  where
    later : (i : ℕ) → i < length vs → label (suc (suc p) + i) ≡ f (get_or vs i (pos 0))
    later i k = let c : suc p + suc i ≡ suc (suc p) + i = omega arith in rw c at (h (suc i) (omega arith))

    go : (t : Bool) → pointwise nat_eq (f first) (f v) ≡ t → label (suc p) ≡ f v
        → (f v ≡ f first → rows_with_ends hi ((first, f first) ∷ rows_from label (suc (suc p)) vs) ≡ map row_of (walk (pointwise nat_eq) f hi first vs))
        → rows_with_ends hi ((v, f v) ∷ rows_from label (suc (suc p)) vs) ≡ map row_of (walk (pointwise nat_eq) f hi v vs)
        → rows_with_ends hi ((first, f first) ∷ (if not t then (v, f v) ∷ rows_from label (suc (suc p)) vs else rows_from label (suc (suc p)) vs))
        ≡ map row_of (if t then walk (pointwise nat_eq) f hi first vs else record { first = first; last = v -ℤ pos 1; label = f first } ∷ walk (pointwise nat_eq) f hi v vs)
    go true c d one two = one (sym ((decides (f first) (f v)).0 c))
    go false c d one two = ap (λ l. ((first, v -ℤ pos 1), f first) ∷ l) two

-- ---- labels

places_alike : (lines : List (List ℕ × Bool)) (ds : List (List ℕ)) (shown : List ℕ) (n : ℕ) → map (last_place (map (λ l. l.0) lines)) ds ≡ map (λ s. Some s) shown
    → indices_where (is_held lines) n ds ≡ places_of_true (map (λ l. l.1) lines) n shown
places_alike lines [] [] n e = refl
places_alike lines [] (s ∷ shown) n e = absurd cc
places_alike lines (d ∷ ds) [] n e = absurd cc
places_alike lines (d ∷ ds) (s ∷ shown) n e =
    let here : Some s ≡ last_place (map (λ l. l.0) lines) d = cc in
    let rest : map (last_place (map (λ l. l.0) lines)) ds ≡ map (λ s. Some s) shown = cc in
    let value : is_held lines d ≡ get_or (map (λ l. l.1) lines) s false = ap (λ r. unwrap_or r false) (latest_there lines (map (λ l. l.0) lines) d s refl here) in
    rw (value, places_alike lines ds shown (n + 1) rest) refl

names_at : (ls : Lines) (x : ℤ) → map (λ l. l.0) (at ls x) ≡ map (λ l. l.0) ls
names_at [] x = refl
names_at (l ∷ ls) x = ap (λ t. l.0 ∷ t) (names_at ls x)

labels_are : (ls : Lines) (x : ℤ) (shown : List ℕ) → AreLastPlaces (map (λ l. l.0) ls) shown → names_held (at ls x) ≡ places_of_true (values_at ls x) 0 shown
labels_are ls x shown h =
    let shown_at : map (last_place (map (λ l. l.0) (at ls x))) (distinct_names (map (λ l. l.0) (at ls x))) ≡ map (λ s. Some s) shown = rw (names_at ls x) h in
    places_alike (at ls x) (distinct_names (map (λ l. l.0) (at ls x))) shown 0 shown_at ∙ ap (λ v. places_of_true v 0 shown) (second_at ls x)

-- ---- the table

pub rows_are_table : (text : List ℕ) (compiled : List (List Step)) (visited : List ℤ) (shown : List ℕ) → IsWalk least greatest (literal_cuts text) visited → IsCompiled visited (named_lines text) compiled
    → AreLastPlaces (map (λ l. l.0) (named_lines text)) shown → rows_with_ends greatest (rows_from (label_of compiled shown) 0 visited) ≡ rows text
unfolding rows
rows_are_table text compiled visited shown w h s =
    let f : ℤ → List ℕ = λ x. names_held (at (named_lines text) x) in
    let label : (p : ℕ) → p < length visited → label_of compiled shown p ≡ f (get_or visited p (pos 0)) =
    λ p k. ap (λ v. places_of_true v 0 shown) (h p k) ∙ sym (labels_are (named_lines text) (get_or visited p (pos 0)) shown s) in
    let between : IsConstantBetween f greatest least w.later = λ x p q e. ap names_held (changes_at_literals text x q (w.complete x p q e)) in
    let cut : walk (pointwise nat_eq) f greatest least w.later ≡ segments (pointwise nat_eq) f least 18446744073709551615 = walk_is_segments (pointwise nat_eq) decides f greatest least 18446744073709551615 w.later width w.ascending between in
    from f visited w.later w.begins label ∙ ap (map row_of) cut
  where
    from : (f : ℤ → List ℕ) (visited later : List ℤ) → visited ≡ least ∷ later → ((p : ℕ) → p < length visited → label_of compiled shown p ≡ f (get_or visited p (pos 0)))
        → rows_with_ends greatest (rows_from (label_of compiled shown) 0 visited) ≡ map row_of (walk (pointwise nat_eq) f greatest least later)
    from f visited later e h =
        let h2 : (p : ℕ) → p < length (least ∷ later) → label_of compiled shown p ≡ f (get_or (least ∷ later) p (pos 0)) = rw e at h in
        let zero_first : label_of compiled shown 0 ≡ f least = h2 0 (omega arith) in
        ap (λ v. rows_with_ends greatest (rows_from (label_of compiled shown) 0 v)) e
        ∙ (ap (λ (l : List ℕ). rows_with_ends greatest ((least, l) ∷ rows_from (label_of compiled shown) 1 later)) zero_first ∙ rows_walk f (label_of compiled shown) greatest least 0 later zero_first (λ i k. let z : 1 + i ≡ suc i = omega arith in rw z (h2 (suc i) (omega arith))))

-- ---- the places from the index

seconds_of : (pairs : List (Name × ℕ)) → map (λ (r : List ℕ × Option ℕ). r.1) (map (λ (p : Name × ℕ). (letters p.0, Some p.1)) pairs) ≡ map (λ s. Some s) (map (λ (p : Name × ℕ). p.1) pairs)
seconds_of [] = refl
seconds_of (p ∷ pairs) = ap (λ l. Some p.1 ∷ l) (seconds_of pairs)

seconds_with : (last : List ℕ → Option ℕ) (ds : List (List ℕ)) → map (λ (r : List ℕ × Option ℕ). r.1) (map (λ n. (n, last n)) ds) ≡ map last ds
seconds_with last [] = refl
seconds_with last (d ∷ ds) = ap (λ l. last d ∷ l) (seconds_with last ds)

pub index_shown : (names : List (List ℕ)) (pairs : List (Name × ℕ)) → IsIndex names pairs → AreLastPlaces names (map (λ p. p.1) pairs)
index_shown names pairs h = sym (seconds_with (last_place names) (distinct_names names)) ∙ (sym (ap (map (λ (r : List ℕ × Option ℕ). r.1)) h.lists) ∙ seconds_of pairs)

placed : (names ds : List (List ℕ)) (shown : List ℕ) → map (last_place names) ds ≡ map (λ s. Some s) shown → AllByRecursion (λ s. s < length names) shown
placed names [] [] e = tt
placed names [] (s ∷ shown) e = absurd cc
placed names (d ∷ ds) [] e = absurd cc
placed names (d ∷ ds) (s ∷ shown) e =
    let here : last_place names d ≡ Some s = cc in
    let rest : map (last_place names) ds ≡ map (λ s. Some s) shown = cc in
    (place_in_range names d s here, placed names ds shown rest)

pub shown_within : (names : List (List ℕ)) (shown : List ℕ) → AreLastPlaces names shown → AllByRecursion (λ s. s < length names) shown
shown_within names shown h = placed names (distinct_names names) shown h

-- one more row is closed
pub close_turn : (left : List Row) (r : Row) (rest : List Row) (done done' : List TableRow) (row : TableRow) (all : List ((ℤ × ℤ) × List ℕ)) → left ≡ r ∷ rest
    → done' ≡ done ++ row ∷ [] → row.numbers ≡ numbers_of_first greatest (rows_of left) → row.names.items ≡ r.held.items
    → table_rows done ++ rows_with_ends greatest (rows_of left) ≡ all → table_rows done' ++ rows_with_ends greatest (rows_of rest) ≡ all
close_turn left r rest done done' row all e f n h same =
    let n2 = rw e at n in
    let same2 = rw e at same in
    rw (f, map-append, append_assoc, n2, h) same2

-- the rows of ascending numbers begin at ascending ones
rows_ascend : (label : ℕ → List ℕ) (p : ℕ) (lo hi : ℤ) (xs : List ℤ) → IsAscending lo hi xs → IsAscending lo hi (firsts (rows_from label p xs))
rows_ascend label p lo hi [] a = tt
rows_ascend label p lo hi (x ∷ xs) a = at (begins label p) (rows_ascend label (p + 1) (x +ℤ pos 1) hi xs a.2)
  where
    at : (b : Bool) → IsAscending (x +ℤ pos 1) hi (firsts (rows_from label (p + 1) xs))
        → IsAscending lo hi (firsts (if b then (x, label p) ∷ rows_from label (p + 1) xs else rows_from label (p + 1) xs))
    at true ih = (a.0, a.1, ih)
    at false ih = ascending_from (x +ℤ pos 1) lo hi (firsts (rows_from label (p + 1) xs)) (omega (arith, ints, a.0)) ih

pub rows_ascending : (label : ℕ → List ℕ) (lits visited : List ℤ) → IsWalk least greatest lits visited → IsAscending least greatest (firsts (rows_from label 0 visited))
rows_ascending label lits visited w = rows_ascend label 0 least greatest visited (walk_rises lits visited w)

pub rest_ascends : (left : List Row) (r : Row) (rest : List Row) → left ≡ r ∷ rest → IsAscending least greatest (firsts (rows_of left)) → IsAscending least greatest (firsts (rows_of rest))
rest_ascends left r rest e a =
    let b = rw e at a in
    ascending_from (r.first +ℤ pos 1) least greatest (firsts (rows_of rest)) (omega (arith, ints, b.0)) b.2

-- ---- the lines and the names

from_parts : (lines : List Line) (ls : Lines) → names_of (line_lists_of lines) ≡ map (λ l. l.0) ls → map (λ l. l.set) lines ≡ map (λ l. i64_runs l.1) ls
    → line_lists_of lines ≡ map (λ l. (l.0, i64_runs l.1)) ls
from_parts [] [] e f = refl
from_parts [] (l ∷ ls) e f = absurd cc
from_parts (d ∷ ds) [] e f = absurd cc
from_parts (d ∷ ds) (l ∷ ls) e f =
    let name : letters d.name ≡ l.0 = cc in
    let runs : d.set ≡ i64_runs l.1 = cc in
    let more_names : names_of (line_lists_of ds) ≡ map (λ l. l.0) ls = cc in
    let more_sets : map (λ l. l.set) ds ≡ map (λ l. i64_runs l.1) ls = cc in
    let rest : line_lists_of ds ≡ map (λ l. (l.0, i64_runs l.1)) ls = from_parts ds ls more_names more_sets in
    let head : ◌≡◌ {A = List ℕ × List (ℤ × ℤ)} (letters d.name, d.set) (l.0, i64_runs l.1) = λ i. (name i, runs i) in
    cc

pub lines_listed : (text : List ℕ) (lines : List Line) → names_of (line_lists_of lines) ≡ map (λ l. l.0) (named_lines text) → map (λ l. l.set) lines ≡ map (λ l. i64_runs l.1) (named_lines text)
    → line_lists_of lines ≡ line_lists text
unfolding line_lists
lines_listed text lines e f = from_parts lines (named_lines text) e f

names_listed : (text : List ℕ) → distinct_names (names_of (line_lists text)) ≡ names text
unfolding line_lists names
names_listed text = ap distinct_names (map-map (λ (l : List ℕ × List (ℤ × ℤ)). l.0) (λ (l : List ℕ × (ℤ → Bool)). (l.0, i64_runs l.1)) (named_lines text))

-- a pass leaves a note for each line
length_note : (ss : List (Bool × List ℤ)) (bs : List Bool) (x : ℤ) → length bs ≡ length ss → length (note_all ss bs x) ≡ length ss
length_note [] bs x e = refl
length_note (s ∷ ss) [] x e = absurd (omega arith)
length_note (s ∷ ss) (b ∷ bs) x e = ap suc (length_note ss bs x (omega arith))

pub length_walk : (steps : List (List Step)) (p : ℕ) (ss : List (Bool × List ℤ)) (xs : List ℤ) → length ss ≡ length steps → length (walk_places (values_of steps) p ss xs) ≡ length steps
length_walk steps p ss [] e = e
length_walk steps p ss (x ∷ xs) e =
    let n = length_values p [] steps in
    let one : length (note_all ss (values_of steps p) x) ≡ length ss = length_note ss (values_of steps p) x (omega (arith, n, e)) in
    length_walk steps (p + 1) (note_all ss (values_of steps p) x) xs (one ∙ e)

pub shape_of_parts : (text : List ℕ) (lines : List (List ℕ × List (ℤ × ℤ))) (table : List ((ℤ × ℤ) × List ℕ)) → lines ≡ line_lists text → table ≡ rows text
    → ◌≡◌ {A = Shape} (record { lines = lines; names = distinct_names (names_of lines); rows = table }) (shape text)
unfolding shape
shape_of_parts text lines table e f =
    let n = ap (λ ls. distinct_names (names_of ls)) e ∙ names_listed text in
    λ i. record { lines = e i; names = n i; rows = f i }
