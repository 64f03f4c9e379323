-- The ranges of each name's last line, and the names that hold at a number.
use Rattle.std.proofs.Common.{◌≡◌, ℕ, ◌+◌, List, [], ◌∷◌, ◌++◌, map, refl, sym, ◌∙◌, ap, subst, arith, get_or, length, ◌<◌, ◌≤◌}
use Rattle.std.specs.Prelude.{ℤ, pos, ◌+ℤ◌, Bool, true, false, ◌||◌, if◌then◌else◌, Option, Some, unwrap_or}
use Rattle.std.specs.List.{AllByRecursion}
use Rattle.std.proofs.lemmas.Int.{ints}
use Rattle.std.proofs.lemmas.List.{append_assoc, append-nil}
use Rattle.std.proofs.lemmas.Simd.{map-map}
use Rattle.number_line.specs.Ranges.{lies_in, holds, IsCanonical}
use Rattle.number_line.proofs.RangeLemmas.{below_start}
use Rattle.number_line.proofs.ValuedLemmas.{lies_within}
use Rattle.range_multimap.specs.Grouped.{grouped_at}
use Rattle.set_document.specs.Lines.{lines_of, names_of, AllCanonical}
use Rattle.set_document.specs.Names.{last_place, distinct_names, IsIndex}
use Rattle.set_document.specs.Numbers.{least, greatest}
use Rattle.set_document.specs.Table.{indices_where, is_held, names_held}
use Rattle.set_document.specs.Truth.{at}
use Rattle.set_document.specs.Words.{letters}
use Rattle.set_document.specs.declared.word.Name.{Name}
use Rattle.set_document.proofs.NameLemmas.{with_place, in_bytes, something_latest, line_at_place}

grouped_joined : (a b : List ((ℤ × ℤ) × ℕ)) (x : ℤ) → grouped_at (a ++ b) x ≡ grouped_at a x ++ grouped_at b x
grouped_joined [] b x = refl
grouped_joined (p ∷ a) b x = go (grouped_joined a b x) (lies_in p.0 x)
  where
    go : grouped_at (a ++ b) x ≡ grouped_at a x ++ grouped_at b x → (t : Bool)
        → (if t then p.1 ∷ grouped_at (a ++ b) x else grouped_at (a ++ b) x) ≡ (if t then p.1 ∷ grouped_at a x else grouped_at a x) ++ grouped_at b x
    go e true = ap (λ vs. p.1 ∷ vs) e
    go e false = e

-- the ranges of one set hold a number once, or not at all
grouped_set : (lo hi : ℤ) (set : List (ℤ × ℤ)) (i : ℕ) (x : ℤ) → IsCanonical lo hi set → grouped_at (map (λ range. (range, i)) set) x ≡ (if holds set x then i ∷ [] else [])
grouped_set lo hi [] i x c = refl
grouped_set lo hi (r ∷ rest) i x c = go (grouped_set (r.1 +ℤ pos 2) hi rest i x c.3) (lies_in r x) refl
  where
    go : grouped_at (map (λ range. (range, i)) rest) x ≡ (if holds rest x then i ∷ [] else []) → (t : Bool) → lies_in r x ≡ t
        → (if t then i ∷ grouped_at (map (λ range. (range, i)) rest) x else grouped_at (map (λ range. (range, i)) rest) x) ≡ (if t || holds rest x then i ∷ [] else [])
    go e true h =
        let in_r = lies_within r x h in
        let none : holds rest x ≡ false = below_start (r.1 +ℤ pos 2) hi rest x c.3 (omega (arith, ints, in_r.1)) in
        ap (λ vs. i ∷ vs) (e ∙ ap (λ t. if t then i ∷ [] else []) none)
    go e false h = e

-- the ranges of one more name put in
pub one_more : (old : List ((ℤ × ℤ) × ℕ)) (lo hi : ℤ) (set : List (ℤ × ℤ)) (i : ℕ) (x : ℤ) (lines : List (List ℕ × Bool)) (name : List ℕ) (names : List (List ℕ))
    → IsCanonical lo hi set → holds set x ≡ is_held lines name
    → grouped_at (old ++ map (λ range. (range, i)) set) x ++ indices_where (is_held lines) (i + 1) names ≡ grouped_at old x ++ indices_where (is_held lines) i (name ∷ names)
one_more old lo hi set i x lines name names c same =
    let joined = grouped_joined old (map (λ range. (range, i)) set) x in
    let own : grouped_at (map (λ range. (range, i)) set) x ≡ (if is_held lines name then i ∷ [] else []) = grouped_set lo hi set i x c ∙ ap (λ t. if t then i ∷ [] else []) same in
    ap (λ l. l ++ indices_where (is_held lines) (i + 1) names) (joined ∙ ap (λ l. grouped_at old x ++ l) own) ∙ go (is_held lines name)
  where
    go : (t : Bool) → (grouped_at old x ++ (if t then i ∷ [] else [])) ++ indices_where (is_held lines) (i + 1) names
        ≡ grouped_at old x ++ (if t then i ∷ indices_where (is_held lines) (i + 1) names else indices_where (is_held lines) (i + 1) names)
    go true = append_assoc (grouped_at old x) (i ∷ []) (indices_where (is_held lines) (i + 1) names)
    go false = ap (λ l. l ++ indices_where (is_held lines) (i + 1) names) (append-nil (grouped_at old x))

-- the last line of a name says whether it holds
pub last_line_holds : (lines : List (List ℕ × List (ℤ × ℤ))) (name : List ℕ) (x : ℤ) (place : ℕ) (line : List ℕ × List (ℤ × ℤ)) → last_place (names_of lines) name ≡ Some place → line ≡ get_or lines place line
    → holds line.1 x ≡ is_held (at (lines_of lines) x) name
last_line_holds lines name x place line e f = ap (λ r. unwrap_or r false) (something_latest lines name x place line e f)

-- ---- the pairs of the index

abbrev pub IsPlaced : List (List ℕ) → Name × ℕ → Type 0
IsPlaced names p = Some p.1 ≡ last_place names (letters p.0)

all_placed_from : (names : List (List ℕ)) (pairs : List (Name × ℕ)) (ds : List (List ℕ)) → map in_bytes pairs ≡ map (with_place (last_place names)) ds → AllByRecursion (IsPlaced names) pairs
all_placed_from names [] ds e = tt
all_placed_from names (p ∷ pairs) [] e = absurd cc
all_placed_from names (p ∷ pairs) (d ∷ ds) e =
    let head : in_bytes p ≡ with_place (last_place names) d = cc in
    let first : letters p.0 ≡ d = ap (λ (r : List ℕ × Option ℕ). r.0) head in
    let place : Some p.1 ≡ last_place names d = ap (λ (r : List ℕ × Option ℕ). r.1) head in
    let rest : map in_bytes pairs ≡ map (with_place (last_place names)) ds = cc in
    (place ∙ ap (last_place names) (sym first), all_placed_from names pairs ds rest)

-- each pair of the index has the last place of its name
pub all_placed : (names : List (List ℕ)) (pairs : List (Name × ℕ)) → IsIndex names pairs → AllByRecursion (IsPlaced names) pairs
all_placed names pairs h = all_placed_from names pairs (distinct_names names) h.lists

names_from : (last : List ℕ → Option ℕ) (pairs : List (Name × ℕ)) (ds : List (List ℕ)) → map in_bytes pairs ≡ map (with_place last) ds → map (λ p. letters p.0) pairs ≡ ds
names_from last [] [] e = refl
names_from last [] (d ∷ ds) e = absurd cc
names_from last (p ∷ pairs) [] e = absurd cc
names_from last (p ∷ pairs) (d ∷ ds) e =
    let head : in_bytes p ≡ with_place last d = cc in
    let first : letters p.0 ≡ d = ap (λ (r : List ℕ × Option ℕ). r.0) head in
    let rest : map in_bytes pairs ≡ map (with_place last) ds = cc in
    λ i. first i ∷ names_from last pairs ds rest i

-- the index has the distinct names in order
pub index_names : (names : List (List ℕ)) (pairs : List (Name × ℕ)) → IsIndex names pairs → map (λ p. letters p.0) pairs ≡ distinct_names names
index_names names pairs h = names_from (last_place names) pairs (distinct_names names) h.lists

pub names_at : (lines : List (List ℕ × List (ℤ × ℤ))) (x : ℤ) → map (λ l. l.0) (at (lines_of lines) x) ≡ names_of lines
names_at lines x =
    map-map (λ (l : List ℕ × Bool). l.0) (λ (l : List ℕ × (ℤ → Bool)). (l.0, l.1 x)) (lines_of lines)
    ∙ map-map (λ (l : List ℕ × (ℤ → Bool)). l.0) (λ (l : List ℕ × List (ℤ × ℤ)). (l.0, holds l.1)) lines

-- the names that hold, by the pairs of the index
pub held_by_index : (lines : List (List ℕ × List (ℤ × ℤ))) (pairs : List (Name × ℕ)) (x : ℤ) → IsIndex (names_of lines) pairs
    → indices_where (is_held (at (lines_of lines) x)) 0 (map (λ p. letters p.0) pairs) ≡ names_held (at (lines_of lines) x)
held_by_index lines pairs x h = ap (indices_where (is_held (at (lines_of lines) x)) 0) (index_names (names_of lines) pairs h ∙ ap distinct_names (sym (names_at lines x)))

-- ---- one turn of the walk over the index

placed_first : (names : List (List ℕ)) (left rest : List (Name × ℕ)) (name : Name) (place : ℕ) → AllByRecursion (IsPlaced names) left → left ≡ (name, place) ∷ rest
    → (last_place names (letters name) ≡ Some place) × AllByRecursion (IsPlaced names) rest
placed_first names left rest name place all e = let all' : AllByRecursion (IsPlaced names) ((name, place) ∷ rest) = subst (AllByRecursion (IsPlaced names)) e all in (sym all'.0, all'.1)

pub placed_rest : (names : List (List ℕ)) (left rest : List (Name × ℕ)) (name : Name) (place : ℕ) → AllByRecursion (IsPlaced names) left → left ≡ (name, place) ∷ rest → AllByRecursion (IsPlaced names) rest
placed_rest names left rest name place all e = (placed_first names left rest name place all e).1

module _ (lines : List (List ℕ × List (ℤ × ℤ))) (left rest : List (Name × ℕ)) (name : Name) (place : ℕ) (all : AllByRecursion (IsPlaced (names_of lines)) left) (e : left ≡ (name, place) ∷ rest) where
  -- the ranges of the last line of the next name put in
  pub name_put_in : (old new : List ((ℤ × ℤ) × ℕ)) (i : ℕ) (line : List ℕ × List (ℤ × ℤ)) → AllCanonical lines → place < length lines → line ≡ get_or lines place line
      → new ≡ old ++ map (λ range. (range, i)) line.1 → (x : ℤ)
      → grouped_at new x ++ indices_where (is_held (at (lines_of lines) x)) (i + 1) (map (λ p. letters p.0) rest)
      ≡ grouped_at old x ++ indices_where (is_held (at (lines_of lines) x)) i (map (λ p. letters p.0) left)
  name_put_in old new i line canonical within is put x =
      let last = (placed_first (names_of lines) left rest name place all e).0 in
      let own : IsCanonical least greatest line.1 = subst (λ (l : List ℕ × List (ℤ × ℤ)). IsCanonical least greatest l.1) (sym is) (canonical place line within) in
      let turn = one_more old least greatest line.1 i x (at (lines_of lines) x) (letters name) (map (λ p. letters p.0) rest) own (last_line_holds lines (letters name) x place line last is) in
      ap (λ l. grouped_at l x ++ indices_where (is_held (at (lines_of lines) x)) (i + 1) (map (λ p. letters p.0) rest)) put
      ∙ (turn ∙ ap (λ l. grouped_at old x ++ indices_where (is_held (at (lines_of lines) x)) i (map (λ p. letters p.0) l)) (sym e))

  -- and there is such a line
  pub line_is_there : length lines ≤ place → ⊥
  line_is_there beyond = line_at_place lines (letters name) place (placed_first (names_of lines) left rest name place all e).0 beyond
