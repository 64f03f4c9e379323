use Rattle.std.proofs.Common.{◌≡◌, ℕ, suc, ◌+◌, ◌<◌, List, [], ◌∷◌, ◌++◌, refl, ap, arith, sym, ◌∙◌, map, length, get_or}
use Rattle.std.specs.Prelude.{ℤ, pos, ◌+ℤ◌, ◌-ℤ◌, ◌≤ℤ◌, Bool, true, false, if◌then◌else◌, fold}
use Rattle.std.specs.Ordering.{int_cmp}
use Rattle.std.proofs.lemmas.Int.{ints, by_lt_z}
use Rattle.cut_points.specs.Cuts.{IsAscending}
use Rattle.ordered_lists.specs.Lists.{has}
use Rattle.number_line.specs.Segments.{same_bool, runs}
use Rattle.std.specs.List.{AllByRecursion}
use Rattle.cut_points.specs.Cuts.{from_cuts}
use Rattle.set_document.specs.Numbers.{least, greatest, i64_runs}
use Rattle.set_document.specs.Truth.{Lines, at, named_lines}
use Rattle.set_document.specs.Literals.{literal_cuts}
use Rattle.set_document.specs.Visits.{numbers_noted, values_at, after_visits, IsConstantBetween, IsWalk, walk_lines, IsCompiled}
use Rattle.truth_blocks.specs.Notes.{note, note_all, no_notes, walk_places}
use Rattle.truth_blocks.specs.Blocks.{values_of}
use Rattle.truth_blocks.specs.declared.step.Step.{Step}
use Rattle.std.specs.List.{filter}
use Rattle.std.specs.Prelude.{int_lt, ◌&&◌}
use Rattle.number_line.proofs.OrderLemmas.{lt_yes, lt_no}
use Rattle.cut_points.proofs.SymmetricLemmas.{has_filter, filter_ascends}
use Rattle.set_document.proofs.LiteralLemmas.{changes_at_literals}
use Rattle.set_document.proofs.LineLemmas.{width, line_value}
use Rattle.std.proofs.lemmas.List.{append-nil, length-map}
use Rattle.truth_blocks.proofs.WalkLemmas.{length_values}
use Rattle.std.proofs.lemmas.Simd.{map-map}
use Rattle.std.proofs.Common.{append_assoc}
use Rattle.set_document.proofs.VisitLemmas.{noted_are_runs, noted_ascends}

-- what the visits note is `noted`
after_from : (f : ℤ → Bool) (before : Bool) (ns visited : List ℤ) → (fold (λ s x. note s (f x) x) (before, ns) visited).1 ≡ ns ++ numbers_noted before f visited
after_from f before ns [] = sym (append-nil ns)
after_from f before ns (v ∷ vs) = at (same_bool before (f v)) (after_from f (f v) ns vs) (after_from f (f v) (ns ++ v ∷ []) vs)
  where
    at : (b : Bool) → (fold (λ s x. note s (f x) x) (f v, ns) vs).1 ≡ ns ++ numbers_noted (f v) f vs → (fold (λ s x. note s (f x) x) (f v, ns ++ v ∷ []) vs).1 ≡ (ns ++ v ∷ []) ++ numbers_noted (f v) f vs
        → (fold (λ s x. note s (f x) x) (f v, (if b then ns else ns ++ v ∷ [])) vs).1 ≡ ns ++ (if b then numbers_noted (f v) f vs else v ∷ numbers_noted (f v) f vs)
    at true one two = one
    at false one two = two ∙ append_assoc ns (v ∷ []) (numbers_noted (f v) f vs)

pub after_visits_noted : (f : ℤ → Bool) (visited : List ℤ) → (after_visits f visited).1 ≡ numbers_noted false f visited
after_visits_noted f visited = after_from f false [] visited

-- the notes of all lines are those of each
step_at : (ls : Lines) (a : List ℕ × (ℤ → Bool) → Bool × List ℤ) (x : ℤ) → note_all (map a ls) (map (λ l. l.1 x) ls) x ≡ map (λ l. note (a l) (l.1 x) x) ls
step_at [] a x = refl
step_at (l ∷ ls) a x = ap (λ t. note (a l) (l.1 x) x ∷ t) (step_at ls a x)

walk_at : (ls : Lines) (a : List ℕ × (ℤ → Bool) → Bool × List ℤ) (vs : List ℤ) → walk_lines ls (map a ls) vs ≡ map (λ l. fold (λ s x. note s (l.1 x) x) (a l) vs) ls
unfolding values_at
walk_at ls a [] = refl
walk_at ls a (v ∷ vs) = ap (λ t. walk_lines ls t vs) (step_at ls a v) ∙ walk_at ls (λ l. note (a l) (l.1 v) v) vs

pub walk_is_each : (ls : Lines) (vs : List ℤ) → walk_lines ls (no_notes ls) vs ≡ map (λ l. after_visits l.1 vs) ls
walk_is_each ls vs = walk_at ls (λ _. (false, [])) vs

rest_on : (l : List ℕ × (ℤ → Bool)) (part : Lines) (x y : ℤ) → at (l ∷ part) x ≡ at (l ∷ part) y → at part x ≡ at part y
rest_on l part x y e = cc

-- each line's noted numbers make its runs
each_runs : (part : Lines) (visited lits : List ℤ) → IsWalk least greatest lits visited
    → ((x : ℤ) → x ≤ℤ greatest → has int_cmp lits x ≡ false → at part x ≡ at part (x -ℤ pos 1))
    → map (λ l. from_cuts greatest (after_visits l.1 visited).1) part ≡ map (λ l. i64_runs l.1) part
unfolding i64_runs
each_runs [] visited lits w h = refl
each_runs (l ∷ part) visited lits w h =
    let between : IsConstantBetween l.1 greatest least w.later = λ x p q e. line_value (l ∷ part) 0 l x (x -ℤ pos 1) refl (h x q (w.complete x p q e)) in
    let one : from_cuts greatest (numbers_noted false l.1 (least ∷ w.later)) ≡ runs l.1 least 18446744073709551615 = noted_are_runs l.1 least greatest 18446744073709551615 w.later width w.ascending between in
    let two : from_cuts greatest (after_visits l.1 visited).1 ≡ runs l.1 least 18446744073709551615 = rw (after_visits_noted l.1 visited, w.begins) one in
    let rest = each_runs part visited lits w (λ x q e. rest_on l part x (x -ℤ pos 1) (h x q e)) in
    cc

pub walk_gives_runs : (text : List ℕ) (visited : List ℤ) → IsWalk least greatest (literal_cuts text) visited
    → map (λ (n : Bool × List ℤ). from_cuts greatest n.1) (walk_lines (named_lines text) (no_notes (named_lines text)) visited) ≡ map (λ l. i64_runs l.1) (named_lines text)
walk_gives_runs text visited w =
    rw (walk_is_each (named_lines text) visited) (rw (map-map (λ (n : Bool × List ℤ). from_cuts greatest n.1) (λ (l : List ℕ × (ℤ → Bool)). after_visits l.1 visited) (named_lines text)) (each_runs (named_lines text) visited (literal_cuts text) w (λ x q e. changes_at_literals text x q e)))

-- and ascend
noted_in_walk : (ls : Lines) (visited lits : List ℤ) → IsWalk least greatest lits visited → AllByRecursion (λ (n : Bool × List ℤ). IsAscending least greatest n.1) (map (λ l. after_visits l.1 visited) ls)
noted_in_walk [] visited lits w = tt
noted_in_walk (l ∷ ls) visited lits w =
    (rw (after_visits_noted l.1 visited, w.begins) (noted_ascends false l.1 least greatest (least ∷ w.later) (omega (arith, ints), omega (arith, ints, width), w.ascending)), noted_in_walk ls visited lits w)

pub walk_ascends : (ls : Lines) (visited lits : List ℤ) → IsWalk least greatest lits visited → AllByRecursion (λ (n : Bool × List ℤ). IsAscending least greatest n.1) (walk_lines ls (no_notes ls) visited)
walk_ascends ls visited lits w = rw (walk_is_each ls visited) (noted_in_walk ls visited lits w)

-- the least number and the cuts above it are a walk past all numbers that the cuts have
pub visits_walk : (cuts all visited : List ℤ) → IsAscending least greatest cuts → ((x : ℤ) → has int_cmp cuts x ≡ has int_cmp all x)
    → visited ≡ least ∷ filter (λ c. int_lt least c) cuts → IsWalk least greatest all visited
visits_walk cuts all visited a same e = record {
  later = filter (λ c. int_lt least c) cuts;
  begins = e;
  ascending = above least greatest cuts a;
  complete = λ x p q h. sym (same x) ∙ dropped (has int_cmp cuts x) (int_lt least x) (lt_yes least x p) (sym (has_filter (λ c. int_lt least c) cuts x) ∙ h);
}
  where
    dropped : (a b : Bool) → b ≡ true → (a && b) ≡ false → a ≡ false
    dropped true b e h = absurd (cc)
    dropped false b e h = refl

    above : (lo hi : ℤ) (cs : List ℤ) → IsAscending lo hi cs → IsAscending (least +ℤ pos 1) hi (filter (λ c. int_lt least c) cs)
    above lo hi [] a = tt
    above lo hi (c ∷ cs) a = by_lt_z least c
        (λ k. rw (lt_yes least c k) (omega (arith, ints), a.1, filter_ascends (c +ℤ pos 1) hi (λ d. int_lt least d) cs a.2))
        (λ k. rw (lt_no least c k) (above (c +ℤ pos 1) hi cs a.2))

-- ---- the walk over places is the walk over numbers

places_walk : (compiled : List (List Step)) (ls : Lines) (p : ℕ) (ss : List (Bool × List ℤ)) (vs : List ℤ)
    → ((i : ℕ) → i < length vs → values_of compiled (p + i) ≡ values_at ls (get_or vs i (pos 0))) → walk_places (values_of compiled) p ss vs ≡ walk_lines ls ss vs
places_walk compiled ls p ss [] h = refl
places_walk compiled ls p ss (v ∷ vs) h =
    let a : p + 0 ≡ p = omega arith in
    let here : values_of compiled p ≡ values_at ls v = rw a at (h 0 (omega arith)) in
    places_walk compiled ls (p + 1) (note_all ss (values_of compiled p) v) vs (λ i k. later i k) ∙ ap (λ (b : List Bool). walk_lines ls (note_all ss b v) vs) here
  where
    later : (i : ℕ) → i < length vs → values_of compiled ((p + 1) + i) ≡ values_at ls (get_or vs i (pos 0))
    later i k = let b : p + suc i ≡ (p + 1) + i = omega arith in rw b at (h (suc i) (omega arith))

no_notes_alike : {A B : Type 0} (as' : List A) (bs : List B) → length as' ≡ length bs → no_notes as' ≡ no_notes bs
no_notes_alike [] [] e = refl
no_notes_alike [] (b ∷ bs) e = absurd (omega arith)
no_notes_alike (a ∷ as') [] e = absurd (omega arith)
no_notes_alike (a ∷ as') (b ∷ bs) e = ap (λ t. (false, []) ∷ t) (no_notes_alike as' bs (omega arith))

as_many : (compiled : List (List Step)) (ls : Lines) (visited : List ℤ) → 0 < length visited → IsCompiled visited ls compiled → length compiled ≡ length ls
unfolding values_at
as_many compiled ls visited k h =
    let a = ap length (h 0 k) in
    let b = length_values 0 [] compiled in
    let d = length-map ls (λ (l : List ℕ × (ℤ → Bool)). l.1 (get_or visited 0 (pos 0))) in
    omega (arith, a, b, d)

-- what a walk over the places notes of each line makes the runs of the line
pub places_give_runs : (text : List ℕ) (compiled : List (List Step)) (visited : List ℤ) → IsWalk least greatest (literal_cuts text) visited → IsCompiled visited (named_lines text) compiled
    → map (λ (n : Bool × List ℤ). from_cuts greatest n.1) (walk_places (values_of compiled) 0 (no_notes compiled) visited) ≡ map (λ l. i64_runs l.1) (named_lines text)
places_give_runs text compiled visited w h =
    let some : 0 < length visited = rw w.begins (omega arith) in
    let e : walk_places (values_of compiled) 0 (no_notes compiled) visited ≡ walk_lines (named_lines text) (no_notes compiled) visited =
    places_walk compiled (named_lines text) 0 (no_notes compiled) visited (λ i k. let z : 0 + i ≡ i = omega arith in rw z (h i k)) in
    rw (e, no_notes_alike compiled (named_lines text) (as_many compiled (named_lines text) visited some h)) (walk_gives_runs text visited w)

-- the visited numbers ascend
pub walk_rises : (lits visited : List ℤ) → IsWalk least greatest lits visited → IsAscending least greatest visited
walk_rises lits visited w = rw w.begins (omega (arith, ints), omega (arith, ints, width), w.ascending)

-- and so do those noted of each line
pub places_ascend : (text : List ℕ) (compiled : List (List Step)) (visited : List ℤ) → IsWalk least greatest (literal_cuts text) visited → IsCompiled visited (named_lines text) compiled
    → AllByRecursion (λ (n : Bool × List ℤ). IsAscending least greatest n.1) (walk_places (values_of compiled) 0 (no_notes compiled) visited)
places_ascend text compiled visited w h =
    let some : 0 < length visited = rw w.begins (omega arith) in
    let e : walk_places (values_of compiled) 0 (no_notes compiled) visited ≡ walk_lines (named_lines text) (no_notes compiled) visited =
    places_walk compiled (named_lines text) 0 (no_notes compiled) visited (λ i k. let z : 0 + i ≡ i = omega arith in rw z (h i k)) in
    rw (e, no_notes_alike compiled (named_lines text) (as_many compiled (named_lines text) visited some h)) (walk_ascends (named_lines text) visited (literal_cuts text) w)

pub walk_some : (lits visited : List ℤ) → IsWalk least greatest lits visited → 0 < length visited
walk_some lits visited w = rw w.begins (omega arith)
