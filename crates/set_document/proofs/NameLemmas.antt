-- Where the names of lines stand last, and what is found there.
use Rattle.std.proofs.Common.{◌≡◌, ℕ, zero, suc, ◌<◌, ◌≤◌, Bool, true, false, List, [], ◌∷◌, ◌++◌, length, slice_get, get_or, Option, Some, None, is_some, refl, sym, ap, ◌∙◌, arith}
use Rattle.std.specs.Prelude.{ℤ, if◌then◌else◌, fold, bytes_eq, option_map, map, ◌||◌}
use Rattle.std.specs.List.{list_any, AllByRecursion}
use Rattle.std.specs.declared.cmp.Ordering.{Ordering}
use Rattle.std.specs.declared.cmp.Ordering.TheVariants.{Less, Equal, Greater}
use Rattle.std.specs.Cmp.{unsigned_ties}
use Rattle.std.specs.Cmp.Lexicographic.{lists_ties, nat_list_cmp_total}
use Rattle.std.specs.Ordering.{match_ordering, nat_cmp, is_eq, ordering_reverse}
use Rattle.std.specs.List.Sorted.{IsStrictlySortedBy}
use Rattle.std.proofs.lemmas.List.{map-append, length-map}
use Rattle.std.proofs.lemmas.List.Elements.{All-push}
use Rattle.std.proofs.lemmas.List.Sums.{fold-append}
use Rattle.std.proofs.lemmas.Slice.Eq.{bytes_eq-Decides}
use Rattle.number_line.specs.Ranges.{holds, IsCanonical}
use Rattle.ordered_lists.specs.Lists.{to_key, find, put, add}
use Rattle.ordered_lists.proofs.PlaceLemmas.{greater_less, equal_back, below_all, level_all}
use Rattle.ordered_lists.proofs.WalkLemmas.{ascends-add}
use Rattle.ordered_lists.proofs.SearchLemmas.{get_is}
use Rattle.set_document.specs.Truth.{at, latest}
use Rattle.set_document.specs.Words.{letters}
use Rattle.set_document.specs.Indexed.{AreIndexed}
use Rattle.set_document.specs.Lines.{line_lists_of, lines_of, names_of, AllCanonical}
use Rattle.set_document.specs.Numbers.{least, greatest}
use Rattle.set_document.specs.Names.{last_place, bytes_cmp, name_cmp, distinct_names, IsIndex}
use Rattle.set_document.specs.declared.named_lines.Line.{Line}
use Rattle.set_document.specs.declared.word.Name.{Name}

-- one more name behind the others
pub last_place_behind : (names : List (List ℕ)) (n name : List ℕ) → last_place (names ++ n ∷ []) name ≡ (if bytes_eq n name then Some (length names) else last_place names name)
last_place_behind [] n name = refl
last_place_behind (m ∷ names) n name = go (bytes_eq n name) (last_place_behind names n name)
  where
    go : (b : Bool) → last_place (names ++ n ∷ []) name ≡ (if b then Some (length names) else last_place names name)
        → last_place (m ∷ names ++ n ∷ []) name ≡ (if b then Some (suc (length names)) else last_place (m ∷ names) name)
    go true e = rw e refl
    go false e = rw e refl

pub known_where_placed : (names : List (List ℕ)) (name : List ℕ) → list_any (λ n. bytes_eq n name) names ≡ is_some {T = ℕ} (last_place names name)
known_where_placed [] name = refl
known_where_placed (n ∷ names) name = rw (known_where_placed names name) (go (last_place names name) (bytes_eq n name))
  where
    go : (r : Option ℕ) (b : Bool) → (b || is_some {T = ℕ} r) ≡ is_some {T = ℕ} (elim r [ Some i ↦ Some (suc i) | None ↦ if b then Some 0 else None ])
    go (Some i) true = refl
    go (Some i) false = refl
    go None true = refl
    go None false = refl

pub place_in_range : (names : List (List ℕ)) (name : List ℕ) (i : ℕ) → last_place names name ≡ Some i → i < length names
place_in_range [] name i e = cc
place_in_range (n ∷ names) name i e = go (last_place names name) (bytes_eq n name) (place_in_range names name) e
  where
    go : (r : Option ℕ) (b : Bool) → ((j : ℕ) → r ≡ Some j → j < length names) → elim r [ Some j ↦ Some (suc j) | None ↦ if b then Some 0 else None ] ≡ Some i → i < suc (length names)
    go (Some j) b f h = let k : suc j ≡ i = cc in let l = f j refl in omega arith
    go None true f h = let k : zero ≡ i = cc in omega arith
    go None false f h = cc

-- what the line at a place gives at x, or what was found before where there is no place
abbrev value_from : ℤ → List (List ℕ × List (ℤ × ℤ)) → Option Bool → Option ℕ → Option Bool
value_from x lines before (Some i) = option_map (λ (line : List ℕ × List (ℤ × ℤ)). holds line.1 x) (slice_get lines i)
value_from x lines before None = before

found_from : (x : ℤ) (lines : List (List ℕ × List (ℤ × ℤ))) (name : List ℕ) (before : Option Bool)
    → fold (λ found line. if bytes_eq line.0 name then Some line.1 else found) before (at (lines_of lines) x) ≡ value_from x lines before (last_place (names_of lines) name)
found_from x [] name before = refl
found_from x (l ∷ lines) name before = found_from x lines name _ ∙ go (last_place (names_of lines) name) (bytes_eq l.0 name)
  where
    go : (r : Option ℕ) (b : Bool) → value_from x lines (if b then Some (holds l.1 x) else before) r
        ≡ value_from x (l ∷ lines) before (elim r [ Some i ↦ Some (suc i) | None ↦ if b then Some 0 else None ])
    go (Some i) b = refl
    go None true = refl
    go None false = refl

-- the latest line of a name gives what the line at its last place gives
pub latest_is_placed : (x : ℤ) (lines : List (List ℕ × List (ℤ × ℤ))) (name : List ℕ) → latest (at (lines_of lines) x) name ≡ value_from x lines None (last_place (names_of lines) name)
latest_is_placed x lines name = found_from x lines name None

-- names that compare as equal have the same bytes
pub same_names : (a b : Name) → bytes_eq (letters a) (letters b) ≡ is_eq (name_cmp a b)
same_names a b = lists_ties nat_cmp unsigned_ties (letters a) (letters b)

apart : (p k n : Name) → name_cmp p k ≡ Less → is_eq (name_cmp p n) ≡ true → bytes_eq (letters k) (letters n) ≡ false
apart p k n less equal = go (bytes_eq (letters k) (letters n)) refl
  where
    go : (b : Bool) → bytes_eq (letters k) (letters n) ≡ b → b ≡ false
    go false e = refl
    go true e =
        let kn = (bytes_eq-Decides (letters k) (letters n)).0 e in
        let pn = (bytes_eq-Decides (letters p) (letters n)).0 (same_names p n ∙ equal) in
        let pk = (bytes_eq-Decides (letters p) (letters k)).1 (pn ∙ sym kn) in
        let no = sym pk ∙ (same_names p k ∙ ap is_eq less) in
        absurd cc

-- what is found at a name once a value has been put at another
pub found_once_put : (pairs : List (Name × ℕ)) (k : Name) (v : ℕ) (n : Name)
    → option_map (λ (p : Name × ℕ). p.1) (find (to_key name_cmp) (put name_cmp pairs k v) n) ≡ (if bytes_eq (letters k) (letters n) then Some v else option_map (λ (p : Name × ℕ). p.1) (find (to_key name_cmp) pairs n))
found_once_put [] k v n = rw (same_names k n) (go (is_eq (name_cmp k n)))
  where
    go : (b : Bool) → option_map (λ (p : Name × ℕ). p.1) (if b then Some (k, v) else None) ≡ (if b then Some v else None)
    go true = refl
    go false = refl
found_once_put (p ∷ pairs) k v n = go (found_once_put pairs k v n) (name_cmp p.0 k) refl
  where
    go : option_map (λ (p : Name × ℕ). p.1) (find (to_key name_cmp) (put name_cmp pairs k v) n) ≡ (if bytes_eq (letters k) (letters n) then Some v else option_map (λ (p : Name × ℕ). p.1) (find (to_key name_cmp) pairs n))
        → (r : Ordering) → name_cmp p.0 k ≡ r
        → option_map (λ (p : Name × ℕ). p.1) (find (to_key name_cmp) (match_ordering r (p ∷ put name_cmp pairs k v) ((p.0, v) ∷ pairs) ((k, v) ∷ p ∷ pairs)) n)
        ≡ (if bytes_eq (letters k) (letters n) then Some v else option_map (λ (p : Name × ℕ). p.1) (find (to_key name_cmp) (p ∷ pairs) n))
    go later Less e = less (is_eq (name_cmp p.0 n)) refl
      where
        less : (b : Bool) → is_eq (name_cmp p.0 n) ≡ b → option_map (λ (p : Name × ℕ). p.1) (if b then Some p else find (to_key name_cmp) (put name_cmp pairs k v) n)
            ≡ (if bytes_eq (letters k) (letters n) then Some v else option_map (λ (p : Name × ℕ). p.1) (if b then Some p else find (to_key name_cmp) pairs n))
        less true h = rw (apart p.0 k n e h) refl
        less false h = later
    go later Equal e =
        let pk = (bytes_eq-Decides (letters p.0) (letters k)).0 (same_names p.0 k ∙ ap is_eq e) in
        let pn : is_eq (name_cmp p.0 n) ≡ bytes_eq (letters k) (letters n) = sym (same_names p.0 n) ∙ ap (λ l. bytes_eq l (letters n)) pk in
        rw pn (equal (bytes_eq (letters k) (letters n)))
      where
        equal : (b : Bool) → option_map (λ (p : Name × ℕ). p.1) (if b then Some (p.0, v) else find (to_key name_cmp) pairs n)
            ≡ (if b then Some v else option_map (λ (p : Name × ℕ). p.1) (if b then Some p else find (to_key name_cmp) pairs n))
        equal true = refl
        equal false = refl
    go later Greater e = rw (same_names k n) (greater (is_eq (name_cmp k n)))
      where
        greater : (b : Bool) → option_map (λ (p : Name × ℕ). p.1) (if b then Some (k, v) else find (to_key name_cmp) (p ∷ pairs) n) ≡ (if b then Some v else option_map (λ (p : Name × ℕ). p.1) (find (to_key name_cmp) (p ∷ pairs) n))
        greater true = refl
        greater false = refl

-- ---- the names in order

-- a name with what a look-up gives, and a pair of a name and a place, as bytes
abbrev pub with_place : (List ℕ → Option ℕ) → List ℕ → List ℕ × Option ℕ
with_place last n = (n, last n)

abbrev pub in_bytes : Name × ℕ → List ℕ × Option ℕ
in_bytes p = (letters p.0, Some p.1)

-- names that aren't the one put keep their places
others_stay : (k : List ℕ) (v : ℕ) (last next : List ℕ → Option ℕ) → ((n : List ℕ) → next n ≡ (if bytes_eq k n then Some v else last n))
    → (ds : List (List ℕ)) → AllByRecursion (λ d. bytes_cmp k d ≡ Less) ds → map (with_place last) ds ≡ map (with_place next) ds
others_stay k v last next h [] all = refl
others_stay k v last next h (d ∷ ds) all =
    let apart : bytes_eq k d ≡ false = lists_ties nat_cmp unsigned_ties k d ∙ ap is_eq all.0 in
    let one : last d ≡ next d = sym (h d ∙ ap (λ b. if b then Some v else last d) apart) in
    let rest : map (with_place last) ds ≡ map (with_place next) ds = others_stay k v last next h ds all.1 in
    λ i. (d, one i) ∷ rest i

-- a name put among names in order, and its place
put_in_order : (k : Name) (v : ℕ) (last next : List ℕ → Option ℕ) → ((n : List ℕ) → next n ≡ (if bytes_eq (letters k) n then Some v else last n))
    → (pairs : List (Name × ℕ)) (ds : List (List ℕ)) → IsStrictlySortedBy bytes_cmp ds
    → map in_bytes pairs ≡ map (with_place last) ds
    → map in_bytes (put name_cmp pairs k v) ≡ map (with_place next) (add bytes_cmp ds (letters k))
unfolding IsStrictlySortedBy
put_in_order k v last next h [] [] sorted e =
    let itself = (bytes_eq-Decides (letters k) (letters k)).1 refl in
    let here : next (letters k) ≡ Some v = h (letters k) ∙ ap (λ b. if b then Some v else last (letters k)) itself in
    λ i. (letters k, sym here i) ∷ []
put_in_order k v last next h [] (d ∷ ds) sorted e = absurd cc
put_in_order k v last next h (p ∷ pairs) [] sorted e = absurd cc
put_in_order k v last next h (p ∷ pairs) (d ∷ ds) sorted e =
    let head : in_bytes p ≡ with_place last d = cc in
    let first : letters p.0 ≡ d = ap (λ (r : List ℕ × Option ℕ). r.0) head in
    let place : Some p.1 ≡ last d = ap (λ (r : List ℕ × Option ℕ). r.1) head in
    let rest : map in_bytes pairs ≡ map (with_place last) ds = cc in
    go first place rest (put_in_order k v last next h pairs ds sorted.1 rest) (name_cmp p.0 k) refl
  where
    go : letters p.0 ≡ d → Some p.1 ≡ last d → map in_bytes pairs ≡ map (with_place last) ds
        → map in_bytes (put name_cmp pairs k v) ≡ map (with_place next) (add bytes_cmp ds (letters k))
        → (r : Ordering) → name_cmp p.0 k ≡ r
        → map in_bytes (match_ordering r (p ∷ put name_cmp pairs k v) ((p.0, v) ∷ pairs) ((k, v) ∷ p ∷ pairs))
        ≡ map (with_place next) (match_ordering (bytes_cmp d (letters k)) (d ∷ add bytes_cmp ds (letters k)) (d ∷ ds) (letters k ∷ d ∷ ds))
    go first place rest later Less r =
        let less : bytes_cmp d (letters k) ≡ Less = ap (λ l. bytes_cmp l (letters k)) (sym first) ∙ r in
        let greater : bytes_cmp (letters k) d ≡ Greater = nat_list_cmp_total.antisymm (letters k) d ∙ ap ordering_reverse less in
        let apart : bytes_eq (letters k) d ≡ false = lists_ties nat_cmp unsigned_ties (letters k) d ∙ ap is_eq greater in
        let here : Some p.1 ≡ next d = place ∙ sym (h d ∙ ap (λ b. if b then Some v else last d) apart) in
        rw less (λ i. (first i, here i) ∷ later i)
    go first place rest later Equal r =
        let level : bytes_cmp d (letters k) ≡ Equal = ap (λ l. bytes_cmp l (letters k)) (sym first) ∙ r in
        let back : bytes_cmp (letters k) d ≡ Equal = equal_back nat_list_cmp_total d (letters k) level in
        let one : bytes_eq (letters k) d ≡ true = lists_ties nat_cmp unsigned_ties (letters k) d ∙ ap is_eq back in
        let here : Some v ≡ next d = sym (h d ∙ ap (λ b. if b then Some v else last d) one) in
        let above = level_all nat_list_cmp_total (letters k) d ds back sorted.0 in
        let stay = rest ∙ others_stay (letters k) v last next h ds above in
        rw level (λ i. (first i, here i) ∷ stay i)
    go first place rest later Greater r =
        let greater : bytes_cmp d (letters k) ≡ Greater = ap (λ l. bytes_cmp l (letters k)) (sym first) ∙ r in
        let less : bytes_cmp (letters k) d ≡ Less = greater_less nat_list_cmp_total d (letters k) greater in
        let itself = (bytes_eq-Decides (letters k) (letters k)).1 refl in
        let here : Some v ≡ next (letters k) = sym (h (letters k) ∙ ap (λ b. if b then Some v else last (letters k)) itself) in
        let above : AllByRecursion (λ x. bytes_cmp (letters k) x ≡ Less) (d ∷ ds) = (less, below_all nat_list_cmp_total (letters k) d ds less sorted.0) in
        let both : in_bytes p ∷ map in_bytes pairs ≡ with_place last d ∷ map (with_place last) ds = λ i. (first i, place i) ∷ rest i in
        let stay = both ∙ others_stay (letters k) v last next h (d ∷ ds) above in
        rw greater (λ i. (letters k, here i) ∷ stay i)

-- the distinct names of one more
distinct_behind : (names : List (List ℕ)) (n : List ℕ) → distinct_names (names ++ n ∷ []) ≡ add bytes_cmp (distinct_names names) n
distinct_behind names n = fold-append (add bytes_cmp) [] names (n ∷ [])

ascends_from : (ds names : List (List ℕ)) → IsStrictlySortedBy bytes_cmp ds → IsStrictlySortedBy bytes_cmp (fold (add bytes_cmp) ds names)
ascends_from ds [] h = h
ascends_from ds (n ∷ names) h = ascends_from (add bytes_cmp ds n) names (ascends-add nat_list_cmp_total ds n h)

pub distinct_ascends : (names : List (List ℕ)) → IsStrictlySortedBy bytes_cmp (distinct_names names)
unfolding IsStrictlySortedBy
distinct_ascends names = ascends_from [] names tt

-- the index of one more name
pub indexed_behind : (names : List (List ℕ)) (pairs : List (Name × ℕ)) (k : Name) → IsIndex names pairs → IsIndex (names ++ letters k ∷ []) (put name_cmp pairs k (length names))
indexed_behind names pairs k h = record {
  finds = λ n.
      found_once_put pairs k (length names) n ∙ (ap (λ r. if bytes_eq (letters k) (letters n) then Some (length names) else r) (h.finds n)
      ∙ sym (last_place_behind names (letters k) (letters n)));
  lists =
      put_in_order k (length names) (last_place names) (last_place (names ++ letters k ∷ [])) (last_place_behind names (letters k)) pairs (distinct_names names) (distinct_ascends names) h.lists
      ∙ ap (map (with_place (last_place (names ++ letters k ∷ [])))) (sym (distinct_behind names (letters k)));
}

-- ---- what a look-up finds

module _ (lines : List (List ℕ × List (ℤ × ℤ))) (name : List ℕ) where
  -- no place, and so no line
  pub nothing_latest : (x : ℤ) → last_place (names_of lines) name ≡ None → None ≡ latest (at (lines_of lines) x) name
  nothing_latest x e = sym (latest_is_placed x lines name ∙ ap (value_from x lines None) e)

  pub nothing_known : last_place (names_of lines) name ≡ None → false ≡ list_any (λ n. bytes_eq n name) (names_of lines)
  nothing_known e = sym (known_where_placed (names_of lines) name ∙ ap (is_some {T = ℕ}) e)

  -- a place, and the line there
  pub something_latest : (x : ℤ) (i : ℕ) (line : List ℕ × List (ℤ × ℤ)) → last_place (names_of lines) name ≡ Some i → line ≡ get_or lines i line
      → Some (holds line.1 x) ≡ latest (at (lines_of lines) x) name
  something_latest x i line e f =
      let within = place_in_range (names_of lines) name i e in
      let there : slice_get lines i ≡ Some line = get_is lines i line (omega (arith, within, length-map lines (λ (l : List ℕ × List (ℤ × ℤ)). l.0))) f in
      sym (latest_is_placed x lines name ∙ (ap (value_from x lines None) e ∙ ap (option_map (λ (l : List ℕ × List (ℤ × ℤ)). holds l.1 x)) there))

  pub something_known : (i : ℕ) → last_place (names_of lines) name ≡ Some i → true ≡ list_any (λ n. bytes_eq n name) (names_of lines)
  something_known i e = sym (known_where_placed (names_of lines) name ∙ ap (is_some {T = ℕ}) e)

  -- there is a line at each place
  pub line_at_place : (i : ℕ) → last_place (names_of lines) name ≡ Some i → length lines ≤ i → ⊥
  line_at_place i e h = let within = place_in_range (names_of lines) name i e in omega (arith, within, length-map lines (λ (l : List ℕ × List (ℤ × ℤ)). l.0))

-- the index and the lines once a line stands behind the others
pub lines_pushed : (lines : List Line) (line : Line) → line_lists_of (lines ++ line ∷ []) ≡ line_lists_of lines ++ (letters line.name, line.set) ∷ []
lines_pushed lines line = map-append (λ (l : Line). (letters l.name, l.set)) lines (line ∷ [])

all_pushed : (lines : List (List ℕ × List (ℤ × ℤ))) (l : List ℕ × List (ℤ × ℤ)) → AllCanonical lines → IsCanonical least greatest l.1
    → AllCanonical (lines ++ l ∷ [])
all_pushed lines l all one = All-push (λ (k : List ℕ × List (ℤ × ℤ)). IsCanonical least greatest k.1) lines l all one

pub pushed_indexed : (lines : List Line) (pairs : List (Name × ℕ)) (line : Line) (place : ℕ) → place ≡ length lines
    → IsCanonical least greatest line.set → AreIndexed (line_lists_of lines) pairs
    → AreIndexed (line_lists_of (lines ++ line ∷ [])) (put name_cmp pairs line.name place)
pushed_indexed lines pairs line place e c h =
    let shown = line_lists_of lines in
    let grown : names_of (shown ++ (letters line.name, line.set) ∷ []) ≡ names_of shown ++ letters line.name ∷ [] =
    map-append (λ (l : List ℕ × List (ℤ × ℤ)). l.0) shown ((letters line.name, line.set) ∷ []) in
    let as_many : length shown ≡ length lines = length-map {B = List ℕ × List (ℤ × ℤ)} lines (λ (l : Line). (letters l.name, l.set)) in
    let many : place ≡ length (names_of shown) = omega (arith, e, as_many, length-map shown (λ (l : List ℕ × List (ℤ × ℤ)). l.0)) in
    rw (lines_pushed lines line) (record {
      indexed = rw (grown, many) (indexed_behind (names_of shown) pairs line.name h.indexed);
      canonical = all_pushed shown (letters line.name, line.set) h.canonical c;
    })

-- the line at a place, as its name and its ranges
pub line_at : (lines : List Line) (i : ℕ) (line : Line) → line ≡ get_or lines i line
    → ◌≡◌ {A = List ℕ × List (ℤ × ℤ)} (letters line.name, line.set) (get_or (line_lists_of lines) i (letters line.name, line.set))
line_at [] i line e = refl
line_at (l ∷ lines) zero line e = ap (λ (k : Line). (letters k.name, k.set)) e
line_at (l ∷ lines) (suc i) line e = line_at lines i line e
