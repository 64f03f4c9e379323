-- Lists of ranges with values whose values are written, of which some pairs are kept, and whose touching ranges with the same value are joined.
use Rattle.std.proofs.Common.{◌≡◌, ℕ, zero, suc, ◌+◌, ◌<◌, ◌≤◌, Bool, true, false, List, [], ◌∷◌, ◌++◌, length, get_or, take, drop, set, map, refl, ap, sym, ◌∙◌, arith, append_assoc}
use Rattle.std.specs.Prelude.{ℤ, pos, ◌+ℤ◌, ◌≤ℤ◌, ◌<ℤ◌}
use Rattle.std.specs.Bool.{MatchBool}
use Rattle.std.specs.List.{fold, items_where_true, swap}
use Rattle.std.specs.List.Retain.{RetainsInTurn, ReturnsInTurn, IsFiltered, DedupsFrom, DedupsAll}
use Rattle.std.proofs.lemmas.Int.{ints}
use Rattle.std.proofs.lemmas.List.{take_more_set, drop-set-lt, length-set, length-map}
use Rattle.element_core.specs.Numbering.{Numbering}
use Rattle.number_line.specs.Answered.{IsAnswered}
use Rattle.number_line.specs.Merged.{goes_on, longer, put_behind, merged}
use Rattle.number_line.specs.Valued.{StopsBefore, IsCanonicalMap}
use Rattle.number_line.proofs.AnsweredLemmas.{IsAnsweredSoFar, answered_start, answered_step, answered_all}
use Rattle.number_line.proofs.MergedLemmas.{put_behind-last}
use Rattle.number_line.proofs.ValuedLemmas.{canonical-lower}
use Rattle.ordered_lists.proofs.RetainLemmas.{HasComeTo, passes, fails, head_is, same_set}
use Rattle.range_map.specs.Range.{IsRange}
use Rattle.range_map.specs.Valued.{pair_in_numbers, pairs_in_numbers, AreValuedRanges, IsMap}
use Rattle.range_map.proofs.DividedLemmas.{valued-push}
use Rattle.range_map.proofs.GrowthLemmas.{in_numbers-push}

-- ---- joined

module _ {T V : Type 0} (numbers : Numbering T) (same : V → V → Bool) where
  -- the pair k, beside which the next pair x was seen, became l, and the answer is b
  pub record IsJoinTurn (x k : (T × T) × V) (b : Bool) (y l : (T × T) × V) : Type 0 where
    pub next : y ≡ x
    pub goes_on : b ≡ goes_on same (pair_in_numbers numbers k) (pair_in_numbers numbers x)
    pub range : IsRange numbers l.0
    pub joined : MatchBool b (pair_in_numbers numbers l ≡ longer (pair_in_numbers numbers k) (pair_in_numbers numbers x)) (l ≡ k)

  module _ {S : Type 0} (R : S → (T × T) × V → (T × T) × V → Bool → S → (T × T) × V → (T × T) × V → Type 0)
      (says : (s : S) (x k : (T × T) × V) (b : Bool) (t : S) (y l : (T × T) × V) → R s x k b t y l → IsJoinTurn x k b y l) where
    joined_from : (s : S) (k : (T × T) × V) (xs ys : List ((T × T) × V)) (done : List ((ℤ × ℤ) × V)) → DedupsFrom R s k xs ys
        → fold (put_behind same) (done ++ pair_in_numbers numbers k ∷ []) (pairs_in_numbers numbers xs) ≡ done ++ pairs_in_numbers numbers ys
    joined_from s k [] ys done d = rw d refl
    joined_from s k (x ∷ xs) ys done (true, t, y, l, r, d) =
        let turn = says s x k true t y l r in
        let on : goes_on same (pair_in_numbers numbers k) (pair_in_numbers numbers x) ≡ true = sym turn.goes_on in
        let put = put_behind-last same done (pair_in_numbers numbers k) (pair_in_numbers numbers x) in
        let one : put_behind same (done ++ pair_in_numbers numbers k ∷ []) (pair_in_numbers numbers x) ≡ done ++ pair_in_numbers numbers l ∷ [] =
        rw turn.joined (rw on at put) in
        ap (λ list. fold (put_behind same) list (pairs_in_numbers numbers xs)) one ∙ joined_from t l xs ys done d
    joined_from s k (x ∷ xs) ys done (false, t, y, l, r, (zs, d, is)) =
        let turn = says s x k false t y l r in
        let off : goes_on same (pair_in_numbers numbers k) (pair_in_numbers numbers x) ≡ false = sym turn.goes_on in
        let put = put_behind-last same done (pair_in_numbers numbers k) (pair_in_numbers numbers x) in
        let one : put_behind same (done ++ pair_in_numbers numbers k ∷ []) (pair_in_numbers numbers x)
        ≡ (done ++ pair_in_numbers numbers k ∷ []) ++ pair_in_numbers numbers x ∷ [] =
        rw off at put ∙ sym (append_assoc done (pair_in_numbers numbers k ∷ []) (pair_in_numbers numbers x ∷ [])) in
        let rest = joined_from t x xs zs (done ++ pair_in_numbers numbers k ∷ []) (rw turn.next at d) in
        let last : done ++ pair_in_numbers numbers k ∷ pairs_in_numbers numbers zs ≡ done ++ pairs_in_numbers numbers ys = rw (is, turn.joined) refl in
        ap (λ list. fold (put_behind same) list (pairs_in_numbers numbers xs)) one
        ∙ (rest ∙ (append_assoc done (pair_in_numbers numbers k ∷ []) (pairs_in_numbers numbers zs) ∙ last))

    ranges_from : (s : S) (k : (T × T) × V) (xs ys : List ((T × T) × V)) → IsRange numbers k.0 → AreValuedRanges numbers xs → DedupsFrom R s k xs ys → AreValuedRanges numbers ys
    ranges_from s k [] ys r all d = rw d (r, tt)
    ranges_from s k (x ∷ xs) ys r all (true, t, y, l, h, d) = ranges_from t l xs ys (says s x k true t y l h).range all.1 d
    ranges_from s k (x ∷ xs) ys r all (false, t, y, l, h, (zs, d, is)) =
        let turn = says s x k false t y l h in
        rw is (turn.range, ranges_from t x xs zs all.0 all.1 (rw turn.next at d))

    pub joined_list : (s : S) (xs ys : List ((T × T) × V)) → DedupsAll R s xs ys → pairs_in_numbers numbers ys ≡ merged same (pairs_in_numbers numbers xs)
    joined_list s [] ys d = rw d refl
    joined_list s (x ∷ xs) ys d = sym (joined_from s x xs ys [] d)

    pub joined_ranges : (s : S) (xs ys : List ((T × T) × V)) → AreValuedRanges numbers xs → DedupsAll R s xs ys → AreValuedRanges numbers ys
    joined_ranges s [] ys all d = rw d tt
    joined_ranges s (x ∷ xs) ys all d = ranges_from s x xs ys all.0 all.1 d

-- ---- written

take-past : {A : Type 0} (n : ℕ) (xs : List A) → length xs ≤ n → take n xs ≡ xs
take-past zero [] h = refl
take-past (suc n) [] h = refl
take-past zero (x ∷ xs) h = absurd (omega arith)
take-past (suc n) (x ∷ xs) h = ap (λ l. x ∷ l) (take-past n xs (omega arith))

drop-past : {A : Type 0} (n : ℕ) (xs : List A) → length xs ≤ n → drop n xs ≡ []
drop-past zero [] h = refl
drop-past (suc n) [] h = refl
drop-past zero (x ∷ xs) h = absurd (omega arith)
drop-past (suc n) (x ∷ xs) h = drop-past n xs (omega arith)

module _ {T V F : Type 0} (numbers : Numbering T) (step : F → V → V → F → Type 0) where
  -- the values of xs were written up to place `at`
  pub record IsWrittenTo (f0 : F) (xs : List ((T × T) × V)) (f : F) (ys : List ((T × T) × V)) (at : ℕ) : Type 0 where
    pub len : length ys ≡ length xs
    pub rest : drop at ys ≡ drop at xs
    pub ranges : AreValuedRanges numbers (take at ys)
    pub so_far : IsAnsweredSoFar step f0 f (pairs_in_numbers numbers xs) (pairs_in_numbers numbers (drop at xs)) (pairs_in_numbers numbers (take at ys))

  pub written_start : (f : F) (xs : List ((T × T) × V)) → IsWrittenTo f xs f xs 0
  written_start f xs = record { len = refl; rest = refl; ranges = tt; so_far = answered_start step f (pairs_in_numbers numbers xs) }

  pub written_step : (f0 : F) (xs : List ((T × T) × V)) (f next : F) (ys : List ((T × T) × V)) (at : ℕ) (x y : (T × T) × V) → IsWrittenTo f0 xs f ys at → at < length ys
      → x ≡ get_or ys at x → step f x.1 y.1 next → y.0 ≡ x.0 → IsRange numbers y.0 → IsWrittenTo f0 xs next (set ys at y) (at + 1)
  written_step f0 xs f next ys at x y w lt is called range r =
      let here = head_is ys xs at x lt w.len w.rest is in
      let more : take (at + 1) (set ys at y) ≡ take at ys ++ y ∷ [] = take_more_set ys at y lt in
      let pair : pair_in_numbers numbers y ≡ ((pair_in_numbers numbers x).0, y.1) = rw range refl in
      record {
        len = length-set ys at y ∙ w.len;
        rest = drop-set-lt (at + 1) ys at y (omega arith) ∙ here.rest;
        ranges = rw more (valued-push numbers (take at ys) y w.ranges r);
        so_far = answered_step step f0 f next _ _ _ _ _ (pair_in_numbers numbers x) y.1 (ap (pairs_in_numbers numbers) here.head)
            (ap (pairs_in_numbers numbers) more ∙ (in_numbers-push numbers (take at ys) y ∙ ap (λ p. pairs_in_numbers numbers (take at ys) ++ p ∷ []) pair)) called w.so_far;
      }

  pub written_end : (f0 : F) (xs : List ((T × T) × V)) (f : F) (ys : List ((T × T) × V)) (at : ℕ) → IsWrittenTo f0 xs f ys at → length ys ≤ at
      → AreValuedRanges numbers ys × IsAnswered step f0 (pairs_in_numbers numbers xs) (pairs_in_numbers numbers ys)
  written_end f0 xs f ys at w past =
      let all : take at ys ≡ ys = take-past at ys past in
      let none : drop at xs ≡ [] = drop-past at xs (omega (arith, past, w.len)) in
      (rw all at w.ranges, rw all at (answered_all step f0 f _ _ _ (ap (pairs_in_numbers numbers) none) w.so_far))

-- ---- kept

module _ {P S : Type 0} (R : S → P → Bool → S → Type 0) where
  -- a call at x, which stays as it is
  abbrev pub StaysAtCall : S → P → Bool → S → P → Type 0
  StaysAtCall s x b t y = R s x b t × (y ≡ x)

  pub filtered_in_turn : (s : S) (xs ys : List P) → RetainsInTurn StaysAtCall s xs ys → IsFiltered R s xs ys
  filtered_in_turn s [] ys r = ([], s, refl, refl, r)
  filtered_in_turn s (x ∷ xs) ys (true, t, y, h, zs, r, is) =
      let rest = filtered_in_turn t xs zs r in
      (true ∷ rest.0, rest.1, ap suc rest.2, (t, h.0, rest.3), is ∙ (ap (λ z. z ∷ zs) h.1 ∙ ap (λ l. x ∷ l) rest.4))
  filtered_in_turn s (x ∷ xs) ys (false, t, y, h, zs, r, is) =
      let rest = filtered_in_turn t xs zs r in
      (false ∷ rest.0, rest.1, ap suc rest.2, (t, h.0, rest.3), is ∙ rest.4)

  module _ (s : S) (xs : List P) (t u : S) (ys : List P) (kept at : ℕ) (x : P) (come : HasComeTo StaysAtCall s xs t ys kept at) (within : at < length ys) (is : x ≡ get_or ys at x) where
    -- x passes, and changes places with the first that didn't
    pub call_passes : R t x true u → HasComeTo StaysAtCall s xs u (swap ys kept at) (kept + 1) (at + 1)
    call_passes called =
        let here : set ys at x ≡ ys = same_set ys at x is in
        rw here at (passes StaysAtCall s xs t ys kept at x u x come within is (called, refl))

    pub call_fails : R t x false u → HasComeTo StaysAtCall s xs u ys kept (at + 1)
    call_fails called =
        let here : set ys at x ≡ ys = same_set ys at x is in
        rw here at (fails StaysAtCall s xs t ys kept at x u x come within is (called, refl))

module _ {P Q : Type 0} (view : P → Q) where
  where_true-map : (bs : List Bool) (xs : List P) → map view (items_where_true bs xs) ≡ items_where_true bs (map view xs)
  where_true-map [] xs = refl
  where_true-map (b ∷ bs) [] = refl
  where_true-map (true ∷ bs) (x ∷ xs) = ap (λ l. view x ∷ l) (where_true-map bs xs)
  where_true-map (false ∷ bs) (x ∷ xs) = where_true-map bs xs

  module _ {S : Type 0} (R : S → P → Bool → S → Type 0) (A : S → Q → Bool → S → Type 0) (seen : (s : S) (x : P) (b : Bool) (t : S) → R s x b t → A s (view x) b t) where
    turns_seen : (s : S) (bs : List Bool) (xs : List P) (t : S) → ReturnsInTurn R s bs xs t → ReturnsInTurn A s bs (map view xs) t
    turns_seen s [] xs t r = r
    turns_seen s (b ∷ bs) [] t r = absurd r
    turns_seen s (b ∷ bs) (x ∷ xs) t r = (r.0, seen s x b r.0 r.1, turns_seen r.0 bs xs t r.2)

    -- the same of what is seen of the items
    pub filtered_seen : (s : S) (xs ys : List P) → IsFiltered R s xs ys → IsFiltered A s (map view xs) (map view ys)
    filtered_seen s xs ys r = (r.0, r.1, r.2 ∙ sym (length-map xs view), turns_seen s r.0 xs r.1 r.3, ap (map view) r.4 ∙ where_true-map r.0 xs)

module _ {V : Type 0} (same : V → V → Bool) (hi : ℤ) where
  -- the first range doesn't begin before n
  abbrev BeginsFrom : ℤ → List ((ℤ × ℤ) × V) → Type 0
  BeginsFrom n [] = Unit {0}
  BeginsFrom n (p ∷ rest) = n ≤ℤ p.0.0

  begins_lower : (n m : ℤ) (list : List ((ℤ × ℤ) × V)) → m ≤ℤ n → BeginsFrom n list → BeginsFrom m list
  begins_lower n m [] h b = tt
  begins_lower n m (p ∷ rest) h b = omega (arith, ints, h, b)

  kept_begin : (n : ℤ) (bs : List Bool) (list : List ((ℤ × ℤ) × V)) → IsCanonicalMap same n hi list → BeginsFrom n (items_where_true bs list)
  kept_begin n [] list c = tt
  kept_begin n (b ∷ bs) [] c = tt
  kept_begin n (true ∷ bs) (p ∷ rest) c = c.0
  kept_begin n (false ∷ bs) (p ∷ rest) c =
      begins_lower (p.0.1 +ℤ pos 1) n (items_where_true bs rest) (omega (arith, ints, c.0, c.1)) (kept_begin (p.0.1 +ℤ pos 1) bs rest c.4)

  stops_far : (p : (ℤ × ℤ) × V) (n : ℤ) (list : List ((ℤ × ℤ) × V)) → BeginsFrom n list → (p.0.1 +ℤ pos 1) <ℤ n → StopsBefore same p list
  stops_far p n [] c h = tt
  stops_far p n (q ∷ list) c h = λ touch. absurd (omega (arith, ints, c, h, touch))

  kept_stops : (p : (ℤ × ℤ) × V) (bs : List Bool) (list : List ((ℤ × ℤ) × V)) → StopsBefore same p list → IsCanonicalMap same (p.0.1 +ℤ pos 1) hi list
      → StopsBefore same p (items_where_true bs list)
  kept_stops p [] list stops c = tt
  kept_stops p (b ∷ bs) [] stops c = tt
  kept_stops p (true ∷ bs) (q ∷ rest) stops c = stops
  kept_stops p (false ∷ bs) (q ∷ rest) stops c =
      stops_far p (q.0.1 +ℤ pos 1) (items_where_true bs rest) (kept_begin (q.0.1 +ℤ pos 1) bs rest c.4) (omega (arith, ints, c.0, c.1))

  -- some ranges of a canonical list are canonical
  pub kept_canonical : (lo : ℤ) (bs : List Bool) (list : List ((ℤ × ℤ) × V)) → IsCanonicalMap same lo hi list → IsCanonicalMap same lo hi (items_where_true bs list)
  kept_canonical lo [] list c = tt
  kept_canonical lo (b ∷ bs) [] c = tt
  kept_canonical lo (true ∷ bs) (p ∷ rest) c = (c.0, c.1, c.2, kept_stops p bs rest c.3 c.4, kept_canonical (p.0.1 +ℤ pos 1) bs rest c.4)
  kept_canonical lo (false ∷ bs) (p ∷ rest) c =
      canonical-lower same (p.0.1 +ℤ pos 1) lo hi (items_where_true bs rest) (omega (arith, ints, c.0, c.1)) (kept_canonical (p.0.1 +ℤ pos 1) bs rest c.4)

module _ {T V : Type 0} (numbers : Numbering T) where
  kept_valued : (bs : List Bool) (list : List ((T × T) × V)) → AreValuedRanges numbers list → AreValuedRanges numbers (items_where_true bs list)
  kept_valued [] list all = tt
  kept_valued (b ∷ bs) [] all = tt
  kept_valued (true ∷ bs) (p ∷ rest) all = (all.0, kept_valued bs rest all.1)
  kept_valued (false ∷ bs) (p ∷ rest) all = kept_valued bs rest all.1

  module _ {S : Type 0} (R : S → (T × T) × V → Bool → S → Type 0) (s : S) (xs ys : List ((T × T) × V)) (kept : IsFiltered R s xs ys) where
    pub filtered_ranges : AreValuedRanges numbers xs → AreValuedRanges numbers ys
    filtered_ranges all = rw kept.4 (kept_valued kept.0 xs all)

    pub filtered_map : (same : V → V → Bool) → IsMap numbers same xs → IsMap numbers same ys
    filtered_map same m = record {
      are_ranges = filtered_ranges m.are_ranges;
      canonical = rw (kept.4, where_true-map (pair_in_numbers numbers) kept.0 xs) (kept_canonical same numbers.greatest numbers.least kept.0 (pairs_in_numbers numbers xs) m.canonical);
    }
