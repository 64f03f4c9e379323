-- Lemmas on labels: a part of the piece of all of them is the labels of the names there.
use Rattle.std.proofs.Common.{◌≡◌, ℕ, zero, suc, ◌+◌, ◌-◌, ◌<◌, ◌≤◌, inl, inr, List, [], ◌∷◌, ◌++◌, append-nil, refl, sym, ◌∙◌, ap, arith, length, take, drop, map, get_or}
use Rattle.std.specs.Prelude.{codes, flat_map, slice_get, min, Some, None}
use Rattle.std.proofs.lemmas.List.{append_assoc, drop-map, take-append-drop}
use Rattle.std.proofs.Math.Seq.{drop-append_seam, take-append_seam, take-suc}
use Rattle.std.proofs.lemmas.Bool.{cases_lt}
use Rattle.std.proofs.lemmas.Grind.{flat_map-append, common_steps}
use Rattle.set_document.specs.Answer.{name_text}
use Rattle.set_document.specs.Words.{letters}
use Rattle.set_document.specs.declared.word.Name.{Name}
use Rattle.set_document.specs.Labels.{AreLabels, label, label_start, places_from}

module _ {X : Type 0} where
  take-add : (xs : List X) (p m : ℕ) → take (p + m) xs ≡ take p xs ++ take m (drop p xs)
  take-add xs zero m = let e : 0 + m ≡ m = omega arith in rw e refl
  take-add [] (suc p) m = grind (arith, common_steps)
  take-add (x ∷ xs) (suc p) m = let e : suc p + m ≡ suc (p + m) = omega arith in rw e (ap (λ l. x ∷ l) (take-add xs p m))

  -- the item at a place is the first of what is left there, and the others are left behind it
  got-drop : (xs rest : List X) (x : X) (p : ℕ) → drop p xs ≡ x ∷ rest → (slice_get xs p ≡ Some x) × (drop (suc p) xs ≡ rest)
  got-drop [] rest x zero e = absurd cc
  got-drop [] rest x (suc p) e = absurd cc
  got-drop (y ∷ ys) rest x zero e = (cc, cc)
  got-drop (y ∷ ys) rest x (suc p) e = got-drop ys rest x p e

  past-drop : (xs : List X) (p : ℕ) → drop p xs ≡ [] → (slice_get xs p ≡ None) × (drop (suc p) xs ≡ [])
  past-drop [] zero e = (refl, refl)
  past-drop [] (suc p) e = (refl, refl)
  past-drop (y ∷ ys) zero e = absurd cc
  past-drop (y ∷ ys) (suc p) e = past-drop ys p e

-- the labels before a place, those of so many names from there, and the others
pub apart : (names : List (List ℕ)) (p m : ℕ)
    → flat_map label names ≡ flat_map label (take p names) ++ (flat_map label (take m (drop p names)) ++ flat_map label (drop m (drop p names)))
apart names p m =
    let before = ap (flat_map label) (sym (take-append-drop p names)) ∙ flat_map-append label (take p names) (drop p names) in
    let behind = ap (flat_map label) (sym (take-append-drop m (drop p names))) ∙ flat_map-append label (take m (drop p names)) (drop m (drop p names)) in
    before ∙ ap (λ l. flat_map label (take p names) ++ l) behind

-- a label begins where the one so many places before it does, and as many bytes behind as those between have
pub begins_behind : (names : List (List ℕ)) (p m : ℕ) → label_start names (p + m) ≡ label_start names p + length (flat_map label (take m (drop p names)))
begins_behind names p m =
    rw (take-add names p m, flat_map-append label (take p names) (take m (drop p names))) grind (arith, common_steps)

-- the bytes between two starts are the labels of the names between
pub part : (names : List (List ℕ)) (p m : ℕ)
    → take (label_start names (p + m) - label_start names p) (drop (label_start names p) (flat_map label names)) ≡ flat_map label (take m (drop p names))
part names p m =
    let x = flat_map label (take p names) in
    let y = flat_map label (take m (drop p names)) in
    let z = flat_map label (drop m (drop p names)) in
    let size : label_start names (p + m) - label_start names p ≡ length y = let e = begins_behind names p m in omega arith in
    let rest : drop (length x) (flat_map label names) ≡ y ++ z = ap (drop (length x)) (apart names p m) ∙ drop-append_seam x (y ++ z) in
    rw (size, rest) (take-append_seam y z)

-- ---- making them

module _ {X : Type 0} where
  got-front : (xs : List X) (y : X) (i : ℕ) → i < length xs → slice_get (xs ++ y ∷ []) i ≡ slice_get xs i
  got-front [] y i h = absurd (omega arith)
  got-front (x ∷ xs) y zero h = refl
  got-front (x ∷ xs) y (suc i) h = got-front xs y i (omega arith)

  got-last : (xs : List X) (y : X) → slice_get (xs ++ y ∷ []) (length xs) ≡ Some y
  got-last [] y = refl
  got-last (x ∷ xs) y = got-last xs y

  one-more : (xs rest : List X) (x : X) (k : ℕ) → drop k xs ≡ x ∷ rest → take (suc k) xs ≡ take k xs ++ x ∷ []
  one-more [] rest x zero e = absurd cc
  one-more [] rest x (suc k) e = absurd cc
  one-more (y ∷ ys) rest x zero e = cc
  one-more (y ∷ ys) rest x (suc k) e = ap (λ l. y ∷ l) (one-more ys rest x k e)

-- the labels of the first k names, and where each begins
pub record AreLabelsTo (names : List (List ℕ)) (k : ℕ) (bytes starts : List ℕ) : Type 0 where
  pub within : k ≤ length names
  pub one_piece : bytes ≡ flat_map label (take k names)
  pub begin : (i : ℕ) → i < k → slice_get starts i ≡ Some (label_start names i)
  pub each : length starts ≡ k

begin-more : (names : List (List ℕ)) (k : ℕ) (bytes starts : List ℕ) → AreLabelsTo names k bytes starts
    → (i : ℕ) → i < suc k → slice_get (starts ++ length bytes ∷ []) i ≡ Some (label_start names i)
begin-more names k bytes starts h i p =
    let before : i < length starts → slice_get (starts ++ length bytes ∷ []) i ≡ Some (label_start names i) =
    λ q. got-front starts (length bytes) i q ∙ h.begin i (let e = h.each in omega arith) in
    let there : i ≡ length starts → slice_get (starts ++ length bytes ∷ []) i ≡ Some (label_start names i) =
    λ q. rw q (got-last starts (length bytes) ∙ ap (λ n. Some n) (ap length h.one_piece ∙ ap (λ k. label_start names k) (sym h.each))) in
    let e = h.each in elim (cases_lt i (length starts)) [ inl q ↦ before q | inr q ↦ there (omega arith) ]

pub label_more : (names rest : List (List ℕ)) (name : List ℕ) (k : ℕ) (bytes starts : List ℕ) → AreLabelsTo names k bytes starts → drop k names ≡ name ∷ rest
    → AreLabelsTo names (suc k) (bytes ++ label name) (starts ++ length bytes ∷ [])
label_more names rest name k bytes starts h e = record {
  within = let l : length (drop k names) ≡ suc (length rest) = ap length e in let m : length (drop k names) ≡ length names - k = grind (arith, common_steps) in omega arith;
  one_piece = ap (λ l. l ++ label name) h.one_piece ∙ sym (ap (flat_map label) (one-more names rest name k e) ∙ (flat_map-append label (take k names) (name ∷ []) ∙ ap (λ l. flat_map label (take k names) ++ l) (append-nil (label name))));
  begin = begin-more names k bytes starts h;
  each = let l = h.each in grind (arith, common_steps);
}

pub labels_all : (names : List (List ℕ)) (k : ℕ) (bytes starts : List ℕ) → AreLabelsTo names k bytes starts → drop k names ≡ []
    → AreLabels names bytes (starts ++ length bytes ∷ [])
labels_all names k bytes starts h e =
    let m : length (drop k names) ≡ length names - k = grind (arith, common_steps) in
    let l : length (drop k names) ≡ 0 = ap length e in
    let all : k ≡ length names = let w = h.within in omega arith in
    record {
      one_piece = let whole : take k names ≡ names = rw all (grind (arith, common_steps)) in h.one_piece ∙ ap (flat_map label) whole;
      begin = λ i p. begin-more names k bytes starts h i (omega arith);
      each = let f = h.each in grind (arith, common_steps);
    }

-- ---- places that follow each other

at_name : (names rest : List (List ℕ)) (x : List ℕ) (p m : ℕ) → drop p names ≡ x ∷ rest
    → flat_map (name_text names) (places_from (suc p) m) ≡ flat_map label (take m (drop (suc p) names))
    → flat_map (name_text names) (places_from p (suc m)) ≡ flat_map label (take (suc m) (drop p names))
at_name names rest x p m e more =
    let there = got-drop names rest x p e in
    let first : name_text names p ≡ label x = rw (name_text, there.0) refl in
    let others : flat_map (name_text names) (places_from (suc p) m) ≡ flat_map label (take m rest) = more ∙ ap (λ l. flat_map label (take m l)) there.1 in
    rw e (ap (λ l. l ++ flat_map (name_text names) (places_from (suc p) m)) first ∙ ap (λ l. label x ++ l) others)

past_names : (names : List (List ℕ)) (p m : ℕ) → drop p names ≡ []
    → flat_map (name_text names) (places_from (suc p) m) ≡ flat_map label (take m (drop (suc p) names))
    → flat_map (name_text names) (places_from p (suc m)) ≡ flat_map label (take (suc m) (drop p names))
past_names names p m e more =
    let there = past-drop names p e in
    let first : name_text names p ≡ [] = rw (name_text, there.0) refl in
    let nothing : flat_map label (take m (drop (suc p) names)) ≡ [] = rw there.1 (grind (arith, common_steps)) in
    rw e (ap (λ l. l ++ flat_map (name_text names) (places_from (suc p) m)) first ∙ (more ∙ nothing))

by_drop : (names rest : List (List ℕ)) (p m : ℕ) → drop p names ≡ rest
    → flat_map (name_text names) (places_from (suc p) m) ≡ flat_map label (take m (drop (suc p) names))
    → flat_map (name_text names) (places_from p (suc m)) ≡ flat_map label (take (suc m) (drop p names))
by_drop names [] p m e more = past_names names p m e more
by_drop names (x ∷ rest) p m e more = at_name names rest x p m e more

-- the names at places that follow each other are a part of all labels
pub run_text : (names : List (List ℕ)) (p m : ℕ) → flat_map (name_text names) (places_from p m) ≡ flat_map label (take m (drop p names))
run_text names p zero = refl
run_text names p (suc m) = by_drop names (drop p names) p m refl (run_text names (suc p) m)

places-more : (p m : ℕ) → places_from p (suc m) ≡ places_from p m ++ (p + m) ∷ []
places-more p zero = let e : p + 0 ≡ p = omega arith in rw e refl
places-more p (suc m) = let e : p + suc m ≡ suc p + m = omega arith in rw e (ap (λ l. p ∷ l) (places-more (suc p) m))

-- one more place follows
pub follow_more : (places : List ℕ) (m : ℕ) → m < length places → take m places ≡ places_from (get_or places 0 0) m → get_or places m 0 ≡ get_or places 0 0 + m
    → take (m + 1) places ≡ places_from (get_or places 0 0) (m + 1)
follow_more places m within so_far next =
    let e : m + 1 ≡ suc m = omega arith in
    rw e (take-suc places m 0 within ∙ (ap (λ l. l ++ get_or places m 0 ∷ []) so_far ∙ (ap (λ x. places_from (get_or places 0 0) m ++ x ∷ []) next ∙ sym (places-more (get_or places 0 0) m))))

-- behind the last label begins nothing more
pub clipped : (names : List (List ℕ)) (x : ℕ) → label_start names (min x (suc (length names))) ≡ label_start names x
clipped names x =
    let kept : x < suc (length names) → label_start names (min x (suc (length names))) ≡ label_start names x =
    λ p. let m : min x (suc (length names)) ≡ x = omega arith in rw m refl in
    let past : suc (length names) ≤ x → label_start names (min x (suc (length names))) ≡ label_start names x =
    λ p. let m : min x (suc (length names)) ≡ suc (length names) = omega arith in
    let e : take (suc (length names)) names ≡ take x names = grind (arith, common_steps) in rw m (ap (λ l. length (flat_map label l)) e) in
    elim (cases_lt x (suc (length names))) [ inl p ↦ kept p | inr p ↦ past p ]

-- where a part of the labels ends, as it is cut off at the last of them
behind_run : (names : List (List ℕ)) (bytes starts : List ℕ) (p m x most : ℕ) → AreLabels names bytes starts → x ≡ min (min (p + m) most) (length starts)
    → length starts ≤ most → label_start names x ≡ label_start names (p + m)
behind_run names bytes starts p m x most labels e fits =
    let l = labels.each in
    let y : x ≡ min (p + m) (suc (length names)) = omega arith in
    rw y (clipped names (p + m))

-- the bytes between two starts
pub run_is : (names : List (List ℕ)) (bytes starts : List ℕ) (p m x most s e : ℕ) → AreLabels names bytes starts → x ≡ min (min (p + m) most) (length starts)
    → length starts ≤ most → s ≡ label_start names p → e ≡ label_start names x → take (e - s) (drop s bytes) ≡ flat_map label (take m (drop p names))
run_is names bytes starts p m x most s e labels clip fits first last =
    rw (last, behind_run names bytes starts p m x most labels clip fits, first, labels.one_piece) (part names p m)

-- they are there
pub run_within : (names : List (List ℕ)) (bytes starts : List ℕ) (p m x most s e : ℕ) → AreLabels names bytes starts → x ≡ min (min (p + m) most) (length starts)
    → length starts ≤ most → s ≡ label_start names p → e ≡ label_start names x → (s ≤ e) × (e ≤ length bytes)
run_within names bytes starts p m x most s e labels clip fits first last =
    let there : e ≡ label_start names (p + m) = last ∙ behind_run names bytes starts p m x most labels clip fits in
    let behind = begins_behind names p m in
    let y = flat_map label (take m (drop p names)) in
    let z = flat_map label (drop m (drop p names)) in
    let all : length bytes ≡ label_start names p + (length y + length z) = ap length (labels.one_piece ∙ apart names p m) ∙ grind (arith, common_steps) in
    (omega arith, omega arith)

-- ---- the names of a map

module _ (pairs : List (Name × ℕ)) where
  pub name_more : (rest : List (Name × ℕ)) (p : Name × ℕ) (bytes spaced written starts more : List ℕ)
      → AreLabelsTo (map (λ p. letters p.0) pairs) (length starts) bytes starts → drop (length starts) pairs ≡ p ∷ rest
      → more ≡ starts ++ length bytes ∷ [] → spaced ≡ bytes ++ codes " " → written ≡ spaced ++ letters p.0
      → (rest ≡ drop (length more) pairs) × AreLabelsTo (map (λ p. letters p.0) pairs) (length more) written more
  name_more rest p bytes spaced written starts more h left e f g =
      let size : length more ≡ suc (length starts) = rw e (grind (arith, common_steps)) in
      let label_there : written ≡ bytes ++ label (letters p.0) = g ∙ (ap (λ l. l ++ letters p.0) f ∙ append_assoc bytes (codes " ") (letters p.0)) in
      let next : drop (length starts) (map (λ p. letters p.0) pairs) ≡ letters p.0 ∷ map (λ p. letters p.0) rest =
      drop-map (λ (p : Name × ℕ). letters p.0) (length starts) pairs ∙ ap (map (λ (p : Name × ℕ). letters p.0)) left in
      let behind : rest ≡ drop (length more) pairs = rw size (sym (got-drop pairs rest p (length starts) left).1) in
      (behind, rw (size, label_there, e) (label_more (map (λ p. letters p.0) pairs) (map (λ p. letters p.0) rest) (letters p.0) (length starts) bytes starts h next))

  pub names_all : (bytes starts more : List ℕ) → AreLabelsTo (map (λ p. letters p.0) pairs) (length starts) bytes starts → drop (length starts) pairs ≡ []
      → more ≡ starts ++ length bytes ∷ [] → AreLabels (map (λ p. letters p.0) pairs) bytes more
  names_all bytes starts more h left e =
      let next : drop (length starts) (map (λ p. letters p.0) pairs) ≡ [] =
      drop-map (λ (p : Name × ℕ). letters p.0) (length starts) pairs ∙ ap (map (λ (p : Name × ℕ). letters p.0)) left in
      rw e (labels_all (map (λ p. letters p.0) pairs) (length starts) bytes starts h next)

-- ---- writing them

-- what was written and the names at the places left are the whole, and so they are after a part of all labels is written
pub run_written : (names : List (List ℕ)) (places : List ℕ) (at count first : ℕ) (before after whole : List ℕ) → after ≡ before ++ flat_map label (take count (drop first names))
    → take count (drop at places) ≡ places_from first count → before ++ flat_map (name_text names) (drop at places) ≡ whole
    → after ++ flat_map (name_text names) (drop (at + count) places) ≡ whole
run_written names places at count first before after whole e run so_far =
    let left : drop at places ≡ places_from first count ++ drop (at + count) places =
    sym (take-append-drop count (drop at places)) ∙ (ap (λ l. l ++ drop count (drop at places)) run ∙ ap (λ l. places_from first count ++ l) (grind (arith, common_steps))) in
    let texts = flat_map-append (name_text names) (places_from first count) (drop (at + count) places) in
    let written : before ++ (flat_map (name_text names) (places_from first count) ++ flat_map (name_text names) (drop (at + count) places)) ≡ whole =
    ap (λ l. before ++ l) (sym (ap (flat_map (name_text names)) left ∙ texts)) ∙ so_far in
    rw e (append_assoc before (flat_map label (take count (drop first names))) (flat_map (name_text names) (drop (at + count) places))
    ∙ (ap (λ l. before ++ (l ++ flat_map (name_text names) (drop (at + count) places))) (sym (run_text names first count)) ∙ written))
