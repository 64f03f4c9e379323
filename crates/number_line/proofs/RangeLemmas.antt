use Rattle.std.proofs.Common.{◌≡◌, List, [], ◌∷◌, refl, arith, sym, ◌∙◌}
use Rattle.std.specs.Prelude.{ℤ, pos, ◌+ℤ◌, ◌≤ℤ◌, ◌<ℤ◌, Bool, true, false, ◌&&◌, ◌||◌, int_le}
use Rattle.std.proofs.lemmas.Int.{ints, by_lt_z}
use Rattle.number_line.specs.Ranges.{holds, IsCanonical}

-- below the start of a canonical list no number is held
pub below_start : (lo hi : ℤ) (rs : List (ℤ × ℤ)) (x : ℤ) → IsCanonical lo hi rs → x <ℤ lo → holds rs x ≡ false
below_start lo hi [] x c h = refl
below_start lo hi (r ∷ rest) x c h =
    let low : int_le r.0 x ≡ false = grind (arith, ints) in
    rw low (below_start (r.1 +ℤ pos 2) hi rest x c.3 (omega (arith, ints)))

pub from_lower : (lo low hi : ℤ) (rs : List (ℤ × ℤ)) → low ≤ℤ lo → IsCanonical lo hi rs → IsCanonical low hi rs
from_lower lo low hi [] h c = tt
from_lower lo low hi (r ∷ rest) h c = (omega (arith, ints), c.1, c.2, c.3)

-- the first range holds a number from its start to its end
pub first_holds : (r : ℤ × ℤ) (rest : List (ℤ × ℤ)) (x : ℤ) → r.0 ≤ℤ x → x ≤ℤ r.1 → holds (r ∷ rest) x ≡ true
first_holds r rest x h k =
    let a : int_le r.0 x ≡ true = grind (arith, ints) in
    let b : int_le x r.1 ≡ true = grind (arith, ints) in
    rw (a, b)

-- and beyond its end the others decide
pub rest_holds : (r : ℤ × ℤ) (rest : List (ℤ × ℤ)) (x : ℤ) → r.1 <ℤ x → holds (r ∷ rest) x ≡ holds rest x
rest_holds r rest x h =
    let b : int_le x r.1 ≡ false = grind (arith, ints) in
    rest_holds_at (int_le r.0 x) (int_le x r.1) (holds rest x) b
  where
    rest_holds_at : (p q h : Bool) → q ≡ false → (p && q || h) ≡ h
    rest_holds_at true q h e = rw e
    rest_holds_at false q h e = refl

-- x is y, where neither is below the other
pub same_number : (x y : ℤ) → (x <ℤ y → ⊥) → (y <ℤ x → ⊥) → x ≡ y
same_number x y p q = by_lt_z x y (λ h. absurd (p h)) (λ h. by_lt_z y x (λ k. absurd (q k)) (λ k. omega (arith, ints)))

before_first : (lo hi : ℤ) (r : ℤ × ℤ) (rest : List (ℤ × ℤ)) (x : ℤ) → IsCanonical lo hi (r ∷ rest) → x <ℤ r.0 → holds (r ∷ rest) x ≡ false
before_first lo hi r rest x c h = below_start r.0 hi (r ∷ rest) x (omega (arith, ints), c.1, c.2, c.3) h

after_last : (lo hi : ℤ) (r : ℤ × ℤ) (rest : List (ℤ × ℤ)) → IsCanonical lo hi (r ∷ rest) → holds (r ∷ rest) (r.1 +ℤ pos 1) ≡ false
after_last lo hi r rest c =
    rest_holds r rest (r.1 +ℤ pos 1) (omega (arith, ints)) ∙ below_start (r.1 +ℤ pos 2) hi rest (r.1 +ℤ pos 1) c.3 (omega (arith, ints))

-- two canonical lists that hold the same numbers: the second's first range starts no later, and where the starts are one, it ends no sooner
no_earlier : (lo hi : ℤ) (r t : ℤ × ℤ) (ra tb : List (ℤ × ℤ)) → IsCanonical lo hi (r ∷ ra) → IsCanonical lo hi (t ∷ tb)
    → ((x : ℤ) → lo ≤ℤ x → x ≤ℤ hi → holds (r ∷ ra) x ≡ holds (t ∷ tb) x) → r.0 <ℤ t.0 → ⊥
no_earlier lo hi r t ra tb c d h less =
    let a : holds (r ∷ ra) r.0 ≡ true = first_holds r ra r.0 (omega (arith, ints)) c.1 in
    let b : holds (t ∷ tb) r.0 ≡ false = before_first lo hi t tb r.0 d less in
    let e : holds (r ∷ ra) r.0 ≡ holds (t ∷ tb) r.0 = h r.0 c.0 (omega (arith, ints)) in
    cc

no_shorter : (lo hi : ℤ) (r t : ℤ × ℤ) (ra tb : List (ℤ × ℤ)) → IsCanonical lo hi (r ∷ ra) → IsCanonical lo hi (t ∷ tb)
    → ((x : ℤ) → lo ≤ℤ x → x ≤ℤ hi → holds (r ∷ ra) x ≡ holds (t ∷ tb) x) → r.0 ≡ t.0 → r.1 <ℤ t.1 → ⊥
no_shorter lo hi r t ra tb c d h same less =
    let a : holds (r ∷ ra) (r.1 +ℤ pos 1) ≡ false = after_last lo hi r ra c in
    let b : holds (t ∷ tb) (r.1 +ℤ pos 1) ≡ true = first_holds t tb (r.1 +ℤ pos 1) (omega (arith, ints)) (omega (arith, ints)) in
    let e : holds (r ∷ ra) (r.1 +ℤ pos 1) ≡ holds (t ∷ tb) (r.1 +ℤ pos 1) = h (r.1 +ℤ pos 1) (omega (arith, ints)) (omega (arith, ints)) in
    cc

pair_of : (r t : ℤ × ℤ) → r.0 ≡ t.0 → r.1 ≡ t.1 → r ≡ t
pair_of (a, b) (c, d) p q = cc

-- two canonical lists that hold the same numbers are the same list
pub same_list : (lo hi : ℤ) (a b : List (ℤ × ℤ)) → IsCanonical lo hi a → IsCanonical lo hi b
    → ((x : ℤ) → lo ≤ℤ x → x ≤ℤ hi → holds a x ≡ holds b x) → a ≡ b
same_list lo hi [] [] c d h = refl
same_list lo hi [] (t ∷ tb) c d h =
    let e : false ≡ holds (t ∷ tb) t.0 = h t.0 d.0 (omega (arith, ints)) in
    let k : holds (t ∷ tb) t.0 ≡ true = first_holds t tb t.0 (omega (arith, ints)) d.1 in cc
same_list lo hi (r ∷ ra) [] c d h =
    let e : holds (r ∷ ra) r.0 ≡ false = h r.0 c.0 (omega (arith, ints)) in
    let k : holds (r ∷ ra) r.0 ≡ true = first_holds r ra r.0 (omega (arith, ints)) c.1 in cc
same_list lo hi (r ∷ ra) (t ∷ tb) c d h =
    let h' : (x : ℤ) → lo ≤ℤ x → x ≤ℤ hi → holds (t ∷ tb) x ≡ holds (r ∷ ra) x = λ x p q. sym (h x p q) in
    let start : r.0 ≡ t.0 = same_number r.0 t.0 (no_earlier lo hi r t ra tb c d h) (no_earlier lo hi t r tb ra d c h') in
    let end : r.1 ≡ t.1 = same_number r.1 t.1 (no_shorter lo hi r t ra tb c d h start) (no_shorter lo hi t r tb ra d c h' (sym start)) in
    let d3 : IsCanonical (r.1 +ℤ pos 2) hi tb = from_lower (t.1 +ℤ pos 2) (r.1 +ℤ pos 2) hi tb (omega (arith, ints)) d.3 in
    let rest : ra ≡ tb = same_list (r.1 +ℤ pos 2) hi ra tb c.3 d3 (λ x p q.
    sym (rest_holds r ra x (omega (arith, ints))) ∙ (h x (omega (arith, ints)) q ∙ rest_holds t tb x (omega (arith, ints)))) in
    let pair : r ≡ t = pair_of r t start end in
    cc
