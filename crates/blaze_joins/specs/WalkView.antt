-- Where a walk over two maps stands, and the piece that it comes to next.
use Rattle.std.specs.Prelude.{◌≡◌, ℕ, ℤ, pos, ◌+ℤ◌, ◌-ℤ◌, ◌≤ℤ◌, ◌<ℤ◌, ◌≤◌, ◌+◌, Bool, true, false, int_lt, if◌then◌else◌, List, [], ◌∷◌, length, Option, Some, None}
use Rattle.std.specs.Int.{int_max}
use Rattle.element_core.specs.Numbering.{Numbering}
use Rattle.number_line.specs.Pieces.{Holders, holders_at, same_holders, values_of}
use Rattle.number_line.proofs.PieceLemmas.{IsLeft, AreHeld}
use Rattle.range_map.specs.Valued.{pairs_in_numbers}
use Rattle.blaze_joins.specs.PlaceView.{pairs_from}
use Rattle.blaze_joins.specs.declared.walk.Walk.{Walk}

-- what holds n, of ranges that end there or behind it
abbrev pub first_holder : {V : Type 0} → ℤ → List ((ℤ × ℤ) × V) → Option ((ℤ × ℤ) × V)
first_holder n [] = None
first_holder n (p ∷ rest) = if int_lt n p.0.0 then None else Some p

-- and up to which number that stays, of those up to hi
abbrev pub first_end : {V : Type 0} → ℤ → ℤ → List ((ℤ × ℤ) × V) → ℤ
first_end hi n [] = hi
first_end hi n (p ∷ rest) = if int_lt n p.0.0 then p.0.0 -ℤ pos 1 else p.0.1

-- how many bounds ranges have from n on: the numbers in front of which one begins, and those at which one ends
abbrev pub bounds_from : {V : Type 0} → ℤ → List ((ℤ × ℤ) × V) → ℕ
bounds_from n [] = 0
bounds_from n (p ∷ rest) = (if int_lt n p.0.0 then 1 else 0) + ((if int_lt p.0.1 n then 0 else 1) + bounds_from n rest)

-- the most pieces of two lists from n on, up to hi: one to each bound, and the last
abbrev pub pieces_from : {V W : Type 0} → ℤ → ℤ → List ((ℤ × ℤ) × V) → List ((ℤ × ℤ) × W) → ℕ
pieces_from hi n a b = if int_lt hi n then 0 else 1 + (bounds_from n a + bounds_from n b)

-- the first ranges of two lists have not both begun before n
abbrev pub OneBegins : {V W : Type 0} → ℤ → List ((ℤ × ℤ) × V) → List ((ℤ × ℤ) × W) → Type 0
OneBegins n [] b = Unit {0}
OneBegins n (p ∷ a) [] = Unit {0}
OneBegins n (p ∷ a) (q ∷ b) = n ≤ℤ int_max p.0.0 q.0.0

-- no number from n on and before m has a label that is wanted
abbrev pub AreUnwanted : {H : Type 0} → (H → Bool) → (ℤ → H) → ℤ → ℤ → Type 0
AreUnwanted wanted label n m = (x : ℤ) → n ≤ℤ x → x <ℤ m → wanted (label x) ≡ false

module _ {T : Type 0} (numbers : Numbering T) where
  -- the number of the next key, or the one behind the greatest
  abbrev pub next_number : Option T → ℤ
  next_number None = numbers.greatest +ℤ pos 1
  next_number (Some key) = numbers.number key

module _ {T V W : Type 0} (numbers : Numbering T) where
  abbrev pub left_of : Walk T V W → List ((ℤ × ℤ) × V)
  left_of walk = pairs_in_numbers numbers walk.left.now

  abbrev pub right_of : Walk T V W → List ((ℤ × ℤ) × W)
  right_of walk = pairs_in_numbers numbers walk.right.now

  abbrev pub pieces_to_come : Walk T V W → ℕ
  pieces_to_come walk = pieces_from numbers.greatest (next_number numbers walk.start) (left_of walk) (right_of walk)

  -- the pairs from the places of a walk on have not both begun before its next number
  abbrev pub IsMeeting : Walk T V W → Type 0
  IsMeeting walk = OneBegins (next_number numbers walk.start) (pairs_from numbers walk.left_place walk.left.now)
      (pairs_from numbers walk.right_place walk.right.now)

  -- no number from the walk's next one on is wanted
  abbrev pub NoneIsNext : (Holders V W → Bool) → Walk T V W → Type 0
  NoneIsNext wanted walk = AreUnwanted wanted (holders_at (left_of walk) (right_of walk)) (next_number numbers walk.start)
      (numbers.greatest +ℤ pos 1)

  -- the first piece that is wanted from the next number of the walk `old` on, as long as may be, with the values there; the walk `new`
  -- goes on behind it
  pub record IsNextOf (wanted : Holders V W → Bool) (old : Walk T V W) (range : T × T) (values : Option V × Option W)
      (new : Walk T V W) : Type 0 where
    pub holders : Holders V W
    pub shows : values ≡ values_of holders
    pub is_wanted : wanted holders ≡ true
    pub low : numbers.least ≤ℤ numbers.number range.0
    pub begins : next_number numbers old.start ≤ℤ numbers.number range.0
    pub passed : AreUnwanted wanted (holders_at (left_of old) (right_of old)) (next_number numbers old.start) (numbers.number range.0)
    pub held : AreHeld same_holders (holders_at (left_of old) (right_of old)) numbers.greatest (numbers.number range.0)
        (numbers.number range.1) holders
    pub goes_on : next_number numbers new.start ≡ numbers.number range.1 +ℤ pos 1

module _ {T V W : Type 0} (numbers : Numbering T) (same : V → V → Bool) (other : W → W → Bool) where
  -- the pairs from the places of a walk on are what is left of both lists from the number n on
  pub record IsWalkAt (n : ℤ) (walk : Walk T V W) : Type 0 where
    pub left : IsLeft same numbers.greatest numbers.least (left_of numbers walk) (pairs_from numbers walk.left_place walk.left.now) n
    pub right : IsLeft other numbers.greatest numbers.least (right_of numbers walk) (pairs_from numbers walk.right_place walk.right.now) n
    pub left_within : walk.left_place ≤ length walk.left.now
    pub right_within : walk.right_place ≤ length walk.right.now
    pub high : n ≤ℤ (numbers.greatest +ℤ pos 1)

  -- from its next number on
  abbrev pub IsWalk : Walk T V W → Type 0
  IsWalk walk = IsWalkAt (next_number numbers walk.start) walk
