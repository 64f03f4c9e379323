-- A function that is called at the pieces of two maps, along a walk over them.
use Rattle.std.proofs.Common.{◌≡◌, ℕ, ◌+◌, ◌<◌, ◌≤◌, List, [], ◌∷◌, refl, ap, sym, ◌∙◌, arith, subst}
use Rattle.std.specs.Prelude.{IfSome, IfNone, ℤ, pos, ◌+ℤ◌, ◌-ℤ◌, ◌≤ℤ◌, ◌<ℤ◌, Bool, true, false, ◌&&◌, Option, Some, None}
use Rattle.std.specs.Int.{int_min, int_max}
use Rattle.std.proofs.lemmas.Int.{ints, by_lt_z}
use Rattle.element_core.specs.Numbering.{Numbering}
use Rattle.number_line.specs.Valued.{IsCanonicalMap}
use Rattle.number_line.specs.Pieces.{Holders, holders_at, same_holder, same_holders, in_either, in_first, in_both, IsJoin}
use Rattle.number_line.proofs.PieceLemmas.{IsLeft, left_first, left_stays, left_goes, AreHeld, AreCutTo, with_piece, cut_further, end_before-raise, none_behind}
use Rattle.number_line.proofs.JoinWalk.{IsJoinedTo, joined_first, joined_call, joined_all}
use Rattle.range_map.specs.Making.{Making}
use Rattle.range_map.specs.Range.{in_numbers}
use Rattle.range_map.specs.Sweep.{EndBelow, IsPut}
use Rattle.range_map.specs.Valued.{pairs_in_numbers}
use Rattle.range_map.proofs.GrowthLemmas.{end_below-raise}
use Rattle.blaze_joins.specs.PlaceView.{ranges_from}
use Rattle.blaze_joins.specs.declared.walk.Walk.{Walk}
use Rattle.blaze_joins.specs.WalkView.{first_holder, first_end, left_of, right_of, next_number, pieces_from, pieces_to_come, AreUnwanted, IsWalk, IsNextOf, NoneIsNext}
use Rattle.blaze_joins.proofs.SideLemmas.{min_low}
use Rattle.blaze_joins.proofs.WalkLemmas.{max_right, max_left_is, max_right_is, start_low, start_above, right_there, left_held, pieces_fewer}
use Rattle.blaze_joins.proofs.WalkSteps.{unwanted_left, unwanted_before}

-- ---- numbers that are passed over

module _ {H : Type 0} (alike : H → H → Bool) (wanted : H → Bool) (label : ℤ → H) (lo hi n m : ℤ) (low : n ≤ℤ m)
    (passed : AreUnwanted wanted label n m) (apart : n <ℤ m → m ≤ℤ hi → alike (label (m -ℤ pos 1)) (label m) ≡ false) where
  cut_over : {pieces : List ((ℤ × ℤ) × H)} → AreCutTo alike wanted label lo hi n pieces → AreCutTo alike wanted label lo hi m pieces
  cut_over c = record {
    canonical = c.canonical;
    ends = end_before-raise n m _ low c.ends;
    values = λ x u v. by_lt_z x n (λ k. c.values x u k) (λ k. none_behind n _ x c.ends k ∙ sym (rw (passed x k v) refl));
    changes = λ h k. by_lt_z n m (λ l. apart l h)
        (λ l. let one : n ≡ m = omega (arith, ints) in subst (λ t. t ≤ℤ hi → lo <ℤ t → alike (label (t -ℤ pos 1)) (label t) ≡ false) one c.changes h k);
  }

  joined_over : {F X : Type 0} (step : F → H → X → F → Type 0) (equal : X → X → Bool) {f0 f : F} {list : List ((ℤ × ℤ) × X)}
      → IsJoinedTo step alike wanted label equal lo hi n f0 f list → IsJoinedTo step alike wanted label equal lo hi m f0 f list
  joined_over step equal j = record { pieces = j.pieces; cut = cut_over j.cut; answers = j.answers; calls = j.calls; is = j.is }

-- ---- holders of which one is wanted and the other isn't

-- they aren't the same
abbrev pub Parts : {V W : Type 0} → (Holders V W → Bool) → Type 0
Parts {V} {W} wanted = (h k : Holders V W) → wanted h ≡ false → wanted k ≡ true → same_holders h k ≡ false

pub parts_either : {V W : Type 0} → Parts (in_either {V = V} {W = W})
parts_either (None, None) (None, None) h k = cc
parts_either (None, None) (None, Some q) h k = refl
parts_either (None, None) (Some p, None) h k = refl
parts_either (None, None) (Some p, Some q) h k = refl
parts_either (None, Some q) k h l = cc
parts_either (Some p, l) k h w = cc

pub parts_first : {V W : Type 0} → Parts (in_first {V = V} {W = W})
parts_first (None, l) (None, r) h k = cc
parts_first (None, l) (Some p, r) h k = refl
parts_first (Some p, l) k h w = cc

pub parts_both : {V W : Type 0} → Parts (in_both {V = V} {W = W})
parts_both h (None, r) k l = cc
parts_both h (Some p, None) k l = cc
parts_both (None, l) (Some p, Some q) h k = refl
parts_both (Some s, None) (Some p, Some q) h k = none_other (same_holder (Some s) (Some p))
  where
    none_other : (e : Bool) → (e && false) ≡ false
    none_other true = refl
    none_other false = refl
parts_both (Some s, Some t) (Some p, Some q) h k = cc

module _ {T V W F X : Type 0} (numbers : Numbering T) (a : List ((ℤ × ℤ) × V)) (b : List ((ℤ × ℤ) × W)) (step : F → Holders V W → X → F → Type 0)
    (wanted : Holders V W → Bool) (equal : X → X → Bool) where
  -- the function was called at the wanted pieces below n, its answers became the list, and there is room for those to come
  pub record IsCalledAt (f0 f : F) (n : ℤ) (made : Making X) : Type 0 where
    pub room : pieces_from numbers.greatest n a b ≤ made.room
    pub below : EndBelow n made.list
    pub joined : IsJoinedTo step same_holders wanted (holders_at a b) equal numbers.least numbers.greatest n f0 f made.list

  pub called_none : (f : F) (made : Making X) → pieces_from numbers.greatest numbers.least a b ≤ made.room → made.list ≡ [] → IsCalledAt f f numbers.least made
  called_none f made room none = record {
    room = room;
    below = rw none tt;
    joined = rw none (joined_first step same_holders wanted (holders_at a b) equal numbers.least numbers.greatest f);
  }

  -- at the next piece that is wanted
  module _ (parts : Parts wanted) (f0 f : F) (n : ℤ) (range : T × T) (holders : Holders V W) (made : Making X) (low : numbers.least ≤ℤ numbers.number range.0)
      (begins : n ≤ℤ numbers.number range.0) (passed : AreUnwanted wanted (holders_at a b) n (numbers.number range.0))
      (held : AreHeld same_holders (holders_at a b) numbers.greatest (numbers.number range.0) (numbers.number range.1) holders) (is_wanted : wanted holders ≡ true)
      (c : IsCalledAt f0 f n made) where
    apart : n <ℤ numbers.number range.0 → numbers.number range.0 ≤ℤ numbers.greatest
        → same_holders (holders_at a b (numbers.number range.0 -ℤ pos 1)) (holders_at a b (numbers.number range.0)) ≡ false
    apart k l = subst (λ h. same_holders (holders_at a b (numbers.number range.0 -ℤ pos 1)) h ≡ false) (sym (held.holds (numbers.number range.0) (omega (arith, ints)) held.low))
        (parts _ _ (passed (numbers.number range.0 -ℤ pos 1) (omega (arith, ints)) (omega (arith, ints))) is_wanted)

    further : (pieces : List ((ℤ × ℤ) × Holders V W)) → AreCutTo same_holders wanted (holders_at a b) numbers.least numbers.greatest (numbers.number range.0) pieces
        → AreCutTo same_holders wanted (holders_at a b) numbers.least numbers.greatest (numbers.number range.1 +ℤ pos 1) (with_piece wanted pieces (in_numbers numbers range, holders))
    further pieces cut = cut_further same_holders wanted (holders_at a b) numbers.least numbers.greatest pieces (numbers.number range.0) (numbers.number range.1)
        (numbers.number range.1 +ℤ pos 1) holders low held.low held.high refl held.holds held.stops cut

    pub piece_fewer : (m : ℤ) → m ≤ℤ numbers.number range.0 → pieces_from numbers.greatest (numbers.number range.1 +ℤ pos 1) a b < pieces_from numbers.greatest m a b
    piece_fewer m before = pieces_fewer numbers.greatest a b m (numbers.number range.1) (let ordered = held.low in omega (arith, ints)) held.high
        (λ k. subst (λ h. same_holders h (holders_at a b (numbers.number range.1 +ℤ pos 1)) ≡ false) (sym (held.holds (numbers.number range.1) held.low (omega (arith, ints)))) (held.stops k))

    pub piece_below : EndBelow (numbers.number range.0) made.list
    piece_below = end_below-raise n (numbers.number range.0) made.list begins c.below

    pub piece_room : 0 < made.room
    piece_room = let room = c.room in let less = piece_fewer n begins in omega arith

    pub piece_at : (after : F) (x : X) (put : Making X) → step f holders x after → IsPut equal made.list (in_numbers numbers range) x put.list → made.room ≤ (put.room + 1)
        → IsCalledAt f0 after (numbers.number range.1 +ℤ pos 1) put
    piece_at after x put called is room = record {
      room = let before = c.room in let less = piece_fewer n begins in omega arith;
      below = is.labelled.behind;
      joined = joined_call step same_holders wanted (holders_at a b) equal numbers.least numbers.greatest (numbers.number range.0) (numbers.number range.1 +ℤ pos 1)
          (in_numbers numbers range, holders) further f0 f after made.list put.list x is_wanted called is.is
          (joined_over same_holders wanted (holders_at a b) numbers.least numbers.greatest n (numbers.number range.0) begins passed apart step equal c.joined);
    }

  pub called_end : (f0 f : F) (n : ℤ) (made : Making X) → n ≤ℤ (numbers.greatest +ℤ pos 1) → AreUnwanted wanted (holders_at a b) n (numbers.greatest +ℤ pos 1) → IsCalledAt f0 f n made
      → IsJoin step same_holders wanted (holders_at a b) equal numbers.least numbers.greatest f0 made.list
  called_end f0 f n made high none c = joined_all step same_holders wanted (holders_at a b) equal numbers.least numbers.greatest (numbers.greatest +ℤ pos 1) f0 f made.list refl
      (joined_over same_holders wanted (holders_at a b) numbers.least numbers.greatest n (numbers.greatest +ℤ pos 1) high none (λ k l. absurd (omega (arith, ints))) step equal c.joined)

-- ---- along a walk

module _ {T V W F X : Type 0} (numbers : Numbering T) (same : V → V → Bool) (other : W → W → Bool) (a : List ((ℤ × ℤ) × V)) (b : List ((ℤ × ℤ) × W))
    (step : F → Holders V W → X → F → Type 0) (wanted : Holders V W → Bool) (equal : X → X → Bool) where
  -- the function was called at the wanted pieces in front of the walk
  pub record IsCalledTo (f0 f : F) (walk : Walk T V W) (made : Making X) : Type 0 where
    pub stands : IsWalk numbers same other walk
    pub left : left_of numbers walk ≡ a
    pub right : right_of numbers walk ≡ b
    pub called : IsCalledAt numbers a b step wanted equal f0 f (next_number numbers walk.start) made

  pub called_first : (f : F) (walk : Walk T V W) (made : Making X) → IsWalk numbers same other walk → left_of numbers walk ≡ a → right_of numbers walk ≡ b
      → next_number numbers walk.start ≡ numbers.least → pieces_to_come numbers walk ≤ made.room → made.list ≡ [] → IsCalledTo f f walk made
  called_first f walk made is left right start room none = record {
    stands = is;
    left = left;
    right = right;
    called = rw start (called_none numbers a b step wanted equal f made (rw (start, left, right) at room) none);
  }

  module _ (parts : Parts wanted) (f0 f : F) (old new : Walk T V W) (range : T × T) (values : Option V × Option W) (made : Making X)
      (next : IsNextOf numbers wanted old range values new) (c : IsCalledTo f0 f old made) where
    held : AreHeld same_holders (holders_at a b) numbers.greatest (numbers.number range.0) (numbers.number range.1) next.holders
    held = rw (c.left, c.right) at next.held

    passed : AreUnwanted wanted (holders_at a b) (next_number numbers old.start) (numbers.number range.0)
    passed = rw (c.left, c.right) at next.passed

    pub called_below : EndBelow (numbers.number range.0) made.list
    called_below = piece_below numbers a b step wanted equal parts f0 f _ range _ made next.low next.begins passed held next.is_wanted c.called

    pub called_room : 0 < made.room
    called_room = piece_room numbers a b step wanted equal parts f0 f _ range _ made next.low next.begins passed held next.is_wanted c.called

    module _ (left : new.left ≡ old.left) (right : new.right ≡ old.right) where
      same_left : left_of numbers new ≡ a
      same_left = ap (λ l. pairs_in_numbers numbers l.now) left ∙ c.left

      same_right : right_of numbers new ≡ b
      same_right = ap (λ l. pairs_in_numbers numbers l.now) right ∙ c.right

      pub called_fewer : pieces_to_come numbers new < pieces_to_come numbers old
      called_fewer = rw (same_left, same_right, c.left, c.right, next.goes_on)
          (piece_fewer numbers a b step wanted equal parts f0 f _ range _ made next.low next.begins passed held next.is_wanted c.called _ next.begins)

      pub called_at : (after : F) (x : X) (put : Making X) → IsWalk numbers same other new → step f next.holders x after
          → IsPut equal made.list (in_numbers numbers range) x put.list → made.room ≤ (put.room + 1) → IsCalledTo f0 after new put
      called_at after x put stands called is room = record {
        stands = stands;
        left = same_left;
        right = same_right;
        called = rw next.goes_on
            (piece_at numbers a b step wanted equal parts f0 f _ range _ made next.low next.begins passed held next.is_wanted c.called after x put called is room);
      }

  pub called_all : (f0 f : F) (walk : Walk T V W) (made : Making X) → NoneIsNext numbers wanted walk → IsCalledTo f0 f walk made
      → IsJoin step same_holders wanted (holders_at a b) equal numbers.least numbers.greatest f0 made.list
  called_all f0 f walk made none c = called_end numbers a b step wanted equal f0 f (next_number numbers walk.start) made c.stands.high (rw (c.left, c.right) at none) c.called

-- ---- along the left list

-- the first range begins at n or behind it
abbrev pub BeginsFrom : {V : Type 0} → ℤ → List ((ℤ × ℤ) × V) → Type 0
BeginsFrom n [] = Unit {0}
BeginsFrom n (p ∷ rest) = n ≤ℤ p.0.0

begins_first : {V : Type 0} (same : V → V → Bool) (lo hi : ℤ) (list : List ((ℤ × ℤ) × V)) → IsCanonicalMap same lo hi list → BeginsFrom lo list
begins_first same lo hi [] c = tt
begins_first same lo hi (p ∷ rest) c = c.0

module _ {T V W : Type 0} (numbers : Numbering T) (a : List ((ℤ × ℤ) × V)) (b : List ((ℤ × ℤ) × W)) where
  -- more than the calls that may come from the key on
  abbrev pub calls_from : Option T → ℕ
  calls_from None = 0
  calls_from (Some key) = 1 + pieces_from numbers.greatest (numbers.number key) a b

module _ {T V W F X : Type 0} (numbers : Numbering T) (same : V → V → Bool) (other : W → W → Bool) (a : List ((ℤ × ℤ) × V)) (b : List ((ℤ × ℤ) × W))
    (step : F → Holders V W → X → F → Type 0) (equal : X → X → Bool) where
  -- the function was called at the pieces of the left list below a number; of the right list no more has gone than ends before it
  pub record IsCalledFrom (f0 f : F) (left : List ((ℤ × ℤ) × V)) (right : List ((ℤ × ℤ) × W)) (made : Making X) : Type 0 where
    pub from : ℤ
    pub high : from ≤ℤ (numbers.greatest +ℤ pos 1)
    pub on_left : IsLeft same numbers.greatest numbers.least a left from
    pub before : ℤ
    pub lag : before ≤ℤ from
    pub on_right : IsLeft other numbers.greatest numbers.least b right before
    pub called : IsCalledAt numbers a b step in_first equal f0 f from made

  -- and the next pair hasn't begun
  abbrev pub IsCalledBehind : F → F → List ((ℤ × ℤ) × V) → List ((ℤ × ℤ) × W) → Making X → Type 0
  IsCalledBehind f0 f left right made = (c : IsCalledFrom f0 f left right made) × BeginsFrom c.from left

  -- it goes on within the pair p at a key, or behind it
  abbrev pub IsCalledWithin : F → F → (ℤ × ℤ) × V → List ((ℤ × ℤ) × V) → List ((ℤ × ℤ) × W) → Option T → Making X → Type 0
  IsCalledWithin f0 f p left right None made = IsCalledBehind f0 f left right made
  IsCalledWithin f0 f p left right (Some key) made = (c : IsCalledFrom f0 f (p ∷ left) right made) × (numbers.number key ≡ int_max c.from p.0.0)

  pub from_first : (f : F) (made : Making X) → IsCanonicalMap same numbers.least numbers.greatest a → IsCanonicalMap other numbers.least numbers.greatest b
      → numbers.least ≤ℤ (numbers.greatest +ℤ pos 1) → pieces_from numbers.greatest numbers.least a b ≤ made.room → made.list ≡ [] → IsCalledBehind f f a b made
  from_first f made on_left on_right high room none = (
    record {
      from = numbers.least;
      high = high;
      on_left = left_first same numbers.greatest numbers.least a on_left;
      before = numbers.least;
      lag = omega (arith, ints);
      on_right = left_first other numbers.greatest numbers.least b on_right;
      called = called_none numbers a b step in_first equal f made room none;
    },
    begins_first same numbers.least numbers.greatest a on_left,
  )

  -- at the first key of the next pair
  pub from_within : (f0 f : F) (p : (ℤ × ℤ) × V) (left : List ((ℤ × ℤ) × V)) (right : List ((ℤ × ℤ) × W)) (made : Making X) → IsCalledBehind f0 f (p ∷ left) right made
      → (c : IsCalledFrom f0 f (p ∷ left) right made) × (p.0.0 ≡ int_max c.from p.0.0)
  from_within f0 f p left right made c = (c.0, max_right_is c.0.from p.0.0 c.1)

  pub from_all : (f0 f : F) (right : List ((ℤ × ℤ) × W)) (made : Making X) → IsCalledFrom f0 f [] right made
      → IsJoin step same_holders in_first (holders_at a b) equal numbers.least numbers.greatest f0 made.list
  from_all f0 f right made c = called_end numbers a b step in_first equal f0 f c.from made c.high
      (unwanted_left same other numbers.least numbers.greatest c.from a b (numbers.greatest +ℤ pos 1) c.on_left) c.called

  module _ (f0 f : F) (p : (ℤ × ℤ) × V) (left : List ((ℤ × ℤ) × V)) (right now : List ((ℤ × ℤ) × W)) (made : Making X) (c : IsCalledFrom f0 f (p ∷ left) right made)
      (range : T × T) (e : ℤ) (begins : numbers.number range.0 ≡ int_max c.from p.0.0) (right_from : now ≡ ranges_from (numbers.number range.0) right)
      (right_end : e ≡ first_end numbers.greatest (numbers.number range.0) now) (least : numbers.number range.1 ≡ int_min p.0.1 e) where
    least_is : numbers.number range.1 ≡ int_min p.0.1 (first_end numbers.greatest (numbers.number range.0) (ranges_from (numbers.number range.0) right))
    least_is = rw (right_end, right_from) at least

    pub within_held : AreHeld same_holders (holders_at a b) numbers.greatest (numbers.number range.0) (numbers.number range.1) (Some p, first_holder (numbers.number range.0) now)
    within_held = rw right_from (left_held same other numbers.least numbers.greatest c.from c.before _ _ a left p b right c.on_left c.lag c.on_right begins least_is)

    above : numbers.least ≤ℤ numbers.number range.0
    above = start_above same other numbers.least numbers.greatest c.from c.before _ _ a left p b right c.on_left c.lag c.on_right begins least_is

    start : c.from ≤ℤ numbers.number range.0
    start = start_low same other numbers.least numbers.greatest c.from c.before _ _ a left p b right c.on_left c.lag c.on_right begins least_is

    unwanted : AreUnwanted in_first (holders_at a b) c.from (numbers.number range.0)
    unwanted = rw begins (unwanted_before same other numbers.least numbers.greatest c.from a b p left c.on_left)

    pub within_below : EndBelow (numbers.number range.0) made.list
    within_below = piece_below numbers a b step in_first equal parts_first f0 f _ range _ made above start unwanted within_held refl c.called

    pub within_room : 0 < made.room
    within_room = piece_room numbers a b step in_first equal parts_first f0 f _ range _ made above start unwanted within_held refl c.called

    pub within_fewer : (next : Option T) → IfSome next (λ key. numbers.number key ≡ numbers.number range.1 +ℤ pos 1) → calls_from numbers a b next < calls_from numbers a b (Some range.0)
    within_fewer None behind = omega arith
    within_fewer (Some k) behind = rw behind
        (let less = piece_fewer numbers a b step in_first equal parts_first f0 f _ range _ made above start unwanted within_held refl c.called (numbers.number range.0) (omega (arith, ints)) in omega arith)

    pub within_at : (next : Option T) (after : F) (x : X) (put : Making X) → IfSome next (λ key. numbers.number key ≡ numbers.number range.1 +ℤ pos 1)
        → IfSome next (λ key. numbers.number range.1 <ℤ p.0.1) → IfNone next (p.0.1 ≤ℤ numbers.number range.1) → step f (Some p, first_holder (numbers.number range.0) now) x after
        → IsPut equal made.list (in_numbers numbers range) x put.list → made.room ≤ (put.room + 1) → IsCalledWithin f0 after p left now next put
    within_at next after x put key inside behind called is room = at next key inside behind
      where
        at_next : IsCalledAt numbers a b step in_first equal f0 after (numbers.number range.1 +ℤ pos 1) put
        at_next = piece_at numbers a b step in_first equal parts_first f0 f _ range _ made above start unwanted within_held refl c.called after x put called is room

        on_now : IsLeft other numbers.greatest numbers.least b now (numbers.number range.0)
        on_now = rw right_from (right_there same other numbers.least numbers.greatest c.from c.before _ _ a left p b right c.on_left c.lag c.on_right begins least_is)

        at_end : p.0.1 ≤ℤ numbers.number range.1 → numbers.number range.1 +ℤ pos 1 ≡ p.0.1 +ℤ pos 1
        at_end behind = let most : numbers.number range.1 ≤ℤ p.0.1 = rw least (min_low p.0.1 e) in omega (arith, ints)

        at : (next : Option T) → IfSome next (λ key. numbers.number key ≡ numbers.number range.1 +ℤ pos 1) → IfSome next (λ key. numbers.number range.1 <ℤ p.0.1)
            → IfNone next (p.0.1 ≤ℤ numbers.number range.1) → IsCalledWithin f0 after p left now next put
        at None key inside behind = (
          record {
            from = numbers.number range.1 +ℤ pos 1;
            high = let most = within_held.high in omega (arith, ints);
            on_left = left_goes same numbers.greatest numbers.least a left p c.from (numbers.number range.1 +ℤ pos 1) (let before = start in let ordered = within_held.low in omega (arith, ints)) c.on_left
                (at_end behind);
            before = numbers.number range.0;
            lag = let ordered = within_held.low in omega (arith, ints);
            on_right = on_now;
            called = at_next;
          },
          rw (at_end behind) (begins_first same (p.0.1 +ℤ pos 1) numbers.greatest left c.on_left.canonical.4),
        )
        at (Some k) key inside behind = (
          record {
            from = numbers.number range.1 +ℤ pos 1;
            high = let most = within_held.high in omega (arith, ints);
            on_left = left_stays same numbers.greatest numbers.least a (p ∷ left) c.from (numbers.number range.1 +ℤ pos 1) (let before = start in let ordered = within_held.low in omega (arith, ints)) c.on_left
                (omega (arith, ints));
            before = numbers.number range.0;
            lag = let ordered = within_held.low in omega (arith, ints);
            on_right = on_now;
            called = at_next;
          },
          key ∙ max_left_is (numbers.number range.1 +ℤ pos 1) p.0.0 (let ordered = within_held.low in let after = max_right c.from p.0.0 in omega (arith, ints)),
        )
