-- Heaps: lists in which no element is less than the one above it. Above the two at 2 * i + 1 and 2 * i + 2 stands the one at i.
use Rattle.std.specs.Prelude.{◌≡◌, ℕ, ◌+◌, ◌*◌, ◌<◌, ◌≤◌, ◌⊎◌, Bool, false, List, length, slice_index_or}

-- the element at c is one of the two children of the one at i
abbrev pub IsChild : ℕ → ℕ → Type 0
IsChild i c = (c ≡ 2 * i + 1) ⊎ (c ≡ 2 * i + 2)

module _ {X : Type 0} (less : X → X → Bool) where
  -- from the place `from` on, no element has a child that is less
  abbrev pub IsHeapFrom : ℕ → List X → Type 0
  IsHeapFrom from xs = (i c : ℕ) (d : X) → IsChild i c → from ≤ i → c < length xs
      → less (slice_index_or xs c d) (slice_index_or xs i d) ≡ false

  -- no element has a child that is less
  abbrev pub IsHeap : List X → Type 0
  IsHeap xs = IsHeapFrom 0 xs

  -- From the place `from` on no element but the one at `hole` has a child that is less. The children of that one are not less than
  -- the element above it.
  pub record IsHeapBut (from hole : ℕ) (xs : List X) : Type 0 where
    pub begins : from ≤ hole
    pub others : (i c : ℕ) (d : X) → IsChild i c → from ≤ i → c < length xs → (i ≡ hole → ⊥)
        → less (slice_index_or xs c d) (slice_index_or xs i d) ≡ false
    pub past : (i c : ℕ) (d : X) → IsChild i hole → IsChild hole c → from ≤ i → c < length xs
        → less (slice_index_or xs c d) (slice_index_or xs i d) ≡ false

  -- the element at c is a child of the one at i, and no child of that one is less
  pub record IsLeastChild (i c : ℕ) (xs : List X) : Type 0 where
    pub child : IsChild i c
    pub within : c < length xs
    pub least : (k : ℕ) (d : X) → IsChild i k → k < length xs → less (slice_index_or xs k d) (slice_index_or xs c d) ≡ false
