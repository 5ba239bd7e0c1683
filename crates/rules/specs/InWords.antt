-- The paper's words as statements: what the demands speak of, apart from the tests that compute it. Definitions only.
use Rattle.std.specs.Prelude.{◌≡◌, ◌⊎◌, ℕ, ◌+◌, ◌*◌, ◌-◌, ◌%◌, ◌^◌, ◌≤◌, ◌<◌, get_or}
use mathlib.Core.List.{List, [], ◌∷◌, ◌++◌, Memᴰ}
use Rattle.rules.specs.declared.Hole.{Hole}
use Rattle.rules.specs.declared.Heap.{Heap}
use Rattle.rules.specs.Round.{Power, Below, Above}

-- no bytes, or at least 16, from lo to hi
abbrev pub Gap : ℕ → ℕ → Type 0
Gap lo hi = (lo ≡ hi) ⊎ (lo + 16 ≤ hi)

abbrev pub end_of : Hole → ℕ
end_of k = k.addr.0 + k.size

-- the sizes of the holes add up to
abbrev pub sum : List Hole → ℕ
sum [] = 0
sum (k ∷ ks) = k.size + sum ks

-- an arena has at most 16,777,216 bytes
abbrev pub most_bytes : ℕ
most_bytes = 16777216

-- ---- a heap is sound

pub record SoundNumbers (h : Heap) : Type 0 where
  pub base : 1 ≤ h.base.0
  pub arena : h.len ≤ most_bytes
  pub low : h.base.0 + h.len ≤ 2 ^ 63
  pub bottom : Above 8 h.base.0 h.bottom.0
  pub eight : (h.top.0 - h.bottom.0) % 8 ≡ 0
  pub sixteen : h.bottom.0 + 16 ≤ h.top.0
  pub pending : h.pending ≤ 15
  pub fits : h.top.0 + h.pending ≤ h.base.0 + h.len

pub record SoundHole (h : Heap) (k : Hole) : Type 0 where
  pub place : k.addr.0 % 8 ≡ 0
  pub eight : k.size % 8 ≡ 0
  pub sixteen : 16 ≤ k.size
  pub from : h.bottom.0 ≤ k.addr.0
  pub to : end_of k ≤ h.top.0

pub record SoundHoles (h : Heap) (ks : List Hole) : Type 0 where
  pub each : (k : Hole) → Memᴰ k ks → SoundHole h k
  pub rise : (front back : List Hole) (j k : Hole) → ks ≡ front ++ (j ∷ k ∷ back) → end_of j + 16 ≤ k.addr.0
  pub first : (k : Hole) (back : List Hole) → ks ≡ k ∷ back → Gap h.bottom.0 k.addr.0
  pub last : (front : List Hole) (k : Hole) → ks ≡ front ++ (k ∷ []) → Gap (end_of k) h.top.0
  pub sums : sum ks + h.used ≡ h.top.0 - h.bottom.0

abbrev pub Sound : Heap → List Hole → Type 0
Sound h ks = SoundNumbers h × SoundHoles h ks

-- ---- what the bytes hold

-- the number in the 8 bytes from index i on, low byte first
abbrev pub number : List ℕ → ℕ → ℕ
number m i =
    get_or m i 0
    + 2 ^ 8 * get_or m (i + 1) 0
    + 2 ^ 16 * get_or m (i + 2) 0
    + 2 ^ 24 * get_or m (i + 3) 0
    + 2 ^ 32 * get_or m (i + 4) 0
    + 2 ^ 40 * get_or m (i + 5) 0
    + 2 ^ 48 * get_or m (i + 6) 0
    + 2 ^ 56 * get_or m (i + 7) 0

-- the heads from a place on hold these holes: size, then the place of the next head, all ones for none
abbrev pub Hold : ℕ → List ℕ → ℕ → List Hole → Type 0
Hold base m p [] = p ≡ 2 ^ 64 - 1
Hold base m p (k ∷ ks) =
    (p ≡ 2 ^ 64 - 1 → ⊥)
    × (k.addr.0 ≡ base + p)
    × (k.size ≡ number m p)
    × Hold base m (number m (p + 8)) ks

-- ---- what a request takes

-- r is the larger of size and 16, rounded up to 8
pub record Rounds (size r : ℕ) : Type 0 where
  pub multiple : r % 8 ≡ 0
  pub covers : size ≤ r
  pub sixteen : 16 ≤ r
  pub least : (y : ℕ) → y % 8 ≡ 0 → size ≤ y → 16 ≤ y → r ≤ y

-- a valid layout with its rounded size
pub record Valid (size align r : ℕ) : Type 0 where
  pub fits : align < 2 ^ 64
  pub power : Power align
  pub rounds : Rounds size r
  pub room : r + align ≤ 2 ^ 63

-- x is an address for r bytes in the hole k: a multiple of the alignment, with 0 or at least 16 bytes left on each side
pub record Lies (r align : ℕ) (k : Hole) (x : ℕ) : Type 0 where
  pub multiple : x % align ≡ 0
  pub from : k.addr.0 ≤ x
  pub to : x + r ≤ end_of k
  pub front : Gap k.addr.0 x
  pub back : Gap (x + r) (end_of k)

-- there is room at x
abbrev pub RoomAt : ℕ → ℕ → List Hole → ℕ → Type 0
RoomAt r align ks x = (k : Hole) × Memᴰ k ks × Lies r align k x

-- ---- which addresses are free

-- the address y lies in the s bytes from x on
abbrev pub Within : ℕ → ℕ → ℕ → Type 0
Within x s y = (x ≤ y) × (y < x + s)

-- the address y lies in one of the holes
abbrev pub Vacant : List Hole → ℕ → Type 0
Vacant ks y = (k : Hole) × Memᴰ k ks × Within k.addr.0 k.size y

-- ---- why the box says no

-- what is left of the named size behind bottom, rounded down to 8, is s
pub record Left (base named bottom s : ℕ) : Type 0 where
  pub up : Above 8 base bottom
  pub down : Below 8 (named - (bottom - base)) s

abbrev pub NoStart : ℕ → ℕ → ℕ → Type 0
NoStart len base named =
    (base ≡ 0)
    ⊎ (most_bytes < len)
    ⊎ (2 ^ 63 < base + len)
    ⊎ (len < named)
    ⊎ ((bottom : ℕ) × (s : ℕ) × Left base named bottom s × (s < 16))

-- the stretch of the block of r bytes at x, which is the block plus the hole that touches its end, if any, ends at e
abbrev pub StretchEnds : List Hole → ℕ → ℕ → ℕ → Type 0
StretchEnds ks x r e =
    ((k : Hole) × Memᴰ k ks × (k.addr.0 ≡ x + r) × (end_of k ≡ e))
    ⊎ (((k : Hole) → Memᴰ k ks → k.addr.0 ≡ x + r → ⊥) × (x + r ≡ e))

-- the stretch less q bytes is neither 0 nor at least 16
abbrev pub NoStretch : List Hole → ℕ → ℕ → ℕ → Type 0
NoStretch ks x r q = (e : ℕ) × StretchEnds ks x r e × (Gap (x + q) e → ⊥)

-- the alignment is not a power of two, or the rounded size is above 2^63 − alignment
abbrev pub NoLayout : ℕ → ℕ → Type 0
NoLayout size align = (Power align → ⊥) ⊎ ((r : ℕ) × Rounds size r × (2 ^ 63 < r + align))

-- the span of r bytes at x is no block that could have been held
abbrev pub NoSpan : Heap → List Hole → ℕ → ℕ → ℕ → Type 0
NoSpan h ks x r align =
    (x % 8 ≡ 0 → ⊥)
    ⊎ (x % align ≡ 0 → ⊥)
    ⊎ (x < h.bottom.0)
    ⊎ (h.top.0 < x + r)
    -- it overlaps a hole
    ⊎ ((k : Hole) × Memᴰ k ks × (x < end_of k) × (k.addr.0 < x + r))
    -- exactly 8 bytes would stay between it and a hole, bottom or top
    ⊎ ((k : Hole) × Memᴰ k ks × ((x + r + 8 ≡ k.addr.0) ⊎ (end_of k + 8 ≡ x)))
    ⊎ (h.bottom.0 + 8 ≡ x)
    ⊎ (x + r + 8 ≡ h.top.0)
