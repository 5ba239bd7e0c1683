-- What a number written into bytes leaves, and what a number read from bytes is, at every width n. Assumes nothing.
use mathlib.Core.Path.{◌≡◌, refl, ap, ◌∙◌}
use mathlib.Core.Logic.{◌⊎◌, inl, inr}
use mathlib.Core.List.{List}
use Prim.Native.Nat.{ℕ, zero, suc, ◌+◌, ◌*◌, ◌/◌, ◌%◌, ◌^◌, ◌≤◌, ◌<◌}
use native.Mathlib.Omega.{arith}
use lib.ListN.{length, get_or, take, drop, set, length-set}
use lib.Seq.{
  get_or-set_same,
  get_or-set_other,
  set-get_or,
  set_out,
  take-set-le,
  take-set-lt,
  drop-set-lt,
  drop-set-add,
}
use Rattle.rules.specs.Words.{word, store}
use Rattle.rules.specs.Inner.{Bytes}
use Rattle.rules.proofs.Cases.{by_eq, by_le}

-- the k bytes from index i on are the same in both
abbrev pub Agree : List ℕ → List ℕ → ℕ → ℕ → Type 0
Agree m m' i k = (j : ℕ) → i ≤ j → j < i + k → get_or m j 0 ≡ get_or m' j 0

-- ---- reading

pub word_agree : (n : ℕ) (m m' : List ℕ) (i : ℕ) → Agree m m' i n → word n m i ≡ word n m' i
unfolding word
word_agree zero m m' i h = refl
word_agree (suc n) m m' i h =
    let low = h i (omega arith) (omega arith) in
    let high = word_agree n m m' (i + 1) (λ j a b. h j (omega arith) (omega arith)) in
    cc

-- ---- writing leaves the rest

pub store_length : (n : ℕ) (m : List ℕ) (i x : ℕ) → length (store n m i x) ≡ length m
unfolding store
store_length zero m i x = refl
store_length (suc n) m i x = store_length n (set m i (x % 256)) (i + 1) (x / 256) ∙ length-set m i (x % 256)

pub store_below : (n : ℕ) (m : List ℕ) (i x j : ℕ) → j < i → get_or (store n m i x) j 0 ≡ get_or m j 0
unfolding store
store_below zero m i x j h = refl
store_below (suc n) m i x j h =
    store_below n (set m i (x % 256)) (i + 1) (x / 256) j (omega arith) ∙ get_or-set_other m i j (x % 256) 0 (omega arith)

pub store_above : (n : ℕ) (m : List ℕ) (i x j : ℕ) → i + n ≤ j → get_or (store n m i x) j 0 ≡ get_or m j 0
unfolding store
store_above zero m i x j h = refl
store_above (suc n) m i x j h =
    store_above n (set m i (x % 256)) (i + 1) (x / 256) j (omega arith) ∙ get_or-set_other m i j (x % 256) 0 (omega arith)

-- words elsewhere stay
pub word_else : (k n : ℕ) (m : List ℕ) (i x p : ℕ) → (p + k ≤ i) ⊎ (i + n ≤ p) → word k (store n m i x) p ≡ word k m p
word_else k n m i x p (inl h) =
    word_agree k (store n m i x) m p (λ j a b. store_below n m i x j (omega arith))
word_else k n m i x p (inr h) =
    word_agree k (store n m i x) m p (λ j a b. store_above n m i x j (omega arith))

-- a byte that a write sets is one; the others are as they were
set_bytes : (m : List ℕ) (i x : ℕ) → x < 256 → Bytes m → Bytes (set m i x)
set_bytes m i x l s j =
    by_eq j i
    (λ e.
    by_le (length m) i
    (λ out. rw (set_out m i x out) (s j))
    (λ in'. rw (e, get_or-set_same m i x 0 in') l))
    (λ e. rw (get_or-set_other m i j x 0 e) (s j))

pub store_bytes : (n : ℕ) (m : List ℕ) (i x : ℕ) → Bytes m → Bytes (store n m i x)
unfolding store
store_bytes zero m i x s = s
store_bytes (suc n) m i x s =
    store_bytes n (set m i (x % 256)) (i + 1) (x / 256) (set_bytes m i (x % 256) (omega arith) s)

-- ---- what was written

-- what was written is read back
pub word_store : (n : ℕ) (m : List ℕ) (i x : ℕ) → i + n ≤ length m → x < 256 ^ n → word n (store n m i x) i ≡ x
unfolding word store
word_store zero m i x h l = omega arith
word_store (suc n) m i x h l =
    let m₁ = set m i (x % 256) in
    let low : get_or (store n m₁ (i + 1) (x / 256)) i 0 ≡ x % 256 =
    store_below n m₁ (i + 1) (x / 256) i (omega arith) ∙ get_or-set_same m i (x % 256) 0 (omega arith) in
    let high : word n (store n m₁ (i + 1) (x / 256)) (i + 1) ≡ x / 256 =
    word_store n m₁ (i + 1) (x / 256) (omega (arith, length-set m i (x % 256))) (omega arith) in
    omega arith

-- what is read may be written again with no change
pub store_same : (n : ℕ) (m : List ℕ) (i : ℕ) → Bytes m → store n m i (word n m i) ≡ m
unfolding store word
store_same zero m i s = refl
store_same (suc n) m i s =
    let b = get_or m i 0 in
    let w = word n m (i + 1) in
    let byte = s i in
    let low : (b + 256 * w) % 256 ≡ b = omega arith in
    let high : (b + 256 * w) / 256 ≡ w = omega arith in
    let put = set-get_or m i 0 in
    let rest = store_same n m (i + 1) s in
    cc

-- ---- a write, and a part of the bytes

-- what lies before a write
pub take_store_le : (n a : ℕ) (m : List ℕ) (i x : ℕ) → a ≤ i → take a (store n m i x) ≡ take a m
unfolding store
take_store_le zero a m i x h = refl
take_store_le (suc n) a m i x h =
    take_store_le n a (set m i (x % 256)) (i + 1) (x / 256) (omega arith) ∙ take-set-le a m i (x % 256) h

-- what lies behind it
pub drop_store_le : (n k : ℕ) (m : List ℕ) (i x : ℕ) → i + n ≤ k → drop k (store n m i x) ≡ drop k m
unfolding store
drop_store_le zero k m i x h = refl
drop_store_le (suc n) k m i x h =
    drop_store_le n k (set m i (x % 256)) (i + 1) (x / 256) (omega arith) ∙ drop-set-lt k m i (x % 256) (omega arith)

-- a part that holds it, from the front
pub take_store : (n k : ℕ) (m : List ℕ) (i x : ℕ) → i + n ≤ k → take k (store n m i x) ≡ store n (take k m) i x
unfolding store
take_store zero k m i x h = refl
take_store (suc n) k m i x h =
    take_store n k (set m i (x % 256)) (i + 1) (x / 256) (omega arith)
    ∙ ap (λ (l : List ℕ). store n l (i + 1) (x / 256)) (take-set-lt k m i (x % 256) (omega arith))

-- a part that holds it, to the end
pub drop_store : (n a : ℕ) (m : List ℕ) (i x : ℕ) → drop a (store n m (a + i) x) ≡ store n (drop a m) i x
unfolding store
drop_store zero a m i x = refl
drop_store (suc n) a m i x =
    let m₁ = set m (a + i) (x % 256) in
    let next : a + i + 1 ≡ a + (i + 1) = omega arith in
    let byte = drop-set-add a m i (x % 256) in
    let rest = drop_store n a m₁ (i + 1) (x / 256) in
    cc
