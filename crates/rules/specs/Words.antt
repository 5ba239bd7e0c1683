-- Numbers in bytes, low byte first. Definitions only.
use Rattle.std.specs.Prelude.{List, ℕ, zero, suc, ◌+◌, ◌*◌, ◌/◌, ◌%◌, get_or, set}

-- the number in the n bytes from index i on
unfoldable pub word : ℕ → List ℕ → ℕ → ℕ
word zero m i = 0
word (suc n) m i = get_or m i 0 + 256 * word n m (i + 1)

-- the bytes m with the number x in the n bytes from index i on
unfoldable pub store : ℕ → List ℕ → ℕ → ℕ → List ℕ
store zero m i x = m
store (suc n) m i x = store n (set m i (x % 256)) (i + 1) (x / 256)
