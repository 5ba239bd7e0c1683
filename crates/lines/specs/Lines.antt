-- Lines on the wire: answers printed. Definitions only.
use Rattle.std.specs.Prelude.{cond, List, [], ◌∷◌, ◌++◌, ℕ, zero, suc, ◌+◌, ◌/◌, ◌%◌, ltb}

-- the digit of a value below 16
unfoldable pub glyph : ℕ → ℕ
glyph d = cond (ltb d 10) (48 + d) (87 + d)

-- the last n digits of a number, high digit first
unfoldable pub hex : ℕ → ℕ → List ℕ
hex zero x = []
hex (suc n) x = hex n (x / 16) ++ (glyph (x % 16) ∷ [])

unfoldable pub line : ℕ → ℕ → ℕ → List ℕ
line code one two = hex 2 code ++ (hex 16 one ++ (hex 16 two ++ (10 ∷ [])))
