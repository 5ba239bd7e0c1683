-- What the contracts of the code that prints cite. Definitions only.
use Rattle.std.specs.Prelude.{List, [], ◌∷◌, ◌++◌, ℕ}
use Rattle.lines.specs.Lines.{line}

-- per hole of two rows, addresses and sizes, a line 20, address, size
unfoldable pub row_lines : List ℕ → List ℕ → List ℕ
row_lines [] sizes = []
row_lines (a ∷ addrs) [] = []
row_lines (a ∷ addrs) (s ∷ sizes) = line 0x20 a s ++ row_lines addrs sizes
