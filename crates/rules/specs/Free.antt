-- A span that becomes free, among the holes. Definitions only.
use Rattle.std.specs.Prelude.{List, [], ◌∷◌, Bool, false, ◌||◌, cond, ◌+◌}
use Rattle.rules.specs.declared.Addr.{Addr}
use Rattle.rules.specs.declared.Hole.{Hole}
use Rattle.rules.specs.Fixed.{grain}
use Rattle.rules.specs.Tests.{all, any}
use Rattle.rules.specs.Kinds.{plus, same, before}
use Rattle.rules.specs.Holes.{hole, end}

-- one stretch ends where the other starts
abbrev pub touch : Hole → Hole → Bool
touch g k = same (end g) k.addr

-- both as one
abbrev pub joined : Hole → Hole → Hole
joined g k = hole g.addr (g.size + k.size)

-- a stretch in front of holes, joined with the first if it touches it
unfoldable pub in_front : Hole → List Hole → List Hole
in_front g [] = g ∷ []
in_front g (k ∷ ks) = cond (touch g k) (joined g k ∷ ks) (g ∷ k ∷ ks)

-- the span becomes a hole, in its turn by address, and joins every hole that it touches
unfoldable pub freed : Hole → List Hole → List Hole
freed g [] = g ∷ []
freed g (k ∷ ks) =
    cond (before g.addr k.addr)
    (in_front g (k ∷ ks))
    (cond (touch k g) (in_front (joined k g) ks) (k ∷ freed g ks))

-- ---- what stands against it

-- the span overlaps a hole
unfoldable pub overlaps : Hole → List Hole → Bool
overlaps g [] = false
overlaps g (k ∷ ks) = all (before g.addr (end k) ∷ before k.addr (end g) ∷ []) || overlaps g ks

-- exactly 8 bytes lie between one address and the other
abbrev pub eight : Addr → Addr → Bool
eight lo hi = same (plus lo grain) hi

-- exactly 8 bytes would stay between the span and a hole
unfoldable pub eight_to_hole : Hole → List Hole → Bool
eight_to_hole g [] = false
eight_to_hole g (k ∷ ks) = any (eight (end g) k.addr ∷ eight (end k) g.addr ∷ []) || eight_to_hole g ks
