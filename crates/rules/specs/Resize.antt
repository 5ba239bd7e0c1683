-- A block that grows or shrinks where it lies, among the holes. Definitions only.
use Rattle.std.specs.Prelude.{List, [], ◌∷◌, ◌++◌, cond, ℕ}
use Rattle.rules.specs.declared.Addr.{Addr}
use Rattle.rules.specs.declared.Hole.{Hole}
use Rattle.rules.specs.Kinds.{plus, before}
use Rattle.rules.specs.Holes.{end}
use Rattle.rules.specs.Allocate.{remains}
use Rattle.rules.specs.Free.{touch}

-- the stretch is the block plus the hole that touches its end, if any: where it ends
unfoldable pub stretch_end : Hole → List Hole → Addr
stretch_end g [] = end g
stretch_end g (k ∷ ks) = cond (touch g k) (end k) (stretch_end g ks)

-- the block keeps its address and has s bytes: the rest of the stretch, in front of holes behind the block
unfoldable pub rest_in_front : Hole → ℕ → List Hole → List Hole
rest_in_front g s [] = remains (plus g.addr s) (end g)
rest_in_front g s (k ∷ ks) =
    cond (touch g k) (remains (plus g.addr s) (end k) ++ ks) (remains (plus g.addr s) (end g) ++ (k ∷ ks))

-- that rest is a hole or nothing, in its turn by address
unfoldable pub resized : Hole → ℕ → List Hole → List Hole
resized g s [] = rest_in_front g s []
resized g s (k ∷ ks) = cond (before g.addr k.addr) (rest_in_front g s (k ∷ ks)) (k ∷ resized g s ks)
