-- The rounded size; the hole that an allocation uses, and what is left of it. Definitions only.
use Rattle.std.specs.Prelude.{List, [], ◌∷◌, ◌++◌, Bool, ◌&&◌, cond, ℕ, max}
use Rattle.rules.specs.declared.Addr.{Addr}
use Rattle.rules.specs.declared.Hole.{Hole}
use Rattle.rules.specs.Fixed.{min_size, grain}
use Rattle.rules.specs.Round.{up_to}
use Rattle.rules.specs.Kinds.{plus, bytes_to, same, not_after, multiple_of, raised}
use Rattle.rules.specs.Holes.{hole, end}
use Rattle.rules.specs.Sound.{gap}

-- the larger of size and 16, rounded up to 8
unfoldable pub rounded : ℕ → ℕ
rounded size = up_to grain (max size min_size)

-- for a hole at h: h if it is a multiple of the alignment, else the first multiple at or after h + 16
unfoldable pub candidate : ℕ → Addr → Addr
candidate align h = cond (multiple_of align h) h (raised align (plus h min_size))

-- the rounded size s fits, and what remains behind is 0 or at least 16
unfoldable pub suits : ℕ → ℕ → Hole → Bool
suits s align h =
    not_after (plus (candidate align h.addr) s) (end h) && gap (plus (candidate align h.addr) s) (end h)

-- the first suiting hole, with the holes before and behind it; or none
pub data Found : Type 0 where
  nothing : Found
  found : List Hole → Hole → List Hole → Found

unfoldable pub later : Hole → Found → Found
later h nothing = nothing
later h (found front k back) = found (h ∷ front) k back

-- the walk stops at the first hole that suits and yields that hole; where there is no further hole it ends
unfoldable pub find : ℕ → ℕ → List Hole → Found
find s align [] = nothing
find s align (h ∷ hs) = cond (suits s align h) (found [] h hs) (later h (find s align hs))

-- the largest rounded size that a hole has room for: what lies from the candidate to its end, if that is at least 16; else 0
unfoldable pub grant_of : ℕ → Hole → ℕ
grant_of align h =
    cond (not_after (plus (candidate align h.addr) min_size) (end h)) (bytes_to (candidate align h.addr) (end h)) 0

-- the largest that any of the holes has room for, 0 if none
unfoldable pub largest_grant : ℕ → List Hole → ℕ
largest_grant align [] = 0
largest_grant align (h ∷ hs) = max (grant_of align h) (largest_grant align hs)

-- what remains between two addresses: nothing, or a hole
unfoldable pub remains : Addr → Addr → List Hole
remains lo hi = cond (same lo hi) [] (hole lo (bytes_to lo hi) ∷ [])

-- a hole that is used for s bytes: what remains in front, and behind
unfoldable pub split : ℕ → ℕ → Hole → List Hole
split s align h =
    remains h.addr (candidate align h.addr) ++ remains (plus (candidate align h.addr) s) (end h)
