-- Holes that rise from one address to another, as those of a sound heap do. Assumes nothing.
use mathlib.Core.Path.{◌≡◌}
use mathlib.Core.Bool.{true}
use mathlib.Core.List.{List, [], ◌∷◌, ◌++◌}
use Prim.Native.Nat.{ℕ, ◌+◌, ◌≤◌}
use native.Mathlib.Omega.{arith}
use Rattle.rules.specs.declared.Addr.{Addr}
use Rattle.rules.specs.declared.Hole.{Hole}
use Rattle.rules.specs.declared.Heap.{Heap}
use Rattle.rules.specs.Sound.{sound_holes}
use Rattle.rules.specs.Inner.{Fair, behind, Rises, end_or}
use Rattle.rules.proofs.Walk.{walks, floor_of, walks_head, walks_tail, floor_low, sound_walk}

pub rises_le : (lo hi : ℕ) (ks : List Hole) → Rises lo hi ks → lo ≤ hi
rises_le lo hi [] r = r
rises_le lo hi (k ∷ ks) r = omega (arith, rises_le (k.addr.0 + k.size) hi ks r.2)

-- the bounds may be moved apart
pub rises_widen : (lo' lo hi hi' : ℕ) (ks : List Hole) → lo' ≤ lo → hi ≤ hi' → Rises lo hi ks → Rises lo' hi' ks
rises_widen lo' lo hi hi' [] a b r = omega arith
rises_widen lo' lo hi hi' (k ∷ ks) a b r = (
  omega arith,
  r.1,
  rises_widen (k.addr.0 + k.size) (k.addr.0 + k.size) hi hi' ks (omega arith) b r.2,
)

-- ---- two lists in a row

-- each rises: one up to its end, the other from there on
pub rises_front : (lo hi : ℕ) (xs ys : List Hole) → Rises lo hi (xs ++ ys) → Rises lo (end_or lo xs) xs
rises_front lo hi [] ys r = omega arith
rises_front lo hi (k ∷ xs) ys r = (r.0, r.1, rises_front (k.addr.0 + k.size) hi xs ys r.2)

pub rises_back : (lo hi : ℕ) (xs ys : List Hole) → Rises lo hi (xs ++ ys) → Rises (end_or lo xs) hi ys
rises_back lo hi [] ys r = r
rises_back lo hi (k ∷ xs) ys r = rises_back (k.addr.0 + k.size) hi xs ys r.2

pub rises_append : (lo mid hi : ℕ) (xs ys : List Hole) → Rises lo mid xs → Rises mid hi ys → Rises lo hi (xs ++ ys)
rises_append lo mid hi [] ys r s = rises_widen lo mid hi hi ys r (omega arith) s
rises_append lo mid hi (k ∷ xs) ys r s = (r.0, r.1, rises_append (k.addr.0 + k.size) mid hi xs ys r.2 s)

-- ---- the holes of a sound heap

-- a walk goes through holes that rise, and the last of them ends at top or before it
pub walks_rises : (h : Heap) (floor : Addr) (k : Hole) (ks : List Hole) → walks h floor (k ∷ ks) ≡ true
    → Rises floor.0 h.top.0 (k ∷ ks)
walks_rises h floor k [] e = omega (arith, walks_head h floor k [] e)
walks_rises h floor k (j ∷ js) e =
    let q = walks_head h floor k (j ∷ js) e in
    let r = walks_rises h (behind k) j js (walks_tail h floor k (j ∷ js) e) in
    (q.above, q.least, (omega arith, r.1, r.2))

pub sound_rises : (h : Heap) → Fair h → (ks : List Hole) → sound_holes h ks ≡ true → Rises h.bottom.0 h.top.0 ks
sound_rises h f [] e = omega arith
sound_rises h f (k ∷ ks) e =
    rises_widen h.bottom.0 (floor_of h (k ∷ ks)).0 h.top.0 h.top.0 (k ∷ ks) (floor_low h (k ∷ ks)) (omega arith)
    (walks_rises h (floor_of h (k ∷ ks)) k ks (sound_walk h f (k ∷ ks) e))
