-- The walk from another floor, and on a heap with another top: holes that are walked through on one are on the other. Assumes nothing.
use mathlib.Core.Path.{◌≡◌}
use mathlib.Core.Bool.{true}
use mathlib.Core.List.{List, [], ◌∷◌}
use mathlib.Core.Logic.{⊎_elim}
use Prim.Native.Nat.{◌≤◌}
use native.Mathlib.Omega.{arith}
use Rattle.rules.specs.declared.Addr.{Addr}
use Rattle.rules.specs.declared.Hole.{Hole}
use Rattle.rules.specs.declared.Heap.{Heap}
use Rattle.rules.specs.Fixed.{min_size}
use Rattle.rules.specs.Kinds.{plus}
use Rattle.rules.specs.InWords.{Gap}
use Rattle.rules.specs.Inner.{Fair, behind}
use Rattle.rules.proofs.Gaps.{gap_le}
use Rattle.rules.proofs.Walk.{walks, floor_of, walks_head, walks_tail, walks_cons, ends_low, ends_top, ends_cases, floor_high}

-- ---- another floor

-- any that the first hole keeps
pub walks_floor : (h : Heap) (floor low : Addr) (k : Hole) (ks : List Hole) → low.0 ≤ k.addr.0 → walks h floor (k ∷ ks) ≡ true
    → walks h low (k ∷ ks) ≡ true
walks_floor h floor low k ks l e =
    let q = walks_head h floor k ks e in
    walks_cons h low k ks (omega arith) (walks_tail h floor k ks e)

-- a lower one
pub walks_lower : (h : Heap) (floor low : Addr) (ks : List Hole) → low.0 ≤ floor.0 → low.0 ≤ h.top.0 → walks h floor ks ≡ true
    → walks h low ks ≡ true
walks_lower h floor low [] l t e = unfold walks in ends_low h low t
walks_lower h floor low (k ∷ ks) l t e = walks_floor h floor low k ks (omega (arith, walks_head h floor k ks e)) e

-- so the first floor will do where 16 bytes behind bottom did
pub walks_first : (h : Heap) (ks : List Hole) → Fair h → walks h (plus h.bottom min_size) ks ≡ true
    → walks h (floor_of h ks) ks ≡ true
walks_first h ks f w =
    let l = floor_high h ks in walks_lower h (plus h.bottom min_size) (floor_of h ks) ks l (omega arith) w

-- ---- another heap

-- a top that stays, or rises by 16 bytes or more, keeps the walk
walks_raised : (h h' : Heap) (floor : Addr) (ks : List Hole) → Gap h.top.0 h'.top.0 → walks h floor ks ≡ true
    → walks h' floor ks ≡ true
walks_raised h h' floor [] g e =
    unfold walks in
    ends_cases h floor (unfold walks in e)
    (λ l. ends_low h' floor (omega (arith, gap_le h.top.0 h'.top.0 g)))
    (λ q. ⊎_elim (λ t. ends_top h' floor (omega arith)) (λ t. ends_low h' floor (omega arith)) g)
walks_raised h h' floor (k ∷ ks) g e =
    let q = walks_head h floor k ks e in
    let u = gap_le h.top.0 h'.top.0 g in
    walks_cons h' floor k ks (omega arith) (walks_raised h h' (behind k) ks g (walks_tail h floor k ks e))

floor_same : (h h' : Heap) (ks : List Hole) → h.bottom ≡ h'.bottom → floor_of h ks ≡ floor_of h' ks
unfolding floor_of
floor_same h h' [] e = rw e
floor_same h h' (k ∷ ks) e = rw e

-- from the first floor, where bottom is the same
pub raised_walk : (h h' : Heap) (ks : List Hole) → h.bottom ≡ h'.bottom → Gap h.top.0 h'.top.0
    → walks h (floor_of h ks) ks ≡ true → walks h' (floor_of h' ks) ks ≡ true
raised_walk h h' ks b t w = rw (floor_same h h' ks b) at (walks_raised h h' (floor_of h ks) ks t w)
