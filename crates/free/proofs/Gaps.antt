-- The tests of a span against its neighbours, one by one. Assumes nothing.
use mathlib.Core.Path.{◌≡◌}
use mathlib.Core.Bool.{Bool, true, false, cond}
use Prim.Native.Nat.{◌-◌, ◌≤◌}
use native.Mathlib.Omega.{arith}
use lib.Dec.{eqb}
use Rattle.std.proofs.lemmas.Bool.{and_parts, leb-true, eqb-false, not-true, le-leb, eq-eqb, ne_eqb}
use Rattle.rules.specs.Fixed.{grain, min_size}
use Rattle.rules.specs.Kinds.{addr, addr_of, none, is_none, bytes_to}
use Rattle.rules.specs.Holes.{end}
use Rattle.rules.specs.declared.Addr.{Addr}
use Rattle.rules.specs.declared.Hole.{Hole}
use Rattle.rules.specs.declared.Heap.{Heap}
use Rattle.rules.proofs.Cases.{cases}
use Rattle.rules.proofs.Clear.{Follows}
use Rattle.walk.specs.declared.Near.{Near}
use Rattle.free.specs.SpanTests.{keeps_gap, inside_of}

-- ---- two addresses

module _ (lo hi : Addr) where
  pub gap_follows : keeps_gap lo hi ≡ true → Follows hi.0 lo.0
  unfolding keeps_gap
  gap_follows e =
      let p = and_parts _ _ e in
      (leb-true lo.0 hi.0 p.0, λ z. eqb-false (bytes_to lo hi) grain (not-true _ p.1) (omega arith))

  pub follows_gap : Follows hi.0 lo.0 → keeps_gap lo hi ≡ true
  unfolding keeps_gap
  follows_gap f =
      let n : eqb (bytes_to lo hi) grain ≡ false = ne_eqb (hi.0 - lo.0) grain (λ z. f.1 (omega arith)) in
      rw (le-leb lo.0 hi.0 f.0, n)

-- ---- the heap around the span

module _ (h : Heap) (g : Hole) where
  -- what lies inside ends at top or before it
  pub inside_end : inside_of h g ≡ true → (end g).0 ≤ h.top.0
  unfolding inside_of
  inside_end e = (gap_follows (end g) h.top (and_parts _ _ e).1).0

-- ---- its neighbours

-- the end of the hole before lies 16 bytes below the floor
abbrev pub keeps_before : Near → Hole → Bool
keeps_before near g = cond (is_none near.cursor.prev) true (keeps_gap (addr (near.floor.0 - min_size)) g.addr)

abbrev pub keeps_behind : Heap → Near → Hole → Bool
keeps_behind h near g = cond (is_none near.cursor.hole) true (keeps_gap (end g) (addr_of h.base near.cursor.hole))

module _ (h : Heap) (near : Near) (g : Hole) where
  pub before_none : near.cursor.prev.0 ≡ none.0 → keeps_before near g ≡ true
  before_none e = rw (eq-eqb near.cursor.prev.0 none.0 e)

  pub before_gap : keeps_gap (addr (near.floor.0 - min_size)) g.addr ≡ true → keeps_before near g ≡ true
  before_gap e = cases (is_none near.cursor.prev) (λ z. rw z) (λ z. rw (z, e))
