-- A span that is to become free: its tests, against its heap and its neighbours, and what a free comes to. Definitions only.
use Rattle.std.specs.Prelude.{◌≡◌, Bool, true, not, ◌&&◌, cond, List, [], ◌∷◌, ℕ, ◌+◌, ◌-◌, ◌≤◌, eqb}
use Rattle.rules.specs.Fixed.{min_size, grain}
use Rattle.rules.specs.Tests.{all}
use Rattle.rules.specs.Kinds.{addr, addr_of, none, is_none, bytes_to, not_after, multiple_of}
use Rattle.rules.specs.Holes.{end}
use Rattle.rules.specs.Sound.{holes}
use Rattle.rules.specs.Calls.{Outcome}
use Rattle.rules.specs.Outcome.{After, leaves}
use Rattle.rules.specs.Inner.{sifted, freeing}
use Rattle.rules.specs.declared.Addr.{Addr}
use Rattle.rules.specs.declared.Hole.{Hole}
use Rattle.rules.specs.declared.Heap.{Heap}
use Rattle.walk.specs.declared.Near.{Near}

-- what the tests of a span lean on: the floor lies behind a hole, the next hole below top
pub record Around (h : Heap) (near : Near) : Type 0 where
  pub floor : (near.cursor.prev.0 ≡ none.0 → ⊥) → min_size ≤ near.floor.0
  pub next : (near.cursor.hole.0 ≡ none.0 → ⊥) → h.base.0 + near.cursor.hole.0 ≤ h.top.0

-- not above the second address, and no 8 bytes below it
unfoldable pub keeps_gap : Addr → Addr → Bool
keeps_gap lo hi = not_after lo hi && not (eqb (bytes_to lo hi) grain)

unfoldable pub inside_of : Heap → Hole → Bool
inside_of h g = keeps_gap h.bottom g.addr && keeps_gap (end g) h.top

unfoldable pub between_of : Heap → Near → Hole → Bool
between_of h near g =
    cond (is_none near.cursor.prev) true (keeps_gap (addr (near.floor.0 - min_size)) g.addr)
    && cond (is_none near.cursor.hole) true (keeps_gap (end g) (addr_of h.base near.cursor.hole))

-- the tests of refusal 8, on the neighbours alone
unfoldable pub may_free : Heap → Near → Hole → ℕ → Bool
may_free h near g align =
    all (multiple_of grain g.addr ∷ multiple_of align g.addr ∷ inside_of h g ∷ between_of h near g ∷ [])

-- ---- what is said of a span, unless the holes break a rule

abbrev pub frees : ℕ → Addr → ℕ → Heap → List ℕ → Outcome
frees s a align h m = freeing s a align h (holes h m)

abbrev pub freed_if_sound : ℕ → Addr → ℕ → Heap → List ℕ → After
freed_if_sound s a align h m = leaves h m (sifted h (holes h m) (frees s a align h m))
