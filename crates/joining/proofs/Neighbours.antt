-- The neighbours that the search found: what it passed before them, and the walk that goes on behind. Assumes nothing.
use mathlib.Core.Path.{◌≡◌}
use mathlib.Core.Bool.{false}
use mathlib.Core.List.{List}
use Prim.Native.Nat.{ℕ, ◌+◌, ◌≤◌}
use Rattle.std.specs.Prelude.{⊤}
use Rattle.std.proofs.Common.{Result, Ok, Err}
use Rattle.rules.specs.Fixed.{min_size}
use Rattle.rules.specs.Holes.{holes_from}
use Rattle.rules.specs.Sound.{sound_holes, holes}
use Rattle.rules.specs.declared.Addr.{Addr}
use Rattle.rules.specs.declared.Heap.{Heap}
use Rattle.rules.specs.Inner.{Fair}
use Rattle.rules.specs.declared.Refusal.{Refusal}
use Rattle.rules.specs.declared.Refusal.TheVariants.{NotSound}
use Rattle.walk.specs.Walk.{Enough, or_5, adds_up, walked_of, near_of}
use Rattle.walk.specs.declared.Near.{Near}
use Rattle.walk.proofs.ToSpan.{Lies, near_bad, near_at, near_reached}
use Rattle.walk.proofs.ToEnd.{by_walk, Reached, onward_asks, onward_decides}

-- ---- the rules on all holes

-- the search found a broken rule: it is refused with 5
pub near_broken : (h : Heap) (m : List ℕ) (x : Addr) → Fair h → {r : Refusal} → near_of h x (holes h m) ≡ Err r
    → (r ≡ NotSound) × (sound_holes h (holes h m) ≡ false)
near_broken h m x fair e = let b = near_bad h x (holes h m) e in (b.0, rw (by_walk h m fair, b.1))

-- the search came to an address between two neighbours
pub record Sought (h : Heap) (m : List ℕ) (x : Addr) (near : Near) : Type 0 where
  pub fair : Fair h
  pub found : near_of h x (holes h m) ≡ Ok near

module _ {h : Heap} {m : List ℕ} {x : Addr} {near : Near} (k : Sought h m x near) where
  pub lies : Lies h x (holes h m) near
  lies = near_at h x (holes h m) k.found

  reached : Reached h m near.cursor.hole near.floor near.total lies.front lies.back
  reached = near_reached h m x k.fair lies

  -- what the walk behind them leans on
  pub starts : (h.bottom.0 + near.total ≤ near.floor.0) × (near.floor.0 ≤ h.top.0 + min_size)
  starts = onward_asks reached

  -- it decides the rules on all holes
  pub goes_on : {w : Result ⊤ Refusal}
      → ((n : ℕ) → Enough h near.floor n
      → w ≡ or_5 (adds_up h (walked_of h near.floor near.total (holes_from n h.base m near.cursor.hole))))
      → w ≡ or_5 (sound_holes h (holes h m))
  goes_on is = onward_decides reached is
