-- The rules on a heap's numbers, as tests decide them. Assumes nothing.
use mathlib.Core.Path.{◌≡◌, sym}
use mathlib.Core.Bool.{Bool, true, false}
use Prim.Native.Nat.{ℕ, ◌+◌, ◌<◌}
use native.Mathlib.Omega.{arith}
use Rattle.rules.specs.Fixed.{grain}
use Rattle.rules.specs.Round.{Above}
use Rattle.rules.specs.Sound.{sound_numbers}
use Rattle.rules.specs.declared.Heap.{Heap}
use Rattle.rules.specs.Inner.{Ruled}
use Rattle.std.specs.Cmp.{both_ways}
use Rattle.rules.proofs.Cases.{cases}
use Rattle.rules.proofs.Multiples.{above_is, up_near}
use Rattle.rules.proofs.Powers.{power_pos, grain_power}
use Rattle.rules.proofs.Walk.{sound_ruled, ruled_sound}

-- an address rounded up to 8 lies less than 8 bytes on
pub above_near : {x r : ℕ} → Above grain x r → r < x + grain
above_near {x} p = rw (above_is (power_pos grain_power) p) (up_near grain x (power_pos grain_power))

module _ (h : Heap) where
  -- a rule is broken
  pub broken : (Ruled h → ⊥) → false ≡ sound_numbers h
  broken n = sym (cases (sound_numbers h) (λ e. absurd (n (sound_ruled h e))) (λ e. e))

  -- what is left to test decides
  pub decides : {b : Bool} → (b ≡ true → Ruled h) → (Ruled h → b ≡ true) → b ≡ sound_numbers h
  decides f g = both_ways _ _ (λ e. ruled_sound h (f e)) (λ e. g (sound_ruled h e))

  -- bottom is the base rounded up
  pub bottom_is : Ruled h → {r : ℕ} → Above grain h.base.0 r → h.bottom.0 ≡ r
  bottom_is f p = let n = above_near p in omega arith
