-- What the tests on a heap's numbers lean on, and what they say. Definitions only.
use Rattle.std.specs.Prelude.{⊤, Result, Ok, Err, not, cond, ℕ, ◌+◌, ◌≤◌, eqb}
use Rattle.rules.specs.Fixed.{arena_limit, addr_limit, grain}
use Rattle.rules.specs.Round.{Above}
use Rattle.rules.specs.Kinds.{addr, same}
use Rattle.rules.specs.Sound.{sound_numbers}
use Rattle.rules.specs.declared.Heap.{Heap}
use Rattle.rules.specs.declared.Refusal.{Refusal}
use Rattle.rules.specs.declared.Refusal.TheVariants.{Unopened, OtherLength, NotSound}

-- base, arena length and bottom keep their rules
pub record Based (h : Heap) : Type 0 where
  pub base : 1 ≤ h.base.0
  pub small : h.len ≤ arena_limit
  pub low : h.base.0 + h.len ≤ addr_limit
  pub bottom : Above grain h.base.0 h.bottom.0

-- refusal 3, 4, and 5 as far as the numbers earn it
unfoldable pub checked_of : ℕ → Heap → Result ⊤ Refusal
checked_of len h =
    cond (same h.bottom (addr 0)) (Err Unopened)
    (cond (not (eqb len h.len)) (Err OtherLength)
    (cond (sound_numbers h) (Ok tt) (Err NotSound)))
