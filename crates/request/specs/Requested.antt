-- When the layout that a call asks for is refused, and with what; and what a request comes to by all its tests. Definitions only.
use Rattle.std.specs.Prelude.{◌≡◌, ⊤, Result, Ok, Err, Option, Some, None, cond, List, ℕ, length}
use Rattle.rules.specs.Sound.{sound_holes, holes}
use Rattle.rules.specs.Refusals.{layout_of}
use Rattle.rules.specs.declared.Heap.{Heap}
use Rattle.rules.specs.declared.Refusal.{Refusal}
use Rattle.rules.specs.declared.Refusal.TheVariants.{NotSound, BadLayout}
use Rattle.numbers.specs.Checks.{checked_of}

-- refusal 6 is due, and 5 comes before it
pub record Denied (h : Heap) (m : List ℕ) (s align : ℕ) (r : Refusal) : Type 0 where
  pub layout : layout_of s align ≡ None
  pub why : r ≡ cond (sound_holes h (holes h m)) BadLayout NotSound

-- once the numbers are checked, the layout; 5 comes before 6
unfoldable pub by_layout : Option ℕ → Heap → List ℕ → Result ℕ Refusal
by_layout (Some w) h m = Ok w
by_layout None h m = Err (cond (sound_holes h (holes h m)) BadLayout NotSound)

unfoldable pub by_numbers : Result ⊤ Refusal → Option ℕ → Heap → List ℕ → Result ℕ Refusal
by_numbers (Err r) l h m = Err r
by_numbers (Ok t) l h m = by_layout l h m

-- the rounded size that is asked for, or the refusal
abbrev pub request_of : Heap → List ℕ → ℕ → ℕ → Result ℕ Refusal
request_of h m size align = by_numbers (checked_of (length m) h) (layout_of size align) h m
