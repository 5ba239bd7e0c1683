-- A span that a call names, before it becomes free or has another size: why it is refused, and what is known of it otherwise. Definitions
-- only.
use Rattle.std.specs.Prelude.{◌≡◌, ⊤, Result, Ok, Err, cond, List, ℕ, ◌≤◌}
use Rattle.rules.specs.Tests.{any}
use Rattle.rules.specs.Holes.{hole}
use Rattle.rules.specs.Sound.{sound_holes, holes}
use Rattle.rules.specs.Refusals.{refusal8}
use Rattle.rules.specs.declared.Addr.{Addr}
use Rattle.rules.specs.declared.Hole.{Hole}
use Rattle.rules.specs.declared.Heap.{Heap}
use Rattle.rules.specs.declared.Refusal.{Refusal}
use Rattle.rules.specs.declared.Refusal.TheVariants.{NotSound, BadSpan}
use Rattle.walk.specs.declared.Cursor.{Cursor}
use Rattle.joining.specs.Span.{Free}

-- refusal 5 as far as the holes earn it, and 8
unfoldable pub span_of : Heap → List Hole → Hole → ℕ → Result ⊤ Refusal
span_of h ks g align =
    cond (sound_holes h ks) (cond (any (refusal8 h ks g align)) (Err BadSpan) (Ok tt)) (Err NotSound)

-- the span of s bytes at a is refused so
abbrev pub Unfit : Heap → List ℕ → Addr → ℕ → ℕ → Refusal → Type 0
Unfit h m a s align r = span_of h (holes h m) (hole a s) align ≡ Err r

-- or neither is due: it lies free between the holes of a cursor, and used counts its bytes
pub record Spans (h : Heap) (m : List ℕ) (a : Addr) (s align : ℕ) (cursor : Cursor) : Type 0 where
  pub passed : span_of h (holes h m) (hole a s) align ≡ Ok tt
  pub free : Free h (holes h m) cursor (hole a s)
  pub used : s ≤ h.used
