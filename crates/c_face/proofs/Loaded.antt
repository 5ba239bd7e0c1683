-- What is said of a heap that was loaded from seven words is said of the heap that they say. Assumes nothing.
use mathlib.Core.Path.{◌≡◌}
use mathlib.Core.List.{List}
use Prim.Native.Nat.{ℕ}
use Rattle.std.proofs.Common.{Result}
use Rattle.rules.specs.Calls.{Call, list}
use Rattle.rules.specs.Outcome.{after, Rows, rows_after}
use Rattle.rules.specs.Inner.{Fulfils, carried}
use Rattle.rules.specs.declared.Heap.{Heap}
use Rattle.rules.specs.declared.Answer.{Answer}
use Rattle.rules.specs.declared.Refusal.{Refusal}
use Rattle.rules.specs.declared.Decided.{Decided}
use Rattle.c_face.specs.Face.{heap_of, Tells, Shows, Lists}

module _ (ws : List ℕ) {h : Heap} (loaded : h ≡ heap_of ws) where
  -- a report's answer, in words again
  pub reported : (x : Call) (m : List ℕ) {a : Result Answer Refusal} {two : List ℕ} {r : ℕ} → a ≡ (after x h m).answer → Tells a r two
      → Tells (after x (heap_of ws) m).answer r two
  reported x m e t = rw (← loaded, ← e) t

  -- the list's answer and its rows
  pub listed : (m : List ℕ) (before : Rows) {a : Result Answer Refusal} {left : Rows} {two : List ℕ} {r : ℕ}
      → (a ≡ (after list h m).answer) × (left ≡ rows_after list h m before) → Tells a r two → Lists (heap_of ws) m before r two left
  listed m before e t = (reported list m e.0 t, rw (← loaded) e.1)

  -- what a call that may change the heap decided, carried out in words
  pub shown : (x : Call) (m : List ℕ) {d : Result Decided Refusal} {m' hs two : List ℕ} {r : ℕ}
      → Fulfils (after x h m) h m d → Shows (carried (heap_of ws) m d) r hs two m' → Shows (after x (heap_of ws) m) r hs two m'
  shown x m i t = rw (← loaded) (rw i.is at (rw (← loaded) at t))
