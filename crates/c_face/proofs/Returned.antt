-- Which word is which, and that seven words made a heap and back are the same words. Assumes nothing.
use mathlib.Core.Path.{◌≡◌, refl}
use mathlib.Core.List.{List, [], ◌∷◌}
use Prim.Native.Nat.{ℕ}
use native.Mathlib.Omega.{arith}
use Rattle.rules.specs.declared.Heap.{Heap}
use Rattle.c_face.specs.Face.{heap_of}
use Rattle.c_face.specs.Statements.{Names, WordsName, HeapNamed, WordsReturn, HeapReturns}

pub words_name : WordsName
words_name ws =
    record { base = refl; len = refl; bottom = refl; top = refl; first = refl; pending = refl; used = refl }

pub heap_named : HeapNamed
heap_named h =
    (record { base = refl; len = refl; bottom = refl; top = refl; first = refl; pending = refl; used = refl }, refl)

pub words_return : WordsReturn
words_return [] e = absurd (omega arith)
words_return (a ∷ []) e = absurd (omega arith)
words_return (a ∷ b ∷ []) e = absurd (omega arith)
words_return (a ∷ b ∷ c ∷ []) e = absurd (omega arith)
words_return (a ∷ b ∷ c ∷ d ∷ []) e = absurd (omega arith)
words_return (a ∷ b ∷ c ∷ d ∷ f ∷ []) e = absurd (omega arith)
words_return (a ∷ b ∷ c ∷ d ∷ f ∷ g ∷ []) e = absurd (omega arith)
words_return (a ∷ b ∷ c ∷ d ∷ f ∷ g ∷ i ∷ []) e = refl
words_return (a ∷ b ∷ c ∷ d ∷ f ∷ g ∷ i ∷ j ∷ rest) e = absurd (omega arith)

pub heap_returns : HeapReturns
heap_returns h = refl

-- the words name one heap
pub named_is : (ws : List ℕ) (h : Heap) → Names ws h → h ≡ heap_of ws
named_is ws h n = rw (← n.base, ← n.len, ← n.bottom, ← n.top, ← n.first, ← n.pending, ← n.used)
