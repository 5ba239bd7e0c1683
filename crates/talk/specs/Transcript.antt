-- What a talk comes to, in words: whole lines and their answers, however the bytes came. Definitions only.
use Rattle.std.specs.Prelude.{◌≡◌, ℕ, take}
use mathlib.Core.List.{List, [], ◌∷◌, ◌++◌, Memᴰ}
use Rattle.rules.specs.declared.Heap.{Heap}
use Rattle.lines.specs.Frames.{frame_of}
use Rattle.lines.specs.Wire.{replied}
use Rattle.talk.specs.Hearing.{Come, heard}

-- no byte of it ends a line
abbrev pub NoEnd : List ℕ → Type 0
NoEnd bytes = (b : ℕ) → Memᴰ b bytes → b ≡ 10 → ⊥

-- each line with the LF that ends it, one after the other
unfoldable pub sent : List (List ℕ) → List ℕ
sent [] = []
sent (l ∷ ls) = l ++ (10 ∷ sent ls)

-- the whole lines, answered one after the other: each by the box that the line before left, and its answer behind the one before
pub data Transcript : List (List ℕ) → Heap → List ℕ → List ℕ → Heap → List ℕ → Type 0 where
  end : {h : Heap} {m : List ℕ} → Transcript [] h m [] h m
  next :
      {l : List ℕ} {ls : List (List ℕ)} {h : Heap} {m answers : List ℕ} {h' : Heap} {m' : List ℕ}
      → Transcript ls (replied l h m).heap (replied l h m).arena answers h' m'
      → Transcript (l ∷ ls) h m ((replied l h m).printed ++ answers) h' m'

-- a box, what is kept of the line that has not ended, and the answers that wait
abbrev pub at : Heap → List ℕ → List ℕ → List ℕ → Come
at h m kept waits = record { heap = h; arena = m; kept = kept; waits = waits }

pub record Talks : Type 0 where
  -- bytes that come in pieces come to what they come to in one piece
  pub pieces : (front back : List ℕ) (c : Come) → heard (front ++ back) c ≡ heard back (heard front c)
  -- every line that has ended is answered once, whole and in its turn; of the bytes behind the last LF 67 are kept, one more than the
  -- longest frame has
  pub lines :
      (ls : List (List ℕ)) (rest : List ℕ) (h h' : Heap) (m m' waits answers : List ℕ)
      → ((l : List ℕ) → Memᴰ l ls → NoEnd l)
      → NoEnd rest
      → Transcript ls h m answers h' m'
      → heard (sent ls ++ rest) (at h m [] waits) ≡ at h' m' (take 67 rest) (waits ++ answers)
  -- the answers that wait stay, and further ones stand behind them
  pub waits : (bytes : List ℕ) (c : Come) → (answers : List ℕ) × ((heard bytes c).waits ≡ c.waits ++ answers)
  -- what is kept of a longer line is no frame, and no more is the line
  pub long : (l : List ℕ) → frame_of (take 67 l) ≡ frame_of l
