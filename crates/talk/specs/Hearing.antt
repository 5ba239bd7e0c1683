-- A talk over the wire: what comes of hearing bytes, one after the other. Definitions only.
use Rattle.std.specs.Prelude.{◌≡◌, ◌⊎◌, cond, List, [], ◌∷◌, ◌++◌, ℕ, ◌+◌, ◌*◌, ◌≤◌, ◌<◌, eqb, ltb, length, take}
use Rattle.rules.specs.declared.Heap.{Heap}
use Rattle.lines.specs.Frames.{frame_digits, most_numbers}
use Rattle.lines.specs.Wire.{Reply, replied, longest}
use Rattle.talk.specs.declared.Talk.{Talk}

-- LF ends a line
abbrev pub lf : ℕ
lf = 10

-- the bytes kept of a line, one more than the longest frame has; those for answers that wait, the longest twice
abbrev pub line_room : ℕ
line_room = frame_digits most_numbers + 1

abbrev pub answers_room : ℕ
answers_room = 2 * longest

-- what a talk has come to: the heap and its arena, the bytes kept of the line that has not ended, and the answers that wait
pub record Come : Type 0 where
  pub heap : Heap
  pub arena : List ℕ
  pub kept : List ℕ
  pub waits : List ℕ

abbrev pub come : Talk → Come
come t = record { heap = t.heap; arena = t.arena; kept = t.kept.items; waits = t.waits.items }

-- ---- one byte

-- the line that is kept is answered, behind the answers that wait
abbrev pub behind : Come → Reply → Come
behind c r = record { heap = r.heap; arena = r.arena; kept = []; waits = c.waits ++ r.printed }

abbrev pub answered : Come → Come
answered c = behind c (replied c.kept c.heap c.arena)

-- a byte more of a line is kept, where there is room for it
abbrev pub kept_with : ℕ → List ℕ → List ℕ
kept_with b kept = cond (ltb (length kept) line_room) (kept ++ (b ∷ [])) kept

abbrev pub keeping : ℕ → Come → Come
keeping b c = record { heap = c.heap; arena = c.arena; kept = kept_with b c.kept; waits = c.waits }

unfoldable pub hearing : ℕ → Come → Come
hearing b c = cond (eqb b lf) (answered c) (keeping b c)

-- ---- any bytes

-- further bytes of a line are kept, where there is room for them
abbrev pub holding : List ℕ → Come → Come
holding bytes c = record { heap = c.heap; arena = c.arena; kept = take line_room (c.kept ++ bytes); waits = c.waits }

unfoldable pub heard : List ℕ → Come → Come
heard [] c = c
heard (b ∷ bs) c = heard bs (hearing b c)

-- the answers that wait are taken away
abbrev pub taken : Come → Come
taken c = record { heap = c.heap; arena = c.arena; kept = c.kept; waits = [] }

-- ---- what the code keeps to

-- behind the answers that wait there is room for the longest
abbrev pub Bounded : Talk → Type 0
Bounded t = length t.waits.items ≤ longest

-- the bytes before those that are left are heard, no more and no less: all of them, or so many that one more answer might not find room
pub record Hears (bs : List ℕ) (c : Come) (rest : List ℕ) (c' : Come) : Type 0 where
  pub front : List ℕ
  pub cut : bs ≡ front ++ rest
  pub comes : c' ≡ heard front c
  pub kept : length c'.kept ≤ line_room
  pub waits : length c'.waits ≤ answers_room
  pub stops : (rest ≡ []) ⊎ ((0 < length front) × (longest < length c'.waits))
