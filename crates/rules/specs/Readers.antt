-- The five readers. They take no arena. Definitions only.
use Rattle.std.specs.Prelude.{List, [], ◌∷◌, Bool, not, cond, ℕ, ◌-◌, ltb}
use Rattle.rules.specs.declared.Addr.{Addr}
use Rattle.rules.specs.declared.Heap.{Heap}
use Rattle.rules.specs.Tests.{any}
use Rattle.rules.specs.Kinds.{addr, plus, same}
use Rattle.rules.specs.Sound.{size, sound_numbers}

-- unopened, or with numbers that break a rule of soundness standing before the list on holes, or used above size
abbrev pub unreadable : Heap → List Bool
unreadable h = same h.bottom (addr 0) ∷ not (sound_numbers h) ∷ ltb (size h) h.used ∷ []

-- 0 then, else what the reader says
unfoldable pub read_addr : Heap → Addr → Addr
read_addr h a = cond (any (unreadable h)) (addr 0) a

unfoldable pub read_number : Heap → ℕ → ℕ
read_number h n = cond (any (unreadable h)) 0 n

abbrev pub bottom_of : Heap → Addr
bottom_of h = read_addr h h.bottom

-- top counts pending bytes
abbrev pub top_of : Heap → Addr
top_of h = read_addr h (plus h.top h.pending)

-- size doesn't
abbrev pub size_of : Heap → ℕ
size_of h = read_number h (size h)

abbrev pub used_of : Heap → ℕ
used_of h = read_number h h.used

-- free = size − used
abbrev pub free_of : Heap → ℕ
free_of h = read_number h (size h - h.used)
