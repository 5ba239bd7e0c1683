-- When a heap is sound: the rules on its numbers, and the rules on its holes. Definitions only.
use Rattle.std.specs.Prelude.{List, [], ◌∷◌, Bool, true, ◌&&◌, cond, ℕ, suc, ◌+◌, ◌*◌, ◌/◌, ◌%◌, eqb, leb}
use Rattle.rules.specs.declared.Addr.{Addr}
use Rattle.rules.specs.declared.Hole.{Hole}
use Rattle.rules.specs.declared.Heap.{Heap}
use Rattle.rules.specs.Fixed.{arena_limit, addr_limit, min_size, grain}
use Rattle.rules.specs.Tests.{all, any}
use Rattle.rules.specs.Kinds.{addr, place, plus, bytes_to, same, not_after, multiple_of, raised}
use Rattle.rules.specs.Holes.{end, holes_from, total}

-- ---- the heap's seven numbers

-- unopened: bottom is 0 and so is the rest
abbrev pub unopened : Heap
unopened =
    record {
      base = addr 0;
      len = 0;
      bottom = addr 0;
      top = addr 0;
      first = place 0;
      pending = 0;
      used = 0;
    }

-- size = top − bottom
abbrev pub size : Heap → ℕ
size h = bytes_to h.bottom h.top

-- the address after the arena's last byte
abbrev pub arena_end : Heap → Addr
arena_end h = plus h.base h.len

-- ---- the rules before the list on holes

abbrev pub number_rules : Heap → List Bool
number_rules h =
    -- base is at least 1
    not_after (addr 1) h.base
    -- the arena bounds hold
    ∷ leb h.len arena_limit
    ∷ not_after (arena_end h) (addr addr_limit)
    -- bottom is base rounded up to 8
    ∷ same h.bottom (raised grain h.base)
    -- size is a multiple of 8 and at least 16
    ∷ eqb (size h % grain) 0
    ∷ leb min_size (size h)
    -- pending is at most 15
    ∷ leb h.pending 15
    -- top + pending ≤ base + arena length
    ∷ not_after (plus h.top h.pending) (arena_end h)
    ∷ []

unfoldable pub sound_numbers : Heap → Bool
sound_numbers h = all (number_rules h)

-- ---- the rules on the holes

-- 0 or at least 16 bytes from one address to another
unfoldable pub gap : Addr → Addr → Bool
gap lo hi = any (same lo hi ∷ not_after (plus lo min_size) hi ∷ [])

-- a hole lies at a multiple of 8, has a size that is a multiple of 8 and at least 16, and lies in [bottom, top)
abbrev pub hole_rules : Heap → Hole → List Bool
hole_rules h k =
    multiple_of grain k.addr
    ∷ eqb (k.size % grain) 0
    ∷ leb min_size k.size
    ∷ not_after h.bottom k.addr
    ∷ not_after (end k) h.top
    ∷ []

unfoldable pub lie : Heap → List Hole → Bool
lie h [] = true
lie h (k ∷ ks) = all (hole_rules h k) && lie h ks

-- the holes rise by address with at least 16 bytes between the end of one and the start of the next
unfoldable pub rise : List Hole → Bool
rise [] = true
rise (k ∷ []) = true
rise (k ∷ j ∷ js) = not_after (plus (end k) min_size) j.addr && rise (j ∷ js)

-- they leave 0 or at least 16 bytes before the first
unfoldable pub leave_before : Heap → List Hole → Bool
leave_before h [] = true
leave_before h (k ∷ ks) = gap h.bottom k.addr

-- and after the last
unfoldable pub leave_after : Heap → List Hole → Bool
leave_after h [] = true
leave_after h (k ∷ []) = gap (end k) h.top
leave_after h (k ∷ j ∷ js) = leave_after h (j ∷ js)

abbrev pub list_rules : Heap → List Hole → List Bool
list_rules h ks =
    lie h ks
    ∷ rise ks
    ∷ leave_before h ks
    ∷ leave_after h ks
    -- sizes add up to size − used
    ∷ eqb (total ks + h.used) (size h)
    ∷ []

unfoldable pub sound_holes : Heap → List Hole → Bool
sound_holes h ks = all (list_rules h ks)

unfoldable pub sound : Heap → List Hole → Bool
sound h ks = sound_numbers h && sound_holes h ks

-- ---- the holes of a heap

-- the most holes of a sound heap
abbrev pub most : Heap → ℕ
most h = (size h + min_size) / (2 * min_size)

-- the holes that the heads of an arena hold, from the first on; an unopened heap has none. A list longer than the most cannot be sound,
-- so it is read no further than one hole beyond
unfoldable pub holes : Heap → List ℕ → List Hole
holes h m = cond (same h.bottom (addr 0)) [] (holes_from (suc (most h)) h.base m h.first)
