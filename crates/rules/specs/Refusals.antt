-- When the box says no: each refusal's conditions, and the order in which a call tests them. Definitions only.
use Rattle.std.specs.Prelude.{Option, Some, None, List, [], ◌∷◌, ◌++◌, Bool, not, cond, ℕ, ◌-◌, eqb, ltb}
use Rattle.std.specs.Int.Count.{ones_in}
use Rattle.rules.specs.declared.Addr.{Addr}
use Rattle.rules.specs.declared.Hole.{Hole}
use Rattle.rules.specs.declared.Heap.{Heap}
use Rattle.rules.specs.declared.Refusal.{Refusal}
use Rattle.rules.specs.declared.Refusal.TheVariants.{BadOpening, AlreadyOpened, Unopened, OtherLength, NotSound, BadLayout, BadSpan, PastArena, BadStretch}
use Rattle.rules.specs.Fixed.{arena_limit, addr_limit, min_size, grain, width}
use Rattle.rules.specs.Tests.{any}
use Rattle.rules.specs.Kinds.{addr, plus, same, before, multiple_of}
use Rattle.rules.specs.Holes.{hole, end}
use Rattle.rules.specs.Sound.{arena_end, sound_numbers, gap, sound_holes}
use Rattle.rules.specs.Allocate.{rounded}
use Rattle.rules.specs.Free.{overlaps, eight, eight_to_hole}
use Rattle.rules.specs.Resize.{stretch_end}
use Rattle.rules.specs.Changes.{Change, Report}
use Rattle.rules.specs.Calls.{Call, opening, change, report, only_hole, Outcome, refused}

-- ---- the table: a refusal is given exactly if one of its conditions holds

-- base 0, arena over 16,777,216, base + length over 2^63, named size above the length, or under 16 bytes left after both roundings
abbrev pub refusal1 : ℕ → Addr → ℕ → List Bool
refusal1 len base named =
    same base (addr 0)
    ∷ ltb arena_limit len
    ∷ before (addr addr_limit) (plus base len)
    ∷ ltb len named
    ∷ ltb (only_hole base named).size min_size
    ∷ []

-- bottom is not 0
abbrev pub refusal2 : Heap → List Bool
refusal2 h = not (same h.bottom (addr 0)) ∷ []

-- bottom is 0
abbrev pub refusal3 : Heap → List Bool
refusal3 h = same h.bottom (addr 0) ∷ []

-- arena length differs from that at opening
abbrev pub refusal4 : ℕ → Heap → List Bool
refusal4 len h = not (eqb len h.len) ∷ []

-- heap not sound: its numbers break a rule
abbrev pub refusal5_numbers : Heap → List Bool
refusal5_numbers h = not (sound_numbers h) ∷ []

-- or its holes do
abbrev pub refusal5_holes : Heap → List Hole → List Bool
refusal5_holes h ks = not (sound_holes h ks) ∷ []

-- a power of two is known by its count of ones
abbrev pub one_power : ℕ → Bool
one_power align = eqb (ones_in width align) 1

-- alignment not a power of two, or rounded size above 2^63 − alignment
abbrev pub refusal6 : ℕ → ℕ → List Bool
refusal6 s align = not (one_power align) ∷ ltb (addr_limit - align) (rounded s) ∷ []

-- the rounded size, or that refusal
unfoldable pub layout_of : ℕ → ℕ → Option ℕ
layout_of s align = cond (any (refusal6 s align)) None (Some (rounded s))

-- address no multiple of 8 or of the alignment; span not inside [bottom, top); span overlaps a hole; or exactly 8 bytes would stay
-- between the span and a hole, bottom or top
abbrev pub refusal8 : Heap → List Hole → Hole → ℕ → List Bool
refusal8 h ks g align =
    not (multiple_of grain g.addr)
    ∷ not (multiple_of align g.addr)
    ∷ before g.addr h.bottom
    ∷ before h.top (end g)
    ∷ overlaps g ks
    ∷ eight_to_hole g ks
    ∷ eight h.bottom g.addr
    ∷ eight (end g) h.top
    ∷ []

-- top + pending + by above base + arena length
abbrev pub refusal9 : ℕ → Heap → List Bool
refusal9 by h = before (arena_end h) (plus (plus h.top h.pending) by) ∷ []

-- the stretch less the new rounded size s is neither 0 nor at least 16
abbrev pub refusal10 : List Hole → Hole → ℕ → List Bool
refusal10 ks g s = not (gap (plus g.addr s) (stretch_end g ks)) ∷ []

-- ---- the order of the tests

pub record Test : Type 0 where
  pub gives : Refusal
  pub «exactly_if» : List Bool

abbrev pub test : Refusal → List Bool → Test
test r bs = record { gives = r; «exactly_if» = bs }

-- 3, 4 and 5: all calls but open
abbrev pub opened_tests : ℕ → Heap → List Hole → List Test
opened_tests len h ks =
    test Unopened (refusal3 h)
    ∷ test OtherLength (refusal4 len h)
    ∷ test NotSound (refusal5_numbers h)
    ∷ test NotSound (refusal5_holes h ks)
    ∷ []

-- 6, 8, 9 and 10: a change, behind those. Resize tests 6 for the old layout and for the new one. 7 comes of the walk itself (`taken`)
abbrev pub change_tests : Change → Heap → List Hole → List Test
change_tests (Change.allocate s align) h ks = test BadLayout (refusal6 s align) ∷ []
change_tests (Change.free a s align) h ks =
    test BadLayout (refusal6 s align) ∷ test BadSpan (refusal8 h ks (hole a (rounded s)) align) ∷ []
change_tests (Change.resize a s align n) h ks =
    test BadLayout (refusal6 s align)
    ∷ test BadLayout (refusal6 n align)
    ∷ test BadSpan (refusal8 h ks (hole a (rounded s)) align)
    ∷ test BadStretch (refusal10 ks (hole a (rounded s)) (rounded n))
    ∷ []
change_tests (Change.extend by) h ks = test PastArena (refusal9 by h) ∷ []

-- 6: the room report, behind those too, with the size counted as 16
abbrev pub report_tests : Report → List Test
report_tests Report.list = []
report_tests (Report.room align) = test BadLayout (refusal6 min_size align) ∷ []

-- open tests 2, then 1; the rest test in rising order
unfoldable pub tests : Call → ℕ → Heap → List Hole → List Test
tests (opening base named) len h ks = test AlreadyOpened (refusal2 h) ∷ test BadOpening (refusal1 len base named) ∷ []
tests (change c) len h ks = opened_tests len h ks ++ change_tests c h ks
tests (report r) len h ks = opened_tests len h ks ++ report_tests r

-- the first test that holds refuses; else the outcome
unfoldable pub unless : List Test → Outcome → Outcome
unless [] o = o
unless (t ∷ ts) o = cond (any t.«exactly_if») (refused t.gives) (unless ts o)
