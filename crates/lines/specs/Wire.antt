-- Lines on the wire: what is printed of a call, and what a line comes to. Definitions only.
use Rattle.std.specs.Prelude.{◌≡◌, Ok, Option, Some, None, List, [], ◌∷◌, ◌++◌, ℕ, ◌+◌, ◌*◌, ◌/◌, ◌≤◌, take}
use Rattle.rules.specs.Fixed.{min_size}
use Rattle.rules.specs.Kinds.{addr}
use Rattle.rules.specs.Calls.{Call, opening, allocate, free, resize, extend, list, room, Outcome, refused, told, done}
use Rattle.rules.specs.Answers.{Numbers, refusal_numbers, answer_numbers}
use Rattle.rules.specs.Outcome.{outcome, after}
use Rattle.rules.specs.declared.Hole.{Hole}
use Rattle.rules.specs.declared.Heap.{Heap}
use Rattle.lines.specs.declared.Replied.{Replied}
use Rattle.lines.specs.declared.reading.Frame.{Frame}
use Rattle.lines.specs.declared.reading.Frame.TheVariants as is
use Rattle.lines.specs.Frames.{frame_of}
use Rattle.lines.specs.Lines.{line}

-- ---- what is printed of an answer, and of a call

abbrev pub numbers_line : Numbers → List ℕ
numbers_line n = line n.no n.one n.two

-- per hole a line 20, address, size
unfoldable pub hole_lines : List Hole → List ℕ
hole_lines [] = []
hole_lines (k ∷ ks) = line 0x20 k.addr.0 k.size ++ hole_lines ks

-- what is printed of a call
unfoldable pub spoken : Outcome → List ℕ
spoken (refused r) = numbers_line (refusal_numbers r)
spoken (told a ks) = numbers_line (answer_numbers (Ok a)) ++ hole_lines ks
spoken (done a h ks) = numbers_line (answer_numbers (Ok a))

-- ---- a line and the box

pub record Reply : Type 0 where
  pub printed : List ℕ
  pub heap : Heap
  pub arena : List ℕ

abbrev pub reply_to : Call → Heap → List ℕ → Reply
reply_to c h m = record { printed = spoken (outcome c h m); heap = (after c h m).heap; arena = (after c h m).arena }

-- a line that is no frame gives ff, 0, 0 and does nothing
unfoldable pub reply : Option Frame → Heap → List ℕ → Reply
reply (Some (is.Open base named)) h m = reply_to (opening (addr base) named) h m
reply (Some (is.Allocate s align)) h m = reply_to (allocate s align) h m
reply (Some (is.Free a s align)) h m = reply_to (free (addr a) s align) h m
reply (Some (is.Resize a s align n)) h m = reply_to (resize (addr a) s align n) h m
reply (Some (is.Extend by)) h m = reply_to (extend by) h m
reply (Some is.List) h m = reply_to list h m
reply (Some (is.Room align)) h m = reply_to (room align) h m
reply None h m = record { printed = line 0xff 0 0; heap = h; arena = m }

-- what a line, its LF taken off, comes to
abbrev pub replied : List ℕ → Heap → List ℕ → Reply
replied bytes h m = reply (frame_of bytes) h m

-- ---- the wire program's memory

-- the bytes of its arena
abbrev pub arena_bytes : ℕ
arena_bytes = 65536

-- the most holes of a sound heap there: 2,048
abbrev pub most_holes : ℕ
most_holes = (arena_bytes + min_size) / (2 * min_size)

-- the bytes of the longest answer, the list's line and one for each hole: 71,715
abbrev pub longest : ℕ
longest = 35 * (most_holes + 1)

-- the heap handed back, the bytes printed and the arena left are what a line comes to, and no more bytes are printed than there is room for
abbrev pub Answers : Reply → Replied → List ℕ → List ℕ → Type 0
Answers a r out m = (r.heap ≡ a.heap) × (take r.len out ≡ a.printed) × (m ≡ a.arena) × (r.len ≤ longest)
