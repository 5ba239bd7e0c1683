-- What each call does, once nothing refuses it: on the heap's numbers and the list of holes, never on a byte. Definitions only.
use Rattle.std.specs.Prelude.{List, [], ◌∷◌, ◌++◌, cond, ℕ, ◌+◌, ◌-◌, ◌%◌, ltb, length}
use Rattle.rules.specs.declared.Addr.{Addr}
use Rattle.rules.specs.declared.Hole.{Hole}
use Rattle.rules.specs.declared.Heap.{Heap}
use Rattle.rules.specs.declared.Refusal.{Refusal}
use Rattle.rules.specs.declared.Refusal.TheVariants.{NoRoom}
use Rattle.rules.specs.declared.Answer.{Answer}
use Rattle.rules.specs.declared.Answer.TheVariants.{Opened, Allocated, Freed, Resized, Extended, Listed, Room}
use Rattle.rules.specs.Fixed.{min_size, grain}
use Rattle.rules.specs.Round.{down_to}
use Rattle.rules.specs.Kinds.{plus, bytes_to, raised}
use Rattle.rules.specs.Holes.{hole, first_of}
use Rattle.rules.specs.Sound.{size}
use Rattle.rules.specs.Allocate.{rounded, candidate, Found, nothing, found, find, largest_grant, split}
use Rattle.rules.specs.Free.{freed}
use Rattle.rules.specs.Resize.{resized}
use Rattle.rules.specs.Changes.{Change, Report}

-- the calls
pub data Call : Type 0 where
  -- base, named size
  opening : Addr → ℕ → Call
  change : Change → Call
  report : Report → Call

-- the changes and the reports, each by its name
abbrev pub allocate : ℕ → ℕ → Call
allocate s align = change (Change.allocate s align)

abbrev pub free : Addr → ℕ → ℕ → Call
free a s align = change (Change.free a s align)

abbrev pub resize : Addr → ℕ → ℕ → ℕ → Call
resize a s align n = change (Change.resize a s align n)

abbrev pub extend : ℕ → Call
extend by = change (Change.extend by)

abbrev pub list : Call
list = report Report.list

abbrev pub room : ℕ → Call
room align = report (Report.room align)

-- what comes of a call
pub data Outcome : Type 0 where
  -- nothing changes
  refused : Refusal → Outcome
  -- an answer, with the holes that go into the lent rows
  told : Answer → List Hole → Outcome
  -- an answer, with the new heap and its holes
  done : Answer → Heap → List Hole → Outcome

-- a heap with new holes, top, pending and used; base, arena length and bottom stay
abbrev pub renewed : Heap → List Hole → Addr → ℕ → ℕ → Heap
renewed h ks top pending used =
    record {
      base = h.base;
      len = h.len;
      bottom = h.bottom;
      top = top;
      first = first_of h.base ks;
      pending = pending;
      used = used;
    }

-- done so
abbrev pub changed : Answer → Heap → List Hole → Addr → ℕ → ℕ → Outcome
changed answer h ks top pending used = done answer (renewed h ks top pending used) ks

-- ---- open

-- what is left of the named size, behind bottom
abbrev pub left : Addr → ℕ → ℕ
left base named = named - bytes_to base (raised grain base)

-- that, rounded down to 8, becomes one hole
abbrev pub only_hole : Addr → ℕ → Hole
only_hole base named = hole (raised grain base) (down_to grain (left base named))

-- the remainder is pending. Used is 0
unfoldable pub opened : ℕ → Addr → ℕ → Heap
opened len base named =
    record {
      base = base;
      len = len;
      bottom = raised grain base;
      top = plus (raised grain base) (only_hole base named).size;
      first = first_of base (only_hole base named ∷ []);
      pending = left base named % grain;
      used = 0;
    }

-- ---- allocate

-- the first suiting hole is used and split; used grows by the rounded size s; the count is of the holes looked at, the used one
-- included. No hole suits: refusal 7, whose count is the number of holes
unfoldable pub taken : ℕ → ℕ → Heap → List Hole → Found → Outcome
taken s align h ks nothing = refused (NoRoom (length ks))
taken s align h ks (found front k back) =
    changed (Allocated (candidate align k.addr) (length front + 1)) h (front ++ (split s align k ++ back)) h.top
    h.pending (h.used + s)

-- ---- free

-- the span of rounded size s becomes a hole; used falls by it
unfoldable pub given : ℕ → Addr → Heap → List Hole → Outcome
given s a h ks = changed (Freed s (h.used - s)) h (freed (hole a s) ks) h.top h.pending (h.used - s)

-- ---- resize

-- the block g has s bytes from then on; used follows
unfoldable pub refitted : Hole → ℕ → Heap → List Hole → Outcome
refitted g s h ks =
    changed (Resized s (h.used - g.size + s)) h (resized g s ks) h.top h.pending (h.used - g.size + s)

-- ---- extend

-- s bytes are added as a free span at top, and top rises by it; used stays
unfoldable pub grown : ℕ → ℕ → Heap → List Hole → Outcome
grown s pending h ks =
    changed (Extended (size h + s) pending) h (freed (hole h.top s) ks) (plus h.top s) pending h.used

-- pending bytes only accumulate
unfoldable pub gathered : ℕ → Heap → List Hole → Outcome
gathered pending h ks = changed (Extended (size h) pending) h ks h.top pending h.used

-- pending + by below 16 only accumulates; otherwise that sum rounded down to 8 is added, and the rest is the new pending
unfoldable pub extended : ℕ → Heap → List Hole → Outcome
extended by h ks =
    cond (ltb (h.pending + by) min_size)
    (gathered (h.pending + by) h ks)
    (grown (down_to grain (h.pending + by)) ((h.pending + by) % grain) h ks)

-- ---- reports

-- what a report answers
abbrev pub reported : Report → Heap → List Hole → Answer
reported Report.list h ks = Listed (length ks) (size h - h.used)
reported (Report.room align) h ks = Room (largest_grant align ks) (length ks)

-- and the holes that go into the lent rows
abbrev pub listed : Report → List Hole → List Hole
listed Report.list ks = ks
listed (Report.room align) ks = []

-- ---- all of them

-- an accepted call on a heap and its holes, lent len bytes
unfoldable pub accepted : Call → ℕ → Heap → List Hole → Outcome
accepted (opening base named) len h ks =
    done (Opened (raised grain base) (only_hole base named).size) (opened len base named) (only_hole base named ∷ [])
accepted (change (Change.allocate s align)) len h ks = taken (rounded s) align h ks (find (rounded s) align ks)
accepted (change (Change.free a s align)) len h ks = given (rounded s) a h ks
accepted (change (Change.resize a s align n)) len h ks = refitted (hole a (rounded s)) (rounded n) h ks
accepted (change (Change.extend by)) len h ks = extended by h ks
accepted (report r) len h ks = told (reported r h ks) (listed r ks)
