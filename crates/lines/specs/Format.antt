-- Lines on the wire in words: which bytes say what, apart from the definitions that read and print them. Definitions only.
use Rattle.std.specs.Prelude.{◌≡◌, Ok, List, [], ◌∷◌, ◌++◌, ◌⊎◌, ℕ, ◌+◌, ◌-◌, ◌*◌, ◌^◌, ◌≤◌, ◌<◌, length}
use Rattle.rules.specs.Kinds.{addr}
use Rattle.rules.specs.Calls.{Call, opening, allocate, free, resize, extend, list, room, Outcome, refused, told, done}
use Rattle.rules.specs.Answers.{Numbers, refusal_numbers, answer_numbers}
use Rattle.rules.specs.Outcome.{outcome, after}
use Rattle.rules.specs.declared.Hole.{Hole}
use Rattle.rules.specs.declared.Heap.{Heap}
use Rattle.lines.specs.declared.reading.Frame.{Frame}
use Rattle.lines.specs.declared.reading.Frame.TheVariants as is
use Rattle.lines.specs.Wire.{Reply}

-- ---- digits

-- the byte b is a digit, worth v: 0 to 9 are the bytes 48 to 57, a to f the bytes 97 to 102
abbrev pub Digit : ℕ → ℕ → Type 0
Digit b v = ((48 ≤ b) × (b ≤ 57) × (v ≡ b - 48)) ⊎ ((97 ≤ b) × (b ≤ 102) × (v ≡ b - 97 + 10))

-- the bytes are digits, worth n together, the high one first: each digit behind one makes it worth sixteen times as much
abbrev pub Worth : List ℕ → ℕ → Type 0
Worth [] n = n ≡ 0
Worth (b ∷ bs) n = (v : ℕ) × (rest : ℕ) × Digit b v × Worth bs rest × (n ≡ v * 16 ^ length bs + rest)

-- ---- numbers

-- one byte: two digits
abbrev pub OneByte : List ℕ → ℕ → Type 0
OneByte bytes n = (length bytes ≡ 2) × Worth bytes n

-- a number of 8 bytes: sixteen digits
abbrev pub EightBytes : List ℕ → ℕ → Type 0
EightBytes bytes n = (length bytes ≡ 16) × Worth bytes n

-- these numbers in their order, and nothing behind the last
abbrev pub InRow : List ℕ → List ℕ → Type 0
InRow bytes [] = bytes ≡ []
InRow bytes (n ∷ ns) = (first : List ℕ) × (rest : List ℕ) × (bytes ≡ first ++ rest) × EightBytes first n × InRow rest ns

-- one byte, then numbers
abbrev pub Spells : List ℕ → ℕ → List ℕ → Type 0
Spells bytes c ns = (first : List ℕ) × (rest : List ℕ) × (bytes ≡ first ++ rest) × OneByte first c × InRow rest ns

-- ---- the calls and their numbers

-- the line, its LF taken off, is the frame of a call
abbrev pub IsFrame : List ℕ → Frame → Type 0
IsFrame bytes (is.Open base named) = Spells bytes 0x01 (base ∷ named ∷ [])
IsFrame bytes (is.Allocate s align) = Spells bytes 0x02 (s ∷ align ∷ [])
IsFrame bytes (is.Free a s align) = Spells bytes 0x03 (a ∷ s ∷ align ∷ [])
IsFrame bytes (is.Extend by) = Spells bytes 0x04 (by ∷ [])
IsFrame bytes is.List = Spells bytes 0x05 []
IsFrame bytes (is.Room align) = Spells bytes 0x06 (align ∷ [])
IsFrame bytes (is.Resize a s align n) = Spells bytes 0x07 (a ∷ s ∷ align ∷ n ∷ [])

-- the line is the frame of no call; so is an empty one
abbrev pub NoFrame : List ℕ → Type 0
NoFrame bytes = (f : Frame) → IsFrame bytes f → ⊥

-- the digits of each call's frame
abbrev pub digits_of : Frame → ℕ
digits_of (is.Open base named) = 34
digits_of (is.Allocate s align) = 34
digits_of (is.Free a s align) = 50
digits_of (is.Extend by) = 18
digits_of is.List = 2
digits_of (is.Room align) = 18
digits_of (is.Resize a s align n) = 66

-- ---- answers: a line says a byte and two numbers

-- LF is the byte 10
abbrev pub IsLine : List ℕ → ℕ → ℕ → ℕ → Type 0
IsLine bytes code one two = (digits : List ℕ) × (bytes ≡ digits ++ (10 ∷ [])) × Spells digits code (one ∷ two ∷ [])

abbrev pub TellsNumbers : List ℕ → Numbers → Type 0
TellsNumbers bytes n = IsLine bytes n.no n.one n.two

-- behind the line of the list, a line for each hole, in their order: 20, its address and its size
abbrev pub TellsHoles : List ℕ → List Hole → Type 0
TellsHoles bytes [] = bytes ≡ []
TellsHoles bytes (k ∷ ks) =
    (first : List ℕ) × (rest : List ℕ) × (bytes ≡ first ++ rest) × IsLine first 0x20 k.addr.0 k.size × TellsHoles rest ks

-- the bytes are what is printed of a call
abbrev pub Tells : List ℕ → Outcome → Type 0
Tells bytes (refused r) = TellsNumbers bytes (refusal_numbers r)
Tells bytes (told a ks) =
    (first : List ℕ) × (rest : List ℕ) × (bytes ≡ first ++ rest) × TellsNumbers first (answer_numbers (Ok a)) × TellsHoles rest ks
Tells bytes (done a h ks) = TellsNumbers bytes (answer_numbers (Ok a))

-- ---- what a line comes to

-- what a call prints, and the heap and the arena that it leaves
pub record Does (c : Call) (h : Heap) (m : List ℕ) (r : Reply) : Type 0 where
  pub printed : Tells r.printed (outcome c h m)
  pub heap : r.heap ≡ (after c h m).heap
  pub arena : r.arena ≡ (after c h m).arena

-- ff and two zeros are printed, and heap and arena stay
pub record DoesNothing (h : Heap) (m : List ℕ) (r : Reply) : Type 0 where
  pub printed : IsLine r.printed 0xff 0 0
  pub heap : r.heap ≡ h
  pub arena : r.arena ≡ m

pub record ComesTo (bytes : List ℕ) (h : Heap) (m : List ℕ) (r : Reply) : Type 0 where
  pub opens : (base named : ℕ) → IsFrame bytes (is.Open base named) → Does (opening (addr base) named) h m r
  pub allocates : (s align : ℕ) → IsFrame bytes (is.Allocate s align) → Does (allocate s align) h m r
  pub frees : (a s align : ℕ) → IsFrame bytes (is.Free a s align) → Does (free (addr a) s align) h m r
  pub extends : (by : ℕ) → IsFrame bytes (is.Extend by) → Does (extend by) h m r
  pub lists : IsFrame bytes is.List → Does list h m r
  pub reports : (align : ℕ) → IsFrame bytes (is.Room align) → Does (room align) h m r
  pub resizes : (a s align n : ℕ) → IsFrame bytes (is.Resize a s align n) → Does (resize (addr a) s align n) h m r
  pub others : NoFrame bytes → DoesNothing h m r

-- ---- what has room on the wire

-- a byte and two numbers of 8 bytes
abbrev pub Fit : Numbers → Type 0
Fit n = (n.no < 2 ^ 8) × (n.one < 2 ^ 64) × (n.two < 2 ^ 64)

abbrev pub HolesFit : List Hole → Type 0
HolesFit [] = Unit {0}
HolesFit (k ∷ ks) = (k.addr.0 < 2 ^ 64) × (k.size < 2 ^ 64) × HolesFit ks

abbrev pub OutcomeFits : Outcome → Type 0
OutcomeFits (refused r) = Fit (refusal_numbers r)
OutcomeFits (told a ks) = Fit (answer_numbers (Ok a)) × HolesFit ks
OutcomeFits (done a h ks) = Fit (answer_numbers (Ok a))

abbrev pub FrameFits : Frame → Type 0
FrameFits (is.Open base named) = (base < 2 ^ 64) × (named < 2 ^ 64)
FrameFits (is.Allocate s align) = (s < 2 ^ 64) × (align < 2 ^ 64)
FrameFits (is.Free a s align) = (a < 2 ^ 64) × (s < 2 ^ 64) × (align < 2 ^ 64)
FrameFits (is.Extend by) = by < 2 ^ 64
FrameFits is.List = Unit {0}
FrameFits (is.Room align) = align < 2 ^ 64
FrameFits (is.Resize a s align n) = (a < 2 ^ 64) × (s < 2 ^ 64) × (align < 2 ^ 64) × (n < 2 ^ 64)
