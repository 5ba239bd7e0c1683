-- The wire's format as statements: the definitions that read and print say what the words in Format say, both ways. The proofs are held to
-- these types in proofs/Format.antt, whose one value of `Format` the gate checks.
use Rattle.std.specs.Prelude.{◌≡◌, Some, None, List, ℕ, ◌^◌, ◌≤◌, ◌<◌, length, take}
use Rattle.rules.specs.Calls.{Call, Outcome}
use Rattle.rules.specs.Runs.{Fits}
use Rattle.rules.specs.Outcome.{outcome}
use Rattle.rules.specs.declared.Hole.{Hole}
use Rattle.rules.specs.declared.Heap.{Heap}
use Rattle.lines.specs.declared.Replied.{Replied}
use Rattle.lines.specs.declared.reading.Frame.{Frame}
use Rattle.lines.specs.Frames.{frame_digits, most_numbers, frame_of}
use Rattle.lines.specs.Lines.{line}
use Rattle.lines.specs.Wire.{hole_lines, spoken, Reply, replied, arena_bytes, most_holes, Answers}
use Rattle.lines.specs.Format.{IsFrame, NoFrame, digits_of, IsLine, TellsHoles, Tells, ComesTo, HolesFit, OutcomeFits, FrameFits}

-- ---- frames

-- a line is read as a call exactly if it is that call's frame
abbrev pub ReadsExactly : Type 0
ReadsExactly =
    (bytes : List ℕ) (f : Frame) → (IsFrame bytes f → frame_of bytes ≡ Some f) × (frame_of bytes ≡ Some f → IsFrame bytes f)

-- and as none exactly if it is no call's
abbrev pub BadExactly : Type 0
BadExactly = (bytes : List ℕ) → (NoFrame bytes → frame_of bytes ≡ None) × (frame_of bytes ≡ None → NoFrame bytes)

-- a line is the frame of one call at most
abbrev pub OneCall : Type 0
OneCall = (bytes : List ℕ) (f g : Frame) → IsFrame bytes f → IsFrame bytes g → f ≡ g

-- a call whose numbers have room has a frame, and only one
abbrev pub EachCall : Type 0
EachCall = (f : Frame) → FrameFits f → (bytes : List ℕ) × IsFrame bytes f

abbrev pub OneSpelling : Type 0
OneSpelling = (a b : List ℕ) (f : Frame) → IsFrame a f → IsFrame b f → a ≡ b

-- whose length the call alone decides, and whose numbers have room
abbrev pub FrameDigits : Type 0
FrameDigits = (bytes : List ℕ) (f : Frame) → IsFrame bytes f → (length bytes ≡ digits_of f) × FrameFits f

-- ---- answers

-- a line is printed of three numbers exactly if it says them
abbrev pub PrintsExactly : Type 0
PrintsExactly =
    (bytes : List ℕ) (code one two : ℕ) → code < 2 ^ 8 → one < 2 ^ 64 → two < 2 ^ 64
    → (IsLine bytes code one two → bytes ≡ line code one two) × (bytes ≡ line code one two → IsLine bytes code one two)

-- it has 34 digits and LF
abbrev pub LineBytes : Type 0
LineBytes = (bytes : List ℕ) (code one two : ℕ) → IsLine bytes code one two → length bytes ≡ 35

-- the list's lines
abbrev pub HolesExactly : Type 0
HolesExactly =
    (bytes : List ℕ) (ks : List Hole) → HolesFit ks
    → (TellsHoles bytes ks → bytes ≡ hole_lines ks) × (bytes ≡ hole_lines ks → TellsHoles bytes ks)

-- what is printed of a call
abbrev pub SpeaksExactly : Type 0
SpeaksExactly =
    (bytes : List ℕ) (o : Outcome) → OutcomeFits o → (Tells bytes o → bytes ≡ spoken o) × (bytes ≡ spoken o → Tells bytes o)

-- ---- a line and the box

-- whatever a call tells has room
abbrev pub OutcomesFit : Type 0
OutcomesFit = (c : Call) (h : Heap) (m : List ℕ) → Fits c → OutcomeFits (outcome c h m)

-- a line comes to what the words say, and to nothing else
abbrev pub RepliesExactly : Type 0
RepliesExactly =
    (bytes : List ℕ) (h : Heap) (m : List ℕ) (r : Reply)
    → (ComesTo bytes h m r → r ≡ replied bytes h m) × (r ≡ replied bytes h m → ComesTo bytes h m r)

-- what is promised of `answer_line`, the bytes that it prints, the heap and the arena, is what the line comes to
abbrev pub AnswersExactly : Type 0
AnswersExactly =
    (bytes : List ℕ) (h : Heap) (m : List ℕ) (r : Replied) (out m' : List ℕ)
    → (Answers (replied bytes h m) r out m'
    → ComesTo bytes h m (record { printed = take r.len out; heap = r.heap; arena = m' }) × (r.len ≤ 71715))
    × (ComesTo bytes h m (record { printed = take r.len out; heap = r.heap; arena = m' }) × (r.len ≤ 71715)
    → Answers (replied bytes h m) r out m')

-- the longest frame has 66 digits. On the program's arena of 65,536 bytes the longest answer has 71,715: a line for the list, and 2,048 for
-- holes
pub record Sizes : Type 0 where
  pub frame : frame_digits most_numbers ≡ 66
  pub arena : arena_bytes ≡ 65536
  pub holes : most_holes ≡ 2048
  pub enough : (bytes : List ℕ) (h : Heap) (m : List ℕ) → length m ≡ 65536 → length (replied bytes h m).printed ≤ 71715

pub record Format : Type 0 where
  pub reads_exactly : ReadsExactly
  pub bad_exactly : BadExactly
  pub one_call : OneCall
  pub each_call : EachCall
  pub one_spelling : OneSpelling
  pub frame_digits : FrameDigits
  pub prints_exactly : PrintsExactly
  pub line_bytes : LineBytes
  pub holes_exactly : HolesExactly
  pub speaks_exactly : SpeaksExactly
  pub outcomes_fit : OutcomesFit
  pub replies_exactly : RepliesExactly
  pub answers_exactly : AnswersExactly
  pub sizes : Sizes
