-- Lines on the wire: frames read. Definitions only.
use Rattle.std.specs.Prelude.{Bool, true, ◌&&◌, cond, Option, Some, None, List, [], ◌∷◌, ℕ, ◌+◌, ◌-◌, ◌*◌, eqb, leb, ltb, length, take, drop}
use Rattle.lines.specs.declared.reading.Frame.{Frame}
use Rattle.lines.specs.declared.reading.Frame.TheVariants as is

-- ---- digits

-- the value of a lowercase hexadecimal digit; 16 for any other byte
unfoldable pub digit : ℕ → ℕ
digit b =
    cond (leb 48 b && leb b 57) (b - 48)
    (cond (leb 97 b && leb b 102) (b - 87) 16)

-- every byte is a digit
unfoldable pub digits : List ℕ → Bool
digits [] = true
digits (b ∷ bs) = ltb (digit b) 16 && digits bs

-- the number that digits make, high digit first, behind a number
unfoldable pub value : ℕ → List ℕ → ℕ
value n [] = n
value n (b ∷ bs) = value (n * 16 + digit b) bs

-- the n bytes from index i on, as a number
abbrev pub number_at : List ℕ → ℕ → ℕ → ℕ
number_at line i n = value 0 (take n (drop i line))

-- ---- frames: one byte for the call, then numbers of 8 bytes, high byte first; two digits a byte

-- the digits of a frame: two for the call and sixteen for each of n numbers. Behind them a further number would begin
abbrev pub frame_digits : ℕ → ℕ
frame_digits n = 2 + 16 * n

-- a frame's number, by its index among them
abbrev pub number_of : List ℕ → ℕ → ℕ
number_of line i = number_at line (frame_digits i) 16

-- a call's byte, how many numbers it has, and the frame that they make, by their index
pub record Form : Type 0 where
  pub call : ℕ
  pub count : ℕ
  pub frame : (ℕ → ℕ) → Frame

abbrev pub form : ℕ → ℕ → ((ℕ → ℕ) → Frame) → Form
form c n f = record { call = c; count = n; frame = f }

-- the table of the calls
abbrev pub forms : List Form
forms =
    form 0x01 2 (λ n. is.Open (n 0) (n 1))
    ∷ form 0x02 2 (λ n. is.Allocate (n 0) (n 1))
    ∷ form 0x03 3 (λ n. is.Free (n 0) (n 1) (n 2))
    ∷ form 0x04 1 (λ n. is.Extend (n 0))
    ∷ form 0x05 0 (λ n. is.List)
    ∷ form 0x06 1 (λ n. is.Room (n 0))
    ∷ form 0x07 4 (λ n. is.Resize (n 0) (n 1) (n 2) (n 3))
    ∷ []

-- no call has more numbers
abbrev pub most_numbers : ℕ
most_numbers = 4

-- the form of a byte; one that is no call has none
unfoldable pub form_of : List Form → ℕ → Option Form
form_of [] c = None
form_of (f ∷ fs) c = cond (eqb c f.call) (Some f) (form_of fs c)

-- a line of digits, at a form, which says how long the line is
unfoldable pub formed : List ℕ → Option Form → Option Frame
formed line None = None
formed line (Some f) = cond (eqb (length line) (frame_digits f.count)) (Some (f.frame (number_of line))) None

-- a line of digits, by its call's byte
abbrev pub framed : List ℕ → ℕ → Option Frame
framed line c = formed line (form_of forms c)

-- any other line is none
unfoldable pub frame_of : List ℕ → Option Frame
frame_of line = cond (digits line) (framed line (number_at line 0 2)) None
