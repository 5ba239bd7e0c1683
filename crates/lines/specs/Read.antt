-- What the contracts of the code that reads cite. Definitions only.
use Rattle.std.specs.Prelude.{cond, Option, Some, None, List, ℕ, eqb, length, slice_index}
use Rattle.lines.specs.declared.reading.Frame.{Frame}
use Rattle.lines.specs.Frames.{digits, value, Form}

-- the number that bytes make behind a number, if each is a digit
unfoldable pub read : ℕ → List ℕ → Option ℕ
read n bytes = cond (digits bytes) (Some (value n bytes)) None

-- the frame that numbers make at a form, which says how many they are
unfoldable pub filled : List ℕ → Option Form → Option Frame
filled ns None = None
filled ns (Some f) = cond (eqb (length ns) f.count) (Some (f.frame (slice_index ns))) None
