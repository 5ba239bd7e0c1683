-- Digits and lines written into a part of a buffer. Assumes nothing.
use Rattle.std.proofs.Common.{◌≡◌, ◌+◌, ◌-◌, ◌/◌, ◌%◌, ◌≤◌, ◌<◌, ◌∷◌, ◌++◌}
use Rattle.std.proofs.Common.{ℕ, suc, zero, List, [], length, take, drop, slice_set, get_or, refl, arith, append_assoc, length-append, drop-cons}
use Rattle.std.proofs.lemmas.List.{take_at, drop_at, drop-drop, set_at, drop_all}
use borrow.Rule.Slice.PartMut.{put_mid}
use lib.Seq.{drop-set-lt, get_or-set_same}
use lib.ListN.{length-set}
use Rattle.lines.specs.Lines.{glyph, hex, line}
use Rattle.lines.proofs.Worth.{hex_length}

-- ---- digits

-- one digit more, before those that are written
pub hex_on : (n x : ℕ) (m : List ℕ) → 0 < n → n ≤ length m
    → hex (n - 1) (x / 16) ++ drop (n - 1) (slice_set m (n - 1) (glyph (x % 16))) ≡ hex n x ++ drop n m
unfolding hex
hex_on zero x m p l = absurd (omega arith)
hex_on (suc n) x m p l =
    let e : suc n - 1 ≡ n = omega arith in
    let k : n < length (slice_set m n (glyph (x % 16))) = simp length-set (omega arith) in
    rw (
      e,
      drop-cons (slice_set m n (glyph (x % 16))) n 0 k,
      get_or-set_same m n (glyph (x % 16)) 0 (omega arith),
      drop-set-lt (suc n) m n (glyph (x % 16)) (omega arith),
    )
    (simp append_assoc)

-- and none
pub hex_off : (n x : ℕ) (m : List ℕ) → n ≤ 0 → hex n x ++ drop n m ≡ m
unfolding hex
hex_off zero x m e = refl
hex_off (suc n) x m e = absurd (omega arith)

-- ---- lines

-- a line is 35 bytes
pub line_length : (code one two : ℕ) → length (line code one two) ≡ 35
unfolding line
line_length code one two = simp (length-append, hex_length)

-- one part written behind another
written : (n k : ℕ) (front new m : List ℕ) → length front ≡ n → put_mid n k (front ++ drop n m) new ≡ (front ++ new) ++ drop (n + k) m
written n k front new m e = rw (take_at front (drop n m) n e, drop_at front (drop n m) n e, drop-drop k n m) (simp append_assoc)

-- and the last byte behind all
last : (n : ℕ) (front m : List ℕ) (b : ℕ) → length front ≡ n → length m ≡ n + 1 → slice_set (front ++ drop n m) n b ≡ front ++ (b ∷ [])
last n front m b e l =
    rw (drop-cons m n 0 (omega arith), drop_all (suc n) m (omega arith)) (set_at front (get_or m n 0) [] b n e)

-- a line is its byte, its two numbers and LF, written one behind the other
pub line_parts : (code one two : ℕ) (m c o t : List ℕ) → length m ≡ 35 → c ≡ hex 2 code → o ≡ hex 16 one → t ≡ hex 16 two
    → slice_set (put_mid 18 16 (put_mid 2 16 (c ++ drop 2 m) o) t) 34 10 ≡ line code one two
unfolding line
line_parts code one two m c o t l ce oe te =
    let cl : length c ≡ 2 = rw ce (hex_length 2 code) in
    let col : length (c ++ o) ≡ 18 = rw (ce, oe) (simp (length-append, hex_length)) in
    let cotl : length ((c ++ o) ++ t) ≡ 34 = rw (ce, oe, te) (simp (length-append, hex_length)) in
    rw (written 2 16 c o m cl, written 18 16 (c ++ o) t m col, last 34 ((c ++ o) ++ t) m 10 cotl l, ce, oe, te) (simp append_assoc)

-- what is printed at the front, up to its end
pub line_front : (code one two : ℕ) (m : List ℕ) → take 35 (line code one two ++ m) ≡ line code one two
line_front code one two m = take_at (line code one two) m 35 (line_length code one two)
