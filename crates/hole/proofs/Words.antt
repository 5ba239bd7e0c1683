-- A word of eight bytes, as the library's conversions read and write it. Assumes nothing.
use Rattle.std.proofs.Common.{
  ◌≡◌,
  ℕ,
  zero,
  suc,
  ◌+◌,
  ◌-◌,
  ◌/◌,
  ◌%◌,
  ◌^◌,
  ◌≤◌,
  List,
  ◌++◌,
  length,
  take,
  drop,
  refl,
  sym,
  append_assoc,
  drop-drop,
  arith,
}
use Rattle.std.proofs.Math.ListN.{set, length-set}
use Rattle.std.proofs.Math.Nat.{add-zero, div-one, div-div-eq-div-mul, pow-suc}
use Rattle.std.proofs.Math.Seq.{drop-set-lt}
use Rattle.std.proofs.lemmas.List.{take_more_set, take-append-drop}
use Rattle.std.proofs.lemmas.List.Edits.{get_or-between}
use Rattle.std.specs.Int.{w64, byte_at, bytes_low_first, from_le_bytes, to_le_bytes}
use Rattle.std.specs.List.{between}
use borrow.Rule.Slice.PartMut.{put_mid}
use Rattle.rules.specs.Words.{word, store}

-- what is read of the eight bytes from an index on
pub word_between : (m : List ℕ) (i : ℕ) → from_le_bytes w64 (between i (i + 8) m) ≡ word 8 m i
unfolding word
word_between m i = grind (arith, get_or-between)

byte_by_power : (j x : ℕ) → byte_at j x ≡ x / 256 ^ j % 256
byte_by_power zero x = rw div-one
byte_by_power (suc j) x = refl

-- the n bytes of a number from its byte j on, put at an index
put_bytes : (n j : ℕ) (m : List ℕ) (i x : ℕ) → i + n ≤ length m
    → take i m ++ (bytes_low_first j n x ++ drop (i + n) m) ≡ store n m i (x / 256 ^ j)
unfolding store
put_bytes zero j m i x h = rw add-zero (take-append-drop i m)
put_bytes (suc n) j m i x h =
    let y = x / 256 ^ j in
    let b = y % 256 in
    let higher : x / 256 ^ suc j ≡ y / 256 = rw pow-suc (sym (div-div-eq-div-mul x (256 ^ j) 256)) in
    let next : i + 1 + n ≡ i + suc n = omega arith in
    let front = take_more_set m i b (omega arith) in
    let back = drop-set-lt (i + suc n) m i b (omega arith) in
    let rest = put_bytes n (suc j) (set m i b) (i + 1) x (omega (arith, length-set m i b)) in
    rw (byte_by_power j x) (rw (front, next, back, append_assoc, higher) at rest)

-- what is written over the eight bytes from an index on
pub put_between : (m : List ℕ) (i x : ℕ) → i + 8 ≤ length m → put_mid i (i + 8 - i) m (to_le_bytes w64 x) ≡ store 8 m i x
put_between m i x h =
    let eight : i + 8 - i ≡ 8 = omega arith in
    rw (eight, drop-drop) (rw div-one at (put_bytes 8 0 m i x h))
