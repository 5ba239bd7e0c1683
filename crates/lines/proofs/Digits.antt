-- Digits, as code reads them: of two parts, and one by one. Assumes nothing.
use Rattle.std.proofs.Common.{◌≡◌, ◌∙◌, ◌+◌, ◌*◌, ◌^◌, ◌≤◌, ◌<◌, ◌&&◌, ◌∷◌, ◌++◌}
use Rattle.std.proofs.Common.{sym, ap, true, false, ℕ, List, [], Some, None, length, drop, get_or, refl, arith, add-one, drop-cons}
use Rattle.std.proofs.lemmas.Option.{cond_some}
use Rattle.std.proofs.Math.Nat.{pow-suc, pow-le-pow_right}
use Rattle.std.proofs.lemmas.Option.{none-some}
use Rattle.std.proofs.Math.Bool.{and_assoc}
use lib.Dec.{ltb}
use lib.ListN.{drop_of_length-le}
use borrow.Author.Tests.{lt-ltb}
use Rattle.rules.proofs.Cases.{cases}
use Rattle.lines.specs.Frames.{digit, digits, value}
use Rattle.lines.specs.Read.{read}

-- ---- the digits of two parts

pub digits_append : (xs ys : List ℕ) → digits (xs ++ ys) ≡ (digits xs && digits ys)
unfolding digits
digits_append [] ys = refl
digits_append (x ∷ xs) ys =
    ap (λ b. ltb (digit x) 16 && b) (digits_append xs ys) ∙ sym (and_assoc (ltb (digit x) 16) (digits xs) (digits ys))

-- ---- a number, or none

pub read_some : (bytes : List ℕ) (n : ℕ) → read 0 bytes ≡ Some n → (digits bytes ≡ true) × (value 0 bytes ≡ n)
unfolding read
read_some bytes n e = cond_some (digits bytes) (value 0 bytes) n e

pub read_none : (bytes : List ℕ) → read 0 bytes ≡ None → digits bytes ≡ false
unfolding read
read_none bytes e = cases (digits bytes) (λ d. absurd (none-some (value 0 bytes) (sym e ∙ rw d refl))) (λ d. d)

-- ---- digit by digit

-- a digit behind a number makes a greater one
pub read_on : (sum more : ℕ) (bytes : List ℕ) (i : ℕ) → i < length bytes → digit (get_or bytes i 0) < 16
    → more ≡ sum * 16 + digit (get_or bytes i 0) → read more (drop (i + 1) bytes) ≡ read sum (drop i bytes)
unfolding read digits value
read_on sum more bytes i l d e = rw (e, drop-cons bytes i 0, add-one, lt-ltb (digit (get_or bytes i 0)) 16)

-- any other byte makes none
pub read_off : (sum : ℕ) (bytes : List ℕ) (i : ℕ) → i < length bytes → digit (get_or bytes i 0) ≡ 16 → read sum (drop i bytes) ≡ None
unfolding read digits
read_off sum bytes i l d = rw (drop-cons bytes i 0, d)

-- behind the last byte the number is whole
pub read_end : (sum : ℕ) (bytes : List ℕ) (i : ℕ) → length bytes ≤ i → read sum (drop i bytes) ≡ Some sum
unfolding read digits value
read_end sum bytes i l = rw (drop_of_length-le bytes l)

-- a digit behind a number of k digits makes one of k + 1
pub more_digits : (sum d k : ℕ) → sum < 16 ^ k → d < 16 → sum * 16 + d < 16 ^ (k + 1)
more_digits sum d k l ld = rw (add-one, pow-suc 16 k) (omega arith)

-- what has at most sixteen digits fits 64 bits
pub sixteen_fit : (x k : ℕ) → x < 16 ^ k → k ≤ 16 → x < 2 ^ 64
sixteen_fit x k l m = omega (arith, pow-le-pow_right {n = 16} (omega arith) m)
