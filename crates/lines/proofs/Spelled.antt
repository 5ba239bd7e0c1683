-- A line in words, taken apart as the definitions take it apart: its byte and its numbers by their index. Assumes nothing.
use mathlib.Core.Path.{◌≡◌, sym, ap, ◌∙◌}
use mathlib.Core.Bool.{true, ◌&&◌}
use mathlib.Core.List.{List, [], ◌∷◌, ◌++◌}
use Prim.Native.Nat.{ℕ, zero, suc, ◌+◌, ◌*◌, ◌^◌, ◌≤◌, ◌<◌}
use native.Mathlib.Omega.{arith}
use lib.ListN.{length, take, drop, get_or, length-append, length-drop, take-append-drop, drop_of_length-le}
use lib.Seq.{length-take-le, take_at, drop_at, drop-drop}
use Rattle.std.proofs.lemmas.Bool.{and_from, and_parts}
use Rattle.lines.specs.Frames.{digits, value, number_at, number_of}
use Rattle.lines.specs.Format.{InRow, Spells}
use Rattle.lines.proofs.Digits.{digits_append}
use Rattle.lines.proofs.Worth.{worth_digits, worth_value, digits_worth, worth_low, worth_one}

-- ---- digits of a part

digits_join : (xs ys : List ℕ) → digits xs ≡ true → digits ys ≡ true → digits (xs ++ ys) ≡ true
digits_join xs ys d e = digits_append xs ys ∙ and_from _ _ d e

digits_cut : (n : ℕ) (xs : List ℕ) → digits xs ≡ true → (digits (take n xs) && digits (drop n xs)) ≡ true
digits_cut n xs d = sym (digits_append (take n xs) (drop n xs)) ∙ ap digits (take-append-drop n xs) ∙ d

digits_take : (n : ℕ) (xs : List ℕ) → digits xs ≡ true → digits (take n xs) ≡ true
digits_take n xs d = (and_parts (digits (take n xs)) (digits (drop n xs)) (digits_cut n xs d)).0

digits_drop : (n : ℕ) (xs : List ℕ) → digits xs ≡ true → digits (drop n xs) ≡ true
digits_drop n xs d = (and_parts (digits (take n xs)) (digits (drop n xs)) (digits_cut n xs d)).1

-- ---- numbers in a row

row_digits : (bytes ns : List ℕ) → InRow bytes ns → digits bytes ≡ true
unfolding digits
row_digits bytes [] e = rw e
row_digits bytes (n ∷ ns) (first, rest, e, w, r) = rw e (digits_join first rest (worth_digits first n w.1) (row_digits rest ns r))

row_length : (bytes ns : List ℕ) → InRow bytes ns → length bytes ≡ 16 * length ns
row_length bytes [] e = rw e
row_length bytes (n ∷ ns) (first, rest, e, w, r) =
    let k = row_length rest ns r in
    rw (e, length-append first rest) (omega (arith, w.0))

row_each : (bytes ns : List ℕ) (i : ℕ) → InRow bytes ns → i < length ns → value 0 (take 16 (drop (16 * i) bytes)) ≡ get_or ns i 0
row_each bytes [] i e l = absurd (omega arith)
row_each bytes (n ∷ ns) zero (first, rest, e, w, r) l = rw (e, take_at first rest 16 w.0) (worth_value first n w.1)
row_each bytes (n ∷ ns) (suc i) (first, rest, e, w, r) l =
    let n : 16 * suc i ≡ 16 + 16 * i = omega arith in
    let k : drop (16 * suc i) bytes ≡ drop (16 * i) rest =
    rw e (ap (λ j. drop j (first ++ rest)) n ∙ sym (drop-drop (16 * i) 16 (first ++ rest))
    ∙ ap (drop (16 * i)) (drop_at first rest 16 w.0)) in
    rw k (row_each rest ns i r (omega arith))

-- two rows of the same numbers are the same bytes
row_one : (xs ys ns : List ℕ) → InRow xs ns → InRow ys ns → xs ≡ ys
row_one xs ys [] e f = e ∙ sym f
row_one xs ys (n ∷ ns) (first, rest, e, w, r) (first', rest', e', w', r') =
    rw (e, e', worth_one first first' n (w.0 ∙ sym w'.0) w.1 w'.1, row_one rest rest' ns r r')

-- each number has room
abbrev pub AllLow : List ℕ → Type 0
AllLow [] = Unit {0}
AllLow (n ∷ ns) = (n < 2 ^ 64) × AllLow ns

row_low : (bytes ns : List ℕ) → InRow bytes ns → AllLow ns
row_low bytes [] e = tt
row_low bytes (n ∷ ns) (first, rest, e, w, r) =
    let l : n < 16 ^ 16 = rw w.0 at (worth_low first n w.1) in
    (l, row_low rest ns r)

-- ---- a byte, then numbers

pub record Parts (bytes : List ℕ) (c : ℕ) (ns : List ℕ) : Type 0 where
  pub all : digits bytes ≡ true
  pub long : length bytes ≡ 2 + 16 * length ns
  pub call : number_at bytes 0 2 ≡ c
  pub each : (i : ℕ) → i < length ns → number_of bytes i ≡ get_or ns i 0
  pub low : AllLow ns

pub parts : (bytes : List ℕ) (c : ℕ) (ns : List ℕ) → Spells bytes c ns → Parts bytes c ns
parts bytes c ns (first, rest, e, w, r) =
    record {
      all = rw e (digits_join first rest (worth_digits first c w.1) (row_digits rest ns r));
      long = rw (e, length-append first rest) (omega (arith, w.0, row_length rest ns r));
      call = rw (e, take_at first rest 2 w.0) (worth_value first c w.1);
      each = λ i l. rw e
          (ap (λ (l : List ℕ). value 0 (take 16 l)) (sym (drop-drop (16 * i) 2 (first ++ rest)) ∙ ap (drop (16 * i)) (drop_at first rest 2 w.0))
          ∙ row_each rest ns i r l);
      low = row_low rest ns r;
    }

pub spells_one : (xs ys : List ℕ) (c : ℕ) (ns : List ℕ) → Spells xs c ns → Spells ys c ns → xs ≡ ys
spells_one xs ys c ns (first, rest, e, w, r) (first', rest', e', w', r') =
    rw (e, e', worth_one first first' c (w.0 ∙ sym w'.0) w.1 w'.1, row_one rest rest' ns r r')

-- ---- and together again

-- the k numbers of a line from index i on
unfoldable pub numbers_from : List ℕ → ℕ → ℕ → List ℕ
numbers_from bytes i zero = []
numbers_from bytes i (suc k) = number_of bytes i ∷ numbers_from bytes (suc i) k

row_from : (bytes : List ℕ) (i k : ℕ) → digits bytes ≡ true → length bytes ≡ 2 + 16 * (i + k)
    → InRow (drop (2 + 16 * i) bytes) (numbers_from bytes i k)
unfolding numbers_from
row_from bytes i zero d l = drop_of_length-le bytes {i = 2 + 16 * i} (omega arith)
row_from bytes i (suc k) d l =
    let rest = drop (2 + 16 * i) bytes in
    let n : 16 ≤ length rest = rw (length-drop (2 + 16 * i) bytes) (omega arith) in
    let j : 2 + 16 * i + 16 ≡ 2 + 16 * suc i = omega arith in
    let e : drop 16 rest ≡ drop (2 + 16 * suc i) bytes = drop-drop 16 (2 + 16 * i) bytes ∙ ap (λ x. drop x bytes) j in (
      take 16 rest,
      drop (2 + 16 * suc i) bytes,
      sym (take-append-drop 16 rest) ∙ ap (λ l. take 16 rest ++ l) e,
      (length-take-le 16 rest n, digits_worth (take 16 rest) (digits_take 16 rest (digits_drop (2 + 16 * i) bytes d))),
      row_from bytes (suc i) k d (omega arith),
    )

pub spells_from : (bytes : List ℕ) (k : ℕ) → digits bytes ≡ true → length bytes ≡ 2 + 16 * k
    → Spells bytes (number_at bytes 0 2) (numbers_from bytes 0 k)
spells_from bytes k d l = (
  take 2 bytes,
  drop 2 bytes,
  sym (take-append-drop 2 bytes),
  (length-take-le 2 bytes (omega arith), digits_worth (take 2 bytes) (digits_take 2 bytes d)),
  row_from bytes 0 k d (omega arith),
)
