-- Lines from rows: written one behind the other, and those of the holes that the rows hold. Assumes nothing.
use Rattle.std.proofs.Common.{◌≡◌, ◌+◌, ◌*◌, ◌≤◌, ◌<◌, ◌∷◌, ◌++◌, ◌∙◌}
use Rattle.std.proofs.Common.{map, length-append, ℕ, suc, zero, List, [], length, take, drop, get_or, refl, sym, ap, arith, append_assoc, add-one, take-append-drop, append-nil}
use Rattle.std.specs.List.{zip}
use Rattle.std.proofs.lemmas.List.{drop_all, drop-drop, take_all}
use Rattle.std.proofs.lemmas.Slice.{take-put_mid, drop-put_mid}
use lib.ListN.{length-map}
use lib.Seq.{drop-cons}
use borrow.Rule.Slice.PartMut.{put_mid}
use Rattle.rules.specs.Kinds.{number}
use Rattle.rules.specs.Outcome.{over}
use Rattle.rules.specs.declared.Hole.{Hole}
use Rattle.lines.specs.Lines.{line}
use Rattle.lines.specs.Printed.{row_lines}
use Rattle.lines.specs.Wire.{hole_lines}
use Rattle.lines.proofs.Placed.{line_length}

-- ---- two rows side by side

pub pairs_length : (xs ys : List ℕ) → length xs ≡ length ys → length (zip xs ys) ≡ length xs
pairs_length [] ys e = refl
pairs_length (x ∷ xs) [] e = absurd (omega arith)
pairs_length (x ∷ xs) (y ∷ ys) e = ap suc (pairs_length xs ys (omega arith))

pub pairs_at : (k : ℕ) (xs ys : List ℕ) (p : ℕ × ℕ) → length xs ≡ length ys → k < length xs
    → get_or (zip xs ys) k p ≡ (get_or xs k 0, get_or ys k 0)
pairs_at k [] ys p e l = absurd (omega arith)
pairs_at k (x ∷ xs) [] p e l = absurd (omega arith)
pairs_at zero (x ∷ xs) (y ∷ ys) p e l = refl
pairs_at (suc k) (x ∷ xs) (y ∷ ys) p e l = pairs_at k xs ys p (omega arith) (omega arith)

-- ---- lines of two rows

-- k lines are written, and the bytes behind them are as they were
pub record Written (k : ℕ) (addrs sizes m out : List ℕ) : Type 0 where
  pub lines : take (35 * k) out ++ row_lines (drop k addrs) (drop k sizes) ≡ row_lines addrs sizes
  pub behind : drop (35 * k) out ≡ drop (35 * k) m

pub one_more : (k : ℕ) (addrs sizes m out new : List ℕ) → Written k addrs sizes m out → k < length addrs → length addrs ≡ length sizes
    → 35 * length addrs ≤ length out → new ≡ line 0x20 (get_or addrs k 0) (get_or sizes k 0)
    → Written (k + 1) addrs sizes m (put_mid (35 * k) 35 out new)
unfolding row_lines
one_more k addrs sizes m out new w l e f n =
    let len : length new ≡ 35 = rw n (line_length _ _ _) in
    let d : 35 * (k + 1) ≡ 35 * k + 35 = omega arith in
    let rows : row_lines (drop k addrs) (drop k sizes) ≡ new ++ row_lines (drop (k + 1) addrs) (drop (k + 1) sizes) =
    rw (drop-cons addrs k 0 (omega arith), drop-cons sizes k 0 (omega arith), add-one, n) refl in
    let same : drop (35 * (k + 1)) out ≡ drop (35 * (k + 1)) m =
    rw (d, ← drop-drop 35 (35 * k) out, ← drop-drop 35 (35 * k) m) (ap (drop 35) w.behind) in
    record {
      lines = rw (take-put_mid (35 * k) 35 out new (35 * (k + 1)) (omega arith) (omega arith))
          (append_assoc (take (35 * k) out) new _ ∙ ap (λ r. take (35 * k) out ++ r) (sym rows) ∙ w.lines);
      behind = drop-put_mid (35 * k) 35 out new (35 * (k + 1)) (omega arith) (omega arith) len ∙ same;
    }

pub all_written : (addrs sizes m out : List ℕ) → Written (length addrs) addrs sizes m out
    → out ≡ row_lines addrs sizes ++ drop (35 * length addrs) m
unfolding row_lines
all_written addrs sizes m out w =
    let rest : row_lines (drop (length addrs) addrs) (drop (length addrs) sizes) ≡ [] =
    rw (drop_all (length addrs) addrs (omega arith)) refl in
    let front : take (35 * length addrs) out ≡ row_lines addrs sizes = sym (append-nil _) ∙ rw rest at w.lines in
    sym (take-append-drop (35 * length addrs) out) ∙ rw (front, w.behind) refl

-- ---- of the holes

pub lines_length : (ks : List Hole) → length (hole_lines ks) ≡ 35 * length ks
unfolding hole_lines
lines_length [] = refl
lines_length (k ∷ ks) = simp (length-append, line_length, lines_length ks) (omega arith)

pub rows_lines : (ks : List Hole) → row_lines (map (λ k. number k.addr) ks) (map (λ k. k.size) ks) ≡ hole_lines ks
unfolding row_lines hole_lines
rows_lines [] = refl
rows_lines (k ∷ ks) = ap (λ l. line 0x20 k.addr.0 k.size ++ l) (rows_lines ks)

-- ---- numbers over the first of a row

over_front : (xs row : List ℕ) → length xs ≤ length row → take (length xs) (over xs row) ≡ xs
unfolding over
over_front [] row l = refl
over_front (x ∷ xs) [] l = absurd (omega arith)
over_front (x ∷ xs) (y ∷ ys) l = ap (λ r. x ∷ r) (over_front xs ys (omega arith))

-- a row that is long enough holds a number of every hole
pub row_front : (f : Hole → ℕ) (n : ℕ) (ks : List Hole) (row : List ℕ) → length ks ≤ n → n ≤ length row
    → take (length ks) (over (take n (map f ks)) row) ≡ map f ks
row_front f n ks row l r =
    let e = length-map ks f in
    rw (take_all n (map f ks) (omega arith))
    (ap (λ i. take i (over (map f ks) row)) (sym e) ∙ over_front (map f ks) row (omega arith))
