-- The list printed: its line, and the lines of its holes from the rows that it filled. Assumes nothing.
use mathlib.Core.Path.{◌≡◌, ap, ◌∙◌}
use mathlib.Core.List.{List, ◌++◌, map, append_assoc}
use Prim.Native.Nat.{ℕ, ◌+◌, ◌*◌, min, ◌≤◌}
use native.Mathlib.Omega.{arith}
use lib.ListN.{length, take, length-append}
use lib.Seq.{take_at}
use borrow.Rule.Slice.PartMut.{put_mid}
use Rattle.rules.specs.Kinds.{number}
use Rattle.rules.specs.Calls.{list}
use Rattle.rules.specs.Answers.{answer_numbers}
use Rattle.rules.specs.Outcome.{outcome, after, leaves, rows, over, in_rows, rows_after}
use Rattle.rules.specs.declared.Heap.{Heap}
use Rattle.lines.specs.Wire.{numbers_line, hole_lines, spoken, arena_bytes, most_holes}
use Rattle.lines.specs.Printed.{row_lines}
use Rattle.lines.proofs.Placed.{line_length, line_front}
use Rattle.lines.proofs.FromRows.{lines_length, rows_lines, row_front}
use Rattle.rules.proofs.Reports.{over_length}
use Rattle.lines.proofs.Spoken.{shown, spoken_is, listing}

module _ (h : Heap) (m : List ℕ) (whole : length m ≡ arena_bytes) {n : ℕ} (is : n ≡ (answer_numbers (after list h m).answer).one) where
  listed_count : n ≡ length (shown (outcome list h m))
  unfolding after
  listed_count = is ∙ (listing h m).count

  holes_few : length (shown (outcome list h m)) ≤ most_holes
  holes_few = omega (arith, (listing h m).few)

  -- so many lines fit
  pub listed_few : n ≤ most_holes
  listed_few = rw listed_count holes_few

  module _ (addrs sizes addrs₀ sizes₀ : List ℕ) (filled : rows addrs sizes ≡ rows_after list h m (rows addrs₀ sizes₀))
      (la : length addrs₀ ≡ most_holes) (ls : length sizes₀ ≡ most_holes) where
    in_rows_lem : rows addrs sizes ≡ in_rows (shown (outcome list h m)) (rows addrs₀ sizes₀)
    unfolding rows_after
    in_rows_lem = filled ∙ (listing h m).rows (rows addrs₀ sizes₀)

    shorter : min (length addrs₀) (length sizes₀) ≡ most_holes
    shorter = omega arith

    addrs_are : addrs ≡ over (take most_holes (map (λ k. number k.addr) (shown (outcome list h m)))) addrs₀
    unfolding in_rows
    addrs_are = rw shorter at (ap (λ r. r.addrs) in_rows_lem)

    sizes_are : sizes ≡ over (take most_holes (map (λ k. k.size) (shown (outcome list h m)))) sizes₀
    unfolding in_rows
    sizes_are = rw shorter at (ap (λ r. r.sizes) in_rows_lem)

    pub addrs_length : length addrs ≡ most_holes
    addrs_length = rw addrs_are (over_length _ addrs₀ ∙ la)

    pub sizes_length : length sizes ≡ most_holes
    sizes_length = rw sizes_are (over_length _ sizes₀ ∙ ls)

    lines_are : row_lines (take n addrs) (take n sizes) ≡ hole_lines (shown (outcome list h m))
    lines_are =
        let ks = shown (outcome list h m) in
        let few = holes_few in
        let a : take n addrs ≡ map (λ k. number k.addr) ks =
        rw (listed_count, addrs_are) (row_front (λ k. number k.addr) most_holes ks addrs₀ few (omega arith)) in
        let s : take n sizes ≡ map (λ k. k.size) ks =
        rw (listed_count, sizes_are) (row_front (λ k. k.size) most_holes ks sizes₀ few (omega arith)) in
        rw (a, s) (rows_lines ks)

    -- the first line, and the others behind it
    pub list_printed : (k : ℕ) (first back holes m' : List ℕ) → first ≡ numbers_line (answer_numbers (after list h m).answer)
        → holes ≡ row_lines (take n addrs) (take n sizes) ++ m'
        → take (35 * (n + 1)) (put_mid 35 k (first ++ back) holes) ≡ spoken (outcome list h m)
    unfolding after
    list_printed k first back holes m' e i =
        let o = outcome list h m in
        let ls = hole_lines (shown o) in
        let a = answer_numbers (leaves h m o).answer in
        let long : length (numbers_line a ++ ls) ≡ 35 * (n + 1) =
        simp (length-append, line_length) (omega (arith, lines_length (shown o), listed_count)) in
        rw (e, i, lines_are, line_front a.no a.one a.two back, spoken_is h m o)
        (simp append_assoc (rw (← append_assoc (numbers_line a) ls) (take_at (numbers_line a ++ ls) _ (35 * (n + 1)) long)))
