-- `lines::answer::tell_list` meets its contract: it prints the list's line and a line for each hole that the rows hold. Assumes nothing.
use mathlib.Core.Path.{◌≡◌, refl, ap}
use mathlib.Core.List.{List}
use Prim.Native.Nat.{ℕ, ◌-◌, ◌≤◌}
use native.Mathlib.Omega.{arith}
use lib.ListN.{length, length-take, length-replicate}
use Rattle.rules.specs.Calls.{list}
use Rattle.rules.specs.Outcome.{after}
use Rattle.rules.specs.declared.Heap.{Heap}
use Rattle.rules.specs.Answers.{Numbers, answer_numbers}
use Rattle.answers.specs.Numbered.{told}
use Rattle.answers.specs.declared.Told.{Told}
use Rattle.lines.specs.Lines.{line}
use Rattle.lines.specs.Wire.{numbers_line, arena_bytes, most_holes, longest}
use Rattle.lines.proofs.Listed.{listed_few, list_printed}
use borrow.Author.Rules.{rules}
use Rattle.lines.proofs.answer.tell_list.Goals as goal

-- the number that is printed first is that of the answer given
one-is : {t : Told} {n n' : Numbers} → t ≡ told n → n ≡ n' → t.one ≡ n'.one
one-is e k = rw (e, k)

-- and so is the line that is printed first
first-is : {t : Told} {n n' : Numbers} {out : List ℕ} → t ≡ told n → n ≡ n' → out ≡ line t.no t.one t.two → out ≡ numbers_line n'
first-is e k p = rw (p, e, k)

-- the rows have room for so many
few : (h : Heap) (m : List ℕ) {t : Told} {n : Numbers} → length m ≡ arena_bytes → t ≡ told n → n ≡ answer_numbers (after list h m).answer
    → t.one ≤ most_holes
few h m w e k = listed_few h m w (one-is e k)

pub slice_bounds-addrs-end : goal.slice_bounds-addrs-end
slice_bounds-addrs-end c =
    omega (arith, few c.args.h c.args.arena.now (search rules) c.from-t.ensures (ap answer_numbers c.list-answer.ensures.0))

pub slice_bounds-put_holes-end-2 : goal.slice_bounds-put_holes-end-2
slice_bounds-put_holes-end-2 c =
    simp length-take
    (omega (arith, few c.args.h c.args.arena.now (search rules) c.from-t.ensures (ap answer_numbers c.list-answer.ensures.0)))

pub slice_bounds-sizes-end : goal.slice_bounds-sizes-end
slice_bounds-sizes-end c =
    omega (arith, few c.args.h c.args.arena.now (search rules) c.from-t.ensures (ap answer_numbers c.list-answer.ensures.0))

pub slice_bounds-put_holes-end-3 : goal.slice_bounds-put_holes-end-3
slice_bounds-put_holes-end-3 c =
    simp length-take
    (omega (arith, few c.args.h c.args.arena.now (search rules) c.from-t.ensures (ap answer_numbers c.list-answer.ensures.0)))

pub overflow_add-result : goal.overflow_add-result
overflow_add-result c =
    omega (arith, few c.args.h c.args.arena.now (search rules) c.from-t.ensures (ap answer_numbers c.list-answer.ensures.0))

pub overflow_mul-result : goal.overflow_mul-result
overflow_mul-result c =
    omega (arith, few c.args.h c.args.arena.now (search rules) c.from-t.ensures (ap answer_numbers c.list-answer.ensures.0))

pub returns : goal.returns
returns c =
    let s = c.args in
    let zeros = length-replicate {A = ℕ} most_holes 0 in
    let n = one-is c.from-t.ensures (ap answer_numbers c.list-answer.ensures.0) in (
      refl,
      list_printed s.h s.arena.now (search rules) n _ _ _ _ c.list-answer.ensures.1 zeros zeros (longest - 35) c.put_line.new.out _
          c.put_holes.new.out _ (first-is c.from-t.ensures (ap answer_numbers c.list-answer.ensures.0) c.put_line.ensures)
          c.put_holes.ensures,
      omega (arith, listed_few s.h s.arena.now (search rules) n),
    )
