-- `open::decide` meets its contract: 2, then 1, else the heap that `new` makes and the head of its one hole. Assumes nothing.
use native.Mathlib.Omega.{arith}
use Rattle.std.proofs.lemmas.Bool.Decides.{nat_tests}
use Rattle.open.proofs.Begun.{opened_rises, begun_2, begun_1, begun}
use Rattle.open.proofs.decide.Goals as goal

pub returns-then-ne : goal.returns-then-ne
returns-then-ne c m lent = let s = c.args in begun_2 s.base s.named s.h m (grind (arith, nat_tests))

pub returns-then-bad_opening : goal.returns-then-bad_opening
returns-then-bad_opening c m lent = let s = c.args in
    begun_1 s.base s.named s.h m (grind (arith, nat_tests)) lent c.bad_opening.ensures c.if-bad_opening.true

pub fair_size-size-requires : goal.fair_size-size-requires
fair_size-size-requires c = (opened_rises _ _ _ c.new-heap.ensures).1

pub returns : goal.returns
returns c m lent = let s = c.args in
    rw c.fair_size-size.ensures
    (begun s.base s.named s.h m (grind (arith, nat_tests)) lent c.bad_opening.ensures c.if-bad_opening.false c.new-heap.ensures)
