-- `lines::reading::read_frame` meets its contract: the numbers taken are the line's, and what is left has the line's other digits.
-- Assumes nothing.
use Rattle.std.proofs.Common.{◌≡◌, length}
use Rattle.std.specs.Iterator.Adapters.{enumerate_source, enumerate_count}
use Rattle.std.specs.Slice.Iter.{chunks_exact_rest, chunks_exact_size}
use Rattle.lines.proofs.Taken.{Taken}
use Rattle.lines.proofs.reading.read_frame.Given as goal

abbrev pub invariant-loop-i : goal.invariant-loop-i
invariant-loop-i l = record {
  taken : Taken l.line l.numbers (enumerate_count l.i-iterator) (chunks_exact_rest (enumerate_source l.i-iterator));
  room : length l.numbers ≡ 4;
  size : chunks_exact_size (enumerate_source l.i-iterator) ≡ 16;
}
