-- `lines::reading::number` meets its contract: the digits left, behind the number so far, always make the number wanted. Assumes nothing.
use Rattle.std.proofs.Common.{◌≡◌, ◌^◌, ◌<◌, drop}
use Rattle.lines.specs.Read.{read}
use Rattle.lines.proofs.reading.number.Given as goal

abbrev pub invariant-loop-b : goal.invariant-loop-b
invariant-loop-b l = (read l.sum (drop l.b-index l.digits) ≡ read 0 l.digits) × (l.sum < 16 ^ l.b-index)
