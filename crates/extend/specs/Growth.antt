-- What an extension decides: bytes that accumulate, bytes that become free, and either of them on sound holes. Definitions only.
use Rattle.std.specs.Prelude.{None, List, ℕ, ◌%◌}
use Rattle.rules.specs.Fixed.{grain}
use Rattle.rules.specs.Round.{down_to}
use Rattle.rules.specs.Sound.{size, holes}
use Rattle.rules.specs.Calls.{grown}
use Rattle.rules.specs.Outcome.{After, leaves}
use Rattle.rules.specs.declared.Heap.{Heap}
use Rattle.rules.specs.declared.Decided.{Decided}
use Rattle.rules.specs.declared.Answer.TheVariants.{Extended}
use Rattle.rules.specs.Inner.{sifted, extending}

-- the bytes are pending, and nothing is written
abbrev pub gathering : Heap → ℕ → Decided
gathering h pending =
    record {
      heap =
          record {
            base = h.base;
            len = h.len;
            bottom = h.bottom;
            top = h.top;
            first = h.first;
            pending = pending;
            used = h.used;
          };
      answer = Extended (size h) pending;
      heads = record { one = None; two = None };
    }

-- the bytes, rounded down to 8, are added at top, and the rest is pending
abbrev pub growing : ℕ → Heap → List ℕ → After
growing by h m = leaves h m (grown (down_to grain by) (by % grain) h (holes h m))

-- what an extension leaves, unless the holes break a rule
abbrev pub extended_if_sound : ℕ → Heap → List ℕ → After
extended_if_sound by h m = leaves h m (sifted h (holes h m) (extending by h (holes h m)))
