-- What all five readers say of a heap. Definitions only.
use Rattle.std.specs.Prelude.{◌≡◌}
use Rattle.rules.specs.Readers.{bottom_of, top_of, size_of, used_of, free_of}
use Rattle.rules.specs.declared.Heap.{Heap}
use Rattle.numbers.specs.declared.Readings.{Readings}

pub record Reads (h : Heap) (r : Readings) : Type 0 where
  pub bottom : r.bottom ≡ bottom_of h
  pub top : r.top ≡ top_of h
  pub size : r.size ≡ size_of h
  pub used : r.used ≡ used_of h
  pub free : r.free ≡ free_of h
