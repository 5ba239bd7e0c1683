-- A readable heap: what it keeps, and what the readers say of it. Assumes nothing.
use mathlib.Core.Path.{◌≡◌}
use mathlib.Core.Bool.{true, false, not}
use Prim.Native.Nat.{◌-◌, ◌≤◌}
use native.Mathlib.Omega.{arith}
use lib.Dec.{leb}
use borrow.Author.Tests.{ltb-false, le-ltb, lt-ltb, le-leb, lt-leb, ne_eqb, not-true, not-false}
use Rattle.rules.specs.Tests.{any}
use Rattle.rules.specs.Kinds.{addr, plus, same}
use Rattle.rules.specs.Sound.{size, sound_numbers}
use Rattle.rules.specs.Readers.{unreadable, read_addr, read_number}
use Rattle.rules.specs.declared.Heap.{Heap}
use Rattle.rules.specs.Inner.{Fair}
use Rattle.numbers.specs.declared.Readings.{Readings}
use Rattle.numbers.specs.Reads.{Reads}
use Rattle.rules.proofs.Cases.{cases, by_le, any_each}
use Rattle.rules.proofs.Walk.{sound_fair}

-- no address and no bytes
abbrev none : Readings
none = record { bottom = addr 0; top = addr 0; size = 0; used = 0; free = 0 }

-- what makes a heap readable
pub record Readable (h : Heap) : Type 0 where
  pub fair : Fair h
  pub held : h.used ≤ size h

module _ (h : Heap) where
  pub readable_is : not (any (unreadable h)) ≡ true → Readable h
  readable_is e =
      let r = any_each (unreadable h) (not-true (any (unreadable h)) e) in
      record {
        fair = sound_fair h (not-false (sound_numbers h) r.1.0);
        held = ltb-false (size h) h.used r.1.1.0;
      }

  -- numbers that keep their rules leave used to test
  pub used_decides : sound_numbers h ≡ true → leb h.used (size h) ≡ not (any (unreadable h))
  used_decides e =
      let f = sound_fair h e in
      let n = ne_eqb h.bottom.0 0 (λ z. omega arith) in
      by_le h.used (size h)
      (λ l. rw (n, e, le-leb h.used (size h) l, le-ltb (size h) h.used l))
      (λ l. rw (n, e, lt-leb h.used (size h) l, lt-ltb (size h) h.used l))

  -- others leave nothing to test
  pub unreadable_is : sound_numbers h ≡ false → false ≡ not (any (unreadable h))
  unreadable_is e = cases (same h.bottom (addr 0)) (λ z. rw z) (λ z. rw (z, e))

  -- a readable heap says its own numbers
  pub says_own : (r : Readings) → not (any (unreadable h)) ≡ true → r.bottom ≡ h.bottom → r.top ≡ plus h.top h.pending
      → r.size ≡ size h → r.used ≡ h.used → r.free ≡ size h - h.used → Reads h r
  unfolding read_addr read_number
  says_own r e b t s u f =
      let q = not-true (any (unreadable h)) e in
      record { bottom = rw q b; top = rw q t; size = rw q s; used = rw q u; free = rw q f }

  -- any other says 0
  pub says_none : not (any (unreadable h)) ≡ false → Reads h none
  unfolding read_addr read_number
  says_none e = let q = not-false (any (unreadable h)) e in record { bottom = rw q; top = rw q; size = rw q; used = rw q; free = rw q }
