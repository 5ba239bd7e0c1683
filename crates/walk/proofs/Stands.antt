-- The holes of a heap that keeps every rule: they rise, their heads stand in the arena, and their sizes add up. Assumes nothing.
use mathlib.Core.Path.{◌≡◌, sym}
use mathlib.Core.List.{List}
use Prim.Native.Nat.{ℕ, suc, ◌+◌}
use native.Mathlib.Omega.{arith}
use borrow.Author.Tests.{eqb-true}
use Rattle.rules.specs.Kinds.{none}
use Rattle.rules.specs.Holes.{first_of, total}
use Rattle.rules.specs.Sound.{size, list_rules, sound_holes, most, holes}
use Rattle.rules.specs.declared.Heap.{Heap}
use Rattle.rules.specs.Inner.{Rises}
use Rattle.rules.proofs.Cases.{all_each}
use Rattle.rules.proofs.Walk.{sound_count}
use Rattle.rules.proofs.Rises.{sound_rises}
use Rattle.rules.proofs.Lists.{Holds, holds_from}
use Rattle.walk.proofs.Turn.{start}
use Rattle.walk.specs.Settled.{Settled}

pub record Stands (h : Heap) (m : List ℕ) : Type 0 where
  pub rises : Rises h.bottom.0 h.top.0 (holes h m)
  pub heads : Holds h.base m (holes h m) none
  pub first : h.first ≡ first_of h.base (holes h m)
  pub sum : total (holes h m) + h.used ≡ size h

pub stands : (h : Heap) (m : List ℕ) → Settled h m → Stands h m
unfolding sound_holes
stands h m s =
    let f = s.ready.lent.fair in
    let list = (start h m f).list in
    let few = sound_count h f (holes h m) s.sound in
    let r = holds_from (suc (most h)) h.base m h.first (omega (arith, rw list at few)) in
    record {
      rises = sound_rises h f (holes h m) s.sound;
      heads = rw list r.0;
      first = rw list (sym r.1);
      sum = eqb-true _ _ (all_each (list_rules h (holes h m)) s.sound).1.1.1.1.0;
    }
