-- Demand 2: a request gets the lowest address that the paper allows, and is refused for room exactly when there is none. Assumes nothing.
use mathlib.Core.Path.{◌≡◌, refl, ap, ◌∙◌}
use mathlib.Core.List.{List, ◌∷◌, ◌++◌, append_assoc}
use Prim.Native.Nat.{ℕ, ◌+◌}
use native.Mathlib.Omega.{arith}
use lib.ListN.{length, length-append}
use Rattle.rules.specs.declared.Hole.{Hole}
use Rattle.rules.specs.declared.Heap.{Heap}
use Rattle.rules.specs.Kinds.{plus}
use Rattle.rules.specs.Holes.{end}
use Rattle.rules.specs.Sound.{holes}
use Rattle.rules.specs.Allocate.{rounded, candidate, found, find, remains, split}
use Rattle.rules.specs.Calls.{allocate, taken, accepted, renewed}
use Rattle.rules.specs.Refusals.{unless}
use Rattle.rules.specs.Outcome.{outcome}
use Rattle.rules.specs.InWords.{Valid}
use Rattle.rules.specs.Behaviour.{ours, Good}
use Rattle.rules.specs.Statements.{Granted, Demand2}
use Rattle.rules.proofs.Powers.{power_pos}
use Rattle.rules.proofs.Used.{find_splits, used_rises}
use Rattle.rules.proofs.SoundWords.{rounds_rounded}
use Rattle.rules.proofs.Suits.{Placed, by_found, nothing_room, room_nothing, found_lies, found_lowest}
use Rattle.rules.proofs.Good.{good_outcome, good_rises, good_count, valid_passes, renewed_becomes}

-- the first suiting hole is used, or none is found
allocate_outcome : (h : Heap) (m : List ℕ) (s align r : ℕ) → Good ours h m → Valid s align r
    → outcome (allocate s align) h m ≡ taken r align h (holes h m) (find r align (holes h m))
unfolding unless accepted
allocate_outcome h m s align r g v =
    let e : r ≡ rounded s = rounds_rounded v.rounds in
    good_outcome (allocate s align) h m refl g ∙ rw (valid_passes s align r v, e)

module _ (h : Heap) (m : List ℕ) (s align r : ℕ) (g : Good ours h m) (v : Valid s align r) where
  placed : Placed (holes h m)
  placed k t = (g.1.1.each k t).place

  granted : (front back : List Hole) (k : Hole) → find r align (holes h m) ≡ found front k back
      → Granted r align h (holes h m) (outcome (allocate s align) h m)
  unfolding taken split remains
  granted front back k e =
      let c = candidate align k.addr in
      let parts = find_splits r align (holes h m) front back k e in
      let new = front ++ (split r align k ++ back) in
      record {
        at = c.0;
        front = front;
        used = k;
        back = back;
        heap = renewed h new h.top h.pending (h.used + r);
        new = new;
        one = parts.0;
        lies = found_lies r align v.power (holes h m) front back k e;
        lowest =
            λ x t.
            found_lowest r align v.power (holes h m) front back k e h.bottom.0 h.top.0 x placed (good_rises h m g) t;
        answer = allocate_outcome h m s align r g v ∙ rw e;
        few =
            let n : length (holes h m) ≡ length front + length (k ∷ back) = rw parts.0 (length-append front (k ∷ back)) in
            omega (arith, good_count h m g);
        split =
            ap (λ (l : List Hole). front ++ l) (append_assoc (remains k.addr c) (remains (plus c r) (end k)) back);
        becomes =
            renewed_becomes h new h.top h.pending (h.used + r) h.bottom.0 h.top.0 g.1.0.bottom.above
            (used_rises r align k parts.1 (power_pos v.power) h.bottom.0 h.top.0 front back
            (rw parts.0 at (good_rises h m g)));
      }

pub demand2 : Demand2 ours
unfolding taken
demand2 h m s align r g v = (
  λ room.
      by_found (find r align (holes h m))
      (λ e. absurd (nothing_room r align v.power (holes h m) (placed h m s align r g v) e room.0 room.1))
      (λ front k back e. granted h m s align r g v front back k e),
  λ none. allocate_outcome h m s align r g v ∙ rw (room_nothing r align v.power (holes h m) none),
)
