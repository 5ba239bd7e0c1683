-- What the loops over all holes gather: sum and count are those of the holes passed; and where a loop looks for a hole, its cursor names the
-- last of them. Assumes nothing.
use mathlib.Core.Path.{◌≡◌, refl, sym, ◌∙◌}
use mathlib.Core.Bool.{Bool, false}
use mathlib.Core.List.{List, [], ◌∷◌, ◌++◌}
use Prim.Native.Nat.{ℕ, ◌+◌}
use native.Mathlib.Omega.{arith}
use lib.ListN.{length}
use Rattle.rules.specs.Kinds.{none}
use Rattle.rules.specs.Holes as Holes
use Rattle.rules.specs.declared.Addr.{Addr}
use Rattle.rules.specs.declared.Place.{Place}
use Rattle.rules.specs.declared.Hole.{Hole}
use Rattle.rules.specs.declared.Heap.{Heap}
use Rattle.rules.specs.Inner.{Fair, behind}
use Rattle.walk.specs.declared.Cursor.{Cursor}
use Rattle.walk.specs.Walk.{Stepped, found_at, start_of, step_of, last_place, cursor_at}
use Rattle.walk.proofs.Passed.{last_none, last_some, count_more, total_more}
use Rattle.walk.proofs.Turn.{Gone, all, begins_all, turn_place, goes_on}

module _ (stops : Hole → Bool) (h : Heap) (m : List ℕ) where
  pub record Counting (at : Place) (floor : Addr) (total count : ℕ) (front : List Hole) : Type 0 where
    pub gone : Gone (all stops h m) at floor front
    pub summed : total ≡ Holes.total front
    pub counted : count ≡ length front

  pub counts : Fair h → Counting h.first (start_of h) 0 0 []
  unfolding Holes.total
  counts f = record { gone = begins_all stops h m f; summed = refl; counted = refl }

  -- a hole is passed
  pub counts_on : {at : Place} {floor : Addr} {total count : ℕ} {front : List Hole} → Counting at floor total count front
      → {st : Stepped} → st ≡ step_of h m at floor → {k : Hole} {q : Place} → st ≡ found_at k q → stops k ≡ false
      → Counting q (behind k) (total + k.size) (count + 1) (front ++ (k ∷ []))
  counts_on {front = front} c is {k} e n =
      record {
        gone = goes_on c.gone is e n;
        summed = omega (arith, c.summed, total_more front k);
        counted = omega (arith, c.counted, count_more front k);
      }

  pub record Seeking (cursor : Cursor) (floor : Addr) (total count : ℕ) : Type 0 where
    pub front : List Hole
    pub counting : Counting cursor.hole floor total count front
    pub prev : cursor.prev ≡ last_place h.base none front

  pub seeks : Fair h → Seeking (cursor_at none h.first) (start_of h) 0 0
  seeks f = record { front = []; counting = counts f; prev = sym (last_none h.base none) }

  pub seeks_on : {cursor : Cursor} {floor : Addr} {total count : ℕ} → Seeking cursor floor total count
      → {st : Stepped} → st ≡ step_of h m cursor.hole floor → {k : Hole} {q : Place} → st ≡ found_at k q → stops k ≡ false
      → Seeking (cursor_at cursor.hole q) (behind k) (total + k.size) (count + 1)
  seeks_on s is {k} e n =
      record {
        front = s.front ++ (k ∷ []);
        counting = counts_on s.counting is e n;
        prev = turn_place s.counting.gone is e ∙ sym (last_some h.base none s.front k);
      }
