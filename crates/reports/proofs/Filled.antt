-- The rows that a report fills, hole by hole. Assumes nothing.
use Rattle.std.proofs.Common.{◌≡◌, refl, sym, ap, ◌∙◌, true, Ok, Err, None, List, [], ◌∷◌, ◌++◌, map, ℕ, zero, suc, ◌+◌, ◌≤◌, ◌<◌, min, length, set, take, arith}
use mathlib.Core.List.{map-append}
use lib.ListN.{length-map}
use lib.Seq.{take_all, take_at}
use Rattle.rules.specs.Kinds.{number}
use Rattle.rules.specs.Sound.{sound_holes, holes}
use Rattle.rules.specs.Outcome.{rows, over, in_rows}
use Rattle.rules.specs.declared.Addr.{Addr}
use Rattle.rules.specs.declared.Place.{Place}
use Rattle.rules.specs.declared.Hole.{Hole}
use Rattle.rules.specs.declared.Heap.{Heap}
use Rattle.rules.specs.Inner.{Fair, behind}
use Rattle.rules.proofs.Cases.{apart}
use Rattle.rules.proofs.Reports.{over_length}
use Rattle.walk.specs.Walk.{Stepped, found_at, start_of, step_of, never}
use Rattle.rules.specs.declared.Refusal.{Refusal}
use Rattle.walk.proofs.Passed.{count_more}
use Rattle.walk.proofs.Turn.{Gone, all, begins_all, goes_on, all_left, all_end, all_break}
use Rattle.walk.proofs.ToEnd.{by_end, by_break}

-- ---- one row

-- one number more
over_more : (xs row : List ℕ) (i x : ℕ) → length xs ≡ i → i < length row → set (over xs row) i x ≡ over (xs ++ (x ∷ [])) row
unfolding over
over_more [] [] i x e l = absurd (omega arith)
over_more [] (y ∷ ys) zero x e l = refl
over_more [] (y ∷ ys) (suc i) x e l = absurd (omega arith)
over_more (z ∷ zs) [] i x e l = absurd (omega arith)
over_more (z ∷ zs) (y ∷ ys) zero x e l = absurd (omega arith)
over_more (z ∷ zs) (y ∷ ys) (suc i) x e l = ap (λ (t : List ℕ). z ∷ t) (over_more zs ys i x (omega arith) (omega arith))

row_more : (f : Hole → ℕ) (front : List Hole) (k : Hole) (row : List ℕ) (i : ℕ) → i ≡ length front → i < length row
    → set (over (map f front) row) i (f k) ≡ over (map f (front ++ (k ∷ []))) row
row_more f front k row i e l =
    rw (map-append f front (k ∷ [])) (over_more (map f front) row i (f k) (length-map front f ∙ sym e) l)

-- a row is filled up to n: by n holes, or by all that there are
row_filled : (f : Hole → ℕ) (front back : List Hole) (n : ℕ) → length front ≡ n → take n (map f (front ++ back)) ≡ map f front
row_filled f front back n e = rw (map-append f front back) (take_at (map f front) (map f back) n (length-map front f ∙ e))

row_ended : (f : Hole → ℕ) (ks : List Hole) (n : ℕ) → length ks ≤ n → take n (map f ks) ≡ map f ks
row_ended f ks n l = take_all n (map f ks) (rw (length-map ks f) l)

-- ---- the loop

module _ (h : Heap) (m addrs₀ sizes₀ : List ℕ) where
  -- the holes passed stand in both rows
  pub record Filling (addrs sizes : List ℕ) (at : Place) (floor : Addr) (i : ℕ) : Type 0 where
    pub front : List Hole
    pub gone : Gone (all never h m) at floor front
    pub count : i ≡ length front
    «addrs_are» : addrs ≡ over (map (λ k. number k.addr) front) addrs₀
    «sizes_are» : sizes ≡ over (map (λ k. k.size) front) sizes₀

  pub fills : Fair h → Filling addrs₀ sizes₀ h.first (start_of h) 0
  unfolding over
  fills f =
      record {
        front = [];
        gone = begins_all never h m f;
        count = refl;
        «addrs_are» = refl;
        «sizes_are» = refl;
      }

  module _ {addrs sizes : List ℕ} {at : Place} {floor : Addr} {i : ℕ} (g : Filling addrs sizes at floor i) where
    -- both rows keep their lengths
    pub addrs_length : length addrs ≡ length addrs₀
    addrs_length = rw g.«addrs_are» (over_length _ addrs₀)

    pub sizes_length : length sizes ≡ length sizes₀
    sizes_length = rw g.«sizes_are» (over_length _ sizes₀)

    module _ {st : Stepped} (is : st ≡ step_of h m at floor) (l : i < min (length addrs₀) (length sizes₀)) where
      pub fills_on : {k : Hole} {q : Place} → st ≡ found_at k q
          → Filling (set addrs i (number k.addr)) (set sizes i k.size) q (behind k) (i + 1)
      fills_on {k} {q} e =
          record {
            front = g.front ++ (k ∷ []);
            gone = goes_on g.gone is e refl;
            count = omega (arith, g.count, count_more g.front k);
            «addrs_are» = rw g.«addrs_are» (row_more (λ j. number j.addr) g.front k addrs₀ i g.count (omega arith));
            «sizes_are» = rw g.«sizes_are» (row_more (λ j. j.size) g.front k sizes₀ i g.count (omega arith));
          }

      -- no further hole
      pub fills_ended : st ≡ Ok None → rows addrs sizes ≡ in_rows (holes h m) (rows addrs₀ sizes₀)
      unfolding in_rows
      fills_ended e =
          let ks = (by_end never h m g.gone.fair (all_end g.gone is e)).0 in
          let c = g.count in
          let n : length g.front ≤ min (length addrs₀) (length sizes₀) = omega arith in
          let a = row_ended (λ k. number k.addr) g.front _ n in
          let b = row_ended (λ k. k.size) g.front _ n in
          rw (g.«addrs_are», g.«sizes_are», ks, a, b)

    -- no rule is broken
    pub fills_unbroken {ℓ} : {X : Type ℓ} {st : Stepped} → st ≡ step_of h m at floor → sound_holes h (holes h m) ≡ true
        → {r : Refusal} → st ≡ Err r → X
    fills_unbroken is s e = apart s (by_break never h m g.gone.fair (all_break g.gone is e))

    -- the shorter row is full
    pub fills_full : i ≡ min (length addrs₀) (length sizes₀) → rows addrs sizes ≡ in_rows (holes h m) (rows addrs₀ sizes₀)
    unfolding in_rows
    fills_full e =
        let t = all_left g.gone in
        let n = sym g.count ∙ e in
        let a = row_filled (λ k. number k.addr) g.front t.0 _ n in
        let b = row_filled (λ k. k.size) g.front t.0 _ n in
        rw (g.«addrs_are», g.«sizes_are», t.1, a, b)
