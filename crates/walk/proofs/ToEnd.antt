-- The walk to the end: how its loop answers; and the rules on the holes, as it and its sum decide them, of the whole list or of what is left
-- of it behind a part that was passed. Assumes nothing.
use mathlib.Core.Path.{◌≡◌, refl, sym, ◌∙◌, ap}
use mathlib.Core.Bool.{true, false, Bool, ◌&&◌}
use mathlib.Core.List.{List, [], ◌∷◌, ◌++◌, append-nil}
use Prim.Native.Nat.{ℕ, ◌+◌, ◌≤◌, zero, suc, ◌-◌, ◌<◌}
use native.Mathlib.Omega.{arith}
use Rattle.rules.specs.Fixed.{min_size}
use Rattle.rules.specs.Holes as Holes
use Rattle.rules.specs.Holes.{holes_from, head_at, first_of}
use Rattle.rules.specs.declared.Addr.{Addr}
use Rattle.rules.specs.declared.Place.{Place}
use Rattle.rules.specs.declared.Hole.{Hole}
use Rattle.rules.specs.declared.Heap.{Heap}
use Rattle.rules.specs.Inner.{Fair, behind}
use Rattle.rules.specs.declared.Refusal.{Refusal}
use Rattle.rules.specs.declared.Refusal.TheVariants.{NotSound}
use Rattle.walk.specs.Walk.{Enough, Stepped, found_at, step_of, never, walked_by, walked_of, start_of, Stop, stopped, ended, broken, walked, last_floor, or_5, adds_up}
use Rattle.walk.proofs.Passed.{total_more, Spaced}
use Rattle.walk.proofs.Turn.{Walk, Gone, begins, goes_on, ends_here, breaks_5, breaks, start}
use lib.ListN.{length}
use Rattle.std.specs.Prelude.{⊤}
use Rattle.std.proofs.Common.{Result, Ok, Err, None}
use Rattle.rules.specs.Kinds.{none}
use Rattle.std.specs.Cmp.{both_ways}
use Rattle.rules.proofs.Cases.{by_eq, apart}
use Rattle.rules.proofs.Lists.{from_none, from_step, first_from}
use lib.Dec.{eqb}
use borrow.Author.Tests.{eqb-true, eq-eqb, ne_eqb}
use Rattle.rules.specs.Sound.{size, sound_holes, most, holes}
use Rattle.rules.proofs.Walk.{walks, sound_walks}
use Rattle.rules.proofs.Totals.{total_append}
use Rattle.walk.proofs.Passed.{Says, said, said_end, said_bad}

-- from a place and a floor on, with the sum of the sizes before
abbrev pub onward : Heap → List ℕ → Place → Addr → Walk
onward h m from low = record { stops = never; h = h; m = m; from = from; low = low }

module _ (h : Heap) (m : List ℕ) (from : Place) (low : Addr) (before : ℕ) where
  pub record Summing (at : Place) (floor : Addr) (total : ℕ) : Type 0 where
    pub front : List Hole
    pub gone : Gone (onward h m from low) at floor front
    pub summed : total ≡ before + Holes.total front

  pub sums : Fair h → low.0 ≤ h.top.0 + min_size → Summing from low before
  unfolding Holes.total
  sums f l = record { front = []; gone = begins (onward h m from low) f l; summed = omega arith }

module _ {h : Heap} {m : List ℕ} {from : Place} {low : Addr} {before : ℕ} {at : Place} {floor : Addr} {total : ℕ} where
  module _ (s : Summing h m from low before at floor total) {st : Stepped} (is : st ≡ step_of h m at floor) where
    pub sums_on : {k : Hole} {q : Place} → st ≡ found_at k q → Summing h m from low before q (behind k) (total + k.size)
    sums_on {k} e =
        record {
          front = s.front ++ (k ∷ []);
          gone = goes_on s.gone is e refl;
          summed = omega (arith, s.summed, total_more s.front k);
        }

    module _ (n : ℕ) (en : Enough h low n) where
      pub walk_ended : st ≡ Ok None → Ok total ≡ walked_of h low before (holes_from n h.base m from)
      unfolding walked_of walked_by
      walk_ended e = rw (ends_here s.gone is e n en, s.summed)

      pub walk_broken : {r : Refusal} → st ≡ Err r → Err r ≡ walked_of h low before (holes_from n h.base m from)
      unfolding walked_of walked_by
      walk_broken e = rw (breaks_5 s.gone is e, breaks s.gone is e n en)

-- the heads that are left to read behind those passed
pub record Rest (n : ℕ) (base : Addr) (m : List ℕ) (front back : List Hole) : Type 0 where
  pub left : ℕ
  pub is : left + length front ≡ n
  pub list : holes_from left base m (first_of base back) ≡ back

-- what was read is read again from the place of its first hole
again : (n : ℕ) (base : Addr) (m : List ℕ) (p : Place)
    → holes_from n base m (first_of base (holes_from n base m p)) ≡ holes_from n base m p
again zero base m p = unfold holes_from in refl
again (suc n) base m p = rw (first_from n base m p)

-- an empty list has no first hole
no_first {ℓ} : {X : Type ℓ} {k : Hole} {ks : List Hole} → [] ≡ k ∷ ks → X
no_first e = cc

pub rest : (n : ℕ) (base : Addr) (m : List ℕ) (p : Place) (front back : List Hole)
    → holes_from n base m p ≡ front ++ back → Rest n base m front back
rest n base m p [] back e = record { left = n; is = omega arith; list = rw (← e) (again n base m p) }
rest zero base m p (k ∷ front) back e = unfold holes_from in no_first e
rest (suc n) base m p (k ∷ front) back e =
    by_eq p.0 none.0
    (λ z. let z : p ≡ none = rw z in no_first (sym (rw z (from_none (suc n) base m)) ∙ e))
    (λ z.
    let s = sym (from_step n base m p z) ∙ e in
    let r = rest n base m (head_at m p).next front back (cc) in
    record { left = r.left; is = omega arith; list = r.list })

-- ---- the sum of the sizes

-- it is size − used, as the code tests it: nothing is added that could wrap
pub sum_left : (total used size : ℕ) → used ≤ size → eqb total (size - used) ≡ eqb (total + used) size
sum_left total used size l =
    both_ways _ _
    (λ e. eq-eqb (total + used) size (omega (arith, eqb-true total (size - used) e)))
    (λ e. eq-eqb total (size - used) (omega (arith, eqb-true (total + used) size e)))

pub sum_over : (total used size : ℕ) → size < used → eqb (total + used) size ≡ false
sum_over total used size l = ne_eqb (total + used) size (λ e. omega (arith, e))

-- a walk to the end is refused with 5 alone
walked_by_5 : (sum : ℕ) (s : Stop) {r : Refusal} → walked_by sum s ≡ Err r → r ≡ NotSound
unfolding walked_by
walked_by_5 sum (stopped front k back) e = cc
walked_by_5 sum (ended ks) e = cc
walked_by_5 sum broken e = cc

pub walked_5 : (h : Heap) (floor : Addr) (sum : ℕ) (ks : List Hole) {r : Refusal} → walked_of h floor sum ks ≡ Err r → r ≡ NotSound
unfolding walked_of
walked_5 h floor sum ks e = walked_by_5 sum (walked never h floor ks) e

-- what a test of a rule says, read back
pub or_5_broken : {b : Bool} {r : Refusal} → or_5 b ≡ Err r → (b ≡ false) × (r ≡ NotSound)
unfolding or_5
or_5_broken {b = true} e = cc
or_5_broken {b = false} e = (refl, cc)

pub or_5_kept : {b : Bool} → or_5 b ≡ Ok tt → b ≡ true
unfolding or_5
or_5_kept {b = true} e = refl
or_5_kept {b = false} e = cc

-- ---- the walk and the sum

-- a heap's own holes keep the rules if the walk from its first floor does and the sum is right
pub by_walk : (h : Heap) (m : List ℕ) → Fair h
    → sound_holes h (holes h m) ≡ (walks h (start_of h) (holes h m) && eqb (Holes.total (holes h m) + h.used) (size h))
by_walk h m fair = rw (start h m fair).floor (sound_walks h fair (holes h m))

-- so the sum decides once a walk came to the end
module _ (stops : Hole → Bool) (h : Heap) (m : List ℕ) (fair : Fair h) where
  pub by_end : {front : List Hole} → walked stops h (start_of h) (holes h m) ≡ ended front
      → (holes h m ≡ front) × (sound_holes h (holes h m) ≡ eqb (Holes.total front + h.used) (size h))
  by_end e =
      let s = said_end stops h (start_of h) (holes h m) e in
      (s.0, by_walk h m fair ∙ rw (s.1, s.0))

  pub by_break : walked stops h (start_of h) (holes h m) ≡ broken → sound_holes h (holes h m) ≡ false
  by_break e = by_walk h m fair ∙ rw (said_bad stops h (start_of h) (holes h m) e)

-- what a walk to the end finds adds up if every rule is kept and the sum is right
module _ (h : Heap) (floor : Addr) (sum : ℕ) (ks : List Hole) where
  adds : (s : Stop) → Says never h floor ks s
      → adds_up h (walked_by sum s) ≡ (walks h floor ks && eqb (sum + Holes.total ks + h.used) (size h))
  unfolding adds_up walked_by walks
  adds (stopped front k back) s = apart s.2 refl
  adds (ended front) s =
      let list : ks ≡ front = s.0.list ∙ append-nil front in
      rw (s.0.onward, s.1, list)
  adds broken s = rw s

  adds_walked : adds_up h (walked_of h floor sum ks) ≡ (walks h floor ks && eqb (sum + Holes.total ks + h.used) (size h))
  unfolding walked_of
  adds_walked = adds (walked never h floor ks) (said never h floor ks)

-- of a heap's holes that are walked through like what is left behind a floor, with the sum of what was passed
pub holes_onward : (h : Heap) (m : List ℕ) → Fair h → (floor : Addr) (total : ℕ) (back : List Hole)
    → walks h (start_of h) (holes h m) ≡ walks h floor back → Holes.total (holes h m) ≡ total + Holes.total back
    → sound_holes h (holes h m) ≡ adds_up h (walked_of h floor total back)
holes_onward h m f floor total back onward sum = by_walk h m f ∙ rw (onward, sum) (sym (adds_walked h floor total back))

-- all of them, from the first on
pub holes_sound : (h : Heap) (m : List ℕ) → Fair h
    → sound_holes h (holes h m) ≡ adds_up h (walked_of h (start_of h) 0 (holes h m))
holes_sound h m f = holes_onward h m f (start_of h) 0 (holes h m) refl (omega arith)

-- a walk from the first place and the first floor decides them
pub sound_from : (h : Heap) (m : List ℕ) → Fair h → {low : Addr} {w : Result ⊤ Refusal}
    → ((n : ℕ) → Enough h low n → w ≡ or_5 (adds_up h (walked_of h low 0 (holes_from n h.base m h.first))))
    → low.0 ≡ (start_of h).0 → w ≡ or_5 (sound_holes h (holes h m))
sound_from h m f {low} is e =
    let t = start h m f in
    let floor : low ≡ start_of h = rw e in
    rw (holes_sound h m f, t.list, ← floor) (is (suc (most h)) (rw floor t.enough))

-- ---- a walk that goes on

-- behind the holes that another has passed
pub record Reached (h : Heap) (m : List ℕ) (at : Place) (floor : Addr) (total : ℕ) (front back : List Hole) : Type 0 where
  pub fair : Fair h
  pub list : holes h m ≡ front ++ back
  pub next : at ≡ first_of h.base back
  pub behind : floor ≡ last_floor (start_of h) front
  pub summed : total ≡ Holes.total front
  pub spaced : Spaced (start_of h) front
  pub high : floor.0 ≤ h.top.0 + min_size
  pub onward : walks h (start_of h) (holes h m) ≡ walks h floor back

module _ {h : Heap} {m : List ℕ} {at : Place} {floor : Addr} {total : ℕ} {front back : List Hole} (r : Reached h m at floor total front back) where
  -- what it asks
  pub onward_asks : (h.bottom.0 + total ≤ floor.0) × (floor.0 ≤ h.top.0 + min_size)
  onward_asks =
      let f = ap (λ (a : Addr). a.0) r.behind in
      (omega (arith, (start h m r.fair).bottom, r.summed, r.spaced.summed), r.high)

  -- it decides the rules on all holes
  pub onward_decides : {w : Result ⊤ Refusal}
      → ((n : ℕ) → Enough h floor n → w ≡ or_5 (adds_up h (walked_of h floor total (holes_from n h.base m at))))
      → w ≡ or_5 (sound_holes h (holes h m))
  onward_decides is =
      let s = start h m r.fair in
      let f = ap (λ (a : Addr). a.0) r.behind in
      let l = rest (suc (most h)) h.base m h.first front back (sym s.list ∙ r.list) in
      let w = is l.left (omega (arith, l.is, s.enough, r.spaced.counted)) in
      let b = ap (holes_from l.left h.base m) r.next ∙ l.list in
      let t : Holes.total (holes h m) ≡ total + Holes.total back = omega (arith, ap Holes.total r.list, total_append front back, r.summed) in
      w ∙ rw (b, holes_onward h m r.fair floor total back r.onward t)
