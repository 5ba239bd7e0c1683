-- A heap stays sound where a hole is used: what is left of it keeps the rules on holes. Assumes nothing.
use mathlib.Core.Path.{◌≡◌, refl, ap, ◌∙◌}
use mathlib.Core.Bool.{true}
use mathlib.Core.List.{List, [], ◌∷◌, ◌++◌, append_assoc}
use mathlib.Core.Logic.{inl, inr}
use Prim.Native.Nat.{ℕ, ◌+◌, ◌-◌, ◌%◌, ◌≤◌}
use native.Mathlib.Omega.{arith}
use borrow.Author.Tests.{eqb-true, eq-eqb, ne_eqb}
use Rattle.rules.specs.declared.Addr.{Addr}
use Rattle.rules.specs.declared.Hole.{Hole}
use Rattle.rules.specs.declared.Heap.{Heap}
use Rattle.rules.specs.Fixed.{min_size, grain}
use Rattle.rules.specs.Round.{Power}
use Rattle.rules.specs.Kinds.{addr, plus, bytes_to, same}
use Rattle.rules.specs.Holes.{hole, end}
use Rattle.rules.specs.Sound.{sound_holes}
use Rattle.rules.specs.Allocate.{candidate, suits, found, find, remains, split}
use Rattle.rules.specs.Calls.{renewed}
use Rattle.rules.specs.InWords.{Gap}
use Rattle.rules.specs.Inner.{Fair, behind}
use Rattle.rules.proofs.Cases.{cases, by_eq}
use Rattle.rules.proofs.Powers.{power_pos}
use Rattle.rules.proofs.Walk.{walks, floor_of, walks_head, walks_tail, walks_cons, sound_walk, sound_sum, walk_sound}
use Rattle.rules.proofs.Floors.{walks_lower, walks_first, raised_walk}
use Rattle.rules.proofs.Totals.{used_total}
use Rattle.rules.proofs.Used.{find_splits, candidate_low, suits_fits}
use Rattle.rules.proofs.Suits.{candidate_eight, suits_lies}

-- ---- what is left of a hole

pub remains_walks : (h : Heap) (floor lo hi : Addr) (back : List Hole) → floor.0 ≤ lo.0 → lo.0 % grain ≡ 0 → hi.0 % grain ≡ 0
    → Gap lo.0 hi.0 → hi.0 ≤ h.top.0 → walks h (plus hi min_size) back ≡ true
    → walks h floor (remains lo hi ++ back) ≡ true
unfolding remains
remains_walks h floor lo hi back l e8 f8 (inl e) t w =
    rw (eq-eqb lo.0 hi.0 e) (walks_lower h (plus hi min_size) floor back (omega arith) (omega arith) w)
remains_walks h floor lo hi back l e8 f8 (inr g) t w =
    let e : lo.0 + (hi.0 - lo.0) ≡ hi.0 = omega arith in
    rw (ne_eqb lo.0 hi.0 (λ q. omega (arith, q)))
    (walks_cons h floor (hole lo (bytes_to lo hi)) back (omega arith) (rw e w))

module _ (h : Heap) (r align : ℕ) (k : Hole) (p : Power align) (r8 : r % grain ≡ 0) (r16 : min_size ≤ r)
    (suit : suits r align k ≡ true) where
  -- behind the block
  back_walks : (floor : Addr) (back : List Hole) → walks h floor (k ∷ back) ≡ true
      → walks h (plus (candidate align k.addr) min_size) (remains (plus (candidate align k.addr) r) (end k) ++ back) ≡ true
  back_walks floor back w =
      let c = candidate align k.addr in
      let q = walks_head h floor k back w in
      let c8 = candidate_eight align k.addr p q.addr8 in
      remains_walks h (plus c min_size) (plus c r) (end k) back (omega arith) (omega arith) (omega arith)
      (suits_lies r align k p suit).back
      q.inside
      (walks_tail h floor k back w)

  -- and in front of it
  split_walks : (floor : Addr) (back : List Hole) → walks h floor (k ∷ back) ≡ true
      → walks h floor (split r align k ++ back) ≡ true
  unfolding split
  split_walks floor back w =
      let c = candidate align k.addr in
      let q = walks_head h floor k back w in
      let lies = suits_lies r align k p suit in
      rw (append_assoc (remains k.addr c) (remains (plus c r) (end k)) back)
      (remains_walks h floor k.addr c (remains (plus c r) (end k) ++ back) q.above q.addr8
      (candidate_eight align k.addr p q.addr8)
      lies.front
      (omega (arith, lies.to))
      (back_walks floor back w))

  used_walks : (floor : Addr) (front back : List Hole) → walks h floor (front ++ (k ∷ back)) ≡ true
      → walks h floor (front ++ (split r align k ++ back)) ≡ true
  used_walks floor [] back w = split_walks floor back w
  used_walks floor (j ∷ front) back w =
      walks_cons h floor j (front ++ (split r align k ++ back)) (walks_head h floor j (front ++ (k ∷ back)) w)
      (used_walks (behind j) front back (walks_tail h floor j (front ++ (k ∷ back)) w))

  -- the used hole lies at bottom: what is left does so too, or is 16 bytes behind it
  bottom_walks : (back : List Hole) → Fair h → h.bottom.0 ≡ k.addr.0 → walks h h.bottom (k ∷ back) ≡ true
      → walks h (floor_of h (split r align k ++ back)) (split r align k ++ back) ≡ true
  unfolding split remains floor_of
  bottom_walks back f e w =
      let c = candidate align k.addr in
      by_eq k.addr.0 c.0
      (λ q.
      let b : plus h.bottom min_size ≡ plus c min_size = ap (λ (n : ℕ). addr (n + min_size)) (e ∙ q) in
      rw (eq-eqb k.addr.0 c.0 q)
      (walks_first h (remains (plus c r) (end k) ++ back) f (rw b (back_walks h.bottom back w))))
      (λ n.
      let apart = ne_eqb k.addr.0 c.0 n in
      rw (apart, eq-eqb h.bottom.0 k.addr.0 e) (rw apart at (split_walks h.bottom back w)))

  used_floor : (front back : List Hole) → Fair h → walks h (floor_of h (front ++ (k ∷ back))) (front ++ (k ∷ back)) ≡ true
      → walks h (floor_of h (front ++ (split r align k ++ back))) (front ++ (split r align k ++ back)) ≡ true
  unfolding floor_of
  used_floor [] back f w =
      cases (same h.bottom k.addr)
      (λ e. bottom_walks back f (eqb-true h.bottom.0 k.addr.0 e) (rw e at w))
      (λ e. walks_first h (split r align k ++ back) f (split_walks (plus h.bottom min_size) back (rw e at w)))
  used_floor (j ∷ front) back f w =
      used_walks (floor_of h (j ∷ front)) (j ∷ front) back w

-- ---- the rules on the holes

pub allocate_kept : (h : Heap) (r align : ℕ) (ks front back : List Hole) (k : Hole) → Fair h → Power align → r % grain ≡ 0
    → min_size ≤ r → sound_holes h ks ≡ true → find r align ks ≡ found front k back
    → sound_holes (renewed h (front ++ (split r align k ++ back)) h.top h.pending (h.used + r))
    (front ++ (split r align k ++ back)) ≡ true
allocate_kept h r align ks front back k f p r8 r16 sound e =
    let parts = find_splits r align ks front back k e in
    let old = front ++ (k ∷ back) in
    let new = front ++ (split r align k ++ back) in
    let h' = renewed h new h.top h.pending (h.used + r) in
    let f' : Fair h' = omega arith in
    let sound' = rw parts.0 at sound in
    walk_sound h' f' new
    (raised_walk h h' new refl (inl refl) (used_floor h r align k p r8 r16 parts.1 front back f (sound_walk h f old sound')))
    (omega (arith, sound_sum h f old sound', used_total r align k (candidate_low align k.addr (power_pos p)) (suits_fits r align k parts.1) front back))
