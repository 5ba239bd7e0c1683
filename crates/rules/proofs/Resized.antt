-- A block that is resized, among the holes: the walk after it, what adds up, and where its stretch ends. Assumes nothing.
use mathlib.Core.Path.{◌≡◌, refl, ◌∙◌}
use mathlib.Core.Bool.{true}
use mathlib.Core.List.{List, [], ◌∷◌, ◌++◌, append-nil}
use Prim.Native.Nat.{ℕ, ◌+◌, ◌%◌, ◌≤◌, ◌<◌}
use native.Mathlib.Omega.{arith}
use borrow.Author.Tests.{ltb-true, ltb-false, lt-ltb, le-ltb, eqb-true, eqb-false, eq-eqb, ne_eqb}
use Rattle.rules.specs.declared.Addr.{Addr}
use Rattle.rules.specs.declared.Hole.{Hole}
use Rattle.rules.specs.declared.Heap.{Heap}
use Rattle.rules.specs.Fixed.{min_size, grain}
use Rattle.rules.specs.Kinds.{plus, bytes_to, before}
use Rattle.rules.specs.Holes.{hole, end}
use Rattle.rules.specs.Allocate.{remains}
use Rattle.rules.specs.Free.{touch, joined}
use Rattle.rules.specs.Resize.{stretch_end, rest_in_front, resized}
use Rattle.rules.specs.InWords.{Gap}
use Rattle.rules.specs.Inner.{Fair, Rises, behind}
use Rattle.std.proofs.lemmas.Bool.{cond_both}
use Rattle.rules.proofs.Cases.{cases}
use Rattle.rules.proofs.Gaps.{gap_apart, eights_gap}
use Rattle.rules.proofs.Walk.{walks, floor_of, walks_head, walks_tail, walks_cons, ends_low}
use Rattle.rules.proofs.Rises.{rises_le, walks_rises}
use Rattle.rules.proofs.Freed.{Beyond}
use Rattle.rules.proofs.Floors.{walks_floor, walks_first}
use Rattle.rules.proofs.Totals.{added, added_append, Adds, remains_added}
use Rattle.rules.proofs.Clear.{Clear, Follows, ClearBehind, clear_follows, clear_followed, clear_rest}
use Rattle.rules.proofs.FreedWalk.{Span, span_ends}
use Rattle.rules.proofs.AllocateKept.{remains_walks}

-- ---- where the stretch ends

-- at the block's own end, where every hole lies beyond it
stretch_far : (g : Hole) (lo hi : ℕ) (ks : List Hole) → Rises lo hi ks → (end g).0 < lo → stretch_end g ks ≡ end g
unfolding stretch_end
stretch_far g lo hi [] r l = refl
stretch_far g lo hi (k ∷ ks) r l =
    rw (ne_eqb (end g).0 k.addr.0 (λ e. omega (arith, e))) (stretch_far g (end k).0 hi ks r.2 (omega arith))

-- at that of the first hole behind it, where that touches it, and else at its own
pub stretch_touch : (g k : Hole) (ks : List Hole) → (end g).0 ≡ k.addr.0 → stretch_end g (k ∷ ks) ≡ end k
unfolding stretch_end
stretch_touch g k ks e = rw (eq-eqb (end g).0 k.addr.0 e)

pub stretch_apart : (g : Hole) (lo hi : ℕ) (k : Hole) (ks : List Hole) → Rises lo hi (k ∷ ks) → (end g).0 ≤ k.addr.0
    → ((end g).0 ≡ k.addr.0 → ⊥) → stretch_end g (k ∷ ks) ≡ end g
stretch_apart g lo hi k ks r l n = stretch_far g k.addr.0 hi (k ∷ ks) (omega arith, r.1, r.2) (omega (arith, n))

-- a hole before the block does not touch its end
stretch_later : (g k : Hole) (ks : List Hole) → k.addr.0 ≤ g.addr.0 → min_size ≤ g.size → stretch_end g (k ∷ ks) ≡ stretch_end g ks
unfolding stretch_end
stretch_later g k ks l least = rw (ne_eqb (end g).0 k.addr.0 (λ e. omega (arith, e)))

-- ---- among holes

-- with no hole before it
pub resized_first : (g : Hole) (s : ℕ) (back : List Hole) → Beyond g back → resized g s back ≡ rest_in_front g s back
unfolding resized
resized_first g s [] b = refl
resized_first g s (k ∷ ks) b = rw (lt-ltb g.addr.0 k.addr.0 b)

-- behind holes that end where it starts or before
pub resized_behind : (lo mid : ℕ) (g : Hole) (s : ℕ) (front back : List Hole) → Rises lo mid front → mid ≤ g.addr.0
    → resized g s (front ++ back) ≡ front ++ resized g s back
unfolding resized
resized_behind lo mid g s [] back r l = refl
resized_behind lo mid g s (k ∷ front) back r l =
    let u = rises_le (end k).0 mid front r.2 in
    rw (le-ltb g.addr.0 k.addr.0 (omega arith), resized_behind (end k).0 mid g s front back r.2 l)

pub stretch_behind : (lo mid : ℕ) (g : Hole) (front back : List Hole) → min_size ≤ g.size → Rises lo mid front → mid ≤ g.addr.0
    → stretch_end g (front ++ back) ≡ stretch_end g back
stretch_behind lo mid g [] back least r l = refl
stretch_behind lo mid g (k ∷ front) back least r l =
    let u = rises_le (end k).0 mid front r.2 in
    stretch_later g k (front ++ back) (omega arith) least ∙ stretch_behind (end k).0 mid g front back least r.2 l

-- ---- the walk after a resize

module _ (h : Heap) (top8 : h.top.0 % grain ≡ 0) (g : Hole) (span : Span h g) (s : ℕ) (s8 : s % grain ≡ 0) (s16 : min_size ≤ s) where
  rest_walks : (lo floor : Addr) (ks : List Hole) → floor.0 ≤ g.addr.0 + s → walks h lo ks ≡ true → ClearBehind g ks
      → Gap (g.addr.0 + s) (stretch_end g ks).0 → walks h floor (rest_in_front g s ks) ≡ true
  unfolding rest_in_front
  rest_walks lo floor [] l w c d =
      let rest = remains (plus g.addr s) (end g) in
      rw (append-nil rest) at
      (remains_walks h floor (plus g.addr s) (end g) [] l (omega (arith, span.at8)) (omega (arith, span.at8, span.size8))
      (unfold stretch_end in d) span.to (unfold walks in span_ends h g top8 span))
  rest_walks lo floor (k ∷ ks) l w c d =
      let q = walks_head h lo k ks w in
      cond_both (touch g k) (remains (plus g.addr s) (end k) ++ ks) (remains (plus g.addr s) (end g) ++ (k ∷ ks))
      (λ (js : List Hole). walks h floor js ≡ true)
      (λ e.
      let t = eqb-true (end g).0 k.addr.0 e in
      remains_walks h floor (plus g.addr s) (end k) ks l (omega (arith, span.at8)) (omega (arith, q.addr8, q.size8))
      (rw (stretch_touch g k ks t) at d)
      q.inside
      (walks_tail h lo k ks w))
      (λ e.
      let n = eqb-false (end g).0 k.addr.0 e in
      let apart = gap_apart (end g).0 k.addr.0 (eights_gap (end g).0 k.addr.0 (omega (arith, span.at8, span.size8)) q.addr8 c.0 c.1) n in
      remains_walks h floor (plus g.addr s) (end g) (k ∷ ks) l (omega (arith, span.at8)) (omega (arith, span.at8, span.size8))
      (rw (stretch_apart g _ _ k ks (walks_rises h lo k ks w) c.0 n) at d)
      span.to
      (walks_floor h lo (plus (end g) min_size) k ks apart w))

  resized_walks : (floor : Addr) (ks : List Hole) → floor.0 ≤ g.addr.0 + min_size → walks h floor ks ≡ true → Clear g ks
      → Gap (g.addr.0 + s) (stretch_end g ks).0 → walks h floor (resized g s ks) ≡ true
  unfolding resized
  resized_walks floor [] l w c d = rest_walks floor floor [] (omega arith) w tt d
  resized_walks floor (k ∷ ks) l w c d =
      let q = walks_head h floor k ks w in
      cond_both (before g.addr k.addr) (rest_in_front g s (k ∷ ks)) (k ∷ resized g s ks) (λ (js : List Hole). walks h floor js ≡ true)
      (λ e.
      rest_walks floor floor (k ∷ ks) (omega arith) w (clear_follows g k ks c q.least (ltb-true g.addr.0 k.addr.0 e)) d)
      (λ e.
      let low = ltb-false g.addr.0 k.addr.0 e in
      let f = clear_followed g k ks c span.sixteen low in
      walks_cons h floor k (resized g s ks) q
      (resized_walks (behind k) ks (omega (arith, f.0)) (walks_tail h floor k ks w) (clear_rest g k ks c)
      (rw (stretch_later g k ks low span.sixteen) at d)))

-- ---- the first floor after a resize

pub floor_resized : (h : Heap) (g : Hole) (s : ℕ) (ks : List Hole) → Fair h → Span h g → s % grain ≡ 0 → min_size ≤ s
    → Follows g.addr.0 h.bottom.0 → walks h (floor_of h ks) ks ≡ true → Clear g ks → Gap (g.addr.0 + s) (stretch_end g ks).0
    → walks h (floor_of h (resized g s ks)) (resized g s ks) ≡ true
floor_resized h g s [] f span s8 s16 b w c d =
    walks_first h (resized g s []) f
    (resized_walks h f.top8 g span s s8 s16 (plus h.bottom min_size) [] (omega (arith, b.0))
    (unfold walks in ends_low h (plus h.bottom min_size) (omega arith)) c d)
floor_resized h g s (k ∷ ks) f span s8 s16 b w c d =
    let q = walks_head h (floor_of h (k ∷ ks)) k ks w in
    cases (before g.addr k.addr)
    (λ e.
    let low = ltb-true g.addr.0 k.addr.0 e in
    let far = clear_follows g k ks c q.least low in
    walks_first h (resized g s (k ∷ ks)) f
    (resized_walks h f.top8 g span s s8 s16 (plus h.bottom min_size) (k ∷ ks) (omega (arith, b.0))
    (walks_floor h (floor_of h (k ∷ ks)) (plus h.bottom min_size) k ks (omega (arith, b.0, far.0, span.sixteen)) w) c d))
    (λ e.
    let own : floor_of h (resized g s (k ∷ ks)) ≡ floor_of h (k ∷ ks) = unfold resized floor_of in rw e in
    rw own
    (resized_walks h f.top8 g span s s8 s16 (floor_of h (k ∷ ks)) (k ∷ ks)
    (omega (arith, q.above, ltb-false g.addr.0 k.addr.0 e)) w c d))

-- ---- what adds up

module _ {f : Hole → ℕ} (adds : Adds f) (h : Heap) (g : Hole) (s : ℕ) where
  -- the new block and the rest of the stretch are the stretch
  cut_added : (hi : Addr) → g.addr.0 + s ≤ hi.0
      → added f (remains (plus g.addr s) hi) + f (hole g.addr s) ≡ f (hole g.addr (bytes_to g.addr hi))
  cut_added hi l =
      let rest = hole (plus g.addr s) (bytes_to (plus g.addr s) hi) in
      let size : s + bytes_to (plus g.addr s) hi ≡ bytes_to g.addr hi = omega arith in
      let whole : f (joined (hole g.addr s) rest) ≡ f (hole g.addr (bytes_to g.addr hi)) = rw size in
      omega (arith, remains_added adds (plus g.addr s) hi, adds.joins (hole g.addr s) rest refl)

  rest_added : (lo : Addr) (ks : List Hole) → walks h lo ks ≡ true → ClearBehind g ks → g.addr.0 + s ≤ (stretch_end g ks).0
      → added f (rest_in_front g s ks) + f (hole g.addr s) ≡ added f ks + f g
  unfolding rest_in_front added
  rest_added lo [] w c l =
      let own : bytes_to g.addr (end g) ≡ g.size = omega arith in
      omega (arith, rw own at (cut_added (end g) (unfold stretch_end in l)))
  rest_added lo (k ∷ ks) w c l =
      cond_both (touch g k) (remains (plus g.addr s) (end k) ++ ks) (remains (plus g.addr s) (end g) ++ (k ∷ ks))
      (λ (js : List Hole). added f js + f (hole g.addr s) ≡ (f k + added f ks) + f g)
      (λ e.
      let t = eqb-true (end g).0 k.addr.0 e in
      let both : bytes_to g.addr (end k) ≡ g.size + k.size = omega arith in
      omega (
        arith,
        added_append f (remains (plus g.addr s) (end k)) ks,
        rw both at (cut_added (end k) (rw (stretch_touch g k ks t) at l)),
        adds.joins g k t,
      ))
      (λ e.
      let own : bytes_to g.addr (end g) ≡ g.size = omega arith in
      let apart = stretch_apart g _ _ k ks (walks_rises h lo k ks w) c.0 (eqb-false (end g).0 k.addr.0 e) in
      omega (
        arith,
        added_append f (remains (plus g.addr s) (end g)) (k ∷ ks),
        rw own at (cut_added (end g) (rw apart at l)),
      ))

  pub resized_added : (lo : Addr) (ks : List Hole) → min_size ≤ g.size → walks h lo ks ≡ true → Clear g ks
      → g.addr.0 + s ≤ (stretch_end g ks).0
      → added f (resized g s ks) + f (hole g.addr s) ≡ added f ks + f g
  unfolding resized added
  resized_added lo [] least w c l = rest_added lo [] w tt l
  resized_added lo (k ∷ ks) least w c l =
      let q = walks_head h lo k ks w in
      cond_both (before g.addr k.addr) (rest_in_front g s (k ∷ ks)) (k ∷ resized g s ks)
      (λ (js : List Hole). added f js + f (hole g.addr s) ≡ (f k + added f ks) + f g)
      (λ e. rest_added lo (k ∷ ks) w (clear_follows g k ks c q.least (ltb-true g.addr.0 k.addr.0 e)) l)
      (λ e.
      let later = stretch_later g k ks (ltb-false g.addr.0 k.addr.0 e) least in
      omega (arith, resized_added (behind k) ks least (walks_tail h lo k ks w) (clear_rest g k ks c) (rw later at l)))
