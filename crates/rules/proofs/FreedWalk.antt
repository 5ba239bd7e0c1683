-- The walk after a free: a span that is clear of the holes goes among them, and the walk still goes through. Assumes nothing.
use mathlib.Core.Path.{◌≡◌, refl, ◌∙◌}
use mathlib.Core.Bool.{true, cond}
use mathlib.Core.List.{List, [], ◌∷◌}
use mathlib.Core.Logic.{⊎_elim}
use Prim.Native.Nat.{◌+◌, ◌%◌, ◌≤◌}
use native.Mathlib.Omega.{arith}
use borrow.Author.Tests.{ltb-true, ltb-false, eqb-true, eqb-false}
use Rattle.rules.specs.declared.Addr.{Addr}
use Rattle.rules.specs.declared.Hole.{Hole}
use Rattle.rules.specs.declared.Heap.{Heap}
use Rattle.rules.specs.Fixed.{min_size, grain}
use Rattle.rules.specs.Kinds.{before}
use Rattle.rules.specs.Holes.{end}
use Rattle.rules.specs.Free.{touch, joined, in_front, freed}
use Rattle.rules.specs.Inner.{Fair, behind, ends}
use Rattle.std.proofs.lemmas.Bool.{cond_both}
use Rattle.rules.proofs.Cases.{cases}
use Rattle.rules.proofs.Gaps.{gap_apart, eights_gap}
use Rattle.rules.proofs.Walk.{Keeps, walks, floor_of, walks_head, walks_tail, walks_cons, ends_low, ends_top, gap_floor}
use Rattle.rules.proofs.Floors.{walks_floor}
use Rattle.rules.proofs.Clear.{Clear, Follows, clear_follows, clear_followed, clear_rest, ClearBehind}

-- ---- a span among the holes

-- what the walk will ask of it as a hole
pub record Span (h : Heap) (g : Hole) : Type 0 where
  pub at8 : g.addr.0 % grain ≡ 0
  pub size8 : g.size % grain ≡ 0
  pub sixteen : min_size ≤ g.size
  pub to : (end g).0 ≤ h.top.0
  pub high : (end g).0 + grain ≡ h.top.0 → ⊥

pub span_ends : (h : Heap) (g : Hole) → h.top.0 % grain ≡ 0 → Span h g → ends h (behind g) ≡ true
span_ends h g t s =
    ⊎_elim (λ e. ends_top h (behind g) (omega arith)) (ends_low h (behind g))
    (eights_gap (end g).0 h.top.0 (omega (arith, s.at8, s.size8)) t s.to s.high)

-- the hole before it, where it touches it, takes it in
span_joined : (h : Heap) (floor : Addr) (g k : Hole) → Span h g → Keeps h floor k → (end k).0 ≡ g.addr.0 → Span h (joined k g)
span_joined h floor g k s q e =
    record {
      at8 = q.addr8;
      size8 = omega arith;
      sixteen = omega arith;
      to = omega arith;
      high = λ z. s.high (omega arith);
    }

-- ---- the walk after a free

module _ (h : Heap) (top8 : h.top.0 % grain ≡ 0) where
  -- holes behind the span
  in_front_walks : (lo floor : Addr) (g : Hole) (ks : List Hole) → Span h g → floor.0 ≤ g.addr.0 → walks h lo ks ≡ true
      → ClearBehind g ks → walks h floor (in_front g ks) ≡ true
  unfolding in_front
  in_front_walks lo floor g [] s l w c = walks_cons h floor g [] (omega arith) (unfold walks in span_ends h g top8 s)
  in_front_walks lo floor g (k ∷ ks) s l w c =
      let q = walks_head h lo k ks w in
      cond_both (touch g k) (joined g k ∷ ks) (g ∷ k ∷ ks) (λ (js : List Hole). walks h floor js ≡ true)
      (λ e.
      let t = eqb-true (end g).0 k.addr.0 e in
      let same_end : g.addr.0 + (g.size + k.size) + min_size ≡ k.addr.0 + k.size + min_size = omega arith in
      walks_cons h floor (joined g k) ks (omega arith) (rw same_end (walks_tail h lo k ks w)))
      (λ e.
      let d = eights_gap (end g).0 k.addr.0 (omega arith) q.addr8 c.0 c.1 in
      walks_cons h floor g (k ∷ ks) (omega arith)
      (walks_floor h lo (behind g) k ks (gap_apart (end g).0 k.addr.0 d (eqb-false (end g).0 k.addr.0 e)) w))

  -- behind a hole that takes the span in
  clear_joined : (g k : Hole) (ks : List Hole) → (end k).0 ≡ g.addr.0 → walks h (behind k) ks ≡ true → Clear g ks
      → ClearBehind (joined k g) ks
  clear_joined g k [] e w c = tt
  clear_joined g k (j ∷ js) e w c =
      let q = walks_head h (behind k) j js w in
      let f = clear_follows g j js c q.least (omega arith) in
      (omega arith, λ z. f.1 (omega arith))

  freed_walks : (floor : Addr) (g : Hole) (ks : List Hole) → Span h g → floor.0 ≤ g.addr.0 → walks h floor ks ≡ true
      → Clear g ks → walks h floor (freed g ks) ≡ true
  unfolding freed
  freed_walks floor g [] s l w c = unfold in_front in in_front_walks floor floor g [] s l w tt
  freed_walks floor g (k ∷ ks) s l w c =
      let rest = walks_tail h floor k ks w in
      let q = walks_head h floor k ks w in
      let P : List Hole → Type 0 = λ js. walks h floor js ≡ true in
      cond_both (before g.addr k.addr) (in_front g (k ∷ ks)) _ P
      (λ e. in_front_walks floor floor g (k ∷ ks) s l w (clear_follows g k ks c q.least (ltb-true g.addr.0 k.addr.0 e)))
      (λ e.
      let f = clear_followed g k ks c s.sixteen (ltb-false g.addr.0 k.addr.0 e) in
      cond_both (touch k g) (in_front (joined k g) ks) (k ∷ freed g ks) P
      (λ t.
      let z = eqb-true (end k).0 g.addr.0 t in
      in_front_walks (behind k) floor (joined k g) ks (span_joined h floor g k s q z) q.above rest
      (clear_joined g k ks z rest (clear_rest g k ks c)))
      (λ t.
      let d = eights_gap (end k).0 g.addr.0 (omega arith) s.at8 f.0 f.1 in
      walks_cons h floor k (freed g ks) q
      (freed_walks (behind k) g ks s (gap_apart (end k).0 g.addr.0 d (eqb-false (end k).0 g.addr.0 t)) rest
      (clear_rest g k ks c))))

-- ---- the first floor after a free

in_front_floor : (h : Heap) (g : Hole) (ks : List Hole) → floor_of h (in_front g ks) ≡ floor_of h (g ∷ [])
unfolding in_front floor_of
in_front_floor h g [] = refl
in_front_floor h g (k ∷ ks) = cases (touch g k) (λ e. rw e) (λ e. rw e)

-- it is that of the span or of the first hole, whichever lies lower
freed_floor : (h : Heap) (g k : Hole) (ks : List Hole)
    → floor_of h (freed g (k ∷ ks)) ≡ floor_of h (cond (before g.addr k.addr) g k ∷ [])
unfolding freed
freed_floor h g k ks =
    cases (before g.addr k.addr)
    (λ e. rw e (in_front_floor h g (k ∷ ks)))
    (λ e.
    rw e
    (cases (touch k g)
    (λ t. rw t (in_front_floor h (joined k g) ks ∙ (unfold floor_of in refl)))
    (λ t. rw t (unfold floor_of in refl))))

pub floor_walks : (h : Heap) (g : Hole) (ks : List Hole) → Fair h → Span h g → Follows g.addr.0 h.bottom.0
    → walks h (floor_of h ks) ks ≡ true → Clear g ks
    → walks h (floor_of h (freed g ks)) (freed g ks) ≡ true
floor_walks h g [] f s b w c =
    let l = gap_floor h g [] (eights_gap h.bottom.0 g.addr.0 f.bottom8 s.at8 b.0 b.1) in
    let one : floor_of h (freed g []) ≡ floor_of h (g ∷ []) = unfold freed in refl in
    rw one
    (freed_walks h f.top8 (floor_of h (g ∷ [])) g [] s l
    (unfold walks in ends_low h (floor_of h (g ∷ [])) (omega arith)) c)
floor_walks h g (k ∷ ks) f s b w c =
    let q = walks_head h (floor_of h (k ∷ ks)) k ks w in
    let low = q.above in
    cases (before g.addr k.addr)
    (λ e.
    let d = ltb-true g.addr.0 k.addr.0 e in
    let l = gap_floor h g [] (eights_gap h.bottom.0 g.addr.0 f.bottom8 s.at8 b.0 b.1) in
    rw (freed_floor h g k ks, e)
    (freed_walks h f.top8 (floor_of h (g ∷ [])) g (k ∷ ks) s l
    (walks_floor h (floor_of h (k ∷ ks)) (floor_of h (g ∷ [])) k ks (omega arith) w) c))
    (λ e.
    let d = ltb-false g.addr.0 k.addr.0 e in
    let own : floor_of h (k ∷ ks) ≡ floor_of h (k ∷ []) = unfold floor_of in refl in
    rw (freed_floor h g k ks, e, ← own)
    (freed_walks h f.top8 (floor_of h (k ∷ ks)) g (k ∷ ks) s (omega arith) w c))
