-- A heap stays sound where a span becomes free, below top or at a raised top, and where only pending changes. Assumes nothing.
use mathlib.Core.Path.{◌≡◌, refl}
use mathlib.Core.Bool.{true, false}
use mathlib.Core.List.{List, [], ◌∷◌}
use mathlib.Core.Logic.{inl, inr}
use Prim.Native.Nat.{ℕ, ◌+◌, ◌-◌, ◌%◌, ◌≤◌}
use native.Mathlib.Omega.{arith}
use Rattle.rules.specs.declared.Addr.{Addr}
use Rattle.rules.specs.declared.Hole.{Hole}
use Rattle.rules.specs.declared.Heap.{Heap}
use Rattle.rules.specs.Fixed.{min_size, grain}
use Rattle.rules.specs.Tests.{any}
use Rattle.rules.specs.Kinds.{plus}
use Rattle.rules.specs.Holes.{hole, end, total}
use Rattle.rules.specs.Sound.{size, sound_holes}
use Rattle.rules.specs.Free.{freed, overlaps, eight_to_hole}
use Rattle.rules.specs.Calls.{renewed}
use Rattle.rules.specs.Refusals.{refusal8}
use Rattle.rules.specs.InWords.{Gap}
use Rattle.rules.specs.Inner.{Fair, Ruled, behind}
use Rattle.rules.proofs.Walk.{walks, floor_of, walks_head, walks_tail, ends_cases, sound_walk, sound_sum, walk_sound}
use Rattle.rules.proofs.Floors.{raised_walk}
use Rattle.rules.proofs.Rises.{sound_rises}
use Rattle.rules.proofs.Totals.{freed_total}
use Rattle.rules.proofs.Clear.{Clear, Follows, passed, one_before, clear_room}
use Rattle.rules.proofs.FreedWalk.{Span, floor_walks}

-- a heap with the same bottom, and a top that stays or rises by 16 bytes or more
module _ (h h' : Heap) (f : Fair h) (f' : Fair h') (b : h.bottom ≡ h'.bottom) (t : Gap h.top.0 h'.top.0) (ks : List Hole)
    (e : sound_holes h ks ≡ true) where
  walked : walks h' (floor_of h' ks) ks ≡ true
  walked = raised_walk h h' ks b t (sound_walk h f ks e)

  -- with the same holes
  stays_sound : total ks + h'.used ≡ size h' → sound_holes h' ks ≡ true
  stays_sound s = walk_sound h' f' ks walked s

  -- with a span among them
  freed_sound : (g : Hole) → Span h' g → Follows g.addr.0 h'.bottom.0 → Clear g ks
      → total ks + g.size + h'.used ≡ size h' → sound_holes h' (freed g ks) ≡ true
  freed_sound g s l c z =
      walk_sound h' f' (freed g ks) (floor_walks h' g ks f' s l walked c) (omega (arith, freed_total g ks))

-- ---- free

-- the numbers on which the walk goes are the same
pub renewed_ruled : (h : Heap) (ks : List Hole) (used : ℕ) → Ruled h → Ruled (renewed h ks h.top h.pending used)
renewed_ruled h ks used f = omega arith

module _ (h : Heap) (f : Fair h) (ks : List Hole) (g : Hole) (align : ℕ) (pass : any (refusal8 h ks g align) ≡ false) where
  -- so used does not fall below 0
  pub free_room : sound_holes h ks ≡ true → g.size ≤ h.used
  free_room e =
      let p = passed h ks g align pass in
      omega (
        arith,
        clear_room h.bottom.0 h.top.0 g ks (sound_rises h f ks e) p.low.0 p.high.0 p.clear.0,
        sound_sum h f ks e,
      )

  pub free_sound : sound_holes h ks ≡ true → g.size % grain ≡ 0 → min_size ≤ g.size
      → sound_holes (renewed h (freed g ks) h.top h.pending (h.used - g.size)) (freed g ks) ≡ true
  free_sound e s8 s16 =
      let p = passed h ks g align pass in
      let h' = renewed h (freed g ks) h.top h.pending (h.used - g.size) in
      let span : Span h' g =
      record { at8 = p.at8; size8 = s8; sixteen = s16; to = p.high.0; high = p.high.1 } in
      freed_sound h h' f (omega arith) refl (inl refl) ks e g span p.low p.clear
      (omega (arith, free_room e, sound_sum h f ks e))

-- ---- extend

behind_top : (h : Heap) (k : Hole) (ks : List Hole) → walks h (behind k) ks ≡ true → (end k).0 + grain ≡ h.top.0 → ⊥
behind_top h k [] w e = ends_cases h (behind k) (unfold walks in w) (λ l. omega arith) (λ q. omega arith)
behind_top h k (j ∷ js) w e = omega (arith, walks_head h (behind k) j js w)

-- a span at top is clear of all holes
clear_top : (h : Heap) (floor : Addr) (g : Hole) (ks : List Hole) → h.top.0 ≡ g.addr.0 → walks h floor ks ≡ true → Clear g ks
clear_top h floor g [] t w = unfold overlaps eight_to_hole in (refl, refl)
clear_top h floor g (k ∷ ks) t w =
    let q = walks_head h floor k ks w in
    let rest = walks_tail h floor k ks w in
    one_before g k ks (omega arith, λ e. behind_top h k ks rest (omega arith)) (clear_top h (behind k) g ks t rest)

module _ (h : Heap) (r : Ruled h) (ks : List Hole) (e : sound_holes h ks ≡ true) (pending : ℕ) (p : pending ≤ 15) where
  -- only pending changes
  pub gather_ruled : h.top.0 + pending ≤ h.base.0 + h.len → Ruled (renewed h ks h.top pending h.used)
  gather_ruled l = omega arith

  pub gather_sound : h.top.0 + pending ≤ h.base.0 + h.len → sound_holes (renewed h ks h.top pending h.used) ks ≡ true
  gather_sound l =
      stays_sound h (renewed h ks h.top pending h.used) r.fair (gather_ruled l).fair refl (inl refl) ks e
      (sound_sum h r.fair ks e)

  -- s bytes become free at top
  module _ (s : ℕ) (s8 : s % grain ≡ 0) (s16 : min_size ≤ s) (l : h.top.0 + s + pending ≤ h.base.0 + h.len) where
    pub grow_ruled : Ruled (renewed h (freed (hole h.top s) ks) (plus h.top s) pending h.used)
    grow_ruled = omega arith

    pub grow_sound :
        let new = freed (hole h.top s) ks in sound_holes (renewed h new (plus h.top s) pending h.used) new ≡ true
    grow_sound =
        let f = r.fair in
        let g = hole h.top s in
        let h' = renewed h (freed g ks) (plus h.top s) pending h.used in
        let span : Span h' g =
        record { at8 = f.top8; size8 = s8; sixteen = s16; to = omega arith; high = λ z. omega arith } in
        freed_sound h h' f grow_ruled.fair refl (inr (omega arith)) ks e g span (omega arith, λ z. omega (arith, z))
        (clear_top h (floor_of h ks) g ks refl (sound_walk h f ks e))
        (omega (arith, sound_sum h f ks e))
