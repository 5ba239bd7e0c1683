-- What the places and the floor of two neighbours tell of the holes before a span and behind it. Assumes nothing.
use mathlib.Core.Path.{◌≡◌, refl, ap, ◌∙◌}
use mathlib.Core.Bool.{true, false}
use mathlib.Core.List.{List, [], ◌∷◌}
use Prim.Native.Nat.{ℕ, ◌+◌, ◌-◌, ◌^◌, ◌≤◌, ◌<◌}
use native.Mathlib.Omega.{arith}
use Rattle.std.proofs.lemmas.Bool.{ne_eqb}
use Rattle.rules.specs.Fixed.{min_size}
use Rattle.rules.specs.Kinds.{addr, addr_of, none, is_none}
use Rattle.rules.specs.Holes.{end, first_of}
use Rattle.rules.specs.declared.Addr.{Addr}
use Rattle.rules.specs.declared.Place.{Place}
use Rattle.rules.specs.declared.Hole.{Hole}
use Rattle.rules.specs.declared.Heap.{Heap}
use Rattle.rules.specs.Inner.{behind, Rises, end_or}
use Rattle.rules.proofs.Rises.{rises_le}
use Rattle.rules.proofs.Lists.{addr_back}
use Rattle.rules.proofs.Clear.{ClearBefore, ClearBehind}
use Rattle.walk.specs.declared.Near.{Near}
use Rattle.walk.specs.Walk.{last_floor}
use Rattle.walk.specs.Walk.{last_place}
use Rattle.joining.proofs.Linked.{last_place_lem}
use Rattle.walk.proofs.Passed.{last_none}
use Rattle.free.proofs.Gaps.{gap_follows, follows_gap, keeps_before, keeps_behind, before_none, before_gap}

-- the floor lies 16 bytes behind the last hole passed
floor_end : (low : Addr) (k : Hole) (ks : List Hole) → (last_floor low (k ∷ ks)).0 ≡ end_or (end k).0 ks + min_size
unfolding last_floor
floor_end low k [] = refl
floor_end low k (j ∷ js) = floor_end (behind k) j js

pub floor_least : (h : Heap) (near : Near) (from : Addr) (front : List Hole) → near.cursor.prev ≡ last_place h.base none front
    → near.floor ≡ last_floor from front → (near.cursor.prev.0 ≡ none.0 → ⊥) → min_size ≤ near.floor.0
floor_least h near from [] p f n = absurd (n (ap (λ (q : Place). q.0) (p ∙ last_none h.base none)))
floor_least h near from (k ∷ ks) p f n = let e = ap (λ (a : Addr). a.0) f ∙ floor_end from k ks in omega arith

-- the next hole lies at a place
next_place : (base : Addr) (lo hi : ℕ) (k : Hole) (ks : List Hole) → base.0 ≤ lo → hi < 2 ^ 64 - 1 → Rises lo hi (k ∷ ks)
    → is_none (first_of base (k ∷ ks)) ≡ false
unfolding first_of
next_place base lo hi k ks a b r =
    ne_eqb (k.addr.0 - base.0) none.0 (λ e. omega (arith, rises_le (end k).0 hi ks r.2))

module _ (h : Heap) (near : Near) (g : Hole) (lo hi : ℕ) (low : h.base.0 ≤ lo) (high : hi < 2 ^ 64 - 1) where
  -- the hole's address, from its place
  next_addr : (k : Hole) (ks : List Hole) → near.cursor.hole ≡ first_of h.base (k ∷ ks) → Rises lo hi (k ∷ ks)
      → addr_of h.base near.cursor.hole ≡ k.addr
  unfolding first_of
  next_addr k ks p r = rw p (addr_back h.base k.addr (omega arith))

  pub next_high : (back : List Hole) → near.cursor.hole ≡ first_of h.base back → Rises lo hi back
      → (near.cursor.hole.0 ≡ none.0 → ⊥) → h.base.0 + near.cursor.hole.0 ≤ hi
  next_high [] p r n = absurd (n (ap (λ (q : Place). q.0) (p ∙ (unfold first_of in refl))))
  next_high (k ∷ ks) p r n =
      let e = ap (λ (a : Addr). a.0) (next_addr k ks p r) in
      omega (arith, rises_le (end k).0 hi ks r.2)

  module _ (from : Addr) where
    pub clear_keeps : (front : List Hole) → near.cursor.prev ≡ last_place h.base none front → near.floor ≡ last_floor from front
        → ClearBefore g front → keeps_before near g ≡ true
    clear_keeps [] p f c = before_none h near g (ap (λ (q : Place). q.0) (p ∙ last_none h.base none))
    clear_keeps (k ∷ ks) p f c =
        let e = ap (λ (a : Addr). a.0) f ∙ floor_end from k ks in
        let d : near.floor.0 - min_size ≡ end_or (end k).0 ks = omega arith in
        before_gap h near g (rw d (follows_gap (addr (end_or (end k).0 ks)) g.addr c))

    pub keeps_clear : (front : List Hole) → near.cursor.prev ≡ last_place h.base none front → near.floor ≡ last_floor from front
        → Rises lo hi front → keeps_before near g ≡ true → ClearBefore g front
    keeps_clear [] p f r e = tt
    keeps_clear (k ∷ ks) p f r e =
        let x = ap (λ (a : Addr). a.0) f ∙ floor_end from k ks in
        let d : near.floor.0 - min_size ≡ end_or (end k).0 ks = omega arith in
        let n = ap is_none p ∙ last_place_lem h.base none lo hi k ks low high r in
        rw d at (gap_follows (addr (near.floor.0 - min_size)) g.addr (rw n at e))

  pub clear_next : (back : List Hole) → near.cursor.hole ≡ first_of h.base back → Rises lo hi back → ClearBehind g back
      → keeps_behind h near g ≡ true
  clear_next [] p r c = rw p (unfold first_of in refl)
  clear_next (k ∷ ks) p r c =
      let n = ap is_none p ∙ next_place h.base lo hi k ks low high r in
      rw n (rw (next_addr k ks p r) (follows_gap (end g) k.addr c))

  pub next_clear : (back : List Hole) → near.cursor.hole ≡ first_of h.base back → Rises lo hi back → keeps_behind h near g ≡ true
      → ClearBehind g back
  next_clear [] p r e = tt
  next_clear (k ∷ ks) p r e =
      let n = ap is_none p ∙ next_place h.base lo hi k ks low high r in
      gap_follows (end g) k.addr (rw (next_addr k ks p r) at (rw n at e))
