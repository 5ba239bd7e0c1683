-- What stands against a free: of the holes only the one before the span and the one behind it can. Assumes nothing.
use mathlib.Core.Path.{◌≡◌, refl, sym}
use mathlib.Core.Bool.{Bool, true, false, ◌||◌, or_assoc, or-true}
use mathlib.Core.List.{List, [], ◌∷◌, ◌++◌}
use Prim.Native.Nat.{ℕ, ◌+◌, ◌-◌, ◌%◌, ◌≤◌, ◌<◌}
use native.Mathlib.Omega.{arith, by_contra}
use lib.Dec.{eqb, ltb}
use borrow.Author.Tests.{ltb-false, eqb-true, eqb-false, not-false, le-ltb, lt-ltb, eq-eqb, ne_eqb}
use Rattle.rules.specs.declared.Hole.{Hole}
use Rattle.rules.specs.declared.Heap.{Heap}
use Rattle.rules.specs.Fixed.{min_size, grain}
use Rattle.rules.specs.Tests.{all, any}
use Rattle.rules.specs.Kinds.{before}
use Rattle.rules.specs.Holes.{end, total}
use Rattle.rules.specs.Free.{overlaps, eight, eight_to_hole}
use Rattle.rules.specs.Refusals.{refusal8}
use Rattle.rules.specs.Inner.{Rises, end_or}
use Rattle.std.proofs.lemmas.Bool.{or_from, or_parts}
use Rattle.rules.proofs.Cases.{cases, by_le, apart, any_each}
use Rattle.rules.proofs.Rises.{rises_le, rises_front, rises_back}

-- ---- the tests on one hole

abbrev overlap : Hole → Hole → Bool
overlap g k = all (before g.addr (end k) ∷ before k.addr (end g) ∷ [])

abbrev near : Hole → Hole → Bool
near g k = any (eight (end g) k.addr ∷ eight (end k) g.addr ∷ [])

-- ---- two lists in a row

pub overlaps_append : (g : Hole) (xs ys : List Hole) → overlaps g (xs ++ ys) ≡ (overlaps g xs || overlaps g ys)
unfolding overlaps
overlaps_append g [] ys = refl
overlaps_append g (k ∷ xs) ys =
    rw (overlaps_append g xs ys) (sym (or_assoc (overlap g k) (overlaps g xs) (overlaps g ys)))

pub eight_append : (g : Hole) (xs ys : List Hole) → eight_to_hole g (xs ++ ys) ≡ (eight_to_hole g xs || eight_to_hole g ys)
unfolding eight_to_hole
eight_append g [] ys = refl
eight_append g (k ∷ xs) ys =
    rw (eight_append g xs ys) (sym (or_assoc (near g k) (eight_to_hole g xs) (eight_to_hole g ys)))

-- ---- a hole stands against it

module _ (g k : Hole) (ks : List Hole) where
  overlaps_at : g.addr.0 < (end k).0 → k.addr.0 < (end g).0 → overlaps g (k ∷ ks) ≡ true
  unfolding overlaps
  overlaps_at l m = rw (lt-ltb g.addr.0 (end k).0 l, lt-ltb k.addr.0 (end g).0 m)

  -- 8 bytes before the hole
  eight_before : (end g).0 + grain ≡ k.addr.0 → eight_to_hole g (k ∷ ks) ≡ true
  unfolding eight_to_hole
  eight_before e = rw (eq-eqb ((end g).0 + grain) k.addr.0 e)

  -- 8 bytes behind it
  eight_behind : (end k).0 + grain ≡ g.addr.0 → eight_to_hole g (k ∷ ks) ≡ true
  unfolding eight_to_hole
  eight_behind e = rw (eq-eqb ((end k).0 + grain) g.addr.0 e, or-true (eqb ((end g).0 + grain) k.addr.0))

-- ---- none does

-- the holes neither overlap the span nor lie exactly 8 bytes from it
abbrev pub Clear : Hole → List Hole → Type 0
Clear g ks = (overlaps g ks ≡ false) × (eight_to_hole g ks ≡ false)

-- one address is at another or behind it, and not exactly 8 bytes behind it
abbrev pub Follows : ℕ → ℕ → Type 0
Follows b a = (a ≤ b) × (a + grain ≡ b → ⊥)

-- what refusal 8 lets through: a span at a multiple of 8, clear of the holes, that follows bottom and that top follows
pub record Passed (h : Heap) (ks : List Hole) (g : Hole) : Type 0 where
  pub at8 : g.addr.0 % grain ≡ 0
  pub low : Follows g.addr.0 h.bottom.0
  pub high : Follows h.top.0 (end g).0
  pub clear : Clear g ks

pub passed : (h : Heap) (ks : List Hole) (g : Hole) (align : ℕ) → any (refusal8 h ks g align) ≡ false → Passed h ks g
passed h ks g align e =
    let (at8, (aligned, (low, (high, (over, (eight, (bottom8, (top8, none)))))))) = any_each (refusal8 h ks g align) e in
    record {
      at8 = eqb-true (g.addr.0 % grain) 0 (not-false _ at8);
      low = (ltb-false g.addr.0 h.bottom.0 low, eqb-false (h.bottom.0 + grain) g.addr.0 bottom8);
      high = (ltb-false h.top.0 (end g).0 high, eqb-false ((end g).0 + grain) h.top.0 top8);
      clear = (over, eight);
    }

-- ---- hole by hole

pub clear_rest : (g k : Hole) (ks : List Hole) → Clear g (k ∷ ks) → Clear g ks
unfolding overlaps eight_to_hole
clear_rest g k ks c = ((or_parts (overlap g k) (overlaps g ks) c.0).1, (or_parts (near g k) (eight_to_hole g ks) c.1).1)

-- a hole that the span is clear of follows it, or it follows the hole
pub clear_follows : (g k : Hole) (ks : List Hole) → Clear g (k ∷ ks) → min_size ≤ k.size → g.addr.0 < k.addr.0
    → Follows k.addr.0 (end g).0
clear_follows g k ks c n l = (
  by_contra (end g).0 k.addr.0 (λ d. apart (overlaps_at g k ks (omega arith) d) c.0),
  λ e. apart (eight_before g k ks e) c.1,
)

pub clear_followed : (g k : Hole) (ks : List Hole) → Clear g (k ∷ ks) → min_size ≤ g.size → k.addr.0 ≤ g.addr.0
    → Follows g.addr.0 (end k).0
clear_followed g k ks c n l = (
  by_contra (end k).0 g.addr.0 (λ d. apart (overlaps_at g k ks d (omega arith)) c.0),
  λ e. apart (eight_behind g k ks e) c.1,
)

pub one_before : (g k : Hole) (ks : List Hole) → Follows g.addr.0 (end k).0 → Clear g ks → Clear g (k ∷ ks)
unfolding overlaps eight_to_hole
one_before g k ks f c =
    let a = le-ltb g.addr.0 (end k).0 f.0 in
    let b = ne_eqb ((end g).0 + grain) k.addr.0 (λ e. omega (arith, e)) in
    let d = ne_eqb ((end k).0 + grain) g.addr.0 f.1 in
    (rw a c.0, rw (b, d) c.1)

one_behind : (g k : Hole) (ks : List Hole) → Follows k.addr.0 (end g).0 → Clear g ks → Clear g (k ∷ ks)
unfolding overlaps eight_to_hole
one_behind g k ks f c =
    let a = le-ltb k.addr.0 (end g).0 f.0 in
    let b = ne_eqb ((end g).0 + grain) k.addr.0 f.1 in
    let d = ne_eqb ((end k).0 + grain) g.addr.0 (λ e. omega (arith, e)) in
    (cases (ltb g.addr.0 (end k).0) (λ e. rw (e, a) c.0) (λ e. rw e c.0), rw (b, d) c.1)

-- the span follows the last of the holes
abbrev pub ClearBefore : Hole → List Hole → Type 0
ClearBefore g [] = Unit {0}
ClearBefore g (k ∷ ks) = Follows g.addr.0 (end_or (end k).0 ks)

-- the first of the holes follows the span
abbrev pub ClearBehind : Hole → List Hole → Type 0
ClearBehind g [] = Unit {0}
ClearBehind g (k ∷ ks) = Follows k.addr.0 (end g).0

-- a hole has 16 bytes, so each one further from the span is clear of it
clear_before : (lo : ℕ) (g : Hole) (ks : List Hole) → Rises lo (end_or lo ks) ks → ClearBefore g ks → Clear g ks
unfolding overlaps eight_to_hole
clear_before lo g [] r f = (refl, refl)
clear_before lo g (k ∷ []) r f = one_before g k [] f (refl, refl)
clear_before lo g (k ∷ j ∷ ks) r f =
    let u = rises_le (end j).0 (end_or (end j).0 ks) ks r.2.2 in
    one_before g k (j ∷ ks) (omega arith, λ e. omega (arith, e)) (clear_before (end k).0 g (j ∷ ks) r.2 f)

clear_behind : (lo hi : ℕ) (g : Hole) (ks : List Hole) → Rises lo hi ks → ClearBehind g ks → Clear g ks
unfolding overlaps eight_to_hole
clear_behind lo hi g [] r f = (refl, refl)
clear_behind lo hi g (k ∷ []) r f = one_behind g k [] f (refl, refl)
clear_behind lo hi g (k ∷ j ∷ ks) r f =
    one_behind g k (j ∷ ks) f
    (clear_behind (end k).0 hi g (j ∷ ks) r.2 (omega arith, λ e. omega (arith, e)))

pub clear_none : (lo hi : ℕ) (g : Hole) (front back : List Hole) → Rises lo hi (front ++ back)
    → ClearBefore g front → ClearBehind g back → Clear g (front ++ back)
clear_none lo hi g front back r a b =
    let x = clear_before lo g front (rises_front lo hi front back r) a in
    let y = clear_behind (end_or lo front) hi g back (rises_back lo hi front back r) b in
    (rw (overlaps_append g front back) (or_from _ _ x.0 y.0), rw (eight_append g front back) (or_from _ _ x.1 y.1))

-- ---- the room that the holes leave

rises_total : (lo hi : ℕ) (ks : List Hole) → Rises lo hi ks → total ks ≤ hi - lo
unfolding total
rises_total lo hi [] r = omega arith
rises_total lo hi (k ∷ ks) r =
    omega (arith, rises_total (end k).0 hi ks r.2, rises_le (end k).0 hi ks r.2)

-- a hole that a span does not overlap lies before it or behind it
overlap_none : (g k : Hole) → overlap g k ≡ false → g.addr.0 < (end k).0 → (end g).0 ≤ k.addr.0
overlap_none g k e l =
    let t = lt-ltb g.addr.0 (end k).0 l in
    cases (ltb k.addr.0 (end g).0)
    (λ m. let f = rw (t, m) at e in apart refl f)
    (ltb-false k.addr.0 (end g).0)

-- the holes and a span that overlaps none of them have room together
pub clear_room : (lo hi : ℕ) (g : Hole) (ks : List Hole) → Rises lo hi ks → lo ≤ g.addr.0 → (end g).0 ≤ hi
    → overlaps g ks ≡ false → total ks + g.size ≤ hi - lo
unfolding overlaps total
clear_room lo hi g [] r l m e = omega arith
clear_room lo hi g (k ∷ ks) r l m e =
    by_le (end k).0 g.addr.0
    (λ d. omega (arith, clear_room (end k).0 hi g ks r.2 d m (or_parts (overlap g k) (overlaps g ks) e).1))
    (λ d.
    let p = overlap_none g k (or_parts (overlap g k) (overlaps g ks) e).0 d in
    omega (arith, rises_total (end k).0 hi ks r.2, rises_le (end k).0 hi ks r.2))
