-- A span that becomes free, between the holes before it and the holes behind it. Assumes nothing.
use mathlib.Core.Path.{◌≡◌, refl}
use mathlib.Core.List.{List, [], ◌∷◌, ◌++◌}
use Prim.Native.Nat.{ℕ, ◌+◌, ◌≤◌, ◌<◌}
use native.Mathlib.Omega.{arith}
use borrow.Author.Tests.{le-ltb, lt-ltb, eq-eqb, ne_eqb}
use Rattle.rules.specs.declared.Hole.{Hole}
use Rattle.rules.specs.Holes.{end}
use Rattle.rules.specs.Free.{joined, in_front, freed}
use Rattle.rules.specs.Inner.{Rises, end_or}
use Rattle.rules.proofs.Rises.{rises_le, rises_front, rises_back}

-- the first of the holes, if there is one, lies past n
abbrev pub Past : ℕ → List Hole → Type 0
Past n [] = Unit {0}
Past n (k ∷ ks) = n < k.addr.0

-- the span starts before the first of them
abbrev pub Beyond : Hole → List Hole → Type 0
Beyond g ks = Past g.addr.0 ks

-- ---- the last of some holes

pub last_end : (lo : ℕ) (front : List Hole) (k : Hole) → end_or lo (front ++ (k ∷ [])) ≡ (end k).0
last_end lo [] k = refl
last_end lo (j ∷ front) k = last_end (j.addr.0 + j.size) front k

-- ---- in front of holes

pub in_front_apart : (g : Hole) (ks : List Hole) → Past (end g).0 ks → in_front g ks ≡ g ∷ ks
unfolding in_front
in_front_apart g [] p = refl
in_front_apart g (k ∷ ks) p = rw (ne_eqb (end g).0 k.addr.0 (λ e. omega (arith, e)))

pub in_front_touch : (g k : Hole) (ks : List Hole) → (end g).0 ≡ k.addr.0 → in_front g (k ∷ ks) ≡ joined g k ∷ ks
unfolding in_front
in_front_touch g k ks e = rw (eq-eqb (end g).0 k.addr.0 e)

-- ---- among holes

-- with no hole before it
pub freed_first : (g : Hole) (back : List Hole) → Beyond g back → freed g back ≡ in_front g back
unfolding freed in_front
freed_first g [] b = refl
freed_first g (k ∷ ks) b = rw (lt-ltb g.addr.0 k.addr.0 b)

-- one hole on: it ends before the span starts
pub freed_step : (g k : Hole) (ks : List Hole) → (end k).0 < g.addr.0 → freed g (k ∷ ks) ≡ k ∷ freed g ks
unfolding freed
freed_step g k ks l =
    rw (le-ltb g.addr.0 k.addr.0 (omega arith), ne_eqb (end k).0 g.addr.0 (λ e. omega (arith, e)))

-- a span that starts where a hole ends lengthens that hole
pub joins_before : (g k : Hole) (ks : List Hole) → k.addr.0 ≤ g.addr.0 → (end k).0 ≡ g.addr.0
    → freed g (k ∷ ks) ≡ in_front (joined k g) ks
unfolding freed
joins_before g k ks l e = rw (le-ltb g.addr.0 k.addr.0 l, eq-eqb (end k).0 g.addr.0 e)

-- every hole before it ends before it starts
pub freed_apart : (lo mid : ℕ) (g : Hole) (front back : List Hole) → Rises lo mid front → mid < g.addr.0 → Beyond g back
    → freed g (front ++ back) ≡ front ++ in_front g back
freed_apart lo mid g [] back r l b = freed_first g back b
freed_apart lo mid g (k ∷ front) back r l b =
    let u = rises_le (k.addr.0 + k.size) mid front r.2 in
    let ih = freed_apart (k.addr.0 + k.size) mid g front back r.2 l b in
    rw (freed_step g k (front ++ back) (omega arith), ih)

-- the hole before it ends where it starts; a hole has 16 bytes, so those before that one end earlier
pub freed_touch : (lo hi : ℕ) (g k : Hole) (front back : List Hole) → Rises lo hi (front ++ (k ∷ []))
    → (end k).0 ≡ g.addr.0 → freed g (front ++ (k ∷ back)) ≡ front ++ in_front (joined k g) back
freed_touch lo hi g k [] back r e = joins_before g k back (omega arith) e
freed_touch lo hi g k (j ∷ front) back r e =
    let a = j.addr.0 + j.size in
    let u = rises_le a (end_or a front) front (rises_front a hi front (k ∷ []) r.2) in
    let v = rises_back a hi front (k ∷ []) r.2 in
    rw (freed_step g j (front ++ (k ∷ back)) (omega arith), freed_touch a hi g k front back r.2 e)
