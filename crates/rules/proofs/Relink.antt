-- Writing few heads is writing them all: a head that stands already may be written again with no change, so after a change in the middle of
-- a list only the middle is written, and the link to it. Assumes nothing.
use mathlib.Core.Path.{◌≡◌, refl, sym, ◌∙◌}
use mathlib.Core.List.{List, [], ◌∷◌, ◌++◌}
use Prim.Native.Nat.{ℕ, ◌+◌, ◌≤◌, ◌<◌}
use native.Mathlib.Omega.{arith}
use lib.ListN.{get_or}
use Rattle.rules.specs.declared.Addr.{Addr}
use Rattle.rules.specs.declared.Place.{Place}
use Rattle.rules.specs.declared.Hole.{Hole}
use Rattle.rules.specs.Kinds.{place_of, none}
use Rattle.rules.specs.Holes.{head_at, put_head, first_of, put_heads}
use Rattle.rules.specs.Inner.{Bytes, first_or, put_heads_to, Rises, end_or}
use Rattle.rules.proofs.Heads.{put_head_below, put_head_bytes, head_agree, head_same}
use Rattle.rules.proofs.Rises.{rises_le, rises_front, rises_back}
use Rattle.rules.proofs.Lists.{first_or_lem, first_append, Holds, same_heads, holds_same, no_head, heads_to, put_heads_to_bytes, put_heads_to_outside}

-- ---- a list in two parts, and a list that stands

pub put_append : (base : Addr) (xs ys : List Hole) (q : Place) (m : List ℕ)
    → put_heads_to base (xs ++ ys) q m ≡ put_heads_to base xs (first_or base ys q) (put_heads_to base ys q m)
unfolding put_heads_to
put_append base [] ys q m = refl
put_append base (k ∷ xs) ys q m = rw (put_append base xs ys q m, first_append base xs ys q)

pub put_one : (base : Addr) (k : Hole) (q : Place) (m : List ℕ)
    → put_heads_to base (k ∷ []) q m ≡ put_head m (place_of base k.addr) (record { size = k.size; next = q })
unfolding put_heads_to
put_one base k q m = refl

-- the head of a hole that stands, written again
again : (base : Addr) (m : List ℕ) (k : Hole) (p : Place) → Bytes m
    → head_at m (place_of base k.addr) ≡ record { size = k.size; next = p }
    → put_head m (place_of base k.addr) (record { size = k.size; next = p }) ≡ m
again base m k p s e = rw (← e) (head_same m (place_of base k.addr) s)

pub put_same : (base : Addr) (ks : List Hole) (q : Place) (m : List ℕ) → Bytes m → Holds base m ks q → put_heads_to base ks q m ≡ m
unfolding put_heads_to
put_same base [] q m s t = refl
put_same base (k ∷ ks) q m s t = rw (put_same base ks q m s t.1) (again base m k (first_or base ks q) s t.0)

-- ---- the link from the holes before

-- the last head of the list leads to q now
unfoldable pub link : Addr → List Hole → Place → List ℕ → List ℕ
link base [] q m = m
link base (k ∷ []) q m = put_head m (place_of base k.addr) (record { size = k.size; next = q })
link base (k ∷ j ∷ js) q m = link base (j ∷ js) q m

link_bytes : (base : Addr) (ks : List Hole) (q : Place) (m : List ℕ) → Bytes m → Bytes (link base ks q m)
unfolding link
link_bytes base [] q m s = s
link_bytes base (k ∷ []) q m s = put_head_bytes m (place_of base k.addr) (record { size = k.size; next = q }) s
link_bytes base (k ∷ j ∷ js) q m s = link_bytes base (j ∷ js) q m s

link_same : (base : Addr) (ks : List Hole) (q : Place) (m : List ℕ) → Bytes m → Holds base m ks q → link base ks q m ≡ m
unfolding link
link_same base [] q m s t = refl
link_same base (k ∷ []) q m s t = again base m k q s t.0
link_same base (k ∷ j ∷ js) q m s t = link_same base (j ∷ js) q m s t.1

link_below : (base : Addr) (lo hi : ℕ) (ks : List Hole) (q : Place) (m : List ℕ) (i : ℕ) → base.0 ≤ lo → Rises lo hi ks
    → base.0 + i < lo → get_or (link base ks q m) i 0 ≡ get_or m i 0
unfolding link
link_below base lo hi [] q m i a r l = refl
link_below base lo hi (k ∷ []) q m i a r l =
    put_head_below m (place_of base k.addr) (record { size = k.size; next = q }) i (omega arith)
link_below base lo hi (k ∷ j ∷ js) q m i a r l =
    link_below base (k.addr.0 + k.size) hi (j ∷ js) q m i (omega arith) r.2 (omega arith)

-- the heads of a list that stands, with a new end: only the last is written
put_link : (base : Addr) (lo hi : ℕ) (ks : List Hole) (p q : Place) (m : List ℕ) → Bytes m → base.0 ≤ lo → Rises lo hi ks
    → Holds base m ks p → put_heads_to base ks q m ≡ link base ks q m
unfolding put_heads_to link
put_link base lo hi [] p q m s a r t = refl
put_link base lo hi (k ∷ []) p q m s a r t = refl
put_link base lo hi (k ∷ j ∷ js) p q m s a r t =
    let e = k.addr.0 + k.size in
    let m₁ = link base (j ∷ js) q m in
    let stands = head_agree m₁ m (place_of base k.addr)
    (λ i x y. link_below base e hi (j ∷ js) q m i (omega arith) r.2 (omega arith)) ∙ t.0 in
    rw (put_link base e hi (j ∷ js) p q m s (omega arith) r.2 t.1)
    (again base m₁ k (place_of base j.addr) (link_bytes base (j ∷ js) q m s) stands)

-- ---- the middle of a list

module _ (base : Addr) (lo hi : ℕ) (front mid back : List Hole) (p : Place) (m : List ℕ)
    (bytes : Bytes m) (low : base.0 ≤ lo) (rises : Rises lo hi (front ++ (mid ++ back)))
    (before : Holds base m front p) (behind : Holds base m back none) where
  -- the holes behind the middle are not written
  put_middle : put_heads_to base (mid ++ back) none m ≡ put_heads_to base mid (first_of base back) m
  put_middle = put_append base mid back none m ∙ rw (put_same base back none m bytes behind, first_or_lem base back)

  -- those before it stand after the middle was written
  pub before_stands : Holds base (put_heads_to base mid (first_of base back) m) front p
  before_stands =
      let e = end_or lo front in
      let r = rises_back lo hi front (mid ++ back) rises in
      let m₁ = put_heads_to base mid (first_of base back) m in
      let u = rises_front lo hi front (mid ++ back) rises in
      let v = rises_front e hi mid back r in
      let l = rises_le lo e front u in
      holds_same base m m₁ front p
      (same_heads base lo e m m₁ front low u
      (λ j x y.
      sym (put_heads_to_outside base mid (first_of base back) m j
      (no_head base e (end_or e mid) j mid (omega arith) v (λ z. absurd (omega arith))))))
      before

  pub relink : put_heads base (front ++ (mid ++ back)) m
      ≡ link base front (first_of base (mid ++ back)) (put_heads_to base mid (first_of base back) m)
  relink =
      let m₁ = put_heads_to base mid (first_of base back) m in
      let u = rises_front lo hi front (mid ++ back) rises in
      heads_to base (front ++ (mid ++ back)) m
      ∙ put_append base front (mid ++ back) none m
      ∙ rw (put_middle, ← first_or_lem base (mid ++ back))
      (put_link base lo (end_or lo front) front p (first_of base (mid ++ back)) m₁
      (put_heads_to_bytes base mid (first_of base back) m bytes) low u before_stands)

  -- where the link is as it was, nothing before the middle is written
  pub relink_same : p ≡ first_of base (mid ++ back)
      → put_heads base (front ++ (mid ++ back)) m ≡ put_heads_to base mid (first_of base back) m
  relink_same e =
      let m₁ = put_heads_to base mid (first_of base back) m in
      relink
      ∙ rw (← e) (link_same base front p m₁ (put_heads_to_bytes base mid (first_of base back) m bytes) before_stands)
