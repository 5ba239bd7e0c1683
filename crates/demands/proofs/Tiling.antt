-- Stretches that fill a range: each address of it lies in one of them and in no other, and if each has 16 bytes or more nowhere exactly 8
-- are left. So holes and held blocks tile a heap. Assumes nothing.
use mathlib.Core.Path.{◌≡◌, ap, ◌∙◌}
use mathlib.Core.List.Memᴰ
use mathlib.Core.List.{List, ◌∷◌, ◌++◌, map, map-append, Memᴰ}
use mathlib.Core.Logic.{◌⊎◌, inl, inr, ⊎_elim}
use Prim.Native.Nat.{ℕ, ◌+◌, ◌-◌, ◌≤◌, ◌<◌}
use native.Mathlib.Omega.{arith}
use Rattle.rules.specs.declared.Hole.{Hole}
use Rattle.rules.specs.declared.Heap.{Heap}
use Rattle.rules.specs.Fixed.{min_size, grain}
use Rattle.rules.specs.Holes.{hole, end}
use Rattle.rules.specs.Sound.{size}
use Rattle.rules.specs.Allocate.{rounded}
use Rattle.rules.specs.InWords.{Vacant}
use Rattle.rules.specs.Runs.{Block, Box}
use Rattle.rules.specs.Statements.{Occupied, Tiles}
use Rattle.rules.proofs.Cases.{by_le}
use Rattle.rules.proofs.SoundWords.{rounded_rounds, rounds_rounded}
use Rattle.rules.proofs.Totals.{added, added_append}
use Rattle.rules.proofs.Cover.{Inside, once, cover, once_in, once_inside, once_most, cover_member, cover_two, vacant_cover, cover_vacant}

-- the stretches cover each address of the range once, and no other
abbrev Fills : Hole → List Hole → Type 0
Fills range ks = (y : ℕ) → cover y ks ≡ once y range

module _ (range : Hole) (ks : List Hole) (fills : Fills range ks) where
  pub fills_inside : (k : Hole) → Memᴰ k ks → (y : ℕ) → Inside k y → Inside range y
  fills_inside k m y w = once_inside y range (omega (arith, fills y, cover_member y ks k m, once_in y k w))

  fills_some : (y : ℕ) → Inside range y → Vacant ks y
  fills_some y w = cover_vacant y ks (omega (arith, fills y, once_in y range w))

  fills_one : (j k : Hole) → Memᴰ j ks → Memᴰ k ks → (j ≡ k → ⊥) → (y : ℕ) → Inside j y → Inside k y → ⊥
  fills_one j k m n d y v w =
      omega (arith, fills y, cover_two y ks j k m n d, once_in y j v, once_in y k w, once_most y range)

  -- no stretch starts inside another
  fills_past : (i k : Hole) → Memᴰ i ks → Memᴰ k ks → 0 < k.size → i.addr.0 < k.addr.0 → k.addr.0 < (end i).0 → ⊥
  fills_past i k m n pos low high =
      fills_one i k m n (λ d. omega (arith, ap (λ (x : Hole). x.addr.0) d)) k.addr.0 (omega arith) (omega arith)

  -- where a stretch ends inside the range, another starts
  fills_next : (k : Hole) → Memᴰ k ks → 0 < k.size → (end k).0 < (end range).0
      → (j : Hole) × Memᴰ j ks × (j.addr.0 ≡ (end k).0)
  fills_next k m pos l =
      let y = (end k).0 in
      let low = fills_inside k m k.addr.0 (omega arith) in
      let v = fills_some y (omega arith) in
      let j = v.0 in
      let w = v.2 in
      let d : j ≡ k → ⊥ = λ e. omega (arith, ap (λ (i : Hole). (end i).0) e) in
      (j, v.1, by_le y j.addr.0 (λ l. omega arith) (λ l. absurd (fills_one j k v.1 m d (y - 1) (omega arith) (omega arith))))

  fills_first : 0 < range.size → (j : Hole) × Memᴰ j ks × (j.addr.0 ≡ range.addr.0)
  fills_first pos =
      let v = fills_some range.addr.0 (omega arith) in
      let w = v.2 in
      (v.0, v.1, omega (arith, fills_inside v.0 v.1 v.0.addr.0 (omega arith)))

  -- stretches of 16 bytes or more leave nowhere exactly 8
  module _ (big : (k : Hole) → Memᴰ k ks → min_size ≤ k.size) where
    pub no_eight_between : (j k : Hole) → Memᴰ j ks → Memᴰ k ks → (end j).0 + grain ≡ k.addr.0 → ⊥
    no_eight_between j k m n e =
        let jb = big j m in
        let kb = big k n in
        let high = fills_inside k n k.addr.0 (omega arith) in
        let next = fills_next j m (omega arith) (omega arith) in
        let i = next.0 in
        let ib = big i next.1 in
        let q = next.2 in
        fills_past i k next.1 n (omega arith) (omega arith) (omega arith)

    pub no_eight_before : (k : Hole) → Memᴰ k ks → range.addr.0 + grain ≡ k.addr.0 → ⊥
    no_eight_before k m e =
        let kb = big k m in
        let high = fills_inside k m k.addr.0 (omega arith) in
        let first = fills_first (omega arith) in
        let i = first.0 in
        let ib = big i first.1 in
        let q = first.2 in
        fills_past i k first.1 m (omega arith) (omega arith) (omega arith)

    pub no_eight_behind : (k : Hole) → Memᴰ k ks → (end k).0 + grain ≡ (end range).0 → ⊥
    no_eight_behind k m e =
        let kb = big k m in
        let next = fills_next k m (omega arith) (omega arith) in
        let i = next.0 in
        let ib = big i next.1 in
        let q = next.2 in
        omega (arith, fills_inside i next.1 ((end i).0 - 1) (omega arith))

-- ---- a box

-- what a held block takes
abbrev pub span : Block → Hole
span b = hole b.addr (rounded b.size)

abbrev pub spans : List Block → List Hole
spans bs = map span bs

-- from bottom to top
abbrev pub range : Heap → Hole
range h = hole h.bottom (size h)

-- the holes and the held blocks
abbrev pub parts : Box → List Hole
parts b = b.holes ++ spans b.held

-- together they cover each address of the heap once, and no other
abbrev pub Filled : Box → Type 0
Filled b = (y : ℕ) → cover y b.holes + cover y (spans b.held) ≡ once y (range b.heap)

pub filled_fills : (b : Box) → Filled b → Fills (range b.heap) (parts b)
filled_fills b f y = added_append (once y) b.holes (spans b.held) ∙ f y

-- ---- in the paper's words

occupied_vacant : (bs : List Block) (y : ℕ) → Occupied bs y → Vacant (spans bs) y
occupied_vacant bs y (b, m, r, q, w) = (span b, Memᴰ.map span m, rw (← rounds_rounded q) w)

vacant_occupied : (bs : List Block) (y : ℕ) → Vacant (spans bs) y → Occupied bs y
vacant_occupied bs y (k, m, w) =
    let t = Memᴰ.of_map span bs m in
    (t.0, t.1, rounded t.0.size, rounded_rounds t.0.size, rw (← t.2) at w)

-- two of a list
pair_cover : (y : ℕ) (front mid back : List Hole) (j k : Hole) → once y j + once y k ≤ cover y (front ++ (j ∷ (mid ++ (k ∷ back))))
unfolding added
pair_cover y front mid back j k =
    omega (arith, added_append (once y) front (j ∷ (mid ++ (k ∷ back))), added_append (once y) mid (k ∷ back))

spans_pair : (front mid back : List Block) (c d : Block)
    → spans (front ++ (c ∷ (mid ++ (d ∷ back)))) ≡ spans front ++ (span c ∷ (spans mid ++ (span d ∷ spans back)))
spans_pair front mid back c d = rw (map-append span front (c ∷ (mid ++ (d ∷ back))), map-append span mid (d ∷ back))

module _ (b : Box) (filled : Filled b) where
  pub filled_apart : (y : ℕ) → Vacant b.holes y → Vacant (spans b.held) y → ⊥
  filled_apart y v w =
      omega (
        arith,
        filled y,
        once_most y (range b.heap),
        vacant_cover y b.holes v,
        vacant_cover y (spans b.held) w,
      )

  filled_inside : (y : ℕ) → 1 ≤ once y (range b.heap) → (b.heap.bottom.0 ≤ y) × (y < b.heap.top.0)
  filled_inside y l = let w = once_inside y (range b.heap) l in omega arith

  filled_somewhere : (y : ℕ) → Inside (range b.heap) y → Vacant b.holes y ⊎ Occupied b.held y
  filled_somewhere y w =
      by_le 1 (cover y b.holes)
      (λ l. inl (cover_vacant y b.holes l))
      (λ l.
      inr (vacant_occupied b.held y (cover_vacant y (spans b.held) (omega (arith, filled y, once_in y (range b.heap) w)))))

  pub filled_tiles : Tiles b
  filled_tiles =
      record {
        inside =
            λ y.
            ⊎_elim
            (λ v. filled_inside y (omega (arith, filled y, vacant_cover y b.holes v)))
            (λ v. filled_inside y (omega (arith, filled y, vacant_cover y (spans b.held) (occupied_vacant b.held y v))));
        gapless = λ y l m. filled_somewhere y (omega arith);
        apart = λ y v w. filled_apart y v (occupied_vacant b.held y w);
        holes_apart =
            λ front mid back j k e y v w.
            omega (
              arith,
              rw e at (filled y),
              once_most y (range b.heap),
              pair_cover y front mid back j k,
              once_in y j v,
              once_in y k w,
            );
        disjoint =
            λ front mid back c d e y r q m n v w.
            omega (
              arith,
              rw (e, spans_pair front mid back c d) at (filled y),
              once_most y (range b.heap),
              pair_cover y (spans front) (spans mid) (spans back) (span c) (span d),
              once_in y (span c) (rw (← rounds_rounded m) v),
              once_in y (span d) (rw (← rounds_rounded n) w),
            );
      }
