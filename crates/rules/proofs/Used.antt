-- The hole that an allocation uses: where it lies among the holes, that the block fits, and what is left. Assumes nothing.
use mathlib.Core.Path.{◌≡◌, refl}
use mathlib.Core.Bool.{true}
use mathlib.Core.List.{List, [], ◌∷◌, ◌++◌}
use mathlib.Core.Logic.{inl, inr}
use Prim.Native.Nat.{ℕ, ◌+◌, ◌≤◌, ◌<◌}
use native.Mathlib.Omega.{arith}
use borrow.Author.Tests.{leb-true, eqb-true, eqb-false}
use Rattle.rules.specs.declared.Addr.{Addr}
use Rattle.rules.specs.declared.Hole.{Hole}
use Rattle.rules.specs.Fixed.{min_size}
use Rattle.rules.specs.Kinds.{plus, bytes_to, same, not_after, multiple_of, raised}
use Rattle.rules.specs.Holes.{hole, end, total}
use Rattle.rules.specs.Sound.{gap}
use Rattle.rules.specs.Allocate.{candidate, suits, Found, nothing, found, later, find, remains, split}
use Rattle.rules.specs.InWords.{Gap}
use Rattle.rules.specs.Inner.{Rises, end_or}
use Rattle.std.proofs.lemmas.Bool.{and_parts, cond_both}
use Rattle.rules.proofs.Gaps.{gap_words, gap_le, gap_apart}
use Rattle.rules.proofs.Multiples.{up_is}
use Rattle.rules.proofs.Rises.{rises_widen, rises_front, rises_back, rises_append}
use Rattle.rules.proofs.Totals.{total_append}

-- ---- the first suiting hole

-- what is found parts the holes, at a hole that suits
abbrev Parts : ℕ → ℕ → List Hole → Found → Type 0
Parts s align ks nothing = Unit {0}
Parts s align ks (found front k back) = (ks ≡ front ++ (k ∷ back)) × (suits s align k ≡ true)

parts_later : (s align : ℕ) (h : Hole) (ks : List Hole) (f : Found) → Parts s align ks f → Parts s align (h ∷ ks) (later h f)
unfolding later
parts_later s align h ks nothing p = tt
parts_later s align h ks (found front k back) p = (rw p.0, p.1)

find_parts : (s align : ℕ) (ks : List Hole) → Parts s align ks (find s align ks)
unfolding find
find_parts s align [] = tt
find_parts s align (h ∷ hs) =
    cond_both (suits s align h) (found [] h hs) (later h (find s align hs)) (Parts s align (h ∷ hs))
    (λ e. (refl, e))
    (λ e. parts_later s align h hs (find s align hs) (find_parts s align hs))

pub find_splits : (s align : ℕ) (ks front back : List Hole) (k : Hole) → find s align ks ≡ found front k back
    → (ks ≡ front ++ (k ∷ back)) × (suits s align k ≡ true)
find_splits s align ks front back k e = rw e at (find_parts s align ks)

-- ---- the candidate

-- the hole's start or at least 16 bytes behind it
pub candidate_gap : (align : ℕ) (a : Addr) → 0 < align → Gap a.0 (candidate align a).0
unfolding candidate
candidate_gap align a pos =
    cond_both (multiple_of align a) a (raised align (plus a min_size)) (λ (c : Addr). Gap a.0 c.0)
    (λ e. inl refl)
    (λ e. inr (up_is align (a.0 + min_size) pos).above)

pub candidate_low : (align : ℕ) (a : Addr) → 0 < align → a.0 ≤ (candidate align a).0
candidate_low align a pos = gap_le a.0 (candidate align a).0 (candidate_gap align a pos)

-- ---- a hole that suits

module _ (s align : ℕ) (k : Hole) (suit : suits s align k ≡ true) where
  pub suits_fits : (candidate align k.addr).0 + s ≤ (end k).0
  unfolding suits
  suits_fits =
      leb-true ((candidate align k.addr).0 + s) (end k).0
      (and_parts (not_after (plus (candidate align k.addr) s) (end k)) (gap (plus (candidate align k.addr) s) (end k)) suit).0

  pub suits_gap : Gap ((candidate align k.addr).0 + s) (end k).0
  unfolding suits
  suits_gap =
      gap_words (plus (candidate align k.addr) s) (end k)
      (and_parts (not_after (plus (candidate align k.addr) s) (end k)) (gap (plus (candidate align k.addr) s) (end k)) suit).1

  pub suits_leaves : ((candidate align k.addr).0 + s ≡ (end k).0 → ⊥) → (candidate align k.addr).0 + s + min_size ≤ (end k).0
  suits_leaves = gap_apart ((candidate align k.addr).0 + s) (end k).0 suits_gap

  suits_room : 0 < align → s ≤ k.size
  suits_room pos = omega (arith, suits_fits, candidate_low align k.addr pos)

-- ---- what is left of it

pub remains_rises : (lo hi : Addr) → Gap lo.0 hi.0 → Rises lo.0 hi.0 (remains lo hi)
unfolding remains
remains_rises lo hi g =
    cond_both (same lo hi) [] (hole lo (bytes_to lo hi) ∷ []) (Rises lo.0 hi.0)
    (λ e. omega (arith, eqb-true lo.0 hi.0 e))
    (λ e. let w = gap_apart lo.0 hi.0 g (eqb-false lo.0 hi.0 e) in omega arith)

module _ (s align : ℕ) (k : Hole) (suit : suits s align k ≡ true) (pos : 0 < align) where
  split_rises : Rises k.addr.0 (end k).0 (split s align k)
  unfolding split
  split_rises =
      let c = candidate align k.addr in
      let front = remains_rises k.addr c (candidate_gap align k.addr pos) in
      let back = remains_rises (plus c s) (end k) (suits_gap s align k suit) in
      rises_append k.addr.0 c.0 (end k).0 (remains k.addr c) (remains (plus c s) (end k)) front
      (rises_widen c.0 (c.0 + s) (end k).0 (end k).0 (remains (plus c s) (end k)) (omega arith) (omega arith) back)

  -- in its place among the holes
  pub used_rises : (lo hi : ℕ) (front back : List Hole) → Rises lo hi (front ++ (k ∷ back))
      → Rises lo hi (front ++ (split s align k ++ back))
  used_rises lo hi front back r =
      let q = rises_back lo hi front (k ∷ back) r in
      rises_append lo (end_or lo front) hi front (split s align k ++ back) (rises_front lo hi front (k ∷ back) r)
      (rises_append (end_or lo front) (end k).0 hi (split s align k) back
      (rises_widen (end_or lo front) k.addr.0 (end k).0 (end k).0 (split s align k) q.0 (omega arith) split_rises)
      q.2)

-- ---- the room for the block

find_room : (s align : ℕ) (ks front back : List Hole) (k : Hole) → 0 < align → find s align ks ≡ found front k back
    → s ≤ k.size
find_room s align ks front back k pos e = suits_room s align k (find_splits s align ks front back k e).1 pos

-- so used cannot pass size when the block is granted
pub find_total : (s align : ℕ) (ks front back : List Hole) (k : Hole) → 0 < align → find s align ks ≡ found front k back
    → s ≤ total ks
unfolding total
find_total s align ks front back k pos e =
    rw (find_splits s align ks front back k e).0
    (omega (arith, total_append front (k ∷ back), find_room s align ks front back k pos e))
