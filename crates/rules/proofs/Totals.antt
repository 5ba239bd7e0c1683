-- What adds up over holes: a span that becomes free adds its own, and a hole that is used gives up what the block takes. So do the sizes.
-- Assumes nothing.
use mathlib.Core.Path.{◌≡◌, refl, sym}
use mathlib.Core.List.{List, [], ◌∷◌, ◌++◌}
use Prim.Native.Nat.{ℕ, ◌+◌, ◌≤◌}
use native.Mathlib.Omega.{arith}
use borrow.Author.Tests.{eqb-true}
use Rattle.rules.specs.declared.Addr.{Addr}
use Rattle.rules.specs.declared.Hole.{Hole}
use Rattle.rules.specs.Kinds.{plus, bytes_to, same, before}
use Rattle.rules.specs.Holes.{hole, end, total}
use Rattle.rules.specs.Allocate.{candidate, remains, split}
use Rattle.rules.specs.Free.{touch, joined, in_front, freed}
use Rattle.std.proofs.lemmas.Bool.{cond_both}

-- the sum of a number of each hole
unfoldable pub added : (Hole → ℕ) → List Hole → ℕ
added f [] = 0
added f (k ∷ ks) = f k + added f ks

pub added_append : (f : Hole → ℕ) (xs ys : List Hole) → added f (xs ++ ys) ≡ added f xs + added f ys
unfolding added
added_append f [] ys = omega arith
added_append f (k ∷ xs) ys = omega (arith, added_append f xs ys)

-- ---- a number that adds up

-- it is 0 of no bytes, and of two stretches that touch the sum
pub record Adds (f : Hole → ℕ) : Type 0 where
  pub empty : (k : Hole) → k.size ≡ 0 → f k ≡ 0
  pub joins : (g k : Hole) → (end g).0 ≡ k.addr.0 → f (joined g k) ≡ f g + f k

module _ {f : Hole → ℕ} (adds : Adds f) where
  in_front_added : (g : Hole) (ks : List Hole) → added f (in_front g ks) ≡ added f ks + f g
  unfolding in_front added
  in_front_added g [] = omega arith
  in_front_added g (k ∷ ks) =
      cond_both (touch g k) (joined g k ∷ ks) (g ∷ k ∷ ks) (λ (js : List Hole). added f js ≡ (f k + added f ks) + f g)
      (λ e. omega (arith, adds.joins g k (eqb-true (end g).0 k.addr.0 e)))
      (λ e. omega arith)

  pub freed_added : (g : Hole) (ks : List Hole) → added f (freed g ks) ≡ added f ks + f g
  unfolding freed added
  freed_added g [] = omega arith
  freed_added g (k ∷ ks) =
      let ih = freed_added g ks in
      let P : List Hole → Type 0 = λ js. added f js ≡ (f k + added f ks) + f g in
      cond_both (before g.addr k.addr) (in_front g (k ∷ ks)) _ P
      (λ e. in_front_added g (k ∷ ks))
      (λ e.
      cond_both (touch k g) (in_front (joined k g) ks) (k ∷ freed g ks) P
      (λ t. omega (arith, in_front_added (joined k g) ks, adds.joins k g (eqb-true (end k).0 g.addr.0 t)))
      (λ t. omega arith))

  pub remains_added : (lo hi : Addr) → added f (remains lo hi) ≡ f (hole lo (bytes_to lo hi))
  unfolding remains added
  remains_added lo hi =
      let k = hole lo (bytes_to lo hi) in
      cond_both (same lo hi) [] (k ∷ []) (λ (ks : List Hole). added f ks ≡ f k)
      (λ e. sym (adds.empty k (omega (arith, eqb-true lo.0 hi.0 e))))
      (λ e. omega arith)

  -- a block of r bytes at the candidate, inside the hole
  module _ (r align : ℕ) (k : Hole) (from : k.addr.0 ≤ (candidate align k.addr).0)
      (to : (candidate align k.addr).0 + r ≤ (end k).0) where
    -- what is left in front, the block, and what is left behind
    split_added : added f (split r align k) + f (hole (candidate align k.addr) r) ≡ f k
    unfolding split
    split_added =
        let c = candidate align k.addr in
        let front = hole k.addr (bytes_to k.addr c) in
        let block = hole c r in
        let back = hole (plus c r) (bytes_to (plus c r) (end k)) in
        let size : bytes_to k.addr c + r + bytes_to (plus c r) (end k) ≡ k.size = omega arith in
        let whole : f (joined (joined front block) back) ≡ f k = rw size in
        omega (
          arith,
          added_append f (remains k.addr c) (remains (plus c r) (end k)),
          remains_added k.addr c,
          remains_added (plus c r) (end k),
          adds.joins front block (omega arith),
          adds.joins (joined front block) back (omega arith),
        )

    -- in its place among the holes
    pub used_added : (front back : List Hole)
        → added f (front ++ (split r align k ++ back)) + f (hole (candidate align k.addr) r) ≡ added f (front ++ (k ∷ back))
    unfolding added
    used_added front back =
        omega (
          arith,
          added_append f front (split r align k ++ back),
          added_append f (split r align k) back,
          added_append f front (k ∷ back),
          split_added,
        )

-- ---- the sizes

abbrev pub bytes : Hole → ℕ
bytes k = k.size

pub bytes_add : Adds bytes
bytes_add = record { empty = λ k e. e; joins = λ g k e. refl }

pub total_added : (ks : List Hole) → total ks ≡ added bytes ks
unfolding total added
total_added [] = refl
total_added (k ∷ ks) = rw (total_added ks)

pub total_append : (xs ys : List Hole) → total (xs ++ ys) ≡ total xs + total ys
total_append xs ys = rw (total_added (xs ++ ys), total_added xs, total_added ys) (added_append bytes xs ys)

pub freed_total : (g : Hole) (ks : List Hole) → total (freed g ks) ≡ total ks + g.size
freed_total g ks = rw (total_added (freed g ks), total_added ks) (freed_added bytes_add g ks)

pub used_total : (r align : ℕ) (k : Hole) → k.addr.0 ≤ (candidate align k.addr).0 → (candidate align k.addr).0 + r ≤ (end k).0
    → (front back : List Hole) → total (front ++ (split r align k ++ back)) + r ≡ total (front ++ (k ∷ back))
used_total r align k from to front back =
    rw (total_added (front ++ (split r align k ++ back)), total_added (front ++ (k ∷ back)))
    (used_added bytes_add r align k from to front back)
