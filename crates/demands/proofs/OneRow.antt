-- A row that holds what it must is one row, two such rows hold the same, and the largest grant is one number. Assumes nothing.
use mathlib.Core.Path.{◌≡◌, refl, sym, ◌∙◌}
use mathlib.Core.List.{List}
use Prim.Native.Nat.{ℕ, suc, ◌≤◌, ◌<◌, min}
use native.Mathlib.Omega.{arith}
use lib.ListN.{length, get_or, take, drop, length-take}
use lib.Seq.{ext_get_or, split_at}
use Rattle.rules.specs.declared.Hole.{Hole}
use Rattle.rules.specs.declared.Heap.{Heap}
use Rattle.rules.specs.Kinds.{addr}
use Rattle.rules.specs.Holes.{hole}
use Rattle.rules.specs.Calls.{allocate}
use Rattle.rules.specs.Runs.{Fits}
use Rattle.rules.specs.Behaviour.{Behaviour}
use Rattle.rules.specs.Statements.{LargestGrant, RowAt, SameRow}
use Rattle.rules.proofs.Cases.{by_le}

-- the i-th number that is written is the i-th hole's
row_at : (f : Hole → ℕ) (ks : List Hole) (n : ℕ) (row row' : List ℕ) (i : ℕ) → RowAt f ks n row row' → i < min n (length ks)
    → get_or row' i 0 ≡ f (get_or ks i (hole (addr 0) 0))
row_at f ks n row row' i p l =
    let none = hole (addr 0) 0 in
    let at : length (take i ks) ≡ i = omega (arith, length-take i ks) in
    rw at at (p.1 (take i ks) (drop (suc i) ks) (get_or ks i none) (split_at ks i none (omega arith)) (omega arith))

pub one_row : (f : Hole → ℕ) (ks : List Hole) (n : ℕ) (row row₁ row₂ : List ℕ) → RowAt f ks n row row₁ → RowAt f ks n row row₂
    → row₁ ≡ row₂
one_row f ks n row row₁ row₂ p q =
    ext_get_or 0 row₁ row₂ (p.0 ∙ sym q.0)
    (λ i l.
    by_le (min n (length ks)) i
    (λ out. p.2 i out ∙ sym (q.2 i out))
    (λ inside. row_at f ks n row row₁ i p inside ∙ sym (row_at f ks n row row₂ i q inside)))

-- what is written into two rows is the same
pub same_row : (f : Hole → ℕ) (ks : List Hole) (n₁ n₂ : ℕ) (lent₁ lent₂ row₁ row₂ : List ℕ) → RowAt f ks n₁ lent₁ row₁
    → RowAt f ks n₂ lent₂ row₂ → SameRow (min (length ks) n₁) (min (length ks) n₂) lent₁ lent₂ row₁ row₂
same_row f ks n₁ n₂ lent₁ lent₂ row₁ row₂ p q =
    record {
      long₁ = p.0;
      long₂ = q.0;
      written = λ i l m. row_at f ks n₁ lent₁ row₁ i p (omega arith) ∙ sym (row_at f ks n₂ lent₂ row₂ i q (omega arith));
      rest₁ = λ i l. p.2 i (omega arith);
      rest₂ = λ i l. q.2 i (omega arith);
    }

-- nothing is
pub unwritten : (lent₁ lent₂ : List ℕ) (n₁ n₂ : ℕ) → n₁ ≡ 0 → n₂ ≡ 0 → SameRow n₁ n₂ lent₁ lent₂ lent₁ lent₂
unwritten lent₁ lent₂ n₁ n₂ e f =
    record {
      long₁ = refl;
      long₂ = refl;
      written = λ i l m. absurd (omega arith);
      rest₁ = λ i l. refl;
      rest₂ = λ i l. refl;
    }

-- two that come to the same on each request: what one grants the other refuses for no room
no_larger : (b e : Behaviour) (h : Heap) (m : List ℕ) (align x y : ℕ)
    → ((s : ℕ) → Fits (allocate s align) → b.outcome (allocate s align) h m ≡ e.outcome (allocate s align) h m)
    → LargestGrant b h m align x → LargestGrant e h m align y → y ≤ x
no_larger b e h m align x y same p q =
    by_le y x
    (λ l. l)
    (λ l.
    let (v, g) = q.some (λ z. omega (arith, z)) in
    let no = p.above y y v l in
    let yes = same y (omega (arith, v.room), v.fits) ∙ g.answer in
    cc)

pub one_largest : (b e : Behaviour) (h : Heap) (m : List ℕ) (align x y : ℕ)
    → ((s : ℕ) → Fits (allocate s align) → b.outcome (allocate s align) h m ≡ e.outcome (allocate s align) h m)
    → LargestGrant b h m align x → LargestGrant e h m align y → x ≡ y
one_largest b e h m align x y same p q =
    omega (arith, no_larger b e h m align x y same p q, no_larger e b h m align y x (λ s f. sym (same s f)) q p)
