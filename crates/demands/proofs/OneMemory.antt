-- Heads that hold a list of holes have the same bytes in any two memories; with the same bytes elsewhere the two are one. Assumes nothing.
use mathlib.Core.Path.{◌≡◌, refl, sym, ◌∙◌}
use mathlib.Core.List.Memᴰ
use mathlib.Core.List.{List, [], ◌∷◌, Memᴰ}
use mathlib.Core.Logic.{⊎_elim}
use Prim.Native.Nat.{ℕ, zero, suc, ◌+◌, ◌-◌}
use native.Mathlib.Nat.{add_assoc}
use native.Mathlib.Omega.{arith}
use lib.ListN.{length, get_or}
use lib.Seq.{ext_get_or}
use Rattle.rules.specs.declared.Hole.{Hole}
use Rattle.rules.specs.Words.{word}
use Rattle.rules.specs.InWords.{number, Hold, Within}
use Rattle.rules.specs.Inner.{Bytes}
use Rattle.rules.proofs.Cases.{by_eq, by_le}
use Rattle.rules.proofs.Words.{Agree}

-- ---- the bytes of a number

module _ (m w : List ℕ) (b : Bytes m) (c : Bytes w) where
  word_bytes : (n i : ℕ) → word n m i ≡ word n w i → Agree m w i n
  unfolding word
  word_bytes zero i e j l r = absurd (omega arith)
  word_bytes (suc n) i e j l r =
      let low : get_or m i 0 ≡ get_or w i 0 = omega (arith, b i, c i) in
      let high : word n m (i + 1) ≡ word n w (i + 1) = omega arith in
      by_eq j i (λ q. rw q low) (λ q. word_bytes n (i + 1) high j (omega arith) (omega arith))

  number_bytes : (i : ℕ) → number m i ≡ number w i → Agree m w i 8
  unfolding word
  number_bytes i e = word_bytes 8 i (simp add_assoc (omega (arith, e)))

-- ---- the heads of a list

-- the place of the first head is that of the first hole
hold_place : (base : ℕ) (m w : List ℕ) (p q : ℕ) (ks : List Hole) → Hold base m p ks → Hold base w q ks → p ≡ q
hold_place base m w p q [] s t = s ∙ sym t
hold_place base m w p q (k ∷ ks) s t = omega (arith, s.1, t.1)

-- the bytes of each head are fixed
one_head : (base : ℕ) (m w : List ℕ) (p : ℕ) (ks : List Hole) → Hold base m p ks → Hold base w p ks
    → Bytes m → Bytes w
    → (k : Hole) → Memᴰ k ks → (i : ℕ) → Within (k.addr.0 - base) 16 i → get_or m i 0 ≡ get_or w i 0
one_head base m w p [] s t b c k d i l = absurd (Memᴰ.not-nil d)
one_head base m w p (j ∷ ks) s t b c k d i l =
    let next = hold_place base m w (number m (p + 8)) (number w (p + 8)) ks s.3 t.3 in
    ⊎_elim
    (λ e.
    let at : k.addr.0 ≡ base + p = rw e s.1 in
    by_le (p + 8) i
    (λ r. number_bytes m w b c (p + 8) next i r (omega arith))
    (λ r. number_bytes m w b c p (sym s.2 ∙ t.2) i (omega arith) r))
    (λ later. one_head base m w (number m (p + 8)) ks s.3 (rw (← next) at t.3) b c k later i l)
    (Memᴰ.cases_cons d)

-- ---- the whole memory

-- the index lies in a head of the list, or in none
by_head {ℓ} : {X : Type ℓ} (base : ℕ) (ks : List Hole) (i : ℕ)
    → ((k : Hole) → Memᴰ k ks → Within (k.addr.0 - base) 16 i → X)
    → (((k : Hole) → Memᴰ k ks → Within (k.addr.0 - base) 16 i → ⊥) → X)
    → X
by_head base [] i f g = g (λ k d l. Memᴰ.not-nil d)
by_head {X} base (k ∷ ks) i f g =
    let later : (Within (k.addr.0 - base) 16 i → ⊥) → X =
    λ n.
    by_head base ks i (λ j d. f j (Memᴰ.tail d))
    (λ o. g (λ j d l. ⊎_elim (λ e. n (rw e at l)) (λ t. o j t l) (Memᴰ.cases_cons d))) in
    by_le (k.addr.0 - base) i
    (λ a. by_le (k.addr.0 - base + 16) i (λ r. later (λ l. omega arith)) (λ r. f k (Memᴰ.head refl) (a, r)))
    (λ a. later (λ l. omega arith))

pub one_memory : (base : ℕ) (m w : List ℕ) (p : ℕ) (ks : List Hole) → Hold base m p ks → Hold base w p ks
    → Bytes m → Bytes w → length m ≡ length w
    → ((i : ℕ) → ((k : Hole) → Memᴰ k ks → Within (k.addr.0 - base) 16 i → ⊥) → get_or m i 0 ≡ get_or w i 0)
    → m ≡ w
one_memory base m w p ks s t b c e o =
    ext_get_or 0 m w e (λ i l. by_head base ks i (λ k d r. one_head base m w p ks s t b c k d i r) (o i))
