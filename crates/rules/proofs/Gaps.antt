-- Between two addresses lie no bytes or at least 16: the test and the paper's words for it, and what follows from them. Assumes nothing.
use mathlib.Core.Path.{◌≡◌}
use mathlib.Core.Bool.{true}
use mathlib.Core.Logic.{inl, inr}
use Prim.Native.Nat.{ℕ, ◌+◌, ◌%◌, ◌≤◌}
use native.Mathlib.Omega.{arith}
use borrow.Author.Tests.{leb-true, eqb-true, le-leb, eq-eqb}
use Rattle.rules.specs.declared.Addr.{Addr}
use Rattle.rules.specs.Fixed.{min_size, grain}
use Rattle.rules.specs.Kinds.{plus, same, not_after}
use Rattle.rules.specs.Sound.{gap}
use Rattle.rules.specs.InWords.{Gap}
use Rattle.rules.proofs.Cases.{cases, by_eq, last}

pub gap_words : (lo hi : Addr) → gap lo hi ≡ true → Gap lo.0 hi.0
unfolding gap
gap_words lo hi e =
    cases (same lo hi)
    (λ q. inl (eqb-true lo.0 hi.0 q))
    (λ q. inr (leb-true (lo.0 + min_size) hi.0 (last (not_after (plus lo min_size) hi) (rw q at e))))

pub words_gap : (lo hi : Addr) → Gap lo.0 hi.0 → gap lo hi ≡ true
unfolding gap
words_gap lo hi (inl e) = rw (eq-eqb lo.0 hi.0 e)
words_gap lo hi (inr l) =
    cases (same lo hi) (λ q. rw q) (λ q. rw (q, le-leb (lo.0 + min_size) hi.0 l))

pub gap_le : (a b : ℕ) → Gap a b → a ≤ b
gap_le a b (inl e) = omega arith
gap_le a b (inr l) = omega arith

pub gap_apart : (a b : ℕ) → Gap a b → (a ≡ b → ⊥) → a + min_size ≤ b
gap_apart a b (inl e) n = absurd (n e)
gap_apart a b (inr l) n = l

-- multiples of 8 that do not lie exactly 8 bytes apart
pub eights_gap : (a b : ℕ) → a % grain ≡ 0 → b % grain ≡ 0 → a ≤ b → (a + grain ≡ b → ⊥) → Gap a b
eights_gap a b ea eb l n =
    by_eq a b inl (λ d. by_eq (a + grain) b (λ e. absurd (n e)) (λ f. inr (omega (arith, d, f))))
