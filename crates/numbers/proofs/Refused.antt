-- Refusal 1, as tests decide it. Assumes nothing.
use mathlib.Core.Path.{◌≡◌, sym, ◌∙◌}
use mathlib.Core.Bool.{Bool, true, false}
use Prim.Native.Nat.{ℕ, ◌+◌, ◌≤◌}
use native.Mathlib.Omega.{arith}
use borrow.Author.Tests.{ltb-false, le-ltb, eqb-false, ne_eqb}
use Rattle.rules.specs.Fixed.{arena_limit, addr_limit, min_size, grain}
use Rattle.rules.specs.Tests.{any}
use Rattle.rules.specs.Kinds.{bytes_to, raised}
use Rattle.rules.specs.Refusals.{refusal1}
use Rattle.rules.specs.declared.Addr.{Addr}
use Rattle.rules.proofs.Cases.{cases, apart, any_each, each_any}

-- no condition of refusal 1 holds, as numbers
pub record Openable (len : ℕ) (base : Addr) (named : ℕ) : Type 0 where
  pub nonzero : 1 ≤ base.0
  pub small : len ≤ arena_limit
  pub low : base.0 + len ≤ addr_limit
  pub within : named ≤ len
  pub room : bytes_to base (raised grain base) + min_size ≤ named

module _ (len : ℕ) (base : Addr) (named : ℕ) where
  pub may_open : any (refusal1 len base named) ≡ false → Openable len base named
  may_open e = let r = any_each (refusal1 len base named) e in omega (arith, ltb-false, eqb-false base.0 0 r.0)

  open_may : Openable len base named → any (refusal1 len base named) ≡ false
  open_may o = each_any (refusal1 len base named) (ne_eqb base.0 0 (λ z. omega arith), omega (arith, le-ltb))

  -- a condition holds
  pub refuses : (Openable len base named → ⊥) → true ≡ any (refusal1 len base named)
  refuses n = sym (cases (any (refusal1 len base named)) (λ e. e) (λ e. absurd (n (may_open e))))

  -- what is left to test decides
  pub refuses_if : {b : Bool} → (b ≡ false → Openable len base named) → (Openable len base named → b ≡ false)
      → b ≡ any (refusal1 len base named)
  refuses_if {b} f g =
      cases b (λ e. e ∙ refuses (λ o. apart e (g o))) (λ e. e ∙ sym (open_may (f e)))
