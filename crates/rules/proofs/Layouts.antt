-- The rounded size, and when refusal 6 is due: `layout_of`, case by case and back. Assumes nothing.
use mathlib.Core.Path.{◌≡◌, refl}
use mathlib.Core.Bool.{true, false}
use Rattle.std.proofs.Common.{Some, None}
use Prim.Native.Nat.{ℕ, ◌+◌, ◌-◌, ◌%◌, ◌^◌, ◌≤◌, ◌<◌, max}
use native.Mathlib.Omega.{arith}
use native.Mathlib.Nat.{le-max_left, le-max_right}
use lib.Count.{ones_in}
use borrow.Author.Tests.{ltb-false, eqb-true, not-false, eq-eqb, ne_eqb, lt-ltb, le-ltb}
use Rattle.rules.specs.Fixed.{addr_limit, min_size, grain, width}
use Rattle.rules.specs.Round.{Power, Above}
use Rattle.rules.specs.Tests.{any}
use Rattle.rules.specs.Allocate.{rounded}
use Rattle.rules.specs.Refusals.{one_power, refusal6, layout_of}
use Rattle.rules.proofs.Cases.{cases, any_each}
use Rattle.rules.proofs.Multiples.{up_is, above_is}
use Rattle.rules.proofs.Powers.{power_pos, one_power_lem, grain_power}

-- ---- the rounded size

pub rounded_is : (s : ℕ) → Above grain (max s min_size) (rounded s)
unfolding rounded
rounded_is s = up_is grain (max s min_size) (power_pos grain_power)

pub is_rounded : (s : ℕ) {m r : ℕ} → m ≡ max s min_size → Above grain m r → r ≡ rounded s
unfolding rounded
is_rounded s e p = above_is (power_pos grain_power) (rw e at p)

pub rounded_covers : (s : ℕ) → s ≤ rounded s
rounded_covers s = omega (arith, (rounded_is s).above, le-max_left s min_size)

pub rounded_least : (s : ℕ) → min_size ≤ rounded s
rounded_least s = omega (arith, (rounded_is s).above, le-max_right s min_size)

pub rounded_multiple : (s : ℕ) → rounded s % grain ≡ 0
rounded_multiple s = (rounded_is s).multiple

-- ---- refusal 6

module _ (s a : ℕ) where
  pub layout_no_power : (ones_in width a ≡ 1 → ⊥) → layout_of s a ≡ None
  unfolding layout_of
  layout_no_power ne = rw (ne_eqb (ones_in width a) 1 ne)

  pub layout_large : addr_limit - a < rounded s → layout_of s a ≡ None
  unfolding layout_of
  layout_large l = cases (one_power a) (λ e. rw (e, lt-ltb (addr_limit - a) (rounded s) l)) (λ e. rw e)

  pub layout_fits : ones_in width a ≡ 1 → rounded s ≤ addr_limit - a → layout_of s a ≡ Some (rounded s)
  unfolding layout_of
  layout_fits e l = rw (eq-eqb (ones_in width a) 1 e, le-ltb (addr_limit - a) (rounded s) l)

  pub layout_refused : layout_of s a ≡ None → any (refusal6 s a) ≡ true
  unfolding layout_of
  layout_refused e =
      cases (any (refusal6 s a))
      (λ t. t)
      (λ t.
      let g : layout_of s a ≡ Some (rounded s) = rw t in
      cc)

  pub layout_granted : {w : ℕ} → layout_of s a ≡ Some w → (any (refusal6 s a) ≡ false) × (w ≡ rounded s)
  unfolding layout_of
  layout_granted {w} e =
      cases (any (refusal6 s a))
      (λ t.
      let b : layout_of s a ≡ None = rw t in
      cc)
      (λ t.
      let g : layout_of s a ≡ Some (rounded s) = rw t in
      let r : w ≡ rounded s = cc in
      (t, r))

-- what is known of a layout that is not refused
pub record Valid (s a r : ℕ) : Type 0 where
  pub power : Power a
  pub size : r ≡ rounded s
  pub room : r + a ≤ addr_limit

pub layout_passed : (s a : ℕ) → a < 2 ^ width → any (refusal6 s a) ≡ false → Valid s a (rounded s)
layout_passed s a l e =
    let r = any_each (refusal6 s a) e in
    record {
      power = one_power_lem width a l (eqb-true (ones_in width a) 1 (not-false (one_power a) r.0));
      size = refl;
      room = omega (arith, ltb-false (addr_limit - a) (rounded s) r.1.0, rounded_least s);
    }

pub layout_valid : (s a r : ℕ) → a < 2 ^ width → layout_of s a ≡ Some r → Valid s a r
layout_valid s a r l t = let g = layout_granted s a t in rw g.1 (layout_passed s a l g.0)
