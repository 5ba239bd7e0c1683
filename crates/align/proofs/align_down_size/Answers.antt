-- `align::align_down_size` meets its contract: the mask clears the digits below the alignment's own, and they are the remainder.
-- Assumes nothing.
use mathlib.Core.Path.{◌≡◌, ◌∙◌}
use Prim.Native.Nat.{ℕ, ◌-◌, ◌^◌, ◌≤◌, ◌<◌}
use native.Mathlib.Omega.{arith, by_contra}
use native.Mathlib.Nat.{div-add-mod'}
use lib.Pow.{pow_pos, pow_mono}
use lib.Bits.{bit_and}
use Rattle.std.proofs.lemmas.Nat.Bits.{and_high_mask}
use Rattle.rules.specs.Fixed.{width}
use Rattle.rules.specs.Round.{Power, Below, down_to}
use Rattle.rules.proofs.Multiples.{down_is}
use Rattle.rules.proofs.Powers.{power_pos}
use Rattle.align.proofs.align_down_size.Goals as goal

-- all ones less a power's lower digits: the mask that rounds down
clears : (w x : ℕ) {a : ℕ} → Power a → a < 2 ^ w → x < 2 ^ w → Below a x (bit_and x (2 ^ w - 1 - (a - 1)))
clears w x {a} p small l =
    let k = p.exponent in
    let e : a ≡ 2 ^ k = p.is in
    let n : k ≤ w = by_contra k w (λ h. let g : w ≤ k = omega arith in omega (arith, pow_mono g)) in
    let m : 2 ^ w - 1 - (2 ^ k - 1) ≡ 2 ^ w - 2 ^ k = omega (arith, pow_pos k) in
    let d = div-add-mod' x (2 ^ k) in
    let u : bit_and x (2 ^ w - 1 - (a - 1)) ≡ down_to a x = rw (e, m) (and_high_mask w k n x l ∙ omega arith) in
    rw u (down_is a x (power_pos p))

pub returns : goal.returns
returns c = clears width c.args.size c.requires c.ranges.align.fits c.ranges.size.fits
