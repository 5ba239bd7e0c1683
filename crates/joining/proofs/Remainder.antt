-- What remains between two addresses, as a head to be written: the place that leads to it, and that it is the head of what remains.
-- Assumes nothing.
use mathlib.Core.Path.{◌≡◌}
use mathlib.Core.List.{List}
use Prim.Native.Nat.{ℕ, ◌+◌, ◌≤◌}
use lib.ListN.{length}
use Rattle.std.proofs.Common.{None}
use borrow.Author.Tests.{eq-eqb, ne_eqb}
use Rattle.rules.specs.Fixed.{min_size}
use Rattle.rules.specs.Kinds.{place_of, bytes_to}
use Rattle.rules.specs.Allocate.{remains}
use Rattle.rules.specs.declared.Addr.{Addr}
use Rattle.rules.specs.declared.Place.{Place}
use Rattle.rules.specs.Inner.{first_or, put_heads_to, put, write, Lands}
use Rattle.rules.proofs.Cases.{by_eq}
use Rattle.joining.specs.Span.{remainder, leads_to}

module _ (base lo hi : Addr) (q : Place) where
  pub remainder_none : lo.0 ≡ hi.0 → remainder base lo hi q ≡ None
  unfolding remainder
  remainder_none e = rw (eq-eqb lo.0 hi.0 e)

  pub remainder_some : (lo.0 ≡ hi.0 → ⊥) → remainder base lo hi q ≡ write (place_of base lo) (bytes_to lo hi) q
  unfolding remainder
  remainder_some n = rw (ne_eqb lo.0 hi.0 n)

  pub remainder_put : (m : List ℕ) → put (remainder base lo hi q) m ≡ put_heads_to base (remains lo hi) q m
  unfolding put remains put_heads_to
  remainder_put m =
      by_eq lo.0 hi.0
      (λ e. rw (remainder_none e, eq-eqb lo.0 hi.0 e))
      (λ n. rw (remainder_some n, ne_eqb lo.0 hi.0 n))

  pub remainder_first : leads_to (remainder base lo hi q) q ≡ first_or base (remains lo hi) q
  unfolding leads_to remains
  remainder_first =
      by_eq lo.0 hi.0
      (λ e. rw (remainder_none e, eq-eqb lo.0 hi.0 e))
      (λ n. rw (remainder_some n, ne_eqb lo.0 hi.0 n))

  pub remainder_lands : (m : List ℕ) → ((lo.0 ≡ hi.0 → ⊥) → (place_of base lo).0 + min_size ≤ length m)
      → Lands m (remainder base lo hi q)
  remainder_lands m f = by_eq lo.0 hi.0 (λ e. rw (remainder_none e) tt) (λ n. rw (remainder_some n) (f n))
