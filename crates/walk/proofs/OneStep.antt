-- A step at a place: what it is, by the rules on the head there, and what it tells of them. Assumes nothing.
use mathlib.Core.Path.{◌≡◌, refl, ◌∙◌}
use mathlib.Core.Bool.{true, false}
use Rattle.std.proofs.Common.{Ok, Err, Some, None}
use mathlib.Core.List.{List}
use Prim.Native.Nat.{ℕ, ◌+◌, ◌%◌, ◌≤◌}
use native.Mathlib.Omega.{arith}
use lib.Bits.{bit_or, bit_and, or_mod, or_add_and, and_le_l, and_le_r}
use borrow.Author.Tests.{eq-eqb, ne_eqb}
use Rattle.rules.specs.Fixed.{grain}
use Rattle.rules.specs.Tests.{all}
use Rattle.rules.specs.Kinds.{addr_of, none, is_none}
use Rattle.rules.specs.Holes.{hole, head_at}
use Rattle.rules.specs.declared.Addr.{Addr}
use Rattle.rules.specs.declared.Place.{Place}
use Rattle.rules.specs.declared.Head.{Head}
use Rattle.rules.specs.declared.Hole.{Hole}
use Rattle.rules.specs.declared.Heap.{Heap}
use Rattle.rules.specs.Inner.{head_rules, ends}
use Rattle.std.proofs.lemmas.Bool.{cond_both}
use Rattle.rules.proofs.Cases.{cases, apart}
use Rattle.rules.proofs.Walk.{Keeps, rules_keep, keep_rules}
use Rattle.rules.specs.declared.Refusal.TheVariants.{NotSound}
use Rattle.walk.specs.Walk.{Stepped, last_of, head_of, step_of, found_at}

-- ---- two multiples of 8, tested as one by their `|`

pub both_eight : (a b : ℕ) → bit_or a b % grain ≡ 0 → (a % grain ≡ 0) × (b % grain ≡ 0)
both_eight a b e =
    let m : bit_or a b % grain ≡ bit_or (a % grain) (b % grain) = or_mod a b 3 in
    let s : bit_or (a % grain) (b % grain) + bit_and (a % grain) (b % grain) ≡ a % grain + b % grain = or_add_and (a % grain) (b % grain) in
    let l : bit_and (a % grain) (b % grain) ≤ a % grain = and_le_l (a % grain) (b % grain) in
    let r : bit_and (a % grain) (b % grain) ≤ b % grain = and_le_r (a % grain) (b % grain) in
    (omega arith, omega arith)

pub eight_both : (a b : ℕ) → a % grain ≡ 0 → b % grain ≡ 0 → bit_or a b % grain ≡ 0
eight_both a b e f = or_mod a b 3 ∙ rw (e, f)

-- ---- what a step is

-- the hole whose head stands at a place
abbrev pub hole_at : Heap → List ℕ → Place → Hole
hole_at h m at = hole (addr_of h.base at) (head_at m at).size

-- a hole that a step finds is the one whose head stands at the place, and it keeps its rules
pub record Found (h : Heap) (m : List ℕ) (at : Place) (floor : Addr) (k : Hole) (q : Place) : Type 0 where
  pub some : is_none at ≡ false
  pub hole : k ≡ hole_at h m at
  pub next : q ≡ (head_at m at).next
  pub rules : all (head_rules h floor k) ≡ true

-- there is no further head, and what is left is 0 or at least 16 bytes; or the end breaks a rule, or the head does
module _ (h : Heap) (m : List ℕ) (at : Place) (floor : Addr) where
  abbrev pub Finds : Stepped → Type 0
  Finds (Ok (Some s)) = Found h m at floor s.hole s.next
  Finds (Ok None) = (is_none at ≡ true) × (ends h floor ≡ true)
  Finds (Err r) =
      (r ≡ NotSound)
      × (is_none at ≡ true → ends h floor ≡ false)
      × (is_none at ≡ false → all (head_rules h floor (hole_at h m at)) ≡ false)

  pub finds : Finds (step_of h m at floor)
  unfolding step_of last_of head_of
  finds =
      cond_both (is_none at) _ _ Finds
      (λ t. cond_both (ends h floor) _ _ Finds (λ e. (t, e)) (λ e. (refl, λ u. e, λ u. apart t u)))
      (λ t.
      cond_both (all (head_rules h floor (hole_at h m at))) _ _ Finds
      (λ e. record { some = t; hole = refl; next = refl; rules = e })
      (λ e. (refl, λ u. apart u t, λ u. e)))

-- ---- by what `next` tests

module _ (h : Heap) (m : List ℕ) (at : Place) (floor : Addr) where
  pub ended : at.0 ≡ none.0 → last_of h floor ≡ step_of h m at floor
  unfolding step_of
  ended e = rw (eq-eqb at.0 none.0 e)

  module _ (some : at.0 ≡ none.0 → ⊥) {a : Addr} {d : Head} (reached : a ≡ addr_of h.base at) (read : d ≡ head_at m at) where
    headed : head_of h floor (hole a d.size) d.next ≡ step_of h m at floor
    unfolding step_of
    headed = rw (reached, read, ne_eqb at.0 none.0 some)

    pub kept : Keeps h floor (hole a d.size) → found_at (hole a d.size) d.next ≡ step_of h m at floor
    unfolding head_of
    kept r = rw (keep_rules h floor (hole a d.size) r) at headed

    pub broken : (Keeps h floor (hole a d.size) → ⊥) → Err NotSound ≡ step_of h m at floor
    unfolding head_of
    broken n =
        cases (all (head_rules h floor (hole a d.size)))
        (λ e. absurd (n (rules_keep h floor (hole a d.size) e)))
        (λ e. rw e at headed)
