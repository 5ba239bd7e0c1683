-- What comes of a call: a refusal, or what is done once each test has passed; and of every change alike. Assumes nothing.
use mathlib.Core.Path.{◌≡◌, refl}
use mathlib.Core.Bool.{false}
use mathlib.Core.List.{List, [], ◌∷◌}
use Prim.Native.Nat.{ℕ, ◌+◌}
use lib.Dec.{eqb, ltb}
use lib.ListN.{length}
use Rattle.rules.specs.declared.Hole.{Hole}
use Rattle.rules.specs.declared.Heap.{Heap}
use Rattle.rules.specs.declared.Refusal.{Refusal}
use Rattle.rules.specs.declared.Refusal.TheVariants.{NoRoom}
use Rattle.rules.specs.declared.Answer.{Answer}
use Rattle.rules.specs.Fixed.{min_size}
use Rattle.rules.specs.Tests.{any}
use Rattle.rules.specs.Allocate.{rounded, Found, nothing, found, find}
use Rattle.rules.specs.Changes.{Change}
use Rattle.rules.specs.Calls.{Call, change, Outcome, refused, done, taken, given, refitted, gathered, grown, extended, accepted}
use Rattle.rules.specs.Answers.{refusal_numbers}
use Rattle.rules.specs.Refusals.{Test, tests, unless}
use Rattle.rules.specs.Outcome.{decided}
use Rattle.std.proofs.Common.{Result, Ok, Err}
use Rattle.rules.proofs.Cases.{by_test}

-- each test fails
abbrev pub Passes : List Test → Type 0
Passes [] = Unit {0}
Passes (t ∷ ts) = (any t.«exactly_if» ≡ false) × Passes ts

by_passes {ℓ} : (P : Outcome → Type ℓ) (ts : List Test) (o : Outcome) → ((r : Refusal) → P (refused r)) → (Passes ts → P o)
    → P (unless ts o)
unfolding unless
by_passes P [] o f g = g tt
by_passes P (t ∷ ts) o f g =
    by_test P (any t.«exactly_if») (refused t.gives) (unless ts o)
    (λ e. f t.gives)
    (λ e. by_passes P ts o f (λ p. g (e, p)))

pub by_decided {ℓ} : (P : Outcome → Type ℓ) (c : Call) (len : ℕ) (h : Heap) (ks : List Hole) → ((r : Refusal) → P (refused r))
    → (Passes (tests c len h ks) → P (accepted c len h ks)) → P (decided c len h ks)
unfolding decided
by_decided P c len h ks f g = by_passes P (tests c len h ks) (accepted c len h ks) f g

-- ---- a change, whichever it is

-- an answer that is no refusal
abbrev pub Plain : Result Answer Refusal → Type 0
Plain a = (r : Refusal) → a ≡ Err r → ⊥

-- a refusal other than 5, or the heap renewed on its base
module _ {ℓ} (P : Outcome → Type ℓ) (h : Heap) (ks : List Hole) (f : (r : Refusal) → eqb (refusal_numbers r).no 5 ≡ false → P (refused r))
    (g : (a : Answer) (h' : Heap) (js : List Hole) → h'.base ≡ h.base → Plain (Ok a) → P (done a h' js)) where
  by_taken : (s align : ℕ) (x : Found) → P (taken s align h ks x)
  unfolding taken refusal_numbers
  by_taken s align nothing = f (NoRoom (length ks)) refl
  by_taken s align (found front k back) = g _ _ _ refl (λ r e. cc)

  pub by_change : (c : Change) (len : ℕ) → P (accepted (change c) len h ks)
  unfolding accepted given refitted extended gathered grown
  by_change (Change.allocate s align) len = by_taken (rounded s) align (find (rounded s) align ks)
  by_change (Change.free x s align) len = g _ _ _ refl (λ r e. cc)
  by_change (Change.resize x s align n) len = g _ _ _ refl (λ r e. cc)
  by_change (Change.extend by) len =
      by_test P (ltb (h.pending + by) min_size) _ _
      (λ t. g _ _ _ refl (λ r e. cc))
      (λ t. g _ _ _ refl (λ r e. cc))
