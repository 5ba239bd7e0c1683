-- How a call is decided: 3, 4 and the rules on the numbers first, then the rules on the holes, then the rest. Assumes nothing.
use mathlib.Core.Path.{◌≡◌, refl}
use mathlib.Core.Bool.{Bool, true, false, ◌&&◌, not}
use mathlib.Core.List.{List, [], ◌∷◌, ◌++◌}
use Prim.Native.Nat.{ℕ}
use borrow.Author.Tests.{eq-eqb, ne_eqb}
use Rattle.rules.specs.declared.Hole.{Hole}
use Rattle.rules.specs.declared.Heap.{Heap}
use Rattle.rules.specs.declared.Refusal.{Refusal}
use Rattle.rules.specs.declared.Refusal.TheVariants.{Unopened, OtherLength, NotSound}
use Rattle.rules.specs.Sound.{sound_numbers, sound_holes}
use Rattle.rules.specs.Calls.{Call, opening, change, report, Outcome, refused, accepted}
use Rattle.rules.specs.Refusals.{Test, test, opened_tests, change_tests, report_tests, tests, unless}
use Rattle.rules.specs.Outcome.{decided}
use Rattle.rules.specs.Inner.{sifted}
use Rattle.rules.proofs.Cases.{cases, apart}

-- two neighbouring tests that give the same refusal are one
pub one_test : (r : Refusal) (a b : Bool) (ts : List Test) (o : Outcome)
    → unless (test r (not a ∷ []) ∷ test r (not b ∷ []) ∷ ts) o ≡ unless (test r (not (a && b) ∷ []) ∷ ts) o
unfolding unless
one_test r true b ts o = refl
one_test r false b ts o = refl

-- ---- the tests that all calls but open begin with, whatever follows them

module _ (len : ℕ) (h : Heap) (ks : List Hole) (ts : List Test) (o : Outcome) where
  pub unless_3 : h.bottom.0 ≡ 0 → unless (opened_tests len h ks ++ ts) o ≡ refused Unopened
  unfolding unless
  unless_3 e = rw (eq-eqb h.bottom.0 0 e)

  pub unless_4 : (h.bottom.0 ≡ 0 → ⊥) → (len ≡ h.len → ⊥) → unless (opened_tests len h ks ++ ts) o ≡ refused OtherLength
  unfolding unless
  unless_4 n d = rw (ne_eqb h.bottom.0 0 n, ne_eqb len h.len d)

  pub unless_5 : (h.bottom.0 ≡ 0 → ⊥) → len ≡ h.len → sound_numbers h ≡ false → unless (opened_tests len h ks ++ ts) o ≡ refused NotSound
  unfolding unless
  unless_5 n d e = rw (ne_eqb h.bottom.0 0 n, eq-eqb len h.len d, e)

  pub unless_fair : (h.bottom.0 ≡ 0 → ⊥) → len ≡ h.len → sound_numbers h ≡ true → unless (opened_tests len h ks ++ ts) o ≡ sifted h ks (unless ts o)
  unfolding unless sifted
  unless_fair n d e =
      cases (sound_holes h ks)
      (λ q. rw (ne_eqb h.bottom.0 0 n, eq-eqb len h.len d, e, q))
      (λ q. rw (ne_eqb h.bottom.0 0 n, eq-eqb len h.len d, e, q))

-- ---- what follows them, call by call

-- the tests behind 5, and what is left once they pass
abbrev pub rest : Call → Heap → List Hole → List Test
rest (opening base named) h ks = []
rest (change c) h ks = change_tests c h ks
rest (report r) h ks = report_tests r

abbrev pub Opens : Call → Bool
Opens (opening base named) = true
Opens (change c) = false
Opens (report r) = false

-- every call but open
pub decided_later : (c : Call) (len : ℕ) (h : Heap) (ks : List Hole) → Opens c ≡ false
    → decided c len h ks ≡ unless (opened_tests len h ks ++ rest c h ks) (accepted c len h ks)
unfolding decided tests
decided_later (opening base named) len h ks e = apart refl e
decided_later (change c) len h ks e = refl
decided_later (report r) len h ks e = refl
