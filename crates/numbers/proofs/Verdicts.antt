-- What `check` says of a heap's numbers and a length, test by test, and what a call comes to then. Assumes nothing.
use mathlib.Core.Path.{◌≡◌}
use mathlib.Core.Bool.{true, false}
use mathlib.Core.List.{List}
use Prim.Native.Nat.{ℕ}
use lib.ListN.{length}
use Rattle.std.proofs.Common.{Ok, Err}
use borrow.Author.Tests.{eq-eqb, ne_eqb}
use Rattle.rules.specs.Sound.{sound_numbers}
use Rattle.rules.specs.Calls.{Call, refused}
use Rattle.rules.specs.Outcome.{outcome, after}
use Rattle.rules.specs.declared.Heap.{Heap}
use Rattle.rules.specs.declared.Refusal.{Refusal}
use Rattle.rules.specs.declared.Refusal.TheVariants.{Unopened, OtherLength, NotSound}
use Rattle.rules.proofs.Cases.{cases, by_eq}
use Rattle.rules.specs.Inner.{Bytes, Fulfils}
use Rattle.rules.proofs.Walk.{sound_fair}
use Rattle.rules.proofs.Decide.{Opens}
use Rattle.rules.proofs.Calls.{outcome_3, outcome_4, outcome_5}
use Rattle.rules.proofs.Written.{fulfils_refused, fulfils_left}
use Rattle.numbers.specs.Checks.{checked_of}
use Rattle.numbers.specs.Lends.{Lends}
use Rattle.numbers.specs.Ready.{Ready}
use Rattle.numbers.specs.declared.loan.Loan.{Loan}

module _ (len : ℕ) (h : Heap) where
  pub checked_3 : h.bottom.0 ≡ 0 → Err Unopened ≡ checked_of len h
  unfolding checked_of
  checked_3 z = rw (eq-eqb h.bottom.0 0 z)

  pub checked_4 : (h.bottom.0 ≡ 0 → ⊥) → (len ≡ h.len → ⊥) → Err OtherLength ≡ checked_of len h
  unfolding checked_of
  checked_4 n d = rw (ne_eqb h.bottom.0 0 n, ne_eqb len h.len d)

  pub checked_5 : (h.bottom.0 ≡ 0 → ⊥) → len ≡ h.len → sound_numbers h ≡ false → Err NotSound ≡ checked_of len h
  unfolding checked_of
  checked_5 n d e = rw (ne_eqb h.bottom.0 0 n, eq-eqb len h.len d, e)

  pub checked_fair : (h.bottom.0 ≡ 0 → ⊥) → len ≡ h.len → sound_numbers h ≡ true → Ok tt ≡ checked_of len h
  unfolding checked_of
  checked_fair n d e = rw (ne_eqb h.bottom.0 0 n, eq-eqb len h.len d, e)

  -- it lets a call go on
  pub passes : checked_of len h ≡ Ok tt → (len ≡ h.len) × (sound_numbers h ≡ true)
  passes v =
      by_eq h.bottom.0 0
      (λ z. let k = checked_3 z in cc)
      (λ n.
      by_eq len h.len
      (λ d.
      cases (sound_numbers h)
      (λ t. (d, t))
      (λ t. let k = checked_5 n d t in cc))
      (λ d. let k = checked_4 n d in cc))

-- it says no: that is the call's refusal
pub refuses_call : (c : Call) (h : Heap) (m : List ℕ) → Opens c ≡ false → {r : Refusal} → checked_of (length m) h ≡ Err r
    → outcome c h m ≡ refused r
refuses_call c h m later {r} v =
    by_eq h.bottom.0 0
    (λ z. let k = checked_3 (length m) h z in let e : r ≡ Unopened = cc in rw e (outcome_3 c h m later z))
    (λ n.
    by_eq (length m) h.len
    (λ d.
    cases (sound_numbers h)
    (λ t. let k = checked_fair (length m) h n d t in cc)
    (λ t. let k = checked_5 (length m) h n d t in let e : r ≡ NotSound = cc in rw e (outcome_5 c h m later n d t)))
    (λ d. let k = checked_4 (length m) h n d in let e : r ≡ OtherLength = cc in rw e (outcome_4 c h m later n d)))

pub fulfils_no : (c : Call) (h : Heap) (m : List ℕ) → Opens c ≡ false → {r : Refusal} → checked_of (length m) h ≡ Err r
    → Fulfils (after c h m) h m (Err r)
fulfils_no c h m later {r} v = fulfils_left c h m (refused r) (refuses_call c h m later v) (fulfils_refused h m r)

-- what a call leans on where it goes on
pub ready : (h : Heap) (m : List ℕ) → Bytes m → checked_of (length m) h ≡ Ok tt → Ready h m
ready h m b v =
    let p = passes (length m) h v in
    record { lent = record { fair = sound_fair h p.1; lent = p.0 }; bytes = b }

-- and all of the rules on the numbers, for the call itself
pub lends_numbers : {h : Heap} {m : List ℕ} {l : Loan} → Lends h m l → sound_numbers l.heap ≡ true
lends_numbers {h} {m} e = rw e.heap (passes (length m) h e.checked).1
