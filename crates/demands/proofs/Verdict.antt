-- Two behaviours that meet the statements refuse a call for the same, as far as its tests of 3, 4 and 5 go; where those pass both read the
-- same holes. Assumes nothing.
use mathlib.Core.Path.{◌≡◌, sym, subst}
use mathlib.Core.List.{List, [], ◌∷◌}
use Prim.Native.Nat.{ℕ}
use lib.ListN.{length}
use Rattle.rules.specs.declared.Heap.{Heap}
use Rattle.rules.specs.declared.Refusal.{Refusal}
use Rattle.rules.specs.declared.Refusal.TheVariants.{Unopened, OtherLength, NotSound}
use Rattle.rules.specs.Calls.{list, Outcome, refused}
use Rattle.rules.specs.InWords.{Sound}
use Rattle.rules.specs.Behaviour.{Behaviour, Good}
use Rattle.rules.specs.Statements.{Row, refusals_of, Statements}
use Rattle.rules.proofs.Cases.{cases, by_eq, apart}

-- the first of the rows that holds refuses; where none does, D holds
abbrev pub Before : List Row → Type 0 → Outcome → Type 0
Before [] D o = D
Before (t ∷ ts) D o = (t.«exactly_if» → o ≡ refused t.gives) × ((t.«exactly_if» → ⊥) → Before ts D o)

-- whatever stands behind 3, 4 and 5, the call is refused with r
abbrev Stops : Behaviour → Heap → List ℕ → Refusal → Type 1
Stops b h m r = (D : Type 0) (o : Outcome) → Before (refusals_of b list h m) D o → o ≡ refused r

-- whatever stands behind them, it decides
abbrev pub Passes : Behaviour → Heap → List ℕ → Type 1
Passes b h m = (D : Type 0) (o : Outcome) → Before (refusals_of b list h m) D o → D

-- sound holes that one reads the other reads
pub same_holes : (b e : Behaviour) (sb : Statements b) (se : Statements e) (h : Heap) (m : List ℕ) → Sound h (b.holes h m)
    → e.holes h m ≡ b.holes h m
same_holes b e sb se h m s = (se.holes_mean h m).0 (b.holes h m) s ((sb.holes_mean h m).1 s)

-- both are stopped with one refusal, or both pass with the same holes
pub entry : {X : Type 0} (b e : Behaviour) (sb : Statements b) (se : Statements e) (h : Heap) (m : List ℕ)
    → ((r : Refusal) → Stops b h m r → Stops e h m r → X)
    → (Passes b h m → Passes e h m → Good b h m → Good e h m → e.holes h m ≡ b.holes h m → X)
    → X
entry b e sb se h m stop go =
    by_eq h.bottom.0 0
    (λ z. stop Unopened (λ D o d. d.0 z) (λ D o d. d.0 z))
    (λ opened.
    by_eq (length m) h.len
    (λ long.
    cases (b.sound h (b.holes h m))
    (λ t.
    let s = (sb.sound_means h (b.holes h m)).0 t in
    let same = same_holes b e sb se h m s in
    let alike : Sound h (e.holes h m) = rw same s in
    go
    (λ D o d. ((d.1 opened).1 (λ n. n long)).1 (λ n. n s))
    (λ D o d. ((d.1 opened).1 (λ n. n long)).1 (λ n. n alike))
    (long, s) (long, alike) same)
    (λ t.
    let n : Sound h (b.holes h m) → ⊥ = λ s. apart ((sb.sound_means h (b.holes h m)).1 s) t in
    let k : Sound h (e.holes h m) → ⊥ = λ s. n (subst (Sound h) (sym (same_holes e b se sb h m s)) s) in
    stop NotSound
    (λ D o d. ((d.1 opened).1 (λ f. f long)).0 n)
    (λ D o d. ((d.1 opened).1 (λ f. f long)).0 k)))
    (λ other. stop OtherLength (λ D o d. (d.1 opened).0 other) (λ D o d. (d.1 opened).0 other)))
