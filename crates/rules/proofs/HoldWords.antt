-- What the numbers and bytes of a heap hold, in the paper's words: an unopened heap, and holes that are those of the heads. Assumes nothing.
use mathlib.Core.Path.{◌≡◌, refl, ap, ◌∙◌}
use mathlib.Core.List.{List, [], ◌∷◌}
use Prim.Native.Nat.{ℕ, zero, suc, ◌+◌, ◌<◌}
use native.Mathlib.Nat.{add_assoc}
use native.Mathlib.Omega.{arith}
use lib.ListN.{length}
use Rattle.rules.specs.declared.Addr.{Addr}
use Rattle.rules.specs.declared.Place.{Place}
use Rattle.rules.specs.declared.Hole.{Hole}
use Rattle.rules.specs.declared.Heap.{Heap}
use Rattle.rules.specs.Kinds.{place}
use Rattle.rules.specs.Words.{word}
use Rattle.rules.specs.Holes.{head_at, holes_from}
use Rattle.rules.specs.Sound.{most, holes}
use Rattle.rules.specs.Calls.{Outcome, refused, told, done}
use Rattle.rules.specs.Outcome.{outcome, leaves, after}
use Rattle.rules.specs.InWords.{number, Hold}
use Rattle.rules.specs.Behaviour.{ours}
use Rattle.rules.specs.Statements.{UnopenedIs, HolesMean, BytesStay}
use Rattle.rules.specs.Inner.{Bytes}
use Rattle.rules.proofs.Lists.{by_none, from_none, from_step, holes_read, put_heads_bytes}
use Rattle.rules.proofs.Walk.{sound_count}
use Rattle.rules.proofs.SoundWords.{words_fair, words_holes}

pub unopened_is : UnopenedIs ours
unopened_is = record { base = refl; len = refl; bottom = refl; top = refl; first = refl; pending = refl; used = refl }

-- ---- one head

word_number : (m : List ℕ) (i : ℕ) → word 8 m i ≡ number m i
unfolding word
word_number m i = simp add_assoc (omega arith)

head_size : (m : List ℕ) (p : Place) → (head_at m p).size ≡ number m p.0
unfolding head_at
head_size m p = word_number m p.0

head_next : (m : List ℕ) (p : Place) → (head_at m p).next ≡ place (number m (p.0 + 8))
unfolding head_at
head_next m p = ap place (word_number m (p.0 + 8))

-- ---- the list, read far enough

-- holes that the heads hold are read
hold_from : (n : ℕ) (base : Addr) (m : List ℕ) (p : ℕ) (ks : List Hole) → length ks < n → Hold base.0 m p ks
    → holes_from n base m (place p) ≡ ks
hold_from zero base m p ks l e = absurd (omega arith)
hold_from (suc n) base m p [] l e = rw e (from_none (suc n) base m)
hold_from (suc n) base m p (k ∷ ks) l (some, at, size, rest) =
    let e = hold_from n base m (number m (p + 8)) ks (omega arith) rest in
    from_step n base m (place p) some ∙ rw (head_size m (place p), head_next m (place p), e, ← at, ← size)

-- and what is read, if it ends, the heads hold
from_hold : (n : ℕ) (base : Addr) (m : List ℕ) (p : Place) → length (holes_from n base m p) < n
    → Hold base.0 m p.0 (holes_from n base m p)
from_hold zero base m p l = absurd (omega arith)
from_hold (suc n) base m p l =
    by_none p
    (λ e. rw (e, from_none (suc n) base m) refl)
    (λ some.
    let s = from_step n base m p some in
    let r : length (holes_from n base m (head_at m p).next) < n = omega (arith, rw s at l) in
    let q : (head_at m p).next.0 ≡ number m (p.0 + 8) = ap (λ (x : Place). x.0) (head_next m p) in
    rw s (some, refl, head_size m p, rw q at (from_hold n base m (head_at m p).next r)))

-- ---- the heap

pub holes_mean : HolesMean ours
holes_mean h m = (
  λ ks s e.
      let f = words_fair h s.0 in
      let few = sound_count h f ks (words_holes h ks s.1) in
      holes_read h m f ∙ hold_from (suc (most h)) h.base m h.first.0 ks (omega arith) e,
  λ s.
      let f = words_fair h s.0 in
      let few = sound_count h f (holes h m) (words_holes h (holes h m) s.1) in
      let r = holes_read h m f in
      rw r (from_hold (suc (most h)) h.base m h.first (omega (arith, rw r at few))),
)

-- ---- bytes

leaves_bytes : (h : Heap) (m : List ℕ) (o : Outcome) → Bytes m → Bytes (leaves h m o).arena
unfolding leaves
leaves_bytes h m (refused r) b = b
leaves_bytes h m (told a ks) b = b
leaves_bytes h m (done a h' ks) b = put_heads_bytes h'.base ks m b

pub bytes_stay : BytesStay ours
unfolding after
bytes_stay c h m b = leaves_bytes h m (outcome c h m) b
