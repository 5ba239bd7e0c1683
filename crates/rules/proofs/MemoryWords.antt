-- After an accepted call each head holds its hole's numbers, and every byte that lies in no head of the new list is what it was.
-- Assumes nothing.
use Rattle.std.proofs.Common.{Ok}
use mathlib.Core.Path.{◌≡◌, refl}
use mathlib.Core.List.{List, [], ◌∷◌, Memᴰ}
use Prim.Native.Nat.{ℕ, suc, ◌+◌, ◌-◌, ◌≤◌}
use native.Mathlib.Omega.{arith, by_contra}
use lib.ListN.{length}
use Rattle.rules.specs.declared.Addr.{Addr}
use Rattle.rules.specs.declared.Hole.{Hole}
use Rattle.rules.specs.declared.Heap.{Heap}
use Rattle.rules.specs.declared.Answer.{Answer}
use Rattle.rules.specs.Holes.{first_of, put_heads}
use Rattle.rules.specs.Sound.{most, holes}
use Rattle.rules.specs.Calls.{Call, done}
use Rattle.rules.specs.Outcome.{outcome, leaves, after}
use Rattle.rules.specs.InWords.{Within}
use Rattle.rules.specs.Behaviour.{ours}
use Rattle.rules.specs.Statements.{Memory}
use Rattle.rules.proofs.Walk.{sound_count}
use Rattle.rules.proofs.Rises.{sound_rises}
use Rattle.rules.proofs.Lists.{holes_read, NoHead, put_heads_length, heads_outside, read_back}
use Rattle.rules.proofs.SoundKept.{Stands, outcome_keeps}

-- the heads that are written for a sound heap's holes are read back
pub stands_read : (h : Heap) (m : List ℕ) (ks : List Hole) → Stands (length m) h ks → h.first ≡ first_of h.base ks
    → holes h (put_heads h.base ks m) ≡ ks
stands_read h m ks st e =
    let f = st.ruled.fair in
    let count = sound_count h f ks st.sound in
    let few : length ks ≤ suc (most h) = omega arith in
    rw (holes_read h (put_heads h.base ks m) f, e)
    (read_back (suc (most h)) h.base h.bottom.0 h.top.0 m ks f.bottom (omega (arith, st.arena)) (omega arith)
    (sound_rises h f ks st.sound) few)

-- a byte that lies in none of the heads
no_head_of : (base : Addr) (i : ℕ) (ks : List Hole) → ((k : Hole) → Memᴰ k ks → Within (k.addr.0 - base.0) 16 i → ⊥)
    → NoHead base i ks
no_head_of base i [] f = tt
no_head_of base i (k ∷ ks) f = (
  λ l. by_contra (k.addr.0 - base.0 + 16) i (λ x. f k (Memᴰ.head refl) (l, x)),
  no_head_of base i ks (λ j d. f j (Memᴰ.tail d)),
)

after_done : (c : Call) (h : Heap) (m : List ℕ) (a : Answer) (h' : Heap) (ks : List Hole) → outcome c h m ≡ done a h' ks
    → after c h m ≡ record { answer = Ok a; heap = h'; arena = put_heads h'.base ks m }
unfolding after leaves
after_done c h m a h' ks e = rw e

pub memory : Memory ours
memory c h m a h' ks f e =
    let k = rw e at (outcome_keeps c h m f) in
    rw (after_done c h m a h' ks e) (
      refl,
      refl,
      put_heads_length h'.base ks m,
      stands_read h' m ks k.0 k.1,
      λ i n. heads_outside h'.base ks m i (no_head_of h'.base i ks n),
    )
