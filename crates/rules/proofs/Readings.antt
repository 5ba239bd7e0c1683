-- The readers say what the paper says: a heap's numbers where they are sound and used is at most size, else 0. Assumes nothing.
use mathlib.Core.Path.{◌≡◌}
use mathlib.Core.Bool.{true, false}
use Prim.Native.Nat.{◌+◌, ◌-◌, ◌≤◌}
use native.Mathlib.Omega.{arith}
use borrow.Author.Tests.{ltb-false, ne_eqb, le-ltb, not-false}
use Rattle.rules.specs.declared.Heap.{Heap}
use Rattle.rules.specs.Tests.{any}
use Rattle.rules.specs.Sound.{size, sound_numbers}
use Rattle.rules.specs.Readers.{unreadable, read_addr, read_number}
use Rattle.rules.specs.Runs.{reading}
use Rattle.rules.specs.InWords.{SoundNumbers}
use Rattle.rules.specs.Behaviour.{ours}
use Rattle.rules.specs.Statements.{Reads, ReadersDo}
use Rattle.rules.proofs.Cases.{cases, any_each}
use Rattle.rules.proofs.SoundWords.{numbers_words, words_numbers}

module _ (h : Heap) where
  readable : SoundNumbers h → h.used ≤ size h → any (unreadable h) ≡ false
  readable p l =
      let n : h.bottom.0 ≡ 0 → ⊥ = λ e. omega (arith, p.bottom.above) in
      rw (ne_eqb h.bottom.0 0 n, words_numbers h p, le-ltb (size h) h.used l)

  readable_words : any (unreadable h) ≡ false → SoundNumbers h × (h.used ≤ size h)
  readable_words e =
      let r = any_each (unreadable h) e in
      (numbers_words h (not-false (sound_numbers h) r.1.0), ltb-false (size h) h.used r.1.1.0)

  reads_numbers : any (unreadable h) ≡ false
      → Reads ours h h.bottom.0 (h.top.0 + h.pending) (size h) h.used (size h - h.used)
  unfolding reading read_addr read_number
  reads_numbers e = record { bottom = rw e; top = rw e; size = rw e; used = rw e; free_bytes = rw e }

  reads_zeros : any (unreadable h) ≡ true → Reads ours h 0 0 0 0 0
  unfolding reading read_addr read_number
  reads_zeros e = record { bottom = rw e; top = rw e; size = rw e; used = rw e; free_bytes = rw e }

pub readers_do : ReadersDo ours
readers_do h = (
  λ p l. reads_numbers h (readable h p l),
  λ n. cases (any (unreadable h)) (reads_zeros h) (λ e. absurd (n (readable_words h e))),
)
