-- Crates weighed by hand: K1 to K13, one table under one statement. Its proof is proofs/Weighed.antt.
use Rattle.std.specs.Prelude.{◌≡◌, List, [], ◌∷◌, map, ℕ, ◌-◌, ◌^◌, replicate}
use Rattle.rules.specs.declared.Hole.{Hole}
use Rattle.rules.specs.declared.Heap.{Heap}
use Rattle.rules.specs.Kinds.{addr}
use Rattle.rules.specs.Holes as Holes
use Rattle.rules.specs.Sound.{unopened, size, holes}
use Rattle.rules.specs.Calls.{Call, opening, allocate, free, extend}
use Rattle.rules.specs.Answers.{Numbers, numbers, answer_numbers}
use Rattle.rules.specs.Outcome.{after}

-- a crate on the scales: how many bytes are lent, the calls, and what is read off: each answer; then size, pending and holes
pub record Crate : Type 0 where
  pub bytes : ℕ
  pub calls : List Call
  pub answers : List Numbers
  pub size : ℕ
  pub pending : ℕ
  pub holes : List Hole

pub record Run : Type 0 where
  pub answers : List Numbers
  pub heap : Heap
  pub arena : List ℕ

-- the calls one after the other, each handed the heap and the arena that the one before left
unfoldable pub run : List Call → Heap → List ℕ → Run
run [] h m = record { answers = []; heap = h; arena = m }
run (c ∷ cs) h m =
    let r = after c h m in
    let q = run cs r.heap r.arena in
    record { answers = answer_numbers r.answer ∷ q.answers; heap = q.heap; arena = q.arena }

-- from an unopened heap, on memory that holds noise
unfoldable pub weigh : Crate → Crate
weigh k =
    let r = run k.calls unopened (replicate k.bytes 0xaa) in
    record {
      bytes = k.bytes;
      calls = k.calls;
      answers = r.answers;
      size = size r.heap;
      pending = r.heap.pending;
      holes = holes r.heap r.arena;
    }

abbrev crate : ℕ → List Call → List Numbers → ℕ → ℕ → List Hole → Crate
crate n cs ns size pending ks =
    record { bytes = n; calls = cs; answers = ns; size = size; pending = pending; holes = ks }

abbrev opens : ℕ → ℕ → Call
opens base named = opening (addr base) named

abbrev frees : ℕ → ℕ → Call
frees a s = free (addr a) s 8

abbrev hole : ℕ → ℕ → Hole
hole a s = Holes.hole (addr a) s

abbrev pub table : List Crate
table =
    -- K1
    crate 23 (opens 0x1001 23 ∷ []) (numbers 0 0x1008 16 ∷ []) 16 0 (hole 0x1008 16 ∷ [])
    -- K2
    ∷ crate 23 (opens 0x1001 22 ∷ []) (numbers 1 0 0 ∷ []) 0 0 []
    -- K3
    ∷ crate 30 (opens 0x1000 30 ∷ []) (numbers 0 0x1000 24 ∷ []) 24 6 (hole 0x1000 24 ∷ [])
    -- K4
    ∷ crate 24 (opens 0x1000 24 ∷ allocate 16 8 ∷ []) (numbers 0 0x1000 24 ∷ numbers 7 0 1 ∷ []) 24 0
    (hole 0x1000 24 ∷ [])
    -- K5
    ∷ crate 24 (opens 0x1000 24 ∷ allocate 17 8 ∷ []) (numbers 0 0x1000 24 ∷ numbers 0 0x1000 1 ∷ []) 24 0 []
    -- K6
    ∷ crate 64 (opens 0x1000 64 ∷ allocate 16 8 ∷ allocate 16 32 ∷ [])
    (numbers 0 0x1000 64 ∷ numbers 0 0x1000 1 ∷ numbers 0 0x1020 1 ∷ []) 64 0
    (hole 0x1010 16 ∷ hole 0x1030 16 ∷ [])
    -- K7
    ∷ crate 64 (opens 0x1000 64 ∷ allocate 24 8 ∷ allocate 16 32 ∷ [])
    (numbers 0 0x1000 64 ∷ numbers 0 0x1000 1 ∷ numbers 7 0 1 ∷ []) 64 0
    (hole 0x1018 40 ∷ [])
    -- K8, K9, K10
    ∷ crate 64 (opens 0x1000 64 ∷ allocate 0 (2 ^ 63) ∷ allocate (2 ^ 63 - 7) 1 ∷ allocate (2 ^ 63 - 8) 8 ∷ [])
    (numbers 0 0x1000 64 ∷ numbers 6 0 0 ∷ numbers 6 0 0 ∷ numbers 7 0 1 ∷ []) 64 0
    (hole 0x1000 64 ∷ [])
    -- K11: by 9, by 10, by 17
    ∷ crate 64 (opens 0x1000 30 ∷ extend 9 ∷ []) (numbers 0 0x1000 24 ∷ numbers 0 24 15 ∷ []) 24 15
    (hole 0x1000 24 ∷ [])
    ∷ crate 64 (opens 0x1000 30 ∷ extend 10 ∷ []) (numbers 0 0x1000 24 ∷ numbers 0 40 0 ∷ []) 40 0
    (hole 0x1000 40 ∷ [])
    ∷ crate 64 (opens 0x1000 30 ∷ extend 17 ∷ []) (numbers 0 0x1000 24 ∷ numbers 0 40 7 ∷ []) 40 7
    (hole 0x1000 40 ∷ [])
    -- K12
    ∷ crate 64 (opens 0x1000 64 ∷ allocate 64 8 ∷ frees 0x1008 16 ∷ frees 0x1010 16 ∷ frees 0x1010 16 ∷ [])
    (numbers 0 0x1000 64 ∷ numbers 0 0x1000 1 ∷ numbers 8 0 0 ∷ numbers 0 16 48 ∷ numbers 8 0 0 ∷ []) 64 0
    (hole 0x1010 16 ∷ [])
    -- K13
    ∷ crate 64 (opens 0x1000 64 ∷ extend 0 ∷ extend 1 ∷ [])
    (numbers 0 0x1000 64 ∷ numbers 0 64 0 ∷ numbers 9 0 0 ∷ []) 64 0
    (hole 0x1000 64 ∷ [])
    ∷ []

-- every crate weighs what the table says
abbrev pub Weighed : Type 0
Weighed = map weigh table ≡ table
