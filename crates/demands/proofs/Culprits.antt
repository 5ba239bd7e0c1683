-- Behaviours that commit a fraud, made as simply as they can be: most give one answer, whatever they are asked. What their frauds lean on.
-- Assumes nothing.
use mathlib.Core.Path.{◌≡◌, refl}
use mathlib.Core.Bool.{cond}
use mathlib.Core.List.Memᴰ
use mathlib.Core.List.{List, [], ◌∷◌}
use mathlib.Core.Logic.{inl}
use Rattle.std.proofs.Common.{Result, Ok}
use Prim.Native.Nat.{ℕ, ◌+◌, ◌≤◌, ◌%◌}
use native.Mathlib.Omega.{arith}
use lib.Dec.{eqb}
use Rattle.rules.specs.declared.Hole.{Hole}
use Rattle.rules.specs.declared.Heap.{Heap}
use Rattle.rules.specs.declared.Refusal.{Refusal}
use Rattle.rules.specs.declared.Answer.{Answer}
use Rattle.rules.specs.declared.Answer.TheVariants.{Allocated, Freed, Resized}
use Rattle.rules.specs.Kinds.{addr}
use Rattle.rules.specs.Holes.{hole}
use Rattle.rules.specs.Sound.{unopened}
use Rattle.rules.specs.Changes.{Change}
use Rattle.rules.specs.Calls.{Call, opening, change, report, resize, extend}
use Rattle.rules.specs.Outcome.{After}
use Rattle.rules.specs.InWords.{Sound, Rounds, RoomAt, Within}
use Rattle.rules.specs.Behaviour.{Behaviour, ours}
use Rattle.rules.proofs.SoundWords.{sound_words}
use Rattle.demands.specs.Frauds.{Grant, UsedHole, Resizing}
use Rattle.demands.proofs.Premises.{half, halves}
use Rattle.demands.proofs.Shown.{stage, shown}

-- ours, with another heap before an opening, other holes and another end of each call
abbrev bent : Heap → (Heap → List ℕ → List Hole) → (Call → Heap → List ℕ → After) → Behaviour
bent first read end =
    record {
      unopened = first;
      sound = ours.sound;
      holes = read;
      outcome = ours.outcome;
      after = end;
      rows_after = ours.rows_after;
      reading = ours.reading;
      answer_numbers = ours.answer_numbers;
    }

-- a heap before an opening that is not all zeros
abbrev pub early : Behaviour
early = bent half ours.holes ours.after

-- one answer to all calls, which change nothing
abbrev pub answering : List Hole → Result Answer Refusal → Behaviour
answering ks a = bent unopened (λ h m. ks) (λ c h m. record { answer = a; heap = h; arena = m })

-- one answer to all calls, which leave a heap of their own
abbrev pub leaving : Result Answer Refusal → (Call → Heap) → Behaviour
leaving a left = bent unopened (λ h m. []) (λ c h m. record { answer = a; heap = left c; arena = m })

-- one answer to all calls, which leave these bytes
abbrev pub writing : Result Answer Refusal → List ℕ → Behaviour
writing a w = bent unopened (λ h m. []) (λ c h m. record { answer = a; heap = h; arena = w })

-- all that is named lies below top
abbrev pub all_below : Call → Heap
all_below (opening base named) =
    record {
      base = base;
      len = half.len;
      bottom = half.bottom;
      top = addr (base.0 + named);
      first = half.first;
      pending = 0;
      used = 0;
    }
all_below (change c) = unopened
all_below (report r) = unopened

-- after a free the next grant is one byte behind what was given back
abbrev past : Call → Heap → List ℕ → After
past (opening base named) h m = ours.after (opening base named) h m
past (change (Change.allocate s align)) h m = record { answer = Ok (Allocated (addr h.used) 1); heap = h; arena = m }
past (change (Change.free x s align)) h m =
    record {
      answer = Ok (Freed 16 0);
      heap =
          record {
            base = h.base;
            len = h.len;
            bottom = h.bottom;
            top = h.top;
            first = h.first;
            pending = h.pending;
            used = x.0 + 1;
          };
      arena = m;
    }
past (change (Change.resize x s align n)) h m = ours.after (resize x s align n) h m
past (change (Change.extend by)) h m = ours.after (extend by) h m
past (report r) h m = ours.after (report r) h m

abbrev pub passing : Behaviour
passing = bent unopened (λ h m. []) past

-- the heap that is half free, with another number of bytes held
abbrev holding : ℕ → Heap
holding used =
    record {
      base = half.base;
      len = half.len;
      bottom = half.bottom;
      top = half.top;
      first = half.first;
      pending = half.pending;
      used = used;
    }

-- one answer to all calls: its held block has q bytes. These holes are left then, which used tells from the two
abbrev pub refits : ℕ → List Hole → Behaviour
refits q js =
    bent unopened (λ h m. cond (eqb h.used 16) halves js)
    (λ c h m. record { answer = Ok (Resized q q); heap = holding q; arena = m })

-- ---- what the frauds lean on

-- a grant to all who ask
abbrev pub granted : (ks : List Hole) (s at count : ℕ) → s ≤ 24 → Grant (answering ks (Ok (Allocated (addr at) count)))
granted ks s at count l =
    record {
      size = s;
      align = 8;
      heap = half;
      arena = [];
      at = at;
      count = count;
      fits = omega (arith, l);
      answer = refl;
    }

-- the first of the two holes is the one that it uses
abbrev pub uses_low : (s at count : ℕ) (l : s ≤ 24) → Within 0x1008 24 at
    → UsedHole (answering halves (Ok (Allocated (addr at) count))) (granted halves s at count l)
uses_low s at count l w =
    record { front = []; hole = hole (addr 0x1008) 24; back = hole (addr 0x1030) 24 ∷ []; one = refl; inside = w }

-- 24 bytes lie in it
pub low_room : RoomAt 24 8 halves 0x1008
low_room = (
  hole (addr 0x1008) 24,
  Memᴰ.head refl,
  record { multiple = refl; from = omega arith; to = omega arith; front = inl refl; back = inl refl },
)

-- a size that is its own rounded size
pub round : (s : ℕ) → s % 8 ≡ 0 → 16 ≤ s → Rounds s s
round s e l = record { multiple = e; covers = omega arith; sixteen = l; least = λ y e c l. c }

-- the held block resized to q bytes
abbrev pub refit : {b : Behaviour} (q : ℕ) → q % 8 ≡ 0 → 16 ≤ q → q ≤ 40
    → (b.after (resize (addr 0x1020) 16 16 q) half stage).answer ≡ Ok (Resized q q) → Resizing b
refit q e l t a =
    record {
      at = addr 0x1020;
      size = 16;
      align = 16;
      new_size = q;
      heap = half;
      arena = stage;
      old = 16;
      new = q;
      rounds = round 16 refl (omega arith);
      new_rounds = round q e l;
      said = q;
      used = q;
      fits = omega (arith, t);
      answer = a;
    }

pub halves_sound : Sound half halves
halves_sound = rw shown.two at (sound_words half _ shown.good)
