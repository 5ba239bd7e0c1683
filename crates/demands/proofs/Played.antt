-- A run made by computing: before each call others write noise over every byte outside the heads. Assumes nothing.
use mathlib.Core.Path.{◌≡◌}
use mathlib.Core.Bool.{Bool, true, ◌&&◌, not, cond}
use mathlib.Core.List.Memᴰ
use mathlib.Core.List.{List, [], ◌∷◌, map, Memᴰ}
use mathlib.Core.Logic.{⊎_elim}
use Prim.Native.Nat.{ℕ, zero, suc, ◌+◌, ◌-◌, ◌≤◌, ◌<◌}
use native.Mathlib.Omega.{arith}
use lib.Dec.{eqb}
use lib.ListN.{length, get_or, replicate, length-replicate}
use borrow.Author.Tests.{eqb-true, eqb-false, not-true}
use Rattle.rules.specs.declared.Addr.{Addr}
use Rattle.rules.specs.declared.Hole.{Hole}
use Rattle.rules.specs.declared.Heap.{Heap}
use Rattle.rules.specs.Tests.{all}
use Rattle.rules.specs.Kinds.{bytes_to}
use Rattle.rules.specs.Holes.{put_heads}
use Rattle.rules.specs.Sound.{holes}
use Rattle.rules.specs.Calls.{Call}
use Rattle.rules.specs.Outcome.{after, Rows, rows_after}
use Rattle.rules.specs.Runs.{Reader, reading, Ask, calls, reads, Told, answers, says, Kept, Run, end, own, other, asked}
use Rattle.std.proofs.lemmas.Bool.{and_parts}
use Rattle.rules.proofs.Cases.{by_eq, all_each}

-- ---- a test for what others may write

-- n bytes from index i on are the same
unfoldable pub agree : ℕ → ℕ → List ℕ → List ℕ → Bool
agree zero i m w = true
agree (suc n) i m w = eqb (get_or m i 0) (get_or w i 0) && agree n (i + 1) m w

agree_same : (n i : ℕ) (m w : List ℕ) → agree n i m w ≡ true → (j : ℕ) → i ≤ j → j < i + n → get_or m j 0 ≡ get_or w j 0
unfolding agree
agree_same zero i m w e j l g = absurd (omega arith)
agree_same (suc n) i m w e j l g =
    by_eq i j
    (λ q. rw (← q) (eqb-true (get_or m i 0) (get_or w i 0) (and_parts (eqb (get_or m i 0) (get_or w i 0)) _ e).0))
    (λ q. agree_same n (i + 1) m w (and_parts (eqb (get_or m i 0) (get_or w i 0)) _ e).1 j (omega arith) (omega arith))

-- the heads of the holes are
unfoldable pub heads_agree : Addr → List Hole → List ℕ → List ℕ → Bool
heads_agree base [] m w = true
heads_agree base (k ∷ ks) m w = agree 16 (bytes_to base k.addr) m w && heads_agree base ks m w

heads_kept : (base : Addr) (ks : List Hole) (m w : List ℕ) → heads_agree base ks m w ≡ true
    → (k : Hole) → Memᴰ k ks → (i : ℕ) → k.addr.0 - base.0 ≤ i → i < k.addr.0 - base.0 + 16 → get_or m i 0 ≡ get_or w i 0
unfolding heads_agree
heads_kept base [] m w e k d = absurd (Memᴰ.not-nil d)
heads_kept base (j ∷ js) m w e k d =
    let here = agree 16 (bytes_to base j.addr) m w in
    ⊎_elim
    (λ (q : k ≡ j). rw q (agree_same 16 (bytes_to base j.addr) m w (and_parts here _ e).0))
    (λ (t : Memᴰ k js). heads_kept base js m w (and_parts here _ e).1 k t)
    (Memᴰ.cases_cons d)

abbrev pub keeps : Heap → List ℕ → List ℕ → Bool
keeps h m w = heads_agree h.base (holes h m) m w

pub keeps_kept : (h : Heap) (m w : List ℕ) → keeps h m w ≡ true → Kept h m w
keeps_kept h m w e = heads_kept h.base (holes h m) m w e

-- ---- the run

-- a call on the arena, a call that is lent other memory of n bytes, or a reader
pub data Move : Type 0 where
  here : Call → Rows → Move
  elsewhere : Call → Rows → ℕ → Move
  read : Reader → Move

abbrev ask_of : ℕ → Move → Ask
ask_of len (here c r) = calls c r len
ask_of len (elsewhere c r n) = calls c r n
ask_of len (read x) = reads x

-- an ask's move: on the arena if it is lent as many bytes as that has
abbrev pub move_of : ℕ → Ask → Move
move_of len (calls c r n) = cond (eqb n len) (here c r) (elsewhere c r n)
move_of len (reads x) = read x

-- noise over every byte but the heads
abbrev pub stirred : ℕ → ℕ → Heap → List ℕ → List ℕ
stirred len x h m = put_heads h.base (holes h m) (replicate len x)

module _ (len : ℕ) where
  -- noise keeps the heads; other memory finds the heap open, and is of another length. Each call has its own noise
  unfoldable pub lawful : ℕ → List Move → Heap → List ℕ → Bool
  lawful x [] h m = true
  lawful x (here c r ∷ moves) h m =
      let w = stirred len x h m in
      let next = after c h w in
      all (keeps h m w ∷ eqb (length w) len ∷ lawful (x + 1) moves next.heap next.arena ∷ [])
  lawful x (elsewhere c r n ∷ moves) h m =
      all
      (not (eqb h.bottom.0 0)
      ∷ not (eqb n h.len)
      ∷ lawful (x + 1) moves (after c h (replicate n x)).heap m
      ∷ [])
  lawful x (read y ∷ moves) h m = lawful x moves h m

  -- what the moves come to
  pub record Played (asks : List Ask) (h : Heap) (m : List ℕ) : Type 0 where
    pub told : List Told
    pub heap : Heap
    pub arena : List ℕ
    pub run : Run asks h m told heap arena

  unfoldable pub play : (x : ℕ) (moves : List Move) (h : Heap) (m : List ℕ) → lawful x moves h m ≡ true → Played (map (ask_of len) moves) h m
  unfolding lawful
  play x [] h m e = record { told = []; heap = h; arena = m; run = end }
  play x (here c r ∷ moves) h m e =
      let w = stirred len x h m in
      let t = all_each (keeps h m w ∷ eqb (length w) len ∷ lawful (x + 1) moves (after c h w).heap (after c h w).arena ∷ []) e in
      let q = play (x + 1) moves (after c h w).heap (after c h w).arena t.1.1.0 in
      record {
        told = answers (after c h w).answer (rows_after c h w r) ∷ q.told;
        heap = q.heap;
        arena = q.arena;
        run = own w (keeps_kept h m w t.0) (eqb-true (length w) len t.1.0) q.run;
      }
  play x (elsewhere c r n ∷ moves) h m e =
      let w = replicate n x in
      let opened = not (eqb h.bottom.0 0) in
      let t = all_each (opened ∷ not (eqb n h.len) ∷ lawful (x + 1) moves (after c h w).heap m ∷ []) e in
      let q = play (x + 1) moves (after c h w).heap m t.1.1.0 in
      record {
        told = answers (after c h w).answer (rows_after c h w r) ∷ q.told;
        heap = q.heap;
        arena = q.arena;
        run =
            other w (eqb-false h.bottom.0 0 (not-true _ t.0)) (eqb-false n h.len (not-true _ t.1.0))
            (length-replicate n x)
            q.run;
      }
  play x (read y ∷ moves) h m e =
      let q = play x moves h m e in
      record { told = says (reading y h) ∷ q.told; heap = q.heap; arena = q.arena; run = asked q.run }
