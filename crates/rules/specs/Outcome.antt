-- The outcome of any call on any heap and any arena: answer, heap, the entire arena and, for list, the entire rows. Definitions only.
use Rattle.std.specs.Prelude.{◌≡◌, Result, Ok, Err, List, [], ◌∷◌, map, ℕ, min, length, take}
use Rattle.rules.specs.declared.Hole.{Hole}
use Rattle.rules.specs.declared.Heap.{Heap}
use Rattle.rules.specs.declared.Done.{Done}
use Rattle.rules.specs.declared.Answer.{Answer}
use Rattle.rules.specs.declared.Refusal.{Refusal}
use Rattle.rules.specs.Kinds.{number}
use Rattle.rules.specs.Holes.{put_heads}
use Rattle.rules.specs.Sound.{holes}
use Rattle.rules.specs.Calls.{Call, Outcome, refused, told, done, accepted}
use Rattle.rules.specs.Refusals.{tests, unless}

-- ---- the part that decides: it sees the heap's numbers, the length and the list of holes

unfoldable pub decided : Call → ℕ → Heap → List Hole → Outcome
decided c len h ks = unless (tests c len h ks) (accepted c len h ks)

-- bytes are read only into the list
unfoldable pub outcome : Call → Heap → List ℕ → Outcome
outcome c h m = decided c (length m) h (holes h m)

-- ---- and written only as heads of the new list

pub record After : Type 0 where
  pub answer : Result Answer Refusal
  pub heap : Heap
  pub arena : List ℕ

-- a refusal alters neither heap nor memory; after an accepted call each head holds its hole's numbers, and every byte that lies in no
-- head of the new list is what it was before
unfoldable pub leaves : Heap → List ℕ → Outcome → After
leaves h m (refused r) = record { answer = Err r; heap = h; arena = m }
leaves h m (told a ks) = record { answer = Ok a; heap = h; arena = m }
leaves h m (done a h' ks) = record { answer = Ok a; heap = h'; arena = put_heads h'.base ks m }

unfoldable pub after : Call → Heap → List ℕ → After
after c h m = leaves h m (outcome c h m)

-- what a call hands back, and the arena that it leaves, are what the definition says
abbrev pub Is : After → Done → List ℕ → Type 0
Is a r m = (r.answer ≡ a.answer) × (r.heap ≡ a.heap) × (m ≡ a.arena)

-- ---- the rows that list is lent

pub record Rows : Type 0 where
  pub addrs : List ℕ
  pub sizes : List ℕ

abbrev pub rows : List ℕ → List ℕ → Rows
rows addrs sizes = record { addrs = addrs; sizes = sizes }

-- numbers over the first of a row; the rest of the row stays
unfoldable pub over : List ℕ → List ℕ → List ℕ
over [] row = row
over (x ∷ xs) [] = []
over (x ∷ xs) (y ∷ ys) = x ∷ over xs ys

-- addresses and sizes in order, as many as the shorter row holds
unfoldable pub in_rows : List Hole → Rows → Rows
in_rows ks r =
    let n = min (length r.addrs) (length r.sizes) in
    record {
      addrs = over (take n (map (λ k. number k.addr) ks)) r.addrs;
      sizes = over (take n (map (λ k. k.size) ks)) r.sizes;
    }

unfoldable pub leaves_rows : Rows → Outcome → Rows
leaves_rows r (refused x) = r
leaves_rows r (told a ks) = in_rows ks r
leaves_rows r (done a h ks) = r

unfoldable pub rows_after : Call → Heap → List ℕ → Rows → Rows
rows_after c h m r = leaves_rows r (outcome c h m)
