-- What the port leaves out of the original's hole.rs, as functions on the list; the statement that they do what the original's do; and the
-- statement that leaving them out is harmless. The proofs are proofs/LeftOut.antt.
use Rattle.std.specs.Prelude.{◌≡◌, Bool, false, cond, List, [], ◌∷◌, ◌++◌, ℕ, ◌+◌, ◌%◌, ◌≤◌, ◌<◌}
use Rattle.rules.specs.declared.Addr.{Addr}
use Rattle.rules.specs.declared.Hole.{Hole}
use Rattle.rules.specs.declared.Heap.{Heap}
use Rattle.rules.specs.Fixed.{min_size, grain}
use Rattle.rules.specs.Tests.{all, any}
use Rattle.rules.specs.Round.{Above}
use Rattle.rules.specs.Kinds.{addr, plus, bytes_to, before, raised}
use Rattle.rules.specs.Holes.{hole, end}
use Rattle.rules.specs.Free.{freed}
use Rattle.rules.specs.Refusals.{refusal8}
use Rattle.rules.specs.InWords.{end_of, Sound}

-- ---- `check_merge_top`

-- the hole ends below top, with no room for a head behind it
abbrev pub near_top : Addr → Hole → List Bool
near_top top k = before (end k) top ∷ before top (plus (raised grain (end k)) min_size) ∷ []

-- such a hole takes in what is left up to top
unfoldable pub to_top : Addr → Hole → Hole
to_top top k = cond (all (near_top top k)) (hole k.addr (k.size + bytes_to (end k) top)) k

-- that is done to the hole behind which there is none
unfoldable pub check_merge_top : Addr → List Hole → List Hole
check_merge_top top [] = []
check_merge_top top (k ∷ []) = to_top top k ∷ []
check_merge_top top (k ∷ j ∷ ks) = k ∷ check_merge_top top (j ∷ ks)

-- ---- `check_merge_bottom`

-- the hole is less than a head above bottom
abbrev pub near_bottom : Addr → Hole → List Bool
near_bottom bottom k = before k.addr (plus bottom min_size) ∷ []

-- such a hole starts at bottom
unfoldable pub to_bottom : Addr → Hole → Hole
to_bottom bottom k = cond (all (near_bottom bottom k)) (hole bottom (k.size + bytes_to bottom k.addr)) k

-- that is done to the hole before which there is none
unfoldable pub check_merge_bottom : Addr → List Hole → List Hole
check_merge_bottom bottom [] = []
check_merge_bottom bottom (k ∷ ks) = to_bottom bottom k ∷ ks

-- ---- What the original's functions do to a node, line by line, where no sum of theirs wraps and no difference falls below 0

-- `check_merge_top(node, top)` leaves the node k as j
pub record TopMerged (top : Addr) (k j : Hole) : Type 0 where
  pub stays : j.addr ≡ k.addr
  -- `if end < top`: else nothing is done
  pub past : top.0 ≤ end_of k → j.size ≡ k.size
  -- `next_hole_end = align_up(end, 8) + 16; if next_hole_end > top`: else nothing is done
  pub fits : (x : ℕ) → Above 8 (end_of k) x → x + 16 ≤ top.0 → j.size ≡ k.size
  -- `offset = top - end; node.size += offset`
  pub grows :
      (x offset : ℕ) → end_of k < top.0 → Above 8 (end_of k) x → top.0 < x + 16 → end_of k + offset ≡ top.0
      → j.size ≡ k.size + offset

-- `check_merge_bottom(node, bottom)` hands back j for the node k
pub record BottomMerged (bottom : Addr) (k j : Hole) : Type 0 where
  -- `if bottom + 16 > node`: `offset = node - bottom; size = node.size + offset; make_hole(bottom, size)`
  pub near :
      (offset : ℕ) → k.addr.0 < bottom.0 + 16 → bottom.0 + offset ≡ k.addr.0 → (j.addr ≡ bottom) × (j.size ≡ k.size + offset)
  -- else `node`
  pub far : bottom.0 + 16 ≤ k.addr.0 → j ≡ k

-- Ours do the same on every list: one node is changed so, and the other nodes stay, with their order
pub record Merges : Type 0 where
  pub last :
      (top : Addr) (front : List Hole) (k : Hole)
      → (j : Hole) × TopMerged top k j × (check_merge_top top (front ++ (k ∷ [])) ≡ front ++ (j ∷ []))
  pub first :
      (bottom : Addr) (k : Hole) (back : List Hole)
      → (j : Hole) × BottomMerged bottom k j × (check_merge_bottom bottom (k ∷ back) ≡ j ∷ back)
  pub no_last : (top : Addr) → check_merge_top top [] ≡ []
  pub no_first : (bottom : Addr) → check_merge_bottom bottom [] ≡ []
  -- and they do change nodes: one that ends 8 bytes below top, and one that starts 8 bytes above bottom, takes in the 8 bytes
  pub eight_to_top :
      (a s : ℕ) (front : List Hole)
      → check_merge_top (addr (a + s + 8)) (front ++ (hole (addr a) s ∷ [])) ≡ front ++ (hole (addr a) (s + 8) ∷ [])
  pub eight_to_bottom :
      (a s : ℕ) (back : List Hole) → check_merge_bottom (addr a) (hole (addr (a + 8)) s ∷ back) ≡ hole (addr a) (s + 8) ∷ back

-- ---- The original calls the one on a span that becomes the first hole, before it is joined, the other on the list that the span leaves
-- once it is joined. An extension frees the bytes behind top, and top is the old one until they are among the holes. They change no hole:
pub record Harmless : Type 0 where
  -- a span that refusal 8 lets through, freed on a sound heap
  pub freed_bottom : (h : Heap) (ks : List Hole) (g : Hole) (align : ℕ) → Sound h ks → any (refusal8 h ks g align) ≡ false
      → check_merge_bottom h.bottom (g ∷ ks) ≡ g ∷ ks
  pub freed_top : (h : Heap) (ks : List Hole) (g : Hole) (align : ℕ) → Sound h ks → any (refusal8 h ks g align) ≡ false
      → g.size % grain ≡ 0
      → min_size ≤ g.size
      → check_merge_top h.top (freed g ks) ≡ freed g ks
  -- a span at top, by which a sound heap is extended
  pub grown_bottom : (h : Heap) (ks : List Hole) (s : ℕ) → Sound h ks
      → check_merge_bottom h.bottom (hole h.top s ∷ ks) ≡ hole h.top s ∷ ks
  pub grown_top : (h : Heap) (ks : List Hole) (s : ℕ) → Sound h ks
      → check_merge_top h.top (freed (hole h.top s) ks) ≡ freed (hole h.top s) ks
  -- the holes of any sound heap
  pub sound_bottom : (h : Heap) (ks : List Hole) → Sound h ks → check_merge_bottom h.bottom ks ≡ ks
  pub sound_top : (h : Heap) (ks : List Hole) → Sound h ks → check_merge_top h.top ks ≡ ks
