-- Demand 3, on held blocks: in a run whose frees are honest, holes and held blocks tile the heap, a held block's free is accepted, and no
-- call changes a byte of a block held before and after it. Assumes nothing.
use mathlib.Core.Path.{◌≡◌, refl, ap, ◌∙◌}
use mathlib.Core.List.{List, [], ◌∷◌, ◌++◌, Memᴰ}
use mathlib.Core.Logic.{inl, inr, ⊎_elim}
use Prim.Native.Nat.{ℕ, ◌+◌, ◌-◌, ◌≤◌, ◌<◌}
use native.Mathlib.Omega.{arith}
use lib.ListN.{length, get_or}
use borrow.Author.Tests.{eqb-true, not-false}
use Rattle.rules.specs.declared.Addr.{Addr}
use Rattle.rules.specs.declared.Hole.{Hole}
use Rattle.rules.specs.declared.Heap.{Heap}
use Rattle.rules.specs.Fixed.{min_size}
use Rattle.rules.specs.Kinds.{addr, same}
use Rattle.rules.specs.Sound.{holes}
use Rattle.rules.specs.Allocate.{rounded}
use Rattle.rules.specs.Calls.{Call, opening, change, report, free, Outcome, refused, told, done, given, accepted}
use Rattle.rules.specs.Refusals.{tests, unless}
use Rattle.rules.specs.Outcome.{decided, outcome, after, Rows}
use Rattle.rules.specs.InWords.{end_of, Sound, NoSpan}
use Rattle.rules.specs.Runs.{Fits, Ask, calls, reads, AllFit, Block, Box, start, comes_to, box_after, next_box, ends}
use Rattle.rules.specs.Statements.{Occupied, Tiles, HeldTile, HeldIsFreed, HeldUntouched}
use Rattle.std.proofs.lemmas.Bool.{or_parts}
use Rattle.rules.proofs.Cases.{by_le}
use Rattle.rules.proofs.Layouts.{rounded_least}
use Rattle.rules.proofs.SoundWords.{rounded_rounds}
use Rattle.rules.proofs.TestWords.{means_fails, no_span}
use Rattle.rules.proofs.Good.{sound_decided, valid_passes}
use Rattle.rules.proofs.Passes.{Passes, by_decided, by_change}
use Rattle.rules.proofs.SoundKept.{sound_kept}
use Rattle.rules.proofs.MemoryWords.{memory}
use Rattle.rules.proofs.Unaltered.{refusals_keep, tells_only}
use Rattle.demands.proofs.RunLaws.{kept_holes, follows_from_calls, never_unsound}
use Rattle.demands.proofs.Tiling.{span, spans, range, parts, filled_fills, filled_apart, filled_tiles, fills_inside, no_eight_between, no_eight_before, no_eight_behind}
use Rattle.demands.proofs.HeldKept.{Settled, start_settled, ends_settled}

pub held_tile : HeldTile
held_tile asks f t = filled_tiles (ends asks start) (ends_settled asks start f t start_settled).filled

-- ---- a held block's free

-- the blocks of a run are held on a sound heap
held_sound : (asks : List Ask) (k : Block) → AllFit asks → Memᴰ k (ends asks start).held
    → Sound (ends asks start).heap (ends asks start).holes
held_sound asks k f m =
    ⊎_elim
    (λ (e : ends asks start ≡ start). absurd (mathlib.Core.List.Memᴰ.not-nil (rw e at m)))
    (λ (s : Sound (ends asks start).heap (ends asks start).holes). s)
    (never_unsound asks f).0

module _ (b : Box) (settled : Settled b) (sound : Sound b.heap b.holes) (k : Block) (m : Memᴰ k b.held) where
  -- the span is one of the parts that fill the heap, and each of them has 16 bytes or more
  mine : Memᴰ (span k) (parts b)
  mine = mathlib.Core.List.Memᴰ.append_right b.holes (mathlib.Core.List.Memᴰ.map span m)

  big : (j : Hole) → Memᴰ j (parts b) → min_size ≤ j.size
  big j t =
      ⊎_elim
      (λ (d : Memᴰ j b.holes). (sound.1.each j d).sixteen)
      (λ (d : Memᴰ j (spans b.held)). let s = mathlib.Core.List.Memᴰ.of_map span b.held d in rw (← s.2) (rounded_least s.0.size))
      (mathlib.Core.List.Memᴰ.append_cases b.holes t)

  within : (b.heap.bottom.0 ≤ k.addr.0) × (k.addr.0 + rounded k.size ≤ b.heap.top.0)
  within =
      let r = rounded_least k.size in
      let all = fills_inside (range b.heap) (parts b) (filled_fills b settled.filled) (span k) mine in
      let low = all k.addr.0 (omega arith) in
      let high = all (k.addr.0 + rounded k.size - 1) (omega arith) in
      omega arith

  no_overlap : (j : Hole) → Memᴰ j b.holes → k.addr.0 < end_of j → j.addr.0 < k.addr.0 + rounded k.size → ⊥
  no_overlap j d u v =
      let r = rounded_least k.size in
      let s = (sound.1.each j d).sixteen in
      by_le j.addr.0 k.addr.0
      (λ l. filled_apart b settled.filled k.addr.0 (j, d, omega arith) (span k, mathlib.Core.List.Memᴰ.map span m, omega arith))
      (λ l. filled_apart b settled.filled j.addr.0 (j, d, omega arith) (span k, mathlib.Core.List.Memᴰ.map span m, omega arith))

  -- so nothing stands against its free
  may_be_freed : NoSpan b.heap b.holes k.addr.0 (rounded k.size) k.align → ⊥
  may_be_freed (inl n) = n (settled.each k m).eight
  may_be_freed (inr (inl n)) = n (settled.each k m).multiple
  may_be_freed (inr (inr (inl l))) = omega (arith, within)
  may_be_freed (inr (inr (inr (inl l)))) = omega (arith, within)
  may_be_freed (inr (inr (inr (inr (inl (j, d, u, v)))))) = no_overlap j d u v
  may_be_freed (inr (inr (inr (inr (inr (inl (j, d, inl e))))))) =
      no_eight_between (range b.heap) (parts b) (filled_fills b settled.filled) big (span k) j mine
      (mathlib.Core.List.Memᴰ.append_left (spans b.held) d)
      e
  may_be_freed (inr (inr (inr (inr (inr (inl (j, d, inr e))))))) =
      no_eight_between (range b.heap) (parts b) (filled_fills b settled.filled) big j (span k)
      (mathlib.Core.List.Memᴰ.append_left (spans b.held) d)
      mine
      e
  may_be_freed (inr (inr (inr (inr (inr (inr (inl e))))))) =
      no_eight_before (range b.heap) (parts b) (filled_fills b settled.filled) big (span k) mine e
  may_be_freed (inr (inr (inr (inr (inr (inr (inr e))))))) =
      no_eight_behind (range b.heap) (parts b) (filled_fills b settled.filled) big (span k) mine (omega (arith, within))

  is_freed : comes_to (free k.addr k.size k.align) b.heap.len b ≡ given (rounded k.size) k.addr b.heap b.holes
  unfolding unless accepted
  is_freed =
      let h = b.heap in
      sound_decided (free k.addr k.size k.align) h.len h b.holes refl refl sound
      ∙ rw (
        valid_passes k.size k.align (rounded k.size) (settled.each k m).valid,
        means_fails (no_span k.addr (rounded k.size) h b.holes k.align) may_be_freed,
      )

pub held_is_freed : HeldIsFreed
unfolding given
held_is_freed asks k f t m =
    let settled = ends_settled asks start f t start_settled in
    (_, _, rounded k.size, rounded_rounds k.size, is_freed (ends asks start) settled (held_sound asks k f m) k m)

-- ---- its bytes

-- an opened heap keeps its base
abbrev Based : Heap → Outcome → Type 0
Based h (refused r) = Unit {0}
Based h (told a ks) = Unit {0}
Based h (done a h' ks) = h'.base ≡ h.base

module _ (h : Heap) (ks : List Hole) where
  accepted_based : (c : Call) (len : ℕ) → (h.bottom.0 ≡ 0 → ⊥) → Passes (tests c len h ks) → Based h (accepted c len h ks)
  unfolding tests accepted
  accepted_based (opening base named) len n p =
      absurd (n (eqb-true h.bottom.0 0 (not-false (same h.bottom (addr 0)) (or_parts _ _ p.0).0)))
  accepted_based (change c) len n p = by_change (Based h) h ks (λ r e. tt) (λ a h' js e p. e) c len
  accepted_based (report r) len n p = tt

  decided_based : (c : Call) (len : ℕ) → (h.bottom.0 ≡ 0 → ⊥) → Based h (decided c len h ks)
  decided_based c len n = by_decided (Based h) c len h ks (λ r. tt) (accepted_based c len n)

-- a call writes heads only, and where holes and held blocks tile the heap no head lies in a held block
module _ (c : Call) (h : Heap) (w : List ℕ) (b : Box) (fit : Fits c) (opened : h.bottom.0 ≡ 0 → ⊥) (y : ℕ) where
  untouched : (o : Outcome) → outcome c h w ≡ o → Tiles (box_after c b o) → Occupied (box_after c b o).held y
      → get_or (after c h w).arena (y - h.base.0) 0 ≡ get_or w (y - h.base.0) 0
  unfolding box_after outcome
  untouched (refused r) e t v = rw (refusals_keep c h w (record { addrs = []; sizes = [] }) r e).2
  untouched (told a ks) e t v = rw (tells_only c h w a ks e).2
  untouched (done a h' ks) e t v =
      let base : h'.base ≡ h.base = rw e at (decided_based h (holes h w) c (length w) opened) in
      let s = (sound_kept c h w a h' ks fit e).0 in
      let low = t.inside y (inr v) in
      (memory c h w a h' ks fit e).4 (y - h.base.0)
      (λ k m i.
      let j = s.1.each k m in
      t.apart y (k, m, omega (arith, s.0.bottom.above, ap (λ (x : Addr). x.0) base)) v)

-- ---- one more call

ends_one : (asks : List Ask) (a : Ask) (b : Box) → ends (asks ++ (a ∷ [])) b ≡ next_box a (ends asks b)
unfolding ends
ends_one [] a b = refl
ends_one (x ∷ asks) a b = ends_one asks a (next_box x b)

fit_one : (asks : List Ask) (c : Call) (r : Rows) (n : ℕ) → AllFit asks → Fits c → AllFit (asks ++ (calls c r n ∷ []))
fit_one [] c r n f g = (g, tt)
fit_one (calls d q i ∷ asks) c r n f g = (f.0, fit_one asks c r n f.1 g)
fit_one (reads x ∷ asks) c r n f g = fit_one asks c r n f g

pub held_untouched : HeldUntouched
unfolding outcome next_box
held_untouched asks m ts h w m' c rows f g run kept t y (k, before, r, q, v) later =
    let n = length w in
    let b = ends asks start in
    let follows = follows_from_calls asks m ts h m' f run in
    let heap = follows.1 in
    let list = kept_holes h m' w kept ∙ follows.2 in
    let e : outcome c h w ≡ comes_to c n b = cc in
    let last = ends_one asks (calls c rows n) start in
    let tiles = held_tile (asks ++ (calls c rows n ∷ [])) (fit_one asks c rows n f g) t in
    let s = held_sound asks k f before in
    let opened : h.bottom.0 ≡ 0 → ⊥ =
    λ z. omega (arith, ap (λ (x : Heap). x.bottom.0) heap, s.0.base, s.0.bottom.above) in
    untouched c h w b g opened y (comes_to c n b) e (rw last at tiles) (rw last at later)
